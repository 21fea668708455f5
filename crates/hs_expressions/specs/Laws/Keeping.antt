-- Steps whose answers are well typed in every program that has what is known after them.
--     Giving program holds given              the answer, if it is one, meets the fact in the whole program
--     Keeps program function holds step       so it is from every place of the text where what is typed counts
--     gives_keeps, looks_keeps, of_types_keeps       one step
--     then_keeps, value_keeps, either_keeps          steps of others
--     so_keeps, nothing_keeps                        a weaker fact, and none
use Rattle.std.proofs.Common.{◌≡◌, Bool, true, false, Result, Ok, Err, refl, sym, subst, ◌∙◌, if◌then◌else◌}
use Rattle.std.specs.List.{AllByRecursion}
use Rattle.hs_base.specs.Entries.{all_appended, all_so}
use Rattle.hs_expressions.specs.Laws.{IsConstant, IsPrefix, IsScoped, IsKnown, Knows}
use Rattle.hs_expressions.specs.Laws.Always.{Reaching, Always, gives_always, looks_always, of_types_always, then_always, on_types_always}
use Rattle.hs_expressions.specs.Laws.Grown.{Growing, lifted_grows, loaded_grows}
use Rattle.hs_expressions.specs.Laws.Reached.{IsAllowedAt, Reaches, prefix_then, scoped_after}
use Rattle.hs_expressions.specs.Operations.{value_of}
use Rattle.hs_typer.specs.Steps.{Step, then_with, ◌>>=◌, give, kept, with_types, look, of_types, lifted}
use Rattle.hs_typer.specs.declared.type_error.TypeError.{TypeError}
use Rattle.hs_typer.specs.declared.typer.Entity.{Entity}
use Rattle.hs_typer.specs.declared.typer.Entity.TheVariants as entity
use Rattle.hs_typer.specs.declared.typer.Typer.{Typer}
use Rattle.hs_operands.specs.Laws.{IsTyped, IsTypedOperand}
use Rattle.hs_operands.specs.Laws.Typed.{operators_typed}
use Rattle.hs_operands.specs.Objects.{loaded}
use Rattle.hs_operand_types.specs.Operands.{TypedOperand}
use Rattle.hs_operand_types.specs.declared.operand_end.OperandEnd.{OperandEnd}
use Rattle.hs_tree.specs.Trees.{RightValue, TypedFunction, TypedProgram}
use Rattle.hs_types.specs.Growing.{grows_then}
use Rattle.hs_types.specs.TypeTables.{TypeTable, IsRight, Grows}

-- in a program that has the types and the strings that are known then
abbrev pub Giving : {A : Type 0} → TypedProgram → (A → Type 0) → Result (A × Typer) TypeError → Type 0
Giving program holds (Ok p) = Grows p.1.types program.types → IsPrefix p.1.literals program.literals → holds p.0
Giving program holds (Err why) = Unit {0}

-- What is known is extended, and the answer meets the fact.
pub record Keeps {A : Type 0} (program : TypedProgram) (function : TypedFunction) (holds : A → Type 0) (step : Step A) : Type 0 where
  pub always : Always IsConstant step
  pub gives : (s : Typer) → IsScoped s → s.counts ≡ true → Knows program function s → Giving program holds (step s)

module _ (program : TypedProgram) (function : TypedFunction) where
  -- constants are no variables
  constant_known : (it : Entity) → IsConstant it → IsKnown program function it
  constant_known (entity.Constant bits) is = tt
  constant_known (entity.Variable variable id) is = absurd is
  constant_known (entity.Function id bound) is = tt
  constant_known (entity.Typedef id) is = tt

  -- so the names of objects still mean variables of the program
  knows_after : (old new : Typer) → Reaches IsConstant old new → Knows program function old → Knows program function new
  knows_after old new reached knows =
      subst (λ its. AllByRecursion (λ it. IsKnown program function it.entity) its.declarations) (sym reached.names.2)
      (all_appended (λ it. IsKnown program function it.entity) reached.names.0 old.names.declarations
      (all_so (IsAllowedAt IsConstant old.names.level) (λ it. IsKnown program function it.entity) (λ it holds. constant_known it.entity holds.1)
      reached.names.0 reached.names.1) knows)

  -- what is known of the whole program when the next step is done was known when the first was
  settled : {B : Type 0} → (first : Type 0) (holds : B → Type 0) (mid : Typer) (given : Result (B × Typer) TypeError)
      → Reaching IsConstant mid given → Giving program (λ it. first → holds it) given
      → (Grows mid.types program.types → IsPrefix mid.literals program.literals → first) → Giving program holds given
  settled first holds mid (Ok q) reached given before =
      λ grows more.
      given grows more
      (before (grows_then mid.types q.1.types program.types reached.types grows)
      (prefix_then mid.literals q.1.literals program.literals reached.literals more))
  settled first holds mid (Err why) reached given before = tt

  then_gives : {A B : Type 0} → (holds : A → Type 0) (holds' : B → Type 0) (next : A → Step B) (s : Typer) (given : Result (A × Typer) TypeError)
      → IsScoped s → s.counts ≡ true → Knows program function s → Reaching IsConstant s given → Giving program holds given
      → ((it : A) → Keeps program function (λ made. holds it → holds' made) (next it)) → Giving program holds' (then_with next given)
  then_gives holds holds' next s (Ok p) scoped counts knows reached before after =
      let scoped' : IsScoped p.1 = scoped_after IsConstant s p.1 reached scoped in
      settled (holds p.0) holds' p.1 (next p.0 p.1) ((after p.0).always.from p.1 scoped')
      ((after p.0).gives p.1 scoped' (reached.counts ∙ counts) (knows_after s p.1 reached knows)) before
  then_gives holds holds' next s (Err why) scoped counts knows reached before after = tt

  kept_gives : {A : Type 0} → (holds : A → Type 0) (s : Typer) (given : Result A TypeError)
      → (Grows s.types program.types → (it : A) → given ≡ Ok it → holds it) → Giving program holds (kept s given)
  kept_gives holds s (Ok it) is = λ grows more. is grows it refl
  kept_gives holds s (Err why) is = tt

  -- a fact that follows
  so_gives : {A : Type 0} → (holds holds' : A → Type 0) → ((it : A) → holds it → holds' it) → (given : Result (A × Typer) TypeError)
      → Giving program holds given → Giving program holds' given
  so_gives holds holds' so (Ok p) is = λ grows more. so p.0 (is grows more)
  so_gives holds holds' so (Err why) is = tt

  nothing_gives : {A : Type 0} → (given : Result (A × Typer) TypeError) → Giving program (λ it. Unit {0}) given
  nothing_gives (Ok p) = λ grows more. tt
  nothing_gives (Err why) = tt

  -- the value of an operand
  loaded_gives : IsRight program.types → (s : Typer) (it : TypedOperand) (given : Result (RightValue × TypeTable) OperandEnd)
      → loaded s.types it ≡ given
      → Giving program (λ made. IsTypedOperand program function it → IsTyped program function made) (with_types s (lifted given))
  loaded_gives sound s it (Ok p) same =
      λ grows more is.
      (operators_typed program function s.types sound
      (grows_then s.types p.1 program.types (subst (Growing s.types) same (loaded_grows s.types it)).0 grows)).loaded
      it p.0 p.1 is same grows
  loaded_gives sound s it (Err why) same = tt

module _ {program : TypedProgram} {function : TypedFunction} where
  -- what is given at once
  pub gives_keeps : {A : Type 0} → {holds : A → Type 0} → (it : A) → holds it → Keeps program function holds (give it)
  gives_keeps it is = record { always = gives_always it; gives = λ s scoped counts knows grows more. is }

  -- by what the names mean
  pub looks_keeps : {A : Type 0} → {holds : A → Type 0} → (f : Typer → Result A TypeError)
      → ((s : Typer) → Knows program function s → (it : A) → f s ≡ Ok it → holds it) → Keeps program function holds (look f)
  looks_keeps {holds = holds} f is =
      record {
        always = looks_always f;
        gives = λ s scoped counts knows. kept_gives program function holds s (f s) (λ grows it given. is s knows it given);
      }

  -- by the types
  pub of_types_keeps : {A : Type 0} → {holds : A → Type 0} → (f : TypeTable → Result A TypeError)
      → ((types : TypeTable) → Grows types program.types → (it : A) → f types ≡ Ok it → holds it) → Keeps program function holds (of_types f)
  of_types_keeps {holds = holds} f is =
      record {
        always = of_types_always f;
        gives = λ s scoped counts knows. kept_gives program function holds s (f s.types) (λ grows it given. is s.types grows it given);
      }

  -- One step after another. What the first gives meets its fact in the whole program, as the table grows on.
  pub then_keeps : {A B : Type 0} → {holds : A → Type 0} → {holds' : B → Type 0} → {first : Step A} → {next : A → Step B}
      → Keeps program function holds first → ((it : A) → Keeps program function (λ made. holds it → holds' made) (next it))
      → Keeps program function holds' (first >>= next)
  then_keeps {holds = holds} {holds' = holds'} {first = first} {next = next} before after =
      record {
        always = then_always before.always (λ it. (after it).always);
        gives = λ s scoped counts knows. then_gives program function holds holds' next s (first s) scoped counts knows (before.always.from s scoped)
            (before.gives s scoped counts knows) after;
      }

  -- a fact that follows
  pub so_keeps : {A : Type 0} → {holds holds' : A → Type 0} → {step : Step A} → ((it : A) → holds it → holds' it)
      → Keeps program function holds step → Keeps program function holds' step
  so_keeps {holds = holds} {holds' = holds'} {step = step} so is =
      record {
        always = is.always;
        gives = λ s scoped counts knows. so_gives program function holds holds' so (step s) (is.gives s scoped counts knows);
      }

  -- what is no part of the tree
  pub nothing_keeps : {A : Type 0} → {step : Step A} → Always IsConstant step → Keeps program function (λ it. Unit {0}) step
  nothing_keeps {step = step} is = record { always = is; gives = λ s scoped counts knows. nothing_gives program function (step s) }

  -- both ways of a test
  pub either_keeps : {A : Type 0} → {holds : A → Type 0} → (b : Bool) → {here there : Step A} → Keeps program function holds here
      → Keeps program function holds there → Keeps program function holds (if b then here else there)
  either_keeps true is is' = is
  either_keeps false is is' = is'

  -- the value of an operand
  pub value_keeps : {step : Step TypedOperand} → IsRight program.types → Keeps program function (IsTypedOperand program function) step
      → Keeps program function (IsTyped program function) (value_of step)
  value_keeps sound is =
      then_keeps is
      (λ it.
      record {
        always = on_types_always (λ types. lifted (loaded types it)) (λ types. lifted_grows types (loaded types it) (loaded_grows types it));
        gives = λ s scoped counts knows. loaded_gives program function sound s it (loaded s.types it) refl;
      })
