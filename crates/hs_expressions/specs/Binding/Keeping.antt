-- Steps whose answers are bound in a program that has what is noted at the end.
--     IsNoted program function final s new    what is noted from s to new is the program's; the table grows on to the final one
--     KnowsBound program function final s     the names mean what the program has
--     IsBoundIn program function final it     of an operand: a function that is called is bound, too
--     Keeps program function final holds step
use Rattle.std.proofs.Common.{◌≡◌, Bool, true, false, List, [], ◌∷◌, ◌++◌, Result, Ok, Err, refl, ap, sym, subst, ◌∙◌, if◌then◌else◌}
use Rattle.std.specs.List.{AllByRecursion}
use Rattle.std.proofs.lemmas.List.{append_assoc}
use Rattle.hs_base.specs.Entries.{all_appended, all_so}
use Rattle.hs_expressions.specs.Binding.{IsBoundNode, BindsAs, BindsName, IsNotedCall, IsNotedAddress}
use Rattle.hs_expressions.specs.Laws.{IsConstant, IsPrefix, IsScoped}
use Rattle.hs_expressions.specs.Laws.Always.{Reaching, Always, gives_always, looks_always, of_types_always, then_always, on_types_always}
use Rattle.hs_expressions.specs.Laws.Grown.{lifted_grows, loaded_grows}
use Rattle.hs_expressions.specs.Laws.Reached.{IsAllowedAt, Reaches, prefix_then, scoped_after}
use Rattle.hs_expressions.specs.Operations.{value_of}
use Rattle.hs_typer.specs.Steps.{Step, then_with, ◌>>=◌, give, kept, with_types, look, of_types, lifted}
use Rattle.hs_typer.specs.declared.type_error.TypeError.{TypeError}
use Rattle.hs_typer.specs.declared.typer.Entity.{Entity}
use Rattle.hs_typer.specs.declared.typer.Entity.TheVariants as entity
use Rattle.hs_typer.specs.declared.typer.RoutineCall.{RoutineCall}
use Rattle.hs_typer.specs.declared.typer.Taken.{Taken}
use Rattle.hs_typer.specs.declared.typer.Typer.{Typer}
use Rattle.hs_operands.specs.Laws.Kept.{IsPlain, loaded_kept}
use Rattle.hs_operands.specs.Laws.Made.{Makes}
use Rattle.hs_operands.specs.Objects.{loaded}
use Rattle.hs_operand_types.specs.Operands as operand
use Rattle.hs_operand_types.specs.Operands.{TypedOperand}
use Rattle.hs_operand_types.specs.declared.operand_end.OperandEnd.{OperandEnd}
use Rattle.hs_tree.specs.Inside.{Node, right, left, EachRight, EachLeft}
use Rattle.hs_tree.specs.Trees as tree
use Rattle.hs_tree.specs.Trees.{RightValue, LeftValue, TypedFunction, TypedProgram}
use Rattle.hs_types.specs.Growing.{grows_then}
use Rattle.hs_types.specs.TypeTables.{TypeTable, Grows}

-- What is noted before it may be of another function.
pub record IsNoted (program : TypedProgram) (function : TypedFunction) (final : TypeTable) (s new : Typer) : Type 0 where
  pub types : Grows new.types final
  pub literals : IsPrefix new.literals program.literals
  pub calls : (more : List RoutineCall) → new.calls ≡ s.calls ++ more → AllByRecursion (IsNotedCall program final) more
  pub taken : (more : List Taken) → new.taken ≡ s.taken ++ more → AllByRecursion (IsNotedAddress program function) more

-- the names mean variables, functions and routines of the program
abbrev pub KnowsBound : TypedProgram → TypedFunction → TypeTable → Typer → Type 0
KnowsBound program function final s = AllByRecursion (λ it. BindsName program function final it.entity) s.names.declarations

-- in a program that has what is noted then
abbrev pub Giving : {A : Type 0} → TypedProgram → TypedFunction → TypeTable → Typer → (A → Type 0) → Result (A × Typer) TypeError → Type 0
Giving program function final s holds (Ok p) = IsNoted program function final s p.1 → holds p.0
Giving program function final s holds (Err why) = Unit {0}

-- What is known is extended, and the answer meets the fact.
pub record Keeps {A : Type 0} (program : TypedProgram) (function : TypedFunction) (final : TypeTable) (holds : A → Type 0) (step : Step A) : Type 0 where
  pub always : Always IsConstant step
  pub gives : (s : Typer) → IsScoped s → s.counts ≡ true → KnowsBound program function final s → Giving program function final s holds (step s)

-- of the second of two lists
pub all_behind : {A : Type 0} → (holds : A → Type 0) (xs ys : List A) → AllByRecursion holds (xs ++ ys) → AllByRecursion holds ys
all_behind holds [] ys are = are
all_behind holds (x ∷ xs) ys are = all_behind holds xs ys are.1

-- of the first of two lists
pub all_before : {A : Type 0} → (holds : A → Type 0) (xs ys : List A) → AllByRecursion holds (xs ++ ys) → AllByRecursion holds xs
all_before holds [] ys are = tt
all_before holds (x ∷ xs) ys are = (are.0, all_before holds xs ys are.1)

-- an expression that operators make is bound to nothing
pub plain_bound : (program : TypedProgram) (function : TypedFunction) (node : Node) → IsPlain node → IsBoundNode program function node
plain_bound program function (right (tree.number head bits)) is = (tt, tt, tt, tt)
plain_bound program function (right (tree.nil head)) is = (tt, tt, tt, tt)
plain_bound program function (right (tree.load head object)) is = (tt, tt, tt, tt)
plain_bound program function (right (tree.decay head array)) is = (tt, tt, tt, tt)
plain_bound program function (right (tree.address head object)) is = absurd is
plain_bound program function (right (tree.cast head operand)) is = (tt, tt, tt, tt)
plain_bound program function (right (tree.convert_number head kind operand)) is = (tt, tt, tt, tt)
plain_bound program function (right (tree.convert_pointer head operand)) is = (tt, tt, tt, tt)
plain_bound program function (right (tree.unary head operator kind operand)) is = (tt, tt, tt, tt)
plain_bound program function (right (tree.not head operand)) is = (tt, tt, tt, tt)
plain_bound program function (right (tree.arithmetic head operator kind a b)) is = (tt, tt, tt, tt)
plain_bound program function (right (tree.comparison head operator kind a b)) is = (tt, tt, tt, tt)
plain_bound program function (right (tree.compare_pointers head operator a b)) is = (tt, tt, tt, tt)
plain_bound program function (right (tree.is_nil head equal pointer)) is = (tt, tt, tt, tt)
plain_bound program function (right (tree.step head stride pointer_first a b)) is = (tt, tt, tt, tt)
plain_bound program function (right (tree.difference head size a b)) is = (tt, tt, tt, tt)
plain_bound program function (right (tree.and head a b)) is = (tt, tt, tt, tt)
plain_bound program function (right (tree.or head a b)) is = (tt, tt, tt, tt)
plain_bound program function (right (tree.conditional head test taken otherwise)) is = (tt, tt, tt, tt)
plain_bound program function (right (tree.comma head lefts last)) is = (tt, tt, tt, tt)
plain_bound program function (right (tree.assign head into from)) is = (tt, tt, tt, tt)
plain_bound program function (right (tree.update head operator kind to into from)) is = (tt, tt, tt, tt)
plain_bound program function (right (tree.advance head stride into from)) is = (tt, tt, tt, tt)
plain_bound program function (right (tree.post_update head operator kind to into)) is = (tt, tt, tt, tt)
plain_bound program function (right (tree.post_advance head stride into)) is = (tt, tt, tt, tt)
plain_bound program function (right (tree.call head number routine arguments)) is = absurd is
plain_bound program function (right (tree.call_routine head routine arguments)) is = absurd is
plain_bound program function (left (tree.variable head variable)) is = absurd is
plain_bound program function (left (tree.literal head place)) is = absurd is
plain_bound program function (left (tree.target head pointer)) is = (tt, tt, tt, tt)
plain_bound program function (left (tree.element head size pointer_first a b)) is = (tt, tt, tt, tt)
plain_bound program function (left (tree.member head field offset object)) is = (tt, tt, tt, tt)
plain_bound program function (left (tree.arrow head field offset pointer)) is = (tt, tt, tt, tt)

module _ (program : TypedProgram) (function : TypedFunction) where
  -- of values and objects
  abbrev pub IsBound : RightValue → Type 0
  IsBound e = EachRight (IsBoundNode program function) e

  abbrev pub IsBoundObject : LeftValue → Type 0
  IsBoundObject it = EachLeft (IsBoundNode program function) it

  module _ (final : TypeTable) where
    -- of an operand
    abbrev pub IsBoundIn : TypedOperand → Type 0
    IsBoundIn (operand.value e) = IsBound e
    IsBoundIn (operand.object it) = IsBoundObject it
    IsBoundIn (operand.function it) = BindsAs program final it.head.type_id it.bound

    -- constants are bound to nothing
    constant_bound : (it : Entity) → IsConstant it → BindsName program function final it
    constant_bound (entity.Constant bits) is = tt
    constant_bound (entity.Variable variable id) is = absurd is
    constant_bound (entity.Function id bound) is = absurd is
    constant_bound (entity.Typedef id) is = tt

    knows_after : (old new : Typer) → Reaches IsConstant old new → KnowsBound program function final old → KnowsBound program function final new
    knows_after old new reached knows =
        subst (λ its. AllByRecursion (λ it. BindsName program function final it.entity) its.declarations) (sym reached.names.2)
        (all_appended (λ it. BindsName program function final it.entity) reached.names.0 old.names.declarations
        (all_so (IsAllowedAt IsConstant old.names.level) (λ it. BindsName program function final it.entity)
        (λ it holds. constant_bound it.entity holds.1) reached.names.0 reached.names.1) knows)

    -- what is noted of two lists, one after the other
    listed_first : {A : Type 0} → (holds : A → Type 0) (old mid new : List A) → IsPrefix mid new
        → ((more : List A) → new ≡ old ++ more → AllByRecursion holds more) → (more : List A) → mid ≡ old ++ more → AllByRecursion holds more
    listed_first holds old mid new after are more same =
        all_before holds more after.0 (are (more ++ after.0) (after.1 ∙ ap (λ its. its ++ after.0) same ∙ append_assoc old more after.0))

    listed_second : {A : Type 0} → (holds : A → Type 0) (old mid new : List A) → IsPrefix old mid
        → ((more : List A) → new ≡ old ++ more → AllByRecursion holds more) → (more : List A) → new ≡ mid ++ more → AllByRecursion holds more
    listed_second holds old mid new before are more same =
        all_behind holds before.0 more (are (before.0 ++ more) (same ∙ ap (λ its. its ++ more) before.1 ∙ append_assoc old before.0 more))

    -- what is noted by two steps is noted by each of them
    pub noted_first : (allowed : Entity → Type 0) (old mid new : Typer) → Reaches allowed mid new → IsNoted program function final old new
        → IsNoted program function final old mid
    noted_first allowed old mid new reached noted =
        record {
          types = grows_then mid.types new.types final reached.types noted.types;
          literals = prefix_then mid.literals new.literals program.literals reached.literals noted.literals;
          calls = listed_first (IsNotedCall program final) old.calls mid.calls new.calls reached.calls noted.calls;
          taken = listed_first (IsNotedAddress program function) old.taken mid.taken new.taken reached.taken noted.taken;
        }

    pub noted_second : (allowed : Entity → Type 0) (old mid new : Typer) → Reaches allowed old mid → IsNoted program function final old new
        → IsNoted program function final mid new
    noted_second allowed old mid new reached noted =
        record {
          types = noted.types;
          literals = noted.literals;
          calls = listed_second (IsNotedCall program final) old.calls mid.calls new.calls reached.calls noted.calls;
          taken = listed_second (IsNotedAddress program function) old.taken mid.taken new.taken reached.taken noted.taken;
        }

    settled : {B : Type 0} → (first : Type 0) (holds : B → Type 0) (s mid : Typer) (given : Result (B × Typer) TypeError)
        → Reaches IsConstant s mid → Reaching IsConstant mid given → Giving program function final mid (λ it. first → holds it) given
        → (IsNoted program function final s mid → first) → Giving program function final s holds given
    settled first holds s mid (Ok q) reached further given before =
        λ noted. given (noted_second IsConstant s mid q.1 reached noted) (before (noted_first IsConstant s mid q.1 further noted))
    settled first holds s mid (Err why) reached further given before = tt

    then_gives : {A B : Type 0} → (holds : A → Type 0) (holds' : B → Type 0) (next : A → Step B) (s : Typer) (given : Result (A × Typer) TypeError)
        → IsScoped s → s.counts ≡ true → KnowsBound program function final s → Reaching IsConstant s given
        → Giving program function final s holds given → ((it : A) → Keeps program function final (λ made. holds it → holds' made) (next it))
        → Giving program function final s holds' (then_with next given)
    then_gives holds holds' next s (Ok p) scoped counts knows reached before after =
        let scoped' : IsScoped p.1 = scoped_after IsConstant s p.1 reached scoped in
        settled (holds p.0) holds' s p.1 (next p.0 p.1) reached ((after p.0).always.from p.1 scoped')
        ((after p.0).gives p.1 scoped' (reached.counts ∙ counts) (knows_after s p.1 reached knows)) before
    then_gives holds holds' next s (Err why) scoped counts knows reached before after = tt

    kept_gives : {A : Type 0} → (holds : A → Type 0) (s : Typer) (given : Result A TypeError)
        → (Grows s.types final → (it : A) → given ≡ Ok it → holds it) → Giving program function final s holds (kept s given)
    kept_gives holds s (Ok it) is = λ noted. is noted.types it refl
    kept_gives holds s (Err why) is = tt

    -- a fact that follows
    so_gives : {A : Type 0} → (holds holds' : A → Type 0) → ((it : A) → holds it → holds' it) → (s : Typer) (given : Result (A × Typer) TypeError)
        → Giving program function final s holds given → Giving program function final s holds' given
    so_gives holds holds' so s (Ok p) is = λ noted. so p.0 (is noted)
    so_gives holds holds' so s (Err why) is = tt

    nothing_gives : {A : Type 0} → (s : Typer) (given : Result (A × Typer) TypeError) → Giving program function final s (λ it. Unit {0}) given
    nothing_gives s (Ok p) = λ noted. tt
    nothing_gives s (Err why) = tt

    -- the value of an operand
    loaded_bound : (types : TypeTable) (it : TypedOperand) → IsBoundIn it → Makes (λ p. IsBound p.0) (loaded types it)
    loaded_bound types (operand.value e) is = loaded_kept (IsBoundNode program function) (plain_bound program function) types (operand.value e) is
    loaded_bound types (operand.object it) is = loaded_kept (IsBoundNode program function) (plain_bound program function) types (operand.object it) is
    loaded_bound types (operand.function it) is = loaded_kept (IsBoundNode program function) (plain_bound program function) types (operand.function it) tt

    loaded_gives : (s : Typer) (it : TypedOperand) (given : Result (RightValue × TypeTable) OperandEnd) → loaded s.types it ≡ given
        → Giving program function final s (λ made. IsBoundIn it → IsBound made) (with_types s (lifted given))
    loaded_gives s it (Ok p) same = λ noted is. loaded_bound s.types it is p same
    loaded_gives s it (Err why) same = tt

module _ {program : TypedProgram} {function : TypedFunction} {final : TypeTable} where
  -- what is given at once
  pub gives_keeps : {A : Type 0} → {holds : A → Type 0} → (it : A) → holds it → Keeps program function final holds (give it)
  gives_keeps it is = record { always = gives_always it; gives = λ s scoped counts knows noted. is }

  -- by what the names mean
  pub looks_keeps : {A : Type 0} → {holds : A → Type 0} → (f : Typer → Result A TypeError)
      → ((s : Typer) → KnowsBound program function final s → (it : A) → f s ≡ Ok it → holds it) → Keeps program function final holds (look f)
  looks_keeps {holds = holds} f is =
      record {
        always = looks_always f;
        gives = λ s scoped counts knows. kept_gives program function final holds s (f s) (λ grows it given. is s knows it given);
      }

  -- by the types
  pub of_types_keeps : {A : Type 0} → {holds : A → Type 0} → (f : TypeTable → Result A TypeError)
      → ((types : TypeTable) → Grows types final → (it : A) → f types ≡ Ok it → holds it) → Keeps program function final holds (of_types f)
  of_types_keeps {holds = holds} f is =
      record {
        always = of_types_always f;
        gives = λ s scoped counts knows. kept_gives program function final holds s (f s.types) (λ grows it given. is s.types grows it given);
      }

  -- one step after another
  pub then_keeps : {A B : Type 0} → {holds : A → Type 0} → {holds' : B → Type 0} → {first : Step A} → {next : A → Step B}
      → Keeps program function final holds first → ((it : A) → Keeps program function final (λ made. holds it → holds' made) (next it))
      → Keeps program function final holds' (first >>= next)
  then_keeps {holds = holds} {holds' = holds'} {first = first} {next = next} before after =
      record {
        always = then_always before.always (λ it. (after it).always);
        gives = λ s scoped counts knows. then_gives program function final holds holds' next s (first s) scoped counts knows
            (before.always.from s scoped) (before.gives s scoped counts knows) after;
      }

  -- a fact that follows
  pub so_keeps : {A : Type 0} → {holds holds' : A → Type 0} → {step : Step A} → ((it : A) → holds it → holds' it)
      → Keeps program function final holds step → Keeps program function final holds' step
  so_keeps {holds = holds} {holds' = holds'} {step = step} so is =
      record {
        always = is.always;
        gives = λ s scoped counts knows. so_gives program function final holds holds' so s (step s) (is.gives s scoped counts knows);
      }

  -- what is no part of the tree
  pub nothing_keeps : {A : Type 0} → {step : Step A} → Always IsConstant step → Keeps program function final (λ it. Unit {0}) step
  nothing_keeps {step = step} is =
      record { always = is; gives = λ s scoped counts knows. nothing_gives program function final s (step s) }

  -- both ways of a test
  pub either_keeps : {A : Type 0} → {holds : A → Type 0} → (b : Bool) → {here there : Step A} → Keeps program function final holds here
      → Keeps program function final holds there → Keeps program function final holds (if b then here else there)
  either_keeps true is is' = is
  either_keeps false is is' = is'

  -- the value of an operand
  pub value_keeps : {step : Step TypedOperand} → Keeps program function final (IsBoundIn program function final) step
      → Keeps program function final (IsBound program function) (value_of step)
  value_keeps is =
      then_keeps is
      (λ it.
      record {
        always = on_types_always (λ types. lifted (loaded types it)) (λ types. lifted_grows types (loaded types it) (loaded_grows types it));
        gives = λ s scoped counts knows. loaded_gives program function final s it (loaded s.types it) refl;
      })
