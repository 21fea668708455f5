-- Steps of an initialiser, in the forms that they are made of, from where the table has grown from the one before it.
--     Ready program function start s  what is known of a place of the text
--     Started .. holds step           what the step gives meets the fact, in a program that has what is noted at the end
--     gives_started, then_started, ..
--     IsRightValue, value_started     the value of an expression meets all facts of expressions
use Rattle.std.proofs.Common.{◌≡◌, Bool, true, false, Result, Ok, Err, refl, sym, subst, ◌∙◌, if◌then◌else◌}
use Rattle.std.specs.List.{AllByRecursion}
use Rattle.hs_base.specs.Entries.{all_appended, all_so}
use Rattle.hs_expressions.specs.Binding.{BindsName}
use Rattle.hs_expressions.specs.Binding.Keeping as binding
use Rattle.hs_expressions.specs.Binding.Keeping.{IsNoted, KnowsBound, Giving, IsBound}
use Rattle.hs_expressions.specs.Binding.Typing as binds
use Rattle.hs_expressions.specs.Expressions.{typed}
use Rattle.hs_expressions.specs.Laws.{IsConstant, IsScoped, IsKnown, Knows}
use Rattle.hs_expressions.specs.Laws.Always.{Reaching, Always}
use Rattle.hs_expressions.specs.Laws.Keeping as typing
use Rattle.hs_expressions.specs.Laws.Reached.{IsAllowedAt, Reaches, scoped_after}
use Rattle.hs_expressions.specs.Laws.Typing as types
use Rattle.hs_expressions.specs.Operations.{value_of}
use Rattle.hs_fitting.specs.ConstantNumbers.{HasWideKinds}
use Rattle.hs_fitting.specs.Wide.{value_wide}
use Rattle.hs_fitting.specs.WideSteps as wide
use Rattle.hs_operands.specs.Laws.{IsTyped}
use Rattle.hs_syntax.specs.Trees.{Expression}
use Rattle.hs_tree.specs.Trees.{RightValue, TypedFunction, TypedProgram}
use Rattle.hs_typer.specs.Steps.{Step, then_with, ◌>>=◌, give, refuse, kept, look, of_types}
use Rattle.hs_typer.specs.declared.type_error.TypeError.{TypeError}
use Rattle.hs_typer.specs.declared.typer.Entity.{Entity}
use Rattle.hs_typer.specs.declared.typer.Entity.TheVariants as entity
use Rattle.hs_typer.specs.declared.typer.Typer.{Typer}
use Rattle.hs_types.specs.Growing.{grows_then}
use Rattle.hs_types.specs.TypeTables.{TypeTable, IsRight, Grows}

-- what is known where a step begins
pub record Ready (program : TypedProgram) (function : TypedFunction) (start : TypeTable) (s : Typer) : Type 0 where
  pub scoped : IsScoped s
  pub counts : s.counts ≡ true
  pub known : Knows program function s
  pub bound : KnowsBound program function program.types s
  pub grows : Grows start s.types

-- what the step gives meets the fact
pub record Started {A : Type 0} (program : TypedProgram) (function : TypedFunction) (start : TypeTable) (holds : A → Type 0) (step : Step A) : Type 0 where
  pub gives : (s : Typer) → Ready program function start s → Giving program function program.types s holds (step s)

-- what a value has: well typed, bound, and computed in promoted kinds
abbrev pub IsRightValue : TypedProgram → TypedFunction → RightValue → Type 0
IsRightValue program function e = IsTyped program function e × IsBound program function e × HasWideKinds e

module _ (program : TypedProgram) (function : TypedFunction) where
  -- constants are no variables, and bound to nothing
  constant_known : (it : Entity) → IsConstant it → IsKnown program function it × BindsName program function program.types it
  constant_known (entity.Constant bits) is = (tt, tt)
  constant_known (entity.Variable variable id) is = absurd is
  constant_known (entity.Function id its) is = absurd is
  constant_known (entity.Typedef id) is = (tt, tt)

  -- after a step
  ready_after : (start : TypeTable) (old new : Typer) → Reaches IsConstant old new → Ready program function start old
      → Ready program function start new
  ready_after start old new reached ready =
      record {
        scoped = scoped_after IsConstant old new reached ready.scoped;
        counts = reached.counts ∙ ready.counts;
        known = subst (λ its. AllByRecursion (λ it. IsKnown program function it.entity) its.declarations) (sym reached.names.2)
            (all_appended (λ it. IsKnown program function it.entity) reached.names.0 old.names.declarations
            (all_so (IsAllowedAt IsConstant old.names.level) (λ it. IsKnown program function it.entity)
            (λ it holds. (constant_known it.entity holds.1).0) reached.names.0 reached.names.1) ready.known);
        bound = subst (λ its. AllByRecursion (λ it. BindsName program function program.types it.entity) its.declarations) (sym reached.names.2)
            (all_appended (λ it. BindsName program function program.types it.entity) reached.names.0 old.names.declarations
            (all_so (IsAllowedAt IsConstant old.names.level) (λ it. BindsName program function program.types it.entity)
            (λ it holds. (constant_known it.entity holds.1).1) reached.names.0 reached.names.1) ready.bound);
        grows = grows_then start old.types new.types ready.grows reached.types;
      }

  -- the next step, which has what the first one gives
  settled : {A B : Type 0} → (start : TypeTable) (holds : A → Type 0) (holds' : B → Type 0) (next : A → Step B) (s : Typer)
      (p : A × Typer) (given : Result (B × Typer) TypeError) → next p.0 p.1 ≡ given → Ready program function start p.1 → Reaches IsConstant s p.1
      → Reaching IsConstant p.1 given → (IsNoted program function program.types s p.1 → holds p.0)
      → ((it : A) → holds it → Started program function start holds' (next it)) → Giving program function program.types s holds' given
  settled start holds holds' next s p (Ok q) same ready reached further before after =
      λ noted.
      subst (Giving program function program.types p.1 holds') same
      ((after p.0 (before (binding.noted_first program function program.types IsConstant s p.1 q.1 further noted))).gives p.1 ready)
      (binding.noted_second program function program.types IsConstant s p.1 q.1 reached noted)
  settled start holds holds' next s p (Err why) same ready reached further before after = tt

  then_gives : {A B : Type 0} → (start : TypeTable) (holds : A → Type 0) (holds' : B → Type 0) (next : A → Step B) (s : Typer)
      (given : Result (A × Typer) TypeError) → Ready program function start s → Reaching IsConstant s given
      → Giving program function program.types s holds given → ((it : A) → Always IsConstant (next it))
      → ((it : A) → holds it → Started program function start holds' (next it))
      → Giving program function program.types s holds' (then_with next given)
  then_gives start holds holds' next s (Ok p) ready reached before always after =
      let ready' : Ready program function start p.1 = ready_after start s p.1 reached ready in
      settled start holds holds' next s p (next p.0 p.1) refl ready' reached ((always p.0).from p.1 ready'.scoped) before after
  then_gives start holds holds' next s (Err why) ready reached before always after = tt

  kept_gives : {A : Type 0} → (holds : A → Type 0) (s : Typer) (given : Result A TypeError)
      → (Grows s.types program.types → (it : A) → given ≡ Ok it → holds it) → Giving program function program.types s holds (kept s given)
  kept_gives holds s (Ok it) is = λ noted. is noted.types it refl
  kept_gives holds s (Err why) is = tt

  -- a fact that follows
  so_gives : {A : Type 0} → (s : Typer) (holds holds' : A → Type 0) → ((it : A) → holds it → holds' it) → (given : Result (A × Typer) TypeError)
      → Giving program function program.types s holds given → Giving program function program.types s holds' given
  so_gives s holds holds' so (Ok p) is = λ noted. so p.0 (is noted)
  so_gives s holds holds' so (Err why) is = tt

  -- all facts of a value
  all_gives : (s : Typer) (given : Result (RightValue × Typer) TypeError) → typing.Giving program (IsTyped program function) given
      → Giving program function program.types s (IsBound program function) given → wide.Giving HasWideKinds given
      → Giving program function program.types s (IsRightValue program function) given
  all_gives s (Ok p) types bound wide = λ noted. (types noted.types noted.literals, bound noted, wide)
  all_gives s (Err why) types bound wide = tt

module _ {program : TypedProgram} {function : TypedFunction} {start : TypeTable} where
  -- what is given at once, and nothing
  pub gives_started : {A : Type 0} → {holds : A → Type 0} → (it : A) → holds it → Started program function start holds (give it)
  gives_started it is = record { gives = λ s ready noted. is }

  pub refuses_started : {A : Type 0} → {holds : A → Type 0} → (why : TypeError) → Started program function start holds (refuse why)
  refuses_started why = record { gives = λ s ready. tt }

  -- by the types
  pub looks_started : {A : Type 0} → {holds : A → Type 0} → (f : Typer → Result A TypeError)
      → ((s : Typer) → Grows start s.types → Grows s.types program.types → (it : A) → f s ≡ Ok it → holds it)
      → Started program function start holds (look f)
  looks_started {holds = holds} f is =
      record { gives = λ s ready. kept_gives program function holds s (f s) (λ after it given. is s ready.grows after it given) }

  pub of_types_started : {A : Type 0} → {holds : A → Type 0} → (f : TypeTable → Result A TypeError)
      → ((later : TypeTable) → Grows start later → Grows later program.types → (it : A) → f later ≡ Ok it → holds it)
      → Started program function start holds (of_types f)
  of_types_started {holds = holds} f is =
      record { gives = λ s ready. kept_gives program function holds s (f s.types) (λ after it given. is s.types ready.grows after it given) }

  -- one step after another
  pub then_started : {A B : Type 0} → {holds : A → Type 0} → {holds' : B → Type 0} → {first : Step A} → {next : A → Step B}
      → Always IsConstant first → Started program function start holds first → ((it : A) → Always IsConstant (next it))
      → ((it : A) → holds it → Started program function start holds' (next it)) → Started program function start holds' (first >>= next)
  then_started {holds = holds} {holds' = holds'} {first = first} {next = next} reaches before always after =
      record {
        gives = λ s ready. then_gives program function start holds holds' next s (first s) ready (reaches.from s ready.scoped) (before.gives s ready)
            always after;
      }

  -- a fact that follows
  pub so_started : {A : Type 0} → {holds holds' : A → Type 0} → {step : Step A} → ((it : A) → holds it → holds' it)
      → Started program function start holds step → Started program function start holds' step
  so_started {holds = holds} {holds' = holds'} {step = step} so is =
      record { gives = λ s ready. so_gives program function s holds holds' so (step s) (is.gives s ready) }

  -- a test on what is known, which has one answer
  pub tested_started : {A : Type 0} → {holds : A → Type 0} → {here there : Step A} → (test : Typer → Bool) (b : Bool)
      → ((s : Typer) → Grows start s.types → test s ≡ b) → (b ≡ true → Started program function start holds here)
      → (b ≡ false → Started program function start holds there) → Started program function start holds (λ s. if test s then here s else there s)
  tested_started {holds = holds} {here = here} {there = there} test true same is is' =
      record {
        gives = λ s ready. subst (λ b. Giving program function program.types s holds (if b then here s else there s)) (sym (same s ready.grows))
            ((is refl).gives s ready);
      }
  tested_started {holds = holds} {here = here} {there = there} test false same is is' =
      record {
        gives = λ s ready. subst (λ b. Giving program function program.types s holds (if b then here s else there s)) (sym (same s ready.grows))
            ((is' refl).gives s ready);
      }

  -- the value of an expression
  pub value_started : IsRight program.types → (e : Expression) → Started program function start (IsRightValue program function) (value_of (typed e))
  value_started sound e =
      record {
        gives = λ s ready. all_gives program function s (value_of (typed e) s)
            ((typing.value_keeps sound (types.typed_keeps program function sound e)).gives s ready.scoped ready.counts ready.known)
            ((binding.value_keeps (binds.typed_keeps program function program.types e)).gives s ready.scoped ready.counts ready.bound)
            ((value_wide e).gives s);
      }
