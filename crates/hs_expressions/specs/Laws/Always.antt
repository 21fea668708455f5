-- Steps that extend what is known, in the forms that typing is made of.
--     Reaching allowed s given       what is known after the answer, if it is one, extends what was
--     Always allowed step            from every place of the text
--     gives_always, refuses_always, looks_always, of_types_always, on_types_always       one step
--     then_always, value_always, unevaluated_always, prototype_always    steps of others
use Rattle.std.proofs.Common.{◌≡◌, ◌≤◌, ℕ, suc, Bool, true, false, List, [], Result, Ok, Err, refl, sym, ap, ◌∙◌, if◌then◌else◌, arith}
use Rattle.std.specs.List.{AllByRecursion}
use Rattle.hs_base.specs.Entries.{all_so}
use Rattle.hs_expressions.specs.Expressions.{enter, ending, prototype}
use Rattle.hs_expressions.specs.Laws.{HasMore, IsTagAt, IsScoped}
use Rattle.hs_expressions.specs.Laws.Grown.{Growing, lifted_grows, loaded_grows}
use Rattle.hs_expressions.specs.Laws.Reached.{IsAllowedAt, Reaches, left_entered, reaches_self, reaches_then, reaches_types, scoped_after, reaches_wider}
use Rattle.hs_expressions.specs.Laws.Traced.{traced_left}
use Rattle.hs_expressions.specs.Operations.{value_of}
use Rattle.hs_typer.specs.Steps.{Step, then_with, ◌>>=◌, ◌>>◌, give, refuse, kept, with_types, look, of_types, on_types, lifted, restored, unevaluated}
use Rattle.hs_typer.specs.declared.type_error.TypeError.{TypeError}
use Rattle.hs_typer.specs.declared.typer.Entity.{Entity}
use Rattle.hs_typer.specs.declared.typer.Typer.{Typer}
use Rattle.hs_names.specs.Scopes.{Scoped, Declared, left}
use Rattle.hs_operands.specs.Objects.{loaded}
use Rattle.hs_operand_types.specs.Operands.{TypedOperand}
use Rattle.hs_types.specs.TypeTables.{TypeTable}

-- what is known after the answer
abbrev pub Reaching : {A : Type 0} → (Entity → Type 0) → Typer → Result (A × Typer) TypeError → Type 0
Reaching allowed s (Ok p) = Reaches allowed s p.1
Reaching allowed s (Err why) = Unit {0}

-- from every place of the text
pub record Always {A : Type 0} (allowed : Entity → Type 0) (step : Step A) : Type 0 where
  pub from : (s : Typer) → IsScoped s → Reaching allowed s (step s)

-- any sort of declaration
abbrev pub Anything : Entity → Type 0
Anything it = Unit {0}

-- A scope that was entered has no declarations inside it.
pub deeper : {E : Type 0} → (level : ℕ) (its : List (Declared E)) → AllByRecursion (λ it. it.level ≤ level) its
    → AllByRecursion (λ it. it.level ≤ suc level) its
deeper level its are = all_so (λ it. it.level ≤ level) (λ it. it.level ≤ suc level) (λ it is. one it.level is) its are
  where
    one : (n : ℕ) → n ≤ level → n ≤ suc level
    one n is = omega (arith, is)

-- the place of the first parameter
abbrev inside : Typer → Typer
inside s = enter (record s { keeps = false })

scoped_inside : (s : Typer) → IsScoped s → IsScoped (inside s)
scoped_inside s scoped =
    record {
      names = deeper s.names.level s.names.declarations scoped.names;
      tags = deeper s.tags.level s.tags.declarations scoped.tags;
      closed = refl;
    }

-- What ends leaves the names and the tags as they were.
pub same_more : {E : Type 0} → (Holds : Declared E → Type 0) (old new : Scoped E) → new ≡ old → HasMore Holds old new
same_more Holds old new same = ([], tt, same)

module _ (allowed : Entity → Type 0) where
  -- what is reached from a place that was reached
  pub reaching_then : {A : Type 0} → (s mid : Typer) (given : Result (A × Typer) TypeError) → Reaches allowed s mid → Reaching allowed mid given
      → Reaching allowed s given
  reaching_then s mid (Ok p) before after = reaches_then allowed s mid p.1 before after
  reaching_then s mid (Err why) before after = tt

  -- nothing changes
  kept_reaches : {A : Type 0} → (s : Typer) (given : Result A TypeError) → Reaching allowed s (kept s given)
  kept_reaches s (Ok it) = reaches_self allowed s
  kept_reaches s (Err why) = tt

  -- the table grows
  types_reaches : {A : Type 0} → (s : Typer) (given : Result (A × TypeTable) TypeError) → Growing s.types given
      → Reaching allowed s (with_types s given)
  types_reaches s (Ok p) grows = reaches_types allowed s p.1 grows
  types_reaches s (Err why) grows = tt

  -- one step after another
  then_reaches : {A B : Type 0} → (next : A → Step B) (s : Typer) (given : Result (A × Typer) TypeError) → IsScoped s → Reaching allowed s given
      → ((it : A) → Always allowed (next it)) → Reaching allowed s (then_with next given)
  then_reaches next s (Ok p) scoped before after =
      reaching_then s p.1 (next p.0 p.1) before ((after p.0).from p.1 (scoped_after allowed s p.1 before scoped))
  then_reaches next s (Err why) scoped before after = tt

  -- what is not evaluated
  restored_reaches : {A : Type 0} → (s : Typer) (given : Result (A × Typer) TypeError) → Reaching allowed (record s { counts = false }) given
      → Reaching allowed s (restored s.counts given)
  restored_reaches s (Ok p) reached =
      record {
        types = reached.types;
        names = reached.names;
        tags = reached.tags;
        literals = reached.literals;
        taken = reached.taken;
        calls = reached.calls;
        table = reached.table;
        counts = refl;
        keeps = reached.keeps;
        unit = reached.unit;
        traced = reached.traced;
      }
  restored_reaches s (Err why) reached = tt

  -- what is known when a scope ends, as it is not kept
  ending_reaches : {A : Type 0} → (kept : Bool) (s : Typer) (given : Result (A × Typer) TypeError) → kept ≡ false → IsScoped s
      → Reaching Anything (inside s) given → Reaching allowed s (ending kept given)
  ending_reaches true s given ends scoped reached = absurd cc
  ending_reaches false s (Ok p) ends scoped reached =
      record {
        types = reached.types;
        names = same_more (IsAllowedAt allowed s.names.level) s.names (left p.1.names)
            (left_entered (IsAllowedAt Anything (suc s.names.level)) s.names p.1.names (λ it holds. holds.0) reached.names scoped.names);
        tags = same_more (IsTagAt s.tags.level) s.tags (left p.1.tags)
            (left_entered (IsTagAt (suc s.tags.level)) s.tags p.1.tags (λ it holds. holds) reached.tags scoped.tags);
        literals = reached.literals;
        taken = reached.taken;
        calls = reached.calls;
        table = reached.table;
        counts = reached.counts;
        keeps = reached.keeps ∙ sym scoped.closed;
        unit = reached.unit;
        traced = traced_left s (inside s) p.1 (left p.1.tags) refl refl refl
            (ap (λ its. its.declarations)
            (left_entered (IsTagAt (suc s.tags.level)) s.tags p.1.tags (λ it holds. holds) reached.tags scoped.tags)) reached.traced;
      }
  ending_reaches false s (Err why) ends scoped reached = tt

  -- where any sort of name may be declared
  wider_reaches : {A : Type 0} → (s : Typer) (given : Result (A × Typer) TypeError) → Reaching allowed s given → Reaching Anything s given
  wider_reaches s (Ok p) reached = reaches_wider allowed Anything (λ it is. tt) s p.1 reached
  wider_reaches s (Err why) reached = tt

module _ {allowed : Entity → Type 0} where
  -- a step that changes nothing
  pub gives_always : {A : Type 0} → (it : A) → Always allowed (give it)
  gives_always it = record { from = λ s scoped. reaches_self allowed s }

  pub refuses_always : {A : Type 0} → (why : TypeError) → Always {A = A} allowed (refuse why)
  refuses_always why = record { from = λ s scoped. tt }

  pub looks_always : {A : Type 0} → (f : Typer → Result A TypeError) → Always allowed (look f)
  looks_always f = record { from = λ s scoped. kept_reaches allowed s (f s) }

  pub of_types_always : {A : Type 0} → (f : TypeTable → Result A TypeError) → Always allowed (of_types f)
  of_types_always f = record { from = λ s scoped. kept_reaches allowed s (f s.types) }

  -- and one that changes the table alone
  pub on_types_always : {A : Type 0} → (f : TypeTable → Result (A × TypeTable) TypeError) → ((types : TypeTable) → Growing types (f types))
      → Always allowed (on_types f)
  on_types_always f grows = record { from = λ s scoped. types_reaches allowed s (f s.types) (grows s.types) }

  -- one step after another
  pub then_always : {A B : Type 0} → {first : Step A} → {next : A → Step B} → Always allowed first → ((it : A) → Always allowed (next it))
      → Always allowed (first >>= next)
  then_always {first = first} {next = next} before after =
      record { from = λ s scoped. then_reaches allowed next s (first s) scoped (before.from s scoped) after }

  -- and one that gives nothing before it
  pub and_always : {A B : Type 0} → {first : Step A} → {next : Step B} → Always allowed first → Always allowed next
      → Always allowed (first >> next)
  and_always before after = then_always before (λ it. after)

  -- both ways of a test
  pub either_always : {A : Type 0} → (b : Bool) → {here there : Step A} → Always allowed here → Always allowed there
      → Always allowed (if b then here else there)
  either_always true is is' = is
  either_always false is is' = is'

  -- the value of an operand
  pub value_always : {step : Step TypedOperand} → Always allowed step → Always allowed (value_of step)
  value_always is =
      then_always is
      (λ it. on_types_always (λ types. lifted (loaded types it)) (λ types. lifted_grows types (loaded types it) (loaded_grows types it)))

  -- what is not evaluated
  pub unevaluated_always : {A : Type 0} → {step : Step A} → Always allowed step → Always allowed (unevaluated step)
  unevaluated_always {step = step} is =
      record {
        from = λ s scoped. restored_reaches allowed s (step (record s { counts = false }))
            (is.from (record s { counts = false }) (record { names = scoped.names; tags = scoped.tags; closed = scoped.closed }));
      }

  -- a prototype, in which names of any sort may be declared
  pub prototype_always : {A : Type 0} → {step : Step A} → Always Anything step → Always allowed (prototype step)
  prototype_always {step = step} is =
      record {
        from = λ s scoped. ending_reaches allowed s.keeps s (step (inside s)) scoped.closed scoped (is.from (inside s) (scoped_inside s scoped));
      }

  -- where any sort of name may be declared
  pub wider_always : {A : Type 0} → {step : Step A} → Always allowed step → Always Anything step
  wider_always {step = step} is = record { from = λ s scoped. wider_reaches allowed s (step s) (is.from s scoped) }
