-- What typing notes of calls, in the forms that typing is made of.
--     gives_notes, looks_notes, of_types_notes, on_types_notes, ..     one step
--     values_notes, objects_notes                                      one that makes a value or an object
--     then_notes, after_notes, and_notes                               one step after another, with what the first one gives or without
--     value_notes, unevaluated_notes, prototype_notes                  steps of others
use Rattle.std.proofs.Common.{ℕ, Bool, true, false, Result, Ok, Err, if◌then◌else◌}
use Rattle.hs_expressions.specs.Expressions.{prototype}
use Rattle.hs_expressions.specs.Laws.{IsConstant}
use Rattle.hs_expressions.specs.Laws.Always.{Always, Anything, gives_always, refuses_always, looks_always, of_types_always, on_types_always, then_always, unevaluated_always, prototype_always, wider_always}
use Rattle.hs_expressions.specs.Laws.Grown.{Growing, lifted_grows, loaded_grows}
use Rattle.hs_expressions.specs.Operations.{as_value, as_object, value_of}
use Rattle.hs_fitting.specs.Noting.{Met, NamesAllow, IsOperandOf, Notes, inside, same_noted, kept_noting, types_noting, then_noting, restored_noting, ending_noting}
use Rattle.hs_fitting.specs.Rightness.{Righting, lifted_rights, loaded_rights}
use Rattle.hs_operands.specs.Objects.{loaded}
use Rattle.hs_operand_types.specs.Operands.{TypedOperand}
use Rattle.hs_operand_types.specs.declared.operand_end.OperandEnd.{OperandEnd}
use Rattle.hs_tree.specs.Trees.{RightValue, LeftValue}
use Rattle.hs_typer.specs.Steps.{Step, ◌>>=◌, ◌>>◌, give, refuse, look, of_types, on_types, lifted, unevaluated}
use Rattle.hs_typer.specs.declared.type_error.TypeError.{TypeError}
use Rattle.hs_typer.specs.declared.typer.Entity.{Entity}
use Rattle.hs_typer.specs.declared.typer.Typer.{Typer}
use Rattle.hs_types.specs.TypeTables.{TypeTable}
use Rattle.hs_types.specs.declared.row.TypeId.{TypeId}

-- nothing is asked of an answer
any_met : {A : Type 0} → (given : Result A TypeError) → Met (λ it. Unit {0}) given
any_met (Ok it) = tt
any_met (Err why) = tt

-- values name no routine
pub value_met : (Q : ℕ → TypeId → Type 0) (given : Result RightValue OperandEnd) → Met (IsOperandOf Q) (as_value given)
value_met Q (Ok it) = tt
value_met Q (Err why) = tt

-- objects
pub object_met : (Q : ℕ → TypeId → Type 0) (given : Result LeftValue OperandEnd) → Met (IsOperandOf Q) (as_object given)
object_met Q (Ok it) = tt
object_met Q (Err why) = tt

module _ {Q : ℕ → TypeId → Type 0} {final : TypeTable} {allowed : Entity → Type 0} where
  -- a step that changes nothing
  pub gives_notes : {A : Type 0} → (it : A) → Notes Q final allowed (λ it. Unit {0}) (give it)
  gives_notes it = record { always = gives_always it; gives = λ s names. same_noted Q final (λ it. Unit {0}) s it names tt }

  -- a refusal
  pub refuses_notes : {A : Type 0} → {holds : A → Type 0} → (why : TypeError) → Notes Q final allowed holds (refuse why)
  refuses_notes why = record { always = refuses_always why; gives = λ s names. tt }

  -- what is looked up
  pub looks_notes : {A : Type 0} → (f : Typer → Result A TypeError) → Notes Q final allowed (λ it. Unit {0}) (look f)
  looks_notes f =
      record {
        always = looks_always f;
        gives = λ s names. kept_noting Q final (λ it. Unit {0}) s (f s) names (any_met (f s));
      }

  -- by the types alone
  pub of_types_notes : {A : Type 0} → (f : TypeTable → Result A TypeError) → Notes Q final allowed (λ it. Unit {0}) (of_types f)
  of_types_notes f =
      record {
        always = of_types_always f;
        gives = λ s names. kept_noting Q final (λ it. Unit {0}) s (f s.types) names (any_met (f s.types));
      }

  -- which give what has a fact
  pub looks_met : {A : Type 0} → {holds : A → Type 0} → (f : Typer → Result A TypeError) → ((s : Typer) → NamesAllow Q s → Met holds (f s))
      → Notes Q final allowed holds (look f)
  looks_met {holds = holds} f met =
      record { always = looks_always f; gives = λ s names. kept_noting Q final holds s (f s) names (met s names) }

  -- by the types alone
  pub of_types_met : {A : Type 0} → {holds : A → Type 0} → (f : TypeTable → Result A TypeError) → ((types : TypeTable) → Met holds (f types))
      → Notes Q final allowed holds (of_types f)
  of_types_met {holds = holds} f met =
      record { always = of_types_always f; gives = λ s names. kept_noting Q final holds s (f s.types) names (met s.types) }

  -- a value
  pub values_notes : (f : TypeTable → Result RightValue OperandEnd) → Notes Q final allowed (IsOperandOf Q) (of_types (λ types. as_value (f types)))
  values_notes f = of_types_met (λ types. as_value (f types)) (λ types. value_met Q (f types))

  -- and an object
  pub objects_notes : (f : TypeTable → Result LeftValue OperandEnd) → Notes Q final allowed (IsOperandOf Q) (of_types (λ types. as_object (f types)))
  objects_notes f = of_types_met (λ types. as_object (f types)) (λ types. object_met Q (f types))

  -- a step that changes the table alone, which grows and stays right
  pub on_types_notes : {A : Type 0} → (f : TypeTable → Result (A × TypeTable) TypeError) → ((types : TypeTable) → Growing types (f types))
      → ((types : TypeTable) → Righting types (f types)) → Notes Q final allowed (λ it. Unit {0}) (on_types f)
  on_types_notes f grows rights =
      record {
        always = on_types_always f grows;
        gives = λ s names. types_noting Q final s (f s.types) (grows s.types) (rights s.types) names;
      }

  -- one step after another, by what the first one gives
  pub then_notes : {A B : Type 0} → {holds : A → Type 0} → {holds' : B → Type 0} → {first : Step A} → {next : A → Step B}
      → Notes Q final allowed holds first → ((it : A) → Always allowed (next it))
      → ((it : A) → holds it → Notes Q final allowed holds' (next it)) → Notes Q final allowed holds' (first >>= next)
  then_notes {holds = holds} {holds' = holds'} {first = first} {next = next} before always after =
      record {
        always = then_always before.always always;
        gives = λ s names. then_noting Q final holds holds' next s (first s) (before.gives s names)
            (λ it is mid names. (after it is).gives mid names);
      }

  -- whatever it gives
  pub after_notes : {A B : Type 0} → {holds : A → Type 0} → {holds' : B → Type 0} → {first : Step A} → {next : A → Step B}
      → Notes Q final allowed holds first → ((it : A) → Notes Q final allowed holds' (next it)) → Notes Q final allowed holds' (first >>= next)
  after_notes before after = then_notes before (λ it. (after it).always) (λ it is. after it)

  -- and one that gives nothing before it
  pub and_notes : {A B : Type 0} → {holds : A → Type 0} → {holds' : B → Type 0} → {first : Step A} → {next : Step B}
      → Notes Q final allowed holds first → Notes Q final allowed holds' next → Notes Q final allowed holds' (first >> next)
  and_notes before after = after_notes before (λ it. after)

  -- both ways of a test
  pub either_notes : {A : Type 0} → {holds : A → Type 0} → (b : Bool) → {here there : Step A} → Notes Q final allowed holds here
      → Notes Q final allowed holds there → Notes Q final allowed holds (if b then here else there)
  either_notes true is is' = is
  either_notes false is is' = is'

  -- the value of an operand
  pub value_notes : {holds : TypedOperand → Type 0} → {step : Step TypedOperand} → Notes Q final allowed holds step
      → Notes Q final allowed (λ it. Unit {0}) (value_of step)
  value_notes is =
      after_notes is
      (λ it. on_types_notes (λ types. lifted (loaded types it)) (λ types. lifted_grows types (loaded types it) (loaded_grows types it))
      (λ types. lifted_rights types (loaded types it) (loaded_rights types it)))

  -- what is not evaluated
  pub unevaluated_notes : {A : Type 0} → {holds : A → Type 0} → {step : Step A} → Notes Q final allowed holds step
      → Notes Q final allowed holds (unevaluated step)
  unevaluated_notes {holds = holds} {step = step} is =
      record {
        always = unevaluated_always is.always;
        gives = λ s names. restored_noting Q final holds s (step (record s { counts = false }))
            (is.gives (record s { counts = false }) names);
      }

module _ {Q : ℕ → TypeId → Type 0} {final : TypeTable} where
  -- a prototype, in which names of any sort may be declared
  pub prototype_notes : {A : Type 0} → {holds : A → Type 0} → {step : Step A} → Notes Q final Anything holds step
      → Notes Q final IsConstant holds (prototype step)
  prototype_notes {holds = holds} {step = step} is =
      record {
        always = prototype_always is.always;
        gives = λ s names. ending_noting Q final holds s.keeps s (step (inside s)) (is.gives (inside s) names);
      }

  -- where any sort of name may be declared
  pub wider_notes : {A : Type 0} → {holds : A → Type 0} → {step : Step A} → Notes Q final IsConstant holds step
      → Notes Q final Anything holds step
  wider_notes is = record { always = wider_always is.always; gives = is.gives }
