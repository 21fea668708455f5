-- Steps of typing whose answers compute in promoted kinds, from every place of the text.
--     IsWideOperand it                of an operand
--     Gives holds step                what the step gives meets the fact, whatever is known before it
--     looks_gives, then_gives, ..     in the forms that typing is made of
use Rattle.std.proofs.Common.{ℕ, Bool, true, false, List, length, Option, Some, None, Result, Ok, Err, refl, if◌then◌else◌}
use Rattle.hs_base.specs.Tests.{whichever}
use Rattle.hs_expressions.specs.Operations.{value_of, as_value, as_object, bound_call, routine_call, call_operand}
use Rattle.hs_expressions.specs.Roles.{fits_role}
use Rattle.hs_fitting.specs.ConstantNumbers.{HasWideKinds}
use Rattle.hs_fitting.specs.WideOperators.{MakesWide}
use Rattle.hs_operands.specs.Assignments.{called}
use Rattle.hs_operands.specs.Objects.{loaded_as, loaded}
use Rattle.hs_operand_types.specs.Operands as operand
use Rattle.hs_operand_types.specs.Operands.{TypedOperand}
use Rattle.hs_operand_types.specs.declared.operand.Bound.{Bound}
use Rattle.hs_operand_types.specs.declared.operand.Bound.TheVariants as bound
use Rattle.hs_operand_types.specs.declared.operand.Designator.{Designator}
use Rattle.hs_operand_types.specs.declared.operand_end.OperandEnd.{OperandEnd}
use Rattle.hs_operand_types.specs.declared.operand_end.OperandEnd.TheVariants.{Untyped}
use Rattle.hs_syntax.specs.declared.word.Word.{Word}
use Rattle.hs_tokens.specs.declared.place.Place.{Place}
use Rattle.hs_operand_types.specs.Types.{is_accessible}
use Rattle.hs_tree.specs.Kinds.{element}
use Rattle.hs_tree.specs.Trees as tree
use Rattle.hs_tree.specs.Trees.{RightValue, LeftValue, type_of_left, head_of_left}
use Rattle.hs_typer.specs.Primaries.{named_as, number_of, number_as, character_as, character_of, string_in, string_as}
use Rattle.hs_typer.specs.Steps.{Step, then_with, ◌>>=◌, kept, with_types, look, of_types, lifted}
use Rattle.hs_typer.specs.declared.type_error.TypeError.{TypeError}
use Rattle.hs_typer.specs.declared.typer.Entity.{Entity}
use Rattle.hs_typer.specs.declared.typer.Entity.TheVariants as entity
use Rattle.hs_typer.specs.declared.typer.Typer.{Typer}
use Rattle.hs_types.specs.Rows.{integer_id}
use Rattle.hs_types.specs.TypeTables.{TypeTable, arrayed}
use Rattle.hs_types.specs.declared.integer.Integer.TheVariants as kind
use Rattle.hs_types.specs.declared.row.TypeId.{TypeId}
use Rattle.hs_types.specs.declared.types.TypeEnd.{TypeEnd}

-- of an operand
abbrev pub IsWideOperand : TypedOperand → Type 0
IsWideOperand (operand.value e) = HasWideKinds e
IsWideOperand (operand.object it) = Unit {0}
IsWideOperand (operand.function it) = Unit {0}

-- an answer meets the fact
abbrev pub Answers : {A : Type 0} → (A → Type 0) → Result A TypeError → Type 0
Answers holds (Ok it) = holds it
Answers holds (Err why) = Unit {0}

-- and so does what a step gives
abbrev pub Giving : {A : Type 0} → (A → Type 0) → Result (A × Typer) TypeError → Type 0
Giving holds (Ok p) = holds p.0
Giving holds (Err why) = Unit {0}

-- from every place of the text
pub record Gives {A : Type 0} (holds : A → Type 0) (step : Step A) : Type 0 where
  pub gives : (s : Typer) → Giving holds (step s)

-- ---- steps

kept_gives : {A : Type 0} → (holds : A → Type 0) (s : Typer) (given : Result A TypeError) → Answers holds given → Giving holds (kept s given)
kept_gives holds s (Ok it) is = is
kept_gives holds s (Err why) is = tt

pub looks_gives : {A : Type 0} → {holds : A → Type 0} → (f : Typer → Result A TypeError) → ((s : Typer) → Answers holds (f s)) → Gives holds (look f)
looks_gives {holds = holds} f is = record { gives = λ s. kept_gives holds s (f s) (is s) }

pub of_types_gives : {A : Type 0} → {holds : A → Type 0} → (f : TypeTable → Result A TypeError) → ((types : TypeTable) → Answers holds (f types))
    → Gives holds (of_types f)
of_types_gives {holds = holds} f is = record { gives = λ s. kept_gives holds s (f s.types) (is s.types) }

with_gives : {A B : Type 0} → (holds : A → Type 0) (holds' : B → Type 0) (next : A → Step B) (given : Result (A × Typer) TypeError)
    → Giving holds given → ((it : A) → holds it → Gives holds' (next it)) → Giving holds' (then_with next given)
with_gives holds holds' next (Ok p) is after = (after p.0 is).gives p.1
with_gives holds holds' next (Err why) is after = tt

pub then_gives : {A B : Type 0} → {holds : A → Type 0} → {holds' : B → Type 0} → {first : Step A} → {next : A → Step B} → Gives holds first
    → ((it : A) → holds it → Gives holds' (next it)) → Gives holds' (first >>= next)
then_gives {holds = holds} {holds' = holds'} {first = first} {next = next} before after =
    record { gives = λ s. with_gives holds holds' next (first s) (before.gives s) after }

-- whatever the first one gives
any_giving : {A : Type 0} → (given : Result (A × Typer) TypeError) → Giving (λ it. Unit {0}) given
any_giving (Ok p) = tt
any_giving (Err why) = tt

pub any_gives : {A : Type 0} → (step : Step A) → Gives (λ it. Unit {0}) step
any_gives step = record { gives = λ s. any_giving (step s) }

pub either_gives : {A : Type 0} → {holds : A → Type 0} → (b : Bool) → {here there : Step A} → Gives holds here → Gives holds there
    → Gives holds (if b then here else there)
either_gives true is is' = is
either_gives false is is' = is'

-- ---- answers

pub value_given : (given : Result RightValue OperandEnd) → MakesWide given → Answers IsWideOperand (as_value given)
value_given (Ok e) makes = makes e refl
value_given (Err why) makes = tt

pub object_given : (given : Result LeftValue OperandEnd) → Answers IsWideOperand (as_object given)
object_given (Ok it) = tt
object_given (Err why) = tt

-- the value of an operand
loaded_as_wide : (s : Typer) (it : LeftValue) (o : Option TypeId) → Giving HasWideKinds (with_types s (lifted (loaded_as s.types it o)))
loaded_as_wide s it (Some of) = tt
loaded_as_wide s it None = by (is_accessible s.types (type_of_left it))
  where
    by : (b : Bool)
        → Giving HasWideKinds (with_types s (lifted (if b then Ok (tree.load (head_of_left it) it, s.types) else Err (Untyped (head_of_left it).at))))
    by true = tt
    by false = tt

loaded_wide : (s : Typer) (it : TypedOperand) → IsWideOperand it → Giving HasWideKinds (with_types s (lifted (loaded s.types it)))
loaded_wide s (operand.value e) is = is
loaded_wide s (operand.object it) is = loaded_as_wide s it (element s.types (type_of_left it))
loaded_wide s (operand.function it) is = tt

pub value_gives : {step : Step TypedOperand} → Gives IsWideOperand step → Gives HasWideKinds (value_of step)
value_gives is = then_gives is (λ it wide. record { gives = λ s. loaded_wide s it wide })

-- names, constants and strings
pub named_wide : (word : Word) (o : Option Entity) → Answers IsWideOperand (named_as word o)
named_wide word None = tt
named_wide word (Some (entity.Constant bits)) = tt
named_wide word (Some (entity.Variable variable id)) = tt
named_wide word (Some (entity.Function id its)) = tt
named_wide word (Some (entity.Typedef id)) = tt

pub number_wide : (word : Word) → Answers IsWideOperand (number_of word)
number_wide word = by _
  where
    by : (o : _) → Answers IsWideOperand (number_as word.place o)
    by None = tt
    by (Some it) = tt

pub character_wide : (word : Word) → Answers IsWideOperand (character_of word)
character_wide word = by _
  where
    by : (o : Option ℕ) → Answers IsWideOperand (character_as word.place o)
    by None = tt
    by (Some bits) = tt

string_in_wide : (s : Typer) (at : Place) (bytes : List ℕ) (given : Result (TypeId × TypeTable) TypeEnd)
    → Giving IsWideOperand (string_in s at bytes given)
string_in_wide s at bytes (Ok p) = tt
string_in_wide s at bytes (Err why) = tt

pub string_wide : (at : Place) (o : Option (List ℕ)) → Gives IsWideOperand (string_as at o)
string_wide at None = record { gives = λ s. tt }
string_wide at (Some bytes) =
    record { gives = λ s. string_in_wide s at bytes (arrayed (integer_id kind.Char) (length bytes) s.types) }

-- calls
routine_wide : (it : Designator) (number : ℕ) (its : TypeId × List RightValue) (s : Typer) → Giving IsWideOperand (routine_call it number its s)
routine_wide it number its s = whichever (Giving IsWideOperand) (fits_role s.types s.table number it.head.type_id) tt tt

bound_wide : (its : Bound) (it : Designator) (p : TypeId × List RightValue) (s : Typer) → Giving IsWideOperand (bound_call its it p s)
bound_wide (bound.Function number) it p s = tt
bound_wide (bound.Routine number) it p s = routine_wide it number p s
bound_wide bound.Nothing it p s = tt

pub call_wide : (it : TypedOperand) (its : List RightValue) → Gives IsWideOperand (call_operand it its)
call_wide (operand.value e) its = record { gives = λ s. tt }
call_wide (operand.object it) its = record { gives = λ s. tt }
call_wide (operand.function it) its =
    then_gives (any_gives (of_types (λ types. lifted (called types it.head.at it.head.type_id its))))
    (λ p any. record { gives = λ s. whichever (Giving IsWideOperand) s.counts (bound_wide it.bound it p s) tt })
