-- The code of an expression performs its evaluation (own): same value, same state, same stop at the same place, and no more turns.
--     FitsCall program node          a call has as many arguments as its function or routine has parameters
--     CountOf list values            a value for each argument
--     value_turns, address_turns     the law: of an expression, and of the address of the object that an lvalue designates
use Rattle.std.proofs.Common.{◌≡◌, ℕ, zero, suc, pos, Bool, true, false, List, [], ◌∷◌, slice_get, Option, Some, None, refl, sym, ◌∙◌}
use Rattle.hs_code.specs.declared.function_code.FunctionCode.{FunctionCode}
use Rattle.hs_code.specs.declared.op.Binary.TheVariants as binary
use Rattle.hs_code.specs.declared.op.Object.TheVariants as object
use Rattle.hs_code.specs.declared.op.Op.{Op}
use Rattle.hs_code.specs.declared.op.Op.TheVariants as op
use Rattle.hs_code.specs.declared.op.Unary.TheVariants as unary
use Rattle.hs_code_run.specs.Codes.{CodeFunction, CodeProgram, Waiting}
use Rattle.hs_code_run.specs.Steps.{routine_arguments}
use Rattle.hs_heap.specs.declared.cell.Pointer.TheVariants.{Nil, Fixed}
use Rattle.hs_lowering.specs.Laws.Branches.{chosen_turns, answered_turns, conjoined_turns}
use Rattle.hs_lowering.specs.Laws.Calls.{onto, AreAsMany, Calls, decided_turns, bound_turns, routine_turns}
use Rattle.hs_lowering.specs.Lowering.{Lowered, only, sequence, on_one, on_two, answered, numbers_changed, decided_code, bound_code, right_code, address_code, all_code, dropped_code}
use Rattle.hs_lowering.specs.Laws.Objects.{HasAddress, Changes, changed_same, num_turns, drop_turns, read_turns, written_turns, updated_turns, stepped_turns}
use Rattle.hs_lowering.specs.Laws.Operations.{Turning, RunsOne, RunsTwo, acts_stays, perform_stays, op_gives, one_turns, two_turns}
use Rattle.hs_lowering.specs.Performing.{Any, IsAt, Stays, same_turns, operand_turns, sequence_turns, only_turns, thens_same, operands_same, same_behind}
use Rattle.hs_lowering.specs.Laws.Variables.{KeepsVariables, same_variables}
use Rattle.hs_meaning.specs.Evaluation as meaning
use Rattle.hs_meaning.specs.Evaluation.{Flow, Job, call_of, Location, in_slot, at_address, located, variable_at, address_of, written, decided_by, bound_to, returned_value, value_of, addressed, values_of, each_of}
use Rattle.hs_meaning.specs.Machine.{Machine, Binding, slot, object_at, binding_of}
use Rattle.hs_meaning.specs.Objects.{object_of_base}
use Rattle.hs_meaning.specs.Operations as operation
use Rattle.hs_meaning.specs.Operations.{Operation}
use Rattle.hs_meaning.specs.Settings.{access_of}
use Rattle.hs_meaning.specs.Steps.{State, Ran, went, over, Step, ◌>>=◌, ◌>>◌, then_with, give, acts, perform, operands}
use Rattle.hs_meaning.specs.Values.{Value, number, pointer}
use Rattle.hs_tree.specs.Inside.{Node, right, EachRight, EachLeft, EachOf}
use Rattle.hs_tree.specs.Trees as tree
use Rattle.hs_tree.specs.Trees.{RightValue, LeftValue, RightValues}
use Rattle.hs_tree.specs.declared.constant.Base.TheVariants as base
use Rattle.hs_tree.specs.declared.head.Head.{Head}
use Rattle.hs_tree.specs.declared.head.Variable.{Variable}
use Rattle.hs_tree.specs.declared.head.VariableDecl.{VariableDecl}
use Rattle.hs_tree.specs.declared.operators.Stride.{Stride}

-- ---- calls

-- so many arguments
abbrev pub HasAsMany : ℕ → RightValues → Type 0
HasAsMany zero tree.no_values = Unit {0}
HasAsMany zero (tree.more_values e rest) = ⊥
HasAsMany (suc count) tree.no_values = ⊥
HasAsMany (suc count) (tree.more_values e rest) = HasAsMany count rest

-- the function is there and has as many parameters
abbrev pub FitsFunction : Option CodeFunction → RightValues → Type 0
FitsFunction None arguments = ⊥
FitsFunction (Some function) arguments = HasAsMany function.parameters arguments

-- the routine is declared with as many
abbrev pub FitsRoutine : Option ℕ → RightValues → Type 0
FitsRoutine None arguments = ⊥
FitsRoutine (Some count) arguments = HasAsMany count arguments

-- of one expression
abbrev pub FitsCall : CodeProgram → Node → Type 0
FitsCall program (right (tree.call head place routine arguments)) = FitsFunction (slice_get program.functions place) arguments
FitsCall program (right (tree.call_routine head place arguments)) =
    FitsRoutine (routine_arguments (slice_get program.setting.routines place)) arguments
FitsCall program _ = Unit {0}

-- a value for each
abbrev pub CountOf : RightValues → List Value → Type 0
CountOf tree.no_values [] = Unit {0}
CountOf tree.no_values (value ∷ values) = ⊥
CountOf (tree.more_values e rest) [] = ⊥
CountOf (tree.more_values e rest) (value ∷ values) = CountOf rest values

as_many_values : (count : ℕ) (arguments : RightValues) (values : List Value) → HasAsMany count arguments → CountOf arguments values → AreAsMany count values
as_many_values zero tree.no_values [] has are = tt
as_many_values zero tree.no_values (value ∷ values) has are = absurd are
as_many_values zero (tree.more_values e rest) values has are = absurd has
as_many_values (suc count) tree.no_values values has are = absurd has
as_many_values (suc count) (tree.more_values e rest) [] has are = absurd are
as_many_values (suc count) (tree.more_values e rest) (value ∷ values) has are = as_many_values count rest values has are

-- ---- addresses of variables

located_keeps : (name : Variable) (binding : Option Binding) (machine : Machine) → KeepsVariables machine (located name binding machine)
located_keeps name None machine = tt
located_keeps name (Some (slot value)) machine = same_variables machine
located_keeps name (Some (object_at place)) machine = same_variables machine

address_keeps : (its : Location) (machine : Machine) → KeepsVariables machine (address_of its machine)
address_keeps (in_slot name) machine = tt
address_keeps (at_address its) machine = same_variables machine

module _ (program : CodeProgram) (variables : List VariableDecl) (bound : ℕ) (code : FunctionCode) (waiting : List Waiting) (choices : List Bool)
    (piece : ℕ) (again : Job → Step Flow) where
  -- a step that the code performs
  abbrev Turning' : Lowered → {A : Type 0} → (A → Type 0) → Step A → List Value → (A → List Value) → Type 0
  Turning' its fact first stack left = Turning program variables bound code waiting choices piece its fact first stack left

  -- the variables stay as declared
  abbrev Staying : {A : Type 0} → Ran A → Type 0
  Staying r = Stays program variables bound code waiting choices Any r

  stays_then : {A B : Type 0} → (f : A → Step B) → ((a : A) (t : State) → IsAt program variables bound t → Staying (f a t)) → (r : Ran A) → Staying r
      → Staying (then_with f r)
  stays_then f each (went a t) is = each a t is.1
  stays_then f each (over outcome t) is = tt

  -- ---- operations that change nothing but the machine

  -- on one operand
  pub on_one_turns : (head : Head) (its : Op) (act : Operation) → Rattle.hs_lowering.specs.Laws.Variables.is_set act ≡ false
      → RunsOne program variables bound code waiting choices piece head.at.pos its (λ a. perform program.setting head.at.pos act (a ∷ []))
      → (X : Lowered) (first : Step Value) (before below : List Value) → Turning' X Any first before (λ v. v ∷ below)
      → Turning' (on_one piece head its X) Any (first >>= (λ a. perform program.setting head.at.pos act (a ∷ []))) before (λ v. v ∷ below)
  on_one_turns head its act other runs X first before below turns =
      one_turns program variables bound code waiting choices piece head its (λ a. perform program.setting head.at.pos act (a ∷ [])) runs
      (λ a s is. perform_stays program variables bound code waiting choices piece head.at.pos act (a ∷ []) other s is) X first before below turns

  -- on two
  pub on_two_turns : (head : Head) (its : Op) (act : Operation) → Rattle.hs_lowering.specs.Laws.Variables.is_set act ≡ false
      → RunsTwo program variables bound code waiting choices piece head.at.pos its (λ a b. perform program.setting head.at.pos act (a ∷ b ∷ []))
      → (X Y : Lowered) (first second : Step Value) (stack : List Value) → Turning' X Any first stack (λ v. v ∷ stack)
      → ((a : Value) → Turning' Y Any second (a ∷ stack) (λ b. b ∷ a ∷ stack))
      → Turning' (on_two piece head its X Y) Any (meaning.on_two program.setting again head act first second) stack (λ v. v ∷ stack)
  on_two_turns head its act other runs X Y first second stack turns others =
      same_turns program variables bound code waiting choices
      (λ s is. operands_same first second (λ both. perform program.setting head.at.pos act (both.0 ∷ both.1 ∷ [])) s)
      (two_turns program variables bound code waiting choices piece head its (λ a b. perform program.setting head.at.pos act (a ∷ b ∷ [])) runs
      (λ a b s is. perform_stays program variables bound code waiting choices piece head.at.pos act (a ∷ b ∷ []) other s is) X Y first (λ a. second)
      stack stack turns others)

  -- an operation on numbers, and a conversion
  numbers_change : (head : Head) (its to : Op) (act into : Operation) → Rattle.hs_lowering.specs.Laws.Variables.is_set act ≡ false
      → Rattle.hs_lowering.specs.Laws.Variables.is_set into ≡ false
      → RunsTwo program variables bound code waiting choices piece head.at.pos its (λ a b. perform program.setting head.at.pos act (a ∷ b ∷ []))
      → RunsOne program variables bound code waiting choices piece head.at.pos to (λ a. perform program.setting head.at.pos into (a ∷ []))
      → Changes program variables bound code waiting choices piece head (numbers_changed piece head its to)
      (λ a b. perform program.setting head.at.pos act (a ∷ b ∷ []) >>= (λ sum. perform program.setting head.at.pos into (sum ∷ [])))
  numbers_change head its to act into other also runs converts =
      record {
        go = λ X Y first second before below turns others.
            same_turns program variables bound code waiting choices
            (λ s is. changed_same first second (λ a b. perform program.setting head.at.pos act (a ∷ b ∷ []))
            (λ sum. perform program.setting head.at.pos into (sum ∷ []))
            (λ a b. perform program.setting head.at.pos act (a ∷ b ∷ []) >>= (λ sum. perform program.setting head.at.pos into (sum ∷ [])))
            (λ a b t. refl) s)
            (on_one_turns head to into also converts (on_two piece head its X Y)
            (first >>= (λ a. second a >>= (λ b. perform program.setting head.at.pos act (a ∷ b ∷ [])))) before below
            (two_turns program variables bound code waiting choices piece head its (λ a b. perform program.setting head.at.pos act (a ∷ b ∷ [])) runs
            (λ a b s is. perform_stays program variables bound code waiting choices piece head.at.pos act (a ∷ b ∷ []) other s is) X Y first second
            before below turns others));
      }

  -- a step of a pointer
  pointers_change : (head : Head) (stride : Stride)
      → Changes program variables bound code waiting choices piece head (on_two piece head (op.Step stride true))
      (λ a b. perform program.setting head.at.pos (operation.step stride true) (a ∷ b ∷ []))
  pointers_change head stride =
      record {
        go = λ X Y first second before below turns others.
            two_turns program variables bound code waiting choices piece head (op.Step stride true)
            (λ a b. perform program.setting head.at.pos (operation.step stride true) (a ∷ b ∷ [])) (λ at a b stack s. refl)
            (λ a b s is. perform_stays program variables bound code waiting choices piece head.at.pos (operation.step stride true) (a ∷ b ∷ []) refl s is)
            X Y first second before below turns others;
      }

  -- an lvalue has its address
  has_address : (e : LeftValue) → HasAddress e (addressed program.setting again e)
  has_address (tree.variable head name) = refl
  has_address (tree.literal head place) = tt
  has_address (tree.target head its) = tt
  has_address (tree.element head size pointer_first a b) = tt
  has_address (tree.member head field bytes object) = tt
  has_address (tree.arrow head field bytes its) = tt

  -- ---- expressions

  module _ (calls : Calls program variables bound code waiting choices again) where
    -- Call, with its arguments on the stack
    call_turns : (head : Head) (place : ℕ) (function : CodeFunction) (values stack : List Value) → slice_get program.functions place ≡ Some function
        → AreAsMany function.parameters values → Turning' (only piece head (op.Call place)) Any
        (again (call_of place values head.at.pos) >>= (λ flow. acts head.at.pos (returned_value flow))) (onto values stack) (λ v. v ∷ stack)
    call_turns head place function values stack there are =
        record { go = λ start depth holds. calls.go start place _ function values stack holds.0 refl there are }

    -- the decision of a routine to which the function is bound, and Call
    calling_turns : (head : Head) (place : ℕ) (routine : Option ℕ) (found : Option CodeFunction) (arguments : RightValues)
        → slice_get program.functions place ≡ found → FitsFunction found arguments → (values stack : List Value) → CountOf arguments values
        → Turning' (sequence (bound_code program.setting variables piece head routine) (only piece head (op.Call place))) Any
        (decided_by (bound_to program.setting routine) >>= (λ it. again (call_of place values head.at.pos)
        >>= (λ flow. acts head.at.pos (returned_value flow)))) (onto values stack) (λ v. v ∷ stack)
    calling_turns head place routine None arguments is fits values stack are = absurd fits
    calling_turns head place routine (Some function) arguments is fits values stack are =
        sequence_turns program variables bound code waiting choices (bound_code program.setting variables piece head routine)
        (only piece head (op.Call place)) (bound_turns program variables bound code waiting choices piece head routine (onto values stack))
        (λ it so. call_turns head place function values stack is (as_many_values function.parameters arguments values fits are))

    -- the decision of a routine, and Routine
    asking_turns : (head : Head) (place : ℕ) (found : Option ℕ) (arguments : RightValues)
        → routine_arguments (slice_get program.setting.routines place) ≡ found → FitsRoutine found arguments → (values stack : List Value)
        → CountOf arguments values
        → Turning' (sequence (decided_code program.setting variables piece head place) (only piece head (op.Routine place))) Any
        (decided_by (slice_get program.setting.routines place)
        >>= (λ it. perform program.setting head.at.pos (operation.routine place) values)) (onto values stack) (λ v. v ∷ stack)
    asking_turns head place None arguments is fits values stack are = absurd fits
    asking_turns head place (Some count) arguments is fits values stack are =
        sequence_turns program variables bound code waiting choices (decided_code program.setting variables piece head place)
        (only piece head (op.Routine place)) (decided_turns program variables bound code waiting choices piece head place (onto values stack))
        (λ it so. routine_turns program variables bound code waiting choices piece head place count values stack is
        (as_many_values count arguments values fits are))

    mutual
      -- the value of an expression
      pub value_turns : (e : RightValue) → EachRight (FitsCall program) e → (stack : List Value)
          → Turning' (right_code program.setting variables piece e) Any (value_of program.setting again e) stack (λ v. v ∷ stack)
      value_turns (tree.number head bits) fits stack = num_turns program variables bound code waiting choices piece head bits stack
      value_turns (tree.nil head) fits stack =
          op_gives program variables bound code waiting choices piece head op.Nil (pointer Nil) stack (λ v. v ∷ stack) (λ at s. refl)
      value_turns (tree.load head e) fits stack =
          read_turns program variables bound code waiting choices piece head e (address_code program.setting variables piece e)
          (addressed program.setting again e) (has_address e) (access_of program.setting e) (λ s. address_turns e fits.1 s) stack
      value_turns (tree.decay head e) fits stack = address_turns e fits.1 stack
      value_turns (tree.address head e) fits stack = address_turns e fits.1 stack
      value_turns (tree.cast head e) fits stack = value_turns e fits.1 stack
      value_turns (tree.convert_number head kind e) fits stack =
          on_one_turns head (op.Conv kind) (operation.convert kind) refl (λ at a below s. refl) _ _ stack stack (value_turns e fits.1 stack)
      value_turns (tree.convert_pointer head e) fits stack = value_turns e fits.1 stack
      value_turns (tree.unary head operator kind e) fits stack =
          on_one_turns head (op.Unary (unary.Sign operator)) (operation.sign operator) refl (λ at a below s. refl) _ _ stack stack
          (value_turns e fits.1 stack)
      value_turns (tree.not head e) fits stack =
          on_one_turns head (op.Unary unary.Not) operation.not_ refl (λ at a below s. refl) _ _ stack stack (value_turns e fits.1 stack)
      value_turns (tree.arithmetic head operator kind a b) fits stack =
          on_two_turns head (op.Binary (binary.Arithmetic operator) kind) (operation.arithmetic operator kind) refl (λ at m n below s. refl) _ _ _ _ stack
          (value_turns a fits.1 stack) (λ v. value_turns b fits.2 (v ∷ stack))
      value_turns (tree.comparison head operator kind a b) fits stack =
          on_two_turns head (op.Binary (binary.Comparison operator) kind) (operation.comparison operator kind) refl (λ at m n below s. refl) _ _ _ _ stack
          (value_turns a fits.1 stack) (λ v. value_turns b fits.2 (v ∷ stack))
      value_turns (tree.compare_pointers head operator a b) fits stack =
          on_two_turns head (op.Compare operator) (operation.compare operator) refl (λ at m n below s. refl) _ _ _ _ stack
          (value_turns a fits.1 stack) (λ v. value_turns b fits.2 (v ∷ stack))
      value_turns (tree.is_nil head true e) fits stack =
          on_one_turns head op.IsNil operation.is_nil refl (λ at a below s. refl) _ _ stack stack (value_turns e fits.1 stack)
      value_turns (tree.is_nil head false e) fits stack =
          on_one_turns head (op.Unary unary.Not) operation.not_ refl (λ at a below s. refl) _ _ stack stack
          (on_one_turns head op.IsNil operation.is_nil refl (λ at a below s. refl) _ _ stack stack (value_turns e fits.1 stack))
      value_turns (tree.step head stride pointer_first a b) fits stack =
          on_two_turns head (op.Step stride pointer_first) (operation.step stride pointer_first) refl (λ at m n below s. refl) _ _ _ _ stack
          (value_turns a fits.1 stack) (λ v. value_turns b fits.2 (v ∷ stack))
      value_turns (tree.difference head size a b) fits stack =
          on_two_turns head (op.Difference size) (operation.difference size) refl (λ at m n below s. refl) _ _ _ _ stack
          (value_turns a fits.1 stack) (λ v. value_turns b fits.2 (v ∷ stack))
      value_turns (tree.and head a b) fits stack =
          conjoined_turns program variables bound code waiting choices piece head (right_code program.setting variables piece b)
          (value_of program.setting again b) stack (value_turns b fits.2 stack) (right_code program.setting variables piece a)
          (value_of program.setting again a) (value_turns a fits.1 stack)
      value_turns (tree.or head a b) fits stack =
          chosen_turns program variables bound code waiting choices piece head Any (only piece head (op.Num 1))
          (answered piece head (right_code program.setting variables piece b)) (give (number 1)) _ stack (λ v. v ∷ stack)
          (num_turns program variables bound code waiting choices piece head 1 stack)
          (answered_turns program variables bound code waiting choices piece head (right_code program.setting variables piece b)
          (value_of program.setting again b) stack (value_turns b fits.2 stack)) (right_code program.setting variables piece a)
          (value_of program.setting again a) (value_turns a fits.1 stack)
      value_turns (tree.conditional head test a b) fits stack =
          chosen_turns program variables bound code waiting choices piece head Any (right_code program.setting variables piece a)
          (right_code program.setting variables piece b) (value_of program.setting again a) (value_of program.setting again b) stack (λ v. v ∷ stack)
          (value_turns a fits.2 stack) (value_turns b fits.3 stack) (right_code program.setting variables piece test)
          (value_of program.setting again test) (value_turns test fits.1 stack)
      value_turns (tree.comma head lefts last) fits stack =
          dropped_turns head lefts fits.1 (right_code program.setting variables piece last) (value_of program.setting again last) stack (λ v. v ∷ stack)
          (value_turns last fits.2 stack)
      value_turns (tree.assign head into from) fits stack =
          written_turns program variables bound code waiting choices piece head into (address_code program.setting variables piece into)
          (addressed program.setting again into) (has_address into) (access_of program.setting into) (λ s. address_turns into fits.1 s)
          (right_code program.setting variables piece from) (value_of program.setting again from) (λ s. value_turns from fits.2 s) stack
      value_turns (tree.update head operator kind to into from) fits stack =
          updated_turns program variables bound code waiting choices piece head into (address_code program.setting variables piece into)
          (addressed program.setting again into) (has_address into) (access_of program.setting into) (λ s. address_turns into fits.1 s)
          (numbers_changed piece head (op.Binary (binary.Arithmetic operator) kind) (op.Conv to)) _
          (numbers_change head (op.Binary (binary.Arithmetic operator) kind) (op.Conv to) (operation.arithmetic operator kind) (operation.convert to) refl
          refl (λ at a b below s. refl) (λ at a below s. refl))
          (λ place before by. meaning.updated program.setting again head (access_of program.setting into) (operation.arithmetic operator kind)
          (operation.convert to) place before by)
          (λ place a b t. sym (thens_same (perform program.setting head.at.pos (operation.arithmetic operator kind) (a ∷ b ∷ []))
          (λ sum. perform program.setting head.at.pos (operation.convert to) (sum ∷ []))
          (written program.setting head.at.pos (access_of program.setting into) place) t))
          (right_code program.setting variables piece from) (value_of program.setting again from) (λ s. value_turns from fits.2 s) stack
      value_turns (tree.advance head stride into from) fits stack =
          updated_turns program variables bound code waiting choices piece head into (address_code program.setting variables piece into)
          (addressed program.setting again into) (has_address into) (access_of program.setting into) (λ s. address_turns into fits.1 s)
          (on_two piece head (op.Step stride true)) _ (pointers_change head stride)
          (λ place before by. meaning.advanced program.setting again head (access_of program.setting into) stride place before by) (λ place a b t. refl)
          (right_code program.setting variables piece from) (value_of program.setting again from) (λ s. value_turns from fits.2 s) stack
      value_turns (tree.post_update head operator kind to into) fits stack =
          stepped_turns program variables bound code waiting choices piece head into (address_code program.setting variables piece into)
          (addressed program.setting again into) (has_address into) (access_of program.setting into) (λ s. address_turns into fits.1 s)
          (numbers_changed piece head (op.Binary (binary.Arithmetic operator) kind) (op.Conv to)) _
          (numbers_change head (op.Binary (binary.Arithmetic operator) kind) (op.Conv to) (operation.arithmetic operator kind) (operation.convert to) refl
          refl (λ at a b below s. refl) (λ at a below s. refl))
          (λ place before by. meaning.updated program.setting again head (access_of program.setting into) (operation.arithmetic operator kind)
          (operation.convert to) place before by)
          (λ place a b t. sym (thens_same (perform program.setting head.at.pos (operation.arithmetic operator kind) (a ∷ b ∷ []))
          (λ sum. perform program.setting head.at.pos (operation.convert to) (sum ∷ []))
          (written program.setting head.at.pos (access_of program.setting into) place) t)) stack
      value_turns (tree.post_advance head stride into) fits stack =
          stepped_turns program variables bound code waiting choices piece head into (address_code program.setting variables piece into)
          (addressed program.setting again into) (has_address into) (access_of program.setting into) (λ s. address_turns into fits.1 s)
          (on_two piece head (op.Step stride true)) _ (pointers_change head stride)
          (λ place before by. meaning.advanced program.setting again head (access_of program.setting into) stride place before by) (λ place a b t. refl)
          stack
      value_turns (tree.call head place routine arguments) fits stack =
          same_turns program variables bound code waiting choices
          (λ s is. thens_same (values_of program.setting again arguments)
          (λ values. decided_by (bound_to program.setting routine) >> again (call_of place values head.at.pos))
          (λ flow. acts head.at.pos (returned_value flow)) s
          ∙ same_behind (λ values. (decided_by (bound_to program.setting routine) >> again (call_of place values head.at.pos))
          >>= (λ flow. acts head.at.pos (returned_value flow)))
          (λ values. decided_by (bound_to program.setting routine) >>= (λ it. again (call_of place values head.at.pos)
          >>= (λ flow. acts head.at.pos (returned_value flow)))) (values_of program.setting again arguments s)
          (λ values t. thens_same (decided_by (bound_to program.setting routine)) (λ it. again (call_of place values head.at.pos))
          (λ flow. acts head.at.pos (returned_value flow)) t))
          (all_turns arguments fits.1 (sequence (bound_code program.setting variables piece head routine) (only piece head (op.Call place)))
          (λ values. decided_by (bound_to program.setting routine) >>= (λ it. again (call_of place values head.at.pos)
          >>= (λ flow. acts head.at.pos (returned_value flow)))) stack (λ v. v ∷ stack)
          (λ values are. calling_turns head place routine (slice_get program.functions place) arguments refl fits.0 values stack are))
      value_turns (tree.call_routine head place arguments) fits stack =
          all_turns arguments fits.1 (sequence (decided_code program.setting variables piece head place) (only piece head (op.Routine place)))
          (λ values. decided_by (slice_get program.setting.routines place)
          >>= (λ it. perform program.setting head.at.pos (operation.routine place) values)) stack (λ v. v ∷ stack)
          (λ values are. asking_turns head place (routine_arguments (slice_get program.setting.routines place)) arguments refl fits.0 values stack are)

      -- the address of an object
      pub address_turns : (e : LeftValue) → EachLeft (FitsCall program) e → (stack : List Value)
          → Turning' (address_code program.setting variables piece e) Any (addressed program.setting again e) stack (λ v. v ∷ stack)
      address_turns (tree.variable head name) fits stack =
          only_turns program variables bound code waiting choices piece head (op.Address (object.Variable name))
          (acts head.at.pos (variable_at name) >>= (λ place. acts head.at.pos (address_of place))) stack (λ v. v ∷ stack) (λ at s. refl)
          (λ s is. stays_then (λ place. acts head.at.pos (address_of place))
          (λ place t so. acts_stays program variables bound code waiting choices piece head.at.pos (address_of place) (address_keeps place) t so)
          (acts head.at.pos (variable_at name) s)
          (acts_stays program variables bound code waiting choices piece head.at.pos (variable_at name)
          (λ machine. located_keeps name (binding_of name machine) machine) s is))
      address_turns (tree.literal head place) fits stack =
          op_gives program variables bound code waiting choices piece head (op.Address (object.Literal place))
          (pointer (Fixed (object_of_base program.setting (base.Literal place)) (pos 0))) stack (λ v. v ∷ stack) (λ at s. refl)
      address_turns (tree.target head its) fits stack = value_turns its fits.1 stack
      address_turns (tree.element head size pointer_first a b) fits stack =
          on_two_turns head (op.Step (record { size = size; backward = false }) pointer_first)
          (operation.step (record { size = size; backward = false }) pointer_first) refl (λ at m n below s. refl) _ _ _ _ stack
          (value_turns a fits.1 stack) (λ v. value_turns b fits.2 (v ∷ stack))
      address_turns (tree.member head field bytes e) fits stack =
          on_one_turns head (op.Offset bytes) (operation.offset bytes) refl (λ at a below s. refl) _ _ stack stack (address_turns e fits.1 stack)
      address_turns (tree.arrow head field bytes its) fits stack =
          on_one_turns head (op.Offset bytes) (operation.offset bytes) refl (λ at a below s. refl) _ _ stack stack (value_turns its fits.1 stack)

      -- the values of arguments, and what is done with them
      pub all_turns : (arguments : RightValues) → EachOf (FitsCall program) arguments → (last : Lowered)
          → (f : List Value → Step Value) (stack : List Value) (left : Value → List Value)
          → ((values : List Value) → CountOf arguments values → Turning' last Any (f values) (onto values stack) left)
          → Turning' (all_code program.setting variables piece arguments last) Any (values_of program.setting again arguments >>= f) stack left
      all_turns tree.no_values fits last f stack left behind =
          same_turns program variables bound code waiting choices (λ s is. refl) (behind [] tt)
      all_turns (tree.more_values e rest) fits last f stack left behind =
          same_turns program variables bound code waiting choices
          (λ s is. thens_same (operands (value_of program.setting again e) (values_of program.setting again rest)) (λ both. give (both.0 ∷ both.1)) f s
          ∙ operands_same (value_of program.setting again e) (values_of program.setting again rest) (λ both. f (both.0 ∷ both.1)) s)
          (operand_turns program variables bound code waiting choices (right_code program.setting variables piece e)
          (all_code program.setting variables piece rest last) (value_turns e fits.0 stack)
          (λ a so. all_turns rest fits.1 last (λ values. f (a ∷ values)) (a ∷ stack) left (λ values are. behind (a ∷ values) are)))

      -- the left operands of a comma, and what follows them
      pub dropped_turns : (head : Head) (lefts : RightValues) → EachOf (FitsCall program) lefts → (last : Lowered)
          → (f : Step Value) (stack : List Value) (left : Value → List Value)
          → Turning' last Any f stack left
          → Turning' (dropped_code program.setting variables piece head lefts last) Any (each_of program.setting again lefts >> f) stack left
      dropped_turns head tree.no_values fits last f stack left behind =
          same_turns program variables bound code waiting choices (λ s is. refl) behind
      dropped_turns head (tree.more_values e rest) fits last f stack left behind =
          same_turns program variables bound code waiting choices
          (λ s is. thens_same (value_of program.setting again e) (λ v. each_of program.setting again rest) (λ it. f) s
          ∙ sym (thens_same (value_of program.setting again e) (λ v. give tt) (λ (it : Unit {0}). each_of program.setting again rest >>= (λ it. f)) s))
          (sequence_turns program variables bound code waiting choices (on_one piece head op.Drop (right_code program.setting variables piece e))
          (dropped_code program.setting variables piece head rest last)
          (operand_turns program variables bound code waiting choices (right_code program.setting variables piece e) (only piece head op.Drop)
          (value_turns e fits.0 stack) (λ v so. drop_turns program variables bound code waiting choices piece head tt v (λ it. stack)))
          (λ it so. dropped_turns head rest fits.1 last f stack left behind))
