-- A step keeps the kinds of the values of all calls.
--     RanTo Q its                 where a step goes on, that holds
--     step_kinds_kept             each operation
--     keeps_kinds, along          a step, and so many steps
use Rattle.std.proofs.Common.{◌≡◌, ℕ, zero, suc, ◌≤◌, inl, inr, ◌==◌, Bool, true, false, List, [], ◌∷◌, length, map, reverse, take, slice_get, option_map, Option, Some, None, pos, refl, sym, ◌∙◌, subst, length-take-le, ◌||◌}
use Rattle.std.proofs.lemmas.List.{length-map, length-reverse}
use Rattle.std.specs.List.{AllByRecursion}
use mathlib.Core.List.{reverse_aux, reverse-reverse}
use Rattle.hs_base.specs.declared.pos.Pos.{Pos}
use Rattle.hs_code.specs.Following.{IsNext, IsNextOf}
use Rattle.hs_code.specs.Stacks.{Kind, Scope, Reaches, begins, goes, HasOperands, IsStacked, kinds_after, kinds_after_at, after_get, after_set, after_call, slot_kind, variable_in, routine_signature, signature_of as signature_in, kind_of, kind_in, step_kinds, without}
use Rattle.hs_code.specs.Stacks as kind
use Rattle.hs_code.specs.declared.function_code.Placed.{Placed}
use Rattle.hs_code.specs.declared.op.Access.{Access}
use Rattle.hs_code.specs.declared.op.Access.TheVariants as access
use Rattle.hs_code.specs.declared.op.Goal.{Goal}
use Rattle.hs_code.specs.declared.op.Object.{Object}
use Rattle.hs_code.specs.declared.op.Object.TheVariants as object
use Rattle.hs_code.specs.declared.op.Op.{Op}
use Rattle.hs_code.specs.declared.op.Op.TheVariants as op
use Rattle.hs_code.specs.declared.op.Binary.TheVariants as binary
use Rattle.hs_code.specs.declared.op.Unary.TheVariants as unary
use Rattle.hs_code_run.specs.Codes.{CodeFunction, CodeProgram, Waiting, Point, scope_of, signature_of}
use Rattle.hs_code_run.specs.Laws.Depths.Control.{case_follows}
use Rattle.hs_code_run.specs.Runs.{steps}
use Rattle.hs_code_run.specs.Steps.{stepped, stepped_at, by_stack, operates_if, routine_called, function_called, returned_to, entered, routine_arguments, arguments_of, taken, below, holds, brought, onto_if, case_for, next_choice, later_choices, access_of}
use Rattle.hs_heap.specs.declared.cell.Pointer.TheVariants.{Nil, Fixed}
use Rattle.hs_kinds.specs.Kinds.{IsOfKind, AreOfKinds, FitBindings, binding_there, set_fits}
use Rattle.hs_kinds.specs.Operations.{DoneTo, Gives, Turns, IfHeld, by_stop_to, by_one, kind_reached, load_turns, store_turns, convert_turns, sign_turns, not_turns, arithmetic_turns, comparison_turns, is_nil_turns, compare_turns, difference_turns, offset_turns, step_turns, step_back_turns}
use Rattle.hs_kinds.specs.Points.{IsTypedCode, IsKindCall, AreKindWaiting, IsKindPoint, signature_there}
use Rattle.hs_kinds.specs.PlainRoutines.{declared_to}
use Rattle.hs_kinds.specs.Stacks.{of_kinds, taken_below, turned_below, brought_kinds}
use Rattle.hs_kinds.specs.Variables.{global_there, takes_kind, slot_held, opened_to, ended_globals}
use Rattle.hs_meaning.specs.Evaluation.{located, address_of, decided_by, powers_of}
use Rattle.hs_meaning.specs.Frames.{opened, closed}
use Rattle.hs_meaning.specs.Machine.{Machine, Binding, Done, done, stopped, slot, object_at, binding_of, value_of_slot}
use Rattle.hs_meaning.specs.Numbers.{signed}
use Rattle.hs_meaning.specs.Objects.{variables_of, object_of_base}
use Rattle.hs_tree.specs.declared.constant.Base.TheVariants as base
use Rattle.hs_meaning.specs.Accesses.{unless_stopped, by_stop}
use Rattle.hs_meaning.specs.declared.outcome.Stop.{Stop}
use Rattle.hs_meaning.specs.Operations as operation
use Rattle.hs_meaning.specs.Operations.{Operation, operate, called, called_as, slot_stop}
use Rattle.hs_meaning.specs.Runs.{own_locals}
use Rattle.hs_meaning.specs.Steps.{State, Ran, went, over, Step, ◌>>=◌, ◌>>◌, then_with, give, ends, acts, ran_at, perform, turn_from, used, number_used, decided, either}
use Rattle.hs_meaning.specs.Values.{Value, number, pointer, bits_in, number_stop, or_nothing}
use Rattle.hs_meaning.specs.declared.outcome.Outcome.TheVariants.{Finished}
use Rattle.hs_tree.specs.Fitting.{types_of, count_types, HasRole, HasRoleAs}
use Rattle.hs_tree.specs.declared.function.BoundRoutine.{BoundRoutine}
use Rattle.hs_tree.specs.declared.function.Prototype.{Prototype}
use Rattle.hs_tree.specs.declared.head.Variable.{Variable}
use Rattle.hs_tree.specs.declared.head.Variable.TheVariants as name
use Rattle.hs_types.specs.declared.row.TypeId.{TypeId}

-- where a step goes on
abbrev pub RanTo : {A : Type 0} → (A → State → Type 0) → Ran A → Type 0
RanTo Q (went it s) = Q it s
RanTo Q (over outcome s) = Unit {0}

-- one step after the other
pub ran_then : {A B : Type 0} → (Q : A → State → Type 0) (R : B → State → Type 0) (next : A → Step B) (its : Ran A) → RanTo Q its
    → ((it : A) (t : State) → Q it t → RanTo R (next it t)) → RanTo R (then_with next its)
ran_then Q R next (went it t) is each = each it t is
ran_then Q R next (over outcome t) is each = tt

-- something that the machine does
pub ran_done : {A : Type 0} → (Q : A → Machine → Type 0) (at : Pos) (s : State) (its : Done A) → DoneTo Q its
    → RanTo (λ it t. Q it t.machine) (ran_at at s its)
ran_done Q at s (done it machine) is = is
ran_done Q at s (stopped why machine) is = tt

-- what a load reaches, as code and as the machine has it
same_access : (its : Access) → kind_reached (access_of its) ≡ kind_in its
same_access (access.Number i) = refl
same_access (access.Pointer class) = refl
same_access (access.Struct size) = refl

module _ (program : CodeProgram) (typed : IsTypedCode program) (at : Pos) (point : Point) (s : State)
    (call : IsKindCall program point.frame s.machine.locals) (waits : AreKindWaiting program call.function.result point.waiting)
    (globals : FitBindings program.setting.types (variables_of program.setting.globals) s.machine.globals) where
  -- of the call that goes on
  abbrev scope : Scope
  scope = scope_of program call.function

  -- the variables of the program and of the function
  abbrev Vars : List Binding → List Binding → Type 0
  Vars all own =
      FitBindings program.setting.types (variables_of program.setting.globals) all
      × FitBindings program.setting.types call.function.variables own

  -- of a state
  abbrev HasVars : State → Type 0
  HasVars t = Vars t.machine.globals t.machine.locals

  -- they are so at the point
  vars : HasVars s
  vars = (globals, call.fits)

  -- wherever control goes after an operation, it is reached with those kinds
  abbrev Onward : Op → List Kind → Type 0
  Onward its after =
      (next : ℕ) → IsNext its point.frame.code.cases point.frame.at next → Reaches scope point.frame.code next after

  -- there, with those choices
  abbrev there_with : ℕ → List Value → List Bool → Point
  there_with next stack choices =
      record { frame = record { code = point.frame.code; at = next; stack = stack }; waiting = point.waiting; choices = choices }

  -- at another place of the same code
  lands : (its : Op) (after : List Kind) (next : ℕ) (stack : List Value) (choices : List Bool) (t : State) → Onward its after
      → IsNext its point.frame.code.cases point.frame.at next → AreOfKinds after stack → HasVars t
      → IsKindPoint program (there_with next stack choices) t
  lands its after next stack choices t on is are have =
      record {
        call = record {
          place = call.place;
          function = call.function;
          there = call.there;
          code = call.code;
          kinds = after;
          reached = on next is;
          values = are;
          fits = have.1;
        };
        waiting = waits;
        globals = have.0;
      }

  -- ---- operations that leave a value

  -- it leaves a value on what is below its operands
  operates_kinds : (b : Bool) (count : ℕ) (its : Operation) (left : Kind) (form : Op) (after : List Kind) → Onward form after
      → IsNext form point.frame.code.cases point.frame.at (suc point.frame.at)
      → DoneTo (Gives Vars left) (operate program.setting its (taken count point.frame.stack) s.machine)
      → ((value : Value) → IsOfKind left value → AreOfKinds after (value ∷ below count point.frame.stack))
      → RanTo (IsKindPoint program) (operates_if program at point b count its s)
  operates_kinds true count its left form after on is gives rest =
      ran_then (λ value t. Gives Vars left value t.machine) (IsKindPoint program)
      (λ value. give (record point { frame = record { code = point.frame.code; at = suc point.frame.at; stack = value ∷ below count point.frame.stack } }))
      (perform program.setting at its (taken count point.frame.stack) s)
      (ran_done (Gives Vars left) at s (operate program.setting its (taken count point.frame.stack) s.machine) gives)
      (λ value t so. lands form after (suc point.frame.at) (value ∷ below count point.frame.stack) point.choices t on is (rest value so.0) so.1)
  operates_kinds false count its left form after on is gives rest = tt

  -- it takes values of those kinds, and leaves one of that kind
  takes : (wanted : List Kind) (left : Kind) (its : Operation) (form : Op) (after : List Kind) → Onward form after
      → IsNext form point.frame.code.cases point.frame.at (suc point.frame.at) → kind.turned wanted left call.kinds ≡ Some after
      → Turns Vars program.setting its (reverse_aux wanted []) left s.machine
      → RanTo (IsKindPoint program) (operates_if program at point (holds (length wanted) point.frame.stack) (length wanted) its s)
  takes wanted left its form after on is so turns =
      by (turned_below wanted left call.kinds after point.frame.stack so call.values)
    where
      by : AreOfKinds (reverse_aux wanted []) (taken (length wanted) point.frame.stack)
          × ((value : Value) → IsOfKind left value → AreOfKinds after (value ∷ below (length wanted) point.frame.stack))
          → RanTo (IsKindPoint program) (operates_if program at point (holds (length wanted) point.frame.stack) (length wanted) its s)
      by both =
          operates_kinds (holds (length wanted) point.frame.stack) (length wanted) its left form after on is
          (turns (taken (length wanted) point.frame.stack) both.0) both.1

  -- a slot that may hold a value
  got : (k : Kind) (its : Option Value) → IfHeld Vars k its
      → DoneTo (Gives Vars k) (unless_stopped (slot_stop its ∷ []) (or_nothing its) s.machine s.machine)
  got k None is = tt
  got k (Some value) is = (is, vars)

  -- what a variable holds
  held_in : (variable : Variable) (k : Kind) → slot_kind program.setting.types (variable_in scope variable) ≡ Some k
      → IfHeld Vars k (value_of_slot (binding_of variable s.machine))
  held_in (name.Global place) k is =
      slot_held program.setting.types Vars (slice_get (variables_of program.setting.globals) place) (slice_get s.machine.globals place) k
      (subst (λ its. slot_kind program.setting.types its ≡ Some k) (sym (global_there program.setting.globals place)) is)
      (binding_there program.setting.types (variables_of program.setting.globals) s.machine.globals place globals)
  held_in (name.Local place) k is =
      slot_held program.setting.types Vars (slice_get call.function.variables place) (slice_get s.machine.locals place) k is
      (binding_there program.setting.types call.function.variables s.machine.locals place call.fits)

  -- a variable is read
  get_kinds : (variable : Variable) (its : Option Kind) → slot_kind program.setting.types (variable_in scope variable) ≡ its → (after : List Kind)
      → Onward (op.Get variable) after → after_get its call.kinds ≡ Some after
      → RanTo (IsKindPoint program) (operates_if program at point (holds 0 point.frame.stack) 0 (operation.get variable) s)
  get_kinds variable None slot_is after on is = absurd cc
  get_kinds variable (Some k) slot_is after on is =
      operates_kinds true 0 (operation.get variable) k (op.Get variable) after on refl
      (got k (value_of_slot (binding_of variable s.machine)) (held_in variable k slot_is))
      (λ value of. of_kinds (k ∷ call.kinds) after (value ∷ point.frame.stack) is (of, call.values))

  -- a slot that is given a value
  set_turns : (variable : Variable) (k : Kind) → slot_kind program.setting.types (variable_in scope variable) ≡ Some k
      → Turns Vars program.setting (operation.set variable) (k ∷ []) k s.machine
  set_turns (name.Global place) k slot_is values are =
      by_one (λ all. DoneTo (Gives Vars k) (operate program.setting (operation.set (name.Global place)) all s.machine)) k values are
      (λ a of. (
        of,
        (
          set_fits program.setting.types (variables_of program.setting.globals) s.machine.globals place a globals
              (takes_kind program.setting.types (slice_get (variables_of program.setting.globals) place) k a
              (subst (λ its. slot_kind program.setting.types its ≡ Some k) (sym (global_there program.setting.globals place)) slot_is) of),
          call.fits,
        ),
      ))
  set_turns (name.Local place) k slot_is values are =
      by_one (λ all. DoneTo (Gives Vars k) (operate program.setting (operation.set (name.Local place)) all s.machine)) k values are
      (λ a of. (
        of,
        (
          globals,
          set_fits program.setting.types call.function.variables s.machine.locals place a call.fits
              (takes_kind program.setting.types (slice_get call.function.variables place) k a slot_is of),
        ),
      ))

  -- a variable is assigned
  set_kinds : (variable : Variable) (its : Option Kind) → slot_kind program.setting.types (variable_in scope variable) ≡ its → (after : List Kind)
      → Onward (op.Set variable) after → after_set its call.kinds ≡ Some after
      → RanTo (IsKindPoint program) (operates_if program at point (holds 1 point.frame.stack) 1 (operation.set variable) s)
  set_kinds variable None slot_is after on is = absurd cc
  set_kinds variable (Some k) slot_is after on is =
      takes (k ∷ []) k (operation.set variable) (op.Set variable) after on refl is (set_turns variable k slot_is)

  -- a pointer and a number, in either order
  step_form_kinds : (stride : _) (first : Bool) (after : List Kind) → Onward (op.Step stride first) after
      → kind.turned (step_kinds first) kind.pointer call.kinds ≡ Some after
      → RanTo (IsKindPoint program) (operates_if program at point (holds 2 point.frame.stack) 2 (operation.step stride first) s)
  step_form_kinds stride true after on is =
      takes (step_kinds true) kind.pointer (operation.step stride true) (op.Step stride true) after on refl is
      (step_turns Vars program.setting s.machine vars stride)
  step_form_kinds stride false after on is =
      takes (step_kinds false) kind.pointer (operation.step stride false) (op.Step stride false) after on refl is
      (step_back_turns Vars program.setting s.machine vars stride)

  -- ---- the others

  -- the value on top is dropped
  drop_kinds : (stack : List Value) (kinds after : List Kind) → AreOfKinds kinds stack → kinds_after scope op.Drop kinds ≡ Some after
      → Onward op.Drop after → RanTo (IsKindPoint program) (by_stack program at point op.Drop stack s)
  drop_kinds [] kinds after so is on = tt
  drop_kinds (value ∷ stack) [] after so is on = absurd cc
  drop_kinds (value ∷ stack) (top ∷ kinds) after so is on =
      lands op.Drop after (suc point.frame.at) stack point.choices s on refl (of_kinds kinds after stack is so.1) vars

  -- it is doubled
  dup_kinds : (stack : List Value) (kinds after : List Kind) → AreOfKinds kinds stack → kinds_after scope op.Dup kinds ≡ Some after
      → Onward op.Dup after → RanTo (IsKindPoint program) (by_stack program at point op.Dup stack s)
  dup_kinds [] kinds after so is on = tt
  dup_kinds (value ∷ stack) [] after so is on = absurd cc
  dup_kinds (value ∷ stack) (top ∷ kinds) after so is on =
      lands op.Dup after (suc point.frame.at) (value ∷ value ∷ stack) point.choices s on refl
      (of_kinds (top ∷ top ∷ kinds) after (value ∷ value ∷ stack) is (so.0, so)) vars

  -- it is put below the next
  tuck_kinds : (stack : List Value) (kinds after : List Kind) → AreOfKinds kinds stack → kinds_after scope op.Tuck kinds ≡ Some after
      → Onward op.Tuck after → RanTo (IsKindPoint program) (by_stack program at point op.Tuck stack s)
  tuck_kinds [] kinds after so is on = tt
  tuck_kinds (value ∷ []) kinds after so is on = tt
  tuck_kinds (value ∷ low ∷ stack) [] after so is on = absurd cc
  tuck_kinds (value ∷ low ∷ stack) (top ∷ []) after so is on = absurd cc
  tuck_kinds (value ∷ low ∷ stack) (top ∷ next ∷ kinds) after so is on =
      lands op.Tuck after (suc point.frame.at) (value ∷ low ∷ value ∷ stack) point.choices s on refl
      (of_kinds (top ∷ next ∷ top ∷ kinds) after (value ∷ low ∷ value ∷ stack) is (so.0, (so.1.0, (so.0, so.1.1)))) vars

  -- one of two points
  one_of : (b : Bool) (target : ℕ) (stack : List Value) (t : State) → IsKindPoint program (there_with target stack point.choices) t
      → IsKindPoint program (there_with (suc point.frame.at) stack point.choices) t → IsKindPoint program (onto_if b point target stack) t
  one_of true target stack t jumps falls = jumps
  one_of false target stack t jumps falls = falls

  -- the same with other choices
  either_of : (b : Bool) (target : ℕ) (stack : List Value) (choices : List Bool) → IsKindPoint program (there_with target stack choices) s
      → IsKindPoint program (there_with (suc point.frame.at) stack choices) s
      → IsKindPoint program (record (onto_if b point target stack) { choices = choices }) s
  either_of true target stack choices jumps falls = jumps
  either_of false target stack choices jumps falls = falls

  -- a number that is used
  used_vars : (value : Value) → RanTo (λ bits t. HasVars t) (used at value s)
  used_vars value =
      ran_done (λ bits machine. Vars machine.globals machine.locals) at s (number_used value s.machine)
      (by_stop_to Vars (λ bits machine. Vars machine.globals machine.locals) (number_stop value) (bits_in value) s.machine s.machine vars)

  -- below a number
  below_kinds : (kinds after : List Kind) (value : Value) (stack : List Value) → without (kind.number ∷ []) kinds ≡ Some after
      → AreOfKinds kinds (value ∷ stack) → AreOfKinds after stack
  below_kinds kinds after value stack is are = (taken_below (kind.number ∷ []) kinds after (value ∷ stack) [] [] is are tt).1

  -- a jump if it is 0
  zero_kinds : (target : ℕ) (stack : List Value) (kinds after : List Kind) → AreOfKinds kinds stack
      → kinds_after scope (op.Zero target) kinds ≡ Some after → Onward (op.Zero target) after
      → RanTo (IsKindPoint program) (by_stack program at point (op.Zero target) stack s)
  zero_kinds target [] kinds after so is on = tt
  zero_kinds target (value ∷ stack) kinds after so is on =
      ran_then (λ bits t. HasVars t) (IsKindPoint program) (λ bits. give (onto_if (bits == 0) point target stack)) (used at value s) (used_vars value)
      (λ bits t have. one_of (bits == 0) target stack t
      (lands (op.Zero target) after target stack point.choices t on (inr refl) (below_kinds kinds after value stack is so) have)
      (lands (op.Zero target) after (suc point.frame.at) stack point.choices t on (inl refl) (below_kinds kinds after value stack is so) have))

  -- a switch
  choose_kinds : (goal : Goal) (stack : List Value) (kinds after : List Kind) → AreOfKinds kinds stack
      → kinds_after scope (op.Choose goal) kinds ≡ Some after → Onward (op.Choose goal) after
      → RanTo (IsKindPoint program) (by_stack program at point (op.Choose goal) stack s)
  choose_kinds goal [] kinds after so is on = tt
  choose_kinds goal (value ∷ stack) kinds after so is on =
      ran_then (λ bits t. HasVars t) (IsKindPoint program)
      (λ bits. give (record point { frame = record { code = point.frame.code; at = case_for bits goal point.frame.code.cases; stack = stack } }))
      (used at value s) (used_vars value)
      (λ bits t have. lands (op.Choose goal) after (case_for bits goal point.frame.code.cases) stack point.choices t on
      (case_follows bits goal point.frame.code.cases) (below_kinds kinds after value stack is so) have)

  -- ---- addresses

  -- an address
  address_kinds : (its : Object) (after : List Kind) → Onward (op.Address its) after → kinds_after scope (op.Address its) call.kinds ≡ Some after
      → RanTo (IsKindPoint program) (by_stack program at point (op.Address its) point.frame.stack s)
  address_kinds (object.Literal place) after on is =
      lands (op.Address (object.Literal place)) after (suc point.frame.at) (literal ∷ point.frame.stack) point.choices s on refl
      (of_kinds (kind.pointer ∷ call.kinds) after (literal ∷ point.frame.stack) is (tt, call.values)) vars
    where
      literal : Value
      literal = pointer (Fixed (object_of_base program.setting (base.Literal place)) (pos 0))
  address_kinds (object.Variable variable) after on is = by (binding_of variable s.machine) refl
    where
      next : Value → Step Point
      next value = give (record point { frame = record { code = point.frame.code; at = suc point.frame.at; stack = value ∷ point.frame.stack } })

      by : (b : Option Binding) → binding_of variable s.machine ≡ b
          → RanTo (IsKindPoint program)
          (then_with next (then_with (λ place. acts at (address_of place)) (ran_at at s (located variable b s.machine))))
      by None so = tt
      by (Some (slot value)) so = tt
      by (Some (object_at place)) so =
          lands (op.Address (object.Variable variable)) after (suc point.frame.at) (pointer (Fixed place (pos 0)) ∷ point.frame.stack) point.choices s
          on refl (of_kinds (kind.pointer ∷ call.kinds) after (pointer (Fixed place (pos 0)) ∷ point.frame.stack) is (tt, call.values)) vars

  -- ---- the schedule and the turns

  -- the schedule moves and purges blocks: no variable
  decided_vars : (its : Option BoundRoutine) → RanTo (λ it t. HasVars t) (decided_by its s)
  decided_vars None = vars
  decided_vars (Some it) = by ((powers_of it).moves || (powers_of it).purges)
    where
      by : (b : Bool) → RanTo (λ done t. HasVars t) (either b (decided (powers_of it)) (give tt) s)
      by true = vars
      by false = vars

  -- a turn is counted: no variable
  turn_vars : (left : ℕ) → RanTo (λ it t. HasVars t) (turn_from left s)
  turn_vars zero = tt
  turn_vars (suc left) = vars

  -- ---- routines

  -- what its number stands for fits its role
  role_there : (routines : List BoundRoutine) (place : ℕ) → AllByRecursion (HasRole program.setting.types) routines → (it : BoundRoutine)
      → slice_get routines place ≡ Some it → HasRole program.setting.types it
  role_there [] place all it is = absurd cc
  role_there (one ∷ routines) zero all it is = subst (HasRole program.setting.types) (same one it is) all.0
    where
      same : (a b : BoundRoutine) → Some a ≡ Some b → a ≡ b
      same a b is = cc
  role_there (one ∷ routines) (suc place) all it is = role_there routines place all.1 it is

  -- a routine takes its arguments
  routine_turns : (place : ℕ) (it : BoundRoutine) (prototype : Prototype) → slice_get program.setting.routines place ≡ Some it
      → it.prototype ≡ Some prototype
      → Turns Vars program.setting (operation.routine place) (map (kind_of program.setting.types) prototype.parameters)
      (kind_of program.setting.types prototype.result) s.machine
  routine_turns place it prototype there is values are =
      subst (λ found. DoneTo (Gives Vars (kind_of program.setting.types prototype.result)) (called program.setting.types found values s.machine)) (sym there)
      (subst (λ found. DoneTo (Gives Vars (kind_of program.setting.types prototype.result)) (called_as program.setting.types it.routine found values s.machine))
      (sym is)
      (declared_to Vars program.setting.types it.routine prototype values s.machine
      (subst (HasRoleAs program.setting.types it.routine) is (role_there program.setting.routines place typed.roles it there)) are vars))

  -- the kinds of arguments, from the lowest
  in_order : (kinds : List Kind) → reverse_aux (reverse kinds) [] ≡ kinds
  in_order kinds = reverse-reverse kinds

  -- as many kinds as types
  arguments_many : (ids : List TypeId) → length (reverse (map (kind_of program.setting.types) ids)) ≡ length ids
  arguments_many ids = length-reverse (map (kind_of program.setting.types) ids) ∙ length-map ids (kind_of program.setting.types)

  -- a routine as it is declared
  prototype_kinds : (place : ℕ) (it : BoundRoutine) (its : Option Prototype) → slice_get program.setting.routines place ≡ Some it
      → it.prototype ≡ its → (after : List Kind) → Onward (op.Routine place) after
      → after_call program.setting.types (signature_in its) call.kinds ≡ Some after
      → RanTo (IsKindPoint program) (routine_called program at point place (arguments_of its) s)
  prototype_kinds place it None there so after on is = absurd cc
  prototype_kinds place it (Some its) there so after on is =
      subst
      (λ count. RanTo (IsKindPoint program) (operates_if program at point (holds count point.frame.stack) count (operation.routine place) s))
      (arguments_many its.parameters)
      (takes (reverse (map (kind_of program.setting.types) its.parameters)) (kind_of program.setting.types its.result) (operation.routine place)
      (op.Routine place) after on refl is
      (subst (λ wanted. Turns Vars program.setting (operation.routine place) wanted (kind_of program.setting.types its.result) s.machine)
      (sym (in_order (map (kind_of program.setting.types) its.parameters))) (routine_turns place it its there so)))

  -- a routine by its number
  routine_kinds : (place : ℕ) (its : Option BoundRoutine) → slice_get program.setting.routines place ≡ its → (after : List Kind)
      → Onward (op.Routine place) after → after_call program.setting.types (routine_signature its) call.kinds ≡ Some after
      → RanTo (IsKindPoint program) (routine_called program at point place (routine_arguments its) s)
  routine_kinds place None there after on is = absurd cc
  routine_kinds place (Some it) there after on is = prototype_kinds place it it.prototype there refl after on is

  -- ---- calls

  -- a called function takes as many values as it has parameters
  called_many : (function : CodeFunction) → function.parameters ≤ length function.variables
      → length (reverse (map (kind_of program.setting.types) (types_of (take function.parameters function.variables)))) ≡ function.parameters
  called_many function few =
      arguments_many (types_of (take function.parameters function.variables)) ∙ count_types (take function.parameters function.variables)
      ∙ length-take-le function.parameters function.variables few

  -- the call that begins, and the one that waits
  entered_kinds : (place : ℕ) (function : CodeFunction) (after rest : List Kind) (t : State) → Onward (op.Call place) after
      → slice_get program.functions place ≡ Some function → kind_of program.setting.types function.result ∷ rest ≡ after
      → AreOfKinds rest (below function.parameters point.frame.stack)
      → FitBindings program.setting.types (variables_of program.setting.globals) t.machine.globals
      → FitBindings program.setting.types function.variables t.machine.locals → IsKindPoint program (entered program at point function s.machine.locals) t
  entered_kinds place function after rest t on is so are all own =
      record {
        call = record { place = place; function = function; there = is; code = refl; kinds = []; reached = begins; values = tt; fits = own };
        waiting = (
          record {
            place = call.place;
            function = call.function;
            there = call.there;
            code = call.code;
            kinds = rest;
            reached = subst (Reaches scope point.frame.code (suc point.frame.at)) (sym so) (on (suc point.frame.at) refl);
            values = are;
            fits = call.fits;
          },
          waits,
        );
        globals = all;
      }

  -- as many values as its signature says are taken, and what is left
  abbrev Called : CodeFunction → List Kind → Type 0
  Called function after =
      AreOfKinds (map (kind_of program.setting.types) (types_of (take function.parameters function.variables)))
      (taken function.parameters point.frame.stack)
      × ((rest : List Kind) × (kind_of program.setting.types function.result ∷ rest ≡ after)
      × AreOfKinds rest (below function.parameters point.frame.stack))

  -- what is there is one
  some_same : (a b : List Kind) → Some a ≡ Some b → a ≡ b
  some_same a b is = cc

  -- they are on the stack of the caller
  called_parts : (function : CodeFunction) (after : List Kind) → function.parameters ≤ length function.variables
      → after_call program.setting.types (Some (signature_of function)) call.kinds ≡ Some after → Called function after
  called_parts function after few is =
      by_rest (without wanted call.kinds) refl is
    where
      wanted : List Kind
      wanted = reverse (map (kind_of program.setting.types) (types_of (take function.parameters function.variables)))

      parts : (rest : List Kind) → without wanted call.kinds ≡ Some rest
          → AreOfKinds (map (kind_of program.setting.types) (types_of (take function.parameters function.variables)))
          (taken function.parameters point.frame.stack)
          × AreOfKinds rest (below function.parameters point.frame.stack)
      parts rest w =
          subst
          (λ count. AreOfKinds (map (kind_of program.setting.types) (types_of (take function.parameters function.variables)))
          (taken count point.frame.stack)
          × AreOfKinds rest (below count point.frame.stack)) (called_many function few)
          (subst (λ kinds. AreOfKinds kinds (taken (length wanted) point.frame.stack) × AreOfKinds rest (below (length wanted) point.frame.stack))
          (in_order (map (kind_of program.setting.types) (types_of (take function.parameters function.variables))))
          (taken_below wanted call.kinds rest point.frame.stack [] [] w call.values tt))

      by_rest : (its : Option (List Kind)) → without wanted call.kinds ≡ its
          → kind.above (kind_of program.setting.types function.result) its ≡ Some after → Called function after
      by_rest None w so = absurd cc
      by_rest (Some rest) w so =
          ((parts rest w).0, (rest, some_same (kind_of program.setting.types function.result ∷ rest) after so, (parts rest w).1))

  -- a call
  call_kinds : (place : ℕ) (its : Option CodeFunction) (after : List Kind) → Onward (op.Call place) after → slice_get program.functions place ≡ its
      → after_call program.setting.types (option_map signature_of its) call.kinds ≡ Some after
      → RanTo (IsKindPoint program) (function_called program at point its s)
  call_kinds place None after on is so = absurd cc
  call_kinds place (Some function) after on is so =
      by_turns s.turns (called_parts function after (typed.stacked place function is).parameters so)
    where
      next : List Binding → Step Point
      next locals =
          acts at (opened program.setting function.parameters function.variables (taken function.parameters point.frame.stack))
          >> give (entered program at point function locals)

      opens : (t : State) → Called function after → FitBindings program.setting.types (variables_of program.setting.globals) t.machine.globals
          → RanTo (IsKindPoint program) (next s.machine.locals t)
      opens t parts all =
          ran_then
          (λ it u. FitBindings program.setting.types (variables_of program.setting.globals) u.machine.globals
          × FitBindings program.setting.types function.variables u.machine.locals) (IsKindPoint program)
          (λ it. give (entered program at point function s.machine.locals))
          (acts at (opened program.setting function.parameters function.variables (taken function.parameters point.frame.stack)) t)
          (ran_done (λ it machine. FitBindings program.setting.types (variables_of program.setting.globals) machine.globals
          × FitBindings program.setting.types function.variables machine.locals) at t
          (opened program.setting function.parameters function.variables (taken function.parameters point.frame.stack) t.machine)
          (opened_to program.setting (FitBindings program.setting.types (variables_of program.setting.globals)) function.variables function.parameters
          (taken function.parameters point.frame.stack) t.machine all parts.0))
          (λ it u have. entered_kinds place function after parts.1.0 u on is parts.1.1 parts.1.2 have.0 have.1)

      by_turns : (left : ℕ) → Called function after
          → RanTo (IsKindPoint program) (then_with (λ it. acts at own_locals >>= next) (turn_from left s))
      by_turns zero parts = tt
      by_turns (suc left) parts = opens (record s { turns = left }) parts globals

  -- ---- a return

  -- the call that waits goes on with the value
  returned_kinds : (value : Value) (waiting : List Waiting) → AreKindWaiting program call.function.result waiting
      → IsOfKind (kind_of program.setting.types call.function.result) value
      → RanTo (IsKindPoint program) (returned_to program at point value waiting s)
  returned_kinds value [] are of = by (number_stop value)
    where
      after : Machine
      after = closed [] s.machine

      by : (why : Option Stop) → RanTo (IsKindPoint program) (then_with (λ bits. ends (Finished (signed bits)))
          (ran_at at (record s { machine = after }) (by_stop why (bits_in value) after after)))
      by None = tt
      by (Some why) = tt
  returned_kinds value (caller ∷ rest) are of =
      record {
        call = record {
          place = are.0.place;
          function = are.0.function;
          there = are.0.there;
          code = are.0.code;
          kinds = kind_of program.setting.types call.function.result ∷ are.0.kinds;
          reached = are.0.reached;
          values = (of, are.0.values);
          fits = are.0.fits;
        };
        waiting = are.1;
        globals = ended_globals (FitBindings program.setting.types (variables_of program.setting.globals)) s.machine.locals s.machine globals;
      }

  -- a return
  return_kinds : (stack : List Value) (kinds after : List Kind) → AreOfKinds kinds stack
      → kinds_after scope op.Return kinds ≡ Some after → RanTo (IsKindPoint program) (by_stack program at point op.Return stack s)
  return_kinds [] kinds after are is = tt
  return_kinds (value ∷ stack) kinds after are is =
      returned_kinds value point.waiting waits
      (taken_below (kind_of program.setting.types call.function.result ∷ []) kinds after (value ∷ stack) [] [] is are tt).0.0

  -- ---- each operation

  -- a load
  load_kinds : (its : Access) (after : List Kind) → Onward (op.Load its) after → kind.turned (kind.pointer ∷ []) (kind_in its) call.kinds ≡ Some after
      → RanTo (IsKindPoint program) (operates_if program at point (holds 1 point.frame.stack) 1 (operation.load (access_of its)) s)
  load_kinds its after on is =
      takes (kind.pointer ∷ []) (kind_in its) (operation.load (access_of its)) (op.Load its) after on refl is
      (subst (λ k. Turns Vars program.setting (operation.load (access_of its)) (kind.pointer ∷ []) k s.machine) (same_access its)
      (load_turns Vars program.setting s.machine vars (access_of its)))

  -- at the next operation
  onward_same : (its : Op) (after : List Kind) (stack : List Value) (t : State) → Onward its after
      → IsNext its point.frame.code.cases point.frame.at (suc point.frame.at) → AreOfKinds after stack → HasVars t
      → IsKindPoint program (there_with (suc point.frame.at) stack point.choices) t
  onward_same its after stack t on is are have = lands its after (suc point.frame.at) stack point.choices t on is are have

  -- each operation
  step_kinds_kept : (its : Op) (after : List Kind) → Onward its after → kinds_after scope its call.kinds ≡ Some after
      → RanTo (IsKindPoint program) (by_stack program at point its point.frame.stack s)
  step_kinds_kept (op.Num bits) after on is =
      onward_same (op.Num bits) after (number bits ∷ point.frame.stack) s on refl
      (of_kinds (kind.number ∷ call.kinds) after (number bits ∷ point.frame.stack) is (tt, call.values)) vars
  step_kinds_kept op.Nil after on is =
      onward_same op.Nil after (pointer Nil ∷ point.frame.stack) s on refl
      (of_kinds (kind.pointer ∷ call.kinds) after (pointer Nil ∷ point.frame.stack) is (tt, call.values)) vars
  step_kinds_kept (op.Address its) after on is = address_kinds its after on is
  step_kinds_kept (op.Get variable) after on is =
      get_kinds variable (slot_kind scope.types (variable_in scope variable)) refl after on is
  step_kinds_kept (op.Set variable) after on is =
      set_kinds variable (slot_kind scope.types (variable_in scope variable)) refl after on is
  step_kinds_kept (op.Load its) after on is = load_kinds its after on is
  step_kinds_kept (op.Store its) after on is =
      takes (kind_in its ∷ kind.pointer ∷ []) (kind_in its) (operation.store (access_of its)) (op.Store its) after on refl is
      (store_turns Vars program.setting s.machine vars (access_of its) (kind_in its))
  step_kinds_kept op.Drop after on is = drop_kinds point.frame.stack call.kinds after call.values is on
  step_kinds_kept op.Dup after on is = dup_kinds point.frame.stack call.kinds after call.values is on
  step_kinds_kept op.Tuck after on is = tuck_kinds point.frame.stack call.kinds after call.values is on
  step_kinds_kept (op.Conv its) after on is =
      takes (kind.number ∷ []) kind.number (operation.convert its) (op.Conv its) after on refl is (convert_turns Vars program.setting s.machine vars its)
  step_kinds_kept (op.Unary (unary.Sign its)) after on is =
      takes (kind.number ∷ []) kind.number (operation.sign its) (op.Unary (unary.Sign its)) after on refl is
      (sign_turns Vars program.setting s.machine vars its)
  step_kinds_kept (op.Unary unary.Not) after on is =
      takes (kind.number ∷ []) kind.number operation.not_ (op.Unary unary.Not) after on refl is (not_turns Vars program.setting s.machine vars)
  step_kinds_kept (op.Binary (binary.Arithmetic its) of) after on is =
      takes (kind.number ∷ kind.number ∷ []) kind.number (operation.arithmetic its of) (op.Binary (binary.Arithmetic its) of) after on refl is
      (arithmetic_turns Vars program.setting s.machine vars its of)
  step_kinds_kept (op.Binary (binary.Comparison its) of) after on is =
      takes (kind.number ∷ kind.number ∷ []) kind.number (operation.comparison its of) (op.Binary (binary.Comparison its) of) after on refl is
      (comparison_turns Vars program.setting s.machine vars its of)
  step_kinds_kept op.IsNil after on is =
      takes (kind.pointer ∷ []) kind.number operation.is_nil op.IsNil after on refl is (is_nil_turns Vars program.setting s.machine vars)
  step_kinds_kept (op.Compare its) after on is =
      takes (kind.pointer ∷ kind.pointer ∷ []) kind.number (operation.compare its) (op.Compare its) after on refl is
      (compare_turns Vars program.setting s.machine vars its)
  step_kinds_kept (op.Difference size) after on is =
      takes (kind.pointer ∷ kind.pointer ∷ []) kind.number (operation.difference size) (op.Difference size) after on refl is
      (difference_turns Vars program.setting s.machine vars size)
  step_kinds_kept (op.Offset bytes) after on is =
      takes (kind.pointer ∷ []) kind.pointer (operation.offset bytes) (op.Offset bytes) after on refl is
      (offset_turns Vars program.setting s.machine vars bytes)
  step_kinds_kept (op.Step stride first) after on is = step_form_kinds stride first after on is
  step_kinds_kept (op.Jump target) after on is =
      lands (op.Jump target) after target point.frame.stack point.choices s on refl (of_kinds call.kinds after point.frame.stack is call.values) vars
  step_kinds_kept (op.Zero target) after on is = zero_kinds target point.frame.stack call.kinds after call.values is on
  step_kinds_kept (op.Choose goal) after on is = choose_kinds goal point.frame.stack call.kinds after call.values is on
  step_kinds_kept (op.Shift place) after on is =
      ran_then (λ it t. HasVars t) (IsKindPoint program)
      (λ it. give (there_with (suc point.frame.at) point.frame.stack point.choices))
      (decided_by (slice_get program.setting.routines place) s) (decided_vars (slice_get program.setting.routines place))
      (λ it t have. onward_same (op.Shift place) after point.frame.stack t on refl (of_kinds call.kinds after point.frame.stack is call.values) have)
  step_kinds_kept (op.Routine place) after on is = routine_kinds place (slice_get program.setting.routines place) refl after on is
  step_kinds_kept (op.Call place) after on is =
      call_kinds place (slice_get program.functions place) after on refl
      (subst (λ its. after_call program.setting.types its call.kinds ≡ Some after) (signature_there place program.functions) is)
  step_kinds_kept op.Return after on is = return_kinds point.frame.stack call.kinds after call.values is
  step_kinds_kept op.Turn after on is =
      ran_then (λ it t. HasVars t) (IsKindPoint program)
      (λ it. give (there_with (suc point.frame.at) point.frame.stack point.choices)) (turn_from s.turns s) (turn_vars s.turns)
      (λ it t have. onward_same op.Turn after point.frame.stack t on refl (of_kinds call.kinds after point.frame.stack is call.values) have)
  step_kinds_kept op.Mark after on is =
      onward_same op.Mark after point.frame.stack s on refl (of_kinds call.kinds after point.frame.stack is call.values) vars
  step_kinds_kept (op.Pick target) after on is =
      either_of (next_choice point.choices) target point.frame.stack (later_choices point.choices)
      (lands (op.Pick target) after target point.frame.stack (later_choices point.choices) s on (inr refl)
      (of_kinds call.kinds after point.frame.stack is call.values) vars)
      (lands (op.Pick target) after (suc point.frame.at) point.frame.stack (later_choices point.choices) s on (inl refl)
      (of_kinds call.kinds after point.frame.stack is call.values) vars)
  step_kinds_kept (op.Bring zero) after on is = absurd cc
  step_kinds_kept (op.Bring (suc place)) after on is =
      onward_same (op.Bring (suc place)) after (brought (suc place) point.frame.stack) s on refl
      (brought_kinds place call.kinds after point.frame.stack is call.values) vars

-- ---- the operation that is next

module _ (program : CodeProgram) (typed : IsTypedCode program) (point : Point) (s : State) (so : IsKindPoint program point s) where
  -- the call that goes on
  abbrev here : IsKindCall program point.frame s.machine.locals
  here = so.call

  -- the operation that is next has its operands
  pub operands : HasOperands (scope_of program here.function) point.frame.code point.frame.at here.kinds
  operands =
      subst (λ code. IsStacked (scope_of program here.function) code) here.code (typed.stacked here.place here.function here.there).code
      point.frame.at here.kinds here.reached

  -- what follows it is reached with the kinds that it leaves
  next_reached : (its : Placed) (after : List Kind) → slice_get point.frame.code.ops point.frame.at ≡ Some its
      → kinds_after (scope_of program here.function) its.op here.kinds ≡ Some after → (next : ℕ)
      → IsNext its.op point.frame.code.cases point.frame.at next → Reaches (scope_of program here.function) point.frame.code next after
  next_reached its after there is next follows =
      goes point.frame.at next here.kinds after here.reached
      (subst (λ it. kinds_after_at (scope_of program here.function) it here.kinds ≡ Some after) (sym there) is)
      (subst (λ it. IsNextOf it point.frame.code.cases point.frame.at next) (sym there) follows)

  -- a step
  pub stepped_kinds : RanTo (IsKindPoint program) (stepped program point s)
  stepped_kinds =
      subst (λ it. RanTo (IsKindPoint program) (stepped_at program point it s)) (sym operands.there)
      (step_kinds_kept program typed operands.its.at point s here so.waiting so.globals operands.its.op operands.after
      (next_reached operands.its operands.after operands.there operands.operands) operands.operands)

  -- the same, where a step goes on
  in_ran : (next : Point) (t : State) (r : Ran Point) → RanTo (IsKindPoint program) r → r ≡ went next t → IsKindPoint program next t
  in_ran next t r is is_next = subst (RanTo (IsKindPoint program)) is_next is

  -- where a step goes on, all values are of their kinds
  pub keeps_kinds : (next : Point) (t : State) → stepped program point s ≡ went next t → IsKindPoint program next t
  keeps_kinds next t is = in_ran next t (stepped program point s) stepped_kinds is

-- so many operations
pub along : (program : CodeProgram) (typed : IsTypedCode program) (count : ℕ) (point : Point) (s : State) → IsKindPoint program point s
    → RanTo (IsKindPoint program) (steps count program point s)
along program typed zero point s so = so
along program typed (suc more) point s so =
    ran_then (IsKindPoint program) (IsKindPoint program) (steps more program) (stepped program point s) (stepped_kinds program typed point s so)
    (λ next t is. along program typed more next t is)
