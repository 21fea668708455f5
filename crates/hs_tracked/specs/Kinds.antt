-- The variables of a call have values of the kinds of its function (own).
--     IsOfKinds here machine ws     kinds are right over code with tags
--     fit_kinds                     so the variables fit the function of the call
--     within_kinds, entered_kinds, returned_kinds, main_kinds      a step keeps it, and a run begins so
use Rattle.std.proofs.Common.{◌≡◌, ◌≤◌, ◌+◌, ◌++◌, ℕ, suc, ◌==◌, Bool, true, false, List, [], ◌∷◌, length, map, slice_get, Option, Some, None, sym, ap, ◌∙◌, subst, true≢false, arith}
use Rattle.std.proofs.lemmas.Option.{same_Some}
use Rattle.hs_base.specs.declared.pos.Pos.{Pos}
use Rattle.hs_calls.specs.Calls.{Here, IsWait, Wait, beginning, moved, point_of, resumed}
use Rattle.hs_calls.specs.Stacks.{RanTo, is_inside}
use Rattle.hs_code.specs.Codes.{IsCode}
use Rattle.hs_code.specs.declared.function_code.FunctionCode.{FunctionCode}
use Rattle.hs_code.specs.declared.function_code.Placed.{Placed}
use Rattle.hs_code.specs.declared.op.Op.TheVariants as op
use Rattle.hs_code.specs.declared.op.Op.{Op}
use Rattle.hs_code_run.specs.Codes.{CodeFunction, CodeProgram, Point, code_program}
use Rattle.hs_code_run.specs.Runs.{starting_point}
use Rattle.hs_code_run.specs.Steps.{address_at, below, brought, by_operation, by_stack, case_for, function_called, holds, later_choices, next_choice, onto, onto_if, onward, operates_if, operation_of, routine_arguments, routine_called, stepped_at, taken}
use Rattle.hs_facts.specs.Effects.{WholeCode}
use Rattle.hs_flow.specs.Programs.{scope_at, variables_in}
use Rattle.hs_heap.specs.declared.decision.Decision.{Decision}
use Rattle.hs_kinds.specs.Kinds.{FitBindings}
use Rattle.hs_kinds.specs.Points.{IsKindPoint, IsTypedCode}
use Rattle.hs_kinds.specs.Starts.{code_is_typed, run_begins}
use Rattle.hs_kinds.specs.Steps as steps
use Rattle.hs_kinds.specs.Steps.{stepped_kinds}
use Rattle.hs_meaning.specs.Evaluation.{decided_by}
use Rattle.hs_meaning.specs.Frames.{closed, opened}
use Rattle.hs_meaning.specs.Machine.{Done, Machine, done, stopped}
use Rattle.hs_meaning.specs.Operations as operation
use Rattle.hs_meaning.specs.Operations.{Operation}
use Rattle.hs_meaning.specs.Runs.{starting}
use Rattle.hs_meaning.specs.Steps.{Ran, State, acts, give, over, perform, ran_at, then_with, turn, used, went}
use Rattle.hs_meaning.specs.Values.{Value}
use Rattle.hs_meaning.specs.declared.input.Input.{Input}
use Rattle.hs_meaning.specs.declared.outcome.Outcome.{Outcome}
use Rattle.hs_tracked.specs.Restorable.{FitKinds}
use Rattle.hs_tracked.specs.Tagging.{all_tagged, same_number, tag_of, tag_there, tagged_at, tagged_there, tags_are_code, with_tag}
use Rattle.hs_tree.specs.Fitting.{Fits}
use Rattle.hs_true.specs.Exact.{FoundIn}

-- of how a run ends nothing is said
abbrev AnyEnd : Outcome → State → Type 0
AnyEnd outcome s = Unit {0}

-- a state with that machine
abbrev pub bare : Machine → State
bare machine = record { machine = machine; schedule = []; turns = 0 }

-- ---- calls over code with tags

-- the call that goes on
abbrev pub tag_here : Here → Here
tag_here here = record here { function = with_tag here.fn here.function }

-- a call that waits, and the function that it called
abbrev pub tag_wait : Wait → Wait
tag_wait w = record { here = tag_here w.here; machine = w.machine; called = w.called; callee = with_tag w.called w.callee }

module _ (whole : WholeCode) (are : IsCode whole.program whole.classes whole.functions) (fits : Fits whole.program) where
  -- the program with its code
  abbrev plain : CodeProgram
  plain = code_program whole.program whole.functions

  -- the same program over code with tags
  abbrev pub with_tags : CodeProgram
  with_tags = code_program whole.program (all_tagged 0 whole.functions)

  are_code : IsCode whole.program whole.classes (all_tagged 0 whole.functions)
  are_code = tags_are_code whole.program whole.classes 0 whole.program.functions whole.functions (same (length whole.program.functions)) are
    where
      same : (n : ℕ) → 0 + n ≤ n
      same n = omega arith

  typed : IsTypedCode with_tags
  typed = code_is_typed whole.program whole.classes (all_tagged 0 whole.functions) are_code fits

  -- all values are of their kinds, over code with tags
  abbrev pub IsOfKinds : Here → Machine → List Wait → Type 0
  IsOfKinds here machine ws = IsKindPoint with_tags (point_of (tag_here here) (map tag_wait ws) []) (bare machine)

  there_with_tag : (fn : ℕ) (function : CodeFunction) → slice_get plain.functions fn ≡ Some function
      → slice_get with_tags.functions fn ≡ Some (with_tag fn function)
  there_with_tag fn function found =
      tagged_there 0 whole.program.functions whole.functions fn function found ∙ ap (λ n. Some (with_tag n function)) (at_zero fn)
    where
      at_zero : (n : ℕ) → 0 + n ≡ n
      at_zero n = omega arith

  -- ---- the function of the call

  module _ (here : Here) (machine : Machine) (ws : List Wait) (found : slice_get plain.functions here.fn ≡ Some here.function)
      (kinds : IsOfKinds here machine ws) where
    same_place : kinds.call.place ≡ here.fn
    same_place = on (tag_there 0 whole.program.functions whole.functions kinds.call.place kinds.call.function kinds.call.there)
      where
        on : (ops : List Placed) × (kinds.call.function.code.ops ≡ ops ++ tag_of (0 + kinds.call.place) ∷ []) → kinds.call.place ≡ here.fn
        on its =
            at_zero kinds.call.place
            ∙ same_number its.0 here.function.code.ops (0 + kinds.call.place) here.fn (sym its.1 ∙ ap (λ (c : FunctionCode). c.ops) kinds.call.code)
          where
            at_zero : (n : ℕ) → n ≡ 0 + n
            at_zero n = omega arith

    same_function : kinds.call.function ≡ with_tag here.fn here.function
    same_function =
        same_Some kinds.call.function (with_tag here.fn here.function)
        (sym kinds.call.there ∙ ap (λ n. slice_get with_tags.functions n) same_place ∙ there_with_tag here.fn here.function found)

    locals_fit : FitBindings whole.program.types here.function.variables machine.locals
    locals_fit = subst (λ (f : CodeFunction). FitBindings whole.program.types f.variables machine.locals) same_function kinds.call.fits

    -- The variables fit the function of the call.
    pub fit_kinds : FoundIn whole here.fn here.function → (classes base : ℕ) → FitKinds (scope_at whole here.fn) classes base machine
    fit_kinds its classes base =
        record {
          locals = subst (λ f. FitBindings whole.program.types (variables_in f) machine.locals) (sym its.of_function)
              (subst (λ (f : CodeFunction). FitBindings whole.program.types f.variables machine.locals) (sym its.same) locals_fit);
          globals = kinds.globals;
        }

  -- ---- an operation inside a call

  module _ (here : Here) (ws : List Wait) (choices : List Bool) (s : State) (at : Pos) where
    -- where the operation is
    abbrev point : Point
    point = point_of here ws choices

    -- and over code with tags
    abbrev other : Point
    other = point_of (tag_here here) (map tag_wait ws) choices

    -- kinds are right at the point over code with tags
    abbrev KindsAt : Point → State → Type 0
    KindsAt next t =
        IsKindPoint with_tags
        (record { frame = record { code = other.frame.code; at = next.frame.at; stack = next.frame.stack }; waiting = other.waiting; choices = [] })
        (bare t.machine)

    -- wherever a step comes
    abbrev AfterPlain : Ran Point → Type 0
    AfterPlain r = RanTo AnyEnd KindsAt r

    abbrev AfterOther : Ran Point → Type 0
    AfterOther r = steps.RanTo (IsKindPoint with_tags) r

    -- whatever the step before gives
    after : {A : Type 0} → (next before : A → Point) → ((it : A) (t : State) → IsKindPoint with_tags (before it) t → KindsAt (next it) t) → (r : Ran A)
        → AfterOther (then_with (λ it. give (before it)) r) → AfterPlain (then_with (λ it. give (next it)) r)
    after next before each (went it t) kinds = each it t kinds
    after next before each (over outcome t) kinds = tt

    goes_onward : (stack : List Value) (t : State) → IsKindPoint with_tags (onward other stack) t → KindsAt (onward point stack) t
    goes_onward stack t kinds = record { call = kinds.call; waiting = kinds.waiting; globals = kinds.globals }

    goes_if : (b : Bool) (target : ℕ) (stack : List Value) (t : State) → IsKindPoint with_tags (onto_if b other target stack) t
        → KindsAt (onto_if b point target stack) t
    goes_if true target stack t kinds = record { call = kinds.call; waiting = kinds.waiting; globals = kinds.globals }
    goes_if false target stack t kinds = record { call = kinds.call; waiting = kinds.waiting; globals = kinds.globals }

    picked : (b : Bool) (target : ℕ) (stack : List Value) (later : List Bool)
        → IsKindPoint with_tags (record (onto_if b other target stack) { choices = later }) s
        → KindsAt (record (onto_if b point target stack) { choices = later }) s
    picked true target stack later kinds = record { call = kinds.call; waiting = kinds.waiting; globals = kinds.globals }
    picked false target stack later kinds = record { call = kinds.call; waiting = kinds.waiting; globals = kinds.globals }

    operates_on : (b : Bool) (count : ℕ) (its : Operation) → AfterOther (operates_if with_tags at other b count its s)
        → AfterPlain (operates_if plain at point b count its s)
    operates_on true count its kinds =
        after (λ value. onward point (value ∷ below count here.stack)) (λ value. onward other (value ∷ below count here.stack))
        (λ value. goes_onward (value ∷ below count here.stack)) (perform plain.setting at its (taken count here.stack) s) kinds
    operates_on false count its kinds = tt

    routine_on : (place : ℕ) (count : Option ℕ) → AfterOther (routine_called with_tags at other place count s)
        → AfterPlain (routine_called plain at point place count s)
    routine_on place None kinds = tt
    routine_on place (Some count) kinds = operates_on (holds count here.stack) count (operation.routine place) kinds

    operation_on : (its : Option (ℕ × Operation)) → AfterOther (by_operation with_tags at other its s) → AfterPlain (by_operation plain at point its s)
    operation_on None kinds = tt
    operation_on (Some its) kinds = operates_on (holds its.0 here.stack) its.0 its.1 kinds

    -- A step of an operation inside a call is the same over both.
    same_step : (its : Op) (stack : List Value) → is_inside its ≡ true → AfterOther (by_stack with_tags at other its stack s)
        → AfterPlain (by_stack plain at point its stack s)
    same_step (op.Num bits) stack is kinds = goes_onward _ s kinds
    same_step op.Nil stack is kinds = goes_onward _ s kinds
    same_step (op.Address its) stack is kinds =
        after (λ value. onward point (value ∷ stack)) (λ value. onward other (value ∷ stack)) (λ value. goes_onward (value ∷ stack))
        (address_at at plain.setting its s) kinds
    same_step op.Drop [] is kinds = tt
    same_step op.Drop (value ∷ stack) is kinds = goes_onward stack s kinds
    same_step op.Dup [] is kinds = tt
    same_step op.Dup (value ∷ stack) is kinds = goes_onward _ s kinds
    same_step op.Tuck [] is kinds = tt
    same_step op.Tuck (value ∷ []) is kinds = tt
    same_step op.Tuck (value ∷ under ∷ stack) is kinds = goes_onward _ s kinds
    same_step (op.Jump target) stack is kinds = record { call = kinds.call; waiting = kinds.waiting; globals = kinds.globals }
    same_step (op.Zero target) [] is kinds = tt
    same_step (op.Zero target) (value ∷ stack) is kinds =
        after (λ bits. onto_if (bits == 0) point target stack) (λ bits. onto_if (bits == 0) other target stack)
        (λ bits. goes_if (bits == 0) target stack) (used at value s) kinds
    same_step (op.Choose goal) [] is kinds = tt
    same_step (op.Choose goal) (value ∷ stack) is kinds =
        after (λ bits. onto point (case_for bits goal here.function.code.cases) stack)
        (λ bits. onto other (case_for bits goal here.function.code.cases) stack)
        (λ bits t so. record { call = so.call; waiting = so.waiting; globals = so.globals }) (used at value s) kinds
    same_step (op.Shift place) stack is kinds =
        after (λ it. onward point stack) (λ it. onward other stack) (λ it. goes_onward stack) (decided_by (slice_get plain.setting.routines place) s) kinds
    same_step (op.Routine place) stack is kinds = routine_on place (routine_arguments (slice_get plain.setting.routines place)) kinds
    same_step (op.Call place) stack is kinds = absurd (true≢false (sym is))
    same_step op.Return stack is kinds = absurd (true≢false (sym is))
    same_step op.Turn stack is kinds = after (λ it. onward point stack) (λ it. onward other stack) (λ it. goes_onward stack) (turn s) kinds
    same_step op.Mark stack is kinds = goes_onward stack s kinds
    same_step (op.Pick target) stack is kinds = picked (next_choice choices) target stack (later_choices choices) kinds
    same_step (op.Bring place) stack is kinds = goes_onward (brought place stack) s kinds
    same_step its stack is kinds = operation_on (operation_of its) kinds

  -- kinds do not depend on choices, nor on schedule and turns
  as_point : (here : Here) (ws : List Wait) (choices : List Bool) (s : State) → IsOfKinds here s.machine ws
      → IsKindPoint with_tags (point_of (tag_here here) (map tag_wait ws) choices) s
  as_point here ws choices s kinds = record { call = kinds.call; waiting = kinds.waiting; globals = kinds.globals }

  -- a step over code with tags
  other_step : (here : Here) (ws : List Wait) (choices : List Bool) (its : Placed) (s : State) → slice_get here.function.code.ops here.at ≡ Some its
      → IsOfKinds here s.machine ws
      → steps.RanTo (IsKindPoint with_tags)
      (by_stack with_tags its.at (point_of (tag_here here) (map tag_wait ws) choices) its.op here.stack s)
  other_step here ws choices its s there kinds =
      subst (λ placed. steps.RanTo (IsKindPoint with_tags)
      (stepped_at with_tags (point_of (tag_here here) (map tag_wait ws) choices) placed s))
      (tagged_at here.fn here.function.code here.at its there)
      (stepped_kinds with_tags typed (point_of (tag_here here) (map tag_wait ws) choices) s (as_point here ws choices s kinds))

  -- An operation inside a call: kinds are right of the call that goes on.
  pub within_kinds : (here : Here) (ws : List Wait) (choices : List Bool) (its : Placed) (s : State) → slice_get here.function.code.ops here.at ≡ Some its
      → is_inside its.op ≡ true → IsOfKinds here s.machine ws
      → RanTo AnyEnd (λ next t. (at : ℕ) (stack : List Value) (lasting : ℕ → Bool) (later : List Bool) → next ≡ point_of (moved here at stack lasting) ws later
      → IsOfKinds (moved here at stack lasting) t.machine ws) (by_stack plain its.at (point_of here ws choices) its.op here.stack s)
  within_kinds here ws choices its s there inside kinds =
      by_ran (by_stack plain its.at (point_of here ws choices) its.op here.stack s)
      (same_step here ws choices s its.at its.op here.stack inside (other_step here ws choices its s there kinds))
    where
      by_ran : (r : Ran Point) → AfterPlain here ws choices s its.at r
          → RanTo AnyEnd (λ next t. (at : ℕ) (stack : List Value) (lasting : ℕ → Bool) (later : List Bool)
          → next ≡ point_of (moved here at stack lasting) ws later → IsOfKinds (moved here at stack lasting) t.machine ws) r
      by_ran (went next t) so = λ at stack lasting later is. subst (λ p. KindsAt here ws choices s its.at p t) is so
      by_ran (over outcome t) so = tt

  -- ---- the begin of a call

  module _ (here : Here) (ws : List Wait) (fn : ℕ) (function : CodeFunction) (s : State)
      (waits : IsWait plain (record { here = here; machine = s.machine; called = fn; callee = function })) (kinds : IsOfKinds here s.machine ws) where
    -- the call that waits
    abbrev waiting : Wait
    waiting = record { here = here; machine = s.machine; called = fn; callee = function }

    -- one turn more, for the call
    abbrev one_more : State
    one_more = record s { turns = suc s.turns }

    begun_kinds : steps.RanTo (IsKindPoint with_tags)
        (then_with (λ it. give (point_of (tag_here (beginning fn function s.machine)) (map tag_wait (waiting ∷ ws)) []))
        (ran_at waits.its.at s (opened plain.setting function.parameters function.variables (taken function.parameters here.stack) s.machine)))
    begun_kinds =
        subst (λ f. steps.RanTo (IsKindPoint with_tags)
        (function_called with_tags waits.its.at (point_of (tag_here here) (map tag_wait ws) []) f one_more)) (there_with_tag fn function waits.callee)
        (subst (λ o. steps.RanTo (IsKindPoint with_tags)
        (by_stack with_tags waits.its.at (point_of (tag_here here) (map tag_wait ws) []) o here.stack one_more)) waits.calls
        (other_step here ws [] waits.its one_more waits.there kinds))

    both_begin : (at place : Pos) (r : Done (Unit {0}))
        → steps.RanTo (IsKindPoint with_tags)
        (then_with (λ it. give (point_of (tag_here (beginning fn function s.machine)) (map tag_wait (waiting ∷ ws)) [])) (ran_at place s r))
        → RanTo AnyEnd (λ it t. IsOfKinds (beginning fn function s.machine) t.machine (waiting ∷ ws)) (ran_at at s r)
    both_begin at place (done it now) so = record { call = so.call; waiting = so.waiting; globals = so.globals }
    both_begin at place (stopped why now) so = tt

    -- The begin of a call.
    pub entered_kinds : (at : Pos) → RanTo AnyEnd (λ it t. IsOfKinds (beginning fn function s.machine) t.machine (waiting ∷ ws))
        (acts at (opened plain.setting function.parameters function.variables (taken function.parameters here.stack)) s)
    entered_kinds at =
        both_begin at waits.its.at (opened plain.setting function.parameters function.variables (taken function.parameters here.stack) s.machine) begun_kinds

  -- ---- a return

  -- A return to the call that waits.
  pub returned_kinds : (here : Here) (w : Wait) (ws : List Wait) (its : Placed) (value : Value) (rest : List Value) (machine : Machine)
      → slice_get here.function.code.ops here.at ≡ Some its → its.op ≡ op.Return → here.stack ≡ value ∷ rest → IsOfKinds here machine (w ∷ ws)
      → IsOfKinds (resumed w value here.lasting) (closed w.machine.locals machine) ws
  returned_kinds here w ws its value rest machine there is so kinds =
      record { call = back.call; waiting = back.waiting; globals = back.globals }
    where
      back : steps.RanTo (IsKindPoint with_tags)
          (by_stack with_tags its.at (point_of (tag_here here) (map tag_wait (w ∷ ws)) []) op.Return (value ∷ rest) (bare machine))
      back =
          subst (λ values. steps.RanTo (IsKindPoint with_tags)
          (by_stack with_tags its.at (point_of (tag_here here) (map tag_wait (w ∷ ws)) []) op.Return values (bare machine))) so
          (subst (λ o. steps.RanTo (IsKindPoint with_tags)
          (by_stack with_tags its.at (point_of (tag_here here) (map tag_wait (w ∷ ws)) []) o here.stack (bare machine))) is
          (other_step here (w ∷ ws) [] its (bare machine) there kinds))

  -- ---- the begin of a run

  -- The call of `main`.
  pub main_kinds : (input : Input) (schedule : List Decision) (turns : ℕ) (function : CodeFunction) (before now : Machine)
      → slice_get plain.functions plain.main ≡ Some function
      → opened plain.setting function.parameters function.variables [] (starting plain.setting input schedule turns).machine ≡ done (tt {0}) now
      → IsOfKinds (beginning plain.main function before) now []
  main_kinds input schedule turns function before now found opens =
      record { call = first.call; waiting = first.waiting; globals = first.globals }
    where
      first : steps.RanTo (IsKindPoint with_tags)
          (then_with (λ it. give (starting_point (with_tag plain.main function) []))
          (ran_at function.opening (starting plain.setting input schedule turns) (done (tt {0}) now)))
      first =
          subst (λ r. steps.RanTo (IsKindPoint with_tags)
          (then_with (λ it. give (starting_point (with_tag plain.main function) []))
          (ran_at function.opening (starting plain.setting input schedule turns) r))) opens
          (run_begins whole.program whole.classes (all_tagged 0 whole.functions) are_code fits [] input schedule turns (with_tag plain.main function)
          (there_with_tag plain.main function found))
