-- What the rows of a window show is a restore whose handle is in the window, and each of those is shown.
--     shown_restore, restore_shown
--     no_restore        a function that puts no state byte has no restore
--     nothing_noted     and nothing is noted of it
use Rattle.std.proofs.Common.{◌≡◌, ◌<◌, ◌≤◌, ℕ, zero, suc, ◌+◌, Bool, true, false, ◌||◌, ap, sym, subst, ◌∙◌, refl, arith, List, [], ◌∷◌, slice_get, Option, Some, None}
use Rattle.std.specs.Bool.{Decides}
use Rattle.hs_code.specs.Codes.{scope_of}
use Rattle.hs_code.specs.declared.function_code.FunctionCode.{FunctionCode}
use Rattle.hs_code.specs.declared.function_code.Placed.{Placed}
use Rattle.hs_code.specs.declared.op.Op.{Op}
use Rattle.hs_code.specs.declared.op.Op.TheVariants as op
use Rattle.hs_effects.specs.Effecting.{noted}
use Rattle.hs_fact_rows.specs.Cells.{index_of}
use Rattle.hs_fact_rows.specs.Cuts.{IsSolved}
use Rattle.hs_fact_rows.specs.Laws.Exact.{impact_by}
use Rattle.hs_fact_rows.specs.Laws.Numbers.{some_one, false_not_true}
use Rattle.hs_fact_rows.specs.Laws.Solved.{shared_Holds, Holds-shared}
use Rattle.hs_fact_rows.specs.declared.plan.Plan.{Plan}
use Rattle.hs_facts.specs.Effects.{WholeCode, Assigns, IsRestoreAt, first_argument, only_assigns}
use Rattle.hs_facts.specs.Laws.Bytes.{IsOfByte, Holds-bytes}
use Rattle.hs_facts.specs.MustFacts.{MustFact, With, Saved, on_stack}
use Rattle.hs_facts.specs.Names.{names_of, role_in}
use Rattle.hs_facts.specs.Rounds.{Holds}
use Rattle.hs_restores.specs.Laws.Jobs.{IsFor, task_of, task_is}
use Rattle.hs_restores.specs.Laws.Windows.{part_length, part_number}
use Rattle.hs_restores.specs.Restoring.{Shows, is_set_state, sets_any, sets_state}
use Rattle.hs_rows.specs.Sets.{Sets}
use Rattle.hs_table.specs.declared.role.Role.{Role}
use Rattle.hs_table.specs.declared.role.Role.TheVariants as role
use Rattle.hs_tree.specs.Trees.{TypedFunction}
use Rattle.hs_tree.specs.declared.function.BoundRoutine.{BoundRoutine}
use Rattle.hs_tree.specs.declared.head.Variable.{Variable}

-- ---- set_state

set_state_role : (its : Option Role) → is_set_state its ≡ true → its ≡ Some role.SetState
set_state_role None h = false_not_true h
set_state_role (Some role.NewHandle) h = false_not_true h
set_state_role (Some role.DisposeHandle) h = false_not_true h
set_state_role (Some role.GetSize) h = false_not_true h
set_state_role (Some role.SetSize) h = false_not_true h
set_state_role (Some role.Lock) h = false_not_true h
set_state_role (Some role.Unlock) h = false_not_true h
set_state_role (Some role.Purge) h = false_not_true h
set_state_role (Some role.NoPurge) h = false_not_true h
set_state_role (Some role.GetState) h = false_not_true h
set_state_role (Some role.SetState) h = refl
set_state_role (Some role.Empty) h = false_not_true h
set_state_role (Some role.Realloc) h = false_not_true h
set_state_role (Some role.NewPtr) h = false_not_true h
set_state_role (Some role.DisposePtr) h = false_not_true h
set_state_role (Some role.BlockMove) h = false_not_true h
set_state_role (Some role.Getchar) h = false_not_true h
set_state_role (Some role.Putchar) h = false_not_true h
set_state_role (Some role.Plain) h = false_not_true h

-- the routine of a set_state
record IsSetState (routines : List BoundRoutine) (its : Op) : Type 0 where
  place : ℕ
  routine : its ≡ op.Routine place
  role : role_in (slice_get routines place) ≡ Some role.SetState

set_state_op : (routines : List BoundRoutine) (its : Op) → sets_state routines its ≡ true → IsSetState routines its
set_state_op routines (op.Num bits) h = false_not_true h
set_state_op routines op.Nil h = false_not_true h
set_state_op routines (op.Address its) h = false_not_true h
set_state_op routines (op.Get v) h = false_not_true h
set_state_op routines (op.Set v) h = false_not_true h
set_state_op routines (op.Load its) h = false_not_true h
set_state_op routines (op.Store its) h = false_not_true h
set_state_op routines op.Drop h = false_not_true h
set_state_op routines op.Dup h = false_not_true h
set_state_op routines op.Tuck h = false_not_true h
set_state_op routines (op.Conv kind) h = false_not_true h
set_state_op routines (op.Unary its) h = false_not_true h
set_state_op routines (op.Binary its kind) h = false_not_true h
set_state_op routines op.IsNil h = false_not_true h
set_state_op routines (op.Compare its) h = false_not_true h
set_state_op routines (op.Difference size) h = false_not_true h
set_state_op routines (op.Offset bytes) h = false_not_true h
set_state_op routines (op.Step stride pointer_first) h = false_not_true h
set_state_op routines (op.Jump target) h = false_not_true h
set_state_op routines (op.Zero target) h = false_not_true h
set_state_op routines (op.Choose goal) h = false_not_true h
set_state_op routines (op.Shift place) h = false_not_true h
set_state_op routines (op.Routine place) h =
    record { place = place; routine = refl; role = set_state_role (role_in (slice_get routines place)) h }
set_state_op routines (op.Call f) h = false_not_true h
set_state_op routines op.Return h = false_not_true h
set_state_op routines op.Turn h = false_not_true h
set_state_op routines op.Mark h = false_not_true h
set_state_op routines (op.Pick target) h = false_not_true h
set_state_op routines (op.Bring place) h = false_not_true h

-- ---- windows

module _ (whole : WholeCode) (f : ℕ) (function : TypedFunction) (code : FunctionCode)
    (of_function : slice_get whole.program.functions f ≡ Some function) (of_code : slice_get whole.functions f ≡ Some code)
    (plan : Plan) (from count : ℕ) (slots : List Variable) (assigned : ℕ → ℕ → Bool)
    (assigned_true : (g h : ℕ) → assigned g h ≡ true → Assigns whole g h) (assigns_true : (g h : ℕ) → Assigns whole g h → assigned g h ≡ true)
    (its : IsFor (scope_of whole.program function) code plan from count slots assigned) (sets : Sets)
    (solved : IsSolved (task_of (scope_of whole.program function) code plan from count slots assigned) sets) where
  to_only : (at : ℕ) (fact : MustFact) → IsOfByte fact → Holds (scope_of whole.program function) code (impact_by assigned) at fact
      → Holds (scope_of whole.program function) code (only_assigns whole) at fact
  to_only at fact is h =
      Holds-bytes (scope_of whole.program function) code (impact_by assigned) (only_assigns whole) (λ g h assigns. assigns_true g h assigns) at fact is h

  from_only : (at : ℕ) (fact : MustFact) → IsOfByte fact → Holds (scope_of whole.program function) code (only_assigns whole) at fact
      → Holds (scope_of whole.program function) code (impact_by assigned) at fact
  from_only at fact is h =
      Holds-bytes (scope_of whole.program function) code (only_assigns whole) (impact_by assigned) (λ g h known. assigned_true g h known) at fact is h

  pub shown_restore : (at : ℕ) (it : Placed) → slice_get code.ops at ≡ Some it → Shows (scope_of whole.program function) plan sets at it
      → IsRestoreAt whole f at
  shown_restore at it there shows =
      let state = set_state_op whole.program.routines it.op shows.0 in
      let shared = shared_Holds (scope_of whole.program function) (task_of (scope_of whole.program function) code plan from count slots assigned)
      (task_is (scope_of whole.program function) code plan from count slots assigned its) sets solved at
      (first_argument (scope_of whole.program function) it) (suc (first_argument (scope_of whole.program function) it)) shows.1.number it there
      shows.1.below shows.1.held shows.1.read in
      record {
        function = function;
        of_function = of_function;
        code = code;
        its_code = of_code;
        its = it;
        there = there;
        place = state.place;
        routine = state.routine;
        sets_state = state.role;
        handle = shared.0;
        held = to_only at (With (first_argument (scope_of whole.program function) it) shared.0) tt shared.1;
        read = to_only at (Saved (on_stack (suc (first_argument (scope_of whole.program function) it))) shared.0) tt shared.2;
      }

  -- a fact of the function, its code and its operation under other names
  same_parts : (at : ℕ) (of_it : ℕ → MustFact) (other : TypedFunction) (code' : FunctionCode) (it' it : Placed) → other ≡ function → code' ≡ code
      → it' ≡ it
      → Holds (scope_of whole.program other) code' (only_assigns whole) at (of_it (first_argument (scope_of whole.program other) it'))
      → Holds (scope_of whole.program function) code (only_assigns whole) at (of_it (first_argument (scope_of whole.program function) it))
  same_parts at of_it other code' it' it one two three h =
      subst (λ (p : Placed). Holds (scope_of whole.program function) code (only_assigns whole) at (of_it (first_argument (scope_of whole.program function) p)))
      three
      (subst (λ (c : FunctionCode). Holds (scope_of whole.program function) c (only_assigns whole) at (of_it (first_argument (scope_of whole.program
      function) it'))) two
      (subst (λ (t : TypedFunction). Holds (scope_of whole.program t) code' (only_assigns whole) at (of_it (first_argument (scope_of whole.program t)
      it'))) one h))

  pub restore_shown : (at : ℕ) (it : Placed) → slice_get code.ops at ≡ Some it → (r : IsRestoreAt whole f at)
      → from ≤ index_of (names_of (scope_of whole.program function) code) r.handle
      → index_of (names_of (scope_of whole.program function) code) r.handle < from + count → Shows (scope_of whole.program function) plan sets at it
  restore_shown at it there r low high =
      let one = some_one r.function function (sym r.of_function ∙ of_function) in
      let two = some_one r.code code (sym r.its_code ∙ of_code) in
      let three = some_one r.its it (sym (subst (λ (c : FunctionCode). slice_get c.ops at ≡ Some r.its) two r.there) ∙ there) in
      let held = same_parts at (λ p. With p r.handle) r.function r.code r.its it one two three r.held in
      let read = same_parts at (λ p. Saved (on_stack (suc p)) r.handle) r.function r.code r.its it one two three r.read in
      let number = part_number (names_of (scope_of whole.program function) code) from count r.handle its.fits low high in
      let len = part_length (names_of (scope_of whole.program function) code) from count its.fits in
      let shared = Holds-shared (scope_of whole.program function) (task_of (scope_of whole.program function) code plan from count slots assigned)
      (task_is (scope_of whole.program function) code plan from count slots assigned its) sets solved at
      (first_argument (scope_of whole.program function) it) (suc (first_argument (scope_of whole.program function) it)) it there (
        r.handle,
        from_only at (With (first_argument (scope_of whole.program function) it) r.handle) tt held,
        from_only at (Saved (on_stack (suc (first_argument (scope_of whole.program function) it))) r.handle) tt read,
      )
      (omega (arith, number, len, low, high)) in (
        ap (sets_state whole.program.routines) (ap (λ (p : Placed). p.op) (sym three) ∙ r.routine) ∙ ap is_set_state r.sets_state,
        record { number = shared.0; below = shared.1; held = shared.2; read = shared.3 },
      )

-- ---- functions that put no state byte

-- of operations that are none
none_sets : (routines : List BoundRoutine) (ops : List Placed) → sets_any routines ops ≡ false → (at : ℕ) (its : Placed)
    → slice_get ops at ≡ Some its → sets_state routines its.op ≡ false
none_sets routines [] none at its there = absurd cc
none_sets routines (first ∷ rest) none zero its there =
    subst (λ (it : Placed). sets_state routines it.op ≡ false) (some_one first its there)
    (left_false (sets_state routines first.op) (sets_any routines rest) none)
  where
    left_false : (a b : Bool) → (a || b) ≡ false → a ≡ false
    left_false true b is = absurd cc
    left_false false b is = refl
none_sets routines (first ∷ rest) none (suc at) its there =
    none_sets routines rest (right_false (sets_state routines first.op) (sets_any routines rest) none) at its there
  where
    right_false : (a b : Bool) → (a || b) ≡ false → b ≡ false
    right_false true b is = absurd cc
    right_false false b is = is

pub no_restore : (whole : WholeCode) (f : ℕ) (code : FunctionCode) → slice_get whole.functions f ≡ Some code
    → sets_any whole.program.routines code.ops ≡ false → (at : ℕ) → IsRestoreAt whole f at → ⊥
no_restore whole f code of_code none at is =
    false_not_true (sym (none_sets whole.program.routines code.ops none at is.its
    (subst (λ (c : FunctionCode). slice_get c.ops at ≡ Some is.its) (some_one is.code code (sym is.its_code ∙ of_code)) is.there))
    ∙ ap (sets_state whole.program.routines) is.routine ∙ ap is_set_state is.sets_state)

pub nothing_noted : {P : Type 0} → (at : ℕ) → (P → ⊥) → Decides (noted (slice_get [] at)) P
nothing_noted at none = (λ is. false_not_true is, λ is. absurd (none is))
