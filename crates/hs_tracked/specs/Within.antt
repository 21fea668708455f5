-- A step of the machine inside a call keeps all tracked (own).
--     IsOrdinary                  an operation that is no routine, no call and no return
--     GoesTracked whole known ..  the call goes on, and all that it has is tracked
--     within_tracked              the step
-- What lasted still does, if the block could not move after the step and got no new cells by it.
use Rattle.std.proofs.Common.{◌≡◌, ◌<◌, ◌⊎◌, inl, inr, ℕ, zero, suc, pos, ◌-◌, ◌==◌, Bool, true, false, ◌&&◌, List, [], ◌∷◌, ◌++◌, length, map, Option, Some, None, refl, sym, ap, ◌∙◌, subst, arith, slice_get, ◌||◌, if◌then◌else◌}
use Rattle.std.specs.List.{AllByRecursion}
use Rattle.hs_calls.specs.Calls.{Here, Wait, lasts_to as lasts_from, moved, point_of, steady_in, waiting_of}
use Rattle.hs_calls.specs.Changing.{since}
use Rattle.hs_calls.specs.Stacks.{RanTo}
use Rattle.hs_chains.specs.Knowledge.{Knowledge}
use Rattle.hs_code.specs.Following.{IsNext}
use Rattle.hs_code.specs.Stacks.{Scope}
use Rattle.hs_code.specs.declared.function_code.Placed.{Placed}
use Rattle.hs_code.specs.declared.op.Access as code_access
use Rattle.hs_code.specs.declared.op.Access.TheVariants as access
use Rattle.hs_code.specs.declared.op.Binary.TheVariants as binary
use Rattle.hs_code.specs.declared.op.Binary.{Binary}
use Rattle.hs_code.specs.declared.op.Goal.{Goal}
use Rattle.hs_code.specs.declared.op.Object.TheVariants as object
use Rattle.hs_code.specs.declared.op.Object.{Object}
use Rattle.hs_code.specs.declared.op.Op.TheVariants as op
use Rattle.hs_code.specs.declared.op.Op.{Op}
use Rattle.hs_code.specs.declared.op.Unary.TheVariants as unary
use Rattle.hs_code.specs.declared.op.Unary.{Unary}
use Rattle.hs_code_run.specs.Codes.{CodeProgram, Point, code_program}
use Rattle.hs_code_run.specs.Laws.Depths.Control.{case_follows}
use Rattle.hs_code_run.specs.Steps.{access_of, by_stack, case_for, later_choices, next_choice, onto, onto_if, onward, brought, on_top, picked}
use Rattle.hs_facts.specs.Effects.{WholeCode}
use Rattle.hs_facts.specs.Names.{taken as taken_by}
use Rattle.hs_flow.specs.Laws.Staying.{LeavesSlots}
use Rattle.hs_flow.specs.Next.{purges_in}
use Rattle.hs_flow.specs.Programs.{scope_at}
use Rattle.hs_flow.specs.declared.fact.Slot.TheVariants as slot
use Rattle.hs_heap.specs.Blocks.{master_of, Block}
use Rattle.hs_heap.specs.Memory.{block_at}
use Rattle.hs_heap.specs.Shift.{shift as shift_blocks}
use Rattle.hs_heap.specs.declared.cell.Cell.{Cell}
use Rattle.hs_heap.specs.declared.cell.Pointer.TheVariants.{Nil, Fixed, Handle, Spot}
use Rattle.hs_heap.specs.declared.cell.Pointer.{Pointer}
use Rattle.hs_heap.specs.declared.decision.Decision.{Decision}
use Rattle.hs_hiding.specs.Holding.{value_of}
use Rattle.hs_meaning.specs.Accesses.{by_stop, cells_at, with_cells_at, use_stops, master_in, master_pointer}
use Rattle.hs_meaning.specs.Evaluation.{address_of, located, decided_by, powers_of}
use Rattle.hs_meaning.specs.Laws.Changes.Accesses.{with_cells_at_stays}
use Rattle.hs_meaning.specs.Machine as machines
use Rattle.hs_meaning.specs.Machine.{Machine, Binding, binding_of, with_value, with_blocks}
use Rattle.hs_meaning.specs.Objects.{object_of_base}
use Rattle.hs_meaning.specs.Operations.{converted_value, slot_stop}
use Rattle.hs_meaning.specs.Pointers.{moved_by, moved_stop, stride_bytes}
use Rattle.hs_meaning.specs.Steps.{State, Step, give, ran_at, then_with, turn_from, used, after_decision, decided, either, next_decision}
use Rattle.hs_meaning.specs.Stops.{first_stop, Stops, heap_stop}
use Rattle.hs_meaning.specs.Values.{Value, number, pointer, state, structure, bits_in, number_stop, or_nothing, value_in, length_of, load_stops, store_stop, cells_for, pointer_in, pointer_stop}
use Rattle.hs_meaning.specs.declared.outcome.Outcome.{Outcome}
use Rattle.hs_meaning.specs.declared.outcome.Stop.{Stop}
use Rattle.hs_sound_heap.specs.Roles.{nothing}
use Rattle.hs_sound_heap.specs.Shifts.{shifting, shift_since}
use Rattle.hs_sound_heap.specs.Since.{Since, since_refl, May}
use Rattle.hs_tracked.specs.Bringing.{bring, bytes_bring}
use Rattle.hs_tracked.specs.Bytes.{AreBytesTracked, BringsNoByte, bytes_stay}
use Rattle.hs_tracked.specs.Cells.{cells_shifted}
use Rattle.hs_tracked.specs.Copies.{bytes_conv, bytes_dup, bytes_get, bytes_set, bytes_tuck}
use Rattle.hs_tracked.specs.Going.{IsAt}
use Rattle.hs_tracked.specs.Loading.{load_cells, load_master}
use Rattle.hs_tracked.specs.Moving.{drops, dup, get, pushes, tuck, offset, step}
use Rattle.hs_tracked.specs.Right.{AreRight}
use Rattle.hs_tracked.specs.Setting.{set}
use Rattle.hs_tracked.specs.Shifting.{shift}
use Rattle.hs_tracked.specs.Storing.{store, values_written}
use Rattle.hs_tracked.specs.Tracking.{Tracked, TrackedPlaces, AreTracked, TrackedCells}
use Rattle.hs_tree.specs.declared.constant.Base.TheVariants as base
use Rattle.hs_tree.specs.declared.function.BoundRoutine.{BoundRoutine}
use Rattle.hs_tree.specs.declared.head.Variable.TheVariants as name
use Rattle.hs_tree.specs.declared.head.Variable.{Variable}
use Rattle.hs_tree.specs.declared.operators.Comparison.{Comparison}
use Rattle.hs_tree.specs.declared.operators.Stride.{Stride}
use Rattle.hs_true.specs.Setting.{IsSlot, blocks_stay}
use Rattle.hs_truth.specs.Owing.{steady_since}
use Rattle.hs_truth.specs.Places.{at_place, under_top}
use Rattle.hs_types.specs.declared.integer.Integer.{Integer}

-- an operation that is no routine, no call and no return
abbrev pub IsOrdinary : Op → Type 0
IsOrdinary (op.Routine place) = ⊥
IsOrdinary (op.Call fn) = ⊥
IsOrdinary op.Return = ⊥
IsOrdinary _ = Unit {0}

-- the value of that place is there, as the kinds of the stack say
abbrev pub IsBrought : Here → ℕ → Type 0
IsBrought here place = (k : ℕ) × (place ≡ suc k) × (it : Value × List Value) × (picked k here.stack ≡ Some it)

-- The call goes on from that machine, and all that it has is tracked.
abbrev pub GoesTracked : WholeCode → Knowledge → Here → Machine → List Wait → Point → State → Type 0
GoesTracked whole known here before ws next t =
    (at : ℕ) × (stack : List Value) × (later : List Bool) × (next ≡ point_of (moved here at stack (lasts_from here before t.machine)) ws later)
    × AreTracked whole known (moved here at stack (lasts_from here before t.machine)) t.machine ws
    × AreBytesTracked whole known (moved here at stack (lasts_from here before t.machine)) t.machine ws

module _ (whole : WholeCode) (known : Knowledge) (E : Outcome → State → Type 0) (ends : (outcome : Outcome) (s : State) → E outcome s)
    (here : Here) (ws : List Wait) (choices : List Bool) (its : Placed) (s : State) (deep : its.places ≡ length here.stack)
    (is_at : IsAt whole known here its) (right : AreRight whole known here s.machine) (are : AreTracked whole known here s.machine ws)
    (bytes : AreBytesTracked whole known here s.machine ws) where
  -- the program with its code
  abbrev pub program : CodeProgram
  program = code_program whole.program whole.functions

  -- what the kinds of the operations depend on
  abbrev kinds : Scope
  kinds = scope_at whole here.fn

  -- what lasts after a step to that machine
  abbrev lasts_to : Machine → ℕ → Bool
  lasts_to after = lasts_from here s.machine after

  -- The call goes on, and all that it has is tracked.
  abbrev Goes : Point → State → Type 0
  Goes = GoesTracked whole known here s.machine ws

  -- the point, with that stack
  abbrev pub point_on : List Value → Point
  point_on stack =
      record { frame = record { code = here.function.code; at = here.at; stack = stack }; waiting = map waiting_of ws; choices = choices }

  -- the step, with that stack
  abbrev pub StepOn : Op → List Value → Type 0
  StepOn o stack = RanTo E Goes (by_stack program its.at (point_on stack) o stack s)

  -- what lasted still does, if nothing is unlocked
  lasts_since : (may : May) → may.unlocks ≡ false → (after : Machine) → Since may s.machine.blocks after.blocks → (n : ℕ) → here.lasting n ≡ true
      → lasts_to after n ≡ true
  lasts_since may none after since n lasted =
      ap (λ z. z && steady_in s.machine after n) lasted ∙ steady_since may s.machine after n since none (right.lasts n lasted)

  still_lasts : (after : Machine) → Since nothing s.machine.blocks after.blocks → (n : ℕ) → here.lasting n ≡ true → lasts_to after n ≡ true
  still_lasts = lasts_since nothing refl

  same_lasts : (n : ℕ) → here.lasting n ≡ true → lasts_to s.machine n ≡ true
  same_lasts = still_lasts s.machine (since_refl nothing s.machine.blocks)

  known_places : (known.at here.fn here.at).places ≡ its.places
  known_places = is_at.deep ∙ sym deep

  -- ---- operands

  -- the values below those that an operation takes
  record Operands (form : Op) (rest : List Value) : Type 0 where
    low : its.places - taken_by kinds form ≡ length rest
    same : (i : ℕ) → i < length rest → at_place i rest ≡ at_place i here.stack
    places : TrackedPlaces whole known here s.machine ws rest

  takes_none : (form : Op) → taken_by kinds form ≡ 0 → (stack : List Value) → here.stack ≡ stack → Operands form stack
  takes_none form so stack is =
      record {
        low = ap (λ k. its.places - k) so ∙ no_less its.places ∙ deep ∙ ap length is;
        same = λ i less. ap (at_place i) (sym is);
        places = subst (TrackedPlaces whole known here s.machine ws) is are.places;
      }
    where
      no_less : (a : ℕ) → a - 0 ≡ a
      no_less a = omega arith

  takes_one : (form : Op) → taken_by kinds form ≡ 1 → (v : Value) (rest : List Value) → here.stack ≡ v ∷ rest → Operands form rest
  takes_one form so v rest is =
      record {
        low = ap (λ k. its.places - k) so ∙ ap (λ n. n - 1) (deep ∙ ap length is) ∙ one_less (length rest);
        same = λ i less. sym (under_top i v rest less) ∙ ap (at_place i) (sym is);
        places = (subst (TrackedPlaces whole known here s.machine ws) is are.places).1;
      }
    where
      one_less : (a : ℕ) → suc a - 1 ≡ a
      one_less a = omega arith

  takes_two : (form : Op) → taken_by kinds form ≡ 2 → (v under : Value) (rest : List Value) → here.stack ≡ v ∷ under ∷ rest → Operands form rest
  takes_two form so v under rest is =
      record {
        low = ap (λ k. its.places - k) so ∙ ap (λ n. n - 2) (deep ∙ ap length is) ∙ two_less (length rest);
        same = λ i less.
            sym (under_top i v (under ∷ rest) (lower i (length rest) less) ∙ under_top i under rest less) ∙ ap (at_place i) (sym is);
        places = (subst (TrackedPlaces whole known here s.machine ws) is are.places).1.1;
      }
    where
      two_less : (a : ℕ) → suc (suc a) - 2 ≡ a
      two_less a = omega arith

      lower : (a b : ℕ) → a < b → a < suc b
      lower a b less = omega (less, arith)

  -- ---- the machine stays as it is

  module _ (form : Op) (is : its.op ≡ form) (leaves_slots : LeavesSlots form) (bare : BringsNoByte form) (rest : List Value) (have : Operands form rest) where
    facts_low : (known.at here.fn here.at).places - taken_by kinds form ≡ length rest
    facts_low = ap (λ n. n - taken_by kinds form) known_places ∙ have.low

    -- bytes below the operands
    bytes_same : (at : ℕ) (stack : List Value) → IsNext form here.function.code.cases here.at at
        → ((i : ℕ) → i < length rest → at_place i stack ≡ at_place i rest)
        → AreBytesTracked whole known (moved here at stack (lasts_to s.machine)) s.machine ws
    bytes_same at stack goes same =
        bytes_stay whole known here s.machine ws its is_at deep (lasts_to s.machine) form is at stack goes s.machine bare leaves_slots
        (record {
          places = λ i low. same i (subst (λ n. i < n) have.low low) ∙ have.same i (subst (λ n. i < n) have.low low);
          values = λ v. refl;
        }) bytes

    -- operands are taken
    drop_goes : (at : ℕ) → IsNext form here.function.code.cases here.at at → (later : List Bool) (turns : ℕ)
        → Goes (record { frame = record { code = here.function.code; at = at; stack = rest }; waiting = map waiting_of ws; choices = later })
        (record s { turns = turns })
    drop_goes at goes later turns = (
      at,
      rest,
      later,
      refl,
      drops whole known here s.machine ws its is_at (lasts_to s.machine) same_lasts form is leaves_slots rest facts_low are have.places at goes,
      bytes_same at rest goes (λ i low. refl),
    )

    -- and a value is put on top
    push_goes : IsNext form here.function.code.cases here.at (suc here.at) → (v : Value)
        → Tracked whole known (moved here (suc here.at) (v ∷ rest) (lasts_to s.machine)) s.machine ws (slot.Place (length rest)) v
        → (stack : List Value) → Goes (onward (point_on stack) (v ∷ rest)) s
    push_goes goes v tracked stack = (
      suc here.at,
      v ∷ rest,
      choices,
      refl,
      pushes whole known here s.machine ws its is_at (lasts_to s.machine) same_lasts form is leaves_slots rest facts_low are have.places goes v tracked,
      bytes_same (suc here.at) (v ∷ rest) goes (λ i low. under_top i v rest low),
    )

    -- a number, unless it stops
    number_goes : IsNext form here.function.code.cases here.at (suc here.at) → (why : Option Stop) (bits : ℕ) (stack : List Value)
        → RanTo E Goes (then_with (λ value. give (onward (point_on stack) (value ∷ rest))) (ran_at its.at s (by_stop why (number bits) s.machine s.machine)))
    number_goes goes None bits stack = push_goes goes (number bits) tt stack
    number_goes goes (Some why) bits stack = ends _ _

  -- ---- by the operation

  address_goes : (o : Object) → its.op ≡ op.Address o → (stack : List Value) → here.stack ≡ stack → StepOn (op.Address o) stack
  address_goes (object.Literal place) is stack so =
      push_goes (op.Address (object.Literal place)) is tt tt stack (takes_none (op.Address (object.Literal place)) refl stack so) refl
      (pointer (Fixed (object_of_base program.setting (base.Literal place)) (pos 0))) tt stack
  address_goes (object.Variable x) is stack so = by_binding (binding_of x s.machine)
    where
      by_binding : (found : Option Binding)
          → RanTo E Goes (then_with (λ value. give (onward (point_on stack) (value ∷ stack)))
          (then_with (λ place t. ran_at its.at t (address_of place t.machine)) (ran_at its.at s (located x found s.machine))))
      by_binding None = ends _ _
      by_binding (Some (machines.slot value)) = ends _ _
      by_binding (Some (machines.object_at place)) =
          push_goes (op.Address (object.Variable x)) is tt tt stack (takes_none (op.Address (object.Variable x)) refl stack so) refl
          (pointer (Fixed place (pos 0))) tt stack

  get_goes : (x : Variable) → its.op ≡ op.Get x → (stack : List Value) → here.stack ≡ stack → StepOn (op.Get x) stack
  get_goes x is stack so = by_value (value_of s.machine x) refl
    where
      by_value : (found : Option Value) → value_of s.machine x ≡ found
          → RanTo E Goes (then_with (λ value. give (onward (point_on stack) (value ∷ stack)))
          (ran_at its.at s (by_stop (first_stop (slot_stop found ∷ [])) (or_nothing found) s.machine s.machine)))
      by_value None holds = ends _ _
      by_value (Some v) holds = (
        suc here.at,
        v ∷ stack,
        choices,
        refl,
        subst (λ st. AreTracked whole known (moved here (suc here.at) (v ∷ st) (lasts_to s.machine)) s.machine ws) so
            (get whole known here s.machine ws its is_at (lasts_to s.machine) same_lasts x is v holds are),
        subst (λ st. AreBytesTracked whole known (moved here (suc here.at) (v ∷ st) (lasts_to s.machine)) s.machine ws) so
            (bytes_get whole known here s.machine ws its is_at deep (lasts_to s.machine) x is v holds bytes),
      )

  set_goes : (x : Variable) → its.op ≡ op.Set x → IsSlot s.machine x → (stack : List Value) → here.stack ≡ stack → StepOn (op.Set x) stack
  set_goes x is a_slot [] so = ends _ _
  set_goes x is a_slot (v ∷ rest) so = (
    suc here.at,
    v ∷ rest,
    choices,
    refl,
    set whole known here s.machine ws its is_at (lasts_to after) after_lasts x is v rest so a_slot are,
    subst (λ st. AreBytesTracked whole known (moved here (suc here.at) st (lasts_to after)) after ws) so
        (bytes_set whole known here s.machine ws its is_at deep (lasts_to after) x is v rest so a_slot bytes),
  )
    where
      after : Machine
      after = with_value x v s.machine

      after_lasts : (n : ℕ) → here.lasting n ≡ true → lasts_to (with_value x v s.machine) n ≡ true
      after_lasts =
          still_lasts (with_value x v s.machine)
          (subst (Since nothing s.machine.blocks) (sym (blocks_stay x v s.machine)) (since_refl nothing s.machine.blocks))

  dup_goes : its.op ≡ op.Dup → (stack : List Value) → here.stack ≡ stack → StepOn op.Dup stack
  dup_goes is [] so = ends _ _
  dup_goes is (v ∷ rest) so = (
    suc here.at,
    v ∷ v ∷ rest,
    choices,
    refl,
    dup whole known here s.machine ws its is_at (lasts_to s.machine) same_lasts is v rest so are,
    subst (λ st. AreBytesTracked whole known (moved here (suc here.at) (v ∷ st) (lasts_to s.machine)) s.machine ws) so
        (bytes_dup whole known here s.machine ws its is_at deep (lasts_to s.machine) is v rest so bytes),
  )

  tuck_goes : its.op ≡ op.Tuck → (stack : List Value) → here.stack ≡ stack → StepOn op.Tuck stack
  tuck_goes is [] so = ends _ _
  tuck_goes is (v ∷ []) so = ends _ _
  tuck_goes is (v ∷ under ∷ rest) so = (
    suc here.at,
    v ∷ under ∷ v ∷ rest,
    choices,
    refl,
    tuck whole known here s.machine ws its is_at (lasts_to s.machine) same_lasts is v under rest so are,
    bytes_tuck whole known here s.machine ws its is_at deep (lasts_to s.machine) is v under rest so bytes,
  )

  conv_goes : (kind : Integer) → its.op ≡ op.Conv kind → (stack : List Value) → here.stack ≡ stack → StepOn (op.Conv kind) stack
  conv_goes kind is [] so = ends _ _
  conv_goes kind is (v ∷ rest) so = by_value v so (same_byte v)
    where
      same_byte : (u : Value) (byte : ℕ) → converted_value kind u ≡ state byte → u ≡ state byte
      same_byte (number bits) byte same = absurd cc
      same_byte (pointer p) byte same = absurd cc
      same_byte (state other) byte same = same
      same_byte (structure cells) byte same = absurd cc

      goes_with : (u new : Value) → here.stack ≡ u ∷ rest → ((byte : ℕ) → new ≡ state byte → u ≡ state byte)
          → Tracked whole known (moved here (suc here.at) (new ∷ rest) (lasts_to s.machine)) s.machine ws (slot.Place (length rest)) new
          → (stack : List Value) → Goes (onward (point_on stack) (new ∷ rest)) s
      goes_with u new so same tracked stack = (
        suc here.at,
        new ∷ rest,
        choices,
        refl,
        pushes whole known here s.machine ws its is_at (lasts_to s.machine) same_lasts (op.Conv kind) is tt rest
            (ap (λ n. n - 1) known_places ∙ (takes_one (op.Conv kind) refl u rest so).low) are (takes_one (op.Conv kind) refl u rest so).places refl
            new tracked,
        bytes_conv whole known here s.machine ws its is_at deep (lasts_to s.machine) kind is u new rest so same bytes,
      )

      by_value : (u : Value) → here.stack ≡ u ∷ rest → ((byte : ℕ) → converted_value kind u ≡ state byte → u ≡ state byte) → StepOn (op.Conv kind) (u ∷ rest)
      by_value (number bits) so same = goes_with (number bits) (converted_value kind (number bits)) so same tt (number bits ∷ rest)
      by_value (state byte) so same = goes_with (state byte) (state byte) so same tt (state byte ∷ rest)
      by_value (pointer p) so same = ends _ _
      by_value (structure cells) so same = ends _ _

  -- ---- control

  used_goes : (v : Value) (next : ℕ → Step Point) → ((bits : ℕ) → RanTo E Goes (next bits s)) → RanTo E Goes (then_with next (used its.at v s))
  used_goes v next each = by_why (number_stop v)
    where
      by_why : (why : Option Stop) → RanTo E Goes (then_with next (ran_at its.at s (by_stop why (bits_in v) s.machine s.machine)))
      by_why None = each (bits_in v)
      by_why (Some why) = ends _ _

  zero_goes : (target : ℕ) → its.op ≡ op.Zero target → (stack : List Value) → here.stack ≡ stack → StepOn (op.Zero target) stack
  zero_goes target is [] so = ends _ _
  zero_goes target is (v ∷ rest) so =
      used_goes v (λ bits. give (onto_if (bits == 0) (point_on (v ∷ rest)) target rest)) (λ bits. by_bit (bits == 0))
    where
      to : (at : ℕ) → (at ≡ suc here.at) ⊎ (at ≡ target) → Goes (onto (point_on (v ∷ rest)) at rest) s
      to at goes = drop_goes (op.Zero target) is tt tt rest (takes_one (op.Zero target) refl v rest so) at goes choices s.turns

      by_bit : (b : Bool) → Goes (onto_if b (point_on (v ∷ rest)) target rest) s
      by_bit true = to target (inr refl)
      by_bit false = to (suc here.at) (inl refl)

  choose_goes : (goal : Goal) → its.op ≡ op.Choose goal → (stack : List Value) → here.stack ≡ stack → StepOn (op.Choose goal) stack
  choose_goes goal is [] so = ends _ _
  choose_goes goal is (v ∷ rest) so =
      used_goes v (λ bits. give (onto (point_on (v ∷ rest)) (case_for bits goal here.function.code.cases) rest))
      (λ bits.
      drop_goes (op.Choose goal) is tt tt rest (takes_one (op.Choose goal) refl v rest so) (case_for bits goal here.function.code.cases)
      (case_follows bits goal here.function.code.cases) choices s.turns)

  drop_one : its.op ≡ op.Drop → (stack : List Value) → here.stack ≡ stack → StepOn op.Drop stack
  drop_one is [] so = ends _ _
  drop_one is (v ∷ rest) so = drop_goes op.Drop is tt tt rest (takes_one op.Drop refl v rest so) (suc here.at) refl choices s.turns

  turn_goes : its.op ≡ op.Turn → (stack : List Value) → here.stack ≡ stack → (turns : ℕ)
      → RanTo E Goes (then_with (λ it. give (onward (point_on stack) stack)) (turn_from turns s))
  turn_goes is stack so zero = ends _ _
  turn_goes is stack so (suc left) = drop_goes op.Turn is tt tt stack (takes_none op.Turn refl stack so) (suc here.at) refl choices left

  pick_goes : (target : ℕ) → its.op ≡ op.Pick target → (stack : List Value) → here.stack ≡ stack → (b : Bool)
      → Goes (record (onto_if b (point_on stack) target stack) { choices = later_choices choices }) s
  pick_goes target is stack so true =
      drop_goes (op.Pick target) is tt tt stack (takes_none (op.Pick target) refl stack so) target (inr refl) (later_choices choices) s.turns
  pick_goes target is stack so false =
      drop_goes (op.Pick target) is tt tt stack (takes_none (op.Pick target) refl stack so) (suc here.at) (inl refl) (later_choices choices) s.turns

  -- ---- numbers

  sign_goes : (u : Unary) → its.op ≡ op.Unary u → (stack : List Value) → here.stack ≡ stack → StepOn (op.Unary u) stack
  sign_goes (unary.Sign o) is [] so = ends _ _
  sign_goes (unary.Sign o) is (v ∷ rest) so =
      number_goes (op.Unary (unary.Sign o)) is tt tt rest (takes_one (op.Unary (unary.Sign o)) refl v rest so) refl _ _ (v ∷ rest)
  sign_goes unary.Not is [] so = ends _ _
  sign_goes unary.Not is (v ∷ rest) so =
      number_goes (op.Unary unary.Not) is tt tt rest (takes_one (op.Unary unary.Not) refl v rest so) refl _ _ (v ∷ rest)

  binary_goes : (b : Binary) (kind : Integer) → its.op ≡ op.Binary b kind → (stack : List Value) → here.stack ≡ stack → StepOn (op.Binary b kind) stack
  binary_goes (binary.Arithmetic o) kind is [] so = ends _ _
  binary_goes (binary.Arithmetic o) kind is (v ∷ []) so = ends _ _
  binary_goes (binary.Arithmetic o) kind is (v ∷ under ∷ rest) so =
      number_goes (op.Binary (binary.Arithmetic o) kind) is tt tt rest (takes_two (op.Binary (binary.Arithmetic o) kind) refl v under rest so) refl _ _
      (v ∷ under ∷ rest)
  binary_goes (binary.Comparison o) kind is [] so = ends _ _
  binary_goes (binary.Comparison o) kind is (v ∷ []) so = ends _ _
  binary_goes (binary.Comparison o) kind is (v ∷ under ∷ rest) so =
      number_goes (op.Binary (binary.Comparison o) kind) is tt tt rest (takes_two (op.Binary (binary.Comparison o) kind) refl v under rest so) refl _ _
      (v ∷ under ∷ rest)

  is_nil_goes : its.op ≡ op.IsNil → (stack : List Value) → here.stack ≡ stack → StepOn op.IsNil stack
  is_nil_goes is [] so = ends _ _
  is_nil_goes is (v ∷ rest) so = number_goes op.IsNil is tt tt rest (takes_one op.IsNil refl v rest so) refl _ _ (v ∷ rest)

  compare_goes : (c : Comparison) → its.op ≡ op.Compare c → (stack : List Value) → here.stack ≡ stack → StepOn (op.Compare c) stack
  compare_goes c is [] so = ends _ _
  compare_goes c is (v ∷ []) so = ends _ _
  compare_goes c is (v ∷ under ∷ rest) so =
      number_goes (op.Compare c) is tt tt rest (takes_two (op.Compare c) refl v under rest so) refl _ _ (v ∷ under ∷ rest)

  difference_goes : (size : ℕ) → its.op ≡ op.Difference size → (stack : List Value) → here.stack ≡ stack → StepOn (op.Difference size) stack
  difference_goes size is [] so = ends _ _
  difference_goes size is (v ∷ []) so = ends _ _
  difference_goes size is (v ∷ under ∷ rest) so =
      number_goes (op.Difference size) is tt tt rest (takes_two (op.Difference size) refl v under rest so) refl _ _ (v ∷ under ∷ rest)

  -- ---- pointers and memory

  offset_goes : (by : ℕ) → its.op ≡ op.Offset by → (stack : List Value) → here.stack ≡ stack → StepOn (op.Offset by) stack
  offset_goes by is [] so = ends _ _
  offset_goes by is (number bits ∷ rest) so = ends _ _
  offset_goes by is (state byte ∷ rest) so = ends _ _
  offset_goes by is (structure cells ∷ rest) so = ends _ _
  offset_goes by is (pointer p ∷ rest) so = by_why (moved_stop (pos by) p) refl
    where
      by_why : (why : Option Stop) → moved_stop (pos by) p ≡ why
          → RanTo E Goes (then_with (λ value. give (onward (point_on (pointer p ∷ rest)) (value ∷ rest)))
          (ran_at its.at s (by_stop (first_stop (why ∷ [])) (pointer (moved_by (pos by) p)) s.machine s.machine)))
      by_why (Some why) stops = ends _ _
      by_why None goes = (
        suc here.at,
        pointer (moved_by (pos by) p) ∷ rest,
        choices,
        refl,
        offset whole known here s.machine ws its is_at (lasts_to s.machine) same_lasts by is p rest so goes are,
        bytes_same (op.Offset by) is tt tt rest (takes_one (op.Offset by) refl (pointer p) rest so) (suc here.at) (pointer (moved_by (pos by) p) ∷ rest) refl
            (λ i low. under_top i (pointer (moved_by (pos by) p)) rest low),
      )

  module _ (reached : code_access.Access) (is : its.op ≡ op.Load reached) (p : Pointer) (rest : List Value) (so : here.stack ≡ pointer p ∷ rest) where
    -- a value that was loaded
    load_to : (v : Value) → AreTracked whole known (moved here (suc here.at) (v ∷ rest) (lasts_to s.machine)) s.machine ws
        → Goes (onward (point_on (pointer p ∷ rest)) (v ∷ rest)) s
    load_to v tracked = (
      suc here.at,
      v ∷ rest,
      choices,
      refl,
      tracked,
      bytes_same (op.Load reached) is tt tt rest (takes_one (op.Load reached) refl (pointer p) rest so) (suc here.at) (v ∷ rest) refl
          (λ i low. under_top i v rest low),
    )

    -- what memory holds, unless it stops
    cells_go : (why : Option Stop)
        → RanTo E Goes (then_with (λ value. give (onward (point_on (pointer p ∷ rest)) (value ∷ rest)))
        (ran_at its.at s (by_stop why (value_in (access_of reached) (cells_at p (length_of (access_of reached)) s.machine)) s.machine s.machine)))
    cells_go (Some why) = ends _ _
    cells_go None =
        load_to (value_in (access_of reached) (cells_at p (length_of (access_of reached)) s.machine))
        (load_cells whole known here s.machine ws its is_at (lasts_to s.machine) same_lasts p rest so are reached is)

  master_goes : (class n : ℕ) → its.op ≡ op.Load (access.Pointer class) → (rest : List Value) → here.stack ≡ pointer (Handle n) ∷ rest
      → StepOn (op.Load (access.Pointer class)) (pointer (Handle n) ∷ rest)
  master_goes class n is rest so = by_block (block_at s.machine.blocks n) refl
    where
      by_why : (block : Block) → block_at s.machine.blocks n ≡ Some block → (why : Option Stop)
          → RanTo E Goes (then_with (λ value. give (onward (point_on (pointer (Handle n) ∷ rest)) (value ∷ rest)))
          (ran_at its.at s (by_stop why (pointer (master_pointer (master_of n block))) s.machine s.machine)))
      by_why block there (Some why) = ends _ _
      by_why block there None =
          load_to (access.Pointer class) is (Handle n) rest so (pointer (master_pointer (master_of n block)))
          (load_master whole known here s.machine ws its is_at (lasts_to s.machine) same_lasts (Handle n) rest so are class is right n refl block there)

      by_block : (found : Option Block) → block_at s.machine.blocks n ≡ found
          → RanTo E Goes (then_with (λ value. give (onward (point_on (pointer (Handle n) ∷ rest)) (value ∷ rest)))
          (ran_at its.at s (master_in n s.machine found)))
      by_block None there = ends _ _
      by_block (Some block) there = by_why block there (first_stop (heap_stop (master_of n block) ∷ []))

  -- why a load of cells stops
  abbrev load_stop : code_access.Access → Pointer → Option Stop
  load_stop reached p =
      first_stop (use_stops p (length_of (access_of reached)) s.machine
      ++ load_stops (access_of reached) (cells_at p (length_of (access_of reached)) s.machine))

  load_goes : (reached : code_access.Access) → its.op ≡ op.Load reached → (stack : List Value) → here.stack ≡ stack → StepOn (op.Load reached) stack
  load_goes reached is [] so = ends _ _
  load_goes reached is (number bits ∷ rest) so = ends _ _
  load_goes reached is (state byte ∷ rest) so = ends _ _
  load_goes reached is (structure cells ∷ rest) so = ends _ _
  load_goes (access.Number kind) is (pointer p ∷ rest) so = cells_go (access.Number kind) is p rest so (load_stop (access.Number kind) p)
  load_goes (access.Struct size) is (pointer p ∷ rest) so = cells_go (access.Struct size) is p rest so (load_stop (access.Struct size) p)
  load_goes (access.Pointer class) is (pointer Nil ∷ rest) so = cells_go (access.Pointer class) is Nil rest so (load_stop (access.Pointer class) Nil)
  load_goes (access.Pointer class) is (pointer (Fixed object at) ∷ rest) so =
      cells_go (access.Pointer class) is (Fixed object at) rest so (load_stop (access.Pointer class) (Fixed object at))
  load_goes (access.Pointer class) is (pointer (Spot its') ∷ rest) so =
      cells_go (access.Pointer class) is (Spot its') rest so (load_stop (access.Pointer class) (Spot its'))
  load_goes (access.Pointer class) is (pointer (Handle n) ∷ rest) so = master_goes class n is rest so

  store_goes : (reached : code_access.Access) → its.op ≡ op.Store reached → (stack : List Value) → here.stack ≡ stack → StepOn (op.Store reached) stack
  store_goes reached is [] so = ends _ _
  store_goes reached is (v ∷ []) so = ends _ _
  store_goes reached is (v ∷ number bits ∷ rest) so = ends _ _
  store_goes reached is (v ∷ state byte ∷ rest) so = ends _ _
  store_goes reached is (v ∷ structure cells ∷ rest) so = ends _ _
  store_goes reached is (v ∷ pointer p ∷ rest) so =
      by_first (store_stop (access_of reached) v) refl (use_stops p (length_of (access_of reached)) s.machine)
    where
      after : Machine
      after = with_cells_at p (cells_for (access_of reached) v) s.machine

      after_lasts : (n : ℕ) → here.lasting n ≡ true
          → lasts_to (with_cells_at p (cells_for (access_of reached) v) s.machine) n ≡ true
      after_lasts =
          still_lasts (with_cells_at p (cells_for (access_of reached) v) s.machine)
          (with_cells_at_stays (since nothing) p (cells_for (access_of reached) v) s.machine)

      have : Operands (op.Store reached) rest
      have = takes_two (op.Store reached) refl v (pointer p) rest so

      goes_on_so : store_stop (access_of reached) v ≡ None → Goes (onward (point_on (v ∷ pointer p ∷ rest)) (v ∷ rest))
          (record s { machine = with_cells_at p (cells_for (access_of reached) v) s.machine })
      goes_on_so fits = (
        suc here.at,
        v ∷ rest,
        choices,
        refl,
        store whole known here s.machine ws its is_at (lasts_to after) after_lasts reached is v p rest so are fits,
        bytes_stay whole known here s.machine ws its is_at deep (lasts_to after) (op.Store reached) is (suc here.at) (v ∷ rest) refl after tt tt
            (record {
              places = λ i low.
                  under_top i v rest (subst (λ n. i < n) have.low low) ∙ have.same i (subst (λ n. i < n) have.low low);
              values = λ x. values_written p (cells_for (access_of reached) v) s.machine x;
            }) bytes,
      )

      by_later : store_stop (access_of reached) v ≡ None → (later : Option Stop)
          → RanTo E Goes (then_with (λ value. give (onward (point_on (v ∷ pointer p ∷ rest)) (value ∷ rest)))
          (ran_at its.at s (by_stop later v (with_cells_at p (cells_for (access_of reached) v) s.machine) s.machine)))
      by_later fits (Some why) = ends _ _
      by_later fits None = goes_on_so fits

      by_first : (why : Option Stop) → store_stop (access_of reached) v ≡ why → (more : Stops)
          → RanTo E Goes (then_with (λ value. give (onward (point_on (v ∷ pointer p ∷ rest)) (value ∷ rest)))
          (ran_at its.at s (by_stop (first_stop (why ∷ more)) v (with_cells_at p (cells_for (access_of reached) v) s.machine) s.machine)))
      by_first (Some why) stops more = ends _ _
      by_first None fits more = by_later fits (first_stop more)

  module _ (stride : Stride) (pointer_first : Bool) (is : its.op ≡ op.Step stride pointer_first) (top under : Value) (rest : List Value)
      (so : here.stack ≡ top ∷ under ∷ rest) where
    -- the value is the pointer, and the other one the number, which is tested first
    stepped_goes : (v by : Value) → (if pointer_first then under else top) ≡ v → (why : Option Stop)
        → RanTo E Goes (then_with (λ value. give (onward (point_on (top ∷ under ∷ rest)) (value ∷ rest)))
        (ran_at its.at s (by_stop (first_stop (why ∷ pointer_stop v ∷ moved_stop (stride_bytes stride (bits_in by)) (pointer_in v) ∷ []))
        (pointer (moved_by (stride_bytes stride (bits_in by)) (pointer_in v))) s.machine s.machine)))
    stepped_goes v by is_pointer (Some why) = ends _ _
    stepped_goes (number bits) by is_pointer None = ends _ _
    stepped_goes (state byte) by is_pointer None = ends _ _
    stepped_goes (structure cells) by is_pointer None = ends _ _
    stepped_goes (pointer p) by is_pointer None = by_why (moved_stop (stride_bytes stride (bits_in by)) p) refl
      where
        by_why : (why : Option Stop) → moved_stop (stride_bytes stride (bits_in by)) p ≡ why
            → RanTo E Goes (then_with (λ value. give (onward (point_on (top ∷ under ∷ rest)) (value ∷ rest)))
            (ran_at its.at s (by_stop (first_stop (why ∷ [])) (pointer (moved_by (stride_bytes stride (bits_in by)) p)) s.machine s.machine)))
        by_why (Some why) stops = ends _ _
        by_why None goes = (
          suc here.at,
          pointer (moved_by (stride_bytes stride (bits_in by)) p) ∷ rest,
          choices,
          refl,
          step whole known here s.machine ws its is_at (lasts_to s.machine) same_lasts stride pointer_first is top under rest so p is_pointer
              (stride_bytes stride (bits_in by)) goes are,
          bytes_same (op.Step stride pointer_first) is tt tt rest (takes_two (op.Step stride pointer_first) refl top under rest so) (suc here.at)
              (pointer (moved_by (stride_bytes stride (bits_in by)) p) ∷ rest) refl
              (λ i low. under_top i (pointer (moved_by (stride_bytes stride (bits_in by)) p)) rest low),
        )

  step_goes : (stride : Stride) (pointer_first : Bool) → its.op ≡ op.Step stride pointer_first → (stack : List Value) → here.stack ≡ stack
      → StepOn (op.Step stride pointer_first) stack
  step_goes stride pointer_first is [] so = ends _ _
  step_goes stride pointer_first is (top ∷ []) so = ends _ _
  step_goes stride true is (top ∷ under ∷ rest) so = stepped_goes stride true is top under rest so under top refl (number_stop top)
  step_goes stride false is (top ∷ under ∷ rest) so = stepped_goes stride false is top under rest so top under refl (number_stop under)

  -- ---- a decision of the schedule

  module _ (place : ℕ) (is : its.op ≡ op.Shift place) (stack : List Value) (so : here.stack ≡ stack) where
    -- blocks may have moved, and no cell is another one
    shift_to : (after : Machine) (schedule : List Decision)
        → Since (shifting (purges_in (slice_get program.setting.routines place))) s.machine.blocks after.blocks
        → ((x : Variable) → value_of after x ≡ value_of s.machine x)
        → ((P : List Cell → Type 0) → AllByRecursion (λ block. P block.cells) s.machine.blocks → AllByRecursion (λ block. P block.cells) after.blocks)
        → after.objects ≡ s.machine.objects
        → Goes (onward (point_on stack) stack) (record s { machine = after; schedule = schedule })
    shift_to after schedule since values cells objects = (
      suc here.at,
      stack,
      choices,
      refl,
      subst (λ st. AreTracked whole known (moved here (suc here.at) st (lasts_to after)) after ws) so
          (shift whole known here s.machine after ws its is_at right (lasts_to after) after_lasts place is since values
          (cells (TrackedCells whole known (moved here (suc here.at) here.stack (lasts_to after)) after ws)) objects are),
      subst (λ st. AreBytesTracked whole known (moved here (suc here.at) st (lasts_to after)) after ws) so
          (bytes_stay whole known here s.machine ws its is_at deep (lasts_to after) (op.Shift place) is (suc here.at) here.stack refl after tt tt
          (record { places = λ i low. refl; values = values }) bytes),
    )
      where
        after_lasts : (n : ℕ) → here.lasting n ≡ true → lasts_to after n ≡ true
        after_lasts = lasts_since (shifting (purges_in (slice_get program.setting.routines place))) refl after since

    shift_goes : (found : Option BoundRoutine) → slice_get program.setting.routines place ≡ found
        → RanTo E Goes (then_with (λ it. give (onward (point_on stack) stack)) (decided_by found s))
    shift_goes None found =
        shift_to s.machine s.schedule (since_refl (shifting (purges_in (slice_get program.setting.routines place))) s.machine.blocks) (λ x. refl)
        (λ P cells. cells) refl
    shift_goes (Some it) found = by_powers (it.routine.moves || it.routine.purges)
      where
        after : Machine
        after = with_blocks (shift_blocks (powers_of it) (next_decision s.schedule) s.machine.blocks) s.machine

        values : (x : Variable) → value_of after x ≡ value_of s.machine x
        values (name.Global g) = refl
        values (name.Local i) = refl

        by_powers : (z : Bool) → RanTo E Goes (then_with (λ it. give (onward (point_on stack) stack)) (either z (decided (powers_of it)) (give tt) s))
        by_powers false =
            shift_to s.machine s.schedule (since_refl (shifting (purges_in (slice_get program.setting.routines place))) s.machine.blocks) (λ x. refl)
            (λ P cells. cells) refl
        by_powers true =
            shift_to after (after_decision (powers_of it) s).schedule
            (subst (λ f. Since (shifting (purges_in f)) s.machine.blocks after.blocks) (sym found)
            (shift_since (powers_of it) (next_decision s.schedule) s.machine.blocks)) values
            (λ P cells. cells_shifted P (powers_of it) (next_decision s.schedule) 1 s.machine.blocks cells) refl

  -- ---- a value that is brought to the top

  bring_goes : (place : ℕ) → its.op ≡ op.Bring place → IsBrought here place → (stack : List Value) → here.stack ≡ stack → StepOn (op.Bring place) stack
  bring_goes place is it stack so = (
    suc here.at,
    brought place stack,
    choices,
    refl,
    bring whole known here s.machine ws its is_at (lasts_to s.machine) same_lasts place is (brought place stack) it.0 it.1 it.2.0 it.2.1 it.3 new are,
    bytes_bring whole known here s.machine ws its is_at (lasts_to s.machine) same_lasts place is (brought place stack) deep it.0 it.1 it.2.0 it.2.1
        it.3 new bytes,
  )
    where
      new : brought place stack ≡ it.2.0 ∷ it.2.1
      new = ap (brought place) (sym so) ∙ ap (λ n. brought n here.stack) it.1 ∙ ap (on_top here.stack) it.3

  -- ---- all of them

  on_stack_so : (a_slot : (x : Variable) → its.op ≡ op.Set x → IsSlot s.machine x)
      (brings : (place : ℕ) → its.op ≡ op.Bring place → IsBrought here place) (o : Op)
      → its.op ≡ o → IsOrdinary o → (stack : List Value) → here.stack ≡ stack → StepOn o stack
  on_stack_so a_slot brings (op.Num bits) is plain stack so =
      push_goes (op.Num bits) is tt tt stack (takes_none (op.Num bits) refl stack so) refl (number bits) tt stack
  on_stack_so a_slot brings op.Nil is plain stack so = push_goes op.Nil is tt tt stack (takes_none op.Nil refl stack so) refl (pointer Nil) tt stack
  on_stack_so a_slot brings (op.Address o) is plain stack so = address_goes o is stack so
  on_stack_so a_slot brings (op.Get x) is plain stack so = get_goes x is stack so
  on_stack_so a_slot brings (op.Set x) is plain stack so = set_goes x is (a_slot x is) stack so
  on_stack_so a_slot brings op.Drop is plain stack so = drop_one is stack so
  on_stack_so a_slot brings op.Dup is plain stack so = dup_goes is stack so
  on_stack_so a_slot brings op.Tuck is plain stack so = tuck_goes is stack so
  on_stack_so a_slot brings (op.Conv kind) is plain stack so = conv_goes kind is stack so
  on_stack_so a_slot brings (op.Unary u) is plain stack so = sign_goes u is stack so
  on_stack_so a_slot brings (op.Binary b kind) is plain stack so = binary_goes b kind is stack so
  on_stack_so a_slot brings op.IsNil is plain stack so = is_nil_goes is stack so
  on_stack_so a_slot brings (op.Compare c) is plain stack so = compare_goes c is stack so
  on_stack_so a_slot brings (op.Difference size) is plain stack so = difference_goes size is stack so
  on_stack_so a_slot brings (op.Jump target) is plain stack so =
      drop_goes (op.Jump target) is tt tt stack (takes_none (op.Jump target) refl stack so) target refl choices s.turns
  on_stack_so a_slot brings (op.Zero target) is plain stack so = zero_goes target is stack so
  on_stack_so a_slot brings (op.Choose goal) is plain stack so = choose_goes goal is stack so
  on_stack_so a_slot brings op.Turn is plain stack so = turn_goes is stack so s.turns
  on_stack_so a_slot brings op.Mark is plain stack so = drop_goes op.Mark is tt tt stack (takes_none op.Mark refl stack so) (suc here.at) refl choices s.turns
  on_stack_so a_slot brings (op.Pick target) is plain stack so = pick_goes target is stack so (next_choice choices)
  on_stack_so a_slot brings (op.Load reached) is plain stack so = load_goes reached is stack so
  on_stack_so a_slot brings (op.Store reached) is plain stack so = store_goes reached is stack so
  on_stack_so a_slot brings (op.Offset by) is plain stack so = offset_goes by is stack so
  on_stack_so a_slot brings (op.Step stride pointer_first) is plain stack so = step_goes stride pointer_first is stack so
  on_stack_so a_slot brings (op.Shift place) is plain stack so = shift_goes place is stack so (slice_get program.setting.routines place) refl
  on_stack_so a_slot brings (op.Routine place) is plain stack so = absurd plain
  on_stack_so a_slot brings (op.Call fn) is plain stack so = absurd plain
  on_stack_so a_slot brings op.Return is plain stack so = absurd plain
  on_stack_so a_slot brings (op.Bring place) is plain stack so = bring_goes place is (brings place is) stack so

  -- The step of such an operation, as the machine does it.
  pub within_tracked : ((x : Variable) → its.op ≡ op.Set x → IsSlot s.machine x) → ((place : ℕ) → its.op ≡ op.Bring place → IsBrought here place) → (o : Op)
      → its.op ≡ o → IsOrdinary o → RanTo E Goes (by_stack program its.at (point_of here ws choices) o here.stack s)
  within_tracked a_slot brings o is plain = on_stack_so a_slot brings o is plain here.stack refl
