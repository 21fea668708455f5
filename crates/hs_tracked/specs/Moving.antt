-- Operations that leave the machine as it is: where their values go, and which rule of the flow each of them needs (own).
--     drops, pushes                what is below the operands stays, and a value without facts is put on top: the row `stays`
--     dup, tuck, get               the rows `dup_also`; `tuck_low`, `tuck_top`, `tuck_moved`; `get_also`
--     offset, step                 a pointer that is moved inside its block: the rows `offset_pointer`, `step_pointer`
use Rattle.std.proofs.Common.{◌≡◌, ◌≤◌, inr, ℤ, ℕ, pos, suc, ◌-◌, ◌+ℤ◌, Bool, true, false, List, ◌∷◌, length, Some, None, refl, sym, ap, ◌∙◌, subst, arith, if◌then◌else◌}
use Rattle.hs_calls.specs.Calls.{Here, Wait, moved}
use Rattle.hs_chains.specs.Knowledge.{Knowledge}
use Rattle.hs_code.specs.Following.{IsNext}
use Rattle.hs_code.specs.declared.function_code.Placed.{Placed}
use Rattle.hs_code.specs.declared.op.Op.{Op}
use Rattle.hs_code.specs.declared.op.Op.TheVariants as op
use Rattle.hs_code.specs.Stacks.{Scope}
use Rattle.hs_facts.specs.Effects.{WholeCode}
use Rattle.hs_facts.specs.Names.{taken}
use Rattle.hs_flow.specs.Among.{Among}
use Rattle.hs_flow.specs.Laws.Coming as rows
use Rattle.hs_flow.specs.Laws.Staying.{LeavesSlots}
use Rattle.hs_flow.specs.Given.{Given}
use Rattle.hs_flow.specs.Next.{at_slot, next_of, is_of_pointers, pointer_place}
use Rattle.hs_flow.specs.Programs.{scope_at}
use Rattle.hs_flow.specs.declared.fact.FactStatus.{FactStatus}
use Rattle.hs_flow.specs.declared.fact.FactStatus.TheVariants as status
use Rattle.hs_flow.specs.declared.fact.Slot as flow_slot
use Rattle.hs_flow.specs.declared.fact.Slot.TheVariants as slot
use Rattle.hs_heap.specs.Blocks.{Block}
use Rattle.hs_heap.specs.Memory.{block_at}
use Rattle.hs_heap.specs.declared.cell.Pointer.{Pointer}
use Rattle.hs_heap.specs.declared.cell.Pointer.TheVariants.{Nil, Fixed, Handle, Spot}
use Rattle.hs_hiding.specs.Holding.{value_of}
use Rattle.hs_meaning.specs.Machine.{Machine}
use Rattle.hs_meaning.specs.Pointers.{moved_by, moved_stop}
use Rattle.hs_meaning.specs.Values.{Value, pointer}
use Rattle.hs_tracked.specs.Going.{IsAt, Leaves, leads, value_goes, classes, rest_stays, goes_tracked}
use Rattle.hs_tracked.specs.Passing.{PointersPass, StaysCurrent, pass_value, pass_spot, same_spot}
use Rattle.hs_tracked.specs.Tracking.{MeansHere, TrackedPointer, Tracked, TrackedPlaces, AreTracked}
use Rattle.hs_tree.specs.declared.head.Variable.{Variable}
use Rattle.hs_tree.specs.declared.operators.Stride.{Stride}

-- a status of a current pointer is a status of pointers
pub pointer_status : (whole : WholeCode) (its : FactStatus) (here : Here) (machine : Machine) (n : ℕ) → MeansHere whole its here machine n
    → is_of_pointers its ≡ true
pointer_status whole (status.Fresh h) here machine n means = refl
pointer_status whole status.Held here machine n means = refl
pointer_status whole status.Outer here machine n means = refl
pointer_status whole status.Loose here machine n means = refl
pointer_status whole other here machine n means = absurd means

module _ (whole : WholeCode) (known : Knowledge) (here : Here) (machine : Machine) (ws : List Wait) (its : Placed) (is_at : IsAt whole known here its)
    (lasting : ℕ → Bool) (lasts : (n : ℕ) → here.lasting n ≡ true → lasting n ≡ true) where
  -- what is known at the operation
  abbrev facts : Given
  facts = known.at here.fn here.at

  -- what the kinds of the operations depend on
  abbrev kinds : Scope
  kinds = scope_at whole here.fn

  -- the fact of the one slot gives that of the other
  abbrev Gives : Op → FactStatus → flow_slot.Slot → flow_slot.Slot → Type 0
  Gives form status of to = Among (next_of kinds (length whole.classes) facts form (at_slot status of)) (at_slot status to)

  module _ (form : Op) (is : its.op ≡ form) (at : ℕ) (stack : List Value) (goes : IsNext form here.function.code.cases here.at at) where
    -- the call after the operation
    abbrev next : Here
    next = moved here at stack lasting

    pub same_machine : Leaves whole known here machine ws its is_at form is at stack lasting goes machine
    same_machine =
        record {
          blocks = λ n block there. record { block = block; there = there; epoch = refl; marked = λ so. so; gone = λ so. so };
          values = λ x. refl;
          lasts = lasts;
        }

    module _ (leaves_slots : LeavesSlots form) where
      -- a value that goes from one slot to another
      moves : (of of' to to' : flow_slot.Slot) → of ≡ of' → to ≡ to' → ((status : FactStatus) → Gives form status of' to') → (v : Value)
          → Tracked whole known here machine ws of v → Tracked whole known next machine ws to v
      moves of of' to to' of_same to_same rule v tracked =
          subst (λ s. Tracked whole known next machine ws s v) (sym to_same)
          (pass_value whole known here next machine machine ws
          (classes whole known here machine ws its is_at form is at stack lasting goes machine same_machine leaves_slots) of' to' v
          (value_goes whole known here machine ws its is_at form is at stack lasting goes machine same_machine of' to' rule v)
          (subst (λ s. Tracked whole known here machine ws s v) of_same tracked))

      -- values below the operands
      stay : (rest : List Value) → facts.places - taken kinds form ≡ length rest → TrackedPlaces whole known here machine ws rest
          → TrackedPlaces whole known next machine ws rest
      stay rest so are =
          rest_stays whole known here machine ws its is_at form is at stack lasting goes machine same_machine leaves_slots rest so are

      -- all, if the places are
      with_places : AreTracked whole known here machine ws → TrackedPlaces whole known next machine ws stack → AreTracked whole known next machine ws
      with_places are places =
          goes_tracked whole known here machine ws its is_at form is at stack lasting goes machine same_machine leaves_slots are places (λ cells. cells)
          (λ cells. cells)

  no_less : (n : ℕ) → n - 0 ≡ n
  no_less n = omega arith

  -- ---- operands are taken, and a value without facts is put on top

  module _ (form : Op) (is : its.op ≡ form) (leaves_slots : LeavesSlots form) (rest : List Value)
      (below : facts.places - taken kinds form ≡ length rest) (are : AreTracked whole known here machine ws)
      (places : TrackedPlaces whole known here machine ws rest) where
    -- Drop, Zero, Choose, Jump, Turn, Mark and Pick
    pub drops : (at : ℕ) → IsNext form here.function.code.cases here.at at → AreTracked whole known (moved here at rest lasting) machine ws
    drops at goes = with_places form is at rest goes leaves_slots are (stay form is at rest goes leaves_slots rest below places)

    -- Num, Nil, Address, Conv, Unary, Binary, IsNil, Compare, Difference, and a load of a number: the value is no handle and no pointer into a block
    pub pushes : IsNext form here.function.code.cases here.at (suc here.at) → (v : Value)
        → Tracked whole known (moved here (suc here.at) (v ∷ rest) lasting) machine ws (slot.Place (length rest)) v
        → AreTracked whole known (moved here (suc here.at) (v ∷ rest) lasting) machine ws
    pushes goes v tracked =
        with_places form is (suc here.at) (v ∷ rest) goes leaves_slots are (tracked, stay form is (suc here.at) (v ∷ rest) goes leaves_slots rest below places)

  -- ---- copies

  -- Dup: a copy of the top
  pub dup : its.op ≡ op.Dup → (v : Value) (rest : List Value) → here.stack ≡ v ∷ rest → AreTracked whole known here machine ws
      → AreTracked whole known (moved here (suc here.at) (v ∷ v ∷ rest) lasting) machine ws
  dup is v rest so are =
      with_places op.Dup is (suc here.at) (v ∷ v ∷ rest) refl tt are (
        moves op.Dup is (suc here.at) (v ∷ v ∷ rest) refl tt (slot.Place (length rest)) (slot.Place (facts.places - 1)) (slot.Place (suc (length rest)))
            (slot.Place facts.places) (ap slot.Place top) (ap slot.Place (sym many)) (rows.dup_also kinds (length whole.classes) facts) v tops.0,
        stay op.Dup is (suc here.at) (v ∷ v ∷ rest) refl tt (v ∷ rest) (no_less facts.places ∙ many) tops,
      )
    where
      many : facts.places ≡ suc (length rest)
      many = is_at.deep ∙ ap length so

      top : length rest ≡ facts.places - 1
      top = omega (arith, many)

      tops : TrackedPlaces whole known here machine ws (v ∷ rest)
      tops = subst (TrackedPlaces whole known here machine ws) so are.places

  -- Tuck: a copy of the top below the value under it
  pub tuck : its.op ≡ op.Tuck → (v under : Value) (rest : List Value) → here.stack ≡ v ∷ under ∷ rest → AreTracked whole known here machine ws
      → AreTracked whole known (moved here (suc here.at) (v ∷ under ∷ v ∷ rest) lasting) machine ws
  tuck is v under rest so are =
      with_places op.Tuck is (suc here.at) (v ∷ under ∷ v ∷ rest) refl tt are (
        goes (suc (length rest)) (facts.places - 1) (suc (suc (length rest))) facts.places top (sym many)
            (λ status. rows.tuck_top kinds (length whole.classes) facts status two) v tops.0,
        (
          goes (length rest) (facts.places - 2) (suc (length rest)) (facts.places - 1) low top (rows.tuck_moved kinds (length whole.classes) facts)
              under tops.1.0,
          (
            goes (suc (length rest)) (facts.places - 1) (length rest) (facts.places - 2) top low
                (λ status. rows.tuck_low kinds (length whole.classes) facts status two) v tops.0,
            stay op.Tuck is (suc here.at) (v ∷ under ∷ v ∷ rest) refl tt rest (sym low) tops.1.1,
          ),
        ),
      )
    where
      many : facts.places ≡ suc (suc (length rest))
      many = is_at.deep ∙ ap length so

      top : suc (length rest) ≡ facts.places - 1
      top = omega (arith, many)

      low : length rest ≡ facts.places - 2
      low = omega (arith, many)

      two : 2 ≤ facts.places
      two = omega (arith, many)

      tops : TrackedPlaces whole known here machine ws (v ∷ under ∷ rest)
      tops = subst (TrackedPlaces whole known here machine ws) so are.places

      goes : (i i' j j' : ℕ) → i ≡ i' → j ≡ j' → ((status : FactStatus) → Gives op.Tuck status (slot.Place i') (slot.Place j')) → (u : Value)
          → Tracked whole known here machine ws (slot.Place i) u
          → Tracked whole known (moved here (suc here.at) (v ∷ under ∷ v ∷ rest) lasting) machine ws (slot.Place j) u
      goes i i' j j' from to rule u tracked =
          moves op.Tuck is (suc here.at) (v ∷ under ∷ v ∷ rest) refl tt (slot.Place i) (slot.Place i') (slot.Place j) (slot.Place j') (ap slot.Place from)
          (ap slot.Place to) rule u tracked

  -- Get: the value of the variable
  pub get : (x : Variable) → its.op ≡ op.Get x → (v : Value) → value_of machine x ≡ Some v → AreTracked whole known here machine ws
      → AreTracked whole known (moved here (suc here.at) (v ∷ here.stack) lasting) machine ws
  get x is v holds are =
      with_places (op.Get x) is (suc here.at) (v ∷ here.stack) refl tt are (
        moves (op.Get x) is (suc here.at) (v ∷ here.stack) refl tt (slot.Variable x) (slot.Variable x) (slot.Place (length here.stack))
            (slot.Place facts.places) refl (ap slot.Place (sym is_at.deep)) (rows.get_also kinds (length whole.classes) facts x) v (are.variables x v holds),
        stay (op.Get x) is (suc here.at) (v ∷ here.stack) refl tt here.stack (no_less facts.places ∙ is_at.deep) are.places,
      )

  -- ---- pointers that are moved inside their block

  module _ (form : Op) (is : its.op ≡ form) (goes : IsNext form here.function.code.cases here.at (suc here.at)) (stack : List Value) (i j : ℕ)
      (rule : (status : FactStatus) → is_of_pointers status ≡ true → Gives form status (slot.Place i) (slot.Place j)) where
    -- the call after the operation
    abbrev later : Here
    later = moved here (suc here.at) stack lasting

    steps_on : PointersPass whole known here later machine machine ws (slot.Place i) (slot.Place j)
    steps_on =
        record {
          stale = leads whole known here machine ws its is_at form is (suc here.at) stack lasting goes machine (slot.Place i) (slot.Place j) status.Stale
              status.Stale (rule status.Stale refl);
          current = λ status n block there means. inr (still status n block there means);
        }
      where
        means_still : (status : FactStatus) (n : ℕ) → MeansHere whole status here machine n → MeansHere whole status later machine n
        means_still (status.Fresh h) n means = means
        means_still status.Held n means = lasts n means
        means_still status.Outer n means = tt
        means_still status.Loose n means = tt
        means_still other n means = absurd means

        still : (status : FactStatus) (n : ℕ) (block : Block) → block_at machine.blocks n ≡ Some block → MeansHere whole status here machine n
            → StaysCurrent whole known here later machine machine ws (slot.Place i) (slot.Place j) status n block
        still status n block there means =
            record {
              block = block;
              there = there;
              epoch = refl;
              alive = λ so. so;
              status = status;
              brings = leads whole known here machine ws its is_at form is (suc here.at) stack lasting goes machine (slot.Place i) (slot.Place j) status status
                  (rule status (pointer_status whole status here machine n means));
              means = means_still status n means;
              backed = λ calls backed. backed;
            }

    -- by so many bytes; NIL and handles stop
    moved_tracked : (p : Pointer) (bytes : ℤ) → moved_stop bytes p ≡ None → TrackedPointer whole known here machine ws (slot.Place i) p
        → TrackedPointer whole known later machine ws (slot.Place j) (moved_by bytes p)
    moved_tracked Nil bytes no_stop tracked = tt
    moved_tracked (Fixed object at) bytes no_stop tracked = tt
    moved_tracked (Handle n) bytes no_stop tracked = absurd cc
    moved_tracked (Spot from) bytes no_stop tracked =
        same_spot whole known later machine ws (slot.Place j) from (record from { offset = from.offset +ℤ bytes }) refl refl
        (pass_spot whole known here later machine machine ws (slot.Place i) (slot.Place j) steps_on from tracked)

  -- Offset: the pointer on top
  pub offset : (bytes : ℕ) → its.op ≡ op.Offset bytes → (p : Pointer) (rest : List Value) → here.stack ≡ pointer p ∷ rest
      → moved_stop (pos bytes) p ≡ None → AreTracked whole known here machine ws
      → AreTracked whole known (moved here (suc here.at) (pointer (moved_by (pos bytes) p) ∷ rest) lasting) machine ws
  offset bytes is p rest so no_stop are =
      pushes (op.Offset bytes) is tt rest below are tops.1 refl (pointer (moved_by (pos bytes) p))
      (moved_tracked (op.Offset bytes) is refl (pointer (moved_by (pos bytes) p) ∷ rest) (length rest) (length rest) rule p (pos bytes) no_stop tops.0)
    where
      many : facts.places ≡ suc (length rest)
      many = is_at.deep ∙ ap length so

      below : facts.places - 1 ≡ length rest
      below = omega (arith, many)

      rule : (status : FactStatus) → is_of_pointers status ≡ true → Gives (op.Offset bytes) status (slot.Place (length rest)) (slot.Place (length rest))
      rule status is_pointer =
          subst (λ n. Gives (op.Offset bytes) status (slot.Place n) (slot.Place n)) below
          (rows.offset_pointer kinds (length whole.classes) facts bytes status is_pointer)

      tops : TrackedPlaces whole known here machine ws (pointer p ∷ rest)
      tops = subst (TrackedPlaces whole known here machine ws) so are.places

  -- Step: the pointer is on top or below it, as the operation says
  pub step : (stride : Stride) (pointer_first : Bool) → its.op ≡ op.Step stride pointer_first → (top under : Value) (rest : List Value)
      → here.stack ≡ top ∷ under ∷ rest → (p : Pointer) → (if pointer_first then under else top) ≡ pointer p → (bytes : ℤ) → moved_stop bytes p ≡ None
      → AreTracked whole known here machine ws
      → AreTracked whole known (moved here (suc here.at) (pointer (moved_by bytes p) ∷ rest) lasting) machine ws
  step stride pointer_first is top under rest so p is_pointer bytes no_stop are =
      pushes (op.Step stride pointer_first) is tt rest below are tops.1.1 refl (pointer (moved_by bytes p)) (by_side pointer_first refl is_pointer)
    where
      many : facts.places ≡ suc (suc (length rest))
      many = is_at.deep ∙ ap length so

      below : facts.places - 2 ≡ length rest
      below = omega (arith, many)

      above : facts.places - 1 ≡ suc (length rest)
      above = omega (arith, many)

      tops : TrackedPlaces whole known here machine ws (top ∷ under ∷ rest)
      tops = subst (TrackedPlaces whole known here machine ws) so are.places

      by_place : (i : ℕ) → pointer_place pointer_first facts.places ≡ i → TrackedPointer whole known here machine ws (slot.Place i) p
          → TrackedPointer whole known (moved here (suc here.at) (pointer (moved_by bytes p) ∷ rest) lasting) machine ws (slot.Place (length rest))
          (moved_by bytes p)
      by_place i from tracked =
          moved_tracked (op.Step stride pointer_first) is refl (pointer (moved_by bytes p) ∷ rest) i (length rest)
          (λ status is_pointers.
          subst (λ n. Gives (op.Step stride pointer_first) status (slot.Place n) (slot.Place (length rest))) from
          (subst (λ n. Gives (op.Step stride pointer_first) status (slot.Place (pointer_place pointer_first facts.places)) (slot.Place n)) below
          (rows.step_pointer kinds (length whole.classes) facts stride pointer_first status is_pointers))) p bytes no_stop tracked

      by_side : (z : Bool) → pointer_first ≡ z → (if z then under else top) ≡ pointer p
          → TrackedPointer whole known (moved here (suc here.at) (pointer (moved_by bytes p) ∷ rest) lasting) machine ws (slot.Place (length rest))
          (moved_by bytes p)
      by_side true first value =
          by_place (length rest) (ap (λ b. pointer_place b facts.places) first ∙ below)
          (subst (Tracked whole known here machine ws (slot.Place (length rest))) value tops.1.0)
      by_side false first value =
          by_place (suc (length rest)) (ap (λ b. pointer_place b facts.places) first ∙ above)
          (subst (Tracked whole known here machine ws (slot.Place (suc (length rest)))) value tops.0)
