-- Stores: the value is on top afterwards, and the class through which a pointer is stored has its facts (own).
--     store       the rows `stays`, `store_top` and `store_class`
use Rattle.std.proofs.Common.{◌≡◌, ℕ, suc, ◌-◌, Bool, true, List, [], ◌∷◌, length, map, slice_get, Option, Some, None, refl, sym, ap, ◌∙◌, subst, arith}
use Rattle.hs_calls.specs.Calls.{Here, Wait, moved}
use Rattle.hs_calls.specs.Changing.{since}
use Rattle.hs_chains.specs.Knowledge.{Knowledge}
use Rattle.hs_code.specs.declared.function_code.Placed.{Placed}
use Rattle.hs_code.specs.declared.op.Access as code_access
use Rattle.hs_code.specs.declared.op.Access.TheVariants as access
use Rattle.hs_code.specs.declared.op.Op.TheVariants as op
use Rattle.hs_code_run.specs.Steps.{access_of}
use Rattle.hs_facts.specs.Effects.{WholeCode}
use Rattle.hs_flow.specs.Among.{Among}
use Rattle.hs_flow.specs.Given.{Given}
use Rattle.hs_flow.specs.Laws.Coming as rows
use Rattle.hs_flow.specs.Next.{at_slot, next_of}
use Rattle.hs_flow.specs.Programs.{scope_at}
use Rattle.hs_flow.specs.declared.fact.FactStatus.{FactStatus}
use Rattle.hs_flow.specs.declared.fact.Slot as flow_slot
use Rattle.hs_flow.specs.declared.fact.Slot.TheVariants as slot
use Rattle.hs_heap.specs.Blocks.{Block}
use Rattle.hs_heap.specs.Memory.{block_at}
use Rattle.hs_heap.specs.declared.cell.Cell.{Cell}
use Rattle.hs_heap.specs.declared.cell.Cell.TheVariants.{Byte}
use Rattle.hs_heap.specs.declared.cell.Pointer.{Pointer}
use Rattle.hs_heap.specs.declared.cell.Pointer.TheVariants.{Nil, Fixed, Handle, Spot}
use Rattle.hs_hiding.specs.Holding.{value_of}
use Rattle.hs_meaning.specs.Accesses.{put_in_object, put_in_block, with_cells_at}
use Rattle.hs_meaning.specs.Laws.Changes.Accesses.{with_cells_at_stays}
use Rattle.hs_meaning.specs.Machine.{Machine, Object}
use Rattle.hs_meaning.specs.Values.{Value, number, pointer, state, structure, cells_for, store_stop, bytes_of}
use Rattle.hs_sound_heap.specs.Roles.{nothing}
use Rattle.hs_tracked.specs.Cells.{blocks_written, objects_written}
use Rattle.hs_tracked.specs.Going.{IsAt, Leaves, leaves_since, value_goes, classes, rest_stays, goes_tracked}
use Rattle.hs_tracked.specs.Passing.{pass_value, pass_cells}
use Rattle.hs_tracked.specs.Tracking.{TrackedPointer, TrackedCell, TrackedCells, TrackedPlaces, Tracked, AreTracked}
use Rattle.hs_tree.specs.declared.head.Variable.{Variable}
use Rattle.hs_tree.specs.declared.head.Variable.TheVariants as name
use Rattle.hs_types.specs.Integers.{integer_size}

-- cells are written, and no variable is
pub values_written : (p : Pointer) (cells : List Cell) (machine : Machine) (x : Variable) → value_of (with_cells_at p cells machine) x ≡ value_of machine x
values_written Nil cells machine x = refl
values_written (Handle n) cells machine x = refl
values_written (Fixed object at) cells machine x = by_object (slice_get machine.objects object) x
  where
    by_object : (found : Option Object) (x : Variable) → value_of (put_in_object object at cells machine found) x ≡ value_of machine x
    by_object None x = refl
    by_object (Some o) (name.Global g) = refl
    by_object (Some o) (name.Local g) = refl
values_written (Spot s) cells machine x = by_block (block_at machine.blocks s.block) x
  where
    by_block : (found : Option Block) (x : Variable) → value_of (put_in_block s cells machine found) x ≡ value_of machine x
    by_block None x = refl
    by_block (Some b) (name.Global g) = refl
    by_block (Some b) (name.Local g) = refl

module _ (whole : WholeCode) (known : Knowledge) (here : Here) (machine : Machine) (ws : List Wait) (its : Placed) (is_at : IsAt whole known here its)
    (lasting : ℕ → Bool) (lasts : (n : ℕ) → here.lasting n ≡ true → lasting n ≡ true) (reached : code_access.Access) (is : its.op ≡ op.Store reached)
    (v : Value) (p : Pointer) (rest : List Value) (so : here.stack ≡ v ∷ pointer p ∷ rest) (are : AreTracked whole known here machine ws) where
  -- what is known at the operation
  abbrev facts : Given
  facts = known.at here.fn here.at

  -- the machine after the store
  abbrev pub after : Machine
  after = with_cells_at p (cells_for (access_of reached) v) machine

  -- the call after it
  abbrev pub next : Here
  next = moved here (suc here.at) (v ∷ rest) lasting

  leaves : Leaves whole known here machine ws its is_at (op.Store reached) is (suc here.at) (v ∷ rest) lasting refl after
  leaves =
      leaves_since whole known here machine ws its is_at (op.Store reached) is (suc here.at) (v ∷ rest) lasting refl after nothing refl refl
      (with_cells_at_stays (since nothing) p (cells_for (access_of reached) v) machine) (values_written p (cells_for (access_of reached) v) machine) lasts

  many : facts.places ≡ suc (suc (length rest))
  many = is_at.deep ∙ ap length so

  top : facts.places - 1 ≡ suc (length rest)
  top = omega (arith, many)

  low : facts.places - 2 ≡ length rest
  low = omega (arith, many)

  tops : TrackedPlaces whole known here machine ws (v ∷ pointer p ∷ rest)
  tops = subst (TrackedPlaces whole known here machine ws) so are.places

  -- cells of a struct stay what they are
  struct_goes : (cells : List Cell) → TrackedCells whole known here machine ws cells → TrackedCells whole known next after ws cells
  struct_goes cells tracked =
      pass_cells whole known here next machine after ws
      (classes whole known here machine ws its is_at (op.Store reached) is (suc here.at) (v ∷ rest) lasting refl after leaves tt) cells tracked

  bytes_free : (bytes : List ℕ) → TrackedCells whole known next after ws (map Byte bytes)
  bytes_free [] = tt
  bytes_free (byte ∷ bytes) = (tt, bytes_free bytes)

  -- each fact of the top becomes one of the slot
  abbrev TopGives : code_access.Access → flow_slot.Slot → Type 0
  TopGives a to =
      (status : FactStatus) → Among (next_of (scope_at whole here.fn) (length whole.classes) facts (op.Store a)
      (at_slot status (slot.Place (facts.places - 1)))) (at_slot status to)

  -- by what is stored: the value on top, and the cells that it leaves
  by_value : (a : code_access.Access) → reached ≡ a → (u : Value) → v ≡ u → store_stop (access_of a) u ≡ None
      → Tracked whole known next after ws (slot.Place (length rest)) u × TrackedCells whole known next after ws (cells_for (access_of a) u)
  by_value (access.Number kind) same (number bits) value fits = (tt, bytes_free (bytes_of (integer_size kind) bits))
  by_value (access.Number kind) same (state byte) value fits = (tt, (tt, tt))
  by_value (access.Number kind) same (pointer q) value fits = absurd cc
  by_value (access.Number kind) same (structure cells) value fits = absurd cc
  by_value (access.Struct size) same (structure cells) value fits = (
    struct_goes cells (subst (Tracked whole known here machine ws (slot.Place (suc (length rest)))) value tops.0),
    struct_goes cells (subst (Tracked whole known here machine ws (slot.Place (suc (length rest)))) value tops.0),
  )
  by_value (access.Struct size) same (number bits) value fits = absurd cc
  by_value (access.Struct size) same (state byte) value fits = absurd cc
  by_value (access.Struct size) same (pointer q) value fits = absurd cc
  by_value (access.Pointer class) same (pointer q) value fits = (on_top, (in_class, (in_class, (in_class, (in_class, tt)))))
    where
      goes_to : (to : flow_slot.Slot) → TopGives (access.Pointer class) to → TrackedPointer whole known next after ws to q
      goes_to to rule =
          pass_value whole known here next machine after ws
          (classes whole known here machine ws its is_at (op.Store reached) is (suc here.at) (v ∷ rest) lasting refl after leaves tt)
          (slot.Place (facts.places - 1)) to (pointer q)
          (value_goes whole known here machine ws its is_at (op.Store reached) is (suc here.at) (v ∷ rest) lasting refl after leaves
          (slot.Place (facts.places - 1)) to (subst (λ a. TopGives a to) (sym same) rule) (pointer q))
          (subst (λ i. TrackedPointer whole known here machine ws (slot.Place i) q) (sym top)
          (subst (Tracked whole known here machine ws (slot.Place (suc (length rest)))) value tops.0))

      on_top : TrackedPointer whole known next after ws (slot.Place (length rest)) q
      on_top =
          subst (λ i. TrackedPointer whole known next after ws (slot.Place i) q) low
          (goes_to (slot.Place (facts.places - 2)) (rows.store_top (scope_at whole here.fn) (length whole.classes) facts class))

      in_class : TrackedPointer whole known next after ws (slot.Class class) q
      in_class = goes_to (slot.Class class) (rows.store_class (scope_at whole here.fn) (length whole.classes) facts class)
  by_value (access.Pointer class) same (number bits) value fits = absurd cc
  by_value (access.Pointer class) same (state byte) value fits = absurd cc
  by_value (access.Pointer class) same (structure cells) value fits = absurd cc

  -- a store, unless it stops
  pub store : store_stop (access_of reached) v ≡ None → AreTracked whole known next after ws
  store fits =
      let both = by_value reached refl v refl fits in
      goes_tracked whole known here machine ws its is_at (op.Store reached) is (suc here.at) (v ∷ rest) lasting refl after leaves tt are (
        both.0,
        rest_stays whole known here machine ws its is_at (op.Store reached) is (suc here.at) (v ∷ rest) lasting refl after leaves tt rest low tops.1.1,
      )
      (λ cells. blocks_written (TrackedCell whole known next after ws) p (cells_for (access_of reached) v) machine both.1 cells)
      (λ cells. objects_written (TrackedCell whole known next after ws) p (cells_for (access_of reached) v) machine both.1 cells)
