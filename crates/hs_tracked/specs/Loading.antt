-- Loads: what memory holds has the facts of its class, and a pointer that is loaded from a handle is fresh from a name of the handle, or loose (own).
--     load_cells          the rows `stays` and `load_class`
--     load_master         the row `load_fresh`
use Rattle.std.proofs.Common.{◌≡◌, inr, ℕ, suc, ◌-◌, Bool, true, false, List, [], ◌∷◌, length, map, Option, Some, None, refl, sym, ap, ◌∙◌, subst, arith, if◌then◌else◌}
use Rattle.std.specs.List.{list_all}
use Rattle.hs_base.specs.Entries.{all_so}
use Rattle.hs_calls.specs.Calls.{Here, Wait, moved}
use Rattle.hs_chains.specs.Knowledge.{Knowledge}
use Rattle.hs_code.specs.declared.function_code.Placed.{Placed}
use Rattle.hs_code.specs.declared.op.Access.TheVariants as access
use Rattle.hs_code.specs.declared.op.Op.TheVariants as op
use Rattle.hs_code.specs.declared.op.Access as code_access
use Rattle.hs_code_run.specs.Steps.{access_of}
use Rattle.hs_facts.specs.Effects.{WholeCode}
use Rattle.hs_flow.specs.Given.{Given, least_name}
use Rattle.hs_flow.specs.Laws.Coming as rows
use Rattle.hs_flow.specs.Laws.Naming.{least_name_with}
use Rattle.hs_flow.specs.Next.{derived}
use Rattle.hs_flow.specs.Programs.{scope_at}
use Rattle.hs_flow.specs.declared.fact.FactStatus.TheVariants as status
use Rattle.hs_flow.specs.declared.fact.Slot as flow_slot
use Rattle.hs_flow.specs.declared.fact.Slot.TheVariants as slot
use Rattle.hs_heap.specs.Blocks.{Block, master_of}
use Rattle.hs_heap.specs.Memory.{block_at}
use Rattle.hs_heap.specs.declared.cell.Cell.{Cell}
use Rattle.hs_heap.specs.declared.cell.Cell.TheVariants.{Undefined, Byte, State, Part}
use Rattle.hs_heap.specs.declared.cell.Pointer.{Pointer}
use Rattle.hs_heap.specs.declared.cell.Pointer.TheVariants.{Handle}
use Rattle.hs_heap.specs.declared.presence.Presence.{Presence}
use Rattle.hs_heap.specs.declared.presence.Presence.TheVariants.{Present, Emptied, Purged, Disposed}
use Rattle.hs_hiding.specs.Joining.{pointer_is, IfThere, PartOf}
use Rattle.hs_meaning.specs.Accesses.{cells_at, master_pointer}
use Rattle.hs_meaning.specs.Machine.{Machine}
use Rattle.hs_meaning.specs.Values.{Value, pointer, of_number, of_pointer, of_struct, length_of, value_in, with_pointer, pointer_at, or_nothing, is_byte, byte_in, bits_after, number}
use Rattle.hs_must.specs.Answers.{names_in}
use Rattle.hs_sound_heap.specs.Since.{is_purged}
use Rattle.hs_tracked.specs.Cells.{cells_read}
use Rattle.hs_tracked.specs.Going.{IsAt, Leaves, leads, value_goes, classes}
use Rattle.hs_tracked.specs.Moving.{same_machine, pushes}
use Rattle.hs_tracked.specs.Passing.{goes_on, pass_value, pass_cells, same_spot, fresh_backed, loose_backed}
use Rattle.hs_tracked.specs.Right.{AreRight}
use Rattle.hs_tracked.specs.Tracking.{NameHolds, MeansHere, Backed, HasChain, TrackedHandle, TrackedPointer, TrackedCell, TrackedCells, TrackedPlaces, Tracked, AreTracked}
use Rattle.hs_truth.specs.Places.{at_place, the_top}
use Rattle.hs_types.specs.Integers.{converted}
use Rattle.hs_types.specs.declared.integer.Integer.{Integer}

module _ (whole : WholeCode) (known : Knowledge) (here : Here) (machine : Machine) (ws : List Wait) where
  -- ---- what cells hold

  -- a pointer that is put together from parts has what is known of the class
  parts_are : (class : ℕ) (cell : Cell) → TrackedCell whole known here machine ws cell
      → PartOf (TrackedPointer whole known here machine ws (slot.Class class)) tt (same_spot whole known here machine ws (slot.Class class)) class cell
  parts_are class Undefined is = tt
  parts_are class (Byte byte) is = tt
  parts_are class (State byte) is = tt
  parts_are class (Part at its c) is = λ same. subst (λ k. TrackedPointer whole known here machine ws (slot.Class k) its) same is

  pointer_found : (class : ℕ) (cells : List Cell) → TrackedCells whole known here machine ws cells → (found : Option Pointer) → pointer_at class cells ≡ found
      → Tracked whole known here machine ws (slot.Class class) (or_nothing (with_pointer found))
  pointer_found class cells are None is = tt
  pointer_found class cells are (Some p) is =
      subst (IfThere (TrackedPointer whole known here machine ws (slot.Class class)) tt (same_spot whole known here machine ws (slot.Class class))) is
      (pointer_is (TrackedPointer whole known here machine ws (slot.Class class)) tt (same_spot whole known here machine ws (slot.Class class)) class cells
      (all_so (TrackedCell whole known here machine ws)
      (PartOf (TrackedPointer whole known here machine ws (slot.Class class)) tt (same_spot whole known here machine ws (slot.Class class)) class)
      (parts_are class) cells are))

  -- a number has no facts
  number_found : (kind : Integer) (cells : List Cell) (of : flow_slot.Slot) → Tracked whole known here machine ws of (value_in (of_number kind) cells)
  number_found kind (State byte ∷ []) of = tt
  number_found kind (State byte ∷ c ∷ cells) of = by_test (list_all is_byte (State byte ∷ c ∷ cells))
    where
      by_test : (z : Bool) → Tracked whole known here machine ws of
          (or_nothing (if z then Some (number (converted kind (bits_after 0 (map byte_in (State byte ∷ c ∷ cells))))) else None))
      by_test true = tt
      by_test false = tt
  number_found kind [] of = tt
  number_found kind (Undefined ∷ cells) of = tt
  number_found kind (Part at its c ∷ cells) of = tt
  number_found kind (Byte byte ∷ cells) of = by_test (list_all is_byte (Byte byte ∷ cells))
    where
      by_test : (z : Bool) → Tracked whole known here machine ws of
          (or_nothing (if z then Some (number (converted kind (bits_after 0 (map byte_in (Byte byte ∷ cells))))) else None))
      by_test true = tt
      by_test false = tt

module _ (whole : WholeCode) (known : Knowledge) (here : Here) (machine : Machine) (ws : List Wait) (its : Placed) (is_at : IsAt whole known here its)
    (lasting : ℕ → Bool) (lasts : (n : ℕ) → here.lasting n ≡ true → lasting n ≡ true) (p : Pointer) (rest : List Value)
    (so : here.stack ≡ pointer p ∷ rest) (are : AreTracked whole known here machine ws) where
  -- what is known at the operation
  abbrev facts : Given
  facts = known.at here.fn here.at

  many : facts.places ≡ suc (length rest)
  many = is_at.deep ∙ ap length so

  top : facts.places - 1 ≡ length rest
  top = omega (arith, many)

  tops : TrackedPlaces whole known here machine ws (pointer p ∷ rest)
  tops = subst (TrackedPlaces whole known here machine ws) so are.places

  -- the call after a load of that value
  abbrev next : Value → Here
  next v = moved here (suc here.at) (v ∷ rest) lasting

  -- all is tracked, if the value is
  with_top : (reached : code_access.Access) → its.op ≡ op.Load reached → (v : Value) → Tracked whole known (next v) machine ws (slot.Place (length rest)) v
      → AreTracked whole known (next v) machine ws
  with_top reached is v tracked =
      pushes whole known here machine ws its is_at lasting lasts (op.Load reached) is tt rest top are tops.1 refl v tracked

  -- ---- cells

  read : (count : ℕ) → TrackedCells whole known here machine ws (cells_at p count machine)
  read count = cells_read (TrackedCell whole known here machine ws) p count machine are.blocks are.objects

  found_at : (reached : code_access.Access) (is : its.op ≡ op.Load reached)
      → Tracked whole known (next (value_in (access_of reached) (cells_at p (length_of (access_of reached)) machine))) machine ws (slot.Place (length rest))
      (value_in (access_of reached) (cells_at p (length_of (access_of reached)) machine))
  found_at (access.Number kind) is =
      number_found whole known (next (value_in (of_number kind) (cells_at p (length_of (of_number kind)) machine))) machine ws kind
      (cells_at p (length_of (of_number kind)) machine) (slot.Place (length rest))
  found_at (access.Struct size) is =
      pass_cells whole known here (next (value_in (of_struct size) (cells_at p size machine))) machine machine ws
      (classes whole known here machine ws its is_at (op.Load (access.Struct size)) is (suc here.at)
      (value_in (of_struct size) (cells_at p size machine) ∷ rest) lasting refl machine
      (same_machine whole known here machine ws its is_at lasting lasts (op.Load (access.Struct size)) is (suc here.at)
      (value_in (of_struct size) (cells_at p size machine) ∷ rest) refl) tt) (cells_at p size machine) (read size)
  found_at (access.Pointer class) is =
      subst (λ i. Tracked whole known (next v) machine ws (slot.Place i) v) top
      (pass_value whole known here (next v) machine machine ws
      (classes whole known here machine ws its is_at (op.Load (access.Pointer class)) is (suc here.at) (v ∷ rest) lasting refl machine same tt)
      (slot.Class class) (slot.Place (facts.places - 1)) v
      (value_goes whole known here machine ws its is_at (op.Load (access.Pointer class)) is (suc here.at) (v ∷ rest) lasting refl machine same
      (slot.Class class) (slot.Place (facts.places - 1)) (rows.load_class (scope_at whole here.fn) (length whole.classes) facts class) v)
      (pointer_found whole known here machine ws class (cells_at p 4 machine) (read 4) (pointer_at class (cells_at p 4 machine)) refl))
    where
      v : Value
      v = value_in (of_pointer class) (cells_at p 4 machine)

      same : Leaves whole known here machine ws its is_at (op.Load (access.Pointer class)) is (suc here.at) (v ∷ rest) lasting refl machine
      same = same_machine whole known here machine ws its is_at lasting lasts (op.Load (access.Pointer class)) is (suc here.at) (v ∷ rest) refl

  -- a load of what memory holds
  pub load_cells : (reached : code_access.Access) → its.op ≡ op.Load reached
      → AreTracked whole known (next (value_in (access_of reached) (cells_at p (length_of (access_of reached)) machine))) machine ws
  load_cells reached is =
      with_top reached is (value_in (access_of reached) (cells_at p (length_of (access_of reached)) machine)) (found_at reached is)

  -- ---- a master pointer

  module _ (class : ℕ) (is : its.op ≡ op.Load (access.Pointer class)) (right : AreRight whole known here machine) (n : ℕ) (handle : p ≡ Handle n)
      (block : Block) (there : block_at machine.blocks n ≡ Some block) where
    -- the top is the handle
    handle_tracked : TrackedHandle whole known here machine ws (slot.Place (length rest)) n
    handle_tracked = subst (TrackedPointer whole known here machine ws (slot.Place (length rest))) handle tops.0

    -- a name whose value the place has is one that has the handle
    name_holds : (h : ℕ) → least_name facts (facts.places - 1) ≡ Some h → NameHolds (names_in whole here.fn) machine h n
    name_holds h least =
        let its = right.with (length rest) h (subst (λ i. facts.with i h ≡ true) top (least_name_with facts (facts.places - 1) h least)) in
        (its.0, its.1, its.2.2 ∙ sym its.2.1 ∙ ap (at_place (length rest)) so ∙ the_top (length rest) (pointer p) rest refl ∙ ap (λ q. Some (pointer q)) handle)

    module _ (v : Value) where
      means_by : (name : Option ℕ) → least_name facts (facts.places - 1) ≡ name → MeansHere whole (derived name) (next v) machine n
      means_by (Some h) least = name_holds h least
      means_by None least = tt

      backed_by : (name : Option ℕ) (has : HasChain whole known (next v) ws (slot.Place (length rest)) (derived name))
          → Backed whole (derived name) has.calls ws n
      backed_by (Some h) has = fresh_backed whole h has.calls ws n
      backed_by None has = loose_backed whole has.calls ws n

      has_derived : HasChain whole known (next v) ws (slot.Place (length rest)) (derived (least_name facts (facts.places - 1)))
      has_derived =
          subst (λ i. HasChain whole known (next v) ws (slot.Place i) (derived (least_name facts (facts.places - 1)))) top
          (goes_on whole known here (next v) machine machine ws (slot.Place (facts.places - 1)) (slot.Place (facts.places - 1)) status.IsHandle
          (derived (least_name facts (facts.places - 1)))
          (leads whole known here machine ws its is_at (op.Load (access.Pointer class)) is (suc here.at) (v ∷ rest) lasting refl machine
          (slot.Place (facts.places - 1)) (slot.Place (facts.places - 1)) status.IsHandle (derived (least_name facts (facts.places - 1)))
          (rows.load_fresh (scope_at whole here.fn) (length whole.classes) facts class))
          (subst (λ i. HasChain whole known here ws (slot.Place i) status.IsHandle) (sym top) handle_tracked.is))

    -- by what the program has done to the block; of a purged or disposed one the load stops
    by_presence : (presence : Presence) → block.presence ≡ presence
        → Tracked whole known (next (pointer (master_pointer (master_of n (record block { presence = presence }))))) machine ws (slot.Place (length rest))
        (pointer (master_pointer (master_of n (record block { presence = presence }))))
    by_presence Present present =
        inr (record {
          block = block;
          there = there;
          current = refl;
          alive = ap is_purged present;
          status = derived (least_name facts (facts.places - 1));
          has = has_derived loaded;
          means = means_by loaded (least_name facts (facts.places - 1)) refl;
          backed = backed_by loaded (least_name facts (facts.places - 1)) (has_derived loaded);
        })
      where
        loaded : Value
        loaded = pointer (master_pointer (master_of n (record block { presence = Present })))
    by_presence Emptied emptied = tt
    by_presence Purged purged = tt
    by_presence Disposed disposed = tt

    -- a load from a handle
    pub load_master : AreTracked whole known (next (pointer (master_pointer (master_of n block)))) machine ws
    load_master =
        with_top (access.Pointer class) is (pointer (master_pointer (master_of n block))) (by_presence block.presence refl)
