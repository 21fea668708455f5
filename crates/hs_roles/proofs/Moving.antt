-- Cells of blocks that the heap moves.
use Rattle.std.proofs.Common.{◌≡◌, ◌≤◌, ℕ, zero, suc, List, [], ◌∷◌, length, take, drop, Option, Some, None, Result, Ok, Err, refl, ap, sym, subst, ◌∙◌, slice_get, arith}
use native.Mathlib.Numerals.{unary_clauses}
use Rattle.hs_heap.specs.BlockLaws.{same_there}
use Rattle.hs_heap.specs.Blocks.{Block, loaded, loaded_at, moved, place_for, stored_at, with_cells}
use Rattle.hs_heap.specs.Memory.{Memory, ActsAs, IsMade, Moves, block_at, put_block}
use Rattle.hs_heap.specs.declared.cell.Cell.{Cell}
use Rattle.hs_heap.specs.declared.cell.Pointer.TheVariants as at
use Rattle.hs_heap.specs.declared.cell.Spot as spot
use Rattle.hs_heap.specs.declared.stop.HeapStop.{HeapStop}
use Rattle.hs_meaning.specs.Accesses.{block_stops, by_stop, cells_from, with_cells_from}
use Rattle.hs_meaning.specs.Machine.{Machine, Done, with_blocks}
use Rattle.hs_meaning.specs.Stops.{first_stop, heap_stop, stop_of}
use Rattle.hs_meaning.specs.declared.outcome.Stop.{Stop}
use Rattle.hs_roles.proofs.Placing.{placed, same_items, taken}
use Rattle.hs_roles.specs.Parts.{copies}
use Rattle.hs_state.specs.Machines.{Does}
use Rattle.hs_values.specs.Answers.{or_first}
use Rattle.hs_values.specs.declared.halt.Halt.TheVariants.{Stopped}
use Rattle.hs_values.specs.declared.halt.Halt.{Halt}

-- a block of that number, put there again
same_block : (blocks : List Block) (number : ℕ) (block : Block) → block_at blocks number ≡ Some block → put_block blocks number block ≡ blocks
same_block blocks zero block there = absurd (cc)
same_block blocks (suc place) block there = simp unary_clauses (same_there blocks place block there)

-- with its result
abbrev pub answered : Result Unit HeapStop → Result Unit Halt
answered (Ok it) = Ok tt
answered (Err why) = Err (Stopped (stop_of why))

-- its stop
abbrev error_of : Result Unit HeapStop → Option Stop
error_of (Ok it) = None
error_of (Err why) = Some (stop_of why)

-- as a test of a pointer answers it
abbrev pub tested : Result Unit HeapStop → Result Unit Stop
tested (Ok it) = Ok tt
tested (Err why) = Err (stop_of why)

-- what was made is there
item_there : {A : Type 0} (items : List A) (place : ℕ) → suc place ≤ length items → (it : A) × (slice_get items place ≡ Some it)
item_there [] place below = absurd (omega arith)
item_there (first ∷ rest) zero below = (first, refl)
item_there (first ∷ rest) (suc place) below = item_there rest place (omega arith)

-- by its number
made : (blocks : List Block) (number : ℕ) → 1 ≤ number → number ≤ length blocks → (block : Block) × (block_at blocks number ≡ Some block)
made blocks zero least most = absurd (omega arith)
made blocks (suc place) least most = item_there blocks place most

module _ (from to : spot.Spot) (count : ℕ) (first second : Block) where
  -- the first pointer is tested first
  moved_not : (why : HeapStop) → place_for from count first ≡ Err why → moved to (loaded from count first) second ≡ Err why
  moved_not why one = ap (λ its. moved to (loaded_at count first its) second) one

  -- then the second one, with as many cells
  moved_by : (here : ℕ) (place : Result ℕ HeapStop) → place_for from count first ≡ Ok here → place_for to count second ≡ place
      → moved to (loaded from count first) second ≡ stored_at (take count (drop here first.cells)) second place
  moved_by here place one two =
      let inside = placed from count here first one
      in ap (λ its. moved to (loaded_at count first its) second) one
      ∙ ap (λ n. stored_at (take count (drop here first.cells)) second (place_for to n second)) (taken first.cells here count inside.1)
      ∙ ap (stored_at (take count (drop here first.cells)) second) two

-- cells that are put where they were
put_back : (its : spot.Spot) (count here : ℕ) (block : Block) → place_for its count block ≡ Ok here
    → with_cells here (take count (drop here block.cells)) block ≡ block
put_back its count here block one =
    ap {A = List Cell} (λ cells. record block { cells = cells }) (same_items block.cells here count (placed its count here block one).1)

module _ (its : spot.Spot) (count : ℕ) (old new : Memory) (block : Block) (is_there : block_at old.blocks its.block ≡ Some block) where
  -- a move of cells onto themselves
  itself : (place : Result ℕ HeapStop) (result : Result Unit HeapStop) → place_for its count block ≡ place
      → ActsAs (moved its (loaded its count block) block) its.block old new result → (heap_stop place ≡ error_of result) × (new ≡ old)
  itself (Ok here) (Ok it) is acts =
      let same = moved_by its its count block block here (Ok here) is is ∙ ap {A = Block} Ok (put_back its count here block is)
      in let acted : ActsAs (Ok block) its.block old new (Ok it) = subst (λ (its' : Result Block HeapStop). ActsAs its' its.block old new (Ok it)) same acts
      in (refl, acted ∙ ap {A = List Block} (λ blocks. record old { blocks = blocks }) (same_block old.blocks its.block block is_there))
  itself (Ok here) (Err why) is acts =
      absurd (subst (λ (its' : Result Block HeapStop). ActsAs its' its.block old new (Err why)) (moved_by its its count block block here (Ok here) is is) acts)
  itself (Err given) (Ok it) is acts =
      absurd (subst (λ (its' : Result Block HeapStop). ActsAs its' its.block old new (Ok it)) (moved_not its its count block block given is) acts)
  itself (Err given) (Err why) is acts =
      let acted : ActsAs (Err given) its.block old new (Err why)
      = subst (λ (its' : Result Block HeapStop). ActsAs its' its.block old new (Err why)) (moved_not its its count block block given is) acts
      in (ap (λ it. Some (stop_of it)) (sym acted.0), acted.1)

-- tests the pointer, and changes nothing
pub tests : (its : spot.Spot) (count : ℕ) (old new : Memory) (result : Result Unit HeapStop) → IsMade old its.block
    → Moves its its count old new result
    → (tested result ≡ or_first (block_stops its count (block_at old.blocks its.block)) tt) × (new ≡ old)
tests its count old new result is_made moves =
    let its_block = made old.blocks its.block is_made.0 is_made.1
    in let both = itself its count old new its_block.0 its_block.1 _ result refl (moves its_block.0 its_block.0 its_block.1 its_block.1)
    in (stopped_by result (block_at old.blocks its.block) its_block.0 its_block.1 both.0, both.1)
  where
    stopped_by : (result : Result Unit HeapStop) (found : Option Block) (block : Block) → found ≡ Some block
        → heap_stop (place_for its count block) ≡ error_of result → tested result ≡ or_first (block_stops its count found) tt
    stopped_by (Ok it) found block is stop = rw (is, stop) refl
    stopped_by (Err why) found block is stop = rw (is, stop) refl

-- ---- a move between blocks

module _ (from to : spot.Spot) (count shifts : ℕ) (machine : Machine) (new : Memory) (first second : Block)
    (one : block_at machine.blocks from.block ≡ Some first) (two : block_at machine.blocks to.block ≡ Some second) where
  abbrev old : Memory
  old = record { blocks = machine.blocks; shifts = shifts }

  -- what the definition says of the two blocks
  abbrev wanted_by : Result ℕ HeapStop → Result ℕ HeapStop → Done (Unit {0})
  wanted_by here there =
      by_stop (first_stop (heap_stop here ∷ heap_stop there ∷ [])) tt
      (with_blocks
      (put_block machine.blocks to.block
      (record second { cells = with_cells_from to.offset (cells_from from.offset count first.cells) second.cells })) machine) machine

  wanted_is : copies (at.Spot from) (at.Spot to) count machine ≡ wanted_by (place_for from count first) (place_for to count second)
  wanted_is = rw (one, two) refl

  acted_as : (result : Result Unit HeapStop) (wanted given : Result Block HeapStop) → wanted ≡ given → ActsAs wanted to.block old new result
      → ActsAs given to.block old new result
  acted_as result wanted given same acts = subst (λ (it : Result Block HeapStop). ActsAs it to.block old new result) same acts

  does_by : (here there : Result ℕ HeapStop) (result : Result Unit HeapStop) → place_for from count first ≡ here → place_for to count second ≡ there
      → ActsAs (moved to (loaded from count first) second) to.block old new result
      → Does (wanted_by here there) (with_blocks new.blocks machine) (answered result)
  does_by (Err why) there (Ok it) is after acts =
      absurd (acted_as (Ok it) (moved to (loaded from count first) second) (Err why) (moved_not from to count first second why is) acts)
  does_by (Err why) there (Err given) is after acts =
      let acted = acted_as (Err given) (moved to (loaded from count first) second) (Err why) (moved_not from to count first second why is) acts
      in (ap stop_of acted.0, ap {A = Memory} (λ its. with_blocks its.blocks machine) acted.1)
  does_by (Ok here) (Err why) (Ok it) is after acts =
      absurd (acted_as (Ok it) (moved to (loaded from count first) second) (Err why) (moved_by from to count first second here (Err why) is after) acts)
  does_by (Ok here) (Err why) (Err given) is after acts =
      let acted
      = acted_as (Err given) (moved to (loaded from count first) second) (Err why) (moved_by from to count first second here (Err why) is after) acts
      in (ap stop_of acted.0, ap {A = Memory} (λ its. with_blocks its.blocks machine) acted.1)
  does_by (Ok here) (Ok there) (Err given) is after acts =
      absurd
      (acted_as (Err given) (moved to (loaded from count first) second) (Ok (with_cells there (take count (drop here first.cells)) second))
      (moved_by from to count first second here (Ok there) is after) acts)
  does_by (Ok here) (Ok there) (Ok it) is after acts =
      let acted
      = acted_as (Ok it) (moved to (loaded from count first) second) (Ok (with_cells there (take count (drop here first.cells)) second))
      (moved_by from to count first second here (Ok there) is after) acts
      in (
        refl,
        ap {A = Memory} (λ its. with_blocks its.blocks machine) acted
            ∙ ap
            (λ place.
            with_blocks
            (put_block machine.blocks to.block (record second { cells = with_cells_from place (take count (drop here first.cells)) second.cells })) machine)
            (sym (placed to count there second after).0)
            ∙ ap
            (λ place.
            with_blocks
            (put_block machine.blocks to.block
            (record second { cells = with_cells_from to.offset (cells_from place count first.cells) second.cells })) machine)
            (sym (placed from count here first is).0),
      )

-- copies the cells, or stops
pub between : (from to : spot.Spot) (count shifts : ℕ) (machine : Machine) (new : Memory) (result : Result Unit HeapStop)
    → IsMade (record { blocks = machine.blocks; shifts = shifts }) from.block → IsMade (record { blocks = machine.blocks; shifts = shifts }) to.block
    → Moves from to count (record { blocks = machine.blocks; shifts = shifts }) new result
    → Does (copies (at.Spot from) (at.Spot to) count machine) (with_blocks new.blocks machine) (answered result)
between from to count shifts machine new result from_made to_made moves =
    let first = made machine.blocks from.block from_made.0 from_made.1
    in let second = made machine.blocks to.block to_made.0 to_made.1
    in subst (λ (it : Done (Unit {0})). Does it (with_blocks new.blocks machine) (answered result))
    (sym (wanted_is from to count shifts machine new first.0 second.0 first.1 second.1))
    (does_by from to count shifts machine new first.0 second.0 first.1 second.1 _ _ result refl refl
    (moves first.0 second.0 first.1 second.1))
