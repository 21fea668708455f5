-- BlockMove in the heap.
use Rattle.std.proofs.Common.{◌≡◌, ◌≤◌, ◌<◌, ◌+◌, ◌-◌, ℕ, ℤ, pos, negsuc, Bool, true, false, not, List, length, Some, Result, Ok, Err, refl, sym, ap, subst, ◌∙◌, slice_get, slice_set, get_or, arith, take, drop, ◌++◌, if◌then◌else◌}
use Rattle.std.specs.Prelude.{◌==◌, nat_le}
use Rattle.std.proofs.lemmas.Bool.Decides.{nat_tests}
use Rattle.std.proofs.lemmas.List.{length-take-le, length-drop, length-append, length-set}
use Rattle.std.proofs.lemmas.Option.{slice_get-get_or, get_or_from_slice_get}
use Rattle.hs_heap.proofs.Acting.{at_place}
use Rattle.hs_heap.proofs.Counting.{counted_with}
use Rattle.hs_heap.proofs.Listing.{listed_set}
use Rattle.hs_heap.proofs.Marking.{marked_set}
use Rattle.hs_heap.specs.Blocks.{Block, with_cells, place_for, places_of, range_at, reach, is_disposed, loaded, loaded_at, moved, stored_at}
use Rattle.hs_heap.specs.Memory.{Memory, IsKept, IsMarked, IsListed, IsCopiedBetween, ActsAs, block_at, put_block}
use Rattle.hs_heap.specs.declared.cell.Cell.{Cell}
use Rattle.hs_heap.specs.declared.cell.Spot.{Spot}
use Rattle.hs_heap.specs.declared.stop.HeapStop.{HeapStop}
use Rattle.hs_heap.specs.declared.stop.HeapStop.TheVariants as stop
use Rattle.hs_heap.specs.BlockLaws.{past_tests, reach_among}

-- ---- the cells that a pointer reaches lie in the block

range_if : (n count size at : ℕ) (b : Bool) → nat_le (n + count) size ≡ b → ◌≡◌ {A = Result ℕ HeapStop} (if b then Ok n else Err stop.Range) (Ok at)
    → at + count ≤ size
range_if n count size at true test same =
    let one = is_same same in grind (arith, nat_tests, test, one)
  where
    is_same : ◌≡◌ {A = Result ℕ HeapStop} (Ok n) (Ok at) → n ≡ at
    is_same same = cc
range_if n count size at false test same = absurd cc

range_inside : (offset : ℤ) (count size at : ℕ) → range_at offset count size ≡ Ok at → at + count ≤ size
range_inside (pos n) count size at is = range_if n count size at (nat_le (n + count) size) refl is
range_inside (negsuc n) count size at is = absurd cc

place_inside : (s : Spot) (count : ℕ) (block : Block) (at : ℕ) → place_for s count block ≡ Ok at → at + count ≤ length block.cells
place_inside s count block at is =
    let inside = range_inside s.offset count (reach block.presence block.cells) at
    (past_tests (is_disposed block.presence) (not (s.life == block.life)) (not (s.epoch == block.epoch))
    (range_at s.offset count (reach block.presence block.cells)) at is)
    in let among = reach_among block.presence block.cells
    in omega (arith, inside, among)

-- as many cells as were asked for
cells_count : (at count : ℕ) (cells : List Cell) → at + count ≤ length cells → length (take count (drop at cells)) ≡ count
cells_count at count cells inside =
    length-take-le count (drop at cells) (let left = length-drop at cells in omega (arith, inside, left))

-- ---- what is moved

both_same : (a b here there : ℕ) → ◌≡◌ {A = Result (ℕ × ℕ) HeapStop} (Ok (a, b)) (Ok (here, there)) → ◌≡◌ {A = ℕ × ℕ} (a, b) (here, there)
both_same a b here there same = cc

same_stop : {A : Type 0} → (a b : HeapStop) → ◌≡◌ {A = Result A HeapStop} (Err a) (Err b) → a ≡ b
same_stop a b same = cc

module _ (from to : Spot) (count : ℕ) (first second : Block) where
  moved_by : (one two : Result ℕ HeapStop) → place_for from count first ≡ one → place_for to count second ≡ two → (here there : ℕ)
      → places_of one two ≡ Ok (here, there)
      → moved to (loaded from count first) second ≡ Ok (with_cells there (take count (drop here first.cells)) second)
  moved_by (Ok a) (Ok b) is-one is-two here there same =
      ap (λ it. moved to (loaded_at count first it) second) is-one
      ∙ ap (λ n. stored_at (take count (drop a first.cells)) second (place_for to n second))
      (cells_count a count first.cells (place_inside from count first a is-one))
      ∙ ap (stored_at (take count (drop a first.cells)) second) is-two
      ∙ ap {A = ℕ × ℕ} (λ p. Ok (with_cells p.1 (take count (drop p.0 first.cells)) second)) (both_same a b here there same)
  moved_by (Ok a) (Err why) is-one is-two here there same = absurd cc
  moved_by (Err why) two is-one is-two here there same = absurd cc

  stopped_by : (one two : Result ℕ HeapStop) → place_for from count first ≡ one → place_for to count second ≡ two → (why : HeapStop)
      → places_of one two ≡ Err why → moved to (loaded from count first) second ≡ Err why
  stopped_by (Ok a) (Ok b) is-one is-two why same = absurd cc
  stopped_by (Ok a) (Err halt) is-one is-two why same =
      ap (λ it. moved to (loaded_at count first it) second) is-one
      ∙ ap (λ n. stored_at (take count (drop a first.cells)) second (place_for to n second))
      (cells_count a count first.cells (place_inside from count first a is-one))
      ∙ ap (stored_at (take count (drop a first.cells)) second) is-two ∙ ap Err (same_stop {A = ℕ × ℕ} halt why same)
  stopped_by (Err halt) two is-one is-two why same =
      ap (λ it. moved to (loaded_at count first it) second) is-one ∙ ap Err (same_stop {A = ℕ × ℕ} halt why same)

-- ---- in the heap

module _ (blocks : List Block) (shifts : ℕ) (heap : Memory) (from to : Spot) (count : ℕ) (a b other another : Block)
    (view : record { blocks = blocks; shifts = shifts } ≡ heap)
    (is-a : a ≡ get_or blocks (from.block - 1) other) (is-b : b ≡ get_or blocks (to.block - 1) another) (first second : Block)
    (one : block_at heap.blocks from.block ≡ Some first) (two : block_at heap.blocks to.block ≡ Some second) where
  first_at : slice_get blocks (from.block - 1) ≡ Some first
  first_at = at_place blocks from.block first (ap (λ it. block_at it.blocks from.block) view ∙ one)

  second_at : slice_get blocks (to.block - 1) ≡ Some second
  second_at = at_place blocks to.block second (ap (λ it. block_at it.blocks to.block) view ∙ two)

  same_places : places_of (place_for from count a) (place_for to count b) ≡ places_of (place_for from count first) (place_for to count second)
  same_places =
      ap (λ it. places_of (place_for from count it) (place_for to count b)) (is-a ∙ get_or_from_slice_get blocks (from.block - 1) first other first_at)
      ∙ ap (λ it. places_of (place_for from count first) (place_for to count it))
      (is-b ∙ get_or_from_slice_get blocks (to.block - 1) second another second_at)

  -- a stop changes nothing
  pub stops : (why : HeapStop) → Err why ≡ places_of (place_for from count a) (place_for to count b)
      → ActsAs (moved to (loaded from count first) second) to.block heap heap (Err why)
  stops why given =
      subst (λ it. ActsAs it to.block heap heap (Err why))
      (sym (stopped_by from to count first second (place_for from count first) (place_for to count second) refl refl why
      (sym (given ∙ same_places)))) (refl, refl)

  -- or the second block has the cells
  pub moves : (here there : ℕ) (new : List Block) → Ok (here, there) ≡ places_of (place_for from count a) (place_for to count b)
      → IsCopiedBetween (from.block - 1) (to.block - 1) here there count blocks new
      → ActsAs (moved to (loaded from count first) second) to.block heap (record { blocks = new; shifts = shifts }) (Ok tt)
  moves here there new given copied =
      subst (λ it. ActsAs it to.block heap (record { blocks = new; shifts = shifts }) (Ok tt))
      (sym (moved_by from to count first second (place_for from count first) (place_for to count second) refl refl here there
      (sym (given ∙ same_places))))
      (ap {A = List Block} (λ its. record { blocks = its; shifts = shifts }) (copied first second first_at second_at)
      ∙ ap (λ it. record { blocks = put_block it.blocks to.block (with_cells there (take count (drop here first.cells)) second); shifts = it.shifts }) view)

-- as many cells as before
as_many_cells : (at : ℕ) (cells : List Cell) (block : Block) → at + length cells ≤ length block.cells
    → length (with_cells at cells block).cells ≡ length block.cells
as_many_cells at cells block inside =
    let whole = length-append (take at block.cells ++ cells) (drop (at + length cells) block.cells)
    in let begin = length-append (take at block.cells) cells
    in let front = length-take-le at block.cells (omega (arith, inside))
    in let left = length-drop (at + length cells) block.cells
    in whole ∙ total (length (take at block.cells ++ cells)) (length (take at block.cells)) (length (drop (at + length cells) block.cells)) begin front left
  where
    total : (n m k : ℕ) → n ≡ m + length cells → m ≡ at → k ≡ length block.cells - (at + length cells) → n + k ≡ length block.cells
    total n m k one two three = omega (arith, one, two, three, inside)

module _ (blocks : List Block) (live i j here there count : ℕ) (a b other another : Block) (new : List Block) (kept : IsKept blocks live)
    (first-within : i < length blocks) (second-within : j < length blocks) (is-a : a ≡ get_or blocks i other) (is-b : b ≡ get_or blocks j another)
    (inside : here + count ≤ length a.cells) (inside' : there + count ≤ length b.cells)
    (copied : IsCopiedBetween i j here there count blocks new) where
  new_is : new ≡ slice_set blocks j (with_cells there (take count (drop here a.cells)) b)
  new_is =
      copied a b (slice_get-get_or blocks i other first-within ∙ ap Some (sym is-a))
      (slice_get-get_or blocks j another second-within ∙ ap Some (sym is-b))

  -- the blocks are as many
  pub as_many_blocks : length new ≡ length blocks
  as_many_blocks = ap length new_is ∙ length-set blocks j (with_cells there (take count (drop here a.cells)) b)

  -- and so are their bytes
  pub kept_moved : IsKept new live
  kept_moved =
      let cells = take count (drop here a.cells)
      in let number = cells_count here count a.cells inside
      in let same = as_many_cells there cells b (subst (λ n. there + n ≤ length b.cells) (sym number) inside')
      in let counted = counted_with blocks live j b another kept second-within is-b (with_cells there cells b)
      in let total = kept.counted
      in subst (λ its. IsKept its live) (sym new_is)
      (record {
        counted = omega (arith, counted, same);
        room = kept.room;
        numbers = subst (λ n. n ≤ 4294967295) (sym (length-set blocks j (with_cells there cells b))) kept.numbers;
      })

  -- and no epoch rises
  pub marked_moved : (marks : List ℕ) (shifts : ℕ) → IsMarked blocks marks shifts → IsMarked new marks shifts
  marked_moved marks shifts marked =
      subst (λ its. IsMarked its marks shifts) (sym new_is)
      (marked_set blocks marks shifts j b another (with_cells there (take count (drop here a.cells)) b) marked is-b refl)

  -- and none is disposed or made
  pub listed_moved : (listed : List ℕ) → IsListed blocks listed → IsListed new listed
  listed_moved listed all =
      subst (λ its. IsListed its listed) (sym new_is)
      (listed_set blocks listed j b another (with_cells there (take count (drop here a.cells)) b) all is-b (λ living. living))
