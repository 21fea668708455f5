-- Where cells are that a pointer into a block reaches.
use Rattle.std.proofs.Common.{◌≡◌, ◌≤◌, ◌+◌, ℕ, ℤ, pos, negsuc, nat_le, Bool, true, false, not, ◌==◌, if◌then◌else◌, List, ◌++◌, length, take, drop, Ok, Err, refl, ap, sym, ◌∙◌, arith}
use Rattle.std.proofs.Math.Seq.{take-add}
use Rattle.std.proofs.lemmas.Bool.Decides.{nat_tests}
use Rattle.std.proofs.lemmas.List.{length-drop, length-take-le, take-append-drop}
use Rattle.hs_heap.specs.Blocks.{Block, is_disposed, place_for, range_at, reach}
use Rattle.hs_heap.specs.declared.cell.Spot as spot
use Rattle.hs_heap.specs.declared.stop.HeapStop.TheVariants as stop
use Rattle.hs_heap.specs.BlockLaws.{past_tests, reach_among}

-- so many items, of a list that has them
pub taken : {A : Type 0} (items : List A) (place count : ℕ) → place + count ≤ length items → length (take count (drop place items)) ≡ count
taken items place count inside =
    let left = length-drop place items
    in length-take-le count (drop place items) (omega arith)

-- items that are put where they were
pub same_items : {A : Type 0} (items : List A) (place count : ℕ) → place + count ≤ length items
    → take place items ++ take count (drop place items) ++ drop (place + length (take count (drop place items))) items ≡ items
same_items items place count inside =
    ap (λ n. take place items ++ take count (drop place items) ++ drop (place + n) items) (taken items place count inside)
    ∙ ap (λ its. its ++ drop (place + count) items) (sym (take-add place count items))
    ∙ take-append-drop (place + count) items

-- a test of a range that is passed
in_range : (at count size here : ℕ) (test : Bool) → test ≡ nat_le (at + count) size → (if test then Ok at else Err stop.Range) ≡ Ok here
    → (at ≡ here) × (here + count ≤ size)
in_range at count size here true holds is = (cc, (let same : at ≡ here = cc in grind (arith, nat_tests)))
in_range at count size here false holds is = absurd (cc)

-- from the front of the block
ranged : (offset : ℤ) (count size here : ℕ) → range_at offset count size ≡ Ok here → (offset ≡ pos here) × (here + count ≤ size)
ranged (pos at) count size here is =
    let both = in_range at count size here (nat_le (at + count) size) refl is
    in (ap pos both.0, both.1)
ranged (negsuc at) count size here is = absurd (cc)

-- where a use begins, so many cells are there
pub placed : (its : spot.Spot) (count here : ℕ) (block : Block) → place_for its count block ≡ Ok here
    → (its.offset ≡ pos here) × (here + count ≤ length block.cells)
placed its count here block is =
    let both = ranged its.offset count (reach block.presence block.cells) here
    (past_tests (is_disposed block.presence) (not (its.life == block.life)) (not (its.epoch == block.epoch)) _ here is)
    in let there = reach_among block.presence block.cells
    in (both.0, omega arith)
