-- Laws of the list of blocks and of the cells that a pointer reaches.
--     same_there, block_at_last      a block that is put where it is, and one that is added
--     reach_among                    what a pointer reaches is in the block
--     past_tests                     a use that passes the tests of its block
use Rattle.std.proofs.Common.{◌≡◌, ◌≤◌, ◌+◌, ℕ, Bool, true, false, List, [], ◌∷◌, ◌++◌, length, Some, Result, Ok, Err, sym, subst, slice_get, slice_set, arith, add-one, if◌then◌else◌}
use Rattle.std.proofs.lemmas.List.{set-get_or}
use Rattle.std.proofs.lemmas.Option.{get_or_from_slice_get}
use Rattle.hs_base.specs.Entries.{last_there}
use Rattle.hs_heap.specs.Blocks.{Block, reach}
use Rattle.hs_heap.specs.Memory.{block_at}
use Rattle.hs_heap.specs.declared.cell.Cell.{Cell}
use Rattle.hs_heap.specs.declared.presence.Presence.{Presence}
use Rattle.hs_heap.specs.declared.presence.Presence.TheVariants.{Present, Emptied, Purged, Disposed}
use Rattle.hs_heap.specs.declared.stop.HeapStop.{HeapStop}
use Rattle.hs_heap.specs.declared.stop.HeapStop.TheVariants as stop

-- what is there, put there again
pub same_there : (blocks : List Block) (place : ℕ) (block : Block) → slice_get blocks place ≡ Some block → slice_set blocks place block ≡ blocks
same_there blocks place block there =
    subst (λ it. slice_set blocks place it ≡ blocks) (get_or_from_slice_get blocks place block block there) (set-get_or blocks place block)

-- the block that is added last has the next number
pub block_at_last : (blocks : List Block) (block : Block) → block_at (blocks ++ block ∷ []) (length blocks + 1) ≡ Some block
block_at_last blocks block = subst (λ (n : ℕ). block_at (blocks ++ block ∷ []) n ≡ Some block) (sym (add-one (length blocks))) (last_there blocks block)

-- what is reached is in the block
pub reach_among : (it : Presence) (cells : List Cell) → reach it cells ≤ length cells
reach_among Present cells = omega arith
reach_among Emptied cells = omega arith
reach_among Purged cells = omega arith
reach_among Disposed cells = omega arith

-- all tests are passed
pub past_tests : (disposed old stale : Bool) (place : Result ℕ HeapStop) (here : ℕ)
    → (if disposed then Err stop.Disposed else if old then Err stop.Old else if stale then Err stop.Stale else place) ≡ Ok here → place ≡ Ok here
past_tests true old stale place here is = absurd cc
past_tests false true stale place here is = absurd cc
past_tests false false true place here is = absurd cc
past_tests false false false place here is = is
