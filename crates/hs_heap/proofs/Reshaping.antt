-- A role that takes memory, on one block of the heap.
use Rattle.std.proofs.Common.{◌≡◌, ◌≤◌, ◌<◌, ◌-◌, ◌+◌, ℕ, Bool, true, ◌&&◌, List, length, Some, Result, Ok, Err, sym, ap, subst, ◌∙◌, slice_get, slice_set, get_or, arith}
use Rattle.std.specs.Prelude.{nat_le}
use Rattle.std.proofs.lemmas.Bool.Decides.{nat_tests}
use Rattle.std.proofs.lemmas.Option.{get_or_from_slice_get}
use Rattle.std.proofs.lemmas.List.{length-set}
use Rattle.hs_heap.proofs.Acting.{at_place}
use Rattle.hs_heap.proofs.Counting.{counted_with, part_of_live}
use Rattle.hs_heap.specs.Blocks.{Block, RoleReshapes}
use Rattle.hs_heap.specs.Memory.{Memory, IsKept, ReshapesAs, block_at, put_block, live_bytes}
use Rattle.hs_heap.specs.declared.stop.HeapEnd.{HeapEnd}
use Rattle.hs_heap.specs.declared.stop.HeapEnd.TheVariants.{Stopped, Full, NoMemory}
use Rattle.hs_heap.specs.declared.stop.HeapStop.{HeapStop}
use Rattle.hs_heap.specs.BlockLaws.{same_there}

-- a test of what a block may take is one of what all may take
same_room : (total live held size : ℕ) → total + held ≡ live + size → held ≤ live → live ≤ 16777216
    → nat_le total 16777216 ≡ nat_le size (16777216 - (live - held))
same_room total live held size counted part room = grind (arith, nat_tests, counted, part, room)

room_met : (size room : ℕ) → size ≤ room → nat_le size room ≡ true
room_met size room within = grind (arith, nat_tests, within)

module _ (blocks : List Block) (live number : ℕ) (old other : Block) (kept : IsKept blocks live) (there : number - 1 < length blocks)
    (is : old ≡ get_or blocks (number - 1) other) where
  -- a block has room for what it takes
  pub room_there : length old.cells ≤ 16777216 - (live - length old.cells)
  room_there =
      let part = part_of_live blocks live (number - 1) old other kept there is in let room = kept.room in omega (arith, part, room)

  -- with one block that takes what there is room for
  pub kept_within : (new : Block) → length new.cells ≤ 16777216 - (live - length old.cells)
      → IsKept (slice_set blocks (number - 1) new) (live - length old.cells + length new.cells)
  kept_within new within =
      let part = part_of_live blocks live (number - 1) old other kept there is
      in let counted = counted_with blocks live (number - 1) old other kept there is new
      in let room = kept.room
      in record {
        counted = omega (arith, counted, part);
        room = omega (arith, within, part, room);
        numbers = subst (λ it. it ≤ 4294967295) (sym (length-set blocks (number - 1) new)) kept.numbers;
      }

  room_is : (block : Block)
      → nat_le (live_bytes (put_block blocks number block)) 16777216 ≡ nat_le (length block.cells) (16777216 - (live - length old.cells))
  room_is block =
      same_room (live_bytes (put_block blocks number block)) live (length old.cells) (length block.cells)
      (counted_with blocks live (number - 1) old other kept there is block) (part_of_live blocks live (number - 1) old other kept there is) kept.room

  reshaped_as : (shifts : ℕ) (new : Block) → slice_get blocks (number - 1) ≡ Some old → (lives : Bool) (wanted : Result Block HeapStop)
      (result : Result Unit HeapEnd) → RoleReshapes lives wanted (16777216 - (live - length old.cells)) old new result
      → ReshapesAs lives wanted number (record { blocks = blocks; shifts = shifts }) (record { blocks = put_block blocks number new; shifts = shifts })
      result
  reshaped_as shifts new at lives (Ok block) (Ok _) is' = (
    rw (is'.0, room_is block) (room_met (length block.cells) (16777216 - (live - length old.cells)) is'.1),
    ap (λ it. record { blocks = put_block blocks number it; shifts = shifts }) is'.2,
  )
  reshaped_as shifts new at lives (Ok block) (Err Full) is' = (
    ap (λ it. lives && it) (room_is block) ∙ is'.0,
    ap (λ its. record { blocks = its; shifts = shifts }) (ap (put_block blocks number) is'.1 ∙ same_there blocks (number - 1) old at),
  )
  reshaped_as shifts new at lives (Ok block) (Err NoMemory) is' = (
    rw (is'.0, room_is block) (room_met (length block.cells) (16777216 - (live - length old.cells)) is'.1),
    ap (λ its. record { blocks = its; shifts = shifts }) (ap (put_block blocks number) is'.2 ∙ same_there blocks (number - 1) old at),
  )
  reshaped_as shifts new at lives (Ok block) (Err (Stopped why)) is' = absurd is'
  reshaped_as shifts new at lives (Err wanted) (Ok _) is' = absurd is'
  reshaped_as shifts new at lives (Err wanted) (Err Full) is' = absurd is'
  reshaped_as shifts new at lives (Err wanted) (Err NoMemory) is' = absurd is'
  reshaped_as shifts new at lives (Err wanted) (Err (Stopped why)) is' = (
    is'.0,
    ap (λ its. record { blocks = its; shifts = shifts }) (ap (put_block blocks number) is'.1 ∙ same_there blocks (number - 1) old at),
  )

  -- a role of the block there, in the heap
  pub reshapes : (shifts : ℕ) (lives : Block → Bool) (role : Block → Result Block HeapStop) (heap : Memory) (new block : Block)
      (result : Result Unit HeapEnd) → record { blocks = blocks; shifts = shifts } ≡ heap
      → RoleReshapes (lives old) (role old) (16777216 - (live - length old.cells)) old new result → block_at heap.blocks number ≡ Some block
      → ReshapesAs (lives block) (role block) number heap (record { blocks = put_block blocks number new; shifts = shifts }) result
  reshapes shifts lives role heap new block result view acted found =
      let at = at_place blocks number block (ap (λ it. block_at it.blocks number) view ∙ found)
      in let same = is ∙ get_or_from_slice_get blocks (number - 1) block other at
      in subst (λ it. ReshapesAs (lives block) (role block) number it (record { blocks = put_block blocks number new; shifts = shifts }) result) view
      (subst (λ it. ReshapesAs (lives it) (role it) number (record { blocks = blocks; shifts = shifts })
      (record { blocks = put_block blocks number new; shifts = shifts }) result) same
      (reshaped_as shifts new (subst (λ it. slice_get blocks (number - 1) ≡ Some it) (sym same) at) (lives old) (role old) result acted))
