-- What blocks take counts as live bytes: one block that takes less, and what is left.
use Rattle.std.proofs.Common.{◌≡◌, ◌≤◌, ◌<◌, ◌-◌, ◌+◌, ℕ, List, [], ◌∷◌, ◌++◌, length, sym, ap, subst, ◌∙◌, slice_set, get_or, arith}
use Rattle.std.proofs.lemmas.List.{length-set, length-append, length-replicate}
use Rattle.std.proofs.lemmas.List.Sums.{sum_by-set, sum_by_push}
use Rattle.hs_heap.specs.Blocks.{Block, new_block}
use Rattle.hs_heap.specs.declared.cell.Cell.TheVariants.{Undefined}
use Rattle.hs_heap.specs.Memory.{Memory, IsKept, IsMade, live_bytes}

-- a block that was made has its place
pub within : (blocks : List Block) (number shifts : ℕ) (heap : Memory) → record { blocks = blocks; shifts = shifts } ≡ heap → IsMade heap number
    → number - 1 < length blocks
within blocks number shifts heap view made =
    let here = subst (λ it. IsMade it number) (sym view) made in let from = here.0 in let to = here.1 in omega (arith, from, to)

module _ (blocks : List Block) (live place : ℕ) (old other : Block) (kept : IsKept blocks live) (there : place < length blocks)
    (is : old ≡ get_or blocks place other) where
  -- with another block there
  pub counted_with : (new : Block) → live_bytes (slice_set blocks place new) + length old.cells ≡ live + length new.cells
  counted_with new =
      ap (λ it. live_bytes (slice_set blocks place new) + length it.cells) is
      ∙ sum_by-set (λ block. length block.cells) blocks place new other there
      ∙ ap (λ it. it + length new.cells) (sym kept.counted)

  -- what one block takes is part of it
  pub part_of_live : length old.cells ≤ live
  part_of_live =
      let counted = counted_with (record old { cells = [] }) in omega (arith, counted)

  -- with one block that takes as much
  pub kept_same : (new : Block) → length new.cells ≡ length old.cells → IsKept (slice_set blocks place new) live
  kept_same new same =
      record {
        counted = let counted = counted_with new in omega (arith, counted, same);
        room = kept.room;
        numbers = subst (λ it. it ≤ 4294967295) (sym (length-set blocks place new)) kept.numbers;
      }

  -- with one block that takes less
  pub kept_less : (new : Block) → length new.cells ≤ length old.cells
      → IsKept (slice_set blocks place new) (live - (length old.cells - length new.cells))
  kept_less new less =
      record {
        counted = let counted = counted_with new in let part = part_of_live in omega (arith, counted, part, less);
        room = let room = kept.room in omega (arith, room);
        numbers = subst (λ it. it ≤ 4294967295) (sym (length-set blocks place new)) kept.numbers;
      }

-- one block more, if there is room for it
pub kept_push : (blocks rows : List Block) (live size : ℕ) (new : Block) → IsKept blocks live → new ≡ new_block size → rows ≡ blocks ++ new ∷ []
    → size ≤ 16777216 - live → length blocks < 4294967295 → IsKept rows (live + size)
kept_push blocks rows live size new kept is pushed fits fewer =
    subst (λ its. IsKept its (live + size)) (sym pushed)
    (record {
      counted = ap (λ m. m + size) kept.counted
          ∙ ap (λ m. live_bytes blocks + m) (sym (ap {A = Block} (λ it. length it.cells) is ∙ length-replicate size Undefined))
          ∙ sym (sum_by_push (λ (block : Block). length block.cells) blocks new);
      room = let room = kept.room in omega (arith, room, fits);
      numbers = let more = length-append blocks (new ∷ []) in omega (arith, more, fewer);
    })
