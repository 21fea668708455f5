-- A role that acts on one block of the heap.
use Rattle.std.proofs.Common.{◌≡◌, ◌-◌, ℕ, zero, suc, List, Some, Result, Ok, Err, ap, subst, ◌∙◌, slice_get, get_or}
use native.Mathlib.Numerals.{unary_clauses}
use Rattle.std.proofs.lemmas.Option.{get_or_from_slice_get}
use Rattle.hs_heap.specs.Blocks.{Block, IsCopied, RoleActs}
use Rattle.hs_heap.specs.declared.cell.Cell.{Cell}
use Rattle.hs_heap.specs.Memory.{Memory, ActsAs, block_at, put_block}
use Rattle.hs_heap.specs.declared.stop.HeapStop.{HeapStop}
use Rattle.hs_heap.specs.BlockLaws.{same_there}

module _ (blocks : List Block) (number shifts : ℕ) where
  acted_as : (old new : Block) → slice_get blocks (number - 1) ≡ Some old → (wanted : Result Block HeapStop) (result : Result Unit HeapStop)
      → RoleActs wanted old new result
      → ActsAs wanted number (record { blocks = blocks; shifts = shifts }) (record { blocks = put_block blocks number new; shifts = shifts }) result
  acted_as old new there (Ok block) (Ok _) is =
      ap (λ it. record { blocks = put_block blocks number it; shifts = shifts }) is
  acted_as old new there (Ok block) (Err why) is = absurd is
  acted_as old new there (Err wanted) (Ok _) is = absurd is
  acted_as old new there (Err wanted) (Err why) is = (
    is.0,
    ap (λ its. record { blocks = its; shifts = shifts })
        (ap (put_block blocks number) is.1 ∙ same_there blocks (number - 1) old there),
  )

-- the block of a number, by its place
pub at_place : (blocks : List Block) (number : ℕ) (block : Block) → block_at blocks number ≡ Some block → slice_get blocks (number - 1) ≡ Some block
at_place blocks zero block there = absurd cc
at_place blocks (suc place) block there = simp unary_clauses there

-- a role of the block there, in the heap
pub acts : (role : Block → Result Block HeapStop) (blocks : List Block) (number shifts : ℕ) (heap : Memory) (old new other block : Block)
    (result : Result Unit HeapStop) → record { blocks = blocks; shifts = shifts } ≡ heap → old ≡ get_or blocks (number - 1) other
    → RoleActs (role old) old new result → block_at heap.blocks number ≡ Some block
    → ActsAs (role block) number heap (record { blocks = put_block blocks number new; shifts = shifts }) result
acts role blocks number shifts heap old new other block result view is acted there =
    let at = at_place blocks number block (ap (λ it. block_at it.blocks number) view ∙ there)
    in let same = is ∙ get_or_from_slice_get blocks (number - 1) block other at
    in subst (λ it. ActsAs (role block) number it (record { blocks = put_block blocks number new; shifts = shifts }) result) view
    (acted_as blocks number shifts block new at (role block) result (subst (λ it. RoleActs (role it) it new result) same acted))

-- what is copied of the block there
pub copies : (role : Block → Result (List Cell) HeapStop) (blocks : List Block) (number shifts : ℕ) (heap : Memory) (old other block : Block)
    (before after : List Cell) (result : Result Unit HeapStop) → record { blocks = blocks; shifts = shifts } ≡ heap
    → old ≡ get_or blocks (number - 1) other → IsCopied (role old) before after result → block_at heap.blocks number ≡ Some block
    → IsCopied (role block) before after result
copies role blocks number shifts heap old other block before after result view is copied there =
    let at = at_place blocks number block (ap (λ it. block_at it.blocks number) view ∙ there)
    in subst (λ it. IsCopied (role it) before after result) (is ∙ get_or_from_slice_get blocks (number - 1) block other at) copied

-- what is answered of the block there
pub answers : {A : Type 0} (role : Block → Result A HeapStop) (blocks : List Block) (number shifts : ℕ) (heap : Memory) (old other block : Block)
    (result : Result A HeapStop) → record { blocks = blocks; shifts = shifts } ≡ heap → old ≡ get_or blocks (number - 1) other
    → result ≡ role old → block_at heap.blocks number ≡ Some block → result ≡ role block
answers role blocks number shifts heap old other block result view is answered there =
    answered ∙ ap role (is ∙ get_or_from_slice_get blocks (number - 1) block other
    (at_place blocks number block (ap (λ it. block_at it.blocks number) view ∙ there)))
