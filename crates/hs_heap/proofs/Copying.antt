-- Cells that are copied from one block to another.
use Rattle.std.proofs.Common.{◌≡◌, ◌+◌, ◌-◌, ℕ, List, Some, sym, ap, ◌∙◌, slice_get, slice_set, get_or, arith, take, drop, []}
use Rattle.std.proofs.lemmas.List.{set-set, set_comm, get_or-set_same, get_or-set_other}
use Rattle.std.proofs.lemmas.Option.{get_or_from_slice_get, slice_get_within}
use Rattle.hs_heap.specs.Blocks.{Block, with_cells}
use Rattle.hs_heap.specs.declared.cell.Cell.{Cell}
use Rattle.hs_heap.specs.BlockLaws.{same_there}

-- a block that was taken out and put back, while another one was changed
pub put_back : (blocks : List Block) (a b : ℕ) (first out changed back : Block) → (a ≡ b → ⊥) → slice_get blocks a ≡ Some first → back ≡ first
    → slice_set (slice_set (slice_set blocks a out) b changed) a back ≡ slice_set blocks b changed
put_back blocks a b first out changed back apart there same =
    ap (λ its. slice_set its a back) (set_comm blocks a b out changed apart)
    ∙ set-set (slice_set blocks b changed) a out back
    ∙ ap (slice_set (slice_set blocks b changed) a) same
    ∙ set_comm blocks b a changed first (λ is. apart (sym is))
    ∙ ap (λ its. slice_set its b changed) (same_there blocks a first there)

-- the other block is as it was
pub other_there : (blocks : List Block) (a b : ℕ) (second out other : Block) → (a ≡ b → ⊥) → slice_get blocks b ≡ Some second
    → get_or (slice_set blocks a out) b other ≡ second
other_there blocks a b second out other apart there =
    get_or-set_other blocks a b out other (λ is. apart (sym is)) ∙ get_or_from_slice_get blocks b second other there

-- and so is what was taken out
pub first_there : (blocks : List Block) (a b : ℕ) (first out changed other : Block) → (a ≡ b → ⊥) → slice_get blocks a ≡ Some first
    → get_or (slice_set (slice_set blocks a out) b changed) a other ≡ out
first_there blocks a b first out changed other apart there =
    get_or-set_other (slice_set blocks a out) b a changed other apart
    ∙ get_or-set_same blocks a out other (slice_get_within blocks a first there)

-- what the code does with the rows
pub copied_between : (blocks : List Block) (a b at here count : ℕ) (first second now out other before changed later back o1 o2 o3 : Block)
    (items cells : List Cell) → (a ≡ b → ⊥) → slice_get blocks a ≡ Some first → slice_get blocks b ≡ Some second → now ≡ get_or blocks a o1
    → out ≡ record now { cells = [] } → items ≡ now.cells → before ≡ get_or (slice_set blocks a out) b o2
    → cells ≡ take count (drop here items) → changed ≡ with_cells at cells before
    → later ≡ get_or (slice_set (slice_set blocks a out) b changed) a o3 → back ≡ record later { cells = items }
    → slice_set (slice_set (slice_set blocks a out) b changed) a back ≡ slice_set blocks b (with_cells at (take count (drop here first.cells)) second)
copied_between blocks a b at here count first second now out other before changed later back o1 o2 o3 items cells apart one two is-now is-out
    is-items is-before is-cells is-changed is-later is-back =
    let now-first = is-now ∙ get_or_from_slice_get blocks a first o1 one
    in let items-first = is-items ∙ ap {A = Block} (λ it. it.cells) now-first
    in let later-out = is-later ∙ first_there blocks a b first out changed o3 apart one
    in let back-first =
    is-back ∙ ap {A = Block} (λ it. record it { cells = items }) (later-out ∙ is-out ∙ ap {A = Block} (λ it. record it { cells = [] }) now-first)
    ∙ ap (λ its. record first { cells = its }) items-first
    in let before-second = is-before ∙ other_there blocks a b second out o2 apart two
    in put_back blocks a b first out changed back apart one back-first
    ∙ ap (slice_set blocks b)
    (is-changed ∙ ap (λ its. with_cells at its before) (is-cells ∙ ap (λ its. take count (drop here its)) items-first)
    ∙ ap (with_cells at (take count (drop here first.cells))) before-second)

-- a range by its two ends
pub same_range : (cells items : List Cell) (here count : ℕ) → cells ≡ items
    → take ((here + count) - here) (drop here cells) ≡ take count (drop here items)
same_range cells items here count same =
    ap (λ n. take n (drop here cells)) (back here count) ∙ ap (λ its. take count (drop here its)) same
  where
    back : (here count : ℕ) → (here + count) - here ≡ count
    back here count = omega arith
