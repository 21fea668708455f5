-- The heap: a list of blocks, numbered from 1 in the order in which they were made (own).
--     Memory                          what a contract sees of a heap
--     block_at, put_block             the block of a number; the heap with another block there
--     Acts role number old new result       a role acted on the block of that number, or stopped and changed nothing
--     Answers role number heap result       what a role answers of that block
--     Reshapes lives role number old new result     the same of a role that takes memory
--     Loads, Lends                    cells that are copied or lent
--     MakesBlock size old new result        a new block, or why not
--     IsKept blocks live              what the heap keeps of its bytes
--     IsMarked blocks marks shifts    what it keeps of its shifts
--     IsListed blocks listed          what it keeps of the blocks that a shift of all blocks visits
use Rattle.std.specs.Prelude.{◌≡◌, ◌≤◌, ◌<◌, ◌==◌, take, drop, ℕ, zero, suc, ◌+◌, ◌-◌, nat_lt, nat_le, Bool, true, false, ◌&&◌, List, [], ◌∷◌, ◌++◌, length, slice_get, slice_set, get_or, sum_by, Option, Some, None, Result, Ok, Err}
use Rattle.std.specs.List.{list_any}
use Rattle.hs_heap.specs.Blocks.{Block, IsCopied, is_disposed, cells_of, loaded, moved, with_cells, new_block}
use Rattle.hs_heap.specs.declared.cell.Cell.{Cell}
use Rattle.hs_heap.specs.declared.cell.Spot.{Spot}
use Rattle.hs_heap.specs.declared.stop.HeapStop.{HeapStop}
use Rattle.hs_heap.specs.declared.stop.HeapEnd.{HeapEnd}
use Rattle.hs_heap.specs.declared.stop.HeapEnd.TheVariants.{Stopped, Full, NoMemory}

-- what a contract sees of a heap
pub record Memory : Type 0 where
  pub blocks : List Block
  -- how many shifts were made
  pub shifts : ℕ

-- the block of that number
abbrev pub block_at : List Block → ℕ → Option Block
block_at blocks zero = None
block_at blocks (suc place) = slice_get blocks place

-- the heap made a block of that number
abbrev pub IsMade : Memory → ℕ → Type 0
IsMade heap number = (1 ≤ number) × (number ≤ length heap.blocks)

-- the blocks, where that one is the one of that number, which was made
abbrev pub put_block : List Block → ℕ → Block → List Block
put_block blocks number block = slice_set blocks (number - 1) block

-- the bytes of all blocks; a purged block keeps its cells, and so its bytes
abbrev pub live_bytes : List Block → ℕ
live_bytes blocks = sum_by (λ block. length block.cells) blocks

-- A role acted as its definition says, or stopped and changed nothing.
abbrev pub ActsAs : Result Block HeapStop → ℕ → Memory → Memory → Result Unit HeapStop → Type 0
ActsAs (Ok block) number old new (Ok _) = new ≡ record old { blocks = put_block old.blocks number block }
ActsAs (Ok block) number old new (Err why) = ⊥
ActsAs (Err wanted) number old new (Ok _) = ⊥
ActsAs (Err wanted) number old new (Err why) = (why ≡ wanted) × (new ≡ old)

-- on the block of that number
abbrev pub Acts : (Block → Result Block HeapStop) → ℕ → Memory → Memory → Result Unit HeapStop → Type 0
Acts role number old new result = (block : Block) → block_at old.blocks number ≡ Some block → ActsAs (role block) number old new result

-- the heap would have no more live bytes than it may have
abbrev pub has_room_for : Memory → ℕ → Block → Bool
has_room_for heap number block = nat_le (live_bytes (put_block heap.blocks number block)) 16777216

-- A role that takes memory acted, or stopped; or live bytes would pass their limit, or a life has ended; or else there is no memory. Only
-- the first changes anything.
abbrev pub ReshapesAs : Bool → Result Block HeapStop → ℕ → Memory → Memory → Result Unit HeapEnd → Type 0
ReshapesAs lives (Ok block) number old new (Ok _) =
    ((lives && has_room_for old number block) ≡ true) × (new ≡ record old { blocks = put_block old.blocks number block })
ReshapesAs lives (Ok block) number old new (Err Full) = ((lives && has_room_for old number block) ≡ false) × (new ≡ old)
ReshapesAs lives (Ok block) number old new (Err NoMemory) = ((lives && has_room_for old number block) ≡ true) × (new ≡ old)
ReshapesAs lives (Ok block) number old new (Err (Stopped why)) = ⊥
ReshapesAs lives (Err wanted) number old new (Ok _) = ⊥
ReshapesAs lives (Err wanted) number old new (Err Full) = ⊥
ReshapesAs lives (Err wanted) number old new (Err NoMemory) = ⊥
ReshapesAs lives (Err wanted) number old new (Err (Stopped why)) = (why ≡ wanted) × (new ≡ old)

-- on the block of that number
abbrev pub Reshapes : (Block → Bool) → (Block → Result Block HeapStop) → ℕ → Memory → Memory → Result Unit HeapEnd → Type 0
Reshapes lives role number old new result =
    (block : Block) → block_at old.blocks number ≡ Some block → ReshapesAs (lives block) (role block) number old new result

-- what a role answers of the block of that number
abbrev pub Answers : {A : Type 0} → (Block → Result A HeapStop) → ℕ → Memory → Result A HeapStop → Type 0
Answers role number heap result = (block : Block) → block_at heap.blocks number ≡ Some block → result ≡ role block

-- the cells of the block of that number were copied, or nothing was
abbrev pub Copies : (Block → Result (List Cell) HeapStop) → ℕ → Memory → List Cell → List Cell → Result Unit HeapStop → Type 0
Copies role number heap old new result = (block : Block) → block_at heap.blocks number ≡ Some block → IsCopied (role block) old new result

-- as many cells as there are in the list, from where a pointer reaches
abbrev pub Loads : Spot → Memory → List Cell → List Cell → Result Unit HeapStop → Type 0
Loads s heap old new result = Copies (loaded s (length old)) s.block heap old new result

-- BlockMove: as many cells from where one pointer reaches to where another does, also in one block. The first one is tested first.
abbrev pub Moves : Spot → Spot → ℕ → Memory → Memory → Result Unit HeapStop → Type 0
Moves from to count old new result =
    (first second : Block) → block_at old.blocks from.block ≡ Some first → block_at old.blocks to.block ≡ Some second
    → ActsAs (moved to (loaded from count first) second) to.block old new result

-- the block at that place has that many cells
abbrev pub HasCells : ℕ → ℕ → List Block → Type 0
HasCells place count blocks = (place < length blocks) × ((block : Block) → slice_get blocks place ≡ Some block → count ≤ length block.cells)

-- as many cells of the block at the first place were copied to the block at the second place
abbrev pub IsCopiedBetween : ℕ → ℕ → ℕ → ℕ → ℕ → List Block → List Block → Type 0
IsCopiedBetween from to here there count old new =
    (first second : Block) → slice_get old from ≡ Some first → slice_get old to ≡ Some second
    → new ≡ slice_set old to (with_cells there (take count (drop here first.cells)) second)

-- the cells of the block of that number are lent, or why not
abbrev pub Lends : ℕ → Memory → Result (List Cell) HeapStop → Type 0
Lends number heap result = (block : Block) → block_at heap.blocks number ≡ Some block → result ≡ cells_of block

-- One block more has room: live bytes are at most 16777216, and blocks at most 4294967295 (own).
abbrev pub has_room : List Block → ℕ → Bool
has_room blocks size = nat_le (live_bytes blocks + size) 16777216 && nat_lt (length blocks) 4294967295

-- NewHandle: the next number, and a new block of that many cells; Full exactly where there is no room for it. A failure changes nothing.
abbrev pub MakesBlock : ℕ → Memory → Memory → Result ℕ HeapEnd → Type 0
MakesBlock size old new (Ok number) =
    (has_room old.blocks size ≡ true) × (number ≡ suc (length old.blocks)) × (new ≡ record old { blocks = old.blocks ++ (new_block size ∷ []) })
MakesBlock size old new (Err Full) = (has_room old.blocks size ≡ false) × (new ≡ old)
MakesBlock size old new (Err NoMemory) = (has_room old.blocks size ≡ true) × (new ≡ old)
MakesBlock size old new (Err (Stopped why)) = ⊥

-- `live` counts the bytes, and both numbers are within their limits.
pub record IsKept (blocks : List Block) (live : ℕ) : Type 0 where
  pub counted : live ≡ live_bytes blocks
  pub room : live ≤ 16777216
  pub numbers : length blocks ≤ 4294967295

-- Each block has a mark, the number of a shift; no mark and no epoch is more than the number of shifts.
pub record IsMarked (blocks : List Block) (marks : List ℕ) (shifts : ℕ) : Type 0 where
  pub long : length blocks ≤ length marks
  pub past : (place : ℕ) → get_or marks place 0 ≤ shifts
  pub epochs : (place : ℕ) (block : Block) → slice_get blocks place ≡ Some block → block.epoch ≤ shifts

-- Each block that is not disposed is in the list of those that a shift of all blocks visits. Nothing is said of other numbers in the list: one that
-- is there twice, or of a block that was disposed or never made, does no harm.
abbrev pub IsListed : List Block → List ℕ → Type 0
IsListed blocks listed =
    (place : ℕ) (block : Block) → slice_get blocks place ≡ Some block → is_disposed block.presence ≡ false
    → list_any (λ number. number == suc place) listed ≡ true
