-- A shift as the heap makes it (own): one pass purges blocks, and a second one moves blocks that are left. Blocks are numbered from 1.
--     purged, relocated                        a block after it was purged or moved, if it permits that
--     with_each may which change blocks        the blocks, with a change of those that are named, if the routine may
--     changed_at change number blocks          the blocks, with a change of the one of that number, if it was made
--     moved_at shift marks number blocks       the same of a move, if the block has another mark; marked_by has the marks after it
--     is_remaining blocks number               a block of that number was made, and it is not disposed
--     listed_for decision blocks listed        the numbers that a pass over all blocks visits
use Rattle.std.specs.Prelude.{ℕ, suc, ◌+◌, ◌-◌, ◌==◌, nat_le, min, Bool, not, ◌&&◌, ◌||◌, List, [], ◌∷◌, length, filter, slice_get, slice_set, get_or, Option, Some, None, true, false, if◌then◌else◌}
use Rattle.hs_heap.specs.Blocks.{Block, is_disposed}
use Rattle.hs_heap.specs.Shift.{is_loose, is_named}
use Rattle.hs_heap.specs.declared.decision.Decision.{Decision}
use Rattle.hs_heap.specs.declared.decision.Which.{Which}
use Rattle.hs_heap.specs.declared.decision.Which.TheVariants.{All, These}
use Rattle.hs_heap.specs.declared.presence.Presence.TheVariants.{Purged}

-- The next epoch, up to the last one. No heap makes so many shifts that it matters.
abbrev pub raised : ℕ → ℕ
raised epoch = min (epoch + 1) 4294967295

-- the block after it was purged, if it may be
abbrev pub purged : Block → Block
purged block = if is_loose block && block.purgeable then record block { epoch = raised block.epoch; presence = Purged } else block

-- the block after it was moved, if it may be
abbrev pub relocated : Block → Block
relocated block = if is_loose block then record block { epoch = raised block.epoch } else block

-- each block after a change that its number decides, from that number on
abbrev pub numbered : (ℕ → Block → Block) → ℕ → List Block → List Block
numbered change number [] = []
numbered change number (block ∷ blocks) = change number block ∷ numbered change (suc number) blocks

-- the block of that number after a change, if it is named and the routine may
abbrev pub if_named : Bool → Which → (Block → Block) → ℕ → Block → Block
if_named may which change number block = if may && is_named which number then change block else block

-- the blocks after a pass over those that are named
abbrev pub with_each : Bool → Which → (Block → Block) → List Block → List Block
with_each may which change blocks = numbered (if_named may which change) 1 blocks

-- where the block of that number is among so many
abbrev pub place_of : ℕ → ℕ → Option ℕ
place_of number made = if nat_le 1 number && nat_le number made then Some (number - 1) else None

-- the blocks, with a change of the one that is there
abbrev pub change_there : (Block → Block) → ℕ → List Block → Option Block → List Block
change_there change place blocks None = blocks
change_there change place blocks (Some block) = slice_set blocks place (change block)

-- the blocks, with a change at that place
abbrev pub change_place : (Block → Block) → List Block → Option ℕ → List Block
change_place change blocks None = blocks
change_place change blocks (Some place) = change_there change place blocks (slice_get blocks place)

-- the blocks, with a change of the one of that number
abbrev pub changed_at : (Block → Block) → ℕ → List Block → List Block
changed_at change number blocks = change_place change blocks (place_of number (length blocks))

-- the place has that mark
abbrev pub has_mark : ℕ → List ℕ → Option ℕ → Bool
has_mark shift marks None = false
has_mark shift marks (Some place) = get_or marks place 0 == shift

-- the marks, with that mark at the place
abbrev pub mark_place : ℕ → List ℕ → Option ℕ → List ℕ
mark_place shift marks None = marks
mark_place shift marks (Some place) = slice_set marks place shift

-- the marks of so many blocks after the one of that number was moved
abbrev pub marked_at : ℕ → ℕ → ℕ → List ℕ → List ℕ
marked_at shift made number marks = mark_place shift marks (place_of number made)

-- the same of the blocks themselves
abbrev pub marked_by : ℕ → ℕ → List Block → List ℕ → List ℕ
marked_by shift number blocks marks = marked_at shift (length blocks) number marks

-- the blocks after the one of that number was moved, if it has another mark
abbrev pub moved_at : ℕ → List ℕ → ℕ → List Block → List Block
moved_at shift marks number blocks =
    if has_mark shift marks (place_of number (length blocks)) then blocks else changed_at relocated number blocks

-- there is a block, and it is not disposed
abbrev pub remains : Option Block → Bool
remains None = false
remains (Some block) = not (is_disposed block.presence)

-- the same of a place
abbrev pub remains_at : List Block → Option ℕ → Bool
remains_at blocks None = false
remains_at blocks (Some place) = remains (slice_get blocks place)

-- and of a number
abbrev pub is_remaining : List Block → ℕ → Bool
is_remaining blocks number = remains_at blocks (place_of number (length blocks))

-- it names all blocks, and not those of a list
abbrev pub is_all : Which → Bool
is_all All = true
is_all (These numbers) = false

-- the decision moves or purges all blocks
abbrev pub names_all : Decision → Bool
names_all decision = is_all decision.moves || is_all decision.purges

-- The numbers that a pass over all blocks visits. Before a decision that names all blocks, those of disposed blocks are taken out of the list.
abbrev pub listed_for : Decision → List Block → List ℕ → List ℕ
listed_for decision blocks listed = if names_all decision then filter (is_remaining blocks) listed else listed
