-- The definitions on worked examples: each line computes.
use Rattle.std.proofs.Common.{◌≡◌, pos, true, false, [], ◌∷◌, None, Ok, Err, refl}
use Rattle.hs_heap.specs.Blocks.{Block, new_block, with_lock, with_state, emptied, reallocated, resized, size_of, state_of, master_of, loaded, stored}
use Rattle.hs_heap.specs.Shift.{Powers, shifted, shift, after_shift}
use Rattle.hs_heap.specs.declared.cell.Cell.TheVariants.{Undefined, Byte}
use Rattle.hs_heap.specs.declared.cell.Spot.{Spot}
use Rattle.hs_heap.specs.declared.decision.Decision.{Decision}
use Rattle.hs_heap.specs.declared.decision.Which.TheVariants.{All, These}
use Rattle.hs_heap.specs.declared.presence.Presence.TheVariants.{Emptied, Purged}
use Rattle.hs_heap.specs.declared.stop.HeapStop.TheVariants as stop

-- a block of two cells, one of which has a value; it is locked, or emptied, or purged once
two : Block
two = record (new_block 2) { cells = Undefined ∷ Byte 65 ∷ [] }

locked : Block
locked = record two { locked = true }

gone : Block
gone = record two { cells = []; life = 1; presence = Emptied }

purged : Block
purged = record two { epoch = 1; presence = Purged }

-- the pointer to its front, as it was when it was made
front : Spot
front = record { block = 1; life = 0; epoch = 0; offset = pos 0 }

second : Spot
second = record { block = 1; life = 0; epoch = 0; offset = pos 1 }

-- HLock twice and HUnlock once
lock_is_no_count : with_lock true locked ≡ Ok locked
unfolding two locked
lock_is_no_count = refl

unlocked_at_once : with_lock false locked ≡ Ok two
unfolding two locked
unlocked_at_once = refl

-- HGetState and HSetState
state_of_both : state_of (record locked { purgeable = true }) ≡ Ok 192
unfolding two locked
state_of_both = refl

state_put_back : with_state 128 two ≡ Ok locked
unfolding two locked
state_put_back = refl

-- EmptyHandle does nothing to a locked block; an emptied one has NIL as its master pointer, and a pointer of before is old.
locked_stays : emptied locked ≡ Ok locked
unfolding two locked
locked_stays = refl

emptied_is_gone : emptied two ≡ Ok gone
unfolding two gone
emptied_is_gone = refl

master_of_gone : master_of 1 gone ≡ Ok None
unfolding two gone
master_of_gone = refl

old_pointer : loaded front 1 gone ≡ Err stop.Old
unfolding two gone front
old_pointer = refl

-- a handle of a purged block stops each role, and a pointer of before is stale
purged_stops : with_lock true purged ≡ Err stop.Purged
unfolding two purged
purged_stops = refl

purged_has_no_size : size_of purged ≡ Err stop.Purged
unfolding two purged
purged_has_no_size = refl

stale_pointer : loaded front 1 purged ≡ Err stop.Stale
unfolding two purged front
stale_pointer = refl

-- loads and stores
byte_is_loaded : loaded second 1 two ≡ Ok (Byte 65 ∷ [])
unfolding two second
byte_is_loaded = refl

byte_is_stored : stored front (Byte 66 ∷ []) two ≡ Ok (record two { cells = Byte 66 ∷ Byte 65 ∷ [] })
unfolding two front
byte_is_stored = refl

past_the_end : loaded second 2 two ≡ Err stop.Range
unfolding two second
past_the_end = refl

-- SetHandleSize and ReallocateHandle
cut : resized 1 two ≡ Ok (record two { cells = Undefined ∷ [] })
unfolding two
cut = refl

renewed_gone : reallocated 1 gone ≡ Ok (record (new_block 1) { life = 2 })
unfolding two gone
renewed_gone = refl

-- a routine that moves and purges, one that moves, one that purges, and one that does neither
both : Powers
both = record { moves = true; purges = true }

only_moves : Powers
only_moves = record { moves = true; purges = false }

only_purges : Powers
only_purges = record { moves = false; purges = true }

neither : Powers
neither = record { moves = false; purges = false }

-- a decision that names all blocks, and one that names some, no block and one block twice
all : Decision
all = record { moves = All; purges = All }

some : Decision
some = record { moves = These (2 ∷ 0 ∷ 2 ∷ 9 ∷ []); purges = These (3 ∷ 3 ∷ []) }

purgeable : Block
purgeable = record two { purgeable = true }

-- a locked block stays; one that is not purgeable is moved; a purgeable one is purged, and its epoch rises once
locked_stays_put : shifted both all 1 locked ≡ locked
unfolding two locked both all
locked_stays_put = refl

unpurgeable_moves : shifted both all 1 two ≡ record two { epoch = 1 }
unfolding two both all
unpurgeable_moves = refl

purgeable_is_purged : shifted both all 1 purgeable ≡ record purgeable { epoch = 1; presence = Purged }
unfolding two purgeable both all
purgeable_is_purged = refl

-- what the routine may do
moving_purges_nothing : shifted only_moves all 1 purgeable ≡ record purgeable { epoch = 1 }
unfolding two purgeable only_moves all
moving_purges_nothing = refl

purging_moves : shifted only_purges all 1 two ≡ record two { epoch = 1 }
unfolding two only_purges all
purging_moves = refl

neither_changes : shifted neither all 1 purgeable ≡ purgeable
unfolding two purgeable neither all
neither_changes = refl

-- blocks that are gone stay
gone_stays : shifted both all 1 gone ≡ gone
unfolding two gone both all
gone_stays = refl

purged_stays : shifted both all 1 purged ≡ purged
unfolding two purged both all
purged_stays = refl

-- what is named: the second block is moved once, and the third purged
named_are_changed : shift both some (two ∷ two ∷ purgeable ∷ [])
    ≡ two ∷ record two { epoch = 1 } ∷ record purgeable { epoch = 1; presence = Purged } ∷ []
unfolding two purgeable both some
named_are_changed = refl

-- a shift that changes nothing counts
idle_shift_counts : after_shift neither all (record { blocks = two ∷ []; shifts = 6 }) ≡ record { blocks = two ∷ []; shifts = 7 }
unfolding two neither all
idle_shift_counts = refl
