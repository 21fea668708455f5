-- Rows of the table of changes, each with its opposite where a rule has an exception. There are two names, 0 and 1, and four slots, of which the first
-- two are the names. Before each change place 0 has the value of name 0, and above it is a byte that was read from name 0; slot 2 has such a byte too.
-- Name 1 is locked, name 1 is live, and the bytes at place 1 and in slot 2 keep name 1. A row is a change and a fact, and whether the fact is there after it.
use Rattle.std.proofs.Common.{◌≡◌, ℕ, ◌==◌, Bool, true, false, not, ◌&&◌, refl}
use Rattle.hs_fact_rows.specs.Cells.{with_at, saved_at, saved_in}
use Rattle.hs_fact_rows.specs.Given.{Facts, Names}
use Rattle.hs_lock_rows.specs.Given.{Locks, given}
use Rattle.hs_lock_rows.specs.declared.change.Change.{Change}
use Rattle.hs_lock_rows.specs.declared.change.Change.TheVariants as change
use Rattle.hs_lock_rows.specs.declared.field.Field.{Field}
use Rattle.hs_lock_rows.specs.declared.field.Field.TheVariants as field

-- ---- what is there before

-- With and Saved; the bytes are of that name
abbrev low_of : ℕ → Facts
low_of name (with_at place i) = (place == 0) && (i == 0)
low_of name (saved_at place i) = (place == 1) && (i == name)
low_of name (saved_in slot i) = (slot == 2) && (i == name)

-- the other facts, by whether the names are apart and whether place 0 is new
abbrev locks_of : Bool → Bool → Locks
locks_of apart new field.Locked i = i == 1
locks_of apart new field.Live i = i == 1
locks_of apart new (field.Apart x) i = apart
locks_of apart new (field.KeptIn slot) i = (slot == 2) && (i == 1)
locks_of apart new (field.KeptAt place) i = (place == 1) && (i == 1)
locks_of apart new (field.NewAt place) i = new && (place == 0)

-- a function ends nothing, or what is about name 1
abbrev ends_none : ℕ → Names
ends_none f i = false

abbrev ends_one : ℕ → Names
ends_one f i = i == 1

-- the names are apart
abbrev after : Change → Field → ℕ → Bool
after = given 2 ends_none ends_none (low_of 0) (locks_of true false)

-- the names may have one handle
abbrev close : Change → Field → ℕ → Bool
close = given 2 ends_none ends_none (low_of 0) (locks_of false false)

-- the same, and the bytes were read from the other name
abbrev other_byte : Change → Field → ℕ → Bool
other_byte = given 2 ends_none ends_none (low_of 1) (locks_of false false)

-- place 0 is new
abbrev fresh : Change → Field → ℕ → Bool
fresh = given 2 ends_none ends_none (low_of 0) (locks_of false true)

-- ---- values that are taken, and copies

a_lock_stays : after (change.Pop 0) field.Locked 1 ≡ true
a_lock_stays = refl

no_lock_comes : after (change.Pop 0) field.Locked 0 ≡ false
no_lock_comes = refl

a_byte_that_is_taken : (after (change.Pop 2) (field.KeptAt 1) 1 ≡ true) × (after (change.Pop 1) (field.KeptAt 1) 1 ≡ false)
a_byte_that_is_taken = (refl, refl)

a_byte_is_got : (after (change.Get 2 2) (field.KeptAt 2) 1 ≡ true) × (after (change.Get 2 3) (field.KeptAt 2) 1 ≡ false)
a_byte_is_got = (refl, refl)

a_byte_is_doubled : (after (change.Dup 2) (field.KeptAt 2) 1 ≡ true) × (after (change.Dup 1) (field.KeptAt 1) 1 ≡ false)
a_byte_is_doubled = (refl, refl)

a_byte_is_tucked : (after (change.Tuck 2) (field.KeptAt 0) 1 ≡ true) × (after (change.Tuck 2) (field.KeptAt 1) 1 ≡ false)
    × (after (change.Tuck 2) (field.KeptAt 2) 1 ≡ true)
a_byte_is_tucked = (refl, refl, refl)

a_byte_is_converted : after (change.Conv 2) (field.KeptAt 1) 1 ≡ true
a_byte_is_converted = refl

a_byte_is_brought : (after (change.Bring 2 0) (field.KeptAt 0) 1 ≡ true) × (after (change.Bring 2 0) (field.KeptAt 1) 1 ≡ false)
a_byte_is_brought = (refl, refl)

-- ---- names and slots that are set

a_name_gets_a_lock : (given 2 ends_none ends_none (low_of 0) (λ its i. true) (change.SetName 1 1 1) field.Locked 1 ≡ true)
    × (after (change.SetName 1 1 1) field.Locked 1 ≡ false)
a_name_gets_a_lock = (refl, refl)

the_other_name_keeps_it : after (change.SetName 1 0 0) field.Locked 1 ≡ true
the_other_name_keeps_it = refl

a_name_that_is_set_is_not_apart : (after (change.SetName 2 0 0) (field.Apart 0) 1 ≡ false) × (after (change.SetName 2 0 0) (field.Apart 1) 0 ≡ false)
a_name_that_is_set_is_not_apart = (refl, refl)

what_is_new_is_apart : (fresh (change.SetName 1 0 0) (field.Apart 0) 1 ≡ true) × (fresh (change.SetName 1 0 0) (field.Apart 1) 0 ≡ true)
what_is_new_is_apart = (refl, refl)

what_is_new_is_live : (fresh (change.SetName 1 0 0) field.Live 0 ≡ true) × (after (change.SetName 1 0 0) field.Live 0 ≡ false)
what_is_new_is_live = (refl, refl)

a_slot_gets_a_byte : (after (change.SetSlot 2 3) (field.KeptIn 3) 1 ≡ true) × (after (change.SetSlot 1 2) (field.KeptIn 2) 1 ≡ false)
a_slot_gets_a_byte = (refl, refl)

-- ---- roles of routines

a_handle_that_is_used : (after (change.Use 1 0) field.Live 0 ≡ true) × (after (change.Use 2 1) field.Live 0 ≡ false)
a_handle_that_is_used = (refl, refl)

a_handle_is_locked : (after (change.Lock 1 0) field.Locked 0 ≡ true) × (after (change.Lock 2 1) field.Locked 0 ≡ false)
a_handle_is_locked = (refl, refl)

a_lock_does_not_reach_the_byte : after (change.Lock 1 0) (field.KeptIn 2) 0 ≡ false
a_lock_does_not_reach_the_byte = refl

a_byte_of_another_block_keeps_the_lock : given 2 ends_none ends_none (low_of 1) (locks_of true false) (change.Lock 1 0) (field.KeptIn 2) 0 ≡ true
a_byte_of_another_block_keeps_the_lock = refl

another_block_is_unlocked : (after (change.Unlock 1 0) field.Locked 1 ≡ true) × (close (change.Unlock 1 0) field.Locked 1 ≡ false)
another_block_is_unlocked = (refl, refl)

a_state_is_put_back : (close (change.SetState 2 0) field.Locked 1 ≡ true) × (other_byte (change.SetState 2 0) field.Locked 1 ≡ false)
a_state_is_put_back = (refl, refl)

another_handle_is_disposed : (after (change.Dispose 1 0) field.Live 1 ≡ true) × (close (change.Dispose 1 0) field.Live 1 ≡ false)
another_handle_is_disposed = (refl, refl)

a_state_is_read : (after (change.ReadState 1 0) (field.KeptAt 0) 1 ≡ true) × (after (change.ReadState 1 0) (field.KeptAt 0) 0 ≡ false)
a_state_is_read = (refl, refl)

a_handle_is_made : (after (change.Make 0) (field.NewAt 0) 0 ≡ true) × (after (change.Make 0) (field.NewAt 1) 0 ≡ false)
a_handle_is_made = (refl, refl)

-- ---- calls

a_function_unlocks : (after (change.Call 0 0 false true) field.Locked 1 ≡ true) × (after (change.Call 0 0 true false) field.Locked 1 ≡ false)
a_function_unlocks = (refl, refl)

a_function_disposes : (after (change.Call 0 0 true false) field.Live 1 ≡ true) × (after (change.Call 0 0 false true) field.Live 1 ≡ false)
a_function_disposes = (refl, refl)

a_function_assigns_the_name : given 2 ends_one ends_none (low_of 0) (locks_of true false) (change.Call 0 0 false false) field.Locked 1 ≡ false
a_function_assigns_the_name = refl

a_function_assigns_the_slot : (given 2 ends_none ends_one (low_of 0) (λ its i. true) (change.Call 0 0 false false) (field.KeptIn 1) 0 ≡ false)
    × (given 2 ends_none ends_one (low_of 0) (λ its i. true) (change.Call 0 0 false false) (field.KeptIn 2) 0 ≡ true)
a_function_assigns_the_slot = (refl, refl)
