-- Loads and stores, from what their parts answer.
use Rattle.std.proofs.Common.{◌≡◌, ◌≤◌, ◌+◌, ◌==◌, nat_le, not, if◌then◌else◌, ℤ, pos, negsuc, ℕ, zero, suc, Bool, true, false, List, [], ◌∷◌, length, take, drop, slice_get, Option, Some, None, Result, Ok, Err, refl, sym, ap, ◌∙◌, subst, arith, length-take, length-drop}
use Rattle.std.specs.Prelude.{IfSome}
use Rattle.std.specs.List.{list_all, list_any}
use Rattle.std.proofs.lemmas.Bool.{leb-true}
use Rattle.hs_heap.specs.Blocks.{Block, is_disposed, place_for, range_at, reach}
use Rattle.hs_heap.specs.Memory.{Acts, ActsAs, IsMade, Memory, block_at}
use Rattle.hs_heap.specs.declared.cell.Cell.{Cell}
use Rattle.hs_heap.specs.declared.cell.Cell.TheVariants as cell
use Rattle.hs_heap.specs.declared.cell.Cell.TheVariants.{Byte}
use Rattle.hs_heap.specs.declared.cell.Pointer.{Pointer}
use Rattle.hs_heap.specs.declared.cell.Pointer.TheVariants.{Spot}
use Rattle.hs_heap.specs.declared.cell.Spot as spot
use Rattle.hs_heap.specs.declared.stop.HeapStop.{HeapStop}
use Rattle.hs_heap.specs.declared.stop.HeapStop.TheVariants as heap
use Rattle.hs_heap.specs.BlockLaws.{reach_among}
use Rattle.hs_meaning.specs.Accesses.{block_stops, by_stop, cells_from, cells_of_block, start_at, unless_stopped, use_stops, cells_at, with_cells_at, cells_loaded, stored}
use Rattle.hs_meaning.specs.Machine.{Machine, Done, done, stopped, and_then}
use Rattle.hs_meaning.specs.Stops.{first_stop, heap_stop, stops_before, stops_after}
use Rattle.hs_meaning.specs.Values.{Value, Access, of_number, length_of, load_stops, value_in, store_stop, cells_for, is_byte, is_undefined, number, number_in}
use Rattle.hs_meaning.specs.declared.outcome.Stop.{Stop}
use Rattle.hs_state.specs.Machines.{Does, does_by_stop}
use Rattle.hs_types.specs.declared.integer.Integer.{Integer}
use Rattle.hs_values.specs.Answers.{Halts, or_stop, or_first}
use Rattle.hs_values.specs.declared.halt.Halt.{Halt}
use Rattle.hs_values.specs.declared.halt.Halt.TheVariants.{Stopped}

-- ---- stops

-- an answer that was refused
refused : {A : Type 0} (stop : Option Stop) (it : A) (why : Stop) → or_stop stop it ≡ Err why → stop ≡ Some why
refused None it why is = absurd (cc)
refused (Some given) it why is = cc

-- one that was given
given : {A : Type 0} (stop : Option Stop) (it answer : A) → or_stop stop it ≡ Ok answer → (stop ≡ None) × (it ≡ answer)
given None it answer is = (refl, cc)
given (Some why) it answer is = absurd (cc)

-- what was given is what is done
does_so : {A : Type 0} (wanted : Done A) (machine : Machine) (given : A) → Does wanted machine (Ok given) → wanted ≡ done given machine
does_so (done it after) machine given is = rw (is.0, is.1) refl
does_so (stopped why after) machine given is = absurd is

-- ---- loads

module _ (access : Access) (its : Pointer) (machine : Machine) where
  -- the pointer is not used
  pub not_reached : (why : Stop) → first_stop (use_stops its (length_of access) machine) ≡ Some why
      → Does (cells_loaded access its machine) machine (Err (Stopped why))
  not_reached why is =
      rw (stops_before (use_stops its (length_of access) machine) (load_stops access (cells_at its (length_of access) machine)) why is) (refl, refl)

  -- the cells hold something or not
  pub reached : (result : Result Value Halt) → first_stop (use_stops its (length_of access) machine) ≡ None
      → Halts (or_first (load_stops access (cells_at its (length_of access) machine)) (value_in access (cells_at its (length_of access) machine))) result
      → Does (cells_loaded access its machine) machine result
  reached result none is =
      rw (stops_after (use_stops its (length_of access) machine) (load_stops access (cells_at its (length_of access) machine)) none)
      (does_by_stop _ _ machine result is)

  -- by an answer that has the cells
  pub not_lent : (why : Stop) → or_first (use_stops its (length_of access) machine) (cells_at its (length_of access) machine) ≡ Err why
      → Does (cells_loaded access its machine) machine (Err (Stopped why))
  not_lent why is = not_reached why (refused _ (cells_at its (length_of access) machine) why is)

  pub lent : (cells : List Cell) (result : Result Value Halt)
      → or_first (use_stops its (length_of access) machine) (cells_at its (length_of access) machine) ≡ Ok cells
      → Halts (or_first (load_stops access cells) (value_in access cells)) result → Does (cells_loaded access its machine) machine result
  lent cells result is holds =
      let both = given (first_stop (use_stops its (length_of access) machine)) (cells_at its (length_of access) machine) cells is in
      reached result both.0 (subst (λ (its : List Cell). Halts (or_first (load_stops access its) (value_in access its)) result) (sym both.1) holds)

  -- a value that they hold
  pub lent_value : (cells : List Cell) (value : Value)
      → or_first (use_stops its (length_of access) machine) (cells_at its (length_of access) machine) ≡ Ok cells
      → or_first (load_stops access cells) (value_in access cells) ≡ Ok value → cells_loaded access its machine ≡ done value machine
  lent_value cells value is holds =
      does_so (cells_loaded access its machine) machine value
      (lent cells (Ok value) is (subst (λ (r : Result Value Stop). Halts r (Ok value)) (sym holds) refl))

-- ---- blocks

-- where a test lets it through
unless : (test : Bool) (why : HeapStop) (rest : Result ℕ HeapStop) (at : ℕ) → (if test then Err why else rest) ≡ Ok at → rest ≡ Ok at
unless true why rest at is = absurd (cc)
unless false why rest at is = is

-- the range is among so many cells
ranged_if : (test : Bool) (start at : ℕ) (why : HeapStop) → (if test then Ok start else Err why) ≡ Ok at → (test ≡ true) × (start ≡ at)
ranged_if true start at why is = (refl, cc)
ranged_if false start at why is = absurd (cc)

ranged : (offset : ℤ) (count size at : ℕ) → range_at offset count size ≡ Ok at → (start_at offset ≡ at) × (at + count ≤ size)
ranged (pos start) count size at is =
    let both = ranged_if (nat_le (start + count) size) start at heap.Range is in
    (both.1, omega (arith, leb-true (start + count) size both.0, both.1))
ranged (negsuc start) count size at is = absurd (cc)

-- so many cells are among those of the block
inside : (its : spot.Spot) (count : ℕ) (block : Block) (at : ℕ) → place_for its count block ≡ Ok at
    → (start_at its.offset ≡ at) × (at + count ≤ length block.cells)
inside its count block at is =
    let alive = unless (is_disposed block.presence) _ _ at is in
    let same = unless (not (its.life == block.life)) _ _ at alive in
    let fresh = unless (not (its.epoch == block.epoch)) _ _ at same in
    let range = ranged its.offset count (reach block.presence block.cells) at fresh in
    (range.0, omega (arith, range.1, reach_among block.presence block.cells))

-- so many are lent
lent_long : (its : spot.Spot) (count : ℕ) (block : Block) (place : Result ℕ HeapStop) (cells : List Cell) → place_for its count block ≡ place
    → or_first (heap_stop place ∷ []) (cells_from its.offset count block.cells) ≡ Ok cells → length cells ≡ count
lent_long its count block (Ok at) cells is lends =
    let there = inside its count block at is in
    let rest : count ≤ length (drop at block.cells) = omega (arith, there.1, length-drop at block.cells) in
    ap length (sym cc)
    ∙ ap (λ (n : ℕ). length (take count (drop n block.cells))) there.0
    ∙ length-take count (drop at block.cells)
    ∙ omega (arith, rest)
lent_long its count block (Err why) cells is lends = absurd (cc)

lent_of : (its : spot.Spot) (count : ℕ) (block : Option Block) (cells : List Cell)
    → or_first (block_stops its count block) (cells_from its.offset count (cells_of_block block)) ≡ Ok cells → length cells ≡ count
lent_of its count None cells is = absurd (cc)
lent_of its count (Some block) cells is = lent_long its count block (place_for its count block) cells refl is

-- of the block that the pointer names
pub long : (its : spot.Spot) (count : ℕ) (machine : Machine) (cells : List Cell)
    → or_first (use_stops (Spot its) count machine) (cells_at (Spot its) count machine) ≡ Ok cells → length cells ≡ count
long its count machine cells is = lent_of its count (block_at machine.blocks its.block) cells is

-- a role that stops changes no block
stays_so : (wanted : Result Block HeapStop) (block : ℕ) (old new : Memory) (why : HeapStop) → ActsAs wanted block old new (Err why) → new ≡ old
stays_so (Ok after) block old new why acts = absurd acts
stays_so (Err stop) block old new why acts = acts.1

pub stays : (role : Block → Result Block HeapStop) (block : ℕ) (old new : Memory) (why : HeapStop) → IsMade old block
    → Acts role block old new (Err why) → new ≡ old
stays role zero old new why made acts = absurd (omega (arith, made.0))
stays role (suc place) old new why made acts =
    let found = item_there place old.blocks made.1 in
    stays_so (role found.0) (suc place) old new why (acts found.0 found.1)
  where
    -- the block is there
    item_there : (place : ℕ) (blocks : List Block) → suc place ≤ length blocks → (it : Block) × (slice_get blocks place ≡ Some it)
    item_there place [] within = absurd (omega (arith, within))
    item_there zero (it ∷ blocks) within = (it, refl)
    item_there (suc place) (it ∷ blocks) within = item_there place blocks (omega (arith, within))

-- ---- numbers

-- cells that are bytes have values
have_values : (cells : List Cell) → list_all is_byte cells ≡ true → list_any is_undefined cells ≡ false
have_values [] is = refl
have_values (cell.Undefined ∷ cells) is = absurd (cc)
have_values (cell.Byte byte ∷ cells) is = have_values cells is
have_values (cell.State byte ∷ cells) is = absurd (cc)
have_values (cell.Part place its class ∷ cells) is = absurd (cc)

-- what is there if a test holds, is there
holds_if : (test : Bool) (it value : Value) → (if test then Some it else None) ≡ Some value → test ≡ true
holds_if true it value is = refl
holds_if false it value is = absurd (cc)

-- a number is in bytes
in_bytes : (kind : Integer) (cells : List Cell) (bits : ℕ) → number_in kind cells ≡ Some (number bits) → list_all is_byte cells ≡ true
in_bytes kind [] bits is = refl
in_bytes kind (cell.Undefined ∷ cells) bits is = absurd (cc)
in_bytes kind (cell.Byte byte ∷ cells) bits is = holds_if (list_all is_byte cells) _ (number bits) is
in_bytes kind (cell.State byte ∷ []) bits is = absurd (cc)
in_bytes kind (cell.State byte ∷ other ∷ cells) bits is = absurd (cc)
in_bytes kind (cell.Part place its class ∷ cells) bits is = absurd (cc)

-- what a load of a number gives
number_read : (kind : Integer) (cells : List Cell) (bits : ℕ) → number_in kind cells ≡ Some (number bits)
    → or_first (load_stops (of_number kind) cells) (value_in (of_number kind) cells) ≡ Ok (number bits)
number_read kind cells bits is = rw (have_values cells (in_bytes kind cells bits is), is) refl

-- by the cells that are lent
pub lent_number : (kind : Integer) (its : Pointer) (machine : Machine) (cells : List Cell) (bits : ℕ)
    → or_first (use_stops its (length_of (of_number kind)) machine) (cells_at its (length_of (of_number kind)) machine) ≡ Ok cells
    → number_in kind cells ≡ Some (number bits) → cells_loaded (of_number kind) its machine ≡ done (number bits) machine
lent_number kind its machine cells bits is holds =
    lent_value (of_number kind) its machine cells (number bits) is (number_read kind cells bits holds)

-- if there is one
pub numbers_lent : (kind : Integer) (its : Pointer) (machine : Machine) (cells : List Cell) (result : Option ℕ)
    → or_first (use_stops its (length_of (of_number kind)) machine) (cells_at its (length_of (of_number kind)) machine) ≡ Ok cells
    → IfSome result (λ bits. number_in kind cells ≡ Some (number bits))
    → IfSome result (λ bits. cells_loaded (of_number kind) its machine ≡ done (number bits) machine)
numbers_lent kind its machine cells None is holds = tt
numbers_lent kind its machine cells (Some bits) is holds = lent_number kind its machine cells bits is holds

-- ---- stores

-- what it gives is dropped
abbrev pub dropped : {A : Type 0} → A → Machine → Done (Unit {0})
dropped it after = done tt after

module _ (access : Access) (its : Pointer) (value : Value) (machine : Machine) where
  -- a stop is the same
  same_stop : (stop : Option Stop) (after : Machine) → and_then (by_stop stop value after machine) dropped ≡ by_stop stop tt after machine
  same_stop None after = refl
  same_stop (Some why) after = refl

  -- the value is not stored so
  pub not_stored : (why : Stop) → or_stop (store_stop access value) (cells_for access value) ≡ Err why
      → and_then (stored access its value machine) dropped ≡ stopped why machine
  not_stored why is = rw (refused (store_stop access value) (cells_for access value) why is) refl

  -- its cells are written
  pub stored_cells : (cells : List Cell) → or_stop (store_stop access value) (cells_for access value) ≡ Ok cells → length cells ≡ length_of access
      → and_then (stored access its value machine) dropped
      ≡ unless_stopped (use_stops its (length cells) machine) tt (with_cells_at its cells machine) machine
  stored_cells cells is same =
      let both = given (store_stop access value) (cells_for access value) cells is in
      rw (both.0, both.1, same) (same_stop (first_stop (use_stops its (length_of access) machine)) (with_cells_at its cells machine))
