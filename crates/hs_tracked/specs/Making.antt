-- What routines leave in memory, and what they give (own).
--     HasAll P machine       each cell of a machine is such
--     IsGiven v after        a value that a routine gives: a number, a state byte, NIL, a pointer to an object, or the handle of a block that it made
--     role_gives             every role
--     plain_gives            a plain routine, with the bytes that it fills
-- A cell without a value is such, and so is a byte.
use Rattle.std.proofs.Common.{◌≡◌, ◌⊎◌, inl, inr, ℕ, ◌+◌, ◌-◌, ◌==◌, ◌&&◌, Bool, true, false, List, [], ◌∷◌, ◌++◌, length, map, take, replicate, Option, Some, None, Result, Ok, Err, refl, ap, ◌∙◌, if◌then◌else◌}
use Rattle.std.specs.List.{AllByRecursion}
use Rattle.hs_base.specs.Entries.{all_appended}
use Rattle.hs_heap.specs.Blocks.{last_life, Block, new_block, standing, by_standing, changed, with_lock, with_purge_bit, with_state, emptied, without_cells, disposed, ended, resized, renewed, reallocated, has_life}
use Rattle.hs_heap.specs.Memory.{block_at, has_room, put_block}
use Rattle.hs_heap.specs.declared.cell.Cell.{Cell}
use Rattle.hs_heap.specs.declared.cell.Cell.TheVariants.{Undefined, Byte}
use Rattle.hs_heap.specs.declared.cell.Pointer.{Pointer}
use Rattle.hs_heap.specs.declared.cell.Pointer.TheVariants.{Nil, Fixed, Handle, Spot}
use Rattle.hs_heap.specs.declared.presence.Presence.TheVariants.{Emptied}
use Rattle.hs_heap.specs.declared.stop.HeapStop.{HeapStop}
use Rattle.hs_hiding.specs.Holding.{OnDone}
use Rattle.hs_hiding.specs.Lists.{all_set, all_same, all_take}
use Rattle.hs_hiding.specs.Roles.{next_there}
use Rattle.hs_meaning.specs.Accesses.{cells_at, with_cells_at}
use Rattle.hs_meaning.specs.Handles.{with_result, changed_in, changed_by, is_granted, asked, has_room_after, reshaped_in, reshaped_by, if_granted, any_life, makes_block, makes_object, handle_if, object_if, with_block, with_object_if, disposed_object, size_for}
use Rattle.hs_meaning.specs.Machine.{Machine, Object, Done, allocated, has_room_for, with_blocks, ended_object}
use Rattle.hs_meaning.specs.Operations.{as_kind}
use Rattle.hs_meaning.specs.Plain.{argument, answers, words_for, bytes_of_words, fill_size, fill_stops, filled, one_word_less, made_size, made_block, made_object, points_to_pointer, new_value, pointer_result, result_by, result_of, next_word, pointed_size, then_unless, with_line, line_of, after_line, argument_stops, plain}
use Rattle.hs_meaning.specs.Roles.{state_in, role_value, role_machine}
use Rattle.hs_meaning.specs.Stops.{first_stop}
use Rattle.hs_meaning.specs.Values.{Value, number, pointer, state, structure, pointer_in}
use Rattle.hs_meaning.specs.declared.outcome.Stop.{Stop}
use Rattle.hs_sound_heap.specs.Since.{is_marked, is_purged}
use Rattle.hs_table.specs.declared.role.Role.{Role}
use Rattle.hs_table.specs.declared.role.Role.TheVariants.{NewHandle, DisposeHandle, GetSize, SetSize, Lock, Unlock, Purge, NoPurge, GetState, SetState, Empty, Realloc, NewPtr, DisposePtr, BlockMove, Getchar, Putchar}
use Rattle.hs_table.specs.declared.routine.Routine.{Routine}
use Rattle.hs_tracked.specs.Cells.{InBlocks, InObjects, blocks_written, cells_read, objects_written, of_block}
use Rattle.hs_tree.specs.Kinds.{number_kind, pointed, size_at}
use Rattle.hs_tree.specs.declared.function.Prototype.{Prototype}
use Rattle.hs_types.specs.TypeTables.{TypeTable}
use Rattle.hs_types.specs.declared.integer.Integer.{Integer}
use Rattle.hs_types.specs.declared.row.TypeId.{TypeId}

-- ---- values

-- a value that has no facts
abbrev pub HasNoFacts : Value → Type 0
HasNoFacts (number bits) = Unit {0}
HasNoFacts (pointer Nil) = Unit {0}
HasNoFacts (pointer (Fixed object at)) = Unit {0}
HasNoFacts (pointer (Handle n)) = ⊥
HasNoFacts (pointer (Spot its)) = ⊥
HasNoFacts (state byte) = Unit {0}
HasNoFacts (structure cells) = ⊥

-- the handle of a block that may be neither purged nor moved: it was just made
pub record IsFresh (v : Value) (after : Machine) : Type 0 where
  pub n : ℕ
  pub block : Block
  pub handle : v ≡ pointer (Handle n)
  pub there : block_at after.blocks n ≡ Some block
  pub unmarked : is_marked block ≡ false
  pub alive : is_purged block.presence ≡ false

-- what a routine gives: the handle of a block only if it is one that makes them
abbrev pub IsGiven : Type 0 → Value → Machine → Type 0
IsGiven Makes v after = HasNoFacts v ⊎ (Makes × IsFresh v after)

module _ (P : Cell → Type 0) (undefined : P Undefined) (byte : (b : ℕ) → P (Byte b)) where
  -- each cell of the machine is such
  pub record HasAll (machine : Machine) : Type 0 where
    pub blocks : InBlocks P machine.blocks
    pub objects : InObjects P machine.objects

  -- the machine after it has them, and the value is one that a routine gives
  abbrev pub Gets : Type 0 → Value → Machine → Type 0
  Gets Makes v after = IsGiven Makes v after × HasAll after

  -- ---- blocks that roles change

  -- the block that a role leaves has no handle in its cells
  abbrev pub LeavesCells : Result Block HeapStop → Type 0
  LeavesCells (Ok new) = AllByRecursion P new.cells
  LeavesCells (Err why) = Unit {0}

  standing_leaves : (here gone : Block) (stands : Result Bool HeapStop) → AllByRecursion P here.cells → AllByRecursion P gone.cells
      → LeavesCells (by_standing here gone stands)
  standing_leaves here gone (Ok true) first second = first
  standing_leaves here gone (Ok false) first second = second
  standing_leaves here gone (Err why) first second = tt

  changed_leaves : (change : Block → Block) (block : Block) → AllByRecursion P (change block).cells → AllByRecursion P block.cells
      → LeavesCells (changed change block)
  changed_leaves change block first second = standing_leaves (change block) block (standing block.presence) first second

  emptied_leaves : (block : Block) → AllByRecursion P block.cells → LeavesCells (emptied block)
  emptied_leaves block are = by_life (block.life == last_life)
    where
      by_lock : (z : Bool)
          → AllByRecursion P (if z then block else record block { cells = []; life = block.life + 1; presence = Emptied }).cells
      by_lock true = are
      by_lock false = tt

      by_life : (z : Bool) → LeavesCells (if z then changed (λ its. its) block else changed without_cells block)
      by_life true = changed_leaves (λ its. its) block are are
      by_life false = changed_leaves without_cells block (by_lock block.locked) are

  resized_leaves : (size : ℕ) (block : Block) → AllByRecursion P block.cells → LeavesCells (resized size block)
  resized_leaves size block are =
      changed_leaves (λ block. record block { cells = take size block.cells ++ replicate (size - length block.cells) Undefined }) block
      (all_appended P (take size block.cells) (replicate (size - length block.cells) Undefined) (all_take P size block.cells are)
      (all_same P (size - length block.cells) Undefined undefined)) are

  reallocated_leaves : (size : ℕ) (block : Block) → AllByRecursion P block.cells → LeavesCells (reallocated size block)
  reallocated_leaves size block are = by_lock block.locked
    where
      by_lock : (z : Bool)
          → LeavesCells (if z then changed (λ block. block) block else by_standing (renewed size block) (renewed size block) (standing block.presence))
      by_lock true = changed_leaves (λ b. b) block are are
      by_lock false =
          standing_leaves (renewed size block) (renewed size block) (standing block.presence) (all_same P size Undefined undefined)
          (all_same P size Undefined undefined)

  put_block_has : (machine : Machine) (k : ℕ) (new : Block) → AllByRecursion P new.cells → HasAll machine
      → HasAll (with_blocks (put_block machine.blocks k new) machine)
  put_block_has machine k new is are =
      record {
        blocks = all_set (λ b. AllByRecursion P b.cells) machine.blocks (k - 1) new are.blocks is;
        objects = are.objects;
      }

  result_has : (k : ℕ) (result : Result Block HeapStop) (machine : Machine) → LeavesCells result → HasAll machine
      → HasAll (with_result k result machine)
  result_has k (Ok new) machine is are = put_block_has machine k new is are
  result_has k (Err why) machine is are = are

  changed_has : (role : Block → Result Block HeapStop) (its : Pointer) (machine : Machine)
      → ((block : Block) → AllByRecursion P block.cells → LeavesCells (role block))
      → HasAll machine → HasAll (changed_by role its machine)
  changed_has role Nil machine each are = are
  changed_has role (Fixed object at) machine each are = are
  changed_has role (Spot s) machine each are = are
  changed_has role (Handle k) machine each are = by_block (block_at machine.blocks k) refl
    where
      by_block : (found : Option Block) → block_at machine.blocks k ≡ found → HasAll (changed_in role k found machine)
      by_block None there = are
      by_block (Some b) there = result_has k (role b) machine (each b (of_block P machine.blocks k b are.blocks there)) are

  reshaped_has : (lives : Block → Bool) (role : Block → Result Block HeapStop) (its : Pointer) (machine : Machine)
      → ((block : Block) → AllByRecursion P block.cells → LeavesCells (role block)) → HasAll machine → HasAll (reshaped_by lives role its machine)
  reshaped_has lives role Nil machine each are = are
  reshaped_has lives role (Fixed object at) machine each are = are
  reshaped_has lives role (Spot s) machine each are = are
  reshaped_has lives role (Handle k) machine each are = by_block (block_at machine.blocks k) refl
    where
      by_block : (found : Option Block) → block_at machine.blocks k ≡ found → HasAll (reshaped_in lives role k found machine)
      by_block None there = are
      by_block (Some b) there =
          by_room (lives b && has_room_after k (role b) machine)
        where
          by_room : (z : Bool) → HasAll (if z then with_result k (role b) machine else machine)
          by_room true = result_has k (role b) machine (each b (of_block P machine.blocks k b are.blocks there)) are
          by_room false = are

  asked_has : (machine : Machine) → HasAll machine → HasAll (asked machine)
  asked_has machine are = record { blocks = are.blocks; objects = are.objects }

  granted_has : (value : Value) (change : Machine → Machine) (machine : Machine) → ((before : Machine) → HasAll before → HasAll (change before))
      → HasAll machine → HasAll (if_granted value change machine)
  granted_has value change machine each are = by_test (is_granted value machine)
    where
      by_test : (z : Bool) → HasAll (if z then change (asked machine) else asked machine)
      by_test true = each (asked machine) (asked_has machine are)
      by_test false = asked_has machine are

  -- ---- what is made

  block_added : (machine : Machine) (new : Block) → AllByRecursion P new.cells → HasAll machine → HasAll (with_blocks (machine.blocks ++ new ∷ []) machine)
  block_added machine new is are =
      record {
        blocks = all_appended (λ b. AllByRecursion P b.cells) machine.blocks (new ∷ []) are.blocks (is, tt);
        objects = are.objects;
      }

  object_added : (machine : Machine) (new : Object) → AllByRecursion P new.cells → HasAll machine
      → HasAll (record machine { objects = machine.objects ++ new ∷ [] })
  object_added machine new is are =
      record {
        blocks = are.blocks;
        objects = all_appended (λ o. AllByRecursion P o.cells) machine.objects (new ∷ []) are.objects (is, tt);
      }

  -- a block that was just made
  made_now : (blocks : List Block) (new : Block) (after : Machine) → after.blocks ≡ blocks ++ new ∷ [] → is_marked new ≡ false
      → is_purged new.presence ≡ false → IsFresh (pointer (Handle (length blocks + 1))) after
  made_now blocks new after is unmarked alive =
      record {
        n = length blocks + 1;
        block = new;
        handle = refl;
        there = ap (λ bs. block_at bs (length blocks + 1)) is ∙ next_there blocks new;
        unmarked = unmarked;
        alive = alive;
      }

  new_gives : (Makes : Type 0) → Makes → (z : Bool) (size : ℕ) (machine : Machine) → HasAll machine
      → Gets Makes (handle_if z machine) (with_block z size (asked machine))
  new_gives Makes makes true size machine are = (
    inr (makes, made_now machine.blocks (new_block size) (with_block true size (asked machine)) refl refl refl),
    block_added (asked machine) (new_block size) (all_same P size Undefined undefined) (asked_has machine are),
  )
  new_gives Makes makes false size machine are = (inl tt, asked_has machine are)

  object_value : (z : Bool) (machine : Machine) → HasNoFacts (object_if z machine)
  object_value true machine = tt
  object_value false machine = tt

  ptr_has : (z : Bool) (size : ℕ) (machine : Machine) → HasAll machine → HasAll (with_object_if z size machine)
  ptr_has true size machine are =
      object_added machine (record { cells = replicate size Undefined; storage = allocated })
      (all_same P size Undefined undefined) are
  ptr_has false size machine are = are

  disposed_has : (its : Pointer) (machine : Machine) → HasAll machine → HasAll (disposed_object its machine)
  disposed_has Nil machine are = are
  disposed_has (Handle k) machine are = are
  disposed_has (Spot s) machine are = are
  disposed_has (Fixed object at) machine are =
      record {
        blocks = are.blocks;
        objects = all_set (λ o. AllByRecursion P o.cells) machine.objects object ended_object are.objects tt;
      }

  -- ---- roles

  -- a number of the type with which the routine is declared
  pub kind_given : (Makes : Type 0) (kind : Option Integer) (v : Value) (after : Machine) → IsGiven Makes v after
      → IsGiven Makes (as_kind kind v) after
  kind_given Makes None (number bits) after is = inl tt
  kind_given Makes (Some kind) (number bits) after is = inl tt
  kind_given Makes kind (pointer its) after is = is
  kind_given Makes kind (state bits) after is = inl tt
  kind_given Makes kind (structure cells) after is = is

  -- other cells where a pointer reaches
  written : (its : Pointer) (new : List Cell) (machine : Machine) → AllByRecursion P new → HasAll machine → HasAll (with_cells_at its new machine)
  written its new machine is are =
      record { blocks = blocks_written P its new machine is are.blocks; objects = objects_written P its new machine is are.objects }

  pub role_gives : (its : Role) (values : List Value) (machine : Machine) → HasAll machine
      → Gets (its ≡ NewHandle) (role_value its values machine) (role_machine its values machine)
  role_gives NewHandle (size ∷ []) machine are = new_gives (NewHandle ≡ NewHandle) refl (makes_block size machine) (size_for size) machine are
  role_gives DisposeHandle (its ∷ []) machine are =
      (inl tt, changed_has disposed (pointer_in its) machine (λ b is. standing_leaves (ended b) (ended b) (standing b.presence) tt tt) are)
  role_gives GetSize (its ∷ []) machine are = (inl tt, are)
  role_gives SetSize (its ∷ size ∷ []) machine are = (
    inl tt,
    granted_has size (reshaped_by any_life (resized (size_for size)) (pointer_in its)) machine
        (λ before are'. reshaped_has any_life (resized (size_for size)) (pointer_in its) before (resized_leaves (size_for size)) are') are,
  )
  role_gives Lock (its ∷ []) machine are =
      (inl tt, changed_has (with_lock true) (pointer_in its) machine (λ b is. changed_leaves (λ block. record block { locked = true }) b is is) are)
  role_gives Unlock (its ∷ []) machine are =
      (inl tt, changed_has (with_lock false) (pointer_in its) machine (λ b is. changed_leaves (λ block. record block { locked = false }) b is is) are)
  role_gives Purge (its ∷ []) machine are = (
    inl tt,
    changed_has (with_purge_bit true) (pointer_in its) machine
        (λ b is. changed_leaves (λ block. record block { purgeable = true }) b is is) are,
  )
  role_gives NoPurge (its ∷ []) machine are = (
    inl tt,
    changed_has (with_purge_bit false) (pointer_in its) machine
        (λ b is. changed_leaves (λ block. record block { purgeable = false }) b is is) are,
  )
  role_gives GetState (its ∷ []) machine are = (inl tt, are)
  role_gives SetState (its ∷ byte ∷ []) machine are =
      (inl tt, changed_has (with_state (state_in byte)) (pointer_in its) machine (λ b is. standing_leaves _ b (standing b.presence) is is) are)
  role_gives Empty (its ∷ []) machine are = (inl tt, changed_has emptied (pointer_in its) machine emptied_leaves are)
  role_gives Realloc (its ∷ size ∷ []) machine are = (
    inl tt,
    granted_has size (reshaped_by has_life (reallocated (size_for size)) (pointer_in its)) machine
        (λ before are'. reshaped_has has_life (reallocated (size_for size)) (pointer_in its) before (reallocated_leaves (size_for size)) are') are,
  )
  role_gives NewPtr (size ∷ []) machine are = (
    inl (object_value (makes_object size machine) machine),
    ptr_has (makes_object size machine) (size_for size) (asked machine)
        (asked_has machine are),
  )
  role_gives DisposePtr (its ∷ []) machine are = (inl tt, disposed_has (pointer_in its) machine are)
  role_gives BlockMove (from ∷ to ∷ count ∷ []) machine are = (
    inl tt,
    written (pointer_in to) (cells_at (pointer_in from) (size_for count) machine) machine
        (cells_read P (pointer_in from) (size_for count) machine are.blocks are.objects) are,
  )
  role_gives Getchar [] machine are = (inl tt, record { blocks = are.blocks; objects = are.objects })
  role_gives Putchar (byte ∷ []) machine are =
      (inl tt, record { blocks = are.blocks; objects = are.objects })
  role_gives its values machine are = (inl tt, are)

  -- ---- plain routines

  filled_has : (target : Option Value) (size : ℕ) (machine : Machine) → HasAll machine → HasAll (filled target size machine)
  filled_has None size machine are = are
  filled_has (Some v) size machine are =
      on (written (pointer_in v) (map Byte (take size (bytes_of_words (answers (words_for size) machine.words)))) machine
      (bytes_are (take size (bytes_of_words (answers (words_for size) machine.words)))) are)
    where
      bytes_are : (bytes : List ℕ) → AllByRecursion P (map Byte bytes)
      bytes_are [] = tt
      bytes_are (b ∷ bytes) = (byte b, bytes_are bytes)

      on : HasAll (with_cells_at (pointer_in v) (map Byte (take size (bytes_of_words (answers (words_for size) machine.words)))) machine)
          → HasAll (filled (Some v) size machine)
      on its = record { blocks = its.blocks; objects = its.objects }

  made_gives : (Makes : Type 0) → Makes → (z : Bool) (size : ℕ) (machine : Machine) → HasAll machine
      → Gets Makes (handle_if z machine) (made_block z size machine)
  made_gives Makes makes true size machine are = (
    inr (makes, made_now machine.blocks (record (new_block size) { cells = replicate size (Byte 0) }) (made_block true size machine) refl refl refl),
    block_added machine (record (new_block size) { cells = replicate size (Byte 0) }) (all_same P size (Byte 0) (byte 0)) are,
  )
  made_gives Makes makes false size machine are = (inl tt, are)

  made_object_has : (z : Bool) (size : ℕ) (machine : Machine) → HasAll machine → HasAll (made_object z size machine)
  made_object_has true size machine are =
      object_added machine (record { cells = replicate size (Byte 0); storage = allocated })
      (all_same P size (Byte 0) (byte 0)) are
  made_object_has false size machine are = are

  value_gives : (Makes : Type 0) (handles : Bool) → (handles ≡ true → Makes) → (size : ℕ) (is_zero : Bool) (machine : Machine) → HasAll machine
      → OnDone (Gets Makes) (new_value handles size is_zero machine)
  value_gives Makes handles makes size true machine are = (inl tt, are)
  value_gives Makes true makes size false machine are = made_gives Makes (makes refl) (has_room machine.blocks size) size machine are
  value_gives Makes false makes size false machine are =
      (inl (object_value (has_room_for size machine) machine), made_object_has (has_room_for size machine) size machine are)

  -- a plain routine makes a handle if its result is a pointer to a pointer
  abbrev pub MakesHandle : TypeTable → Option TypeId → Type 0
  MakesHandle types target = points_to_pointer types target ≡ true

  pointer_gives : (types : TypeTable) (size : ℕ) (target : Option TypeId) (is_zero : Bool) (machine : Machine) → HasAll machine
      → OnDone (Gets (MakesHandle types target)) (pointer_result types size target is_zero machine)
  pointer_gives types size target is_zero machine are = by_test (points_to_pointer types target) refl
    where
      by_test : (z : Bool) → points_to_pointer types target ≡ z
          → OnDone (Gets (MakesHandle types target)) (if z then new_value true (made_size size (pointed_size types target)) is_zero machine
          else new_value false (made_size size (size_at types target)) is_zero machine)
      by_test true so =
          value_gives (MakesHandle types target) true (λ handles. so) (made_size size (pointed_size types target)) is_zero machine are
      by_test false so =
          value_gives (MakesHandle types target) false (λ handles. so ∙ handles) (made_size size (size_at types target)) is_zero machine are

  less_has : (machine : Machine) → HasAll machine → HasAll (one_word_less machine)
  less_has machine are = record { blocks = are.blocks; objects = are.objects }

  result_gives : (types : TypeTable) (size : ℕ) (kind : Option Integer) (target : Option TypeId) (machine : Machine) → HasAll machine
      → OnDone (Gets (MakesHandle types target)) (result_by types size kind target machine)
  result_gives types size (Some kind) target machine are = (inl tt, less_has machine are)
  result_gives types size None (Some target) machine are =
      pointer_gives types size (Some target) (next_word machine.words == 0) (one_word_less machine) (less_has machine are)
  result_gives types size None None machine are = (inl tt, are)

  then_gives : (Makes : Type 0) (why : Option Stop) (machine : Machine) (rest : Done Value) → OnDone (Gets Makes) rest
      → OnDone (Gets Makes) (then_unless why machine rest)
  then_gives Makes None machine rest is = is
  then_gives Makes (Some why) machine rest is = tt

  line_gives : (types : TypeTable) (its : Routine) (prototype : Prototype) (values : List Value) (machine : Machine) → HasAll machine
      → OnDone (Gets (MakesHandle types (pointed types prototype.result))) (after_line types its prototype values machine)
  line_gives types its prototype values machine are = by_size (fill_size types its.fills prototype.parameters)
    where
      by_size : (size : ℕ) → OnDone (Gets (MakesHandle types (pointed types prototype.result)))
          (then_unless (first_stop (fill_stops (argument its.fills values) size machine)) machine
          (result_of types its.size prototype.result (filled (argument its.fills values) size machine)))
      by_size size =
          then_gives (MakesHandle types (pointed types prototype.result)) (first_stop (fill_stops (argument its.fills values) size machine)) machine
          (result_of types its.size prototype.result (filled (argument its.fills values) size machine))
          (result_gives types its.size (number_kind types prototype.result) (pointed types prototype.result) (filled (argument its.fills values) size machine)
          (filled_has (argument its.fills values) size machine are))

  pub plain_gives : (types : TypeTable) (its : Routine) (prototype : Prototype) (values : List Value) (machine : Machine) → HasAll machine
      → OnDone (Gets (MakesHandle types (pointed types prototype.result))) (plain types its prototype values machine)
  plain_gives types its prototype values machine are =
      then_gives (MakesHandle types (pointed types prototype.result)) (first_stop (argument_stops its.fills values machine)) machine
      (after_line types its prototype values (with_line (line_of its.name types prototype.parameters values) machine))
      (line_gives types its prototype values (with_line (line_of its.name types prototype.parameters values) machine)
      (record { blocks = are.blocks; objects = are.objects }))
