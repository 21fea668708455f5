-- A block whose handle is nowhere gets nowhere by a role of a routine, unless the role makes the block (own).
--     LeavesCells n result      a role that gives the block no handle
--     changed_lacks             a role that changes one block
--     role_hands                every role, by its value and the machine after it
use Rattle.std.proofs.Common.{◌≡◌, ℕ, suc, ◌+◌, ◌-◌, ◌==◌, Bool, true, false, List, [], ◌∷◌, ◌++◌, length, take, replicate, Option, Some, None, Result, Ok, Err, refl, sym, ap, ◌∙◌, arith, if◌then◌else◌}
use Rattle.std.specs.List.{AllByRecursion}
use Rattle.hs_base.specs.Entries.{all_appended, last_there}
use Rattle.hs_heap.specs.Blocks.{last_life, Block, new_block, standing, by_standing, changed, with_lock, with_purge_bit, with_state, emptied, without_cells, disposed, ended, resized, renewed, reallocated, has_life}
use Rattle.hs_heap.specs.Memory.{block_at, put_block}
use Rattle.hs_heap.specs.declared.cell.Cell.TheVariants.{Undefined}
use Rattle.hs_heap.specs.declared.cell.Pointer.{Pointer}
use Rattle.hs_heap.specs.declared.cell.Pointer.TheVariants.{Nil, Fixed, Handle, Spot}
use Rattle.hs_heap.specs.declared.presence.Presence.TheVariants.{Emptied}
use Rattle.hs_heap.specs.declared.stop.HeapStop.{HeapStop}
use Rattle.hs_hiding.specs.Holding.{Cells, Gets, CellLacks, PointerLacks, Lacks, Lacking, IsMade}
use Rattle.hs_hiding.specs.Lists.{all_set, all_same, all_take}
use Rattle.hs_hiding.specs.Loading.{at_lacks}
use Rattle.hs_hiding.specs.Storing.{put_lacks, one_block}
use Rattle.hs_meaning.specs.Accesses.{cells_at}
use Rattle.hs_meaning.specs.Handles.{with_result, changed_in, changed_by, is_granted, asked, has_room_after, reshaped_in, reshaped_by, if_granted, any_life, makes_block, makes_object, handle_if, object_if, with_block, with_object_if, disposed_object, size_for}
use Rattle.hs_meaning.specs.Machine.{Machine, Object, with_blocks, ended_object}
use Rattle.hs_meaning.specs.Operations.{as_kind}
use Rattle.hs_meaning.specs.Roles.{state_in, role_value, role_machine}
use Rattle.hs_meaning.specs.Values.{Value, number, pointer, state, structure, pointer_in}
use Rattle.hs_table.specs.declared.role.Role.{Role}
use Rattle.hs_table.specs.declared.role.Role.TheVariants.{NewHandle, DisposeHandle, GetSize, SetSize, Lock, Unlock, Purge, NoPurge, GetState, SetState, Empty, Realloc, NewPtr, DisposePtr, BlockMove, Getchar, Putchar}
use Rattle.hs_types.specs.declared.integer.Integer.{Integer}

-- the block with the next number, once it is made
pub next_there : (blocks : List Block) (block : Block) → block_at (blocks ++ block ∷ []) (length blocks + 1) ≡ Some block
next_there blocks block = ap (block_at (blocks ++ block ∷ [])) (one_more (length blocks)) ∙ last_there blocks block
  where
    one_more : (a : ℕ) → a + 1 ≡ suc a
    one_more a = omega arith

module _ (n : ℕ) where
  -- ---- blocks that roles change

  -- the block that a role leaves has no handle in its cells
  abbrev pub LeavesCells : Result Block HeapStop → Type 0
  LeavesCells (Ok new) = Cells n new.cells
  LeavesCells (Err why) = Unit {0}

  pub standing_leaves : (here gone : Block) (stands : Result Bool HeapStop) → Cells n here.cells → Cells n gone.cells
      → LeavesCells (by_standing here gone stands)
  standing_leaves here gone (Ok true) first second = first
  standing_leaves here gone (Ok false) first second = second
  standing_leaves here gone (Err why) first second = tt

  pub changed_leaves : (change : Block → Block) (block : Block) → Cells n (change block).cells → Cells n block.cells → LeavesCells (changed change block)
  changed_leaves change block first second = standing_leaves (change block) block (standing block.presence) first second

  pub emptied_leaves : (block : Block) → Cells n block.cells → LeavesCells (emptied block)
  emptied_leaves block are = by_life (block.life == last_life)
    where
      by_lock : (z : Bool)
          → Cells n (if z then block else record block { cells = []; life = block.life + 1; presence = Emptied }).cells
      by_lock true = are
      by_lock false = tt

      by_life : (z : Bool) → LeavesCells (if z then changed (λ its. its) block else changed without_cells block)
      by_life true = changed_leaves (λ its. its) block are are
      by_life false = changed_leaves without_cells block (by_lock block.locked) are

  pub resized_leaves : (size : ℕ) (block : Block) → Cells n block.cells → LeavesCells (resized size block)
  resized_leaves size block are =
      changed_leaves (λ block. record block { cells = take size block.cells ++ replicate (size - length block.cells) Undefined }) block
      (all_appended (CellLacks n) (take size block.cells) (replicate (size - length block.cells) Undefined) (all_take (CellLacks n) size block.cells are)
      (all_same (CellLacks n) (size - length block.cells) Undefined tt)) are

  pub reallocated_leaves : (size : ℕ) (block : Block) → Cells n block.cells → LeavesCells (reallocated size block)
  reallocated_leaves size block are = by_lock block.locked
    where
      by_lock : (z : Bool)
          → LeavesCells (if z then changed (λ block. block) block else by_standing (renewed size block) (renewed size block) (standing block.presence))
      by_lock true = changed_leaves (λ b. b) block are are
      by_lock false =
          standing_leaves (renewed size block) (renewed size block) (standing block.presence) (all_same (CellLacks n) size Undefined tt)
          (all_same (CellLacks n) size Undefined tt)

  put_block_lacks : (machine : Machine) (k : ℕ) (new : Block) → Cells n new.cells → Lacking n machine
      → Lacking n (with_blocks (put_block machine.blocks k new) machine)
  put_block_lacks machine k new is are =
      record {
        globals = are.globals;
        locals = are.locals;
        blocks = all_set (λ b. AllByRecursion (CellLacks n) b.cells) machine.blocks (k - 1) new are.blocks is;
        objects = are.objects;
      }

  result_lacks : (k : ℕ) (result : Result Block HeapStop) (machine : Machine) → LeavesCells result → Lacking n machine
      → Lacking n (with_result k result machine)
  result_lacks k (Ok new) machine is are = put_block_lacks machine k new is are
  result_lacks k (Err why) machine is are = are

  pub changed_lacks : (role : Block → Result Block HeapStop) (its : Pointer) (machine : Machine)
      → ((block : Block) → Cells n block.cells → LeavesCells (role block))
      → Lacking n machine → Lacking n (changed_by role its machine)
  changed_lacks role Nil machine each are = are
  changed_lacks role (Fixed object at) machine each are = are
  changed_lacks role (Spot s) machine each are = are
  changed_lacks role (Handle k) machine each are = by_block (block_at machine.blocks k) refl
    where
      by_block : (found : Option Block) → block_at machine.blocks k ≡ found → Lacking n (changed_in role k found machine)
      by_block None there = are
      by_block (Some b) there = result_lacks k (role b) machine (each b (one_block n machine.blocks k b are.blocks there)) are

  reshaped_lacks : (lives : Block → Bool) (role : Block → Result Block HeapStop) (its : Pointer) (machine : Machine)
      → ((block : Block) → Cells n block.cells → LeavesCells (role block)) → Lacking n machine → Lacking n (reshaped_by lives role its machine)
  reshaped_lacks lives role Nil machine each are = are
  reshaped_lacks lives role (Fixed object at) machine each are = are
  reshaped_lacks lives role (Spot s) machine each are = are
  reshaped_lacks lives role (Handle k) machine each are = by_block (block_at machine.blocks k) refl
    where
      by_block : (found : Option Block) → block_at machine.blocks k ≡ found → Lacking n (reshaped_in lives role k found machine)
      by_block None there = are
      by_block (Some b) there =
          by_room (Rattle.std.specs.Prelude.◌&&◌ (lives b) (has_room_after k (role b) machine))
        where
          by_room : (z : Bool) → Lacking n (if z then with_result k (role b) machine else machine)
          by_room true = result_lacks k (role b) machine (each b (one_block n machine.blocks k b are.blocks there)) are
          by_room false = are

  pub asked_lacks : (machine : Machine) → Lacking n machine → Lacking n (asked machine)
  asked_lacks machine are = record { globals = are.globals; locals = are.locals; blocks = are.blocks; objects = are.objects }

  granted_lacks : (value : Value) (change : Machine → Machine) (machine : Machine) → ((before : Machine) → Lacking n before → Lacking n (change before))
      → Lacking n machine → Lacking n (if_granted value change machine)
  granted_lacks value change machine each are = by_test (is_granted value machine)
    where
      by_test : (z : Bool) → Lacking n (if z then change (asked machine) else asked machine)
      by_test true = each (asked machine) (asked_lacks machine are)
      by_test false = asked_lacks machine are

  -- ---- what is made

  pub block_added : (machine : Machine) (new : Block) → Cells n new.cells → Lacking n machine → Lacking n (with_blocks (machine.blocks ++ new ∷ []) machine)
  block_added machine new is are =
      record {
        globals = are.globals;
        locals = are.locals;
        blocks = all_appended (λ b. AllByRecursion (CellLacks n) b.cells) machine.blocks (new ∷ []) are.blocks (is, tt);
        objects = are.objects;
      }

  pub object_added : (machine : Machine) (new : Object) → Cells n new.cells → Lacking n machine
      → Lacking n (record machine { objects = machine.objects ++ new ∷ [] })
  object_added machine new is are =
      record {
        globals = are.globals;
        locals = are.locals;
        blocks = are.blocks;
        objects = all_appended (λ o. AllByRecursion (CellLacks n) o.cells) machine.objects (new ∷ []) are.objects (is, tt);
      }

  -- the block is made, so another one is asked for
  pub made_is : (blocks : List Block) (new : Block) (after : Machine) → after.blocks ≡ blocks ++ new ∷ [] → (n ≡ length blocks + 1 → IsMade after n → ⊥)
      → PointerLacks n (Handle (length blocks + 1))
  made_is blocks new after is never so =
      never (sym so)
      (record { block = new; there = ap (block_at after.blocks) (sym so) ∙ ap (λ bs. block_at bs (length blocks + 1)) is ∙ next_there blocks new })

  new_hands : (z : Bool) (size : ℕ) (machine : Machine) → Lacking n machine
      → Gets n machine (handle_if z machine) (with_block z size (asked machine))
  new_hands true size machine are = (
    (λ never. made_is machine.blocks (new_block size) (with_block true size (asked machine)) refl never),
    block_added (asked machine) (new_block size) (all_same (CellLacks n) size Undefined tt) (asked_lacks machine are),
  )
  new_hands false size machine are = ((λ never. tt), asked_lacks machine are)

  pub object_value : (z : Bool) (machine : Machine) → Lacks n (object_if z machine)
  object_value true machine = tt
  object_value false machine = tt

  ptr_lacks : (z : Bool) (size : ℕ) (machine : Machine) → Lacking n machine → Lacking n (with_object_if z size machine)
  ptr_lacks true size machine are =
      object_added machine (record { cells = replicate size Undefined; storage = Rattle.hs_meaning.specs.Machine.allocated })
      (all_same (CellLacks n) size Undefined tt) are
  ptr_lacks false size machine are = are

  disposed_lacks : (its : Pointer) (machine : Machine) → Lacking n machine → Lacking n (disposed_object its machine)
  disposed_lacks Nil machine are = are
  disposed_lacks (Handle k) machine are = are
  disposed_lacks (Spot s) machine are = are
  disposed_lacks (Fixed object at) machine are =
      record {
        globals = are.globals;
        locals = are.locals;
        blocks = are.blocks;
        objects = all_set (λ o. AllByRecursion (CellLacks n) o.cells) machine.objects object ended_object are.objects tt;
      }

  -- ---- roles

  pub kind_lacks : (kind : Option Integer) (v : Value) → Lacks n v → Lacks n (as_kind kind v)
  kind_lacks None (number bits) is = tt
  kind_lacks (Some kind) (number bits) is = tt
  kind_lacks kind (pointer its) is = is
  kind_lacks kind (state byte) is = tt
  kind_lacks kind (structure cells) is = is

  pub role_hands : (its : Role) (values : List Value) (machine : Machine) → Lacking n machine
      → Gets n machine (role_value its values machine) (role_machine its values machine)
  role_hands NewHandle (size ∷ []) machine are = new_hands (makes_block size machine) (size_for size) machine are
  role_hands DisposeHandle (its ∷ []) machine are =
      ((λ never. tt), changed_lacks disposed (pointer_in its) machine (λ b is. standing_leaves (ended b) (ended b) (standing b.presence) tt tt) are)
  role_hands GetSize (its ∷ []) machine are = ((λ never. tt), are)
  role_hands SetSize (its ∷ size ∷ []) machine are = (
    (λ never. tt),
    granted_lacks size (reshaped_by any_life (resized (size_for size)) (pointer_in its)) machine
        (λ before are'. reshaped_lacks any_life (resized (size_for size)) (pointer_in its) before (resized_leaves (size_for size)) are') are,
  )
  role_hands Lock (its ∷ []) machine are =
      ((λ never. tt), changed_lacks (with_lock true) (pointer_in its) machine (λ b is. changed_leaves (λ block. record block { locked = true }) b is is) are)
  role_hands Unlock (its ∷ []) machine are =
      ((λ never. tt), changed_lacks (with_lock false) (pointer_in its) machine (λ b is. changed_leaves (λ block. record block { locked = false }) b is is) are)
  role_hands Purge (its ∷ []) machine are = (
    (λ never. tt),
    changed_lacks (with_purge_bit true) (pointer_in its) machine
        (λ b is. changed_leaves (λ block. record block { purgeable = true }) b is is) are,
  )
  role_hands NoPurge (its ∷ []) machine are = (
    (λ never. tt),
    changed_lacks (with_purge_bit false) (pointer_in its) machine
        (λ b is. changed_leaves (λ block. record block { purgeable = false }) b is is) are,
  )
  role_hands GetState (its ∷ []) machine are = ((λ never. tt), are)
  role_hands SetState (its ∷ byte ∷ []) machine are =
      ((λ never. tt), changed_lacks (with_state (state_in byte)) (pointer_in its) machine (λ b is. standing_leaves _ b (standing b.presence) is is) are)
  role_hands Empty (its ∷ []) machine are = ((λ never. tt), changed_lacks emptied (pointer_in its) machine emptied_leaves are)
  role_hands Realloc (its ∷ size ∷ []) machine are = (
    (λ never. tt),
    granted_lacks size (reshaped_by has_life (reallocated (size_for size)) (pointer_in its)) machine
        (λ before are'. reshaped_lacks has_life (reallocated (size_for size)) (pointer_in its) before (reallocated_leaves (size_for size)) are') are,
  )
  role_hands NewPtr (size ∷ []) machine are = (
    (λ never. object_value (makes_object size machine) machine),
    ptr_lacks (makes_object size machine) (size_for size) (asked machine)
        (asked_lacks machine are),
  )
  role_hands DisposePtr (its ∷ []) machine are = ((λ never. tt), disposed_lacks (pointer_in its) machine are)
  role_hands BlockMove (from ∷ to ∷ count ∷ []) machine are = (
    (λ never. tt),
    put_lacks n (pointer_in to) (cells_at (pointer_in from) (size_for count) machine) machine
        (at_lacks n (pointer_in from) (size_for count) machine are) are,
  )
  role_hands Getchar [] machine are = ((λ never. tt), record { globals = are.globals; locals = are.locals; blocks = are.blocks; objects = are.objects })
  role_hands Putchar (byte ∷ []) machine are =
      ((λ never. tt), record { globals = are.globals; locals = are.locals; blocks = are.blocks; objects = are.objects })
  role_hands its values machine are = ((λ never. tt), are)
