-- No operation of the machine disposes of a block whose handle is in none of its operands (own).
--     other_block        a change of one block leaves the others
--     operate_alive      the law
use Rattle.std.proofs.Common.{slice_set, true≢false, ◌≡◌, ◌⊎◌, inl, inr, ℕ, zero, suc, ◌-◌, true, false, List, [], ◌∷◌, slice_get, Option, Some, None, Result, Ok, Err, refl, sym, ap, ◌∙◌, subst, arith}
use Rattle.std.proofs.lemmas.Option.{none-some}
use Rattle.std.specs.List.{AllByRecursion}
use Rattle.hs_base.specs.Entries.{set_other}
use Rattle.hs_calls.specs.Changing.{since}
use Rattle.hs_heap.specs.Blocks.{Block, disposed}
use Rattle.hs_heap.specs.Memory.{block_at, put_block}
use Rattle.hs_heap.specs.declared.cell.Pointer.{Pointer}
use Rattle.hs_heap.specs.declared.cell.Pointer.TheVariants.{Nil, Fixed, Handle, Spot}
use Rattle.hs_heap.specs.declared.stop.HeapStop.{HeapStop}
use Rattle.hs_hiding.specs.Blocks.{alive_since}
use Rattle.hs_hiding.specs.Holding.{IsAlive, OnDone, PointerLacks, Lacks}
use Rattle.hs_hiding.specs.Lists.{unless_so}
use Rattle.hs_meaning.specs.Handles.{with_result, changed_in, changed_by}
use Rattle.hs_meaning.specs.Laws.Changes.{Keeps}
use Rattle.hs_meaning.specs.Laws.Changes.Operations.{SpeaksOf, SpeaksOfRoutine, operate_keeps}
use Rattle.hs_meaning.specs.Machine.{Machine, Done, done, stopped}
use Rattle.hs_meaning.specs.Operations.{called_as, Operation, routine, as_kind, called, operate}
use Rattle.hs_meaning.specs.Roles.{role_stops, role_value, role_machine}
use Rattle.hs_meaning.specs.Settings.{Setting}
use Rattle.hs_meaning.specs.Values.{Value, number, pointer, state, structure, pointer_in}
use Rattle.hs_sound_heap.specs.Roles.{effects_of}
use Rattle.hs_sound_heap.specs.Since.{May, IsWithin}
use Rattle.hs_table.specs.declared.role.Role.{Role}
use Rattle.hs_table.specs.declared.role.Role.TheVariants as role
use Rattle.hs_table.specs.declared.role.Role.TheVariants.{DisposeHandle}
use Rattle.hs_tree.specs.Kinds.{number_kind}
use Rattle.hs_tree.specs.declared.function.BoundRoutine.{BoundRoutine}
use Rattle.hs_tree.specs.declared.function.Prototype.{Prototype}

one_less : (a : ℕ) → suc a - 1 ≡ a
one_less a = omega arith

module _ (n : ℕ) where
  pub other_block : (blocks : List Block) (k : ℕ) (old new : Block) → block_at blocks k ≡ Some old → (k ≡ n → ⊥)
      → block_at (put_block blocks k new) n ≡ block_at blocks n
  other_block blocks k old new there other = by_number n k there other
    where
      by_number : (m k : ℕ) → block_at blocks k ≡ Some old → (k ≡ m → ⊥) → block_at (put_block blocks k new) m ≡ block_at blocks m
      by_number zero k there other = refl
      by_number (suc m) zero there other = absurd (none-some old there)
      by_number (suc m) (suc k) there other =
          ap (λ i. slice_get (slice_set blocks i new) m) (one_less k) ∙ set_other blocks k new m (λ so. other (ap suc (sym so)))

  disposed_alive : (its : Pointer) (machine : Machine) → PointerLacks n its → IsAlive machine n → IsAlive (changed_by disposed its machine) n
  disposed_alive Nil machine lacks a = a
  disposed_alive (Fixed object at) machine lacks a = a
  disposed_alive (Spot s) machine lacks a = a
  disposed_alive (Handle k) machine lacks a = by_block (block_at machine.blocks k) refl
    where
      by_result : (b : Block) → block_at machine.blocks k ≡ Some b → (r : Result Block HeapStop) → IsAlive (with_result k r machine) n
      by_result b there (Ok new) = record { block = a.block; there = other_block machine.blocks k b new there lacks ∙ a.there; alive = a.alive }
      by_result b there (Err why) = a

      by_block : (found : Option Block) → block_at machine.blocks k ≡ found → IsAlive (changed_in disposed k found machine) n
      by_block None there = a
      by_block (Some b) there = by_result b there (disposed b)

  -- ---- all operations

  -- all effects but that one
  abbrev others : May
  others = record { moves = true; purges = true; unlocks = true; marks = true; disposes = false }

  within : (its : May) → its.disposes ≡ false → IsWithin its others
  within its is =
      record {
        moves = λ so. refl;
        purges = λ so. refl;
        unlocks = λ so. refl;
        marks = λ so. refl;
        disposes = λ so. absurd (true≢false (sym so ∙ is));
      }

  -- the block is still not disposed of after it
  abbrev StaysAlive : Done Value → Type 0
  StaysAlive its = OnDone (λ it after. IsAlive after n) its

  by_since : (machine : Machine) (its : Done Value) → Keeps (since others) machine its → IsAlive machine n → StaysAlive its
  by_since machine (done it after) is a = alive_since others machine after n is refl a
  by_since machine (stopped why after) is a = tt

  -- a role that disposes
  pointer_lacks : (v : Value) → Lacks n v → PointerLacks n (pointer_in v)
  pointer_lacks (number bits) is = tt
  pointer_lacks (pointer its) is = is
  pointer_lacks (state byte) is = tt
  pointer_lacks (structure cells) is = tt

  dispose_alive : (values : List Value) (machine : Machine) → AllByRecursion (Lacks n) values → IsAlive machine n
      → IsAlive (role_machine DisposeHandle values machine) n
  dispose_alive [] machine lack a = a
  dispose_alive (v ∷ []) machine lack a = disposed_alive (pointer_in v) machine (pointer_lacks v lack.0) a
  dispose_alive (v ∷ u ∷ values) machine lack a = a

  quiet : (its : Role) → ((effects_of its).disposes ≡ false) ⊎ (its ≡ DisposeHandle)
  quiet DisposeHandle = inr refl
  quiet role.GetSize = inl refl
  quiet role.NewHandle = inl refl
  quiet role.SetSize = inl refl
  quiet role.Lock = inl refl
  quiet role.Unlock = inl refl
  quiet role.Purge = inl refl
  quiet role.NoPurge = inl refl
  quiet role.GetState = inl refl
  quiet role.SetState = inl refl
  quiet role.Empty = inl refl
  quiet role.Realloc = inl refl
  quiet role.NewPtr = inl refl
  quiet role.DisposePtr = inl refl
  quiet role.BlockMove = inl refl
  quiet role.Getchar = inl refl
  quiet role.Putchar = inl refl
  quiet role.Plain = inl refl

  routine_alive : (setting : Setting) (place : ℕ) (it : Option BoundRoutine) (values : List Value) (machine : Machine)
      → slice_get setting.routines place ≡ it → AllByRecursion (Lacks n) values → IsAlive machine n → StaysAlive (called setting.types it values machine)
  routine_alive setting place None values machine is lack a = tt
  routine_alive setting place (Some it) values machine is lack a = by_quiet (quiet it.routine.role)
    where
      permits : (effects_of it.routine.role).disposes ≡ false → SpeaksOf (since others) setting (routine place)
      permits so = subst (SpeaksOfRoutine (since others)) (sym is) (within (effects_of it.routine.role) so)

      by_prototype : (prototype : Option Prototype) → StaysAlive (called_as setting.types (record it.routine { role = DisposeHandle }) prototype values machine)
      by_prototype None = tt
      by_prototype (Some prototype) =
          unless_so (λ it after. IsAlive after n) (role_stops DisposeHandle values machine)
          (as_kind (number_kind setting.types prototype.result) (role_value DisposeHandle values machine)) (role_machine DisposeHandle values machine) machine
          (dispose_alive values machine lack a)

      by_quiet : ((effects_of it.routine.role).disposes ≡ false) ⊎ (it.routine.role ≡ DisposeHandle)
          → StaysAlive (called setting.types (Some it) values machine)
      by_quiet (inl so) =
          by_since machine (called setting.types (Some it) values machine)
          (subst (λ found. Keeps (since others) machine (called setting.types found values machine)) is
          (operate_keeps (since others) setting (routine place) values machine (permits so))) a
      by_quiet (inr so) =
          subst (λ r. StaysAlive (called_as setting.types (record it.routine { role = r }) it.prototype values machine)) (sym so)
          (by_prototype it.prototype)

  no_routine : (its : Operation) → ((place : ℕ) × (its ≡ routine place)) ⊎ ((setting : Setting) → SpeaksOf (since others) setting its)
  no_routine (routine place) = inl (place, refl)
  no_routine its = inr (λ setting. tt)

  -- a block whose handle is in none of the values stays
  pub operate_alive : (setting : Setting) (its : Operation) (values : List Value) (machine : Machine) → AllByRecursion (Lacks n) values → IsAlive machine n
      → StaysAlive (operate setting its values machine)
  operate_alive setting its values machine lack a = by_form (no_routine its)
    where
      by_form : ((place : ℕ) × (its ≡ routine place)) ⊎ ((setting : Setting) → SpeaksOf (since others) setting its)
          → StaysAlive (operate setting its values machine)
      by_form (inl it) =
          subst (λ o. StaysAlive (operate setting o values machine)) (sym it.1)
          (routine_alive setting it.0 (slice_get setting.routines it.0) values machine refl lack a)
      by_form (inr permits) =
          by_since machine (operate setting its values machine) (operate_keeps (since others) setting its values machine (permits setting)) a
