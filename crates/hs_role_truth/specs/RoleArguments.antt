-- Which arguments a role has that does not stop (own).
--     One, Two        a handle on which the role acts, or NIL, and another argument
use Rattle.std.proofs.Common.{◌≡◌, true, false, List, [], ◌∷◌, None, refl, Result}
use Rattle.hs_heap.specs.Blocks.{Block, size_of, state_of, with_lock, with_purge_bit, with_state, emptied, disposed, resized, reallocated}
use Rattle.hs_heap.specs.declared.stop.HeapStop.{HeapStop}
use Rattle.hs_meaning.specs.Handles.{size_for}
use Rattle.hs_meaning.specs.Roles.{role_stops, handle_stops, state_in, state_stop}
use Rattle.hs_meaning.specs.Steps.{State}
use Rattle.hs_meaning.specs.Stops.{first_stop}
use Rattle.hs_meaning.specs.Values.{Value, number_stop}
use Rattle.hs_role_truth.specs.Arguments.{later_none}
use Rattle.hs_table.specs.declared.role.Role.TheVariants as role

module _ (s : State) where
  -- one argument, a handle on which the role acts or NIL
  abbrev pub One : {A : Type 0} → (Block → Result A HeapStop) → List Value → Type 0
  One act values = (a : Value) × (values ≡ a ∷ []) × (first_stop (handle_stops act a s.machine) ≡ None)

  -- two of them
  abbrev pub Two : (Value → Block → Result Block HeapStop) → List Value → Type 0
  Two act values = (a : Value) × (b : Value) × (values ≡ a ∷ b ∷ []) × (first_stop (handle_stops (act b) a s.machine) ≡ None)

  pub get_size_argument : (values : List Value) → first_stop (role_stops role.GetSize values s.machine) ≡ None → One size_of values
  get_size_argument (a ∷ []) none = (a, refl, none)
  get_size_argument [] none = absurd cc
  get_size_argument (a ∷ b ∷ values) none = absurd cc

  pub lock_argument : (values : List Value) → first_stop (role_stops role.Lock values s.machine) ≡ None → One (with_lock true) values
  lock_argument (a ∷ []) none = (a, refl, none)
  lock_argument [] none = absurd cc
  lock_argument (a ∷ b ∷ values) none = absurd cc

  pub unlock_argument : (values : List Value) → first_stop (role_stops role.Unlock values s.machine) ≡ None → One (with_lock false) values
  unlock_argument (a ∷ []) none = (a, refl, none)
  unlock_argument [] none = absurd cc
  unlock_argument (a ∷ b ∷ values) none = absurd cc

  pub purge_argument : (values : List Value) → first_stop (role_stops role.Purge values s.machine) ≡ None → One (with_purge_bit true) values
  purge_argument (a ∷ []) none = (a, refl, none)
  purge_argument [] none = absurd cc
  purge_argument (a ∷ b ∷ values) none = absurd cc

  pub no_purge_argument : (values : List Value) → first_stop (role_stops role.NoPurge values s.machine) ≡ None → One (with_purge_bit false) values
  no_purge_argument (a ∷ []) none = (a, refl, none)
  no_purge_argument [] none = absurd cc
  no_purge_argument (a ∷ b ∷ values) none = absurd cc

  pub get_state_argument : (values : List Value) → first_stop (role_stops role.GetState values s.machine) ≡ None → One state_of values
  get_state_argument (a ∷ []) none = (a, refl, none)
  get_state_argument [] none = absurd cc
  get_state_argument (a ∷ b ∷ values) none = absurd cc

  pub empty_argument : (values : List Value) → first_stop (role_stops role.Empty values s.machine) ≡ None → One emptied values
  empty_argument (a ∷ []) none = (a, refl, none)
  empty_argument [] none = absurd cc
  empty_argument (a ∷ b ∷ values) none = absurd cc

  pub dispose_handle_argument : (values : List Value) → first_stop (role_stops role.DisposeHandle values s.machine) ≡ None → One disposed values
  dispose_handle_argument (a ∷ []) none = (a, refl, none)
  dispose_handle_argument [] none = absurd cc
  dispose_handle_argument (a ∷ b ∷ values) none = absurd cc

  pub set_size_argument : (values : List Value) → first_stop (role_stops role.SetSize values s.machine) ≡ None → Two (λ b. resized (size_for b)) values
  set_size_argument (a ∷ b ∷ []) none = (a, b, refl, later_none (number_stop b) (handle_stops (resized (size_for b)) a s.machine) none)
  set_size_argument [] none = absurd cc
  set_size_argument (a ∷ []) none = absurd cc
  set_size_argument (a ∷ b ∷ c ∷ values) none = absurd cc

  pub set_state_argument : (values : List Value) → first_stop (role_stops role.SetState values s.machine) ≡ None → Two (λ b. with_state (state_in b)) values
  set_state_argument (a ∷ b ∷ []) none = (a, b, refl, later_none (state_stop b) (handle_stops (with_state (state_in b)) a s.machine) none)
  set_state_argument [] none = absurd cc
  set_state_argument (a ∷ []) none = absurd cc
  set_state_argument (a ∷ b ∷ c ∷ values) none = absurd cc

  pub realloc_argument : (values : List Value) → first_stop (role_stops role.Realloc values s.machine) ≡ None → Two (λ b. reallocated (size_for b)) values
  realloc_argument (a ∷ b ∷ []) none = (a, b, refl, later_none (number_stop b) (handle_stops (reallocated (size_for b)) a s.machine) none)
  realloc_argument [] none = absurd cc
  realloc_argument (a ∷ []) none = absurd cc
  realloc_argument (a ∷ b ∷ c ∷ values) none = absurd cc
