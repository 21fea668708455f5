-- The same of the roles of routines, with arguments of their kinds.
--     typed_role_stops     the stops that are left
--     role_typed           they are the stops
use Rattle.std.proofs.Common.{◌≡◌, true, false, not, List, [], ◌∷◌, ◌++◌, map, None, refl, ap, ◌∙◌}
use Rattle.hs_code.specs.Stacks.{Kind, kind_of, same_kind, if_same, without}
use Rattle.hs_code.specs.Stacks as kind
use Rattle.hs_heap.specs.Blocks.{disposed, size_of, resized, with_lock, with_purge_bit, state_of, with_state, reallocated, emptied}
use Rattle.hs_kinds.specs.Kinds.{AreOfKinds}
use Rattle.hs_kinds.specs.Operations.{by_one, by_two}
use Rattle.hs_kinds.specs.Routines.{shape_kind, by_none}
use Rattle.hs_meaning.specs.Accesses.{use_stops}
use Rattle.hs_meaning.specs.Handles.{handle_stop, dispose_stop, is_size, size_for}
use Rattle.hs_meaning.specs.Machine.{Machine}
use Rattle.hs_meaning.specs.Numbers.{signed}
use Rattle.hs_meaning.specs.Operations.{is_plain}
use Rattle.hs_meaning.specs.Plain.{byte_stop}
use Rattle.hs_meaning.specs.Roles.{role_stops, is_handle, state_in, state_stop}
use Rattle.hs_meaning.specs.Stops.{Stops, stops_if, first_stop}
use Rattle.hs_meaning.specs.Values.{Value, bits_in, pointer_in, number_stop, pointer_stop}
use Rattle.hs_meaning.specs.declared.outcome.Stop.TheVariants as stop
use Rattle.hs_table.specs.declared.role.Role.{Role}
use Rattle.hs_table.specs.declared.role.Role.TheVariants as role
use Rattle.hs_tree.specs.Roles.{Shape}
use Rattle.hs_tree.specs.Roles as shape
use Rattle.hs_kinds.specs.Progress.{number_typed, pointer_typed, with_test, after_test}

-- the stops of a role that has its arguments
abbrev pub typed_role_stops : Role → List Value → Machine → Stops
typed_role_stops role.NewHandle (size ∷ []) machine = byte_stop size ∷ []
typed_role_stops role.DisposeHandle (its ∷ []) machine = handle_stop disposed (pointer_in its) machine ∷ []
typed_role_stops role.GetSize (its ∷ []) machine = handle_stop size_of (pointer_in its) machine ∷ []
typed_role_stops role.SetSize (its ∷ size ∷ []) machine = byte_stop size ∷ handle_stop (resized (size_for size)) (pointer_in its) machine ∷ []
typed_role_stops role.Lock (its ∷ []) machine = handle_stop (with_lock true) (pointer_in its) machine ∷ []
typed_role_stops role.Unlock (its ∷ []) machine = handle_stop (with_lock false) (pointer_in its) machine ∷ []
typed_role_stops role.Purge (its ∷ []) machine = handle_stop (with_purge_bit true) (pointer_in its) machine ∷ []
typed_role_stops role.NoPurge (its ∷ []) machine = handle_stop (with_purge_bit false) (pointer_in its) machine ∷ []
typed_role_stops role.GetState (its ∷ []) machine = handle_stop state_of (pointer_in its) machine ∷ []
typed_role_stops role.SetState (its ∷ byte ∷ []) machine = state_stop byte ∷ handle_stop (with_state (state_in byte)) (pointer_in its) machine ∷ []
typed_role_stops role.Empty (its ∷ []) machine = handle_stop emptied (pointer_in its) machine ∷ []
typed_role_stops role.Realloc (its ∷ size ∷ []) machine = byte_stop size ∷ handle_stop (reallocated (size_for size)) (pointer_in its) machine ∷ []
typed_role_stops role.NewPtr (size ∷ []) machine = byte_stop size ∷ []
typed_role_stops role.DisposePtr (its ∷ []) machine = dispose_stop (pointer_in its) machine ∷ []
typed_role_stops role.BlockMove (from ∷ to ∷ count ∷ []) machine =
    byte_stop count
    ∷ stops_if (is_handle (pointer_in from)) stop.BadPointer
    ∷ stops_if (is_handle (pointer_in to)) stop.BadPointer
    ∷ stops_if (not (is_size (signed (bits_in count)))) stop.Range
    ∷ use_stops (pointer_in from) (size_for count) machine ++ use_stops (pointer_in to) (size_for count) machine
typed_role_stops role.Getchar [] machine = []
typed_role_stops role.Putchar (byte ∷ []) machine = byte_stop byte ∷ []
typed_role_stops its values machine = []

-- the arguments of a role
abbrev pub shapes_of : Role → List Shape
shapes_of role.NewHandle = shape.number ∷ []
shapes_of role.NewPtr = shape.number ∷ []
shapes_of role.Putchar = shape.number ∷ []
shapes_of role.SetSize = shape.pointer ∷ shape.number ∷ []
shapes_of role.SetState = shape.pointer ∷ shape.number ∷ []
shapes_of role.Realloc = shape.pointer ∷ shape.number ∷ []
shapes_of role.BlockMove = shape.pointer ∷ shape.pointer ∷ shape.number ∷ []
shapes_of role.Getchar = []
shapes_of role.Plain = []
shapes_of its = shape.pointer ∷ []

module _ (machine : Machine) where
  -- they are those
  abbrev TypedRole : Role → List Value → Type 0
  TypedRole its values = first_stop (role_stops its values machine) ≡ first_stop (typed_role_stops its values machine)

  -- each role
  pub role_typed : (its : Role) (values : List Value) → is_plain its ≡ false → AreOfKinds (map shape_kind (shapes_of its)) values → TypedRole its values
  role_typed role.NewHandle values plain are =
      by_one (TypedRole role.NewHandle) kind.number values are (λ a is. with_test (number_stop a) (byte_stop a) [] (number_typed a is))
  role_typed role.NewPtr values plain are =
      by_one (TypedRole role.NewPtr) kind.number values are (λ a is. with_test (number_stop a) (byte_stop a) [] (number_typed a is))
  role_typed role.Putchar values plain are =
      by_one (TypedRole role.Putchar) kind.number values are (λ a is. with_test (number_stop a) (byte_stop a) [] (number_typed a is))
  role_typed role.DisposeHandle values plain are =
      by_one (TypedRole role.DisposeHandle) kind.pointer values are
      (λ a is. with_test (pointer_stop a) None (handle_stop disposed (pointer_in a) machine ∷ []) (pointer_typed a is))
  role_typed role.GetSize values plain are =
      by_one (TypedRole role.GetSize) kind.pointer values are
      (λ a is. with_test (pointer_stop a) None (handle_stop size_of (pointer_in a) machine ∷ []) (pointer_typed a is))
  role_typed role.Lock values plain are =
      by_one (TypedRole role.Lock) kind.pointer values are
      (λ a is. with_test (pointer_stop a) None (handle_stop (with_lock true) (pointer_in a) machine ∷ []) (pointer_typed a is))
  role_typed role.Unlock values plain are =
      by_one (TypedRole role.Unlock) kind.pointer values are
      (λ a is. with_test (pointer_stop a) None (handle_stop (with_lock false) (pointer_in a) machine ∷ []) (pointer_typed a is))
  role_typed role.Purge values plain are =
      by_one (TypedRole role.Purge) kind.pointer values are
      (λ a is. with_test (pointer_stop a) None (handle_stop (with_purge_bit true) (pointer_in a) machine ∷ []) (pointer_typed a is))
  role_typed role.NoPurge values plain are =
      by_one (TypedRole role.NoPurge) kind.pointer values are
      (λ a is. with_test (pointer_stop a) None (handle_stop (with_purge_bit false) (pointer_in a) machine ∷ []) (pointer_typed a is))
  role_typed role.GetState values plain are =
      by_one (TypedRole role.GetState) kind.pointer values are
      (λ a is. with_test (pointer_stop a) None (handle_stop state_of (pointer_in a) machine ∷ []) (pointer_typed a is))
  role_typed role.Empty values plain are =
      by_one (TypedRole role.Empty) kind.pointer values are
      (λ a is. with_test (pointer_stop a) None (handle_stop emptied (pointer_in a) machine ∷ []) (pointer_typed a is))
  role_typed role.DisposePtr values plain are =
      by_one (TypedRole role.DisposePtr) kind.pointer values are
      (λ a is. with_test (pointer_stop a) None (dispose_stop (pointer_in a) machine ∷ []) (pointer_typed a is))
  role_typed role.SetState values plain are =
      by_two (TypedRole role.SetState) kind.pointer kind.number values are
      (λ a b is too. ap (λ x. first_stop (state_stop b ∷ x ∷ handle_stop (with_state (state_in b)) (pointer_in a) machine ∷ [])) (pointer_typed a is)
      ∙ after_test (state_stop b) (None ∷ handle_stop (with_state (state_in b)) (pointer_in a) machine ∷ [])
      (handle_stop (with_state (state_in b)) (pointer_in a) machine ∷ []) refl)
  role_typed role.SetSize values plain are =
      by_two (TypedRole role.SetSize) kind.pointer kind.number values are
      (λ a b is too. ap (λ x. first_stop (x ∷ pointer_stop a ∷ handle_stop (resized (size_for b)) (pointer_in a) machine ∷ [])) (number_typed b too)
      ∙ ap (λ y. first_stop (byte_stop b ∷ y ∷ handle_stop (resized (size_for b)) (pointer_in a) machine ∷ [])) (pointer_typed a is)
      ∙ after_test (byte_stop b) (None ∷ handle_stop (resized (size_for b)) (pointer_in a) machine ∷ [])
      (handle_stop (resized (size_for b)) (pointer_in a) machine ∷ []) refl)
  role_typed role.Realloc values plain are =
      by_two (TypedRole role.Realloc) kind.pointer kind.number values are
      (λ a b is too. ap (λ x. first_stop (x ∷ pointer_stop a ∷ handle_stop (reallocated (size_for b)) (pointer_in a) machine ∷ [])) (number_typed b too)
      ∙ ap (λ y. first_stop (byte_stop b ∷ y ∷ handle_stop (reallocated (size_for b)) (pointer_in a) machine ∷ [])) (pointer_typed a is)
      ∙ after_test (byte_stop b) (None ∷ handle_stop (reallocated (size_for b)) (pointer_in a) machine ∷ [])
      (handle_stop (reallocated (size_for b)) (pointer_in a) machine ∷ []) refl)
  role_typed role.BlockMove values plain are = three values are
    where
      three : (values : List Value) → AreOfKinds (kind.pointer ∷ kind.pointer ∷ kind.number ∷ []) values → TypedRole role.BlockMove values
      three [] are' = absurd are'
      three (a ∷ []) are' = absurd are'.1
      three (a ∷ b ∷ []) are' = absurd are'.1.1
      three (a ∷ b ∷ c ∷ []) are' = with_test (number_stop c) (byte_stop c) _ (number_typed c are'.1.1.0)
      three (a ∷ b ∷ c ∷ d ∷ rest) are' = absurd are'.1.1.1
  role_typed role.Getchar values plain are = by_none (TypedRole role.Getchar) values are refl
  role_typed role.Plain values plain are = absurd cc
