-- A declaration that fits the role of its routine fits it as the types grow.
--     fits_role_stays
--     forms_of its, are_of types forms list     the parameters of a role in the words of hs_tree; same_forms: the test asks for them
use Rattle.std.proofs.Common.{◌≡◌, ℕ, zero, suc, Bool, true, false, ◌&&◌, ◌||◌, List, [], ◌∷◌, Option, Some, None, refl, ap, sym, ◌∙◌, if◌then◌else◌}
use Rattle.std.specs.Prelude.{slice_get, is_some}
use Rattle.hs_expressions.specs.Roles.{answer_of, shapes_of, is_answer, is_end, next_of, first_and, are_shaped, points_to_complete, is_filled, fills, is_plain, fits_parameters, fits_row, fits_routine, fits_role}
use Rattle.hs_operands.specs.Laws.Stays.{is_number-stays, is_pointer-stays, is_scalar-stays, is_void-stays, pointed_size-stays}
use Rattle.hs_table.specs.declared.role.Role.{Role}
use Rattle.hs_table.specs.declared.role.Role.TheVariants as role
use Rattle.hs_table.specs.declared.routine.Routine.{Routine}
use Rattle.hs_tree.specs.Kinds.{is_number, is_pointer, is_scalar, is_void, pointed, size_at}
use Rattle.hs_tree.specs.Roles as form
use Rattle.hs_tree.specs.Roles.{Shape}
use Rattle.hs_types.specs.TypeTables.{TypeTable, row_of, Grows}
use Rattle.hs_types.specs.declared.row.ListId.{ListId}
use Rattle.hs_types.specs.declared.row.Parameters.{Parameters}
use Rattle.hs_types.specs.declared.row.Parameters.TheVariants.{Empty, More}
use Rattle.hs_types.specs.declared.row.Row.{Row}
use Rattle.hs_types.specs.declared.row.Row.TheVariants as row
use Rattle.hs_types.specs.declared.row.TypeId.{TypeId}

-- what the parameters of a role are, in the words of hs_tree
abbrev pub forms_of : Role → List Shape
forms_of role.NewHandle = form.number ∷ []
forms_of role.DisposeHandle = form.pointer ∷ []
forms_of role.GetSize = form.pointer ∷ []
forms_of role.SetSize = form.pointer ∷ form.number ∷ []
forms_of role.Lock = form.pointer ∷ []
forms_of role.Unlock = form.pointer ∷ []
forms_of role.Purge = form.pointer ∷ []
forms_of role.NoPurge = form.pointer ∷ []
forms_of role.GetState = form.pointer ∷ []
forms_of role.SetState = form.pointer ∷ form.number ∷ []
forms_of role.Empty = form.pointer ∷ []
forms_of role.Realloc = form.pointer ∷ form.number ∷ []
forms_of role.NewPtr = form.number ∷ []
forms_of role.DisposePtr = form.pointer ∷ []
forms_of role.BlockMove = form.pointer ∷ form.pointer ∷ form.number ∷ []
forms_of role.Getchar = []
forms_of role.Putchar = form.number ∷ []
forms_of role.Plain = []

-- a type of that form
abbrev pub is_of : TypeTable → Shape → TypeId → Bool
is_of types form.pointer id = is_pointer types id
is_of types form.number id = is_number types id

-- as many parameters, each of its form
abbrev pub are_of : TypeTable → List Shape → ListId → Bool
are_of types [] list = is_end (slice_get types.lists list.number)
are_of types (its ∷ forms) list = first_and (is_of types its) (are_of types forms) (next_of (slice_get types.lists list.number))

-- which is what the test asks for
pub same_forms : (types : TypeTable) (its : Role) (list : ListId) → are_shaped types (shapes_of its) list ≡ are_of types (forms_of its) list
same_forms types role.NewHandle list = refl
same_forms types role.DisposeHandle list = refl
same_forms types role.GetSize list = refl
same_forms types role.SetSize list = refl
same_forms types role.Lock list = refl
same_forms types role.Unlock list = refl
same_forms types role.Purge list = refl
same_forms types role.NoPurge list = refl
same_forms types role.GetState list = refl
same_forms types role.SetState list = refl
same_forms types role.Empty list = refl
same_forms types role.Realloc list = refl
same_forms types role.NewPtr list = refl
same_forms types role.DisposePtr list = refl
same_forms types role.BlockMove list = refl
same_forms types role.Getchar list = refl
same_forms types role.Putchar list = refl
same_forms types role.Plain list = refl

-- both of two tests
both_stay : (a b a' b' : Bool) → (a ≡ true → a' ≡ true) → (b ≡ true → b' ≡ true) → (a && b) ≡ true → (a' && b') ≡ true
both_stay true true a' b' first second met = rw (first refl) (second refl)
both_stay true false a' b' first second met = absurd cc
both_stay false b a' b' first second met = absurd cc

-- one of two tests
one_stays : (a b a' b' : Bool) → (a ≡ true → a' ≡ true) → (b ≡ true → b' ≡ true) → (a || b) ≡ true → (a' || b') ≡ true
one_stays true b a' b' first second met = rw (first refl) refl
one_stays false true true b' first second met = refl
one_stays false true false b' first second met = second refl
one_stays false false a' b' first second met = absurd cc

-- one of two by a third
chosen_stays : (b x y x' y' : Bool) → (x ≡ true → x' ≡ true) → (y ≡ true → y' ≡ true) → (if b then x else y) ≡ true
    → (if b then x' else y') ≡ true
chosen_stays true x y x' y' first second met = first met
chosen_stays false x y x' y' first second met = second met

-- a size that is known
size_stays : (o o' : Option ℕ) → ((size : ℕ) → o ≡ Some size → o' ≡ Some size) → is_some o ≡ true → is_some o' ≡ true
size_stays None o' keeps met = absurd cc
size_stays (Some size) o' keeps met = ap is_some (keeps size refl)

-- the end of a list of parameters
end_stays : (o o' : Option Parameters) → ((it : Parameters) → o ≡ Some it → o' ≡ Some it) → is_end o ≡ true → is_end o' ≡ true
end_stays None o' keeps met = absurd cc
end_stays (Some Empty) o' keeps met = ap is_end (keeps Empty refl)
end_stays (Some (More first others)) o' keeps met = absurd cc

-- a test of the first one, and of the others
first_stays : (test test' : TypeId → Bool) (next next' : ListId → Bool) (o o' : Option Parameters)
    → ((it : Parameters) → o ≡ Some it → o' ≡ Some it) → ((id : TypeId) → test id ≡ true → test' id ≡ true)
    → ((list : ListId) → next list ≡ true → next' list ≡ true) → first_and test next (next_of o) ≡ true
    → first_and test' next' (next_of o') ≡ true
first_stays test test' next next' None o' keeps first second met = absurd cc
first_stays test test' next next' (Some Empty) o' keeps first second met = absurd cc
first_stays test test' next next' (Some (More id others)) o' keeps first second met =
    ap (λ its. first_and test' next' (next_of its)) (keeps (More id others) refl)
    ∙ both_stay (test id) (next others) (test' id) (next' others) (first id) (second others) met

module _ (old new : TypeTable) (grows : Grows old new) where
  -- a type of that form
  of_stays : (its : Shape) (id : TypeId) → is_of old its id ≡ true → is_of new its id ≡ true
  of_stays form.pointer id met = is_pointer-stays old new grows id met
  of_stays form.number id met = is_number-stays old new grows id met

  -- no result, or one
  nothing_stays : (id : TypeId) → (is_void old id || is_number old id) ≡ true → (is_void new id || is_number new id) ≡ true
  nothing_stays id met =
      one_stays (is_void old id) (is_number old id) (is_void new id) (is_number new id) (is_void-stays old new grows id)
      (is_number-stays old new grows id) met

  -- no result, or a number or a pointer
  scalar_stays : (id : TypeId) → (is_void old id || is_scalar old id) ≡ true → (is_void new id || is_scalar new id) ≡ true
  scalar_stays id met =
      one_stays (is_void old id) (is_scalar old id) (is_void new id) (is_scalar new id) (is_void-stays old new grows id)
      (is_scalar-stays old new grows id) met

  -- by the role
  answer_stays : (its : Role) (id : TypeId) → is_answer old (answer_of its) id ≡ true → is_answer new (answer_of its) id ≡ true
  answer_stays role.NewHandle id met = is_pointer-stays old new grows id met
  answer_stays role.DisposeHandle id met = nothing_stays id met
  answer_stays role.GetSize id met = is_number-stays old new grows id met
  answer_stays role.SetSize id met = nothing_stays id met
  answer_stays role.Lock id met = nothing_stays id met
  answer_stays role.Unlock id met = nothing_stays id met
  answer_stays role.Purge id met = nothing_stays id met
  answer_stays role.NoPurge id met = nothing_stays id met
  answer_stays role.GetState id met = is_number-stays old new grows id met
  answer_stays role.SetState id met = nothing_stays id met
  answer_stays role.Empty id met = nothing_stays id met
  answer_stays role.Realloc id met = nothing_stays id met
  answer_stays role.NewPtr id met = is_pointer-stays old new grows id met
  answer_stays role.DisposePtr id met = nothing_stays id met
  answer_stays role.BlockMove id met = nothing_stays id met
  answer_stays role.Getchar id met = is_number-stays old new grows id met
  answer_stays role.Putchar id met = is_number-stays old new grows id met
  answer_stays role.Plain id met = scalar_stays id met

  -- a pointer to a complete type
  complete_stays : (id : TypeId) → points_to_complete old id ≡ true → points_to_complete new id ≡ true
  complete_stays id met = size_stays (size_at old (pointed old id)) (size_at new (pointed new id)) (pointed_size-stays old new grows id) met

  -- parameters of these forms
  forms_stay : (forms : List Shape) (list : ListId) → are_of old forms list ≡ true → are_of new forms list ≡ true
  forms_stay [] list met = end_stays (slice_get old.lists list.number) (slice_get new.lists list.number) (grows.lists list.number) met
  forms_stay (its ∷ forms) list met =
      first_stays (is_of old its) (is_of new its) (are_of old forms) (are_of new forms) (slice_get old.lists list.number)
      (slice_get new.lists list.number) (grows.lists list.number) (of_stays its) (forms_stay forms) met

  -- which are those of a role
  shapes_stay : (its : Role) (list : ListId) → are_shaped old (shapes_of its) list ≡ true → are_shaped new (shapes_of its) list ≡ true
  shapes_stay its list met = same_forms new its list ∙ forms_stay (forms_of its) list (sym (same_forms old its list) ∙ met)

  -- and the parameter that a plain routine fills
  filled_stays : (place : ℕ) (list : ListId) → is_filled old place list ≡ true → is_filled new place list ≡ true
  filled_stays zero list met =
      first_stays (points_to_complete old) (points_to_complete new) (λ others. true) (λ others. true) (slice_get old.lists list.number)
      (slice_get new.lists list.number) (grows.lists list.number) complete_stays (λ others is. is) met
  filled_stays (suc place) list met =
      first_stays (λ id. true) (λ id. true) (is_filled old place) (is_filled new place) (slice_get old.lists list.number)
      (slice_get new.lists list.number) (grows.lists list.number) (λ id is. is) (filled_stays place) met

  -- counted from 1
  fills_stays : (place : ℕ) (list : ListId) → fills old place list ≡ true → fills new place list ≡ true
  fills_stays zero list met = refl
  fills_stays (suc place) list met = filled_stays place list met

  -- by the role
  parameters_stay : (routine : Routine) (list : ListId) → fits_parameters old routine list ≡ true → fits_parameters new routine list ≡ true
  parameters_stay routine list met =
      chosen_stays (is_plain routine.role) (fills old routine.fills list) (are_shaped old (shapes_of routine.role) list)
      (fills new routine.fills list) (are_shaped new (shapes_of routine.role) list) (fills_stays routine.fills list)
      (shapes_stay routine.role list) met

  -- the type of the routine
  row_stays : (routine : Routine) (o o' : Option Row) → ((it : Row) → o ≡ Some it → o' ≡ Some it) → fits_row old routine o ≡ true
      → fits_row new routine o' ≡ true
  row_stays routine None o' keeps met = absurd cc
  row_stays routine (Some row.Void) o' keeps met = absurd cc
  row_stays routine (Some (row.Integer kind)) o' keeps met = absurd cc
  row_stays routine (Some (row.Pointer of)) o' keeps met = absurd cc
  row_stays routine (Some (row.Enumeration number)) o' keeps met = absurd cc
  row_stays routine (Some (row.Struct number)) o' keeps met = absurd cc
  row_stays routine (Some (row.Array of size layout)) o' keeps met = absurd cc
  row_stays routine (Some (row.OpenArray of)) o' keeps met = absurd cc
  row_stays routine (Some (row.Function result list)) o' keeps met =
      ap (fits_row new routine) (keeps (row.Function result list) refl)
      ∙ both_stay (is_answer old (answer_of routine.role) result) (fits_parameters old routine list)
      (is_answer new (answer_of routine.role) result) (fits_parameters new routine list) (answer_stays routine.role result)
      (parameters_stay routine list) met

  -- a routine that is there
  routine_stays : (id : TypeId) (o : Option Routine) → fits_routine old id o ≡ true → fits_routine new id o ≡ true
  routine_stays id None met = absurd cc
  routine_stays id (Some routine) met = row_stays routine (row_of old id) (row_of new id) (grows.rows id.number) met

-- a declaration that fits its role
pub fits_role_stays : (old new : TypeTable) (table : List Routine) (number : ℕ) (id : TypeId) → fits_role old table number id ≡ true
    → Grows old new → fits_role new table number id ≡ true
fits_role_stays old new table number id met grows = routine_stays old new grows id (slice_get table number) met
