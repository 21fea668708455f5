-- What the test of a declaration says in the words of hs_tree.
--     role_fits       a declaration that fits its role has the parameters and the result of the role
use Rattle.std.proofs.Common.{◌≡◌, ℕ, zero, suc, Bool, true, List, [], ◌∷◌, Option, Some, None, IsTrue, ap, sym, ◌∙◌, if◌then◌else◌}
use Rattle.std.specs.Prelude.{slice_get}
use Rattle.hs_base.specs.Tests.{both_tests}
use Rattle.hs_expressions.specs.Binding.{IsList, IsSignature}
use Rattle.hs_expressions.specs.Roles as test
use Rattle.hs_expressions.specs.Roles.{answer_of, shapes_of, is_answer, is_end, next_of, first_and, are_shaped, is_filled, fills, is_plain, fits_parameters, fits_row, fits_routine, fits_role}
use Rattle.hs_fitting.specs.NotingRoles.{forms_of, is_of, are_of, same_forms}
use Rattle.hs_table.specs.declared.role.Role.{Role}
use Rattle.hs_table.specs.declared.role.Role.TheVariants as role
use Rattle.hs_table.specs.declared.routine.Routine.{Routine}
use Rattle.hs_tree.specs.Roles as form
use Rattle.hs_tree.specs.Roles.{Shape, IsShaped, AreShaped, Fills, FitsNamedRole, FitsRole, points_to_complete}
use Rattle.hs_types.specs.TypeTables.{TypeTable}
use Rattle.hs_types.specs.declared.row.ListId.{ListId}
use Rattle.hs_types.specs.declared.row.Parameters.{Parameters}
use Rattle.hs_types.specs.declared.row.Parameters.TheVariants.{Empty, More}
use Rattle.hs_types.specs.declared.row.Row.TheVariants as row
use Rattle.hs_types.specs.declared.row.TypeId.{TypeId}

-- what a test says of a list that has ended, and of one that has not
end_met : (o : Option Parameters) (id : TypeId) (others : ListId) → o ≡ Some (More id others) → is_end o ≡ true → ⊥
end_met None id others is met = cc
end_met (Some Empty) id others is met = cc
end_met (Some (More first rest)) id others is met = cc

-- a list that goes on
first_met : (check : TypeId → Bool) (next : ListId → Bool) (o : Option Parameters) (id : TypeId) (others : ListId) → o ≡ Some (More id others)
    → first_and check next (next_of o) ≡ true → (check id ≡ true) × (next others ≡ true)
first_met check next o id others is met =
    both_tests (check id) (next others) (sym (ap (λ its. first_and check next (next_of its)) is) ∙ met)

-- and the test of a first one that is not there
none_met : (check : TypeId → Bool) (next : ListId → Bool) (o : Option Parameters) → o ≡ Some Empty
    → first_and check next (next_of o) ≡ true → ⊥
none_met check next None is met = cc
none_met check next (Some Empty) is met = cc
none_met check next (Some (More first rest)) is met = cc

module _ (types : TypeTable) where
  -- one parameter
  form_met : (its : Shape) (id : TypeId) → is_of types its id ≡ true → IsShaped types its id
  form_met form.pointer id met = met
  form_met form.number id met = met

  -- all of them
  forms_met : (forms : List Shape) (list : ListId) (ids : List TypeId) → IsList types list ids → are_of types forms list ≡ true
      → AreShaped types forms ids
  forms_met [] list [] is met = tt
  forms_met [] list (id ∷ ids) is met = absurd (end_met (slice_get types.lists list.number) id is.0 is.1 met)
  forms_met (its ∷ forms) list [] is met =
      absurd (none_met (is_of types its) (are_of types forms) (slice_get types.lists list.number) is met)
  forms_met (its ∷ forms) list (id ∷ ids) is met =
      let both : (is_of types its id ≡ true) × (are_of types forms is.0 ≡ true)
      = first_met (is_of types its) (are_of types forms) (slice_get types.lists list.number) id is.0 is.1 met in
      (form_met its id both.0, forms_met forms is.0 ids is.2 both.1)

  -- the parameter that a plain routine fills
  filled_met : (place : ℕ) (list : ListId) (ids : List TypeId) → IsList types list ids → is_filled types place list ≡ true
      → IsTrue (points_to_complete types (slice_get ids place))
  filled_met zero list [] is met =
      absurd (none_met (test.points_to_complete types) (λ others. true) (slice_get types.lists list.number) is met)
  filled_met (suc place) list [] is met =
      absurd (none_met (λ id. true) (is_filled types place) (slice_get types.lists list.number) is met)
  filled_met zero list (id ∷ ids) is met =
      (first_met (test.points_to_complete types) (λ others. true) (slice_get types.lists list.number) id is.0 is.1 met).0
  filled_met (suc place) list (id ∷ ids) is met =
      filled_met place is.0 ids is.2
      (first_met (λ its. true) (is_filled types place) (slice_get types.lists list.number) id is.0 is.1 met).1

  -- counted from 1
  fills_met : (place : ℕ) (list : ListId) (ids : List TypeId) → IsList types list ids → fills types place list ≡ true → Fills types place ids
  fills_met zero list ids is met = tt
  fills_met (suc place) list ids is met = filled_met place list ids is met

  -- by the role
  shapes_met : (its : Role) (list : ListId) (ids : List TypeId) → IsList types list ids → are_shaped types (shapes_of its) list ≡ true
      → AreShaped types (forms_of its) ids
  shapes_met its list ids is met = forms_met (forms_of its) list ids is (sym (same_forms types its list) ∙ met)

  -- with the result
  named_met : (its : Role) (place : ℕ) (list : ListId) (parameters : List TypeId) (result : TypeId) → IsList types list parameters
      → is_answer types (answer_of its) result ≡ true
      → (if is_plain its then fills types place list else are_shaped types (shapes_of its) list) ≡ true
      → FitsNamedRole types its place (record { result = result; parameters = parameters })
  named_met role.NewHandle place list parameters result is gives met = (shapes_met role.NewHandle list parameters is met, gives)
  named_met role.DisposeHandle place list parameters result is gives met = (shapes_met role.DisposeHandle list parameters is met, gives)
  named_met role.GetSize place list parameters result is gives met = (shapes_met role.GetSize list parameters is met, gives)
  named_met role.SetSize place list parameters result is gives met = (shapes_met role.SetSize list parameters is met, gives)
  named_met role.Lock place list parameters result is gives met = (shapes_met role.Lock list parameters is met, gives)
  named_met role.Unlock place list parameters result is gives met = (shapes_met role.Unlock list parameters is met, gives)
  named_met role.Purge place list parameters result is gives met = (shapes_met role.Purge list parameters is met, gives)
  named_met role.NoPurge place list parameters result is gives met = (shapes_met role.NoPurge list parameters is met, gives)
  named_met role.GetState place list parameters result is gives met = (shapes_met role.GetState list parameters is met, gives)
  named_met role.SetState place list parameters result is gives met = (shapes_met role.SetState list parameters is met, gives)
  named_met role.Empty place list parameters result is gives met = (shapes_met role.Empty list parameters is met, gives)
  named_met role.Realloc place list parameters result is gives met = (shapes_met role.Realloc list parameters is met, gives)
  named_met role.NewPtr place list parameters result is gives met = (shapes_met role.NewPtr list parameters is met, gives)
  named_met role.DisposePtr place list parameters result is gives met = (shapes_met role.DisposePtr list parameters is met, gives)
  named_met role.BlockMove place list parameters result is gives met = (shapes_met role.BlockMove list parameters is met, gives)
  named_met role.Getchar place list parameters result is gives met = (shapes_met role.Getchar list parameters is met, gives)
  named_met role.Putchar place list parameters result is gives met = (shapes_met role.Putchar list parameters is met, gives)
  named_met role.Plain place list parameters result is gives met = (gives, fills_met place list parameters is met)

-- what a declaration that fits its role has
pub role_fits : (types : TypeTable) (table : List Routine) (number : ℕ) (routine : Routine) (id : TypeId) (parameters : List TypeId) (result : TypeId)
    → slice_get table number ≡ Some routine → IsSignature types id parameters result → fits_role types table number id ≡ true
    → FitsRole types routine (record { result = result; parameters = parameters })
role_fits types table number routine id parameters result there is met =
    let fits : fits_row types routine (Some (row.Function result is.0)) ≡ true
    = sym (ap (fits_row types routine) is.1) ∙ sym (ap (fits_routine types id) there) ∙ met in
    let both : (is_answer types (answer_of routine.role) result ≡ true) × (fits_parameters types routine is.0 ≡ true)
    = both_tests (is_answer types (answer_of routine.role) result) (fits_parameters types routine is.0) fits in
    named_met types routine.role routine.fills is.0 parameters result is.2 both.0 both.1
