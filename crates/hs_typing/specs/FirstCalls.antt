-- The types with which routines are called first.
--     first_count, none_count         as many as there are routines
--     HasFirst, first_known           each call has a first one
--     IsCalled, AreCalled             a type with which a routine is called: one that was claimed, and that fits its role
--     first_called                    the first ones are such types
use Rattle.std.proofs.Common.{◌≡◌, ◌<◌, ◌⊎◌, inl, inr, ℕ, zero, suc, true, List, [], ◌∷◌, length, slice_get, Option, Some, None, refl, sym, ap, subst, ◌∙◌, arith}
use Rattle.std.specs.List.{AllByRecursion}
use Rattle.hs_base.specs.Entries.{set_either, set_there, set_length, replaced_stays}
use Rattle.hs_expressions.specs.Roles.{fits_role}
use Rattle.hs_fitting.specs.Claims.{Claims, IsOfClaim, IsCallClaimed}
use Rattle.hs_table.specs.declared.routine.Routine.{Routine}
use Rattle.hs_typer.specs.declared.typer.RoutineCall.{RoutineCall}
use Rattle.hs_types.specs.TypeTables.{TypeTable}
use Rattle.hs_types.specs.declared.row.TypeId.{TypeId}
use Rattle.hs_ends.specs.Ends.{no_types, with_call, first_types}

-- ---- the types of the first calls

-- one for each routine
pub none_count : (table : List Routine) → length (no_types table) ≡ length table
none_count [] = refl
none_count (it ∷ rest) = ap suc (none_count rest)

-- with one call more
call_count : (done : List (Option TypeId)) (it : RoutineCall) (found : Option (Option TypeId)) → length (with_call done it found) ≡ length done
call_count done it None = refl
call_count done it (Some None) = set_length done it.routine (Some it.type_id)
call_count done it (Some (Some id)) = refl

-- with all of them
pub first_count : (done : List (Option TypeId)) (its : List RoutineCall) → length (first_types done its) ≡ length done
first_count done [] = refl
first_count done (it ∷ rest) =
    first_count (with_call done it (slice_get done it.routine)) rest ∙ call_count done it (slice_get done it.routine)

-- a type that is there stays
call_stays : (done : List (Option TypeId)) (it : RoutineCall) (found : Option (Option TypeId)) (number : ℕ) (id : TypeId)
    → slice_get done it.routine ≡ found → slice_get done number ≡ Some (Some id) → slice_get (with_call done it found) number ≡ Some (Some id)
call_stays done it None number id at known = known
call_stays done it (Some None) number id at known =
    replaced_stays done it.routine None (Some it.type_id) number (Some id) at (λ same. cc) known
call_stays done it (Some (Some other)) number id at known = known

-- after all calls
first_stays : (done : List (Option TypeId)) (its : List RoutineCall) (number : ℕ) (id : TypeId) → slice_get done number ≡ Some (Some id)
    → slice_get (first_types done its) number ≡ Some (Some id)
first_stays done [] number id known = known
first_stays done (it ∷ rest) number id known =
    first_stays (with_call done it (slice_get done it.routine)) rest number id
    (call_stays done it (slice_get done it.routine) number id refl known)

-- the routine of a call has a first type
abbrev pub HasFirst : List (Option TypeId) → RoutineCall → Type 0
HasFirst ids it = (id : TypeId) × (slice_get ids it.routine ≡ Some (Some id))

-- an entry of a list of that length
entry_within : {A : Type 0} → (xs : List A) (place : ℕ) → place < length xs → slice_get xs place ≡ None → ⊥
entry_within [] place within is = omega (arith, within)
entry_within (x ∷ xs) zero within is = cc
entry_within (x ∷ xs) (suc place) within is = let less : place < length xs = omega (arith, within) in entry_within xs place less is

-- after that call
call_known : (done : List (Option TypeId)) (it : RoutineCall) (found : Option (Option TypeId)) → slice_get done it.routine ≡ found
    → it.routine < length done → HasFirst (with_call done it found) it
call_known done it None at within = absurd (entry_within done it.routine within at)
call_known done it (Some None) at within = (it.type_id, set_there done it.routine None (Some it.type_id) at)
call_known done it (Some (Some id)) at within = (id, at)

-- each call has one
pub first_known : (done : List (Option TypeId)) (its : List RoutineCall) → AllByRecursion (λ it. it.routine < length done) its
    → AllByRecursion (HasFirst (first_types done its)) its
first_known done [] within = tt
first_known done (it ∷ rest) within =
    let all : List (Option TypeId) = with_call done it (slice_get done it.routine) in
    let is : HasFirst all it = call_known done it (slice_get done it.routine) refl within.0 in (
      (is.0, first_stays all rest it.routine is.0 is.1),
      first_known all rest
          (subst (λ count. AllByRecursion (λ one. one.routine < count) rest) (sym (call_count done it (slice_get done it.routine))) within.1),
    )

module _ (types : TypeTable) (its : Claims) (table : List Routine) where
  -- a type with which a routine is called
  abbrev pub IsCalled : ℕ → TypeId → Type 0
  IsCalled number id = IsOfClaim types its number id × (fits_role types table number id ≡ true)

  -- all that are known
  abbrev pub AreCalled : List (Option TypeId) → Type 0
  AreCalled ids = (number : ℕ) (id : TypeId) → slice_get ids number ≡ Some (Some id) → IsCalled number id

  -- none is known
  pub none_called : (routines : List Routine) (number : ℕ) (id : TypeId) → slice_get (no_types routines) number ≡ Some (Some id) → ⊥
  none_called [] number id known = cc
  none_called (it ∷ rest) zero id known = cc
  none_called (it ∷ rest) (suc number) id known = none_called rest number id known

  -- that of a call
  new_called : (done : List (Option TypeId)) (it : RoutineCall) (number : ℕ) (id : TypeId) → AreCalled done → IsCallClaimed types its table it
      → (slice_get done number ≡ Some (Some id)) ⊎ ((number ≡ it.routine) × (Some it.type_id ≡ Some id)) → IsCalled number id
  new_called done it number id are is (inl there) = are number id there
  new_called done it number id are is (inr here) =
      let same : it.type_id ≡ id = cc in
      subst (IsCalled number) same (subst (λ place. IsCalled place it.type_id) (sym here.0) is)

  -- with one call more
  call_called : (done : List (Option TypeId)) (it : RoutineCall) (found : Option (Option TypeId)) → AreCalled done → IsCallClaimed types its table it
      → AreCalled (with_call done it found)
  call_called done it None are is = are
  call_called done it (Some None) are is = λ number id known.
      new_called done it number id are is (set_either done it.routine (Some it.type_id) number (Some id) known)
  call_called done it (Some (Some id)) are is = are

  -- with all of them
  pub first_called : (done : List (Option TypeId)) (calls : List RoutineCall) → AreCalled done → AllByRecursion (IsCallClaimed types its table) calls
      → AreCalled (first_types done calls)
  first_called done [] are claimed = are
  first_called done (it ∷ rest) are claimed =
      first_called (with_call done it (slice_get done it.routine)) rest (call_called done it (slice_get done it.routine) are claimed.0) claimed.1
