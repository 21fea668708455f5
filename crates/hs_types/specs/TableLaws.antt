-- A table that grows keeps its layouts, and stays right.
--     inserted_stays, inserted_either                      the entries of a list where one is put in, unless it is there
--     grows_row, grows_list, grows_struct, ..              a table with one thing more has grown
--     IsRight-with_row, IsRight-with_list, ..              and stays right
--     body_before, awaits_none                             whether a struct or an enumeration has its body
use Rattle.std.proofs.Common.{◌≡◌, ℕ, ◌⊎◌, inl, inr, true, List, [], ◌∷◌, Option, Some, None, refl, ap, sym, ◌∙◌, ◌++◌, Bool, false, if◌then◌else◌}
use Rattle.std.specs.Prelude.{slice_get}
use Rattle.hs_base.specs.Entries.{entry_stays, last_either, replaced_either, replaced_stays}
use Rattle.hs_types.specs.TypeTables.{TypeTable, body_in, constants_in, with_row, with_list, with_struct, with_enumeration, with_constants, with_body, awaits_body, FitsRow, IsBody, IsRight, Grows}
use Rattle.hs_types.specs.declared.body.Body.{Body}
use Rattle.hs_types.specs.declared.body.Enumerator.{Enumerator}
use Rattle.hs_types.specs.declared.row.Parameters.{Parameters}
use Rattle.hs_types.specs.declared.row.Row.{Row}
use Rattle.hs_types.specs.contracts.row.RowPartialEq.TheImpl as row_eq
use Rattle.hs_types.specs.contracts.row.ParametersPartialEq.TheImpl as parameters_eq
use Rattle.hs_types.specs.Growing.{fits_row_stays, is_body_stays}
use Rattle.indexmap.specs.IndexSet.{insert_key}
use Rattle.std.specs.List.{list_any}

-- ---- entries that are put in

module _ {A : Type 0} (eq : A → A → Bool) where
  kept_if : (b : Bool) (xs : List A) (y : A) (k : ℕ) (x : A) → slice_get xs k ≡ Some x → slice_get (if b then xs else xs ++ y ∷ []) k ≡ Some x
  kept_if true xs y k x found = found
  kept_if false xs y k x found = entry_stays xs (y ∷ []) k x found

  one_if : (b : Bool) (xs : List A) (y : A) (k : ℕ) (x : A) → slice_get (if b then xs else xs ++ y ∷ []) k ≡ Some x
      → (slice_get xs k ≡ Some x) ⊎ (y ≡ x)
  one_if true xs y k x found = inl found
  one_if false xs y k x found = last_either xs y k x found

  -- an entry stays if another one is put in, unless it is there
  pub inserted_stays : (xs : List A) (y : A) (k : ℕ) (x : A) → slice_get xs k ≡ Some x → slice_get (insert_key eq xs y) k ≡ Some x
  inserted_stays xs y k x found = kept_if (list_any (eq y) xs) xs y k x found

  -- and then an entry is an old one, or that one
  pub inserted_either : (xs : List A) (y : A) (k : ℕ) (x : A) → slice_get (insert_key eq xs y) k ≡ Some x → (slice_get xs k ≡ Some x) ⊎ (y ≡ x)
  inserted_either xs y k x found = one_if (list_any (eq y) xs) xs y k x found

-- ---- one thing more

-- with a type more
pub grows_row : (row : Row) (types : TypeTable) → Grows types (with_row row types)
grows_row row types =
    record {
      rows = λ place it at. inserted_stays (row_eq.ghosts).eq types.rows row place it at;
      lists = λ place list is. is;
      bodies = λ number body is. is;
      constants = λ number its is. is;
    }

fits-either : (types : TypeTable) (row it : Row) → FitsRow types row → (FitsRow types it) ⊎ (row ≡ it) → FitsRow types it
fits-either types row it fits (inl old) = old
fits-either types row it fits (inr new) = rw (← new) fits

either-fits : (types : TypeTable) (row it : Row) (place : ℕ) → IsRight types → (slice_get types.rows place ≡ Some it) ⊎ (row ≡ it)
    → (FitsRow types it) ⊎ (row ≡ it)
either-fits types row it place right (inl old) = inl (right.rows place it old)
either-fits types row it place right (inr new) = inr new

pub IsRight-with_row : (types : TypeTable) (row : Row) → FitsRow types row → IsRight types → IsRight (with_row row types)
IsRight-with_row types row fits right =
    record {
      basic = λ place it at. inserted_stays (row_eq.ghosts).eq types.rows row place it (right.basic place it at);
      rows = λ place it at. fits_row_stays types (with_row row types) it (grows_row row types)
          (fits-either types row it fits
          (either-fits types row it place right (inserted_either (row_eq.ghosts).eq types.rows row place it at)));
      bodies = λ number body at. is_body_stays types (with_row row types) body (grows_row row types) (right.bodies number body at);
    }

-- with a list of parameter types more
pub grows_list : (list : Parameters) (types : TypeTable) → Grows types (with_list list types)
grows_list list types =
    record {
      rows = λ place it at. at;
      lists = λ place it at. inserted_stays (parameters_eq.ghosts).eq types.lists list place it at;
      bodies = λ number body is. is;
      constants = λ number its is. is;
    }

-- a table with the same rows and structs that grew
pub IsRight-same : (old new : TypeTable) → Grows old new → new.rows ≡ old.rows → new.structs ≡ old.structs → IsRight old → IsRight new
IsRight-same old new grows rows structs right =
    record {
      basic = λ place it at. grows.rows place it (right.basic place it at);
      rows = λ place it at. fits_row_stays old new it grows (right.rows place it (sym (ap (λ its. slice_get its place) rows) ∙ at));
      bodies = λ number body at. is_body_stays old new body grows (right.bodies number body (sym (ap (λ its. slice_get its number) structs) ∙ at));
    }

pub IsRight-with_list : (types : TypeTable) (list : Parameters) → IsRight types → IsRight (with_list list types)
IsRight-with_list types list right = IsRight-same types (with_list list types) (grows_list list types) refl refl right

-- with a struct more, whose body comes later
pub body_before : (its : Option (Option Body)) (body : Body) → body_in its ≡ Some body → its ≡ Some (Some body)
body_before None body is = absurd cc
body_before (Some it) body is = ap Some is

constants_before : (its : Option (Option (List Enumerator))) (constants : List Enumerator) → constants_in its ≡ Some constants → its ≡ Some (Some constants)
constants_before None constants is = absurd cc
constants_before (Some it) constants is = ap Some is

pub grows_struct : (types : TypeTable) → Grows types (with_struct types)
grows_struct types =
    record {
      rows = λ place row is. is;
      lists = λ place list is. is;
      bodies = λ number body is. ap body_in
          (entry_stays types.structs (None ∷ []) number (Some body) (body_before (slice_get types.structs number) body is));
      constants = λ number its is. is;
    }

body-either : {body : Body} → (None ≡ Some body) → ⊥
body-either is = cc

old-body : (types : TypeTable) (number : ℕ) (body : Body) → (slice_get types.structs number ≡ Some (Some body)) ⊎ (None ≡ Some body)
    → slice_get types.structs number ≡ Some (Some body)
old-body types number body (inl at) = at
old-body types number body (inr is) = absurd (body-either is)

pub IsRight-with_struct : (types : TypeTable) → IsRight types → IsRight (with_struct types)
IsRight-with_struct types right =
    record {
      basic = right.basic;
      rows = λ place row at. fits_row_stays types (with_struct types) row (grows_struct types) (right.rows place row at);
      bodies = λ number body at. is_body_stays types (with_struct types) body (grows_struct types)
          (right.bodies number body (old-body types number body (last_either types.structs None number (Some body) at)));
    }

-- with an enumeration more
pub grows_enumeration : (types : TypeTable) → Grows types (with_enumeration types)
grows_enumeration types =
    record {
      rows = λ place row is. is;
      lists = λ place list is. is;
      bodies = λ number body is. is;
      constants = λ number its is. ap constants_in
          (entry_stays types.enumerations (None ∷ []) number (Some its) (constants_before (slice_get types.enumerations number) its is));
    }

pub IsRight-with_enumeration : (types : TypeTable) → IsRight types → IsRight (with_enumeration types)
IsRight-with_enumeration types right = IsRight-same types (with_enumeration types) (grows_enumeration types) refl refl right

-- with the constants of an enumeration that had none
pub grows_constants : (types : TypeTable) (number : ℕ) (constants : List Enumerator) → slice_get types.enumerations number ≡ Some None
    → Grows types (with_constants number constants types)
grows_constants types number constants incomplete =
    record {
      rows = λ place row is. is;
      lists = λ place list is. is;
      bodies = λ other body is. is;
      constants = λ other its is. ap constants_in
          (replaced_stays types.enumerations number None (Some constants) other (Some its) incomplete (λ same. cc)
          (constants_before (slice_get types.enumerations other) its is));
    }

pub IsRight-with_constants : (types : TypeTable) (number : ℕ) (constants : List Enumerator) → slice_get types.enumerations number ≡ Some None
    → IsRight types → IsRight (with_constants number constants types)
IsRight-with_constants types number constants incomplete right =
    IsRight-same types (with_constants number constants types) (grows_constants types number constants incomplete) refl refl right

-- with the body of a struct that had none
pub grows_body : (types : TypeTable) (number : ℕ) (body : Body) → slice_get types.structs number ≡ Some None
    → Grows types (with_body number body types)
grows_body types number body incomplete =
    record {
      rows = λ place row is. is;
      lists = λ place list is. is;
      bodies = λ other its is. ap body_in
          (replaced_stays types.structs number None (Some body) other (Some its) incomplete (λ same. cc)
          (body_before (slice_get types.structs other) its is));
      constants = λ number its is. is;
    }

body-of-either : (types : TypeTable) (body it : Body) (number : ℕ) → IsRight types → IsBody types body
    → (slice_get types.structs number ≡ Some (Some it)) ⊎ (Some body ≡ Some it) → IsBody types it
body-of-either types body it number right is (inl at) = right.bodies number it at
body-of-either types body it number right is (inr new) = let same : body ≡ it = cc in rw (← same) is

pub IsRight-with_body : (types : TypeTable) (number : ℕ) (body : Body) → slice_get types.structs number ≡ Some None → IsBody types body
    → IsRight types → IsRight (with_body number body types)
IsRight-with_body types number body incomplete is right =
    record {
      basic = right.basic;
      rows = λ place row at. fits_row_stays types (with_body number body types) row (grows_body types number body incomplete)
          (right.rows place row at);
      bodies = λ other it at. is_body_stays types (with_body number body types) it (grows_body types number body incomplete)
          (body-of-either types body it other right is (replaced_either types.structs number (Some body) other (Some it) at));
    }

-- what waits for its body has none yet
pub awaits_none : {A : Type 0} → (its : Option (Option A)) → awaits_body its ≡ true → its ≡ Some None
awaits_none None awaits = absurd cc
awaits_none (Some None) awaits = refl
awaits_none (Some (Some it)) awaits = absurd cc
