-- Types of this unit: their structs are of this unit (own). `base` is how many structs there were before it.
--     OwnTop base types id           a type that is there, and no struct of an earlier unit
--     IsOwn base types id            nor is the result of a function, or a parameter
--     own_later                      so it is as the table grows
--     own_row, formed_own, parameter_own      what is made of such types
use Rattle.std.proofs.Common.{◌≡◌, ◌≤◌, ℕ, Bool, true, false, ◌||◌, List, [], ◌∷◌, Option, Some, None, Result, Ok, Err, ap, subst, ◌∙◌, if◌then◌else◌}
use Rattle.std.specs.List.{AllByRecursion}
use Rattle.std.specs.Prelude.{is_some}
use Rattle.hs_base.specs.Entries.{all_so}
use Rattle.hs_base.specs.Options.{one_there}
use Rattle.hs_expressions.specs.Binding.{IsList}
use Rattle.hs_expressions.specs.Laws.Grown.{Growing, formed_grows}
use Rattle.hs_fitting.specs.Listed.{list_stays}
use Rattle.hs_operands.specs.Laws.Added.{row_found}
use Rattle.hs_tokens.specs.declared.place.Place.{Place}
use Rattle.hs_typer.specs.Declarators.{is_function_row, is_array_row, added, untyped_end, derived_of, derived_from, formed, parameter_row, parameter_of, parameter_type}
use Rattle.hs_typer.specs.declared.declarators.Derivation.{Derivation}
use Rattle.hs_typer.specs.declared.declarators.Derivation.TheVariants as derivation
use Rattle.hs_typer.specs.declared.type_error.TypeError.{TypeError}
use Rattle.hs_typer.specs.declared.type_error.TypeError.TheVariants.{Untyped}
use Rattle.hs_types.specs.TypeTables.{TypeTable, Grows, row_of, layout_of, with_row, id_of, row_of_layout, row_of_element, with_result, arrayed}
use Rattle.hs_types.specs.Layouts.{array_layout}
use Rattle.hs_types.specs.declared.layout.Layout.{Layout}
use Rattle.hs_types.specs.declared.row.ListId.{ListId}
use Rattle.hs_types.specs.declared.row.Row.{Row}
use Rattle.hs_types.specs.declared.row.Row.TheVariants as row
use Rattle.hs_types.specs.declared.row.TypeId.{TypeId}
use Rattle.hs_types.specs.declared.types.TypeEnd.{TypeEnd}
use Rattle.hs_types.specs.TableLaws.{grows_row}

-- a struct of this unit, or no struct
abbrev pub IsOwnRow : ℕ → Row → Type 0
IsOwnRow base (row.Struct number) = base ≤ number
IsOwnRow base row.Void = Unit {0}
IsOwnRow base (row.Integer kind) = Unit {0}
IsOwnRow base (row.Pointer of) = Unit {0}
IsOwnRow base (row.Enumeration number) = Unit {0}
IsOwnRow base (row.Array of length layout) = Unit {0}
IsOwnRow base (row.OpenArray of) = Unit {0}
IsOwnRow base (row.Function result list) = Unit {0}

-- a type that is there
abbrev pub OwnTop : ℕ → TypeTable → TypeId → Type 0
OwnTop base types id = (its : Row) × (row_of types id ≡ Some its) × IsOwnRow base its

-- the parameters of a list
abbrev pub OwnList : ℕ → TypeTable → ListId → Type 0
OwnList base types list = (ids : List TypeId) × IsList types list ids × AllByRecursion (OwnTop base types) ids

-- and, of a function, its result and its parameters
pub record IsOwn (base : ℕ) (types : TypeTable) (id : TypeId) : Type 0 where
  pub top : OwnTop base types id
  pub signature : (result : TypeId) (list : ListId) → row_of types id ≡ Some (row.Function result list) → OwnTop base types result × OwnList base types list

-- ---- as the table grows

module _ (base : ℕ) (old new : TypeTable) (grows : Grows old new) where
  pub top_later : (id : TypeId) → OwnTop base old id → OwnTop base new id
  top_later id is = (is.0, grows.rows id.number is.0 is.1, is.2)

  -- so a list does
  pub list_later : (list : ListId) → OwnList base old list → OwnList base new list
  list_later list is = (
    is.0,
    list_stays old new grows list is.0 is.1,
    all_so (OwnTop base old) (OwnTop base new) top_later is.0 is.2,
  )

  -- and a type
  pub own_later : (id : TypeId) → IsOwn base old id → IsOwn base new id
  own_later id is =
      record {
        top = top_later id is.top;
        signature = λ result list at.
            let same : is.top.0 ≡ row.Function result list
            = one_there (row_of new id) is.top.0 (row.Function result list) (grows.rows id.number is.top.0 is.top.1) at in
            let before = is.signature result list (is.top.1 ∙ ap Some same) in
            (top_later result before.0, list_later list before.1);
      }

-- ---- one type

-- a type that is no struct and no function
abbrev pub IsPlainRow : Row → Type 0
IsPlainRow (row.Struct number) = ⊥
IsPlainRow row.Void = Unit {0}
IsPlainRow (row.Integer kind) = Unit {0}
IsPlainRow (row.Pointer of) = Unit {0}
IsPlainRow (row.Enumeration number) = Unit {0}
IsPlainRow (row.Array of length layout) = Unit {0}
IsPlainRow (row.OpenArray of) = Unit {0}
IsPlainRow (row.Function result list) = ⊥

-- a row of no struct
plain_own : (base : ℕ) (its : Row) → IsPlainRow its → IsOwnRow base its
plain_own base (row.Struct number) is = absurd is
plain_own base row.Void is = tt
plain_own base (row.Integer kind) is = tt
plain_own base (row.Pointer of) is = tt
plain_own base (row.Enumeration number) is = tt
plain_own base (row.Array of length layout) is = tt
plain_own base (row.OpenArray of) is = tt
plain_own base (row.Function result list) is = absurd is

module _ (base : ℕ) where
  -- it is of this unit
  pub plain_type : (types : TypeTable) (id : TypeId) (its : Row) → row_of types id ≡ Some its → IsPlainRow its → IsOwn base types id
  plain_type types id its at plain =
      record {
        top = (its, at, plain_own base its plain);
        signature = λ result list is. absurd (subst IsPlainRow (one_there (row_of types id) its (row.Function result list) at is) plain);
      }

  -- and so is a struct
  pub struct_type : (types : TypeTable) (id : TypeId) (number : ℕ) → base ≤ number → row_of types id ≡ Some (row.Struct number) → IsOwn base types id
  struct_type types id number own at =
      record {
        top = (row.Struct number, at, own);
        signature = λ result list is. absurd (no_function (one_there (row_of types id) (row.Struct number) (row.Function result list) at is));
      }
    where
      no_function : {n : ℕ} {a : TypeId} {l : ListId} → row.Struct n ≡ row.Function a l → ⊥
      no_function same = cc

  -- and a function of such types
  pub function_type : (types : TypeTable) (id gives : TypeId) (its : ListId) → row_of types id ≡ Some (row.Function gives its) → OwnTop base types gives
      → OwnList base types its → IsOwn base types id
  function_type types id gives its at top list =
      record {
        top = (row.Function gives its, at, tt);
        signature = λ result other is.
            let same : row.Function gives its ≡ row.Function result other
            = one_there (row_of types id) (row.Function gives its) (row.Function result other) at is in
            let results : gives ≡ result = cc in
            let lists : its ≡ other = cc in
            (subst (OwnTop base types) results top, subst (OwnList base types) lists list);
      }

  -- ---- what declarators derive

  -- an answer
  abbrev pub OwnGiven : {E : Type 0} → Result (TypeId × TypeTable) E → Type 0
  OwnGiven (Ok p) = IsOwn base p.1 p.0
  OwnGiven (Err why) = Unit {0}

  -- a row that is added
  pub added_own : (its : Row) (types : TypeTable) → IsPlainRow its → IsOwn base (with_row its types) (id_of its types)
  added_own its types plain = plain_type (with_row its types) (id_of its types) its (row_found its types) plain

  -- by a test
  either_own : {E : Type 0} → (b : Bool) (here there : Result (TypeId × TypeTable) E) → OwnGiven here → OwnGiven there
      → OwnGiven (if b then here else there)
  either_own true here there is is' = is
  either_own false here there is is' = is'

  -- by its layout
  laid_own : (of : TypeId) (length : ℕ) (o : Option Layout) (types : TypeTable) → OwnGiven (with_result types (row_of_layout of length o))
  laid_own of length None types = tt
  laid_own of length (Some layout) types = added_own (row.Array of length layout) types tt

  -- by the layout of its element
  arrayed_own : (of : TypeId) (length : ℕ) (o : Option Layout) (types : TypeTable) → OwnGiven (with_result types (row_of_element of length o))
  arrayed_own of length None types = tt
  arrayed_own of length (Some element) types = laid_own of length (array_layout length element) types

  -- unless the table is full
  ended_own : (at : Place) (given : Result (TypeId × TypeTable) TypeEnd) → OwnGiven given → OwnGiven (untyped_end at given)
  ended_own at (Ok p) is = is
  ended_own at (Err why) is = tt

  -- the list of a derivation
  abbrev pub OwnDerivation : TypeTable → Derivation → Type 0
  OwnDerivation types derivation.Pointer = Unit {0}
  OwnDerivation types (derivation.Array length) = Unit {0}
  OwnDerivation types derivation.OpenArray = Unit {0}
  OwnDerivation types (derivation.Function list) = OwnList base types list

  -- as the table grows
  pub derivation_later : (old new : TypeTable) → Grows old new → (its : Derivation) → OwnDerivation old its → OwnDerivation new its
  derivation_later old new grows derivation.Pointer is = tt
  derivation_later old new grows (derivation.Array length) is = tt
  derivation_later old new grows derivation.OpenArray is = tt
  derivation_later old new grows (derivation.Function list) is = list_later base old new grows list is

  -- one derivation
  derived_own : (at : Place) (its : Derivation) (of : TypeId) (types : TypeTable) → OwnDerivation types its → OwnTop base types of
      → OwnGiven (derived_of at its of types)
  derived_own at derivation.Pointer of types own top =
      either_own (is_function_row (row_of types of)) (Err (Untyped at)) (added (row.Pointer of) types) tt (added_own (row.Pointer of) types tt)
  derived_own at (derivation.Array length) of types own top =
      ended_own at (arrayed of length types) (arrayed_own of length (layout_of types of) types)
  derived_own at derivation.OpenArray of types own top =
      either_own (is_some (layout_of types of)) (added (row.OpenArray of) types) (Err (Untyped at)) (added_own (row.OpenArray of) types tt) tt
  derived_own at (derivation.Function list) of types own top =
      either_own (is_function_row (row_of types of) || is_array_row (row_of types of)) (Err (Untyped at)) (added (row.Function of list) types) tt
      (function_type (with_row its types) (id_of its types) of list (row_found its types)
      (top_later base types (with_row its types) (grows_row its types) of top)
      (list_later base types (with_row its types) (grows_row its types) list own))
    where
      its : Row
      its = row.Function of list

  -- of what could be made
  derived_from_own : (at : Place) (its : Derivation) (start : TypeTable) (given : Result (TypeId × TypeTable) TypeError) → Growing start given
      → OwnDerivation start its → OwnGiven given → OwnGiven (derived_from at its given)
  derived_from_own at its start (Ok p) grows own is =
      derived_own at its p.0 p.1 (derivation_later start p.1 grows.0 its own) is.top
  derived_from_own at its start (Err why) grows own is = tt

  -- all derivations, from a type on
  pub formed_own : (at : Place) (its : List Derivation) (id : TypeId) (types : TypeTable) → AllByRecursion (OwnDerivation types) its → IsOwn base types id
      → OwnGiven (formed at its id types)
  formed_own at [] id types own is = is
  formed_own at (its ∷ rest) id types own is =
      derived_from_own at its types (formed at rest id types) (formed_grows at rest id types) own.0 (formed_own at rest id types own.1 is)

  -- ---- a parameter

  -- by the row
  parameter_by : (at : Place) (id : TypeId) (o : Option Row) (types : TypeTable) → IsOwn base types id → OwnGiven (parameter_row at id o types)
  parameter_by at id None types is = tt
  parameter_by at id (Some row.Void) types is = tt
  parameter_by at id (Some (row.Integer kind)) types is = is
  parameter_by at id (Some (row.Pointer of)) types is = is
  parameter_by at id (Some (row.Enumeration number)) types is = is
  parameter_by at id (Some (row.Struct number)) types is = is
  parameter_by at id (Some (row.Array of length layout)) types is = added_own (row.Pointer of) types tt
  parameter_by at id (Some (row.OpenArray of)) types is = added_own (row.Pointer of) types tt
  parameter_by at id (Some (row.Function result list)) types is = tt

  -- by what the declarator makes
  parameter_given : (at : Place) (given : Result (TypeId × TypeTable) TypeError) → OwnGiven given → OwnGiven (parameter_of at given)
  parameter_given at (Ok p) is = parameter_by at p.0 (row_of p.1 p.0) p.1 is
  parameter_given at (Err why) is = tt

  -- the type of a parameter
  pub parameter_own : (at : Place) (its : List Derivation) (id : TypeId) (types : TypeTable) → AllByRecursion (OwnDerivation types) its
      → IsOwn base types id → OwnGiven (parameter_type at its id types)
  parameter_own at its id types own is = parameter_given at (formed at its id types) (formed_own at its id types own is)
