-- The type of a function that is being defined is of this unit.
--     FormedGiven base id given       what a declarator makes of a type: the type itself, or a type of this unit that gives it
--     opened_own                      so the type is of this unit
use Rattle.std.proofs.Common.{◌≡◌, ◌⊎◌, inl, inr, ℕ, Bool, true, false, ◌||◌, List, [], ◌∷◌, Option, Some, None, Result, Ok, Err, refl, sym, subst, ◌∙◌, if◌then◌else◌}
use Rattle.std.specs.Prelude.{is_some}
use Rattle.hs_declarations.specs.Fronts.{item_type}
use Rattle.hs_expressions.specs.Expressions.{derivations}
use Rattle.hs_fitting.specs.Owned.{OwnTop, IsOwn, top_later, own_later}
use Rattle.hs_fitting.specs.Owning.{OwnAt}
use Rattle.hs_fitting.specs.Parameters.{OpenedAs}
use Rattle.hs_functions.specs.Opening.{opened, opened_type}
use Rattle.hs_operands.specs.Laws.Added.{row_found}
use Rattle.hs_syntax.specs.Trees as syntax
use Rattle.hs_syntax.specs.Trees.{Declared, Parameters}
use Rattle.hs_tokens.specs.declared.place.Place.{Place}
use Rattle.hs_typer.specs.Declarators.{is_function_row, is_array_row, added, untyped_end, derived_of, derived_from, formed, place_of}
use Rattle.hs_typer.specs.Steps.{then_with, ◌>>◌, give, on_types, with_types}
use Rattle.hs_typer.specs.declared.declarators.Derivation.{Derivation}
use Rattle.hs_typer.specs.declared.declarators.Derivation.TheVariants as derivation
use Rattle.hs_typer.specs.declared.type_error.TypeError.{TypeError}
use Rattle.hs_typer.specs.declared.type_error.TypeError.TheVariants.{Untyped}
use Rattle.hs_typer.specs.declared.typer.Typer.{Typer}
use Rattle.hs_types.specs.Growing.{grows_then}
use Rattle.hs_types.specs.Layouts.{array_layout}
use Rattle.hs_types.specs.TypeTables.{TypeTable, Grows, row_of, layout_of, with_row, id_of, row_of_layout, row_of_element, with_result, arrayed}
use Rattle.hs_types.specs.declared.layout.Layout.{Layout}
use Rattle.hs_types.specs.declared.row.ListId.{ListId}
use Rattle.hs_types.specs.declared.row.Row.{Row}
use Rattle.hs_types.specs.declared.row.Row.TheVariants as row
use Rattle.hs_types.specs.declared.row.TypeId.{TypeId}
use Rattle.hs_types.specs.declared.types.TypeEnd.{TypeEnd}
use Rattle.hs_types.specs.TableLaws.{grows_row}

-- one row is not another
no_function : (o : Option Row) (its : Row) (result : TypeId) (list : ListId) → o ≡ Some its → o ≡ Some (row.Function result list)
    → its ≡ row.Function result list
no_function o its result list is is' = cc

module _ (base : ℕ) (id : TypeId) where
  -- no struct; and if it is a function, it gives that type, or one that is no struct of an earlier unit
  abbrev pub IsFormed : TypeTable → TypeId → Type 0
  IsFormed types made =
      (made ≡ id) ⊎ (OwnTop base types made × ((result : TypeId) (list : ListId) → row_of types made ≡ Some (row.Function result list)
      → (result ≡ id) ⊎ OwnTop base types result))

  -- of an answer
  abbrev pub FormedGiven : {E : Type 0} → Result (TypeId × TypeTable) E → Type 0
  FormedGiven (Ok p) = IsFormed p.1 p.0
  FormedGiven (Err why) = Unit {0}

  -- by a test
  either_formed : {E : Type 0} → (b : Bool) (here there : Result (TypeId × TypeTable) E) → FormedGiven here → FormedGiven there
      → FormedGiven (if b then here else there)
  either_formed true here there is is' = is
  either_formed false here there is is' = is'

  -- a pointer or an array
  pointer_formed : (of : TypeId) (types : TypeTable) → IsFormed (with_row (row.Pointer of) types) (id_of (row.Pointer of) types)
  pointer_formed of types =
      inr (
        (row.Pointer of, row_found (row.Pointer of) types, tt),
        λ result list at. absurd (other (no_function (row_of (with_row (row.Pointer of) types) (id_of (row.Pointer of) types)) (row.Pointer of) result list
            (row_found (row.Pointer of) types) at)),
      )
    where
      other : {result : TypeId} {list : ListId} → row.Pointer of ≡ row.Function result list → ⊥
      other is = cc

  -- an array of unknown length
  open_formed : (of : TypeId) (types : TypeTable) → IsFormed (with_row (row.OpenArray of) types) (id_of (row.OpenArray of) types)
  open_formed of types =
      inr (
        (row.OpenArray of, row_found (row.OpenArray of) types, tt),
        λ result list at. absurd (other (no_function (row_of (with_row (row.OpenArray of) types) (id_of (row.OpenArray of) types)) (row.OpenArray of) result
            list (row_found (row.OpenArray of) types) at)),
      )
    where
      other : {result : TypeId} {list : ListId} → row.OpenArray of ≡ row.Function result list → ⊥
      other is = cc

  -- by its layout
  laid_formed : (of : TypeId) (length : ℕ) (o : Option Layout) (types : TypeTable) → FormedGiven (with_result types (row_of_layout of length o))
  laid_formed of length None types = tt
  laid_formed of length (Some layout) types =
      inr (
        (row.Array of length layout, row_found (row.Array of length layout) types, tt),
        λ result list at. absurd (other (no_function
            (row_of (with_row (row.Array of length layout) types) (id_of (row.Array of length layout) types)) (row.Array of length layout) result list
            (row_found (row.Array of length layout) types) at)),
      )
    where
      other : {result : TypeId} {list : ListId} → row.Array of length layout ≡ row.Function result list → ⊥
      other is = cc

  -- by the layout of its element
  arrayed_formed : (of : TypeId) (length : ℕ) (o : Option Layout) (types : TypeTable) → FormedGiven (with_result types (row_of_element of length o))
  arrayed_formed of length None types = tt
  arrayed_formed of length (Some element) types = laid_formed of length (array_layout length element) types

  -- unless the table is full
  ended_formed : (at : Place) (given : Result (TypeId × TypeTable) TypeEnd) → FormedGiven given → FormedGiven (untyped_end at given)
  ended_formed at (Ok p) is = is
  ended_formed at (Err why) is = tt

  -- a function
  function_formed : (of : TypeId) (list : ListId) (types : TypeTable) → IsFormed types of
      → IsFormed (with_row (row.Function of list) types) (id_of (row.Function of list) types)
  function_formed of list types is =
      inr (
        (row.Function of list, row_found (row.Function of list) types, tt),
        λ result other at. gives result (same result other (no_function
            (row_of (with_row (row.Function of list) types) (id_of (row.Function of list) types)) (row.Function of list) result other
            (row_found (row.Function of list) types) at)) is,
      )
    where
      same : (result : TypeId) (other : ListId) → row.Function of list ≡ row.Function result other → of ≡ result
      same result other is = cc

      gives : (result : TypeId) → of ≡ result → IsFormed types of → (result ≡ id) ⊎ OwnTop base (with_row (row.Function of list) types) result
      gives result one (inl first) = inl (sym one ∙ first)
      gives result one (inr has) =
          inr
          (top_later base types (with_row (row.Function of list) types) (grows_row (row.Function of list) types) result
          (subst (OwnTop base types) one has.0))

  -- by one derivation
  derived_formed : (at : Place) (its : Derivation) (of : TypeId) (types : TypeTable) → IsFormed types of → FormedGiven (derived_of at its of types)
  derived_formed at derivation.Pointer of types is =
      either_formed (is_function_row (row_of types of)) (Err (Untyped at)) (added (row.Pointer of) types) tt (pointer_formed of types)
  derived_formed at (derivation.Array length) of types is =
      ended_formed at (arrayed of length types) (arrayed_formed of length (layout_of types of) types)
  derived_formed at derivation.OpenArray of types is =
      either_formed (is_some (layout_of types of)) (added (row.OpenArray of) types) (Err (Untyped at)) (open_formed of types) tt
  derived_formed at (derivation.Function list) of types is =
      either_formed (is_function_row (row_of types of) || is_array_row (row_of types of)) (Err (Untyped at)) (added (row.Function of list) types) tt
      (function_formed of list types is)

  -- after those before it
  from_formed : (at : Place) (its : Derivation) (given : Result (TypeId × TypeTable) TypeError) → FormedGiven given
      → FormedGiven (derived_from at its given)
  from_formed at its (Ok p) is = derived_formed at its p.0 p.1 is
  from_formed at its (Err why) is = tt

  -- by all of them
  all_formed : (at : Place) (its : List Derivation) (types : TypeTable) → FormedGiven (formed at its id types)
  all_formed at [] types = inl refl
  all_formed at (its ∷ rest) types = from_formed at its (formed at rest id types) (all_formed at rest types)

  -- of a declarator
  abbrev pub FormedAt : Result (TypeId × Typer) TypeError → Type 0
  FormedAt (Ok p) = IsFormed p.1.types p.0
  FormedAt (Err why) = Unit {0}

  -- with what is known then
  typed_formed : (s : Typer) (given : Result (TypeId × TypeTable) TypeError) → FormedGiven given → FormedAt (with_types s given)
  typed_formed s (Ok p) is = is
  typed_formed s (Err why) is = tt

  -- of a declarator
  given_formed : (at : Place) (given : Result (List Derivation × Typer) TypeError) → FormedAt (then_with (λ its. on_types (formed at its id)) given)
  given_formed at (Ok p) = typed_formed p.1 (formed at p.0 id p.1.types) (all_formed at p.0 p.1.types)
  given_formed at (Err why) = tt

  -- with a scope for no parameters
  scope_formed : (given : Result (TypeId × Typer) TypeError) → FormedAt given → FormedAt (then_with (λ id. opened >> give id) given)
  scope_formed (Ok p) is = is
  scope_formed (Err why) is = tt

  -- of the type of a function
  pub opened_formed : (at : Place) (it : Declared) (parameters : Parameters) (s : Typer) → FormedAt (opened_type at id it parameters s)
  opened_formed at it syntax.no_parameters s =
      scope_formed (item_type at id it s) (given_formed (place_of at it) (derivations at it s))
  opened_formed at it (syntax.more_parameters words first rest) s =
      given_formed (place_of at it) (derivations at it (record s { keeps = true }))

-- The type of a function that is being defined is of this unit, if what its specifiers name is.
pub opened_own : (base : ℕ) (id made : TypeId) (s new : Typer) → OpenedAs s new made → IsFormed base id new.types made → OwnAt base s → IsOwn base s.types id
    → IsOwn base new.types made
opened_own base id made s new scope formed own is = by_formed formed
  where
    grows : Grows s.types new.types
    grows = grows_then s.types scope.mid.types new.types scope.around.types scope.inside.types

    by_formed : IsFormed base id new.types made → IsOwn base new.types made
    by_formed (inl same) = subst (IsOwn base new.types) (sym same) (own_later base s.types new.types grows id is)
    by_formed (inr has) =
        record {
          top = has.0;
          signature = λ result list at. (
            gives result (has.1 result list at),
            (scope.ids, scope.list result list at, scope.own base own),
          );
        }
      where
        gives : (result : TypeId) → (result ≡ id) ⊎ OwnTop base new.types result → OwnTop base new.types result
        gives result (inl same) = subst (OwnTop base new.types) (sym same) (top_later base s.types new.types grows id is.top)
        gives result (inr top) = top
