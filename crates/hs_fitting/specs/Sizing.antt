-- The type of an object that is given its first value stays, or is an array that gets its length (X3.159-1989 3.5.7).
--     MayHaveStart types id           the type is complete, or an array of complete elements whose length is not known
--     may_start_solid                 so it is solid
--     IsSized, sized_started          the type after the initialiser
use Rattle.std.proofs.Common.{◌≡◌, ℕ, true, false, ◌||◌, Option, Some, None, is_some, Result, Ok, Err, refl, ap, sym, subst, ◌∙◌}
use Rattle.hs_base.specs.Tests.{or_false}
use Rattle.hs_expressions.specs.Binding.Keeping.{Giving}
use Rattle.hs_fitting.specs.Moves.{IsWhole}
use Rattle.hs_fitting.specs.Readying.{Started}
use Rattle.hs_fitting.specs.Scalars.{IsSolidRow, IsSolid, open_not_whole}
use Rattle.hs_fitting.specs.Staying.{row_stays}
use Rattle.hs_fitting.specs.Whole.{MayStart}
use Rattle.hs_initialisers.specs.Initialisers.{sized_by, sized}
use Rattle.hs_operands.specs.Laws.Added.{row_found}
use Rattle.hs_operand_types.specs.Types.{is_open_row}
use Rattle.hs_tokens.specs.declared.place.Place.{Place}
use Rattle.hs_tree.specs.Trees.{TypedFunction, TypedProgram}
use Rattle.hs_typer.specs.Declarators.{untyped_end}
use Rattle.hs_typer.specs.Steps.{with_types, on_types}
use Rattle.hs_typer.specs.declared.typer.Typer.{Typer}
use Rattle.hs_types.specs.Layouts.{array_layout}
use Rattle.hs_types.specs.TypeTables.{TypeTable, row_of, layout_in, layout_of, row_of_layout, row_of_element, with_result, arrayed, id_of, IsRight, Grows}
use Rattle.hs_types.specs.declared.layout.Layout.{Layout}
use Rattle.hs_types.specs.declared.row.Row.{Row}
use Rattle.hs_types.specs.declared.row.Row.TheVariants as row
use Rattle.hs_types.specs.declared.row.TypeId.{TypeId}
use Rattle.hs_types.specs.declared.types.TypeEnd.{TypeEnd}

-- An object of the type may have an initialiser. Elements of an array whose length is not known are complete, as declarators make them.
pub record MayHaveStart (types : TypeTable) (id : TypeId) : Type 0 where
  pub may : MayStart types id
  pub elements : (of : TypeId) → row_of types id ≡ Some (row.OpenArray of) → IsWhole types of

-- so the type is solid
solid_by : (types : TypeTable) (id : TypeId) (o : Option Row) → row_of types id ≡ o → (is_some (layout_in types o) || is_open_row o) ≡ true
    → ((of : TypeId) → o ≡ Some (row.OpenArray of) → IsWhole types of) → IsSolidRow types id o
solid_by types id None same may elements = rw same (or_false false may)
solid_by types id (Some row.Void) same may elements = rw same (or_false (is_some (layout_in types (Some row.Void))) may)
solid_by types id (Some (row.Integer kind)) same may elements = rw same (or_false (is_some (layout_in types (Some (row.Integer kind)))) may)
solid_by types id (Some (row.Pointer of)) same may elements = rw same (or_false (is_some (layout_in types (Some (row.Pointer of)))) may)
solid_by types id (Some (row.Enumeration number)) same may elements = rw same (or_false (is_some (layout_in types (Some (row.Enumeration number)))) may)
solid_by types id (Some (row.Struct number)) same may elements = rw same (or_false (is_some (layout_in types (Some (row.Struct number)))) may)
solid_by types id (Some (row.Array of size layout)) same may elements = rw same (or_false (is_some (layout_in types (Some (row.Array of size layout)))) may)
solid_by types id (Some (row.Function result list)) same may elements = rw same (or_false (is_some (layout_in types (Some (row.Function result list)))) may)
solid_by types id (Some (row.OpenArray of)) same may elements = elements of refl

pub may_start_solid : (types : TypeTable) (id : TypeId) → MayHaveStart types id → IsSolid types id
may_start_solid types id may = solid_by types id (row_of types id) refl may.may may.elements

-- ---- the type of the object

-- it stays, or gets its length
pub record IsSized (program : TypedProgram) (types : TypeTable) (id : TypeId) (count : ℕ) (made : TypeId) : Type 0 where
  pub same : IsWhole types id → made ≡ id
  pub row : (of : TypeId) → row_of types id ≡ Some (row.OpenArray of)
      → (layout : Layout) × (row_of program.types made ≡ Some (row.Array of count layout))

module _ (program : TypedProgram) (function : TypedFunction) (types : TypeTable) where
  SizedGiving : TypeId → ℕ → Typer → Result (TypeId × TypeTable) TypeEnd → Type 0
  SizedGiving id count s (Ok p) = Grows p.1 program.types → IsSized program types id count p.0
  SizedGiving id count s (Err why) = Unit {0}

  laid_sized : (id of : TypeId) (count : ℕ) (s : Typer) (layout : Option Layout) → row_of types id ≡ Some (row.OpenArray of)
      → SizedGiving id count s (with_result s.types (row_of_layout of count layout))
  unfolding SizedGiving
  laid_sized id of count s None same = tt
  laid_sized id of count s (Some layout) same =
      λ grows.
      record {
        same = λ whole. absurd (open_not_whole types id of whole same);
        row = λ other is.
            let found : row_of program.types (id_of (row.Array of count layout) s.types) ≡ Some (row.Array of count layout) =
            grows.rows (id_of (row.Array of count layout) s.types).number (row.Array of count layout) (row_found (row.Array of count layout) s.types) in
            let elements : Some (row.OpenArray of) ≡ Some (row.OpenArray other) = sym same ∙ is in
            let its : of ≡ other = cc in
            (layout, found ∙ ap (λ id. Some (row.Array id count layout)) its);
      }

  arrayed_sized : (id of : TypeId) (count : ℕ) (s : Typer) (element : Option Layout) → row_of types id ≡ Some (row.OpenArray of)
      → SizedGiving id count s (with_result s.types (row_of_element of count element))
  unfolding SizedGiving
  arrayed_sized id of count s None same = tt
  arrayed_sized id of count s (Some element) same = laid_sized id of count s (array_layout count element) same

  ended_sized : (at : Place) (id : TypeId) (count : ℕ) (s : Typer) (given : Result (TypeId × TypeTable) TypeEnd) → SizedGiving id count s given
      → Giving program function program.types s (IsSized program types id count) (with_types s (untyped_end at given))
  unfolding SizedGiving
  ended_sized at id count s (Ok p) is = λ noted. is noted.types
  ended_sized at id count s (Err why) is = tt

  kept_sized : (id : TypeId) (count : ℕ) (s : Typer) → ((of : TypeId) → row_of types id ≡ Some (row.OpenArray of) → ⊥)
      → Giving program function program.types s (IsSized program types id count) (Ok (id, record s { types = s.types }))
  kept_sized id count s closed = λ noted. record { same = λ whole. refl; row = λ of same. absurd (closed of same) }

  sized_by_started : (at : Place) (id : TypeId) (count : ℕ) (s : Typer) (o : Option Row) → row_of types id ≡ o
      → Giving program function program.types s (IsSized program types id count) (with_types s (sized_by at id count o s.types))
  sized_by_started at id count s (Some (row.OpenArray of)) same =
      ended_sized at id count s (arrayed of count s.types) (arrayed_sized id of count s (layout_of s.types of) same)
  sized_by_started at id count s None same = kept_sized id count s (λ other is. closed other (sym same ∙ is))
    where
      closed : (other : TypeId) → ◌≡◌ {A = Option Row} None (Some (row.OpenArray other)) → ⊥
      closed other is' = cc
  sized_by_started at id count s (Some row.Void) same = kept_sized id count s (λ other is. closed (sym same ∙ is))
    where
      closed : {other : TypeId} → (Some row.Void) ≡ Some (row.OpenArray other) → ⊥
      closed is' = cc
  sized_by_started at id count s (Some (row.Integer kind)) same = kept_sized id count s (λ other is. closed (sym same ∙ is))
    where
      closed : {other : TypeId} → (Some (row.Integer kind)) ≡ Some (row.OpenArray other) → ⊥
      closed is' = cc
  sized_by_started at id count s (Some (row.Pointer of)) same = kept_sized id count s (λ other is. closed (sym same ∙ is))
    where
      closed : {other : TypeId} → (Some (row.Pointer of)) ≡ Some (row.OpenArray other) → ⊥
      closed is' = cc
  sized_by_started at id count s (Some (row.Enumeration number)) same = kept_sized id count s (λ other is. closed (sym same ∙ is))
    where
      closed : {other : TypeId} → (Some (row.Enumeration number)) ≡ Some (row.OpenArray other) → ⊥
      closed is' = cc
  sized_by_started at id count s (Some (row.Struct number)) same = kept_sized id count s (λ other is. closed (sym same ∙ is))
    where
      closed : {other : TypeId} → (Some (row.Struct number)) ≡ Some (row.OpenArray other) → ⊥
      closed is' = cc
  sized_by_started at id count s (Some (row.Array of size layout)) same = kept_sized id count s (λ other is. closed (sym same ∙ is))
    where
      closed : {other : TypeId} → (Some (row.Array of size layout)) ≡ Some (row.OpenArray other) → ⊥
      closed is' = cc
  sized_by_started at id count s (Some (row.Function result list)) same = kept_sized id count s (λ other is. closed (sym same ∙ is))
    where
      closed : {other : TypeId} → (Some (row.Function result list)) ≡ Some (row.OpenArray other) → ⊥
      closed is' = cc

  pub sized_started : IsRight types → (at : Place) (id : TypeId) (count : ℕ) → IsSolid types id
      → Started program function types (IsSized program types id count) (on_types (sized at id count))
  sized_started right at id count solid =
      record {
        gives = λ s ready.
            subst (λ o. Giving program function program.types s (IsSized program types id count) (with_types s (sized_by at id count o s.types)))
            (sym (row_stays types right s.types ready.grows id solid)) (sized_by_started at id count s (row_of types id) refl);
      }
