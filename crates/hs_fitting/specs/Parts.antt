-- What objects of static storage duration, and those that a list or a string initialises, start with (X3.159-1989 3.5.7): constants for
-- their scalars, at ascending bytes.
--     HasParts program p              a type, and constants for the scalars of an object of it
--     complete_at, elements_at        the scalars of an object are its own
--     initialised_started             an initialiser, in the forms of `Readying.antt`
--     initialised_fits                from a place of the text
use Rattle.std.proofs.Common.{◌≡◌, ◌+◌, ◌*◌, ℕ, true, List, [], length, Option, Some, None, refl, sym, subst, ◌∙◌, arith}
use Rattle.hs_expressions.specs.Binding.Keeping.{KnowsBound, Giving}
use Rattle.hs_expressions.specs.Laws.{IsConstant, IsScoped, Knows}
use Rattle.hs_expressions.specs.Laws.Always.{Always, gives_always, then_always}
use Rattle.hs_fitting.specs.Answers.{false_true}
use Rattle.hs_fitting.specs.Filling.{Simple}
use Rattle.hs_fitting.specs.Initialising.{alone_always, braced_always, sized_always}
use Rattle.hs_fitting.specs.Listing.{Braced, alone_started, braced_started}
use Rattle.hs_fitting.specs.Moves.{IsWhole}
use Rattle.hs_fitting.specs.PartLists.{AreParts, InElements, parts_until, complete_parts, counted_parts}
use Rattle.hs_fitting.specs.Readying.{Started, then_started}
use Rattle.hs_fitting.specs.Scalars.{Within, IsAt, IsSolidRow, IsSolid, whole_at}
use Rattle.hs_fitting.specs.Sizing.{MayHaveStart, may_start_solid, IsSized, sized_started}
use Rattle.hs_aggregates.specs.Aggregates.{count_begun}
use Rattle.hs_initialisers.specs.Initialisers.{Filled, braced, all_of, sized, alone, initialised}
use Rattle.hs_syntax.specs.Trees as syntax
use Rattle.hs_syntax.specs.Trees.{Initialising}
use Rattle.hs_tokens.specs.declared.place.Place.{Place}
use Rattle.hs_tree.specs.Kinds.{IsScalar}
use Rattle.hs_tree.specs.Objects as object
use Rattle.hs_tree.specs.Objects.{IsScalarAt, FitsParts}
use Rattle.hs_tree.specs.Trees.{TypedFunction, TypedProgram}
use Rattle.hs_tree.specs.declared.constant.Part.{Part}
use Rattle.hs_typer.specs.Steps.{Step, ◌>>=◌, give, on_types}
use Rattle.hs_typer.specs.declared.typer.Typer.{Typer}
use Rattle.hs_types.specs.Growing.{grows_self, grows_then}
use Rattle.hs_types.specs.TypeTables.{TypeTable, row_of, size_of, IsRight}
use Rattle.hs_types.specs.declared.row.FieldId.{FieldId}
use Rattle.hs_types.specs.declared.row.Row.{Row}
use Rattle.hs_types.specs.declared.row.Row.TheVariants as row
use Rattle.hs_types.specs.declared.row.TypeId.{TypeId}

-- ---- the scalars of the whole object

-- of a complete type
pub complete_at : (types : TypeTable) (id : TypeId) → IsWhole types id → IsAt types (IsScalarAt types id) 0 id None
complete_at types id whole =
    whole_at types (IsScalarAt types id) 0 id None whole (
      λ scalar. object.itself id scalar,
      λ offset scalar inner other there.
          let same : offset ≡ 0 + offset = omega arith in
          subst (λ n. IsScalarAt types id n scalar inner) same there,
    )

-- an array whose length is not known has none of its own
not_array : (types : TypeTable) (id of : TypeId) → row_of types id ≡ Some (row.OpenArray of) → (o : Option Row) → row_of types id ≡ o
    → ¬ (Some (row.OpenArray of) ≡ o) → ⊥
not_array types id of same o is other = other (sym same ∙ is)

no_scalars : (types : TypeTable) (id of scalar : TypeId) (offset : ℕ) (field : Option FieldId) → row_of types id ≡ Some (row.OpenArray of)
    → IsScalarAt types id offset scalar field → ⊥
no_scalars types id of _ _ _ same (object.itself _ is) = false_true (sym (rw same refl) ∙ is)
no_scalars types id of scalar _ field same (object.in_array _ each _ count place offset layout _ is under there) =
    not_array types id of same (Some (row.Array each count layout)) is (λ given. cc)
no_scalars types id of _ _ _ same (object.is_field _ scalar field offset struct named is) =
    not_array types id of same (Some (row.Struct field.of)) struct (λ given. cc)
no_scalars types id of _ _ _ same (object.in_field _ each scalar field first offset inner struct named other there) =
    not_array types id of same (Some (row.Struct field.of)) struct (λ given. cc)

-- but those of its elements
pub elements_at : (types : TypeTable) (id of : TypeId) → row_of types id ≡ Some (row.OpenArray of) → IsAt types (InElements types of) 0 id None
elements_at types id of same = (
  (
    λ scalar. absurd (no_scalar scalar),
    λ offset scalar inner other there. absurd (no_scalars types id of scalar offset inner same there),
  ),
  λ each place is.
      let elements : Some (row.OpenArray of) ≡ Some (row.OpenArray each) = sym same ∙ is in
      let its : of ≡ each = cc in
      subst (λ each. Within types (InElements types of) (0 + place * size_of types each) each None) its (
        λ scalar. (place, (0, (start place, object.itself of scalar))),
        λ offset scalar inner other there. (place, (offset, (later place offset, there))),
      ),
)
  where
    no_scalar : IsScalar types id → ⊥
    no_scalar is = false_true (sym (rw same refl) ∙ is)

    start : (place : ℕ) → place * size_of types of + 0 ≡ 0 + place * size_of types of
    start place = omega arith

    later : (place offset : ℕ) → place * size_of types of + offset ≡ 0 + place * size_of types of + offset
    later place offset = omega arith

-- ---- initialisers

-- constants for the scalars of an object of that type, in their order
abbrev pub HasParts : TypedProgram → TypeId × List Part → Type 0
HasParts program p = FitsParts program p.0 p.1

module _ (program : TypedProgram) (function : TypedFunction) (sound : IsRight program.types) (types : TypeTable) (right : IsRight types) where
  -- what is given at the end
  complete_given : (id : TypeId) (whole : IsWhole types id) (made : TypeId) (its : List Part) → made ≡ id
      → AreParts program (IsScalarAt types id) 0 (0 + size_of types id) its
      → Started program function types (HasParts program) (give (made, its))
  complete_given id whole made its same are =
      record {
        gives = λ s ready noted.
            subst (λ id. FitsParts program id its) (sym same)
            (complete_parts program types right (grows_then types s.types program.types ready.grows noted.types) id whole 0 (0 + size_of types id) its
            are);
      }

  counted_given : (of : TypeId) (count : ℕ) (made : TypeId) (its : List Part) → IsWhole types of
      → (layout : _) × (row_of program.types made ≡ Some (row.Array of count layout))
      → AreParts program (InElements types of) 0 (0 + count * size_of types of) its
      → Started program function types (HasParts program) (give (made, its))
  counted_given of count made its whole sized' are =
      record {
        gives = λ s ready noted.
            counted_parts program types right (grows_then types s.types program.types ready.grows noted.types) made of count sized'.0 whole sized'.1 0 its
            (parts_until program (InElements types of) 0 (0 + count * size_of types of) (count * size_of types of) its (omega arith) are);
      }

  -- with the type that the object gets
  sized_then : {A : Type 0} → (at : Place) (id : TypeId) (count : A → ℕ) (parts : A → List Part) (holds : A → Type 0) (first : Step A)
      → IsSolid types id → Always IsConstant first → Started program function types holds first
      → ((it : A) → holds it → (made : TypeId) → IsSized program types id (count it) made
      → Started program function types (HasParts program) (give (made, parts it)))
      → Started program function types (HasParts program)
      (first >>= (λ it. on_types (sized at id (count it)) >>= (λ made. give (made, parts it))))
  sized_then at id count parts holds first solid always is after =
      then_started always is (λ it. then_always (sized_always at id (count it)) (λ made. gives_always (made, parts it)))
      (λ it its. then_started (sized_always at id (count it)) (sized_started program function types right at id (count it) solid)
      (λ made. gives_always (made, parts it)) (λ made sized'. after it its made sized'))

  -- of an object of complete type
  complete_started : (at : Place) (id : TypeId) (it : Initialising) → IsSolid types id → IsWhole types id
      → Started program function types (HasParts program) (initialised at id it)
  complete_started at id (syntax.value e) solid whole =
      sized_then at id length (λ its. its) (Simple program types (IsScalarAt types id) (all_of id)) (alone id e) solid (alone_always id e)
      (alone_started program function sound types right (IsScalarAt types id) id e solid (complete_at types id whole))
      (λ its is made sized'. complete_given id whole made its (sized'.same whole) (is.whole whole))
  complete_started at id (syntax.list brace its comma) solid whole =
      sized_then at id (λ (filled : Filled). count_begun filled.1) (λ filled. filled.0) (Braced program types (IsScalarAt types id) (all_of id))
      (braced at (all_of id) [] its) solid (braced_always at (all_of id) [] its)
      (braced_started program function sound types right (IsScalarAt types id) at id its solid (complete_at types id whole))
      (λ filled is made sized'. complete_given id whole made filled.0 (sized'.same whole) (is.whole whole))

  -- of an array whose length is not known
  open_started : (at : Place) (id of : TypeId) (it : Initialising) → IsSolid types id → row_of types id ≡ Some (row.OpenArray of) → IsWhole types of
      → Started program function types (HasParts program) (initialised at id it)
  open_started at id of (syntax.value e) solid same whole =
      sized_then at id length (λ its. its) (Simple program types (InElements types of) (all_of id)) (alone id e) solid (alone_always id e)
      (alone_started program function sound types right (InElements types of) id e solid (elements_at types id of same))
      (λ its is made sized'. counted_given of (length its) made its whole (sized'.row of same) (is.opens of same))
  open_started at id of (syntax.list brace its comma) solid same whole =
      sized_then at id (λ (filled : Filled). count_begun filled.1) (λ filled. filled.0) (Braced program types (InElements types of) (all_of id))
      (braced at (all_of id) [] its) solid (braced_always at (all_of id) [] its)
      (braced_started program function sound types right (InElements types of) at id its solid (elements_at types id of same))
      (λ filled is made sized'. counted_given of (count_begun filled.1) made filled.0 whole (sized'.row of same) (is.opens of same))

  started_by : (at : Place) (id : TypeId) (it : Initialising) (o : Option Row) → row_of types id ≡ o → IsSolid types id → IsSolidRow types id o
      → Started program function types (HasParts program) (initialised at id it)
  started_by at id it (Some (row.OpenArray of)) same solid is = open_started at id of it solid same is
  started_by at id it None same solid is = complete_started at id it solid is
  started_by at id it (Some row.Void) same solid is = complete_started at id it solid is
  started_by at id it (Some (row.Integer kind)) same solid is = complete_started at id it solid is
  started_by at id it (Some (row.Pointer of)) same solid is = complete_started at id it solid is
  started_by at id it (Some (row.Enumeration number)) same solid is = complete_started at id it solid is
  started_by at id it (Some (row.Struct number)) same solid is = complete_started at id it solid is
  started_by at id it (Some (row.Array of size layout)) same solid is = complete_started at id it solid is
  started_by at id it (Some (row.Function result list)) same solid is = complete_started at id it solid is

  pub initialised_started : (at : Place) (id : TypeId) (it : Initialising) → IsSolid types id
      → Started program function types (HasParts program) (initialised at id it)
  initialised_started at id it solid = started_by at id it (row_of types id) refl solid solid

-- The parts of an object that has an initialiser are constants for its scalars, in their order.
pub initialised_fits : (program : TypedProgram) (function : TypedFunction) (at : Place) (id : TypeId) (it : Initialising) (s : Typer)
    → IsRight program.types → IsRight s.types → MayHaveStart s.types id → IsScoped s → s.counts ≡ true → Knows program function s
    → KnowsBound program function program.types s
    → Giving program function program.types s (HasParts program) (initialised at id it s)
initialised_fits program function at id it s sound right may scoped counts known bound =
    (initialised_started program function sound s.types right at id it (may_start_solid s.types id may)).gives s
    (record { scoped = scoped; counts = counts; known = known; bound = bound; grows = grows_self s.types })
