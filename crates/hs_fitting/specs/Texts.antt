-- The characters of a string that initialises an array of characters (X3.159-1989 3.5.7) are constants for its elements.
--     TextParts program types holds it its      so they are
--     text_parts                                the law
use Rattle.std.proofs.Common.{◌≡◌, ◌≤◌, ◌<◌, ◌+◌, ◌*◌, ◌==◌, ℕ, suc, Bool, true, false, List, [], ◌∷◌, length, take, Option, Some, None, Ok, refl, ap, sym, subst, ◌∙◌, if◌then◌else◌, arith, length-take}
use Rattle.std.specs.Prelude.{nat_le}
use Rattle.hs_base.specs.Options.{some_same}
use Rattle.hs_fitting.specs.Answers.{accepted}
use Rattle.hs_fitting.specs.Moves.{IsWhole}
use Rattle.hs_fitting.specs.Nexts.{if_some, at_most, element_within, array_size}
use Rattle.hs_fitting.specs.PartLists.{AreParts, characters_parts}
use Rattle.hs_fitting.specs.Scalars.{Subobject, Scalars, IsAt, IsSolid, open_not_whole}
use Rattle.hs_fitting.specs.Staying.{text_kind_stays, element_stays, length_stays}
use Rattle.hs_aggregates.specs.Aggregates.{is_character, character_row, character_of, text_kind}
use Rattle.hs_initialisers.specs.Initialisers.{characters, that_fit, text_with, text_as, text_by, text_of}
use Rattle.hs_operands.specs.Laws.Stays.{number_kind-stays}
use Rattle.hs_syntax.specs.Trees as syntax
use Rattle.hs_syntax.specs.Trees.{Expression}
use Rattle.hs_syntax.specs.declared.word.Word.{Word}
use Rattle.hs_tokens.specs.declared.place.Place.{Place}
use Rattle.hs_tree.specs.Kinds.{kind_of_row, element_of_row, length_of_row, element, array_length, number_kind, IsScalar, IsNumber}
use Rattle.hs_tree.specs.Trees.{TypedProgram}
use Rattle.hs_tree.specs.declared.constant.Part.{Part}
use Rattle.hs_typer.specs.Primaries.{string_bytes}
use Rattle.hs_types.specs.Integers.{integer_size}
use Rattle.hs_types.specs.TypeTables.{TypeTable, row_of, size_in, size_of, layout_in, IsRight, Grows}
use Rattle.hs_types.specs.declared.integer.Integer.{Integer}
use Rattle.hs_types.specs.declared.integer.Integer.TheVariants as kind
use Rattle.hs_types.specs.declared.row.FieldId.{FieldId}
use Rattle.hs_types.specs.declared.row.Row.{Row}
use Rattle.hs_types.specs.declared.row.Row.TheVariants as row
use Rattle.hs_types.specs.declared.row.TypeId.{TypeId}

-- constants for the elements of the array from its start on, which it has
pub record TextParts (program : TypedProgram) (types : TypeTable) (holds : Scalars) (it : Subobject) (its : List Part) : Type 0 where
  pub parts : AreParts program holds it.offset (it.offset + length its) its
  pub fits : IsWhole types it.type_id → length its ≤ size_of types it.type_id
  pub each : (of : TypeId) → row_of types it.type_id ≡ Some (row.OpenArray of) → size_of types of ≡ 1

-- ---- characters

-- a character is one byte
character_size : (its : Integer) → is_character its ≡ true → integer_size its ≡ 1
character_size kind.Char is = refl
character_size kind.SignedChar is = refl
character_size kind.UnsignedChar is = refl
character_size kind.Short is = absurd cc
character_size kind.UnsignedShort is = absurd cc
character_size kind.Int is = absurd cc
character_size kind.UnsignedInt is = absurd cc
character_size kind.Long is = absurd cc
character_size kind.UnsignedLong is = absurd cc

-- the row of its type
character_known : (o : Option Row) (its : Integer) → character_row o ≡ Some its → (o ≡ Some (row.Integer its)) × (integer_size its ≡ 1)
character_known None its given = absurd cc
character_known (Some row.Void) its given = absurd cc
character_known (Some (row.Integer other)) its given =
    let met = if_some (is_character other) other its given in
    (ap (λ it. Some (row.Integer it)) met.1, ap integer_size (sym met.1) ∙ character_size other met.0)
character_known (Some (row.Pointer of)) its given = absurd cc
character_known (Some (row.Enumeration number)) its given = absurd cc
character_known (Some (row.Struct number)) its given = absurd cc
character_known (Some (row.Array of size layout)) its given = absurd cc
character_known (Some (row.OpenArray of)) its given = absurd cc
character_known (Some (row.Function result list)) its given = absurd cc

-- as many parts as bytes
characters_length : (its : Integer) (id : TypeId) (bytes : List ℕ) (offset : ℕ) → length (characters its id offset bytes) ≡ length bytes
characters_length its id [] offset = refl
characters_length its id (byte ∷ bytes) offset = ap suc (characters_length its id bytes (suc offset))

-- those that fit are no more than there is room for
cut_fits : (room : ℕ) (bytes fitted : List ℕ) (b : Bool) → (if b then Some (take room bytes) else None) ≡ Some fitted → length fitted ≤ room
cut_fits room bytes fitted true given =
    subst (λ its. length its ≤ room) (some_same (take room bytes) fitted given) (omega (arith, length-take room bytes))
cut_fits room bytes fitted false given = absurd cc

all_fit : (room : ℕ) (bytes fitted : List ℕ) (b : Bool) → nat_le (length bytes) room ≡ b
    → (if b then Some bytes else if length bytes == suc room then Some (take room bytes) else None) ≡ Some fitted → length fitted ≤ room
all_fit room bytes fitted true is given =
    subst (λ its. length its ≤ room) (some_same bytes fitted given) (at_most (length bytes) room is)
all_fit room bytes fitted false is given = cut_fits room bytes fitted (length bytes == suc room) given

fits_room : (o : Option ℕ) (bytes fitted : List ℕ) (room : ℕ) → o ≡ Some room → that_fit o bytes ≡ Some fitted → length fitted ≤ room
fits_room None bytes fitted room same given = absurd cc
fits_room (Some other) bytes fitted room same given =
    subst (λ n. length fitted ≤ n) (some_same other room same) (all_fit other bytes fitted (nat_le (length bytes) other) refl given)

module _ (program : TypedProgram) (types : TypeTable) (right : IsRight types) (holds : Scalars) where
  -- an element of an array of characters
  spot_at : (at : ℕ) (id of : TypeId) (field : Option FieldId) (place : ℕ) (o : Option Row) → row_of types id ≡ o → element_of_row o ≡ Some of
      → ((count : ℕ) → length_of_row o ≡ Some count → place < count) → IsAt types holds at id field → IsScalar types of
      → holds (at + place * size_of types of) of None
  spot_at at id of field place None same its under is scalar = absurd cc
  spot_at at id of field place (Some row.Void) same its under is scalar = absurd cc
  spot_at at id of field place (Some (row.Integer other)) same its under is scalar = absurd cc
  spot_at at id of field place (Some (row.Pointer other)) same its under is scalar = absurd cc
  spot_at at id of field place (Some (row.Enumeration number)) same its under is scalar = absurd cc
  spot_at at id of field place (Some (row.Struct number)) same its under is scalar = absurd cc
  spot_at at id of field place (Some (row.Array other count layout)) same its under is scalar =
      let elements : other ≡ of = some_same other of its in
      let same' : row_of types id ≡ Some (row.Array of count layout) = same ∙ ap (λ it. Some (row.Array it count layout)) elements in
      (element_within types right (record { type_id = id; offset = at; field = field; begun = place }) of count layout same' (under count refl) holds
      is).0 scalar
  spot_at at id of field place (Some (row.OpenArray other)) same its under is scalar =
      let elements : other ≡ of = some_same other of its in
      (is.1 of place (same ∙ ap (λ it. Some (row.OpenArray it)) elements)).0 scalar
  spot_at at id of field place (Some (row.Function result list)) same its under is scalar = absurd cc

  -- a complete array of characters has as many bytes as elements
  array_bytes : (id of : TypeId) (o : Option Row) → row_of types id ≡ o → element_of_row o ≡ Some of → size_of types of ≡ 1 → IsWhole types id
      → (count : ℕ) × (length_of_row o ≡ Some count) × (count ≤ size_of types id)
  array_bytes id of None same its one whole = absurd cc
  array_bytes id of (Some row.Void) same its one whole = absurd cc
  array_bytes id of (Some (row.Integer other)) same its one whole = absurd cc
  array_bytes id of (Some (row.Pointer other)) same its one whole = absurd cc
  array_bytes id of (Some (row.Enumeration number)) same its one whole = absurd cc
  array_bytes id of (Some (row.Struct number)) same its one whole = absurd cc
  array_bytes id of (Some (row.Array other count layout)) same its one whole =
      let fits = right.rows id.number (row.Array other count layout) same in
      let elements : other ≡ of = some_same other of its in
      let each : fits.0.size ≡ 1 = sym (ap size_in fits.1) ∙ ap (size_of types) elements ∙ one in
      let all : fits.0.size * count ≡ layout.size = array_size types right count fits.0 layout fits.2 in
      let bytes : 1 * count ≡ layout.size = ap (λ n. n * count) (sym each) ∙ all in
      let size : size_of types id ≡ layout.size = rw same refl in
      (count, refl, omega (arith, bytes, size))
  array_bytes id of (Some (row.OpenArray other)) same its one whole = absurd (open_not_whole types id other whole same)
  array_bytes id of (Some (row.Function result list)) same its one whole = absurd cc

  module _ (later : TypeTable) (grows : Grows types later) (after : Grows later program.types) where
    -- of known characters
    fitted_parts : (it : Subobject) (its : Integer) (of : TypeId) (fitted : List ℕ) → IsSolid types it.type_id
        → IsAt types holds it.offset it.type_id it.field → text_kind types it.type_id ≡ Some its → element types it.type_id ≡ Some of
        → ((room : ℕ) → array_length types it.type_id ≡ Some room → length fitted ≤ room)
        → TextParts program types holds it (characters its of it.offset fitted)
    fitted_parts it its of fitted solid is known same fits =
        let character : character_row (row_of types of) ≡ Some its = sym (ap (character_of types) same) ∙ known in
        let row' = character_known (row_of types of) its character in
        let scalar : IsScalar types of = rw (row'.0) refl in
        let one : size_of types of ≡ 1 = ap (λ o. size_in (layout_in types o)) row'.0 ∙ row'.1 in
        let before : number_kind types of ≡ Some its = ap kind_of_row row'.0 in
        let number : IsNumber program.types its of =
        number_kind-stays later program.types after of its (number_kind-stays types later grows of its before) in
        let count : length (characters its of it.offset fitted) ≡ length fitted = characters_length its of fitted it.offset in
        record {
          parts = subst (λ n. AreParts program holds it.offset (it.offset + n) (characters its of it.offset fitted)) (sym count)
              (characters_parts program holds its of number fitted it.offset
              (λ place under.
              let bytes : it.offset + place * size_of types of ≡ it.offset + place = rw one (omega arith) in
              subst (λ n. holds n of None) bytes
              (spot_at it.offset it.type_id of it.field place (row_of types it.type_id) refl same
              (λ room has. less_then place (length fitted) room under (fits room has)) is scalar)));
          fits = λ whole.
              let has = array_bytes it.type_id of (row_of types it.type_id) refl same one whole in
              omega (arith, count, fits has.0 has.1, has.2);
          each = λ other open'.
              let elements : other ≡ of = some_same other of (sym (ap element_of_row open') ∙ same) in
              ap (size_of types) elements ∙ one;
        }
      where
        less_then : (a b c : ℕ) → a < b → b ≤ c → a < c
        less_then a b c first second = omega (arith, first, second)

    text_with_parts : (it : Subobject) (at : Place) (its : Integer) (of : TypeId) (bytes : List ℕ) (made : List Part) (o : Option (List ℕ))
        → IsSolid types it.type_id → IsAt types holds it.offset it.type_id it.field → text_kind types it.type_id ≡ Some its
        → element types it.type_id ≡ Some of → that_fit (array_length types it.type_id) bytes ≡ o → text_with at its of it.offset o ≡ Ok made
        → TextParts program types holds it made
    text_with_parts it at its of bytes made None solid is known same fits given = absurd cc
    text_with_parts it at its of bytes made (Some fitted) solid is known same fits given =
        subst (TextParts program types holds it) (accepted (characters its of it.offset fitted) made given)
        (fitted_parts it its of fitted solid is known same (λ room has. fits_room (array_length types it.type_id) bytes fitted room has fits))

    text_as_parts : (it : Subobject) (at : Place) (its : Integer) (of : TypeId) (o : Option (List ℕ)) (made : List Part) → IsSolid types it.type_id
        → IsAt types holds it.offset it.type_id it.field → text_kind types it.type_id ≡ Some its → element types it.type_id ≡ Some of
        → text_as at its of it.offset (array_length types it.type_id) o ≡ Ok made → TextParts program types holds it made
    text_as_parts it at its of None made solid is known same given = absurd cc
    text_as_parts it at its of (Some bytes) made solid is known same given =
        text_with_parts it at its of bytes made (that_fit (array_length types it.type_id) bytes) solid is known same refl given

    text_by_parts : (it : Subobject) (first : Word) (others : List Word) (made : List Part) (o : Option Integer) (p : Option TypeId)
        → IsSolid types it.type_id → IsAt types holds it.offset it.type_id it.field → text_kind types it.type_id ≡ o → element types it.type_id ≡ p
        → text_by later it first others o p ≡ Ok made → TextParts program types holds it made
    text_by_parts it first others made None p solid is known same given = absurd cc
    text_by_parts it first others made (Some its) None solid is known same given = absurd cc
    text_by_parts it first others made (Some its) (Some of) solid is known same given =
        text_as_parts it first.place its of (string_bytes first others) made solid is known same
        (ap (λ o. text_as first.place its of it.offset o (string_bytes first others)) (sym (length_stays types right later grows it.type_id solid)) ∙
        given)

    -- a string that initialises a part of an object
    pub text_parts : (it : Subobject) (e : Expression) (made : List Part) → IsSolid types it.type_id
        → IsAt types holds it.offset it.type_id it.field → text_of it e later ≡ Ok made → TextParts program types holds it made
    text_parts it (syntax.strings first others) made solid is given =
        text_by_parts it first others made (text_kind types it.type_id) (element types it.type_id) solid is refl refl
        (ap (λ o. text_by later it first others o (element types it.type_id)) (sym (text_kind_stays types right later grows it.type_id solid)) ∙
        ap (text_by later it first others (text_kind later it.type_id)) (sym (element_stays types right later grows it.type_id solid)) ∙ given)
    text_parts it (syntax.name word) made solid is given = absurd cc
    text_parts it (syntax.number word) made solid is given = absurd cc
    text_parts it (syntax.character word) made solid is given = absurd cc
    text_parts it (syntax.parens at inner) made solid is given = absurd cc
    text_parts it (syntax.index base at offset) made solid is given = absurd cc
    text_parts it (syntax.call callee arguments) made solid is given = absurd cc
    text_parts it (syntax.member base access at word) made solid is given = absurd cc
    text_parts it (syntax.postfix base operator at) made solid is given = absurd cc
    text_parts it (syntax.prefix operator at base) made solid is given = absurd cc
    text_parts it (syntax.sizeof_value at base) made solid is given = absurd cc
    text_parts it (syntax.sizeof_type at name) made solid is given = absurd cc
    text_parts it (syntax.cast at name base) made solid is given = absurd cc
    text_parts it (syntax.binary first operator at second) made solid is given = absurd cc
    text_parts it (syntax.conditional test at taken otherwise) made solid is given = absurd cc
    text_parts it (syntax.assign target operator at second) made solid is given = absurd cc
    text_parts it (syntax.comma lefts last) made solid is given = absurd cc
