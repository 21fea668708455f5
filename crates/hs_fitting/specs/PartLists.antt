-- Lists of constants for scalars of an object, at ascending bytes.
--     IsPart program holds part       a constant for a scalar of the object
--     AreParts program holds low high its       constants for scalars between two bytes, in their order
--     no_parts, one_part, parts_then  none, one, and some after others
--     characters_parts                the characters of a string
--     scalar_later                    a scalar of a complete object stays one as the table grows
--     complete_parts, counted_parts   what the program keeps of the parts of a complete object, and of an array that gets its length
use Rattle.std.proofs.Common.{◌≡◌, ◌≤◌, ◌<◌, ◌+◌, ◌*◌, ℕ, suc, Bool, true, false, ◌&&◌, List, [], ◌∷◌, ◌++◌, length, Option, Some, None, refl, ap, sym, subst, ◌∙◌, arith}
use Rattle.std.proofs.lemmas.Bool.Decides.{nat_tests}
use Rattle.std.proofs.lemmas.Nat.{mul-le}
use Rattle.std.specs.List.{AllByRecursion}
use Rattle.std.specs.Prelude.{nat_lt, IsTrue, is_some, option_map}
use Rattle.hs_base.specs.Tests.{both_true, second_test}
use Rattle.hs_base.specs.Entries.{all_appended, all_so}
use Rattle.hs_fitting.specs.ConstantNumbers.{converted_in_kind}
use Rattle.hs_fitting.specs.Fields.{FieldThere, field_there}
use Rattle.hs_fitting.specs.Moves.{IsWhole}
use Rattle.hs_fitting.specs.Scalars.{Scalars, whole_solid}
use Rattle.hs_fitting.specs.Staying.{size_stays, field_stays, scalar_stays, element_whole}
use Rattle.hs_initialisers.specs.Initialisers.{characters}
use Rattle.hs_operands.specs.Laws.Stays.{is_scalar-stays}
use Rattle.hs_tree.specs.Kinds.{IsScalar, IsStruct, IsNumber}
use Rattle.hs_tree.specs.Objects as object
use Rattle.hs_tree.specs.Objects.{field_of, IsConstant, IsFieldOf, IsField, IsScalarAt, FitsPart, FitsParts, offsets_ascend}
use Rattle.hs_tree.specs.Trees.{TypedProgram}
use Rattle.hs_tree.specs.declared.constant.Constant.TheVariants as constant
use Rattle.hs_tree.specs.declared.constant.Part.{Part}
use Rattle.hs_types.specs.Integers.{converted}
use Rattle.hs_types.specs.TypeTables.{TypeTable, row_of, body_of, layout_in, layout_of, size_of, IsRight, Grows}
use Rattle.hs_types.specs.declared.integer.Integer.{Integer}
use Rattle.hs_types.specs.declared.body.Field.{Field}
use Rattle.hs_types.specs.declared.layout.Layout.{Layout}
use Rattle.hs_types.specs.declared.row.FieldId.{FieldId}
use Rattle.hs_types.specs.declared.row.Row.TheVariants as row
use Rattle.hs_types.specs.declared.row.TypeId.{TypeId}

-- a constant for one of these scalars
abbrev pub IsPart : TypedProgram → Scalars → Part → Type 0
IsPart program holds part = holds part.offset part.type_id part.field × IsConstant program part.type_id part.value

-- between two bytes
abbrev pub IsBetween : ℕ → ℕ → Part → Type 0
IsBetween low high part = (low ≤ part.offset) × (part.offset < high)

-- constants for scalars between two bytes, in their order
pub record AreParts (program : TypedProgram) (holds : Scalars) (low high : ℕ) (its : List Part) : Type 0 where
  pub each : AllByRecursion (IsPart program holds) its
  pub between : AllByRecursion (IsBetween low high) its
  pub ascend : IsTrue (offsets_ascend its)

-- before another number
is_less : (n m : ℕ) → n < m → nat_lt n m ≡ true
is_less n m is = grind (arith, nat_tests, is)

-- those that come first are before a byte, and the others are not
ascend_then : (mid low high : ℕ) (xs ys : List Part) → AllByRecursion (IsBetween low mid) xs → AllByRecursion (IsBetween mid high) ys
    → offsets_ascend xs ≡ true → offsets_ascend ys ≡ true → offsets_ascend (xs ++ ys) ≡ true
ascend_then mid low high [] ys before after is is' = is'
ascend_then mid low high (x ∷ []) [] before after is is' = refl
ascend_then mid low high (x ∷ []) (y ∷ ys) before after is is' =
    both_true (nat_lt x.offset y.offset) (offsets_ascend (y ∷ ys)) (is_less x.offset y.offset (omega (arith, before.0.1, after.0.0))) is'
ascend_then mid low high (x ∷ next ∷ xs) ys before after is is' =
    rest (nat_lt x.offset next.offset) is
    (ascend_then mid low high (next ∷ xs) ys before.1 after (second_test (nat_lt x.offset next.offset) (offsets_ascend (next ∷ xs)) is) is')
  where
    rest : (b : Bool) → (b && offsets_ascend (next ∷ xs)) ≡ true → offsets_ascend (next ∷ xs ++ ys) ≡ true
        → (b && offsets_ascend (next ∷ xs ++ ys)) ≡ true
    rest true both later = later
    rest false both later = absurd cc

module _ (program : TypedProgram) (holds : Scalars) where
  -- none
  pub no_parts : (low high : ℕ) → AreParts program holds low high []
  no_parts low high = record { each = tt; between = tt; ascend = refl }

  -- one
  pub one_part : (low high : ℕ) (part : Part) → IsPart program holds part → low ≤ part.offset → part.offset < high
      → AreParts program holds low high (part ∷ [])
  one_part low high part is from until = record { each = (is, tt); between = ((from, until), tt); ascend = refl }

  -- some after others
  pub parts_then : (low mid next high : ℕ) (xs ys : List Part) → low ≤ mid → mid ≤ next → next ≤ high → AreParts program holds low mid xs
      → AreParts program holds next high ys → AreParts program holds low high (xs ++ ys)
  parts_then low mid next high xs ys first then last before after =
      record {
        each = all_appended (IsPart program holds) xs ys before.each after.each;
        between = all_appended (IsBetween low high) xs ys
            (all_so (IsBetween low mid) (IsBetween low high) (λ part is. (is.0, less (is.1) (omega (arith, then, last)))) xs before.between)
            (all_so (IsBetween next high) (IsBetween low high) (λ part is. (least (omega (arith, first, then)) is.0, is.1)) ys after.between);
        ascend = ascend_then mid low high xs ys before.between
            (all_so (IsBetween next high) (IsBetween mid high) (λ part is. (least then is.0, is.1)) ys after.between) before.ascend after.ascend;
      }
    where
      less : {n a b : ℕ} → n < a → a ≤ b → n < b
      less is is' = omega (arith, is, is')

      least : {a b n : ℕ} → a ≤ b → b ≤ n → a ≤ n
      least is is' = omega (arith, is, is')

  -- with a later end
  pub parts_until : (low mid high : ℕ) (its : List Part) → mid ≤ high → AreParts program holds low mid its → AreParts program holds low high its
  parts_until low mid high its further are =
      record {
        each = are.each;
        between = all_so (IsBetween low mid) (IsBetween low high) (λ part is. (is.0, less is.1 further)) its are.between;
        ascend = are.ascend;
      }
    where
      less : {n a b : ℕ} → n < a → a ≤ b → n < b
      less is is' = omega (arith, is, is')

  -- the characters of a string, one byte each
  pub characters_parts : (its : Integer) (id : TypeId) → IsNumber program.types its id → (bytes : List ℕ) (offset : ℕ)
      → ((place : ℕ) → place < length bytes → holds (offset + place) id None)
      → AreParts program holds offset (offset + length bytes) (characters its id offset bytes)
  characters_parts its id known [] offset there = no_parts offset (offset + 0)
  characters_parts its id known (byte ∷ bytes) offset there =
      let first : Part = record { offset = offset; type_id = id; field = None; value = constant.Number (converted its byte) } in
      let start : offset + 0 ≡ offset = omega arith in
      let here : holds offset id None = subst (λ n. holds n id None) start (there 0 (omega arith)) in
      parts_then offset (suc offset) (suc offset) (offset + length (byte ∷ bytes)) (first ∷ []) (characters its id (suc offset) bytes)
      (omega arith) (omega arith) (omega arith)
      (one_part offset (suc offset) first (here, converted_in_kind program its id byte known) (omega arith) (omega arith))
      (parts_until (suc offset) (suc offset + length bytes) (offset + length (byte ∷ bytes)) (characters its id (suc offset) bytes) (omega arith)
      (characters_parts its id known bytes (suc offset)
      (λ place under.
      let same : offset + suc place ≡ suc offset + place = omega arith in
      subst (λ n. holds n id None) same (there (suc place) (omega (arith, under))))))

-- ---- in the program

module _ (types : TypeTable) (right : IsRight types) (later : TypeTable) (grows : Grows types later) where
  no_scalar_later : (id : TypeId) → IsWhole types id → ¬ IsScalar types id → ¬ IsScalar later id
  no_scalar_later id whole other is = other (sym (scalar_stays types right later grows id (whole_solid types id whole)) ∙ is)

  -- a field of a complete struct, as it was
  named_later : (id : TypeId) (field : FieldId) (offset : ℕ) (its : TypeId) → IsWhole types id → IsStruct types field.of id
      → IsField types field offset its → IsField later field offset its
  named_later id field offset its whole struct named =
      let body : is_some (option_map (λ body. body.layout) (body_of types field.of)) ≡ true =
      subst (λ o. is_some (layout_in types o) ≡ true) struct whole in
      subst (λ o. IsFieldOf o offset its) (sym (field_stays types right later grows field body)) named

  field_whole : (field : FieldId) (offset : ℕ) (its : TypeId) (o : Option Field) → field_of types field ≡ o → IsFieldOf o offset its
      → IsWhole types its
  field_whole field offset its None same named = absurd named
  field_whole field offset its (Some it) same named =
      let there : FieldThere types field.of field.place it = field_there types field it right same in
      let layout : layout_of types it.type_id ≡ Some it.layout = there.right.fields field.place it there.at in
      let whole : IsWhole types it.type_id = rw layout refl in
      subst (IsWhole types) named.1 whole

  -- a scalar of a complete object stays one
  pub scalar_later : (id scalar : TypeId) (offset : ℕ) (field : Option FieldId) → IsWhole types id → IsScalarAt types id offset scalar field
      → IsScalarAt later id offset scalar field
  scalar_later id _ _ _ whole (object.itself _ is) =
      object.itself id (scalar_stays types right later grows id (whole_solid types id whole) ∙ is)
  scalar_later id scalar _ field whole (object.in_array _ of _ count place offset layout _ same under there) =
      let elements : IsWhole types of = element_whole types right later grows id of (whole_solid types id whole) (rw same refl) in
      let size : size_of later of ≡ size_of types of = size_stays types right later grows of elements in
      subst (λ n. IsScalarAt later id (place * n + offset) scalar field) size
      (object.in_array id of scalar count place offset layout field (grows.rows id.number (row.Array of count layout) same) under
      (scalar_later of scalar offset field elements there))
  scalar_later id _ _ _ whole (object.is_field _ scalar field offset struct named is) =
      object.is_field id scalar field offset (grows.rows id.number (row.Struct field.of) struct) (named_later id field offset scalar whole struct named)
      (is_scalar-stays types later grows scalar is)
  scalar_later id _ _ _ whole (object.in_field _ of scalar field first offset inner struct named other there) =
      let inside : IsWhole types of = field_whole field first of (field_of types field) refl named in
      object.in_field id of scalar field first offset inner (grows.rows id.number (row.Struct field.of) struct)
      (named_later id field first of whole struct named) (no_scalar_later of inside other) (scalar_later of scalar offset inner inside there)

-- ---- what the program keeps of the parts

-- of a complete object
pub complete_parts : (program : TypedProgram) (types : TypeTable) → IsRight types → Grows types program.types → (id : TypeId) → IsWhole types id
    → (low high : ℕ) (its : List Part) → AreParts program (IsScalarAt types id) low high its → FitsParts program id its
complete_parts program types right grows id whole low high its are = (
  all_so (IsPart program (IsScalarAt types id)) (FitsPart program id)
      (λ part is. (scalar_later types right program.types grows id part.type_id part.offset part.field whole is.0, is.1)) its are.each,
  are.ascend,
)

-- the scalars of the elements of an array whose length is not known
abbrev pub InElements : TypeTable → TypeId → Scalars
InElements types of offset scalar field =
    (place : ℕ) × ((inner : ℕ) × ((place * size_of types of + inner ≡ offset) × IsScalarAt types of inner scalar field))

-- before the end, they are in as many elements
in_count : (size count place inner offset : ℕ) → place * size + inner ≡ offset → offset < count * size → place < count
in_count size count place inner offset same under = by (nat_lt place count) refl
  where
    by : (b : Bool) → nat_lt place count ≡ b → place < count
    by true is = grind (arith, nat_tests, is)
    by false is =
        let after : count ≤ place = grind (arith, nat_tests, is) in
        absurd (omega (arith, same, under, mul-le count size place size after (omega arith)))

-- of an array that has its length then
pub counted_parts : (program : TypedProgram) (types : TypeTable) → IsRight types → Grows types program.types → (id of : TypeId) (count : ℕ)
    (layout : Layout) → IsWhole types of → row_of program.types id ≡ Some (row.Array of count layout) → (low : ℕ) (its : List Part)
    → AreParts program (InElements types of) low (count * size_of types of) its → FitsParts program id its
counted_parts program types right grows id of count layout whole same low its are = (each its are.each are.between, are.ascend)
  where
    size : size_of program.types of ≡ size_of types of
    size = size_stays types right program.types grows of whole

    one : (part : Part) → IsPart program (InElements types of) part → IsBetween low (count * size_of types of) part → FitsPart program id part
    one part is between =
        let place : ℕ = is.0.0 in
        let inner : ℕ = is.0.1.0 in
        let bytes : place * size_of types of + inner ≡ part.offset = is.0.1.1.0 in
        let under : place < count = in_count (size_of types of) count place inner part.offset bytes between.1 in
        let there : IsScalarAt program.types of inner part.type_id part.field =
        scalar_later types right program.types grows of part.type_id inner part.field whole is.0.1.1.1 in
        let at : IsScalarAt program.types id (place * size_of program.types of + inner) part.type_id part.field =
        object.in_array id of part.type_id count place inner layout part.field same under there in
        let same_byte : place * size_of program.types of + inner ≡ part.offset = ap (λ n. place * n + inner) size ∙ bytes in
        (subst (λ n. IsScalarAt program.types id n part.type_id part.field) same_byte at, is.1)

    each : (its : List Part) → AllByRecursion (IsPart program (InElements types of)) its
        → AllByRecursion (IsBetween low (count * size_of types of)) its → AllByRecursion (FitsPart program id) its
    each [] are between = tt
    each (part ∷ its) are between = (one part are.0 between.0, each its are.1 between.1)
