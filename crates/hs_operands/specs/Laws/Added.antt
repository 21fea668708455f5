-- A type that was put into a table is there under its number.
use Rattle.std.proofs.Common.{◌≡◌, ℕ, suc, ◌+◌, Bool, true, false, true≢false, not, cond, ◌||◌, List, [], ◌∷◌, ◌++◌, Some, refl, sym, ap, ◌∙◌, if◌then◌else◌, arith}
use Rattle.std.proofs.lemmas.Bool.Decides.{nat_tests}
use Rattle.std.specs.Prelude.{slice_get}
use Rattle.std.specs.List.{list_any, position_or_len}
use Rattle.hs_types.specs.TypeTables.{TypeTable, row_of, with_row, id_of}
use Rattle.hs_types.specs.contracts.integer.IntegerPartialEq.TheImpl as integer_eq
use Rattle.hs_types.specs.contracts.row.RowPartialEq.TheImpl as row_eq
use Rattle.hs_types.specs.declared.integer.Integer.{Integer}
use Rattle.hs_types.specs.declared.integer.Integer.TheVariants.{Char, SignedChar, UnsignedChar, Short, UnsignedShort, Int, UnsignedInt, Long, UnsignedLong}
use Rattle.hs_types.specs.declared.layout.Layout.{Layout}
use Rattle.hs_types.specs.declared.row.ListId.{ListId}
use Rattle.hs_types.specs.declared.row.Row.{Row}
use Rattle.hs_types.specs.declared.row.Row.TheVariants as row
use Rattle.hs_types.specs.declared.row.TypeId.{TypeId}

-- two kinds of integers that compare as equal are one
same_kind : (a b : Integer) → (integer_eq.ghosts).eq a b ≡ true → b ≡ a
same_kind Char Char same = refl
same_kind SignedChar SignedChar same = refl
same_kind UnsignedChar UnsignedChar same = refl
same_kind Short Short same = refl
same_kind UnsignedShort UnsignedShort same = refl
same_kind Int Int same = refl
same_kind UnsignedInt UnsignedInt same = refl
same_kind Long Long same = refl
same_kind UnsignedLong UnsignedLong same = refl
same_kind _ _ same = absurd (true≢false (sym same))

-- and so are two rows
same_row : (a b : Row) → (row_eq.ghosts).eq a b ≡ true → b ≡ a
same_row row.Void row.Void same = refl
same_row (row.Integer a) (row.Integer b) same =
    let kinds : (integer_eq.ghosts).eq a b ≡ true = grind (arith, same) in
    ap row.Integer (same_kind a b kinds)
same_row (row.Pointer a) (row.Pointer b) same =
    let numbers : b.number ≡ a.number = grind (arith, nat_tests, same) in
    ap (λ n. let id : TypeId = record { number = n } in row.Pointer id) numbers
same_row (row.Enumeration a) (row.Enumeration b) same =
    let numbers : b ≡ a = grind (arith, nat_tests, same) in
    ap row.Enumeration numbers
same_row (row.Struct a) (row.Struct b) same =
    let numbers : b ≡ a = grind (arith, nat_tests, same) in
    ap row.Struct numbers
same_row (row.Array a length layout) (row.Array b other layout') same =
    let numbers : b.number ≡ a.number = grind (arith, nat_tests, same) in
    let lengths : other ≡ length = grind (arith, nat_tests, same) in
    let sizes : layout'.size ≡ layout.size = grind (arith, nat_tests, same) in
    let evens : layout'.even ≡ layout.even = grind (arith, nat_tests, same) in
    let characters : layout'.characters ≡ layout.characters = grind (arith, nat_tests, same) in
    λ i.
    let id : TypeId = record { number = numbers i } in
    let its : Layout = record { size = sizes i; even = evens i; characters = characters i } in
    row.Array id (lengths i) its
same_row (row.OpenArray a) (row.OpenArray b) same =
    let numbers : b.number ≡ a.number = grind (arith, nat_tests, same) in
    ap (λ n. let id : TypeId = record { number = n } in row.OpenArray id) numbers
same_row (row.Function a list) (row.Function b list') same =
    let numbers : b.number ≡ a.number = grind (arith, nat_tests, same) in
    let lists : list'.number ≡ list.number = grind (arith, nat_tests, same) in
    λ i.
    let id : TypeId = record { number = numbers i } in
    let its : ListId = record { number = lists i } in
    row.Function id its
same_row _ _ same = absurd (true≢false (sym same))

-- the first entry of a list either is the one that is looked for, or comes before it
first_if : {A : Type 0} → (here there : Bool) (x : A) (xs : List A) (y : A) (place : ℕ) → (here ≡ true → x ≡ y)
    → (here ≡ false → slice_get (if there then xs else xs ++ y ∷ []) place ≡ Some y)
    → slice_get (if there then x ∷ xs else x ∷ xs ++ y ∷ []) (cond (not here) (1 + place) 0) ≡ Some y
first_if true true x xs y place is later = ap Some (is refl)
first_if true false x xs y place is later = ap Some (is refl)
first_if false true x xs y place is later =
    let next : 1 + place ≡ suc place = omega arith in
    ap (slice_get (x ∷ xs)) next ∙ later refl
first_if false false x xs y place is later =
    let next : 1 + place ≡ suc place = omega arith in
    ap (slice_get (x ∷ xs ++ y ∷ [])) next ∙ later refl

-- If a test is met by one value alone, it is met first by that value, once the value is put at the end of a list that lacks it.
pub found_if : {A : Type 0} → (there : Bool) (test : A → Bool) (xs : List A) (y : A) → ((x : A) → test x ≡ true → x ≡ y)
    → list_any test xs ≡ there → slice_get (if there then xs else xs ++ y ∷ []) (position_or_len test xs) ≡ Some y
found_if true test [] y only is = absurd cc
found_if false test [] y only is = refl
found_if there test (x ∷ xs) y only is =
    first_if (test x) there x xs y (position_or_len test xs) (only x)
    (λ other. found_if there test xs y only (sym (ap (λ here. here || list_any test xs) other) ∙ is))

-- The row that was put in has the number that is given for it.
pub row_found : (row : Row) (types : TypeTable) → row_of (with_row row types) (id_of row types) ≡ Some row
row_found row types =
    found_if (list_any ((row_eq.ghosts).eq row) types.rows) ((row_eq.ghosts).eq row) types.rows row (same_row row) refl
