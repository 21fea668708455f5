-- Structs of types that agree, by where they come from (X3.159-1989 3.1.2.6, and own).
--     OriginsAre o complete m n a b    structs of one brace, or of two units, where they are not both complete
--     structs_are                   two structs that agree are one, or have such origins
--     struct_pair                   the structs of types that agree
use Rattle.std.proofs.Common.{◌≡◌, ◌≤◌, ◌⊎◌, inl, inr, ℕ, zero, suc, Bool, true, false, not, ◌&&◌, ◌||◌, slice_get, Option, Some, None, refl, sym, ap, subst, ◌∙◌, arith}
use Rattle.std.specs.Prelude.{◌==◌}
use Rattle.std.proofs.lemmas.Bool.Decides.{nat_tests}
use Rattle.hs_base.specs.Tests.{both_tests, either_test, same_number}
use Rattle.hs_expressions.specs.Laws.Braces.{same_braces}
use Rattle.hs_expressions.specs.Laws.Reached.{is_same}
use Rattle.hs_fitting.specs.Owned.{IsOwnRow}
use Rattle.hs_fitting.specs.Shapes.{AreOneOrObjects, within_objects}
use Rattle.hs_fitting.specs.Strict.{AreOneIn}
use Rattle.hs_operand_types.specs.Conversions.{same_type}
use Rattle.hs_operands.specs.Laws.Numbers.{same-is}
use Rattle.hs_operand_types.specs.Types.{inside_both, both_are}
use Rattle.hs_tree.specs.Kinds.{Category, category_of, category_of_row}
use Rattle.hs_typer.specs.Origins.{are_one_brace, stands_for, origins_agree, has_body, structs_agree, leaves_agree, objects_agree_within, objects_agree}
use Rattle.hs_typer.specs.declared.origins.Brace.{Brace}
use Rattle.hs_typer.specs.declared.origins.Origin.{Origin}
use Rattle.hs_typer.specs.declared.origins.Origins.{Origins}
use Rattle.hs_types.specs.TypeTables.{TypeTable, row_of, Grows}
use Rattle.hs_types.specs.declared.row.Row.{Row}
use Rattle.hs_types.specs.declared.row.Row.TheVariants as row
use Rattle.hs_types.specs.declared.row.TypeId.{TypeId}

-- two structs
struct_leaves : (test : TypeId → TypeId → Bool) (old : TypeTable) (o : Origins) (a b : TypeId) (m n : ℕ) (x y : Option Row)
    → row_of old a ≡ x → row_of old b ≡ y → x ≡ Some (row.Struct m) → y ≡ Some (row.Struct n)
    → (same_type a b || leaves_agree old o x y || both_are test (inside_both x y)) ≡ true → structs_agree old o m n ≡ true
struct_leaves test old o a b m n x y known known' at at' is =
    either (either_test (same_type a b || structs_agree old o m n) false
    (subst (λ y. (same_type a b || leaves_agree old o (Some (row.Struct m)) y || both_are test (inside_both (Some (row.Struct m)) y)) ≡ true) at'
    (subst (λ x. (same_type a b || leaves_agree old o x y || both_are test (inside_both x y)) ≡ true) at is)))
  where
    numbers : a ≡ b → structs_agree old o m n ≡ true
    numbers same =
        let one : Some (row.Struct m) ≡ Some (row.Struct n) = sym at ∙ sym known ∙ ap (row_of old) same ∙ known' ∙ at' in
        let equal : m ≡ n = cc in
        first (m == n) (is_same m n (m == n) refl equal)
      where
        first : (b : Bool) → b ≡ true → (b || origins_agree o (has_body old m && has_body old n) m n (slice_get o.structs m) (slice_get o.structs n)) ≡ true
        first true is = refl
        first false is = absurd cc

    inner : (same_type a b ≡ true) ⊎ (structs_agree old o m n ≡ true) → structs_agree old o m n ≡ true
    inner (inl same) = numbers (same-is a b same)
    inner (inr is) = is

    either : ((same_type a b || structs_agree old o m n) ≡ true) ⊎ (false ≡ true) → structs_agree old o m n ≡ true
    either (inl is) = inner (either_test (same_type a b) (structs_agree old o m n) is)
    either (inr is) = absurd cc

-- of types of objects
struct_objects : (old : TypeTable) (o : Origins) (a b : TypeId) (m n : ℕ) → row_of old a ≡ Some (row.Struct m) → row_of old b ≡ Some (row.Struct n)
    → objects_agree old o a b ≡ true → structs_agree old o m n ≡ true
struct_objects old o a b m n at at' is = within a.number is
  where
    only_same : same_type a b ≡ true → (same_type a b || leaves_agree old o (row_of old a) (row_of old b)
        || both_are (λ x y. false) (inside_both (row_of old a) (row_of old b))) ≡ true
    only_same is = subst (λ t. (t || leaves_agree old o (row_of old a) (row_of old b)
        || both_are (λ x y. false) (inside_both (row_of old a) (row_of old b))) ≡ true) (sym is) refl

    within : (count : ℕ) → objects_agree_within count old o a b ≡ true → structs_agree old o m n ≡ true
    within zero is = struct_leaves (λ x y. false) old o a b m n (row_of old a) (row_of old b) refl refl at at' (only_same is)
    within (suc count) is =
        struct_leaves (objects_agree_within count old o) old o a b m n (row_of old a) (row_of old b) refl refl at at' is

-- braces that are there
brace_there : (x y : Option Brace) → are_one_brace x y ≡ true → (brace : Brace) × (x ≡ Some brace) × (y ≡ Some brace)
brace_there None y is = absurd cc
brace_there (Some a) None is = absurd cc
brace_there (Some a) (Some b) is = (a, refl, ap Some (sym (same_braces a b is)))

-- what two origins that agree are
abbrev pub OriginsAre : Origins → Bool → ℕ → ℕ → Origin → Origin → Type 0
OriginsAre o complete m n a b =
    AreOneIn o m n ⊎ (((a.unit == b.unit) ≡ false) × (complete ≡ false))

-- of two origins that agree
origins_are : (o : Origins) (complete : Bool) (m n : ℕ) (a b : Origin) → slice_get o.structs m ≡ Some a → slice_get o.structs n ≡ Some b
    → origins_agree o complete m n (Some a) (Some b) ≡ true → OriginsAre o complete m n a b
origins_are o complete m n a b at at' is =
    either (either_test (are_one_brace a.brace b.brace) ((stands_for o m == stands_for o n) && not (a.unit == b.unit) && not complete) is)
  where
    not_true : (b : Bool) → not b ≡ true → b ≡ false
    not_true true is = absurd cc
    not_true false is = refl

    either : (are_one_brace a.brace b.brace ≡ true)
        ⊎ (((stands_for o m == stands_for o n) && not (a.unit == b.unit) && not complete) ≡ true) → OriginsAre o complete m n a b
    either (inl braces) =
        let one = brace_there a.brace b.brace braces in inl (inr (one.0, (a, at, one.1), (b, at', one.2)))
    either (inr others) =
        let tests = both_tests ((stands_for o m == stands_for o n) && not (a.unit == b.unit)) (not complete) others in
        inr
        (not_true (a.unit == b.unit) (both_tests (stands_for o m == stands_for o n) (not (a.unit == b.unit)) tests.0).1, not_true complete tests.1)

-- two structs that agree: one, or two origins
pub structs_are : (old : TypeTable) (o : Origins) (m n : ℕ) → structs_agree old o m n ≡ true
    → AreOneIn o m n ⊎ ((a : Origin) × (b : Origin) × (slice_get o.structs m ≡ Some a) × (slice_get o.structs n ≡ Some b)
    × OriginsAre o (has_body old m && has_body old n) m n a b)
structs_are old o m n is = either (either_test (m == n)
    (origins_agree o (has_body old m && has_body old n) m n (slice_get o.structs m) (slice_get o.structs n)) is)
  where
    by_origins : (x y : Option Origin) → slice_get o.structs m ≡ x → slice_get o.structs n ≡ y
        → origins_agree o (has_body old m && has_body old n) m n x y ≡ true
        → (a : Origin) × (b : Origin) × (slice_get o.structs m ≡ Some a) × (slice_get o.structs n ≡ Some b)
        × OriginsAre o (has_body old m && has_body old n) m n a b
    by_origins None y at at' is = absurd cc
    by_origins (Some a) None at at' is = absurd cc
    by_origins (Some a) (Some b) at at' is = (a, b, at, at', origins_are o (has_body old m && has_body old n) m n a b at at' is)

    either : ((m == n) ≡ true) ⊎ (origins_agree o (has_body old m && has_body old n) m n (slice_get o.structs m) (slice_get o.structs n) ≡ true)
        → AreOneIn o m n ⊎ ((a : Origin) × (b : Origin) × (slice_get o.structs m ≡ Some a) × (slice_get o.structs n ≡ Some b)
        × OriginsAre o (has_body old m && has_body old n) m n a b)
    either (inl same) = inl (inl (same_number m n same))
    either (inr is) = inr (by_origins (slice_get o.structs m) (slice_get o.structs n) refl refl is)

-- ---- in the program

-- a row is the one that was there
row_before : (old types : TypeTable) → Grows old types → (id : TypeId) (its : Category) (found : Row) → category_of old id ≡ Some its
    → row_of types id ≡ Some found → row_of old id ≡ Some found
row_before old types grows id its found kind at = by_row (row_of old id) refl kind
  where
    by_row : (o : Option Row) → row_of old id ≡ o → category_of_row o ≡ Some its → row_of old id ≡ Some found
    by_row None same is = absurd cc
    by_row (Some it) same is = let one : Some it ≡ Some found = sym (grows.rows id.number it same) ∙ at in same ∙ one

-- two structs of types that agree
pub struct_pair : (old types : TypeTable) (o : Origins) → Grows old types → (a b : TypeId) (m n : ℕ) → row_of types a ≡ Some (row.Struct m)
    → row_of types b ≡ Some (row.Struct n) → objects_agree old o a b ≡ true → (m ≡ n) ⊎ (structs_agree old o m n ≡ true)
struct_pair old types o grows a b m n at at' is = by_rows (within_objects old o a.number a b is)
  where
    one_struct : (o : Option Row) → o ≡ Some (row.Struct m) → o ≡ Some (row.Struct n) → m ≡ n
    one_struct o is is' = cc

    by_rows : AreOneOrObjects old a b → (m ≡ n) ⊎ (structs_agree old o m n ≡ true)
    by_rows (inl same) = inl (one_struct (row_of types b) (sym (ap (row_of types) same) ∙ at) at')
    by_rows (inr (its, kind, kind', no_function)) =
        inr
        (struct_objects old o a b m n (row_before old types grows a its (row.Struct m) kind at)
        (row_before old types grows b its (row.Struct n) kind' at') is)

-- a struct of this unit has no number of an earlier one
pub one_struct_row : (base m : ℕ) (o : Option Row) (its : Row) → o ≡ Some its → o ≡ Some (row.Struct m) → IsOwnRow base its → base ≤ m
one_struct_row base m o its is is' own = let same : its ≡ row.Struct m = cc in subst (IsOwnRow base) same own

-- two units that are not one
pub one_unit : (a b c : ℕ) → (a == b) ≡ false → a ≡ c → b ≡ c → ⊥
one_unit a b c other same same' = absurd (grind (arith, nat_tests, other, same, same'))
