-- Types that are one: of one category, and of one struct if both have their bodies (X3.159-1989 3.1.2.6, and own).
--     HasBody types number          the struct has its body
--     one_intro, one_elim           what is so of two structs with their bodies
--     one_whole                     types that are the same if one is complete
use Rattle.std.proofs.Common.{◌≡◌, ℕ, Bool, true, false, Option, Some, None, is_some, refl, sym, ap, subst, ◌∙◌, if◌then◌else◌}
use Rattle.std.specs.Prelude.{option_map}
use Rattle.hs_tree.specs.Kinds.{AreAlike}
use Rattle.hs_tree.specs.Representatives.{struct_for}
use Rattle.hs_tree.specs.Sameness.{whole_struct, AreSameIfBoth, AreOne}
use Rattle.hs_tree.specs.declared.representatives.Representatives.{Representatives}
use Rattle.hs_types.specs.TypeTables.{TypeTable, row_of, body_of, layout_in, is_complete}
use Rattle.hs_types.specs.declared.body.Body.{Body}
use Rattle.hs_types.specs.declared.row.Row.{Row}
use Rattle.hs_types.specs.declared.row.Row.TheVariants as row
use Rattle.hs_types.specs.declared.row.TypeId.{TypeId}

-- the struct has its body
abbrev pub HasBody : TypeTable → ℕ → Type 0
HasBody types number = is_some (body_of types number) ≡ true

module _ (same : Representatives) (types : TypeTable) where
  -- two structs with their bodies are one
  abbrev pub AreOneStruct : Option Row → Option Row → Type 0
  AreOneStruct x y = (m n : ℕ) → x ≡ Some (row.Struct m) → y ≡ Some (row.Struct n) → HasBody types m → HasBody types n
      → struct_for same m ≡ struct_for same n

  -- a struct and another type
  with_other : (m : ℕ) (y : Option Row) → ((n : ℕ) → y ≡ Some (row.Struct n) → HasBody types n → struct_for same m ≡ struct_for same n)
      → AreSameIfBoth (Some (struct_for same m)) (whole_struct same types y)
  with_other m None are = tt
  with_other m (Some row.Void) are = tt
  with_other m (Some (row.Integer kind)) are = tt
  with_other m (Some (row.Pointer of)) are = tt
  with_other m (Some (row.Enumeration number)) are = tt
  with_other m (Some (row.Struct n)) are = by_body (is_some (body_of types n)) refl
    where
      by_body : (b : Bool) → is_some (body_of types n) ≡ b
          → AreSameIfBoth (Some (struct_for same m)) (if b then Some (struct_for same n) else None)
      by_body true has = are n refl has
      by_body false has = tt
  with_other m (Some (row.Array of length layout)) are = tt
  with_other m (Some (row.OpenArray of)) are = tt
  with_other m (Some (row.Function result list)) are = tt

  -- two types
  rows_one : (x y : Option Row) → AreOneStruct x y → AreSameIfBoth (whole_struct same types x) (whole_struct same types y)
  rows_one None y are = tt
  rows_one (Some row.Void) y are = tt
  rows_one (Some (row.Integer kind)) y are = tt
  rows_one (Some (row.Pointer of)) y are = tt
  rows_one (Some (row.Enumeration number)) y are = tt
  rows_one (Some (row.Struct m)) y are = by_body (is_some (body_of types m)) refl
    where
      by_body : (b : Bool) → is_some (body_of types m) ≡ b
          → AreSameIfBoth (if b then Some (struct_for same m) else None) (whole_struct same types y)
      by_body true has = with_other m y (λ n at has'. are m n refl at has has')
      by_body false has = tt
  rows_one (Some (row.Array of length layout)) y are = tt
  rows_one (Some (row.OpenArray of)) y are = tt
  rows_one (Some (row.Function result list)) y are = tt

  -- What is so of two structs with their bodies is enough.
  pub one_intro : (a b : TypeId) → AreAlike types a b → AreOneStruct (row_of types a) (row_of types b) → AreOne same types a b
  one_intro a b alike are = (alike, rows_one (row_of types a) (row_of types b) are)

  -- a struct that has its body
  whole_is : (x : Option Row) (m : ℕ) → x ≡ Some (row.Struct m) → HasBody types m → whole_struct same types x ≡ Some (struct_for same m)
  whole_is x m at has = ap (whole_struct same types) at ∙ if_true (is_some (body_of types m)) has
    where
      if_true : (b : Bool) → b ≡ true → (if b then Some (struct_for same m) else None) ≡ Some (struct_for same m)
      if_true true is = refl
      if_true false is = absurd cc

  -- And it is so.
  pub one_elim : (a b : TypeId) → AreOne same types a b → AreOneStruct (row_of types a) (row_of types b)
  one_elim a b one m n at at' has has' =
      subst (λ o. AreSameIfBoth o (Some (struct_for same n))) (whole_is (row_of types a) m at has)
      (subst (AreSameIfBoth (whole_struct same types (row_of types a))) (whole_is (row_of types b) n at' has') one.1)

-- a struct with its body is complete
struct_complete : (types : TypeTable) (id : TypeId) (n : ℕ) → row_of types id ≡ Some (row.Struct n) → HasBody types n → is_complete types id ≡ true
struct_complete types id n at has =
    ap (λ o. is_some (layout_in types o)) at ∙ by_body (body_of types n) has
  where
    by_body : (o : Option Body) → is_some o ≡ true → is_some (option_map (λ body. body.layout) o) ≡ true
    by_body None is = absurd cc
    by_body (Some body) is = refl

-- one row has one number
pub one_number : (o : Option Row) (m n : ℕ) → o ≡ Some (row.Struct m) → o ≡ Some (row.Struct n) → m ≡ n
one_number o m n is is' = cc

-- Types of one category that are the same if one of them is complete are one.
pub one_whole : (same : Representatives) (types : TypeTable) (a b : TypeId) → AreAlike types a b → (is_complete types b ≡ true → a ≡ b)
    → AreOne same types a b
one_whole same types a b alike whole =
    one_intro same types a b alike
    (λ m n at at' has has'.
    ap (struct_for same)
    (one_number (row_of types b) m n (sym (ap (row_of types) (whole (struct_complete types b n at' has'))) ∙ at) at'))
