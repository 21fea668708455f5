-- What is known of a type in a table is known of it in each table that grew from it.
use Rattle.std.proofs.Common.{◌≡◌, ℕ, Bool, true, false, ◌&&◌, ◌||◌, Option, Some, None, refl, ap, ◌∙◌, arith}
use Rattle.std.specs.Prelude.{is_some}
use Rattle.hs_tree.specs.Kinds.{kind_of_row, number_kind, pointed_of_row, pointed, element_of_row, element, is_struct_row, is_void_row, size_in, size_at, is_number, is_pointer, is_scalar, is_void, is_readable}
use Rattle.hs_types.specs.Growing.{layout_stays}
use Rattle.hs_types.specs.TypeTables.{TypeTable, row_of, layout_of, Grows}
use Rattle.hs_types.specs.declared.integer.Integer.{Integer}
use Rattle.hs_types.specs.declared.row.TypeId.{TypeId}

-- What is read of an option stays if the option does, unless it is what is read of none.
stays : {A B : Type 0} → (read : Option A → B) (old new : Option A) (what : B) → ¬ (read None ≡ what)
    → ((it : A) → old ≡ Some it → new ≡ Some it) → read old ≡ what → read new ≡ what
stays read None new what other keeps known = absurd (other known)
stays read (Some it) new what other keeps known = ap read (keeps it refl) ∙ known

-- A test of one fact, or of two others, is still met if each fact stays.
either_stays : (a b c a' b' c' : Bool) → (a ≡ true → a' ≡ true) → (b ≡ true → b' ≡ true) → (c ≡ true → c' ≡ true)
    → (a || (b && c)) ≡ true → (a' || (b' && c')) ≡ true
either_stays true b c a' b' c' first second third known = rw (first refl) refl
either_stays false true true a' b' c' first second third known = grind (arith, second refl, third refl)
either_stays false true false a' b' c' first second third known = absurd cc
either_stays false false c a' b' c' first second third known = absurd cc

module _ (old new : TypeTable) (grows : Grows old new) where
  -- the kind of a number
  pub number_kind-stays : (id : TypeId) (its : Integer) → number_kind old id ≡ Some its → number_kind new id ≡ Some its
  number_kind-stays id its = stays kind_of_row (row_of old id) (row_of new id) (Some its) (λ none. cc) (grows.rows id.number)

  -- what a pointer points to
  pub pointed-stays : (id of : TypeId) → pointed old id ≡ Some of → pointed new id ≡ Some of
  pointed-stays id of = stays pointed_of_row (row_of old id) (row_of new id) (Some of) (λ none. cc) (grows.rows id.number)

  -- what an array is made of
  pub element-stays : (id of : TypeId) → element old id ≡ Some of → element new id ≡ Some of
  element-stays id of = stays element_of_row (row_of old id) (row_of new id) (Some of) (λ none. cc) (grows.rows id.number)

  -- any number
  pub is_number-stays : (id : TypeId) → is_number old id ≡ true → is_number new id ≡ true
  is_number-stays id = stays (λ its. is_some (kind_of_row its)) (row_of old id) (row_of new id) true (λ none. cc) (grows.rows id.number)

  -- a pointer
  pub is_pointer-stays : (id : TypeId) → is_pointer old id ≡ true → is_pointer new id ≡ true
  is_pointer-stays id = stays (λ its. is_some (pointed_of_row its)) (row_of old id) (row_of new id) true (λ none. cc) (grows.rows id.number)

  -- a number or a pointer
  pub is_scalar-stays : (id : TypeId) → is_scalar old id ≡ true → is_scalar new id ≡ true
  is_scalar-stays id = stays (λ its. is_some (kind_of_row its) || is_some (pointed_of_row its)) (row_of old id) (row_of new id) true (λ none. cc)
      (grows.rows id.number)

  -- void
  pub is_void-stays : (id : TypeId) → is_void old id ≡ true → is_void new id ≡ true
  is_void-stays id = stays is_void_row (row_of old id) (row_of new id) true (λ none. cc) (grows.rows id.number)

  is_struct-stays : (id : TypeId) → is_struct_row (row_of old id) ≡ true → is_struct_row (row_of new id) ≡ true
  is_struct-stays id = stays is_struct_row (row_of old id) (row_of new id) true (λ none. cc) (grows.rows id.number)

  is_complete-stays : (id : TypeId) → is_some (layout_of old id) ≡ true → is_some (layout_of new id) ≡ true
  is_complete-stays id = stays is_some (layout_of old id) (layout_of new id) true (λ none. cc) (λ layout. layout_stays old new id layout grows)

  -- a scalar, or a complete struct
  pub is_readable-stays : (id : TypeId) → is_readable old id ≡ true → is_readable new id ≡ true
  is_readable-stays id =
      either_stays (is_scalar old id) (is_struct_row (row_of old id)) (is_some (layout_of old id)) (is_scalar new id)
      (is_struct_row (row_of new id)) (is_some (layout_of new id)) (is_scalar-stays id) (is_struct-stays id) (is_complete-stays id)

  -- the size of a type that there is
  size_at-stays : (its now : Option TypeId) (size : ℕ) → ((of : TypeId) → its ≡ Some of → now ≡ Some of) → size_at old its ≡ Some size
      → size_at new now ≡ Some size
  size_at-stays None now size keeps known = absurd cc
  size_at-stays (Some of) now size keeps known =
      ap (size_at new) (keeps of refl) ∙
      stays size_in (layout_of old of) (layout_of new of) (Some size) (λ none. cc) (λ layout. layout_stays old new of layout grows) known

  -- the size of what a pointer points to
  pub pointed_size-stays : (id : TypeId) (size : ℕ) → size_at old (pointed old id) ≡ Some size → size_at new (pointed new id) ≡ Some size
  pointed_size-stays id size = size_at-stays (pointed old id) (pointed new id) size (pointed-stays id)
