-- Compatible types have one shape: the same category, and of functions the same categories of results and of parameters
-- (X3.159-1989 3.1.2.6).
--     SameShape types one other          what two declarations of one object or function have in common
--     shape_self, shape_turned, shape_then      it relates each type to itself, both ways, and across a third type
--     same_list, same_signature          two readings of one list of parameters, or of one type, are the same
--     agree_same_category, agree_shape   types that agree are of one category, and have one shape
--     composite_shape                    so has the type that two declarations make together
--     agree_signed                       the list of parameters of a function type that agrees with itself ends
use Rattle.std.proofs.Common.{◌≡◌, ◌≤◌, ◌⊎◌, inl, inr, ℕ, zero, suc, Bool, true, false, List, [], ◌∷◌, length, slice_get, Option, Some, None, refl, sym, ap, subst, ◌∙◌, if◌then◌else◌, arith}
use Rattle.std.specs.Prelude.{◌&&◌, ◌||◌}
use Rattle.hs_base.specs.Tests.{both_tests, either_test}
use Rattle.hs_expressions.specs.Binding.{IsList, IsSignature, AllAlike, IsLike}
use Rattle.hs_expressions.specs.Binding.Calls.{end_or_more, same_first, same_others, same_result, same_parameters}
use Rattle.hs_fitting.specs.Listed.{list_stays}
use Rattle.hs_linkage.specs.Linkage.{composite}
use Rattle.hs_operand_types.specs.Conversions.{same_type}
use Rattle.hs_operands.specs.Laws.Numbers.{same-is}
use Rattle.hs_operand_types.specs.Types.{is_open, is_int, inside_both, both_are}
use Rattle.hs_tree.specs.Kinds.{Category, of_number, of_pointer, of_struct, of_array, of_function, category_of_row, category_of, AreAlike}
use Rattle.hs_typer.specs.Origins.{leaves_agree, objects_agree_within, objects_agree, lists_agree_by, lists_agree_within, lists_agree, agree_by, agree}
use Rattle.hs_typer.specs.declared.origins.Origins.{Origins}
use Rattle.hs_types.specs.Growing.{grows_self}
use Rattle.hs_types.specs.TypeTables.{TypeTable, row_of, Grows}
use Rattle.hs_types.specs.declared.integer.Integer.{Integer}
use Rattle.hs_types.specs.declared.integer.Integer.TheVariants as kind
use Rattle.hs_types.specs.declared.row.ListId.{ListId}
use Rattle.hs_types.specs.declared.row.Parameters.{Parameters}
use Rattle.hs_types.specs.declared.row.Parameters.TheVariants.{Empty, More}
use Rattle.hs_types.specs.declared.row.Row.{Row}
use Rattle.hs_types.specs.declared.row.Row.TheVariants as row
use Rattle.hs_types.specs.declared.row.TypeId.{TypeId}

-- What two declarations of one object or function have in common: the category of their types, and of functions those of the results and of the
-- parameters.
pub record SameShape (types : TypeTable) (one other : TypeId) : Type 0 where
  pub category : AreAlike types one other
  pub there : (its : List TypeId) (gives : TypeId) → IsSignature types one its gives → IsLike types types other its gives
  pub back : (its : List TypeId) (gives : TypeId) → IsSignature types other its gives → IsLike types types one its gives

-- ---- lists of types of the same categories

module _ (types : TypeTable) where
  -- each is like itself
  all_alike_self : (its : List TypeId) → AllAlike types its its
  all_alike_self [] = tt
  all_alike_self (id ∷ ids) = (refl, all_alike_self ids)

  -- and the other way around
  all_alike_turned : (its others : List TypeId) → AllAlike types its others → AllAlike types others its
  all_alike_turned [] [] are = tt
  all_alike_turned [] (other ∷ others) are = absurd are
  all_alike_turned (id ∷ ids) [] are = absurd are
  all_alike_turned (id ∷ ids) (other ∷ others) are = (sym are.0, all_alike_turned ids others are.1)

  -- and like a third one
  pub all_alike_then : (its others thirds : List TypeId) → AllAlike types its others → AllAlike types others thirds → AllAlike types its thirds
  all_alike_then [] [] thirds are are' = are'
  all_alike_then [] (other ∷ others) thirds are are' = absurd are
  all_alike_then (id ∷ ids) [] thirds are are' = absurd are
  all_alike_then (id ∷ ids) (other ∷ others) [] are are' = absurd are'
  all_alike_then (id ∷ ids) (other ∷ others) (third ∷ thirds) are are' =
      (are.0 ∙ are'.0, all_alike_then ids others thirds are.1 are'.1)

  -- ---- one shape

  -- a type has the shape of itself
  self_like : (id : TypeId) (its : List TypeId) (gives : TypeId) → IsSignature types id its gives → IsLike types types id its gives
  self_like id its gives is = (its, (gives, is, all_alike_self its, refl))

  -- so it is
  pub shape_self : (id : TypeId) → SameShape types id id
  shape_self id = record { category = refl; there = self_like id; back = self_like id }

  -- two types that are one
  pub shape_same : (a b : TypeId) → a ≡ b → SameShape types a b
  shape_same a b same = subst (SameShape types a) same (shape_self a)

  -- the other way around
  pub shape_turned : (a b : TypeId) → SameShape types a b → SameShape types b a
  shape_turned a b shape = record { category = sym shape.category; there = shape.back; back = shape.there }

  -- across a third type
  like_then : (b c : TypeId) (its : List TypeId) (gives : TypeId)
      → ((its : List TypeId) (gives : TypeId) → IsSignature types b its gives → IsLike types types c its gives) → IsLike types types b its gives
      → IsLike types types c its gives
  like_then b c its gives next like =
      let onward : IsLike types types c like.0 like.1.0 = next like.0 like.1.0 like.1.1 in
      (onward.0, (onward.1.0, onward.1.1, all_alike_then onward.0 like.0 its onward.1.2 like.1.2, onward.1.3 ∙ like.1.3))

  -- one shape after another
  pub shape_then : (a b c : TypeId) → SameShape types a b → SameShape types b c → SameShape types a c
  shape_then a b c first second =
      record {
        category = first.category ∙ second.category;
        there = λ its gives is. like_then b c its gives second.there (first.there its gives is);
        back = λ its gives is. like_then b a its gives first.back (second.back its gives is);
      }

  -- the type that two declarations make together has the shape of each
  composite_if : (test : Bool) (old new : TypeId) → SameShape types old new
      → SameShape types (if test then new else old) old × SameShape types (if test then new else old) new
  composite_if true old new shape = (shape_turned old new shape, shape_self new)
  composite_if false old new shape = (shape_self old, shape)

  -- by what is known of the length
  pub composite_shape : (within : TypeTable) (old new : TypeId) → SameShape types old new
      → SameShape types (composite within old new) old × SameShape types (composite within old new) new
  composite_shape within old new shape = composite_if (is_open within old) old new shape

-- ---- two readings of one list and of one type

-- two lists of equal parts
same_cons : (a b : TypeId) (xs ys : List TypeId) → a ≡ b → xs ≡ ys → a ∷ xs ≡ b ∷ ys
same_cons a b xs ys first rest = ap (λ it. it ∷ xs) first ∙ ap (λ its. b ∷ its) rest

module _ (types : TypeTable) where
  -- two readings of a list
  pub same_list : (list : ListId) (its others : List TypeId) → IsList types list its → IsList types list others → its ≡ others
  same_list list [] [] is is' = refl
  same_list list [] (other ∷ others) is is' = absurd (end_or_more (slice_get types.lists list.number) other is'.0 is is'.1)
  same_list list (id ∷ ids) [] is is' = absurd (end_or_more (slice_get types.lists list.number) id is.0 is' is.1)
  same_list list (id ∷ ids) (other ∷ others) is is' =
      same_cons id other ids others (same_first (slice_get types.lists list.number) id other is.0 is'.0 is.1 is'.1)
      (same_list is'.0 ids others
      (subst (λ rest. IsList types rest ids) (same_others (slice_get types.lists list.number) id other is.0 is'.0 is.1 is'.1) is.2) is'.2)

  -- and of a function type
  pub same_signature : (id : TypeId) (its others : List TypeId) (gives gives' : TypeId) → IsSignature types id its gives
      → IsSignature types id others gives' → (its ≡ others) × (gives ≡ gives')
  same_signature id its others gives gives' is is' = (
    same_list is'.0 its others
        (subst (λ list. IsList types list its) (same_parameters (row_of types id) gives gives' is.0 is'.0 is.1 is'.1) is.2) is'.2,
    same_result (row_of types id) gives gives' is.0 is'.0 is.1 is'.1,
  )

  -- what is like one reading is like each
  like_read : (a b : TypeId) (its others : List TypeId) (gives gives' : TypeId) → IsSignature types a its gives → IsLike types types b its gives
      → IsSignature types a others gives' → IsLike types types b others gives'
  like_read a b its others gives gives' is like is' =
      let same : (its ≡ others) × (gives ≡ gives') = same_signature a its others gives gives' is is' in
      subst (λ result. IsLike types types b others result) same.1 (subst (λ parameters. IsLike types types b parameters gives) same.0 like)

  -- two function types of like results and parameters
  pub functions_shape : (a b : TypeId) (its others : List TypeId) (gives gives' : TypeId) → IsSignature types a its gives
      → IsSignature types b others gives' → AllAlike types its others → AreAlike types gives gives' → SameShape types a b
  functions_shape a b its others gives gives' is is' are alike =
      record {
        category = ap category_of_row is.1 ∙ sym (ap category_of_row is'.1);
        there = λ parameters result. like_read a b its parameters gives result is
            (others, (gives', is', all_alike_turned types its others are, sym alike));
        back = λ parameters result. like_read b a others parameters gives' result is' (its, (gives, is, are, alike));
      }

-- ---- types of objects that agree

-- two rows that are there, of one category, which is not that of functions
abbrev pub AreObjects : Option Row → Option Row → Type 0
AreObjects x y = (its : Category) × (category_of_row x ≡ Some its) × (category_of_row y ≡ Some its) × (its ≡ of_function → ⊥)

-- an integer type that is compatible with enumerations is int
int_category : (its : Integer) → is_int its ≡ true → Some (of_number its) ≡ Some (of_number kind.Int)
int_category kind.Char is = absurd cc
int_category kind.SignedChar is = absurd cc
int_category kind.UnsignedChar is = absurd cc
int_category kind.Short is = absurd cc
int_category kind.UnsignedShort is = absurd cc
int_category kind.Int is = refl
int_category kind.UnsignedInt is = absurd cc
int_category kind.Long is = absurd cc
int_category kind.UnsignedLong is = absurd cc

-- numbers are no functions, and neither are structs, pointers and arrays
number_no_function : (its : Integer) → of_number its ≡ of_function → ⊥
number_no_function its is = cc

-- structs
struct_no_function : of_struct ≡ of_function → ⊥
struct_no_function is = cc

-- pointers
pointer_no_function : of_pointer ≡ of_function → ⊥
pointer_no_function is = cc

-- arrays
array_no_function : of_array ≡ of_function → ⊥
array_no_function is = cc

-- two structs, two enumerations, or an enumeration and int
leaf_rows : (old : TypeTable) (o : Origins) (x y : Option Row) → leaves_agree old o x y ≡ true → AreObjects x y
leaf_rows old o None y is = absurd cc
leaf_rows old o (Some row.Void) y is = absurd cc
leaf_rows old o (Some (row.Integer its)) None is = absurd cc
leaf_rows old o (Some (row.Integer its)) (Some row.Void) is = absurd cc
leaf_rows old o (Some (row.Integer its)) (Some (row.Integer other)) is = absurd cc
leaf_rows old o (Some (row.Integer its)) (Some (row.Pointer of)) is = absurd cc
leaf_rows old o (Some (row.Integer its)) (Some (row.Enumeration number)) is =
    (of_number kind.Int, int_category its is, refl, number_no_function kind.Int)
leaf_rows old o (Some (row.Integer its)) (Some (row.Struct number)) is = absurd cc
leaf_rows old o (Some (row.Integer its)) (Some (row.Array of size layout)) is = absurd cc
leaf_rows old o (Some (row.Integer its)) (Some (row.OpenArray of)) is = absurd cc
leaf_rows old o (Some (row.Integer its)) (Some (row.Function result parameters)) is = absurd cc
leaf_rows old o (Some (row.Pointer of)) y is = absurd cc
leaf_rows old o (Some (row.Enumeration number)) None is = absurd cc
leaf_rows old o (Some (row.Enumeration number)) (Some row.Void) is = absurd cc
leaf_rows old o (Some (row.Enumeration number)) (Some (row.Integer its)) is =
    (of_number kind.Int, refl, int_category its is, number_no_function kind.Int)
leaf_rows old o (Some (row.Enumeration number)) (Some (row.Pointer of)) is = absurd cc
leaf_rows old o (Some (row.Enumeration number)) (Some (row.Enumeration other)) is = (of_number kind.Int, refl, refl, number_no_function kind.Int)
leaf_rows old o (Some (row.Enumeration number)) (Some (row.Struct other)) is = absurd cc
leaf_rows old o (Some (row.Enumeration number)) (Some (row.Array of size layout)) is = absurd cc
leaf_rows old o (Some (row.Enumeration number)) (Some (row.OpenArray of)) is = absurd cc
leaf_rows old o (Some (row.Enumeration number)) (Some (row.Function result parameters)) is = absurd cc
leaf_rows old o (Some (row.Struct number)) None is = absurd cc
leaf_rows old o (Some (row.Struct number)) (Some row.Void) is = absurd cc
leaf_rows old o (Some (row.Struct number)) (Some (row.Integer its)) is = absurd cc
leaf_rows old o (Some (row.Struct number)) (Some (row.Pointer of)) is = absurd cc
leaf_rows old o (Some (row.Struct number)) (Some (row.Enumeration other)) is = absurd cc
leaf_rows old o (Some (row.Struct number)) (Some (row.Struct other)) is = (of_struct, refl, refl, struct_no_function)
leaf_rows old o (Some (row.Struct number)) (Some (row.Array of size layout)) is = absurd cc
leaf_rows old o (Some (row.Struct number)) (Some (row.OpenArray of)) is = absurd cc
leaf_rows old o (Some (row.Struct number)) (Some (row.Function result parameters)) is = absurd cc
leaf_rows old o (Some (row.Array of size layout)) y is = absurd cc
leaf_rows old o (Some (row.OpenArray of)) y is = absurd cc
leaf_rows old o (Some (row.Function result parameters)) y is = absurd cc

-- two pointers, or two arrays with or without a length
inside_rows : (test : TypeId → TypeId → Bool) (x y : Option Row) → both_are test (inside_both x y) ≡ true → AreObjects x y
inside_rows test None y is = absurd cc
inside_rows test (Some row.Void) y is = absurd cc
inside_rows test (Some (row.Integer its)) y is = absurd cc
inside_rows test (Some (row.Pointer of)) None is = absurd cc
inside_rows test (Some (row.Pointer of)) (Some row.Void) is = absurd cc
inside_rows test (Some (row.Pointer of)) (Some (row.Integer its)) is = absurd cc
inside_rows test (Some (row.Pointer of)) (Some (row.Pointer other)) is = (of_pointer, refl, refl, pointer_no_function)
inside_rows test (Some (row.Pointer of)) (Some (row.Enumeration number)) is = absurd cc
inside_rows test (Some (row.Pointer of)) (Some (row.Struct number)) is = absurd cc
inside_rows test (Some (row.Pointer of)) (Some (row.Array other size layout)) is = absurd cc
inside_rows test (Some (row.Pointer of)) (Some (row.OpenArray other)) is = absurd cc
inside_rows test (Some (row.Pointer of)) (Some (row.Function result parameters)) is = absurd cc
inside_rows test (Some (row.Enumeration number)) y is = absurd cc
inside_rows test (Some (row.Struct number)) y is = absurd cc
inside_rows test (Some (row.Array of size layout)) None is = absurd cc
inside_rows test (Some (row.Array of size layout)) (Some row.Void) is = absurd cc
inside_rows test (Some (row.Array of size layout)) (Some (row.Integer its)) is = absurd cc
inside_rows test (Some (row.Array of size layout)) (Some (row.Pointer other)) is = absurd cc
inside_rows test (Some (row.Array of size layout)) (Some (row.Enumeration number)) is = absurd cc
inside_rows test (Some (row.Array of size layout)) (Some (row.Struct number)) is = absurd cc
inside_rows test (Some (row.Array of size layout)) (Some (row.Array other size' layout')) is = (of_array, refl, refl, array_no_function)
inside_rows test (Some (row.Array of size layout)) (Some (row.OpenArray other)) is = (of_array, refl, refl, array_no_function)
inside_rows test (Some (row.Array of size layout)) (Some (row.Function result parameters)) is = absurd cc
inside_rows test (Some (row.OpenArray of)) None is = absurd cc
inside_rows test (Some (row.OpenArray of)) (Some row.Void) is = absurd cc
inside_rows test (Some (row.OpenArray of)) (Some (row.Integer its)) is = absurd cc
inside_rows test (Some (row.OpenArray of)) (Some (row.Pointer other)) is = absurd cc
inside_rows test (Some (row.OpenArray of)) (Some (row.Enumeration number)) is = absurd cc
inside_rows test (Some (row.OpenArray of)) (Some (row.Struct number)) is = absurd cc
inside_rows test (Some (row.OpenArray of)) (Some (row.Array other size layout)) is = (of_array, refl, refl, array_no_function)
inside_rows test (Some (row.OpenArray of)) (Some (row.OpenArray other)) is = (of_array, refl, refl, array_no_function)
inside_rows test (Some (row.OpenArray of)) (Some (row.Function result parameters)) is = absurd cc
inside_rows test (Some (row.Function result parameters)) y is = absurd cc

-- one type, or two such types
abbrev pub AreOneOrObjects : TypeTable → TypeId → TypeId → Type 0
AreOneOrObjects old a b = (a ≡ b) ⊎ AreObjects (row_of old a) (row_of old b)

-- by the three tests
one_or_objects : (old : TypeTable) (o : Origins) (a b : TypeId) (test : TypeId → TypeId → Bool)
    → (same_type a b || leaves_agree old o (row_of old a) (row_of old b) || both_are test (inside_both (row_of old a) (row_of old b))) ≡ true
    → AreOneOrObjects old a b
one_or_objects old o a b test is =
    outer
    (either_test (same_type a b || leaves_agree old o (row_of old a) (row_of old b))
    (both_are test (inside_both (row_of old a) (row_of old b))) is)
  where
    -- the first two of them
    inner : (same_type a b ≡ true) ⊎ (leaves_agree old o (row_of old a) (row_of old b) ≡ true) → AreOneOrObjects old a b
    inner (inl same) = inl (same-is a b same)
    inner (inr leaf) = inr (leaf_rows old o (row_of old a) (row_of old b) leaf)

    -- all of them
    outer : ((same_type a b || leaves_agree old o (row_of old a) (row_of old b)) ≡ true)
        ⊎ (both_are test (inside_both (row_of old a) (row_of old b)) ≡ true) → AreOneOrObjects old a b
    outer (inl front) = inner (either_test (same_type a b) (leaves_agree old o (row_of old a) (row_of old b)) front)
    outer (inr both) = inr (inside_rows test (row_of old a) (row_of old b) both)

-- down to so many types inside
pub within_objects : (old : TypeTable) (o : Origins) (count : ℕ) (a b : TypeId) → objects_agree_within count old o a b ≡ true → AreOneOrObjects old a b
within_objects old o zero a b is = inl (same-is a b is)
within_objects old o (suc rest) a b is = one_or_objects old o a b (objects_agree_within rest old o) is

-- ---- as the table grows

-- a category that is there stays
category_row_stays : (old types : TypeTable) (id : TypeId) (its : Category) (given : Option Row) → Grows old types → row_of old id ≡ given
    → category_of_row given ≡ Some its → category_of types id ≡ Some its
category_row_stays old types id its None grows known is = absurd cc
category_row_stays old types id its (Some found) grows known is = ap category_of_row (grows.rows id.number found known) ∙ is

-- a type of another category has no row of functions
no_function_row : (found : Option Row) (its : Category) (gives : TypeId) (list : ListId) → category_of_row found ≡ Some its
    → (its ≡ of_function → ⊥) → found ≡ Some (row.Function gives list) → ⊥
no_function_row found its gives list is no_function known =
    let same : Some its ≡ Some of_function = sym is ∙ ap category_of_row known in
    no_function cc

-- a type of another category has no signature
pub no_signature : (old types : TypeTable) → Grows old types → (id : TypeId) (its : Category) (parameters : List TypeId) (result : TypeId)
    → category_of old id ≡ Some its → (its ≡ of_function → ⊥) → IsSignature types id parameters result → ⊥
no_signature old types grows id its parameters result is no_function signed =
    no_function_row (row_of types id) its result signed.0 (category_row_stays old types id its (row_of old id) grows refl is) no_function signed.1

module _ (old types : TypeTable) (grows : Grows old types) where
  -- looked up by the number of the type
  category_stays : (id : TypeId) (its : Category) → category_of old id ≡ Some its → category_of types id ≡ Some its
  category_stays id its is = category_row_stays old types id its (row_of old id) grows refl is

  -- two types that are no functions
  pub objects_shape : (a b : TypeId) → AreOneOrObjects old a b → SameShape types a b
  objects_shape a b (inl same) = shape_same types a b same
  objects_shape a b (inr (its, is, is', no_function)) =
      record {
        category = category_stays a its is ∙ sym (category_stays b its is');
        there = λ parameters result signed.
            absurd (no_function_row (row_of types a) its result signed.0 (category_stays a its is) no_function signed.1);
        back = λ parameters result signed.
            absurd (no_function_row (row_of types b) its result signed.0 (category_stays b its is') no_function signed.1);
      }

  -- types of objects that agree
  objects_agree_shape : (o : Origins) (a b : TypeId) → objects_agree old o a b ≡ true → SameShape types a b
  objects_agree_shape o a b is = objects_shape a b (within_objects old o a.number a b is)

-- Types of objects that agree are of one category.
pub agree_same_category : (old types : TypeTable) (o : Origins) (a b : TypeId) → Grows old types → objects_agree old o a b ≡ true
    → AreAlike types a b
agree_same_category old types o a b grows is = (objects_agree_shape old types grows o a b is).category

-- ---- lists of parameters that agree

-- The parameters of both lists, each pair of one category, fewer than a number.
abbrev AgreedLists : TypeTable → TypeTable → ℕ → ListId → ListId → Type 0
AgreedLists old types count list other =
    (its : List TypeId) × (others : List TypeId) × IsList old list its × IsList old other others × AllAlike types its others × (suc (length its) ≤ count)

-- no parameters
none_fewer : (count : ℕ) → suc zero ≤ suc count
none_fewer count = omega arith

-- one parameter more
one_fewer : (count : ℕ) (id : TypeId) (its : List TypeId) → suc (length its) ≤ count → suc (length (id ∷ its)) ≤ suc count
one_fewer count id its fewer = omega (arith, fewer)

module _ (old types : TypeTable) (grows : Grows old types) (o : Origins) where
  -- by what each list begins with
  lists_by : (rest : ListId → ListId → Bool) (count : ℕ) (list other : ListId) (x y : Option Parameters) → slice_get old.lists list.number ≡ x
      → slice_get old.lists other.number ≡ y → ((a b : ListId) → rest a b ≡ true → AgreedLists old types count a b)
      → lists_agree_by rest old o x y ≡ true → AgreedLists old types (suc count) list other
  lists_by rest count list other None y known known' after is = absurd cc
  lists_by rest count list other (Some Empty) None known known' after is = absurd cc
  lists_by rest count list other (Some Empty) (Some Empty) known known' after is = ([], [], known, known', tt, none_fewer count)
  lists_by rest count list other (Some Empty) (Some (More b others)) known known' after is = absurd cc
  lists_by rest count list other (Some (More a more)) None known known' after is = absurd cc
  lists_by rest count list other (Some (More a more)) (Some Empty) known known' after is = absurd cc
  lists_by rest count list other (Some (More a more)) (Some (More b others)) known known' after is =
      let tests : (objects_agree old o a b ≡ true) × (rest more others ≡ true) = both_tests (objects_agree old o a b) (rest more others) is in
      let behind : AgreedLists old types count more others = after more others tests.1 in (
        a ∷ behind.0,
        b ∷ behind.1,
        (more, known, behind.2),
        (others, known', behind.3),
        (agree_same_category old types o a b grows tests.0, behind.4),
        one_fewer count a behind.0 behind.5,
      )

  -- down to so many parameters
  lists_within : (count : ℕ) (list other : ListId) → lists_agree_within count old o list other ≡ true → AgreedLists old types count list other
  lists_within zero list other is = absurd cc
  lists_within (suc count) list other is =
      lists_by (lists_agree_within count old o) count list other (slice_get old.lists list.number) (slice_get old.lists other.number) refl refl
      (lists_within count) is

  -- ---- types that agree

  -- two function types
  function_shape : (a b result result' : TypeId) (list list' : ListId) → row_of old a ≡ Some (row.Function result list)
      → row_of old b ≡ Some (row.Function result' list') → (objects_agree old o result result' && lists_agree old o list list') ≡ true
      → SameShape types a b
  function_shape a b result result' list list' known known' is =
      let tests : (objects_agree old o result result' ≡ true) × (lists_agree old o list list' ≡ true)
      = both_tests (objects_agree old o result result') (lists_agree old o list list') is in
      let agreed : AgreedLists old types (suc list.number) list list' = lists_within (suc list.number) list list' tests.1 in
      functions_shape types a b agreed.0 agreed.1 result result'
      (list, grows.rows a.number (row.Function result list) known, list_stays old types grows list agreed.0 agreed.2)
      (list', grows.rows b.number (row.Function result' list') known', list_stays old types grows list' agreed.1 agreed.3) agreed.4
      (agree_same_category old types o result result' grows tests.0)

  -- a function type and any other one
  function_other : (a b result : TypeId) (list : ListId) (y : Option Row) → row_of old a ≡ Some (row.Function result list) → row_of old b ≡ y
      → agree_by old o (objects_agree old o a b) (Some (row.Function result list)) y ≡ true → SameShape types a b
  function_other a b result list None known known' is = objects_agree_shape old types grows o a b is
  function_other a b result list (Some row.Void) known known' is = objects_agree_shape old types grows o a b is
  function_other a b result list (Some (row.Integer its)) known known' is = objects_agree_shape old types grows o a b is
  function_other a b result list (Some (row.Pointer of)) known known' is = objects_agree_shape old types grows o a b is
  function_other a b result list (Some (row.Enumeration number)) known known' is = objects_agree_shape old types grows o a b is
  function_other a b result list (Some (row.Struct number)) known known' is = objects_agree_shape old types grows o a b is
  function_other a b result list (Some (row.Array of size layout)) known known' is = objects_agree_shape old types grows o a b is
  function_other a b result list (Some (row.OpenArray of)) known known' is = objects_agree_shape old types grows o a b is
  function_other a b result list (Some (row.Function result' list')) known known' is = function_shape a b result result' list list' known known' is

  -- any two types
  agree_rows : (a b : TypeId) (x : Option Row) → row_of old a ≡ x → agree_by old o (objects_agree old o a b) x (row_of old b) ≡ true
      → SameShape types a b
  agree_rows a b None known is = objects_agree_shape old types grows o a b is
  agree_rows a b (Some row.Void) known is = objects_agree_shape old types grows o a b is
  agree_rows a b (Some (row.Integer its)) known is = objects_agree_shape old types grows o a b is
  agree_rows a b (Some (row.Pointer of)) known is = objects_agree_shape old types grows o a b is
  agree_rows a b (Some (row.Enumeration number)) known is = objects_agree_shape old types grows o a b is
  agree_rows a b (Some (row.Struct number)) known is = objects_agree_shape old types grows o a b is
  agree_rows a b (Some (row.Array of size layout)) known is = objects_agree_shape old types grows o a b is
  agree_rows a b (Some (row.OpenArray of)) known is = objects_agree_shape old types grows o a b is
  agree_rows a b (Some (row.Function result list)) known is = function_other a b result list (row_of old b) known refl is

-- Types that agree have one shape.
pub agree_shape : (old types : TypeTable) (o : Origins) (a b : TypeId) → Grows old types → agree old o a b ≡ true → SameShape types a b
agree_shape old types o a b grows is = agree_rows old types grows o a b (row_of old a) refl is

-- ---- the parameters of a function type that agrees with itself

-- fewer than one more
at_most : (count limit : ℕ) → suc count ≤ suc limit → count ≤ limit
at_most count limit fewer = omega (arith, fewer)

-- the list was walked down to its end
signed_list : (old : TypeTable) (o : Origins) (list other : ListId) → lists_agree old o list other ≡ true
    → (its : List TypeId) × IsList old list its × (length its ≤ list.number)
signed_list old o list other is =
    let agreed : AgreedLists old old (suc list.number) list other = lists_within old old (grows_self old) o (suc list.number) list other is in
    (agreed.0, agreed.2, at_most (length agreed.0) list.number agreed.5)

-- by the row of the type
signed_row : (old : TypeTable) (o : Origins) (id result : TypeId) (list : ListId) (x : Option Row) → x ≡ Some (row.Function result list)
    → agree_by old o (objects_agree old o id id) x x ≡ true → (its : List TypeId) × IsList old list its × (length its ≤ list.number)
signed_row old o id result list x known is =
    signed_list old o list list
    (both_tests (objects_agree old o result result) (lists_agree old o list list)
    (subst (λ it. agree_by old o (objects_agree old o id id) it it ≡ true) known is)).1

-- The list ends, after at most as many parameters as there are older lists.
pub agree_signed : (old : TypeTable) (o : Origins) (id : TypeId) → agree old o id id ≡ true → (result : TypeId) (list : ListId)
    → row_of old id ≡ Some (row.Function result list) → (its : List TypeId) × IsList old list its × (length its ≤ list.number)
agree_signed old o id is result list known = signed_row old o id result list (row_of old id) known is
