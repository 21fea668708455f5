-- Categories of types (X3.159-1989 3.1.2.5), as the facts of constants ask for them.
--     pointer_not_void, scalar_not_void       scalars are not void
--     array_no_scalar                         an array is no scalar
--     alike_scalar                            types of one category are scalars, or are not
--     sized_pointer, struct_pointer           what points to something is a pointer
use Rattle.std.proofs.Common.{◌≡◌, ℕ, Bool, true, false, ◌||◌, Option, Some, None, refl, sym, ap, ◌∙◌}
use Rattle.std.specs.Prelude.{is_some}
use Rattle.hs_tree.specs.Fitting.{struct_at}
use Rattle.hs_tree.specs.Kinds.{Category, of_void, of_number, of_pointer, of_struct, of_array, of_function, kind_of_row, pointed_of_row, element_of_row, is_void_row, category_of_row, category_of, element, is_scalar, is_void, size_at, IsPointer}
use Rattle.hs_types.specs.TypeTables.{TypeTable, row_of}
use Rattle.hs_types.specs.declared.row.Row.{Row}
use Rattle.hs_types.specs.declared.row.Row.TheVariants as row
use Rattle.hs_types.specs.declared.row.TypeId.{TypeId}

-- a pointer is not void
pointer_row_not_void : (it : Option Row) → is_some (pointed_of_row it) ≡ true → is_void_row it ≡ false
pointer_row_not_void None is = absurd cc
pointer_row_not_void (Some row.Void) is = absurd cc
pointer_row_not_void (Some (row.Integer its)) is = absurd cc
pointer_row_not_void (Some (row.Pointer of)) is = refl
pointer_row_not_void (Some (row.Enumeration number)) is = absurd cc
pointer_row_not_void (Some (row.Struct number)) is = absurd cc
pointer_row_not_void (Some (row.Array of length layout)) is = absurd cc
pointer_row_not_void (Some (row.OpenArray of)) is = absurd cc
pointer_row_not_void (Some (row.Function result list)) is = absurd cc

pub pointer_not_void : (types : TypeTable) (id : TypeId) → IsPointer types id → is_void types id ≡ false
pointer_not_void types id is = pointer_row_not_void (row_of types id) is

-- an array is no scalar
array_row_no_scalar : (it : Option Row) → is_some (element_of_row it) ≡ true → (is_some (kind_of_row it) || is_some (pointed_of_row it)) ≡ false
array_row_no_scalar None is = absurd cc
array_row_no_scalar (Some row.Void) is = absurd cc
array_row_no_scalar (Some (row.Integer its)) is = absurd cc
array_row_no_scalar (Some (row.Pointer of)) is = absurd cc
array_row_no_scalar (Some (row.Enumeration number)) is = absurd cc
array_row_no_scalar (Some (row.Struct number)) is = absurd cc
array_row_no_scalar (Some (row.Array of length layout)) is = refl
array_row_no_scalar (Some (row.OpenArray of)) is = refl
array_row_no_scalar (Some (row.Function result list)) is = absurd cc

pub array_no_scalar : (types : TypeTable) (id : TypeId) → is_some (element types id) ≡ true → is_scalar types id ≡ false
array_no_scalar types id is = array_row_no_scalar (row_of types id) is

-- a category of scalars
abbrev of_scalar : Option Category → Bool
of_scalar None = false
of_scalar (Some of_void) = false
of_scalar (Some (of_number its)) = true
of_scalar (Some of_pointer) = true
of_scalar (Some of_struct) = false
of_scalar (Some of_array) = false
of_scalar (Some of_function) = false

row_scalar : (it : Option Row) → (is_some (kind_of_row it) || is_some (pointed_of_row it)) ≡ of_scalar (category_of_row it)
row_scalar None = refl
row_scalar (Some row.Void) = refl
row_scalar (Some (row.Integer its)) = refl
row_scalar (Some (row.Pointer of)) = refl
row_scalar (Some (row.Enumeration number)) = refl
row_scalar (Some (row.Struct number)) = refl
row_scalar (Some (row.Array of length layout)) = refl
row_scalar (Some (row.OpenArray of)) = refl
row_scalar (Some (row.Function result list)) = refl

-- by the category alone
pub alike_scalar : (types later : TypeTable) (one other : TypeId) → category_of types one ≡ category_of later other
    → is_scalar types one ≡ is_scalar later other
alike_scalar types later one other same = row_scalar (row_of types one) ∙ ap of_scalar same ∙ sym (row_scalar (row_of later other))

-- what points to an array's element, to an object of some size, or to a struct is a pointer
pub element_pointer : (p e : Option TypeId) → p ≡ e → is_some e ≡ true → is_some p ≡ true
element_pointer p e same is = ap is_some same ∙ is

pub sized_pointer : (types : TypeTable) (p : Option TypeId) (size : ℕ) → size_at types p ≡ Some size → is_some p ≡ true
sized_pointer types None size is = absurd cc
sized_pointer types (Some of) size is = refl

pub struct_pointer : (types : TypeTable) (p : Option TypeId) (number : ℕ) → struct_at types p ≡ Some (row.Struct number) → is_some p ≡ true
struct_pointer types None number is = absurd cc
struct_pointer types (Some of) number is = refl

-- a scalar is not void
scalar_row_not_void : (it : Option Row) → (is_some (kind_of_row it) || is_some (pointed_of_row it)) ≡ true → is_void_row it ≡ false
scalar_row_not_void None is = absurd cc
scalar_row_not_void (Some row.Void) is = absurd cc
scalar_row_not_void (Some (row.Integer its)) is = refl
scalar_row_not_void (Some (row.Pointer of)) is = refl
scalar_row_not_void (Some (row.Enumeration number)) is = refl
scalar_row_not_void (Some (row.Struct number)) is = absurd cc
scalar_row_not_void (Some (row.Array of length layout)) is = absurd cc
scalar_row_not_void (Some (row.OpenArray of)) is = absurd cc
scalar_row_not_void (Some (row.Function result list)) is = absurd cc

pub scalar_not_void : (types : TypeTable) (id : TypeId) → is_scalar types id ≡ true → is_void types id ≡ false
scalar_not_void types id is = scalar_row_not_void (row_of types id) is
