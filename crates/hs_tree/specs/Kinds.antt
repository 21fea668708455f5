-- What a type is, as the facts of a program ask for it (X3.159-1989 3.1.2.5).
--     number_kind types id         how numbers of an integer type or an enumeration are represented
--     pointed types id             what a pointer points to; element types id, of what an array is
--     category_of types id         its category: the type itself, or its outermost derivation; AreAlike types one other
--     IsNumber, IsAnyNumber, IsPointer, IsScalar, IsReadable, IsVoid, IsStruct, IsPointerTo, IsPointerToSize
use Rattle.std.specs.Prelude.{◌≡◌, ℕ, Bool, true, false, ◌&&◌, ◌||◌, Option, Some, None, IsTrue, is_some}
use Rattle.hs_types.specs.TypeTables.{TypeTable, row_of, layout_of}
use Rattle.hs_types.specs.declared.integer.Integer.{Integer}
use Rattle.hs_types.specs.declared.integer.Integer.TheVariants as kind
use Rattle.hs_types.specs.declared.layout.Layout.{Layout}
use Rattle.hs_types.specs.declared.row.Row.{Row}
use Rattle.hs_types.specs.declared.row.Row.TheVariants as row
use Rattle.hs_types.specs.declared.row.TypeId.{TypeId}

-- A number of an enumeration is an int (3.5.2.2).
abbrev pub kind_of_row : Option Row → Option Integer
kind_of_row None = None
kind_of_row (Some row.Void) = None
kind_of_row (Some (row.Integer kind)) = Some kind
kind_of_row (Some (row.Pointer of)) = None
kind_of_row (Some (row.Enumeration number)) = Some kind.Int
kind_of_row (Some (row.Struct number)) = None
kind_of_row (Some (row.Array of length layout)) = None
kind_of_row (Some (row.OpenArray of)) = None
kind_of_row (Some (row.Function result parameters)) = None

-- of a type, by its number
abbrev pub number_kind : TypeTable → TypeId → Option Integer
number_kind types id = kind_of_row (row_of types id)

-- what a pointer points to
abbrev pub pointed_of_row : Option Row → Option TypeId
pointed_of_row None = None
pointed_of_row (Some row.Void) = None
pointed_of_row (Some (row.Integer kind)) = None
pointed_of_row (Some (row.Pointer of)) = Some of
pointed_of_row (Some (row.Enumeration number)) = None
pointed_of_row (Some (row.Struct number)) = None
pointed_of_row (Some (row.Array of length layout)) = None
pointed_of_row (Some (row.OpenArray of)) = None
pointed_of_row (Some (row.Function result parameters)) = None

-- of a type
abbrev pub pointed : TypeTable → TypeId → Option TypeId
pointed types id = pointed_of_row (row_of types id)

-- of what an array is, with or without a known length
abbrev pub element_of_row : Option Row → Option TypeId
element_of_row None = None
element_of_row (Some row.Void) = None
element_of_row (Some (row.Integer kind)) = None
element_of_row (Some (row.Pointer of)) = None
element_of_row (Some (row.Enumeration number)) = None
element_of_row (Some (row.Struct number)) = None
element_of_row (Some (row.Array of length layout)) = Some of
element_of_row (Some (row.OpenArray of)) = Some of
element_of_row (Some (row.Function result parameters)) = None

-- of a type
abbrev pub element : TypeTable → TypeId → Option TypeId
element types id = element_of_row (row_of types id)

-- how many elements an array has, if that is known
abbrev pub length_of_row : Option Row → Option ℕ
length_of_row None = None
length_of_row (Some row.Void) = None
length_of_row (Some (row.Integer kind)) = None
length_of_row (Some (row.Pointer of)) = None
length_of_row (Some (row.Enumeration number)) = None
length_of_row (Some (row.Struct number)) = None
length_of_row (Some (row.Array of length layout)) = Some length
length_of_row (Some (row.OpenArray of)) = None
length_of_row (Some (row.Function result parameters)) = None

-- of a type
abbrev pub array_length : TypeTable → TypeId → Option ℕ
array_length types id = length_of_row (row_of types id)

abbrev pub is_struct_row : Option Row → Bool
is_struct_row None = false
is_struct_row (Some row.Void) = false
is_struct_row (Some (row.Integer kind)) = false
is_struct_row (Some (row.Pointer of)) = false
is_struct_row (Some (row.Enumeration number)) = false
is_struct_row (Some (row.Struct number)) = true
is_struct_row (Some (row.Array of length layout)) = false
is_struct_row (Some (row.OpenArray of)) = false
is_struct_row (Some (row.Function result parameters)) = false

abbrev pub is_void_row : Option Row → Bool
is_void_row None = false
is_void_row (Some row.Void) = true
is_void_row (Some (row.Integer kind)) = false
is_void_row (Some (row.Pointer of)) = false
is_void_row (Some (row.Enumeration number)) = false
is_void_row (Some (row.Struct number)) = false
is_void_row (Some (row.Array of length layout)) = false
is_void_row (Some (row.OpenArray of)) = false
is_void_row (Some (row.Function result parameters)) = false

-- the size of what a pointer points to, if that is complete
abbrev pub size_in : Option Layout → Option ℕ
size_in None = None
size_in (Some layout) = Some layout.size

-- if there is a type
abbrev pub size_at : TypeTable → Option TypeId → Option ℕ
size_at types None = None
size_at types (Some of) = size_in (layout_of types of)

-- integers and enumerations
abbrev pub is_number : TypeTable → TypeId → Bool
is_number types id = is_some (number_kind types id)

-- pointers
abbrev pub is_pointer : TypeTable → TypeId → Bool
is_pointer types id = is_some (pointed types id)

-- An integer, an enumeration or a pointer.
abbrev pub is_scalar : TypeTable → TypeId → Bool
is_scalar types id = is_number types id || is_pointer types id

-- void
abbrev pub is_void : TypeTable → TypeId → Bool
is_void types id = is_void_row (row_of types id)

-- The value of such an object can be read and written: a scalar, or a struct whose body has come.
abbrev pub is_readable : TypeTable → TypeId → Bool
is_readable types id = is_scalar types id || (is_struct_row (row_of types id) && is_some (layout_of types id))

-- a number of that kind, and of any
abbrev pub IsNumber : TypeTable → Integer → TypeId → Type 0
IsNumber types kind id = number_kind types id ≡ Some kind

abbrev pub IsAnyNumber : TypeTable → TypeId → Type 0
IsAnyNumber types id = IsTrue (is_number types id)

-- the same tests as facts
abbrev pub IsPointer : TypeTable → TypeId → Type 0
IsPointer types id = IsTrue (is_pointer types id)

abbrev pub IsScalar : TypeTable → TypeId → Type 0
IsScalar types id = IsTrue (is_scalar types id)

abbrev pub IsReadable : TypeTable → TypeId → Type 0
IsReadable types id = IsTrue (is_readable types id)

abbrev pub IsVoid : TypeTable → TypeId → Type 0
IsVoid types id = IsTrue (is_void types id)

abbrev pub IsStruct : TypeTable → ℕ → TypeId → Type 0
IsStruct types number id = row_of types id ≡ Some (row.Struct number)

abbrev pub IsPointerTo : TypeTable → TypeId → TypeId → Type 0
IsPointerTo types of id = pointed types id ≡ Some of

-- a pointer to objects of that size
abbrev pub IsPointerToSize : TypeTable → ℕ → TypeId → Type 0
IsPointerToSize types size id = size_at types (pointed types id) ≡ Some size

-- What the type category of a type is (3.1.2.5). An enumeration counts as int, with which it is compatible.
pub data Category : Type 0 where
  of_void : Category
  of_number : Integer → Category
  of_pointer : Category
  of_struct : Category
  of_array : Category
  of_function : Category

abbrev pub category_of_row : Option Row → Option Category
category_of_row None = None
category_of_row (Some row.Void) = Some of_void
category_of_row (Some (row.Integer kind)) = Some (of_number kind)
category_of_row (Some (row.Pointer of)) = Some of_pointer
category_of_row (Some (row.Enumeration number)) = Some (of_number kind.Int)
category_of_row (Some (row.Struct number)) = Some of_struct
category_of_row (Some (row.Array of length layout)) = Some of_array
category_of_row (Some (row.OpenArray of)) = Some of_array
category_of_row (Some (row.Function result parameters)) = Some of_function

-- of a type
abbrev pub category_of : TypeTable → TypeId → Option Category
category_of types id = category_of_row (row_of types id)

-- Two declarations of one object or function, in one unit or in two, may give it types that differ (3.1.2.6), but only of one category.
abbrev pub AreAlike : TypeTable → TypeId → TypeId → Type 0
AreAlike types one other = category_of types one ≡ category_of types other
