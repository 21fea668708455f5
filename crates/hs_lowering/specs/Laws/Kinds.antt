-- Of which kinds the values of types are (own).
--     IsOf types id kind              a value of that type is of that kind; of `void` it may be of any
--     number_kinds, pointer_kinds     of numbers, and of pointers
--     like_kinds                      types of one category have one kind
--     read_kind, access_kind          what a load or a store reaches is of the kind of its type
--     slot_by_type                    so is what a slot holds
use Rattle.std.proofs.Common.{◌≡◌, ℕ, Bool, true, false, ◌&&◌, ◌||◌, Option, Some, None, IsTrue, is_some, refl, sym, ap, ◌∙◌, subst}
use Rattle.hs_code.specs.Stacks.{Kind, kind_by, kind_of, kind_in, slot_kind, Scope, variable_in}
use Rattle.hs_code.specs.Stacks as kinds
use Rattle.hs_lowering.specs.Lowering.{access_in}
use Rattle.hs_meaning.specs.Classes.{class_of_type}
use Rattle.hs_meaning.specs.Settings.{Setting, access_of, access_of_type, access_by, class_or}
use Rattle.hs_tree.specs.Classes.{class_of}
use Rattle.hs_tree.specs.Kinds.{kind_of_row, pointed_of_row, is_struct_row, is_void_row, category_of_row, Category, of_void, of_number, of_pointer, of_struct, of_array, of_function, AreAlike, pointed, size_at, is_void, IsAnyNumber, IsNumber, IsPointer, IsPointerTo, IsPointerToSize, IsReadable}
use Rattle.hs_tree.specs.Trees.{LeftValue, type_of_left}
use Rattle.hs_tree.specs.declared.class.Class.{Class}
use Rattle.hs_types.specs.TypeTables.{TypeTable, row_of, layout_of}
use Rattle.hs_types.specs.declared.integer.Integer.{Integer}
use Rattle.hs_types.specs.declared.row.Row.{Row}
use Rattle.hs_types.specs.declared.row.Row.TheVariants as row
use Rattle.hs_types.specs.declared.row.TypeId.{TypeId}

-- a value of that type; what is cast to void stays on the stack
abbrev pub IsOf : TypeTable → TypeId → Kind → Type 0
IsOf types id kind = is_void types id ≡ false → kind ≡ kind_of types id

-- ---- of rows

-- as `kind_of` has it
abbrev pub row_kind : Option Row → Kind
row_kind its = kind_by (is_some (pointed_of_row its)) (is_struct_row its)

number_row : (its : Option Row) → IsTrue (is_some (kind_of_row its)) → row_kind its ≡ kinds.number × (is_void_row its ≡ false)
number_row None is = absurd cc
number_row (Some row.Void) is = absurd cc
number_row (Some (row.Integer kind)) is = (refl, refl)
number_row (Some (row.Pointer of)) is = absurd cc
number_row (Some (row.Enumeration number)) is = (refl, refl)
number_row (Some (row.Struct number)) is = absurd cc
number_row (Some (row.Array of length layout)) is = absurd cc
number_row (Some (row.OpenArray of)) is = absurd cc
number_row (Some (row.Function result parameters)) is = absurd cc

pointer_row : (its : Option Row) → IsTrue (is_some (pointed_of_row its)) → row_kind its ≡ kinds.pointer × (is_void_row its ≡ false)
pointer_row None is = absurd cc
pointer_row (Some row.Void) is = absurd cc
pointer_row (Some (row.Integer kind)) is = absurd cc
pointer_row (Some (row.Pointer of)) is = (refl, refl)
pointer_row (Some (row.Enumeration number)) is = absurd cc
pointer_row (Some (row.Struct number)) is = absurd cc
pointer_row (Some (row.Array of length layout)) is = absurd cc
pointer_row (Some (row.OpenArray of)) is = absurd cc
pointer_row (Some (row.Function result parameters)) is = absurd cc

-- a load of such a type
readable_row : (setting : Setting) (id : TypeId) (its : Option Row) (class : _) (layout : Bool)
    → IsTrue ((is_some (kind_of_row its) || is_some (pointed_of_row its)) || (is_struct_row its && layout))
    → kind_in (access_in (access_by setting id class (kind_of_row its) (is_some (pointed_of_row its)))) ≡ row_kind its × (is_void_row its ≡ false)
readable_row setting id None class layout is = absurd cc
readable_row setting id (Some row.Void) class layout is = absurd cc
readable_row setting id (Some (row.Integer kind)) class layout is = (refl, refl)
readable_row setting id (Some (row.Pointer of)) class layout is = (refl, refl)
readable_row setting id (Some (row.Enumeration number)) class layout is = (refl, refl)
readable_row setting id (Some (row.Struct number)) class layout is = (refl, refl)
readable_row setting id (Some (row.Array of length layout')) class layout is = absurd cc
readable_row setting id (Some (row.OpenArray of)) class layout is = absurd cc
readable_row setting id (Some (row.Function result parameters)) class layout is = absurd cc

-- ---- categories
-- what it is
abbrev of_category : Option Category → Kind
of_category None = kinds.number
of_category (Some of_void) = kinds.number
of_category (Some (of_number kind)) = kinds.number
of_category (Some of_pointer) = kinds.pointer
of_category (Some of_struct) = kinds.structure
of_category (Some of_array) = kinds.number
of_category (Some of_function) = kinds.number

-- whether it is that of void
abbrev void_category : Option Category → Bool
void_category None = false
void_category (Some of_void) = true
void_category (Some (of_number kind)) = false
void_category (Some of_pointer) = false
void_category (Some of_struct) = false
void_category (Some of_array) = false
void_category (Some of_function) = false

by_category : (its : Option Row) → row_kind its ≡ of_category (category_of_row its) × (is_void_row its ≡ void_category (category_of_row its))
by_category None = (refl, refl)
by_category (Some row.Void) = (refl, refl)
by_category (Some (row.Integer kind)) = (refl, refl)
by_category (Some (row.Pointer of)) = (refl, refl)
by_category (Some (row.Enumeration number)) = (refl, refl)
by_category (Some (row.Struct number)) = (refl, refl)
by_category (Some (row.Array of length layout)) = (refl, refl)
by_category (Some (row.OpenArray of)) = (refl, refl)
by_category (Some (row.Function result parameters)) = (refl, refl)

-- ---- of types

module _ (types : TypeTable) where
  pub number_kinds : (id : TypeId) → IsAnyNumber types id → kind_of types id ≡ kinds.number × (is_void types id ≡ false)
  number_kinds id is = number_row (row_of types id) is

  pub pointer_kinds : (id : TypeId) → IsPointer types id → kind_of types id ≡ kinds.pointer × (is_void types id ≡ false)
  pointer_kinds id is = pointer_row (row_of types id) is

  -- a number of that representation is one
  pub any_number : (its : Integer) (id : TypeId) → IsNumber types its id → IsAnyNumber types id
  any_number its id is = subst (λ found. IsTrue (is_some found)) (sym is) refl

  -- a pointer to such objects is one
  pub a_pointer : (of id : TypeId) → IsPointerTo types of id → IsPointer types id
  a_pointer of id is = subst (λ found. IsTrue (is_some found)) (sym is) refl

  pub sized_pointer : (size : ℕ) (id : TypeId) → IsPointerToSize types size id → IsPointer types id
  sized_pointer size id is = by (pointed types id) is
    where
      by : (found : Option TypeId) → size_at types found ≡ Some size → IsTrue (is_some found)
      by None so = absurd cc
      by (Some of) so = refl

  pub like_kinds : (one other : TypeId) → AreAlike types one other
      → kind_of types one ≡ kind_of types other × (is_void types one ≡ is_void types other)
  like_kinds one other alike = (
    (by_category (row_of types one)).0 ∙ ap of_category alike ∙ sym (by_category (row_of types other)).0,
    (by_category (row_of types one)).1 ∙ ap void_category alike ∙ sym (by_category (row_of types other)).1,
  )

module _ (setting : Setting) where
  -- what can be read is no void
  pub read_kind : (id : TypeId) (class : Class) → IsReadable setting.types id
      → kind_in (access_in (access_of_type setting id class)) ≡ kind_of setting.types id × (is_void setting.types id ≡ false)
  read_kind id class is = readable_row setting id (row_of setting.types id) class (is_some (layout_of setting.types id)) is

  pub access_kind : (e : LeftValue) → IsReadable setting.types (type_of_left e)
      → kind_in (access_in (access_of setting e)) ≡ kind_of setting.types (type_of_left e) × (is_void setting.types (type_of_left e) ≡ false)
  access_kind e is =
      read_kind (type_of_left e) (class_or setting (type_of_left e) (class_of setting.types setting.same setting.taken e)) is

  -- a value of it is of its kind
  pub read_value : (id : TypeId) → IsReadable setting.types id → is_void setting.types id ≡ false
  read_value id is = (read_kind id (class_of_type setting.same id) is).1
