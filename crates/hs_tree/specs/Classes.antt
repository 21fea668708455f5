-- The classes of pointers, and the variables that are slots (own). Both depend on what the program takes the address of anywhere.
--     class_of types same taken object  the class of an lvalue of pointer type
--     is_slot types variable            the variable is a slot, and no object of cells
use Rattle.std.specs.Prelude.{Bool, not, ◌&&◌, List, Option, Some, None, if◌then◌else◌}
use Rattle.std.specs.List.{list_any}
use Rattle.hs_tree.specs.Kinds.{is_pointer, is_scalar}
use Rattle.hs_tree.specs.Representatives.{field_for, type_for}
use Rattle.hs_tree.specs.Trees as tree
use Rattle.hs_tree.specs.Trees.{LeftValue, type_of_left}
use Rattle.hs_tree.specs.declared.class.Class.{Class}
use Rattle.hs_tree.specs.declared.class.Class.TheVariants.{Field, Pointer}
use Rattle.hs_tree.specs.declared.head.VariableDecl.{VariableDecl}
use Rattle.hs_tree.specs.declared.representatives.Representatives.{Representatives}
use Rattle.hs_types.specs.TypeTables.{TypeTable}
use Rattle.hs_types.specs.contracts.row.FieldIdPartialEq.TheImpl as field_eq
use Rattle.hs_types.specs.declared.row.FieldId.{FieldId}
use Rattle.hs_types.specs.declared.row.TypeId.{TypeId}

-- the same struct and place
abbrev pub same_field : FieldId → FieldId → Bool
same_field = (field_eq.ghosts).eq

-- the field is in the list
abbrev pub is_taken : List FieldId → FieldId → Bool
is_taken taken field = list_any (same_field field) taken

-- The program takes the address of the field, in one unit or another: the list has the fields that stand for those that it takes.
abbrev pub is_taken_anywhere : Representatives → List FieldId → FieldId → Bool
is_taken_anywhere same taken field = is_taken taken (field_for same field)

-- a field of that type
abbrev pub class_of_field : Representatives → List FieldId → TypeId → FieldId → Class
class_of_field same taken id field = if is_taken_anywhere same taken field then Pointer (type_for same id) else Field (field_for same field)

-- A field whose address is never taken is a class of its own; any other pointer is of the class of its type.
-- Types that are one in several units are one class.
abbrev pub class_of_pointer : Representatives → List FieldId → LeftValue → Class
class_of_pointer same taken (tree.member head field offset object) = class_of_field same taken head.type_id field
class_of_pointer same taken (tree.arrow head field offset pointer) = class_of_field same taken head.type_id field
class_of_pointer same taken (tree.variable head name) = Pointer (type_for same head.type_id)
class_of_pointer same taken (tree.literal head number) = Pointer (type_for same head.type_id)
class_of_pointer same taken (tree.target head pointer) = Pointer (type_for same head.type_id)
class_of_pointer same taken (tree.element head size pointer_first left right) = Pointer (type_for same head.type_id)

-- an lvalue of another type has no class
abbrev pub class_of : TypeTable → Representatives → List FieldId → LeftValue → Option Class
class_of types same taken object =
    if is_pointer types (type_of_left object) then Some (class_of_pointer same taken object) else None

-- a number or a pointer whose address is never taken
abbrev pub is_slot : TypeTable → VariableDecl → Bool
is_slot types variable = is_scalar types variable.type_id && not variable.taken
