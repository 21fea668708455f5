-- Objects that expressions designate, their values and their addresses (X3.159-1989 3.2.2.1, 3.3.2 and 3.3.3).
--     loaded types it                     the value of an operand, and the table with its type
--     target_of types at e                `*e`
--     element_of types at a b             `a[b]`
--     member_of types at name it          `e.f`; arrow_of, `e->f`
--     address_of types at it              `&e`, and the table with its type
--     object_of at it                     the object that an operand designates
--     size_number types at it             the size of an operand, or of a type, as `sizeof` gives it (3.3.3.4)
use Rattle.std.specs.Prelude.{ℕ, Bool, true, false, List, slice_get, Option, Some, None, Result, Ok, Err, if◌then◌else◌}
use Rattle.hs_tokens.specs.declared.place.Place.{Place}
use Rattle.hs_operand_types.specs.Conversions.{head_at}
use Rattle.hs_operand_types.specs.Operands as operand
use Rattle.hs_operand_types.specs.Operands.{TypedOperand}
use Rattle.hs_operand_types.specs.Types.{designates, is_accessible}
use Rattle.hs_operands.specs.declared.objects.Found.{Found}
use Rattle.hs_operands.specs.declared.spacing.Spacing.{Spacing}
use Rattle.hs_operand_types.specs.declared.operand_end.OperandEnd.{OperandEnd}
use Rattle.hs_operand_types.specs.declared.operand_end.OperandEnd.TheVariants.{Untyped}
use Rattle.hs_tree.specs.Kinds.{is_number, pointed, element}
use Rattle.hs_tree.specs.Trees as tree
use Rattle.hs_tree.specs.Trees.{RightValue, LeftValue, type_of, type_of_left, head_of_left}
use Rattle.hs_types.specs.Members.{field_place}
use Rattle.hs_types.specs.Rows.{integer_id}
use Rattle.hs_types.specs.TypeTables.{TypeTable, row_of, layout_of, body_of, with_row, id_of}
use Rattle.hs_types.specs.declared.body.Body.{Body}
use Rattle.hs_types.specs.declared.body.Field.{Field}
use Rattle.hs_types.specs.declared.integer.Integer.TheVariants as kind
use Rattle.hs_types.specs.declared.layout.Layout.{Layout}
use Rattle.hs_types.specs.declared.row.Row.{Row}
use Rattle.hs_types.specs.declared.row.Row.TheVariants as row
use Rattle.hs_types.specs.declared.row.TypeId.{TypeId}

-- an array as the address of its first element, and any other object as what is stored in it
abbrev pub loaded_as : TypeTable → LeftValue → Option TypeId → Result (RightValue × TypeTable) OperandEnd
loaded_as types it (Some of) =
    Ok (tree.decay (head_at (head_of_left it).at (id_of (row.Pointer of) types)) it, with_row (row.Pointer of) types)
loaded_as types it None =
    if is_accessible types (type_of_left it) then Ok (tree.load (head_of_left it) it, types) else Err (Untyped (head_of_left it).at)

-- A function is not a value (own).
abbrev pub loaded : TypeTable → TypedOperand → Result (RightValue × TypeTable) OperandEnd
loaded types (operand.value e) = Ok (e, types)
loaded types (operand.object it) = loaded_as types it (element types (type_of_left it))
loaded types (operand.function it) = Err (Untyped it.head.at)

-- the object that an operand designates; a function is refused at its name
abbrev pub object_of : Place → TypedOperand → Result LeftValue OperandEnd
object_of at (operand.value e) = Err (Untyped at)
object_of at (operand.object it) = Ok it
object_of at (operand.function it) = Err (Untyped it.head.at)

-- 3.3.3.2: what a pointer points to, if objects can be of that type
abbrev pub target_at : TypeTable → Place → RightValue → Option TypeId → Result LeftValue OperandEnd
target_at types at e None = Err (Untyped at)
target_at types at e (Some of) = if designates types of then Ok (tree.target (head_at at of) e) else Err (Untyped at)

-- `*e`
abbrev pub target_of : TypeTable → Place → RightValue → Result LeftValue OperandEnd
target_of types at e = target_at types at e (pointed types (type_of e))

-- how far apart the objects are that a pointer steps over, and which operand is the pointer
abbrev pub spacing_over : Bool → TypeId → Option Layout → Option Spacing
spacing_over first of None = None
spacing_over first of (Some layout) = Some (record { of = of; size = layout.size; pointer_first = first })

-- if there is such a type
abbrev pub spacing_by : TypeTable → Bool → Option TypeId → Option Spacing
spacing_by types first None = None
spacing_by types first (Some of) = spacing_over first of (layout_of types of)

-- one operand is a number, and the other a pointer to a complete type
abbrev pub spacing : TypeTable → TypeId → TypeId → Option Spacing
spacing types a b =
    if is_number types b then spacing_by types true (pointed types a)
    else if is_number types a then spacing_by types false (pointed types b)
    else None

-- 3.3.2.1
abbrev pub element_by : Place → RightValue → RightValue → Option Spacing → Result LeftValue OperandEnd
element_by at a b None = Err (Untyped at)
element_by at a b (Some it) = Ok (tree.element (head_at at it.of) it.size it.pointer_first a b)

-- `a[b]`
abbrev pub element_of : TypeTable → Place → RightValue → RightValue → Result LeftValue OperandEnd
element_of types at a b = element_by at a b (spacing types (type_of a) (type_of b))

-- 3.3.2.3: a field, by its place
abbrev pub found_field : ℕ → ℕ → Option Field → Option Found
found_field number place None = None
found_field number place (Some field) =
    Some (record { field = record { of = number; place = place }; type_id = field.type_id; offset = field.offset })

-- by the place of its name
abbrev pub found_place : ℕ → List Field → Option ℕ → Option Found
found_place number fields None = None
found_place number fields (Some place) = found_field number place (slice_get fields place)

-- in a body
abbrev pub found_in : ℕ → List ℕ → Option Body → Option Found
found_in number name None = None
found_in number name (Some body) = found_place number body.fields (field_place name body.fields)

-- of a struct whose body has come
abbrev pub found_of_row : TypeTable → List ℕ → Option Row → Option Found
found_of_row types name None = None
found_of_row types name (Some row.Void) = None
found_of_row types name (Some (row.Integer kind)) = None
found_of_row types name (Some (row.Pointer of)) = None
found_of_row types name (Some (row.Enumeration number)) = None
found_of_row types name (Some (row.Struct number)) = found_in number name (body_of types number)
found_of_row types name (Some (row.Array of length layout)) = None
found_of_row types name (Some (row.OpenArray of)) = None
found_of_row types name (Some (row.Function result parameters)) = None

-- in a type, by its number
abbrev pub found_at : TypeTable → List ℕ → TypeId → Option Found
found_at types name id = found_of_row types name (row_of types id)

-- a member of a struct value that is no object is refused (own)
abbrev pub member_by : Place → LeftValue → Option Found → Result LeftValue OperandEnd
member_by at it None = Err (Untyped at)
member_by at it (Some found) = Ok (tree.member (head_at at found.type_id) found.field found.offset it)

-- `e.f`
abbrev pub member_of : TypeTable → Place → List ℕ → LeftValue → Result LeftValue OperandEnd
member_of types at name it = member_by at it (found_at types name (type_of_left it))

-- in the struct that a pointer points to
abbrev pub found_behind : TypeTable → List ℕ → Option TypeId → Option Found
found_behind types name None = None
found_behind types name (Some of) = found_at types name of

-- if there is such a field
abbrev pub arrow_by : Place → RightValue → Option Found → Result LeftValue OperandEnd
arrow_by at e None = Err (Untyped at)
arrow_by at e (Some found) = Ok (tree.arrow (head_at at found.type_id) found.field found.offset e)

-- `e->f`
abbrev pub arrow_of : TypeTable → Place → List ℕ → RightValue → Result LeftValue OperandEnd
arrow_of types at name e = arrow_by at e (found_behind types name (pointed types (type_of e)))

-- 3.3.3.2
abbrev pub address_of : TypeTable → Place → LeftValue → RightValue × TypeTable
address_of types at it =
    (tree.address (head_at at (id_of (row.Pointer (type_of_left it)) types)) it, with_row (row.Pointer (type_of_left it)) types)

-- 3.3.3.4: an unsigned long
abbrev pub size_by : Place → Option Layout → Result RightValue OperandEnd
size_by at None = Err (Untyped at)
size_by at (Some layout) = Ok (tree.number (head_at at (integer_id kind.UnsignedLong)) layout.size)

-- of a complete type
abbrev pub size_number : TypeTable → Place → TypeId → Result RightValue OperandEnd
size_number types at id = size_by at (layout_of types id)

-- a function is refused at its name
abbrev pub size_of_operand : TypeTable → Place → TypedOperand → Result RightValue OperandEnd
size_of_operand types at (operand.value e) = size_number types at (type_of e)
size_of_operand types at (operand.object it) = size_number types at (type_of_left it)
size_of_operand types at (operand.function it) = Err (Untyped it.head.at)
