-- Conversions as by assignment, assignments, casts, `?:` and calls (X3.159-1989 3.3.2.2, 3.3.4 and 3.3.15 to 3.3.17).
--     assigned types at id e                a value, converted to the type of what it is assigned to
--     assign_of types at it e               `l = e`
--     update_of types at op it e            `l op= e`; post_update_of, `l++` and `l--`
--     one at                                the 1 of `++l`
--     cast_of types at id e                 `(type)e`
--     conditional_of types at test a b      `c ? a : b`
--     comma_of at lefts e                   `a, b, c`
--     called types at id arguments          the result and the arguments of a call of a function of that type
use Rattle.std.specs.Prelude.{ℕ, Bool, true, false, ◌&&◌, ◌||◌, List, [], ◌∷◌, ◌++◌, slice_get, Option, Some, None, Result, Ok, Err, if◌then◌else◌}
use Rattle.hs_tokens.specs.declared.place.Place.{Place}
use Rattle.hs_operand_types.specs.Answers.{◌>>=◌}
use Rattle.hs_operand_types.specs.Constants.{is_null_constant}
use Rattle.hs_operand_types.specs.Conversions.{head_at, same_type, as_kind, truth}
use Rattle.hs_operands.specs.Operators.{is_shift}
use Rattle.hs_operand_types.specs.Types.{are_compatible, is_accessible, is_open}
use Rattle.hs_operand_types.specs.declared.operand_end.OperandEnd.{OperandEnd}
use Rattle.hs_operand_types.specs.declared.operand_end.OperandEnd.TheVariants.{Untyped}
use Rattle.hs_tree.specs.Kinds.{number_kind, is_number, is_pointer, is_scalar, is_readable, is_void, pointed, size_at}
use Rattle.hs_tree.specs.RowLaws.{rights_from}
use Rattle.hs_tree.specs.Trees as tree
use Rattle.hs_tree.specs.Trees.{RightValue, LeftValue, type_of, type_of_left}
use Rattle.hs_tree.specs.declared.operators.Arithmetic.{Arithmetic}
use Rattle.hs_tree.specs.declared.operators.Arithmetic.TheVariants as arithmetic
use Rattle.hs_types.specs.Integers.{promoted, common}
use Rattle.hs_types.specs.Rows.{integer_id}
use Rattle.hs_types.specs.TypeTables.{TypeTable, row_of, is_complete}
use Rattle.hs_types.specs.declared.integer.Integer.{Integer}
use Rattle.hs_types.specs.declared.integer.Integer.TheVariants as kind
use Rattle.hs_types.specs.declared.row.ListId.{ListId}
use Rattle.hs_types.specs.declared.row.Parameters.{Parameters}
use Rattle.hs_types.specs.declared.row.Parameters.TheVariants.{Empty, More}
use Rattle.hs_types.specs.declared.row.Row.{Row}
use Rattle.hs_types.specs.declared.row.Row.TheVariants as row
use Rattle.hs_types.specs.declared.row.TypeId.{TypeId}

-- to a pointer: a null pointer constant becomes the null pointer, and any pointer converts to any other (own, wider than C)
abbrev pub assigned_pointer : TypeTable → Place → TypeId → RightValue → Result RightValue OperandEnd
assigned_pointer types at id e =
    if is_null_constant types e then Ok (tree.nil (head_at at id))
    else if is_pointer types (type_of e) then Ok (tree.convert_pointer (head_at at id) e)
    else Err (Untyped at)

-- to a number
abbrev pub assigned_number : Place → TypeId → Option Integer → Bool → RightValue → Result RightValue OperandEnd
assigned_number at id None number e = Err (Untyped at)
assigned_number at id (Some its) true e = Ok (tree.convert_number (head_at at id) its e)
assigned_number at id (Some its) false e = Err (Untyped at)

-- 3.3.16.1: a value of the same type stays as it is, and structs of another type are refused
abbrev pub assigned : TypeTable → Place → TypeId → RightValue → Result RightValue OperandEnd
assigned types at id e =
    if same_type (type_of e) id && is_readable types id then Ok e
    else if is_pointer types id then assigned_pointer types at id e
    else assigned_number at id (number_kind types id) (is_number types (type_of e)) e

-- 3.3.16.1
abbrev pub assign_of : TypeTable → Place → LeftValue → RightValue → Result RightValue OperandEnd
assign_of types at it e =
    if is_accessible types (type_of_left it)
    then (do
      converted ← assigned types at (type_of_left it) e
      Ok (tree.assign (head_at at (type_of_left it)) it converted))
    else Err (Untyped at)

-- 3.3.16.2: the kind of the operation, and the right operand as it asks for it
abbrev pub update_with : Place → Arithmetic → Integer → Integer → LeftValue → RightValue → RightValue
update_with at op to its it e =
    if is_shift op
    then tree.update (head_at at (type_of_left it)) op (promoted to) to it (as_kind at (promoted its) e)
    else tree.update (head_at at (type_of_left it)) op (common to its) to it (as_kind at (common to its) e)

-- pointers are added to and subtracted from
abbrev pub direction : Arithmetic → Option Bool
direction arithmetic.Add = Some false
direction arithmetic.Subtract = Some true
direction arithmetic.Multiply = None
direction arithmetic.Divide = None
direction arithmetic.Remainder = None
direction arithmetic.ShiftLeft = None
direction arithmetic.ShiftRight = None
direction arithmetic.BitAnd = None
direction arithmetic.BitXor = None
direction arithmetic.BitOr = None

-- `p += n` and `p -= n`
abbrev pub advance_by : Place → Option Bool → Option ℕ → LeftValue → RightValue → Result RightValue OperandEnd
advance_by at None size it e = Err (Untyped at)
advance_by at (Some backward) None it e = Err (Untyped at)
advance_by at (Some backward) (Some size) it e =
    Ok (tree.advance (head_at at (type_of_left it)) (record { size = size; backward = backward }) it e)

-- `l op= e`: of two numbers, or of a pointer to a complete type and a number
abbrev pub update_by : TypeTable → Place → Arithmetic → Option Integer → Option Integer → LeftValue → RightValue → Result RightValue OperandEnd
update_by types at op to None it e = Err (Untyped at)
update_by types at op (Some to) (Some its) it e = Ok (update_with at op to its it e)
update_by types at op None (Some its) it e = advance_by at (direction op) (size_at types (pointed types (type_of_left it))) it e

-- by the types of both
abbrev pub update_of : TypeTable → Place → Arithmetic → LeftValue → RightValue → Result RightValue OperandEnd
update_of types at op it e =
    if is_accessible types (type_of_left it)
    then update_by types at op (number_kind types (type_of_left it)) (number_kind types (type_of e)) it e
    else Err (Untyped at)

-- `++l` is `l += 1` (3.3.3.1)
abbrev pub one : Place → RightValue
one at = tree.number (head_at at (integer_id kind.Int)) 1

-- 3.3.2.4: of a number, or of a pointer to a complete type
abbrev pub post_advance_by : Place → Option Bool → Option ℕ → LeftValue → Result RightValue OperandEnd
post_advance_by at None size it = Err (Untyped at)
post_advance_by at (Some backward) None it = Err (Untyped at)
post_advance_by at (Some backward) (Some size) it =
    Ok (tree.post_advance (head_at at (type_of_left it)) (record { size = size; backward = backward }) it)

-- of a number, in the common type with int
abbrev pub post_update_by : TypeTable → Place → Arithmetic → Option Integer → LeftValue → Result RightValue OperandEnd
post_update_by types at op (Some to) it = Ok (tree.post_update (head_at at (type_of_left it)) op (common to kind.Int) to it)
post_update_by types at op None it = post_advance_by at (direction op) (size_at types (pointed types (type_of_left it))) it

-- by its type
abbrev pub post_update_of : TypeTable → Place → Arithmetic → LeftValue → Result RightValue OperandEnd
post_update_of types at op it =
    if is_accessible types (type_of_left it) then post_update_by types at op (number_kind types (type_of_left it)) it else Err (Untyped at)

-- 3.3.4: to void anything, and otherwise a scalar to a scalar type, which is complete. Between a number and a pointer only a null
-- pointer constant is converted (own).
abbrev pub cast_of : TypeTable → Place → TypeId → RightValue → Result RightValue OperandEnd
cast_of types at id e =
    if is_void types id then Ok (tree.cast (head_at at id) e)
    else if is_scalar types id && is_complete types id
    then (do
      converted ← assigned types at id e
      Ok (tree.cast (head_at at id) converted))
    else Err (Untyped at)

-- 3.3.15: a pointer as one of that type
abbrev pub as_pointer : Place → TypeId → RightValue → RightValue
as_pointer at id e = if same_type (type_of e) id then e else tree.convert_pointer (head_at at id) e

-- both as pointers of that type
abbrev pub pointers_chosen : Place → TypeId → RightValue → RightValue → RightValue → RightValue
pointers_chosen at id test a b = tree.conditional (head_at at id) test (as_pointer at id a) (as_pointer at id b)

-- A pointer to void makes the result one. Of compatible types it is the first, but an array of known length comes before one whose
-- length is not known (3.1.2.6).
abbrev pub pointer_branches : TypeTable → Place → Option TypeId → Option TypeId → RightValue → RightValue → RightValue → Result RightValue OperandEnd
pointer_branches types at None second test a b = Err (Untyped at)
pointer_branches types at (Some first) None test a b = Err (Untyped at)
pointer_branches types at (Some first) (Some second) test a b =
    if is_void types first then Ok (pointers_chosen at (type_of a) test a b)
    else if is_void types second then Ok (pointers_chosen at (type_of b) test a b)
    else if are_compatible types first second
    then Ok (pointers_chosen at (if is_open types first then type_of b else type_of a) test a b)
    else Err (Untyped at)

-- values of one type; a pointer and a null pointer constant; two pointers
abbrev pub other_branches : TypeTable → Place → RightValue → RightValue → RightValue → Result RightValue OperandEnd
other_branches types at test a b =
    if same_type (type_of a) (type_of b) then Ok (tree.conditional (head_at at (type_of a)) test a b)
    else if is_pointer types (type_of a) && is_null_constant types b
    then Ok (tree.conditional (head_at at (type_of a)) test a (tree.nil (head_at at (type_of a))))
    else if is_pointer types (type_of b) && is_null_constant types a
    then Ok (tree.conditional (head_at at (type_of b)) test (tree.nil (head_at at (type_of b))) b)
    else pointer_branches types at (pointed types (type_of a)) (pointed types (type_of b)) test a b

-- two numbers are converted to their common type
abbrev pub numbers_chosen : Place → Integer → RightValue → RightValue → RightValue → RightValue
numbers_chosen at its test a b = tree.conditional (head_at at (integer_id its)) test (as_kind at its a) (as_kind at its b)

-- if both are numbers
abbrev pub branches_by : TypeTable → Place → Option Integer → Option Integer → RightValue → RightValue → RightValue → Result RightValue OperandEnd
branches_by types at None second test a b = other_branches types at test a b
branches_by types at (Some first) None test a b = other_branches types at test a b
branches_by types at (Some first) (Some second) test a b = Ok (numbers_chosen at (common first second) test a b)

-- the condition first
abbrev pub conditional_of : TypeTable → Place → RightValue → RightValue → RightValue → Result RightValue OperandEnd
conditional_of types at test a b = do
  condition ← truth types at test
  branches_by types at (number_kind types (type_of a)) (number_kind types (type_of b)) condition a b

-- 3.3.17
abbrev pub comma_of : Place → List RightValue → RightValue → RightValue
comma_of at lefts e = tree.comma (head_at at (type_of e)) (rights_from lefts) e

-- the next parameter, and the list of the others
abbrev pub next_parameter : Place → Option Parameters → Result (TypeId × ListId) OperandEnd
next_parameter at None = Err (Untyped at)
next_parameter at (Some Empty) = Err (Untyped at)
next_parameter at (Some (More first others)) = Ok (first, others)

-- all parameters have an argument
abbrev pub no_parameter : Place → List RightValue → Option Parameters → Result (List RightValue) OperandEnd
no_parameter at done None = Err (Untyped at)
no_parameter at done (Some Empty) = Ok done
no_parameter at done (Some (More first others)) = Err (Untyped at)

-- 3.3.2.2: as many arguments as parameters, each converted as by assignment; `done` are those before
abbrev pub matched : TypeTable → Place → List RightValue → ListId → List RightValue → Result (List RightValue) OperandEnd
matched types at done list [] = no_parameter at done (slice_get types.lists list.number)
matched types at done list (e ∷ rest) = do
  parameter ← next_parameter at (slice_get types.lists list.number)
  converted ← assigned types at parameter.0 e
  matched types at (done ++ converted ∷ []) parameter.1 rest

-- what a function gives, and its parameters
abbrev pub signature_of_row : Place → Option Row → Result (TypeId × ListId) OperandEnd
signature_of_row at None = Err (Untyped at)
signature_of_row at (Some row.Void) = Err (Untyped at)
signature_of_row at (Some (row.Integer kind)) = Err (Untyped at)
signature_of_row at (Some (row.Pointer of)) = Err (Untyped at)
signature_of_row at (Some (row.Enumeration number)) = Err (Untyped at)
signature_of_row at (Some (row.Struct number)) = Err (Untyped at)
signature_of_row at (Some (row.Array of length layout)) = Err (Untyped at)
signature_of_row at (Some (row.OpenArray of)) = Err (Untyped at)
signature_of_row at (Some (row.Function result parameters)) = Ok (result, parameters)

-- A function gives nothing, or a value that can be read.
abbrev pub returned : TypeTable → Place → TypeId → Result TypeId OperandEnd
returned types at id = if is_void types id || is_readable types id then Ok id else Err (Untyped at)

-- the arguments first, then the result
abbrev pub called : TypeTable → Place → TypeId → List RightValue → Result (TypeId × List RightValue) OperandEnd
called types at id arguments = do
  signature ← signature_of_row at (row_of types id)
  converted ← matched types at [] signature.1 arguments
  result ← returned types at signature.0
  Ok (result, converted)
