-- The conversions that operators ask for (X3.159-1989 3.2.1 and 3.3.3.3). A conversion has the place of the operator that asks for it.
--     as_kind at kind e         a number as one of that kind, by a conversion if its type is another
--     truth types at e          a condition as a number: a pointer is compared with the null pointer
use Rattle.std.specs.Prelude.{Bool, false, Result, Ok, Err, if◌then◌else◌}
use Rattle.hs_tokens.specs.declared.place.Place.{Place}
use Rattle.hs_operand_types.specs.declared.operand_end.OperandEnd.{OperandEnd}
use Rattle.hs_operand_types.specs.declared.operand_end.OperandEnd.TheVariants.{Untyped}
use Rattle.hs_tree.specs.Kinds.{is_number, is_pointer}
use Rattle.hs_tree.specs.Trees as tree
use Rattle.hs_tree.specs.Trees.{RightValue, type_of, head_of}
use Rattle.hs_tree.specs.declared.head.Head.{Head}
use Rattle.hs_types.specs.Rows.{integer_id}
use Rattle.hs_types.specs.TypeTables.{TypeTable}
use Rattle.hs_types.specs.contracts.row.TypeIdPartialEq.TheImpl as id_eq
use Rattle.hs_types.specs.declared.integer.Integer.{Integer}
use Rattle.hs_types.specs.declared.integer.Integer.TheVariants as kind
use Rattle.hs_types.specs.declared.row.TypeId.{TypeId}

-- what an expression of that type starts with
abbrev pub head_at : Place → TypeId → Head
head_at at id = record { at = at; type_id = id }

-- two types are the same if their numbers are
abbrev pub same_type : TypeId → TypeId → Bool
same_type = (id_eq.ghosts).eq

-- 3.2.1.2
abbrev pub as_kind : Place → Integer → RightValue → RightValue
as_kind at kind e =
    if same_type (type_of e) (integer_id kind) then e else tree.convert_number (head_at at (integer_id kind)) kind e

-- whether a pointer is not the null pointer, at the pointer's own place
abbrev pub is_not_nil : RightValue → RightValue
is_not_nil e = tree.is_nil (head_at (head_of e).at (integer_id kind.Int)) false e

-- 3.3.3.3, 3.3.13 to 3.3.15 and 3.6.4.1: a condition is a scalar
abbrev pub truth : TypeTable → Place → RightValue → Result RightValue OperandEnd
truth types at e =
    if is_number types (type_of e) then Ok e
    else if is_pointer types (type_of e) then Ok (is_not_nil e) else Err (Untyped at)
