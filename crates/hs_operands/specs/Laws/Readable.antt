-- The values of a type to which something is assigned can be read (X3.159-1989 3.3.16.1): a number, a pointer, or a struct whose body has come.
use Rattle.std.proofs.Common.{◌≡◌, Bool, true, false, ◌&&◌, ◌||◌, Option, Some, None, is_some, Ok, refl, ap, if◌then◌else◌}
use Rattle.hs_base.specs.Tests.{second_of_three, second_test}
use Rattle.hs_operands.specs.Assignments.{assigned_pointer, assigned_number, assigned}
use Rattle.hs_operand_types.specs.Conversions.{same_type}
use Rattle.hs_operands.specs.Laws.Made.{Makes, either_way}
use Rattle.hs_tokens.specs.declared.place.Place.{Place}
use Rattle.hs_tree.specs.Kinds.{number_kind, is_number, is_pointer, is_readable, is_struct_row}
use Rattle.hs_tree.specs.Trees.{RightValue, type_of}
use Rattle.hs_types.specs.TypeTables.{TypeTable, row_of, is_complete}
use Rattle.hs_types.specs.declared.integer.Integer.{Integer}
use Rattle.hs_types.specs.declared.row.TypeId.{TypeId}

-- one of three tests is met
readable_number : (a b c : Bool) → a ≡ true → ((a || b) || c) ≡ true
readable_number true b c is = refl
readable_number false b c is = absurd cc

-- to a number
number_readable : (types : TypeTable) (at : Place) (id : TypeId) (e : RightValue) (given : Option Integer) (test : Bool) → number_kind types id ≡ given
    → Makes (λ made. is_readable types id ≡ true) (assigned_number at id given test e)
number_readable types at id e None test known made given = absurd cc
number_readable types at id e (Some its) test known made given =
    readable_number (is_number types id) (is_pointer types id) (is_struct_row (row_of types id) && is_complete types id) (ap is_some known)

-- by the type
pub assigned_readable : (types : TypeTable) (at : Place) (id : TypeId) (e : RightValue)
    → Makes (λ made. is_readable types id ≡ true) (assigned types at id e)
assigned_readable types at id e =
    either_way (Makes (λ made. is_readable types id ≡ true)) (same_type (type_of e) id && is_readable types id) (Ok e)
    (if is_pointer types id
    then assigned_pointer types at id e
    else assigned_number at id (number_kind types id) (is_number types (type_of e)) e)
    (λ same made given. second_test (same_type (type_of e) id) (is_readable types id) same)
    (λ other. either_way (Makes (λ made. is_readable types id ≡ true)) (is_pointer types id) (assigned_pointer types at id e)
    (assigned_number at id (number_kind types id) (is_number types (type_of e)) e)
    (λ pointer made given.
    second_of_three (is_number types id) (is_pointer types id) (is_struct_row (row_of types id) && is_complete types id) pointer)
    (λ neither. number_readable types at id e (number_kind types id) (is_number types (type_of e)) refl))
