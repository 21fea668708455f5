-- Calls, and what those of the code are.
--     call_of at number its, call_routine_of at number its      the call with that result and these arguments
use Rattle.std.specs.Prelude.{ℕ, List, None, map}
use Rattle.hs_tokens.specs.declared.place.Place.{Place}
use Rattle.hs_operand_types.specs.Conversions.{head_at}
use Rattle.hs_operands.specs.declared.calls.CheckedCall.{CheckedCall}
use Rattle.hs_operands.specs.declared.calls.Signature.{Signature}
use Rattle.hs_tree.specs.RowLaws.{rights_from}
use Rattle.hs_tree.specs.Trees as tree
use Rattle.hs_tree.specs.Trees.{RightValue}
use Rattle.hs_tree.specs.Views.{view_right}
use Rattle.hs_types.specs.declared.row.ListId.{ListId}
use Rattle.hs_types.specs.declared.row.TypeId.{TypeId}

-- a signature of the code
abbrev pub view_signature : Signature → TypeId × ListId
view_signature it = (it.result, it.parameters)

-- and what it gives for a call
abbrev pub view_called : CheckedCall → TypeId × List RightValue
view_called it = (it.result, map view_right it.arguments.items)

-- of a defined function
abbrev pub call_of : Place → ℕ → TypeId × List RightValue → RightValue
call_of at number its = tree.call (head_at at its.0) number None (rights_from its.1)

-- of a routine
abbrev pub call_routine_of : Place → ℕ → TypeId × List RightValue → RightValue
call_routine_of at number its = tree.call_routine (head_at at its.0) number (rights_from its.1)
