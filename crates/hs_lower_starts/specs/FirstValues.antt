-- The code that gives an automatic variable its first value.
--     item_code setting function piece item start     from that operation on
--     item_steps setting function piece item ops      the operations with it at the end
use Rattle.std.specs.Prelude.{ℕ, List, ◌++◌, length, slice_get, Option}
use Rattle.hs_code.specs.declared.function_code.Placed.{Placed}
use Rattle.hs_lower_expressions.specs.Emitting.{limited}
use Rattle.hs_lowering.specs.Statements.{start_code}
use Rattle.hs_meaning.specs.Classes.{is_slot_declared}
use Rattle.hs_meaning.specs.Settings.{Setting}
use Rattle.hs_meaning.specs.Statements.{type_in}
use Rattle.hs_tree.specs.Trees.{TypedFunction, TypedItem}
use Rattle.hs_tree.specs.declared.head.Variable.TheVariants as name

-- one of the variables of a declaration, at its name
abbrev pub item_code : Setting → TypedFunction → ℕ → TypedItem → ℕ → List Placed
item_code setting function piece item start =
    (start_code setting function piece item.at.pos (is_slot_declared setting.types (slice_get function.variables item.variable)) (name.Local item.variable)
    (type_in (slice_get function.variables item.variable)) item.start start).ops

-- the operations with that code at the end, if there are not too many
unfoldable pub item_steps : Setting → TypedFunction → ℕ → TypedItem → List Placed → Option (List Placed)
item_steps setting function piece item ops = limited (ops ++ item_code setting function piece item (length ops))
