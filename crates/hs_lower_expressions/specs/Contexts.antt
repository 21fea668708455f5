-- What the definitions see of a context.
--     setting_in context                             what a run needs of the program
--     value_code context e, place_code context e     the code of an expression, or of the address of an lvalue
--     value_steps, place_steps, values_steps, drops_steps     the same in steps, and of lists
use Rattle.std.specs.Prelude.{ℕ, List, Option, map}
use Rattle.hs_code.specs.declared.function_code.Placed.{Placed}
use Rattle.hs_lowering.specs.Lowering.{Lowered, right_code, address_code}
use Rattle.hs_meaning.specs.Settings.{Setting}
use Rattle.hs_tree.specs.RowLaws.{rights_from}
use Rattle.hs_tree.specs.Views.{view_right, view_left}
use Rattle.hs_tree.specs.declared.head.Head.{Head}
use Rattle.hs_tree.specs.declared.value.Lvalue.{Lvalue}
use Rattle.hs_tree.specs.declared.value.Rvalue.{Rvalue}
use Rattle.hs_lower_expressions.specs.Emitting.{right_emitted, left_emitted, all_emitted, dropped_emitted}
use Rattle.hs_lower_expressions.specs.declared.context.Context.{Context}

-- its types, variables, strings, routines and classes
unfoldable pub setting_in : Context → Setting
setting_in context =
    record {
      types = context.types.now;
      globals = context.globals.now;
      literals = context.literals.now;
      routines = context.routines.now;
      same = context.same.now;
      taken = context.taken.now;
      classes = context.classes.now;
    }

-- the code of an expression
abbrev pub value_code : Context → Rvalue → Lowered
value_code context e = right_code (setting_in context) context.variables.now context.piece (view_right e)

-- the code of the address of an lvalue
abbrev pub place_code : Context → Lvalue → Lowered
place_code context e = address_code (setting_in context) context.variables.now context.piece (view_left e)

-- the operations with that code at the end
abbrev pub value_steps : Context → Rvalue → ℕ → List Placed → Option (List Placed)
value_steps context e = right_emitted (setting_in context) context.variables.now context.piece (view_right e)

-- with that of an address
abbrev pub place_steps : Context → Lvalue → ℕ → List Placed → Option (List Placed)
place_steps context e = left_emitted (setting_in context) context.variables.now context.piece (view_left e)

-- with that of all of them
abbrev pub values_steps : Context → List Rvalue → ℕ → List Placed → Option (List Placed)
values_steps context its = all_emitted (setting_in context) context.variables.now context.piece (rights_from (map view_right its))

-- with that of all of them, each dropped
abbrev pub drops_steps : Context → Head → List Rvalue → ℕ → List Placed → Option (List Placed)
drops_steps context head its =
    dropped_emitted (setting_in context) context.variables.now context.piece head (rights_from (map view_right its))
