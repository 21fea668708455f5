-- What the definitions see of a `Lowering`.
--     setting_with, setting_here      what a run needs of the program
--     function_here                   the function
use Rattle.std.specs.Prelude.{List}
use Rattle.hs_meaning.specs.Settings.{Setting}
use Rattle.hs_tree.specs.Trees.{TypedFunction}
use Rattle.hs_tree.specs.Views.{view_function}
use Rattle.hs_tree.specs.declared.class.Class.{Class}
use Rattle.hs_tree.specs.declared.program.Program.{Program}
use Rattle.hs_lower.specs.declared.lowering.Lowering.{Lowering}

-- the types, variables, strings and routines of a program, and those classes
unfoldable pub setting_with : Program → List Class → Setting
setting_with program classes =
    record {
      types = program.types;
      globals = program.globals;
      literals = program.literals;
      routines = program.routines;
      same = program.same;
      taken = program.taken;
      classes = classes;
    }

-- those of the function that is lowered
abbrev pub setting_here : Lowering → Setting
setting_here lowering = setting_with lowering.program.now lowering.classes.now

-- as contracts see it
abbrev pub function_here : Lowering → TypedFunction
function_here lowering = view_function lowering.function.now
