-- The units are parsed, and their trees are typed.
use Rattle.std.proofs.Common.{map}
use Rattle.hs_syntax.specs.Views.{view_unit}
use Rattle.hs_source.proofs.Programs.{IsProgramOf-of_refused, IsProgramOf-of_typed}
use Rattle.hs_source.proofs.source.program_of.Goals as goal

pub returns-in-Ok : goal.returns-in-Ok
returns-in-Ok c =
    IsProgramOf-of_typed c.args.table c.args.units.now (map view_unit c.in-Ok.trees.items) c.typed.result c.in-Ok.ensures
    (rw c.deref.ensures.value at c.typed.ensures)

pub returns-in-Err : goal.returns-in-Err
returns-in-Err c = IsProgramOf-of_refused c.args.table c.args.units.now c.in-Err.error c.in-Err.ensures
