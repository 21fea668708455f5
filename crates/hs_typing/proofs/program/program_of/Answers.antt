use Rattle.std.proofs.Common.{rules, map}
use Rattle.hs_syntax.specs.Views.{view_unit}
use Rattle.hs_typing.specs.Keeping.{typed_fits}
use Rattle.hs_typing.specs.Programs.{view_typed}
use Rattle.hs_typing.proofs.program.program_of.Goals as goal

-- the parts of a program that units come to fit
pub whole-requires : goal.whole-requires
whole-requires c = record { fits = typed_fits c.args.table (map view_unit c.args.units.now) (view_typed c.in-Ok.it) (search rules) c.in-Ok.ensures }
