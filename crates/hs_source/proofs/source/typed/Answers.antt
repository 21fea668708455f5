-- The trees come to a typed program.
use Rattle.std.proofs.Common.{map}
use Rattle.hs_syntax.specs.Views.{view_unit}
use Rattle.hs_source.proofs.Programs.{IsTypedAs-of_boxed}
use Rattle.hs_source.proofs.source.typed.Goals as goal

pub returns : goal.returns
returns c =
    IsTypedAs-of_boxed c.args.table (map view_unit c.args.trees.now) c.program_of.result c.boxed.result c.program_of.ensures c.boxed.ensures
