use Rattle.std.proofs.Common.{◌≡◌, ◌++◌, map, subst}
use Rattle.std.specs.Prelude.{IfOk}
use Rattle.hs_linkage.proofs.Indexed.{definitions_by_statics}
use Rattle.hs_syntax.specs.Views.{view_external}
use Rattle.hs_linkage.proofs.definitions.Definitions.with_unit.Goals as goal

-- the names with internal linkage tell which definitions have it
pub returns : goal.returns
returns c =
    subst (λ its. IfOk c.with_externals.result (λ all. all ≡ c.args.self ++ its))
    (definitions_by_statics c.in_ok-statics.statics c.args.unit (map view_external c.args.its.now) (map view_external c.args.its.now)
    c.in_ok-statics.ensures)
    c.with_externals.ensures
