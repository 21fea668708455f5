use Rattle.std.proofs.Common.{[], ◌∙◌, Err, map, sym, subst}
use Rattle.hs_functions.specs.Units.{units_of}
use Rattle.hs_syntax.specs.Views.{view_unit}
use Rattle.hs_typing.specs.Programs.{ended, IsTyped}
use Rattle.hs_typing.proofs.Refused.{refused_is}
use Rattle.hs_typing.proofs.program.translated.Goals as goal

-- a refusal of a unit is one of the program
pub returns-in-Err : goal.returns-in-Err
returns-in-Err c =
    subst (λ why. IsTyped (ended (units_of [] (map view_unit c.args.units.now) c.args.m)) (Err why)) (sym (c.given_up.ensures ∙ c.refused.ensures))
    (refused_is (units_of [] (map view_unit c.args.units.now) c.args.m) c.in-Err.why c.in-Err.ensures)
