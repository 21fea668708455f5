use Rattle.std.proofs.Common.{◌∙◌, arith}
use Rattle.std.proofs.lemmas.Grind.{common_steps}
use Rattle.hs_macros.proofs.slot.parameters_of.Goals as goal

-- the set says whether the parameter is used
pub names-preserved : goal.names-preserved
names-preserved c =
    let used = c.contains.ensures ∙ c.in_ok-texts.ensures _ in
    record {
      copied = grind (arith, common_steps);
      marked = grind (arith, common_steps);
    }
