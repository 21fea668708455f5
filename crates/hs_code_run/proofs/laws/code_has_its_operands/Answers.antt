use mathlib.Core.Logic.{∥∥₁_map₂}
use Rattle.hs_code.specs.Codes.{view_program}
use Rattle.hs_code_run.proofs.laws.code_has_its_operands.Goals as goal
use Rattle.hs_code_run.specs.Laws.Depths.Programs.{code_is_stacked}

-- by what the code and the program keep
pub returns : goal.returns
returns c =
    ∥∥₁_map₂ c.args.code.now.whole c.args.code.now.program.now.fits
    (λ is fits.
    code_is_stacked (view_program c.args.code.now.program.now) c.args.code.now.classes.items c.args.code.now.functions.items fits.functions is)
