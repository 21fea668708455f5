use mathlib.Core.Logic.{∥∥₁_map}
use Rattle.hs_code.specs.Codes.{view_program}
use Rattle.hs_lowering.proofs.laws.code_of_programs_is_code.Goals as goal
use Rattle.hs_lowering.specs.Laws.Stacking.{code_whole}

-- by what the program and its table of types keep
pub returns : goal.returns
returns c = ∥∥₁_map c.args.program.now.fits (λ fits. code_whole (view_program c.args.program.now) c.is_right.ensures fits)
