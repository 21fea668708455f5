use mathlib.Core.Logic.{∥∥₁_map}
use Rattle.hs_code.specs.Codes.{view_program}
use Rattle.hs_lowering.proofs.laws.code_of_programs_is_in_range.Goals as goal
use Rattle.hs_lowering.specs.Laws.InRange.{code_ranged}

-- by what the program keeps
pub returns : goal.returns
returns c = ∥∥₁_map c.args.program.now.fits (λ fits. code_ranged (view_program c.args.program.now) fits)
