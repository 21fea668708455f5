use mathlib.Core.Logic.{∥∥₁_map}
use Rattle.hs_code.specs.Codes.{view_program}
use Rattle.hs_lowering.proofs.laws.code_of_programs_is_exact.Goals as goal
use Rattle.hs_lowering.specs.Laws.Exact.{is_exact}

-- by what the program keeps
pub returns : goal.returns
returns c = ∥∥₁_map c.args.program.now.fits (λ fits. is_exact (view_program c.args.program.now) fits)
