use mathlib.Core.Logic.{∥∥₁_map}
use Rattle.hs_code.specs.Codes.{view_program}
use Rattle.hs_lowering.proofs.laws.programs_name_what_is_there.Goals as goal
use Rattle.hs_lowering.specs.Laws.Functions.{code_names}
use Rattle.hs_lowering.specs.Laws.Named.{names_fit}

-- by what the program keeps
pub returns-clause-expressions : goal.returns-clause-expressions
returns-clause-expressions c = ∥∥₁_map c.args.program.now.fits (λ fits. names_fit (view_program c.args.program.now) fits)

pub returns-clause-code : goal.returns-clause-code
returns-clause-code c = ∥∥₁_map c.args.program.now.fits (λ fits. code_names (view_program c.args.program.now) fits)
