use mathlib.Core.Logic.{∥∥₁_elim}
use Rattle.hs_code.specs.Codes.{view_program}
use Rattle.hs_safety.proofs.laws.a_program_that_never_misuses_is_safe.Goals as goal
use Rattle.hs_safety.specs.Safety.{safe_if_never_misused, safe_is_a_fact}

pub returns : goal.returns
returns c = λ never. ∥∥₁_elim c.code_of_programs_is_exact.ensures (safe_is_a_fact (view_program c.args.program.now))
    (λ exact. safe_if_never_misused (view_program c.args.program.now) exact never)
