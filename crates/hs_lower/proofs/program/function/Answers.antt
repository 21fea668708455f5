use Rattle.std.proofs.Common.{rules, ◌≡◌}
use Rattle.hs_code.specs.declared.function_code.FunctionCode.{FunctionCode}
use Rattle.hs_lowering.specs.Statements.{as_code, function_code}
use Rattle.hs_lower.specs.Places.{setting_here, function_here}
use Rattle.hs_lower.proofs.Wholes.{written_is, ended}
use Rattle.hs_lower.proofs.program.function.Goals as goal

-- there are too many operations
pub returns-in_err-ops-clause-code : goal.returns-in_err-ops-clause-code
returns-in_err-ops-clause-code c =
    let past = ended (setting_here c.args.lowering.now) (function_here c.args.lowering.now)
    (λ (its : FunctionCode). its ≡ as_code (function_code (setting_here c.args.lowering.now) (function_here c.args.lowering.now)))
    c.in_err-ops.field-0.0 c.in_err-ops.ensures.done in
    search (rules, past)

-- what is written is the code
pub returns-clause-code : goal.returns-clause-code
returns-clause-code c =
    let both = written_is (setting_here c.args.lowering.now) (function_here c.args.lowering.now) c.in_ok-ops.field-0 c.in_ok-ops.ensures.done in
    search (rules, both)
