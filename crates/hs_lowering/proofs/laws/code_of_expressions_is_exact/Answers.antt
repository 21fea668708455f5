use Rattle.hs_lowering.proofs.laws.code_of_expressions_is_exact.Goals as goal
use Rattle.hs_lowering.specs.Laws.Expressions.{value_turns, address_turns}

pub returns-clause-value : goal.returns-clause-value
returns-clause-value c = λ program variables bound code waiting choices piece again e start depth stack calls fits holds.
    (value_turns program variables bound code waiting choices piece again calls e fits stack).go start depth holds

pub returns-clause-address : goal.returns-clause-address
returns-clause-address c = λ program variables bound code waiting choices piece again e start depth stack calls fits holds.
    (address_turns program variables bound code waiting choices piece again calls e fits stack).go start depth holds
