use Rattle.std.proofs.Common.{◌≡◌, ◌+◌, ap, ◌∙◌, rules, Err}
use Rattle.hs_state.specs.Machines.{machine_of}
use Rattle.hs_state.specs.Settings.{setting_here}
use Rattle.hs_frames.proofs.Giving.{given_next, given_none}
use Rattle.hs_frames.proofs.parameters.give_all.Goals as goal

-- a value is not stored
pub returns-in_err-give-clause-does : goal.returns-in_err-give-clause-does
returns-in_err-give-clause-does c =
    let stopped = given_none (setting_here c.args.setting.now) c.parameters.place c.parameters.parameter-index c.args.parameters.now
    c.parameter-item.result c.parameters.left.now c.in-Some.rest.now c.in-Some.value.now (machine_of c.parameters.machine)
    (machine_of c.give.new.machine) c.in_err-give.field-0.0 c.parameters-test.true c.parameter-item.is (search rules) c.in_err-give.ensures.does
    in let is : c.from_residual.result ≡ Err c.in_err-give.field-0.0 = search rules
    in rw (← c.parameters.invariant.same, is) stopped

-- one parameter more has its value
pub parameters-preserved : goal.parameters-preserved
parameters-preserved c =
    record {
      same =
          given_next (setting_here c.args.setting.now) c.parameters.place c.parameters.parameter-index c.args.parameters.now
          c.parameter-item.result c.parameters.left.now c.in-Some.rest.now c.in-Some.value.now (machine_of c.parameters.machine)
          (machine_of c.give.new.machine) c.parameters-test.true c.parameter-item.is (search rules) c.in_ok-give.ensures.does
          ∙ c.parameters.invariant.same;
      placed = ap (λ it. it + 1) c.parameters.invariant.placed;
      keeps = search rules;
    }
