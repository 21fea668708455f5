use Rattle.std.proofs.Common.{ap, sym, ◌+◌, ◌∙◌}
use Rattle.hs_state.specs.Machines.{machine_of}
use Rattle.hs_values.specs.Answers.{or_first}
use Rattle.hs_plain.proofs.Stopping.{pointers_left, stops_later}
use Rattle.hs_plain.proofs.arguments.use_pointers.Goals as goal

-- one pointer more does not stop
pub values-preserved : goal.values-preserved
values-preserved c =
    c.values.invariant
    ∙ ap (λ its. or_first its (tt {0}))
    (pointers_left c.args.fills (c.values.index + 1) c.args.values.now (machine_of c.args.machine.now) c.values.index c.index-values-index.result
    c.values-test.true c.index-values-index.is)
    ∙ stops_later (tt {0}) _ _ (sym c.in_ok-use_value.ensures)
