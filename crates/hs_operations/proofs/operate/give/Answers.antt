-- What each operation gives is what its function gives.
use Rattle.std.proofs.Common.{arith}
use Rattle.std.proofs.lemmas.Grind.{common_steps}
use Rattle.hs_state.specs.Machines.{machine_of}
use Rattle.hs_operations.proofs.Operating.{answers_do}
use Rattle.hs_operations.proofs.operate.give.Goals as goal

pub returns-in-Load : goal.returns-in-Load
returns-in-Load c = λ setting. rw c.in-Load.is (c.load.ensures setting)

pub returns-in-Get : goal.returns-in-Get
returns-in-Get c =
    λ setting.
    let only = c.in-Get.is in
    answers_do c.args.op setting c.args.values.now (machine_of c.args.machine.now) c.answer.result (grind (arith, common_steps)) c.answer.ensures
