-- A decision at the end counts as it does at the front.
use Rattle.std.proofs.Common.{arith}
use Rattle.hs_machine.specs.Recording.{size_of-more}
use Rattle.hs_machine.proofs.recorder.Recorder.size_with.Goals as goal

pub returns-then-size-number : goal.returns-then-size-number
returns-then-size-number c =
    (c.passed.ensures.kind, c.passed.ensures.reached, omega (arith, size_of-more c.args.self.now.decisions.items c.args.decision.now))

pub returns : goal.returns
returns c =
    let whole = size_of-more c.args.self.now.decisions.items c.args.decision.now in
    (omega arith, omega arith)
