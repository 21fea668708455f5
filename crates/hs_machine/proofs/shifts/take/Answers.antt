-- There are no more shifts than decisions, and no more decisions than the limit of scripts.
use Rattle.std.proofs.Common.{arith}
use Rattle.hs_machine.proofs.shifts.take.Goals as goal
use Rattle.hs_machine.specs.Recording.{length_in_size}

pub shift-requires : goal.shift-requires
shift-requires g c = record { shifts_left = omega (arith, length_in_size c.args.recorder.now.decisions.items) }
