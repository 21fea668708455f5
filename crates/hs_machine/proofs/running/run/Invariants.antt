-- The run is where the runner is, under the decisions so far, which the mover told.
use Rattle.std.proofs.Common.{◌≡◌, length}
use Rattle.hs_machine.proofs.Telling.{TellsSo}
use Rattle.hs_machine.proofs.running.run.Given as goal
use Rattle.hs_machine.specs.Programs.{program_here}
use Rattle.hs_machine.specs.Recording.{NamesBlocks}
use Rattle.hs_machine.specs.Running.{IsThere}

abbrev pub invariant-operations : goal.invariant-operations
invariant-operations g l =
    let now = goal.Mover-dyn g (l.mover.vtable, l.mover.value) in
    let first = goal.Mover-dyn g (l.fn.mover.vtable, l.fn.mover.value) in
    record {
      there : IsThere (program_here l.loaded) l.fn.runner l.recorder.decisions.items l.runner;
      tells : TellsSo (first.told l.fn.mover.value) l.recorder.decisions.items (now.told l.mover.value);
      names_blocks : NamesBlocks l.recorder.decisions.items;
      counted : l.runner.machine.heap.shifts ≡ length l.recorder.decisions.items;
      same_number : now.number l.mover.value ≡ first.number l.fn.mover.value;
    }
