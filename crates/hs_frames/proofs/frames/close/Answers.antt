use Rattle.std.proofs.Common.{ap, ◌∙◌}
use Rattle.hs_frames.specs.Ending.{ended}
use Rattle.hs_frames.proofs.Closing.{on_top, still_below, is_closed}
use Rattle.hs_state.specs.Machines.{machine_of}
use Rattle.hs_frames.proofs.frames.close.Goals as goal

-- the caller's variables are on top of what they were
pub returns-clause-closes : goal.returns-clause-closes
returns-clause-closes c = λ caller rest below. (
  is_closed caller c.close.new.self.top c.end_objects.new.objects c.saturating_sub-machine.result (machine_of c.args.machine.now)
      (on_top _ caller rest _ _ _ c.close.ensures below)
      (c.end_objects.ensures ∙ ap (λ its. ended its c.args.machine.now.objects) c.items.ensures)
      c.saturating_sub-machine.ensures,
  still_below _ caller rest _ _ _ c.close.ensures below,
)
