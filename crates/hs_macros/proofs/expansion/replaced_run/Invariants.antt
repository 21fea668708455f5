use Rattle.std.proofs.Common.{◌≡◌, ◌+◌}
use Rattle.hs_macros.specs.Numbers.{names_in, definitions_in}
use Rattle.hs_macros.specs.Replacement.{replaced_by, replaced}
use Rattle.hs_macros.specs.Frames.{frame_outcome, resumed, with_sources, weights, weight}
use Rattle.hs_macros.proofs.expansion.replaced_run.Given as goal

-- what all gave already, and what is left, come to what all comes to
abbrev pub invariant-steps : goal.invariant-steps
invariant-steps l =
    let names = names_in l.table.entries in
    let macros = definitions_in l.table.entries in
    with_sources l.sources.items (replaced_by (resumed names macros l.calls.items (frame_outcome names macros l.frame)))
    ≡ replaced macros l.fn.left l.run

-- each step leaves less to do
abbrev pub decreases-steps : goal.decreases-steps
decreases-steps l = weights (names_in l.table.entries) l.calls.items + weight l.frame
