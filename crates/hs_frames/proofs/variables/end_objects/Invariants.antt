use Rattle.std.proofs.Common.{◌≡◌, drop}
use Rattle.hs_frames.specs.Ending.{ended}
use Rattle.hs_frames.proofs.variables.end_objects.Given as goal

-- The objects of the variables that are left end after those that have ended.
abbrev pub invariant-locals : goal.invariant-locals
invariant-locals l = ended (drop l.binding-index l.locals) l.objects ≡ ended l.locals l.fn.objects
