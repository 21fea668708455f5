use Rattle.std.proofs.Common.{◌≡◌, ◌++◌, map, take, drop}
use Rattle.hs_lower_expressions.specs.Aims.{targets_of, aimed}
use Rattle.hs_lower_expressions.proofs.ops.aim_all.Given as goal

-- Those that have their targets, and the others with theirs, are all of them with theirs.
abbrev pub invariant-loop-its : goal.invariant-loop-its
invariant-loop-its l =
    take l.its-index l.its ++ map (aimed (targets_of l.exits)) (drop l.its-index l.its) ≡ map (aimed (targets_of l.exits)) l.fn.its
