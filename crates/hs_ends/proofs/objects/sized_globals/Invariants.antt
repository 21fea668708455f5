use Rattle.std.proofs.Common.{◌≡◌, ◌++◌}
use Rattle.hs_ends.specs.Ends.{sized_globals}
use Rattle.hs_ends.proofs.objects.sized_globals.Given as goal

-- the objects so far, with those that are left, are all
abbrev pub invariant-its : goal.invariant-its
invariant-its l = l.done.items ++ sized_globals l.types l.it-iterator.rest.items ≡ sized_globals l.types l.fn.its.items
