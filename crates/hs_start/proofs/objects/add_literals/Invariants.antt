use Rattle.std.proofs.Common.{◌≡◌, ◌++◌, map, drop}
use Rattle.hs_meaning.specs.Objects.{literal_object}
use Rattle.hs_start.proofs.objects.add_literals.Given as goal

-- Those that are done, and those of the literals that are left, are all.
abbrev pub invariant-literals : goal.invariant-literals
invariant-literals l = l.objects ++ map literal_object (drop l.it-index l.its) ≡ l.fn.objects ++ map literal_object l.its
