use Rattle.std.proofs.Common.{◌≡◌, drop}
use Rattle.hs_linkage.specs.Objects.{marked}
use Rattle.hs_linkage.proofs.objects.Locals.marked.Given as goal

-- the addresses that are left mark the rest
abbrev pub invariant-its : goal.invariant-its
invariant-its l = marked (drop l.it-index l.its) 0 l.all ≡ marked l.its 0 l.fn.self
