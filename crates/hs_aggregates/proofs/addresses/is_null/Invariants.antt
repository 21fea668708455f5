use Rattle.std.proofs.Common.{◌≡◌}
use Rattle.hs_aggregates.specs.Addresses.{is_null}
use Rattle.hs_tree.specs.Views.{view_right}
use Rattle.hs_aggregates.proofs.addresses.is_null.Given as goal

-- what is inside the casts decides
abbrev pub invariant-inner : goal.invariant-inner
invariant-inner l = is_null (view_right l.inner) ≡ is_null (view_right l.fn.e)
