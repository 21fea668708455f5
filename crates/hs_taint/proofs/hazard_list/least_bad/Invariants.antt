use Rattle.std.proofs.Common.{ℕ, take}
use Rattle.hs_effects.specs.Calling.{whole_of}
use Rattle.hs_flow.specs.Programs.{scope_at}
use Rattle.hs_taint.specs.Hazarding.{IsLeastBad}
use Rattle.hs_taint.specs.Reaching.{pairs_in}
use Rattle.hs_taint.specs.Using.{kind_of}
use Rattle.hs_taint.proofs.hazard_list.least_bad.Given as goal

-- of the first pairs
abbrev pub invariant-pairs : goal.invariant-pairs
invariant-pairs l =
    (f : ℕ) → IsLeastBad (scope_at (whole_of l.code) f) l.its (kind_of l.kind) (take l.place (pairs_in l.reached l.function l.at)) l.least
