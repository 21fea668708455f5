-- The flags are what is known of the pointer and its handle after the steps that were looked at.
use Rattle.std.proofs.Common.{◌≡◌, ℕ, List, [], false, reverse, take, ◌∷◌, ◌++◌}
use Rattle.std.specs.List.{list_any}
use Rattle.hs_base.specs.declared.pos.Pos.{Pos}
use Rattle.hs_tree.specs.declared.straight.tree.Step.{Step}
use Rattle.hs_tree.specs.declared.straight.tree.Step.TheVariants as step
use Rattle.hs_tree.specs.Straight.Fine.{assigns}
use Rattle.hs_checker.proofs.Staleness.{IsKnown}
use Rattle.hs_checker.proofs.straight.stale_uses.went_stale.Given as goal

abbrev pub invariant-loop-step : goal.invariant-loop-step
invariant-loop-step l =
    (pointer : ℕ) (pos : Pos) (before : List Step)
    → l.taken ≡ before ++ step.Derive pos pointer l.handle ∷ []
    → list_any (assigns pointer) (take l.step-index l.since) ≡ false
    → IsKnown l.handle pointer (reverse (l.taken ++ take l.step-index l.since)) l.is_same l.is_stale l.is_locked
