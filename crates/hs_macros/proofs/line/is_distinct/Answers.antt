-- The set has the names so far, and each that it takes is new.
use Rattle.std.proofs.Common.{◌∙◌}
use Rattle.std.specs.HashSet.{contains}
use Rattle.hs_macros.proofs.ParameterNames.{are_alike, are_new-none, are_new-at, not_seen}
use Rattle.hs_macros.proofs.line.is_distinct.Goals as goal

-- no name was seen
pub names-init : goal.names-init
names-init c = rw c.new-seen.ensures.empty (are_new-none c.args.names.now)

-- the set takes a name that was not seen
pub names-preserved : goal.names-preserved
names-preserved c =
    let was_seen = contains are_alike c.names.seen in
    let is_seen = contains are_alike c.insert.new.self in
    let is_new = not_seen _ _ c.in_ok-insert.ensures.added c.if-not-branch.false in
    are_new-at was_seen is_seen c.args.names.now c.names.name-index _ c.names-test.true is_new c.in_ok-insert.ensures.updates.0
    ∙ c.names.invariant
