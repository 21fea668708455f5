use Rattle.std.proofs.Common.{rules, ◌≡◌, true, false, Some, None, ap, sym, ◌∙◌}
use Rattle.std.specs.Prelude.{option_copied}
use Rattle.hs_linkage.specs.Chains.{newest_first, entry_at}
use Rattle.hs_linkage.specs.Externals.{agrees_in, type_of_entity}
use Rattle.hs_linkage.proofs.Chained.{chain-begun, chain-refused, chain-lower, chain-next, chain-ended}
use Rattle.hs_linkage.proofs.externals.each_agrees.Goals as goal

-- the newest one of the name comes first
pub entries-init : goal.entries-init
entries-init c =
    chain-begun c.args.types.now c.args.origins.now c.args.name.now c.args.id c.args.entries.now c.args.newest c.requires.newest

-- one of them does not agree
pub returns-then-not-agrees : goal.returns-then-not-agrees
returns-then-not-agrees c =
    let at : entry_at c.entries.next c.args.entries.now ≡ Some c.in-Some.entry.now = sym c.entry_at.ensures ∙ ap option_copied c.in-Some.is in
    let refused : agrees_in c.args.types.now c.args.origins.now c.args.id (type_of_entity c.in-Some.entry.now.external.entity) ≡ false = search rules in
    sym (chain-refused c.args.types.now c.args.origins.now c.args.name.now c.args.id c.args.entries.now c.entries.next c.in-Some.entry.now
    (newest_first c.args.entries.now) c.entries.invariant.0 c.entries.invariant.1 at refused)

-- the next one is older
pub entries-smaller : goal.entries-smaller
entries-smaller c =
    let at : entry_at c.entries.next c.args.entries.now ≡ Some c.in-Some.entry.now = sym c.entry_at.ensures ∙ ap option_copied c.in-Some.is in
    chain-lower c.args.types.now c.args.origins.now c.args.name.now c.args.id c.args.entries.now c.entries.next c.in-Some.entry.now
    c.requires.chained at

-- the older ones of the name decide
pub entries-preserved : goal.entries-preserved
entries-preserved c =
    let at : entry_at c.entries.next c.args.entries.now ≡ Some c.in-Some.entry.now = sym c.entry_at.ensures ∙ ap option_copied c.in-Some.is in
    let agreed : agrees_in c.args.types.now c.args.origins.now c.args.id (type_of_entity c.in-Some.entry.now.external.entity) ≡ true = search rules in
    chain-next c.args.types.now c.args.origins.now c.args.name.now c.args.id c.args.entries.now c.entries.next c.in-Some.entry.now
    (newest_first c.args.entries.now) c.requires.chained c.entries.invariant.0 c.entries.invariant.1 at agreed

-- no entry is left
pub returns : goal.returns
returns c =
    let at : entry_at c.entries.next c.args.entries.now ≡ None = search rules in
    sym (chain-ended c.args.types.now c.args.origins.now c.args.name.now c.args.id c.args.entries.now c.entries.next
    (newest_first c.args.entries.now) c.entries.invariant.0 c.entries.invariant.1 at)
