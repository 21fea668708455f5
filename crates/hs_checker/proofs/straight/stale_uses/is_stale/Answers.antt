-- The three cases of the last step that assigns the pointer.
use Rattle.hs_tree.specs.declared.straight.tree.Step.TheVariants as form
use Rattle.hs_checker.proofs.Staleness.{not_stale-never, not_stale-other, stale-taken, derived_by-other}
use Rattle.hs_checker.proofs.straight.stale_uses.is_stale.Goals as goal

pub returns-in-None : goal.returns-in-None
returns-in-None c = not_stale-never c.args.pointer c.args.done.now c.in-None.ensures

pub returns-in-Derive : goal.returns-in-Derive
returns-in-Derive c =
    let found = c.in-Some.ensures in
    stale-taken c.args.pointer c.in-Derive.handle c.in-Derive.pos c.args.done.now c.split_at.result.0.now c.split_at.result.1.now
    c.in-Some.place (form.NewHandle 0 0)
    c.in-Derive.pointer c.went_stale.result found.0 c.in-Derive.is (found.1 (form.NewHandle 0 0)) found.2 c.split_at.ensures.front
    c.split_at.ensures.back c.went_stale.ensures

pub returns-in_default : goal.returns-in_default
returns-in_default c =
    let found = c.in-Some.ensures in
    not_stale-other c.args.pointer c.args.done.now c.in-Some.place (form.NewHandle 0 0) found.0 (found.1 (form.NewHandle 0 0)) found.2
    (derived_by-other _ c.in_default.not-Derive)
