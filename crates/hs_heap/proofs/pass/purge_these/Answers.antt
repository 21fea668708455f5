use Rattle.std.proofs.Common.{◌==◌, ◌+◌, take, get_or, sym, ap, ◌∙◌}
use Rattle.std.proofs.lemmas.List.Folds.{list_any_more}
use Rattle.hs_heap.proofs.Passing.{numbered_none, one_more, purged_twice}
use Rattle.hs_heap.specs.Passes.{purged, changed_at}
use Rattle.hs_heap.proofs.pass.purge_these.Goals as goal

pub loop-number-init : goal.loop-number-init
loop-number-init c = sym (numbered_none purged 1 c.args.rows.now.items)

-- one number more
pub loop-number-preserved : goal.loop-number-preserved
loop-number-preserved c =
    c.purge_at.ensures ∙ ap (changed_at purged (get_or c.args.numbers.now c.loop-number.number-index 0)) c.loop-number.invariant
    ∙ one_more purged (take c.loop-number.number-index c.args.numbers.now) (take (c.loop-number.number-index + 1) c.args.numbers.now) _
    (λ k. list_any_more (λ n. n == k) c.args.numbers.now c.loop-number.number-index 0 c.loop-number-test.true) _ purged_twice
