use Rattle.std.proofs.Common.{◌≡◌, ◌+◌, ◌∙◌, ap, arith, suc, Some, subst, sym, take}
use Rattle.std.proofs.lemmas.List.{take_all}
use Rattle.hs_effects.specs.Calling.{whole_of}
use Rattle.hs_flow.specs.Programs.{scope_at}
use Rattle.hs_taint.specs.Hazarding.{IsLeastBad}
use Rattle.hs_taint.specs.Laws.Least.{least_more, least_same}
use Rattle.hs_taint.specs.Reaching.{pairs_in}
use Rattle.hs_taint.specs.Using.{kind_of}
use Rattle.hs_taint.proofs.hazard_list.least_bad.Goals as goal
use Rattle.hs_taint.proofs.hazard_list.least_bad.Goals.{then-is_bad, else-is_bad}

-- one pair more
pub pairs-preserved : goal.pairs-preserved
pairs-preserved c f =
    let scope = scope_at (whole_of c.args.code.now) f in
    let kind = kind_of c.args.kind in
    let pairs = pairs_in c.args.reached.now c.args.function c.args.at in
    let one : suc c.pairs.place ≡ c.pairs.place + 1 = omega (arith) in
    subst (λ n. IsLeastBad scope c.args.its kind (take n pairs) c.if-is_bad.least) one
    (elim c.if-is_bad.branch [
      | then-is_bad w ↦
          subst (IsLeastBad scope c.args.its kind (take (suc c.pairs.place) pairs)) (sym (w.least-is ∙ ap Some w.lesser.ensures))
          (least_more scope c.args.its kind pairs c.pairs.place c.pair-pair.result c.pair-pair.ensures c.pairs.least
          (sym (c.is_bad.ensures f) ∙ w.if-is_bad.true) (c.pairs.invariant f))
      | else-is_bad w ↦
          subst (IsLeastBad scope c.args.its kind (take (suc c.pairs.place) pairs)) (sym w.least-is)
          (least_same scope c.args.its kind pairs c.pairs.place c.pair-pair.result c.pair-pair.ensures c.pairs.least
          (sym (c.is_bad.ensures f) ∙ w.if-is_bad.false) (c.pairs.invariant f))
    ])

-- all pairs
pub returns : goal.returns
returns c f =
    let pairs = pairs_in c.args.reached.now c.args.function c.args.at in
    let all = take_all c.pairs.place pairs (let long = c.count-place-end.ensures in let end = c.pairs-test.false in omega (arith)) in
    subst (λ xs. IsLeastBad (scope_at (whole_of c.args.code.now) f) c.args.its (kind_of c.args.kind) xs c.pairs.least) all (c.pairs.invariant f)
