use Rattle.std.proofs.Common.{ℕ, suc, ◌≡◌, ◌≤◌, false, ◌&&◌, ◌||◌, ap, ◌∙◌, add-one}
use Rattle.hs_fact_rows.specs.Given.{facts_in, with_of, saved_of}
use Rattle.hs_lock_rows.specs.Given.{any}
use Rattle.hs_lock_rows.specs.Knowing.{apart_at}
use Rattle.hs_rows.specs.Sets.{bit_in}
use Rattle.hs_lock_rows.proofs.knowing.locks_of.Goals as goal

-- the byte is right above the handle
pub returns-in-SetState : goal.returns-in-SetState
returns-in-SetState c names slots assigned facts shows apart i l =
    let its = c.in-SetState.is in
    let depth = c.in-SetState.depth in
    let base = c.in-SetState.base in
    let n = c.args.point.plan.names in
    let low = facts_in c.args.point.plan c.args.point.low.now c.args.point.at in
    let with = rw its at c.requires.names in
    let apart_i = rw its at (apart i l) in
    let saved = rw add-one at c.saved_at-saved.ensures.names in
    let kept = rw add-one at (c.kept.ensures facts shows i l) in
    let few : (j : ℕ) → n ≤ j → (bit_in c.args.with j && bit_in c.saved_at-saved.result j) ≡ false =
    λ j far. ap (λ t. t && bit_in c.saved_at-saved.result j) (c.requires.few j far) in
    let restores = c.meet-restores.ensures (with_of low depth base) (saved_of low depth (suc base)) with saved in
    rw its
    (c.either.ensures i
    ∙ ap (λ t. t || bit_in c.if_so.result i) apart_i
    ∙ ap (λ t. apart_at c.args.point.plan names slots assigned c.args.point.low.now c.args.point.at facts depth base i || t)
    (c.if_so.ensures i ∙ ap (λ t. t && bit_in c.kept.result i) restores
    ∙ ap (λ t. any n (λ x. with_of low depth base x && saved_of low depth (suc base) x) && t) kept))
