use Rattle.std.proofs.Common.{◌==◌, ◌+◌, true, take, length, get_or, sym, ap, subst, ◌∙◌}
use Rattle.std.proofs.lemmas.List.Folds.{list_any_more}
use Rattle.hs_heap.proofs.Passing.{AreMarked, numbered_none, length_numbered, none_marked, moved_more, marked_more}
use Rattle.hs_heap.specs.Passes.{relocated, if_named, marked_at, moved_at}
use Rattle.hs_heap.specs.declared.decision.Which.TheVariants.{These}
use Rattle.hs_heap.proofs.pass.relocate_these.Goals as goal

pub loop-number-init : goal.loop-number-init
loop-number-init c =
    (sym (numbered_none relocated 1 c.args.rows.now.items), none_marked _ c.args.shift c.args.marks.now.items c.requires.long c.requires.unmarked)

-- one number more
pub loop-number-preserved : goal.loop-number-preserved
loop-number-preserved c = (
  c.relocate_at.ensures.rows
      ∙ ap (moved_at c.args.shift c.loop-number.marks.items (get_or c.args.numbers.now c.loop-number.number-index 0)) c.loop-number.invariant.0
      ∙ moved_more c.args.shift (get_or c.args.numbers.now c.loop-number.number-index 0) (take c.loop-number.number-index c.args.numbers.now)
      (take (c.loop-number.number-index + 1) c.args.numbers.now) c.loop-number.marks.items c.args.rows.now.items
      (λ k. list_any_more (λ n. n == k) c.args.numbers.now c.loop-number.number-index 0 c.loop-number-test.true) c.loop-number.invariant.1,
  subst (AreMarked (length c.args.rows.now.items) c.args.shift (take (c.loop-number.number-index + 1) c.args.numbers.now))
      (sym (c.relocate_at.ensures.marks
      ∙ ap (λ made. marked_at c.args.shift made (get_or c.args.numbers.now c.loop-number.number-index 0) c.loop-number.marks.items)
      (ap length c.loop-number.invariant.0
      ∙ length_numbered (if_named true (These (take c.loop-number.number-index c.args.numbers.now)) relocated) 1 c.args.rows.now.items)))
      (marked_more c.args.shift (get_or c.args.numbers.now c.loop-number.number-index 0) (length c.args.rows.now.items)
      (take c.loop-number.number-index c.args.numbers.now) (take (c.loop-number.number-index + 1) c.args.numbers.now) c.loop-number.marks.items
      (λ k. list_any_more (λ n. n == k) c.args.numbers.now c.loop-number.number-index 0 c.loop-number-test.true) c.loop-number.invariant.1),
)
