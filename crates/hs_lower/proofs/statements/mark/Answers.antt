use Rattle.std.proofs.Common.{rules, ◌∙◌, sym, arith, length}
use Rattle.hs_tokens.specs.declared.token.Origin.TheVariants.{Plain}
use Rattle.hs_tree.specs.declared.statement.Label.{Label}
use Rattle.hs_tree.specs.declared.statement.Label.TheVariants as label
use Rattle.hs_lower.proofs.Rests.{marks_on, marks_next, marks_end, places_next}
use Rattle.hs_lower.proofs.statements.mark.Goals as goal

-- what stands for a label that is not there
abbrev no_label : Label
no_label = label.Case (record { pos = record { file = 0; line = 0; col = 0 }; origin = Plain }) 0

-- a place is refused
pub returns-in_err-put-clause-done : goal.returns-in_err-put-clause-done
returns-in_err-put-clause-done c =
    let ahead = marks_on c.args.its.now c.loop-label.label-index no_label (omega arith) c.loop-label.text in
    rw (← c.loop-label.invariant.same, ahead) (search rules)

-- a place is there
pub loop-label-preserved : goal.loop-label-preserved
loop-label-preserved c =
    record {
      same =
          marks_next c.args.its.now c.loop-label.label-index no_label (omega arith) c.loop-label.text c.put.new.text (search rules)
          ∙ c.loop-label.invariant.same;
      noted =
          rw (c.in_ok-push.ensures.items, c.len-number.ensures.len)
          (places_next c.args.its.now c.loop-label.label-index no_label (omega arith) c.loop-label.labels.items (length c.loop-label.text.ops)
          (length c.put.new.text.ops) (search rules)
          ∙ c.loop-label.invariant.noted);
      keeps = search rules;
    }

-- all of them are
pub returns-clause-done : goal.returns-clause-done
returns-clause-done c =
    sym c.loop-label.invariant.same
    ∙ marks_end c.args.its.now c.loop-label.label-index (omega arith) c.loop-label.text (search rules)
