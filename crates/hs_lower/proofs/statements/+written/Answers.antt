use Rattle.std.proofs.Common.{rules, ◌∙◌, sym, ap, arith, length, map, ◌++◌}
use Rattle.std.proofs.lemmas.List.{append_assoc}
use Rattle.hs_classes.specs.Blocks.{block_out}
use Rattle.hs_lowering.specs.Statements.{labels_at}
use Rattle.hs_tree.specs.RowLaws.{statements_from, view_labelled}
use Rattle.hs_tree.specs.Views.{view_declaration}
use Rattle.hs_tree.specs.declared.statement.Block.{out-Block}
use Rattle.hs_lower.specs.Places.{setting_here, function_here}
use Rattle.hs_lower.proofs.Lists.{block_steps_are, block_labels_are}
use Rattle.hs_lower.proofs.Rests.{list_on, list_next, list_end, labels_next}
use Rattle.hs_lower.proofs.statements.+written.Goals as goal

-- a block has its lists
pub block-returns-in_err-put-clause-done : goal.block-returns-in_err-put-clause-done
block-returns-in_err-put-clause-done t c = rw (block_out c.args.it.now) (search (rules, block_steps_are))

pub block-returns-in_err-declarations-clause-done : goal.block-returns-in_err-declarations-clause-done
block-returns-in_err-declarations-clause-done t c =
    rw (block_out c.args.it.now, ← c.deref.ensures.value) (search (rules, block_steps_are))

pub block-returns-in_err-labels-clause-done : goal.block-returns-in_err-labels-clause-done
block-returns-in_err-labels-clause-done t c =
    rw (block_out c.args.it.now, ← c.deref-2.ensures.value, ← c.deref.ensures.value) (search (rules, block_steps_are))

pub block-returns-in_err-put-2-clause-done : goal.block-returns-in_err-put-2-clause-done
block-returns-in_err-put-2-clause-done t c =
    rw (block_out c.args.it.now, ← c.deref-2.ensures.value, ← c.deref.ensures.value) (search (rules, block_steps_are))

pub block-returns-clause-done : goal.block-returns-clause-done
block-returns-clause-done t c =
    rw (block_out c.args.it.now, ← c.deref-2.ensures.value, ← c.deref.ensures.value) (search (rules, block_steps_are))

-- its labels are those of its statements
pub block-returns-clause-labels : goal.block-returns-clause-labels
block-returns-clause-labels t c =
    rw (block_out c.args.it.now, ← c.deref-2.ensures.value, ← c.deref.ensures.value)
    (c.in_ok-labels.ensures.labels
    ∙ sym (block_labels_are (setting_here c.args.lowering.now) (function_here c.args.lowering.now) (out-Block c.args.it.now).opening
    (out-Block c.args.it.now).closing (map view_declaration c.deref.result.now) (statements_from (map view_labelled c.deref-2.result.now))
    c.args.text.now c.put.new.text c.declarations.new.text (search rules) (search rules)))

-- a label is refused
pub list-returns-in_err-mark-clause-done : goal.list-returns-in_err-mark-clause-done
list-returns-in_err-mark-clause-done t c =
    let ahead = list_on (setting_here c.args.lowering.now) (function_here c.args.lowering.now) c.args.its.now c.loop-it.it-index
    c.it-item.result (omega arith) c.it-item.is c.loop-it.text in
    rw (← c.loop-it.invariant.same, ahead) (search rules)

-- or a statement is
pub list-returns-in_err-statement-clause-done : goal.list-returns-in_err-statement-clause-done
list-returns-in_err-statement-clause-done t c =
    let ahead = list_on (setting_here c.args.lowering.now) (function_here c.args.lowering.now) c.args.its.now c.loop-it.it-index
    c.it-item.result (omega arith) c.it-item.is c.loop-it.text in
    rw (← c.loop-it.invariant.same, ahead) (search rules)

-- a statement is there, with its labels
pub list-loop-it-preserved : goal.list-loop-it-preserved
list-loop-it-preserved t c =
    record {
      same =
          list_next (setting_here c.args.lowering.now) (function_here c.args.lowering.now) c.args.its.now c.loop-it.it-index
          c.it-item.result (omega arith) c.it-item.is c.loop-it.text c.mark.new.text c.statement.new.text (search rules) (search rules)
          ∙ c.loop-it.invariant.same;
      noted =
          rw (c.in_ok-mark.ensures.labels, c.deref.ensures.value)
          (append_assoc c.loop-it.labels.items (labels_at c.it-item.result.labels.items (length c.loop-it.text.ops)) _
          ∙ ap (λ list. c.loop-it.labels.items ++ list)
          (sym (labels_next (setting_here c.args.lowering.now) (function_here c.args.lowering.now) c.args.its.now c.loop-it.it-index
          c.it-item.result (omega arith) c.it-item.is c.loop-it.text c.mark.new.text c.statement.new.text (search rules) (search rules)))
          ∙ c.loop-it.invariant.noted);
      keeps = search rules;
    }

-- all of them are
pub list-returns-clause-done : goal.list-returns-clause-done
list-returns-clause-done t c =
    sym c.loop-it.invariant.same
    ∙ list_end (setting_here c.args.lowering.now) (function_here c.args.lowering.now) c.args.its.now c.loop-it.it-index
    (omega arith) c.loop-it.text (search rules)
