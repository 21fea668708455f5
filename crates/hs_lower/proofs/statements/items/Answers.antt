use Rattle.std.proofs.Common.{rules, ◌∙◌, sym, arith}
use Rattle.hs_lower.specs.Places.{setting_here, function_here}
use Rattle.hs_lower.proofs.Rests.{items_on, items_next, items_end}
use Rattle.hs_lower.proofs.statements.items.Goals as goal

-- a value is refused
pub returns-in_err-start-clause-done : goal.returns-in_err-start-clause-done
returns-in_err-start-clause-done c =
    let ahead = items_on (setting_here c.args.lowering.now) (function_here c.args.lowering.now) c.args.piece c.args.its.now c.loop-item.item-index
    c.item-item.result (omega arith) c.item-item.is c.loop-item.text in
    rw (← c.loop-item.invariant.same, ahead) (search rules)

-- a value is there
pub loop-item-preserved : goal.loop-item-preserved
loop-item-preserved c =
    record {
      same =
          items_next (setting_here c.args.lowering.now) (function_here c.args.lowering.now) c.args.piece c.args.its.now c.loop-item.item-index
          c.item-item.result (omega arith) c.item-item.is c.loop-item.text c.start.new.text c.in_ok-start.ensures.done
          ∙ c.loop-item.invariant.same;
      keeps = search rules;
    }

-- all of them are
pub returns-clause-done : goal.returns-clause-done
returns-clause-done c =
    sym c.loop-item.invariant.same
    ∙ items_end (setting_here c.args.lowering.now) (function_here c.args.lowering.now) c.args.piece c.args.its.now c.loop-item.item-index
    (omega arith) c.loop-item.text (search rules)
