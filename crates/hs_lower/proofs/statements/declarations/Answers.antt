use Rattle.std.proofs.Common.{rules, ◌∙◌, sym, arith}
use Rattle.hs_lower.specs.Places.{setting_here, function_here}
use Rattle.hs_lower.proofs.Rests.{declarations_on, declarations_next, declarations_end}
use Rattle.hs_lower.proofs.statements.declarations.Goals as goal

-- one of its values is refused
pub returns-in_err-items-clause-done : goal.returns-in_err-items-clause-done
returns-in_err-items-clause-done c =
    let ahead = declarations_on (setting_here c.args.lowering.now) (function_here c.args.lowering.now) c.args.its.now c.loop-it.it-index
    c.it-item.result (omega arith) c.it-item.is c.loop-it.text in
    rw (← c.loop-it.invariant.same, ahead) (search rules)

-- a declaration is there
pub loop-it-preserved : goal.loop-it-preserved
loop-it-preserved c =
    record {
      same =
          declarations_next (setting_here c.args.lowering.now) (function_here c.args.lowering.now) c.args.its.now c.loop-it.it-index
          c.it-item.result (omega arith) c.it-item.is c.loop-it.text c.items.new.text (search rules)
          ∙ c.loop-it.invariant.same;
      keeps = search rules;
    }

-- all of them are
pub returns-clause-done : goal.returns-clause-done
returns-clause-done c =
    sym c.loop-it.invariant.same
    ∙ declarations_end (setting_here c.args.lowering.now) (function_here c.args.lowering.now) c.args.its.now c.loop-it.it-index
    (omega arith) c.loop-it.text (search rules)
