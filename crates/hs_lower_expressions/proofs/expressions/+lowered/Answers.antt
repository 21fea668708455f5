use Rattle.std.proofs.Common.{rules, ◌∙◌, sym, arith}
use Rattle.hs_tree.specs.RowLaws.{rights_seen}
use Rattle.hs_lower_expressions.specs.Contexts.{setting_in}
use Rattle.hs_lower_expressions.proofs.Equations.{right_comma, right_call, right_call_routine}
use Rattle.hs_lower_expressions.proofs.Loops.{counted_on, all_on, all_next, all_end, dropped_on, dropped_next, dropped_end}
use Rattle.hs_lower_expressions.proofs.expressions.+lowered.Goals as goal

-- the left operands of a comma are the list
pub value-returns-in_err-dropped-in-Comma-clause-emitted : goal.value-returns-in_err-dropped-in-Comma-clause-emitted
value-returns-in_err-dropped-in-Comma-clause-emitted t c =
    rw (c.in-Comma.is, rights_seen c.in-Comma.lefts, ← c.deref-in-Comma.ensures.value) (search (rules, right_comma))

pub value-returns-in_ok-dropped-in-Comma-clause-emitted : goal.value-returns-in_ok-dropped-in-Comma-clause-emitted
value-returns-in_ok-dropped-in-Comma-clause-emitted t c =
    rw (c.in-Comma.is, rights_seen c.in-Comma.lefts, ← c.deref-in-Comma.ensures.value) (search (rules, right_comma))

-- the arguments of a call are
pub value-returns-in_err-above-in-Call-clause-emitted : goal.value-returns-in_err-above-in-Call-clause-emitted
value-returns-in_err-above-in-Call-clause-emitted t c =
    rw (c.in-Call.is, rights_seen c.in-Call.its, ← c.deref-in-Call.ensures.value) (search (rules, right_call))

pub value-returns-in_ok-above-in-Call-clause-emitted : goal.value-returns-in_ok-above-in-Call-clause-emitted
value-returns-in_ok-above-in-Call-clause-emitted t c =
    rw (c.in-Call.is, rights_seen c.in-Call.its, ← c.deref-in-Call.ensures.value) (search (rules, right_call))

pub value-returns-in_err-above-in-CallRoutine-clause-emitted : goal.value-returns-in_err-above-in-CallRoutine-clause-emitted
value-returns-in_err-above-in-CallRoutine-clause-emitted t c =
    rw (c.in-CallRoutine.is, rights_seen c.in-CallRoutine.its, ← c.deref-in-CallRoutine.ensures.value) (search (rules, right_call_routine))

pub value-returns-in_ok-above-in-CallRoutine-clause-emitted : goal.value-returns-in_ok-above-in-CallRoutine-clause-emitted
value-returns-in_ok-above-in-CallRoutine-clause-emitted t c =
    rw (c.in-CallRoutine.is, rights_seen c.in-CallRoutine.its, ← c.deref-in-CallRoutine.ensures.value) (search (rules, right_call_routine))

-- an argument is refused
pub arguments-returns-in_err-value-clause-emitted : goal.arguments-returns-in_err-value-clause-emitted
arguments-returns-in_err-value-clause-emitted t c =
    let ahead = all_on (setting_in c.args.context.now) c.args.context.now.variables.now c.args.context.now.piece c.args.its.now c.loop-e.e-index
    c.e-item.result (omega arith) c.e-item.is c.loop-e.above c.loop-e.ops in
    rw (← c.loop-e.invariant.same, ahead) (search rules)

-- an argument is there
pub arguments-loop-e-preserved : goal.arguments-loop-e-preserved
arguments-loop-e-preserved t c =
    let fewer = counted_on (setting_in c.args.context.now) c.args.context.now.variables.now c.args.context.now.piece c.args.its.now c.loop-e.e-index
    c.e-item.result (omega arith) c.e-item.is in
    record {
      same =
          all_next (setting_in c.args.context.now) c.args.context.now.variables.now c.args.context.now.piece c.args.its.now c.loop-e.e-index
          c.e-item.result (omega arith) c.e-item.is c.loop-e.above c.loop-e.ops c.value.new.ops c.in_ok-value.ensures.emitted
          ∙ c.loop-e.invariant.same;
      counted = omega (arith, fewer);
      fits = search rules;
      keeps = search rules;
      few = search rules;
    }

-- all of them are
pub arguments-returns-clause-emitted : goal.arguments-returns-clause-emitted
arguments-returns-clause-emitted t c =
    sym c.loop-e.invariant.same
    ∙ all_end (setting_in c.args.context.now) c.args.context.now.variables.now c.args.context.now.piece c.args.its.now c.loop-e.e-index
    (omega arith) c.loop-e.above c.loop-e.ops c.loop-e.invariant.few

-- an operand is refused
pub dropped-returns-in_err-value-clause-emitted : goal.dropped-returns-in_err-value-clause-emitted
dropped-returns-in_err-value-clause-emitted t c =
    let ahead = dropped_on (setting_in c.args.context.now) c.args.context.now.variables.now c.args.context.now.piece c.args.its.now c.loop-e.e-index
    c.e-item.result (omega arith) c.e-item.is c.args.head c.args.depth c.loop-e.ops in
    rw (← c.loop-e.invariant.same, ahead) (search rules)

-- or its end is
pub dropped-returns-in_err-put-clause-emitted : goal.dropped-returns-in_err-put-clause-emitted
dropped-returns-in_err-put-clause-emitted t c =
    let ahead = dropped_on (setting_in c.args.context.now) c.args.context.now.variables.now c.args.context.now.piece c.args.its.now c.loop-e.e-index
    c.e-item.result (omega arith) c.e-item.is c.args.head c.args.depth c.loop-e.ops in
    rw (← c.loop-e.invariant.same, ahead) (search rules)

-- an operand is there, and dropped
pub dropped-loop-e-preserved : goal.dropped-loop-e-preserved
dropped-loop-e-preserved t c =
    record {
      same =
          dropped_next (setting_in c.args.context.now) c.args.context.now.variables.now c.args.context.now.piece c.args.its.now c.loop-e.e-index
          c.e-item.result (omega arith) c.e-item.is c.args.head c.args.depth c.loop-e.ops c.value.new.ops c.put.new.ops c.in_ok-value.ensures.emitted
          c.in_ok-put.ensures.emitted
          ∙ c.loop-e.invariant.same;
      keeps = search rules;
      few = search rules;
    }

-- all of them are
pub dropped-returns-clause-emitted : goal.dropped-returns-clause-emitted
dropped-returns-clause-emitted t c =
    sym c.loop-e.invariant.same
    ∙ dropped_end (setting_in c.args.context.now) c.args.context.now.variables.now c.args.context.now.piece c.args.its.now c.loop-e.e-index
    (omega arith) c.args.head c.args.depth c.loop-e.ops c.loop-e.invariant.few
