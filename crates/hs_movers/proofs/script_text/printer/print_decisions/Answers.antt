-- One more line is printed, and its numbers are in the range too.
use Rattle.std.proofs.Common.{append_assoc, take_all, sym, arith}
use Rattle.std.proofs.lemmas.List.Elements.{All-more, All-same, at_read}
use Rattle.hs_movers.specs.ScriptRanges.{IsInRange}
use Rattle.hs_movers.proofs.Printed.{next_line}
use Rattle.hs_movers.proofs.script_text.printer.print_decisions.Goals as goal

pub loop-index-preserved : goal.loop-index-preserved
loop-index-preserved c =
    let decision = c.index-decisions-index.result in
    let at = c.loop-index.index in
    let inside = c.loop-index-test.true in
    let next = next_line at c.args.decisions.now decision inside c.index-decisions-index.is in
    let here = at_read c.args.decisions.now IsInRange at decision inside c.index-decisions-index.is c.in_ok-print_decision.ensures.small in
    record {
      text = rw (c.in_ok-print_decision.ensures.text, append_assoc, ← next) c.loop-index.invariant.text;
      small = All-more IsInRange c.args.decisions.now at decision inside c.loop-index.invariant.small (here decision);
    }

pub returns-clause-small : goal.returns-clause-small
returns-clause-small c =
    All-same IsInRange _ _ (sym (take_all c.loop-index.index c.args.decisions.now (omega arith))) c.loop-index.invariant.small
