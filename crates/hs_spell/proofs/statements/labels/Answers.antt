use Rattle.std.proofs.Common.{List, map, arith}
use Rattle.hs_syntax.specs.Grammar.{labels_form}
use Rattle.hs_syntax.specs.Views.{view_label}
use Rattle.hs_syntax.specs.declared.stmt.Label.{Label}
use Rattle.hs_spell.proofs.Written.{one_on}
use Rattle.hs_spell.proofs.WrittenDeclarations.{labels_on}
use Rattle.hs_spell.proofs.statements.labels.Goals as goal

-- a label is written
pub loop-it-preserved : goal.loop-it-preserved
loop-it-preserved c known =
    one_on (λ (its : List Label). (labels_form known (map view_label its)).pieces)
    c.args.its.now c.loop-it.it-index c.it-item.result _ (omega arith) c.it-item.is
    c.loop-it.tokens.items c.label.new.tokens.items _ (c.loop-it.invariant known) (labels_on known c.it-item.result _) (c.in_ok-label.ensures known)
