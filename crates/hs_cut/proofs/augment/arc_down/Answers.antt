use Rattle.std.proofs.Common.{◌≡◌, true, false, sym}
use Rattle.std.proofs.lemmas.List.{take_all}
use Rattle.std.proofs.lemmas.List.Elements.{All-more, All-same}
use Rattle.hs_cut.specs.Pushes.{LeadsDown}
use Rattle.hs_cut.specs.declared.graph.Arc.{Arc}
use Rattle.hs_cut.proofs.augment.arc_down.Goals as goal

-- the arc does not lead down
pub loop-arc-preserved : goal.loop-arc-preserved
loop-arc-preserved c =
    All-more (λ (arc : Arc). LeadsDown c.args.gates.now c.args.distances.now c.args.distance arc → ⊥) c.args.row.now c.loop-arc.arc-index
    (record { to = 0; edge = 0; along = false }) c.loop-arc-test.true c.loop-arc.invariant
    (λ leads. let no_ : false ≡ true = c.if-leads_down.ensures.1 leads in cc)

-- nor does any
pub returns-clause-none : goal.returns-clause-none
returns-clause-none c =
    All-same (λ (arc : Arc). LeadsDown c.args.gates.now c.args.distances.now c.args.distance arc → ⊥) c.args.row.now _
    (sym (take_all c.loop-arc.arc-index c.args.row.now c.loop-arc-test.false)) c.loop-arc.invariant
