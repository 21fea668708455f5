use Rattle.std.proofs.Common.{◌≡◌, true, false, ap, ◌∙◌, Some, refl}
use Rattle.hs_cut.specs.declared.graph.Arc.{Arc}
use Rattle.hs_cut.proofs.Leasts.{IsLeastAt-arc, IsLeastAt-no_arc}
use Rattle.hs_cut.proofs.obstacle.least_step.Goals as goal
use Rattle.hs_cut.proofs.obstacle.least_step.Goals.{then-leads_to, else-leads_to}

-- one arc more
pub loop-arc-preserved : goal.loop-arc-preserved
loop-arc-preserved c =
    let none : Arc = record { to = 0; edge = 0; along = false } in
    elim c.if-leads_to.branch [
      | then-leads_to w ↦
          IsLeastAt-arc c.args.distances.now c.args.distance c.args.gates.now c.args.row.now c.loop-arc.arc-index none c.loop-arc.least
          c.if-leads_to.least c.loop-arc-test.true c.loop-arc.invariant
          (w.if-leads_to.ensures.0 refl) (w.least-is ∙ ap (λ n. Some n) w.lesser.ensures)
      | else-leads_to w ↦
          IsLeastAt-no_arc c.args.distances.now c.args.distance c.args.gates.now c.args.row.now c.loop-arc.arc-index none c.loop-arc.least
          c.if-leads_to.least c.loop-arc-test.true c.loop-arc.invariant
          (λ leads. let no_ : false ≡ true = w.if-leads_to.ensures.1 leads in cc) w.least-is
    ]
