use Rattle.std.proofs.Common.{◌≤◌, ◌+◌, List, length, sym, subst}
use Rattle.hs_code.specs.declared.function_code.Placed.{Placed}
use Rattle.hs_effects.specs.Calling.{whole_of}
use Rattle.hs_restores.specs.Laws.Noting.{noted_more}
use Rattle.hs_restores.specs.Restoring.{AddsShown, Noted, assigned_of}
use Rattle.hs_restores.specs.Stepping.{scope_in}
use Rattle.hs_tree.specs.Views.{view_function}
use Rattle.hs_tree.specs.declared.head.Variable.{Variable}
use Rattle.hs_restores.proofs.finding.note_window.Goals as goal

-- each operation has a row
pub note_shown-requires-clause-fit : goal.note_shown-requires-clause-fit
note_shown-requires-clause-fit c at low =
    c.in_ok-its.ensures.fit at (subst (λ (ops : List Placed). at ≤ length ops) c.items.ensures.lends low)

-- the restores of the window are noted
pub returns : goal.returns
returns c =
    let fits = subst (λ (list : List Variable). c.args.window.0 + c.args.window.1 ≤ length list) c.requires.names c.requires.fits in
    let its = c.in_ok-its.its in
    let for_window = c.in_ok-its.ensures.for_window in
    subst (λ (list : List Variable). Noted (whole_of c.args.code.now) c.args.own.number list (c.args.window.0 + c.args.window.1) c.note_shown.new.restores)
    (sym c.requires.names)
    (noted_more (whole_of c.args.code.now) c.args.own.number (view_function c.args.own.function.now) c.args.own.code.now c.args.own.slots.now
    (assigned_of c.args.callees.now) c.requires.ready its.plan c.args.window.0 c.args.window.1 fits for_window.plan_names for_window.plan_slots
    for_window.plan_places its.rows c.in_ok-its.ensures.solved c.args.restores.now
    c.note_shown.new.restores
    (subst (λ (ops : List Placed). AddsShown (scope_in c.args.code.now.program.now (view_function c.args.own.function.now))
    its.plan its.rows ops (length ops) c.args.restores.now c.note_shown.new.restores) c.items.ensures.lends
    (c.note_shown.ensures (view_function c.args.own.function.now)))
    (subst (λ (list : List Variable). Noted (whole_of c.args.code.now) c.args.own.number list c.args.window.0 c.args.restores.now) c.requires.names
    c.requires.noted))
