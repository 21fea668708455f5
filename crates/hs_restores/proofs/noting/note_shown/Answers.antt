use Rattle.std.proofs.Common.{◌+◌, List, Bool, arith, get_or, sym, subst}
use Rattle.hs_restores.specs.Stepping.{scope_in}
use Rattle.hs_restores.proofs.Shown.{nothing, op_read, shown_all, shown_more}
use Rattle.hs_restores.specs.Laws.Jobs.{greatest_at}
use Rattle.hs_restores.specs.Restoring.{AddsShown}
use Rattle.hs_restores.proofs.noting.note_shown.Goals as goal

-- no operation notes more values than there are places
pub is_shown-is-requires-clause-depth_in_range : goal.is_shown-is-requires-clause-depth_in_range
is_shown-is-requires-clause-depth_in_range c =
    let most = greatest_at 0 c.args.ops.now c.ops.at (get_or c.args.ops.now c.ops.at nothing) (op_read c.args.ops.now c.ops.at c.ops-test.true) in
    let places = c.requires.places in
    omega (arith, most, places)

-- one operation more
pub ops-preserved : goal.ops-preserved
ops-preserved c function =
    let so_far = c.ops.invariant function in
    let long = so_far.long in
    let all = c.requires.long in
    let inside = c.ops-test.true in
    subst (λ (row : List Bool). AddsShown (scope_in c.args.program.now function) c.args.plan c.args.rows.now c.args.ops.now (c.ops.at + 1)
    c.args.restores.now row) (sym c.note_if.ensures)
    (shown_more (scope_in c.args.program.now function) c.args.plan c.args.rows.now c.args.ops.now c.args.restores.now c.ops.at c.ops.restores
    (get_or c.args.ops.now c.ops.at nothing) (op_read c.args.ops.now c.ops.at c.ops-test.true) (omega (arith, long, all, inside)) so_far c.is_shown-is.result
    (c.is_shown-is.ensures function))

-- all of them
pub returns : goal.returns
returns c function =
    shown_all (scope_in c.args.program.now function) c.args.plan c.args.rows.now c.args.ops.now c.args.restores.now c.ops.at c.ops.restores
    c.ops-test.false (c.ops.invariant function)
