-- The row goes on by one, ends, or breaks off: by the reader of one step.
use Rattle.std.proofs.Common.{◌≡◌, true, false, not, None, Some, [], ap, sym, ◌∙◌}
use Rattle.hs_tree.specs.Straight.Fine.{are_fine_steps}
use Rattle.hs_checker.specs.Straight.Reading.{step_at}
use Rattle.hs_checker.specs.Straight.Rows.{statement, begins_statement}
use Rattle.hs_checker.proofs.Rows.{one_more, less, whole_row, broken_row}
use Rattle.hs_checker.proofs.Fine.{step_reader}
use Rattle.hs_checker.proofs.straight.steps.steps.Goals as goal
use Rattle.hs_checker.proofs.straight.steps.steps.Goals.{In-Some}

pub returns-in_default-clause-none : goal.returns-in_default-clause-none
returns-in_default-clause-none c =
    let here : begins_statement c.all.rest.now ≡ true = ap not (sym c.is_at.ensures ∙ c.all-test.true) in
    let fails : step_at c.args.variables.now c.all.steps.items c.all.rest.now ≡ None = rw c.deref.ensures.value at c.in_default.ensures in
    broken_row (statement c.args.variables.now) (are_fine_steps c.args.variables.now []) begins_statement (step_at c.args.variables.now)
    (step_reader c.args.variables.now c.requires.named) c.args.tokens.now c.all.steps.items c.all.rest.now c.all.invariant here fails

read : (c : In-Some) → step_at c.args.variables.now c.all.steps.items c.all.rest.now ≡ Some (c.in-Some.step, c.in-Some.after.now)
read c = rw c.deref.ensures.value at c.in-Some.ensures

pub all-smaller : goal.all-smaller
all-smaller c = less (statement c.args.variables.now) (are_fine_steps c.args.variables.now []) begins_statement (step_at c.args.variables.now)
    (step_reader c.args.variables.now c.requires.named) c.args.tokens.now c.all.steps.items c.all.rest.now _ (read (goal.at.all-smaller c).In-Some)

pub all-preserved : goal.all-preserved
all-preserved c =
    let here : begins_statement c.all.rest.now ≡ true = ap not (sym c.is_at.ensures ∙ c.all-test.true) in
    rw c.in_ok-push.ensures.items (one_more (statement c.args.variables.now) (are_fine_steps c.args.variables.now []) begins_statement
    (step_at c.args.variables.now) (step_reader c.args.variables.now c.requires.named) c.args.tokens.now c.all.steps.items c.all.rest.now _
    c.all.invariant here (read (goal.at.all-preserved c).In-Some))

pub returns-clause-found : goal.returns-clause-found
returns-clause-found c =
    let past : begins_statement c.all.rest.now ≡ false = ap not (sym c.is_at.ensures ∙ c.all-test.false) in
    whole_row (statement c.args.variables.now) (are_fine_steps c.args.variables.now []) begins_statement (step_at c.args.variables.now)
    (step_reader c.args.variables.now c.requires.named) c.args.tokens.now c.all.steps.items c.all.rest.now c.all.invariant past
