-- Each exit: what was read so far, and the law that another tree would have to meet.
use Rattle.std.proofs.Common.{◌≤◌, List, length, sym, subst, ◌∙◌, arith}
use Rattle.std.proofs.lemmas.Bool.{both_ways}
use Rattle.hs_tree.specs.declared.straight.tree.Variable.{Variable}
use Rattle.hs_checker.specs.Straight.Ends.{IsOpened, IsClosing}
use Rattle.hs_checker.specs.Straight.Rows.{AreDeclarations, AreSteps, NoDeclarations, NoSteps}
use Rattle.hs_checker.proofs.Whole.{none_undeclared, none_broken, none_unclosed, same_variables, same_steps, same_tree}
use Rattle.hs_checker.proofs.straight.reader.read_few.Goals as goal
use Rattle.hs_checker.proofs.straight.reader.read_few.Goals.{In-Some, In-Some-2, In-Some-3}

opened : (c : In-Some) → IsOpened c.args.tokens.now c.in-Some.rest.now
opened c = rw c.in-Some.is at c.after_opening.ensures.found

declared : (c : In-Some-2) → AreDeclarations c.in-Some.rest.now c.in-Some-2.variables.items c.in-Some-2.rest.now
declared c = rw c.in-Some-2.is at c.in_ok-variables.ensures.found

stepped : (c : In-Some-3) → AreSteps c.in-Some-2.variables.items c.in-Some-2.rest.now c.in-Some-3.steps.items c.in-Some-3.rest.now
stepped c =
    let here : AreSteps c.deref.result.now c.in-Some-2.rest.now c.in-Some-3.steps.items c.in-Some-3.rest.now =
    rw c.in-Some-3.is at c.in_ok-steps.ensures.found in
    subst (λ (v : List Variable). AreSteps v c.in-Some-2.rest.now c.in-Some-3.steps.items c.in-Some-3.rest.now) c.deref.ensures.value here

pub returns-in_default-2-clause-none : goal.returns-in_default-2-clause-none
returns-in_default-2-clause-none c other spelled =
    let fails : NoDeclarations c.in-Some.rest.now = rw c.in_default-2.is at c.in_ok-variables.ensures.none in
    none_undeclared c.args.tokens.now other.variables other.steps other.fine spelled c.in-Some.rest.now
    (opened (goal.at.returns-in_default-2-clause-none c).In-Some) fails

pub steps-requires-clause-few : goal.steps-requires-clause-few
steps-requires-clause-few c =
    let variables : length c.in-Some-2.variables.items ≤ length c.in-Some.rest.now = rw c.in-Some-2.is at c.in_ok-variables.ensures.few in
    let rest : length c.in-Some.rest.now ≤ length c.args.tokens.now = rw c.in-Some.is at c.after_opening.ensures.few in
    rw c.deref.ensures.value (omega arith)

pub returns-in_default-3-clause-none : goal.returns-in_default-3-clause-none
returns-in_default-3-clause-none c other spelled =
    let here : NoSteps c.deref.result.now c.in-Some-2.rest.now = rw c.in_default-3.is at c.in_ok-steps.ensures.none in
    let fails : NoSteps c.in-Some-2.variables.items c.in-Some-2.rest.now =
    subst (λ (v : List Variable). NoSteps v c.in-Some-2.rest.now) c.deref.ensures.value here in
    none_broken c.args.tokens.now other.variables other.steps other.fine spelled c.in-Some.rest.now c.in-Some-2.rest.now c.in-Some-2.variables.items
    (opened (goal.at.returns-in_default-3-clause-none c).In-Some) (declared (goal.at.returns-in_default-3-clause-none c).In-Some-2) fails

pub returns-then-not-is_closing-clause-none : goal.returns-then-not-is_closing-clause-none
returns-then-not-is_closing-clause-none c other spelled =
    let fails : IsClosing c.in-Some-3.rest.now → ⊥ = λ s. both_ways c.is_closing.result c.if-not-is_closing.true (c.is_closing.ensures.1 s) in
    let at = goal.at.returns-then-not-is_closing-clause-none c in
    none_unclosed c.args.tokens.now other.variables other.steps other.fine spelled c.in-Some.rest.now c.in-Some-2.rest.now c.in-Some-2.variables.items
    (opened at.In-Some) (declared at.In-Some-2) c.in-Some-3.rest.now c.in-Some-3.steps.items (stepped at.In-Some-3) fails

pub returns-clause-only : goal.returns-clause-only
returns-clause-only c other spelled =
    let at = goal.at.returns-clause-only c in
    let variables = same_variables c.args.tokens.now other.variables other.steps other.fine spelled c.in-Some.rest.now c.in-Some-2.rest.now
    c.in-Some-2.variables.items
    (opened at.In-Some) (declared at.In-Some-2) c.in-Some-3.rest.now c.in-Some-3.steps.items (stepped at.In-Some-3) in
    let steps = same_steps c.args.tokens.now other.variables other.steps other.fine spelled c.in-Some.rest.now c.in-Some-2.rest.now
    c.in-Some-2.variables.items
    (opened at.In-Some) (declared at.In-Some-2) c.in-Some-3.rest.now c.in-Some-3.steps.items (stepped at.In-Some-3) in
    same_tree other _ (variables ∙ sym c.from_vec-variables.ensures) (steps ∙ sym c.from_vec-steps.ensures)
