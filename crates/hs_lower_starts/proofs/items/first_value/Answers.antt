use Rattle.std.proofs.Common.{length}
use Rattle.hs_lower_expressions.specs.Contexts.{setting_in}
use Rattle.hs_lower_expressions.specs.EmittingLaws.{emits_of}
use Rattle.hs_tree.specs.Views.{view_function, view_initial, view_item}
use Rattle.hs_lower_starts.specs.FirstValues.{item_code, item_steps}
use Rattle.hs_lower_starts.proofs.Equations.{item_emitted}
use Rattle.hs_lower_starts.proofs.items.first_value.Goals as goal

-- the steps are those of the definition
pub returns-clause-steps : goal.returns-clause-steps
unfolding setting_in
returns-clause-steps c =
    item_emitted (setting_in c.args.context.now) (view_function c.args.function.now) c.args.context.now.piece c.args.item.now.variable c.args.item.now.at
    c.start.result (view_initial c.args.item.now.value) c.args.ops.now c.start.new.ops c.args.context.now.variables.now c.target-to.result
    c.requires.variables c.target-to.ensures c.start.ensures.emitted

-- and so is the code
pub returns-clause-code : goal.returns-clause-code
unfolding setting_in item_steps
returns-clause-code c =
    emits_of c.args.ops.now c.start.new.ops
    (item_code (setting_in c.args.context.now) (view_function c.args.function.now) c.args.context.now.piece (view_item c.args.item.now)
    (length c.args.ops.now))
    c.start.result
    (item_emitted (setting_in c.args.context.now) (view_function c.args.function.now) c.args.context.now.piece c.args.item.now.variable c.args.item.now.at
    c.start.result (view_initial c.args.item.now.value) c.args.ops.now c.start.new.ops c.args.context.now.variables.now c.target-to.result
    c.requires.variables c.target-to.ensures c.start.ensures.emitted)
