use Rattle.std.proofs.Common.{List, slice_get, ap, sym, ◌∙◌}
use Rattle.hs_effects.specs.Calling.{whole_of}
use Rattle.hs_flow.specs.Laws.Parameters.{parameter_there, some_parameter}
use Rattle.hs_flow.specs.Programs.{parameters_in}
use Rattle.hs_tree.specs.declared.head.VariableDecl.{VariableDecl}
use Rattle.hs_flow.proofs.calls.parameter.Goals as goal

-- it is the one of that place
pub returns : goal.returns
returns c =
    let parameters : List VariableDecl = parameters_in (slice_get (whole_of c.args.code.now).program.functions c.args.f) in
    c.parameter_in.ensures
    ∙ ap
    (λ (its : List VariableDecl). some_parameter c.args.code.now.program.now.types c.args.code.now.program.now.same c.args.code.now.classes.items
    c.args.place (slice_get its c.args.place))
    c.parameters_of.ensures
    ∙ sym
    (parameter_there c.args.code.now.program.now.types c.args.code.now.program.now.same c.args.code.now.classes.items parameters c.args.place)
