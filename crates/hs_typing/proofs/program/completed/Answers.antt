use Rattle.std.proofs.Common.{rules, ◌≡◌, map}
use Rattle.hs_tree.specs.Views.{view_function}
use Rattle.hs_typing.specs.Programs.{assembled, view_typed}
use Rattle.hs_typing.proofs.Completed.{completed_is}
use Rattle.hs_typing.proofs.program.completed.Goals as goal

-- what was held while the ends were made is what the program is made of
pub returns-in-Ok : goal.returns-in-Ok
returns-in-Ok c =
    let viewed : view_typed c.assembled.result
    ≡ assembled (
      c.in-Ok.all.typer.types,
      c.in-Ok.ends.globals,
      c.in-Ok.all.typer.literals,
      c.in-Ok.ends.routines,
      c.in-Ok.ends.same,
      c.in-Ok.ends.taken,
    )
    (map view_function c.in-Ok.functions.items) c.args.number
    = search rules in
    completed_is c.args.m c.ends_of-ends.new.m c.in-Ok.all c.args.functions c.in-Ok.functions c.in-Ok.ends c.with.result c.assembled.result
    c.args.number c.within.result c.ends_of-ends.result c.ends_of-ends.ensures c.with.ensures.both c.with.ensures.fails c.in-Ok.is viewed
    c.within.ensures
