use Rattle.std.proofs.Common.{ap, sym, ◌∙◌, List}
use Rattle.hs_restores.specs.Parameters.{count_in, counted}
use Rattle.std.specs.List.{slice_get}
use Rattle.hs_code.specs.declared.op.Op.{Op}
use Rattle.hs_facts.specs.Names.{taken}
use Rattle.hs_tree.specs.declared.function.Function.{Function}
use Rattle.hs_restores.specs.Stepping.{scope_in}
use Rattle.hs_restores.proofs.taking.taken.Goals as goal

pub returns-in-Call : goal.returns-in-Call
returns-in-Call c function =
    c.taken_by_function.ensures
    ∙ ap (λ (list : List Function). count_in (slice_get list c.in-Call.place)) c.deref.ensures.value
    ∙ counted c.args.program.now.functions.items c.in-Call.place
    ∙ ap (λ (its : Op). taken (scope_in c.args.program.now function) its) (sym c.in-Call.is)
