use Rattle.std.proofs.Common.{rules, ◌≡◌, sym, subst}
use Rattle.hs_declarations.specs.Declarations.{started_as}
use Rattle.hs_linkage.specs.Works.{Works}
use Rattle.hs_syntax.specs.Views.{view_initialiser}
use Rattle.hs_tree.specs.declared.head.Variable.TheVariants as variable
use Rattle.hs_typer.specs.declared.typer.Entity.TheVariants as entity
use Rattle.hs_declarations.proofs.starts.started_as.Goals as goal

-- an object of static storage duration
pub returns-in-Variable-Global-default : goal.returns-in-Variable-Global-default
returns-in-Variable-Global-default c =
    let whole : c.args.its ≡ entity.Variable (variable.Global c.in-Variable-Global-default.place) c.in-Variable-Global-default.type_id = search rules in
    subst
    (λ its. Works {A = Unit {0}} {B = Unit {0}} (λ it. it) c.object_started.new.m
    (started_as c.args.internal c.args.word.now (view_initialiser c.args.it.now) its c.args.m.now) c.object_started.result)
    (sym whole) c.object_started.ensures
