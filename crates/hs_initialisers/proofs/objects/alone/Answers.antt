use Rattle.std.proofs.Common.{◌≡◌, rules, subst}
use Rattle.hs_initialisers.specs.Initialisers.{excess}
use Rattle.hs_syntax.specs.Positions.{position_of}
use Rattle.hs_syntax.specs.Views.{view}
use Rattle.hs_typer.specs.Steps.{Refuses}
use Rattle.hs_initialisers.proofs.Choices.{alone_taken, alone_refused}
use Rattle.hs_initialisers.proofs.objects.alone.Goals as goal

-- the expression initialises the object
pub returns-then-takes : goal.returns-then-takes
returns-then-takes c =
    alone_taken (λ its. its.items) c.simple.new.typer c.args.typer.now c.args.id c.all_of-it.result (view c.args.e.now) c.simple.result
    (search rules) (search rules) (search rules)

-- it cannot
pub returns-else-takes : goal.returns-else-takes
returns-else-takes c =
    let place : c.position.result ≡ position_of (view c.args.e.now) = search rules in
    alone_refused c.args.typer.now c.args.id (view c.args.e.now) c.excess.result (search rules)
    (subst (λ at. Refuses (excess at (view c.args.e.now) c.args.typer.now) c.excess.result) place c.excess.ensures)
