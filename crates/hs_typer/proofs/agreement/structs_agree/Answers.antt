use Rattle.std.proofs.Common.{rules, option_copied}
use Rattle.hs_typer.proofs.Compared.{structs_apart}
use Rattle.hs_typer.proofs.agreement.structs_agree.Goals as goal

-- the origins decide
pub returns-else-a-b : goal.returns-else-a-b
returns-else-a-b c =
    structs_apart c.args.types.now c.args.origins.now c.args.a c.args.b c.have_bodies-complete.result (option_copied c.get.result)
    (option_copied c.get-else-a-b.result) c.origins_agree.result (search rules) c.have_bodies-complete.ensures c.get.ensures c.get-else-a-b.ensures
    c.origins_agree.ensures
