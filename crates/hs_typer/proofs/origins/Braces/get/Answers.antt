use Rattle.std.proofs.Common.{ap, ◌∙◌}
use Rattle.hs_typer.specs.Origins.{kept_for}
use Rattle.hs_typer.proofs.Kept.{kept_looked}
use Rattle.hs_typer.proofs.origins.Braces.get.Goals as goal

-- what is looked up is what the entries have at the brace
pub returns : goal.returns
returns g c =
    c.copied.ensures ∙ c.get.ensures.value ∙ kept_looked c.args.brace c.self.inside.map.entries ∙ ap (kept_for c.args.brace) c.self.view_is
