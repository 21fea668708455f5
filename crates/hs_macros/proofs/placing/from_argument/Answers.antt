use Rattle.std.proofs.Common.{◌≡◌, ap, ◌∙◌}
use Rattle.std.specs.FinSet as set
use Rattle.hs_tokens.specs.declared.token.Origin.TheVariants.{Macro}
use Rattle.hs_macros.specs.HideSets.{HideSet}
use Rattle.hs_macros.specs.Numbers.{named}
use Rattle.hs_macros.proofs.Naming.{named-union}
use Rattle.hs_macros.proofs.placing.from_argument.Goals as goal

-- the numbers together name what both hide
pub returns : goal.returns
returns c names hides is =
    let shared : named names c.in_ok-clone.field-0.value ≡ set.union (named names c.args.pending.now.hides.value) (named names hides) =
    ap (named names) (c.in_ok-clone.ensures.cases ∙ is) ∙ named-union names c.args.pending.now.hides.value hides in
    ap (λ (hides' : HideSet). record { token = record c.args.pending.now.token.now { pos = c.args.pos }; origin = Macro; hides = hides' }) shared
