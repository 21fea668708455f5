use Rattle.std.proofs.Common.{◌≤◌, [], ◌∷◌, refl, ap, arith}
use Rattle.std.proofs.lemmas.Bool.{false≢true}
use Rattle.hs_syntax.specs.Counts.{all_deepeners}
use Rattle.hs_syntax.proofs.Nestings.{stands_behind, too_deep}
use Rattle.hs_syntax.proofs.nesting.shallow.Goals as goal

-- one level, with no deepeners
pub tokens-init : goal.tokens-init
tokens-init c = (omega (arith, ap all_deepeners c.new-nesting.ensures), ([] ∷ [], c.new-nesting.ensures, refl))

-- the nesting passed the limit
pub returns-then-deepeners-number : goal.returns-then-deepeners-number
returns-then-deepeners-number c = (
  λ never. absurd (false≢true never),
  λ shallow. absurd (too_deep c.tokens.nesting c.pass.new.self c.tokens.left.now c.in-Some.rest.now
      c.args.tokens.now c.in-Some.source.now c.tokens.invariant.1 c.in-Some.ensures.cases.0 c.pass.ensures (omega arith) shallow),
)

-- the nesting did not
pub tokens-preserved : goal.tokens-preserved
tokens-preserved c =
    let within : all_deepeners c.pass.new.self ≤ 256 = omega arith in (
      within,
      stands_behind c.tokens.nesting c.pass.new.self c.tokens.left.now c.in-Some.rest.now c.args.tokens.now c.in-Some.source.now
          c.tokens.invariant.1 c.in-Some.ensures.cases.0 c.pass.ensures within,
    )
