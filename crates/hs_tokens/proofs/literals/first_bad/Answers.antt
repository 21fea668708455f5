use Rattle.std.proofs.Common.{◌∙◌, refl}
use Rattle.hs_tokens.specs.Ahead.{ahead, placed_at, bytes_at}
use Rattle.hs_tokens.proofs.Escapes.{bad_later}
use Rattle.hs_tokens.proofs.literals.first_bad.Goals as goal

-- the loop is one character on, and that one is good
pub characters-preserved : goal.characters-preserved
characters-preserved c =
    let step = c.in-Some.step in
    let behind = c.in-Some-behind_character in
    λ other. bad_later (placed_at step) (ahead c.characters.rest) (ahead step.after) (ahead behind.behind) (bytes_at step) refl
    c.in-Some.ensures.0 behind.ensures.1 other behind.ensures.0 ∙ c.characters.invariant other
