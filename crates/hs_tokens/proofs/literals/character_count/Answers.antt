use Rattle.std.proofs.Common.{◌∙◌, refl, arith}
use Rattle.hs_tokens.specs.Ahead.{ahead, placed_at, bytes_at}
use Rattle.hs_tokens.proofs.Escapes.{count_next}
use Rattle.hs_tokens.proofs.literals.character_count.Goals as goal

-- the loop is one character on
pub characters-preserved : goal.characters-preserved
characters-preserved c =
    let step = c.in-Some.step in
    let behind = c.behind_any-rest in
    record {
      count = count_next (placed_at step) (ahead c.characters.rest) (ahead step.after) (ahead behind.result) (bytes_at step) refl
          c.in-Some.ensures.0 behind.ensures.ahead c.characters.count ∙ c.characters.invariant.count;
      left = omega (arith, c.in-Some.ensures.1, behind.ensures.left);
    }
