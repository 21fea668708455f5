use Rattle.std.proofs.Common.{◌≡◌, drop, map, max}
use Rattle.hs_tokens.specs.Forms.{longest_of}
use Rattle.hs_tokens.specs.Ahead.{bytes_at}
use Rattle.hs_tokens.proofs.forms.longest_of.Given as goal

abbrev pub invariant-loop-text : goal.invariant-loop-text
invariant-loop-text l =
    max l.longest (longest_of (map (λ text. text.now) (drop l.text-index l.texts)) (bytes_at l.step))
    ≡ longest_of (map (λ text. text.now) l.texts) (bytes_at l.step)
