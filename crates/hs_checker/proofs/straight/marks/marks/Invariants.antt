use Rattle.std.proofs.Common.{◌≡◌, map, drop}
use Rattle.hs_checker.specs.Straight.Reading.{marks_at}
use Rattle.hs_checker.proofs.straight.marks.marks.Given as goal

abbrev pub invariant-loop-text : goal.invariant-loop-text
invariant-loop-text l = marks_at (map (λ text. text.now) (drop l.text-index l.texts)) l.rest ≡ marks_at (map (λ text. text.now) l.texts) l.tokens
