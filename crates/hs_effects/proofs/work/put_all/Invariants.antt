use Rattle.std.proofs.Common.{◌≡◌, take, Contains}
use Rattle.hs_effects.specs.Working.{Grows}
use Rattle.hs_effects.proofs.work.put_all.Given as goal

-- the functions so far got the number
abbrev pub invariant-functions : goal.invariant-functions
invariant-functions l = Grows (λ f b. Contains (take l.function-index l.functions) f × (b ≡ l.number)) l.fn.work l.work
