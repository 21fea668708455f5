-- What the types of a script say of its numbers: each fits in 32 bits, and the seed in 64.
--     InRange which                  so do the numbers of a list
--     AllInRange decisions           so do those of each decision
use Rattle.std.specs.Prelude.{◌<◌, List}
use Rattle.std.specs.List.{All as Each}
use Rattle.hs_heap.specs.declared.decision.Decision.{Decision}
use Rattle.hs_heap.specs.declared.decision.Which.{Which}
use Rattle.hs_heap.specs.declared.decision.Which.TheVariants.{All, These}

-- the numbers of a list
abbrev pub InRange : Which → Type 0
InRange All = Unit {0}
InRange (These numbers) = Each (λ number. number < 4294967296) numbers

-- those of both lists
pub record IsInRange (decision : Decision) : Type 0 where
  pub moves : InRange decision.moves
  pub purges : InRange decision.purges

-- those of each decision
abbrev pub AllInRange : List Decision → Type 0
AllInRange decisions = Each IsInRange decisions
