-- The decisions of a mover that draws them from a seed (own): a linear congruential generator of 64 bits.
--     next_state state               the state after a decision
--     decision_for state             what a state decides
--     seeded count state             so many decisions from that state on
use Rattle.std.specs.Prelude.{ℕ, zero, suc, ◌+◌, ◌*◌, ◌%◌, ◌^◌, ◌/◌, ◌==◌, Bool, true, false, List, [], ◌∷◌}
use Rattle.hs_heap.specs.declared.decision.Decision.{Decision}
use Rattle.hs_heap.specs.declared.decision.Which.{Which}
use Rattle.hs_heap.specs.declared.decision.Which.TheVariants.{All, These}

-- D. E. Knuth's multiplier for 64 bits
unfoldable pub next_state : ℕ → ℕ
next_state state = (state * 6364136223846793005 + 1442695040888963407) % 2 ^ 64

-- every block, or none
abbrev pub all_if : Bool → Which
all_if true = All
all_if false = These []

-- The highest bit says whether all blocks are moved, and the next one whether all are purged.
unfoldable pub decision_for : ℕ → Decision
decision_for state = record { moves = all_if (state / 2 ^ 63 == 1); purges = all_if (state / 2 ^ 62 % 2 == 1) }

-- each decision is that of the state after the step
unfoldable pub seeded : ℕ → ℕ → List Decision
seeded zero state = []
seeded (suc more) state = decision_for (next_state state) ∷ seeded more (next_state state)
