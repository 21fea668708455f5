-- What a mover tells (own). A mover decides at each call of a routine that moves or purges which blocks are moved and purged.
--     no_block                       the decision that names no block
--     Decides told given later       what a mover that told those decisions may give, and what it tells afterwards
--     most_decisions                 how many decisions a mover tells that never ends: no run asks for more
--     repeated count decision        so many times that decision
use Rattle.std.specs.Prelude.{◌≡◌, ℕ, zero, suc, List, [], ◌∷◌, Option, Some, None}
use Rattle.hs_heap.specs.declared.decision.Decision.{Decision}
use Rattle.hs_heap.specs.declared.decision.Which.TheVariants.{All, These}

-- nothing is moved, and nothing is purged
abbrev pub no_block : Decision
no_block = record { moves = These []; purges = These [] }

-- every block is moved that may move
abbrev pub all_blocks : Decision
all_blocks = record { moves = All; purges = These [] }

-- A mover that tells its decisions gives the first of them, or no block past their end, and then tells the rest. Of one that tells nothing,
-- nothing is known.
abbrev pub Decides : Option (List Decision) → Decision → Option (List Decision) → Type 0
Decides None given later = Unit {0}
Decides (Some []) given later = (given ≡ no_block) × (later ≡ Some [])
Decides (Some (decision ∷ rest)) given later = (given ≡ decision) × (later ≡ Some rest)

-- one more than a run may record
unfoldable pub most_decisions : ℕ
most_decisions = 4000001

-- so many times the same
unfoldable pub repeated : ℕ → Decision → List Decision
repeated zero decision = []
repeated (suc more) decision = decision ∷ repeated more decision
