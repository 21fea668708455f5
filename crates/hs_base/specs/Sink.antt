-- What a put means. Own to this project.
--     Appends written written' piece      the written bytes grew by the piece, if they are known
--     IsPut ..                            what each answer of `put` says
use Rattle.std.specs.Prelude.{◌≡◌, ℕ, ◌≤◌, List, ◌++◌, Option, Some, None, Result, Ok, Err}
use Rattle.hs_base.specs.Count.{HasRisen}
use Rattle.hs_base.specs.declared.errors.Failed.{Failed}

-- a sink that tells its bytes goes on telling them, and one that tells nothing tells nothing
abbrev pub Appends : Option (List ℕ) → Option (List ℕ) → List ℕ → Type 0
Appends (Some old) (Some new) piece = new ≡ old ++ piece
Appends None None piece = Unit {0}
Appends (Some old) None piece = ⊥
Appends None (Some new) piece = ⊥

-- front begins the text
abbrev pub IsFrontOf : List ℕ → List ℕ → Type 0
IsFrontOf front text = (rest : List ℕ) × (text ≡ front ++ rest)

-- a put of `piece`: the bytes that are known, and the count of faults, before it and after it
abbrev pub IsPut : List ℕ → Option (List ℕ) → Option (List ℕ) → ℕ → ℕ → Result Unit Failed → Type 0
-- the piece was written
IsPut piece told told' faults faults' (Ok _) = Appends told told' piece × (faults ≤ faults')
-- the outside failed: a fault is counted, and a front of the piece was written
IsPut piece told told' faults faults' (Err _) =
    ((front : List ℕ) × IsFrontOf front piece × Appends told told' front) × (faults ≤ faults') × HasRisen faults faults'
