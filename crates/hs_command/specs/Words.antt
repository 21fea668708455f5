-- Words that ask for nothing. Own to this project.
--     HasNoRun words movers      they ask for no run, or for one with a mover that was not handed in
--     IsNoCommand words movers   they ask for no check either
use Rattle.std.specs.Prelude.{◌≡◌, ◌⊎◌, ℕ, List, None}
use Rattle.hs_words.specs.Words.{Asked, IsNoCheck, IsNoRun, IsRun}
use Rattle.hs_command.specs.Movers.{Telling, first_of}

-- they ask for no run, or for one with a mover that was not handed in
abbrev pub HasNoRun : List (List ℕ) → List Telling → Type 0
HasNoRun words movers = IsNoRun words ⊎ ((it : Asked) × IsRun words it × (first_of it.mover movers ≡ None))

-- they ask for no check either
abbrev pub IsNoCommand : List (List ℕ) → List Telling → Type 0
IsNoCommand words movers = IsNoCheck words × HasNoRun words movers
