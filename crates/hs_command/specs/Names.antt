-- The names of the files that were read. Own to this project.
--     IsNoted before name now     the name was noted after those before
use Rattle.std.specs.Prelude.{◌≡◌, ℕ, List, [], ◌∷◌, ◌++◌, Option, IfSome, IsSomeAnd}

-- the names, if there was memory for them all
abbrev pub Names : Type 0
Names = Option (List (List ℕ))

-- if the names are there, this one follows those before
abbrev pub IsNoted : Names → List ℕ → Names → Type 0
IsNoted before name now = IfSome now (λ names. IsSomeAnd before (λ earlier. names ≡ earlier ++ name ∷ []))
