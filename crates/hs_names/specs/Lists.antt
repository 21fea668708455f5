-- The last of a list.
use Rattle.std.specs.Prelude.{◌≡◌, List, [], ◌∷◌, ◌++◌}

-- the list ends with it
abbrev pub IsLast : {A : Type 0} → List A → A → Type 0
IsLast {A} its it = (front : List A) × (its ≡ front ++ it ∷ [])
