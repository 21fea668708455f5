-- Names with their places.
--     at name its                      the place of the name, if it has one
--     Puts name place old new          the name has that place, and each other name the one that it had
--     Removes name old new             the name has none, and each other name the one that it had
use Rattle.std.specs.Prelude.{◌≡◌, ℕ, List, Option, Some, None, Vec, map as map_list, nat_eq, if◌then◌else◌}
use Rattle.std.specs.Global.{Global}
use Rattle.std.specs.Cmp.Lexicographic.{pointwise}
use Rattle.std.specs.Map.{lookup}

-- the entries of a map, by the bytes of their keys
abbrev pub by_bytes : List (Vec ℕ Global × ℕ) → List (List ℕ × ℕ)
by_bytes entries = map_list {B = List ℕ × ℕ} (λ (entry : Vec ℕ Global × ℕ). (entry.0.items, entry.1)) entries

abbrev pub at : List ℕ → List (List ℕ × ℕ) → Option ℕ
at name its = lookup (λ other. pointwise nat_eq name other) its

abbrev pub Puts : List ℕ → ℕ → List (List ℕ × ℕ) → List (List ℕ × ℕ) → Type 0
Puts name place old new = (text : List ℕ) → at text new ≡ (if pointwise nat_eq name text then Some place else at text old)

abbrev pub Removes : List ℕ → List (List ℕ × ℕ) → List (List ℕ × ℕ) → Type 0
Removes name old new = (text : List ℕ) → at text new ≡ (if pointwise nat_eq name text then None else at text old)
