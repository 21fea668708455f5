-- The fields of a struct by their names (X3.159-1989 3.5.2.1). Two members of one struct have two names; if they had one, the first
-- would be found.
--     place_from name place names     where the name is among these, of which the first has that place
--     field_place name fields         the place of the field of that name
--     AreIndexed places fields        an index has the places of the fields
use Rattle.std.specs.Prelude.{◌≡◌, ℕ, suc, nat_eq, List, [], ◌∷◌, Option, Some, None, is_some, if◌then◌else◌}
use Rattle.std.specs.Cmp.Lexicographic.{pointwise}
use Rattle.hs_index.specs.Index.{at}
use Rattle.hs_types.specs.declared.body.Field.{Field}

abbrev pub place_from : List ℕ → ℕ → List Field → Option ℕ
place_from name place [] = None
place_from name place (field ∷ fields) = if pointwise nat_eq field.name name then Some place else place_from name (suc place) fields

abbrev pub field_place : List ℕ → List Field → Option ℕ
field_place name fields = place_from name 0 fields

-- the first of two places
abbrev pub first_of : Option ℕ → Option ℕ → Option ℕ
first_of None other = other
first_of (Some place) other = Some place

-- An index that has the names before these fields has those of all.
abbrev pub Completes : List (List ℕ × ℕ) → ℕ → List Field → List Field → Type 0
Completes places place rest fields = (name : List ℕ) → first_of (at name places) (place_from name place rest) ≡ field_place name fields

-- An index with a name more, unless it had the name.
abbrev pub Gains : List ℕ → ℕ → List (List ℕ × ℕ) → List (List ℕ × ℕ) → Type 0
Gains name place old new =
    (text : List ℕ) → at text new
    ≡ (if is_some (at name old) then at text old else if pointwise nat_eq name text then Some place else at text old)

abbrev pub AreIndexed : List (List ℕ × ℕ) → List Field → Type 0
AreIndexed places fields = (name : List ℕ) → at name places ≡ field_place name fields
