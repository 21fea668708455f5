-- The constants of an initialiser, found by hashing.
--     constant_at its entries     the constant of a scalar, if it has one there
--     AreIndexed entries parts    that is the first constant for the scalar in the list
--     Gains part old new          with one more, which counts for its scalar
--     part_onto its front later   the constant in a list, or else that one
use Rattle.std.specs.Prelude.{◌≡◌, Bool, List, [], ◌∷◌, Option}
use Rattle.std.specs.Map.{lookup}
use Rattle.hs_meaning.specs.Scalars.{Scalar}
use Rattle.hs_meaning.specs.Statements.{or_later, is_for, part_for}
use Rattle.hs_tree.specs.declared.constant.Part.{Part}
use Rattle.hs_lower_starts.specs.Keys.{key_of_scalar}
use Rattle.hs_lower_starts.specs.contracts.key.KeyPartialEq.TheImpl as key_eq
use Rattle.hs_lower_starts.specs.declared.key.Key.{Key}

-- the same byte and type
abbrev pub same_key : Key → Key → Bool
same_key = (key_eq.ghosts).eq

-- what has the key of the scalar
abbrev pub constant_at : Scalar → List (Key × Part) → Option Part
constant_at its entries = lookup (same_key (key_of_scalar its)) entries

-- for each scalar the first constant that is for it
abbrev pub AreIndexed : List (Key × Part) → List Part → Type 0
AreIndexed entries parts = (its : Scalar) → constant_at its entries ≡ part_for its parts

-- one constant more, in front of the others
abbrev pub Gains : Part → List (Key × Part) → List (Key × Part) → Type 0
Gains part old new = (its : Scalar) → constant_at its new ≡ or_later (is_for its part) part (constant_at its old)

-- of a list in front of what is found already
abbrev pub part_onto : Scalar → List Part → Option Part → Option Part
part_onto its [] later = later
part_onto its (part ∷ front) later = or_later (is_for its part) part (part_onto its front later)
