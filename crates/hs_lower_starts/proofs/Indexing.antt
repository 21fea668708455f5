-- The constants of an initialiser, put into their index from the last one to the first.
--     onto_last     one more is in the index
--     onto_none     none is in it yet
use Rattle.std.proofs.Common.{◌≡◌, List, [], ◌∷◌, ◌++◌, Option, None, refl, ap}
use Rattle.hs_meaning.specs.Scalars.{Scalar}
use Rattle.hs_meaning.specs.Statements.{or_later, is_for, part_for}
use Rattle.hs_tree.specs.declared.constant.Part.{Part}
use Rattle.hs_lower_starts.specs.PartIndex.{part_onto}

-- the last one is found if none in front of it is
pub onto_last : (its : Scalar) (front : List Part) (part : Part) (later : Option Part)
    → part_onto its (front ++ part ∷ []) later ≡ part_onto its front (or_later (is_for its part) part later)
onto_last its [] part later = refl
onto_last its (first ∷ front) part later = ap (or_later (is_for its first) first) (onto_last its front part later)

-- all are in front of none
pub onto_none : (its : Scalar) (parts : List Part) → part_onto its parts None ≡ part_for its parts
onto_none its [] = refl
onto_none its (part ∷ parts) = ap (or_later (is_for its part) part) (onto_none its parts)
