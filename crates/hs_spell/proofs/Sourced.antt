-- The sources of pieces are spelled by them.
use Rattle.std.proofs.Common.{◌≡◌, true, List, [], ◌∷◌, map, Option, Some, None, refl}
use Rattle.std.specs.Prelude.{IfSome}
use Rattle.hs_syntax.specs.Forms.{Form, Piece, IsAt, IsOf, Spells}
use Rattle.hs_spell.specs.Spelling.{source_of}
use Rattle.hs_tokens.specs.declared.place.Place.{Place}

-- A token of a piece is at its place.
stands_at : (piece : Piece) → IfSome piece.place (IsAt (source_of piece))
stands_at piece = of_place piece.place refl
  where
    of_place : (place : Option Place) → piece.place ≡ place → IfSome place (IsAt (source_of piece))
    of_place None is = tt
    of_place (Some place) is = rw is (refl, refl)

-- by induction on the pieces
spells : (pieces : List Piece) → Spells pieces (map source_of pieces)
spells [] = tt
spells (piece ∷ pieces) = (refl, refl, stands_at piece, spells pieces)

-- A phrase of the grammar is that of the sources of its pieces.
pub of_sources : (form : Form) → form.fits ≡ true → IsOf form (map source_of form.pieces)
of_sources form fits = (fits, spells form.pieces)
