-- The sections of a list, whose last one is the innermost.
use Rattle.std.proofs.Common.{◌≡◌, List, [], ◌∷◌, ◌++◌, reverse, Some, refl, ap, ◌∙◌}
use Rattle.std.proofs.lemmas.List.{reverse-append}
use Rattle.hs_base.specs.declared.pos.Pos.{Pos}
use Rattle.hs_directives.specs.Sections.{open_at, outermost}
use Rattle.hs_directives.specs.declared.section.Section.{Section}

-- the outermost is the last, innermost first
outermost-last : (section last : Section) (outer : List Section) → outermost section (outer ++ last ∷ []) ≡ last.pos
outermost-last section last [] = refl
outermost-last section last (next ∷ outer) = outermost-last next last outer

open_at-last : (last : Section) (outer : List Section) → open_at (outer ++ last ∷ []) ≡ Some last.pos
open_at-last last [] = refl
open_at-last last (section ∷ outer) = ap (λ (pos : Pos). Some pos) (outermost-last section last outer)

-- and the first one of the list
pub open_at_first : (first : Section) (sections : List Section) → open_at (reverse (first ∷ sections)) ≡ Some first.pos
open_at_first first sections = ap open_at (reverse-append (first ∷ []) sections) ∙ open_at-last first (reverse sections)
