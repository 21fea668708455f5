-- The units that were parsed so far, in their order, with their trees, and the first that is not in the grammar.
use Rattle.std.proofs.Common.{◌≡◌, ℕ, ◌+◌, ◌<◌, List, [], ◌∷◌, ◌++◌, length, map, take, drop, get_or, drop-cons, add-one, sym, ap, ◌∙◌}
use Rattle.std.proofs.lemmas.List.{take_more, take-append-drop, map-append}
use Rattle.hs_tokens.specs.declared.token.SourceToken.{SourceToken}
use Rattle.hs_syntax.specs.Grammar.{IsUnit}
use Rattle.hs_syntax.specs.Nesting.{IsShallow}
use Rattle.hs_syntax.specs.Trees.{TranslationUnit}
use Rattle.hs_syntax.specs.Views.{view_unit}
use Rattle.hs_syntax.specs.declared.unit.Unit.{Unit as Tree}
use Rattle.hs_source.specs.Laws.{are_parsed}
use Rattle.hs_source.specs.Source.{AreTrees, IsFirst}

-- after units with their trees, one more
AreTrees-push : (before : List (List SourceToken)) (trees : List TranslationUnit) (tokens : List SourceToken) (tree : TranslationUnit)
    → AreTrees before trees → IsShallow tokens → IsUnit tokens tree → AreTrees (before ++ tokens ∷ []) (trees ++ tree ∷ [])
AreTrees-push [] [] tokens tree before shallow is = (shallow, is, tt)
AreTrees-push [] (other ∷ trees) tokens tree before shallow is = absurd before
AreTrees-push (first ∷ rest) [] tokens tree before shallow is = absurd before
AreTrees-push (first ∷ rest) (other ∷ trees) tokens tree before shallow is =
    (before.0, before.1, AreTrees-push rest trees tokens tree before.2 shallow is)

-- the loop over the units: one more of them
pub AreTrees-more : (units : List (List SourceToken)) (i : ℕ) (d : List SourceToken) (trees : List Tree) (tree : Tree) → i < length units
    → AreTrees (take i units) (map view_unit trees) → IsShallow (get_or units i d) → IsUnit (get_or units i d) (view_unit tree)
    → AreTrees (take (i + 1) units) (map view_unit (trees ++ tree ∷ []))
AreTrees-more units i d trees tree below before shallow is =
    rw (take_more units i d below, map-append view_unit trees (tree ∷ []))
    (AreTrees-push (take i units) (map view_unit trees) (get_or units i d) (view_unit tree) before shallow is)

-- the units before it, that unit, and those after it
whole_at : (units : List (List SourceToken)) (i : ℕ) (d : List SourceToken) → i < length units
    → units ≡ take i units ++ get_or units i d ∷ drop (i + 1) units
whole_at units i d below =
    sym (take-append-drop i units)
    ∙ ap (λ (rest : List (List SourceToken)). take i units ++ rest)
    (drop-cons units i d below ∙ ap (λ (n : ℕ). get_or units i d ∷ drop n units) (sym (add-one i)))

-- after units of the grammar, the first that is wrong
pub IsFirst-at : (Is : List SourceToken → Type 0) (units : List (List SourceToken)) (i : ℕ) (d : List SourceToken) → i < length units
    → (trees : List TranslationUnit) → AreTrees (take i units) trees → Is (get_or units i d) → IsFirst units Is
IsFirst-at Is units i d below trees before is = record {
  before = take i units;
  tokens = get_or units i d;
  behind = drop (i + 1) units;
  whole = whole_at units i d below;
  parsed = are_parsed (take i units) trees before;
  is = is;
}
