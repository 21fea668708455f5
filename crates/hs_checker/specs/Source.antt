-- What the straight program of sources is. Own to this project.
--     IsTheTree tokens tree      the tokens spell the tree, and no other
--     IsTheProgram source tree   the sources are one unit, which spells the tree and no other
--     SpellsNone source          they are not one unit, or one that spells no tree
--     IsStraightOf source ..     what each answer of `straight_of` says of the sources
use Rattle.std.specs.Prelude.{◌≡◌, List, [], ◌∷◌, Option, Some, None, Result, Ok, Err}
use Rattle.hs_base.specs.declared.errors.NoMemory.{NoMemory}
use Rattle.hs_tokens.specs.declared.token.SourceToken.{SourceToken}
use Rattle.hs_tree.specs.declared.straight.tree.Straight.{Straight}
use Rattle.hs_directives.specs.declared.source.Source.{Source as Sources}
use Rattle.hs_checker.specs.Straight.Grammar.{IsStraight}

-- the tokens spell this tree and no other
abbrev pub IsTheTree : List SourceToken → Straight → Type 0
IsTheTree tokens tree = IsStraight tokens tree × ((other : Straight) → IsStraight tokens other → other ≡ tree)

-- the sources are one unit, whose tokens spell this tree and no other
abbrev pub IsTheProgram : Sources → Straight → Type 0
IsTheProgram source tree = (tokens : List SourceToken) × (source.units ≡ tokens ∷ []) × IsTheTree tokens tree

-- the sources are not one unit whose tokens spell a tree
abbrev pub SpellsNone : Sources → Type 0
SpellsNone source = (tokens : List SourceToken) (tree : Straight) → source.units ≡ tokens ∷ [] → IsStraight tokens tree → ⊥

-- the straight program of sources, if they are one
abbrev pub IsStraightOf : Sources → Result (Option Straight) NoMemory → Type 0
IsStraightOf source (Ok (Some tree)) = IsTheProgram source tree
IsStraightOf source (Ok None) = SpellsNone source
IsStraightOf source (Err _) = Unit {0}
