-- A law of the units: those that have trees are of the grammar.
use Rattle.std.specs.Prelude.{List, [], ◌∷◌}
use Rattle.hs_tokens.specs.declared.token.SourceToken.{SourceToken}
use Rattle.hs_syntax.specs.Trees.{TranslationUnit}
use Rattle.hs_source.specs.Source.{AreParsed, AreTrees}

pub are_parsed : (units : List (List SourceToken)) (trees : List TranslationUnit) → AreTrees units trees → AreParsed units
are_parsed [] [] are = tt
are_parsed [] (tree ∷ trees) are = absurd are
are_parsed (tokens ∷ units) [] are = absurd are
are_parsed (tokens ∷ units) (tree ∷ trees) are = ((are.0, (tree, are.1)), are_parsed units trees are.2)
