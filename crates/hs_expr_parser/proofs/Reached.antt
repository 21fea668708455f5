-- What the function that reads an expression reads is the reading of one.
use Rattle.std.proofs.Common.{◌≡◌, List}
use Rattle.hs_tokens.specs.declared.token.SourceToken.{SourceToken}
use Rattle.hs_expr_parser.specs.Goals as goal
use Rattle.hs_expr_parser.specs.Reading.{Known, reading}
use Rattle.hs_expr_parser.specs.Steps.{expression_at}
use Rattle.hs_expr_parser.specs.Laws.Wholly.{round}

pub expression_reading : (known : Known) (tokens : List SourceToken) → reading known goal.expression tokens ≡ expression_at known tokens
unfolding expression_at
expression_reading known tokens = λ i. round known i goal.expression tokens
