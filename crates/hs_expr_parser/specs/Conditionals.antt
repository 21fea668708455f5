-- What a parser of types and declarators is given: a parser of conditional expressions, which says how many tokens it took.
--     MayAsk pre most                       it may be asked about token lists up to that long
--     ReadsConditionals post known most     on these it reads conditional expressions
use Rattle.std.specs.Prelude.{ℕ, List, ◌<◌, ◌≤◌, length, drop, Result, IfOk}
use Rattle.std.specs.Borrow.{Bor}
use Rattle.hs_tokens.specs.declared.token.SourceToken.{SourceToken}
use Rattle.hs_syntax.specs.Views.{view}
use Rattle.hs_syntax.specs.declared.expr.Expr.{Expr}
use Rattle.hs_expr_parser.specs.Given.{Gives}
use Rattle.hs_expr_parser.specs.Reading.{Known}
use Rattle.hs_expr_parser.specs.Steps.{conditional_at}
use Rattle.hs_expr_parser.specs.declared.parse_end.ParseEnd.{ParseEnd}

-- it may be asked about token lists up to that long
abbrev pub MayAsk : (Bor (List SourceToken) → Type 0) → ℕ → Type 0
MayAsk pre most = (tokens : Bor (List SourceToken)) → length tokens.now ≤ most → pre tokens

-- on these it reads conditional expressions, and takes a token at least
abbrev pub ReadsConditionals : (Bor (List SourceToken) → Result (Expr × ℕ) ParseEnd → Type 0) → Known → ℕ → Type 0
ReadsConditionals post known most =
    (tokens : Bor (List SourceToken)) (result : Result (Expr × ℕ) ParseEnd) → length tokens.now ≤ most → post tokens result
    → Gives (λ x. (view x.0, drop x.1 tokens.now)) result (conditional_at known tokens.now) × IfOk result (λ x. (0 < x.1) × (x.1 ≤ length tokens.now))
