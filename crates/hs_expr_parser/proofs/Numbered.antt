-- The longest expression from a token by its number.
--     slice_is, found_from, longest_from, only_from, none_from
use Rattle.std.proofs.Common.{◌≡◌, ℕ, ◌≤◌, ◌<◌, List, length, take, drop, Some, None, ◌∙◌, subst, arith}
use Rattle.std.specs.Prelude.{◌-◌}
use Rattle.std.proofs.lemmas.List.{length-drop, take_all}
use Rattle.hs_tokens.specs.declared.token.SourceToken.{SourceToken}
use Rattle.hs_syntax.specs.Grammar.{IsExpression}
use Rattle.hs_syntax.specs.Trees.{Expression}
use Rattle.hs_expr_parser.specs.Reading.{Known}
use Rattle.hs_expr_parser.specs.Steps.{expression_at}
use Rattle.hs_expr_parser.specs.Laws.Exact.{found_by_length, longest_by_length, only_by_length, none_by_length}
use Rattle.hs_expr_parser.proofs.Reached.{expression_reading}

-- a slice from a number on
pub slice_is : (tokens : List SourceToken) (at : ℕ) → take (length tokens - at) (drop at tokens) ≡ drop at tokens
slice_is tokens at = take_all (length tokens - at) (drop at tokens) (omega (arith, length-drop at tokens))

-- as many tokens, counted from the first one or from the number
counted : (tokens : List SourceToken) (at left : ℕ) → at ≤ length tokens → left ≤ length (drop at tokens)
    → length (drop at tokens) - left ≡ length tokens - left - at
counted tokens at left within less = omega (arith, length-drop at tokens, within, less)

pub found_from : (known : Known) (tokens : List SourceToken) (at : ℕ) (e : Expression) (rest : List SourceToken) → at ≤ length tokens
    → expression_at known (drop at tokens) ≡ Some (e, rest)
    → (at ≤ length tokens - length rest) × (length tokens - length rest ≤ length tokens)
    × IsExpression known (take (length tokens - length rest - at) (drop at tokens)) e
found_from known tokens at e rest within read =
    let found = found_by_length known (drop at tokens) e rest (expression_reading known (drop at tokens) ∙ read) in
    let fits : IsExpression known (take (length tokens - length rest - at) (drop at tokens)) e =
    subst (λ (n : ℕ). IsExpression known (take n (drop at tokens)) e) (counted tokens at (length rest) within found.0) found.1 in
    (omega (arith, length-drop at tokens, within, found.0), omega arith, fits)

pub longest_from : (known : Known) (tokens : List SourceToken) (at : ℕ) (e : Expression) (rest : List SourceToken) → at ≤ length tokens
    → expression_at known (drop at tokens) ≡ Some (e, rest) → (n : ℕ) (other : Expression) → length tokens - length rest < n → n ≤ length tokens
    → IsExpression known (take (n - at) (drop at tokens)) other → ⊥
longest_from known tokens at e rest within read n other longer most fits =
    let found = found_by_length known (drop at tokens) e rest (expression_reading known (drop at tokens) ∙ read) in
    let low = longest_by_length known (drop at tokens) e rest (expression_reading known (drop at tokens) ∙ read) (n - at) other
    (omega (arith, length-drop at tokens, within, most)) fits in
    omega (arith, length-drop at tokens, within, found.0, low, longer, most)

pub only_from : (known : Known) (tokens : List SourceToken) (at n : ℕ) (e other : Expression) → IsExpression known (take n (drop at tokens)) e
    → IsExpression known (take n (drop at tokens)) other → other ≡ e
only_from known tokens at n e other fits others = only_by_length known (drop at tokens) other e n others fits

pub none_from : (known : Known) (tokens : List SourceToken) → expression_at known tokens ≡ None → (n : ℕ) (other : Expression)
    → IsExpression known (take n tokens) other → ⊥
none_from known tokens none n other fits = none_by_length known tokens (expression_reading known tokens ∙ none) n other fits
