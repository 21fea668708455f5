-- What is left after an expression, by the number of its tokens.
--     conditional_taken      what a conditional expression leaves is what its number of tokens leaves
use Rattle.std.proofs.Common.{◌≡◌, ℕ, List, ◌++◌, length, drop, Some, ap, sym, ◌∙◌, subst, arith}
use Rattle.std.specs.Prelude.{◌-◌}
use Rattle.std.proofs.Math.Seq.{drop-append_seam}
use Rattle.std.proofs.lemmas.List.{length-append}
use Rattle.hs_tokens.specs.declared.token.SourceToken.{SourceToken}
use Rattle.hs_syntax.specs.Trees.{Expression}
use Rattle.hs_expr_parser.specs.Reading.{Known}
use Rattle.hs_expr_parser.specs.Steps.{conditional_at}
use Rattle.hs_expr_parser.specs.Laws.Phrases.{conditional_begins}

-- the tokens after a front, by how many there are
behind_front : (front rest : List SourceToken) → rest ≡ drop (length (front ++ rest) - length rest) (front ++ rest)
behind_front front rest =
    let taken : length front ≡ length (front ++ rest) - length rest = omega (arith, length-append front rest) in
    sym (drop-append_seam front rest) ∙ ap (λ (n : ℕ). drop n (front ++ rest)) taken

pub conditional_taken : (known : Known) (tokens : List SourceToken) (e : Expression) (rest : List SourceToken)
    → conditional_at known tokens ≡ Some (e, rest) → conditional_at known tokens ≡ Some (e, drop (length tokens - length rest) tokens)
conditional_taken known tokens e rest read =
    let begins = (conditional_begins known tokens).holds e rest read in
    let left : rest ≡ drop (length tokens - length rest) tokens =
    subst (λ (its : List SourceToken). rest ≡ drop (length its - length rest) its) (sym begins.whole) (behind_front begins.front rest) in
    read ∙ ap (λ (its : List SourceToken). Some (e, its)) left
