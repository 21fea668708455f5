-- Expressions: what is read is spelled so, and what is spelled so is read.
use Rattle.std.proofs.Common.{◌≡◌, ℕ, ◌≤◌, true, false, List, [], ◌∷◌, ◌++◌, Some, refl, sym, ap, subst, ◌∙◌, inl, inr, arith}
use Rattle.std.specs.Prelude.{codes, IfSome}
use Rattle.std.specs.Fmt.{decimal}
use Rattle.std.specs.Str.{bytes_eq}
use Rattle.std.proofs.lemmas.Bool.{and_parts, leb-true, cond-true, cond-false}
use Rattle.hs_base.specs.declared.pos.Pos.{Pos}
use Rattle.hs_base.specs.Options.{◌>>=◌, bind_some}
use Rattle.hs_tokens.specs.declared.token.SourceToken.{SourceToken}
use Rattle.hs_tokens.specs.declared.token.Token.{Token}
use Rattle.hs_tree.specs.declared.straight.tree.Kind.TheVariants.{Pointer, Letter}
use Rattle.hs_tree.specs.declared.straight.tree.Variable.{Variable}
use Rattle.hs_tree.specs.declared.straight.tree.Expr.{Expr}
use Rattle.hs_tree.specs.declared.straight.tree.Expr.TheVariants as expr
use Rattle.hs_tree.specs.declared.straight.tree.Step.{Step}
use Rattle.hs_tree.specs.Straight.Names.{begins_with_letter}
use Rattle.hs_tree.specs.Straight.Fine.{is_declared, was_assigned, is_fine_expr, are_fine_names}
use Rattle.hs_checker.specs.Straight.Grammar.{Piece, word, placed, name_in, name_of, expr_spelling, Spells}
use Rattle.hs_checker.specs.Straight.Reading.{first_at, mark_at, is_at, numeral, number_of, variable_at, word_value, word_at, load_at, expr_at}
use Rattle.hs_checker.proofs.Marks.{some_is, chosen, first_takes, first_again, placed_takes, placed_again, at_first}
use Rattle.hs_checker.proofs.Names.{name_found, declared, number_again, variable_takes, variable_again, name_is, name_begins, not_text}
use Rattle.hs_checker.proofs.Numbers.{numeral_is, numeral_again, decimal_begins, decimal_not}

-- ---- found

-- what was read of one token, whatever follows it
abbrev IsWord : List Variable → Token → Expr → Type 0
IsWord variables token value =
    (tokens rest : List SourceToken) (pieces : List Piece) → first_at tokens ≡ Some (token, rest) → Spells pieces rest
    → Spells (expr_spelling variables value ++ pieces) tokens

word_value_takes : (variables : List Variable) (token : Token) (value : Expr) → word_value variables token ≡ Some value → IsWord variables token value
unfolding word_value
word_value_takes variables token value e =
    elim (chosen (begins_with_letter token.text) (number_of variables token.text >>= λ letter. Some (expr.Letter token.pos letter))
    (numeral 127 token.text >>= λ number. Some (expr.Number number)) (Some value) e) [
      | inl name ↦
          let a = bind_some (number_of variables token.text) (λ letter. Some (expr.Letter token.pos letter)) value name.1 in
          let made : IsWord variables token (expr.Letter token.pos a.0) = λ tokens rest pieces at s. first_takes tokens (token, rest)
          (placed token.pos (name_of variables a.0)) pieces at (sym (name_found variables token.text a.0 a.1)) refl s in
          subst (IsWord variables token) (some_is (expr.Letter token.pos a.0) value a.2) made
      | inr other ↦
          let a = bind_some (numeral 127 token.text) (λ number. Some (expr.Number number)) value other.1 in
          let made : IsWord variables token (expr.Number a.0) = λ tokens rest pieces at s. first_takes tokens (token, rest)
          (word (decimal a.0)) pieces at (numeral_is 127 token.text a.0 (omega arith) a.1).0 tt s in
          subst (IsWord variables token) (some_is (expr.Number a.0) value a.2) made
    ]

-- the expression is spelled so at the front of the tokens, whatever follows it
abbrev IsExpr : List Variable → List SourceToken → (Expr × List SourceToken) → Type 0
IsExpr variables tokens x = (pieces : List Piece) → Spells pieces x.1 → Spells (expr_spelling variables x.0 ++ pieces) tokens

word_at_takes : (variables : List Variable) (tokens : List SourceToken) (x : Expr × List SourceToken)
    → word_at variables tokens ≡ Some x → IsExpr variables tokens x
unfolding word_at
word_at_takes variables tokens x e =
    let a = bind_some (first_at tokens) (λ first. word_value variables first.0 >>= λ value. Some (value, first.1)) x e in
    let b = bind_some (word_value variables a.0.0) (λ value. Some (value, a.0.1)) x a.2 in
    let made : Expr × List SourceToken = (b.0, a.0.1) in
    let taken : IsExpr variables tokens made =
    λ pieces s. word_value_takes variables a.0.0 b.0 b.1 tokens a.0.1 pieces a.1 s in
    subst (IsExpr variables tokens) (some_is made x b.2) taken

load_takes : (variables : List Variable) (tokens : List SourceToken) (x : Expr × List SourceToken) → load_at variables tokens ≡ Some x
    → IsExpr variables tokens x
unfolding load_at
load_takes variables tokens x e =
    let a = bind_some (mark_at (codes "*") tokens) (λ star. variable_at variables star.1 >>= λ pointer. Some (expr.Load star.0 pointer.0, pointer.1)) x e in
    let b = bind_some (variable_at variables a.0.1) (λ pointer. Some (expr.Load a.0.0 pointer.0, pointer.1)) x a.2 in
    let made : Expr × List SourceToken = (expr.Load a.0.0 b.0.0, b.0.1) in
    let taken : IsExpr variables tokens made =
    λ pieces s. placed_takes (codes "*") tokens a.0 (word (name_of variables b.0.0) ∷ pieces) a.1 (variable_takes variables a.0.1 b.0 pieces b.1 s) in
    subst (IsExpr variables tokens) (some_is made x b.2) taken

-- an expression that is read is spelled so
pub expr_takes : (variables : List Variable) (tokens : List SourceToken) (x : Expr × List SourceToken)
    → expr_at variables tokens ≡ Some x → IsExpr variables tokens x
unfolding expr_at
expr_takes variables tokens x e =
    elim (chosen (is_at (codes "*") tokens) (load_at variables tokens) (word_at variables tokens) (Some x) e) [
      | inl star ↦ load_takes variables tokens x star.1
      | inr other ↦ word_at_takes variables tokens x other.1
    ]

-- ---- read again

module _ (variables : List Variable) (named : are_fine_names [] variables ≡ true) where
  -- the name of a letter is that letter
  letter_value : (token : Token) (letter : ℕ) → token.text ≡ name_of variables letter → is_declared Letter variables letter ≡ true
      → word_value variables token ≡ Some (expr.Letter token.pos letter)
  unfolding word_value
  letter_value token letter text is =
      let there = declared Letter _ is in
      let begins : begins_with_letter token.text ≡ true = rw text (name_begins (name_of variables letter) (name_is variables Letter letter named is)) in
      let name : token.text ≡ there.0.name = text ∙ ap name_in there.1 in
      let number : number_of variables token.text ≡ Some letter = rw name (number_again variables letter there.0 named there.1) in
      cond-true _ _ _ begins ∙ rw number refl

  -- the text of a number is that number
  number_value : (token : Token) (number : ℕ) → token.text ≡ decimal number → number ≤ 127 → word_value variables token ≡ Some (expr.Number number)
  unfolding word_value
  number_value token number text low =
      let begins : begins_with_letter token.text ≡ false = rw text (decimal_begins number (omega arith)) in
      let value : numeral 127 token.text ≡ Some number = rw text (numeral_again 127 number (omega arith) low) in
      cond-false _ _ _ begins ∙ rw value refl

  -- one token, no star
  word_again : (piece : Piece) (value : Expr) (pieces : List Piece) (tokens : List SourceToken) → bytes_eq piece.text (codes "*") ≡ false
      → ((token : Token) → token.text ≡ piece.text → IfSome piece.pos (λ pos. token.pos ≡ pos) → word_value variables token ≡ Some value)
      → Spells (piece ∷ pieces) tokens → (rest : List SourceToken) × (expr_at variables tokens ≡ Some (value, rest)) × Spells pieces rest
  unfolding expr_at word_at
  word_again piece value pieces tokens no_star reads spelled =
      let first = first_again piece pieces tokens spelled in
      let test : is_at (codes "*") tokens ≡ false = at_first (codes "*") piece pieces tokens spelled ∙ no_star in
      (first.0.1, rw (test, first.1, reads first.0.0 first.2 first.3) refl, first.4)

  -- a spelled expression that may stand there is read again
  pub expr_again : (done : List Step) (value : Expr) (pieces : List Piece) (tokens : List SourceToken) → is_fine_expr variables done value ≡ true
      → Spells (expr_spelling variables value ++ pieces) tokens
      → (rest : List SourceToken) × (expr_at variables tokens ≡ Some (value, rest)) × Spells pieces rest
  unfolding expr_at load_at
  expr_again done (expr.Letter pos letter) pieces tokens fine spelled =
      let is = (and_parts (is_declared Letter variables letter) (was_assigned letter done) fine).0 in
      let no_star = not_text (name_of variables letter) (codes "*") (name_is variables Letter letter named is) refl in
      word_again (placed pos (name_of variables letter)) (expr.Letter pos letter) pieces tokens no_star
      (λ token text place. letter_value token letter text is ∙ ap (λ (p : Pos). Some (expr.Letter p letter)) place)
      spelled
  expr_again done (expr.Load pos pointer) pieces tokens fine spelled =
      let is = (and_parts (is_declared Pointer variables pointer) (was_assigned pointer done) fine).0 in
      let test : is_at (codes "*") tokens ≡ true = at_first (codes "*") (placed pos (codes "*")) (word (name_of variables pointer) ∷ pieces) tokens spelled in
      let star = placed_again pos (codes "*") (word (name_of variables pointer) ∷ pieces) tokens spelled in
      let name = variable_again variables Pointer pointer pieces star.0 named is star.2 in
      (name.0, rw (test, star.1, name.1) refl, name.2)
  expr_again done (expr.Number number) pieces tokens fine spelled =
      let low : number ≤ 127 = leb-true number 127 fine in
      word_again (word (decimal number)) (expr.Number number) pieces tokens (decimal_not number (codes "*") (omega arith) refl)
      (λ token text place. number_value token number text low)
      spelled
