-- The fixed beginning and end of a straight program.
use Rattle.std.proofs.Common.{◌≡◌, ℕ, ◌≤◌, Bool, false, List, [], ◌∷◌, ◌++◌, length, map, Option, Some, None, refl, sym, subst, ◌∙◌, arith}
use Rattle.std.specs.Prelude.{IfSome, IfNone, IsTrue, ◌↔◌, ◌==◌}
use Rattle.std.specs.Borrow.{Bor}
use Rattle.std.proofs.lemmas.Bool.{eqb-true, eq-eqb}
use Rattle.std.proofs.lemmas.List.{nil_from_length}
use Rattle.std.proofs.lemmas.Option.{none-some}
use Rattle.hs_base.specs.Options.{Seen, bind_some}
use Rattle.hs_tokens.specs.declared.token.SourceToken.{SourceToken}
use Rattle.hs_checker.specs.Straight.Grammar.{Piece, word, opening, closing, Spells}
use Rattle.hs_checker.specs.Straight.Reading.{mark_at, marks_at}
use Rattle.hs_checker.specs.Straight.Ends.{IsOpened, NotOpened, IsClosing}
use Rattle.hs_checker.proofs.Marks.{some_is, word_takes, word_again}
use Rattle.hs_checker.proofs.Rows.{taken_length}

-- texts that are read are spelled so
pub marks_take : (texts : List (List ℕ)) (tokens rest : List SourceToken) → marks_at texts tokens ≡ Some rest → (pieces : List Piece) → Spells pieces rest
    → Spells (map word texts ++ pieces) tokens
unfolding marks_at
marks_take [] tokens rest e pieces s = subst (λ (t : List SourceToken). Spells pieces t) (sym (some_is tokens rest e)) s
marks_take (text ∷ texts) tokens rest e pieces s =
    let a = bind_some (mark_at text tokens) (λ first. marks_at texts first.1) rest e in
    word_takes text tokens a.0 (map word texts ++ pieces) a.1 (marks_take texts a.0.1 rest a.2 pieces s)

-- spelled texts are read again
pub marks_again : (texts : List (List ℕ)) (pieces : List Piece) (tokens : List SourceToken) → Spells (map word texts ++ pieces) tokens
    → (rest : List SourceToken) × (marks_at texts tokens ≡ Some rest) × Spells pieces rest
unfolding marks_at
marks_again [] pieces tokens s = (tokens, refl, s)
marks_again (text ∷ texts) pieces tokens s =
    let first = word_again text (map word texts ++ pieces) tokens s in
    let others = marks_again texts pieces first.0.1 first.2 in
    (others.0, rw first.1 others.1, others.2)

-- ---- the beginning

-- the beginning is read exactly if it is spelled
pub opened : (tokens rest : List SourceToken) → marks_at opening tokens ≡ Some rest → IsOpened tokens rest
opened tokens rest e pieces = (
  λ s. let again = marks_again opening pieces tokens s in
      subst (λ (t : List SourceToken). Spells pieces t) (some_is again.0 rest (sym again.1 ∙ e)) again.2,
  marks_take opening tokens rest e pieces,
)

-- the beginning is not read, so it is not spelled
pub not_opened : (tokens : List SourceToken) → marks_at opening tokens ≡ None → NotOpened tokens
not_opened tokens e pieces s =
    let again = marks_again opening pieces tokens s in
    none-some again.0 (sym e ∙ again.1)

-- the rest is no longer than the whole
pub opened_length : (tokens rest : List SourceToken) → marks_at opening tokens ≡ Some rest → length rest ≤ length tokens
opened_length tokens rest e = omega (arith, taken_length (map word opening) tokens rest (marks_take opening tokens rest e))

-- ---- the end

-- the end is read to its last token exactly if it is spelled
pub closing_is : (tokens rest : List SourceToken) (ends : Bool) → marks_at closing tokens ≡ Some rest → ends ≡ (length rest == 0)
    → IsTrue ends ↔ IsClosing tokens
closing_is tokens rest ends e is = (
  λ t. let nothing : rest ≡ [] = nil_from_length rest (eqb-true _ _ (sym is ∙ t)) in
      let s : Spells (map word closing ++ []) tokens =
      marks_take closing tokens rest e [] (subst (λ (r : List SourceToken). Spells [] r) (sym nothing) tt) in
      s,
  λ s. let again = marks_again closing [] tokens s in
      let same : again.0 ≡ rest = some_is again.0 rest (sym again.1 ∙ e) in
      is ∙ eq-eqb (length rest) 0 (sym (nothing_left rest (subst (λ (t : List SourceToken). Spells [] t) same again.2))),
)
  where
    nothing_left : (rest : List SourceToken) → Spells [] rest → 0 ≡ length rest
    nothing_left [] s = refl
    nothing_left (source ∷ rest) s = absurd s

-- the end is not read, so it is not spelled
pub no_closing : (tokens : List SourceToken) → marks_at closing tokens ≡ None → IsTrue false ↔ IsClosing tokens
no_closing tokens e = (
  λ t. absurd cc,
  λ s. let again = marks_again closing [] tokens s in absurd (none-some again.0 (sym e ∙ again.1)),
)

-- ---- what the reader of these texts gives at the beginning

-- what was read is followed by the rest, and likewise below
pub opening_found : (tokens : List SourceToken) (read : Option (Bor (List SourceToken))) → Seen (λ x. x.now) read (marks_at opening tokens)
    → IfSome read (λ rest. IsOpened tokens rest.now)
opening_found tokens None h = tt
opening_found tokens (Some rest) h = opened tokens rest.now h

-- what is left is no longer
pub opening_few : (tokens : List SourceToken) (read : Option (Bor (List SourceToken))) → Seen (λ x. x.now) read (marks_at opening tokens)
    → IfSome read (λ rest. length rest.now ≤ length tokens)
opening_few tokens None h = tt
opening_few tokens (Some rest) h = opened_length tokens rest.now h

-- nothing read, so the program does not begin so
pub opening_none : (tokens : List SourceToken) (read : Option (Bor (List SourceToken))) → Seen (λ x. x.now) read (marks_at opening tokens)
    → IfNone read (NotOpened tokens)
opening_none tokens None h = not_opened tokens h
opening_none tokens (Some rest) h = tt
