-- What the readers of single tokens give.
use Rattle.std.proofs.Common.{◌≡◌, ℕ, Bool, true, false, cond, List, [], ◌∷◌, length, Option, Some, None, refl, sym, ap, subst, ◌∙◌, ◌⊎◌, inl, inr, arith}
use Rattle.std.specs.Prelude.{MatchOption, IfSome, is_some}
use Rattle.std.specs.Borrow.{Bor}
use Rattle.std.specs.List.{IsFirstAndRest}
use Rattle.std.specs.Str.{bytes_eq}
use Rattle.std.proofs.lemmas.Bool.{cond-true}
use Rattle.std.proofs.lemmas.Option.{cond_some}
use Rattle.std.proofs.lemmas.Slice.Eq.{bytes_eq-Decides}
use Rattle.hs_base.specs.declared.pos.Pos.{Pos}
use Rattle.hs_base.specs.Options.{Seen, bind_some}
use Rattle.hs_tokens.specs.declared.token.SourceToken.{SourceToken}
use Rattle.hs_tokens.specs.declared.token.Token.{Token}
use Rattle.hs_checker.specs.Straight.Grammar.{Piece, word, placed, Spells}
use Rattle.hs_checker.specs.Straight.Reading.{first_at, mark_at, is_at}

-- what `split_first` says is what `first_at` gives
pub first_gives : (tokens : List SourceToken) (r : Option (Bor SourceToken × Bor (List SourceToken)))
    → MatchOption r (length tokens ≡ 0) (λ p. IsFirstAndRest tokens p.0.now p.1.now) → Seen (λ x. (x.0.now.token, x.1.now)) r (first_at tokens)
unfolding first_at
first_gives [] None h = refl
first_gives [] (Some p) h = absurd (omega (arith, h.1))
first_gives (source ∷ rest) None h = absurd (omega arith)
first_gives (source ∷ rest) (Some p) h = let parts = h.0 in cc

-- ---- steps that may fail

abbrev some : {A : Type 0} → A → Option A
some x = Some x

-- the values of two equal results
pub some_is : {A : Type 0} (x y : A) → some x ≡ some y → x ≡ y
some_is x y e = cc

-- which way a test went
pub chosen : {A : Type 0} (b : Bool) (x y z : A) → cond b x y ≡ z → ((b ≡ true) × (x ≡ z)) ⊎ ((b ≡ false) × (y ≡ z))
chosen true x y z e = inl (refl, e)
chosen false x y z e = inr (refl, e)

-- ---- one token

-- the first token is spelled so, whichever it is
pub first_takes : (tokens : List SourceToken) (x : Token × List SourceToken) (piece : Piece) (pieces : List Piece) → first_at tokens ≡ Some x
    → x.0.text ≡ piece.text → IfSome piece.pos (λ pos. x.0.pos ≡ pos) → Spells pieces x.1 → Spells (piece ∷ pieces) tokens
unfolding first_at
first_takes [] x piece pieces e text pos after = absurd cc
first_takes (source ∷ rest) x piece pieces e text pos after =
    let P : (Token × List SourceToken) → Type 0 = λ y. (y.0.text ≡ piece.text) × IfSome piece.pos (λ p. y.0.pos ≡ p) × Spells pieces y.1 in
    subst P (sym (some_is (source.token, rest) x e)) (text, pos, after)

-- what is read of one token is spelled so
pub placed_takes : (text : List ℕ) (tokens : List SourceToken) (x : Pos × List SourceToken) (pieces : List Piece) → mark_at text tokens ≡ Some x
    → Spells pieces x.1 → Spells (placed x.0 text ∷ pieces) tokens
unfolding mark_at
placed_takes text tokens x pieces e after =
    let a = bind_some (first_at tokens) (λ first. cond (bytes_eq first.0.text text) (Some (first.0.pos, first.1)) None) x e in
    let test = cond_some (bytes_eq a.0.0.text text) (a.0.0.pos, a.0.1) x a.2 in
    let same : a.0.0.text ≡ text = (bytes_eq-Decides a.0.0.text text).0 test.0 in
    let place : a.0.0.pos ≡ x.0 = ap (λ (y : Pos × List SourceToken). y.0) test.1 in
    let rest : Spells pieces a.0.1 = subst (λ (y : Pos × List SourceToken). Spells pieces y.1) (sym test.1) after in
    first_takes tokens a.0 (placed x.0 text) pieces a.1 same place rest

-- the same if the tree has no place
pub word_takes : (text : List ℕ) (tokens : List SourceToken) (x : Pos × List SourceToken) (pieces : List Piece) → mark_at text tokens ≡ Some x
    → Spells pieces x.1 → Spells (word text ∷ pieces) tokens
word_takes text tokens x pieces e after = unplaced tokens (placed_takes text tokens x pieces e after)
  where
    unplaced : (tokens : List SourceToken) → Spells (placed x.0 text ∷ pieces) tokens → Spells (word text ∷ pieces) tokens
    unplaced [] s = absurd s
    unplaced (source ∷ rest) s = (s.0, tt, s.2)

-- ---- what is spelled so is read again

-- a token with that text is read
marked : (text : List ℕ) (source : SourceToken) (rest : List SourceToken) → source.token.text ≡ text
    → mark_at text (source ∷ rest) ≡ Some (source.token.pos, rest)
unfolding mark_at first_at
marked text source rest same = cond-true (bytes_eq source.token.text text) _ _ ((bytes_eq-Decides source.token.text text).1 same)

-- a spelled token at its place
pub placed_again : (pos : Pos) (text : List ℕ) (pieces : List Piece) (tokens : List SourceToken) → Spells (placed pos text ∷ pieces) tokens
    → (rest : List SourceToken) × (mark_at text tokens ≡ Some (pos, rest)) × Spells pieces rest
placed_again pos text pieces [] spelled = absurd spelled
placed_again pos text pieces (source ∷ rest) spelled = (rest, marked text source rest spelled.0 ∙ ap (λ (p : Pos). Some (p, rest)) spelled.1, spelled.2)

-- the same if the tree has no place
pub word_again : (text : List ℕ) (pieces : List Piece) (tokens : List SourceToken) → Spells (word text ∷ pieces) tokens
    → (x : Pos × List SourceToken) × (mark_at text tokens ≡ Some x) × Spells pieces x.1
word_again text pieces [] spelled = absurd spelled
word_again text pieces (source ∷ rest) spelled = ((source.token.pos, rest), marked text source rest spelled.0, spelled.2)

-- a spelled token is there, whatever its text
pub first_again : (piece : Piece) (pieces : List Piece) (tokens : List SourceToken) → Spells (piece ∷ pieces) tokens
    → (x : Token × List SourceToken) × (first_at tokens ≡ Some x) × (x.0.text ≡ piece.text) × IfSome piece.pos (λ pos. x.0.pos ≡ pos) × Spells pieces x.1
unfolding first_at
first_again piece pieces [] spelled = absurd spelled
first_again piece pieces (source ∷ rest) spelled = ((source.token, rest), refl, spelled.0, spelled.1, spelled.2)

-- ---- the test of the first token

-- a test gives a result exactly if it holds
tested : {A : Type 0} (b : Bool) (x : A) → is_some (cond b (Some x) None) ≡ b
tested true x = refl
tested false x = refl

-- the test of the first token is a test of its spelled text
pub at_first : (text : List ℕ) (piece : Piece) (pieces : List Piece) (tokens : List SourceToken) → Spells (piece ∷ pieces) tokens
    → is_at text tokens ≡ bytes_eq piece.text text
unfolding is_at mark_at first_at
at_first text piece pieces [] spelled = absurd spelled
at_first text piece pieces (source ∷ rest) spelled =
    tested (bytes_eq source.token.text text) (source.token.pos, rest) ∙ ap (λ (t : List ℕ). bytes_eq t text) spelled.0
