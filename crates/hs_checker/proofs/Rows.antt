-- The loop over a row: the invariant, how it begins, goes on and ends.
use Rattle.std.proofs.Common.{◌≡◌, ℕ, suc, ◌+◌, ◌<◌, ◌≤◌, Bool, true, false, List, [], ◌∷◌, ◌++◌, length, map, Option, Some, None, refl, sym, ap, subst, ◌∙◌, append_assoc, arith}
use Rattle.std.specs.List.{flat_map}
use Rattle.std.proofs.lemmas.Bool.{both_ways}
use Rattle.std.proofs.lemmas.Option.{none-some}
use Rattle.std.proofs.lemmas.Grind.{flat_map-append}
use Rattle.std.proofs.lemmas.List.{append-nil, length-append}
use Rattle.hs_tokens.specs.declared.token.SourceToken.{SourceToken}
use Rattle.hs_checker.specs.Straight.Grammar.{Piece, word, Spells}
use Rattle.hs_checker.specs.Straight.Rows.{EndsRow, IsRow, NoRow}
use Rattle.hs_checker.proofs.Marks.{some_is}

-- ---- as many tokens as pieces

-- as many tokens as pieces
pub spelled_length : (pieces : List Piece) (tokens : List SourceToken) → Spells pieces tokens → length pieces ≡ length tokens
spelled_length [] [] s = refl
spelled_length [] (source ∷ sources) s = absurd s
spelled_length (piece ∷ pieces) [] s = absurd s
spelled_length (piece ∷ pieces) (source ∷ sources) s = ap suc (spelled_length pieces sources s.2)

-- tokens as pieces without places
pieces_of : List SourceToken → List Piece
pieces_of tokens = map (λ source. word source.token.text) tokens

-- tokens spell themselves
spelled_so : (tokens : List SourceToken) → Spells (pieces_of tokens) tokens
unfolding pieces_of
spelled_so [] = tt
spelled_so (source ∷ sources) = (refl, tt, spelled_so sources)

-- what is read is shorter by what it was
pub taken_length : (front : List Piece) (tokens rest : List SourceToken) → ((pieces : List Piece) → Spells pieces rest → Spells (front ++ pieces) tokens)
    → length tokens ≡ length front + length rest
taken_length front tokens rest takes =
    sym (spelled_length (front ++ pieces_of rest) tokens (takes (pieces_of rest) (spelled_so rest)))
    ∙ length-append front (pieces_of rest) ∙ ap (λ (n : ℕ). length front + n) (spelled_length (pieces_of rest) rest (spelled_so rest))

module _ {A : Type 0} (spell : A → List Piece) (is_fine : List A → Bool) (begins : List SourceToken → Bool)
    (at : List A → List SourceToken → Option (A × List SourceToken)) where
  -- what the reader of one part is
  pub record IsReader : Type 0 where
    pub fine : (done : List A) (tokens : List SourceToken) (x : A × List SourceToken) → is_fine done ≡ true → at done tokens ≡ Some x
        → is_fine (done ++ x.0 ∷ []) ≡ true
    pub takes : (done : List A) (tokens : List SourceToken) (x : A × List SourceToken) → at done tokens ≡ Some x → (pieces : List Piece) → Spells pieces x.1
        → Spells (spell x.0 ++ pieces) tokens
    pub again : (done : List A) (part : A) (later : List A) (pieces : List Piece) (tokens : List SourceToken) → is_fine (done ++ (part ∷ later)) ≡ true
        → Spells (spell part ++ pieces) tokens → (rest : List SourceToken) × (at done tokens ≡ Some (part, rest)) × Spells pieces rest
    pub begun : (done : List A) (part : A) (later : List A) (pieces : List Piece) (tokens : List SourceToken) → is_fine (done ++ (part ∷ later)) ≡ true
        → Spells (spell part ++ pieces) tokens → begins tokens ≡ true
    pub some : (part : A) → 0 < length (spell part)

module _ {A : Type 0} (spell : A → List Piece) (is_fine : List A → Bool) (begins : List SourceToken → Bool) (tokens : List SourceToken) where
  -- the parts so far, and what is left of the tokens
  pub record IsSoFar (parts : List A) (rest : List SourceToken) : Type 0 where
    pub fine : is_fine parts ≡ true
    pub spelled : (pieces : List Piece) → Spells pieces rest → Spells (flat_map spell parts ++ pieces) tokens
    pub only : (others : List A) (pieces : List Piece) → is_fine others ≡ true → EndsRow begins pieces → Spells (flat_map spell others ++ pieces) tokens
        → (later : List A) × (others ≡ parts ++ later) × Spells (flat_map spell later ++ pieces) rest
    pub few : length parts + length rest ≤ length tokens

module _ {A : Type 0} (spell : A → List Piece) (is_fine : List A → Bool) (begins : List SourceToken → Bool)
    (at : List A → List SourceToken → Option (A × List SourceToken)) (reader : IsReader spell is_fine begins at) (tokens : List SourceToken) where
  -- the spelling of one part and those after it
  parted : (part : A) (later : List A) (pieces : List Piece) → flat_map spell (part ∷ later) ++ pieces ≡ spell part ++ (flat_map spell later ++ pieces)
  parted part later pieces = append_assoc (spell part) (flat_map spell later) pieces

  -- the spelling of a row with one part more
  pushed : (parts : List A) (part : A) (pieces : List Piece) → flat_map spell (parts ++ part ∷ []) ++ pieces ≡ flat_map spell parts ++ (spell part ++ pieces)
  pushed parts part pieces =
      ap (λ (p : List Piece). p ++ pieces) (flat_map-append spell parts (part ∷ [])
      ∙ ap (λ (p : List Piece). flat_map spell parts ++ p) (append-nil (spell part)))
      ∙ append_assoc (flat_map spell parts) (spell part) pieces

  -- what else the row could be goes on as it was read
  goes_on : (parts : List A) (rest : List SourceToken) (x : A × List SourceToken) (others : List A) (pieces : List Piece) → is_fine others ≡ true
      → EndsRow begins pieces → begins rest ≡ true → at parts rest ≡ Some x
      → (later : List A) → others ≡ parts ++ later → Spells (flat_map spell later ++ pieces) rest
      → (after : List A) × (others ≡ (parts ++ x.0 ∷ []) ++ after) × Spells (flat_map spell after ++ pieces) x.1
  goes_on parts rest x others pieces fine ends here read [] same s = absurd (both_ways (begins rest) (ends rest s) here)
  goes_on parts rest x others pieces fine ends here read (part ∷ later) same s =
      let whole : Spells (spell part ++ (flat_map spell later ++ pieces)) rest = subst (λ (p : List Piece). Spells p rest) (parted part later pieces) s in
      let again = reader.again parts part later (flat_map spell later ++ pieces) rest (subst (λ (o : List A). is_fine o ≡ true) same fine) whole in
      let made : A × List SourceToken = (part, again.0) in
      let is : made ≡ x = some_is made x (sym again.1 ∙ read) in
      let P : (A × List SourceToken) → Type 0 = λ y. (after : List A) × (others ≡ (parts ++ y.0 ∷ []) ++ after) × Spells (flat_map spell after ++ pieces) y.1 in
      subst P is (later, same ∙ sym (append_assoc parts (part ∷ []) later), again.2)

  -- the row goes on by the part that is read
  pub one_more : (parts : List A) (rest : List SourceToken) (x : A × List SourceToken) → IsSoFar spell is_fine begins tokens parts rest → begins rest ≡ true
      → at parts rest ≡ Some x
      → IsSoFar spell is_fine begins tokens (parts ++ x.0 ∷ []) x.1
  one_more parts rest x so_far here read = record {
    fine = reader.fine parts rest x so_far.fine read;
    spelled = λ pieces s. subst (λ (p : List Piece). Spells p tokens) (sym (pushed parts x.0 pieces))
        (so_far.spelled (spell x.0 ++ pieces) (reader.takes parts rest x read pieces s));
    only = λ others pieces fine ends s.
        let known = so_far.only others pieces fine ends s in
        goes_on parts rest x others pieces fine ends here read known.0 known.1 known.2;
    few = omega (arith, so_far.few, length-append parts (x.0 ∷ []), taken_length (spell x.0) rest x.1 (reader.takes parts rest x read), reader.some x.0);
  }

  -- a part takes a token at least
  pub less : (parts : List A) (rest : List SourceToken) (x : A × List SourceToken) → at parts rest ≡ Some x → length x.1 < length rest
  less parts rest x read = omega (arith, taken_length (spell x.0) rest x.1 (reader.takes parts rest x read), reader.some x.0)

  -- if no further part begins, what else the row could be ends too
  ended_here : (parts : List A) (rest : List SourceToken) (others : List A) (pieces : List Piece) → is_fine others ≡ true → begins rest ≡ false
      → (later : List A) → others ≡ parts ++ later → Spells (flat_map spell later ++ pieces) rest → (others ≡ parts) × Spells pieces rest
  ended_here parts rest others pieces fine past [] same s = (same ∙ append-nil parts, s)
  ended_here parts rest others pieces fine past (part ∷ later) same s =
      let whole : Spells (spell part ++ (flat_map spell later ++ pieces)) rest = subst (λ (p : List Piece). Spells p rest) (parted part later pieces) s in
      absurd (both_ways (begins rest) past (reader.begun parts part later (flat_map spell later ++ pieces) rest
      (subst (λ (o : List A). is_fine o ≡ true) same fine) whole))

  -- if no further part begins, the row is whole
  pub whole_row : (parts : List A) (rest : List SourceToken) → IsSoFar spell is_fine begins tokens parts rest → begins rest ≡ false
      → IsRow spell is_fine begins tokens parts rest
  whole_row parts rest so_far past = record {
    fine = so_far.fine;
    spelled = so_far.spelled;
    only = λ others pieces fine ends s.
        let known = so_far.only others pieces fine ends s in
        ended_here parts rest others pieces fine past known.0 known.1 known.2;
  }

  -- what else the row could be would go on as it was not read
  broken_here : (parts : List A) (rest : List SourceToken) (others : List A) (pieces : List Piece) → is_fine others ≡ true → EndsRow begins pieces
      → begins rest ≡ true → at parts rest ≡ None
      → (later : List A) → others ≡ parts ++ later → Spells (flat_map spell later ++ pieces) rest → ⊥
  broken_here parts rest others pieces fine ends here fails [] same s = both_ways (begins rest) (ends rest s) here
  broken_here parts rest others pieces fine ends here fails (part ∷ later) same s =
      let whole : Spells (spell part ++ (flat_map spell later ++ pieces)) rest = subst (λ (p : List Piece). Spells p rest) (parted part later pieces) s in
      let again = reader.again parts part later (flat_map spell later ++ pieces) rest (subst (λ (o : List A). is_fine o ≡ true) same fine) whole in
      none-some (part, again.0) (sym fails ∙ again.1)

  -- if a part begins and is not read, there is no row
  pub broken_row : (parts : List A) (rest : List SourceToken) → IsSoFar spell is_fine begins tokens parts rest → begins rest ≡ true → at parts rest ≡ None
      → NoRow spell is_fine begins tokens
  broken_row parts rest so_far here fails others pieces fine ends s =
      let known = so_far.only others pieces fine ends s in
      broken_here parts rest others pieces fine ends here fails known.0 known.1 known.2
