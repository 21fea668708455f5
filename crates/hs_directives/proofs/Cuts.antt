-- Where the first piece of a file ends.
--     cut_directive, cut_run      at the end of its line;  before the next directive
use Rattle.std.proofs.Common.{◌≡◌, ℕ, ◌+◌, Bool, true, false, cond, List, [], ◌∷◌, take, drop, refl, sym, ap, ◌∙◌, one-add}
use Rattle.std.specs.Prelude.{not, ◌&&◌, if◌then◌else◌, codes}
use Rattle.std.specs.List.{prefix_len}
use Rattle.hs_tokens.specs.declared.token.Token.{Token}
use Rattle.hs_tokens.specs.Marks.{is_mark}
use Rattle.hs_directives.specs.Pieces.{begins_directive, Piece, run, directive, with_text, line_of, pieces_from, pieces}
use Rattle.hs_directives.specs.Ahead.{goes_on, is_text}

-- one more element of a front
taken_more : {A : Type 0} (n : ℕ) (x : A) (xs : List A) → take (1 + n) (x ∷ xs) ≡ x ∷ take n xs
taken_more n x xs = ap (λ m. take m (x ∷ xs)) (one-add n)

dropped_more : {A : Type 0} (n : ℕ) (x : A) (xs : List A) → drop (1 + n) (x ∷ xs) ≡ drop n xs
dropped_more n x xs = ap (λ m. drop m (x ∷ xs)) (one-add n)

-- a token that is the first on its line stands on no other
starts_line : (token : Token) (rest : List Token) → token.first ≡ true → pieces_from true (token ∷ rest) ≡ pieces_from false (token ∷ rest)
starts_line token rest first =
    let tail : (if not token.first then pieces_from true rest else with_text token (pieces_from false rest)) ≡ with_text token (pieces_from false rest) =
    ap (λ (answer : Bool). if not answer then pieces_from true rest else with_text token (pieces_from false rest)) first in
    ap (λ (others : List Piece). if begins_directive token then directive token (line_of rest) ∷ pieces_from true rest else others) tail

-- another belongs to the directive
on_line : (token : Token) (rest : List Token) → token.first ≡ false → pieces_from true (token ∷ rest) ≡ pieces_from true rest
on_line token rest first =
    ap (λ (answer : Bool). if answer && is_mark (codes "#") token then directive token (line_of rest) ∷ pieces_from true rest
    else if not answer then pieces_from true rest else with_text token (pieces_from false rest)) first

line_len_by : (token : Token) (rest : List Token) (answer : Bool) → token.first ≡ answer
    → prefix_len goes_on (token ∷ rest) ≡ cond (not answer) (1 + prefix_len goes_on rest) 0
line_len_by token rest answer is = ap (λ (first : Bool). cond (not first) (1 + prefix_len goes_on rest) 0) is

line_of_by : (token : Token) (rest : List Token) (answer : Bool) → token.first ≡ answer
    → line_of (token ∷ rest) ≡ (if answer then [] else token ∷ line_of rest)
line_of_by token rest answer is = ap (λ (first : Bool). if first then [] else token ∷ line_of rest) is

-- the tokens of the line are the first ones
line_taken : (tokens : List Token) → line_of tokens ≡ take (prefix_len goes_on tokens) tokens
line_taken [] = refl
line_taken (token ∷ rest) =
    elim token.first as (λ answer. token.first ≡ answer → line_of (token ∷ rest) ≡ take (prefix_len goes_on (token ∷ rest)) (token ∷ rest)) [
      | true ↦ λ is. line_of_by token rest true is ∙ sym (ap (λ n. take n (token ∷ rest)) (line_len_by token rest true is))
      | false ↦ λ is. line_of_by token rest false is ∙ ap (λ (line : List Token). token ∷ line) (line_taken rest)
          ∙ sym (taken_more (prefix_len goes_on rest) token rest) ∙ sym (ap (λ n. take n (token ∷ rest)) (line_len_by token rest false is))
    ] refl

-- and the pieces after it are those of the other tokens
line_dropped : (tokens : List Token) → pieces_from true tokens ≡ pieces (drop (prefix_len goes_on tokens) tokens)
line_dropped [] = refl
line_dropped (token ∷ rest) =
    elim token.first as (λ answer. token.first ≡ answer → pieces_from true (token ∷ rest) ≡ pieces (drop (prefix_len goes_on (token ∷ rest)) (token ∷ rest))) [
      | true ↦ λ is. starts_line token rest is ∙ sym (ap (λ n. pieces (drop n (token ∷ rest))) (line_len_by token rest true is))
      | false ↦ λ is. on_line token rest is ∙ line_dropped rest
          ∙ sym (ap pieces (dropped_more (prefix_len goes_on rest) token rest))
          ∙ sym (ap (λ n. pieces (drop n (token ∷ rest))) (line_len_by token rest false is))
    ] refl

-- a directive ends at the end of its line
pub cut_directive : (hash : Token) (rest : List Token) → begins_directive hash ≡ true
    → pieces (hash ∷ rest) ≡ directive hash (take (prefix_len goes_on rest) rest) ∷ pieces (drop (prefix_len goes_on rest) rest)
cut_directive hash rest begins =
    ap (λ (answer : Bool). if answer then directive hash (line_of rest) ∷ pieces_from true rest else with_text hash (pieces_from false rest)) begins
    ∙ ap (λ (line : List Token). directive hash line ∷ pieces_from true rest) (line_taken rest)
    ∙ ap (λ (others : List Piece). directive hash (take (prefix_len goes_on rest) rest) ∷ others) (line_dropped rest)

-- a token of text goes in front of the pieces that follow
text_first : (token : Token) (rest : List Token) → begins_directive token ≡ false → pieces (token ∷ rest) ≡ with_text token (pieces rest)
text_first token rest begins =
    ap (λ (answer : Bool). if answer then directive token (line_of rest) ∷ pieces_from true rest else with_text token (pieces_from false rest)) begins

run_len_by : (token : Token) (rest : List Token) (answer : Bool) → begins_directive token ≡ answer
    → prefix_len is_text (token ∷ rest) ≡ cond (not answer) (1 + prefix_len is_text rest) 0
run_len_by token rest answer is = ap (λ (begins : Bool). cond (not begins) (1 + prefix_len is_text rest) 0) is

-- a run that begins at the token, with the length of the text after it
run_more : (token : Token) (rest : List Token) → begins_directive token ≡ false
    → with_text token (pieces rest) ≡ run (token ∷ take (prefix_len is_text rest) rest) ∷ pieces (drop (prefix_len is_text rest) rest)
run_more token [] text = refl
run_more token (next ∷ rest) text =
    elim (begins_directive next) as (λ answer. begins_directive next ≡ answer → with_text token (pieces (next ∷ rest))
    ≡ run (token ∷ take (prefix_len is_text (next ∷ rest)) (next ∷ rest)) ∷ pieces (drop (prefix_len is_text (next ∷ rest)) (next ∷ rest))) [
      | true ↦ λ is.
          ap (with_text token) (cut_directive next rest is)
          ∙ ap (λ (others : List Piece). run (token ∷ []) ∷ others) (sym (cut_directive next rest is))
          ∙ sym (ap (λ n. run (token ∷ take n (next ∷ rest)) ∷ pieces (drop n (next ∷ rest))) (run_len_by next rest true is))
      | false ↦ λ is.
          ap (with_text token) (text_first next rest is ∙ run_more next rest is)
          ∙ (λ i. run (token ∷ sym (taken_more (prefix_len is_text rest) next rest) i) ∷ pieces (sym (dropped_more (prefix_len is_text rest) next rest) i))
          ∙ sym (ap (λ n. run (token ∷ take n (next ∷ rest)) ∷ pieces (drop n (next ∷ rest))) (run_len_by next rest false is))
    ] refl

-- a run ends before the next directive
pub cut_run : (token : Token) (rest : List Token) → begins_directive token ≡ false
    → pieces (token ∷ rest) ≡ run (take (prefix_len is_text (token ∷ rest)) (token ∷ rest)) ∷ pieces (drop (prefix_len is_text (token ∷ rest)) (token ∷ rest))
cut_run token rest text =
    text_first token rest text ∙ run_more token rest text
    ∙ (λ i. run (sym (taken_more (prefix_len is_text rest) token rest) i) ∷ pieces (sym (dropped_more (prefix_len is_text rest) token rest) i))
    ∙ sym (ap (λ n. run (take n (token ∷ rest)) ∷ pieces (drop n (token ∷ rest))) (run_len_by token rest false text))
