-- Tokens that are of a form, and the others after them.
--     Begins form tokens rest       the tokens have a front that is of the form, and the others are the rest
--     Goes form other tokens rest   with what is of the first form in front of it, their front is of the other form
use Rattle.std.proofs.Common.{◌≡◌, ℕ, Bool, true, false, List, [], ◌∷◌, ◌++◌, Some, None, refl, sym, ap, subst, ◌∙◌, append_assoc}
use Rattle.std.specs.Prelude.{◌&&◌}
use Rattle.std.proofs.lemmas.List.{append-nil}
use Rattle.hs_tokens.specs.declared.token.SourceToken.{SourceToken}
use Rattle.hs_tokens.specs.declared.token.TokenKind.{TokenKind}
use Rattle.hs_syntax.specs.Forms.{Piece, Form, ◌⨾◌, when, nothing_at_all, token, Spells, IsOf}
use Rattle.hs_expr_parser.specs.Ahead.{place_of}

-- the tokens have a front that is of the form, and the others are the rest
pub record Begins (form : Form) (tokens rest : List SourceToken) : Type 0 where
  pub front : List SourceToken
  pub whole : tokens ≡ front ++ rest
  pub is : IsOf form front

-- with what is of the first form in front of it, their front is of the other form
pub record Goes (form other : Form) (tokens rest : List SourceToken) : Type 0 where
  pub front : List SourceToken
  pub whole : tokens ≡ front ++ rest
  pub is : (before : List SourceToken) → IsOf form before → IsOf other (before ++ front)

-- pieces after pieces
spells-append : (pieces others : List Piece) (front behind : List SourceToken) → Spells pieces front → Spells others behind
    → Spells (pieces ++ others) (front ++ behind)
spells-append [] others [] behind first second = second
spells-append [] others (source ∷ front) behind first second = absurd first
spells-append (piece ∷ pieces) others [] behind first second = absurd first
spells-append (piece ∷ pieces) others (source ∷ front) behind first second =
    (first.0, first.1, first.2, spells-append pieces others front behind first.3 second)

-- two tests
both_true : {one other : Bool} → one ≡ true → other ≡ true → (one && other) ≡ true
both_true {other = other} first second = rw first second

-- one form after another
pub is_behind : (form other : Form) (front behind : List SourceToken) → IsOf form front → IsOf other behind → IsOf (form ⨾ other) (front ++ behind)
is_behind form other front behind first second = (both_true first.0 second.0, spells-append form.pieces other.pieces front behind first.1 second.1)

-- three tests
and_again : (one two three : Bool) → ((one && two) && three) ≡ (one && (two && three))
and_again true two three = refl
and_again false two three = refl

-- three forms, one after another
pub form_again : (one two three : Form) → ((one ⨾ two) ⨾ three) ≡ (one ⨾ (two ⨾ three))
form_again one two three = λ i. record {
  fits = and_again one.fits two.fits three.fits i;
  pieces = append_assoc one.pieces two.pieces three.pieces i;
}

-- a test and one that holds
and_nothing : (one : Bool) → (one && true) ≡ one
and_nothing true = refl
and_nothing false = refl

-- a form and nothing after it
pub form_nothing : (one : Form) → (one ⨾ nothing_at_all) ≡ one
form_nothing one = λ i. record { fits = and_nothing one.fits i; pieces = append-nil one.pieces i }

-- nothing
pub nothing_begins : (tokens : List SourceToken) → Begins nothing_at_all tokens tokens
nothing_begins tokens = record { front = []; whole = refl; is = (refl, tt) }

-- one form after another
pub then_begins : {form other : Form} {tokens middle rest : List SourceToken} → Begins form tokens middle → Begins other middle rest
    → Begins (form ⨾ other) tokens rest
then_begins {form = form} {other = other} {rest = rest} first second = record {
  front = first.front ++ second.front;
  whole = first.whole ∙ ap (λ (behind : List SourceToken). first.front ++ behind) second.whole ∙ sym (append_assoc first.front second.front rest);
  is = is_behind form other first.front second.front first.is second.is;
}

-- no token
pub nothing_ends : (tokens rest : List SourceToken) → Begins nothing_at_all tokens rest → tokens ≡ rest
nothing_ends tokens rest begins = begins.whole ∙ ap (λ (front : List SourceToken). front ++ rest) (none begins.front begins.is.1)
  where
    none : (front : List SourceToken) → Spells [] front → front ≡ []
    none [] spells = refl
    none (source ∷ front) spells = absurd spells

-- a form under a condition
pub when_begins : {condition : Bool} {form : Form} {tokens rest : List SourceToken} → condition ≡ true → Begins form tokens rest
    → Begins (when condition form) tokens rest
when_begins is form = record { front = form.front; whole = form.whole; is = (both_true is form.is.0, form.is.1) }

-- one token
pub token_begins : {kind : TokenKind} {text : List ℕ} (source : SourceToken) (rest : List SourceToken) → source.token.kind ≡ kind → source.token.text ≡ text
    → Begins (token kind text None) (source ∷ rest) rest
token_begins source rest kind text = record { front = source ∷ []; whole = refl; is = (refl, (kind, text, tt, tt)) }

-- one token with its place
pub place_begins : {kind : TokenKind} {text : List ℕ} (source : SourceToken) (rest : List SourceToken) → source.token.kind ≡ kind → source.token.text ≡ text
    → Begins (token kind text (Some (place_of source))) (source ∷ rest) rest
place_begins source rest kind text = record { front = source ∷ []; whole = refl; is = (refl, (kind, text, (refl, refl), tt)) }

-- nothing more
pub stays : (form : Form) (tokens : List SourceToken) → Goes form form tokens tokens
stays form tokens = record { front = []; whole = refl; is = λ before is. subst (λ (all : List SourceToken). IsOf form all) (sym (append-nil before)) is }

-- more after more
pub then_goes : {form middle other : Form} {tokens between rest : List SourceToken} → Goes form middle tokens between → Goes middle other between rest
    → Goes form other tokens rest
then_goes {other = other} {rest = rest} first second = record {
  front = first.front ++ second.front;
  whole = first.whole ∙ ap (λ (behind : List SourceToken). first.front ++ behind) second.whole ∙ sym (append_assoc first.front second.front rest);
  is = λ before is. subst (λ (all : List SourceToken). IsOf other all) (append_assoc before first.front second.front)
      (second.is (before ++ first.front) (first.is before is));
}

-- a form after another
pub behind_goes : (form : Form) {other : Form} {tokens rest : List SourceToken} → Begins other tokens rest → Goes form (form ⨾ other) tokens rest
behind_goes form {other = other} it = record { front = it.front; whole = it.whole; is = λ before is. is_behind form other before it.front is it.is }

-- another form of the same pieces
pub form_goes : {form other middle : Form} {tokens rest : List SourceToken} → ((sources : List SourceToken) → IsOf form sources → IsOf other sources)
    → Goes other middle tokens rest → Goes form middle tokens rest
form_goes so it = record { front = it.front; whole = it.whole; is = λ before is. it.is before (so before is) }

pub goes_form : {form other middle : Form} {tokens rest : List SourceToken} → Goes form middle tokens rest
    → ((sources : List SourceToken) → IsOf middle sources → IsOf other sources) → Goes form other tokens rest
goes_form it so = record { front = it.front; whole = it.whole; is = λ before is. so (before ++ it.front) (it.is before is) }

pub begins_form : {form other : Form} {tokens rest : List SourceToken} → Begins form tokens rest
    → ((sources : List SourceToken) → IsOf form sources → IsOf other sources) → Begins other tokens rest
begins_form it so = record { front = it.front; whole = it.whole; is = so it.front it.is }

-- what is of the first form, and more
pub goes_begins : {form other : Form} {tokens middle rest : List SourceToken} → Begins form tokens middle → Goes form other middle rest
    → Begins other tokens rest
goes_begins {rest = rest} first second = record {
  front = first.front ++ second.front;
  whole = first.whole ∙ ap (λ (behind : List SourceToken). first.front ++ behind) second.whole ∙ sym (append_assoc first.front second.front rest);
  is = second.is first.front first.is;
}
