-- A text that begins with a word.
use Rattle.std.proofs.Common.{◌≡◌, ℕ, ◌+◌, ◌==◌, Bool, true, false, ◌&&◌, cond, List, [], ◌∷◌, ◌++◌, length, take, drop, Option, Some, None, if◌then◌else◌, nat_eq, refl, ◌∙◌, Bor}
use Rattle.std.specs.Option.{MatchOption, is_some}
use Rattle.std.specs.Cmp.Lexicographic.{pointwise, same_text, other_text}
use Rattle.std.specs.Bool.{IsTrue}
use Rattle.std.proofs.lemmas.List.{same_from_push}
use Rattle.hs_base.specs.Options.{Seen}
use Rattle.hs_cert.specs.Reading.{after}

both : {A : Type 0} (one other : Bool) (x : Option A) → (if one then cond other x None else None) ≡ cond (one && other) x None
both true other x = refl
both false other x = refl

-- `strip_prefix` compares as many items as the word has
pub after_is : (word text : List ℕ)
    → after word text ≡ cond (pointwise nat_eq (take (length word) text) word) (Some (drop (length word) text)) None
after_is [] text = refl
after_is (byte ∷ word) [] = refl
after_is (byte ∷ word) (other ∷ text) =
    rw (after_is word text) (both (other == byte) (pointwise nat_eq (take (length word) text) word) (Some (drop (length word) text)))

-- what `strip_prefix` tells is what reading gives
pub gives_after : (word text : List ℕ) (result : Option (Bor (List ℕ)))
    → MatchOption result (pointwise nat_eq (take (length word) text) word ≡ false)
    (λ rest. (pointwise nat_eq (take (length word) text) word ≡ true) × (rest.now ≡ drop (length word) text) × (length rest.now + length word ≡ length text))
    → Seen (λ rest. rest.now) result (after word text)
gives_after word text None is = rw (after_is word text, is) refl
gives_after word text (Some rest) is = rw (after_is word text, is.0, is.1) refl

-- a text is the printed one without its last byte
pub front_is : (text front printed : List ℕ) (last : ℕ) (answer : Bool) → printed ≡ front ++ last ∷ [] → last ≡ 10
    → answer ≡ pointwise nat_eq text front
    → (IsTrue answer → text ++ 10 ∷ [] ≡ printed) × (text ++ 10 ∷ [] ≡ printed → IsTrue answer)
front_is text front printed last true is ends told = (λ yes. let same = same_text text front told in rw (is, ends, same) refl, λ yes. refl)
front_is text front printed last false is ends told =
    (λ yes. absurd (cc), λ whole. absurd (other_text text front told (same_from_push text front 10 last (whole ∙ is)).0))

-- what is read is given
pub gives_some : (result : Option (Bor (List ℕ))) (rest : List ℕ) → Seen (λ rest. rest.now) result (Some rest) → is_some result ≡ true
gives_some None rest gives = absurd (cc)
gives_some (Some given) rest gives = refl
