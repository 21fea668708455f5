-- The index of a list of names, after one more.
use Rattle.std.proofs.Common.{◌≡◌, ℕ, Bool, true, false, cond, ◌||◌, List, [], ◌∷◌, ◌++◌, Vec, Global, nat_eq, refl, sym, subst, ap, ◌∙◌}
use Rattle.std.specs.Cmp.Lexicographic.{pointwise, same_text, nat_list_eq_equiv}
use Rattle.std.specs.List.{list_any}
use Rattle.std.proofs.lemmas.List.Folds.{list_any-append}
use Rattle.hs_syntax.specs.Names.{is_among}
use Rattle.hs_expr_parser.specs.Index.{IsIndexOf}

-- what the index is keyed by
abbrev pub Key : Type 0
Key = Vec ℕ Global

-- the text is one of the keys
abbrev pub is_key : List Key → List ℕ → Bool
is_key keys text = list_any (λ key. pointwise nat_eq text key.items) keys

-- the one test or the other, if the other is not passed
or_no : (b : Bool) → b ≡ (b || false)
or_no true = refl
or_no false = refl

-- the one test or the other, if the one is passed
or_yes : (b c : Bool) → b ≡ true → b ≡ (b || c)
or_yes b c passed = passed ∙ sym (ap (λ b. b || c) passed)

-- a text is among the names and one more if it is among the names, or is that one
is_among-with : (names : List (List ℕ)) (name text : List ℕ) → is_among (names ++ name ∷ []) text ≡ (is_among names text || pointwise nat_eq name text)
is_among-with names name text = list_any-append (λ word. pointwise nat_eq word text) names (name ∷ [])
    ∙ ap (λ b. is_among names text || b) (sym (or_no (pointwise nat_eq name text)))

-- the same of keys
is_key-with : (keys : List Key) (key : Key) (text : List ℕ) → is_key (keys ++ key ∷ []) text ≡ (is_key keys text || pointwise nat_eq text key.items)
is_key-with keys key text = list_any-append (λ key. pointwise nat_eq text key.items) keys (key ∷ [])
    ∙ ap (λ b. is_key keys text || b) (sym (or_no (pointwise nat_eq text key.items)))

-- a name that is a key already adds nothing
known : (keys : List Key) (names : List (List ℕ)) (name text : List ℕ) (same : Bool) → IsIndexOf keys names → is_key keys name ≡ true
    → same ≡ pointwise nat_eq name text → is_among names text ≡ (is_among names text || same)
known keys names name text false is here alike = or_no (is_among names text)
known keys names name text true is here alike =
    or_yes (is_among names text) true (sym (is text) ∙ subst (λ text. is_key keys text ≡ true) (same_text name text alike) here)

-- the index takes a name that it has not, and stays if it has it
by : (keys : List Key) (names : List (List ℕ)) (key : Key) (text : List ℕ) (here : Bool) → IsIndexOf keys names → is_key keys key.items ≡ here
    → is_key (cond here keys (keys ++ key ∷ [])) text ≡ is_among (names ++ key.items ∷ []) text
by keys names key text true is here =
    is text ∙ known keys names key.items text (pointwise nat_eq key.items text) is here refl ∙ sym (is_among-with names key.items text)
by keys names key text false is here =
    is_key-with keys key text ∙ ap (λ b. b || pointwise nat_eq text key.items) (is text)
    ∙ ap (λ b. is_among names text || b) (nat_list_eq_equiv.symm text key.items) ∙ sym (is_among-with names key.items text)

-- the index after a name is the index of the names and that one
pub IsIndexOf-with : (keys : List Key) (names : List (List ℕ)) (key : Key) → IsIndexOf keys names
    → IsIndexOf (cond (is_key keys key.items) keys (keys ++ key ∷ [])) (names ++ key.items ∷ [])
IsIndexOf-with keys names key is text = by keys names key text (is_key keys key.items) is refl
