-- Where a name is among others, and whether a token has it.
--     or_else first second       the first, or else the second
--     place_of-step              the last name of those that are left
--     is_in-step                 one more token
use Rattle.std.proofs.Common.{◌≡◌, ℕ, suc, ◌+◌, ◌<◌, Bool, true, false, cond, ◌&&◌, ◌||◌, List, [], ◌∷◌, ◌++◌, length, take, get_or, Option, Some, None, Bor, refl, sym, ap, ◌∙◌, if◌then◌else◌}
use Rattle.std.specs.List.{list_any}
use Rattle.std.specs.Option.{option_map}
use Rattle.std.specs.Str.{bytes_eq}
use Rattle.std.specs.Cmp.Lexicographic.{nat_list_eq_equiv}
use Rattle.std.proofs.Math.Bool.{or_assoc}
use Rattle.std.proofs.lemmas.List.{take_more, map-append, length-map}
use Rattle.hs_base.specs.Options.{or_else, or_else_assoc}
use Rattle.hs_tokens.specs.declared.token.Token.{Token}
use Rattle.hs_tokens.specs.Marks.{is_identifier}
use Rattle.hs_macros.specs.Lines.{names_of}
use Rattle.hs_macros.specs.Slots.{place_of, is_in}

-- one place further on
or_else-next : (first second : Option ℕ) → option_map suc (or_else first second) ≡ or_else (option_map suc first) (option_map suc second)
or_else-next None second = refl
or_else-next (Some place) second = refl

-- the last name has the place at the end
place_of-push : (name last : List ℕ) (names : List (List ℕ))
    → place_of name (names ++ last ∷ []) ≡ or_else (place_of name names) (if bytes_eq name last then Some (length names) else None)
place_of-push name last [] = refl
place_of-push name last (first ∷ names) = by (bytes_eq name first) (place_of-push name last names)
  where
    by : (same : Bool) → place_of name (names ++ last ∷ []) ≡ or_else (place_of name names) (if bytes_eq name last then Some (length names) else None)
        → (if same then Some 0 else option_map suc (place_of name (names ++ last ∷ [])))
        ≡ or_else (if same then Some 0 else option_map suc (place_of name names)) (if bytes_eq name last then Some (suc (length names)) else None)
    by true later = refl
    by false later =
        ap (option_map suc) later
        ∙ or_else-next (place_of name names) (if bytes_eq name last then Some (length names) else None)
        ∙ ap (or_else (option_map suc (place_of name names))) (next (bytes_eq name last))
      where
        next : (same : Bool) → option_map suc (if same then Some (length names) else None) ≡ (if same then Some (suc (length names)) else None)
        next true = refl
        next false = refl

-- what a map has after an insertion is what stands first
inserted : (name last : List ℕ) (place : ℕ) (old : Option ℕ)
    → cond (bytes_eq last name) (Some place) old ≡ or_else (if bytes_eq name last then Some place else None) old
inserted name last place old = ap (λ same. cond same (Some place) old) (nat_list_eq_equiv.symm last name) ∙ by (bytes_eq name last)
  where
    by : (same : Bool) → cond same (Some place) old ≡ or_else (if same then Some place else None) old
    by true = refl
    by false = refl

-- the last of the names that are left is put with its place
pub place_of-step : (name : List ℕ) (left front : List (Bor (List ℕ))) (last : Bor (List ℕ)) (place : ℕ) (old new all : Option ℕ)
    → left ≡ front ++ last ∷ [] → place ≡ length front → new ≡ cond (bytes_eq last.now name) (Some place) old
    → or_else (place_of name (names_of left)) old ≡ all → or_else (place_of name (names_of front)) new ≡ all
place_of-step name left front last place old new all split many put same =
    ap (or_else (place_of name (names_of front))) (put ∙ inserted name last.now place old)
    ∙ sym (or_else_assoc (place_of name (names_of front)) (if bytes_eq name last.now then Some place else None) old)
    ∙ ap (λ found. or_else found old) (ap (λ index. or_else (place_of name (names_of front)) (if bytes_eq name last.now then Some index else None))
    (many ∙ sym (length-map front (λ (other : Bor (List ℕ)). other.now)))
    ∙ sym (ap (λ names. place_of name (names_of names)) split ∙ ap (place_of name) (map-append (λ (other : Bor (List ℕ)). other.now) front (last ∷ []))
    ∙ place_of-push name last.now (names_of front)))
    ∙ same

-- one more item passes, or one of those before
any_push : {X : Type 0} (test : X → Bool) (xs : List X) (x : X) → list_any test (xs ++ x ∷ []) ≡ (list_any test xs || test x)
any_push test [] x = by (test x)
  where
    by : (answer : Bool) → (answer || false) ≡ answer
    by true = refl
    by false = refl
any_push test (first ∷ xs) x =
    ap (λ later. test first || later) (any_push test xs x) ∙ sym (or_assoc (test first) (list_any test xs) (test x))

-- one more token: its text is put if it is an identifier
pub is_in-step : (name : List ℕ) (tokens : List Token) (at : ℕ) (token : Token) (identifier old new : Bool) → at < length tokens
    → token ≡ get_or tokens at token
    → is_identifier token ≡ identifier → new ≡ (if identifier then cond (bytes_eq token.text name) true old else old)
    → old ≡ is_in name (take at tokens) → new ≡ is_in name (take (at + 1) tokens)
is_in-step name tokens at token identifier old new within is kind put so_far =
    let names : Token → Bool = λ other. is_identifier other && bytes_eq other.text name in
    let more : take (at + 1) tokens ≡ take at tokens ++ token ∷ [] =
    take_more tokens at token within ∙ ap (λ (other : Token). take at tokens ++ other ∷ []) (sym is) in
    put
    ∙ by identifier (bytes_eq token.text name) old
    ∙ (λ i. so_far i || (sym kind i && bytes_eq token.text name))
    ∙ sym (ap (list_any names) more ∙ any_push names (take at tokens) token)
  where
    by : (identifier' same old' : Bool) → (if identifier' then cond same true old' else old') ≡ (old' || (identifier' && same))
    by true true true = refl
    by true true false = refl
    by true false true = refl
    by true false false = refl
    by false same true = refl
    by false same false = refl
