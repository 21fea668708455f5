-- Two readings that are the same, and leave fewer tokens than a bound. A lemma for each way in which readings are put together.
--     Alike bound one other                 they are the same, and leave fewer tokens
--     alike_bind, alike_going, alike_if     so are those that are put together from such
--     alike_mark, alike_name, alike_void    what the first tokens are
--     literals_short, pointers_short, ..    what is left after what may stand in front
use Rattle.std.proofs.Common.{◌≡◌, ℕ, suc, ◌<◌, ◌≤◌, Bool, true, false, List, [], ◌∷◌, length, Option, Some, None, refl, ap, subst, ◌∙◌, arith}
use Rattle.std.specs.Prelude.{if◌then◌else◌, option_map, codes}
use Rattle.hs_base.specs.Options.{◌>>=◌}
use Rattle.hs_tokens.specs.declared.token.SourceToken.{SourceToken}
use Rattle.hs_tokens.specs.declared.place.Place.{Place}
use Rattle.hs_syntax.specs.declared.word.Word.{Word}
use Rattle.hs_syntax.specs.declared.operators.Pointer.{Pointer}
use Rattle.hs_expr_parser.specs.Ahead.{place_if, word_of, is_keyword, first_at, mark_at, name_at, is_literal, literals_at}
use Rattle.hs_expr_parser.specs.Recursion.{Read}
use Rattle.hs_expr_parser.specs.Reading.{going_on, tag_at, with_pointer, pointer_of, pointers_at, void_alone}

-- the same is read, and fewer tokens than the bound are left
pub record Alike {A : Type 0} (bound : ℕ) (one other : Read A) : Type 0 where
  pub same : one ≡ other
  pub short : (all : A × List SourceToken) → other ≡ Some all → length all.1 < bound

-- what both hold is the same
held : {A : Type 0} {one other : A} → Some one ≡ Some other → one ≡ other
held is = cc

-- a reading that leaves fewer tokens, beside itself
pub alike_self : {A : Type 0} {bound : ℕ} {it : Read A} → ((all : A × List SourceToken) → it ≡ Some all → length all.1 < bound) → Alike bound it it
alike_self short = record { same = refl; short = short }

-- nothing is read
pub alike_none : {A : Type 0} {bound : ℕ} → Alike {A = A} bound None None
alike_none = record { same = refl; short = λ all is. absurd cc }

-- this is read
pub alike_some : {A : Type 0} {bound : ℕ} {it : A} {rest : List SourceToken} → length rest < bound → Alike bound (Some (it, rest)) (Some (it, rest))
alike_some {A = A} {bound = bound} low =
    record { same = refl; short = λ all is. subst (λ (all : A × List SourceToken). length all.1 < bound) (held is) low }

-- a higher bound
pub alike_more : {A : Type 0} {low high : ℕ} {one other : Read A} → low ≤ high → Alike low one other → Alike high one other
alike_more {A = A} {low = low} {high = high} {one = one} {other = other} more are =
    record {
      same = are.same;
      short = λ all is.
          let short : length all.1 < low = are.short all is in
          omega arith;
    }

-- what follows a reading, by cases
bind_by : {A B : Type 0} {near far : ℕ} (it : Read A) {more others : A × List SourceToken → Read B}
    → ((all : A × List SourceToken) → it ≡ Some all → length all.1 < near)
    → ((all : A × List SourceToken) → length all.1 < near → Alike far (more all) (others all)) → Alike far (it >>= more) (it >>= others)
bind_by None short are = alike_none
bind_by (Some all) short are = are all (short all refl)

-- what follows them
pub alike_bind : {A B : Type 0} {near far : ℕ} {one other : Read A} {more others : A × List SourceToken → Read B} → Alike near one other
    → ((all : A × List SourceToken) → length all.1 < near → Alike far (more all) (others all)) → Alike far (one >>= more) (other >>= others)
alike_bind {other = other} {more = more} {others = others} first are =
    let next = bind_by other {more = more} {others = others} first.short are in
    record { same = ap (λ it. it >>= more) first.same ∙ next.same; short = next.short }

-- more, or what was read before, by cases
going_by : {A B : Type 0} {near far : ℕ} (it : Read A) {more others : A → List SourceToken → Read B} {stop ends : Read B}
    → ((all : A × List SourceToken) → it ≡ Some all → length all.1 < near)
    → ((it : A) (rest : List SourceToken) → length rest < near → Alike far (more it rest) (others it rest)) → Alike far stop ends
    → Alike far (going_on it more stop) (going_on it others ends)
going_by None short are stays = stays
going_by (Some all) short are stays = are all.0 all.1 (short all refl)

-- more, or what was read before
pub alike_going : {A B : Type 0} {near far : ℕ} {one other : Read A} {more others : A → List SourceToken → Read B} {stop ends : Read B}
    → Alike near one other → ((it : A) (rest : List SourceToken) → length rest < near → Alike far (more it rest) (others it rest))
    → Alike far stop ends → Alike far (going_on one more stop) (going_on other others ends)
alike_going {other = other} {more = more} {others = others} {stop = stop} {ends = ends} first are stays =
    let next = going_by other {more = more} {others = others} {stop = stop} {ends = ends} first.short are stays in
    record { same = ap (λ it. going_on it more stop) first.same ∙ next.same; short = next.short }

-- one or the other
pub alike_if : {A : Type 0} {bound : ℕ} (test : Bool) {one other one' other' : Read A} → Alike bound one other → Alike bound one' other'
    → Alike bound (if test then one else one') (if test then other else other')
alike_if true are others = are
alike_if false are others = others

-- ---- the first token

-- what a token is, by cases
first_by : {A : Type 0} (rest : List SourceToken) (it : Option A)
    → Alike (suc (length rest)) (option_map (λ it. (it, rest)) it) (option_map (λ it. (it, rest)) it)
first_by rest None = alike_none
first_by rest (Some it) = alike_some (omega arith)

-- what the first token is
pub alike_first : {A : Type 0} (of : SourceToken → Option A) (tokens : List SourceToken) → Alike (length tokens) (first_at of tokens) (first_at of tokens)
alike_first of [] = alike_none
alike_first of (source ∷ rest) = first_by rest (of source)

-- a punctuator
pub alike_mark : (text : List ℕ) (tokens : List SourceToken) → Alike (length tokens) (mark_at text tokens) (mark_at text tokens)
alike_mark text tokens = alike_first _ tokens

-- a name
pub alike_name : (tokens : List SourceToken) → Alike (length tokens) (name_at tokens) (name_at tokens)
alike_name tokens = alike_first _ tokens

-- `void` and a `)`, by cases
void_by : (void : Option Place) (rest : List SourceToken)
    → Alike (suc (length rest)) (void >>= λ void. mark_at (codes ")") rest >>= λ close. Some (void, close.1))
    (void >>= λ void. mark_at (codes ")") rest >>= λ close. Some (void, close.1))
void_by None rest = alike_none
void_by (Some void) rest = alike_bind (alike_mark _ rest) λ close short. alike_some (omega arith)

-- `void` and a `)`
pub alike_void : (tokens : List SourceToken) → Alike (length tokens) (void_alone tokens) (void_alone tokens)
alike_void [] = alike_none
alike_void (source ∷ rest) = void_by (place_if (is_keyword (codes "void") source) source) rest

-- ---- what may stand in front

-- string literals, by cases
literals_by : (is_one : Bool) (word : Word) (source : SourceToken) (rest : List SourceToken) (others : List Word × List SourceToken)
    → length others.1 ≤ length rest
    → length (if◌then◌else◌ {A = List Word × List SourceToken} is_one (word ∷ others.0, others.1) ([], source ∷ rest)).1 ≤ suc (length rest)
literals_by true word source rest others short = omega arith
literals_by false word source rest others short = omega arith

-- string literals
pub literals_short : (tokens : List SourceToken) → length (literals_at tokens).1 ≤ length tokens
literals_short [] = omega arith
literals_short (source ∷ rest) =
    literals_by (is_literal source) (word_of source) source rest (literals_at rest) (literals_short rest)

-- pointers, by cases
pointers_by : (it : Option Pointer) (source : SourceToken) (rest : List SourceToken) (others : List Pointer × List SourceToken)
    → length others.1 ≤ length rest → length (with_pointer it source rest others).1 ≤ suc (length rest)
pointers_by None source rest others short = omega arith
pointers_by (Some it) source rest others short = omega arith

-- pointers
pub pointers_short : (tokens : List SourceToken) → length (pointers_at tokens).1 ≤ length tokens
pointers_short [] = omega arith
pointers_short (source ∷ rest) = pointers_by (pointer_of source) source rest (pointers_at rest) (pointers_short rest)

-- a tag, by cases
tag_by : (tokens : List SourceToken) (name : Read Word) → ((all : Word × List SourceToken) → name ≡ Some all → length all.1 < length tokens)
    → length (going_on {B = Option Word × List SourceToken} name (λ name rest. (Some name, rest)) (None, tokens)).1 ≤ length tokens
tag_by tokens None short = omega arith
tag_by tokens (Some all) short = omega (arith, short all refl)

-- a tag
pub tag_short : (tokens : List SourceToken) → length (tag_at tokens).1 ≤ length tokens
tag_short tokens = tag_by tokens (name_at tokens) (alike_name tokens).short
