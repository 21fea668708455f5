-- What an opening bracket does.
--     deepener_of_open               it counts as another punctuator
--     room_left, slot_taken      there is an entry for the level around, and it takes it
--     open_follows               the rows after it are the numbers of the levels after it
use Rattle.std.proofs.Common.{◌≡◌, ℕ, ◌-◌, ◌≤◌, true, List, [], ◌∷◌, map, length, drop, Some, inl, inr, refl, ap, ap₂, ◌∙◌, length-drop, arith}
use Rattle.std.specs.Prelude.{codes, ◌||◌, slice_set}
use Rattle.std.proofs.lemmas.Bool.{and_parts, or_cases}
use Rattle.std.proofs.lemmas.List.{drop-set}
use Rattle.std.proofs.lemmas.Slice.Eq.{bytes_eq-Decides}
use Rattle.hs_tokens.specs.KindLaws.{kind_is}
use Rattle.hs_tokens.specs.declared.token.TokenKind.TheVariants.{Punctuator}
use Rattle.hs_tokens.specs.declared.token.SourceToken.{SourceToken}
use Rattle.hs_syntax.specs.declared.level.Level.{Level}
use Rattle.hs_syntax.specs.Counts.{counts, with_deepener, all_deepeners, AllDeepened, Follows}
use Rattle.hs_syntax.specs.Nesting.{is_punctuator, opens, deepener_of, deepened}
use Rattle.hs_syntax.specs.Nesting.Deepener.{other}
use Rattle.hs_syntax.proofs.Counting.{length_all_deepeners}

-- the kind and the bytes of a punctuator
punctuator_is : (mark : List ℕ) (source : SourceToken) → is_punctuator mark source ≡ true
    → (source.token.kind ≡ Punctuator) × (source.token.text ≡ mark)
punctuator_is mark source is =
    let parts = and_parts _ _ is in
    (kind_is source.token.kind Punctuator parts.0, (bytes_eq-Decides source.token.text mark).0 parts.1)

-- An opening bracket counts as another punctuator.
pub deepener_of_open : (source : SourceToken) → opens source ≡ true → deepener_of source ≡ Some other
deepener_of_open source is = elim (or_cases (is_punctuator (codes "(") source || is_punctuator (codes "[") source) (is_punctuator (codes "{") source) is) [
  | inl others ↦ elim (or_cases (is_punctuator (codes "(") source) (is_punctuator (codes "[") source) others) [
    | inl round ↦ let parts = punctuator_is (codes "(") source round in rw (parts.0, parts.1) refl
    | inr square ↦ let parts = punctuator_is (codes "[") source square in rw (parts.0, parts.1) refl
  ]
  | inr curly ↦ let parts = punctuator_is (codes "{") source curly in rw (parts.0, parts.1) refl
]

-- Each level around has a deepener, so that 256 deepeners leave an entry free.
pub room_left : (free : ℕ) (around : List Level) → length around ≡ 257 → AllDeepened (drop free around) → all_deepeners (drop free around) ≤ 256
    → 1 ≤ free
room_left free around long deepened within = omega (arith, length-drop free around, length_all_deepeners (drop free around) deepened)

-- The last free entry becomes the first one that is taken.
pub slot_taken : (free : ℕ) (around : List Level) (level : Level) → 1 ≤ free → free ≤ length around
    → drop (free - 1) (slice_set around (free - 1) level) ≡ level ∷ drop free around
slot_taken free around level room within =
    drop-set around (free - 1) level (omega arith) ∙ ap (λ at. level ∷ drop at around) (omega arith)

-- The level with the bracket's deepener stands around a level with none.
pub open_follows : (level : Level) (around : List Level)
    → Follows (level ∷ around) (counts [] ∷ with_deepener other level ∷ around) (λ levels. [] ∷ deepened (Some other) levels)
open_follows level around [] same = cc
open_follows level around (deepeners ∷ levels) same =
    let first : level ≡ counts deepeners = cc in
    let others : around ≡ map counts levels = cc in
    ap₂ (λ (row : Level) rows. counts [] ∷ with_deepener other row ∷ rows) first others
