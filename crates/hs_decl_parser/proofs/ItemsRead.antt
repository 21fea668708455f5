-- The declarators of declarations are read.
--     ReadsStart                      what a declarator starts with
--     no_start_all, some_start_all
--     no_items_all, more_items_all    more declarators after a first one
--     items_read                      the first one, and the others up to the `;`
use Rattle.std.proofs.Common.{◌≡◌, ℕ, Bool, true, false, List, [], ◌∷◌, ◌++◌, Option, Some, None, refl, ap, sym, ◌∙◌, subst, append_assoc, inl, inr}
use Rattle.std.specs.Prelude.{◌||◌, codes}
use Rattle.std.specs.Str.{bytes_eq}
use Rattle.std.proofs.lemmas.Bool.{cases_Bool}
use Rattle.std.proofs.lemmas.List.{append-nil}
use Rattle.hs_base.specs.Options.{◌>>=◌}
use Rattle.hs_tokens.specs.declared.token.SourceToken.{SourceToken}
use Rattle.hs_tokens.specs.declared.token.TokenKind.TheVariants.{Punctuator}
use Rattle.hs_syntax.specs.Forms.{Form, ◌⨾◌, when, mark, IsOf}
use Rattle.hs_syntax.specs.Grammar.{declarator_form, initialiser_form, start_form, items_form}
use Rattle.hs_syntax.specs.Names.{is_among}
use Rattle.hs_syntax.specs.Phrases.{is_named}
use Rattle.hs_syntax.specs.RowViews.{specification_from}
use Rattle.hs_syntax.specs.Trees.{Specified, Declared, Initialising, Declaring, Declaration}
use Rattle.hs_tokens.specs.declared.place.Place.{Place}
use Rattle.hs_expr_parser.specs.Ahead.{is_punctuator, is_mark_ahead, stops, is_below, joins}
use Rattle.hs_expr_parser.specs.Expected.{enders, is_ender, ended}
use Rattle.hs_expr_parser.specs.Recursion.{Read}
use Rattle.hs_expr_parser.specs.Reading.{Known, going_on}
use Rattle.hs_expr_parser.specs.Steps.{declarator_at}
use Rattle.hs_expr_parser.specs.Laws.Apart.{with_text, when_parts, one_token}
use Rattle.hs_expr_parser.specs.Laws.Enclosed.{headed}
use Rattle.hs_expr_parser.specs.Laws.FirstTokens.{or_true, mark_missing, mark_no_mark, mark_ender}
use Rattle.hs_expr_parser.specs.Laws.Phrases.{declarator_reads}
use Rattle.hs_expr_parser.specs.Laws.Primaries.{closing, closes, mark_reads, behind}
use Rattle.hs_decl_parser.proofs.DeclarationsFound.{items_split}
use Rattle.hs_decl_parser.proofs.Deeper.{deeper_one, onwards}
use Rattle.hs_decl_parser.proofs.Expected.{Whole, ReadsInitialiser, ReadsItems}
use Rattle.hs_decl_parser.proofs.TestsRead.{mark_stops}
use Rattle.hs_decl_parser.specs.Found.{item_form, more_items_form}
use Rattle.hs_decl_parser.specs.Goals as goal
use Rattle.hs_decl_parser.specs.Reading.{Shorter, start_rule, item_behind, item_rule, items_rule, declared_rule}

-- ---- what may follow a declarator with what it starts with

abbrev ends_item : List SourceToken → Bool
ends_item tokens = is_mark_ahead (codes ",") tokens || is_mark_ahead (codes ";") tokens

-- it ends a declarator and an initialiser, and is no `=` and no `{`
record ItemEnds (tokens : List SourceToken) : Type 0 where
  ends : ended tokens ≡ true
  stopped : stops 1 tokens ≡ true
  no_equals : is_mark_ahead (codes "=") tokens ≡ false
  no_brace : is_mark_ahead (codes "{") tokens ≡ false

-- one of those punctuators
ends_by : (text : List ℕ) (tokens : List SourceToken) → is_among enders text ≡ true → bytes_eq text (codes "=") ≡ false → bytes_eq text (codes "{") ≡ false
    → ((source : SourceToken) → is_below 1 (joins (with_text Punctuator text source)) ≡ true) → is_mark_ahead text tokens ≡ true → ItemEnds tokens
ends_by text tokens among equals brace below is = record {
  ends = mark_ender text tokens among is;
  stopped = mark_stops text 1 tokens below is;
  no_equals = mark_no_mark text (codes "=") tokens equals is;
  no_brace = mark_no_mark text (codes "{") tokens brace is;
}

-- either of them
item_ends : (tokens : List SourceToken) → ends_item tokens ≡ true → ItemEnds tokens
item_ends tokens is =
    elim (cases_Bool (is_mark_ahead (codes ",") tokens)) [
      | inl comma ↦ ends_by (codes ",") tokens refl refl refl (λ source. refl) comma
      | inr other ↦
          ends_by (codes ";") tokens refl refl refl (λ source. refl) (ap (λ it. it || is_mark_ahead (codes ";") tokens) (sym other) ∙ is)
    ]

-- ---- what a declarator starts with

-- up to what ends it; no `{` begins it, and a declarator ends there
abbrev pub ReadsStart : Known → Shorter → Option Initialising → Type 0
ReadsStart known table e =
    (front rest : List SourceToken) → IsOf (start_form known e) front → ends_item rest ≡ true
    → (start_rule table (front ++ rest) ≡ Some (e, rest)) × (ended (front ++ rest) ≡ true) × (is_mark_ahead (codes "{") (front ++ rest) ≡ false)

-- what is made of an initialiser
abbrev made_start : Initialising × List SourceToken → Read (Option Initialising)
made_start it = Some (Some it.0, it.1)

-- what is read, by whether a `=` is in front
abbrev start_by : Shorter → List SourceToken → Read Place → Read (Option Initialising)
start_by table tokens found = going_on found (λ equals rest. table goal.initialiser rest >>= made_start) (Some (None, tokens))

-- nothing
pub no_start_all : (known : Known) (table : Shorter) → ReadsStart known table None
no_start_all known table (source ∷ front) rest fits ends = absurd fits.1
no_start_all known table [] rest fits ends =
    let item = item_ends rest ends in
    (ap (start_by table rest) (mark_missing (codes "=") rest item.no_equals), item.ends, item.no_brace)

-- an initialiser
pub some_start_all : {known : Known} {table : Shorter} → Whole known table → (it : Initialising) → ReadsInitialiser known table it
    → ReadsStart known table (Some it)
some_start_all {known = known} {table = table} whole it reads front rest fits ends =
    let item = item_ends rest ends in
    let parts = headed Punctuator (codes "=") None (initialiser_form known it) front fits in
    let tokens : List SourceToken = parts.others ++ rest in (
      ap (start_rule table) (parts.whole rest)
          ∙ ap (start_by table (parts.source ∷ tokens)) (mark_reads (codes "=") parts.source tokens parts.is)
          ∙ ap (λ found. found >>= made_start) (whole.plain goal.initialiser tokens ∙ reads parts.others rest parts.fits item.stopped),
      ap ended (parts.whole rest) ∙ ap is_ender parts.is,
      ap (is_mark_ahead (codes "{")) (parts.whole rest) ∙ ap (is_punctuator (codes "{")) parts.is,
    )

-- ---- a declarator with what it starts with

-- what is made of what it starts with
abbrev made_item : Declared → Option Initialising × List SourceToken → Read Declaring
made_item declared start = Some (record { declarator = declared; initialiser = start.0 }, start.1)

-- read in two steps
record ItemRead (known : Known) (table : Shorter) (it : Declaring) (tokens rest : List SourceToken) : Type 0 where
  back : List SourceToken
  declarator : declarator_at known false tokens ≡ Some (it.declarator, back)
  start : item_behind table it.declarator back ≡ Some (it, rest)
  no_brace : is_mark_ahead (codes "{") back ≡ false

-- if its tokens stand in front
item_reads : (known : Known) (table : Shorter) (it : Declaring) (front rest : List SourceToken) → ReadsStart known table it.initialiser
    → IsOf (item_form known it) front → ends_item rest ≡ true → ItemRead known table it (front ++ rest) rest
item_reads known table it front rest starts fits ends =
    let form : Form = declarator_form known false it.declarator in
    let parts = behind (when (is_named it.declarator) form) (start_form known it.initialiser) front fits in
    let named = when_parts (is_named it.declarator) form parts.front parts.first in
    let start = starts parts.back rest parts.second ends in
    record {
      back = parts.back ++ rest;
      declarator = ap (declarator_at known false) (parts.whole rest)
          ∙ declarator_reads known it.declarator parts.front (parts.back ++ rest) named.1 named.0 start.1;
      start = ap (λ found. found >>= made_item it.declarator) start.0;
      no_brace = start.2;
    }

-- ---- more of them

-- what is read after one more
abbrev items_on : Shorter → List Declaring → Declaring × List SourceToken → Read (List Declaring)
items_on table earlier it = table (goal.items (earlier ++ it.0 ∷ [])) it.1

-- what is read, by whether a comma is in front
abbrev items_by : Known → Shorter → List Declaring → List SourceToken → Read Place → Read (List Declaring)
items_by known table earlier tokens found = going_on found (λ comma rest. item_rule known table rest >>= items_on table earlier) (Some (earlier, tokens))

-- none
pub no_items_all : (known : Known) (table : Shorter) → ReadsItems known table []
no_items_all known table earlier (source ∷ front) rest fits ends = absurd fits.1
no_items_all known table earlier [] rest fits ends =
    ap (items_by known table earlier rest) (mark_missing (codes ",") rest (mark_no_mark (codes ";") (codes ",") rest refl ends))
    ∙ ap (λ its. Some (its, rest)) (sym (append-nil earlier))

-- a `,` or a `;` follows a declarator
more_end : (known : Known) (its : List Declaring) (front rest : List SourceToken) → IsOf (more_items_form known its) front
    → is_mark_ahead (codes ";") rest ≡ true → ends_item (front ++ rest) ≡ true
more_end known [] (source ∷ front) rest fits ends = absurd fits.1
more_end known [] [] rest fits ends = or_true (is_mark_ahead (codes ",") rest) (is_mark_ahead (codes ";") rest) ends
more_end known (it ∷ its) front rest fits ends =
    let parts = headed Punctuator (codes ",") None (item_form known it ⨾ more_items_form known its) front fits in
    ap ends_item (parts.whole rest) ∙ ap (λ (first : SourceToken). ends_item (first ∷ (parts.others ++ rest))) parts.is

-- one more in front
pub more_items_all : {known : Known} {table : Shorter} → Whole known table → (it : Declaring) (rest : List Declaring) → ReadsStart known table it.initialiser
    → ReadsItems known table rest → ReadsItems known table (it ∷ rest)
more_items_all {known = known} {table = table} whole it its starts others earlier front rest fits ends =
    let comma = headed Punctuator (codes ",") None (item_form known it ⨾ more_items_form known its) front fits in
    let parts = behind (item_form known it) (more_items_form known its) comma.others comma.fits in
    let left : List SourceToken = parts.back ++ rest in
    let tokens : List SourceToken = parts.front ++ left in
    let read = item_reads known table it parts.front left starts parts.first (more_end known its parts.back rest parts.second ends) in
    ap (items_rule known table earlier) (comma.whole rest ∙ ap (λ its. comma.source ∷ its) (parts.whole rest))
    ∙ ap (items_by known table earlier (comma.source ∷ tokens)) (mark_reads (codes ",") comma.source tokens comma.is)
    ∙ ap (λ found. (found >>= (λ declared. item_behind table declared.0 declared.1)) >>= items_on table earlier) read.declarator
    ∙ ap (λ found. found >>= items_on table earlier) read.start
    ∙ whole.plain (goal.items (earlier ++ it ∷ [])) left
    ∙ others (earlier ++ it ∷ []) parts.back rest parts.second ends
    ∙ ap (λ all. Some (all, rest)) (append_assoc earlier (it ∷ []) its)

-- ---- all of them

-- a declaration's declarators up to its `;`
pub record ItemsRead (known : Known) (table : Shorter) (it : Declaring) (its : List Declaring) (tokens rest : List SourceToken) : Type 0 where
  pub back : List SourceToken
  pub declarator : declarator_at known false tokens ≡ Some (it.declarator, back)
  pub no_brace : is_mark_ahead (codes "{") back ≡ false
  pub declared : (specifiers : List Specified)
      → declared_rule known table specifiers it.declarator back ≡ Some (record { specifiers = specification_from specifiers; items = it ∷ its }, rest)

-- what is made of declarators
abbrev made_declaration : List Specified → List Declaring → Declaration
made_declaration specifiers its = record { specifiers = specification_from specifiers; items = its }

-- what is read after the first of them
abbrev declared_then : Known → Shorter → List Specified → Declaring × List SourceToken → Read Declaration
declared_then known table specifiers first = items_rule known table (first.0 ∷ []) first.1 >>= closing (made_declaration specifiers) (codes ";")

-- they are read after it
declared_by : (known : Known) (table : Shorter) (it : Declaring) (its : List Declaring) (end : SourceToken) (back left rest : List SourceToken)
    → item_behind table it.declarator back ≡ Some (it, left) → items_rule known table (it ∷ []) left ≡ Some (it ∷ its, end ∷ rest)
    → end ≡ with_text Punctuator (codes ";") end → (specifiers : List Specified)
    → declared_rule known table specifiers it.declarator back ≡ Some (record { specifiers = specification_from specifiers; items = it ∷ its }, rest)
declared_by known table it its end back left rest start reads is specifiers =
    ap (λ found. found >>= declared_then known table specifiers) start
    ∙ closes (items_rule known table (it ∷ []) left) (it ∷ its) (codes ";") end rest (made_declaration specifiers) reads is

-- a declarator at the same tokens
declarator_along : (known : Known) (it : Declared) (tokens others back : List SourceToken) → tokens ≡ others
    → declarator_at known false others ≡ Some (it, back) → declarator_at known false tokens ≡ Some (it, back)
declarator_along known it tokens others back same reads = ap (declarator_at known false) same ∙ reads

-- if their tokens stand in front
pub items_read : (known : Known) (table : Shorter) (it : Declaring) (its : List Declaring) → ReadsStart known table it.initialiser
    → ReadsItems known table its → (front rest : List SourceToken) → IsOf (items_form known (it ∷ its) ⨾ mark (codes ";")) front
    → ItemsRead known table it its (front ++ rest) rest
items_read known table it its starts others front rest fits =
    let parts = behind (items_form known (it ∷ its)) (mark (codes ";")) front fits in
    let end = one_token Punctuator (codes ";") None parts.back parts.second in
    let inside = behind (item_form known it) (more_items_form known its) parts.front
    (subst (λ (form : Form). IsOf form parts.front) (items_split known it its) parts.first) in
    let behind' : List SourceToken = end.source ∷ rest in
    let left : List SourceToken = inside.back ++ behind' in
    let same = onwards (front ++ rest) (parts.front ++ behind') (inside.front ++ left)
    (deeper_one parts.front (front ++ rest) parts.back rest end.source (parts.whole rest) end.alone) (inside.whole behind') in
    let is_end : is_mark_ahead (codes ";") behind' ≡ true = ap (is_punctuator (codes ";")) end.is in
    let read = item_reads known table it inside.front left starts inside.first (more_end known its inside.back behind' inside.second is_end) in
    record {
      back = read.back;
      declarator = declarator_along known it.declarator (front ++ rest) (inside.front ++ left) read.back same read.declarator;
      no_brace = read.no_brace;
      declared = declared_by known table it its end.source read.back left rest read.start (others (it ∷ []) inside.back behind' inside.second is_end) end.is;
    }
