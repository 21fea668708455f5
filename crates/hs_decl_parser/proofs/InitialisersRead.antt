-- Initialisers are read.
--     value_all, list_all                            an initialiser
--     no_initialisers_all, more_initialisers_all     lists of them
use Rattle.std.proofs.Common.{◌≡◌, Bool, true, false, List, [], ◌∷◌, ◌++◌, Some, None, refl, ap, sym, ◌∙◌, subst, append_assoc}
use Rattle.std.specs.Prelude.{codes, if◌then◌else◌}
use Rattle.hs_base.specs.Options.{◌>>=◌}
use Rattle.hs_tokens.specs.declared.token.SourceToken.{SourceToken}
use Rattle.hs_tokens.specs.declared.token.TokenKind.TheVariants.{Punctuator}
use Rattle.hs_syntax.specs.Forms.{Form, ◌⨾◌, when, mark, mark_at as mark_form, IsOf}
use Rattle.hs_syntax.specs.Grammar.{initialiser_form, initialisers_form}
use Rattle.hs_syntax.specs.Parts.{comma_form, behind_comma}
use Rattle.hs_syntax.specs.Phrases.{has_initialisers}
use Rattle.hs_syntax.specs.StatementViews.{initialisers_from}
use Rattle.hs_syntax.specs.Trees as tree
use Rattle.hs_syntax.specs.Trees.{Expression, Initialising, Initialisers}
use Rattle.hs_tokens.specs.declared.place.Place.{Place}
use Rattle.hs_expr_parser.specs.Ahead.{place_of, is_punctuator, is_mark_ahead, mark_at, stops, is_below, joins}
use Rattle.hs_expr_parser.specs.Recursion.{Read}
use Rattle.hs_expr_parser.specs.Reading.{Known, going_on}
use Rattle.hs_expr_parser.specs.Steps.{assignment_at}
use Rattle.hs_expr_parser.specs.Laws.Apart.{with_text, one_token, first_when}
use Rattle.hs_expr_parser.specs.Laws.Commas.{after_comma}
use Rattle.hs_expr_parser.specs.Laws.FirstTokens.{grouped, mark_missing, mark_no_mark}
use Rattle.hs_expr_parser.specs.Laws.Phrases.{assignment_reads}
use Rattle.hs_expr_parser.specs.Laws.Primaries.{closes, mark_reads, bracketed, behind}
use Rattle.hs_expr_parser.specs.Laws.Spelled.{is_behind}
use Rattle.hs_decl_parser.proofs.Expected.{Whole, initialisers_in, ReadsInitialiser, ReadsInitialisers}
use Rattle.hs_decl_parser.proofs.NotAhead.{not_ahead, brace_no_assignment, close_no_assignment}
use Rattle.hs_decl_parser.proofs.TestsRead.{mark_stops}
use Rattle.hs_decl_parser.specs.Goals as goal
use Rattle.hs_decl_parser.specs.Reading.{Shorter, braces_rule, starting_value, initialiser_rule, initialisers_rule}

-- a list is what its entries make
initialisers_again : (its : Initialisers) → initialisers_from (initialisers_in its) ≡ its
initialisers_again tree.no_initialisers = refl
initialisers_again (tree.more_initialisers it rest) = ap (tree.more_initialisers it) (initialisers_again rest)

-- ---- an initialiser

-- what is read, by whether a `{` is in front
abbrev initialiser_by : Known → Shorter → List SourceToken → Read Place → Read Initialising
initialiser_by known table tokens found = going_on found (λ brace rest. braces_rule table brace rest) (starting_value known tokens)

-- what is made of an expression
abbrev made_value : Expression × List SourceToken → Read Initialising
made_value e = Some (tree.value e.0, e.1)

-- an expression
pub value_all : {known : Known} {table : Shorter} → Whole known table → (e : Expression) → ReadsInitialiser known table (tree.value e)
value_all {known = known} {table = table} whole e front rest fits ends =
    let reads = assignment_reads known e front rest fits ends in
    let brace = not_ahead (assignment_at known) Punctuator (codes "{") e (front ++ rest) rest (brace_no_assignment known) reads in
    ap (initialiser_by known table (front ++ rest)) (mark_missing (codes "{") (front ++ rest) brace) ∙ ap (λ found. found >>= made_value) reads

-- a list of them in braces
pub list_all : {known : Known} {table : Shorter} → Whole known table → (at : Place) (its : Initialisers) (comma : Bool) → ReadsInitialisers known table its
    → ReadsInitialiser known table (tree.list at its comma)
list_all {known = known} {table = table} whole at its comma reads front rest fits ends =
    let entries : Form = when (has_initialisers its) (initialisers_form known its) in
    let regrouped = subst (λ (form : Form). IsOf (mark_form at (codes "{") ⨾ form) front)
    (grouped entries (comma_form comma) (mark (codes "}"))) fits in
    let braces = bracketed (codes "{") (codes "}") (Some at) (entries ⨾ comma_form comma) front regrouped in
    let has = first_when (has_initialisers its) (initialisers_form known its) (comma_form comma) braces.inside braces.fits in
    let tokens : List SourceToken = braces.inside ++ (braces.close ∷ rest) in
    let read = reads [] comma braces.inside (braces.close ∷ rest) has.0 has.1 (ap (is_punctuator (codes "}")) braces.closed) in
    ap (initialiser_rule known table) (braces.whole rest)
    ∙ ap (initialiser_by known table (braces.opening ∷ tokens)) (mark_reads (codes "{") braces.opening tokens braces.opens)
    ∙ closes {A = List Initialising × Bool} (table (goal.initialisers []) tokens) (initialisers_in its, comma) (codes "}") braces.close rest
    (λ found. tree.list (place_of braces.opening) (initialisers_from found.0) found.1) (whole.plain (goal.initialisers []) tokens ∙ read.0) braces.closed
    ∙ (λ i. Some (tree.list (braces.at i) (initialisers_again its i) comma, rest))

-- ---- lists of them

-- none are not read
pub no_initialisers_all : {known : Known} {table : Shorter} → Whole known table → ReadsInitialisers known table tree.no_initialisers
no_initialisers_all whole earlier comma front rest has fits ends = absurd cc

-- after a comma
abbrev behind_initialiser : Shorter → List Initialising → List SourceToken → Read (List Initialising × Bool)
behind_initialiser table all rest = if is_mark_ahead (codes "}") rest then Some ((all, true), rest) else table (goal.initialisers all) rest

-- what follows an initialiser, by whether a comma does
abbrev initialisers_by : Shorter → List Initialising → List SourceToken → Read Place → Read (List Initialising × Bool)
initialisers_by table all tokens found = going_on found (λ comma rest. behind_initialiser table all rest) (Some ((all, false), tokens))

-- what follows an initialiser
abbrev initialisers_then : Shorter → List Initialising → Initialising × List SourceToken → Read (List Initialising × Bool)
initialisers_then table earlier it = initialisers_by table (earlier ++ it.0 ∷ []) it.1 (mark_at (codes ",") it.1)

-- if a comma follows
initialisers_comma : (table : Shorter) (earlier : List Initialising) (it : Initialising) (comma : SourceToken) (rest : List SourceToken)
    → comma ≡ with_text Punctuator (codes ",") comma → initialisers_then table earlier (it, comma ∷ rest) ≡ behind_initialiser table (earlier ++ it ∷ []) rest
initialisers_comma table earlier it comma rest is = ap (initialisers_by table (earlier ++ it ∷ []) (comma ∷ rest)) (mark_reads (codes ",") comma rest is)

-- more initialisers after a comma
initialisers_more : {known : Known} {table : Shorter} → Whole known table → (it : Initialising) (its : Initialisers) (earlier : List Initialising)
    (comma : Bool) (two three rest : List SourceToken) → ReadsInitialisers known table its → has_initialisers its ≡ true
    → IsOf (mark (codes ",") ⨾ initialisers_form known its) two → IsOf (comma_form comma) three → is_mark_ahead (codes "}") rest ≡ true
    → (stops 1 (two ++ (three ++ rest)) ≡ true)
    × (initialisers_then table earlier (it, two ++ (three ++ rest)) ≡ Some ((earlier ++ it ∷ initialisers_in its, comma), rest))
initialisers_more {known = known} {table = table} whole it its earlier comma two three rest reads has second third ends =
    let form : Form = initialisers_form known its in
    let after = after_comma form two second in
    let all = is_behind form (comma_form comma) after.others three after.fits third in
    let same : after.others ++ (three ++ rest) ≡ (after.others ++ three) ++ rest = sym (append_assoc after.others three rest) in
    let tokens : List SourceToken = after.others ++ (three ++ rest) in
    let read = reads (earlier ++ it ∷ []) comma (after.others ++ three) rest has all ends in
    let goes : is_mark_ahead (codes "}") tokens ≡ false = ap (is_mark_ahead (codes "}")) same ∙ read.1 in (
      ap (stops 1) (after.whole (three ++ rest)) ∙ ap (λ it. is_below 1 (joins it)) after.is,
      ap (λ tokens. initialisers_then table earlier (it, tokens)) (after.whole (three ++ rest))
          ∙ initialisers_comma table earlier it after.source tokens after.is
          ∙ not_ended tokens goes
          ∙ ap (table (goal.initialisers (earlier ++ it ∷ []))) same
          ∙ whole.plain (goal.initialisers (earlier ++ it ∷ [])) ((after.others ++ three) ++ rest)
          ∙ read.0
          ∙ ap (λ its. Some ((its, comma), rest)) (append_assoc earlier (it ∷ []) (initialisers_in its)),
    )
  where
    not_ended : (tokens : List SourceToken) → is_mark_ahead (codes "}") tokens ≡ false
        → behind_initialiser table (earlier ++ it ∷ []) tokens ≡ table (goal.initialisers (earlier ++ it ∷ [])) tokens
    not_ended tokens is = rw is refl

-- an initialiser and what follows it
initialisers_on : {known : Known} {table : Shorter} → Whole known table → (it : Initialising) (its : Initialisers) (earlier : List Initialising)
    (comma : Bool) (two three rest : List SourceToken) → ReadsInitialisers known table its
    → IsOf (behind_comma (has_initialisers its) (initialisers_form known its)) two
    → IsOf (comma_form comma) three → is_mark_ahead (codes "}") rest ≡ true
    → (stops 1 (two ++ (three ++ rest)) ≡ true)
    × (initialisers_then table earlier (it, two ++ (three ++ rest)) ≡ Some ((earlier ++ it ∷ initialisers_in its, comma), rest))
initialisers_on whole it tree.no_initialisers earlier comma (source ∷ two) three rest reads second third ends = absurd second.1
initialisers_on whole it tree.no_initialisers earlier false [] (source ∷ three) rest reads second third ends = absurd third.1
initialisers_on {table = table} whole it tree.no_initialisers earlier false [] [] rest reads second third ends = (
  mark_stops (codes "}") 1 rest (λ source. refl) ends,
  ap (initialisers_by table (earlier ++ it ∷ []) rest) (mark_missing (codes ",") rest (mark_no_mark (codes "}") (codes ",") rest refl ends)),
)
initialisers_on {table = table} whole it tree.no_initialisers earlier true [] three rest reads second third ends =
    let comma = one_token Punctuator (codes ",") None three third in (
      ap (λ its. stops 1 (its ++ rest)) comma.alone ∙ ap (λ it. is_below 1 (joins it)) comma.is,
      ap (λ its. initialisers_then table earlier (it, its ++ rest)) comma.alone
          ∙ initialisers_comma table earlier it comma.source rest comma.is ∙ rw ends refl,
    )
initialisers_on whole it (tree.more_initialisers next its) earlier comma two three rest reads second third ends =
    initialisers_more whole it (tree.more_initialisers next its) earlier comma two three rest reads refl second third ends

-- a `}` begins no initialiser
close_no_initialiser : (known : Known) (table : Shorter) (source : SourceToken) (others : List SourceToken)
    → initialiser_rule known table (with_text Punctuator (codes "}") source ∷ others) ≡ None
close_no_initialiser known table source others = ap (λ found. found >>= made_value) (close_no_assignment known source others)

-- one more in front
pub more_initialisers_all : {known : Known} {table : Shorter} → Whole known table → (it : Initialising) (rest : Initialisers) → ReadsInitialiser known table it
    → ReadsInitialisers known table rest → ReadsInitialisers known table (tree.more_initialisers it rest)
more_initialisers_all {known = known} {table = table} whole it its reads others earlier comma front rest has fits ends =
    let more : Form = behind_comma (has_initialisers its) (initialisers_form known its) in
    let parts = behind (initialiser_form known it ⨾ more) (comma_form comma) front fits in
    let inside = behind (initialiser_form known it) more parts.front parts.first in
    let left : List SourceToken = inside.back ++ (parts.back ++ rest) in
    let same : front ++ rest ≡ inside.front ++ left = parts.whole rest ∙ inside.whole (parts.back ++ rest) in
    let on = initialisers_on whole it its earlier comma inside.back parts.back rest others inside.second parts.second ends in
    let read = reads inside.front left inside.first on.0 in (
      ap (initialisers_rule known table earlier) same ∙ ap (λ found. found >>= initialisers_then table earlier) read ∙ on.1,
      ap (is_mark_ahead (codes "}")) same
          ∙ not_ahead (initialiser_rule known table) Punctuator (codes "}") it (inside.front ++ left) left (close_no_initialiser known table) read,
    )
