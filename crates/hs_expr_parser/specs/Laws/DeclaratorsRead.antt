-- Declarators are read.
--     nothing_all, identifier_all, .., function_of_void_all     what follows the pointers
--     pointing_all                                              pointers, and it
--     no_declarators_all, more_declarators_all
use Rattle.std.proofs.Common.{◌≡◌, ◌≤◌, Bool, true, false, List, [], ◌∷◌, ◌++◌, Some, None, refl, ap, sym, ◌∙◌, inl, inr}
use Rattle.std.specs.Prelude.{◌&&◌, ◌||◌, not, codes, if◌then◌else◌}
use Rattle.std.proofs.lemmas.Bool.{cases_Bool}
use Rattle.hs_base.specs.Options.{◌>>=◌}
use Rattle.hs_tokens.specs.declared.token.SourceToken.{SourceToken}
use Rattle.hs_tokens.specs.declared.token.TokenKind.TheVariants.{Identifier, Punctuator}
use Rattle.hs_syntax.specs.Forms.{when, word, nothing_at_all, keyword_at, IsOf}
use Rattle.hs_syntax.specs.Grammar.{expression_form, declarator_form, declarators_form, direct_form, parameters_form}
use Rattle.hs_syntax.specs.Names.{is_name}
use Rattle.hs_syntax.specs.Operators.{dropped_text}
use Rattle.hs_syntax.specs.Parts.{pointers_form, behind_comma, in_parens}
use Rattle.hs_syntax.specs.Phrases.{as_conditional, rank, begins_parameters, is_named, names, is_empty, is_void_alone, has_declarators, specifier_words}
use Rattle.hs_syntax.specs.RowViews.{parameters_from}
use Rattle.hs_syntax.specs.Trees as tree
use Rattle.hs_syntax.specs.Trees.{Expression, Declared, Declarators, Directly, Parameters}
use Rattle.hs_syntax.specs.declared.operators.Dropped.{Dropped}
use Rattle.hs_syntax.specs.declared.operators.Dropped.TheVariants as dropped
use Rattle.hs_syntax.specs.declared.operators.Pointer.{Pointer}
use Rattle.hs_syntax.specs.declared.operators.Pointer.TheVariants as pointer
use Rattle.hs_tokens.specs.declared.place.Place.{Place}
use Rattle.hs_syntax.specs.declared.word.Word.{Word}
use Rattle.hs_expr_parser.specs.Ahead.{place_of, is_punctuator, is_ahead, is_mark_ahead, mark_at, name_of, begins_specifier, stops, is_below, joins}
use Rattle.hs_expr_parser.specs.Goals as goal
use Rattle.hs_expr_parser.specs.Recursion.{Read}
use Rattle.hs_expr_parser.specs.Reading.{Known, Shorter, going_on, pointers_at, begins_list, base_by, filled, inside_rule, nothing_there, base_rule, length_rule, list_rule, void_alone, directs_rule, declarator_rule, declarators_rule, expression_rule, with_pointer, pointer_of}
use Rattle.hs_expr_parser.specs.Laws.Along.{Whole, Longer}
use Rattle.hs_expr_parser.specs.Laws.Apart.{with_text, token_is, when_parts, one_token}
use Rattle.hs_expr_parser.specs.Laws.Commas.{after_comma, entries_end, entries_more}
use Rattle.hs_expr_parser.specs.Laws.Enclosed.{headed, enclosed}
use Rattle.hs_expr_parser.specs.Laws.Entries.{parameters_again}
use Rattle.hs_expr_parser.specs.Expected.{is_ender, ended, declarators_in, parameters_in, directly, ReadsDirect, ReadsDeclarator, ReadsDeclarators, ReadsParameters}
use Rattle.hs_expr_parser.specs.Laws.FirstTokens.{or_true, not_true, mark_missing, specifier_no_mark, opens, direct_opens, declarator_opens, mark_no_mark, no_list, ender_no_mark, ender_no_name, mark_ender, pointers_stop, nothing_is}
use Rattle.hs_expr_parser.specs.Laws.Primaries.{ReadsAll, closing, closes, mark_reads, word_is, bracketed, behind, ranked}
use Rattle.hs_expr_parser.specs.Laws.Ranks.{AllRead}
use Rattle.hs_expr_parser.specs.Laws.VoidAlone.{empty_is, filled_no_mark, void_missing}

-- ---- what follows the pointers

-- nothing has no token
pub nothing_all : {known : Known} {table : Shorter} → Whole known table → ReadsDirect known table tree.nothing
nothing_all whole inner source front rest fits named = absurd fits.1

-- more is read after what was read first
then_directs : (known : Known) (table : Shorter) (inner : Bool) (tokens : List SourceToken) (base : Directly) (rest : List SourceToken)
    → base_rule known table inner tokens ≡ Some (base, rest) → directly known table inner tokens ≡ directs_rule table base rest
then_directs known table inner tokens base rest is = ap (λ found. found >>= (λ base. directs_rule table base.0 base.1)) is

-- a name
identifier_reads : (known : Known) (table : Shorter) (inner : Bool) (it : Word) (source : SourceToken) (rest : List SourceToken)
    → source ≡ with_text Identifier it.text source → place_of source ≡ it.place → is_name it.text ≡ true
    → base_rule known table inner (source ∷ rest) ≡ Some (tree.identifier it, rest)
identifier_reads known table inner it source rest is at named =
    ap (λ (first : SourceToken). base_rule known table inner (first ∷ rest)) is
    ∙ rw named (ap (λ word. Some (tree.identifier word, rest)) (word_is Identifier it source is at))

-- it stands where its token does
pub identifier_all : {known : Known} {table : Shorter} → Whole known table → (it : Word) → ReadsDirect known table (tree.identifier it)
identifier_all {known = known} {table = table} whole it inner source front rest fits named =
    let parts = when_parts (is_name it.text) (word Identifier it) (source ∷ front) fits in
    let one = one_token Identifier it.text (Some it.place) (source ∷ front) parts.1 in
    ap (λ its. directly known table inner (its ++ rest)) one.alone
    ∙ then_directs known table inner (one.source ∷ rest) (tree.identifier it) rest (identifier_reads known table inner it one.source rest one.is one.at parts.0)

-- a declarator in parentheses
parens_by : {known : Known} {table : Shorter} → Whole known table
    → (inner : Bool) (it : Declared) (opening close : SourceToken) (tokens rest : List SourceToken)
    → opening ≡ with_text Punctuator (codes "(") opening → close ≡ with_text Punctuator (codes ")") close → (inner && begins_list known tokens) ≡ false
    → declarator_rule known table inner tokens ≡ Some (it, close ∷ rest) → is_empty it ≡ false
    → base_rule known table inner (opening ∷ tokens) ≡ Some (tree.parens_of it, rest)
parens_by {known = known} {table = table} whole inner it opening close tokens rest opens closed no_list reads full =
    ap (λ (first : SourceToken). base_rule known table inner (first ∷ tokens)) opens
    ∙ rw no_list (ap (λ found. found >>= (λ it. mark_at (codes ")") it.1 >>= (λ close. filled it.0 close.1)))
    (whole.plain (goal.declarator inner) tokens ∙ reads)
    ∙ ap (λ found. found >>= (λ close. filled it close.1)) (mark_reads (codes ")") close rest closed)
    ∙ rw full refl)

-- no list of parameters stands there
no_list_there : (known : Known) (inner : Bool) (it : Declared) (front rest : List SourceToken) → IsOf (declarator_form known inner it) front
    → (inner && begins_parameters known (declarator_form known inner it).pieces) ≡ false → is_empty it ≡ false
    → (inner && begins_list known (front ++ rest)) ≡ false
no_list_there known false it front rest fits apart full = refl
no_list_there known true it front rest fits apart full =
    rw (filled_no_mark known true (codes ")") it front rest refl fits full) (no_specifier front fits)
  where
    no_specifier : (front : List SourceToken) → IsOf (declarator_form known true it) front → is_ahead (begins_specifier known false) (front ++ rest) ≡ false
    no_specifier [] fits =
        let wrong : false ≡ true = sym full ∙ empty_is known true it fits.1 in
        absurd cc
    no_specifier (source ∷ front) fits =
        no_list known (declarator_form known true it).pieces (source ∷ front) [] apart (declarator_opens known true it fits.0) fits.1 refl

-- if its tokens stand in front, it is read
pub parens_of_all : {known : Known} {table : Shorter} → Whole known table → (it : Declared) → ReadsDeclarator known table it
    → ReadsDirect known table (tree.parens_of it)
parens_of_all {known = known} {table = table} whole it reads inner source front rest fits named =
    let form = declarator_form known inner it in
    let its = bracketed (codes "(") (codes ")") None (when (not (is_empty it)) (in_parens known inner form)) (source ∷ front) fits in
    let filled' = when_parts (not (is_empty it)) (in_parens known inner form) its.inside its.fits in
    let apart = when_parts (not (inner && begins_parameters known form.pieces)) form its.inside filled'.1 in
    let full = not_true (is_empty it) filled'.0 in
    ap (directly known table inner) (its.whole rest)
    ∙ then_directs known table inner (its.opening ∷ (its.inside ++ (its.close ∷ rest))) (tree.parens_of it) rest
    (parens_by whole inner it its.opening its.close (its.inside ++ (its.close ∷ rest)) rest its.opens its.closed
    (no_list_there known inner it its.inside (its.close ∷ rest) apart.1 (not_true (inner && begins_parameters known form.pieces) apart.0) full)
    (reads inner its.inside (its.close ∷ rest) apart.1 named (ap is_ender its.closed)) full)

-- ---- what follows a base

-- after a base, also one that is nothing
behind_base : (known : Known) (table : Shorter) (inner : Bool) (base : Directly) (front : List SourceToken) (opening : SourceToken) (more : List SourceToken)
    → ReadsDirect known table base → IsOf (direct_form known inner base) front → (inner || names base) ≡ true → name_of opening ≡ None
    → (is_punctuator (codes "(") opening && not (begins_list known more)) ≡ false
    → directly known table inner (front ++ (opening ∷ more)) ≡ directs_rule table base (opening ∷ more)
behind_base known table inner base (source ∷ front) opening more reads fits named unnamed no_parens = reads inner source front (opening ∷ more) fits named
behind_base known table inner base [] opening more reads fits named unnamed no_parens =
    let nothing = nothing_is known inner base fits.1 in
    let is_inner : inner ≡ true = sym (or_false inner) ∙ ap (λ it. inner || names it) (sym nothing) ∙ named in
    ap (λ it. directly known table it (opening ∷ more)) is_inner
    ∙ then_directs known table true (opening ∷ more) tree.nothing (opening ∷ more)
    (ap (λ name. base_by known table true name opening more) unnamed
    ∙ ap (λ test. if test then inside_rule table true more else nothing_there true (opening ∷ more)) no_parens)
    ∙ ap (λ it. directs_rule table it (opening ∷ more)) (sym nothing)
  where
    or_false : (it : Bool) → (it || false) ≡ it
    or_false true = refl
    or_false false = refl

-- after a `(` that begins a list there is no declarator in parentheses
list_no_parens : (known : Known) (opening : SourceToken) (tokens : List SourceToken) → begins_list known tokens ≡ true
    → (is_punctuator (codes "(") opening && not (begins_list known tokens)) ≡ false
list_no_parens known opening tokens begins = rw begins (and_false (is_punctuator (codes "(") opening))
  where
    and_false : (it : Bool) → (it && false) ≡ false
    and_false true = refl
    and_false false = refl

-- a length, and what follows it
after_length : {known : Known} {table : Shorter} → Whole known table → (base it : Directly) (opening : SourceToken) (more rest : List SourceToken)
    → opening ≡ with_text Punctuator (codes "[") opening → length_rule table base more ≡ Some (it, rest)
    → directs_rule table base (opening ∷ more) ≡ directs_rule table it rest
after_length {known = known} {table = table} whole base it opening more rest opens reads =
    ap (λ (first : SourceToken). directs_rule table base (first ∷ more)) opens
    ∙ ap (λ found. found >>= (λ it. table (goal.directs it.0) it.1)) reads ∙ whole.plain (goal.directs it) rest

-- a list, and what follows it
after_list : {known : Known} {table : Shorter} → Whole known table → (base it : Directly) (opening : SourceToken) (more rest : List SourceToken)
    → opening ≡ with_text Punctuator (codes "(") opening → list_rule table base more ≡ Some (it, rest)
    → directs_rule table base (opening ∷ more) ≡ directs_rule table it rest
after_list {known = known} {table = table} whole base it opening more rest opens reads =
    ap (λ (first : SourceToken). directs_rule table base (first ∷ more)) opens
    ∙ ap (λ found. found >>= (λ it. table (goal.directs it.0) it.1)) reads ∙ whole.plain (goal.directs it) rest

-- a base with a length after it
length_behind : {known : Known} {table : Shorter} → Whole known table
    → (inner : Bool) (base it : Directly) (opening : SourceToken) (tokens front more rest : List SourceToken)
    → ReadsDirect known table base → IsOf (direct_form known inner base) front → (inner || names base) ≡ true → tokens ≡ front ++ (opening ∷ more)
    → opening ≡ with_text Punctuator (codes "[") opening → length_rule table base more ≡ Some (it, rest)
    → directly known table inner tokens ≡ directs_rule table it rest
length_behind {known = known} {table = table} whole inner base it opening tokens front more rest reads fits named same opens length' =
    ap (directly known table inner) same
    ∙ behind_base known table inner base front opening more reads fits named (ap name_of opens)
    (ap (λ it. is_punctuator (codes "(") it && not (begins_list known more)) opens)
    ∙ after_length whole base it opening more rest opens length'

-- a base with a list after it
list_behind : {known : Known} {table : Shorter} → Whole known table
    → (inner : Bool) (base it : Directly) (opening : SourceToken) (tokens front more rest : List SourceToken)
    → ReadsDirect known table base → IsOf (direct_form known inner base) front → (inner || names base) ≡ true → tokens ≡ front ++ (opening ∷ more)
    → opening ≡ with_text Punctuator (codes "(") opening
    → (list_rule table base more ≡ Some (it, rest)) × (begins_list known more ≡ true)
    → directly known table inner tokens ≡ directs_rule table it rest
list_behind {known = known} {table = table} whole inner base it opening tokens front more rest reads fits named same opens list =
    ap (directly known table inner) same
    ∙ behind_base known table inner base front opening more reads fits named (ap name_of opens) (list_no_parens known opening more list.1)
    ∙ after_list whole base it opening more rest opens list.0

-- no length is read
array_reads : (table : Shorter) (base : Directly) (close : SourceToken) (rest : List SourceToken) → close ≡ with_text Punctuator (codes "]") close
    → length_rule table base (close ∷ rest) ≡ Some (tree.array base, rest)
array_reads table base close rest closed =
    ap (λ found. going_on found (λ close others. Some (tree.array base, others))
    (table goal.conditional (close ∷ rest) >>= closing (tree.sized_array base) (codes "]")))
    (mark_reads (codes "]") close rest closed)

-- an array without a length
pub array_all : {known : Known} {table : Shorter} → Whole known table → (base : Directly) → ReadsDirect known table base
    → ReadsDirect known table (tree.array base)
array_all {known = known} {table = table} whole base reads inner source front rest fits named =
    let its = enclosed (direct_form known inner base) (codes "[") (codes "]") None nothing_at_all (source ∷ front) fits in
    let none = no_tokens its.inside its.fits in
    length_behind whole inner base (tree.array base) its.opening (source ∷ (front ++ rest)) its.front (its.close ∷ rest) rest reads its.first named
    (its.whole rest ∙ ap (λ inside. its.front ++ (its.opening ∷ (inside ++ (its.close ∷ rest)))) none) its.opens
    (array_reads table base its.close rest its.closed)
  where
    no_tokens : (inside : List SourceToken) → IsOf nothing_at_all inside → inside ≡ []
    no_tokens [] fits = refl
    no_tokens (source ∷ inside) fits = absurd fits.1

-- an expression does not begin with a `]`
no_bracket : (known : Known) (table : Shorter) (tokens : List SourceToken) {rest : List SourceToken} → Longer (expression_rule known table tokens) rest
    → is_mark_ahead (codes "]") tokens ≡ false
no_bracket known table [] longer = refl
no_bracket known table (source ∷ others) longer =
    elim (cases_Bool (is_punctuator (codes "]") source)) [
      | inl is ↦
          let none : expression_rule known table (source ∷ others) ≡ None =
          ap (λ (it : SourceToken). expression_rule known table (it ∷ others)) (token_is Punctuator (codes "]") source is) in
          let nothing : Read Expression = None in
          let wrong : nothing ≡ Some (longer.it, longer.left) = sym none ∙ longer.is in
          absurd cc
      | inr is ↦ is
    ]

-- a length is read
length_reads : {known : Known} {table : Shorter} → Whole known table → (base : Directly) (e : Expression) (close : SourceToken) (tokens rest : List SourceToken)
    → close ≡ with_text Punctuator (codes "]") close → 2 ≤ rank e → AllRead known table e tokens (close ∷ rest)
    → length_rule table base tokens ≡ Some (tree.sized_array base e, rest)
length_reads {known = known} {table = table} whole base e close tokens rest is_close low all =
    let stopped : stops 2 (close ∷ rest) ≡ true = ap (λ it. is_below 2 (joins it)) is_close in
    ap (λ found. going_on found (λ close others. Some (tree.array base, others))
    (table goal.conditional tokens >>= closing (tree.sized_array base) (codes "]")))
    (mark_missing (codes "]") tokens (no_bracket known table tokens all.expression.longer))
    ∙ closes (table goal.conditional tokens) e (codes "]") close rest (tree.sized_array base)
    (whole.plain goal.conditional tokens ∙ (all.conditional low).exact stopped) is_close

-- an array with a length
pub sized_array_all : {known : Known} {table : Shorter} → Whole known table → (base : Directly) (e : Expression) → ReadsDirect known table base
    → ReadsAll known table e
    → ReadsDirect known table (tree.sized_array base e)
sized_array_all {known = known} {table = table} whole base e reads others inner source front rest fits named =
    let its = enclosed (direct_form known inner base) (codes "[") (codes "]") None (as_conditional e (expression_form known e)) (source ∷ front) fits in
    let low = ranked 2 e (expression_form known e) its.inside its.fits in
    length_behind whole inner base (tree.sized_array base e) its.opening (source ∷ (front ++ rest)) its.front
    (its.inside ++ (its.close ∷ rest)) rest reads its.first
    named (its.whole rest) its.opens
    (length_reads whole base e its.close (its.inside ++ (its.close ∷ rest)) rest its.closed low.0 (others its.inside (its.close ∷ rest) low.1))

-- ---- lists of parameters

-- what is read if no `)` stands there, nor `void` alone
abbrev parameters_inside : Shorter → Directly → List SourceToken → Read Directly
parameters_inside table base tokens = table (goal.parameters []) tokens >>= closing (λ its. tree.function base (parameters_from its)) (codes ")")

-- the same with what stands there
abbrev list_by : Shorter → Directly → List SourceToken → Read Place → Read Place → Read Directly
list_by table base tokens close void =
    going_on close (λ close others. Some (tree.function base tree.no_parameters, others))
    (going_on void (λ void others. Some (tree.function_of_void base void, others)) (parameters_inside table base tokens))

-- a list is read, and it begins as one
list_reads : {known : Known} {table : Shorter} → Whole known table → (base : Directly) (its : Parameters) (close : SourceToken) (inside rest : List SourceToken)
    → ReadsParameters known table its → IsOf (when (not (is_void_alone its)) (parameters_form known its)) inside → close
    ≡ with_text Punctuator (codes ")") close
    → (list_rule table base (inside ++ (close ∷ rest)) ≡ Some (tree.function base its, rest)) × (begins_list known (inside ++ (close ∷ rest)) ≡ true)
list_reads {known = known} {table = table} whole base tree.no_parameters close (source ∷ inside) rest reads fits closed = absurd fits.1
list_reads {known = known} {table = table} whole base tree.no_parameters close [] rest reads fits closed =
    let is_close : is_punctuator (codes ")") close ≡ true = ap (is_punctuator (codes ")")) closed in (
      ap (λ found. list_by table base (close ∷ rest) found (void_alone (close ∷ rest))) (mark_reads (codes ")") close rest closed),
      ap (λ it. it || is_ahead (begins_specifier known false) (close ∷ rest)) is_close,
    )
list_reads {known = known} {table = table} whole base (tree.more_parameters specification declared others) close inside rest reads fits closed =
    let its : Parameters = tree.more_parameters specification declared others in
    let tokens : List SourceToken = inside ++ (close ∷ rest) in
    let parts = when_parts (not (is_void_alone its)) (parameters_form known its) inside fits in
    let read = reads [] inside (close ∷ rest) refl parts.1 (ap (is_punctuator (codes ")")) closed) in (
      ap (λ found. list_by table base tokens found (void_alone tokens))
          (mark_missing (codes ")") tokens (specifier_no_mark known false (codes ")") tokens read.1))
          ∙ ap (λ found. list_by table base tokens None found)
          (void_missing known its inside (close ∷ rest) refl parts.1 (not_true (is_void_alone its) parts.0))
          ∙ closes (table (goal.parameters []) tokens) (parameters_in its) (codes ")") close rest (λ its. tree.function base (parameters_from its))
          (whole.plain (goal.parameters []) tokens ∙ read.0) closed
          ∙ ap (λ its. Some (tree.function base its, rest)) (parameters_again its),
      or_true (is_mark_ahead (codes ")") tokens) (is_ahead (begins_specifier known false) tokens) read.1,
    )

-- a function
pub function_all : {known : Known} {table : Shorter} → Whole known table → (base : Directly) (its : Parameters) → ReadsDirect known table base
    → ReadsParameters known table its → ReadsDirect known table (tree.function base its)
function_all {known = known} {table = table} whole base its reads others inner source front rest fits named =
    let list = enclosed (direct_form known inner base) (codes "(") (codes ")") None (when (not (is_void_alone its)) (parameters_form known its))
    (source ∷ front) fits in
    list_behind whole inner base (tree.function base its) list.opening (source ∷ (front ++ rest)) list.front
    (list.inside ++ (list.close ∷ rest)) rest reads list.first
    named (list.whole rest) list.opens (list_reads whole base its list.close list.inside rest others list.fits list.closed)

-- `void` alone is read, and it begins a list
void_reads : (known : Known) (table : Shorter) (base : Directly) (at : Place) (void close : SourceToken) (rest : List SourceToken)
    → void ≡ with_text Identifier (codes "void") void → place_of void ≡ at → close ≡ with_text Punctuator (codes ")") close
    → (list_rule table base (void ∷ close ∷ rest) ≡ Some (tree.function_of_void base at, rest)) × (begins_list known (void ∷ close ∷ rest) ≡ true)
unfolding specifier_words
void_reads known table base at void close rest is place closed =
    let tokens : List SourceToken = void ∷ close ∷ rest in
    let behind : Place × List SourceToken → Read Place = λ close. Some (place_of void, close.1) in
    let no_close : mark_at (codes ")") tokens ≡ None = ap (λ (first : SourceToken). mark_at (codes ")") (first ∷ close ∷ rest)) is in
    let alone : void_alone tokens ≡ Some (place_of void, rest) =
    ap (λ (first : SourceToken). void_alone (first ∷ close ∷ rest)) is ∙ ap (λ found. found >>= behind) (mark_reads (codes ")") close rest closed) in (
      (λ i. list_by table base tokens (no_close i) (alone i)) ∙ ap (λ place. Some (tree.function_of_void base place, rest)) place,
      ap (λ (first : SourceToken). begins_list known (first ∷ close ∷ rest)) is,
    )

-- a function of `void` alone
pub function_of_void_all : {known : Known} {table : Shorter} → Whole known table → (base : Directly) (at : Place) → ReadsDirect known table base
    → ReadsDirect known table (tree.function_of_void base at)
function_of_void_all {known = known} {table = table} whole base at reads inner source front rest fits named =
    let list = enclosed (direct_form known inner base) (codes "(") (codes ")") None (keyword_at at (codes "void")) (source ∷ front) fits in
    let one = one_token Identifier (codes "void") (Some at) list.inside list.fits in
    list_behind whole inner base (tree.function_of_void base at) list.opening (source ∷ (front ++ rest)) list.front
    (one.source ∷ list.close ∷ rest) rest reads list.first
    named (list.whole rest ∙ ap (λ inside. list.front ++ (list.opening ∷ (inside ++ (list.close ∷ rest)))) one.alone) list.opens
    (void_reads known table base at one.source list.close rest one.is one.at list.closed)

-- ---- pointers, and what follows them

-- a pointer with others after it
with_first : (it : Pointer) (its : List Pointer) (source : SourceToken) (front rest : List SourceToken) → pointer_of source ≡ Some it
    → pointers_at (front ++ rest) ≡ (its, rest) → pointers_at (source ∷ (front ++ rest)) ≡ (it ∷ its, rest)
with_first it its source front rest is others = λ i. with_pointer (is i) source (front ++ rest) (others i)

-- a dropped word is one
dropped_pointer : (it : Dropped) (source : SourceToken) → pointer_of (with_text Identifier (dropped_text it) source)
    ≡ Some (pointer.Dropped it (place_of source))
dropped_pointer dropped.Auto source = refl
dropped_pointer dropped.Register source = refl
dropped_pointer dropped.Const source = refl
dropped_pointer dropped.Volatile source = refl
dropped_pointer dropped.Pascal source = refl

-- pointers in front
pointers_reads : (its : List Pointer) (front rest : List SourceToken) → IsOf (pointers_form its) front → pointers_at rest ≡ ([], rest)
    → pointers_at (front ++ rest) ≡ (its, rest)
pointers_reads [] [] rest fits stop = stop
pointers_reads [] (source ∷ front) rest fits stop = absurd fits.1
pointers_reads (pointer.Star at ∷ its) front rest fits stop =
    let parts = headed Punctuator (codes "*") (Some at) (pointers_form its) front fits in
    ap pointers_at (parts.whole rest)
    ∙ with_first (pointer.Star at) its parts.source parts.others rest (ap pointer_of parts.is ∙ ap (λ place. Some (pointer.Star place)) parts.at)
    (pointers_reads its parts.others rest parts.fits stop)
pointers_reads (pointer.Dropped it at ∷ its) front rest fits stop =
    let parts = headed Identifier (dropped_text it) (Some at) (pointers_form its) front fits in
    ap pointers_at (parts.whole rest)
    ∙ with_first (pointer.Dropped it at) its parts.source parts.others rest
    (ap pointer_of parts.is ∙ dropped_pointer it parts.source ∙ ap (λ place. Some (pointer.Dropped it place)) parts.at)
    (pointers_reads its parts.others rest parts.fits stop)

-- a declarator without more after it
directs_stop : (table : Shorter) (base : Directly) (tokens : List SourceToken) → ended tokens ≡ true → directs_rule table base tokens ≡ Some (base, tokens)
directs_stop table base [] ends = refl
directs_stop table base (source ∷ rest) ends = rw (ender_no_mark (codes "[") source refl ends) (rw (ender_no_mark (codes "(") source refl ends) refl)

-- what follows the pointers is read
direct_reads : (known : Known) (table : Shorter) (inner : Bool) (direct : Directly) (front rest : List SourceToken) → ReadsDirect known table direct
    → IsOf (direct_form known inner direct) front → (inner || names direct) ≡ true → ended rest ≡ true → directly known table inner (front ++ rest)
    ≡ Some (direct, rest)
direct_reads known table inner direct (source ∷ front) rest reads fits named ends = reads inner source front rest fits named
    ∙ directs_stop table direct rest ends
direct_reads known table inner direct [] rest reads fits named ends =
    let nothing = nothing_is known inner direct fits.1 in
    let is_inner : inner ≡ true = sym (or_false inner) ∙ ap (λ it. inner || names it) (sym nothing) ∙ named in
    ap (λ it. directly known table it rest) is_inner ∙ no_more rest ends ∙ ap (λ it. Some (it, rest)) (sym nothing)
  where
    or_false : (it : Bool) → (it || false) ≡ it
    or_false true = refl
    or_false false = refl

    no_more : (tokens : List SourceToken) → ended tokens ≡ true → directly known table true tokens ≡ Some (tree.nothing, tokens)
    no_more [] is = refl
    no_more (source ∷ others) is =
        then_directs known table true (source ∷ others) tree.nothing (source ∷ others)
        (ap (λ name. base_by known table true name source others) (ender_no_name source is) ∙ rw (ender_no_mark (codes "(") source refl is) refl)
        ∙ directs_stop table tree.nothing (source ∷ others) is

-- pointers and what follows them
abbrev point : List Pointer → Directly × List SourceToken → Read Declared
point pointers direct = Some (tree.pointing pointers direct.0, direct.1)

-- the same after what they stand before
abbrev pointed : Shorter → List Pointer → Directly × List SourceToken → Read Declared
pointed table pointers base = do
  direct ← directs_rule table base.0 base.1
  point pointers direct

-- what is read after what is read
regrouped : (read : Read Directly) (more : Directly × List SourceToken → Read Directly) (pointers : List Pointer)
    → (read >>= (λ base. more base >>= point pointers)) ≡ ((read >>= more) >>= point pointers)
regrouped None more pointers = refl
regrouped (Some base) more pointers = refl

-- a declarator is what is read after its pointers
pointing_by : (known : Known) (table : Shorter) (inner : Bool) (pointers : List Pointer) (direct : Directly) (tokens more rest : List SourceToken)
    → pointers_at tokens ≡ (pointers, more) → directly known table inner more ≡ Some (direct, rest)
    → declarator_rule known table inner tokens ≡ Some (tree.pointing pointers direct, rest)
pointing_by known table inner pointers direct tokens more rest found reads =
    ap (λ its. base_rule known table inner its.1 >>= pointed table its.0) found
    ∙ regrouped (base_rule known table inner more) (λ base. directs_rule table base.0 base.1) pointers
    ∙ ap (λ read. read >>= point pointers) reads

-- with pointers
pub pointing_all : {known : Known} {table : Shorter} → Whole known table → (pointers : List Pointer) (direct : Directly) → ReadsDirect known table direct
    → ReadsDeclarator known table (tree.pointing pointers direct)
pointing_all {known = known} {table = table} whole pointers direct reads inner front rest fits named ends =
    let parts = behind (pointers_form pointers) (direct_form known inner direct) front fits in
    ap (declarator_rule known table inner) (parts.whole rest)
    ∙ pointing_by known table inner pointers direct (parts.front ++ (parts.back ++ rest)) (parts.back ++ rest) rest
    (pointers_reads pointers parts.front (parts.back ++ rest) parts.first
    (pointers_stop (direct_form known inner direct).pieces parts.back rest (direct_opens known inner direct parts.second.0) parts.second.1 ends))
    (direct_reads known table inner direct parts.back rest reads parts.second named ends)

-- ---- lists of declarators

-- none are not read
pub no_declarators_all : {known : Known} {table : Shorter} → Whole known table → ReadsDeclarators known table tree.no_declarators
no_declarators_all whole earlier front rest has fits ends = absurd cc

-- what is read after a comma
abbrev declarators_on : Shorter → List Declared → List SourceToken → Read (List Declared)
declarators_on table earlier tokens = table (goal.declarators earlier) tokens

-- one more in front
pub more_declarators_all : {known : Known} {table : Shorter} → Whole known table → (it : Declared) (rest : Declarators) → ReadsDeclarator known table it
    → ReadsDeclarators known table rest → ReadsDeclarators known table (tree.more_declarators it rest)
more_declarators_all {known = known} {table = table} whole it its reads others earlier front rest has fits ends =
    let parts = behind (when (is_named it) (declarator_form known false it)) (behind_comma (has_declarators its) (declarators_form known its)) front fits in
    let named = when_parts (is_named it) (declarator_form known false it) parts.front parts.first in
    ap (declarators_rule known table earlier) (parts.whole rest) ∙ on its others parts.front parts.back named.0 named.1 parts.second
  where
    on : (its : Declarators) → ReadsDeclarators known table its → (one two : List SourceToken) → is_named it ≡ true → IsOf (declarator_form known false it) one
        → IsOf (behind_comma (has_declarators its) (declarators_form known its)) two
        → declarators_rule known table earlier (one ++ (two ++ rest)) ≡ Some (earlier ++ it ∷ declarators_in its, rest)
    on tree.no_declarators others one (source ∷ two) named first second = absurd second.1
    on tree.no_declarators others one [] named first second =
        entries_end (declarators_on table) (declarator_rule known table false (one ++ rest)) earlier it rest
        (reads false one rest first named (mark_ender (codes ";") rest refl ends)) (mark_no_mark (codes ";") (codes ",") rest refl ends)
    on (tree.more_declarators next its) others one two named first second =
        let after = after_comma (declarators_form known (tree.more_declarators next its)) two second in
        ap (λ tokens. declarators_rule known table earlier (one ++ tokens)) (after.whole rest)
        ∙ entries_more (declarators_on table) (declarator_rule known table false (one ++ (after.source ∷ (after.others ++ rest)))) earlier
        (declarators_in (tree.more_declarators next its)) it after.source (after.others ++ rest) rest
        (reads false one (after.source ∷ (after.others ++ rest)) first named (ap is_ender after.is)) after.is
        (whole.plain (goal.declarators (earlier ++ it ∷ [])) (after.others ++ rest) ∙ others (earlier ++ it ∷ []) after.others rest refl after.fits ends)
