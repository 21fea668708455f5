-- Arguments and calls are read (X3.159-1989 3.3.2.2).
--     listed its                     the entries of arguments
--     ReadsArguments                 arguments up to a `)` are read after earlier ones
--     no_arguments_all, more_arguments_all, call_all
use Rattle.std.proofs.Common.{◌≡◌, ◌≤◌, true, false, List, [], ◌∷◌, ◌++◌, Some, None, refl, ap, ◌∙◌, append_assoc, arith}
use Rattle.std.specs.Prelude.{codes}
use Rattle.std.proofs.lemmas.List.{append-nil}
use Rattle.hs_base.specs.Options.{◌>>=◌}
use Rattle.hs_tokens.specs.declared.token.SourceToken.{SourceToken}
use Rattle.hs_tokens.specs.declared.token.TokenKind.TheVariants.{Punctuator}
use Rattle.hs_syntax.specs.Forms.{◌⨾◌, mark, nothing_at_all, IsOf}
use Rattle.hs_syntax.specs.Grammar.{expression_form, arguments_form}
use Rattle.hs_syntax.specs.Phrases.{rank, as_assignment, as_postfix, has_expressions}
use Rattle.hs_syntax.specs.RowViews.{expressions_from}
use Rattle.hs_syntax.specs.Trees as tree
use Rattle.hs_syntax.specs.Trees.{Expression, Expressions}
use Rattle.hs_expr_parser.specs.Ahead.{place_of, is_punctuator, is_mark_ahead, mark_at, stops, is_below, joins}
use Rattle.hs_expr_parser.specs.Goals as goal
use Rattle.hs_expr_parser.specs.Recursion.{Read}
use Rattle.hs_expr_parser.specs.Reading.{Known, Shorter, going_on, suffix_rule, call_rule, arguments_rule}
use Rattle.hs_expr_parser.specs.Laws.Along.{Whole, stays}
use Rattle.hs_expr_parser.specs.Laws.Apart.{with_text, split, one_token}
use Rattle.hs_expr_parser.specs.Laws.Primaries.{ReadsAll, mark_reads, closes, behind, ranked, bracketed, suffix_all, not_closed}
use Rattle.hs_expr_parser.specs.Laws.Ranks.{AllRead, all_along}

-- the entries of arguments
abbrev pub listed : Expressions → List Expression
listed tree.no_expressions = []
listed (tree.more_expressions e rest) = e ∷ listed rest

pub listed_from : (its : Expressions) → expressions_from (listed its) ≡ its
listed_from tree.no_expressions = refl
listed_from (tree.more_expressions e rest) = ap (tree.more_expressions e) (listed_from rest)

-- they are read after earlier ones, up to a `)`, which does not begin them
abbrev pub ReadsArguments : Known → Shorter → Expressions → Type 0
ReadsArguments known table its =
    (earlier : List Expression) (front : List SourceToken) (close : SourceToken) (rest : List SourceToken) → has_expressions its ≡ true
    → IsOf (arguments_form known its) front → close ≡ with_text Punctuator (codes ")") close
    → (arguments_rule known table earlier (front ++ (close ∷ rest)) ≡ Some (earlier ++ listed its, close ∷ rest))
    × (is_mark_ahead (codes ")") (front ++ (close ∷ rest)) ≡ false)

pub no_arguments_all : (known : Known) (table : Shorter) → ReadsArguments known table tree.no_expressions
no_arguments_all known table earlier front close rest some fits is = absurd cc

-- no tokens
nothing_is : (sources : List SourceToken) → IsOf nothing_at_all sources → sources ≡ []
nothing_is [] fits = refl
nothing_is (source ∷ rest) fits = absurd fits.1

-- what follows an argument
abbrev following : Shorter → List Expression → Expression × List SourceToken → Read (List Expression)
following table earlier e =
    going_on (mark_at (codes ",") e.1) (λ comma rest. table (goal.arguments (earlier ++ e.0 ∷ [])) rest) (Some (earlier ++ e.0 ∷ [], e.1))

-- the last argument
last_all : {known : Known} {table : Shorter} → Whole known table → (e : Expression) → ReadsAll known table e
    → ReadsArguments known table (tree.more_expressions e tree.no_expressions)
last_all {known = known} {table = table} whole e reads earlier front close rest some fits is =
    let parts = split (as_assignment e (expression_form known e)) nothing_at_all front fits in
    let low = ranked 1 e (expression_form known e) parts.front parts.first in
    let same : front ++ (close ∷ rest) ≡ parts.front ++ (close ∷ rest) =
    ap (λ it. it ++ (close ∷ rest)) (parts.whole ∙ ap (λ it. parts.front ++ it) (nothing_is parts.back parts.second) ∙ append-nil parts.front) in
    let all = reads parts.front (close ∷ rest) low.1 in
    let stopped : stops 1 (close ∷ rest) ≡ true = ap (λ it. is_below 1 (joins it)) is in
    let none : mark_at (codes ",") (close ∷ rest) ≡ None = ap (λ (it : SourceToken). mark_at (codes ",") (it ∷ rest)) is in
    let read : arguments_rule known table earlier (parts.front ++ (close ∷ rest)) ≡ Some (earlier ++ e ∷ [], close ∷ rest) =
    ap (λ it. it >>= following table earlier) ((all.assignment low.0).exact stopped)
    ∙ stays (λ comma others. table (goal.arguments (earlier ++ e ∷ [])) others) (Some (earlier ++ e ∷ [], close ∷ rest)) none in
    (ap (arguments_rule known table earlier) same ∙ read, ap (is_mark_ahead (codes ")")) same ∙ not_closed all)

-- one argument and others
one_more_all : {known : Known} {table : Shorter} → Whole known table → (e next : Expression) (others : Expressions) → ReadsAll known table e
    → ReadsArguments known table (tree.more_expressions next others) → ReadsArguments known table (tree.more_expressions e (tree.more_expressions next others))
one_more_all {known = known} {table = table} whole e next others reads read_others earlier front close rest some fits is =
    let its = tree.more_expressions next others in
    let parts = behind (as_assignment e (expression_form known e)) (mark (codes ",") ⨾ arguments_form known its) front fits in
    let low = ranked 1 e (expression_form known e) parts.front parts.first in
    let back = split (mark (codes ",")) (arguments_form known its) parts.back parts.second in
    let comma = one_token Punctuator (codes ",") None back.front back.first in
    let tail : List SourceToken = back.back ++ (close ∷ rest) in
    let same : front ++ (close ∷ rest) ≡ parts.front ++ (comma.source ∷ tail) =
    parts.whole (close ∷ rest) ∙ ap (λ it. parts.front ++ (it ++ (close ∷ rest))) (back.whole ∙ ap (λ it. it ++ back.back) comma.alone) in
    let all = reads parts.front (comma.source ∷ tail) low.1 in
    let stopped : stops 1 (comma.source ∷ tail) ≡ true = ap (λ it. is_below 1 (joins it)) comma.is in
    let found : mark_at (codes ",") (comma.source ∷ tail) ≡ Some (place_of comma.source, tail) = mark_reads (codes ",") comma.source tail comma.is in
    let others_read = read_others (earlier ++ e ∷ []) back.back close rest refl back.second is in
    let read : arguments_rule known table earlier (parts.front ++ (comma.source ∷ tail)) ≡ Some (earlier ++ (e ∷ listed its), close ∷ rest) =
    ap (λ it. it >>= following table earlier) ((all.assignment low.0).exact stopped)
    ∙ ap (λ it. going_on it (λ comma others. table (goal.arguments (earlier ++ e ∷ [])) others) (Some (earlier ++ e ∷ [], comma.source ∷ tail))) found
    ∙ whole.plain (goal.arguments (earlier ++ e ∷ [])) tail ∙ others_read.0
    ∙ ap (λ it. Some (it, close ∷ rest)) (append_assoc earlier (e ∷ []) (listed its)) in
    (ap (arguments_rule known table earlier) same ∙ read, ap (is_mark_ahead (codes ")")) same ∙ not_closed all)

pub more_arguments_all : {known : Known} {table : Shorter} → Whole known table → (e : Expression) (others : Expressions) → ReadsAll known table e
    → ReadsArguments known table others → ReadsArguments known table (tree.more_expressions e others)
more_arguments_all whole e tree.no_expressions reads others = last_all whole e reads
more_arguments_all whole e (tree.more_expressions next rest) reads others = one_more_all whole e next rest reads others

-- what follows the arguments
abbrev called : Expression → List Expression → Expression
called base its = tree.call base (expressions_from its)

-- a call
call_by : {known : Known} {table : Shorter} → Whole known table
    → (base : Expression) (its : Expressions) (opening close : SourceToken) (tokens inside rest : List SourceToken)
    → opening ≡ with_text Punctuator (codes "(") opening → close ≡ with_text Punctuator (codes ")") close → 15 ≤ rank base
    → AllRead known table base tokens (opening ∷ (inside ++ (close ∷ rest))) → IsOf (arguments_form known its) inside → ReadsArguments known table its
    → AllRead known table (tree.call base its) tokens rest
call_by {known = known} {table = table} whole base its opening close tokens inside rest opens is_close low all fits reads =
    suffix_all whole base (tree.call base its) tokens (opening ∷ (inside ++ (close ∷ rest))) rest low (omega arith) refl all
    (ap (λ it. is_below 16 (joins it)) opens)
    (ap (λ (it : SourceToken). suffix_rule table base (it ∷ (inside ++ (close ∷ rest)))) opens ∙ read its fits reads)
  where
    read : (its : Expressions) → IsOf (arguments_form known its) inside → ReadsArguments known table its
        → call_rule table base (inside ++ (close ∷ rest)) ≡ Some (tree.call base its, rest)
    read tree.no_expressions fits reads =
        let same : inside ++ (close ∷ rest) ≡ close ∷ rest = ap (λ it. it ++ (close ∷ rest)) (nothing_is inside fits) in
        let ahead : is_mark_ahead (codes ")") (close ∷ rest) ≡ true = ap (is_punctuator (codes ")")) is_close in
        let nothing : Read (List Expression) = Some ([], close ∷ rest) in
        ap (call_rule table base) same ∙ rw ahead (closes nothing [] (codes ")") close rest (called base) refl is_close)
    read (tree.more_expressions e others) fits reads =
        let found = reads [] inside close rest refl fits is_close in
        let found_read : table (goal.arguments []) (inside ++ (close ∷ rest)) ≡ Some (listed (tree.more_expressions e others), close ∷ rest) =
        whole.plain (goal.arguments []) (inside ++ (close ∷ rest)) ∙ found.0 in
        rw (found.1) (closes (table (goal.arguments []) (inside ++ (close ∷ rest))) (listed (tree.more_expressions e others)) (codes ")") close rest
        (called base)
        found_read is_close
        ∙ ap (λ it. Some (tree.call base it, rest)) (listed_from (tree.more_expressions e others)))

pub call_all : {known : Known} {table : Shorter} → Whole known table → (base : Expression) (its : Expressions)
    → ReadsAll known table base → ReadsArguments known table its → ReadsAll known table (tree.call base its)
call_all {known = known} {table = table} whole base its reads others front rest fits =
    let parts = behind (as_postfix base (expression_form known base)) (mark (codes "(") ⨾ arguments_form known its ⨾ mark (codes ")")) front fits in
    let low = ranked 15 base (expression_form known base) parts.front parts.first in
    let inner = bracketed (codes "(") (codes ")") None (arguments_form known its) parts.back parts.second in
    let same : front ++ rest ≡ parts.front ++ (inner.opening ∷ (inner.inside ++ (inner.close ∷ rest))) =
    parts.whole rest ∙ ap (λ it. parts.front ++ it) (inner.whole rest) in
    all_along same (call_by whole base its inner.opening inner.close (parts.front ++ (inner.opening ∷ (inner.inside ++ (inner.close ∷ rest)))) inner.inside rest
    inner.opens inner.closed low.0 (reads parts.front (inner.opening ∷ (inner.inside ++ (inner.close ∷ rest))) low.1) inner.fits others)
