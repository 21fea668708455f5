-- Unary expressions and casts are read (X3.159-1989 3.3.3, 3.3.4).
--     prefix_all, sizeof_value_all, sizeof_type_all, cast_all
use Rattle.std.proofs.Common.{◌≡◌, ℕ, ◌≤◌, Bool, true, false, List, [], ◌∷◌, ◌++◌, Option, Some, None, refl, ap, sym, ◌∙◌, subst, append_assoc, inl, inr, arith}
use Rattle.std.specs.Prelude.{◌&&◌, codes}
use Rattle.std.proofs.lemmas.Bool.{cases_Bool}
use Rattle.std.proofs.lemmas.Bool.Decides.{nat_tests}
use Rattle.hs_base.specs.Options.{◌>>=◌}
use Rattle.hs_tokens.specs.Marks.{is_same_kind}
use Rattle.hs_tokens.specs.declared.token.SourceToken.{SourceToken}
use Rattle.hs_tokens.specs.declared.token.TokenKind.TheVariants.{Identifier, Literal, Punctuator}
use Rattle.hs_syntax.specs.Forms.{◌⨾◌, mark, mark_at as mark_form, keyword_at, IsOf}
use Rattle.hs_syntax.specs.Grammar.{expression_form, type_form}
use Rattle.hs_syntax.specs.Operators.{prefix_text}
use Rattle.hs_syntax.specs.Names.{is_among, keywords}
use Rattle.hs_syntax.specs.Parts.{as_prefixed}
use Rattle.hs_syntax.specs.Phrases.{rank, as_cast, as_unary, specifier_words}
use Rattle.hs_syntax.specs.Trees as tree
use Rattle.hs_syntax.specs.Trees.{Expression, NamedType}
use Rattle.hs_syntax.specs.declared.operators.AssignOperator.{AssignOperator}
use Rattle.hs_syntax.specs.declared.operators.BinaryOperator.{BinaryOperator}
use Rattle.hs_syntax.specs.declared.operators.PrefixOperator.{PrefixOperator}
use Rattle.hs_syntax.specs.declared.operators.PrefixOperator.TheVariants.{Increment, Decrement, Address, Dereference, Plus, Minus, Complement, Not}
use Rattle.hs_tokens.specs.declared.place.Place.{Place}
use Rattle.hs_expr_parser.specs.Ahead.{place_of, is_punctuator, is_mark_ahead, is_ahead, binary_of, assign_of, postfix_marks, joins_by, stops, is_below, joins, begins_type, begins_specifier}
use Rattle.hs_expr_parser.specs.Goals as goal
use Rattle.hs_expr_parser.specs.Recursion.{Read}
use Rattle.hs_expr_parser.specs.Reading.{Known, Shorter, operand_at, type_in_parens, sizeof_rule, unary_rule, cast_rule}
use Rattle.hs_expr_parser.specs.Laws.Along.{Whole, Reads, reads_along}
use Rattle.hs_expr_parser.specs.Laws.Apart.{with_text, split, one_token}
use Rattle.hs_expr_parser.specs.Expected.{ReadsType}
use Rattle.hs_expr_parser.specs.Laws.Primaries.{ReadsAll, mark_reads, closing, closes, ranked, bracketed, behind}
use Rattle.hs_expr_parser.specs.Laws.Ranks.{AllRead, precedence_most, unary_all, cast_all as from_cast, all_along, tightest}
use Rattle.hs_expr_parser.specs.Laws.Stopping.{looser}

-- what is made of an expression that is read
abbrev pub wrapped : (Expression → Expression) → Expression × List SourceToken → Read Expression
wrapped wrap e = Some (wrap e.0, e.1)

-- it is read as its operand is
pub wrapped_reads : (read : Read Expression) (wrap : Expression → Expression) (e : Expression) (rest : List SourceToken) (condition : Bool)
    → Reads read e rest condition → Reads (read >>= wrapped wrap) (wrap e) rest condition
wrapped_reads read wrap e rest condition reads =
    let longer = reads.longer in
    record {
      longer = record { it = wrap longer.it; left = longer.left; is = ap (λ it. it >>= wrapped wrap) longer.is; less = longer.less };
      exact = λ stopped. ap (λ it. it >>= wrapped wrap) (reads.exact stopped);
    }

-- a reading that stops sooner
pub sooner : {A : Type 0} {read : Read A} {it : A} {rest : List SourceToken} (one other : ℕ) → one ≤ other
    → Reads read it rest (stops other rest) → Reads read it rest (stops one rest)
sooner {rest = rest} one other less reads = record { longer = reads.longer; exact = λ is. reads.exact (looser one other rest less is) }

-- ---- prefix operators

prefix_by : {known : Known} {table : Shorter} → Whole known table
    → (operator : PrefixOperator) (e : Expression) (source : SourceToken) (tokens rest : List SourceToken)
    → source ≡ with_text Punctuator (prefix_text operator) source
    → Reads (operand_at table operator tokens) e rest (stops 14 rest) → AllRead known table (tree.prefix operator (place_of source) e) (source ∷ tokens) rest
prefix_by {known = known} {table = table} whole operator e source tokens rest is reads =
    unary_all whole (tree.prefix operator (place_of source) e) (source ∷ tokens) rest (omega arith) refl
    (ap (begins_specifier known false) is)
    (ap (λ (first : SourceToken). begins_type known (first ∷ tokens)) is ∙ no_type operator source)
    (λ tight. absurd (omega (arith, tight)))
    (λ tight stopped. absurd (omega (arith, tight)))
    (reads_along (ap (λ (first : SourceToken). unary_rule known table (first ∷ tokens)) is ∙ found operator source)
    (wrapped_reads (operand_at table operator tokens) (tree.prefix operator (place_of source)) e rest (stops 14 rest) reads))
  where
    no_type : (operator : PrefixOperator) (source : SourceToken) → begins_type known (with_text Punctuator (prefix_text operator) source ∷ tokens) ≡ false
    no_type Increment source = refl
    no_type Decrement source = refl
    no_type Address source = refl
    no_type Dereference source = refl
    no_type Plus source = refl
    no_type Minus source = refl
    no_type Complement source = refl
    no_type Not source = refl

    found : (operator : PrefixOperator) (source : SourceToken) → unary_rule known table (with_text Punctuator (prefix_text operator) source ∷ tokens)
        ≡ (operand_at table operator tokens >>= wrapped (tree.prefix operator (place_of source)))
    found Increment source = refl
    found Decrement source = refl
    found Address source = refl
    found Dereference source = refl
    found Plus source = refl
    found Minus source = refl
    found Complement source = refl
    found Not source = refl

-- what `++` and `--` are put before is unary
unary_operand : {known : Known} {table : Shorter} → Whole known table → (e : Expression) (front rest : List SourceToken) → ReadsAll known table e
    → IsOf (as_unary e (expression_form known e)) front → Reads (table goal.unary (front ++ rest)) e rest (stops 14 rest)
unary_operand {known = known} whole e front rest reads fits =
    let low = ranked 14 e (expression_form known e) front fits in
    reads_along (whole.plain goal.unary (front ++ rest)) ((reads front rest low.1).unary low.0)

-- what the others are put before may be a cast
cast_operand : {known : Known} {table : Shorter} → Whole known table → (e : Expression) (front rest : List SourceToken) → ReadsAll known table e
    → IsOf (as_cast e (expression_form known e)) front → Reads (table goal.cast (front ++ rest)) e rest (stops 13 rest)
cast_operand {known = known} whole e front rest reads fits =
    let low = ranked 13 e (expression_form known e) front fits in
    reads_along (whole.plain goal.cast (front ++ rest)) ((reads front rest low.1).cast low.0)

-- what stops before a unary expression stops before a cast: nothing joins at 13
joins_apart : (among : Bool) (found : Option BinaryOperator) (assigned : Option AssignOperator) (source : SourceToken)
    → is_below 14 (joins_by among found assigned source) ≡ true → is_below 13 (joins_by among found assigned source) ≡ true
joins_apart true found assigned source is = absurd cc
joins_apart false (Some it) assigned source is =
    let most = precedence_most it in
    grind (arith, nat_tests)
joins_apart false None (Some it) source is = refl
joins_apart false None None source is =
    elim (cases_Bool (is_punctuator (codes "?") source)) [
      | inl query ↦ rw query refl
      | inr other ↦ rw other (
          elim (cases_Bool (is_punctuator (codes ",") source)) [
            | inl comma ↦ rw comma refl
            | inr none ↦ rw none refl
          ])
    ]

-- the same of a token
apart_at : (source : SourceToken) → is_below 14 (joins source) ≡ true → is_below 13 (joins source) ≡ true
apart_at source is =
    elim (cases_Bool (is_same_kind source.token.kind Literal)) [
      | inl literal ↦
          let wrong : false ≡ true = sym (rw literal refl) ∙ is in
          absurd cc
      | inr other ↦
          elim (cases_Bool (is_same_kind source.token.kind Punctuator)) [
            | inl mark ↦
                let joined : joins source ≡ joins_by (is_among postfix_marks source.token.text) (binary_of source) (assign_of source) source =
                rw other (rw mark refl) in
                ap (is_below 13) joined
                ∙ joins_apart (is_among postfix_marks source.token.text) (binary_of source) (assign_of source) source (sym (ap (is_below 14) joined) ∙ is)
            | inr none ↦ rw other (rw none refl)
          ]
    ]

pub unary_stops : (tokens : List SourceToken) → stops 14 tokens ≡ true → stops 13 tokens ≡ true
unary_stops [] is = refl
unary_stops (source ∷ rest) is = apart_at source is

before_unary : {read : Read Expression} {e : Expression} {rest : List SourceToken} → Reads read e rest (stops 13 rest) → Reads read e rest (stops 14 rest)
before_unary {rest = rest} reads = record { longer = reads.longer; exact = λ is. reads.exact (unary_stops rest is) }

-- the operand of each
operand_reads : {known : Known} {table : Shorter} → Whole known table → (operator : PrefixOperator) (e : Expression) (front rest : List SourceToken)
    → ReadsAll known table e → IsOf (as_prefixed operator e (expression_form known e)) front
    → Reads (operand_at table operator (front ++ rest)) e rest (stops 14 rest)
operand_reads whole Increment e front rest reads fits = unary_operand whole e front rest reads fits
operand_reads whole Decrement e front rest reads fits = unary_operand whole e front rest reads fits
operand_reads whole Address e front rest reads fits = before_unary (cast_operand whole e front rest reads fits)
operand_reads whole Dereference e front rest reads fits = before_unary (cast_operand whole e front rest reads fits)
operand_reads whole Plus e front rest reads fits = before_unary (cast_operand whole e front rest reads fits)
operand_reads whole Minus e front rest reads fits = before_unary (cast_operand whole e front rest reads fits)
operand_reads whole Complement e front rest reads fits = before_unary (cast_operand whole e front rest reads fits)
operand_reads whole Not e front rest reads fits = before_unary (cast_operand whole e front rest reads fits)

pub prefix_all : {known : Known} {table : Shorter} → Whole known table → (operator : PrefixOperator) (at : Place) (e : Expression) → ReadsAll known table e
    → ReadsAll known table (tree.prefix operator at e)
prefix_all {known = known} {table = table} whole operator at e reads front rest fits =
    let parts = behind (mark_form at (prefix_text operator)) (as_prefixed operator e (expression_form known e)) front fits in
    let one = one_token Punctuator (prefix_text operator) (Some at) parts.front parts.first in
    let same : front ++ rest ≡ one.source ∷ (parts.back ++ rest) = parts.whole rest ∙ ap (λ it. it ++ (parts.back ++ rest)) one.alone in
    let all = prefix_by whole operator e one.source (parts.back ++ rest) rest one.is (operand_reads whole operator e parts.back rest reads parts.second) in
    all_along same (subst (λ (place : Place). AllRead known table (tree.prefix operator place e) (one.source ∷ (parts.back ++ rest)) rest) one.at all)

-- ---- `sizeof`

-- `sizeof` begins no specifier
sizeof_begins : (known : Known) (source : SourceToken) → begins_specifier known false (with_text Identifier (codes "sizeof") source) ≡ false
unfolding keywords specifier_words
sizeof_begins known source = refl

-- the word in front
sizeof_found : {known : Known} {table : Shorter} → Whole known table → (e : Expression) (source : SourceToken) (tokens rest : List SourceToken)
    → rank e ≡ 14 → tightest e ≡ 10 → source ≡ with_text Identifier (codes "sizeof") source
    → Reads (sizeof_rule known table (place_of source) tokens) e rest (stops 14 rest) → AllRead known table e (source ∷ tokens) rest
sizeof_found {known = known} {table = table} whole e source tokens rest unary ten is reads =
    unary_all whole e (source ∷ tokens) rest (omega (arith, unary)) ten
    (ap (begins_specifier known false) is ∙ sizeof_begins known source)
    (ap (λ (first : SourceToken). begins_type known (first ∷ tokens)) is)
    (λ tight. absurd (omega (arith, tight, unary)))
    (λ tight stopped. absurd (omega (arith, tight, unary)))
    (reads_along (ap (λ (first : SourceToken). unary_rule known table (first ∷ tokens)) is) reads)

pub sizeof_value_all : {known : Known} {table : Shorter} → Whole known table → (at : Place) (e : Expression) → ReadsAll known table e
    → ReadsAll known table (tree.sizeof_value at e)
sizeof_value_all {known = known} {table = table} whole at e reads front rest fits =
    let parts = behind (keyword_at at (codes "sizeof")) (as_unary e (expression_form known e)) front fits in
    let one = one_token Identifier (codes "sizeof") (Some at) parts.front parts.first in
    let same : front ++ rest ≡ one.source ∷ (parts.back ++ rest) = parts.whole rest ∙ ap (λ it. it ++ (parts.back ++ rest)) one.alone in
    let low = ranked 14 e (expression_form known e) parts.back parts.second in
    let inner = reads parts.back rest low.1 in
    let operand = unary_operand whole e parts.back rest reads parts.second in
    let rule : sizeof_rule known table (place_of one.source) (parts.back ++ rest)
    ≡ (table goal.unary (parts.back ++ rest) >>= wrapped (tree.sizeof_value (place_of one.source))) =
    rw (inner.untyped low.0) refl in
    let all = sizeof_found whole (tree.sizeof_value (place_of one.source) e) one.source (parts.back ++ rest) rest refl refl one.is
    (reads_along rule (wrapped_reads (table goal.unary (parts.back ++ rest)) (tree.sizeof_value (place_of one.source)) e rest (stops 14 rest) operand)) in
    all_along same (subst (λ (place : Place). AllRead known table (tree.sizeof_value place e) (one.source ∷ (parts.back ++ rest)) rest) one.at all)

-- a type name in parentheses, and the place of the first
types_read : {known : Known} {table : Shorter} → Whole known table → (type : NamedType) (opening close : SourceToken) (inside rest : List SourceToken)
    → opening ≡ with_text Punctuator (codes "(") opening → close ≡ with_text Punctuator (codes ")") close
    → IsOf (type_form known type) inside → ReadsType known table type
    → (begins_type known (opening ∷ (inside ++ (close ∷ rest))) ≡ true)
    × (type_in_parens table (opening ∷ (inside ++ (close ∷ rest))) ≡ Some ((place_of opening, type), rest))
types_read {known = known} {table = table} whole type opening close inside rest opens is_close fits reads =
    let tail : List SourceToken = inside ++ (close ∷ rest) in
    let ahead : is_mark_ahead (codes ")") (close ∷ rest) ≡ true = ap (is_punctuator (codes ")")) is_close in
    let found = reads inside (close ∷ rest) fits ahead in
    let pair : NamedType → Place × NamedType = λ it. (place_of opening, it) in
    let more : Place × List SourceToken → Read (Place × NamedType) =
    λ first. table goal.type_name first.1 >>= closing (λ it. (first.0, it)) (codes ")") in (
      ap (λ (it : SourceToken). is_punctuator (codes "(") it && is_ahead (begins_specifier known false) tail) opens ∙ found.1,
      ap (λ it. it >>= more) (mark_reads (codes "(") opening tail opens)
          ∙ closes (table goal.type_name tail) type (codes ")") close rest pair (whole.plain goal.type_name tail ∙ found.0) is_close,
    )

pub sizeof_type_all : {known : Known} {table : Shorter} → Whole known table → (at : Place) (type : NamedType) → ReadsType known table type
    → ReadsAll known table (tree.sizeof_type at type)
sizeof_type_all {known = known} {table = table} whole at type reads front rest fits =
    let parts = behind (keyword_at at (codes "sizeof")) (mark (codes "(") ⨾ type_form known type ⨾ mark (codes ")")) front fits in
    let one = one_token Identifier (codes "sizeof") (Some at) parts.front parts.first in
    let inner = bracketed (codes "(") (codes ")") None (type_form known type) parts.back parts.second in
    let tokens : List SourceToken = inner.opening ∷ (inner.inside ++ (inner.close ∷ rest)) in
    let same : front ++ rest ≡ one.source ∷ tokens =
    parts.whole rest ∙ (λ i. one.alone i ++ inner.whole rest i) in
    let found = types_read whole type inner.opening inner.close inner.inside rest inner.opens inner.closed inner.fits reads in
    let make : (Place × NamedType) × List SourceToken → Read Expression = λ it. Some (tree.sizeof_type (place_of one.source) it.0.1, it.1) in
    let rule : sizeof_rule known table (place_of one.source) tokens ≡ Some (tree.sizeof_type (place_of one.source) type, rest) =
    rw found.0 (ap (λ it. it >>= make) found.1) in
    let all = sizeof_found whole (tree.sizeof_type (place_of one.source) type) one.source tokens rest refl refl one.is
    (record { longer = record { it = tree.sizeof_type (place_of one.source) type; left = rest; is = rule; less = omega arith }; exact = λ stopped. rule }) in
    all_along same (subst (λ (place : Place). AllRead known table (tree.sizeof_type place type) (one.source ∷ tokens) rest) one.at all)

-- ---- casts

pub cast_all : {known : Known} {table : Shorter} → Whole known table → (at : Place) (type : NamedType) (e : Expression) → ReadsType known table type
    → ReadsAll known table e → ReadsAll known table (tree.cast at type e)
cast_all {known = known} {table = table} whole at type e reads others front rest fits =
    let parts = split (mark_form at (codes "(")) (type_form known type ⨾ mark (codes ")") ⨾ as_cast e (expression_form known e)) front fits in
    let opening = one_token Punctuator (codes "(") (Some at) parts.front parts.first in
    let more = split (type_form known type) (mark (codes ")") ⨾ as_cast e (expression_form known e)) parts.back parts.second in
    let last = split (mark (codes ")")) (as_cast e (expression_form known e)) more.back more.second in
    let close = one_token Punctuator (codes ")") None last.front last.first in
    let tail : List SourceToken = last.back ++ rest in
    let tokens : List SourceToken = opening.source ∷ (more.front ++ (close.source ∷ tail)) in
    let same : front ++ rest ≡ tokens =
    ap (λ it. it ++ rest) (parts.whole ∙ (λ i. opening.alone i
    ++ (more.whole ∙ ap (λ it. more.front ++ it) (last.whole ∙ ap (λ it. it ++ last.back) close.alone)) i))
    ∙ ap (λ it. opening.source ∷ it) (append_assoc more.front (close.source ∷ last.back) rest) in
    let found = types_read whole type opening.source close.source more.front tail opening.is close.is more.first reads in
    let operand = cast_operand whole e last.back rest others last.second in
    let make : (Place × NamedType) × List SourceToken → Read Expression = λ it. table goal.cast it.1 >>= wrapped (tree.cast it.0.0 it.0.1) in
    let rule : cast_rule known table tokens ≡ (table goal.cast tail >>= wrapped (tree.cast (place_of opening.source) type)) =
    rw found.0 (ap (λ it. it >>= make) found.1) in
    let all = from_cast whole (tree.cast (place_of opening.source) type e) tokens rest (omega arith) refl
    (ap (begins_specifier known false) opening.is)
    (λ tight. absurd (omega (arith, tight)))
    (λ tight. absurd (omega (arith, tight)))
    (λ tight stopped. absurd (omega (arith, tight)))
    (λ tight. absurd (omega (arith, tight)))
    (reads_along rule (wrapped_reads (table goal.cast tail) (tree.cast (place_of opening.source) type) e rest (stops 13 rest) operand)) in
    all_along same (subst (λ (place : Place). AllRead known table (tree.cast place type e) tokens rest) opening.at all)
