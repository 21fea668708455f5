-- Binary operators, conditionals, assignments and commas are read (X3.159-1989 3.3.5 to 3.3.17).
--     binary_form_all, conditional_form_all, assign_all, comma_all
use Rattle.std.proofs.Common.{◌≡◌, ℕ, suc, ◌≤◌, true, false, List, [], ◌∷◌, ◌++◌, length, Some, None, refl, ap, sym, ◌∙◌, subst, append_assoc, arith}
use Rattle.std.specs.Prelude.{◌+◌, nat_le, codes, if◌then◌else◌}
use Rattle.std.proofs.lemmas.Bool.Decides.{nat_tests}
use Rattle.std.proofs.lemmas.List.{append-nil}
use Rattle.hs_base.specs.Options.{◌>>=◌}
use Rattle.hs_tokens.specs.declared.token.SourceToken.{SourceToken}
use Rattle.hs_tokens.specs.declared.token.TokenKind.TheVariants.{Punctuator}
use Rattle.hs_syntax.specs.Forms.{◌⨾◌, when, mark, mark_at as mark_form, IsOf}
use Rattle.hs_syntax.specs.Grammar.{expression_form, lefts_form}
use Rattle.hs_syntax.specs.Operators.{binary_text, precedence_of, assign_text}
use Rattle.hs_syntax.specs.Phrases.{rank, as_assignment, as_conditional, as_operand, as_unary, has_lefts}
use Rattle.hs_syntax.specs.RowViews.{OneLeft, one_left, lefts_from}
use Rattle.hs_syntax.specs.Trees as tree
use Rattle.hs_syntax.specs.Trees.{Expression, Lefts}
use Rattle.hs_syntax.specs.declared.operators.AssignOperator.{AssignOperator}
use Rattle.hs_syntax.specs.declared.operators.AssignOperator.TheVariants as assigning
use Rattle.hs_syntax.specs.declared.operators.BinaryOperator.{BinaryOperator}
use Rattle.hs_syntax.specs.declared.operators.BinaryOperator.TheVariants as binary
use Rattle.hs_tokens.specs.declared.place.Place.{Place}
use Rattle.hs_expr_parser.specs.Ahead.{place_of, mark_at, binary_of, assign_of, stops, is_below, joins, is_ahead, begins_specifier}
use Rattle.hs_expr_parser.specs.Goals as goal
use Rattle.hs_expr_parser.specs.Recursion.{Read}
use Rattle.hs_expr_parser.specs.Reading.{Known, Shorter, going_on, Operand, Branches, Assigned, joined, operand_by, operand_rule, climb_rule, binary_rule, branches_rule, conditional_rule, value_by, value_rule, assignment_rule, another_rule, commas_rule, expression_rule}
use Rattle.hs_expr_parser.specs.Laws.Along.{Whole, Longer, Reads, longer_along, longer_on, reads_along, climb_longer, climb_stop, commas_longer, commas_stop}
use Rattle.hs_expr_parser.specs.Laws.Apart.{with_text, split, when_parts, one_token}
use Rattle.hs_expr_parser.specs.Laws.Primaries.{ReadsAll, mark_reads, ranked, behind}
use Rattle.hs_expr_parser.specs.Laws.Ranks.{AllRead, precedence_most, tightest, binary_all, conditional_all, assignment_all, expression_all, all_along}
use Rattle.hs_expr_parser.specs.Laws.Stopping.{looser, binary_joins, assign_joins}

-- ---- binary operators

-- each binds at some precedence
precedence_least : (it : BinaryOperator) → 1 ≤ precedence_of it
precedence_least binary.Multiply = omega arith
precedence_least binary.Divide = omega arith
precedence_least binary.Remainder = omega arith
precedence_least binary.Add = omega arith
precedence_least binary.Subtract = omega arith
precedence_least binary.ShiftLeft = omega arith
precedence_least binary.ShiftRight = omega arith
precedence_least binary.Less = omega arith
precedence_least binary.Greater = omega arith
precedence_least binary.LessEqual = omega arith
precedence_least binary.GreaterEqual = omega arith
precedence_least binary.Equal = omega arith
precedence_least binary.NotEqual = omega arith
precedence_least binary.BitAnd = omega arith
precedence_least binary.BitXor = omega arith
precedence_least binary.BitOr = omega arith
precedence_least binary.And = omega arith
precedence_least binary.Or = omega arith

-- the operator that a token is
binary_found : (it : BinaryOperator) (source : SourceToken) → binary_of (with_text Punctuator (binary_text it) source) ≡ Some it
binary_found binary.Multiply source = refl
binary_found binary.Divide source = refl
binary_found binary.Remainder source = refl
binary_found binary.Add source = refl
binary_found binary.Subtract source = refl
binary_found binary.ShiftLeft source = refl
binary_found binary.ShiftRight source = refl
binary_found binary.Less source = refl
binary_found binary.Greater source = refl
binary_found binary.LessEqual source = refl
binary_found binary.GreaterEqual source = refl
binary_found binary.Equal source = refl
binary_found binary.NotEqual source = refl
binary_found binary.BitAnd source = refl
binary_found binary.BitXor source = refl
binary_found binary.BitOr source = refl
binary_found binary.And source = refl
binary_found binary.Or source = refl

-- an expression of that rank binds at that precedence or more tightly
tight_enough : (e : Expression) (precedence : ℕ) → 1 ≤ precedence → precedence ≤ 10 → 2 + precedence ≤ rank e → precedence ≤ tightest e
tight_enough (tree.binary left operator at right) precedence some most tight = omega (arith, tight)
tight_enough (tree.comma lefts right) precedence some most tight = omega (arith, most)
tight_enough (tree.assign target operator at value) precedence some most tight = omega (arith, most)
tight_enough (tree.conditional test at taken otherwise) precedence some most tight = omega (arith, most)
tight_enough (tree.cast at type operand) precedence some most tight = omega (arith, most)
tight_enough (tree.prefix operator at operand) precedence some most tight = omega (arith, most)
tight_enough (tree.sizeof_value at operand) precedence some most tight = omega (arith, most)
tight_enough (tree.sizeof_type at type) precedence some most tight = omega (arith, most)
tight_enough (tree.index base at offset) precedence some most tight = omega (arith, most)
tight_enough (tree.call callee arguments) precedence some most tight = omega (arith, most)
tight_enough (tree.member base access at name) precedence some most tight = omega (arith, most)
tight_enough (tree.postfix operand operator at) precedence some most tight = omega (arith, most)
tight_enough (tree.name it) precedence some most tight = omega (arith, most)
tight_enough (tree.number it) precedence some most tight = omega (arith, most)
tight_enough (tree.character it) precedence some most tight = omega (arith, most)
tight_enough (tree.strings first others) precedence some most tight = omega (arith, most)
tight_enough (tree.parens at inner) precedence some most tight = omega (arith, most)

-- what is read after an operator
abbrev climbing : Shorter → ℕ → Expression → Operand → List SourceToken → Read Expression
climbing table least left it rest = table (goal.climb least (precedence_of it.operator) (tree.binary left it.operator it.at it.right)) rest

-- the operand, as its right one is read
abbrev with_right : BinaryOperator → Place → Expression × List SourceToken → Read Operand
with_right operator at e = Some (record { operator = operator; at = at; right = e.0 }, e.1)

-- an operator in front, and its right operand
operand_found : (table : Shorter) (least most : ℕ) (operator : BinaryOperator) (source : SourceToken) (tail : List SourceToken)
    → source ≡ with_text Punctuator (binary_text operator) source → least ≤ precedence_of operator → precedence_of operator ≤ most
    → operand_rule table least most (source ∷ tail) ≡ (table (goal.binary (suc (precedence_of operator))) tail >>= with_right operator (place_of source))
operand_found table least most operator source tail is low high =
    let one : nat_le least (precedence_of operator) ≡ true = grind (arith, nat_tests) in
    let other : nat_le (precedence_of operator) most ≡ true = grind (arith, nat_tests) in
    ap (λ found. operand_by table least most found (place_of source) tail) (ap binary_of is ∙ binary_found operator source) ∙ rw one (rw other refl)

-- after the left operand
binary_behind : {known : Known} {table : Shorter} → Whole known table
    → (left : Expression) (operator : BinaryOperator) (right : Expression) (source : SourceToken)
    (tokens tail rest : List SourceToken) → source ≡ with_text Punctuator (binary_text operator) source → 2 + precedence_of operator ≤ rank left
    → AllRead known table left tokens (source ∷ tail) → (least : ℕ) → 1 ≤ least → least ≤ precedence_of operator
    → binary_rule known table least tokens
    ≡ going_on (table (goal.binary (suc (precedence_of operator))) tail >>= with_right operator (place_of source)) (climbing table least left)
    (Some (left, source ∷ tail))
binary_behind {known = known} {table = table} whole left operator right source tokens tail rest is tight all least some low =
    let most = precedence_most operator in
    let enough = tight_enough left (precedence_of operator) (precedence_least operator) most tight in
    let at : joins source ≡ Some (2 + precedence_of operator) = ap joins is ∙ binary_joins operator source in
    let under : is_below (3 + tightest left) (Some (2 + precedence_of operator)) ≡ true = grind (arith, nat_tests) in
    let stopped : stops (3 + tightest left) (source ∷ tail) ≡ true = ap (is_below (3 + tightest left)) at ∙ under in
    all.climbs least some (omega (arith, low, most)) (omega (arith, low, tight)) stopped
    ∙ ap (λ found. going_on found (climbing table least left) (Some (left, source ∷ tail)))
    (operand_found table least (tightest left) operator source tail is low enough)

-- the same if the right operand is read
binary_by : {known : Known} {table : Shorter} → Whole known table → (left : Expression) (operator : BinaryOperator) (right : Expression) (source : SourceToken)
    (tokens tail rest : List SourceToken) → source ≡ with_text Punctuator (binary_text operator) source → 2 + precedence_of operator ≤ rank left
    → AllRead known table left tokens (source ∷ tail)
    → Reads (binary_rule known table (suc (precedence_of operator)) tail) right rest (stops (3 + precedence_of operator) rest)
    → AllRead known table (tree.binary left operator (place_of source) right) tokens rest
binary_by {known = known} {table = table} whole left operator right source tokens tail rest is tight all reads =
    let most = precedence_most operator in
    let some_precedence = precedence_least operator in
    let at = place_of source in
    let asked : Reads (table (goal.binary (suc (precedence_of operator))) tail) right rest (stops (3 + precedence_of operator) rest) =
    reads_along (whole.plain (goal.binary (suc (precedence_of operator))) tail) reads in
    let back : (least : ℕ) → Expression × List SourceToken → Read Expression =
    λ least e. climb_rule table least (precedence_of operator) (tree.binary left operator at e.0) e.1 in
    let on : (least : ℕ) → Read Expression → Read Expression =
    λ least found. going_on (found >>= with_right operator at) (climbing table least left) (Some (left, source ∷ tail)) in
    let goes : (least : ℕ) (e : Expression) (others : List SourceToken) → on least (Some (e, others)) ≡ back least (e, others) =
    λ least e others. whole.plain (goal.climb least (precedence_of operator) (tree.binary left operator at e)) others in
    let climbs : (least : ℕ) → 1 ≤ least → least ≤ precedence_of operator → stops (3 + precedence_of operator) rest ≡ true
    → binary_rule known table least tokens ≡ climb_rule table least (precedence_of operator) (tree.binary left operator at right) rest =
    λ least some low stopped.
    binary_behind whole left operator right source tokens tail rest is tight all least some low ∙ ap (on least) (asked.exact stopped) ∙ goes least right rest in
    let longer : (least : ℕ) → 1 ≤ least → least ≤ precedence_of operator → Longer (binary_rule known table least tokens) rest =
    λ least some low.
    longer_along (binary_behind whole left operator right source tokens tail rest is tight all least some low ∙ ap (on least) asked.longer.is
    ∙ goes least asked.longer.it asked.longer.left)
    (longer_on asked.longer.less (climb_longer whole least (precedence_of operator) (tree.binary left operator at asked.longer.it) asked.longer.left)) in
    binary_all whole (tree.binary left operator at right) tokens rest (omega (arith, some_precedence)) (omega (arith, most)) all.begins
    (λ least some limit low stopped. climbs least some (omega (arith, low)) stopped)
    (λ least some limit low.
    record {
      longer = longer least some (omega (arith, low));
      exact = λ stopped.
          climbs least some (omega (arith, low)) (looser (2 + least) (3 + precedence_of operator) rest (omega (arith, low)) stopped)
          ∙ climb_stop table least (precedence_of operator) (tree.binary left operator at right) rest stopped;
    })

pub binary_form_all : {known : Known} {table : Shorter} → Whole known table → (left : Expression) (operator : BinaryOperator) (at : Place) (right : Expression)
    → ReadsAll known table left → ReadsAll known table right → ReadsAll known table (tree.binary left operator at right)
binary_form_all {known = known} {table = table} whole left operator at right reads others front rest fits =
    let most = precedence_most operator in
    let parts = behind (as_operand (precedence_of operator) left (expression_form known left))
    (mark_form at (binary_text operator) ⨾ as_operand (suc (precedence_of operator)) right (expression_form known right)) front fits in
    let low = ranked (2 + precedence_of operator) left (expression_form known left) parts.front parts.first in
    let back =
    split (mark_form at (binary_text operator)) (as_operand (suc (precedence_of operator)) right (expression_form known right)) parts.back parts.second in
    let one = one_token Punctuator (binary_text operator) (Some at) back.front back.first in
    let high = ranked (2 + suc (precedence_of operator)) right (expression_form known right) back.back back.second in
    let tail : List SourceToken = back.back ++ rest in
    let tokens : List SourceToken = parts.front ++ (one.source ∷ tail) in
    let same : front ++ rest ≡ tokens = parts.whole rest ∙ ap (λ it. parts.front ++ (it ++ rest)) (back.whole ∙ ap (λ it. it ++ back.back) one.alone) in
    let right_read = (others back.back rest high.1).binary (suc (precedence_of operator)) (omega arith) (omega (arith, most)) (omega (arith, high.0)) in
    let all = binary_by whole left operator right one.source tokens tail rest one.is low.0 (reads parts.front (one.source ∷ tail) low.1)
    (record {
      longer = right_read.longer;
      exact =
          λ stopped. right_read.exact (looser (3 + precedence_of operator) (2 + suc (precedence_of operator)) rest (omega arith) stopped);
    }) in
    all_along same (subst (λ (place : Place). AllRead known table (tree.binary left operator place right) tokens rest) one.at all)

-- ---- conditionals

-- the branches after a `?`, as the last one is read
abbrev last_branch : Place → Expression → Expression × List SourceToken → Read Branches
last_branch at taken e = Some (record { at = at; taken = taken; otherwise = e.0 }, e.1)

abbrev conditional_of : Expression → Branches → List SourceToken → Read Expression
conditional_of test it rest = Some (tree.conditional test it.at it.taken it.otherwise, rest)

branches_found : {known : Known} {table : Shorter} → Whole known table → (taken : Expression) (query colon : SourceToken) (inside tail : List SourceToken)
    → query ≡ with_text Punctuator (codes "?") query → colon ≡ with_text Punctuator (codes ":") colon
    → AllRead known table taken inside (colon ∷ tail)
    → branches_rule table (query ∷ inside) ≡ (table goal.conditional tail >>= last_branch (place_of query) taken)
branches_found {table = table} whole taken query colon inside tail is_query is_colon all =
    let third : Place → Expression → Place × List SourceToken → Read Branches = λ at it mark. table goal.conditional mark.1 >>= last_branch at it in
    let second : Place → Expression × List SourceToken → Read Branches = λ at it. mark_at (codes ":") it.1 >>= third at it.0 in
    let first : Place × List SourceToken → Read Branches = λ mark. table goal.expression mark.1 >>= second mark.0 in
    let stopped : stops 0 (colon ∷ tail) ≡ true = ap (λ it. is_below 0 (joins it)) is_colon in
    ap (λ it. it >>= first) (mark_reads (codes "?") query inside is_query)
    ∙ ap (λ it. it >>= second (place_of query)) (whole.plain goal.expression inside ∙ all.expression.exact stopped)
    ∙ ap (λ it. it >>= third (place_of query) taken) (mark_reads (codes ":") colon tail is_colon)

pub conditional_form_all : {known : Known} {table : Shorter} → Whole known table → (test : Expression) (at : Place) (taken otherwise : Expression)
    → ReadsAll known table test → ReadsAll known table taken → ReadsAll known table otherwise → ReadsAll known table (tree.conditional test at taken otherwise)
conditional_form_all {known = known} {table = table} whole test at taken otherwise reads reads_taken reads_otherwise front rest fits =
    let parts = behind (as_operand 1 test (expression_form known test))
    (mark_form at (codes "?") ⨾ expression_form known taken ⨾ mark (codes ":") ⨾ as_conditional otherwise (expression_form known otherwise)) front fits in
    let low = ranked 3 test (expression_form known test) parts.front parts.first in
    let back = split (mark_form at (codes "?"))
    (expression_form known taken ⨾ mark (codes ":") ⨾ as_conditional otherwise (expression_form known otherwise)) parts.back parts.second in
    let query = one_token Punctuator (codes "?") (Some at) back.front back.first in
    let middle = split (expression_form known taken) (mark (codes ":") ⨾ as_conditional otherwise (expression_form known otherwise)) back.back back.second in
    let last = split (mark (codes ":")) (as_conditional otherwise (expression_form known otherwise)) middle.back middle.second in
    let colon = one_token Punctuator (codes ":") None last.front last.first in
    let high = ranked 2 otherwise (expression_form known otherwise) last.back last.second in
    let tail : List SourceToken = last.back ++ rest in
    let inside : List SourceToken = middle.front ++ (colon.source ∷ tail) in
    let tokens : List SourceToken = parts.front ++ (query.source ∷ inside) in
    let same : front ++ rest ≡ tokens =
    parts.whole rest ∙ ap (λ it. parts.front ++ (it ++ rest))
    (back.whole ∙ (λ i. query.alone i ++ (middle.whole ∙ ap (λ it. middle.front ++ it) (last.whole ∙ ap (λ it. it ++ last.back) colon.alone)) i))
    ∙ ap (λ it. parts.front ++ (query.source ∷ it)) (append_assoc middle.front (colon.source ∷ last.back) rest) in
    let all = reads parts.front (query.source ∷ inside) low.1 in
    let stopped : stops 3 (query.source ∷ inside) ≡ true = ap (λ it. is_below 3 (joins it)) query.is in
    let place = place_of query.source in
    let more : Expression × List SourceToken → Read Expression = λ it. going_on (branches_rule table it.1) (conditional_of it.0) (Some (it.0, it.1)) in
    let on : Read Expression → Read Expression =
    λ found. going_on (found >>= last_branch place taken) (conditional_of test) (Some (test, query.source ∷ inside)) in
    let behind_test : conditional_rule known table tokens ≡ on (table goal.conditional tail) =
    ap (λ it. it >>= more) ((all.binary 1 (omega arith) (omega arith) low.0).exact stopped)
    ∙ ap (λ found. going_on found (conditional_of test) (Some (test, query.source ∷ inside)))
    (branches_found whole taken query.source colon.source inside tail query.is colon.is (reads_taken middle.front (colon.source ∷ tail) middle.first)) in
    let asked = reads_along (whole.plain goal.conditional tail) ((reads_otherwise last.back rest high.1).conditional high.0) in
    let found = conditional_all whole (tree.conditional test place taken otherwise) tokens rest refl all.begins (record {
      longer = record {
        it = tree.conditional test place taken asked.longer.it;
        left = asked.longer.left;
        is = behind_test ∙ ap on asked.longer.is;
        less = asked.longer.less;
      };
      exact = λ stopped. behind_test ∙ ap on (asked.exact stopped);
    }) in
    all_along same (subst (λ (it : Place). AllRead known table (tree.conditional test it taken otherwise) tokens rest) query.at found)

-- ---- assignments

-- the operator that a token is
assign_found : (it : AssignOperator) (source : SourceToken) → assign_of (with_text Punctuator (assign_text it) source) ≡ Some it
assign_found assigning.Plain source = refl
assign_found assigning.Multiply source = refl
assign_found assigning.Divide source = refl
assign_found assigning.Remainder source = refl
assign_found assigning.Add source = refl
assign_found assigning.Subtract source = refl
assign_found assigning.ShiftLeft source = refl
assign_found assigning.ShiftRight source = refl
assign_found assigning.BitAnd source = refl
assign_found assigning.BitXor source = refl
assign_found assigning.BitOr source = refl

abbrev with_value : AssignOperator → Place → Expression × List SourceToken → Read Assigned
with_value operator at e = Some (record { operator = operator; at = at; value = e.0 }, e.1)

abbrev assign_of_target : Expression → Assigned → List SourceToken → Read Expression
assign_of_target target it rest = Some (tree.assign target it.operator it.at it.value, rest)

pub assign_all : {known : Known} {table : Shorter} → Whole known table → (target : Expression) (operator : AssignOperator) (at : Place) (e : Expression)
    → ReadsAll known table target → ReadsAll known table e → ReadsAll known table (tree.assign target operator at e)
assign_all {known = known} {table = table} whole target operator at e reads others front rest fits =
    let parts = behind (as_unary target (expression_form known target))
    (mark_form at (assign_text operator) ⨾ as_assignment e (expression_form known e)) front fits in
    let low = ranked 14 target (expression_form known target) parts.front parts.first in
    let back = split (mark_form at (assign_text operator)) (as_assignment e (expression_form known e)) parts.back parts.second in
    let one = one_token Punctuator (assign_text operator) (Some at) back.front back.first in
    let high = ranked 1 e (expression_form known e) back.back back.second in
    let tail : List SourceToken = back.back ++ rest in
    let tokens : List SourceToken = parts.front ++ (one.source ∷ tail) in
    let same : front ++ rest ≡ tokens = parts.whole rest ∙ ap (λ it. parts.front ++ (it ++ rest)) (back.whole ∙ ap (λ it. it ++ back.back) one.alone) in
    let all = reads parts.front (one.source ∷ tail) low.1 in
    let place = place_of one.source in
    let joined_at : joins one.source ≡ Some 1 = ap joins one.is ∙ assign_joins operator one.source in
    let stopped : stops 2 (one.source ∷ tail) ≡ true = ap (is_below 2) joined_at in
    let unary : nat_le 14 (rank target) ≡ true = unary_is (rank target) low.0 in
    let more : Expression × List SourceToken → Read Expression =
    λ it. going_on (if nat_le 14 (rank it.0) then value_rule table it.1 else None) (assign_of_target it.0) (Some (it.0, it.1)) in
    let on : Read Expression → Read Expression =
    λ found. going_on (found >>= with_value operator place) (assign_of_target target) (Some (target, one.source ∷ tail)) in
    let behind_target : assignment_rule known table tokens ≡ on (table goal.assignment tail) =
    ap (λ it. it >>= more) ((all.conditional (omega (arith, low.0))).exact stopped)
    ∙ ap (λ test. going_on (if test then value_rule table (one.source ∷ tail) else None) (assign_of_target target) (Some (target, one.source ∷ tail))) unary
    ∙ ap (λ found. going_on (value_by table found place tail) (assign_of_target target) (Some (target, one.source ∷ tail)))
    (ap assign_of one.is ∙ assign_found operator one.source) in
    let asked = reads_along (whole.plain goal.assignment tail) ((others back.back rest high.1).assignment high.0) in
    let found = assignment_all whole (tree.assign target operator place e) tokens rest refl all.begins (record {
      longer = record {
        it = tree.assign target operator place asked.longer.it;
        left = asked.longer.left;
        is = behind_target ∙ ap on asked.longer.is;
        less = asked.longer.less;
      };
      exact = λ stopped. behind_target ∙ ap on (asked.exact stopped);
    }) in
    all_along same (subst (λ (it : Place). AllRead known table (tree.assign target operator it e) tokens rest) one.at found)
  where
    unary_is : (it : ℕ) → 14 ≤ it → nat_le 14 it ≡ true
    unary_is it low = grind (arith, nat_tests)

-- ---- commas

-- the left operands of commas
abbrev pub lefts_in : Lefts → List OneLeft
lefts_in tree.no_lefts = []
lefts_in (tree.more_lefts e at rest) = one_left e at ∷ lefts_in rest

pub lefts_in-from : (its : Lefts) → lefts_from (lefts_in its) ≡ its
lefts_in-from tree.no_lefts = refl
lefts_in-from (tree.more_lefts e at rest) = ap (tree.more_lefts e at) (lefts_in-from rest)

-- an assignment, and commas after earlier left operands
abbrev pub sequence : Known → Shorter → List OneLeft → List SourceToken → Read Expression
sequence known table earlier tokens = do
  e ← assignment_rule known table tokens
  commas_rule table earlier e.0 e.1

-- Left operands in front of what begins with an assignment are read. What they begin begins with no specifier, if that does not.
pub record LeftsRead (known : Known) (table : Shorter) (its : Lefts) (tokens more : List SourceToken) : Type 0 where
  pub some : Longer (assignment_rule known table tokens) tokens
  pub begins : is_ahead (begins_specifier known false) tokens ≡ false
  pub goes_on : (earlier : List OneLeft) → sequence known table earlier tokens ≡ sequence known table (earlier ++ lefts_in its) more

abbrev pub ReadsLefts : Known → Shorter → Lefts → Type 0
ReadsLefts known table its =
    (front more : List SourceToken) → IsOf (lefts_form known its) front → Longer (assignment_rule known table more) more
    → is_ahead (begins_specifier known false) more ≡ false → LeftsRead known table its (front ++ more) more

-- no tokens
nothing_is : (sources : List SourceToken) (known : Known) → IsOf (lefts_form known tree.no_lefts) sources → sources ≡ []
nothing_is [] known fits = refl
nothing_is (source ∷ rest) known fits = absurd fits.1

pub no_lefts_all : (known : Known) (table : Shorter) → ReadsLefts known table tree.no_lefts
no_lefts_all known table front more fits some begins =
    let same : front ++ more ≡ more = ap (λ it. it ++ more) (nothing_is front known fits) in
    subst (λ (tokens : List SourceToken). LeftsRead known table tree.no_lefts tokens more) (sym same) (record {
      some = some;
      begins = begins;
      goes_on = λ earlier. ap (λ it. sequence known table it more) (sym (append-nil earlier));
    })

pub more_lefts_all : {known : Known} {table : Shorter} → Whole known table → (e : Expression) (at : Place) (others : Lefts) → ReadsAll known table e
    → ReadsLefts known table others → ReadsLefts known table (tree.more_lefts e at others)
more_lefts_all {known = known} {table = table} whole e at others reads reads_others front more fits some begins =
    let parts = behind (as_assignment e (expression_form known e)) (mark_form at (codes ",") ⨾ lefts_form known others) front fits in
    let low = ranked 1 e (expression_form known e) parts.front parts.first in
    let back = split (mark_form at (codes ",")) (lefts_form known others) parts.back parts.second in
    let comma = one_token Punctuator (codes ",") (Some at) back.front back.first in
    let tail : List SourceToken = back.back ++ more in
    let tokens : List SourceToken = parts.front ++ (comma.source ∷ tail) in
    let same : front ++ more ≡ tokens = parts.whole more ∙ ap (λ it. parts.front ++ (it ++ more)) (back.whole ∙ ap (λ it. it ++ back.back) comma.alone) in
    let all = reads parts.front (comma.source ∷ tail) low.1 in
    let stopped : stops 1 (comma.source ∷ tail) ≡ true = ap (λ it. is_below 1 (joins it)) comma.is in
    let first : assignment_rule known table tokens ≡ Some (e, comma.source ∷ tail) = (all.assignment low.0).exact stopped in
    let next = reads_others back.back more back.second some begins in
    let place = place_of comma.source in
    let asked : table goal.assignment tail ≡ Some (next.some.it, next.some.left) = whole.plain goal.assignment tail ∙ next.some.is in
    let pair : Expression × List SourceToken → Read (Place × Expression) = λ it. Some ((place, it.0), it.1) in
    let mark_then : Place × List SourceToken → Read (Place × Expression) = λ mark. table goal.assignment mark.1 >>= (λ it. Some ((mark.0, it.0), it.1)) in
    let another : another_rule table (comma.source ∷ tail) ≡ Some ((place, next.some.it), next.some.left) =
    ap (λ it. it >>= mark_then) (mark_reads (codes ",") comma.source tail comma.is) ∙ ap (λ it. it >>= pair) asked in
    let read : (earlier : List OneLeft) → sequence known table earlier tokens
    ≡ sequence known table (earlier ++ lefts_in (tree.more_lefts e place others)) more =
    λ earlier.
    let later : List OneLeft = earlier ++ one_left e place ∷ [] in
    let behind_first : Expression × List SourceToken → Read Expression = λ it. commas_rule table earlier it.0 it.1 in
    let behind_next : Expression × List SourceToken → Read Expression = λ it. commas_rule table later it.0 it.1 in
    let on : Place × Expression → List SourceToken → Read Expression = λ it rest. table (goal.commas (earlier ++ one_left e it.0 ∷ []) it.1) rest in
    ap (λ it. it >>= behind_first) first
    ∙ ap (λ found. going_on found on (Some (joined earlier e, comma.source ∷ tail))) another
    ∙ whole.plain (goal.commas later next.some.it) next.some.left
    ∙ sym (ap (λ it. it >>= behind_next) next.some.is)
    ∙ next.goes_on later
    ∙ ap (λ it. sequence known table it more) (append_assoc earlier (one_left e place ∷ []) (lefts_in others)) in
    let placed : LeftsRead known table (tree.more_lefts e place others) tokens more = record {
      some = record { it = e; left = comma.source ∷ tail; is = first; less = shorter parts.front (comma.source ∷ tail) };
      begins = all.begins;
      goes_on = read;
    } in
    subst (λ (its : List SourceToken). LeftsRead known table (tree.more_lefts e at others) its more) (sym same)
    (subst (λ (it : Place). LeftsRead known table (tree.more_lefts e it others) tokens more) comma.at placed)
  where
    shorter : (front rest : List SourceToken) → length rest ≤ length (front ++ rest)
    shorter [] rest = omega arith
    shorter (source ∷ front) rest = omega (arith, shorter front rest)

-- the joined operands
joined_is : (its : Lefts) (right : Expression) → has_lefts its ≡ true → joined (lefts_in its) right ≡ tree.comma its right
joined_is tree.no_lefts right some = absurd cc
joined_is (tree.more_lefts e at rest) right some = ap (λ it. tree.comma it right) (lefts_in-from (tree.more_lefts e at rest))

pub comma_all : {known : Known} {table : Shorter} → Whole known table → (lefts : Lefts) (right : Expression) → ReadsLefts known table lefts
    → ReadsAll known table right → ReadsAll known table (tree.comma lefts right)
comma_all {known = known} {table = table} whole lefts right reads others front rest fits =
    let parts = behind (when (has_lefts lefts) (lefts_form known lefts)) (as_assignment right (expression_form known right)) front fits in
    let some = when_parts (has_lefts lefts) (lefts_form known lefts) parts.front parts.first in
    let low = ranked 1 right (expression_form known right) parts.back parts.second in
    let all = others parts.back rest low.1 in
    let last = all.assignment low.0 in
    let more : List SourceToken = parts.back ++ rest in
    let found = reads parts.front more some.1 (longer_on (shorter parts.back rest) last.longer) all.begins in
    let behind_last : Expression × List SourceToken → Read Expression = λ it. commas_rule table (lefts_in lefts) it.0 it.1 in
    let read : expression_rule known table (parts.front ++ more) ≡ sequence known table (lefts_in lefts) more = found.goes_on [] in
    let longer = commas_longer whole (lefts_in lefts) last.longer.it last.longer.left in
    all_along (parts.whole rest) (expression_all known table (tree.comma lefts right) (parts.front ++ more) rest refl found.begins (record {
      longer = longer_along (read ∙ ap (λ it. it >>= behind_last) last.longer.is) (longer_on last.longer.less longer);
      exact = λ stopped.
          read ∙ ap (λ it. it >>= behind_last) (last.exact (looser 0 1 rest (omega arith) stopped))
          ∙ commas_stop table (lefts_in lefts) right rest stopped ∙ ap (λ it. Some (it, rest)) (joined_is lefts right some.0);
    }))
  where
    shorter : (front rest : List SourceToken) → length rest ≤ length (front ++ rest)
    shorter [] rest = omega arith
    shorter (source ∷ front) rest = omega (arith, shorter front rest)
