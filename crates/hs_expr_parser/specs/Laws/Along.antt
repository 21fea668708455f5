-- An expression that is read as one of its own rank is read as one of each looser rank.
--     Longer read rest            something is read, at least up to that rest
--     Reads read e rest rank      and it is e if an expression of that rank does not go on there
--     up_unary, up_cast, ..       from rank to rank
use Rattle.std.proofs.Common.{◌≡◌, ℕ, zero, suc, ◌≤◌, Bool, true, false, List, [], ◌∷◌, ◌++◌, length, Some, None, refl, ap, ◌∙◌, arith}
use Rattle.std.specs.Prelude.{◌+◌, nat_le, if◌then◌else◌}
use Rattle.hs_base.specs.Options.{◌>>=◌}
use Rattle.hs_tokens.specs.declared.token.SourceToken.{SourceToken}
use Rattle.hs_syntax.specs.Operators.{precedence_of}
use Rattle.hs_syntax.specs.Phrases.{rank}
use Rattle.hs_syntax.specs.RowViews.{OneLeft, one_left}
use Rattle.hs_syntax.specs.Trees as tree
use Rattle.hs_syntax.specs.Trees.{Expression}
use Rattle.hs_tokens.specs.declared.place.Place.{Place}
use Rattle.hs_expr_parser.specs.Ahead.{stops}
use Rattle.hs_expr_parser.specs.Goals as goal
use Rattle.hs_expr_parser.specs.Goals.{Goal, Tree}
use Rattle.hs_expr_parser.specs.Recursion.{Read}
use Rattle.hs_expr_parser.specs.Reading.{Known, Shorter, going_on, rule, Operand, Branches, Assigned, joined, suffix_rule, suffixes_rule, cast_rule, operand_rule, climb_rule, binary_rule, branches_rule, conditional_rule, value_rule, assignment_rule, another_rule, commas_rule, expression_rule}
use Rattle.hs_expr_parser.specs.Laws.Plain as plain
use Rattle.hs_expr_parser.specs.Laws.Recursions.{Short}
use Rattle.hs_expr_parser.specs.Laws.Stopping.{looser, suffix_none, operand_none, branches_none, value_none, another_none}

-- a table that reads by the rules
pub record Whole (known : Known) (table : Shorter) : Type 0 where
  pub plain : (it : Goal) (tokens : List SourceToken) → table it tokens ≡ rule known table it tokens
  pub short : Short table

-- something is read, and no more is left than that rest
pub record Longer {A : Type 0} (read : Read A) (rest : List SourceToken) : Type 0 where
  pub it : A
  pub left : List SourceToken
  pub is : read ≡ Some (it, left)
  pub less : length left ≤ length rest

-- and it is `it` if the condition holds
pub record Reads {A : Type 0} (read : Read A) (it : A) (rest : List SourceToken) (condition : Bool) : Type 0 where
  pub longer : Longer read rest
  pub exact : condition ≡ true → read ≡ Some (it, rest)

-- the same of the same reading
pub longer_along : {A : Type 0} {read other : Read A} {rest : List SourceToken} → read ≡ other → Longer other rest → Longer read rest
longer_along same longer = record { it = longer.it; left = longer.left; is = same ∙ longer.is; less = longer.less }

pub reads_along : {A : Type 0} {read other : Read A} {it : A} {rest : List SourceToken} {condition : Bool} → read ≡ other
    → Reads other it rest condition → Reads read it rest condition
reads_along same reads = record { longer = longer_along same reads.longer; exact = λ stops. same ∙ reads.exact stops }

-- the rest of what reads longer
pub longer_on : {A : Type 0} {read : Read A} {rest others : List SourceToken} → length rest ≤ length others → Longer read rest → Longer read others
longer_on less longer = record { it = longer.it; left = longer.left; is = longer.is; less = omega (arith, less, longer.less) }

-- ---- the rest of an expression is always read

suffix_short : (known : Known) (table : Shorter) → Short table → (e : Expression) (tokens : List SourceToken) (it : Expression) (rest : List SourceToken)
    → suffix_rule table e tokens ≡ Some (it, rest) → suc (length rest) ≤ length tokens
suffix_short known table short e tokens it rest is = (plain.suffix known (length tokens) table short e tokens (omega arith)).short (it, rest) is

operand_short : (known : Known) (table : Shorter) → Short table → (least most : ℕ) (tokens : List SourceToken) (it : Operand) (rest : List SourceToken)
    → operand_rule table least most tokens ≡ Some (it, rest) → suc (length rest) ≤ length tokens
operand_short known table short least most tokens it rest is =
    (plain.operand known (length tokens) table short least most tokens (omega arith)).short (it, rest) is

branches_short : (known : Known) (table : Shorter) → Short table → (tokens : List SourceToken) (it : Branches) (rest : List SourceToken)
    → branches_rule table tokens ≡ Some (it, rest) → suc (length rest) ≤ length tokens
branches_short known table short tokens it rest is = (plain.branches known (length tokens) table short tokens (omega arith)).short (it, rest) is

value_short : (known : Known) (table : Shorter) → Short table → (tokens : List SourceToken) (it : Assigned) (rest : List SourceToken)
    → value_rule table tokens ≡ Some (it, rest) → suc (length rest) ≤ length tokens
value_short known table short tokens it rest is = (plain.value known (length tokens) table short tokens (omega arith)).short (it, rest) is

another_short : (known : Known) (table : Shorter) → Short table → (tokens : List SourceToken) (it : Place × Expression) (rest : List SourceToken)
    → another_rule table tokens ≡ Some (it, rest) → suc (length rest) ≤ length tokens
another_short known table short tokens it rest is = (plain.another known (length tokens) table short tokens (omega arith)).short (it, rest) is

-- what goes on with a shorter rest, or stops
going_longer : {A B : Type 0} (found : Read A) (more : A → List SourceToken → Read B) (it : B) (tokens : List SourceToken)
    → ((x : A) (rest : List SourceToken) → found ≡ Some (x, rest) → Longer (more x rest) tokens)
    → Longer (going_on found more (Some (it, tokens))) tokens
going_longer None more it tokens on = record { it = it; left = tokens; is = refl; less = omega arith }
going_longer (Some found) more it tokens on = on found.0 found.1 refl

-- suffixes
suffixes_by : {known : Known} {table : Shorter} → Whole known table → (n : ℕ) (e : Expression) (tokens : List SourceToken) → length tokens ≤ n
    → Longer (suffixes_rule table e tokens) tokens
suffixes_by {known = known} {table = table} whole zero e tokens most =
    going_longer (suffix_rule table e tokens) (λ it rest. table (goal.suffixes it) rest) e tokens
    (λ it rest is.
    let short = suffix_short known table whole.short e tokens it rest is in
    absurd (omega (arith, short, most)))
suffixes_by {known = known} {table = table} whole (suc n) e tokens most =
    going_longer (suffix_rule table e tokens) (λ it rest. table (goal.suffixes it) rest) e tokens
    (λ it rest is.
    let short = suffix_short known table whole.short e tokens it rest is in
    longer_on (omega (arith, short)) (longer_along (whole.plain (goal.suffixes it) rest) (suffixes_by whole n it rest (omega (arith, short, most)))))

pub suffixes_longer : {known : Known} {table : Shorter} → Whole known table → (e : Expression) (tokens : List SourceToken)
    → Longer (suffixes_rule table e tokens) tokens
suffixes_longer whole e tokens = suffixes_by whole (length tokens) e tokens (omega arith)

-- binary operators
climb_by : {known : Known} {table : Shorter} → Whole known table → (n least most : ℕ) (left : Expression) (tokens : List SourceToken) → length tokens ≤ n
    → Longer (climb_rule table least most left tokens) tokens
climb_by {known = known} {table = table} whole zero least most left tokens few =
    going_longer (operand_rule table least most tokens)
    (λ it rest. table (goal.climb least (precedence_of it.operator) (tree.binary left it.operator it.at it.right)) rest) left tokens
    (λ it rest is.
    let short = operand_short known table whole.short least most tokens it rest is in
    absurd (omega (arith, short, few)))
climb_by {known = known} {table = table} whole (suc n) least most left tokens few =
    going_longer (operand_rule table least most tokens)
    (λ it rest. table (goal.climb least (precedence_of it.operator) (tree.binary left it.operator it.at it.right)) rest) left tokens
    (λ it rest is.
    let short = operand_short known table whole.short least most tokens it rest is in
    let next = goal.climb least (precedence_of it.operator) (tree.binary left it.operator it.at it.right) in
    longer_on (omega (arith, short)) (longer_along (whole.plain next rest)
    (climb_by whole n least (precedence_of it.operator) (tree.binary left it.operator it.at it.right) rest (omega (arith, short, few)))))

pub climb_longer : {known : Known} {table : Shorter} → Whole known table → (least most : ℕ) (left : Expression) (tokens : List SourceToken)
    → Longer (climb_rule table least most left tokens) tokens
climb_longer whole least most left tokens = climb_by whole (length tokens) least most left tokens (omega arith)

-- commas
commas_by : {known : Known} {table : Shorter} → Whole known table → (n : ℕ) (lefts : List OneLeft) (right : Expression) (tokens : List SourceToken)
    → length tokens ≤ n → Longer (commas_rule table lefts right tokens) tokens
commas_by {known = known} {table = table} whole zero lefts right tokens few =
    going_longer (another_rule table tokens) (λ it rest. table (goal.commas (lefts ++ one_left right it.0 ∷ []) it.1) rest) (joined lefts right) tokens
    (λ it rest is.
    let short = another_short known table whole.short tokens it rest is in
    absurd (omega (arith, short, few)))
commas_by {known = known} {table = table} whole (suc n) lefts right tokens few =
    going_longer (another_rule table tokens) (λ it rest. table (goal.commas (lefts ++ one_left right it.0 ∷ []) it.1) rest) (joined lefts right) tokens
    (λ it rest is.
    let short = another_short known table whole.short tokens it rest is in
    longer_on (omega (arith, short)) (longer_along (whole.plain (goal.commas (lefts ++ one_left right it.0 ∷ []) it.1) rest)
    (commas_by whole n (lefts ++ one_left right it.0 ∷ []) it.1 rest (omega (arith, short, few)))))

pub commas_longer : {known : Known} {table : Shorter} → Whole known table → (lefts : List OneLeft) (right : Expression) (tokens : List SourceToken)
    → Longer (commas_rule table lefts right tokens) tokens
commas_longer whole lefts right tokens = commas_by whole (length tokens) lefts right tokens (omega arith)

-- ---- nothing more is read where it stops

-- nothing goes on
pub stays : {A B : Type 0} {found : Read A} (more : A → List SourceToken → B) (stop : B) → found ≡ None → going_on found more stop ≡ stop
stays more stop none = ap (λ it. going_on it more stop) none

pub suffixes_stop : (table : Shorter) (e : Expression) (tokens : List SourceToken) → stops 15 tokens ≡ true → suffixes_rule table e tokens ≡ Some (e, tokens)
suffixes_stop table e tokens is = stays (λ it rest. table (goal.suffixes it) rest) (Some (e, tokens)) (suffix_none table e tokens is)

pub climb_stop : (table : Shorter) (least most : ℕ) (left : Expression) (tokens : List SourceToken) → stops (2 + least) tokens ≡ true
    → climb_rule table least most left tokens ≡ Some (left, tokens)
climb_stop table least most left tokens is =
    stays (λ it rest. table (goal.climb least (precedence_of it.operator) (tree.binary left it.operator it.at it.right)) rest) (Some (left, tokens))
    (operand_none table least most tokens is)

pub commas_stop : (table : Shorter) (lefts : List OneLeft) (right : Expression) (tokens : List SourceToken) → stops 0 tokens ≡ true
    → commas_rule table lefts right tokens ≡ Some (joined lefts right, tokens)
commas_stop table lefts right tokens is =
    stays (λ it rest. table (goal.commas (lefts ++ one_left right it.0 ∷ []) it.1) rest) (Some (joined lefts right, tokens)) (another_none table tokens is)

-- ---- from rank to rank

-- something more after what was read
then_longer : {A B : Type 0} {read : Read A} {rest : List SourceToken} (more : A → List SourceToken → Read B) → Longer read rest
    → ((x : A) (left : List SourceToken) → Longer (more x left) left) → Longer (read >>= (λ x. more x.0 x.1)) rest
then_longer more longer on =
    let last = on longer.it longer.left in
    record { it = last.it; left = last.left; is = ap (λ it. it >>= (λ x. more x.0 x.1)) longer.is ∙ last.is; less = omega (arith, last.less, longer.less) }

-- a cast, as an operand of binary operators
pub up_binary : {known : Known} {table : Shorter} → Whole known table
    → (least : ℕ) (tokens : List SourceToken) (e : Expression) (rest : List SourceToken) → least ≤ 11
    → Reads (cast_rule known table tokens) e rest (stops 13 rest) → Reads (binary_rule known table least tokens) e rest (stops (2 + least) rest)
up_binary {known = known} {table = table} whole least tokens e rest most reads = record {
  longer = then_longer (λ it left. climb_rule table least 10 it left) reads.longer (λ it left. climb_longer whole least 10 it left);
  exact = λ is.
      ap (λ it. it >>= (λ x. climb_rule table least 10 x.0 x.1)) (reads.exact (looser (2 + least) 13 rest (omega (arith, most)) is))
      ∙ climb_stop table least 10 e rest is;
}

-- and after it binary operators are read
pub climbs_cast : (known : Known) (table : Shorter) (least : ℕ) (tokens : List SourceToken) (e : Expression) (rest : List SourceToken)
    → Reads (cast_rule known table tokens) e rest (stops 13 rest) → stops 13 rest ≡ true
    → binary_rule known table least tokens ≡ climb_rule table least 10 e rest
climbs_cast known table least tokens e rest reads is = ap (λ it. it >>= (λ x. climb_rule table least 10 x.0 x.1)) (reads.exact is)

-- operands of binary operators, as conditionals
pub up_conditional : {known : Known} {table : Shorter} → Whole known table → (tokens : List SourceToken) (e : Expression) (rest : List SourceToken)
    → Reads (binary_rule known table 1 tokens) e rest (stops 3 rest) → Reads (conditional_rule known table tokens) e rest (stops 2 rest)
up_conditional {known = known} {table = table} whole tokens e rest reads =
    let more : Expression → List SourceToken → Read Expression =
    λ test left. going_on (branches_rule table left) (λ it others. Some (tree.conditional test it.at it.taken it.otherwise, others)) (Some (test, left)) in
    record {
      longer = then_longer more reads.longer (λ test left.
          going_longer (branches_rule table left) (λ it others. Some (tree.conditional test it.at it.taken it.otherwise, others)) test left
          (λ it others is.
          let short = branches_short known table whole.short left it others is in
          record { it = tree.conditional test it.at it.taken it.otherwise; left = others; is = refl; less = omega (arith, short) }));
      exact = λ is.
          ap (λ it. it >>= (λ x. more x.0 x.1)) (reads.exact (looser 2 3 rest (omega arith) is))
          ∙ stays (λ it others. Some (tree.conditional e it.at it.taken it.otherwise, others)) (Some (e, rest)) (branches_none table rest is);
    }

-- what is assigned to an expression, if it is unary
abbrev pub value_behind : Shorter → Expression → List SourceToken → Read Assigned
value_behind table e tokens = if nat_le 14 (rank e) then value_rule table tokens else None

value_behind_short : (known : Known) (table : Shorter) → Short table → (unary : Bool) (tokens : List SourceToken) (it : Assigned) (rest : List SourceToken)
    → (if unary then value_rule table tokens else None) ≡ Some (it, rest) → suc (length rest) ≤ length tokens
value_behind_short known table short true tokens it rest is = value_short known table short tokens it rest is
value_behind_short known table short false tokens it rest is = absurd cc

value_behind_none : (table : Shorter) (unary : Bool) (tokens : List SourceToken) → stops 1 tokens ≡ true
    → (if unary then value_rule table tokens else None) ≡ None
value_behind_none table true tokens is = value_none table tokens is
value_behind_none table false tokens is = refl

-- conditionals, as assignments
pub up_assignment : {known : Known} {table : Shorter} → Whole known table → (tokens : List SourceToken) (e : Expression) (rest : List SourceToken)
    → Reads (conditional_rule known table tokens) e rest (stops 2 rest) → Reads (assignment_rule known table tokens) e rest (stops 1 rest)
up_assignment {known = known} {table = table} whole tokens e rest reads =
    let more : Expression → List SourceToken → Read Expression =
    λ target left. going_on (value_behind table target left) (λ it others. Some (tree.assign target it.operator it.at it.value, others))
    (Some (target, left)) in
    record {
      longer = then_longer more reads.longer (λ target left.
          going_longer (value_behind table target left) (λ it others. Some (tree.assign target it.operator it.at it.value, others)) target left
          (λ it others is.
          let short = value_behind_short known table whole.short (nat_le 14 (rank target)) left it others is in
          record { it = tree.assign target it.operator it.at it.value; left = others; is = refl; less = omega (arith, short) }));
      exact = λ is.
          ap (λ it. it >>= (λ x. more x.0 x.1)) (reads.exact (looser 1 2 rest (omega arith) is))
          ∙ stays (λ it others. Some (tree.assign e it.operator it.at it.value, others)) (Some (e, rest))
          (value_behind_none table (nat_le 14 (rank e)) rest is);
    }

-- assignments, as expressions
pub up_expression : {known : Known} {table : Shorter} → Whole known table → (tokens : List SourceToken) (e : Expression) (rest : List SourceToken)
    → Reads (assignment_rule known table tokens) e rest (stops 1 rest) → Reads (expression_rule known table tokens) e rest (stops 0 rest)
up_expression {known = known} {table = table} whole tokens e rest reads = record {
  longer = then_longer (λ it left. commas_rule table [] it left) reads.longer (λ it left. commas_longer whole [] it left);
  exact = λ is.
      ap (λ it. it >>= (λ x. commas_rule table [] x.0 x.1)) (reads.exact (looser 0 1 rest (omega arith) is)) ∙ commas_stop table [] e rest is;
}
