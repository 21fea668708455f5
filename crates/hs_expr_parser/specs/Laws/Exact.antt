-- What the reading gives of an expression is the longest one of the grammar in front, and the only one of these tokens; it gives nothing
-- only if no expression stands in front.
--     expression_found, expression_longest, expression_only, expression_none      of tokens in front
--     found_by_length, longest_by_length, only_by_length, none_by_length          of the first n tokens
use Rattle.std.proofs.Common.{◌≡◌, ℕ, ◌≤◌, List, [], ◌++◌, length, take, drop, Some, None, refl, ap, sym, ◌∙◌, subst, arith}
use Rattle.std.specs.Prelude.{◌+◌, ◌-◌}
use Rattle.std.proofs.Math.Seq.{take-append_seam}
use Rattle.std.proofs.lemmas.List.{length-append, length-drop, take-append-drop}
use Rattle.hs_tokens.specs.declared.token.SourceToken.{SourceToken}
use Rattle.hs_syntax.specs.Grammar.{IsExpression}
use Rattle.hs_syntax.specs.Trees.{Expression}
use Rattle.hs_expr_parser.specs.Goals as goal
use Rattle.hs_expr_parser.specs.Recursion.{Read}
use Rattle.hs_expr_parser.specs.Reading.{Known, reading, expression_rule}
use Rattle.hs_expr_parser.specs.Laws.Complete.{all_expression}
use Rattle.hs_expr_parser.specs.Laws.Wholly.{whole}
use Rattle.hs_expr_parser.specs.Laws.Ranks.{AllRead}
use Rattle.hs_expr_parser.specs.Laws.Sound.{reading_found}

-- what was read, or this if nothing was
abbrev tree_of : Expression → Read Expression → Expression
tree_of e None = e
tree_of e (Some it) = it.0

-- the tokens that are left, if something was read
abbrev left_of : Read Expression → List SourceToken
left_of None = []
left_of (Some it) = it.1

-- the reading of an expression is its rule
by_rule : (known : Known) (tokens : List SourceToken) → reading known goal.expression tokens ≡ expression_rule known (reading known) tokens
by_rule known tokens = (whole known).plain goal.expression tokens

-- an expression of the grammar is read at each rank
all_read : (known : Known) (front rest : List SourceToken) (e : Expression) → IsExpression known front e → AllRead known (reading known) e (front ++ rest) rest
all_read known front rest e fits = all_expression (whole known) e front rest fits

-- if nothing follows, it is what is read
read_alone : (known : Known) (front : List SourceToken) (e : Expression) → IsExpression known front e
    → reading known goal.expression (front ++ []) ≡ Some (e, [])
read_alone known front e fits = by_rule known (front ++ []) ∙ (all_read known front [] e fits).expression.exact refl

-- what is read is an expression of the tokens in front
pub expression_found : (known : Known) (tokens : List SourceToken) (e : Expression) (rest : List SourceToken)
    → reading known goal.expression tokens ≡ Some (e, rest) → (front : List SourceToken) × (tokens ≡ front ++ rest) × IsExpression known front e
expression_found known tokens e rest is = reading_found known goal.expression tokens e rest is

-- no expression in front is longer
pub expression_longest : (known : Known) (tokens : List SourceToken) (e : Expression) (rest : List SourceToken)
    → reading known goal.expression tokens ≡ Some (e, rest) → (front back : List SourceToken) (other : Expression) → tokens ≡ front ++ back
    → IsExpression known front other → length rest ≤ length back
expression_longest known tokens e rest is front back other same fits =
    let longer = (all_read known front back other fits).expression.longer in
    let left : rest ≡ longer.left =
    ap left_of (sym is ∙ ap (reading known goal.expression) same ∙ by_rule known (front ++ back) ∙ longer.is) in
    subst (λ (it : List SourceToken). length it ≤ length back) (sym left) longer.less

-- the same tokens are one expression at most
pub expression_only : (known : Known) (front : List SourceToken) (e other : Expression) → IsExpression known front e → IsExpression known front other
    → e ≡ other
expression_only known front e other fits also = ap (tree_of e) (sym (read_alone known front e fits) ∙ read_alone known front other also)

-- nothing is not something
not_none : {A : Type 0} (it : A) → None ≡ Some it → ⊥
not_none it is = cc

-- if nothing is read, no expression stands in front
pub expression_none : (known : Known) (tokens : List SourceToken) → reading known goal.expression tokens ≡ None
    → (front back : List SourceToken) (e : Expression) → tokens ≡ front ++ back → IsExpression known front e → ⊥
expression_none known tokens is front back e same fits =
    let longer = (all_read known front back e fits).expression.longer in
    not_none (longer.it, longer.left) (sym is ∙ ap (reading known goal.expression) same ∙ by_rule known (front ++ back) ∙ longer.is)

-- ---- by lengths

-- what stands in front is the first tokens
front_is : (tokens front rest : List SourceToken) → tokens ≡ front ++ rest → (length rest ≤ length tokens) × (front ≡ take (length tokens - length rest) tokens)
front_is tokens front rest same =
    let sum : length tokens ≡ length front + length rest = ap length same ∙ length-append front rest in
    let size : length tokens - length rest ≡ length front = omega (arith, sum) in
    (omega (arith, sum), sym (take-append_seam front rest) ∙ sym (λ i. take (size i) (same i)))

-- what is read is an expression of the first tokens
pub found_by_length : (known : Known) (tokens : List SourceToken) (e : Expression) (rest : List SourceToken)
    → reading known goal.expression tokens ≡ Some (e, rest)
    → (length rest ≤ length tokens) × IsExpression known (take (length tokens - length rest) tokens) e
found_by_length known tokens e rest is =
    let found = expression_found known tokens e rest is in
    let front = front_is tokens found.0 rest found.1 in
    (front.0, subst (λ (it : List SourceToken). IsExpression known it e) front.1 found.2)

-- no expression of more of them is there
pub longest_by_length : (known : Known) (tokens : List SourceToken) (e : Expression) (rest : List SourceToken)
    → reading known goal.expression tokens ≡ Some (e, rest) → (n : ℕ) (other : Expression) → n ≤ length tokens
    → IsExpression known (take n tokens) other → n ≤ length tokens - length rest
longest_by_length known tokens e rest is n other most fits =
    let longest = expression_longest known tokens e rest is (take n tokens) (drop n tokens) other (sym (take-append-drop n tokens)) fits in
    let behind : length (drop n tokens) ≡ length tokens - n = length-drop n tokens in
    omega (arith, longest, behind, most)

-- the first n tokens are one expression at most
pub only_by_length : (known : Known) (tokens : List SourceToken) (e other : Expression) (n : ℕ) → IsExpression known (take n tokens) e
    → IsExpression known (take n tokens) other → e ≡ other
only_by_length known tokens e other n = expression_only known (take n tokens) e other

-- if nothing is read, no first tokens are an expression
pub none_by_length : (known : Known) (tokens : List SourceToken) → reading known goal.expression tokens ≡ None → (n : ℕ) (other : Expression)
    → IsExpression known (take n tokens) other → ⊥
none_by_length known tokens is n other =
    expression_none known tokens is (take n tokens) (drop n tokens) other (sym (take-append-drop n tokens))
