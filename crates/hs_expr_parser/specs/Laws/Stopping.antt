-- If an expression does not go on, nothing more of it is read.
--     looser                        what stops a tight expression's looser ones stops it too
--     suffix_none, operand_none, branches_none, value_none, another_none
use Rattle.std.proofs.Common.{◌≡◌, ℕ, ◌≤◌, true, false, List, [], ◌∷◌, Option, Some, None, refl, ap, sym, ◌∙◌, inl, inr, arith}
use Rattle.std.specs.Prelude.{◌+◌, nat_le, codes}
use Rattle.std.proofs.lemmas.Bool.{cases_Bool}
use Rattle.std.proofs.lemmas.Bool.Decides.{nat_tests}
use Rattle.hs_tokens.specs.KindLaws.{kind_is}
use Rattle.hs_tokens.specs.declared.token.SourceToken.{SourceToken}
use Rattle.hs_tokens.specs.declared.token.TokenKind.{TokenKind}
use Rattle.hs_tokens.specs.declared.token.TokenKind.TheVariants.{Punctuator}
use Rattle.hs_tokens.specs.Marks.{is_same_kind}
use Rattle.hs_syntax.specs.Operators.{precedence_of, binary_text, assign_text, access_text, postfix_text}
use Rattle.hs_syntax.specs.Trees.{Expression}
use Rattle.hs_syntax.specs.declared.operators.Access.{Access}
use Rattle.hs_syntax.specs.declared.operators.Access.TheVariants as access
use Rattle.hs_syntax.specs.declared.operators.AssignOperator.{AssignOperator}
use Rattle.hs_syntax.specs.declared.operators.AssignOperator.TheVariants as assigning
use Rattle.hs_syntax.specs.declared.operators.BinaryOperator.{BinaryOperator}
use Rattle.hs_syntax.specs.declared.operators.BinaryOperator.TheVariants as binary
use Rattle.hs_syntax.specs.declared.operators.PostfixOperator.{PostfixOperator}
use Rattle.hs_syntax.specs.declared.operators.PostfixOperator.TheVariants as postfix
use Rattle.hs_expr_parser.specs.Ahead.{place_of, is_punctuator, spelled_so, token_so, binary_operators, assign_operators, accesses, postfix_operators, binary_of, assign_of, access_of, postfix_of, mark_at, joins, is_below, stops}
use Rattle.hs_expr_parser.specs.Reading.{Shorter, suffix_rule, member_rule, operand_by, operand_rule, branches_rule, value_rule, value_by, another_rule}
use Rattle.hs_expr_parser.specs.Laws.Apart.{with_text, source_is, token_is, spelled_is}

-- the token that an operator or a word is
pub operator_is : {A : Type 0} (kind : TokenKind) (spelling : A → List ℕ) (all : List A) (source : SourceToken) (it : A)
    → token_so kind spelling all source ≡ Some it → source ≡ with_text kind (spelling it) source
operator_is kind spelling all source it is =
    elim (cases_Bool (is_same_kind source.token.kind kind)) [
      | inl same ↦
          let found : spelled_so spelling all source.token.text ≡ Some it = sym (rw same refl) ∙ is in
          source_is kind (spelling it) source (kind_is source.token.kind kind same) (spelled_is spelling all source.token.text it found)
      | inr other ↦
          let found : None ≡ Some it = sym (rw other refl) ∙ is in
          absurd cc
    ]

-- a number below one is below a greater one
below_looser : (rank : Option ℕ) (tight loose : ℕ) → tight ≤ loose → is_below tight rank ≡ true → is_below loose rank ≡ true
below_looser None tight loose more is = refl
below_looser (Some rank) tight loose more is = grind (arith, nat_tests)

-- An expression that does not go on there has no tighter part that does.
pub looser : (tight loose : ℕ) (tokens : List SourceToken) → tight ≤ loose → stops tight tokens ≡ true → stops loose tokens ≡ true
looser tight loose [] more is = refl
looser tight loose (source ∷ rest) more is = below_looser (joins source) tight loose more is

-- nothing stops before a token that it goes on with
not_stopped : (rank : ℕ) (source other : SourceToken) → source ≡ other → is_below rank (joins other) ≡ false → is_below rank (joins source) ≡ true → ⊥
not_stopped rank source other same goes stops =
    let both : false ≡ true = sym goes ∙ ap (λ it. is_below rank (joins it)) (sym same) ∙ stops in
    cc

-- an operator of a member
access_goes : (rank : ℕ) (it : Access) (source : SourceToken) → rank ≤ 15 → is_below rank (joins (with_text Punctuator (access_text it) source)) ≡ false
access_goes rank access.Dot source most = grind (arith, nat_tests)
access_goes rank access.Arrow source most = grind (arith, nat_tests)

-- `++` and `--`
postfix_goes : (rank : ℕ) (it : PostfixOperator) (source : SourceToken) → rank ≤ 15
    → is_below rank (joins (with_text Punctuator (postfix_text it) source)) ≡ false
postfix_goes rank postfix.Increment source most = grind (arith, nat_tests)
postfix_goes rank postfix.Decrement source most = grind (arith, nat_tests)

-- a mark with which a postfix expression goes on is not there
no_mark : (text : List ℕ) (source : SourceToken) (rank : ℕ) → is_below rank (joins (with_text Punctuator text source)) ≡ false
    → is_below rank (joins source) ≡ true
    → is_punctuator text source ≡ false
no_mark text source rank goes stops =
    elim (cases_Bool (is_punctuator text source)) [
      | inl is ↦ absurd (not_stopped rank source (with_text Punctuator text source) (token_is Punctuator text source is) goes stops)
      | inr is ↦ is
    ]

-- nor is an operator of a member
no_access : (source : SourceToken) (found : Option Access) → access_of source ≡ found → is_below 15 (joins source) ≡ true → found ≡ None
no_access source None is stops = refl
no_access source (Some it) is stops =
    absurd (not_stopped 15 source (with_text Punctuator (access_text it) source)
    (operator_is Punctuator access_text accesses source it is) (access_goes 15 it source (omega arith)) stops)

-- nor `++` nor `--`
no_postfix : (source : SourceToken) (found : Option PostfixOperator) → postfix_of source ≡ found → is_below 15 (joins source) ≡ true → found ≡ None
no_postfix source None is stops = refl
no_postfix source (Some it) is stops =
    absurd (not_stopped 15 source (with_text Punctuator (postfix_text it) source)
    (operator_is Punctuator postfix_text postfix_operators source it is) (postfix_goes 15 it source (omega arith)) stops)

-- no suffix
pub suffix_none : (table : Shorter) (e : Expression) (tokens : List SourceToken) → stops 15 tokens ≡ true → suffix_rule table e tokens ≡ None
suffix_none table e [] is = refl
suffix_none table e (source ∷ rest) is =
    let index : is_punctuator (codes "[") source ≡ false = no_mark (codes "[") source 15 refl is in
    let call : is_punctuator (codes "(") source ≡ false = no_mark (codes "(") source 15 refl is in
    rw index (rw call (
    ap (λ found. member_rule e found (postfix_of source) (place_of source) rest) (no_access source (access_of source) refl is)
    ∙ ap (λ found. member_rule e None found (place_of source) rest) (no_postfix source (postfix_of source) refl is)))

-- a binary operator joins at its precedence
pub binary_joins : (it : BinaryOperator) (source : SourceToken) → joins (with_text Punctuator (binary_text it) source) ≡ Some (2 + precedence_of it)
binary_joins binary.Multiply source = refl
binary_joins binary.Divide source = refl
binary_joins binary.Remainder source = refl
binary_joins binary.Add source = refl
binary_joins binary.Subtract source = refl
binary_joins binary.ShiftLeft source = refl
binary_joins binary.ShiftRight source = refl
binary_joins binary.Less source = refl
binary_joins binary.Greater source = refl
binary_joins binary.LessEqual source = refl
binary_joins binary.GreaterEqual source = refl
binary_joins binary.Equal source = refl
binary_joins binary.NotEqual source = refl
binary_joins binary.BitAnd source = refl
binary_joins binary.BitXor source = refl
binary_joins binary.BitOr source = refl
binary_joins binary.And source = refl
binary_joins binary.Or source = refl

-- no operator of that precedence
operand_by_none : (table : Shorter) (least most : ℕ) (found : Option BinaryOperator) (source : SourceToken) (rest : List SourceToken)
    → binary_of source ≡ found → is_below (2 + least) (joins source) ≡ true → operand_by table least most found (place_of source) rest ≡ None
operand_by_none table least most None source rest is stops = refl
operand_by_none table least most (Some it) source rest is stops =
    let same : joins source ≡ Some (2 + precedence_of it) =
    ap joins (operator_is Punctuator binary_text binary_operators source it is) ∙ binary_joins it source in
    let low : is_below (2 + least) (Some (2 + precedence_of it)) ≡ true = ap (is_below (2 + least)) (sym same) ∙ stops in
    let loose : nat_le least (precedence_of it) ≡ false = grind (arith, nat_tests) in
    rw loose refl

pub operand_none : (table : Shorter) (least most : ℕ) (tokens : List SourceToken) → stops (2 + least) tokens ≡ true
    → operand_rule table least most tokens ≡ None
operand_none table least most [] is = refl
operand_none table least most (source ∷ rest) is = operand_by_none table least most (binary_of source) source rest refl is

-- a mark that is not there
mark_none : (text : List ℕ) (rank : ℕ) (tokens : List SourceToken) → ((source : SourceToken) → is_below rank (joins (with_text Punctuator text source)) ≡ false)
    → stops rank tokens ≡ true → mark_at text tokens ≡ None
mark_none text rank [] goes is = refl
mark_none text rank (source ∷ rest) goes is =
    let other : is_punctuator text source ≡ false = no_mark text source rank (goes source) is in
    rw other refl

-- no branches
pub branches_none : (table : Shorter) (tokens : List SourceToken) → stops 2 tokens ≡ true → branches_rule table tokens ≡ None
branches_none table tokens is =
    let none : mark_at (codes "?") tokens ≡ None = mark_none (codes "?") 2 tokens (λ source. refl) is in
    rw none refl

-- no comma
pub another_none : (table : Shorter) (tokens : List SourceToken) → stops 0 tokens ≡ true → another_rule table tokens ≡ None
another_none table tokens is =
    let none : mark_at (codes ",") tokens ≡ None = mark_none (codes ",") 0 tokens (λ source. refl) is in
    rw none refl

-- the operator of an assignment joins at 1
pub assign_joins : (it : AssignOperator) (source : SourceToken) → joins (with_text Punctuator (assign_text it) source) ≡ Some 1
assign_joins assigning.Plain source = refl
assign_joins assigning.Multiply source = refl
assign_joins assigning.Divide source = refl
assign_joins assigning.Remainder source = refl
assign_joins assigning.Add source = refl
assign_joins assigning.Subtract source = refl
assign_joins assigning.ShiftLeft source = refl
assign_joins assigning.ShiftRight source = refl
assign_joins assigning.BitAnd source = refl
assign_joins assigning.BitXor source = refl
assign_joins assigning.BitOr source = refl

value_by_none : (table : Shorter) (found : Option AssignOperator) (source : SourceToken) (rest : List SourceToken)
    → assign_of source ≡ found → is_below 1 (joins source) ≡ true → value_by table found (place_of source) rest ≡ None
value_by_none table None source rest is stops = refl
value_by_none table (Some it) source rest is stops =
    let same : joins source ≡ Some 1 = ap joins (operator_is Punctuator assign_text assign_operators source it is) ∙ assign_joins it source in
    let wrong : false ≡ true = ap (is_below 1) (sym same) ∙ stops in
    absurd cc

-- nothing is assigned
pub value_none : (table : Shorter) (tokens : List SourceToken) → stops 1 tokens ≡ true → value_rule table tokens ≡ None
value_none table [] is = refl
value_none table (source ∷ rest) is = value_by_none table (assign_of source) source rest refl is
