-- Each expression is read: from any stack that takes its precedence, its tokens lead to what its value leads to.
--     complete       the tokens of an expression are read as its value
--     value_is       so the tokens of a condition have its value
use Rattle.std.proofs.Common.{◌≡◌, ℕ, ◌≤◌, true, false, List, [], ◌∷◌, ◌++◌, Option, Some, None, refl, ap, ◌∙◌, arith}
use Rattle.std.specs.Prelude.{nat_le, codes, ◌==◌}
use Rattle.std.specs.Str.{bytes_eq}
use Rattle.std.proofs.lemmas.Bool.{and_parts}
use Rattle.std.proofs.lemmas.Bool.Decides.{nat_tests}
use Rattle.std.proofs.lemmas.Slice.Eq.{bytes_eq-Decides}
use Rattle.hs_tokens.specs.declared.token.Token.{Token}
use Rattle.hs_tokens.specs.declared.token.TokenKind.{TokenKind}
use Rattle.hs_tokens.specs.declared.token.TokenKind.TheVariants.{Identifier, Number, Character, Literal, Punctuator}
use Rattle.hs_tokens.specs.KindLaws.{kind_is}
use Rattle.hs_tokens.specs.Marks.{is_same_kind, is_mark}
use Rattle.hs_constants.specs.Arithmetic.{binary_value, chosen}
use Rattle.hs_constants.specs.Conditions.{constant_by, constant_of, unary_of, binary_of, precedence_of, Means}
use Rattle.hs_constants.specs.Conditions.Means.{constant, group, prefixed, infixed, conditional, tighter}
use Rattle.hs_constants.specs.Reading.{Settled, settled, Reading, before, behind, operand_by, operand_step, operator_by, operator_step, infix_step, question_step, colon_step, close_step, stepped, steps, value_of, ended, condition_value}
use Rattle.hs_constants.specs.declared.value.Value.{Value}
use Rattle.hs_constants.specs.declared.operator.Unary.{Unary}
use Rattle.hs_constants.specs.declared.operator.Binary.{Binary}
use Rattle.hs_constants.specs.declared.waiting.Waiting.{Waiting}
use Rattle.hs_constants.specs.declared.waiting.Waiting.TheVariants.{Group, Prefix, Infix, Test, Branch}
use Rattle.hs_constants.proofs.Precedences.{demand, precedence_within}

-- a token that is a mark is this token
marked : (mark : List ℕ) (token : Token) → is_mark mark token ≡ true → token ≡ record token { kind = Punctuator; text = mark }
marked mark token is =
    let tests = and_parts (is_same_kind token.kind Punctuator) (bytes_eq token.text mark) is in
    let kind : token.kind ≡ Punctuator = kind_is token.kind Punctuator tests.0 in
    let text : token.text ≡ mark = (bytes_eq-Decides token.text mark).0 tests.1 in
    λ i. record token { kind = kind i; text = text i }

-- an operator in front is no constant, by the kind of the token
apart_by : (kind : TokenKind) (token : Token) (operator : Unary) → unary_of (record token { kind = kind }) ≡ Some operator
    → constant_by kind token.text ≡ None
apart_by Identifier token operator is = absurd cc
apart_by Number token operator is = absurd cc
apart_by Character token operator is = absurd cc
apart_by Literal token operator is = refl
apart_by Punctuator token operator is = refl

-- the same of the token
prefix_apart : (token : Token) (operator : Unary) → unary_of token ≡ Some operator → constant_of token ≡ None
prefix_apart token operator is = apart_by token.kind token operator is

-- a wrong token leaves the rest wrong
pub steps-None : (tokens : List Token) → steps None tokens ≡ None
steps-None [] = refl
steps-None (token ∷ tokens) = steps-None tokens

-- tokens after tokens
pub steps-append : (reading : Option Reading) (tokens others : List Token) → steps reading (tokens ++ others) ≡ steps (steps reading tokens) others
steps-append reading [] others = refl
steps-append reading (token ∷ tokens) others = steps-append (stepped reading token) tokens others

-- what takes only tighter operands than the precedence stays
stays : (precedence : ℕ) (waiting : List Waiting) (value : Value) → demand waiting ≤ precedence → 1 ≤ precedence → precedence ≤ 10
    → settled precedence waiting value ≡ record { waiting = waiting; value = value }
stays precedence [] value takes some most = refl
stays precedence (Group ∷ waiting) value takes some most = refl
stays precedence (Prefix operator ∷ waiting) value takes some most = absurd (omega arith)
stays precedence (Infix left operator ∷ waiting) value takes some most =
    let looser : nat_le precedence (precedence_of operator) ≡ false = grind (arith, nat_tests) in
    rw looser refl
stays precedence (Test test ∷ waiting) value takes some most = refl
stays precedence (Branch test left ∷ waiting) value takes some most =
    let positive : (precedence == 0) ≡ false = grind (arith, nat_tests) in
    rw positive refl

-- the tokens are read, from that stack, as an operand of that precedence and value
pub record IsRead (waiting : List Waiting) (precedence : ℕ) (tokens : List Token) (value : Value) : Type 0 where
  pub left : List Waiting
  pub last : Value
  pub reads : steps (Some (before waiting)) tokens ≡ Some (behind left last)
  pub same : (loosest : ℕ) → loosest ≤ precedence → settled loosest left last ≡ settled loosest waiting value

-- an operator between two takes an operand at each precedence down to its own
takes_infix : (precedence : ℕ) (left : Value) (operator : Binary) (waiting : List Waiting) (value : Value) → precedence ≤ precedence_of operator
    → settled precedence (Infix left operator ∷ waiting) value ≡ settled precedence waiting (binary_value operator left value)
takes_infix precedence left operator waiting value tight =
    let tighter' : nat_le precedence (precedence_of operator) ≡ true = grind (arith, nat_tests) in
    rw tighter' refl

-- a `:` takes one at the loosest precedence
takes_branch : (precedence : ℕ) (test left : Value) (waiting : List Waiting) (value : Value) → precedence ≤ 0
    → settled precedence (Branch test left ∷ waiting) value ≡ settled precedence waiting (chosen test left value)
takes_branch precedence test left waiting value loose =
    let none : (precedence == 0) ≡ true = grind (arith, nat_tests) in
    rw none refl

-- a constant is read
constant_reads : (waiting : List Waiting) (token : Token) (value : Value) → constant_of token ≡ Some value
    → operand_step waiting token ≡ Some (behind waiting value)
constant_reads waiting token value is =
    ap (λ (found : Option Value). operand_by waiting found (unary_of token) (is_mark (codes "(") token)) is

-- an operator in front
prefix_reads : (waiting : List Waiting) (token : Token) (operator : Unary) → unary_of token ≡ Some operator
    → operand_step waiting token ≡ Some (before (Prefix operator ∷ waiting))
prefix_reads waiting token operator is =
    ap (λ (found : Option Value). operand_by waiting found (unary_of token) (is_mark (codes "(") token)) (prefix_apart token operator is)
    ∙ ap (λ (found : Option Unary). operand_by waiting None found (is_mark (codes "(") token)) is

-- an open parenthesis
open_reads : (waiting : List Waiting) (token : Token) → is_mark (codes "(") token ≡ true → operand_step waiting token ≡ Some (before (Group ∷ waiting))
open_reads waiting token is = ap (operand_step waiting) (marked (codes "(") token is)

-- an operator between two
infix_reads : (waiting : List Waiting) (value : Value) (token : Token) (operator : Binary) → binary_of token ≡ Some operator
    → operator_step waiting value token ≡ infix_step operator (settled (precedence_of operator) waiting value)
infix_reads waiting value token operator is =
    let marks : Option Binary → Option Reading =
    λ found. operator_by (λ precedence. settled precedence waiting value) found (is_mark (codes "?") token) (is_mark (codes ":") token)
    (is_mark (codes ")") token) in
    ap marks is

-- a `?`
question_reads : (waiting : List Waiting) (value : Value) (token : Token) → is_mark (codes "?") token ≡ true
    → operator_step waiting value token ≡ question_step (settled 1 waiting value)
question_reads waiting value token is = ap (operator_step waiting value) (marked (codes "?") token is)

-- a `:`
colon_reads : (waiting : List Waiting) (value : Value) (token : Token) → is_mark (codes ":") token ≡ true
    → operator_step waiting value token ≡ colon_step (settled 0 waiting value).waiting (settled 0 waiting value).value
colon_reads waiting value token is = ap (operator_step waiting value) (marked (codes ":") token is)

-- a `)`
close_reads : (waiting : List Waiting) (value : Value) (token : Token) → is_mark (codes ")") token ≡ true
    → operator_step waiting value token ≡ close_step (settled 0 waiting value).waiting (settled 0 waiting value).value
close_reads waiting value token is = ap (operator_step waiting value) (marked (codes ")") token is)

-- each expression is read
pub complete : {precedence : ℕ} {tokens : List Token} {value : Value} → Means precedence tokens value → (waiting : List Waiting) → demand waiting ≤ precedence
    → IsRead waiting precedence tokens value
complete (constant token value is) waiting takes = record {
  left = waiting;
  last = value;
  reads = constant_reads waiting token value is;
  same = λ loosest within. refl;
}
complete (group first last tokens value is_open is_close inside) waiting takes =
    let inner = complete inside (Group ∷ waiting) (omega arith) in
    record {
      left = waiting;
      last = value;
      reads = ap (λ (reading : Option Reading). steps reading (tokens ++ last ∷ [])) (open_reads waiting first is_open)
          ∙ steps-append (Some (before (Group ∷ waiting))) tokens (last ∷ [])
          ∙ ap (λ (reading : Option Reading). stepped reading last) inner.reads
          ∙ close_reads inner.left inner.last last is_close
          ∙ ap (λ (it : Settled). close_step it.waiting it.value) (inner.same 0 (omega arith));
      same = λ loosest within. refl;
    }
complete (prefixed token operator tokens value is operand) waiting takes =
    let inner = complete operand (Prefix operator ∷ waiting) (omega arith) in
    record {
      left = inner.left;
      last = inner.last;
      reads = ap (λ (reading : Option Reading). steps reading tokens) (prefix_reads waiting token operator is) ∙ inner.reads;
      same = λ loosest within. inner.same loosest within;
    }
complete (infixed token operator left right value other is first second) waiting takes =
    let inner = complete first waiting takes in
    let outer = complete second (Infix value operator ∷ waiting) (omega arith) in
    let precedences = precedence_within operator in
    let begun : stepped (Some (behind inner.left inner.last)) token ≡ Some (before (Infix value operator ∷ waiting)) =
    infix_reads inner.left inner.last token operator is
    ∙ ap (infix_step operator)
    (inner.same (precedence_of operator) (omega arith) ∙ stays (precedence_of operator) waiting value takes precedences.0 precedences.1) in
    record {
      left = outer.left;
      last = outer.last;
      reads = steps-append (Some (before waiting)) left (token ∷ right)
          ∙ ap (λ (reading : Option Reading). steps reading (token ∷ right)) inner.reads
          ∙ ap (λ (reading : Option Reading). steps reading right) begun
          ∙ outer.reads;
      same = λ loosest within. outer.same loosest (omega arith) ∙ takes_infix loosest value operator waiting other within;
    }
complete (conditional question colon test left right value first second is_question is_colon tested one two) waiting takes =
    let test' = complete tested waiting (omega arith) in
    let left' = complete one (Test value ∷ waiting) (omega arith) in
    let right' = complete two (Branch value first ∷ waiting) (omega arith) in
    let asked : stepped (Some (behind test'.left test'.last)) question ≡ Some (before (Test value ∷ waiting)) =
    question_reads test'.left test'.last question is_question
    ∙ ap question_step (test'.same 1 (omega arith) ∙ stays 1 waiting value (omega arith) (omega arith) (omega arith)) in
    let parted : stepped (Some (behind left'.left left'.last)) colon ≡ Some (before (Branch value first ∷ waiting)) =
    colon_reads left'.left left'.last colon is_colon
    ∙ ap (λ (it : Settled). colon_step it.waiting it.value) (left'.same 0 (omega arith)) in
    record {
      left = right'.left;
      last = right'.last;
      reads = steps-append (Some (before waiting)) test (question ∷ (left ++ colon ∷ right))
          ∙ ap (λ (reading : Option Reading). steps reading (question ∷ (left ++ colon ∷ right))) test'.reads
          ∙ ap (λ (reading : Option Reading). steps reading (left ++ colon ∷ right)) asked
          ∙ steps-append (Some (before (Test value ∷ waiting))) left (colon ∷ right)
          ∙ ap (λ (reading : Option Reading). steps reading (colon ∷ right)) left'.reads
          ∙ ap (λ (reading : Option Reading). steps reading right) parted
          ∙ right'.reads;
      same = λ loosest within. right'.same loosest within ∙ takes_branch loosest value first waiting second within;
    }
complete (tighter precedence tokens value means) waiting takes =
    let inner = complete means waiting (omega arith) in
    record {
      left = inner.left;
      last = inner.last;
      reads = inner.reads;
      same = λ loosest within. inner.same loosest (omega arith);
    }

-- the tokens of a condition have its value
pub value_is : (tokens : List Token) (value : Value) → Means 0 tokens value → condition_value tokens ≡ Some value
value_is tokens value means =
    let all = complete means [] (omega arith) in
    ap ended all.reads ∙ ap (λ (it : Settled). value_of it.waiting it.value) (all.same 0 (omega arith))
