-- What is read is an expression: what waits stands for tokens, and an operand for an expression.
--     Spells waiting tokens     the tokens stand before an operand, and this waits after them
--     means_of                  a condition that has a value is an expression of that value
use Rattle.std.proofs.Common.{◌≡◌, ℕ, suc, ◌≤◌, Bool, true, false, List, [], ◌∷◌, ◌++◌, Option, Some, None, refl, sym, ap, subst, ◌∙◌, inl, inr, append_assoc, arith}
use Rattle.std.specs.Prelude.{nat_le, codes, ◌==◌}
use Rattle.std.proofs.lemmas.Bool.{cases_Bool}
use Rattle.std.proofs.lemmas.Bool.Decides.{nat_tests}
use Rattle.std.proofs.lemmas.List.{append-nil}
use Rattle.hs_tokens.specs.declared.token.Token.{Token}
use Rattle.hs_tokens.specs.Marks.{is_mark}
use Rattle.hs_constants.specs.Arithmetic.{unary_value, binary_value, chosen}
use Rattle.hs_constants.specs.Conditions.{constant_of, unary_of, binary_of, precedence_of, Means}
use Rattle.hs_constants.specs.Conditions.Means.{constant, group, prefixed, infixed, conditional}
use Rattle.hs_constants.specs.Reading.{Settled, settled, Reading, before, operand_by, operator_by, infix_step, question_step, colon_step, close_step, step, steps, value_of, ended, ended_at, condition_value}
use Rattle.hs_constants.specs.declared.value.Value.{Value}
use Rattle.hs_constants.specs.declared.operator.Unary.{Unary}
use Rattle.hs_constants.specs.declared.operator.Binary.{Binary}
use Rattle.hs_constants.specs.declared.waiting.Waiting.{Waiting}
use Rattle.hs_constants.specs.declared.waiting.Waiting.TheVariants.{Group, Prefix, Infix, Test, Branch}
use Rattle.hs_constants.specs.declared.condition.Stage.{Stage}
use Rattle.hs_constants.specs.declared.condition.Stage.TheVariants.{Before, Behind}
use Rattle.hs_constants.proofs.Precedences.{demand, precedence_within, demand_within, no_operator, looser}

-- the tokens stand before an operand, and this waits after them
data Spells : List Waiting → List Token → Type 0 where
  -- nothing was read
  empty : Spells [] []
  -- an open parenthesis
  opened : (waiting : List Waiting) (tokens : List Token) (token : Token) → Spells waiting tokens → is_mark (codes "(") token ≡ true
      → Spells (Group ∷ waiting) (tokens ++ token ∷ [])
  -- an operator in front
  in_front : (waiting : List Waiting) (tokens : List Token) (token : Token) (operator : Unary) → Spells waiting tokens → unary_of token ≡ Some operator
      → Spells (Prefix operator ∷ waiting) (tokens ++ token ∷ [])
  -- a left operand and its operator
  between : (waiting : List Waiting) (tokens left : List Token) (token : Token) (operator : Binary) (value : Value) → Spells waiting tokens
      → demand waiting ≤ precedence_of operator → Means (precedence_of operator) left value → binary_of token ≡ Some operator
      → Spells (Infix value operator ∷ waiting) (tokens ++ (left ++ token ∷ []))
  -- a test and its `?`
  asked : (waiting : List Waiting) (tokens test : List Token) (question : Token) (value : Value) → Spells waiting tokens → demand waiting ≤ 0
      → Means 1 test value → is_mark (codes "?") question ≡ true → Spells (Test value ∷ waiting) (tokens ++ (test ++ question ∷ []))
  -- a test, its `?`, the first branch and its `:`
  parted : (waiting : List Waiting) (tokens test left : List Token) (question colon : Token) (value first : Value) → Spells waiting tokens → demand waiting ≤ 0
      → Means 1 test value → is_mark (codes "?") question ≡ true → Means 0 left first → is_mark (codes ":") colon ≡ true
      → Spells (Branch value first ∷ waiting) (tokens ++ (test ++ question ∷ (left ++ colon ∷ [])))

-- before what still waits stand tokens, and the others are an expression of the precedence
record IsSettled (precedence : ℕ) (tokens : List Token) (it : Settled) : Type 0 where
  front : List Token
  operand : List Token
  spells : Spells it.waiting front
  means : Means precedence operand it.value
  takes : demand it.waiting ≤ precedence
  whole : front ++ operand ≡ tokens

-- the same of the same tokens
settled_along : {precedence : ℕ} {tokens others : List Token} {it : Settled} → tokens ≡ others → IsSettled precedence tokens it → IsSettled precedence others it
settled_along {precedence = precedence} {it = it} same is = subst (λ (tokens : List Token). IsSettled precedence tokens it) same is

-- nothing more takes the operand
kept : (precedence : ℕ) {waiting : List Waiting} {front : List Token} → Spells waiting front → (operand : List Token) (value : Value) (tight : ℕ)
    → Means tight operand value → precedence ≤ tight → demand waiting ≤ precedence
    → IsSettled precedence (front ++ operand) (record { waiting = waiting; value = value })
kept precedence {front = front} spells operand value tight means within takes =
    record { front = front; operand = operand; spells = spells; means = looser precedence tight within means; takes = takes; whole = refl }

-- what settles is an expression, with what settles in it
settles : (precedence : ℕ) {waiting : List Waiting} {front : List Token} → Spells waiting front → (operand : List Token) (value : Value) (tight : ℕ)
    → Means tight operand value → demand waiting ≤ tight → precedence ≤ tight → precedence ≤ 11
    → IsSettled precedence (front ++ operand) (settled precedence waiting value)
settles precedence empty operand value tight means takes within most = kept precedence empty operand value tight means within (omega arith)
settles precedence (opened waiting front token spells is) operand value tight means takes within most =
    kept precedence (opened waiting front token spells is) operand value tight means within (omega arith)
settles precedence (in_front waiting front token operator spells is) operand value tight means takes within most =
    settled_along (sym (append_assoc front (token ∷ []) operand))
    (settles precedence spells (token ∷ operand) (unary_value operator value) 11 (prefixed token operator operand value is (looser 11 tight takes means))
    (demand_within waiting) most most)
settles precedence (between waiting front left token operator first spells fits lefts is) operand value tight means takes within most =
    elim (cases_Bool (nat_le precedence (precedence_of operator))) [
      | inl taken ↦ rw taken (
          let within' : precedence ≤ precedence_of operator = grind (arith, nat_tests) in
          settled_along (simp append_assoc)
          (settles precedence spells (left ++ token ∷ operand) (binary_value operator first value) (precedence_of operator)
          (infixed token operator left operand first value is lefts (looser (suc (precedence_of operator)) tight takes means)) fits within' most))
      | inr stays ↦ rw stays (
          let takes' : suc (precedence_of operator) ≤ precedence = grind (arith, nat_tests) in
          kept precedence (between waiting front left token operator first spells fits lefts is) operand value tight means within takes')
    ]
settles precedence (asked waiting front test question first spells fits tests is) operand value tight means takes within most =
    kept precedence (asked waiting front test question first spells fits tests is) operand value tight means within (omega arith)
settles precedence (parted waiting front test left question colon first second spells fits tests is lefts is_colon) operand value tight
    means takes within most =
    elim (cases_Bool (precedence == 0)) [
      | inl taken ↦ rw taken (
          let within' : precedence ≤ 0 = grind (arith, nat_tests) in
          settled_along (simp append_assoc)
          (settles precedence spells (test ++ question ∷ (left ++ colon ∷ operand)) (chosen first second value) 0
          (conditional question colon test left operand first second value is is_colon tests lefts (looser 0 tight takes means)) fits within' most))
      | inr stays ↦ rw stays
          (kept precedence (parted waiting front test left question colon first second spells fits tests is lefts is_colon) operand value tight means within
          (omega arith))
    ]

-- an operand was read last
record IsOperand (waiting : List Waiting) (value : Value) (tokens : List Token) : Type 0 where
  front : List Token
  operand : List Token
  spells : Spells waiting front
  means : Means 11 operand value
  whole : front ++ operand ≡ tokens

-- the tokens lead to this place
abbrev IsAt : Stage → List Waiting → List Token → Type 0
IsAt Before waiting tokens = Spells waiting tokens
IsAt (Behind value) waiting tokens = IsOperand waiting value tokens

-- the tokens lead there, if none is wrong
abbrev IsReading : Option Reading → List Token → Type 0
IsReading None tokens = Unit {0}
IsReading (Some reading) tokens = IsAt reading.place reading.waiting tokens

-- the same of the same tokens
reading_along : (reading : Option Reading) {tokens others : List Token} → tokens ≡ others → IsReading reading tokens → IsReading reading others
reading_along reading same is = subst (λ (tokens : List Token). IsReading reading tokens) same is

-- a token where an operand is expected
operand_on : (waiting : List Waiting) (tokens : List Token) (token : Token) (found : Option Value) (operator : Option Unary) (is_group : Bool)
    → Spells waiting tokens → constant_of token ≡ found → unary_of token ≡ operator → is_mark (codes "(") token ≡ is_group
    → IsReading (operand_by waiting found operator is_group) (tokens ++ token ∷ [])
operand_on waiting tokens token (Some value) operator is_group spells is_constant is_operator is =
    record { front = tokens; operand = token ∷ []; spells = spells; means = constant token value is_constant; whole = refl }
operand_on waiting tokens token None (Some operator) is_group spells is_constant is_operator is = in_front waiting tokens token operator spells is_operator
operand_on waiting tokens token None None true spells is_constant is_operator is = opened waiting tokens token spells is
operand_on waiting tokens token None None false spells is_constant is_operator is = tt

-- a `:` after an operand
colon_on : {waiting : List Waiting} {front : List Token} → Spells waiting front → (operand : List Token) (value : Value) (colon : Token) → Means 0 operand value
    → is_mark (codes ":") colon ≡ true → IsReading (colon_step waiting value) (front ++ (operand ++ colon ∷ []))
colon_on empty operand value colon means is = tt
colon_on (opened waiting front token spells is_open) operand value colon means is = tt
colon_on (in_front waiting front token operator spells is_operator) operand value colon means is = tt
colon_on (between waiting front left token operator first spells fits lefts is_operator) operand value colon means is = tt
colon_on (asked waiting front test question first spells fits tests is_question) operand value colon means is =
    reading_along (Some (before (Branch first value ∷ waiting))) (simp append_assoc)
    (parted waiting front test operand question colon first value spells fits tests is_question means is)
colon_on (parted waiting front test left question token first second spells fits tests is_question lefts is_colon) operand value colon means is = tt

-- a `)` after an operand
close_on : {waiting : List Waiting} {front : List Token} → Spells waiting front → (operand : List Token) (value : Value) (close : Token) → Means 0 operand value
    → is_mark (codes ")") close ≡ true → IsReading (close_step waiting value) (front ++ (operand ++ close ∷ []))
close_on empty operand value close means is = tt
close_on (opened waiting front token spells is_open) operand value close means is = record {
  front = front;
  operand = token ∷ (operand ++ close ∷ []);
  spells = spells;
  means = group token close operand value is_open is means;
  whole = simp append_assoc;
}
close_on (in_front waiting front token operator spells is_operator) operand value close means is = tt
close_on (between waiting front left token operator first spells fits lefts is_operator) operand value close means is = tt
close_on (asked waiting front test question first spells fits tests is_question) operand value close means is = tt
close_on (parted waiting front test left question token first second spells fits tests is_question lefts is_colon) operand value close means is = tt

-- a token after an operand
module _ (waiting : List Waiting) (value : Value) (tokens : List Token) (token : Token) (operand : IsOperand waiting value tokens) where
  -- what settles at the precedence
  at_precedence : (precedence : ℕ) → precedence ≤ 11 → IsSettled precedence tokens (settled precedence waiting value)
  at_precedence precedence most =
      settled_along operand.whole (settles precedence operand.spells operand.operand value 11 operand.means (demand_within waiting) most most)

  -- the token after it
  token_behind : {precedence : ℕ} {it : Settled} (is : IsSettled precedence tokens it) → is.front ++ (is.operand ++ token ∷ []) ≡ tokens ++ token ∷ []
  token_behind is = sym (append_assoc is.front is.operand (token ∷ [])) ∙ ap (λ (all : List Token). all ++ token ∷ []) is.whole

  -- by what the token is
  operator_on : (operator : Option Binary) (is_question is_colon is_close : Bool) → binary_of token ≡ operator → is_mark (codes "?") token ≡ is_question
      → is_mark (codes ":") token ≡ is_colon → is_mark (codes ")") token ≡ is_close
      → IsReading (operator_by (λ precedence. settled precedence waiting value) operator is_question is_colon is_close) (tokens ++ token ∷ [])
  operator_on (Some operator) is_question is_colon is_close is asks parts ends =
      let left = at_precedence (precedence_of operator) (omega (arith, (precedence_within operator).1)) in
      let it : Settled = settled (precedence_of operator) waiting value in
      reading_along (infix_step operator it) (token_behind left)
      (between it.waiting left.front left.operand token operator it.value left.spells left.takes left.means is)
  operator_on None true is_colon is_close is asks parts ends =
      let test = at_precedence 1 (omega arith) in
      let it : Settled = settled 1 waiting value in
      reading_along (question_step it) (token_behind test)
      (asked it.waiting test.front test.operand token it.value test.spells (no_operator it.waiting test.takes) test.means asks)
  operator_on None false true is_close is asks parts ends =
      let left = at_precedence 0 (omega arith) in
      let it : Settled = settled 0 waiting value in
      reading_along (colon_step it.waiting it.value) (token_behind left) (colon_on left.spells left.operand it.value token left.means parts)
  operator_on None false false true is asks parts ends =
      let inside = at_precedence 0 (omega arith) in
      let it : Settled = settled 0 waiting value in
      reading_along (close_step it.waiting it.value) (token_behind inside) (close_on inside.spells inside.operand it.value token inside.means ends)
  operator_on None false false false is asks parts ends = tt

-- one token on
step_on : (place : Stage) (waiting : List Waiting) (tokens : List Token) (token : Token) → IsAt place waiting tokens
    → IsReading (step place waiting token) (tokens ++ token ∷ [])
step_on Before waiting tokens token spells =
    operand_on waiting tokens token (constant_of token) (unary_of token) (is_mark (codes "(") token) spells refl refl refl
step_on (Behind value) waiting tokens token operand =
    operator_on waiting value tokens token operand (binary_of token) (is_mark (codes "?") token) (is_mark (codes ":") token) (is_mark (codes ")") token)
    refl refl refl refl

-- all tokens on
steps_on : (reading : Option Reading) (front tokens : List Token) → IsReading reading front → IsReading (steps reading tokens) (front ++ tokens)
steps_on reading front [] is = reading_along reading (sym (append-nil front)) is
steps_on None front (token ∷ tokens) is =
    reading_along (steps None tokens) (append_assoc front (token ∷ []) tokens) (steps_on None (front ++ token ∷ []) tokens tt)
steps_on (Some reading) front (token ∷ tokens) is =
    let next : Option Reading = step reading.place reading.waiting token in
    reading_along (steps next tokens) (append_assoc front (token ∷ []) tokens)
    (steps_on next (front ++ token ∷ []) tokens (step_on reading.place reading.waiting front token is))

-- if nothing waits, all tokens are one expression
value_on : {waiting : List Waiting} {front : List Token} → Spells waiting front → (operand : List Token) (last value : Value) → Means 0 operand last
    → value_of waiting last ≡ Some value → Means 0 (front ++ operand) value
value_on empty operand last value means is = let same : last ≡ value = cc in subst (λ (it : Value). Means 0 operand it) same means
value_on (opened waiting front token spells is_open) operand last value means is = absurd cc
value_on (in_front waiting front token operator spells is_operator) operand last value means is = absurd cc
value_on (between waiting front left token operator first spells fits lefts is_operator) operand last value means is = absurd cc
value_on (asked waiting front test question first spells fits tests is_question) operand last value means is = absurd cc
value_on (parted waiting front test left question token first second spells fits tests is_question lefts is_colon) operand last value means is = absurd cc

-- the end
ended_on : (reading : Option Reading) (tokens : List Token) (value : Value) → IsReading reading tokens → ended reading ≡ Some value → Means 0 tokens value
ended_on None tokens value is same = absurd cc
ended_on (Some reading) tokens value is same = at_end reading.place reading.waiting is same
  where
    -- by the place
    at_end : (place : Stage) (waiting : List Waiting) → IsAt place waiting tokens → ended_at place waiting ≡ Some value → Means 0 tokens value
    at_end Before waiting spells same = absurd cc
    at_end (Behind last) waiting operand same =
        let all = settles 0 operand.spells operand.operand last 11 operand.means (demand_within waiting) (omega arith) (omega arith) in
        let it : Settled = settled 0 waiting last in
        subst (λ (whole : List Token). Means 0 whole value) (all.whole ∙ operand.whole) (value_on all.spells all.operand it.value value all.means same)

-- a condition that has a value is an expression of that value
pub means_of : (tokens : List Token) (value : Value) → condition_value tokens ≡ Some value → Means 0 tokens value
means_of tokens value same = ended_on (steps (Some (before [])) tokens) tokens value (steps_on (Some (before [])) [] tokens empty) same
