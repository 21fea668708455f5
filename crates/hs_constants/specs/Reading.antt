-- How a condition is read, token by token: a stack holds what waits for the value of an operand. `Means` of Conditions.antt
-- says what a condition is and what its value is; the contract of `condition_value` has that the reading agrees with it.
--     applied last precedence value       what a value makes of the last thing that waits
--     settled precedence waiting value    what still waits, if only what binds looser than the precedence may
--     step reading token             one token on
--     condition_value tokens         the value of the condition, if the tokens are one
use Rattle.std.specs.Prelude.{ℕ, ◌==◌, nat_le, Bool, List, [], ◌∷◌, Option, Some, None, map, if◌then◌else◌, codes}
use Rattle.hs_tokens.specs.declared.token.Token.{Token}
use Rattle.hs_tokens.specs.declared.token.SourceToken.{SourceToken}
use Rattle.hs_tokens.specs.Marks.{is_mark}
use Rattle.hs_constants.specs.Arithmetic.{unary_value, binary_value, chosen}
use Rattle.hs_constants.specs.Conditions.{constant_of, unary_of, binary_of, precedence_of}
use Rattle.hs_constants.specs.declared.value.Value.{Value}
use Rattle.hs_constants.specs.declared.operator.Unary.{Unary}
use Rattle.hs_constants.specs.declared.operator.Binary.{Binary}
use Rattle.hs_constants.specs.declared.waiting.Waiting.{Waiting}
use Rattle.hs_constants.specs.declared.waiting.Waiting.TheVariants.{Group, Prefix, Infix, Test, Branch}
use Rattle.hs_constants.specs.declared.condition.Stage.{Stage}
use Rattle.hs_constants.specs.declared.condition.Stage.TheVariants.{Before, Behind}

-- the tokens without where they come from
abbrev pub tokens_of : List SourceToken → List Token
tokens_of tokens = map (λ source. source.token) tokens

-- what the value makes of the last thing that waits, if that binds as tightly as the precedence
abbrev pub applied : Waiting → ℕ → Value → Option Value
applied Group precedence value = None
applied (Prefix operator) precedence value = Some (unary_value operator value)
applied (Infix left operator) precedence value = if nat_le precedence (precedence_of operator) then Some (binary_value operator left value) else None
applied (Test test) precedence value = None
applied (Branch test left) precedence value = if precedence == 0 then Some (chosen test left value) else None

-- what still waits, the last first, and the value for which it waits
pub record Settled : Type 0 where
  pub waiting : List Waiting
  pub value : Value

-- the next value goes on, or all stays
abbrev pub settled_by : (Value → Settled) → Settled → Option Value → Settled
settled_by later stays None = stays
settled_by later stays (Some next) = later next

-- what waits takes the value, from the last on, as far as it binds as tightly as the precedence
abbrev pub settled : ℕ → List Waiting → Value → Settled
settled precedence [] value = record { waiting = []; value = value }
settled precedence (last ∷ waiting) value =
    settled_by (settled precedence waiting) (record { waiting = last ∷ waiting; value = value }) (applied last precedence value)

-- what waits, the last first, and where the reading stands
pub record Reading : Type 0 where
  pub waiting : List Waiting
  pub place : Stage

-- the place, if any, with what waits
abbrev pub seen : List Waiting → Option Stage → Option Reading
seen waiting None = None
seen waiting (Some place) = Some (record { waiting = waiting; place = place })

-- in front of an operand
abbrev pub before : List Waiting → Reading
before waiting = record { waiting = waiting; place = Before }

-- after an operand of that value
abbrev pub behind : List Waiting → Value → Reading
behind waiting value = record { waiting = waiting; place = Behind value }

-- in front of an operand stands a constant, an operator or an open parenthesis
abbrev pub operand_by : List Waiting → Option Value → Option Unary → Bool → Option Reading
operand_by waiting (Some value) operator is_group = Some (behind waiting value)
operand_by waiting None (Some operator) is_group = Some (before (Prefix operator ∷ waiting))
operand_by waiting None None is_group = if is_group then Some (before (Group ∷ waiting)) else None

-- the same of the token
abbrev pub operand_step : List Waiting → Token → Option Reading
operand_step waiting token = operand_by waiting (constant_of token) (unary_of token) (is_mark (codes "(") token)

-- a left operand, and its operator
abbrev pub infix_step : Binary → Settled → Option Reading
infix_step operator left = Some (before (Infix left.value operator ∷ left.waiting))

-- a test, and its `?`
abbrev pub question_step : Settled → Option Reading
question_step test = Some (before (Test test.value ∷ test.waiting))

-- a `:` ends the first branch after a test
abbrev pub colon_step : List Waiting → Value → Option Reading
colon_step (Test test ∷ waiting) value = Some (before (Branch test value ∷ waiting))
colon_step _ value = None

-- a `)` ends what an open parenthesis began
abbrev pub close_step : List Waiting → Value → Option Reading
close_step (Group ∷ waiting) value = Some (behind waiting value)
close_step _ value = None

-- after an operand stands an operator, or what ends a part
abbrev pub operator_by : (ℕ → Settled) → Option Binary → Bool → Bool → Bool → Option Reading
operator_by settled (Some operator) is_question is_colon is_close = infix_step operator (settled (precedence_of operator))
operator_by settled None is_question is_colon is_close =
    if is_question then question_step (settled 1)
    else if is_colon then colon_step (settled 0).waiting (settled 0).value
    else if is_close then close_step (settled 0).waiting (settled 0).value
    else None

-- the same of the token
abbrev pub operator_step : List Waiting → Value → Token → Option Reading
operator_step waiting value token =
    operator_by (λ precedence. settled precedence waiting value) (binary_of token) (is_mark (codes "?") token) (is_mark (codes ":") token)
    (is_mark (codes ")") token)

-- one token on
abbrev pub step : Stage → List Waiting → Token → Option Reading
step Before waiting token = operand_step waiting token
step (Behind value) waiting token = operator_step waiting value token

-- one token on, if none was wrong before
abbrev pub stepped : Option Reading → Token → Option Reading
stepped None token = None
stepped (Some reading) token = step reading.place reading.waiting token

-- all tokens on
abbrev pub steps : Option Reading → List Token → Option Reading
steps reading [] = reading
steps reading (token ∷ tokens) = steps (stepped reading token) tokens

-- the value of all, if nothing waits
abbrev pub value_of : List Waiting → Value → Option Value
value_of [] value = Some value
value_of (last ∷ waiting) value = None

-- the end follows an operand
abbrev pub ended_at : Stage → List Waiting → Option Value
ended_at Before waiting = None
ended_at (Behind value) waiting = value_of (settled 0 waiting value).waiting (settled 0 waiting value).value

-- the same, if no token was wrong
abbrev pub ended : Option Reading → Option Value
ended None = None
ended (Some reading) = ended_at reading.place reading.waiting

-- the value of the condition, if the tokens are one
abbrev pub condition_value : List Token → Option Value
condition_value tokens = ended (steps (Some (before [])) tokens)
