-- Precedences: 0 is that of `?:`, 1 to 10 those of the operators between two, 11 that of the operators in front.
--     demand waiting     how tightly an operand binds at least that what waits takes
use Rattle.std.proofs.Common.{◌≡◌, ℕ, zero, suc, ◌≤◌, List, [], ◌∷◌, subst, inl, inr, arith}
use Rattle.std.specs.Prelude.{nat_le}
use Rattle.std.proofs.lemmas.Bool.{cases_Bool}
use Rattle.std.proofs.lemmas.Bool.Decides.{nat_tests}
use Rattle.hs_tokens.specs.declared.token.Token.{Token}
use Rattle.hs_constants.specs.Conditions.{precedence_of, Means}
use Rattle.hs_constants.specs.Conditions.Means.{tighter}
use Rattle.hs_constants.specs.declared.value.Value.{Value}
use Rattle.hs_constants.specs.declared.operator.Binary.{Binary}
use Rattle.hs_constants.specs.declared.operator.Binary.TheVariants.{Multiply, Divide, Remainder, Add, Subtract, ShiftLeft, ShiftRight, Less, Greater, LessEqual, GreaterEqual, Equal, NotEqual, BitAnd, BitXor, BitOr, And, Or}
use Rattle.hs_constants.specs.declared.waiting.Waiting.{Waiting}
use Rattle.hs_constants.specs.declared.waiting.Waiting.TheVariants.{Group, Prefix, Infix, Test, Branch}

-- how tightly an operand binds at least that what waits takes
abbrev pub demand : List Waiting → ℕ
demand [] = 0
demand (Group ∷ waiting) = 0
demand (Prefix operator ∷ waiting) = 11
demand (Infix left operator ∷ waiting) = suc (precedence_of operator)
demand (Test test ∷ waiting) = 0
demand (Branch test left ∷ waiting) = 0

-- an operator between two has one of the precedences 1 to 10
pub precedence_within : (operator : Binary) → (1 ≤ precedence_of operator) × (precedence_of operator ≤ 10)
precedence_within Multiply = (omega arith, omega arith)
precedence_within Divide = (omega arith, omega arith)
precedence_within Remainder = (omega arith, omega arith)
precedence_within Add = (omega arith, omega arith)
precedence_within Subtract = (omega arith, omega arith)
precedence_within ShiftLeft = (omega arith, omega arith)
precedence_within ShiftRight = (omega arith, omega arith)
precedence_within Less = (omega arith, omega arith)
precedence_within Greater = (omega arith, omega arith)
precedence_within LessEqual = (omega arith, omega arith)
precedence_within GreaterEqual = (omega arith, omega arith)
precedence_within Equal = (omega arith, omega arith)
precedence_within NotEqual = (omega arith, omega arith)
precedence_within BitAnd = (omega arith, omega arith)
precedence_within BitXor = (omega arith, omega arith)
precedence_within BitOr = (omega arith, omega arith)
precedence_within And = (omega arith, omega arith)
precedence_within Or = (omega arith, omega arith)

-- the precedences are 0 to 11
pub demand_within : (waiting : List Waiting) → demand waiting ≤ 11
demand_within [] = omega arith
demand_within (Group ∷ waiting) = omega arith
demand_within (Prefix operator ∷ waiting) = omega arith
demand_within (Infix left operator ∷ waiting) = omega (arith, (precedence_within operator).1)
demand_within (Test test ∷ waiting) = omega arith
demand_within (Branch test left ∷ waiting) = omega arith

-- no operator between two takes an operand of precedence 1
pub no_operator : (waiting : List Waiting) → demand waiting ≤ 1 → demand waiting ≤ 0
no_operator [] takes = omega arith
no_operator (Group ∷ waiting) takes = omega arith
no_operator (Prefix operator ∷ waiting) takes = absurd (omega arith)
no_operator (Infix left operator ∷ waiting) takes = absurd (omega (arith, (precedence_within operator).0))
no_operator (Test test ∷ waiting) takes = omega arith
no_operator (Branch test left ∷ waiting) takes = omega arith

-- what binds tightly is of each looser precedence
pub looser : (loose tight : ℕ) {tokens : List Token} {value : Value} → loose ≤ tight → Means tight tokens value → Means loose tokens value
looser loose zero {tokens = tokens} {value = value} within means =
    let same : 0 ≡ loose = omega arith in
    subst (λ (precedence : ℕ). Means precedence tokens value) same means
looser loose (suc tight) {tokens = tokens} {value = value} within means =
    elim (cases_Bool (nat_le loose tight)) [
      | inl below ↦ (let within' : loose ≤ tight = grind (arith, nat_tests) in looser loose tight within' (tighter tight tokens value means))
      | inr top ↦ (let same : suc tight ≡ loose = grind (arith, nat_tests) in subst (λ (precedence : ℕ). Means precedence tokens value) same means)
    ]
