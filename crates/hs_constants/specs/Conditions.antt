-- The constant expressions of #if (X3.159-1989 3.8.1 and 3.4): integer constants, character constants and identifiers, which
-- are 0, under the operators of 3.3.3 and 3.3.5 to 3.3.15, without casts, assignments and commas.
--     constant_of token            the value of a constant or an identifier
--     unary_of, binary_of token    the operator that a token is
--     precedence_of operator            how tightly it binds: 10 the tightest, 1 the loosest
--     Means precedence tokens value     the tokens are an expression of that precedence, and this is its value
use Rattle.std.specs.Prelude.{◌≡◌, ℕ, suc, nat_le, Bool, true, false, ◌||◌, List, [], ◌∷◌, ◌++◌, Option, Some, None, if◌then◌else◌, codes}
use Rattle.hs_tokens.specs.declared.token.Token.{Token}
use Rattle.hs_tokens.specs.declared.token.TokenKind.{TokenKind}
use Rattle.hs_tokens.specs.declared.token.TokenKind.TheVariants.{Identifier, Number, Character, Literal, Punctuator}
use Rattle.hs_tokens.specs.Marks.{is_mark}
use Rattle.hs_constants.specs.Numbers.{number_value}
use Rattle.hs_constants.specs.Characters.{character_value}
use Rattle.hs_constants.specs.Arithmetic.{unary_value, binary_value, chosen}
use Rattle.hs_constants.specs.declared.number.Number as number
use Rattle.hs_constants.specs.declared.value.Value.{Value}
use Rattle.hs_constants.specs.declared.operator.Unary.{Unary}
use Rattle.hs_constants.specs.declared.operator.Unary.TheVariants.{Plus, Minus, Complement, Not}
use Rattle.hs_constants.specs.declared.operator.Binary.{Binary}
use Rattle.hs_constants.specs.declared.operator.Binary.TheVariants.{Multiply, Divide, Remainder, Add, Subtract, ShiftLeft, ShiftRight, Less, Greater, LessEqual, GreaterEqual, Equal, NotEqual, BitAnd, BitXor, BitOr, And, Or}

-- a value that divides nothing by 0
abbrev pub plain : ℕ → Bool → Value
plain bits unsigned = record { bits = bits; unsigned = unsigned; fails = false }

-- an integer constant: unsigned if it says so, or does not fit in long
abbrev pub number_constant : Option number.Number → Option Value
number_constant None = None
number_constant (Some it) = Some (plain it.value (it.unsigned || nat_le 2147483648 it.value))

-- a character constant
abbrev pub character_constant : Option ℕ → Option Value
character_constant None = None
character_constant (Some bits) = Some (plain bits false)

-- the value of a token that is an operand by itself
abbrev pub constant_by : TokenKind → List ℕ → Option Value
constant_by Identifier text = Some (plain 0 false)
constant_by Number text = number_constant (number_value text)
constant_by Character text = character_constant (character_value text)
constant_by Literal text = None
constant_by Punctuator text = None

-- the same of the token
abbrev pub constant_of : Token → Option Value
constant_of token = constant_by token.kind token.text

-- an operator in front of its operand
abbrev pub unary_of : Token → Option Unary
unary_of token =
    if is_mark (codes "+") token then Some Plus
    else if is_mark (codes "-") token then Some Minus
    else if is_mark (codes "~") token then Some Complement
    else if is_mark (codes "!") token then Some Not
    else None

-- an operator between two
abbrev pub binary_of : Token → Option Binary
binary_of token =
    if is_mark (codes "*") token then Some Multiply
    else if is_mark (codes "/") token then Some Divide
    else if is_mark (codes "%") token then Some Remainder
    else if is_mark (codes "+") token then Some Add
    else if is_mark (codes "-") token then Some Subtract
    else if is_mark (codes "<<") token then Some ShiftLeft
    else if is_mark (codes ">>") token then Some ShiftRight
    else if is_mark (codes "<") token then Some Less
    else if is_mark (codes ">") token then Some Greater
    else if is_mark (codes "<=") token then Some LessEqual
    else if is_mark (codes ">=") token then Some GreaterEqual
    else if is_mark (codes "==") token then Some Equal
    else if is_mark (codes "!=") token then Some NotEqual
    else if is_mark (codes "&") token then Some BitAnd
    else if is_mark (codes "^") token then Some BitXor
    else if is_mark (codes "|") token then Some BitOr
    else if is_mark (codes "&&") token then Some And
    else if is_mark (codes "||") token then Some Or
    else None

-- how tightly an operator binds
abbrev pub precedence_of : Binary → ℕ
precedence_of Multiply = 10
precedence_of Divide = 10
precedence_of Remainder = 10
precedence_of Add = 9
precedence_of Subtract = 9
precedence_of ShiftLeft = 8
precedence_of ShiftRight = 8
precedence_of Less = 7
precedence_of Greater = 7
precedence_of LessEqual = 7
precedence_of GreaterEqual = 7
precedence_of Equal = 6
precedence_of NotEqual = 6
precedence_of BitAnd = 5
precedence_of BitXor = 4
precedence_of BitOr = 3
precedence_of And = 2
precedence_of Or = 1

-- The tokens are an expression, and this is its value. Precedence 0 is that of `?:`, the precedences 1 to 10 those of the operators
-- between two, which group to the left, and 11 that of the operators in front.
pub data Means : ℕ → List Token → Value → Type 0 where
  -- 3.3.1, and 3.8.1: an identifier is 0
  constant : (token : Token) (value : Value) → constant_of token ≡ Some value → Means 11 (token ∷ []) value
  -- 3.3.1: an expression in parentheses
  group : (open' close : Token) (tokens : List Token) (value : Value) → is_mark (codes "(") open' ≡ true → is_mark (codes ")") close ≡ true
      → Means 0 tokens value → Means 11 (open' ∷ (tokens ++ close ∷ [])) value
  -- 3.3.3.3
  prefixed : (token : Token) (operator : Unary) (tokens : List Token) (value : Value) → unary_of token ≡ Some operator
      → Means 11 tokens value → Means 11 (token ∷ tokens) (unary_value operator value)
  -- 3.3.5 to 3.3.14: what stands on the right binds more tightly
  infixed : (token : Token) (operator : Binary) (left right : List Token) (value other : Value) → binary_of token ≡ Some operator
      → Means (precedence_of operator) left value → Means (suc (precedence_of operator)) right other
      → Means (precedence_of operator) (left ++ token ∷ right) (binary_value operator value other)
  -- 3.3.15: groups to the right
  conditional : (question colon : Token) (test left right : List Token) (value first second : Value)
      → is_mark (codes "?") question ≡ true → is_mark (codes ":") colon ≡ true
      → Means 1 test value → Means 0 left first → Means 0 right second
      → Means 0 (test ++ question ∷ (left ++ colon ∷ right)) (chosen value first second)
  -- what binds more tightly is of each looser precedence
  tighter : (precedence : ℕ) (tokens : List Token) (value : Value) → Means (suc precedence) tokens value → Means precedence tokens value
