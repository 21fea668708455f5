-- The conditions of `#if` and `#elif` (X3.159-1989 3.8.1): first `defined`, then replacement, then the value.
--     asks token, operand_of tokens            the word `defined`, and the name that it asks for
--     resolved macros tokens                   without `defined`, or nothing if one has no name
--     condition_of macros left pos line        whether the condition holds, and what is left; or why not
use Rattle.std.specs.Prelude.{ℕ, zero, suc, List, [], ◌∷◌, map, Bool, ◌&&◌, is_some, Option, Some, None, Result, Ok, Err, if◌then◌else◌, codes}
use Rattle.std.specs.Str.{bytes_eq}
use Rattle.std.specs.FinMap as finite
use Rattle.hs_base.specs.declared.pos.Pos.{Pos}
use Rattle.hs_tokens.specs.declared.token.Token.{Token}
use Rattle.hs_tokens.specs.declared.token.SourceToken.{SourceToken}
use Rattle.hs_tokens.specs.declared.token.TokenKind.TheVariants.{Number}
use Rattle.hs_tokens.specs.Marks.{is_identifier, is_mark}
use Rattle.hs_macros.specs.Definitions.{Definitions}
use Rattle.hs_macros.specs.Replacement.{replaced, Replaced}
use Rattle.hs_macros.specs.declared.budget.Budget.{Budget}
use Rattle.hs_macros.specs.declared.error.MacroError.{MacroError}
use Rattle.hs_constants.specs.Arithmetic.{is_true}
use Rattle.hs_constants.specs.Reading.{condition_value}
use Rattle.hs_constants.specs.declared.value.Value.{Value}
use Rattle.hs_directives.specs.States.{of_replacement}
use Rattle.hs_directives.specs.declared.condition.Answered.{Answered}
use Rattle.hs_directives.specs.declared.error.ReadError.{ReadError}
use Rattle.hs_directives.specs.declared.error.ReadError.TheVariants.{BadCondition}

-- the name that `defined` asks for, and how many tokens it takes with its parentheses
pub record Operand : Type 0 where
  pub name : List ℕ
  pub len : ℕ

-- a name, and the closing parenthesis
abbrev pub operand_within : List Token → Option Operand
operand_within [] = None
operand_within (name ∷ []) = None
operand_within (name ∷ close ∷ rest) =
    if is_identifier name && is_mark (codes ")") close then Some (record { name = name.text; len = 3 }) else None

-- a name, in parentheses or not
abbrev pub operand_of : List Token → Option Operand
operand_of [] = None
operand_of (token ∷ rest) =
    if is_identifier token then Some (record { name = token.text; len = 1 })
    else if is_mark (codes "(") token then operand_within rest
    else None

-- 1 or 0 instead of `defined`
abbrev pub answer : Token → Bool → Token
answer token holds = record token { kind = Number; text = if holds then codes "1" else codes "0" }

-- one more token in front
abbrev pub in_front : Token → Option (List Token) → Option (List Token)
in_front token None = None
in_front token (Some tokens) = Some (token ∷ tokens)

-- the token is the word `defined`
abbrev pub asks : Token → Bool
asks token = is_identifier token && bytes_eq token.text (codes "defined")

-- the name's answer, and what follows it
abbrev pub resolved_operand : Definitions → Token → Option Operand → (ℕ → Option (List Token)) → Option (List Token)
resolved_operand macros token None later = None
resolved_operand macros token (Some operand) later =
    in_front (answer token (is_some (finite.get macros operand.name))) (later operand.len)

-- `skip` is how many tokens are left of the name that was asked for before
abbrev pub resolved_after : Definitions → ℕ → List Token → Option (List Token)
resolved_after macros skip [] = Some []
resolved_after macros (suc skip) (token ∷ rest) = resolved_after macros skip rest
resolved_after macros zero (token ∷ rest) =
    if asks token then resolved_operand macros token (operand_of rest) (λ skip. resolved_after macros skip rest)
    else in_front token (resolved_after macros 0 rest)

-- the tokens without `defined`
abbrev pub resolved : Definitions → List Token → Option (List Token)
resolved macros tokens = resolved_after macros 0 tokens

-- the tokens without where they come from
abbrev pub tokens_of : List SourceToken → List Token
tokens_of tokens = map (λ source. source.token) tokens

-- a constant expression that divides nothing by 0
abbrev pub answered : Pos → Budget → Option Value → Result Answered ReadError
answered pos left None = Err (BadCondition pos)
answered pos left (Some value) = if value.fails then Err (BadCondition pos) else Ok (record { holds = is_true value; left = left })

-- the value of what was replaced
abbrev pub condition_replaced : Pos → Result Replaced MacroError → Result Answered ReadError
condition_replaced pos (Err error) = Err (of_replacement error)
condition_replaced pos (Ok replaced) = answered pos replaced.left (condition_value (tokens_of replaced.tokens))

-- the replacement of what was resolved
abbrev pub condition_resolved : Definitions → Budget → Pos → Option (List Token) → Result Answered ReadError
condition_resolved macros left pos None = Err (BadCondition pos)
condition_resolved macros left pos (Some tokens) = condition_replaced pos (replaced macros left tokens)

-- whether the condition holds, of the directive whose `#` stands there
abbrev pub condition_of : Definitions → Budget → Pos → List Token → Result Answered ReadError
condition_of macros left pos line = condition_resolved macros left pos (resolved macros line)
