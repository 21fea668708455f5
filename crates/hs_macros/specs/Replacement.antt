-- Replacement (X3.159-1989 3.8.3), as a recursion on lists in which each token carries what it hides. The two limits
-- bound it: each replacement takes one of those left, and its tokens are taken from what is left of them.
--     found macros token rest         what begins at the token: nothing, an invocation, or one that is wrong
--     placed call ready               the tokens that an invocation puts in place
--     spent left count                what is left after a replacement with so many tokens, or the limit that it passes
--     expanded macros left tokens     the tokens without macros, and what is left; or why not
--     replaced macros left run        the same of tokens of a source
use Rattle.std.specs.Prelude.{ℕ, zero, suc, ◌+◌, ◌-◌, ◌==◌, nat_lt, Bool, not, ◌&&◌, List, [], ◌∷◌, ◌++◌, map, length, Option, Some, None, Result, Ok, Err, if◌then◌else◌, codes}
use Rattle.std.specs.List.{list_any, flat_map}
use Rattle.std.specs.Str.{bytes_eq}
use Rattle.std.specs.FinSet as set
use Rattle.std.specs.FinMap as finite
use Rattle.hs_base.specs.declared.pos.Pos.{Pos}
use Rattle.hs_base.specs.declared.limit.LimitKind.{LimitKind}
use Rattle.hs_base.specs.declared.limit.LimitKind.TheVariants.{Replacements, Tokens}
use Rattle.hs_base.specs.Limit.{number_of}
use Rattle.hs_tokens.specs.declared.token.Token.{Token}
use Rattle.hs_tokens.specs.declared.token.SourceToken.{SourceToken}
use Rattle.hs_tokens.specs.declared.token.Origin.TheVariants.{Plain, Macro}
use Rattle.hs_macros.specs.HideSets.{HideSet, object_hides, call_hides}
use Rattle.hs_tokens.specs.Marks.{is_identifier, is_mark}
use Rattle.hs_macros.specs.Definitions.{Definitions}
use Rattle.hs_macros.specs.Arguments.{Hidden, Arguments, arguments_from, Argument, bound}
use Rattle.hs_macros.specs.declared.definition.Definition.{Definition}
use Rattle.hs_macros.specs.declared.budget.Budget.{Budget}
use Rattle.hs_macros.specs.declared.error.MacroError.{MacroError}
use Rattle.hs_macros.specs.declared.error.MacroError.TheVariants.{ArgCount, Limit}

-- a macro's tokens, where they will stand, what they will hide, and what follows the invocation
pub record Invocation : Type 0 where
  pub body : List Token
  pub pos : Pos
  pub hides : HideSet
  pub behind : List Hidden

-- what begins at a token
pub data Found : Type 0 where
  -- no invocation: the token stays
  stays : Found
  -- an invocation with the wrong number of arguments, or left open
  wrong : Found
  -- this invocation, with its arguments
  invoked : Invocation → List Argument → Found

-- an object-like invocation
abbrev pub object : Hidden → List Token → List Hidden → Invocation
object name body rest =
    record { body = body; pos = name.token.pos; hides = object_hides name.hides name.token.text; behind = rest }

-- a function-like one
abbrev pub call : Hidden → List Token → Arguments → Invocation
call name body between =
    record { body = body; pos = name.token.pos; hides = call_hides name.hides between.close.hides name.token.text; behind = between.behind }

-- the arguments with their parameters, if there are as many
abbrev pub found_bound : Hidden → List Token → Arguments → Option (List Argument) → Found
found_bound name body between None = wrong
found_bound name body between (Some arguments) = invoked (call name body between) arguments

-- the arguments, if the parenthesis is closed
abbrev pub found_call : Hidden → List Token → List (List ℕ) → Option Arguments → Found
found_call name body names None = wrong
found_call name body names (Some between) = found_bound name body between (bound names (between.first ∷ between.others))

-- by the macro's form: a function-like one is invoked by a name that a parenthesis follows
abbrev pub found_form : Hidden → List Hidden → List Token → Option (List (List ℕ)) → Found
found_form name rest body None = invoked (object name body rest) []
found_form name [] body (Some names) = stays
found_form name (next ∷ rest) body (Some names) = if is_mark (codes "(") next.token then found_call name body names (arguments_from 0 rest) else stays

-- by the name's definition
abbrev pub found_defined : Hidden → List Hidden → Option Definition → Found
found_defined name rest None = stays
found_defined name rest (Some definition) = found_form name rest definition.body definition.parameters

-- what begins at the token: a name that it hides is not replaced
abbrev pub found : Definitions → Hidden → List Hidden → Found
found macros token rest =
    if is_identifier token.token && not (set.contains token.hides token.token.text)
    then found_defined token rest (finite.get macros token.token.text) else stays

-- the token names the parameter
abbrev pub is_named : List ℕ → Token → Bool
is_named parameter token = is_identifier token && bytes_eq token.text parameter

-- some token of the macro names the parameter: an argument that none names is not expanded
abbrev pub is_used : List ℕ → List Token → Bool
is_used parameter body = list_any (is_named parameter) body

-- the argument of this parameter
abbrev pub argument_of : List ℕ → List Argument → Option (List Hidden)
argument_of name [] = None
argument_of name (argument ∷ arguments) = if bytes_eq name argument.parameter then Some argument.tokens else argument_of name arguments

-- the argument that a token of the macro stands for, if it is a parameter
abbrev pub argument_for : Token → List Argument → Option (List Hidden)
argument_for token ready = if is_identifier token then argument_of token.text ready else None

-- a token of the macro in place
abbrev pub from_body : Pos → HideSet → Token → Hidden
from_body pos hides token = record { token = record token { pos = pos }; origin = Macro; hides = hides }

-- a token of an argument in place: it goes on hiding what it hid
abbrev pub from_argument : Pos → HideSet → Hidden → Hidden
from_argument pos hides token = record { token = record token.token { pos = pos }; origin = Macro; hides = set.union token.hides hides }

-- what stands for a token of the macro
abbrev pub placed_for : Pos → HideSet → Token → Option (List Hidden) → List Hidden
placed_for pos hides token None = from_body pos hides token ∷ []
placed_for pos hides token (Some tokens) = map (from_argument pos hides) tokens

-- a parameter stands for its argument, and another token for itself
abbrev pub placed_at : Pos → HideSet → List Argument → Token → List Hidden
placed_at pos hides ready token = placed_for pos hides token (argument_for token ready)

-- what an invocation puts in place, its arguments expanded
abbrev pub placed : Invocation → List Argument → List Hidden
placed call ready = flat_map (placed_at call.pos call.hides ready) call.body

-- a limit that was passed
abbrev pub passed : LimitKind → MacroError
passed kind = Limit (record { kind = kind; reached = number_of kind })

-- what is left after a replacement that puts so many tokens in place
abbrev pub spent : Budget → ℕ → Result Budget MacroError
spent left count =
    if left.replacements == 0 then Err (passed Replacements)
    else if nat_lt left.tokens count then Err (passed Tokens)
    else Ok (record { replacements = left.replacements - 1; tokens = left.tokens - count })

-- the tokens without macros, and what is left
pub record Expansion : Type 0 where
  pub tokens : List Hidden
  pub left : Budget

-- an expansion, or why there is no expansion
abbrev pub Outcome : Type 0
Outcome = Result Expansion MacroError

-- the tokens in front come first
abbrev pub with_front : List Hidden → Outcome → Outcome
with_front front (Err error) = Err error
with_front front (Ok done) = Ok (record { tokens = front ++ done.tokens; left = done.left })

-- one after another, up to the first refusal
abbrev pub and_then : Outcome → (Expansion → Outcome) → Outcome
and_then (Err error) next = Err error
and_then (Ok done) next = next done

module _ (again : Budget → List Hidden → Outcome) where
  -- the tokens in place are looked at again, with what follows them
  abbrev pub placed_again : Invocation → List Hidden → Result Budget MacroError → Outcome
  placed_again call tokens (Err error) = Err error
  placed_again call tokens (Ok left) = again left (tokens ++ call.behind)

  -- an invocation whose arguments are ready or wait: each is expanded by itself, and then the tokens are put in place
  abbrev pub called : Invocation → List Argument → List Argument → Budget → Outcome
  called call ready [] left = placed_again call (placed call ready) (spent left (length (placed call ready)))
  called call ready (argument ∷ waiting) left =
      if is_used argument.parameter call.body
      then and_then (again left argument.tokens)
      (λ done. called call (ready ++ record { parameter = argument.parameter; tokens = done.tokens } ∷ []) waiting done.left)
      else called call (ready ++ argument ∷ []) waiting left

  -- a token stays, or what it begins is replaced
  abbrev pub expanded_at : Budget → Hidden → List Hidden → Found → Outcome
  expanded_at left token rest stays = with_front (token ∷ []) (again left rest)
  expanded_at left token rest wrong = Err (ArgCount token.token.pos)
  expanded_at left token rest (invoked call arguments) = called call [] arguments left

-- in so many steps: each token that stays, and each replacement, is one
abbrev pub expanded_within : ℕ → Definitions → Budget → List Hidden → Outcome
expanded_within zero macros left tokens = Ok (record { tokens = []; left = left })
expanded_within (suc steps) macros left [] = Ok (record { tokens = []; left = left })
expanded_within (suc steps) macros left (token ∷ rest) = expanded_at (expanded_within steps macros) left token rest (found macros token rest)

-- A step takes a token away, or some of what is left for tokens put in place. So there are steps enough: `ExpandedLaws`
-- has the equations, in which no count of steps stands.
unfoldable pub expanded : Definitions → Budget → List Hidden → Outcome
expanded macros left tokens = expanded_within (length tokens + left.tokens) macros left tokens

-- a token as it stands in a source
abbrev pub plain : Token → Hidden
plain token = record { token = token; origin = Plain; hides = set.empty }

-- without what it hides
abbrev pub source_of : Hidden → SourceToken
source_of token = record { token = token.token; origin = token.origin }

-- the tokens of a source, replaced, and what is left
pub record Replaced : Type 0 where
  pub tokens : List SourceToken
  pub left : Budget

-- an expansion without what its tokens hide
abbrev pub replaced_by : Outcome → Result Replaced MacroError
replaced_by (Err error) = Err error
replaced_by (Ok done) = Ok (record { tokens = map source_of done.tokens; left = done.left })

-- the tokens of a run of a source, replaced
abbrev pub replaced : Definitions → Budget → List Token → Result Replaced MacroError
replaced macros left run = replaced_by (expanded macros left (map plain run))
