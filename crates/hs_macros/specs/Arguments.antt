-- The arguments of a function-like invocation (X3.159-1989 3.8.3).
--     Hidden                     a token on its way, and what it hides
--     role_of depth token        what a token does among the arguments
--     arguments_from depth tokens    the arguments after the opening parenthesis, if it is closed
--     bound names given          the arguments with their parameters, if there are as many
use Rattle.std.specs.Prelude.{ℕ, ◌+◌, ◌-◌, ◌==◌, ◌&&◌, List, [], ◌∷◌, Option, Some, None, if◌then◌else◌, codes}
use Rattle.hs_tokens.specs.declared.token.Token.{Token}
use Rattle.hs_tokens.specs.declared.token.Origin.{Origin}
use Rattle.hs_tokens.specs.Marks.{is_mark}
use Rattle.hs_macros.specs.HideSets.{HideSet}
use Rattle.hs_macros.specs.declared.arguments.Role.{Role}
use Rattle.hs_macros.specs.declared.arguments.Role.TheVariants.{Ends, Separates, Inside}

-- a token on its way, at the place where it counts as standing, and what it hides
pub record Hidden : Type 0 where
  pub token : Token
  pub origin : Origin
  pub hides : HideSet

-- the arguments as they stand, at least one; the closing parenthesis, and what follows it
pub record Arguments : Type 0 where
  pub first : List Hidden
  pub others : List (List Hidden)
  pub close : Hidden
  pub behind : List Hidden

-- one more token in front
abbrev pub with_token : Hidden → Option Arguments → Option Arguments
with_token token None = None
with_token token (Some found) = Some (record found { first = token ∷ found.first })

-- one more argument in front, as yet without tokens
abbrev pub with_comma : Option Arguments → Option Arguments
with_comma None = None
with_comma (Some found) = Some (record found { first = []; others = found.first ∷ found.others })

-- the arguments end here
abbrev pub closed : Hidden → List Hidden → Arguments
closed close behind = record { first = []; others = []; close = close; behind = behind }

-- What a token does among the arguments, if so many parentheses are open beside that of the invocation: a comma
-- between those separates nothing.
abbrev pub role_of : ℕ → Token → Role
role_of depth token =
    if is_mark (codes "(") token then Inside (depth + 1)
    else if is_mark (codes ")") token then (if depth == 0 then Ends else Inside (depth - 1))
    else if is_mark (codes ",") token && (depth == 0) then Separates
    else Inside depth

-- by what the token does, with the arguments that are found after it
abbrev pub arguments_at : Hidden → List Hidden → (ℕ → Option Arguments) → Role → Option Arguments
arguments_at token rest later Ends = Some (closed token rest)
arguments_at token rest later Separates = with_comma (later 0)
arguments_at token rest later (Inside depth) = with_token token (later depth)

-- the arguments up to the closing parenthesis, if so many are also open
abbrev pub arguments_from : ℕ → List Hidden → Option Arguments
arguments_from depth [] = None
arguments_from depth (token ∷ rest) = arguments_at token rest (λ depth'. arguments_from depth' rest) (role_of depth token.token)

-- an argument, and the parameter that it is for
pub record Argument : Type 0 where
  pub parameter : List ℕ
  pub tokens : List Hidden

-- one more argument in front
abbrev pub with_argument : Argument → Option (List Argument) → Option (List Argument)
with_argument argument None = None
with_argument argument (Some arguments) = Some (argument ∷ arguments)

-- as many arguments as parameters
abbrev pub paired : List (List ℕ) → List (List Hidden) → Option (List Argument)
paired [] [] = Some []
paired [] (tokens ∷ given) = None
paired (name ∷ names) [] = None
paired (name ∷ names) (tokens ∷ given) = with_argument (record { parameter = name; tokens = tokens }) (paired names given)

-- no parameters take nothing between the parentheses, which else is one empty argument
abbrev pub bound : List (List ℕ) → List (List Hidden) → Option (List Argument)
bound [] ([] ∷ []) = Some []
bound names given = paired names given
