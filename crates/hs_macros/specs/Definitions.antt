-- Macro definitions (X3.159-1989 3.8.3). A macro's tokens have no `#` and no `##` (own: the two operators are left out).
--     Definitions             the macros that are defined, by name
--     definition_of line      the name and the definition that the tokens after `define` are, if they are one
--     is_same old new         the same parameters and the same tokens, but for places and white space
--     defined macros line     the macros after such a line, or why it is refused
use Rattle.std.specs.Prelude.{ℕ, List, [], ◌∷◌, Bool, true, false, not, ◌&&◌, ◌||◌, Option, Some, None, Result, Ok, Err, if◌then◌else◌, codes}
use Rattle.std.specs.List.{list_any}
use Rattle.std.specs.Ordering.{nat_cmp}
use Rattle.std.specs.Cmp.Lexicographic.{slice_cmp, pointwise}
use Rattle.std.specs.Str.{bytes_eq}
use Rattle.std.specs.FinMap as map
use Rattle.hs_tokens.specs.declared.token.Token.{Token}
use Rattle.hs_tokens.specs.Marks.{is_same_kind, is_identifier, is_mark}
use Rattle.hs_macros.specs.declared.definition.Definition.{Definition}
use Rattle.hs_macros.specs.declared.error.MacroError.{MacroError}
use Rattle.hs_macros.specs.declared.error.MacroError.TheVariants.{BadMacro}

-- the macros that are defined, by name
abbrev pub Definitions : Type 0
Definitions = map.FinMap (slice_cmp nat_cmp) Definition

-- no name stands twice
abbrev pub is_distinct : List (List ℕ) → Bool
is_distinct [] = true
is_distinct (name ∷ names) = not (list_any (bytes_eq name) names) && is_distinct names

-- parameters, and the tokens after their closing parenthesis
pub record Parameters : Type 0 where
  pub names : List (List ℕ)
  pub behind : List Token

-- one more name in front
abbrev pub with_name : List ℕ → Option Parameters → Option Parameters
with_name name None = None
with_name name (Some parameters) = Some (record { names = name ∷ parameters.names; behind = parameters.behind })

-- one or more identifiers with commas between them, up to the closing parenthesis
abbrev pub names_from : List Token → Option Parameters
names_from [] = None
names_from (name ∷ []) = None
names_from (name ∷ next ∷ rest) =
    if is_identifier name && is_mark (codes ")") next then Some (record { names = name.text ∷ []; behind = rest })
    else if is_identifier name && is_mark (codes ",") next then with_name name.text (names_from rest)
    else None

-- those whose names are distinct
abbrev pub with_distinct : Option Parameters → Option Parameters
with_distinct None = None
with_distinct (Some parameters) = if is_distinct parameters.names then Some parameters else None

-- none or more distinct identifiers with commas between them, and the closing parenthesis
abbrev pub parameters_from : List Token → Option Parameters
parameters_from [] = None
parameters_from (token ∷ rest) =
    if is_mark (codes ")") token then Some (record { names = []; behind = rest }) else with_distinct (names_from (token ∷ rest))

-- the operators that are left out
abbrev pub is_operator : Token → Bool
is_operator token = is_mark (codes "#") token || is_mark (codes "##") token

-- a definition with tokens that it may have
abbrev pub with_body : Option (List (List ℕ)) → List Token → Option Definition
with_body parameters body = if list_any is_operator body then None else Some (record { parameters = parameters; body = body })

-- a function-like definition
abbrev pub with_parameters : Option Parameters → Option Definition
with_parameters None = None
with_parameters (Some parameters) = with_body (Some parameters.names) parameters.behind

-- what follows the name. A parenthesis directly after it opens parameters.
abbrev pub definition_from : List Token → Option Definition
definition_from [] = with_body None []
definition_from (token ∷ rest) =
    if is_mark (codes "(") token && not token.spaced then with_parameters (parameters_from rest) else with_body None (token ∷ rest)

-- a definition and the name that it defines
pub record Named : Type 0 where
  pub name : List ℕ
  pub definition : Definition

-- the definition of this name
abbrev pub with_definition : List ℕ → Option Definition → Option Named
with_definition name None = None
with_definition name (Some definition) = Some (record { name = name; definition = definition })

-- the tokens after `define`. `defined` is no macro's name (3.8.8).
abbrev pub definition_of : List Token → Option Named
definition_of [] = None
definition_of (name ∷ rest) =
    if is_identifier name && not (bytes_eq name.text (codes "defined")) then with_definition name.text (definition_from rest) else None

-- the same kind and the same bytes
abbrev pub is_same_token : Token → Token → Bool
is_same_token old new = is_same_kind old.kind new.kind && bytes_eq old.text new.text

-- both object-like, or the same names in the same order
abbrev pub is_same_form : Option (List (List ℕ)) → Option (List (List ℕ)) → Bool
is_same_form None None = true
is_same_form (Some old) (Some new) = pointwise bytes_eq old new
is_same_form None (Some new) = false
is_same_form (Some old) None = false

-- C 3.8.3, constraints: a macro may be defined again only like this. White space between the tokens counts for nothing (own).
abbrev pub is_same : Definition → Definition → Bool
is_same old new = is_same_form old.parameters new.parameters && pointwise is_same_token old.body new.body

-- a name that has no definition takes this one; one that has a definition has to have the same
abbrev pub defined_beside : Definitions → Named → Option Definition → Result Definitions MacroError
defined_beside macros new None = Ok (map.insert macros new.name new.definition)
defined_beside macros new (Some old) = if is_same old new.definition then Ok macros else Err BadMacro

-- the macros after a line that was read
abbrev pub defined_as : Definitions → Option Named → Result Definitions MacroError
defined_as macros None = Err BadMacro
defined_as macros (Some new) = defined_beside macros new (map.get macros new.name)

-- the macros after the tokens after `define`
abbrev pub defined : Definitions → List Token → Result Definitions MacroError
defined macros line = defined_as macros (definition_of line)
