-- The names that `#include` lines name (X3.159-1989 3.8.2). Both forms name files by the one search (own).
--     bracketed tokens, quoted token rest  the name between `<` and `>`, and between quotes
--     is_name bytes                      what a name may be
--     plain_name line                    the name of a line of one of the two forms
--     include_name macros left pos line  the name, and what is left; or why not
use Rattle.std.specs.Prelude.{ℕ, ◌-◌, nat_le, List, [], ◌∷◌, ◌++◌, length, take, drop, Bool, false, ◌&&◌, Option, Some, None, Result, Ok, Err, if◌then◌else◌, codes}
use Rattle.std.specs.List.{list_all}
use Rattle.hs_base.specs.declared.pos.Pos.{Pos}
use Rattle.hs_tokens.specs.declared.token.Token.{Token}
use Rattle.hs_tokens.specs.declared.token.TokenKind.TheVariants.{Literal}
use Rattle.hs_tokens.specs.Marks.{is_same_kind, is_mark}
use Rattle.hs_macros.specs.Definitions.{Definitions}
use Rattle.hs_macros.specs.Replacement.{replaced, Replaced}
use Rattle.hs_macros.specs.declared.budget.Budget.{Budget}
use Rattle.hs_macros.specs.declared.error.MacroError.{MacroError}
use Rattle.hs_directives.specs.States.{of_replacement}
use Rattle.hs_directives.specs.Conditions.{tokens_of}
use Rattle.hs_directives.specs.declared.error.ReadError.{ReadError}
use Rattle.hs_directives.specs.declared.error.ReadError.TheVariants.{BadDirective}

-- text in front of a name
abbrev pub with_text : List ℕ → Option (List ℕ) → Option (List ℕ)
with_text text None = None
with_text text (Some name) = Some (text ++ name)

-- nothing follows the `>`
abbrev pub ended : List Token → Option (List ℕ)
ended [] = Some []
ended (token ∷ rest) = None

-- the joined texts up to the first `>`, which ends the line
abbrev pub bracketed : List Token → Option (List ℕ)
bracketed [] = None
bracketed (token ∷ rest) = if is_mark (codes ">") token then ended rest else with_text token.text (bracketed rest)

-- the bytes between the quotes of a literal that is the line, without escapes
abbrev pub quoted : Token → List Token → Option (List ℕ)
quoted token [] = if is_same_kind token.kind Literal then Some (take (length token.text - 2) (drop 1 token.text)) else None
quoted token (next ∷ rest) = None

-- either form
abbrev pub plain_name : List Token → Option (List ℕ)
plain_name [] = None
plain_name (token ∷ rest) = if is_mark (codes "<") token then bracketed rest else quoted token rest

-- from 32 to 126
abbrev pub is_printable : ℕ → Bool
is_printable byte = nat_le 32 byte && nat_le byte 126

-- a name has bytes, and all are such (own)
abbrev pub is_name : List ℕ → Bool
is_name [] = false
is_name (byte ∷ bytes) = list_all is_printable (byte ∷ bytes)

-- a name, and what is left
pub record Named : Type 0 where
  pub name : List ℕ
  pub left : Budget

-- the name, if it is one
abbrev pub checked_name : Pos → Budget → Option (List ℕ) → Result Named ReadError
checked_name pos left None = Err (BadDirective pos)
checked_name pos left (Some name) = if is_name name then Ok (record { name = name; left = left }) else Err (BadDirective pos)

-- the name of what was replaced
abbrev pub name_replaced : Pos → Result Replaced MacroError → Result Named ReadError
name_replaced pos (Err error) = Err (of_replacement error)
name_replaced pos (Ok replaced) = checked_name pos replaced.left (plain_name (tokens_of replaced.tokens))

-- a line of neither form is replaced first
abbrev pub name_by_form : Definitions → Budget → Pos → List Token → Option (List ℕ) → Result Named ReadError
name_by_form macros left pos line (Some name) = checked_name pos left (Some name)
name_by_form macros left pos line None = name_replaced pos (replaced macros left line)

-- the name of the line after `include`, of the directive whose `#` stands there
abbrev pub include_name : Definitions → Budget → Pos → List Token → Result Named ReadError
include_name macros left pos line = name_by_form macros left pos line (plain_name line)
