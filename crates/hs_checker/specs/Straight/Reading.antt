-- Reading the tokens of a straight program from left to right. Each function gives what it read and the tokens after it, or
-- nothing; `Grammar.antt` has the relation that decides what is right.
--     first_at, mark_at, marks_at         any token, one with a given text, several with given texts
--     is_at text tokens                   the first token has that text
--     numeral, number_at                  a number in its one form, at most `most`
--     number_of, variable_at              a variable by its name: its number
--     kind_at, declaration_at             the stars of a declaration, a declaration and its semicolon
--     expr_at                             an expression; `word_at` of one token, `load_at` of two
--     form_at, step_at                    a step without and with its semicolon; a function for each form
use Rattle.std.specs.Prelude.{◌≡◌, ℕ, nat_le, ◌==◌, Bool, true, false, not, ◌&&◌, ◌||◌, List, [], ◌∷◌, codes, Option, Some, None, is_some, if◌then◌else◌}
use Rattle.std.specs.List.{list_all, position}
use Rattle.std.specs.Str.{bytes_eq}
use Rattle.std.specs.Str.Parse.{digits_value}
use Rattle.hs_base.specs.declared.pos.Pos.{Pos}
use Rattle.hs_base.specs.Text.{is_digit}
use Rattle.hs_base.specs.Options.{◌>>=◌}
use Rattle.hs_tree.specs.Straight.Names.{begins_with_letter}
use Rattle.hs_tree.specs.Straight.Fine.{is_declared, is_fine_name, is_fine_step}
use Rattle.hs_tokens.specs.declared.token.SourceToken.{SourceToken}
use Rattle.hs_tokens.specs.declared.token.Token.{Token}
use Rattle.hs_tree.specs.declared.straight.tree.Kind.{Kind}
use Rattle.hs_tree.specs.declared.straight.tree.Kind.TheVariants.{Handle, Pointer, Letter}
use Rattle.hs_tree.specs.declared.straight.tree.Variable.{Variable}
use Rattle.hs_tree.specs.declared.straight.tree.Expr.{Expr}
use Rattle.hs_tree.specs.declared.straight.tree.Expr.TheVariants as expr
use Rattle.hs_tree.specs.declared.straight.tree.Step.{Step}
use Rattle.hs_tree.specs.declared.straight.tree.Step.TheVariants as step

-- the first token, whichever it is
unfoldable pub first_at : List SourceToken → Option (Token × List SourceToken)
first_at [] = None
first_at (source ∷ rest) = Some (source.token, rest)

-- the place of the first token, which has that text
unfoldable pub mark_at : List ℕ → List SourceToken → Option (Pos × List SourceToken)
mark_at text tokens = do
  first ← first_at tokens
  if bytes_eq first.0.text text then Some (first.0.pos, first.1) else None

-- the first token has that text
unfoldable pub is_at : List ℕ → List SourceToken → Bool
is_at text tokens = is_some (mark_at text tokens)

-- what follows tokens with these texts
unfoldable pub marks_at : List (List ℕ) → List SourceToken → Option (List SourceToken)
marks_at [] tokens = Some tokens
marks_at (text ∷ texts) tokens = do
  first ← mark_at text tokens
  marks_at texts first.1

-- one byte alone
abbrev pub has_one : List ℕ → Bool
has_one (byte ∷ []) = true
has_one (byte ∷ next ∷ rest) = false
has_one [] = false

-- the first byte is `0`
abbrev pub begins_with_zero : List ℕ → Bool
begins_with_zero [] = false
begins_with_zero (byte ∷ rest) = byte == 48

-- digits, and no 0 in front of others
abbrev pub is_numeral : List ℕ → Bool
is_numeral [] = false
is_numeral (byte ∷ rest) = list_all is_digit (byte ∷ rest) && (has_one (byte ∷ rest) || not (begins_with_zero (byte ∷ rest)))

-- the number, at most `most`, whose decimal text this is
unfoldable pub numeral : ℕ → List ℕ → Option ℕ
numeral most text = if is_numeral text && nat_le (digits_value 10 text) most then Some (digits_value 10 text) else None

-- a token that is a number
unfoldable pub number_at : ℕ → List SourceToken → Option (ℕ × List SourceToken)
number_at most tokens = do
  first ← first_at tokens
  number ← numeral most first.0.text
  Some (number, first.1)

-- the number of the variable of that name
unfoldable pub number_of : List Variable → List ℕ → Option ℕ
number_of variables name = position (λ variable. bytes_eq variable.name name) variables

-- a token that names a variable
unfoldable pub variable_at : List Variable → List SourceToken → Option (ℕ × List SourceToken)
variable_at variables tokens = do
  first ← first_at tokens
  number ← number_of variables first.0.text
  Some (number, first.1)

-- the second star of a handle, if it stands
unfoldable pub second_star_at : List SourceToken → Option (Kind × List SourceToken)
second_star_at tokens =
    if is_at (codes "*") tokens then (do
      star ← mark_at (codes "*") tokens
      Some (Handle, star.1))
    else Some (Pointer, tokens)

-- the stars in front of a name
unfoldable pub kind_at : List SourceToken → Option (Kind × List SourceToken)
kind_at tokens =
    if is_at (codes "*") tokens then (do
      star ← mark_at (codes "*") tokens
      second_star_at star.1)
    else Some (Letter, tokens)

-- a declaration, whose name may follow those before it
unfoldable pub declaration_at : List Variable → List SourceToken → Option (Variable × List SourceToken)
declaration_at earlier tokens = do
  word ← mark_at (codes "char") tokens
  kind ← kind_at word.1
  name ← first_at kind.1
  mark ← mark_at (codes ";") name.1
  if is_fine_name earlier name.0.text then Some (record { kind = kind.0; name = name.0.text }, mark.1) else None

-- the expression that one token is: a name or a number
unfoldable pub word_value : List Variable → Token → Option Expr
word_value variables token =
    if begins_with_letter token.text then (do
      letter ← number_of variables token.text
      Some (expr.Letter token.pos letter))
    else (do
      value ← numeral 127 token.text
      Some (expr.Number value))

-- an expression of one token
unfoldable pub word_at : List Variable → List SourceToken → Option (Expr × List SourceToken)
word_at variables tokens = do
  first ← first_at tokens
  value ← word_value variables first.0
  Some (value, first.1)

-- what a pointer points to
unfoldable pub load_at : List Variable → List SourceToken → Option (Expr × List SourceToken)
load_at variables tokens = do
  star ← mark_at (codes "*") tokens
  pointer ← variable_at variables star.1
  Some (expr.Load star.0 pointer.0, pointer.1)

-- an expression: only what is loaded begins with a star
unfoldable pub expr_at : List Variable → List SourceToken → Option (Expr × List SourceToken)
expr_at variables tokens = if is_at (codes "*") tokens then load_at variables tokens else word_at variables tokens

-- a handle in parentheses
unfoldable pub handle_at : List Variable → List SourceToken → Option (ℕ × List SourceToken)
handle_at variables tokens = do
  left ← mark_at (codes "(") tokens
  handle ← variable_at variables left.1
  right ← mark_at (codes ")") handle.1
  Some (handle.0, right.1)

-- `HLock(handle)`
unfoldable pub lock_at : List Variable → List SourceToken → Option (Step × List SourceToken)
lock_at variables tokens = do
  word ← mark_at (codes "HLock") tokens
  handle ← handle_at variables word.1
  Some (step.HLock word.0 handle.0, handle.1)

-- `HUnlock(handle)`
unfoldable pub unlock_at : List Variable → List SourceToken → Option (Step × List SourceToken)
unlock_at variables tokens = do
  word ← mark_at (codes "HUnlock") tokens
  handle ← handle_at variables word.1
  Some (step.HUnlock word.0 handle.0, handle.1)

-- `putchar(value)`
unfoldable pub putchar_at : List Variable → List SourceToken → Option (Step × List SourceToken)
putchar_at variables tokens = do
  word ← mark_at (codes "putchar") tokens
  left ← mark_at (codes "(") word.1
  value ← expr_at variables left.1
  right ← mark_at (codes ")") value.1
  Some (step.Putchar value.0, right.1)

-- `*pointer = value`
unfoldable pub store_at : List Variable → List SourceToken → Option (Step × List SourceToken)
store_at variables tokens = do
  star ← mark_at (codes "*") tokens
  pointer ← variable_at variables star.1
  sign ← mark_at (codes "=") pointer.1
  value ← expr_at variables sign.1
  Some (step.Store sign.0 pointer.0 value.0, value.1)

-- `NewHandle(number)`, for the handle
unfoldable pub new_handle_at : ℕ → List SourceToken → Option (Step × List SourceToken)
new_handle_at handle tokens = do
  word ← mark_at (codes "NewHandle") tokens
  left ← mark_at (codes "(") word.1
  size ← number_at 32767 left.1
  right ← mark_at (codes ")") size.1
  Some (step.NewHandle handle size.0, right.1)

-- `*handle`, for the pointer
unfoldable pub derive_at : List Variable → ℕ → List SourceToken → Option (Step × List SourceToken)
derive_at variables pointer tokens = do
  star ← mark_at (codes "*") tokens
  handle ← variable_at variables star.1
  Some (step.Derive star.0 pointer handle.0, handle.1)

-- a value, for the letter
unfoldable pub set_at : List Variable → ℕ → List SourceToken → Option (Step × List SourceToken)
set_at variables letter tokens = do
  value ← expr_at variables tokens
  Some (step.Set letter value.0, value.1)

-- what follows the `=` of an assignment to the variable of that number
unfoldable pub source_at : List Variable → ℕ → List SourceToken → Option (Step × List SourceToken)
source_at variables number tokens =
    if is_declared Handle variables number then new_handle_at number tokens
    else if is_declared Pointer variables number then derive_at variables number tokens
    else set_at variables number tokens

-- an assignment to a variable: its kind decides the form
unfoldable pub assign_at : List Variable → List SourceToken → Option (Step × List SourceToken)
assign_at variables tokens = do
  target ← variable_at variables tokens
  sign ← mark_at (codes "=") target.1
  source_at variables target.0 sign.1

-- a step without its semicolon
unfoldable pub form_at : List Variable → List SourceToken → Option (Step × List SourceToken)
form_at variables tokens =
    if is_at (codes "*") tokens then store_at variables tokens
    else if is_at (codes "HLock") tokens then lock_at variables tokens
    else if is_at (codes "HUnlock") tokens then unlock_at variables tokens
    else if is_at (codes "putchar") tokens then putchar_at variables tokens
    else assign_at variables tokens

-- a step, which may follow those done
unfoldable pub step_at : List Variable → List Step → List SourceToken → Option (Step × List SourceToken)
step_at variables done tokens = do
  step ← form_at variables tokens
  mark ← mark_at (codes ";") step.1
  if is_fine_step variables done step.0 then Some (step.0, mark.1) else None
