-- What the code's values say, in the definition's words.
--     piece_of part                     a piece
--     IsFirst tokens part               the first piece of the tokens, and those after it
--     IsInclusionOf part sections it    whether the part includes a file here
--     piece_outcome ..                  what a piece comes to
--     turn_of sections state            what follows a directive
--     seen_operand, seen_tokens, seen_bytes, seen_name, named_of      what optional values say
use Rattle.std.specs.Prelude.{◌≡◌, ℕ, ◌<◌, List, [], ◌∷◌, ◌++◌, length, Bool, true, not, Option, Some, None, IsNone, drop, Result, Vec}
use Rattle.std.specs.String.{string_bytes}
use Rattle.std.specs.declared.alloc.Global.{Global}
use Rattle.std.specs.Borrow.{Bor}
use Rattle.hs_base.specs.declared.pos.Pos.{Pos}
use Rattle.hs_tokens.specs.declared.token.Token.{Token}
use Rattle.hs_directives.specs.declared.error.ReadError.{ReadError}
use Rattle.hs_directives.specs.Pieces.{begins_directive, Piece, run, directive, pieces, keyword_of}
use Rattle.hs_directives.specs.Conditions.{Operand}
use Rattle.hs_directives.specs.Includes.{Named}
use Rattle.hs_directives.specs.Directives.{Turn, with_sections}
use Rattle.hs_directives.specs.Preprocessing.{run_done, directive_done}
use Rattle.hs_directives.specs.Sections.{is_active}
use Rattle.hs_directives.specs.declared.section.Section.{Section}
use Rattle.hs_directives.specs.declared.keyword.Keyword.{Keyword}
use Rattle.hs_directives.specs.declared.keyword.Keyword.TheVariants.{Include}
use Rattle.hs_directives.specs.declared.state.State.{State}
use Rattle.hs_directives.specs.declared.condition.Asked.{Asked}
use Rattle.hs_directives.specs.declared.include.IncludeName.{IncludeName}
use Rattle.hs_directives.specs.declared.pieces.Part.{Part}
use Rattle.hs_directives.specs.declared.pieces.Part.TheVariants.{Run, Directive}

-- the token stands on the line of the one before it
abbrev pub goes_on : Token → Bool
goes_on token = not token.first

-- no directive begins
abbrev pub is_text : Token → Bool
is_text token = not (begins_directive token)

-- a piece
abbrev pub piece_of : Part → Piece
piece_of (Run tokens) = run tokens.now
piece_of (Directive hash line) = directive hash.now line.now

-- the first piece, and the tokens after it, or no piece
abbrev pub IsFirst : List Token → Option (Part × Bor (List Token)) → Type 0
IsFirst tokens None = pieces tokens ≡ []
IsFirst tokens (Some part) = (pieces tokens ≡ piece_of part.0 ∷ pieces part.1.now) × (length part.1.now < length tokens)

-- what `defined` asks for
abbrev pub seen_operand : Option Asked → Option Operand
seen_operand None = None
seen_operand (Some asked) = Some (record { name = asked.name.now; len = asked.len })

-- tokens in front of the others, if there are any
abbrev pub behind_front : List Token → Option (List Token) → Option (List Token)
behind_front front None = None
behind_front front (Some tokens) = Some (front ++ tokens)

-- the tokens that were resolved
abbrev pub seen_tokens : Option (Vec Token Global) → Option (List Token)
seen_tokens None = None
seen_tokens (Some tokens) = Some tokens.items

-- bytes that were joined
abbrev pub seen_bytes : Option (Vec ℕ Global) → Option (List ℕ)
seen_bytes None = None
seen_bytes (Some bytes) = Some bytes.items

-- a name, and what is left
abbrev pub named_of : IncludeName → Named
named_of it = record { name = string_bytes it.name; left = it.left }

-- a name that is lent
abbrev pub seen_name : Option (Bor (List ℕ)) → Option (List ℕ)
seen_name None = None
seen_name (Some name) = Some name.now

-- the sections and the state after a directive
abbrev pub turn_of : List Section → State → Turn
turn_of sections state = record { sections = sections; state = state }

-- a file is included here
abbrev pub IsInclusion : Keyword → List Section → Type 0
IsInclusion keyword sections = (keyword ≡ Include) × (is_active sections ≡ true)

-- whether the part includes a file here: its `#`, and the tokens after its keyword
abbrev pub IsInclusionOf : Part → List Section → Option (Bor Token × Bor (List Token)) → Type 0
IsInclusionOf (Run tokens) sections result = IsNone result
IsInclusionOf (Directive hash line) sections None = IsInclusion (keyword_of line.now) sections → ⊥
IsInclusionOf (Directive hash line) sections (Some it) =
    IsInclusion (keyword_of line.now) sections × (it.0.now ≡ hash.now) × (it.1.now ≡ drop 1 line.now)

-- what a piece comes to
abbrev pub piece_outcome : (Option Pos → Token → List ℕ → State → Result State ReadError) → Option Pos → Piece → List Section → State → Result Turn ReadError
piece_outcome enter outer (run tokens) sections state = with_sections sections (run_done enter tokens sections state)
piece_outcome enter outer (directive hash line) sections state = directive_done enter outer (keyword_of line) hash (drop 1 line) sections state
