-- What each directive does, and a run of text (X3.159-1989 3.8). `#include` stands in Preprocessing.antt.
--     text_done run state                  a run of text, replaced
--     line_done outer keyword hash line state     a directive that neither includes nor belongs to a section
--     if_done, elif_done, else_done, endif_done   those of conditional sections
--     Turn                                 the sections and the state after a directive
use Rattle.std.specs.Prelude.{ℕ, ◌-◌, nat_lt, Bool, true, false, not, List, [], ◌∷◌, ◌++◌, length, Option, Some, None, Result, Ok, Err, is_some, if◌then◌else◌}
use Rattle.hs_base.specs.declared.pos.Pos.{Pos}
use Rattle.hs_base.specs.declared.limit.LimitKind.TheVariants.{Tokens}
use Rattle.hs_tokens.specs.declared.token.Token.{Token}
use Rattle.hs_tokens.specs.Marks.{is_identifier}
use Rattle.hs_macros.specs.Definitions.{Definitions, defined}
use Rattle.hs_macros.specs.Replacement.{replaced, Replaced}
use Rattle.hs_macros.specs.declared.budget.Budget.{Budget}
use Rattle.hs_macros.specs.declared.error.MacroError.{MacroError}
use Rattle.hs_directives.specs.Sections.{is_active, opened, skipped, elsed, passed_over, elifed}
use Rattle.hs_directives.specs.States.{passed, of_definition, of_replacement}
use Rattle.hs_directives.specs.Conditions.{condition_of}
use Rattle.hs_directives.specs.declared.condition.Answered.{Answered}
use Rattle.hs_directives.specs.declared.error.ReadError.{ReadError}
use Rattle.hs_directives.specs.declared.error.ReadError.TheVariants.{BadDirective}
use Rattle.hs_directives.specs.declared.keyword.Keyword.{Keyword}
use Rattle.hs_directives.specs.declared.keyword.Keyword.TheVariants.{Ifdef, Ifndef, Elif, Define, Undef, Dropped}
use Rattle.hs_directives.specs.declared.section.Section.{Section}
use Rattle.hs_directives.specs.declared.state.UnitSoFar.{UnitSoFar}
use Rattle.hs_directives.specs.declared.state.State.{State}
use Rattle.std.specs.FinMap as finite

-- the state with that left of the budget
abbrev pub with_left : State → Budget → State
with_left state left = record state { progress = record state.progress { left = left } }

-- the state with more tokens in the unit, which take their part of what is left
abbrev pub with_tokens : State → Replaced → Result State ReadError
with_tokens state it =
    if nat_lt it.left.tokens (length it.tokens) then Err (passed Tokens)
    else Ok (record {
      progress = record state.progress { left = record it.left { tokens = it.left.tokens - length it.tokens } };
      unit = record state.unit { tokens = state.unit.tokens ++ it.tokens };
    })

-- a run that was replaced
abbrev pub text_replaced : State → Result Replaced MacroError → Result State ReadError
text_replaced state (Err error) = Err (of_replacement error)
text_replaced state (Ok it) = with_tokens state it

-- a run of text that is kept
abbrev pub text_done : List Token → State → Result State ReadError
text_done tokens state = text_replaced state (replaced state.unit.macros state.progress.left tokens)

-- where a change of macros in an included file counts as standing: at the outermost `#include`
abbrev pub place_of : Option Pos → Pos → Pos
place_of None pos = pos
place_of (Some outer) pos = outer

-- a change of macros
abbrev pub with_change : UnitSoFar → Definitions → Pos → List ℕ → Bool → UnitSoFar
with_change unit macros pos name on =
    record unit { macros = macros; changes = unit.changes ++ record { pos = pos; name = name; on = on } ∷ [] }

-- the name at the front of a line
abbrev pub name_at : List Token → List ℕ
name_at [] = []
name_at (name ∷ rest) = name.text

-- a definition that was taken or refused
abbrev pub define_done : Option Pos → Token → List Token → State → Result Definitions MacroError → Result State ReadError
define_done outer hash line state (Err error) = Err (of_definition hash.pos error)
define_done outer hash line state (Ok macros) =
    Ok (record state { unit = with_change state.unit macros (place_of outer hash.pos) (name_at line) true })

-- one identifier, and nothing else
abbrev pub lone_name : List Token → Option (List ℕ)
lone_name [] = None
lone_name (name ∷ []) = if is_identifier name then Some name.text else None
lone_name (name ∷ next ∷ rest) = None

-- 3.8.3.5: a name that has no definition is ignored
abbrev pub undef_done : Option Pos → Token → State → Option (List ℕ) → Result State ReadError
undef_done outer hash state None = Err (BadDirective hash.pos)
undef_done outer hash state (Some name) =
    Ok (record state { unit = with_change state.unit (finite.remove state.unit.macros name) (place_of outer hash.pos) name false })

-- a directive that neither includes nor belongs to a section
abbrev pub line_done : Option Pos → Keyword → Token → List Token → State → Result State ReadError
line_done outer Define hash line state = define_done outer hash line state (defined state.unit.macros line)
line_done outer Undef hash line state = undef_done outer hash state (lone_name line)
line_done outer Dropped hash line state = Ok state
line_done outer _ hash line state = Err (BadDirective hash.pos)

-- the sections and the state after a directive
pub record Turn : Type 0 where
  pub sections : List Section
  pub state : State

-- the same sections, if the state is reached
abbrev pub with_sections : List Section → Result State ReadError → Result Turn ReadError
with_sections sections (Err error) = Err error
with_sections sections (Ok state) = Ok (record { sections = sections; state = state })

-- whether a name is defined
abbrev pub name_answered : Definitions → Budget → Pos → Bool → Option (List ℕ) → Result Answered ReadError
name_answered macros left pos wanted None = Err (BadDirective pos)
name_answered macros left pos true (Some name) = Ok (record { holds = is_some (finite.get macros name); left = left })
name_answered macros left pos false (Some name) = Ok (record { holds = not (is_some (finite.get macros name)); left = left })

-- the condition of a directive that is reached
abbrev pub answered_by : Keyword → Token → List Token → State → Result Answered ReadError
answered_by Ifdef hash line state = name_answered state.unit.macros state.progress.left hash.pos true (lone_name line)
answered_by Ifndef hash line state = name_answered state.unit.macros state.progress.left hash.pos false (lone_name line)
answered_by _ hash line state = condition_of state.unit.macros state.progress.left hash.pos line

-- a section begins whose condition was reached
abbrev pub section_opened : Token → List Section → State → Result Answered ReadError → Result Turn ReadError
section_opened hash outer state (Err error) = Err error
section_opened hash outer state (Ok it) = Ok (record { sections = opened hash.pos it.holds ∷ outer; state = with_left state it.left })

-- a section begins; in a group that is skipped no condition is reached
abbrev pub if_done : Keyword → Token → List Token → List Section → State → Result Turn ReadError
if_done keyword hash line sections state =
    if is_active sections then section_opened hash sections state (answered_by keyword hash line state)
    else Ok (record { sections = skipped hash.pos ∷ sections; state = state })

-- the next group of a section whose condition was reached
abbrev pub group_opened : Section → List Section → State → Result Answered ReadError → Result Turn ReadError
group_opened section outer state (Err error) = Err error
group_opened section outer state (Ok it) = Ok (record { sections = elifed section it.holds ∷ outer; state = with_left state it.left })

-- C 3.8.1: `#elif` has an `#if` before it, and no `#else`. After a group that was kept its condition is not reached.
abbrev pub elif_done : Token → List Token → List Section → State → Result Turn ReadError
elif_done hash line [] state = Err (BadDirective hash.pos)
elif_done hash line (section ∷ outer) state =
    if not section.reached then Ok (record { sections = section ∷ outer; state = state })
    else if section.closed then Err (BadDirective hash.pos)
    else if section.done then Ok (record { sections = passed_over section ∷ outer; state = state })
    else group_opened section outer state (answered_by Elif hash line state)

-- so has `#else`
abbrev pub else_done : Token → List Section → State → Result Turn ReadError
else_done hash [] state = Err (BadDirective hash.pos)
else_done hash (section ∷ outer) state =
    if not section.reached then Ok (record { sections = section ∷ outer; state = state })
    else if section.closed then Err (BadDirective hash.pos)
    else Ok (record { sections = elsed section ∷ outer; state = state })

-- the section ends
abbrev pub endif_done : Token → List Section → State → Result Turn ReadError
endif_done hash [] state = Err (BadDirective hash.pos)
endif_done hash (section ∷ outer) state = Ok (record { sections = outer; state = state })
