-- Preprocessing (X3.159-1989 2.1.1.2 phase 4, and 3.8): the units of named files, or the first refusal. A function from a
-- listing of files and root names.
--     walked enter outer pieces sections state    the pieces of a file
--     entered levels listing outer hash name state     an included file, if so many levels may still be opened
--     unit_of, units_of, preprocessed             a unit, units, and all
use Rattle.std.specs.Prelude.{ℕ, zero, suc, List, [], ◌∷◌, map, drop, Option, Some, None, Result, Ok, Err, if◌then◌else◌}
use Rattle.std.specs.Ordering.{nat_cmp}
use Rattle.std.specs.BTreeSet.{insert_key}
use Rattle.hs_base.specs.Files.{Listing}
use Rattle.hs_base.specs.Limit.{number_of}
use Rattle.hs_base.specs.declared.pos.Pos.{Pos}
use Rattle.hs_base.specs.declared.limit.LimitKind.TheVariants.{Scanned, Replacements, Tokens}
use Rattle.hs_tokens.specs.declared.token.Token.{Token}
use Rattle.hs_directives.specs.Pieces.{Piece, run, directive, pieces, keyword_of}
use Rattle.hs_directives.specs.Sections.{is_active, open_at}
use Rattle.hs_directives.specs.States.{and_then, Found, found_file}
use Rattle.hs_directives.specs.Includes.{include_name, Named}
use Rattle.hs_directives.specs.declared.error.ReadError.{ReadError}
use Rattle.hs_directives.specs.declared.error.ReadError.TheVariants.{OpenIf, IncludeDepth}
use Rattle.hs_directives.specs.declared.keyword.Keyword.{Keyword}
use Rattle.hs_directives.specs.declared.keyword.Keyword.TheVariants.{If, Ifdef, Ifndef, Elif, Else, Endif, Include}
use Rattle.hs_directives.specs.declared.section.Section.{Section}
use Rattle.hs_directives.specs.declared.source.Source.{Source}
use Rattle.hs_directives.specs.declared.state.Progress.{Progress}
use Rattle.hs_directives.specs.declared.state.UnitSoFar.{UnitSoFar}
use Rattle.hs_directives.specs.declared.state.State.{State}
use Rattle.hs_directives.specs.declared.unit.TranslationUnit.{TranslationUnit}
use Rattle.std.specs.FinMap as finite
use Rattle.hs_directives.specs.Directives.{Turn, elif_done, else_done, endif_done, if_done, line_done, place_of, text_done, with_left, with_sections}

module _ (enter : Option Pos → Token → List ℕ → State → Result State ReadError) where
  -- the named file, entered at this directive
  abbrev pub include_named : Option Pos → Token → State → Result Named ReadError → Result State ReadError
  include_named outer hash state (Err error) = Err error
  include_named outer hash state (Ok it) = enter outer hash it.name (with_left state it.left)

  -- a directive that belongs to no section, if it is reached
  abbrev pub reached_done : Option Pos → Keyword → Token → List Token → State → Result State ReadError
  reached_done outer Include hash line state =
      include_named outer hash state (include_name state.unit.macros state.progress.left hash.pos line)
  reached_done outer keyword hash line state = line_done outer keyword hash line state

  -- one that is reached or not
  abbrev pub other_done : Option Pos → Keyword → Token → List Token → List Section → State → Result Turn ReadError
  other_done outer keyword hash line sections state =
      if is_active sections then with_sections sections (reached_done outer keyword hash line state)
      else Ok (record { sections = sections; state = state })

  -- any directive, with the tokens after its keyword
  abbrev pub directive_done : Option Pos → Keyword → Token → List Token → List Section → State → Result Turn ReadError
  directive_done outer If hash line sections state = if_done If hash line sections state
  directive_done outer Ifdef hash line sections state = if_done Ifdef hash line sections state
  directive_done outer Ifndef hash line sections state = if_done Ifndef hash line sections state
  directive_done outer Elif hash line sections state = elif_done hash line sections state
  directive_done outer Else hash line sections state = else_done hash sections state
  directive_done outer Endif hash line sections state = endif_done hash sections state
  directive_done outer keyword hash line sections state = other_done outer keyword hash line sections state

  -- a run of text, if it is kept
  abbrev pub run_done : List Token → List Section → State → Result State ReadError
  run_done tokens sections state = if is_active sections then text_done tokens state else Ok state

  -- the end of a file
  abbrev pub closed : Option Pos → State → Result State ReadError
  closed None state = Ok state
  closed (Some pos) state = Err (OpenIf pos)

  -- the pieces of a file, one after another. A section that is still open at the end is tried last.
  abbrev pub walked : Option Pos → List Piece → List Section → State → Result State ReadError
  walked outer [] sections state = closed (open_at sections) state
  walked outer (run tokens ∷ rest) sections state =
      and_then (run_done tokens sections state) (λ state'. walked outer rest sections state')
  walked outer (directive hash line ∷ rest) sections state =
      and_then (directive_done outer (keyword_of line) hash (drop 1 line) sections state)
      (λ turn. walked outer rest turn.sections turn.state)

-- a reached `#include` names the file
abbrev pub included_file : Found → Progress
included_file found = record found.progress { included = insert_key nat_cmp found.progress.included found.number }

-- An included file, if so many levels may still be opened. Its name has its form; the depth comes before the file.
abbrev pub entered : ℕ → Listing → Option Pos → Token → List ℕ → State → Result State ReadError
entered zero listing outer hash name state = Err (IncludeDepth hash.pos)
entered (suc levels) listing outer hash name state =
    and_then (found_file listing name state.progress)
    (λ found. walked (entered levels listing) (Some (place_of outer hash.pos)) (pieces found.tokens) []
    (record state { progress = included_file found }))

-- how deep files may include one another
abbrev pub most_levels : ℕ
most_levels = 32

-- no macros, no tokens
abbrev pub fresh : UnitSoFar
fresh = record { macros = finite.empty; tokens = []; changes = [] }

-- a unit, and what reading has come to
pub record UnitRead : Type 0 where
  pub unit : TranslationUnit
  pub progress : Progress

-- the unit of a file that was walked
abbrev pub unit_read : ℕ → State → UnitRead
unit_read root state = record { unit = record { root = root; tokens = state.unit.tokens; changes = state.unit.changes }; progress = state.progress }

-- the unit of a root file
abbrev pub unit_of : Listing → List ℕ → Progress → Result UnitRead ReadError
unit_of listing name progress =
    and_then (found_file listing name progress) (λ found.
    and_then (walked (entered most_levels listing) None (pieces found.tokens) [] (record { progress = found.progress; unit = fresh }))
    (λ state. Ok (unit_read found.number state)))

-- units, and what reading has come to
pub record Units : Type 0 where
  pub units : List TranslationUnit
  pub progress : Progress

-- one more unit in front
abbrev pub with_unit : TranslationUnit → Units → Units
with_unit unit later = record { units = unit ∷ later.units; progress = later.progress }

-- the units of root names, one after another
abbrev pub units_of : Listing → List (List ℕ) → Progress → Result Units ReadError
units_of listing [] progress = Ok (record { units = []; progress = progress })
units_of listing (name ∷ names) progress =
    and_then (unit_of listing name progress) (λ it.
    and_then (units_of listing names it.progress) (λ later. Ok (with_unit it.unit later)))

-- nothing was read
abbrev pub start : Progress
start = record {
  files = [];
  room = number_of Scanned;
  left = record { replacements = number_of Replacements; tokens = number_of Tokens };
  included = [];
}

-- what a reader of sources gives
abbrev pub source_of : Units → Source
source_of it = record {
  names = map (λ file. file.name) it.progress.files;
  texts = map (λ file. file.text) it.progress.files;
  units = map (λ unit. unit.tokens) it.units;
  roots = map (λ unit. unit.root) it.units;
  included = it.progress.included;
  changes = map (λ unit. unit.changes) it.units;
}

-- the same of an outcome
abbrev pub source_by : Result Units ReadError → Result Source ReadError
source_by (Err error) = Err error
source_by (Ok units) = Ok (source_of units)

-- the sources of the named files
abbrev pub preprocessed : Listing → List (List ℕ) → Result Source ReadError
preprocessed listing names = source_by (units_of listing names start)
