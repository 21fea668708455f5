-- What the words of a call ask for. The words after the command are read by the crate `clap`: what it takes for the command
-- that is stated here is taken. Own to this project.
--     check_command        the command `check`: one FILE or more, each of any text, and no other argument but the crate's help
--     file_names words     the names that it reads from the words
--     IsCheck words names  the words ask for a check of the named files
--     IsNoCheck words      they do not
--     run_command          the command `run`: the same, and five options, of which each has one value of any text
--     number_of text       the number that one to ten decimal digits are
--     mover_of text        the number of the mover that a word names
--     asked words          what the command reads from the words, if its number words are numbers
--     IsRun words it       the words ask for this run
--     IsNoRun words        they ask for no run
--     IsCommand words ..   what each answer says of them
use Rattle.std.specs.Prelude.{◌≡◌, ◌⊎◌, ◌<◌, ◌≤◌, ◌==◌, ◌&&◌, nat_le, ℕ, Bool, false, length, List, [], ◌∷◌, map, codes, Option, Some, None, option_map, Result, Ok, Err, true, unwrap_or, if◌then◌else◌}
use Rattle.std.specs.Char.{is_digit}
use Rattle.std.specs.List.{list_all, list_any}
use Rattle.std.specs.Str.{bytes_eq}
use Rattle.std.specs.Str.Parse.{digits_value}
use Rattle.std.specs.String.{string_bytes}
use Rattle.clap.specs.Words.{App, Row, Rule, all_of, fault_of, first_of, matches_of, new_app, new_rule, with_rule}
use Rattle.clap.specs.Lexer.{usize_max}
use Rattle.clap.specs.declared.builder.action.ArgAction.TheVariants.{Set}
use Rattle.hs_words.specs.declared.command.Command.{Command}
use Rattle.hs_words.specs.declared.command.Command.TheVariants.{Check, Run}
use Rattle.hs_words.specs.declared.command.RunWords.{RunWords}
use Rattle.hs_words.specs.declared.command.WordsError.{WordsError}
use Rattle.hs_words.specs.declared.command.WordsError.TheVariants.{Usage, NoMemory}

-- a required positional, with one value or more
abbrev pub file_rule : Rule
file_rule = record (new_rule (codes "FILE")) {
  required = true;
  range = Some (record { start_inclusive = 1; end_inclusive = usize_max });
}

-- the command, and its one argument
abbrev pub check_command : App
check_command = with_rule (new_app (codes "check")) file_rule

-- the first word, which is the command's
abbrev pub first_word : List (List ℕ) → Option (List ℕ)
first_word [] = None
first_word (word ∷ words) = Some word

-- the names that the command reads: none if it refuses the words
abbrev pub file_names : List (List ℕ) → List (List ℕ)
file_names words = unwrap_or (all_of (codes "FILE") (matches_of check_command words)) []

-- the command is `check`, it takes the words, and these are its names
pub record IsCheck (words names : List (List ℕ)) : Type 0 where
  pub command : first_word words ≡ Some (codes "check")
  pub taken : fault_of check_command words ≡ []
  pub read : names ≡ file_names words

-- the first word is no command, or the command refuses the words
abbrev pub IsNoCheck : List (List ℕ) → Type 0
IsNoCheck words = (first_word words ≡ Some (codes "check") → ⊥) ⊎ (fault_of check_command words ≡ [] → ⊥)

-- the word begins with `-`
abbrev pub begins_with_hyphen : List ℕ → Bool
begins_with_hyphen [] = false
begins_with_hyphen (byte ∷ rest) = byte == 45

-- names of which none begins with `-`, one at least
abbrev pub ArePlain : List (List ℕ) → Type 0
ArePlain names = (0 < length names) × (length names ≤ usize_max) × (list_any begins_with_hyphen names ≡ false)

-- the command `check` takes plain names as they stand
abbrev pub TakesPlainNames : Type 0
TakesPlainNames = (names : List (List ℕ)) → ArePlain names → IsCheck (codes "check" ∷ names) names

-- ---- run

-- an option `--NAME` with one value of any text, and what its value is if it is not given
abbrev pub option_rule : List ℕ → List (List ℕ) → Rule
option_rule name defaults = record (new_rule name) { long = Some name; action = Some Set; defaults = defaults }

-- the command, its options, and its files
abbrev pub run_command : App
run_command =
    with_rule (with_rule (with_rule (with_rule (with_rule (with_rule (new_app (codes "run")) (option_rule (codes "table") (codes "table.toml" ∷ [])))
    (option_rule (codes "mover") (codes "still" ∷ []))) (option_rule (codes "script") [])) (option_rule (codes "input") []))
    (option_rule (codes "turns") (codes "1000000" ∷ []))) file_rule

-- the value that was read for an option, of one that has a default
abbrev pub text_in : List ℕ → List Row → List ℕ
text_in option rows = unwrap_or (first_of option rows) []

-- one to ten decimal digits
abbrev pub is_number : List ℕ → Bool
is_number text = nat_le 1 (length text) && nat_le (length text) 10 && list_all (λ byte. is_digit byte 10) text

-- their number
abbrev pub number_of : List ℕ → Option ℕ
number_of text = if is_number text then Some (digits_value 10 text) else None

-- if it is at most 255
abbrev pub small : Option ℕ → Option ℕ
small None = None
small (Some number) = if nat_le number 255 then Some number else None

-- a mover, by its name or by its number
abbrev pub mover_of : List ℕ → Option ℕ
mover_of word =
    if bytes_eq word (codes "still") then Some 0
    else (if bytes_eq word (codes "slide") then Some 1
    else (if bytes_eq word (codes "script") then Some 2
    else (if bytes_eq word (codes "seeded") then Some 3
    else small (number_of word))))

-- What a run is asked to be: the name of its table's file, the number of its mover, the names of the files of its script and of its input, how
-- many turns it has, and the names of its sources.
pub record Asked : Type 0 where
  pub table : List ℕ
  pub mover : ℕ
  pub script : Option (List ℕ)
  pub input : Option (List ℕ)
  pub turns : ℕ
  pub names : List (List ℕ)

-- with that mover and so many turns, if these are numbers
abbrev pub asked_with : List Row → Option ℕ → Option ℕ → Option Asked
asked_with rows None turns = None
asked_with rows (Some mover) None = None
asked_with rows (Some mover) (Some turns) = Some (record {
  table = text_in (codes "table") rows;
  mover = mover;
  script = first_of (codes "script") rows;
  input = first_of (codes "input") rows;
  turns = turns;
  names = unwrap_or (all_of (codes "FILE") rows) [];
})

-- of what was read, if the number words are numbers
abbrev pub asked_in : List Row → Option Asked
asked_in rows = asked_with rows (mover_of (text_in (codes "mover") rows)) (number_of (text_in (codes "turns") rows))

-- what the command reads from the words
abbrev pub asked : List (List ℕ) → Option Asked
asked words = asked_in (matches_of run_command words)

-- the command is `run`, it takes the words, and this is what it reads
pub record IsRun (words : List (List ℕ)) (it : Asked) : Type 0 where
  pub command : first_word words ≡ Some (codes "run")
  pub taken : fault_of run_command words ≡ []
  pub read : asked words ≡ Some it

-- the first word is another one, or the command refuses the words, or a number word is no number in its range
abbrev pub IsNoRun : List (List ℕ) → Type 0
IsNoRun words = (first_word words ≡ Some (codes "run") → ⊥) ⊎ (fault_of run_command words ≡ [] → ⊥) ⊎ (asked words ≡ None)

-- ---- all commands

-- what the words of a run are, as code has them
abbrev pub asked_of : RunWords → Asked
asked_of it = record {
  table = string_bytes it.table;
  mover = it.mover;
  script = option_map string_bytes it.script;
  input = option_map string_bytes it.input;
  turns = it.turns;
  names = map string_bytes it.names.items;
}

-- what was read, as a run, or that a word for a number is not a number
abbrev pub IsReadAs : List Row → Result RunWords WordsError → Type 0
IsReadAs rows (Ok it) = asked_in rows ≡ Some (asked_of it)
IsReadAs rows (Err Usage) = asked_in rows ≡ None
IsReadAs rows (Err NoMemory) = Unit {0}

-- what each answer says of the words
abbrev pub IsCommand : List (List ℕ) → Result Command WordsError → Type 0
IsCommand words (Ok (Check names)) = IsCheck words (map string_bytes names.items)
IsCommand words (Ok (Run it)) = IsRun words (asked_of it)
IsCommand words (Err Usage) = IsNoCheck words × IsNoRun words
IsCommand words (Err NoMemory) = Unit {0}
