-- The text of a script (the form is own): lines, each ended by LF; the last LF may be absent. An empty line is ignored.
--     seed 7                          the seed, from 0 to 18446744073709551615; only the first line that is not empty may give it, else it is 0
--     3: none                         decision 3 names no block
--     4: move all                     decision 4 names every block to be moved
--     5: move 1,2 purge 7             decision 5 names blocks 1 and 2 to be moved, and block 7 to be purged
-- The numbers of decisions ascend, from 1 to 4000000; a decision that is left out names no block. Blocks are numbers from 1 to 4294967295.
--     text_of script               the text that is printed: a line for every decision
--     item_of line                 what a line says, if it has one of the forms
--     Read, added read item        what the lines so far come to, and with one line more
--     reading text                 the script, or the number of the first line that has no form or comes too late
--     IsScriptOf text result       what `read_script` may return for the text
--     IsPrintable script           what the text of a script can say
use Rattle.std.specs.Prelude.{◌≡◌, ◌≤◌, ℕ, zero, suc, ◌+◌, ◌-◌, ◌==◌, nat_lt, Bool, true, false, ⊤, List, [], ◌∷◌, ◌++◌, length, take, drop, replicate, codes, Option, Some, None, option_map, Result, Ok, Err, if◌then◌else◌}
use Rattle.std.specs.Fmt.{decimal}
use Rattle.std.specs.List.{All as Each, position_or_len, slice_split}
use Rattle.std.specs.Str.{bytes_eq}
use Rattle.hs_base.specs.Options.{◌>>=◌}
use Rattle.hs_heap.specs.declared.decision.Decision.{Decision}
use Rattle.hs_heap.specs.declared.decision.Which.{Which}
use Rattle.hs_heap.specs.declared.decision.Which.TheVariants.{All, These}
use Rattle.hs_meaning.specs.InputTexts.{after, lines, number_in}
use Rattle.hs_movers.specs.Movers.{no_block}
use Rattle.hs_movers.specs.declared.script.Script.{Script}
use Rattle.hs_movers.specs.declared.script_text.ScriptError.{ScriptError}
use Rattle.hs_movers.specs.declared.script_text.ScriptError.TheVariants.{BadScript, NoMemory}
use Rattle.hs_movers.specs.declared.script_text.line.Item.{Item}
use Rattle.hs_movers.specs.declared.script_text.line.Item.TheVariants.{Nothing, Seed, Numbered}

-- ---- what is printed

-- numbers with commas between them
abbrev pub joined : List ℕ → List ℕ
joined [] = []
joined (number ∷ []) = decimal number
joined (number ∷ next ∷ rest) = decimal number ++ 44 ∷ joined (next ∷ rest)

-- ` move all`, ` purge 1,2`; a part that names no block is absent
abbrev pub part_text : List ℕ → Which → List ℕ
part_text word All = 32 ∷ word ++ 32 ∷ codes "all"
part_text word (These []) = []
part_text word (These (number ∷ rest)) = 32 ∷ word ++ 32 ∷ joined (number ∷ rest)

-- or ` none`, if there are no parts
abbrev pub or_none : List ℕ → List ℕ
or_none [] = codes " none"
or_none (byte ∷ rest) = byte ∷ rest

-- the decision of that number
abbrev pub decision_line : ℕ → Decision → List ℕ
decision_line number decision =
    decimal number ++ 58 ∷ or_none (part_text (codes "move") decision.moves ++ part_text (codes "purge") decision.purges) ++ 10 ∷ []

-- from that number on
abbrev pub decision_lines : ℕ → List Decision → List ℕ
decision_lines number [] = []
decision_lines number (decision ∷ rest) = decision_line number decision ++ decision_lines (suc number) rest

-- a seed that is 0 has no line
abbrev pub seed_line : ℕ → List ℕ
seed_line zero = []
seed_line (suc less) = codes "seed " ++ decimal (suc less) ++ 10 ∷ []

-- all of them
abbrev pub text_of : Script → List ℕ
text_of script = seed_line script.seed ++ decision_lines 1 script.decisions

-- no list has the number 0, which is that of no block
abbrev pub HasNoZero : Which → Type 0
HasNoZero All = Unit {0}
HasNoZero (These numbers) = Each (λ number. 1 ≤ number) numbers

-- what the text of a script can say
pub record IsPrintable (script : Script) : Type 0 where
  pub few : length script.decisions ≤ 4000000
  pub moves : Each (λ decision. HasNoZero decision.moves) script.decisions
  pub purges : Each (λ decision. HasNoZero decision.purges) script.decisions

-- ---- what is read

-- the number of each piece
abbrev pub numbers_in : List (List ℕ) → Option (List ℕ)
numbers_in [] = Some []
numbers_in (piece ∷ rest) = do
  number ← number_in 1 4294967295 piece
  numbers ← numbers_in rest
  Some (number ∷ numbers)

-- `all`, or numbers with commas between them
abbrev pub which_in : List ℕ → Option Which
which_in text =
    if bytes_eq text (codes "all") then Some All else option_map These (numbers_in (slice_split (λ byte. byte == 44) text))

-- the place of the first blank, or the end
abbrev pub word_length : List ℕ → ℕ
word_length text = position_or_len (λ byte. byte == 32) text

-- blocks that are purged, after the word
abbrev pub purged_in : Option (List ℕ) → Option Which
purged_in None = None
purged_in (Some list) = which_in list

-- with blocks that are moved; those that are purged follow, if there are any
abbrev pub then_purged : Which → List ℕ → Option Decision
then_purged moves [] = Some (record { moves = moves; purges = These [] })
then_purged moves (byte ∷ rest) = do
  purges ← purged_in (after (codes " purge ") (byte ∷ rest))
  Some (record { moves = moves; purges = purges })

-- by what follows ` move ` at its front, and else by what follows ` purge `
abbrev pub decision_by : Option (List ℕ) → Option (List ℕ) → Option Decision
decision_by None purged = do
  purges ← purged_in purged
  Some (record { moves = These []; purges = purges })
decision_by (Some list) purged = do
  moves ← which_in (take (word_length list) list)
  then_purged moves (drop (word_length list) list)

-- what follows the colon
abbrev pub decision_in : List ℕ → Option Decision
decision_in text =
    if bytes_eq text (codes " none") then Some no_block else decision_by (after (codes " move ") text) (after (codes " purge ") text)

-- the place of the colon, or the end
abbrev pub number_length : List ℕ → ℕ
number_length line = position_or_len (λ byte. byte == 58) line

-- the number of a decision and the decision
abbrev pub numbered_in : List ℕ → Option Item
numbered_in line = do
  number ← number_in 1 4000000 (take (number_length line) line)
  text ← after (58 ∷ []) (drop (number_length line) line)
  decision ← decision_in text
  Some (Numbered number decision)

-- by what follows `seed ` at its front; no number of a decision begins so
abbrev pub said : List ℕ → Option (List ℕ) → Option Item
said line None = numbered_in line
said line (Some number) = option_map Seed (number_in 0 18446744073709551615 number)

-- what the line says, if it has one of the forms
abbrev pub item_of : List ℕ → Option Item
item_of [] = Some Nothing
item_of (byte ∷ rest) = said (byte ∷ rest) (after (codes "seed ") (byte ∷ rest))

-- what the lines so far come to, and whether one of them was not empty
pub record Read : Type 0 where
  pub script : Script
  pub begun : Bool

-- with a decision of that number; those between it and the last one name no block
abbrev pub with_decision : ℕ → Decision → Script → Script
with_decision number decision script =
    record script { decisions = script.decisions ++ replicate (number - length script.decisions - 1) no_block ++ decision ∷ [] }

-- with one line more, unless it comes too late
abbrev pub added : Read → Item → Option Read
added read Nothing = Some read
added read (Seed seed) = if read.begun then None else Some (record { script = record read.script { seed = seed }; begun = true })
added read (Numbered number decision) =
    if nat_lt (length read.script.decisions) number
    then Some (record { script = with_decision number decision read.script; begun = true })
    else None

-- the script of no lines
abbrev pub nothing : Read
nothing = record { script = record { seed = 0; decisions = [] }; begun = false }

-- what the text is after a line; the first line that adds nothing refuses it
abbrev pub then_line : ℕ → Option Read → (Read → Result Script ℕ) → Result Script ℕ
then_line number None next = Err number
then_line number (Some read) next = next read

-- what the text is that has these lines from that number on, after lines that came to that
abbrev pub read_from : ℕ → Read → List (List ℕ) → Result Script ℕ
read_from number read [] = Ok read.script
read_from number read (line ∷ rest) = then_line number (item_of line >>= added read) (λ more. read_from (number + 1) more rest)

-- the script that the text is, or the number of the first line that refuses it; lines count from 1
abbrev pub reading : List ℕ → Result Script ℕ
reading text = read_from 1 nothing (lines text)

-- what may be returned for the text; without memory, nothing is known of it
abbrev pub IsScriptOf : List ℕ → Result Script ScriptError → Type 0
IsScriptOf text (Ok script) = reading text ≡ Ok script
IsScriptOf text (Err (BadScript line)) = reading text ≡ Err line
IsScriptOf text (Err NoMemory) = ⊤
