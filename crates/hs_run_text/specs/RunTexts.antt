-- The text that is put of a run (the form is own): how many bytes it put out, the bytes, how it ended, and the script under which it ran.
--     output 1
--     A
--     outcome finished 0
--     script
--     1: none
--     end
--     word_of stop                    the word of a stop
--     place_of file pos               a place, by the name of its file
--     ending_of file outcome          how a run ended; the file is the one of the place, if the run was stopped
--     text_of output file outcome script     all of it
use Rattle.std.specs.Prelude.{ℕ, List, [], ◌∷◌, ◌++◌, codes, length}
use Rattle.std.specs.Fmt.{decimal, signed_decimal}
use Rattle.hs_base.specs.declared.pos.Pos.{Pos}
use Rattle.hs_meaning.specs.declared.outcome.Outcome.{Outcome}
use Rattle.hs_meaning.specs.declared.outcome.Outcome.TheVariants.{Finished, Stopped, TurnsSpent}
use Rattle.hs_meaning.specs.declared.outcome.Stop.{Stop}
use Rattle.hs_meaning.specs.declared.outcome.Stop.TheVariants as stop
use Rattle.hs_movers.specs.ScriptTexts as scripts
use Rattle.hs_movers.specs.declared.script.Script.{Script}

-- by its kind
abbrev pub word_of : Stop → List ℕ
word_of stop.Nil = codes "Nil"
word_of stop.Disposed = codes "Disposed"
word_of stop.Purged = codes "Purged"
word_of stop.Old = codes "Old"
word_of stop.Stale = codes "Stale"
word_of stop.Range = codes "Range"
word_of stop.Gone = codes "Gone"
word_of stop.Undefined = codes "Undefined"
word_of stop.BadLoad = codes "BadLoad"
word_of stop.BadPointer = codes "BadPointer"
word_of stop.BadHandle = codes "BadHandle"
word_of stop.BadByte = codes "BadByte"
word_of stop.Divide = codes "Divide"
word_of stop.Frames = codes "Frames"

-- `FILE:LINE:COLUMN`
abbrev pub place_of : List ℕ → Pos → List ℕ
place_of file pos = file ++ 58 ∷ (decimal pos.line ++ 58 ∷ decimal pos.col)

-- `finished 0`, `stopped Stale at main.c:10:13` or `spent`
abbrev pub ending_of : List ℕ → Outcome → List ℕ
ending_of file (Finished number) = codes "finished " ++ signed_decimal number
ending_of file (Stopped why pos) = codes "stopped " ++ word_of why ++ codes " at " ++ place_of file pos
ending_of file TurnsSpent = codes "spent"

-- a text and its LF
abbrev pub line : List ℕ → List ℕ
line text = text ++ 10 ∷ []

-- The bytes that the run put out are followed by LF, whatever they are.
abbrev pub text_of : List ℕ → List ℕ → Outcome → Script → List ℕ
text_of output file outcome script =
    line (codes "output " ++ decimal (length output)) ++ line output ++ line (codes "outcome " ++ ending_of file outcome) ++ line (codes "script")
    ++ scripts.text_of script ++ line (codes "end")
