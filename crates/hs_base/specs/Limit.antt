-- The limits: the number of each kind, and the word that a report names it by. Own to this project.
use Rattle.std.specs.Prelude.{ℕ, List, codes}
use Rattle.hs_base.specs.declared.limit.LimitKind.{LimitKind}
use Rattle.hs_base.specs.declared.limit.LimitKind.TheVariants.{Files, FileBytes, Scanned, Replacements, Tokens, Depth, Objects, Ops, Names, Pairs, PathSteps, Report, Output, Script}

-- what the quantity may reach and not pass
abbrev pub number_of : LimitKind → ℕ
number_of Files = 256
number_of FileBytes = 4194304
number_of Scanned = 4000000
number_of Replacements = 1000000
number_of Tokens = 4000000
number_of Depth = 256
number_of Objects = 16777216
number_of Ops = 1000000
number_of Names = 64
number_of Pairs = 4000000
number_of PathSteps = 1000000
number_of Report = 16777216
number_of Output = 16777216
number_of Script = 4000000

-- the word of a report for the kind
abbrev pub word_of : LimitKind → List ℕ
word_of Files = codes "Files"
word_of FileBytes = codes "FileBytes"
word_of Scanned = codes "Scanned"
word_of Replacements = codes "Replacements"
word_of Tokens = codes "Tokens"
word_of Depth = codes "Depth"
word_of Objects = codes "Objects"
word_of Ops = codes "Ops"
word_of Names = codes "Names"
word_of Pairs = codes "Pairs"
word_of PathSteps = codes "PathSteps"
word_of Report = codes "Report"
word_of Output = codes "Output"
word_of Script = codes "Script"
