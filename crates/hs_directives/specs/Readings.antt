-- What a step says of the files that were read by then. Its outcome is the definition's, of any listing that has these files.
--     Agrees listing files       the files are listed, with their texts
--     listing_of files           the files, as a listing
--     Grows old new              more files were read
--     IsReading ..               what each result says
--     AnswersText ..             what the bytes of a file are, or why there are no bytes
--     entry levels listing ..    the file of an `#include`, and the state after it
use Rattle.std.specs.Prelude.{◌≡◌, List, [], ◌∷◌, ◌++◌, map, Some, Result, Ok, Err, ℕ, zero, suc, Vec}
use Rattle.std.specs.declared.alloc.Global.{Global}
use Rattle.hs_base.specs.Files.{Listing, Counts, Read, file_of}
use Rattle.hs_base.specs.Limit.{number_of}
use Rattle.hs_base.specs.declared.limit.LimitKind.TheVariants.{FileBytes}
use Rattle.hs_base.specs.declared.errors.FileEnd.{FileEnd}
use Rattle.hs_base.specs.declared.errors.FileEnd.TheVariants as ends
use Rattle.hs_tokens.specs.declared.token.Token.{Token}
use Rattle.hs_directives.specs.Includes.{Named, include_name}
use Rattle.hs_directives.specs.Directives.{with_left}
use Rattle.hs_directives.specs.Preprocessing.{included_file, UnitRead, Units}
use Rattle.hs_directives.specs.States.{and_then, Found, found_file}
use Rattle.hs_directives.specs.declared.error.ReadError.{ReadError}
use Rattle.hs_directives.specs.declared.error.ReadError.TheVariants.{Missing, ReadFault, IncludeDepth, Limit, NoMemory}
use Rattle.hs_directives.specs.declared.state.File.{File}
use Rattle.hs_directives.specs.declared.state.KnownFile.{KnownFile}
use Rattle.hs_directives.specs.declared.state.Progress.{Progress}
use Rattle.hs_directives.specs.declared.state.State.{State}
use Rattle.hs_directives.specs.declared.unit.TranslationUnit.{TranslationUnit}

-- the files are listed, with their texts
abbrev pub Agrees : Listing → List File → Type 0
Agrees listing [] = Unit {0}
Agrees listing (file ∷ files) = (file_of listing file.name ≡ Some file.text) × Agrees listing files

-- the files, as a listing
abbrev pub listing_of : List File → Listing
listing_of files = map (λ file. (file.name, file.text)) files

-- files that were read so far, and more
pub record Grows (old new : List File) : Type 0 where
  pub more : List File
  pub longer : new ≡ old ++ more
  -- no name stands for two texts
  pub own_agrees : Agrees (listing_of old) old → Agrees (listing_of new) new

-- A value that was returned, of a definition over listings: it is that of any listing that has the files that were read.
-- What a refusal says is in `Reads.antt`.
abbrev pub IsReading : {A B : Type 0} → List File → List File → (A → B) → (Listing → Result B ReadError) → Result A ReadError → Type 0
IsReading old new view outcome (Ok value) = Grows old new × ((listing : Listing) → Agrees listing new → outcome listing ≡ Ok (view value))
IsReading old new view outcome (Err error) = Unit {0}

-- a file that is known, in what reading has come to
abbrev pub found_of : Progress → KnownFile → Found
found_of progress known = record { number = known.number; tokens = known.tokens; progress = progress }

-- a read of the named file that ended so, as a refusal
abbrev pub FailsAs : List ℕ → FileEnd → ReadError → Type 0
FailsAs name end (Missing missing) = (missing ≡ name) × (end ≡ ends.Missing)
FailsAs name end (ReadFault unread) = (unread ≡ name) × (end ≡ ends.Failed)
FailsAs name end (Limit limit) = (limit ≡ record { kind = FileBytes; reached = number_of FileBytes }) × (end ≡ ends.TooLong)
FailsAs name end NoMemory = Unit {0}
FailsAs name end _ = ⊥

-- the bytes that a read of the named file gave, or why it gave none, as the reader of texts answers
abbrev pub AnswersText : List ℕ → Result (List ℕ) FileEnd → Result (Vec ℕ Global) ReadError → Type 0
AnswersText name (Ok bytes) (Ok text) = text.items ≡ bytes
AnswersText name (Err end) (Err error) = FailsAs name end error
AnswersText name (Ok bytes) (Err error) = ⊥
AnswersText name (Err end) (Ok text) = ⊥

-- the read of a named file, of at most as many bytes as a file may have
abbrev pub text_read : List ℕ → Result (List ℕ) FileEnd → Counts → Counts → Read
text_read name answer before now = record { name = name; max = number_of FileBytes; answer = answer; before = before; now = now }

-- one read of the named file was made, and the result is what it gave
pub record IsText {F : Type 0} (leads : F → Read → F → Type 0) (first last : F) (name : List ℕ) (before now : Counts)
    (result : Result (Vec ℕ Global) ReadError) : Type 0 where
  pub answer : Result (List ℕ) FileEnd
  pub led : leads first (text_read name answer before now) last
  pub answers : AnswersText name answer result

-- the tokens of an included file, and the state after its `#include`
pub record Entry : Type 0 where
  pub tokens : List Token
  pub state : State

-- a file that was found is noted as included
abbrev pub entry_of : State → Found → Entry
entry_of state found = record { tokens = found.tokens; state = record state { progress = included_file found } }

-- the file of that name, if so many levels may still be opened
abbrev pub entry_named : ℕ → Listing → Token → List ℕ → State → Result Entry ReadError
entry_named zero listing hash name state = Err (IncludeDepth hash.pos)
entry_named (suc levels) listing hash name state = and_then (found_file listing name state.progress) (λ found. Ok (entry_of state found))

-- the file of a line
abbrev pub entry_by : ℕ → Listing → Token → State → Result Named ReadError → Result Entry ReadError
entry_by levels listing hash state (Err error) = Err error
entry_by levels listing hash state (Ok it) = entry_named levels listing hash it.name (with_left state it.left)

-- the file of the line after `include`
abbrev pub entry : ℕ → Listing → Token → List Token → State → Result Entry ReadError
entry levels listing hash line state = entry_by levels listing hash state (include_name state.unit.macros state.progress.left hash.pos line)

-- tokens that are shared, and the state after them
abbrev pub entered_by : State → List Token → Entry
entered_by state tokens = record { tokens = tokens; state = state }

-- a unit, and what reading has come to
abbrev pub unit_by : Progress → TranslationUnit → UnitRead
unit_by progress unit = record { unit = unit; progress = progress }

-- units that were read, and what reading has come to
abbrev pub units_by : Progress → List TranslationUnit → Units
units_by progress units = record { units = units; progress = progress }

-- each of these files is listed
abbrev pub AreListed : Listing → Listing → Type 0
AreListed listing [] = Unit {0}
AreListed listing (file ∷ files) = (file_of listing file.0 ≡ Some file.1) × AreListed listing files
