-- What a run is given as well as its sources: a table of routines, perhaps a script, and an input. Each is the text of a file, and they are
-- read in this order. Own to this project.
--     text_by read                  what a read gave: the bytes of the file, or why there are no bytes
--     table_in, script_in, input_in what a text is
--     Gives wanted result           the result is what is wanted, unless memory ran out
--     IsPart name what reads ..     the one read of a named file, and what its text is
--     IsNamed default what name ..  the same of a file that may be left out
--     IsSettings it reads result    all of them: what each answer says of the bytes that the reads gave
use Rattle.std.specs.Prelude.{◌≡◌, ℕ, List, [], ◌∷◌, Option, Some, None, Result, Ok, Err, Vec}
use Rattle.std.specs.Global.{Global}
use Rattle.hs_base.specs.Files.{Read}
use Rattle.hs_base.specs.Limit.{number_of}
use Rattle.hs_base.specs.declared.errors.FileEnd.{FileEnd}
use Rattle.hs_base.specs.declared.errors.FileEnd.TheVariants as ends
use Rattle.hs_base.specs.declared.limit.LimitKind.TheVariants.{FileBytes}
use Rattle.hs_meaning.specs.InputTexts as inputs
use Rattle.hs_meaning.specs.declared.input.Input.{Input}
use Rattle.hs_movers.specs.ScriptTexts as scripts
use Rattle.hs_movers.specs.declared.script.Script.{Script}
use Rattle.hs_table.specs.declared.routine.Routine.{Routine}
use Rattle.hs_table_text.specs.Texts as tables
use Rattle.hs_table_text.specs.declared.error.TableError.{TableError}
use Rattle.hs_table_text.specs.declared.error.TableError.TheVariants as table
use Rattle.hs_words.specs.Words.{Asked}
use Rattle.hs_settings.specs.Stages.{Then}
use Rattle.hs_settings.specs.declared.settings.Settings.{Settings}
use Rattle.hs_settings.specs.declared.settings.SettingsError.{SettingsError}
use Rattle.hs_settings.specs.declared.settings.SettingsError.TheVariants.{Missing, Unread, Limit, NotToml, BadVersion, BadEntry, BadScript, BadInput, NoMemory}

-- ---- what is wanted

-- why a read of a file of that name gave none
abbrev pub end_of : List ℕ → FileEnd → SettingsError
end_of name ends.Missing = Missing name
end_of name ends.Failed = Unread name
end_of name ends.TooLong = Limit (record { kind = FileBytes; reached = number_of FileBytes })
end_of name ends.NoMemory = NoMemory

-- what a read gave
abbrev pub text_from : List ℕ → Result (List ℕ) FileEnd → Result (List ℕ) SettingsError
text_from name (Ok text) = Ok text
text_from name (Err end) = Err (end_of name end)

abbrev pub text_by : Read → Result (List ℕ) SettingsError
text_by read = text_from read.name read.answer

-- what follows from what there is
abbrev pub onward : {A B : Type 0} → Result A SettingsError → (A → Result B SettingsError) → Result B SettingsError
onward (Ok it) next = next it
onward (Err error) next = Err error

-- why a text is no table
abbrev pub table_error : TableError → SettingsError
table_error table.NotToml = NotToml
table_error table.BadVersion = BadVersion
table_error (table.BadEntry name) = BadEntry name
table_error table.NoMemory = NoMemory

-- a table, or why the text is not a table
abbrev pub as_table : Result (List Routine) TableError → Result (List Routine) SettingsError
as_table (Ok it) = Ok it
as_table (Err error) = Err (table_error error)

abbrev pub table_in : List ℕ → Result (List Routine) SettingsError
table_in text = as_table (tables.reading text)

-- a script, or the first line that is wrong
abbrev pub as_script : Result Script ℕ → Result (Option Script) SettingsError
as_script (Ok it) = Ok (Some it)
as_script (Err line) = Err (BadScript line)

abbrev pub script_in : List ℕ → Result (Option Script) SettingsError
script_in text = as_script (scripts.reading text)

-- an input, or the first line that is wrong
abbrev pub as_input : Result Input ℕ → Result Input SettingsError
as_input (Ok it) = Ok it
as_input (Err line) = Err (BadInput line)

abbrev pub input_in : List ℕ → Result Input SettingsError
input_in text = as_input (inputs.reading text)

-- nothing is given, and no allocation is refused
abbrev pub no_input : Input
no_input = record { bytes = []; words = []; refused = [] }

-- ---- what is answered

-- the result is what is wanted, unless memory ran out
abbrev pub Gives : {A : Type 0} → Result A SettingsError → Result A SettingsError → Type 0
Gives wanted (Ok it) = wanted ≡ Ok it
Gives wanted (Err (Missing name)) = wanted ≡ Err (Missing name)
Gives wanted (Err (Unread name)) = wanted ≡ Err (Unread name)
Gives wanted (Err (Limit limit)) = wanted ≡ Err (Limit limit)
Gives wanted (Err NotToml) = wanted ≡ Err NotToml
Gives wanted (Err BadVersion) = wanted ≡ Err BadVersion
Gives wanted (Err (BadEntry name)) = wanted ≡ Err (BadEntry name)
Gives wanted (Err (BadScript line)) = wanted ≡ Err (BadScript line)
Gives wanted (Err (BadInput line)) = wanted ≡ Err (BadInput line)
Gives wanted (Err NoMemory) = Unit {0}

-- the error is what is wanted, unless memory ran out
abbrev pub IsError : SettingsError → SettingsError → Type 0
IsError wanted (Missing name) = wanted ≡ Missing name
IsError wanted (Unread name) = wanted ≡ Unread name
IsError wanted (Limit limit) = wanted ≡ Limit limit
IsError wanted NotToml = wanted ≡ NotToml
IsError wanted BadVersion = wanted ≡ BadVersion
IsError wanted (BadEntry name) = wanted ≡ BadEntry name
IsError wanted (BadScript line) = wanted ≡ BadScript line
IsError wanted (BadInput line) = wanted ≡ BadInput line
IsError wanted NoMemory = Unit {0}

-- the text that a read gave, or why it gave none
abbrev pub IsText : Read → Result (Vec ℕ Global) SettingsError → Type 0
IsText read (Ok text) = text_by read ≡ Ok text.items
IsText read (Err error) = (wanted : SettingsError) × (text_by read ≡ Err wanted) × IsError wanted error

-- a read of the file of that name, of at most as many bytes as a file may have
abbrev pub IsOf : List ℕ → Read → Type 0
IsOf name read = (read.name ≡ name) × (read.max ≡ number_of FileBytes)

-- the one read of a named file, and what its text is
abbrev pub IsPart : {A : Type 0} → List ℕ → (List ℕ → Result A SettingsError) → List Read → Result A SettingsError → Type 0
IsPart name what reads result = (read : Read) × (reads ≡ read ∷ []) × IsOf name read × Gives (onward (text_by read) what) result

-- of a file that may be left out: without a name nothing is read
abbrev pub IsNamed : {A : Type 0} → A → (List ℕ → Result A SettingsError) → Option (List ℕ) → List Read → Result A SettingsError → Type 0
IsNamed default what None reads result = (reads ≡ []) × (result ≡ Ok default)
IsNamed default what (Some name) reads result = IsPart name what reads result

-- nothing more is read
abbrev pub IsWhole : List Routine → Option Script → Input → List Read → Result Settings SettingsError → Type 0
IsWhole routines script input reads result = (reads ≡ []) × (result ≡ Ok (record { table = routines; script = script; input = input }))

-- with that table and that script, the input
abbrev pub HasInput : Asked → List Routine → Option Script → List Read → Result Settings SettingsError → Type 0
HasInput it routines script = Then (IsNamed no_input input_in it.input) (IsWhole routines script)

-- with that table, the script and the input
abbrev pub HasScript : Asked → List Routine → List Read → Result Settings SettingsError → Type 0
HasScript it routines = Then (IsNamed None script_in it.script) (HasInput it routines)

-- the table, the script and the input
abbrev pub IsSettings : Asked → List Read → Result Settings SettingsError → Type 0
IsSettings it = Then (IsPart it.table table_in) (HasScript it)
