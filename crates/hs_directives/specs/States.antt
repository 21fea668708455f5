-- What reading has come to: the files so far, what is left of the limits, and the unit so far.
--     found_file listing name progress    the file of that name: read and scanned at its first mention (own)
--     known_from number name files        a file that was read before
--     and_then first next                 one after another, up to the first refusal
use Rattle.std.specs.Prelude.{ℕ, suc, ◌-◌, nat_lt, nat_le, List, [], ◌∷◌, ◌++◌, length, Option, Some, None, Result, Ok, Err, if◌then◌else◌}
use Rattle.std.specs.Str.{bytes_eq}
use Rattle.hs_base.specs.Files.{Listing, file_of}
use Rattle.hs_base.specs.Limit.{number_of}
use Rattle.hs_base.specs.declared.pos.Pos.{Pos}
use Rattle.hs_base.specs.declared.limit.LimitKind.{LimitKind}
use Rattle.hs_base.specs.declared.limit.LimitKind.TheVariants.{Files, FileBytes}
use Rattle.hs_tokens.specs.declared.token.Token.{Token}
use Rattle.hs_tokens.specs.Scan.{scan_of}
use Rattle.hs_tokens.specs.declared.scan_error.ScanError.{ScanError}
use Rattle.hs_tokens.specs.declared.scan_error.ScanError.TheVariants as scanning
use Rattle.hs_macros.specs.declared.error.MacroError.{MacroError}
use Rattle.hs_macros.specs.declared.error.MacroError.TheVariants as macro
use Rattle.hs_directives.specs.declared.error.ReadError.{ReadError}
use Rattle.hs_directives.specs.declared.error.ReadError.TheVariants.{Scan, Macro, Missing, Limit, NoMemory}
use Rattle.hs_directives.specs.declared.error.ScanKind.TheVariants.{BadByte, OpenComment, OpenString}
use Rattle.hs_directives.specs.declared.error.MacroKind.TheVariants.{BadMacro, ArgCount}
use Rattle.hs_directives.specs.declared.state.File.{File}
use Rattle.hs_directives.specs.declared.state.KnownFile.{KnownFile}
use Rattle.hs_directives.specs.declared.state.Progress.{Progress}

-- one after another, up to the first refusal
abbrev pub and_then : {A B : Type 0} → Result A ReadError → (A → Result B ReadError) → Result B ReadError
and_then (Err error) next = Err error
and_then (Ok value) next = next value

-- a limit that was passed
abbrev pub passed : LimitKind → ReadError
passed kind = Limit (record { kind = kind; reached = number_of kind })

-- a refusal of the scanner
abbrev pub of_scan : ScanError → ReadError
of_scan (scanning.BadByte pos) = Scan BadByte pos
of_scan (scanning.OpenComment pos) = Scan OpenComment pos
of_scan (scanning.OpenString pos) = Scan OpenString pos
of_scan (scanning.Limit limit) = Limit limit
of_scan scanning.NoMemory = NoMemory

-- a refusal of a definition, at the `#` of its directive
abbrev pub of_definition : Pos → MacroError → ReadError
of_definition pos macro.BadMacro = Macro BadMacro pos
of_definition pos (macro.ArgCount at) = Macro ArgCount at
of_definition pos (macro.Limit limit) = Limit limit
of_definition pos macro.NoMemory = NoMemory

-- a refusal of a replacement, which never is that of a definition
abbrev pub of_replacement : MacroError → ReadError
of_replacement macro.BadMacro = NoMemory
of_replacement (macro.ArgCount at) = Macro ArgCount at
of_replacement (macro.Limit limit) = Limit limit
of_replacement macro.NoMemory = NoMemory

-- the file of that name among files that are numbered from there on, if it is there
abbrev pub known_from : ℕ → List ℕ → List File → Option KnownFile
known_from number name [] = None
known_from number name (file ∷ files) =
    if bytes_eq file.name name then Some (record { number = number; tokens = file.tokens }) else known_from (suc number) name files

-- a file, and what reading has come to
pub record Found : Type 0 where
  pub number : ℕ
  pub tokens : List Token
  pub progress : Progress

-- a file that was scanned is the last so far
abbrev pub scanned_file : List ℕ → List ℕ → Progress → Result (List Token) ScanError → Result Found ReadError
scanned_file name text progress (Err error) = Err (of_scan error)
scanned_file name text progress (Ok tokens) = Ok (record {
  number = length progress.files;
  tokens = tokens;
  progress = record progress {
    files = progress.files ++ record { name = name; text = text; tokens = tokens } ∷ [];
    room = progress.room - length tokens;
  };
})

-- a file that is listed or not
abbrev pub listed_file : List ℕ → Progress → Option (List ℕ) → Result Found ReadError
listed_file name progress None = Err (Missing name)
listed_file name progress (Some text) =
    if nat_lt (number_of FileBytes) (length text) then Err (passed FileBytes)
    else scanned_file name text progress (scan_of (length progress.files) progress.room text)

-- a file that was read before or not
abbrev pub known_file : Listing → List ℕ → Progress → Option KnownFile → Result Found ReadError
known_file listing name progress (Some known) = Ok (record { number = known.number; tokens = known.tokens; progress = progress })
known_file listing name progress None =
    if nat_le (number_of Files) (length progress.files) then Err (passed Files) else listed_file name progress (file_of listing name)

-- the file of that name
abbrev pub found_file : Listing → List ℕ → Progress → Result Found ReadError
found_file listing name progress = known_file listing name progress (known_from 0 name progress.files)
