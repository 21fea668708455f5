-- The reads that a step makes, in their order, and what its refusal says of them. Which file is read next is said by the
-- definition alone: it is the one that is missing if the files that were read before it are listed and it is not.
--     IsNext outcome known read              the file that the read asks for is the next one
--     AreReads outcome known reads all       each read was the next one, and the files are what the reads gave
--     AreBegun outcome known reads           the same, but that the last read may have given no file
--     EndsAs reads error                     an error that names a file is that of the last read
--     RefusesFor outcome files error         of these files, the definition refuses so
--     ReadsInTurn ..                         the reads of a step, and what its refusal says
--     AreFirstReads names reads              the reads of the named files: what the numbers of files count
--     IsOutcome reads names result           what each answer of a reader of sources says of its reads
--     IsReadThrough ..                       the reads of a reader of sources, with what it answers
use Rattle.std.specs.Prelude.{◌≡◌, ℕ, List, [], ◌∷◌, ◌++◌, map, None, Result, Ok, Err}
use Rattle.hs_base.specs.Files.{Listing, Read, file_of}
use Rattle.hs_base.specs.Limit.{number_of}
use Rattle.hs_base.specs.Reads.{Leads, OnLast, Fits, given}
use Rattle.hs_base.specs.declared.errors.FileEnd.{FileEnd}
use Rattle.hs_base.specs.declared.errors.FileEnd.TheVariants as ends
use Rattle.hs_base.specs.declared.limit.LimitKind.TheVariants.{FileBytes}
use Rattle.hs_directives.specs.Preprocessing.{preprocessed}
use Rattle.hs_directives.specs.Readings.{AreListed, listing_of}
use Rattle.hs_directives.specs.declared.error.ReadError.{ReadError}
use Rattle.hs_directives.specs.declared.error.ReadError.TheVariants.{Missing, ReadFault, NoMemory}
use Rattle.hs_directives.specs.declared.source.Source.{Source}
use Rattle.hs_directives.specs.declared.state.File.{File}

-- The read asks for a file, of at most as many bytes as a file may have. If the files that are known are listed and this one is
-- not, it is missing.
pub record IsNext {B : Type 0} (outcome : Listing → Result B ReadError) (known : Listing) (read : Read) : Type 0 where
  pub whole : read.max ≡ number_of FileBytes
  pub unknown : file_of known read.name ≡ None
  pub missing : (listing : Listing) → AreListed listing known → file_of listing read.name ≡ None → outcome listing ≡ Err (Missing read.name)

-- each read was the next one, and gave its file
pub data AreReads {B : Type 0} (outcome : Listing → Result B ReadError) : Listing → List Read → Listing → Type 0 where
  none : (known : Listing) → AreReads outcome known [] known
  then : (known : Listing) (read : Read) (text : List ℕ) (reads : List Read) (all : Listing) → IsNext outcome known read
      → read.answer ≡ Ok text → AreReads outcome (known ++ (read.name, text) ∷ []) reads all → AreReads outcome known (read ∷ reads) all

-- each read was the next one; the last of them may have given no file
pub data AreBegun {B : Type 0} (outcome : Listing → Result B ReadError) : Listing → List Read → Type 0 where
  none : (known : Listing) → AreBegun outcome known []
  last : (known : Listing) (read : Read) → IsNext outcome known read → AreBegun outcome known (read ∷ [])
  then : (known : Listing) (read : Read) (text : List ℕ) (reads : List Read) → IsNext outcome known read
      → read.answer ≡ Ok text → AreBegun outcome (known ++ (read.name, text) ∷ []) reads → AreBegun outcome known (read ∷ reads)

-- the last of the reads asked for that name, and ended so
abbrev pub IsLast : List Read → List ℕ → FileEnd → Type 0
IsLast reads name end = OnLast reads (λ read. (read.name ≡ name) × (read.answer ≡ Err end))

-- an error that names a file is that of the last read
abbrev pub EndsAs : List Read → ReadError → Type 0
EndsAs reads (Missing name) = IsLast reads name ends.Missing
EndsAs reads (ReadFault name) = IsLast reads name ends.Failed
EndsAs reads _ = Unit {0}

-- Of these files, the definition refuses so. If a read failed, the file that it asked for is the one that is sought then. That
-- memory ran out says nothing of files.
abbrev pub RefusesFor : {B : Type 0} → (Listing → Result B ReadError) → Listing → ReadError → Type 0
RefusesFor outcome files (ReadFault name) = file_of files name ≡ None → outcome files ≡ Err (Missing name)
RefusesFor outcome files NoMemory = Unit {0}
RefusesFor outcome files error = outcome files ≡ Err error

-- the reads that led from the first files to the last, of all that was sought
pub record WasRead {F B : Type 0} (leads : F → Read → F → Type 0) (first final : F) (old new : List File)
    (outcome : Listing → Result B ReadError) : Type 0 where
  pub reads : List Read
  pub leads_on : Leads leads first reads final
  pub in_turn : AreReads outcome (listing_of old) reads (listing_of new)

-- The reads up to a refusal. It is the definition's, of any listing that has the files of before and that the reads fit.
pub record WasRefused {F B : Type 0} (leads : F → Read → F → Type 0) (first final : F) (old : List File)
    (outcome : Listing → Result B ReadError) (error : ReadError) : Type 0 where
  pub reads : List Read
  pub leads_on : Leads leads first reads final
  pub begun : AreBegun outcome (listing_of old) reads
  pub ends : EndsAs reads error
  pub refuses : (listing : Listing) → AreListed listing (listing_of old) → Fits listing reads → RefusesFor outcome listing error

-- the reads of a step: of all that was sought, or up to a refusal
abbrev pub ReadsInTurn : {F A B : Type 0} → (F → Read → F → Type 0) → F → F → List File → List File
    → (Listing → Result B ReadError) → Result A ReadError → Type 0
ReadsInTurn leads first final old new outcome (Ok value) = WasRead leads first final old new outcome
ReadsInTurn leads first final old new outcome (Err error) = WasRefused leads first final old outcome error

-- The reads of the named files and their headers, in their order: a file's number is its place here, from 0.
abbrev pub AreFirstReads : List (List ℕ) → List Read → Type 0
AreFirstReads names reads = AreBegun (λ listing. preprocessed listing names) [] reads

-- The sources have the names and the bytes of the reads, in their order, and are the definition's of any files that the reads fit.
pub record IsReadAs (reads : List Read) (names : List (List ℕ)) (source : Source) : Type 0 where
  pub names_are : map (λ read. read.name) reads ≡ source.names
  pub texts_are : map (λ read. read.answer) reads ≡ map (λ text. Ok text) source.texts
  pub exact : (files : Listing) → Fits files reads → preprocessed files names ≡ Ok source
  pub of_given : preprocessed (given reads) names ≡ Ok source

-- the files do not have the one whose read failed
abbrev pub Lacks : Listing → ReadError → Type 0
Lacks files (ReadFault name) = file_of files name ≡ None
Lacks files _ = Unit {0}

-- Reading is refused so, of any files that the reads fit, and there are such files. An error that names a file is that of the
-- last read.
pub record IsRefusedAs (reads : List Read) (names : List (List ℕ)) (error : ReadError) : Type 0 where
  pub ends : EndsAs reads error
  pub exact : (files : Listing) → Fits files reads → RefusesFor (λ listing. preprocessed listing names) files error
  pub files : Listing
  pub fits : Fits files reads
  pub lacks : Lacks files error

-- what each answer of a reader of sources says of its reads
abbrev pub IsOutcome : List Read → List (List ℕ) → Result Source ReadError → Type 0
IsOutcome reads names (Ok source) = IsReadAs reads names source
IsOutcome reads names (Err error) = IsRefusedAs reads names error

-- Each file was read once, in the order of first mentions, and no other was. The answer is the definition's, of what the reads gave.
pub record IsReadThrough {F : Type 0} (leads : F → Read → F → Type 0) (first final : F) (names : List (List ℕ))
    (result : Result Source ReadError) : Type 0 where
  pub reads : List Read
  pub leads_on : Leads leads first reads final
  pub in_turn : AreFirstReads names reads
  pub outcome : IsOutcome reads names result
