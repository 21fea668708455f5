-- Reads that were made one after another, and what they tell of files. Own to this project.
--     Makes leads listing counts old read new    the read made `new` of the files `old`, and its answer is right
--     Leads leads first reads last               reads, one after another, made `last` of `first`; Leads_append: and then others
--     MadeReads leads first last Holds           such reads, of which this holds
--     OnLast reads Holds                         there is a last read, and this holds of it
--     AreRight told before now reads             the answers of the reads are right, and their counts follow one another
--     given reads                                the files whose bytes the reads gave
--     Fits files reads                           the reads gave what these files have
use Rattle.std.proofs.Common.{subst}
use Rattle.std.specs.Prelude.{◌≡◌, ℕ, ◌<◌, List, [], ◌∷◌, ◌++◌, length, Option, Some, None, Result, Ok, Err}
use Rattle.hs_base.specs.Files.{Listing, Counts, NeverFall, Read, IsRead, file_of}
use Rattle.hs_base.specs.declared.errors.FileEnd.{FileEnd}
use Rattle.hs_base.specs.declared.errors.FileEnd.TheVariants.{Missing, Failed, TooLong, NoMemory}

-- The read made `new` of the files `old`: it is that read alone, and what the trait of files says of it is so.
pub record Makes {F : Type 0} (leads : F → Read → F → Type 0) (listing : F → Option Listing) (counts : F → Counts)
    (old : F) (read : Read) (new : F) : Type 0 where
  pub led : leads old read new
  pub listing_stays : listing new ≡ listing old
  pub before : read.before ≡ counts old
  pub now : read.now ≡ counts new
  pub never_fall : NeverFall read.before read.now
  pub right : IsRead (listing old) read

-- one read after another
abbrev pub Leads : {F : Type 0} → (F → Read → F → Type 0) → F → List Read → F → Type 0
Leads leads first [] last = last ≡ first
Leads leads first (read ∷ reads) last = (next : _) × leads first read next × Leads leads next reads last

-- reads after reads
pub Leads_append : {F : Type 0} (leads : F → Read → F → Type 0) (first mid last : F) (reads later : List Read) → Leads leads first reads mid
    → Leads leads mid later last → Leads leads first (reads ++ later) last
Leads_append leads first mid last [] later led on = subst (λ it. Leads leads it later last) led on
Leads_append leads first mid last (read ∷ reads) later led on = (led.0, led.1, Leads_append leads led.0 mid last reads later led.2 on)

-- there are reads that led from the first files to the last, of which this holds
abbrev pub MadeReads : {F : Type 0} → (F → Read → F → Type 0) → F → F → (List Read → Type 0) → Type 0
MadeReads leads first last Holds = (reads : List Read) × Leads leads first reads last × Holds reads

-- there is a last read, and this holds of it
abbrev pub OnLast : List Read → (Read → Type 0) → Type 0
OnLast [] Holds = ⊥
OnLast (read ∷ []) Holds = Holds read
OnLast (read ∷ next ∷ reads) Holds = OnLast (next ∷ reads) Holds

-- Each read's answer is right, of the listing if one is known, and the counts before a read are those after the one before it.
abbrev pub AreRight : Option Listing → Counts → Counts → List Read → Type 0
AreRight told before now [] = now ≡ before
AreRight told before now (read ∷ reads) =
    (read.before ≡ before) × NeverFall read.before read.now × IsRead told read × AreRight told read.now now reads

-- the file whose bytes a read gave, and other files
abbrev pub with_file : List ℕ → Result (List ℕ) FileEnd → Listing → Listing
with_file name (Ok bytes) files = (name, bytes) ∷ files
with_file name (Err end) files = files

-- the files whose bytes the reads gave, each under its name
abbrev pub given : List Read → Listing
given [] = []
given (read ∷ reads) = with_file read.name read.answer (given reads)

-- a read would give this answer of these files, if the outside does not fail and there is memory
abbrev pub FitsAnswer : Listing → List ℕ → ℕ → Result (List ℕ) FileEnd → Type 0
FitsAnswer files name max (Ok bytes) = file_of files name ≡ Some bytes
FitsAnswer files name max (Err Missing) = file_of files name ≡ None
FitsAnswer files name max (Err TooLong) = (bytes : List ℕ) × (file_of files name ≡ Some bytes) × (max < length bytes)
FitsAnswer files name max (Err Failed) = Unit {0}
FitsAnswer files name max (Err NoMemory) = Unit {0}

-- the reads gave what these files have: nothing that was read contradicts them
abbrev pub Fits : Listing → List Read → Type 0
Fits files [] = Unit {0}
Fits files (read ∷ reads) = FitsAnswer files read.name read.max read.answer × Fits files reads
