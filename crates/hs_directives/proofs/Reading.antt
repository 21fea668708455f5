-- A file that is read: the listings that have it, and what its scan says of them.
use Rattle.std.proofs.Common.{◌≡◌, ℕ, suc, ◌-◌, Bool, true, false, List, [], ◌∷◌, ◌++◌, length, Some, None, Result, Ok, Err, refl, sym, ap, subst, ◌∙◌, append-nil}
use Rattle.std.specs.Prelude.{nat_lt, nat_le, if◌then◌else◌}
use Rattle.std.specs.Str.{bytes_eq}
use Rattle.std.proofs.lemmas.List.{map-append}
use Rattle.hs_base.specs.Files.{Listing, file_of}
use Rattle.hs_base.specs.declared.limit.LimitKind.TheVariants.{Files, FileBytes}
use Rattle.hs_tokens.specs.Scan.{scan_of}
use Rattle.hs_tokens.specs.declared.token.Token.{Token}
use Rattle.hs_tokens.specs.declared.scan_error.ScanError.{ScanError}
use Rattle.hs_directives.specs.Outcomes.{Gives}
use Rattle.hs_directives.specs.Readings.{Agrees, listing_of, Grows, IsReading, found_of}
use Rattle.hs_directives.specs.States.{known_from, known_file, found_file, listed_file, scanned_file, passed, Found}
use Rattle.hs_directives.specs.declared.error.ReadError.{ReadError}
use Rattle.hs_directives.specs.declared.state.File.{File}
use Rattle.hs_directives.specs.declared.state.KnownFile.{KnownFile}
use Rattle.hs_directives.specs.declared.state.Progress.{Progress}

-- one more file that is listed
pub Agrees-push : (listing : Listing) (files : List File) (file : File) → file_of listing file.name ≡ Some file.text → Agrees listing files
    → Agrees listing (files ++ file ∷ [])
Agrees-push listing [] file is all = (is, all)
Agrees-push listing (next ∷ files) file is all = (all.0, Agrees-push listing files file is all.1)

-- the last one is listed
pub Agrees-last : (listing : Listing) (files : List File) (file : File) → Agrees listing (files ++ file ∷ []) → file_of listing file.name ≡ Some file.text
Agrees-last listing [] file all = all.0
Agrees-last listing (next ∷ files) file all = Agrees-last listing files file all.1

-- and so are those before
pub Agrees-front : (listing : Listing) (files more : List File) → Agrees listing (files ++ more) → Agrees listing files
Agrees-front listing [] more all = tt
Agrees-front listing (next ∷ files) more all = (all.0, Agrees-front listing files more all.1)

-- a longer listing has the same files
pub file_of-longer : (listing more : Listing) (name text : List ℕ) → file_of listing name ≡ Some text → file_of (listing ++ more) name ≡ Some text
file_of-longer [] more name text is = absurd cc
file_of-longer (file ∷ listing) more name text is = by (bytes_eq file.0 name) (file_of-longer listing more name text) is where
  by : (same : Bool) → (file_of listing name ≡ Some text → file_of (listing ++ more) name ≡ Some text)
      → (if same then Some file.1 else file_of listing name) ≡ Some text → (if same then Some file.1 else file_of (listing ++ more) name) ≡ Some text
  by true later is' = is'
  by false later is' = later is'

Agrees-longer : (listing more : Listing) (files : List File) → Agrees listing files → Agrees (listing ++ more) files
Agrees-longer listing more [] all = tt
Agrees-longer listing more (file ∷ files) all = (file_of-longer listing more file.name file.text all.0, Agrees-longer listing more files all.1)

-- a file whose name was not known is that of its name after the others
file_of-new : (number : ℕ) (files : List File) (name text : List ℕ) → known_from number name files ≡ None
    → bytes_eq name name ≡ true → file_of (listing_of files ++ (name, text) ∷ []) name ≡ Some text
file_of-new number [] name text none same = ap (λ (answer : Bool). if answer then Some text else None) same
file_of-new number (file ∷ files) name text none same =
    by (bytes_eq file.name name) (λ none'. file_of-new (suc number) files name text none' same) none where
      by : (is : Bool) → (known_from (suc number) name files ≡ None → file_of (listing_of files ++ (name, text) ∷ []) name ≡ Some text)
          → (if is then Some (record { number = number; tokens = file.tokens }) else known_from (suc number) name files) ≡ None
          → (if is then Some file.text else file_of (listing_of files ++ (name, text) ∷ []) name) ≡ Some text
      by true later none' = absurd cc
      by false later none' = later none'

-- the files stand by themselves, each under its name
own-push : (files : List File) (file : File) → known_from 0 file.name files ≡ None → bytes_eq file.name file.name ≡ true
    → Agrees (listing_of files) files → Agrees (listing_of (files ++ file ∷ [])) (files ++ file ∷ [])
own-push files file none same own =
    let longer : listing_of (files ++ file ∷ []) ≡ listing_of files ++ (file.name, file.text) ∷ [] =
    map-append {B = List ℕ × List ℕ} (λ f. (f.name, f.text)) files (file ∷ []) in
    rw longer
    (Agrees-push (listing_of files ++ (file.name, file.text) ∷ []) files file
    (file_of-new 0 files file.name file.text none same)
    (Agrees-longer (listing_of files) ((file.name, file.text) ∷ []) files own))

-- nothing more was read
pub grows_none : (files : List File) → Grows files files
grows_none files = record { more = []; longer = sym (append-nil files); own_agrees = λ own. own }

-- what is found if the file was scanned
abbrev scanned : List ℕ → List ℕ → Progress → List Token → Found
scanned name text progress tokens = record {
  number = length progress.files;
  tokens = tokens;
  progress = record progress {
    files = progress.files ++ record { name = name; text = text; tokens = tokens } ∷ [];
    room = progress.room - length tokens;
  };
}

-- the file that was scanned
pub scan-file : (name text : List ℕ) (old new : Progress) (known : KnownFile) (outcome : Result (List Token) ScanError)
    → scanned_file name text old outcome ≡ Ok (found_of new known)
    → (tokens : List Token) × (new.files ≡ old.files ++ record { name = name; text = text; tokens = tokens } ∷ [])
scan-file name text old new known (Err end) is = absurd cc
scan-file name text old new known (Ok tokens) is =
    let same : ◌≡◌ {A = Found} (scanned name text old tokens) (found_of new known) = cc in (tokens, sym (ap (λ (it : Found). it.progress.files) same))

-- what is found if the file is not known, and listed
pub found-listed : (listing : Listing) (name text : List ℕ) (old : Progress) → known_from 0 name old.files ≡ None → nat_le 256 (length old.files) ≡ false
    → nat_lt 4194304 (length text) ≡ false → file_of listing name ≡ Some text
    → found_file listing name old ≡ scanned_file name text old (scan_of (length old.files) old.room text)
found-listed listing name text old none few within is =
    ap (known_file listing name old) none
    ∙ ap (λ (many : Bool). if many then Err (passed Files) else listed_file name old (file_of listing name)) few
    ∙ ap (listed_file name old) is
    ∙ ap (λ (long : Bool). if long then Err (passed FileBytes) else scanned_file name text old (scan_of (length old.files) old.room text)) within

-- a file that was read and scanned
pub found_scanned : (name text : List ℕ) (old new : Progress) (result : Result KnownFile ReadError)
    → known_from 0 name old.files ≡ None → nat_le 256 (length old.files) ≡ false → nat_lt 4194304 (length text) ≡ false
    → bytes_eq name name ≡ true
    → Gives (found_of new) (scanned_file name text old (scan_of (length old.files) old.room text)) result
    → IsReading old.files new.files (found_of new) (λ listing. found_file listing name old) result
found_scanned name text old new (Err error) none few within same gives = tt
found_scanned name text old new (Ok known) none few within same gives =
    let it = scan-file name text old new known (scan_of (length old.files) old.room text) gives in
    (grown it.0 it.1, λ listing agrees. exact it.0 it.1 listing agrees) where
      grown : (tokens : List Token) → new.files ≡ old.files ++ record { name = name; text = text; tokens = tokens } ∷ [] → Grows old.files new.files
      grown tokens is = record {
        more = record { name = name; text = text; tokens = tokens } ∷ [];
        longer = is;
        own_agrees = λ own. rw is (own-push old.files (record { name = name; text = text; tokens = tokens }) none same own);
      }

      exact : (tokens : List Token) → new.files ≡ old.files ++ record { name = name; text = text; tokens = tokens } ∷ []
          → (listing : Listing) → Agrees listing new.files → found_file listing name old ≡ Ok (found_of new known)
      exact tokens is listing agrees =
          found-listed listing name text old none few within
          (Agrees-last listing old.files (record { name = name; text = text; tokens = tokens }) (subst (Agrees listing) is agrees)) ∙ gives

-- files that are not known are not listed by themselves
pub unknown_unlisted : (number : ℕ) (name : List ℕ) (files : List File) → known_from number name files ≡ None → file_of (listing_of files) name ≡ None
unknown_unlisted number name [] none = refl
unknown_unlisted number name (file ∷ files) none = by (bytes_eq file.name name) (λ none'. unknown_unlisted (suc number) name files none') none where
  by : (is : Bool) → (known_from (suc number) name files ≡ None → file_of (listing_of files) name ≡ None)
      → (if is then Some (record { number = number; tokens = file.tokens }) else known_from (suc number) name files) ≡ None
      → (if is then Some file.text else file_of (listing_of files) name) ≡ None
  by true later none' = absurd cc
  by false later none' = later none'

-- what is found if the file is not known
pub found-new : (listing : Listing) (name : List ℕ) (old : Progress) → known_from 0 name old.files ≡ None → nat_le 256 (length old.files) ≡ false
    → found_file listing name old ≡ listed_file name old (file_of listing name)
found-new listing name old none few =
    ap (known_file listing name old) none ∙ ap (λ (many : Bool). if many then Err (passed Files) else listed_file name old (file_of listing name)) few
