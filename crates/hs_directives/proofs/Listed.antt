-- Files that are listed, and reads that fit a listing.
use Rattle.std.proofs.Common.{◌≡◌, ℕ, Bool, true, false, List, [], ◌∷◌, ◌++◌, Some, None, ap}
use Rattle.std.specs.Prelude.{if◌then◌else◌}
use Rattle.std.specs.Str.{bytes_eq}
use Rattle.hs_base.specs.Files.{Listing, Read, file_of}
use Rattle.hs_base.specs.Reads.{Fits}
use Rattle.hs_directives.specs.Readings.{Agrees, AreListed, listing_of}
use Rattle.hs_directives.specs.declared.state.File.{File}
use Rattle.hs_directives.proofs.Reading.{file_of-longer}

-- if more files are listed, so are those in front
pub AreListed-front : (listing known more : Listing) → AreListed listing (known ++ more) → AreListed listing known
AreListed-front listing [] more listed = tt
AreListed-front listing (file ∷ known) more listed = (listed.0, AreListed-front listing known more listed.1)

-- and the last one
pub AreListed-last : (listing known : Listing) (name text : List ℕ) → AreListed listing (known ++ (name, text) ∷ []) → file_of listing name ≡ Some text
AreListed-last listing [] name text listed = listed.0
AreListed-last listing (file ∷ known) name text listed = AreListed-last listing known name text listed.1

-- one more file that is listed
pub AreListed-push : (listing known : Listing) (name text : List ℕ) → file_of listing name ≡ Some text → AreListed listing known
    → AreListed listing (known ++ (name, text) ∷ [])
AreListed-push listing [] name text is listed = (is, tt)
AreListed-push listing (file ∷ known) name text is listed = (listed.0, AreListed-push listing known name text is listed.1)

-- a longer listing has the same files
pub AreListed-longer : (listing more known : Listing) → AreListed listing known → AreListed (listing ++ more) known
AreListed-longer listing more [] listed = tt
AreListed-longer listing more (file ∷ known) listed =
    (file_of-longer listing more file.0 file.1 listed.0, AreListed-longer listing more known listed.1)

-- files that are listed are those with which the listing agrees
pub AreListed-agrees : (listing : Listing) (files : List File) → AreListed listing (listing_of files) → Agrees listing files
AreListed-agrees listing [] listed = tt
AreListed-agrees listing (file ∷ files) listed = (listed.0, AreListed-agrees listing files listed.1)

-- a file whose name is new is that of its name after the others
pub file_of-last : (known : Listing) (name text : List ℕ) → file_of known name ≡ None → bytes_eq name name ≡ true
    → file_of (known ++ (name, text) ∷ []) name ≡ Some text
file_of-last [] name text none same = ap (λ (answer : Bool). if answer then Some text else None) same
file_of-last (file ∷ known) name text none same = by (bytes_eq file.0 name) (λ none'. file_of-last known name text none' same) none where
  by : (is : Bool) → (file_of known name ≡ None → file_of (known ++ (name, text) ∷ []) name ≡ Some text)
      → (if is then Some file.1 else file_of known name) ≡ None
      → (if is then Some file.1 else file_of (known ++ (name, text) ∷ []) name) ≡ Some text
  by true later none' = absurd cc
  by false later none' = later none'

-- reads that fit, and others
pub Fits-front : (files : Listing) (reads later : List Read) → Fits files (reads ++ later) → Fits files reads
Fits-front files [] later fits = tt
Fits-front files (read ∷ reads) later fits = (fits.0, Fits-front files reads later fits.1)

pub Fits-back : (files : Listing) (reads later : List Read) → Fits files (reads ++ later) → Fits files later
Fits-back files [] later fits = fits
Fits-back files (read ∷ reads) later fits = Fits-back files reads later fits.1
