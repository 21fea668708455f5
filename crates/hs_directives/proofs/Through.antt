-- The reads of all units: what a reader of sources answers is the definition's, of what its reads gave.
--     fitting             there are files that reads in turn fit
--     read_through, read_partly     all files were read, or up to a refusal
use Rattle.std.proofs.Common.{◌≡◌, ℕ, ◌<◌, suc, List, [], ◌∷◌, ◌++◌, length, map, None, Result, Ok, Err, IsErr, IsErrAnd, refl, sym, ap, subst, ◌∙◌, append_assoc, append-nil, arith}
use Rattle.std.specs.Prelude.{replicate}
use Rattle.std.proofs.lemmas.List.{map-append, length-replicate}
use Rattle.std.proofs.lemmas.Slice.Eq.{bytes_eq-Decides}
use Rattle.hs_base.specs.Files.{Listing, Read, file_of}
use Rattle.hs_base.specs.Reads.{OnLast, Fits, FitsAnswer, given, with_file}
use Rattle.hs_base.specs.declared.errors.FileEnd.{FileEnd}
use Rattle.hs_base.specs.declared.errors.FileEnd.TheVariants as ends
use Rattle.hs_directives.specs.Preprocessing.{units_of, start, source_of, source_by, preprocessed}
use Rattle.hs_directives.specs.Readings.{Agrees, AreListed, Grows, listing_of, units_by}
use Rattle.hs_directives.specs.Reads.{IsNext, AreReads, AreBegun, EndsAs, IsLast, Lacks, WasRead, WasRefused, IsReadThrough}
use Rattle.hs_directives.specs.declared.error.ReadError.{ReadError}
use Rattle.hs_directives.specs.declared.error.ReadError.TheVariants.{Scan, Macro, BadDirective, OpenIf, IncludeDepth, BadCondition, Missing, ReadFault, Limit, NoMemory}
use Rattle.hs_directives.specs.declared.source.Source.{Source}
use Rattle.hs_directives.specs.declared.state.File.{File}
use Rattle.hs_directives.specs.declared.state.Progress.{Progress}
use Rattle.hs_directives.specs.declared.unit.TranslationUnit.{TranslationUnit}
use Rattle.hs_directives.proofs.InTurn.{AreReads-begun, AreReads-listed}
use Rattle.hs_directives.proofs.Listed.{AreListed-front, AreListed-last, AreListed-longer, AreListed-push, AreListed-agrees, file_of-last}

-- files that reads in turn fit, with those that are known; and they do not have a file whose read failed
pub record Fitting (known : Listing) (reads : List Read) : Type 0 where
  pub files : Listing
  pub fits : Fits files reads
  pub listed : AreListed files known
  pub lacks : (name : List ℕ) → IsLast reads name ends.Failed → file_of files name ≡ None

-- if a fact holds of the last of several reads, but not of the first one, it holds of the last of the reads after the first one
OnLast-behind : (read : Read) (reads : List Read) (Holds : Read → Type 0) → (Holds read → ⊥) → OnLast (read ∷ reads) Holds → OnLast reads Holds
OnLast-behind read [] Holds other is = absurd (other is)
OnLast-behind read (next ∷ reads) Holds other is = is

-- files with one more, under a new name
own-push : (known : Listing) (name text : List ℕ) → file_of known name ≡ None → AreListed known known
    → AreListed (known ++ (name, text) ∷ []) (known ++ (name, text) ∷ [])
own-push known name text none own =
    AreListed-push (known ++ (name, text) ∷ []) known name text (file_of-last known name text none ((bytes_eq-Decides name name).1 refl))
    (AreListed-longer known ((name, text) ∷ []) known own)

-- one read
fitting_one : {B : Type 0} (outcome : Listing → Result B ReadError) (known : Listing) (read : Read) → IsNext outcome known read → AreListed known known
    → (answer : Result (List ℕ) FileEnd) → read.answer ≡ answer → Fitting known (read ∷ [])
fitting_one outcome known read next own (Ok bytes) is = record {
  files = known ++ (read.name, bytes) ∷ [];
  fits = (
    subst (λ answer. FitsAnswer (known ++ (read.name, bytes) ∷ []) read.name read.max answer) (sym is)
        (file_of-last known read.name bytes next.unknown ((bytes_eq-Decides read.name read.name).1 refl)),
    tt,
  );
  listed = AreListed-longer known ((read.name, bytes) ∷ []) known own;
  lacks = λ name last. let ended = last.1 in absurd (cc (ended, is));
}
fitting_one outcome known read next own (Err ends.Missing) is = record {
  files = known;
  fits = (subst (λ answer. FitsAnswer known read.name read.max answer) (sym is) next.unknown, tt);
  listed = own;
  lacks = λ name last. let ended = last.1 in absurd (cc (ended, is));
}
fitting_one outcome known read next own (Err ends.Failed) is = record {
  files = known;
  fits = (subst (λ answer. FitsAnswer known read.name read.max answer) (sym is) tt, tt);
  listed = own;
  lacks = λ name last. subst (λ name'. file_of known name' ≡ None) last.0 next.unknown;
}
fitting_one outcome known read next own (Err ends.TooLong) is = record {
  files = known ++ (read.name, replicate (suc read.max) 0) ∷ [];
  fits = (
    subst (λ answer. FitsAnswer (known ++ (read.name, replicate (suc read.max) 0) ∷ []) read.name read.max answer) (sym is) (
      replicate (suc read.max) 0,
      file_of-last known read.name (replicate (suc read.max) 0) next.unknown ((bytes_eq-Decides read.name read.name).1 refl),
      longer read.max,
    ),
    tt,
  );
  listed = AreListed-longer known ((read.name, replicate (suc read.max) 0) ∷ []) known own;
  lacks = λ name last. let ended = last.1 in absurd (cc (ended, is));
} where
  longer : (most : ℕ) → most < length {A = ℕ} (replicate (suc most) 0)
  longer most = omega (arith, length-replicate {A = ℕ} (suc most) 0)
fitting_one outcome known read next own (Err ends.NoMemory) is = record {
  files = known;
  fits = (subst (λ answer. FitsAnswer known read.name read.max answer) (sym is) tt, tt);
  listed = own;
  lacks = λ name last. let ended = last.1 in absurd (cc (ended, is));
}

-- reads in turn
pub fitting : {B : Type 0} (outcome : Listing → Result B ReadError) (known : Listing) (reads : List Read) → AreBegun outcome known reads
    → AreListed known known → Fitting known reads
fitting outcome known reads (AreBegun.none _) own = record { files = known; fits = tt; listed = own; lacks = λ name last. absurd last }
fitting outcome known _ (AreBegun.last _ read next) own = fitting_one outcome known read next own read.answer refl
fitting outcome known _ (AreBegun.then _ read text reads next is begun) own =
    behind (fitting outcome (known ++ (read.name, text) ∷ []) reads begun (own-push known read.name text next.unknown own)) where
      behind : Fitting (known ++ (read.name, text) ∷ []) reads → Fitting known (read ∷ reads)
      behind it = record {
        files = it.files;
        fits = (
          subst (λ answer. FitsAnswer it.files read.name read.max answer) (sym is) (AreListed-last it.files known read.name text it.listed),
          it.fits,
        );
        listed = AreListed-front it.files known ((read.name, text) ∷ []) it.listed;
        lacks = λ name last. it.lacks name (OnLast-behind read reads _ (λ ended. let failed = ended.1 in cc (failed, is)) last);
      }

-- a read gave this text
abbrev gave : List ℕ → Result (List ℕ) FileEnd
gave text = Ok text

module _ {B : Type 0} (outcome : Listing → Result B ReadError) where
  -- the names of the files that were read are those of the reads
  names_read : (known all : Listing) (reads : List Read) → AreReads outcome known reads all
      → map (λ file. file.0) all ≡ map (λ file. file.0) known ++ map (λ read. read.name) reads
  names_read known all reads (AreReads.none _) = sym (append-nil (map (λ file. file.0) known))
  names_read known all _ (AreReads.then _ read text reads _ next is rest) =
      names_read (known ++ (read.name, text) ∷ []) all reads rest
      ∙ ap (λ (names : List (List ℕ)). names ++ map (λ read'. read'.name) reads) (map-append {B = List ℕ} (λ file. file.0) known ((read.name, text) ∷ []))
      ∙ append_assoc (map (λ file. file.0) known) (read.name ∷ []) (map (λ read'. read'.name) reads)

  -- and their texts are what the reads gave
  texts_read : (known all : Listing) (reads : List Read) → AreReads outcome known reads all
      → map (λ file. gave file.1) all ≡ map (λ file. gave file.1) known ++ map (λ read. read.answer) reads
  texts_read known all reads (AreReads.none _) = sym (append-nil (map (λ file. gave file.1) known))
  texts_read known all _ (AreReads.then _ read text reads _ next is rest) =
      texts_read (known ++ (read.name, text) ∷ []) all reads rest
      ∙ ap (λ (texts : List (Result (List ℕ) FileEnd)). texts ++ map (λ read'. read'.answer) reads)
      (map-append {B = Result (List ℕ) FileEnd} (λ file. gave file.1) known ((read.name, text) ∷ []))
      ∙ append_assoc (map (λ file. gave file.1) known) (Ok text ∷ []) (map (λ read'. read'.answer) reads)
      ∙ ap (λ (answer : Result (List ℕ) FileEnd). map (λ file. gave file.1) known ++ answer ∷ map (λ read'. read'.answer) reads) (sym is)

  -- so they are the files that the reads gave
  given_read : (known all : Listing) (reads : List Read) → AreReads outcome known reads all → all ≡ known ++ given reads
  given_read known all reads (AreReads.none _) = sym (append-nil known)
  given_read known all _ (AreReads.then _ read text reads _ next is rest) =
      given_read (known ++ (read.name, text) ∷ []) all reads rest
      ∙ append_assoc known ((read.name, text) ∷ []) (given reads)
      ∙ ap (λ (answer : Result (List ℕ) FileEnd). known ++ with_file read.name answer (given reads)) (sym is)

-- the names and the texts of files as a listing
listing_of-names : (files : List File) → map (λ file. file.0) (listing_of files) ≡ map (λ file. file.name) files
listing_of-names [] = refl
listing_of-names (file ∷ files) = ap (λ (names : List (List ℕ)). file.name ∷ names) (listing_of-names files)

listing_of-texts : (files : List File)
    → map (λ file. gave file.1) (listing_of files) ≡ map gave (map (λ file. file.text) files)
listing_of-texts [] = refl
listing_of-texts (file ∷ files) = ap (λ (texts : List (Result (List ℕ) FileEnd)). Ok file.text ∷ texts) (listing_of-texts files)

-- what reading these names comes to
abbrev outcome_of : List (List ℕ) → Listing → Result Source ReadError
outcome_of names listing = preprocessed listing names

-- all files were read
pub read_through : {F : Type 0} {leads : F → Read → F → Type 0} {first last : F} (names : List (List ℕ)) (before progress : Progress)
    (units : List TranslationUnit) (source : Source)
    → before ≡ start → WasRead leads first last before.files progress.files (λ listing. preprocessed listing names)
    → Grows before.files progress.files
    → ((listing : Listing) → Agrees listing progress.files → units_of listing names before ≡ Ok (units_by progress units))
    → source ≡ source_of (units_by progress units)
    → IsReadThrough leads first last names (Ok source)
read_through {leads = leads} {first = first} {last = last} names before progress units source begun so_far grows exact made = record {
  reads = it.reads;
  leads_on = it.leads_on;
  in_turn = AreReads-begun (outcome_of names) [] (listing_of progress.files) it.reads it.in_turn;
  outcome = record {
    names_are = sym (names_read (outcome_of names) [] (listing_of progress.files) it.reads it.in_turn) ∙ listing_of-names progress.files
        ∙ sym (ap (λ (it' : Source). it'.names) made);
    texts_are = sym (texts_read (outcome_of names) [] (listing_of progress.files) it.reads it.in_turn) ∙ listing_of-texts progress.files
        ∙ sym (ap (λ (it' : Source). map gave it'.texts) made);
    exact = λ files fits. whole files (AreListed-agrees files progress.files
        (AreReads-listed (outcome_of names) files [] (listing_of progress.files) it.reads it.in_turn tt fits));
    of_given = ap (λ (listing : Listing). preprocessed listing names) (sym (given_read (outcome_of names) [] (listing_of progress.files) it.reads it.in_turn))
        ∙ whole (listing_of progress.files) ((subst (λ before'. Grows before'.files progress.files) begun grows).own_agrees tt);
  };
} where
  it : WasRead leads first last [] progress.files (outcome_of names)
  it = subst (λ (before' : Progress). WasRead leads first last before'.files progress.files (outcome_of names)) begun so_far

  whole : (listing : Listing) → Agrees listing progress.files → preprocessed listing names ≡ Ok source
  whole listing agrees =
      ap source_by (subst (λ before'. units_of listing names before' ≡ Ok (units_by progress units)) begun (exact listing agrees))
      ∙ ap (λ (source' : Source). Ok source') (sym made)

-- files without the one whose read failed
lacks_of : (files : Listing) (reads : List Read) (error : ReadError) → ((name : List ℕ) → IsLast reads name ends.Failed → file_of files name ≡ None)
    → EndsAs reads error → Lacks files error
lacks_of files reads (ReadFault name) lacks is = lacks name is
lacks_of files reads (Missing name) lacks is = tt
lacks_of files reads (Scan kind pos) lacks is = tt
lacks_of files reads (Macro kind pos) lacks is = tt
lacks_of files reads (BadDirective pos) lacks is = tt
lacks_of files reads (OpenIf pos) lacks is = tt
lacks_of files reads (IncludeDepth pos) lacks is = tt
lacks_of files reads (BadCondition pos) lacks is = tt
lacks_of files reads (Limit limit) lacks is = tt
lacks_of files reads NoMemory lacks is = tt

-- or up to a refusal
pub read_partly : {F : Type 0} {leads : F → Read → F → Type 0} {first last : F} (names : List (List ℕ)) (before : List File) (error : ReadError)
    → before ≡ [] → WasRefused leads first last before (λ listing. preprocessed listing names) error
    → IsReadThrough leads first last names (Err error)
read_partly {leads = leads} {first = first} {last = last} names before error none refused =
    through (subst (λ before'. WasRefused leads first last before' (λ listing. preprocessed listing names) error) none refused) where
      through : WasRefused leads first last [] (λ listing. preprocessed listing names) error → IsReadThrough leads first last names (Err error)
      through it =
          let fit = fitting (λ listing. preprocessed listing names) [] it.reads it.begun tt in record {
            reads = it.reads;
            leads_on = it.leads_on;
            in_turn = it.begun;
            outcome = record {
              ends = it.ends;
              exact = λ files fits. it.refuses files tt fits;
              files = fit.files;
              fits = fit.fits;
              lacks = lacks_of fit.files it.reads error fit.lacks it.ends;
            };
          }

-- a refusal that is passed on
pub through_as : {F : Type 0} {leads : F → Read → F → Type 0} {first last : F} {names : List (List ℕ)} (result : Result Source ReadError)
    (error : ReadError) → IsErr result × IsErrAnd result (λ error'. error' ≡ error) → IsReadThrough leads first last names (Err error)
    → IsReadThrough leads first last names result
through_as (Ok source) error is through = absurd cc
through_as {leads = leads} {first = first} {last = last} {names = names} (Err error') error is through =
    subst (λ error''. IsReadThrough leads first last names (Err error'')) (sym is.1) through
