-- The reads of steps, one after another. If what is left of an outcome begins with a step, the step's reads are the
-- outcome's own, after those before it, and so is its refusal.
--     Step ..        the reads so far, and the step that the outcome begins with then
--     read_on, read_refused_on     the reads of a step that was done, and of one that was refused
use Rattle.std.proofs.Common.{◌≡◌, ℕ, ◌-◌, zero, suc, Bool, true, false, List, [], ◌∷◌, ◌++◌, length, Option, Some, None, Result, Ok, Err, IsErr, IsErrAnd, refl, sym, ap, subst, ◌∙◌, inl, inr, arith}
use Rattle.std.specs.Prelude.{◌<◌, nat_le, nat_lt, if◌then◌else◌}
use Rattle.std.proofs.lemmas.Bool.Decides.{nat_tests}
use Rattle.std.specs.Borrow.{Bor}
use Rattle.std.specs.Prelude.{Vec}
use Rattle.std.specs.declared.alloc.Global.{Global}
use Rattle.std.proofs.lemmas.List.{map-append}
use Rattle.hs_base.specs.Files.{Listing, Counts, Read, file_of}
use Rattle.hs_base.specs.Reads.{OnLast, Fits, FitsAnswer, Leads_append}
use Rattle.hs_base.specs.declared.errors.FileEnd.{FileEnd}
use Rattle.hs_base.specs.declared.limit.LimitKind.TheVariants.{Files, FileBytes}
use Rattle.hs_base.specs.declared.pos.Pos.{Pos}
use Rattle.hs_tokens.specs.Scan.{scan_of}
use Rattle.hs_tokens.specs.declared.token.Token.{Token}
use Rattle.hs_directives.specs.Ahead.{piece_of, piece_outcome, IsInclusionOf}
use Rattle.hs_directives.specs.Directives.{with_left, place_of}
use Rattle.hs_directives.specs.Includes.{Named, include_name}
use Rattle.hs_directives.specs.Outcomes.{Gives, IsRefusal, ReadsNone}
use Rattle.hs_directives.specs.Pieces.{Piece, pieces}
use Rattle.hs_directives.specs.Sections.{open_at}
use Rattle.hs_directives.specs.Preprocessing.{closed, entered, walked, most_levels, fresh, unit_read, unit_of, Units, units_of, start, source_of, source_by, preprocessed}
use Rattle.hs_directives.specs.Readings.{Agrees, AreListed, FailsAs, AnswersText, IsText, listing_of, text_read, IsReading, found_of, Entry, entry_of, entry_named, entry_by, entry, entered_by}
use Rattle.hs_directives.specs.Reads.{IsNext, AreReads, AreBegun, EndsAs, RefusesFor, WasRead, WasRefused, ReadsInTurn}
use Rattle.hs_directives.specs.States.{and_then, known_from, known_file, passed, Found, found_file, listed_file, scanned_file}
use Rattle.hs_directives.specs.declared.error.ReadError.{ReadError}
use Rattle.hs_directives.specs.declared.error.ReadError.TheVariants.{Scan, Macro, BadDirective, OpenIf, IncludeDepth, BadCondition, Missing, ReadFault, Limit, NoMemory}
use Rattle.hs_directives.specs.declared.pieces.Part.{Part}
use Rattle.hs_directives.specs.declared.section.Section.{Section}
use Rattle.hs_directives.specs.declared.state.File.{File}
use Rattle.hs_directives.specs.declared.state.KnownFile.{KnownFile}
use Rattle.hs_directives.specs.declared.state.Progress.{Progress}
use Rattle.hs_directives.specs.declared.state.State.{State}
use Rattle.hs_directives.specs.declared.state.UnitSoFar.{UnitSoFar}
use Rattle.hs_directives.specs.declared.unit.TranslationUnit.{TranslationUnit}
use Rattle.hs_directives.proofs.Listed.{AreListed-front, AreListed-push, AreListed-agrees, Fits-front, Fits-back}
use Rattle.hs_directives.proofs.Reading.{scan-file, unknown_unlisted, found-new, found-listed}
use Rattle.hs_directives.proofs.Units.{unit_behind, units_after, units_behind, units_next}
use Rattle.hs_directives.proofs.Walking.{Reached, reached_inclusion, reached_piece, walk_of, walk_entry}

-- the last one stays the last if others stand in front
OnLast-more : (read : Read) (reads : List Read) (Holds : Read → Type 0) → OnLast reads Holds → OnLast (read ∷ reads) Holds
OnLast-more read [] Holds is = absurd is
OnLast-more read (next ∷ reads) Holds is = is

OnLast-append : (reads later : List Read) (Holds : Read → Type 0) → OnLast later Holds → OnLast (reads ++ later) Holds
OnLast-append [] later Holds is = is
OnLast-append (read ∷ reads) later Holds is = OnLast-more read (reads ++ later) Holds (OnLast-append reads later Holds is)

EndsAs-append : (reads later : List Read) (error : ReadError) → EndsAs later error → EndsAs (reads ++ later) error
EndsAs-append reads later (Missing name) is = OnLast-append reads later _ is
EndsAs-append reads later (ReadFault name) is = OnLast-append reads later _ is
EndsAs-append reads later (Scan kind pos) is = tt
EndsAs-append reads later (Macro kind pos) is = tt
EndsAs-append reads later (BadDirective pos) is = tt
EndsAs-append reads later (OpenIf pos) is = tt
EndsAs-append reads later (IncludeDepth pos) is = tt
EndsAs-append reads later (BadCondition pos) is = tt
EndsAs-append reads later (Limit limit) is = tt
EndsAs-append reads later NoMemory is = tt

-- a refusal that says nothing of a read ends as it does after any reads
ends_plain : (reads : List Read) (error : ReadError) → ReadsNone error → EndsAs reads error
ends_plain reads (Missing name) none = absurd none
ends_plain reads (ReadFault name) none = absurd none
ends_plain reads (Scan kind pos) none = tt
ends_plain reads (Macro kind pos) none = tt
ends_plain reads (BadDirective pos) none = tt
ends_plain reads (OpenIf pos) none = tt
ends_plain reads (IncludeDepth pos) none = tt
ends_plain reads (BadCondition pos) none = tt
ends_plain reads (Limit limit) none = tt
ends_plain reads NoMemory none = tt

-- a refusal that does not say that memory ran out is the refusal of the outcome
is_refusal : {B : Type 0} (outcome : Result B ReadError) (error : ReadError) → (error ≡ NoMemory → ⊥) → IsRefusal outcome error → outcome ≡ Err error
is_refusal outcome error other (inl want) = absurd (other want)
is_refusal outcome error other (inr is) = is

-- so it is of any files, if it says nothing of a read
refuses_plain : {B : Type 0} (outcome : Listing → Result B ReadError) (files : Listing) (error : ReadError) → ReadsNone error
    → IsRefusal (outcome files) error → RefusesFor outcome files error
refuses_plain outcome files (Missing name) none is = absurd none
refuses_plain outcome files (ReadFault name) none is = absurd none
refuses_plain outcome files (Scan kind pos) none is = is_refusal (outcome files) (Scan kind pos) (λ same. cc) is
refuses_plain outcome files (Macro kind pos) none is = is_refusal (outcome files) (Macro kind pos) (λ same. cc) is
refuses_plain outcome files (BadDirective pos) none is = is_refusal (outcome files) (BadDirective pos) (λ same. cc) is
refuses_plain outcome files (OpenIf pos) none is = is_refusal (outcome files) (OpenIf pos) (λ same. cc) is
refuses_plain outcome files (IncludeDepth pos) none is = is_refusal (outcome files) (IncludeDepth pos) (λ same. cc) is
refuses_plain outcome files (BadCondition pos) none is = is_refusal (outcome files) (BadCondition pos) (λ same. cc) is
refuses_plain outcome files (Limit limit) none is = is_refusal (outcome files) (Limit limit) (λ same. cc) is
refuses_plain outcome files NoMemory none is = tt

-- a number above another, as a test
above : (most n : ℕ) → most < n → nat_lt most n ≡ true
above most n is = grind (arith, nat_tests)

-- what the first step of an outcome refuses, the outcome does
refuses_on : {B C : Type 0} (outcome : Listing → Result B ReadError) (inner : Listing → Result C ReadError) (next : Listing → C → Result B ReadError)
    (files : Listing) (error : ReadError) → outcome files ≡ and_then (inner files) (next files)
    → RefusesFor inner files error → RefusesFor outcome files error
refuses_on outcome inner next files (Missing name) same is = same ∙ ap (λ done. and_then done (next files)) is
refuses_on outcome inner next files (ReadFault name) same is = λ none. same ∙ ap (λ done. and_then done (next files)) (is none)
refuses_on outcome inner next files (Scan kind pos) same is = same ∙ ap (λ done. and_then done (next files)) is
refuses_on outcome inner next files (Macro kind pos) same is = same ∙ ap (λ done. and_then done (next files)) is
refuses_on outcome inner next files (BadDirective pos) same is = same ∙ ap (λ done. and_then done (next files)) is
refuses_on outcome inner next files (OpenIf pos) same is = same ∙ ap (λ done. and_then done (next files)) is
refuses_on outcome inner next files (IncludeDepth pos) same is = same ∙ ap (λ done. and_then done (next files)) is
refuses_on outcome inner next files (BadCondition pos) same is = same ∙ ap (λ done. and_then done (next files)) is
refuses_on outcome inner next files (Limit limit) same is = same ∙ ap (λ done. and_then done (next files)) is
refuses_on outcome inner next files NoMemory same is = tt

module _ {B : Type 0} (outcome : Listing → Result B ReadError) where
  -- reads, and then others
  AreReads-append : (known mid all : Listing) (reads later : List Read)
      → AreReads outcome known reads mid → AreReads outcome mid later all → AreReads outcome known (reads ++ later) all
  AreReads-append known mid all reads later (AreReads.none _) on = on
  AreReads-append known mid all _ later (AreReads.then _ read text reads _ next is rest) on =
      AreReads.then known read text (reads ++ later) all next is (AreReads-append (known ++ (read.name, text) ∷ []) mid all reads later rest on)

  -- the same if the others end with one that may have given no file
  AreBegun-append : (known mid : Listing) (reads later : List Read)
      → AreReads outcome known reads mid → AreBegun outcome mid later → AreBegun outcome known (reads ++ later)
  AreBegun-append known mid reads later (AreReads.none _) on = on
  AreBegun-append known mid _ later (AreReads.then _ read text reads _ next is rest) on =
      AreBegun.then known read text (reads ++ later) next is (AreBegun-append (known ++ (read.name, text) ∷ []) mid reads later rest on)

  -- all of them gave a file
  pub AreReads-begun : (known all : Listing) (reads : List Read) → AreReads outcome known reads all → AreBegun outcome known reads
  AreReads-begun known all reads (AreReads.none _) = AreBegun.none known
  AreReads-begun known all _ (AreReads.then _ read text reads _ next is rest) =
      AreBegun.then known read text reads next is (AreReads-begun (known ++ (read.name, text) ∷ []) all reads rest)

  -- a listing that the reads fit has the files that they gave
  pub AreReads-listed : (listing known all : Listing) (reads : List Read) → AreReads outcome known reads all → AreListed listing known
      → Fits listing reads → AreListed listing all
  AreReads-listed listing known all reads (AreReads.none _) listed fits = listed
  AreReads-listed listing known all _ (AreReads.then _ read text reads _ next is rest) listed fits =
      AreReads-listed listing (known ++ (read.name, text) ∷ []) all reads rest
      (AreListed-push listing known read.name text (subst (λ answer. FitsAnswer listing read.name read.max answer) is fits.0) listed)
      fits.1

-- what the first step of an outcome reads next, the outcome does
module _ {B C : Type 0} (outcome : Listing → Result B ReadError) (inner : Listing → Result C ReadError)
    (next : Listing → C → Result B ReadError) where
  -- the outcome is that of the step, of any listing that has these files
  abbrev BeginsWith : Listing → Type 0
  BeginsWith known = (listing : Listing) → AreListed listing known → outcome listing ≡ and_then (inner listing) (next listing)

  IsNext-lift : (known : Listing) (read : Read) → BeginsWith known → IsNext inner known read → IsNext outcome known read
  IsNext-lift known read same is = record {
    whole = is.whole;
    unknown = is.unknown;
    missing = λ listing listed none. same listing listed ∙ ap (λ done. and_then done (next listing)) (is.missing listing listed none);
  }

  BeginsWith-more : (known more : Listing) → BeginsWith known → BeginsWith (known ++ more)
  BeginsWith-more known more same = λ listing listed. same listing (AreListed-front listing known more listed)

  AreReads-lift : (known all : Listing) (reads : List Read) → BeginsWith known
      → AreReads inner known reads all → AreReads outcome known reads all
  AreReads-lift known all reads same (AreReads.none _) = AreReads.none known
  AreReads-lift known all _ same (AreReads.then _ read text reads _ is given rest) =
      AreReads.then known read text reads all (IsNext-lift known read same is) given
      (AreReads-lift (known ++ (read.name, text) ∷ []) all reads (BeginsWith-more known ((read.name, text) ∷ []) same) rest)

  AreBegun-lift : (known : Listing) (reads : List Read) → BeginsWith known
      → AreBegun inner known reads → AreBegun outcome known reads
  AreBegun-lift known reads same (AreBegun.none _) = AreBegun.none known
  AreBegun-lift known _ same (AreBegun.last _ read is) = AreBegun.last known read (IsNext-lift known read same is)
  AreBegun-lift known _ same (AreBegun.then _ read text reads is given begun) =
      AreBegun.then known read text reads (IsNext-lift known read same is) given
      (AreBegun-lift (known ++ (read.name, text) ∷ []) reads (BeginsWith-more known ((read.name, text) ∷ []) same) begun)

-- none so far
pub read_none : {F B : Type 0} (leads : F → Read → F → Type 0) (first : F) (files : List File) (outcome : Listing → Result B ReadError)
    → WasRead leads first first files files outcome
read_none leads first files outcome = record { reads = []; leads_on = refl; in_turn = AreReads.none (listing_of files) }

-- a refusal that is passed on
pub passed_on : {F A B : Type 0} {leads : F → Read → F → Type 0} {first last : F} {old : List File} {outcome : Listing → Result B ReadError}
    (new : List File) (result : Result A ReadError) (error : ReadError) → IsErr result × IsErrAnd result (λ error'. error' ≡ error)
    → WasRefused leads first last old outcome error → ReadsInTurn leads first last old new outcome result
passed_on new (Ok value) error is refused = absurd cc
passed_on {leads = leads} {first = first} {last = last} {old = old} {outcome = outcome} new (Err error') error is refused =
    subst (λ error''. WasRefused leads first last old outcome error'') (sym is.1) refused

module _ {F B : Type 0} {leads : F → Read → F → Type 0} {first mid : F} {old new : List File} {outcome : Listing → Result B ReadError}
    (so_far : WasRead leads first mid old new outcome) where
  -- the same files
  pub read_stays : (new' : List File) → new' ≡ new → WasRead leads first mid old new' outcome
  read_stays new' stay = rw stay so_far

  -- a refusal after them that says nothing of a read
  pub read_refused : (error : ReadError) → ReadsNone error → ((listing : Listing) → Agrees listing new → IsRefusal (outcome listing) error)
      → WasRefused leads first mid old outcome error
  read_refused error none gives = record {
    reads = so_far.reads;
    leads_on = so_far.leads_on;
    begun = AreReads-begun outcome (listing_of old) (listing_of new) so_far.reads so_far.in_turn;
    ends = ends_plain so_far.reads error none;
    refuses = λ listing listed fits. refuses_plain outcome listing error none
        (gives listing (AreListed-agrees listing new
        (AreReads-listed outcome listing (listing_of old) (listing_of new) so_far.reads so_far.in_turn listed fits)));
  }

  -- memory ran out after them
  pub read_without_memory : {A : Type 0} (new' : List File) (result : Result A ReadError)
      → IsErr result × IsErrAnd result (λ error'. error' ≡ NoMemory) → ReadsInTurn leads first mid old new' outcome result
  read_without_memory new' result is = passed_on new' result NoMemory is (read_refused NoMemory tt (λ listing agrees. inl refl))

  -- the same of an error that says so
  pub read_without_memory_as : {A : Type 0} (new' : List File) (result : Result A ReadError) (error : ReadError) → error ≡ NoMemory
      → IsErr result × IsErrAnd result (λ error'. error' ≡ error) → ReadsInTurn leads first mid old new' outcome result
  read_without_memory_as new' result error want is =
      read_without_memory new' result (subst (λ error''. IsErr result × IsErrAnd result (λ error'. error' ≡ error'')) want is)

-- a step: what was read before it, and that the outcome begins with it then
pub record Step {F B C : Type 0} (leads : F → Read → F → Type 0) (first mid : F) (old between : List File)
    (outcome : Listing → Result B ReadError) (inner : Listing → Result C ReadError) (next : Listing → C → Result B ReadError) : Type 0 where
  pub before : WasRead leads first mid old between outcome
  pub same : (listing : Listing) → Agrees listing between → outcome listing ≡ and_then (inner listing) (next listing)

-- what is left to do begins with a step
pub step_after : {F B C : Type 0} {leads : F → Read → F → Type 0} {first mid : F} {old between : List File}
    {outcome : Listing → Result B ReadError} (inner : Listing → Result C ReadError) (next : Listing → C → Result B ReadError)
    → WasRead leads first mid old between outcome → Reached old between outcome (λ listing. and_then (inner listing) (next listing))
    → Step leads first mid old between outcome inner next
step_after inner next so_far reached = record { before = so_far; same = reached.same }

-- the outcome begins with a step
pub step_first : {F B C : Type 0} (leads : F → Read → F → Type 0) (first : F) (files : List File)
    (outcome : Listing → Result B ReadError) (inner : Listing → Result C ReadError) (next : Listing → C → Result B ReadError)
    → ((listing : Listing) → outcome listing ≡ and_then (inner listing) (next listing)) → Step leads first first files files outcome inner next
step_first leads first files outcome inner next same = record { before = read_none leads first files outcome; same = λ listing agrees. same listing }

module _ {F B C : Type 0} {leads : F → Read → F → Type 0} {first mid : F} {old between : List File}
    {outcome : Listing → Result B ReadError} {inner : Listing → Result C ReadError} {next : Listing → C → Result B ReadError}
    (step : Step leads first mid old between outcome inner next) (last : F) where
  -- the step is that of any listing that has the files of before it
  begins : (listing : Listing) → AreListed listing (listing_of between) → outcome listing ≡ and_then (inner listing) (next listing)
  begins listing listed = step.same listing (AreListed-agrees listing between listed)

  -- the reads of a step that was done
  pub read_on : (new : List File) → WasRead leads mid last between new inner → WasRead leads first last old new outcome
  read_on new it = record {
    reads = step.before.reads ++ it.reads;
    leads_on = Leads_append leads first mid last step.before.reads it.reads step.before.leads_on it.leads_on;
    in_turn = AreReads-append outcome (listing_of old) (listing_of between) (listing_of new) step.before.reads it.reads step.before.in_turn
        (AreReads-lift outcome inner next (listing_of between) (listing_of new) it.reads begins it.in_turn);
  }

  -- or refused
  pub read_refused_on : (error : ReadError) → WasRefused leads mid last between inner error → WasRefused leads first last old outcome error
  read_refused_on error it = record {
    reads = step.before.reads ++ it.reads;
    leads_on = Leads_append leads first mid last step.before.reads it.reads step.before.leads_on it.leads_on;
    begun = AreBegun-append outcome (listing_of old) (listing_of between) step.before.reads it.reads step.before.in_turn
        (AreBegun-lift outcome inner next (listing_of between) it.reads begins it.begun);
    ends = EndsAs-append step.before.reads it.reads error it.ends;
    refuses = λ listing listed fits.
        let listed' = AreReads-listed outcome listing (listing_of old) (listing_of between) step.before.reads step.before.in_turn listed
        (Fits-front listing step.before.reads it.reads fits) in
        refuses_on outcome inner next listing error (begins listing listed')
        (it.refuses listing listed' (Fits-back listing step.before.reads it.reads fits));
  }

-- a file that is sought by its name, of files that do not have it
module _ (name : List ℕ) (old : Progress) (before now : Counts)
    (new_name : known_from 0 name old.files ≡ None) (few : nat_le 256 (length old.files) ≡ false) where
  -- it is the next one
  found_next : (answer : Result (List ℕ) FileEnd) → IsNext (λ listing. found_file listing name old) (listing_of old.files) (text_read name answer before now)
  found_next answer = record {
    whole = refl;
    unknown = unknown_unlisted 0 name old.files new_name;
    missing = λ listing listed missing. found-new listing name old new_name few ∙ ap (listed_file name old) missing;
  }

  -- it was read, and scanned or not
  pub found_read : {F : Type 0} (leads : F → Read → F → Type 0) {first last : F} (text : List ℕ) (new : Progress)
      (result : Result KnownFile ReadError) (answer : Result (List ℕ) FileEnd) → answer ≡ Ok text
      → leads first (text_read name answer before now) last → nat_lt 4194304 (length text) ≡ false
      → Gives (found_of new) (scanned_file name text old (scan_of (length old.files) old.room text)) result
      → ReadsInTurn leads first last old.files new.files (λ listing. found_file listing name old) result
  found_read leads {last = last} text new (Err error) answer is led within gives = record {
    reads = text_read name answer before now ∷ [];
    leads_on = (last, led, refl);
    begun = AreBegun.last (listing_of old.files) (text_read name answer before now) (found_next answer);
    ends = ends_plain (text_read name answer before now ∷ []) error gives.1;
    refuses = λ listing listed fits. refuses_plain (λ listing'. found_file listing' name old) listing error gives.1
        (refused listing (subst (λ answer'. FitsAnswer listing name 4194304 answer') is fits.0) gives.0);
  } where
    refused : (listing : Listing) → file_of listing name ≡ Some text → IsRefusal (scanned_file name text old (scan_of (length old.files) old.room text)) error
        → IsRefusal (found_file listing name old) error
    refused listing there (inl want) = inl want
    refused listing there (inr refusal) = inr (found-listed listing name text old new_name few within there ∙ refusal)
  found_read leads {last = last} text new (Ok known) answer is led within gives =
      let it = scan-file name text old new known (scan_of (length old.files) old.room text) gives in record {
        reads = text_read name answer before now ∷ [];
        leads_on = (last, led, refl);
        in_turn = AreReads.then (listing_of old.files) (text_read name answer before now) text [] (listing_of new.files) (found_next answer) is
            (alone it.0 it.1);
      } where
        alone : (tokens : List Token) → new.files ≡ old.files ++ record { name = name; text = text; tokens = tokens } ∷ []
            → AreReads (λ listing. found_file listing name old) (listing_of old.files ++ (name, text) ∷ []) [] (listing_of new.files)
        alone tokens longer =
            subst (λ all. AreReads (λ listing. found_file listing name old) (listing_of old.files ++ (name, text) ∷ []) [] all)
            (sym (ap listing_of longer
            ∙ map-append {B = List ℕ × List ℕ} (λ file. (file.name, file.text)) old.files (record { name = name; text = text; tokens = tokens } ∷ [])))
            (AreReads.none (listing_of old.files ++ (name, text) ∷ []))

  -- it gave no text
  ends_unread : (end : FileEnd) (error : ReadError) → FailsAs name end error → EndsAs (text_read name (Err end) before now ∷ []) error
  ends_unread end (Missing missing) fails = (sym fails.0, ap (λ end'. Err end') fails.1)
  ends_unread end (ReadFault unread) fails = (sym fails.0, ap (λ end'. Err end') fails.1)
  ends_unread end (Limit limit) fails = tt
  ends_unread end NoMemory fails = tt
  ends_unread end (Scan kind pos) fails = absurd fails
  ends_unread end (Macro kind pos) fails = absurd fails
  ends_unread end (BadDirective pos) fails = absurd fails
  ends_unread end (OpenIf pos) fails = absurd fails
  ends_unread end (IncludeDepth pos) fails = absurd fails
  ends_unread end (BadCondition pos) fails = absurd fails

  -- what is found if it is not listed
  found_missing : (listing : Listing) → file_of listing name ≡ None → found_file listing name old ≡ Err (Missing name)
  found_missing listing none = found-new listing name old new_name few ∙ ap (listed_file name old) none

  -- and if it has too many bytes
  found_long : (listing : Listing) (bytes : List ℕ) → file_of listing name ≡ Some bytes → nat_lt 4194304 (length bytes) ≡ true
      → found_file listing name old ≡ Err (passed FileBytes)
  found_long listing bytes is long =
      found-new listing name old new_name few ∙ ap (listed_file name old) is
      ∙ ap (λ (long' : Bool). if long' then Err (passed FileBytes) else scanned_file name bytes old (scan_of (length old.files) old.room bytes)) long

  refuses_unread : (listing : Listing) (end : FileEnd) (error : ReadError) → FailsAs name end error → FitsAnswer listing name 4194304 (Err end)
      → RefusesFor (λ listing'. found_file listing' name old) listing error
  refuses_unread listing end (Missing missing) fails fits =
      found_missing listing (subst (λ end'. FitsAnswer listing name 4194304 (Err end')) fails.1 fits) ∙ ap (λ name'. Err (Missing name')) (sym fails.0)
  refuses_unread listing end (ReadFault unread) fails fits =
      λ none. found_missing listing (subst (λ name'. file_of listing name' ≡ None) fails.0 none) ∙ ap (λ name'. Err (Missing name')) (sym fails.0)
  refuses_unread listing end (Limit limit) fails fits =
      let long = subst (λ end'. FitsAnswer listing name 4194304 (Err end')) fails.1 fits in
      found_long listing long.0 long.1 (above 4194304 (length long.0) long.2) ∙ ap (λ limit'. Err (Limit limit')) (sym fails.0)
  refuses_unread listing end NoMemory fails fits = tt
  refuses_unread listing end (Scan kind pos) fails fits = absurd fails
  refuses_unread listing end (Macro kind pos) fails fits = absurd fails
  refuses_unread listing end (BadDirective pos) fails fits = absurd fails
  refuses_unread listing end (OpenIf pos) fails fits = absurd fails
  refuses_unread listing end (IncludeDepth pos) fails fits = absurd fails
  refuses_unread listing end (BadCondition pos) fails fits = absurd fails

  pub found_unread : {F : Type 0} {leads : F → Read → F → Type 0} {first last : F} (end : FileEnd) (error : ReadError)
      → leads first (text_read name (Err end) before now) last → FailsAs name end error
      → WasRefused leads first last old.files (λ listing. found_file listing name old) error
  found_unread {last = last} end error led fails = record {
    reads = text_read name (Err end) before now ∷ [];
    leads_on = (last, led, refl);
    begun = AreBegun.last (listing_of old.files) (text_read name (Err end) before now) (found_next (Err end));
    ends = ends_unread end error fails;
    refuses = λ listing listed fits. refuses_unread listing end error fails fits.0;
  }

-- the same of the bytes that a read gave
pub found_text : {F : Type 0} {leads : F → Read → F → Type 0} {first last : F} {before now : Counts} (name : List ℕ) (old : Progress)
    → known_from 0 name old.files ≡ None → nat_le 256 (length old.files) ≡ false
    → (text : Vec ℕ Global) (new : Progress) (result : Result KnownFile ReadError) → nat_lt 4194304 (length text.items) ≡ false
    → IsText leads first last name before now (Ok text)
    → Gives (found_of new) (scanned_file name text.items old (scan_of (length old.files) old.room text.items)) result
    → ReadsInTurn leads first last old.files new.files (λ listing. found_file listing name old) result
found_text {leads = leads} {first = first} {last = last} {before = before} {now = now} name old new_name few text new result within it gives =
    by it.answer it.led it.answers where
      by : (answer : Result (List ℕ) FileEnd) → leads first (text_read name answer before now) last → AnswersText name answer (Ok text)
          → ReadsInTurn leads first last old.files new.files (λ listing. found_file listing name old) result
      by (Ok bytes) led is =
          found_read name old before now new_name few leads {first = first} {last = last} text.items new result (Ok bytes)
          (ap (λ (bytes' : List ℕ). Ok bytes') (sym is)) led within gives
      by (Err end) led is = absurd is

-- and of why it gave none
pub found_text_refused : {F : Type 0} {leads : F → Read → F → Type 0} {first last : F} {before now : Counts} (name : List ℕ) (old : Progress)
    → known_from 0 name old.files ≡ None → nat_le 256 (length old.files) ≡ false
    → (error : ReadError) → IsText leads first last name before now (Err error)
    → WasRefused leads first last old.files (λ listing. found_file listing name old) error
found_text_refused {leads = leads} {first = first} {last = last} {before = before} {now = now} name old new_name few error it =
    by it.answer it.led it.answers where
      by : (answer : Result (List ℕ) FileEnd) → leads first (text_read name answer before now) last → AnswersText name answer (Err error)
          → WasRefused leads first last old.files (λ listing. found_file listing name old) error
      by (Ok bytes) led is = absurd is
      by (Err end) led is = found_unread name old before now new_name few {leads = leads} {first = first} {last = last} end error led is

-- too many files were read
pub found_many : (listing : Listing) (name : List ℕ) (old : Progress) → known_from 0 name old.files ≡ None → nat_le 256 (length old.files) ≡ true
    → found_file listing name old ≡ Err (passed Files)
found_many listing name old new_name many =
    ap (known_file listing name old) new_name ∙ ap (λ (many' : Bool). if many' then Err (passed Files) else listed_file name old (file_of listing name)) many

-- a file that is entered after its line
abbrev entry_behind : State → Named → Listing → Found → Result Entry ReadError
entry_behind state named listing found = Ok (entry_of (with_left state named.left) found)

-- the entry of a line that names a file is that of the file
entry_finds : (levels : ℕ) (listing : Listing) (hash : Token) (line : List Token) (state : State) (named : Named) (name : List ℕ)
    → include_name state.unit.macros state.progress.left hash.pos line ≡ Ok named → name ≡ named.name → (levels ≡ 0 → ⊥)
    → entry levels listing hash line state ≡ and_then (found_file listing name (with_left state named.left).progress) (entry_behind state named listing)
entry_finds zero listing hash line state named name is same some = absurd (some refl)
entry_finds (suc levels) listing hash line state named name is same some =
    ap (entry_by (suc levels) listing hash state) is
    ∙ ap (λ (name' : List ℕ). and_then (found_file listing name' (with_left state named.left).progress) (entry_behind state named listing)) (sym same)

-- a line that names no file
pub entry_unnamed : (levels : ℕ) (listing : Listing) (hash : Token) (line : List Token) (state : State) (error : ReadError)
    → IsRefusal (include_name state.unit.macros state.progress.left hash.pos line) error → IsRefusal (entry levels listing hash line state) error
entry_unnamed levels listing hash line state error (inl want) = inl want
entry_unnamed levels listing hash line state error (inr is) = inr (ap (entry_by levels listing hash state) is)

-- a file that would be a level too deep
pub entry_deep : (levels : ℕ) (listing : Listing) (hash : Token) (line : List Token) (state : State) (named : Named)
    → include_name state.unit.macros state.progress.left hash.pos line ≡ Ok named → levels ≡ 0
    → entry levels listing hash line state ≡ Err (IncludeDepth hash.pos)
entry_deep levels listing hash line state named is none =
    ap (entry_by levels listing hash state) is
    ∙ ap (λ (levels' : ℕ). entry_named levels' listing hash named.name (with_left state named.left)) none

-- so it begins with the file
pub entry_step : {F : Type 0} (leads : F → Read → F → Type 0) (first : F)
    (levels : ℕ) (hash : Token) (line : List Token) (state : State) (named : Named) (name : List ℕ)
    → include_name state.unit.macros state.progress.left hash.pos line ≡ Ok named → name ≡ named.name → (levels ≡ 0 → ⊥)
    → Step leads first first state.progress.files state.progress.files (λ listing. entry levels listing hash line state)
    (λ listing. found_file listing name (with_left state named.left).progress) (entry_behind state named)
entry_step leads first levels hash line state named name is same some =
    step_first leads first state.progress.files (λ listing. entry levels listing hash line state)
    (λ listing. found_file listing name (with_left state named.left).progress) (entry_behind state named)
    (λ listing. entry_finds levels listing hash line state named name is same some)

-- a walk if a file is included
module _ {F : Type 0} {leads : F → Read → F → Type 0} {first mid : F} {old new : List File}
    {outcome : Listing → Result State ReadError}
    (levels : ℕ) (outer : Option Pos) (part : Part) (it : Bor Token × Bor (List Token)) (rest behind : List Token) (sections : List Section) (state : State)
    (reads : WasRead leads first mid old new outcome) (reached : Reached old new outcome (walk_of levels outer rest sections state))
    (ahead : pieces rest ≡ piece_of part ∷ pieces behind) (is : IsInclusionOf part sections (Some it)) where
  -- the file that the piece names
  abbrev entry_ahead : Listing → Result Entry ReadError
  entry_ahead listing = entry levels listing it.0.now it.1.now state

  -- the walks after it
  abbrev walks_behind : Listing → Entry → Result State ReadError
  walks_behind listing entered' =
      and_then (walk_of (levels - 1) (Some (place_of outer it.0.now.pos)) entered'.tokens [] entered'.state listing)
      (λ state'. walk_of levels outer behind sections state' listing)

  -- what is left begins with its entry
  pub walk_entry_step : Step leads first mid old new outcome entry_ahead walks_behind
  walk_entry_step =
      step_after entry_ahead walks_behind reads
      (reached_inclusion old new outcome levels outer part rest behind sections state reached ahead it is)

  -- and then with its walk
  pub walk_inner_step : (last : F) (new' : List File) (state' : State) (tokens : List Token) (place : Pos)
      → place ≡ place_of outer it.0.now.pos
      → IsReading {A = List Token} new new' (entered_by state') entry_ahead (Ok tokens)
      → WasRead leads mid last new new' entry_ahead
      → Step leads first last old new' outcome (walk_of (levels - 1) (Some place) tokens [] state')
      (λ listing state''. walk_of levels outer behind sections state'' listing)
  walk_inner_step last new' state' tokens place there reading reads' =
      step_after (walk_of (levels - 1) (Some place) tokens [] state') (λ listing state''. walk_of levels outer behind sections state'' listing)
      (read_on walk_entry_step last new' reads')
      (walk_entry old new outcome levels outer part rest behind sections state reached ahead it is new' state' tokens place there reading)

-- a refusal of the first step is that of the outcome
refusal_on : {B C : Type 0} (outcome : Result B ReadError) (first : Result C ReadError) (next : C → Result B ReadError) (error : ReadError)
    → outcome ≡ and_then first next → IsRefusal first error → IsRefusal outcome error
refusal_on outcome first next error same (inl want) = inl want
refusal_on outcome first next error same (inr is) = inr (same ∙ ap (λ done. and_then done next) is)

-- a walk that is refused without a read
module _ {F : Type 0} {leads : F → Read → F → Type 0} {first mid : F} {old new : List File} {outcome : Listing → Result State ReadError}
    (levels : ℕ) (outer : Option Pos) (rest : List Token) (sections : List Section) (state : State)
    (so_far : WasRead leads first mid old new outcome) (reached : Reached old new outcome (walk_of levels outer rest sections state)) where
  -- by a piece
  pub walk_piece_refused : (part : Part) (behind : List Token) → pieces rest ≡ piece_of part ∷ pieces behind → (error : ReadError)
      → ((enter : Option Pos → Token → List ℕ → State → Result State ReadError)
      → IsRefusal (piece_outcome enter outer (piece_of part) sections state) error × ReadsNone error)
      → WasRefused leads first mid old outcome error
  walk_piece_refused part behind ahead error gives =
      read_refused so_far error (gives (entered 0 [])).1 (λ listing agrees.
      refusal_on (outcome listing) (piece_outcome (entered levels listing) outer (piece_of part) sections state) _ error
      ((reached_piece old new outcome levels outer part rest behind sections state reached ahead).same listing agrees)
      (gives (entered levels listing)).0)

  -- by a section that is open at the end
  pub walk_open : (pos : Pos) → pieces rest ≡ [] → open_at sections ≡ Some pos → WasRefused leads first mid old outcome (OpenIf pos)
  walk_open pos none still =
      read_refused so_far (OpenIf pos) tt (λ listing agrees. inr (reached.same listing agrees
      ∙ ap (λ (parts : List Piece). walked (entered levels listing) outer parts sections state) none
      ∙ ap (λ (pos' : Option Pos). closed (entered levels listing) pos' state) still))

-- a unit begins with its root file
pub unit_file_step : {F : Type 0} (leads : F → Read → F → Type 0) (first : F) (name : List ℕ) (progress : Progress)
    → Step leads first first progress.files progress.files (λ listing. unit_of listing name progress)
    (λ listing. found_file listing name progress) (unit_behind fresh)
unit_file_step leads first name progress =
    step_first leads first progress.files (λ listing. unit_of listing name progress) (λ listing. found_file listing name progress)
    (unit_behind fresh) (λ listing. refl)

-- and what is left after that with its walk
pub unit_walk_step : {F : Type 0} {leads : F → Read → F → Type 0} {first mid : F}
    (name : List ℕ) (progress progress' : Progress) (known : KnownFile) (unit : UnitSoFar)
    → WasRead leads first mid progress.files progress'.files (λ listing. unit_of listing name progress) → unit ≡ fresh
    → ((listing : Listing) → Agrees listing progress'.files → found_file listing name progress ≡ Ok (found_of progress' known))
    → Step leads first mid progress.files progress'.files (λ listing. unit_of listing name progress)
    (λ listing. walked (entered most_levels listing) None (pieces known.tokens) [] (record { progress = progress'; unit = unit }))
    (λ listing state. Ok (unit_read known.number state))
unit_walk_step name progress progress' known unit reads new found = record {
  before = reads;
  same = λ listing agrees.
      ap (λ (it : Result Found ReadError). and_then it (unit_behind fresh listing)) (found listing agrees)
      ∙ ap (λ (unit' : UnitSoFar). unit_behind unit' listing (found_of progress' known)) (sym new);
}

-- units, one after another
module _ {F : Type 0} {leads : F → Read → F → Type 0} {first mid : F} {old : List File}
    {outcome : Listing → Result Units ReadError} where
  -- what is left of them begins with the next one
  pub unit_step : (name name' : List ℕ) (all names : List (List ℕ)) (progress : Progress) (units : List TranslationUnit)
      → WasRead leads first mid old progress.files outcome
      → Reached old progress.files outcome (λ listing. and_then (units_of listing all progress) (λ later. Ok (units_after units later)))
      → all ≡ name ∷ names → name' ≡ name
      → Step leads first mid old progress.files outcome (λ listing. unit_of listing name' progress) (units_behind names units)
  unit_step name name' all names progress units reads reached next named = record {
    before = reads;
    same = λ listing agrees.
        reached.same listing agrees
        ∙ ap (λ (all' : List (List ℕ)). and_then (units_of listing all' progress) (λ later. Ok (units_after units later))) next
        ∙ units_next listing name names progress units
        ∙ ap (λ (name'' : List ℕ). and_then (unit_of listing name'' progress) (units_behind names units listing)) (sym named);
  }

-- the source of an outcome is the source after it
source_by-then : (outcome : Result Units ReadError) → source_by outcome ≡ and_then outcome (λ units. Ok (source_of units))
source_by-then (Err error) = refl
source_by-then (Ok units) = refl

-- all begins with the units
pub source_step : {F : Type 0} (leads : F → Read → F → Type 0) (first : F) (names : List (List ℕ)) (progress : Progress)
    → progress ≡ start
    → Step leads first first progress.files progress.files (λ listing. preprocessed listing names) (λ listing. units_of listing names progress)
    (λ listing units. Ok (source_of units))
source_step leads first names progress begun =
    step_first leads first progress.files (λ listing. preprocessed listing names) (λ listing. units_of listing names progress)
    (λ listing units. Ok (source_of units))
    (λ listing. source_by-then (units_of listing names start)
    ∙ ap (λ (progress' : Progress). and_then (units_of listing names progress') (λ units. Ok (source_of units))) (sym begun))
