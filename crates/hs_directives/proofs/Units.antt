-- Units, one after another, over the listings that have the files that were read.
use Rattle.std.proofs.Common.{◌≡◌, ℕ, List, [], ◌∷◌, ◌++◌, None, Result, Ok, Err, refl, sym, ap, subst, ◌∙◌, append_assoc}
use Rattle.hs_base.specs.Files.{Listing}
use Rattle.hs_directives.specs.Pieces.{pieces}
use Rattle.hs_directives.specs.States.{Found, and_then, found_file}
use Rattle.hs_directives.specs.Readings.{IsReading, found_of, unit_by}
use Rattle.hs_directives.specs.Preprocessing.{entered, walked, most_levels, fresh, unit_read, unit_of, UnitRead, Units, with_unit, units_of}
use Rattle.hs_directives.specs.declared.state.File.{File}
use Rattle.hs_directives.specs.declared.state.KnownFile.{KnownFile}
use Rattle.hs_directives.specs.declared.state.Progress.{Progress}
use Rattle.hs_directives.specs.declared.state.UnitSoFar.{UnitSoFar}
use Rattle.hs_directives.specs.declared.state.State.{State}
use Rattle.hs_directives.specs.declared.unit.TranslationUnit.{TranslationUnit}
use Rattle.hs_directives.proofs.Walking.{Reached, reached_as, reached_none, reached_on}
use Rattle.hs_directives.specs.declared.error.ReadError.{ReadError}

-- a unit after its root file
abbrev pub unit_behind : UnitSoFar → Listing → Found → Result UnitRead ReadError
unit_behind unit listing it =
    and_then (walked (entered most_levels listing) None (pieces it.tokens) [] (record { progress = it.progress; unit = unit }))
    (λ state. Ok (unit_read it.number state))

-- a root file that was found and walked
pub unit_reached : (name : List ℕ) (progress progress' : Progress) (known : KnownFile) (unit unit' : UnitSoFar) (state : State)
    → unit ≡ fresh → unit' ≡ state.unit
    → IsReading {A = KnownFile} progress.files progress'.files (found_of progress') (λ listing. found_file listing name progress) (Ok known)
    → IsReading {A = Unit {0}} progress'.files state.progress.files (λ _. state)
    (λ listing. walked (entered most_levels listing) None (pieces known.tokens) [] (record { progress = progress'; unit = unit })) (Ok tt)
    → IsReading progress.files state.progress.files (unit_by state.progress) (λ listing. unit_of listing name progress)
    (Ok (record { root = known.number; tokens = unit'.tokens; changes = unit'.changes }))
unit_reached name progress progress' known unit unit' state new put found walk =
    let outcome : Listing → Result _ ReadError = λ listing. unit_of listing name progress in
    let first = reached_on {A = KnownFile} progress.files progress.files progress'.files outcome (found_of progress')
    (λ listing. found_file listing name progress) (unit_behind fresh) known (reached_none progress.files outcome) found in
    let walk' = subst (λ unit''. IsReading {A = Unit {0}} progress'.files state.progress.files (λ _. state)
    (λ listing. walked (entered most_levels listing) None (pieces known.tokens) [] (record { progress = progress'; unit = unit'' })) (Ok tt)) new walk in
    let second = reached_on {A = Unit {0}} progress.files progress'.files state.progress.files outcome (λ _. state)
    (λ listing. walked (entered most_levels listing) None (pieces known.tokens) [] (record { progress = progress'; unit = fresh }))
    (λ listing state'. Ok (unit_read known.number state')) tt first walk' in
    rw put (second.grows, second.same)

-- units, and later ones
abbrev pub units_after : List TranslationUnit → Units → Units
units_after units later = record { units = units ++ later.units; progress = later.progress }

-- the units after one
abbrev pub units_behind : List (List ℕ) → List TranslationUnit → Listing → UnitRead → Result Units ReadError
units_behind names units listing it = and_then (units_of listing names it.progress) (λ later. Ok (units_after (units ++ it.unit ∷ []) later))

-- there are no units yet
pub units_first : (files : List File) (names : List (List ℕ)) (progress : Progress)
    → Reached files files (λ listing. units_of listing names progress)
    (λ listing. and_then (units_of listing names progress) (λ later. Ok (units_after [] later)))
units_first files names progress =
    reached_as files files (λ listing. units_of listing names progress) _ _
    (reached_none files (λ listing. units_of listing names progress)) (λ listing. by (units_of listing names progress)) where
      by : (outcome : Result Units ReadError) → outcome ≡ and_then outcome (λ later. Ok (units_after [] later))
      by (Err error) = refl
      by (Ok later) = refl

-- the next name's unit comes after those so far
pub units_next : (listing : Listing) (name : List ℕ) (names : List (List ℕ)) (progress : Progress) (units : List TranslationUnit)
    → and_then (units_of listing (name ∷ names) progress) (λ later. Ok (units_after units later))
    ≡ and_then (unit_of listing name progress) (units_behind names units listing)
units_next listing name names progress units = by (unit_of listing name progress) where
  behind : (it : UnitRead) (outcome : Result Units ReadError)
      → and_then (and_then outcome (λ later. Ok (with_unit it.unit later))) (λ later. Ok (units_after units later))
      ≡ and_then outcome (λ later. Ok (units_after (units ++ it.unit ∷ []) later))
  behind it (Err error) = refl
  behind it (Ok later) =
      ap (λ (all : List TranslationUnit). Ok (record { units = all; progress = later.progress })) (sym (append_assoc units (it.unit ∷ []) later.units))

  by : (outcome : Result UnitRead ReadError)
      → and_then (and_then outcome (λ it. and_then (units_of listing names it.progress) (λ later. Ok (with_unit it.unit later))))
      (λ later. Ok (units_after units later))
      ≡ and_then outcome (units_behind names units listing)
  by (Err error) = refl
  by (Ok it) = behind it (units_of listing names it.progress)

-- one more unit
pub units_step : (old : List File) (outcome : Listing → Result Units ReadError)
    (name name' : List ℕ) (all names : List (List ℕ)) (progress progress' : Progress) (unit : TranslationUnit) (units units' : List TranslationUnit)
    → Reached old progress.files outcome (λ listing. and_then (units_of listing all progress) (λ later. Ok (units_after units later)))
    → all ≡ name ∷ names → name' ≡ name → units' ≡ units ++ unit ∷ []
    → IsReading {A = TranslationUnit} progress.files progress'.files (unit_by progress') (λ listing. unit_of listing name' progress) (Ok unit)
    → Reached old progress'.files outcome (λ listing. and_then (units_of listing names progress') (λ later. Ok (units_after units' later)))
units_step old outcome name name' all names progress progress' unit units units' reached next named put reading =
    let next' = reached_as old progress.files outcome _
    (λ listing. and_then (unit_of listing name progress) (units_behind names units listing))
    reached
    (λ listing. ap (λ (all' : List (List ℕ)). and_then (units_of listing all' progress) (λ later. Ok (units_after units later))) next
    ∙ units_next listing name names progress units) in
    let reading' = subst
    (λ name''. IsReading {A = TranslationUnit} progress.files progress'.files (unit_by progress')
    (λ listing. unit_of listing name'' progress) (Ok unit))
    named reading in
    rw put (reached_on {A = TranslationUnit} old progress.files progress'.files outcome (unit_by progress')
    (λ listing. unit_of listing name progress) (units_behind names units) unit next' reading')
