-- What reads with right answers show: of the counts, and of the listing if one is known.
use Rattle.std.proofs.Common.{◌≡◌, ℕ, ◌≤◌, List, [], ◌∷◌, Option, Some, Result, Ok, Err, refl, sym, subst, arith}
use Rattle.hs_base.specs.Count.{HasRisen, IsSteady}
use Rattle.hs_base.specs.Files.{Listing, Counts, NeverFall, Read, IsRead, IsAnswer}
use Rattle.hs_base.specs.Reads.{Makes, Leads, OnLast, AreRight, Fits, FitsAnswer}
use Rattle.hs_base.specs.declared.errors.FileEnd.{FileEnd}
use Rattle.hs_base.specs.declared.errors.FileEnd.TheVariants as ends
use Rattle.hs_directives.specs.Reads.{IsLast}

-- reads that led on have right answers
pub right_of : {F : Type 0} (leads : F → Read → F → Type 0) (listing : F → Option Listing) (counts : F → Counts) (first last : F) (reads : List Read)
    → Leads (Makes leads listing counts) first reads last → AreRight (listing first) (counts first) (counts last) reads
right_of leads listing counts first last [] led = subst (λ it. counts it ≡ counts first) (sym led) refl
right_of leads listing counts first last (read ∷ reads) led =
    let behind = right_of leads listing counts led.0 last reads led.2 in (
      led.1.before,
      led.1.never_fall,
      led.1.right,
      subst (λ told. AreRight told read.now (counts last) reads) led.1.listing_stays
          (subst (λ now. AreRight (listing led.0) now (counts last) reads) (sym led.1.now) behind),
    )

-- over them no count falls
pub up : (told : Option Listing) (before now : Counts) (reads : List Read) → AreRight told before now reads → NeverFall before now
up told before now [] right = record {
  misses = subst (λ (now' : Counts). before.misses ≤ now'.misses) (sym right) (omega arith);
  faults = subst (λ (now' : Counts). before.faults ≤ now'.faults) (sym right) (omega arith);
}
up told before now (read ∷ reads) right =
    let behind = up told read.now now reads right.3 in
    subst (λ before'. NeverFall before' now) right.0
    (record { misses = omega (arith, right.1.misses, behind.misses); faults = omega (arith, right.1.faults, behind.faults) })

-- a count that is steady is so at each read
pub steady_first : (before mid now : ℕ) → before ≤ mid → mid ≤ now → IsSteady before now → IsSteady before mid
steady_first before mid now first second steady = (steady.0, omega (arith, first, second, steady.1))

pub steady_later : (before mid now : ℕ) → before ≤ mid → mid ≤ now → IsSteady before now → IsSteady mid now
steady_later before mid now first second steady = (omega (arith, first, second, steady.0, steady.1), omega (arith, first, second, steady.1))

-- an answer that is right fits the listing, if no fault was counted
fits_one : (files : Listing) (name : List ℕ) (max : ℕ) (before now : Counts) (answer : Result (List ℕ) FileEnd)
    → IsSteady before.faults now.faults → IsAnswer (Some files) name max before now answer → FitsAnswer files name max answer
fits_one files name max before now (Ok bytes) steady right = right.1
fits_one files name max before now (Err ends.Missing) steady right = right.1 steady
fits_one files name max before now (Err ends.Failed) steady right = tt
fits_one files name max before now (Err ends.TooLong) steady right = right
fits_one files name max before now (Err ends.NoMemory) steady right = tt

-- so the listing fits all of them
pub told_fits : (files : Listing) (before now : Counts) (reads : List Read) → AreRight (Some files) before now reads
    → IsSteady before.faults now.faults → Fits files reads
told_fits files before now [] right steady = tt
told_fits files before now (read ∷ reads) right steady =
    let behind = up (Some files) read.now now reads right.3 in
    let steady' : IsSteady read.before.faults now.faults = subst (λ (it : Counts). IsSteady it.faults now.faults) (sym right.0) steady in (
      fits_one files read.name read.max read.before read.now read.answer
          (steady_first read.before.faults read.now.faults now.faults right.1.faults behind.faults steady') right.2,
      told_fits files read.now now reads right.3
          (steady_later read.before.faults read.now.faults now.faults right.1.faults behind.faults steady'),
    )

-- a count that rose at a read rose over all
pub rose_on : (before mid later now : ℕ) → before ≤ mid → mid ≤ later → later ≤ now → HasRisen mid later → HasRisen before now
rose_on before mid later now first up_on second rose = λ below. grind (arith, rose, first, up_on, second, below)

-- the last read ended so: its answer says what was counted
module _ (P : Counts → Counts → Type 0) (name : List ℕ) (end : FileEnd)
    (says : (told : Option Listing) (read : Read) → IsRead told read → read.answer ≡ Err end → P read.before read.now) where
  last_says : (told : Option Listing) (before now : Counts) (reads : List Read) → AreRight told before now reads
      → IsLast reads name end → OnLast reads (λ read. (read.name ≡ name) × P read.before read.now)
  last_says told before now [] right is = absurd is
  last_says told before now (read ∷ []) right is = (is.0, says told read right.2 is.1)
  last_says told before now (read ∷ next ∷ reads) right is = last_says told read.now now (next ∷ reads) right.3 is

  over_all : ((before mid later now : Counts) → NeverFall before mid → NeverFall mid later → NeverFall later now → P mid later → P before now)
      → (told : Option Listing) (before now : Counts) (reads : List Read) → AreRight told before now reads
      → IsLast reads name end → P before now
  over_all widens told before now [] right is = absurd is
  over_all widens told before now (read ∷ []) right is =
      widens before read.before read.now now
      (subst (λ (it : Counts). NeverFall before it) (sym right.0) (same before))
      right.1
      (subst (λ (it : Counts). NeverFall read.now it) (sym right.3) (same read.now))
      (says told read right.2 is.1) where
        same : (counts : Counts) → NeverFall counts counts
        same counts = record { misses = omega arith; faults = omega arith }
  over_all widens told before now (read ∷ next ∷ reads) right is =
      widens before read.now now now
      (subst (λ (it : Counts). NeverFall it read.now) right.0 right.1)
      (up told read.now now (next ∷ reads) right.3)
      (same now)
      (over_all widens told read.now now (next ∷ reads) right.3 is) where
        same : (counts : Counts) → NeverFall counts counts
        same counts = record { misses = omega arith; faults = omega arith }

-- a missing file counted a miss
miss_says : (told : Option Listing) (read : Read) → IsRead told read → read.answer ≡ Err ends.Missing → HasRisen read.before.misses read.now.misses
miss_says told read right is =
    (subst (λ answer. IsAnswer told read.name read.max read.before read.now answer) is right).0

pub miss_rose : (told : Option Listing) (before now : Counts) (reads : List Read) (name : List ℕ) → AreRight told before now reads
    → IsLast reads name ends.Missing → HasRisen before.misses now.misses
miss_rose told before now reads name =
    over_all (λ before' now'. HasRisen before'.misses now'.misses) name ends.Missing miss_says
    (λ first mid later last low on high rose. rose_on first.misses mid.misses later.misses last.misses low.misses on.misses high.misses rose)
    told before now reads

-- a read that failed counted a fault, and did so itself
fault_says : (told : Option Listing) (read : Read) → IsRead told read → read.answer ≡ Err ends.Failed → HasRisen read.before.faults read.now.faults
fault_says told read right is =
    subst (λ answer. IsAnswer told read.name read.max read.before read.now answer) is right

pub fault_rose : (told : Option Listing) (before now : Counts) (reads : List Read) (name : List ℕ) → AreRight told before now reads
    → IsLast reads name ends.Failed → HasRisen before.faults now.faults
fault_rose told before now reads name =
    over_all (λ before' now'. HasRisen before'.faults now'.faults) name ends.Failed fault_says
    (λ first mid later last low on high rose. rose_on first.faults mid.faults later.faults last.faults low.faults on.faults high.faults rose)
    told before now reads

pub fault_rose_last : (told : Option Listing) (before now : Counts) (reads : List Read) (name : List ℕ) → AreRight told before now reads
    → IsLast reads name ends.Failed → OnLast reads (λ read. (read.name ≡ name) × HasRisen read.before.faults read.now.faults)
fault_rose_last told before now reads name =
    last_says (λ before' now'. HasRisen before'.faults now'.faults) name ends.Failed fault_says told before now reads
