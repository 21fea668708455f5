-- Reads through named files are reads of the files that these refer to, and their names are noted in order.
use Rattle.std.proofs.Common.{◌≡◌, ℕ, List, [], ◌∷◌, ◌++◌, Option, Some, None, sym, ap, subst, ◌∙◌, append-nil, append_assoc}
use Rattle.std.specs.Prelude.{IfSome, IsSomeAnd}
use Rattle.hs_base.specs.Files.{Listing, Counts, Read}
use Rattle.hs_base.specs.Reads.{Makes, Leads}
use Rattle.hs_command.specs.Report.{names_of}
use Rattle.hs_command.specs.Names.{Names, IsNoted}

-- if the names are there, these follow those before
abbrev pub AreNoted : Names → List (List ℕ) → Names → Type 0
AreNoted before reads now = IfSome now (λ names. IsSomeAnd before (λ earlier. names ≡ earlier ++ reads))

-- none more
noted_none : (names : Names) → AreNoted names [] names
noted_none None = tt
noted_none (Some names) = sym (append-nil names)

-- one, and then more
noted_more : (before mid now : Names) (name : List ℕ) (reads : List (List ℕ)) → IsNoted before name mid → AreNoted mid reads now
    → AreNoted before (name ∷ reads) now
noted_more before mid None name reads first later = tt
noted_more before None (Some names) name reads first later = absurd later
noted_more None (Some between) (Some names) name reads first later = absurd first
noted_more (Some earlier) (Some between) (Some names) name reads first later =
    later ∙ ap (λ (list : List (List ℕ)). list ++ reads) first ∙ append_assoc earlier (name ∷ []) reads

module _ {N F R S : Type 0} (files : N → F) (reference : N → R) (noting : N → S) (names : N → Names) (leads : F → Read → F → Type 0)
    (listing : F → Option Listing) (counts : F → Counts) where
  -- a read through them
  abbrev pub LeadsThrough : N → Read → N → Type 0
  LeadsThrough old read new =
      (reference new ≡ reference old) × (noting new ≡ noting old) × leads (files old) read (files new)
      × IsNoted (names old) read.name (names new)

  -- what the read made of the named files, it made of the files that they refer to
  abbrev pub MakesThrough : N → Read → N → Type 0
  MakesThrough = Makes LeadsThrough (λ it. listing (files it)) (λ it. counts (files it))

  made_behind : (old : N) (read : Read) (new : N) → MakesThrough old read new → Makes leads listing counts (files old) read (files new)
  made_behind old read new it = record {
    led = it.led.2;
    listing_stays = it.listing_stays;
    before = it.before;
    now = it.now;
    never_fall = it.never_fall;
    right = it.right;
  }

  -- many of them
  pub leads_through : (first last : N) (reads : List Read) → Leads MakesThrough first reads last
      → (reference last ≡ reference first) × (noting last ≡ noting first) × Leads (Makes leads listing counts) (files first) reads (files last)
      × AreNoted (names first) (names_of reads) (names last)
  leads_through first last [] is =
      (ap reference is, ap noting is, ap files is, subst (λ (it : N). AreNoted (names first) [] (names it)) (sym is) (noted_none (names first)))
  leads_through first last (read ∷ reads) step =
      let later = leads_through step.0 last reads step.2 in (
        later.0 ∙ step.1.led.0,
        later.1 ∙ step.1.led.1,
        (files step.0, made_behind first read step.0 step.1, later.2),
        noted_more (names first) (names step.0) (names last) read.name (names_of reads) step.1.led.3 later.3,
      )

-- if none was noted before, they are the names that were read
pub from_none : (before now : Names) (reads : List (List ℕ)) → before ≡ Some [] → AreNoted before reads now → IfSome now (λ names. names ≡ reads)
from_none before None reads none noted = tt
from_none None (Some names) reads none noted = absurd noted
from_none (Some earlier) (Some names) reads none noted = noted ∙ ap (λ (list : List (List ℕ)). list ++ reads) (some_is earlier [] none) where
  some_is : (one other : List (List ℕ)) → ◌≡◌ {A = Names} (Some one) (Some other) → one ≡ other
  some_is one other same = cc
