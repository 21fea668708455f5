-- What a text is, and the one read that gave it.
use Rattle.std.proofs.Common.{ℕ, ◌<◌, ◌≤◌, ◌==◌, List, [], ◌∷◌, length, Option, Result, Ok, Err, refl, sym, subst, ap, arith}
use Rattle.std.specs.Prelude.{count_by, Vec}
use Rattle.std.specs.Global.{Global}
use Rattle.std.proofs.lemmas.List.Sums.{count_by-le-length}
use Rattle.hs_base.specs.Files.{Listing, Counts, Read}
use Rattle.hs_base.specs.Reads.{Makes, MadeReads}
use Rattle.hs_table.specs.declared.routine.Routine.{Routine}
use Rattle.hs_table_text.specs.Answers.{Answers}
use Rattle.hs_table_text.specs.declared.error.TableError.{TableError}
use Rattle.hs_table_text.specs.declared.error.TableError.TheVariants as table
use Rattle.hs_settings.specs.Settings.{Gives, IsError, IsOf, IsPart, IsText, as_table, onward, table_error}
use Rattle.hs_settings.specs.declared.settings.SettingsError.{SettingsError}
use Rattle.hs_settings.specs.declared.settings.SettingsError.TheVariants.{Missing, Unread, Limit, NotToml, BadVersion, BadEntry, BadScript, BadInput, NoMemory}

-- a text has no more lines than bytes
pub few_lines : (text : List ℕ) → length text ≤ 4194304 → count_by (λ byte. byte == 10) text < 4294967295
few_lines text few = omega (arith, few, count_by-le-length (λ byte. byte == 10) text)

-- why a text is no table
pub no_table : (wanted : Result (List Routine) TableError) (error : TableError) → Answers {X = List Routine} (λ it. it) wanted (Err error)
    → Gives (as_table wanted) (Err (table_error error))
no_table wanted table.NotToml is = rw is refl
no_table wanted table.BadVersion is = rw is refl
no_table wanted (table.BadEntry name) is = rw is refl
no_table wanted table.NoMemory is = tt

-- an error that is wanted is given
gives_error : (A : Type 0) (wanted error : SettingsError) → IsError wanted error → Gives {A = A} (Err wanted) (Err error)
gives_error A wanted (Missing name) is = ap Err is
gives_error A wanted (Unread name) is = ap Err is
gives_error A wanted (Limit limit) is = ap Err is
gives_error A wanted NotToml is = ap Err is
gives_error A wanted BadVersion is = ap Err is
gives_error A wanted (BadEntry name) is = ap Err is
gives_error A wanted (BadScript line) is = ap Err is
gives_error A wanted (BadInput line) is = ap Err is
gives_error A wanted NoMemory is = tt

module _ {F A : Type 0} (leads : F → Read → F → Type 0) (listing : F → Option Listing) (counts : F → Counts) (old new : F) (name : List ℕ)
    (what : List ℕ → Result A SettingsError) where
  -- the read of a text, of which this is so
  abbrev pub ReadOnce : Result (Vec ℕ Global) SettingsError → Type 0
  ReadOnce result = (read : Read) × Makes leads listing counts old read new × IsOf name read × IsText read result

  -- what the text is, the read comes to
  pub part_of : (text : Vec ℕ Global) (result : Result A SettingsError) → ReadOnce (Ok text) → Gives (what text.items) result
      → MadeReads (Makes leads listing counts) old new (λ reads. IsPart name what reads result)
  part_of text result once gives = (
    once.0 ∷ [],
    (new, once.1, refl),
    (once.0, refl, once.2, rw once.3 gives),
  )

  -- a read that gave none comes to none
  pub no_part : (error : SettingsError) → ReadOnce (Err error) → MadeReads (Makes leads listing counts) old new (λ reads. IsPart name what reads (Err error))
  no_part error once = (
    once.0 ∷ [],
    (new, once.1, refl),
    (
      once.0,
      refl,
      once.2,
      subst (λ (it : Result (List ℕ) SettingsError). Gives (onward it what) (Err error)) (sym once.3.1) (gives_error A once.3.0 error once.3.2),
    ),
  )
