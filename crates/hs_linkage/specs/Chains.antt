-- How declarations with linkage are kept: oldest first, each with the place of the next older one of its name.
--     newest_first entries          the entries, newest first
--     externals_of its              their declarations
--     place name its                how many entries are older than the newest one of that name, so its place among the entries
--     entry_at place entries        the entry at that place, if there is one
--     IsChained its                 each entry has the place of the next older one of its name
--     IsKept places entries         and the index has the place of the newest one of each name
use Rattle.std.specs.Prelude.{◌≡◌, ◌≤◌, ℕ, nat_eq, List, [], ◌∷◌, length, slice_get, Option, Some, None, if◌then◌else◌}
use Rattle.std.specs.Cmp.Lexicographic.{pointwise}
use Rattle.hs_linkage.specs.declared.externals.Entry.{Entry}
use Rattle.hs_linkage.specs.declared.externals.External.{External}
use Rattle.hs_index.specs.Index.{at}

-- these entries, in front of older ones
abbrev pub onto : List Entry → List Entry → List Entry
onto older [] = older
onto older (it ∷ entries) = onto (it ∷ older) entries

-- all of them
abbrev pub newest_first : List Entry → List Entry
newest_first entries = onto [] entries

abbrev pub externals_of : List Entry → List External
externals_of [] = []
externals_of (it ∷ older) = it.external ∷ externals_of older

abbrev pub place : List ℕ → List Entry → Option ℕ
place name [] = None
place name (it ∷ older) = if pointwise nat_eq it.external.name name then Some (length older) else place name older

abbrev pub entry_at : Option ℕ → List Entry → Option Entry
entry_at None entries = None
entry_at (Some number) entries = slice_get entries number

abbrev pub IsChained : List Entry → Type 0
IsChained [] = Unit {0}
IsChained (it ∷ older) = (it.older ≡ place it.external.name older) × IsChained older

pub record IsKept (places : List (List ℕ × ℕ)) (entries : List Entry) : Type 0 where
  pub index : (name : List ℕ) → at name places ≡ place name (newest_first entries)
  pub chained : IsChained (newest_first entries)
  pub few : length entries ≤ 4000000000
