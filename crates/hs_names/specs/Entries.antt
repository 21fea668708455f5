-- How declarations are kept: oldest first, each with the place of the one that it hides.
--     declarations_of entries       the declarations, newest first
--     named_at level it             a name, declared in the scope of that level
--     place name its                how many declarations are older than the newest of that name, so its place among the entries
--     IsKept places entries         the index has the place of each name, and each entry that of what it hides
use Rattle.std.specs.Prelude.{◌≡◌, ◌≤◌, ℕ, nat_eq, List, [], ◌∷◌, length, Option, Some, None, if◌then◌else◌}
use Rattle.std.specs.Cmp.Lexicographic.{pointwise}
use Rattle.hs_index.specs.Index.{at}
use Rattle.hs_names.specs.Scopes.{Declared}
use Rattle.hs_names.specs.declared.scopes.Entry.{Entry}
use Rattle.hs_names.specs.declared.scopes.Named.{Named}

module _ {E : Type 0} where
  abbrev pub declaration : Entry E → Declared E
  declaration it = record { name = it.name.items; entity = it.entity; level = it.level }

  -- declared in the scope of that level
  abbrev pub named_at : ℕ → Named E → Declared E
  named_at level it = record { name = it.name.items; entity = it.entity; level = level }

  -- the declarations of these entries, in front of older ones
  abbrev pub onto : List (Declared E) → List (Entry E) → List (Declared E)
  onto older [] = older
  onto older (it ∷ entries) = onto (declaration it ∷ older) entries

  abbrev pub declarations_of : List (Entry E) → List (Declared E)
  declarations_of entries = onto [] entries

  abbrev pub place : List ℕ → List (Declared E) → Option ℕ
  place name [] = None
  place name (it ∷ older) = if pointwise nat_eq it.name name then Some (length older) else place name older

  -- each entry has the place of the one that it hides
  abbrev pub Hides : List (Declared E) → List (Entry E) → Type 0
  Hides older [] = Unit {0}
  Hides older (it ∷ entries) = (it.hidden ≡ place it.name.items older) × Hides (declaration it ∷ older) entries

  pub record IsKept (places : List (List ℕ × ℕ)) (entries : List (Entry E)) : Type 0 where
    pub index : (name : List ℕ) → at name places ≡ place name (declarations_of entries)
    pub hidden : Hides [] entries
    pub few : length entries ≤ 4000000000
