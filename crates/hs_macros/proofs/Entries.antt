-- A list of entries as the finite map that contracts see: both answer a name alike, before and after a change.
use Rattle.std.proofs.Common.{◌≡◌, ℕ, ◌+◌, Bool, true, false, not, cond, List, [], ◌∷◌, length, position, Option, None, Some, map as map_list, nat_eq, nat_lt, refl, sym, ap, subst, ◌∙◌}
use Rattle.std.specs.List.{position_or_len}
use Rattle.std.specs.Str.{bytes_eq}
use Rattle.std.proofs.lemmas.List.{length-map}
use Rattle.std.specs.Ordering.{nat_cmp, eq_by_cmp}
use Rattle.std.specs.Cmp.Lexicographic.{slice_cmp, pointwise, bytes_decides, nat_list_cmp_total, nat_list_eq_equiv, texts_ties}
use Rattle.std.specs.FinMap as map
use Rattle.std.specs.Map.{lookup, KeepsOthers, IsKeyTest, AreApart}
use Rattle.hs_base.specs.Keys.{Key, has_bytes, are_alike, lacks_other}
use Rattle.hs_macros.specs.Numbers.{number_in}

-- the order of the finite map tells names apart by their bytes
tied : (name other : List ℕ) → pointwise nat_eq name other ≡ eq_by_cmp (slice_cmp nat_cmp) other name
tied name other = nat_list_eq_equiv.symm name other ∙ texts_ties other name

module _ {X : Type 0} where
  -- the entries by their keys' bytes
  abbrev pub by_bytes : List (Key × X) → List (List ℕ × X)
  by_bytes entries = map_list {B = List ℕ × X} (λ (entry : Key × X). (entry.0.items, entry.1)) entries

  -- the entries as a finite map
  abbrev pub as_map : List (Key × X) → map.FinMap (slice_cmp nat_cmp) X
  as_map entries = map.from_entries (by_bytes entries)

  -- the first entry of a name is the same, whichever test finds it
  lookup-by_bytes : (name : List ℕ) (entries : List (Key × X)) → lookup (has_bytes name) entries ≡ map.find (slice_cmp nat_cmp) name (by_bytes entries)
  lookup-by_bytes name [] = refl
  lookup-by_bytes name (entry ∷ entries) = rw (texts_ties name entry.0.items, lookup-by_bytes name entries)

  -- what the map has at a name is what a look-up finds
  pub get-as_map : (name : List ℕ) (entries : List (Key × X)) → map.get (as_map entries) name ≡ lookup (has_bytes name) entries
  get-as_map name entries = map.get-from_entries nat_list_cmp_total (by_bytes entries) name ∙ sym (lookup-by_bytes name entries)

  -- the number of a name is the index that a look-up finds
  pub number_in-entries : (name : List ℕ) (entries : List (Key × X))
      → number_in (map_list (λ (entry : Key × X). entry.0.items) entries) name ≡ position (has_bytes name) (map_list (λ (entry : Key × X). entry.0) entries)
  number_in-entries name entries =
      let texts : List (List ℕ) = map_list (λ (entry : Key × X). entry.0.items) entries in
      let keys : List Key = map_list (λ (entry : Key × X). entry.0) entries in
      let lengths : length texts ≡ length keys =
      length-map entries (λ (entry : Key × X). entry.0.items) ∙ sym (length-map entries (λ (entry : Key × X). entry.0)) in
      λ i. cond (nat_lt (first_at entries i) (lengths i)) (Some (first_at entries i)) None
    where
      -- both tests pass first at the same entry
      first_at : (entries' : List (Key × X))
          → position_or_len (bytes_eq name) (map_list (λ (entry : Key × X). entry.0.items) entries')
          ≡ position_or_len (has_bytes name) (map_list (λ (entry : Key × X). entry.0) entries')
      first_at [] = refl
      first_at (entry ∷ entries') = ap (λ (later : ℕ). cond (not (has_bytes name entry.0)) (1 + later) 0) (first_at entries')

  -- the other names keep what they had
  kept : (name other : List ℕ) (old new : List (Key × X)) → KeepsOthers are_alike (has_bytes name) old new → pointwise nat_eq name other ≡ false
      → map.get (as_map new) other ≡ map.get (as_map old) other
  unfolding KeepsOthers
  kept name other old new others differ =
      let is_key : IsKeyTest are_alike (has_bytes other) = λ x y here. nat_list_eq_equiv.congr other x.items y.items here in
      let is_apart : AreApart (has_bytes name) (has_bytes other) = λ key here. lacks_other name other key differ here in
      get-as_map other new ∙ others (has_bytes other) is_key is_apart ∙ sym (get-as_map other old)

  -- after a change at one name: that name has the new value, and the others keep theirs
  get-changed : (name other : List ℕ) (old new : List (Key × X)) (value : Option X) (same : Bool) → pointwise nat_eq name other ≡ same
      → lookup (has_bytes name) new ≡ value → KeepsOthers are_alike (has_bytes name) old new
      → map.get (as_map new) other ≡ cond same value (map.get (as_map old) other)
  get-changed name other old new value true alike here others =
      subst (λ name. map.get (as_map new) name ≡ value) ((bytes_decides name other).0 alike) (get-as_map name new ∙ here)
  get-changed name other old new value false differ here others = kept name other old new others differ

  -- two finite maps that answer each name alike are one
  one_map : (first second : map.FinMap (slice_cmp nat_cmp) X) → ((name : List ℕ) → map.get first name ≡ map.get second name) → first ≡ second
  one_map first second = map.same_map nat_list_cmp_total (map.slice_cmp-IsAntisymmetric map.nat_cmp-IsAntisymmetric) first second

  -- entries that lost a name are the map without it
  pub as_map-removed : (name : List ℕ) (old new : List (Key × X)) → lookup (has_bytes name) new ≡ None → KeepsOthers are_alike (has_bytes name) old new
      → as_map new ≡ map.remove (as_map old) name
  as_map-removed name old new here others = one_map _ _ (λ other.
      get-changed name other old new None _ (tied name other) here others ∙ sym (map.get-remove nat_list_cmp_total (as_map old) name other))

  -- entries that took a value at a name are the map with it
  pub as_map-inserted : (name : List ℕ) (value : X) (old new : List (Key × X)) → lookup (has_bytes name) new ≡ Some value
      → KeepsOthers are_alike (has_bytes name) old new → as_map new ≡ map.insert (as_map old) name value
  as_map-inserted name value old new here others = one_map _ _ (λ other.
      get-changed name other old new (Some value) _ (tied name other) here others ∙ sym (map.get-insert nat_list_cmp_total (as_map old) name value other))
