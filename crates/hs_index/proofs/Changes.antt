-- What a map of names has at each name, after a change at one of them.
use Rattle.std.proofs.Common.{◌≡◌, ℕ, Bool, true, false, List, [], ◌∷◌, Option, nat_eq, refl, sym, subst, ◌∙◌, if◌then◌else◌}
use Rattle.std.specs.Cmp.Lexicographic.{pointwise, bytes_decides, nat_list_eq_equiv}
use Rattle.std.specs.Map.{lookup, KeepsOthers, IsKeyTest, AreApart}
use Rattle.hs_base.specs.Keys.{Key, has_bytes, are_alike, lacks_other}
use Rattle.hs_index.specs.Index.{by_bytes, at}

-- the first entry of a name, whichever way the entries are seen
pub at-by_bytes : (name : List ℕ) (entries : List (Key × ℕ)) → at name (by_bytes entries) ≡ lookup (has_bytes name) entries
at-by_bytes name [] = refl
at-by_bytes name (entry ∷ entries) = rw (at-by_bytes name entries) refl

-- the other names keep what they had
kept : (name other : List ℕ) (old new : List (Key × ℕ)) → KeepsOthers are_alike (has_bytes name) old new → pointwise nat_eq name other ≡ false
    → at other (by_bytes new) ≡ at other (by_bytes old)
unfolding KeepsOthers
kept name other old new others differ =
    let is_key : IsKeyTest are_alike (has_bytes other) = λ x y here. nat_list_eq_equiv.congr other x.items y.items here in
    let is_apart : AreApart (has_bytes name) (has_bytes other) = λ key here. lacks_other name other key differ here in
    at-by_bytes other new ∙ others (has_bytes other) is_key is_apart ∙ sym (at-by_bytes other old)

changed-if : (name other : List ℕ) (old new : List (Key × ℕ)) (value : Option ℕ) (same : Bool) → pointwise nat_eq name other ≡ same
    → lookup (has_bytes name) new ≡ value → KeepsOthers are_alike (has_bytes name) old new
    → at other (by_bytes new) ≡ (if same then value else at other (by_bytes old))
changed-if name other old new value true alike here others =
    subst (λ name. at name (by_bytes new) ≡ value) ((bytes_decides name other).0 alike) (at-by_bytes name new ∙ here)
changed-if name other old new value false differ here others = kept name other old new others differ

-- that name has the new value, and the others keep theirs
pub changed : (name : List ℕ) (old new : List (Key × ℕ)) (value : Option ℕ) → lookup (has_bytes name) new ≡ value
    → KeepsOthers are_alike (has_bytes name) old new
    → (other : List ℕ) → at other (by_bytes new) ≡ (if pointwise nat_eq name other then value else at other (by_bytes old))
changed name old new value here others other = changed-if name other old new value (pointwise nat_eq name other) refl here others
