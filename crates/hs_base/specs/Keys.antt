-- Texts as the keys of a map: the tests that find them, by their bytes.
--     has_bytes name key, are_alike first second      the key has these bytes, the two keys have the same
--     lacks_other                                     a key of one name has not another
use Rattle.std.proofs.Common.{◌≡◌, ℕ, Bool, true, false, List, Vec, Global, nat_eq, sym, ◌∙◌}
use Rattle.std.specs.Cmp.Lexicographic.{pointwise, nat_list_eq_equiv}

-- what a map of names is keyed by
abbrev pub Key : Type 0
Key = Vec ℕ Global

-- the key has these bytes
abbrev pub has_bytes : List ℕ → Key → Bool
has_bytes name key = pointwise nat_eq name key.items

-- the two keys have the same bytes
abbrev pub are_alike : Key → Key → Bool
are_alike first second = pointwise nat_eq first.items second.items

-- a key of one name has not another
pub lacks_other : (name other : List ℕ) (key : Key) → pointwise nat_eq name other ≡ false → has_bytes name key ≡ true → has_bytes other key ≡ false
lacks_other name other key differ here =
    nat_list_eq_equiv.symm other key.items ∙ sym (nat_list_eq_equiv.congr name key.items other here) ∙ differ
