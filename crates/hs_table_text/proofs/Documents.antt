-- Bytes that are no document, and the order of the keys of a table.
use Rattle.std.proofs.Common.{◌≡◌, ℕ, Bool, true, false, List, [], ◌∷◌, None, refl}
use Rattle.std.specs.Prelude.{if◌then◌else◌}
use Rattle.std.specs.List.Sorted.{IsStrictlySortedBy}
use Rattle.std.specs.Map.{keys_of}
use Rattle.std.specs.Str.{IsUtf8, is_utf8}
use Rattle.std.specs.String.{string_cmp}
use Rattle.std.proofs.lemmas.Bool.{and_from}
use Rattle.std.proofs.lemmas.Str.{IsUtf8-from_is_utf8}
use Rattle.toml.specs.Parse.{parse_document}
use Rattle.toml.specs.View.{members_view}
use Rattle.toml.proofs.Views.{Entry, is_before-sorted}
use Rattle.hs_table_text.specs.ReadingLaws.{keys_ascend}
use Rattle.hs_table_text.specs.Texts.{document_in}

-- bytes that are no UTF-8, or that TOML refuses, are no document
pub no_document : (bytes : List ℕ) → (IsUtf8 bytes → parse_document bytes ≡ None) → document_in bytes ≡ None
no_document bytes refused = of_test (is_utf8 bytes) (λ yes. refused (IsUtf8-from_is_utf8 bytes yes))
  where
    of_test : (test : Bool) → (test ≡ true → parse_document bytes ≡ None) → (if test then parse_document bytes else None) ≡ None
    of_test true refused_so = refused_so refl
    of_test false refused_so = refl

-- the keys of a table of TOML ascend
pub keys_ascend-sorted : (entries : List Entry) → IsStrictlySortedBy string_cmp (keys_of entries) → keys_ascend (members_view entries) ≡ true
unfolding IsStrictlySortedBy
keys_ascend-sorted [] sorted = refl
keys_ascend-sorted (entry ∷ entries) sorted =
    and_from _ _ (is_before-sorted entry.0 entries sorted.0) (keys_ascend-sorted entries sorted.1)
