-- A printed text is read back.
use Rattle.std.proofs.Common.{◌≡◌, ℕ, List, Some, Ok}
use Rattle.std.specs.Str.{IsUtf8}
use Rattle.std.proofs.lemmas.Str.{is_utf8-from_IsUtf8}
use Rattle.toml.specs.Data.{Members}
use Rattle.toml.specs.Parse.{parse_document}
use Rattle.hs_table.specs.declared.routine.Routine.{Routine}
use Rattle.hs_table.specs.Tables.{IsTable}
use Rattle.hs_table_text.specs.BackLaws.{tree_back}
use Rattle.hs_table_text.specs.Texts.{reading}
use Rattle.hs_table_text.specs.Trees.{root_tree, AreSmall}

-- a text that TOML reads as the tree of a table is read as this table
pub read_back : (bytes : List ℕ) (root : Members) (routines : List Routine) → IsUtf8 bytes → parse_document bytes ≡ Some root
    → root ≡ root_tree routines → IsTable routines → AreSmall routines → reading bytes ≡ Ok routines
read_back bytes root routines text parsed tree is small =
    rw (is_utf8-from_IsUtf8 bytes text, parsed, tree) (tree_back routines is small)
