use Rattle.std.proofs.Common.{◌≡◌, false, string_bytes, refl, sym, ◌∙◌}
use Rattle.std.proofs.lemmas.Bool.{true≢false}
use Rattle.std.proofs.lemmas.Str.{IsUtf8-string_bytes}
use Rattle.toml.specs.Data.{members_have_valid_dates}
use Rattle.toml.specs.View.{table_view}
use Rattle.hs_table_text.specs.BackLaws.{tree_dates, tree_depth}
use Rattle.hs_table_text.specs.Trees.{root_tree}
use Rattle.hs_table_text.proofs.Printed.{read_back}
use Rattle.hs_table_text.proofs.printer.print.Goals as goal

-- the tree is not deep, so TOML reads it back, and it is the tree of this table alone
pub returns-in-Ok-clause-reads_back : goal.returns-in-Ok-clause-reads_back
returns-in-Ok-clause-reads_back c =
    let tree : table_view c.in_ok-root.root ≡ root_tree c.args.table.now = rw (← c.routines.ensures.lends) c.in_ok-root.ensures.tree in
    let small = rw c.routines.ensures.lends at c.in_ok-root.ensures.small in
    let parsed = c.in-Ok.ensures.reads_back (rw tree (tree_depth c.args.table.now)) in
    rw c.into_bytes.ensures.value
    (read_back (string_bytes c.in-Ok.text) (table_view c.in_ok-root.root) c.args.table.now (IsUtf8-string_bytes c.in-Ok.text) parsed tree
    c.routines.ensures.is_table small)

-- the tree has no dates
pub unreachable-requires : goal.unreachable-requires
unreachable-requires c =
    let tree : table_view c.in_ok-root.root ≡ root_tree c.args.table.now = rw (← c.routines.ensures.lends) c.in_ok-root.ensures.tree in
    let dates = c.in-Err-DateInvalid.ensures.dates in
    let bad : members_have_valid_dates (table_view c.in_ok-root.root) ≡ false = dates.0 (rw c.in-Err-DateInvalid.field-0-is refl) in
    true≢false (sym (rw tree (tree_dates c.args.table.now)) ∙ bad)
