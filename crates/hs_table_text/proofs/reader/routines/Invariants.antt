use Rattle.std.proofs.Common.{◌≡◌}
use Rattle.toml.specs.View.{members_view, table_view}
use Rattle.hs_table_text.specs.Texts.{routines_in}
use Rattle.hs_table_text.proofs.Fronts.{after}
use Rattle.hs_table_text.proofs.reader.routines.Given as goal

-- the routines so far, and those of the entries that are left
abbrev pub invariant-entries : goal.invariant-entries
invariant-entries l = routines_in (table_view l.entries) ≡ after l.routines.items (routines_in (members_view l.name-iterator))
