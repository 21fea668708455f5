use Rattle.std.proofs.Common.{◌≡◌, true}
use Rattle.std.specs.List.{list_all}
use Rattle.toml.specs.View.{table_view}
use Rattle.hs_table.specs.Tables.{is_right}
use Rattle.hs_table_text.specs.Building.{trees_onto}
use Rattle.hs_table_text.specs.Trees.{routine_trees, AreSmall}
use Rattle.hs_table_text.proofs.printer.routine_tables.Given as goal

-- The trees of the routines that are left are in front of those that are put. Those that are left are right, and the others
-- have small numbers.
abbrev pub invariant-routines : goal.invariant-routines
invariant-routines l = record {
  trees : trees_onto l.routine-iterator.iter.rest.now (table_view l.entries) ≡ routine_trees l.routines;
  right : list_all is_right l.routine-iterator.iter.rest.now ≡ true;
  small : AreSmall l.routine-iterator.iter.rest.now → AreSmall l.routines;
}
