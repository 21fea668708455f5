use Rattle.std.proofs.Common.{◌≡◌, map, take}
use Rattle.hs_table.specs.Rows.{routine_of}
use Rattle.hs_table.proofs.built_in_table.routines_of.Given as goal

-- the routines so far
abbrev pub invariant-rows : goal.invariant-rows
invariant-rows l = l.routines.items ≡ map routine_of (take l.row-index l.rows)
