-- The rows that the code makes the built-in table from. A row has the name, the role, whether the routine both moves and
-- purges or does neither, and the parameter that it fills.
use Rattle.hs_table.specs.declared.built_in_table.Row.{Row}
use Rattle.hs_table.specs.declared.routine.Routine.{Routine}

-- the routine of a row
abbrev pub routine_of : Row → Routine
routine_of row = record { name = row.0.now; role = row.1; moves = row.2; purges = row.2; fills = row.3; size = 0 }
