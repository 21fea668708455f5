use Rattle.std.proofs.Common.{◌≡◌, ◌++◌, drop}
use Rattle.hs_restores.specs.Marks.{assigned_globals}
use Rattle.hs_rows.specs.Sets.{has}
use Rattle.hs_restores.proofs.slots.assigned_globals.Given as goal

-- those that are left come after what is done
abbrev pub invariant-globals : goal.invariant-globals
invariant-globals l =
    l.marks.items ++ assigned_globals (has l.assigned l.number) l.place (drop l.place l.globals)
    ≡ assigned_globals (has l.assigned l.number) 0 l.globals
