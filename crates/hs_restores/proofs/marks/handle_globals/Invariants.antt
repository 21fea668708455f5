use Rattle.std.proofs.Common.{◌≡◌, ◌++◌, drop}
use Rattle.hs_restores.specs.Marks.{handle_globals}
use Rattle.hs_restores.proofs.marks.handle_globals.Given as goal

-- those that are left come after what is done
abbrev pub invariant-globals : goal.invariant-globals
invariant-globals l =
    l.marks.items ++ handle_globals l.types l.ops l.place (drop l.place l.globals) ≡ handle_globals l.types l.ops 0 l.globals
