use Rattle.std.proofs.Common.{◌≡◌, ◌++◌, drop}
use Rattle.hs_restores.specs.Marks.{handle_locals}
use Rattle.hs_restores.proofs.marks.handle_locals.Given as goal

-- those that are left come after what is done
abbrev pub invariant-variables : goal.invariant-variables
invariant-variables l = l.marks.items ++ handle_locals l.types (drop l.it-index l.variables) ≡ handle_locals l.types l.variables
