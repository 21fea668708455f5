use Rattle.std.proofs.Common.{◌≡◌, drop}
use Rattle.hs_expressions.specs.Roles.{are_shaped}
use Rattle.hs_expressions.proofs.roles.are_shaped.Given as goal

-- the shapes that are left decide
abbrev pub invariant-shapes : goal.invariant-shapes
invariant-shapes l = are_shaped l.types (drop l.shape-index l.shapes) l.list ≡ are_shaped l.types l.shapes l.fn.parameters
