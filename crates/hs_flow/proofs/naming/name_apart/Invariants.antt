use Rattle.std.proofs.Common.{◌≡◌, ◌&&◌, drop}
use Rattle.hs_flow.specs.Given.{any_from, names_slot}
use Rattle.hs_flow.proofs.naming.name_apart.Given as goal

-- the names that are left decide the same
abbrev pub invariant-names : goal.invariant-names
invariant-names g l =
    any_from l.k (drop l.k l.names) (λ k y. names_slot (g.A.Around.given l.around) l.slot k y && (g.A.Around.given l.around).distinct l.h k)
    ≡ any_from 0 (g.A.Around.given l.around).names (λ k y. names_slot (g.A.Around.given l.around) l.slot k y && (g.A.Around.given l.around).distinct l.h k)
