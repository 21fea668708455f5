use Rattle.std.proofs.Common.{◌≡◌, ◌++◌, drop}
use Rattle.hs_typer.specs.Declarators.{pointers_of}
use Rattle.hs_typer.proofs.declarators.with_pointers.Given as goal

-- the pointers that are left come after those so far
abbrev pub invariant-pointers : goal.invariant-pointers
invariant-pointers l =
    l.its.items ++ pointers_of (drop l.pointer-index l.pointers) ≡ l.fn.derivations.items ++ pointers_of l.pointers
