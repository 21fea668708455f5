use Rattle.std.proofs.Common.{◌≡◌, Ok}
use Rattle.hs_typer.specs.Declarators.{formed_onto, formed}
use Rattle.hs_typer.proofs.declarators.formed.Given as goal

-- the derivations that are left come onto the type so far
abbrev pub invariant-derivations : goal.invariant-derivations
invariant-derivations l =
    formed_onto l.at l.derivation-iterator.iter.rest.now (Ok (l.made, l.types)) ≡ formed l.at l.derivations l.fn.id l.fn.types
