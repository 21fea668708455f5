-- What is left decides.
use Rattle.std.proofs.Common.{◌≡◌, map}
use Rattle.hs_command.specs.Movers.{first_of}
use Rattle.hs_command.proofs.command.chosen.Given as goal

abbrev pub invariant-movers : goal.invariant-movers
invariant-movers g l =
    first_of l.wanted
    (map (λ it. let its = goal.Mover-dyn g (it.vtable, it.value) in
    record { number = its.number it.value; told = its.told it.value; after = its.after it.value }) l.mover-iterator.rest.items)
    ≡ first_of l.wanted
    (map (λ it. let its = goal.Mover-dyn g (it.vtable, it.value) in
    record { number = its.number it.value; told = its.told it.value; after = its.after it.value }) l.fn.movers.items)
