-- What expressions ask of the machine, other than operations, on a heap that never moves.
--     used_still               a value that is used as a number
--     variable_still           where a variable is
--     address_still            the address of an object
--     returned_still           the value that a function returned
use Rattle.std.proofs.Common.{Option, Some, None, refl}
use Rattle.hs_meaning.specs.Evaluation.{Flow, onward, breaks, continues, returned, Location, in_slot, at_address, located, variable_at, address_of, returned_value}
use Rattle.hs_meaning.specs.Laws.Unmoved.{IsUnmoved, IsUnmovedLocation, IsUnmovedFlow, IsStillMachine, IsStillDone}
use Rattle.hs_meaning.specs.Laws.Unmoved.Fine.{Anything, number_fine, by_stop_still}
use Rattle.hs_meaning.specs.Machine.{Machine, Binding, slot, object_at, binding_of}
use Rattle.hs_meaning.specs.Steps.{number_used}
use Rattle.hs_meaning.specs.Values.{Value, bits_in, number_stop}
use Rattle.hs_tree.specs.declared.head.Variable.{Variable}

-- a value that is used as a number
pub used_still : (value : Value) (machine : Machine) → IsStillMachine machine → IsStillDone Anything (number_used value machine)
used_still value machine still = by_stop_still Anything (number_stop value) (bits_in value) machine machine (number_fine value) tt still

located_still : (variable : Variable) (binding : Option Binding) (machine : Machine) → IsStillMachine machine
    → IsStillDone IsUnmovedLocation (located variable binding machine)
located_still variable None machine still = λ is. is
located_still variable (Some (slot value)) machine still = (tt, still)
located_still variable (Some (object_at place)) machine still = (refl, still)

-- where a variable is
pub variable_still : (variable : Variable) (machine : Machine) → IsStillMachine machine → IsStillDone IsUnmovedLocation (variable_at variable machine)
variable_still variable machine still = located_still variable (binding_of variable machine) machine still

-- the address of an object
pub address_still : (its : Location) (machine : Machine) → IsUnmovedLocation its → IsStillMachine machine
    → IsStillDone IsUnmoved (address_of its machine)
address_still (in_slot variable) machine is still = λ is. is
address_still (at_address its) machine is still = (is, still)

-- the value that a function returned
pub returned_still : (flow : Flow) (machine : Machine) → IsUnmovedFlow flow → IsStillMachine machine
    → IsStillDone IsUnmoved (returned_value flow machine)
returned_still (returned value at) machine is still = (is, still)
returned_still onward machine is still = λ is. is
returned_still breaks machine is still = λ is. is
returned_still continues machine is still = λ is. is
