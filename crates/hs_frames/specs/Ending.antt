-- The objects of a call that ends (own). `hs_meaning` says it of the machine (`without_objects`).
--     ended locals objects       the objects, of which those of these variables have ended
--     without_ended              the machine without them has these objects
use Rattle.std.proofs.Common.{refl}
use Rattle.std.specs.Prelude.{◌≡◌, List, [], ◌∷◌, slice_set}
use Rattle.hs_meaning.specs.Frames.{without_objects}
use Rattle.hs_meaning.specs.Machine.{Machine, Object, Binding, slot, object_at, ended_object, with_object}

-- one after the other
abbrev pub ended : List Binding → List Object → List Object
ended [] objects = objects
ended (slot value ∷ rest) objects = ended rest objects
ended (object_at place ∷ rest) objects = ended rest (slice_set objects place ended_object)

-- nothing else of the machine changes
pub without_ended : (locals : List Binding) (machine : Machine) → without_objects locals machine ≡ record machine { objects = ended locals machine.objects }
without_ended [] machine = refl
without_ended (slot value ∷ rest) machine = without_ended rest machine
without_ended (object_at place ∷ rest) machine = without_ended rest (with_object place ended_object machine)
