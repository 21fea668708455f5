-- The object that a variable is.
use Rattle.std.proofs.Common.{◌≡◌, Some, refl}
use Rattle.std.specs.Option.{unwrap_or}
use Rattle.hs_meaning.specs.Machine.{Binding, slot, object_at}
use Rattle.hs_meaning.specs.Objects.{object_in}
use Rattle.hs_state.specs.Bindings.{place_of}

-- its number, or 0 of a slot
pub object_in_place : (binding : Binding) → unwrap_or (place_of binding) 0 ≡ object_in (Some binding)
object_in_place (slot value) = refl
object_in_place (object_at place) = refl
