-- What a variable of the running machine is.
--     binding_of home       the binding of the definitions
--     place_of binding      the number of the object that it is, if it is one
use Rattle.std.specs.Prelude.{ℕ, Option, Some, None}
use Rattle.hs_meaning.specs.Machine.{Binding, slot, object_at}
use Rattle.hs_state.specs.declared.binding.Home.{Home}
use Rattle.hs_state.specs.declared.binding.Home.TheVariants as home

-- by the words in which it is kept
abbrev pub binding_of : Home → Binding
binding_of home.Empty = slot None
binding_of (home.Slot value) = slot (Some value)
binding_of (home.Object place) = object_at place

-- a slot has none
abbrev pub place_of : Binding → Option ℕ
place_of (slot value) = None
place_of (object_at place) = Some place
