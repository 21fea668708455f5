-- The three kinds of steps of a fact at a call (own).
--     Callee                                  what is known of the function that is called
--     over_of callee given fact               the facts at the next operation that go over the call
--     enter_of parameters given fact          the fact at the start of the function
--     leave_of callee given caller exit       the fact at the next operation, if the function returned with `exit`
-- Arguments, and globals that the function may assign, go through the function alone. Classes and other globals go both ways, and locals and operands
-- of the caller go over the call alone. `caller` is the fact with which the call was entered.
use Rattle.std.specs.Prelude.{ℕ, ◌-◌, nat_lt, Bool, true, false, not, ◌&&◌, List, [], ◌∷◌, ◌++◌, length, slice_get, Option, Some, None, if◌then◌else◌}
use Rattle.hs_flow.specs.Given.{Given, is_name_locked}
use Rattle.hs_flow.specs.Next.{also_if, at_slot}
use Rattle.hs_flow.specs.declared.fact.Fact.{Fact}
use Rattle.hs_flow.specs.declared.fact.FactStatus.{FactStatus}
use Rattle.hs_flow.specs.declared.fact.FactStatus.TheVariants as status
use Rattle.hs_flow.specs.declared.fact.Slot.{Slot}
use Rattle.hs_flow.specs.declared.fact.Slot.TheVariants as slot
use Rattle.hs_tree.specs.declared.head.Variable.{Variable}
use Rattle.hs_tree.specs.declared.head.Variable.TheVariants as name

-- Its effects, the globals that it may assign, and where each argument goes, in their order: to a parameter that is a slot, or to the class of one that
-- is an object, or nowhere.
pub record Callee : Type 0 where
  pub moves : Bool
  pub purges : Bool
  pub unlocks : Bool
  pub marks : Bool
  pub assigns : ℕ → Bool
  pub parameters : List (Option Slot)

-- the function may assign the variable
abbrev pub assigned : Callee → Variable → Bool
assigned callee (name.Global place) = callee.assigns place
assigned callee (name.Local place) = false

-- and the one that is there
abbrev pub assigned_in : Callee → Option Variable → Bool
assigned_in callee None = false
assigned_in callee (Some x) = assigned callee x

-- it may assign the name of that number
abbrev pub assigns_name : Callee → Given → ℕ → Bool
assigns_name callee given h = assigned_in callee (slice_get given.names h)

-- the place of the first argument, where the result will be
abbrev pub base_of : List (Option Slot) → Given → ℕ
base_of parameters given = given.places - length parameters

-- ---- over

-- the lock of the name lasts
abbrev pub is_kept : Callee → Given → ℕ → Bool
is_kept callee given h = not callee.unlocks && given.locked h

-- the lock of a name of the slot lasts
abbrev pub is_slot_kept : Callee → Given → Slot → Bool
is_slot_kept callee given of = not callee.unlocks && is_name_locked given of

-- fresh from the name, unless the function may assign it
abbrev pub fresh_or_loose : Bool → ℕ → FactStatus
fresh_or_loose true h = status.Loose
fresh_or_loose false h = status.Fresh h

-- held, if it is locked
abbrev pub held_if : Bool → FactStatus
held_if true = status.Held
held_if false = status.Outer

-- What the function may do to a slot that it does not get: mark its block, purge it, move it, unlock it, or assign the name from which it is fresh.
abbrev pub passed : Callee → Given → FactStatus → Slot → List Fact
passed callee given status.IsHandle of =
    at_slot status.IsHandle of
    ∷ (also_if callee.marks status.Purgeable of
    ++ also_if (callee.marks && callee.purges && not (is_slot_kept callee given of)) status.Hollow of)
passed callee given status.Purgeable of =
    at_slot status.Purgeable of ∷ also_if (callee.purges && not (is_slot_kept callee given of)) status.Hollow of
passed callee given (status.Fresh h) of =
    at_slot (fresh_or_loose (assigns_name callee given h) h) of ∷ also_if (callee.moves && not (is_kept callee given h)) status.Stale of
passed callee given status.Held of =
    at_slot (held_if (not callee.unlocks)) of ∷ also_if (callee.moves && callee.unlocks) status.Stale of
passed callee given status.Outer of = at_slot status.Outer of ∷ also_if callee.moves status.Stale of
passed callee given status.Loose of = at_slot status.Loose of ∷ also_if callee.moves status.Stale of
passed callee given other of = at_slot other of ∷ []

-- arguments do not go over the call, and neither do globals that the function may assign
abbrev pub goes_over : Callee → Given → Slot → Bool
goes_over callee given (slot.Place place) = nat_lt place (base_of callee.parameters given)
goes_over callee given (slot.Variable v) = not (assigned callee v)
goes_over callee given _ = true

-- a fact that goes over the call
abbrev pub over_of : Callee → Given → Fact → List Fact
over_of callee given fact = if goes_over callee given fact.slot then passed callee given fact.status fact.slot else []

-- ---- enter

-- a fact of the slot, if there is one
abbrev pub at_some : FactStatus → Option Slot → Option Fact
at_some its None = None
at_some its (Some of) = Some (at_slot its of)

-- where the argument goes, if there is such a parameter
abbrev pub to_parameter : Option (Option Slot) → Option Slot
to_parameter None = None
to_parameter (Some its) = its

-- the slot of the function that gets the value: an argument goes to its parameter, and globals and classes are the same; nothing else enters
abbrev pub entered : List (Option Slot) → Given → Slot → Option Slot
entered parameters given slot.Nothing = Some slot.Nothing
entered parameters given slot.Answer = None
entered parameters given (slot.Variable (name.Global place)) = Some (slot.Variable (name.Global place))
entered parameters given (slot.Variable (name.Local place)) = None
entered parameters given (slot.Place place) =
    if nat_lt place (base_of parameters given) then None else to_parameter (slice_get parameters (place - base_of parameters given))
entered parameters given (slot.Class class) = Some (slot.Class class)

-- A pointer of the caller is held if its handle is locked. That a byte is the state of a purgeable block is not known in the function.
abbrev pub entering : List (Option Slot) → Given → FactStatus → Slot → Option Fact
entering parameters given (status.Fresh h) of = at_some (held_if (given.locked h)) (entered parameters given of)
entering parameters given status.Loose of = at_some status.Outer (entered parameters given of)
entering parameters given status.SavedPurgeable of = None
entering parameters given other of = at_some other (entered parameters given of)

-- the fact at the start of the function
abbrev pub enter_of : List (Option Slot) → Given → Fact → Option Fact
enter_of parameters given fact = entering parameters given fact.status fact.slot

-- ---- leave

-- the slot of the caller that gets the value: the result is on top, and globals and classes are the same; nothing else leaves
abbrev pub left : Callee → Given → Slot → Option Slot
left callee given slot.Nothing = Some slot.Nothing
left callee given slot.Answer = Some (slot.Place (base_of callee.parameters given))
left callee given (slot.Variable (name.Global place)) = Some (slot.Variable (name.Global place))
left callee given (slot.Variable (name.Local place)) = None
left callee given (slot.Place place) = None
left callee given (slot.Class class) = Some (slot.Class class)

-- The pointer has the status that it had in the caller. It has no name any more, if the function may assign the variable.
abbrev pub back : Callee → Given → FactStatus → FactStatus
back callee given (status.Fresh h) = fresh_or_loose (assigns_name callee given h) h
back callee given other = other

-- A pointer that may have been unlocked stays so, if the caller held it for a caller of its own.
abbrev pub back_outer : Callee → Given → FactStatus → FactStatus
back_outer callee given status.Held = status.Outer
back_outer callee given other = back callee given other

-- A pointer that is fresh from a name of the function has no name in the caller. A pointer that came from the caller is what it was there.
abbrev pub leaving : Callee → Given → FactStatus → FactStatus → Slot → Option Fact
leaving callee given caller (status.Fresh h) of = at_some status.Loose (left callee given of)
leaving callee given caller status.Held of = at_some (back callee given caller) (left callee given of)
leaving callee given caller status.Outer of = at_some (back_outer callee given caller) (left callee given of)
leaving callee given caller status.SavedPurgeable of = None
leaving callee given caller other of = at_some other (left callee given of)

-- the fact after the call, if it was entered with `caller` and returned with `exit`
abbrev pub leave_of : Callee → Given → Fact → Fact → Option Fact
leave_of callee given caller exit = leaving callee given caller.status exit.status exit.slot
