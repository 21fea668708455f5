-- One step of a fact, at an operation that is no call (own).
--     at_slot, at_each, also_if                 facts of a slot, of each of several slots, of a slot if so
--     renamed given v status                    Set: the status once the variable is set
--     loaded given top status slot              Load: what is derived from a handle
--     stepped from to status slot               Offset and Step: the pointer that is moved
--     shifted purges given status slot          Shift: what comes if blocks move or are purged
--     kept given role argument status slot      Routine: what becomes of a slot that is no argument
--     brought scope classes given number base status slot      Routine: what comes of an argument, or as control is here
--     routine_next scope classes given number base status slot      both
--     carried scope op depth fact               the fact at each slot where its value is
--     next_of scope classes given op fact       the facts after the operation, if the program has so many classes
-- A rule is a function of the status and the slot. A fact is there again at each slot where its value is (`slots_after`), and the rules add others.
-- A struct on the stack has no facts of its own: its pointers are known by their classes.
use Rattle.std.specs.Prelude.{ℕ, suc, ◌-◌, Bool, true, false, not, ◌&&◌, List, [], ◌∷◌, ◌++◌, map, slice_get, Option, Some, None, if◌then◌else◌}
use Rattle.hs_code.specs.Stacks.{Scope}
use Rattle.hs_code.specs.declared.op.Access.TheVariants as access
use Rattle.hs_code.specs.declared.op.Op.{Op}
use Rattle.hs_code.specs.declared.op.Op.TheVariants as op
use Rattle.hs_facts.specs.Names.{same_variable, taken, role_at, makes_handle}
use Rattle.hs_flow.specs.Given.{Given, apart, share_name, is_name_locked, least_name}
use Rattle.hs_flow.specs.Restorable.{purgeable_of, restorable}
use Rattle.hs_flow.specs.Slots.{is_below, is_place, slots_after}
use Rattle.hs_flow.specs.declared.fact.Fact.{Fact}
use Rattle.hs_flow.specs.declared.fact.FactStatus.{FactStatus}
use Rattle.hs_flow.specs.declared.fact.FactStatus.TheVariants as status
use Rattle.hs_flow.specs.declared.fact.Slot.{Slot}
use Rattle.hs_flow.specs.declared.fact.Slot.TheVariants as slot
use Rattle.hs_table.specs.declared.role.Role.{Role}
use Rattle.hs_table.specs.declared.role.Role.TheVariants as role
use Rattle.hs_tree.specs.declared.function.BoundRoutine.{BoundRoutine}
use Rattle.hs_tree.specs.declared.head.Variable.{Variable}

-- ---- facts

-- a fact of that slot
abbrev pub at_slot : FactStatus → Slot → Fact
at_slot its of = record { slot = of; status = its }

-- one of each slot
abbrev pub at_each : FactStatus → List Slot → List Fact
at_each its slots = map (at_slot its) slots

-- one, if so
abbrev pub also_if : Bool → FactStatus → Slot → List Fact
also_if true its of = at_slot its of ∷ []
also_if false its of = []

-- ---- Set

-- the variable is there and is that one
abbrev pub is_name_of : Option Variable → Variable → Bool
is_name_of None v = false
is_name_of (Some x) v = same_variable x v

-- A pointer that was loaded from the handle in a variable has no name once the variable is set.
abbrev pub renamed : Given → Variable → FactStatus → FactStatus
renamed given v (status.Fresh h) = if is_name_of (slice_get given.names h) v then status.Loose else status.Fresh h
renamed given v other = other

-- ---- Load

-- a pointer that is loaded from the handle in a name, or from one without a name
abbrev pub derived : Option ℕ → FactStatus
derived (Some h) = status.Fresh h
derived None = status.Loose

-- What is loaded from a handle in the top place is a pointer into its block: it is fresh from the least name of the place.
abbrev pub loaded : Given → ℕ → FactStatus → Slot → List Fact
loaded given top status.IsHandle of = also_if (is_place top of) (derived (least_name given top)) (slot.Place top)
loaded given top _ of = []

-- ---- Offset and Step

-- a status of pointers
abbrev pub is_of_pointers : FactStatus → Bool
is_of_pointers (status.Fresh h) = true
is_of_pointers status.Held = true
is_of_pointers status.Outer = true
is_of_pointers status.Loose = true
is_of_pointers status.Stale = true
is_of_pointers _ = false

-- the place of the pointer that Step takes: below the number, or on top of it
abbrev pub pointer_place : Bool → ℕ → ℕ
pointer_place true depth = depth - 2
pointer_place false depth = depth - 1

-- A pointer that is moved inside its block has the status that it had. What a handle is, the pointer that is made from it is not.
abbrev pub stepped : ℕ → ℕ → FactStatus → Slot → List Fact
stepped from to its of = also_if (is_of_pointers its && is_place from of) its (slot.Place to)

-- ---- Shift

-- the routine is there and may purge
abbrev pub purges_in : Option BoundRoutine → Bool
purges_in None = false
purges_in (Some it) = it.routine.purges

-- Blocks may move: a pointer is stale, unless its handle is locked. If the routine may purge, a purgeable block is purged, unless its handle is locked.
-- What a caller holds locked does not move.
abbrev pub shifted : Bool → Given → FactStatus → Slot → List Fact
shifted purges given (status.Fresh h) of = also_if (not (given.locked h)) status.Stale of
shifted purges given status.Outer of = at_slot status.Stale of ∷ []
shifted purges given status.Loose of = at_slot status.Stale of ∷ []
shifted purges given status.Purgeable of = also_if (purges && not (is_name_locked given of)) status.Hollow of
shifted purges given _ of = []

-- ---- Routine: slots that are no arguments

-- a role that may unlock a block, by whether the operation is a restore
abbrev pub unlocks_by : Bool → Option Role → Bool
unlocks_by restores (Some role.Unlock) = true
unlocks_by restores (Some role.Realloc) = true
unlocks_by restores (Some role.SetState) = not restores
unlocks_by restores _ = false

-- a role that may mark a block as purgeable
abbrev pub marks_by : Bool → Option Role → Bool
marks_by restores (Some role.Purge) = true
marks_by restores (Some role.SetState) = not restores
marks_by restores _ = false

-- a role that makes a block unpurgeable
abbrev pub unmarks_by : Option Role → Bool
unmarks_by (Some role.NoPurge) = true
unmarks_by _ = false

-- What a caller holds locked may be unlocked. A handle may be of the block that is marked, unless the two are apart. A handle is of no purgeable block,
-- if it has a name in common with the argument that is unmarked. Other facts stay.
abbrev pub kept : Given → Option Role → Slot → FactStatus → Slot → List Fact
kept given its argument status.Held of = at_slot (if unlocks_by given.restores its then status.Outer else status.Held) of ∷ []
kept given its argument status.IsHandle of =
    at_slot status.IsHandle of ∷ also_if (marks_by given.restores its && not (apart given of argument)) status.Purgeable of
kept given its argument status.Purgeable of = also_if (not (unmarks_by its && share_name given of argument)) status.Purgeable of
kept given its argument other of = at_slot other of ∷ []

-- ---- Routine: facts that come

-- the role reads a state byte
abbrev pub reads_state : Option Role → Bool
reads_state (Some role.GetState) = true
reads_state _ = false

-- the role puts one
abbrev pub sets_state : Option Role → Bool
sets_state (Some role.SetState) = true
sets_state _ = false

-- the fact is about control alone
abbrev pub is_nothing : Slot → Bool
is_nothing slot.Nothing = true
is_nothing _ = false

-- A handle is made. The state byte of a purgeable block is read. Or such a byte is put back on its handle: then each slot may have a handle of a
-- purgeable block, unless it is apart from that handle.
abbrev pub brought : Scope → ℕ → Given → ℕ → ℕ → FactStatus → Slot → List Fact
brought scope classes given number base status.Reached of = also_if (makes_handle scope number && is_nothing of) status.IsHandle (slot.Place base)
brought scope classes given number base status.Purgeable of =
    also_if (reads_state (role_at scope number) && is_place base of) status.SavedPurgeable (slot.Place base)
brought scope classes given number base status.SavedPurgeable of =
    if sets_state (role_at scope number) && given.restores && is_place (suc base) of
    then purgeable_of given (slot.Place base) (restorable scope classes base) else []
brought scope classes given number base _ of = []

-- the arguments are the places from `base` on, of which the first is taken for a handle
abbrev pub routine_next : Scope → ℕ → Given → ℕ → ℕ → FactStatus → Slot → List Fact
routine_next scope classes given number base its of =
    (if is_below base of then kept given (role_at scope number) (slot.Place base) its of else []) ++ brought scope classes given number base its of

-- ---- by the operation

-- the fact at each slot where its value is afterwards
abbrev pub carried : Scope → Op → ℕ → Fact → List Fact
carried scope its depth fact = at_each fact.status (slots_after scope its depth fact.slot)

-- a call has steps of its own
abbrev pub next_of : Scope → ℕ → Given → Op → Fact → List Fact
next_of scope classes given (op.Set v) fact = at_each (renamed given v fact.status) (slots_after scope (op.Set v) given.places fact.slot)
next_of scope classes given (op.Load (access.Pointer class)) fact =
    carried scope (op.Load (access.Pointer class)) given.places fact ++ loaded given (given.places - 1) fact.status fact.slot
next_of scope classes given (op.Offset bytes) fact =
    carried scope (op.Offset bytes) given.places fact ++ stepped (given.places - 1) (given.places - 1) fact.status fact.slot
next_of scope classes given (op.Step stride pointer_first) fact =
    carried scope (op.Step stride pointer_first) given.places fact
    ++ stepped (pointer_place pointer_first given.places) (given.places - 2) fact.status fact.slot
next_of scope classes given (op.Shift number) fact =
    carried scope (op.Shift number) given.places fact ++ shifted (purges_in (slice_get scope.routines number)) given fact.status fact.slot
next_of scope classes given (op.Routine number) fact =
    routine_next scope classes given number (given.places - taken scope (op.Routine number)) fact.status fact.slot
next_of scope classes given (op.Call f) fact = []
next_of scope classes given other fact = carried scope other given.places fact
