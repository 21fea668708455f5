-- The facts after an operation fit, if the fact before it does.
--     IsSmallScope                   there are not too many variables and classes
--     next_small                     the facts after an operation that is no call
use Rattle.std.proofs.Common.{◌≡◌, ◌<◌, ◌≤◌, ℕ, zero, suc, ◌+◌, ◌-◌, Bool, true, false, not, ◌&&◌, if◌then◌else◌, List, [], ◌∷◌, ◌++◌, length, slice_get, Option, Some, None, refl, arith}
use Rattle.hs_code.specs.Stacks.{Scope}
use Rattle.hs_code.specs.declared.op.Access.TheVariants as access
use Rattle.hs_code.specs.declared.op.Op.{Op}
use Rattle.hs_code.specs.declared.op.Op.TheVariants as op
use Rattle.hs_facts.specs.Names.{role_at, taken}
use Rattle.hs_flow.specs.Given.{Given, apart, is_name_locked, least_from, least_name, share_name}
use Rattle.hs_flow.specs.Next.{at_slot, brought, carried, derived, is_name_of, is_of_pointers, kept, loaded, marks_by, next_of, pointer_place, purges_in, renamed, routine_next, shifted, stepped, unlocks_by, unmarks_by, is_nothing, reads_state, sets_state}
use Rattle.hs_flow.specs.Restorable.{classes_below, is_pointer_slot, places_below, pointer_globals, pointer_locals, purgeable_at, purgeable_of, restorable}
use Rattle.hs_flow.specs.Slots.{below, is_below, is_place, slot_if, slots_after}
use Rattle.hs_flow.specs.declared.fact.Fact.{Fact}
use Rattle.hs_flow.specs.declared.fact.FactStatus.{FactStatus}
use Rattle.hs_flow.specs.declared.fact.FactStatus.TheVariants as status
use Rattle.hs_flow.specs.declared.fact.Slot.{Slot}
use Rattle.hs_flow.specs.declared.fact.Slot.TheVariants as slot
use Rattle.hs_table.specs.declared.role.Role.{Role}
use Rattle.hs_taint.specs.Coding.{IsSmall, IsSmallStatus, names, numbers}
use Rattle.hs_tree.specs.declared.globals.Global.{Global}
use Rattle.hs_tree.specs.declared.head.Variable.{Variable}
use Rattle.hs_tree.specs.declared.head.Variable.TheVariants as name
use Rattle.hs_tree.specs.declared.head.VariableDecl.{VariableDecl}
use Rattle.hs_types.specs.TypeTables.{TypeTable}
use Rattle.hs_facts.specs.Names.{makes_handle}
use Rattle.hs_taint.specs.Laws.Small.{IsSmallSlot, SmallFacts, SmallOp, SmallSlots, after_small, facts_also, facts_append, facts_each, facts_either, slots_append, slots_if}

-- ---- statuses

renamed_small : (given : Given) (v : Variable) (its : FactStatus) → IsSmallStatus its → IsSmallStatus (renamed given v its)
renamed_small given v (status.Fresh h) small = either (is_name_of (slice_get given.names h) v)
  where
    either : (b : Bool) → IsSmallStatus (if b then status.Loose else status.Fresh h)
    either true = tt
    either false = small
renamed_small given v status.Stale small = tt
renamed_small given v status.Hollow small = tt
renamed_small given v status.Loose small = tt
renamed_small given v status.Outer small = tt
renamed_small given v status.Held small = tt
renamed_small given v status.SavedPurgeable small = tt
renamed_small given v status.Purgeable small = tt
renamed_small given v status.IsHandle small = tt
renamed_small given v status.Reached small = tt

-- a number of a name is below their count
least_below : (h : ℕ) (list : List Variable) (test : ℕ → Bool) (k : ℕ) → least_from h list test ≡ Some k → k < h + length list
least_below h [] test k is = absurd (cc)
least_below h (x ∷ rest) test k is = by (test h) is (λ next. let below = least_below (suc h) rest test k next in omega (arith))
  where
    by : (b : Bool) → (if b then Some h else least_from (suc h) rest test) ≡ Some k → (least_from (suc h) rest test ≡ Some k → k < h + suc (length rest))
        → k < h + suc (length rest)
    by true same each = let here : h ≡ k = cc in omega (arith)
    by false same each = each same

derived_small : (o : Option ℕ) → ((k : ℕ) → o ≡ Some k → k < names) → IsSmallStatus (derived o)
derived_small None below = tt
derived_small (Some h) below = below h refl

-- ---- an operation that is no call

module _ (given : Given) (its : FactStatus) (of : Slot) (named : length given.names ≤ names) (small : IsSmallStatus its) (number : IsSmallSlot of) where
  loaded_small : (top : ℕ) → top < numbers → SmallFacts (loaded given top its of)
  loaded_small top is = by its
    where
      by : (its : FactStatus) → SmallFacts (loaded given top its of)
      by status.IsHandle =
          facts_also (is_place top of) (derived (least_name given top)) (slot.Place top)
          (derived_small (least_name given top) (λ k same. let below = least_below 0 given.names (given.with top) k same in omega (arith))) is
      by (status.Fresh h) = tt
      by status.Stale = tt
      by status.Hollow = tt
      by status.Loose = tt
      by status.Outer = tt
      by status.Held = tt
      by status.SavedPurgeable = tt
      by status.Purgeable = tt
      by status.Reached = tt

  stepped_small : (from to : ℕ) → to < numbers → SmallFacts (stepped from to its of)
  stepped_small from to is = facts_also (is_of_pointers its && is_place from of) its (slot.Place to) small is

  shifted_small : (purges : Bool) → SmallFacts (shifted purges given its of)
  shifted_small purges = by its
    where
      by : (its : FactStatus) → SmallFacts (shifted purges given its of)
      by (status.Fresh h) = facts_also (not (given.locked h)) status.Stale of tt number
      by status.Outer = (record { number = number; status = tt }, tt)
      by status.Loose = (record { number = number; status = tt }, tt)
      by status.Purgeable = facts_also (purges && not (is_name_locked given of)) status.Hollow of tt number
      by status.IsHandle = tt
      by status.Stale = tt
      by status.Hollow = tt
      by status.Held = tt
      by status.SavedPurgeable = tt
      by status.Reached = tt

  held_small : (b : Bool) → IsSmallStatus (if b then status.Outer else status.Held)
  held_small true = tt
  held_small false = tt

  kept_small : (role : Option Role) (argument : Slot) → SmallFacts (kept given role argument its of)
  kept_small role argument = by its small
    where
      by : (its : FactStatus) → IsSmallStatus its → SmallFacts (kept given role argument its of)
      by status.Held is = (record { number = number; status = held_small (unlocks_by given.restores role) }, tt)
      by status.IsHandle is = (
        record { number = number; status = tt },
        facts_also (marks_by given.restores role && not (apart given of argument)) status.Purgeable of tt number,
      )
      by status.Purgeable is = facts_also (not (unmarks_by role && share_name given of argument)) status.Purgeable of tt number
      by (status.Fresh h) is = (record { number = number; status = is }, tt)
      by status.Stale is = (record { number = number; status = tt }, tt)
      by status.Hollow is = (record { number = number; status = tt }, tt)
      by status.Loose is = (record { number = number; status = tt }, tt)
      by status.Outer is = (record { number = number; status = tt }, tt)
      by status.SavedPurgeable is = (record { number = number; status = tt }, tt)
      by status.Reached is = (record { number = number; status = tt }, tt)

-- ---- slots of handles

globals_small : (types : TypeTable) (place : ℕ) (all : List Global) → place + length all ≤ numbers → SmallSlots (pointer_globals types place all)
globals_small types place [] few = tt
globals_small types place (it ∷ rest) few =
    slots_append (slot_if (is_pointer_slot types it.variable) (slot.Variable (name.Global place))) (pointer_globals types (suc place) rest)
    (slots_if (is_pointer_slot types it.variable) (slot.Variable (name.Global place)) (omega (arith)))
    (globals_small types (suc place) rest (omega (arith)))

locals_small : (types : TypeTable) (place : ℕ) (all : List VariableDecl) → place + length all ≤ numbers → SmallSlots (pointer_locals types place all)
locals_small types place [] few = tt
locals_small types place (it ∷ rest) few =
    slots_append (slot_if (is_pointer_slot types it) (slot.Variable (name.Local place))) (pointer_locals types (suc place) rest)
    (slots_if (is_pointer_slot types it) (slot.Variable (name.Local place)) (omega (arith)))
    (locals_small types (suc place) rest (omega (arith)))

places_small : (base : ℕ) → base ≤ numbers → SmallSlots (places_below base)
places_small zero few = tt
places_small (suc place) few = slots_append (places_below place) (slot.Place place ∷ []) (places_small place (omega (arith))) (few, tt)

classes_small : (count : ℕ) → count ≤ numbers → SmallSlots (classes_below count)
classes_small zero few = tt
classes_small (suc class) few = slots_append (classes_below class) (slot.Class class ∷ []) (classes_small class (omega (arith))) (few, tt)

purgeable_small : (given : Given) (argument : Slot) (slots : List Slot) → SmallSlots slots → SmallFacts (purgeable_of given argument slots)
purgeable_small given argument [] small = tt
purgeable_small given argument (of ∷ rest) small =
    facts_append (purgeable_at given argument of) (purgeable_of given argument rest)
    (facts_either (apart given of argument) [] (at_slot status.Purgeable of ∷ []) tt (record { number = small.0; status = tt }, tt))
    (purgeable_small given argument rest small.1)

-- how many variables and classes there are
pub record IsSmallScope (scope : Scope) (classes : ℕ) : Type 0 where
  pub globals : length scope.globals ≤ numbers
  pub locals : length scope.variables ≤ numbers
  pub classes_fit : classes ≤ numbers

module _ (scope : Scope) (classes : ℕ) (given : Given) (fits : IsSmallScope scope classes) (deep : given.places < numbers)
    (named : length given.names ≤ names) where
  restorable_small : (base : ℕ) → base ≤ numbers → SmallSlots (restorable scope classes base)
  restorable_small base few =
      slots_append (pointer_globals scope.types 0 scope.globals)
      (pointer_locals scope.types 0 scope.variables ++ (places_below base ++ classes_below classes))
      (globals_small scope.types 0 scope.globals (let few = fits.globals in omega (arith)))
      (slots_append (pointer_locals scope.types 0 scope.variables) (places_below base ++ classes_below classes)
      (locals_small scope.types 0 scope.variables (let few = fits.locals in omega (arith)))
      (slots_append (places_below base) (classes_below classes) (places_small base few) (classes_small classes fits.classes_fit)))

  came_small : (number base : ℕ) (its : FactStatus) (of : Slot) → base < numbers → SmallFacts (brought scope classes given number base its of)
  came_small number base status.Reached of few = facts_also (makes_handle scope number && is_nothing of) status.IsHandle (slot.Place base) tt few
  came_small number base status.Purgeable of few =
      facts_also (reads_state (role_at scope number) && is_place base of) status.SavedPurgeable (slot.Place base) tt few
  came_small number base status.SavedPurgeable of few =
      facts_either (sets_state (role_at scope number) && given.restores && is_place (suc base) of)
      (purgeable_of given (slot.Place base) (restorable scope classes base)) []
      (purgeable_small given (slot.Place base) (restorable scope classes base) (restorable_small base (omega (arith)))) tt
  came_small number base (status.Fresh h) of few = tt
  came_small number base status.Stale of few = tt
  came_small number base status.Hollow of few = tt
  came_small number base status.Loose of few = tt
  came_small number base status.Outer of few = tt
  came_small number base status.Held of few = tt
  came_small number base status.IsHandle of few = tt

  -- the facts after an operation
  module _ (fact : Fact) (small : IsSmall fact) where
    carried_small : (its : Op) → SmallOp its → SmallFacts (carried scope its given.places fact)
    carried_small its is = facts_each fact.status (slots_after scope its given.places fact.slot) small.status
        (after_small scope given.places fact.slot deep small.number its is)

    moved_small : (first : Bool) → SmallFacts (stepped (pointer_place first given.places) (given.places - 2) fact.status fact.slot)
    moved_small first = stepped_small given fact.status fact.slot named small.status small.number (pointer_place first given.places)
        (given.places - 2) (omega (arith))

    routine_small : (number : ℕ) → SmallFacts (routine_next scope classes given number (given.places - taken scope (op.Routine number)) fact.status fact.slot)
    routine_small number =
        let base : ℕ = given.places - taken scope (op.Routine number) in
        facts_append (if is_below base fact.slot then kept given (role_at scope number) (slot.Place base) fact.status fact.slot else [])
        (brought scope classes given number base fact.status fact.slot)
        (facts_either (is_below base fact.slot) (kept given (role_at scope number) (slot.Place base) fact.status fact.slot) []
        (kept_small given fact.status fact.slot named small.status small.number (role_at scope number) (slot.Place base)) tt)
        (came_small number base fact.status fact.slot (omega (arith)))

    pub next_small : (its : Op) → SmallOp its → SmallFacts (next_of scope classes given its fact)
    next_small (op.Set v) is =
        facts_each (renamed given v fact.status) (slots_after scope (op.Set v) given.places fact.slot) (renamed_small given v fact.status small.status)
        (after_small scope given.places fact.slot deep small.number (op.Set v) is)
    next_small (op.Load (access.Pointer class)) is =
        facts_append (carried scope (op.Load (access.Pointer class)) given.places fact) (loaded given (given.places - 1) fact.status fact.slot)
        (carried_small (op.Load (access.Pointer class)) is)
        (loaded_small given fact.status fact.slot named small.status small.number (given.places - 1) (omega (arith)))
    next_small (op.Offset bytes) is =
        facts_append (carried scope (op.Offset bytes) given.places fact) (stepped (given.places - 1) (given.places - 1) fact.status fact.slot)
        (carried_small (op.Offset bytes) is)
        (stepped_small given fact.status fact.slot named small.status small.number (given.places - 1) (given.places - 1) (omega (arith)))
    next_small (op.Step stride first) is =
        facts_append (carried scope (op.Step stride first) given.places fact)
        (stepped (pointer_place first given.places) (given.places - 2) fact.status fact.slot)
        (carried_small (op.Step stride first) is) (moved_small first)
    next_small (op.Shift number) is =
        facts_append (carried scope (op.Shift number) given.places fact) (shifted (purges_in (slice_get scope.routines number)) given fact.status fact.slot)
        (carried_small (op.Shift number) is)
        (shifted_small given fact.status fact.slot named small.status small.number (purges_in (slice_get scope.routines number)))
    next_small (op.Routine number) is = routine_small number
    next_small (op.Call f) is = tt
    next_small (op.Get v) is = carried_small (op.Get v) is
    next_small (op.Load (access.Number kind)) is = carried_small (op.Load (access.Number kind)) is
    next_small (op.Load (access.Struct size)) is = carried_small (op.Load (access.Struct size)) is
    next_small (op.Store its) is = carried_small (op.Store its) is
    next_small op.Dup is = carried_small op.Dup is
    next_small op.Tuck is = carried_small op.Tuck is
    next_small (op.Conv kind) is = carried_small (op.Conv kind) is
    next_small (op.Bring place) is = carried_small (op.Bring place) is
    next_small op.Return is = carried_small op.Return is
    next_small (op.Num bits) is = carried_small (op.Num bits) is
    next_small op.Nil is = carried_small op.Nil is
    next_small (op.Address its) is = carried_small (op.Address its) is
    next_small op.Drop is = carried_small op.Drop is
    next_small (op.Unary its) is = carried_small (op.Unary its) is
    next_small (op.Binary its kind) is = carried_small (op.Binary its kind) is
    next_small op.IsNil is = carried_small op.IsNil is
    next_small (op.Compare its) is = carried_small (op.Compare its) is
    next_small (op.Difference size) is = carried_small (op.Difference size) is
    next_small (op.Jump target) is = carried_small (op.Jump target) is
    next_small (op.Zero target) is = carried_small (op.Zero target) is
    next_small (op.Choose goal) is = carried_small (op.Choose goal) is
    next_small op.Turn is = carried_small op.Turn is
    next_small op.Mark is = carried_small op.Mark is
    next_small (op.Pick target) is = carried_small (op.Pick target) is
