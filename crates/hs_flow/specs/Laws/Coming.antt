-- Which facts are among those after an operation that is no call: one law for each row of the table.
--     stays                                           a slot that the operation does not take or set
--     get_also; set_stays, set_also                   reading and setting a variable
--     load_fresh, load_class; store_top, store_class  pointers from and to memory; store_number, store_struct: other values
--     conv_stays; dup_also; tuck_low, tuck_top, tuck_moved; bring_top, bring_down, bring_stays
--     offset_pointer, step_pointer
--     shift_fresh, shift_outer, shift_loose, shift_purges
--     routine_makes; routine_keeps, routine_unlocks, routine_marks, routine_purgeable; routine_reads, routine_restores
--     return_answers, return_stays
use Rattle.std.proofs.Common.{◌≡◌, ◌<◌, ◌≤◌, ℕ, suc, ◌-◌, Bool, true, false, not, ◌&&◌, inl, inr, refl, ap, sym, subst, ◌∙◌, arith, if◌then◌else◌, List, [], ◌∷◌, slice_get, Option}
use Rattle.hs_code.specs.Stacks.{Scope}
use Rattle.hs_code.specs.declared.op.Access.TheVariants as access
use Rattle.hs_code.specs.declared.op.Op.{Op}
use Rattle.hs_code.specs.declared.op.Op.TheVariants as op
use Rattle.hs_facts.specs.Names.{taken, role_at, makes_handle}
use Rattle.hs_flow.specs.Among.{Among, among_left, among_right, among_each, among_also}
use Rattle.hs_flow.specs.Given.{Given, apart, share_name, is_name_locked, least_name}
use Rattle.hs_flow.specs.Laws.Staying as slots
use Rattle.hs_flow.specs.Laws.Staying.{LeavesSlots, IsShared, is_place_itself, is_variable_itself, is_class_itself}
use Rattle.hs_flow.specs.Next.{next_of, carried, kept, brought, at_slot, renamed, derived, loaded, stepped, pointer_place, is_of_pointers, shifted, purges_in, unlocks_by, marks_by, unmarks_by, reads_state, sets_state}
use Rattle.hs_flow.specs.Restorable.{purgeable_at, purgeable_of, restorable}
use Rattle.hs_flow.specs.Slots.{is_below, is_place, is_variable, slots_after}
use Rattle.hs_flow.specs.declared.fact.Fact.{Fact}
use Rattle.hs_flow.specs.declared.fact.FactStatus.{FactStatus}
use Rattle.hs_flow.specs.declared.fact.FactStatus.TheVariants as status
use Rattle.hs_flow.specs.declared.fact.Slot.{Slot}
use Rattle.hs_flow.specs.declared.fact.Slot.TheVariants as slot
use Rattle.hs_table.specs.declared.role.Role.{Role}
use Rattle.hs_tree.specs.declared.head.Variable.{Variable}
use Rattle.hs_types.specs.declared.integer.Integer.{Integer}
use Rattle.hs_tree.specs.declared.operators.Stride.{Stride}

-- an operation after which a fact is the same at each slot where its value is
abbrev pub Carries : Op → Type 0
Carries (op.Set v) = ⊥
Carries (op.Routine number) = ⊥
Carries (op.Call f) = ⊥
Carries _ = Unit {0}

module _ (scope : Scope) (classes : ℕ) (given : Given) where
  -- all facts after an operation
  abbrev pub After : Op → FactStatus → Slot → List Fact
  After its status of = next_of scope classes given its (at_slot status of)

  -- where the value of a slot is, there is the fact
  pub carries : (its : Op) (status : FactStatus) (of one : Slot) → Carries its → Among (slots_after scope its given.places of) one
      → Among (After its status of) (at_slot status one)
  carries (op.Num bits) status of one is has = among_each status (slots_after scope (op.Num bits) given.places of) one has
  carries op.Nil status of one is has = among_each status (slots_after scope op.Nil given.places of) one has
  carries (op.Address object) status of one is has = among_each status (slots_after scope (op.Address object) given.places of) one has
  carries (op.Get v) status of one is has = among_each status (slots_after scope (op.Get v) given.places of) one has
  carries (op.Load (access.Number kind)) status of one is has = among_each status (slots_after scope (op.Load (access.Number kind)) given.places of) one has
  carries (op.Load (access.Struct size)) status of one is has = among_each status (slots_after scope (op.Load (access.Struct size)) given.places of) one has
  carries (op.Store (access.Number kind)) status of one is has = among_each status (slots_after scope (op.Store (access.Number kind)) given.places of) one has
  carries (op.Store (access.Pointer class)) status of one is has =
      among_each status (slots_after scope (op.Store (access.Pointer class)) given.places of) one has
  carries (op.Store (access.Struct size)) status of one is has = among_each status (slots_after scope (op.Store (access.Struct size)) given.places of) one has
  carries op.Drop status of one is has = among_each status (slots_after scope op.Drop given.places of) one has
  carries op.Dup status of one is has = among_each status (slots_after scope op.Dup given.places of) one has
  carries op.Tuck status of one is has = among_each status (slots_after scope op.Tuck given.places of) one has
  carries (op.Conv kind) status of one is has = among_each status (slots_after scope (op.Conv kind) given.places of) one has
  carries (op.Unary unary) status of one is has = among_each status (slots_after scope (op.Unary unary) given.places of) one has
  carries (op.Binary binary kind) status of one is has = among_each status (slots_after scope (op.Binary binary kind) given.places of) one has
  carries op.IsNil status of one is has = among_each status (slots_after scope op.IsNil given.places of) one has
  carries (op.Compare comparison) status of one is has = among_each status (slots_after scope (op.Compare comparison) given.places of) one has
  carries (op.Difference size) status of one is has = among_each status (slots_after scope (op.Difference size) given.places of) one has
  carries (op.Jump target) status of one is has = among_each status (slots_after scope (op.Jump target) given.places of) one has
  carries (op.Zero target) status of one is has = among_each status (slots_after scope (op.Zero target) given.places of) one has
  carries (op.Choose goal) status of one is has = among_each status (slots_after scope (op.Choose goal) given.places of) one has
  carries op.Return status of one is has = among_each status (slots_after scope op.Return given.places of) one has
  carries op.Turn status of one is has = among_each status (slots_after scope op.Turn given.places of) one has
  carries op.Mark status of one is has = among_each status (slots_after scope op.Mark given.places of) one has
  carries (op.Pick target) status of one is has = among_each status (slots_after scope (op.Pick target) given.places of) one has
  carries (op.Bring place) status of one is has = among_each status (slots_after scope (op.Bring place) given.places of) one has
  carries (op.Load (access.Pointer class)) status of one is has =
      among_left (carried scope (op.Load (access.Pointer class)) given.places (at_slot status of)) (loaded given (given.places - 1) status of)
      (at_slot status one)
      (among_each status (slots_after scope (op.Load (access.Pointer class)) given.places of) one has)
  carries (op.Offset bytes) status of one is has =
      among_left (carried scope (op.Offset bytes) given.places (at_slot status of)) (stepped (given.places - 1) (given.places - 1) status of)
      (at_slot status one)
      (among_each status (slots_after scope (op.Offset bytes) given.places of) one has)
  carries (op.Step stride pointer_first) status of one is has =
      among_left (carried scope (op.Step stride pointer_first) given.places (at_slot status of))
      (stepped (pointer_place pointer_first given.places) (given.places - 2) status of) (at_slot status one)
      (among_each status (slots_after scope (op.Step stride pointer_first) given.places of) one has)
  carries (op.Shift number) status of one is has =
      among_left (carried scope (op.Shift number) given.places (at_slot status of))
      (shifted (purges_in (slice_get scope.routines number)) given status of) (at_slot status one)
      (among_each status (slots_after scope (op.Shift number) given.places of) one has)
  carries (op.Set v) status of one is has = absurd is
  carries (op.Routine number) status of one is has = absurd is
  carries (op.Call f) status of one is has = absurd is

  -- ---- slots that stay, and copies

  leaving_carries : (its : Op) → LeavesSlots its → Carries its
  leaving_carries (op.Num bits) leaves = tt {0}
  leaving_carries op.Nil leaves = tt {0}
  leaving_carries (op.Address object) leaves = tt {0}
  leaving_carries (op.Get v) leaves = tt {0}
  leaving_carries (op.Load access) leaves = tt {0}
  leaving_carries (op.Store access) leaves = tt {0}
  leaving_carries op.Drop leaves = tt {0}
  leaving_carries op.Dup leaves = tt {0}
  leaving_carries op.Tuck leaves = tt {0}
  leaving_carries (op.Conv kind) leaves = tt {0}
  leaving_carries (op.Unary unary) leaves = tt {0}
  leaving_carries (op.Binary binary kind) leaves = tt {0}
  leaving_carries op.IsNil leaves = tt {0}
  leaving_carries (op.Compare comparison) leaves = tt {0}
  leaving_carries (op.Difference size) leaves = tt {0}
  leaving_carries (op.Offset bytes) leaves = tt {0}
  leaving_carries (op.Step stride pointer_first) leaves = tt {0}
  leaving_carries (op.Jump target) leaves = tt {0}
  leaving_carries (op.Zero target) leaves = tt {0}
  leaving_carries (op.Choose goal) leaves = tt {0}
  leaving_carries (op.Shift number) leaves = tt {0}
  leaving_carries op.Turn leaves = tt {0}
  leaving_carries op.Mark leaves = tt {0}
  leaving_carries (op.Pick target) leaves = tt {0}
  leaving_carries (op.Set v) leaves = absurd leaves
  leaving_carries (op.Bring place) leaves = absurd leaves
  leaving_carries (op.Routine number) leaves = absurd leaves
  leaving_carries (op.Call f) leaves = absurd leaves
  leaving_carries op.Return leaves = absurd leaves

  pub stays : (its : Op) (status : FactStatus) (of : Slot) → LeavesSlots its → is_below (given.places - taken scope its) of ≡ true
      → Among (After its status of) (at_slot status of)
  stays its status of leaves is = carries its status of of (leaving_carries its leaves) (slots.slots_stay scope its given.places of leaves is)

  pub get_also : (v : Variable) (status : FactStatus) → Among (After (op.Get v) status (slot.Variable v)) (at_slot status (slot.Place given.places))
  get_also v status =
      carries (op.Get v) status (slot.Variable v) (slot.Place given.places) (tt {0})
      (slots.get_copies scope v given.places (slot.Variable v) (is_variable_itself v))

  -- `renamed given v status` is Loose of what was fresh from v, and else the status itself
  pub set_stays : (v : Variable) (status : FactStatus) (of : Slot) → is_variable v of ≡ false → is_below given.places of ≡ true
      → Among (After (op.Set v) status of) (at_slot (renamed given v status) of)
  set_stays v status of other is =
      among_each (renamed given v status) (slots_after scope (op.Set v) given.places of) of (slots.set_stays scope v given.places of other is)

  pub set_also : (v : Variable) (status : FactStatus)
      → Among (After (op.Set v) status (slot.Place (given.places - 1))) (at_slot (renamed given v status) (slot.Variable v))
  set_also v status =
      among_each (renamed given v status) (slots_after scope (op.Set v) given.places (slot.Place (given.places - 1))) (slot.Variable v)
      (slots.set_copies scope v given.places (slot.Place (given.places - 1)) (is_place_itself (given.places - 1)))

  pub load_class : (class : ℕ) (status : FactStatus)
      → Among (After (op.Load (access.Pointer class)) status (slot.Class class)) (at_slot status (slot.Place (given.places - 1)))
  load_class class status =
      carries (op.Load (access.Pointer class)) status (slot.Class class) (slot.Place (given.places - 1)) (tt {0})
      (slots.load_copies scope class given.places (slot.Class class) (is_class_itself class))

  pub store_top : (class : ℕ) (status : FactStatus)
      → Among (After (op.Store (access.Pointer class)) status (slot.Place (given.places - 1))) (at_slot status (slot.Place (given.places - 2)))
  store_top class status =
      carries (op.Store (access.Pointer class)) status (slot.Place (given.places - 1)) (slot.Place (given.places - 2)) (tt {0})
      (slots.store_copies scope class given.places (slot.Place (given.places - 1)) (slot.Place (given.places - 2))
      (is_place_itself (given.places - 1)) (inl refl))

  pub store_class : (class : ℕ) (status : FactStatus)
      → Among (After (op.Store (access.Pointer class)) status (slot.Place (given.places - 1))) (at_slot status (slot.Class class))
  store_class class status =
      carries (op.Store (access.Pointer class)) status (slot.Place (given.places - 1)) (slot.Class class) (tt {0})
      (slots.store_copies scope class given.places (slot.Place (given.places - 1)) (slot.Class class) (is_place_itself (given.places - 1)) (inr (inl refl)))

  pub store_number : (kind : Integer) (status : FactStatus)
      → Among (After (op.Store (access.Number kind)) status (slot.Place (given.places - 1))) (at_slot status (slot.Place (given.places - 2)))
  store_number kind status =
      carries (op.Store (access.Number kind)) status (slot.Place (given.places - 1)) (slot.Place (given.places - 2)) (tt {0})
      (slots.store_number scope kind given.places (slot.Place (given.places - 1)) (is_place_itself (given.places - 1)))

  pub store_struct : (size : ℕ) (status : FactStatus)
      → Among (After (op.Store (access.Struct size)) status (slot.Place (given.places - 1))) (at_slot status (slot.Place (given.places - 2)))
  store_struct size status =
      carries (op.Store (access.Struct size)) status (slot.Place (given.places - 1)) (slot.Place (given.places - 2)) (tt {0})
      (slots.store_struct scope size given.places (slot.Place (given.places - 1)) (is_place_itself (given.places - 1)))

  pub conv_stays : (kind : Integer) (status : FactStatus) (of : Slot) → is_below given.places of ≡ true
      → Among (After (op.Conv kind) status of) (at_slot status of)
  conv_stays kind status of is = carries (op.Conv kind) status of of (tt {0}) (slots.conv_stays scope kind given.places of is)

  pub dup_also : (status : FactStatus) → Among (After op.Dup status (slot.Place (given.places - 1))) (at_slot status (slot.Place given.places))
  dup_also status =
      carries op.Dup status (slot.Place (given.places - 1)) (slot.Place given.places) (tt {0})
      (slots.dup_copies scope given.places (slot.Place (given.places - 1)) (is_place_itself (given.places - 1)))

  -- the top is at two places
  tuck_each : (status : FactStatus) (one : Slot) → 2 ≤ given.places → Among (slot.Place (given.places - 2) ∷ slot.Place given.places ∷ []) one
      → Among (After op.Tuck status (slot.Place (given.places - 1))) (at_slot status one)
  tuck_each status one two has =
      carries op.Tuck status (slot.Place (given.places - 1)) one (tt {0})
      (slots.tuck_copies scope given.places (slot.Place (given.places - 1)) one (slots.other_place (given.places - 2) (given.places - 1) (omega (arith)))
      (is_place_itself (given.places - 1)) has)

  pub tuck_low : (status : FactStatus) → 2 ≤ given.places
      → Among (After op.Tuck status (slot.Place (given.places - 1))) (at_slot status (slot.Place (given.places - 2)))
  tuck_low status two = tuck_each status (slot.Place (given.places - 2)) two (inl refl)

  pub tuck_top : (status : FactStatus) → 2 ≤ given.places
      → Among (After op.Tuck status (slot.Place (given.places - 1))) (at_slot status (slot.Place given.places))
  tuck_top status two = tuck_each status (slot.Place given.places) two (inr (inl refl))

  pub tuck_moved : (status : FactStatus) → Among (After op.Tuck status (slot.Place (given.places - 2))) (at_slot status (slot.Place (given.places - 1)))
  tuck_moved status =
      carries op.Tuck status (slot.Place (given.places - 2)) (slot.Place (given.places - 1)) (tt {0})
      (slots.tuck_moves scope given.places (slot.Place (given.places - 2)) (is_place_itself (given.places - 2)))

  pub bring_top : (place : ℕ) (status : FactStatus)
      → Among (After (op.Bring place) status (slot.Place (given.places - place))) (at_slot status (slot.Place (given.places - 1)))
  bring_top place status =
      carries (op.Bring place) status (slot.Place (given.places - place)) (slot.Place (given.places - 1)) (tt {0})
      (slots.bring_top scope place given.places (given.places - place) refl)

  pub bring_down : (place at : ℕ) (status : FactStatus) → given.places - place < at
      → Among (After (op.Bring place) status (slot.Place at)) (at_slot status (slot.Place (at - 1)))
  bring_down place at status above =
      carries (op.Bring place) status (slot.Place at) (slot.Place (at - 1)) (tt {0}) (slots.bring_down scope place given.places at above)

  pub bring_stays : (place : ℕ) (status : FactStatus) (of : Slot) → is_below (given.places - place) of ≡ true
      → Among (After (op.Bring place) status of) (at_slot status of)
  bring_stays place status of is = carries (op.Bring place) status of of (tt {0}) (slots.bring_stays scope place given.places of is)

  pub return_answers : (status : FactStatus) → Among (After op.Return status (slot.Place (given.places - 1))) (at_slot status slot.Answer)
  return_answers status =
      carries op.Return status (slot.Place (given.places - 1)) slot.Answer (tt {0})
      (slots.return_answers scope given.places (given.places - 1) refl)

  pub return_stays : (status : FactStatus) (of : Slot) → IsShared of → Among (After op.Return status of) (at_slot status of)
  return_stays status of shared = carries op.Return status of of (tt {0}) (slots.return_stays scope given.places of shared)

  -- ---- pointers that are derived or moved

  -- `derived (least_name given ..)` is Fresh of the least name of the place, or Loose if it has none
  pub load_fresh : (class : ℕ)
      → Among (After (op.Load (access.Pointer class)) status.IsHandle (slot.Place (given.places - 1)))
      (at_slot (derived (least_name given (given.places - 1))) (slot.Place (given.places - 1)))
  load_fresh class =
      among_right (carried scope (op.Load (access.Pointer class)) given.places (at_slot status.IsHandle (slot.Place (given.places - 1))))
      (loaded given (given.places - 1) status.IsHandle (slot.Place (given.places - 1)))
      (at_slot (derived (least_name given (given.places - 1))) (slot.Place (given.places - 1)))
      (among_also (is_place (given.places - 1) (slot.Place (given.places - 1))) (derived (least_name given (given.places - 1)))
      (slot.Place (given.places - 1)) (is_place_itself (given.places - 1)))

  -- a pointer status is kept
  steps : (from to : ℕ) (status : FactStatus) → is_of_pointers status ≡ true
      → Among (stepped from to status (slot.Place from)) (at_slot status (slot.Place to))
  steps from to status pointer =
      among_also (is_of_pointers status && is_place from (slot.Place from)) status (slot.Place to)
      (ap (λ b. b && is_place from (slot.Place from)) pointer ∙ is_place_itself from)

  pub offset_pointer : (bytes : ℕ) (status : FactStatus) → is_of_pointers status ≡ true
      → Among (After (op.Offset bytes) status (slot.Place (given.places - 1))) (at_slot status (slot.Place (given.places - 1)))
  offset_pointer bytes status pointer =
      among_right (carried scope (op.Offset bytes) given.places (at_slot status (slot.Place (given.places - 1))))
      (stepped (given.places - 1) (given.places - 1) status (slot.Place (given.places - 1))) (at_slot status (slot.Place (given.places - 1)))
      (steps (given.places - 1) (given.places - 1) status pointer)

  pub step_pointer : (stride : Stride) (pointer_first : Bool) (status : FactStatus) → is_of_pointers status ≡ true
      → Among (After (op.Step stride pointer_first) status (slot.Place (pointer_place pointer_first given.places)))
      (at_slot status (slot.Place (given.places - 2)))
  step_pointer stride pointer_first status pointer =
      among_right
      (carried scope (op.Step stride pointer_first) given.places (at_slot status (slot.Place (pointer_place pointer_first given.places))))
      (stepped (pointer_place pointer_first given.places) (given.places - 2) status (slot.Place (pointer_place pointer_first given.places)))
      (at_slot status (slot.Place (given.places - 2)))
      (steps (pointer_place pointer_first given.places) (given.places - 2) status pointer)

  -- ---- Shift

  -- what comes at a shift is among the facts after it
  shift_adds : (number : ℕ) (status : FactStatus) (of : Slot) (one : Fact)
      → Among (shifted (purges_in (slice_get scope.routines number)) given status of) one → Among (After (op.Shift number) status of) one
  shift_adds number status of one has =
      among_right (carried scope (op.Shift number) given.places (at_slot status of))
      (shifted (purges_in (slice_get scope.routines number)) given status of) one has

  pub shift_fresh : (number h : ℕ) (of : Slot) → given.locked h ≡ false
      → Among (After (op.Shift number) (status.Fresh h) of) (at_slot status.Stale of)
  shift_fresh number h of unlocked =
      shift_adds number (status.Fresh h) of (at_slot status.Stale of) (among_also (not (given.locked h)) status.Stale of (ap not unlocked))

  pub shift_outer : (number : ℕ) (of : Slot) → Among (After (op.Shift number) status.Outer of) (at_slot status.Stale of)
  shift_outer number of = shift_adds number status.Outer of (at_slot status.Stale of) (inl refl)

  pub shift_loose : (number : ℕ) (of : Slot) → Among (After (op.Shift number) status.Loose of) (at_slot status.Stale of)
  shift_loose number of = shift_adds number status.Loose of (at_slot status.Stale of) (inl refl)

  pub shift_purges : (number : ℕ) (of : Slot) → purges_in (slice_get scope.routines number) ≡ true → is_name_locked given of ≡ false
      → Among (After (op.Shift number) status.Purgeable of) (at_slot status.Hollow of)
  shift_purges number of purges unlocked =
      shift_adds number status.Purgeable of (at_slot status.Hollow of)
      (among_also (purges_in (slice_get scope.routines number) && not (is_name_locked given of)) status.Hollow of
      (ap (λ b. b && not (is_name_locked given of)) purges ∙ ap not unlocked))

  -- ---- Routine

  -- the place of the first argument, where the result is afterwards
  abbrev pub argument : ℕ → ℕ
  argument number = given.places - taken scope (op.Routine number)

  -- what the rules keep of a slot that is no argument is among the facts after the routine
  pub routine_keeps : (number : ℕ) (status : FactStatus) (of : Slot) (one : Fact) → is_below (argument number) of ≡ true
      → Among (kept given (role_at scope number) (slot.Place (argument number)) status of) one → Among (After (op.Routine number) status of) one
  routine_keeps number status of one below has =
      among_left
      (if is_below (argument number) of then kept given (role_at scope number) (slot.Place (argument number)) status of else [])
      (brought scope classes given number (argument number) status of) one
      (subst (λ b. Among (if b then kept given (role_at scope number) (slot.Place (argument number)) status of else []) one) (sym below) has)

  -- what comes
  routine_brings : (number : ℕ) (status : FactStatus) (of : Slot) (one : Fact)
      → Among (brought scope classes given number (argument number) status of) one → Among (After (op.Routine number) status of) one
  routine_brings number status of one has =
      among_right
      (if is_below (argument number) of then kept given (role_at scope number) (slot.Place (argument number)) status of else [])
      (brought scope classes given number (argument number) status of) one has

  -- a status that no routine ends or changes at a slot that is no argument
  abbrev pub Lasts : FactStatus → Type 0
  Lasts status.Held = ⊥
  Lasts status.Purgeable = ⊥
  Lasts _ = Unit {0}

  kept_lasts : (its : Option Role) (argument : Slot) (status : FactStatus) (of : Slot) → Lasts status
      → Among (kept given its argument status of) (at_slot status of)
  kept_lasts its argument status.Reached of lasts = inl refl
  kept_lasts its argument status.IsHandle of lasts = inl refl
  kept_lasts its argument status.Hollow of lasts = inl refl
  kept_lasts its argument status.SavedPurgeable of lasts = inl refl
  kept_lasts its argument (status.Fresh h) of lasts = inl refl
  kept_lasts its argument status.Outer of lasts = inl refl
  kept_lasts its argument status.Loose of lasts = inl refl
  kept_lasts its argument status.Stale of lasts = inl refl
  kept_lasts its argument status.Held of lasts = absurd lasts
  kept_lasts its argument status.Purgeable of lasts = absurd lasts

  pub routine_stays : (number : ℕ) (status : FactStatus) (of : Slot) → Lasts status → is_below (argument number) of ≡ true
      → Among (After (op.Routine number) status of) (at_slot status of)
  routine_stays number status of lasts below =
      routine_keeps number status of (at_slot status of) below
      (kept_lasts (role_at scope number) (slot.Place (argument number)) status of lasts)

  -- what a caller holds is not held any more, if the routine may unlock
  pub routine_unlocks : (number : ℕ) (of : Slot) → unlocks_by given.restores (role_at scope number) ≡ true → is_below (argument number) of ≡ true
      → Among (After (op.Routine number) status.Held of) (at_slot status.Outer of)
  routine_unlocks number of unlocks below =
      routine_keeps number status.Held of (at_slot status.Outer of) below
      (inl (ap (λ b. at_slot (if b then status.Outer else status.Held) of) (sym unlocks)))

  -- and else it is
  pub routine_holds : (number : ℕ) (of : Slot) → unlocks_by given.restores (role_at scope number) ≡ false → is_below (argument number) of ≡ true
      → Among (After (op.Routine number) status.Held of) (at_slot status.Held of)
  routine_holds number of unlocks below =
      routine_keeps number status.Held of (at_slot status.Held of) below
      (inl (ap (λ b. at_slot (if b then status.Outer else status.Held) of) (sym unlocks)))

  -- a handle may be of the block that is marked
  pub routine_marks : (number : ℕ) (of : Slot) → marks_by given.restores (role_at scope number) ≡ true
      → apart given of (slot.Place (argument number)) ≡ false → is_below (argument number) of ≡ true
      → Among (After (op.Routine number) status.IsHandle of) (at_slot status.Purgeable of)
  routine_marks number of marks apart_not below =
      routine_keeps number status.IsHandle of (at_slot status.Purgeable of) below
      (inr (among_also (marks_by given.restores (role_at scope number) && not (apart given of (slot.Place (argument number)))) status.Purgeable of
      (ap (λ b. b && not (apart given of (slot.Place (argument number)))) marks ∙ ap not apart_not)))

  -- a handle of a purgeable block stays one, unless the routine unmarks a block of a name of it
  pub routine_purgeable : (number : ℕ) (of : Slot)
      → (unmarks_by (role_at scope number) && share_name given of (slot.Place (argument number))) ≡ false → is_below (argument number) of ≡ true
      → Among (After (op.Routine number) status.Purgeable of) (at_slot status.Purgeable of)
  routine_purgeable number of marked below =
      routine_keeps number status.Purgeable of (at_slot status.Purgeable of) below
      (among_also (not (unmarks_by (role_at scope number) && share_name given of (slot.Place (argument number)))) status.Purgeable of (ap not marked))

  -- a handle is made
  pub routine_makes : (number : ℕ) → makes_handle scope number ≡ true
      → Among (After (op.Routine number) status.Reached slot.Nothing) (at_slot status.IsHandle (slot.Place (argument number)))
  routine_makes number makes =
      routine_brings number status.Reached slot.Nothing (at_slot status.IsHandle (slot.Place (argument number)))
      (among_also (makes_handle scope number && true) status.IsHandle (slot.Place (argument number)) (ap (λ b. b && true) makes))

  -- the state byte of a purgeable block is read
  pub routine_reads : (number : ℕ) → reads_state (role_at scope number) ≡ true
      → Among (After (op.Routine number) status.Purgeable (slot.Place (argument number)))
      (at_slot status.SavedPurgeable (slot.Place (argument number)))
  routine_reads number reads =
      routine_brings number status.Purgeable (slot.Place (argument number)) (at_slot status.SavedPurgeable (slot.Place (argument number)))
      (among_also (reads_state (role_at scope number) && is_place (argument number) (slot.Place (argument number))) status.SavedPurgeable
      (slot.Place (argument number))
      (ap (λ b. b && is_place (argument number) (slot.Place (argument number))) reads ∙ is_place_itself (argument number)))

  -- a slot that is not apart is purgeable
  among_purgeable : (its : Slot) (slots : List Slot) (of : Slot) → apart given of its ≡ false → Among slots of
      → Among (purgeable_of given its slots) (at_slot status.Purgeable of)
  among_purgeable its [] of not_apart is = absurd is
  among_purgeable its (one ∷ rest) of not_apart (inl is) =
      subst (λ it. Among (purgeable_of given its (it ∷ rest)) (at_slot status.Purgeable of)) is
      (among_left (purgeable_at given its of) (purgeable_of given its rest) (at_slot status.Purgeable of)
      (subst (λ b. Among (if b then [] else at_slot status.Purgeable of ∷ []) (at_slot status.Purgeable of)) (sym not_apart) (inl refl)))
  among_purgeable its (one ∷ rest) of not_apart (inr is) =
      among_right (purgeable_at given its one) (purgeable_of given its rest) (at_slot status.Purgeable of)
      (among_purgeable its rest of not_apart is)

  -- such a byte is put back on its handle: each slot that may have a handle may have one of a purgeable block, unless it is apart
  pub routine_restores : (number : ℕ) (of : Slot) → sets_state (role_at scope number) ≡ true → given.restores ≡ true
      → Among (restorable scope classes (argument number)) of → apart given of (slot.Place (argument number)) ≡ false
      → Among (After (op.Routine number) status.SavedPurgeable (slot.Place (suc (argument number)))) (at_slot status.Purgeable of)
  routine_restores number of sets restores has not_apart =
      routine_brings number status.SavedPurgeable (slot.Place (suc (argument number))) (at_slot status.Purgeable of)
      (subst
      (λ b. Among (if b then purgeable_of given (slot.Place (argument number)) (restorable scope classes (argument number)) else [])
      (at_slot status.Purgeable of))
      (sym all_three) (among_purgeable (slot.Place (argument number)) (restorable scope classes (argument number)) of not_apart has))
    where
      all_three : (sets_state (role_at scope number) && given.restores && is_place (suc (argument number)) (slot.Place (suc (argument number)))) ≡ true
      all_three =
          ap (λ b. b && given.restores && is_place (suc (argument number)) (slot.Place (suc (argument number)))) sets
          ∙ ap (λ b. b && is_place (suc (argument number)) (slot.Place (suc (argument number)))) restores
          ∙ is_place_itself (suc (argument number))
