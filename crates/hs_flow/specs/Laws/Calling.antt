-- Which facts there are at a call: one law for each row of the table.
--     over_stays, over_fresh, over_holds, over_unlocks                what stays of a slot that goes over the call
--     over_marks, over_marks_purges, over_purges                      what the function may do to the block of a handle
--     over_fresh_stale, over_held_stale, over_outer_stale, over_loose_stale      and to that of a pointer
--     enter_stays, enter_held, enter_outer, enter_loose; entered_argument        what the function gets
--     leave_stays, leave_fresh, leave_held, leave_outer; back_assigned, back_fresh, back_stays, back_held      and its caller
use Rattle.std.proofs.Common.{◌≡◌, ◌≤◌, ℕ, ◌-◌, nat_lt, true, false, not, ◌&&◌, inl, inr, refl, ap, sym, subst, ◌∙◌, arith, if◌then◌else◌, List, [], slice_get, Option, None}
use Rattle.std.proofs.lemmas.Bool.Decides.{nat_tests}
use Rattle.hs_flow.specs.Among.{Among, among_left, among_right, among_also}
use Rattle.hs_flow.specs.Calls.{Callee, assigns_name, base_of, is_kept, is_slot_kept, fresh_or_loose, held_if, passed, goes_over, over_of, at_some, to_parameter, entered, enter_of, left, back, back_outer, leave_of}
use Rattle.hs_flow.specs.Given.{Given}
use Rattle.hs_flow.specs.Next.{at_slot, also_if}
use Rattle.hs_flow.specs.declared.fact.Fact.{Fact}
use Rattle.hs_flow.specs.declared.fact.FactStatus.{FactStatus}
use Rattle.hs_flow.specs.declared.fact.FactStatus.TheVariants as status
use Rattle.hs_flow.specs.declared.fact.Slot.{Slot}
use Rattle.hs_flow.specs.declared.fact.Slot.TheVariants as slot

-- ---- over

module _ (callee : Callee) (given : Given) (of : Slot) (goes : goes_over callee given of ≡ true) where
  -- all facts at the next operation that go over the call
  abbrev pub Over : FactStatus → List Fact
  Over its = over_of callee given (at_slot its of)

  -- what passes is among them
  passes : (its : FactStatus) (one : Fact) → Among (passed callee given its of) one → Among (Over its) one
  passes its one has = subst (λ b. Among (if b then passed callee given its of else []) one) (sym goes) has

  -- a status that no call changes
  abbrev pub Lasts : FactStatus → Type 0
  Lasts (status.Fresh h) = ⊥
  Lasts status.Held = ⊥
  Lasts _ = Unit {0}

  passed_lasts : (its : FactStatus) → Lasts its → Among (passed callee given its of) (at_slot its of)
  passed_lasts status.Reached lasts = inl refl
  passed_lasts status.IsHandle lasts = inl refl
  passed_lasts status.Purgeable lasts = inl refl
  passed_lasts status.Hollow lasts = inl refl
  passed_lasts status.SavedPurgeable lasts = inl refl
  passed_lasts (status.Fresh h) lasts = absurd lasts
  passed_lasts status.Held lasts = absurd lasts
  passed_lasts status.Outer lasts = inl refl
  passed_lasts status.Loose lasts = inl refl
  passed_lasts status.Stale lasts = inl refl

  pub over_stays : (its : FactStatus) → Lasts its → Among (Over its) (at_slot its of)
  over_stays its lasts = passes its (at_slot its of) (passed_lasts its lasts)

  -- `fresh_or_loose` is Loose if the function may assign the name, and else Fresh
  pub over_fresh : (h : ℕ) → Among (Over (status.Fresh h)) (at_slot (fresh_or_loose (assigns_name callee given h) h) of)
  over_fresh h = passes (status.Fresh h) (at_slot (fresh_or_loose (assigns_name callee given h) h) of) (inl refl)

  pub over_holds : callee.unlocks ≡ false → Among (Over status.Held) (at_slot status.Held of)
  over_holds keeps = passes status.Held (at_slot status.Held of) (inl (ap (λ b. at_slot (held_if (not b)) of) (sym keeps)))

  pub over_unlocks : callee.unlocks ≡ true → Among (Over status.Held) (at_slot status.Outer of)
  over_unlocks unlocks = passes status.Held (at_slot status.Outer of) (inl (ap (λ b. at_slot (held_if (not b)) of) (sym unlocks)))

  pub over_marks : callee.marks ≡ true → Among (Over status.IsHandle) (at_slot status.Purgeable of)
  over_marks marks =
      passes status.IsHandle (at_slot status.Purgeable of)
      (inr (among_left (also_if callee.marks status.Purgeable of)
      (also_if (callee.marks && callee.purges && not (is_slot_kept callee given of)) status.Hollow of) (at_slot status.Purgeable of)
      (among_also callee.marks status.Purgeable of marks)))

  pub over_marks_purges : callee.marks ≡ true → callee.purges ≡ true → is_slot_kept callee given of ≡ false
      → Among (Over status.IsHandle) (at_slot status.Hollow of)
  over_marks_purges marks purges unkept =
      passes status.IsHandle (at_slot status.Hollow of)
      (inr (among_right (also_if callee.marks status.Purgeable of)
      (also_if (callee.marks && callee.purges && not (is_slot_kept callee given of)) status.Hollow of) (at_slot status.Hollow of)
      (among_also (callee.marks && callee.purges && not (is_slot_kept callee given of)) status.Hollow of
      (ap (λ b. b && callee.purges && not (is_slot_kept callee given of)) marks
      ∙ ap (λ b. b && not (is_slot_kept callee given of)) purges ∙ ap not unkept))))

  pub over_purges : callee.purges ≡ true → is_slot_kept callee given of ≡ false → Among (Over status.Purgeable) (at_slot status.Hollow of)
  over_purges purges unkept =
      passes status.Purgeable (at_slot status.Hollow of)
      (inr (among_also (callee.purges && not (is_slot_kept callee given of)) status.Hollow of
      (ap (λ b. b && not (is_slot_kept callee given of)) purges ∙ ap not unkept)))

  pub over_fresh_stale : (h : ℕ) → callee.moves ≡ true → is_kept callee given h ≡ false → Among (Over (status.Fresh h)) (at_slot status.Stale of)
  over_fresh_stale h moves unkept =
      passes (status.Fresh h) (at_slot status.Stale of)
      (inr (among_also (callee.moves && not (is_kept callee given h)) status.Stale of
      (ap (λ b. b && not (is_kept callee given h)) moves ∙ ap not unkept)))

  pub over_held_stale : callee.moves ≡ true → callee.unlocks ≡ true → Among (Over status.Held) (at_slot status.Stale of)
  over_held_stale moves unlocks =
      passes status.Held (at_slot status.Stale of)
      (inr (among_also (callee.moves && callee.unlocks) status.Stale of (ap (λ b. b && callee.unlocks) moves ∙ unlocks)))

  pub over_outer_stale : callee.moves ≡ true → Among (Over status.Outer) (at_slot status.Stale of)
  over_outer_stale moves = passes status.Outer (at_slot status.Stale of) (inr (among_also callee.moves status.Stale of moves))

  pub over_loose_stale : callee.moves ≡ true → Among (Over status.Loose) (at_slot status.Stale of)
  over_loose_stale moves = passes status.Loose (at_slot status.Stale of) (inr (among_also callee.moves status.Stale of moves))

-- ---- enter

module _ (parameters : List (Option Slot)) (given : Given) where
  -- an argument goes to its parameter
  pub entered_argument : (place : ℕ) → base_of parameters given ≤ place
      → entered parameters given (slot.Place place) ≡ to_parameter (slice_get parameters (place - base_of parameters given))
  entered_argument place from =
      let outside : nat_lt place (base_of parameters given) ≡ false = grind (arith, nat_tests) in
      ap (λ b. if b then None else to_parameter (slice_get parameters (place - base_of parameters given))) outside

  pub enter_held : (h : ℕ) (of : Slot) → given.locked h ≡ true
      → enter_of parameters given (at_slot (status.Fresh h) of) ≡ at_some status.Held (entered parameters given of)
  enter_held h of locked = ap (λ b. at_some (held_if b) (entered parameters given of)) locked

  pub enter_outer : (h : ℕ) (of : Slot) → given.locked h ≡ false
      → enter_of parameters given (at_slot (status.Fresh h) of) ≡ at_some status.Outer (entered parameters given of)
  enter_outer h of unlocked = ap (λ b. at_some (held_if b) (entered parameters given of)) unlocked

  pub enter_loose : (of : Slot) → enter_of parameters given (at_slot status.Loose of) ≡ at_some status.Outer (entered parameters given of)
  enter_loose of = refl

  -- a status that enters as itself
  abbrev pub Enters : FactStatus → Type 0
  Enters (status.Fresh h) = ⊥
  Enters status.Loose = ⊥
  Enters status.SavedPurgeable = ⊥
  Enters _ = Unit {0}

  pub enter_stays : (its : FactStatus) (of : Slot) → Enters its
      → enter_of parameters given (at_slot its of) ≡ at_some its (entered parameters given of)
  enter_stays status.Reached of enters = refl
  enter_stays status.IsHandle of enters = refl
  enter_stays status.Purgeable of enters = refl
  enter_stays status.Hollow of enters = refl
  enter_stays status.SavedPurgeable of enters = absurd enters
  enter_stays (status.Fresh h) of enters = absurd enters
  enter_stays status.Held of enters = refl
  enter_stays status.Outer of enters = refl
  enter_stays status.Loose of enters = absurd enters
  enter_stays status.Stale of enters = refl

-- ---- leave

module _ (callee : Callee) (given : Given) where
  -- a name that the function may assign is lost
  pub back_assigned : (h : ℕ) → assigns_name callee given h ≡ true → back callee given (status.Fresh h) ≡ status.Loose
  back_assigned h assigned = ap (λ b. fresh_or_loose b h) assigned

  pub back_fresh : (h : ℕ) → assigns_name callee given h ≡ false → back callee given (status.Fresh h) ≡ status.Fresh h
  back_fresh h kept = ap (λ b. fresh_or_loose b h) kept

  -- a status without a name
  abbrev pub HasNoName : FactStatus → Type 0
  HasNoName (status.Fresh h) = ⊥
  HasNoName _ = Unit {0}

  pub back_stays : (its : FactStatus) → HasNoName its → back callee given its ≡ its
  back_stays status.Reached without = refl
  back_stays status.IsHandle without = refl
  back_stays status.Purgeable without = refl
  back_stays status.Hollow without = refl
  back_stays status.SavedPurgeable without = refl
  back_stays (status.Fresh h) without = absurd without
  back_stays status.Held without = refl
  back_stays status.Outer without = refl
  back_stays status.Loose without = refl
  back_stays status.Stale without = refl

  pub back_held : back_outer callee given status.Held ≡ status.Outer
  back_held = refl

  -- what the function may have unlocked is what it was in the caller, unless that one held it for a caller of its own
  pub back_others : (its : FactStatus) → (its ≡ status.Held → ⊥) → back_outer callee given its ≡ back callee given its
  back_others status.Reached other = refl
  back_others status.IsHandle other = refl
  back_others status.Purgeable other = refl
  back_others status.Hollow other = refl
  back_others status.SavedPurgeable other = refl
  back_others (status.Fresh h) other = refl
  back_others status.Held other = absurd (other refl)
  back_others status.Outer other = refl
  back_others status.Loose other = refl
  back_others status.Stale other = refl

  pub leave_fresh : (caller : Fact) (h : ℕ) (of : Slot)
      → leave_of callee given caller (at_slot (status.Fresh h) of) ≡ at_some status.Loose (left callee given of)
  leave_fresh caller h of = refl

  pub leave_held : (caller : Fact) (of : Slot)
      → leave_of callee given caller (at_slot status.Held of) ≡ at_some (back callee given caller.status) (left callee given of)
  leave_held caller of = refl

  pub leave_outer : (caller : Fact) (of : Slot)
      → leave_of callee given caller (at_slot status.Outer of) ≡ at_some (back_outer callee given caller.status) (left callee given of)
  leave_outer caller of = refl

  -- a status that leaves as itself
  abbrev pub Leaves : FactStatus → Type 0
  Leaves (status.Fresh h) = ⊥
  Leaves status.Held = ⊥
  Leaves status.Outer = ⊥
  Leaves status.SavedPurgeable = ⊥
  Leaves _ = Unit {0}

  pub leave_stays : (caller : Fact) (its : FactStatus) (of : Slot) → Leaves its
      → leave_of callee given caller (at_slot its of) ≡ at_some its (left callee given of)
  leave_stays caller status.Reached of leaves = refl
  leave_stays caller status.IsHandle of leaves = refl
  leave_stays caller status.Purgeable of leaves = refl
  leave_stays caller status.Hollow of leaves = refl
  leave_stays caller status.SavedPurgeable of leaves = absurd leaves
  leave_stays caller (status.Fresh h) of leaves = absurd leaves
  leave_stays caller status.Held of leaves = absurd leaves
  leave_stays caller status.Outer of leaves = absurd leaves
  leave_stays caller status.Loose of leaves = refl
  leave_stays caller status.Stale of leaves = refl
