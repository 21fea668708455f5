-- The roles lock, unlock, realloc, set_state, get_state and dispose_handle of a handle that is not NIL (own).
--     changed_is       a block that a role changes
--     taking_true      a role that brings nothing of its own
--     unlock_true, realloc_true, dispose_true, put_true, lock_true, get_true
use Rattle.std.proofs.Common.{◌≡◌, ◌<◌, ◌⊎◌, inl, inr, ℕ, suc, nat_le, Bool, true, false, ◌∷◌, length, Option, Some, refl, sym, ap, ◌∙◌, subst, arith, ◌+◌, ◌%◌, not, ◌&&◌, Result, Ok, true≢false}
use Rattle.std.proofs.lemmas.Bool.{and_right, and_parts, not_from_true}
use Rattle.std.proofs.lemmas.Option.{same_Some}
use Rattle.hs_calls.specs.Calls.{Here, moved, fixed_in, steady_in, is_fixed}
use Rattle.hs_code.specs.Stacks.{Scope}
use Rattle.hs_code.specs.declared.function_code.FunctionCode.{FunctionCode}
use Rattle.hs_code_run.specs.Steps.{below}
use Rattle.hs_facts.specs.Changes.{Apart, IsRestore, StaysInRole, UsedIf, BroughtByRole}
use Rattle.hs_facts.specs.MustFacts.{Keeper, MustFact, With, Saved, Kept, Locked, Live, Distinct, New, on_stack, in_slot, AreNames}
use Rattle.hs_facts.specs.Names.{uses_handle}
use Rattle.hs_heap.specs.Blocks.{Block, standing, by_standing, changed, with_lock, with_state, state_of, bit, ended, is_disposed}
use Rattle.hs_heap.specs.Memory.{block_at}
use Rattle.hs_heap.specs.Shift.{is_present, is_loose}
use Rattle.hs_heap.specs.declared.cell.Pointer.TheVariants.{Handle}
use Rattle.hs_heap.specs.declared.presence.Presence.{Presence}
use Rattle.hs_heap.specs.declared.presence.Presence.TheVariants as presence
use Rattle.hs_heap.specs.declared.stop.HeapStop.{HeapStop}
use Rattle.hs_hiding.specs.Holding.{HoldsHandle, value_of, IsAlive}
use Rattle.hs_meaning.specs.Machine.{Machine}
use Rattle.hs_meaning.specs.Values.{Value, number, pointer, state}
use Rattle.hs_role_truth.specs.Handled.{OneBlock, handle_true}
use Rattle.hs_role_truth.specs.Roles.{GivenByRole, Brought}
use Rattle.hs_sound_heap.specs.Since.{is_marked}
use Rattle.hs_table.specs.declared.role.Role.{Role}
use Rattle.hs_table.specs.declared.role.Role.TheVariants as role
use Rattle.hs_tree.specs.declared.head.Variable.{Variable}
use Rattle.hs_truth.specs.Good.{is_old}
use Rattle.hs_truth.specs.Places.{at_place}
use Rattle.hs_truth.specs.Truth.{AllTrue, Says, ByteTrue, LiveValue}

-- ---- blocks

same_ok : (a b : Block) → ◌≡◌ {A = Result Block HeapStop} (Ok a) (Ok b) → a ≡ b
same_ok a b is = cc

-- a present block is changed, and an emptied one stays
pub changed_is : (change : Block → Block) (block new : Block) → changed change block ≡ Ok new
    → ((new ≡ change block) × (block.presence ≡ presence.Present)) ⊎ ((new ≡ block) × (block.presence ≡ presence.Emptied))
changed_is change block new is = by_presence block.presence refl is
  where
    by_presence : (it : Presence) → block.presence ≡ it → by_standing (change block) block (standing it) ≡ Ok new
        → ((new ≡ change block) × (block.presence ≡ presence.Present)) ⊎ ((new ≡ block) × (block.presence ≡ presence.Emptied))
    by_presence presence.Present so is = inl (sym (same_ok (change block) new is), so)
    by_presence presence.Emptied so is = inr (sym (same_ok block new is), so)
    by_presence presence.Purged so is = absurd cc
    by_presence presence.Disposed so is = absurd cc

not_loose : (block : Block) → is_present block.presence ≡ false → is_loose block ≡ false
not_loose block is = ap (λ z. z && not block.locked) is

locked_is : (block : Block) → is_loose block ≡ false → is_present block.presence ≡ true → block.locked ≡ true
locked_is block is present = by_both (is_present block.presence) block.locked is present
  where
    by_both : (a b : Bool) → (a && not b) ≡ false → a ≡ true → b ≡ true
    by_both true true is so = refl
    by_both true false is so = sym is
    by_both false b is so = absurd (true≢false (sym so))

-- the bits of a byte
high_bit : (l p : Bool) → l ≡ true → nat_le 128 (bit 128 l + bit 64 p) ≡ true
high_bit true true is = refl
high_bit true false is = refl
high_bit false p is = absurd (true≢false (sym is))

low_bit : (l p : Bool) → nat_le 64 ((bit 128 l + bit 64 p) % 128) ≡ true → p ≡ true
low_bit l true is = refl
low_bit true false is = is
low_bit false false is = is

module _ (scope : Scope) (code : FunctionCode) (R : MustFact → Type 0) (first : ℕ) (here : Here) (machine after : Machine)
    (since : ℕ → Type 0) (are : AllTrue R here machine since) (at count n : ℕ) (before new : Block)
    (deep : first ≡ length (below count here.stack)) (handle : at_place first here.stack ≡ Some (pointer (Handle n)))
    (one : OneBlock machine after n before new) where
  -- the blocks that lasted, and last
  abbrev pub lasting : ℕ → Bool
  lasting k = here.lasting k && steady_in machine after k

  -- the call after it
  abbrev pub next : Value → Here
  next v = moved here at (v ∷ below count here.stack) lasting

  named : (x : Variable) → R (With first x) → HoldsHandle machine x n
  named x is = by_value (are.says (With first x) is)
    where
      by_value : (u : Value) × (at_place first here.stack ≡ Some u) × (value_of machine x ≡ Some u) → HoldsHandle machine x n
      by_value old = old.2 ∙ sym old.1 ∙ handle

  number_is : (a b : ℕ) → ◌≡◌ {A = Option Value} (Some (pointer (Handle a))) (Some (pointer (Handle b))) → a ≡ b
  number_is a b is = cc

  value_is : (a b : ℕ) → ◌≡◌ {A = Value} (pointer (Handle a)) (pointer (Handle b)) → a ≡ b
  value_is a b is = cc

  never : (y : Variable) → Apart R first y → HoldsHandle machine y n → ⊥
  never y apart holds = are.says (Distinct apart.0 y) apart.2 n (named apart.0 apart.1) holds

  no_state : (bits byte : ℕ) → ◌≡◌ {A = Value} (number bits) (state byte) → ⊥
  no_state bits byte is = cc

  -- ---- a handle that is used is live

  used : (v : Value) (x : Variable) → is_disposed new.presence ≡ false → R (With first x) → LiveValue (next v) after x
  used v x alive is =
      record {
        value = pointer (Handle n);
        holds = one.values x ∙ named x is;
        alive = λ k so. subst (IsAlive after) (value_is n k so) (record { block = new; there = one.now; alive = alive });
      }

  used_comes : (z : Bool) (v : Value) → (z ≡ true → is_disposed new.presence ≡ false) → (fact : MustFact) → UsedIf R z first fact
      → Says (next v) after fact
  used_comes false v alive fact it = absurd it
  used_comes true v alive (Live x) it = used v x (alive refl) it
  used_comes true v alive (With i x) it = absurd it
  used_comes true v alive (Saved b x) it = tt
  used_comes true v alive (Kept b x) it = tt
  used_comes true v alive (Locked x) it = absurd it
  used_comes true v alive (Distinct x y) it = absurd it
  used_comes true v alive (New i) it = absurd it

  no_used_byte : (z : Bool) (b : Keeper) (y : Variable) → UsedIf R z first (Saved b y) ⊎ UsedIf R z first (Kept b y) → ⊥
  no_used_byte false b y (inl it) = it
  no_used_byte false b y (inr it) = it
  no_used_byte true b y (inl it) = it
  no_used_byte true b y (inr it) = it

  -- ---- a role that brings nothing of its own

  module _ (r : Option Role) (bits : ℕ) (none : (fact : MustFact) → BroughtByRole R r first fact → ⊥)
      (alive : uses_handle r ≡ true → is_disposed new.presence ≡ false)
      (locked_n : (y : Variable) → StaysInRole R r first (Locked y) → HoldsHandle machine y n → is_loose before ≡ false → is_loose new ≡ false)
      (live_n : (y : Variable) → StaysInRole R r first (Live y) → HoldsHandle machine y n → is_disposed before.presence ≡ false
      → is_disposed new.presence ≡ false)
      (kept_n : (b : Keeper) (y : Variable) → StaysInRole R r first (Kept b y) → HoldsHandle machine y n → is_present new.presence ≡ true
      → is_present before.presence ≡ true) where
    comes : (fact : MustFact) → AreNames scope code fact → Brought scope code R r false first fact → Says (next (number bits)) after fact
    comes fact names (inl it) = used_comes (uses_handle r) (number bits) alive fact it
    comes fact names (inr (inl it)) = absurd (none fact it)
    comes fact names (inr (inr it)) = absurd it

    no_saved : (b : Keeper) (y : Variable) → Brought scope code R r false first (Saved b y) → ⊥
    no_saved b y (inl it) = no_used_byte (uses_handle r) b y (inl it)
    no_saved b y (inr (inl it)) = none (Saved b y) it
    no_saved b y (inr (inr it)) = it

    no_kept : (b : Keeper) (y : Variable) → Brought scope code R r false first (Kept b y) → ⊥
    no_kept b y (inl it) = no_used_byte (uses_handle r) b y (inr it)
    no_kept b y (inr (inl it)) = none (Kept b y) it
    no_kept b y (inr (inr it)) = it

    pub taking_true : AllTrue (GivenByRole scope code R r false first) (next (number bits)) after since
    taking_true =
        handle_true scope code R r first here machine after since are at count (number bits) n before new deep handle one (λ k. tt)
        locked_n live_n kept_n comes (λ b y it. absurd (no_saved b y it)) (λ b y k it. absurd (no_kept b y it))
        (λ byte so. absurd (no_state bits byte so))

  -- ---- unlock and realloc: only names apart from the argument keep what they had

  pub unlock_true : (bits : ℕ) → is_disposed new.presence ≡ false
      → AllTrue (GivenByRole scope code R (Some role.Unlock) false first) (next (number bits)) after since
  unlock_true bits alive =
      taking_true (Some role.Unlock) bits (λ fact it. it) (λ uses. alive) (λ y stay holds old. absurd (never y stay holds))
      (λ y stay holds old. alive) (λ b y stay holds now. absurd (never y stay holds))

  pub realloc_true : (bits : ℕ) → is_disposed new.presence ≡ false
      → AllTrue (GivenByRole scope code R (Some role.Realloc) false first) (next (number bits)) after since
  realloc_true bits alive =
      taking_true (Some role.Realloc) bits (λ fact it. it) (λ uses. alive) (λ y stay holds old. absurd (never y stay holds))
      (λ y stay holds old. alive) (λ b y stay holds now. absurd (never y stay holds))

  -- ---- dispose_handle: only names apart from the argument stay live

  pub dispose_true : (bits : ℕ) → new ≡ ended before
      → AllTrue (GivenByRole scope code R (Some role.DisposeHandle) false first) (next (number bits)) after since
  dispose_true bits is =
      taking_true (Some role.DisposeHandle) bits (λ fact it. it) (λ uses. absurd cc) (λ y stay holds old. ap is_loose is)
      (λ y stay holds old. absurd (never y stay holds))
      (λ b y stay holds now. absurd (true≢false (sym now ∙ ap (λ b. is_present b.presence) is)))

  -- ---- set_state: also if the byte is put back on its handle, and Kept says so

  module _ (byte bits : ℕ) (saved : at_place (suc first) here.stack ≡ Some (state byte)) (is : with_state byte before ≡ Ok new)
      (alive : is_disposed new.presence ≡ false) where
    -- what the byte makes of the block
    abbrev Put : Type 0
    Put =
        ((new ≡ record before { locked = nat_le 128 byte; purgeable = nat_le 64 (byte % 128) }) × (before.presence ≡ presence.Present))
        ⊎ ((new ≡ before) × (before.presence ≡ presence.Emptied))

    put_is : Put
    put_is = changed_is (λ b. record b { locked = nat_le 128 byte; purgeable = nat_le 64 (byte % 128) }) before new is

    present_by : Put → is_present new.presence ≡ true → is_present before.presence ≡ true
    present_by (inl so) now = ap is_present so.1
    present_by (inr so) now = ap (λ b. is_present b.presence) (sym so.0) ∙ now

    -- the byte is of this block
    origin_is : IsRestore R first (suc first) → (are.bytes (on_stack (suc first)) byte saved).origin ≡ Some n
    origin_is restores = (are.bytes (on_stack (suc first)) byte saved).read restores.0 n restores.2 (named restores.0 restores.1)

    bit_of : (y : Variable) → IsRestore R first (suc first) → R (Kept (on_stack (suc first)) y) → HoldsHandle machine y n
        → is_present before.presence ≡ true → nat_le 128 byte ≡ true
    bit_of y restores so holds here_ =
        (are.bytes (on_stack (suc first)) byte saved).keeps y n before so holds (origin_is restores) one.there here_

    fixed_by : (y : Variable) → HoldsHandle machine y n → is_loose before ≡ false → Put
        → Apart R first y ⊎ (IsRestore R first (suc first) × R (Kept (on_stack (suc first)) y)) → is_loose new ≡ false
    fixed_by y holds old change (inl apart) = absurd (never y apart holds)
    fixed_by y holds old (inl so) (inr it) =
        ap is_loose so.0
        ∙ and_right (is_present before.presence) (not (nat_le 128 byte)) (not_from_true (nat_le 128 byte) (bit_of y it.0 it.1 holds (ap is_present so.1)))
    fixed_by y holds old (inr so) (inr it) = ap is_loose so.0 ∙ old

    pub put_true : AllTrue (GivenByRole scope code R (Some role.SetState) false first) (next (number bits)) after since
    put_true =
        taking_true (Some role.SetState) bits (λ fact it. it) (λ uses. alive) (λ y stay holds old. fixed_by y holds old put_is stay)
        (λ y stay holds old. alive) (λ b y stay holds now. present_by put_is now)

  -- ---- lock

  module _ (bits : ℕ) (is : with_lock true before ≡ Ok new) (alive : is_disposed new.presence ≡ false) where
    -- what the lock makes of the block
    abbrev LockedIt : Type 0
    LockedIt = ((new ≡ record before { locked = true }) × (before.presence ≡ presence.Present)) ⊎ ((new ≡ before) × (before.presence ≡ presence.Emptied))

    locked_it : LockedIt
    locked_it = changed_is (λ b. record b { locked = true }) before new is

    fixed_lock : LockedIt → is_loose new ≡ false
    fixed_lock (inl so) = ap is_loose so.0 ∙ and_right (is_present before.presence) false refl
    fixed_lock (inr so) = ap is_loose so.0 ∙ not_loose before (ap is_present so.1)

    present_lock : LockedIt → is_present new.presence ≡ true → is_present before.presence ≡ true
    present_lock (inl so) now = ap is_present so.1
    present_lock (inr so) now = ap (λ b. is_present b.presence) (sym so.0) ∙ now

    fixed_now : (k : ℕ) → k ≡ n → fixed_in after k ≡ true
    fixed_now k so = ap is_fixed (ap (block_at after.blocks) so ∙ one.now) ∙ ap not (fixed_lock locked_it)

    lock_comes : (fact : MustFact) → AreNames scope code fact → Brought scope code R (Some role.Lock) false first fact
        → Says (next (number bits)) after fact
    lock_comes fact names (inl it) = used_comes true (number bits) (λ so. alive) fact it
    lock_comes (Locked x) names (inr (inl it)) = λ k holds. fixed_now k (number_is k n (sym (sym (one.values x) ∙ holds) ∙ named x it))
    lock_comes (With i x) names (inr (inl it)) = absurd it
    lock_comes (Live x) names (inr (inl it)) = absurd it
    lock_comes (Distinct x y) names (inr (inl it)) = absurd it
    lock_comes (New i) names (inr (inl it)) = absurd it
    lock_comes (Saved b x) names (inr (inl it)) = tt
    lock_comes (Kept b x) names (inr (inl it)) = tt
    lock_comes fact names (inr (inr it)) = absurd it

    lock_saved : (b : Keeper) (y : Variable) → Brought scope code R (Some role.Lock) false first (Saved b y) → ⊥
    lock_saved b y (inl it) = it
    lock_saved b y (inr (inl it)) = it
    lock_saved b y (inr (inr it)) = it

    lock_kept : (b : Keeper) (y : Variable) (k : ℕ) → Brought scope code R (Some role.Lock) false first (Kept b y) → HoldsHandle machine y k
        → ((z : Variable) → R (Saved b z) → HoldsHandle machine z k) → ⊥
    lock_kept b y k (inl it) holds origin = it
    lock_kept b y k (inr (inl it)) holds origin =
        never it.2.0 it.2.2 (subst (HoldsHandle machine it.2.0) (number_is k n (sym holds ∙ named y it.0)) (origin it.2.0 it.2.1))
    lock_kept b y k (inr (inr it)) holds origin = it

    pub lock_true : AllTrue (GivenByRole scope code R (Some role.Lock) false first) (next (number bits)) after since
    lock_true =
        handle_true scope code R (Some role.Lock) first here machine after since are at count (number bits) n before new deep handle one (λ k. tt)
        (λ y stay holds old. fixed_lock locked_it) (λ y stay holds old. alive) (λ b y stay holds now. present_lock locked_it now) lock_comes
        (λ b y it. absurd (lock_saved b y it)) (λ b y k it. inr (lock_kept b y k it)) (λ byte so. absurd (no_state bits byte so))

  -- ---- get_state: the heap stays, and the byte is of this block

  pub get_true : (byte : ℕ) → is_disposed new.presence ≡ false → state_of before ≡ Ok byte → new ≡ before → (is_marked before ≡ true → since n)
      → AllTrue (GivenByRole scope code R (Some role.GetState) false first) (next (state byte)) after since
  get_true byte alive is same marked =
      handle_true scope code R (Some role.GetState) first here machine after since are at count (state byte) n before new deep handle one (λ k. tt)
      (λ y stay holds old. ap is_loose same ∙ old) (λ y stay holds old. alive) (λ b y stay holds now. ap (λ b. is_present b.presence) (sym same) ∙ now) comes
      (λ b y it. no_saved b y it) (λ b y k it. inl (no_kept b y it)) top
    where
      comes : (fact : MustFact) → AreNames scope code fact → Brought scope code R (Some role.GetState) false first fact
          → Says (next (state byte)) after fact
      comes fact names (inl it) = used_comes true (state byte) (λ so. alive) fact it
      comes (With i x) names (inr (inl it)) = absurd it
      comes (Locked x) names (inr (inl it)) = absurd it
      comes (Live x) names (inr (inl it)) = absurd it
      comes (Distinct x y) names (inr (inl it)) = absurd it
      comes (New i) names (inr (inl it)) = absurd it
      comes (Saved b x) names (inr (inl it)) = tt
      comes (Kept b x) names (inr (inl it)) = tt
      comes fact names (inr (inr it)) = absurd it

      no_saved : (b : Keeper) (y : Variable) → Brought scope code R (Some role.GetState) false first (Saved b y) → b ≡ on_stack first
      no_saved b y (inl it) = absurd it
      no_saved (on_stack i) y (inr (inl it)) = ap on_stack it.0
      no_saved (in_slot b) y (inr (inl it)) = absurd it
      no_saved b y (inr (inr it)) = absurd it

      no_kept : (b : Keeper) (y : Variable) → Brought scope code R (Some role.GetState) false first (Kept b y) → b ≡ on_stack first
      no_kept b y (inl it) = absurd it
      no_kept (on_stack i) y (inr (inl it)) = ap on_stack it.0
      no_kept (in_slot b) y (inr (inl it)) = absurd it
      no_kept b y (inr (inr it)) = absurd it

      same_byte : (a b : ℕ) → ◌≡◌ {A = Value} (state a) (state b) → a ≡ b
      same_byte a b so = cc

      same_number : (a b : ℕ) → ◌≡◌ {A = Result ℕ HeapStop} (Ok a) (Ok b) → a ≡ b
      same_number a b so = cc

      -- its bits, if the block is present
      bits : (it : Presence) → before.presence ≡ it → is_present it ≡ true
          → by_standing (bit 128 before.locked + bit 64 before.purgeable) 0 (standing it) ≡ Ok byte → bit 128 before.locked + bit 64 before.purgeable ≡ byte
      bits presence.Present so here_ is = same_number (bit 128 before.locked + bit 64 before.purgeable) byte is
      bits presence.Emptied so here_ is = absurd (true≢false (sym here_))
      bits presence.Purged so here_ is = absurd (true≢false (sym here_))
      bits presence.Disposed so here_ is = absurd (true≢false (sym here_))

      high : is_present before.presence ≡ true → is_loose before ≡ false → nat_le 128 byte ≡ true
      high here_ fixed =
          ap (nat_le 128) (sym (bits before.presence refl here_ is)) ∙ high_bit before.locked before.purgeable (locked_is before fixed here_)

      no_bit : nat_le 64 (0 % 128) ≡ true → ⊥
      no_bit so = absurd cc

      low : (it : Presence) → before.presence ≡ it → by_standing (bit 128 before.locked + bit 64 before.purgeable) 0 (standing it) ≡ Ok byte
          → nat_le 64 (byte % 128) ≡ true → is_marked before ≡ true
      low presence.Present so is bit_ =
          ap (λ z. z && before.purgeable) (ap is_present so)
          ∙ low_bit before.locked before.purgeable
          (ap (λ b. nat_le 64 (b % 128)) (same_number (bit 128 before.locked + bit 64 before.purgeable) byte is) ∙ bit_)
      low presence.Emptied so is bit_ = absurd (no_bit (ap (λ b. nat_le 64 (b % 128)) (same_number 0 byte is) ∙ bit_))
      low presence.Purged so is bit_ = absurd cc
      low presence.Disposed so is bit_ = absurd cc

      loose_of : (z : Bool) → not z ≡ true → z ≡ false
      loose_of true is = sym is
      loose_of false is = refl

      -- a block that is fixed now, and that is this one
      loose_now : (k : ℕ) (block : Block) → Some n ≡ Some k → block_at after.blocks k ≡ Some block → fixed_in after k ≡ true → is_loose before ≡ false
      loose_now k block so there fixed =
          ap is_loose (sym same) ∙ loose_of (is_loose new) (ap is_fixed (sym (ap (block_at after.blocks) (sym (same_Some n k so)) ∙ one.now)) ∙ fixed)

      present_now : (k : ℕ) (block : Block) → Some n ≡ Some k → block_at after.blocks k ≡ Some block → is_present block.presence ≡ true
          → is_present before.presence ≡ true
      present_now k block so there here_ =
          ap (λ b. is_present b.presence)
          (sym same ∙ same_Some new block (sym one.now ∙ ap (block_at after.blocks) (same_Some n k so) ∙ there)) ∙ here_

      not_less : first < first → ⊥
      not_less so = omega (so, arith)

      saved_named : (x : Variable) → GivenByRole scope code R (Some role.GetState) false first (Saved (on_stack first) x) → HoldsHandle machine x n
      saved_named x (names, inl it) = absurd (not_less it.0.0)
      saved_named x (names, inr (inl it)) = absurd it
      saved_named x (names, inr (inr (inl it))) = named x it.1
      saved_named x (names, inr (inr (inr it))) = absurd it

      kept_locked : (y : Variable) (k : ℕ) → GivenByRole scope code R (Some role.GetState) false first (Kept (on_stack first) y) → HoldsHandle machine y k
          → fixed_in machine k ≡ true
      kept_locked y k (names, inl it) holds = absurd (not_less it.0.0)
      kept_locked y k (names, inr (inl it)) holds = absurd it
      kept_locked y k (names, inr (inr (inl it))) holds = are.says (Locked y) it.1 k holds
      kept_locked y k (names, inr (inr (inr it))) holds = absurd it

      loose_then : (k : ℕ) → Some n ≡ Some k → fixed_in machine k ≡ true → is_loose before ≡ false
      loose_then k so fixed = loose_of (is_loose before) (ap is_fixed (sym (ap (block_at machine.blocks) (sym (same_Some n k so)) ∙ one.there)) ∙ fixed)

      the_byte : ByteTrue (GivenByRole scope code R (Some role.GetState) false first) lasting after (on_stack first) byte since
      the_byte =
          record {
            origin = Some n;
            there = λ k so. record { block = new; there = ap (block_at after.blocks) (sym (same_Some n k so)) ∙ one.now };
            read = λ x k given holds. ap Some (sym (number_is k n (sym (sym (one.values x) ∙ holds) ∙ saved_named x given)));
            made = λ x k given so. one.values x ∙ subst (HoldsHandle machine x) (same_Some n k so) (saved_named x given);
            lasts = λ k block so lasts there here_.
                high (present_now k block so there here_)
                (loose_now k block so there (and_parts (fixed_in after k) (is_old (block_at machine.blocks k) (block_at after.blocks k))
                (and_parts (here.lasting k) (steady_in machine after k) lasts).1).0);
            keeps = λ y k block given holds so there here_.
                high (present_now k block so there here_) (loose_then k so (kept_locked y k given (sym (one.values y) ∙ holds)));
            marks = λ k so bit_. subst since (same_Some n k so) (marked (low before.presence refl is bit_));
          }

      top : (other : ℕ) → state byte ≡ state other
          → ByteTrue (GivenByRole scope code R (Some role.GetState) false first) lasting after (on_stack first) other since
      top other so =
          subst (λ b. ByteTrue (GivenByRole scope code R (Some role.GetState) false first) lasting after (on_stack first) b since)
          (same_byte byte other so) the_byte
