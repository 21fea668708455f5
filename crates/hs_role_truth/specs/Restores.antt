-- A state byte that is put back on its handle: what it owes to the calls, which needs the must facts (own).
--     restore_heap            the blocks, seen from the call
--     restore_steady          what could not move since the call began still cannot
--     marked_since            what a purgeable bit that is read shows of the begin of the call
use Rattle.std.proofs.Common.{◌≡◌, ◌⊎◌, inl, inr, ℕ, zero, suc, ◌%◌, ◌==◌, nat_le, Bool, true, false, not, ◌&&◌, ◌||◌, List, ◌∷◌, slice_get, Option, Some, None, Ok, refl, sym, ap, ◌∙◌, subst, arith, true≢false}
use Rattle.std.proofs.lemmas.Bool.{and_right, not_from_true}
use Rattle.std.proofs.lemmas.Bool.Decides.{nat_tests}
use Rattle.std.proofs.lemmas.Option.{none-some, same_Some}
use Rattle.hs_calls.specs.Calls.{Here, Wait, is_fixed, fixed_in, steady_in}
use Rattle.hs_code_run.specs.Codes.{CodeProgram, scope_of}
use Rattle.hs_facts.specs.Changes.{Impact, IsRestore}
use Rattle.hs_facts.specs.MustFacts.{With, on_stack}
use Rattle.hs_facts.specs.Rounds.{HoldsIn}
use Rattle.hs_heap.specs.Blocks.{Block, with_state}
use Rattle.hs_heap.specs.Memory.{block_at}
use Rattle.hs_heap.specs.Shift.{is_present, is_loose}
use Rattle.hs_heap.specs.declared.cell.Pointer.TheVariants.{Handle}
use Rattle.hs_heap.specs.declared.presence.Presence.TheVariants as presence
use Rattle.hs_hiding.specs.Holding.{IsMade, HoldsHandle, value_of}
use Rattle.hs_meaning.specs.Laws.Changes.{Left}
use Rattle.hs_meaning.specs.Machine.{Machine}
use Rattle.hs_meaning.specs.Values.{Value, pointer, state}
use Rattle.hs_role_truth.specs.Handled.{OneBlock}
use Rattle.hs_role_truth.specs.Handles.{changed_is}
use Rattle.hs_sound_heap.specs.Roles.{restored}
use Rattle.hs_sound_heap.specs.Since.{May, BlockSince, Since, IsThere, is_marked}
use Rattle.hs_truth.specs.Good.{is_old, Good}
use Rattle.hs_truth.specs.Linked.{since_of, Linked, Marked}
use Rattle.hs_truth.specs.Places.{at_place}
use Rattle.hs_truth.specs.Truth.{AllTrue, ByteTrue}

module _ (program : CodeProgram) (may : ℕ → May) (sets : ℕ → ℕ → Bool) (impact : Impact) (here : Here) (machine after : Machine) (w : Wait)
    (ws : List Wait) (good : Good program may sets impact here machine (w ∷ ws)) (link : Linked may sets here machine w) (place n byte : ℕ)
    (before new : Block) (one : OneBlock machine after n before new) (is : with_state byte before ≡ Ok new)
    (handle : at_place place here.stack ≡ Some (pointer (Handle n))) (saved : at_place (suc place) here.stack ≡ Some (state byte))
    (restores : IsRestore
    (HoldsIn (scope_of program here.function) here.function.code impact good.round here.at) place (suc place)) where
  are : AllTrue (HoldsIn (scope_of program here.function) here.function.code impact good.round here.at) here machine (since_of may sets here.fn (w ∷ ws))
  are = good.facts good.round (omega arith)

  its_byte : ByteTrue (HoldsIn (scope_of program here.function) here.function.code impact good.round here.at) here.lasting machine (on_stack (suc place)) byte
      (since_of may sets here.fn (w ∷ ws))
  its_byte = are.bytes (on_stack (suc place)) byte saved

  named : HoldsHandle machine restores.0 n
  named = by_value (are.says (With place restores.0) restores.1)
    where
      by_value : (u : Value) × (at_place place here.stack ≡ Some u) × (value_of machine restores.0 ≡ Some u) → HoldsHandle machine restores.0 n
      by_value old = old.2 ∙ sym old.1 ∙ handle

  origin_is : its_byte.origin ≡ Some n
  origin_is = its_byte.read restores.0 n restores.2 named

  -- ---- the block, seen from the call

  module _ (was : Block) (then_ : block_at w.machine.blocks n ≡ Some was) where
    lock_bit : is_present before.presence ≡ true → (may here.fn).unlocks ≡ false → is_loose was ≡ false → nat_le 128 byte ≡ true
    lock_bit here_ none fixed =
        its_byte.lasts n before origin_is (link.through none n (ap is_fixed then_ ∙ ap not fixed)) one.there here_

    mark_bit : (may here.fn).marks ≡ false → nat_le 64 (byte % 128) ≡ true → is_marked was ≡ true
    mark_bit none bit = by_since (its_byte.marks n origin_is bit)
      where
        by_since : (IsMade w.machine n → ⊥) ⊎ Marked may sets w.machine n ⊎ ((may here.fn).marks ≡ true) → is_marked was ≡ true
        by_since (inl never) = absurd (never (record { block = was; there = then_ }))
        by_since (inr (inl it)) = ap is_marked (same_Some was it.block (sym then_ ∙ it.there)) ∙ it.marked
        by_since (inr (inr so)) = absurd (true≢false (sym so ∙ none))

    block_since : BlockSince (may here.fn) was before → BlockSince (may here.fn) was new
    block_since old = subst (Left (BlockSince (may here.fn)) was) is (restored (may here.fn) was before byte old lock_bit mark_bit)

  by_number : (k : ℕ) (z : Bool) → (k == n) ≡ z → (k ≡ n) ⊎ (k ≡ n → ⊥)
  by_number k true so = inl (grind (so, nat_tests, arith))
  by_number k false so = inr (λ same. absurd (grind (so, same, nat_tests, arith)))

  pub restore_heap : Since (may here.fn) w.machine.blocks after.blocks
  restore_heap k was found = on (link.heap k was found) (by_number (suc k) (suc k == n) refl)
    where
      on : IsThere (may here.fn) was (slice_get machine.blocks k) → (suc k ≡ n) ⊎ (suc k ≡ n → ⊥) → IsThere (may here.fn) was (slice_get after.blocks k)
      on x (inl same) =
          record {
            block = new;
            there = ap (block_at after.blocks) same ∙ one.now;
            since = block_since was (ap (block_at w.machine.blocks) (sym same) ∙ found)
                (subst (BlockSince (may here.fn) was) (same_Some x.block before (sym x.there ∙ ap (block_at machine.blocks) same ∙ one.there)) x.since);
          }
      on x (inr other) = record { block = x.block; there = one.others (suc k) other ∙ x.there; since = x.since }

  -- ---- what lasted

  both_so : (a b : Bool) → a ≡ true → b ≡ true → (a && b) ≡ true
  both_so true b one other = other
  both_so false b one other = one

  loose_of : (z : Bool) → not z ≡ true → z ≡ false
  loose_of true so = sym so
  loose_of false so = refl

  old_same : (found : Option Block) → is_old found found ≡ true
  old_same None = refl
  old_same (Some b) = by_bit (is_present b.presence)
    where
      by_bit : (z : Bool) → (z || not z) ≡ true
      by_bit true = refl
      by_bit false = refl

  old_by : (a b : Bool) → (b ≡ true → a ≡ true) → (a || not b) ≡ true
  old_by true b each = refl
  old_by false true each = each refl
  old_by false false each = refl

  restored_block : ((new ≡ record before { locked = nat_le 128 byte; purgeable = nat_le 64 (byte % 128) }) × (before.presence ≡ presence.Present))
      ⊎ ((new ≡ before) × (before.presence ≡ presence.Emptied)) → here.lasting n ≡ true → is_loose before ≡ false
      → (is_loose new ≡ false) × (is_present new.presence ≡ true → is_present before.presence ≡ true)
  restored_block (inl so) lasting fixed = (
    ap is_loose so.0
        ∙ and_right (is_present before.presence) (not (nat_le 128 byte))
        (not_from_true (nat_le 128 byte) (its_byte.lasts n before origin_is lasting one.there (ap is_present so.1))),
    λ now. ap is_present so.1,
  )
  restored_block (inr so) lasting fixed = (ap is_loose so.0 ∙ fixed, λ now. ap (λ b. is_present b.presence) (sym so.0) ∙ now)

  pub restore_steady : (k : ℕ) → here.lasting k ≡ true → steady_in machine after k ≡ true
  restore_steady k lasting = by_either (by_number k (k == n) refl)
    where
      fixed : fixed_in machine k ≡ true
      fixed = good.lasts k lasting

      by_block : k ≡ n → (is_loose new ≡ false) × (is_present new.presence ≡ true → is_present before.presence ≡ true) → steady_in machine after k ≡ true
      by_block same it =
          both_so (fixed_in after k) (is_old (block_at machine.blocks k) (block_at after.blocks k))
          (ap is_fixed (ap (block_at after.blocks) same ∙ one.now) ∙ ap not it.0)
          (ap (λ b. is_old b (block_at after.blocks k)) (ap (block_at machine.blocks) same ∙ one.there)
          ∙ ap (is_old (Some before)) (ap (block_at after.blocks) same ∙ one.now)
          ∙ old_by (is_present before.presence) (is_present new.presence) it.1)

      by_either : (k ≡ n) ⊎ (k ≡ n → ⊥) → steady_in machine after k ≡ true
      by_either (inl same) =
          by_block same (restored_block (changed_is (λ b. record b { locked = nat_le 128 byte; purgeable = nat_le 64 (byte % 128) }) before new is)
          (subst (λ m. here.lasting m ≡ true) same lasting)
          (loose_of (is_loose before) (ap is_fixed (sym (ap (block_at machine.blocks) same ∙ one.there)) ∙ fixed)))
      by_either (inr other) =
          both_so (fixed_in after k) (is_old (block_at machine.blocks k) (block_at after.blocks k))
          (ap is_fixed (one.others k other) ∙ fixed)
          (ap (is_old (block_at machine.blocks k)) (one.others k other) ∙ old_same (block_at machine.blocks k))

-- ---- get_state: what a purgeable bit shows of the beginning of the call

pub marked_since : (may : ℕ → May) (sets : ℕ → ℕ → Bool) (here : Here) (machine : Machine) (w : Wait) (ws : List Wait) (n : ℕ) (before : Block)
    → Linked may sets here machine w → block_at machine.blocks n ≡ Some before → is_marked before ≡ true → since_of may sets here.fn (w ∷ ws) n
marked_since may sets here machine w ws zero before link there marked = absurd (none-some before there)
marked_since may sets here machine w ws (suc k) before link there marked = by_old (slice_get w.machine.blocks k) refl
  where
    by_marks : (was : Block) → slice_get w.machine.blocks k ≡ Some was → IsThere (may here.fn) was (slice_get machine.blocks k) → (z : Bool)
        → (may here.fn).marks ≡ z → since_of may sets here.fn (w ∷ ws) (suc k)
    by_marks was found x true so = inr (inr so)
    by_marks was found x false none =
        inr (inl (record {
          block = was;
          there = found;
          marked = x.since.purgeable none (ap is_marked (same_Some x.block before (sym x.there ∙ there)) ∙ marked);
        }))

    by_old : (old : Option Block) → slice_get w.machine.blocks k ≡ old → since_of may sets here.fn (w ∷ ws) (suc k)
    by_old None found = inl (λ e. none-some e.block (sym found ∙ e.there))
    by_old (Some was) found = by_marks was found (link.heap k was found) (may here.fn).marks refl
