-- The roles whose first argument is a handle that is not NIL (own).
--     OneBlock                       one block was changed
--     handle_true                    what such a role gives, from what it does to the block
use Rattle.std.proofs.Common.{◌≡◌, ◌<◌, ◌⊎◌, inl, inr, ℕ, ◌==◌, Bool, true, false, not, ◌&&◌, ◌||◌, List, ◌∷◌, length, Option, Some, refl, sym, ap, ◌∙◌, subst, arith}
use Rattle.std.proofs.lemmas.Bool.{and_parts}
use Rattle.std.proofs.lemmas.Bool.Decides.{nat_tests}
use Rattle.std.proofs.lemmas.Option.{same_Some}
use Rattle.hs_calls.specs.Calls.{Here, moved, is_fixed, fixed_in, steady_in}
use Rattle.hs_code.specs.Stacks.{Scope}
use Rattle.hs_code.specs.declared.function_code.FunctionCode.{FunctionCode}
use Rattle.hs_code_run.specs.Steps.{below}
use Rattle.hs_facts.specs.Changes.{StaysInRole, Apart}
use Rattle.hs_facts.specs.MustFacts.{MustFact, With, Saved, Kept, Locked, Live, Distinct, Keeper, on_stack, AreNames}
use Rattle.hs_heap.specs.Blocks.{Block, is_disposed}
use Rattle.hs_heap.specs.Memory.{block_at}
use Rattle.hs_heap.specs.Shift.{is_present, is_loose}
use Rattle.hs_heap.specs.declared.cell.Pointer.TheVariants.{Handle}
use Rattle.hs_hiding.specs.Holding.{Lacking, IsMade, HoldsHandle, IsPresent, Lacks, value_of, IsAlive}
use Rattle.hs_meaning.specs.Machine.{Machine}
use Rattle.hs_meaning.specs.Values.{Value, pointer, state}
use Rattle.hs_role_truth.specs.Roles.{GivenByRole, Brought, role_true}
use Rattle.hs_table.specs.declared.role.Role.{Role}
use Rattle.hs_tree.specs.declared.head.Variable.{Variable}
use Rattle.hs_truth.specs.Good.{is_old}
use Rattle.hs_truth.specs.Places.{others_below, at_place, below_place, others_at}
use Rattle.hs_truth.specs.Truth.{AllTrue, Says, ByteTrue, NewAt}

-- ---- one block

-- one block was changed, and no variable and no other block
pub record OneBlock (machine after : Machine) (n : ℕ) (before new : Block) : Type 0 where
  pub there : block_at machine.blocks n ≡ Some before
  pub now : block_at after.blocks n ≡ Some new
  pub others : (k : ℕ) → (k ≡ n → ⊥) → block_at after.blocks k ≡ block_at machine.blocks k
  pub values : (x : Variable) → value_of after x ≡ value_of machine x
  pub lacks : (k : ℕ) → Lacking k machine → Lacking k after

module _ (scope : Scope) (code : FunctionCode) (R : MustFact → Type 0) (r : Option Role) (first : ℕ) (here : Here) (machine after : Machine)
    (since : ℕ → Type 0) (are : AllTrue R here machine since) (at count : ℕ) (v : Value) (n : ℕ) (before new : Block)
    (deep : first ≡ length (below count here.stack)) (handle : at_place first here.stack ≡ Some (pointer (Handle n)))
    (one : OneBlock machine after n before new) (plain : (k : ℕ) → Lacks k v) where
  -- the stack below the arguments
  abbrev pub rest : List Value
  rest = below count here.stack

  -- the blocks that could not move since the call began, and cannot
  abbrev pub lasting : ℕ → Bool
  lasting k = here.lasting k && steady_in machine after k

  -- a name of the argument has the handle
  pub named : (x : Variable) → R (With first x) → HoldsHandle machine x n
  named x is = by_value (are.says (With first x) is)
    where
      by_value : (u : Value) × (at_place first here.stack ≡ Some u) × (value_of machine x ≡ Some u) → HoldsHandle machine x n
      by_value old = old.2 ∙ sym old.1 ∙ handle

  one_handle : (a b : ℕ) → ◌≡◌ {A = Option Value} (Some (pointer (Handle a))) (Some (pointer (Handle b))) → a ≡ b
  one_handle a b is = cc

  pub named_is : (x : Variable) (k : ℕ) → R (With first x) → HoldsHandle machine x k → k ≡ n
  named_is x k is holds = one_handle k n (sym holds ∙ named x is)

  pub apart_from : (y : Variable) (k : ℕ) → Apart R first y → HoldsHandle machine y k → k ≡ n → ⊥
  apart_from y k apart holds is =
      are.says (Distinct apart.0 y) apart.2 n (named apart.0 apart.1) (subst (HoldsHandle machine y) is holds)

  -- ---- other blocks, and the one

  fixed_other : (k : ℕ) → (k ≡ n → ⊥) → fixed_in machine k ≡ true → fixed_in after k ≡ true
  fixed_other k other is = ap is_fixed (one.others k other) ∙ is

  alive_other : (k : ℕ) → (k ≡ n → ⊥) → IsAlive machine k → IsAlive after k
  alive_other k other a = record { block = a.block; there = one.others k other ∙ a.there; alive = a.alive }

  pub alive_now : is_disposed new.presence ≡ false → IsAlive after n
  alive_now is = record { block = new; there = one.now; alive = is }

  present_other : (k : ℕ) → (k ≡ n → ⊥) → IsPresent after k → IsPresent machine k
  present_other k other p = record { block = p.block; there = sym (one.others k other) ∙ p.there; present = p.present }

  before_is : (k : ℕ) → k ≡ n → is_present before.presence ≡ true → IsPresent machine k
  before_is k is so = record { block = before; there = ap (block_at machine.blocks) is ∙ one.there; present = so }

  new_is : (k : ℕ) → k ≡ n → IsPresent after k → is_present new.presence ≡ true
  new_is k is p =
      ap (λ b. is_present b.presence) (same_Some new p.block (sym one.now ∙ ap (block_at after.blocks) (sym is) ∙ p.there)) ∙ p.present

  by_number : (k : ℕ) → (z : Bool) → (k == n) ≡ z → (k ≡ n) ⊎ (k ≡ n → ⊥)
  by_number k true is = inl (grind (is, nat_tests, arith))
  by_number k false is = inr (λ so. absurd (grind (is, so, nat_tests, arith)))

  either : (k : ℕ) → (k ≡ n) ⊎ (k ≡ n → ⊥)
  either k = by_number k (k == n) refl

  exists_after : (k : ℕ) → IsMade machine k → IsMade after k
  exists_after k e = by_either (either k)
    where
      by_either : (k ≡ n) ⊎ (k ≡ n → ⊥) → IsMade after k
      by_either (inl is) = record { block = new; there = ap (block_at after.blocks) is ∙ one.now }
      by_either (inr other) = record { block = e.block; there = one.others k other ∙ e.there }

  by_or : (a b : Bool) → (a || not b) ≡ true → b ≡ true → a ≡ true
  by_or true b is so = refl
  by_or false true is so = is
  by_or false false is so = so

  lasted : (k : ℕ) → lasting k ≡ true → IsPresent after k → (here.lasting k ≡ true) × IsPresent machine k
  lasted k is p = (parts.0, by_either (either k))
    where
      parts : (here.lasting k ≡ true) × (steady_in machine after k ≡ true)
      parts = and_parts (here.lasting k) (steady_in machine after k) is

      old : is_old (block_at machine.blocks k) (block_at after.blocks k) ≡ true
      old = (and_parts (fixed_in after k) (is_old (block_at machine.blocks k) (block_at after.blocks k)) parts.1).1

      by_either : (k ≡ n) ⊎ (k ≡ n → ⊥) → IsPresent machine k
      by_either (inl so) =
          before_is k so (by_or (is_present before.presence) (is_present new.presence)
          (ap (λ b. is_old b (Some new)) (sym (ap (block_at machine.blocks) so ∙ one.there))
          ∙ ap (is_old (block_at machine.blocks k)) (sym (ap (block_at after.blocks) so ∙ one.now)) ∙ old) (new_is k so p))
      by_either (inr other) = present_other k other p

  -- New is of another block
  new_other : (i k : ℕ) → i < length rest → NewAt here machine i k → k ≡ n → ⊥
  new_other i k low new is =
      others_at k i first (pointer (Handle n)) here.stack new.others handle (λ so. high so) (sym is)
    where
      high : first ≡ i → ⊥
      high so = omega (so, deep, low, arith)

  module _
      (locked_n : (y : Variable) → StaysInRole R r first (Locked y) → HoldsHandle machine y n → is_loose before ≡ false → is_loose new ≡ false)
      (live_n : (y : Variable) → StaysInRole R r first (Live y) → HoldsHandle machine y n → is_disposed before.presence ≡ false
      → is_disposed new.presence ≡ false)
      (kept_n : (b : Keeper) (y : Variable) → StaysInRole R r first (Kept b y) → HoldsHandle machine y n → is_present new.presence ≡ true
      → is_present before.presence ≡ true)
      (comes : (fact : MustFact) → AreNames scope code fact → Brought scope code R r false first fact → Says (moved here at (v ∷ rest) lasting) after fact)
      (saved_comes : (b : Keeper) (y : Variable) → Brought scope code R r false first (Saved b y) → b ≡ on_stack first)
      (kept_comes : (b : Keeper) (y : Variable) (k : ℕ) → Brought scope code R r false first (Kept b y)
      → (b ≡ on_stack first) ⊎ (HoldsHandle machine y k → ((z : Variable) → R (Saved b z) → HoldsHandle machine z k) → ⊥))
      (top_byte : (byte : ℕ) → v ≡ state byte → ByteTrue (GivenByRole scope code R r false first) lasting after (on_stack first) byte since) where
    loose_of : (z : Bool) → not z ≡ true → z ≡ false
    loose_of true is = sym is
    loose_of false is = refl

    fixed_n : (k : ℕ) → k ≡ n → (is_loose before ≡ false → is_loose new ≡ false) → fixed_in machine k ≡ true → fixed_in after k ≡ true
    fixed_n k is change fixed =
        ap is_fixed (ap (block_at after.blocks) is ∙ one.now)
        ∙ ap not (change (loose_of (is_loose before) (ap is_fixed (sym (ap (block_at machine.blocks) is ∙ one.there)) ∙ fixed)))

    locked_k : (y : Variable) (k : ℕ) → StaysInRole R r first (Locked y) → HoldsHandle machine y k → fixed_in machine k ≡ true
        → fixed_in after k ≡ true
    locked_k y k stay holds fixed = by_either (either k)
      where
        by_either : (k ≡ n) ⊎ (k ≡ n → ⊥) → fixed_in after k ≡ true
        by_either (inl is) = fixed_n k is (locked_n y stay (subst (HoldsHandle machine y) is holds)) fixed
        by_either (inr other) = fixed_other k other fixed

    live_k : (y : Variable) (k : ℕ) → StaysInRole R r first (Live y) → HoldsHandle machine y k → IsAlive machine k → IsAlive after k
    live_k y k stay holds a = by_either (either k)
      where
        by_either : (k ≡ n) ⊎ (k ≡ n → ⊥) → IsAlive after k
        by_either (inl is) =
            subst (IsAlive after) (sym is) (alive_now (live_n y stay (subst (HoldsHandle machine y) is holds)
            (ap (λ b. is_disposed b.presence) (same_Some before a.block (sym one.there ∙ ap (block_at machine.blocks) (sym is) ∙ a.there)) ∙ a.alive)))
        by_either (inr other) = alive_other k other a

    kept_k : (b : Keeper) (y : Variable) (k : ℕ) → StaysInRole R r first (Kept b y) → HoldsHandle machine y k → IsMade machine k
        → IsPresent after k → IsPresent machine k
    kept_k b y k stay holds e p = by_either (either k)
      where
        by_either : (k ≡ n) ⊎ (k ≡ n → ⊥) → IsPresent machine k
        by_either (inl is) = before_is k is (kept_n b y stay (subst (HoldsHandle machine y) is holds) (new_is k is p))
        by_either (inr other) = present_other k other p

    pub handle_true : AllTrue (GivenByRole scope code R r false first) (moved here at (v ∷ rest) lasting) after since
    handle_true =
        role_true scope code R r false first here machine after since at v rest lasting are
        (record {
          deep = deep;
          below = λ i low. below_place i count here.stack low;
          values = one.values;
          made = exists_after;
          lasted = lasted;
          locked = locked_k;
          live = live_k;
          kept = kept_k;
          new = λ i k low it.
              (alive_other k (new_other i k low it) it.alive, plain k, others_below k i count here.stack it.others, one.lacks k it.nowhere);
          comes = comes;
          saved_comes = saved_comes;
          kept_comes = kept_comes;
          top_byte = top_byte;
        })
