-- The rule for an operation that changes no variable: facts of what is below its operands stay, and others come (own).
--     FrameOwes        what the operation owes
--     frame_true       the facts that it gives are then true
--     unsaid           a byte of which nothing is said
use Rattle.std.proofs.Common.{◌≡◌, ◌<◌, ◌≤◌, ◌⊎◌, inl, inr, ℕ, nat_le, Bool, true, false, List, Some, None, refl, sym, ap, ◌∙◌, arith}
use Rattle.std.proofs.lemmas.Bool.Decides.{nat_tests}
use Rattle.hs_calls.specs.Calls.{Here, moved, fixed_in}
use Rattle.hs_code.specs.Stacks.{Scope}
use Rattle.hs_code.specs.declared.function_code.FunctionCode.{FunctionCode}
use Rattle.hs_facts.specs.MustFacts.{Keeper, MustFact, With, Saved, Kept, Locked, Live, Distinct, New, on_stack, in_slot, Under, AreNames}
use Rattle.hs_heap.specs.declared.cell.Pointer.TheVariants.{Nil}
use Rattle.hs_hiding.specs.Holding.{Lacking, IsMade, HoldsHandle, IsPresent, value_of, IsAlive}
use Rattle.hs_meaning.specs.Machine.{Machine}
use Rattle.hs_meaning.specs.Values.{Value, pointer, state}
use Rattle.hs_tree.specs.declared.head.Variable.{Variable}
use Rattle.hs_truth.specs.Places.{OthersLack, at_place}
use Rattle.hs_truth.specs.Truth.{kept_in, AllTrue, Says, ByteTrue, byte_from, NewAt}

module _ (scope : Scope) (code : FunctionCode) (R Keep Brought : MustFact → Type 0) (first : ℕ) where
  -- what the operation gives: facts that it keeps, and facts that it brings
  abbrev pub GivenByFrame : MustFact → Type 0
  GivenByFrame fact = AreNames scope code fact × ((Keep fact × R fact) ⊎ Brought fact)

  -- kept on the stack, at that place or above it
  abbrev pub IsAbove : Keeper → Type 0
  IsAbove b = (i : ℕ) × (b ≡ on_stack i) × (first ≤ i)

  module _ (here : Here) (machine after : Machine) (since : ℕ → Type 0) (at : ℕ) (stack : List Value) (lasting : ℕ → Bool) where
    -- the call after the operation
    abbrev pub next : Here
    next = moved here at stack lasting

    -- What an operation owes that changes no variable: below the first place everything is as it was. `Keep` says which facts it keeps, and
    -- `Brought` which it brings.
    pub record FrameOwes : Type 0 where
      pub under : (fact : MustFact) → Keep fact → Under first fact
      pub places : (i : ℕ) → i < first → at_place i stack ≡ at_place i here.stack
      pub values : (x : Variable) → value_of after x ≡ value_of machine x
      pub made : (n : ℕ) → IsMade machine n → IsMade after n
      pub lasted : (n : ℕ) → lasting n ≡ true → IsPresent after n → (here.lasting n ≡ true) × IsPresent machine n
      -- facts that stay
      pub locked : (y : Variable) (n : ℕ) → Keep (Locked y) → HoldsHandle machine y n → fixed_in machine n ≡ true → fixed_in after n ≡ true
      pub live : (y : Variable) (n : ℕ) → Keep (Live y) → HoldsHandle machine y n → IsAlive machine n → IsAlive after n
      pub kept : (b : Keeper) (y : Variable) (n : ℕ) → Keep (Kept b y) → HoldsHandle machine y n → IsMade machine n → IsPresent after n
          → IsPresent machine n
      pub new : (i n : ℕ) → Keep (New i) → NewAt here machine i n → IsAlive after n × OthersLack n i stack × Lacking n after
      -- facts that come
      pub comes : (fact : MustFact) → AreNames scope code fact → Brought fact → Says next after fact
      pub saved_comes : (b : Keeper) (y : Variable) → Brought (Saved b y) → IsAbove b
      pub kept_comes : (b : Keeper) (y : Variable) (n : ℕ) → Brought (Kept b y)
          → IsAbove b ⊎ (HoldsHandle machine y n → ((z : Variable) → R (Saved b z) → HoldsHandle machine z n) → ⊥)
      pub top_bytes : (i byte : ℕ) → first ≤ i → at_place i stack ≡ Some (state byte) → ByteTrue GivenByFrame lasting after (on_stack i) byte since

    module _ (are : AllTrue R here machine since) (owes : FrameOwes) where
      holds_before : (y : Variable) (n : ℕ) → HoldsHandle after y n → HoldsHandle machine y n
      holds_before y n is = sym (owes.values y) ∙ is

      new_stays : (i : ℕ) → i < first → Keep (New i) → (at_place i here.stack ≡ Some (pointer Nil)) ⊎ ((n : ℕ) × NewAt here machine i n)
          → (at_place i stack ≡ Some (pointer Nil)) ⊎ ((n : ℕ) × NewAt next after i n)
      new_stays i low keep (inl nil) = inl (owes.places i low ∙ nil)
      new_stays i low keep (inr it) = inr (it.0, on (owes.new i it.0 keep it.1))
        where
          on : IsAlive after it.0 × OthersLack it.0 i stack × Lacking it.0 after → NewAt next after i it.0
          on now = record { holds = owes.places i low ∙ it.1.holds; alive = now.0; others = now.1; nowhere = now.2 }

      stays : (fact : MustFact) → Under first fact → Keep fact → Says here machine fact → Says next after fact
      stays (With i y) low keep old = (old.0, owes.places i low ∙ old.1, owes.values y ∙ old.2)
      stays (Locked y) low keep old = λ n holds. owes.locked y n keep (holds_before y n holds) (old n (holds_before y n holds))
      stays (Live y) low keep old =
          record {
            value = old.value;
            holds = owes.values y ∙ old.holds;
            alive = λ n is. owes.live y n keep (old.holds ∙ ap Some is) (old.alive n is);
          }
      stays (Distinct y z) low keep old = λ n one other. old n (holds_before y n one) (holds_before z n other)
      stays (New i) low keep old = new_stays i low keep old
      stays (Saved b y) low keep old = tt
      stays (Kept b y) low keep old = tt

      says_after : (fact : MustFact) → GivenByFrame fact → Says next after fact
      says_after fact (are_names, inl is) = stays fact (owes.under fact is.0) is.0 (are.says fact is.1)
      says_after fact (are_names, inr is) = owes.comes fact are_names is

      -- ---- bytes

      module _ (b : Keeper) (byte : ℕ) (low : IsAbove b → ⊥) where
        saved_old : (y : Variable) → GivenByFrame (Saved b y) → R (Saved b y) × (value_of after y ≡ value_of machine y)
        saved_old y (are_names, inl is) = (is.1, owes.values y)
        saved_old y (are_names, inr is) = absurd (low (owes.saved_comes b y is))

        kept_old : (y : Variable) (n : ℕ) → GivenByFrame (Kept b y) → HoldsHandle after y n → IsMade machine n → IsPresent after n
            → ((z : Variable) → R (Saved b z) → HoldsHandle machine z n)
            → (x : Variable) × R (Kept b x) × HoldsHandle machine x n × IsPresent machine n
        kept_old y n (are_names, inl is) holds made present origin =
            (y, is.1, holds_before y n holds, owes.kept b y n is.0 (holds_before y n holds) made present)
        kept_old y n (are_names, inr is) holds made present origin = absurd (by_either (owes.kept_comes b y n is))
          where
            by_either : IsAbove b ⊎ (HoldsHandle machine y n → ((z : Variable) → R (Saved b z) → HoldsHandle machine z n) → ⊥) → ⊥
            by_either (inl so) = low so
            by_either (inr never) = never (holds_before y n holds) origin

        byte_stays : ByteTrue R here.lasting machine b byte since → ByteTrue GivenByFrame lasting after b byte since
        byte_stays = byte_from R GivenByFrame here.lasting lasting machine after since b b byte owes.made saved_old owes.lasted kept_old

      no_slot : (b : Variable) → IsAbove (in_slot b) → ⊥
      no_slot b so = differ so.0 so.1
        where
          differ : (i : ℕ) → in_slot b ≡ on_stack i → ⊥
          differ i is = cc

      bytes_after : (b : Keeper) (byte : ℕ) → kept_in next after b ≡ Some (state byte) → ByteTrue GivenByFrame lasting after b byte since
      bytes_after (in_slot b) byte held = byte_stays (in_slot b) byte (no_slot b) (are.bytes (in_slot b) byte (sym (owes.values b) ∙ held))
      bytes_after (on_stack i) byte held = by_test (nat_le first i) refl
        where
          high : nat_le first i ≡ true → first ≤ i
          high is = grind (is, nat_tests, arith)

          under_it : nat_le first i ≡ false → i < first
          under_it is = grind (is, nat_tests, arith)

          one_place : (j : ℕ) → on_stack i ≡ on_stack j → i ≡ j
          one_place j is = cc

          not_above : i < first → IsAbove (on_stack i) → ⊥
          not_above low so = apart so.0 (one_place so.0 so.1) so.2
            where
              apart : (j : ℕ) → i ≡ j → first ≤ j → ⊥
              apart j is above = omega (is, above, low, arith)

          by_test : (z : Bool) → nat_le first i ≡ z → ByteTrue GivenByFrame lasting after (on_stack i) byte since
          by_test true is = owes.top_bytes i byte (high is) held
          by_test false is =
              byte_stays (on_stack i) byte (not_above (under_it is))
              (are.bytes (on_stack i) byte (sym (owes.places i (under_it is)) ∙ held))

      -- the facts that the operation gives are true
      pub frame_true : AllTrue GivenByFrame next after since
      frame_true = record { says = says_after; bytes = bytes_after }

    -- a byte of which nothing is said
    pub unsaid : (i byte : ℕ) → ((y : Variable) → GivenByFrame (Saved (on_stack i) y) → ⊥) → ((y : Variable) → GivenByFrame (Kept (on_stack i) y) → ⊥)
        → ByteTrue GivenByFrame lasting after (on_stack i) byte since
    unsaid i byte never never_kept =
        record {
          origin = None;
          there = λ n so. absurd cc;
          read = λ y n is. absurd (never y is);
          made = λ y n is. absurd (never y is);
          lasts = λ n block so. absurd cc;
          keeps = λ y n block is. absurd (never_kept y is);
          marks = λ n so. absurd cc;
        }
