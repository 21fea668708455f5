-- An operation that changes no variable, unlocks nothing and disposes of nothing (own).
--     QuietOwes        what is left to show
--     quiet_true       the facts that it gives are then true
--     bare_true        the same of one that brings nothing
use Rattle.std.proofs.Common.{◌≡◌, ◌<◌, ◌≤◌, ◌⊎◌, inl, inr, ℕ, Bool, true, false, List, Option, Some, None, refl, sym, ◌∙◌, subst, arith, ◌&&◌, true≢false}
use Rattle.std.proofs.lemmas.Bool.{and_parts}
use Rattle.hs_calls.specs.Calls.{Here, moved, fixed_in, is_fixed, steady_in}
use Rattle.hs_code.specs.Stacks.{Scope}
use Rattle.hs_code.specs.declared.function_code.FunctionCode.{FunctionCode}
use Rattle.hs_facts.specs.MustFacts.{Keeper, MustFact, With, Saved, Kept, Locked, Live, Distinct, New, on_stack, Under, AreNames}
use Rattle.hs_heap.specs.Blocks.{Block}
use Rattle.hs_heap.specs.Memory.{block_at}
use Rattle.hs_hiding.specs.Blocks.{alive_since, made_since, present_since}
use Rattle.hs_hiding.specs.Holding.{Lacking, IsMade, HoldsHandle, IsPresent, value_of}
use Rattle.hs_meaning.specs.Machine.{Machine}
use Rattle.hs_meaning.specs.Values.{Value, state}
use Rattle.hs_sound_heap.specs.Since.{May, Since}
use Rattle.hs_tree.specs.declared.head.Variable.{Variable}
use Rattle.hs_truth.specs.Frames.{frame_true, GivenByFrame, IsAbove, unsaid}
use Rattle.hs_truth.specs.Good.{is_old}
use Rattle.hs_truth.specs.Owing.{steady_since}
use Rattle.hs_truth.specs.Places.{OthersLack, at_place}
use Rattle.hs_truth.specs.Truth.{kept_in, AllTrue, Says, ByteTrue, byte_from, LiveValue, NewAt}

-- no fact of a place with the value of a name, and none of a byte
abbrev pub IsPlain : MustFact → Type 0
IsPlain (With i x) = ⊥
IsPlain (Saved b x) = ⊥
IsPlain (Kept b x) = ⊥
IsPlain fact = Unit {0}

module _ (scope : Scope) (code : FunctionCode) (R Keep Brought : MustFact → Type 0) (first : ℕ) (here : Here) (machine after : Machine)
    (since : ℕ → Type 0) (are : AllTrue R here machine since) (at : ℕ) (stack : List Value)
    (lasts : (n : ℕ) → here.lasting n ≡ true → fixed_in machine n ≡ true) (values : (x : Variable) → value_of after x ≡ value_of machine x)
    (may : May) (heap : Since may machine.blocks after.blocks) (no_unlocks : may.unlocks ≡ false) (no_disposes : may.disposes ≡ false) where
  -- the blocks that could not move since the call began, and cannot
  abbrev pub lasting : ℕ → Bool
  lasting k = here.lasting k && steady_in machine after k

  -- the call after it
  abbrev pub next : Here
  next = moved here at stack lasting

  -- what is left to show
  pub record QuietOwes : Type 0 where
    pub under : (fact : MustFact) → Keep fact → Under first fact
    pub places : (i : ℕ) → i < first → at_place i stack ≡ at_place i here.stack
    pub others : (i n : ℕ) → Keep (New i) → NewAt here machine i n → OthersLack n i stack × Lacking n after
    pub comes : (fact : MustFact) → AreNames scope code fact → Brought fact → Says next after fact
    pub saved_comes : (b : Keeper) (y : Variable) → Brought (Saved b y) → IsAbove scope code R Keep Brought first b
    pub kept_comes : (b : Keeper) (y : Variable) (n : ℕ) → Brought (Kept b y) → IsAbove scope code R Keep Brought first b
        ⊎ (HoldsHandle machine y n → ((z : Variable) → R (Saved b z) → HoldsHandle machine z n) → ⊥)
    pub top_bytes : (i byte : ℕ) → first ≤ i → at_place i stack ≡ Some (state byte)
        → ByteTrue (GivenByFrame scope code R Keep Brought first) lasting after (on_stack i) byte since

  there_of : (n : ℕ) → fixed_in machine n ≡ true → IsMade machine n
  there_of n is = by_block (block_at machine.blocks n) refl is
    where
      by_block : (found : Option Block) → block_at machine.blocks n ≡ found → is_fixed found ≡ true → IsMade machine n
      by_block None there is = absurd (true≢false (sym is))
      by_block (Some b) there is = record { block = b; there = there }

  fixed_after : (n : ℕ) → fixed_in machine n ≡ true → fixed_in after n ≡ true
  fixed_after n is =
      (and_parts (fixed_in after n) (is_old (block_at machine.blocks n) (block_at after.blocks n)) (steady_since may machine after n heap no_unlocks is)).0

  lasted : (k : ℕ) → (here.lasting k && steady_in machine after k) ≡ true → IsPresent after k → (here.lasting k ≡ true) × IsPresent machine k
  lasted k is p = (old, present_since may machine after k heap no_unlocks (there_of k (lasts k old)) p)
    where
      old : here.lasting k ≡ true
      old = (and_parts (here.lasting k) (steady_in machine after k) is).0

  -- the facts that it gives are true
  pub quiet_true : QuietOwes → AllTrue (GivenByFrame scope code R Keep Brought first) next after since
  quiet_true owes =
      frame_true scope code R Keep Brought first here machine after since at stack lasting are
      (record {
        under = owes.under;
        places = owes.places;
        values = values;
        made = λ n e. made_since may machine after n heap e;
        lasted = lasted;
        locked = λ y n keep holds fixed. fixed_after n fixed;
        live = λ y n keep holds a. alive_since may machine after n heap no_disposes a;
        kept = λ b y n keep holds e p. present_since may machine after n heap no_unlocks e p;
        new = λ i n keep it. (alive_since may machine after n heap no_disposes it.alive, (owes.others i n keep it).0, (owes.others i n keep it).1);
        comes = owes.comes;
        saved_comes = owes.saved_comes;
        kept_comes = owes.kept_comes;
        top_bytes = owes.top_bytes;
      })

  not_both : (i : ℕ) → i < first → first ≤ i → ⊥
  not_both i low high = omega (low, high, arith)

  -- an operation that brings nothing
  pub bare_true : ((fact : MustFact) → Keep fact → Under first fact) → ((i : ℕ) → i < first → at_place i stack ≡ at_place i here.stack)
      → ((i n : ℕ) → Keep (New i) → NewAt here machine i n → OthersLack n i stack × Lacking n after) → ((fact : MustFact) → Brought fact → ⊥)
      → AllTrue (GivenByFrame scope code R Keep Brought first) next after since
  bare_true under places others none =
      quiet_true
      (record {
        under = under;
        places = places;
        others = others;
        comes = λ fact names it. absurd (none fact it);
        saved_comes = λ b y it. absurd (none (Saved b y) it);
        kept_comes = λ b y n it. absurd (none (Kept b y) it);
        top_bytes = λ i byte high held.
            unsaid scope code R Keep Brought first here machine after since at stack lasting i byte (never_saved i high) (never_kept i high);
      })
    where
      never_saved : (i : ℕ) → first ≤ i → (y : Variable) → GivenByFrame scope code R Keep Brought first (Saved (on_stack i) y) → ⊥
      never_saved i high y (names, inl it) = not_both i (under (Saved (on_stack i) y) it.0) high
      never_saved i high y (names, inr it) = none (Saved (on_stack i) y) it

      never_kept : (i : ℕ) → first ≤ i → (y : Variable) → GivenByFrame scope code R Keep Brought first (Kept (on_stack i) y) → ⊥
      never_kept i high y (names, inl it) = not_both i (under (Kept (on_stack i) y) it.0) high
      never_kept i high y (names, inr it) = none (Kept (on_stack i) y) it

  -- ---- an operation that copies values

  -- Each value from the first place up is that of a keeper before it, and what it brings is known of that keeper.
  pub record Copies : Type 0 where
    pub under : (fact : MustFact) → Keep fact → Under first fact
    pub places : (i : ℕ) → i < first → at_place i stack ≡ at_place i here.stack
    pub others : (i n : ℕ) → Keep (New i) → NewAt here machine i n → OthersLack n i stack × Lacking n after
    pub source : ℕ → Keeper
    pub same : (i byte : ℕ) → first ≤ i → at_place i stack ≡ Some (state byte) → kept_in here machine (source i) ≡ Some (state byte)
    pub names : (i : ℕ) (y : Variable) → Brought (With i y) → (v : Value) × (at_place i stack ≡ Some v) × (value_of after y ≡ Some v)
    pub saved : (b : Keeper) (y : Variable) → Brought (Saved b y) → (i : ℕ) × (b ≡ on_stack i) × (first ≤ i) × R (Saved (source i) y)
    pub kept : (b : Keeper) (y : Variable) → Brought (Kept b y) → (i : ℕ) × (b ≡ on_stack i) × (first ≤ i) × R (Kept (source i) y)
    pub others_come : (fact : MustFact) → AreNames scope code fact → IsPlain fact → Brought fact → Says next after fact

  pub copies_true : Copies → AllTrue (GivenByFrame scope code R Keep Brought first) next after since
  copies_true copies =
      quiet_true
      (record {
        under = copies.under;
        places = copies.places;
        others = copies.others;
        comes = comes;
        saved_comes = λ b y it. above (copies.saved b y it).0 b (copies.saved b y it).1 (copies.saved b y it).2;
        kept_comes = λ b y n it. inl (above (copies.kept b y it).0 b (copies.kept b y it).1 (copies.kept b y it).2);
        top_bytes = λ i byte high held. byte_of i byte high (are.bytes (copies.source i) byte (copies.same i byte high held));
      })
    where
      above : (i : ℕ) (b : Keeper) → b ≡ on_stack i → first ≤ i → IsAbove scope code R Keep Brought first b
      above i b is high = (i, is, high)

      comes : (fact : MustFact) → AreNames scope code fact → Brought fact → Says next after fact
      comes (With i y) names it = copies.names i y it
      comes (Saved b y) names it = tt
      comes (Kept b y) names it = tt
      comes (Locked y) names it = copies.others_come (Locked y) names tt it
      comes (Live y) names it = copies.others_come (Live y) names tt it
      comes (Distinct y z) names it = copies.others_come (Distinct y z) names tt it
      comes (New i) names it = copies.others_come (New i) names tt it

      one_place : (i j : ℕ) → on_stack i ≡ on_stack j → j ≡ i
      one_place i j is = cc

      -- a byte that was copied
      saved_from : (i : ℕ) → first ≤ i → (y : Variable) → GivenByFrame scope code R Keep Brought first (Saved (on_stack i) y)
          → R (Saved (copies.source i) y) × (value_of after y ≡ value_of machine y)
      saved_from i high y (names, inl it) = absurd (not_both i (copies.under (Saved (on_stack i) y) it.0) high)
      saved_from i high y (names, inr it) = (from (copies.saved (on_stack i) y it), values y)
        where
          from : (j : ℕ) × (on_stack i ≡ on_stack j) × (first ≤ j) × R (Saved (copies.source j) y) → R (Saved (copies.source i) y)
          from got = subst (λ j. R (Saved (copies.source j) y)) (one_place i got.0 got.1) got.3

      kept_from : (i : ℕ) → first ≤ i → (y : Variable) (n : ℕ) → GivenByFrame scope code R Keep Brought first (Kept (on_stack i) y)
          → HoldsHandle after y n → IsMade machine n → IsPresent after n
          → ((z : Variable) → R (Saved (copies.source i) z) → HoldsHandle machine z n)
          → (x : Variable) × R (Kept (copies.source i) x) × HoldsHandle machine x n × IsPresent machine n
      kept_from i high y n (names, inl it) holds e p origin = absurd (not_both i (copies.under (Kept (on_stack i) y) it.0) high)
      kept_from i high y n (names, inr it) holds e p origin =
          (y, from (copies.kept (on_stack i) y it), sym (values y) ∙ holds, present_since may machine after n heap no_unlocks e p)
        where
          from : (j : ℕ) × (on_stack i ≡ on_stack j) × (first ≤ j) × R (Kept (copies.source j) y) → R (Kept (copies.source i) y)
          from got = subst (λ j. R (Kept (copies.source j) y)) (one_place i got.0 got.1) got.3

      byte_of : (i byte : ℕ) → first ≤ i → ByteTrue R here.lasting machine (copies.source i) byte since
          → ByteTrue (GivenByFrame scope code R Keep Brought first) lasting after (on_stack i) byte since
      byte_of i byte high =
          byte_from R (GivenByFrame scope code R Keep Brought first) here.lasting lasting machine after since (copies.source i) (on_stack i) byte
          (λ n e. made_since may machine after n heap e) (saved_from i high) lasted (kept_from i high)

  -- ---- an operation that brings only that handles are live

  pub live_true : ((fact : MustFact) → Keep fact → Under first fact) → ((i : ℕ) → i < first → at_place i stack ≡ at_place i here.stack)
      → ((i n : ℕ) → Keep (New i) → NewAt here machine i n → OthersLack n i stack × Lacking n after)
      → ((fact : MustFact) → Brought fact → (x : Variable) × (fact ≡ Live x) × LiveValue next after x)
      → AllTrue (GivenByFrame scope code R Keep Brought first) next after since
  live_true under places others lives =
      quiet_true
      (record {
        under = under;
        places = places;
        others = others;
        comes = λ fact names it. by_live fact (lives fact it);
        saved_comes = λ b y it. absurd (no_saved b y (lives (Saved b y) it));
        kept_comes = λ b y n it. absurd (no_kept b y (lives (Kept b y) it));
        top_bytes = λ i byte high held.
            unsaid scope code R Keep Brought first here machine after since at stack lasting i byte (never_saved i high) (never_kept i high);
      })
    where
      by_live : (fact : MustFact) → (x : Variable) × (fact ≡ Live x) × LiveValue next after x → Says next after fact
      by_live fact it = subst (Says next after) (sym it.1) it.2

      no_saved : (b : Keeper) (y : Variable) → (x : Variable) × (Saved b y ≡ Live x) × LiveValue next after x → ⊥
      no_saved b y it = differ it.0 it.1
        where
          differ : (x : Variable) → Saved b y ≡ Live x → ⊥
          differ x is = cc

      no_kept : (b : Keeper) (y : Variable) → (x : Variable) × (Kept b y ≡ Live x) × LiveValue next after x → ⊥
      no_kept b y it = differ it.0 it.1
        where
          differ : (x : Variable) → Kept b y ≡ Live x → ⊥
          differ x is = cc

      never_saved : (i : ℕ) → first ≤ i → (y : Variable) → GivenByFrame scope code R Keep Brought first (Saved (on_stack i) y) → ⊥
      never_saved i high y (names, inl it) = not_both i (under (Saved (on_stack i) y) it.0) high
      never_saved i high y (names, inr it) = no_saved (on_stack i) y (lives (Saved (on_stack i) y) it)

      never_kept : (i : ℕ) → first ≤ i → (y : Variable) → GivenByFrame scope code R Keep Brought first (Kept (on_stack i) y) → ⊥
      never_kept i high y (names, inl it) = not_both i (under (Kept (on_stack i) y) it.0) high
      never_kept i high y (names, inr it) = no_kept (on_stack i) y (lives (Kept (on_stack i) y) it)
