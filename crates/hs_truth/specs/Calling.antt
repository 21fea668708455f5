-- What is true of the caller when a call has returned (own).
--     call_true      the facts that the call gives
use Rattle.std.proofs.Common.{◌≡◌, ◌<◌, ◌⊎◌, inl, inr, ℕ, ◌-◌, ◌==◌, Bool, true, false, not, ◌&&◌, List, [], ◌∷◌, length, slice_get, Some, None, refl, sym, ap, ◌∙◌, subst, arith, if◌then◌else◌, true≢false}
use Rattle.std.proofs.lemmas.Bool.{and_parts}
use Rattle.std.proofs.lemmas.Bool.Decides.{nat_tests}
use Rattle.std.specs.List.{AllByRecursion}
use Rattle.hs_calls.specs.Calls.{Here, Wait, is_fixed, fixed_in, resumed}
use Rattle.hs_code.specs.Stacks.{Scope}
use Rattle.hs_code.specs.declared.function_code.FunctionCode.{FunctionCode}
use Rattle.hs_code.specs.declared.op.Op.TheVariants as op
use Rattle.hs_code_run.specs.Steps.{below}
use Rattle.hs_facts.specs.Changes.{Impact, Gives, StaysInCall, IsSpared}
use Rattle.hs_facts.specs.MustFacts.{MustFact, With, Saved, Kept, Locked, Live, Distinct, New, Keeper, on_stack, in_slot, AreNames, Under, free_of, keeper_free}
use Rattle.hs_facts.specs.Names.{same_variable, taken as taken_by}
use Rattle.hs_heap.specs.Memory.{block_at}
use Rattle.hs_heap.specs.declared.cell.Pointer.TheVariants.{Nil}
use Rattle.hs_hiding.specs.Blocks.{alive_since, made_since, present_since}
use Rattle.hs_hiding.specs.Calls.{closed_same, closed_lacks, SameOutside}
use Rattle.hs_hiding.specs.Holding.{IsMade, HoldsHandle, IsPresent, Lacks, value_of, IsAlive}
use Rattle.hs_meaning.specs.Frames.{closed}
use Rattle.hs_meaning.specs.Machine.{Machine, value_of_slot}
use Rattle.hs_meaning.specs.Values.{Value, pointer, state}
use Rattle.hs_sound_heap.specs.Since.{May}
use Rattle.hs_tree.specs.declared.head.Variable.{Variable}
use Rattle.hs_tree.specs.declared.head.Variable.TheVariants as name
use Rattle.hs_truth.specs.Linked.{Linked, HiddenAt, Hidden}
use Rattle.hs_truth.specs.Places.{place_low, not_here, taken_lack, others_below, under_top, at_place, below_place}
use Rattle.hs_truth.specs.Truth.{kept_in, AllTrue, Says, ByteTrue, byte_from, NewAt}

-- ---- the call

module _ (may : ℕ → May) (sets : ℕ → ℕ → Bool) (impact : Impact) (unlocked : (f : ℕ) → (may f).unlocks ≡ true → impact.unlocks f)
    (disposed : (f : ℕ) → (may f).disposes ≡ true → impact.disposes f) (assigned : (f g : ℕ) → sets f g ≡ true → impact.assigns f g)
    (scope : Scope) (code : FunctionCode) (R : MustFact → Type 0) (w : Wait) (since : ℕ → Type 0) (are : AllTrue R w.here w.machine since) (depth : ℕ)
    (deep : depth - taken_by scope (op.Call w.called) ≡ length (below w.callee.parameters w.here.stack)) (here : Here) (machine : Machine) (value : Value)
    (rest : List Value) (so : here.stack ≡ value ∷ rest) (linked : Linked may sets here machine w)
    (lasts : (n : ℕ) → here.lasting n ≡ true → fixed_in machine n ≡ true) where
  -- the stack of the caller below the arguments
  abbrev pub stack : List Value
  stack = below w.callee.parameters w.here.stack

  -- the machine after the return
  abbrev pub after : Machine
  after = closed w.machine.locals machine

  -- the caller after the return
  abbrev pub next : Here
  next = resumed w value here.lasting

  -- the facts that the call gives
  abbrev pub After : MustFact → Type 0
  After fact = AreNames scope code fact × Gives scope code impact R (op.Call w.called) depth fact

  same : SameOutside machine after
  same = closed_same w.machine.locals machine

  -- ---- effects

  is_false : (z : Bool) → (z ≡ true → ⊥) → z ≡ false
  is_false true never = absurd (never refl)
  is_false false never = refl

  no_unlocks : ¬ (impact.unlocks w.called) → (may here.fn).unlocks ≡ false
  no_unlocks never = ap (λ f. (may f).unlocks) linked.fn ∙ is_false (may w.called).unlocks (λ is. never (unlocked w.called is))

  no_disposes : ¬ (impact.disposes w.called) → (may here.fn).disposes ≡ false
  no_disposes never = ap (λ f. (may f).disposes) linked.fn ∙ is_false (may w.called).disposes (λ is. never (disposed w.called is))

  self : (g : ℕ) → (g == g) ≡ true
  self g = grind (nat_tests, arith)

  -- a variable that the function does not assign
  same_value : (y : Variable) → ((g : ℕ) → impact.assigns w.called g → not (same_variable y (name.Global g)) ≡ true) → value_of after y ≡ value_of w.machine y
  same_value (name.Local i) spared = refl
  same_value (name.Global g) spared =
      ap (λ gs. value_of_slot (slice_get gs g)) same.globals
      ∙ ap value_of_slot (linked.globals g (ap (λ f. sets f g) linked.fn ∙ is_false (sets w.called g) (λ is. kept (spared g (assigned w.called g is)))))
    where
      kept : not (g == g) ≡ true → ⊥
      kept is = true≢false (sym is ∙ ap not (self g))

  -- ---- blocks

  back_at : (n : ℕ) → IsPresent after n → IsPresent machine n
  back_at n p = record { block = p.block; there = ap (λ bs. block_at bs n) (sym same.blocks) ∙ p.there; present = p.present }

  alive_at : (n : ℕ) → IsAlive machine n → IsAlive after n
  alive_at n a = record { block = a.block; there = ap (λ bs. block_at bs n) same.blocks ∙ a.there; alive = a.alive }

  exists_at : (n : ℕ) → IsMade w.machine n → IsMade after n
  exists_at n e = on (made_since (may here.fn) w.machine machine n linked.heap e)
    where
      on : IsMade machine n → IsMade after n
      on x = record { block = x.block; there = ap (λ bs. block_at bs n) same.blocks ∙ x.there }

  fixed_at : (n : ℕ) → (may here.fn).unlocks ≡ false → fixed_in w.machine n ≡ true → fixed_in after n ≡ true
  fixed_at n none is = ap (λ bs. is_fixed (block_at bs n)) same.blocks ∙ lasts n (linked.through none n is)

  -- ---- places

  low_of : (i : ℕ) → i < depth - taken_by scope (op.Call w.called) → i < length stack
  low_of i low = subst (λ n. i < n) deep low

  places : (i : ℕ) → i < length stack → at_place i (value ∷ stack) ≡ at_place i w.here.stack
  places i low = under_top i value stack low ∙ below_place i w.callee.parameters w.here.stack low

  -- ---- New

  hidden_at : (i n : ℕ) → i < length stack → NewAt w.here w.machine i n → HiddenAt w n
  hidden_at i n low new =
      record {
        arguments = taken_lack n i w.callee.parameters w.here.stack [] low new.others tt;
        outside = record { globals = new.nowhere.globals; blocks = new.nowhere.blocks; objects = new.nowhere.objects };
        alive = new.alive;
      }

  new_stays : (i n : ℕ) → i < length stack → NewAt w.here w.machine i n → Hidden n here machine → NewAt next after i n
  new_stays i n low new hidden =
      record {
        holds = places i low ∙ new.holds;
        alive = alive_at n hidden.alive;
        others = (inr (subst (AllByRecursion (Lacks n)) so hidden.without.places).0, others_below n i w.callee.parameters w.here.stack new.others);
        nowhere =
            closed_lacks n w.machine.locals machine new.nowhere.locals
            (record { globals = hidden.without.nowhere.globals; blocks = hidden.without.nowhere.blocks; objects = hidden.without.nowhere.objects });
      }

  new_after : (i : ℕ) → i < length stack → (at_place i w.here.stack ≡ Some (pointer Nil)) ⊎ ((n : ℕ) × NewAt w.here w.machine i n)
      → (at_place i (value ∷ stack) ≡ Some (pointer Nil)) ⊎ ((n : ℕ) × NewAt next after i n)
  new_after i low (inl nil) = inl (places i low ∙ nil)
  new_after i low (inr new) = inr (new.0, new_stays i new.0 low new.1 (linked.hides new.0 (hidden_at i new.0 low new.1)))

  -- ---- facts

  stays : (fact : MustFact) → Under (depth - taken_by scope (op.Call w.called)) fact → StaysInCall impact w.called fact
      → IsSpared impact w.called fact → Says w.here w.machine fact → Says next after fact
  stays (With i y) low stay spared old = (old.0, places i (low_of i low) ∙ old.1, same_value y spared ∙ old.2)
  stays (Locked y) low stay spared old = λ n holds. fixed_at n (no_unlocks stay) (old n (sym (same_value y spared) ∙ holds))
  stays (Live y) low stay spared old =
      record {
        value = old.value;
        holds = same_value y spared ∙ old.holds;
        alive = λ n is. alive_at n (alive_since (may here.fn) w.machine machine n linked.heap (no_disposes stay) (old.alive n is));
      }
  stays (Distinct y z) low stay spared old =
      λ n first second. old n (sym (same_value y (λ g is. (both g (spared g is)).0)) ∙ first) (sym (same_value z (λ g is. (both g (spared g is)).1)) ∙ second)
    where
      both : (g : ℕ) → (not (same_variable y (name.Global g)) && not (same_variable z (name.Global g))) ≡ true
          → (not (same_variable y (name.Global g)) ≡ true) × (not (same_variable z (name.Global g)) ≡ true)
      both g is = and_parts (not (same_variable y (name.Global g))) (not (same_variable z (name.Global g))) is
  stays (New i) low stay spared old = new_after i (low_of i low) old
  stays (Saved b y) low stay spared old = tt
  stays (Kept b y) low stay spared old = tt

  says_after : (fact : MustFact) → After fact → Says next after fact
  says_after fact (are_names, inl is) = stays fact is.0.0 is.0.1 is.0.2 (are.says fact is.1)
  says_after fact (are_names, inr is) = absurd is

  -- ---- bytes

  lasted_at : (n : ℕ) → (w.here.lasting n && here.lasting n) ≡ true → IsPresent after n → (w.here.lasting n ≡ true) × IsPresent w.machine n
  lasted_at n is p = (first, linked.lasted n second (back_at n p))
    where
      first : w.here.lasting n ≡ true
      first = (and_parts (w.here.lasting n) (here.lasting n) is).0

      second : here.lasting n ≡ true
      second = (and_parts (w.here.lasting n) (here.lasting n) is).1

  spared_both : (b : Keeper) (y : Variable)
      → ((g : ℕ) → impact.assigns w.called g → (keeper_free (name.Global g) b && not (same_variable y (name.Global g))) ≡ true)
      → (g : ℕ) → impact.assigns w.called g → not (same_variable y (name.Global g)) ≡ true
  spared_both b y spared g is = (and_parts (keeper_free (name.Global g) b) (not (same_variable y (name.Global g))) (spared g is)).1

  module _ (b : Keeper) (byte : ℕ) where
    saved_old : (y : Variable) → After (Saved b y) → R (Saved b y) × (value_of after y ≡ value_of w.machine y)
    saved_old y (are_names, inl is) = (is.1, same_value y (spared_both b y is.0.2))
    saved_old y (are_names, inr is) = absurd is

    kept_old : (y : Variable) (n : ℕ) → After (Kept b y) → HoldsHandle after y n → IsMade w.machine n → IsPresent after n
        → ((z : Variable) → R (Saved b z) → HoldsHandle w.machine z n) → (x : Variable) × R (Kept b x) × HoldsHandle w.machine x n × IsPresent w.machine n
    kept_old y n (are_names, inl is) holds e p origin = (
      y,
      is.1,
      sym (same_value y (spared_both b y is.0.2)) ∙ holds,
      present_since (may here.fn) w.machine machine n linked.heap (no_unlocks is.0.1) e (back_at n p),
    )
    kept_old y n (are_names, inr is) holds e p origin = absurd is

    byte_stays : ByteTrue R w.here.lasting w.machine b byte since → ByteTrue After next.lasting after b byte since
    byte_stays = byte_from R After w.here.lasting next.lasting w.machine after since b b byte exists_at saved_old lasted_at kept_old

    -- of which nothing is said
    no_facts : ((y : Variable) → After (Saved b y) → ⊥) → ((y : Variable) → After (Kept b y) → ⊥) → ByteTrue After next.lasting after b byte since
    no_facts none none' =
        record {
          origin = None;
          there = λ n so. absurd cc;
          read = λ y n is. absurd (none y is);
          made = λ y n is. absurd (none y is);
          lasts = λ n block so. absurd cc;
          keeps = λ y n block is. absurd (none' y is);
          marks = λ n so. absurd cc;
        }

  at_top : (i : ℕ) → i ≡ length stack → (fact : MustFact)
      → (Under (depth - taken_by scope (op.Call w.called)) fact → i < depth - taken_by scope (op.Call w.called))
      → After fact → ⊥
  at_top i is fact under (are_names, inl old) = not_here i (length stack) (low_of i (under old.0.0)) is
  at_top i is fact under (are_names, inr new) = new

  -- a global that the function assigns
  set_global : (g : ℕ) → sets w.called g ≡ true → (y : Variable) → (fact : MustFact)
      → (free_of (name.Global g) fact ≡ true → (keeper_free (name.Global g) (in_slot (name.Global g)) && not (same_variable y (name.Global g))) ≡ true)
      → After fact → ⊥
  set_global g is y fact free (are_names, inl old) =
      true≢false (sym (and_parts (not (g == g)) (not (same_variable y (name.Global g))) (free (old.0.2 g (assigned w.called g is)))).0 ∙ ap not (self g))
  set_global g is y fact free (are_names, inr new) = new

  bytes_after : (b : Keeper) (byte : ℕ) → kept_in next after b ≡ Some (state byte) → ByteTrue After next.lasting after b byte since
  bytes_after (on_stack i) byte held = by_test (i == length stack) refl held
    where
      is_top : (i == length stack) ≡ true → i ≡ length stack
      is_top is = grind (is, nat_tests, arith)

      by_test : (z : Bool) → (i == length stack) ≡ z → (if z then Some value else at_place i stack) ≡ Some (state byte)
          → ByteTrue After next.lasting after (on_stack i) byte since
      by_test true is held =
          no_facts (on_stack i) byte (λ y so. at_top i (is_top is) (Saved (on_stack i) y) (λ low. low) so)
          (λ y so. at_top i (is_top is) (Kept (on_stack i) y) (λ low. low) so)
      by_test false is held =
          byte_stays (on_stack i) byte
          (are.bytes (on_stack i) byte (sym (below_place i w.callee.parameters w.here.stack (place_low i stack (state byte) held)) ∙ held))
  bytes_after (in_slot (name.Local i)) byte held = byte_stays (in_slot (name.Local i)) byte (are.bytes (in_slot (name.Local i)) byte held)
  bytes_after (in_slot (name.Global g)) byte held = by_test (sets w.called g) refl
    where
      by_test : (z : Bool) → sets w.called g ≡ z → ByteTrue After next.lasting after (in_slot (name.Global g)) byte since
      by_test true is =
          no_facts (in_slot (name.Global g)) byte (λ y so. set_global g is y (Saved (in_slot (name.Global g)) y) (λ free. free) so)
          (λ y so. set_global g is y (Kept (in_slot (name.Global g)) y) (λ free. free) so)
      by_test false is =
          byte_stays (in_slot (name.Global g)) byte
          (are.bytes (in_slot (name.Global g)) byte
          (sym (ap (λ gs. value_of_slot (slice_get gs g)) same.globals ∙ ap value_of_slot (linked.globals g (ap (λ f. sets f g) linked.fn ∙ is))) ∙ held))

  -- what a call leaves true
  pub call_true : AllTrue After next after since
  call_true = record { says = says_after; bytes = bytes_after }
