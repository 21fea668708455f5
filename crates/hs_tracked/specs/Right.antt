-- What must facts say at an operation, by the numbers of names (own).
--     AreRight              what the rules of the flow ask of the must facts is so
--     right_by_facts        it is, if the must facts are true of the call
--     IsIn of v             the slot has the value
--     named_fixed           a pointer that is fresh from a locked name is into a block that cannot move
--     locked_fixed          a handle in a slot, of which a name is locked, is of such a block
--     shared_there, apart_blocks      slots with a name in common, and slots that are apart
--     fixed_block           such a block is not loose
use Rattle.std.proofs.Common.{◌≡◌, ℕ, Bool, true, false, not, ◌&&◌, slice_get, Some, refl, sym, ap, ◌∙◌, subst, true≢false}
use Rattle.std.proofs.lemmas.Bool.{and_parts}
use Rattle.std.proofs.lemmas.Option.{same_Some}
use Rattle.hs_calls.specs.Calls.{Here, is_fixed, fixed_in}
use Rattle.hs_chains.specs.Knowledge.{HoldsOf, HoldsOfBoth, IsGiven, Knowledge}
use Rattle.hs_facts.specs.Effects.{WholeCode, HoldsAt}
use Rattle.hs_facts.specs.MustFacts.{MustFact, With, Locked, Distinct}
use Rattle.hs_flow.specs.Given.{Given, names_slot, name_apart, apart, share_name, is_name_locked}
use Rattle.hs_flow.specs.Laws.Naming.{IsPassed, any_name_of}
use Rattle.hs_flow.specs.declared.fact.Slot as flow_slot
use Rattle.hs_flow.specs.declared.fact.Slot.TheVariants as slot
use Rattle.hs_heap.specs.Blocks.{Block}
use Rattle.hs_heap.specs.Memory.{block_at}
use Rattle.hs_heap.specs.Shift.{is_loose}
use Rattle.hs_heap.specs.declared.cell.Pointer.TheVariants.{Handle}
use Rattle.hs_hiding.specs.Holding.{HoldsHandle, value_of}
use Rattle.hs_meaning.specs.Machine.{Machine}
use Rattle.hs_meaning.specs.Values.{Value, pointer}
use Rattle.hs_must.specs.Answers.{names_in}
use Rattle.hs_tracked.specs.Tracking.{NameHolds}
use Rattle.hs_tree.specs.declared.head.Variable.{Variable}
use Rattle.hs_true.specs.Setting.{one_name}
use Rattle.hs_truth.specs.Places.{at_place}
use Rattle.hs_truth.specs.Truth.{AllTrue, Says}

-- A place that is known to have the value of a name has it. A block that is known to be locked by a name cannot move, and names that are known to be
-- distinct have no handles of one block. What lasted still does.
pub record AreRight (whole : WholeCode) (known : Knowledge) (here : Here) (machine : Machine) : Type 0 where
  pub with : (i h : ℕ) → (known.at here.fn here.at).with i h ≡ true
      → (x : Variable) × (slice_get (names_in whole here.fn) h ≡ Some x) × Says here machine (With i x)
  pub locked : (h : ℕ) → (known.at here.fn here.at).locked h ≡ true
      → (x : Variable) × (slice_get (names_in whole here.fn) h ≡ Some x) × Says here machine (Locked x)
  pub distinct : (h k : ℕ) → (known.at here.fn here.at).distinct h k ≡ true
      → (x : Variable) × (slice_get (names_in whole here.fn) h ≡ Some x)
      × ((y : Variable) × (slice_get (names_in whole here.fn) k ≡ Some y) × Says here machine (Distinct x y))
  pub lasts : (n : ℕ) → here.lasting n ≡ true → fixed_in machine n ≡ true

-- The answers are the must facts, and these are true of the call.
pub right_by_facts : (whole : WholeCode) (known : Knowledge) (here : Here) (machine : Machine) (since : ℕ → Type 0)
    → IsGiven whole here.fn here.at (known.at here.fn here.at) → AllTrue (HoldsAt whole here.fn here.at) here machine since
    → ((n : ℕ) → here.lasting n ≡ true → fixed_in machine n ≡ true) → AreRight whole known here machine
right_by_facts whole known here machine since given true_ lasts =
    record {
      with = λ i h is. one h (With i) ((given.with i h).0 is);
      locked = λ h is. one h Locked ((given.locked h).0 is);
      distinct = λ h k is. both h k ((given.distinct h k).0 is);
      lasts = lasts;
    }
  where
    one : (h : ℕ) (of : Variable → MustFact) → HoldsOf whole here.fn here.at h of
        → (x : Variable) × (slice_get (names_in whole here.fn) h ≡ Some x) × Says here machine (of x)
    one h of its = (its.0, its.1, true_.says (of its.0) its.2)

    both : (h k : ℕ) → HoldsOfBoth whole here.fn here.at h k Distinct
        → (x : Variable) × (slice_get (names_in whole here.fn) h ≡ Some x)
        × ((y : Variable) × (slice_get (names_in whole here.fn) k ≡ Some y) × Says here machine (Distinct x y))
    both h k its = (its.0, its.1, one k (Distinct its.0) its.2)

-- a block that cannot move is not loose
pub fixed_block : (machine : Machine) (n : ℕ) (block : Block) → block_at machine.blocks n ≡ Some block → fixed_in machine n ≡ true
    → is_loose block ≡ false
fixed_block machine n block there fixed = by_bit (is_loose block) (sym (ap is_fixed there) ∙ fixed)
  where
    by_bit : (z : Bool) → not z ≡ true → z ≡ false
    by_bit true is = sym is
    by_bit false is = refl

-- the slot has the value
abbrev pub IsIn : Here → Machine → flow_slot.Slot → Value → Type 0
IsIn here machine (slot.Place i) v = at_place i here.stack ≡ Some v
IsIn here machine (slot.Variable x) v = value_of machine x ≡ Some v
IsIn here machine other v = Unit {0}

module _ (whole : WholeCode) (known : Knowledge) (here : Here) (machine : Machine) (right : AreRight whole known here machine) where
  -- what is known at the operation
  abbrev facts : Given
  facts = known.at here.fn here.at

  -- a block of which a locked name has the handle
  pub named_fixed : (h n : ℕ) → facts.locked h ≡ true → NameHolds (names_in whole here.fn) machine h n → fixed_in machine n ≡ true
  named_fixed h n locked holds = by_lock (right.locked h locked)
    where
      by_lock : (x : Variable) × (slice_get (names_in whole here.fn) h ≡ Some x) × Says here machine (Locked x) → fixed_in machine n ≡ true
      by_lock its = its.2 n (subst (λ x. HoldsHandle machine x n) (same_Some holds.0 its.0 (sym holds.1 ∙ its.1)) holds.2)

  -- the names of a slot have the handle that is in it
  module _ (names : facts.names ≡ names_in whole here.fn) (v : Value) (n : ℕ) (handle : v ≡ pointer (Handle n)) where
    pub name_has : (of : flow_slot.Slot) → IsIn here machine of v → (h : ℕ) (x : Variable) → slice_get facts.names h ≡ Some x
        → names_slot facts of h x ≡ true → NameHolds (names_in whole here.fn) machine h n
    name_has (slot.Place i) has h x there named = by_with (right.with i h named)
      where
        by_with : (y : Variable) × (slice_get (names_in whole here.fn) h ≡ Some y) × Says here machine (With i y)
            → NameHolds (names_in whole here.fn) machine h n
        by_with its = (its.0, its.1, its.2.2 ∙ sym its.2.1 ∙ has ∙ ap (λ u. Some u) handle)
    name_has (slot.Variable y) has h x there named =
        (x, sym (ap (λ it. slice_get it h) names) ∙ there, ap (value_of machine) (one_name x y named) ∙ has ∙ ap (λ u. Some u) handle)
    name_has slot.Nothing has h x there named = absurd (true≢false (sym named))
    name_has slot.Answer has h x there named = absurd (true≢false (sym named))
    name_has (slot.Class class) has h x there named = absurd (true≢false (sym named))

    -- the block of the handle cannot move, if a name of the slot is locked
    pub locked_fixed : (of : flow_slot.Slot) → IsIn here machine of v → is_name_locked facts of ≡ true → fixed_in machine n ≡ true
    locked_fixed of has is = by_passed (any_name_of facts (λ h x. names_slot facts of h x && facts.locked h) is)
      where
        by_passed : IsPassed facts.names (λ h x. names_slot facts of h x && facts.locked h) → fixed_in machine n ≡ true
        by_passed its =
            let both = and_parts (names_slot facts of its.number its.name) (facts.locked its.number) its.passes in
            named_fixed its.number n both.1 (name_has of has its.number its.name its.there both.0)

  -- a place with a name in common has the handle too
  pub shared_there : facts.names ≡ names_in whole here.fn → (a : flow_slot.Slot) (i n : ℕ) → IsIn here machine a (pointer (Handle n))
      → share_name facts a (slot.Place i) ≡ true → at_place i here.stack ≡ Some (pointer (Handle n))
  shared_there names a i n has is = by_passed (any_name_of facts (λ h x. names_slot facts a h x && names_slot facts (slot.Place i) h x) is)
    where
      by_both : (h : ℕ) → NameHolds (names_in whole here.fn) machine h n
          → (y : Variable) × (slice_get (names_in whole here.fn) h ≡ Some y) × Says here machine (With i y)
          → at_place i here.stack ≡ Some (pointer (Handle n))
      by_both h one its =
          its.2.1 ∙ sym its.2.2 ∙ ap (value_of machine) (same_Some its.0 one.0 (sym its.1 ∙ one.1)) ∙ one.2

      by_passed : IsPassed facts.names (λ h x. names_slot facts a h x && names_slot facts (slot.Place i) h x)
          → at_place i here.stack ≡ Some (pointer (Handle n))
      by_passed its =
          let both = and_parts (names_slot facts a its.number its.name) (facts.with i its.number) its.passes in
          by_both its.number (name_has names (pointer (Handle n)) n refl a has its.number its.name its.there both.0) (right.with i its.number both.1)

  module _ (names : facts.names ≡ names_in whole here.fn) (a b : flow_slot.Slot) (n m : ℕ) (has : IsIn here machine a (pointer (Handle n)))
      (other : IsIn here machine b (pointer (Handle m))) where
    -- slots that are apart have no handles of one block
    pub apart_blocks : apart facts a b ≡ true → n ≡ m → ⊥
    apart_blocks is same = by_first (any_name_of facts (λ h x. names_slot facts a h x && name_apart facts b h) is)
      where
        by_both : (h k : ℕ) → facts.distinct h k ≡ true → NameHolds (names_in whole here.fn) machine h n
            → NameHolds (names_in whole here.fn) machine k m → ⊥
        by_both h k distinct one two = by_fact (right.distinct h k distinct)
          where
            by_fact : (x : Variable) × (slice_get (names_in whole here.fn) h ≡ Some x)
                × ((y : Variable) × (slice_get (names_in whole here.fn) k ≡ Some y) × Says here machine (Distinct x y)) → ⊥
            by_fact its =
                its.2.2 n (subst (λ x. HoldsHandle machine x n) (same_Some one.0 its.0 (sym one.1 ∙ its.1)) one.2)
                (subst (λ k'. HoldsHandle machine its.2.0 k') (sym same)
                (subst (λ y. HoldsHandle machine y m) (same_Some two.0 its.2.0 (sym two.1 ∙ its.2.1)) two.2))

        by_second : (h : ℕ) → NameHolds (names_in whole here.fn) machine h n
            → IsPassed facts.names (λ k y. names_slot facts b k y && facts.distinct h k) → ⊥
        by_second h one its =
            let both = and_parts (names_slot facts b its.number its.name) (facts.distinct h its.number) its.passes in
            by_both h its.number both.1 one (name_has names (pointer (Handle m)) m refl b other its.number its.name its.there both.0)

        by_first : IsPassed facts.names (λ h x. names_slot facts a h x && name_apart facts b h) → ⊥
        by_first its =
            let both = and_parts (names_slot facts a its.number its.name) (name_apart facts b its.number) its.passes in
            by_second its.number (name_has names (pointer (Handle n)) n refl a has its.number its.name its.there both.0)
            (any_name_of facts (λ k y. names_slot facts b k y && facts.distinct its.number k) both.1)
