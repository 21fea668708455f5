-- A Set gives facts that are true, of a name and of another slot (own).
--     one_name, itself, back    names
--     IsSlot machine x          the variable is a slot; it may have no value
--     set_true                  the facts that the Set gives
use Rattle.std.proofs.Common.{◌≡◌, ◌⊎◌, inl, inr, ℕ, suc, ◌-◌, ◌==◌, Bool, true, false, not, ◌&&◌, List, ◌∷◌, length, Option, Some, None, refl, sym, ap, ◌∙◌, subst, arith, true≢false}
use Rattle.std.proofs.lemmas.Bool.{and_parts}
use Rattle.std.proofs.lemmas.Bool.Decides.{nat_tests}
use Rattle.std.proofs.lemmas.Option.{same_Some}
use Rattle.hs_base.specs.Entries.{set_there, set_other}
use Rattle.hs_calls.specs.Calls.{Here, moved, is_fixed, fixed_in}
use Rattle.hs_code.specs.Stacks.{Scope}
use Rattle.hs_code.specs.declared.function_code.FunctionCode.{FunctionCode}
use Rattle.hs_code.specs.declared.op.Op.TheVariants as op
use Rattle.hs_facts.specs.Changes as changes
use Rattle.hs_facts.specs.Changes.{Impact, Gives, SetBy, OfTop, TopApart}
use Rattle.hs_facts.specs.MustFacts.{MustFact, With, Saved, Kept, Locked, Live, Distinct, New, Keeper, on_stack, in_slot, AreNames, free_of, keeper_free, not_new}
use Rattle.hs_facts.specs.Names.{same_variable, is_name}
use Rattle.hs_heap.specs.Blocks.{Block}
use Rattle.hs_heap.specs.Memory.{block_at}
use Rattle.hs_heap.specs.declared.cell.Pointer.TheVariants.{Nil, Handle}
use Rattle.hs_hiding.specs.Holding.{IsMade, HoldsHandle, IsPresent, Lacks, value_of, IsAlive}
use Rattle.hs_hiding.specs.Storing.{value_lacks, set_lacks}
use Rattle.hs_meaning.specs.Machine.{Machine, slot, binding_of, value_of_slot, with_value}
use Rattle.hs_meaning.specs.Values.{Value, pointer, state}
use Rattle.hs_tree.specs.declared.head.Variable.{Variable}
use Rattle.hs_tree.specs.declared.head.Variable.TheVariants as name
use Rattle.hs_truth.specs.Places.{OthersLack, at_place, the_top}
use Rattle.hs_truth.specs.Truth.{kept_in, AllTrue, Says, ByteTrue, byte_from, LiveValue, NewAt}

-- ---- names

same_is : (a b : ℕ) → (a == b) ≡ true → a ≡ b
same_is a b is = grind (is, nat_tests, arith)

self_is : (a : ℕ) → (a == a) ≡ true
self_is a = grind (nat_tests, arith)

apart_is : (a b : ℕ) → (a == b) ≡ false → b ≡ a → ⊥
apart_is a b is so = grind (is, so, nat_tests, arith)

back_is : (a b : ℕ) → (a == b) ≡ (b == a)
back_is a b = grind (nat_tests, arith)

pub one_name : (x y : Variable) → same_variable x y ≡ true → x ≡ y
one_name (name.Global a) (name.Global b) is = ap name.Global (same_is a b is)
one_name (name.Global a) (name.Local b) is = absurd (true≢false (sym is))
one_name (name.Local a) (name.Global b) is = absurd (true≢false (sym is))
one_name (name.Local a) (name.Local b) is = ap name.Local (same_is a b is)

pub itself : (x : Variable) → same_variable x x ≡ true
itself (name.Global a) = self_is a
itself (name.Local a) = self_is a

pub back : (x y : Variable) → same_variable x y ≡ same_variable y x
back (name.Global a) (name.Global b) = back_is a b
back (name.Global a) (name.Local b) = refl
back (name.Local a) (name.Global b) = refl
back (name.Local a) (name.Local b) = back_is a b

-- not the one, so the other
pub not_so : (z : Bool) → not z ≡ true → z ≡ false
not_so true is = absurd (true≢false (sym is))
not_so false is = refl

-- ---- the machine after it

-- another variable is as it was
pub other_value : (x y : Variable) (v : Value) (machine : Machine) → same_variable y x ≡ false → value_of (with_value x v machine) y ≡ value_of machine y
other_value (name.Global a) (name.Global b) v machine is = ap value_of_slot (set_other machine.globals a (slot (Some v)) b (λ so. apart_is b a is (sym so)))
other_value (name.Global a) (name.Local b) v machine is = refl
other_value (name.Local a) (name.Global b) v machine is = refl
other_value (name.Local a) (name.Local b) v machine is = ap value_of_slot (set_other machine.locals a (slot (Some v)) b (λ so. apart_is b a is (sym so)))

-- it is a slot
pub record IsSlot (machine : Machine) (x : Variable) : Type 0 where
  pub before : Option Value
  pub there : binding_of x machine ≡ Some (slot before)

pub now_value : (x : Variable) (v : Value) (machine : Machine) → IsSlot machine x → value_of (with_value x v machine) x ≡ Some v
now_value (name.Global a) v machine its = ap value_of_slot (set_there machine.globals a (slot its.before) (slot (Some v)) its.there)
now_value (name.Local a) v machine its = ap value_of_slot (set_there machine.locals a (slot its.before) (slot (Some v)) its.there)

pub blocks_stay : (x : Variable) (v : Value) (machine : Machine) → (with_value x v machine).blocks ≡ machine.blocks
blocks_stay (name.Global a) v machine = refl
blocks_stay (name.Local a) v machine = refl

-- one handle
handle_is : (n k : ℕ) → ◌≡◌ {A = Value} (pointer (Handle n)) (pointer (Handle k)) → k ≡ n
handle_is n k is = cc

-- ---- the operation

module _ (scope : Scope) (code : FunctionCode) (impact : Impact) (R : MustFact → Type 0) (here : Here) (machine : Machine) (since : ℕ → Type 0)
    (are : AllTrue R here machine since) (depth : ℕ) (x : Variable) (v : Value) (rest : List Value) (so : here.stack ≡ v ∷ rest)
    (deep : depth ≡ length here.stack) (its : IsSlot machine x) where
  -- the machine after it
  abbrev pub after : Machine
  after = with_value x v machine

  -- the call after it
  abbrev pub next : Here
  next = moved here (suc here.at) (v ∷ rest) here.lasting

  -- the facts that it gives, by whether the variable is a name
  abbrev pub After : Bool → MustFact → Type 0
  After z fact =
      AreNames scope code fact
      × ((changes.Stays scope code impact R (op.Set x) depth fact × R fact) ⊎ SetBy R z x (depth - 1) fact)

  -- ---- the top

  one_less : (n : ℕ) → suc n - 1 ≡ n
  one_less n = omega arith

  top_place : depth - 1 ≡ length rest
  top_place = ap (λ n. n - 1) (deep ∙ ap length so) ∙ one_less (length rest)

  places : (i : ℕ) → at_place i (v ∷ rest) ≡ at_place i here.stack
  places i = ap (at_place i) (sym so)

  top_value : at_place (depth - 1) here.stack ≡ Some v
  top_value = ap (at_place (depth - 1)) so ∙ the_top (depth - 1) v rest top_place

  -- a name of the top has that value
  named : (w : Variable) → R (With (depth - 1) w) → value_of machine w ≡ Some v
  named w is = by_value (are.says (With (depth - 1) w) is)
    where
      by_value : (u : Value) × (at_place (depth - 1) here.stack ≡ Some u) × (value_of machine w ≡ Some u) → value_of machine w ≡ Some v
      by_value old = old.2 ∙ sym old.1 ∙ top_value

  -- x has the handle of the top
  now_is : (y : Variable) (n : ℕ) → y ≡ x → HoldsHandle after y n → v ≡ pointer (Handle n)
  now_is y n is holds =
      same_Some v (pointer (Handle n)) (sym (now_value x v machine its) ∙ ap (value_of after) (sym is) ∙ holds)

  names_too : (w : Variable) (n : ℕ) → R (With (depth - 1) w) → v ≡ pointer (Handle n) → HoldsHandle machine w n
  names_too w n is holds = named w is ∙ ap Some holds

  old_block : (n : ℕ) (block : Block) → block_at after.blocks n ≡ Some block → block_at machine.blocks n ≡ Some block
  old_block n block there = ap (λ blocks. block_at blocks n) (sym (blocks_stay x v machine)) ∙ there

  new_block : (n : ℕ) (block : Block) → block_at machine.blocks n ≡ Some block → block_at after.blocks n ≡ Some block
  new_block n block there = ap (λ blocks. block_at blocks n) (blocks_stay x v machine) ∙ there

  alive_after : (n : ℕ) → IsAlive machine n → IsAlive after n
  alive_after n a = record { block = a.block; there = new_block n a.block a.there; alive = a.alive }

  fixed_after : (n : ℕ) → fixed_in machine n ≡ true → fixed_in after n ≡ true
  fixed_after n is = ap (λ blocks. is_fixed (block_at blocks n)) (blocks_stay x v machine) ∙ is

  exists_after : (n : ℕ) → IsMade machine n → IsMade after n
  exists_after n e = record { block = e.block; there = new_block n e.block e.there }

  -- another name
  other : (y : Variable) → not (same_variable y x) ≡ true → value_of after y ≡ value_of machine y
  other y free = other_value x y v machine (not_so (same_variable y x) free)

  -- ---- facts that stay

  top_lacks : (n i : ℕ) (stack : List Value) → stack ≡ v ∷ rest → not (i == (depth - 1)) ≡ true → OthersLack n i stack → Lacks n v
  top_lacks n i stack is low others = by_place (subst (OthersLack n i) is others).0
    where
      by_place : (i ≡ length rest) ⊎ Lacks n v → Lacks n v
      by_place (inl at) = absurd (apart_is i (depth - 1) (not_so (i == (depth - 1)) low) (top_place ∙ sym at))
      by_place (inr lacks) = lacks

  new_stays : (i : ℕ) → not (i == (depth - 1)) ≡ true → (at_place i here.stack ≡ Some (pointer Nil)) ⊎ ((n : ℕ) × NewAt here machine i n)
      → (at_place i (v ∷ rest) ≡ Some (pointer Nil)) ⊎ ((n : ℕ) × NewAt next after i n)
  new_stays i low (inl nil) = inl (places i ∙ nil)
  new_stays i low (inr new) =
      inr (
        new.0,
        record {
          holds = places i ∙ new.1.holds;
          alive = alive_after new.0 new.1.alive;
          others = subst (OthersLack new.0 i) so new.1.others;
          nowhere = set_lacks new.0 x v machine (top_lacks new.0 i here.stack so low new.1.others) new.1.nowhere;
        },
      )

  stays : (fact : MustFact) → free_of x fact ≡ true → not_new (depth - 1) fact ≡ true → Says here machine fact
      → Says next after fact
  stays (With i y) free low old = (old.0, places i ∙ old.1, other y free ∙ old.2)
  stays (Locked y) free low old = λ n holds. fixed_after n (old n (sym (other y free) ∙ holds))
  stays (Live y) free low old =
      record { value = old.value; holds = other y free ∙ old.holds; alive = λ n is. alive_after n (old.alive n is) }
  stays (Distinct y z) free low old =
      λ n first second. old n (sym (other y (and_parts (not (same_variable y x)) (not (same_variable z x)) free).0) ∙ first)
      (sym (other z (and_parts (not (same_variable y x)) (not (same_variable z x)) free).1) ∙ second)
  stays (New i) free low old = new_stays i low old
  stays (Saved b y) free low old = tt
  stays (Kept b y) free low old = tt

  -- ---- facts that come

  new_value : R (New (depth - 1)) → (v ≡ pointer Nil) ⊎ ((n : ℕ) × NewAt here machine (depth - 1) n × (v ≡ pointer (Handle n)))
  new_value is = by_new (are.says (New (depth - 1)) is)
    where
      by_new : (at_place (depth - 1) here.stack ≡ Some (pointer Nil)) ⊎ ((n : ℕ) × NewAt here machine (depth - 1) n)
          → (v ≡ pointer Nil) ⊎ ((n : ℕ) × NewAt here machine (depth - 1) n × (v ≡ pointer (Handle n)))
      by_new (inl nil) = inl (same_Some v (pointer Nil) (sym top_value ∙ nil))
      by_new (inr new) = inr (new.0, new.1, same_Some v (pointer (Handle new.0)) (sym top_value ∙ new.1.holds))

  no_handle : (n : ℕ) → v ≡ pointer Nil → v ≡ pointer (Handle n) → ⊥
  no_handle n is so = cc

  live_new : (v ≡ pointer Nil) ⊎ ((n : ℕ) × NewAt here machine (depth - 1) n × (v ≡ pointer (Handle n))) → LiveValue next after x
  live_new (inl nil) = record { value = v; holds = now_value x v machine its; alive = λ n is. absurd (no_handle n nil is) }
  live_new (inr new) =
      record {
        value = v;
        holds = now_value x v machine its;
        alive = λ n is. alive_after n (subst (IsAlive machine) (sym (handle_is new.0 n (sym new.2 ∙ is))) new.1.alive);
      }

  live_named : (w : Variable) → R (With (depth - 1) w) → LiveValue here machine w → LiveValue next after x
  live_named w is old =
      record {
        value = v;
        holds = now_value x v machine its;
        alive = λ n so. alive_after n (old.alive n (same_Some old.value v (sym old.holds ∙ named w is) ∙ so));
      }

  live_comes : R (New (depth - 1)) ⊎ OfTop R (depth - 1) Live → LiveValue next after x
  live_comes (inl new) = live_new (new_value new)
  live_comes (inr old) = live_named old.0 old.1 (are.says (Live old.0) old.2)

  -- x and another name are apart
  apart_new : (z : Variable) (n : ℕ) → same_variable z x ≡ false → HoldsHandle after z n → v ≡ pointer (Handle n)
      → (v ≡ pointer Nil) ⊎ ((k : ℕ) × NewAt here machine (depth - 1) k × (v ≡ pointer (Handle k))) → ⊥
  apart_new z n else_ holds is (inl nil) = no_handle n nil is
  apart_new z n else_ holds is (inr new) =
      value_lacks new.0 machine z (pointer (Handle n)) new.1.nowhere (sym (other_value x z v machine else_) ∙ holds) (handle_is new.0 n (sym new.2 ∙ is))

  apart_comes : (z : Variable) (n : ℕ) → same_variable z x ≡ false → TopApart R (depth - 1) z → v ≡ pointer (Handle n) → HoldsHandle after z n → ⊥
  apart_comes z n else_ (inl new) is holds = apart_new z n else_ holds is (new_value new)
  apart_comes z n else_ (inr old) is holds =
      are.says (Distinct old.0 z) old.2 n (names_too old.0 n old.1 is) (sym (other_value x z v machine else_) ∙ holds)

  distinct_comes : (y z : Variable) → same_variable y z ≡ false
      → ((y ≡ x) × TopApart R (depth - 1) z) ⊎ ((z ≡ x) × TopApart R (depth - 1) y)
      → (n : ℕ) → HoldsHandle after y n → HoldsHandle after z n → ⊥
  distinct_comes y z apart (inl is) n first second =
      apart_comes z n (back z x ∙ ap (λ u. same_variable u z) (sym is.0) ∙ apart) is.1 (now_is y n is.0 first) second
  distinct_comes y z apart (inr is) n first second =
      apart_comes y n (ap (same_variable y) (sym is.0) ∙ apart) is.1 (now_is z n is.0 second) first

  comes : (z : Bool) (fact : MustFact) → AreNames scope code fact → SetBy R z x (depth - 1) fact → Says next after fact
  comes true (With i y) are_names is = (v, the_top i v rest (is.0 ∙ top_place), ap (value_of after) is.1 ∙ now_value x v machine its)
  comes true (Locked y) are_names is =
      λ n holds. fixed_after n (are.says (Locked is.1.0) is.1.2 n (names_too is.1.0 n is.1.1 (now_is y n is.0 holds)))
  comes true (Live y) are_names is = subst (LiveValue next after) (sym is.0) (live_comes is.1)
  comes true (Distinct y z) are_names is = distinct_comes y z are_names.2 is
  comes true (New i) are_names is = absurd is
  comes true (Saved b y) are_names is = tt
  comes true (Kept b y) are_names is = tt
  comes false (With i y) are_names is = absurd is
  comes false (Locked y) are_names is = absurd is
  comes false (Live y) are_names is = absurd is
  comes false (Distinct y z) are_names is = absurd is
  comes false (New i) are_names is = absurd is
  comes false (Saved b y) are_names is = tt
  comes false (Kept b y) are_names is = tt

  says_after : (z : Bool) (fact : MustFact) → After z fact → Says next after fact
  says_after z fact (are_names, inl is) = stays fact is.0.1 is.0.2 (are.says fact is.1)
  says_after z fact (are_names, inr is) = comes z fact are_names is

  -- ---- bytes

  present_before : (n : ℕ) → IsPresent after n → IsPresent machine n
  present_before n p = record { block = p.block; there = old_block n p.block p.there; present = p.present }

  free_keeper : (b : Keeper) (y : Variable) → (keeper_free x b && not (same_variable y x)) ≡ true → not (same_variable y x) ≡ true
  free_keeper b y free = (and_parts (keeper_free x b) (not (same_variable y x)) free).1

  -- a keeper that is as it was
  module _ (z : Bool) (b : Keeper) (byte : ℕ)
      (other_slot : (y : Variable) → SetBy R z x (depth - 1) (Saved b y) → ⊥)
      (by_name : (y : Variable) → SetBy R z x (depth - 1) (Kept b y) → (y ≡ x) × OfTop R (depth - 1) (Kept b)) where
    saved_old : (y : Variable) → After z (Saved b y) → R (Saved b y) × (value_of after y ≡ value_of machine y)
    saved_old y (are_names, inl is) = (is.1, other y (free_keeper b y is.0.1))
    saved_old y (are_names, inr is) = absurd (other_slot y is)

    kept_old : (y : Variable) (n : ℕ) → After z (Kept b y) → HoldsHandle after y n → IsMade machine n → IsPresent after n
        → ((u : Variable) → R (Saved b u) → HoldsHandle machine u n) → (w : Variable) × R (Kept b w) × HoldsHandle machine w n × IsPresent machine n
    kept_old y n (are_names, inl is) holds there present origin = (y, is.1, sym (other y (free_keeper b y is.0.1)) ∙ holds, present_before n present)
    kept_old y n (are_names, inr is) holds there present origin = by_top (by_name y is)
      where
        by_top : (y ≡ x) × OfTop R (depth - 1) (Kept b) → (w : Variable) × R (Kept b w) × HoldsHandle machine w n × IsPresent machine n
        by_top top = (top.1.0, top.1.2, names_too top.1.0 n top.1.1 (now_is y n top.0 holds), present_before n present)

    byte_stays : ByteTrue R here.lasting machine b byte since → ByteTrue (After z) here.lasting after b byte since
    byte_stays =
        byte_from R (After z) here.lasting here.lasting machine after since b b byte exists_after saved_old
        (λ n lasts is. (lasts, present_before n is)) kept_old

  -- x itself, which is no name
  module _ (byte : ℕ) (no_name : is_name scope code x ≡ false) where
    not_x : (y : Variable) → is_name scope code y ≡ true → not (same_variable y x) ≡ true
    not_x y is = by_test (same_variable y x) refl
      where
        by_test : (z : Bool) → same_variable y x ≡ z → not z ≡ true
        by_test true same = absurd (true≢false (sym is ∙ ap (is_name scope code) (one_name y x same) ∙ no_name))
        by_test false same = refl

    no_keeper : {A : Type 0} → (y : Variable) → (keeper_free x (in_slot x) && not (same_variable y x)) ≡ true → A
    no_keeper y free =
        absurd (true≢false (sym (and_parts (not (same_variable x x)) (not (same_variable y x)) free).0 ∙ ap not (itself x)))

    saved_top : (y : Variable) → After false (Saved (in_slot x) y) → R (Saved (on_stack (depth - 1)) y) × (value_of after y ≡ value_of machine y)
    saved_top y (are_names, inl is) = no_keeper y is.0.1
    saved_top y (are_names, inr is) = (is.1, other y (not_x y are_names.1))

    kept_top : (y : Variable) (n : ℕ) → After false (Kept (in_slot x) y) → HoldsHandle after y n → IsMade machine n → IsPresent after n
        → ((u : Variable) → R (Saved (on_stack (depth - 1)) u) → HoldsHandle machine u n)
        → (w : Variable) × R (Kept (on_stack (depth - 1)) w) × HoldsHandle machine w n × IsPresent machine n
    kept_top y n (are_names, inl is) holds there present origin = no_keeper y is.0.1
    kept_top y n (are_names, inr is) holds there present origin = (y, is.1, sym (other y (not_x y are_names.1)) ∙ holds, present_before n present)

    byte_goes : ByteTrue R here.lasting machine (on_stack (depth - 1)) byte since → ByteTrue (After false) here.lasting after (in_slot x) byte since
    byte_goes =
        byte_from R (After false) here.lasting here.lasting machine after since (on_stack (depth - 1)) (in_slot x) byte exists_after saved_top
        (λ n lasts is. (lasts, present_before n is)) kept_top

  -- x itself, which is a name: nothing is said of its byte
  module _ (byte : ℕ) where
    no_facts : ByteTrue (After true) here.lasting after (in_slot x) byte since
    no_facts =
        record {
          origin = None;
          there = λ n so. absurd cc;
          read = λ y n is. absurd (never y is);
          made = λ y n is. absurd (never y is);
          lasts = λ n block so. absurd cc;
          keeps = λ y n block is. absurd (never_kept y is);
          marks = λ n so. absurd cc;
        }
      where
        never : (y : Variable) → After true (Saved (in_slot x) y) → ⊥
        never y (are_names, inl is) = absurd (true≢false (sym (and_parts (not (same_variable x x)) (not (same_variable y x)) is.0.1).0 ∙ ap not (itself x)))
        never y (are_names, inr is) = is

        never_kept : (y : Variable) → After true (Kept (in_slot x) y) → ⊥
        never_kept y (are_names, inl is) =
            absurd (true≢false (sym (and_parts (not (same_variable x x)) (not (same_variable y x)) is.0.1).0 ∙ ap not (itself x)))
        never_kept y (are_names, inr is) = absurd (true≢false (sym is.1 ∙ ap not (itself x)))

  bytes_at : (z : Bool) (b : Keeper) (byte : ℕ) → is_name scope code x ≡ z → kept_in next after b ≡ Some (state byte)
      → ByteTrue (After z) here.lasting after b byte since
  bytes_at true (on_stack i) byte is held =
      byte_stays true (on_stack i) byte (λ y it. it) (λ y it. (it.0, it.2)) (are.bytes (on_stack i) byte (sym (places i) ∙ held))
  bytes_at false (on_stack i) byte is held =
      byte_stays false (on_stack i) byte (λ y it. it) (λ y it. absurd it) (are.bytes (on_stack i) byte (sym (places i) ∙ held))
  bytes_at z (in_slot b) byte is held = by_slot (same_variable b x) refl z is
    where
      top_held : b ≡ x → at_place (depth - 1) here.stack ≡ Some (state byte)
      top_held so = top_value ∙ sym (now_value x v machine its) ∙ ap (value_of after) (sym so) ∙ held

      by_slot : (same : Bool) → same_variable b x ≡ same → (z : Bool) → is_name scope code x ≡ z → ByteTrue (After z) here.lasting after (in_slot b) byte since
      by_slot true so true is = subst (λ u. ByteTrue (After true) here.lasting after (in_slot u) byte since) (sym (one_name b x so)) (no_facts byte)
      by_slot true so false is =
          subst (λ u. ByteTrue (After false) here.lasting after (in_slot u) byte since) (sym (one_name b x so))
          (byte_goes byte is (are.bytes (on_stack (depth - 1)) byte (top_held (one_name b x so))))
      by_slot false so true is =
          byte_stays true (in_slot b) byte (λ y it. it) (λ y it. (it.0, it.2)) (are.bytes (in_slot b) byte (sym (other_value x b v machine so) ∙ held))
      by_slot false so false is =
          byte_stays false (in_slot b) byte
          (λ y it. true≢false (sym (itself x) ∙ ap (λ u. same_variable u x) (sym it.0) ∙ so))
          (λ y it. absurd (true≢false (sym (itself x) ∙ ap (λ u. same_variable u x) (sym it.0) ∙ so)))
          (are.bytes (in_slot b) byte (sym (other_value x b v machine so) ∙ held))

  -- what a Set gives is true
  pub set_true : AllTrue (λ fact. AreNames scope code fact × Gives scope code impact R (op.Set x) depth fact) next after since
  set_true = record { says = says_after (is_name scope code x); bytes = λ b byte held. bytes_at (is_name scope code x) b byte refl held }
