-- State bytes that operations copy (own).
--     bytes_get, bytes_dup       the rows `get_also`, `dup_also`
--     bytes_conv                 the row `conv_stays`
--     bytes_set                  the rows `set_stays`, `set_also`
--     bytes_tuck                 the rows `tuck_low`, `tuck_top`, `tuck_moved`
use Rattle.std.proofs.Common.{◌≡◌, ◌<◌, ◌≤◌, ◌⊎◌, inl, inr, ℕ, suc, ◌-◌, nat_lt, ◌==◌, Bool, true, false, not, ◌&&◌, List, ◌∷◌, length, Some, refl, sym, ap, ◌∙◌, subst, arith, true≢false}
use Rattle.std.proofs.lemmas.Bool.Decides.{nat_tests}
use Rattle.std.proofs.lemmas.Bool.{and_parts}
use Rattle.std.proofs.lemmas.Option.{same_Some}
use Rattle.hs_calls.specs.Calls.{Here, Wait, moved}
use Rattle.hs_chains.specs.Knowledge.{Knowledge}
use Rattle.hs_code.specs.Following.{IsNext}
use Rattle.hs_code.specs.Stacks.{Scope}
use Rattle.hs_code.specs.declared.function_code.Placed.{Placed}
use Rattle.hs_code.specs.declared.op.Op.TheVariants as op
use Rattle.hs_code.specs.declared.op.Op.{Op}
use Rattle.hs_facts.specs.Changes.{SetBy}
use Rattle.hs_facts.specs.Effects.{WholeCode}
use Rattle.hs_facts.specs.MustFacts.{MustFact, Saved, Keeper, on_stack, in_slot, KeeperUnder}
use Rattle.hs_facts.specs.Names.{taken, same_variable, is_name}
use Rattle.hs_flow.specs.Among.{Among}
use Rattle.hs_flow.specs.Given.{Given}
use Rattle.hs_flow.specs.Laws.Coming as rows
use Rattle.hs_flow.specs.Laws.Staying.{LeavesSlots, is_below_of}
use Rattle.hs_flow.specs.Next.{at_slot, next_of}
use Rattle.hs_flow.specs.Programs.{scope_at}
use Rattle.hs_flow.specs.Slots.{is_below}
use Rattle.hs_flow.specs.declared.fact.FactStatus.TheVariants as status
use Rattle.hs_flow.specs.declared.fact.Slot as flow_slot
use Rattle.hs_flow.specs.declared.fact.Slot.TheVariants as slot
use Rattle.hs_hiding.specs.Holding.{value_of}
use Rattle.hs_meaning.specs.Machine.{Machine, with_value}
use Rattle.hs_meaning.specs.Values.{Value, state}
use Rattle.hs_tracked.specs.Bytes.{AreBytesTracked, IsAccounted, bytes_go, low_slot, slot_of}
use Rattle.hs_tracked.specs.Going.{IsAt, leads}
use Rattle.hs_tracked.specs.Passing.{Brings}
use Rattle.hs_tree.specs.declared.head.Variable.{Variable}
use Rattle.hs_true.specs.Setting.{one_name, itself, other_value, IsSlot, now_value}
use Rattle.hs_truth.specs.Places.{at_place, the_top, under_top}
use Rattle.hs_types.specs.declared.integer.Integer.{Integer}

module _ (whole : WholeCode) (known : Knowledge) (here : Here) (machine : Machine) (ws : List Wait) (its : Placed) (is_at : IsAt whole known here its)
    (deep : its.places ≡ length here.stack) (lasting : ℕ → Bool) where
  -- what is known at the operation
  abbrev facts : Given
  facts = known.at here.fn here.at

  -- what the kinds of its operations depend on
  abbrev its_kinds : Scope
  its_kinds = scope_at whole here.fn

  places_are : facts.places ≡ its.places
  places_are = is_at.deep ∙ sym deep

  -- the fact of the one slot gives that of the other
  abbrev RuleOf : Op → flow_slot.Slot → flow_slot.Slot → Type 0
  RuleOf form of to =
      Among (next_of its_kinds (length whole.classes) facts form (at_slot status.SavedPurgeable of)) (at_slot status.SavedPurgeable to)

  no_less : (n : ℕ) → n - 0 ≡ n
  no_less n = omega arith

  -- below a place, at it, or above it
  by_place : (i n : ℕ) → (i < n) ⊎ (i ≡ n) ⊎ (n < i)
  by_place i n = by_less (nat_lt i n) refl
    where
      by_same : nat_lt i n ≡ false → (z : Bool) → (i == n) ≡ z → (i < n) ⊎ (i ≡ n) ⊎ (n < i)
      by_same not_less true so = inr (inl (grind (so, nat_tests, arith)))
      by_same not_less false so = inr (inr (grind (not_less, so, nat_tests, arith)))

      by_less : (z : Bool) → nat_lt i n ≡ z → (i < n) ⊎ (i ≡ n) ⊎ (n < i)
      by_less true so = inl (grind (so, nat_tests, arith))
      by_less false so = by_same so (i == n) refl

  not_same : (i n : ℕ) → i < n → i ≡ n → ⊥
  not_same i n low same = omega (low, same, arith)

  not_low : (i n : ℕ) → n < i → i < n → ⊥
  not_low i n high low = omega (high, low, arith)

  not_at : (i n : ℕ) → n < i → i ≡ n → ⊥
  not_at i n high same = omega (high, same, arith)

  -- a fact that stays, or one that comes
  old_of : (U E P Q : Type 0) → (E → ⊥) → (U × P) ⊎ (E × Q) → P
  old_of U E P Q other (inl old) = old.1
  old_of U E P Q other (inr new) = absurd (other new.0)

  new_of : (U E P Q : Type 0) → (U → ⊥) → (U × P) ⊎ (E × Q) → Q
  new_of U E P Q other (inl old) = absurd (other old.0)
  new_of U E P Q other (inr new) = new.1

  never_of : (U E P Q : Type 0) → (U → ⊥) → (E → ⊥) → (U × P) ⊎ (E × Q) → ⊥
  never_of U E P Q one other (inl old) = one old.0
  never_of U E P Q one other (inr new) = other new.0

  kept_of : (U P : Type 0) → (U × P) ⊎ ⊥ → P
  kept_of U P (inl old) = old.1
  kept_of U P (inr new) = absurd new

  -- ---- an operation, after which the next one goes on

  module _ (form : Op) (is : its.op ≡ form) (goes : IsNext form here.function.code.cases here.at (suc here.at)) (stack : List Value) (after : Machine) where
    -- the call after it
    abbrev later : Here
    later = moved here (suc here.at) stack lasting

    -- a byte that is accounted for
    abbrev Came : Keeper → Type 1
    Came = IsAccounted whole known here machine ws its is_at deep lasting form is (suc here.at) stack goes after

    -- a rule of the flow carries the fact
    carried : (of to : flow_slot.Slot) → RuleOf form of to
        → Brings whole known here later machine after ws of to status.SavedPurgeable status.SavedPurgeable
    carried of to rule =
        leads whole known here machine ws its is_at form is (suc here.at) stack lasting goes after of to status.SavedPurgeable status.SavedPurgeable rule

    all_came : ((b : Keeper) → Came b) → AreBytesTracked whole known here machine ws → AreBytesTracked whole known later after ws
    all_came each are = bytes_go whole known here machine ws its is_at deep lasting form is (suc here.at) stack goes after each are

  -- a slot below a place, at an operation that leaves it
  stays_below : (form : Op) (low : ℕ) (b : Keeper) → LeavesSlots form → its.places - taken its_kinds form ≡ low → KeeperUnder low b
      → RuleOf form (slot_of b) (slot_of b)
  stays_below form low b leaves_slots so is_low =
      rows.stays its_kinds (length whole.classes) facts form status.SavedPurgeable (slot_of b) leaves_slots
      (ap (λ n. is_below (n - taken its_kinds form) (slot_of b)) places_are ∙ ap (λ n. is_below n (slot_of b)) so ∙ low_slot low b is_low)

  -- ---- Get: the byte of the variable is on top too

  module _ (v : Variable) (is : its.op ≡ op.Get v) (value : Value) (holds_value : value_of machine v ≡ Some value) where
    on_got : (i : ℕ) → (i < its.places) ⊎ (i ≡ its.places) ⊎ (its.places < i) → Came (op.Get v) is refl (value ∷ here.stack) machine (on_stack i)
    on_got i (inl low) =
        inl (
          on_stack i,
          record {
            gives = λ code R x given.
                old_of (i < its.places - 0) (i ≡ its.places) (R (Saved (on_stack i) x)) (R (Saved (in_slot v) x)) (not_same i its.places low) given;
            held = λ byte held. sym (under_top i value here.stack (subst (λ n. i < n) deep low)) ∙ held;
            brings = carried (op.Get v) is refl (value ∷ here.stack) machine (slot.Place i) (slot.Place i)
                (stays_below (op.Get v) its.places (on_stack i) tt (no_less its.places) low);
          },
        )
    on_got i (inr (inl top)) =
        inl (
          in_slot v,
          record {
            gives = λ code R x given.
                new_of (i < its.places - 0) (i ≡ its.places) (R (Saved (on_stack i) x)) (R (Saved (in_slot v) x))
                (λ low. not_same i its.places (subst (λ n. i < n) (no_less its.places) low) top) given;
            held = λ byte held. holds_value ∙ sym (the_top i value here.stack (top ∙ deep)) ∙ held;
            brings = carried (op.Get v) is refl (value ∷ here.stack) machine (slot.Variable v) (slot.Place i)
                (subst (λ n. RuleOf (op.Get v) (slot.Variable v) (slot.Place n)) (places_are ∙ sym top)
                (rows.get_also its_kinds (length whole.classes) facts v status.SavedPurgeable));
          },
        )
    on_got i (inr (inr high)) =
        inr (inl (λ code R x given.
        never_of (i < its.places - 0) (i ≡ its.places) (R (Saved (on_stack i) x)) (R (Saved (in_slot v) x))
        (λ low. not_low i its.places high (subst (λ n. i < n) (no_less its.places) low)) (not_at i its.places high) given))

    each_got : (b : Keeper) → Came (op.Get v) is refl (value ∷ here.stack) machine b
    each_got (on_stack i) = on_got i (by_place i its.places)
    each_got (in_slot b) =
        inl (
          in_slot b,
          record {
            gives = λ code R x given. kept_of (Unit {0}) (R (Saved (in_slot b) x)) given;
            held = λ byte held. held;
            brings = carried (op.Get v) is refl (value ∷ here.stack) machine (slot.Variable b) (slot.Variable b)
                (stays_below (op.Get v) its.places (in_slot b) tt (no_less its.places) tt);
          },
        )

    pub bytes_get : AreBytesTracked whole known here machine ws
        → AreBytesTracked whole known (moved here (suc here.at) (value ∷ here.stack) lasting) machine ws
    bytes_get are = all_came (op.Get v) is refl (value ∷ here.stack) machine each_got are

  -- ---- Dup: a copy of the top

  module _ (is : its.op ≡ op.Dup) (value : Value) (rest : List Value) (so : here.stack ≡ value ∷ rest) where
    many : its.places ≡ suc (length rest)
    many = deep ∙ ap length so

    top_value : at_place (its.places - 1) here.stack ≡ Some value
    top_value = ap (at_place (its.places - 1)) so ∙ the_top (its.places - 1) value rest (omega (arith, many))

    on_dup : (i : ℕ) → (i < its.places) ⊎ (i ≡ its.places) ⊎ (its.places < i) → Came op.Dup is refl (value ∷ here.stack) machine (on_stack i)
    on_dup i (inl low) =
        inl (
          on_stack i,
          record {
            gives = λ code R x given.
                old_of ((i < its.places) × (true ≡ true)) (i ≡ its.places) (R (Saved (on_stack i) x)) (R (Saved (on_stack (its.places - 1)) x))
                (not_same i its.places low) given;
            held = λ byte held. sym (under_top i value here.stack (subst (λ n. i < n) deep low)) ∙ held;
            brings = carried op.Dup is refl (value ∷ here.stack) machine (slot.Place i) (slot.Place i)
                (stays_below op.Dup its.places (on_stack i) tt (no_less its.places) low);
          },
        )
    on_dup i (inr (inl top)) =
        inl (
          on_stack (its.places - 1),
          record {
            gives = λ code R x given.
                new_of ((i < its.places) × (true ≡ true)) (i ≡ its.places) (R (Saved (on_stack i) x)) (R (Saved (on_stack (its.places - 1)) x))
                (λ low. not_same i its.places low.0 top) given;
            held = λ byte held. top_value ∙ sym (the_top i value here.stack (top ∙ deep)) ∙ held;
            brings = carried op.Dup is refl (value ∷ here.stack) machine (slot.Place (its.places - 1)) (slot.Place i)
                (subst (λ n. RuleOf op.Dup (slot.Place (its.places - 1)) (slot.Place n)) (sym top)
                (subst (λ n. RuleOf op.Dup (slot.Place (n - 1)) (slot.Place n)) places_are
                (rows.dup_also its_kinds (length whole.classes) facts status.SavedPurgeable)));
          },
        )
    on_dup i (inr (inr high)) =
        inr (inl (λ code R x given.
        never_of ((i < its.places) × (true ≡ true)) (i ≡ its.places) (R (Saved (on_stack i) x)) (R (Saved (on_stack (its.places - 1)) x))
        (λ low. not_low i its.places high low.0) (not_at i its.places high) given))

    each_dup : (b : Keeper) → Came op.Dup is refl (value ∷ here.stack) machine b
    each_dup (on_stack i) = on_dup i (by_place i its.places)
    each_dup (in_slot b) =
        inl (
          in_slot b,
          record {
            gives = λ code R x given. kept_of (Unit {0} × (true ≡ true)) (R (Saved (in_slot b) x)) given;
            held = λ byte held. held;
            brings = carried op.Dup is refl (value ∷ here.stack) machine (slot.Variable b) (slot.Variable b)
                (stays_below op.Dup its.places (in_slot b) tt (no_less its.places) tt);
          },
        )

    pub bytes_dup : AreBytesTracked whole known here machine ws
        → AreBytesTracked whole known (moved here (suc here.at) (value ∷ here.stack) lasting) machine ws
    bytes_dup are = all_came op.Dup is refl (value ∷ here.stack) machine each_dup are

  -- ---- Conv leaves a state byte as it is

  module _ (kind : Integer) (is : its.op ≡ op.Conv kind) (value new : Value) (rest : List Value) (so : here.stack ≡ value ∷ rest)
      (same_byte : (byte : ℕ) → new ≡ state byte → value ≡ state byte) where
    conv_many : its.places ≡ suc (length rest)
    conv_many = deep ∙ ap length so

    conv_top : its.places - 1 ≡ length rest
    conv_top = omega (arith, conv_many)

    on_conv : (i : ℕ) → (i < its.places - 1) ⊎ (i ≡ its.places - 1) ⊎ (its.places - 1 < i)
        → Came (op.Conv kind) is refl (new ∷ rest) machine (on_stack i)
    on_conv i (inl low) =
        inl (
          on_stack i,
          record {
            gives = λ code R x given.
                old_of (i < its.places - 1) (i ≡ its.places - 1) (R (Saved (on_stack i) x)) (R (Saved (on_stack (its.places - 1)) x))
                (not_same i (its.places - 1) low) given;
            held = λ byte held.
                ap (at_place i) so ∙ under_top i value rest (subst (λ n. i < n) conv_top low)
                ∙ sym (under_top i new rest (subst (λ n. i < n) conv_top low)) ∙ held;
            brings = carried (op.Conv kind) is refl (new ∷ rest) machine (slot.Place i) (slot.Place i)
                (stays_below (op.Conv kind) (its.places - 1) (on_stack i) tt refl low);
          },
        )
    on_conv i (inr (inl top)) =
        inl (
          on_stack i,
          record {
            gives = λ code R x given.
                subst (λ n. R (Saved (on_stack n) x)) (sym top)
                (new_of (i < its.places - 1) (i ≡ its.places - 1) (R (Saved (on_stack i) x)) (R (Saved (on_stack (its.places - 1)) x))
                (λ low. not_same i (its.places - 1) low top) given);
            held = λ byte held.
                ap (at_place i) so ∙ the_top i value rest (top ∙ conv_top)
                ∙ ap (λ v. Some v) (same_byte byte (same_Some new (state byte) (sym (the_top i new rest (top ∙ conv_top)) ∙ held)));
            brings = carried (op.Conv kind) is refl (new ∷ rest) machine (slot.Place i) (slot.Place i)
                (rows.conv_stays its_kinds (length whole.classes) facts kind status.SavedPurgeable (slot.Place i)
                (is_below_of facts.places i (omega (arith, top, conv_many, places_are))));
          },
        )
    on_conv i (inr (inr high)) =
        inr (inl (λ code R x given.
        never_of (i < its.places - 1) (i ≡ its.places - 1) (R (Saved (on_stack i) x)) (R (Saved (on_stack (its.places - 1)) x))
        (not_low i (its.places - 1) high) (not_at i (its.places - 1) high) given))

    each_conv : (b : Keeper) → Came (op.Conv kind) is refl (new ∷ rest) machine b
    each_conv (on_stack i) = on_conv i (by_place i (its.places - 1))
    each_conv (in_slot b) =
        inl (
          in_slot b,
          record {
            gives = λ code R x given. kept_of (Unit {0}) (R (Saved (in_slot b) x)) given;
            held = λ byte held. held;
            brings = carried (op.Conv kind) is refl (new ∷ rest) machine (slot.Variable b) (slot.Variable b)
                (stays_below (op.Conv kind) (its.places - 1) (in_slot b) tt refl tt);
          },
        )

    pub bytes_conv : AreBytesTracked whole known here machine ws
        → AreBytesTracked whole known (moved here (suc here.at) (new ∷ rest) lasting) machine ws
    bytes_conv are = all_came (op.Conv kind) is refl (new ∷ rest) machine each_conv are

  -- ---- Set: the byte on top is the variable's too

  module _ (v : Variable) (is : its.op ≡ op.Set v) (value : Value) (rest : List Value) (so : here.stack ≡ value ∷ rest) (a_slot : IsSlot machine v) where
    set_many : its.places ≡ suc (length rest)
    set_many = deep ∙ ap length so

    -- the machine after it
    abbrev pub set_machine : Machine
    set_machine = with_value v value machine

    -- what is said of another variable, or of the top
    fact_of_slot : (z : Bool) (S P : Type 0) (R : MustFact → Type 0) (b x : Variable) (top : ℕ)
        → (S × P) ⊎ SetBy R z v top (Saved (in_slot b) x) → (S × P) ⊎ ((b ≡ v) × R (Saved (on_stack top) x))
    fact_of_slot true S P R b x top (inl old) = inl old
    fact_of_slot true S P R b x top (inr new) = absurd new
    fact_of_slot false S P R b x top (inl old) = inl old
    fact_of_slot false S P R b x top (inr new) = inr new

    fact_of_place : (z : Bool) (S P : Type 0) (R : MustFact → Type 0) (i : ℕ) (x : Variable) (top : ℕ)
        → (S × P) ⊎ SetBy R z v top (Saved (on_stack i) x) → S × P
    fact_of_place true S P R i x top (inl old) = old
    fact_of_place true S P R i x top (inr new) = absurd new
    fact_of_place false S P R i x top (inl old) = old
    fact_of_place false S P R i x top (inr new) = absurd new

    on_set : (i : ℕ) → (i < its.places) ⊎ (i ≡ its.places) ⊎ (its.places < i) → Came (op.Set v) is refl here.stack set_machine (on_stack i)
    on_set i (inl low) =
        inl (
          on_stack i,
          record {
            gives = λ code R x given.
                (fact_of_place (is_name its_kinds code v) ((i < its.places) × ((true && not (same_variable x v)) ≡ true) × (true ≡ true))
                (R (Saved (on_stack i) x)) R i x (its.places - 1) given).1;
            held = λ byte held. held;
            brings = carried (op.Set v) is refl here.stack set_machine (slot.Place i) (slot.Place i)
                (rows.set_stays its_kinds (length whole.classes) facts v status.SavedPurgeable (slot.Place i) refl
                (is_below_of facts.places i (subst (λ n. i < n) (sym places_are) low)));
          },
        )
    on_set i (inr high) =
        inr (inl (λ code R x given.
        too_high high
        (fact_of_place (is_name its_kinds code v) ((i < its.places) × ((true && not (same_variable x v)) ≡ true) × (true ≡ true))
        (R (Saved (on_stack i) x)) R i x (its.places - 1) given).0.0))
      where
        too_high : (i ≡ its.places) ⊎ (its.places < i) → i < its.places → ⊥
        too_high (inl same) low = not_same i its.places low same
        too_high (inr high) low = not_low i its.places high low

    on_variable : (b : Variable) (z : Bool) → same_variable b v ≡ z → Came (op.Set v) is refl here.stack set_machine (in_slot b)
    on_variable b true same =
        inl (
          on_stack (its.places - 1),
          record {
            gives = λ code R x given.
                new_of (Unit {0} × ((not (same_variable b v) && not (same_variable x v)) ≡ true) × (true ≡ true)) (b ≡ v) (R (Saved (in_slot b) x))
                (R (Saved (on_stack (its.places - 1)) x))
                (λ old. true≢false (sym (and_parts (not (same_variable b v)) (not (same_variable x v)) old.1).0 ∙ ap not same))
                (fact_of_slot (is_name its_kinds code v) (Unit {0} × ((not (same_variable b v) && not (same_variable x v)) ≡ true) × (true ≡ true))
                (R (Saved (in_slot b) x)) R b x (its.places - 1) given);
            held = λ byte held.
                ap (at_place (its.places - 1)) so ∙ the_top (its.places - 1) value rest (omega (arith, set_many))
                ∙ sym (now_value v value machine a_slot) ∙ ap (value_of set_machine) (sym (one_name b v same)) ∙ held;
            brings = carried (op.Set v) is refl here.stack set_machine (slot.Place (its.places - 1)) (slot.Variable b)
                (subst (λ y. RuleOf (op.Set v) (slot.Place (its.places - 1)) (slot.Variable y)) (sym (one_name b v same))
                (subst (λ n. RuleOf (op.Set v) (slot.Place (n - 1)) (slot.Variable v)) places_are
                (rows.set_also its_kinds (length whole.classes) facts v status.SavedPurgeable)));
          },
        )
    on_variable b false other =
        inl (
          in_slot b,
          record {
            gives = λ code R x given.
                old_of (Unit {0} × ((not (same_variable b v) && not (same_variable x v)) ≡ true) × (true ≡ true)) (b ≡ v) (R (Saved (in_slot b) x))
                (R (Saved (on_stack (its.places - 1)) x))
                (λ one. true≢false (sym (ap (λ y. same_variable y v) one ∙ itself v) ∙ other))
                (fact_of_slot (is_name its_kinds code v) (Unit {0} × ((not (same_variable b v) && not (same_variable x v)) ≡ true) × (true ≡ true))
                (R (Saved (in_slot b) x)) R b x (its.places - 1) given);
            held = λ byte held. sym (other_value v b value machine other) ∙ held;
            brings = carried (op.Set v) is refl here.stack set_machine (slot.Variable b) (slot.Variable b)
                (rows.set_stays its_kinds (length whole.classes) facts v status.SavedPurgeable (slot.Variable b) other refl);
          },
        )

    each_set : (b : Keeper) → Came (op.Set v) is refl here.stack set_machine b
    each_set (on_stack i) = on_set i (by_place i its.places)
    each_set (in_slot b) = on_variable b (same_variable b v) refl

    pub bytes_set : AreBytesTracked whole known here machine ws
        → AreBytesTracked whole known (moved here (suc here.at) here.stack lasting) set_machine ws
    bytes_set are = all_came (op.Set v) is refl here.stack set_machine each_set are

  -- ---- Tuck: a copy of the top below the value under it

  module _ (is : its.op ≡ op.Tuck) (value under : Value) (rest : List Value) (so : here.stack ≡ value ∷ under ∷ rest) where
    -- the stack after it
    abbrev pub tucked : List Value
    tucked = value ∷ under ∷ value ∷ rest

    tuck_many : its.places ≡ suc (suc (length rest))
    tuck_many = deep ∙ ap length so

    tuck_known : facts.places ≡ suc (suc (length rest))
    tuck_known = is_at.deep ∙ ap length so

    two : 2 ≤ facts.places
    two = omega (arith, tuck_known)

    was_top : at_place (its.places - 1) here.stack ≡ Some value
    was_top = ap (at_place (its.places - 1)) so ∙ the_top (its.places - 1) value (under ∷ rest) (omega (arith, tuck_many))

    was_under : at_place (its.places - 2) here.stack ≡ Some under
    was_under =
        ap (at_place (its.places - 2)) so ∙ under_top (its.places - 2) value (under ∷ rest) (omega (arith, tuck_many))
        ∙ the_top (its.places - 2) under rest (omega (arith, tuck_many))

    -- what Tuck says of a byte on the stack
    abbrev TuckGives : (MustFact → Type 0) → Variable → ℕ → Type 0
    TuckGives R x i =
        ((i < its.places - 2) × R (Saved (on_stack i) x))
        ⊎ ((i ≡ its.places - 2) × R (Saved (on_stack (its.places - 1)) x))
        ⊎ ((i ≡ its.places - 1) × R (Saved (on_stack (its.places - 2)) x))
        ⊎ ((i ≡ its.places) × R (Saved (on_stack (its.places - 1)) x))

    at_low : (R : MustFact → Type 0) (x : Variable) (i : ℕ) → i < its.places - 2 → TuckGives R x i → R (Saved (on_stack i) x)
    at_low R x i low (inl old) = old.1
    at_low R x i low (inr (inl new)) = absurd (omega (low, new.0, tuck_many, arith))
    at_low R x i low (inr (inr (inl new))) = absurd (omega (low, new.0, tuck_many, arith))
    at_low R x i low (inr (inr (inr new))) = absurd (omega (low, new.0, tuck_many, arith))

    at_copy : (R : MustFact → Type 0) (x : Variable) (i : ℕ) → i ≡ its.places - 2 → TuckGives R x i → R (Saved (on_stack (its.places - 1)) x)
    at_copy R x i at (inl old) = absurd (omega (at, old.0, tuck_many, arith))
    at_copy R x i at (inr (inl new)) = new.1
    at_copy R x i at (inr (inr (inl new))) = absurd (omega (at, new.0, tuck_many, arith))
    at_copy R x i at (inr (inr (inr new))) = absurd (omega (at, new.0, tuck_many, arith))

    at_moved : (R : MustFact → Type 0) (x : Variable) (i : ℕ) → i ≡ its.places - 1 → TuckGives R x i → R (Saved (on_stack (its.places - 2)) x)
    at_moved R x i at (inl old) = absurd (omega (at, old.0, tuck_many, arith))
    at_moved R x i at (inr (inl new)) = absurd (omega (at, new.0, tuck_many, arith))
    at_moved R x i at (inr (inr (inl new))) = new.1
    at_moved R x i at (inr (inr (inr new))) = absurd (omega (at, new.0, tuck_many, arith))

    at_top : (R : MustFact → Type 0) (x : Variable) (i : ℕ) → i ≡ its.places → TuckGives R x i → R (Saved (on_stack (its.places - 1)) x)
    at_top R x i at (inl old) = absurd (omega (at, old.0, tuck_many, arith))
    at_top R x i at (inr (inl new)) = absurd (omega (at, new.0, tuck_many, arith))
    at_top R x i at (inr (inr (inl new))) = absurd (omega (at, new.0, tuck_many, arith))
    at_top R x i at (inr (inr (inr new))) = new.1

    at_none : (R : MustFact → Type 0) (x : Variable) (i : ℕ) → its.places < i → TuckGives R x i → ⊥
    at_none R x i high (inl old) = omega (high, old.0, tuck_many, arith)
    at_none R x i high (inr (inl new)) = omega (high, new.0, tuck_many, arith)
    at_none R x i high (inr (inr (inl new))) = omega (high, new.0, tuck_many, arith)
    at_none R x i high (inr (inr (inr new))) = omega (high, new.0, tuck_many, arith)

    -- where a place is
    data InTuck (i : ℕ) : Type 0 where
      is_low : i < its.places - 2 → InTuck i
      is_copy : i ≡ its.places - 2 → InTuck i
      is_moved : i ≡ its.places - 1 → InTuck i
      is_top : i ≡ its.places → InTuck i
      is_high : its.places < i → InTuck i

    in_tuck : (i : ℕ) → InTuck i
    in_tuck i = by_top (by_place i its.places)
      where
        by_low : (i < its.places - 2) ⊎ (i ≡ its.places - 2) ⊎ (its.places - 2 < i) → i < its.places - 1 → InTuck i
        by_low (inl low) less = is_low low
        by_low (inr (inl at)) less = is_copy at
        by_low (inr (inr high)) less = absurd (omega (high, less, tuck_many, arith))

        by_under : (i < its.places - 1) ⊎ (i ≡ its.places - 1) ⊎ (its.places - 1 < i) → i < its.places → InTuck i
        by_under (inl low) less = by_low (by_place i (its.places - 2)) low
        by_under (inr (inl at)) less = is_moved at
        by_under (inr (inr high)) less = absurd (omega (high, less, tuck_many, arith))

        by_top : (i < its.places) ⊎ (i ≡ its.places) ⊎ (its.places < i) → InTuck i
        by_top (inl low) = by_under (by_place i (its.places - 1)) low
        by_top (inr (inl at)) = is_top at
        by_top (inr (inr high)) = is_high high

    on_tuck : (i : ℕ) → InTuck i → Came op.Tuck is refl tucked machine (on_stack i)
    on_tuck i (is_low low) =
        inl (
          on_stack i,
          record {
            gives = λ code R x given. at_low R x i low given;
            held = λ byte held.
                ap (at_place i) so ∙ under_top i value (under ∷ rest) (omega (low, tuck_many, arith)) ∙ under_top i under rest (omega (low, tuck_many, arith))
                ∙ sym (under_top i value (under ∷ value ∷ rest) (omega (low, tuck_many, arith))
                ∙ under_top i under (value ∷ rest) (omega (low, tuck_many, arith)) ∙ under_top i value rest (omega (low, tuck_many, arith))) ∙ held;
            brings = carried op.Tuck is refl tucked machine (slot.Place i) (slot.Place i) (stays_below op.Tuck (its.places - 2) (on_stack i) tt refl low);
          },
        )
    on_tuck i (is_copy at) =
        inl (
          on_stack (its.places - 1),
          record {
            gives = λ code R x given. at_copy R x i at given;
            held = λ byte held.
                was_top ∙ sym (under_top i value (under ∷ value ∷ rest) (omega (at, tuck_many, arith))
                ∙ under_top i under (value ∷ rest) (omega (at, tuck_many, arith)) ∙ the_top i value rest (omega (at, tuck_many, arith))) ∙ held;
            brings = carried op.Tuck is refl tucked machine (slot.Place (its.places - 1)) (slot.Place i)
                (subst (λ n. RuleOf op.Tuck (slot.Place (its.places - 1)) (slot.Place n)) (sym at)
                (subst (λ n. RuleOf op.Tuck (slot.Place (n - 1)) (slot.Place (n - 2))) places_are
                (rows.tuck_low its_kinds (length whole.classes) facts status.SavedPurgeable two)));
          },
        )
    on_tuck i (is_moved at) =
        inl (
          on_stack (its.places - 2),
          record {
            gives = λ code R x given. at_moved R x i at given;
            held = λ byte held.
                was_under ∙ sym (under_top i value (under ∷ value ∷ rest) (omega (at, tuck_many, arith))
                ∙ the_top i under (value ∷ rest) (omega (at, tuck_many, arith))) ∙ held;
            brings = carried op.Tuck is refl tucked machine (slot.Place (its.places - 2)) (slot.Place i)
                (subst (λ n. RuleOf op.Tuck (slot.Place (its.places - 2)) (slot.Place n)) (sym at)
                (subst (λ n. RuleOf op.Tuck (slot.Place (n - 2)) (slot.Place (n - 1))) places_are
                (rows.tuck_moved its_kinds (length whole.classes) facts status.SavedPurgeable)));
          },
        )
    on_tuck i (is_top at) =
        inl (
          on_stack (its.places - 1),
          record {
            gives = λ code R x given. at_top R x i at given;
            held = λ byte held. was_top ∙ sym (the_top i value (under ∷ value ∷ rest) (omega (at, tuck_many, arith))) ∙ held;
            brings = carried op.Tuck is refl tucked machine (slot.Place (its.places - 1)) (slot.Place i)
                (subst (λ n. RuleOf op.Tuck (slot.Place (its.places - 1)) (slot.Place n)) (sym at)
                (subst (λ n. RuleOf op.Tuck (slot.Place (n - 1)) (slot.Place n)) places_are
                (rows.tuck_top its_kinds (length whole.classes) facts status.SavedPurgeable two)));
          },
        )
    on_tuck i (is_high high) = inr (inl (λ code R x given. at_none R x i high given))

    each_tuck : (b : Keeper) → Came op.Tuck is refl tucked machine b
    each_tuck (on_stack i) = on_tuck i (in_tuck i)
    each_tuck (in_slot b) =
        inl (
          in_slot b,
          record {
            gives = λ code R x given. by_tuck R x given;
            held = λ byte held. held;
            brings = carried op.Tuck is refl tucked machine (slot.Variable b) (slot.Variable b)
                (stays_below op.Tuck (its.places - 2) (in_slot b) tt refl tt);
          },
        )
      where
        by_tuck : (R : MustFact → Type 0) (x : Variable) → (Unit {0} × R (Saved (in_slot b) x)) ⊎ (⊥ ⊎ ⊥ ⊎ ⊥) → R (Saved (in_slot b) x)
        by_tuck R x (inl old) = old.1
        by_tuck R x (inr (inl new)) = absurd new
        by_tuck R x (inr (inr (inl new))) = absurd new
        by_tuck R x (inr (inr (inr new))) = absurd new

    pub bytes_tuck : AreBytesTracked whole known here machine ws → AreBytesTracked whole known (moved here (suc here.at) tucked lasting) machine ws
    bytes_tuck are = all_came op.Tuck is refl tucked machine each_tuck are
