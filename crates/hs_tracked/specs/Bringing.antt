-- A Bring: the value of a place goes to the top, and each value above it one place down (own).
--     bring         the rows `bring_top`, `bring_down`, `bring_stays`
--     bytes_bring   the same rows, for state bytes
use Rattle.std.proofs.Common.{◌≡◌, ◌<◌, ℕ, zero, suc, ◌-◌, Bool, true, List, [], ◌∷◌, length, Option, Some, None, refl, sym, ap, ◌∙◌, subst, arith, ◌≤◌, ◌⊎◌, inl, inr, nat_lt, ◌==◌, false}
use Rattle.std.proofs.lemmas.Bool.Decides.{nat_tests}
use Rattle.hs_calls.specs.Calls.{Here, Wait, moved}
use Rattle.hs_chains.specs.Knowledge.{Knowledge}
use Rattle.hs_code.specs.Stacks.{Scope}
use Rattle.hs_code.specs.declared.function_code.Placed.{Placed}
use Rattle.hs_code.specs.declared.op.Op.TheVariants as op
use Rattle.hs_code_run.specs.Steps.{picked, under}
use Rattle.hs_facts.specs.Effects.{WholeCode}
use Rattle.hs_facts.specs.MustFacts.{MustFact, Saved, Keeper, on_stack, in_slot}
use Rattle.hs_flow.specs.Among.{Among}
use Rattle.hs_flow.specs.Given.{Given}
use Rattle.hs_flow.specs.Laws.Coming as rows
use Rattle.hs_flow.specs.Laws.Staying.{is_below_of}
use Rattle.hs_flow.specs.Next.{at_slot, next_of}
use Rattle.hs_flow.specs.Programs.{scope_at}
use Rattle.hs_flow.specs.Slots.{is_below}
use Rattle.hs_flow.specs.declared.fact.FactStatus.TheVariants as status
use Rattle.hs_flow.specs.declared.fact.Slot as flow_slot
use Rattle.hs_flow.specs.declared.fact.Slot.TheVariants as slot
use Rattle.hs_meaning.specs.Machine.{Machine}
use Rattle.hs_meaning.specs.Values.{Value}
use Rattle.hs_tracked.specs.Bytes.{AreBytesTracked, IsAccounted, bytes_go}
use Rattle.hs_tracked.specs.Going.{IsAt, Leaves, leads, value_goes}
use Rattle.hs_tracked.specs.Moving.{same_machine}
use Rattle.hs_tracked.specs.Passing.{Passes, ClassesPass, PlacesPass, goes_on, pass_value, pass_places, pass_blocks, pass_objects, Brings}
use Rattle.hs_tracked.specs.Tracking.{TrackedPlaces, Tracked, AreTracked}
use Rattle.hs_tree.specs.declared.head.Variable.{Variable}
use Rattle.hs_true.specs.Picking.{Picks, picked_is, picks_above, picks_below, picks_length, picks_low, picks_value}
use Rattle.hs_truth.specs.Places.{the_top, under_top}

module _ (whole : WholeCode) (known : Knowledge) (here : Here) (machine : Machine) (ws : List Wait) (its : Placed) (is_at : IsAt whole known here its)
    (lasting : ℕ → Bool) (lasts : (n : ℕ) → here.lasting n ≡ true → lasting n ≡ true) (place : ℕ) (is : its.op ≡ op.Bring place) (stack : List Value) where
  -- what is known at the operation
  abbrev facts : Given
  facts = known.at here.fn here.at

  -- what the kinds of the operations depend on
  abbrev kinds : Scope
  kinds = scope_at whole here.fn

  -- the call after it
  abbrev pub next : Here
  next = moved here (suc here.at) stack lasting

  same : Leaves whole known here machine ws its is_at (op.Bring place) is (suc here.at) stack lasting refl machine
  same = same_machine whole known here machine ws its is_at lasting lasts (op.Bring place) is (suc here.at) stack refl

  -- what is below the place, and what is no place
  stays : (of : flow_slot.Slot) → is_below (facts.places - place) of ≡ true → (v : Value) → Passes whole known here next machine machine ws of of v
  stays of low v =
      value_goes whole known here machine ws its is_at (op.Bring place) is (suc here.at) stack lasting refl machine same of of
      (λ old. rows.bring_stays kinds (length whole.classes) facts place old of low) v

  classes : ClassesPass whole known here next machine machine ws
  classes class v = stays (slot.Class class) refl v

  -- the value of the place goes to the top
  to_top : (v : Value) → Tracked whole known here machine ws (slot.Place (facts.places - place)) v
      → Tracked whole known next machine ws (slot.Place (facts.places - 1)) v
  to_top v are =
      pass_value whole known here next machine machine ws classes (slot.Place (facts.places - place)) (slot.Place (facts.places - 1)) v
      (value_goes whole known here machine ws its is_at (op.Bring place) is (suc here.at) stack lasting refl machine same
      (slot.Place (facts.places - place)) (slot.Place (facts.places - 1)) (rows.bring_top kinds (length whole.classes) facts place) v) are

  -- a value above it goes one place down
  down : (at : ℕ) → facts.places - place < at → (v : Value) → Tracked whole known here machine ws (slot.Place at) v
      → Tracked whole known next machine ws (slot.Place (at - 1)) v
  down at above v are =
      pass_value whole known here next machine machine ws classes (slot.Place at) (slot.Place (at - 1)) v
      (value_goes whole known here machine ws its is_at (op.Bring place) is (suc here.at) stack lasting refl machine same (slot.Place at)
      (slot.Place (at - 1)) (λ old. rows.bring_down kinds (length whole.classes) facts place at old above) v) are

  low_pass : (rest : List Value) → ((i : ℕ) → i < length rest → is_below (facts.places - place) (slot.Place i) ≡ true)
      → PlacesPass whole known here next machine machine ws classes rest
  low_pass [] low = tt
  low_pass (v ∷ rest) low =
      (stays (slot.Place (length rest)) (low (length rest) (omega arith)) v, low_pass rest (λ i less. low i (omega (arith, less))))

  -- what is picked, and the others
  abbrev Picked : Option (Value × List Value) → Type 0
  Picked None = Unit {0}
  Picked (Some it) = Tracked whole known next machine ws (slot.Place (facts.places - 1)) it.0 × TrackedPlaces whole known next machine ws it.1

  -- it is one value less
  abbrev IsShorter : ℕ → Option (Value × List Value) → Type 0
  IsShorter many None = Unit {0}
  IsShorter many (Some it) = many ≡ suc (length it.1)

  shorter : (k : ℕ) (values : List Value) → IsShorter (length values) (picked k values)
  shorter k [] = tt
  shorter zero (v ∷ values) = refl
  shorter (suc k) (v ∷ values) = on (picked k values) (shorter k values)
    where
      on : (found : Option (Value × List Value)) → IsShorter (length values) found → IsShorter (suc (length values)) (under v found)
      on None so = tt
      on (Some it) so = ap suc so

  picked_tracked : (k : ℕ) (values : List Value) → length values - suc k ≡ facts.places - place → TrackedPlaces whole known here machine ws values
      → Picked (picked k values)
  picked_tracked k [] so are = tt
  picked_tracked zero (v ∷ values) so are = (
    to_top v (subst (λ i. Tracked whole known here machine ws (slot.Place i) v) (one_less (length values) ∙ so) are.0),
    pass_places whole known here next machine machine ws classes values
        (low_pass values (λ i less. is_below_of (facts.places - place) i (subst (λ n. i < n) (one_less (length values) ∙ so) less))) are.1,
  )
    where
      one_less : (a : ℕ) → a ≡ suc a - 1
      one_less a = omega arith
  picked_tracked (suc k) (v ∷ values) so are =
      on (picked k values) (shorter k values) (picked_tracked k values (more (length values) k ∙ so) are.1)
    where
      more : (a b : ℕ) → a - suc b ≡ suc a - suc (suc b)
      more a b = omega arith

      less : (a b c d : ℕ) → a ≡ suc b → suc a - suc (suc c) ≡ d → d < a
      less a b c d one two = omega (arith, one, two)

      lower : (a b : ℕ) → a ≡ suc b → a - 1 ≡ b
      lower a b one = omega (arith, one)

      on : (found : Option (Value × List Value)) → IsShorter (length values) found → Picked found → Picked (under v found)
      on None one its = tt
      on (Some it) one its = (
        its.0,
        (
          subst (λ i. Tracked whole known next machine ws (slot.Place i) v) (lower (length values) (length it.1) one)
              (down (length values) (less (length values) (length it.1) k (facts.places - place) one so) v are.0),
          its.1,
        ),
      )

  -- The value of the place on top, and the others in their order.
  pub bring : (k : ℕ) → place ≡ suc k → (v : Value) (others : List Value) → picked k here.stack ≡ Some (v, others) → stack ≡ v ∷ others
      → AreTracked whole known here machine ws → AreTracked whole known next machine ws
  bring k same_place v others found so are =
      record {
        reached = goes_on whole known here next machine machine ws slot.Nothing slot.Nothing status.Reached status.Reached
            (leads whole known here machine ws its is_at (op.Bring place) is (suc here.at) stack lasting refl machine slot.Nothing slot.Nothing status.Reached
            status.Reached (rows.bring_stays kinds (length whole.classes) facts place status.Reached slot.Nothing refl)) are.reached;
        places = subst (TrackedPlaces whole known next machine ws) (sym so) places;
        variables = λ x u holds.
            pass_value whole known here next machine machine ws classes (slot.Variable x) (slot.Variable x) u (stays (slot.Variable x) refl u)
            (are.variables x u holds);
        blocks = pass_blocks whole known here next machine machine ws classes machine.blocks are.blocks;
        objects = pass_objects whole known here next machine machine ws classes machine.objects are.objects;
      }
    where
      deep : length here.stack - suc k ≡ facts.places - place
      deep = ap (λ n. n - suc k) (sym is_at.deep) ∙ ap (λ n. facts.places - n) (sym same_place)

      lower : (a b c : ℕ) → a ≡ c → a ≡ suc b → c - 1 ≡ b
      lower a b c one two = omega (arith, one, two)

      top : facts.places - 1 ≡ length others
      top = lower (length here.stack) (length others) facts.places (sym is_at.deep) (subst (IsShorter (length here.stack)) found (shorter k here.stack))

      both : Picked (Some (v, others))
      both = subst Picked found (picked_tracked k here.stack deep are.places)

      places : TrackedPlaces whole known next machine ws (v ∷ others)
      places = (subst (λ i. Tracked whole known next machine ws (slot.Place i) v) top both.0, both.1)

  -- ---- state bytes

  module _ (deep : its.places ≡ length here.stack) (v : Value) (others : List Value) (picks : Picks (its.places - place) here.stack v others) where
    -- the place of the value
    abbrev low : ℕ
    low = its.places - place

    -- the call after it
    abbrev later : Here
    later = moved here (suc here.at) (v ∷ others) lasting

    low_is : low ≤ length others
    low_is = picks_low low here.stack v others picks

    many : its.places ≡ suc (length others)
    many = deep ∙ picks_length low here.stack v others picks

    places_are : facts.places ≡ its.places
    places_are = is_at.deep ∙ sym deep

    -- a byte that is accounted for
    abbrev Came : Keeper → Type 1
    Came = IsAccounted whole known here machine ws its is_at deep lasting (op.Bring place) is (suc here.at) (v ∷ others) refl machine

    -- the fact of the one slot gives that of the other
    abbrev RuleOf : flow_slot.Slot → flow_slot.Slot → Type 0
    RuleOf of to =
        Among (next_of kinds (length whole.classes) facts (op.Bring place) (at_slot status.SavedPurgeable of)) (at_slot status.SavedPurgeable to)

    carried : (of to : flow_slot.Slot) → RuleOf of to
        → Brings whole known here later machine machine ws of to status.SavedPurgeable status.SavedPurgeable
    carried of to rule =
        leads whole known here machine ws its is_at (op.Bring place) is (suc here.at) (v ∷ others) lasting refl machine of to status.SavedPurgeable
        status.SavedPurgeable rule

    -- what Bring says of a byte on the stack
    abbrev BringGives : (MustFact → Type 0) → Variable → ℕ → Type 0
    BringGives R x i =
        ((i < low) × R (Saved (on_stack i) x))
        ⊎ ((i ≡ its.places - 1) × R (Saved (on_stack low) x))
        ⊎ ((at : ℕ) × (low ≤ at) × (suc at < its.places) × ((i ≡ at) × R (Saved (on_stack (suc at)) x)))

    at_low : (R : MustFact → Type 0) (x : Variable) (i : ℕ) → i < low → BringGives R x i → R (Saved (on_stack i) x)
    at_low R x i less (inl old) = old.1
    at_low R x i less (inr (inl new)) = absurd (omega (less, new.0, many, low_is, arith))
    at_low R x i less (inr (inr new)) = absurd (omega (less, new.1, new.3.0, arith))

    at_moved : (R : MustFact → Type 0) (x : Variable) (i : ℕ) → low ≤ i → i < length others → BringGives R x i → R (Saved (on_stack (suc i)) x)
    at_moved R x i high less (inl old) = absurd (omega (high, old.0, arith))
    at_moved R x i high less (inr (inl new)) = absurd (omega (less, new.0, many, arith))
    at_moved R x i high less (inr (inr new)) = subst (λ n. R (Saved (on_stack (suc n)) x)) (sym new.3.0) new.3.1

    at_top : (R : MustFact → Type 0) (x : Variable) (i : ℕ) → i ≡ length others → BringGives R x i → R (Saved (on_stack low) x)
    at_top R x i top (inl old) = absurd (omega (top, old.0, low_is, arith))
    at_top R x i top (inr (inl new)) = new.1
    at_top R x i top (inr (inr new)) = absurd (omega (top, new.2, new.3.0, many, arith))

    at_none : (R : MustFact → Type 0) (x : Variable) (i : ℕ) → length others < i → BringGives R x i → ⊥
    at_none R x i high (inl old) = omega (high, old.0, low_is, arith)
    at_none R x i high (inr (inl new)) = omega (high, new.0, many, arith)
    at_none R x i high (inr (inr new)) = omega (high, new.2, new.3.0, many, arith)

    -- where a place is
    data InBring (i : ℕ) : Type 0 where
      is_low : i < low → InBring i
      is_moved : low ≤ i → i < length others → InBring i
      is_top : i ≡ length others → InBring i
      is_high : length others < i → InBring i

    in_bring : (i : ℕ) → InBring i
    in_bring i = by_low (nat_lt i low) refl
      where
        by_top : low ≤ i → (z : Bool) → nat_lt i (length others) ≡ z → (y : Bool) → (i == length others) ≡ y → InBring i
        by_top high true less y so = is_moved high (grind (less, nat_tests, arith))
        by_top high false less true so = is_top (grind (so, nat_tests, arith))
        by_top high false less false so = is_high (grind (less, so, nat_tests, arith))

        by_low : (z : Bool) → nat_lt i low ≡ z → InBring i
        by_low true so = is_low (grind (so, nat_tests, arith))
        by_low false so = by_top (grind (so, nat_tests, arith)) (nat_lt i (length others)) refl (i == length others) refl

    on_bring : (i : ℕ) → InBring i → Came (on_stack i)
    on_bring i (is_low less) =
        inl (
          on_stack i,
          record {
            gives = λ code R x given. at_low R x i less given;
            held = λ byte held.
                sym (under_top i v others (omega (less, low_is, arith)) ∙ picks_below low here.stack v others picks i less) ∙ held;
            brings = carried (slot.Place i) (slot.Place i)
                (rows.bring_stays kinds (length whole.classes) facts place status.SavedPurgeable (slot.Place i)
                (is_below_of (facts.places - place) i (subst (λ n. i < n - place) (sym places_are) less)));
          },
        )
    on_bring i (is_moved high less) =
        inl (
          on_stack (suc i),
          record {
            gives = λ code R x given. at_moved R x i high less given;
            held = λ byte held. sym (under_top i v others less ∙ picks_above low here.stack v others picks i high less) ∙ held;
            brings = carried (slot.Place (suc i)) (slot.Place i)
                (subst (λ n. RuleOf (slot.Place (suc i)) (slot.Place n)) (one_down i)
                (rows.bring_down kinds (length whole.classes) facts place (suc i) status.SavedPurgeable
                (subst (λ n. n - place < suc i) (sym places_are) (omega (high, arith)))));
          },
        )
      where
        one_down : (n : ℕ) → suc n - 1 ≡ n
        one_down n = omega arith
    on_bring i (is_top top) =
        inl (
          on_stack low,
          record {
            gives = λ code R x given. at_top R x i top given;
            held = λ byte held. picks_value low here.stack v others picks ∙ sym (the_top i v others top) ∙ held;
            brings = carried (slot.Place low) (slot.Place i)
                (subst (λ n. RuleOf (slot.Place low) (slot.Place n)) (last top)
                (subst (λ n. RuleOf (slot.Place (n - place)) (slot.Place (n - 1))) places_are
                (rows.bring_top kinds (length whole.classes) facts place status.SavedPurgeable)));
          },
        )
      where
        last : i ≡ length others → its.places - 1 ≡ i
        last top = omega (top, many, arith)
    on_bring i (is_high high) = inr (inl (λ code R x given. at_none R x i high given))

    each_bring : (b : Keeper) → Came b
    each_bring (on_stack i) = on_bring i (in_bring i)
    each_bring (in_slot b) =
        inl (
          in_slot b,
          record {
            gives = λ code R x given. by_bring R x given;
            held = λ byte held. held;
            brings = carried (slot.Variable b) (slot.Variable b)
                (rows.bring_stays kinds (length whole.classes) facts place status.SavedPurgeable (slot.Variable b) refl);
          },
        )
      where
        by_bring : (R : MustFact → Type 0) (x : Variable)
            → (Unit {0} × R (Saved (in_slot b) x)) ⊎ (⊥ ⊎ ((at : ℕ) × (low ≤ at) × (suc at < its.places) × ⊥)) → R (Saved (in_slot b) x)
        by_bring R x (inl old) = old.1
        by_bring R x (inr (inl new)) = absurd new
        by_bring R x (inr (inr new)) = absurd new.3

    bytes_brought : AreBytesTracked whole known here machine ws → AreBytesTracked whole known later machine ws
    bytes_brought are =
        bytes_go whole known here machine ws its is_at deep lasting (op.Bring place) is (suc here.at) (v ∷ others) refl machine each_bring are

  -- State bytes go with their places.
  pub bytes_bring : its.places ≡ length here.stack → (k : ℕ) → place ≡ suc k → (v : Value) (others : List Value) → picked k here.stack ≡ Some (v, others)
      → stack ≡ v ∷ others → AreBytesTracked whole known here machine ws → AreBytesTracked whole known next machine ws
  bytes_bring deep k same_place v others found so are =
      subst (λ st. AreBytesTracked whole known (moved here (suc here.at) st lasting) machine ws) (sym so)
      (bytes_brought deep v others
      (subst (λ n. Picks n here.stack v others) (ap (λ n. length here.stack - n) (sym same_place) ∙ ap (λ n. n - place) (sym deep))
      (picked_is k here.stack (v, others) found)) are)
