-- A Set of a variable: what its old value had ends, the top goes to it, and pointers that were fresh from it are loose (own).
--     set       the rows `set_stays` and `set_also`
use Rattle.std.proofs.Common.{◌≡◌, ◌<◌, ℕ, suc, ◌-◌, Bool, true, false, List, [], ◌∷◌, length, slice_get, Some, refl, sym, ap, ◌∙◌, subst, arith, if◌then◌else◌}
use Rattle.std.proofs.lemmas.Option.{same_Some}
use Rattle.std.specs.List.{AllByRecursion}
use Rattle.hs_calls.specs.Calls.{Here, Wait, moved}
use Rattle.hs_chains.specs.Chains.{Spot as Mark}
use Rattle.hs_chains.specs.Knowledge.{Knowledge}
use Rattle.hs_code.specs.declared.function_code.Placed.{Placed}
use Rattle.hs_code.specs.declared.op.Op.TheVariants as op
use Rattle.hs_facts.specs.Effects.{WholeCode}
use Rattle.hs_facts.specs.Names.{same_variable}
use Rattle.hs_flow.specs.Given.{Given}
use Rattle.hs_flow.specs.Laws.Coming as rows
use Rattle.hs_flow.specs.Laws.Staying.{is_below_of}
use Rattle.hs_flow.specs.Next.{is_name_of, renamed}
use Rattle.hs_flow.specs.Programs.{scope_at}
use Rattle.hs_flow.specs.Slots.{is_below, is_variable}
use Rattle.hs_flow.specs.declared.fact.FactStatus.{FactStatus}
use Rattle.hs_flow.specs.declared.fact.FactStatus.TheVariants as status
use Rattle.hs_flow.specs.declared.fact.Slot as flow_slot
use Rattle.hs_flow.specs.declared.fact.Slot.TheVariants as slot
use Rattle.hs_heap.specs.Blocks.{Block}
use Rattle.hs_heap.specs.Memory.{block_at}
use Rattle.hs_hiding.specs.Holding.{value_of}
use Rattle.hs_meaning.specs.Machine.{Machine, with_value}
use Rattle.hs_meaning.specs.Values.{Value}
use Rattle.hs_must.specs.Answers.{names_in}
use Rattle.hs_tracked.specs.Going.{IsAt, leads}
use Rattle.hs_tracked.specs.Passing.{Brings, Passes, ClassesPass, PlacesPass, Undisturbed, IsQuiet, goes_on, pass_value, pass_places, pass_blocks, pass_objects, quiet_passes, fresh_backed, loose_backed}
use Rattle.hs_tracked.specs.Tracking.{NameHolds, MeansHere, Backed, TrackedCells, TrackedPlaces, Tracked, AreTracked}
use Rattle.hs_tree.specs.declared.head.Variable.{Variable}
use Rattle.hs_tree.specs.declared.head.Variable.TheVariants as name
use Rattle.hs_true.specs.Setting.{one_name, other_value, blocks_stay, IsSlot, now_value}

module _ (whole : WholeCode) (known : Knowledge) (here : Here) (machine : Machine) (ws : List Wait) (its : Placed) (is_at : IsAt whole known here its)
    (lasting : ℕ → Bool) (lasts : (n : ℕ) → here.lasting n ≡ true → lasting n ≡ true) (x : Variable) (is : its.op ≡ op.Set x) (v : Value)
    (rest : List Value) (so : here.stack ≡ v ∷ rest) where
  -- what is known at the operation
  abbrev facts : Given
  facts = known.at here.fn here.at

  -- the machine after it
  abbrev pub after : Machine
  after = with_value x v machine

  -- the call after it
  abbrev pub next : Here
  next = moved here (suc here.at) (v ∷ rest) lasting

  -- what a pointer is then
  abbrev stay : FactStatus → FactStatus
  stay = renamed facts x

  -- ---- what statuses mean and owe

  means_by : (h n : ℕ) (z : Bool) → is_name_of (slice_get facts.names h) x ≡ z → NameHolds (names_in whole here.fn) machine h n
      → MeansHere whole (if z then status.Loose else status.Fresh h) next after n
  means_by h n true named means = tt
  means_by h n false named means = (means.0, means.1, other_value x means.0 v machine other ∙ means.2)
    where
      other : same_variable means.0 x ≡ false
      other = sym (ap (λ it. is_name_of it x) (ap (λ names. slice_get names h) is_at.names ∙ means.1)) ∙ named

  means_set : (status : FactStatus) (n : ℕ) → MeansHere whole status here machine n → MeansHere whole (stay status) next after n
  means_set (status.Fresh h) n means = means_by h n (is_name_of (slice_get facts.names h) x) refl means
  means_set status.Held n means = lasts n means
  means_set status.Outer n means = tt
  means_set status.Loose n means = tt
  means_set other n means = absurd means

  owes_nothing : (h : ℕ) (z : Bool) (calls : List Mark) (n : ℕ) → Backed whole (if z then status.Loose else status.Fresh h) calls ws n
  owes_nothing h true calls n = loose_backed whole calls ws n
  owes_nothing h false calls n = fresh_backed whole h calls ws n

  backed_set : (status : FactStatus) (n : ℕ) (calls : List Mark) → Backed whole status calls ws n → Backed whole (stay status) calls ws n
  backed_set (status.Fresh h) n calls backed = owes_nothing h (is_name_of (slice_get facts.names h) x) calls n
  backed_set other n calls backed = backed

  same_block : (n : ℕ) (block : Block) → block_at machine.blocks n ≡ Some block
      → Undisturbed whole known here next machine after ws block (block_at after.blocks n)
  same_block n block there =
      record {
        block = block;
        there = ap (λ blocks. block_at blocks n) (blocks_stay x v machine) ∙ there;
        epoch = refl;
        marked = λ so. so;
        gone = λ so. so;
      }

  quiet : IsQuiet whole known here next machine after ws stay
  quiet =
      record {
        blocks = same_block;
        plain = (refl, refl, refl, refl);
        means = λ status n block there means. means_set status n means;
        backed = backed_set;
      }

  -- ---- slots

  -- another slot
  stays : (of : flow_slot.Slot) → is_variable x of ≡ false → is_below facts.places of ≡ true → (status : FactStatus)
      → Brings whole known here next machine after ws of of status (stay status)
  stays of other low status =
      leads whole known here machine ws its is_at (op.Set x) is (suc here.at) (v ∷ rest) lasting refl after of of status (stay status)
      (rows.set_stays (scope_at whole here.fn) (length whole.classes) facts x status of other low)

  slot_passes : (of : flow_slot.Slot) → is_variable x of ≡ false → is_below facts.places of ≡ true → (u : Value)
      → Passes whole known here next machine after ws of of u
  slot_passes of other low u = quiet_passes whole known here next machine after ws stay quiet of of (stays of other low) u

  classes : ClassesPass whole known here next machine after ws
  classes class u = slot_passes (slot.Class class) refl refl u

  -- the top, which is the variable's too
  top_passes : Passes whole known here next machine after ws (slot.Place (facts.places - 1)) (slot.Variable x) v
  top_passes =
      quiet_passes whole known here next machine after ws stay quiet (slot.Place (facts.places - 1)) (slot.Variable x)
      (λ status. leads whole known here machine ws its is_at (op.Set x) is (suc here.at) (v ∷ rest) lasting refl after (slot.Place (facts.places - 1))
      (slot.Variable x) status (stay status) (rows.set_also (scope_at whole here.fn) (length whole.classes) facts x status)) v

  places_pass : (stack : List Value) → ((i : ℕ) → i < length stack → is_below facts.places (slot.Place i) ≡ true)
      → PlacesPass whole known here next machine after ws classes stack
  places_pass [] low = tt
  places_pass (u ∷ stack) low =
      (slot_passes (slot.Place (length stack)) refl (low (length stack) (omega arith)) u, places_pass stack (λ i under. low i (omega (arith, under))))

  many : facts.places ≡ suc (length rest)
  many = is_at.deep ∙ ap length so

  top : facts.places - 1 ≡ length rest
  top = omega (arith, many)

  same_objects : (x : Variable) → (with_value x v machine).objects ≡ machine.objects
  same_objects (name.Global at) = refl
  same_objects (name.Local at) = refl

  -- ---- the law

  pub set : IsSlot machine x → AreTracked whole known here machine ws → AreTracked whole known next after ws
  set a_slot are =
      record {
        reached = goes_on whole known here next machine after ws slot.Nothing slot.Nothing status.Reached status.Reached
            (stays slot.Nothing refl refl status.Reached) are.reached;
        places = pass_places whole known here next machine after ws classes (v ∷ rest)
            (places_pass (v ∷ rest) (λ i low. is_below_of facts.places i (subst (λ n. i < n) (sym many) low))) tops;
        variables = λ y w holds. by_name y w (same_variable y x) refl holds;
        blocks = subst (AllByRecursion (λ block. TrackedCells whole known next after ws block.cells)) (sym (blocks_stay x v machine))
            (pass_blocks whole known here next machine after ws classes machine.blocks are.blocks);
        objects = subst (AllByRecursion (λ object. TrackedCells whole known next after ws object.cells)) (sym (same_objects x))
            (pass_objects whole known here next machine after ws classes machine.objects are.objects);
      }
    where
      tops : TrackedPlaces whole known here machine ws (v ∷ rest)
      tops = subst (TrackedPlaces whole known here machine ws) so are.places

      of_top : Tracked whole known next after ws (slot.Variable x) v
      of_top =
          pass_value whole known here next machine after ws classes (slot.Place (facts.places - 1)) (slot.Variable x) v top_passes
          (subst (λ i. Tracked whole known here machine ws (slot.Place i) v) (sym top) tops.0)

      by_name : (y : Variable) (w : Value) (z : Bool) → same_variable y x ≡ z → value_of after y ≡ Some w
          → Tracked whole known next after ws (slot.Variable y) w
      by_name y w true same holds =
          subst (λ u. Tracked whole known next after ws (slot.Variable u) w) (sym (one_name y x same))
          (subst (Tracked whole known next after ws (slot.Variable x)) value of_top)
        where
          value : v ≡ w
          value = same_Some v w (sym (now_value x v machine a_slot) ∙ ap (value_of after) (sym (one_name y x same)) ∙ holds)
      by_name y w false same holds =
          pass_value whole known here next machine after ws classes (slot.Variable y) (slot.Variable y) w (slot_passes (slot.Variable y) same refl w)
          (are.variables y w (sym (other_value x y v machine same) ∙ holds))
