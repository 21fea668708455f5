-- A Shift, where blocks may move and be purged (own).
--     shift       the rows `stays`; `shift_fresh`, `shift_outer`, `shift_loose`; `shift_purges`
-- Whether a block was moved is never asked: what could move is stale by some chain, and what could not is as it was.
use Rattle.std.proofs.Common.{◌≡◌, ◌⊎◌, inl, inr, ℕ, zero, suc, ◌-◌, nat_lt, Bool, true, false, List, [], ◌∷◌, length, slice_get, Some, refl, sym, ◌∙◌, subst, arith, true≢false}
use Rattle.std.proofs.lemmas.Bool.Decides.{nat_tests}
use Rattle.std.proofs.lemmas.Option.{none-some}
use Rattle.std.specs.List.{AllByRecursion}
use Rattle.hs_calls.specs.Calls.{Here, Wait, moved, fixed_in}
use Rattle.hs_chains.specs.Knowledge.{Knowledge}
use Rattle.hs_code.specs.declared.function_code.Placed.{Placed}
use Rattle.hs_code.specs.declared.op.Op.TheVariants as op
use Rattle.hs_code.specs.Stacks.{Scope}
use Rattle.hs_facts.specs.Effects.{WholeCode}
use Rattle.hs_flow.specs.Given.{Given, is_name_locked}
use Rattle.hs_flow.specs.Laws.Coming as rows
use Rattle.hs_flow.specs.Next.{purges_in}
use Rattle.hs_flow.specs.Programs.{scope_at}
use Rattle.hs_flow.specs.Slots.{is_below}
use Rattle.hs_flow.specs.declared.fact.FactStatus.{FactStatus}
use Rattle.hs_flow.specs.declared.fact.FactStatus.TheVariants as status
use Rattle.hs_flow.specs.declared.fact.Slot as flow_slot
use Rattle.hs_flow.specs.declared.fact.Slot.TheVariants as slot
use Rattle.hs_heap.specs.Blocks.{Block}
use Rattle.hs_heap.specs.Memory.{block_at}
use Rattle.hs_heap.specs.declared.cell.Pointer.TheVariants.{Handle}
use Rattle.hs_hiding.specs.Holding.{value_of}
use Rattle.hs_meaning.specs.Machine.{Machine}
use Rattle.hs_meaning.specs.Values.{Value, pointer}
use Rattle.hs_must.specs.Answers.{names_in}
use Rattle.hs_sound_heap.specs.Shifts.{shifting}
use Rattle.hs_sound_heap.specs.Since.{Since, IsThere, is_marked, is_purged}
use Rattle.hs_tracked.specs.Going.{IsAt, leads, stays_at}
use Rattle.hs_tracked.specs.Passing.{Brings, Passes, PointersPass, HandlePasses, HandleStays, StaysCurrent, ClassesPass, PlacesPass, goes_on, pass_value, pass_places, pass_blocks, pass_objects}
use Rattle.hs_tracked.specs.Right.{AreRight, IsIn, named_fixed, locked_fixed, fixed_block}
use Rattle.hs_tracked.specs.Tracking.{NameHolds, MeansHere, TrackedCells, AreTracked}
use Rattle.hs_tree.specs.declared.head.Variable.{Variable}
use Rattle.hs_truth.specs.Places.{at_place, place_low, the_top, under_top}

module _ (whole : WholeCode) (known : Knowledge) (here : Here) (machine after : Machine) (ws : List Wait) (its : Placed) (is_at : IsAt whole known here its)
    (right : AreRight whole known here machine) (lasting : ℕ → Bool) (lasts : (n : ℕ) → here.lasting n ≡ true → lasting n ≡ true) (number : ℕ)
    (is : its.op ≡ op.Shift number)
    (since : Since (shifting (purges_in (slice_get (scope_at whole here.fn).routines number))) machine.blocks after.blocks)
    (values : (x : Variable) → value_of after x ≡ value_of machine x) where
  -- what is known at the operation
  abbrev facts : Given
  facts = known.at here.fn here.at

  -- what the kinds of the operations depend on
  abbrev kinds : Scope
  kinds = scope_at whole here.fn

  -- the routine may purge
  abbrev purges : Bool
  purges = purges_in (slice_get kinds.routines number)

  -- the call after it
  abbrev pub next : Here
  next = moved here (suc here.at) here.stack lasting

  there_after : (n : ℕ) (block : Block) → block_at machine.blocks n ≡ Some block → IsThere (shifting purges) block (block_at after.blocks n)
  there_after zero block there = absurd (none-some block there)
  there_after (suc i) block there = since i block there

  means_still : (status : FactStatus) (n : ℕ) → MeansHere whole status here machine n → MeansHere whole status next after n
  means_still (status.Fresh h) n means = (means.0, means.1, values means.0 ∙ means.2)
  means_still status.Held n means = lasts n means
  means_still status.Outer n means = tt
  means_still status.Loose n means = tt
  means_still other n means = absurd means

  -- what is among the facts after the operation carries each chain on
  stays : (of : flow_slot.Slot) → is_below (facts.places - 0) of ≡ true → (status : FactStatus)
      → Brings whole known here next machine after ws of of status status
  stays of low status =
      stays_at whole known here machine ws its is_at (op.Shift number) is (suc here.at) here.stack lasting refl after tt of low status

  module _ (of : flow_slot.Slot) (low : is_below (facts.places - 0) of ≡ true) where
    -- ---- pointers

    -- the block cannot move
    fixed_stays : (status : FactStatus) (n : ℕ) (block : Block) → block_at machine.blocks n ≡ Some block → MeansHere whole status here machine n
        → fixed_in machine n ≡ true → StaysCurrent whole known here next machine after ws of of status n block
    fixed_stays status n block there means fixed = by_there (there_after n block there)
      where
        by_there : IsThere (shifting purges) block (block_at after.blocks n) → StaysCurrent whole known here next machine after ws of of status n block
        by_there new =
            let kept = new.since.fixed refl (fixed_block machine n block there fixed) in
            record {
              block = new.block;
              there = new.there;
              epoch = kept.1;
              alive = kept.2;
              status = status;
              brings = stays of low status;
              means = means_still status n means;
              backed = λ calls backed. backed;
            }

    by_lock : (h n : ℕ) (block : Block) → block_at machine.blocks n ≡ Some block → NameHolds (names_in whole here.fn) machine h n → (z : Bool)
        → facts.locked h ≡ z
        → Brings whole known here next machine after ws of of (status.Fresh h) status.Stale
        ⊎ StaysCurrent whole known here next machine after ws of of (status.Fresh h) n block
    by_lock h n block there holds true locked =
        inr (fixed_stays (status.Fresh h) n block there holds (named_fixed whole known here machine right h n locked holds))
    by_lock h n block there holds false locked =
        inl (leads whole known here machine ws its is_at (op.Shift number) is (suc here.at) here.stack lasting refl after of of (status.Fresh h) status.Stale
        (rows.shift_fresh kinds (length whole.classes) facts number h of locked))

    by_status : (old : FactStatus) (n : ℕ) (block : Block) → block_at machine.blocks n ≡ Some block → MeansHere whole old here machine n
        → Brings whole known here next machine after ws of of old status.Stale
        ⊎ StaysCurrent whole known here next machine after ws of of old n block
    by_status (status.Fresh h) n block there means = by_lock h n block there means (facts.locked h) refl
    by_status status.Held n block there means = inr (fixed_stays status.Held n block there means (right.lasts n means))
    by_status status.Outer n block there means =
        inl (leads whole known here machine ws its is_at (op.Shift number) is (suc here.at) here.stack lasting refl after of of status.Outer status.Stale
        (rows.shift_outer kinds (length whole.classes) facts number of))
    by_status status.Loose n block there means =
        inl (leads whole known here machine ws its is_at (op.Shift number) is (suc here.at) here.stack lasting refl after of of status.Loose status.Stale
        (rows.shift_loose kinds (length whole.classes) facts number of))
    by_status other n block there means = absurd means

    pointers : PointersPass whole known here next machine after ws of of
    pointers = record { stale = stays of low status.Stale; current = by_status }

    -- ---- handles

    module _ (v : Value) (has : IsIn here machine of v) (n : ℕ) (handle : v ≡ pointer (Handle n)) where
      -- it is purged now: it was, or it was marked, and then no name of the slot is locked
      gone_by : (block : Block) → block_at machine.blocks n ≡ Some block → (new : IsThere (shifting purges) block (block_at after.blocks n))
          → is_purged new.block.presence ≡ true
          → (is_purged block.presence ≡ true) ⊎ ((purges ≡ true) × ((is_marked block ≡ true) ⊎ (false ≡ true)))
          → Brings whole known here next machine after ws of of status.IsHandle status.Hollow
          ⊎ ((is_marked block ≡ true) × Brings whole known here next machine after ws of of status.Purgeable status.Hollow)
          ⊎ ((is_purged block.presence ≡ true) × Brings whole known here next machine after ws of of status.Hollow status.Hollow)
      gone_by block there new gone (inl old) = inr (inr (old, stays of low status.Hollow))
      gone_by block there new gone (inr (may_purge, inr never)) = absurd (true≢false (sym never))
      gone_by block there new gone (inr (may_purge, inl marked)) = by_name (is_name_locked facts of) refl
        where
          by_name : (z : Bool) → is_name_locked facts of ≡ z
              → Brings whole known here next machine after ws of of status.IsHandle status.Hollow
              ⊎ ((is_marked block ≡ true) × Brings whole known here next machine after ws of of status.Purgeable status.Hollow)
              ⊎ ((is_purged block.presence ≡ true) × Brings whole known here next machine after ws of of status.Hollow status.Hollow)
          by_name true locked =
              inr (inr (
                (new.since.fixed refl (fixed_block machine n block there
                    (locked_fixed whole known here machine right is_at.names v n handle of has locked))).2 gone,
                stays of low status.Hollow,
              ))
          by_name false locked =
              inr (inl (
                marked,
                leads whole known here machine ws its is_at (op.Shift number) is (suc here.at) here.stack lasting refl after of of status.Purgeable
                    status.Hollow (rows.shift_purges kinds (length whole.classes) facts number of may_purge locked),
              ))

      handle_passes : HandlePasses whole known here next machine after ws of of n
      handle_passes =
          record { is = stays of low status.IsHandle; stays = λ block there. by_there block there (there_after n block there) }
        where
          by_there : (block : Block) → block_at machine.blocks n ≡ Some block → IsThere (shifting purges) block (block_at after.blocks n)
              → HandleStays whole known here next machine after ws of of n block
          by_there block there new =
              record {
                block = new.block;
                there = new.there;
                marked = λ so. inr (inl (new.since.purgeable refl so, stays of low status.Purgeable));
                gone = λ so. gone_by block there new so (new.since.purged so);
              }

    passes : (v : Value) → IsIn here machine of v → Passes whole known here next machine after ws of of v
    passes v has = record { pointers = pointers; handle = handle_passes v has }

  classes : ClassesPass whole known here next machine after ws
  classes class v = passes (slot.Class class) refl v tt

  -- each place has its value
  places_pass : (stack : List Value) → ((i : ℕ) (v : Value) → at_place i stack ≡ Some v → at_place i here.stack ≡ Some v)
      → ((i : ℕ) → nat_lt i (length stack) ≡ true → is_below (facts.places - 0) (slot.Place i) ≡ true)
      → PlacesPass whole known here next machine after ws classes stack
  places_pass [] same low = tt
  places_pass (v ∷ rest) same low = (
    passes (slot.Place (length rest)) (low (length rest) (under (length rest))) v (same (length rest) v (the_top (length rest) v rest refl)),
    places_pass rest (λ i u has. same i u (under_top i v rest (place_low i rest u has) ∙ has))
        (λ i is. low i (later i (length rest) is)),
  )
    where
      under : (a : ℕ) → nat_lt a (suc a) ≡ true
      under a = grind (arith, nat_tests)

      later : (i a : ℕ) → nat_lt i a ≡ true → nat_lt i (suc a) ≡ true
      later i a is = grind (is, arith, nat_tests)

  places_low : (i : ℕ) → nat_lt i (length here.stack) ≡ true → is_below (facts.places - 0) (slot.Place i) ≡ true
  places_low i is = subst (λ n. nat_lt i n ≡ true) (sym is_at.deep ∙ no_less facts.places) is
    where
      no_less : (n : ℕ) → n ≡ n - 0
      no_less n = omega arith

  -- what was tracked is, if no cell is another one
  pub shift : (AllByRecursion (λ block. TrackedCells whole known next after ws block.cells) machine.blocks
      → AllByRecursion (λ block. TrackedCells whole known next after ws block.cells) after.blocks)
      → after.objects ≡ machine.objects → AreTracked whole known here machine ws → AreTracked whole known next after ws
  shift cells objects are =
      record {
        reached = goes_on whole known here next machine after ws slot.Nothing slot.Nothing status.Reached status.Reached
            (stays slot.Nothing refl status.Reached) are.reached;
        places = pass_places whole known here next machine after ws classes here.stack (places_pass here.stack (λ i v has. has) places_low) are.places;
        variables = λ x v holds.
            pass_value whole known here next machine after ws classes (slot.Variable x) (slot.Variable x) v
            (passes (slot.Variable x) refl v (sym (values x) ∙ holds)) (are.variables x v (sym (values x) ∙ holds));
        blocks = cells (pass_blocks whole known here next machine after ws classes machine.blocks are.blocks);
        objects = subst (AllByRecursion (λ object. TrackedCells whole known next after ws object.cells)) (sym objects)
            (pass_objects whole known here next machine after ws classes machine.objects are.objects);
      }
