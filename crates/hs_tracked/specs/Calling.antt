-- A routine that is no restore, where its role acts: what it may do with the blocks of handles and pointers that are no arguments (own).
--     Acts               what the role leaves of blocks and variables
--     routine_value      the rows `routine_stays`; `routine_holds`, `routine_unlocks`; `routine_marks`, `routine_purgeable`
--     made_value         a handle that is made: the row `routine_makes`
--     routine            all that a call has
--     acts_since         roles that mark and unmark nothing act so
--     acts_one, acts_nil and so do those that act on the block of their argument, or on NIL
use Rattle.std.proofs.Common.{ap, ◌≡◌, ◌⊎◌, inl, inr, ℕ, suc, ◌-◌, Bool, true, false, ◌&&◌, List, length, Option, Some, refl, sym, ◌∙◌, subst, true≢false, ◌<◌, zero, [], ◌∷◌, ◌==◌, arith}
use Rattle.std.proofs.lemmas.Bool.{and_parts}
use Rattle.std.proofs.lemmas.Bool.Decides.{nat_tests}
use Rattle.std.proofs.lemmas.Option.{none-some, same_Some}
use Rattle.hs_calls.specs.Calls.{Here, Wait, moved}
use Rattle.hs_chains.specs.Chains.{Spot as Mark}
use Rattle.hs_chains.specs.Knowledge.{Knowledge}
use Rattle.hs_code.specs.declared.function_code.Placed.{Placed}
use Rattle.hs_code.specs.declared.op.Op.TheVariants as op
use Rattle.hs_code.specs.Stacks.{Scope}
use Rattle.hs_facts.specs.Effects.{WholeCode}
use Rattle.hs_facts.specs.Names.{taken, role_at, makes_handle}
use Rattle.hs_flow.specs.Given.{Given, apart, share_name}
use Rattle.hs_flow.specs.Among.{Among}
use Rattle.hs_flow.specs.Laws.Coming as rows
use Rattle.hs_flow.specs.Laws.Staying.{is_below_of}
use Rattle.hs_flow.specs.Next.{at_slot, next_of, unlocks_by, marks_by, unmarks_by}
use Rattle.hs_flow.specs.Programs.{scope_at}
use Rattle.hs_flow.specs.Slots.{is_below}
use Rattle.hs_flow.specs.declared.fact.FactStatus.{FactStatus}
use Rattle.hs_flow.specs.declared.fact.FactStatus.TheVariants as status
use Rattle.hs_flow.specs.declared.fact.Slot as flow_slot
use Rattle.hs_flow.specs.declared.fact.Slot.TheVariants as slot
use Rattle.hs_heap.specs.Blocks.{Block}
use Rattle.hs_heap.specs.Memory.{block_at}
use Rattle.hs_heap.specs.declared.cell.Pointer.TheVariants.{Nil, Handle}
use Rattle.hs_hiding.specs.Holding.{value_of}
use Rattle.hs_meaning.specs.Machine.{Machine}
use Rattle.hs_meaning.specs.Values.{Value, pointer}
use Rattle.hs_role_truth.specs.Handled.{OneBlock}
use Rattle.hs_sound_heap.specs.Since.{BlockSince, May, Since, IsThere, is_marked, is_purged}
use Rattle.hs_table.specs.declared.role.Role.{Role}
use Rattle.hs_tracked.specs.Going.{IsAt, leads}
use Rattle.hs_tracked.specs.Making.{HasAll}
use Rattle.hs_tracked.specs.Over.{outer_backed}
use Rattle.hs_tracked.specs.Passing.{Brings, Passes, PointersPass, HandlePasses, HandleStays, StaysCurrent, ClassesPass, PlacesPass, goes_on, pass_value, pass_places, pass_blocks, pass_objects}
use Rattle.hs_tracked.specs.Right.{AreRight, IsIn, shared_there, apart_blocks}
use Rattle.hs_tracked.specs.Tracking.{MeansHere, Backed, HasChain, TrackedHandle, TrackedCell, Tracked, TrackedPlaces, AreTracked}
use Rattle.hs_tree.specs.declared.head.Variable.{Variable}
use Rattle.hs_truth.specs.Places.{at_place, place_low, the_top, under_top}

module _ (whole : WholeCode) (known : Knowledge) (here : Here) (machine after : Machine) (ws : List Wait) (its : Placed) (is_at : IsAt whole known here its)
    (right : AreRight whole known here machine) (lasting : ℕ → Bool) (stack : List Value) (number : ℕ) (is : its.op ≡ op.Routine number) where
  -- what is known at the operation
  abbrev facts : Given
  facts = known.at here.fn here.at

  -- what the kinds of the operations depend on
  abbrev kinds : Scope
  kinds = scope_at whole here.fn

  -- the place of the first argument, where the result is afterwards
  abbrev pub base : ℕ
  base = facts.places - taken kinds (op.Routine number)

  -- the role of the routine
  abbrev its_role : Option Role
  its_role = role_at kinds number

  -- the call after it
  abbrev pub next : Here
  next = moved here (suc here.at) stack lasting

  -- A block stays where it is, and is purged only if it was. It is marked only if it was, or if the role marks and the block is that of the argument; and
  -- not if the role unmarks and it is that one.
  pub record ActsAt (n : ℕ) (old : Block) : Type 0 where
    pub block : Block
    pub there : block_at after.blocks n ≡ Some block
    pub epoch : block.epoch ≡ old.epoch
    pub gone : is_purged block.presence ≡ true → is_purged old.presence ≡ true
    pub marked : is_marked block ≡ true
        → (is_marked old ≡ true) ⊎ ((marks_by facts.restores its_role ≡ true) × (at_place base here.stack ≡ Some (pointer (Handle n))))
    pub unmarked : is_marked block ≡ true → unmarks_by its_role ≡ true → at_place base here.stack ≡ Some (pointer (Handle n)) → ⊥

  -- All blocks do so, variables have their values, and what lasted still does, if the role does not unlock.
  pub record Acts : Type 0 where
    pub blocks : (n : ℕ) (block : Block) → block_at machine.blocks n ≡ Some block → ActsAt n block
    pub values : (x : Variable) → value_of after x ≡ value_of machine x
    pub lasts : unlocks_by facts.restores its_role ≡ false → (n : ℕ) → here.lasting n ≡ true → lasting n ≡ true

  -- Of that, what pointers ask.
  pub record StaysAt (n : ℕ) (old : Block) : Type 0 where
    pub block : Block
    pub there : block_at after.blocks n ≡ Some block
    pub epoch : block.epoch ≡ old.epoch
    pub gone : is_purged block.presence ≡ true → is_purged old.presence ≡ true

  -- of all blocks, and of variables and what lasted
  pub record Stays : Type 0 where
    pub blocks : (n : ℕ) (block : Block) → block_at machine.blocks n ≡ Some block → StaysAt n block
    pub values : (x : Variable) → value_of after x ≡ value_of machine x
    pub lasts : unlocks_by facts.restores its_role ≡ false → (n : ℕ) → here.lasting n ≡ true → lasting n ≡ true

  acting_stays : Acts → Stays
  acting_stays acts = record { blocks = λ n block there. on n block (acts.blocks n block there); values = acts.values; lasts = acts.lasts }
    where
      on : (n : ℕ) (block : Block) → ActsAt n block → StaysAt n block
      on n block its = record { block = its.block; there = its.there; epoch = its.epoch; gone = its.gone }

  module _ (of : flow_slot.Slot) (low : is_below base of ≡ true) where
    -- a fact of the slot carries each chain on
    pub brings : (old new : FactStatus)
        → Among (next_of kinds (length whole.classes) facts (op.Routine number) (at_slot old of)) (at_slot new of)
        → Brings whole known here next machine after ws of of old new
    brings old new has =
        leads whole known here machine ws its is_at (op.Routine number) is (suc here.at) stack lasting refl after of of old new has

    pub stays : (old : FactStatus) → rows.Lasts kinds (length whole.classes) facts old → Brings whole known here next machine after ws of of old old
    stays old lasts = brings old old (rows.routine_stays kinds (length whole.classes) facts number old of lasts low)

  -- ---- pointers

  module _ (kept : Stays) (of : flow_slot.Slot) (low : is_below base of ≡ true) where
    current_by : (old new : FactStatus) (n : ℕ) (block : Block) → block_at machine.blocks n ≡ Some block
        → Brings whole known here next machine after ws of of old new → MeansHere whole new next after n
        → ((inside : List Mark) → Backed whole old inside ws n → Backed whole new inside ws n)
        → StaysCurrent whole known here next machine after ws of of old n block
    current_by old new n block there goes means backed = on (kept.blocks n block there)
      where
        on : StaysAt n block → StaysCurrent whole known here next machine after ws of of old n block
        on its =
            record {
              block = its.block;
              there = its.there;
              epoch = its.epoch;
              alive = its.gone;
              status = new;
              brings = goes;
              means = means;
              backed = backed;
            }

    by_held : (n : ℕ) (block : Block) → block_at machine.blocks n ≡ Some block → here.lasting n ≡ true → (z : Bool)
        → unlocks_by facts.restores its_role ≡ z → StaysCurrent whole known here next machine after ws of of status.Held n block
    by_held n block there lasted true unlocks =
        current_by status.Held status.Outer n block there
        (brings of low status.Held status.Outer (rows.routine_unlocks kinds (length whole.classes) facts number of unlocks low)) tt
        (λ inside backed. outer_backed whole inside ws n backed)
    by_held n block there lasted false unlocks =
        current_by status.Held status.Held n block there
        (brings of low status.Held status.Held (rows.routine_holds kinds (length whole.classes) facts number of unlocks low)) (kept.lasts unlocks n lasted)
        (λ inside backed. backed)

    by_status : (old : FactStatus) (n : ℕ) (block : Block) → block_at machine.blocks n ≡ Some block → MeansHere whole old here machine n
        → StaysCurrent whole known here next machine after ws of of old n block
    by_status (status.Fresh h) n block there means =
        current_by (status.Fresh h) (status.Fresh h) n block there (stays of low (status.Fresh h) tt) (means.0, means.1, kept.values means.0 ∙ means.2)
        (λ inside backed. backed)
    by_status status.Held n block there means = by_held n block there means (unlocks_by facts.restores its_role) refl
    by_status status.Outer n block there means =
        current_by status.Outer status.Outer n block there (stays of low status.Outer tt) tt (λ inside backed. backed)
    by_status status.Loose n block there means =
        current_by status.Loose status.Loose n block there (stays of low status.Loose tt) tt (λ inside backed. backed)
    by_status other n block there means = absurd means

    pub pointers : PointersPass whole known here next machine after ws of of
    pointers = record { stale = stays of low status.Stale tt; current = λ old n block there means. inr (by_status old n block there means) }

  -- ---- handles

  module _ (acts : Acts) (of : flow_slot.Slot) (low : is_below base of ≡ true) where
    module _ (n : ℕ) (has : IsIn here machine of (pointer (Handle n))) (block : Block) (new : ActsAt n block) (marked : is_marked new.block ≡ true) where
      -- a chain brings Purgeable
      abbrev MarkedBy : Type 0
      MarkedBy =
          Brings whole known here next machine after ws of of status.IsHandle status.Purgeable
          ⊎ ((is_marked block ≡ true) × Brings whole known here next machine after ws of of status.Purgeable status.Purgeable)
          ⊎ HasChain whole known next ws of status.Purgeable

      -- it was: and the role does not unmark the block of a name of the slot
      was_marked : is_marked block ≡ true → (z : Bool) → (unmarks_by its_role && share_name facts of (slot.Place base)) ≡ z → MarkedBy
      was_marked old true both =
          let parts = and_parts (unmarks_by its_role) (share_name facts of (slot.Place base)) both in
          absurd (new.unmarked marked parts.0 (shared_there whole known here machine right is_at.names of base n has parts.1))
      was_marked old false none =
          inr (inl (old, brings of low status.Purgeable status.Purgeable (rows.routine_purgeable kinds (length whole.classes) facts number of none low)))

      -- it is the block of the argument, which the role marks: so the slot is not apart
      now_marked : marks_by facts.restores its_role ≡ true → at_place base here.stack ≡ Some (pointer (Handle n)) → (z : Bool)
          → apart facts of (slot.Place base) ≡ z → MarkedBy
      now_marked marks there true is_apart =
          absurd (apart_blocks whole known here machine right is_at.names of (slot.Place base) n n has there is_apart refl)
      now_marked marks there false not_apart =
          inl (brings of low status.IsHandle status.Purgeable (rows.routine_marks kinds (length whole.classes) facts number of marks not_apart low))

      marked_by : (is_marked block ≡ true) ⊎ ((marks_by facts.restores its_role ≡ true) × (at_place base here.stack ≡ Some (pointer (Handle n)))) → MarkedBy
      marked_by (inl old) = was_marked old (unmarks_by its_role && share_name facts of (slot.Place base)) refl
      marked_by (inr both) = now_marked both.0 both.1 (apart facts of (slot.Place base)) refl

    handle_passes : (n : ℕ) → IsIn here machine of (pointer (Handle n)) → HandlePasses whole known here next machine after ws of of n
    handle_passes n has =
        record { is = stays of low status.IsHandle tt; stays = λ block there. on block (acts.blocks n block there) }
      where
        on : (block : Block) → ActsAt n block → HandleStays whole known here next machine after ws of of n block
        on block new =
            record {
              block = new.block;
              there = new.there;
              marked = λ so. marked_by n has block new so (new.marked so);
              gone = λ so. inr (inr (new.gone so, stays of low status.Hollow tt));
            }

    passes : (v : Value) → IsIn here machine of v → Passes whole known here next machine after ws of of v
    passes v has =
        record { pointers = pointers (acting_stays acts) of low; handle = λ n handle. handle_passes n (subst (IsIn here machine of) handle has) }

  module _ (acts : Acts) where
    classes : ClassesPass whole known here next machine after ws
    classes class v = passes acts (slot.Class class) refl v tt

    -- A value in a slot that is no argument.
    pub routine_value : (of : flow_slot.Slot) → is_below base of ≡ true → (v : Value) → IsIn here machine of v → Tracked whole known here machine ws of v
        → Tracked whole known next after ws of v
    routine_value of low v has are = pass_value whole known here next machine after ws classes of of v (passes acts of low v has) are

    -- Control goes on.
    pub routine_reached : HasChain whole known here ws slot.Nothing status.Reached → HasChain whole known next ws slot.Nothing status.Reached
    routine_reached has =
        goes_on whole known here next machine after ws slot.Nothing slot.Nothing status.Reached status.Reached
        (stays slot.Nothing refl status.Reached tt) has

  -- A handle that the routine makes: its block is new.
  pub made_value : makes_handle kinds number ≡ true → HasChain whole known here ws slot.Nothing status.Reached → (n : ℕ) (block : Block)
      → block_at after.blocks n ≡ Some block → is_marked block ≡ false → is_purged block.presence ≡ false
      → TrackedHandle whole known next after ws (slot.Place base) n
  made_value makes reached n block there unmarked alive =
      record {
        block = block;
        there = there;
        is = goes_on whole known here next machine after ws slot.Nothing (slot.Place base) status.Reached status.IsHandle
            (leads whole known here machine ws its is_at (op.Routine number) is (suc here.at) stack lasting refl after slot.Nothing (slot.Place base)
            status.Reached status.IsHandle (rows.routine_makes kinds (length whole.classes) facts number makes)) reached;
        marked = λ so. absurd (true≢false (sym so ∙ unmarked));
        gone = λ so. absurd (true≢false (sym so ∙ alive));
      }

  -- ---- all that a call has

  module _ (acts : Acts) (rest : List Value) (below : base ≡ length rest)
      (same : (i : ℕ) (u : Value) → at_place i rest ≡ Some u → at_place i here.stack ≡ Some u) where
    places_pass : (values : List Value) → ((i : ℕ) (u : Value) → at_place i values ≡ Some u → at_place i rest ≡ Some u)
        → PlacesPass whole known here next machine after ws (classes acts) values
    places_pass [] there = tt
    places_pass (u ∷ values) there = (
      passes acts (slot.Place (length values))
          (is_below_of base (length values) (subst (λ n. length values < n) (sym below)
          (place_low (length values) rest u (there (length values) u (the_top (length values) u values refl))))) u
          (same (length values) u (there (length values) u (the_top (length values) u values refl))),
      places_pass values (λ i w has. there i w (under_top i u values (place_low i values w has) ∙ has)),
    )

    -- The values below the arguments, variables and cells stay tracked; the result and new cells are as they are given.
    pub routine : (v : Value) → stack ≡ v ∷ rest
        → (HasAll (TrackedCell whole known next after ws) tt (λ b. tt) machine → Tracked whole known next after ws (slot.Place (length rest)) v)
        → TrackedPlaces whole known here machine ws rest
        → (HasAll (TrackedCell whole known next after ws) tt (λ b. tt) machine → HasAll (TrackedCell whole known next after ws) tt (λ b. tt) after)
        → AreTracked whole known here machine ws → AreTracked whole known next after ws
    routine v so result places cells are =
        record {
          reached = routine_reached acts are.reached;
          places = subst (TrackedPlaces whole known next after ws) (sym so)
              (result memory, pass_places whole known here next machine after ws (classes acts) rest (places_pass rest (λ i u has. has)) places);
          variables = λ x u holds.
              routine_value acts (slot.Variable x) refl u (sym (acts.values x) ∙ holds) (are.variables x u (sym (acts.values x) ∙ holds));
          blocks = (cells memory).blocks;
          objects = (cells memory).objects;
        }
      where
        memory : HasAll (TrackedCell whole known next after ws) tt (λ b. tt) machine
        memory =
            record {
              blocks = pass_blocks whole known here next machine after ws (classes acts) machine.blocks are.blocks;
              objects = pass_objects whole known here next machine after ws (classes acts) machine.objects are.objects;
            }

  -- ---- roles that mark and unmark nothing

  -- HLock, HUnlock, the sizes, HGetState, EmptyHandle, ReallocateHandle, DisposeHandle, NewHandle, pointers, BlockMove, characters, and plain routines
  pub acts_since : (may : May) → may.moves ≡ false → may.marks ≡ false → unmarks_by its_role ≡ false → Since may machine.blocks after.blocks
      → ((x : Variable) → value_of after x ≡ value_of machine x)
      → (unlocks_by facts.restores its_role ≡ false → (n : ℕ) → here.lasting n ≡ true → lasting n ≡ true) → Acts
  acts_since may moves marks unmarks since values lasts = record { blocks = by_number; values = values; lasts = lasts }
    where
      by_there : (n : ℕ) (old : Block) → IsThere may old (block_at after.blocks n) → ActsAt n old
      by_there n old new =
          record {
            block = new.block;
            there = new.there;
            epoch = new.since.epoch moves;
            gone = λ so. new.since.unpurged moves so;
            marked = λ so. inl (new.since.purgeable marks so);
            unmarked = λ so unmarked argument. true≢false (sym unmarked ∙ unmarks);
          }

      by_number : (n : ℕ) (block : Block) → block_at machine.blocks n ≡ Some block → ActsAt n block
      by_number zero block there = absurd (none-some block there)
      by_number (suc i) block there = by_there (suc i) block (since i block there)

  -- ---- roles that act on the block of their argument

  -- HPurge, HNoPurge, and HSetState that is no restore: the block of the argument is another one, and all others stay.
  pub acts_one : (may : May) (m : ℕ) (old new : Block) → at_place base here.stack ≡ Some (pointer (Handle m)) → OneBlock machine after m old new
      → BlockSince may old new → may.moves ≡ false → (may.marks ≡ true → marks_by facts.restores its_role ≡ true)
      → (unmarks_by its_role ≡ true → is_marked new ≡ false)
      → (unlocks_by facts.restores its_role ≡ false → (n : ℕ) → here.lasting n ≡ true → lasting n ≡ true) → Acts
  acts_one may m old new argument one since moves marks unmarks lasts =
      record { blocks = λ n block there. by_test n block there (n == m) refl; values = one.values; lasts = lasts }
    where
      before : (b : Bool) → (b ≡ true → marks_by facts.restores its_role ≡ true) → may.marks ≡ b → is_marked new ≡ true
          → (is_marked old ≡ true) ⊎ ((marks_by facts.restores its_role ≡ true) × (at_place base here.stack ≡ Some (pointer (Handle m))))
      before true role_marks same so = inr (role_marks refl, argument)
      before false role_marks same so = inl (since.purgeable same so)

      of_argument : ActsAt m old
      of_argument =
          record {
            block = new;
            there = one.now;
            epoch = since.epoch moves;
            gone = λ so. since.unpurged moves so;
            marked = λ so. before may.marks marks refl so;
            unmarked = λ so unmarked argument'. true≢false (sym so ∙ unmarks unmarked);
          }

      by_test : (n : ℕ) (block : Block) → block_at machine.blocks n ≡ Some block → (z : Bool) → (n == m) ≡ z → ActsAt n block
      by_test n block there true same =
          subst (λ j. ActsAt j block) (sym (are_one n m same))
          (subst (ActsAt m) (same_Some old block (sym one.there ∙ ap (block_at machine.blocks) (sym (are_one n m same)) ∙ there)) of_argument)
        where
          are_one : (a b : ℕ) → (a == b) ≡ true → a ≡ b
          are_one a b is = grind (is, nat_tests, arith)
      by_test n block there false same =
          record {
            block = block;
            there = one.others n (are_apart n m same) ∙ there;
            epoch = refl;
            gone = λ so. so;
            marked = λ so. inl so;
            unmarked = λ so unmarked argument'. are_apart n m same (same_number n m (sym argument' ∙ argument));
          }
        where
          are_apart : (a b : ℕ) → (a == b) ≡ false → a ≡ b → ⊥
          are_apart a b is so = grind (is, so, nat_tests, arith)

          same_number : (a b : ℕ) → ◌≡◌ {A = Option Value} (Some (pointer (Handle a))) (Some (pointer (Handle b))) → a ≡ b
          same_number a b so = cc

  -- NIL: nothing is done.
  pub acts_nil : at_place base here.stack ≡ Some (pointer Nil) → machine ≡ after
      → (unlocks_by facts.restores its_role ≡ false → (n : ℕ) → here.lasting n ≡ true → lasting n ≡ true) → Acts
  acts_nil argument same lasts =
      record { blocks = λ n block there. stays_so n block there; values = λ x. ap (λ m. value_of m x) (sym same); lasts = lasts }
    where
      no_handle : (n : ℕ) → ◌≡◌ {A = Option Value} (Some (pointer Nil)) (Some (pointer (Handle n))) → ⊥
      no_handle n so = cc

      stays_so : (n : ℕ) (block : Block) → block_at machine.blocks n ≡ Some block → ActsAt n block
      stays_so n block there =
          record {
            block = block;
            there = ap (λ (m : Machine). block_at m.blocks n) (sym same) ∙ there;
            epoch = refl;
            gone = λ so. so;
            marked = λ so. inl so;
            unmarked = λ so unmarked argument'. no_handle n (sym argument ∙ argument');
          }
