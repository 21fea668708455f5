-- A state byte that is put back on the handle from which it was read (own).
--     Restores             what the routine does: one block gets the bits of the byte
--     byte_chain           a chain has brought SavedPurgeable to the byte, if it makes the block purgeable
--     restored_value       a handle of the block is purgeable then, by the row `routine_restores`; other blocks stay: `routine_stays`, `routine_holds`,
--                          `routine_purgeable`
--     restored             all that a call has
-- A slot that is apart from the argument has no handle of that block. Any other slot with a handle is among the restorable ones.
use Rattle.std.proofs.Common.{◌≡◌, ◌<◌, ◌⊎◌, inl, inr, ℕ, suc, ◌-◌, ◌%◌, ◌==◌, nat_le, Bool, true, false, ◌&&◌, List, [], ◌∷◌, length, slice_get, Option, Some, Ok, refl, sym, ap, ◌∙◌, subst, arith, true≢false}
use Rattle.std.proofs.lemmas.Bool.{and_parts}
use Rattle.std.proofs.lemmas.Bool.Decides.{nat_tests}
use Rattle.std.proofs.lemmas.Option.{same_Some}
use Rattle.std.specs.List.{AllByRecursion}
use Rattle.hs_calls.specs.Calls.{Here, Wait, moved}
use Rattle.hs_chains.specs.Knowledge.{Knowledge, IsGiven}
use Rattle.hs_code.specs.Codes.{scope_of}
use Rattle.hs_code.specs.Stacks.{Scope}
use Rattle.hs_code.specs.declared.function_code.Placed.{Placed}
use Rattle.hs_code.specs.declared.op.Op.TheVariants as op
use Rattle.hs_facts.specs.Effects.{WholeCode, HoldsAt, IsRestoreAt, first_argument, impact_of, only_assigns}
use Rattle.hs_facts.specs.Laws.Bytes.{Holds-bytes}
use Rattle.hs_facts.specs.MustFacts.{Saved, on_stack}
use Rattle.hs_facts.specs.Names.{role_at, taken}
use Rattle.hs_flow.specs.Among.{Among}
use Rattle.hs_flow.specs.Given.{Given, apart, share_name}
use Rattle.hs_flow.specs.Laws.Coming as rows
use Rattle.hs_flow.specs.Laws.Programs.{scope_there}
use Rattle.hs_flow.specs.Laws.Staying.{is_below_of}
use Rattle.hs_flow.specs.Next.{sets_state, unmarks_by}
use Rattle.hs_flow.specs.Programs.{scope_at}
use Rattle.hs_flow.specs.Restorable.{restorable}
use Rattle.hs_flow.specs.Slots.{is_below}
use Rattle.hs_flow.specs.declared.fact.FactStatus.TheVariants as status
use Rattle.hs_flow.specs.declared.fact.Slot as flow_slot
use Rattle.hs_flow.specs.declared.fact.Slot.TheVariants as slot
use Rattle.hs_heap.specs.Blocks.{Block, with_state}
use Rattle.hs_heap.specs.Memory.{block_at}
use Rattle.hs_heap.specs.Shift.{is_present}
use Rattle.hs_heap.specs.declared.cell.Cell.{Cell}
use Rattle.hs_heap.specs.declared.cell.Cell.TheVariants.{Undefined, Byte, State, Part}
use Rattle.hs_heap.specs.declared.cell.Pointer.{Pointer}
use Rattle.hs_heap.specs.declared.cell.Pointer.TheVariants.{Handle}
use Rattle.hs_heap.specs.declared.presence.Presence.TheVariants as presence
use Rattle.hs_hiding.specs.Holding.{value_of}
use Rattle.hs_meaning.specs.Machine.{Machine, Object}
use Rattle.hs_meaning.specs.Values.{Value, number, pointer, state, structure}
use Rattle.hs_role_truth.specs.Handled.{OneBlock}
use Rattle.hs_role_truth.specs.Handles.{changed_is}
use Rattle.hs_sound_heap.specs.Since.{is_marked, is_purged}
use Rattle.hs_table.specs.declared.role.Role.{Role}
use Rattle.hs_table.specs.declared.role.Role.TheVariants as role
use Rattle.hs_tracked.specs.Bytes.{AreBytesTracked, has_mark}
use Rattle.hs_tracked.specs.Calling.{StaysAt, Stays, brings, pointers, stays}
use Rattle.hs_tracked.specs.Going.{IsAt, leads}
use Rattle.hs_tracked.specs.Making.{HasAll}
use Rattle.hs_tracked.specs.Passing.{Passes, HandleStays, goes_on, pass_pointer}
use Rattle.hs_tracked.specs.Restorable.{AreListed, FitKinds, IsListed, IsValueListed, restorable_class, restorable_place, restorable_variable}
use Rattle.hs_tracked.specs.Right.{AreRight, IsIn, apart_blocks}
use Rattle.hs_tracked.specs.Tracking.{HasChain, TrackedCell, TrackedCells, Tracked, TrackedPlaces, AreTracked}
use Rattle.hs_tree.specs.declared.head.Variable.{Variable}
use Rattle.hs_truth.specs.Places.{at_place, place_low, the_top, under_top}

module _ (whole : WholeCode) (known : Knowledge) (here : Here) (machine after : Machine) (ws : List Wait) (its : Placed) (is_at : IsAt whole known here its)
    (right : AreRight whole known here machine) (lasting : ℕ → Bool) (stack : List Value) (number_of : ℕ) (is : its.op ≡ op.Routine number_of)
    (given : IsGiven whole here.fn here.at (known.at here.fn here.at)) (deep : its.places ≡ length here.stack) where
  -- what is known at the operation
  abbrev facts : Given
  facts = known.at here.fn here.at

  -- what the kinds of the operations depend on
  abbrev kinds : Scope
  kinds = scope_at whole here.fn

  -- the place of the handle; the byte is right above it
  abbrev pub base : ℕ
  base = facts.places - taken kinds (op.Routine number_of)

  -- the role of the routine
  abbrev its_role : Option Role
  its_role = role_at kinds number_of

  -- the call after it
  abbrev pub next : Here
  next = moved here (suc here.at) stack lasting

  -- The routine is a restore, and puts the byte on the block of the handle. What lasted still does.
  pub record Restores : Type 0 where
    pub sets : sets_state its_role ≡ true
    pub restores : facts.restores ≡ true
    pub n : ℕ
    pub byte : ℕ
    pub old : Block
    pub new : Block
    pub handle : at_place base here.stack ≡ Some (pointer (Handle n))
    pub put : at_place (suc base) here.stack ≡ Some (state byte)
    pub one : OneBlock machine after n old new
    pub acts : with_state byte old ≡ Ok new
    pub lasts : (k : ℕ) → here.lasting k ≡ true → lasting k ≡ true

  -- ---- the byte

  same_its : (r : IsRestoreAt whole here.fn here.at) → r.its ≡ its
  same_its r =
      same_Some r.its its
      (sym r.there ∙ ap (λ code. slice_get code.ops here.at) (same_Some r.code here.function.code (sym r.its_code ∙ is_at.found)) ∙ is_at.there)

  argument_is : (r : IsRestoreAt whole here.fn here.at) → first_argument (scope_of whole.program r.function) r.its ≡ base
  argument_is r =
      ap (first_argument (scope_of whole.program r.function)) (same_its r)
      ∙ ap (λ scope. first_argument scope its) (sym (scope_there whole here.fn r.function r.of_function))
      ∙ ap (λ o. its.places - taken kinds o) is ∙ ap (λ n. n - taken kinds (op.Routine number_of)) (deep ∙ sym is_at.deep)

  -- it is known to be of the handle in a name
  saved_by : IsRestoreAt whole here.fn here.at → (x : Variable) × HoldsAt whole here.fn here.at (Saved (on_stack (suc base)) x)
  saved_by r = (
    r.handle,
    subst (λ k. HoldsAt whole here.fn here.at (Saved (on_stack (suc k)) r.handle)) (argument_is r)
        (record {
          function = r.function;
          of_function = r.of_function;
          code = r.code;
          its_code = r.its_code;
          holds = Holds-bytes (scope_of whole.program r.function) r.code (only_assigns whole) (impact_of whole) (λ f g so. so) here.at
              (Saved (on_stack (suc (first_argument (scope_of whole.program r.function) r.its))) r.handle) tt r.read;
        }),
  )

  module _ (it : Restores) where
    -- a chain has come to it, if it makes the block purgeable
    pub byte_chain : AreBytesTracked whole known here machine ws → has_mark it.byte ≡ true
        → HasChain whole known here ws (slot.Place (suc base)) status.SavedPurgeable
    byte_chain bytes marked = by_saved (saved_by (given.restores.0 it.restores))
      where
        by_saved : (x : Variable) × HoldsAt whole here.fn here.at (Saved (on_stack (suc base)) x)
            → HasChain whole known here ws (slot.Place (suc base)) status.SavedPurgeable
        by_saved its_name = bytes.each (on_stack (suc base)) its_name.0 it.byte it.put its_name.1 marked

    -- ---- the block

    -- it gets the bits, if it has its cells
    changes : ((it.new ≡ record it.old { locked = nat_le 128 it.byte; purgeable = nat_le 64 (it.byte % 128) }) × (it.old.presence ≡ presence.Present))
        ⊎ ((it.new ≡ it.old) × (it.old.presence ≡ presence.Emptied))
    changes = changed_is (λ b. record b { locked = nat_le 128 it.byte; purgeable = nat_le 64 (it.byte % 128) }) it.old it.new it.acts

    marked_is : is_marked it.new ≡ true → has_mark it.byte ≡ true
    marked_is marked = by_change changes
      where
        by_change : ((it.new ≡ record it.old { locked = nat_le 128 it.byte; purgeable = nat_le 64 (it.byte % 128) }) × (it.old.presence ≡ presence.Present))
            ⊎ ((it.new ≡ it.old) × (it.old.presence ≡ presence.Emptied)) → has_mark it.byte ≡ true
        by_change (inl so) =
            (and_parts (is_present it.old.presence) (has_mark it.byte) (sym (ap is_marked so.0) ∙ marked)).1
        by_change (inr so) =
            absurd (true≢false (sym (and_parts (is_present it.old.presence) it.old.purgeable (sym (ap is_marked so.0) ∙ marked)).0 ∙ ap is_present so.1))

    new_stays : StaysAt whole known here machine after ws its is_at right lasting stack number_of is it.n it.old
    new_stays = by_change changes
      where
        by_change : ((it.new ≡ record it.old { locked = nat_le 128 it.byte; purgeable = nat_le 64 (it.byte % 128) }) × (it.old.presence ≡ presence.Present))
            ⊎ ((it.new ≡ it.old) × (it.old.presence ≡ presence.Emptied))
            → StaysAt whole known here machine after ws its is_at right lasting stack number_of is it.n it.old
        by_change (inl so) =
            record {
              block = it.new;
              there = it.one.now;
              epoch = ap (λ (b : Block). b.epoch) so.0;
              gone = λ gone. sym (ap (λ (b : Block). is_purged b.presence) so.0) ∙ gone;
            }
        by_change (inr so) =
            record {
              block = it.new;
              there = it.one.now;
              epoch = ap (λ (b : Block). b.epoch) so.0;
              gone = λ gone. sym (ap (λ (b : Block). is_purged b.presence) so.0) ∙ gone;
            }

    same_or_other : (k : ℕ) → (k ≡ it.n) ⊎ (k ≡ it.n → ⊥)
    same_or_other k = by_test (k == it.n) refl
      where
        by_test : (z : Bool) → (k == it.n) ≡ z → (k ≡ it.n) ⊎ (k ≡ it.n → ⊥)
        by_test true so = inl (grind (so, nat_tests, arith))
        by_test false so = inr (λ same. absurd (grind (so, same, nat_tests, arith)))

    kept : Stays whole known here machine after ws its is_at right lasting stack number_of is
    kept = record { blocks = λ k block there. by_number k block there (same_or_other k); values = it.one.values; lasts = λ none k lasted. it.lasts k lasted }
      where
        by_number : (k : ℕ) (block : Block) → block_at machine.blocks k ≡ Some block → (k ≡ it.n) ⊎ (k ≡ it.n → ⊥)
            → StaysAt whole known here machine after ws its is_at right lasting stack number_of is k block
        by_number k block there (inl same) =
            subst (λ j. StaysAt whole known here machine after ws its is_at right lasting stack number_of is j block) (sym same)
            (subst (StaysAt whole known here machine after ws its is_at right lasting stack number_of is it.n)
            (same_Some it.old block (sym it.one.there ∙ ap (block_at machine.blocks) (sym same) ∙ there)) new_stays)
        by_number k block there (inr other) =
            record { block = block; there = it.one.others k other ∙ there; epoch = refl; gone = λ so. so }

    -- ---- a slot

    role_is : its_role ≡ Some role.SetState
    role_is = by_role its_role it.sets
      where
        by_role : (r : Option Role) → sets_state r ≡ true → r ≡ Some role.SetState
        by_role (Some role.SetState) sets = refl
        by_role other sets = absurd (true≢false (sym sets))

    module _ (bytes : AreBytesTracked whole known here machine ws) (of : flow_slot.Slot) (low : is_below base of ≡ true) where
      -- a handle of the block, whose slot may not be apart
      marked_now : Among (restorable kinds (length whole.classes) base) of → IsIn here machine of (pointer (Handle it.n)) → has_mark it.byte ≡ true
          → (z : Bool) → apart facts of (slot.Place base) ≡ z → HasChain whole known next ws of status.Purgeable
      marked_now can has marked true is_apart =
          absurd (apart_blocks whole known here machine right is_at.names of (slot.Place base) it.n it.n has it.handle is_apart refl)
      marked_now can has marked false not_apart =
          goes_on whole known here next machine after ws (slot.Place (suc base)) of status.SavedPurgeable status.Purgeable
          (leads whole known here machine ws its is_at (op.Routine number_of) is (suc here.at) stack lasting refl after (slot.Place (suc base)) of
          status.SavedPurgeable status.Purgeable
          (rows.routine_restores kinds (length whole.classes) facts number_of of it.sets it.restores can not_apart)) (byte_chain bytes marked)

      handle_stays : (k : ℕ) → Among (restorable kinds (length whole.classes) base) of → IsIn here machine of (pointer (Handle k)) → (block : Block)
          → block_at machine.blocks k ≡ Some block → (k ≡ it.n) ⊎ (k ≡ it.n → ⊥) → HandleStays whole known here next machine after ws of of k block
      handle_stays k can has block there (inl same) =
          record {
            block = it.new;
            there = ap (block_at after.blocks) same ∙ it.one.now;
            marked = λ so.
                inr (inr (marked_now can (subst (λ j. IsIn here machine of (pointer (Handle j))) same has) (marked_is so)
                (apart facts of (slot.Place base)) refl));
            gone = λ so. inr (inr (was_gone so, stays whole known here machine after ws its is_at right lasting stack number_of is of low status.Hollow tt));
          }
        where
          was_gone : is_purged it.new.presence ≡ true → is_purged block.presence ≡ true
          was_gone gone =
              ap (λ (b : Block). is_purged b.presence) (sym (same_Some it.old block (sym it.one.there ∙ ap (block_at machine.blocks) (sym same) ∙ there)))
              ∙ by_stays new_stays
            where
              by_stays : StaysAt whole known here machine after ws its is_at right lasting stack number_of is it.n it.old → is_purged it.old.presence ≡ true
              by_stays s = s.gone (ap (λ (b : Block). is_purged b.presence) (same_Some s.block it.new (sym s.there ∙ it.one.now)) ∙ gone)
      handle_stays k can has block there (inr other) =
          record {
            block = block;
            there = it.one.others k other ∙ there;
            marked = λ so.
                inr (inl (
                  so,
                  brings whole known here machine after ws its is_at right lasting stack number_of is of low status.Purgeable status.Purgeable
                      (rows.routine_purgeable kinds (length whole.classes) facts number_of of unmarks low),
                ));
            gone = λ so. inr (inr (so, stays whole known here machine after ws its is_at right lasting stack number_of is of low status.Hollow tt));
          }
        where
          unmarks : (unmarks_by its_role && share_name facts of (slot.Place base)) ≡ false
          unmarks = ap (λ r. unmarks_by r && share_name facts of (slot.Place base)) role_is

      -- A value of a slot that is no argument, if the slot may have a handle wherever the value is one.
      restored_passes : (v : Value) → IsIn here machine of v
          → ((p : Pointer) → v ≡ pointer p → Among (restorable kinds (length whole.classes) base) of)
          → Passes whole known here next machine after ws of of v
      restored_passes v has can =
          record {
            pointers = pointers whole known here machine after ws its is_at right lasting stack number_of is kept of low;
            handle = λ k handle.
                record {
                  is = stays whole known here machine after ws its is_at right lasting stack number_of is of low status.IsHandle tt;
                  stays = λ block there.
                      handle_stays k (can (Handle k) handle) (subst (IsIn here machine of) handle has) block there (same_or_other k);
                };
          }

    -- ---- all that a call has

    module _ (bytes : AreBytesTracked whole known here machine ws) where
      -- a pointer in memory, of a class of the program
      restored_cell : (cell : Cell) → IsListed (length whole.classes) cell → TrackedCell whole known here machine ws cell
          → TrackedCell whole known next after ws cell
      restored_cell Undefined listed is = tt
      restored_cell (Byte byte) listed is = tt
      restored_cell (State byte) listed is = tt
      restored_cell (Part at p class) listed is =
          pass_pointer whole known here next machine after ws (slot.Class class) (slot.Class class) p
          (restored_passes bytes (slot.Class class) refl (pointer p) tt
          (λ q same. restorable_class kinds (length whole.classes) base class listed)) is

      pub restored_cells : (cells : List Cell) → AllByRecursion (IsListed (length whole.classes)) cells → TrackedCells whole known here machine ws cells
          → TrackedCells whole known next after ws cells
      restored_cells [] listed are = tt
      restored_cells (cell ∷ cells) listed are = (restored_cell cell listed.0 are.0, restored_cells cells listed.1 are.1)

      -- A value of a slot.
      pub restored_value : (of : flow_slot.Slot) → is_below base of ≡ true → (v : Value) → IsIn here machine of v
          → ((p : Pointer) → v ≡ pointer p → Among (restorable kinds (length whole.classes) base) of) → IsValueListed (length whole.classes) v
          → Tracked whole known here machine ws of v → Tracked whole known next after ws of v
      restored_value of low (number bits) has can listed is = tt
      restored_value of low (pointer p) has can listed is =
          pass_pointer whole known here next machine after ws of of p (restored_passes bytes of low (pointer p) has can) is
      restored_value of low (state byte) has can listed is = tt
      restored_value of low (structure cells) has can listed is = restored_cells cells listed is

      restored_places : (values : List Value) → ((i : ℕ) (u : Value) → at_place i values ≡ Some u → (i < base) × (at_place i here.stack ≡ Some u))
          → AllByRecursion (IsValueListed (length whole.classes)) values → TrackedPlaces whole known here machine ws values
          → TrackedPlaces whole known next after ws values
      restored_places [] there listed are = tt
      restored_places (u ∷ values) there listed are = (
        restored_value (slot.Place (length values)) (is_below_of base (length values) (there (length values) u (the_top (length values) u values refl)).0) u
            (there (length values) u (the_top (length values) u values refl)).1
            (λ p same. restorable_place kinds (length whole.classes) base (length values) (there (length values) u (the_top (length values) u values refl)).0)
            listed.0 are.0,
        restored_places values (λ i w has. there i w (under_top i u values (place_low i values w has) ∙ has)) listed.1 are.1,
      )

      restored_blocks : (blocks : List Block) → AllByRecursion (λ block. AllByRecursion (IsListed (length whole.classes)) block.cells) blocks
          → AllByRecursion (λ block. TrackedCells whole known here machine ws block.cells) blocks
          → AllByRecursion (λ block. TrackedCells whole known next after ws block.cells) blocks
      restored_blocks [] listed are = tt
      restored_blocks (block ∷ blocks) listed are = (restored_cells block.cells listed.0 are.0, restored_blocks blocks listed.1 are.1)

      restored_objects : (objects : List Object) → AllByRecursion (λ its. AllByRecursion (IsListed (length whole.classes)) its.cells) objects
          → AllByRecursion (λ its. TrackedCells whole known here machine ws its.cells) objects
          → AllByRecursion (λ its. TrackedCells whole known next after ws its.cells) objects
      restored_objects [] listed are = tt
      restored_objects (its ∷ objects) listed are = (restored_cells its.cells listed.0 are.0, restored_objects objects listed.1 are.1)

      -- The values below the arguments, variables and cells. The result is as it is given.
      pub restored : (rest : List Value) → ((i : ℕ) (u : Value) → at_place i rest ≡ Some u → (i < base) × (at_place i here.stack ≡ Some u))
          → AllByRecursion (IsValueListed (length whole.classes)) rest → (v : Value) → stack ≡ v ∷ rest
          → (HasAll (TrackedCell whole known next after ws) tt (λ b. tt) machine → Tracked whole known next after ws (slot.Place (length rest)) v)
          → TrackedPlaces whole known here machine ws rest
          → (HasAll (TrackedCell whole known next after ws) tt (λ b. tt) machine → HasAll (TrackedCell whole known next after ws) tt (λ b. tt) after)
          → FitKinds kinds (length whole.classes) base machine → AreListed (length whole.classes) here machine
          → AreTracked whole known here machine ws → AreTracked whole known next after ws
      restored rest there rest_listed v so result places cells fit listed are =
          record {
            reached = goes_on whole known here next machine after ws slot.Nothing slot.Nothing status.Reached status.Reached
                (stays whole known here machine after ws its is_at right lasting stack number_of is slot.Nothing refl status.Reached tt) are.reached;
            places = subst (TrackedPlaces whole known next after ws) (sym so) (result memory, restored_places rest there rest_listed places);
            variables = λ x u holds. by_variable x u (sym (it.one.values x) ∙ holds);
            blocks = (cells memory).blocks;
            objects = (cells memory).objects;
          }
        where
          memory : HasAll (TrackedCell whole known next after ws) tt (λ b. tt) machine
          memory =
              record {
                blocks = restored_blocks machine.blocks listed.blocks are.blocks;
                objects = restored_objects machine.objects listed.objects are.objects;
              }

          by_variable : (x : Variable) (u : Value) → value_of machine x ≡ Some u → Tracked whole known next after ws (slot.Variable x) u
          by_variable x u holds =
              restored_value (slot.Variable x) refl u holds
              (λ p same. restorable_variable kinds (length whole.classes) base machine fit x p (holds ∙ ap (λ w. Some w) same)) (listed.variables x u holds)
              (are.variables x u holds)
