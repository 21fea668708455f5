-- What is left to show of the call of a routine: the roles lock, unlock, get_state, set_state, dispose_handle and realloc (own).
--     lock_sound, unlock_sound, ..      what each such role gives is true
--     put_on                            the block on which a state byte is put
use Rattle.std.proofs.Common.{◌≡◌, ◌<◌, ◌≤◌, ◌⊎◌, inl, inr, ℕ, suc, nat_le, Bool, true, false, List, [], ◌∷◌, length, Option, Some, None, refl, sym, ap, ◌∙◌, subst, arith, ◌&&◌, slice_get, ◌%◌, Result, Ok, if◌then◌else◌}
use Rattle.std.proofs.lemmas.Option.{same_Some}
use Rattle.hs_calls.specs.Calls.{Here, moved, Wait, point_of, steady_in}
use Rattle.hs_calls.specs.Stacks.{Stays}
use Rattle.hs_code.specs.Stacks.{Scope, routine_signature}
use Rattle.hs_code.specs.declared.function_code.Placed.{Placed}
use Rattle.hs_code.specs.declared.op.Op.TheVariants as op
use Rattle.hs_code_run.specs.Codes.{CodeProgram, scope_of, Point}
use Rattle.hs_code_run.specs.Steps.{taken, below, holds}
use Rattle.hs_facts.specs.Changes.{Impact, UsedIf, BroughtByRole}
use Rattle.hs_facts.specs.MustFacts.{Keeper, MustFact, With, Saved, Kept, Locked, Live, Distinct, New, on_stack, in_slot}
use Rattle.hs_facts.specs.Names.{makes_by, gives_handle}
use Rattle.hs_heap.specs.Blocks.{Block, state_of, with_lock, with_state, disposed, reallocated, is_disposed, ended, standing, by_standing, changed, renewed, has_life}
use Rattle.hs_heap.specs.Memory.{block_at}
use Rattle.hs_heap.specs.declared.cell.Pointer.TheVariants.{Nil, Handle}
use Rattle.hs_heap.specs.declared.presence.Presence.{Presence}
use Rattle.hs_heap.specs.declared.presence.Presence.TheVariants as presence
use Rattle.hs_heap.specs.declared.stop.HeapStop.{HeapStop}
use Rattle.hs_hiding.specs.Holding.{Lacking, HoldsHandle, value_of, Cells, IsAlive}
use Rattle.hs_hiding.specs.Roles.{asked_lacks, LeavesCells, reallocated_leaves, changed_leaves, standing_leaves}
use Rattle.hs_meaning.specs.Handles.{size_for, asked, changed_by, changed_in, with_result, if_granted, is_granted, reshaped_by, reshaped_in, has_room_after, answer_by, answer_of_block, answer_in}
use Rattle.hs_meaning.specs.Machine.{Machine, value_of_slot}
use Rattle.hs_meaning.specs.Operations as operation
use Rattle.hs_meaning.specs.Operations.{as_kind, is_plain}
use Rattle.hs_meaning.specs.Roles.{role_stops, role_value, role_machine, handle_stops, state_in, state_stop}
use Rattle.hs_meaning.specs.Steps.{State, used, acts}
use Rattle.hs_meaning.specs.Stops.{Stops, first_stop}
use Rattle.hs_meaning.specs.Values.{Value, number, pointer, state, structure, pointer_in}
use Rattle.hs_meaning.specs.declared.outcome.Outcome.{Outcome}
use Rattle.hs_meaning.specs.declared.outcome.Stop.{Stop}
use Rattle.hs_role_truth.specs.Arguments.{two_taken, realloc_alive, state_alive, one_taken}
use Rattle.hs_role_truth.specs.Handled.{OneBlock}
use Rattle.hs_role_truth.specs.Handles.{unlock_true, put_true, realloc_true, lock_true, get_true, changed_is, dispose_true}
use Rattle.hs_role_truth.specs.QuietRoles.{done_role, by_facts}
use Rattle.hs_role_truth.specs.Restores.{marked_since}
use Rattle.hs_role_truth.specs.RoleArguments.{get_state_argument, lock_argument, Two, unlock_argument, One, set_state_argument, dispose_handle_argument, realloc_argument}
use Rattle.hs_role_truth.specs.RoleFacts.{used_true, Runs, live_if}
use Rattle.hs_role_truth.specs.Roles.{GivenByRole, Brought, Keeps}
use Rattle.hs_role_truth.specs.Touching.{Taken, taken_handle, changed_one}
use Rattle.hs_sound_heap.specs.Roles.{nothing}
use Rattle.hs_sound_heap.specs.Since.{since_refl, is_marked, May, Since}
use Rattle.hs_table.specs.declared.role.Role.{Role}
use Rattle.hs_table.specs.declared.role.Role.TheVariants as role
use Rattle.hs_tree.specs.Kinds.{number_kind}
use Rattle.hs_tree.specs.declared.function.BoundRoutine.{BoundRoutine}
use Rattle.hs_tree.specs.declared.function.Prototype.{Prototype}
use Rattle.hs_tree.specs.declared.head.Variable.{Variable}
use Rattle.hs_tree.specs.declared.head.Variable.TheVariants as name
use Rattle.hs_truth.specs.Frames.{unsaid}
use Rattle.hs_truth.specs.Good.{Good}
use Rattle.hs_truth.specs.Linked.{IsLinked, since_of}
use Rattle.hs_truth.specs.Places.{OthersLack, at_place}
use Rattle.hs_truth.specs.Quiet.{quiet_true}
use Rattle.hs_truth.specs.Truth.{AllTrue, Says, ByteTrue, SoundAt, LiveValue, NewAt}
use Rattle.hs_truth.specs.Values.{new_after, values_after, next_value, places_after}
use Rattle.hs_types.specs.Integers.{converted}
use Rattle.hs_types.specs.declared.integer.Integer.{Integer}

module _ (program : CodeProgram) (may : ℕ → May) (sets : ℕ → ℕ → Bool) (impact : Impact) (E : Outcome → State → Type 0)
    (ends : (outcome : Outcome) (s : State) → E outcome s) (here : Here) (ws : List Wait) (choices : List Bool) (its : Placed) (s : State)
    (good : Good program may sets impact here s.machine ws) (there : slice_get here.function.code.ops here.at ≡ Some its)
    (deep : its.places ≡ length here.stack) where
  -- the point of the operation
  abbrev point : Point
  point = point_of here ws choices

  -- what facts of the function depend on
  abbrev scope : Scope
  scope = scope_of program here.function

  -- what a purgeable bit shows of the begin of the call
  abbrev marked_by : ℕ → Type 0
  marked_by = since_of may sets here.fn ws

  -- the call goes on
  abbrev GoesOn : Point → State → Type 0
  GoesOn = Stays program (Good program may sets impact) E here s.machine ws

  module _ (p : ℕ) (is : its.op ≡ op.Routine p) (it : BoundRoutine) (found : slice_get program.setting.routines p ≡ Some it) (prototype : Prototype)
      (proto : it.prototype ≡ Some prototype) (held : holds (length prototype.parameters) here.stack ≡ true) where
    -- how many arguments it takes
    abbrev count : ℕ
    count = length prototype.parameters

    -- the place of the first one
    abbrev first : ℕ
    first = length (below count here.stack)

    module _ (v : Value) (after : Machine)
        (ran : Runs program may sets impact E ends here ws choices its s good there deep p is it found prototype proto held v after) where
      -- the call after it
      abbrev next : Here
      next = next_value program may sets impact here ws its (operation.routine p) count s.machine good v after ran

      -- what it owes
      abbrev Sound : Type 1
      Sound = SoundAt scope here.function.code impact marked_by its here s.machine next after

      -- why it does not stop, what it gives, and the machine after it
      done_here : (r : Role) → it.routine.role ≡ r → is_plain r ≡ false
          → (first_stop (role_stops r (taken count here.stack) s.machine) ≡ None)
          × (as_kind (number_kind program.setting.types prototype.result) (role_value r (taken count here.stack) s.machine) ≡ v)
          × (role_machine r (taken count here.stack) s.machine ≡ after)
      done_here = done_role program may sets impact E ends here ws choices its s good there deep p is it found prototype proto held v after ran

      facts_here : (r : Role) → it.routine.role ≡ r
          → makes_by (Some r) (gives_handle program.setting.types (routine_signature (slice_get program.setting.routines p))) ≡ false
          → ((R : MustFact → Type 0) → AllTrue R here s.machine marked_by
          → AllTrue (GivenByRole scope here.function.code R (Some r) false first) next after marked_by) → Sound
      facts_here = by_facts program may sets impact E ends here ws choices its s good there deep p is it found prototype proto held v after ran

      -- a number, of the type with which the routine is declared
      number_of : (kind : Option Integer) (bits : ℕ) → (m : ℕ) × (as_kind kind (number bits) ≡ number m)
      number_of None bits = (0, refl)
      number_of (Some kind) bits = (converted kind bits, refl)

      -- ---- NIL

      module _ (R : MustFact → Type 0) (are : AllTrue R here s.machine marked_by) (a : Value) (at_first : at_place first here.stack ≡ Some a)
          (nil : a ≡ pointer Nil) (heap : Since nothing s.machine.blocks after.blocks) where
        values : (x : Variable) → value_of after x ≡ value_of s.machine x
        values = values_after program may sets impact here ws its (operation.routine p) count s.machine good v after ran refl

        no_handle : (n : ℕ) → pointer Nil ≡ pointer (Handle n) → ⊥
        no_handle n so = cc

        -- a name of the argument has no handle
        nil_clash : (x : Variable) (n : ℕ) → R (With first x) → HoldsHandle s.machine x n → ⊥
        nil_clash x n named holds = by_value (are.says (With first x) named)
          where
            by_value : (w : Value) × (at_place first here.stack ≡ Some w) × (value_of s.machine x ≡ Some w) → ⊥
            by_value old =
                no_handle n (same_Some (pointer Nil) (pointer (Handle n)) (sym (old.2 ∙ sym old.1 ∙ at_first ∙ ap Some nil) ∙ holds))

        nil_handle : (a : Value) × (at_place first here.stack ≡ Some a) × ((n : ℕ) → a ≡ pointer (Handle n) → IsAlive s.machine n)
        nil_handle = (a, at_first, λ n handle. absurd (no_handle n (sym nil ∙ handle)))

        -- a role that brings nothing of its own
        nil_true : (r : Role) → ((fact : MustFact) → BroughtByRole R (Some r) first fact → ⊥)
            → AllTrue (GivenByRole scope here.function.code R (Some r) false first) next after marked_by
        nil_true r none =
            used_true program may sets impact E ends here ws choices its s good there deep p is it found prototype proto held v after ran R are r nothing heap
            refl refl none (λ uses. nil_handle)

        live_nil : (z : Bool) (fact : MustFact) → UsedIf R z first fact → Says next after fact
        live_nil z fact used =
            by_live (live_if program may sets impact E ends here ws choices its s good there deep p is it found prototype proto held v after ran
            R are role.Lock nothing heap refl refl z (λ uses. nil_handle) fact used)
          where
            by_live : (x : Variable) × (fact ≡ Live x) × LiveValue next after x → Says next after fact
            by_live got = subst (Says next after) (sym got.1) got.2

        not_high : (i : ℕ) → i < first → first ≤ i → ⊥
        not_high i low high = omega (low, high, arith)

        places : (i : ℕ) → i < first → at_place i (v ∷ below count here.stack) ≡ at_place i here.stack
        places = places_after program may sets impact here ws its (operation.routine p) count s.machine good v after ran

        others : (i n : ℕ) → i < first → NewAt here s.machine i n → OthersLack n i (v ∷ below count here.stack) × Lacking n after
        others = new_after program may sets impact here ws its (operation.routine p) count s.machine good v after ran

        nil_lock : AllTrue (GivenByRole scope here.function.code R (Some role.Lock) false first) next after marked_by
        nil_lock =
            quiet_true scope here.function.code R (Keeps scope here.function.code R (Some role.Lock) false first)
            (Brought scope here.function.code R (Some role.Lock) false first) first here s.machine after marked_by are (suc here.at)
            (v ∷ below count here.stack) good.lasts values nothing heap refl refl
            (record {
              under = λ fact keep. keep.0;
              places = places;
              others = λ i n keep it. others i n keep.0 it;
              comes = λ fact names it. comes fact it;
              saved_comes = λ b y it. absurd (no_saved b y it);
              kept_comes = λ b y n it. inr (λ holds origin. no_kept b y n it holds);
              top_bytes = λ i byte high held'.
                  unsaid scope here.function.code R (Keeps scope here.function.code R (Some role.Lock) false first)
                  (Brought scope here.function.code R (Some role.Lock) false first) first here s.machine after marked_by (suc here.at)
                  (v ∷ below count here.stack) next.lasting i byte (never_saved i high) (never_kept i high);
            })
          where
            comes : (fact : MustFact) → Brought scope here.function.code R (Some role.Lock) false first fact → Says next after fact
            comes fact (inl it) = live_nil true fact it
            comes (Locked x) (inr (inl it)) = λ n holds. absurd (nil_clash x n it (sym (values x) ∙ holds))
            comes (With i x) (inr (inl it)) = absurd it
            comes (Live x) (inr (inl it)) = absurd it
            comes (Distinct x y) (inr (inl it)) = absurd it
            comes (New i) (inr (inl it)) = absurd it
            comes (Saved b x) (inr (inl it)) = tt
            comes (Kept b x) (inr (inl it)) = tt
            comes fact (inr (inr it)) = absurd it

            no_saved : (b : Keeper) (y : Variable) → Brought scope here.function.code R (Some role.Lock) false first (Saved b y) → ⊥
            no_saved b y (inl it) = it
            no_saved b y (inr (inl it)) = it
            no_saved b y (inr (inr it)) = it

            no_kept : (b : Keeper) (y : Variable) (n : ℕ) → Brought scope here.function.code R (Some role.Lock) false first (Kept b y)
                → HoldsHandle s.machine y n → ⊥
            no_kept b y n (inl it) holds = it
            no_kept b y n (inr (inl it)) holds = nil_clash y n it.0 holds
            no_kept b y n (inr (inr it)) holds = it

            never_saved : (i : ℕ) → first ≤ i → (y : Variable)
                → GivenByRole scope here.function.code R (Some role.Lock) false first (Saved (on_stack i) y) → ⊥
            never_saved i high y (names, inl it) = not_high i it.0.0 high
            never_saved i high y (names, inr it) = no_saved (on_stack i) y it

            never_kept : (i : ℕ) → first ≤ i → (y : Variable)
                → GivenByRole scope here.function.code R (Some role.Lock) false first (Kept (on_stack i) y) → ⊥
            never_kept i high y (names, inl it) = not_high i it.0.0 high
            never_kept i high y (names, inr (inl it)) = it
            never_kept i high y (names, inr (inr (inl it))) = not_high i it.1 high
            never_kept i high y (names, inr (inr (inr it))) = it

        nil_get : AllTrue (GivenByRole scope here.function.code R (Some role.GetState) false first) next after marked_by
        nil_get =
            quiet_true scope here.function.code R (Keeps scope here.function.code R (Some role.GetState) false first)
            (Brought scope here.function.code R (Some role.GetState) false first) first here s.machine after marked_by are (suc here.at)
            (v ∷ below count here.stack) good.lasts values nothing heap refl refl
            (record {
              under = λ fact keep. keep.0;
              places = places;
              others = λ i n keep it. others i n keep.0 it;
              comes = λ fact names it. comes fact it;
              saved_comes = λ b y it. above_saved b y it;
              kept_comes = λ b y n it. inl (above_kept b y it);
              top_bytes = λ i byte high held'. nil_byte i byte high;
            })
          where
            comes : (fact : MustFact) → Brought scope here.function.code R (Some role.GetState) false first fact → Says next after fact
            comes fact (inl it) = live_nil true fact it
            comes (Locked x) (inr (inl it)) = absurd it
            comes (With i x) (inr (inl it)) = absurd it
            comes (Live x) (inr (inl it)) = absurd it
            comes (Distinct x y) (inr (inl it)) = absurd it
            comes (New i) (inr (inl it)) = absurd it
            comes (Saved b x) (inr (inl it)) = tt
            comes (Kept b x) (inr (inl it)) = tt
            comes fact (inr (inr it)) = absurd it

            at_least : (place : ℕ) → place ≡ first → first ≤ place
            at_least place so = omega (so, arith)

            above_saved : (b : Keeper) (y : Variable) → Brought scope here.function.code R (Some role.GetState) false first (Saved b y)
                → (i : ℕ) × (b ≡ on_stack i) × (first ≤ i)
            above_saved b y (inl it) = absurd it
            above_saved (on_stack place) y (inr (inl it)) = (place, refl, at_least place it.0)
            above_saved (in_slot b) y (inr (inl it)) = absurd it
            above_saved b y (inr (inr it)) = absurd it

            above_kept : (b : Keeper) (y : Variable) → Brought scope here.function.code R (Some role.GetState) false first (Kept b y)
                → (i : ℕ) × (b ≡ on_stack i) × (first ≤ i)
            above_kept b y (inl it) = absurd it
            above_kept (on_stack place) y (inr (inl it)) = (place, refl, at_least place it.0)
            above_kept (in_slot b) y (inr (inl it)) = absurd it
            above_kept b y (inr (inr it)) = absurd it

            named : (i : ℕ) → first ≤ i → (x : Variable)
                → GivenByRole scope here.function.code R (Some role.GetState) false first (Saved (on_stack i) x) → R (With first x)
            named i high x (names, inl it) = absurd (not_high i it.0.0 high)
            named i high x (names, inr (inl it)) = absurd it
            named i high x (names, inr (inr (inl it))) = it.1
            named i high x (names, inr (inr (inr it))) = absurd it

            nil_byte : (i byte : ℕ) → first ≤ i
                → ByteTrue (GivenByRole scope here.function.code R (Some role.GetState) false first) next.lasting after (on_stack i) byte marked_by
            nil_byte i byte high =
                record {
                  origin = None;
                  there = λ n so. absurd cc;
                  read = λ x n given holds. absurd (nil_clash x n (named i high x given) (sym (values x) ∙ holds));
                  made = λ x n given so. absurd cc;
                  lasts = λ n block so. absurd cc;
                  keeps = λ x n block given holds so. absurd cc;
                  marks = λ n so. absurd cc;
                }

      -- the machine after a role of NIL
      nil_heap : s.machine ≡ after → Since nothing s.machine.blocks after.blocks
      nil_heap same = subst (λ m. Since nothing s.machine.blocks m.blocks) same (since_refl nothing s.machine.blocks)

      -- ---- roles that change one block

      module _ (act : Block → Result Block HeapStop) (leaves : (k : ℕ) (block : Block) → Cells k block.cells → LeavesCells k (act block)) (a : Value)
          (now : changed_by act (pointer_in a) s.machine ≡ after) where
        one_of : (t : Taken Block act a s.machine) → OneBlock s.machine after t.n t.before t.new
        one_of t =
            subst (λ m. OneBlock s.machine m t.n t.before t.new) (ap (λ q. changed_by act (pointer_in q) s.machine) (sym t.handle) ∙ now)
            (changed_one act s.machine t.n t.before t.new t.there t.acts leaves)

        same_if_nil : a ≡ pointer Nil → s.machine ≡ after
        same_if_nil nil = ap (λ q. changed_by act (pointer_in q) s.machine) (sym nil) ∙ now

      -- a block that a role changes is not disposed of
      changed_lives : (change : Block → Block) → ((b : Block) → (change b).presence ≡ b.presence) → (before new : Block) → changed change before ≡ Ok new
          → is_disposed new.presence ≡ false
      changed_lives change keeps before new acts = by_change (changed_is change before new acts)
        where
          by_change : ((new ≡ change before) × (before.presence ≡ presence.Present)) ⊎ ((new ≡ before) × (before.presence ≡ presence.Emptied))
              → is_disposed new.presence ≡ false
          by_change (inl so) = ap (λ b. is_disposed b.presence) so.0 ∙ ap is_disposed (keeps before ∙ so.1)
          by_change (inr so) = ap (λ b. is_disposed b.presence) so.0 ∙ ap is_disposed so.1

      -- from what it gives for the number that it leaves
      with_number : (R : MustFact → Type 0) (r : Role) (m : ℕ) → v ≡ number m
          → AllTrue (GivenByRole scope here.function.code R (Some r) false first)
          (moved here (suc here.at) (number m ∷ below count here.stack) (λ k. here.lasting k && steady_in s.machine after k)) after marked_by
          → AllTrue (GivenByRole scope here.function.code R (Some r) false first) next after marked_by
      with_number R r m gives are =
          subst (λ w. AllTrue (GivenByRole scope here.function.code R (Some r) false first)
          (moved here (suc here.at) (w ∷ below count here.stack) (λ k. here.lasting k && steady_in s.machine after k)) after marked_by) (sym gives) are

      number_role : (r : Role) (values : List Value) → role_value r values s.machine ≡ number 0
          → as_kind (number_kind program.setting.types prototype.result) (role_value r values s.machine) ≡ v → (m : ℕ) × (v ≡ number m)
      number_role r values is_number gives = (
        (number_of (number_kind program.setting.types prototype.result) 0).0,
        sym gives ∙ ap (as_kind (number_kind program.setting.types prototype.result)) is_number
            ∙ (number_of (number_kind program.setting.types prototype.result) 0).1,
      )

      -- a lock changes no cell, and so on
      lock_leaves : (z : Bool) (k : ℕ) (block : Block) → Cells k block.cells → LeavesCells k (with_lock z block)
      lock_leaves z k block are = changed_leaves k (λ its. record its { locked = z }) block are are

      dispose_leaves : (k : ℕ) (block : Block) → Cells k block.cells → LeavesCells k (disposed block)
      dispose_leaves k block are = standing_leaves k (ended block) (ended block) (standing block.presence) tt tt

      state_leaves : (byte k : ℕ) (block : Block) → Cells k block.cells → LeavesCells k (with_state byte block)
      state_leaves byte k block are =
          changed_leaves k (λ its. record its { locked = nat_le 128 byte; purgeable = nat_le 64 (byte % 128) }) block are are

      pub lock_sound : it.routine.role ≡ role.Lock → Sound
      lock_sound so = on (lock_argument s (taken count here.stack) (done_here role.Lock so refl).0)
        where
          on : One s (with_lock true) (taken count here.stack) → Sound
          on one = facts_here role.Lock so refl (λ R are. by_taken R are (taken_handle Block (with_lock true) one.0 s.machine one.2) gives)
            where
              gives : (m : ℕ) × (v ≡ number m)
              gives = number_role role.Lock (taken count here.stack) refl (done_here role.Lock so refl).1

              now : changed_by (with_lock true) (pointer_in one.0) s.machine ≡ after
              now = ap (λ vs. role_machine role.Lock vs s.machine) (sym one.1) ∙ (done_here role.Lock so refl).2

              by_taken : (R : MustFact → Type 0) → AllTrue R here s.machine marked_by → (one.0 ≡ pointer Nil) ⊎ Taken Block (with_lock true) one.0 s.machine
                  → (m : ℕ) × (v ≡ number m) → AllTrue (GivenByRole scope here.function.code R (Some role.Lock) false first) next after marked_by
              by_taken R are (inl nil) got =
                  nil_lock R are one.0 (one_taken count here.stack one.0 held one.1) nil
                  (nil_heap (same_if_nil (with_lock true) (lock_leaves true) one.0 now nil))
              by_taken R are (inr t) got =
                  with_number R role.Lock got.0 got.1
                  (lock_true scope here.function.code R first here s.machine after marked_by are (suc here.at) count t.n t.before t.new refl
                  (one_taken count here.stack one.0 held one.1 ∙ ap Some t.handle) (one_of (with_lock true) (lock_leaves true) one.0 now t) got.0 t.acts
                  (changed_lives (λ its. record its { locked = true }) (λ b. refl) t.before t.new t.acts))

      pub unlock_sound : it.routine.role ≡ role.Unlock → Sound
      unlock_sound so = on (unlock_argument s (taken count here.stack) (done_here role.Unlock so refl).0)
        where
          on : One s (with_lock false) (taken count here.stack) → Sound
          on one = facts_here role.Unlock so refl (λ R are. by_taken R are (taken_handle Block (with_lock false) one.0 s.machine one.2) gives)
            where
              gives : (m : ℕ) × (v ≡ number m)
              gives = number_role role.Unlock (taken count here.stack) refl (done_here role.Unlock so refl).1

              now : changed_by (with_lock false) (pointer_in one.0) s.machine ≡ after
              now = ap (λ vs. role_machine role.Unlock vs s.machine) (sym one.1) ∙ (done_here role.Unlock so refl).2

              by_taken : (R : MustFact → Type 0) → AllTrue R here s.machine marked_by → (one.0 ≡ pointer Nil) ⊎ Taken Block (with_lock false) one.0 s.machine
                  → (m : ℕ) × (v ≡ number m) → AllTrue (GivenByRole scope here.function.code R (Some role.Unlock) false first) next after marked_by
              by_taken R are (inl nil) got =
                  nil_true R are one.0 (one_taken count here.stack one.0 held one.1) nil
                  (nil_heap (same_if_nil (with_lock false) (lock_leaves false) one.0 now nil)) role.Unlock (λ fact it. it)
              by_taken R are (inr t) got =
                  with_number R role.Unlock got.0 got.1
                  (unlock_true scope here.function.code R first here s.machine after marked_by are (suc here.at) count t.n t.before t.new refl
                  (one_taken count here.stack one.0 held one.1 ∙ ap Some t.handle) (one_of (with_lock false) (lock_leaves false) one.0 now t) got.0
                  (changed_lives (λ its. record its { locked = false }) (λ b. refl) t.before t.new t.acts))

      same_block : (a b : Block) → ◌≡◌ {A = Result Block HeapStop} (Ok a) (Ok b) → a ≡ b
      same_block a b so = cc

      -- a block that is disposed of has ended
      ended_is : (before new : Block) → disposed before ≡ Ok new → new ≡ ended before
      ended_is before new acts = by_presence before.presence acts
        where
          by_presence : (it : Presence) → by_standing (ended before) (ended before) (standing it) ≡ Ok new → new ≡ ended before
          by_presence presence.Present so = sym (same_block (ended before) new so)
          by_presence presence.Emptied so = sym (same_block (ended before) new so)
          by_presence presence.Purged so = absurd cc
          by_presence presence.Disposed so = absurd cc

      pub dispose_sound : it.routine.role ≡ role.DisposeHandle → Sound
      dispose_sound so = on (dispose_handle_argument s (taken count here.stack) (done_here role.DisposeHandle so refl).0)
        where
          on : One s disposed (taken count here.stack) → Sound
          on one = facts_here role.DisposeHandle so refl (λ R are. by_taken R are (taken_handle Block disposed one.0 s.machine one.2) gives)
            where
              gives : (m : ℕ) × (v ≡ number m)
              gives = number_role role.DisposeHandle (taken count here.stack) refl (done_here role.DisposeHandle so refl).1

              now : changed_by disposed (pointer_in one.0) s.machine ≡ after
              now = ap (λ vs. role_machine role.DisposeHandle vs s.machine) (sym one.1) ∙ (done_here role.DisposeHandle so refl).2

              by_taken : (R : MustFact → Type 0) → AllTrue R here s.machine marked_by → (one.0 ≡ pointer Nil) ⊎ Taken Block disposed one.0 s.machine
                  → (m : ℕ) × (v ≡ number m) → AllTrue (GivenByRole scope here.function.code R (Some role.DisposeHandle) false first) next after marked_by
              by_taken R are (inl nil) got =
                  nil_true R are one.0 (one_taken count here.stack one.0 held one.1) nil (nil_heap (same_if_nil disposed dispose_leaves one.0 now nil))
                  role.DisposeHandle (λ fact it. it)
              by_taken R are (inr t) got =
                  with_number R role.DisposeHandle got.0 got.1
                  (dispose_true scope here.function.code R first here s.machine after marked_by are (suc here.at) count t.n t.before t.new refl
                  (one_taken count here.stack one.0 held one.1 ∙ ap Some t.handle) (one_of disposed dispose_leaves one.0 now t) got.0
                  (ended_is t.before t.new t.acts))

      -- ---- set_state

      -- the block of a state byte that is put on a handle
      pub record PutOn : Type 0 where
        pub n : ℕ
        pub byte : ℕ
        pub before : Block
        pub new : Block
        pub handle : at_place first here.stack ≡ Some (pointer (Handle n))
        pub saved : at_place (suc first) here.stack ≡ Some (state byte)
        pub one : OneBlock s.machine after n before new
        pub acts : with_state byte before ≡ Ok new

      state_is : (b : Value) → state_stop b ≡ None → b ≡ state (state_in b)
      state_is (number bits) so = absurd cc
      state_is (pointer q) so = absurd cc
      state_is (state byte) so = refl
      state_is (structure cells) so = absurd cc

      first_none : (why : Option Stop) (rest : Stops) → first_stop (why ∷ rest) ≡ None → why ≡ None
      first_none None rest so = refl
      first_none (Some why) rest so = so

      -- NIL, or a block whose byte is put back
      pub put_on : it.routine.role ≡ role.SetState
          → ((a : Value) × (at_place first here.stack ≡ Some a) × (a ≡ pointer Nil) × (s.machine ≡ after)) ⊎ PutOn
      put_on so = on (set_state_argument s (taken count here.stack) (done_here role.SetState so refl).0)
        where
          on : Two s (λ b. with_state (state_in b)) (taken count here.stack)
              → ((a : Value) × (at_place first here.stack ≡ Some a) × (a ≡ pointer Nil) × (s.machine ≡ after)) ⊎ PutOn
          on two = by_taken (taken_handle Block (with_state (state_in two.1)) two.0 s.machine two.3)
            where
              now : changed_by (with_state (state_in two.1)) (pointer_in two.0) s.machine ≡ after
              now = ap (λ vs. role_machine role.SetState vs s.machine) (sym two.2) ∙ (done_here role.SetState so refl).2

              byte_is : two.1 ≡ state (state_in two.1)
              byte_is =
                  state_is two.1 (first_none (state_stop two.1) (handle_stops (with_state (state_in two.1)) two.0 s.machine)
                  (ap (λ vs. first_stop (role_stops role.SetState vs s.machine)) (sym two.2) ∙ (done_here role.SetState so refl).0))

              by_taken : (two.0 ≡ pointer Nil) ⊎ Taken Block (with_state (state_in two.1)) two.0 s.machine
                  → ((a : Value) × (at_place first here.stack ≡ Some a) × (a ≡ pointer Nil) × (s.machine ≡ after)) ⊎ PutOn
              by_taken (inl nil) =
                  inl (
                    two.0,
                    (two_taken count here.stack two.0 two.1 held two.2).0,
                    nil,
                    same_if_nil (with_state (state_in two.1)) (state_leaves (state_in two.1)) two.0 now nil,
                  )
              by_taken (inr t) =
                  inr (record {
                    n = t.n;
                    byte = state_in two.1;
                    before = t.before;
                    new = t.new;
                    handle = (two_taken count here.stack two.0 two.1 held two.2).0 ∙ ap Some t.handle;
                    saved = (two_taken count here.stack two.0 two.1 held two.2).1 ∙ ap Some byte_is;
                    one = one_of (with_state (state_in two.1)) (state_leaves (state_in two.1)) two.0 now t;
                    acts = t.acts;
                  })

      pub set_state_sound : it.routine.role ≡ role.SetState → Sound
      set_state_sound so = facts_here role.SetState so refl (λ R are. by_put R are (put_on so) gives)
        where
          gives : (m : ℕ) × (v ≡ number m)
          gives = number_role role.SetState (taken count here.stack) refl (done_here role.SetState so refl).1

          by_put : (R : MustFact → Type 0) → AllTrue R here s.machine marked_by
              → ((a : Value) × (at_place first here.stack ≡ Some a) × (a ≡ pointer Nil) × (s.machine ≡ after)) ⊎ PutOn
              → (m : ℕ) × (v ≡ number m) → AllTrue (GivenByRole scope here.function.code R (Some role.SetState) false first) next after marked_by
          by_put R are (inl nil) got = nil_true R are nil.0 nil.1 nil.2 (nil_heap nil.3) role.SetState (λ fact it. it)
          by_put R are (inr put) got =
              with_number R role.SetState got.0 got.1
              (put_true scope here.function.code R first here s.machine after marked_by are (suc here.at) count put.n put.before put.new refl put.handle put.one
              put.byte got.0 put.saved put.acts
              (changed_lives (λ its. record its { locked = nat_le 128 put.byte; purgeable = nat_le 64 (put.byte % 128) }) (λ b. refl) put.before put.new
              put.acts))

      -- ---- realloc

      -- a block that a role may have changed
      pub record MayBeNew (n : ℕ) (before : Block) : Type 0 where
        pub new : Block
        pub one : OneBlock s.machine after n before new
        pub alive : is_disposed new.presence ≡ false

      same_one : (n : ℕ) (before : Block) (m : Machine) → block_at s.machine.blocks n ≡ Some before → m.blocks ≡ s.machine.blocks
          → m.globals ≡ s.machine.globals → m.locals ≡ s.machine.locals → ((k : ℕ) → Lacking k s.machine → Lacking k m) → OneBlock s.machine m n before before
      same_one n before m there blocks globals locals lacks =
          record {
            there = there;
            now = ap (λ bs. block_at bs n) blocks ∙ there;
            others = λ k other. ap (λ bs. block_at bs k) blocks;
            values = same_values;
            lacks = lacks;
          }
        where
          same_values : (x : Variable) → value_of m x ≡ value_of s.machine x
          same_values (name.Global g) = ap (λ gs. value_of_slot (slice_get gs g)) globals
          same_values (name.Local i) = ap (λ ls. value_of_slot (slice_get ls i)) locals

      from_asked : (n : ℕ) (before new : Block) (m : Machine) → OneBlock (asked s.machine) m n before new → OneBlock s.machine m n before new
      from_asked n before new m one =
          record {
            there = one.there;
            now = one.now;
            others = one.others;
            values = one_values;
            lacks = λ k are. one.lacks k (asked_lacks k s.machine are);
          }
        where
          one_values : (x : Variable) → value_of m x ≡ value_of s.machine x
          one_values (name.Global g) = one.values (name.Global g)
          one_values (name.Local i) = one.values (name.Local i)

      realloc_lives : (size : ℕ) (before new : Block) → reallocated size before ≡ Ok new → is_disposed new.presence ≡ false
      realloc_lives size before new acts = by_lock before.locked acts
        where
          by_presence : (it : Presence) → by_standing (renewed size before) (renewed size before) (standing it) ≡ Ok new → is_disposed new.presence ≡ false
          by_presence presence.Present so = ap (λ b. is_disposed b.presence) (sym (same_block (renewed size before) new so))
          by_presence presence.Emptied so = ap (λ b. is_disposed b.presence) (sym (same_block (renewed size before) new so))
          by_presence presence.Purged so = absurd cc
          by_presence presence.Disposed so = absurd cc

          by_lock : (z : Bool)
              → (if z then changed (λ its. its) before else by_standing (renewed size before) (renewed size before) (standing before.presence)) ≡ Ok new
              → is_disposed new.presence ≡ false
          by_lock true so = changed_lives (λ its. its) (λ b. refl) before new so
          by_lock false so = by_presence before.presence so

      module _ (size : Value) where
        realloc_nil : s.machine.blocks ≡ (if_granted size (reshaped_by has_life (reallocated (size_for size)) Nil) s.machine).blocks
        realloc_nil = by_test (is_granted size s.machine)
          where
            by_test : (z : Bool) → s.machine.blocks ≡ (if z then asked s.machine else asked s.machine).blocks
            by_test true = refl
            by_test false = refl

        renewed_one : (n : ℕ) (before new : Block) → block_at s.machine.blocks n ≡ Some before → reallocated (size_for size) before ≡ Ok new
            → if_granted size (reshaped_by has_life (reallocated (size_for size)) (Handle n)) s.machine ≡ after → MayBeNew n before
        renewed_one n before new there acts now = by_grant (is_granted size s.machine) now
          where
            stays : asked s.machine ≡ after → MayBeNew n before
            stays same =
                record {
                  new = before;
                  one = subst (λ m. OneBlock s.machine m n before before) same
                      (same_one n before (asked s.machine) there refl refl refl (λ k are. asked_lacks k s.machine are));
                  alive = realloc_alive (size_for size) before new acts;
                }

            changes : with_result n (reallocated (size_for size) before) (asked s.machine) ≡ after → MayBeNew n before
            changes same =
                record {
                  new = new;
                  one = from_asked n before new after
                      (subst (λ m. OneBlock (asked s.machine) m n before new)
                      (ap (λ found. changed_in (reallocated (size_for size)) n found (asked s.machine)) there ∙ same)
                      (changed_one (reallocated (size_for size)) (asked s.machine) n before new there acts
                      (λ k block are. reallocated_leaves k (size_for size) block are)));
                  alive = realloc_lives (size_for size) before new acts;
                }

            by_room : (z : Bool)
                → (if z then with_result n (reallocated (size_for size) before) (asked s.machine) else asked s.machine) ≡ after → MayBeNew n before
            by_room true same = changes same
            by_room false same = stays same

            by_grant : (z : Bool)
                → (if z then reshaped_by has_life (reallocated (size_for size)) (Handle n) (asked s.machine) else asked s.machine) ≡ after → MayBeNew n before
            by_grant false same = stays same
            by_grant true same =
                by_room (has_life before && has_room_after n (reallocated (size_for size) before) (asked s.machine))
                (sym (ap (λ found. reshaped_in has_life (reallocated (size_for size)) n found (asked s.machine)) there) ∙ same)

      pub realloc_sound : it.routine.role ≡ role.Realloc → Sound
      realloc_sound so = on (realloc_argument s (taken count here.stack) (done_here role.Realloc so refl).0)
        where
          on : Two s (λ b. reallocated (size_for b)) (taken count here.stack) → Sound
          on two = facts_here role.Realloc so refl (λ R are. by_taken R are (taken_handle Block (reallocated (size_for two.1)) two.0 s.machine two.3) gives)
            where
              gives : (m : ℕ) × (v ≡ number m)
              gives = number_role role.Realloc (taken count here.stack) refl (done_here role.Realloc so refl).1

              now : (a : Value) → two.0 ≡ a → if_granted two.1 (reshaped_by has_life (reallocated (size_for two.1)) (pointer_in a)) s.machine ≡ after
              now a same =
                  ap (λ q. role_machine role.Realloc (q ∷ two.1 ∷ []) s.machine) (sym same)
                  ∙ ap (λ vs. role_machine role.Realloc vs s.machine) (sym two.2) ∙ (done_here role.Realloc so refl).2

              by_taken : (R : MustFact → Type 0) → AllTrue R here s.machine marked_by
                  → (two.0 ≡ pointer Nil) ⊎ Taken Block (reallocated (size_for two.1)) two.0 s.machine → (m : ℕ) × (v ≡ number m)
                  → AllTrue (GivenByRole scope here.function.code R (Some role.Realloc) false first) next after marked_by
              by_taken R are (inl nil) got =
                  nil_true R are two.0 (two_taken count here.stack two.0 two.1 held two.2).0 nil
                  (subst (Since nothing s.machine.blocks) (realloc_nil two.1 ∙ ap (λ m. m.blocks) (now (pointer Nil) nil))
                  (since_refl nothing s.machine.blocks)) role.Realloc (λ fact it. it)
              by_taken R are (inr t) got = on_new (renewed_one two.1 t.n t.before t.new t.there t.acts (now (pointer (Handle t.n)) t.handle))
                where
                  on_new : MayBeNew t.n t.before
                      → AllTrue (GivenByRole scope here.function.code R (Some role.Realloc) false first) next after marked_by
                  on_new may_be =
                      with_number R role.Realloc got.0 got.1
                      (realloc_true scope here.function.code R first here s.machine after marked_by are (suc here.at) count t.n t.before may_be.new refl
                      ((two_taken count here.stack two.0 two.1 held two.2).0 ∙ ap Some t.handle) may_be.one got.0 may_be.alive)

      -- ---- get_state

      marked_at : (n : ℕ) (before : Block) → block_at s.machine.blocks n ≡ Some before → is_marked before ≡ true → since_of may sets here.fn ws n
      marked_at n before there marked = by_waits ws good.linked
        where
          by_waits : (vs : List Wait) → IsLinked may sets here s.machine vs → since_of may sets here.fn vs n
          by_waits [] link = tt
          by_waits (w ∷ vs) link = marked_since may sets here s.machine w vs n before link there marked

      pub get_state_sound : it.routine.role ≡ role.GetState → Sound
      get_state_sound so = on (get_state_argument s (taken count here.stack) (done_here role.GetState so refl).0)
        where
          on : One s state_of (taken count here.stack) → Sound
          on one = facts_here role.GetState so refl (λ R are. by_taken R are (taken_handle ℕ state_of one.0 s.machine one.2))
            where
              same : s.machine ≡ after
              same = ap (λ vs. role_machine role.GetState vs s.machine) (sym one.1) ∙ (done_here role.GetState so refl).2

              gives : state (answer_by state_of (pointer_in one.0) s.machine) ≡ v
              gives =
                  ap (λ vs. as_kind (number_kind program.setting.types prototype.result) (role_value role.GetState vs s.machine)) (sym one.1)
                  ∙ (done_here role.GetState so refl).1

              by_taken : (R : MustFact → Type 0) → AllTrue R here s.machine marked_by → (one.0 ≡ pointer Nil) ⊎ Taken ℕ state_of one.0 s.machine
                  → AllTrue (GivenByRole scope here.function.code R (Some role.GetState) false first) next after marked_by
              by_taken R are (inl nil) = nil_get R are one.0 (one_taken count here.stack one.0 held one.1) nil (nil_heap same)
              by_taken R are (inr t) =
                  subst (λ w. AllTrue (GivenByRole scope here.function.code R (Some role.GetState) false first)
                  (moved here (suc here.at) (w ∷ below count here.stack) (λ k. here.lasting k && steady_in s.machine after k)) after marked_by) value_is
                  (get_true scope here.function.code R first here s.machine after marked_by are (suc here.at) count t.n t.before t.before refl
                  (one_taken count here.stack one.0 held one.1 ∙ ap Some t.handle)
                  (subst (λ m. OneBlock s.machine m t.n t.before t.before) same
                  (same_one t.n t.before s.machine t.there refl refl refl (λ k are. are)))
                  t.new (state_alive t.before t.new t.acts) t.acts refl (marked_at t.n t.before t.there))
                where
                  value_is : state t.new ≡ v
                  value_is =
                      ap state (sym (ap (λ found. answer_of_block state_of found) t.there ∙ ap answer_in t.acts))
                      ∙ ap (λ q. state (answer_by state_of (pointer_in q) s.machine)) (sym t.handle) ∙ gives
