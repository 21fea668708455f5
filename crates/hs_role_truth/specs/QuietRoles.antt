-- What is left to show of the call of a routine: roles that unlock nothing and dispose of nothing (own).
--     size_sound, set_size_sound, ..      what each such role gives is true
--     new_handle_sound, plain_sound       routines that make a handle
use Rattle.std.proofs.Common.{◌≡◌, ◌⊎◌, inl, inr, ℕ, suc, Bool, true, false, List, [], ◌∷◌, length, Some, None, refl, sym, ap, ◌∙◌, subst, arith, ◌+◌, slice_get, Result, Ok}
use Rattle.hs_calls.specs.Calls.{Here, Wait, point_of}
use Rattle.hs_calls.specs.Stacks.{Stays}
use Rattle.hs_code.specs.Stacks.{Scope, routine_signature, signature_of as signature_in}
use Rattle.hs_code.specs.declared.function_code.Placed.{Placed}
use Rattle.hs_code.specs.declared.op.Op.TheVariants as op
use Rattle.hs_code_run.specs.Codes.{CodeProgram, scope_of, Point}
use Rattle.hs_code_run.specs.Steps.{taken, below, holds}
use Rattle.hs_facts.specs.Changes.{Impact, BroughtByRole}
use Rattle.hs_facts.specs.MustFacts.{MustFact}
use Rattle.hs_facts.specs.Names.{makes_by, gives_handle, uses_handle, points_to_pointer}
use Rattle.hs_heap.specs.Blocks.{Block, new_block, size_of, with_purge_bit, emptied, resized, is_disposed}
use Rattle.hs_heap.specs.declared.cell.Pointer.TheVariants.{Nil, Handle}
use Rattle.hs_heap.specs.declared.stop.HeapStop.{HeapStop}
use Rattle.hs_hiding.specs.Holding.{Lacking, IsMade, Gets, Lacks, IsAlive, OnDone}
use Rattle.hs_hiding.specs.Operations.{operate_hands}
use Rattle.hs_meaning.specs.Handles.{size_for, handle_if, with_block, asked, makes_block}
use Rattle.hs_meaning.specs.Machine.{Machine, done}
use Rattle.hs_meaning.specs.Operations as operation
use Rattle.hs_meaning.specs.Operations.{called_by, as_kind, is_plain}
use Rattle.hs_meaning.specs.Plain.{plain}
use Rattle.hs_meaning.specs.Roles.{role_stops, role_value, role_machine}
use Rattle.hs_meaning.specs.Steps.{State}
use Rattle.hs_meaning.specs.Stops.{first_stop}
use Rattle.hs_meaning.specs.Values.{Value, pointer}
use Rattle.hs_meaning.specs.declared.outcome.Outcome.{Outcome}
use Rattle.hs_meaning.specs.declared.outcome.Stop.TheVariants as stop
use Rattle.hs_role_truth.specs.Arguments.{changed_alive, two_taken, resized_alive, size_alive, emptied_alive, handle_alive, one_taken}
use Rattle.hs_role_truth.specs.PlainMade.{new_alive, plain_made, IsMadeOf}
use Rattle.hs_role_truth.specs.RoleArguments.{empty_argument, Two, purge_argument, get_size_argument, One, no_purge_argument, set_size_argument}
use Rattle.hs_role_truth.specs.RoleFacts.{made_true, called_runs, role_facts, used_true, role_since, Runs, role_runs}
use Rattle.hs_role_truth.specs.Roles.{GivenByRole}
use Rattle.hs_sound_heap.specs.Roles.{effects_of}
use Rattle.hs_sound_heap.specs.Since.{May, Since}
use Rattle.hs_table.specs.declared.role.Role.{Role}
use Rattle.hs_table.specs.declared.role.Role.TheVariants as role
use Rattle.hs_tree.specs.Kinds.{number_kind}
use Rattle.hs_tree.specs.declared.function.BoundRoutine.{BoundRoutine}
use Rattle.hs_tree.specs.declared.function.Prototype.{Prototype}
use Rattle.hs_truth.specs.Good.{no_next_block, Good}
use Rattle.hs_truth.specs.Linked.{since_of, Without}
use Rattle.hs_truth.specs.Places.{all_taken, at_place}
use Rattle.hs_truth.specs.Truth.{AllTrue, SoundAt}
use Rattle.hs_truth.specs.Values.{done_of, next_value}

module _ (program : CodeProgram) (may : ℕ → May) (sets : ℕ → ℕ → Bool) (impact : Impact) (E : Outcome → State → Type 0)
    (ends : (outcome : Outcome) (s : State) → E outcome s) (here : Here) (ws : List Wait) (choices : List Bool) (its : Placed) (s : State)
    (good : Good program may sets impact here s.machine ws) (there : slice_get here.function.code.ops here.at ≡ Some its)
    (deep : its.places ≡ length here.stack) where
  -- the point of the operation
  abbrev point : Point
  point = point_of here ws choices

  -- what facts of the function depend on
  abbrev scope : Scope
  scope = scope_of program here.function

  -- what a purgeable bit shows of the begin of the call
  abbrev marked_by : ℕ → Type 0
  marked_by = since_of may sets here.fn ws

  -- the call goes on
  abbrev GoesOn : Point → State → Type 0
  GoesOn = Stays program (Good program may sets impact) E here s.machine ws

  module _ (p : ℕ) (is : its.op ≡ op.Routine p) (it : BoundRoutine) (found : slice_get program.setting.routines p ≡ Some it) (prototype : Prototype)
      (proto : it.prototype ≡ Some prototype) (held : holds (length prototype.parameters) here.stack ≡ true) where
    -- how many arguments it takes
    abbrev count : ℕ
    count = length prototype.parameters

    -- the place of the first one
    abbrev first : ℕ
    first = length (below count here.stack)

    module _ (v : Value) (after : Machine)
        (ran : Runs program may sets impact E ends here ws choices its s good there deep p is it found prototype proto held v after) where
      -- the call after it
      abbrev next : Here
      next = next_value program may sets impact here ws its (operation.routine p) count s.machine good v after ran

      -- what it owes
      abbrev pub Sound : Type 1
      Sound = SoundAt scope here.function.code impact marked_by its here s.machine next after

      -- what the role gives
      abbrev pub GivesTrue : (MustFact → Type 0) → Role → Bool → Type 0
      GivesTrue R r makes = AllTrue (GivenByRole scope here.function.code R (Some r) makes first) next after marked_by

      -- from what the role gives, if it makes no handle
      pub by_facts : (r : Role) → it.routine.role ≡ r
          → makes_by (Some r) (gives_handle program.setting.types (routine_signature (slice_get program.setting.routines p))) ≡ false
          → ((R : MustFact → Type 0) → AllTrue R here s.machine marked_by → GivesTrue R r false) → Sound
      by_facts r so none true_ R names are =
          role_facts program may sets impact E ends here ws choices its s good there deep p is it found prototype proto held R r false so none next after
          (true_ R are)

      -- why it does not stop, what it gives, and the machine after it
      pub done_role : (r : Role) → it.routine.role ≡ r → is_plain r ≡ false
          → (first_stop (role_stops r (taken count here.stack) s.machine) ≡ None)
          × (as_kind (number_kind program.setting.types prototype.result) (role_value r (taken count here.stack) s.machine) ≡ v)
          × (role_machine r (taken count here.stack) s.machine ≡ after)
      done_role r so plain =
          done_of (role_stops r (taken count here.stack) s.machine)
          (as_kind (number_kind program.setting.types prototype.result) (role_value r (taken count here.stack) s.machine))
          (role_machine r (taken count here.stack) s.machine) s.machine v after
          (role_runs program may sets impact E ends here ws choices its s good there deep p is it found prototype proto held r so plain v after ran)

      since_role : (r : Role) → it.routine.role ≡ r → Since (effects_of r) s.machine.blocks after.blocks
      since_role r so =
          subst (λ r. Since (effects_of r) s.machine.blocks after.blocks) so
          (role_since program may sets impact E ends here ws choices its s good there deep p is it found prototype proto held v after ran)

      -- the only argument of a role that takes a handle
      pub one_handle : {A : Type 0} → (act : Block → Result A HeapStop) → ((b : Block) (x : A) → act b ≡ Ok x → is_disposed b.presence ≡ false)
          → One s act (taken count here.stack)
          → (a : Value) × (at_place first here.stack ≡ Some a) × ((n : ℕ) → a ≡ pointer (Handle n) → IsAlive s.machine n)
      one_handle act alive one =
          (one.0, one_taken count here.stack one.0 held one.1, λ n handle. handle_alive act alive one.0 s.machine one.2 n handle)

      pub two_handles : (act : Value → Block → Result Block HeapStop)
          → ((b : Value) (block x : Block) → act b block ≡ Ok x → is_disposed block.presence ≡ false)
          → Two s act (taken count here.stack)
          → (a : Value) × (at_place first here.stack ≡ Some a) × ((n : ℕ) → a ≡ pointer (Handle n) → IsAlive s.machine n)
      two_handles act alive two = (
        two.0,
        (two_taken count here.stack two.0 two.1 held two.2).0,
        λ n handle. handle_alive (act two.1) (alive two.1) two.0 s.machine two.3 n handle,
      )

      -- ---- roles that are not in the table, or bring only that their handle is live

      quiet_sound : (r : Role) → it.routine.role ≡ r → (effects_of r).unlocks ≡ false → (effects_of r).disposes ≡ false
          → makes_by (Some r) (gives_handle program.setting.types (routine_signature (slice_get program.setting.routines p))) ≡ false
          → ((R : MustFact → Type 0) (fact : MustFact) → BroughtByRole R (Some r) first fact → ⊥)
          → (uses_handle (Some r) ≡ true
          → (a : Value) × (at_place first here.stack ≡ Some a) × ((n : ℕ) → a ≡ pointer (Handle n) → IsAlive s.machine n)) → Sound
      quiet_sound r so no_unlocks no_disposes makes none arg =
          by_facts r so makes
          (λ R are. used_true program may sets impact E ends here ws choices its s good there deep p is it found prototype proto held v after ran R are r
          (effects_of r) (since_role r so) no_unlocks no_disposes (none R) arg)

      pub size_sound : it.routine.role ≡ role.GetSize → Sound
      size_sound so =
          quiet_sound role.GetSize so refl refl refl (λ R fact it. it)
          (λ uses. one_handle size_of size_alive (get_size_argument s (taken count here.stack) (done_role role.GetSize so refl).0))

      pub set_size_sound : it.routine.role ≡ role.SetSize → Sound
      set_size_sound so =
          quiet_sound role.SetSize so refl refl refl (λ R fact it. it)
          (λ uses. two_handles (λ b. resized (size_for b)) (λ b block x acts. resized_alive (size_for b) block x acts)
          (set_size_argument s (taken count here.stack) (done_role role.SetSize so refl).0))

      pub purge_sound : it.routine.role ≡ role.Purge → Sound
      purge_sound so =
          quiet_sound role.Purge so refl refl refl (λ R fact it. it)
          (λ uses. one_handle (with_purge_bit true) (changed_alive (λ its. record its { purgeable = true }))
          (purge_argument s (taken count here.stack) (done_role role.Purge so refl).0))

      pub no_purge_sound : it.routine.role ≡ role.NoPurge → Sound
      no_purge_sound so =
          quiet_sound role.NoPurge so refl refl refl (λ R fact it. it)
          (λ uses. one_handle (with_purge_bit false) (changed_alive (λ its. record its { purgeable = false }))
          (no_purge_argument s (taken count here.stack) (done_role role.NoPurge so refl).0))

      pub empty_sound : it.routine.role ≡ role.Empty → Sound
      empty_sound so =
          quiet_sound role.Empty so refl refl refl (λ R fact it. it)
          (λ uses. one_handle emptied emptied_alive (empty_argument s (taken count here.stack) (done_role role.Empty so refl).0))

      pub new_ptr_sound : it.routine.role ≡ role.NewPtr → Sound
      new_ptr_sound so = quiet_sound role.NewPtr so refl refl refl (λ R fact it. it) (λ uses. absurd cc)

      pub dispose_ptr_sound : it.routine.role ≡ role.DisposePtr → Sound
      dispose_ptr_sound so = quiet_sound role.DisposePtr so refl refl refl (λ R fact it. it) (λ uses. absurd cc)

      pub move_sound : it.routine.role ≡ role.BlockMove → Sound
      move_sound so = quiet_sound role.BlockMove so refl refl refl (λ R fact it. it) (λ uses. absurd cc)

      pub getchar_sound : it.routine.role ≡ role.Getchar → Sound
      getchar_sound so = quiet_sound role.Getchar so refl refl refl (λ R fact it. it) (λ uses. absurd cc)

      pub putchar_sound : it.routine.role ≡ role.Putchar → Sound
      putchar_sound so = quiet_sound role.Putchar so refl refl refl (λ R fact it. it) (λ uses. absurd cc)

      -- ---- routines that make a handle

      -- a handle that nothing has before the routine is new
      made_sound : (r : Role) → it.routine.role ≡ r → (effects_of r).unlocks ≡ false → (effects_of r).disposes ≡ false → uses_handle (Some r) ≡ false
          → ((R : MustFact → Type 0) (fact : MustFact) → BroughtByRole R (Some r) first fact → ⊥)
          → IsMadeOf (length s.machine.blocks + 1) v after → Sound
      made_sound r so no_unlocks no_disposes uses none made R names are =
          role_facts program may sets impact E ends here ws choices its s good there deep p is it found prototype proto held R r
          (makes_by (Some r) (gives_handle program.setting.types (routine_signature (slice_get program.setting.routines p)))) so refl next after
          (made_true program may sets impact E ends here ws choices its s good there deep p is it found prototype proto held v after ran R are r
          (effects_of r) (since_role r so) no_unlocks no_disposes
          (makes_by (Some r) (gives_handle program.setting.types (routine_signature (slice_get program.setting.routines p)))) uses (none R) (new_one made))
        where
          one_more : (a : ℕ) → a + 1 ≡ suc a
          one_more a = omega arith

          without : Without (length s.machine.blocks + 1) here s.machine
          without =
              good.known (length s.machine.blocks + 1)
              (λ e. no_next_block s.machine (subst (IsMade s.machine) (one_more (length s.machine.blocks)) e))

          lacking : Lacking (length s.machine.blocks + 1) after
          lacking =
              (subst (OnDone (Gets (length s.machine.blocks + 1) s.machine)) ran
              (operate_hands (length s.machine.blocks + 1) program.setting (operation.routine p) (taken count here.stack) s.machine
              (all_taken (Lacks (length s.machine.blocks + 1)) count here.stack [] without.places tt) without.nowhere)).1

          new_one : IsMadeOf (length s.machine.blocks + 1) v after
              → (v ≡ pointer Nil) ⊎ ((n : ℕ) × (v ≡ pointer (Handle n)) × IsAlive after n × Without n here s.machine × Lacking n after)
          new_one (inl nil) = inl nil
          new_one (inr made) = inr (length s.machine.blocks + 1, made.0, made.1, without, lacking)

      pub new_handle_sound : it.routine.role ≡ role.NewHandle → Sound
      new_handle_sound so =
          made_sound role.NewHandle so refl refl refl (λ R fact it. it) (by_values (taken count here.stack) (done_role role.NewHandle so refl))
        where
          by_room : (size : Value) (z : Bool)
              → as_kind (number_kind program.setting.types prototype.result) (handle_if z s.machine) ≡ v
              → with_block z (size_for size) (asked s.machine) ≡ after → IsMadeOf (length s.machine.blocks + 1) v after
          by_room size true gives now =
              inr (
                sym gives,
                new_alive s.machine.blocks (new_block (size_for size)) after refl (ap (λ m. m.blocks) (sym now)),
              )
          by_room size false gives now = inl (sym gives)

          by_values : (values : List Value)
              → (first_stop (role_stops role.NewHandle values s.machine) ≡ None)
              × (as_kind (number_kind program.setting.types prototype.result) (role_value role.NewHandle values s.machine) ≡ v)
              × (role_machine role.NewHandle values s.machine ≡ after) → IsMadeOf (length s.machine.blocks + 1) v after
          by_values (size ∷ []) d = by_room size (makes_block size s.machine) d.1 d.2
          by_values [] d = absurd (some_stop d.0)
            where
              some_stop : Some stop.BadPointer ≡ None → ⊥
              some_stop so = cc
          by_values (a ∷ b ∷ values) d = absurd (some_stop d.0)
            where
              some_stop : Some stop.BadPointer ≡ None → ⊥
              some_stop so = cc

      pub plain_sound : it.routine.role ≡ role.Plain → Sound
      plain_sound so = by_result (gives_handle program.setting.types (routine_signature (slice_get program.setting.routines p))) refl
        where
          gives_is : gives_handle program.setting.types (routine_signature (slice_get program.setting.routines p))
              ≡ points_to_pointer program.setting.types prototype.result
          gives_is =
              ap (λ f. gives_handle program.setting.types (routine_signature f)) found
              ∙ ap (λ q. gives_handle program.setting.types (signature_in q)) proto

          plain_runs : plain program.setting.types it.routine prototype (taken count here.stack) s.machine ≡ done v after
          plain_runs =
              sym (ap (λ z. called_by z program.setting.types it.routine prototype (taken count here.stack) s.machine) (ap is_plain so))
              ∙ called_runs program may sets impact E ends here ws choices its s good there deep p is it found prototype proto held v after ran

          by_result : (z : Bool) → gives_handle program.setting.types (routine_signature (slice_get program.setting.routines p)) ≡ z → Sound
          by_result true gives =
              made_sound role.Plain so refl refl refl (λ R fact it. it)
              (plain_made program.setting.types it.routine prototype (taken count here.stack) s.machine v after (sym gives_is ∙ gives) plain_runs)
          by_result false gives = quiet_sound role.Plain so refl refl gives (λ R fact it. it) (λ uses. absurd cc)
