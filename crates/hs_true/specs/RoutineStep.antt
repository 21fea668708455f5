-- The step of a routine, by its role (own).
--     MayRun            the effects of the function have those of the role, or the state byte was read from its handle
--     routine_goes      the step
use Rattle.std.proofs.Common.{◌≡◌, ◌-◌, ◌⊎◌, inl, inr, ℕ, suc, Bool, true, false, List, ◌∷◌, length, Option, Some, None, refl, sym, ap, ◌∙◌, subst, ◌&&◌, slice_get}
use Rattle.hs_calls.specs.Calls.{Here, moved, Wait, point_of, steady_in}
use Rattle.hs_calls.specs.Changing.{since}
use Rattle.hs_calls.specs.Stacks.{RanTo, Stays}
use Rattle.hs_code.specs.Following.{IsNext}
use Rattle.hs_code.specs.Stacks.{Scope}
use Rattle.hs_code.specs.declared.function_code.Placed.{Placed}
use Rattle.hs_code.specs.declared.op.Op.TheVariants as op
use Rattle.hs_code_run.specs.Codes.{CodeProgram, scope_of, Point}
use Rattle.hs_code_run.specs.Steps.{taken, below, holds, operates_if, onward, routine_called, routine_arguments, operates, arguments_of}
use Rattle.hs_facts.specs.Changes.{Impact, IsRestore}
use Rattle.hs_facts.specs.Names.{taken as taken_by}
use Rattle.hs_facts.specs.Rounds.{HoldsIn}
use Rattle.hs_heap.specs.declared.cell.Pointer.TheVariants.{Nil, Handle}
use Rattle.hs_meaning.specs.Laws.Changes.Operations.{SpeaksOfRoutine}
use Rattle.hs_meaning.specs.Machine.{Machine, Done, done, stopped}
use Rattle.hs_meaning.specs.Operations as operation
use Rattle.hs_meaning.specs.Operations.{operate}
use Rattle.hs_meaning.specs.Steps.{State, then_with, ran_at, give}
use Rattle.hs_meaning.specs.Values.{Value, pointer, state}
use Rattle.hs_meaning.specs.declared.outcome.Outcome.{Outcome}
use Rattle.hs_role_truth.specs.HandleRoles.{dispose_sound, lock_sound, unlock_sound, put_on, set_state_sound, get_state_sound, realloc_sound, PutOn}
use Rattle.hs_role_truth.specs.QuietRoles.{set_size_sound, empty_sound, dispose_ptr_sound, no_purge_sound, move_sound, size_sound, new_ptr_sound, new_handle_sound, purge_sound, putchar_sound, plain_sound, getchar_sound}
use Rattle.hs_role_truth.specs.Restores.{restore_heap, restore_steady}
use Rattle.hs_role_truth.specs.RoleFacts.{first_is, Runs}
use Rattle.hs_sound_heap.specs.Roles.{nothing, effects_of}
use Rattle.hs_sound_heap.specs.Since.{since_refl, May, Since, IsWithin}
use Rattle.hs_table.specs.declared.role.Role.{Role}
use Rattle.hs_table.specs.declared.role.Role.TheVariants as role
use Rattle.hs_tree.specs.declared.function.BoundRoutine.{BoundRoutine}
use Rattle.hs_tree.specs.declared.function.Prototype.{Prototype}
use Rattle.hs_truth.specs.Good.{Good}
use Rattle.hs_truth.specs.Linked.{since_of}
use Rattle.hs_truth.specs.Owing.{good_after, steady_since, operates_good}
use Rattle.hs_truth.specs.Places.{at_place}
use Rattle.hs_truth.specs.Truth.{SoundAt}
use Rattle.hs_truth.specs.Values.{next_value, globals_after}

module _ (program : CodeProgram) (may : ℕ → May) (sets : ℕ → ℕ → Bool) (impact : Impact) (E : Outcome → State → Type 0)
    (ends : (outcome : Outcome) (s : State) → E outcome s) (here : Here) (ws : List Wait) (choices : List Bool) (its : Placed) (s : State)
    (good : Good program may sets impact here s.machine ws) (there : slice_get here.function.code.ops here.at ≡ Some its)
    (deep : its.places ≡ length here.stack) where
  -- the point of the operation
  abbrev point : Point
  point = point_of here ws choices

  -- what facts of the function depend on
  abbrev scope : Scope
  scope = scope_of program here.function

  -- what a purgeable bit shows of the begin of the call
  abbrev marked_by : ℕ → Type 0
  marked_by = since_of may sets here.fn ws

  -- the call goes on
  abbrev GoesOn : Point → State → Type 0
  GoesOn = Stays program (Good program may sets impact) E here s.machine ws

  -- a routine may do what its role does, or it puts back a state byte that was read from its handle
  abbrev pub MayRun : ℕ → BoundRoutine → Type 0
  MayRun p it =
      IsWithin (effects_of it.routine.role) (may here.fn)
      ⊎ ((it.routine.role ≡ role.SetState)
      × ((round : ℕ) → IsRestore (HoldsIn scope here.function.code impact round here.at) (its.places - taken_by scope (op.Routine p))
      (suc (its.places - taken_by scope (op.Routine p)))))

  module _ (p : ℕ) (is : its.op ≡ op.Routine p) (it : BoundRoutine) (found : slice_get program.setting.routines p ≡ Some it) (prototype : Prototype)
      (proto : it.prototype ≡ Some prototype) (held : holds (length prototype.parameters) here.stack ≡ true) where
    -- how many arguments it takes
    abbrev count : ℕ
    count = length prototype.parameters

    follows : IsNext its.op here.function.code.cases here.at (suc here.at)
    follows = subst (λ o. IsNext o here.function.code.cases here.at (suc here.at)) (sym is) refl

    module _ (v : Value) (after : Machine)
        (ran : Runs program may sets impact E ends here ws choices its s good there deep p is it found prototype proto held v after) where
      -- what each role gives is true
      role_sound : (r : Role) → it.routine.role ≡ r
          → SoundAt scope here.function.code impact marked_by its here s.machine
          (next_value program may sets impact here ws its (operation.routine p) count s.machine good v after ran) after
      role_sound role.GetSize so =
          size_sound program may sets impact E ends here ws choices its s good there deep p is it found prototype proto held v after ran so
      role_sound role.SetSize so =
          set_size_sound program may sets impact E ends here ws choices its s good there deep p is it found prototype proto held v after ran so
      role_sound role.Purge so =
          purge_sound program may sets impact E ends here ws choices its s good there deep p is it found prototype proto held v after ran so
      role_sound role.NoPurge so =
          no_purge_sound program may sets impact E ends here ws choices its s good there deep p is it found prototype proto held v after ran so
      role_sound role.Empty so =
          empty_sound program may sets impact E ends here ws choices its s good there deep p is it found prototype proto held v after ran so
      role_sound role.NewPtr so =
          new_ptr_sound program may sets impact E ends here ws choices its s good there deep p is it found prototype proto held v after ran so
      role_sound role.DisposePtr so =
          dispose_ptr_sound program may sets impact E ends here ws choices its s good there deep p is it found prototype proto held v after ran so
      role_sound role.BlockMove so =
          move_sound program may sets impact E ends here ws choices its s good there deep p is it found prototype proto held v after ran so
      role_sound role.Getchar so =
          getchar_sound program may sets impact E ends here ws choices its s good there deep p is it found prototype proto held v after ran so
      role_sound role.Putchar so =
          putchar_sound program may sets impact E ends here ws choices its s good there deep p is it found prototype proto held v after ran so
      role_sound role.NewHandle so =
          new_handle_sound program may sets impact E ends here ws choices its s good there deep p is it found prototype proto held v after ran so
      role_sound role.Plain so =
          plain_sound program may sets impact E ends here ws choices its s good there deep p is it found prototype proto held v after ran so
      role_sound role.Lock so =
          lock_sound program may sets impact E ends here ws choices its s good there deep p is it found prototype proto held v after ran so
      role_sound role.Unlock so =
          unlock_sound program may sets impact E ends here ws choices its s good there deep p is it found prototype proto held v after ran so
      role_sound role.DisposeHandle so =
          dispose_sound program may sets impact E ends here ws choices its s good there deep p is it found prototype proto held v after ran so
      role_sound role.SetState so =
          set_state_sound program may sets impact E ends here ws choices its s good there deep p is it found prototype proto held v after ran so
      role_sound role.Realloc so =
          realloc_sound program may sets impact E ends here ws choices its s good there deep p is it found prototype proto held v after ran so
      role_sound role.GetState so =
          get_state_sound program may sets impact E ends here ws choices its s good there deep p is it found prototype proto held v after ran so

      globals : (g : ℕ) → sets here.fn g ≡ false → slice_get after.globals g ≡ slice_get s.machine.globals g
      globals = globals_after program may sets impact here ws its (operation.routine p) count s.machine good v after ran refl

      -- a state byte that is put back
      restored_good : it.routine.role ≡ role.SetState
          → ((round : ℕ) → IsRestore (HoldsIn scope here.function.code impact round here.at) (its.places - taken_by scope (op.Routine p))
          (suc (its.places - taken_by scope (op.Routine p))))
          → Good program may sets impact (moved here (suc here.at) (v ∷ below count here.stack) (λ k. here.lasting k && steady_in s.machine after k)) after ws
      restored_good so restores =
          by_put (put_on program may sets impact E ends here ws choices its s good there deep p is it found prototype proto held v after ran so)
        where
          first_here : its.places - taken_by scope (op.Routine p) ≡ length (below count here.stack)
          first_here = first_is program may sets impact E ends here ws choices its s good there deep p is it found prototype proto held

          by_put : ((a : Value) × (at_place (length (below count here.stack)) here.stack ≡ Some a) × (a ≡ pointer Nil) × (s.machine ≡ after))
              ⊎ PutOn program may sets impact E ends here ws choices its s good there deep p is it found prototype proto held v after ran
              → Good program may sets impact
              (moved here (suc here.at) (v ∷ below count here.stack) (λ k. here.lasting k && steady_in s.machine after k)) after ws
          by_put (inl nil) =
              good_after program may sets impact here ws its (operation.routine p) count s.machine good there follows v after ran globals
              (role_sound it.routine.role refl)
              (λ w vs first_one link. subst (λ m. Since (may here.fn) w.machine.blocks m.blocks) nil.3 link.heap)
              (λ w vs first_one link none n lasting. steady_since nothing s.machine after n
              (subst (λ m. Since nothing s.machine.blocks m.blocks) nil.3 (since_refl nothing s.machine.blocks)) refl (good.lasts n lasting))
          by_put (inr put) =
              good_after program may sets impact here ws its (operation.routine p) count s.machine good there follows v after ran globals
              (role_sound it.routine.role refl)
              (λ w vs first_one link.
              restore_heap program may sets impact here s.machine after w vs (subst (Good program may sets impact here s.machine) first_one good) link
              (its.places - taken_by scope (op.Routine p)) put.n put.byte put.before put.new put.one put.acts handle saved
              (restores (subst (Good program may sets impact here s.machine) first_one good).round))
              (λ w vs first_one link none k lasting.
              restore_steady program may sets impact here s.machine after w vs (subst (Good program may sets impact here s.machine) first_one good) link
              (its.places - taken_by scope (op.Routine p)) put.n put.byte put.before put.new put.one put.acts handle saved
              (restores (subst (Good program may sets impact here s.machine) first_one good).round) k lasting)
            where
              handle : at_place (its.places - taken_by scope (op.Routine p)) here.stack ≡ Some (pointer (Handle put.n))
              handle = ap (λ k. at_place k here.stack) first_here ∙ put.handle

              saved : at_place (suc (its.places - taken_by scope (op.Routine p))) here.stack ≡ Some (state put.byte)
              saved = ap (λ k. at_place (suc k) here.stack) first_here ∙ put.saved

    -- with its arguments
    called_goes : MayRun p it → RanTo E GoesOn (operates program its.at point count (operation.routine p) s)
    called_goes (inl within) =
        operates_good program may sets impact here ws its (operation.routine p) count s.machine good there follows E ends choices its.at s refl
        (subst (λ f. SpeaksOfRoutine (since (may here.fn)) f) (sym found) within)
        (λ v after ran. (globals v after ran, role_sound v after ran it.routine.role refl))
    called_goes (inr restores) = by_done (operate program.setting (operation.routine p) (taken count here.stack) s.machine) refl
      where
        by_done : (result : Done Value) → operate program.setting (operation.routine p) (taken count here.stack) s.machine ≡ result
            → RanTo E GoesOn (then_with (λ value. give (onward point (value ∷ below count here.stack))) (ran_at its.at s result))
        by_done (stopped why after) ran = ends _ _
        by_done (done v after) ran = (
          suc here.at,
          v ∷ below count here.stack,
          choices,
          refl,
          restored_good v after ran restores.0 restores.1,
        )

  -- the step of a routine
  pub routine_goes : (p : ℕ) → its.op ≡ op.Routine p → ((it : BoundRoutine) → slice_get program.setting.routines p ≡ Some it → MayRun p it)
      → RanTo E GoesOn (routine_called program its.at point p (routine_arguments (slice_get program.setting.routines p)) s)
  routine_goes p is told = by_routine (slice_get program.setting.routines p) refl
    where
      by_held : (it : BoundRoutine) → slice_get program.setting.routines p ≡ Some it → (prototype : Prototype) → it.prototype ≡ Some prototype → (b : Bool)
          → holds (length prototype.parameters) here.stack ≡ b
          → RanTo E GoesOn (operates_if program its.at point b (length prototype.parameters) (operation.routine p) s)
      by_held it found prototype proto true held = called_goes p is it found prototype proto held (told it found)
      by_held it found prototype proto false held = ends _ _

      by_prototype : (it : BoundRoutine) → slice_get program.setting.routines p ≡ Some it → (q : Option Prototype) → it.prototype ≡ q
          → RanTo E GoesOn (routine_called program its.at point p (arguments_of q) s)
      by_prototype it found None proto = ends _ _
      by_prototype it found (Some prototype) proto =
          by_held it found prototype proto (holds (length prototype.parameters) here.stack) refl

      by_routine : (found : Option BoundRoutine) → slice_get program.setting.routines p ≡ found
          → RanTo E GoesOn (routine_called program its.at point p (routine_arguments found) s)
      by_routine None found = ends _ _
      by_routine (Some it) found = by_prototype it found it.prototype refl
