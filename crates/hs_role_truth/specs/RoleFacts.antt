-- The call of a routine: what it does and what it gives, by its role (own).
--     role_runs, role_facts      by its role
--     used_true                  a role that brings at most that its handle is live
--     made_true                  a role that makes a handle
use Rattle.std.proofs.Common.{◌≡◌, ◌<◌, ◌≤◌, ◌-◌, ◌⊎◌, inl, inr, ℕ, suc, Bool, true, false, List, ◌∷◌, length, Some, refl, sym, ap, ◌∙◌, subst, arith, slice_get, true≢false}
use Rattle.hs_calls.specs.Calls.{Here, Wait, point_of}
use Rattle.hs_calls.specs.Changing.{since}
use Rattle.hs_calls.specs.Stacks.{Stays}
use Rattle.hs_code.specs.Stacks.{Scope, routine_signature, signature_of as signature_in}
use Rattle.hs_code.specs.declared.function_code.Placed.{Placed}
use Rattle.hs_code.specs.declared.op.Op.TheVariants as op
use Rattle.hs_code_run.specs.Codes.{CodeProgram, scope_of, Point}
use Rattle.hs_code_run.specs.Steps.{taken, below, holds}
use Rattle.hs_facts.specs.Changes as changes
use Rattle.hs_facts.specs.Changes.{Impact, UsedIf, BroughtByRole, MadeIf}
use Rattle.hs_facts.specs.MustFacts.{Keeper, MustFact, With, Saved, Kept, Locked, Live, Distinct, New, on_stack, AreNames}
use Rattle.hs_facts.specs.Names.{taken as taken_by, parameter_count, role_in, makes_by, gives_handle, uses_handle}
use Rattle.hs_heap.specs.declared.cell.Pointer.TheVariants.{Nil, Handle}
use Rattle.hs_hiding.specs.Blocks.{alive_since}
use Rattle.hs_hiding.specs.Holding.{Lacking, Lacks, value_of, IsAlive}
use Rattle.hs_meaning.specs.Accesses.{unless_stopped}
use Rattle.hs_meaning.specs.Laws.Changes.Operations.{SpeaksOfRoutine}
use Rattle.hs_meaning.specs.Machine.{Machine, done}
use Rattle.hs_meaning.specs.Operations as operation
use Rattle.hs_meaning.specs.Operations.{operate, called_by, called_as, called, as_kind, is_plain}
use Rattle.hs_meaning.specs.Roles.{role_stops, role_value, role_machine}
use Rattle.hs_meaning.specs.Steps.{State}
use Rattle.hs_meaning.specs.Values.{Value, pointer}
use Rattle.hs_meaning.specs.declared.outcome.Outcome.{Outcome}
use Rattle.hs_role_truth.specs.Roles.{GivenByRole, Brought, Keeps}
use Rattle.hs_sound_heap.specs.Roles.{effects_of}
use Rattle.hs_sound_heap.specs.Since.{May, Since}
use Rattle.hs_table.specs.declared.role.Role.{Role}
use Rattle.hs_tree.specs.Kinds.{number_kind}
use Rattle.hs_tree.specs.declared.function.BoundRoutine.{BoundRoutine}
use Rattle.hs_tree.specs.declared.function.Prototype.{Prototype}
use Rattle.hs_tree.specs.declared.head.Variable.{Variable}
use Rattle.hs_truth.specs.Bare.{of_op}
use Rattle.hs_truth.specs.Frames.{unsaid}
use Rattle.hs_truth.specs.Good.{Good}
use Rattle.hs_truth.specs.Linked.{since_of, Without}
use Rattle.hs_truth.specs.Places.{all_below, below_length, OthersLack, others_too, at_place, the_top}
use Rattle.hs_truth.specs.Quiet.{live_true, quiet_true}
use Rattle.hs_truth.specs.Truth.{AllTrue, Says, LiveValue, NewAt}
use Rattle.hs_truth.specs.Values.{done_since, new_after, values_after, next_value, places_after}

module _ (program : CodeProgram) (may : ℕ → May) (sets : ℕ → ℕ → Bool) (impact : Impact) (E : Outcome → State → Type 0)
    (ends : (outcome : Outcome) (s : State) → E outcome s) (here : Here) (ws : List Wait) (choices : List Bool) (its : Placed) (s : State)
    (good : Good program may sets impact here s.machine ws) (there : slice_get here.function.code.ops here.at ≡ Some its)
    (deep : its.places ≡ length here.stack) where
  -- the point of the operation
  abbrev point : Point
  point = point_of here ws choices

  -- what facts of the function depend on
  abbrev scope : Scope
  scope = scope_of program here.function

  -- what a purgeable bit shows of the begin of the call
  abbrev marked_by : ℕ → Type 0
  marked_by = since_of may sets here.fn ws

  -- the call goes on
  abbrev GoesOn : Point → State → Type 0
  GoesOn = Stays program (Good program may sets impact) E here s.machine ws

  module _ (p : ℕ) (is : its.op ≡ op.Routine p) (it : BoundRoutine) (found : slice_get program.setting.routines p ≡ Some it) (prototype : Prototype)
      (proto : it.prototype ≡ Some prototype) (held : holds (length prototype.parameters) here.stack ≡ true) where
    -- how many arguments it takes
    abbrev pub count : ℕ
    count = length prototype.parameters

    -- the place of the first one
    abbrev pub first : ℕ
    first = length (below count here.stack)

    -- what the routine does
    abbrev pub Runs : Value → Machine → Type 0
    Runs v after = operate program.setting (operation.routine p) (taken count here.stack) s.machine ≡ done v after

    taken_of : taken_by scope (op.Routine p) ≡ count
    taken_of =
        ap (λ f. parameter_count (routine_signature f)) found ∙ ap (λ q. parameter_count (signature_in q)) proto

    pub first_is : its.places - taken_by scope (op.Routine p) ≡ first
    first_is = ap (λ k. its.places - k) taken_of ∙ ap (λ n. n - count) deep ∙ below_length count here.stack held

    -- ---- what it does, by its role

    -- a routine that is not plain does what its role does
    abbrev pub RoleRuns : Role → List Value → Value → Machine → Type 0
    RoleRuns r values v after =
        unless_stopped (role_stops r values s.machine) (as_kind (number_kind program.setting.types prototype.result) (role_value r values s.machine))
        (role_machine r values s.machine) s.machine ≡ done v after

    pub called_runs : (v : Value) (after : Machine) → Runs v after
        → called_by (is_plain it.routine.role) program.setting.types it.routine prototype (taken count here.stack) s.machine ≡ done v after
    called_runs v after ran =
        sym (ap (λ f. called program.setting.types f (taken count here.stack) s.machine) found
        ∙ ap (λ q. called_as program.setting.types it.routine q (taken count here.stack) s.machine) proto) ∙ ran

    pub role_runs : (r : Role) → it.routine.role ≡ r → is_plain r ≡ false → (v : Value) (after : Machine) → Runs v after
        → RoleRuns r (taken count here.stack) v after
    role_runs r so other v after ran =
        subst (λ r. RoleRuns r (taken count here.stack) v after) so
        (sym (ap (λ z. called_by z program.setting.types it.routine prototype (taken count here.stack) s.machine) (ap is_plain so ∙ other))
        ∙ called_runs v after ran)

    -- ---- its facts, by its role

    pub role_facts : (R : MustFact → Type 0) (r : Role) (makes : Bool) → it.routine.role ≡ r
        → makes_by (Some r) (gives_handle program.setting.types (routine_signature (slice_get program.setting.routines p))) ≡ makes
        → (next : Here) (after : Machine) → AllTrue (GivenByRole scope here.function.code R (Some r) makes first) next after marked_by
        → AllTrue (λ fact. AreNames scope here.function.code fact × changes.Gives scope here.function.code impact R its.op its.places fact) next after marked_by
    role_facts R r makes so made next after are =
        of_op program may sets impact here ws its s.machine good there R (op.Routine p) next after is
        (subst (λ o. AllTrue (GivenByRole scope here.function.code R o (makes_by o (gives_handle program.setting.types (routine_signature
        (slice_get program.setting.routines p)))) (its.places - taken_by scope (op.Routine p))) next after marked_by)
        (sym (ap role_in found ∙ ap (λ r. Some r) so))
        (subst (λ k. AllTrue (GivenByRole scope here.function.code R (Some r) (makes_by (Some r) (gives_handle program.setting.types (routine_signature
        (slice_get program.setting.routines p)))) k) next after marked_by) (sym first_is)
        (subst (λ z. AllTrue (GivenByRole scope here.function.code R (Some r) z first) next after marked_by) (sym made) are)))

    module _ (v : Value) (after : Machine) (ran : Runs v after) where
      -- the call after it
      abbrev pub next : Here
      next = next_value program may sets impact here ws its (operation.routine p) count s.machine good v after ran

      values : (x : Variable) → value_of after x ≡ value_of s.machine x
      values = values_after program may sets impact here ws its (operation.routine p) count s.machine good v after ran refl

      lacks_after : (i n : ℕ) → i < first → NewAt here s.machine i n → OthersLack n i (v ∷ below count here.stack) × Lacking n after
      lacks_after i n low it = new_after program may sets impact here ws its (operation.routine p) count s.machine good v after ran i n low it

      places : (i : ℕ) → i < first → at_place i (v ∷ below count here.stack) ≡ at_place i here.stack
      places i low = places_after program may sets impact here ws its (operation.routine p) count s.machine good v after ran i low

      -- the blocks after it, in the effects of its role
      pub role_since : Since (effects_of it.routine.role) s.machine.blocks after.blocks
      role_since =
          done_since program may sets impact here ws its (operation.routine p) count s.machine good v after ran (effects_of it.routine.role)
          (subst (λ f. SpeaksOfRoutine (since (effects_of it.routine.role)) f) (sym found)
          (record { moves = λ so. so; purges = λ so. so; unlocks = λ so. so; marks = λ so. so; disposes = λ so. so }))

      -- ---- a role that unlocks nothing, disposes of nothing and brings at most that its handle is live

      module _ (R : MustFact → Type 0) (are : AllTrue R here s.machine marked_by) (r : Role) (quiet : May)
          (heap : Since quiet s.machine.blocks after.blocks) (no_unlocks : quiet.unlocks ≡ false) (no_disposes : quiet.disposes ≡ false) where
        -- what its first argument is
        abbrev pub HandleOf : Type 0
        HandleOf = (a : Value) × (at_place first here.stack ≡ Some a) × ((n : ℕ) → a ≡ pointer (Handle n) → IsAlive s.machine n)

        pub live_if : (z : Bool) → (z ≡ true → HandleOf) → (fact : MustFact) → UsedIf R z first fact → (x : Variable) × (fact ≡ Live x) × LiveValue next after x
        live_if false arg fact it = absurd it
        live_if true arg (With i x) it = absurd it
        live_if true arg (Saved b x) it = absurd it
        live_if true arg (Kept b x) it = absurd it
        live_if true arg (Locked x) it = absurd it
        live_if true arg (Distinct x y) it = absurd it
        live_if true arg (New i) it = absurd it
        live_if true arg (Live x) it = (x, refl, by_value (are.says (With first x) it) (arg refl))
          where
            by_value : (w : Value) × (at_place first here.stack ≡ Some w) × (value_of s.machine x ≡ Some w) → HandleOf → LiveValue next after x
            by_value old handle =
                record {
                  value = handle.0;
                  holds = values x ∙ old.2 ∙ sym old.1 ∙ handle.1;
                  alive = λ n so. alive_since quiet s.machine after n heap no_disposes (handle.2 n so);
                }

        pub used_true : ((fact : MustFact) → BroughtByRole R (Some r) first fact → ⊥) → (uses_handle (Some r) ≡ true → HandleOf)
            → AllTrue (GivenByRole scope here.function.code R (Some r) false first) next after marked_by
        used_true none arg =
            live_true scope here.function.code R (Keeps scope here.function.code R (Some r) false first)
            (Brought scope here.function.code R (Some r) false first) first here s.machine after marked_by are (suc here.at) (v ∷ below count here.stack)
            good.lasts values quiet heap no_unlocks no_disposes (λ fact keep. keep.0) places (λ i n keep it. lacks_after i n keep.0 it) lives
          where
            lives : (fact : MustFact) → Brought scope here.function.code R (Some r) false first fact
                → (x : Variable) × (fact ≡ Live x) × LiveValue next after x
            lives fact (inl it) = live_if (uses_handle (Some r)) arg fact it
            lives fact (inr (inl it)) = absurd (none fact it)
            lives fact (inr (inr it)) = absurd it

        -- ---- a role that makes a handle

        module _ (makes : Bool) (uses : uses_handle (Some r) ≡ false) (none : (fact : MustFact) → BroughtByRole R (Some r) first fact → ⊥)
            (made : (v ≡ pointer Nil) ⊎ ((n : ℕ) × (v ≡ pointer (Handle n)) × IsAlive after n × Without n here s.machine × Lacking n after)) where
          only_new : (z : Bool) → uses_handle (Some r) ≡ z → (fact : MustFact)
              → UsedIf R z first fact ⊎ BroughtByRole R (Some r) first fact ⊎ MadeIf makes first fact
              → fact ≡ New first
          only_new true so fact it = absurd (true≢false (sym so ∙ uses))
          only_new false so fact (inl it) = absurd it
          only_new false so fact (inr (inl it)) = absurd (none fact it)
          only_new false so fact (inr (inr it)) = new_is makes fact it
            where
              new_is : (z : Bool) (fact : MustFact) → MadeIf z first fact → fact ≡ New first
              new_is false fact it = absurd it
              new_is true (New i) it = ap New it
              new_is true (With i x) it = absurd it
              new_is true (Saved b x) it = absurd it
              new_is true (Kept b x) it = absurd it
              new_is true (Locked x) it = absurd it
              new_is true (Live x) it = absurd it
              new_is true (Distinct x y) it = absurd it

          brought_new : (fact : MustFact) → Brought scope here.function.code R (Some r) makes first fact → fact ≡ New first
          brought_new fact it = only_new (uses_handle (Some r)) refl fact it

          new_says : (v ≡ pointer Nil) ⊎ ((n : ℕ) × (v ≡ pointer (Handle n)) × IsAlive after n × Without n here s.machine × Lacking n after)
              → Says next after (New first)
          new_says (inl nil) = inl (the_top first v (below count here.stack) refl ∙ ap Some nil)
          new_says (inr it) =
              inr (
                it.0,
                record {
                  holds = the_top first v (below count here.stack) refl ∙ ap Some it.1;
                  alive = it.2;
                  others = (inl refl, others_too it.0 first (below count here.stack) (all_below (Lacks it.0) count here.stack it.3.places));
                  nowhere = it.4;
                },
              )

          no_saved : (b : Keeper) (y : Variable) → Saved b y ≡ New first → ⊥
          no_saved b y so = cc

          no_kept : (b : Keeper) (y : Variable) → Kept b y ≡ New first → ⊥
          no_kept b y so = cc

          not_high : (i : ℕ) → i < first → first ≤ i → ⊥
          not_high i low high = omega (low, high, arith)

          pub made_true : AllTrue (GivenByRole scope here.function.code R (Some r) makes first) next after marked_by
          made_true =
              quiet_true scope here.function.code R (Keeps scope here.function.code R (Some r) makes first)
              (Brought scope here.function.code R (Some r) makes first) first here s.machine after marked_by are (suc here.at) (v ∷ below count here.stack)
              good.lasts values quiet heap no_unlocks no_disposes
              (record {
                under = λ fact keep. keep.0;
                places = places;
                others = λ i n keep it. lacks_after i n keep.0 it;
                comes = λ fact names it. subst (Says next after) (sym (brought_new fact it)) (new_says made);
                saved_comes = λ b y it. absurd (no_saved b y (brought_new (Saved b y) it));
                kept_comes = λ b y n it. absurd (no_kept b y (brought_new (Kept b y) it));
                top_bytes = λ i byte high held'.
                    unsaid scope here.function.code R (Keeps scope here.function.code R (Some r) makes first)
                    (Brought scope here.function.code R (Some r) makes first) first here s.machine after marked_by (suc here.at)
                    (v ∷ below count here.stack) next.lasting i byte (never_saved i high) (never_kept i high);
              })
            where
              never_saved : (i : ℕ) → first ≤ i → (y : Variable)
                  → GivenByRole scope here.function.code R (Some r) makes first (Saved (on_stack i) y) → ⊥
              never_saved i high y (names, inl it) = not_high i it.0.0 high
              never_saved i high y (names, inr it) = no_saved (on_stack i) y (brought_new (Saved (on_stack i) y) it)

              never_kept : (i : ℕ) → first ≤ i → (y : Variable)
                  → GivenByRole scope here.function.code R (Some r) makes first (Kept (on_stack i) y) → ⊥
              never_kept i high y (names, inl it) = not_high i it.0.0 high
              never_kept i high y (names, inr it) = no_kept (on_stack i) y (brought_new (Kept (on_stack i) y) it)
