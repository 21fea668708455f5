-- The step of a decision of the schedule: it moves and purges blocks, and changes no cell (own).
--     shift_goes
use Rattle.std.proofs.Common.{◌≡◌, ◌-◌, ℕ, suc, Bool, true, false, List, [], ◌∷◌, length, Option, Some, None, refl, sym, ◌∙◌, subst, arith, ◌&&◌, ◌+◌, slice_get, ◌||◌, if◌then◌else◌}
use Rattle.hs_calls.specs.Calls.{Here, moved, Wait, point_of, steady_in}
use Rattle.hs_calls.specs.Changing.{decision_effects}
use Rattle.hs_calls.specs.Stacks.{RanTo, Stays}
use Rattle.hs_code.specs.Following.{IsNext}
use Rattle.hs_code.specs.Stacks.{Scope}
use Rattle.hs_code.specs.declared.function_code.Placed.{Placed}
use Rattle.hs_code.specs.declared.op.Op.TheVariants as op
use Rattle.hs_code_run.specs.Codes.{CodeProgram, scope_of, Point}
use Rattle.hs_code_run.specs.Steps.{onward}
use Rattle.hs_facts.specs.Changes as changes
use Rattle.hs_facts.specs.Changes.{Impact}
use Rattle.hs_facts.specs.MustFacts.{Under}
use Rattle.hs_heap.specs.Blocks.{Block}
use Rattle.hs_heap.specs.Shift.{Powers, is_moved, is_purged as purges_it, shifted, shift_from, shift}
use Rattle.hs_heap.specs.declared.decision.Decision.{Decision}
use Rattle.hs_heap.specs.declared.presence.Presence.TheVariants.{Purged}
use Rattle.hs_hiding.specs.Blocks.{alive_since, made_since}
use Rattle.hs_hiding.specs.Holding.{Lacking, Blocks, value_of, Cells}
use Rattle.hs_meaning.specs.Evaluation.{decided_by, powers_of}
use Rattle.hs_meaning.specs.Machine.{Machine, with_blocks}
use Rattle.hs_meaning.specs.Steps.{State, then_with, give, next_decision, either, decided}
use Rattle.hs_meaning.specs.declared.outcome.Outcome.{Outcome}
use Rattle.hs_sound_heap.specs.Roles.{nothing}
use Rattle.hs_sound_heap.specs.Shifts.{shifting, shift_since}
use Rattle.hs_sound_heap.specs.Since.{since_more, since_trans, May, Since, IsWithin}
use Rattle.hs_tree.specs.declared.function.BoundRoutine.{BoundRoutine}
use Rattle.hs_tree.specs.declared.head.Variable.{Variable}
use Rattle.hs_tree.specs.declared.head.Variable.TheVariants as name
use Rattle.hs_true.specs.BareSteps.{keeps_stack}
use Rattle.hs_truth.specs.Bare.{of_op, IsBare}
use Rattle.hs_truth.specs.Going.{goes_on}
use Rattle.hs_truth.specs.Good.{Good}
use Rattle.hs_truth.specs.Linked.{since_of}
use Rattle.hs_truth.specs.Owing.{steady_since}
use Rattle.hs_truth.specs.Quiet.{bare_true}
use Rattle.hs_truth.specs.Truth.{SoundAt}

-- ---- a decision of the schedule

-- no cell is another one
shifted_cells : (powers : Powers) (decision : Decision) (k : ℕ) (block : Block) → (shifted powers decision k block).cells ≡ block.cells
shifted_cells powers decision k block = by_bits (purges_it powers decision k block) (is_moved powers decision k block)
  where
    by_bits : (purged moved_ : Bool)
        → (if purged then record block { epoch = block.epoch + 1; presence = Purged }
        else if moved_ then record block { epoch = block.epoch + 1 } else block).cells
        ≡ block.cells
    by_bits true moved_ = refl
    by_bits false true = refl
    by_bits false false = refl

shift_lacks : (n : ℕ) (powers : Powers) (decision : Decision) (k : ℕ) (blocks : List Block) → Blocks n blocks
    → Blocks n (shift_from powers decision k blocks)
shift_lacks n powers decision k [] are = tt
shift_lacks n powers decision k (block ∷ blocks) are =
    (subst (Cells n) (sym (shifted_cells powers decision k block)) are.0, shift_lacks n powers decision (suc k) blocks are.1)

module _ (program : CodeProgram) (may : ℕ → May) (sets : ℕ → ℕ → Bool) (impact : Impact) (E : Outcome → State → Type 0)
    (ends : (outcome : Outcome) (s : State) → E outcome s) (here : Here) (ws : List Wait) (choices : List Bool) (its : Placed) (s : State)
    (good : Good program may sets impact here s.machine ws) (there : slice_get here.function.code.ops here.at ≡ Some its)
    (deep : its.places ≡ length here.stack) where
  -- the point of the operation
  abbrev point : Point
  point = point_of here ws choices

  -- what facts of the function depend on
  abbrev scope : Scope
  scope = scope_of program here.function

  -- what a purgeable bit shows of the begin of the call
  abbrev marked_by : ℕ → Type 0
  marked_by = since_of may sets here.fn ws

  -- the call goes on
  abbrev GoesOn : Point → State → Type 0
  GoesOn = Stays program (Good program may sets impact) E here s.machine ws

  -- the machine after a decision
  abbrev after_shift : Powers → Machine
  after_shift powers = with_blocks (shift powers (next_decision s.schedule) s.machine.blocks) s.machine

  shift_lacking : (n : ℕ) (powers : Powers) → Lacking n s.machine → Lacking n (after_shift powers)
  shift_lacking n powers are =
      record {
        globals = are.globals;
        locals = are.locals;
        blocks = shift_lacks n powers (next_decision s.schedule) 1 s.machine.blocks are.blocks;
        objects = are.objects;
      }

  module _ (place : ℕ) (is : its.op ≡ op.Shift place) (powers : Powers) (within : IsWithin (shifting powers.purges) (may here.fn)) where
    moved_since : Since (shifting powers.purges) s.machine.blocks (after_shift powers).blocks
    moved_since = shift_since powers (next_decision s.schedule) s.machine.blocks

    all_since : Since (may here.fn) s.machine.blocks (after_shift powers).blocks
    all_since = since_more (shifting powers.purges) (may here.fn) s.machine.blocks (after_shift powers).blocks within moved_since

    -- the call after it
    abbrev next : Here
    next = moved here (suc here.at) here.stack (λ k. here.lasting k && steady_in s.machine (after_shift powers) k)

    less_none : (a : ℕ) → a - 0 ≡ a
    less_none a = omega arith

    values : (x : Variable) → value_of (after_shift powers) x ≡ value_of s.machine x
    values (name.Global g) = refl
    values (name.Local i) = refl

    shift_sound : SoundAt scope here.function.code impact marked_by its here s.machine next (after_shift powers)
    shift_sound R names are =
        of_op program may sets impact here ws its s.machine good there R (op.Shift place) next (after_shift powers) is
        (bare_true scope here.function.code R (changes.Stays scope here.function.code impact R (op.Shift place) its.places)
        (changes.Brings scope here.function.code impact R (op.Shift place) its.places) (length here.stack) here s.machine (after_shift powers) marked_by are
        (suc here.at) here.stack good.lasts values (shifting powers.purges) moved_since refl refl
        (λ fact keep. subst (λ k. Under k fact) (less_none its.places ∙ deep) keep) (λ i low. refl)
        (λ i n keep it. (it.others, shift_lacking n powers it.nowhere)) (λ fact it. it))

    pub shift_good : Good program may sets impact next (after_shift powers) ws
    shift_good =
        goes_on program may sets impact here s.machine (after_shift powers) ws its (suc here.at) here.stack
        (record {
          there = there;
          follows = subst (λ o. IsNext o here.function.code.cases here.at (suc here.at)) (sym is) refl;
          heap = λ w vs first link. since_trans (may here.fn) w.machine.blocks s.machine.blocks (after_shift powers).blocks link.heap all_since;
          steady = λ w vs first link none n lasting. steady_since (shifting powers.purges) s.machine (after_shift powers) n moved_since refl
              (good.lasts n lasting);
          globals = λ g none. refl;
          without = λ n made it. record { places = it.places; nowhere = shift_lacking n powers it.nowhere };
          alive = λ n it a. alive_since (shifting powers.purges) s.machine (after_shift powers) n moved_since refl a;
          exists = λ n e. made_since (shifting powers.purges) s.machine (after_shift powers) n moved_since e;
          sound = shift_sound;
        })
        good

  pub shift_goes : (place : ℕ) → its.op ≡ op.Shift place → IsBare program may sets impact here ws its s.machine good there (op.Shift place)
      → IsWithin (decision_effects (slice_get program.setting.routines place)) (may here.fn)
      → RanTo E GoesOn (then_with (λ it. give (onward point here.stack)) (decided_by (slice_get program.setting.routines place) s))
  shift_goes place is bare within = by_routine (slice_get program.setting.routines place) within
    where
      still : GoesOn (onward point here.stack) s
      still = keeps_stack program may sets impact E ends here ws choices its s good there deep (op.Shift place) is bare refl (suc here.at) refl choices s.turns

      by_powers : (it : BoundRoutine) (z : Bool) → (it.routine.moves || it.routine.purges) ≡ z
          → IsWithin (if z then shifting it.routine.purges else nothing) (may here.fn)
          → RanTo E GoesOn (then_with (λ it. give (onward point here.stack)) (either z (decided (powers_of it)) (give tt) s))
      by_powers it true so within = (
        suc here.at,
        here.stack,
        choices,
        refl,
        shift_good place is (powers_of it) within,
      )
      by_powers it false so within = still

      by_routine : (it : Option BoundRoutine) → IsWithin (decision_effects it) (may here.fn)
          → RanTo E GoesOn (then_with (λ it. give (onward point here.stack)) (decided_by it s))
      by_routine None within = still
      by_routine (Some it) within = by_powers it (it.routine.moves || it.routine.purges) refl within
