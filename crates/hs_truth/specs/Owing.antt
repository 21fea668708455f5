-- What an operation of the machine owes to the calls: all but the truth of its own facts comes from the laws of all operations (own).
--     steady_since           what a part of a run without the effect unlocks leaves as it is
--     owes                   what an operation owes
--     operates_good          the step: a value and the machine after it, in the stack rule
use Rattle.std.proofs.Common.{◌≡◌, ◌⊎◌, inl, inr, ℕ, zero, suc, ◌+◌, Bool, true, false, not, ◌&&◌, ◌||◌, List, [], ◌∷◌, length, slice_get, Option, Some, None, refl, sym, ap, ◌∙◌, subst, arith, true≢false}
use Rattle.std.specs.List.{AllByRecursion}
use Rattle.hs_base.specs.declared.pos.Pos.{Pos}
use Rattle.hs_calls.specs.Calls.{Here, Wait, moved, point_of, is_fixed, fixed_in, steady_in}
use Rattle.hs_calls.specs.Changing.{since}
use Rattle.hs_calls.specs.Stacks.{RanTo, Stays}
use Rattle.hs_code.specs.Following.{IsNext}
use Rattle.hs_code.specs.declared.function_code.Placed.{Placed}
use Rattle.hs_code_run.specs.Codes.{CodeProgram, scope_of}
use Rattle.hs_code_run.specs.Steps.{taken, below, operates, onward}
use Rattle.hs_facts.specs.Changes.{Impact}
use Rattle.hs_heap.specs.Blocks.{Block}
use Rattle.hs_heap.specs.Shift.{is_present, is_loose}
use Rattle.hs_hiding.specs.Blocks.{made_since}
use Rattle.hs_hiding.specs.Disposing.{operate_alive}
use Rattle.hs_hiding.specs.Holding.{Lacking, IsMade, Gets, Lacks, IsAlive, OnDone}
use Rattle.hs_hiding.specs.Operations.{operate_hands}
use Rattle.hs_lowering.specs.Laws.Variables as variables
use Rattle.hs_meaning.specs.Laws.Changes.{Keeps}
use Rattle.hs_meaning.specs.Laws.Changes.Operations.{SpeaksOf, SpeaksOfRoutine, operate_keeps}
use Rattle.hs_meaning.specs.Machine.{Machine, Done, done, stopped}
use Rattle.hs_meaning.specs.Operations.{Operation, routine, operate}
use Rattle.hs_meaning.specs.Steps.{State, then_with, give, ran_at}
use Rattle.hs_meaning.specs.Values.{Value}
use Rattle.hs_meaning.specs.declared.outcome.Outcome.{Outcome}
use Rattle.hs_sound_heap.specs.Roles.{effects_of}
use Rattle.hs_sound_heap.specs.Since.{May, IsWithin, Since, IsThere, since_trans}
use Rattle.hs_tree.specs.declared.function.BoundRoutine.{BoundRoutine}
use Rattle.hs_truth.specs.Going.{Owes, goes_on}
use Rattle.hs_truth.specs.Good.{no_next_block, is_old, Good}
use Rattle.hs_truth.specs.Linked.{since_of, Linked, Without}
use Rattle.hs_truth.specs.Places.{all_below, all_taken}
use Rattle.hs_truth.specs.Truth.{SoundAt}

-- a step without UNLOCKS leaves a block that is not loose so, and gives it no new cells
pub steady_since : (may : May) (before after : Machine) (n : ℕ) → Since may before.blocks after.blocks → may.unlocks ≡ false
    → fixed_in before n ≡ true → steady_in before after n ≡ true
steady_since may before after zero since none fixed = absurd (true≢false (sym fixed))
steady_since may before after (suc k) since none fixed = by_block (slice_get before.blocks k) refl fixed
  where
    loose_of : (z : Bool) → not z ≡ true → z ≡ false
    loose_of true so = sym so
    loose_of false so = refl

    both_so : (a b : Bool) → a ≡ true → b ≡ true → (a && b) ≡ true
    both_so true b one other = other
    both_so false b one other = one

    old_by : (a b : Bool) → (b ≡ true → a ≡ true) → (a || not b) ≡ true
    old_by true b each = refl
    old_by false true each = each refl
    old_by false false each = refl

    by_after : (b : Block) → slice_get before.blocks k ≡ Some b → is_loose b ≡ false → IsThere may b (slice_get after.blocks k)
        → steady_in before after (suc k) ≡ true
    by_after b there fixed x =
        both_so (fixed_in after (suc k)) (is_old (slice_get before.blocks k) (slice_get after.blocks k))
        (ap is_fixed x.there ∙ ap not (x.since.fixed none fixed).0)
        (ap (λ o. is_old o (slice_get after.blocks k)) there ∙ ap (is_old (Some b)) x.there
        ∙ old_by (is_present b.presence) (is_present x.block.presence) (x.since.revived none))

    by_block : (found : Option Block) → slice_get before.blocks k ≡ found → is_fixed found ≡ true → steady_in before after (suc k) ≡ true
    by_block None there fixed = absurd (true≢false (sym fixed))
    by_block (Some b) there fixed = by_after b there (loose_of (is_loose b) fixed) (since k b there)

module _ (program : CodeProgram) (may : ℕ → May) (sets : ℕ → ℕ → Bool) (impact : Impact) (here : Here) (ws : List Wait) (its : Placed)
    (operation : Operation) (count : ℕ) (machine : Machine) (good : Good program may sets impact here machine ws)
    (there : slice_get here.function.code.ops here.at ≡ Some its) (follows : IsNext its.op here.function.code.cases here.at (suc here.at)) where
  -- its operands, the lowest first
  abbrev pub values : List Value
  values = taken count here.stack

  -- seen from the law of one operation to what it gives
  of_done : (Q : Value → Machine → Type 0) (v : Value) (after : Machine) → operate program.setting operation values machine ≡ done v after
      → OnDone Q (operate program.setting operation values machine) → Q v after
  of_done Q v after is so = subst (OnDone Q) is so

  -- whatever an operation does, blocks stay there
  abbrev everything : May
  everything = record { moves = true; purges = true; unlocks = true; marks = true; disposes = true }

  within_all : (some : May) → IsWithin some everything
  within_all some =
      record {
        moves = λ so. refl;
        purges = λ so. refl;
        unlocks = λ so. refl;
        marks = λ so. refl;
        disposes = λ so. refl;
      }

  all_permitted : (o : Operation) → SpeaksOf (since everything) program.setting o
  all_permitted (routine place) = by_routine (slice_get program.setting.routines place)
    where
      by_routine : (it : Option BoundRoutine) → SpeaksOfRoutine (since everything) it
      by_routine None = tt
      by_routine (Some it) = within_all (effects_of it.routine.role)
  all_permitted o = tt

  there_still : (v : Value) (after : Machine) → operate program.setting operation values machine ≡ done v after → (n : ℕ) → IsMade machine n → IsMade after n
  there_still v after is n e =
      made_since everything machine after n
      (subst (Keeps (since everything) machine) is (operate_keeps (since everything) program.setting operation values machine (all_permitted operation))) e

  module _ (v : Value) (after : Machine) (is : operate program.setting operation values machine ≡ done v after)
      (globals : (g : ℕ) → sets here.fn g ≡ false → slice_get after.globals g ≡ slice_get machine.globals g)
      (sound : SoundAt (scope_of program here.function) here.function.code impact (since_of may sets here.fn ws) its here machine
      (moved here (suc here.at) (v ∷ below count here.stack) (λ k. here.lasting k && steady_in machine after k)) after)
      (heap : (w : Wait) (vs : List Wait) → ws ≡ w ∷ vs → Linked may sets here machine w → Since (may here.fn) w.machine.blocks after.blocks)
      (steady : (w : Wait) (vs : List Wait) → ws ≡ w ∷ vs → Linked may sets here machine w → (may here.fn).unlocks ≡ false → (n : ℕ)
      → here.lasting n ≡ true → steady_in machine after n ≡ true) where
    never_next : (n : ℕ) → (IsMade machine n) ⊎ (IsMade after n → ⊥) → n ≡ length machine.blocks + 1 → IsMade after n → ⊥
    never_next n (inl e) so now = no_next_block machine (subst (IsMade machine) (so ∙ one_more (length machine.blocks)) e)
      where
        one_more : (a : ℕ) → a + 1 ≡ suc a
        one_more a = omega arith
    never_next n (inr never) so now = never now

    without_after : (n : ℕ) → (IsMade machine n) ⊎ (IsMade after n → ⊥) → Without n here machine
        → Without n (moved here (suc here.at) (v ∷ below count here.stack) (λ k. here.lasting k && steady_in machine after k)) after
    without_after n known it =
        on (both (of_done (Gets n machine) v after is (operate_hands n program.setting operation values machine lack it.nowhere)))
      where
        lack : AllByRecursion (Lacks n) values
        lack = all_taken (Lacks n) count here.stack [] it.places tt

        both : Gets n machine v after → Lacks n v × Lacking n after
        both got = (got.0 (never_next n known), got.1)

        on : Lacks n v × Lacking n after
            → Without n (moved here (suc here.at) (v ∷ below count here.stack) (λ k. here.lasting k && steady_in machine after k)) after
        on now = record { places = (now.0, all_below (Lacks n) count here.stack it.places); nowhere = now.1 }

    pub owes : Owes program may sets impact here machine after ws its (suc here.at) (v ∷ below count here.stack)
    owes =
        record {
          there = there;
          follows = follows;
          heap = heap;
          steady = steady;
          globals = globals;
          without = without_after;
          alive = λ n it a. of_done (λ u m. IsAlive m n) v after is
              (operate_alive n program.setting operation values machine (all_taken (Lacks n) count here.stack [] it.places tt) a);
          exists = λ n e. there_still v after is n e;
          sound = sound;
        }

    pub good_after : Good program may sets impact
        (moved here (suc here.at) (v ∷ below count here.stack) (λ k. here.lasting k && steady_in machine after k)) after ws
    good_after = goes_on program may sets impact here machine after ws its (suc here.at) (v ∷ below count here.stack) owes good

  -- the globals after an operation that is no Set
  pub globals_stay : variables.is_set operation ≡ false → (v : Value) (after : Machine) → operate program.setting operation values machine ≡ done v after
      → (g : ℕ) → slice_get after.globals g ≡ slice_get machine.globals g
  globals_stay none v after is g =
      ap (λ gs. slice_get gs g) (subst (variables.KeepsVariables machine) is (variables.operate_keeps program.setting operation values machine none)).0

  -- ---- the step

  pub operates_good : (E : Outcome → State → Type 0) → ((outcome : Outcome) (s : State) → E outcome s) → (choices : List Bool) (at : Pos) (s : State)
      → s.machine ≡ machine → SpeaksOf (since (may here.fn)) program.setting operation
      → ((v : Value) (after : Machine) → operate program.setting operation values machine ≡ done v after
      → ((g : ℕ) → sets here.fn g ≡ false → slice_get after.globals g ≡ slice_get machine.globals g)
      × SoundAt (scope_of program here.function) here.function.code impact (since_of may sets here.fn ws) its here machine
      (moved here (suc here.at) (v ∷ below count here.stack) (λ k. here.lasting k && steady_in machine after k)) after)
      → RanTo E (Stays program (Good program may sets impact) E here machine ws) (operates program at (point_of here ws choices) count operation s)
  operates_good E ends choices at s so permits each =
      subst (λ m. RanTo E (Stays program (Good program may sets impact) E here machine ws)
      (then_with (λ value. give (onward (point_of here ws choices) (value ∷ below count here.stack)))
      (ran_at at s (operate program.setting operation values m))))
      (sym so) (by_done (operate program.setting operation values machine) refl)
    where
      since_of_done : (v : Value) (after : Machine) → operate program.setting operation values machine ≡ done v after
          → Since (may here.fn) machine.blocks after.blocks
      since_of_done v after is =
          subst (Keeps (since (may here.fn)) machine) is (operate_keeps (since (may here.fn)) program.setting operation values machine permits)

      by_done : (result : Done Value) → operate program.setting operation values machine ≡ result
          → RanTo E (Stays program (Good program may sets impact) E here machine ws)
          (then_with (λ value. give (onward (point_of here ws choices) (value ∷ below count here.stack))) (ran_at at s result))
      by_done (done v after) is = (
        suc here.at,
        v ∷ below count here.stack,
        choices,
        refl,
        good_after v after is (each v after is).0 (each v after is).1
            (λ w vs first link. since_trans (may here.fn) w.machine.blocks machine.blocks after.blocks link.heap (since_of_done v after is))
            (λ w vs first link none n lasting. steady_since (may here.fn) machine after n (since_of_done v after is) none (good.lasts n lasting)),
      )
      by_done (stopped why after) is = ends _ _
