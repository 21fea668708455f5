-- Operations that leave the machine as it is (own).
--     same_good, same_sound       what is left to show of one
--     IsBare, bare_sound          one that is not in the table of changes
use Rattle.std.proofs.Common.{◌≡◌, ◌<◌, ◌-◌, ℕ, Bool, true, List, Some, refl, sym, subst, ◌&&◌, slice_get}
use Rattle.std.specs.List.{AllByRecursion}
use Rattle.hs_calls.specs.Calls.{Here, moved, fixed_in, Wait, steady_in}
use Rattle.hs_code.specs.Following.{IsNext}
use Rattle.hs_code.specs.Stacks.{Scope}
use Rattle.hs_code.specs.declared.function_code.Placed.{Placed}
use Rattle.hs_code.specs.declared.op.Op.{Op}
use Rattle.hs_code_run.specs.Codes.{CodeProgram, scope_of}
use Rattle.hs_facts.specs.Changes as changes
use Rattle.hs_facts.specs.Changes.{Impact}
use Rattle.hs_facts.specs.MustFacts.{MustFact, New, Under, AreNames}
use Rattle.hs_facts.specs.Names.{taken as taken_by}
use Rattle.hs_hiding.specs.Holding.{Lacks}
use Rattle.hs_meaning.specs.Machine.{Machine}
use Rattle.hs_meaning.specs.Values.{Value}
use Rattle.hs_sound_heap.specs.Roles.{nothing}
use Rattle.hs_sound_heap.specs.Since.{since_refl, May}
use Rattle.hs_truth.specs.Going.{goes_on}
use Rattle.hs_truth.specs.Good.{Good}
use Rattle.hs_truth.specs.Linked.{since_of}
use Rattle.hs_truth.specs.Owing.{steady_since}
use Rattle.hs_truth.specs.Places.{OthersLack, at_place}
use Rattle.hs_truth.specs.Quiet.{quiet_true, bare_true, QuietOwes}
use Rattle.hs_truth.specs.Truth.{AllTrue, SoundAt}

module _ (program : CodeProgram) (may : ℕ → May) (sets : ℕ → ℕ → Bool) (impact : Impact) (here : Here) (ws : List Wait) (its : Placed)
    (machine : Machine) (good : Good program may sets impact here machine ws) (there : slice_get here.function.code.ops here.at ≡ Some its) where
  -- what facts of the function depend on
  abbrev pub scope : Scope
  scope = scope_of program here.function

  -- what a purgeable bit shows of the begin of the call
  abbrev pub marked_by : ℕ → Type 0
  marked_by = since_of may sets here.fn ws

  -- it is not in the table of changes: facts below its operands stay, and none comes
  pub record IsBare (o : Op) : Type 1 where
    pub under : (R : MustFact → Type 0) (fact : MustFact) → changes.Stays scope here.function.code impact R o its.places fact
        → Under (its.places - taken_by scope o) fact
    pub none : (R : MustFact → Type 0) (fact : MustFact) → changes.Brings scope here.function.code impact R o its.places fact → ⊥

  steady_now : (n : ℕ) → fixed_in machine n ≡ true → steady_in machine machine n ≡ true
  steady_now n fixed = steady_since nothing machine machine n (since_refl nothing machine.blocks) refl fixed

  -- ---- the machine stays as it is

  -- the call after it
  abbrev pub onward_at : ℕ → List Value → Here
  onward_at at stack = moved here at stack (λ k. here.lasting k && steady_in machine machine k)

  -- an operation that leaves the machine as it is, from the truth of its facts
  pub same_good : (at : ℕ) (stack : List Value) → IsNext its.op here.function.code.cases here.at at
      → ((n : ℕ) → AllByRecursion (Lacks n) here.stack → AllByRecursion (Lacks n) stack)
      → SoundAt scope here.function.code impact marked_by its here machine (onward_at at stack) machine
      → Good program may sets impact (onward_at at stack) machine ws
  same_good at stack follows lack sound =
      goes_on program may sets impact here machine machine ws its at stack
      (record {
        there = there;
        follows = follows;
        heap = λ w vs is link. link.heap;
        steady = λ w vs is link none n lasting. steady_now n (good.lasts n lasting);
        globals = λ g none. refl;
        without = λ n made it. record { places = lack n it.places; nowhere = it.nowhere };
        alive = λ n it a. a;
        exists = λ n e. e;
        sound = sound;
      })
      good

  -- what is left to show of its facts
  pub same_sound : (at first : ℕ) (stack : List Value)
      → ((R : MustFact → Type 0) → ((fact : MustFact) → R fact → AreNames scope here.function.code fact) → (are : AllTrue R here machine marked_by)
      → QuietOwes scope here.function.code R (changes.Stays scope here.function.code impact R its.op its.places)
      (changes.Brings scope here.function.code impact R its.op its.places) first here machine machine marked_by are at stack good.lasts (λ x. refl) nothing
      (since_refl nothing machine.blocks) refl refl)
      → SoundAt scope here.function.code impact marked_by its here machine (onward_at at stack) machine
  same_sound at first stack owes R names are =
      quiet_true scope here.function.code R (changes.Stays scope here.function.code impact R its.op its.places)
      (changes.Brings scope here.function.code impact R its.op its.places) first here machine machine marked_by are at stack good.lasts (λ x. refl) nothing
      (since_refl nothing machine.blocks) refl refl (owes R names are)

  -- an operation that is not in the table of changes
  pub bare_sound : (at first : ℕ) (stack : List Value) → IsBare its.op → its.places - taken_by scope its.op ≡ first
      → ((i : ℕ) → i < first → at_place i stack ≡ at_place i here.stack)
      → ((i n : ℕ) → i < first → OthersLack n i here.stack → OthersLack n i stack)
      → SoundAt scope here.function.code impact marked_by its here machine (onward_at at stack) machine
  bare_sound at first stack bare deep places others R names are =
      bare_true scope here.function.code R (changes.Stays scope here.function.code impact R its.op its.places)
      (changes.Brings scope here.function.code impact R its.op its.places) first here machine machine marked_by are at stack good.lasts (λ x. refl) nothing
      (since_refl nothing machine.blocks) refl refl under places
      (λ i n keep it. (others i n (under (New i) keep) it.others, it.nowhere)) (bare.none R)
    where
      under : (fact : MustFact) → changes.Stays scope here.function.code impact R its.op its.places fact → Under first fact
      under fact keep = subst (λ k. Under k fact) deep (bare.under R fact keep)

  -- ---- the facts of an operation that is known

  pub of_op : (R : MustFact → Type 0) (o : Op) (next : Here) (after : Machine) → its.op ≡ o
      → AllTrue (λ fact. AreNames scope here.function.code fact × changes.Gives scope here.function.code impact R o its.places fact) next after marked_by
      → AllTrue (λ fact. AreNames scope here.function.code fact × changes.Gives scope here.function.code impact R its.op its.places fact) next after marked_by
  of_op R o next after is true_ =
      subst (λ o. AllTrue
      (λ fact. AreNames scope here.function.code fact × changes.Gives scope here.function.code impact R o its.places fact) next after marked_by)
      (sym is) true_
