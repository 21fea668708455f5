-- Operations of the machine that take values and leave one, and set no variable (own).
--     done_since, new_after, values_after      blocks, handles and variables after it
--     value_sound                              what is left to show of its facts
--     bare_value                               one that is not in the table of changes
use Rattle.std.proofs.Common.{◌≡◌, ◌<◌, inr, ℕ, suc, Bool, false, List, [], ◌∷◌, length, Option, Some, None, refl, ap, ◌∙◌, subst, arith, ◌&&◌, ◌+◌, slice_get}
use Rattle.std.specs.List.{AllByRecursion}
use Rattle.hs_calls.specs.Calls.{Here, moved, Wait, steady_in}
use Rattle.hs_calls.specs.Changing.{since}
use Rattle.hs_code.specs.Stacks.{Scope}
use Rattle.hs_code.specs.declared.function_code.Placed.{Placed}
use Rattle.hs_code_run.specs.Codes.{CodeProgram, scope_of}
use Rattle.hs_code_run.specs.Steps.{taken, below}
use Rattle.hs_facts.specs.Changes as changes
use Rattle.hs_facts.specs.Changes.{Impact}
use Rattle.hs_facts.specs.MustFacts.{MustFact, New, Under, AreNames}
use Rattle.hs_hiding.specs.Holding.{Lacking, IsMade, Gets, Lacks, value_of, IsAlive, OnDone}
use Rattle.hs_hiding.specs.Operations.{operate_hands}
use Rattle.hs_lowering.specs.Laws.Variables as variables
use Rattle.hs_meaning.specs.Accesses.{by_stop, unless_stopped}
use Rattle.hs_meaning.specs.Laws.Changes.{Keeps}
use Rattle.hs_meaning.specs.Laws.Changes.Operations.{SpeaksOf, operate_keeps}
use Rattle.hs_meaning.specs.Machine.{Machine, value_of_slot, done, Done}
use Rattle.hs_meaning.specs.Operations.{Operation, operate}
use Rattle.hs_meaning.specs.Stops.{Stops, first_stop}
use Rattle.hs_meaning.specs.Values.{Value}
use Rattle.hs_meaning.specs.declared.outcome.Stop.{Stop}
use Rattle.hs_sound_heap.specs.Since.{May, Since}
use Rattle.hs_tree.specs.declared.head.Variable.{Variable}
use Rattle.hs_tree.specs.declared.head.Variable.TheVariants as name
use Rattle.hs_truth.specs.Good.{no_next_block, Good}
use Rattle.hs_truth.specs.Linked.{since_of}
use Rattle.hs_truth.specs.Places.{OthersLack, taken_lack, others_below, under_top, at_place, below_place}
use Rattle.hs_truth.specs.Quiet.{quiet_true, bare_true, QuietOwes}
use Rattle.hs_truth.specs.Truth.{AllTrue, SoundAt, NewAt}

-- ---- what is done

pub same_done : (v : Value) (a b : Machine) (u : Value) → ◌≡◌ {A = Done Value} (done v a) (done u b) → (v ≡ u) × (a ≡ b)
same_done v a b u is = (cc, cc)

-- an operation that does not stop has no reason to
pub done_of : (stops : Stops) (it : Value) (next before : Machine) (v : Value) (after : Machine) → unless_stopped stops it next before ≡ done v after
    → (first_stop stops ≡ None) × (it ≡ v) × (next ≡ after)
done_of stops it next before v after is = by_first (first_stop stops) refl is
  where
    by_first : (why : Option Stop) → first_stop stops ≡ why → by_stop why it next before ≡ done v after
        → (first_stop stops ≡ None) × (it ≡ v) × (next ≡ after)
    by_first None so is = (so, (same_done it next after v is).0, (same_done it next after v is).1)
    by_first (Some why) so is = absurd cc

module _ (program : CodeProgram) (may : ℕ → May) (sets : ℕ → ℕ → Bool) (impact : Impact) (here : Here) (ws : List Wait) (its : Placed)
    (operation : Operation) (count : ℕ) (machine : Machine) (good : Good program may sets impact here machine ws) (v : Value) (after : Machine)
    (is : operate program.setting operation (taken count here.stack) machine ≡ done v after) where
  -- what facts of the function depend on
  abbrev scope : Scope
  scope = scope_of program here.function

  -- what a purgeable bit shows of the begin of the call
  abbrev marked_by : ℕ → Type 0
  marked_by = since_of may sets here.fn ws

  -- the call after it
  abbrev pub next_value : Here
  next_value = moved here (suc here.at) (v ∷ below count here.stack) (λ k. here.lasting k && steady_in machine after k)

  -- the blocks after it, in the effects of the operation
  pub done_since : (all : May) → SpeaksOf (since all) program.setting operation → Since all machine.blocks after.blocks
  done_since all speaks = subst (Keeps (since all) machine) is (operate_keeps (since all) program.setting operation (taken count here.stack) machine speaks)

  -- a new block has another number
  not_next : (n : ℕ) → IsAlive machine n → n ≡ length machine.blocks + 1 → IsMade after n → ⊥
  not_next n alive so now =
      no_next_block machine (subst (IsMade machine) (so ∙ one_more (length machine.blocks)) (record { block = alive.block; there = alive.there }))
    where
      one_more : (a : ℕ) → a + 1 ≡ suc a
      one_more a = omega arith

  -- what nothing else has, nothing else has after it
  pub new_after : (i n : ℕ) → i < length (below count here.stack) → NewAt here machine i n
      → OthersLack n i (v ∷ below count here.stack) × Lacking n after
  new_after i n low it = on hands
    where
      lack : AllByRecursion (Lacks n) (taken count here.stack)
      lack = taken_lack n i count here.stack [] low it.others tt

      hands : Lacks n v × Lacking n after
      hands =
          both
          (subst (OnDone (Gets n machine)) is (operate_hands n program.setting operation (taken count here.stack) machine lack it.nowhere))
        where
          both : Gets n machine v after → Lacks n v × Lacking n after
          both got = (got.0 (not_next n it.alive), got.1)

      on : Lacks n v × Lacking n after → OthersLack n i (v ∷ below count here.stack) × Lacking n after
      on now = ((inr now.0, others_below n i count here.stack it.others), now.1)

  -- the places below it
  pub places_after : (i : ℕ) → i < length (below count here.stack) → at_place i (v ∷ below count here.stack) ≡ at_place i here.stack
  places_after i low = under_top i v (below count here.stack) low ∙ below_place i count here.stack low

  -- ---- an operation that sets no variable

  module _ (no_set : variables.is_set operation ≡ false) where
    done_variables : variables.SameVariables machine after
    done_variables =
        subst (variables.KeepsVariables machine) is (variables.operate_keeps program.setting operation (taken count here.stack) machine no_set)

    -- each variable has what it had
    pub values_after : (x : Variable) → value_of after x ≡ value_of machine x
    values_after (name.Global g) = ap (λ gs. value_of_slot (slice_get gs g)) done_variables.0
    values_after (name.Local i) = ap (λ ls. value_of_slot (slice_get ls i)) done_variables.1

    -- the globals too
    pub globals_after : (g : ℕ) → sets here.fn g ≡ false → slice_get after.globals g ≡ slice_get machine.globals g
    globals_after g none = ap (λ gs. slice_get gs g) done_variables.0

    module _ (quiet : May) (speaks : SpeaksOf (since quiet) program.setting operation) (no_unlocks : quiet.unlocks ≡ false)
        (no_disposes : quiet.disposes ≡ false) where
      -- what is left to show of an operation that unlocks nothing and disposes of nothing
      pub value_sound : ((R : MustFact → Type 0) → ((fact : MustFact) → R fact → AreNames scope here.function.code fact)
          → (are : AllTrue R here machine marked_by)
          → QuietOwes scope here.function.code R (changes.Stays scope here.function.code impact R its.op its.places)
          (changes.Brings scope here.function.code impact R its.op its.places) (length (below count here.stack)) here machine after marked_by are
          (suc here.at) (v ∷ below count here.stack) good.lasts values_after quiet (done_since quiet speaks) no_unlocks no_disposes)
          → SoundAt scope here.function.code impact marked_by its here machine next_value after
      value_sound owes R names are =
          quiet_true scope here.function.code R (changes.Stays scope here.function.code impact R its.op its.places)
          (changes.Brings scope here.function.code impact R its.op its.places) (length (below count here.stack)) here machine after marked_by are
          (suc here.at) (v ∷ below count here.stack) good.lasts values_after quiet (done_since quiet speaks) no_unlocks no_disposes (owes R names are)

      -- an operation that is not in the table of changes
      pub bare_value : ((R : MustFact → Type 0) (fact : MustFact) → changes.Stays scope here.function.code impact R its.op its.places fact
          → Under (length (below count here.stack)) fact)
          → ((R : MustFact → Type 0) (fact : MustFact) → changes.Brings scope here.function.code impact R its.op its.places fact → ⊥)
          → SoundAt scope here.function.code impact marked_by its here machine next_value after
      bare_value under none R names are =
          bare_true scope here.function.code R (changes.Stays scope here.function.code impact R its.op its.places)
          (changes.Brings scope here.function.code impact R its.op its.places) (length (below count here.stack)) here machine after marked_by are
          (suc here.at) (v ∷ below count here.stack) good.lasts values_after quiet (done_since quiet speaks) no_unlocks no_disposes (under R) places_after
          (λ i n keep it. new_after i n (under R (New i) keep) it) (none R)
