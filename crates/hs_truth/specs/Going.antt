-- Any other operation, from what it owes to the calls (own).
--     Owes           what it owes, seen from the calls
--     goes_on        the fact of the call after it
use Rattle.std.proofs.Common.{◌≡◌, ◌⊎◌, inl, inr, ℕ, suc, Bool, true, false, not, ◌&&◌, ◌||◌, List, [], ◌∷◌, slice_get, Option, Some, None, refl, sym, ap, ◌∙◌}
use Rattle.std.proofs.lemmas.Bool.{and_parts}
use Rattle.hs_calls.specs.Calls.{Here, Wait, moved, is_fixed, fixed_in, steady_in}
use Rattle.hs_code.specs.Following.{IsNext}
use Rattle.hs_code.specs.declared.function_code.Placed.{Placed}
use Rattle.hs_code_run.specs.Codes.{CodeProgram, scope_of}
use Rattle.hs_facts.specs.Changes.{Impact}
use Rattle.hs_heap.specs.Blocks.{Block}
use Rattle.hs_heap.specs.Memory.{block_at}
use Rattle.hs_heap.specs.Shift.{is_present}
use Rattle.hs_hiding.specs.Holding.{IsMade, IsPresent, IsAlive}
use Rattle.hs_meaning.specs.Machine.{Machine}
use Rattle.hs_meaning.specs.Values.{Value}
use Rattle.hs_sound_heap.specs.Since.{May, Since}
use Rattle.hs_truth.specs.Good.{is_old, Good}
use Rattle.hs_truth.specs.Linked.{IsLinked, since_of, Linked, Without, Hidden}
use Rattle.hs_truth.specs.Truth.{one_step, SoundAt}

module _ (program : CodeProgram) (may : ℕ → May) (sets : ℕ → ℕ → Bool) (impact : Impact) where
  -- what it owes, seen from the calls; `after` is the machine after it, and `at` and `stack` are those of the call
  pub record Owes (here : Here) (machine after : Machine) (ws : List Wait) (its : Placed) (at : ℕ) (stack : List Value) : Type 1 where
    pub there : slice_get here.function.code.ops here.at ≡ Some its
    pub follows : IsNext its.op here.function.code.cases here.at at
    pub heap : (w : Wait) (vs : List Wait) → ws ≡ w ∷ vs → Linked may sets here machine w → Since (may here.fn) w.machine.blocks after.blocks
    pub steady : (w : Wait) (vs : List Wait) → ws ≡ w ∷ vs → Linked may sets here machine w → (may here.fn).unlocks ≡ false → (n : ℕ) → here.lasting n ≡ true
        → steady_in machine after n ≡ true
    pub globals : (g : ℕ) → sets here.fn g ≡ false → slice_get after.globals g ≡ slice_get machine.globals g
    pub without : (n : ℕ) → (IsMade machine n) ⊎ (IsMade after n → ⊥) → Without n here machine
        → Without n (moved here at stack (λ k. here.lasting k && steady_in machine after k)) after
    pub alive : (n : ℕ) → Without n here machine → IsAlive machine n → IsAlive after n
    pub exists : (n : ℕ) → IsMade machine n → IsMade after n
    pub sound : SoundAt (scope_of program here.function) here.function.code impact (since_of may sets here.fn ws) its here machine
        (moved here at stack (λ k. here.lasting k && steady_in machine after k)) after

  module _ (here : Here) (machine after : Machine) (ws : List Wait) (its : Placed) (at : ℕ) (stack : List Value)
      (owes : Owes here machine after ws its at stack) (good : Good program may sets impact here machine ws) where
    -- the call after it
    abbrev next : Here
    next = moved here at stack (λ k. here.lasting k && steady_in machine after k)

    parts : (n : ℕ) → (here.lasting n && steady_in machine after n) ≡ true → (here.lasting n ≡ true) × (steady_in machine after n ≡ true)
    parts n is = and_parts (here.lasting n) (steady_in machine after n) is

    steady_parts : (n : ℕ) → steady_in machine after n ≡ true
        → (fixed_in after n ≡ true) × (is_old (block_at machine.blocks n) (block_at after.blocks n) ≡ true)
    steady_parts n is = and_parts (fixed_in after n) (is_old (block_at machine.blocks n) (block_at after.blocks n)) is

    both_so : (a b : Bool) → a ≡ true → b ≡ true → (a && b) ≡ true
    both_so true b is so = so
    both_so false b is so = is

    was_present : (n : ℕ) → here.lasting n ≡ true → is_old (block_at machine.blocks n) (block_at after.blocks n) ≡ true → IsPresent after n
        → IsPresent machine n
    was_present n lasting is p = by_block (block_at machine.blocks n) refl
        (ap (is_old (block_at machine.blocks n)) (sym p.there) ∙ is) (good.lasts n lasting)
      where
        by_presence : (a b : Bool) → (a || not b) ≡ true → b ≡ true → a ≡ true
        by_presence true b is so = refl
        by_presence false true is so = is
        by_presence false false is so = so

        by_block : (found : Option Block) → block_at machine.blocks n ≡ found → is_old found (Some p.block) ≡ true → is_fixed found ≡ true → IsPresent machine n
        by_block None there is fixed = absurd cc
        by_block (Some b) there is fixed =
            record { block = b; there = there; present = by_presence (is_present b.presence) (is_present p.block.presence) is p.present }

    linked_next : (w : Wait) (vs : List Wait) → ws ≡ w ∷ vs → Linked may sets here machine w → Linked may sets next after w
    linked_next w vs is_first old =
        record {
          fn = old.fn;
          function = old.function;
          heap = owes.heap w vs is_first old;
          globals = λ g none. owes.globals g none ∙ old.globals g none;
          through = λ none n is.
              both_so (here.lasting n) (steady_in machine after n) (old.through none n is) (owes.steady w vs is_first old none n (old.through none n is));
          lasted = λ n is p. old.lasted n (parts n is).0 (was_present n (parts n is).0 (steady_parts n (parts n is).1).1 p);
          hides = λ n hidden. hidden_next n (old.hides n hidden);
        }
      where
        hidden_next : (n : ℕ) → Hidden n here machine → Hidden n next after
        hidden_next n h =
            record {
              without = owes.without n (inl (record { block = h.alive.block; there = h.alive.there })) h.without;
              alive = owes.alive n h.without h.alive;
            }

    links_next : (vs : List Wait) → ws ≡ vs → IsLinked may sets here machine vs → IsLinked may sets next after vs
    links_next [] is old = tt
    links_next (v ∷ vs) is old = linked_next v vs is old

    pub goes_on : Good program may sets impact next after ws
    goes_on =
        record {
          found = good.found;
          lasts = λ n is. (steady_parts n (parts n is).1).0;
          known = λ n never. owes.without n (inr never) (good.known n (λ e. never (owes.exists n e)));
          linked = links_next ws refl good.linked;
          round = suc good.round;
          facts =
              one_step (scope_of program here.function) here.function.code impact (since_of may sets here.fn ws) good.round its here next machine after
              owes.there owes.follows owes.sound good.facts;
        }
