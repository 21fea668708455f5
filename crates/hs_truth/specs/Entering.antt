-- A call begins: no must fact holds yet, and what its caller could not pass on is nowhere (own).
--     entered_good
use Rattle.std.proofs.Common.{◌≡◌, ℕ, zero, Bool, List, [], ◌∷◌, slice_get, refl, sym, ap, subst}
use Rattle.std.specs.List.{AllByRecursion}
use Rattle.hs_base.specs.declared.pos.Pos.{Pos}
use Rattle.hs_calls.specs.Calls.{Here, Wait, IsWait, beginning}
use Rattle.hs_calls.specs.Stacks.{RanTo}
use Rattle.hs_code_run.specs.Codes.{CodeProgram, scope_of}
use Rattle.hs_code_run.specs.Steps.{taken}
use Rattle.hs_facts.specs.Changes.{Impact}
use Rattle.hs_hiding.specs.Calls.{opened_lacks, SameOutside, opened_same}
use Rattle.hs_hiding.specs.Holding.{Lacking, Lacks, OnDone, LackingOutside}
use Rattle.hs_meaning.specs.Frames.{opened}
use Rattle.hs_meaning.specs.Machine.{Machine, Done, done, stopped}
use Rattle.hs_meaning.specs.Steps.{State, acts, ran_at}
use Rattle.hs_meaning.specs.declared.outcome.Outcome.{Outcome}
use Rattle.hs_sound_heap.specs.Since.{May, Since, since_refl}
use Rattle.hs_truth.specs.Good.{alive_same, fixed_same, exists_same, outside_of, Good, there_after}
use Rattle.hs_truth.specs.Linked.{since_of, Without}
use Rattle.hs_truth.specs.Places.{all_taken}
use Rattle.hs_truth.specs.Truth.{at_entry}

module _ (program : CodeProgram) (may : ℕ → May) (sets : ℕ → ℕ → Bool) (impact : Impact) where
  -- ---- a call begins

  module _ (E : Outcome → State → Type 0) (ends : (outcome : Outcome) (s : State) → E outcome s) (w : Wait) (ws : List Wait)
      (waits : IsWait program w) (good : Good program may sets impact w.here w.machine ws) where
    -- the call that begins
    abbrev new : Here
    new = beginning w.called w.callee w.machine

    begun : (after : Machine) → SameOutside w.machine after → ((n : ℕ) → AllByRecursion (Lacks n) (taken w.callee.parameters w.here.stack)
        → LackingOutside n w.machine → Lacking n after) → Good program may sets impact new after (w ∷ ws)
    begun after same lacks =
        record {
          found = waits.callee;
          lasts = λ n is. fixed_same w.machine after same.blocks n is;
          known = λ n never. unknown n (good.known n (λ e. never (exists_same after w.machine (sym same.blocks) n e)));
          linked =
              record {
                fn = refl;
                function = refl;
                heap = subst (Since (may w.called) w.machine.blocks) (sym same.blocks) (since_refl (may w.called) w.machine.blocks);
                globals = λ g none. ap (λ gs. slice_get gs g) same.globals;
                through = λ none n is. is;
                lasted = λ n is p. there_after w.machine after same.blocks n p;
                hides = λ n hidden. record {
                  without = record { places = tt; nowhere = lacks n hidden.arguments hidden.outside };
                  alive = alive_same w.machine after same.blocks n hidden.alive;
                };
              };
          round = zero;
          facts = at_entry (scope_of program w.callee) w.callee.code impact (since_of may sets w.called (w ∷ ws)) new after refl;
        }
      where
        unknown : (n : ℕ) → Without n w.here w.machine → Without n new after
        unknown n its =
            record {
              places = tt;
              nowhere = lacks n (all_taken (Lacks n) w.callee.parameters w.here.stack [] its.places tt) (outside_of n w.machine its.nowhere);
            }

    pub entered_good : (at : Pos) (s : State) → s.machine ≡ w.machine
        → RanTo E (λ it t. Good program may sets impact new t.machine (w ∷ ws))
        (acts at (opened program.setting w.callee.parameters w.callee.variables (taken w.callee.parameters w.here.stack)) s)
    entered_good at s so =
        subst (λ m. RanTo E (λ it t. Good program may sets impact new t.machine (w ∷ ws)) (ran_at at s (act m))) (sym so)
        (by_done (act w.machine) (opened_same program.setting w.callee.parameters w.callee.variables (taken w.callee.parameters w.here.stack) w.machine)
        (λ n is are. opened_lacks n program.setting w.callee.parameters w.callee.variables (taken w.callee.parameters w.here.stack) w.machine is are))
      where
        act : Machine → Done (Unit {0})
        act = opened program.setting w.callee.parameters w.callee.variables (taken w.callee.parameters w.here.stack)

        by_done : (its : Done (Unit {0})) → OnDone (λ it after. SameOutside w.machine after) its
            → ((n : ℕ) → AllByRecursion (Lacks n) (taken w.callee.parameters w.here.stack) → LackingOutside n w.machine → OnDone
            (λ it after. Lacking n after) its)
            → RanTo E (λ it t. Good program may sets impact new t.machine (w ∷ ws)) (ran_at at s its)
        by_done (done it after) same lacks = begun after same lacks
        by_done (stopped why after) same lacks = ends _ _
