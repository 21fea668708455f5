-- A call returns: what the caller is owed by what the call knows of it, and the facts of the call (own).
--     returned_good
use Rattle.std.proofs.Common.{◌≡◌, ℕ, suc, ◌-◌, Bool, true, false, ◌&&◌, List, [], ◌∷◌, length, slice_get, refl, sym, ap, ◌∙◌, subst}
use Rattle.std.proofs.lemmas.Bool.{and_parts}
use Rattle.std.specs.List.{AllByRecursion}
use Rattle.hs_calls.specs.Calls.{Here, Wait, IsWait, resumed}
use Rattle.hs_code.specs.Following.{IsNext}
use Rattle.hs_code.specs.Stacks.{Scope}
use Rattle.hs_code.specs.declared.op.Op.TheVariants as op
use Rattle.hs_code_run.specs.Codes.{CodeProgram, scope_of}
use Rattle.hs_code_run.specs.Steps.{below}
use Rattle.hs_facts.specs.Changes.{Impact, Gives}
use Rattle.hs_facts.specs.MustFacts.{AreNames}
use Rattle.hs_facts.specs.Names.{taken as taken_by}
use Rattle.hs_hiding.specs.Blocks.{made_since}
use Rattle.hs_hiding.specs.Calls.{closed_same, closed_lacks, SameOutside}
use Rattle.hs_hiding.specs.Holding.{Lacks}
use Rattle.hs_meaning.specs.Frames.{closed}
use Rattle.hs_meaning.specs.Machine.{Machine}
use Rattle.hs_meaning.specs.Values.{Value}
use Rattle.hs_sound_heap.specs.Since.{May, IsWithin, Since, since_trans, since_more}
use Rattle.hs_truth.specs.Calling.{call_true}
use Rattle.hs_truth.specs.Good.{CallsClosed, none_within, alive_same, fixed_same, exists_same, outside_of, Good, there_after}
use Rattle.hs_truth.specs.Linked.{IsLinked, since_of, Linked, Without, HiddenAt, Hidden}
use Rattle.hs_truth.specs.Places.{all_below, all_taken}
use Rattle.hs_truth.specs.Truth.{AllTrue, one_step, SoundAt}

module _ (program : CodeProgram) (may : ℕ → May) (sets : ℕ → ℕ → Bool) (impact : Impact) where
  -- ---- a call returns

  module _ (closed_calls : CallsClosed program may sets impact) (unlocked : (f : ℕ) → (may f).unlocks ≡ true → impact.unlocks f)
      (disposed : (f : ℕ) → (may f).disposes ≡ true → impact.disposes f) (assigned : (f g : ℕ) → sets f g ≡ true → impact.assigns f g)
      (here : Here) (machine : Machine) (w : Wait) (ws : List Wait) (waits : IsWait program w) (value : Value) (rest : List Value)
      (so : here.stack ≡ value ∷ rest)
      (deep : waits.its.places - taken_by (scope_of program w.here.function) (op.Call w.called) ≡ length (below w.callee.parameters w.here.stack))
      (good : Good program may sets impact here machine (w ∷ ws)) (waiting : Good program may sets impact w.here w.machine ws) where
    -- the call that goes on again
    abbrev back : Here
    back = resumed w value here.lasting

    -- the machine after the return
    abbrev after : Machine
    after = closed w.machine.locals machine

    same : SameOutside machine after
    same = closed_same w.machine.locals machine

    link : Linked may sets here machine w
    link = good.linked

    within : IsWithin (may here.fn) (may w.here.fn)
    within = subst (λ f. IsWithin (may f) (may w.here.fn)) (sym link.fn) (closed_calls.effects w waits waiting.found)

    returned_without : (n : ℕ) → Without n w.here w.machine → Without n here machine → Without n back after
    returned_without n old new =
        record {
          places = ((subst (AllByRecursion (Lacks n)) so new.places).0, all_below (Lacks n) w.callee.parameters w.here.stack old.places);
          nowhere = closed_lacks n w.machine.locals machine old.nowhere.locals (outside_of n machine new.nowhere);
        }

    both : (n : ℕ) → (w.here.lasting n && here.lasting n) ≡ true → (w.here.lasting n ≡ true) × (here.lasting n ≡ true)
    both n is = and_parts (w.here.lasting n) (here.lasting n) is

    each : (n : ℕ) → w.here.lasting n ≡ true → here.lasting n ≡ true → (w.here.lasting n && here.lasting n) ≡ true
    each n is so = by_first (w.here.lasting n) is
      where
        by_first : (z : Bool) → z ≡ true → (z && here.lasting n) ≡ true
        by_first true is = so
        by_first false is = is

    -- a block that the caller of the caller could not pass on, the caller cannot pass on either
    handed : (n : ℕ) → Hidden n w.here w.machine → HiddenAt w n
    handed n hidden =
        record {
          arguments = all_taken (Lacks n) w.callee.parameters w.here.stack [] hidden.without.places tt;
          outside = outside_of n w.machine hidden.without.nowhere;
          alive = hidden.alive;
        }

    linked_back : (v : Wait) → Linked may sets w.here w.machine v → Linked may sets back after v
    linked_back v old =
        record {
          fn = old.fn;
          function = old.function;
          heap =
              subst (Since (may w.here.fn) v.machine.blocks) (sym same.blocks)
              (since_trans (may w.here.fn) v.machine.blocks w.machine.blocks machine.blocks old.heap
              (since_more (may here.fn) (may w.here.fn) w.machine.blocks machine.blocks within link.heap));
          globals = λ g none.
              ap (λ gs. slice_get gs g) same.globals
              ∙ link.globals g (ap (λ f. sets f g) link.fn ∙ closed_calls.globals w waits waiting.found g none)
              ∙ old.globals g none;
          through = λ none n is.
              each n (old.through none n is)
              (link.through (none_within (may here.fn).unlocks (may w.here.fn).unlocks within.unlocks none) n (waiting.lasts n (old.through none n is)));
          lasted = λ n is p. old.lasted n (both n is).0 (link.lasted n (both n is).1 (there_after machine after same.blocks n p));
          hides = λ n hidden. hidden_back n (old.hides n hidden);
        }
      where
        hidden_back : (n : ℕ) → Hidden n w.here w.machine → Hidden n back after
        hidden_back n hidden = on (link.hides n (handed n hidden))
          where
            on : Hidden n here machine → Hidden n back after
            on new =
                record { without = returned_without n hidden.without new.without; alive = alive_same machine after same.blocks n new.alive }

    links : (vs : List Wait) → IsLinked may sets w.here w.machine vs → IsLinked may sets back after vs
    links [] old = tt
    links (v ∷ vs) old = linked_back v old

    pub returned_good : Good program may sets impact back after ws
    returned_good =
        record {
          found = waiting.found;
          lasts = λ n is. fixed_same machine after same.blocks n (good.lasts n (both n is).1);
          known = λ n never.
              returned_without n
              (waiting.known n (λ e. never (exists_same after machine (sym same.blocks) n (made_since (may here.fn) w.machine machine n link.heap e))))
              (good.known n (λ e. never (exists_same after machine (sym same.blocks) n e)));
          linked = links ws waiting.linked;
          round = suc waiting.round;
          facts =
              one_step scope w.here.function.code impact since waiting.round waits.its w.here back w.machine after waits.there
              (subst (λ o. IsNext o w.here.function.code.cases w.here.at (suc w.here.at)) (sym waits.calls) refl) sound waiting.facts;
        }
      where
        scope : Scope
        scope = scope_of program w.here.function

        since : ℕ → Type 0
        since = since_of may sets w.here.fn ws

        sound : SoundAt (scope_of program w.here.function) w.here.function.code impact (since_of may sets w.here.fn ws) waits.its w.here w.machine back after
        sound R names are =
            subst (λ o. AllTrue (λ fact. AreNames (scope_of program w.here.function) w.here.function.code fact
            × Gives (scope_of program w.here.function) w.here.function.code impact R o waits.its.places fact) back after (since_of may sets w.here.fn ws))
            (sym waits.calls)
            (call_true may sets impact unlocked disposed assigned (scope_of program w.here.function) w.here.function.code R w
            (since_of may sets w.here.fn ws) are
            waits.its.places deep here machine value rest so link good.lasts)
        -- ---- any other operation
