-- Turns: a run that is not spent stays the same with more turns.
--     later more s                         the state with more turns
--     MoreTurns more                       the pace
--     stays_with_more_turns                the law
use Rattle.std.proofs.Common.{◌≡◌, ◌≤◌, ℤ, ℕ, zero, suc, ◌+◌, List, slice_get, refl, sym, ap, ◌∙◌, subst, arith}
use Rattle.hs_base.specs.declared.pos.Pos.{Pos}
use Rattle.hs_heap.specs.declared.decision.Decision.{Decision}
use Rattle.hs_meaning.specs.Beside.{Relation, Alike, Follows, Units, Same, Leaves}
use Rattle.hs_meaning.specs.Beside.Calls as calls
use Rattle.hs_meaning.specs.Laws.Fuel.{enough_fuel}
use Rattle.hs_meaning.specs.Laws.Paces.{Pace, at_pace, leaves_at, decides_by}
use Rattle.hs_meaning.specs.Machine.{Done, done, stopped}
use Rattle.hs_meaning.specs.Runs.{starting, ran_within, run, ending_of}
use Rattle.hs_meaning.specs.Settings.{Setting, setting_of}
use Rattle.hs_meaning.specs.Steps.{State, Ran, went, over, Step, then_with, ran_at, turn, turn_from}
use Rattle.hs_meaning.specs.declared.input.Input.{Input}
use Rattle.hs_meaning.specs.declared.outcome.Outcome.{Outcome}
use Rattle.hs_meaning.specs.declared.outcome.Outcome.TheVariants.{Finished, Stopped, TurnsSpent}
use Rattle.hs_tree.specs.Trees.{TypedProgram}

-- the same state, with so many turns more
abbrev pub later : ℕ → State → State
later more s = record s { turns = s.turns + more }

-- a run that is spent says nothing; one that has ended otherwise is the same with more turns
abbrev pub IsKept : {A : Type 0} → ℕ → Outcome → State → Ran A → Type 0
IsKept more TurnsSpent s r = Unit {0}
IsKept more (Finished value) s r = r ≡ over (Finished value) (later more s)
IsKept more (Stopped why at) s r = r ≡ over (Stopped why at) (later more s)

-- and so it is after what follows
pub kept_then : {A B : Type 0} → (more : ℕ) (outcome : Outcome) (s : State) (r : Ran A) (next : A → Step B) → IsKept more outcome s r
    → IsKept more outcome s (then_with next r)
kept_then more TurnsSpent s r next is = tt
kept_then more (Finished value) s r next is = ap (then_with next) is
kept_then more (Stopped why at) s r next is = ap (then_with next) is

-- the second run has so many turns more
abbrev pub MoreTurns : ℕ → Pace
MoreTurns more =
    record {
      states = λ s t. t ≡ later more s;
      ended = λ outcome s r. IsKept more outcome s r;
      ended_then = λ outcome s r next is. kept_then more outcome s r next is;
    }

module _ (more : ℕ) where
  abbrev relation : Relation
  relation = at_pace (MoreTurns more)

  -- from the state itself it is enough
  from_later : {A : Type 0} → {same : A → A → Type 0} → {f g : Step A} → ((s : State) → Alike relation same (f s) (g (later more s)))
      → Follows relation same f g
  from_later {same = same} {f = f} {g = g} each =
      record { go = λ s t is. subst (λ x. Alike relation same (f s) (g x)) (sym is) (each s) }

  done_alike : {A : Type 0} → (at : Pos) (s : State) (its : Done A) → Alike relation Same (ran_at at s its) (ran_at at (later more s) its)
  done_alike at s (done it machine) = (refl, refl)
  done_alike at s (stopped why machine) = refl

  pub leaves : (setting : Setting) → Leaves relation setting
  leaves setting =
      leaves_at (MoreTurns more) setting
      (record {
        acts_alike = λ {A = A} at act. from_later (λ s. done_alike at s (act s.machine));
        finishes = λ {A = A} value s t is. ap (over (Finished value)) is;
        decides = λ place. decides_by (MoreTurns more) (λ powers. from_later (λ s. (tt, refl))) (slice_get setting.routines place);
      })

  turns_alike : (s : State) (n : ℕ) → s.turns ≡ n → Alike relation Units (turn_from n s) (turn_from (n + more) (later more s))
  turns_alike s zero is = tt
  turns_alike s (suc left) is =
      rw (the_sum left) (tt, refl)
    where
      the_sum : (left : ℕ) → suc left + more ≡ suc (left + more)
      the_sum left = omega arith

  pub turn_alike : Follows relation Units turn turn
  turn_alike = from_later (λ s. turns_alike s s.turns refl)

  pub alike_with_more_turns : (program : TypedProgram) (input : Input) (schedule : List Decision) (fuel turns : ℕ)
      → Alike relation Same (ran_within fuel program input schedule turns) (ran_within fuel program input schedule (turns + more))
  alike_with_more_turns program input schedule fuel turns =
      (calls.runs_follow relation (setting_of program) (leaves (setting_of program)) program.functions turn_alike (record { go = λ s t is. tt }) fuel
      (slice_get program.functions program.main)).go (starting (setting_of program) input schedule turns)
      (starting (setting_of program) input schedule (turns + more)) refl

-- ---- the law

-- what both come to, if the first is not spent
same_ending : (more : ℕ) (r r' : Ran ℤ) → Alike (at_pace (MoreTurns more)) Same r r' → ((ending_of r).outcome ≡ TurnsSpent → ⊥)
    → ending_of r' ≡ ending_of r
same_ending more (went a s) (went b t) is unspent =
    ap (λ t. ending_of (went b t)) is.1 ∙ ap (λ value. ending_of (went value (later more s))) (sym is.0)
same_ending more (went a s) (over outcome t) is unspent = absurd is
same_ending more (over TurnsSpent s) r is unspent = absurd (unspent refl)
same_ending more (over (Finished value) s) r is unspent = ap ending_of is
same_ending more (over (Stopped why at) s) r is unspent = ap ending_of is

-- a run that is not spent stays the same with more turns
pub stays_with_more_turns : (program : TypedProgram) (input : Input) (schedule : List Decision) (turns more : ℕ)
    → ((run program input schedule turns).outcome ≡ TurnsSpent → ⊥)
    → run program input schedule (turns + more) ≡ run program input schedule turns
stays_with_more_turns program input schedule turns more unspent =
    same_ending more (ran_within (suc (turns + more)) program input schedule turns)
    (ran_within (suc (turns + more)) program input schedule (turns + more))
    (alike_with_more_turns more program input schedule (suc (turns + more)) turns)
    (λ spent. unspent (sym (ap (λ r. (ending_of r).outcome) enough) ∙ spent))
    ∙ ap ending_of enough
  where
    within : turns ≤ turns + more
    within = omega arith

    enough : ran_within (suc (turns + more)) program input schedule turns ≡ ran_within (suc turns) program input schedule turns
    enough = enough_fuel program input schedule turns (turns + more) within
