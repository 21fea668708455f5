-- Fuel: a run never needs more fuel than one for each turn, and one.
--     Bounded most            the pace: one state, with at most so many turns
--     enough_fuel             the law
use Rattle.std.proofs.Common.{◌≡◌, ◌≤◌, ℤ, ℕ, zero, suc, List, slice_get, refl, sym, ap, ◌∙◌, subst, arith}
use Rattle.hs_base.specs.declared.pos.Pos.{Pos}
use Rattle.hs_heap.specs.declared.decision.Decision.{Decision}
use Rattle.hs_meaning.specs.Beside.{Relation, Alike, Follows, Same, Lists, Flows, Leaves, Agains}
use Rattle.hs_meaning.specs.Beside.Calls as calls
use Rattle.hs_meaning.specs.Beside.Statements as statements
use Rattle.hs_meaning.specs.Evaluation.{Flow, Job}
use Rattle.hs_meaning.specs.Laws.Paces.{Pace, at_pace, leaves_at, decides_by}
use Rattle.hs_meaning.specs.Machine.{Done, done, stopped}
use Rattle.hs_meaning.specs.Runs.{work, called, again_within, starting, ran_within}
use Rattle.hs_meaning.specs.Statements.{next_turn}
use Rattle.hs_meaning.specs.Settings.{Setting, setting_of}
use Rattle.hs_meaning.specs.Steps.{State, Ran, went, over, Step, then_with, ran_at, turn_from}
use Rattle.hs_meaning.specs.Values.{Value}
use Rattle.hs_meaning.specs.declared.input.Input.{Input}
use Rattle.hs_meaning.specs.declared.outcome.Outcome.{Outcome}
use Rattle.hs_meaning.specs.declared.outcome.Outcome.TheVariants.{Finished}
use Rattle.hs_tree.specs.Trees.{TypedFunction, TypedStatement, TypedProgram}

-- the other run has ended likewise
abbrev pub IsEnding : {A : Type 0} → Outcome → State → Ran A → Type 0
IsEnding outcome s r = r ≡ over outcome s

-- and so it has after what follows
pub ending_then : {A B : Type 0} → (outcome : Outcome) (s : State) (r : Ran A) (next : A → Step B) → IsEnding outcome s r
    → IsEnding outcome s (then_with next r)
ending_then outcome s r next is = ap (then_with next) is

-- both runs are in one state, with at most so many turns
abbrev pub Bounded : ℕ → Pace
Bounded most =
    record {
      states = λ s t. (t ≡ s) × (s.turns ≤ most);
      ended = λ outcome s r. IsEnding outcome s r;
      ended_then = λ outcome s r next is. ending_then outcome s r next is;
    }

-- what was so with fewer turns is so with more
looser : {A : Type 0} → (same : A → A → Type 0) (most : ℕ) (r r' : Ran A) → Alike (at_pace (Bounded most)) same r r'
    → Alike (at_pace (Bounded (suc most))) same r r'
looser same most (went a s) (went b t) is = (is.0, (is.1.0, bound is.1.1))
  where
    bound : s.turns ≤ most → s.turns ≤ suc most
    bound is = omega (arith, is)
looser same most (went a s) (over outcome t) is = absurd is
looser same most (over outcome s) r is = is

module _ (most : ℕ) where
  abbrev relation : Relation
  relation = at_pace (Bounded most)

  -- from the state itself it is enough
  from_one : {A : Type 0} → {same : A → A → Type 0} → {f g : Step A} → ((s : State) → s.turns ≤ most → Alike relation same (f s) (g s))
      → Follows relation same f g
  from_one {same = same} {f = f} {g = g} each =
      record { go = λ s t is. subst (λ x. Alike relation same (f s) (g x)) (sym is.0) (each s is.1) }

  done_alike : {A : Type 0} → (at : Pos) (s : State) (its : Done A) → s.turns ≤ most → Alike relation Same (ran_at at s its) (ran_at at s its)
  done_alike at s (done it machine) bound = (refl, (refl, bound))
  done_alike at s (stopped why machine) bound = refl

  leaves : (setting : Setting) → Leaves relation setting
  leaves setting =
      leaves_at (Bounded most) setting
      (record {
        acts_alike = λ {A = A} at act. from_one (λ s bound. done_alike at s (act s.machine) bound);
        finishes = λ {A = A} value s t is. ap (over (Finished value)) is.0;
        decides = λ place. decides_by (Bounded most) (λ powers. from_one (λ s bound. (tt, (refl, bound)))) (slice_get setting.routines place);
      })

-- a job with its turn, if what follows the turn is so with one turn less
worked : (most : ℕ) (f g : Step Flow) → ((fewer : ℕ) → most ≡ suc fewer → Follows (at_pace (Bounded fewer)) (Flows (at_pace (Bounded fewer))) f g)
    → (s : State) (left : ℕ) → left ≤ most
    → Alike (at_pace (Bounded most)) (Flows (at_pace (Bounded most))) (then_with (λ it. f) (turn_from left s)) (then_with (λ it. g) (turn_from left s))
worked most f g after s zero bound = refl
worked zero f g after s (suc left) bound = absurd (omega (arith, bound))
worked (suc most) f g after s (suc left) bound =
    looser (Flows (at_pace (Bounded most))) most (f (record s { turns = left })) (g (record s { turns = left }))
    ((after most refl).go (record s { turns = left }) (record s { turns = left }) (refl, fewer))
  where
    fewer : left ≤ most
    fewer = omega (arith, bound)

module _ (setting : Setting) (functions : List TypedFunction) where
  next_alike : (fewer : ℕ) (again other : Job → Step Flow) → Agains (at_pace (Bounded fewer)) again other → (function : TypedFunction)
      (it : TypedStatement) → Follows (at_pace (Bounded fewer)) (Flows (at_pace (Bounded fewer))) (next_turn setting again function it)
      (next_turn setting other function it)
  next_alike fewer again other inner function it =
      statements.next_turn_follows (at_pace (Bounded fewer)) setting (leaves fewer setting) again other inner function it

  call_alike : (fewer : ℕ) (again other : Job → Step Flow) → Agains (at_pace (Bounded fewer)) again other → (place : ℕ) (at : Pos)
      (a b : List Value) → Lists (at_pace (Bounded fewer)) a b → Follows (at_pace (Bounded fewer)) (Flows (at_pace (Bounded fewer)))
      (called setting again at a (slice_get functions place)) (called setting other at b (slice_get functions place))
  call_alike fewer again other inner place at a b is =
      calls.called_follows (at_pace (Bounded fewer)) setting (leaves fewer setting) again other inner at a b (slice_get functions place) is

  -- jobs whose turn is one of so many, if what follows the turn is so with one turn less
  jobs_alike : (most : ℕ) (again other : Job → Step Flow)
      → ((fewer : ℕ) → most ≡ suc fewer → Agains (at_pace (Bounded fewer)) again other)
      → Agains (at_pace (Bounded most)) (work setting functions again) (work setting functions other)
  jobs_alike most again other inner =
      record {
        turns = λ function it. from_one most (λ s bound. worked most (next_turn setting again function it) (next_turn setting other function it)
            (λ fewer is. next_alike fewer again other (inner fewer is) function it) s s.turns bound);
        calls = λ place at a b is. from_one most (λ s bound. worked most (called setting again at a (slice_get functions place))
            (called setting other at b (slice_get functions place)) (λ fewer same. call_alike fewer again other (inner fewer same) place at a b is)
            s s.turns bound);
      }

  -- with fuel for so many turns and one, and with more
  pub enough_again : (most fuel : ℕ) → most ≤ fuel
      → Agains (at_pace (Bounded most)) (again_within setting functions (suc most)) (again_within setting functions (suc fuel))
  enough_again zero fuel enough = jobs_alike zero (again_within setting functions zero) (again_within setting functions fuel) (λ fewer is. absurd cc)
  enough_again (suc most) zero enough = absurd (omega (arith, enough))
  enough_again (suc most) (suc fuel) enough =
      jobs_alike (suc most) (again_within setting functions (suc most)) (again_within setting functions (suc fuel))
      (λ fewer is. subst (λ n. Agains (at_pace (Bounded n)) (again_within setting functions (suc most))
      (again_within setting functions (suc fuel))) (less fewer is)
      (enough_again most fuel within))
    where
      within : most ≤ fuel
      within = omega (arith, enough)

      less : (fewer : ℕ) → suc most ≡ suc fewer → most ≡ fewer
      less fewer is = omega (arith, is)

-- two runs that come to the same
one_run : (most : ℕ) (r r' : Ran ℤ) → Alike (at_pace (Bounded most)) Same r r' → r' ≡ r
one_run most (went a s) (went b t) is = ap (λ x. went b x) is.1.0 ∙ ap (λ x. went x s) (sym is.0)
one_run most (went a s) (over outcome t) is = absurd is
one_run most (over outcome s) r is = is

-- more fuel than one for each turn, and one, changes nothing
pub enough_fuel : (program : TypedProgram) (input : Input) (schedule : List Decision) (turns fuel : ℕ) → turns ≤ fuel
    → ran_within (suc fuel) program input schedule turns ≡ ran_within (suc turns) program input schedule turns
enough_fuel program input schedule turns fuel enough =
    one_run turns (ran_within (suc turns) program input schedule turns) (ran_within (suc fuel) program input schedule turns)
    ((calls.main_follows (at_pace (Bounded turns)) (setting_of program) (leaves turns (setting_of program))
    (again_within (setting_of program) program.functions (suc turns)) (again_within (setting_of program) program.functions (suc fuel))
    (enough_again (setting_of program) program.functions turns fuel enough) (slice_get program.functions program.main)).go
    (starting (setting_of program) input schedule turns) (starting (setting_of program) input schedule turns) (refl, itself turns))
  where
    itself : (n : ℕ) → n ≤ n
    itself n = omega arith
