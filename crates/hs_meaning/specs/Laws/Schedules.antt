-- Schedules: which of them change nothing.
--     nothing                          a decision that names no block
--     Unscheduled P                    the pace: the machines are the same, and the schedules are as P says
--     still_schedules_are_one          a schedule of decisions that name nothing is the empty one
--     movers_alone_see_schedules       no schedule changes a program without a routine that moves or purges
use Rattle.std.proofs.Common.{◌≡◌, ℤ, ℕ, zero, suc, Bool, true, false, ◌||◌, ◌&&◌, List, [], ◌∷◌, slice_get, Option, Some, None, refl, sym, ap, ◌∙◌, subst}
use Rattle.std.specs.List.{AllByRecursion}
use Rattle.hs_base.specs.declared.pos.Pos.{Pos}
use Rattle.hs_heap.specs.Blocks.{Block}
use Rattle.hs_heap.specs.Shift.{Powers, shift, shift_from, shifted}
use Rattle.hs_heap.specs.declared.decision.Decision.{Decision}
use Rattle.hs_heap.specs.declared.decision.Which.TheVariants.{These}
use Rattle.hs_meaning.specs.Beside.{Relation, Alike, Follows, gives, Units, Same, Leaves}
use Rattle.hs_meaning.specs.Beside.Calls as calls
use Rattle.hs_meaning.specs.Evaluation.{decided_by, powers_of}
use Rattle.hs_meaning.specs.Laws.Paces.{Pace, at_pace, leaves_at, decides_by}
use Rattle.hs_meaning.specs.Machine.{Done, done, stopped, with_blocks}
use Rattle.hs_meaning.specs.Runs.{starting, ran_within, run, still_run, ending_of}
use Rattle.hs_meaning.specs.Settings.{setting_of}
use Rattle.hs_meaning.specs.Steps.{State, Ran, went, over, Step, then_with, either, decided, next_decision, later_decisions, after_decision, ran_at, turn, turn_from}
use Rattle.hs_meaning.specs.declared.input.Input.{Input}
use Rattle.hs_meaning.specs.declared.outcome.Outcome.{Outcome}
use Rattle.hs_tree.specs.Trees.{TypedProgram}
use Rattle.hs_tree.specs.declared.function.BoundRoutine.{BoundRoutine}

-- it names no block
abbrev pub nothing : Decision
nothing = record { moves = These []; purges = These [] }

-- both have ended likewise, with one machine
abbrev pub EndsLikewise : {A : Type 0} → Outcome → State → Ran A → Type 0
EndsLikewise outcome s r = (t : State) × (r ≡ over outcome t) × (s.machine ≡ t.machine)

-- and so they have after what follows
pub likewise_then : {A B : Type 0} → (outcome : Outcome) (s : State) (r : Ran A) (next : A → Step B) → EndsLikewise outcome s r
    → EndsLikewise outcome s (then_with next r)
likewise_then outcome s r next is = (is.0, ap (then_with next) is.1, is.2)

-- the machines are the same, and the schedules are as P says
abbrev pub Unscheduled : (List Decision → List Decision → Type 0) → Pace
Unscheduled P =
    record {
      states = λ s t. (s.machine ≡ t.machine) × (s.turns ≡ t.turns) × P s.schedule t.schedule;
      ended = λ outcome s r. EndsLikewise outcome s r;
      ended_then = λ outcome s r next is. likewise_then outcome s r next is;
    }

module _ (P : List Decision → List Decision → Type 0) (program : TypedProgram)
    (decides : (place : ℕ)
    → Follows (at_pace (Unscheduled P)) Units (decided_by (slice_get program.routines place)) (decided_by (slice_get program.routines place))) where
  abbrev relation : Relation
  relation = at_pace (Unscheduled P)

  one_alike : {A : Type 0} → (at : Pos) (s t : State) (its : Done A) → s.turns ≡ t.turns → P s.schedule t.schedule
      → Alike relation Same (ran_at at s its) (ran_at at t its)
  one_alike at s t (done it machine) turns planned = (refl, (refl, turns, planned))
  one_alike at s t (stopped why machine) turns planned = (record t { machine = machine }, refl, refl)

  done_alike : {A : Type 0} → (at : Pos) (s t : State) (its other : Done A) → its ≡ other → s.turns ≡ t.turns → P s.schedule t.schedule
      → Alike relation Same (ran_at at s its) (ran_at at t other)
  done_alike at s t its other is turns planned =
      subst (λ x. Alike relation Same (ran_at at s its) (ran_at at t x)) is (one_alike at s t its turns planned)

  leaves : Leaves relation (setting_of program)
  leaves =
      leaves_at (Unscheduled P) (setting_of program)
      (record {
        acts_alike = λ {A = A} at act. record { go = λ s t is. done_alike at s t (act s.machine) (act t.machine) (ap act is.0) is.1 is.2 };
        finishes = λ {A = A} value s t is. (t, refl, is.0);
        decides = decides;
      })

  turns_alike : (s t : State) (n m : ℕ) → n ≡ m → s.machine ≡ t.machine → P s.schedule t.schedule
      → Alike relation Units (turn_from n s) (turn_from m t)
  turns_alike s t zero zero is same planned = (t, refl, same)
  turns_alike s t zero (suc m) is same planned = absurd cc
  turns_alike s t (suc n) zero is same planned = absurd cc
  turns_alike s t (suc n) (suc m) is same planned = (tt, (same, one_less is, planned))
    where
      one_less : suc n ≡ suc m → n ≡ m
      one_less is = omega (Rattle.std.proofs.Common.arith, is)

  turn_alike : Follows relation Units turn turn
  turn_alike = record { go = λ s t is. turns_alike s t s.turns t.turns is.1 is.0 is.2 }

  same_ending : (r r' : Ran ℤ) → Alike relation Same r r' → ending_of r ≡ ending_of r'
  same_ending (went a s) (went b t) is =
      ap (λ value. ending_of (went value s)) is.0 ∙ ap (λ m. ending_of (went b (record s { machine = m }))) is.1.0
  same_ending (went a s) (over outcome t) is = absurd is
  same_ending (over outcome s) r is =
      ap (λ m. ending_of (over outcome (record s { machine = m }))) is.2 ∙ sym (ap ending_of is.1)

  pub one_ending : (input : Input) (schedule other : List Decision) (turns : ℕ) → P schedule other
      → run program input schedule turns ≡ run program input other turns
  one_ending input schedule other turns planned =
      same_ending (ran_within (suc turns) program input schedule turns) (ran_within (suc turns) program input other turns)
      ((calls.runs_follow relation (setting_of program) leaves program.functions turn_alike (record { go = λ s t is. (t, refl, is.0) }) (suc turns)
      (slice_get program.functions program.main)).go (starting (setting_of program) input schedule turns)
      (starting (setting_of program) input other turns) (refl, refl, planned))

-- ---- decisions that name nothing

-- a schedule of them
abbrev pub AreStill : List Decision → Type 0
AreStill schedule = AllByRecursion (λ decision. decision ≡ nothing) schedule

stays_shifted : (powers : Powers) (number : ℕ) (block : Block) → shifted powers nothing number block ≡ block
stays_shifted powers number block = by_powers powers.moves powers.purges
  where
    by_powers : (moves purges : Bool) → shifted (record { moves = moves; purges = purges }) nothing number block ≡ block
    by_powers true true = refl
    by_powers true false = refl
    by_powers false true = refl
    by_powers false false = refl

stay_shifted : (powers : Powers) (number : ℕ) (blocks : List Block) → shift_from powers nothing number blocks ≡ blocks
stay_shifted powers number [] = refl
stay_shifted powers number (block ∷ blocks) =
    ap (λ b. b ∷ shift_from powers nothing (suc number) blocks) (stays_shifted powers number block)
    ∙ ap (λ bs. block ∷ bs) (stay_shifted powers (suc number) blocks)

next_nothing : (schedule : List Decision) → AreStill schedule → next_decision schedule ≡ nothing
next_nothing [] are = refl
next_nothing (decision ∷ rest) are = are.0

later_still : (schedule : List Decision) → AreStill schedule → AreStill (later_decisions schedule)
later_still [] are = tt
later_still (decision ∷ rest) are = are.1

-- a decision that names no block leaves the machine as it is
pub decision_stays : (powers : Powers) (s : State) → AreStill s.schedule → (after_decision powers s).machine ≡ s.machine
decision_stays powers s are =
    ap (λ decision. with_blocks (shift powers decision s.machine.blocks) s.machine) (next_nothing s.schedule are)
    ∙ ap (λ blocks. with_blocks blocks s.machine) (stay_shifted powers 1 s.machine.blocks)

-- both schedules name nothing
abbrev pub BothStill : List Decision → List Decision → Type 0
BothStill schedule other = AreStill schedule × AreStill other

still_decides : (powers : Powers) → Follows (at_pace (Unscheduled BothStill)) Units (decided powers) (decided powers)
still_decides powers =
    record {
      go = λ s t is. (
        tt,
        (
          decision_stays powers s is.2.0 ∙ is.0 ∙ sym (decision_stays powers t is.2.1),
          is.1,
          (later_still s.schedule is.2.0, later_still t.schedule is.2.1),
        ),
      );
    }

-- a schedule of decisions that name nothing is the empty one: such a run is the still run
pub still_schedules_are_one : (program : TypedProgram) (input : Input) (schedule : List Decision) (turns : ℕ) → AreStill schedule
    → run program input schedule turns ≡ still_run program input turns
still_schedules_are_one program input schedule turns are =
    one_ending BothStill program (λ place. decides_by (Unscheduled BothStill) still_decides (slice_get program.routines place)) input schedule [] turns
    (are, tt)

-- ---- programs without movers

-- no routine moves or purges
abbrev pub HasNoMovers : TypedProgram → Type 0
HasNoMovers program = AllByRecursion (λ it. (it.routine.moves || it.routine.purges) ≡ false) program.routines

-- nothing is asked of the schedules
abbrev pub AnySchedules : List Decision → List Decision → Type 0
AnySchedules schedule other = Unit {0}

unmoving : (it : BoundRoutine) → (it.routine.moves || it.routine.purges) ≡ false
    → Follows (at_pace (Unscheduled AnySchedules)) Units (decided_by (Some it)) (decided_by (Some it))
unmoving it is =
    subst (λ b. Follows (at_pace (Unscheduled AnySchedules)) Units (either b (decided (powers_of it)) (λ s. went tt s))
    (either b (decided (powers_of it)) (λ s. went tt s))) (sym is) (gives tt)

no_decisions : (routines : List BoundRoutine) → AllByRecursion (λ it. (it.routine.moves || it.routine.purges) ≡ false) routines → (place : ℕ)
    → Follows (at_pace (Unscheduled AnySchedules)) Units (decided_by (slice_get routines place)) (decided_by (slice_get routines place))
no_decisions [] none place = gives tt
no_decisions (it ∷ rest) none zero = unmoving it none.0
no_decisions (it ∷ rest) none (suc place) = no_decisions rest none.1 place

-- no schedule changes a run of such a program
pub movers_alone_see_schedules : (program : TypedProgram) (input : Input) (schedule : List Decision) (turns : ℕ) → HasNoMovers program
    → run program input schedule turns ≡ still_run program input turns
movers_alone_see_schedules program input schedule turns none =
    one_ending AnySchedules program (λ place. no_decisions program.routines none place) input schedule [] turns tt
