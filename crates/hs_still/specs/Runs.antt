-- Runs of code on the still machine, as long as no operand that a step tests is stale or purged.
--     steps_agree             a step from two states of one still state
--     UsedFor, steps_still    so many steps
--     Reaches                 the run comes to a point and a state
--     all_used                what holds of every state that it reaches
--     comes_still             a whole run
--     begun_still             how it begins
--     runs_still              a run with a schedule is the run without one
--     run_is_no_misuse        and it does not end in a misuse
use Rattle.std.proofs.Common.{◌≡◌, ℕ, zero, suc, Bool, List, [], slice_get, Option, Some, None, refl, sym, ap, ◌∙◌, subst}
use Rattle.hs_code_run.specs.Codes.{CodeFunction, CodeProgram, Point}
use Rattle.hs_code_run.specs.Runs.{Comes, halted, onward, starting_point, begun, ComesFrom, ComesWith, CodeRun, steps}
use Rattle.hs_code_run.specs.Steps.{stepped}
use Rattle.hs_heap.specs.declared.decision.Decision.{Decision}
use Rattle.hs_meaning.specs.Frames.{opened}
use Rattle.hs_meaning.specs.Runs.{Ending, IsMisuse, starting}
use Rattle.hs_meaning.specs.Settings.{Setting}
use Rattle.hs_meaning.specs.Steps.{State as RunState, Ran, went, over, give, then_with}
use Rattle.hs_meaning.specs.declared.input.Input.{Input}
use Rattle.hs_meaning.specs.declared.outcome.Outcome.{Outcome}
use Rattle.hs_still.specs.Frames.{same_unit, opened_still}
use Rattle.hs_still.specs.Machines.{still_state, still_point, still_ran}
use Rattle.hs_still.specs.Maps.{thens, gives, act_maps}
use Rattle.hs_still.specs.Misuses.{EndsInNoMisuse, step_is_no_misuse, begun_is_no_misuse}
use Rattle.hs_still.specs.Starts.{starting_still}
use Rattle.hs_still.specs.Steps.{StepUses, step_still}

-- ---- steps

-- A step sees of a state what its still state has. So from two points and states of one still point and one still state it comes to the same.
pub steps_agree : (program : CodeProgram) (point other : Point) (s t : RunState) → still_point point ≡ still_point other → still_state s ≡ still_state t
    → StepUses program point s → StepUses program other t
    → still_ran still_point (stepped program point s) ≡ still_ran still_point (stepped program other t)
steps_agree program point other s t same_point same_state uses others =
    sym (step_still program point s uses) ∙ ap (λ p. stepped program p (still_state s)) same_point
    ∙ ap (stepped program (still_point other)) same_state ∙ step_still program other t others

-- a fact of where a step goes on
abbrev pub IfGoesOn : (Point → RunState → Type 0) → Ran Point → Type 0
IfGoesOn fact (went point s) = fact point s
IfGoesOn fact (over outcome s) = Unit {0}

-- none of so many steps tests an operand that is stale or purged
abbrev pub UsedFor : ℕ → CodeProgram → Point → RunState → Type 0
UsedFor zero program point s = Unit {0}
UsedFor (suc more) program point s =
    StepUses program point s × IfGoesOn (λ next t. UsedFor more program next t) (stepped program point s)

-- so many steps
pub steps_still : (count : ℕ) (program : CodeProgram) (point : Point) (s : RunState) → UsedFor count program point s
    → steps count program (still_point point) (still_state s) ≡ still_ran still_point (steps count program point s)
steps_still zero program point s uses = refl
steps_still (suc more) program point s uses =
    ap (then_with (steps more program)) (step_still program point s uses.0)
    ∙ further (λ next t. steps_still more program next t) (stepped program point s) uses.1
  where
    further : ((next : Point) (t : RunState) → UsedFor more program next t
        → steps more program (still_point next) (still_state t) ≡ still_ran still_point (steps more program next t))
        → (ran : Ran Point) → IfGoesOn (λ next t. UsedFor more program next t) ran
        → then_with (steps more program) (still_ran still_point ran) ≡ still_ran still_point (then_with (steps more program) ran)
    further again (went next t) used = again next t used
    further again (over outcome t) used = refl

-- ---- runs

-- from the first point and state the run comes to the others
pub data Reaches (program : CodeProgram) : Point → RunState → Point → RunState → Type 0 where
  here : (point : Point) (s : RunState) → Reaches program point s point s
  later : (point next last_point : Point) (s t last_state : RunState) → stepped program point s ≡ went next t
      → Reaches program next t last_point last_state → Reaches program point s last_point last_state

-- no step of the run tests an operand that is stale or purged
abbrev pub AllUsedFrom : CodeProgram → Point → RunState → Type 0
AllUsedFrom program point s = (next : Point) (t : RunState) → Reaches program point s next t → StepUses program next t

-- So it is if a fact holds of the first point and state, each step keeps it, and it says that no operand that the step tests is stale or purged.
pub all_used : (program : CodeProgram) (fact : Point → RunState → Type 0)
    → ((point next : Point) (s t : RunState) → fact point s → stepped program point s ≡ went next t → fact next t)
    → ((point : Point) (s : RunState) → fact point s → StepUses program point s)
    → (point : Point) (s : RunState) → fact point s → AllUsedFrom program point s
all_used program fact goes uses point s so next t (here _ _) = uses point s so
all_used program fact goes uses point s so last u (later _ next _ _ t _ is rest) =
    all_used program fact goes uses next t (goes point next s t so is) last u rest

-- a whole run
pub comes_still : (program : CodeProgram) (point : Point) (s after : RunState) (outcome : Outcome) → Comes program point s outcome after
    → AllUsedFrom program point s → Comes program (still_point point) (still_state s) outcome (still_state after)
comes_still program point s after outcome (halted _ _ _ _ is) uses =
    halted (still_point point) (still_state s) (still_state after) outcome
    (step_still program point s (uses point s (here point s)) ∙ ap (still_ran still_point) is)
comes_still program point s after outcome (onward _ next _ t _ _ is rest) uses =
    onward (still_point point) (still_point next) (still_state s) (still_state t) (still_state after) outcome
    (step_still program point s (uses point s (here point s)) ∙ ap (still_ran still_point) is)
    (comes_still program next t after outcome rest (λ last u reaches. uses last u (later point next last s t u is reaches)))

-- ---- how a run begins

-- the call of `main` begins
pub begun_still : (program : CodeProgram) (choices : List Bool) (function : CodeFunction) (s : RunState)
    → begun program choices function (still_state s) ≡ still_ran still_point (begun program choices function s)
begun_still program choices function s =
    (thens same_unit still_point s (λ it. give (starting_point function choices))
    (act_maps same_unit function.opening (opened program.setting function.parameters function.variables [])
    (opened program.setting function.parameters function.variables []) s
    (opened_still program.setting function.parameters function.variables [] s.machine))
    (λ it t. gives still_point (starting_point function choices) (starting_point function choices) t refl)).is

-- a run begins with a state that is still, but for its schedule
pub starting_state : (setting : Setting) (input : Input) (schedule : List Decision) (turns : ℕ)
    → still_state (starting setting input schedule turns) ≡ starting setting input [] turns
starting_state setting input schedule turns =
    ap (λ machine. record { machine = machine; schedule = []; turns = turns }) (starting_still setting input)

-- of what a step has come to
abbrev pub AllUsedAfter : CodeProgram → Ran Point → Type 0
AllUsedAfter program (went point s) = AllUsedFrom program point s
AllUsedAfter program (over outcome s) = Unit {0}

-- with `main`
abbrev pub AllUsedWith : CodeProgram → Input → List Decision → List Bool → ℕ → Option CodeFunction → Type 0
AllUsedWith program input schedule choices turns None = Unit {0}
AllUsedWith program input schedule choices turns (Some function) =
    AllUsedAfter program (begun program choices function (starting program.setting input schedule turns))

-- no step of the run with that schedule tests an operand that is stale or purged
abbrev pub RunUses : CodeProgram → Input → List Decision → List Bool → ℕ → Type 0
RunUses program input schedule choices turns = AllUsedWith program input schedule choices turns (slice_get program.functions program.main)

comes_from_still : (program : CodeProgram) (ran : Ran Point) (outcome : Outcome) (after : RunState) → ComesFrom program ran outcome after
    → AllUsedAfter program ran → ComesFrom program (still_ran still_point ran) outcome (still_state after)
comes_from_still program (went point s) outcome after comes uses = comes_still program point s after outcome comes uses
comes_from_still program (over ended s) outcome after is uses = (is.0, ap still_state is.1)

comes_with_still : (program : CodeProgram) (input : Input) (schedule : List Decision) (choices : List Bool) (turns : ℕ) (function : Option CodeFunction)
    (outcome : Outcome) (after : RunState) → ComesWith program input schedule choices turns function outcome after
    → AllUsedWith program input schedule choices turns function
    → ComesWith program input [] choices turns function outcome (still_state after)
comes_with_still program input schedule choices turns None outcome after comes uses = comes
comes_with_still program input schedule choices turns (Some function) outcome after comes uses =
    subst (λ ran. ComesFrom program ran outcome (still_state after))
    (sym (begun_still program choices function (starting program.setting input schedule turns))
    ∙ ap (begun program choices function) (starting_state program.setting input schedule turns))
    (comes_from_still program (begun program choices function (starting program.setting input schedule turns)) outcome after comes uses)

-- If no step of a run tests an operand that is stale or purged, then the run without a schedule ends as it does, with the same output.
pub runs_still : (program : CodeProgram) (input : Input) (schedule : List Decision) (choices : List Bool) (turns : ℕ) (ending : Ending)
    → RunUses program input schedule choices turns → CodeRun program input schedule choices turns ending
    → CodeRun program input [] choices turns ending
runs_still program input schedule choices turns ending uses run =
    record {
      after = still_state run.after;
      comes = comes_with_still program input schedule choices turns (slice_get program.functions program.main) ending.outcome run.after run.comes uses;
      output = run.output;
    }

-- ---- no misuse

-- a run from any point
pub comes_to_no_misuse : (program : CodeProgram) (point : Point) (s after : RunState) (outcome : Outcome) → Comes program point s outcome after
    → AllUsedFrom program point s → ¬ (IsMisuse outcome)
comes_to_no_misuse program point s after outcome (halted _ _ _ _ is) uses =
    subst EndsInNoMisuse is (step_is_no_misuse program point s (uses point s (here point s)))
comes_to_no_misuse program point s after outcome (onward _ next _ t _ _ is rest) uses =
    comes_to_no_misuse program next t after outcome rest (λ last u reaches. uses last u (later point next last s t u is reaches))

comes_from_no_misuse : (program : CodeProgram) (ran : Ran Point) (outcome : Outcome) (after : RunState) → EndsInNoMisuse ran
    → ComesFrom program ran outcome after → AllUsedAfter program ran → ¬ (IsMisuse outcome)
comes_from_no_misuse program (went point s) outcome after none comes uses = comes_to_no_misuse program point s after outcome comes uses
comes_from_no_misuse program (over ended s) outcome after none is uses = subst (λ it. ¬ (IsMisuse it)) is.0 none

comes_with_no_misuse : (program : CodeProgram) (input : Input) (schedule : List Decision) (choices : List Bool) (turns : ℕ) (function : Option CodeFunction)
    (outcome : Outcome) (after : RunState) → ComesWith program input schedule choices turns function outcome after
    → AllUsedWith program input schedule choices turns function → ¬ (IsMisuse outcome)
comes_with_no_misuse program input schedule choices turns None outcome after comes uses = absurd comes
comes_with_no_misuse program input schedule choices turns (Some function) outcome after comes uses =
    comes_from_no_misuse program (begun program choices function (starting program.setting input schedule turns)) outcome after
    (begun_is_no_misuse program choices function (starting program.setting input schedule turns)) comes uses

-- If no step of a run tests an operand that is stale or purged, then it does not end in a misuse.
pub run_is_no_misuse : (program : CodeProgram) (input : Input) (schedule : List Decision) (choices : List Bool) (turns : ℕ) (ending : Ending)
    → RunUses program input schedule choices turns → CodeRun program input schedule choices turns ending → ¬ (IsMisuse ending.outcome)
run_is_no_misuse program input schedule choices turns ending uses run =
    comes_with_no_misuse program input schedule choices turns (slice_get program.functions program.main) ending.outcome run.after run.comes uses
