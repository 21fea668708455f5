-- From the steps of its code to the safety of a program (own).
--     NeverMisused typed          no step of a run of its code tests an operand that is stale or purged
--     Guards program fact         a fact of points and states: runs begin with it, steps keep it, and it says so of the step that is next
--     safe_if_never_misused       such a program is safe
--     safe_is_a_fact              two proofs of safety are the same
--     guarded, safe_if_guarded    if there is such a fact, no step tests such an operand, and the program is safe
-- A proof of safety needs no more than such a fact: the code means what the program means, and the rest is the law of the still machine.
use Rattle.std.proofs.Common.{◌≡◌, ℕ, List, [], slice_get, Option, Some, None, refl}
use Rattle.std.proofs.Props.{props}
use Rattle.hs_code_run.specs.Codes.{CodeFunction, CodeProgram, Point}
use Rattle.hs_code_run.specs.Runs.{begun}
use Rattle.hs_code_run.specs.Steps.{stepped}
use Rattle.hs_heap.specs.declared.decision.Decision.{Decision}
use Rattle.hs_lowering.specs.Exact.{program_code, IsExact}
use Rattle.hs_meaning.specs.Runs.{Ending, IsSafe, run, starting}
use Rattle.hs_meaning.specs.Steps.{State, Ran, went, over}
use Rattle.hs_meaning.specs.declared.input.Input.{Input}
use Rattle.hs_still.specs.Runs.{AllUsedAfter, AllUsedWith, IfGoesOn, RunUses, all_used, run_is_no_misuse, runs_still}
use Rattle.hs_still.specs.Steps.{StepUses}
use Rattle.hs_tree.specs.Trees.{TypedProgram}

-- ---- definitions

-- for every input, schedule and number of turns
abbrev pub NeverMisused : TypedProgram → Type 0
NeverMisused typed = (input : Input) (schedule : List Decision) (turns : ℕ) → RunUses (program_code typed) input schedule [] turns

-- The fact holds where a run without choices begins, each step keeps it, and where it holds, no operand that the next step tests is stale or purged.
pub record Guards (program : CodeProgram) (fact : Point → State → Type 0) : Type 0 where
  pub begins : (input : Input) (schedule : List Decision) (turns : ℕ) (function : CodeFunction) → slice_get program.functions program.main ≡ Some function
      → IfGoesOn fact (begun program [] function (starting program.setting input schedule turns))
  pub goes : (point next : Point) (s t : State) → fact point s → stepped program point s ≡ went next t → fact next t
  pub uses : (point : Point) (s : State) → fact point s → StepUses program point s

-- ---- laws

-- a program no step of which tests an operand that is stale or purged
pub safe_if_never_misused : (typed : TypedProgram) → IsExact typed → NeverMisused typed → IsSafe typed
safe_if_never_misused typed exact never input schedule turns = (
  exact.only input [] turns (run typed input schedule turns)
      (runs_still (program_code typed) input schedule [] turns (run typed input schedule turns) (never input schedule turns) (exact.runs input schedule turns)),
  run_is_no_misuse (program_code typed) input schedule [] turns (run typed input schedule turns) (never input schedule turns)
      (exact.runs input schedule turns),
)

-- the endings of runs are a set
endings_are_a_set : (one other : Ending) → IsProp (one ≡ other)
endings_are_a_set one other = hlevel props

-- two proofs of safety are the same, so what is known of some proof of its premises is enough
pub safe_is_a_fact : (typed : TypedProgram) → IsProp (IsSafe typed)
safe_is_a_fact typed = hlevel props

module _ (program : CodeProgram) (fact : Point → State → Type 0) (its : Guards program fact) where
  used_after : (ran : Ran Point) → IfGoesOn fact ran → AllUsedAfter program ran
  used_after (went point s) so = all_used program fact its.goes its.uses point s so
  used_after (over outcome s) so = tt

  -- a fact that holds along each run
  pub guarded : (input : Input) (schedule : List Decision) (turns : ℕ) → RunUses program input schedule [] turns
  guarded input schedule turns = by_main (slice_get program.functions program.main) (λ function is. is)
    where
      by_main : (function : Option CodeFunction)
          → ((other : CodeFunction) → function ≡ Some other → slice_get program.functions program.main ≡ Some other)
          → AllUsedWith program input schedule [] turns function
      by_main None there = tt
      by_main (Some function) there =
          used_after (begun program [] function (starting program.setting input schedule turns))
          (its.begins input schedule turns function (there function refl))

-- a program whose runs a fact guards
pub safe_if_guarded : (typed : TypedProgram) → IsExact typed → (fact : Point → State → Type 0) → Guards (program_code typed) fact → IsSafe typed
safe_if_guarded typed exact fact its = safe_if_never_misused typed exact (guarded (program_code typed) fact its)
