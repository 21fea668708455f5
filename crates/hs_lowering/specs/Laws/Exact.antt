-- The code of a typed program is exact.
--     one_ending       a code run has one ending
--     is_exact         the law
use Rattle.std.proofs.Common.{◌≡◌, ℕ, Bool, List, [], slice_get, Option, Some, None, sym, ap, ◌∙◌}
use Rattle.hs_code_run.specs.Codes.{CodeFunction, CodeProgram, Point}
use Rattle.hs_code_run.specs.Laws.OneWay.{one_way}
use Rattle.hs_code_run.specs.Runs.{ComesFrom, ComesWith, CodeRun, begun}
use Rattle.hs_heap.specs.declared.decision.Decision.{Decision}
use Rattle.hs_lowering.specs.Exact.{program_code, IsExact}
use Rattle.hs_lowering.specs.Laws.Fitting.{calls_fit, main_is_there}
use Rattle.hs_lowering.specs.Laws.Programs.{runs_the_same}
use Rattle.hs_meaning.specs.Runs.{Ending, run, starting}
use Rattle.hs_meaning.specs.Steps.{State, Ran, went, over}
use Rattle.hs_meaning.specs.declared.input.Input.{Input}
use Rattle.hs_meaning.specs.declared.outcome.Outcome.{Outcome}
use Rattle.hs_tree.specs.Fitting.{Fits}
use Rattle.hs_tree.specs.Trees.{TypedProgram}

one_from : (program : CodeProgram) (r : Ran Point) (outcome ended : Outcome) (after other : State) → ComesFrom program r outcome after
    → ComesFrom program r ended other → (outcome ≡ ended) × (after ≡ other)
one_from program (went point s) outcome ended after other is also = one_way program point s after other outcome ended is also
one_from program (over finished s) outcome ended after other is also = (sym is.0 ∙ also.0, sym is.1 ∙ also.1)

one_with : (program : CodeProgram) (input : Input) (schedule : List Decision) (choices : List Bool) (turns : ℕ) (main : Option CodeFunction)
    → (outcome ended : Outcome) (after other : State) → ComesWith program input schedule choices turns main outcome after
    → ComesWith program input schedule choices turns main ended other → (outcome ≡ ended) × (after ≡ other)
one_with program input schedule choices turns None outcome ended after other is also = absurd is
one_with program input schedule choices turns (Some function) outcome ended after other is also =
    one_from program (begun program choices function (starting program.setting input schedule turns)) outcome ended after other is also

-- with what was put out, and how it ended
ending_with : List ℕ → Outcome → Ending
ending_with output outcome = record { output = output; outcome = outcome }

-- a code run has one ending
pub one_ending : (program : CodeProgram) (input : Input) (schedule : List Decision) (choices : List Bool) (turns : ℕ) (one other : Ending)
    → CodeRun program input schedule choices turns one → CodeRun program input schedule choices turns other → one ≡ other
unfolding ending_with
one_ending program input schedule choices turns one other is also =
    ap (λ output. ending_with output one.outcome) (sym is.output ∙ ap (λ s. s.machine.output) same.1 ∙ also.output)
    ∙ ap (ending_with other.output) same.0
  where
    same : (one.outcome ≡ other.outcome) × (is.after ≡ also.after)
    same =
        one_with program input schedule choices turns (slice_get program.functions program.main) one.outcome other.outcome is.after also.after is.comes
        also.comes

-- what fits is translated exactly
pub is_exact : (typed : TypedProgram) → Fits typed → IsExact typed
is_exact typed fits =
    record {
      runs = λ input schedule turns.
          runs_the_same typed (calls_fit typed fits) (main_is_there typed fits).function (main_is_there typed fits).there input schedule turns;
      only = λ input schedule turns ending comes.
          one_ending (program_code typed) input schedule [] turns ending (run typed input schedule turns) comes
          (runs_the_same typed (calls_fit typed fits) (main_is_there typed fits).function (main_is_there typed fits).there input schedule turns);
    }
