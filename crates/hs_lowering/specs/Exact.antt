-- The code of a program means what the program means (own).
--     program_code typed      the code of the program, as a run sees it
--     IsExact typed           for every input, schedule and number of turns, its run without choices is the run of the program, and there is no other
use Rattle.std.specs.Prelude.{◌≡◌, ℕ, List, []}
use Rattle.hs_code_run.specs.Codes.{CodeProgram, code_program}
use Rattle.hs_code_run.specs.Runs.{CodeRun}
use Rattle.hs_heap.specs.declared.decision.Decision.{Decision}
use Rattle.hs_lowering.specs.Statements.{codes_of}
use Rattle.hs_meaning.specs.Runs.{Ending, run}
use Rattle.hs_meaning.specs.declared.input.Input.{Input}
use Rattle.hs_tree.specs.Trees.{TypedProgram}

-- its functions with their code, in its setting
abbrev pub program_code : TypedProgram → CodeProgram
program_code typed = code_program typed (codes_of typed)

-- the code means what the program means
pub record IsExact (typed : TypedProgram) : Type 0 where
  pub runs : (input : Input) (schedule : List Decision) (turns : ℕ) → CodeRun (program_code typed) input schedule [] turns (run typed input schedule turns)
  pub only : (input : Input) (schedule : List Decision) (turns : ℕ) (ending : Ending) → CodeRun (program_code typed) input schedule [] turns ending
      → ending ≡ run typed input schedule turns
