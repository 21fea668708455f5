-- The run of the code is the run of the program.
use Rattle.std.proofs.Common.{◌≡◌, ℕ, List, [], Option, subst, sym, append-nil}
use Rattle.std.proofs.Props.{props}
use Rattle.std.specs.Prelude.{slice_get}
use mathlib.Core.Logic.{∥∥₁_elim}
use Rattle.hs_code.specs.declared.function_code.FunctionCode.{FunctionCode}
use Rattle.hs_code_run.specs.Codes.{CodeProgram, code_program}
use Rattle.hs_code_run.specs.Runs.{CodeRun, ComesWith}
use Rattle.hs_heap.specs.declared.decision.Decision.{Decision}
use Rattle.hs_lowering.specs.Exact.{IsExact, program_code}
use Rattle.hs_lowering.specs.Statements.{codes_of}
use Rattle.hs_machine.specs.Transcripts.{GivesUp, HasRun}
use Rattle.hs_machine.specs.declared.transcript.MachineEnd.{MachineEnd}
use Rattle.hs_machine.specs.declared.transcript.Transcript.{Transcript}
use Rattle.hs_meaning.specs.Runs.{Ending, run}
use Rattle.hs_meaning.specs.declared.input.Input.{Input}
use Rattle.hs_tree.specs.Trees.{TypedProgram}
use Rattle.hs_runner.specs.Runs.{IsGivenUp, IsRunOf, RunsExactly}

-- what the code put out, and how it ended
code_ran : (program : CodeProgram) (input : Input) (turns : ℕ) (its : Transcript) → HasRun program input turns its
    → CodeRun program input its.script.decisions [] turns (record { output = its.output; outcome = its.outcome })
code_ran program input turns its has = record {
  after = record { machine = has.after; schedule = []; turns = has.left };
  comes = subst (λ (schedule : List Decision). ComesWith program input schedule [] turns (slice_get program.functions program.main) its.outcome
      (record { machine = has.after; schedule = []; turns = has.left })) (append-nil its.script.decisions) (has.run []);
  output = has.output;
}

-- the endings of runs are a set
endings_are_a_set : (one other : Ending) → IsProp (one ≡ other)
endings_are_a_set one other = hlevel props

-- so it is what the program puts out, and how it ends
pub program_ran : (program : TypedProgram) (code : List FunctionCode) (input : Input) (turns : ℕ) (its : Transcript) → ∥ IsExact program ∥₁
    → code ≡ codes_of program → HasRun (code_program program code) input turns its → IsRunOf program input turns its
program_ran program code input turns its exact same has =
    ∥∥₁_elim exact (endings_are_a_set (run program input its.script.decisions turns) (record { output = its.output; outcome = its.outcome }))
    (λ exactly. sym (exactly.only input its.script.decisions turns (record { output = its.output; outcome = its.outcome })
    (code_ran (program_code program) input turns its (subst (λ (its' : List FunctionCode). HasRun (code_program program its') input turns its) same has))))

-- and it takes exactly these decisions
pub program_exactly : (program : TypedProgram) (code : List FunctionCode) (input : Input) (turns : ℕ) (its : Transcript)
    → code ≡ codes_of program → HasRun (code_program program code) input turns its → RunsExactly program input turns its
program_exactly program code input turns its same has =
    subst (λ (its' : List FunctionCode). HasRun (code_program program its') input turns its) same has

-- and so it is given up
pub program_given_up : (program : TypedProgram) (code : List FunctionCode) (input : Input) (turns : ℕ) (told : Option (List Decision)) (why : MachineEnd)
    → code ≡ codes_of program → GivesUp (code_program program code) input turns told why → IsGivenUp program input turns told why
program_given_up program code input turns told why same gives =
    subst (λ (its : List FunctionCode). GivesUp (code_program program its) input turns told why) same gives
