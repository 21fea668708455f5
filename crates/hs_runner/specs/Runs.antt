-- What a run of a typed program on the machine shows. Own to this project.
--     IsRunOf program input turns its    the transcript is that of the run of the program, under the script that it shows
--     RunsExactly program input turns its      it took exactly the decisions of that script
--     HasFewOps, PassesOps               its code is short enough to be run, or too long
--     IsGivenUp ..                       why there is no transcript
--     EndsInTime ..                      there is one
use Rattle.std.specs.Prelude.{◌≡◌, ◌<◌, ◌≤◌, ℕ, List, Option}
use Rattle.hs_base.specs.Limit.{number_of}
use Rattle.hs_base.specs.declared.limit.Limit.{Limit}
use Rattle.hs_base.specs.declared.limit.LimitKind.TheVariants as kind
use Rattle.hs_heap.specs.declared.decision.Decision.{Decision}
use Rattle.hs_lower.specs.Lowered.{ops_limit}
use Rattle.hs_lower.specs.Writing.{count_ops}
use Rattle.hs_lowering.specs.Exact.{program_code}
use Rattle.hs_lowering.specs.Statements.{codes_of}
use Rattle.hs_machine.specs.Transcripts.{GivesUp, HasRun, IsWithin}
use Rattle.hs_machine.specs.declared.transcript.MachineEnd.{MachineEnd}
use Rattle.hs_machine.specs.declared.transcript.Transcript.{Transcript}
use Rattle.hs_meaning.specs.Runs.{run}
use Rattle.hs_meaning.specs.declared.input.Input.{Input}
use Rattle.hs_tree.specs.Trees.{TypedProgram}

-- Its output and its outcome are those of the run of the program with that input, that list of decisions and so many turns (X3.159-1989 3.3 and
-- 3.6; the machine is own).
abbrev pub IsRunOf : TypedProgram → Input → ℕ → Transcript → Type 0
IsRunOf program input turns its = run program input its.script.decisions turns ≡ record { output = its.output; outcome = its.outcome }

-- Under that script, the run of the program's code took exactly these decisions: one for each call of a routine that moves or purges, no more and no
-- fewer. Whatever decisions follow the script are left over.
abbrev pub RunsExactly : TypedProgram → Input → ℕ → Transcript → Type 0
RunsExactly program input turns its = HasRun (program_code program) input turns its

-- the code of the program has no more operations than it may have
abbrev pub HasFewOps : TypedProgram → Type 0
HasFewOps program = count_ops (codes_of program) ≤ number_of kind.Ops

-- or it has more
abbrev pub PassesOps : TypedProgram → Limit → Type 0
PassesOps program limit = (limit ≡ ops_limit) × (number_of kind.Ops < count_ops (codes_of program))

-- The run passes the limit of its output or of its script, whichever it passes first. Of memory nothing is said.
abbrev pub IsGivenUp : TypedProgram → Input → ℕ → Option (List Decision) → MachineEnd → Type 0
IsGivenUp program input turns told why = GivesUp (program_code program) input turns told why

-- the run passes neither, under decisions that the mover told
abbrev pub EndsInTime : TypedProgram → Input → ℕ → Option (List Decision) → Type 0
EndsInTime program input turns told = IsWithin (program_code program) input turns told
