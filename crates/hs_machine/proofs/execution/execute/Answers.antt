-- The run of the machine is the run of the program's code.
use Rattle.std.proofs.Common.{◌≡◌, ◌≤◌, ℕ, List, [], length, reverse, slice_get, Some, Ok, Err, refl, sym, ap, ◌∙◌, subst, arith}
use Rattle.hs_base.specs.declared.pos.Pos.{Pos}
use Rattle.hs_code_run.specs.Codes.{CodeProgram, Point}
use Rattle.hs_code_run.specs.Runs.{starting_point}
use Rattle.hs_machine.proofs.Beginning.{cause_too, main_comes, main_reaches, main_stops, runs_too}
use Rattle.hs_machine.proofs.Looking.{given_is}
use Rattle.hs_machine.proofs.Naming.{printable}
use Rattle.hs_machine.proofs.Showing.{shows, stops_silently}
use Rattle.hs_machine.proofs.execution.execute.Goals as goal
use Rattle.hs_machine.specs.Programs.{function_of, program_here}
use Rattle.hs_machine.specs.Recording.{size_of}
use Rattle.hs_machine.specs.Running.{comes_from, reaches_from}
use Rattle.hs_machine.specs.Standing.{point_at}
use Rattle.hs_machine.specs.Transcripts.{GivesUp, HasRun, comes_under, reaches_under}
use Rattle.hs_machine.specs.declared.runner.Runner.{Runner}
use Rattle.hs_meaning.specs.Frames.{opened}
use Rattle.hs_meaning.specs.Machine.{Machine}
use Rattle.hs_meaning.specs.Values.{Value}
use Rattle.hs_meaning.specs.declared.outcome.Outcome.TheVariants.{Stopped}
use Rattle.hs_meaning.specs.declared.outcome.Stop.{Stop}
use Rattle.hs_state.specs.Machines.{Does, machine_of}
use Rattle.hs_values.specs.declared.halt.Halt.{Halt}
use Rattle.hs_values.specs.declared.halt.Halt.TheVariants as halt

pub returns-in-Err-Stopped-clause-run : goal.returns-in-Err-Stopped-clause-run
returns-in-Err-Stopped-clause-run g c =
    let program = program_here c.in_ok-loaded.loaded in
    let its = function_of c.in-Some.main in
    let now = machine_of c.open_main.new.machine in
    let why = c.in-Err-Stopped.why in
    let loaded = c.in_ok-loaded.ensures in
    let main = subst (λ (n : ℕ). slice_get program.functions n ≡ Some its) (sym (ap (λ (p : CodeProgram). p.main) loaded))
    (given_is (slice_get program.functions c.args.code.now.program.now.main) c.in-Some.main c.in-Some.ensures) in
    let stopped = subst (λ (e : Halt). Does (opened program.setting its.parameters its.variables [] (machine_of c.in_ok-machine.machine)) now (Err e))
    c.in-Err-Stopped.field-0-is c.in-Err-Stopped.ensures.does in
    let does =
    subst (λ (m : Machine). Does (opened program.setting its.parameters its.variables [] m) now (Err (halt.Stopped why))) c.in_ok-machine.ensures.starts
    stopped in
    let outcome : c.shown.result.outcome ≡ Stopped why its.opening =
    c.shown.ensures.outcome
    ∙ ap (λ (w : Stop). Stopped w c.opening.result) c.in-Err-Stopped.why-is
    ∙ ap (λ (p : Pos). Stopped why p) c.opening.ensures in
    subst (λ (p : CodeProgram). HasRun p c.args.input.now c.args.turns c.shown.result) loaded
    (shows program c.args.input.now c.args.turns c.shown.result [] (Stopped why its.opening) now c.args.turns
    (main_stops program c.args.input.now c.args.turns its main now why does) (c.shown.ensures.script ∙ c.new-recorder.ensures) outcome
    (sym c.shown.ensures.output) (sym c.shown.ensures.heap))

pub returns-in-Err-Stopped-clause-few_bytes : goal.returns-in-Err-Stopped-clause-few_bytes
returns-in-Err-Stopped-clause-few_bytes g c =
    let program = program_here c.in_ok-loaded.loaded in
    let its = function_of c.in-Some.main in
    let now = machine_of c.open_main.new.machine in
    let why = c.in-Err-Stopped.why in
    let stopped = subst (λ (e : Halt). Does (opened program.setting its.parameters its.variables [] (machine_of c.in_ok-machine.machine)) now (Err e))
    c.in-Err-Stopped.field-0-is c.in-Err-Stopped.ensures.does in
    let silent = stops_silently program.setting (machine_of c.in_ok-machine.machine) now why its.parameters its.variables stopped in
    let start : (machine_of c.in_ok-machine.machine).output ≡ [] = ap (λ (m : Machine). m.output) c.in_ok-machine.ensures.starts in
    let none : c.shown.result.output ≡ [] = c.shown.ensures.output ∙ silent ∙ start in
    subst (λ (l : List ℕ). length l ≤ 16777216) (sym none) (omega arith)

pub returns-in-Ok-run-clause-run : goal.returns-in-Ok-run-clause-run
returns-in-Ok-run-clause-run g c =
    let program = program_here c.in_ok-loaded.loaded in
    let its = function_of c.in-Some.main in
    let input = c.args.input.now in
    let turns = c.args.turns in
    let loaded = c.in_ok-loaded.ensures in
    let main = subst (λ (n : ℕ). slice_get program.functions n ≡ Some its) (sym (ap (λ (p : CodeProgram). p.main) loaded))
    (given_is (slice_get program.functions c.args.code.now.program.now.main) c.in-Some.main c.in-Some.ensures) in
    let does = subst (λ (m : Machine). Does (opened program.setting its.parameters its.variables [] m) (machine_of c.open_main.new.machine) (Ok tt))
    c.in_ok-machine.ensures.starts c.in-Ok.ensures.does in
    let first : Runner = record {
      machine = c.open_main.new.machine;
      stack = c.new.result;
      next = record { code = c.in-Some.main.code; at = 0 };
      returns = c.new-2.result;
      turns = turns;
    } in
    let frame : List Value → Point = λ stack. record {
      frame = record { code = its.code; at = 0; stack = reverse stack };
      waiting = [];
      choices = [];
    } in
    let start : point_at [] first ≡ starting_point its [] = ap frame c.new.ensures.top in
    let far = main_reaches program input turns its main first does start refl in
    let last = main_comes program input turns its main first does start refl in
    let script = c.run.new.recorder.decisions.items in
    let now = c.run.new.runner in
    let shown = c.shown-in-Ok-run.ensures in
    subst (λ (p : CodeProgram). HasRun p input turns c.shown-in-Ok-run.result) loaded
    (shows program input turns c.shown-in-Ok-run.result script c.in-Ok-run.outcome (machine_of now.machine) now.turns
    (runs_too program (reaches_from program first) (reaches_under program input turns) (comes_from program first) (comes_under program input turns) far last
    script c.in-Ok-run.outcome (machine_of now.machine) now.turns c.in-Ok-run.ensures.runs) shown.script shown.outcome (sym shown.output) (sym shown.heap))

pub returns-in-Err-clause-gives_up : goal.returns-in-Err-clause-gives_up
returns-in-Err-clause-gives_up g c =
    let program = program_here c.in_ok-loaded.loaded in
    let its = function_of c.in-Some.main in
    let input = c.args.input.now in
    let turns = c.args.turns in
    let loaded = c.in_ok-loaded.ensures in
    let main = subst (λ (n : ℕ). slice_get program.functions n ≡ Some its) (sym (ap (λ (p : CodeProgram). p.main) loaded))
    (given_is (slice_get program.functions c.args.code.now.program.now.main) c.in-Some.main c.in-Some.ensures) in
    let does = subst (λ (m : Machine). Does (opened program.setting its.parameters its.variables [] m) (machine_of c.open_main.new.machine) (Ok tt))
    c.in_ok-machine.ensures.starts c.in-Ok.ensures.does in
    let first : Runner = record {
      machine = c.open_main.new.machine;
      stack = c.new.result;
      next = record { code = c.in-Some.main.code; at = 0 };
      returns = c.new-2.result;
      turns = turns;
    } in
    let frame : List Value → Point = λ stack. record {
      frame = record { code = its.code; at = 0; stack = reverse stack };
      waiting = [];
      choices = [];
    } in
    let start : point_at [] first ≡ starting_point its [] = ap frame c.new.ensures.top in
    let far = main_reaches program input turns its main first does start refl in
    let last = main_comes program input turns its main first does start refl in
    let told = (goal.Mover-dyn g (c.args.mover.now.vtable, c.args.mover.now.value)).told c.args.mover.now.value in
    subst (λ (p : CodeProgram). GivesUp p input turns told c.in-Err.why) loaded
    (cause_too program (reaches_from program first) (reaches_under program input turns) (comes_from program first)
    (comes_under program input turns) far last told
    c.in-Err.why c.in-Err.ensures.runs)

pub returns-in-Ok-run-clause-printable : goal.returns-in-Ok-run-clause-printable
returns-in-Ok-run-clause-printable g c =
    let recorder = c.run.new.recorder in
    let counted : size_of recorder.decisions.items ≤ 4000000 = omega (arith, recorder.counted, recorder.few) in
    printable c.shown-in-Ok-run.result.script recorder.decisions.items c.shown-in-Ok-run.ensures.script c.in-Ok-run.ensures.names_blocks counted
