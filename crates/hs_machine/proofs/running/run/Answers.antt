-- The run goes on, or ends, from where the runner is.
use Rattle.std.proofs.Common.{rules, ◌≤◌, arith, length, List, Option, Ok, sym, ap, ◌∙◌, subst}
use Rattle.hs_heap.specs.declared.decision.Decision.{Decision}
use Rattle.hs_machine.proofs.Going.{gives_up, runs_over, there_first, there_next, there_on}
use Rattle.hs_machine.proofs.Naming.{names_more, names_none}
use Rattle.hs_machine.proofs.Telling.{TellsSo, tells_all, tells_more, tells_script}
use Rattle.hs_machine.proofs.running.run.Goals as goal
use Rattle.hs_machine.specs.Advancing.{AdvancesTo}
use Rattle.hs_machine.specs.Programs.{program_here}
use Rattle.hs_machine.specs.Recording.{IsTold, NamesBlocks, size_of}
use Rattle.hs_machine.specs.Running.{IsThere, comes_from, reaches_from}
use Rattle.hs_machine.specs.Transcripts.{RunsTo}
use Rattle.hs_meaning.specs.declared.outcome.Outcome.{Outcome}
use Rattle.hs_state.specs.Machines.{machine_of}

pub operations-init : goal.operations-init
operations-init g c =
    let program = program_here c.args.loaded.now in
    let first = c.args.runner.now in
    let told = (goal.Mover-dyn g (c.args.mover.now.vtable, c.args.mover.now.value)).told c.args.mover.now.value in
    record {
      there = subst (λ (l : List Decision). IsThere program first l first) (sym c.requires.unrecorded) (there_first program first c.requires.begins);
      tells = subst (λ (l : List Decision). TellsSo told l told) (sym c.requires.unrecorded) (tells_all told);
      names_blocks = subst (λ (l : List Decision). NamesBlocks l) (sym c.requires.unrecorded) names_none;
      counted = c.requires.unshifted ∙ sym (ap length c.requires.unrecorded);
      same_number = search rules;
    }

pub returns-in-Err-advance-clause-runs : goal.returns-in-Err-advance-clause-runs
returns-in-Err-advance-clause-runs g c =
    let program = program_here c.args.loaded.now in
    let first = c.args.runner.now in
    let told = (goal.Mover-dyn g (c.args.mover.now.vtable, c.args.mover.now.value)).told c.args.mover.now.value in
    let now = (goal.Mover-dyn g (c.operations.mover.vtable, c.operations.mover.value)).told c.operations.mover.value in
    let later = (goal.Mover-dyn g (c.advance.new.mover.vtable, c.advance.new.mover.value)).told c.advance.new.mover.value in
    let script = c.operations.recorder.decisions.items in
    let after = c.advance.new.recorder.decisions.items in
    let old = c.hurry.new.runner in
    let new = c.advance.new.runner in
    let there = there_on program c.args.runner.now script c.operations.runner c.hurry.new.runner c.operations.invariant.there
    (c.in-Ok.ensures.runs_on program) in
    let few : size_of script ≤ 4000000 = omega (arith, c.operations.recorder.counted, c.operations.recorder.few) in
    gives_up program first told now later script after old new there few c.operations.invariant.tells c.in-Err-advance.why
    (c.in-Err-advance.ensures.advances there.later there.waits)

pub returns-in-Some-clause-told : goal.returns-in-Some-clause-told
returns-in-Some-clause-told g c =
    let program = program_here c.args.loaded.now in
    let first = c.args.runner.now in
    let told = (goal.Mover-dyn g (c.args.mover.now.vtable, c.args.mover.now.value)).told c.args.mover.now.value in
    let now = (goal.Mover-dyn g (c.operations.mover.vtable, c.operations.mover.value)).told c.operations.mover.value in
    let later = (goal.Mover-dyn g (c.advance.new.mover.vtable, c.advance.new.mover.value)).told c.advance.new.mover.value in
    let script = c.operations.recorder.decisions.items in
    let after = c.advance.new.recorder.decisions.items in
    let old = c.hurry.new.runner in
    let new = c.advance.new.runner in
    let there = there_on program c.args.runner.now script c.operations.runner c.hurry.new.runner c.operations.invariant.there
    (c.in-Ok.ensures.runs_on program) in
    let ended = subst (λ (o : Option Outcome). AdvancesTo program old new script after now later there.later (Ok o)) c.in-Some.is
    (c.in-Ok-advance.ensures.advances there.later there.waits) in
    subst (λ (l : List Decision). IsTold told l) (sym ended.1) (tells_script told now script c.operations.invariant.tells)

pub returns-in-Some-clause-runs : goal.returns-in-Some-clause-runs
returns-in-Some-clause-runs g c =
    let program = program_here c.args.loaded.now in
    let first = c.args.runner.now in
    let told = (goal.Mover-dyn g (c.args.mover.now.vtable, c.args.mover.now.value)).told c.args.mover.now.value in
    let now = (goal.Mover-dyn g (c.operations.mover.vtable, c.operations.mover.value)).told c.operations.mover.value in
    let later = (goal.Mover-dyn g (c.advance.new.mover.vtable, c.advance.new.mover.value)).told c.advance.new.mover.value in
    let script = c.operations.recorder.decisions.items in
    let after = c.advance.new.recorder.decisions.items in
    let old = c.hurry.new.runner in
    let new = c.advance.new.runner in
    let there = there_on program c.args.runner.now script c.operations.runner c.hurry.new.runner c.operations.invariant.there
    (c.in-Ok.ensures.runs_on program) in
    let ended = subst (λ (o : Option Outcome). AdvancesTo program old new script after now later there.later (Ok o)) c.in-Some.is
    (c.in-Ok-advance.ensures.advances there.later there.waits) in
    subst (λ (l : List Decision). RunsTo program (reaches_from program first) (comes_from program first) l c.in-Some.outcome (machine_of new.machine) new.turns)
    (sym ended.1) (runs_over program first script old new c.in-Some.outcome there ended.0)

pub returns-in-Some-clause-names_blocks : goal.returns-in-Some-clause-names_blocks
returns-in-Some-clause-names_blocks g c =
    let program = program_here c.args.loaded.now in
    let now = (goal.Mover-dyn g (c.operations.mover.vtable, c.operations.mover.value)).told c.operations.mover.value in
    let later = (goal.Mover-dyn g (c.advance.new.mover.vtable, c.advance.new.mover.value)).told c.advance.new.mover.value in
    let script = c.operations.recorder.decisions.items in
    let after = c.advance.new.recorder.decisions.items in
    let there = there_on program c.args.runner.now script c.operations.runner c.hurry.new.runner c.operations.invariant.there
    (c.in-Ok.ensures.runs_on program) in
    let ended =
    subst (λ (o : Option Outcome). AdvancesTo program c.hurry.new.runner c.advance.new.runner script after now later there.later (Ok o)) c.in-Some.is
    (c.in-Ok-advance.ensures.advances there.later there.waits) in
    subst (λ (l : List Decision). NamesBlocks l) (sym ended.1) c.operations.invariant.names_blocks

pub operations-preserved : goal.operations-preserved
operations-preserved g c =
    let program = program_here c.args.loaded.now in
    let first = c.args.runner.now in
    let told = (goal.Mover-dyn g (c.args.mover.now.vtable, c.args.mover.now.value)).told c.args.mover.now.value in
    let now = (goal.Mover-dyn g (c.operations.mover.vtable, c.operations.mover.value)).told c.operations.mover.value in
    let later = (goal.Mover-dyn g (c.advance.new.mover.vtable, c.advance.new.mover.value)).told c.advance.new.mover.value in
    let script = c.operations.recorder.decisions.items in
    let after = c.advance.new.recorder.decisions.items in
    let old = c.hurry.new.runner in
    let new = c.advance.new.runner in
    let there = there_on program c.args.runner.now script c.operations.runner c.hurry.new.runner c.operations.invariant.there
    (c.in-Ok.ensures.runs_on program) in
    let onward = subst (λ (o : Option Outcome). AdvancesTo program old new script after now later there.later (Ok o)) c.in_default.is
    (c.in-Ok-advance.ensures.advances there.later there.waits) in
    record {
      there = there_next program first script after old new now later there onward;
      tells = tells_more told now later script onward.taken after c.operations.invariant.tells onward.tells onward.recorded;
      names_blocks = names_more now later script onward.taken after c.operations.invariant.names_blocks onward.tells onward.recorded;
      counted = c.in-Ok-advance.ensures.counted;
      same_number = c.in-Ok-advance.ensures.same_number ∙ c.operations.invariant.same_number;
    }
