use Rattle.hs_code.specs.Codes.{view_program}
use Rattle.hs_command.proofs.Runs.{IsKnown, shown_run}
use Rattle.hs_command.proofs.running.run_of_code.Goals as goal

pub returns-in-Ok : goal.returns-in-Ok
returns-in-Ok g c =
    let ran = c.in-Ok.ensures in
    let known : IsKnown (view_program c.args.code.now.program.now) c.args.input.now c.args.turns _ c.in-Ok.its = record {
      is_run = ran.run;
      exactly = ran.exactly;
      is_told = ran.told;
      no_seed = ran.seed;
      few_ops = c.requires.few;
      few_bytes = ran.few_bytes;
      few_decisions = ran.few_decisions;
      printable = ran.printable;
    } in
    shown_run (view_program c.args.code.now.program.now) c.args.input.now c.args.turns _ c.args.names.now c.in-Ok.its c.shown.result known c.shown.ensures
