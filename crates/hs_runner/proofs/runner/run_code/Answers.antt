use Rattle.std.proofs.lemmas.Result.{IfOk-weaker, IfErr-weaker}
use Rattle.hs_code.specs.Codes.{view_program}
use Rattle.hs_runner.proofs.Transcripts.{program_ran, program_exactly, program_given_up}
use Rattle.hs_runner.proofs.runner.run_code.Goals as goal

pub returns-clause-run : goal.returns-clause-run
returns-clause-run g c =
    IfOk-weaker c.execute.result _ _
    (λ its. program_ran (view_program c.args.code.now.program.now) c.args.code.now.functions.items c.args.input.now c.args.turns its
    c.code_of_programs_is_exact.ensures c.requires.code)
    c.execute.ensures.run

pub returns-clause-exactly : goal.returns-clause-exactly
returns-clause-exactly g c =
    IfOk-weaker c.execute.result _ _
    (λ its. program_exactly (view_program c.args.code.now.program.now) c.args.code.now.functions.items c.args.input.now c.args.turns its c.requires.code)
    c.execute.ensures.run

pub returns-clause-gives_up : goal.returns-clause-gives_up
returns-clause-gives_up g c =
    IfErr-weaker c.execute.result _ _
    (λ why. program_given_up (view_program c.args.code.now.program.now) c.args.code.now.functions.items c.args.input.now c.args.turns _ why c.requires.code)
    c.execute.ensures.gives_up
