-- The sources were run, or they are no program.
use Rattle.std.proofs.Common.{map}
use Rattle.std.specs.String.{string_bytes}
use Rattle.hs_command.proofs.Runs.{sources_ran, sources_refused}
use Rattle.hs_command.proofs.running.run_sources.Goals as goal

pub returns-in-Ok-clause-means : goal.returns-in-Ok-clause-means
returns-in-Ok-clause-means g c =
    let made = c.in-Ok.ensures.means in (
      made.0,
      made.1,
      sources_ran c.args.table c.args.input.now c.args.turns _ (map string_bytes c.args.roots.now) made.0 _ c.in-Ok.read c.run_of_program.result
          made.2.0 made.2.1 made.2.2 (rw c.deref.ensures at c.run_of_program.ensures),
    )

pub returns-clause-means : goal.returns-clause-means
returns-clause-means g c =
    let made = c.in-Err.ensures.means in (
      made.0,
      made.1,
      sources_refused c.args.table c.args.input.now c.args.turns _ (map string_bytes c.args.roots.now) made.0 _ c.in-Err.error c.refused.result
          made.2.0 made.2.1 made.2.2 c.refused.ensures,
    )
