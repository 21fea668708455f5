-- What the reader said of the files, the report says.
use Rattle.std.proofs.Common.{Ok, Err, List, map, [], refl, subst}
use Rattle.std.specs.Box.{box_value}
use Rattle.std.specs.String.{string_bytes}
use Rattle.hs_directives.specs.Reads.{AreBegun}
use Rattle.hs_source.specs.Source.{IsSource}
use Rattle.hs_table.specs.declared.routine.Routine.{Routine}
use Rattle.hs_typing.specs.Programs.{view_program}
use Rattle.hs_command.proofs.Verdicts.{no_program_verdict}
use Rattle.hs_command.proofs.judge.judge.Goals as goal

pub returns-in-Ok-read_noting-clause-means : goal.returns-in-Ok-read_noting-clause-means
returns-in-Ok-read_noting-clause-means g c =
    let made = c.in-Ok-read_noting.ensures.means in
    let is = subst
    (λ (table : List Routine). IsSource table made.0 (map string_bytes c.args.roots.now) (Ok c.in-Ok-read_noting.read)) c.in-Ok.ensures made.2.2 in (
      made.0,
      made.1,
      (made.2.0, c.verdict.ensures made.0 (map string_bytes c.args.roots.now) is.0 (view_program (box_value c.in-Ok-read_noting.read.1), is.1)),
    )

pub returns-clause-means : goal.returns-clause-means
returns-clause-means g c =
    let made = c.in-Err.ensures.means in
    let is = subst (λ (table : List Routine). IsSource table made.0 (map string_bytes c.args.roots.now) (Err c.in-Err.error)) c.in-Ok.ensures made.2.2 in (
      made.0,
      made.1,
      (
        made.2.0,
        no_program_verdict made.0 (map string_bytes c.args.roots.now) c.refused.result
            (c.refused.ensures _ made.0 (map string_bytes c.args.roots.now) made.2.1 is),
      ),
    )

pub returns-in_default-clause-means : goal.returns-in_default-clause-means
returns-in_default-clause-means g c = ([], refl, (AreBegun.none [], tt))
