use Rattle.std.proofs.Common.{map}
use Rattle.std.specs.String.{string_bytes}
use Rattle.hs_source.proofs.Programs.{IsSource-of_program, IsSource-of_refusal}
use Rattle.hs_source.proofs.source.read_program.Goals as goal

-- the program of the sources is that of the files
pub returns-in-Ok-clause-means : goal.returns-in-Ok-clause-means
returns-in-Ok-clause-means g c =
    let it = c.in-Ok.ensures.reads in (
      it.reads,
      it.leads_on,
      (
        it.in_turn,
        IsSource-of_program c.args.table it.reads (map string_bytes c.args.roots.now) c.in-Ok.source c.program_of-program.result c.with.result
            c.with.ensures.both c.with.ensures.fails it.outcome (rw c.items.ensures at c.program_of-program.ensures),
      ),
    )

-- reading refuses
pub returns-in-Err-clause-means : goal.returns-in-Err-clause-means
returns-in-Err-clause-means g c =
    let it = c.in-Err.ensures.reads in (
      it.reads,
      it.leads_on,
      (
        it.in_turn,
        IsSource-of_refusal c.args.table it.reads (map string_bytes c.args.roots.now) c.in-Err.error c.refused.result it.outcome
            c.refused.ensures,
      ),
    )
