use Rattle.std.proofs.Common.{◌≡◌, length}
use Rattle.hs_cuts.specs.Cuts.{Cuts, IsStanding, the_task}
use Rattle.hs_rows.specs.Sets.{SameSize}
use Rattle.hs_cuts.proofs.solving.solve.Given as goal

-- the rows come down from all bits
abbrev pub invariant-passes : goal.invariant-passes
invariant-passes g l = record {
  cuts : Cuts (the_task (g.M.Maker.total l.maker) l.code (g.M.Maker.makes l.maker)) l.initial.rows l.rows;
  standing : IsStanding (the_task (g.M.Maker.total l.maker) l.code (g.M.Maker.makes l.maker)) l.flags.items l.rows;
  size : SameSize l.initial.rows l.rows;
  len : length l.flags.items ≡ length l.code.ops;
}
