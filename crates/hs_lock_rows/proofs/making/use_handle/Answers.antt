use Rattle.std.proofs.Common.{◌∙◌}
use Rattle.hs_lock_rows.proofs.Popping.{used_made}
use Rattle.hs_lock_rows.proofs.Written.{others_next}
use Rattle.hs_rows.specs.Sets.{bit_in}
use Rattle.hs_lock_rows.proofs.making.use_handle.Goals as goal

-- the names of the handle are live
pub returns : goal.returns
returns c names slots assigned =
    let plan = c.args.point.plan in
    record {
      made = λ facts shows.
          used_made plan names slots assigned c.args.point.low.now c.args.point.at c.args.to c.args.depth c.args.base c.first.result c.args.rows.now
          c.pop.new.rows c.write.new.rows facts shows c.requires.to_in_range c.requires.point.fits.room c.pop.ensures.size c.pop.ensures.popped
          (bit_in c.read-live.result) (bit_in c.with_at-with.result) c.either-word.result (c.read-live.ensures.names facts shows)
          c.with_at-with.ensures.names c.either-word.ensures c.first.ensures.is c.write.ensures;
      others = others_next plan c.args.to c.first.result (bit_in c.either-word.result) c.args.rows.now c.pop.new.rows c.write.new.rows c.pop.ensures.size
          c.pop.ensures.others c.write.ensures;
      size = record {
        count = c.write.ensures.size.count ∙ c.pop.ensures.size.count;
        per = c.write.ensures.size.per ∙ c.pop.ensures.size.per;
      };
    }
