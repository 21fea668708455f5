use Rattle.std.proofs.Common.{add-one, ◌∙◌}
use Rattle.hs_lock_rows.proofs.Written.{made_next, others_next, shows_kept}
use Rattle.hs_lock_rows.specs.Making.{given_at}
use Rattle.hs_rows.specs.Sets.{bit_in}
use Rattle.hs_lock_rows.proofs.making.make_fields.Goals as goal

-- one field more
pub fields-preserved : goal.fields-preserved
fields-preserved g c =
    let plan = c.args.point.plan in
    let first = c.first.result in
    let word = bit_in c.names_after-word.result in
    let size = c.fields.invariant.size in
    rw add-one (record {
      done = λ facts shows.
          made_next plan c.args.to (given_at plan c.args.lists.names.now c.args.lists.slots.now (g.C.Callees.assigned c.args.callees.now)
          c.args.point.low.now c.args.point.at c.args.change facts) c.fields.number first c.field_at-its.result word c.args.rows.now c.fields.rows
          c.write.new.rows c.field_at-its.ensures.there c.field_at-its.ensures.is c.first.ensures.is c.requires.to_in_range
          c.requires.point.fits.room size c.write.ensures
          (λ i l. c.names_after-word.ensures facts
          (shows_kept plan c.args.to c.args.point.at facts c.args.rows.now c.fields.rows c.requires.apart c.requires.point.fits.there
          c.requires.point.fits.room c.fields.invariant.others shows)
          (c.known_at-known.ensures.known c.args.lists.slots.now facts shows) i l)
          (c.fields.invariant.done facts shows);
      others = others_next plan c.args.to first word c.args.rows.now c.fields.rows c.write.new.rows size c.fields.invariant.others c.write.ensures;
      size = record { count = c.write.ensures.size.count ∙ size.count; per = c.write.ensures.size.per ∙ size.per };
    })
