use Rattle.std.proofs.Common.{rules, ◌<◌, length, arith}
use Rattle.hs_types.proofs.Indexing.{completes_next}
use Rattle.hs_types.proofs.body.Fields.indexed.Goals as goal

-- the next field is in the index
pub fields-preserved : goal.fields-preserved
fields-preserved c =
    let within : c.fields.field-index < length c.deref-field-items.result.now = omega (arith, c.fields-test.true) in
    completes_next c.fields.index c.in_ok-index.index c.fields.place c.fields.field-index c.field-item.result c.deref-field-items.result.now within
    c.field-item.is c.fields.invariant (search rules)
