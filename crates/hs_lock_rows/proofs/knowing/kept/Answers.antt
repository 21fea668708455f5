use Rattle.std.proofs.Common.{◌&&◌, ap, sym, ◌∙◌}
use Rattle.hs_fact_rows.specs.Laws.Numbers.{less_number}
use Rattle.hs_lock_rows.specs.declared.field.Field.TheVariants as field
use Rattle.hs_lock_rows.proofs.knowing.kept.Goals as goal

-- there are so many values
pub returns-then-place-depth : goal.returns-then-place-depth
returns-then-place-depth c facts shows i l =
    c.read.ensures.names facts shows i l
    ∙ ap (λ t. t && facts (field.KeptAt c.args.place) i) (sym (less_number c.args.place c.args.depth c.if-place-depth.true))
