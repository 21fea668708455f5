use Rattle.std.proofs.Common.{◌≡◌, add-one, ◌&&◌, ◌||◌, ap, ◌∙◌, arith, subst}
use Rattle.hs_lock_rows.specs.Given.{any, other}
use Rattle.hs_lock_rows.specs.declared.field.Field.TheVariants as field
use Rattle.hs_rows.specs.Sets.{bit_in}
use Rattle.hs_lock_rows.proofs.knowing.apart_from.Goals as goal

-- one name more
pub names-preserved : goal.names-preserved
names-preserved c = rw add-one (record {
  so_far = λ facts shows y l.
      c.either-word.ensures y
      ∙ ap (λ t. t || bit_in c.if_so.result y) (c.names.invariant.so_far facts shows y l)
      ∙ ap (λ t. any c.names.name (λ x. bit_in c.args.names x && (other y x && facts (field.Apart x) y)) || t)
      (c.if_so.ensures y ∙ ap (λ t. t && bit_in c.apart_row-row.result y) c.has_bit.ensures
      ∙ ap (λ t. bit_in c.args.names c.names.name && t) (c.apart_row-row.ensures.names facts shows y l));
})

-- all names are done
pub returns : goal.returns
returns c facts shows y l =
    let all : c.names.name ≡ c.args.point.plan.names = omega arith in
    subst (λ n. bit_in c.names.word y ≡ any n (λ x. bit_in c.args.names x && (other y x && facts (field.Apart x) y))) all
    (c.names.invariant.so_far facts shows y l)
