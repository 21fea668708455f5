use Rattle.std.proofs.Common.{ℕ, ◌≡◌, ◌<◌, ◌&&◌, ap, sym, ◌∙◌}
use Rattle.hs_fact_rows.specs.Given.{facts_in, with_of}
use Rattle.hs_lock_rows.proofs.Bits.{any_same}
use Rattle.hs_lock_rows.specs.Given.{any, other}
use Rattle.hs_lock_rows.specs.Knowing.{argument_of}
use Rattle.hs_lock_rows.specs.declared.field.Field.TheVariants as field
use Rattle.hs_rows.specs.Sets.{bit_in}
use Rattle.hs_lock_rows.proofs.knowing.known_at.Goals as goal

pub returns-clause-known : goal.returns-clause-known
returns-clause-known g c slots facts shows =
    let n = c.args.point.plan.names in
    let low = facts_in c.args.point.plan c.args.point.low.now c.args.point.at in
    let with = rw c.argument-depth.ensures at c.with_at-with.ensures.names in
    let apart : (y : ℕ) → y < n → bit_in c.apart_from-apart.result y
    ≡ any n (λ x. with_of low (argument_of c.args.change).0 (argument_of c.args.change).1 x && (other y x && facts (field.Apart x) y)) =
    λ y l. c.apart_from-apart.ensures facts shows y l
    ∙ any_same n (λ x. bit_in c.with_at-with.result x && (other y x && facts (field.Apart x) y))
    (λ x. with_of low (argument_of c.args.change).0 (argument_of c.args.change).1 x && (other y x && facts (field.Apart x) y))
    (λ x k. ap (λ t. t && (other y x && facts (field.Apart x) y)) (with x k)) in
    record {
      with = with;
      few = c.with_at-with.ensures.few;
      apart = apart;
      locks = λ i l. c.locks_of.ensures c.args.names.now slots (g.C.Callees.assigned c.args.callees.now) facts shows apart i l;
      lives = λ i l. c.lives_of.ensures c.args.point.plan c.args.names.now slots (g.C.Callees.assigned c.args.callees.now) c.args.point.low.now
          c.args.point.at facts c.requires.point.fits.names apart i l;
      names_stay = λ i l. c.names_of.ensures c.args.point.plan slots c.args.point.low.now c.args.point.at facts (sym c.requires.names) i l;
      new = rw c.argument-depth.ensures at (c.has_bit-new.ensures ∙ c.new.ensures facts shows 0 c.requires.point.fits.some);
    }
