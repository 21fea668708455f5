use Rattle.std.proofs.Common.{◌<◌, ◌&&◌, ap, ◌∙◌, arith}
use Rattle.hs_lock_rows.proofs.Bits.{other_turned}
use Rattle.hs_lock_rows.specs.Given.{other}
use Rattle.hs_rows.specs.Sets.{bit_in}
use Rattle.hs_lock_rows.proofs.knowing.apart_row.Goals as goal

-- without the name itself
pub returns : goal.returns
returns c = record {
  names = λ facts shows y l.
      let most = c.requires.point.fits.names in
      let within : y < 64 = omega (arith, l, most) in
      c.both.ensures y
      ∙ ap (λ t. t && bit_in c.read.result y) (c.all_but.ensures y within ∙ other_turned c.args.name y)
      ∙ ap (λ t. other y c.args.name && t) (c.read.ensures.names facts shows y l);
}
