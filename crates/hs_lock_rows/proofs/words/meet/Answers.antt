use Rattle.std.proofs.Common.{sym, ◌∙◌}
use Rattle.hs_lock_rows.proofs.Bits.{met}
use Rattle.hs_rows.specs.Sets.{bit_in}
use Rattle.hs_lock_rows.proofs.words.meet.Goals as goal

pub returns : goal.returns
returns c f g here there =
    met c.args.names (bit_in c.args.a) (bit_in c.args.b) f g c.requires.few here there c.is_some.result
    (λ h. let one = c.is_some.ensures.some h in (one.0, sym (c.both.ensures one.0) ∙ one.1))
    (λ h i. sym (c.both.ensures i) ∙ c.is_some.ensures.none h i)
