-- The flags are the vertices inside.
use Rattle.std.proofs.Common.{◌∙◌, sym}
use Rattle.hs_cert.specs.Flags.{flagged}
use Rattle.hs_cert.proofs.Agreeing.{AreAlike, all_pass, not_all_pass, not_all_out, cut_of}
use Rattle.hs_cut.specs.Networks.{among}
use Rattle.hs_cert.proofs.verifier.check_cut.Goals as goal

pub returns-then-not-all_flagged-clause-wrong : goal.returns-then-not-all_flagged-clause-wrong
returns-then-not-all_flagged-clause-wrong c =
    let alike : AreAlike (flagged c.flag.new.flags) (among c.args.c.now.inside) = rw c.items.ensures at c.flag.ensures.flags in
    not_all_pass (flagged c.flag.new.flags) (among c.args.c.now.inside) alike c.args.network.now.inside
    (rw (← c.items-2.ensures) (sym c.all_flagged.ensures ∙ c.if-not-all_flagged.true))

pub returns-then-any_flagged-clause-wrong : goal.returns-then-any_flagged-clause-wrong
returns-then-any_flagged-clause-wrong c =
    let alike : AreAlike (flagged c.flag.new.flags) (among c.args.c.now.inside) = rw c.items.ensures at c.flag.ensures.flags in (
      all_pass (flagged c.flag.new.flags) (among c.args.c.now.inside) alike c.args.network.now.inside
          (rw (← c.items-2.ensures) (sym c.all_flagged.ensures ∙ c.if-not-all_flagged.false)),
      not_all_out (flagged c.flag.new.flags) (among c.args.c.now.inside) alike c.args.network.now.outside
          (rw (← c.items-3.ensures) (sym c.any_flagged.ensures ∙ c.if-any_flagged.true)),
    )

pub returns-clause-cut : goal.returns-clause-cut
returns-clause-cut c =
    let alike : AreAlike (flagged c.flag.new.flags) (among c.args.c.now.inside) = rw c.items.ensures at c.flag.ensures.flags in
    cut_of c.args.network.now (flagged c.flag.new.flags) (among c.args.c.now.inside) alike
    (rw (← c.items-2.ensures) (sym c.all_flagged.ensures ∙ c.if-not-all_flagged.false))
    (rw (← c.items-3.ensures) (sym c.any_flagged.ensures ∙ c.if-any_flagged.false))
    (rw (← c.items-edges.ensures) (sym c.first_slotless.ensures ∙ c.in_default.is))
