-- The flags are the vertices that must be inside.
use Rattle.std.proofs.Common.{◌≡◌, ◌∙◌, ap, List, to_z, of_z, w64, arith}
use Rattle.std.proofs.lemmas.Int.{ints}
use Rattle.hs_cert.specs.Flags.{flagged}
use Rattle.hs_cert.proofs.Agreeing.{AreAlike}
use Rattle.hs_cut.specs.declared.network.CutEdge.{CutEdge}
use Rattle.hs_cut.specs.Flows.{net_out}
use Rattle.hs_cut.specs.NetOut.{net_out-same}
use Rattle.hs_cut.specs.Networks.{among}
use Rattle.hs_cert.proofs.verifier.value.Goals as goal

pub returns : goal.returns
returns c =
    let alike : AreAlike (flagged c.flag.new.flags) (among c.args.network.now.inside) = rw c.items.ensures at c.flag.ensures.flags in
    let same : to_z w64 (of_z w64 c.net_out.result) ≡ c.net_out.result = omega (arith, ints) in
    same ∙ (c.net_out.ensures
    ∙ (ap (λ (edges : List CutEdge). net_out (flagged c.flag.new.flags) edges c.args.flow.now) c.items-2.ensures
    ∙ net_out-same (flagged c.flag.new.flags) (among c.args.network.now.inside) alike c.args.network.now.edges c.args.flow.now))
