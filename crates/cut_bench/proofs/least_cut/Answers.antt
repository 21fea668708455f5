use Rattle.hs_cut.specs.Flows.{Fits}
use Rattle.hs_cut.specs.Networks.{among}
use Rattle.hs_cert.specs.declared.certificate.Certificate.{Certificate}
use Rattle.hs_cert.specs.Certificates.{IsCertificate}
use Rattle.hs_cert.specs.CertificateLaws.{IsCertificate-from_fits}
use Rattle.cut_bench.proofs.least_cut.Goals as goal

-- a cut with a flow that fits it is a certificate
pub print-requires : goal.print-requires
print-requires c = record {
  certificate = IsCertificate-from_fits c.args.network.now (record { inside = c.in_ok-cut.cut.inside; flow = c.in_ok-cut.cut.flow })
      (record { ascends = c.in_ok-cut.ensures.ascends; vertices = c.in_ok-cut.ensures.vertices }) c.in_ok-cut.ensures.fits;
}

-- its text was printed
pub returns : goal.returns
returns c =
    let own : Certificate = record { inside = c.in_ok-cut.cut.inside; flow = c.in_ok-cut.cut.flow } in
    let fits : Fits c.args.network.now (among own.inside) own.flow = c.in_ok-cut.ensures.fits in
    let is : IsCertificate c.args.network.now own = IsCertificate-from_fits c.args.network.now own
    (record { ascends = c.in_ok-cut.ensures.ascends; vertices = c.in_ok-cut.ensures.vertices }) fits in
    (own, is, fits, c.in_ok-print.ensures)
