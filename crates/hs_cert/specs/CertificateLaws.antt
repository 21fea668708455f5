-- Laws of certificates, for anyone who has one.
--     small_flow                 the numbers of a flow that is of size are at most 2147483647
--     IsCertificate-from_fits    a cut with a flow that fits it is a certificate
--     right_or_wrong             no certificate both fits and is wrong
use Rattle.std.proofs.Common.{◌≡◌, ℕ, ◌≤◌, ℤ, pos, nat_abs, nat_lt, not, Bool, true, false, ◌&&◌, cond, List, [], ◌∷◌, length, get_or, arith}
use Rattle.std.specs.List.{All, zip}
use Rattle.std.proofs.lemmas.Bool.{and_parts, not-true, both_ways}
use Rattle.std.proofs.lemmas.Bool.Decides.{nat_tests}
use Rattle.std.proofs.lemmas.List.Elements.{All-nil, All-cons, All-tail}
use Rattle.std.proofs.lemmas.List.Quantifiers.{position-Some}
use Rattle.hs_cut.specs.declared.network.CutEdge.{CutEdge}
use Rattle.hs_cut.specs.declared.network.Network.{Network}
use Rattle.hs_cut.specs.Networks.{among, crosses}
use Rattle.hs_cut.specs.Flows.{Fits, most}
use Rattle.hs_cert.specs.Certificates.{IsCertificate, IsInside, IsWrong}
use Rattle.hs_cert.specs.declared.certificate.Certificate.{Certificate}
use Rattle.hs_cert.specs.declared.certificate.Wrong.{Wrong}
use Rattle.hs_cert.specs.declared.certificate.Wrong.TheVariants.{Inside, Outside, Slotless, Size, Conservation, Value}

-- if nothing is too large, each number is below its edge's limit, and that is below 2^31
pub small_flow : (edges : List CutEdge) (flow : List ℤ) → length flow ≡ length edges → All (λ it. nat_abs it.1 ≤ most it.0) (zip edges flow)
    → All (λ amount. nat_abs amount ≤ 2147483647) flow
small_flow edges [] each small = All-nil (λ amount. nat_abs amount ≤ 2147483647)
small_flow [] (amount ∷ flow) each small = absurd (omega arith)
small_flow (edge ∷ edges) (amount ∷ flow) each small =
    let first : nat_abs amount ≤ most edge = small 0 (edge, amount) (omega arith) in
    let limit : most edge ≤ 2147483647 = below edge.slot in
    All-cons (λ amount. nat_abs amount ≤ 2147483647) amount flow (omega arith)
    (small_flow edges flow (omega arith) (All-tail (λ (it : CutEdge × ℤ). nat_abs it.1 ≤ most it.0) (edge, amount) (zip edges flow) small))
  where
    below : (slot : Bool) → cond slot 1 2147483647 ≤ 2147483647
    below true = omega arith
    below false = omega arith

-- a cut with a flow that fits it is a certificate
pub IsCertificate-from_fits : (network : Network) (c : Certificate) → IsInside network c.inside → Fits network (among c.inside) c.flow
    → IsCertificate network c
IsCertificate-from_fits network c inside fits = record {
  inside = inside;
  each = fits.each;
  small = small_flow network.edges c.flow fits.each fits.size;
}

-- stands for what is past the end of the list
no_edge : CutEdge
no_edge = record { from = 0; to = 0; slot = false }

-- no certificate both fits and is wrong
pub right_or_wrong : (network : Network) (inside : List ℕ) (flow : List ℤ) (wrong : Wrong) → Fits network (among inside) flow
    → IsWrong network inside flow wrong → ⊥
right_or_wrong network inside flow Inside fits is = is fits.inside
right_or_wrong network inside flow Outside fits is = is.1 fits.outside
right_or_wrong network inside flow (Slotless at) fits is =
    let found = position-Some (λ edge. not edge.slot && crosses (among inside) edge) network.edges at no_edge is.2 in
    let edge : CutEdge = get_or network.edges at no_edge in
    let both = and_parts (not edge.slot) (crosses (among inside) edge) found.1 in
    both_ways (crosses (among inside) edge) (fits.slotless at no_edge found.0 (not-true edge.slot both.0)) both.1
right_or_wrong network inside flow (Size at) fits is =
    let found = position-Some (λ (it : CutEdge × ℤ). nat_lt (most it.0) (nat_abs it.1)) (zip network.edges flow) at (no_edge, pos 0) is.3 in
    let low = fits.size at (no_edge, pos 0) found.0 in
    let high = found.1 in
    absurd (grind (arith, nat_tests))
right_or_wrong network inside flow (Conservation vertex) fits is =
    is.4.unequal (fits.conservation vertex is.4.below is.4.free)
right_or_wrong network inside flow Value fits is = is.5 fits.value
