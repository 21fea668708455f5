-- Each answer is the first fact that fails; the facts before it are what the steps before it found.
use Rattle.std.proofs.Common.{◌≡◌, ◌∙◌, sym, arith, rules}
use Rattle.std.specs.Prelude.{nat_abs, nat_lt}
use Rattle.std.proofs.lemmas.Int.{ints}
use Rattle.std.proofs.lemmas.List.Sums.{count_by-le-length}
use Rattle.hs_cut.specs.Flows.{most, net_out, AreOfSize, IsConserved}
use Rattle.hs_cut.specs.Networks.{among, crosses}
use Rattle.hs_cut.specs.Duality.{fewest}
use Rattle.hs_cert.specs.Certificates.{IsFirstUnequal}
use Rattle.hs_cert.specs.CertificateLaws.{small_flow}
use Rattle.hs_cert.proofs.Agreeing.{of_size, place_below}
use Rattle.hs_cert.proofs.verifier.verify.Goals as goal

pub overflow_cast-result : goal.overflow_cast-result
overflow_cast-result c =
    let below = place_below c.args.network.now.edges c.args.c.now.flow (λ it. nat_lt (most it.0) (nat_abs it.1)) c.in-Some.at
    (rw (← c.items.ensures, ← c.items-flow.ensures) (sym c.first_too_large.ensures ∙ c.in-Some.is)) in
    search rules

pub first_unbalanced-requires-clause-small : goal.first_unbalanced-requires-clause-small
first_unbalanced-requires-clause-small c =
    let sizes : AreOfSize c.args.network.now c.args.c.now.flow = of_size c.args.network.now.edges c.args.c.now.flow
    (rw (← c.items.ensures, ← c.items-flow.ensures) (sym c.first_too_large.ensures ∙ c.in_default.is)) in
    rw c.items-flow.ensures (small_flow c.args.network.now.edges c.args.c.now.flow c.requires.each sizes)

pub value-requires-clause-small : goal.value-requires-clause-small
value-requires-clause-small c =
    let sizes : AreOfSize c.args.network.now c.args.c.now.flow = of_size c.args.network.now.edges c.args.c.now.flow
    (rw (← c.items.ensures, ← c.items-flow.ensures) (sym c.first_too_large.ensures ∙ c.in_default.is)) in
    rw c.items-flow.ensures (small_flow c.args.network.now.edges c.args.c.now.flow c.requires.each sizes)

pub returns-in-Some-first_unbalanced-clause-wrong : goal.returns-in-Some-first_unbalanced-clause-wrong
returns-in-Some-first_unbalanced-clause-wrong c =
    let sizes : AreOfSize c.args.network.now c.args.c.now.flow = of_size c.args.network.now.edges c.args.c.now.flow
    (rw (← c.items.ensures, ← c.items-flow.ensures) (sym c.first_too_large.ensures ∙ c.in_default.is)) in
    let first : IsFirstUnequal c.args.network.now c.args.c.now.flow c.in-Some-first_unbalanced.vertex =
    rw c.items-flow.ensures at c.in-Some-first_unbalanced.ensures.found in
    (c.in_ok-crossings.ensures.cut.inside, c.in_ok-crossings.ensures.cut.outside, c.in_ok-crossings.ensures.cut.slotless, sizes, first)

pub returns-then-value-crossings-clause-wrong : goal.returns-then-value-crossings-clause-wrong
returns-then-value-crossings-clause-wrong c =
    let sizes : AreOfSize c.args.network.now c.args.c.now.flow = of_size c.args.network.now.edges c.args.c.now.flow
    (rw (← c.items.ensures, ← c.items-flow.ensures) (sym c.first_too_large.ensures ∙ c.in_default.is)) in
    let conserved : IsConserved c.args.network.now c.args.c.now.flow =
    rw c.items-flow.ensures at c.in_default-first_unbalanced.ensures.none in
    let value : c.value.result ≡ net_out (among c.args.network.now.inside) c.args.network.now.edges c.args.c.now.flow =
    rw c.items-flow.ensures at c.value.ensures in
    let low = count_by-le-length (crosses (among c.args.c.now.inside)) c.args.network.now.edges in (
      c.in_ok-crossings.ensures.cut.inside,
      c.in_ok-crossings.ensures.cut.outside,
      c.in_ok-crossings.ensures.cut.slotless,
      sizes,
      conserved,
      λ equal. omega (arith, ints, equal, value, c.in_ok-crossings.ensures.crossings, c.if-value-crossings.true),
    )

pub returns-clause-fits : goal.returns-clause-fits
returns-clause-fits c =
    let sizes : AreOfSize c.args.network.now c.args.c.now.flow = of_size c.args.network.now.edges c.args.c.now.flow
    (rw (← c.items.ensures, ← c.items-flow.ensures) (sym c.first_too_large.ensures ∙ c.in_default.is)) in
    let conserved : IsConserved c.args.network.now c.args.c.now.flow =
    rw c.items-flow.ensures at c.in_default-first_unbalanced.ensures.none in
    let value : c.value.result ≡ net_out (among c.args.network.now.inside) c.args.network.now.edges c.args.c.now.flow =
    rw c.items-flow.ensures at c.value.ensures in
    let low = count_by-le-length (crosses (among c.args.c.now.inside)) c.args.network.now.edges in
    record {
      each = c.requires.each;
      inside = c.in_ok-crossings.ensures.cut.inside;
      outside = c.in_ok-crossings.ensures.cut.outside;
      slotless = c.in_ok-crossings.ensures.cut.slotless;
      size = sizes;
      conservation = conserved;
      value = omega (arith, ints, value, c.in_ok-crossings.ensures.crossings, c.if-value-crossings.false);
    }

pub returns-clause-least : goal.returns-clause-least
returns-clause-least c = λ other cut.
    fewest c.args.network.now (among c.args.c.now.inside) other c.args.c.now.flow c.requires.numbered (returns-clause-fits c) cut
