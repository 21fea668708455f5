use Rattle.std.proofs.Common.{◌∙◌, ap, sym, option_map, Some, slice_get}
use Rattle.std.proofs.lemmas.Option.{slice_get-map}
use Rattle.hs_search.specs.Chains.{pairs_at}
use Rattle.hs_search.specs.Finding.{pairs_of}
use Rattle.hs_taint.specs.Reaching.{number_in, pair_of}
use Rattle.hs_taint.proofs.reached.Reached.pair.Goals as goal

-- the pair of that place among those of numbers
pub returns : goal.returns
returns c =
    slice_get-map pair_of (pairs_at (number_in c.args.self.now c.args.function c.args.at) (pairs_of c.args.self.now.found)) c.args.place
    ∙ (ap (λ n. option_map pair_of (slice_get (pairs_at n (pairs_of c.args.self.now.found)) c.args.place)) (sym c.number.ensures)
    ∙ (ap (option_map pair_of) c.pair-pair.ensures
    ∙ ap Some (λ i. record { entry = sym c.fact_of.ensures i; fact = sym c.fact_of-2.ensures i; length = c.pair-pair.result.length })))
