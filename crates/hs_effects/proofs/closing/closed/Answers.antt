use Rattle.std.proofs.Common.{◌≡◌, ◌<◌, ℕ, List, Contains, arith, subst}
use Rattle.hs_effects.proofs.HandingOn.{closing_begins, closing_goes_on, closing_ends, nothing_left, waited}
use Rattle.hs_effects.specs.Working.{Grows, IsIn}
use Rattle.hs_effects.proofs.closing.closed.Goals as goal

-- all waits
pub pairs-init : goal.pairs-init
pairs-init c = closing_begins c.args.callers.now c.args.work c.requires.all_wait

-- the pair that is taken is in the rows
pub callers_of-requires : goal.callers_of-requires
callers_of-requires c =
    let is : IsIn c.pairs.work.rows c.in-Some.pair.function c.in-Some.pair.number =
    waited c.args.callers.now c.args.work c.pairs.work c.pop.new.self c.in-Some.pair c.in-Some.ensures.items c.pairs.invariant in
    let below : c.in-Some.pair.function < c.pairs.work.rows.count = is.0 in
    record { known = omega (arith, c.requires.each, c.pairs.invariant.size.count, below) }

pub put_all-requires-clause-functions_in_range : goal.put_all-requires-clause-functions_in_range
put_all-requires-clause-functions_in_range c f has =
    rw c.pairs.invariant.size.count
    (c.requires.callers_in_range c.in-Some.pair.function f (subst (λ (its : List ℕ). Contains its f) c.callers_of.ensures has))

pub put_all-requires-clause-number_in_range : goal.put_all-requires-clause-number_in_range
put_all-requires-clause-number_in_range c =
    (waited c.args.callers.now c.args.work c.pairs.work c.pop.new.self c.in-Some.pair c.in-Some.ensures.items c.pairs.invariant).1

-- it is handed on
pub pairs-preserved : goal.pairs-preserved
pairs-preserved c =
    closing_goes_on c.args.callers.now c.args.work c.pairs.work c.put_all.new.work c.pop.new.self c.in-Some.pair c.in-Some.ensures.items
    c.pairs.invariant
    (subst
    (λ (its : List ℕ). Grows (λ f b. Contains its f × (b ≡ c.in-Some.pair.number)) (record { rows = c.pairs.work.rows; waiting = c.pop.new.self })
    c.put_all.new.work)
    c.callers_of.ensures c.in_ok-put_all.ensures.grows)

-- nothing waits
pub returns-clause-exact : goal.returns-clause-exact
returns-clause-exact c =
    closing_ends c.args.callers.now c.args.work c.pairs.work c.pairs.invariant
    (nothing_left c.pairs.work.waiting.items c.pop.new.self.items _ c.in_default.ensures.items c.in_default.ensures.cases.0 c.in_default.ensures.rest)
