use Rattle.std.proofs.Common.{◌≡◌, sym, ap, ◌∙◌}
use Rattle.std.specs.FinSet as set
use Rattle.hs_macros.proofs.Rising.{set_of, IsRising, contains_searched}
use Rattle.hs_macros.proofs.hide_set.HideSet.contains.Goals as goal

-- the search answers whether the set of the numbers holds this one
pub returns : goal.returns
returns c =
    let seen : set_of c.as_slice.result.now ≡ c.args.self.now = ap set_of c.as_slice.ensures ∙ c.self.view_is in
    let rising : IsRising (c.as_slice.result.now) = rw c.as_slice.ensures c.self.invariant in
    let answer = c.binary_search.ensures in
    c.is_ok.ensures.value
    ∙ sym (contains_searched c.args.number c.as_slice.result.now c.binary_search.result answer.bound answer.position rising)
    ∙ ap (λ held. set.contains held c.args.number) seen
