use Rattle.std.proofs.Common.{◌≡◌, sym, ap, ◌∙◌}
use Rattle.std.specs.FinSet as set
use Rattle.hs_macros.proofs.Rising.{set_of, IsRising, contains_found, place_of_search, IsRising-insert, set_of-insert, insert_held}
use Rattle.hs_macros.proofs.hide_set.HideSet.insert.Goals as goal

-- a number that the search finds is in the set already
pub returns-in-Ok-clause-inserted : goal.returns-in-Ok-clause-inserted
returns-in-Ok-clause-inserted c =
    let seen : set_of c.as_slice.result.now ≡ c.args.self.now = ap set_of c.as_slice.ensures ∙ c.self.view_is in
    let held = contains_found c.args.number c.as_slice.result.now c.in-Ok.field-0 c.in-Ok.ensures.bound c.in-Ok.ensures.ok in
    rw (← seen) (sym (insert_held (set_of c.as_slice.result.now) c.args.number held))

-- the number goes to its place, so the numbers stay in order
pub invariant_of-self-in-Err : goal.invariant_of-self-in-Err
invariant_of-self-in-Err c =
    let rising : IsRising (c.as_slice.result.now) = rw c.as_slice.ensures c.self.invariant in
    let around = place_of_search c.args.number c.as_slice.result.now c.in-Err.index c.in-Err.ensures.position rising in
    rw (c.in_ok-insert-in-Err.ensures.ok, ← c.as_slice.ensures)
    (IsRising-insert c.args.number c.as_slice.result.now c.in-Err.index c.in-Err.ensures.bound around rising)

-- and the set of them has one more
pub returns-in_ok-insert-in-Err-clause-inserted : goal.returns-in_ok-insert-in-Err-clause-inserted
returns-in_ok-insert-in-Err-clause-inserted c =
    ap set_of c.in_ok-insert-in-Err.ensures.ok
    ∙ set_of-insert c.args.number c.self.inside.numbers.items c.in-Err.index
    ∙ ap (λ held. set.insert held c.args.number) c.self.view_is
