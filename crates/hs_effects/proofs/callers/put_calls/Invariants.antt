use Rattle.hs_effects.specs.Calling.{CallsPut}
use Rattle.hs_effects.proofs.callers.put_calls.Given as goal

-- the calls so far are put in
abbrev pub invariant-ops : goal.invariant-ops
invariant-ops l = CallsPut l.ops l.caller l.its-index l.fn.rows.items l.rows.items
