use Rattle.std.proofs.Common.{◌≡◌}
use Rattle.hs_effects.specs.Calling.{whole_of}
use Rattle.hs_must.specs.Ends.{AreSome}
use Rattle.hs_must.proofs.finding.all_facts.Given as goal

-- the functions so far
abbrev pub invariant-functions : goal.invariant-functions
invariant-functions l = record {
  items : l.own-items ≡ l.code.functions.items;
  are : AreSome (whole_of l.code) l.number l.all.items;
}
