use Rattle.std.proofs.Common.{◌≡◌, ◌++◌, drop, map}
use Rattle.hs_taint.specs.Nodes.{node_in}
use Rattle.hs_taint.proofs.nodes.Call.put_facts.Given as goal

-- those that are left come after what is done
abbrev pub invariant-facts : goal.invariant-facts
invariant-facts l =
    l.into.items ++ map (node_in l.self.operations.now.functions.now l.self.function l.self.entered l.at) (drop l.fact-index l.facts)
    ≡ l.fn.into.items ++ map (node_in l.self.operations.now.functions.now l.self.function l.self.entered l.at) l.facts
