use Rattle.std.proofs.Common.{◌≡◌, ◌++◌, drop, map}
use Rattle.hs_taint.specs.Nodes.{each_in}
use Rattle.hs_taint.specs.Routes.{target_of}
use Rattle.hs_taint.proofs.nodes.Call.put_cases.Given as goal

-- those that are left come after what is done
abbrev pub invariant-cases : goal.invariant-cases
invariant-cases l =
    l.into.items ++ each_in l.self.operations.now.functions.now l.self.function l.self.entered l.facts (map target_of (drop l.case-index l.cases))
    ≡ l.fn.into.items ++ each_in l.self.operations.now.functions.now l.self.function l.self.entered l.facts (map target_of l.cases)
