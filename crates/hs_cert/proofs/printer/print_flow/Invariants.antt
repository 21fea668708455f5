use Rattle.std.proofs.Common.{◌≡◌, ◌++◌, drop}
use Rattle.hs_cert.specs.Texts.{flow_lines}
use Rattle.hs_cert.proofs.printer.print_flow.Given as goal

abbrev pub invariant-loop-edge : goal.invariant-loop-edge
invariant-loop-edge l = l.text.items ++ flow_lines l.edge (drop l.edge l.flow) ≡ l.fn.text.items ++ flow_lines 0 l.flow
