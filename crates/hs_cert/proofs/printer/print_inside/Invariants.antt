use Rattle.std.proofs.Common.{◌≡◌, ◌++◌, take}
use Rattle.std.specs.List.{flat_map}
use Rattle.hs_cert.proofs.Words.{word}
use Rattle.hs_cert.proofs.printer.print_inside.Given as goal

abbrev pub invariant-loop-vertex : goal.invariant-loop-vertex
invariant-loop-vertex l = l.text.items ≡ l.initial.text.items ++ flat_map word (take l.vertex-index l.inside)
