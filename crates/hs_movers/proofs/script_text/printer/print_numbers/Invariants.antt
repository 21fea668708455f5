use Rattle.std.proofs.Common.{◌≡◌, ◌++◌, take}
use Rattle.std.specs.List.{flat_map}
use Rattle.hs_movers.proofs.Lists.{after_comma}
use Rattle.hs_movers.proofs.script_text.printer.print_numbers.Given as goal

abbrev pub invariant-loop-number : goal.invariant-loop-number
invariant-loop-number l = l.text.items ≡ l.initial.text.items ++ flat_map after_comma (take l.number-index l.rest)
