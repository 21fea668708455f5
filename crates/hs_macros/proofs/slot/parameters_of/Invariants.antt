use Rattle.std.proofs.Common.{◌≡◌, take}
use Rattle.hs_macros.specs.Lines.{names_of as names_in_line}
use Rattle.hs_macros.specs.Slots.{names_of, AreMarked}
use Rattle.hs_macros.proofs.slot.parameters_of.Given as goal

-- the names that were passed are copied, each with whether it is used
abbrev pub invariant-names : goal.invariant-names
invariant-names l = record {
  copied : names_of l.parameters.items ≡ names_in_line (take l.name-index l.names);
  marked : AreMarked l.parameters.items l.tokens;
}
