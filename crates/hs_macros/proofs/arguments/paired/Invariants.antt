use Rattle.std.proofs.Common.{◌≡◌, ◌++◌, ℕ, List, map, length}
use Rattle.hs_macros.specs.Arguments.{paired}
use Rattle.hs_macros.specs.Slots.{names_of}
use Rattle.hs_macros.specs.Stacks.{waiting, with_later, parameters_ahead}
use Rattle.hs_macros.proofs.Collecting.{row}
use Rattle.hs_macros.proofs.arguments.paired.Given as goal

-- those that are paired come after those that are left
abbrev pub invariant-parameters : goal.invariant-parameters
invariant-parameters l = record {
  same : (names : List (List ℕ))
      → with_later (paired (names_of l.left) (map (row names) l.given.items)) (waiting names l.waiting.items)
      ≡ paired (names_of l.parameters) (map (row names) l.fn.given.items);
  all : l.left ++ parameters_ahead l.waiting.items ≡ l.parameters;
}

-- each turn takes a parameter
abbrev pub decreases-parameters : goal.decreases-parameters
decreases-parameters l = length l.left
