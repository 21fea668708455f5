use Rattle.std.proofs.Common.{◌≡◌, ◌++◌, ℕ, List, map, take}
use Rattle.hs_macros.specs.Replacement.{source_of}
use Rattle.hs_macros.specs.Stacks.{done}
use Rattle.hs_macros.proofs.pending.put_sources.Given as goal

-- the tokens so far are put
abbrev pub invariant-loop-pending : goal.invariant-loop-pending
invariant-loop-pending l = (names : List (List ℕ))
    → l.sources.items ≡ l.initial.sources.items ++ map source_of (done names (take l.pending-index l.tokens))
