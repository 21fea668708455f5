use Rattle.std.proofs.Common.{◌≡◌, ◌≤◌, ℕ, List, length}
use Rattle.hs_macros.specs.Definitions.{Definitions}
use Rattle.hs_macros.specs.Loads.{load}
use Rattle.hs_macros.specs.Stacks.{done, waiting, IsKnown}
use Rattle.hs_macros.specs.Frames.{call_outcome}
use Rattle.hs_macros.proofs.expansion.proceed.Given as goal

-- arguments that are not used change nothing of what comes of the invocation
abbrev pub invariant-arguments : goal.invariant-arguments
invariant-arguments l = record {
  same : (names : List (List ℕ)) (macros : Definitions)
      → call_outcome names macros (done names l.before.items) l.call l.left ≡ call_outcome names macros (done names l.before.items) l.fn.call l.left;
  fewer : (names : List (List ℕ)) → load (waiting names l.call.waiting.items) ≤ load (waiting names l.fn.call.waiting.items);
  behind : l.call.behind.items ≡ l.fn.call.behind.items;
  waits : l.calls.items ≡ l.initial.calls.items;
  known : IsKnown l.call;
}

-- each turn takes one of the arguments that wait
abbrev pub decreases-arguments : goal.decreases-arguments
decreases-arguments l = length l.call.waiting.items
