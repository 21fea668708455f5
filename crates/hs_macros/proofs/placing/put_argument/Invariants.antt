use Rattle.std.proofs.Common.{◌≡◌, ◌++◌, ℕ, List, map}
use Rattle.std.specs.Prelude.{IfSome}
use Rattle.hs_macros.specs.Numbers.{named}
use Rattle.hs_macros.specs.Replacement.{from_argument}
use Rattle.hs_macros.specs.Stacks.{done, ahead, IsJoined}
use Rattle.hs_macros.proofs.placing.put_argument.Given as goal

-- those that are put follow those that are left, and the last set is right
abbrev pub invariant-loop-pending : goal.invariant-loop-pending
invariant-loop-pending l = record {
  put : (names : List (List ℕ))
      → map (from_argument l.pos (named names l.hides.value)) (done names l.pending-iterator.iter.rest.now) ++ ahead names l.tokens.items
      ≡ map (from_argument l.pos (named names l.hides.value)) (done names l.argument) ++ ahead names l.initial.tokens.items;
  joined : IfSome l.last (IsJoined l.hides.value);
}
