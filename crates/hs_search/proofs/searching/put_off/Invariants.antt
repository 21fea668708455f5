use Rattle.std.proofs.Common.{take}
use Rattle.hs_search.specs.Searching.{AreBelow, IsPutOff}
use Rattle.hs_search.proofs.searching.put_off.Given as goal

-- so many are listed
abbrev pub invariant-loop-jump : goal.invariant-loop-jump
invariant-loop-jump l = record {
  put : IsPutOff l.most (take l.jump-index l.jump-items) l.fn.far.items.items l.far.items.items;
  below : AreBelow l.last l.far.items.items;
}
