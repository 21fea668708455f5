use Rattle.std.proofs.Common.{◌≡◌, ◌-◌, length, suc}
use Rattle.hs_search.proofs.lists.Lists.widen_to.Given as goal

-- no item is added
abbrev pub invariant-keys : goal.invariant-keys
invariant-keys g l = l.self.items.items ≡ l.fn.self.items.items

abbrev pub decreases-keys : goal.decreases-keys
decreases-keys g l = suc l.key - length l.self.heads.items
