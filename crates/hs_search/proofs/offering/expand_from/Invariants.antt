use Rattle.std.proofs.Common.{◌≡◌, ◌≤◌, length}
use Rattle.hs_search.specs.Bringing.{book_of}
use Rattle.hs_search.specs.Searching.{HasExpanded}
use Rattle.hs_search.proofs.offering.expand_from.Given as goal

-- the rows up to this one are expanded
abbrev pub invariant-loop-number : goal.invariant-loop-number
invariant-loop-number g l = record {
  expanded : HasExpanded (g.G.Graph.flow l.graph) l.rows.items.items l.first l.number (book_of l.fn.calls) (book_of l.calls) l.near.items l.jumps.items;
  operations : length l.calls.entries.heads.items ≡ length l.fn.calls.entries.heads.items;
  from : l.first ≤ l.number;
}
