use Rattle.std.proofs.Common.{length, ap, ◌∙◌}
use Rattle.hs_heap.proofs.Counting.{within}
use Rattle.hs_heap.proofs.Moving.{stops, moves, as_many_blocks, kept_moved, marked_moved, listed_moved}
use Rattle.hs_heap.proofs.heap.Heap.block_move.Goals as goal

-- the bytes that the block takes stay
pub invariant_of-self : goal.invariant_of-self
invariant_of-self c = (
  kept_moved _ _ _ _ _ _ _ _ _ _ _ _ c.self.invariant.0 (within _ _ _ _ c.self.view_is c.requires.from) (within _ _ _ _ c.self.view_is c.requires.to)
      c.index.ensures c.index-2.ensures c.in-Ok.ensures.from_inside c.in-Ok.ensures.to_inside c.copy.ensures,
  marked_moved _ _ _ _ _ _ _ _ _ _ _ _ c.self.invariant.0 (within _ _ _ _ c.self.view_is c.requires.from) (within _ _ _ _ c.self.view_is c.requires.to)
      c.index.ensures c.index-2.ensures c.in-Ok.ensures.from_inside c.in-Ok.ensures.to_inside c.copy.ensures _ _ c.self.invariant.1,
  listed_moved _ _ _ _ _ _ _ _ _ _ _ _ c.self.invariant.0 (within _ _ _ _ c.self.view_is c.requires.from) (within _ _ _ _ c.self.view_is c.requires.to)
      c.index.ensures c.index-2.ensures c.in-Ok.ensures.from_inside c.in-Ok.ensures.to_inside c.copy.ensures _ c.self.invariant.2,
)

-- the second block has the cells
pub returns-in-Ok-clause-moves : goal.returns-in-Ok-clause-moves
returns-in-Ok-clause-moves c first second one two =
    moves _ _ _ _ _ _ _ _ _ _ c.self.view_is c.index.ensures c.index-2.ensures first second one two _ _ _ c.in-Ok.ensures.places c.copy.ensures

pub returns-in-Ok-clause-as_many : goal.returns-in-Ok-clause-as_many
returns-in-Ok-clause-as_many c =
    as_many_blocks _ _ _ _ _ _ _ _ _ _ _ _ c.self.invariant.0 (within _ _ _ _ c.self.view_is c.requires.from)
    (within _ _ _ _ c.self.view_is c.requires.to) c.index.ensures c.index-2.ensures c.in-Ok.ensures.from_inside c.in-Ok.ensures.to_inside
    c.copy.ensures
    ∙ ap (λ it. length it.blocks) c.self.view_is

-- a stop changes nothing
pub returns-in-Err-clause-moves : goal.returns-in-Err-clause-moves
returns-in-Err-clause-moves c first second one two =
    stops _ _ _ _ _ _ _ _ _ _ c.self.view_is c.index.ensures c.index-2.ensures first second one two _ c.in-Err.ensures.places
