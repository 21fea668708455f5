use Rattle.std.proofs.Common.{sym, ap, ◌∙◌, arith}
use Rattle.hs_scalars.specs.Left.{left, weights}
use Rattle.hs_scalars.proofs.Parts.{left-push, weights-push, left-opened, weights-opened, left-parts, weights-parts}
use Rattle.hs_scalars.proofs.scalars.next_of.Goals as goal

-- a part without scalars is taken away
pub parts-smaller-in-Empty : goal.parts-smaller-in-Empty
parts-smaller-in-Empty c =
    omega (
      arith,
      weights-opened c.args.types.now c.parts.pending.items c.pop.new.self.items c.in-Some.part c.in-Some.ensures.items
          c.in_ok-opened.field-0 _ c.in-Empty.is c.in_ok-opened.ensures.falls,
    )

pub parts-preserved-in-Empty : goal.parts-preserved-in-Empty
parts-preserved-in-Empty c =
    sym (left-opened c.args.types.now c.parts.pending.items c.pop.new.self.items c.in-Some.part c.in-Some.ensures.items
    c.in_ok-opened.field-0 _ c.in-Empty.is c.in_ok-opened.ensures.same)
    ∙ c.parts.invariant

-- a scalar is the next one
pub returns-in-Found : goal.returns-in-Found
returns-in-Found c =
    sym c.parts.invariant
    ∙ left-opened c.args.types.now c.parts.pending.items c.pop.new.self.items c.in-Some.part c.in-Some.ensures.items
    c.in_ok-opened.field-0 _ c.in-Found.is c.in_ok-opened.ensures.same

-- a list of parts takes the place of what it came from
pub parts-smaller-in-Continue-branch-3 : goal.parts-smaller-in-Continue-branch-3
parts-smaller-in-Continue-branch-3 c =
    omega (
      arith,
      weights-opened c.args.types.now c.parts.pending.items c.pop.new.self.items c.in-Some.part c.in-Some.ensures.items
          c.in_ok-opened.field-0 _ c.in-List.is c.in_ok-opened.ensures.falls,
      ap (weights c.args.types.now) c.in_ok-push-in-List.ensures.items,
      weights-push c.args.types.now c.pop.new.self.items c.in-List.its,
    )

pub parts-preserved-in-Continue-branch-3 : goal.parts-preserved-in-Continue-branch-3
parts-preserved-in-Continue-branch-3 c =
    ap (left c.args.types.now) c.in_ok-push-in-List.ensures.items
    ∙ left-push c.args.types.now c.pop.new.self.items c.in-List.its
    ∙ sym (left-opened c.args.types.now c.parts.pending.items c.pop.new.self.items c.in-Some.part c.in-Some.ensures.items
    c.in_ok-opened.field-0 _ c.in-List.is c.in_ok-opened.ensures.same)
    ∙ c.parts.invariant

-- and so do its first part and those after it
pub parts-smaller : goal.parts-smaller
parts-smaller c =
    omega (
      arith,
      weights-opened c.args.types.now c.parts.pending.items c.pop.new.self.items c.in-Some.part c.in-Some.ensures.items
          c.in_ok-opened.field-0 _ c.in-Parts.is c.in_ok-opened.ensures.falls,
      weights-parts c.args.types.now c.pop.new.self.items c.push-in-Parts.new.self.items c.push-in-Parts-2.new.self.items c.in-Parts.first c.in-Parts.rest
          c.in_ok-push-in-Parts.ensures.items c.in_ok-push-in-Parts-2.ensures.items,
    )

pub parts-preserved : goal.parts-preserved
parts-preserved c =
    left-parts c.args.types.now c.pop.new.self.items c.push-in-Parts.new.self.items c.push-in-Parts-2.new.self.items c.in-Parts.first c.in-Parts.rest
    c.in_ok-push-in-Parts.ensures.items c.in_ok-push-in-Parts-2.ensures.items
    ∙ sym (left-opened c.args.types.now c.parts.pending.items c.pop.new.self.items c.in-Some.part c.in-Some.ensures.items
    c.in_ok-opened.field-0 _ c.in-Parts.is c.in_ok-opened.ensures.same)
    ∙ c.parts.invariant
