use Rattle.std.proofs.Common.{arith, sym, ◌∙◌, ap}
use Rattle.hs_tokens.specs.Lines.{unspliced}
use Rattle.hs_tokens.specs.Ahead.{placed_at}
use Rattle.hs_tokens.proofs.Cursors.{none_left, none_of, next_of}
use Rattle.hs_tokens.proofs.cursor.Cursor.next_of_lines.Goals as goal

pub returns-then-self-eq0 : goal.returns-then-self-eq0
returns-then-self-eq0 c = none_left c.args.self.pos c.args.self.rest.now c.args.self.left c.if-self-eq0.true

pub returns-in_default-behind_splice : goal.returns-in_default-behind_splice
returns-in_default-behind_splice c = (
  next_of c.args.self.pos c.in-Some.step.after.pos c.args.self.rest.now c.in-Some.step.after.rest.now c.args.self.left (placed_at c.in-Some.step) (omega arith)
      (sym c.splices.invariant ∙ ap unspliced c.in-Some.ensures.0 ∙ c.in_default-behind_splice.ensures),
  omega arith,
)

pub returns : goal.returns
returns c =
    none_of c.args.self.pos c.args.self.rest.now c.args.self.left (sym c.splices.invariant ∙ ap unspliced c.in_default.ensures)
