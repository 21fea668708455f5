-- One line more; at the end none is left.
use Rattle.std.proofs.Common.{◌≡◌, ◌++◌, ◌∙◌, Some, length, set, take, drop, ap, arith, rules, length-set, pos, w64, to_z, of_z}
use Rattle.std.proofs.lemmas.Int.{ints}
use Rattle.std.proofs.lemmas.List.{take_at, length-replicate}
use Rattle.hs_cert.specs.Reading.{line_at}
use Rattle.hs_cert.proofs.Numerals.{line_shorter}
use Rattle.hs_cert.proofs.Spelled.{lines_start, lines_step, lines_end}
use Rattle.hs_cert.proofs.reader.read_flow.Goals as goal

pub lines-init : goal.lines-init
lines-init c = record {
  each = ap length c.in_ok-flow.ensures ∙ length-replicate c.args.edges (pos 0);
  left = λ other tail long small is. rw c.in_ok-flow.ensures (lines_start other tail c.args.text.now c.args.edges long is small);
}

pub lines-smaller : goal.lines-smaller
lines-smaller c =
    let next : line_at c.lines.rest.now ≡ Some (c.in-Some.line.edge, c.in-Some.line.amount, c.in-Some.line.rest.now) = c.in-Some.ensures in
    line_shorter c.lines.rest.now (c.in-Some.line.edge, c.in-Some.line.amount, c.in-Some.line.rest.now) next

pub lines-preserved : goal.lines-preserved
lines-preserved c =
    let next : line_at c.lines.rest.now ≡ Some (c.in-Some.line.edge, c.in-Some.line.amount, c.in-Some.line.rest.now) = c.in-Some.ensures in
    let value : c.as_mut_slice.result.now ≡ c.lines.flow.items = c.as_mut_slice.ensures.value in
    let amount : to_z w64 (of_z w64 c.in-Some.line.amount) ≡ c.in-Some.line.amount = omega (arith, ints) in
    let now : c.put.new.flow ≡ set c.lines.flow.items c.in-Some.line.edge c.in-Some.line.amount = rw (value, amount) at c.put.ensures in
    let each : length c.put.new.flow ≡ c.args.edges =
    ap length now ∙ (length-set c.lines.flow.items c.in-Some.line.edge c.in-Some.line.amount ∙ c.lines.invariant.each) in
    let len : length c.put.new.flow ≡ c.lines.flow.len = search rules in
    let whole : take c.lines.flow.len (c.put.new.flow ++ drop (length c.put.new.flow) c.lines.flow.items) ≡ c.put.new.flow =
    take_at c.put.new.flow (drop (length c.put.new.flow) c.lines.flow.items) c.lines.flow.len len in
    record {
      each = rw whole each;
      left = λ other tail long small is. rw (whole, now)
          (lines_step other tail c.lines.rest.now c.lines.flow.items (c.in-Some.line.edge, c.in-Some.line.amount, c.in-Some.line.rest.now)
          (let fits = c.ranges.edges in omega arith) (c.lines.invariant.left other tail long small is) next);
    }

pub returns-clause-read : goal.returns-clause-read
returns-clause-read c = λ other tail long small is.
    let all : length other ≡ c.args.edges = long ∙ c.lines.invariant.each in
    lines_end other tail c.lines.rest.now c.lines.flow.items (let fits = c.ranges.edges in omega arith)
    (c.lines.invariant.left other tail all small is) c.in_default.ensures
