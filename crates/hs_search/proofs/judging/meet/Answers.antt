use Rattle.std.proofs.Common.{rules, arith, inl, inr, ◌≡◌, ◌<◌}
use Rattle.hs_search.proofs.Meeting.{follows_less, none_above, past_less, side_back, two_left, two_right}
use Rattle.hs_search.specs.Rivals.{with_offer}
use Rattle.hs_search.proofs.judging.meet.Goals as goal

pub back-smaller-then-x-y : goal.back-smaller-then-x-y
back-smaller-then-x-y c =
    let all = with_offer c.args.rows.now.items.items c.args.offer in
    let less = follows_less all c.requires.lower c.up-x.result c.back.x c.up-x.ensures in
    omega arith

pub back-preserved-then-x-y : goal.back-preserved-then-x-y
back-preserved-then-x-y c =
    let all = with_offer c.args.rows.now.items.items c.args.offer in
    let less = follows_less all c.requires.lower c.up-x.result c.back.x c.up-x.ensures in
    let within = c.back.invariant.x_within in
    record {
      x_within = omega arith;
      y_within = c.back.invariant.y_within;
      left_side = side_back all c.args.p c.back.x c.up-x.result c.back.left c.up-x.ensures c.back.invariant.left_side;
      right_side = c.back.invariant.right_side;
      left_past = c.if-x-y.true;
      right_past = past_less c.up-x.result c.back.x c.back.right less c.back.invariant.right_past;
      two = two_left c.back.x c.back.right c.back.invariant.right_past;
    }

pub back-smaller : goal.back-smaller
back-smaller c =
    let all = with_offer c.args.rows.now.items.items c.args.offer in
    let less = follows_less all c.requires.lower c.up-y.result c.back.y c.up-y.ensures in
    omega arith

pub back-preserved : goal.back-preserved
back-preserved c =
    let all = with_offer c.args.rows.now.items.items c.args.offer in
    let lower : c.back.x < c.back.y = search rules in
    let less = follows_less all c.requires.lower c.up-y.result c.back.y c.up-y.ensures in
    let within = c.back.invariant.y_within in
    record {
      x_within = c.back.invariant.x_within;
      y_within = omega arith;
      left_side = c.back.invariant.left_side;
      right_side = side_back all c.args.q c.back.y c.up-y.result c.back.right c.up-y.ensures c.back.invariant.right_side;
      left_past = past_less c.up-y.result c.back.y c.back.left less c.back.invariant.left_past;
      right_past = lower;
      two = two_right c.back.y c.back.left c.back.invariant.left_past;
    }

pub returns-in_default-clause-above : goal.returns-in_default-clause-above
returns-in_default-clause-above c =
    let all = with_offer c.args.rows.now.items.items c.args.offer in
    let meets : c.back.x ≡ c.back.y = search rules in
    inl (none_above all c.args.p c.args.q c.back.x c.back.y c.back.left c.back.right (search rules) meets
    c.back.invariant.left_side c.back.invariant.right_side)

pub returns-in_default-right-clause-above : goal.returns-in_default-right-clause-above
returns-in_default-right-clause-above c =
    let all = with_offer c.args.rows.now.items.items c.args.offer in
    let meets : c.back.y ≡ c.back.x = search rules in
    inr (none_above all c.args.q c.args.p c.back.y c.back.x c.back.right c.back.left (search rules) meets
    c.back.invariant.right_side c.back.invariant.left_side)
