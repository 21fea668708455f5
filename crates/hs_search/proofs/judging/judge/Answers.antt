use Rattle.std.proofs.Common.{rules, arith, ap, sym, ◌∙◌}
use Rattle.hs_search.proofs.Deciding.{clear_next, not_clear, parted_at}
use Rattle.hs_search.proofs.Telling.{inner_lower, inner_read, not_some, told_first, told_greater, told_less}
use Rattle.hs_search.specs.Judging.{first_entry, link_of}
use Rattle.hs_search.specs.Rivals.{with_offer}
use Rattle.hs_search.proofs.judging.judge.Goals as goal

pub returns-in_default-inner-clause-less : goal.returns-in_default-inner-clause-less
returns-in_default-inner-clause-less c = λ is.
    let all = with_offer c.args.rows.now.items.items c.args.offer in
    let entries = c.args.calls.now.entries.items.items in
    c.calls.invariant.less (told_first entries all c.in-Some.meeting.at c.in-Some.meeting.left
    c.in-Some.meeting.right c.calls.left_end c.calls.right_end c.row_at-left.ensures.0 c.row_at-right.ensures.0 c.entry.result c.entry-in_default-inner.result
    c.in-Some.ensures.left c.in-Some.ensures.right c.row_at-left.ensures.1 c.row_at-right.ensures.1 (c.entry.ensures ∙ ap (first_entry entries all) (sym c.row_at-left.ensures.2)) (c.entry-in_default-inner.ensures ∙ ap (first_entry entries all) (sym c.row_at-right.ensures.2))
    (c.compare.ensures.less is))

pub returns-in_default-inner-clause-greater : goal.returns-in_default-inner-clause-greater
returns-in_default-inner-clause-greater c = λ is.
    let all = with_offer c.args.rows.now.items.items c.args.offer in
    let entries = c.args.calls.now.entries.items.items in
    c.calls.invariant.greater (told_first entries all c.in-Some.meeting.at c.in-Some.meeting.right
    c.in-Some.meeting.left c.calls.right_end c.calls.left_end c.row_at-right.ensures.0 c.row_at-left.ensures.0 c.entry-in_default-inner.result c.entry.result
    c.in-Some.ensures.right c.in-Some.ensures.left c.row_at-right.ensures.1 c.row_at-left.ensures.1 (c.entry-in_default-inner.ensures ∙ ap (first_entry entries all) (sym c.row_at-right.ensures.2)) (c.entry.ensures ∙ ap (first_entry entries all) (sym c.row_at-left.ensures.2))
    (c.compare.ensures.greater is))

pub calls-smaller : goal.calls-smaller
calls-smaller c =
    let all = with_offer c.args.rows.now.items.items c.args.offer in
    let ends = inner_read all c.in-Some.meeting.at c.in-Some.meeting.left c.in-Some.meeting.right c.calls.left_end
    c.calls.right_end c.in-Some-inner.inside c.in-Some-inner.beside c.row_at-left.ensures.0 c.row_at-right.ensures.0 c.read_link.result
    c.read_link-in-Some.result c.inner.result c.in-Some.ensures.left c.in-Some.ensures.right c.row_at-left.ensures.1 c.row_at-right.ensures.1 (c.read_link.ensures ∙ ap link_of (sym c.row_at-left.ensures.2))
    (c.read_link-in-Some.ensures ∙ ap link_of (sym c.row_at-right.ensures.2)) c.inner.ensures c.in-Some-inner.is in
    let lower = inner_lower all c.requires.lower c.in-Some.meeting.at c.in-Some.meeting.left c.in-Some.meeting.right
    c.calls.left_end c.calls.right_end c.in-Some-inner.inside c.in-Some-inner.beside c.in-Some.ensures.left c.in-Some.ensures.right ends in
    lower.0

pub calls-preserved : goal.calls-preserved
calls-preserved c =
    let all = with_offer c.args.rows.now.items.items c.args.offer in
    let entries = c.args.calls.now.entries.items.items in
    let ends = inner_read all c.in-Some.meeting.at c.in-Some.meeting.left c.in-Some.meeting.right c.calls.left_end
    c.calls.right_end c.in-Some-inner.inside c.in-Some-inner.beside c.row_at-left.ensures.0 c.row_at-right.ensures.0 c.read_link.result
    c.read_link-in-Some.result c.inner.result c.in-Some.ensures.left c.in-Some.ensures.right c.row_at-left.ensures.1 c.row_at-right.ensures.1 (c.read_link.ensures ∙ ap link_of (sym c.row_at-left.ensures.2))
    (c.read_link-in-Some.ensures ∙ ap link_of (sym c.row_at-right.ensures.2)) c.inner.ensures c.in-Some-inner.is in
    let lower = inner_lower all c.requires.lower c.in-Some.meeting.at c.in-Some.meeting.left c.in-Some.meeting.right
    c.calls.left_end c.calls.right_end c.in-Some-inner.inside c.in-Some-inner.beside c.in-Some.ensures.left c.in-Some.ensures.right ends in
    let one = lower.1 in
    let two = lower.2 in
    let left = c.calls.invariant.left_within in
    let right = c.calls.invariant.right_within in
    record {
      left_within = omega arith;
      right_within = omega arith;
      less = λ told. c.calls.invariant.less (told_less entries all c.in-Some.meeting.at
          c.in-Some.meeting.left c.in-Some.meeting.right c.calls.left_end c.calls.right_end c.in-Some-inner.inside c.in-Some-inner.beside
          c.in-Some.ensures.left c.in-Some.ensures.right ends told);
      greater = λ told. c.calls.invariant.greater (told_greater entries all c.in-Some.meeting.at
          c.in-Some.meeting.left c.in-Some.meeting.right c.calls.left_end c.calls.right_end c.in-Some-inner.inside c.in-Some-inner.beside
          c.in-Some.ensures.left c.in-Some.ensures.right ends told);
      clear = λ base size most tree first. clear_next all base size most tree c.requires.lower c.in-Some.meeting.at
          c.in-Some.meeting.left c.in-Some.meeting.right c.calls.left_end c.calls.right_end c.in-Some-inner.inside c.in-Some-inner.beside
          (c.calls.invariant.clear base size most tree first) c.in-Some.ensures.left c.in-Some.ensures.right c.in-Some.ensures.parted ends;
    }

pub returns-clause-decided : goal.returns-clause-decided
returns-clause-decided c = λ decides equal.
    let all = with_offer c.args.rows.now.items.items c.args.offer in
    absurd (not_clear all decides.base decides.size decides.most c.calls.left_end c.calls.right_end
    (c.calls.invariant.clear decides.base decides.size decides.most decides.tree decides.clear) (search rules))

pub returns-in_default-inner-clause-decided : goal.returns-in_default-inner-clause-decided
returns-in_default-inner-clause-decided c = λ decides is.
    let all = with_offer c.args.rows.now.items.items c.args.offer in
    let entries = c.args.calls.now.entries.items.items in
    parted_at entries all decides.parted c.in-Some.meeting.at c.in-Some.meeting.left
    c.in-Some.meeting.right c.calls.left_end c.calls.right_end c.row_at-left.ensures.0 c.row_at-right.ensures.0 c.read_link.result c.read_link-in-Some.result
    c.inner.result c.entry.result c.entry-in_default-inner.result c.in-Some.ensures.left c.in-Some.ensures.right c.in-Some.ensures.parted c.row_at-left.ensures.1
    c.row_at-right.ensures.1 (c.read_link.ensures ∙ ap link_of (sym c.row_at-left.ensures.2)) (c.read_link-in-Some.ensures ∙ ap link_of (sym c.row_at-right.ensures.2)) c.inner.ensures (not_some c.inner.result c.in_default-inner.not-Some)
    (c.entry.ensures ∙ ap (first_entry entries all) (sym c.row_at-left.ensures.2)) (c.entry-in_default-inner.ensures ∙ ap (first_entry entries all) (sym c.row_at-right.ensures.2)) (c.compare.ensures.equal is)
