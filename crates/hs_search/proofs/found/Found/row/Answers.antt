use Rattle.std.proofs.Common.{rules, arith, ◌≡◌, ◌<◌, ◌+◌, ◌-◌, length, suc, slice_index_or, slice_get, sym, ◌∙◌, ap}
use Rattle.hs_search.proofs.Parts.{index_is, number_is, part_count, part_pair, pairs_long}
use Rattle.hs_search.specs.Finding.{pairs_of}
use Rattle.hs_search.proofs.found.Found.row.Goals as goal

pub overflow_sub-next : goal.overflow_sub-next
overflow_sub-next c =
    let long = c.args.self.now.long in
    let known = c.requires.known in
    let one : c.args.at + 1 ≡ suc c.args.at = omega arith in
    let at_next : c.index-next.result.now ≡ slice_index_or c.args.self.now.starts.items (c.args.at + 1) c.index-next.result.now = search rules in
    let next : c.index-next.result.now ≡ slice_index_or c.args.self.now.starts.items (suc c.args.at) 0 =
    index_is c.args.self.now.starts.items (suc c.args.at) c.index-next.result.now (omega arith)
    (at_next ∙ ap (λ n. slice_index_or c.args.self.now.starts.items n c.index-next.result.now) one) in
    let whole = part_count c.args.self.now.entries.items.items c.args.self.now.rows.items.items c.args.self.now.order.items c.args.self.now.starts.items
    c.args.at c.args.self.now.keyed (c.args.self.now.parts c.args.at c.requires.known) in
    let below = c.requires.place in
    omega arith

pub overflow_sub-next-2 : goal.overflow_sub-next-2
overflow_sub-next-2 c =
    let long = c.args.self.now.long in
    let known = c.requires.known in
    let one : c.args.at + 1 ≡ suc c.args.at = omega arith in
    let at_next : c.index-next.result.now ≡ slice_index_or c.args.self.now.starts.items (c.args.at + 1) c.index-next.result.now = search rules in
    let next : c.index-next.result.now ≡ slice_index_or c.args.self.now.starts.items (suc c.args.at) 0 =
    index_is c.args.self.now.starts.items (suc c.args.at) c.index-next.result.now (omega arith)
    (at_next ∙ ap (λ n. slice_index_or c.args.self.now.starts.items n c.index-next.result.now) one) in
    let whole = part_count c.args.self.now.entries.items.items c.args.self.now.rows.items.items c.args.self.now.order.items c.args.self.now.starts.items
    c.args.at c.args.self.now.keyed (c.args.self.now.parts c.args.at c.requires.known) in
    let below = c.requires.place in
    omega arith

pub index-requires : goal.index-requires
index-requires c =
    let long = c.args.self.now.long in
    let known = c.requires.known in
    let one : c.args.at + 1 ≡ suc c.args.at = omega arith in
    let at_next : c.index-next.result.now ≡ slice_index_or c.args.self.now.starts.items (c.args.at + 1) c.index-next.result.now = search rules in
    let next : c.index-next.result.now ≡ slice_index_or c.args.self.now.starts.items (suc c.args.at) 0 =
    index_is c.args.self.now.starts.items (suc c.args.at) c.index-next.result.now (omega arith)
    (at_next ∙ ap (λ n. slice_index_or c.args.self.now.starts.items n c.index-next.result.now) one) in
    let all = part_pair c.args.self.now.entries.items.items c.args.self.now.rows.items.items c.args.self.now.order.items c.args.self.now.starts.items
    c.args.at c.args.place c.args.self.now.keyed (c.args.self.now.parts c.args.at c.requires.known) c.requires.place in
    let inside : c.index-next.result.now - 1 - c.args.place < length c.args.self.now.order.items =
    rw next all.0 in
    search rules

pub returns-clause-within : goal.returns-clause-within
returns-clause-within c =
    let long = c.args.self.now.long in
    let known = c.requires.known in
    let one : c.args.at + 1 ≡ suc c.args.at = omega arith in
    let at_next : c.index-next.result.now ≡ slice_index_or c.args.self.now.starts.items (c.args.at + 1) c.index-next.result.now = search rules in
    let next : c.index-next.result.now ≡ slice_index_or c.args.self.now.starts.items (suc c.args.at) 0 =
    index_is c.args.self.now.starts.items (suc c.args.at) c.index-next.result.now (omega arith)
    (at_next ∙ ap (λ n. slice_index_or c.args.self.now.starts.items n c.index-next.result.now) one) in
    let all = part_pair c.args.self.now.entries.items.items c.args.self.now.rows.items.items c.args.self.now.order.items c.args.self.now.starts.items
    c.args.at c.args.place c.args.self.now.keyed (c.args.self.now.parts c.args.at c.requires.known) c.requires.place in
    let at_number : c.index.result.now ≡ slice_index_or c.args.self.now.order.items (c.index-next.result.now - 1 - c.args.place) c.index.result.now =
    search rules in
    let number = number_is c.args.self.now.order.items c.index-next.result.now (slice_index_or c.args.self.now.starts.items (suc c.args.at) 0) c.args.place
    c.index.result.now next all.0 at_number in
    let count = pairs_long c.args.self.now.entries.items.items c.args.self.now.rows.items.items in
    let below = all.1 in
    omega arith

pub returns-clause-is : goal.returns-clause-is
returns-clause-is c =
    let long = c.args.self.now.long in
    let known = c.requires.known in
    let one : c.args.at + 1 ≡ suc c.args.at = omega arith in
    let at_next : c.index-next.result.now ≡ slice_index_or c.args.self.now.starts.items (c.args.at + 1) c.index-next.result.now = search rules in
    let next : c.index-next.result.now ≡ slice_index_or c.args.self.now.starts.items (suc c.args.at) 0 =
    index_is c.args.self.now.starts.items (suc c.args.at) c.index-next.result.now (omega arith)
    (at_next ∙ ap (λ n. slice_index_or c.args.self.now.starts.items n c.index-next.result.now) one) in
    let all = part_pair c.args.self.now.entries.items.items c.args.self.now.rows.items.items c.args.self.now.order.items c.args.self.now.starts.items
    c.args.at c.args.place c.args.self.now.keyed (c.args.self.now.parts c.args.at c.requires.known) c.requires.place in
    let at_number : c.index.result.now ≡ slice_index_or c.args.self.now.order.items (c.index-next.result.now - 1 - c.args.place) c.index.result.now =
    search rules in
    let number = number_is c.args.self.now.order.items c.index-next.result.now (slice_index_or c.args.self.now.starts.items (suc c.args.at) 0) c.args.place
    c.index.result.now next all.0 at_number in
    all.2 ∙ ap (slice_get (pairs_of c.args.self.now)) (sym number)
