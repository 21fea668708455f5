use Rattle.std.proofs.Common.{rules, arith, ◌≡◌, ◌+◌, ◌∙◌, ap, suc, slice_index_or}
use Rattle.hs_search.proofs.Parts.{index_is, part_count}
use Rattle.hs_search.proofs.found.Found.count.Goals as goal

pub returns : goal.returns
returns c =
    let long = c.args.self.now.long in
    let known = c.requires.known in
    let one : c.args.at + 1 ≡ suc c.args.at = omega arith in
    let at_next : c.index.result.now ≡ slice_index_or c.args.self.now.starts.items (c.args.at + 1) c.index.result.now = search rules in
    let at_start : c.index-2.result.now ≡ slice_index_or c.args.self.now.starts.items c.args.at c.index-2.result.now = search rules in
    let next : c.index.result.now ≡ slice_index_or c.args.self.now.starts.items (suc c.args.at) 0 =
    index_is c.args.self.now.starts.items (suc c.args.at) c.index.result.now (omega arith)
    (at_next ∙ ap (λ n. slice_index_or c.args.self.now.starts.items n c.index.result.now) one) in
    let start = index_is c.args.self.now.starts.items c.args.at c.index-2.result.now (omega arith) at_start in
    let whole = part_count c.args.self.now.entries.items.items c.args.self.now.rows.items.items c.args.self.now.order.items c.args.self.now.starts.items
    c.args.at c.args.self.now.keyed (c.args.self.now.parts c.args.at c.requires.known) in
    omega arith
