use Rattle.std.proofs.Common.{◌≡◌, ◌<◌, ◌+◌, ◌*◌, ◌∙◌, add-one, arith, get_or, length, subst}
use Rattle.hs_rows.proofs.Changes.{seen_as, word_read, row_copied, rows_kept}
use Rattle.hs_rows.proofs.Lines.{Written, in_line, Written-next, source_kept}
use Rattle.hs_rows.proofs.rows.Rows.copy_row.Goals as goal

-- one word more
pub words-preserved : goal.words-preserved
words-preserved c =
    let per = c.words.self-inside.per in
    let its = c.words.self-inside.words.items in
    let within : c.words.place < per = omega (arith, c.words-test.true, c.words.invariant.per) in
    let from_there : c.args.from * per + c.words.place < length its =
    in_line c.args.self.now c.self.inside.rows c.self.inside.per per c.args.from c.words.place c.self.inside.words.items its c.self.view_is
    c.self.invariant.0 c.words.invariant.written.len c.words.invariant.per c.requires.from_in_range within in
    let to_there : c.args.to * per + c.words.place < length its =
    in_line c.args.self.now c.self.inside.rows c.self.inside.per per c.args.to c.words.place c.self.inside.words.items its c.self.view_is
    c.self.invariant.0 c.words.invariant.written.len c.words.invariant.per c.requires.to_in_range within in
    let read = word_read its (c.args.from * per + c.words.place) c.index.result.now from_there c.index.ensures in
    record {
      written = rw add-one (
          Written-next c.self.inside.words.items its per c.args.to c.words.place c.index.result.now
          (λ j. get_or c.self.inside.words.items (c.args.from * per + j) 0) c.words.invariant.written to_there
          (read ∙ source_kept c.self.inside.words.items its per c.args.to c.words.place c.args.from
          (λ j. get_or c.self.inside.words.items (c.args.from * per + j) 0) c.words.invariant.written within));
      per = c.words.invariant.per;
      rows = c.words.invariant.rows;
    }

-- all words are copied
pub returns-clause-copied : goal.returns-clause-copied
returns-clause-copied c =
    let per = c.words.self-inside.per in
    let end : c.words.place ≡ per = omega (arith, c.words.invariant.per) in
    let view = seen_as c.args.self.now c.self.inside.rows c.self.inside.per c.words.self-inside.rows per c.self.inside.words.items c.self.view_is
    c.words.invariant.rows c.words.invariant.per in
    row_copied c.args.self.now c.words.self-inside.rows per c.args.to c.args.from c.self.inside.words.items c.words.self-inside.words.items view
    (subst (λ n. Written c.self.inside.words.items c.words.self-inside.words.items per c.args.to n
    (λ j. get_or c.self.inside.words.items (c.args.from * per + j) 0)) end c.words.invariant.written)

pub returns-clause-others : goal.returns-clause-others
returns-clause-others c =
    let per = c.words.self-inside.per in
    let end : c.words.place ≡ per = omega (arith, c.words.invariant.per) in
    let view = seen_as c.args.self.now c.self.inside.rows c.self.inside.per c.words.self-inside.rows per c.self.inside.words.items c.self.view_is
    c.words.invariant.rows c.words.invariant.per in
    rows_kept c.args.self.now c.words.self-inside.rows per c.args.to c.self.inside.words.items c.words.self-inside.words.items
    (λ j. get_or c.self.inside.words.items (c.args.from * per + j) 0) view
    (subst (λ n. Written c.self.inside.words.items c.words.self-inside.words.items per c.args.to n
    (λ j. get_or c.self.inside.words.items (c.args.from * per + j) 0)) end c.words.invariant.written)
