use Rattle.std.proofs.Common.{◌≡◌, ◌<◌, ◌+◌, ◌*◌, ◌∙◌, add-one, arith, get_or, length, subst, ap, bit_and}
use Rattle.hs_rows.proofs.Changes.{seen_as, word_read, row_met, rows_kept, row_same, row_fewer}
use Rattle.hs_rows.proofs.Lines.{Written, in_line, Written-next, source_kept, met, Tells-next, SameWords, as_fact, as_refused}
use Rattle.hs_rows.proofs.rows.Rows.meet.Goals as goal

-- one word more
pub words-preserved : goal.words-preserved
words-preserved c =
    let per = c.words.self-inside.per in
    let its = c.words.self-inside.words.items in
    let old = c.self.inside.words.items in
    let within : c.words.place < per = omega (arith, c.words-test.true, c.words.invariant.per) in
    let from_there : c.args.from * per + c.words.place < length its =
    in_line c.args.self.now c.self.inside.rows c.self.inside.per per c.args.from c.words.place c.self.inside.words.items its c.self.view_is
    c.self.invariant.0 c.words.invariant.written.len c.words.invariant.per c.requires.from_in_range within in
    let to_there : c.args.to * per + c.words.place < length its =
    in_line c.args.self.now c.self.inside.rows c.self.inside.per per c.args.to c.words.place c.self.inside.words.items its c.self.view_is
    c.self.invariant.0 c.words.invariant.written.len c.words.invariant.per c.requires.to_in_range within in
    let at_from = word_read its (c.args.from * per + c.words.place) c.index.result.now from_there c.index.ensures
    ∙ source_kept old its per c.args.to c.words.place c.args.from (met old per c.args.to c.args.from) c.words.invariant.written within in
    let at_to = word_read its (c.args.to * per + c.words.place) c.index-old.result.now to_there c.index-old.ensures
    ∙ source_kept old its per c.args.to c.words.place c.args.to (met old per c.args.to c.args.from) c.words.invariant.written within in
    let both : bit_and c.index-old.result.now c.index.result.now ≡ met old per c.args.to c.args.from c.words.place =
    ap (λ n. bit_and n c.index.result.now) at_to ∙ ap (λ n. bit_and (get_or old (c.args.to * per + c.words.place) 0) n) at_from in
    let fit = c.differ-changed.ensures.fit in
    record {
      written = rw add-one (
          Written-next old its per c.args.to c.words.place (bit_and c.index-old.result.now c.index.result.now) (met old per c.args.to c.args.from)
          c.words.invariant.written to_there both);
      tells = rw (add-one, c.differ-changed.ensures.exact) (
          Tells-next old per c.args.to c.args.from c.words.place c.index-old.result.now (bit_and c.index-old.result.now c.index.result.now)
          c.words.changed c.words.invariant.tells at_to both fit.0 fit.1);
      per = c.words.invariant.per;
      rows = c.words.invariant.rows;
    }

pub returns-clause-both : goal.returns-clause-both
returns-clause-both c =
    let per = c.words.self-inside.per in
    let old = c.self.inside.words.items in
    let end : c.words.place ≡ per = omega (arith, c.words.invariant.per) in
    let view = seen_as c.args.self.now c.self.inside.rows c.self.inside.per c.words.self-inside.rows per old c.self.view_is
    c.words.invariant.rows c.words.invariant.per in
    let all = subst (λ n. Written old c.words.self-inside.words.items per c.args.to n (met old per c.args.to c.args.from)) end
    c.words.invariant.written in
    row_met c.args.self.now c.words.self-inside.rows per c.args.to c.args.from old c.words.self-inside.words.items view all

pub returns-clause-others : goal.returns-clause-others
returns-clause-others c =
    let per = c.words.self-inside.per in
    let old = c.self.inside.words.items in
    let end : c.words.place ≡ per = omega (arith, c.words.invariant.per) in
    let view = seen_as c.args.self.now c.self.inside.rows c.self.inside.per c.words.self-inside.rows per old c.self.view_is
    c.words.invariant.rows c.words.invariant.per in
    let all = subst (λ n. Written old c.words.self-inside.words.items per c.args.to n (met old per c.args.to c.args.from)) end
    c.words.invariant.written in
    rows_kept c.args.self.now c.words.self-inside.rows per c.args.to old c.words.self-inside.words.items (met old per c.args.to c.args.from) view all

pub returns-clause-same : goal.returns-clause-same
returns-clause-same c h =
    let per = c.words.self-inside.per in
    let old = c.self.inside.words.items in
    let end : c.words.place ≡ per = omega (arith, c.words.invariant.per) in
    let view = seen_as c.args.self.now c.self.inside.rows c.self.inside.per c.words.self-inside.rows per old c.self.view_is
    c.words.invariant.rows c.words.invariant.per in
    let all = subst (λ n. Written old c.words.self-inside.words.items per c.args.to n (met old per c.args.to c.args.from)) end
    c.words.invariant.written in
    row_same c.args.self.now c.words.self-inside.rows per c.args.to c.args.from old c.words.self-inside.words.items view all (subst (λ n. SameWords old per c.args.to c.args.from n) end (as_fact c.words.changed h c.words.invariant.tells))

pub returns-clause-fewer : goal.returns-clause-fewer
returns-clause-fewer c h =
    let per = c.words.self-inside.per in
    let old = c.self.inside.words.items in
    let end : c.words.place ≡ per = omega (arith, c.words.invariant.per) in
    let view = seen_as c.args.self.now c.self.inside.rows c.self.inside.per c.words.self-inside.rows per old c.self.view_is
    c.words.invariant.rows c.words.invariant.per in
    let all = subst (λ n. Written old c.words.self-inside.words.items per c.args.to n (met old per c.args.to c.args.from)) end
    c.words.invariant.written in
    row_fewer c.args.self.now c.words.self-inside.rows per c.args.to c.args.from old c.words.self-inside.words.items view all (subst (λ n. ¬ (SameWords old per c.args.to c.args.from n)) end (as_refused c.words.changed h c.words.invariant.tells))
