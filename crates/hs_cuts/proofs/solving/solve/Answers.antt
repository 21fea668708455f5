use Rattle.std.proofs.Common.{rules, arith, refl, inl, ◌≡◌, ◌∙◌, ap, sym, replicate, true, length, List, get_or, false, subst, Bool}
use Rattle.std.proofs.Math.ListN.{length-replicate}
use Rattle.hs_cuts.proofs.Cutting.{cuts_then, solved, full_of, written, all_flags}
use Rattle.hs_cuts.specs.Cuts.{the_task, uncut}
use Rattle.hs_cuts.proofs.solving.solve.Goals as goal

-- all operations are flagged
pub passes-init : goal.passes-init
passes-init g c =
    let flags : c.in_ok-flags.flags.items ≡ replicate c.ops_of-ops.result true = c.in_ok-flags.ensures.items_if_clones_equal (λ y h. search rules) in
    record {
      cuts = uncut c.in_ok-rows.rows;
      standing = λ from l. inl (subst (λ (f : List Bool). get_or f from false ≡ true) (sym flags)
          (all_flags c.ops_of-ops.result (length c.args.code.now.ops) from c.ops_of-ops.ensures.is l));
      size = record { count = refl; per = refl };
      len = ap length flags ∙ length-replicate c.ops_of-ops.result true ∙ c.ops_of-ops.ensures.is;
    }

-- a pass that changed nothing is the last
pub returns-then-not-pass-clause-solved : goal.returns-then-not-pass-clause-solved
returns-then-not-pass-clause-solved g c =
    rw (sym c.requires.total)
    (solved (the_task (g.M.Maker.total c.args.maker.now) c.args.code.now (g.M.Maker.makes c.args.maker.now)) c.in_ok-rows.rows c.passes.rows
    c.pass.new.rows c.as_mut_slice.result.now c.pass.new.flags
    (full_of (the_task (g.M.Maker.total c.args.maker.now) c.args.code.now (g.M.Maker.makes c.args.maker.now)) c.in_ok-rows.rows
    (rw (c.ops_of-ops.ensures.is, sym c.requires.total) at c.in_ok-rows.ensures.all)
    (rw (c.ops_of-ops.ensures.is, sym c.requires.total) at c.in_ok-rows.ensures.none))
    c.passes.invariant.cuts c.if-not-pass.ensures)

pub passes-preserved : goal.passes-preserved
passes-preserved g c =
    let long : c.passes.flags.len ≡ length c.pass.new.flags = omega arith in
    let whole = written c.passes.flags.items c.pass.new.flags c.passes.flags.len long in
    record {
      cuts = cuts_then (the_task (g.M.Maker.total c.args.maker.now) c.args.code.now (g.M.Maker.makes c.args.maker.now)) c.in_ok-rows.rows
          c.passes.rows c.pass.new.rows c.passes.invariant.cuts
          c.if-not-pass.ensures.cuts;
      standing = rw whole c.if-not-pass.ensures.standing;
      size = record {
        count = c.if-not-pass.ensures.size.count ∙ c.passes.invariant.size.count;
        per = c.if-not-pass.ensures.size.per ∙ c.passes.invariant.size.per;
      };
      len = rw whole (c.if-not-pass.ensures.len ∙ ap length c.as_mut_slice.ensures.value ∙ c.passes.invariant.len);
    }
