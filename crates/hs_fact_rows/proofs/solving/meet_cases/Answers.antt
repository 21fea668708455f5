use Rattle.std.proofs.Common.{arith, suc, add-one, sym, subst, ◌≤◌, ◌≡◌, ◌*◌, Some, ◌⊎◌, ◌∙◌}
use Rattle.hs_fact_rows.proofs.Cutting.{Met-none, Met-then, Met-seen, Flagged-none, Flagged-then, seen_none, seen_next, seen_back, seen_all, all_seen}
use Rattle.hs_fact_rows.specs.Cells.{total}
use Rattle.hs_fact_rows.specs.Meeting.{SeenBefore, SeenCases, row_facts}
use Rattle.hs_fact_rows.proofs.solving.meet_cases.Goals as goal

pub cases-init : goal.cases-init
cases-init c = record {
  met = Met-none c.args.plan c.args.ops (row_facts c.args.plan c.args.ops c.args.rows.now c.args.ops) c.args.rows.now (SeenBefore
      c.args.code.now.cases c.args.cases.0 c.args.cases.1 c.args.cases.0)
      (λ r l s. seen_none c.args.code.now.cases c.args.cases.0 c.args.cases.1 r s);
  flagged = Flagged-none c.args.plan c.args.ops c.args.rows.now c.args.flags.now;
}

pub meet_some-case-requires-clause-count : goal.meet_some-case-requires-clause-count
meet_some-case-requires-clause-count c = c.cases.invariant.met.size.count ∙ c.requires.count

pub meet_some-case-requires-clause-room : goal.meet_some-case-requires-clause-room
meet_some-case-requires-clause-room c = subst (λ m. total c.args.plan ≤ 64 * m) (sym c.cases.invariant.met.size.per) c.requires.room

-- the row of one case more
pub cases-preserved : goal.cases-preserved
cases-preserved c =
    let mask = row_facts c.args.plan c.args.ops c.args.rows.now c.args.ops in
    let met = Met-then c.args.plan c.args.ops mask (row_facts c.args.plan c.args.ops c.cases.rows c.args.ops) (SeenBefore c.args.code.now.cases
    c.args.cases.0 c.args.cases.1 c.cases.place) (λ r. c.case_target.result ≡ Some r)
    c.args.rows.now c.cases.rows c.meet_some-case.new.rows c.cases.invariant.met.scratch c.cases.invariant.met c.meet_some-case.ensures.met in
    record {
      met = rw add-one (
          Met-seen c.args.plan c.args.ops mask (λ r. SeenBefore c.args.code.now.cases c.args.cases.0 c.args.cases.1 c.cases.place r
          ⊎ c.case_target.result ≡ Some r) (SeenBefore c.args.code.now.cases c.args.cases.0 c.args.cases.1 (suc c.cases.place))
          c.args.rows.now c.meet_some-case.new.rows
          (λ r l s. seen_next c.args.code.now.cases c.args.cases.0 c.args.cases.1 c.cases.place r c.case_target.result c.case_target.ensures
          c.cases.auto.place c.cases-test.true s)
          (λ r l s. seen_back c.args.code.now.cases c.args.cases.0 c.args.cases.1 c.cases.place r c.case_target.result c.case_target.ensures s) met);
      flagged = Flagged-then c.args.plan c.args.ops c.args.rows.now c.cases.rows c.meet_some-case.new.rows c.args.flags.now c.cases.flags
          c.meet_some-case.new.flags
          c.cases.changed c.meet_some-case.result c.cases.invariant.flagged c.meet_some-case.ensures.flagged;
    }

pub returns-clause-met : goal.returns-clause-met
returns-clause-met c =
    Met-seen c.args.plan c.args.ops (row_facts c.args.plan c.args.ops c.args.rows.now c.args.ops) (SeenBefore c.args.code.now.cases c.args.cases.0
    c.args.cases.1 c.cases.place) (SeenCases c.args.code.now.cases c.args.cases.0 c.args.cases.1)
    c.args.rows.now c.cases.rows
    (λ r l s. seen_all c.args.code.now.cases c.args.cases.0 c.args.cases.1 c.cases.place r s)
    (λ r l s. all_seen c.args.code.now.cases c.args.cases.0 c.args.cases.1 c.cases.place r (omega arith) s) c.cases.invariant.met

pub returns-clause-flagged : goal.returns-clause-flagged
returns-clause-flagged c = c.cases.invariant.flagged
