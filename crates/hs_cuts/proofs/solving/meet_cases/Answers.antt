use Rattle.std.proofs.Common.{ℕ, arith, suc, add-one, ◌≡◌, Some, ◌⊎◌, ◌∙◌}
use Rattle.hs_cuts.proofs.Cutting.{Met-none, Met-then, Met-seen, Flagged-none, Flagged-then, seen_none, seen_next, seen_back, seen_all, all_seen, room_kept}
use Rattle.hs_cuts.specs.Meeting.{SeenBefore, SeenCases}
use Rattle.hs_rows.specs.Sets.{has}
use Rattle.hs_cuts.proofs.solving.meet_cases.Goals as goal

pub cases-init : goal.cases-init
cases-init c = record {
  met = λ total room. Met-none total c.args.ops (has c.args.rows.now c.args.ops) c.args.rows.now (SeenBefore
      c.args.code.now.cases c.args.cases.0 c.args.cases.1 c.args.cases.0)
      (λ r l s. seen_none c.args.code.now.cases c.args.cases.0 c.args.cases.1 r s);
  flagged = λ total room. Flagged-none total c.args.ops c.args.rows.now c.args.flags.now;
}

pub meet_some-case-requires-clause-count : goal.meet_some-case-requires-clause-count
meet_some-case-requires-clause-count c = (c.cases.invariant.met 0 (omega arith)).size.count ∙ c.requires.count

-- the row of one case more
pub cases-preserved : goal.cases-preserved
cases-preserved c =
    let mask = has c.args.rows.now c.args.ops in
    let also = λ (r : ℕ). c.case_target.result ≡ Some r in
    let before = SeenBefore c.args.code.now.cases c.args.cases.0 c.args.cases.1 c.cases.place in
    record {
      met = rw add-one (λ total room.
          let so_far = c.cases.invariant.met total room in
          Met-seen total c.args.ops mask (λ r. before r ⊎ also r) (SeenBefore c.args.code.now.cases c.args.cases.0 c.args.cases.1 (suc c.cases.place))
          c.args.rows.now c.meet_some-case.new.rows
          (λ r l s. seen_next c.args.code.now.cases c.args.cases.0 c.args.cases.1 c.cases.place r c.case_target.result c.case_target.ensures
          c.cases.auto.place c.cases-test.true s)
          (λ r l s. seen_back c.args.code.now.cases c.args.cases.0 c.args.cases.1 c.cases.place r c.case_target.result c.case_target.ensures s)
          (Met-then total c.args.ops mask (has c.cases.rows c.args.ops) before also
          c.args.rows.now c.cases.rows c.meet_some-case.new.rows so_far.scratch so_far
          (c.meet_some-case.ensures.met total (room_kept total c.args.rows.now c.cases.rows room so_far.size))));
      flagged = λ total room. Flagged-then total c.args.ops c.args.rows.now c.cases.rows c.meet_some-case.new.rows c.args.flags.now c.cases.flags
          c.meet_some-case.new.flags
          c.cases.changed c.meet_some-case.result (c.cases.invariant.flagged total room)
          (c.meet_some-case.ensures.flagged total (room_kept total c.args.rows.now c.cases.rows room (c.cases.invariant.met total room).size));
    }

pub returns-clause-met : goal.returns-clause-met
returns-clause-met c total room =
    Met-seen total c.args.ops (has c.args.rows.now c.args.ops) (SeenBefore c.args.code.now.cases c.args.cases.0
    c.args.cases.1 c.cases.place) (SeenCases c.args.code.now.cases c.args.cases.0 c.args.cases.1)
    c.args.rows.now c.cases.rows
    (λ r l s. seen_all c.args.code.now.cases c.args.cases.0 c.args.cases.1 c.cases.place r s)
    (λ r l s. all_seen c.args.code.now.cases c.args.cases.0 c.args.cases.1 c.cases.place r (omega arith) s) (c.cases.invariant.met total room)

pub returns-clause-flagged : goal.returns-clause-flagged
returns-clause-flagged c total room = c.cases.invariant.flagged total room
