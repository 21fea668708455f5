use Rattle.std.proofs.Common.{◌+◌, get_or, sym, ◌∙◌, refl, subst}
use Rattle.hs_code.specs.declared.function_code.Placed.{Placed}
use Rattle.hs_effects.proofs.CallersPut.{nothing, op_read}
use Rattle.hs_effects.proofs.Growing.{width_same}
use Rattle.hs_effects.proofs.OwnsPut.{owns_begin, assigns_more, assigns_none}
use Rattle.hs_effects.specs.Owning.{Assigned, OwnsIn}
use Rattle.hs_effects.specs.Working.{Grows}
use Rattle.hs_effects.specs.declared.work.Work.{Work}
use Rattle.hs_effects.proofs.own.put_assigned.Goals.{in-Some+in_ok-put, in_default}
use Rattle.hs_effects.proofs.own.put_assigned.Goals as goal

-- no operation yet
pub ops-init : goal.ops-init
ops-init c = owns_begin Assigned c.args.ops.now c.args.function c.args.work.now

-- the sizes stay
pub put-requires-clause-function_in_range : goal.put-requires-clause-function_in_range
put-requires-clause-function_in_range c = rw c.ops.invariant.size.count c.requires.function_in_range

pub put-requires-clause-number_in_range : goal.put-requires-clause-number_in_range
put-requires-clause-number_in_range c =
    rw (width_same c.args.work.now.rows c.ops.work.rows c.ops.invariant.size)
    (c.requires.globals_in_range c.in-Some.global (
      refl,
      record {
        at = c.ops.its-index;
        below = c.ops-test.true;
        its = get_or c.args.ops.now c.ops.its-index nothing;
        there = op_read c.args.ops.now c.ops.its-index c.ops-test.true;
        has = sym c.assigned_by.ensures ∙ c.in-Some.is;
      },
    ))

-- it assigns a global, or none
pub ops-preserved : goal.ops-preserved
ops-preserved c =
    let its : Placed = get_or c.args.ops.now c.ops.its-index nothing in
    elim c.match-assigned_by.branch [
      | in-Some+in_ok-put w ↦
          subst (λ (work : Work). Grows (OwnsIn Assigned c.args.ops.now (c.ops.its-index + 1) c.args.function) c.args.work.now work) (sym w.work-is)
          (assigns_more c.args.ops.now c.ops.its-index c.args.function its (op_read c.args.ops.now c.ops.its-index c.ops-test.true)
          c.args.work.now c.ops.work c.ops.invariant w.in-Some.global w.put.new.work (sym c.assigned_by.ensures ∙ w.in-Some.is)
          w.in_ok-put.ensures.grows)
      | in_default w ↦
          subst (λ (work : Work). Grows (OwnsIn Assigned c.args.ops.now (c.ops.its-index + 1) c.args.function) c.args.work.now work) (sym w.work-is)
          (assigns_none c.args.ops.now c.ops.its-index c.args.function its (op_read c.args.ops.now c.ops.its-index c.ops-test.true)
          c.args.work.now c.ops.work c.ops.invariant (sym c.assigned_by.ensures ∙ w.in_default.is))
    ]
