use Rattle.std.proofs.Common.{◌≡◌, ◌<◌, ◌&&◌, ℕ, List, length, nat_lt, option_map, sym, subst, ◌∙◌, ap, arith, rules, Option, Some, slice_get}
use Rattle.std.proofs.lemmas.Option.{slice_get-map, slice_get_within}
use Rattle.hs_code.specs.declared.function_code.FunctionCode.{FunctionCode}
use Rattle.hs_code.specs.declared.function_code.Placed.{Placed}
use Rattle.hs_cuts.specs.Cuts as cuts
use Rattle.hs_effects.specs.Calling.{whole_of}
use Rattle.hs_fact_rows.specs.Cuts as low_rows
use Rattle.hs_facts.specs.Effects.{disposes, ops_in, placed_in, unlocks}
use Rattle.hs_lock_rows.specs.Layout.{total}
use Rattle.hs_lock_rows.specs.Making.{makes}
use Rattle.hs_lock_rows.specs.declared.change.Change.{Change}
use Rattle.hs_must.proofs.Found.{facts_found, named, ready_from}
use Rattle.hs_must.proofs.Rows.{facts_after, room_stays, rows_after}
use Rattle.hs_must.specs.Changing.{may}
use Rattle.hs_must.specs.Laws.Changing.{changes_fit, changes_length}
use Rattle.hs_restores.specs.Laws.Jobs.{IsFor, task_is, task_of}
use Rattle.hs_restores.specs.Stepping.{scope_in}
use Rattle.hs_rows.specs.Sets.{has}
use Rattle.hs_tree.specs.Views.{view_function}
use Rattle.hs_tree.specs.declared.head.Variable.{Variable}
use Rattle.hs_must.proofs.finding.named_facts.Goals as goal

-- the lists are made from the code of the program
pub window_rows-requires-clause-ready : goal.window_rows-requires-clause-ready
window_rows-requires-clause-ready c =
    ready_from (whole_of c.args.code.now) c.args.number (view_function c.args.function.now) c.args.own.now
    (slice_get-map view_function c.args.code.now.program.now.functions.items c.args.number ∙ ap (option_map view_function) c.requires.of_function)
    c.requires.of_code c.args.code.now.whole c.args.effects.now c.requires.exact c.requires.assigned c.requires.globals c.assigned-assigned.result.now
    c.assigned-assigned.ensures c.in_ok-slots.slots c.in_ok-slots.ensures c.len.result (search rules) c.items.result.now c.items.ensures

-- one change for each operation
pub solve_locks-requires-clause-changes : goal.solve_locks-requires-clause-changes
solve_locks-requires-clause-changes c =
    ap length (c.deref.ensures.value ∙ c.in_ok-changes.ensures (view_function c.args.function.now))
    ∙ changes_length (scope_in c.args.code.now.program.now (view_function c.args.function.now)) c.args.names.now c.in_ok-slots.slots
    (may c.args.effects.now c.len-2.result unlocks) (may c.args.effects.now c.len-2.result disposes) c.items-ops.result.now
    ∙ ap length c.items-ops.ensures.lends

-- each has a row of With and Saved
pub solve_locks-requires-clause-low_fits : goal.solve_locks-requires-clause-low_fits
solve_locks-requires-clause-low_fits c at low =
    let long : length c.deref.result.now ≡ length c.args.own.now.ops =
    ap length (c.deref.ensures.value ∙ c.in_ok-changes.ensures (view_function c.args.function.now))
    ∙ changes_length (scope_in c.args.code.now.program.now (view_function c.args.function.now)) c.args.names.now c.in_ok-slots.slots
    (may c.args.effects.now c.len-2.result unlocks) (may c.args.effects.now c.len-2.result disposes) c.items-ops.result.now
    ∙ ap length c.items-ops.ensures.lends in
    c.in_ok-plan.ensures.fit at (omega (arith, low, long))

-- the changes are those of the code
pub solve_locks-requires-clause-changes_fit : goal.solve_locks-requires-clause-changes_fit
solve_locks-requires-clause-changes_fit c at its there =
    let plan = c.in_ok-plan.field-0.plan in
    let scope = scope_in c.args.code.now.program.now (view_function c.args.function.now) in
    let assigned = λ (f g : ℕ). nat_lt f c.len.result && (nat_lt g (length c.items.result.now) && has c.assigned-assigned.result.now f g) in
    changes_fit scope c.args.names.now c.in_ok-slots.slots
    (may c.args.effects.now c.len-2.result unlocks) (may c.args.effects.now c.len-2.result disposes) plan c.in_ok-plan.ensures.for_window.plan_slots
    c.items-ops.result.now
    (λ k it is. (task_is scope c.args.own.now plan 0 (length c.items-2.result.now) c.in_ok-slots.slots assigned c.in_ok-plan.ensures.for_window).places k it
    (subst (λ (ops : List Placed). slice_get ops k ≡ Some it) c.items-ops.ensures.lends is))
    at its
    (subst (λ (list : List Change). slice_get list at ≡ Some its) (c.deref.ensures.value ∙ c.in_ok-changes.ensures (view_function c.args.function.now)) there)

-- the rows have room for the facts of all operations
pub invariant_of-result : goal.invariant_of-result
invariant_of-result c =
    let lends = ap length c.items-ops.ensures.lends in
    let low = c.in_ok-plan.ensures.fit (length c.args.own.now.ops) (omega arith) in
    let plan = c.in_ok-plan.field-0.plan in
    let locks = room_stays plan c.in_ok-locks.locks c.clear_own.new.rows (length c.args.own.now.ops) c.clear_own.ensures.size
    (c.in_ok-locks.ensures.fit (length c.args.own.now.ops) (omega arith)) in
    let low_there = low.there in
    let locks_there = locks.there in (
      omega (arith, lends, low_there),
      omega (arith, lends, locks_there),
      low.names,
      sym c.in_ok-plan.ensures.for_window.plan_slots,
      low.fields,
      low.numbers,
      low.room,
      locks.fields_fit,
      locks.numbers,
      locks.room,
    )

-- each row of locks has room
pub clear_own-requires : goal.clear_own-requires
clear_own-requires c =
    record { room = λ row low. let lends = ap length c.items-ops.ensures.lends in c.in_ok-locks.ensures.fit row (omega (arith, lends, low)) }

-- the rows are solved, and only bits that say nothing are taken out
pub returns-clause-facts : goal.returns-clause-facts
returns-clause-facts c =
    let plan = c.in_ok-plan.field-0.plan in
    let scope = scope_in c.args.code.now.program.now (view_function c.args.function.now) in
    let assigned = λ (f g : ℕ). nat_lt f c.len.result && (nat_lt g (length c.items.result.now) && has c.assigned-assigned.result.now f g) in
    let low = c.in_ok-plan.field-0.rows in
    let lends = ap length c.items-ops.ensures.lends in
    facts_after (whole_of c.args.code.now) c.args.number plan (length c.items-ops.result.now) low c.in_ok-locks.locks c.clear_own.new.rows
    c.in_ok-slots.slots (λ row under. c.in_ok-locks.ensures.fit row (omega (arith, lends, under))) c.clear_own.ensures
    (facts_found (whole_of c.args.code.now) c.args.number (view_function c.args.function.now) c.args.own.now
    (slice_get-map view_function c.args.code.now.program.now.functions.items c.args.number ∙ ap (option_map view_function) c.requires.of_function)
    c.requires.of_code c.args.effects.now c.requires.exact plan c.in_ok-slots.slots assigned
    (ready_from (whole_of c.args.code.now) c.args.number (view_function c.args.function.now) c.args.own.now
    (slice_get-map view_function c.args.code.now.program.now.functions.items c.args.number ∙ ap (option_map view_function) c.requires.of_function)
    c.requires.of_code c.args.code.now.whole c.args.effects.now c.requires.exact c.requires.assigned c.requires.globals c.assigned-assigned.result.now
    c.assigned-assigned.ensures c.in_ok-slots.slots c.in_ok-slots.ensures c.len.result (search rules) c.items.result.now c.items.ensures)
    c.args.names.now c.requires.names c.requires.some
    (subst (λ (list : List Variable). IsFor scope c.args.own.now plan 0 (length list) c.in_ok-slots.slots assigned) c.items-2.ensures
    c.in_ok-plan.ensures.for_window)
    low c.in_ok-locks.locks
    (subst (λ (list : List Variable). low_rows.IsSolved (task_of scope c.args.own.now plan 0 (length list) c.in_ok-slots.slots assigned) low) c.items-2.ensures
    c.in_ok-plan.ensures.solved)
    c.len-2.result c.items-ops.result.now c.deref.result.now (search rules) c.items-ops.ensures.lends
    (c.deref.ensures.value ∙ c.in_ok-changes.ensures (view_function c.args.function.now))
    (subst (λ (list : List Variable). cuts.IsSolved (cuts.the_task (total plan) c.args.own.now (makes plan list c.in_ok-slots.slots assigned low
    c.deref.result.now)) c.in_ok-locks.locks) c.items-3.ensures
    (subst (λ (list : List Variable). cuts.IsSolved (cuts.the_task (total plan) c.args.own.now (makes plan c.items-3.result.now list assigned low
    c.deref.result.now)) c.in_ok-locks.locks) c.items-4.ensures c.in_ok-locks.ensures.solved)))

-- so the rows have what is answered
pub returns-clause-rows : goal.returns-clause-rows
returns-clause-rows c =
    let plan = c.in_ok-plan.field-0.plan in
    let lends = ap length c.items-ops.ensures.lends in
    let locks = room_stays plan c.in_ok-locks.locks c.clear_own.new.rows (length c.args.own.now.ops) c.clear_own.ensures.size
    (c.in_ok-locks.ensures.fit (length c.args.own.now.ops) (omega arith)) in
    let locks_there = locks.there in
    let all = named (whole_of c.args.code.now) c.args.number (view_function c.args.function.now) c.args.own.now
    (slice_get-map view_function c.args.code.now.program.now.functions.items c.args.number ∙ ap (option_map view_function) c.requires.of_function)
    c.requires.of_code in
    rows_after (whole_of c.args.code.now) c.args.number plan (length c.items-ops.result.now) c.in_ok-plan.field-0.rows c.in_ok-locks.locks
    c.clear_own.new.rows c.in_ok-slots.slots (λ row under. c.in_ok-locks.ensures.fit row (omega (arith, lends, under))) c.clear_own.ensures
    (c.in_ok-plan.ensures.for_window.plan_names ∙ ap length (c.items-2.ensures ∙ c.requires.names ∙ sym all))
    (λ at it is. inside at it is lends)
    locks.room (λ at low. omega (arith, lends, low, locks_there))
  where
    inside : (at : ℕ) (it : Placed) → placed_in (whole_of c.args.code.now) c.args.number at ≡ Some it
        → length c.items-ops.result.now ≡ length c.args.own.now.ops → at < length c.items-ops.result.now
    inside at it is lends =
        let low = slice_get_within c.args.own.now.ops at it
        (subst (λ (code : Option FunctionCode). slice_get (ops_in code) at ≡ Some it) c.requires.of_code is) in
        omega (arith, lends, low)
