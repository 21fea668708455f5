use Rattle.std.proofs.Common.{◌≡◌, ◌≤◌, List, Some, length, refl, subst}
use Rattle.std.proofs.lemmas.Option.{slice_get_read}
use Rattle.std.specs.List.{slice_get}
use Rattle.hs_code.specs.declared.function_code.FunctionCode.{FunctionCode}
use Rattle.hs_code.specs.declared.function_code.Placed.{Placed}
use Rattle.hs_effects.proofs.Growing.{width_same}
use Rattle.hs_effects.proofs.OwnsPut.{all_owns_more, owned, all_wait}
use Rattle.hs_effects.specs.Calling.{whole_of}
use Rattle.hs_effects.specs.Effecting.{HasNumber}
use Rattle.hs_effects.specs.Owning.{OwnsIn}
use Rattle.hs_effects.specs.Working.{Grows}
use Rattle.hs_tree.specs.declared.function.BoundRoutine.{BoundRoutine}
use Rattle.hs_effects.proofs.own_effects.own_effects.Goals as goal

-- the sizes stay
pub put_effects-requires-clause-numbers_in_range : goal.put_effects-requires-clause-numbers_in_range
put_effects-requires-clause-numbers_in_range c =
    rw (width_same c.in_ok-work.work.rows c.functions.work.rows c.functions.invariant.grows.size) c.in_ok-work.ensures.numbers

-- the effects of one function more
pub functions-preserved : goal.functions-preserved
functions-preserved c =
    let there : slice_get c.args.code.now.functions.items c.functions.function ≡ Some c.its-item.result =
    subst (λ (codes : List FunctionCode). slice_get codes c.functions.function ≡ Some c.its-item.result) c.functions.invariant.items
    (slice_get_read c.deref-its-items.result.now (length c.deref-its-items.result.now) c.functions.function c.its-item.result refl
    c.functions-test.true c.its-item.is) in
    let by_ops : Grows (OwnsIn (HasNumber c.items-in-functions.result.now c.args.restores.now) c.its-item.result.ops (length c.its-item.result.ops)
    c.functions.function) c.functions.work c.put_effects.new.work =
    subst (λ (ops : List Placed). Grows (OwnsIn (HasNumber c.items-in-functions.result.now c.args.restores.now) ops (length ops) c.functions.function)
    c.functions.work c.put_effects.new.work)
    c.items.ensures.lends c.in_ok-put_effects.ensures.grows in
    record {
      grows =
          all_owns_more (HasNumber c.args.code.now.program.now.routines c.args.restores.now) (whole_of c.args.code.now) c.functions.function
          c.its-item.result c.in_ok-work.work c.functions.work c.put_effects.new.work there c.functions.invariant.grows
          (subst (λ (routines : List BoundRoutine). Grows (OwnsIn (HasNumber routines c.args.restores.now) c.its-item.result.ops
          (length c.its-item.result.ops) c.functions.function) c.functions.work c.put_effects.new.work)
          c.items-in-functions.ensures by_ops);
      items = c.functions.invariant.items;
    }

-- all of them wait
pub returns-clause-wait : goal.returns-clause-wait
returns-clause-wait c =
    all_wait (HasNumber c.args.code.now.program.now.routines c.args.restores.now) (whole_of c.args.code.now) c.functions.function
    c.in_ok-work.work c.functions.work
    (subst (λ (codes : List FunctionCode). length codes ≤ c.functions.function) c.functions.invariant.items c.functions-test.false)
    c.in_ok-work.ensures.empty c.in_ok-work.ensures.none c.functions.invariant.grows

pub returns-clause-exact : goal.returns-clause-exact
returns-clause-exact c =
    owned (HasNumber c.args.code.now.program.now.routines c.args.restores.now) (whole_of c.args.code.now) c.functions.function
    c.in_ok-work.work c.functions.work
    (subst (λ (codes : List FunctionCode). length codes ≤ c.functions.function) c.functions.invariant.items c.functions-test.false)
    c.in_ok-work.ensures.empty c.in_ok-work.ensures.none c.functions.invariant.grows
