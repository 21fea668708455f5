use Rattle.std.proofs.Common.{◌≡◌, ◌<◌, ◌≤◌, List, Some, length, arith, refl, subst}
use Rattle.std.proofs.lemmas.Option.{slice_get_read}
use Rattle.std.specs.List.{slice_get}
use Rattle.hs_code.specs.Codes.{view_program}
use Rattle.hs_code.specs.declared.function_code.FunctionCode.{FunctionCode}
use Rattle.hs_code.specs.declared.function_code.Placed.{Placed}
use Rattle.hs_effects.proofs.Growing.{width_same}
use Rattle.hs_effects.proofs.InRange.{set_within}
use Rattle.hs_effects.proofs.OwnsPut.{all_owns_more, owned, all_wait}
use Rattle.hs_effects.specs.Calling.{whole_of}
use Rattle.hs_effects.specs.Owning.{Assigned, OwnsIn}
use Rattle.hs_effects.specs.Working.{Grows}
use Rattle.hs_rows.specs.Sets.{width}
use Rattle.hs_effects.proofs.own.assigned.Goals as goal

-- each global that is set is there
pub put_assigned-requires-clause-globals_in_range : goal.put_assigned-requires-clause-globals_in_range
put_assigned-requires-clause-globals_in_range c b is =
    let there : slice_get c.args.code.now.functions.items c.functions.function ≡ Some c.its-item.result =
    subst (λ (codes : List FunctionCode). slice_get codes c.functions.function ≡ Some c.its-item.result) c.functions.invariant.items
    (slice_get_read c.deref-its-items.result.now (length c.deref-its-items.result.now) c.functions.function c.its-item.result refl
    c.functions-test.true c.its-item.is) in
    let op : slice_get c.its-item.result.ops is.1.at ≡ Some is.1.its =
    subst (λ (ops : List Placed). slice_get ops is.1.at ≡ Some is.1.its) c.items-in-functions.ensures.lends is.1.there in
    let below : b < length c.args.code.now.program.now.globals =
    set_within (view_program c.args.code.now.program.now) c.args.code.now.classes.items c.args.code.now.functions.items
    c.args.code.now.whole c.functions.function c.its-item.result there is.1.at is.1.its op b is.1.has in
    let few : c.items.result.now ≡ c.args.code.now.program.now.globals = c.items.ensures in
    let wide : length c.args.code.now.program.now.globals ≤ width c.in_ok-work.work.rows =
    subst (λ globals. length globals ≤ width c.in_ok-work.work.rows) few c.in_ok-work.ensures.numbers in
    let same : width c.functions.work.rows ≡ width c.in_ok-work.work.rows =
    width_same c.in_ok-work.work.rows c.functions.work.rows c.functions.invariant.grows.size in
    rw same (let within : b < width c.in_ok-work.work.rows = omega (arith, below, wide) in within)

-- the globals of one function more
pub functions-preserved : goal.functions-preserved
functions-preserved c =
    let there : slice_get c.args.code.now.functions.items c.functions.function ≡ Some c.its-item.result =
    subst (λ (codes : List FunctionCode). slice_get codes c.functions.function ≡ Some c.its-item.result) c.functions.invariant.items
    (slice_get_read c.deref-its-items.result.now (length c.deref-its-items.result.now) c.functions.function c.its-item.result refl
    c.functions-test.true c.its-item.is) in
    record {
      grows =
          all_owns_more Assigned (whole_of c.args.code.now) c.functions.function c.its-item.result c.in_ok-work.work c.functions.work
          c.put_assigned.new.work there c.functions.invariant.grows
          (subst (λ (ops : List Placed). Grows (OwnsIn Assigned ops (length ops) c.functions.function) c.functions.work c.put_assigned.new.work)
          c.items-in-functions.ensures.lends c.in_ok-put_assigned.ensures.grows);
      items = c.functions.invariant.items;
    }

-- all of them wait
pub returns-clause-wait : goal.returns-clause-wait
returns-clause-wait c =
    all_wait Assigned (whole_of c.args.code.now) c.functions.function c.in_ok-work.work c.functions.work
    (subst (λ (codes : List FunctionCode). length codes ≤ c.functions.function) c.functions.invariant.items c.functions-test.false)
    c.in_ok-work.ensures.empty c.in_ok-work.ensures.none c.functions.invariant.grows

pub returns-clause-exact : goal.returns-clause-exact
returns-clause-exact c =
    owned Assigned (whole_of c.args.code.now) c.functions.function c.in_ok-work.work c.functions.work
    (subst (λ (codes : List FunctionCode). length codes ≤ c.functions.function) c.functions.invariant.items c.functions-test.false)
    c.in_ok-work.ensures.empty c.in_ok-work.ensures.none c.functions.invariant.grows
