use Rattle.std.proofs.Common.{◌≡◌, ◌<◌, ◌≤◌, List, Some, length, arith, rules, ◌∙◌, refl, subst}
use Rattle.std.proofs.lemmas.Option.{slice_get_read}
use Rattle.std.specs.List.{slice_get}
use Rattle.hs_code.specs.Codes.{view_program}
use Rattle.hs_code.specs.declared.function_code.FunctionCode.{FunctionCode}
use Rattle.hs_code.specs.declared.function_code.Placed.{Placed}
use Rattle.hs_effects.proofs.CallersPut.{all_begin, all_more, all_callers}
use Rattle.hs_effects.proofs.InRange.{called_within}
use Rattle.hs_effects.specs.Calling.{CallsPut, IsCallIn, whole_of}
use Rattle.hs_effects.proofs.callers.callers.Goals as goal

-- no calls yet
pub functions-init : goal.functions-init
functions-init c =
    let same : c.len.result ≡ length c.args.code.now.functions.items = search rules in
    record {
      put = all_begin (whole_of c.args.code.now) c.in_ok-rows.rows.items (c.in_ok-rows.ensures.each ∙ same) c.in_ok-rows.ensures.empty;
      items = c.deref-function-items.ensures.value;
    }

-- each function that is called is there
pub put_calls-requires : goal.put_calls-requires
put_calls-requires c = record {
  in_range = λ at g call.
      let there : slice_get c.args.code.now.functions.items c.functions.caller ≡ Some c.function-item.result =
      subst (λ (codes : List FunctionCode). slice_get codes c.functions.caller ≡ Some c.function-item.result) c.functions.invariant.items
      (slice_get_read c.deref-function-items.result.now (length c.deref-function-items.result.now) c.functions.caller c.function-item.result refl
      c.functions-test.true c.function-item.is) in
      let own : IsCallIn c.function-item.result.ops at g = subst (λ (ops : List Placed). IsCallIn ops at g) c.items.ensures.lends call in
      let below : g < length c.args.code.now.functions.items =
      called_within (view_program c.args.code.now.program.now) c.args.code.now.classes.items c.args.code.now.functions.items
      c.args.code.now.whole c.functions.caller c.function-item.result there at g own in
      let each : length c.functions.rows.items ≡ length c.args.code.now.functions.items = c.functions.invariant.put.each in
      omega (arith, below, each);
}

-- the calls of one function more
pub functions-preserved : goal.functions-preserved
functions-preserved c =
    let there : slice_get c.args.code.now.functions.items c.functions.caller ≡ Some c.function-item.result =
    subst (λ (codes : List FunctionCode). slice_get codes c.functions.caller ≡ Some c.function-item.result) c.functions.invariant.items
    (slice_get_read c.deref-function-items.result.now (length c.deref-function-items.result.now) c.functions.caller c.function-item.result refl
    c.functions-test.true c.function-item.is) in
    record {
      put =
          all_more (whole_of c.args.code.now) c.functions.caller c.function-item.result c.functions.rows.items c.put_calls.new.rows.items there
          c.functions.invariant.put
          (subst (λ (ops : List Placed). CallsPut ops c.functions.caller (length ops) c.functions.rows.items c.put_calls.new.rows.items)
          c.items.ensures.lends c.in_ok-put_calls.ensures.put);
      items = c.functions.invariant.items;
    }

-- all are put in
pub returns-clause-right : goal.returns-clause-right
returns-clause-right c =
    all_callers (whole_of c.args.code.now) c.functions.rows.items c.functions.caller
    (subst (λ (codes : List FunctionCode). length codes ≤ c.functions.caller) c.functions.invariant.items c.functions-test.false)
    c.functions.invariant.put
