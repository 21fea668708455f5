use Rattle.std.proofs.Common.{◌≡◌, [], List, length, sym, ap, ◌∙◌, inr, arith}
use Rattle.std.proofs.lemmas.List.{nil_from_length}
use Rattle.std.proofs.lemmas.Result.{err_from_is_err_and}
use Rattle.hs_macros.specs.Slots.{tokens_of}
use Rattle.hs_macros.specs.Stacks.{done, parameters_in, parameters_ahead}
use Rattle.hs_macros.specs.Frames.{call_outcome, resumed, weights}
use Rattle.hs_macros.specs.declared.call.Call.{Call}
use Rattle.hs_macros.specs.declared.frame.Suspended.{Suspended}
use Rattle.hs_macros.proofs.Places.{around, next_ready, none_waits, marked_at}
use Rattle.hs_macros.proofs.Steps.{skips, skips_falls, begins, begins_falls, places, places_falls, refuses, same_waiting}
use Rattle.hs_macros.proofs.expansion.proceed.Goals as goal

-- the invocation that waits knows its parameters
pub invariant_of-push-clause-placed : goal.invariant_of-push-clause-placed
invariant_of-push-clause-placed c =
    (around c.arguments.call.ready.items c.pop.new.self.items c.arguments.call.waiting.items c.in-Some.argument c.arguments.call.body.now
    c.in-Some.ensures.items c.arguments.invariant.known).0

-- and they know whether they are used
pub invariant_of-push-clause-marked : goal.invariant_of-push-clause-marked
invariant_of-push-clause-marked c =
    (around c.arguments.call.ready.items c.pop.new.self.items c.arguments.call.waiting.items c.in-Some.argument c.arguments.call.body.now
    c.in-Some.ensures.items c.arguments.invariant.known).1

-- an argument that is not used is ready as it is
pub arguments-preserved : goal.arguments-preserved
arguments-preserved c =
    let around' = around c.arguments.call.ready.items c.pop.new.self.items c.arguments.call.waiting.items c.in-Some.argument c.arguments.call.body.now
    c.in-Some.ensures.items c.arguments.invariant.known in
    let used = marked_at (parameters_in c.arguments.call.ready.items) c.in-Some.argument.parameter.now (parameters_ahead c.pop.new.self.items)
    (tokens_of c.arguments.call.body.now) around'.1 in
    record {
      same = λ names macros.
          skips names macros (done names c.args.before.items) c.arguments.call c.pop.new.self c.push-in-Some.new.self c.in-Some.argument c.args.left
          c.in-Some.ensures.items c.in_ok-push-2.ensures.items (sym used ∙ c.if-argument.false)
          ∙ c.arguments.invariant.same names macros;
      fewer = λ names. omega (
        arith,
        skips_falls names c.arguments.call.waiting.items c.pop.new.self.items c.in-Some.argument c.in-Some.ensures.items,
        c.arguments.invariant.fewer names,
      );
      behind = c.arguments.invariant.behind;
      waits = c.arguments.invariant.waits;
      known = next_ready c.arguments.call.ready.items c.push-in-Some.new.self.items c.pop.new.self.items c.in-Some.argument c.arguments.call.body.now
          c.in_ok-push-2.ensures.items around';
    }

-- all arguments are ready, so each token knows its argument
pub spent-requires : goal.spent-requires
spent-requires c =
    none_waits c.arguments.call.ready.items c.arguments.call.waiting.items c.arguments.call.body.now
    (nil_from_length _ (omega (arith, c.arguments.call.waiting.ok.0, c.in_default.ensures.cases.0))) c.arguments.invariant.known

-- and still does
pub place-requires : goal.place-requires
place-requires c =
    none_waits c.arguments.call.ready.items c.arguments.call.waiting.items c.arguments.call.body.now
    (nil_from_length _ (omega (arith, c.arguments.call.waiting.ok.0, c.in_default.ensures.cases.0))) c.arguments.invariant.known

-- the next argument is begun
pub returns-then-argument-clause-step : goal.returns-then-argument-clause-step
returns-then-argument-clause-step c names macros =
    let around' = around c.arguments.call.ready.items c.pop.new.self.items c.arguments.call.waiting.items c.in-Some.argument c.arguments.call.body.now
    c.in-Some.ensures.items c.arguments.invariant.known in
    let used = marked_at (parameters_in c.arguments.call.ready.items) c.in-Some.argument.parameter.now (parameters_ahead c.pop.new.self.items)
    (tokens_of c.arguments.call.body.now) around'.1 in
    begins names macros c.arguments.calls.items c.push.new.self.items c.args.before c.reverse.new.self c.new.result c.arguments.call c.pop.new.self
    c.in-Some.argument c.args.left _ _ c.in-Some.ensures.items (sym used ∙ c.if-argument.true) c.new.ensures.items c.reverse.ensures.items
    c.in_ok-push.ensures.items
    ∙ ap (λ (calls : List Suspended). resumed names macros calls (call_outcome names macros (done names c.args.before.items) c.arguments.call c.args.left))
    c.arguments.invariant.waits
    ∙ ap (resumed names macros c.args.calls.now.items) (c.arguments.invariant.same names macros)

-- with fewer arguments that wait
pub returns-then-argument-clause-falls : goal.returns-then-argument-clause-falls
returns-then-argument-clause-falls c names =
    omega (
      arith,
      begins_falls names c.arguments.calls.items c.push.new.self.items c.args.before c.reverse.new.self c.new.result c.arguments.call c.pop.new.self
          c.in-Some.argument c.args.left _ _ c.in-Some.ensures.items c.reverse.ensures.items c.in_ok-push.ensures.items,
      ap (weights names) c.arguments.invariant.waits,
      c.arguments.invariant.fewer names,
      ap length c.arguments.invariant.behind,
    )

-- the tokens pass a limit
pub returns-in_err-left-clause-step : goal.returns-in_err-left-clause-step
returns-in_err-left-clause-step c names macros =
    let exit = err_from_is_err_and c.from_residual-in_err-left.result c.from_residual-in_err-left.ensures.1 in
    let last : Call = record c.arguments.call { waiting = c.pop.new.self } in
    let none : c.pop.new.self.items ≡ [] = nil_from_length _ (omega (arith, c.pop.new.self.ok.0, c.in_default.ensures.cases.1)) in
    let same : c.pop.new.self.items ≡ c.arguments.call.waiting.items =
    none ∙ sym (nil_from_length _ (omega (arith, c.arguments.call.waiting.ok.0, c.in_default.ensures.cases.0))) in
    rw (exit.1, exit.2) (inr (
    ap (resumed names macros c.args.calls.now.items)
    (sym (same_waiting names macros (done names c.args.before.items) c.arguments.call c.pop.new.self c.args.left same
    ∙ c.arguments.invariant.same names macros))
    ∙ refuses names macros c.args.calls.now.items (done names c.args.before.items) last c.args.left _ none (c.in_err-left.ensures names)))

-- or they are put in place
pub returns-clause-step : goal.returns-clause-step
returns-clause-step c names macros =
    let last : Call = record c.arguments.call { waiting = c.pop.new.self } in
    let none : c.pop.new.self.items ≡ [] = nil_from_length _ (omega (arith, c.pop.new.self.ok.0, c.in_default.ensures.cases.1)) in
    let same : c.pop.new.self.items ≡ c.arguments.call.waiting.items =
    none ∙ sym (nil_from_length _ (omega (arith, c.arguments.call.waiting.ok.0, c.in_default.ensures.cases.0))) in
    places names macros c.arguments.calls.items c.args.before c.in_ok-place.field-0 last c.args.left c.in_ok-left.left none (c.in_ok-left.ensures names)
    (c.in_ok-place.ensures names)
    ∙ ap (λ (calls : List Suspended). resumed names macros calls (call_outcome names macros (done names c.args.before.items) last c.args.left))
    c.arguments.invariant.waits
    ∙ ap (resumed names macros c.args.calls.now.items)
    (same_waiting names macros (done names c.args.before.items) c.arguments.call c.pop.new.self c.args.left same
    ∙ c.arguments.invariant.same names macros)

-- with so much less that may be put in place
pub returns-clause-falls : goal.returns-clause-falls
returns-clause-falls c names =
    let last : Call = record c.arguments.call { waiting = c.pop.new.self } in
    omega (
      arith,
      places_falls names c.in_ok-place.field-0 last c.args.left c.in_ok-left.left (c.in_ok-left.ensures names) (c.in_ok-place.ensures names),
      ap (weights names) c.arguments.invariant.waits,
      ap length c.arguments.invariant.behind,
    )
