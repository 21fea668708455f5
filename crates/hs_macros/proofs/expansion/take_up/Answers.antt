use Rattle.std.proofs.Common.{[], ◌∷◌, ◌++◌, refl, ◌∙◌, arith}
use Rattle.std.proofs.lemmas.Result.{IfOk-weaker}
use Rattle.hs_macros.proofs.Steps.{step_of, ends, frame_done}
use Rattle.hs_macros.proofs.expansion.take_up.Goals as goal

-- the argument is ready
pub returns-clause-step : goal.returns-clause-step
returns-clause-step c names macros =
    step_of _ _ _ _ (ends names macros c.args.calls.now.items (c.args.calls.now.items ++ c.args.suspended ∷ []) c.args.suspended.before c.args.frame.before
    c.args.suspended.call c.push.new.self c.args.suspended.parameter c.args.frame.left c.args.suspended.placed c.args.suspended.marked refl
    c.in_ok-push.ensures.items
    ∙ frame_done names macros (c.args.calls.now.items ++ c.args.suspended ∷ []) c.args.frame c.requires) (c.proceed.ensures.step names macros)

-- and the invocation waits no more
pub returns-clause-falls : goal.returns-clause-falls
returns-clause-falls c names = IfOk-weaker c.proceed.result _ _ (λ next falls. omega (arith, falls)) (c.proceed.ensures.falls names)
