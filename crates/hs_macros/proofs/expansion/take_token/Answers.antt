use Rattle.std.proofs.Common.{ap, ◌∙◌, arith}
use Rattle.std.proofs.lemmas.Result.{err_from_is_err_and, IfOk-weaker}
use Rattle.hs_macros.specs.Numbers.{names_in, definitions_in}
use Rattle.hs_macros.specs.Stacks.{done, ahead}
use Rattle.hs_macros.specs.Frames.{resumed}
use Rattle.hs_macros.proofs.Steps.{stays_done, whole_stays, step_of, whole_invoked, whole_refused, held_behind}
use Rattle.hs_macros.proofs.expansion.take_token.Goals as goal

-- a wrong invocation
pub returns-in_err-tokens-clause-step : goal.returns-in_err-tokens-clause-step
returns-in_err-tokens-clause-step c =
    let names = names_in c.args.table.now.entries in
    let macros = definitions_in c.args.table.now.entries in
    let exit = err_from_is_err_and c.from_residual.result c.from_residual.ensures.1 in
    rw (exit.1, exit.2) (whole_refused names macros c.args.calls.now.items (done names c.args.frame.before.items) c.args.token
    (ahead names c.args.frame.tokens.items)
    c.args.frame.left _ c.in_err-tokens.ensures.found)

-- the token stays
pub returns-in-Stays-clause-step : goal.returns-in-Stays-clause-step
returns-in-Stays-clause-step c =
    let names = names_in c.args.table.now.entries in
    let macros = definitions_in c.args.table.now.entries in
    let found' = rw c.in-Stays.is at c.in_ok-tokens.ensures.found in
    ap (resumed names macros c.args.calls.now.items) (
    stays_done names macros c.args.frame.before.items c.push.new.self.items c.args.token (ahead names c.in-Stays.tokens.items) c.args.frame.left
    c.in_ok-push-in-Stays.ensures.items
    ∙ whole_stays names macros (done names c.args.frame.before.items) c.args.token (ahead names c.in-Stays.tokens.items) (ahead names c.args.frame.tokens.items)
    c.args.frame.left found')

-- an invocation is begun
pub returns-clause-step : goal.returns-clause-step
returns-clause-step c =
    let names = names_in c.args.table.now.entries in
    let macros = definitions_in c.args.table.now.entries in
    let found' = rw c.in-Invoked.is at c.in_ok-tokens.ensures.found in
    step_of _ _ _ _ (whole_invoked names macros c.args.calls.now.items (done names c.args.frame.before.items) c.args.token
    (ahead names c.args.frame.tokens.items)
    c.args.frame.left c.in-Invoked.call found') (c.proceed.ensures.step names macros)

-- and holds less than the frame
pub returns-clause-falls : goal.returns-clause-falls
returns-clause-falls c =
    let names = names_in c.args.table.now.entries in
    let macros = definitions_in c.args.table.now.entries in
    let found' = rw c.in-Invoked.is at c.in_ok-tokens.ensures.found in
    IfOk-weaker c.proceed.result _ _ (λ next falls. omega (
      arith,
      falls,
      held_behind names macros c.args.token c.args.frame.tokens.items c.in-Invoked.call found',
    )) (c.proceed.ensures.falls names)
