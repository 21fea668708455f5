use Rattle.std.proofs.Common.{◌≡◌, [], ◌∷◌, sym, ap, ◌∙◌, arith}
use Rattle.std.proofs.lemmas.List.{nil_from_length}
use Rattle.std.proofs.lemmas.Result.{err_from_is_err_and}
use Rattle.hs_macros.specs.Numbers.{names_in, definitions_in}
use Rattle.hs_macros.specs.Replacement.{with_front, expanded}
use Rattle.hs_macros.specs.Stacks.{hidden, done, ahead}
use Rattle.hs_macros.specs.Frames.{resumed, weights}
use Rattle.hs_macros.proofs.Steps.{weights-push, all_done, next_ahead, refused_all}
use Rattle.hs_macros.proofs.expansion.replaced_run.Goals as goal

-- the invocation that is taken up waits no more
pub steps-smaller : goal.steps-smaller
steps-smaller c =
    let names = names_in c.args.table.now.entries in
    omega (
      arith,
      c.in_ok-frame-2.ensures.falls names,
      c.in_ok-give_done.ensures.weight,
      ap (weights names) c.in-Some-pop.ensures.items,
      weights-push names c.pop-in_default.new.self.items c.in-Some-pop.suspended,
      c.pop.new.self.ok.0,
      c.give_done.new.frame.tokens.ok.0,
      c.in_default.ensures.cases.0,
      c.in_default.ensures.cases.1,
    )

-- the next token is refused
pub returns-in_err-frame-clause-refused : goal.returns-in_err-frame-clause-refused
returns-in_err-frame-clause-refused c =
    let names = names_in c.args.table.now.entries in
    let macros = definitions_in c.args.table.now.entries in
    let exit = err_from_is_err_and c.from_residual-in_err-frame.result c.from_residual-in_err-frame.ensures.1 in
    let same = rw c.deref.ensures.value at (c.in_ok-give_done.ensures.same names macros) in
    let next = next_ahead names macros c.give_done.new.sources.items c.steps.calls.items c.give_done.new.frame
    c.pop.new.self.items c.in-Some.token c.in-Some.ensures.items in
    rw (exit.1, exit.2) (refused_all c.give_done.new.sources.items
    (resumed names macros c.steps.calls.items (with_front (done names c.give_done.new.frame.before.items)
    (expanded macros c.give_done.new.frame.left (hidden names c.in-Some.token ∷ ahead names c.pop.new.self.items))))
    _ _ (next ∙ same ∙ c.steps.invariant) c.in_err-frame.ensures.step)

-- nothing waits and nothing is ahead, so all is given
pub returns-in_default-pop-clause-replaced : goal.returns-in_default-pop-clause-replaced
returns-in_default-pop-clause-replaced c =
    let names = names_in c.args.table.now.entries in
    let macros = definitions_in c.args.table.now.entries in
    let none : c.steps.calls.items ≡ [] = nil_from_length _ (omega (arith, c.steps.calls.ok.0, c.in_default-pop.ensures.cases.0)) in
    let empty : c.give_done.new.frame.tokens.items ≡ [] = nil_from_length _ (omega (arith, c.give_done.new.frame.tokens.ok.0, c.in_default.ensures.cases.0)) in
    let given : c.give_done.new.frame.before.items ≡ [] = c.in_ok-give_done.ensures.given (c.deref.ensures.value ∙ none) in
    let same = rw c.deref.ensures.value at (c.in_ok-give_done.ensures.same names macros) in
    sym (same ∙ c.steps.invariant)
    ∙ all_done names macros c.give_done.new.sources.items c.steps.calls.items c.give_done.new.frame none given empty
