-- Each argument is the stated one.
use Rattle.std.proofs.Common.{ap₂, ◌∙◌}
use Rattle.std.proofs.lemmas.Result.{IfOk-weaker}
use Rattle.clap.specs.Words.{with_rule}
use Rattle.hs_words.proofs.run.run_command.Goals as goal

pub returns : goal.returns
returns c =
    let tabled = c.in_ok-tabled.ensures ∙ ap₂ with_rule c.new-bare.ensures.app c.option_or.ensures.rule in
    let moved = c.in_ok-moved.ensures ∙ ap₂ with_rule tabled c.option_or-2.ensures.rule in
    let scripted = c.in_ok-scripted.ensures ∙ ap₂ with_rule moved c.option.ensures.rule in
    let given = c.in_ok-given.ensures ∙ ap₂ with_rule scripted c.option-2.ensures.rule in
    let timed = c.in_ok-timed.ensures ∙ ap₂ with_rule given c.option_or-3.ensures.rule in
    IfOk-weaker c.with_arg-6.result _ _ (λ its is. is ∙ ap₂ with_rule timed c.file.ensures.rule) c.with_arg-6.ensures
