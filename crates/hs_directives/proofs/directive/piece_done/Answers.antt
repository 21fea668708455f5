use Rattle.hs_directives.proofs.Walking.{gives_with_sections}
use Rattle.hs_directives.proofs.directive.piece_done.Goals as goal

-- text
pub returns-in-Run-clause-gives : goal.returns-in-Run-clause-gives
returns-in-Run-clause-gives c = λ enter.
    rw c.in-Run.is (gives_with_sections c.args.sections.now c.run_done.new.state _ c.run_done.result (c.run_done.ensures.gives enter))

-- a directive
pub returns-in-Directive-clause-gives : goal.returns-in-Directive-clause-gives
returns-in-Directive-clause-gives c = λ enter. rw (c.in-Directive.is, ← c.operands.ensures, ← c.keyword_of.ensures) (c.directive_done.ensures.gives enter)
