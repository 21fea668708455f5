use Rattle.hs_directives.proofs.directive.directive_done.Goals as goal

-- the sections change, and the state stays
pub returns-in-Else-clause-gives : goal.returns-in-Else-clause-gives
returns-in-Else-clause-gives c = λ enter. rw c.in-Else.is (c.else_done.ensures c.args.state.now)

pub returns-in-Endif-clause-gives : goal.returns-in-Endif-clause-gives
returns-in-Endif-clause-gives c = λ enter. rw c.in-Endif.is (c.endif_done.ensures c.args.state.now)
