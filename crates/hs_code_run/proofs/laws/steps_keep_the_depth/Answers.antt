use Rattle.hs_code_run.proofs.laws.steps_keep_the_depth.Goals as goal
use Rattle.hs_code_run.specs.Laws.Depths.Steps.{begins_deep, keeps_depth, has_noted}

pub returns-clause-begins : goal.returns-clause-begins
returns-clause-begins c = begins_deep

pub returns-clause-keeps : goal.returns-clause-keeps
returns-clause-keeps c = λ program point next s t stacked deep is. keeps_depth program stacked point deep next s t is

pub returns-clause-notes : goal.returns-clause-notes
returns-clause-notes c = λ program point its stacked deep is. has_noted program stacked point deep its is
