-- Each form of statement in the steps that the code takes, under one name.
use Rattle.hs_lower.proofs.Fors.{for_whole}
use Rattle.hs_lower.proofs.Ifs.{if_steps, if_else_steps}
use Rattle.hs_lower.proofs.Lists.{expression_steps, empty_steps, break_steps, continue_steps, return_value_steps, return_alone_steps, block_of_steps}
use Rattle.hs_lower.proofs.Switches.{switch_steps}
use Rattle.hs_lower.proofs.Whiles.{while_steps, do_steps}

-- all of them, for the function that takes these steps
pub ruleset statement_equations = (
  block_of_steps,
  expression_steps,
  empty_steps,
  if_steps,
  if_else_steps,
  while_steps,
  do_steps,
  for_whole,
  switch_steps,
  break_steps,
  continue_steps,
  return_value_steps,
  return_alone_steps,
)
