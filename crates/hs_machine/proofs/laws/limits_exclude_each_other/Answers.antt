use Rattle.hs_machine.proofs.laws.limits_exclude_each_other.Goals as goal
use Rattle.hs_machine.specs.Laws.Limits.{output_or_script, within_or_output, within_or_script}

pub returns-clause-within_or_output : goal.returns-clause-within_or_output
returns-clause-within_or_output c = within_or_output

pub returns-clause-within_or_script : goal.returns-clause-within_or_script
returns-clause-within_or_script c = λ program input turns told ends passes. within_or_script program input turns told passes ends

pub returns-clause-output_or_script : goal.returns-clause-output_or_script
returns-clause-output_or_script c = λ program input turns told floods passes. output_or_script program input turns told passes floods
