use Rattle.hs_lowering.proofs.laws.expressions_name_what_is_there.Goals as goal
use Rattle.hs_lowering.specs.Laws.Jumps.{right_within, left_within}
use Rattle.hs_lowering.specs.Laws.Ranges.{all_in_range, right_named, left_named}
use Rattle.hs_lowering.specs.Lowering.{right_code, address_code}
use Rattle.hs_meaning.specs.Settings.{setting_of}

pub returns-clause-value : goal.returns-clause-value
returns-clause-value c = λ program classes function code piece e start depth names few.
    all_in_range program classes function code start _ (right_code (setting_of program) function.variables piece e start depth)
    ((right_named program classes function piece e names).at start depth) ((right_within (setting_of program) function.variables piece e).at start depth) few

pub returns-clause-address : goal.returns-clause-address
returns-clause-address c = λ program classes function code piece e start depth names no_ few.
    all_in_range program classes function code start _ (address_code (setting_of program) function.variables piece e start depth)
    ((left_named program classes function piece e names no_).at start depth) ((left_within (setting_of program) function.variables piece e).at start depth) few
