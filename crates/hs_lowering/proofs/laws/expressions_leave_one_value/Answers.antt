use Rattle.std.proofs.Common.{◌∷◌, length, refl, sym, subst}
use Rattle.hs_code.specs.Codes.{scope_of}
use Rattle.hs_lowering.proofs.laws.expressions_leave_one_value.Goals as goal
use Rattle.hs_lowering.specs.Laws.Stacks.{right_leaves, left_leaves}
use Rattle.hs_lowering.specs.Lowering.{after, address_code}
use Rattle.hs_lowering.specs.Stacked.{Stacked}
use Rattle.hs_meaning.specs.Settings.{setting_of}

pub returns-clause-value : goal.returns-clause-value
returns-clause-value c = λ program function code piece e start count kinds table fits holds more.
    (right_leaves program function code piece table e fits kinds).go count start _ refl holds more

pub returns-clause-address : goal.returns-clause-address
returns-clause-address c = λ program function code piece e start count kinds table fits holds more.
    (left_leaves program function code piece table e fits kinds).go count start _ refl holds
    (λ kind is. subst (λ kind. Stacked (scope_of program function) code count
    (after start (address_code (setting_of program) function.variables piece e start (length kinds)))
    (kind ∷ kinds)) (sym is) more)
