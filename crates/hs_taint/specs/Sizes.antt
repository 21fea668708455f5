-- How many variables a function has at most, how many values are on the stack of one, and how many facts a step gives (own).
--     most_variables least functions   the most variables of a function, or the other number if that is greater
--     most_values least functions      the most values before an operation of a function, or the other number
--     most_facts code                  a step gives no more facts: one for each variable, value and class, and six
use Rattle.std.specs.Prelude.{ℕ, ◌+◌, max, List, [], ◌∷◌, length}
use Rattle.hs_code.specs.declared.code.Code.{Code}
use Rattle.hs_code.specs.declared.function_code.FunctionCode.{FunctionCode}
use Rattle.hs_restores.specs.Stepping.{greatest}
use Rattle.hs_tree.specs.declared.function.Function.{Function}

-- the most variables
abbrev pub most_variables : ℕ → List Function → ℕ
most_variables least [] = least
most_variables least (function ∷ rest) = most_variables (max least (length function.variables)) rest

-- the most values
abbrev pub most_values : ℕ → List FunctionCode → ℕ
most_values least [] = least
most_values least (code ∷ rest) = most_values (greatest least code.ops) rest

-- the most facts that a step gives
abbrev pub most_facts : Code → ℕ
most_facts code =
    6 + (length code.program.now.globals + (most_variables 0 code.program.now.functions.items
    + (most_values 0 code.functions.items + length code.classes.items)))
