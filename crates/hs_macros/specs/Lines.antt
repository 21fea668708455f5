-- What the parts that were read from a line are in the words of its definition (X3.159-1989 3.8.3). They are lent by the tokens.
--     names_of names          the names, each by its bytes
--     form_of names           the names of a function-like macro's parameters
--     parameters_of read      the parameters, and the tokens after them
--     named line              the name, and its definition
--     defined_by macros line  the macros with what the line defines
use Rattle.std.specs.Prelude.{◌≡◌, ℕ, List, Vec, Option, None, Some, map, option_map}
use Rattle.std.specs.Global.{Global}
use Rattle.std.specs.Borrow.{Bor}
use Rattle.std.specs.FinMap as finite
use Rattle.hs_macros.specs.declared.line.Line.{Line}
use Rattle.hs_macros.specs.declared.line.Parameters.{Parameters as Read}
use Rattle.hs_macros.specs.Definitions.{Definitions, Parameters, Named}

-- the names, each by its bytes
abbrev pub names_of : List (Bor (List ℕ)) → List (List ℕ)
names_of names = map (λ name. name.now) names

-- the names of a function-like macro's parameters
abbrev pub form_of : Option (Vec (Bor (List ℕ)) Global) → Option (List (List ℕ))
form_of names = option_map (λ names. names_of names.items) names

-- the parameters, and the tokens after them
abbrev pub parameters_of : Read → Parameters
parameters_of read = record { names = names_of read.names.items; behind = read.behind.now }

-- the name, and its definition
abbrev pub named : Line → Named
named line = record { name = line.name.now; definition = record { parameters = form_of line.parameters; body = line.body.now } }

-- the macros with what the line defines
abbrev pub defined_by : Definitions → Line → Definitions
defined_by macros line = finite.insert macros line.name.now (named line).definition
