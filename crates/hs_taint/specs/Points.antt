-- Operations by their numbers in the whole program (own): those of the first function, then those of the second one, and so on.
--     start_of functions f          the number of the first operation of a function
--     count_of functions            how many operations there are
--     Point, point_of functions n   the function and the operation of a number
--     is_there functions f at       the operation is one of the function
--     starts_from, owners_from      the first number of each function, and the function of each number
use Rattle.std.specs.Prelude.{ℕ, zero, suc, ◌+◌, ◌-◌, nat_lt, Bool, List, [], ◌∷◌, ◌++◌, length, map, slice_get, Option, Some, None, if◌then◌else◌}
use Rattle.hs_code.specs.declared.function_code.FunctionCode.{FunctionCode}
use Rattle.hs_code.specs.declared.function_code.Placed.{Placed}
use Rattle.hs_facts.specs.Effects.{ops_in}

-- the number of its first operation
abbrev pub start_of : List FunctionCode → ℕ → ℕ
start_of [] f = 0
start_of (code ∷ rest) zero = 0
start_of (code ∷ rest) (suc f) = length code.ops + start_of rest f

-- of all functions
abbrev pub count_of : List FunctionCode → ℕ
count_of [] = 0
count_of (code ∷ rest) = length code.ops + count_of rest

-- an operation of a function
pub record Point : Type 0 where
  pub function : ℕ
  pub at : ℕ

-- the same operation, if there is one function more before its own
abbrev pub later : Option Point → Option Point
later None = None
later (Some p) = Some (record { function = suc p.function; at = p.at })

-- the operation of a number
abbrev pub point_of : List FunctionCode → ℕ → Option Point
point_of [] n = None
point_of (code ∷ rest) n =
    if nat_lt n (length code.ops) then Some (record { function = 0; at = n }) else later (point_of rest (n - length code.ops))

-- the function has so many operations
abbrev pub is_there : List FunctionCode → ℕ → ℕ → Bool
is_there functions f at = nat_lt at (length (ops_in (slice_get functions f)))

-- ---- as lists

-- the first number of each function, if there are so many operations before
abbrev pub starts_from : ℕ → List FunctionCode → List ℕ
starts_from before [] = []
starts_from before (code ∷ rest) = before ∷ starts_from (before + length code.ops) rest

-- the number of the function
abbrev pub owned_by : ℕ → Placed → ℕ
owned_by f its = f

-- the function of each operation, if the first one has that number
abbrev pub owners_from : ℕ → List FunctionCode → List ℕ
owners_from f [] = []
owners_from f (code ∷ rest) = map (owned_by f) code.ops ++ owners_from (suc f) rest
