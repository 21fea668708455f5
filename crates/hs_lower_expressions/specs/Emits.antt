-- What an emitter answers: the operations that it puts at the end of those that are there.
--     most_ops                       so many operations there may be
--     Emits result old new code      the code was put at the end, or why it was not
--     Grows old new                  there are more than before, and not too many
use Rattle.std.specs.Prelude.{◌≡◌, ◌<◌, ◌≤◌, ◌+◌, ◌++◌, ℕ, List, length, Result, Ok, Err}
use Rattle.hs_base.specs.Limit.{number_of}
use Rattle.hs_base.specs.declared.limit.LimitKind.TheVariants as limit
use Rattle.hs_code.specs.declared.function_code.Placed.{Placed}
use Rattle.hs_lower_expressions.specs.declared.emit_end.EmitEnd.{EmitEnd}
use Rattle.hs_lower_expressions.specs.declared.emit_end.EmitEnd.TheVariants.{Limit, NoMemory}

-- 1000000
abbrev pub most_ops : ℕ
most_ops = number_of limit.Ops

-- The code follows the old operations. It is refused if there were too many with it, or if memory ran out.
abbrev pub Emits : {A : Type 0} → Result A EmitEnd → List Placed → List Placed → List Placed → Type 0
Emits (Ok it) old new code = new ≡ old ++ code
Emits (Err Limit) old new code = most_ops < length old + length code
Emits (Err NoMemory) old new code = Unit {0}

-- at least one more
abbrev pub Grows : List Placed → List Placed → Type 0
Grows old new = (length old < length new) × (length new ≤ most_ops)
