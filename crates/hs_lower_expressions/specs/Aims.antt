-- Jumps out of loops and switches, which are written before their targets are known.
--     to_break, to_continue     numbers that stand for such a target: no operation has them
--     aimed targets its         an operation with its target, if it goes to one of them
--     aimed_from                those from a number on
use Rattle.std.specs.Prelude.{ℕ, ◌==◌, List, ◌++◌, map, take, drop, if◌then◌else◌}
use Rattle.hs_code.specs.declared.function_code.Placed.{Placed}
use Rattle.hs_code.specs.declared.op.Op.{Op}
use Rattle.hs_code.specs.declared.op.Op.TheVariants as op
use Rattle.hs_lowering.specs.Statements.{Targets}
use Rattle.hs_lower_expressions.specs.declared.ops.Exits.{Exits}

-- where `break` goes, and what leaves a loop whose condition fails
abbrev pub to_break : ℕ
to_break = 4294967295

-- where `continue` goes
abbrev pub to_continue : ℕ
to_continue = 4294967294

-- the numbers of a loop or a switch that is being written
abbrev pub unknown : Exits
unknown = record { breaks = to_break; continues = to_continue }

abbrev pub targets_of : Exits → Targets
targets_of its = record { breaks = its.breaks; continues = its.continues }

-- the operation that the number stands for, or that of the number
abbrev pub target_of : Targets → ℕ → ℕ
target_of targets number =
    if number == to_break then targets.breaks else (if number == to_continue then targets.continues else number)

-- what goes to one of them
abbrev pub aimed_op : Targets → Op → Op
aimed_op targets (op.Jump number) = op.Jump (target_of targets number)
aimed_op targets (op.Zero number) = op.Zero (target_of targets number)
aimed_op targets its = its

abbrev pub aimed : Targets → Placed → Placed
aimed targets its = record its { op = aimed_op targets its.op }

-- the operations from that number on
abbrev pub aimed_from : Targets → ℕ → List Placed → List Placed
aimed_from targets start ops = take start ops ++ map (aimed targets) (drop start ops)
