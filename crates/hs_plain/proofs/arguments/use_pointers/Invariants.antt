use Rattle.std.proofs.Common.{◌≡◌, ◌+◌, drop}
use Rattle.hs_meaning.specs.Plain.{pointers_used}
use Rattle.hs_state.specs.Machines.{machine_of}
use Rattle.hs_values.specs.Answers.{or_first}
use Rattle.hs_plain.proofs.arguments.use_pointers.Given as goal

-- what is left decides
abbrev pub invariant-values : goal.invariant-values
invariant-values l =
    or_first (pointers_used l.fills 1 l.values (machine_of l.machine)) (tt {0})
    ≡ or_first (pointers_used l.fills (l.index + 1) (drop l.index l.values) (machine_of l.machine)) (tt {0})
