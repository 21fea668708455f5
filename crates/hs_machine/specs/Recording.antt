-- The decisions of a run as they are recorded (own).
--     recorded decision                  as a mover gave it: the number 0 names no block
--     told_front count told              the first decisions of those told, as they are recorded; past the end they name no block
--     IsTold told script                 the script is what the mover told
--     IsCallOf script made routine call      what a mover is told of the call after those of the script
--     size_of script                     what the limit of scripts counts: the decisions, and the block numbers in them
--     SizedWith script decision result   one decision more was counted
--     NamesBlocks script                 no list of it has the number 0
use Rattle.std.specs.Prelude.{◌≡◌, ◌<◌, ◌≤◌, ℕ, zero, suc, ◌+◌, ◌==◌, not, List, [], ◌∷◌, ◌++◌, length, filter, Option, Some, None, Result, Ok, Err}
use Rattle.std.proofs.Common.{arith}
use Rattle.std.specs.List.{All as Each}
use Rattle.hs_base.specs.declared.limit.LimitKind.TheVariants as kind
use Rattle.hs_heap.specs.Blocks.{Block}
use Rattle.hs_heap.specs.declared.decision.Decision.{Decision}
use Rattle.hs_heap.specs.declared.decision.Which.{Which}
use Rattle.hs_heap.specs.declared.decision.Which.TheVariants.{All, These}
use Rattle.hs_machine.specs.declared.transcript.MachineEnd.{MachineEnd}
use Rattle.hs_machine.specs.declared.transcript.MachineEnd.TheVariants.{Limit, NoMemory}
use Rattle.hs_movers.specs.Movers.{no_block}
use Rattle.hs_movers.specs.ScriptTexts.{HasNoZero}
use Rattle.hs_movers.specs.declared.mover.MoverCall.{MoverCall}
use Rattle.hs_table.specs.declared.routine.Routine.{Routine}

-- 0 is the number of no block
abbrev pub named : Which → Which
named All = All
named (These numbers) = These (filter (λ number. not (number == 0)) numbers)

-- as a mover gave it
abbrev pub recorded : Decision → Decision
recorded decision = record { moves = named decision.moves; purges = named decision.purges }

-- so many of those told
abbrev pub told_front : ℕ → List Decision → List Decision
told_front zero told = []
told_front (suc more) [] = no_block ∷ told_front more []
told_front (suc more) (decision ∷ rest) = recorded decision ∷ told_front more rest

-- if the mover told its decisions
abbrev pub IsTold : Option (List Decision) → List Decision → Type 0
IsTold None script = Unit {0}
IsTold (Some told) script = script ≡ told_front (length script) told

-- What a mover is told of a call: its number, from 1; what the table lets the routine do; and how many blocks were made.
pub record IsCallOf (script : List Decision) (made : List Block) (routine : Routine) (call : MoverCall) : Type 0 where
  pub number : call.number ≡ length script + 1
  pub moves : call.moves ≡ routine.moves
  pub purges : call.purges ≡ routine.purges
  pub blocks : call.blocks ≡ length made

-- the block numbers that are named one by one
abbrev pub numbers_in : Which → ℕ
numbers_in All = 0
numbers_in (These numbers) = length numbers

-- a decision, and the block numbers in it
abbrev pub size_of_one : Decision → ℕ
size_of_one decision = 1 + numbers_in decision.moves + numbers_in decision.purges

-- of all decisions
abbrev pub size_of : List Decision → ℕ
size_of [] = 0
size_of (decision ∷ rest) = size_of_one decision + size_of rest

-- one decision more has room, or the script has more than it may
abbrev pub SizedWith : List Decision → Decision → Result ℕ MachineEnd → Type 0
SizedWith script decision (Ok size) = (size ≡ size_of (script ++ decision ∷ [])) × (size ≤ 4000000)
SizedWith script decision (Err (Limit its)) =
    (its.kind ≡ kind.Script) × (its.reached ≡ 4000000) × (4000000 < size_of (script ++ decision ∷ []))
SizedWith script decision (Err NoMemory) = ⊥

-- a decision at the end counts as it does at the front
pub size_of-more : (script : List Decision) (decision : Decision) → size_of (script ++ decision ∷ []) ≡ size_of script + size_of_one decision
size_of-more [] decision = omega arith
size_of-more (first ∷ rest) decision = omega (arith, size_of-more rest decision)

-- each decision counts
pub length_in_size : (script : List Decision) → length script ≤ size_of script
length_in_size [] = omega arith
length_in_size (first ∷ rest) = omega (arith, length_in_size rest)

-- no list of a script has the number of no block
pub record NamesBlocks (script : List Decision) : Type 0 where
  pub moves : Each (λ decision. HasNoZero decision.moves) script
  pub purges : Each (λ decision. HasNoZero decision.purges) script
