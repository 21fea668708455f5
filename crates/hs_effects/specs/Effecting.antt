-- The effects of single operations, as tests.
--     number_of effect                     the number of an effect
--     flag its effect                      whether it is among those
--     effects_of_op routines restores op   those of an operation, by whether it is a restore
--     restored rows f at                   whether the operation is noted as a restore
--     AreRestores whole rows               the restores of the program are noted, and nothing else
--     HasNumber routines rows f at op b    the operation has the effect of that number
use Rattle.std.specs.Prelude.{◌≡◌, ℕ, Bool, true, false, not, ◌||◌, List, [], Option, Some, None, slice_get}
use Rattle.std.specs.Bool.{Decides}
use Rattle.std.specs.declared.alloc.Global.{Global}
use Rattle.std.specs.declared.vec.Vec.{Vec}
use Rattle.hs_code.specs.declared.op.Op.{Op}
use Rattle.hs_code.specs.declared.op.Op.TheVariants as op
use Rattle.hs_effects.specs.declared.op_effects.OpEffects.{OpEffects}
use Rattle.hs_facts.specs.Effects.{WholeCode, IsRestoreAt, Effect, moves, purges, unlocks, marks, bits, disposes}
use Rattle.hs_table.specs.declared.role.Role.{Role}
use Rattle.hs_table.specs.declared.role.Role.TheVariants as role
use Rattle.hs_tree.specs.declared.function.BoundRoutine.{BoundRoutine}

abbrev pub number_of : Effect → ℕ
number_of moves = 0
number_of purges = 1
number_of unlocks = 2
number_of marks = 3
number_of bits = 4
number_of disposes = 5

abbrev pub flag : OpEffects → Effect → Bool
flag its moves = its.moves
flag its purges = its.purges
flag its unlocks = its.unlocks
flag its marks = its.marks
flag its bits = its.bits
flag its disposes = its.disposes

abbrev pub no_effects : OpEffects
no_effects = record { moves = false; purges = false; unlocks = false; marks = false; bits = false; disposes = false }

-- a routine that may purge counts as one that may move
abbrev pub effects_of_shift : Bool → Bool → OpEffects
effects_of_shift may_move may_purge = record no_effects { moves = may_move || may_purge; purges = may_purge }

-- by whether it is a restore
abbrev pub effects_of_role : Bool → Role → OpEffects
effects_of_role restores role.Unlock = record no_effects { unlocks = true; bits = true }
effects_of_role restores role.Realloc = record no_effects { unlocks = true; bits = true }
effects_of_role restores role.SetState = record no_effects { unlocks = not restores; marks = not restores; bits = true }
effects_of_role restores role.Purge = record no_effects { marks = true; bits = true }
effects_of_role restores role.Lock = record no_effects { bits = true }
effects_of_role restores role.NoPurge = record no_effects { bits = true }
effects_of_role restores role.GetState = record no_effects { bits = true }
effects_of_role restores role.Empty = record no_effects { bits = true }
effects_of_role restores role.DisposeHandle = record no_effects { bits = true; disposes = true }
effects_of_role restores _ = no_effects

abbrev pub effects_of_shift_in : Option BoundRoutine → OpEffects
effects_of_shift_in None = no_effects
effects_of_shift_in (Some it) = effects_of_shift it.routine.moves it.routine.purges

abbrev pub effects_of_role_in : Bool → Option BoundRoutine → OpEffects
effects_of_role_in restores None = no_effects
effects_of_role_in restores (Some it) = effects_of_role restores it.routine.role

abbrev pub effects_of_op : List BoundRoutine → Bool → Op → OpEffects
effects_of_op routines restores (op.Shift place) = effects_of_shift_in (slice_get routines place)
effects_of_op routines restores (op.Routine place) = effects_of_role_in restores (slice_get routines place)
effects_of_op routines restores _ = no_effects

-- ---- restores

-- what is not noted is none
abbrev pub noted : Option Bool → Bool
noted None = false
noted (Some it) = it

abbrev pub row_of : Option (Vec Bool Global) → List Bool
row_of None = []
row_of (Some row) = row.items

-- a row for each function, with its operations in their order; it may end early
abbrev pub restored : List (Vec Bool Global) → ℕ → ℕ → Bool
restored rows f at = noted (slice_get (row_of (slice_get rows f)) at)

-- exactly the restores of the program
abbrev pub AreRestores : WholeCode → List (Vec Bool Global) → Type 0
AreRestores whole rows = (f at : ℕ) → Decides (restored rows f at) (IsRestoreAt whole f at)

-- the operation has the effect of that number
abbrev pub HasNumber : List BoundRoutine → List (Vec Bool Global) → ℕ → ℕ → Op → ℕ → Type 0
HasNumber routines rows f at its b = (effect : Effect) × (b ≡ number_of effect) × (flag (effects_of_op routines (restored rows f at) its) effect ≡ true)
