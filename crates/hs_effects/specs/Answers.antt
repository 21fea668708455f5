-- What a table of effects answers.
--     Answers                      rows of sets: the effects of each function by their numbers, and its globals; the noted restores
--     in_set set effect            the effect is in a set of flags
--     IsExact whole answers        the answers are those of the program
use Rattle.std.specs.Bool.{Decides}
use Rattle.std.specs.Prelude.{◌<◌, ℕ, ◌==◌, Bool, List, length, bit_and}
use Rattle.std.specs.declared.alloc.Global.{Global}
use Rattle.std.specs.declared.vec.Vec.{Vec}
use Rattle.hs_effects.specs.Effecting.{number_of, restored}
use Rattle.hs_facts.specs.Effects.{WholeCode, Assigns, Effect, HasEffect, IsRestoreAt, moves, purges, unlocks, marks, bits, disposes}
use Rattle.hs_rows.specs.Sets.{Sets, has}

pub record Answers : Type 0 where
  pub effects : Sets
  pub assigned : Sets
  pub restores : List (Vec Bool Global)

-- the flag of an effect, as `hs_code::Effects` has it
abbrev pub flag_of : Effect → ℕ
flag_of moves = 1
flag_of purges = 2
flag_of unlocks = 4
flag_of marks = 8
flag_of bits = 16
flag_of disposes = 32

-- the flag is in the set
abbrev pub in_set : ℕ → Effect → Bool
in_set set effect = bit_and set (flag_of effect) == flag_of effect

-- for each function and global that there is, and each operation
pub record IsExact (whole : WholeCode) (answers : Answers) : Type 0 where
  pub effects : (f : ℕ) (effect : Effect) → f < length whole.functions → Decides (has answers.effects f (number_of effect)) (HasEffect whole f effect)
  pub assigns : (f g : ℕ) → f < length whole.functions → g < length whole.program.globals → Decides (has answers.assigned f g) (Assigns whole f g)
  pub restores : (f at : ℕ) → Decides (restored answers.restores f at) (IsRestoreAt whole f at)
