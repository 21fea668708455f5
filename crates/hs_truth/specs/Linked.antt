-- What a call knows of the one that waits for it (own).
--     Without n here machine         no value of the call, no variable and no cell has a handle of block n
--     HiddenAt w n, Hidden           a block that the call w cannot pass on; it stays so, and is not disposed of
--     Linked here machine w          the call that goes on, seen from the call that waits for it
--     since_of                       what a purgeable bit shows of the begin of the call
use Rattle.std.proofs.Common.{◌≡◌, ◌⊎◌, ℕ, Bool, true, false, List, [], ◌∷◌, slice_get, Some}
use Rattle.std.specs.List.{AllByRecursion}
use Rattle.hs_calls.specs.Calls.{Here, Wait, fixed_in}
use Rattle.hs_code_run.specs.Steps.{taken}
use Rattle.hs_heap.specs.Blocks.{Block}
use Rattle.hs_heap.specs.Memory.{block_at}
use Rattle.hs_hiding.specs.Holding.{Lacking, IsMade, IsPresent, Lacks, IsAlive, LackingOutside}
use Rattle.hs_meaning.specs.Machine.{Machine}
use Rattle.hs_sound_heap.specs.Since.{May, Since, is_marked}

-- ---- what nothing has

-- nothing of the call has a handle of the block, and nothing of the program
pub record Without (n : ℕ) (here : Here) (machine : Machine) : Type 0 where
  pub places : AllByRecursion (Lacks n) here.stack
  pub nowhere : Lacking n machine

-- in no argument, global and cell as of the call; the caller itself may have it
pub record HiddenAt (w : Wait) (n : ℕ) : Type 0 where
  pub arguments : AllByRecursion (Lacks n) (taken w.callee.parameters w.here.stack)
  pub outside : LackingOutside n w.machine
  pub alive : IsAlive w.machine n

-- a block that the caller did not pass on: nothing has its handle, and it is not disposed of
pub record Hidden (n : ℕ) (here : Here) (machine : Machine) : Type 0 where
  pub without : Without n here machine
  pub alive : IsAlive machine n

-- ---- the link

module _ (may : ℕ → May) (sets : ℕ → ℕ → Bool) where
  -- the call that goes on, seen from the call w that waits for it
  pub record Linked (here : Here) (machine : Machine) (w : Wait) : Type 0 where
    pub fn : here.fn ≡ w.called
    pub function : here.function ≡ w.callee
    pub heap : Since (may here.fn) w.machine.blocks machine.blocks
    pub globals : (g : ℕ) → sets here.fn g ≡ false → slice_get machine.globals g ≡ slice_get w.machine.globals g
    -- nothing is unlocked: what was not loose at the call was not since
    pub through : (may here.fn).unlocks ≡ false → (n : ℕ) → fixed_in w.machine n ≡ true → here.lasting n ≡ true
    -- a block that was not loose since got no new cells
    pub lasted : (n : ℕ) → here.lasting n ≡ true → IsPresent machine n → IsPresent w.machine n
    pub hides : (n : ℕ) → HiddenAt w n → Hidden n here machine

  -- to the first of the calls that wait
  abbrev pub IsLinked : Here → Machine → List Wait → Type 0
  IsLinked here machine [] = Unit {0}
  IsLinked here machine (w ∷ ws) = Linked here machine w

  -- it was present and purgeable
  pub record Marked (machine : Machine) (n : ℕ) : Type 0 where
    pub block : Block
    pub there : block_at machine.blocks n ≡ Some block
    pub marked : is_marked block ≡ true

  -- it was made since, or it could be purged at the call, or the function may make it so
  abbrev pub since_of : ℕ → List Wait → ℕ → Type 0
  since_of fn [] n = Unit {0}
  since_of fn (w ∷ ws) n = (IsMade w.machine n → ⊥) ⊎ Marked w.machine n ⊎ ((may fn).marks ≡ true)
