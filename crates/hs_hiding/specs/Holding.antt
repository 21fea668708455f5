-- Which values, variables and cells have a handle of a block (own).
--     Lacks n value                 the value is no handle of block n, and has none in its cells
--     Lacking n machine             no variable and no cell has one
--     LackingOutside n machine      the same, but for the variables of the call that goes on
--     IsMade, IsAlive, IsPresent    block n was made; it is not disposed of; it has its cells
--     OnDone Q its                  Q of what an operation gives, if it does not stop
--     Hands n machine its           an operation passes on no handle of block n, unless it makes the block
use Rattle.std.proofs.Common.{◌≡◌, ℕ, ◌+◌, false, true, List, length, Option, Some}
use Rattle.std.specs.List.{AllByRecursion}
use Rattle.hs_heap.specs.Blocks.{Block, is_disposed}
use Rattle.hs_heap.specs.Memory.{block_at}
use Rattle.hs_heap.specs.Shift.{is_present}
use Rattle.hs_heap.specs.declared.cell.Cell.{Cell}
use Rattle.hs_heap.specs.declared.cell.Cell.TheVariants.{Part}
use Rattle.hs_heap.specs.declared.cell.Pointer.{Pointer}
use Rattle.hs_heap.specs.declared.cell.Pointer.TheVariants.{Handle}
use Rattle.hs_meaning.specs.Machine.{Machine, Object, Binding, slot, Done, done, stopped, binding_of, value_of_slot}
use Rattle.hs_meaning.specs.Values.{Value, pointer, structure}
use Rattle.hs_tree.specs.declared.head.Variable.{Variable}

-- ---- handles

-- the pointer is no handle of the block
abbrev pub PointerLacks : ℕ → Pointer → Type 0
PointerLacks n (Handle m) = (m ≡ n) → ⊥
PointerLacks n its = Unit {0}

-- nor is it part of one
abbrev pub CellLacks : ℕ → Cell → Type 0
CellLacks n (Part at its class) = PointerLacks n its
CellLacks n cell = Unit {0}

-- cells, one by one
abbrev pub Cells : ℕ → List Cell → Type 0
Cells n cells = AllByRecursion (CellLacks n) cells

-- neither is the value a handle of the block, nor does it have one in its cells
abbrev pub Lacks : ℕ → Value → Type 0
Lacks n (pointer its) = PointerLacks n its
Lacks n (structure cells) = AllByRecursion (CellLacks n) cells
Lacks n v = Unit {0}

-- what a variable holds; an object has its cells apart
abbrev pub BindingLacks : ℕ → Binding → Type 0
BindingLacks n (slot (Some v)) = Lacks n v
BindingLacks n its = Unit {0}

-- blocks and objects, by their cells
abbrev pub Blocks : ℕ → List Block → Type 0
Blocks n blocks = AllByRecursion (λ block. AllByRecursion (CellLacks n) block.cells) blocks

-- of objects of the machine
abbrev pub Objects : ℕ → List Object → Type 0
Objects n objects = AllByRecursion (λ its. AllByRecursion (CellLacks n) its.cells) objects

-- No variable of the program and of the call that goes on, and no cell has a handle of the block. Of calls that wait nothing is said.
pub record Lacking (n : ℕ) (machine : Machine) : Type 0 where
  pub globals : AllByRecursion (BindingLacks n) machine.globals
  pub locals : AllByRecursion (BindingLacks n) machine.locals
  pub blocks : AllByRecursion (λ block. AllByRecursion (CellLacks n) block.cells) machine.blocks
  pub objects : AllByRecursion (λ its. AllByRecursion (CellLacks n) its.cells) machine.objects

-- the same, but for the variables of the call that goes on
pub record LackingOutside (n : ℕ) (machine : Machine) : Type 0 where
  pub globals : AllByRecursion (BindingLacks n) machine.globals
  pub blocks : AllByRecursion (λ block. AllByRecursion (CellLacks n) block.cells) machine.blocks
  pub objects : AllByRecursion (λ its. AllByRecursion (CellLacks n) its.cells) machine.objects

-- ---- variables

-- the value of a slot that has one
abbrev pub value_of : Machine → Variable → Option Value
value_of machine x = value_of_slot (binding_of x machine)

-- it holds a handle of the block
abbrev pub HoldsHandle : Machine → Variable → ℕ → Type 0
HoldsHandle machine x n = value_of machine x ≡ Some (pointer (Handle n))

-- ---- blocks

-- the block was made; it may have been disposed of since
pub record IsMade (machine : Machine) (n : ℕ) : Type 0 where
  pub block : Block
  pub there : block_at machine.blocks n ≡ Some block

-- it is not disposed of
pub record IsAlive (machine : Machine) (n : ℕ) : Type 0 where
  pub block : Block
  pub there : block_at machine.blocks n ≡ Some block
  pub alive : is_disposed block.presence ≡ false

-- it has its cells
pub record IsPresent (machine : Machine) (n : ℕ) : Type 0 where
  pub block : Block
  pub there : block_at machine.blocks n ≡ Some block
  pub present : is_present block.presence ≡ true

-- ---- what an operation gives

-- of what is done and does not stop
abbrev pub OnDone : {A : Type 0} → (A → Machine → Type 0) → Done A → Type 0
OnDone Q (done it after) = Q it after
OnDone Q (stopped why after) = Unit {0}

-- The machine after it lacks the block. So does the value, unless the operation makes the block: then it has the next number.
abbrev pub Gets : ℕ → Machine → Value → Machine → Type 0
Gets n machine it after = ((n ≡ length machine.blocks + 1 → IsMade after n → ⊥) → Lacks n it) × Lacking n after

-- if it does not stop
abbrev pub Hands : ℕ → Machine → Done Value → Type 0
Hands n machine its = OnDone (Gets n machine) its
