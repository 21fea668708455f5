-- What it means that every pointer and every handle of a run is tracked by the analysis (own).
--     HasChain here ws of its       a chain of the analysis comes to the call with that fact, inside the calls that wait
--     Means                         what a status says of a pointer into a block
--     Backed                        what the facts of the callers say of it, as far down as a return gives their statuses back
--     TrackedSpot, TrackedHandle    a pointer into a block, and a handle
--     Tracked of v                  a value in a slot: a pointer by its slot, a struct by the classes of its pointers
--     AreTracked here machine ws    all values that a call has, and all cells
--     AreAllTracked                 so it is of the call that goes on, and of each call that waits, as of then
-- Chains are those of `hs_chains`: a fact comes to an operation if control and the rules of the flow can bring it there.
use Rattle.std.specs.List.{AllByRecursion}
use Rattle.std.specs.Prelude.{◌≡◌, ◌⊎◌, ℕ, Bool, true, false, List, [], ◌∷◌, length, slice_get, Some}
use Rattle.hs_calls.specs.Calls.{Here, Wait}
use Rattle.hs_calls.specs.Stacks.{Stack}
use Rattle.hs_chains.specs.Chains.{Chain, Spot as Mark}
use Rattle.hs_chains.specs.Knowledge.{Knowledge}
use Rattle.hs_code_run.specs.Codes.{CodeProgram}
use Rattle.hs_facts.specs.Effects.{WholeCode}
use Rattle.hs_flow.specs.Next.{at_slot}
use Rattle.hs_flow.specs.declared.fact.Fact.{Fact}
use Rattle.hs_flow.specs.declared.fact.FactStatus.{FactStatus}
use Rattle.hs_flow.specs.declared.fact.FactStatus.TheVariants as status
use Rattle.hs_flow.specs.declared.fact.Slot as flow_slot
use Rattle.hs_flow.specs.declared.fact.Slot.TheVariants as slot
use Rattle.hs_heap.specs.Blocks.{Block}
use Rattle.hs_heap.specs.Memory.{block_at}
use Rattle.hs_heap.specs.declared.cell.Cell.{Cell}
use Rattle.hs_heap.specs.declared.cell.Cell.TheVariants.{Undefined, Byte, State, Part}
use Rattle.hs_heap.specs.declared.cell.Pointer.{Pointer}
use Rattle.hs_heap.specs.declared.cell.Pointer.TheVariants.{Nil, Fixed, Handle, Spot}
use Rattle.hs_heap.specs.declared.cell.Spot as spot
use Rattle.hs_hiding.specs.Holding.{HoldsHandle, value_of}
use Rattle.hs_meaning.specs.Machine.{Machine}
use Rattle.hs_meaning.specs.Values.{Value, number, pointer, state, structure}
use Rattle.hs_must.specs.Answers.{names_in}
use Rattle.hs_sound_heap.specs.Since.{is_marked, is_purged}
use Rattle.hs_tree.specs.declared.head.Variable.{Variable}

-- ---- chains of a call

-- the operation that is next in the call, with a fact
abbrev pub mark_of : Here → Fact → Mark
mark_of here fact = record { function = here.fn; at = here.at; fact = fact }

-- the calls inside which a chain is, and the calls that wait, are the same operations of the same functions
abbrev pub AreCalls : List Mark → List Wait → Type 0
AreCalls [] [] = Unit {0}
AreCalls [] (w ∷ ws) = ⊥
AreCalls (c ∷ calls) [] = ⊥
AreCalls (c ∷ calls) (w ∷ ws) = (c.function ≡ w.here.fn) × (c.at ≡ w.here.at) × AreCalls calls ws

-- ---- statuses

-- the name of that number has a handle of the block
abbrev pub NameHolds : List Variable → Machine → ℕ → ℕ → Type 0
NameHolds names machine h n = (x : Variable) × (slice_get names h ≡ Some x) × HoldsHandle machine x n

-- Fresh: the name still has the handle. Held: the block could not move ever since the call began. Outer and Loose say nothing more. Other statuses are
-- not those of a pointer that is current.
abbrev pub Means : FactStatus → List Variable → (ℕ → Bool) → Machine → ℕ → Type 0
Means (status.Fresh h) names lasting machine n = NameHolds names machine h n
Means status.Held names lasting machine n = lasting n ≡ true
Means status.Outer names lasting machine n = Unit {0}
Means status.Loose names lasting machine n = Unit {0}
Means other names lasting machine n = ⊥

-- a return gives the caller's status back to what is Held or Outer
abbrev pub IfOwed : FactStatus → Type 0 → Type 0
IfOwed status.Held it = it
IfOwed status.Outer it = it
IfOwed other it = Unit {0}

module _ (whole : WholeCode) where
  -- What the status says of the pointer in a call, as of now.
  abbrev pub MeansHere : FactStatus → Here → Machine → ℕ → Type 0
  MeansHere its here machine n = Means its (names_in whole here.fn) here.lasting machine n

  -- The fact with which each call was entered said so of the pointer, as of the call.
  abbrev pub Backed : FactStatus → List Mark → List Wait → ℕ → Type 0
  Backed its [] ws n = Unit {0}
  Backed its (c ∷ calls) [] n = Unit {0}
  Backed its (c ∷ calls) (w ∷ ws) n = IfOwed its (MeansHere c.fact.status w.here w.machine n × Backed c.fact.status calls ws n)

module _ (whole : WholeCode) (known : Knowledge) where
  -- a chain comes to the call with the fact
  pub record HasChain (here : Here) (ws : List Wait) (of : flow_slot.Slot) (its : FactStatus) : Type 0 where
    pub length : ℕ
    pub calls : List Mark
    pub chain : Chain whole known length (mark_of here (at_slot its of)) calls
    pub same : AreCalls calls ws

  module _ (here : Here) (machine : Machine) (ws : List Wait) where
    -- ---- pointers

    -- A current pointer: its block has not moved since it was loaded, and is not purged; and a chain has brought a status that is true of it.
    pub record Current (of : flow_slot.Slot) (its : spot.Spot) : Type 0 where
      pub block : Block
      pub there : block_at machine.blocks its.block ≡ Some block
      pub current : its.epoch ≡ block.epoch
      pub alive : is_purged block.presence ≡ false
      pub status : FactStatus
      pub has : HasChain here ws of status
      pub means : MeansHere whole status here machine its.block
      pub backed : Backed whole status has.calls ws its.block

    -- it is stale by some chain, or current
    abbrev pub TrackedSpot : flow_slot.Slot → spot.Spot → Type 0
    TrackedSpot of its = HasChain here ws of status.Stale ⊎ Current of its

    -- A handle: chains have brought that it is one, that its block is purgeable if it is, and that it is hollow if the block is purged.
    pub record TrackedHandle (of : flow_slot.Slot) (n : ℕ) : Type 0 where
      pub block : Block
      pub there : block_at machine.blocks n ≡ Some block
      pub is : HasChain here ws of status.IsHandle
      pub marked : is_marked block ≡ true → HasChain here ws of status.Purgeable
      pub gone : is_purged block.presence ≡ true → HasChain here ws of status.Hollow

    -- NIL and pointers into objects have no facts
    abbrev pub TrackedPointer : flow_slot.Slot → Pointer → Type 0
    TrackedPointer of Nil = Unit {0}
    TrackedPointer of (Fixed object at) = Unit {0}
    TrackedPointer of (Handle n) = TrackedHandle of n
    TrackedPointer of (Spot its) = TrackedSpot of its

    -- ---- values

    -- a part of a pointer in memory, by the class through which it was stored
    abbrev pub TrackedCell : Cell → Type 0
    TrackedCell Undefined = Unit {0}
    TrackedCell (Byte byte) = Unit {0}
    TrackedCell (State byte) = Unit {0}
    TrackedCell (Part at its class) = TrackedPointer (slot.Class class) its

    -- cells, one by one
    abbrev pub TrackedCells : List Cell → Type 0
    TrackedCells cells = AllByRecursion TrackedCell cells

    -- a value in a slot
    abbrev pub Tracked : flow_slot.Slot → Value → Type 0
    Tracked of (number bits) = Unit {0}
    Tracked of (pointer its) = TrackedPointer of its
    Tracked of (state byte) = Unit {0}
    Tracked of (structure cells) = TrackedCells cells

    -- places are numbered from the bottom of the stack
    abbrev pub TrackedPlaces : List Value → Type 0
    TrackedPlaces [] = Unit {0}
    TrackedPlaces (v ∷ rest) = Tracked (slot.Place (length rest)) v × TrackedPlaces rest

    -- each variable that has a value
    abbrev pub TrackedVariables : Type 0
    TrackedVariables = (x : Variable) (v : Value) → value_of machine x ≡ Some v → Tracked (slot.Variable x) v

    -- ---- a call

    -- Control is here by a chain; and the values on the stack, the variables, and all cells of blocks and objects are tracked.
    pub record AreTracked : Type 0 where
      pub reached : HasChain here ws slot.Nothing status.Reached
      pub places : TrackedPlaces here.stack
      pub variables : TrackedVariables
      pub blocks : AllByRecursion (λ block. TrackedCells block.cells) machine.blocks
      pub objects : AllByRecursion (λ its. TrackedCells its.cells) machine.objects

  -- the call that goes on, and each call that waits as of then
  abbrev pub AreAllTracked : CodeProgram → Here → Machine → List Wait → Type 0
  AreAllTracked program = Stack program AreTracked (λ outcome s. Unit {0})
