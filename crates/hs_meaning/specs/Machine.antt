-- The reference machine between two operations (own).
--     Object, Storage               an object of cells, and how long it lives (X3.159-1989 3.1.2.4)
--     Binding                       what a variable is: a slot with one value, or an object of cells
--     Machine                       the blocks of the heap, objects, variables, what is left of the input, and the output
--     Done A                        what an operation gives and the machine after it, or its stop and the machine that it leaves
--     and_then first next           one after the other
--     binding_of name machine       what a variable is there; with_value name value machine, a slot with another value
--     with_object, with_blocks      a machine with another object, or other blocks
--     new_object, ended_object      one object more; an object whose life has ended
use Rattle.std.specs.Prelude.{ℕ, ◌+◌, nat_le, Bool, true, false, ◌&&◌, List, [], ◌∷◌, ◌++◌, length, slice_get, slice_set, Option, Some, None}
use Rattle.hs_heap.specs.Blocks.{Block}
use Rattle.hs_heap.specs.declared.cell.Cell.{Cell}
use Rattle.hs_meaning.specs.Values.{Value}
use Rattle.hs_meaning.specs.declared.outcome.Stop.{Stop}
use Rattle.hs_tree.specs.declared.head.Variable.{Variable}
use Rattle.hs_tree.specs.declared.head.Variable.TheVariants as name

-- An object lives as long as the program, as long as the call that made it, or until the program disposes it. Afterwards it has ended.
pub data Storage : Type 0 where
  permanent : Storage
  automatic : Storage
  allocated : Storage
  ended : Storage

-- cells, and how long they are there
pub record Object : Type 0 where
  pub cells : List Cell
  pub storage : Storage

-- A slot has a value once it was given one. An object is named by its number.
pub data Binding : Type 0 where
  slot : Option Value → Binding
  object_at : ℕ → Binding

-- all that a run is at, but for its schedule and its turns
pub record Machine : Type 0 where
  -- numbered from 1
  pub blocks : List Block
  -- numbered from 0: those of the program, and then those that were made since
  pub objects : List Object
  -- of the program
  pub globals : List Binding
  -- of the function that runs
  pub locals : List Binding
  -- how many calls have begun and not ended, that of `main` among them
  pub frames : ℕ
  -- what `getchar` has not read yet
  pub bytes : List ℕ
  -- what plain routines have not answered yet
  pub words : List ℕ
  -- the numbers of the allocations that are refused
  pub refused : List ℕ
  -- how many allocations were asked for
  pub allocations : ℕ
  pub output : List ℕ

-- what an operation comes to
pub data Done (A : Type 0) : Type 0 where
  done : A → Machine → Done A
  stopped : Stop → Machine → Done A

-- ---- variables

-- among those of the program or of the function
abbrev pub binding_of : Variable → Machine → Option Binding
binding_of (name.Global place) machine = slice_get machine.globals place
binding_of (name.Local place) machine = slice_get machine.locals place

-- what a slot holds
abbrev pub value_of_slot : Option Binding → Option Value
value_of_slot None = None
value_of_slot (Some (slot value)) = value
value_of_slot (Some (object_at place)) = None

-- the machine with that value in the slot
abbrev pub with_value : Variable → Value → Machine → Machine
with_value (name.Global place) value machine = record machine { globals = slice_set machine.globals place (slot (Some value)) }
with_value (name.Local place) value machine = record machine { locals = slice_set machine.locals place (slot (Some value)) }

-- ---- objects

-- with other blocks
abbrev pub with_blocks : List Block → Machine → Machine
with_blocks blocks machine = record machine { blocks = blocks }

-- with another object of that number
abbrev pub with_object : ℕ → Object → Machine → Machine
with_object place its machine = record machine { objects = slice_set machine.objects place its }

-- with the next number
abbrev pub new_object : Storage → List Cell → Machine → Machine
new_object storage cells machine = record machine { objects = machine.objects ++ record { cells = cells; storage = storage } ∷ [] }

-- an object whose life has ended
abbrev pub ended_object : Object
ended_object = record { cells = []; storage = ended }

-- its life has ended
abbrev pub has_ended : Storage → Bool
has_ended permanent = false
has_ended automatic = false
has_ended allocated = false
has_ended ended = true

-- it belongs to a call
abbrev pub is_automatic : Storage → Bool
is_automatic permanent = false
is_automatic automatic = true
is_automatic allocated = false
is_automatic ended = false

-- a routine made it
abbrev pub is_allocated : Storage → Bool
is_allocated permanent = false
is_allocated automatic = false
is_allocated allocated = true
is_allocated ended = false

-- its bytes, if they count
abbrev pub bytes_if : Bool → Object → ℕ
bytes_if true its = length its.cells
bytes_if false its = 0

-- the bytes of those objects that are so
abbrev pub bytes_where : (Storage → Bool) → List Object → ℕ
bytes_where is [] = 0
bytes_where is (its ∷ rest) = bytes_if (is its.storage) its + bytes_where is rest

-- one object more of so many bytes has room: live bytes of allocated objects are at most 16777216, and objects at most 4294967295
abbrev pub has_room_for : ℕ → Machine → Bool
has_room_for size machine =
    nat_le (bytes_where is_allocated machine.objects + size) 16777216 && nat_le (length machine.objects + 1) 4294967295

-- ---- what operations come to

-- what follows, unless there is a stop
abbrev pub and_then : {A B : Type 0} → Done A → (A → Machine → Done B) → Done B
and_then (done it machine) next = next it machine
and_then (stopped why machine) next = stopped why machine
