-- What operations on values give is of its kind, and of the variables only a slot that is set changes.
--     DoneTo Q its                 what an operation comes to, if it gives something
--     Gives kind P                 a value of that kind, and a machine whose variables are so
--     get_gives, set_gives ..      each operation
use Rattle.std.proofs.Common.{ℤ, ℕ, Bool, true, false, ◌&&◌, List, [], ◌∷◌, ◌++◌, map, slice_get, Option, Some, None, if◌then◌else◌}
use Rattle.std.specs.List.{list_any, list_all}
use Rattle.hs_code.specs.Stacks.{Kind}
use Rattle.hs_code.specs.Stacks as kind
use Rattle.hs_heap.specs.Blocks.{Block, master_of}
use Rattle.hs_heap.specs.Memory.{block_at}
use Rattle.hs_heap.specs.declared.cell.Cell.{Cell}
use Rattle.hs_heap.specs.declared.cell.Cell.TheVariants.{State}
use Rattle.hs_heap.specs.declared.cell.Pointer.{Pointer}
use Rattle.hs_heap.specs.declared.cell.Pointer.TheVariants.{Nil, Fixed, Handle, Spot}
use Rattle.hs_heap.specs.declared.cell.Spot as spot
use Rattle.hs_kinds.specs.Kinds.{IsOfKind, AreOfKinds}
use Rattle.hs_meaning.specs.Accesses.{by_stop, unless_stopped, put_in_object, put_in_block, with_cells_at, use_stops, cells_at, master_pointer, master_in, cells_loaded, loaded, stored}
use Rattle.hs_meaning.specs.Machine.{Machine, Object, Binding, Done, done, stopped, and_then}
use Rattle.hs_meaning.specs.Operations as operation
use Rattle.hs_meaning.specs.Operations.{Operation, operate, operation_stops, operation_value, operation_machine}
use Rattle.hs_meaning.specs.Settings.{Setting}
use Rattle.hs_meaning.specs.Stops.{Stops, stops_if, first_stop, heap_stop}
use Rattle.hs_meaning.specs.Values.{Value, number, pointer, state, structure, Access, of_number, of_pointer, of_struct, length_of, cells_for, store_stop, is_byte, byte_in, bits_after, number_in, is_undefined, pointer_at, with_pointer, held, or_nothing, value_in, asks_values, is_missing, load_stops}
use Rattle.hs_meaning.specs.declared.outcome.Stop.{Stop}
use Rattle.hs_meaning.specs.declared.outcome.Stop.TheVariants as stop
use Rattle.hs_types.specs.Integers.{converted}
use Rattle.hs_types.specs.declared.integer.Integer.{Integer}

-- what an operation comes to, if it gives something
abbrev pub DoneTo : {A : Type 0} → (A → Machine → Type 0) → Done A → Type 0
DoneTo Q (done it machine) = Q it machine
DoneTo Q (stopped why machine) = Unit {0}

-- of what kind a load or a store is
abbrev pub kind_reached : Access → Kind
kind_reached (of_number its) = kind.number
kind_reached (of_pointer class) = kind.pointer
kind_reached (of_struct size) = kind.structure

-- ---- values of those kinds

-- one value
pub by_one : (Q : List Value → Type 0) (k : Kind) (values : List Value) → AreOfKinds (k ∷ []) values → ((a : Value) → IsOfKind k a → Q (a ∷ [])) → Q values
by_one Q k [] are each = absurd are
by_one Q k (a ∷ []) are each = each a are.0
by_one Q k (a ∷ b ∷ values) are each = absurd are.1

-- two values
pub by_two : (Q : List Value → Type 0) (k l : Kind) (values : List Value) → AreOfKinds (k ∷ l ∷ []) values
    → ((a b : Value) → IsOfKind k a → IsOfKind l b → Q (a ∷ b ∷ [])) → Q values
by_two Q k l [] are each = absurd are
by_two Q k l (a ∷ []) are each = absurd are.1
by_two Q k l (a ∷ b ∷ []) are each = each a b are.0 are.1.0
by_two Q k l (a ∷ b ∷ c ∷ values) are each = absurd are.1.1

-- ---- machines whose variables are so

module _ (P : List Binding → List Binding → Type 0) where
  -- of a machine
  abbrev pub IsSo : Machine → Type 0
  IsSo machine = P machine.globals machine.locals

  -- a value of that kind
  abbrev pub Gives : Kind → Value → Machine → Type 0
  Gives k value machine = IsOfKind k value × IsSo machine

  -- if it goes on
  pub by_stop_to : {A : Type 0} → (Q : A → Machine → Type 0) (why : Option Stop) (it : A) (after before : Machine) → Q it after
      → DoneTo Q (by_stop why it after before)
  by_stop_to Q None it after before is = is
  by_stop_to Q (Some why) it after before is = tt

  -- if no test stops it
  pub unless_to : {A : Type 0} → (Q : A → Machine → Type 0) (stops : Stops) (it : A) (after before : Machine) → Q it after
      → DoneTo Q (unless_stopped stops it after before)
  unless_to Q stops it after before is = by_stop_to Q (first_stop stops) it after before is

  -- one after the other
  pub then_to : {A B : Type 0} → (Q : A → Machine → Type 0) (R : B → Machine → Type 0) (its : Done A) (next : A → Machine → Done B) → DoneTo Q its
      → ((a : A) (machine : Machine) → Q a machine → DoneTo R (next a machine)) → DoneTo R (and_then its next)
  then_to Q R (done it machine) next is follows = follows it machine is
  then_to Q R (stopped why machine) next is follows = tt

  -- ---- loads and stores

  -- cells put into an object
  object_so : (object : ℕ) (at : ℤ) (cells : List Cell) (machine : Machine) (its : Option Object) → IsSo machine
      → IsSo (put_in_object object at cells machine its)
  object_so object at cells machine None is = is
  object_so object at cells machine (Some its) is = is

  -- cells put into a block
  block_so : (its : spot.Spot) (cells : List Cell) (machine : Machine) (block : Option Block) → IsSo machine → IsSo (put_in_block its cells machine block)
  block_so its cells machine None is = is
  block_so its cells machine (Some block) is = is

  -- cells put anywhere
  pub cells_so : (its : Pointer) (cells : List Cell) (machine : Machine) → IsSo machine → IsSo (with_cells_at its cells machine)
  cells_so Nil cells machine is = is
  cells_so (Handle block) cells machine is = is
  cells_so (Fixed object at) cells machine is = object_so object at cells machine (slice_get machine.objects object) is
  cells_so (Spot its) cells machine is = block_so its cells machine (block_at machine.blocks its.block) is

  -- what was held
  abbrev pub IfHeld : Kind → Option Value → Type 0
  IfHeld k None = Unit {0}
  IfHeld k (Some value) = IsOfKind k value

  -- one of two
  either_held : (k : Kind) (b : Bool) (x y : Option Value) → IfHeld k x → IfHeld k y → IfHeld k (if b then x else y)
  either_held k true x y first second = first
  either_held k false x y first second = second

  -- what cells hold as a number
  number_held : (its : Integer) (cells : List Cell) → IfHeld kind.number (number_in its cells)
  number_held its (State byte ∷ []) = tt
  number_held its cells =
      either_held kind.number (list_all is_byte cells) (Some (number (converted its (bits_after 0 (map byte_in cells))))) None tt tt

  -- as a pointer
  pointer_held : (its : Option Pointer) → IfHeld kind.pointer (with_pointer its)
  pointer_held None = tt
  pointer_held (Some its) = tt

  -- as what is loaded
  kind_held : (access : Access) (cells : List Cell) → IfHeld (kind_reached access) (held access cells)
  kind_held (of_number its) cells = number_held its cells
  kind_held (of_pointer class) cells = pointer_held (pointer_at class cells)
  kind_held (of_struct size) cells = tt

  -- a value that is missing stops the load
  missing_to : (k : Kind) (b : Bool) (its : Option Value) (machine : Machine) → IfHeld k its → IsSo machine
      → DoneTo (Gives k) (unless_stopped (stops_if b stop.Undefined ∷ stops_if (is_missing its) stop.BadLoad ∷ []) (or_nothing its) machine machine)
  missing_to k true its machine is so = tt
  missing_to k false None machine is so = tt
  missing_to k false (Some value) machine is so = (is, so)

  -- after tests that come first
  after_stops : {A : Type 0} → (Q : A → Machine → Type 0) (first rest : Stops) (it : A) (after before : Machine)
      → DoneTo Q (unless_stopped rest it after before) → DoneTo Q (unless_stopped (first ++ rest) it after before)
  after_stops Q [] rest it after before is = is
  after_stops Q (None ∷ first) rest it after before is = after_stops Q first rest it after before is
  after_stops Q (Some why ∷ first) rest it after before is = tt

  -- a load of cells
  cells_loaded_to : (access : Access) (its : Pointer) (machine : Machine) → IsSo machine
      → DoneTo (Gives (kind_reached access)) (cells_loaded access its machine)
  cells_loaded_to access its machine so =
      after_stops (Gives (kind_reached access)) (use_stops its (length_of access) machine)
      (load_stops access (cells_at its (length_of access) machine)) (value_in access (cells_at its (length_of access) machine)) machine machine
      (missing_to (kind_reached access) (asks_values access && list_any is_undefined (cells_at its (length_of access) machine))
      (held access (cells_at its (length_of access) machine)) machine (kind_held access (cells_at its (length_of access) machine)) so)

  -- a load of a master pointer
  master_to : (n : ℕ) (machine : Machine) (block : Option Block) → IsSo machine → DoneTo (Gives kind.pointer) (master_in n machine block)
  master_to n machine None so = tt
  master_to n machine (Some block) so =
      unless_to (Gives kind.pointer) (heap_stop (master_of n block) ∷ []) (pointer (master_pointer (master_of n block))) machine machine (tt, so)

  -- a load
  pub loaded_to : (access : Access) (its : Pointer) (machine : Machine) → IsSo machine → DoneTo (Gives (kind_reached access)) (loaded access its machine)
  loaded_to (of_pointer class) (Handle n) machine so = master_to n machine (block_at machine.blocks n) so
  loaded_to (of_pointer class) Nil machine so = cells_loaded_to (of_pointer class) Nil machine so
  loaded_to (of_pointer class) (Fixed object at) machine so = cells_loaded_to (of_pointer class) (Fixed object at) machine so
  loaded_to (of_pointer class) (Spot its) machine so = cells_loaded_to (of_pointer class) (Spot its) machine so
  loaded_to (of_number i) its machine so = cells_loaded_to (of_number i) its machine so
  loaded_to (of_struct size) its machine so = cells_loaded_to (of_struct size) its machine so

  -- a store
  pub stored_to : (access : Access) (its : Pointer) (value : Value) (k : Kind) (machine : Machine) → IsOfKind k value → IsSo machine
      → DoneTo (Gives k) (stored access its value machine)
  stored_to access its value k machine is so =
      unless_to (Gives k) (store_stop access value ∷ use_stops its (length_of access) machine) value
      (with_cells_at its (cells_for access value) machine) machine (is, cells_so its (cells_for access value) machine so)

  -- ---- each operation but those on slots and routines

  -- it takes such values, and gives such a one
  abbrev pub Turns : Setting → Operation → List Kind → Kind → Machine → Type 0
  Turns setting its wanted left machine = (values : List Value) → AreOfKinds wanted values → DoneTo (Gives left) (operate setting its values machine)

  module _ (setting : Setting) (machine : Machine) (so : IsSo machine) where
    -- what it gives whatever its operands are
    plainly : (its : Operation) (values : List Value) (k : Kind) → IsOfKind k (operation_value its values machine)
        → IsSo (operation_machine its values machine)
        → DoneTo (Gives k) (unless_stopped (operation_stops its values machine) (operation_value its values machine)
        (operation_machine its values machine) machine)
    plainly its values k is after =
        unless_to (Gives k) (operation_stops its values machine) (operation_value its values machine) (operation_machine its values machine) machine (is, after)

    -- a load takes a pointer
    pub load_turns : (access : Access) → Turns setting (operation.load access) (kind.pointer ∷ []) (kind_reached access) machine
    load_turns access [] are = absurd are
    load_turns access (number bits ∷ rest) are = absurd are.0
    load_turns access (pointer its ∷ []) are = loaded_to access its machine so
    load_turns access (pointer its ∷ b ∷ rest) are = absurd are.1
    load_turns access (state byte ∷ rest) are = absurd are.0
    load_turns access (structure cells ∷ rest) are = absurd are.0

    -- a store takes a pointer and a value
    pub store_turns : (access : Access) (k : Kind) → Turns setting (operation.store access) (kind.pointer ∷ k ∷ []) k machine
    store_turns access k [] are = absurd are
    store_turns access k (a ∷ []) are = absurd are.1
    store_turns access k (number bits ∷ b ∷ rest) are = absurd are.0
    store_turns access k (pointer its ∷ value ∷ []) are = stored_to access its value k machine are.1.0 so
    store_turns access k (pointer its ∷ value ∷ c ∷ rest) are = absurd are.1.1
    store_turns access k (state byte ∷ b ∷ rest) are = absurd are.0
    store_turns access k (structure cells ∷ b ∷ rest) are = absurd are.0

    -- a conversion
    pub convert_turns : (its : Integer) → Turns setting (operation.convert its) (kind.number ∷ []) kind.number machine
    convert_turns its values are = by_one (λ all. DoneTo (Gives kind.number) (operate setting (operation.convert its) all machine)) kind.number values are each
      where
        each : (a : Value) → IsOfKind kind.number a → DoneTo (Gives kind.number) (operate setting (operation.convert its) (a ∷ []) machine)
        each (number bits) is = (tt, so)
        each (pointer p) is = absurd is
        each (state byte) is = (tt, so)
        each (structure cells) is = absurd is

    -- a sign or a complement
    pub sign_turns : (its : _) → Turns setting (operation.sign its) (kind.number ∷ []) kind.number machine
    sign_turns its values are =
        by_one (λ all. DoneTo (Gives kind.number) (operate setting (operation.sign its) all machine)) kind.number values are
        (λ a is. plainly (operation.sign its) (a ∷ []) kind.number tt so)

    -- a negation
    pub not_turns : Turns setting operation.not_ (kind.number ∷ []) kind.number machine
    not_turns values are =
        by_one (λ all. DoneTo (Gives kind.number) (operate setting operation.not_ all machine)) kind.number values are
        (λ a is. plainly operation.not_ (a ∷ []) kind.number tt so)

    -- arithmetic
    pub arithmetic_turns : (its : _) (i : Integer) → Turns setting (operation.arithmetic its i) (kind.number ∷ kind.number ∷ []) kind.number machine
    arithmetic_turns its i values are =
        by_two (λ all. DoneTo (Gives kind.number) (operate setting (operation.arithmetic its i) all machine)) kind.number kind.number values are
        (λ a b is too. plainly (operation.arithmetic its i) (a ∷ b ∷ []) kind.number tt so)

    -- a comparison of numbers
    pub comparison_turns : (its : _) (i : Integer) → Turns setting (operation.comparison its i) (kind.number ∷ kind.number ∷ []) kind.number machine
    comparison_turns its i values are =
        by_two (λ all. DoneTo (Gives kind.number) (operate setting (operation.comparison its i) all machine)) kind.number kind.number values are
        (λ a b is too. plainly (operation.comparison its i) (a ∷ b ∷ []) kind.number tt so)

    -- a test for nil
    pub is_nil_turns : Turns setting operation.is_nil (kind.pointer ∷ []) kind.number machine
    is_nil_turns values are =
        by_one (λ all. DoneTo (Gives kind.number) (operate setting operation.is_nil all machine)) kind.pointer values are
        (λ a is. plainly operation.is_nil (a ∷ []) kind.number tt so)

    -- a comparison of pointers
    pub compare_turns : (its : _) → Turns setting (operation.compare its) (kind.pointer ∷ kind.pointer ∷ []) kind.number machine
    compare_turns its values are =
        by_two (λ all. DoneTo (Gives kind.number) (operate setting (operation.compare its) all machine)) kind.pointer kind.pointer values are
        (λ a b is too. plainly (operation.compare its) (a ∷ b ∷ []) kind.number tt so)

    -- a difference of pointers
    pub difference_turns : (size : ℕ) → Turns setting (operation.difference size) (kind.pointer ∷ kind.pointer ∷ []) kind.number machine
    difference_turns size values are =
        by_two (λ all. DoneTo (Gives kind.number) (operate setting (operation.difference size) all machine)) kind.pointer kind.pointer values are
        (λ a b is too. plainly (operation.difference size) (a ∷ b ∷ []) kind.number tt so)

    -- the address of a member
    pub offset_turns : (bytes : ℕ) → Turns setting (operation.offset bytes) (kind.pointer ∷ []) kind.pointer machine
    offset_turns bytes values are =
        by_one (λ all. DoneTo (Gives kind.pointer) (operate setting (operation.offset bytes) all machine)) kind.pointer values are
        (λ a is. plainly (operation.offset bytes) (a ∷ []) kind.pointer tt so)

    -- a pointer and a number
    pub step_turns : (stride : _) → Turns setting (operation.step stride true) (kind.pointer ∷ kind.number ∷ []) kind.pointer machine
    step_turns stride values are =
        by_two (λ all. DoneTo (Gives kind.pointer) (operate setting (operation.step stride true) all machine)) kind.pointer kind.number values are
        (λ a b is too. plainly (operation.step stride true) (a ∷ b ∷ []) kind.pointer tt so)

    -- a number and a pointer
    pub step_back_turns : (stride : _) → Turns setting (operation.step stride false) (kind.number ∷ kind.pointer ∷ []) kind.pointer machine
    step_back_turns stride values are =
        by_two (λ all. DoneTo (Gives kind.pointer) (operate setting (operation.step stride false) all machine)) kind.number kind.pointer values are
        (λ a b is too. plainly (operation.step stride false) (a ∷ b ∷ []) kind.pointer tt so)
