-- What a routine with a role gives is of the kind of the type with which it is declared, and it changes no variable.
--     role_to                      each role
use Rattle.std.proofs.Common.{◌≡◌, ℕ, Bool, true, false, List, [], ◌∷◌, map, Option, Some, None, Result, Ok, Err, IsTrue, is_some, ◌||◌, refl, sym, subst, if◌then◌else◌}
use Rattle.hs_code.specs.Stacks.{Kind, kind_of, kind_by}
use Rattle.hs_code.specs.Stacks as kind
use Rattle.hs_heap.specs.Blocks.{Block, disposed, size_of, resized, with_lock, with_purge_bit, state_of, with_state, reallocated, has_life, emptied}
use Rattle.hs_heap.specs.Memory.{block_at}
use Rattle.hs_heap.specs.declared.cell.Pointer.{Pointer}
use Rattle.hs_heap.specs.declared.cell.Pointer.TheVariants.{Nil, Fixed, Handle, Spot}
use Rattle.hs_heap.specs.declared.stop.HeapStop.{HeapStop}
use Rattle.hs_kinds.specs.Kinds.{IsOfKind, AreOfKinds}
use Rattle.hs_kinds.specs.Operations.{DoneTo, IsSo, Gives, unless_to, cells_so, by_one, by_two}
use Rattle.hs_lowering.specs.Laws.Kinds.{number_kinds, pointer_kinds}
use Rattle.hs_meaning.specs.Accesses.{cells_at}
use Rattle.hs_meaning.specs.Handles.{changed_by, changed_in, with_result, answer_by, if_granted, is_granted, asked, reshaped_by, reshaped_in, any_life, makes_block, makes_object, handle_if, object_if, with_block, with_object_if, disposed_object, size_for}
use Rattle.hs_meaning.specs.Machine.{Machine, Binding}
use Rattle.hs_meaning.specs.Operations.{as_kind, by_role, is_plain}
use Rattle.hs_meaning.specs.Roles.{role_stops, role_value, role_machine, state_in}
use Rattle.hs_meaning.specs.Values.{Value, number, pointer, state, structure, pointer_in}
use Rattle.hs_table.specs.declared.role.Role.{Role}
use Rattle.hs_table.specs.declared.role.Role.TheVariants as role
use Rattle.hs_tree.specs.Kinds.{number_kind, kind_of_row, pointed_of_row, is_struct_row, is_void_row, IsPointer, IsAnyNumber}
use Rattle.hs_tree.specs.Roles.{FitsRole, FitsNamedRole, FitsShapes, FitsPlain, GivesNothing, Shape, AreShaped}
use Rattle.hs_tree.specs.Roles as shape
use Rattle.hs_tree.specs.declared.function.Prototype.{Prototype}
use Rattle.hs_types.specs.TypeTables.{TypeTable, row_of}
use Rattle.hs_types.specs.declared.integer.Integer.{Integer}
use Rattle.hs_types.specs.declared.row.Row.{Row}
use Rattle.hs_types.specs.declared.row.Row.TheVariants as row
use Rattle.hs_types.specs.declared.row.TypeId.{TypeId}

-- ---- results by type

-- as `kind_of` has it
abbrev pub row_kind : Option Row → Kind
row_kind its = kind_by (is_some (pointed_of_row its)) (is_struct_row its)

-- nothing, or a number: 0
nothing_row : (its : Option Row) → IsTrue (is_void_row its || is_some (kind_of_row its)) → row_kind its ≡ kind.number
nothing_row None is = absurd cc
nothing_row (Some row.Void) is = refl
nothing_row (Some (row.Integer i)) is = refl
nothing_row (Some (row.Pointer of)) is = absurd cc
nothing_row (Some (row.Enumeration n)) is = refl
nothing_row (Some (row.Struct n)) is = absurd cc
nothing_row (Some (row.Array of length layout)) is = absurd cc
nothing_row (Some (row.OpenArray of)) is = absurd cc
nothing_row (Some (row.Function result parameters)) is = absurd cc

-- the kind of an argument of that shape
abbrev pub shape_kind : Shape → Kind
shape_kind shape.pointer = kind.pointer
shape_kind shape.number = kind.number

-- values of the types of parameters that are so shaped
pub shaped_in : (types : TypeTable) (shapes : List Shape) (ids : List TypeId) (values : List Value) → AreShaped types shapes ids
    → AreOfKinds (map (kind_of types) ids) values → AreOfKinds (map shape_kind shapes) values
shaped_in types [] [] values fit are = are
shaped_in types [] (id ∷ ids) values fit are = absurd fit
shaped_in types (its ∷ shapes) [] values fit are = absurd fit
shaped_in types (its ∷ shapes) (id ∷ ids) [] fit are = absurd are
shaped_in types (shape.pointer ∷ shapes) (id ∷ ids) (value ∷ values) fit are =
    (subst (λ k. IsOfKind k value) (pointer_kinds types id fit.0).0 are.0, shaped_in types shapes ids values fit.1 are.1)
shaped_in types (shape.number ∷ shapes) (id ∷ ids) (value ∷ values) fit are =
    (subst (λ k. IsOfKind k value) (number_kinds types id fit.0).0 are.0, shaped_in types shapes ids values fit.1 are.1)

-- no value
pub by_none : (Q : List Value → Type 0) (values : List Value) → AreOfKinds [] values → Q [] → Q values
by_none Q [] are each = each
by_none Q (a ∷ values) are each = absurd are

-- three values
pub by_three : (Q : List Value → Type 0) (k l n : Kind) (values : List Value) → AreOfKinds (k ∷ l ∷ n ∷ []) values
    → ((a b c : Value) → Q (a ∷ b ∷ c ∷ [])) → Q values
by_three Q k l n [] are each = absurd are
by_three Q k l n (a ∷ []) are each = absurd are.1
by_three Q k l n (a ∷ b ∷ []) are each = absurd are.1.1
by_three Q k l n (a ∷ b ∷ c ∷ []) are each = each a b c
by_three Q k l n (a ∷ b ∷ c ∷ d ∷ values) are each = absurd are.1.1.1

-- a handle to a new block, or nil
pub handle_is : (b : Bool) (machine : Machine) → IsOfKind kind.pointer (handle_if b machine)
handle_is true machine = tt
handle_is false machine = tt

-- a pointer to a new object, or nil
pub object_is : (b : Bool) (machine : Machine) → IsOfKind kind.pointer (object_if b machine)
object_is true machine = tt
object_is false machine = tt

module _ (P : List Binding → List Binding → Type 0) (types : TypeTable) where
  -- the same, where the table of types is known
  shaped : (shapes : List Shape) (ids : List TypeId) (values : List Value) → AreShaped types shapes ids
      → AreOfKinds (map (kind_of types) ids) values → AreOfKinds (map shape_kind shapes) values
  shaped shapes ids values fit are = shaped_in types shapes ids values fit are

  -- a converted number is one
  pub as_number : (i : Option Integer) (value : Value) → IsOfKind kind.number value → IsOfKind kind.number (as_kind i value)
  as_number None (number bits) is = tt
  as_number (Some i) (number bits) is = tt
  as_number None (pointer its) is = is
  as_number (Some i) (pointer its) is = is
  as_number None (state byte) is = is
  as_number (Some i) (state byte) is = is
  as_number None (structure cells) is = is
  as_number (Some i) (structure cells) is = is

  -- a pointer stays one
  pub as_pointer : (i : Option Integer) (value : Value) → IsOfKind kind.pointer value → IsOfKind kind.pointer (as_kind i value)
  as_pointer None (number bits) is = absurd is
  as_pointer (Some i) (number bits) is = absurd is
  as_pointer None (pointer its) is = is
  as_pointer (Some i) (pointer its) is = is
  as_pointer None (state byte) is = is
  as_pointer (Some i) (state byte) is = is
  as_pointer None (structure cells) is = is
  as_pointer (Some i) (structure cells) is = is

  -- ---- what roles leave

  -- a block is changed, or is not
  result_so : (block : ℕ) (its : Result Block HeapStop) (machine : Machine) → IsSo P machine → IsSo P (with_result block its machine)
  result_so block (Ok after) machine so = so
  result_so block (Err why) machine so = so

  -- the same of a block that may be there
  in_so : (f : Block → Result Block HeapStop) (block : ℕ) (its : Option Block) (machine : Machine) → IsSo P machine
      → IsSo P (changed_in f block its machine)
  in_so f block None machine so = so
  in_so f block (Some before) machine so = result_so block (f before) machine so

  -- the same of the block of a handle
  changed_so : (f : Block → Result Block HeapStop) (its : Pointer) (machine : Machine) → IsSo P machine → IsSo P (changed_by f its machine)
  changed_so f Nil machine so = so
  changed_so f (Fixed object at) machine so = so
  changed_so f (Spot its) machine so = so
  changed_so f (Handle block) machine so = in_so f block (block_at machine.blocks block) machine so

  -- one of two machines
  either_so : (b : Bool) (x y : Machine) → IsSo P x → IsSo P y → IsSo P (if b then x else y)
  either_so true x y first second = first
  either_so false x y first second = second

  -- a block that gets another size
  shaped_in_so : (lives : Block → Bool) (f : Block → Result Block HeapStop) (block : ℕ) (its : Option Block) (machine : Machine) → IsSo P machine
      → IsSo P (reshaped_in lives f block its machine)
  shaped_in_so lives f block None machine so = so
  shaped_in_so lives f block (Some before) machine so =
      either_so _ (with_result block (f before) machine) machine (result_so block (f before) machine so) so

  -- the same of the block of a handle
  shaped_so : (lives : Block → Bool) (f : Block → Result Block HeapStop) (its : Pointer) (machine : Machine) → IsSo P machine
      → IsSo P (reshaped_by lives f its machine)
  shaped_so lives f Nil machine so = so
  shaped_so lives f (Fixed object at) machine so = so
  shaped_so lives f (Spot its) machine so = so
  shaped_so lives f (Handle block) machine so = shaped_in_so lives f block (block_at machine.blocks block) machine so

  -- memory that is granted or not
  granted_so : (value : Value) (change : Machine → Machine) (machine : Machine) → IsSo P (change (asked machine)) → IsSo P (asked machine)
      → IsSo P (if_granted value change machine)
  granted_so value change machine changed so = either_so (is_granted value machine) (change (asked machine)) (asked machine) changed so

  -- a new block
  block_so : (b : Bool) (size : ℕ) (machine : Machine) → IsSo P machine → IsSo P (with_block b size machine)
  block_so true size machine so = so
  block_so false size machine so = so

  -- a new object
  object_so : (b : Bool) (size : ℕ) (machine : Machine) → IsSo P machine → IsSo P (with_object_if b size machine)
  object_so true size machine so = so
  object_so false size machine so = so

  -- an object that ends
  ended_so : (its : Pointer) (machine : Machine) → IsSo P machine → IsSo P (disposed_object its machine)
  ended_so Nil machine so = so
  ended_so (Fixed object at) machine so = so
  ended_so (Handle block) machine so = so
  ended_so (Spot its) machine so = so

  -- ---- roles

  module _ (prototype : Prototype) (machine : Machine) (so : IsSo P machine) where
    -- it gives that, and leaves that
    role_done : (its : Role) (k : Kind) (values : List Value) → kind_of types prototype.result ≡ k
        → IsOfKind k (as_kind (number_kind types prototype.result) (role_value its values machine)) → IsSo P (role_machine its values machine)
        → DoneTo (Gives P (kind_of types prototype.result)) (by_role types its prototype values machine)
    role_done its k values is of after =
        unless_to P (Gives P (kind_of types prototype.result)) (role_stops its values machine)
        (as_kind (number_kind types prototype.result) (role_value its values machine)) (role_machine its values machine) machine
        (subst (λ a. IsOfKind a (as_kind (number_kind types prototype.result) (role_value its values machine))) (sym is) of, after)

    -- a routine that gives nothing gives 0, a number
    nothing : GivesNothing types prototype.result → kind_of types prototype.result ≡ kind.number
    nothing is = nothing_row (row_of types prototype.result) is

    -- 0 is a number in each type
    zero_is : IsOfKind kind.number (as_kind (number_kind types prototype.result) (number 0))
    zero_is = as_number (number_kind types prototype.result) (number 0) tt

    -- what it comes to
    abbrev RoleDone : Role → List Value → Type 0
    RoleDone its values = DoneTo (Gives P (kind_of types prototype.result)) (by_role types its prototype values machine)

    -- it is declared with a number
    a_number : IsAnyNumber types prototype.result → kind_of types prototype.result ≡ kind.number
    a_number is = (number_kinds types prototype.result is).0

    -- it is declared with a pointer
    a_pointer : IsPointer types prototype.result → kind_of types prototype.result ≡ kind.pointer
    a_pointer is = (pointer_kinds types prototype.result is).0

    -- with as many arguments as it has
    pub role_to : (its : Role) (fills : ℕ) → is_plain its ≡ false → FitsNamedRole types its fills prototype → (values : List Value)
        → AreOfKinds (map (kind_of types) prototype.parameters) values → RoleDone its values
    role_to role.NewHandle fills is fit values are =
        by_one (RoleDone role.NewHandle) kind.number values (shaped (shape.number ∷ []) prototype.parameters values fit.0 are)
        (λ a of. role_done role.NewHandle kind.pointer (a ∷ []) (a_pointer fit.1)
        (as_pointer (number_kind types prototype.result) (handle_if (makes_block a machine) machine) (handle_is (makes_block a machine) machine))
        (block_so (makes_block a machine) (size_for a) (asked machine) so))
    role_to role.NewPtr fills is fit values are =
        by_one (RoleDone role.NewPtr) kind.number values (shaped (shape.number ∷ []) prototype.parameters values fit.0 are)
        (λ a of. role_done role.NewPtr kind.pointer (a ∷ []) (a_pointer fit.1)
        (as_pointer (number_kind types prototype.result) (object_if (makes_object a machine) machine) (object_is (makes_object a machine) machine))
        (object_so (makes_object a machine) (size_for a) (asked machine) so))
    role_to role.GetSize fills is fit values are =
        by_one (RoleDone role.GetSize) kind.pointer values (shaped (shape.pointer ∷ []) prototype.parameters values fit.0 are)
        (λ a of. role_done role.GetSize kind.number (a ∷ []) (a_number fit.1)
        (as_number (number_kind types prototype.result) (number (answer_by size_of (pointer_in a) machine)) tt) so)
    role_to role.GetState fills is fit values are =
        by_one (RoleDone role.GetState) kind.pointer values (shaped (shape.pointer ∷ []) prototype.parameters values fit.0 are)
        (λ a of. role_done role.GetState kind.number (a ∷ []) (a_number fit.1)
        (as_number (number_kind types prototype.result) (state (answer_by state_of (pointer_in a) machine)) tt) so)
    role_to role.Putchar fills is fit values are =
        by_one (RoleDone role.Putchar) kind.number values (shaped (shape.number ∷ []) prototype.parameters values fit.0 are)
        (λ a of. role_done role.Putchar kind.number (a ∷ []) (a_number fit.1)
        (as_number (number_kind types prototype.result) (role_value role.Putchar (a ∷ []) machine) tt) so)
    role_to role.Getchar fills is fit values are =
        by_none (RoleDone role.Getchar) values (shaped [] prototype.parameters values fit.0 are)
        (role_done role.Getchar kind.number [] (a_number fit.1)
        (as_number (number_kind types prototype.result) (role_value role.Getchar [] machine) tt) so)
    role_to role.DisposeHandle fills is fit values are =
        by_one (RoleDone role.DisposeHandle) kind.pointer values (shaped (shape.pointer ∷ []) prototype.parameters values fit.0 are)
        (λ a of. role_done role.DisposeHandle kind.number (a ∷ []) (nothing fit.1) zero_is (changed_so disposed (pointer_in a) machine so))
    role_to role.Lock fills is fit values are =
        by_one (RoleDone role.Lock) kind.pointer values (shaped (shape.pointer ∷ []) prototype.parameters values fit.0 are)
        (λ a of. role_done role.Lock kind.number (a ∷ []) (nothing fit.1) zero_is (changed_so (with_lock true) (pointer_in a) machine so))
    role_to role.Unlock fills is fit values are =
        by_one (RoleDone role.Unlock) kind.pointer values (shaped (shape.pointer ∷ []) prototype.parameters values fit.0 are)
        (λ a of. role_done role.Unlock kind.number (a ∷ []) (nothing fit.1) zero_is (changed_so (with_lock false) (pointer_in a) machine so))
    role_to role.Purge fills is fit values are =
        by_one (RoleDone role.Purge) kind.pointer values (shaped (shape.pointer ∷ []) prototype.parameters values fit.0 are)
        (λ a of. role_done role.Purge kind.number (a ∷ []) (nothing fit.1) zero_is (changed_so (with_purge_bit true) (pointer_in a) machine so))
    role_to role.NoPurge fills is fit values are =
        by_one (RoleDone role.NoPurge) kind.pointer values (shaped (shape.pointer ∷ []) prototype.parameters values fit.0 are)
        (λ a of. role_done role.NoPurge kind.number (a ∷ []) (nothing fit.1) zero_is (changed_so (with_purge_bit false) (pointer_in a) machine so))
    role_to role.Empty fills is fit values are =
        by_one (RoleDone role.Empty) kind.pointer values (shaped (shape.pointer ∷ []) prototype.parameters values fit.0 are)
        (λ a of. role_done role.Empty kind.number (a ∷ []) (nothing fit.1) zero_is (changed_so emptied (pointer_in a) machine so))
    role_to role.DisposePtr fills is fit values are =
        by_one (RoleDone role.DisposePtr) kind.pointer values (shaped (shape.pointer ∷ []) prototype.parameters values fit.0 are)
        (λ a of. role_done role.DisposePtr kind.number (a ∷ []) (nothing fit.1) zero_is (ended_so (pointer_in a) machine so))
    role_to role.SetSize fills is fit values are =
        by_two (RoleDone role.SetSize) kind.pointer kind.number values (shaped (shape.pointer ∷ shape.number ∷ []) prototype.parameters values fit.0 are)
        (λ a b of too. role_done role.SetSize kind.number (a ∷ b ∷ []) (nothing fit.1) zero_is
        (granted_so b (reshaped_by any_life (resized (size_for b)) (pointer_in a)) machine
        (shaped_so any_life (resized (size_for b)) (pointer_in a) (asked machine) so) so))
    role_to role.Realloc fills is fit values are =
        by_two (RoleDone role.Realloc) kind.pointer kind.number values (shaped (shape.pointer ∷ shape.number ∷ []) prototype.parameters values fit.0 are)
        (λ a b of too. role_done role.Realloc kind.number (a ∷ b ∷ []) (nothing fit.1) zero_is
        (granted_so b (reshaped_by has_life (reallocated (size_for b)) (pointer_in a)) machine
        (shaped_so has_life (reallocated (size_for b)) (pointer_in a) (asked machine) so) so))
    role_to role.SetState fills is fit values are =
        by_two (RoleDone role.SetState) kind.pointer kind.number values (shaped (shape.pointer ∷ shape.number ∷ []) prototype.parameters values fit.0 are)
        (λ a b of too. role_done role.SetState kind.number (a ∷ b ∷ []) (nothing fit.1) zero_is
        (changed_so (with_state (state_in b)) (pointer_in a) machine so))
    role_to role.BlockMove fills is fit values are =
        by_three (RoleDone role.BlockMove) kind.pointer kind.pointer kind.number values
        (shaped (shape.pointer ∷ shape.pointer ∷ shape.number ∷ []) prototype.parameters values fit.0 are)
        (λ a b c. role_done role.BlockMove kind.number (a ∷ b ∷ c ∷ []) (nothing fit.1) zero_is
        (cells_so P (pointer_in b) (cells_at (pointer_in a) (size_for c) machine) machine so))
    role_to role.Plain fills is fit values are = absurd cc
