-- Each pointer in memory stays of a class of the program (own).
--     AreListedIn count machine        variables and cells of a machine
--     IsOpListed                       an operation that is no routine, no call and no return; a store is through a class of the program
--     operate_listed                   operations that take values and leave one
--     ordinary_listed                  the step of such an operation
--     returned_listed                  a return
use Rattle.std.proofs.Common.{◌≡◌, ◌⊎◌, inl, inr, ℕ, zero, suc, ◌==◌, Bool, true, false, List, [], ◌∷◌, ◌++◌, map, slice_get, slice_set, Option, Some, None, refl, sym, ap, ◌∙◌, subst, if◌then◌else◌, ◌||◌}
use Rattle.std.proofs.lemmas.Option.{none-some, same_Some}
use Rattle.std.specs.List.{AllByRecursion, list_all}
use Rattle.hs_base.specs.Entries.{set_either}
use Rattle.hs_base.specs.declared.pos.Pos.{Pos}
use Rattle.hs_calls.specs.Calls.{Here, Wait, point_of, resumed}
use Rattle.hs_calls.specs.Stacks.{RanTo}
use Rattle.hs_code.specs.declared.op.Binary.TheVariants as binary
use Rattle.hs_code.specs.declared.op.Object.TheVariants as object
use Rattle.hs_code.specs.declared.op.Object.{Object}
use Rattle.hs_code.specs.declared.op.Op.TheVariants as op
use Rattle.hs_code.specs.declared.op.Op.{Op}
use Rattle.hs_code.specs.declared.op.Unary.TheVariants as unary
use Rattle.hs_code_run.specs.Codes.{CodeProgram, Point}
use Rattle.hs_code_run.specs.Steps.{access_of, address_at, below, brought, by_stack, case_for, holds, next_choice, on_top, onto, onto_if, onward, operates_if, picked, taken, under}
use Rattle.hs_heap.specs.Blocks.{Block, master_of}
use Rattle.hs_heap.specs.Memory.{block_at}
use Rattle.hs_heap.specs.declared.cell.Cell.TheVariants as cell
use Rattle.hs_heap.specs.declared.cell.Cell.{Cell}
use Rattle.hs_heap.specs.declared.cell.Pointer.TheVariants.{Nil, Fixed, Handle, Spot}
use Rattle.hs_heap.specs.declared.cell.Pointer.{Pointer}
use Rattle.hs_hiding.specs.Calls.{closed_same}
use Rattle.hs_hiding.specs.Holding.{OnDone, value_of}
use Rattle.hs_hiding.specs.Lists.{unless_so}
use Rattle.hs_meaning.specs.Accesses.{cells_at, cells_loaded, loaded, master_in, master_pointer, stored, use_stops, with_cells_at}
use Rattle.hs_meaning.specs.Evaluation.{address_of, decided_by, located, powers_of}
use Rattle.hs_meaning.specs.Frames.{closed}
use Rattle.hs_meaning.specs.Machine.{Binding, Done, Machine, binding_of, done, slot, object_at, stopped, value_of_slot, with_value}
use Rattle.hs_meaning.specs.Operations as operation
use Rattle.hs_meaning.specs.Operations.{Operation, converted_value, operate, operation_machine, operation_stops, operation_value}
use Rattle.hs_meaning.specs.Settings.{Setting}
use Rattle.hs_meaning.specs.Steps.{Ran, State, after_decision, decided, either, give, next_decision, ran_at, then_with, turn_from, used}
use Rattle.hs_meaning.specs.Stops.{heap_stop}
use Rattle.hs_meaning.specs.Values.{Access, Value, bytes_of, cells_for, length_of, load_stops, number, number_in, of_number, of_pointer, of_struct, or_nothing, pointer, pointer_at, state, store_stop, structure, value_in, with_pointer, is_byte, byte_in, bits_after}
use Rattle.hs_tracked.specs.Cells.{blocks_written, cells_read, cells_shifted, objects_ended, objects_written}
use Rattle.hs_tracked.specs.Restorable.{AreListed, IsListed, IsValueListed}
use Rattle.hs_tracked.specs.Starting.{IsAccessListed}
use Rattle.hs_tracked.specs.Storing.{values_written}
use Rattle.hs_tree.specs.declared.function.BoundRoutine.{BoundRoutine}
use Rattle.hs_tree.specs.declared.head.Variable.TheVariants as name
use Rattle.hs_tree.specs.declared.head.Variable.{Variable}
use Rattle.hs_truth.specs.Places.{all_below, all_taken}
use Rattle.hs_types.specs.Integers.{converted, integer_size}
use Rattle.hs_types.specs.declared.integer.Integer.{Integer}

module _ (count : ℕ) where
  -- values of variables, and cells
  pub record AreListedIn (machine : Machine) : Type 0 where
    pub variables : (x : Variable) (v : Value) → value_of machine x ≡ Some v → IsValueListed count v
    pub blocks : AllByRecursion (λ block. AllByRecursion (IsListed count) block.cells) machine.blocks
    pub objects : AllByRecursion (λ its. AllByRecursion (IsListed count) its.cells) machine.objects

  -- values of a stack
  abbrev pub AreValuesListed : List Value → Type 0
  AreValuesListed values = AllByRecursion (IsValueListed count) values

  pub in_machine : (here : Here) (machine : Machine) → AreListed count here machine → AreListedIn machine
  in_machine here machine are = record { variables = are.variables; blocks = are.blocks; objects = are.objects }

  pub in_call : (here : Here) (machine : Machine) → AreValuesListed here.stack → AreListedIn machine → AreListed count here machine
  in_call here machine values are = record { stack = values; variables = are.variables; blocks = are.blocks; objects = are.objects }

  -- ---- cells

  bytes_listed : (bytes : List ℕ) → AllByRecursion (IsListed count) (map cell.Byte bytes)
  bytes_listed [] = tt
  bytes_listed (byte ∷ bytes) = (tt, bytes_listed bytes)

  -- the cells that a value leaves
  pub cells_listed : (reached : Access) (v : Value) → IsAccessListed count reached → IsValueListed count v
      → AllByRecursion (IsListed count) (cells_for reached v)
  cells_listed (of_number kind) (number bits) one is = bytes_listed (bytes_of (integer_size kind) bits)
  cells_listed (of_number kind) (state byte) one is = (tt, tt)
  cells_listed (of_number kind) (pointer p) one is = tt
  cells_listed (of_number kind) (structure cells) one is = tt
  cells_listed (of_pointer class) (pointer p) one is = (one, (one, (one, (one, tt))))
  cells_listed (of_pointer class) (number bits) one is = tt
  cells_listed (of_pointer class) (state byte) one is = tt
  cells_listed (of_pointer class) (structure cells) one is = tt
  cells_listed (of_struct size) (structure cells) one is = is
  cells_listed (of_struct size) (number bits) one is = tt
  cells_listed (of_struct size) (state byte) one is = tt
  cells_listed (of_struct size) (pointer p) one is = tt

  -- a number that cells hold
  by_bytes : (z : Bool) (bits : ℕ) → IsValueListed count (or_nothing (if z then Some (number bits) else None))
  by_bytes true bits = tt
  by_bytes false bits = tt

  in_number : (kind : Integer) (cells : List Cell) → IsValueListed count (or_nothing (number_in kind cells))
  in_number kind (cell.State byte ∷ []) = tt
  in_number kind (cell.State byte ∷ c ∷ cells) =
      by_bytes (list_all is_byte (cell.State byte ∷ c ∷ cells)) (converted kind (bits_after 0 (map byte_in (cell.State byte ∷ c ∷ cells))))
  in_number kind [] = tt
  in_number kind (cell.Undefined ∷ cells) = tt
  in_number kind (cell.Part at its class ∷ cells) = tt
  in_number kind (cell.Byte byte ∷ cells) =
      by_bytes (list_all is_byte (cell.Byte byte ∷ cells)) (converted kind (bits_after 0 (map byte_in (cell.Byte byte ∷ cells))))

  in_pointer : (found : Option Pointer) → IsValueListed count (or_nothing (with_pointer found))
  in_pointer None = tt
  in_pointer (Some p) = tt

  in_cells : (reached : Access) (cells : List Cell) → AllByRecursion (IsListed count) cells → IsValueListed count (value_in reached cells)
  in_cells (of_number kind) cells are = in_number kind cells
  in_cells (of_pointer class) cells are = in_pointer (pointer_at class cells)
  in_cells (of_struct size) cells are = are

  -- ---- operations that take values and leave one

  -- a store is through a class of the program, and routines are apart
  abbrev pub IsOperationListed : Operation → Type 0
  IsOperationListed (operation.store reached) = IsAccessListed count reached
  IsOperationListed (operation.routine place) = ⊥
  IsOperationListed its = Unit {0}

  -- what an operation gives, and the machine after it
  abbrev pub GivesListed : Done Value → Type 0
  GivesListed its = OnDone (λ v after. IsValueListed count v × AreListedIn after) its

  loaded_listed : (reached : Access) (its : Pointer) (machine : Machine) → AreListedIn machine → GivesListed (loaded reached its machine)
  loaded_listed reached its machine are = by_access reached its
    where
      of_cells : (reached : Access) (its : Pointer) → GivesListed (cells_loaded reached its machine)
      of_cells reached its =
          unless_so (λ v after. IsValueListed count v × AreListedIn after)
          (use_stops its (length_of reached) machine ++ load_stops reached (cells_at its (length_of reached) machine))
          (value_in reached (cells_at its (length_of reached) machine)) machine machine (
            in_cells reached (cells_at its (length_of reached) machine)
                (cells_read (IsListed count) its (length_of reached) machine are.blocks are.objects),
            are,
          )

      of_master : (k : ℕ) (found : Option Block) → GivesListed (master_in k machine found)
      of_master k None = tt
      of_master k (Some block) =
          unless_so (λ v after. IsValueListed count v × AreListedIn after) (heap_stop (master_of k block) ∷ [])
          (pointer (master_pointer (master_of k block))) machine machine (tt, are)

      by_access : (reached : Access) (its : Pointer) → GivesListed (loaded reached its machine)
      by_access (of_pointer class) (Handle k) = of_master k (block_at machine.blocks k)
      by_access (of_pointer class) Nil = of_cells (of_pointer class) Nil
      by_access (of_pointer class) (Fixed object at) = of_cells (of_pointer class) (Fixed object at)
      by_access (of_pointer class) (Spot s) = of_cells (of_pointer class) (Spot s)
      by_access (of_number kind) its = of_cells (of_number kind) its
      by_access (of_struct size) its = of_cells (of_struct size) its

  -- other cells where a pointer reaches
  pub written_listed : (its : Pointer) (new : List Cell) (machine : Machine) → AllByRecursion (IsListed count) new → AreListedIn machine
      → AreListedIn (with_cells_at its new machine)
  written_listed its new machine is are =
      record {
        variables = λ x v holds. are.variables x v (sym (values_written its new machine x) ∙ holds);
        blocks = blocks_written (IsListed count) its new machine is are.blocks;
        objects = objects_written (IsListed count) its new machine is are.objects;
      }

  stored_listed : (reached : Access) (its : Pointer) (v : Value) (machine : Machine) → IsAccessListed count reached → IsValueListed count v
      → AreListedIn machine → GivesListed (stored reached its v machine)
  stored_listed reached its v machine one is are =
      unless_so (λ v after. IsValueListed count v × AreListedIn after) (store_stop reached v ∷ use_stops its (length_of reached) machine) v
      (with_cells_at its (cells_for reached v) machine) machine
      (is, written_listed its (cells_for reached v) machine (cells_listed reached v one is) are)

  -- a variable with another value
  binding_is : (found : Option Binding) (v : Value) → value_of_slot found ≡ Some v → found ≡ Some (slot (Some v))
  binding_is None v is = absurd (none-some v is)
  binding_is (Some (object_at place)) v is = absurd (none-some v is)
  binding_is (Some (slot None)) v is = absurd (none-some v is)
  binding_is (Some (slot (Some u))) v is = ap (λ it. Some (slot it)) is

  by_place : (bindings : List Binding) (place : ℕ) (new : Value) (i : ℕ) (v : Value) → IsValueListed count new
      → (value_of_slot (slice_get bindings i) ≡ Some v → IsValueListed count v)
      → value_of_slot (slice_get (slice_set bindings place (slot (Some new))) i) ≡ Some v → IsValueListed count v
  by_place bindings place new i v is old holds =
      on (set_either bindings place (slot (Some new)) i (slot (Some v))
      (binding_is (slice_get (slice_set bindings place (slot (Some new))) i) v holds))
    where
      same_value : slot (Some new) ≡ slot (Some v) → new ≡ v
      same_value so = cc

      on : (slice_get bindings i ≡ Some (slot (Some v))) ⊎ ((i ≡ place) × (slot (Some new) ≡ slot (Some v))) → IsValueListed count v
      on (inl so) = old (ap value_of_slot so)
      on (inr so) = subst (IsValueListed count) (same_value so.1) is

  pub set_listed : (x : Variable) (new : Value) (machine : Machine) → IsValueListed count new → AreListedIn machine → AreListedIn (with_value x new machine)
  set_listed (name.Global g) new machine is are = record { variables = by_variable; blocks = are.blocks; objects = are.objects }
    where
      by_variable : (y : Variable) (v : Value) → value_of (with_value (name.Global g) new machine) y ≡ Some v → IsValueListed count v
      by_variable (name.Global i) v holds = by_place machine.globals g new i v is (are.variables (name.Global i) v) holds
      by_variable (name.Local i) v holds = are.variables (name.Local i) v holds
  set_listed (name.Local l) new machine is are = record { variables = by_variable; blocks = are.blocks; objects = are.objects }
    where
      by_variable : (y : Variable) (v : Value) → value_of (with_value (name.Local l) new machine) y ≡ Some v → IsValueListed count v
      by_variable (name.Global i) v holds = are.variables (name.Global i) v holds
      by_variable (name.Local i) v holds = by_place machine.locals l new i v is (are.variables (name.Local i) v) holds

  slot_listed : (x : Variable) (machine : Machine) → AreListedIn machine → IsValueListed count (or_nothing (value_of_slot (binding_of x machine)))
  slot_listed x machine are = by_value (value_of_slot (binding_of x machine)) refl
    where
      by_value : (found : Option Value) → value_of_slot (binding_of x machine) ≡ found → IsValueListed count (or_nothing found)
      by_value None is = tt
      by_value (Some v) is = are.variables x v is

  converted_listed : (kind : Integer) (v : Value) → IsValueListed count v → IsValueListed count (converted_value kind v)
  converted_listed kind (number bits) is = tt
  converted_listed kind (pointer its) is = tt
  converted_listed kind (state byte) is = tt
  converted_listed kind (structure cells) is = is

  value_listed : (its : Operation) (values : List Value) (machine : Machine) → AreValuesListed values → AreListedIn machine
      → IsValueListed count (operation_value its values machine)
  value_listed (operation.get x) [] machine all are = slot_listed x machine are
  value_listed (operation.set x) (v ∷ []) machine all are = all.0
  value_listed (operation.convert kind) (v ∷ []) machine all are = converted_listed kind v all.0
  value_listed (operation.offset bytes) (v ∷ []) machine all are = tt
  value_listed (operation.step stride true) (v ∷ by ∷ []) machine all are = tt
  value_listed (operation.step stride false) (by ∷ v ∷ []) machine all are = tt
  value_listed (operation.sign o) (v ∷ []) machine all are = tt
  value_listed operation.not_ (v ∷ []) machine all are = tt
  value_listed (operation.arithmetic o kind) (a ∷ b ∷ []) machine all are = tt
  value_listed (operation.comparison o kind) (a ∷ b ∷ []) machine all are = tt
  value_listed operation.is_nil (v ∷ []) machine all are = tt
  value_listed (operation.compare o) (a ∷ b ∷ []) machine all are = tt
  value_listed (operation.difference size) (a ∷ b ∷ []) machine all are = tt
  value_listed its values machine all are = tt

  machine_listed : (its : Operation) (values : List Value) (machine : Machine) → AreValuesListed values → AreListedIn machine
      → AreListedIn (operation_machine its values machine)
  machine_listed (operation.set x) (v ∷ []) machine all are = set_listed x v machine all.0 are
  machine_listed its values machine all are = are

  pub operate_listed : (setting : Setting) (its : Operation) (values : List Value) (machine : Machine) → IsOperationListed its → AreValuesListed values
      → AreListedIn machine → GivesListed (operate setting its values machine)
  operate_listed setting (operation.load reached) (pointer p ∷ []) machine one all are = loaded_listed reached p machine are
  operate_listed setting (operation.store reached) (pointer p ∷ v ∷ []) machine one all are = stored_listed reached p v machine one all.1.0 are
  operate_listed setting (operation.routine place) values machine one all are = absurd one
  operate_listed setting its values machine one all are =
      unless_so (λ v after. IsValueListed count v × AreListedIn after) (operation_stops its values machine) (operation_value its values machine)
      (operation_machine its values machine) machine (value_listed its values machine all are, machine_listed its values machine all are)

  -- ---- the step

  -- what the stack and the machine have
  abbrev pub ArePointListed : Point → State → Type 0
  ArePointListed next t = AreValuesListed next.frame.stack × AreListedIn t.machine

  -- wherever a step comes
  abbrev pub ListedAfter : Ran Point → Type 0
  ListedAfter r = RanTo (λ outcome t. Unit {0}) ArePointListed r

  -- an operation that is no routine, no call and no return; a store is through a class of the program
  abbrev pub IsOpListed : Op → Type 0
  IsOpListed (op.Store reached) = IsAccessListed count (access_of reached)
  IsOpListed (op.Routine place) = ⊥
  IsOpListed (op.Call fn) = ⊥
  IsOpListed op.Return = ⊥
  IsOpListed its = Unit {0}

  under_listed : (v : Value) (found : Option (Value × List Value)) → IsValueListed count v
      → ((it : Value × List Value) → found ≡ Some it → IsValueListed count it.0 × AreValuesListed it.1)
      → (it : Value × List Value) → under v found ≡ Some it → IsValueListed count it.0 × AreValuesListed it.1
  under_listed v None is each it so = absurd cc
  under_listed v (Some other) is each it so =
      subst (λ (p : Value × List Value). IsValueListed count p.0 × AreValuesListed p.1) (same_Some (other.0, v ∷ other.1) it so)
      ((each other refl).0, (is, (each other refl).1))

  picked_listed : (k : ℕ) (stack : List Value) → AreValuesListed stack → (it : Value × List Value) → picked k stack ≡ Some it
      → IsValueListed count it.0 × AreValuesListed it.1
  picked_listed k [] all it so = absurd cc
  picked_listed zero (v ∷ stack) all it so =
      subst (λ (p : Value × List Value). IsValueListed count p.0 × AreValuesListed p.1) (same_Some (v, stack) it so) (all.0, all.1)
  picked_listed (suc k) (v ∷ stack) all it so = under_listed v (picked k stack) all.0 (picked_listed k stack all.1) it so

  brought_listed : (place : ℕ) (stack : List Value) → AreValuesListed stack → AreValuesListed (brought place stack)
  brought_listed zero stack all = all
  brought_listed (suc k) stack all = by_found (picked k stack) refl
    where
      by_found : (found : Option (Value × List Value)) → picked k stack ≡ found → AreValuesListed (on_top stack found)
      by_found None so = all
      by_found (Some it) so = (both.0, both.1)
        where
          both : IsValueListed count it.0 × AreValuesListed it.1
          both = picked_listed k stack all it so

  module _ (program : CodeProgram) (at : Pos) (here : Here) (ws : List Wait) (choices : List Bool) (s : State) (all : AreValuesListed here.stack)
      (are : AreListedIn s.machine) where
    -- where the operation is
    abbrev point : Point
    point = point_of here ws choices

    onto_if_listed : (b : Bool) (target : ℕ) (stack : List Value) → AreValuesListed stack → AreValuesListed (onto_if b point target stack).frame.stack
    onto_if_listed true target stack is = is
    onto_if_listed false target stack is = is

    operates_listed : (b : Bool) (many : ℕ) (its : Operation) → IsOperationListed its → ListedAfter (operates_if program at point b many its s)
    operates_listed false many its one = tt
    operates_listed true many its one =
        by_done (operate program.setting its (taken many here.stack) s.machine)
        (operate_listed program.setting its (taken many here.stack) s.machine one (all_taken (IsValueListed count) many here.stack [] all tt) are)
      where
        by_done : (r : Done Value) → GivesListed r
            → ListedAfter (then_with (λ value. give (onward point (value ∷ below many here.stack))) (ran_at at s r))
        by_done (done v after) is = ((is.0, all_below (IsValueListed count) many here.stack all), is.1)
        by_done (stopped why after) is = tt

    -- a value that is used as a number
    used_listed : (v : Value) (next : ℕ → Point) → ((bits : ℕ) → AreValuesListed (next bits).frame.stack)
        → ListedAfter (then_with (λ bits. give (next bits)) (used at v s))
    used_listed (number bits) next each = (each bits, are)
    used_listed (pointer p) next each = tt
    used_listed (state byte) next each = tt
    used_listed (structure cells) next each = tt

    address_listed : (o : Object) (stack : List Value) → AreValuesListed stack
        → ListedAfter (then_with (λ value. give (onward point (value ∷ stack))) (address_at at program.setting o s))
    address_listed (object.Literal place) stack is = ((tt, is), are)
    address_listed (object.Variable x) stack is = by_binding (binding_of x s.machine)
      where
        by_binding : (found : Option Binding)
            → ListedAfter (then_with (λ value. give (onward point (value ∷ stack)))
            (then_with (λ place t. ran_at at t (address_of place t.machine)) (ran_at at s (located x found s.machine))))
        by_binding None = tt
        by_binding (Some (slot value)) = tt
        by_binding (Some (object_at place)) = ((tt, is), are)

    shift_listed : (found : Option BoundRoutine) (stack : List Value) → AreValuesListed stack
        → ListedAfter (then_with (λ it. give (onward point stack)) (decided_by found s))
    shift_listed None stack is = (is, are)
    shift_listed (Some it) stack is = by_powers (it.routine.moves || it.routine.purges)
      where
        by_variable : (x : Variable) (v : Value) → value_of (after_decision (powers_of it) s).machine x ≡ Some v → IsValueListed count v
        by_variable (name.Global g) v holds = are.variables (name.Global g) v holds
        by_variable (name.Local l) v holds = are.variables (name.Local l) v holds

        by_powers : (z : Bool) → ListedAfter (then_with (λ it. give (onward point stack)) (either z (decided (powers_of it)) (give tt) s))
        by_powers false = (is, are)
        by_powers true = (
          is,
          record {
            variables = by_variable;
            blocks = cells_shifted (AllByRecursion (IsListed count)) (powers_of it) (next_decision s.schedule) 1 s.machine.blocks are.blocks;
            objects = are.objects;
          },
        )

    turn_listed : (turns : ℕ) (stack : List Value) → AreValuesListed stack
        → ListedAfter (then_with (λ it. give (onward point stack)) (turn_from turns s))
    turn_listed zero stack is = tt
    turn_listed (suc left) stack is = (is, are)

    step_listed : (o : Op) → IsOpListed o → (stack : List Value) → AreValuesListed stack → ListedAfter (by_stack program at point o stack s)
    step_listed (op.Num bits) one stack is = ((tt, is), are)
    step_listed op.Nil one stack is = ((tt, is), are)
    step_listed (op.Address o) one stack is = address_listed o stack is
    step_listed (op.Get x) one stack is = operates_listed (holds 0 here.stack) 0 (operation.get x) tt
    step_listed (op.Set x) one stack is = operates_listed (holds 1 here.stack) 1 (operation.set x) tt
    step_listed (op.Load reached) one stack is = operates_listed (holds 1 here.stack) 1 (operation.load (access_of reached)) tt
    step_listed (op.Store reached) one stack is = operates_listed (holds 2 here.stack) 2 (operation.store (access_of reached)) one
    step_listed op.Drop one [] is = tt
    step_listed op.Drop one (v ∷ stack) is = (is.1, are)
    step_listed op.Dup one [] is = tt
    step_listed op.Dup one (v ∷ stack) is = ((is.0, (is.0, is.1)), are)
    step_listed op.Tuck one [] is = tt
    step_listed op.Tuck one (v ∷ []) is = tt
    step_listed op.Tuck one (v ∷ u ∷ stack) is = ((is.0, (is.1.0, (is.0, is.1.1))), are)
    step_listed (op.Conv kind) one stack is = operates_listed (holds 1 here.stack) 1 (operation.convert kind) tt
    step_listed (op.Unary (unary.Sign o)) one stack is = operates_listed (holds 1 here.stack) 1 (operation.sign o) tt
    step_listed (op.Unary unary.Not) one stack is = operates_listed (holds 1 here.stack) 1 operation.not_ tt
    step_listed (op.Binary (binary.Arithmetic o) kind) one stack is = operates_listed (holds 2 here.stack) 2 (operation.arithmetic o kind) tt
    step_listed (op.Binary (binary.Comparison o) kind) one stack is = operates_listed (holds 2 here.stack) 2 (operation.comparison o kind) tt
    step_listed op.IsNil one stack is = operates_listed (holds 1 here.stack) 1 operation.is_nil tt
    step_listed (op.Compare o) one stack is = operates_listed (holds 2 here.stack) 2 (operation.compare o) tt
    step_listed (op.Difference size) one stack is = operates_listed (holds 2 here.stack) 2 (operation.difference size) tt
    step_listed (op.Offset bytes) one stack is = operates_listed (holds 1 here.stack) 1 (operation.offset bytes) tt
    step_listed (op.Step stride pointer_first) one stack is = operates_listed (holds 2 here.stack) 2 (operation.step stride pointer_first) tt
    step_listed (op.Jump target) one stack is = (is, are)
    step_listed (op.Zero target) one [] is = tt
    step_listed (op.Zero target) one (v ∷ stack) is =
        used_listed v (λ bits. onto_if (bits == 0) point target stack) (λ bits. onto_if_listed (bits == 0) target stack is.1)
    step_listed (op.Choose goal) one [] is = tt
    step_listed (op.Choose goal) one (v ∷ stack) is = used_listed v (λ bits. onto point (case_for bits goal here.function.code.cases) stack) (λ bits. is.1)
    step_listed (op.Shift place) one stack is = shift_listed (slice_get program.setting.routines place) stack is
    step_listed (op.Routine place) one stack is = absurd one
    step_listed (op.Call fn) one stack is = absurd one
    step_listed op.Return one stack is = absurd one
    step_listed op.Turn one stack is = turn_listed s.turns stack is
    step_listed op.Mark one stack is = (is, are)
    step_listed (op.Pick target) one stack is = (onto_if_listed (next_choice choices) target stack is, are)
    step_listed (op.Bring place) one stack is = (brought_listed place stack is, are)

    -- The step of an operation that is no routine, no call and no return.
    pub ordinary_listed : (o : Op) → IsOpListed o → ListedAfter (by_stack program at point o here.stack s)
    ordinary_listed o one = step_listed o one here.stack all

  -- ---- a return

  -- The caller has its variables and what is left on its stack, and what is in memory then.
  pub returned_listed : (here : Here) (machine : Machine) (w : Wait) (value : Value) (rest : List Value) → here.stack ≡ value ∷ rest
      → AreListed count here machine → AreListed count w.here w.machine → AreListed count (resumed w value here.lasting) (closed w.machine.locals machine)
  returned_listed here machine w value rest so are waiting =
      record {
        stack = (
          (subst AreValuesListed so are.stack).0,
          all_below (IsValueListed count) w.callee.parameters w.here.stack waiting.stack,
        );
        variables = by_variable;
        blocks = subst (λ bs. AllByRecursion (λ block. AllByRecursion (IsListed count) block.cells) bs)
            (sym (closed_same w.machine.locals machine).blocks) are.blocks;
        objects = objects_ended (IsListed count) machine.locals machine are.objects;
      }
    where
      by_variable : (x : Variable) (v : Value) → value_of (closed w.machine.locals machine) x ≡ Some v → IsValueListed count v
      by_variable (name.Local l) v holds = waiting.variables (name.Local l) v holds
      by_variable (name.Global g) v holds =
          are.variables (name.Global g) v
          (sym (ap value_of_slot (ap (λ gs. slice_get gs g) (closed_same w.machine.locals machine).globals)) ∙ holds)
