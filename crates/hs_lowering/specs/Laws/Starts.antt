-- First values of variables: the code beside the meaning (own).
--     PlainTurns its step                operations that begin and end with nothing on the stack perform the step
--     declarations_turn                  the declarations of a block
use Rattle.std.proofs.Common.{◌≡◌, ℕ, Bool, true, false, List, [], ◌∷◌, ◌++◌, slice_get, Option, Some, None, refl, sym, ap, ◌∙◌}
use Rattle.std.specs.List.{AllByRecursion}
use Rattle.hs_code.specs.declared.function_code.FunctionCode.{FunctionCode}
use Rattle.hs_code.specs.declared.op.Op.TheVariants as op
use Rattle.hs_code_run.specs.Codes.{CodeProgram, Waiting}
use Rattle.hs_heap.specs.declared.cell.Pointer.TheVariants.{Nil}
use Rattle.hs_lowering.specs.Laws.Calls.{Calls}
use Rattle.hs_lowering.specs.Laws.Expressions.{FitsCall, value_turns, address_turns, on_one_turns, on_two_turns}
use Rattle.hs_lowering.specs.Laws.Objects.{variable_address, slot_located, memory_located, num_turns, drop_turns, store_turns, set_turns}
use Rattle.hs_lowering.specs.Laws.Operations.{Turning, op_gives}
use Rattle.hs_lowering.specs.Lowering.{Lowered, after, access_in, operand, only, slot_of, slot_by}
use Rattle.hs_lowering.specs.Performing.{Any, IsAt, Performs, Holds, holds_front, holds_back, after_append, at_point, gives, same_step, same_turns, operand_turns, thens, moved, thens_same, operands_same}
use Rattle.hs_lowering.specs.Statements.{Part, ◌then◌, nothing, Counts, one_piece, given_dropped, constant_code, scalar_code, zero_code, access_of_scalar, slot_started, object_started, struct_started, scalar_started, scalars_started, value_started, start_code, items_code, declarations_code}
use Rattle.hs_meaning.specs.Classes.{is_slot_declared, class_of_type}
use Rattle.hs_meaning.specs.Evaluation.{Flow, Job, Location, in_slot, at_address, located, variable_at, address_of, written}
use Rattle.hs_meaning.specs.Machine.{Binding, slot, object_at, binding_of}
use Rattle.hs_meaning.specs.Numbers.{bits_of}
use Rattle.hs_meaning.specs.Operations as operation
use Rattle.hs_meaning.specs.Scalars.{Scalar, scalars_of}
use Rattle.hs_meaning.specs.Settings.{access_of_type}
use Rattle.hs_meaning.specs.Statements as meaning
use Rattle.hs_meaning.specs.Statements.{part_for, type_in, zero_of}
use Rattle.hs_meaning.specs.Steps.{State, Step, ◌>>=◌, ◌>>◌, then_with, give, ran_at, acts, perform}
use Rattle.hs_meaning.specs.Values.{Value, number, pointer, Access}
use Rattle.hs_tokens.specs.declared.place.Place.{Place}
use Rattle.hs_tree.specs.Inside.{EachRight, InStart}
use Rattle.hs_tree.specs.Kinds.{is_pointer, is_struct_row}
use Rattle.hs_tree.specs.Trees as tree
use Rattle.hs_tree.specs.Trees.{RightValue, LeftValue, Starting, TypedItem, TypedDeclaration, TypedFunction}
use Rattle.hs_tree.specs.declared.constant.Base.{Base}
use Rattle.hs_tree.specs.declared.constant.Base.TheVariants as base
use Rattle.hs_tree.specs.declared.constant.Constant.{Constant}
use Rattle.hs_tree.specs.declared.constant.Constant.TheVariants as constant
use Rattle.hs_tree.specs.declared.constant.Part as constant_part
use Rattle.hs_tree.specs.declared.head.Head.{Head}
use Rattle.hs_tree.specs.declared.head.Variable.{Variable}
use Rattle.hs_tree.specs.declared.head.Variable.TheVariants as name
use Rattle.hs_types.specs.TypeTables.{row_of}
use Rattle.hs_types.specs.declared.row.TypeId.{TypeId}

-- a place, where an operation asks for a position and a type
abbrev pub as_head : Place → Head
as_head at = record { at = at; type_id = record { number = 0 } }

-- a variable, as an lvalue there
abbrev as_left : Place → Variable → LeftValue
as_left at variable = tree.variable (as_head at) variable

module _ (function : TypedFunction) (program : CodeProgram) (bound : ℕ) (code : FunctionCode) (waiting : List Waiting) (choices : List Bool)
    (again : Job → Step Flow) (calls : Calls program function.variables bound code waiting choices again) where
  -- the variables are as declared, and no more turns are left than the bound
  abbrev At : State → Type 0
  At = IsAt program function.variables bound

  -- a step that the code performs
  abbrev Turning' : ℕ → Lowered → {A : Type 0} → (A → Type 0) → Step A → List Value → (A → List Value) → Type 0
  Turning' piece its fact first stack left = Turning program function.variables bound code waiting choices piece its fact first stack left

  -- from nothing on the stack to nothing
  pub record PlainTurns (its : Part) (step : Step (Unit {0})) : Type 0 where
    pub go : (start : ℕ) → Holds code start (its start).ops
        → Performs program function.variables bound code waiting choices Any step (at_point program function.variables bound code waiting choices start [])
        (λ it. at_point program function.variables bound code waiting choices (after start (its start).ops) [])

  plain_nothing : PlainTurns nothing (give tt)
  plain_nothing =
      record {
        go = λ start holds.
            gives program function.variables bound code waiting choices Any tt
            (λ (it : Unit {0}). at_point program function.variables bound code waiting choices start []) tt;
      }

  plain_then : {f g : Part} → {step next : Step (Unit {0})} → PlainTurns f step → PlainTurns g next → PlainTurns (f then g) (step >> next)
  plain_then {f = f} {g = g} before behind =
      record {
        go = λ start holds.
            moved program function.variables bound code waiting choices (λ (it : Unit {0}). [])
            (after (after start (f start).ops) (g (after start (f start).ops)).ops)
            (after start ((f start).ops ++ (g (after start (f start).ops)).ops))
            (sym (after_append start (f start).ops (g (after start (f start).ops)).ops))
            (thens program function.variables bound code waiting choices
            (before.go start (holds_front code start (f start).ops (g (after start (f start).ops)).ops holds))
            (λ a is. behind.go (after start (f start).ops) (holds_back code start (f start).ops (g (after start (f start).ops)).ops holds)));
      }

  plain_same : {f : Part} → {step other : Step (Unit {0})} → ((s : State) → At s → other s ≡ step s) → PlainTurns f step → PlainTurns f other
  plain_same same turns =
      record { go = λ start holds. same_step program function.variables bound code waiting choices Any same (turns.go start holds) }

  -- a value that is dropped
  pub dropped_turns : (piece : ℕ) (at : Place) (value : Lowered) (step : Step Value) → Turning' piece value Any step [] (λ v. v ∷ [])
      → PlainTurns (given_dropped piece at.pos value) (step >> give tt)
  dropped_turns piece at value step turns =
      record {
        go = λ start holds.
            (operand_turns program function.variables bound code waiting choices value (only piece (as_head at) op.Drop) turns
            (λ v so. drop_turns program function.variables bound code waiting choices piece (as_head at) tt v (λ (it : Unit {0}). []))).go start 0 holds;
      }

  -- ---- constants

  module _ (piece : ℕ) (at : Place) where
    base_turns : (its : Base) (stack : List Value)
        → Turning' piece (only piece (as_head at) (op.Address (Rattle.hs_lowering.specs.Statements.object_of program.setting function its))) Any
        (meaning.base_address program.setting again function at.pos its) stack (λ v. v ∷ stack)
    base_turns (base.Global place) stack =
        address_turns program function.variables bound code waiting choices piece again calls (as_left at (name.Global place)) tt stack
    base_turns (base.Literal place) stack =
        address_turns program function.variables bound code waiting choices piece again calls (tree.literal (as_head at) place) tt stack

    constant_turns : (its : Constant) (stack : List Value) → Turning' piece (constant_code program.setting function piece at.pos its) Any
        (meaning.constant_made program.setting again function at.pos its) stack (λ v. v ∷ stack)
    constant_turns (constant.Number bits) stack = num_turns program function.variables bound code waiting choices piece (as_head at) bits stack
    constant_turns constant.Nil stack =
        op_gives program function.variables bound code waiting choices piece (as_head at) op.Nil (pointer Nil) stack (λ v. v ∷ stack) (λ n s. refl)
    constant_turns (constant.Address its offset) stack =
        same_turns program function.variables bound code waiting choices
        (λ s is. sym (operands_same (meaning.base_address program.setting again function at.pos its) (give (number (bits_of offset)))
        (λ both. perform program.setting at.pos (operation.step (record { size = 1; backward = false }) true) (both.0 ∷ both.1 ∷ [])) s))
        (on_two_turns program function.variables bound code waiting choices piece again (as_head at)
        (op.Step (record { size = 1; backward = false }) true) (operation.step (record { size = 1; backward = false }) true) refl (λ n a b below s. refl)
        (only piece (as_head at) (op.Address (Rattle.hs_lowering.specs.Statements.object_of program.setting function its)))
        (only piece (as_head at) (op.Num (bits_of offset))) (meaning.base_address program.setting again function at.pos its)
        (give (number (bits_of offset))) stack (base_turns its stack)
        (λ v. num_turns program function.variables bound code waiting choices piece (as_head at) (bits_of offset) (v ∷ stack)))

    zero_turns : (is : Bool) (stack : List Value)
        → Turning' piece (zero_code program.setting function piece at.pos is) Any (give (zero_of is)) stack (λ v. v ∷ stack)
    zero_turns true stack =
        op_gives program function.variables bound code waiting choices piece (as_head at) op.Nil (pointer Nil) stack (λ v. v ∷ stack) (λ n s. refl)
    zero_turns false stack = num_turns program function.variables bound code waiting choices piece (as_head at) 0 stack

    scalar_turns : (id : TypeId) (part : Option constant_part.Part) (stack : List Value)
        → Turning' piece (scalar_code program.setting function piece at.pos id part) Any
        (meaning.scalar_made program.setting again function at.pos id part) stack (λ v. v ∷ stack)
    scalar_turns id None stack = zero_turns (is_pointer program.setting.types id) stack
    scalar_turns id (Some part) stack = constant_turns part.value stack

    -- ---- variables

    module _ (variable : Variable) where
      -- whether it is a slot
      abbrev declared : Bool
      declared = is_slot_declared program.setting.types
          (Rattle.hs_lowering.specs.Lowering.declared_in program.setting function.variables variable)

      -- Set of a slot
      slot_turns : declared ≡ true → (value : Lowered) (step : Step Value) → Turning' piece value Any step [] (λ v. v ∷ [])
          → Turning' piece (slot_started program.setting function piece at.pos variable value) Any
          (step >>= (λ v. perform program.setting at.pos (operation.set variable) (v ∷ []))) [] (λ v. v ∷ [])
      slot_turns is value step turns =
          set_turns program function.variables bound code waiting choices piece (as_head at) variable is value step [] [] turns

      -- the address
      place_turns : (stack : List Value)
          → Turning' piece (only piece (as_head at) (op.Address (Rattle.hs_code.specs.declared.op.Object.TheVariants.Variable variable)))
          Any (variable_address at.pos variable) stack (λ v. v ∷ stack)
      place_turns stack = address_turns program function.variables bound code waiting choices piece again calls (as_left at variable) tt stack

      -- a scalar inside an object
      object_turns : (offset : ℕ) (access : Access) (value : Lowered) (step : Step Value)
          → ((stack : List Value) → Turning' piece value Any step stack (λ v. v ∷ stack))
          → Turning' piece (object_started program.setting function piece at.pos variable offset (access_in access) value) Any
          ((variable_address at.pos variable >>= (λ a. perform program.setting at.pos (operation.offset offset) (a ∷ [])))
          >>= (λ a. step >>= (λ v. perform program.setting at.pos (operation.store access) (a ∷ v ∷ [])))) [] (λ v. v ∷ [])
      object_turns offset access value step turns =
          store_turns program function.variables bound code waiting choices piece (as_head at) access _ value
          (variable_address at.pos variable >>= (λ a. perform program.setting at.pos (operation.offset offset) (a ∷ []))) (λ a. step) [] []
          (on_one_turns program function.variables bound code waiting choices piece again (as_head at) (op.Offset offset) (operation.offset offset) refl
          (λ n a below s. refl) (only piece (as_head at) (op.Address (Rattle.hs_code.specs.declared.op.Object.TheVariants.Variable variable)))
          (variable_address at.pos variable) [] [] (place_turns [])) (λ a. turns (a ∷ []))

      -- a struct
      struct_turns : (access : Access) (value : Lowered) (step : Step Value)
          → ((stack : List Value) → Turning' piece value Any step stack (λ v. v ∷ stack))
          → Turning' piece (struct_started program.setting function piece at.pos variable (access_in access) value) Any
          (variable_address at.pos variable >>= (λ a. step >>= (λ v. perform program.setting at.pos (operation.store access) (a ∷ v ∷ [])))) []
          (λ v. v ∷ [])
      struct_turns access value step turns =
          store_turns program function.variables bound code waiting choices piece (as_head at) access
          (only piece (as_head at) (op.Address (Rattle.hs_code.specs.declared.op.Object.TheVariants.Variable variable))) value
          (variable_address at.pos variable) (λ a. step) [] [] (place_turns []) (λ a. turns (a ∷ []))

      -- the step of a variable that is a slot, and of one that is an object
      in_slot_same : declared ≡ true → (f : Location → Step Value) (s : State) → At s → (acts at.pos (variable_at variable) >>= f) s ≡ f (in_slot variable) s
      in_slot_same is f s at_ =
          slot_located program function.variables bound (as_left at variable) (variable_address at.pos variable) variable
          (ap (λ b. slot_by b variable) is) f s at_

      in_object_same : declared ≡ false → (f : Location → Step Value) (s : State) → At s
          → (acts at.pos (variable_at variable) >>= f) s ≡ (variable_address at.pos variable >>= (λ a. f (at_address a))) s
      in_object_same is f s at_ =
          memory_located program function.variables bound (as_left at variable) (variable_address at.pos variable) refl
          (ap (λ b. slot_by b variable) is) f s at_

      -- the front of an object is no bytes on
      front_same : (f : Value → Step Value) (s : State) → (variable_address at.pos variable >>= f) s
          ≡ ((variable_address at.pos variable >>= (λ a. perform program.setting at.pos (operation.offset 0) (a ∷ []))) >>= f) s
      front_same f s = by (binding_of variable s.machine)
        where
          by : (its : Option Binding)
              → then_with f (then_with (λ place. acts at.pos (address_of place)) (ran_at at.pos s (located variable its s.machine)))
              ≡ then_with f (then_with (λ a. perform program.setting at.pos (operation.offset 0) (a ∷ []))
              (then_with (λ place. acts at.pos (address_of place)) (ran_at at.pos s (located variable its s.machine))))
          by None = refl
          by (Some (slot value)) = refl
          by (Some (object_at place)) = refl

      -- ---- first values

      scalar_starts : (b : Bool) → declared ≡ b → (parts : List constant_part.Part) (its : Scalar)
          → Turning' piece (scalar_started program.setting function piece at.pos b variable parts its) Any
          (acts at.pos (variable_at variable) >>= meaning.scalar_started program.setting again function at.pos parts its) [] (λ v. v ∷ [])
      scalar_starts true is parts its =
          same_turns program function.variables bound code waiting choices
          (λ s at_. in_slot_same is (meaning.scalar_started program.setting again function at.pos parts its) s at_)
          (slot_turns is (scalar_code program.setting function piece at.pos its.type_id (part_for its parts))
          (meaning.scalar_made program.setting again function at.pos its.type_id (part_for its parts))
          (scalar_turns its.type_id (part_for its parts) []))
      scalar_starts false is parts its =
          same_turns program function.variables bound code waiting choices
          (λ s at_. in_object_same is (meaning.scalar_started program.setting again function at.pos parts its) s at_
          ∙ sym (thens_same (variable_address at.pos variable) (λ a. perform program.setting at.pos (operation.offset its.offset) (a ∷ []))
          (λ a. meaning.scalar_made program.setting again function at.pos its.type_id (part_for its parts)
          >>= (λ v. perform program.setting at.pos (operation.store (meaning.access_of_scalar program.setting again function its)) (a ∷ v ∷ []))) s))
          (object_turns its.offset (meaning.access_of_scalar program.setting again function its)
          (scalar_code program.setting function piece at.pos its.type_id (part_for its parts))
          (meaning.scalar_made program.setting again function at.pos its.type_id (part_for its parts))
          (λ stack. scalar_turns its.type_id (part_for its parts) stack))

      scalars_start : (b : Bool) → declared ≡ b → (parts : List constant_part.Part) (all : List Scalar)
          → PlainTurns (scalars_started program.setting function piece at.pos b variable parts all)
          (meaning.scalars_started program.setting again function at.pos variable parts all)
      scalars_start b is parts [] = plain_nothing
      scalars_start b is parts (its ∷ rest) =
          plain_same (λ s at_. sym (thens_same (acts at.pos (variable_at variable) >>= meaning.scalar_started program.setting again function at.pos parts its)
          (λ v. give tt) (λ (it : Unit {0}). meaning.scalars_started program.setting again function at.pos variable parts rest) s))
          (plain_then (dropped_turns piece at (scalar_started program.setting function piece at.pos b variable parts its)
          (acts at.pos (variable_at variable) >>= meaning.scalar_started program.setting again function at.pos parts its) (scalar_starts b is parts its))
          (scalars_start b is parts rest))

      -- what a store of that type reaches
      abbrev access_for : TypeId → Access
      access_for id = access_of_type program.setting id (class_of_type program.setting.same id)

      value_starts : (b is_struct : Bool) → declared ≡ b → (id : TypeId) (value : Lowered) (step : Step Value)
          → ((stack : List Value) → Turning' piece value Any step stack (λ v. v ∷ stack))
          → Turning' piece (value_started program.setting function piece at.pos b is_struct variable id value) Any
          (acts at.pos (variable_at variable) >>= (λ place. step >>= written program.setting at.pos (access_for id) place)) [] (λ v. v ∷ [])
      value_starts true is_struct is id value step turns =
          same_turns program function.variables bound code waiting choices
          (λ s at_. in_slot_same is (λ place. step >>= written program.setting at.pos (access_for id) place) s at_)
          (slot_turns is value step (turns []))
      value_starts false true is id value step turns =
          same_turns program function.variables bound code waiting choices
          (λ s at_. in_object_same is (λ place. step >>= written program.setting at.pos (access_for id) place) s at_)
          (struct_turns (access_for id) value step turns)
      value_starts false false is id value step turns =
          same_turns program function.variables bound code waiting choices
          (λ s at_. in_object_same is (λ place. step >>= written program.setting at.pos (access_for id) place) s at_
          ∙ front_same (λ a. step >>= (λ v. perform program.setting at.pos (operation.store (access_for id)) (a ∷ v ∷ []))) s)
          (object_turns 0 (access_for id) value step turns)

      start_turns : (b : Bool) → declared ≡ b → (id : TypeId) (start : Starting) → InStart (EachRight (FitsCall program)) start
          → PlainTurns (start_code program.setting function piece at.pos b variable id start)
          (meaning.value_started program.setting again function at.pos variable id start)
      start_turns b is id (tree.value e) fits =
          dropped_turns piece at _ _ (value_starts b (is_struct_row (row_of program.setting.types id)) is id _ _
          (λ stack. value_turns program function.variables bound code waiting choices piece again calls e fits stack))
      start_turns b is id (tree.parts its) fits = scalars_start b is its (scalars_of program.setting.types id)

  -- ---- declarations

  items_turn : (piece : ℕ) (items : List TypedItem) → AllByRecursion (λ item. InStart (EachRight (FitsCall program)) item.start) items
      → PlainTurns (items_code program.setting function piece items) (meaning.items_started program.setting again function items)
  items_turn piece [] fits = plain_nothing
  items_turn piece (item ∷ items) fits =
      plain_then (start_turns piece item.at (name.Local item.variable) _ refl (type_in (slice_get function.variables item.variable)) item.start fits.0)
      (items_turn piece items fits.1)

  -- the declarations of a block
  pub declarations_turn : (counts : Counts) (all : List TypedDeclaration)
      → AllByRecursion (λ it. AllByRecursion (λ item. InStart (EachRight (FitsCall program)) item.start) it.items) all
      → PlainTurns (declarations_code program.setting function counts all) (meaning.declarations_started program.setting again function all)
  declarations_turn counts [] fits = plain_nothing
  declarations_turn counts (it ∷ rest) fits =
      plain_then (items_turn counts.pieces it.items fits.0) (declarations_turn (one_piece counts) rest fits.1)
