-- Each operation of a run finds its operands, each of its kind, and what it names.
--     Suits program point s function its    the operation has its operands, each of its kind, and what it names is there
--     stepped_suits                         so at each point of a run
use Rattle.std.proofs.Common.{◌≡◌, ℕ, Bool, true, false, List, [], ◌∷◌, map, reverse, take, slice_get, option_map, Option, Some, None, refl, subst, if◌then◌else◌}
use Rattle.hs_code.specs.Codes.{is_object}
use Rattle.hs_code.specs.Stacks.{Kind, Scope, HasOperands, kinds_after, after_call, above, without, turned, slot_kind, variable_in, variable_of_global, routine_signature, signature_of as signature_in, kind_of, kind_in, step_kinds}
use Rattle.hs_code.specs.Stacks as kind
use Rattle.hs_code.specs.declared.function_code.Placed.{Placed}
use Rattle.hs_code.specs.declared.op.Object.TheVariants as object
use Rattle.hs_code.specs.declared.op.Op.{Op}
use Rattle.hs_code.specs.declared.op.Op.TheVariants as op
use Rattle.hs_code_run.specs.Codes.{CodeFunction, CodeProgram, Point, scope_of, signature_of}
use Rattle.hs_kinds.specs.Kinds.{AreOfKinds, FitBindings, FitsThere, binding_there}
use Rattle.hs_kinds.specs.Points.{IsTypedCode, IsKindPoint, signature_there}
use Rattle.hs_kinds.specs.Operands.{HasThem, has_them, IsObjectBinding, IsSlotBinding, object_there, slot_there}
use Rattle.hs_kinds.specs.Steps.{operands}
use Rattle.hs_kinds.specs.Variables.{global_there}
use Rattle.hs_meaning.specs.Machine.{Binding, binding_of}
use Rattle.hs_meaning.specs.Objects.{variables_of}
use Rattle.hs_meaning.specs.Steps.{State}
use Rattle.hs_meaning.specs.Values.{Value}
use Rattle.hs_tree.specs.Classes.{is_slot}
use Rattle.hs_tree.specs.Fitting.{types_of}
use Rattle.hs_tree.specs.declared.function.BoundRoutine.{BoundRoutine}
use Rattle.hs_tree.specs.declared.function.Prototype.{Prototype}
use Rattle.hs_tree.specs.declared.head.Variable.{Variable}
use Rattle.hs_tree.specs.declared.head.Variable.TheVariants as name
use Rattle.hs_tree.specs.declared.head.VariableDecl.{VariableDecl}
use Rattle.hs_types.specs.TypeTables.{TypeTable}

-- what is left below the operands
pub has_turned : (wanted : List Kind) (left : Kind) (kinds after : List Kind) (stack : List Value) → turned wanted left kinds ≡ Some after
    → AreOfKinds kinds stack → HasThem wanted stack
has_turned wanted left kinds after stack is are = by (without wanted kinds) refl is
  where
    by : (its : Option (List Kind)) → without wanted kinds ≡ its → above left its ≡ Some after → HasThem wanted stack
    by None w so = absurd cc
    by (Some rest) w so = has_them wanted kinds rest stack w are

module _ (program : CodeProgram) (point : Point) (s : State) (function : CodeFunction) where
  -- the types of the program
  abbrev types : TypeTable
  types = program.setting.types

  abbrev scope : Scope
  scope = scope_of program function

  -- the operation has its operands, and what it names is there
  abbrev pub Suits : Op → Type 0
  Suits (op.Address (object.Variable variable)) = is_object types (variable_in scope variable) ≡ true → IsObjectBinding (binding_of variable s.machine)
  Suits (op.Get variable) = IsSlotBinding (binding_of variable s.machine)
  Suits (op.Set variable) =
      (k : Kind) × (slot_kind types (variable_in scope variable) ≡ Some k) × HasThem (k ∷ []) point.frame.stack
      × IsSlotBinding (binding_of variable s.machine)
  Suits (op.Load its) = HasThem (kind.pointer ∷ []) point.frame.stack
  Suits (op.Store its) = HasThem (kind_in its ∷ kind.pointer ∷ []) point.frame.stack
  Suits (op.Conv its) = HasThem (kind.number ∷ []) point.frame.stack
  Suits (op.Unary its) = HasThem (kind.number ∷ []) point.frame.stack
  Suits (op.Binary its of) = HasThem (kind.number ∷ kind.number ∷ []) point.frame.stack
  Suits op.IsNil = HasThem (kind.pointer ∷ []) point.frame.stack
  Suits (op.Compare its) = HasThem (kind.pointer ∷ kind.pointer ∷ []) point.frame.stack
  Suits (op.Difference size) = HasThem (kind.pointer ∷ kind.pointer ∷ []) point.frame.stack
  Suits (op.Offset bytes) = HasThem (kind.pointer ∷ []) point.frame.stack
  Suits (op.Step stride first) = HasThem (step_kinds first) point.frame.stack
  Suits (op.Zero target) = HasThem (kind.number ∷ []) point.frame.stack
  Suits (op.Choose goal) = HasThem (kind.number ∷ []) point.frame.stack
  Suits (op.Routine place) =
      (it : BoundRoutine) × (prototype : Prototype) × (slice_get program.setting.routines place ≡ Some it) × (it.prototype ≡ Some prototype)
      × HasThem (reverse (map (kind_of types) prototype.parameters)) point.frame.stack
  Suits (op.Call place) =
      (callee : CodeFunction) × (slice_get program.functions place ≡ Some callee)
      × HasThem (reverse (map (kind_of types) (types_of (take callee.parameters callee.variables)))) point.frame.stack
  Suits op.Return = HasThem (kind_of types function.result ∷ []) point.frame.stack
  Suits its = Unit {0}

  module _ (kinds : List Kind) (are : AreOfKinds kinds point.frame.stack)
      (globals : FitBindings types (variables_of program.setting.globals) s.machine.globals)
      (own : FitBindings types function.variables s.machine.locals) where
    -- what a variable is
    fits_there : (variable : Variable) → FitsThere types (variable_in scope variable) (binding_of variable s.machine)
    fits_there (name.Global place) =
        subst (λ its. FitsThere types its (slice_get s.machine.globals place)) (global_there program.setting.globals place)
        (binding_there types (variables_of program.setting.globals) s.machine.globals place globals)
    fits_there (name.Local place) = binding_there types function.variables s.machine.locals place own

    -- a slot with a kind is one
    slot_binding : (its : Option VariableDecl) (b : Option Binding) (k : Kind) → slot_kind types its ≡ Some k → FitsThere types its b → IsSlotBinding b
    slot_binding None b k is fits = absurd cc
    slot_binding (Some variable) b k is fits = slot_there types (Some variable) b (by (is_slot types variable) is) fits
      where
        by : (a : Bool) → (if a then Some (kind_of types variable.type_id) else None) ≡ Some k → a ≡ true
        by true so = refl
        by false so = absurd cc

    -- a variable that is read
    get_suits : (variable : Variable) (its : Option Kind) → slot_kind types (variable_in scope variable) ≡ its → (after : List Kind)
        → kind.after_get its kinds ≡ Some after → Suits (op.Get variable)
    get_suits variable None so after is = absurd cc
    get_suits variable (Some k) so after is = slot_binding (variable_in scope variable) (binding_of variable s.machine) k so (fits_there variable)

    -- a variable that is assigned
    set_suits : (variable : Variable) (its : Option Kind) → slot_kind types (variable_in scope variable) ≡ its → (after : List Kind)
        → kind.after_set its kinds ≡ Some after → Suits (op.Set variable)
    set_suits variable None so after is = absurd cc
    set_suits variable (Some k) so after is = (
      k,
      so,
      has_turned (k ∷ []) k kinds after point.frame.stack is are,
      slot_binding (variable_in scope variable) (binding_of variable s.machine) k so (fits_there variable),
    )

    -- a routine
    routine_suits : (place : ℕ) (its : Option BoundRoutine) → slice_get program.setting.routines place ≡ its → (after : List Kind)
        → after_call types (routine_signature its) kinds ≡ Some after → Suits (op.Routine place)
    routine_suits place None so after is = absurd cc
    routine_suits place (Some it) so after is = by it.prototype refl is
      where
        by : (its : Option Prototype) → it.prototype ≡ its → after_call types (signature_in its) kinds ≡ Some after → Suits (op.Routine place)
        by None there call = absurd cc
        by (Some prototype) there call = (
          it,
          prototype,
          so,
          there,
          has_turned (reverse (map (kind_of types) prototype.parameters)) (kind_of types prototype.result) kinds after point.frame.stack call are,
        )

    -- a call
    call_suits : (place : ℕ) (its : Option CodeFunction) → slice_get program.functions place ≡ its → (after : List Kind)
        → after_call types (option_map signature_of its) kinds ≡ Some after → Suits (op.Call place)
    call_suits place None so after is = absurd cc
    call_suits place (Some callee) so after is = (
      callee,
      so,
      has_turned (reverse (map (kind_of types) (types_of (take callee.parameters callee.variables)))) (kind_of types callee.result) kinds after
          point.frame.stack is are,
    )

    -- each operation
    pub suits : (its : Op) (after : List Kind) → kinds_after scope its kinds ≡ Some after → Suits its
    suits (op.Num bits) after is = tt
    suits op.Nil after is = tt
    suits (op.Address (object.Variable variable)) after is =
        λ object_is. object_there types (variable_in scope variable) (binding_of variable s.machine) object_is (fits_there variable)
    suits (op.Address (object.Literal place)) after is = tt
    suits (op.Get variable) after is = get_suits variable (slot_kind types (variable_in scope variable)) refl after is
    suits (op.Set variable) after is = set_suits variable (slot_kind types (variable_in scope variable)) refl after is
    suits (op.Load its) after is = has_turned (kind.pointer ∷ []) (kind_in its) kinds after point.frame.stack is are
    suits (op.Store its) after is = has_turned (kind_in its ∷ kind.pointer ∷ []) (kind_in its) kinds after point.frame.stack is are
    suits op.Drop after is = tt
    suits op.Dup after is = tt
    suits op.Tuck after is = tt
    suits (op.Conv its) after is = has_turned (kind.number ∷ []) kind.number kinds after point.frame.stack is are
    suits (op.Unary its) after is = has_turned (kind.number ∷ []) kind.number kinds after point.frame.stack is are
    suits (op.Binary its of) after is = has_turned (kind.number ∷ kind.number ∷ []) kind.number kinds after point.frame.stack is are
    suits op.IsNil after is = has_turned (kind.pointer ∷ []) kind.number kinds after point.frame.stack is are
    suits (op.Compare its) after is = has_turned (kind.pointer ∷ kind.pointer ∷ []) kind.number kinds after point.frame.stack is are
    suits (op.Difference size) after is = has_turned (kind.pointer ∷ kind.pointer ∷ []) kind.number kinds after point.frame.stack is are
    suits (op.Offset bytes) after is = has_turned (kind.pointer ∷ []) kind.pointer kinds after point.frame.stack is are
    suits (op.Step stride first) after is = has_turned (step_kinds first) kind.pointer kinds after point.frame.stack is are
    suits (op.Jump target) after is = tt
    suits (op.Zero target) after is = has_them (kind.number ∷ []) kinds after point.frame.stack is are
    suits (op.Choose goal) after is = has_them (kind.number ∷ []) kinds after point.frame.stack is are
    suits (op.Shift place) after is = tt
    suits (op.Routine place) after is = routine_suits place (slice_get program.setting.routines place) refl after is
    suits (op.Call place) after is =
        call_suits place (slice_get program.functions place) refl after
        (subst (λ its. after_call types its kinds ≡ Some after) (signature_there place program.functions) is)
    suits op.Return after is = has_them (kind_of types function.result ∷ []) kinds after point.frame.stack is are
    suits op.Turn after is = tt
    suits op.Mark after is = tt
    suits (op.Pick target) after is = tt
    suits (op.Bring place) after is = tt

-- the next operation is there and suits, in the function of the program whose code it is
pub record IsSuited (program : CodeProgram) (point : Point) (s : State) : Type 0 where
  pub place : ℕ
  pub function : CodeFunction
  pub of_program : slice_get program.functions place ≡ Some function
  pub code : function.code ≡ point.frame.code
  pub its : Placed
  pub there : slice_get point.frame.code.ops point.frame.at ≡ Some its
  pub suited : Suits program point s function its.op

-- at each point of a run
pub stepped_suits : (program : CodeProgram) (typed : IsTypedCode program) (point : Point) (s : State) (so : IsKindPoint program point s)
    → IsSuited program point s
stepped_suits program typed point s so = by (operands program typed point s so)
  where
    by : HasOperands (scope_of program so.call.function) point.frame.code point.frame.at so.call.kinds → IsSuited program point s
    by has =
        record {
          place = so.call.place;
          function = so.call.function;
          of_program = so.call.there;
          code = so.call.code;
          its = has.its;
          there = has.there;
          suited = suits program point s so.call.function so.call.kinds so.call.values so.globals so.call.fits has.its.op has.after has.operands;
        }
