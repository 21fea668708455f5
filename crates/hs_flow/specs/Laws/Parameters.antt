-- Where arguments go, parameter by parameter.
--     length_parameters           one place for each parameter
--     parameter_there             the place of a parameter that is there
--     parameters_taken            a call takes as many values as there are parameters
--     object_class                an object of a pointer type goes to the class that an lvalue has which is the object
use Rattle.std.proofs.Common.{◌≡◌, ℕ, zero, suc, ◌+◌, Bool, true, false, List, [], ◌∷◌, length, map, take, slice_get, Option, Some, None, if◌then◌else◌, ap, sym, ◌∙◌, arith, refl}
use Rattle.std.specs.List.{position}
use Rattle.hs_code.specs.Codes.{signature_of}
use Rattle.hs_code.specs.declared.op.Op.TheVariants as op
use Rattle.hs_facts.specs.Effects.{WholeCode}
use Rattle.hs_facts.specs.Names.{parameter_count, taken}
use Rattle.hs_flow.specs.Calls.{to_parameter}
use Rattle.hs_flow.specs.Programs.{class_slot, object_slot, parameter_slot, parameter_slots, parameters_in, parameters_of, same_class, scope_at}
use Rattle.hs_flow.specs.declared.fact.Slot.{Slot}
use Rattle.hs_tree.specs.Classes.{class_of, class_of_pointer}
use Rattle.hs_tree.specs.Fitting.{count_types}
use Rattle.hs_tree.specs.Kinds.{is_pointer}
use Rattle.hs_tree.specs.Trees as tree
use Rattle.hs_tree.specs.Trees.{TypedFunction}
use Rattle.hs_tree.specs.declared.class.Class.{Class}
use Rattle.hs_tree.specs.declared.head.Head.{Head}
use Rattle.hs_tree.specs.declared.head.Variable.{Variable}
use Rattle.hs_tree.specs.declared.head.VariableDecl.{VariableDecl}
use Rattle.hs_tree.specs.declared.representatives.Representatives.{Representatives}
use Rattle.hs_types.specs.TypeTables.{TypeTable}
use Rattle.hs_types.specs.declared.row.FieldId.{FieldId}

module _ (types : TypeTable) (same : Representatives) (classes : List Class) where
  pub length_parameters : (place : ℕ) (its : List VariableDecl) → length (parameter_slots types same classes place its) ≡ length its
  length_parameters place [] = refl
  length_parameters place (it ∷ rest) = ap suc (length_parameters (suc place) rest)

  -- of a parameter that may not be there
  abbrev pub some_parameter : ℕ → Option VariableDecl → Option Slot
  some_parameter place None = None
  some_parameter place (Some it) = parameter_slot types same classes place it

  from_first : (first : ℕ) (its : List VariableDecl) (place : ℕ)
      → to_parameter (slice_get (parameter_slots types same classes first its) place) ≡ some_parameter (first + place) (slice_get its place)
  from_first first [] place = refl
  from_first first (it ∷ rest) zero =
      let number : first ≡ first + 0 = omega (arith) in
      ap (λ n. parameter_slot types same classes n it) number
  from_first first (it ∷ rest) (suc place) =
      let number : suc first + place ≡ first + suc place = omega (arith) in
      from_first (suc first) rest place ∙ ap (λ n. some_parameter n (slice_get rest place)) number

  pub parameter_there : (its : List VariableDecl) (place : ℕ)
      → to_parameter (slice_get (parameter_slots types same classes 0 its) place) ≡ some_parameter place (slice_get its place)
  parameter_there its place =
      let number : 0 + place ≡ place = omega (arith) in
      from_first 0 its place ∙ ap (λ n. some_parameter n (slice_get its place)) number

  -- the head of an lvalue has its type
  pub object_class : (fields : List FieldId) (head : Head) (name : Variable) (its : Class)
      → class_of types same fields (tree.variable head name) ≡ Some its
      → object_slot types same classes head.type_id ≡ class_slot (position (same_class its) classes)
  object_class fields head name its is = by (is_pointer types head.type_id) is
    where
      by : (b : Bool) → (if b then Some (class_of_pointer same fields (tree.variable head name)) else None) ≡ Some its
          → (if b then class_slot (position (same_class (class_of_pointer same fields (tree.variable head name))) classes) else None)
          ≡ class_slot (position (same_class its) classes)
      by true is =
          let here : class_of_pointer same fields (tree.variable head name) ≡ its = cc in
          ap (λ one. class_slot (position (same_class one) classes)) here
      by false is = cc

pub parameters_taken : (whole : WholeCode) (f g : ℕ) → length (parameters_of whole f) ≡ taken (scope_at whole g) (op.Call f)
parameters_taken whole f g =
    length_parameters whole.program.types whole.program.same whole.classes 0 (parameters_in (slice_get whole.program.functions f))
    ∙ counted whole.program.functions f
  where
    counted : (functions : List TypedFunction) (place : ℕ)
        → length (parameters_in (slice_get functions place)) ≡ parameter_count (slice_get (map signature_of functions) place)
    counted [] place = refl
    counted (it ∷ rest) zero = sym (count_types (take it.parameters it.variables))
    counted (it ∷ rest) (suc place) = counted rest place
