-- What the definitions put at the end, in the steps of the code.
--     item_is           what a variable starts with
--     item_emitted      what an answer says of the steps, it says of those of the definition
use Rattle.std.proofs.Common.{◌≡◌, ◌+◌, ℕ, Bool, true, false, List, [], ◌∷◌, ◌++◌, length, Option, Some, None, refl, sym, ◌∙◌, ap, subst}
use Rattle.std.specs.Prelude.{Result}
use Rattle.std.proofs.lemmas.List.{append-nil}
use Rattle.hs_code.specs.declared.function_code.Placed.{Placed}
use Rattle.hs_code.specs.declared.op.Access as code
use Rattle.hs_code.specs.declared.op.Object.TheVariants as object
use Rattle.hs_code.specs.declared.op.Op.{Op}
use Rattle.hs_code.specs.declared.op.Op.TheVariants as op
use Rattle.hs_lower_expressions.specs.Emitting.{Emitted, limited, ◌>>=◌, emitted, right_emitted}
use Rattle.hs_lower_expressions.specs.EmittingLaws.{then_emitted, operand_emitted, bind_same, bind_twice, two_more}
use Rattle.hs_lowering.specs.Lowering.{Lowered, operand, access_in, right_code}
use Rattle.hs_lowering.specs.Statements as code_of
use Rattle.hs_lowering.specs.Statements.{only_at, given_dropped, constant_code, zero_code, scalar_code, scalars_started, value_started}
use Rattle.hs_meaning.specs.Classes.{class_of_type}
use Rattle.hs_meaning.specs.Numbers.{bits_of}
use Rattle.hs_meaning.specs.Scalars.{Scalar, scalars_of}
use Rattle.hs_meaning.specs.Settings.{Setting, access_of_type}
use Rattle.hs_meaning.specs.Statements.{part_for}
use Rattle.hs_tokens.specs.declared.place.Place.{Place}
use Rattle.hs_tree.specs.Kinds.{is_pointer, is_struct_row}
use Rattle.hs_tree.specs.Trees as tree
use Rattle.hs_tree.specs.Trees.{RightValue, TypedFunction}
use Rattle.hs_tree.specs.declared.constant.Base.{Base}
use Rattle.hs_tree.specs.declared.constant.Base.TheVariants as base
use Rattle.hs_tree.specs.declared.constant.Constant.{Constant}
use Rattle.hs_tree.specs.declared.constant.Constant.TheVariants as constant
use Rattle.hs_tree.specs.declared.constant.Part.{Part}
use Rattle.hs_types.specs.TypeTables.{row_of}
use Rattle.hs_types.specs.declared.row.TypeId.{TypeId}
use Rattle.hs_lower_expressions.specs.declared.emit_end.EmitEnd.{EmitEnd}
use Rattle.hs_tree.specs.declared.head.VariableDecl.{VariableDecl}
use Rattle.hs_lower_starts.specs.FirstValues.{item_steps}
use Rattle.hs_lower_starts.specs.Steps.{target_of, base_object, zero_op, pushed, addressed, ended, address_made, constant_made, made, slot_steps, object_steps, scalar_steps, scalar_by, scalars_by, scalars_steps, front_by, front_steps, value_by, value_steps, initial_steps}
use Rattle.hs_lower_starts.specs.declared.puts.Target.{Target}

module _ (setting : Setting) (function : TypedFunction) (to : Target) where
  -- ---- constants

  base_is : (its : Base) → code_of.object_of setting function its ≡ base_object its
  base_is (base.Global place) = refl
  base_is (base.Literal place) = refl

  constant_is : (its : Constant) (depth : ℕ) (ops : List Placed)
      → emitted (constant_code setting function to.piece to.at its) depth ops ≡ constant_made to its depth ops
  unfolding pushed address_made
  constant_is (constant.Number bits) depth ops = refl
  constant_is constant.Nil depth ops = refl
  constant_is (constant.Address its offset) depth ops =
      let at : Op → Lowered = only_at to.piece to.at in
      let bytes : Op = op.Num (bits_of offset) in
      let step : Op = op.Step (record { size = 1; backward = false }) true in
      ap (λ front. emitted (operand (at (op.Address front)) (operand (at bytes) (at step))) depth ops) (base_is its)
      ∙ operand_emitted (at (op.Address (base_object its))) (operand (at bytes) (at step)) depth ops
      ∙ bind_same (pushed to (op.Address (base_object its)) depth ops) _ _ (λ front.
      operand_emitted (at bytes) (at step) (depth + 1) front
      ∙ ap (λ n. pushed to bytes (depth + 1) front >>= (λ mid. pushed to step n mid)) (two_more depth))

  zero_is : (pointer : Bool) (depth : ℕ) (ops : List Placed)
      → emitted (zero_code setting function to.piece to.at pointer) depth ops ≡ pushed to (zero_op pointer) depth ops
  unfolding pushed
  zero_is true depth ops = refl
  zero_is false depth ops = refl

  made_is : (id : TypeId) (part : Option Part) (depth : ℕ) (ops : List Placed)
      → emitted (scalar_code setting function to.piece to.at id part) depth ops ≡ made setting.types to id part depth ops
  unfolding made
  made_is id None depth ops = zero_is (is_pointer setting.types id) depth ops
  made_is id (Some part) depth ops = constant_is part.value depth ops

  -- ---- a value, and where it goes

  slot_is : (value : Lowered) (its : Op) (ops : List Placed)
      → emitted (operand (operand value (only_at to.piece to.at its)) (only_at to.piece to.at op.Drop)) 0 ops
      ≡ (emitted value 0 ops >>= (λ mid. ended to its 1 mid))
  unfolding pushed ended
  slot_is value its ops =
      operand_emitted (operand value (only_at to.piece to.at its)) (only_at to.piece to.at op.Drop) 0 ops
      ∙ ap (λ x. x >>= (λ mid. pushed to op.Drop 1 mid)) (operand_emitted value (only_at to.piece to.at its) 0 ops)
      ∙ bind_twice (emitted value 0 ops) _ _

  object_is : (front value : Lowered) (its : Op) (ops : List Placed)
      → emitted (operand (operand front (operand value (only_at to.piece to.at its))) (only_at to.piece to.at op.Drop)) 0 ops
      ≡ (emitted front 0 ops >>= (λ at. emitted value 1 at >>= (λ mid. ended to its 2 mid)))
  unfolding pushed ended
  object_is front value its ops =
      operand_emitted (operand front (operand value (only_at to.piece to.at its))) (only_at to.piece to.at op.Drop) 0 ops
      ∙ ap (λ x. x >>= (λ mid. pushed to op.Drop 1 mid))
      (operand_emitted front (operand value (only_at to.piece to.at its)) 0 ops
      ∙ bind_same (emitted front 0 ops) _ _ (λ at. operand_emitted value (only_at to.piece to.at its) 1 at))
      ∙ bind_twice (emitted front 0 ops) _ _
      ∙ bind_same (emitted front 0 ops) _ _ (λ at. bind_twice (emitted value 1 at) _ _)

  address_is : (offset : ℕ) (ops : List Placed)
      → emitted (operand (only_at to.piece to.at (op.Address (object.Variable to.variable))) (only_at to.piece to.at (op.Offset offset))) 0 ops
      ≡ addressed to offset ops
  unfolding pushed addressed
  address_is offset ops =
      operand_emitted (only_at to.piece to.at (op.Address (object.Variable to.variable))) (only_at to.piece to.at (op.Offset offset)) 0 ops

  -- ---- scalars

  scalar_is : (in_slot : Bool) (parts : List Part) (its : Scalar) (ops : List Placed)
      → limited (ops ++ (given_dropped to.piece to.at
      (code_of.scalar_started setting function to.piece to.at in_slot to.variable parts its) (length ops)).ops)
      ≡ scalar_by in_slot setting to its (part_for its parts) ops
  unfolding slot_steps object_steps
  scalar_is true parts its ops =
      slot_is (scalar_code setting function to.piece to.at its.type_id (part_for its parts)) (op.Set to.variable) ops
      ∙ ap (λ x. x >>= (λ mid. ended to (op.Set to.variable) 1 mid)) (made_is its.type_id (part_for its parts) 0 ops)
  scalar_is false parts its ops =
      let access : code.Access = code_of.access_of_scalar setting function to.piece to.at its in
      let value : Lowered = scalar_code setting function to.piece to.at its.type_id (part_for its parts) in
      object_is (operand (only_at to.piece to.at (op.Address (object.Variable to.variable))) (only_at to.piece to.at (op.Offset its.offset)))
      value (op.Store access) ops
      ∙ ap (λ x. x >>= (λ at. emitted value 1 at >>= (λ mid. ended to (op.Store access) 2 mid))) (address_is its.offset ops)
      ∙ bind_same (addressed to its.offset ops) _ _ (λ at.
      ap (λ x. x >>= (λ mid. ended to (op.Store access) 2 mid)) (made_is its.type_id (part_for its parts) 1 at))

  scalars_is : (parts : List Part) (its : List Scalar) (ops : List Placed)
      → limited (ops ++ (scalars_started setting function to.piece to.at to.in_slot to.variable parts its (length ops)).ops)
      ≡ scalars_by setting to parts its ops
  unfolding scalar_steps
  scalars_is parts [] ops = ap limited (append-nil ops)
  scalars_is parts (its ∷ rest) ops =
      then_emitted ops
      (given_dropped to.piece to.at (code_of.scalar_started setting function to.piece to.at to.in_slot to.variable parts its) (length ops)).ops
      (λ start. (scalars_started setting function to.piece to.at to.in_slot to.variable parts rest start).ops)
      ∙ ap (λ x. x >>= (λ mid. limited (mid ++ (scalars_started setting function to.piece to.at to.in_slot to.variable parts rest (length mid)).ops)))
      (scalar_is to.in_slot parts its ops)
      ∙ bind_same (scalar_steps setting to its (part_for its parts) ops) _ _ (λ mid. scalars_is parts rest mid)

  -- ---- values

  value_is : (in_slot is_struct : Bool) → is_struct_row (row_of setting.types to.type_id) ≡ is_struct → (e : RightValue) (ops : List Placed)
      → limited (ops ++ (given_dropped to.piece to.at
      (value_started setting function to.piece to.at in_slot is_struct to.variable to.type_id (right_code setting function.variables to.piece e))
      (length ops)).ops)
      ≡ value_by setting function.variables to.piece to in_slot e ops
  unfolding right_emitted front_steps pushed
  value_is true is_struct is e ops = slot_is (right_code setting function.variables to.piece e) (op.Set to.variable) ops
  value_is false true is e ops =
      let access : code.Access = access_in (access_of_type setting to.type_id (class_of_type setting.same to.type_id)) in
      let value : Lowered = right_code setting function.variables to.piece e in
      object_is (only_at to.piece to.at (op.Address (object.Variable to.variable))) value (op.Store access) ops
      ∙ ap (λ it. front_by it to ops >>= (λ at. emitted value 1 at >>= (λ mid. ended to (op.Store access) 2 mid))) (sym is)
  value_is false false is e ops =
      let access : code.Access = access_in (access_of_type setting to.type_id (class_of_type setting.same to.type_id)) in
      let value : Lowered = right_code setting function.variables to.piece e in
      object_is (operand (only_at to.piece to.at (op.Address (object.Variable to.variable))) (only_at to.piece to.at (op.Offset 0)))
      value (op.Store access) ops
      ∙ ap (λ x. x >>= (λ at. emitted value 1 at >>= (λ mid. ended to (op.Store access) 2 mid))) (address_is 0 ops)
      ∙ ap (λ it. front_by it to ops >>= (λ at. emitted value 1 at >>= (λ mid. ended to (op.Store access) 2 mid))) (sym is)

-- ---- variables

module _ (setting : Setting) (function : TypedFunction) (piece : ℕ) (variable : ℕ) (at : Place) where
  -- the definition takes the same steps
  pub item_is : (its : tree.Starting) (ops : List Placed)
      → item_steps setting function piece (record { variable = variable; at = at; start = its }) ops
      ≡ initial_steps setting function.variables piece (target_of setting.types function.variables piece variable at.pos) its ops
  unfolding item_steps value_steps scalars_steps
  item_is (tree.value e) ops =
      let to : Target = target_of setting.types function.variables piece variable at.pos in
      value_is setting function to to.in_slot (is_struct_row (row_of setting.types to.type_id)) refl e ops
  item_is (tree.parts its) ops =
      let to : Target = target_of setting.types function.variables piece variable at.pos in
      scalars_is setting function to its (scalars_of setting.types to.type_id) ops

  -- the code does, for a context that has the variables of the function
  pub item_emitted : {A : Type 0} (result : Result A EmitEnd) (its : tree.Starting) (ops new : List Placed) (variables : List VariableDecl) (to : Target)
      → variables ≡ function.variables → to ≡ target_of setting.types variables piece variable at.pos
      → Emitted (initial_steps setting variables piece to its ops) new result
      → Emitted (item_steps setting function piece (record { variable = variable; at = at; start = its }) ops) new result
  item_emitted result its ops new variables to same that emitted =
      let there = subst (λ it. Emitted (initial_steps setting variables piece it its ops) new result) that emitted in
      let here = subst (λ list. Emitted (initial_steps setting list piece (target_of setting.types list piece variable at.pos) its ops) new result) same
      there in
      subst (λ whole. Emitted whole new result) (sym (item_is its ops)) here
