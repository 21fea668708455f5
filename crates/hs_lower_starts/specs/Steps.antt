-- The code of first values in steps, one for each function that emits it.
--     pushed to its places ops          with one operation more
--     addressed, ended, made, ..        with a few that are always the same
--     scalar_steps, scalars_steps       with the constant of a scalar, and with those of all
--     value_steps, initial_steps        with a value, and with what a variable starts with
use Rattle.std.specs.Prelude.{ℤ, ℕ, ◌+◌, Bool, true, false, List, [], ◌∷◌, slice_get, Option, Some, None}
use Rattle.hs_base.specs.declared.pos.Pos.{Pos}
use Rattle.hs_code.specs.declared.function_code.Placed.{Placed}
use Rattle.hs_code.specs.declared.op.Access as code
use Rattle.hs_code.specs.declared.op.Object.{Object}
use Rattle.hs_code.specs.declared.op.Object.TheVariants as object
use Rattle.hs_code.specs.declared.op.Op.{Op}
use Rattle.hs_code.specs.declared.op.Op.TheVariants as op
use Rattle.hs_lower_expressions.specs.Emitting.{limited, ◌>>=◌, emitted, right_emitted}
use Rattle.hs_lowering.specs.Lowering.{access_in}
use Rattle.hs_lowering.specs.Statements.{only_at}
use Rattle.hs_meaning.specs.Classes.{class_of_type, class_of_scalar, is_slot_declared}
use Rattle.hs_meaning.specs.Numbers.{bits_of}
use Rattle.hs_meaning.specs.Scalars.{Scalar, scalars_of}
use Rattle.hs_meaning.specs.Settings.{Setting, access_of_type}
use Rattle.hs_meaning.specs.Statements.{part_for, type_in}
use Rattle.hs_tree.specs.Kinds.{is_pointer, is_struct_row}
use Rattle.hs_tree.specs.Trees as tree
use Rattle.hs_tree.specs.Trees.{RightValue, Starting}
use Rattle.hs_tree.specs.declared.constant.Base.{Base}
use Rattle.hs_tree.specs.declared.constant.Base.TheVariants as base
use Rattle.hs_tree.specs.declared.constant.Constant.{Constant}
use Rattle.hs_tree.specs.declared.constant.Constant.TheVariants as constant
use Rattle.hs_tree.specs.declared.constant.Part.{Part}
use Rattle.hs_tree.specs.declared.head.Variable.TheVariants as name
use Rattle.hs_tree.specs.declared.head.VariableDecl.{VariableDecl}
use Rattle.hs_types.specs.TypeTables.{TypeTable, row_of}
use Rattle.hs_types.specs.declared.row.TypeId.{TypeId}
use Rattle.hs_lower_starts.specs.declared.puts.Target.{Target}

-- the variable of that place, at its name
abbrev pub target_of : TypeTable → List VariableDecl → ℕ → ℕ → Pos → Target
target_of types variables piece variable at =
    record {
      piece = piece;
      at = at;
      variable = name.Local variable;
      type_id = type_in (slice_get variables variable);
      in_slot = is_slot_declared types (slice_get variables variable);
    }

-- the object of an address constant
abbrev pub base_object : Base → Object
base_object (base.Global place) = object.Variable (name.Global place)
base_object (base.Literal place) = object.Literal place

-- 0 or NIL
abbrev pub zero_op : Bool → Op
zero_op true = op.Nil
zero_op false = op.Num 0

-- ---- operations that are always the same

-- one operation
unfoldable pub pushed : Target → Op → ℕ → List Placed → Option (List Placed)
pushed to its places ops = emitted (only_at to.piece to.at its) places ops

-- the address of so many bytes on in the variable
unfoldable pub addressed : Target → ℕ → List Placed → Option (List Placed)
addressed to offset ops = pushed to (op.Address (object.Variable to.variable)) 0 ops >>= (λ mid. pushed to (op.Offset offset) 1 mid)

-- what takes a value, and the end of what it leaves
unfoldable pub ended : Target → Op → ℕ → List Placed → Option (List Placed)
ended to its places ops = pushed to its places ops >>= (λ mid. pushed to op.Drop 1 mid)

-- ---- constants

-- an address constant
unfoldable pub address_made : Target → Base → ℤ → ℕ → List Placed → Option (List Placed)
address_made to its offset depth ops =
    pushed to (op.Address (base_object its)) depth ops
    >>= (λ front. pushed to (op.Num (bits_of offset)) (depth + 1) front
    >>= (λ bytes. pushed to (op.Step (record { size = 1; backward = false }) true) (depth + 2) bytes))

-- any constant
abbrev pub constant_made : Target → Constant → ℕ → List Placed → Option (List Placed)
constant_made to (constant.Number bits) depth ops = pushed to (op.Num bits) depth ops
constant_made to constant.Nil depth ops = pushed to op.Nil depth ops
constant_made to (constant.Address its offset) depth ops = address_made to its offset depth ops

-- the constant of a scalar of that type, or 0 or NIL
abbrev pub made_by : TypeTable → Target → TypeId → Option Part → ℕ → List Placed → Option (List Placed)
made_by types to id None depth ops = pushed to (zero_op (is_pointer types id)) depth ops
made_by types to id (Some part) depth ops = constant_made to part.value depth ops

-- the same as a step of its own
unfoldable pub made : TypeTable → Target → TypeId → Option Part → ℕ → List Placed → Option (List Placed)
made types to id part depth ops = made_by types to id part depth ops

-- ---- scalars

-- of a slot
unfoldable pub slot_steps : TypeTable → Target → Scalar → Option Part → List Placed → Option (List Placed)
slot_steps types to its part ops = made types to its.type_id part 0 ops >>= (λ mid. ended to (op.Set to.variable) 1 mid)

-- what a scalar inside an object reaches
abbrev pub access_of_scalar : Setting → Scalar → code.Access
access_of_scalar setting its = access_in (access_of_type setting its.type_id (class_of_scalar setting.same setting.taken its.type_id its.field))

-- inside an object
unfoldable pub object_steps : Setting → Target → Scalar → Option Part → List Placed → Option (List Placed)
object_steps setting to its part ops =
    addressed to its.offset ops
    >>= (λ front. made setting.types to its.type_id part 1 front
    >>= (λ mid. ended to (op.Store (access_of_scalar setting its)) 2 mid))

-- one of the two
abbrev pub scalar_by : Bool → Setting → Target → Scalar → Option Part → List Placed → Option (List Placed)
scalar_by true setting to its part ops = slot_steps setting.types to its part ops
scalar_by false setting to its part ops = object_steps setting to its part ops

-- with its constant
unfoldable pub scalar_steps : Setting → Target → Scalar → Option Part → List Placed → Option (List Placed)
scalar_steps setting to its part ops = scalar_by to.in_slot setting to its part ops

-- all of them
abbrev pub scalars_by : Setting → Target → List Part → List Scalar → List Placed → Option (List Placed)
scalars_by setting to parts [] ops = limited ops
scalars_by setting to parts (its ∷ rest) ops =
    scalar_steps setting to its (part_for its parts) ops >>= (λ mid. scalars_by setting to parts rest mid)

-- the same as a step of its own
unfoldable pub scalars_steps : Setting → Target → List Part → List Scalar → List Placed → Option (List Placed)
scalars_steps setting to parts its ops = scalars_by setting to parts its ops

-- ---- values

-- the address of the object that gets a value
abbrev pub front_by : Bool → Target → List Placed → Option (List Placed)
front_by true to ops = pushed to (op.Address (object.Variable to.variable)) 0 ops
front_by false to ops = addressed to 0 ops

-- by the type of the variable
unfoldable pub front_steps : TypeTable → Target → List Placed → Option (List Placed)
front_steps types to ops = front_by (is_struct_row (row_of types to.type_id)) to ops

module _ (setting : Setting) (variables : List VariableDecl) (piece : ℕ) (to : Target) where
  -- of a slot, or of an object
  abbrev pub value_by : Bool → RightValue → List Placed → Option (List Placed)
  value_by true e ops = right_emitted setting variables piece e 0 ops >>= (λ mid. ended to (op.Set to.variable) 1 mid)
  value_by false e ops =
      front_steps setting.types to ops
      >>= (λ front. right_emitted setting variables piece e 1 front
      >>= (λ mid. ended to (op.Store (access_in (access_of_type setting to.type_id (class_of_type setting.same to.type_id)))) 2 mid))

  -- the value of an expression
  unfoldable pub value_steps : RightValue → List Placed → Option (List Placed)
  value_steps e ops = value_by to.in_slot e ops

  -- a value, or constants for the scalars
  abbrev pub initial_steps : Starting → List Placed → Option (List Placed)
  initial_steps (tree.value e) ops = value_steps e ops
  initial_steps (tree.parts its) ops = scalars_steps setting to its (scalars_of setting.types to.type_id) ops
