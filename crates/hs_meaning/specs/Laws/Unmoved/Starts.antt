-- Before `main` is called nothing was moved.
--     constant_unmoved         constants
--     starting_is_still        the machine with which a run begins
use Rattle.std.proofs.Common.{ℕ, suc, pos, Bool, true, false, List, [], ◌∷◌, map, replicate, Some, refl, if◌then◌else◌}
use Rattle.std.specs.List.{AllByRecursion}
use Rattle.hs_heap.specs.declared.cell.Cell.{Cell}
use Rattle.hs_heap.specs.declared.cell.Cell.TheVariants.{Byte}
use Rattle.hs_heap.specs.declared.cell.Pointer.TheVariants.{Nil}
use Rattle.hs_meaning.specs.Accesses.{with_cells_from}
use Rattle.hs_meaning.specs.Laws.Unmoved.{IsUnmovedCell, AreUnmoved, IsUnmoved, IsUnmovedBinding, IsUnmovedObject, IsStillMachine}
use Rattle.hs_meaning.specs.Laws.Unmoved.Accesses.{with_cells_from_unmoved}
use Rattle.hs_meaning.specs.Laws.Unmoved.Lists.{all_append, all_replicate, all_either, all_map}
use Rattle.hs_meaning.specs.Laws.Unmoved.Values.{bytes_unmoved, cells_for_unmoved}
use Rattle.hs_meaning.specs.Machine.{slot, object_at}
use Rattle.hs_meaning.specs.Objects.{constant_value, access_of_part, with_parts, starting_object, starting_objects, starting_value, starting_bindings, literal_object, starting_machine}
use Rattle.hs_meaning.specs.Settings.{Setting}
use Rattle.hs_meaning.specs.Values.{number, pointer, cells_for}
use Rattle.hs_meaning.specs.declared.input.Input.{Input}
use Rattle.hs_tree.specs.Classes.{is_slot}
use Rattle.hs_tree.specs.Kinds.{is_pointer}
use Rattle.hs_tree.specs.declared.constant.Constant.{Constant}
use Rattle.hs_tree.specs.declared.constant.Constant.TheVariants as constant
use Rattle.hs_tree.specs.declared.constant.Part.{Part}
use Rattle.hs_tree.specs.declared.globals.Global.{Global}
use Rattle.hs_types.specs.declared.row.TypeId.{TypeId}

module _ (setting : Setting) where
  -- a constant
  pub constant_unmoved : (its : Constant) → IsUnmoved (constant_value setting its)
  constant_unmoved (constant.Number bits) = tt
  constant_unmoved constant.Nil = refl
  constant_unmoved (constant.Address its offset) = refl

  -- ---- objects

  parts_unmoved : (parts : List Part) (cells : List Cell) → AreUnmoved cells → AreUnmoved (with_parts setting parts cells)
  parts_unmoved [] cells are = are
  parts_unmoved (part ∷ parts) cells are =
      parts_unmoved parts
      (with_cells_from (pos part.offset) (cells_for (access_of_part setting part) (constant_value setting part.value)) cells)
      (with_cells_from_unmoved (pos part.offset) (cells_for (access_of_part setting part) (constant_value setting part.value)) cells
      (cells_for_unmoved (access_of_part setting part) (constant_value setting part.value) (constant_unmoved part.value)) are)

  object_unmoved : (it : Global) → IsUnmovedObject (starting_object setting it)
  object_unmoved it = parts_unmoved it.parts (replicate it.size (Byte 0)) (all_replicate IsUnmovedCell it.size (Byte 0) tt)

  objects_unmoved : (globals : List Global) → AllByRecursion IsUnmovedObject (starting_objects setting globals)
  objects_unmoved [] = tt
  objects_unmoved (it ∷ rest) =
      all_either IsUnmovedObject (is_slot setting.types it.variable) (starting_objects setting rest)
      (starting_object setting it ∷ starting_objects setting rest) (objects_unmoved rest) (object_unmoved it, objects_unmoved rest)

  literals_unmoved : (literals : List (List ℕ)) → AllByRecursion IsUnmovedObject (map literal_object literals)
  literals_unmoved literals = all_map IsUnmovedObject literal_object bytes_unmoved literals

  -- ---- variables

  zero_unmoved : (b : Bool) → IsUnmoved (if b then pointer Nil else number 0)
  zero_unmoved true = refl
  zero_unmoved false = tt

  value_unmoved : (id : TypeId) (parts : List Part) → IsUnmoved (starting_value setting id parts)
  value_unmoved id [] = zero_unmoved (is_pointer setting.types id)
  value_unmoved id (part ∷ parts) = constant_unmoved part.value

  bindings_unmoved : (next : ℕ) (globals : List Global) → AllByRecursion IsUnmovedBinding (starting_bindings setting next globals)
  bindings_unmoved next [] = tt
  bindings_unmoved next (it ∷ rest) =
      all_either IsUnmovedBinding (is_slot setting.types it.variable)
      (slot (Some (starting_value setting it.variable.type_id it.parts)) ∷ starting_bindings setting next rest)
      (object_at next ∷ starting_bindings setting (suc next) rest) (value_unmoved it.variable.type_id it.parts, bindings_unmoved next rest)
      (tt, bindings_unmoved (suc next) rest)

-- the machine with which a run begins
pub starting_is_still : (setting : Setting) (input : Input) → IsStillMachine (starting_machine setting input)
starting_is_still setting input =
    record {
      blocks = tt;
      objects =
          all_append IsUnmovedObject (starting_objects setting setting.globals) (map literal_object setting.literals)
          (objects_unmoved setting setting.globals) (literals_unmoved setting setting.literals);
      globals = bindings_unmoved setting 0 setting.globals;
      locals = tt;
    }
