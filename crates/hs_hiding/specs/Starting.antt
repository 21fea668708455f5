-- A run begins with no handle anywhere (own).
--     starting_lacks      the machine before `main` is called
use Rattle.std.proofs.Common.{ℕ, suc, pos, Bool, true, false, List, [], ◌∷◌, map, replicate, Some, if◌then◌else◌}
use Rattle.std.specs.List.{AllByRecursion}
use Rattle.hs_base.specs.Entries.{all_appended}
use Rattle.hs_heap.specs.declared.cell.Cell.{Cell}
use Rattle.hs_heap.specs.declared.cell.Cell.TheVariants.{Byte}
use Rattle.hs_heap.specs.declared.cell.Pointer.TheVariants.{Nil}
use Rattle.hs_hiding.specs.Holding.{Cells, CellLacks, Lacks, Objects, LackingOutside, BindingLacks}
use Rattle.hs_hiding.specs.Lists.{all_same}
use Rattle.hs_hiding.specs.Storing.{cells_lack, bytes_lack, from_lacks}
use Rattle.hs_meaning.specs.Accesses.{with_cells_from}
use Rattle.hs_meaning.specs.Machine.{slot, object_at}
use Rattle.hs_meaning.specs.Objects.{constant_value, access_of_part, with_parts, starting_object, starting_objects, starting_value, starting_bindings, literal_object, starting_machine}
use Rattle.hs_meaning.specs.Settings.{Setting}
use Rattle.hs_meaning.specs.Values.{number, pointer, cells_for}
use Rattle.hs_meaning.specs.declared.input.Input.{Input}
use Rattle.hs_tree.specs.Classes.{is_slot}
use Rattle.hs_tree.specs.Kinds.{is_pointer}
use Rattle.hs_tree.specs.declared.constant.Constant.{Constant}
use Rattle.hs_tree.specs.declared.constant.Constant.TheVariants as constant
use Rattle.hs_tree.specs.declared.constant.Part.{Part}
use Rattle.hs_tree.specs.declared.globals.Global.{Global}
use Rattle.hs_types.specs.declared.row.TypeId.{TypeId}

module _ (n : ℕ) (setting : Setting) where
  constant_lacks : (its : Constant) → Lacks n (constant_value setting its)
  constant_lacks (constant.Number bits) = tt
  constant_lacks constant.Nil = tt
  constant_lacks (constant.Address its at) = tt

  parts_lack : (parts : List Part) (cells : List Cell) → Cells n cells → Cells n (with_parts setting parts cells)
  parts_lack [] cells are = are
  parts_lack (part ∷ parts) cells are =
      parts_lack parts (with_cells_from (pos part.offset) (cells_for (access_of_part setting part) (constant_value setting part.value)) cells)
      (from_lacks n (pos part.offset) (cells_for (access_of_part setting part) (constant_value setting part.value)) cells
      (cells_lack n (access_of_part setting part) (constant_value setting part.value) (constant_lacks part.value)) are)

  objects_lack : (globals : List Global) → Objects n (starting_objects setting globals)
  objects_lack [] = tt
  objects_lack (it ∷ rest) = by_slot (is_slot setting.types it.variable) (objects_lack rest)
    where
      by_slot : (z : Bool) → Objects n (starting_objects setting rest)
          → Objects n (if z then starting_objects setting rest else starting_object setting it ∷ starting_objects setting rest)
      by_slot true others = others
      by_slot false others = (parts_lack it.parts (replicate it.size (Byte 0)) (all_same (CellLacks n) it.size (Byte 0) tt), others)

  value_lacks : (id : TypeId) (parts : List Part) → Lacks n (starting_value setting id parts)
  value_lacks id (part ∷ parts) = constant_lacks part.value
  value_lacks id [] = by_kind (is_pointer setting.types id)
    where
      by_kind : (z : Bool) → Lacks n (if z then pointer Nil else number 0)
      by_kind true = tt
      by_kind false = tt

  bindings_lack : (k : ℕ) (globals : List Global) → AllByRecursion (BindingLacks n) (starting_bindings setting k globals)
  bindings_lack k [] = tt
  bindings_lack k (it ∷ rest) = by_slot (is_slot setting.types it.variable) (bindings_lack k rest) (bindings_lack (suc k) rest)
    where
      by_slot : (z : Bool) → AllByRecursion (BindingLacks n) (starting_bindings setting k rest)
          → AllByRecursion (BindingLacks n) (starting_bindings setting (suc k) rest)
          → AllByRecursion (BindingLacks n) (if z then slot (Some (starting_value setting it.variable.type_id it.parts)) ∷ starting_bindings setting k rest
          else object_at k ∷ starting_bindings setting (suc k) rest)
      by_slot true slots others = (value_lacks it.variable.type_id it.parts, slots)
      by_slot false slots others = (tt, others)

  literals_lack : (literals : List (List ℕ)) → Objects n (map literal_object literals)
  literals_lack [] = tt
  literals_lack (bytes ∷ rest) = (bytes_lack n bytes, literals_lack rest)

  pub starting_lacks : (input : Input) → LackingOutside n (starting_machine setting input)
  starting_lacks input =
      record {
        globals = bindings_lack 0 setting.globals;
        blocks = tt;
        objects =
            all_appended (λ o. AllByRecursion (CellLacks n) o.cells) (starting_objects setting setting.globals) (map literal_object setting.literals)
            (objects_lack setting.globals) (literals_lack setting.literals);
      }
