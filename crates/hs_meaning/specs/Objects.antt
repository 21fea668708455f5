-- Variables and their objects (X3.159-1989 3.1.2.4 and 3.5.7), and what a program starts with.
--     bindings types next variables      what variables without values are, if the next object has that number
--     objects_for types variables        their objects
--     starting_machine setting input     the machine before `main` is called
--     constant_value setting its         a constant, as a value
use Rattle.std.specs.Prelude.{ℕ, suc, pos, ◌+◌, List, [], ◌∷◌, ◌++◌, map, length, replicate, slice_get, Option, Some, None, if◌then◌else◌}
use Rattle.hs_heap.specs.declared.cell.Cell.{Cell}
use Rattle.hs_heap.specs.declared.cell.Cell.TheVariants.{Undefined, Byte}
use Rattle.hs_heap.specs.declared.cell.Pointer.TheVariants.{Nil, Fixed}
use Rattle.hs_meaning.specs.Accesses.{with_cells_from}
use Rattle.hs_meaning.specs.Classes.{class_of_scalar}
use Rattle.hs_meaning.specs.Machine.{Machine, Object, Binding, slot, object_at, permanent, automatic}
use Rattle.hs_meaning.specs.Settings.{Setting, access_of_type}
use Rattle.hs_meaning.specs.Values.{Value, number, pointer, Access, cells_for}
use Rattle.hs_meaning.specs.declared.input.Input.{Input}
use Rattle.hs_tree.specs.Classes.{is_slot}
use Rattle.hs_tree.specs.Kinds.{is_pointer}
use Rattle.hs_tree.specs.declared.constant.Base.{Base}
use Rattle.hs_tree.specs.declared.constant.Base.TheVariants as base
use Rattle.hs_tree.specs.declared.constant.Constant.{Constant}
use Rattle.hs_tree.specs.declared.constant.Constant.TheVariants as constant
use Rattle.hs_tree.specs.declared.constant.Part.{Part}
use Rattle.hs_tree.specs.declared.globals.Global.{Global}
use Rattle.hs_tree.specs.declared.head.VariableDecl.{VariableDecl}
use Rattle.hs_types.specs.TypeTables.{TypeTable, size_of}
use Rattle.hs_types.specs.declared.row.TypeId.{TypeId}

-- ---- variables

-- a slot has no value yet; objects have the next numbers
abbrev pub bindings : TypeTable → ℕ → List VariableDecl → List Binding
bindings types next [] = []
bindings types next (variable ∷ rest) =
    if is_slot types variable then slot None ∷ bindings types next rest else object_at next ∷ bindings types (suc next) rest

-- cells without values
abbrev pub objects_for : TypeTable → List VariableDecl → List Object
objects_for types [] = []
objects_for types (variable ∷ rest) =
    if is_slot types variable
    then objects_for types rest
    else record { cells = replicate (size_of types variable.type_id) Undefined; storage = automatic } ∷ objects_for types rest

-- ---- objects of the program

-- the variables of the program
abbrev pub variables_of : List Global → List VariableDecl
variables_of [] = []
variables_of (it ∷ rest) = it.variable ∷ variables_of rest

-- the number of the object of a variable, if it is one
abbrev pub object_in : Option Binding → ℕ
object_in None = 0
object_in (Some (slot value)) = 0
object_in (Some (object_at place)) = place

-- The objects of string literals come after those of variables.
abbrev pub object_of_base : Setting → Base → ℕ
object_of_base setting (base.Global place) = object_in (slice_get (bindings setting.types 0 (variables_of setting.globals)) place)
object_of_base setting (base.Literal place) = length (objects_for setting.types (variables_of setting.globals)) + place

-- as a value
abbrev pub constant_value : Setting → Constant → Value
constant_value setting (constant.Number bits) = number bits
constant_value setting constant.Nil = pointer Nil
constant_value setting (constant.Address its offset) = pointer (Fixed (object_of_base setting its) offset)

-- what a scalar inside an object reaches
abbrev pub access_of_part : Setting → Part → Access
access_of_part setting part = access_of_type setting part.type_id (class_of_scalar setting.same setting.taken part.type_id part.field)

-- the cells of an object, with these constants in it
abbrev pub with_parts : Setting → List Part → List Cell → List Cell
with_parts setting [] cells = cells
with_parts setting (part ∷ parts) cells =
    with_parts setting parts (with_cells_from (pos part.offset) (cells_for (access_of_part setting part) (constant_value setting part.value)) cells)

-- bytes that are 0, or its constants (3.5.7)
abbrev pub starting_object : Setting → Global → Object
starting_object setting it = record { cells = with_parts setting it.parts (replicate it.size (Byte 0)); storage = permanent }

-- the variables of the program that are objects
abbrev pub starting_objects : Setting → List Global → List Object
starting_objects setting [] = []
starting_objects setting (it ∷ rest) =
    if is_slot setting.types it.variable then starting_objects setting rest else starting_object setting it ∷ starting_objects setting rest

-- of a slot: its constant, or else 0 or NIL
abbrev pub starting_value : Setting → TypeId → List Part → Value
starting_value setting id [] = if is_pointer setting.types id then pointer Nil else number 0
starting_value setting id (part ∷ parts) = constant_value setting part.value

-- what the variables of the program are, if the next object has that number
abbrev pub starting_bindings : Setting → ℕ → List Global → List Binding
starting_bindings setting next [] = []
starting_bindings setting next (it ∷ rest) =
    if is_slot setting.types it.variable
    then slot (Some (starting_value setting it.variable.type_id it.parts)) ∷ starting_bindings setting next rest
    else object_at next ∷ starting_bindings setting (suc next) rest

-- a string literal, with its byte 0
abbrev pub literal_object : List ℕ → Object
literal_object bytes = record { cells = map Byte bytes; storage = permanent }

-- before `main` is called
abbrev pub starting_machine : Setting → Input → Machine
starting_machine setting input =
    record {
      blocks = [];
      objects = starting_objects setting setting.globals ++ map literal_object setting.literals;
      globals = starting_bindings setting 0 setting.globals;
      locals = [];
      frames = 0;
      bytes = input.bytes;
      words = input.words;
      refused = input.refused;
      allocations = 0;
      output = [];
    }
