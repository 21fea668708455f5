-- A run begins: the call of `main` (own).
--     IsStarting count cell       a cell with which a run begins: its pointer is NIL or into an object, and of a class of the program
--     starting_cells              all cells before `main` is called
--     starting_globals            the values of the variables of the program
--     main_begun                  all that the call of `main` has is tracked, and so are its state bytes; each pointer in memory is of a class of the program
use Rattle.std.proofs.Common.{◌≡◌, ◌<◌, ◌++◌, ℕ, zero, suc, pos, Bool, true, false, List, [], ◌∷◌, length, map, replicate, take, slice_get, Option, Some, None, refl, sym, subst, if◌then◌else◌}
use Rattle.std.proofs.lemmas.Option.{none-some, same_Some}
use Rattle.std.specs.List.{AllByRecursion}
use Rattle.hs_base.specs.Entries.{all_appended}
use Rattle.hs_calls.specs.Calls.{Here, beginning}
use Rattle.hs_chains.specs.Chains.{begins}
use Rattle.hs_chains.specs.Knowledge.{Knowledge}
use Rattle.hs_code_run.specs.Codes.{CodeFunction}
use Rattle.hs_facts.specs.Effects.{WholeCode}
use Rattle.hs_flow.specs.declared.fact.Slot as flow_slot
use Rattle.hs_flow.specs.declared.fact.Slot.TheVariants as places
use Rattle.hs_heap.specs.declared.cell.Cell.{Cell}
use Rattle.hs_heap.specs.declared.cell.Cell.TheVariants.{Undefined, Byte, State, Part}
use Rattle.hs_heap.specs.declared.cell.Pointer.{Pointer}
use Rattle.hs_heap.specs.declared.cell.Pointer.TheVariants.{Nil, Fixed, Handle, Spot}
use Rattle.hs_hiding.specs.Holding.{value_of}
use Rattle.hs_hiding.specs.Lists.{all_same}
use Rattle.hs_lowering.specs.Laws.Listing.{AllAmong, all_back, all_front, listed_all, placed_in}
use Rattle.hs_meaning.specs.Accesses.{with_cells_from}
use Rattle.hs_meaning.specs.Classes.{class_if, class_of_scalar, classes_of, named_functions, named_globals, named_parts, same_class}
use Rattle.hs_meaning.specs.Frames.{given_all, has_frame, in_frame, opened, opened_if}
use Rattle.hs_meaning.specs.Machine.{Machine, Done, done, slot, object_at, value_of_slot}
use Rattle.hs_meaning.specs.Objects.{access_of_part, bindings, constant_value, literal_object, objects_for, starting_bindings, starting_machine, starting_object, starting_objects, starting_value, with_parts}
use Rattle.hs_meaning.specs.Settings.{Setting, access_by, setting_of}
use Rattle.hs_meaning.specs.Values.{Access, Value, number, pointer, state, structure, of_number, of_pointer, of_struct, bytes_of, cells_for}
use Rattle.hs_meaning.specs.declared.input.Input.{Input}
use Rattle.hs_tracked.specs.Beginning.{no_value, objects_free}
use Rattle.hs_tracked.specs.Bytes.{AreBytesTracked, bytes_begun}
use Rattle.hs_tracked.specs.Cells.{InObjects, each_cell, each_object, from_written}
use Rattle.hs_tracked.specs.Making.{HasNoFacts}
use Rattle.hs_tracked.specs.Restorable.{AreListed, IsListed, IsValueListed}
use Rattle.hs_tracked.specs.Tracking.{TrackedCell, Tracked, AreTracked}
use Rattle.hs_tree.specs.Classes.{is_slot}
use Rattle.hs_tree.specs.Kinds.{is_pointer, number_kind}
use Rattle.hs_tree.specs.Trees.{TypedProgram}
use Rattle.hs_tree.specs.declared.class.Class.{Class}
use Rattle.hs_tree.specs.declared.constant.Constant.{Constant}
use Rattle.hs_tree.specs.declared.constant.Constant.TheVariants as constant
use Rattle.hs_tree.specs.declared.constant.Part as parts_of_objects
use Rattle.hs_tree.specs.declared.globals.Global.{Global}
use Rattle.hs_tree.specs.declared.head.Variable.{Variable}
use Rattle.hs_tree.specs.declared.head.Variable.TheVariants as name
use Rattle.hs_tree.specs.declared.head.VariableDecl.{VariableDecl}
use Rattle.hs_types.specs.Integers.{integer_size}
use Rattle.hs_types.specs.declared.integer.Integer.{Integer}
use Rattle.hs_types.specs.declared.row.TypeId.{TypeId}

-- ---- cells and values with which a run begins

-- a pointer is NIL or into an object, and of one of so many classes
abbrev pub IsStarting : ℕ → Cell → Type 0
IsStarting count Undefined = Unit {0}
IsStarting count (Byte byte) = Unit {0}
IsStarting count (State byte) = Unit {0}
IsStarting count (Part at p class) = HasNoFacts (pointer p) × (class < count)

-- what a store reaches is of one of so many classes
abbrev pub IsAccessListed : ℕ → Access → Type 0
IsAccessListed count (of_number kind) = Unit {0}
IsAccessListed count (of_pointer class) = class < count
IsAccessListed count (of_struct size) = Unit {0}

bytes_start : (count : ℕ) (bytes : List ℕ) → AllByRecursion (IsStarting count) (map Byte bytes)
bytes_start count [] = tt
bytes_start count (byte ∷ bytes) = (tt, bytes_start count bytes)

-- the cells that a constant leaves
cells_start : (count : ℕ) (reached : Access) (v : Value) → HasNoFacts v → IsAccessListed count reached → AllByRecursion (IsStarting count) (cells_for reached v)
cells_start count (of_number kind) (number bits) is listed = bytes_start count (bytes_of (integer_size kind) bits)
cells_start count (of_number kind) (state byte) is listed = (tt, tt)
cells_start count (of_number kind) (pointer p) is listed = tt
cells_start count (of_number kind) (structure cells) is listed = tt
cells_start count (of_pointer class) (pointer p) is listed = ((is, listed), ((is, listed), ((is, listed), ((is, listed), tt))))
cells_start count (of_pointer class) (number bits) is listed = tt
cells_start count (of_pointer class) (state byte) is listed = tt
cells_start count (of_pointer class) (structure cells) is listed = tt
cells_start count (of_struct size) (structure cells) is listed = absurd is
cells_start count (of_struct size) (number bits) is listed = tt
cells_start count (of_struct size) (state byte) is listed = tt
cells_start count (of_struct size) (pointer p) is listed = tt

module _ (program : TypedProgram) where
  -- what a run needs of the program
  abbrev setting : Setting
  setting = setting_of program

  -- how many classes it has
  abbrev count : ℕ
  count = length (classes_of program)

  constant_plain : (its : Constant) → HasNoFacts (constant_value setting its)
  constant_plain (constant.Number bits) = tt
  constant_plain constant.Nil = tt
  constant_plain (constant.Address its at) = tt

  access_listed : (id : TypeId) (its : Class) (kind : Option Integer) (z : Bool) → AllAmong (classes_of program) (class_if z its)
      → IsAccessListed count (access_by setting id its kind z)
  access_listed id its (Some kind) z are = tt
  access_listed id its None true are = placed_in (same_class its) (classes_of program) are.0
  access_listed id its None false are = tt

  parts_start : (parts : List parts_of_objects.Part) (cells : List Cell) → AllAmong (classes_of program) (named_parts program parts)
      → AllByRecursion (IsStarting count) cells → AllByRecursion (IsStarting count) (with_parts setting parts cells)
  parts_start [] cells listed are = are
  parts_start (part ∷ parts) cells listed are =
      parts_start parts (with_cells_from (pos part.offset) (cells_for (access_of_part setting part) (constant_value setting part.value)) cells)
      (all_back (classes_of program)
      (class_if (is_pointer program.types part.type_id) (class_of_scalar program.same program.taken part.type_id part.field))
      (named_parts program parts) listed)
      (from_written (IsStarting count) (pos part.offset) (cells_for (access_of_part setting part) (constant_value setting part.value)) cells
      (cells_start count (access_of_part setting part) (constant_value setting part.value) (constant_plain part.value)
      (access_listed part.type_id (class_of_scalar program.same program.taken part.type_id part.field) (number_kind program.types part.type_id)
      (is_pointer program.types part.type_id)
      (all_front (classes_of program)
      (class_if (is_pointer program.types part.type_id) (class_of_scalar program.same program.taken part.type_id part.field)) (named_parts program parts)
      listed))) are)

  objects_start : (globals : List Global) → AllAmong (classes_of program) (named_globals program globals)
      → InObjects (IsStarting count) (starting_objects setting globals)
  objects_start [] listed = tt
  objects_start (it ∷ rest) listed =
      by_slot (is_slot program.types it.variable) listed (λ later. objects_start rest later)
    where
      by_slot : (z : Bool) → AllAmong (classes_of program) ((if z then [] else named_parts program it.parts) ++ named_globals program rest)
          → (AllAmong (classes_of program) (named_globals program rest) → InObjects (IsStarting count) (starting_objects setting rest))
          → InObjects (IsStarting count) (if z then starting_objects setting rest else starting_object setting it ∷ starting_objects setting rest)
      by_slot true listed others = others listed
      by_slot false listed others = (
        parts_start it.parts (replicate it.size (Byte 0)) (all_front (classes_of program) (named_parts program it.parts) (named_globals program rest) listed)
            (all_same (IsStarting count) it.size (Byte 0) tt),
        others (all_back (classes_of program) (named_parts program it.parts) (named_globals program rest) listed),
      )

  literals_start : (literals : List (List ℕ)) → InObjects (IsStarting count) (map literal_object literals)
  literals_start [] = tt
  literals_start (bytes ∷ rest) = (bytes_start count bytes, literals_start rest)

  -- All cells before `main` is called.
  pub starting_cells : (input : Input) → InObjects (IsStarting count) (starting_machine setting input).objects
  starting_cells input =
      all_appended (λ o. AllByRecursion (IsStarting count) o.cells) (starting_objects setting program.globals) (map literal_object program.literals)
      (objects_start program.globals
      (all_front (classes_of program) (named_globals program program.globals) (named_functions program program.functions)
      (listed_all [] (named_globals program program.globals ++ named_functions program program.functions))))
      (literals_start program.literals)

  value_plain : (id : TypeId) (parts : List parts_of_objects.Part) → HasNoFacts (starting_value setting id parts)
  value_plain id (part ∷ parts) = constant_plain part.value
  value_plain id [] = by_kind (is_pointer setting.types id)
    where
      by_kind : (z : Bool) → HasNoFacts (if z then pointer Nil else number 0)
      by_kind true = tt
      by_kind false = tt

  -- The values of the variables of the program.
  pub starting_globals : (k : ℕ) (globals : List Global) (g : ℕ) (v : Value)
      → value_of_slot (slice_get (starting_bindings setting k globals) g) ≡ Some v → HasNoFacts v
  starting_globals k [] g v is = absurd (none-some v is)
  starting_globals k (it ∷ rest) g v is =
      by_slot (is_slot program.types it.variable) g (λ j so. starting_globals k rest j v so) (λ j so. starting_globals (suc k) rest j v so) is
    where
      by_slot : (z : Bool) (g : ℕ) → ((j : ℕ) → value_of_slot (slice_get (starting_bindings setting k rest) j) ≡ Some v → HasNoFacts v)
          → ((j : ℕ) → value_of_slot (slice_get (starting_bindings setting (suc k) rest) j) ≡ Some v → HasNoFacts v)
          → value_of_slot (slice_get (if z then slot (Some (starting_value setting it.variable.type_id it.parts)) ∷ starting_bindings setting k rest
          else object_at k ∷ starting_bindings setting (suc k) rest) g) ≡ Some v → HasNoFacts v
      by_slot true zero slots others so =
          subst HasNoFacts (same_Some (starting_value setting it.variable.type_id it.parts) v so) (value_plain it.variable.type_id it.parts)
      by_slot true (suc g) slots others so = slots g so
      by_slot false zero slots others so = absurd (none-some v so)
      by_slot false (suc g) slots others so = others g so

-- ---- the call of main

-- a call without arguments that begins has no parameters
opened_none : (setting : Setting) (parameters : ℕ) (variables : List VariableDecl) (machine after : Machine)
    → opened setting parameters variables [] machine ≡ done tt after
    → in_frame (bindings setting.types (length machine.objects) variables) (objects_for setting.types variables) machine ≡ after
opened_none setting parameters variables machine after is =
    by_room (has_frame (objects_for setting.types variables) machine) is
  where
    same_after : (a b : Machine) → ◌≡◌ {A = Done (Unit {0})} (done tt a) (done tt b) → a ≡ b
    same_after a b so = cc

    by_given : (those : List VariableDecl) (m : Machine) → given_all setting 0 those [] m ≡ done tt after → m ≡ after
    by_given [] m so = same_after m after so
    by_given (variable ∷ rest) m so = absurd cc

    by_room : (z : Bool) → opened_if z setting parameters variables [] machine ≡ done tt after
        → in_frame (bindings setting.types (length machine.objects) variables) (objects_for setting.types variables) machine ≡ after
    by_room true so =
        by_given (take parameters variables)
        (in_frame (bindings setting.types (length machine.objects) variables) (objects_for setting.types variables) machine) so
    by_room false so = absurd cc

module _ (whole : WholeCode) (known : Knowledge) (classes : whole.classes ≡ classes_of whole.program) (input : Input) (function : CodeFunction)
    (after : Machine)
    (opens : opened (setting_of whole.program) function.parameters function.variables []
    (starting_machine (setting_of whole.program) input) ≡ done tt after) where
  -- before `main` is called
  abbrev start : Machine
  start = starting_machine (setting_of whole.program) input

  -- the call of `main`
  abbrev pub main_call : Here
  main_call = beginning whole.program.main function start

  -- the machine after its begin
  abbrev framed : Machine
  framed = in_frame (bindings whole.program.types (length start.objects) function.variables) (objects_for whole.program.types function.variables) start

  begun_is : framed ≡ after
  begun_is = opened_none (setting_of whole.program) function.parameters function.variables start after opens

  all_cells : InObjects (IsStarting (length (classes_of whole.program))) framed.objects
  all_cells =
      all_appended (λ o. AllByRecursion (IsStarting (length (classes_of whole.program))) o.cells) start.objects
      (objects_for whole.program.types function.variables)
      (starting_cells whole.program input)
      (objects_free (IsStarting (length (classes_of whole.program))) tt whole.program.types function.variables)

  plain_values : (x : Variable) (v : Value) → value_of framed x ≡ Some v → HasNoFacts v
  plain_values (name.Global g) v is = starting_globals whole.program 0 whole.program.globals g v is
  plain_values (name.Local i) v is = absurd (no_value whole.program.types (length start.objects) function.variables i v is)

  -- ---- they are tracked

  plain_pointer : (m : Machine) (of : flow_slot.Slot) (p : Pointer) → HasNoFacts (pointer p) → Tracked whole known main_call m [] of (pointer p)
  plain_pointer m of Nil is = tt
  plain_pointer m of (Fixed object at) is = tt
  plain_pointer m of (Handle n) is = absurd is
  plain_pointer m of (Spot its) is = absurd is

  plain_tracked : (m : Machine) (of : flow_slot.Slot) (v : Value) → HasNoFacts v → Tracked whole known main_call m [] of v
  plain_tracked m of (number bits) is = tt
  plain_tracked m of (pointer p) is = plain_pointer m of p is
  plain_tracked m of (state byte) is = tt
  plain_tracked m of (structure cells) is = absurd is

  plain_listed : (many : ℕ) (v : Value) → HasNoFacts v → IsValueListed many v
  plain_listed many (number bits) is = tt
  plain_listed many (pointer p) is = tt
  plain_listed many (state byte) is = tt
  plain_listed many (structure cells) is = absurd is

  cell_tracked : (m : Machine) (cell : Cell) → IsStarting (length (classes_of whole.program)) cell → TrackedCell whole known main_call m [] cell
  cell_tracked m Undefined is = tt
  cell_tracked m (Byte byte) is = tt
  cell_tracked m (State byte) is = tt
  cell_tracked m (Part at p class) is = plain_pointer m (places.Class class) p is.0

  cell_listed : (cell : Cell) → IsStarting (length (classes_of whole.program)) cell → IsListed (length whole.classes) cell
  cell_listed Undefined is = tt
  cell_listed (Byte byte) is = tt
  cell_listed (State byte) is = tt
  cell_listed (Part at p class) is = subst (λ cs. class < length cs) (sym classes) is.1

  pub main_begun : AreTracked whole known main_call after [] × AreBytesTracked whole known main_call after []
      × AreListed (length whole.classes) main_call after
  main_begun = (
    subst (λ m. AreTracked whole known main_call m []) begun_is
        (record {
          reached = record { length = 1; calls = []; chain = begins; same = tt };
          places = tt;
          variables = λ x v is. plain_tracked framed (places.Variable x) v (plain_values x v is);
          blocks = tt;
          objects = each_object (IsStarting (length (classes_of whole.program))) (TrackedCell whole known main_call framed [])
              (each_cell (IsStarting (length (classes_of whole.program))) (TrackedCell whole known main_call framed []) (cell_tracked framed))
              framed.objects
              all_cells;
        }),
    bytes_begun whole known main_call after [] refl,
    subst (λ m. AreListed (length whole.classes) main_call m) begun_is
        (record {
          stack = tt;
          variables = λ x v is. plain_listed (length whole.classes) v (plain_values x v is);
          blocks = tt;
          objects = each_object (IsStarting (length (classes_of whole.program))) (IsListed (length whole.classes))
              (each_cell (IsStarting (length (classes_of whole.program))) (IsListed (length whole.classes)) cell_listed) framed.objects all_cells;
        }),
  )
