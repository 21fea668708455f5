-- The begin of a call: its parameters are given their arguments, and other variables have no values (own).
--     Goes place id binding       an argument goes where its parameter is: to the slot, or to the class of the object
--     begun                       all that the function has is tracked
--     all_begun                   and so is all that the calls have that wait
use Rattle.std.proofs.Common.{◌≡◌, ◌<◌, ◌≤◌, ◌⊎◌, inl, inr, ℕ, zero, suc, pos, ◌+◌, Bool, true, false, List, [], ◌∷◌, length, map, take, replicate, slice_get, slice_set, Option, Some, None, refl, sym, ap, ◌∙◌, subst, arith, if◌then◌else◌}
use Rattle.std.specs.List.{AllByRecursion}
use Rattle.hs_base.specs.Entries.{all_appended, set_either, set_other}
use Rattle.hs_calls.specs.Calls.{Here, Wait, IsWait}
use Rattle.hs_chains.specs.Knowledge.{Knowledge}
use Rattle.hs_code.specs.declared.function_code.Placed.{Placed}
use Rattle.hs_code.specs.declared.op.Op.TheVariants as op
use Rattle.hs_code_run.specs.Codes.{CodeFunction, CodeProgram}
use Rattle.hs_facts.specs.Effects.{WholeCode}
use Rattle.hs_flow.specs.Calls.{base_of, entered}
use Rattle.hs_flow.specs.declared.fact.Slot.{Slot}
use Rattle.hs_flow.specs.declared.fact.Slot.TheVariants as flow_slot
use Rattle.hs_heap.specs.Blocks.{Block}
use Rattle.hs_heap.specs.declared.cell.Cell.{Cell}
use Rattle.hs_heap.specs.declared.cell.Cell.TheVariants.{Undefined, Byte, Part}
use Rattle.hs_heap.specs.declared.cell.Pointer.TheVariants.{Fixed}
use Rattle.hs_hiding.specs.Calls.{SameOutside, opened_same}
use Rattle.hs_hiding.specs.Holding.{OnDone, value_of}
use Rattle.hs_hiding.specs.Lists.{all_same, and_so, unless_so}
use Rattle.hs_meaning.specs.Accesses.{put_in_object, stored, use_stops, with_cells_at}
use Rattle.hs_meaning.specs.Classes.{class_of_type}
use Rattle.hs_meaning.specs.Frames.{given_all, given_to, has_frame, in_frame, opened, opened_if}
use Rattle.hs_meaning.specs.Machine.{Machine, Object, Binding, slot, object_at, done, value_of_slot, automatic}
use Rattle.hs_meaning.specs.Objects.{bindings, objects_for}
use Rattle.hs_meaning.specs.Settings.{Setting, access_of_type}
use Rattle.hs_meaning.specs.Values.{Value, number, pointer, state, structure, Access, of_number, of_pointer, of_struct, bytes_of, cells_for, length_of, store_stop}
use Rattle.hs_tracked.specs.Cells.{InObjects, each_block, each_object, objects_written}
use Rattle.hs_tracked.specs.Entering.{begin, waiting, enter_cells, enter_pointer, enter_reached, enter_value}
use Rattle.hs_tracked.specs.Going.{IsAt}
use Rattle.hs_tracked.specs.Right.{AreRight}
use Rattle.hs_tracked.specs.Tracking.{TrackedCell, TrackedCells, Tracked, AreTracked, AreAllTracked}
use Rattle.hs_flow.specs.Programs.{parameters_of}
use Rattle.hs_tree.specs.Classes.{is_slot}
use Rattle.hs_tree.specs.declared.head.Variable.{Variable}
use Rattle.hs_tree.specs.declared.head.Variable.TheVariants as name
use Rattle.hs_tree.specs.declared.head.VariableDecl.{VariableDecl}
use Rattle.hs_types.specs.Integers.{integer_size}
use Rattle.hs_types.specs.TypeTables.{TypeTable, size_of}
use Rattle.hs_types.specs.declared.row.TypeId.{TypeId}

-- ---- variables and objects of a call that begins

-- no variable has a value
pub no_value : (types : TypeTable) (k : ℕ) (variables : List VariableDecl) (i : ℕ) (v : Value)
    → value_of_slot (slice_get (bindings types k variables) i) ≡ Some v → ⊥
no_value types k [] i v holds = cc
no_value types k (variable ∷ rest) i v holds =
    by_slot (is_slot types variable) i (λ j is. no_value types k rest j v is) (λ j is. no_value types (suc k) rest j v is) holds
  where
    by_slot : (z : Bool) (i : ℕ) → ((j : ℕ) → value_of_slot (slice_get (bindings types k rest) j) ≡ Some v → ⊥)
        → ((j : ℕ) → value_of_slot (slice_get (bindings types (suc k) rest) j) ≡ Some v → ⊥)
        → value_of_slot (slice_get (if z then slot None ∷ bindings types k rest else object_at k ∷ bindings types (suc k) rest) i) ≡ Some v → ⊥
    by_slot true zero slots others holds = cc
    by_slot true (suc i) slots others holds = slots i holds
    by_slot false zero slots others holds = cc
    by_slot false (suc i) slots others holds = others i holds

-- no cell has a value
pub objects_free : (P : Cell → Type 0) → P Undefined → (types : TypeTable) (variables : List VariableDecl) → InObjects P (objects_for types variables)
objects_free P undefined types [] = tt
objects_free P undefined types (variable ∷ rest) = by_slot (is_slot types variable) (objects_free P undefined types rest)
  where
    by_slot : (z : Bool) → InObjects P (objects_for types rest)
        → InObjects P (if z then objects_for types rest
        else record { cells = replicate (size_of types variable.type_id) Undefined; storage = automatic } ∷ objects_for types rest)
    by_slot true others = others
    by_slot false others = (all_same P (size_of types variable.type_id) Undefined undefined, others)

module _ (whole : WholeCode) (known : Knowledge) (here : Here) (fn : ℕ) (setting : Setting) where
  -- the slot of the function that gets the argument of that number
  abbrev pub GetsArgument : ℕ → Slot → Type 0
  GetsArgument place to =
      entered (parameters_of whole fn) (known.at here.fn here.at)
      (flow_slot.Place (base_of (parameters_of whole fn) (known.at here.fn here.at) + place)) ≡ Some to

  -- an object of a pointer type, by its class
  abbrev pub GoesToClass : ℕ → Access → Type 0
  GoesToClass place (of_pointer class) = GetsArgument place (flow_slot.Class class)
  GoesToClass place other = Unit {0}

  -- a parameter that is a slot, or an object
  abbrev pub Goes : ℕ → TypeId → Option Binding → Type 0
  Goes place id None = Unit {0}
  Goes place id (Some (slot before)) = GetsArgument place (flow_slot.Variable (name.Local place))
  Goes place id (Some (object_at object)) = GoesToClass place (access_of_type setting id (class_of_type setting.same id))

module _ (whole : WholeCode) (known : Knowledge) (here : Here) (machine : Machine) (ws : List Wait) (its : Placed) (is_at : IsAt whole known here its)
    (fn : ℕ) (function : CodeFunction) (calls : its.op ≡ op.Call fn) (of_function : fn < length whole.functions)
    (right : AreRight whole known here machine) (setting : Setting) where
  -- the place of the first argument
  abbrev base : ℕ
  base = base_of (parameters_of whole fn) (known.at here.fn here.at)

  -- the arguments from that number on are tracked in the caller
  abbrev pub AreArguments : ℕ → List Value → Type 0
  AreArguments place [] = Unit {0}
  AreArguments place (v ∷ values) = Tracked whole known here machine ws (flow_slot.Place (base + place)) v × AreArguments (suc place) values

  -- ---- parameters are given, as seen from the machine with which the call begins in the end

  module _ (final : Machine) (blocks : final.blocks ≡ machine.blocks) where
    -- the call that begins
    abbrev pub new : Here
    new = begin whole known here machine ws its is_at fn function calls of_function right final blocks

    -- the calls that wait
    abbrev pub inside : List Wait
    inside = waiting whole known here machine ws its is_at fn function calls of_function right final blocks ∷ ws

    -- what is known of cells
    abbrev CellIs : Cell → Type 0
    CellIs = TrackedCell whole known new final inside

    -- objects and variables so far; variables from a place on are as they were
    record Filled (start : List Binding) (place : ℕ) (m : Machine) : Type 0 where
      objects : InObjects CellIs m.objects
      locals : (i : ℕ) (v : Value) → value_of_slot (slice_get m.locals i) ≡ Some v
          → Tracked whole known new final inside (flow_slot.Variable (name.Local i)) v
      later : (k : ℕ) → place ≤ k → slice_get m.locals k ≡ slice_get start k

    bytes_free : (bytes : List ℕ) → AllByRecursion CellIs (map Byte bytes)
    bytes_free [] = tt
    bytes_free (byte ∷ bytes) = (tt, bytes_free bytes)

    -- the cells that an argument leaves in its object
    cells_given : (place : ℕ) (reached : Access) (v : Value) → GoesToClass whole known here fn setting place reached
        → Tracked whole known here machine ws (flow_slot.Place (base + place)) v → AllByRecursion CellIs (cells_for reached v)
    cells_given place (of_number kind) (number bits) gets are = bytes_free (bytes_of (integer_size kind) bits)
    cells_given place (of_number kind) (state byte) gets are = (tt, tt)
    cells_given place (of_number kind) (pointer p) gets are = tt
    cells_given place (of_number kind) (structure cells) gets are = tt
    cells_given place (of_pointer class) (pointer p) gets are = (part, (part, (part, (part, tt))))
      where
        part : CellIs (Part 0 p class)
        part =
            enter_pointer whole known here machine ws its is_at fn function calls of_function right final blocks (flow_slot.Place (base + place))
            (flow_slot.Class class) gets p are
    cells_given place (of_pointer class) (number bits) gets are = tt
    cells_given place (of_pointer class) (state byte) gets are = tt
    cells_given place (of_pointer class) (structure cells) gets are = tt
    cells_given place (of_struct size) (structure cells) gets are =
        enter_cells whole known here machine ws its is_at fn function calls of_function right final blocks cells are
    cells_given place (of_struct size) (number bits) gets are = tt
    cells_given place (of_struct size) (state byte) gets are = tt
    cells_given place (of_struct size) (pointer p) gets are = tt

    -- a parameter that is a slot
    slot_given : (start : List Binding) (place : ℕ) (v : Value) (m : Machine)
        → GetsArgument whole known here fn setting place (flow_slot.Variable (name.Local place))
        → Tracked whole known here machine ws (flow_slot.Place (base + place)) v → Filled start place m
        → Filled start (suc place) (record m { locals = slice_set m.locals place (slot (Some v)) })
    slot_given start place v m gets are filled =
        record {
          objects = filled.objects;
          locals = λ i u holds. by_found i u (slice_get (slice_set m.locals place (slot (Some v))) i) refl holds;
          later = λ k from. set_other m.locals place (slot (Some v)) k (λ same. apart k same from) ∙ filled.later k (lower k from);
        }
      where
        lower : (k : ℕ) → suc place ≤ k → place ≤ k
        lower k from = omega (arith, from)

        apart : (k : ℕ) → k ≡ place → suc place ≤ k → ⊥
        apart k same from = absurd (omega (arith, same, from))

        of_argument : Tracked whole known new final inside (flow_slot.Variable (name.Local place)) v
        of_argument =
            enter_value whole known here machine ws its is_at fn function calls of_function right final blocks (flow_slot.Place (base + place))
            (flow_slot.Variable (name.Local place)) gets v are

        by_either : (i : ℕ) (u : Value) → (slice_get m.locals i ≡ Some (slot (Some u))) ⊎ ((i ≡ place) × (slot (Some v) ≡ slot (Some u)))
            → Tracked whole known new final inside (flow_slot.Variable (name.Local i)) u
        by_either i u (inl old) = filled.locals i u (ap value_of_slot old)
        by_either i u (inr both) =
            subst (λ j. Tracked whole known new final inside (flow_slot.Variable (name.Local j)) u) (sym both.0)
            (subst (Tracked whole known new final inside (flow_slot.Variable (name.Local place))) (same_value both.1) of_argument)
          where
            same_value : slot (Some v) ≡ slot (Some u) → v ≡ u
            same_value so = cc

        by_found : (i : ℕ) (u : Value) (found : Option Binding) → slice_get (slice_set m.locals place (slot (Some v))) i ≡ found
            → value_of_slot found ≡ Some u → Tracked whole known new final inside (flow_slot.Variable (name.Local i)) u
        by_found i u None at holds = absurd (none_some holds)
          where
            none_some : ◌≡◌ {A = Option Value} None (Some u) → ⊥
            none_some so = cc
        by_found i u (Some (object_at object)) at holds = absurd (none_some holds)
          where
            none_some : ◌≡◌ {A = Option Value} None (Some u) → ⊥
            none_some so = cc
        by_found i u (Some (slot None)) at holds = absurd (none_some holds)
          where
            none_some : ◌≡◌ {A = Option Value} None (Some u) → ⊥
            none_some so = cc
        by_found i u (Some (slot (Some w))) at holds =
            by_either i u (set_either m.locals place (slot (Some v)) i (slot (Some u)) (at ∙ ap (λ it. Some (slot it)) holds))

    -- a parameter that is an object
    object_given : (start : List Binding) (place object : ℕ) (reached : Access) (v : Value) (m : Machine)
        → GoesToClass whole known here fn setting place reached → Tracked whole known here machine ws (flow_slot.Place (base + place)) v → Filled start place m
        → OnDone (λ it after. Filled start (suc place) after) (stored reached (Fixed object (pos 0)) v m)
    object_given start place object reached v m gets are filled =
        unless_so (λ it after. Filled start (suc place) after) (store_stop reached v ∷ use_stops (Fixed object (pos 0)) (length_of reached) m) v
        (with_cells_at (Fixed object (pos 0)) (cells_for reached v) m) m
        (by_object (slice_get m.objects object)
        (objects_written CellIs (Fixed object (pos 0)) (cells_for reached v) m (cells_given place reached v gets are) filled.objects))
      where
        lower : (k : ℕ) → suc place ≤ k → place ≤ k
        lower k from = omega (arith, from)

        by_object : (found : Option Object) → InObjects CellIs (put_in_object object (pos 0) (cells_for reached v) m found).objects
            → Filled start (suc place) (put_in_object object (pos 0) (cells_for reached v) m found)
        by_object None objects = record { objects = objects; locals = filled.locals; later = λ k from. filled.later k (lower k from) }
        by_object (Some o) objects = record { objects = objects; locals = filled.locals; later = λ k from. filled.later k (lower k from) }

    -- a parameter
    one_given : (start : List Binding) (place : ℕ) (id : TypeId) (v : Value) (m : Machine) (binding : Option Binding)
        → Goes whole known here fn setting place id binding → Tracked whole known here machine ws (flow_slot.Place (base + place)) v → Filled start place m
        → OnDone (λ it after. Filled start (suc place) after) (given_to setting place id v binding m)
    one_given start place id v m None gets are filled = tt
    one_given start place id v m (Some (slot before)) gets are filled = slot_given start place v m gets are filled
    one_given start place id v m (Some (object_at object)) gets are filled =
        and_so (λ it after. Filled start (suc place) after) (λ it after. Filled start (suc place) after)
        (stored (access_of_type setting id (class_of_type setting.same id)) (Fixed object (pos 0)) v m) (λ it after. done tt after)
        (object_given start place object (access_of_type setting id (class_of_type setting.same id)) v m gets are filled) (λ it after is. is)

    -- each parameter from that place on goes where its argument is given
    abbrev pub AllGo : List Binding → ℕ → List VariableDecl → Type 0
    AllGo start place [] = Unit {0}
    AllGo start place (variable ∷ rest) =
        Goes whole known here fn setting place variable.type_id (slice_get start place) × AllGo start (suc place) rest

    all_given : (start : List Binding) (place : ℕ) (variables : List VariableDecl) (values : List Value) (m : Machine) → AllGo start place variables
        → AreArguments place values → Filled start place m
        → OnDone (λ it after. (end : ℕ) × Filled start end after) (given_all setting place variables values m)
    all_given start place [] values m go are filled = (place, filled)
    all_given start place (variable ∷ rest) [] m go are filled = tt
    all_given start place (variable ∷ rest) (v ∷ values) m go are filled =
        and_so (λ it after. Filled start (suc place) after) (λ it after. (end : ℕ) × Filled start end after)
        (given_to setting place variable.type_id v (slice_get m.locals place) m) (λ it after. given_all setting (suc place) rest values after)
        (one_given start place variable.type_id v m (slice_get m.locals place)
        (subst (Goes whole known here fn setting place variable.type_id) (sym (filled.later place (omega arith))) go.0) are.0 filled)
        (λ it after filled'. all_given start (suc place) rest values after go.1 are.1 filled')
        -- ---- what is in memory

    old_objects : (objects : List Object) → AllByRecursion (λ object. TrackedCells whole known here machine ws object.cells) objects → InObjects CellIs objects
    old_objects =
        each_object (TrackedCell whole known here machine ws) CellIs
        (enter_cells whole known here machine ws its is_at fn function calls of_function right final blocks)

    old_blocks : (old : List Block) → AllByRecursion (λ block. TrackedCells whole known here machine ws block.cells) old
        → AllByRecursion (λ block. TrackedCells whole known new final inside block.cells) old
    old_blocks =
        each_block (TrackedCell whole known here machine ws) CellIs
        (enter_cells whole known here machine ws its is_at fn function calls of_function right final blocks)

  -- ---- the law

  module _ (parameters : ℕ) (variables : List VariableDecl) (values : List Value) (after : Machine)
      (opens : opened setting parameters variables values machine ≡ done tt after) where
    -- the variables as the call begins
    abbrev pub start : List Binding
    start = bindings setting.types (length machine.objects) variables

    pub same : SameOutside machine after
    same = subst (OnDone (λ it after. SameOutside machine after)) opens (opened_same setting parameters variables values machine)

    filled : AllGo after same.blocks start 0 (take parameters variables) → AreArguments 0 values → AreTracked whole known here machine ws
        → (end : ℕ) × Filled after same.blocks start end after
    filled go are tracked =
        subst (OnDone (λ it m. (end : ℕ) × Filled after same.blocks start end m)) opens (by_room (has_frame (objects_for setting.types variables) machine))
      where
        before : Machine
        before = in_frame start (objects_for setting.types variables) machine

        first : Filled after same.blocks start 0 before
        first =
            record {
              objects =
                  all_appended (λ object. AllByRecursion (CellIs after same.blocks) object.cells) machine.objects (objects_for setting.types variables)
                  (old_objects after same.blocks machine.objects tracked.objects) (objects_free (CellIs after same.blocks) tt setting.types variables);
              locals = λ i v holds. absurd (no_value setting.types (length machine.objects) variables i v holds);
              later = λ k from. refl;
            }

        by_room : (z : Bool) → OnDone (λ it m. (end : ℕ) × Filled after same.blocks start end m) (opened_if z setting parameters variables values machine)
        by_room false = tt
        by_room true = all_given after same.blocks start 0 (take parameters variables) values before go are first

    -- All that the function has is tracked, if its arguments go where its parameters are.
    pub begun : AllGo after same.blocks start 0 (take parameters variables) → AreArguments 0 values → AreTracked whole known here machine ws
        → AreTracked whole known (new after same.blocks) after (inside after same.blocks)
    begun go are tracked =
        record {
          reached = enter_reached whole known here machine ws its is_at fn function calls of_function right after same.blocks tracked.reached;
          places = tt;
          variables = by_variable;
          blocks = subst (AllByRecursion (λ block. TrackedCells whole known (new after same.blocks) after (inside after same.blocks) block.cells))
              (sym same.blocks) (old_blocks after same.blocks machine.blocks tracked.blocks);
          objects = (filled go are tracked).1.objects;
        }
      where
        by_variable : (x : Variable) (v : Value) → value_of after x ≡ Some v
            → Tracked whole known (new after same.blocks) after (inside after same.blocks) (flow_slot.Variable x) v
        by_variable (name.Local i) v holds = (filled go are tracked).1.locals i v holds
        by_variable (name.Global g) v holds =
            enter_value whole known here machine ws its is_at fn function calls of_function right after same.blocks (flow_slot.Variable (name.Global g))
            (flow_slot.Variable (name.Global g)) refl v
            (tracked.variables (name.Global g) v (sym (ap value_of_slot (ap (λ gs. slice_get gs g) same.globals)) ∙ holds))

    -- The function goes on, and its caller waits.
    pub all_begun : (program : CodeProgram)
        → IsWait program (waiting whole known here machine ws its is_at fn function calls of_function right after same.blocks)
        → AllGo after same.blocks start 0 (take parameters variables) → AreArguments 0 values → AreAllTracked whole known program here machine ws
        → AreAllTracked whole known program (new after same.blocks) after (inside after same.blocks)
    all_begun program waits go are all = (begun go are (first ws all), waits, all)
      where
        first : (vs : List Wait) → AreAllTracked whole known program here machine vs → AreTracked whole known here machine vs
        first [] all = all
        first (v ∷ vs) all = all.0
