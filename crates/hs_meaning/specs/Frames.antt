-- Calls of functions (X3.159-1989 3.3.2.2; frames and their limits are own).
--     has_frame new machine                      the machine has a frame for a call, bytes for its objects, and numbers for them
--     opened setting parameters variables arguments machine      the call begins: its variables have no values, but for the parameters
--     closed caller machine                      it ends: its objects end, and the variables are those of the caller again
--     missing_value setting result machine       what it gives if it ends without a value
use Rattle.std.specs.Prelude.{ℕ, suc, pos, ◌+◌, ◌-◌, nat_le, Bool, true, false, ◌&&◌, List, [], ◌∷◌, ◌++◌, length, take, slice_get, slice_set, Option, Some, None}
use Rattle.hs_heap.specs.declared.cell.Pointer.TheVariants.{Nil, Fixed}
use Rattle.hs_meaning.specs.Accesses.{stored}
use Rattle.hs_meaning.specs.Classes.{class_of_type}
use Rattle.hs_meaning.specs.Machine.{Machine, Object, Binding, slot, object_at, Done, done, stopped, and_then, with_object, bytes_where, is_automatic, ended_object}
use Rattle.hs_meaning.specs.Objects.{bindings, objects_for}
use Rattle.hs_meaning.specs.Settings.{Setting, access_of_type}
use Rattle.hs_meaning.specs.Values.{Value, number, pointer}
use Rattle.hs_meaning.specs.declared.outcome.Stop.TheVariants as stop
use Rattle.hs_tree.specs.Kinds.{is_pointer, is_struct_row}
use Rattle.hs_tree.specs.declared.head.VariableDecl.{VariableDecl}
use Rattle.hs_types.specs.TypeTables.{row_of}
use Rattle.hs_types.specs.declared.row.TypeId.{TypeId}

-- at most 10000 calls at once, 16777216 bytes of their objects, and 4294967295 objects in a run
abbrev pub has_frame : List Object → Machine → Bool
has_frame new machine =
    nat_le (machine.frames + 1) 10000
    && nat_le (bytes_where is_automatic machine.objects + bytes_where is_automatic new) 16777216
    && nat_le (length machine.objects + length new) 4294967295

-- the machine of the called function
abbrev pub in_frame : List Binding → List Object → Machine → Machine
in_frame locals new machine = record machine { objects = machine.objects ++ new; locals = locals; frames = machine.frames + 1 }

-- a parameter is given its argument: as a slot, or as an object is by a store
abbrev pub given_to : Setting → ℕ → TypeId → Value → Option Binding → Machine → Done (Unit {0})
given_to setting place id value None machine = stopped stop.BadPointer machine
given_to setting place id value (Some (slot before)) machine =
    done tt (record machine { locals = slice_set machine.locals place (slot (Some value)) })
given_to setting place id value (Some (object_at object)) machine =
    and_then (stored (access_of_type setting id (class_of_type setting.same id)) (Fixed object (pos 0)) value machine) (λ it after. done tt after)

-- each parameter from that place on, in order
abbrev pub given_all : Setting → ℕ → List VariableDecl → List Value → Machine → Done (Unit {0})
given_all setting place [] values machine = done tt machine
given_all setting place (variable ∷ rest) [] machine = stopped stop.BadPointer machine
given_all setting place (variable ∷ rest) (value ∷ values) machine =
    and_then (given_to setting place variable.type_id value (slice_get machine.locals place) machine)
    (λ it after. given_all setting (suc place) rest values after)

-- if there is a frame
abbrev pub opened_if : Bool → Setting → ℕ → List VariableDecl → List Value → Machine → Done (Unit {0})
opened_if false setting parameters variables values machine = stopped stop.Frames machine
opened_if true setting parameters variables values machine =
    given_all setting 0 (take parameters variables) values
    (in_frame (bindings setting.types (length machine.objects) variables) (objects_for setting.types variables) machine)

-- the call begins; so many of the variables are parameters
abbrev pub opened : Setting → ℕ → List VariableDecl → List Value → Machine → Done (Unit {0})
opened setting parameters variables values machine =
    opened_if (has_frame (objects_for setting.types variables) machine) setting parameters variables values machine

-- the objects of the call, which end
abbrev pub without_objects : List Binding → Machine → Machine
without_objects [] machine = machine
without_objects (slot value ∷ rest) machine = without_objects rest machine
without_objects (object_at place ∷ rest) machine = without_objects rest (with_object place ended_object machine)

-- the variables of the caller
abbrev pub back_to : List Binding → Machine → Machine
back_to caller machine = record machine { locals = caller; frames = machine.frames - 1 }

-- the call ends
abbrev pub closed : List Binding → Machine → Machine
closed caller machine = back_to caller (without_objects machine.locals machine)

-- 0, NIL of a pointer, and no struct (own)
abbrev pub missing_by : Bool → Bool → Machine → Done Value
missing_by true is_struct machine = done (pointer Nil) machine
missing_by false true machine = stopped stop.Nil machine
missing_by false false machine = done (number 0) machine

-- of a function of that type that ends without a value
abbrev pub missing_value : Setting → TypeId → Machine → Done Value
missing_value setting result machine = missing_by (is_pointer setting.types result) (is_struct_row (row_of setting.types result)) machine
