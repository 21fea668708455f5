-- Calls that begin and end on the still machine. They test nothing for being stale or purged.
--     opened_still, closed_still
--     and_then_still           one operation after another
use Rattle.std.proofs.Common.{◌≡◌, ℕ, suc, pos, ◌+◌, Bool, true, false, List, [], ◌∷◌, map, length, take, replicate, slice_get, slice_set, Option, Some, None, option_map, refl, sym, ap, ◌∙◌, if◌then◌else◌}
use Rattle.std.proofs.lemmas.List.{length-map, map-append}
use Rattle.std.proofs.lemmas.Option.{slice_get-map}
use Rattle.hs_heap.specs.declared.cell.Cell.{Cell}
use Rattle.hs_heap.specs.declared.cell.Cell.TheVariants.{Undefined}
use Rattle.hs_heap.specs.declared.cell.Pointer.TheVariants.{Fixed}
use Rattle.hs_meaning.specs.Accesses.{stored}
use Rattle.hs_meaning.specs.Classes.{class_of_type}
use Rattle.hs_meaning.specs.Frames.{has_frame, in_frame, given_to, given_all, opened_if, opened, without_objects, back_to, closed}
use Rattle.hs_meaning.specs.Machine.{Machine, Object, Binding, slot, object_at, automatic, Done, done, stopped, and_then, with_object, is_automatic, ended_object}
use Rattle.hs_meaning.specs.Objects.{bindings, objects_for}
use Rattle.hs_meaning.specs.Settings.{Setting, access_of_type}
use Rattle.hs_meaning.specs.Values.{Value}
use Rattle.hs_still.specs.Accesses.{map_set, with_object_still, stored_still}
use Rattle.hs_still.specs.Blocks.{undefined_cells}
use Rattle.hs_still.specs.Handles.{bytes_where_still}
use Rattle.hs_still.specs.Machines.{still_value, still_object, still_binding, still_machine, still_done}
use Rattle.hs_tree.specs.Classes.{is_slot}
use Rattle.hs_tree.specs.declared.head.VariableDecl.{VariableDecl}
use Rattle.hs_types.specs.TypeTables.{TypeTable, size_of}
use Rattle.hs_types.specs.declared.row.TypeId.{TypeId}

-- nothing is given, so nothing is mapped
abbrev pub same_unit : Unit {0} → Unit {0}
same_unit it = tt

-- one operation after another
pub and_then_still : {A B : Type 0} → (f : A → A) (g : B → B) (its : Done A) (next still : A → Machine → Done B)
    → ((it : A) (machine : Machine) → still (f it) (still_machine machine) ≡ still_done g (next it machine))
    → and_then (still_done f its) still ≡ still_done g (and_then its next)
and_then_still f g (done it machine) next still each = each it machine
and_then_still f g (stopped why machine) next still each = refl

-- ---- parameters

with_local_still : (place : ℕ) (value : Value) (machine : Machine)
    → record (still_machine machine) { locals = slice_set (map still_binding machine.locals) place (slot (Some (still_value value))) }
    ≡ still_machine (record machine { locals = slice_set machine.locals place (slot (Some value)) })
with_local_still place value machine =
    ap (λ locals. record (still_machine machine) { locals = locals }) (map_set still_binding machine.locals place (slot (Some value)))

given_to_still : (setting : Setting) (place : ℕ) (id : TypeId) (value : Value) (binding : Option Binding) (machine : Machine)
    → given_to setting place id (still_value value) (option_map still_binding binding) (still_machine machine)
    ≡ still_done same_unit (given_to setting place id value binding machine)
given_to_still setting place id value None machine = refl
given_to_still setting place id value (Some (slot before)) machine = ap (done tt) (with_local_still place value machine)
given_to_still setting place id value (Some (object_at object)) machine =
    ap (λ first. and_then first (λ it after. done tt after))
    (stored_still (access_of_type setting id (class_of_type setting.same id)) (Fixed object (pos 0)) value machine tt)
    ∙ and_then_still still_value same_unit (stored (access_of_type setting id (class_of_type setting.same id)) (Fixed object (pos 0)) value machine)
    (λ it after. done tt after) (λ it after. done tt after) (λ it after. refl)

-- each parameter from that place on
pub given_all_still : (setting : Setting) (place : ℕ) (variables : List VariableDecl) (values : List Value) (machine : Machine)
    → given_all setting place variables (map still_value values) (still_machine machine)
    ≡ still_done same_unit (given_all setting place variables values machine)
given_all_still setting place [] values machine = refl
given_all_still setting place (variable ∷ rest) [] machine = refl
given_all_still setting place (variable ∷ rest) (value ∷ values) machine =
    ap (λ b. and_then (given_to setting place variable.type_id (still_value value) b (still_machine machine))
    (λ it after. given_all setting (suc place) rest (map still_value values) after)) (slice_get-map still_binding machine.locals place)
    ∙ ap (λ first. and_then first (λ it after. given_all setting (suc place) rest (map still_value values) after))
    (given_to_still setting place variable.type_id value (slice_get machine.locals place) machine)
    ∙ and_then_still same_unit same_unit (given_to setting place variable.type_id value (slice_get machine.locals place) machine)
    (λ it after. given_all setting (suc place) rest values after) (λ it after. given_all setting (suc place) rest (map still_value values) after)
    (λ it after. given_all_still setting (suc place) rest values after)

-- ---- calls that begin

-- one of two lists that are as they are mapped
either_mapped : {A : Type 0} → (f : A → A) (z : Bool) (xs ys : List A) → xs ≡ map f xs → ys ≡ map f ys
    → (if z then xs else ys) ≡ map f (if z then xs else ys)
either_mapped f true xs ys is so = is
either_mapped f false xs ys is so = so

bindings_still : (types : TypeTable) (next : ℕ) (variables : List VariableDecl)
    → bindings types next variables ≡ map still_binding (bindings types next variables)
bindings_still types next [] = refl
bindings_still types next (variable ∷ rest) =
    either_mapped still_binding (is_slot types variable) (slot None ∷ bindings types next rest) (object_at next ∷ bindings types (suc next) rest)
    (ap (λ them. slot None ∷ them) (bindings_still types next rest)) (ap (λ them. object_at next ∷ them) (bindings_still types (suc next) rest))

-- an object of a call
abbrev object_with : List Cell → Object
object_with cells = record { cells = cells; storage = automatic }

objects_still : (types : TypeTable) (variables : List VariableDecl) → objects_for types variables ≡ map still_object (objects_for types variables)
objects_still types [] = refl
objects_still types (variable ∷ rest) =
    either_mapped still_object (is_slot types variable) (objects_for types rest)
    (object_with (replicate (size_of types variable.type_id) Undefined) ∷ objects_for types rest) (objects_still types rest)
    (ap (λ cells. object_with cells ∷ objects_for types rest) (sym (undefined_cells (size_of types variable.type_id)))
    ∙ ap (λ them. still_object (object_with (replicate (size_of types variable.type_id) Undefined)) ∷ them) (objects_still types rest))

has_frame_still : (new : List Object) (machine : Machine) → has_frame new (still_machine machine) ≡ has_frame new machine
has_frame_still new machine =
    rw (bytes_where_still is_automatic machine.objects, length-map machine.objects still_object) refl

in_frame_still : (locals : List Binding) (new : List Object) (machine : Machine)
    → in_frame (map still_binding locals) (map still_object new) (still_machine machine) ≡ still_machine (in_frame locals new machine)
in_frame_still locals new machine =
    ap (λ objects. record (still_machine machine) { objects = objects; locals = map still_binding locals; frames = machine.frames + 1 })
    (sym (map-append still_object machine.objects new))

opened_if_still : (b : Bool) (setting : Setting) (parameters : ℕ) (variables : List VariableDecl) (values : List Value) (machine : Machine)
    → opened_if b setting parameters variables (map still_value values) (still_machine machine)
    ≡ still_done same_unit (opened_if b setting parameters variables values machine)
opened_if_still false setting parameters variables values machine = refl
opened_if_still true setting parameters variables values machine =
    ap (λ n. given_all setting 0 (take parameters variables) (map still_value values)
    (in_frame (bindings setting.types n variables) (objects_for setting.types variables) (still_machine machine))) (length-map machine.objects still_object)
    ∙ ap (λ them. given_all setting 0 (take parameters variables) (map still_value values)
    (in_frame them (objects_for setting.types variables) (still_machine machine))) (bindings_still setting.types (length machine.objects) variables)
    ∙ ap (λ new. given_all setting 0 (take parameters variables) (map still_value values)
    (in_frame (map still_binding (bindings setting.types (length machine.objects) variables)) new (still_machine machine)))
    (objects_still setting.types variables)
    ∙ ap (given_all setting 0 (take parameters variables) (map still_value values))
    (in_frame_still (bindings setting.types (length machine.objects) variables) (objects_for setting.types variables) machine)
    ∙ given_all_still setting 0 (take parameters variables) values
    (in_frame (bindings setting.types (length machine.objects) variables) (objects_for setting.types variables) machine)

-- a call begins
pub opened_still : (setting : Setting) (parameters : ℕ) (variables : List VariableDecl) (values : List Value) (machine : Machine)
    → opened setting parameters variables (map still_value values) (still_machine machine)
    ≡ still_done same_unit (opened setting parameters variables values machine)
opened_still setting parameters variables values machine =
    ap (λ b. opened_if b setting parameters variables (map still_value values) (still_machine machine))
    (has_frame_still (objects_for setting.types variables) machine)
    ∙ opened_if_still (has_frame (objects_for setting.types variables) machine) setting parameters variables values machine

-- ---- calls that end

without_objects_still : (locals : List Binding) (machine : Machine)
    → without_objects (map still_binding locals) (still_machine machine) ≡ still_machine (without_objects locals machine)
without_objects_still [] machine = refl
without_objects_still (slot value ∷ rest) machine = without_objects_still rest machine
without_objects_still (object_at place ∷ rest) machine =
    ap (without_objects (map still_binding rest)) (with_object_still place ended_object machine)
    ∙ without_objects_still rest (with_object place ended_object machine)

-- a call ends
pub closed_still : (caller : List Binding) (machine : Machine)
    → closed (map still_binding caller) (still_machine machine) ≡ still_machine (closed caller machine)
closed_still caller machine = ap (back_to (map still_binding caller)) (without_objects_still machine.locals machine)
