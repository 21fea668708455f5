-- A block whose handle is in no argument and nowhere else gets nowhere by the begin of a call, and the end of a call shows no handle (own).
--     opened_lacks, closed_lacks       the begin and the end
--     SameOutside before after         blocks and globals are as they were
--     opened_same, closed_same         at the begin and at the end
use Rattle.std.proofs.Common.{◌≡◌, ℕ, suc, pos, ℤ, Bool, true, false, List, [], ◌∷◌, length, take, replicate, slice_get, Option, Some, None, refl, sym, ◌∙◌, subst, if◌then◌else◌}
use Rattle.std.specs.List.{AllByRecursion}
use Rattle.hs_base.specs.Entries.{all_appended}
use Rattle.hs_heap.specs.declared.cell.Cell.{Cell}
use Rattle.hs_heap.specs.declared.cell.Cell.TheVariants.{Undefined}
use Rattle.hs_heap.specs.declared.cell.Pointer.TheVariants.{Fixed}
use Rattle.hs_hiding.specs.Holding.{OnDone, CellLacks, Lacks, Blocks, Objects, Lacking, LackingOutside, BindingLacks}
use Rattle.hs_hiding.specs.Lists.{all_set, all_same, and_so, unless_so}
use Rattle.hs_hiding.specs.Storing.{stored_lacks}
use Rattle.hs_meaning.specs.Accesses.{put_in_object, with_cells_at, stored, use_stops}
use Rattle.hs_meaning.specs.Classes.{class_of_type}
use Rattle.hs_meaning.specs.Frames.{has_frame, in_frame, given_to, given_all, opened_if, opened, without_objects, closed}
use Rattle.hs_meaning.specs.Machine.{Machine, Object, Binding, slot, object_at, done, with_object, ended_object, automatic}
use Rattle.hs_meaning.specs.Objects.{bindings, objects_for}
use Rattle.hs_meaning.specs.Settings.{Setting, access_of_type}
use Rattle.hs_meaning.specs.Values.{Value, Access, length_of, cells_for, store_stop}
use Rattle.hs_tree.specs.Classes.{is_slot}
use Rattle.hs_tree.specs.declared.head.VariableDecl.{VariableDecl}
use Rattle.hs_types.specs.TypeTables.{TypeTable, size_of}
use Rattle.hs_types.specs.declared.row.TypeId.{TypeId}

module _ (n : ℕ) where
  -- ---- a call begins

  bindings_lack : (types : TypeTable) (k : ℕ) (variables : List VariableDecl) → AllByRecursion (BindingLacks n) (bindings types k variables)
  bindings_lack types k [] = tt
  bindings_lack types k (variable ∷ rest) = by_slot (is_slot types variable) (bindings_lack types k rest) (bindings_lack types (suc k) rest)
    where
      by_slot : (z : Bool) → AllByRecursion (BindingLacks n) (bindings types k rest) → AllByRecursion (BindingLacks n) (bindings types (suc k) rest)
          → AllByRecursion (BindingLacks n) (if z then slot None ∷ bindings types k rest else object_at k ∷ bindings types (suc k) rest)
      by_slot true slots others = (tt, slots)
      by_slot false slots others = (tt, others)

  objects_lack : (types : TypeTable) (variables : List VariableDecl) → Objects n (objects_for types variables)
  objects_lack types [] = tt
  objects_lack types (variable ∷ rest) = by_slot (is_slot types variable) (objects_lack types rest)
    where
      by_slot : (z : Bool) → Objects n (objects_for types rest)
          → Objects n
          (if z then objects_for types rest else record {
            cells = replicate
                (size_of types variable.type_id) Undefined;
            storage = automatic;
          } ∷ objects_for types rest)
      by_slot true others = others
      by_slot false others = (all_same (CellLacks n) (size_of types variable.type_id) Undefined tt, others)

  given_lacks : (setting : Setting) (place : ℕ) (id : TypeId) (v : Value) (binding : Option Binding) (machine : Machine) → Lacks n v → Lacking n machine
      → OnDone (λ it after. Lacking n after) (given_to setting place id v binding machine)
  given_lacks setting place id v None machine is are = tt
  given_lacks setting place id v (Some (slot before)) machine is are =
      record {
        globals = are.globals;
        locals = all_set (BindingLacks n) machine.locals place (slot (Some v)) are.locals is;
        blocks = are.blocks;
        objects = are.objects;
      }
  given_lacks setting place id v (Some (object_at object)) machine is are =
      and_so (λ it after. Lacks n it × Lacking n after) (λ it after. Lacking n after)
      (stored (access_of_type setting id (class_of_type setting.same id)) (Fixed object (pos 0)) v machine) (λ it after. done tt after)
      (stored_lacks n (access_of_type setting id (class_of_type setting.same id)) (Fixed object (pos 0)) v machine is are) (λ it after is. is.1)

  all_given_lack : (setting : Setting) (place : ℕ) (variables : List VariableDecl) (values : List Value) (machine : Machine)
      → AllByRecursion (Lacks n) values → Lacking n machine → OnDone (λ it after. Lacking n after) (given_all setting place variables values machine)
  all_given_lack setting place [] values machine is are = are
  all_given_lack setting place (variable ∷ rest) [] machine is are = tt
  all_given_lack setting place (variable ∷ rest) (v ∷ values) machine is are =
      and_so (λ it after. Lacking n after) (λ it after. Lacking n after)
      (given_to setting place variable.type_id v (slice_get machine.locals place) machine)
      (λ it after. given_all setting (suc place) rest values after)
      (given_lacks setting place variable.type_id v (slice_get machine.locals place) machine is.0 are)
      (λ it after are'. all_given_lack setting (suc place) rest values after is.1 are')

  pub opened_lacks : (setting : Setting) (parameters : ℕ) (variables : List VariableDecl) (values : List Value) (machine : Machine)
      → AllByRecursion (Lacks n) values → LackingOutside n machine → OnDone (λ it after. Lacking n after) (opened setting parameters variables values machine)
  opened_lacks setting parameters variables values machine is are = by_room (has_frame (objects_for setting.types variables) machine)
    where
      begun : Machine
      begun = in_frame (bindings setting.types (length machine.objects) variables) (objects_for setting.types variables) machine

      lacks : Lacking n begun
      lacks =
          record {
            globals = are.globals;
            locals = bindings_lack setting.types (length machine.objects) variables;
            blocks = are.blocks;
            objects =
                all_appended (λ o. AllByRecursion (CellLacks n) o.cells) machine.objects (objects_for setting.types variables) are.objects
                (objects_lack setting.types variables);
          }

      by_room : (z : Bool) → OnDone (λ it after. Lacking n after) (opened_if z setting parameters variables values machine)
      by_room false = tt
      by_room true = all_given_lack setting 0 (take parameters variables) values begun is lacks

  -- ---- a call ends

  ended_lacks : (locals : List Binding) (machine : Machine) → Objects n machine.objects → Objects n (without_objects locals machine).objects
  ended_lacks [] machine are = are
  ended_lacks (slot value ∷ rest) machine are = ended_lacks rest machine are
  ended_lacks (object_at place ∷ rest) machine are =
      ended_lacks rest (with_object place ended_object machine)
      (all_set (λ o. AllByRecursion (CellLacks n) o.cells) machine.objects place ended_object are tt)

-- ---- blocks and globals are as they were

-- a part of a run that changes no block and no global
pub record SameOutside (before after : Machine) : Type 0 where
  pub blocks : after.blocks ≡ before.blocks
  pub globals : after.globals ≡ before.globals

pub ended_same : (locals : List Binding) (machine : Machine) → SameOutside machine (without_objects locals machine)
ended_same [] machine = record { blocks = refl; globals = refl }
ended_same (slot value ∷ rest) machine = ended_same rest machine
ended_same (object_at place ∷ rest) machine = on (ended_same rest (with_object place ended_object machine))
  where
    on : SameOutside (with_object place ended_object machine) (without_objects rest (with_object place ended_object machine))
        → SameOutside machine (without_objects rest (with_object place ended_object machine))
    on its = record { blocks = its.blocks; globals = its.globals }

pub closed_same : (caller : List Binding) (machine : Machine) → SameOutside machine (closed caller machine)
closed_same caller machine = on (ended_same machine.locals machine)
  where
    on : SameOutside machine (without_objects machine.locals machine) → SameOutside machine (closed caller machine)
    on its = record { blocks = its.blocks; globals = its.globals }

pub closed_lacks : (n : ℕ) (caller : List Binding) (machine : Machine) → AllByRecursion (BindingLacks n) caller → LackingOutside n machine
    → Lacking n (closed caller machine)
closed_lacks n caller machine locals are =
    record {
      globals = subst (AllByRecursion (BindingLacks n)) (sym (closed_same caller machine).globals) are.globals;
      locals = locals;
      blocks = subst (Blocks n) (sym (closed_same caller machine).blocks) are.blocks;
      objects = ended_lacks n machine.locals machine are.objects;
    }

object_same : (object : ℕ) (at : ℤ) (cells : List Cell) (machine : Machine) (found : Option Object)
    → SameOutside machine (put_in_object object at cells machine found)
object_same object at cells machine None = record { blocks = refl; globals = refl }
object_same object at cells machine (Some o) = record { blocks = refl; globals = refl }

given_same : (setting : Setting) (place : ℕ) (id : TypeId) (v : Value) (binding : Option Binding) (machine : Machine)
    → OnDone (λ it after. SameOutside machine after) (given_to setting place id v binding machine)
given_same setting place id v None machine = tt
given_same setting place id v (Some (slot before)) machine = record { blocks = refl; globals = refl }
given_same setting place id v (Some (object_at object)) machine =
    and_so (λ it after. SameOutside machine after) (λ it after. SameOutside machine after) (stored access (Fixed object (pos 0)) v machine)
    (λ it after. done tt after) kept (λ it after is. is)
  where
    access : Access
    access = access_of_type setting id (class_of_type setting.same id)

    kept : OnDone (λ it after. SameOutside machine after) (stored access (Fixed object (pos 0)) v machine)
    kept =
        unless_so (λ it after. SameOutside machine after) (store_stop access v ∷ use_stops (Fixed object (pos 0)) (length_of access) machine) v
        (with_cells_at (Fixed object (pos 0)) (cells_for access v) machine) machine
        (object_same object (pos 0) (cells_for access v) machine (slice_get machine.objects object))

same_both : (a b c : Machine) → SameOutside a b → SameOutside b c → SameOutside a c
same_both a b c first second = record { blocks = second.blocks ∙ first.blocks; globals = second.globals ∙ first.globals }

all_given_same : (setting : Setting) (place : ℕ) (variables : List VariableDecl) (values : List Value) (before machine : Machine) → SameOutside before machine
    → OnDone (λ it after. SameOutside before after) (given_all setting place variables values machine)
all_given_same setting place [] values before machine is = is
all_given_same setting place (variable ∷ rest) [] before machine is = tt
all_given_same setting place (variable ∷ rest) (v ∷ values) before machine is =
    and_so (λ it after. SameOutside machine after) (λ it after. SameOutside before after)
    (given_to setting place variable.type_id v (slice_get machine.locals place) machine)
    (λ it after. given_all setting (suc place) rest values after)
    (given_same setting place variable.type_id v (slice_get machine.locals place) machine)
    (λ it after is'. all_given_same setting (suc place) rest values before after (same_both before machine after is is'))

pub opened_same : (setting : Setting) (parameters : ℕ) (variables : List VariableDecl) (values : List Value) (machine : Machine)
    → OnDone (λ it after. SameOutside machine after) (opened setting parameters variables values machine)
opened_same setting parameters variables values machine = by_room (has_frame (objects_for setting.types variables) machine)
  where
    begun : Machine
    begun = in_frame (bindings setting.types (length machine.objects) variables) (objects_for setting.types variables) machine

    by_room : (z : Bool) → OnDone (λ it after. SameOutside machine after) (opened_if z setting parameters variables values machine)
    by_room false = tt
    by_room true = all_given_same setting 0 (take parameters variables) values machine begun (record { blocks = refl; globals = refl })
