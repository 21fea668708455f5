-- The begin of a call keeps each pointer in memory of a class of the program (own).
--     access_there       a parameter that is an object and has a pointer is reached through a class of the program
--     begun_listed       the machine with which the call begins
use Rattle.std.proofs.Common.{◌≡◌, ◌≤◌, ◌<◌, ◌⊎◌, inl, inr, ℕ, suc, pos, ◌+◌, Bool, true, false, List, [], ◌∷◌, length, take, slice_get, Option, Some, None, refl, sym, ◌∙◌, subst, arith}
use Rattle.std.specs.List.{AllByRecursion}
use Rattle.hs_base.specs.Entries.{all_appended, set_other}
use Rattle.hs_facts.specs.Effects.{WholeCode}
use Rattle.hs_heap.specs.declared.cell.Pointer.TheVariants.{Fixed}
use Rattle.hs_hiding.specs.Holding.{OnDone, value_of}
use Rattle.hs_hiding.specs.Lists.{and_so, unless_so}
use Rattle.hs_lowering.specs.Laws.Listing.{placed_in}
use Rattle.hs_meaning.specs.Accesses.{put_in_object, stored, use_stops, with_cells_at}
use Rattle.hs_meaning.specs.Classes.{class_of_type, classes_of, same_class}
use Rattle.hs_meaning.specs.Frames.{given_all, given_to, has_frame, in_frame, opened, opened_if}
use Rattle.hs_meaning.specs.Machine.{Binding, Machine, Object, done, object_at, slot}
use Rattle.hs_meaning.specs.Objects.{bindings, objects_for}
use Rattle.hs_meaning.specs.Settings.{Setting, access_by, access_of_type, class_number, setting_of}
use Rattle.hs_meaning.specs.Values.{Access, Value, cells_for, length_of, store_stop}
use Rattle.hs_tracked.specs.Arguments.{binding_there, class_there, taken_there}
use Rattle.hs_tracked.specs.Beginning.{no_value, objects_free}
use Rattle.hs_tracked.specs.Listing.{AreListedIn, AreValuesListed, cells_listed, set_listed, written_listed}
use Rattle.hs_tracked.specs.Restorable.{IsListed, IsValueListed}
use Rattle.hs_tracked.specs.Starting.{IsAccessListed}
use Rattle.hs_tree.specs.Classes.{is_slot}
use Rattle.hs_tree.specs.Kinds.{is_pointer, number_kind}
use Rattle.hs_tree.specs.Trees.{TypedFunction}
use Rattle.hs_tree.specs.declared.head.Variable.TheVariants as name
use Rattle.hs_tree.specs.declared.head.Variable.{Variable}
use Rattle.hs_tree.specs.declared.head.VariableDecl.{VariableDecl}
use Rattle.hs_types.specs.declared.integer.Integer.{Integer}

module _ (whole : WholeCode) (classes : whole.classes ≡ classes_of whole.program) (fn : ℕ) (typed : TypedFunction)
    (found : slice_get whole.program.functions fn ≡ Some typed) where
  -- what a run needs of the program
  abbrev setting : Setting
  setting = setting_of whole.program

  -- how many classes it has
  abbrev count : ℕ
  count = length whole.classes

  -- its parameters
  abbrev its_parameters : List VariableDecl
  its_parameters = take typed.parameters typed.variables

  access_there : (place : ℕ) (it : VariableDecl) → slice_get its_parameters place ≡ Some it → is_slot whole.program.types it ≡ false
      → (kind : Option Integer) (z : Bool) → is_pointer whole.program.types it.type_id ≡ z
      → IsAccessListed count (access_by setting it.type_id (class_of_type whole.program.same it.type_id) kind z)
  access_there place it there no_slot (Some kind) z points = tt
  access_there place it there no_slot None false points = tt
  access_there place it there no_slot None true points =
      subst (λ cs. class_number setting (class_of_type whole.program.same it.type_id) < length cs) (sym classes)
      (placed_in (same_class (class_of_type whole.program.same it.type_id)) (classes_of whole.program)
      (class_there whole.program fn typed place it found there no_slot points))

  module _ (machine : Machine) (are : AreListedIn count machine) where
    -- its variables, as the call begins
    abbrev begin_with : List Binding
    begin_with = bindings whole.program.types (length machine.objects) typed.variables

    object_listed : (place : ℕ) (it : VariableDecl) → slice_get its_parameters place ≡ Some it → (object : ℕ)
        → slice_get begin_with place ≡ Some (object_at object)
        → IsAccessListed count (access_of_type setting it.type_id (class_of_type setting.same it.type_id))
    object_listed place it there object is =
        by_binding
        (binding_there whole.program.types (length machine.objects) typed.variables place it (taken_there typed.parameters typed.variables place it there)
        (is_slot whole.program.types it) refl)
      where
        never : Some (object_at object) ≡ Some (slot None) → ⊥
        never so = cc

        by_binding : ((is_slot whole.program.types it ≡ true) × (slice_get begin_with place ≡ Some (slot None)))
            ⊎ ((is_slot whole.program.types it ≡ false) × (o : ℕ) × (slice_get begin_with place ≡ Some (object_at o)))
            → IsAccessListed count (access_of_type setting it.type_id (class_of_type setting.same it.type_id))
        by_binding (inl so) = absurd (never (sym is ∙ so.1))
        by_binding (inr so) =
            access_there place it there so.0 (number_kind whole.program.types it.type_id) (is_pointer whole.program.types it.type_id) refl

    -- what is listed so far; variables from a place on are as they were
    record Given (place : ℕ) (m : Machine) : Type 0 where
      listed : AreListedIn count m
      later : (k : ℕ) → place ≤ k → slice_get m.locals k ≡ slice_get begin_with k

    lower : (place k : ℕ) → suc place ≤ k → place ≤ k
    lower place k from = omega (arith, from)

    apart : (place k : ℕ) → k ≡ place → suc place ≤ k → ⊥
    apart place k same from = absurd (omega (arith, same, from))

    -- a parameter
    object_given : (place object : ℕ) (reached : Access) (v : Value) (m : Machine) → IsAccessListed count reached → IsValueListed count v → Given place m
        → OnDone (λ it after. Given (suc place) after) (stored reached (Fixed object (pos 0)) v m)
    object_given place object reached v m one is given =
        unless_so (λ it after. Given (suc place) after) (store_stop reached v ∷ use_stops (Fixed object (pos 0)) (length_of reached) m) v
        (with_cells_at (Fixed object (pos 0)) (cells_for reached v) m) m
        (by_object (slice_get m.objects object)
        (written_listed count (Fixed object (pos 0)) (cells_for reached v) m (cells_listed count reached v one is) given.listed))
      where
        by_object : (found : Option Object) → AreListedIn count (put_in_object object (pos 0) (cells_for reached v) m found)
            → Given (suc place) (put_in_object object (pos 0) (cells_for reached v) m found)
        by_object None listed = record { listed = listed; later = λ k from. given.later k (lower place k from) }
        by_object (Some o) listed = record { listed = listed; later = λ k from. given.later k (lower place k from) }

    one_given : (place : ℕ) (it : VariableDecl) → slice_get its_parameters place ≡ Some it → (v : Value) (m : Machine) → IsValueListed count v
        → Given place m → (binding : Option Binding) → slice_get begin_with place ≡ binding
        → OnDone (λ it after. Given (suc place) after) (given_to setting place it.type_id v binding m)
    one_given place it there v m is given None so = tt
    one_given place it there v m is given (Some (slot before)) so =
        record {
          listed = set_listed count (name.Local place) v m is given.listed;
          later = λ k from. set_other m.locals place (slot (Some v)) k (λ same. apart place k same from) ∙ given.later k (lower place k from);
        }
    one_given place it there v m is given (Some (object_at object)) so =
        and_so (λ it after. Given (suc place) after) (λ it after. Given (suc place) after)
        (stored (access_of_type setting it.type_id (class_of_type setting.same it.type_id)) (Fixed object (pos 0)) v m) (λ it after. done tt after)
        (object_given place object (access_of_type setting it.type_id (class_of_type setting.same it.type_id)) v m (object_listed place it there object so) is
        given) (λ it after now. now)

    all_given : (place : ℕ) (variables : List VariableDecl) (values : List Value) (m : Machine)
        → ((i : ℕ) (it : VariableDecl) → slice_get variables i ≡ Some it → slice_get its_parameters (place + i) ≡ Some it) → AreValuesListed count values
        → Given place m → OnDone (λ it after. AreListedIn count after) (given_all setting place variables values m)
    all_given place [] values m there all given = given.listed
    all_given place (it ∷ rest) [] m there all given = tt
    all_given place (it ∷ rest) (v ∷ values) m there all given =
        and_so (λ it after. Given (suc place) after) (λ it after. AreListedIn count after)
        (given_to setting place it.type_id v (slice_get m.locals place) m) (λ it after. given_all setting (suc place) rest values after)
        (one_given place it (subst (λ n. slice_get its_parameters n ≡ Some it) (at_first place) (there 0 it refl)) v m all.0 given
        (slice_get m.locals place) (sym (given.later place (omega arith))))
        (λ done_it after now.
        all_given (suc place) rest values after
        (λ i one found_at. subst (λ n. slice_get its_parameters n ≡ Some one) (one_on place i) (there (suc i) one found_at)) all.1 now)
      where
        at_first : (n : ℕ) → n + 0 ≡ n
        at_first n = omega arith

        one_on : (n i : ℕ) → n + suc i ≡ suc n + i
        one_on n i = omega arith

    -- The machine with which the call begins.
    pub begun_listed : (values : List Value) → AreValuesListed count values
        → OnDone (λ it after. AreListedIn count after) (opened setting typed.parameters typed.variables values machine)
    begun_listed values all = by_room (has_frame (objects_for whole.program.types typed.variables) machine)
      where
        framed : Machine
        framed = in_frame begin_with (objects_for whole.program.types typed.variables) machine

        by_variable : (x : Variable) (v : Value) → value_of framed x ≡ Some v → IsValueListed count v
        by_variable (name.Global g) v holds = are.variables (name.Global g) v holds
        by_variable (name.Local i) v holds = absurd (no_value whole.program.types (length machine.objects) typed.variables i v holds)

        first : Given 0 framed
        first =
            record {
              listed = record {
                variables = by_variable;
                blocks = are.blocks;
                objects = all_appended (λ object. AllByRecursion (IsListed count) object.cells) machine.objects
                    (objects_for whole.program.types typed.variables) are.objects (objects_free (IsListed count) tt whole.program.types typed.variables);
              };
              later = λ k from. refl;
            }

        by_room : (z : Bool) → OnDone (λ it after. AreListedIn count after) (opened_if z setting typed.parameters typed.variables values machine)
        by_room false = tt
        by_room true =
            all_given 0 its_parameters values framed (λ i it there. subst (λ n. slice_get its_parameters n ≡ Some it) (from_zero i) there) all first
          where
            from_zero : (n : ℕ) → n ≡ 0 + n
            from_zero n = omega arith
