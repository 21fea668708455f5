-- Each argument goes where its parameter is (own).
--     class_there       a pointer in a parameter that is an object is of a class of the program
--     all_go            so it is of all parameters of a function
--     are_arguments     the arguments are tracked in the caller
--     call_begun        so all that the function has is tracked
-- The classes of a program begin with those of its objects, and have those of each function's parameters (`classes_of` of `hs_meaning`). So the class of a
-- parameter that is an object and has a pointer is among them by that definition.
use Rattle.std.proofs.Common.{◌≡◌, ◌<◌, ◌⊎◌, inl, inr, ℕ, zero, suc, ◌+◌, nat_lt, Bool, true, false, not, cond, ◌&&◌, List, [], ◌∷◌, ◌++◌, length, take, slice_get, Option, Some, None, refl, sym, ap, ◌∙◌, subst, arith, if◌then◌else◌}
use Rattle.std.proofs.lemmas.Bool.Decides.{nat_tests}
use Rattle.std.proofs.lemmas.Option.{none-some, same_Some}
use Rattle.std.specs.List.{list_any, position, position_or_len}
use Rattle.hs_calls.specs.Calls.{Here, Wait, beginning}
use Rattle.hs_chains.specs.Knowledge.{Knowledge}
use Rattle.hs_code.specs.declared.function_code.Placed.{Placed}
use Rattle.hs_code.specs.declared.op.Op.TheVariants as op
use Rattle.hs_code_run.specs.Codes.{CodeFunction}
use Rattle.hs_code_run.specs.Steps.{below, taken, taken_onto}
use Rattle.hs_facts.specs.Effects.{WholeCode}
use Rattle.hs_flow.specs.Calls.{base_of}
use Rattle.hs_flow.specs.Laws.Parameters.{parameter_there, some_parameter}
use Rattle.hs_flow.specs.Programs.{class_slot, object_slot, parameter_slot, parameters_in, parameters_of}
use Rattle.hs_flow.specs.declared.fact.Slot.TheVariants as flow_slot
use Rattle.hs_flow.specs.declared.fact.Slot.{Slot}
use Rattle.hs_hiding.specs.Calls.{SameOutside}
use Rattle.hs_lowering.specs.Laws.Listing.{AllAmong, Among, all_back, all_front, listed_all, placed_in}
use Rattle.hs_meaning.specs.Classes.{class_if, class_of_type, classes_of, named_block, named_functions, named_globals, named_object, named_variables, same_class}
use Rattle.hs_meaning.specs.Frames.{opened}
use Rattle.hs_meaning.specs.Machine.{Machine, Binding, done, slot, object_at}
use Rattle.hs_meaning.specs.Objects.{bindings}
use Rattle.hs_meaning.specs.Settings.{Setting, access_by, class_number, setting_of}
use Rattle.hs_meaning.specs.Values.{Value}
use Rattle.hs_tracked.specs.Beginning.{AllGo, AreArguments, GetsArgument, Goes, GoesToClass, begun, same}
use Rattle.hs_tracked.specs.Entering.{argument_gets}
use Rattle.hs_tracked.specs.Going.{IsAt}
use Rattle.hs_tracked.specs.Right.{AreRight}
use Rattle.hs_tracked.specs.Tracking.{Tracked, TrackedPlaces, AreTracked}
use Rattle.hs_tree.specs.Classes.{is_slot}
use Rattle.hs_tree.specs.Kinds.{is_pointer, number_kind}
use Rattle.hs_tree.specs.Trees.{TypedFunction, TypedProgram}
use Rattle.hs_tree.specs.declared.class.Class.{Class}
use Rattle.hs_tree.specs.declared.head.Variable.TheVariants as name
use Rattle.hs_tree.specs.declared.head.VariableDecl.{VariableDecl}
use Rattle.hs_types.specs.TypeTables.{TypeTable}
use Rattle.hs_types.specs.declared.integer.Integer.{Integer}

-- ---- classes

-- the place of what is in a list
position_there : (p : Class → Bool) (its : List Class) → list_any p its ≡ true → position p its ≡ Some (position_or_len p its)
position_there p its is =
    ap (λ z. cond z (Some (position_or_len p its)) None) (less_is (position_or_len p its) (length its) (placed_in p its is))
  where
    less_is : (a b : ℕ) → a < b → nat_lt a b ≡ true
    less_is a b so = grind (so, nat_tests, arith)

-- of the functions from one on
functions_listed : (program : TypedProgram) (functions : List TypedFunction) (f : ℕ) (function : TypedFunction) → slice_get functions f ≡ Some function
    → AllAmong (classes_of program) (named_functions program functions)
    → AllAmong (classes_of program) (named_variables program (take function.parameters function.variables))
functions_listed program [] f function is are = absurd (none-some function is)
functions_listed program (one ∷ rest) zero function is are =
    subst (λ it. AllAmong (classes_of program) (named_variables program (take it.parameters it.variables))) (same_Some one function is)
    (all_front (classes_of program) (named_variables program (take one.parameters one.variables)) (named_block program one one.body)
    (all_front (classes_of program) (named_variables program (take one.parameters one.variables) ++ named_block program one one.body)
    (named_functions program rest) are))
functions_listed program (one ∷ rest) (suc f) function is are =
    functions_listed program rest f function is
    (all_back (classes_of program) (named_variables program (take one.parameters one.variables) ++ named_block program one one.body)
    (named_functions program rest) are)

-- of the parameters of a function
parameters_listed : (program : TypedProgram) (f : ℕ) (function : TypedFunction) → slice_get program.functions f ≡ Some function
    → AllAmong (classes_of program) (named_variables program (take function.parameters function.variables))
parameters_listed program f function is =
    functions_listed program program.functions f function is
    (all_back (classes_of program) (named_globals program program.globals) (named_functions program program.functions)
    (listed_all [] (named_globals program program.globals ++ named_functions program program.functions)))

-- one of them
variable_listed : (program : TypedProgram) (variables : List VariableDecl) (place : ℕ) (it : VariableDecl) → slice_get variables place ≡ Some it
    → AllAmong (classes_of program) (named_variables program variables) → AllAmong (classes_of program) (named_object program it)
variable_listed program [] place it is are = absurd (none-some it is)
variable_listed program (one ∷ rest) zero it is are =
    subst (λ v. AllAmong (classes_of program) (named_object program v)) (same_Some one it is)
    (all_front (classes_of program) (named_object program one) (named_variables program rest) are)
variable_listed program (one ∷ rest) (suc place) it is are =
    variable_listed program rest place it is (all_back (classes_of program) (named_object program one) (named_variables program rest) are)

-- A parameter that is an object and has a pointer names its class.
pub class_there : (program : TypedProgram) (f : ℕ) (function : TypedFunction) (place : ℕ) (it : VariableDecl)
    → slice_get program.functions f ≡ Some function → slice_get (take function.parameters function.variables) place ≡ Some it
    → is_slot program.types it ≡ false → is_pointer program.types it.type_id ≡ true
    → Among (classes_of program) (class_of_type program.same it.type_id)
class_there program f function place it found there no_slot points =
    on (subst (λ z. AllAmong (classes_of program) (class_if z (class_of_type program.same it.type_id))) both
    (variable_listed program (take function.parameters function.variables) place it there (parameters_listed program f function found)))
  where
    both : (is_pointer program.types it.type_id && not (is_slot program.types it)) ≡ true
    both = ap (λ z. z && not (is_slot program.types it)) points ∙ ap not no_slot

    on : AllAmong (classes_of program) (class_of_type program.same it.type_id ∷ []) → Among (classes_of program) (class_of_type program.same it.type_id)
    on are = are.0

-- ---- variables as a call begins

-- a variable that is there is a slot without a value, or an object
pub binding_there : (types : TypeTable) (k : ℕ) (variables : List VariableDecl) (place : ℕ) (it : VariableDecl) → slice_get variables place ≡ Some it
    → (z : Bool)
    → is_slot types it ≡ z
    → ((z ≡ true) × (slice_get (bindings types k variables) place ≡ Some (slot None)))
    ⊎ ((z ≡ false) × (o : ℕ) × (slice_get (bindings types k variables) place ≡ Some (object_at o)))
binding_there types k [] place it there z is = absurd (none-some it there)
binding_there types k (one ∷ rest) zero it there z is = by_slot z (ap (is_slot types) (same_Some one it there) ∙ is)
  where
    by_slot : (z : Bool) → is_slot types one ≡ z
        → ((z ≡ true) × (slice_get (bindings types k (one ∷ rest)) 0 ≡ Some (slot None)))
        ⊎ ((z ≡ false) × (o : ℕ) × (slice_get (bindings types k (one ∷ rest)) 0 ≡ Some (object_at o)))
    by_slot true so =
        inl (refl, ap (λ z. slice_get (if z then slot None ∷ bindings types k rest else object_at k ∷ bindings types (suc k) rest) 0) so)
    by_slot false so =
        inr (refl, k, ap (λ z. slice_get (if z then slot None ∷ bindings types k rest else object_at k ∷ bindings types (suc k) rest) 0) so)
binding_there types k (one ∷ rest) (suc place) it there z is =
    by_slot (is_slot types one) refl (binding_there types k rest place it there z is) (binding_there types (suc k) rest place it there z is)
  where
    by_slot : (first : Bool) → is_slot types one ≡ first
        → ((z ≡ true) × (slice_get (bindings types k rest) place ≡ Some (slot None)))
        ⊎ ((z ≡ false) × (o : ℕ) × (slice_get (bindings types k rest) place ≡ Some (object_at o)))
        → ((z ≡ true) × (slice_get (bindings types (suc k) rest) place ≡ Some (slot None)))
        ⊎ ((z ≡ false) × (o : ℕ) × (slice_get (bindings types (suc k) rest) place ≡ Some (object_at o)))
        → ((z ≡ true) × (slice_get (bindings types k (one ∷ rest)) (suc place) ≡ Some (slot None)))
        ⊎ ((z ≡ false) × (o : ℕ) × (slice_get (bindings types k (one ∷ rest)) (suc place) ≡ Some (object_at o)))
    by_slot true so slots objects =
        subst (λ first. ((z ≡ true) × (slice_get (if first then slot None ∷ bindings types k rest else object_at k ∷ bindings types (suc k) rest) (suc place)
        ≡ Some (slot None)))
        ⊎ ((z ≡ false) × (o : ℕ) × (slice_get (if first then slot None ∷ bindings types k rest else object_at k ∷ bindings types (suc k) rest) (suc place)
        ≡ Some (object_at o)))) (sym so) slots
    by_slot false so slots objects =
        subst (λ first. ((z ≡ true) × (slice_get (if first then slot None ∷ bindings types k rest else object_at k ∷ bindings types (suc k) rest) (suc place)
        ≡ Some (slot None)))
        ⊎ ((z ≡ false) × (o : ℕ) × (slice_get (if first then slot None ∷ bindings types k rest else object_at k ∷ bindings types (suc k) rest) (suc place)
        ≡ Some (object_at o)))) (sym so) objects

-- a parameter is a variable
pub taken_there : (n : ℕ) (variables : List VariableDecl) (place : ℕ) (it : VariableDecl) → slice_get (take n variables) place ≡ Some it
    → slice_get variables place ≡ Some it
taken_there zero variables place it there = absurd (none-some it there)
taken_there (suc n) [] place it there = there
taken_there (suc n) (one ∷ rest) zero it there = there
taken_there (suc n) (one ∷ rest) (suc place) it there = taken_there n rest place it there

-- ---- values that are taken from a stack

module _ (whole : WholeCode) (known : Knowledge) (here : Here) (machine : Machine) (ws : List Wait) where
  -- the values from a place of the stack on are tracked
  abbrev pub TrackedFrom : ℕ → List Value → Type 0
  TrackedFrom place [] = Unit {0}
  TrackedFrom place (v ∷ values) = Tracked whole known here machine ws (flow_slot.Place place) v × TrackedFrom (suc place) values

  pub taken_tracked : (k : ℕ) (stack onto : List Value) → TrackedPlaces whole known here machine ws stack → TrackedFrom (length stack) onto
      → TrackedFrom (length (below k stack)) (taken_onto k stack onto)
  taken_tracked zero stack onto are above = above
  taken_tracked (suc k) [] onto are above = above
  taken_tracked (suc k) (v ∷ stack) onto are above = taken_tracked k stack (v ∷ onto) are.1 (are.0, above)

-- ---- the parameters of a function

module _ (whole : WholeCode) (known : Knowledge) (here : Here) (machine : Machine) (ws : List Wait) (its : Placed) (is_at : IsAt whole known here its)
    (fn : ℕ) (function : CodeFunction) (calls : its.op ≡ op.Call fn) (of_function : fn < length whole.functions)
    (right : AreRight whole known here machine) (final : Machine) (blocks : final.blocks ≡ machine.blocks) (typed : TypedFunction)
    (found : slice_get whole.program.functions fn ≡ Some typed) (classes : whole.classes ≡ classes_of whole.program) where
  -- what a run needs of the program
  abbrev setting : Setting
  setting = setting_of whole.program

  -- its parameters
  abbrev its_parameters : List VariableDecl
  its_parameters = take typed.parameters typed.variables

  -- its variables, as the call begins
  abbrev begin_with : List Binding
  begin_with = bindings whole.program.types (length machine.objects) typed.variables

  -- where the analysis has it go
  gets : (place : ℕ) (it : VariableDecl) → slice_get its_parameters place ≡ Some it → (to : Slot)
      → parameter_slot whole.program.types whole.program.same whole.classes place it ≡ Some to → GetsArgument whole known here fn setting place to
  gets place it there to goes =
      argument_gets whole known here machine ws its is_at fn function calls of_function right final blocks place to
      (parameter_there whole.program.types whole.program.same whole.classes (parameters_in (slice_get whole.program.functions fn)) place
      ∙ ap (λ f. some_parameter whole.program.types whole.program.same whole.classes place (slice_get (parameters_in f) place)) found
      ∙ ap (some_parameter whole.program.types whole.program.same whole.classes place) there ∙ goes)

  -- the class of a parameter that is an object, by the number that the machine has of it
  to_class : (place : ℕ) (it : VariableDecl) → slice_get its_parameters place ≡ Some it → is_slot whole.program.types it ≡ false
      → is_pointer whole.program.types it.type_id ≡ true
      → GetsArgument whole known here fn setting place (flow_slot.Class (class_number setting (class_of_type whole.program.same it.type_id)))
  to_class place it there no_slot points =
      gets place it there (flow_slot.Class (class_number setting (class_of_type whole.program.same it.type_id)))
      (ap (λ z. if z then Some (flow_slot.Variable (name.Local place)) else object_slot whole.program.types whole.program.same whole.classes it.type_id) no_slot
      ∙ ap (λ z. if z then class_slot (position (same_class (class_of_type whole.program.same it.type_id)) whole.classes) else None) points
      ∙ ap (λ cs. class_slot (position (same_class (class_of_type whole.program.same it.type_id)) cs)) classes
      ∙ ap class_slot
      (position_there (same_class (class_of_type whole.program.same it.type_id)) (classes_of whole.program)
      (class_there whole.program fn typed place it found there no_slot points)))

  goes_to_class : (place : ℕ) (it : VariableDecl) → slice_get its_parameters place ≡ Some it → is_slot whole.program.types it ≡ false
      → (kind : Option Integer) (z : Bool) → is_pointer whole.program.types it.type_id ≡ z
      → GoesToClass whole known here fn setting place (access_by setting it.type_id (class_of_type whole.program.same it.type_id) kind z)
  goes_to_class place it there no_slot (Some kind) z points = tt
  goes_to_class place it there no_slot None true points = to_class place it there no_slot points
  goes_to_class place it there no_slot None false points = tt

  -- a parameter
  goes_one : (place : ℕ) (it : VariableDecl) → slice_get its_parameters place ≡ Some it
      → Goes whole known here fn setting place it.type_id (slice_get begin_with place)
  goes_one place it there =
      by_binding (is_slot whole.program.types it) refl
      (binding_there whole.program.types (length machine.objects) typed.variables place it (taken_there typed.parameters typed.variables place it there)
      (is_slot whole.program.types it) refl)
    where
      by_binding : (z : Bool) → is_slot whole.program.types it ≡ z
          → ((z ≡ true) × (slice_get begin_with place ≡ Some (slot None))) ⊎ ((z ≡ false) × (o : ℕ) × (slice_get begin_with place ≡ Some (object_at o)))
          → Goes whole known here fn setting place it.type_id (slice_get begin_with place)
      by_binding z is (inl so) =
          subst (Goes whole known here fn setting place it.type_id) (sym so.1)
          (gets place it there (flow_slot.Variable (name.Local place))
          (ap (λ z. if z then Some (flow_slot.Variable (name.Local place)) else object_slot whole.program.types whole.program.same whole.classes it.type_id)
          (is ∙ so.0)))
      by_binding z is (inr so) =
          subst (Goes whole known here fn setting place it.type_id) (sym so.2)
          (goes_to_class place it there (is ∙ so.0) (number_kind whole.program.types it.type_id) (is_pointer whole.program.types it.type_id) refl)

  all_from : (place : ℕ) (variables : List VariableDecl)
      → ((i : ℕ) (it : VariableDecl) → slice_get variables i ≡ Some it
      → Goes whole known here fn setting (place + i) it.type_id (slice_get begin_with (place + i)))
      → AllGo whole known here machine ws its is_at fn function calls of_function right setting final blocks begin_with place variables
  all_from place [] each = tt
  all_from place (it ∷ rest) each = (
    subst (λ n. Goes whole known here fn setting n it.type_id (slice_get begin_with n)) (at_first place) (each 0 it refl),
    all_from (suc place) rest
        (λ i one there. subst (λ n. Goes whole known here fn setting n one.type_id (slice_get begin_with n)) (one_on place i) (each (suc i) one there)),
  )
    where
      at_first : (n : ℕ) → n + 0 ≡ n
      at_first n = omega arith

      one_on : (n i : ℕ) → n + suc i ≡ suc n + i
      one_on n i = omega arith

  -- All arguments of a call go where the parameters are.
  pub all_go : AllGo whole known here machine ws its is_at fn function calls of_function right setting final blocks begin_with 0 its_parameters
  all_go =
      all_from 0 its_parameters
      (λ i it there. subst (λ n. Goes whole known here fn setting n it.type_id (slice_get begin_with n)) (from_zero i) (goes_one i it there))
    where
      from_zero : (n : ℕ) → n ≡ 0 + n
      from_zero n = omega arith

  -- ---- the arguments

  -- the values from a place of the caller's stack on
  abbrev FromPlace : ℕ → List Value → Type 0
  FromPlace = TrackedFrom whole known here machine ws

  as_arguments : (place : ℕ) (values : List Value) → FromPlace (base_of (parameters_of whole fn) (known.at here.fn here.at) + place) values
      → AreArguments whole known here machine ws its is_at fn function calls of_function right setting place values
  as_arguments place [] are = tt
  as_arguments place (v ∷ values) are = (
    are.0,
    as_arguments (suc place) values
        (subst (λ n. FromPlace n values) (one_on (base_of (parameters_of whole fn) (known.at here.fn here.at)) place) are.1),
  )
    where
      one_on : (a b : ℕ) → suc (a + b) ≡ a + suc b
      one_on a b = omega arith

  -- The arguments of the call are tracked in the caller, if the values below them are as many as the analysis knows.
  pub are_arguments : (k : ℕ) → base_of (parameters_of whole fn) (known.at here.fn here.at) ≡ length (below k here.stack)
      → TrackedPlaces whole known here machine ws here.stack
      → AreArguments whole known here machine ws its is_at fn function calls of_function right setting 0 (taken k here.stack)
  are_arguments k low are =
      as_arguments 0 (taken k here.stack)
      (subst (λ n. FromPlace n (taken k here.stack)) (sym low ∙ no_more (base_of (parameters_of whole fn) (known.at here.fn here.at)))
      (taken_tracked whole known here machine ws k here.stack [] are tt))
    where
      no_more : (n : ℕ) → n ≡ n + 0
      no_more n = omega arith

-- ---- the begin of a call

module _ (whole : WholeCode) (known : Knowledge) (here : Here) (machine : Machine) (ws : List Wait) (its : Placed) (is_at : IsAt whole known here its)
    (fn : ℕ) (function : CodeFunction) (calls : its.op ≡ op.Call fn) (of_function : fn < length whole.functions)
    (right : AreRight whole known here machine) (typed : TypedFunction) (found : slice_get whole.program.functions fn ≡ Some typed)
    (classes : whole.classes ≡ classes_of whole.program) (after : Machine) (k : ℕ)
    (opens : opened (setting_of whole.program) typed.parameters typed.variables (taken k here.stack) machine ≡ done tt after) where
  -- blocks and variables of the program are as they were
  outside : SameOutside machine after
  outside =
      same whole known here machine ws its is_at fn function calls of_function right (setting_of whole.program) typed.parameters typed.variables
      (taken k here.stack) after opens

  -- The function that is called begins with all tracked.
  pub call_begun : base_of (parameters_of whole fn) (known.at here.fn here.at) ≡ length (below k here.stack) → AreTracked whole known here machine ws
      → AreTracked whole known (beginning fn function machine) after (record { here = here; machine = machine; called = fn; callee = function } ∷ ws)
  call_begun low are =
      begun whole known here machine ws its is_at fn function calls of_function right (setting_of whole.program) typed.parameters typed.variables
      (taken k here.stack) after opens
      (all_go whole known here machine ws its is_at fn function calls of_function right after outside.blocks typed found classes)
      (are_arguments whole known here machine ws its is_at fn function calls of_function right after outside.blocks typed found classes k low are.places)
      are
