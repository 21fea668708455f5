-- Rows of the tables of facts that flow, each with its opposite where a rule has an exception. The program and its function are of this kind:
--     Handle g;  int n;
--     void f(Handle x, Handle y, char *p, char b) { .. g .. }
-- so its handle names are x, y and g, with the numbers 0, 1 and 2. Two values are on the stack before each operation, and the program names two classes
-- of pointers. A row is an operation, a fact, what is known there, and all facts after it.
use Rattle.std.proofs.Common.{◌≡◌, ℕ, Bool, true, false, ◌==◌, ◌&&◌, ◌||◌, List, [], ◌∷◌, Some, None, Option, refl}
use Rattle.std.specs.Prelude.{codes}
use Rattle.hs_base.specs.declared.pos.Pos.{Pos}
use Rattle.hs_code.specs.Stacks.{Scope}
use Rattle.hs_code.specs.declared.op.Access.TheVariants as access
use Rattle.hs_code.specs.declared.op.Op.{Op}
use Rattle.hs_code.specs.declared.op.Op.TheVariants as op
use Rattle.hs_facts.specs.Names.{taken}
use Rattle.hs_flow.specs.Calls.{Callee, over_of, enter_of, leave_of}
use Rattle.hs_flow.specs.Given.{Given}
use Rattle.hs_flow.specs.Next.{next_of}
use Rattle.hs_flow.specs.Programs.{parameter_slots, slots_in}
use Rattle.hs_flow.specs.declared.fact.Fact.{Fact}
use Rattle.hs_flow.specs.declared.fact.FactStatus.{FactStatus}
use Rattle.hs_flow.specs.declared.fact.FactStatus.TheVariants.{Reached, IsHandle, Purgeable, Hollow, SavedPurgeable, Fresh, Held, Outer, Loose, Stale}
use Rattle.hs_flow.specs.declared.fact.Slot.{Slot}
use Rattle.hs_flow.specs.declared.fact.Slot.TheVariants.{Nothing, Answer, Place, Class}
use Rattle.hs_flow.specs.declared.fact.Slot.TheVariants as slot
use Rattle.hs_table.specs.declared.role.Role.{Role}
use Rattle.hs_table.specs.declared.role.Role.TheVariants as role
use Rattle.hs_tokens.specs.declared.token.Origin.TheVariants as origin
use Rattle.hs_tree.specs.declared.class.Class.TheVariants as class
use Rattle.hs_tree.specs.declared.function.BoundRoutine.{BoundRoutine}
use Rattle.hs_tree.specs.declared.head.Variable.{Variable}
use Rattle.hs_tree.specs.declared.head.Variable.TheVariants as name
use Rattle.hs_tree.specs.declared.head.VariableDecl.{VariableDecl}
use Rattle.hs_tree.specs.declared.operators.Comparison.TheVariants as comparison
use Rattle.hs_tree.specs.declared.operators.Stride.{Stride}
use Rattle.hs_types.specs.Rows.{integer_id, char_pointer_id, char_handle_id}
use Rattle.hs_types.specs.TypeTables.{basic_types}
use Rattle.hs_types.specs.declared.integer.Integer.TheVariants as kind
use Rattle.hs_types.specs.declared.row.TypeId.{TypeId}

-- ---- the program

abbrev char : TypeId
char = integer_id kind.Char

abbrev spot : Pos
spot = record { file = 0; line = 1; col = 1 }

abbrev declared : TypeId → Bool → VariableDecl
declared id taken = record { name = codes "it"; at = record { pos = spot; origin = origin.Plain }; type_id = id; taken = taken }

-- a routine of that role, whether it moves and whether it purges, what it takes, and what it gives
abbrev routine : Role → Bool → Bool → List TypeId → TypeId → BoundRoutine
routine its moves purges parameters result =
    record {
      routine = record { name = codes "It"; role = its; moves = moves; purges = purges; fills = 0; size = 0 };
      prototype = Some (record { result = result; parameters = parameters });
    }

abbrev scope : Scope
scope =
    record {
      types = basic_types;
      globals =
          record { variable = declared char_handle_id false; size = 4; parts = [] }
          ∷ record { variable = declared (integer_id kind.Int) false; size = 2; parts = [] }
          ∷ [];
      variables = declared char_handle_id false ∷ declared char_handle_id false ∷ declared char_pointer_id false ∷ declared char false ∷ [];
      result = char;
      functions = [];
      routines =
          routine role.Lock false false (char_handle_id ∷ []) char
          ∷ routine role.Unlock false false (char_handle_id ∷ []) char
          ∷ routine role.Realloc true false (char_handle_id ∷ char ∷ []) char
          ∷ routine role.GetState false false (char_handle_id ∷ []) char
          ∷ routine role.SetState false false (char_handle_id ∷ char ∷ []) char
          ∷ routine role.Purge false false (char_handle_id ∷ []) char
          ∷ routine role.NoPurge false false (char_handle_id ∷ []) char
          ∷ routine role.NewHandle true true (char ∷ []) char_handle_id
          ∷ routine role.Plain true false [] char_handle_id
          ∷ routine role.Plain false false (char_pointer_id ∷ []) char_pointer_id
          ∷ [];
    }

abbrev lock : Op
lock = op.Routine 0

abbrev unlock : Op
unlock = op.Routine 1

abbrev realloc : Op
realloc = op.Routine 2

abbrev get_state : Op
get_state = op.Routine 3

abbrev set_state : Op
set_state = op.Routine 4

abbrev purge : Op
purge = op.Routine 5

abbrev no_purge : Op
no_purge = op.Routine 6

abbrev new_handle : Op
new_handle = op.Routine 7

abbrev plain_handle : Op
plain_handle = op.Routine 8

abbrev plain_pointer : Op
plain_pointer = op.Routine 9

abbrev stride : Stride
stride = record { size = 4; backward = false }

-- a routine that may move, but does not purge, and one that may do both
abbrev moves_shift : Op
moves_shift = op.Shift 2

abbrev purges_shift : Op
purges_shift = op.Shift 7

abbrev x : Variable
x = name.Local 0

abbrev y : Variable
y = name.Local 1

abbrev p : Variable
p = name.Local 2

abbrev b : Variable
b = name.Local 3

abbrev g : Variable
g = name.Global 0

abbrev n : Variable
n = name.Global 1

-- ---- what is known

-- the number is among those
abbrev has : List ℕ → ℕ → Bool
has [] h = false
has (it ∷ rest) h = (it == h) || has rest h

-- the names that are locked, and those of place 0 and of place 1; whether x and y have no handles of one block, and whether a state byte is put back
-- that was read from its handle
abbrev given : List ℕ → List ℕ → List ℕ → Bool → Bool → Given
given locked low top apart restores =
    record {
      function = 0;
      places = 2;
      names = x ∷ y ∷ g ∷ [];
      distinct = λ a c. apart && (((a == 0) && (c == 1)) || ((a == 1) && (c == 0)));
      locked = has locked;
      live = λ h. false;
      saved = λ v h. false;
      with = λ place h. ((place == 0) && has low h) || ((place == 1) && has top h);
      restores = restores;
    }

-- nothing
abbrev no_facts : Given
no_facts = given [] [] [] false false

-- x is locked
abbrev x_locked : Given
x_locked = given (0 ∷ []) [] [] false false

-- the top has the value of y and g
abbrev top_is_y : Given
top_is_y = given [] [] (1 ∷ 2 ∷ []) false false

-- and x has no handle of the block of y
abbrev top_is_y_apart : Given
top_is_y_apart = given [] [] (1 ∷ []) true false

-- a state byte is put on the handle in x
abbrev put_on_x : Bool → Bool → Given
put_on_x apart restores = given [] (0 ∷ []) [] apart restores

abbrev fact : Slot → FactStatus → Fact
fact of its = record { slot = of; status = its }

abbrev variable : Variable → Slot
variable v = slot.Variable v

-- all facts after the operation, if that is known
abbrev after : Op → Given → Slot → FactStatus → List Fact
after its known of status = next_of scope 2 known its (fact of status)

how_many_slots : slots_in scope 2 2 ≡ 12
how_many_slots = refl

two_arguments : taken scope set_state ≡ 2
two_arguments = refl

-- ---- facts that stay, and facts of operands

a_number_changes_nothing : after (op.Num 3) no_facts (Place 1) Loose ≡ fact (Place 1) Loose ∷ []
a_number_changes_nothing = refl

control_goes_on : after (op.Jump 9) no_facts Nothing Reached ≡ fact Nothing Reached ∷ []
control_goes_on = refl

a_mark_changes_nothing : after op.Mark no_facts (variable p) Stale ≡ fact (variable p) Stale ∷ []
a_mark_changes_nothing = refl

a_turn_changes_nothing : after op.Turn no_facts (Class 1) Held ≡ fact (Class 1) Held ∷ []
a_turn_changes_nothing = refl

a_value_is_dropped : after op.Drop no_facts (Place 1) Loose ≡ []
a_value_is_dropped = refl

the_one_below_stays : after op.Drop no_facts (Place 0) Loose ≡ fact (Place 0) Loose ∷ []
the_one_below_stays = refl

a_pointer_is_tested : after op.IsNil no_facts (Place 1) Stale ≡ []
a_pointer_is_tested = refl

pointers_are_compared : after (op.Compare comparison.Less) no_facts (Place 0) Stale ≡ []
pointers_are_compared = refl

a_number_is_tested : after (op.Zero 9) no_facts (Place 0) Stale ≡ fact (Place 0) Stale ∷ []
a_number_is_tested = refl

an_order_is_chosen : after (op.Pick 9) no_facts (Place 1) Stale ≡ fact (Place 1) Stale ∷ []
an_order_is_chosen = refl

-- ---- Get and Set

a_variable_is_read : after (op.Get p) no_facts (variable p) Loose ≡ fact (variable p) Loose ∷ fact (Place 2) Loose ∷ []
a_variable_is_read = refl

another_one_is_read : after (op.Get p) no_facts (variable x) IsHandle ≡ fact (variable x) IsHandle ∷ []
another_one_is_read = refl

a_global_is_read : after (op.Get g) no_facts (variable g) Purgeable ≡ fact (variable g) Purgeable ∷ fact (Place 2) Purgeable ∷ []
a_global_is_read = refl

a_variable_is_set : after (op.Set p) no_facts (Place 1) Stale ≡ fact (Place 1) Stale ∷ fact (variable p) Stale ∷ []
a_variable_is_set = refl

its_old_value_ends : after (op.Set p) no_facts (variable p) Stale ≡ []
its_old_value_ends = refl

another_one_is_set : after (op.Set p) no_facts (variable x) IsHandle ≡ fact (variable x) IsHandle ∷ []
another_one_is_set = refl

a_name_is_set : after (op.Set x) no_facts (variable p) (Fresh 0) ≡ fact (variable p) Loose ∷ []
a_name_is_set = refl

another_name_is_set : after (op.Set x) no_facts (variable p) (Fresh 1) ≡ fact (variable p) (Fresh 1) ∷ []
another_name_is_set = refl

a_global_name_is_set : after (op.Set g) no_facts (Class 0) (Fresh 2) ≡ fact (Class 0) Loose ∷ []
a_global_name_is_set = refl

no_name_is_set : after (op.Set p) no_facts (Place 1) (Fresh 0) ≡ fact (Place 1) (Fresh 0) ∷ fact (variable p) (Fresh 0) ∷ []
no_name_is_set = refl

the_top_has_lost_its_name_first : after (op.Set x) no_facts (Place 1) (Fresh 0) ≡ fact (Place 1) Loose ∷ fact (variable x) Loose ∷ []
the_top_has_lost_its_name_first = refl

-- ---- Load and Store

-- y is the least of the two names
a_pointer_is_loaded_from_a_name : after (op.Load (access.Pointer 0)) top_is_y (Place 1) IsHandle ≡ fact (Place 1) (Fresh 1) ∷ []
a_pointer_is_loaded_from_a_name = refl

a_pointer_is_loaded_from_no_name : after (op.Load (access.Pointer 0)) no_facts (Place 1) IsHandle ≡ fact (Place 1) Loose ∷ []
a_pointer_is_loaded_from_no_name = refl

what_the_class_has_is_loaded : after (op.Load (access.Pointer 0)) no_facts (Class 0) (Fresh 1) ≡ fact (Class 0) (Fresh 1) ∷ fact (Place 1) (Fresh 1) ∷ []
what_the_class_has_is_loaded = refl

what_another_class_has_is_not : after (op.Load (access.Pointer 0)) no_facts (Class 1) (Fresh 1) ≡ fact (Class 1) (Fresh 1) ∷ []
what_another_class_has_is_not = refl

a_handle_in_memory_is_loaded : after (op.Load (access.Pointer 1)) no_facts (Class 1) IsHandle ≡ fact (Class 1) IsHandle ∷ fact (Place 1) IsHandle ∷ []
a_handle_in_memory_is_loaded = refl

the_pointer_is_taken : after (op.Load (access.Pointer 0)) top_is_y (Place 1) Stale ≡ []
the_pointer_is_taken = refl

a_handle_below_stays : after (op.Load (access.Pointer 0)) top_is_y (Place 0) IsHandle ≡ fact (Place 0) IsHandle ∷ []
a_handle_below_stays = refl

a_number_is_loaded : after (op.Load (access.Number kind.Char)) top_is_y (Place 1) IsHandle ≡ []
a_number_is_loaded = refl

-- the struct on the stack has no facts of its own: its pointers are known by their classes
a_struct_is_loaded : after (op.Load (access.Struct 8)) no_facts (Class 0) Stale ≡ fact (Class 0) Stale ∷ []
a_struct_is_loaded = refl

a_pointer_is_stored : after (op.Store (access.Pointer 1)) no_facts (Place 1) (Fresh 0) ≡ fact (Place 0) (Fresh 0) ∷ fact (Class 1) (Fresh 0) ∷ []
a_pointer_is_stored = refl

what_the_class_had_stays : after (op.Store (access.Pointer 1)) no_facts (Class 1) Stale ≡ fact (Class 1) Stale ∷ []
what_the_class_had_stays = refl

the_place_of_the_store_is_taken : after (op.Store (access.Pointer 1)) no_facts (Place 0) Stale ≡ []
the_place_of_the_store_is_taken = refl

a_byte_is_stored : after (op.Store (access.Number kind.Char)) no_facts (Place 1) SavedPurgeable ≡ fact (Place 0) SavedPurgeable ∷ []
a_byte_is_stored = refl

-- ---- Conv, Dup, Tuck and Bring

a_byte_is_converted : after (op.Conv kind.Int) no_facts (Place 1) SavedPurgeable ≡ fact (Place 1) SavedPurgeable ∷ []
a_byte_is_converted = refl

the_top_is_doubled : after op.Dup no_facts (Place 1) Stale ≡ fact (Place 1) Stale ∷ fact (Place 2) Stale ∷ []
the_top_is_doubled = refl

what_is_below_is_not : after op.Dup no_facts (Place 0) Stale ≡ fact (Place 0) Stale ∷ []
what_is_below_is_not = refl

the_top_is_tucked_in : after op.Tuck no_facts (Place 1) Held ≡ fact (Place 0) Held ∷ fact (Place 2) Held ∷ []
the_top_is_tucked_in = refl

above_what_was_below : after op.Tuck no_facts (Place 0) IsHandle ≡ fact (Place 1) IsHandle ∷ []
above_what_was_below = refl

a_value_is_brought_to_the_top : after (op.Bring 2) no_facts (Place 0) Stale ≡ fact (Place 1) Stale ∷ []
a_value_is_brought_to_the_top = refl

the_one_above_it_comes_down : after (op.Bring 2) no_facts (Place 1) IsHandle ≡ fact (Place 0) IsHandle ∷ []
the_one_above_it_comes_down = refl

the_one_below_it_stays : after (op.Bring 1) no_facts (Place 0) IsHandle ≡ fact (Place 0) IsHandle ∷ []
the_one_below_it_stays = refl

-- ---- Offset and Step

a_pointer_is_moved : after (op.Offset 4) no_facts (Place 1) (Fresh 0) ≡ fact (Place 1) (Fresh 0) ∷ []
a_pointer_is_moved = refl

a_stale_pointer_is_moved : after (op.Offset 4) no_facts (Place 1) Stale ≡ fact (Place 1) Stale ∷ []
a_stale_pointer_is_moved = refl

a_handle_is_moved : after (op.Offset 4) no_facts (Place 1) IsHandle ≡ []
a_handle_is_moved = refl

the_pointer_is_below : after (op.Step stride true) no_facts (Place 0) Loose ≡ fact (Place 0) Loose ∷ []
the_pointer_is_below = refl

the_number_is_above : after (op.Step stride true) no_facts (Place 1) SavedPurgeable ≡ []
the_number_is_above = refl

the_pointer_is_above : after (op.Step stride false) no_facts (Place 1) Held ≡ fact (Place 0) Held ∷ []
the_pointer_is_above = refl

a_handle_is_stepped : after (op.Step stride false) no_facts (Place 1) Purgeable ≡ []
a_handle_is_stepped = refl

-- ---- Shift

a_pointer_goes_stale : after moves_shift no_facts (variable p) (Fresh 0) ≡ fact (variable p) (Fresh 0) ∷ fact (variable p) Stale ∷ []
a_pointer_goes_stale = refl

unless_its_handle_is_locked : after moves_shift x_locked (variable p) (Fresh 0) ≡ fact (variable p) (Fresh 0) ∷ []
unless_its_handle_is_locked = refl

the_lock_of_another_handle : after moves_shift x_locked (variable p) (Fresh 1) ≡ fact (variable p) (Fresh 1) ∷ fact (variable p) Stale ∷ []
the_lock_of_another_handle = refl

a_pointer_of_a_caller_goes_stale : after moves_shift x_locked (Class 0) Outer ≡ fact (Class 0) Outer ∷ fact (Class 0) Stale ∷ []
a_pointer_of_a_caller_goes_stale = refl

a_pointer_without_a_name_goes_stale : after moves_shift x_locked (Place 0) Loose ≡ fact (Place 0) Loose ∷ fact (Place 0) Stale ∷ []
a_pointer_without_a_name_goes_stale = refl

what_a_caller_holds_does_not : after moves_shift no_facts (variable p) Held ≡ fact (variable p) Held ∷ []
what_a_caller_holds_does_not = refl

a_handle_does_not : after purges_shift no_facts (variable x) IsHandle ≡ fact (variable x) IsHandle ∷ []
a_handle_does_not = refl

a_block_is_purged : after purges_shift no_facts (variable x) Purgeable ≡ fact (variable x) Purgeable ∷ fact (variable x) Hollow ∷ []
a_block_is_purged = refl

unless_a_name_is_locked : after purges_shift x_locked (variable x) Purgeable ≡ fact (variable x) Purgeable ∷ []
unless_a_name_is_locked = refl

or_the_routine_does_not_purge : after moves_shift no_facts (variable x) Purgeable ≡ fact (variable x) Purgeable ∷ []
or_the_routine_does_not_purge = refl

a_block_without_a_name_is_purged : after purges_shift x_locked (Class 1) Purgeable ≡ fact (Class 1) Purgeable ∷ fact (Class 1) Hollow ∷ []
a_block_without_a_name_is_purged = refl

a_place_has_a_locked_name : after purges_shift (given (1 ∷ []) [] (1 ∷ []) false false) (Place 1) Purgeable ≡ fact (Place 1) Purgeable ∷ []
a_place_has_a_locked_name = refl

-- ---- Routine: handles that are made

a_handle_is_made : after new_handle no_facts Nothing Reached ≡ fact Nothing Reached ∷ fact (Place 1) IsHandle ∷ []
a_handle_is_made = refl

a_plain_routine_makes_one : after plain_handle no_facts Nothing Reached ≡ fact Nothing Reached ∷ fact (Place 2) IsHandle ∷ []
a_plain_routine_makes_one = refl

a_plain_routine_makes_none : after plain_pointer no_facts Nothing Reached ≡ fact Nothing Reached ∷ []
a_plain_routine_makes_none = refl

its_argument_is_taken : after plain_pointer no_facts (Place 1) Stale ≡ []
its_argument_is_taken = refl

a_slot_below_stays : after plain_pointer no_facts (Place 0) (Fresh 0) ≡ fact (Place 0) (Fresh 0) ∷ []
a_slot_below_stays = refl

-- ---- Routine: locks

a_held_block_is_unlocked : after unlock no_facts (variable p) Held ≡ fact (variable p) Outer ∷ []
a_held_block_is_unlocked = refl

a_held_block_is_reallocated : after realloc no_facts (variable p) Held ≡ fact (variable p) Outer ∷ []
a_held_block_is_reallocated = refl

another_state_is_set : after set_state no_facts (variable p) Held ≡ fact (variable p) Outer ∷ []
another_state_is_set = refl

the_state_is_restored : after set_state (put_on_x false true) (variable p) Held ≡ fact (variable p) Held ∷ []
the_state_is_restored = refl

a_held_block_is_locked : after lock no_facts (variable p) Held ≡ fact (variable p) Held ∷ []
a_held_block_is_locked = refl

-- ---- Routine: marks

a_handle_is_marked : after purge top_is_y (variable x) IsHandle ≡ fact (variable x) IsHandle ∷ fact (variable x) Purgeable ∷ []
a_handle_is_marked = refl

unless_it_is_apart : after purge top_is_y_apart (variable x) IsHandle ≡ fact (variable x) IsHandle ∷ []
unless_it_is_apart = refl

a_handle_in_memory_is_marked : after purge top_is_y_apart (Class 1) IsHandle ≡ fact (Class 1) IsHandle ∷ fact (Class 1) Purgeable ∷ []
a_handle_in_memory_is_marked = refl

another_state_may_mark : after set_state (put_on_x false false) (variable y) IsHandle ≡ fact (variable y) IsHandle ∷ fact (variable y) Purgeable ∷ []
another_state_may_mark = refl

but_not_what_is_apart : after set_state (put_on_x true false) (variable y) IsHandle ≡ fact (variable y) IsHandle ∷ []
but_not_what_is_apart = refl

a_restore_marks_nothing_by_itself : after set_state (put_on_x false true) (variable y) IsHandle ≡ fact (variable y) IsHandle ∷ []
a_restore_marks_nothing_by_itself = refl

a_handle_is_unmarked : after no_purge top_is_y (variable y) Purgeable ≡ []
a_handle_is_unmarked = refl

by_each_of_its_names : after no_purge top_is_y (variable g) Purgeable ≡ []
by_each_of_its_names = refl

another_one_is_not : after no_purge top_is_y (variable x) Purgeable ≡ fact (variable x) Purgeable ∷ []
another_one_is_not = refl

what_was_purged_stays_so : after no_purge top_is_y (variable y) Hollow ≡ fact (variable y) Hollow ∷ []
what_was_purged_stays_so = refl

-- ---- Routine: state bytes

a_state_is_read : after get_state top_is_y (Place 1) Purgeable ≡ fact (Place 1) SavedPurgeable ∷ []
a_state_is_read = refl

of_a_block_that_is_not_marked : after get_state top_is_y (Place 1) IsHandle ≡ []
of_a_block_that_is_not_marked = refl

the_block_stays_marked : after get_state top_is_y (variable y) Purgeable ≡ fact (variable y) Purgeable ∷ []
the_block_stays_marked = refl

-- each variable that may have a handle, and each class; the two places are arguments
a_state_is_put_back : after set_state (put_on_x false true) (Place 1) SavedPurgeable
    ≡ fact (variable g) Purgeable ∷ fact (variable x) Purgeable ∷ fact (variable y) Purgeable ∷ fact (variable p) Purgeable
    ∷ fact (Class 0) Purgeable ∷ fact (Class 1) Purgeable ∷ []
a_state_is_put_back = refl

but_not_on_what_is_apart : after set_state (put_on_x true true) (Place 1) SavedPurgeable
    ≡ fact (variable g) Purgeable ∷ fact (variable x) Purgeable ∷ fact (variable p) Purgeable ∷ fact (Class 0) Purgeable ∷ fact (Class 1) Purgeable ∷ []
but_not_on_what_is_apart = refl

a_state_is_put_on_another_handle : after set_state (put_on_x false false) (Place 1) SavedPurgeable ≡ []
a_state_is_put_on_another_handle = refl

the_byte_is_the_second_argument : after set_state (put_on_x false true) (Place 0) SavedPurgeable ≡ []
the_byte_is_the_second_argument = refl

a_byte_in_a_variable_stays : after set_state (put_on_x false true) (variable b) SavedPurgeable ≡ fact (variable b) SavedPurgeable ∷ []
a_byte_in_a_variable_stays = refl

-- ---- Return

the_top_is_the_result : after op.Return no_facts (Place 1) (Fresh 0) ≡ fact Answer (Fresh 0) ∷ []
the_top_is_the_result = refl

a_value_below_ends : after op.Return no_facts (Place 0) (Fresh 0) ≡ []
a_value_below_ends = refl

a_local_ends : after op.Return no_facts (variable x) IsHandle ≡ []
a_local_ends = refl

a_global_stays : after op.Return no_facts (variable g) IsHandle ≡ fact (variable g) IsHandle ∷ []
a_global_stays = refl

a_class_stays : after op.Return no_facts (Class 0) Held ≡ fact (Class 0) Held ∷ []
a_class_stays = refl

control_returns : after op.Return no_facts Nothing Reached ≡ fact Nothing Reached ∷ []
control_returns = refl

-- ---- a call has steps of its own

not_over_a_call : after (op.Call 0) no_facts Nothing Reached ≡ []
not_over_a_call = refl

-- a function of two parameters, of which the second is an object of the class 1; its effects, and whether it assigns g
abbrev callee : Bool → Bool → Bool → Bool → Bool → Callee
callee moves purges unlocks marks assigns =
    record {
      moves = moves;
      purges = purges;
      unlocks = unlocks;
      marks = marks;
      assigns = λ place. assigns && (place == 0);
      parameters = Some (variable x) ∷ Some (Class 1) ∷ [];
    }

abbrev does_nothing : Callee
does_nothing = callee false false false false false

abbrev moves_only : Callee
moves_only = callee true false false false false

abbrev moves_and_unlocks : Callee
moves_and_unlocks = callee true false true false false

abbrev purges_only : Callee
purges_only = callee true true false false false

abbrev marks_only : Callee
marks_only = callee false false false true false

abbrev marks_and_purges : Callee
marks_and_purges = callee true true false true false

abbrev assigns_g : Callee
assigns_g = callee false false false false true

-- all facts at the next operation that go over the call; the two values on the stack are its arguments
abbrev over : Callee → Given → Slot → FactStatus → List Fact
over its known of status = over_of its known (fact of status)

-- one value below its one argument
abbrev one_parameter : Callee
one_parameter = record { moves = false; purges = false; unlocks = false; marks = false; assigns = λ place. false; parameters = Some (variable x) ∷ [] }

-- ---- over a call

control_comes_back : over marks_and_purges no_facts Nothing Reached ≡ fact Nothing Reached ∷ []
control_comes_back = refl

an_argument_does_not_go_over : over does_nothing no_facts (Place 0) Loose ≡ []
an_argument_does_not_go_over = refl

a_value_below_does : over one_parameter no_facts (Place 0) Loose ≡ fact (Place 0) Loose ∷ []
a_value_below_does = refl

a_global_does_not_if_it_is_assigned : over assigns_g no_facts (variable g) IsHandle ≡ []
a_global_does_not_if_it_is_assigned = refl

another_global_does : over assigns_g no_facts (variable n) SavedPurgeable ≡ fact (variable n) SavedPurgeable ∷ []
another_global_does = refl

a_handle_goes_over : over purges_only no_facts (variable x) IsHandle ≡ fact (variable x) IsHandle ∷ []
a_handle_goes_over = refl

and_may_be_marked : over marks_only no_facts (variable x) IsHandle ≡ fact (variable x) IsHandle ∷ fact (variable x) Purgeable ∷ []
and_may_be_marked = refl

and_purged : over marks_and_purges no_facts (variable x) IsHandle
    ≡ fact (variable x) IsHandle ∷ fact (variable x) Purgeable ∷ fact (variable x) Hollow ∷ []
and_purged = refl

unless_it_is_kept : over marks_and_purges x_locked (variable x) IsHandle ≡ fact (variable x) IsHandle ∷ fact (variable x) Purgeable ∷ []
unless_it_is_kept = refl

a_marked_block_may_be_purged : over purges_only no_facts (variable x) Purgeable ≡ fact (variable x) Purgeable ∷ fact (variable x) Hollow ∷ []
a_marked_block_may_be_purged = refl

unless_that_is_kept : over purges_only x_locked (variable x) Purgeable ≡ fact (variable x) Purgeable ∷ []
unless_that_is_kept = refl

or_nothing_is_purged : over moves_only no_facts (variable x) Purgeable ≡ fact (variable x) Purgeable ∷ []
or_nothing_is_purged = refl

an_unlocked_block_is_purged : over (callee true true true false false) x_locked (variable x) Purgeable
    ≡ fact (variable x) Purgeable ∷ fact (variable x) Hollow ∷ []
an_unlocked_block_is_purged = refl

a_pointer_stays_fresh : over does_nothing no_facts (variable p) (Fresh 0) ≡ fact (variable p) (Fresh 0) ∷ []
a_pointer_stays_fresh = refl

its_name_is_assigned : over assigns_g no_facts (variable p) (Fresh 2) ≡ fact (variable p) Loose ∷ []
its_name_is_assigned = refl

its_name_is_not : over assigns_g no_facts (variable p) (Fresh 0) ≡ fact (variable p) (Fresh 0) ∷ []
its_name_is_not = refl

its_block_moves : over moves_only no_facts (variable p) (Fresh 0) ≡ fact (variable p) (Fresh 0) ∷ fact (variable p) Stale ∷ []
its_block_moves = refl

its_block_is_kept : over moves_only x_locked (variable p) (Fresh 0) ≡ fact (variable p) (Fresh 0) ∷ []
its_block_is_kept = refl

its_block_is_unlocked : over moves_and_unlocks x_locked (variable p) (Fresh 0) ≡ fact (variable p) (Fresh 0) ∷ fact (variable p) Stale ∷ []
its_block_is_unlocked = refl

what_a_caller_holds_stays : over moves_only no_facts (variable p) Held ≡ fact (variable p) Held ∷ []
what_a_caller_holds_stays = refl

and_is_unlocked : over (callee false false true false false) no_facts (variable p) Held ≡ fact (variable p) Outer ∷ []
and_is_unlocked = refl

and_moves : over moves_and_unlocks no_facts (variable p) Held ≡ fact (variable p) Outer ∷ fact (variable p) Stale ∷ []
and_moves = refl

an_outer_pointer_stays : over does_nothing no_facts (Class 0) Outer ≡ fact (Class 0) Outer ∷ []
an_outer_pointer_stays = refl

an_outer_pointer_goes_stale : over moves_only x_locked (Class 0) Outer ≡ fact (Class 0) Outer ∷ fact (Class 0) Stale ∷ []
an_outer_pointer_goes_stale = refl

a_loose_pointer_goes_stale : over moves_only x_locked (variable p) Loose ≡ fact (variable p) Loose ∷ fact (variable p) Stale ∷ []
a_loose_pointer_goes_stale = refl

a_stale_one_stays : over moves_only no_facts (variable p) Stale ≡ fact (variable p) Stale ∷ []
a_stale_one_stays = refl

abbrev into : Given → Slot → FactStatus → Option Fact
into known of status = enter_of (does_nothing.parameters) known (fact of status)

-- ---- into a call

control_enters : into no_facts Nothing Reached ≡ Some (fact Nothing Reached)
control_enters = refl

an_argument_enters_its_parameter : into no_facts (Place 0) IsHandle ≡ Some (fact (variable x) IsHandle)
an_argument_enters_its_parameter = refl

or_the_class_of_an_object : into no_facts (Place 1) Stale ≡ Some (fact (Class 1) Stale)
or_the_class_of_an_object = refl

a_class_enters : into no_facts (Class 0) Purgeable ≡ Some (fact (Class 0) Purgeable)
a_class_enters = refl

a_global_enters : into no_facts (variable g) Hollow ≡ Some (fact (variable g) Hollow)
a_global_enters = refl

a_local_does_not : into no_facts (variable p) Stale ≡ None
a_local_does_not = refl

a_locked_pointer_is_held : into x_locked (Place 0) (Fresh 0) ≡ Some (fact (variable x) Held)
a_locked_pointer_is_held = refl

another_one_is_outer : into x_locked (Place 0) (Fresh 1) ≡ Some (fact (variable x) Outer)
another_one_is_outer = refl

a_loose_one_is_too : into x_locked (Class 0) Loose ≡ Some (fact (Class 0) Outer)
a_loose_one_is_too = refl

a_held_one_is_held : into no_facts (Class 0) Held ≡ Some (fact (Class 0) Held)
a_held_one_is_held = refl

a_state_byte_does_not_enter : into no_facts (Place 0) SavedPurgeable ≡ None
a_state_byte_does_not_enter = refl

a_value_below_does_not_enter : enter_of (one_parameter.parameters) no_facts (fact (Place 0) IsHandle) ≡ None
a_value_below_does_not_enter = refl

-- the parameters: a slot, two objects of pointer types of which the code names one class, and an object that is a number
the_parameters : parameter_slots basic_types (record { structs = []; types = [] }) (class.Pointer char_handle_id ∷ class.Pointer char_pointer_id ∷ []) 0
    (declared char_handle_id false ∷ declared char_pointer_id true ∷ declared char true ∷ [])
    ≡ Some (variable x) ∷ Some (Class 1) ∷ None ∷ []
the_parameters = refl

a_class_that_is_not_named : parameter_slots basic_types (record { structs = []; types = [] }) [] 0 (declared char_pointer_id true ∷ []) ≡ None ∷ []
a_class_that_is_not_named = refl

-- the result is the one value on the stack, above nothing
abbrev back : Callee → FactStatus → Slot → FactStatus → Option Fact
back its caller of status = leave_of its no_facts (fact (Class 0) caller) (fact of status)

-- ---- out of a call

control_leaves : back does_nothing Reached Nothing Reached ≡ Some (fact Nothing Reached)
control_leaves = refl

the_result_is_on_top : back does_nothing Reached Answer IsHandle ≡ Some (fact (Place 0) IsHandle)
the_result_is_on_top = refl

above_a_value_below : leave_of one_parameter no_facts (fact Nothing Reached) (fact Answer IsHandle) ≡ Some (fact (Place 1) IsHandle)
above_a_value_below = refl

a_class_leaves : back does_nothing (Fresh 0) (Class 1) Stale ≡ Some (fact (Class 1) Stale)
a_class_leaves = refl

a_global_leaves : back does_nothing IsHandle (variable g) Purgeable ≡ Some (fact (variable g) Purgeable)
a_global_leaves = refl

a_local_does_not_leave : back does_nothing Reached (variable p) Stale ≡ None
a_local_does_not_leave = refl

a_pointer_of_the_function_is_loose : back does_nothing Reached Answer (Fresh 0) ≡ Some (fact (Place 0) Loose)
a_pointer_of_the_function_is_loose = refl

a_held_one_is_what_it_was : back does_nothing (Fresh 0) Answer Held ≡ Some (fact (Place 0) (Fresh 0))
a_held_one_is_what_it_was = refl

unless_its_name_is_assigned : back assigns_g (Fresh 2) Answer Held ≡ Some (fact (Place 0) Loose)
unless_its_name_is_assigned = refl

a_held_one_of_a_caller_of_the_caller : back does_nothing Held (Class 0) Held ≡ Some (fact (Class 0) Held)
a_held_one_of_a_caller_of_the_caller = refl

an_outer_one_is_what_it_was : back does_nothing (Fresh 1) (Class 0) Outer ≡ Some (fact (Class 0) (Fresh 1))
an_outer_one_is_what_it_was = refl

unless_that_name_is_assigned : back assigns_g (Fresh 2) (Class 0) Outer ≡ Some (fact (Class 0) Loose)
unless_that_name_is_assigned = refl

an_outer_one_of_a_loose_one : back does_nothing Loose (Class 0) Outer ≡ Some (fact (Class 0) Loose)
an_outer_one_of_a_loose_one = refl

an_outer_one_that_the_caller_held : back moves_and_unlocks Held (Class 0) Outer ≡ Some (fact (Class 0) Outer)
an_outer_one_that_the_caller_held = refl

a_state_byte_does_not_leave : back does_nothing Reached Answer SavedPurgeable ≡ None
a_state_byte_does_not_leave = refl
