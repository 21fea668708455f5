-- Rows of the table of uses, each with its opposite. Three values are on the stack before each operation, in the places 0, 1 and 2.
use Rattle.std.proofs.Common.{◌≡◌, ℕ, Bool, true, false, List, [], ◌∷◌, Some, refl}
use Rattle.std.specs.Prelude.{codes}
use Rattle.hs_chains.specs.Hazards.{Kind, Moved, Purged, is_used}
use Rattle.hs_code.specs.Stacks.{Scope}
use Rattle.hs_code.specs.declared.op.Access.TheVariants as access
use Rattle.hs_code.specs.declared.op.Op.{Op}
use Rattle.hs_code.specs.declared.op.Op.TheVariants as op
use Rattle.hs_table.specs.declared.role.Role.{Role}
use Rattle.hs_table.specs.declared.role.Role.TheVariants as role
use Rattle.hs_tree.specs.declared.function.BoundRoutine.{BoundRoutine}
use Rattle.hs_tree.specs.declared.operators.Comparison.TheVariants as comparison
use Rattle.hs_types.specs.Rows.{integer_id, char_pointer_id, char_handle_id}
use Rattle.hs_types.specs.TypeTables.{basic_types}
use Rattle.hs_types.specs.declared.integer.Integer.TheVariants as kind
use Rattle.hs_types.specs.declared.row.TypeId.{TypeId}

abbrev char : TypeId
char = integer_id kind.Char

abbrev routine : Role → List TypeId → BoundRoutine
routine its parameters =
    record {
      routine = record { name = codes "It"; role = its; moves = false; purges = false; fills = 0; size = 0 };
      prototype = Some (record { result = char; parameters = parameters });
    }

abbrev scope : Scope
scope =
    record {
      types = basic_types;
      globals = [];
      variables = [];
      result = char;
      functions = [];
      routines =
          routine role.BlockMove (char_pointer_id ∷ char_pointer_id ∷ char ∷ [])
          ∷ routine role.Plain (char_pointer_id ∷ char ∷ [])
          ∷ routine role.SetState (char_handle_id ∷ char ∷ [])
          ∷ routine role.NewHandle (char ∷ [])
          ∷ [];
    }

-- the operation uses the value of the place
abbrev Uses : Op → Kind → ℕ → Bool → Type 0
Uses its kind place is = is_used scope its 3 kind place ≡ is

abbrev block_move : Op
block_move = op.Routine 0

abbrev plain : Op
plain = op.Routine 1

abbrev set_state : Op
set_state = op.Routine 2

-- ---- loads and stores

a_load_uses_its_pointer : Uses (op.Load (access.Number kind.Char)) Moved 2 true
a_load_uses_its_pointer = refl

and_nothing_below : Uses (op.Load (access.Number kind.Char)) Moved 1 false
and_nothing_below = refl

a_pointer_is_loaded_from_a_handle : Uses (op.Load (access.Pointer 0)) Purged 2 true
a_pointer_is_loaded_from_a_handle = refl

a_number_is_loaded_from_none : Uses (op.Load (access.Number kind.Char)) Purged 2 false
a_number_is_loaded_from_none = refl

a_store_uses_its_pointer : Uses (op.Store (access.Pointer 0)) Moved 1 true
a_store_uses_its_pointer = refl

and_not_its_value : Uses (op.Store (access.Pointer 0)) Moved 2 false
and_not_its_value = refl

a_store_uses_no_handle : Uses (op.Store (access.Pointer 0)) Purged 1 false
a_store_uses_no_handle = refl

-- ---- two pointers

a_comparison_uses_the_left : Uses (op.Compare comparison.Less) Moved 1 true
a_comparison_uses_the_left = refl

and_the_right : Uses (op.Compare comparison.Less) Moved 2 true
and_the_right = refl

a_difference_uses_both : Uses (op.Difference 4) Moved 1 true
a_difference_uses_both = refl

a_test_for_NIL_uses_nothing : Uses op.IsNil Moved 2 false
a_test_for_NIL_uses_nothing = refl

-- ---- routines

block_move_uses_its_pointers : Uses block_move Moved 1 true
block_move_uses_its_pointers = refl

and_not_its_count : Uses block_move Moved 2 false
and_not_its_count = refl

and_no_handle : Uses block_move Purged 1 false
and_no_handle = refl

a_plain_routine_uses_its_pointer : Uses plain Moved 1 true
a_plain_routine_uses_its_pointer = refl

which_may_be_a_handle : Uses plain Purged 1 true
which_may_be_a_handle = refl

and_no_number : Uses plain Purged 2 false
and_no_number = refl

and_nothing_below_its_arguments : Uses plain Moved 0 false
and_nothing_below_its_arguments = refl

a_role_uses_its_handle : Uses set_state Purged 1 true
a_role_uses_its_handle = refl

and_not_its_byte : Uses set_state Purged 2 false
and_not_its_byte = refl

and_no_pointer : Uses set_state Moved 1 false
and_no_pointer = refl

new_handle_uses_nothing : Uses (op.Routine 3) Purged 2 false
new_handle_uses_nothing = refl

-- ---- others

a_value_that_is_dropped : Uses op.Drop Moved 2 false
a_value_that_is_dropped = refl

a_value_that_is_read : Uses op.Dup Moved 2 false
a_value_that_is_read = refl
