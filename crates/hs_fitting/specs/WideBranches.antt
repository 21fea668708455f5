-- A conditional expression computes in promoted kinds, if its branches do (X3.159-1989 3.3.15).
--     conditional_wide                the law
use Rattle.std.proofs.Common.{◌&&◌, Option, Some, None, Ok, if◌then◌else◌}
use Rattle.hs_base.specs.Tests.{whichever}
use Rattle.hs_fitting.specs.ConstantNumbers.{HasWideKinds}
use Rattle.hs_operands.specs.Assignments.{pointers_chosen, pointer_branches, other_branches, branches_by, conditional_of}
use Rattle.hs_operand_types.specs.Constants.{is_null_constant}
use Rattle.hs_operand_types.specs.Conversions.{head_at, same_type, as_kind, truth}
use Rattle.hs_operands.specs.Laws.Made.{gives, refuses, gives_then}
use Rattle.hs_operand_types.specs.Types.{are_compatible, is_open}
use Rattle.hs_tokens.specs.declared.place.Place.{Place}
use Rattle.hs_tree.specs.Kinds.{number_kind, is_pointer, is_void, pointed}
use Rattle.hs_tree.specs.Trees as tree
use Rattle.hs_tree.specs.Trees.{RightValue, type_of}
use Rattle.hs_types.specs.Integers.{common}
use Rattle.hs_types.specs.Rows.{integer_id}
use Rattle.hs_types.specs.TypeTables.{TypeTable}
use Rattle.hs_types.specs.declared.integer.Integer.{Integer}
use Rattle.hs_types.specs.declared.row.TypeId.{TypeId}
use Rattle.hs_fitting.specs.WideOperators.{MakesWide, kind_wide, pointer_wide}

module _ (types : TypeTable) where
  -- `c ? a : b`
  conditional_made : (at : Place) (id : TypeId) (test a b : RightValue) → HasWideKinds a → HasWideKinds b
      → MakesWide (Ok (tree.conditional (head_at at id) test a b))
  conditional_made at id test a b is is' = gives HasWideKinds (tree.conditional (head_at at id) test a b) (is, is')

  chosen_wide : (at : Place) (id : TypeId) (test a b : RightValue) → HasWideKinds a → HasWideKinds b
      → MakesWide (Ok (pointers_chosen at id test a b))
  chosen_wide at id test a b is is' = gives HasWideKinds (pointers_chosen at id test a b) (pointer_wide at id a is, pointer_wide at id b is')

  pointers_wide : (o p : Option TypeId) (at : Place) (test a b : RightValue) → HasWideKinds a → HasWideKinds b
      → MakesWide (pointer_branches types at o p test a b)
  pointers_wide None p at test a b is is' = refuses HasWideKinds at
  pointers_wide (Some first) None at test a b is is' = refuses HasWideKinds at
  pointers_wide (Some first) (Some second) at test a b is is' =
      whichever MakesWide (is_void types first) (chosen_wide at (type_of a) test a b is is')
      (whichever MakesWide (is_void types second) (chosen_wide at (type_of b) test a b is is')
      (whichever MakesWide (are_compatible types first second)
      (chosen_wide at (if is_open types first then type_of b else type_of a) test a b is is') (refuses HasWideKinds at)))

  others_wide : (at : Place) (test a b : RightValue) → HasWideKinds a → HasWideKinds b → MakesWide (other_branches types at test a b)
  others_wide at test a b is is' =
      whichever MakesWide (same_type (type_of a) (type_of b)) (conditional_made at (type_of a) test a b is is')
      (whichever MakesWide (is_pointer types (type_of a) && is_null_constant types b)
      (conditional_made at (type_of a) test a (tree.nil (head_at at (type_of a))) is tt)
      (whichever MakesWide (is_pointer types (type_of b) && is_null_constant types a)
      (conditional_made at (type_of b) test (tree.nil (head_at at (type_of b))) b tt is')
      (pointers_wide (pointed types (type_of a)) (pointed types (type_of b)) at test a b is is')))

  branches_wide : (o p : Option Integer) (at : Place) (test a b : RightValue) → HasWideKinds a → HasWideKinds b
      → MakesWide (branches_by types at o p test a b)
  branches_wide None p at test a b is is' = others_wide at test a b is is'
  branches_wide (Some first) None at test a b is is' = others_wide at test a b is is'
  branches_wide (Some first) (Some second) at test a b is is' =
      conditional_made at (integer_id (common first second)) test (as_kind at (common first second) a) (as_kind at (common first second) b)
      (kind_wide at (common first second) a is) (kind_wide at (common first second) b is')

  pub conditional_wide : (at : Place) (test a b : RightValue) → HasWideKinds a → HasWideKinds b → MakesWide (conditional_of types at test a b)
  conditional_wide at test a b is is' =
      gives_then HasWideKinds (truth types at test)
      (λ condition. branches_by types at (number_kind types (type_of a)) (number_kind types (type_of b)) condition a b)
      (λ condition given. branches_wide (number_kind types (type_of a)) (number_kind types (type_of b)) at condition a b is is')
