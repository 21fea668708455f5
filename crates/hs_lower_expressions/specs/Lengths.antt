-- An expression has at least one operation, so the values on the stack are never more than the operations before.
--     right_some, left_some      the code of an expression, or of an address, is not empty
--     right_after, left_after    so what follows it has a greater number
use Rattle.std.proofs.Common.{◌≤◌, ◌<◌, ℕ, suc, true, false, List, ◌++◌, length, Option, Some, None, arith}
use Rattle.std.proofs.lemmas.List.{length-append}
use Rattle.hs_code.specs.declared.function_code.Placed.{Placed}
use Rattle.hs_code.specs.declared.op.Access as code
use Rattle.hs_code.specs.declared.op.Op.TheVariants as op
use Rattle.hs_lowering.specs.Lowering.{Lowered, after, right_code, address_code, all_code, dropped_code, slot_of, read_code, written_code, updated_code, stepped_code, access_in, only, on_one, sequence, bound_code, decided_code}
use Rattle.hs_lowering.specs.Performing.{after_length}
use Rattle.hs_meaning.specs.Settings.{Setting, access_of}
use Rattle.hs_tree.specs.Trees as tree
use Rattle.hs_tree.specs.Trees.{RightValue, LeftValue, RightValues}
use Rattle.hs_tree.specs.declared.head.Head.{Head}
use Rattle.hs_tree.specs.declared.head.Variable.{Variable}
use Rattle.hs_tree.specs.declared.head.VariableDecl.{VariableDecl}

front : (n : ℕ) → 0 < suc n
front n = omega arith

later : (first rest : List Placed) → 0 < length rest → 0 < length (first ++ rest)
later first rest some = omega (arith, length-append first rest)

module _ (setting : Setting) (variables : List VariableDecl) (piece : ℕ) where
  some_read : (head : Head) (slot : Option Variable) (access : code.Access) (address : Lowered) (start depth : ℕ)
      → 0 < length (read_code piece head slot access address start depth)
  some_read head (Some its) access address start depth = front _
  some_read head None access address start depth = later (address start depth) _ (front _)

  some_written : (head : Head) (slot : Option Variable) (access : code.Access) (address from : Lowered) (start depth : ℕ)
      → 0 < length (written_code piece head slot access address from start depth)
  some_written head (Some its) access address from start depth = later (from start depth) _ (front _)
  some_written head None access address from start depth = later (address start depth) _ (later (from _ _) _ (front _))

  some_updated : (head : Head) (slot : Option Variable) (access : code.Access) (changes : Lowered → Lowered → Lowered) (address from : Lowered)
      (start depth : ℕ)
      → 0 < length (updated_code piece head slot access changes address from start depth)
  some_updated head (Some its) access changes address from start depth = later (changes _ from start depth) _ (front _)
  some_updated head None access changes address from start depth = later (address start depth) _ (later (changes _ from _ _) _ (front _))

  some_stepped : (head : Head) (slot : Option Variable) (access : code.Access) (changes : Lowered → Lowered → Lowered) (address : Lowered) (start depth : ℕ)
      → 0 < length (stepped_code piece head slot access changes address start depth)
  some_stepped head (Some its) access changes address start depth = front _
  some_stepped head None access changes address start depth = later (address start depth) _ (front _)

  some_all : (its : RightValues) (last : Lowered) → ((start depth : ℕ) → 0 < length (last start depth)) → (start depth : ℕ)
      → 0 < length (all_code setting variables piece its last start depth)
  some_all tree.no_values last some start depth = some start depth
  some_all (tree.more_values e rest) last some start depth = later (right_code setting variables piece e start depth) _ (some_all rest last some _ _)

  some_dropped : (head : Head) (its : RightValues) (last : Lowered) → ((start depth : ℕ) → 0 < length (last start depth)) → (start depth : ℕ)
      → 0 < length (dropped_code setting variables piece head its last start depth)
  some_dropped head tree.no_values last some start depth = some start depth
  some_dropped head (tree.more_values e rest) last some start depth =
      later (on_one piece head _ (right_code setting variables piece e) start depth) _ (some_dropped head rest last some _ _)

  mutual
    pub right_some : (e : RightValue) (start depth : ℕ) → 0 < length (right_code setting variables piece e start depth)
    right_some (tree.number head bits) start depth = front _
    right_some (tree.nil head) start depth = front _
    right_some (tree.load head object) start depth =
        some_read head (slot_of setting variables object) (access_in (access_of setting object)) (address_code setting variables piece object) start depth
    right_some (tree.decay head array) start depth = left_some array start depth
    right_some (tree.address head object) start depth = left_some object start depth
    right_some (tree.cast head operand) start depth = right_some operand start depth
    right_some (tree.convert_number head kind operand) start depth = later (right_code setting variables piece operand start depth) _ (front _)
    right_some (tree.convert_pointer head operand) start depth = right_some operand start depth
    right_some (tree.unary head operator kind operand) start depth = later (right_code setting variables piece operand start depth) _ (front _)
    right_some (tree.not head operand) start depth = later (right_code setting variables piece operand start depth) _ (front _)
    right_some (tree.arithmetic head operator kind a b) start depth =
        later (right_code setting variables piece a start depth) _ (later (right_code setting variables piece b _ _) _ (front _))
    right_some (tree.comparison head operator kind a b) start depth =
        later (right_code setting variables piece a start depth) _ (later (right_code setting variables piece b _ _) _ (front _))
    right_some (tree.compare_pointers head operator a b) start depth =
        later (right_code setting variables piece a start depth) _ (later (right_code setting variables piece b _ _) _ (front _))
    right_some (tree.is_nil head true pointer) start depth = later (right_code setting variables piece pointer start depth) _ (front _)
    right_some (tree.is_nil head false pointer) start depth = later (on_one piece head _ (right_code setting variables piece pointer) start depth) _ (front _)
    right_some (tree.step head stride pointer_first a b) start depth =
        later (right_code setting variables piece a start depth) _ (later (right_code setting variables piece b _ _) _ (front _))
    right_some (tree.difference head size a b) start depth =
        later (right_code setting variables piece a start depth) _ (later (right_code setting variables piece b _ _) _ (front _))
    right_some (tree.and head a b) start depth = later (right_code setting variables piece a start depth) _ (front _)
    right_some (tree.or head a b) start depth = later (right_code setting variables piece a start depth) _ (front _)
    right_some (tree.conditional head test first second) start depth = later (right_code setting variables piece test start depth) _ (front _)
    right_some (tree.comma head lefts last) start depth =
        some_dropped head lefts (right_code setting variables piece last) (right_some last) start depth
    right_some (tree.assign head into from) start depth =
        some_written head (slot_of setting variables into) (access_in (access_of setting into)) (address_code setting variables piece into)
        (right_code setting variables piece from) start depth
    right_some (tree.update head operator kind to into from) start depth =
        some_updated head (slot_of setting variables into) (access_in (access_of setting into)) _ (address_code setting variables piece into)
        (right_code setting variables piece from) start depth
    right_some (tree.advance head stride into from) start depth =
        some_updated head (slot_of setting variables into) (access_in (access_of setting into)) _ (address_code setting variables piece into)
        (right_code setting variables piece from) start depth
    right_some (tree.post_update head operator kind to into) start depth =
        some_stepped head (slot_of setting variables into) (access_in (access_of setting into)) _ (address_code setting variables piece into) start depth
    right_some (tree.post_advance head stride into) start depth =
        some_stepped head (slot_of setting variables into) (access_in (access_of setting into)) _ (address_code setting variables piece into) start depth
    right_some (tree.call head place routine arguments) start depth =
        some_all arguments (sequence (bound_code setting variables piece head routine) (only piece head (op.Call place)))
        (λ start depth. later (bound_code setting variables piece head routine start depth) _ (front _)) start depth
    right_some (tree.call_routine head place arguments) start depth =
        some_all arguments (sequence (decided_code setting variables piece head place) (only piece head (op.Routine place)))
        (λ start depth. later (decided_code setting variables piece head place start depth) _ (front _)) start depth

    pub left_some : (e : LeftValue) (start depth : ℕ) → 0 < length (address_code setting variables piece e start depth)
    left_some (tree.variable head its) start depth = front _
    left_some (tree.literal head place) start depth = front _
    left_some (tree.target head pointer) start depth = right_some pointer start depth
    left_some (tree.element head size pointer_first a b) start depth =
        later (right_code setting variables piece a start depth) _ (later (right_code setting variables piece b _ _) _ (front _))
    left_some (tree.member head field bytes object) start depth = later (address_code setting variables piece object start depth) _ (front _)
    left_some (tree.arrow head field bytes pointer) start depth = later (right_code setting variables piece pointer start depth) _ (front _)

  pub right_after : (e : RightValue) (start depth : ℕ) → suc start ≤ after start (right_code setting variables piece e start depth)
  right_after e start depth =
      omega (arith, right_some e start depth, after_length start (right_code setting variables piece e start depth))

  pub left_after : (e : LeftValue) (start depth : ℕ) → suc start ≤ after start (address_code setting variables piece e start depth)
  left_after e start depth =
      omega (arith, left_some e start depth, after_length start (address_code setting variables piece e start depth))
