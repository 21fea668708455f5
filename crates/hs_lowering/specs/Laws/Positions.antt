-- The operations of an expression have its position and its piece, and those of its operands theirs (own).
--     position_of node             where an expression stands
--     Positioned its               these operations are of the piece, and have positions that meet the fact, wherever they stand
--     right_placed, left_placed    the law: if the position of each expression inside meets a fact, so does that of each operation
use Rattle.std.proofs.Common.{◌≡◌, ℕ, suc, Bool, true, false, List, [], ◌++◌, slice_get, Option, Some, None, refl}
use Rattle.std.specs.List.{AllByRecursion}
use Rattle.hs_base.specs.declared.pos.Pos.{Pos}
use Rattle.hs_base.specs.Entries.{all_appended}
use Rattle.hs_code.specs.declared.function_code.Placed.{Placed}
use Rattle.hs_code.specs.declared.op.Access.{Access}
use Rattle.hs_code.specs.declared.op.Binary.TheVariants as binary
use Rattle.hs_code.specs.declared.op.Object.TheVariants as object
use Rattle.hs_code.specs.declared.op.Op.{Op}
use Rattle.hs_code.specs.declared.op.Op.TheVariants as op
use Rattle.hs_code.specs.declared.op.Unary.TheVariants as unary
use Rattle.hs_lowering.specs.Lowering.{Lowered, after, operand, sequence, only, on_one, on_two, branches, chosen, answered, conjoined, slot_of, access_in, read_code, written_code, fetched, updated_code, stepped_code, numbers_changed, takes_decision, decided_if, bound_code, right_code, address_code, all_code, dropped_code}
use Rattle.hs_meaning.specs.Settings.{Setting, access_of}
use Rattle.hs_tree.specs.Inside.{Node, right, left, EachRight, EachLeft, EachOf}
use Rattle.hs_tree.specs.Trees as tree
use Rattle.hs_tree.specs.Trees.{RightValue, LeftValue, RightValues, head_of, head_of_left}
use Rattle.hs_tree.specs.declared.head.Head.{Head}
use Rattle.hs_tree.specs.declared.head.Variable.{Variable}
use Rattle.hs_tree.specs.declared.head.VariableDecl.{VariableDecl}

-- of a value, or of an lvalue
abbrev pub position_of : Node → Pos
position_of (right e) = (head_of e).at.pos
position_of (left e) = (head_of_left e).at.pos

-- the operation is of that piece, and its position meets the fact
abbrev pub IsPlaced : ℕ → (Pos → Type 0) → Placed → Type 0
IsPlaced piece fact one = (one.piece ≡ piece) × fact one.at

-- ---- lists

module _ (piece : ℕ) (fact : Pos → Type 0) where
  -- of each of them
  abbrev AllPlaced : List Placed → Type 0
  AllPlaced its = AllByRecursion (IsPlaced piece fact) its

  -- wherever they stand
  pub record Positioned (its : Lowered) : Type 0 where
    pub at : (start depth : ℕ) → AllPlaced (its start depth)

  both_placed : (first second : List Placed) → AllPlaced first → AllPlaced second → AllPlaced (first ++ second)
  both_placed first second is also = all_appended (IsPlaced piece fact) first second is also

  operand_placed : {first second : Lowered} → Positioned first → Positioned second → Positioned (operand first second)
  operand_placed {first = first} {second = second} is also =
      record {
        at = λ start depth.
            both_placed (first start depth) (second (after start (first start depth)) (suc depth)) (is.at start depth)
            (also.at (after start (first start depth)) (suc depth));
      }

  sequence_placed : {first second : Lowered} → Positioned first → Positioned second → Positioned (sequence first second)
  sequence_placed {first = first} {second = second} is also =
      record {
        at = λ start depth.
            both_placed (first start depth) (second (after start (first start depth)) depth) (is.at start depth)
            (also.at (after start (first start depth)) depth);
      }

  nothing_placed : Positioned (λ start depth. [])
  nothing_placed = record { at = λ start depth. tt }

  module _ (head : Head) (here : fact head.at.pos) where
    only_placed : (its : Op) → Positioned (only piece head its)
    only_placed its = record { at = λ start depth. ((refl, here), tt) }

    one_placed : (its : Op) {first : Lowered} → Positioned first → Positioned (on_one piece head its first)
    one_placed its first_is = operand_placed first_is (only_placed its)

    two_placed : (its : Op) {first second : Lowered} → Positioned first → Positioned second → Positioned (on_two piece head its first second)
    two_placed its first_is also = operand_placed first_is (operand_placed also (only_placed its))

    -- ---- branches

    branched : (at depth : ℕ) (first : List Placed) (second : Lowered) → AllPlaced first → Positioned second
        → AllPlaced (branches piece head at depth first second)
    branched at depth first second is also = ((refl, here), both_placed first _ is ((refl, here), also.at (suc (after (suc at) first)) depth))

    chosen_placed : {test first second : Lowered} → Positioned test → Positioned first → Positioned second → Positioned (chosen piece head test first second)
    chosen_placed {test = test} {first = first} {second = second} is one other =
        record {
          at = λ start depth.
              both_placed (test start depth) _ (is.at start depth)
              (branched (after start (test start depth)) depth (first (suc (after start (test start depth))) depth) second
              (one.at (suc (after start (test start depth))) depth) other);
        }

    answered_placed : {test : Lowered} → Positioned test → Positioned (answered piece head test)
    answered_placed is = chosen_placed is (only_placed (op.Num 1)) (only_placed (op.Num 0))

    conjoined_placed : {first second : Lowered} → Positioned first → Positioned second → Positioned (conjoined piece head first second)
    conjoined_placed {first = first} {second = second} is also =
        record {
          at = λ start depth.
              both_placed (first start depth) _ (is.at start depth) (
                (refl, here),
                both_placed (second (suc (after start (first start depth))) depth) _ (also.at (suc (after start (first start depth))) depth)
                    ((refl, here), ((refl, here), ((refl, here), ((refl, here), tt)))),
              );
        }

    -- ---- objects

    read_placed : (slot : Option Variable) (access : Access) {address : Lowered} → Positioned address
        → Positioned (read_code piece head slot access address)
    read_placed (Some its) access is = only_placed (op.Get its)
    read_placed None access is = one_placed (op.Load access) is

    written_placed : (slot : Option Variable) (access : Access) {address from : Lowered} → Positioned address → Positioned from
        → Positioned (written_code piece head slot access address from)
    written_placed (Some its) access is also = one_placed (op.Set its) also
    written_placed None access is also = two_placed (op.Store access) is also

    fetched_placed : (access : Access) → Positioned (fetched piece head access)
    fetched_placed access = operand_placed (only_placed op.Dup) (only_placed (op.Load access))

    -- what makes a new value of two
    record Changing (changes : Lowered → Lowered → Lowered) : Type 0 where
      pub go : (first second : Lowered) → Positioned first → Positioned second → Positioned (changes first second)

    numbers_changing : (its to : Op) → Changing (numbers_changed piece head its to)
    numbers_changing its to = record { go = λ first second one other. one_placed to (two_placed its one other) }

    pointers_changing : (its : Op) → Changing (on_two piece head its)
    pointers_changing its = record { go = λ first second one other. two_placed its one other }

    updated_placed : (slot : Option Variable) (access : Access) (changes : Lowered → Lowered → Lowered) → Changing changes → (address from : Lowered)
        → Positioned address → Positioned from → Positioned (updated_code piece head slot access changes address from)
    updated_placed (Some its) access changes changing address from is also =
        one_placed (op.Set its) (changing.go (only piece head (op.Get its)) from (only_placed (op.Get its)) also)
    updated_placed None access changes changing address from is also =
        two_placed (op.Store access) is (changing.go (fetched piece head access) from (fetched_placed access) also)

    stepped_placed : (slot : Option Variable) (access : Access) (changes : Lowered → Lowered → Lowered) → Changing changes → (address : Lowered)
        → Positioned address → Positioned (stepped_code piece head slot access changes address)
    stepped_placed (Some its) access changes changing address is =
        two_placed op.Drop (only_placed (op.Get its))
        (one_placed (op.Set its)
        (changing.go (only piece head op.Dup) (only piece head (op.Num 1)) (only_placed op.Dup) (only_placed (op.Num 1))))
    stepped_placed None access changes changing address is =
        operand_placed is (operand_placed (fetched_placed access)
        (sequence_placed (one_placed (op.Store access)
        (changing.go (only piece head op.Tuck) (only piece head (op.Num 1)) (only_placed op.Tuck) (only_placed (op.Num 1)))) (only_placed op.Drop)))

    -- ---- calls

    decided_placed : (b : Bool) (place : ℕ) → Positioned (decided_if piece b head place)
    decided_placed true place = only_placed (op.Shift place)
    decided_placed false place = nothing_placed

-- ---- expressions

module _ (setting : Setting) (variables : List VariableDecl) (piece : ℕ) (fact : Pos → Type 0) where
  -- the position of the expression meets it
  abbrev pub AtFact : Node → Type 0
  AtFact node = fact (position_of node)

  bound_placed : (head : Head) → fact head.at.pos → (routine : Option ℕ) → Positioned piece fact (bound_code setting variables piece head routine)
  bound_placed head here None = nothing_placed piece fact
  bound_placed head here (Some place) = decided_placed piece fact head here (takes_decision (slice_get setting.routines place)) place

  mutual
    -- of a value
    pub right_placed : (e : RightValue) → EachRight AtFact e → Positioned piece fact (right_code setting variables piece e)
    right_placed (tree.number head bits) is = only_placed piece fact head is (op.Num bits)
    right_placed (tree.nil head) is = only_placed piece fact head is op.Nil
    right_placed (tree.load head e) is =
        read_placed piece fact head is.0 (slot_of setting variables e) (access_in (access_of setting e)) (left_placed e is.1)
    right_placed (tree.decay head e) is =
        left_placed e is.1
    right_placed (tree.address head e) is = left_placed e is.1
    right_placed (tree.cast head e) is = right_placed e is.1
    right_placed (tree.convert_number head its e) is = one_placed piece fact head is.0 (op.Conv its) (right_placed e is.1)
    right_placed (tree.convert_pointer head e) is = right_placed e is.1
    right_placed (tree.unary head its kind e) is = one_placed piece fact head is.0 (op.Unary (unary.Sign its)) (right_placed e is.1)
    right_placed (tree.not head e) is = one_placed piece fact head is.0 (op.Unary unary.Not) (right_placed e is.1)
    right_placed (tree.arithmetic head its kind a b) is =
        two_placed piece fact head is.0 (op.Binary (binary.Arithmetic its) kind) (right_placed a is.1) (right_placed b is.2)
    right_placed (tree.comparison head its kind a b) is =
        two_placed piece fact head is.0 (op.Binary (binary.Comparison its) kind) (right_placed a is.1) (right_placed b is.2)
    right_placed (tree.compare_pointers head its a b) is =
        two_placed piece fact head is.0 (op.Compare its) (right_placed a is.1) (right_placed b is.2)
    right_placed (tree.is_nil head true e) is = one_placed piece fact head is.0 op.IsNil (right_placed e is.1)
    right_placed (tree.is_nil head false e) is =
        one_placed piece fact head is.0 (op.Unary unary.Not) (one_placed piece fact head is.0 op.IsNil (right_placed e is.1))
    right_placed (tree.step head stride pointer_first a b) is =
        two_placed piece fact head is.0 (op.Step stride pointer_first) (right_placed a is.1) (right_placed b is.2)
    right_placed (tree.difference head size a b) is =
        two_placed piece fact head is.0 (op.Difference size) (right_placed a is.1) (right_placed b is.2)
    right_placed (tree.and head a b) is = conjoined_placed piece fact head is.0 (right_placed a is.1) (right_placed b is.2)
    right_placed (tree.or head a b) is =
        chosen_placed piece fact head is.0 (right_placed a is.1) (only_placed piece fact head is.0 (op.Num 1))
        (answered_placed piece fact head is.0 (right_placed b is.2))
    right_placed (tree.conditional head test a b) is =
        chosen_placed piece fact head is.0 (right_placed test is.1) (right_placed a is.2) (right_placed b is.3)
    right_placed (tree.comma head lefts last) is = dropped_placed head is.0 lefts is.1 (right_code setting variables piece last) (right_placed last is.2)
    right_placed (tree.assign head into from) is =
        written_placed piece fact head is.0 (slot_of setting variables into) (access_in (access_of setting into)) (left_placed into is.1)
        (right_placed from is.2)
    right_placed (tree.update head its kind to into from) is =
        updated_placed piece fact head is.0 (slot_of setting variables into) (access_in (access_of setting into)) _
        (numbers_changing piece fact head is.0 (op.Binary (binary.Arithmetic its) kind) (op.Conv to)) _ _ (left_placed into is.1) (right_placed from is.2)
    right_placed (tree.advance head stride into from) is =
        updated_placed piece fact head is.0 (slot_of setting variables into) (access_in (access_of setting into)) _
        (pointers_changing piece fact head is.0 (op.Step stride true)) _ _ (left_placed into is.1) (right_placed from is.2)
    right_placed (tree.post_update head its kind to into) is =
        stepped_placed piece fact head is.0 (slot_of setting variables into) (access_in (access_of setting into)) _
        (numbers_changing piece fact head is.0 (op.Binary (binary.Arithmetic its) kind) (op.Conv to)) _ (left_placed into is.1)
    right_placed (tree.post_advance head stride into) is =
        stepped_placed piece fact head is.0 (slot_of setting variables into) (access_in (access_of setting into)) _
        (pointers_changing piece fact head is.0 (op.Step stride true)) _ (left_placed into is.1)
    right_placed (tree.call head place routine arguments) is =
        all_placed arguments is.1 _
        (sequence_placed piece fact (bound_placed head is.0 routine)
        (only_placed piece fact head is.0 (op.Call place)))
    right_placed (tree.call_routine head place arguments) is =
        all_placed arguments is.1 _
        (sequence_placed piece fact
        (decided_placed piece fact head is.0 (takes_decision (slice_get setting.routines place)) place)
        (only_placed piece fact head is.0 (op.Routine place)))

    -- of an address
    pub left_placed : (e : LeftValue) → EachLeft AtFact e → Positioned piece fact (address_code setting variables piece e)
    left_placed (tree.variable head its) is =
        only_placed piece fact head is (op.Address (object.Variable its))
    left_placed (tree.literal head place) is = only_placed piece fact head is (op.Address (object.Literal place))
    left_placed (tree.target head e) is = right_placed e is.1
    left_placed (tree.element head size pointer_first a b) is =
        two_placed piece fact head is.0 (op.Step (record { size = size; backward = false }) pointer_first) (right_placed a is.1)
        (right_placed b is.2)
    left_placed (tree.member head field bytes e) is =
        one_placed piece fact head is.0 (op.Offset bytes)
        (left_placed e is.1)
    left_placed (tree.arrow head field bytes e) is = one_placed piece fact head is.0 (op.Offset bytes) (right_placed e is.1)

    all_placed : (arguments : RightValues) → EachOf AtFact arguments → (last : Lowered) → Positioned piece fact last
        → Positioned piece fact (all_code setting variables piece arguments last)
    all_placed tree.no_values is last last_is = last_is
    all_placed (tree.more_values e rest) is last last_is = operand_placed piece fact (right_placed e is.0) (all_placed rest is.1 last last_is)

    dropped_placed : (head : Head) → fact head.at.pos → (lefts : RightValues) → EachOf AtFact lefts → (last : Lowered)
        → Positioned piece fact last → Positioned piece fact (dropped_code setting variables piece head lefts last)
    dropped_placed head here tree.no_values is last last_is = last_is
    dropped_placed head here (tree.more_values e rest) is last last_is =
        sequence_placed piece fact (one_placed piece fact head here op.Drop (right_placed e is.0))
        (dropped_placed head here rest is.1 last last_is)
