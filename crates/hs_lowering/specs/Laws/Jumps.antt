-- The code of an expression jumps only inside itself, or to the operation right after it (own).
--     JumpsWithin low high its       the operation is not a jump, or jumps to one of these operations
--     AllWithin low high list        each of these
--     Within its                     code jumps only to its own operations and to the one right after them, wherever it is
--     right_within, left_within      the law; value_within: of a value in a function
use Rattle.std.proofs.Common.{◌≤◌, ℕ, suc, Bool, true, false, List, [], ◌∷◌, ◌++◌, slice_get, Option, Some, None, sym, subst, arith}
use Rattle.std.specs.List.{AllByRecursion}
use Rattle.hs_code.specs.declared.function_code.Placed.{Placed}
use Rattle.hs_code.specs.declared.op.Access as code
use Rattle.hs_code.specs.declared.op.Binary.TheVariants as binary
use Rattle.hs_code.specs.declared.op.Object.TheVariants as object
use Rattle.hs_code.specs.declared.op.Op.{Op}
use Rattle.hs_code.specs.declared.op.Op.TheVariants as op
use Rattle.hs_code.specs.declared.op.Unary.TheVariants as unary
use Rattle.hs_lowering.specs.Lowering.{Lowered, after, operand, sequence, placed, only, on_one, on_two, branches, chosen, answered, both_hold, conjoined, read_code, written_code, fetched, updated_code, stepped_code, numbers_changed, takes_decision, decided_if, bound_code, slot_of, access_in, right_code, address_code, all_code, dropped_code}
use Rattle.hs_lowering.specs.Performing.{after_append}
use Rattle.hs_lowering.specs.Statements.{value_code}
use Rattle.hs_meaning.specs.Settings.{Setting, access_of}
use Rattle.hs_tree.specs.Trees as tree
use Rattle.hs_tree.specs.Trees.{RightValue, LeftValue, RightValues, TypedFunction}
use Rattle.hs_tree.specs.declared.head.Head.{Head}
use Rattle.hs_tree.specs.declared.head.Variable.{Variable}
use Rattle.hs_tree.specs.declared.head.VariableDecl.{VariableDecl}

-- from one operation to another
abbrev pub JumpsWithin : ℕ → ℕ → Op → Type 0
JumpsWithin low high (op.Jump target) = (low ≤ target) × (target ≤ high)
JumpsWithin low high (op.Zero target) = (low ≤ target) × (target ≤ high)
JumpsWithin low high (op.Pick target) = (low ≤ target) × (target ≤ high)
JumpsWithin low high (op.Choose goal) = ⊥
JumpsWithin low high _ = Unit {0}

-- each of them
abbrev pub AllWithin : ℕ → ℕ → List Placed → Type 0
AllWithin low high its = AllByRecursion (λ one. JumpsWithin low high one.op) its

-- ---- lists

-- what follows has no smaller number
pub after_from : (start : ℕ) (its : List Placed) → start ≤ after start its
after_from start [] = omega arith
after_from start (one ∷ rest) = omega (arith, after_from (suc start) rest)

wider_op : (low high less more : ℕ) (its : Op) → less ≤ low → high ≤ more → JumpsWithin low high its → JumpsWithin less more its
wider_op low high less more (op.Jump target) first last is = (omega (arith, first, is.0), omega (arith, last, is.1))
wider_op low high less more (op.Zero target) first last is = (omega (arith, first, is.0), omega (arith, last, is.1))
wider_op low high less more (op.Pick target) first last is = (omega (arith, first, is.0), omega (arith, last, is.1))
wider_op low high less more (op.Choose goal) first last is = absurd is
wider_op low high less more its first last is = tt

pub wider : (low high less more : ℕ) (its : List Placed) → less ≤ low → high ≤ more → AllWithin low high its → AllWithin less more its
wider low high less more [] first last is = tt
wider low high less more (one ∷ rest) first last is =
    (wider_op low high less more one.op first last is.0, wider low high less more rest first last is.1)

both_within : (low high : ℕ) (first second : List Placed) → AllWithin low high first → AllWithin low high second → AllWithin low high (first ++ second)
both_within low high [] second is also = also
both_within low high (one ∷ first) second is also = (is.0, both_within low high first second is.1 also)

-- ---- parts of expressions

-- wherever the code begins
pub record Within (its : Lowered) : Type 0 where
  pub at : (start depth : ℕ) → AllWithin start (after start (its start depth)) (its start depth)

-- one list after another
joined : (start : ℕ) (first second : List Placed) → AllWithin start (after start first) first
    → AllWithin (after start first) (after (after start first) second) second → AllWithin start (after start (first ++ second)) (first ++ second)
joined start first second is also =
    subst (λ high. AllWithin start high (first ++ second)) (sym (after_append start first second))
    (both_within start (after (after start first) second) first second
    (wider start (after start first) start (after (after start first) second) first (same start) (after_from (after start first) second) is)
    (wider (after start first) (after (after start first) second) start (after (after start first) second) second (after_from start first)
    (same (after (after start first) second)) also))
  where
    same : (n : ℕ) → n ≤ n
    same n = omega arith

pub operand_within : {first second : Lowered} → Within first → Within second → Within (operand first second)
operand_within {first = first} {second = second} is also =
    record {
      at = λ start depth.
          joined start (first start depth) (second (after start (first start depth)) (suc depth)) (is.at start depth)
          (also.at (after start (first start depth)) (suc depth));
    }

sequence_within : {first second : Lowered} → Within first → Within second → Within (sequence first second)
sequence_within {first = first} {second = second} is also =
    record {
      at = λ start depth.
          joined start (first start depth) (second (after start (first start depth)) depth) (is.at start depth)
          (also.at (after start (first start depth)) depth);
    }

nothing_within : Within (λ start depth. [])
nothing_within = record { at = λ start depth. tt }

module _ (piece : ℕ) (head : Head) where
  -- an operation that is no jump
  only_within : (its : Op) → ((low high : ℕ) → JumpsWithin low high its) → Within (only piece head its)
  only_within its is = record { at = λ start depth. (is start (suc start), tt) }

  one_within : (its : Op) {first : Lowered} → ((low high : ℕ) → JumpsWithin low high its) → Within first → Within (on_one piece head its first)
  one_within its is within = operand_within within (only_within its is)

  two_within : (its : Op) {first second : Lowered} → ((low high : ℕ) → JumpsWithin low high its) → Within first → Within second
      → Within (on_two piece head its first second)
  two_within its is within also = operand_within within (operand_within also (only_within its is))

  -- ---- branches

  -- Zero, the first list, Jump, the second list
  branched : (at depth : ℕ) (first second : List Placed) → AllWithin (suc at) (after (suc at) first) first
      → AllWithin (suc (after (suc at) first)) (after (suc (after (suc at) first)) second) second
      → AllWithin at (after (suc (after (suc at) first)) second)
      (placed piece head (op.Zero (suc (after (suc at) first))) (suc depth)
      ∷ first ++ placed piece head (op.Jump (after (suc (after (suc at) first)) second)) (suc depth) ∷ second)
  branched at depth first second is also = (
    (low_zero, after_from (suc (after (suc at) first)) second),
    both_within at (after (suc (after (suc at) first)) second) first
        (placed piece head (op.Jump (after (suc (after (suc at) first)) second)) (suc depth) ∷ second)
        (wider (suc at) (after (suc at) first) at (after (suc (after (suc at) first)) second) first low_one mid_high is) (
          (low_jump, high_jump),
          wider (suc (after (suc at) first)) (after (suc (after (suc at) first)) second) at
              (after (suc (after (suc at) first)) second) second low_zero high_jump
              also,
        ),
  )
    where
      low_one : at ≤ suc at
      low_one = omega arith

      low_zero : at ≤ suc (after (suc at) first)
      low_zero = omega (arith, after_from (suc at) first)

      mid_high : after (suc at) first ≤ after (suc (after (suc at) first)) second
      mid_high = omega (arith, after_from (suc (after (suc at) first)) second)

      low_jump : at ≤ after (suc (after (suc at) first)) second
      low_jump = omega (arith, after_from (suc at) first, after_from (suc (after (suc at) first)) second)

      high_jump : after (suc (after (suc at) first)) second ≤ after (suc (after (suc at) first)) second
      high_jump = omega arith

  pub branches_end : (at depth : ℕ) (first : List Placed) (second : Lowered)
      → Rattle.std.specs.Prelude.◌≡◌ (after at (branches piece head at depth first second))
      (after (suc (after (suc at) first)) (second (suc (after (suc at) first)) depth))
  branches_end at depth first second =
      after_append (suc at) first
      (placed piece head (op.Jump (after (suc (after (suc at) first)) (second (suc (after (suc at) first)) depth))) (suc depth)
      ∷ second (suc (after (suc at) first)) depth)

  chosen_within : {test first second : Lowered} → Within test → Within first → Within second → Within (chosen piece head test first second)
  chosen_within {test = test} {first = first} {second = second} is one other =
      record {
        at = λ start depth.
            joined start (test start depth)
            (branches piece head (after start (test start depth)) depth (first (suc (after start (test start depth))) depth) second) (is.at start depth)
            (subst (λ high. AllWithin (after start (test start depth)) high
            (branches piece head (after start (test start depth)) depth (first (suc (after start (test start depth))) depth) second))
            (sym (branches_end (after start (test start depth)) depth (first (suc (after start (test start depth))) depth) second))
            (branched (after start (test start depth)) depth (first (suc (after start (test start depth))) depth)
            (second (suc (after (suc (after start (test start depth))) (first (suc (after start (test start depth))) depth))) depth)
            (one.at (suc (after start (test start depth))) depth)
            (other.at (suc (after (suc (after start (test start depth))) (first (suc (after start (test start depth))) depth))) depth)));
      }

  answered_within : {test : Lowered} → Within test → Within (answered piece head test)
  answered_within is = chosen_within is (only_within (op.Num 1) (λ low high. tt)) (only_within (op.Num 0) (λ low high. tt))

  -- `&&`, after its first operand
  held_within : (at depth : ℕ) (second : List Placed) → AllWithin (suc at) (after (suc at) second) second
      → AllWithin at (suc (suc (suc (suc (after (suc at) second))))) (both_hold piece head at depth second)
  held_within at depth second is = (
    (low_none, high_none),
    both_within at (suc (suc (suc (suc (after (suc at) second))))) second _
        (wider (suc at) (after (suc at) second) at (suc (suc (suc (suc (after (suc at) second))))) second low_one mid_high is)
        ((low_none, high_none), (tt, ((low_end, high_end), (tt, tt)))),
  )
    where
      low_none : at ≤ suc (suc (suc (after (suc at) second)))
      low_none = omega (arith, after_from (suc at) second)

      high_none : suc (suc (suc (after (suc at) second))) ≤ suc (suc (suc (suc (after (suc at) second))))
      high_none = omega arith

      low_end : at ≤ suc (suc (suc (suc (after (suc at) second))))
      low_end = omega (arith, after_from (suc at) second)

      high_end : suc (suc (suc (suc (after (suc at) second)))) ≤ suc (suc (suc (suc (after (suc at) second))))
      high_end = omega arith

      low_one : at ≤ suc at
      low_one = omega arith

      mid_high : after (suc at) second ≤ suc (suc (suc (suc (after (suc at) second))))
      mid_high = omega arith

  conjoined_within : {first second : Lowered} → Within first → Within second → Within (conjoined piece head first second)
  conjoined_within {first = first} {second = second} is also =
      record {
        at = λ start depth.
            joined start (first start depth)
            (both_hold piece head (after start (first start depth)) depth (second (suc (after start (first start depth))) depth)) (is.at start depth)
            (subst (λ high. AllWithin (after start (first start depth)) high
            (both_hold piece head (after start (first start depth)) depth (second (suc (after start (first start depth))) depth)))
            (sym (after_append (suc (after start (first start depth))) (second (suc (after start (first start depth))) depth) _))
            (held_within (after start (first start depth)) depth (second (suc (after start (first start depth))) depth)
            (also.at (suc (after start (first start depth))) depth)));
      }

  -- ---- objects

  read_within : (slot : Option Variable) (access : code.Access) {address : Lowered} → Within address → Within (read_code piece head slot access address)
  read_within (Some its) access is = only_within (op.Get its) (λ low high. tt)
  read_within None access is = one_within (op.Load access) (λ low high. tt) is

  written_within : (slot : Option Variable) (access : code.Access) {address from : Lowered} → Within address → Within from
      → Within (written_code piece head slot access address from)
  written_within (Some its) access is also = one_within (op.Set its) (λ low high. tt) also
  written_within None access is also = two_within (op.Store access) (λ low high. tt) is also

  fetched_within : (access : code.Access) → Within (fetched piece head access)
  fetched_within access = operand_within (only_within op.Dup (λ low high. tt)) (only_within (op.Load access) (λ low high. tt))

  -- what makes a new value of two
  record Changing (changes : Lowered → Lowered → Lowered) : Type 0 where
    pub go : (first second : Lowered) → Within first → Within second → Within (changes first second)

  numbers_changing : (its to : Op) → ((low high : ℕ) → JumpsWithin low high its) → ((low high : ℕ) → JumpsWithin low high to)
      → Changing (numbers_changed piece head its to)
  numbers_changing its to is also = record { go = λ first second one other. one_within to also (two_within its is one other) }

  pointers_changing : (its : Op) → ((low high : ℕ) → JumpsWithin low high its) → Changing (on_two piece head its)
  pointers_changing its is = record { go = λ first second one other. two_within its is one other }

  updated_within : (slot : Option Variable) (access : code.Access) (changes : Lowered → Lowered → Lowered) → Changing changes → (address from : Lowered)
      → Within address → Within from → Within (updated_code piece head slot access changes address from)
  updated_within (Some its) access changes changing address from is also =
      one_within (op.Set its) (λ low high. tt) (changing.go (only piece head (op.Get its)) from (only_within (op.Get its) (λ low high. tt)) also)
  updated_within None access changes changing address from is also =
      two_within (op.Store access) (λ low high. tt) is (changing.go (fetched piece head access) from (fetched_within access) also)

  stepped_within : (slot : Option Variable) (access : code.Access) (changes : Lowered → Lowered → Lowered) → Changing changes → (address : Lowered)
      → Within address → Within (stepped_code piece head slot access changes address)
  stepped_within (Some its) access changes changing address is =
      two_within op.Drop (λ low high. tt) (only_within (op.Get its) (λ low high. tt))
      (one_within (op.Set its) (λ low high. tt)
      (changing.go (only piece head op.Dup) (only piece head (op.Num 1)) (only_within op.Dup (λ low high. tt)) (only_within (op.Num 1) (λ low high. tt))))
  stepped_within None access changes changing address is =
      operand_within is (operand_within (fetched_within access)
      (sequence_within (one_within (op.Store access) (λ low high. tt)
      (changing.go (only piece head op.Tuck) (only piece head (op.Num 1)) (only_within op.Tuck (λ low high. tt)) (only_within (op.Num 1) (λ low high. tt))))
      (only_within op.Drop (λ low high. tt))))

  -- ---- calls

  decided_within : (b : Bool) (place : ℕ) → Within (decided_if piece b head place)
  decided_within true place = only_within (op.Shift place) (λ low high. tt)
  decided_within false place = nothing_within

-- ---- expressions

module _ (setting : Setting) (variables : List VariableDecl) (piece : ℕ) where
  bound_within : (head : Head) (routine : Option ℕ) → Within (bound_code setting variables piece head routine)
  bound_within head None = nothing_within
  bound_within head (Some place) = decided_within piece head (takes_decision (slice_get setting.routines place)) place

  mutual
    -- of a value
    pub right_within : (e : RightValue) → Within (right_code setting variables piece e)
    right_within (tree.number head bits) = only_within piece head (op.Num bits) (λ low high. tt)
    right_within (tree.nil head) = only_within piece head op.Nil (λ low high. tt)
    right_within (tree.load head e) = read_within piece head (slot_of setting variables e) (access_in (access_of setting e)) (left_within e)
    right_within (tree.decay head e) = left_within e
    right_within (tree.address head e) = left_within e
    right_within (tree.cast head e) = right_within e
    right_within (tree.convert_number head kind e) = one_within piece head (op.Conv kind) (λ low high. tt) (right_within e)
    right_within (tree.convert_pointer head e) = right_within e
    right_within (tree.unary head operator kind e) = one_within piece head (op.Unary (unary.Sign operator)) (λ low high. tt) (right_within e)
    right_within (tree.not head e) = one_within piece head (op.Unary unary.Not) (λ low high. tt) (right_within e)
    right_within (tree.arithmetic head operator kind a b) =
        two_within piece head (op.Binary (binary.Arithmetic operator) kind) (λ low high. tt) (right_within a) (right_within b)
    right_within (tree.comparison head operator kind a b) =
        two_within piece head (op.Binary (binary.Comparison operator) kind) (λ low high. tt) (right_within a) (right_within b)
    right_within (tree.compare_pointers head operator a b) =
        two_within piece head (op.Compare operator) (λ low high. tt) (right_within a) (right_within b)
    right_within (tree.is_nil head true e) = one_within piece head op.IsNil (λ low high. tt) (right_within e)
    right_within (tree.is_nil head false e) =
        one_within piece head (op.Unary unary.Not) (λ low high. tt) (one_within piece head op.IsNil (λ low high. tt) (right_within e))
    right_within (tree.step head stride pointer_first a b) =
        two_within piece head (op.Step stride pointer_first) (λ low high. tt) (right_within a) (right_within b)
    right_within (tree.difference head size a b) = two_within piece head (op.Difference size) (λ low high. tt) (right_within a) (right_within b)
    right_within (tree.and head a b) = conjoined_within piece head (right_within a) (right_within b)
    right_within (tree.or head a b) =
        chosen_within piece head (right_within a) (only_within piece head (op.Num 1) (λ low high. tt)) (answered_within piece head (right_within b))
    right_within (tree.conditional head test a b) = chosen_within piece head (right_within test) (right_within a) (right_within b)
    right_within (tree.comma head lefts last) = dropped_within head lefts (right_code setting variables piece last) (right_within last)
    right_within (tree.assign head into from) =
        written_within piece head (slot_of setting variables into) (access_in (access_of setting into)) (left_within into) (right_within from)
    right_within (tree.update head operator kind to into from) =
        updated_within piece head (slot_of setting variables into) (access_in (access_of setting into)) _
        (numbers_changing piece head (op.Binary (binary.Arithmetic operator) kind) (op.Conv to) (λ low high. tt) (λ low high. tt)) _ _ (left_within into)
        (right_within from)
    right_within (tree.advance head stride into from) =
        updated_within piece head (slot_of setting variables into) (access_in (access_of setting into)) _
        (pointers_changing piece head (op.Step stride true) (λ low high. tt)) _ _ (left_within into) (right_within from)
    right_within (tree.post_update head operator kind to into) =
        stepped_within piece head (slot_of setting variables into) (access_in (access_of setting into)) _
        (numbers_changing piece head (op.Binary (binary.Arithmetic operator) kind) (op.Conv to) (λ low high. tt) (λ low high. tt)) _ (left_within into)
    right_within (tree.post_advance head stride into) =
        stepped_within piece head (slot_of setting variables into) (access_in (access_of setting into)) _
        (pointers_changing piece head (op.Step stride true) (λ low high. tt)) _ (left_within into)
    right_within (tree.call head place routine arguments) =
        arguments_within arguments _ (sequence_within (bound_within head routine) (only_within piece head (op.Call place) (λ low high. tt)))
    right_within (tree.call_routine head place arguments) =
        arguments_within arguments _
        (sequence_within (decided_within piece head (takes_decision (slice_get setting.routines place)) place)
        (only_within piece head (op.Routine place) (λ low high. tt)))

    -- of an address
    pub left_within : (e : LeftValue) → Within (address_code setting variables piece e)
    left_within (tree.variable head its) = only_within piece head (op.Address (object.Variable its)) (λ low high. tt)
    left_within (tree.literal head place) = only_within piece head (op.Address (object.Literal place)) (λ low high. tt)
    left_within (tree.target head e) = right_within e
    left_within (tree.element head size pointer_first a b) =
        two_within piece head (op.Step (record { size = size; backward = false }) pointer_first) (λ low high. tt) (right_within a) (right_within b)
    left_within (tree.member head field bytes e) = one_within piece head (op.Offset bytes) (λ low high. tt) (left_within e)
    left_within (tree.arrow head field bytes e) = one_within piece head (op.Offset bytes) (λ low high. tt) (right_within e)

    arguments_within : (arguments : RightValues) (last : Lowered) → Within last → Within (all_code setting variables piece arguments last)
    arguments_within tree.no_values last is = is
    arguments_within (tree.more_values e rest) last is = operand_within (right_within e) (arguments_within rest last is)

    dropped_within : (head : Head) (lefts : RightValues) (last : Lowered) → Within last → Within (dropped_code setting variables piece head lefts last)
    dropped_within head tree.no_values last is = is
    dropped_within head (tree.more_values e rest) last is =
        sequence_within (one_within piece head op.Drop (λ low high. tt) (right_within e)) (dropped_within head rest last is)

-- the value of an expression in a function
pub value_within : (setting : Setting) (function : TypedFunction) (piece : ℕ) (e : RightValue) → Within (value_code setting function piece e)
value_within setting function piece e = right_within setting function.variables piece e
