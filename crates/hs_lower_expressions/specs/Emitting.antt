-- The code of expressions in steps. Each step puts operations at the end, or there are too many of them. A jump whose target is not known
-- yet has the target 0, and is replaced later.
--     limited its                       the operations, if there are not too many
--     first >>= next                    one after the other
--     emitted code depth ops            with that code at the end
--     Emitted whole new result          what an answer of the code says of such a step
--     right_emitted e, left_emitted e   with the value of an expression, or with the address of an lvalue
--     all_emitted list                  with the values of all of them
--     dropped_emitted head list         with each of them, dropped
--     pushed, turned, ..                with a few operations that are always the same
use Rattle.std.specs.Prelude.{◌≡◌, ℕ, suc, ◌+◌, nat_le, Bool, true, false, List, [], ◌++◌, length, slice_set, Option, Some, None, Result, Ok, Err, if◌then◌else◌}
use Rattle.hs_code.specs.declared.function_code.Placed.{Placed}
use Rattle.hs_code.specs.declared.op.Access as code
use Rattle.hs_code.specs.declared.op.Binary.TheVariants as binary
use Rattle.hs_code.specs.declared.op.Op.{Op}
use Rattle.hs_code.specs.declared.op.Op.TheVariants as op
use Rattle.hs_code.specs.declared.op.Unary.TheVariants as unary
use Rattle.hs_lowering.specs.Lowering.{Lowered, right_code, address_code, sequence, operand, on_one, only, placed, bound_code, decided_code}
use Rattle.hs_meaning.specs.Settings.{Setting}
use Rattle.hs_tree.specs.Trees as tree
use Rattle.hs_tree.specs.Trees.{RightValue, LeftValue, RightValues}
use Rattle.hs_tree.specs.declared.head.Head.{Head}
use Rattle.hs_tree.specs.declared.head.Variable.{Variable}
use Rattle.hs_tree.specs.declared.head.VariableDecl.{VariableDecl}
use Rattle.hs_tree.specs.declared.operators.Arithmetic.{Arithmetic}
use Rattle.hs_tree.specs.declared.operators.Stride.{Stride}
use Rattle.hs_types.specs.declared.integer.Integer.{Integer}
use Rattle.hs_lower_expressions.specs.Emits.{most_ops}
use Rattle.hs_lower_expressions.specs.declared.emit_end.EmitEnd.{EmitEnd}
use Rattle.hs_lower_expressions.specs.declared.emit_end.EmitEnd.TheVariants.{Limit, NoMemory}
use Rattle.hs_lower_expressions.specs.declared.parts.Change.{Change}

-- ---- steps

-- not more than there may be
abbrev pub limited : List Placed → Option (List Placed)
limited its = if nat_le (length its) most_ops then Some its else None

infixl 10 ◌>>=◌
-- the next step, if there are not too many operations
abbrev pub ◌>>=◌ : Option (List Placed) → (List Placed → Option (List Placed)) → Option (List Placed)
None >>= next = None
Some ops >>= next = next ops

-- the code at the end
abbrev pub emitted : Lowered → ℕ → List Placed → Option (List Placed)
emitted its depth ops = limited (ops ++ its (length ops) depth)

-- the answer is that of the step, unless memory ran out
abbrev pub Emitted : {A : Type 0} → Option (List Placed) → List Placed → Result A EmitEnd → Type 0
Emitted whole new (Ok it) = whole ≡ Some new
Emitted whole new (Err Limit) = whole ≡ None
Emitted whole new (Err NoMemory) = Unit {0}

-- ---- operations that are always the same

module _ (piece : ℕ) where
  -- one operation
  unfoldable pub pushed : Head → Op → ℕ → List Placed → Option (List Placed)
  pushed head its depth ops = emitted (only piece head its) depth ops

  -- the operation of that number, replaced
  abbrev pub patched : Head → ℕ → Op → ℕ → List Placed → List Placed
  patched head number its depth ops = slice_set ops number (placed piece head its depth)

  -- the end of the first branch: a jump whose target is not known yet. If the test fails, the second one goes on after it.
  unfoldable pub turned : Head → ℕ → ℕ → List Placed → Option (List Placed)
  turned head test depth ops =
      pushed head (op.Jump 0) (depth + 1) ops >>= (λ mid. Some (patched head test (op.Zero (length mid)) (depth + 1) mid))

  -- 1 or 0, by a number that is there
  unfoldable pub answered_there : Head → ℕ → List Placed → Option (List Placed)
  answered_there head depth ops =
      pushed head (op.Zero (length ops + 3)) (depth + 1) ops
      >>= (λ tested. pushed head (op.Num 1) depth tested
      >>= (λ one. pushed head (op.Jump (length ops + 4)) (depth + 1) one
      >>= (λ between. pushed head (op.Num 0) depth between)))

  -- the end of `a && b`, after b: a test of a that fails goes to the 0 too
  unfoldable pub both_ended : Head → ℕ → ℕ → List Placed → Option (List Placed)
  both_ended head test depth ops =
      answered_there head depth ops >>= (λ last. Some (patched head test (op.Zero (length ops + 3)) (depth + 1) last))

  -- `a || b`, after a: the 1, and a jump to the end, which is not known yet
  unfoldable pub either_begun : Head → ℕ → List Placed → Option (List Placed)
  either_begun head depth ops =
      pushed head (op.Zero (length ops + 3)) (depth + 1) ops
      >>= (λ tested. pushed head (op.Num 1) depth tested
      >>= (λ one. pushed head (op.Jump 0) (depth + 1) one))

  -- and after b
  unfoldable pub either_ended : Head → ℕ → ℕ → List Placed → Option (List Placed)
  either_ended head jump depth ops =
      answered_there head depth ops >>= (λ last. Some (patched head jump (op.Jump (length last)) (depth + 1) last))

  -- whether the pointer on top is the null pointer, or is not
  abbrev pub nil_tested : Head → Bool → ℕ → List Placed → Option (List Placed)
  nil_tested head true depth ops = pushed head op.IsNil (depth + 1) ops
  nil_tested head false depth ops =
      pushed head op.IsNil (depth + 1) ops >>= (λ mid. pushed head (op.Unary unary.Not) (depth + 1) mid)

  -- what a pointer on top of the stack reaches, above the pointer
  unfoldable pub fetched_there : Head → code.Access → ℕ → List Placed → Option (List Placed)
  fetched_there head access depth ops = pushed head op.Dup depth ops >>= (λ mid. pushed head (op.Load access) (depth + 1) mid)

  -- a conversion, if there is one
  abbrev pub converted_if : Head → Option Integer → ℕ → List Placed → Option (List Placed)
  converted_if head None depth ops = Some ops
  converted_if head (Some to) depth ops = pushed head (op.Conv to) depth ops

  -- the new value, from two operands above so many values
  unfoldable pub changed : Head → Change → ℕ → List Placed → Option (List Placed)
  changed head change depth ops =
      pushed head change.op (depth + 2) ops >>= (λ mid. converted_if head change.to (depth + 1) mid)

  -- and a slot gets it
  unfoldable pub slot_changed : Head → Change → Variable → ℕ → List Placed → Option (List Placed)
  slot_changed head change its depth ops = changed head change depth ops >>= (λ mid. pushed head (op.Set its) (depth + 1) mid)

  -- or what the pointer below it reaches
  unfoldable pub memory_changed : Head → Change → code.Access → ℕ → List Placed → Option (List Placed)
  memory_changed head change access depth ops =
      changed head change (depth + 1) ops >>= (λ mid. pushed head (op.Store access) (depth + 2) mid)

  -- `x++` of a slot
  unfoldable pub slot_stepped : Head → Change → Variable → ℕ → List Placed → Option (List Placed)
  slot_stepped head change its depth ops =
      pushed head (op.Get its) depth ops
      >>= (λ got. pushed head op.Dup (depth + 1) got
      >>= (λ twice. pushed head (op.Num 1) (depth + 2) twice
      >>= (λ one. slot_changed head change its (depth + 1) one
      >>= (λ given. pushed head op.Drop (depth + 2) given))))

  -- `x++` of an object, after its address
  unfoldable pub memory_stepped : Head → Change → code.Access → ℕ → List Placed → Option (List Placed)
  memory_stepped head change access depth ops =
      fetched_there head access (depth + 1) ops
      >>= (λ got. pushed head op.Tuck (depth + 2) got
      >>= (λ twice. pushed head (op.Num 1) (depth + 3) twice
      >>= (λ one. memory_changed head change access (depth + 1) one
      >>= (λ given. pushed head op.Drop (depth + 2) given))))

  -- a decision, if one is taken
  abbrev pub shifted_if : Bool → Head → ℕ → ℕ → List Placed → Option (List Placed)
  shifted_if true head place depth ops = pushed head (op.Shift place) depth ops
  shifted_if false head place depth ops = Some ops

  -- and then the call
  unfoldable pub decided : Bool → Head → ℕ → Op → ℕ → List Placed → Option (List Placed)
  decided moves head place its depth ops = shifted_if moves head place depth ops >>= (λ mid. pushed head its depth mid)

-- an lvalue that is a slot, or any other
abbrev pub by_slot : Option Variable → (Variable → Option (List Placed)) → Option (List Placed) → Option (List Placed)
by_slot (Some its) slot memory = slot its
by_slot None slot memory = memory

-- ---- what an assignment does with the value from before

-- on numbers
abbrev pub number_change : Arithmetic → Integer → Integer → Change
number_change operator kind to = record { op = op.Binary (binary.Arithmetic operator) kind; to = Some to }

-- on a pointer
abbrev pub pointer_change : Stride → Change
pointer_change stride = record { op = op.Step stride true; to = None }

-- ---- expressions

-- how many they are
abbrev pub count : RightValues → ℕ
count tree.no_values = 0
count (tree.more_values e rest) = suc (count rest)

module _ (setting : Setting) (variables : List VariableDecl) (piece : ℕ) where
  abbrev mutual
    -- the values of all of them, one above the other
    pub values_code : RightValues → Lowered
    values_code tree.no_values start depth = []
    values_code (tree.more_values e rest) start depth = operand (right_code setting variables piece e) (values_code rest) start depth

    -- each is dropped
    pub drops_code : Head → RightValues → Lowered
    drops_code head tree.no_values start depth = []
    drops_code head (tree.more_values e rest) start depth =
        sequence (on_one piece head op.Drop (right_code setting variables piece e)) (drops_code head rest) start depth

  -- the value of an expression
  unfoldable pub right_emitted : RightValue → ℕ → List Placed → Option (List Placed)
  right_emitted e depth ops = emitted (right_code setting variables piece e) depth ops

  -- the address of an lvalue
  unfoldable pub left_emitted : LeftValue → ℕ → List Placed → Option (List Placed)
  left_emitted e depth ops = emitted (address_code setting variables piece e) depth ops

  -- the values of a list
  unfoldable pub all_emitted : RightValues → ℕ → List Placed → Option (List Placed)
  all_emitted its depth ops = emitted (values_code its) depth ops

  -- the left operands of a comma
  unfoldable pub dropped_emitted : Head → RightValues → ℕ → List Placed → Option (List Placed)
  dropped_emitted head its depth ops = emitted (drops_code head its) depth ops

  -- a call of a function
  unfoldable pub called : Head → ℕ → Option ℕ → ℕ → List Placed → Option (List Placed)
  called head place routine depth ops = emitted (sequence (bound_code setting variables piece head routine) (only piece head (op.Call place))) depth ops

  -- a call of a routine
  unfoldable pub routine_called : Head → ℕ → ℕ → List Placed → Option (List Placed)
  routine_called head place depth ops =
      emitted (sequence (decided_code setting variables piece head place) (only piece head (op.Routine place))) depth ops
