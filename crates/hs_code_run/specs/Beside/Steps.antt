-- Two code runs that correspond in each operation of the machine correspond in each step.
use Rattle.std.proofs.Common.{◌≡◌, ℤ, ℕ, zero, suc, ◌==◌, Bool, true, false, List, [], ◌∷◌, slice_get, Option, Some, None, refl, sym, ap, ◌∙◌, subst}
use Rattle.hs_base.specs.declared.pos.Pos.{Pos}
use Rattle.hs_code.specs.declared.function_code.Placed.{Placed}
use Rattle.hs_code.specs.declared.op.Object.{Object}
use Rattle.hs_code.specs.declared.op.Object.TheVariants as object
use Rattle.hs_code.specs.declared.op.Op.{Op}
use Rattle.hs_code.specs.declared.op.Op.TheVariants as op
use Rattle.hs_code_run.specs.Beside.{IsWaitingAlike, Waitings, Points, with_values}
use Rattle.hs_code_run.specs.Beside.Stacks.{taken_alike, below_alike, holds_alike, brought_alike}
use Rattle.hs_code_run.specs.Codes.{CodeFunction, CodeProgram, Waiting, Point}
use Rattle.hs_code_run.specs.Steps.{stepped, stepped_at, by_stack, by_operation, operates_if, routine_called, function_called, returned_to, misfits, operation_of, routine_arguments, taken, below, holds, brought, address_at, onward, onto, onto_if, next_choice, later_choices, case_for, entered}
use Rattle.hs_heap.specs.declared.cell.Pointer.TheVariants.{Nil}
use Rattle.hs_meaning.specs.Beside.{Relation, Follows, gives, thens, Units, Lists, Leaves}
use Rattle.hs_meaning.specs.Machine.{Binding}
use Rattle.hs_meaning.specs.Numbers.{signed}
use Rattle.hs_meaning.specs.Operations as operation
use Rattle.hs_meaning.specs.Operations.{Operation}
use Rattle.hs_meaning.specs.Steps.{give, ends, turn}
use Rattle.hs_meaning.specs.Values.{Value, number, pointer}
use Rattle.hs_meaning.specs.declared.outcome.Outcome.TheVariants.{Finished}
use Rattle.hs_tree.specs.declared.constant.Base.TheVariants as base
use Rattle.hs_tree.specs.declared.constant.Constant.TheVariants as constant

module _ (R : Relation) (program : CodeProgram) (leaves : Leaves R program.setting) (turn_follows : Follows R Units turn turn) (at : Pos) where
  misfit : Follows R (Points R) (misfits at) (misfits at)
  misfit = record { go = λ s t corresponds. leaves.fails {A = Point} at s t corresponds }

  -- ---- points

  module _ (point : Point) (others : List Waiting) (waiting : Waitings R point.waiting others) where
    -- after the operation
    onward_alike : (b a' b' : List Value) → Lists R a' b' → Points R (onward point a') (onward (with_values point b others) b')
    onward_alike b a' b' is = record { code = refl; at = refl; stack = is; waiting = waiting; choices = refl }

    onto_alike : (b : List Value) (m n : ℕ) (a' b' : List Value) → m ≡ n → Lists R a' b'
        → Points R (onto point m a') (onto (with_values point b others) n b')
    onto_alike b m n a' b' same is = record { code = refl; at = same; stack = is; waiting = waiting; choices = refl }

    onto_if_alike : (b : List Value) (x y : Bool) (target : ℕ) (a' b' : List Value) → x ≡ y → Lists R a' b'
        → Points R (onto_if x point target a') (onto_if y (with_values point b others) target b')
    onto_if_alike b true true target a' b' same is = onto_alike b target target a' b' refl is
    onto_if_alike b true false target a' b' same is = absurd cc
    onto_if_alike b false true target a' b' same is = absurd cc
    onto_if_alike b false false target a' b' same is = onward_alike b a' b' is

    -- ---- operations

    operates_alike : (b : List Value) → Lists R point.frame.stack b → (x y : Bool) → x ≡ y → (count : ℕ) (its : Operation)
        → Follows R (Points R) (operates_if program at point x count its) (operates_if program at (with_values point b others) y count its)
    operates_alike b is true true same count its =
        thens (leaves.performed at its (taken count point.frame.stack) (taken count b) (taken_alike R count point.frame.stack b is))
        (λ v w value. gives (onward_alike b (v ∷ below count point.frame.stack) (w ∷ below count b) (value, below_alike R count point.frame.stack b is)))
    operates_alike b is true false same count its = absurd cc
    operates_alike b is false true same count its = absurd cc
    operates_alike b is false false same count its = misfit

    routine_alike : (b : List Value) → Lists R point.frame.stack b → (place : ℕ) (count : Option ℕ)
        → Follows R (Points R) (routine_called program at point place count) (routine_called program at (with_values point b others) place count)
    routine_alike b is place None = misfit
    routine_alike b is place (Some count) =
        operates_alike b is (holds count point.frame.stack) (holds count b) (holds_alike R count point.frame.stack b is) count (operation.routine place)

    by_operation_alike : (b : List Value) → Lists R point.frame.stack b → (its : Option (ℕ × Operation))
        → Follows R (Points R) (by_operation program at point its) (by_operation program at (with_values point b others) its)
    by_operation_alike b is None = misfit
    by_operation_alike b is (Some its) =
        operates_alike b is (holds its.0 point.frame.stack) (holds its.0 b) (holds_alike R its.0 point.frame.stack b is) its.0 its.1

    -- ---- calls

    entered_alike : (b : List Value) → Lists R point.frame.stack b → (function : CodeFunction) (c d : List Binding) → R.bindings c d
        → Points R (entered program at point function c) (entered program at (with_values point b others) function d)
    entered_alike b is function c d locals =
        record {
          code = refl;
          at = refl;
          stack = tt;
          waiting = (
            record {
              code = refl;
              at = refl;
              stack = below_alike R function.parameters point.frame.stack b is;
              locals = locals;
              arguments = taken_alike R function.parameters point.frame.stack b is;
            },
            waiting,
          );
          choices = refl;
        }

    called_alike : (b : List Value) → Lists R point.frame.stack b → (function : Option CodeFunction)
        → Follows R (Points R) (function_called program at point function) (function_called program at (with_values point b others) function)
    called_alike b is None = misfit
    called_alike b is (Some function) =
        thens turn_follows (λ m n so. thens (leaves.owned at) (λ c d locals.
        thens (leaves.opens at function.parameters function.variables (taken function.parameters point.frame.stack) (taken function.parameters b)
        (taken_alike R function.parameters point.frame.stack b is)) (λ m n so. gives (entered_alike b is function c d locals))))

    finished_alike : (m n : ℕ) → m ≡ n → Follows R (Points R) (ends (Finished (signed m))) (ends (Finished (signed n)))
    finished_alike m n same =
        subst (λ k. Follows R (Points R) (ends (Finished (signed m))) (ends (Finished (signed k)))) same
        (record { go = λ s t corresponds. leaves.finishes {A = Point} (signed m) s t corresponds })

    caller_alike : (b : List Value) (v w : Value) (c d : Waiting) (rest others' : List Waiting) → R.values v w → IsWaitingAlike R c d
        → Waitings R rest others'
        → Points R (record point { frame = record { code = c.frame.code; at = c.frame.at; stack = v ∷ c.frame.stack }; waiting = rest })
        (record (with_values point b others) { frame = record { code = d.frame.code; at = d.frame.at; stack = w ∷ d.frame.stack }; waiting = others' })
    caller_alike b v w c d rest others' value is waits =
        record { code = is.code; at = is.at; stack = (value, is.stack); waiting = waits; choices = refl }

    returned_alike : (b : List Value) (v w : Value) → R.values v w → (a c : List Waiting) → Waitings R a c
        → Follows R (Points R) (returned_to program at point v a) (returned_to program at (with_values point b others) w c)
    returned_alike b v w value [] [] waits =
        thens (leaves.closes_to at [] [] leaves.no_bindings) (λ m n so. thens (leaves.used_as at v w value) (λ m n same. finished_alike m n same))
    returned_alike b v w value [] (d ∷ others') waits = absurd waits
    returned_alike b v w value (c ∷ rest) [] waits = absurd waits
    returned_alike b v w value (c ∷ rest) (d ∷ others') waits =
        thens (leaves.closes_to at c.locals d.locals waits.0.locals) (λ m n so. gives (caller_alike b v w c d rest others' value waits.0 waits.1))

  -- ---- all operations

  address_alike : (its : Object) → Follows R R.values (address_at at program.setting its) (address_at at program.setting its)
  address_alike (object.Variable name) = thens (leaves.variable at name) (λ a b is. leaves.address at a b is)
  address_alike (object.Literal place) = gives (leaves.constant (constant.Address (base.Literal place) (Rattle.std.proofs.Common.pos 0)))

  module _ (point : Point) (others : List Waiting) (waiting : Waitings R point.waiting others) (b : List Value) (is : Lists R point.frame.stack b) where
    -- after the operation, with these stacks
    goes : (c d : List Value) → Lists R c d → Follows R (Points R) (give (onward point c)) (give (onward (with_values point b others) d))
    goes c d so = gives (onward_alike point others waiting b c d so)

    misses : Follows R (Points R) (by_operation program at point None) (by_operation program at (with_values point b others) None)
    misses = misfit

    by_stack_alike : (its : Op) (c d : List Value) → Lists R c d
        → Follows R (Points R) (by_stack program at point its c) (by_stack program at (with_values point b others) its d)
    by_stack_alike (op.Num bits) c d so = goes (number bits ∷ c) (number bits ∷ d) (leaves.constant (constant.Number bits), so)
    by_stack_alike op.Nil c d so =
        goes (pointer Nil ∷ c) (pointer Nil ∷ d)
        (leaves.constant constant.Nil, so)
    by_stack_alike (op.Address its) c d so = thens (address_alike its) (λ v w value. goes (v ∷ c) (w ∷ d) (value, so))
    by_stack_alike op.Drop [] [] so = misses
    by_stack_alike op.Drop [] (w ∷ d) so = absurd so
    by_stack_alike op.Drop (v ∷ c) [] so = absurd so
    by_stack_alike op.Drop (v ∷ c) (w ∷ d) so = goes c d so.1
    by_stack_alike op.Dup [] [] so = misses
    by_stack_alike op.Dup [] (w ∷ d) so = absurd so
    by_stack_alike op.Dup (v ∷ c) [] so = absurd so
    by_stack_alike op.Dup (v ∷ c) (w ∷ d) so = goes (v ∷ v ∷ c) (w ∷ w ∷ d) (so.0, (so.0, so.1))
    by_stack_alike op.Tuck [] [] so = misses
    by_stack_alike op.Tuck [] (w ∷ d) so = absurd so
    by_stack_alike op.Tuck (v ∷ c) [] so = absurd so
    by_stack_alike op.Tuck (v ∷ []) (w ∷ []) so = misses
    by_stack_alike op.Tuck (v ∷ []) (w ∷ x ∷ d) so = absurd so.1
    by_stack_alike op.Tuck (v ∷ u ∷ c) (w ∷ []) so = absurd so.1
    by_stack_alike op.Tuck (v ∷ u ∷ c) (w ∷ x ∷ d) so = goes (v ∷ u ∷ v ∷ c) (w ∷ x ∷ w ∷ d) (so.0, (so.1.0, (so.0, so.1.1)))
    by_stack_alike (op.Jump target) c d so = gives (onto_alike point others waiting b target target c d refl so)
    by_stack_alike (op.Zero target) [] [] so = misses
    by_stack_alike (op.Zero target) [] (w ∷ d) so = absurd so
    by_stack_alike (op.Zero target) (v ∷ c) [] so = absurd so
    by_stack_alike (op.Zero target) (v ∷ c) (w ∷ d) so =
        thens (leaves.used_as at v w so.0) (λ m n same. gives (onto_if_alike point others waiting b (m == 0) (n == 0) target c d
        (ap (λ k. k == 0) same) so.1))
    by_stack_alike (op.Choose goal) [] [] so = misses
    by_stack_alike (op.Choose goal) [] (w ∷ d) so = absurd so
    by_stack_alike (op.Choose goal) (v ∷ c) [] so = absurd so
    by_stack_alike (op.Choose goal) (v ∷ c) (w ∷ d) so =
        thens (leaves.used_as at v w so.0) (λ m n same. gives (onto_alike point others waiting b (case_for m goal point.frame.code.cases)
        (case_for n goal point.frame.code.cases) c d (ap (λ k. case_for k goal point.frame.code.cases) same) so.1))
    by_stack_alike (op.Shift place) c d so = thens (leaves.decided place) (λ m n same. goes c d so)
    by_stack_alike (op.Routine place) c d so = routine_alike point others waiting b is place (routine_arguments (slice_get program.setting.routines place))
    by_stack_alike (op.Call place) c d so = called_alike point others waiting b is (slice_get program.functions place)
    by_stack_alike op.Return [] [] so = misses
    by_stack_alike op.Return [] (w ∷ d) so = absurd so
    by_stack_alike op.Return (v ∷ c) [] so = absurd so
    by_stack_alike op.Return (v ∷ c) (w ∷ d) so = returned_alike point others waiting b v w so.0 point.waiting others waiting
    by_stack_alike op.Turn c d so = thens turn_follows (λ m n same. goes c d so)
    by_stack_alike op.Mark c d so = goes c d so
    by_stack_alike (op.Pick target) c d so = gives (picked (next_choice point.choices) refl)
      where
        picked : (x : Bool) → next_choice point.choices ≡ x
            → Points R (record (onto_if (next_choice point.choices) point target c) { choices = later_choices point.choices })
            (record (onto_if (next_choice point.choices) (with_values point b others) target d) { choices = later_choices point.choices })
        picked true same = rw same (record { code = refl; at = refl; stack = so; waiting = waiting; choices = refl })
        picked false same = rw same (record { code = refl; at = refl; stack = so; waiting = waiting; choices = refl })
    by_stack_alike (op.Bring place) c d so = goes (brought place c) (brought place d) (brought_alike R place c d so)
    by_stack_alike its c d so = by_operation_alike point others waiting b is (operation_of its)

-- ---- steps

module _ (R : Relation) (program : CodeProgram) (leaves : Leaves R program.setting) (turn_follows : Follows R Units turn turn) where
  stepped_at_alike : (point : Point) (b : List Value) (others : List Waiting) → Lists R point.frame.stack b → Waitings R point.waiting others
      → (its : Option Placed) → Follows R (Points R) (stepped_at program point its) (stepped_at program (with_values point b others) its)
  stepped_at_alike point b others is waiting None = misfit R program leaves turn_follows (record { file = 0; line = 0; col = 0 })
  stepped_at_alike point b others is waiting (Some its) =
      by_stack_alike R program leaves turn_follows its.at point others waiting b is its.op point.frame.stack b is

  -- a point that corresponds is the same place with other values
  apart : (a b : Point) → Points R a b → with_values a b.frame.stack b.waiting ≡ b
  apart a b is =
      ap (λ code. record { frame = record { code = code; at = a.frame.at; stack = b.frame.stack }; waiting = b.waiting; choices = a.choices }) is.code
      ∙ ap (λ at. record { frame = record { code = b.frame.code; at = at; stack = b.frame.stack }; waiting = b.waiting; choices = a.choices }) is.at
      ∙ ap (λ choices. record { frame = b.frame; waiting = b.waiting; choices = choices }) is.choices

  -- points that correspond go on to points that do
  pub stepped_alike : (a b : Point) → Points R a b → Follows R (Points R) (stepped program a) (stepped program b)
  stepped_alike a b is =
      subst (λ (p : Point). Follows R (Points R) (stepped program a) (stepped program p)) (apart a b is)
      (stepped_at_alike a b.frame.stack b.waiting is.stack is.waiting (slice_get a.frame.code.ops a.frame.at))
