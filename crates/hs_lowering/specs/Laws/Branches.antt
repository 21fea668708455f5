-- Branches: the code beside the meaning (own).
--     chosen_turns         one of two, by a test
--     answered_turns       1 or 0, by a test
--     conjoined_turns      `&&`
use Rattle.std.proofs.Common.{◌≡◌, ℕ, suc, ◌==◌, Bool, true, false, not, List, [], ◌∷◌, ◌++◌, slice_get, Some, refl, sym, ap, ◌∙◌}
use Rattle.hs_code.specs.declared.function_code.FunctionCode.{FunctionCode}
use Rattle.hs_code.specs.declared.function_code.Placed.{Placed}
use Rattle.hs_code.specs.declared.op.Op.TheVariants as op
use Rattle.hs_code_run.specs.Codes.{CodeProgram, Waiting, Point}
use Rattle.hs_code_run.specs.Steps.{stepped_at, onto_if}
use Rattle.hs_lowering.specs.Lowering.{Lowered, after, placed, only, branches, chosen, answered, both_hold, conjoined}
use Rattle.hs_lowering.specs.Laws.Objects.{num_turns}
use Rattle.hs_lowering.specs.Laws.Operations.{point, Turning, used_stays}
use Rattle.hs_lowering.specs.Performing.{Any, Stays, Performs, Holds, holds_front, holds_back, after_append, one_step, goes_on, thens, moved, same_turns, same_behind}
use Rattle.hs_meaning.specs.Evaluation.{truth_value}
use Rattle.hs_meaning.specs.Steps.{State, Ran, went, over, Step, ◌>>=◌, then_with, give, either, used, condition}
use Rattle.hs_meaning.specs.Values.{Value, number}
use Rattle.hs_tree.specs.declared.head.Head.{Head}
use Rattle.hs_tree.specs.declared.head.VariableDecl.{VariableDecl}

-- the next operation, or that one
abbrev pub place_if : Bool → ℕ → ℕ → ℕ
place_if true at target = suc at
place_if false at target = target

module _ (program : CodeProgram) (variables : List VariableDecl) (bound : ℕ) (code : FunctionCode) (waiting : List Waiting) (choices : List Bool)
    (piece : ℕ) (head : Head) where
  -- a step that the code performs
  abbrev Turning' : Lowered → {A : Type 0} → (A → Type 0) → Step A → List Value → (A → List Value) → Type 0
  Turning' its fact first stack left = Turning program variables bound code waiting choices piece its fact first stack left

  -- before an operation, with such a stack
  abbrev at_ : ℕ → List Value → Point
  at_ = point program variables bound code waiting choices piece

  -- a step, from one operation to another
  abbrev Performing : {A : Type 0} → (A → Type 0) → Step A → Point → (A → Point) → Type 0
  Performing fact first start next = Performs program variables bound code waiting choices fact first start next

  -- Zero, which goes on if the number is not 0
  pub zero_performs : (at target depth : ℕ) (value : Value) (stack : List Value)
      → slice_get code.ops at ≡ Some (placed piece head (op.Zero target) depth)
      → Performing Any (condition head.at.pos value) (at_ at (value ∷ stack)) (λ is. at_ (place_if is at target) stack)
  zero_performs at target depth value stack there =
      one_step program variables bound code waiting choices Any (condition head.at.pos value) (at_ at (value ∷ stack))
      (λ is. at_ (place_if is at target) stack)
      (λ s. ap (λ found. stepped_at program (at_ at (value ∷ stack)) found s) there ∙ by (used head.at.pos value s))
      (λ s is. stays (used head.at.pos value s) (used_stays program variables bound code waiting choices piece head.at.pos value s is))
    where
      which : (b : Bool) (t : State) → give (onto_if b (at_ at (value ∷ stack)) target stack) t ≡ give (at_ (place_if (not b) at target) stack) t
      which true t = refl
      which false t = refl

      by : (r : Ran ℕ) → then_with (λ bits. give (onto_if (bits == 0) (at_ at (value ∷ stack)) target stack)) r
          ≡ then_with (λ is. give (at_ (place_if is at target) stack)) (then_with (λ bits. give (not (bits == 0))) r)
      by (went bits t) = which (bits == 0) t
      by (over outcome t) = refl

      stays : (r : Ran ℕ) → Stays program variables bound code waiting choices Any r
          → Stays program variables bound code waiting choices Any (then_with (λ bits. give (not (bits == 0))) r)
      stays (went bits t) is = is
      stays (over outcome t) is = tt

  -- Jump, after a step
  jump_performs : {A : Type 0} {fact : A → Type 0} {first : Step A} {start : Point} → (at target depth : ℕ) (left : A → List Value)
      → slice_get code.ops at ≡ Some (placed piece head (op.Jump target) depth) → Performing fact first start (λ a. at_ at (left a))
      → Performing fact first start (λ a. at_ target (left a))
  jump_performs {fact = fact} at target depth left there performs =
      goes_on program variables bound code waiting choices fact (λ a. at_ target (left a))
      (λ a s. ap (λ found. stepped_at program (at_ at (left a)) found s) there) performs

  -- ---- one of two

  module _ {B : Type 0} (fact : B → Type 0) (first second : Lowered) (one other : Step B) (stack : List Value) (left : B → List Value)
      (goes : Turning' first fact one stack left) (otherwise : Turning' second fact other stack left) where
    -- the operations of the first one, and what follows them
    firsts : ℕ → ℕ → List Placed
    firsts zero_at depth = first (suc zero_at) depth

    behind : ℕ → ℕ → List Placed
    unfolding firsts
    behind zero_at depth =
        placed piece head (op.Jump (after (suc (after (suc zero_at) (firsts zero_at depth)))
        (second (suc (after (suc zero_at) (firsts zero_at depth))) depth))) (suc depth)
        ∷ second (suc (after (suc zero_at) (firsts zero_at depth))) depth

    -- by the answer of the test
    branches_perform : (zero_at depth : ℕ) → Holds code zero_at (branches piece head zero_at depth (first (suc zero_at) depth) second) → (is : Bool)
        → Performing fact (either is one other) (at_ (place_if is zero_at (suc (after (suc zero_at) (first (suc zero_at) depth)))) stack)
        (λ a. at_ (after zero_at (branches piece head zero_at depth (first (suc zero_at) depth) second)) (left a))
    unfolding firsts behind
    branches_perform zero_at depth holds true =
        moved program variables bound code waiting choices left
        (after (suc (after (suc zero_at) (firsts zero_at depth))) (second (suc (after (suc zero_at) (firsts zero_at depth))) depth))
        (after (suc zero_at) (firsts zero_at depth ++ behind zero_at depth))
        (sym (after_append (suc zero_at) (firsts zero_at depth) (behind zero_at depth)))
        (jump_performs (after (suc zero_at) (firsts zero_at depth))
        (after (suc (after (suc zero_at) (firsts zero_at depth))) (second (suc (after (suc zero_at) (firsts zero_at depth))) depth)) (suc depth) left
        (holds_back code (suc zero_at) (firsts zero_at depth) (behind zero_at depth) holds.1).0
        (goes.go (suc zero_at) depth (holds_front code (suc zero_at) (firsts zero_at depth) (behind zero_at depth) holds.1)))
    branches_perform zero_at depth holds false =
        moved program variables bound code waiting choices left
        (after (suc (after (suc zero_at) (firsts zero_at depth))) (second (suc (after (suc zero_at) (firsts zero_at depth))) depth))
        (after (suc zero_at) (firsts zero_at depth ++ behind zero_at depth))
        (sym (after_append (suc zero_at) (firsts zero_at depth) (behind zero_at depth)))
        (otherwise.go (suc (after (suc zero_at) (firsts zero_at depth))) depth
        (holds_back code (suc zero_at) (firsts zero_at depth) (behind zero_at depth) holds.1).1)

    -- one of two, by a test
    pub chosen_turns : (test : Lowered) (tested : Step Value) → Turning' test Any tested stack (λ v. v ∷ stack)
        → Turning' (chosen piece head test first second) fact (tested >>= condition head.at.pos >>= (λ is. either is one other)) stack left
    chosen_turns test tested turns =
        record {
          go = λ start depth holds.
              moved program variables bound code waiting choices left
              (after (after start (test start depth))
              (branches piece head (after start (test start depth)) depth (first (suc (after start (test start depth))) depth) second))
              (after start (test start depth
              ++ branches piece head (after start (test start depth)) depth (first (suc (after start (test start depth))) depth) second))
              (sym (after_append start (test start depth)
              (branches piece head (after start (test start depth)) depth (first (suc (after start (test start depth))) depth) second)))
              (thens program variables bound code waiting choices
              (thens program variables bound code waiting choices
              (turns.go start depth (holds_front code start (test start depth)
              (branches piece head (after start (test start depth)) depth (first (suc (after start (test start depth))) depth) second) holds))
              (λ v so. zero_performs (after start (test start depth))
              (suc (after (suc (after start (test start depth))) (first (suc (after start (test start depth))) depth))) (suc depth) v stack
              (holds_back code start (test start depth)
              (branches piece head (after start (test start depth)) depth (first (suc (after start (test start depth))) depth) second) holds).0))
              (λ is so. branches_perform (after start (test start depth)) depth
              (holds_back code start (test start depth)
              (branches piece head (after start (test start depth)) depth (first (suc (after start (test start depth))) depth) second) holds) is));
        }

  -- ---- 1 or 0

  -- by a test
  pub answered_turns : (test : Lowered) (tested : Step Value) (stack : List Value) → Turning' test Any tested stack (λ v. v ∷ stack)
      → Turning' (answered piece head test) Any (tested >>= condition head.at.pos >>= (λ is. give (truth_value is))) stack (λ v. v ∷ stack)
  answered_turns test tested stack turns =
      same_turns program variables bound code waiting choices
      (λ s is. same_behind (λ is. give (truth_value is)) (λ is. either is (give (number 1)) (give (number 0)))
      ((tested >>= condition head.at.pos) s) (λ is t. each is t))
      (chosen_turns Any (only piece head (op.Num 1)) (only piece head (op.Num 0)) (give (number 1)) (give (number 0)) stack (λ v. v ∷ stack)
      (num_turns program variables bound code waiting choices piece head 1 stack) (num_turns program variables bound code waiting choices piece head 0 stack)
      test tested turns)
    where
      each : (is : Bool) (t : State) → give (truth_value is) t ≡ either is (give (number 1)) (give (number 0)) t
      each true t = refl
      each false t = refl

  -- ---- both

  module _ (second : Lowered) (other : Step Value) (stack : List Value) (otherwise : Turning' second Any other stack (λ v. v ∷ stack)) where
    -- Zero(F), Num 1, Jump(E), F: Num 0
    answers : ℕ → ℕ → List Placed
    answers at depth =
        placed piece head (op.Zero (suc (suc (suc at)))) (suc depth)
        ∷ placed piece head (op.Num 1) depth
        ∷ placed piece head (op.Jump (suc (suc (suc (suc at))))) (suc depth)
        ∷ placed piece head (op.Num 0) depth
        ∷ []

    -- 1, after the second test
    one_performs : (at depth : ℕ) → Holds code at (answers at depth)
        → Performing Any (give (number 1)) (at_ (suc at) stack) (λ v. at_ (suc (suc (suc (suc at)))) (v ∷ stack))
    unfolding answers
    one_performs at depth holds =
        jump_performs (suc (suc at)) (suc (suc (suc (suc at)))) (suc depth) (λ v. v ∷ stack) holds.1.1.0
        ((num_turns program variables bound code waiting choices piece head 1 stack).go (suc at) depth (holds.1.0, tt))

    -- 0, where a test was 0
    none_performs : (at depth : ℕ) → Holds code at (answers at depth)
        → Performing Any (give (number 0)) (at_ (suc (suc (suc at))) stack) (λ v. at_ (suc (suc (suc (suc at)))) (v ∷ stack))
    unfolding answers
    none_performs at depth holds =
        (num_turns program variables bound code waiting choices piece head 0 stack).go (suc (suc (suc at))) depth (holds.1.1.1.0, tt)

    last_performs : (at depth : ℕ) → Holds code at (answers at depth) → (is : Bool)
        → Performing Any (give (truth_value is)) (at_ (place_if is at (suc (suc (suc at)))) stack) (λ v. at_ (suc (suc (suc (suc at)))) (v ∷ stack))
    last_performs at depth holds true = one_performs at depth holds
    last_performs at depth holds false = none_performs at depth holds

    -- after the first test
    rest_performs : (zero_at depth : ℕ) → Holds code zero_at (both_hold piece head zero_at depth (second (suc zero_at) depth)) → (is : Bool)
        → Performing Any (either is (other >>= condition head.at.pos >>= (λ is. give (truth_value is))) (give (truth_value false)))
        (at_ (place_if is zero_at (suc (suc (suc (after (suc zero_at) (second (suc zero_at) depth)))))) stack)
        (λ v. at_ (after zero_at (both_hold piece head zero_at depth (second (suc zero_at) depth))) (v ∷ stack))
    unfolding answers
    rest_performs zero_at depth holds true =
        moved program variables bound code waiting choices (λ v. v ∷ stack)
        (suc (suc (suc (suc (after (suc zero_at) (second (suc zero_at) depth))))))
        (after (suc zero_at) (second (suc zero_at) depth ++ answers (after (suc zero_at) (second (suc zero_at) depth)) depth))
        (sym (after_append (suc zero_at) (second (suc zero_at) depth) (answers (after (suc zero_at) (second (suc zero_at) depth)) depth)))
        (thens program variables bound code waiting choices
        (thens program variables bound code waiting choices
        (otherwise.go (suc zero_at) depth (holds_front code (suc zero_at) (second (suc zero_at) depth)
        (answers (after (suc zero_at) (second (suc zero_at) depth)) depth) holds.1))
        (λ v so. zero_performs (after (suc zero_at) (second (suc zero_at) depth))
        (suc (suc (suc (after (suc zero_at) (second (suc zero_at) depth))))) (suc depth) v stack
        (holds_back code (suc zero_at) (second (suc zero_at) depth) (answers (after (suc zero_at) (second (suc zero_at) depth)) depth) holds.1).0))
        (λ is so. last_performs (after (suc zero_at) (second (suc zero_at) depth)) depth
        (holds_back code (suc zero_at) (second (suc zero_at) depth) (answers (after (suc zero_at) (second (suc zero_at) depth)) depth) holds.1) is))
    rest_performs zero_at depth holds false =
        moved program variables bound code waiting choices (λ v. v ∷ stack)
        (suc (suc (suc (suc (after (suc zero_at) (second (suc zero_at) depth))))))
        (after (suc zero_at) (second (suc zero_at) depth ++ answers (after (suc zero_at) (second (suc zero_at) depth)) depth))
        (sym (after_append (suc zero_at) (second (suc zero_at) depth) (answers (after (suc zero_at) (second (suc zero_at) depth)) depth)))
        (none_performs (after (suc zero_at) (second (suc zero_at) depth)) depth
        (holds_back code (suc zero_at) (second (suc zero_at) depth) (answers (after (suc zero_at) (second (suc zero_at) depth)) depth) holds.1))

    -- `&&`
    pub conjoined_turns : (test : Lowered) (tested : Step Value) → Turning' test Any tested stack (λ v. v ∷ stack)
        → Turning' (conjoined piece head test second) Any
        (tested >>= condition head.at.pos >>= (λ is. either is (other >>= condition head.at.pos >>= (λ is. give (truth_value is))) (give (truth_value false))))
        stack (λ v. v ∷ stack)
    conjoined_turns test tested turns =
        record {
          go = λ start depth holds.
              moved program variables bound code waiting choices (λ v. v ∷ stack)
              (after (after start (test start depth))
              (both_hold piece head (after start (test start depth)) depth (second (suc (after start (test start depth))) depth)))
              (after start (test start depth
              ++ both_hold piece head (after start (test start depth)) depth (second (suc (after start (test start depth))) depth)))
              (sym (after_append start (test start depth)
              (both_hold piece head (after start (test start depth)) depth (second (suc (after start (test start depth))) depth))))
              (thens program variables bound code waiting choices
              (thens program variables bound code waiting choices
              (turns.go start depth (holds_front code start (test start depth)
              (both_hold piece head (after start (test start depth)) depth (second (suc (after start (test start depth))) depth)) holds))
              (λ v so. zero_performs (after start (test start depth))
              (suc (suc (suc (after (suc (after start (test start depth))) (second (suc (after start (test start depth))) depth))))) (suc depth) v stack
              (holds_back code start (test start depth)
              (both_hold piece head (after start (test start depth)) depth (second (suc (after start (test start depth))) depth)) holds).0))
              (λ is so. rest_performs (after start (test start depth)) depth
              (holds_back code start (test start depth)
              (both_hold piece head (after start (test start depth)) depth (second (suc (after start (test start depth))) depth)) holds) is));
        }
