-- How a run of code follows the meaning of an expression (own).
--     IsAt s                              the variables of the machine are slots and objects as declared, and no more turns are left than that
--     Performs fact first point next      the code run from `point` does what the step `first` does: it ends as that does, or goes on at the point
--                                         that `next` says for what the step gives, which meets the fact
--     Holds start its                     the code has these operations from that number on
--     Turns its fact first stack left     operations that perform a step, from that stack to the one that is left for what the step gives
--     Means its first                     they leave the value that the step gives above the stack
--     thens, jumps, ..                    one after the other, a jump after them, and so on
use Rattle.std.proofs.Common.{◌≡◌, ◌≤◌, ℕ, suc, Bool, List, [], ◌∷◌, ◌++◌, slice_get, Some, refl, sym, ap, ◌∙◌, subst, ◌+◌, length, arith}
use Rattle.hs_code.specs.declared.function_code.FunctionCode.{FunctionCode}
use Rattle.hs_code.specs.declared.function_code.Placed.{Placed}
use Rattle.hs_code.specs.declared.op.Op.{Op}
use Rattle.hs_code_run.specs.Codes.{CodeProgram, Waiting, Point}
use Rattle.hs_code_run.specs.Runs.{Comes, halted, onward}
use Rattle.hs_code_run.specs.Steps.{by_stack, stepped, stepped_at}
use Rattle.hs_lowering.specs.Lowering.{Lowered, after, declared_in, only, operand, sequence}
use Rattle.hs_lowering.specs.Laws.Variables.{SameSlots, is_slot_at, is_slot_binding, bare_slot}
use Rattle.hs_meaning.specs.Classes.{is_slot_declared}
use Rattle.hs_meaning.specs.Machine.{Machine, binding_of}
use Rattle.hs_meaning.specs.Steps.{State, Ran, went, over, Step, ◌>>=◌, then_with, give, operands}
use Rattle.hs_meaning.specs.Values.{Value}
use Rattle.hs_meaning.specs.declared.outcome.Outcome.{Outcome}
use Rattle.hs_tree.specs.declared.head.Head.{Head}
use Rattle.hs_tree.specs.declared.head.Variable.{Variable}
use Rattle.hs_tree.specs.declared.head.VariableDecl.{VariableDecl}

-- nothing is said
abbrev pub Any : {A : Type 0} → A → Type 0
Any it = Unit {0}

-- ---- lists of operations

-- the number of the operation after two lists
pub after_append : (start : ℕ) (first second : List Placed) → after start (first ++ second) ≡ after (after start first) second
after_append start [] second = refl
after_append start (its ∷ first) second = after_append (suc start) first second

-- by as many as there are
pub after_length : (start : ℕ) (its : List Placed) → after start its ≡ start + length its
after_length start [] = omega arith
after_length start (one ∷ rest) = after_length (suc start) rest ∙ omega arith

-- the code has these from that number on
abbrev pub Holds : FunctionCode → ℕ → List Placed → Type 0
Holds code start [] = Unit {0}
Holds code start (its ∷ rest) = (slice_get code.ops start ≡ Some its) × Holds code (suc start) rest

pub holds_front : (code : FunctionCode) (start : ℕ) (first second : List Placed) → Holds code start (first ++ second) → Holds code start first
holds_front code start [] second holds = tt
holds_front code start (its ∷ first) second holds = (holds.0, holds_front code (suc start) first second holds.1)

pub holds_back : (code : FunctionCode) (start : ℕ) (first second : List Placed) → Holds code start (first ++ second)
    → Holds code (after start first) second
holds_back code start [] second holds = holds
holds_back code start (its ∷ first) second holds = holds_back code (suc start) first second holds.1

-- ---- steps that are equal

-- one step after two is the second one after the first
pub thens_same : {A B C : Type 0} → (first : Step A) (f : A → Step B) (g : B → Step C) (s : State)
    → ((first >>= f) >>= g) s ≡ (first >>= (λ a. f a >>= g)) s
thens_same first f g s = by (first s)
  where
    by : (r : Ran _) → then_with g (then_with f r) ≡ then_with (λ a. f a >>= g) r
    by (went a t) = refl
    by (over outcome t) = refl

-- two operands, one after the other
pub operands_same : {A B C : Type 0} → (first : Step A) (second : Step B) (f : A × B → Step C) (s : State)
    → (operands first second >>= f) s ≡ (first >>= (λ a. second >>= (λ b. f (a, b)))) s
operands_same first second f s = by (first s)
  where
    inner : (a : _) (r : Ran _) → then_with f (then_with (λ b. give (a, b)) r) ≡ then_with (λ b. f (a, b)) r
    inner a (went b u) = refl
    inner a (over outcome u) = refl

    by : (r : Ran _) → then_with f (then_with (λ a. second >>= (λ b. give (a, b))) r) ≡ then_with (λ a. second >>= (λ b. f (a, b))) r
    by (went a t) = inner a (second t)
    by (over outcome t) = refl

-- equal steps after a step
pub same_behind : {A B : Type 0} → (f g : A → Step B) (r : Ran A) → ((a : A) (t : State) → f a t ≡ g a t) → then_with f r ≡ then_with g r
same_behind f g (went a t) same = same a t
same_behind f g (over outcome t) same = refl

module _ (program : CodeProgram) (variables : List VariableDecl) (bound : ℕ) where
  -- where a call of the function may be
  pub record IsAt (s : State) : Type 0 where
    pub slots : (its : Variable) → is_slot_at its s.machine ≡ is_slot_declared program.setting.types (declared_in program.setting variables its)
    pub few : s.turns ≤ bound

  -- the same variables and turns
  pub still_at : (s : State) (machine : Machine) → IsAt s → SameSlots s.machine machine → IsAt (record s { machine = machine })
  still_at s machine at same =
      record {
        slots = λ its.
            sym (bare_slot (binding_of its machine)) ∙ ap is_slot_binding (same its) ∙ bare_slot (binding_of its s.machine) ∙ at.slots its;
        few = at.few;
      }

  module _ (code : FunctionCode) (waiting : List Waiting) (choices : List Bool) where
    -- the call is before that operation, with that stack
    abbrev pub at_point : ℕ → List Value → Point
    at_point at stack = record { frame = record { code = code; at = at; stack = stack }; waiting = waiting; choices = choices }

    module _ {A : Type 0} (fact : A → Type 0) where
      -- what the step has come to, and what the code run comes to from the point
      abbrev pub Leads : (A → Point) → Point → State → Ran A → Type 0
      Leads next point s (went a t) =
          fact a × IsAt t × ((outcome : Outcome) (end_ : State) → Comes program (next a) t outcome end_ → Comes program point s outcome end_)
      Leads next point s (over outcome end_) = Comes program point s outcome end_

      -- from all states of the call
      pub record Performs (first : Step A) (point : Point) (next : A → Point) : Type 0 where
        pub go : (s : State) → IsAt s → Leads next point s (first s)

      -- what a step leaves, if it goes on
      abbrev pub Stays : Ran A → Type 0
      Stays (went a t) = fact a × IsAt t
      Stays (over outcome end_) = Unit {0}

      -- one operation is the step
      pub one_step : (first : Step A) (point : Point) (next : A → Point)
          → ((s : State) → stepped program point s ≡ then_with (λ a. give (next a)) (first s)) → ((s : State) → IsAt s → Stays (first s))
          → Performs first point next
      one_step first point next is stays = record { go = λ s at. by s (first s) (is s) (stays s at) }
        where
          by : (s : State) (r : Ran A) → stepped program point s ≡ then_with (λ a. give (next a)) r → Stays r → Leads next point s r
          by s (went a t) so stay = (stay.0, stay.1, λ outcome end_ comes. onward point (next a) s t end_ outcome so comes)
          by s (over outcome end_) so stay = halted point s end_ outcome so

      -- a step that does nothing, where the run is already
      pub gives : (a : A) (next : A → Point) → fact a → Performs (give a) (next a) next
      gives a next is = record { go = λ s at. (is, at, λ outcome end_ comes. comes) }

      -- an equal step
      pub same_step : {first other : Step A} → {point : Point} → {next : A → Point} → ((s : State) → IsAt s → other s ≡ first s)
          → Performs first point next → Performs other point next
      same_step {first = first} {point = point} {next = next} same performs =
          record { go = λ s at. subst (Leads next point s) (sym (same s at)) (performs.go s at) }

      -- operations after it that only go on
      pub goes_on : {first : Step A} → {point : Point} → {mid : A → Point} → (next : A → Point)
          → ((a : A) (s : State) → stepped program (mid a) s ≡ went (next a) s) → Performs first point mid → Performs first point next
      goes_on {first = first} {point = point} {mid = mid} next goes performs = record { go = λ s at. by s (first s) (performs.go s at) }
        where
          by : (s : State) (r : Ran A) → Leads mid point s r → Leads next point s r
          by s (went a t) is =
              (is.0, is.1, λ outcome end_ comes. is.2 outcome end_ (onward (mid a) (next a) t t end_ outcome (goes a t) comes))
          by s (over outcome end_) is = is

    -- one after the other
    pub thens : {A B : Type 0} → {fact : A → Type 0} → {fact' : B → Type 0} → {first : Step A} → {f : A → Step B} → {point : Point}
        → {mid : A → Point} → {next : B → Point} → Performs fact first point mid → ((a : A) → fact a → Performs fact' (f a) (mid a) next)
        → Performs fact' (first >>= f) point next
    thens {fact = fact} {fact' = fact'} {first = first} {f = f} {point = point} {mid = mid} {next = next} before rest =
        record { go = λ s at. by s (first s) (before.go s at) }
      where
        carried : (s : State) (a : _) (t : State)
            → ((outcome : Outcome) (end_ : State) → Comes program (mid a) t outcome end_ → Comes program point s outcome end_) → (r : Ran _)
            → Leads fact' next (mid a) t r → Leads fact' next point s r
        carried s a t goes (went b u) is = (is.0, is.1, λ outcome end_ comes. goes outcome end_ (is.2 outcome end_ comes))
        carried s a t goes (over outcome end_) is = goes outcome end_ is

        by : (s : State) (r : Ran _) → Leads fact mid point s r → Leads fact' next point s (then_with f r)
        by s (went a t) is = carried s a t is.2 (f a t) ((rest a is.0).go t is.1)
        by s (over outcome end_) is = is

    -- ---- operations that perform a step

    -- from one stack to another
    pub record Turns (its : Lowered) {A : Type 0} (fact : A → Type 0) (first : Step A) (stack : List Value) (left : A → List Value) : Type 0 where
      pub go : (start depth : ℕ) → Holds code start (its start depth)
          → Performs fact first (at_point start stack) (λ a. at_point (after start (its start depth)) (left a))

    -- the value that a step gives is left
    pub record Means (its : Lowered) (first : Step Value) : Type 0 where
      pub turns : (stack : List Value) → Turns its Any first stack (λ value. value ∷ stack)

    -- at an operation of equal number
    pub moved : {A : Type 0} → {fact : A → Type 0} → {first : Step A} → {point : Point} → (left : A → List Value) (at other : ℕ) → at ≡ other
        → Performs fact first point (λ a. at_point at (left a)) → Performs fact first point (λ a. at_point other (left a))
    moved {fact = fact} {first = first} {point = point} left at other is performs =
        subst (λ n. Performs fact first point (λ a. at_point n (left a))) is performs

    -- the same of an equal step
    pub same_turns : {its : Lowered} → {A : Type 0} → {fact : A → Type 0} → {first other : Step A} → {stack : List Value} → {left : A → List Value}
        → ((s : State) → IsAt s → other s ≡ first s) → Turns its fact first stack left → Turns its fact other stack left
    same_turns {fact = fact} same turns = record { go = λ start depth holds. same_step fact same (turns.go start depth holds) }

    pub same_means : {its : Lowered} → {first other : Step Value} → ((s : State) → IsAt s → other s ≡ first s) → Means its first → Means its other
    same_means same means = record { turns = λ stack. same_turns same (means.turns stack) }

    module _ {A B : Type 0} {fact : A → Type 0} {fact' : B → Type 0} {first : Step A} {f : A → Step B} {stack : List Value}
        {mid : A → List Value} {left : B → List Value} (its rest : Lowered) where
      -- an operand, and what is done with its value
      pub operand_turns : Turns its fact first stack mid → ((a : A) → fact a → Turns rest fact' (f a) (mid a) left)
          → Turns (operand its rest) fact' (first >>= f) stack left
      operand_turns before behind =
          record {
            go = λ start depth holds.
                moved left (after (after start (its start depth)) (rest (after start (its start depth)) (suc depth)))
                (after start (its start depth ++ rest (after start (its start depth)) (suc depth)))
                (sym (after_append start (its start depth) (rest (after start (its start depth)) (suc depth))))
                (thens (before.go start depth (holds_front code start (its start depth) (rest (after start (its start depth)) (suc depth)) holds))
                (λ a is. (behind a is).go (after start (its start depth)) (suc depth)
                (holds_back code start (its start depth) (rest (after start (its start depth)) (suc depth)) holds)));
          }

      -- the same with no value more
      pub sequence_turns : Turns its fact first stack mid → ((a : A) → fact a → Turns rest fact' (f a) (mid a) left)
          → Turns (sequence its rest) fact' (first >>= f) stack left
      sequence_turns before behind =
          record {
            go = λ start depth holds.
                moved left (after (after start (its start depth)) (rest (after start (its start depth)) depth))
                (after start (its start depth ++ rest (after start (its start depth)) depth))
                (sym (after_append start (its start depth) (rest (after start (its start depth)) depth)))
                (thens (before.go start depth (holds_front code start (its start depth) (rest (after start (its start depth)) depth) holds))
                (λ a is. (behind a is).go (after start (its start depth)) depth
                (holds_back code start (its start depth) (rest (after start (its start depth)) depth) holds)));
          }

    -- ---- one operation

    module _ (piece : ℕ) (head : Head) where
      -- the operation is a step, whatever its number is
      pub only_turns : {A : Type 0} → {fact : A → Type 0} → (its : Op) (first : Step A) (stack : List Value) (left : A → List Value)
          → ((at : ℕ) (s : State) → by_stack program head.at.pos (at_point at stack) its stack s
          ≡ then_with (λ a. give (at_point (suc at) (left a))) (first s)) → ((s : State) → IsAt s → Stays fact (first s))
          → Turns (only piece head its) fact first stack left
      only_turns {fact = fact} its first stack left is stays =
          record {
            go = λ start depth holds.
                one_step fact first (at_point start stack) (λ a. at_point (suc start) (left a))
                (λ s. ap (λ found. stepped_at program (at_point start stack) found s) holds.0 ∙ is start s) stays;
          }
