-- One operation of the code beside one operation of the meaning, and what is made of them (own).
--     perform_stays, used_stays              what an operation leaves, if it goes on
--     one_turns, two_turns                   an operation on one value or on two, each left by operations before
--     slot_located, memory_located           the object that an lvalue designates is the slot, or is at the address
--     ChangesMean changes means              what makes a new value of two
use Rattle.std.proofs.Common.{◌≡◌, ℕ, suc, Bool, true, false, List, [], ◌∷◌, refl, ◌∙◌}
use Rattle.hs_base.specs.declared.pos.Pos.{Pos}
use Rattle.hs_code.specs.declared.function_code.FunctionCode.{FunctionCode}
use Rattle.hs_code.specs.declared.op.Op.{Op}
use Rattle.hs_code_run.specs.Codes.{CodeProgram, Waiting, Point}
use Rattle.hs_code_run.specs.Steps.{by_stack}
use Rattle.hs_code_run.specs.Steps as steps
use Rattle.hs_lowering.specs.Lowering.{Lowered, access_in, declared_in, only, operand, on_one, on_two}
use Rattle.hs_lowering.specs.Performing.{Any, IsAt, still_at, at_point, Stays, Turns, operand_turns, only_turns}
use Rattle.hs_lowering.specs.Laws.Variables.{KeepsVariables, slots_of_same, operate_keeps, is_set, set_keeps_slots, by_stop_keeps, same_variables}
use Rattle.hs_meaning.specs.Classes.{is_slot_declared}
use Rattle.hs_meaning.specs.Machine.{Machine, Done, done, stopped, with_value}
use Rattle.hs_meaning.specs.Operations as operation
use Rattle.hs_meaning.specs.Operations.{Operation, operate}
use Rattle.hs_meaning.specs.Steps.{State, went, Step, ◌>>=◌, then_with, give, ran_at, acts, perform, used, number_used}
use Rattle.hs_meaning.specs.Values.{Value, Access, of_number, of_pointer, of_struct, number_stop, bits_in}
use Rattle.hs_tree.specs.declared.head.Head.{Head}
use Rattle.hs_tree.specs.declared.head.Variable.{Variable}
use Rattle.hs_tree.specs.declared.head.VariableDecl.{VariableDecl}

-- an operation names what the machine reaches
pub access_same : (its : Access) → steps.access_of (access_in its) ≡ its
access_same (of_number kind) = refl
access_same (of_pointer class) = refl
access_same (of_struct size) = refl

module _ (program : CodeProgram) (variables : List VariableDecl) (bound : ℕ) (code : FunctionCode) (waiting : List Waiting) (choices : List Bool)
    (piece : ℕ) where
  -- the variables are as declared, and no more turns are left than the bound
  abbrev pub At : State → Type 0
  At = IsAt program variables bound

  -- before an operation, with such a stack
  abbrev pub point : ℕ → List Value → Point
  point = at_point program variables bound code waiting choices

  -- a step that the code performs
  abbrev pub Turning : Lowered → {A : Type 0} → (A → Type 0) → Step A → List Value → (A → List Value) → Type 0
  Turning its fact first stack left = Turns program variables bound code waiting choices its fact first stack left

  -- ---- what operations leave

  -- what the machine does, if it keeps the variables
  pub acts_stays : {A : Type 0} → (at : Pos) (act : Machine → Done A) → ((machine : Machine) → KeepsVariables machine (act machine)) → (s : State)
      → At s → Stays program variables bound code waiting choices Any (acts at act s)
  acts_stays {A = A} at act keeps s is = by (act s.machine) (keeps s.machine)
    where
      by : (its : Done A) → KeepsVariables s.machine its → Stays program variables bound code waiting choices Any (ran_at at s its)
      by (done it machine) kept = (tt, still_at program variables bound s machine is (slots_of_same s.machine machine kept))
      by (stopped why machine) kept = tt

  -- an operation that is no Set
  pub perform_stays : (at : Pos) (its : Operation) (values : List Value) → is_set its ≡ false → (s : State) → At s
      → Stays program variables bound code waiting choices Any (perform program.setting at its values s)
  perform_stays at its values other s is =
      acts_stays at (operate program.setting its values) (λ machine. operate_keeps program.setting its values machine other) s is

  -- a value that is used as a number
  pub used_stays : (at : Pos) (value : Value) (s : State) → At s → Stays program variables bound code waiting choices Any (used at value s)
  used_stays at value s is =
      acts_stays at (number_used value) (λ machine. by_stop_keeps (number_stop value) (bits_in value) machine machine (same_variables machine)) s is

  -- Set, of a variable that is declared as a slot
  pub set_stays : (at : Pos) (name : Variable) (value : Value) → is_slot_declared program.setting.types (declared_in program.setting variables name) ≡ true
      → (s : State) → At s → Stays program variables bound code waiting choices Any (perform program.setting at (operation.set name) (value ∷ []) s)
  set_stays at name value declared s is =
      (tt, still_at program variables bound s (with_value name value s.machine) is (set_keeps_slots name value s.machine (is.slots name ∙ declared)))

  -- ---- one operation

  -- on one value
  abbrev pub RunsOne : Pos → Op → (Value → Step Value) → Type 0
  RunsOne at its act =
      (number_ : ℕ) (a : Value) (stack : List Value) (s : State) → by_stack program at (point number_ (a ∷ stack)) its (a ∷ stack) s
      ≡ then_with (λ v. give (point (suc number_) (v ∷ stack))) (act a s)

  -- on two, of which the second is on top
  abbrev pub RunsTwo : Pos → Op → (Value → Value → Step Value) → Type 0
  RunsTwo at its act =
      (number_ : ℕ) (a b : Value) (stack : List Value) (s : State) → by_stack program at (point number_ (b ∷ a ∷ stack)) its (b ∷ a ∷ stack) s
      ≡ then_with (λ v. give (point (suc number_) (v ∷ stack))) (act a b s)

  module _ (head : Head) where
    -- it finds its operand on the stack
    pub op_one : (its : Op) (act : Value → Step Value) → RunsOne head.at.pos its act
        → ((a : Value) (s : State) → At s → Stays program variables bound code waiting choices Any (act a s)) → (a : Value) (stack : List Value)
        → Turning (only piece head its) Any (act a) (a ∷ stack) (λ v. v ∷ stack)
    op_one its act runs stays a stack =
        only_turns program variables bound code waiting choices piece head its (act a) (a ∷ stack) (λ v. v ∷ stack)
        (λ at s. runs at a stack s) (stays a)

    pub op_two : (its : Op) (act : Value → Value → Step Value) → RunsTwo head.at.pos its act
        → ((a b : Value) (s : State) → At s → Stays program variables bound code waiting choices Any (act a b s)) → (a b : Value) (stack : List Value)
        → Turning (only piece head its) Any (act a b) (b ∷ a ∷ stack) (λ v. v ∷ stack)
    op_two its act runs stays a b stack =
        only_turns program variables bound code waiting choices piece head its (act a b) (b ∷ a ∷ stack) (λ v. v ∷ stack)
        (λ at s. runs at a b stack s) (stays a b)

    -- an operation that gives something at once
    pub op_gives : {A : Type 0} → (its : Op) (it : A) (before : List Value) (left : A → List Value)
        → ((at : ℕ) (s : State) → by_stack program head.at.pos (point at before) its before s ≡ went (point (suc at) (left it)) s)
        → Turning (only piece head its) Any (give it) before left
    op_gives its it before left runs =
        only_turns program variables bound code waiting choices piece head its (give it) before left runs (λ s is. (tt, is))

    -- ---- operations after others

    pub one_turns : (its : Op) (act : Value → Step Value) → RunsOne head.at.pos its act
        → ((a : Value) (s : State) → At s → Stays program variables bound code waiting choices Any (act a s)) → (X : Lowered) (first : Step Value)
        → (before below : List Value) → Turning X Any first before (λ v. v ∷ below)
        → Turning (on_one piece head its X) Any (first >>= act) before (λ v. v ∷ below)
    one_turns its act runs stays X first before below turns =
        operand_turns program variables bound code waiting choices X (only piece head its) turns (λ a is. op_one its act runs stays a below)

    pub two_turns : (its : Op) (act : Value → Value → Step Value) → RunsTwo head.at.pos its act
        → ((a b : Value) (s : State) → At s → Stays program variables bound code waiting choices Any (act a b s)) → (X Y : Lowered)
        → (first : Step Value) (second : Value → Step Value) (before below : List Value) → Turning X Any first before (λ v. v ∷ below)
        → ((a : Value) → Turning Y Any (second a) (a ∷ below) (λ b. b ∷ a ∷ below))
        → Turning (on_two piece head its X Y) Any (first >>= (λ a. second a >>= (λ b. act a b))) before (λ v. v ∷ below)
    two_turns its act runs stays X Y first second before below turns others =
        operand_turns program variables bound code waiting choices X (operand Y (only piece head its)) turns
        (λ a is. operand_turns program variables bound code waiting choices Y (only piece head its) (others a)
        (λ b is. op_two its act runs stays a b below))
