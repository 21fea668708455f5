-- Loads, stores and updates of objects: the code beside the meaning (own).
--     slot_located, memory_located      the object that an lvalue designates is the slot that it is, or is at its address
--     read_turns, written_turns         the value of an object, and an object that is given a value
--     Changes                           what makes the new value of an object from the one before and another one
--     updated_turns, stepped_turns      the new value is left, or the one before
use Rattle.std.proofs.Common.{◌≡◌, ℕ, suc, Bool, true, false, List, [], ◌∷◌, Option, Some, None, refl, sym, ap, ◌∙◌, subst}
use Rattle.hs_base.specs.declared.pos.Pos.{Pos}
use Rattle.hs_code.specs.declared.function_code.FunctionCode.{FunctionCode}
use Rattle.hs_code.specs.declared.op.Op.TheVariants as op
use Rattle.hs_code_run.specs.Codes.{CodeProgram, Waiting}
use Rattle.hs_lowering.specs.Lowering.{Lowered, access_in, declared_in, slot_of, slot_by, only, operand, sequence, on_one, on_two, read_code, written_code, fetched, updated_code, stepped_code}
use Rattle.hs_lowering.specs.Laws.Operations.{access_same, point, Turning, perform_stays, set_stays, op_two, op_gives, one_turns, two_turns}
use Rattle.hs_lowering.specs.Performing.{Any, IsAt, same_turns, operand_turns, sequence_turns, only_turns, thens_same, operands_same, same_behind}
use Rattle.hs_lowering.specs.Laws.Variables.{is_slot_binding}
use Rattle.hs_meaning.specs.Classes.{is_slot_declared}
use Rattle.hs_meaning.specs.Evaluation.{Location, in_slot, at_address, located, variable_at, address_of, location_of, read, written, read_with}
use Rattle.hs_meaning.specs.Machine.{Binding, slot, object_at, binding_of}
use Rattle.hs_meaning.specs.Operations as operation
use Rattle.hs_meaning.specs.Steps.{State, Step, ◌>>=◌, ◌>>◌, then_with, give, ran_at, acts, perform, operands}
use Rattle.hs_meaning.specs.Values.{Value, number, Access}
use Rattle.hs_tree.specs.Trees as tree
use Rattle.hs_tree.specs.Trees.{LeftValue}
use Rattle.hs_tree.specs.declared.head.Head.{Head}
use Rattle.hs_tree.specs.declared.head.Variable.{Variable}
use Rattle.hs_tree.specs.declared.head.VariableDecl.{VariableDecl}

-- the address of a variable, as a step
abbrev pub variable_address : Pos → Variable → Step Value
variable_address at name = acts at (variable_at name) >>= (λ place. acts at (address_of place))

-- a new value of two, and then what is done with it
pub changed_same : (first : Step Value) (second : Value → Step Value) (change : Value → Value → Step Value) (put : Value → Step Value)
    → (all : Value → Value → Step Value) → ((a b : Value) (t : State) → all a b t ≡ (change a b >>= put) t) → (s : State)
    → (first >>= (λ a. second a >>= all a)) s ≡ ((first >>= (λ a. second a >>= change a)) >>= put) s
changed_same first second change put all each s =
    same_behind (λ a. second a >>= all a) (λ a. (second a >>= change a) >>= put) (first s)
    (λ a t. same_behind (all a) (λ b. change a b >>= put) (second a t) (each a) ∙ sym (thens_same (second a) (change a) put t))
    ∙ sym (thens_same first (λ a. second a >>= change a) put s)

-- an lvalue, and its address: of a variable, it is that of the variable
abbrev pub HasAddress : LeftValue → Step Value → Type 0
HasAddress (tree.variable head name) address = address ≡ variable_address head.at.pos name
HasAddress (tree.literal head place) address = Unit {0}
HasAddress (tree.target head its) address = Unit {0}
HasAddress (tree.element head size pointer_first a b) address = Unit {0}
HasAddress (tree.member head field bytes object) address = Unit {0}
HasAddress (tree.arrow head field bytes its) address = Unit {0}

module _ (program : CodeProgram) (variables : List VariableDecl) (bound : ℕ) where
  -- ---- slots and addresses

  slot_binding : {B : Type 0} → (at : Pos) (name : Variable) (f : Location → Step B) (s : State) (binding : Option Binding)
      → is_slot_binding binding ≡ true → then_with f (ran_at at s (located name binding s.machine)) ≡ f (in_slot name) s
  slot_binding at name f s None is = absurd cc
  slot_binding at name f s (Some (slot value)) is = refl
  slot_binding at name f s (Some (object_at place)) is = absurd cc

  memory_binding : {B : Type 0} → (at : Pos) (name : Variable) (f : Location → Step B) (s : State) (binding : Option Binding)
      → is_slot_binding binding ≡ false → then_with f (ran_at at s (located name binding s.machine))
      ≡ then_with (λ its. f (at_address its)) (then_with (λ place. acts at (address_of place)) (ran_at at s (located name binding s.machine)))
  memory_binding at name f s None is = refl
  memory_binding at name f s (Some (slot value)) is = absurd cc
  memory_binding at name f s (Some (object_at place)) is = refl

  same_name : (a b : Variable) → Some a ≡ Some b → a ≡ b
  same_name a b is = cc

  -- the slot that an lvalue is, is declared as one
  pub slot_declared : (e : LeftValue) (name : Variable) → slot_of program.setting variables e ≡ Some name
      → is_slot_declared program.setting.types (declared_in program.setting variables name) ≡ true
  slot_declared (tree.variable head its) name is = by (is_slot_declared program.setting.types (declared_in program.setting variables its)) refl is
    where
      by : (b : Bool) → is_slot_declared program.setting.types (declared_in program.setting variables its) ≡ b → slot_by b its ≡ Some name
          → is_slot_declared program.setting.types (declared_in program.setting variables name) ≡ true
      by true w so =
          subst (λ n. is_slot_declared program.setting.types (declared_in program.setting variables n) ≡ true) (same_name its name so) w
      by false w so = absurd cc
  slot_declared (tree.literal head place) name is = absurd cc
  slot_declared (tree.target head its) name is = absurd cc
  slot_declared (tree.element head size pointer_first a b) name is = absurd cc
  slot_declared (tree.member head field bytes object) name is = absurd cc
  slot_declared (tree.arrow head field bytes its) name is = absurd cc

  -- the lvalue is that slot
  pub slot_located : {B : Type 0} → (e : LeftValue) (address : Step Value) (name : Variable) → slot_of program.setting variables e ≡ Some name
      → (f : Location → Step B) (s : State) → IsAt program variables bound s → (location_of e address >>= f) s ≡ f (in_slot name) s
  slot_located (tree.variable head its) address name is f s at =
      by (is_slot_declared program.setting.types (declared_in program.setting variables its)) refl is
    where
      by : (b : Bool) → is_slot_declared program.setting.types (declared_in program.setting variables its) ≡ b → slot_by b its ≡ Some name
          → (acts head.at.pos (variable_at its) >>= f) s ≡ f (in_slot name) s
      by true w so =
          slot_binding head.at.pos its f s (binding_of its s.machine) (at.slots its ∙ w) ∙ ap (λ n. f (in_slot n) s) (same_name its name so)
      by false w so = absurd cc
  slot_located (tree.literal head place) address name is f s at = absurd cc
  slot_located (tree.target head its) address name is f s at = absurd cc
  slot_located (tree.element head size pointer_first a b) address name is f s at = absurd cc
  slot_located (tree.member head field bytes object) address name is f s at = absurd cc
  slot_located (tree.arrow head field bytes its) address name is f s at = absurd cc

  -- the lvalue is at its address
  pub memory_located : {B : Type 0} → (e : LeftValue) (address : Step Value) → HasAddress e address → slot_of program.setting variables e ≡ None
      → (f : Location → Step B) (s : State) → IsAt program variables bound s
      → (location_of e address >>= f) s ≡ (address >>= (λ its. f (at_address its))) s
  memory_located (tree.variable head its) address has is f s at =
      by (is_slot_declared program.setting.types (declared_in program.setting variables its)) refl is
    where
      by : (b : Bool) → is_slot_declared program.setting.types (declared_in program.setting variables its) ≡ b → slot_by b its ≡ None
          → (acts head.at.pos (variable_at its) >>= f) s ≡ (address >>= (λ its. f (at_address its))) s
      by true w so = absurd cc
      by false w so =
          memory_binding head.at.pos its f s (binding_of its s.machine) (at.slots its ∙ w)
          ∙ sym (ap (λ step. then_with (λ its. f (at_address its)) (step s)) has)
  memory_located (tree.literal head place) address has is f s at = thens_same address (λ its. give (at_address its)) f s
  memory_located (tree.target head its) address has is f s at = thens_same address (λ its. give (at_address its)) f s
  memory_located (tree.element head size pointer_first a b) address has is f s at = thens_same address (λ its. give (at_address its)) f s
  memory_located (tree.member head field bytes object) address has is f s at = thens_same address (λ its. give (at_address its)) f s
  memory_located (tree.arrow head field bytes its) address has is f s at = thens_same address (λ its. give (at_address its)) f s

module _ (program : CodeProgram) (variables : List VariableDecl) (bound : ℕ) (code : FunctionCode) (waiting : List Waiting) (choices : List Bool)
    (piece : ℕ) (head : Head) where
  -- a step that the code performs
  abbrev Turning' : Lowered → {A : Type 0} → (A → Type 0) → Step A → List Value → (A → List Value) → Type 0
  Turning' its fact first stack left = Turning program variables bound code waiting choices piece its fact first stack left

  -- the position of the expression
  abbrev at_head : Pos
  at_head = head.at.pos

  -- ---- single operations

  -- Get of a slot
  get_turns : (name : Variable) (stack : List Value) → Turning' (only piece head (op.Get name)) Any (perform program.setting at_head (operation.get name) [])
      stack (λ v. v ∷ stack)
  get_turns name stack =
      only_turns program variables bound code waiting choices piece head (op.Get name) (perform program.setting at_head (operation.get name) []) stack
      (λ v. v ∷ stack) (λ at s. refl)
      (perform_stays program variables bound code waiting choices piece at_head (operation.get name) [] refl)

  -- Num
  pub num_turns : (bits : ℕ) (stack : List Value) → Turning' (only piece head (op.Num bits)) Any (give (number bits)) stack (λ v. v ∷ stack)
  num_turns bits stack =
      op_gives program variables bound code waiting choices piece head (op.Num bits) (number bits) stack (λ v. v ∷ stack) (λ at s. refl)

  -- a load
  abbrev pub load_step : Access → Value → Step Value
  load_step access its = perform program.setting at_head (operation.load access) (its ∷ [])

  -- a store
  abbrev pub store_step : Access → Value → Value → Step Value
  store_step access its value = perform program.setting at_head (operation.store access) (its ∷ value ∷ [])

  -- a slot gets a value
  abbrev pub set_step : Variable → Value → Step Value
  set_step name value = perform program.setting at_head (operation.set name) (value ∷ [])

  -- Load after an address
  load_turns : (access : Access) (X : Lowered) (first : Step Value) (before below : List Value) → Turning' X Any first before (λ v. v ∷ below)
      → Turning' (on_one piece head (op.Load (access_in access)) X) Any (first >>= load_step access) before (λ v. v ∷ below)
  load_turns access X first before below turns =
      one_turns program variables bound code waiting choices piece head (op.Load (access_in access)) (load_step access)
      (λ at a stack s.
      ap (λ its. then_with (λ v. give (point program variables bound code waiting choices piece (suc at) (v ∷ stack)))
      (perform program.setting at_head (operation.load its) (a ∷ []) s)) (access_same access))
      (λ a s is. perform_stays program variables bound code waiting choices piece at_head (operation.load access) (a ∷ []) refl s is)
      X first before below turns

  -- Store after an address and a value
  pub store_turns : (access : Access) (X Y : Lowered) (first : Step Value) (second : Value → Step Value) (before below : List Value)
      → Turning' X Any first before (λ v. v ∷ below) → ((a : Value) → Turning' Y Any (second a) (a ∷ below) (λ b. b ∷ a ∷ below))
      → Turning' (on_two piece head (op.Store (access_in access)) X Y) Any (first >>= (λ a. second a >>= store_step access a)) before (λ v. v ∷ below)
  store_turns access X Y first second before below turns others =
      two_turns program variables bound code waiting choices piece head (op.Store (access_in access)) (store_step access)
      (λ at a b stack s.
      ap (λ its. then_with (λ v. give (point program variables bound code waiting choices piece (suc at) (v ∷ stack)))
      (perform program.setting at_head (operation.store its) (a ∷ b ∷ []) s)) (access_same access))
      (λ a b s is. perform_stays program variables bound code waiting choices piece at_head (operation.store access) (a ∷ b ∷ []) refl s is)
      X Y first second before below turns others

  -- Set after a value
  pub set_turns : (name : Variable) → is_slot_declared program.setting.types (declared_in program.setting variables name) ≡ true → (X : Lowered)
      → (first : Step Value) (before below : List Value) → Turning' X Any first before (λ v. v ∷ below)
      → Turning' (on_one piece head (op.Set name) X) Any (first >>= set_step name) before (λ v. v ∷ below)
  set_turns name declared X first before below turns =
      one_turns program variables bound code waiting choices piece head (op.Set name) (set_step name) (λ at a stack s. refl)
      (λ a s is. set_stays program variables bound code waiting choices piece at_head name a declared s is) X first before below turns

  -- Drop of a value that is left over
  pub drop_turns : {A : Type 0} → (it : A) (value : Value) (left : A → List Value)
      → Turning' (only piece head op.Drop) Any (give it) (value ∷ left it) left
  drop_turns it value left =
      op_gives program variables bound code waiting choices piece head op.Drop it (value ∷ left it) left (λ at s. refl)

  -- Dup of a value, which is the one above
  dup_turns : (value : Value) (below : List Value) → Turning' (only piece head op.Dup) Any (give value) (value ∷ below) (λ v. v ∷ value ∷ below)
  dup_turns value below =
      op_gives program variables bound code waiting choices piece head op.Dup value (value ∷ below) (λ v. v ∷ value ∷ below) (λ at s. refl)

  -- Tuck of a value below the one under it
  tuck_turns : (value under : Value) (below : List Value)
      → Turning' (only piece head op.Tuck) Any (give value) (value ∷ under ∷ below) (λ v. v ∷ under ∷ value ∷ below)
  tuck_turns value under below =
      op_gives program variables bound code waiting choices piece head op.Tuck value (value ∷ under ∷ below) (λ v. v ∷ under ∷ value ∷ below)
      (λ at s. refl)

  -- Dup, Load
  fetched_turns : (access : Access) (its : Value) (below : List Value)
      → Turning' (fetched piece head (access_in access)) Any (load_step access its) (its ∷ below) (λ v. v ∷ its ∷ below)
  fetched_turns access its below =
      same_turns program variables bound code waiting choices (λ s is. refl)
      (load_turns access (only piece head op.Dup) (give its) (its ∷ below) (its ∷ below) (dup_turns its below))

  -- ---- objects

  module _ (e : LeftValue) (address : Lowered) (addressed : Step Value) (has : HasAddress e addressed) (access : Access)
      (turns : (stack : List Value) → Turning' address Any addressed stack (λ v. v ∷ stack)) where
    -- the value of an object
    pub read_turns : (stack : List Value)
        → Turning' (read_code piece head (slot_of program.setting variables e) (access_in access) address) Any
        (location_of e addressed >>= read program.setting at_head access) stack (λ v. v ∷ stack)
    read_turns stack = by (slot_of program.setting variables e) refl
      where
        by : (its : Option Variable) → slot_of program.setting variables e ≡ its → Turning' (read_code piece head its (access_in access) address) Any
            (location_of e addressed >>= read program.setting at_head access) stack (λ v. v ∷ stack)
        by (Some name) is =
            same_turns program variables bound code waiting choices
            (λ s at. slot_located program variables bound e addressed name is (read program.setting at_head access) s at) (get_turns name stack)
        by None is =
            same_turns program variables bound code waiting choices
            (λ s at. memory_located program variables bound e addressed has is (read program.setting at_head access) s at)
            (load_turns access address addressed stack stack (turns stack))

    -- an object that is given a value
    pub written_turns : (from : Lowered) (second : Step Value) → ((stack : List Value) → Turning' from Any second stack (λ v. v ∷ stack))
        → (stack : List Value) → Turning' (written_code piece head (slot_of program.setting variables e) (access_in access) address from) Any
        (operands (location_of e addressed) second >>= (λ both. written program.setting at_head access both.0 both.1)) stack (λ v. v ∷ stack)
    written_turns from second others stack = by (slot_of program.setting variables e) refl
      where
        by : (its : Option Variable) → slot_of program.setting variables e ≡ its
            → Turning' (written_code piece head its (access_in access) address from) Any
            (operands (location_of e addressed) second >>= (λ both. written program.setting at_head access both.0 both.1)) stack (λ v. v ∷ stack)
        by (Some name) is =
            same_turns program variables bound code waiting choices
            (λ s at. operands_same (location_of e addressed) second (λ both. written program.setting at_head access both.0 both.1) s
            ∙ slot_located program variables bound e addressed name is (λ place. second >>= written program.setting at_head access place) s at)
            (set_turns name (slot_declared program variables bound e name is) from second stack stack (others stack))
        by None is =
            same_turns program variables bound code waiting choices
            (λ s at. operands_same (location_of e addressed) second (λ both. written program.setting at_head access both.0 both.1) s
            ∙ memory_located program variables bound e addressed has is (λ place. second >>= written program.setting at_head access place) s at)
            (store_turns access address from addressed (λ a. second) stack stack (turns stack) (λ a. others (a ∷ stack)))

  -- ---- updates

  -- a new value of two that are on the stack, one above the other
  pub record Changes (changes : Lowered → Lowered → Lowered) (change : Value → Value → Step Value) : Type 0 where
    pub go : (X Y : Lowered) (first : Step Value) (second : Value → Step Value) (before below : List Value)
        → Turning' X Any first before (λ v. v ∷ below) → ((a : Value) → Turning' Y Any (second a) (a ∷ below) (λ b. b ∷ a ∷ below))
        → Turning' (changes X Y) Any (first >>= (λ a. second a >>= change a)) before (λ v. v ∷ below)

  -- Store of a value above its address
  store_behind : (access : Access) (its : Value) (X : Lowered) (first : Step Value) (before below : List Value)
      → Turning' X Any first before (λ v. v ∷ its ∷ below)
      → Turning' (on_one piece head (op.Store (access_in access)) X) Any (first >>= store_step access its) before (λ v. v ∷ below)
  store_behind access its X first before below turns =
      operand_turns program variables bound code waiting choices X (only piece head (op.Store (access_in access))) turns
      (λ b is. op_two program variables bound code waiting choices piece head (op.Store (access_in access)) (store_step access)
      (λ at a b stack s.
      ap (λ what. then_with (λ v. give (point program variables bound code waiting choices piece (suc at) (v ∷ stack)))
      (perform program.setting at_head (operation.store what) (a ∷ b ∷ []) s)) (access_same access))
      (λ a b s at. perform_stays program variables bound code waiting choices piece at_head (operation.store access) (a ∷ b ∷ []) refl s at)
      its b below)

  module _ (e : LeftValue) (address : Lowered) (addressed : Step Value) (has : HasAddress e addressed) (access : Access)
      (turns : (stack : List Value) → Turning' address Any addressed stack (λ v. v ∷ stack))
      (changes : Lowered → Lowered → Lowered) (change : Value → Value → Step Value) (changing : Changes changes change)
      (all : Location → Value → Value → Step Value)
      (each : (place : Location) (a b : Value) (t : State) → all place a b t ≡ (change a b >>= written program.setting at_head access place) t) where
    got : Variable → Step Value
    got name = perform program.setting at_head (operation.get name) []

    -- the new value is left
    pub updated_turns : (from : Lowered) (second : Step Value) → ((stack : List Value) → Turning' from Any second stack (λ v. v ∷ stack))
        → (stack : List Value) → Turning' (updated_code piece head (slot_of program.setting variables e) (access_in access) changes address from) Any
        (operands (location_of e addressed >>= read_with program.setting at_head access) second >>= (λ both. all both.0.0 both.0.1 both.1))
        stack (λ v. v ∷ stack)
    unfolding got
    updated_turns from second others stack = by (slot_of program.setting variables e) refl
      where
        begin : (s : State) → (operands (location_of e addressed >>= read_with program.setting at_head access) second
            >>= (λ both. all both.0.0 both.0.1 both.1)) s
            ≡ (location_of e addressed >>= (λ place. read_with program.setting at_head access place >>= (λ its. second >>= all its.0 its.1))) s
        begin s =
            operands_same (location_of e addressed >>= read_with program.setting at_head access) second (λ both. all both.0.0 both.0.1 both.1) s
            ∙ thens_same (location_of e addressed) (read_with program.setting at_head access) (λ its. second >>= all its.0 its.1) s

        by : (its : Option Variable) → slot_of program.setting variables e ≡ its
            → Turning' (updated_code piece head its (access_in access) changes address from) Any
            (operands (location_of e addressed >>= read_with program.setting at_head access) second >>= (λ both. all both.0.0 both.0.1 both.1))
            stack (λ v. v ∷ stack)
        by (Some name) is =
            same_turns program variables bound code waiting choices
            (λ s at. begin s
            ∙ slot_located program variables bound e addressed name is
            (λ place. read_with program.setting at_head access place >>= (λ its. second >>= all its.0 its.1)) s at
            ∙ thens_same (got name) (λ v. give (in_slot name, v)) (λ its. second >>= all its.0 its.1) s
            ∙ changed_same (got name) (λ a. second) change (set_step name) (all (in_slot name)) (each (in_slot name)) s)
            (set_turns name (slot_declared program variables bound e name is) (changes (only piece head (op.Get name)) from)
            (got name >>= (λ a. second >>= change a)) stack stack
            (changing.go (only piece head (op.Get name)) from (got name) (λ a. second) stack stack (get_turns name stack) (λ a. others (a ∷ stack))))
        by None is =
            same_turns program variables bound code waiting choices
            (λ s at. begin s
            ∙ memory_located program variables bound e addressed has is
            (λ place. read_with program.setting at_head access place >>= (λ its. second >>= all its.0 its.1)) s at
            ∙ same_behind (λ a. read_with program.setting at_head access (at_address a) >>= (λ its. second >>= all its.0 its.1))
            (λ a. (load_step access a >>= (λ v. second >>= change v)) >>= store_step access a) (addressed s)
            (λ a t. thens_same (load_step access a) (λ v. give (at_address a, v)) (λ its. second >>= all its.0 its.1) t
            ∙ changed_same (load_step access a) (λ v. second) change (store_step access a) (all (at_address a)) (each (at_address a)) t))
            (store_turns access address (changes (fetched piece head (access_in access)) from) addressed
            (λ a. load_step access a >>= (λ v. second >>= change v)) stack stack (turns stack)
            (λ a. changing.go (fetched piece head (access_in access)) from (load_step access a) (λ v. second) (a ∷ stack) (a ∷ stack)
            (fetched_turns access a stack) (λ v. others (v ∷ a ∷ stack))))

    -- the value from before is left
    pub stepped_turns : (stack : List Value)
        → Turning' (stepped_code piece head (slot_of program.setting variables e) (access_in access) changes address) Any
        (location_of e addressed >>= read_with program.setting at_head access >>= (λ both. all both.0 both.1 (number 1) >> give both.1))
        stack (λ v. v ∷ stack)
    unfolding got
    stepped_turns stack = by (slot_of program.setting variables e) refl
      where
        by : (its : Option Variable) → slot_of program.setting variables e ≡ its
            → Turning' (stepped_code piece head its (access_in access) changes address) Any
            (location_of e addressed >>= read_with program.setting at_head access >>= (λ both. all both.0 both.1 (number 1) >> give both.1))
            stack (λ v. v ∷ stack)
        by (Some name) is =
            same_turns program variables bound code waiting choices
            (λ s at. thens_same (location_of e addressed) (read_with program.setting at_head access) (λ its. all its.0 its.1 (number 1) >> give its.1) s
            ∙ slot_located program variables bound e addressed name is
            (λ place. read_with program.setting at_head access place >>= (λ its. all its.0 its.1 (number 1) >> give its.1)) s at
            ∙ thens_same (got name) (λ v. give (in_slot name, v)) (λ its. all its.0 its.1 (number 1) >> give its.1) s
            ∙ same_behind (λ v. all (in_slot name) v (number 1) >> give v)
            (λ v. ((give v >>= (λ a. give (number 1) >>= change a)) >>= set_step name) >>= (λ w. give v)) (got name s)
            (λ v t. ap (then_with (λ w. give v)) (each (in_slot name) v (number 1) t)))
            (operand_turns program variables bound code waiting choices (only piece head (op.Get name))
            (operand (on_one piece head (op.Set name) (changes (only piece head op.Dup) (only piece head (op.Num 1)))) (only piece head op.Drop))
            (get_turns name stack)
            (λ v so. operand_turns program variables bound code waiting choices
            (on_one piece head (op.Set name) (changes (only piece head op.Dup) (only piece head (op.Num 1)))) (only piece head op.Drop)
            (set_turns name (slot_declared program variables bound e name is) (changes (only piece head op.Dup) (only piece head (op.Num 1)))
            (give v >>= (λ a. give (number 1) >>= change a)) (v ∷ stack) (v ∷ stack)
            (changing.go (only piece head op.Dup) (only piece head (op.Num 1)) (give v) (λ a. give (number 1)) (v ∷ stack) (v ∷ stack)
            (dup_turns v stack) (λ a. num_turns 1 (a ∷ v ∷ stack))))
            (λ w too. drop_turns v w (λ a. a ∷ stack))))
        by None is =
            same_turns program variables bound code waiting choices
            (λ s at. thens_same (location_of e addressed) (read_with program.setting at_head access) (λ its. all its.0 its.1 (number 1) >> give its.1) s
            ∙ memory_located program variables bound e addressed has is
            (λ place. read_with program.setting at_head access place >>= (λ its. all its.0 its.1 (number 1) >> give its.1)) s at
            ∙ same_behind (λ a. read_with program.setting at_head access (at_address a) >>= (λ its. all its.0 its.1 (number 1) >> give its.1))
            (λ a. load_step access a >>= (λ v. ((give v >>= (λ m. give (number 1) >>= change m)) >>= store_step access a) >>= (λ w. give v)))
            (addressed s)
            (λ a t. thens_same (load_step access a) (λ v. give (at_address a, v)) (λ its. all its.0 its.1 (number 1) >> give its.1) t
            ∙ same_behind (λ v. all (at_address a) v (number 1) >> give v)
            (λ v. ((give v >>= (λ m. give (number 1) >>= change m)) >>= store_step access a) >>= (λ w. give v)) (load_step access a t)
            (λ v u. ap (then_with (λ w. give v)) (each (at_address a) v (number 1) u))))
            (operand_turns program variables bound code waiting choices address
            (operand (fetched piece head (access_in access))
            (sequence (on_one piece head (op.Store (access_in access)) (changes (only piece head op.Tuck) (only piece head (op.Num 1))))
            (only piece head op.Drop))) (turns stack)
            (λ a so. operand_turns program variables bound code waiting choices (fetched piece head (access_in access))
            (sequence (on_one piece head (op.Store (access_in access)) (changes (only piece head op.Tuck) (only piece head (op.Num 1))))
            (only piece head op.Drop)) (fetched_turns access a stack)
            (λ v too. sequence_turns program variables bound code waiting choices
            (on_one piece head (op.Store (access_in access)) (changes (only piece head op.Tuck) (only piece head (op.Num 1)))) (only piece head op.Drop)
            (store_behind access a (changes (only piece head op.Tuck) (only piece head (op.Num 1)))
            (give v >>= (λ m. give (number 1) >>= change m)) (v ∷ a ∷ stack) (v ∷ stack)
            (changing.go (only piece head op.Tuck) (only piece head (op.Num 1)) (give v) (λ m. give (number 1)) (v ∷ a ∷ stack) (a ∷ v ∷ stack)
            (tuck_turns v a stack) (λ m. num_turns 1 (m ∷ a ∷ v ∷ stack))))
            (λ w also. drop_turns v w (λ m. m ∷ stack)))))
