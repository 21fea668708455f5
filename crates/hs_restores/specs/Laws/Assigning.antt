-- What the lists of a function have, as they are made from the code of a program.
--     own_code               the code of a function is one of the program, and each of its operations is in range
--     assigned_by            which globals a function may assign, if function and global are there
--     assigned_true, assigns_true      that is what it may assign
--     ready_is               so all is known of a function that its windows ask for
--     op_gets, op_sets, op_calls       what operations get is a slot, and what they set or assign under calls is listed
use mathlib.Core.Logic.{∥∥₁_elim}
use Rattle.std.proofs.Common.{◌≡◌, ◌<◌, ◌⊎◌, inl, inr, ℕ, zero, suc, nat_lt, Bool, true, ◌&&◌, ap, sym, subst, ◌∙◌, refl, arith, List, [], ◌∷◌, length, slice_get, Option, Some, None}
use Rattle.std.proofs.Math.Bool.{Bool-set}
use Rattle.std.proofs.lemmas.Option.{slice_get_within}
use Rattle.hs_code.specs.Codes.{AreCodesOf, IsCode, IsCodeOf, IsInRange, is_slot_in, scope_of}
use Rattle.hs_code.specs.Stacks.{variable_in, variable_of_global}
use Rattle.hs_code.specs.declared.function_code.FunctionCode.{FunctionCode}
use Rattle.hs_code.specs.declared.function_code.Placed.{Placed}
use Rattle.hs_code.specs.declared.op.Op.{Op}
use Rattle.hs_code.specs.declared.op.Op.TheVariants as op
use Rattle.hs_fact_rows.specs.Laws.Numbers.{both, both_true, either_left, either_right, less_number, less_numbers, same_number, some_one}
use Rattle.hs_facts.specs.Effects.{WholeCode, Assigns, Leads, itself, through, ops_in, placed_in}
use Rattle.hs_facts.specs.Laws.Effects.{Does-called}
use Rattle.hs_restores.specs.Laws.Numbering.{is_in}
use Rattle.hs_restores.specs.Marks.{hits, is_changed, local_set_by, one_names}
use Rattle.hs_restores.specs.Restoring.{IsAssigned, IsReady}
use Rattle.hs_rows.specs.Sets.{Sets, has}
use Rattle.hs_tree.specs.Trees.{TypedFunction, TypedProgram}
use Rattle.hs_tree.specs.declared.class.Class.{Class}
use Rattle.hs_tree.specs.declared.globals.Global.{Global}
use Rattle.hs_tree.specs.declared.head.Variable.{Variable}
use Rattle.hs_tree.specs.declared.head.Variable.TheVariants as name
use Rattle.hs_tree.specs.declared.head.VariableDecl.{VariableDecl}
use Rattle.hs_types.specs.TypeTables.{TypeTable}

-- ---- the code of a function

own_code : (program : TypedProgram) (classes : List Class) (functions : List TypedFunction) (codes : List FunctionCode)
    → AreCodesOf program classes functions codes → (f : ℕ) (code : FunctionCode) → slice_get codes f ≡ Some code
    → (function : TypedFunction) × (slice_get functions f ≡ Some function) × IsCodeOf program classes function code
own_code program classes [] [] are f code there = absurd cc
own_code program classes [] (code ∷ codes) are f its there = absurd are
own_code program classes (function ∷ functions) [] are f its there = absurd are
own_code program classes (function ∷ functions) (code ∷ codes) are zero its there =
    (function, refl, subst (IsCodeOf program classes function) (some_one code its there) are.0)
own_code program classes (function ∷ functions) (code ∷ codes) are (suc f) its there = own_code program classes functions codes are.1 f its there

pub same_count : (program : TypedProgram) (classes : List Class) (functions : List TypedFunction) (codes : List FunctionCode)
    → AreCodesOf program classes functions codes → length codes ≡ length functions
same_count program classes [] [] are = refl
same_count program classes [] (code ∷ codes) are = absurd are
same_count program classes (function ∷ functions) [] are = absurd are
same_count program classes (function ∷ functions) (code ∷ codes) are = ap (λ n. suc n) (same_count program classes functions codes are.1)

-- a slot is there
slot_there : (types : TypeTable) (variables : List VariableDecl) (place : ℕ) → is_slot_in types (slice_get variables place) ≡ true
    → place < length variables
slot_there types variables place slot = by_case (slice_get variables place) refl slot
  where
    by_case : (it : Option VariableDecl) → slice_get variables place ≡ it → is_slot_in types it ≡ true → place < length variables
    by_case None e s = absurd cc
    by_case (Some it) e s = slice_get_within variables place it e

global_there : (types : TypeTable) (globals : List Global) (place : ℕ) → is_slot_in types (variable_of_global (slice_get globals place)) ≡ true
    → place < length globals
global_there types globals place slot = by_case (slice_get globals place) refl slot
  where
    by_case : (it : Option Global) → slice_get globals place ≡ it → is_slot_in types (variable_of_global it) ≡ true → place < length globals
    by_case None e s = absurd cc
    by_case (Some it) e s = slice_get_within globals place it e

-- an operation of a function that is there
code_there : (whole : WholeCode) (f at : ℕ) (its : Placed) → placed_in whole f at ≡ Some its
    → (code : FunctionCode) × (slice_get whole.functions f ≡ Some code) × (slice_get code.ops at ≡ Some its)
code_there whole f at its there = by_case (slice_get whole.functions f) refl there
  where
    by_case : (it : Option FunctionCode) → slice_get whole.functions f ≡ it → slice_get (ops_in it) at ≡ Some its
        → (code : FunctionCode) × (slice_get whole.functions f ≡ Some code) × (slice_get code.ops at ≡ Some its)
    by_case None e s = absurd cc
    by_case (Some code) e s = (code, e, s)

code_here : (whole : WholeCode) (f at : ℕ) (code : FunctionCode) (its : Placed) → slice_get whole.functions f ≡ Some code
    → slice_get code.ops at ≡ Some its → placed_in whole f at ≡ Some its
code_here whole f at code its of there = subst (λ (it : Option FunctionCode). slice_get (ops_in it) at ≡ Some its) (sym of) there

function_there : (whole : WholeCode) (f at : ℕ) (its : Placed) → placed_in whole f at ≡ Some its → f < length whole.functions
function_there whole f at its there =
    let code = code_there whole f at its there in slice_get_within whole.functions f code.0 code.1

named_there : (place_by : Op → Option ℕ) (ops : List Placed) (at : ℕ) (its : Placed) (place : ℕ) → slice_get ops at ≡ Some its
    → place_by its.op ≡ Some place → one_names place_by ops place ≡ true
named_there place_by [] at its place there is = absurd cc
named_there place_by (it ∷ rest) zero its place there is =
    either_left (hits place (place_by it.op)) (one_names place_by rest place)
    (ap (λ (p : Placed). hits place (place_by p.op)) (some_one it its there) ∙ ap (hits place) is ∙ same_number place place refl)
named_there place_by (it ∷ rest) (suc at) its place there is =
    either_right (hits place (place_by it.op)) (one_names place_by rest place) (named_there place_by rest at its place there is)

-- ---- a program

module _ (whole : WholeCode) (are : ∥ IsCode whole.program whole.classes whole.functions ∥₁) where
  -- what an operation gets or sets is a slot
  slot_at : (f at : ℕ) (function : TypedFunction) (code : FunctionCode) (its : Placed) (v : Variable)
      → slice_get whole.program.functions f ≡ Some function → slice_get whole.functions f ≡ Some code → slice_get code.ops at ≡ Some its
      → (its.op ≡ op.Get v) ⊎ (its.op ≡ op.Set v)
      → is_slot_in whole.program.types (variable_in (scope_of whole.program function) v) ≡ true
  slot_at f at function code its v of_function of_code there is =
      ∥∥₁_elim are (hlevel Bool-set) (λ codes. by_code (own_code whole.program whole.classes whole.program.functions whole.functions codes f code of_code) is)
    where
      by_code : ((it : TypedFunction) × (slice_get whole.program.functions f ≡ Some it) × IsCodeOf whole.program whole.classes it code)
          → (its.op ≡ op.Get v) ⊎ (its.op ≡ op.Set v)
          → is_slot_in whole.program.types (variable_in (scope_of whole.program function) v) ≡ true
      by_code own (inl gets) =
          subst (λ (it : TypedFunction). is_slot_in whole.program.types (variable_in (scope_of whole.program it) v) ≡ true)
          (some_one own.0 function (sym own.1 ∙ of_function))
          (subst (IsInRange whole.program whole.classes own.0 code) gets (own.2.ranges at its there))
      by_code own (inr sets) =
          subst (λ (it : TypedFunction). is_slot_in whole.program.types (variable_in (scope_of whole.program it) v) ≡ true)
          (some_one own.0 function (sym own.1 ∙ of_function))
          (subst (IsInRange whole.program whole.classes own.0 code) sets (own.2.ranges at its there))

  -- a global that is set is there
  set_there : (f at : ℕ) (its : Placed) (g : ℕ) → placed_in whole f at ≡ Some its → its.op ≡ op.Set (name.Global g) → g < length whole.program.globals
  set_there f at its g there is =
      let code = code_there whole f at its there in
      less_numbers g (length whole.program.globals) (∥∥₁_elim are (hlevel Bool-set) (λ codes.
      let own = own_code whole.program whole.classes whole.program.functions whole.functions codes f code.0 code.1 in
      less_number g (length whole.program.globals)
      (global_there whole.program.types whole.program.globals g
      (subst (IsInRange whole.program whole.classes own.0 code.0) is (own.2.ranges at its code.2)))))

  -- ---- what is assigned

  module _ (sets : Sets) (known : IsAssigned whole sets) where
    -- if function and global are there
    abbrev pub assigned_by : ℕ → ℕ → Bool
    assigned_by f g = nat_lt f (length whole.functions) && (nat_lt g (length whole.program.globals) && has sets f g)

    pub assigned_true : (f g : ℕ) → assigned_by f g ≡ true → Assigns whole f g
    assigned_true f g h =
        let one = both (nat_lt f (length whole.functions)) (nat_lt g (length whole.program.globals) && has sets f g) h in
        let two = both (nat_lt g (length whole.program.globals)) (has sets f g) one.1 in
        let low = less_numbers f (length whole.functions) one.0 in
        let below = less_numbers g (length whole.program.globals) two.0 in
        let count = known.count in
        (known.exact f g (omega (arith, low, count)) below).0 two.1

    leads_there : (f last at : ℕ) (its : Placed) → Leads whole f last → placed_in whole last at ≡ Some its → f < length whole.functions
    leads_there f last at its (itself it) there = function_there whole it at its there
    leads_there f last at its (through it g end calls leads) there = function_there whole it calls.at calls.its calls.there

    pub assigns_true : (f g : ℕ) → Assigns whole f g → assigned_by f g ≡ true
    assigns_true f g does =
        let low = leads_there f does.last does.at does.its does.leads does.there in
        let count = known.count in
        let below = set_there does.last does.at does.its g does.there does.so in
        both_true (nat_lt f (length whole.functions)) (nat_lt g (length whole.program.globals) && has sets f g) (less_number f (length whole.functions) low)
        (both_true (nat_lt g (length whole.program.globals)) (has sets f g) (less_number g (length whole.program.globals) below)
        ((known.exact f g (omega (arith, low, count)) below).1 does))

    -- ---- of one function

    module _ (f : ℕ) (function : TypedFunction) (code : FunctionCode) (of_function : slice_get whole.program.functions f ≡ Some function)
        (of_code : slice_get whole.functions f ≡ Some code) (slots : List Variable)
        (changed : (v : Variable) → is_in slots v ≡ is_changed (scope_of whole.program function) code (has sets f) v) where
      pub op_gets : (at : ℕ) (its : Placed) (v : Variable) → slice_get code.ops at ≡ Some its → its.op ≡ op.Get v
          → is_slot_in whole.program.types (variable_in (scope_of whole.program function) v) ≡ true
      op_gets at its v there is = slot_at f at function code its v of_function of_code there (inl is)

      global_listed : (g : ℕ) → Assigns whole f g → is_in slots (name.Global g) ≡ true
      global_listed g does =
          let one = both (nat_lt f (length whole.functions)) (nat_lt g (length whole.program.globals) && has sets f g) (assigns_true f g does) in
          changed (name.Global g) ∙ one.1

      pub op_sets : (at : ℕ) (its : Placed) (v : Variable) → slice_get code.ops at ≡ Some its → its.op ≡ op.Set v → is_in slots v ≡ true
      op_sets at its (name.Local place) there is =
          changed (name.Local place)
          ∙ both_true (nat_lt place (length function.variables)) (one_names local_set_by code.ops place)
          (less_number place (length function.variables)
          (slot_there whole.program.types function.variables place
          (slot_at f at function code its (name.Local place) of_function of_code there (inr is))))
          (named_there local_set_by code.ops at its place there (ap local_set_by is))
      op_sets at its (name.Global g) there is =
          global_listed g (record { last = f; leads = itself f; at = at; its = its; there = code_here whole f at code its of_code there; so = is })

      pub op_calls : (at : ℕ) (its : Placed) (called g : ℕ) → slice_get code.ops at ≡ Some its → its.op ≡ op.Call called
          → is_slot_in whole.program.types (variable_in (scope_of whole.program function) (name.Global g)) ≡ true → assigned_by called g ≡ true
          → is_in slots (name.Global g) ≡ true
      op_calls at its called g there is slot assigned =
          global_listed g (Does-called whole (λ last at it. it ≡ op.Set (name.Global g)) f called
          (record { at = at; its = its; there = code_here whole f at code its of_code there; calls = is }) (assigned_true called g assigned))

-- ---- all that is asked

-- of a function whose lists are made from the code of the program
pub ready_is :
    (whole : WholeCode) (are : ∥ IsCode whole.program whole.classes whole.functions ∥₁) (sets : Sets) (known : IsAssigned whole sets) (f : ℕ)
    (function : TypedFunction) (code : FunctionCode) → slice_get whole.program.functions f ≡ Some function → slice_get whole.functions f ≡ Some code
    → (slots : List Variable) → ((v : Variable) → is_in slots v ≡ is_changed (scope_of whole.program function) code (has sets f) v)
    → IsReady whole f function code slots (λ g h. nat_lt g (length whole.functions) && (nat_lt h (length whole.program.globals) && has sets g h))
ready_is whole are sets known f function code of_function of_code slots changed = record {
  of_function = of_function;
  of_code = of_code;
  assigned_true = assigned_true whole are sets known;
  assigns_true = assigns_true whole are sets known;
  gets = op_gets whole are sets known f function code of_function of_code slots changed;
  sets = op_sets whole are sets known f function code of_function of_code slots changed;
  calls = op_calls whole are sets known f function code of_function of_code slots changed;
}
