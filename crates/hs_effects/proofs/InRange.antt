-- What the operations of a program name is there.
use mathlib.Core.Logic.{∥∥₁_elim}
use Rattle.std.proofs.Common.{◌≡◌, ◌<◌, ℕ, zero, suc, List, [], ◌∷◌, length, Some, None, arith, ap, refl, subst, Option, true}
use Rattle.std.proofs.Math.Bridge.{le_prop}
use Rattle.std.proofs.lemmas.Option.{slice_get_within}
use Rattle.std.specs.List.{slice_get}
use Rattle.hs_code.specs.Codes.{AreCodesOf, IsCodeOf, IsCode, IsInRange, is_slot_in}
use Rattle.hs_code.specs.Stacks.{variable_of_global}
use Rattle.hs_code.specs.declared.function_code.FunctionCode.{FunctionCode}
use Rattle.hs_code.specs.declared.function_code.Placed.{Placed}
use Rattle.hs_effects.proofs.Forms.{is_call, is_set}
use Rattle.hs_effects.specs.Calling.{IsCallIn}
use Rattle.hs_effects.specs.Owning.{assigned_by}
use Rattle.hs_tree.specs.Trees.{TypedFunction, TypedProgram}
use Rattle.hs_tree.specs.declared.class.Class.{Class}
use Rattle.hs_tree.specs.declared.globals.Global.{Global}
use Rattle.hs_types.specs.TypeTables.{TypeTable}

-- as many functions as codes
pub same_length : (program : TypedProgram) (classes : List Class) (functions : List TypedFunction) (codes : List FunctionCode)
    → AreCodesOf program classes functions codes → length codes ≡ length functions
same_length program classes [] [] are = refl
same_length program classes [] (code ∷ codes) are = absurd are
same_length program classes (function ∷ functions) [] are = absurd are
same_length program classes (function ∷ functions) (code ∷ codes) are = ap (λ n. suc n) (same_length program classes functions codes are.1)

-- the code of each is in range
code_at : (program : TypedProgram) (classes : List Class) (functions : List TypedFunction) (codes : List FunctionCode)
    → AreCodesOf program classes functions codes → (f : ℕ) (code : FunctionCode) → slice_get codes f ≡ Some code
    → (function : TypedFunction) × IsCodeOf program classes function code
code_at program classes [] [] are f code there = absurd cc
code_at program classes [] (code ∷ codes) are f its there = absurd are
code_at program classes (function ∷ functions) [] are f its there = absurd are
code_at program classes (function ∷ functions) (code ∷ codes) are zero its there =
    (function, subst (IsCodeOf program classes function) (let same : code ≡ its = cc in same) are.0)
code_at program classes (function ∷ functions) (code ∷ codes) are (suc f) its there = code_at program classes functions codes are.1 f its there

-- a call is of a function that is there
pub called_is_there : (program : TypedProgram) (classes : List Class) (codes : List FunctionCode) → IsCode program classes codes
    → (f : ℕ) (code : FunctionCode) → slice_get codes f ≡ Some code → (at g : ℕ) → IsCallIn code.ops at g → g < length codes
called_is_there program classes codes are f code there at g call =
    let own = code_at program classes program.functions codes are f code there in
    let range : IsInRange program classes own.0 code call.0.op = own.1.ranges at call.0 call.1 in
    let below : g < length program.functions =
    subst (IsInRange program classes own.0 code) (is_call call.0.op g call.2) range in
    let same : length codes ≡ length program.functions = same_length program classes program.functions codes are in
    omega (arith, below, same)

-- a global that is a slot is there
slot_there : (types : TypeTable) (globals : List Global) (b : ℕ) (it : Option Global) → slice_get globals b ≡ it
    → is_slot_in types (variable_of_global it) ≡ true → b < length globals
slot_there types globals b None is slot = absurd cc
slot_there types globals b (Some it) is slot = slice_get_within globals b it is

set_is_there : (program : TypedProgram) (classes : List Class) (codes : List FunctionCode) → IsCode program classes codes
    → (f : ℕ) (code : FunctionCode) → slice_get codes f ≡ Some code → (at : ℕ) (its : Placed) → slice_get code.ops at ≡ Some its
    → (b : ℕ) → assigned_by its.op ≡ Some b → b < length program.globals
set_is_there program classes codes are f code there at its has b sets =
    let own = code_at program classes program.functions codes are f code there in
    let range : IsInRange program classes own.0 code its.op = own.1.ranges at its has in
    slot_there program.types program.globals b (slice_get program.globals b) refl
    (subst (IsInRange program classes own.0 code) (is_set its.op b sets) range)

-- and so if it is only known that it is code
pub called_within : (program : TypedProgram) (classes : List Class) (codes : List FunctionCode) → ∥ IsCode program classes codes ∥₁
    → (f : ℕ) (code : FunctionCode) → slice_get codes f ≡ Some code → (at g : ℕ) → IsCallIn code.ops at g → g < length codes
called_within program classes codes whole f code there at g call =
    ∥∥₁_elim whole le_prop (λ are. called_is_there program classes codes are f code there at g call)

pub set_within : (program : TypedProgram) (classes : List Class) (codes : List FunctionCode) → ∥ IsCode program classes codes ∥₁
    → (f : ℕ) (code : FunctionCode) → slice_get codes f ≡ Some code → (at : ℕ) (its : Placed) → slice_get code.ops at ≡ Some its
    → (b : ℕ) → assigned_by its.op ≡ Some b → b < length program.globals
set_within program classes codes whole f code there at its has b sets =
    ∥∥₁_elim whole le_prop (λ are. set_is_there program classes codes are f code there at its has b sets)
