-- The code of a program, as the type `Code` keeps it, has its operands.
--     code_is_stacked       the law
use Rattle.std.proofs.Common.{◌≡◌, ◌≤◌, ℕ, zero, suc, List, [], ◌∷◌, length, map, slice_get, Some, refl, ap, sym, subst}
use Rattle.std.specs.List.{AllByRecursion}
use Rattle.hs_code.specs.Codes as codes
use Rattle.hs_code.specs.Codes.{IsCodeOf, AreCodesOf, IsCode}
use Rattle.hs_code.specs.Stacks.{Signature, IsStacked}
use Rattle.hs_code.specs.declared.function_code.FunctionCode.{FunctionCode}
use Rattle.hs_code_run.specs.Codes.{CodeFunction, function_with, functions_with, code_program, signature_of}
use Rattle.hs_code_run.specs.Depths.{AreStacked, IsStackedFunction}
use Rattle.hs_tree.specs.Fitting.{FitsDefinition}
use Rattle.hs_tree.specs.Trees.{TypedFunction, TypedProgram}
use Rattle.hs_tree.specs.declared.class.Class.{Class}

-- the signatures are those of the functions
signatures : (program : TypedProgram) (classes : List Class) (functions : List TypedFunction) (its : List FunctionCode)
    → AreCodesOf program classes functions its → map signature_of (functions_with functions its) ≡ map codes.signature_of functions
signatures program classes [] [] are = refl
signatures program classes [] (code ∷ its) are = absurd are
signatures program classes (function ∷ functions) [] are = absurd are
signatures program classes (function ∷ functions) (code ∷ its) are =
    ap (λ rest. codes.signature_of function ∷ rest) (signatures program classes functions its are.1)

module _ (program : TypedProgram) (classes : List Class) (its : List FunctionCode) (are : IsCode program classes its) where
  -- one function
  function_stacked : (function : TypedFunction) (code : FunctionCode) → IsCodeOf program classes function code
      → function.parameters ≤ length function.variables → IsStackedFunction (code_program program its) (function_with function code)
  function_stacked function code is few =
      record {
        parameters = few;
        code =
            subst (λ (all : List Signature). IsStacked (record (codes.scope_of program function) { functions = all }) code)
            (sym (signatures program classes program.functions its are)) is.stacked;
      }

  -- by its place
  all_stacked : (functions : List TypedFunction) (rest : List FunctionCode) → AreCodesOf program classes functions rest
      → AllByRecursion (FitsDefinition program.types) functions → (place : ℕ) (function : CodeFunction)
      → slice_get (functions_with functions rest) place ≡ Some function → IsStackedFunction (code_program program its) function
  all_stacked [] [] all fit place function is = absurd cc
  all_stacked [] (code ∷ rest) all fit place function is = absurd all
  all_stacked (one ∷ functions) [] all fit place function is = absurd all
  all_stacked (one ∷ functions) (code ∷ rest) all fit zero function is =
      subst (IsStackedFunction (code_program program its)) (same (function_with one code) function is) (function_stacked one code all.0 fit.0.0)
    where
      same : (a b : CodeFunction) → Some a ≡ Some b → a ≡ b
      same a b is = cc
  all_stacked (one ∷ functions) (code ∷ rest) all fit (suc place) function is = all_stacked functions rest all.1 fit.1 place function is

-- each function of the program has its operands
pub code_is_stacked : (program : TypedProgram) (classes : List Class) (its : List FunctionCode)
    → AllByRecursion (FitsDefinition program.types) program.functions → IsCode program classes its → AreStacked (code_program program its)
code_is_stacked program classes its fit are place function is =
    all_stacked program classes its are program.functions its are fit place function is
