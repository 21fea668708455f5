-- What the expressions of a typed program name is there (own).
--     nodes_both      two facts of each expression of a program are one
--     names_fit       the law
use Rattle.std.proofs.Common.{List, [], ◌∷◌}
use Rattle.std.specs.List.{AllByRecursion}
use Rattle.hs_lowering.specs.Laws.Fitting.{block_both, expressions_both, right_both}
use Rattle.hs_lowering.specs.Laws.Listing.{classes_there}
use Rattle.hs_lowering.specs.Laws.Ranges.{NamesClass, NamesFit}
use Rattle.hs_meaning.specs.Classes.{classes_of}
use Rattle.hs_tree.specs.Fitting.{Fits, EachNode, InRange, HasOperands, HasResult, IsMarked}
use Rattle.hs_tree.specs.Inside.{Node, EachRight, EachBlock, EachExpression}
use Rattle.hs_tree.specs.Trees.{TypedFunction, TypedProgram}

-- the fact of each expression of each function
abbrev pub OfFunctions : (TypedFunction → Node → Type 0) → List TypedFunction → Type 0
OfFunctions holds its = AllByRecursion (λ function. EachBlock (EachExpression (EachRight (holds function))) function.body) its

module _ (first second both : TypedFunction → Node → Type 0)
    (so : (function : TypedFunction) (node : Node) → first function node → second function node → both function node) where
  functions_both : (its : List TypedFunction) → OfFunctions first its → OfFunctions second its → OfFunctions both its
  functions_both [] is also = tt
  functions_both (function ∷ rest) is also = (
    block_both (EachExpression (EachRight (first function))) (EachExpression (EachRight (second function))) (EachExpression (EachRight (both function)))
        (λ phrase one other. expressions_both (EachRight (first function)) (EachRight (second function)) (EachRight (both function))
        (λ e a b. right_both (first function) (second function) (both function) (so function) e a b) phrase one other)
        function.body is.0 also.0,
    functions_both rest is.1 also.1,
  )

  pub nodes_both : (program : TypedProgram) → EachNode program first → EachNode program second → EachNode program both
  nodes_both program is also = functions_both program.functions is also

module _ (program : TypedProgram) where
  -- the facts of an expression: what it names
  abbrev Range : TypedFunction → Node → Type 0
  Range function node = InRange program function node

  -- its operands
  abbrev Operands : TypedFunction → Node → Type 0
  Operands function node = HasOperands program.types node

  -- its result
  abbrev Result : TypedFunction → Node → Type 0
  Result function node = HasResult program function node

  -- what has its address taken
  abbrev Marked : TypedFunction → Node → Type 0
  Marked function node = IsMarked program function node

  -- its class
  abbrev ClassThere : TypedFunction → Node → Type 0
  ClassThere function node = NamesClass program (classes_of program) function node

  -- by what the program keeps
  pub names_fit : Fits program → EachNode program (NamesFit program (classes_of program))
  names_fit fits =
      nodes_both (λ function node. (Range function node × Operands function node) × (Result function node × Marked function node)) ClassThere
      (NamesFit program (classes_of program))
      (λ function node is also. record { range = is.0.0; operands = is.0.1; result = is.1.0; marked = is.1.1; class_there = also }) program
      (nodes_both (λ function node. Range function node × Operands function node) (λ function node. Result function node × Marked function node)
      (λ function node. (Range function node × Operands function node) × (Result function node × Marked function node))
      (λ function node is also. (is, also)) program
      (nodes_both Range Operands (λ function node. Range function node × Operands function node)
      (λ function node is also. (is, also)) program fits.ranges fits.operands)
      (nodes_both Result Marked (λ function node. Result function node × Marked function node)
      (λ function node is also. (is, also)) program fits.results fits.taken))
      (classes_there program fits.operands)
