-- Two facts of each expression, statement or declaration, and what follows from both.
--     expressions_both, block_both     of those of a statement or declaration, and of those inside a block
--     calls_fit                        each call of a typed program has as many arguments as there are parameters
use Rattle.std.proofs.Common.{◌≡◌, ◌≤◌, ℕ, zero, suc, List, [], ◌∷◌, length, take, slice_get, Option, Some, None, refl, sym, subst, arith}
use Rattle.std.specs.List.{AllByRecursion}
use Rattle.hs_base.specs.Entries.{all_by_both}
use Rattle.hs_code_run.specs.Steps.{arguments_of, routine_arguments}
use Rattle.hs_lowering.specs.Laws.Expressions.{HasAsMany, FitsFunction as FitsCodeFunction, FitsRoutine as FitsCodeRoutine, FitsCall}
use Rattle.hs_lowering.specs.Laws.Jobs.{program_code, FitsAll}
use Rattle.hs_lowering.specs.Laws.Programs.{coded}
use Rattle.hs_lowering.specs.Laws.Statements.{FitsBlock}
use Rattle.hs_meaning.specs.Settings.{setting_of}
use Rattle.hs_tree.specs.Fitting.{Fits, FitParameters, FitsFunction, FitsCalled, FitsRoutine, FitsPrototype, prototype_in, types_of, FitsDefinition, IsMainOf}
use Rattle.hs_tree.specs.Inside.{Node, right, left, Phrase, of_statement, of_declaration, EachRight, EachLeft, EachOf, EachStatement, EachBlock, EachOfStatements, EachExpression, IfAny, InStart}
use Rattle.hs_tree.specs.Sameness.{AreOne}
use Rattle.hs_tree.specs.Trees as tree
use Rattle.hs_tree.specs.Trees.{RightValue, LeftValue, RightValues, Starting, TypedStatement, TypedBlock, TypedStatements, TypedFunction, TypedProgram}
use Rattle.hs_tree.specs.declared.function.BoundRoutine.{BoundRoutine}
use Rattle.hs_tree.specs.declared.function.Prototype.{Prototype}
use Rattle.hs_tree.specs.declared.head.VariableDecl.{VariableDecl}
use Rattle.hs_types.specs.declared.row.TypeId.{TypeId}

-- ---- of expressions

module _ (first second both : Node → Type 0) (so : (node : Node) → first node → second node → both node) where
  mutual
    pub right_both : (e : RightValue) → EachRight first e → EachRight second e → EachRight both e
    right_both (tree.number head bits) is also = so (right (tree.number head bits)) is also
    right_both (tree.nil head) is also = so (right (tree.nil head)) is also
    right_both (tree.load head object) is also = (so (right (tree.load head object)) is.0 also.0, left_both object is.1 also.1)
    right_both (tree.decay head array) is also = (so (right (tree.decay head array)) is.0 also.0, left_both array is.1 also.1)
    right_both (tree.address head object) is also = (so (right (tree.address head object)) is.0 also.0, left_both object is.1 also.1)
    right_both (tree.cast head operand) is also = (so (right (tree.cast head operand)) is.0 also.0, right_both operand is.1 also.1)
    right_both (tree.convert_number head kind operand) is also =
        (so (right (tree.convert_number head kind operand)) is.0 also.0, right_both operand is.1 also.1)
    right_both (tree.convert_pointer head operand) is also = (so (right (tree.convert_pointer head operand)) is.0 also.0, right_both operand is.1 also.1)
    right_both (tree.unary head operator kind operand) is also =
        (so (right (tree.unary head operator kind operand)) is.0 also.0, right_both operand is.1 also.1)
    right_both (tree.not head operand) is also = (so (right (tree.not head operand)) is.0 also.0, right_both operand is.1 also.1)
    right_both (tree.arithmetic head operator kind a b) is also =
        (so (right (tree.arithmetic head operator kind a b)) is.0 also.0, right_both a is.1 also.1, right_both b is.2 also.2)
    right_both (tree.comparison head operator kind a b) is also =
        (so (right (tree.comparison head operator kind a b)) is.0 also.0, right_both a is.1 also.1, right_both b is.2 also.2)
    right_both (tree.compare_pointers head operator a b) is also =
        (so (right (tree.compare_pointers head operator a b)) is.0 also.0, right_both a is.1 also.1, right_both b is.2 also.2)
    right_both (tree.is_nil head equal pointer) is also = (so (right (tree.is_nil head equal pointer)) is.0 also.0, right_both pointer is.1 also.1)
    right_both (tree.step head stride pointer_first a b) is also =
        (so (right (tree.step head stride pointer_first a b)) is.0 also.0, right_both a is.1 also.1, right_both b is.2 also.2)
    right_both (tree.difference head size a b) is also =
        (so (right (tree.difference head size a b)) is.0 also.0, right_both a is.1 also.1, right_both b is.2 also.2)
    right_both (tree.and head a b) is also = (so (right (tree.and head a b)) is.0 also.0, right_both a is.1 also.1, right_both b is.2 also.2)
    right_both (tree.or head a b) is also = (so (right (tree.or head a b)) is.0 also.0, right_both a is.1 also.1, right_both b is.2 also.2)
    right_both (tree.conditional head test taken otherwise) is also = (
      so (right (tree.conditional head test taken otherwise)) is.0 also.0,
      right_both test is.1 also.1,
      right_both taken is.2 also.2,
      right_both otherwise is.3 also.3,
    )
    right_both (tree.comma head lefts last) is also =
        (so (right (tree.comma head lefts last)) is.0 also.0, all_both lefts is.1 also.1, right_both last is.2 also.2)
    right_both (tree.assign head into from) is also =
        (so (right (tree.assign head into from)) is.0 also.0, left_both into is.1 also.1, right_both from is.2 also.2)
    right_both (tree.update head operator kind to into from) is also =
        (so (right (tree.update head operator kind to into from)) is.0 also.0, left_both into is.1 also.1, right_both from is.2 also.2)
    right_both (tree.advance head stride into from) is also =
        (so (right (tree.advance head stride into from)) is.0 also.0, left_both into is.1 also.1, right_both from is.2 also.2)
    right_both (tree.post_update head operator kind to into) is also =
        (so (right (tree.post_update head operator kind to into)) is.0 also.0, left_both into is.1 also.1)
    right_both (tree.post_advance head stride into) is also = (so (right (tree.post_advance head stride into)) is.0 also.0, left_both into is.1 also.1)
    right_both (tree.call head number routine arguments) is also =
        (so (right (tree.call head number routine arguments)) is.0 also.0, all_both arguments is.1 also.1)
    right_both (tree.call_routine head routine arguments) is also =
        (so (right (tree.call_routine head routine arguments)) is.0 also.0, all_both arguments is.1 also.1)

    pub left_both : (it : LeftValue) → EachLeft first it → EachLeft second it → EachLeft both it
    left_both (tree.variable head variable) is also = so (left (tree.variable head variable)) is also
    left_both (tree.literal head place) is also = so (left (tree.literal head place)) is also
    left_both (tree.target head pointer) is also = (so (left (tree.target head pointer)) is.0 also.0, right_both pointer is.1 also.1)
    left_both (tree.element head size pointer_first a b) is also =
        (so (left (tree.element head size pointer_first a b)) is.0 also.0, right_both a is.1 also.1, right_both b is.2 also.2)
    left_both (tree.member head field offset object) is also = (so (left (tree.member head field offset object)) is.0 also.0, left_both object is.1 also.1)
    left_both (tree.arrow head field offset pointer) is also = (so (left (tree.arrow head field offset pointer)) is.0 also.0, right_both pointer is.1 also.1)

    pub all_both : (its : RightValues) → EachOf first its → EachOf second its → EachOf both its
    all_both tree.no_values is also = tt
    all_both (tree.more_values e rest) is also = (right_both e is.0 also.0, all_both rest is.1 also.1)

-- ---- of a statement or declaration

module _ (first second both : RightValue → Type 0) (so : (e : RightValue) → first e → second e → both e) where
  any_both : (e : Option RightValue) → IfAny first e → IfAny second e → IfAny both e
  any_both None is also = tt
  any_both (Some e) is also = so e is also

  start_both : (it : Starting) → InStart first it → InStart second it → InStart both it
  start_both (tree.value e) is also = so e is also
  start_both (tree.parts its) is also = tt

  pub expressions_both : (it : Phrase) → EachExpression first it → EachExpression second it → EachExpression both it
  expressions_both (of_statement (tree.block it)) is also = tt
  expressions_both (of_statement (tree.expression at e)) is also = so e is also
  expressions_both (of_statement (tree.empty at)) is also = tt
  expressions_both (of_statement (tree.if_ at test taken)) is also = so test is also
  expressions_both (of_statement (tree.if_else at test taken otherwise)) is also = so test is also
  expressions_both (of_statement (tree.while_ at test body)) is also = so test is also
  expressions_both (of_statement (tree.do_ at body test)) is also = so test is also
  expressions_both (of_statement (tree.for_ at first test step body)) is also =
      (any_both first is.0 also.0, any_both test is.1 also.1, any_both step is.2 also.2)
  expressions_both (of_statement (tree.switch_ at e it)) is also = so e is also
  expressions_both (of_statement (tree.break_ at)) is also = tt
  expressions_both (of_statement (tree.continue_ at)) is also = tt
  expressions_both (of_statement (tree.return_ at e)) is also = any_both e is also
  expressions_both (of_declaration it) is also =
      all_by_both (λ item. InStart first item.start) (λ item. InStart second item.start) (λ item. InStart both item.start)
      (λ item one other. start_both item.start one other) it.items is also

-- ---- inside a block

module _ (first second both : Phrase → Type 0) (so : (it : Phrase) → first it → second it → both it) where
  mutual
    pub statement_both : (it : TypedStatement) → EachStatement first it → EachStatement second it → EachStatement both it
    statement_both (tree.block it) is also = block_both it is also
    statement_both (tree.expression at e) is also = so (of_statement (tree.expression at e)) is also
    statement_both (tree.empty at) is also = tt
    statement_both (tree.if_ at test taken) is also = (so (of_statement (tree.if_ at test taken)) is.0 also.0, statement_both taken is.1 also.1)
    statement_both (tree.if_else at test taken otherwise) is also =
        (so (of_statement (tree.if_else at test taken otherwise)) is.0 also.0, statement_both taken is.1 also.1, statement_both otherwise is.2 also.2)
    statement_both (tree.while_ at test body) is also = (so (of_statement (tree.while_ at test body)) is.0 also.0, statement_both body is.1 also.1)
    statement_both (tree.do_ at body test) is also = (so (of_statement (tree.do_ at body test)) is.0 also.0, statement_both body is.1 also.1)
    statement_both (tree.for_ at first test step body) is also =
        (so (of_statement (tree.for_ at first test step body)) is.0 also.0, statement_both body is.1 also.1)
    statement_both (tree.switch_ at e it) is also = (so (of_statement (tree.switch_ at e it)) is.0 also.0, block_both it is.1 also.1)
    statement_both (tree.break_ at) is also = tt
    statement_both (tree.continue_ at) is also = tt
    statement_both (tree.return_ at e) is also = so (of_statement (tree.return_ at e)) is also

    pub block_both : (it : TypedBlock) → EachBlock first it → EachBlock second it → EachBlock both it
    block_both (tree.compound opening declarations its closing) is also = (
      all_by_both (λ it. first (of_declaration it)) (λ it. second (of_declaration it)) (λ it. both (of_declaration it))
          (λ it one other. so (of_declaration it) one other) declarations is.0 also.0,
      list_both its is.1 also.1,
    )

    pub list_both : (its : TypedStatements) → EachOfStatements first its → EachOfStatements second its → EachOfStatements both its
    list_both tree.no_statements is also = tt
    list_both (tree.more_statements labels it rest) is also = (statement_both it is.0 also.0, list_both rest is.1 also.1)

-- ---- calls

-- as many parameters as there are
counted : (alike : TypeId → TypeId → Type 0) (count : ℕ) (variables : List VariableDecl) (arguments : RightValues) → count ≤ length variables
    → FitParameters alike (types_of (take count variables)) arguments → HasAsMany count arguments
counted alike zero variables tree.no_values few fits = tt
counted alike zero variables (tree.more_values e rest) few fits = absurd fits
counted alike (suc count) [] arguments few fits = absurd (never few)
  where
    never : suc count ≤ 0 → ⊥
    never is = omega (arith, is)
counted alike (suc count) (variable ∷ variables) tree.no_values few fits = absurd fits
counted alike (suc count) (variable ∷ variables) (tree.more_values e rest) few fits = counted alike count variables rest (less few) fits.1
  where
    less : suc count ≤ suc (length variables) → count ≤ length variables
    less is = omega (arith, is)

counted_types : (alike : TypeId → TypeId → Type 0) (ids : List TypeId) (arguments : RightValues) → FitParameters alike ids arguments
    → HasAsMany (length ids) arguments
counted_types alike [] tree.no_values fits = tt
counted_types alike [] (tree.more_values e rest) fits = absurd fits
counted_types alike (id ∷ ids) tree.no_values fits = absurd fits
counted_types alike (id ∷ ids) (tree.more_values e rest) fits = counted_types alike ids rest fits.1

-- a fact of all functions, of one of them
of_place : (holds : TypedFunction → Type 0) (functions : List TypedFunction) (place : ℕ) (function : TypedFunction) → AllByRecursion holds functions
    → slice_get functions place ≡ Some function → holds function
of_place holds [] place function all_ is = absurd (never is)
  where
    never : None ≡ Some function → ⊥
    never so = cc
of_place holds (first ∷ rest) zero function all_ is = subst holds (same first function is) all_.0
  where
    same : (a b : TypedFunction) → Some a ≡ Some b → a ≡ b
    same a b so = cc
of_place holds (first ∷ rest) (suc place) function all_ is = of_place holds rest place function all_.1 is

module _ (typed : TypedProgram) (definitions : AllByRecursion (FitsDefinition typed.types) typed.functions) where
  -- a call of a function
  function_fits : (place : ℕ) (arguments : RightValues) (id : TypeId) (found : Option TypedFunction) → slice_get typed.functions place ≡ found
      → FitsCalled typed.same typed.types found arguments id → FitsCodeFunction (slice_get (program_code typed).functions place) arguments
  function_fits place arguments id None is fits = absurd fits
  function_fits place arguments id (Some function) is fits =
      subst (λ one. FitsCodeFunction one arguments) (sym (coded (setting_of typed) typed.functions place function is))
      (counted (AreOne typed.same typed.types) function.parameters function.variables arguments
      (of_place (FitsDefinition typed.types) typed.functions place function definitions is).0 fits.0)

  -- a call of a routine
  routine_fits : (found : Option BoundRoutine) (arguments : RightValues) (id : TypeId)
      → FitsPrototype typed.same typed.types (prototype_in found) arguments id → FitsCodeRoutine (routine_arguments found) arguments
  routine_fits None arguments id fits = absurd fits
  routine_fits (Some it) arguments id fits = by it.prototype fits
    where
      by : (prototype : Option Prototype) → FitsPrototype typed.same typed.types prototype arguments id
          → FitsCodeRoutine (arguments_of prototype) arguments
      by None so = absurd so
      by (Some prototype) so = counted_types (AreOne typed.same typed.types) prototype.parameters arguments so.0

  -- either
  call_fits : (node : Node) → FitsFunction typed node → FitsRoutine typed node → FitsCall (program_code typed) node
  call_fits (right (tree.call head place routine arguments)) is also =
      function_fits place arguments head.type_id (slice_get typed.functions place) refl is
  call_fits (right (tree.call_routine head place arguments)) is also =
      routine_fits (slice_get typed.routines place) arguments head.type_id also
  call_fits node is also = tt

  block_fits : (it : TypedBlock) → EachBlock (EachExpression (EachRight (FitsFunction typed))) it
      → EachBlock (EachExpression (EachRight (FitsRoutine typed))) it → FitsBlock (program_code typed) it
  block_fits it is also =
      block_both (EachExpression (EachRight (FitsFunction typed))) (EachExpression (EachRight (FitsRoutine typed)))
      (EachExpression (EachRight (FitsCall (program_code typed))))
      (λ phrase one other. expressions_both (EachRight (FitsFunction typed)) (EachRight (FitsRoutine typed)) (EachRight (FitsCall (program_code typed)))
      (λ e first second. right_both (FitsFunction typed) (FitsRoutine typed) (FitsCall (program_code typed)) call_fits e first second) phrase one other)
      it is also

-- each call of a typed program has as many arguments as there are parameters
pub calls_fit : (typed : TypedProgram) → Fits typed → FitsAll typed
calls_fit typed fits place its there =
    block_fits typed fits.functions its.body
    (of_place (λ function. EachBlock (EachExpression (EachRight (FitsFunction typed))) function.body) typed.functions place its fits.calls there)
    (of_place (λ function. EachBlock (EachExpression (EachRight (FitsRoutine typed))) function.body) typed.functions place its fits.routine_calls there)

-- and there is a `main`
pub record HasMain (typed : TypedProgram) : Type 0 where
  pub function : TypedFunction
  pub there : slice_get typed.functions typed.main ≡ Some function

pub main_is_there : (typed : TypedProgram) → Fits typed → HasMain typed
main_is_there typed fits = by (slice_get typed.functions typed.main) refl fits.main
  where
    by : (found : Option TypedFunction) → slice_get typed.functions typed.main ≡ found → IsMainOf typed.types found → HasMain typed
    by None is so = absurd so
    by (Some function) is so = record { function = function; there = is }
