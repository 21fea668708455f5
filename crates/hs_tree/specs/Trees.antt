-- Typed programs, as contracts see them: without memory. `Views.antt` says which of them a tree of the code is. Meaning, lowering and
-- the analysis are defined on these trees.
--     RightValue, LeftValue         expressions that give a value, and those that designate an object (X3.159-1989 3.2.2.1)
--     TypedStatement, TypedBlock    statements
--     TypedFunction, TypedProgram
--     head_of, head_of_left         the position and the type of an expression
use Rattle.std.specs.Prelude.{ℕ, Bool, List, Option}
use Rattle.hs_tokens.specs.declared.place.Place.{Place}
use Rattle.hs_tree.specs.declared.constant.Part.{Part}
use Rattle.hs_tree.specs.declared.function.BoundRoutine.{BoundRoutine}
use Rattle.hs_tree.specs.declared.globals.Global.{Global}
use Rattle.hs_tree.specs.declared.head.Head.{Head}
use Rattle.hs_tree.specs.declared.head.Variable.{Variable}
use Rattle.hs_tree.specs.declared.head.VariableDecl.{VariableDecl}
use Rattle.hs_tree.specs.declared.operators.Arithmetic.{Arithmetic}
use Rattle.hs_tree.specs.declared.operators.Comparison.{Comparison}
use Rattle.hs_tree.specs.declared.operators.Stride.{Stride}
use Rattle.hs_tree.specs.declared.operators.Unary.{Unary}
use Rattle.hs_tree.specs.declared.representatives.Representatives.{Representatives}
use Rattle.hs_tree.specs.declared.statement.Label.{Label}
use Rattle.hs_types.specs.TypeTables.{TypeTable}
use Rattle.hs_types.specs.declared.integer.Integer.{Integer}
use Rattle.hs_types.specs.declared.row.FieldId.{FieldId}
use Rattle.hs_types.specs.declared.row.TypeId.{TypeId}

mutual
  -- expressions that give a value (3.3)
  pub data RightValue : Type 0 where
    number : Head → ℕ → RightValue
    nil : Head → RightValue
    load : Head → LeftValue → RightValue
    decay : Head → LeftValue → RightValue
    address : Head → LeftValue → RightValue
    cast : Head → RightValue → RightValue
    convert_number : Head → Integer → RightValue → RightValue
    convert_pointer : Head → RightValue → RightValue
    unary : Head → Unary → Integer → RightValue → RightValue
    not : Head → RightValue → RightValue
    arithmetic : Head → Arithmetic → Integer → RightValue → RightValue → RightValue
    comparison : Head → Comparison → Integer → RightValue → RightValue → RightValue
    compare_pointers : Head → Comparison → RightValue → RightValue → RightValue
    is_nil : Head → Bool → RightValue → RightValue
    step : Head → Stride → Bool → RightValue → RightValue → RightValue
    difference : Head → ℕ → RightValue → RightValue → RightValue
    and : Head → RightValue → RightValue → RightValue
    or : Head → RightValue → RightValue → RightValue
    conditional : Head → RightValue → RightValue → RightValue → RightValue
    comma : Head → RightValues → RightValue → RightValue
    assign : Head → LeftValue → RightValue → RightValue
    update : Head → Arithmetic → Integer → Integer → LeftValue → RightValue → RightValue
    advance : Head → Stride → LeftValue → RightValue → RightValue
    post_update : Head → Arithmetic → Integer → Integer → LeftValue → RightValue
    post_advance : Head → Stride → LeftValue → RightValue
    call : Head → ℕ → Option ℕ → RightValues → RightValue
    call_routine : Head → ℕ → RightValues → RightValue

  -- expressions that designate an object
  pub data LeftValue : Type 0 where
    variable : Head → Variable → LeftValue
    literal : Head → ℕ → LeftValue
    target : Head → RightValue → LeftValue
    element : Head → ℕ → Bool → RightValue → RightValue → LeftValue
    member : Head → FieldId → ℕ → LeftValue → LeftValue
    arrow : Head → FieldId → ℕ → RightValue → LeftValue

  pub data RightValues : Type 0 where
    no_values : RightValues
    more_values : RightValue → RightValues → RightValues

-- what an automatic variable starts with (3.5.7)
pub data Starting : Type 0 where
  value : RightValue → Starting
  parts : List Part → Starting

-- a variable that is given its first value, by its place among the locals
pub record TypedItem : Type 0 where
  pub variable : ℕ
  pub at : Place
  pub start : Starting

pub record TypedDeclaration : Type 0 where
  pub at : Place
  pub items : List TypedItem

mutual
  -- statements (3.6)
  pub data TypedStatement : Type 0 where
    block : TypedBlock → TypedStatement
    expression : Place → RightValue → TypedStatement
    empty : Place → TypedStatement
    if_ : Place → RightValue → TypedStatement → TypedStatement
    if_else : Place → RightValue → TypedStatement → TypedStatement → TypedStatement
    while_ : Place → RightValue → TypedStatement → TypedStatement
    do_ : Place → TypedStatement → RightValue → TypedStatement
    for_ : Place → Option RightValue → Option RightValue → Option RightValue → TypedStatement → TypedStatement
    switch_ : Place → RightValue → TypedBlock → TypedStatement
    break_ : Place → TypedStatement
    continue_ : Place → TypedStatement
    return_ : Place → Option RightValue → TypedStatement

  -- compound statements (3.6.2), with the places of their braces
  pub data TypedBlock : Type 0 where
    compound : Place → List TypedDeclaration → TypedStatements → Place → TypedBlock

  pub data TypedStatements : Type 0 where
    no_statements : TypedStatements
    more_statements : List Label → TypedStatement → TypedStatements → TypedStatements

pub record TypedFunction : Type 0 where
  pub name : List ℕ
  pub at : Place
  pub result : TypeId
  pub parameters : ℕ
  pub variables : List VariableDecl
  pub body : TypedBlock

pub record TypedProgram : Type 0 where
  pub types : TypeTable
  pub globals : List Global
  pub literals : List (List ℕ)
  pub functions : List TypedFunction
  pub routines : List BoundRoutine
  pub same : Representatives
  pub taken : List FieldId
  pub main : ℕ

abbrev pub head_of : RightValue → Head
head_of (number head bits) = head
head_of (nil head) = head
head_of (load head object) = head
head_of (decay head array) = head
head_of (address head object) = head
head_of (cast head operand) = head
head_of (convert_number head kind operand) = head
head_of (convert_pointer head operand) = head
head_of (unary head operator kind operand) = head
head_of (not head operand) = head
head_of (arithmetic head operator kind left right) = head
head_of (comparison head operator kind left right) = head
head_of (compare_pointers head operator left right) = head
head_of (is_nil head equal pointer) = head
head_of (step head stride pointer_first left right) = head
head_of (difference head size left right) = head
head_of (and head left right) = head
head_of (or head left right) = head
head_of (conditional head test then otherwise) = head
head_of (comma head lefts right) = head
head_of (assign head into from) = head
head_of (update head operator kind to into from) = head
head_of (advance head stride into from) = head
head_of (post_update head operator kind to into) = head
head_of (post_advance head stride into) = head
head_of (call head function routine arguments) = head
head_of (call_routine head routine arguments) = head

abbrev pub head_of_left : LeftValue → Head
head_of_left (variable head name) = head
head_of_left (literal head place) = head
head_of_left (target head pointer) = head
head_of_left (element head size pointer_first left right) = head
head_of_left (member head field offset object) = head
head_of_left (arrow head field offset pointer) = head

-- the type of an expression
abbrev pub type_of : RightValue → TypeId
type_of e = (head_of e).type_id

abbrev pub type_of_left : LeftValue → TypeId
type_of_left e = (head_of_left e).type_id
