-- What typing says of variables, strings, calls and addresses is so in the program: each is there, each call fits what it is bound to,
-- and what the address is taken of is marked.
--     Binds program function s        the names mean variables and functions of the program
--     AreNoted program function s new      the calls of routines and the addresses that are noted from s to new are the program's
--     TypingBinds                     the law
use Rattle.std.specs.Prelude.{◌≡◌, ◌<◌, ℕ, true, List, [], ◌∷◌, ◌++◌, length, slice_get, take, Option, Some, None, Ok, IsTrue, is_some}
use Rattle.std.specs.List.{AllByRecursion}
use Rattle.hs_expressions.specs.Expressions.{typed}
use Rattle.hs_expressions.specs.Laws.{IsScoped, IsPrefix}
use Rattle.hs_typer.specs.declared.typer.Entity.{Entity}
use Rattle.hs_typer.specs.declared.typer.Entity.TheVariants as entity
use Rattle.hs_typer.specs.declared.typer.RoutineCall.{RoutineCall}
use Rattle.hs_typer.specs.declared.typer.Taken.{Taken}
use Rattle.hs_typer.specs.declared.typer.Taken.TheVariants as taken
use Rattle.hs_typer.specs.declared.typer.Typer.{Typer}
use Rattle.hs_operand_types.specs.Operands as operand
use Rattle.hs_operand_types.specs.Operands.{TypedOperand}
use Rattle.hs_operand_types.specs.declared.operand.Bound.{Bound}
use Rattle.hs_operand_types.specs.declared.operand.Bound.TheVariants as bound
use Rattle.hs_syntax.specs.Trees.{Expression}
use Rattle.hs_tree.specs.Fitting.{declared, is_taken_variable, types_of, prototype_in, InRange, FitsFunction, FitsRoutine, IsFieldTaken, IsMarked}
use Rattle.hs_tree.specs.Kinds.{AreAlike}
use Rattle.hs_tree.specs.Inside.{Node, EachRight, EachLeft}
use Rattle.hs_tree.specs.Sameness.{AreOne}
use Rattle.hs_tree.specs.Trees.{TypedFunction, TypedProgram}
use Rattle.hs_tree.specs.declared.function.Prototype.{Prototype}
use Rattle.hs_types.specs.TypeTables.{TypeTable, row_of, Grows}
use Rattle.hs_types.specs.declared.row.ListId.{ListId}
use Rattle.hs_types.specs.declared.row.Parameters.{Parameters}
use Rattle.hs_types.specs.declared.row.Parameters.TheVariants.{Empty, More}
use Rattle.hs_types.specs.declared.row.Row.TheVariants as row
use Rattle.hs_types.specs.declared.row.TypeId.{TypeId}
pub mod Calls
pub mod Keeping
pub mod Operating
pub mod Typing

-- the four facts of an expression that a program keeps, beside those of types
abbrev pub IsBoundNode : TypedProgram → TypedFunction → Node → Type 0
IsBoundNode program function node =
    InRange program function node × FitsFunction program node × FitsRoutine program node × IsMarked program function node

abbrev pub IsBoundOperand : TypedProgram → TypedFunction → TypedOperand → Type 0
IsBoundOperand program function (operand.value e) = EachRight (IsBoundNode program function) e
IsBoundOperand program function (operand.object it) = EachLeft (IsBoundNode program function) it
IsBoundOperand program function (operand.function it) = Unit {0}

-- the list of parameter types of that number is this one
abbrev pub IsList : TypeTable → ListId → List TypeId → Type 0
IsList types list [] = slice_get types.lists list.number ≡ Some Empty
IsList types list (id ∷ ids) = (others : ListId) × (slice_get types.lists list.number ≡ Some (More id others)) × IsList types others ids

-- the type is that of a function with these parameters and that result
abbrev pub IsSignature : TypeTable → TypeId → List TypeId → TypeId → Type 0
IsSignature types id parameters result =
    (list : ListId) × (row_of types id ≡ Some (row.Function result list)) × IsList types list parameters

-- as many types, each `alike` to the other one
abbrev pub AllBy : (TypeId → TypeId → Type 0) → List TypeId → List TypeId → Type 0
AllBy alike [] [] = Unit {0}
AllBy alike [] (other ∷ others) = ⊥
AllBy alike (one ∷ ones) [] = ⊥
AllBy alike (one ∷ ones) (other ∷ others) = alike one other × AllBy alike ones others

-- of the same categories
abbrev pub AllAlike : TypeTable → List TypeId → List TypeId → Type 0
AllAlike types ones others = AllBy (AreAlike types) ones others

-- the type is that of a function with parameters and a result that are `alike` to these
abbrev pub IsLikeBy : (TypeId → TypeId → Type 0) → TypeTable → TypeId → List TypeId → TypeId → Type 0
IsLikeBy alike types id parameters result =
    (its : List TypeId) × ((gives : TypeId) × IsSignature types id its gives × AllBy alike its parameters × alike gives result)

-- of the same categories, by the types of the program
abbrev pub IsLike : TypeTable → TypeTable → TypeId → List TypeId → TypeId → Type 0
IsLike within types id parameters result = IsLikeBy (AreAlike within) types id parameters result

-- a defined function of a type that is one with that, in the program
abbrev pub IsDefined : TypedProgram → TypeTable → TypeId → Option TypedFunction → Type 0
IsDefined program types id None = ⊥
IsDefined program types id (Some its) =
    IsLikeBy (AreOne program.same program.types) types id (types_of (take its.parameters its.variables)) its.result

abbrev pub BindsAs : TypedProgram → TypeTable → TypeId → Bound → Type 0
BindsAs program types id (bound.Function number) = IsDefined program types id (slice_get program.functions number)
BindsAs program types id (bound.Routine number) = number < length program.routines
BindsAs program types id bound.Nothing = Unit {0}

-- the name means a variable of the program, or is bound to a function or a routine of it
abbrev pub BindsName : TypedProgram → TypedFunction → TypeTable → Entity → Type 0
BindsName program function types (entity.Constant bits) = Unit {0}
BindsName program function types (entity.Variable variable id) = IsTrue (is_some (declared program function variable))
BindsName program function types (entity.Function id its) = BindsAs program types id its
BindsName program function types (entity.Typedef id) = Unit {0}

abbrev pub Binds : TypedProgram → TypedFunction → Typer → Type 0
Binds program function s = AllByRecursion (λ it. BindsName program function s.types it.entity) s.names.declarations

-- the declaration of a routine that is called is one with the program's
abbrev pub IsPrototype : (TypeId → TypeId → Type 0) → TypeTable → TypeId → Option Prototype → Type 0
IsPrototype alike types id None = ⊥
IsPrototype alike types id (Some its) = IsLikeBy alike types id its.parameters its.result

abbrev pub IsNotedCall : TypedProgram → TypeTable → RoutineCall → Type 0
IsNotedCall program types call = IsPrototype (AreOne program.same program.types) types call.type_id (prototype_in (slice_get program.routines call.routine))

-- what the address is taken of is marked, if it is there
abbrev pub IsNotedAddress : TypedProgram → TypedFunction → Taken → Type 0
IsNotedAddress program function (taken.Variable variable) =
    IsTrue (is_some (declared program function variable)) → IsTrue (is_taken_variable (declared program function variable))
IsNotedAddress program function (taken.Field field) = IsFieldTaken program field

-- What was noted before it may be of another function.
pub record AreNoted (program : TypedProgram) (function : TypedFunction) (s new : Typer) : Type 0 where
  pub calls : (more : List RoutineCall) → new.calls ≡ s.calls ++ more → AllByRecursion (IsNotedCall program new.types) more
  pub taken : (more : List Taken) → new.taken ≡ s.taken ++ more → AllByRecursion (IsNotedAddress program function) more

-- The facts of an expression that is evaluated: what it names is there, its calls fit, and its addresses are marked.
abbrev pub TypingBinds : Type 0
TypingBinds = (program : TypedProgram) (function : TypedFunction) (e : Expression) (s new : Typer) (it : TypedOperand) → IsScoped s
    → s.counts ≡ true → Binds program function s → typed e s ≡ Ok (it, new) → IsPrefix new.literals program.literals
    → AreNoted program function s new → IsBoundOperand program function it
