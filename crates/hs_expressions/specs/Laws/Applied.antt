-- Addresses and calls are well typed.
use Rattle.std.proofs.Common.{◌≡◌, ℕ, Bool, true, false, List, ◌++◌, [], ◌∷◌, Result, Ok, Err, refl, ap, subst, if◌then◌else◌}
use Rattle.std.specs.List.{AllByRecursion}
use Rattle.hs_expressions.specs.Laws.Always.{refuses_always}
use Rattle.hs_expressions.specs.Laws.Keeping.{Giving, Keeps, of_types_keeps, then_keeps, so_keeps}
use Rattle.hs_expressions.specs.Laws.Leaves.{addressed_always, call_with_always}
use Rattle.hs_expressions.specs.Laws.Operating.{operators, stepped_typed}
use Rattle.hs_expressions.specs.Operations.{addressed, prefix_object, stepped, bound_call, call_with, call_operand}
use Rattle.hs_expressions.specs.Roles.{fits_role}
use Rattle.hs_typer.specs.Steps.{lifted}
use Rattle.hs_typer.specs.declared.type_error.TypeError.{TypeError}
use Rattle.hs_typer.specs.declared.type_error.TypeError.TheVariants.{Untyped, Clash}
use Rattle.hs_typer.specs.declared.typer.Typer.{Typer}
use Rattle.hs_operands.specs.Assignments.{called}
use Rattle.hs_operands.specs.Calls.{call_of, call_routine_of}
use Rattle.hs_operands.specs.Laws.{IsTyped, IsTypedOperand}
use Rattle.hs_operands.specs.Laws.BranchesTyped.{each_of}
use Rattle.hs_operands.specs.Laws.Typed.{AreArguments, arguments_typed, arguments_readable, called-typed}
use Rattle.hs_operands.specs.Objects.{address_of}
use Rattle.hs_operand_types.specs.Operands as operand
use Rattle.hs_operand_types.specs.Operands.{TypedOperand, head_of_operand}
use Rattle.hs_operand_types.specs.declared.operand.Bound.{Bound}
use Rattle.hs_operand_types.specs.declared.operand.Bound.TheVariants as bound
use Rattle.hs_operand_types.specs.declared.operand.Designator.{Designator}
use Rattle.hs_operand_types.specs.declared.operand_end.OperandEnd.{OperandEnd}
use Rattle.hs_syntax.specs.declared.operators.PrefixOperator.{PrefixOperator}
use Rattle.hs_syntax.specs.declared.operators.PrefixOperator.TheVariants as prefix
use Rattle.hs_tokens.specs.declared.place.Place.{Place}
use Rattle.hs_tree.specs.Trees.{RightValue, TypedFunction, TypedProgram, type_of_left}
use Rattle.hs_tree.specs.declared.operators.Arithmetic.TheVariants as arithmetic
use Rattle.hs_types.specs.Growing.{grows_then}
use Rattle.hs_types.specs.TypeTables.{TypeTable, with_row, IsRight, Grows}
use Rattle.hs_types.specs.declared.row.Row.TheVariants as row
use Rattle.hs_types.specs.declared.row.TypeId.{TypeId}
use Rattle.hs_types.specs.TableLaws.{grows_row}

-- the arguments of an answer
abbrev arguments_in : Result (TypeId × List RightValue) TypeError → List RightValue
arguments_in (Ok its) = its.1
arguments_in (Err why) = []

module _ (program : TypedProgram) (function : TypedFunction) (sound : IsRight program.types) where
  -- an address
  addressed_gives : (at : Place) (it : TypedOperand) (s : Typer)
      → Giving program (λ made. IsTypedOperand program function it → IsTypedOperand program function made) (addressed at it s)
  addressed_gives at (operand.value e) s = tt
  addressed_gives at (operand.object it) s =
      λ grows more is.
      (operators program function sound s.types
      (grows_then s.types (with_row (row.Pointer (type_of_left it)) s.types) program.types (grows_row (row.Pointer (type_of_left it)) s.types)
      grows)).address
      at it (address_of s.types at it).0 (address_of s.types at it).1 is refl grows
  addressed_gives at (operand.function it) s = tt

  addressed_keeps : (at : Place) (it : TypedOperand)
      → Keeps program function (λ made. IsTypedOperand program function it → IsTypedOperand program function made) (addressed at it)
  addressed_keeps at it = record { always = addressed_always at it; gives = λ s scoped counts knows. addressed_gives at it s }

  -- an operator in front of an object
  pub prefix_object_keeps : (op : PrefixOperator) (at : Place) (it : TypedOperand)
      → Keeps program function (λ made. IsTypedOperand program function it → IsTypedOperand program function made) (prefix_object op at it)
  prefix_object_keeps prefix.Increment at it =
      of_types_keeps (λ types. stepped types at arithmetic.Add it)
      (λ types grows made given is. stepped_typed program function sound types grows at arithmetic.Add it made is given)
  prefix_object_keeps prefix.Decrement at it =
      of_types_keeps (λ types. stepped types at arithmetic.Subtract it)
      (λ types grows made given is. stepped_typed program function sound types grows at arithmetic.Subtract it made is given)
  prefix_object_keeps prefix.Address at it = addressed_keeps at it
  prefix_object_keeps prefix.Dereference at it = addressed_keeps at it
  prefix_object_keeps prefix.Plus at it = addressed_keeps at it
  prefix_object_keeps prefix.Minus at it = addressed_keeps at it
  prefix_object_keeps prefix.Complement at it = addressed_keeps at it
  prefix_object_keeps prefix.Not at it = addressed_keeps at it

  -- the arguments are well typed
  abbrev AreTyped : List RightValue → Type 0
  AreTyped its = AllByRecursion (IsTyped program function) its

  -- so the call is
  abbrev IsCall : List RightValue → TypedOperand → Type 0
  IsCall arguments made = AreTyped arguments → IsTypedOperand program function made

  -- and with arguments that can be read
  abbrev IsCalled : List RightValue → TypedOperand → Type 0
  IsCalled arguments made = AreArguments program function arguments → IsTypedOperand program function made

  routine_gives : (b : Bool) (it : Designator) (number : ℕ) (p : TypeId × List RightValue) (s : Typer)
      → Giving program (IsCalled p.1) (
      if b
      then Ok (
        operand.value (call_routine_of it.head.at number p),
        record s { calls = s.calls ++ record { routine = number; type_id = it.head.type_id } ∷ [] },
      )
      else Err (Clash it.head.at it.name)
      )
  routine_gives true it number p s =
      λ grows more are. ((arguments_readable program function p.1 are, tt, tt), each_of program function p.1 (arguments_typed program function p.1 are))
  routine_gives false it number p s = tt

  bound_gives : (its : Bound) (it : Designator) (p : TypeId × List RightValue) (s : Typer) → Giving program (IsCalled p.1) (bound_call its it p s)
  bound_gives (bound.Function number) it p s =
      λ grows more are. ((arguments_readable program function p.1 are, tt, tt), each_of program function p.1 (arguments_typed program function p.1 are))
  bound_gives (bound.Routine number) it p s = routine_gives (fits_role s.types s.table number it.head.type_id) it number p s
  bound_gives bound.Nothing it p s = tt

  -- What is called counts.
  counted_gives : (b : Bool) (holds : TypedOperand → Type 0) (here there : Result (TypedOperand × Typer) TypeError) → b ≡ true
      → Giving program holds here → Giving program holds (if b then here else there)
  counted_gives true holds here there counts is = is
  counted_gives false holds here there counts is = absurd cc

  call_with_keeps : (it : Designator) (p : TypeId × List RightValue) → Keeps program function (IsCalled p.1) (call_with it p)
  call_with_keeps it p =
      record {
        always = call_with_always it p;
        gives = λ s scoped counts knows. counted_gives s.counts (IsCalled p.1) (bound_call it.bound it p s)
            (Ok (operand.value (call_of it.head.at 0 p), s)) counts (bound_gives it.bound it p s);
      }

  -- what is called, with its arguments
  called_given : (types : TypeTable) (grows : Grows types program.types) (at : Place) (id : TypeId) (arguments : List RightValue)
      (given : Result (TypeId × List RightValue) OperandEnd) → called types at id arguments ≡ given → (p : TypeId × List RightValue)
      → lifted given ≡ Ok p → AreTyped arguments → AreArguments program function p.1
  called_given types grows at id arguments (Ok q) same p given are =
      subst (AreArguments program function) (ap arguments_in given) (called-typed program function types sound grows at id arguments are q same)
  called_given types grows at id arguments (Err why) same p given are = absurd cc

  pub call_operand_keeps : (it : TypedOperand) (arguments : List RightValue) → Keeps program function (IsCall arguments) (call_operand it arguments)
  call_operand_keeps (operand.value e) arguments =
      record { always = refuses_always (Untyped (head_of_operand (operand.value e)).at); gives = λ s scoped counts knows. tt }
  call_operand_keeps (operand.object it) arguments =
      record { always = refuses_always (Untyped (head_of_operand (operand.object it)).at); gives = λ s scoped counts knows. tt }
  call_operand_keeps (operand.function it) arguments =
      then_keeps
      (of_types_keeps {holds = λ its. AreTyped arguments → AreArguments program function its.1}
      (λ types. lifted (called types it.head.at it.head.type_id arguments))
      (λ types grows p given are.
      called_given types grows it.head.at it.head.type_id arguments (called types it.head.at it.head.type_id arguments) refl p given are))
      (λ its. so_keeps (λ made is converted are. is (converted are)) (call_with_keeps it its))
