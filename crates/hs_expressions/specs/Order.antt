-- The order of refusals, and parentheses.
--     OperandsAreFirst                 what an operand is refused for is what the expression is refused for, and the left one comes first
--     ParenthesesChangeNothing         an expression in parentheses is typed as the expression is, at its place
use Rattle.std.specs.Prelude.{◌≡◌, [], Ok, Err}
use Rattle.std.proofs.Common.{refl}
use Rattle.hs_expressions.specs.Expressions.{typed, typed_all, typed_lefts}
use Rattle.hs_expressions.specs.Operations.{value_of}
use Rattle.hs_typer.specs.declared.type_error.TypeError.{TypeError}
use Rattle.hs_typer.specs.declared.typer.Typer.{Typer}
use Rattle.hs_operand_types.specs.Operands.{TypedOperand}
use Rattle.hs_syntax.specs.Trees as syntax
use Rattle.hs_syntax.specs.Trees.{Expression, Expressions, Lefts}
use Rattle.hs_syntax.specs.declared.operators.AssignOperator.{AssignOperator}
use Rattle.hs_syntax.specs.declared.operators.BinaryOperator.{BinaryOperator}
use Rattle.hs_syntax.specs.declared.operators.PostfixOperator.{PostfixOperator}
use Rattle.hs_tokens.specs.declared.place.Place.{Place}
use Rattle.hs_tree.specs.Trees.{RightValue}

-- the same step, so the same in every larger expression
abbrev pub ParenthesesChangeNothing : Type 0
ParenthesesChangeNothing = (at : Place) (e : Expression) → typed (syntax.parens at e) ≡ typed e

-- the value of an expression is refused, and it is given
abbrev pub IsRefused : Expression → Typer → TypeError → Type 0
IsRefused e s why = value_of (typed e) s ≡ Err why

-- the value of an expression, and what is known then
abbrev pub IsGiven : Expression → Typer → RightValue → Typer → Type 0
IsGiven e s it new = value_of (typed e) s ≡ Ok (it, new)

-- for each form that has operands
pub record OperandsAreFirst : Type 0 where
  pub binary_left : (a b : Expression) (operator : BinaryOperator) (at : Place) (s : Typer) (why : TypeError) → IsRefused a s why
      → typed (syntax.binary a operator at b) s ≡ Err why
  pub binary_right : (a b : Expression) (operator : BinaryOperator) (at : Place) (s new : Typer) (it : RightValue) (why : TypeError)
      → IsGiven a s it new → IsRefused b new why → typed (syntax.binary a operator at b) s ≡ Err why
  pub index_base : (a b : Expression) (at : Place) (s : Typer) (why : TypeError) → IsRefused a s why → typed (syntax.index a at b) s ≡ Err why
  pub index_place : (a b : Expression) (at : Place) (s new : Typer) (it : RightValue) (why : TypeError) → IsGiven a s it new
      → IsRefused b new why → typed (syntax.index a at b) s ≡ Err why
  pub callee : (f : Expression) (arguments : Expressions) (s : Typer) (why : TypeError) → typed f s ≡ Err why
      → typed (syntax.call f arguments) s ≡ Err why
  pub arguments : (f : Expression) (arguments : Expressions) (s new : Typer) (it : TypedOperand) (why : TypeError) → typed f s ≡ Ok (it, new)
      → typed_all [] arguments new ≡ Err why → typed (syntax.call f arguments) s ≡ Err why
  pub postfix : (a : Expression) (operator : PostfixOperator) (at : Place) (s : Typer) (why : TypeError) → typed a s ≡ Err why
      → typed (syntax.postfix a operator at) s ≡ Err why
  pub test : (c a b : Expression) (at : Place) (s : Typer) (why : TypeError) → IsRefused c s why
      → typed (syntax.conditional c at a b) s ≡ Err why
  pub branch : (c a b : Expression) (at : Place) (s new : Typer) (it : RightValue) (why : TypeError) → IsGiven c s it new → IsRefused a new why
      → typed (syntax.conditional c at a b) s ≡ Err why
  pub other_branch : (c a b : Expression) (at : Place) (s second third : Typer) (it that : RightValue) (why : TypeError) → IsGiven c s it second
      → IsGiven a second that third → IsRefused b third why → typed (syntax.conditional c at a b) s ≡ Err why
  pub assigned_to : (a b : Expression) (operator : AssignOperator) (at : Place) (s : Typer) (why : TypeError) → typed a s ≡ Err why
      → typed (syntax.assign a operator at b) s ≡ Err why
  pub assigned : (a b : Expression) (operator : AssignOperator) (at : Place) (s new : Typer) (it : TypedOperand) (why : TypeError)
      → typed a s ≡ Ok (it, new) → IsRefused b new why → typed (syntax.assign a operator at b) s ≡ Err why
  pub lefts : (lefts : Lefts) (e : Expression) (s : Typer) (why : TypeError) → typed_lefts [] lefts s ≡ Err why
      → typed (syntax.comma lefts e) s ≡ Err why

-- by definition
pub parentheses_change_nothing : ParenthesesChangeNothing
parentheses_change_nothing at e = refl

-- each by the steps of its form
pub operands_are_first : OperandsAreFirst
operands_are_first =
    record {
      binary_left = λ a b operator at s why is. rw is refl;
      binary_right = λ a b operator at s new it why is other. rw (is, other) refl;
      index_base = λ a b at s why is. rw is refl;
      index_place = λ a b at s new it why is other. rw (is, other) refl;
      callee = λ f its s why is. rw is refl;
      arguments = λ f its s new it why is other. rw (is, other) refl;
      postfix = λ a operator at s why is. rw is refl;
      test = λ c a b at s why is. rw is refl;
      branch = λ c a b at s new it why is other. rw (is, other) refl;
      other_branch = λ c a b at s second third it that why is one other.
          rw (is, one, other) refl;
      assigned_to = λ a b operator at s why is. rw is refl;
      assigned = λ a b operator at s new it why is other. rw (is, other) refl;
      lefts = λ its e s why is. rw is refl;
    }
