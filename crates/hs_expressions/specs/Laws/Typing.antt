-- What an expression that is evaluated is typed as is well typed: by induction on the expression.
--     typed_keeps, typed_all_keeps, typed_lefts_keeps       a lemma for each step that makes expressions
--     typing_is_right                                       the law
use Rattle.std.proofs.Common.{List, [], ◌∷◌, ◌++◌, subst}
use Rattle.std.specs.List.{AllByRecursion}
use Rattle.hs_expressions.specs.Expressions.{typed, typed_all, typed_lefts}
use Rattle.hs_expressions.specs.Laws.{TypingIsRight}
use Rattle.hs_expressions.specs.Laws.Always.{unevaluated_always}
use Rattle.hs_expressions.specs.Laws.Applied.{prefix_object_keeps, call_operand_keeps}
use Rattle.hs_expressions.specs.Laws.Extending.{typed_always, type_named_always}
use Rattle.hs_expressions.specs.Laws.Keeping.{Giving, Keeps, gives_keeps, looks_keeps, of_types_keeps, then_keeps, so_keeps, nothing_keeps, either_keeps, value_keeps}
use Rattle.hs_expressions.specs.Laws.Operating.{value_given, object_given, operators, binary_typed, member_typed, postfix_typed, assignment_typed, prefix_typed, size_typed}
use Rattle.hs_expressions.specs.Laws.Primary.{named_typed, number_of_typed, character_of_typed, string_keeps}
use Rattle.hs_expressions.specs.Operations.{as_value, as_object, binary_of, is_arrow, member_operand, takes_object, prefix_value, postfix_of, assignment_of}
use Rattle.hs_typer.specs.Primaries.{named, number_of, character_of}
use Rattle.hs_operands.specs.Assignments.{cast_of, conditional_of, comma_of}
use Rattle.hs_operands.specs.Laws.{IsTyped, IsTypedOperand}
use Rattle.hs_operands.specs.Laws.Typed.{all_with_one}
use Rattle.hs_operands.specs.Laws.BranchesTyped.{comma-typed}
use Rattle.hs_operands.specs.Objects.{element_of, arrow_of, size_number, size_of_operand}
use Rattle.hs_operand_types.specs.Operands as operand
use Rattle.hs_operand_types.specs.Operands.{TypedOperand}
use Rattle.hs_syntax.specs.Positions.{last_comma, position_of}
use Rattle.hs_syntax.specs.Trees as syntax
use Rattle.hs_syntax.specs.Trees.{Expression, Expressions, Lefts}
use Rattle.hs_tree.specs.Trees.{RightValue, TypedFunction, TypedProgram}
use Rattle.hs_types.specs.TypeTables.{IsRight}

module _ (program : TypedProgram) (function : TypedFunction) (sound : IsRight program.types) where
  -- each of them is well typed
  abbrev AreValues : List RightValue → Type 0
  AreValues its = AllByRecursion (IsTyped program function) its

  mutual
    -- an expression
    pub typed_keeps : (e : Expression) → Keeps program function (IsTypedOperand program function) (typed e)
    typed_keeps (syntax.name word) =
        looks_keeps (λ s. named s.names word) (λ s knows made given. named_typed program function sound s word made knows given)
    typed_keeps (syntax.number word) =
        looks_keeps (λ s. number_of word) (λ s knows made given. number_of_typed program function sound word made given)
    typed_keeps (syntax.character word) =
        looks_keeps (λ s. character_of word) (λ s knows made given. character_of_typed program function sound word made given)
    typed_keeps (syntax.strings first others) = string_keeps program function sound first others
    typed_keeps (syntax.parens at inner) = typed_keeps inner
    typed_keeps (syntax.index base at offset) =
        then_keeps (value_keeps sound (typed_keeps base))
        (λ a. then_keeps (value_keeps sound (typed_keeps offset))
        (λ b. of_types_keeps (λ types. as_object (element_of types at a b))
        (λ types grows made given is' is.
        object_given program function (element_of types at a b) made ((operators program function sound types grows).element at a b is is') given)))
    typed_keeps (syntax.call callee arguments) =
        then_keeps (typed_keeps callee)
        (λ it. then_keeps (typed_all_keeps [] arguments)
        (λ its. so_keeps (λ made is are is'. is (are tt)) (call_operand_keeps program function sound it its)))
    typed_keeps (syntax.member base access at word) =
        either_keeps (is_arrow access)
        (then_keeps (value_keeps sound (typed_keeps base))
        (λ e. of_types_keeps (λ types. as_object (arrow_of types at word.text e))
        (λ types grows made given is.
        object_given program function (arrow_of types at word.text e) made ((operators program function sound types grows).arrow at word.text e is) given)))
        (then_keeps (typed_keeps base)
        (λ it. of_types_keeps (λ types. member_operand types at word.text it)
        (λ types grows made given is. member_typed program function sound types grows at word.text it made is given)))
    typed_keeps (syntax.postfix base operator at) =
        then_keeps (typed_keeps base)
        (λ it. of_types_keeps (λ types. postfix_of operator types at it)
        (λ types grows made given is. postfix_typed program function sound types grows operator at it made is given))
    typed_keeps (syntax.prefix operator at base) =
        either_keeps (takes_object operator)
        (then_keeps (typed_keeps base) (λ it. prefix_object_keeps program function sound operator at it))
        (then_keeps (value_keeps sound (typed_keeps base))
        (λ e. of_types_keeps (λ types. prefix_value operator types at e)
        (λ types grows made given is. prefix_typed program function sound types grows operator at e made is given)))
    typed_keeps (syntax.sizeof_value at base) =
        then_keeps (nothing_keeps (unevaluated_always (typed_always base)))
        (λ it. of_types_keeps (λ types. as_value (size_of_operand types at it))
        (λ types grows made given nothing.
        value_given program function (size_of_operand types at it) made (size_typed program function sound types grows at it) given))
    typed_keeps (syntax.sizeof_type at name) =
        then_keeps (nothing_keeps (unevaluated_always (type_named_always at name)))
        (λ id. of_types_keeps (λ types. as_value (size_number types at id))
        (λ types grows made given nothing.
        value_given program function (size_number types at id) made ((operators program function sound types grows).size at id) given))
    typed_keeps (syntax.cast at name base) =
        then_keeps (nothing_keeps (type_named_always at name))
        (λ id. then_keeps (value_keeps sound (typed_keeps base))
        (λ e. of_types_keeps (λ types. as_value (cast_of types at id e))
        (λ types grows made given is nothing.
        value_given program function (cast_of types at id e) made ((operators program function sound types grows).cast at id e is) given)))
    typed_keeps (syntax.binary first operator at second) =
        then_keeps (value_keeps sound (typed_keeps first))
        (λ a. then_keeps (value_keeps sound (typed_keeps second))
        (λ b. of_types_keeps (λ types. as_value (binary_of operator types at a b))
        (λ types grows made given is' is.
        value_given program function (binary_of operator types at a b) made (binary_typed program function sound types grows operator at a b is is') given)))
    typed_keeps (syntax.conditional test at taken otherwise) =
        then_keeps (value_keeps sound (typed_keeps test))
        (λ c. then_keeps (value_keeps sound (typed_keeps taken))
        (λ a. then_keeps (value_keeps sound (typed_keeps otherwise))
        (λ b. of_types_keeps (λ types. as_value (conditional_of types at c a b))
        (λ types grows made given is'' is' is.
        value_given program function (conditional_of types at c a b) made
        ((operators program function sound types grows).conditional at c a b is is' is'') given))))
    typed_keeps (syntax.assign target operator at second) =
        then_keeps (typed_keeps target)
        (λ it. then_keeps (value_keeps sound (typed_keeps second))
        (λ e. of_types_keeps (λ types. assignment_of operator types at it e)
        (λ types grows made given is' is. assignment_typed program function sound types grows operator at it e made is is' given)))
    typed_keeps (syntax.comma lefts last) =
        then_keeps (typed_lefts_keeps [] lefts)
        (λ its. then_keeps (value_keeps sound (typed_keeps last))
        (λ e. gives_keeps (operand.value (comma_of (last_comma (position_of last) lefts) its e))
        (λ is are. comma-typed program function (last_comma (position_of last) lefts) its e (are tt) is)))

    -- expressions with commas between them, after those that are done
    typed_all_keeps : (done : List RightValue) (its : Expressions)
        → Keeps program function (λ made. AreValues done → AreValues made) (typed_all done its)
    typed_all_keeps done syntax.no_expressions = gives_keeps done (λ are. are)
    typed_all_keeps done (syntax.more_expressions first rest) =
        then_keeps (value_keeps sound (typed_keeps first))
        (λ e. so_keeps (λ made is is' are. is (all_with_one (IsTyped program function) done e are is')) (typed_all_keeps (done ++ e ∷ []) rest))

    typed_lefts_keeps : (done : List RightValue) (its : Lefts)
        → Keeps program function (λ made. AreValues done → AreValues made) (typed_lefts done its)
    typed_lefts_keeps done syntax.no_lefts = gives_keeps done (λ are. are)
    typed_lefts_keeps done (syntax.more_lefts first at rest) =
        then_keeps (value_keeps sound (typed_keeps first))
        (λ e. so_keeps (λ made is is' are. is (all_with_one (IsTyped program function) done e are is')) (typed_lefts_keeps (done ++ e ∷ []) rest))

-- where the law's program stands for the whole one
pub typing_is_right : TypingIsRight
typing_is_right program function e s new it scoped counts knows given sound grows more =
    subst (Giving program (IsTypedOperand program function)) given
    ((typed_keeps program function sound e).gives s scoped counts knows) grows more
