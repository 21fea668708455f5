-- What an expression that is evaluated names is there, its calls fit, and its addresses are marked: by induction on the expression.
--     typed_keeps, typed_all_keeps, typed_lefts_keeps       a lemma for each step that makes expressions
--     typing_binds                                          the law
use Rattle.std.proofs.Common.{List, [], ◌∷◌, ◌++◌, Option, Some, None, subst}
use Rattle.std.specs.Prelude.{slice_get}
use Rattle.hs_base.specs.Entries.{all_so}
use Rattle.hs_expressions.specs.Binding.{IsBoundNode, IsList, IsSignature, IsDefined, BindsAs, BindsName, IsBoundOperand, TypingBinds}
use Rattle.hs_expressions.specs.Binding.Calls.{AreBound, call_operand_keeps}
use Rattle.hs_expressions.specs.Binding.Keeping.{Giving, Keeps, IsBound, IsBoundIn, plain_bound, gives_keeps, looks_keeps, of_types_keeps, then_keeps, so_keeps, nothing_keeps, either_keeps, value_keeps}
use Rattle.hs_expressions.specs.Binding.Operating.{value_given, object_given, binary_bound, member_bound, postfix_bound, assignment_bound, prefix_bound, size_bound, prefix_object_keeps, named_bound, number_of_bound, character_of_bound, string_keeps}
use Rattle.hs_expressions.specs.Expressions.{typed, typed_all, typed_lefts}
use Rattle.hs_expressions.specs.Laws.{Extends}
use Rattle.hs_expressions.specs.Laws.Always.{unevaluated_always}
use Rattle.hs_expressions.specs.Laws.Extending.{typed_always, type_named_always, typing_extends}
use Rattle.hs_expressions.specs.Operations.{as_value, as_object, binary_of, is_arrow, member_operand, takes_object, prefix_value, postfix_of, assignment_of}
use Rattle.hs_typer.specs.Primaries.{named, number_of, character_of}
use Rattle.hs_typer.specs.declared.typer.Entity.{Entity}
use Rattle.hs_typer.specs.declared.typer.Entity.TheVariants as entity
use Rattle.hs_operands.specs.Assignments.{cast_of, conditional_of, comma_of}
use Rattle.hs_operands.specs.Laws.Kept as keep
use Rattle.hs_operands.specs.Laws.Typed.{all_with_one}
use Rattle.hs_operands.specs.Objects.{element_of, arrow_of, size_number, size_of_operand}
use Rattle.hs_operand_types.specs.Operands as operand
use Rattle.hs_operand_types.specs.Operands.{TypedOperand}
use Rattle.hs_operand_types.specs.declared.operand.Bound.{Bound}
use Rattle.hs_operand_types.specs.declared.operand.Bound.TheVariants as bound
use Rattle.hs_syntax.specs.Positions.{last_comma, position_of}
use Rattle.hs_syntax.specs.Trees as syntax
use Rattle.hs_syntax.specs.Trees.{Expression, Expressions, Lefts}
use Rattle.hs_tree.specs.Trees.{RightValue, TypedFunction, TypedProgram}
use Rattle.hs_types.specs.Growing.{grows_self}
use Rattle.hs_types.specs.TypeTables.{TypeTable, Grows}
use Rattle.hs_types.specs.declared.row.ListId.{ListId}
use Rattle.hs_types.specs.declared.row.Parameters.TheVariants.{Empty, More}
use Rattle.hs_types.specs.declared.row.Row.TheVariants as row
use Rattle.hs_types.specs.declared.row.TypeId.{TypeId}

module _ (program : TypedProgram) (function : TypedFunction) (final : TypeTable) where
  mutual
    -- an expression
    pub typed_keeps : (e : Expression) → Keeps program function final (IsBoundIn program function final) (typed e)
    typed_keeps (syntax.name word) =
        looks_keeps (λ s. named s.names word) (λ s knows made given. named_bound program function final s word made knows given)
    typed_keeps (syntax.number word) =
        looks_keeps (λ s. number_of word) (λ s knows made given. number_of_bound program function final word made given)
    typed_keeps (syntax.character word) =
        looks_keeps (λ s. character_of word) (λ s knows made given. character_of_bound program function final word made given)
    typed_keeps (syntax.strings first others) = string_keeps program function final first others
    typed_keeps (syntax.parens at inner) = typed_keeps inner
    typed_keeps (syntax.index base at offset) =
        then_keeps (value_keeps (typed_keeps base))
        (λ a. then_keeps (value_keeps (typed_keeps offset))
        (λ b. of_types_keeps (λ types. as_object (element_of types at a b))
        (λ types grows made given is' is.
        object_given program function final (element_of types at a b) made
        (keep.element_kept (IsBoundNode program function) (plain_bound program function) types at a b is is') given)))
    typed_keeps (syntax.call callee arguments) =
        then_keeps (typed_keeps callee)
        (λ it. then_keeps (typed_all_keeps [] arguments)
        (λ its. so_keeps (λ made is are is'. is is' (are tt)) (call_operand_keeps program function final it its)))
    typed_keeps (syntax.member base access at word) =
        either_keeps (is_arrow access)
        (then_keeps (value_keeps (typed_keeps base))
        (λ e. of_types_keeps (λ types. as_object (arrow_of types at word.text e))
        (λ types grows made given is.
        object_given program function final (arrow_of types at word.text e) made
        (keep.arrow_kept (IsBoundNode program function) (plain_bound program function) types at word.text e is) given)))
        (then_keeps (typed_keeps base)
        (λ it. of_types_keeps (λ types. member_operand types at word.text it)
        (λ types grows made given is. member_bound program function final types at word.text it made is given)))
    typed_keeps (syntax.postfix base operator at) =
        then_keeps (typed_keeps base)
        (λ it. of_types_keeps (λ types. postfix_of operator types at it)
        (λ types grows made given is. postfix_bound program function final types operator at it made is given))
    typed_keeps (syntax.prefix operator at base) =
        either_keeps (takes_object operator)
        (then_keeps (typed_keeps base) (λ it. prefix_object_keeps program function final operator at it))
        (then_keeps (value_keeps (typed_keeps base))
        (λ e. of_types_keeps (λ types. prefix_value operator types at e)
        (λ types grows made given is. prefix_bound program function final types operator at e made is given)))
    typed_keeps (syntax.sizeof_value at base) =
        then_keeps (nothing_keeps (unevaluated_always (typed_always base)))
        (λ it. of_types_keeps (λ types. as_value (size_of_operand types at it))
        (λ types grows made given nothing.
        value_given program function final (size_of_operand types at it) made (size_bound program function final types at it) given))
    typed_keeps (syntax.sizeof_type at name) =
        then_keeps (nothing_keeps (unevaluated_always (type_named_always at name)))
        (λ id. of_types_keeps (λ types. as_value (size_number types at id))
        (λ types grows made given nothing.
        value_given program function final (size_number types at id) made
        (keep.size_kept (IsBoundNode program function) (plain_bound program function) types at id) given))
    typed_keeps (syntax.cast at name base) =
        then_keeps (nothing_keeps (type_named_always at name))
        (λ id. then_keeps (value_keeps (typed_keeps base))
        (λ e. of_types_keeps (λ types. as_value (cast_of types at id e))
        (λ types grows made given is nothing.
        value_given program function final (cast_of types at id e) made
        (keep.cast_kept (IsBoundNode program function) (plain_bound program function) types at id e is) given)))
    typed_keeps (syntax.binary first operator at second) =
        then_keeps (value_keeps (typed_keeps first))
        (λ a. then_keeps (value_keeps (typed_keeps second))
        (λ b. of_types_keeps (λ types. as_value (binary_of operator types at a b))
        (λ types grows made given is' is.
        value_given program function final (binary_of operator types at a b) made (binary_bound program function final types operator at a b is is') given)))
    typed_keeps (syntax.conditional test at taken otherwise) =
        then_keeps (value_keeps (typed_keeps test))
        (λ c. then_keeps (value_keeps (typed_keeps taken))
        (λ a. then_keeps (value_keeps (typed_keeps otherwise))
        (λ b. of_types_keeps (λ types. as_value (conditional_of types at c a b))
        (λ types grows made given is'' is' is.
        value_given program function final (conditional_of types at c a b) made
        (keep.conditional_kept (IsBoundNode program function) (plain_bound program function) types at c a b is is' is'') given))))
    typed_keeps (syntax.assign target operator at second) =
        then_keeps (typed_keeps target)
        (λ it. then_keeps (value_keeps (typed_keeps second))
        (λ e. of_types_keeps (λ types. assignment_of operator types at it e)
        (λ types grows made given is' is. assignment_bound program function final types operator at it e made is is' given)))
    typed_keeps (syntax.comma lefts last) =
        then_keeps (typed_lefts_keeps [] lefts)
        (λ its. then_keeps (value_keeps (typed_keeps last))
        (λ e. gives_keeps (operand.value (comma_of (last_comma (position_of last) lefts) its e))
        (λ is are. keep.comma_kept (IsBoundNode program function) (plain_bound program function) (last_comma (position_of last) lefts) its e (are tt) is)))

    -- expressions with commas between them, after those that are done
    typed_all_keeps : (done : List RightValue) (its : Expressions)
        → Keeps program function final (λ made. AreBound program function final done → AreBound program function final made) (typed_all done its)
    typed_all_keeps done syntax.no_expressions = gives_keeps done (λ are. are)
    typed_all_keeps done (syntax.more_expressions first rest) =
        then_keeps (value_keeps (typed_keeps first))
        (λ e. so_keeps (λ made is is' are. is (all_with_one (IsBound program function) done e are is')) (typed_all_keeps (done ++ e ∷ []) rest))

    typed_lefts_keeps : (done : List RightValue) (its : Lefts)
        → Keeps program function final (λ made. AreBound program function final done → AreBound program function final made) (typed_lefts done its)
    typed_lefts_keeps done syntax.no_lefts = gives_keeps done (λ are. are)
    typed_lefts_keeps done (syntax.more_lefts first at rest) =
        then_keeps (value_keeps (typed_keeps first))
        (λ e. so_keeps (λ made is is' are. is (all_with_one (IsBound program function) done e are is')) (typed_lefts_keeps (done ++ e ∷ []) rest))

-- what a name means, as the table grows
module _ (program : TypedProgram) (function : TypedFunction) (old new : TypeTable) (grows : Grows old new) where
  pub list_later : (list : ListId) (ids : List TypeId) → IsList old list ids → IsList new list ids
  list_later list [] is = grows.lists list.number Empty is
  list_later list (id ∷ ids) is = (is.0, grows.lists list.number (More id is.0) is.1, list_later is.0 ids is.2)

  pub signature_later : (id : TypeId) (parameters : List TypeId) (result : TypeId) → IsSignature old id parameters result
      → IsSignature new id parameters result
  signature_later id parameters result is = (is.0, grows.rows id.number (row.Function result is.0) is.1, list_later is.0 parameters is.2)

  defined_later : (id : TypeId) (o : Option TypedFunction) → IsDefined program old id o → IsDefined program new id o
  defined_later id None is = absurd is
  defined_later id (Some its) is = (is.0, (is.1.0, signature_later id is.0 is.1.0 is.1.1, is.1.2, is.1.3))

  binds_later : (id : TypeId) (its : Bound) → BindsAs program old id its → BindsAs program new id its
  binds_later id (bound.Function number) is = defined_later id (slice_get program.functions number) is
  binds_later id (bound.Routine number) is = is
  binds_later id bound.Nothing is = tt

  pub name_later : (it : Entity) → BindsName program function old it → BindsName program function new it
  name_later (entity.Constant bits) is = tt
  name_later (entity.Variable variable id) is = is
  name_later (entity.Function id its) is = binds_later id its is
  name_later (entity.Typedef id) is = tt

-- the operand, whatever a function is bound to
pub operand_bound : (program : TypedProgram) (function : TypedFunction) (final : TypeTable) (it : TypedOperand) → IsBoundIn program function final it
    → IsBoundOperand program function it
operand_bound program function final (operand.value e) is = is
operand_bound program function final (operand.object it) is = is
operand_bound program function final (operand.function it) is = tt

-- with the types that are known at the end
pub typing_binds : TypingBinds
typing_binds program function e s new it scoped counts binds given more noted =
    let extended : Extends s new = typing_extends e s new it scoped given in
    operand_bound program function new.types it
    (subst (Giving program function new.types s (IsBoundIn program function new.types)) given
    ((typed_keeps program function new.types e).gives s scoped counts
    (all_so (λ its. BindsName program function s.types its.entity) (λ its. BindsName program function new.types its.entity)
    (λ its is. name_later program function s.types new.types extended.types its.entity is) s.names.declarations binds))
    (record { types = grows_self new.types; literals = more; calls = noted.calls; taken = noted.taken }))
