-- Statements move on what is known of a program: scopes that begin in them end, and the variables that they make stay.
--     scoped_moved                    a step in a scope of its own
--     body_moved                      the body of a function
use Rattle.std.proofs.Common.{suc, true, not, List, [], ◌∷◌, ◌++◌, nat_eq, Option, Some, None, Result, Ok, Err, refl, sym, ap, subst, ◌∙◌}
use Rattle.std.specs.List.{list_any}
use Rattle.indexmap.specs.IndexSet.{insert_key}
use Rattle.hs_declarations.specs.Declarations.{block_declared}
use Rattle.hs_expressions.specs.Expressions.{typed, enter, leave, first_place}
use Rattle.hs_expressions.specs.Operations.{value_of}
use Rattle.hs_expressions.specs.Laws.{IsConstant, IsTagAt, IsScoped, AreOutside}
use Rattle.hs_expressions.specs.Laws.Always.{Anything, deeper, value_always, of_types_always, same_more}
use Rattle.hs_expressions.specs.Laws.Extending.{typed_always}
use Rattle.hs_expressions.specs.Laws.Reached.{IsAllowedAt, Reaches, left_entered}
use Rattle.hs_expressions.specs.Laws.Traced.{traced_left}
use Rattle.hs_fitting.specs.Blocks.{block_declared_moved}
use Rattle.hs_fitting.specs.Moving.{Moving, Moved, passes_moved, stops_moved, knowing_moved, unless_moved, then_moved, typing_moved}
use Rattle.hs_linkage.specs.Works.{Work, knowing, unless}
use Rattle.hs_linkage.specs.declared.translator.Translator.{Translator}
use Rattle.hs_names.specs.Scopes.{left}
use Rattle.hs_operands.specs.Assignments.{assigned}
use Rattle.hs_operand_types.specs.Constants.{constant_value}
use Rattle.hs_operand_types.specs.Conversions.{truth}
use Rattle.hs_branches.specs.Branches.{valued, valued_if, condition, condition_if, switched_by, switched, case_bits, case_label, default_label, labelled, all_labelled, no_cases, cases_of, returned_as, returned}
use Rattle.hs_statements.specs.Statements.{with_declaration, declared_all, looping, switching, entered, ended, scoped, switch_cases, stated, block_inside, all_stated, in_function, body_of}
use Rattle.hs_syntax.specs.Positions.{first_of}
use Rattle.hs_syntax.specs.Trees as syntax
use Rattle.hs_syntax.specs.Trees.{Expression, Declaration, Labelling, Statement, Compound, Statements}
use Rattle.hs_tokens.specs.declared.place.Place.{Place}
use Rattle.hs_tree.specs.Kinds.{number_kind}
use Rattle.hs_tree.specs.RowLaws.{OneStatement, one_statement, statements_from}
use Rattle.hs_tree.specs.Trees as tree
use Rattle.hs_tree.specs.Trees.{RightValue, TypedDeclaration, type_of}
use Rattle.hs_tree.specs.declared.statement.Label.{Label}
use Rattle.hs_tree.specs.declared.statement.Label.TheVariants as label
use Rattle.hs_typer.specs.Steps.{lifted, of_types}
use Rattle.hs_typer.specs.declared.type_error.TypeError.{TypeError}
use Rattle.hs_typer.specs.declared.type_error.TypeError.TheVariants.{Untyped}
use Rattle.hs_typer.specs.declared.typer.Typer.{Typer}
use Rattle.hs_types.specs.declared.integer.Integer.{Integer}
use Rattle.hs_types.specs.declared.row.TypeId.{TypeId}

-- ---- scopes

pub entered_scoped : (s : Typer) → IsScoped s → IsScoped (enter s)
entered_scoped s scoped =
    record {
      names = deeper s.names.level s.names.declarations scoped.names;
      tags = deeper s.tags.level s.tags.declarations scoped.tags;
      closed = scoped.closed;
    }

pub left_reaches : (s new : Typer) → IsScoped s → Reaches Anything (enter s) new → Reaches Anything s (leave new)
left_reaches s new scoped reached =
    record {
      types = reached.types;
      names = same_more (IsAllowedAt Anything s.names.level) s.names (left new.names)
          (left_entered (IsAllowedAt Anything (suc s.names.level)) s.names new.names (λ it holds. holds.0) reached.names scoped.names);
      tags = same_more (IsTagAt s.tags.level) s.tags (left new.tags)
          (left_entered (IsTagAt (suc s.tags.level)) s.tags new.tags (λ it holds. holds) reached.tags scoped.tags);
      literals = reached.literals;
      taken = reached.taken;
      calls = reached.calls;
      table = reached.table;
      counts = reached.counts;
      keeps = reached.keeps;
      unit = reached.unit;
      traced = traced_left s (enter s) new (left new.tags) refl refl refl
          (ap (λ its. its.declarations)
          (left_entered (IsTagAt (suc s.tags.level)) s.tags new.tags (λ it holds. holds) reached.tags scoped.tags)) reached.traced;
    }

pub left_scoped : (s new : Typer) → IsScoped s → Reaches Anything (enter s) new → IsScoped (leave new)
left_scoped s new scoped reached =
    record {
      names = subst AreOutside
          (sym (left_entered (IsAllowedAt Anything (suc s.names.level)) s.names new.names (λ it holds. holds.0) reached.names scoped.names)) scoped.names;
      tags = subst AreOutside (sym (left_entered (IsTagAt (suc s.tags.level)) s.tags new.tags (λ it holds. holds) reached.tags scoped.tags)) scoped.tags;
      closed = reached.keeps ∙ scoped.closed;
    }

moving_out : {A : Type 0} → (m : Translator) (given : Result (A × Translator) TypeError) → IsScoped m.typer → Moving (entered m) given
    → Moving m (ended given)
moving_out m (Ok p) scoped moves =
    record {
      typer = left_reaches m.typer p.1.typer scoped moves.typer;
      scoped = left_scoped m.typer p.1.typer scoped moves.typer;
      definitions = moves.definitions;
      locals = moves.locals;
    }
moving_out m (Err why) scoped moves = tt

-- a step in a scope of its own
pub scoped_moved : {A : Type 0} → (work : Work A) → Moved work → Moved (scoped work)
scoped_moved work is =
    record { from = λ m scoped. moving_out m (work (entered m)) scoped (is.from (entered m) (entered_scoped m.typer scoped)) }

-- ---- expressions

valued_moved : (e : Expression) → Moved (valued e)
valued_moved e = typing_moved IsConstant (value_of (typed e)) (value_always (typed_always e))

valued_if_moved : (e : Option Expression) → Moved (valued_if e)
valued_if_moved None = passes_moved None
valued_if_moved (Some e) = then_moved (valued e) (valued_moved e) (λ its. passes_moved (Some its))

condition_moved : (at : Place) (e : Expression) → Moved (condition at e)
condition_moved at e =
    then_moved (valued e) (valued_moved e)
    (λ its. typing_moved IsConstant (of_types (λ types. lifted (truth types at its))) (of_types_always (λ types. lifted (truth types at its))))

condition_if_moved : (at : Place) (e : Option Expression) → Moved (condition_if at e)
condition_if_moved at None = passes_moved None
condition_if_moved at (Some e) = then_moved (condition at e) (condition_moved at e) (λ its. passes_moved (Some its))

switched_moved : (at : Place) (e : Expression) → Moved (switched at e)
switched_moved at e =
    then_moved (valued e) (valued_moved e)
    (λ its. typing_moved IsConstant (of_types (λ types. switched_by types at its (number_kind types (type_of its))))
    (of_types_always (λ types. switched_by types at its (number_kind types (type_of its)))))

switch_cases_moved : (e : RightValue) → Moved (switch_cases e)
switch_cases_moved e = knowing_moved (λ m. Ok (cases_of m.typer.types (type_of e)))

returned_as_moved : (at : Place) (id : TypeId) (e : RightValue) → Moved (returned_as at id e)
returned_as_moved at id e =
    typing_moved IsConstant (of_types (λ types. lifted (assigned types at id e))) (of_types_always (λ types. lifted (assigned types at id e)))

returned_moved : (at : Place) (id : TypeId) (e : Option Expression) → Moved (returned at id e)
returned_moved at id None = passes_moved None
returned_moved at id (Some e) =
    then_moved (valued e) (valued_moved e)
    (λ its. then_moved (returned_as at id its) (returned_as_moved at id its) (λ value. passes_moved (Some value)))

-- ---- labels

case_moved : (cases : _) (at : Place) (e : Expression) (its : Option Integer) → Moved (case_label at e cases its)
case_moved cases at e None = stops_moved (Untyped at)
case_moved cases at e (Some its) =
    then_moved (valued e) (valued_moved e)
    (λ value. then_moved (knowing (λ m. case_bits at its (constant_value m.typer.types value)))
    (knowing_moved (λ m. case_bits at its (constant_value m.typer.types value)))
    (λ bits. then_moved (unless (Untyped at) (λ m. list_any (nat_eq bits) cases.values)) (unless_moved _ _)
    (λ done. passes_moved (label.Case at bits, record cases { values = insert_key nat_eq cases.values bits }))))

default_moved : (cases : _) (at : Place) (its : Option Integer) → Moved (default_label at cases its)
default_moved cases at None = stops_moved (Untyped at)
default_moved cases at (Some its) =
    then_moved (unless (Untyped at) (λ m. cases.default)) (unless_moved _ _) (λ done. passes_moved (label.Default at, record cases { default = true }))

label_moved : (cases : _) (it : Labelling) → Moved (labelled cases it)
label_moved cases (syntax.case_ at e) = case_moved cases at e cases.kind
label_moved cases (syntax.default_ at) = default_moved cases at cases.kind

labels_moved : (done : List Label) (cases : _) (its : List Labelling) → Moved (all_labelled done cases its)
labels_moved done cases [] = passes_moved (done, cases)
labels_moved done cases (it ∷ rest) =
    then_moved (labelled cases it) (label_moved cases it) (λ p. labels_moved (done ++ p.0 ∷ []) p.1 rest)

-- ---- statements

declared_all_moved : (at : Place) (done : List TypedDeclaration) (its : List Declaration) → Moved (declared_all at done its)
declared_all_moved at done [] = passes_moved done
declared_all_moved at done (it ∷ rest) =
    then_moved (block_declared at it) (block_declared_moved at it)
    (λ its. declared_all_moved at (with_declaration done (first_place at it.specifiers) its) rest)

mutual
  stated_moved : (at : _) (it : Statement) → Moved (stated at it)
  stated_moved at (syntax.block it) =
      then_moved (scoped (block_inside at no_cases it)) (scoped_moved (block_inside at no_cases it) (block_moved at no_cases it))
      (λ its. passes_moved (tree.block its))
  stated_moved at (syntax.expression e) = then_moved (valued e) (valued_moved e) (λ its. passes_moved (tree.expression (first_of e) its))
  stated_moved at (syntax.empty place) = passes_moved (tree.empty place)
  stated_moved at (syntax.if_ place test taken) =
      then_moved (condition place test) (condition_moved place test)
      (λ c. then_moved (stated at taken) (stated_moved at taken) (λ a. passes_moved (tree.if_ place c a)))
  stated_moved at (syntax.if_else place test taken otherwise) =
      then_moved (condition place test) (condition_moved place test)
      (λ c. then_moved (stated at taken) (stated_moved at taken)
      (λ a. then_moved (stated at otherwise) (stated_moved at otherwise) (λ b. passes_moved (tree.if_else place c a b))))
  stated_moved at (syntax.while_ place test body) =
      then_moved (condition place test) (condition_moved place test)
      (λ c. then_moved (stated (looping at) body) (stated_moved (looping at) body) (λ a. passes_moved (tree.while_ place c a)))
  stated_moved at (syntax.do_ place body test) =
      then_moved (stated (looping at) body) (stated_moved (looping at) body)
      (λ a. then_moved (condition place test) (condition_moved place test) (λ c. passes_moved (tree.do_ place a c)))
  stated_moved at (syntax.for_ place first test step body) =
      then_moved (valued_if first) (valued_if_moved first)
      (λ i. then_moved (condition_if place test) (condition_if_moved place test)
      (λ c. then_moved (valued_if step) (valued_if_moved step)
      (λ n. then_moved (stated (looping at) body) (stated_moved (looping at) body) (λ a. passes_moved (tree.for_ place i c n a)))))
  stated_moved at (syntax.switch_ place e it) =
      then_moved (switched place e) (switched_moved place e)
      (λ c. then_moved (switch_cases c) (switch_cases_moved c)
      (λ cases. then_moved (scoped (block_inside (switching at) cases it))
      (scoped_moved (block_inside (switching at) cases it) (block_moved (switching at) cases it))
      (λ its. passes_moved (tree.switch_ place c its))))
  stated_moved at (syntax.break_ place) =
      then_moved (unless (Untyped place) (λ m. not at.breaks)) (unless_moved _ _) (λ may. passes_moved (tree.break_ place))
  stated_moved at (syntax.continue_ place) =
      then_moved (unless (Untyped place) (λ m. not at.loops)) (unless_moved _ _) (λ may. passes_moved (tree.continue_ place))
  stated_moved at (syntax.return_ place e) =
      then_moved (returned place at.result e) (returned_moved place at.result e) (λ its. passes_moved (tree.return_ place its))

  block_moved : (at : _) (cases : _) (it : Compound) → Moved (block_inside at cases it)
  block_moved at cases (syntax.compound opening declarations its closing) =
      then_moved (declared_all opening [] declarations) (declared_all_moved opening [] declarations)
      (λ before. then_moved (all_stated at cases [] its) (all_stated_moved at cases [] its)
      (λ after. passes_moved (tree.compound opening before (statements_from after) closing)))

  all_stated_moved : (at : _) (cases : _) (done : List OneStatement) (its : Statements) → Moved (all_stated at cases done its)
  all_stated_moved at cases done syntax.no_statements = passes_moved done
  all_stated_moved at cases done (syntax.more_statements labels it rest) =
      then_moved (all_labelled [] cases labels) (labels_moved [] cases labels)
      (λ p. then_moved (stated at it) (stated_moved at it) (λ one. all_stated_moved at p.1 (done ++ one_statement p.0 one ∷ []) rest))

-- the body of a function
pub body_moved : (id : TypeId) (it : Compound) → Moved (body_of id it)
body_moved id it = block_moved (in_function id) no_cases it
