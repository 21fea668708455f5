use Rattle.std.proofs.Common.{rules, ◌≡◌, false, List, [], ◌∷◌, ◌++◌, map, Ok, refl, ap, sym, ◌∙◌, if◌then◌else◌}
use Rattle.hs_typer.specs.Declaring.{list_of}
use Rattle.hs_expressions.specs.Expressions.{first_place, derivations_of, parameter_types, enter, leave}
use Rattle.hs_typer.specs.declared.declarators.Derivation.{Derivation}
use Rattle.hs_typer.specs.declared.declarators.Derivation.TheVariants as derivation
use Rattle.hs_syntax.specs.RowLaws.{expressions_seen, specifiers_seen, members_seen, constants_seen, parameters_seen}
use Rattle.hs_syntax.specs.RowViews.{view_parameter, parameters_from}
use Rattle.hs_syntax.specs.Views.{view_direct, specification_of}
use Rattle.hs_syntax.specs.declared.expr.Member.{out-Member}
use Rattle.hs_expressions.proofs.Derived.{function_derived}
use Rattle.hs_expressions.proofs.MembersNext.{members_next}
use Rattle.hs_expressions.proofs.expressions.+typed.Goals as goal

-- the specifiers of the next members are refused
pub all_members-returns-in_err-id : goal.all_members-returns-in_err-id
all_members-returns-in_err-id t c =
    let same = c.deref.ensures.value ∙ sym c.deref-in-its.ensures.value in
    let place : first_place c.args.at (specification_of c.deref-in-its.result.now) ≡ c.first_place-first.result =
    sym (c.first_place-first.ensures ∙ ap (λ its. first_place c.args.at (specification_of its)) same) in
    let ahead = members_next c.args.its.now c.its.it-index c.it-item.result c.deref-in-its.result.now (out-Member c.it-item.result).declarators.items
    c.its-test.true c.it-item.is c.deref-in-its.ensures.value refl in
    rw (← c.its.invariant, ahead, place) (search rules)

-- the declarators of the next members are
pub all_members-returns-in_err-done : goal.all_members-returns-in_err-done
all_members-returns-in_err-done t c =
    let same = c.deref.ensures.value ∙ sym c.deref-in-its.ensures.value in
    let place : first_place c.args.at (specification_of c.deref-in-its.result.now) ≡ c.first_place-first.result =
    sym (c.first_place-first.ensures ∙ ap (λ its. first_place c.args.at (specification_of its)) same) in
    let ahead = members_next c.args.its.now c.its.it-index c.it-item.result c.deref-in-its.result.now c.deref-in-its-2.result.now
    c.its-test.true c.it-item.is c.deref-in-its.ensures.value c.deref-in-its-2.ensures.value in
    rw (← c.its.invariant, ahead, place) (search rules)

-- the next members are typed
pub all_members-its-preserved : goal.all_members-its-preserved
all_members-its-preserved t c =
    let same = c.deref.ensures.value ∙ sym c.deref-in-its.ensures.value in
    let place : first_place c.args.at (specification_of c.deref-in-its.result.now) ≡ c.first_place-first.result =
    sym (c.first_place-first.ensures ∙ ap (λ its. first_place c.args.at (specification_of its)) same) in
    let ahead = members_next c.args.its.now c.its.it-index c.it-item.result c.deref-in-its.result.now c.deref-in-its-2.result.now
    c.its-test.true c.it-item.is c.deref-in-its.ensures.value c.deref-in-its-2.ensures.value in
    rw (← c.its.invariant, ahead, place) (search rules)

-- the arguments of a call are the list
pub expression-returns-in_err-arguments-in-Call : goal.expression-returns-in_err-arguments-in-Call
expression-returns-in_err-arguments-in-Call t c =
    rw (c.in-Call.is, expressions_seen c.in-Call.arguments, ← c.deref-in-Call-2.ensures.value, ← c.deref-in-Call.ensures) (search rules)

pub expression-returns-in_ok-arguments-in-Call : goal.expression-returns-in_ok-arguments-in-Call
expression-returns-in_ok-arguments-in-Call t c =
    rw (c.in-Call.is, expressions_seen c.in-Call.arguments, ← c.deref-in-Call-2.ensures.value, ← c.deref-in-Call.ensures) (search rules)

-- the specifiers of a type name are the list
pub expression-returns-in_err-id-in-SizeofType : goal.expression-returns-in_err-id-in-SizeofType
expression-returns-in_err-id-in-SizeofType t c =
    rw (c.in-SizeofType.is, specifiers_seen c.in-SizeofType.type_name.value.specifiers, ← c.deref-in-SizeofType.ensures) (search rules)

pub expression-returns-in_ok-id-in-SizeofType : goal.expression-returns-in_ok-id-in-SizeofType
expression-returns-in_ok-id-in-SizeofType t c =
    rw (c.in-SizeofType.is, specifiers_seen c.in-SizeofType.type_name.value.specifiers, ← c.deref-in-SizeofType.ensures) (search rules)

pub expression-returns-in_err-id-in-Cast : goal.expression-returns-in_err-id-in-Cast
expression-returns-in_err-id-in-Cast t c =
    rw (c.in-Cast.is, specifiers_seen c.in-Cast.type_name.value.specifiers, ← c.deref-in-Cast.ensures) (search rules)

pub expression-returns-in_err-operand-in-Cast : goal.expression-returns-in_err-operand-in-Cast
expression-returns-in_err-operand-in-Cast t c =
    rw (c.in-Cast.is, specifiers_seen c.in-Cast.type_name.value.specifiers, ← c.deref-in-Cast.ensures, ← c.deref-in-Cast-2.ensures) (search rules)

pub expression-returns-in_ok-operand-in-Cast : goal.expression-returns-in_ok-operand-in-Cast
expression-returns-in_ok-operand-in-Cast t c =
    rw (c.in-Cast.is, specifiers_seen c.in-Cast.type_name.value.specifiers, ← c.deref-in-Cast.ensures, ← c.deref-in-Cast-2.ensures) (search rules)

-- the parameters of a function are the list
pub derivations_of-returns-in_err-ids-in-Function : goal.derivations_of-returns-in_err-ids-in-Function
derivations_of-returns-in_err-ids-in-Function t c =
    rw (c.in-Function.is, parameters_seen c.in-Function.parameters, ← c.deref-in-Function-2.ensures.value, ← c.deref-in-Function.ensures) (search rules)

pub derivations_of-returns-in_ok-pushed_copy-in-Function : goal.derivations_of-returns-in_ok-pushed_copy-in-Function
derivations_of-returns-in_ok-pushed_copy-in-Function t c =
    let parameters = parameter_types c.args.at 0 [] (parameters_from (map view_parameter c.deref-in-Function-2.result.now)) in
    let its = c.in_ok-its-in-Function.its.items in
    let ids = c.in_ok-ids-in-Function.ids.items in
    let list = c.in_ok-list-in-Function.list in
    let derived : derivations_of c.args.at (view_direct c.deref-in-Function.result.now) c.args.typer.now ≡ Ok (its, c.derivations_of-in-Function.new.typer) =
    search rules in
    let first = c.derivations_of-in-Function.new.typer in
    let second = c.parameter_types.new.typer in
    let typed : parameters (enter (record first { keeps = false })) ≡ Ok (ids, second) = search rules in
    let listed : list_of ids (if first.keeps then second else leave second) ≡ Ok (list, c.list_of.new.typer) = search rules in
    let pushed : its ++ derivation.Function list ∷ [] ≡ c.in_ok-pushed_copy-in-Function.field-0.items = search rules in
    rw (c.in-Function.is, parameters_seen c.in-Function.parameters, ← c.deref-in-Function-2.ensures.value, ← c.deref-in-Function.ensures)
    (function_derived (derivations_of c.args.at (view_direct c.deref-in-Function.result.now) c.args.typer.now) parameters its ids list
    c.derivations_of-in-Function.new.typer c.parameter_types.new.typer c.list_of.new.typer derived typed listed
    ∙ ap (λ (all : List Derivation). Ok (all, c.list_of.new.typer)) pushed)

-- the members of a struct are the list
pub specifier-returns-in_err-its-in-Struct : goal.specifier-returns-in_err-its-in-Struct
specifier-returns-in_err-its-in-Struct t c = rw (c.in-Struct.is, members_seen c.in-Struct.members, ← c.deref.ensures.value) (search rules)

pub specifier-returns-in_err-completed_struct-in-Struct : goal.specifier-returns-in_err-completed_struct-in-Struct
specifier-returns-in_err-completed_struct-in-Struct t c = rw (c.in-Struct.is, members_seen c.in-Struct.members, ← c.deref.ensures.value) (search rules)

pub specifier-returns-in_ok-id-in-Struct : goal.specifier-returns-in_ok-id-in-Struct
specifier-returns-in_ok-id-in-Struct t c = rw (c.in-Struct.is, members_seen c.in-Struct.members, ← c.deref.ensures.value) (search rules)

-- the constants of an enumeration are the list
pub specifier-returns-in_err-its-in-Enum : goal.specifier-returns-in_err-its-in-Enum
specifier-returns-in_err-its-in-Enum t c = rw (c.in-Enum.is, constants_seen c.in-Enum.constants, ← c.deref-in-Enum.ensures.value) (search rules)

pub specifier-returns-in_err-completed_enumeration-in-Enum : goal.specifier-returns-in_err-completed_enumeration-in-Enum
specifier-returns-in_err-completed_enumeration-in-Enum t c =
    rw (c.in-Enum.is, constants_seen c.in-Enum.constants, ← c.deref-in-Enum.ensures.value) (search rules)

pub specifier-returns-in_ok-id-in-Enum : goal.specifier-returns-in_ok-id-in-Enum
specifier-returns-in_ok-id-in-Enum t c = rw (c.in-Enum.is, constants_seen c.in-Enum.constants, ← c.deref-in-Enum.ensures.value) (search rules)
