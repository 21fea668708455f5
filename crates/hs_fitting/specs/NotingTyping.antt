-- What typing notes of calls, by induction on the syntax: each is of a name that is in scope, and fits the role of its routine.
--     typed_notes, specified_notes, derivations_notes, ..     a lemma for each step of typing
--     typing_notes                                            the law of an expression, in full
use Rattle.std.proofs.Common.{◌≡◌, ℕ, suc, Bool, false, List, [], ◌∷◌, ◌++◌, Option, Some, Ok, subst}
use Rattle.hs_expressions.specs.Expressions.{first_place, type_by, int_value_of, typed, typed_all, typed_lefts, type_named, specified, specifier, members_of, members_as, constants_of, derivations, derivations_of, parameter_types}
use Rattle.hs_expressions.specs.Laws.{IsConstant}
use Rattle.hs_expressions.specs.Laws.Always.{Anything, gives_always, then_always}
use Rattle.hs_expressions.specs.Laws.Extending.{typed_all_always, specifier_always}
use Rattle.hs_expressions.specs.Laws.Grown.{formed_grows, member_grows}
use Rattle.hs_expressions.specs.Laws.Leaves.{call_operand_always}
use Rattle.hs_expressions.specs.Operations.{value_of, binary_of, is_arrow, takes_object, prefix_value, operation_of_postfix, operation_of_assignment, assigned_by}
use Rattle.hs_fitting.specs.Noting.{NamesAllow, IsOperandOf, AreCallsOf, Noting, Notes, same_noted, then_noting}
use Rattle.hs_fitting.specs.NotingCalm.{struct_type_notes, enumeration_type_notes, tagged_struct_notes, opened_struct_notes, begun_enumeration_notes, completed_struct_noting, completed_enumeration_notes, string_notes}
use Rattle.hs_fitting.specs.NotingLeaves.{prefix_object_notes, prefix_met, named_met, number_of_met, character_of_met, call_operand_notes, list_of_notes, enumerator_notes, parameter_notes}
use Rattle.hs_fitting.specs.NotingSteps.{gives_notes, looks_notes, of_types_notes, looks_met, of_types_met, values_notes, objects_notes, on_types_notes, then_notes, after_notes, and_notes, either_notes, value_notes, unevaluated_notes, prototype_notes, wider_notes}
use Rattle.hs_fitting.specs.Rightness.{formed_rights, member_rights}
use Rattle.hs_names.specs.Scopes.{find}
use Rattle.hs_operand_types.specs.Answers as answers
use Rattle.hs_operands.specs.Assignments.{post_update_of, cast_of, conditional_of, comma_of}
use Rattle.hs_operands.specs.Objects.{object_of, member_of, element_of, arrow_of, size_number, size_of_operand}
use Rattle.hs_operand_types.specs.Operands as operand
use Rattle.hs_operand_types.specs.Operands.{TypedOperand}
use Rattle.hs_syntax.specs.Positions.{last_comma, position_of}
use Rattle.hs_syntax.specs.Trees as syntax
use Rattle.hs_syntax.specs.Trees.{Expression, Expressions, Lefts, NamedType, Specified, Specification, Members, Constants, Declared, Declarators, Directly, Parameters}
use Rattle.hs_tokens.specs.declared.place.Place.{Place}
use Rattle.hs_tree.specs.Trees.{RightValue}
use Rattle.hs_typer.specs.Declarators.{formed, length_of, pointers_of, word_of, place_of}
use Rattle.hs_typer.specs.Primaries.{named, number_of, character_of}
use Rattle.hs_typer.specs.Specifiers.{no_specifiers, with_basic, with_type, with_storage, type_from, typedef_of, struct_type, opened_struct, completed_struct, tagged_enumeration, with_member, int_of, next_bits, then_next}
use Rattle.hs_typer.specs.Steps.{Step, ◌>>=◌, ◌>>◌, give, mapped}
use Rattle.hs_typer.specs.declared.declarators.Derivation.TheVariants as derivation
use Rattle.hs_typer.specs.declared.specifiers.Specifiers.{Specifiers}
use Rattle.hs_typer.specs.declared.typer.Typer.{Typer}
use Rattle.hs_types.specs.TypeTables.{TypeTable, Grows}
use Rattle.hs_types.specs.declared.body.Enumerator.{Enumerator}
use Rattle.hs_types.specs.declared.body.Member.{Member}
use Rattle.hs_types.specs.declared.row.TypeId.{TypeId}

module _ (Q : ℕ → TypeId → Type 0) (final : TypeTable) where
  -- a value that operands make
  given_value : (e : RightValue) → Notes Q final IsConstant (IsOperandOf Q) (give (operand.value e))
  given_value e =
      record { always = gives_always (operand.value e); gives = λ s names. same_noted Q final (IsOperandOf Q) s (operand.value e) names tt }

  -- the type that specifiers name
  type_notes : {step : Step Specifiers} → (first : Place) → Notes Q final IsConstant (λ it. Unit {0}) step
      → Notes Q final IsConstant (λ it. Unit {0}) (type_by first step)
  type_notes first is = after_notes is (λ its. looks_notes (λ s. type_from first its))

  -- the value of a constant
  int_notes : {step : Step TypedOperand} → Notes Q final IsConstant (IsOperandOf Q) step
      → Notes Q final IsConstant (λ it. Unit {0}) (int_value_of step)
  int_notes is = after_notes (value_notes is) (λ e. of_types_notes (λ types. int_of types e))

  mutual
    -- an expression
    pub typed_notes : (e : Expression) → Notes Q final IsConstant (IsOperandOf Q) (typed e)
    typed_notes (syntax.name word) = looks_met (λ s. named s.names word) (λ s names. named_met Q final s word names)
    typed_notes (syntax.number word) = looks_met (λ s. number_of word) (λ s names. number_of_met Q final word)
    typed_notes (syntax.character word) = looks_met (λ s. character_of word) (λ s names. character_of_met Q final word)
    typed_notes (syntax.strings first others) = string_notes Q final first others
    typed_notes (syntax.parens at inner) = typed_notes inner
    typed_notes (syntax.index base at offset) =
        after_notes (value_notes (typed_notes base))
        (λ a. after_notes (value_notes (typed_notes offset)) (λ b. objects_notes (λ types. element_of types at a b)))
    typed_notes (syntax.call callee arguments) =
        then_notes (typed_notes callee) (λ it. then_always (typed_all_always [] arguments) (λ its. call_operand_always it its))
        (λ it is. after_notes (typed_all_notes [] arguments) (λ its. call_operand_notes Q final it its is))
    typed_notes (syntax.member base access at word) =
        either_notes (is_arrow access)
        (after_notes (value_notes (typed_notes base)) (λ e. objects_notes (λ types. arrow_of types at word.text e)))
        (after_notes (typed_notes base)
        (λ it. objects_notes (λ types. answers.◌>>=◌ (object_of at it) (member_of types at word.text))))
    typed_notes (syntax.postfix base operator at) =
        after_notes (typed_notes base)
        (λ it. values_notes (λ types. answers.◌>>=◌ (object_of at it) (post_update_of types at (operation_of_postfix operator))))
    typed_notes (syntax.prefix operator at base) =
        either_notes (takes_object operator) (after_notes (typed_notes base) (λ it. prefix_object_notes Q final operator at it))
        (after_notes (value_notes (typed_notes base))
        (λ e. of_types_met (λ types. prefix_value operator types at e) (λ types. prefix_met Q final operator types at e)))
    typed_notes (syntax.sizeof_value at base) =
        after_notes (unevaluated_notes (typed_notes base)) (λ it. values_notes (λ types. size_of_operand types at it))
    typed_notes (syntax.sizeof_type at name) =
        after_notes (unevaluated_notes (type_named_notes at name)) (λ id. values_notes (λ types. size_number types at id))
    typed_notes (syntax.cast at name base) =
        after_notes (type_named_notes at name)
        (λ id. after_notes (value_notes (typed_notes base)) (λ e. values_notes (λ types. cast_of types at id e)))
    typed_notes (syntax.binary first operator at second) =
        after_notes (value_notes (typed_notes first))
        (λ a. after_notes (value_notes (typed_notes second)) (λ b. values_notes (λ types. binary_of operator types at a b)))
    typed_notes (syntax.conditional test at taken otherwise) =
        after_notes (value_notes (typed_notes test))
        (λ c. after_notes (value_notes (typed_notes taken))
        (λ a. after_notes (value_notes (typed_notes otherwise)) (λ b. values_notes (λ types. conditional_of types at c a b))))
    typed_notes (syntax.assign target operator at second) =
        after_notes (typed_notes target)
        (λ it. after_notes (value_notes (typed_notes second))
        (λ e. values_notes (λ types. answers.◌>>=◌ (object_of at it) (assigned_by (operation_of_assignment operator) types at e))))
    typed_notes (syntax.comma lefts last) =
        after_notes (typed_lefts_notes [] lefts)
        (λ its. after_notes (value_notes (typed_notes last)) (λ e. given_value (comma_of (last_comma (position_of last) lefts) its e)))

    -- expressions with commas between them
    pub typed_all_notes : (done : List RightValue) (its : Expressions) → Notes Q final IsConstant (λ it. Unit {0}) (typed_all done its)
    typed_all_notes done syntax.no_expressions = gives_notes done
    typed_all_notes done (syntax.more_expressions first rest) =
        after_notes (value_notes (typed_notes first)) (λ e. typed_all_notes (done ++ e ∷ []) rest)

    -- left operands
    pub typed_lefts_notes : (done : List RightValue) (its : Lefts) → Notes Q final IsConstant (λ it. Unit {0}) (typed_lefts done its)
    typed_lefts_notes done syntax.no_lefts = gives_notes done
    typed_lefts_notes done (syntax.more_lefts first at rest) =
        after_notes (value_notes (typed_notes first)) (λ e. typed_lefts_notes (done ++ e ∷ []) rest)

    -- a type name
    pub type_named_notes : (at : Place) (it : NamedType) → Notes Q final IsConstant (λ it. Unit {0}) (type_named at it)
    type_named_notes at (syntax.typed_as specification it) =
        after_notes (type_notes (first_place at specification) (specified_notes false (first_place at specification) no_specifiers specification))
        (λ id. after_notes (derivations_notes (first_place at specification) it)
        (λ its. on_types_notes (formed (place_of (first_place at specification) it) its id)
        (λ types. formed_grows (place_of (first_place at specification) it) its id types)
        (λ types. formed_rights (place_of (first_place at specification) it) its id types)))

    -- specifiers
    pub specified_notes : (stored : Bool) (first : Place) (done : Specifiers) (its : Specification)
        → Notes Q final IsConstant (λ it. Unit {0}) (specified stored first done its)
    specified_notes stored first done syntax.no_specifiers = gives_notes done
    specified_notes stored first done (syntax.more_specifiers it rest) =
        after_notes (specifier_notes stored first done it) (λ next. specified_notes stored first next rest)

    -- one of them
    pub specifier_notes : (stored : Bool) (first : Place) (done : Specifiers) (it : Specified)
        → Notes Q final IsConstant (λ it. Unit {0}) (specifier stored first done it)
    specifier_notes stored first done (syntax.storage word at) = looks_notes (λ s. with_storage stored word at done)
    specifier_notes stored first done (syntax.dropped word at) = gives_notes done
    specifier_notes stored first done (syntax.basic word at) = gives_notes (with_basic word done)
    specifier_notes stored first done (syntax.named word) =
        looks_notes (λ s. mapped (λ id. with_type id done) (typedef_of word (find word.text s.names)))
    specifier_notes stored first done (syntax.struct_tag at word) =
        after_notes (tagged_struct_notes Q final word)
        (λ number. after_notes (struct_type_notes Q final number) (λ id. gives_notes (with_type id done)))
    specifier_notes stored first done (syntax.struct_body at word brace members) =
        record {
          always = specifier_always stored first done (syntax.struct_body at word brace members);
          gives = λ s names. then_noting Q final (λ it. Unit {0}) (λ it. Unit {0})
              (λ number. members_of at [] members
              >>= (λ its. completed_struct first word brace number its >> (struct_type number >>= (λ id. give (with_type id done)))))
              s (opened_struct word s) ((opened_struct_notes Q final word).gives s names)
              (λ number any mid around. then_noting Q final (λ it. Unit {0}) (λ it. Unit {0})
              (λ its. completed_struct first word brace number its >> (struct_type number >>= (λ id. give (with_type id done)))) mid
              (members_of at [] members mid) ((members_of_notes at [] members).gives mid around)
              (λ its any later within. then_noting Q final (λ it. Unit {0}) (λ it. Unit {0})
              (λ it. struct_type number >>= (λ id. give (with_type id done))) later (completed_struct first word brace number its later)
              (completed_struct_noting Q final first word brace number its later within)
              (λ it any last names'.
              (after_notes {holds = λ it. Unit {0}} {holds' = λ it. Unit {0}} (struct_type_notes Q final number)
              (λ id. gives_notes (with_type id done))).gives last names')));
        }
    specifier_notes stored first done (syntax.enum_tag at word) =
        after_notes (looks_notes (λ s. tagged_enumeration word (find word.text s.tags)))
        (λ number. after_notes (enumeration_type_notes Q final number) (λ id. gives_notes (with_type id done)))
    specifier_notes stored first done (syntax.enum_body at word brace constants comma) =
        after_notes (begun_enumeration_notes Q final word)
        (λ number. after_notes (constants_of_notes [] (Some 0) constants)
        (λ its. and_notes (completed_enumeration_notes Q final first word brace number its)
        (after_notes (enumeration_type_notes Q final number) (λ id. gives_notes (with_type id done)))))

    -- members
    pub members_of_notes : (at : Place) (done : List Member) (its : Members) → Notes Q final IsConstant (λ it. Unit {0}) (members_of at done its)
    members_of_notes at done syntax.no_members = gives_notes done
    members_of_notes at done (syntax.more_members specification its rest) =
        after_notes (type_notes (first_place at specification) (specified_notes false (first_place at specification) no_specifiers specification))
        (λ id. after_notes (members_as_notes (first_place at specification) id done its) (λ next. members_of_notes at next rest))

    -- those that are declared together
    pub members_as_notes : (first : Place) (id : TypeId) (done : List Member) (its : Declarators)
        → Notes Q final IsConstant (λ it. Unit {0}) (members_as first id done its)
    members_as_notes first id done syntax.no_declarators = gives_notes done
    members_as_notes first id done (syntax.more_declarators it rest) =
        after_notes (derivations_notes first it)
        (λ its. after_notes
        (on_types_notes (with_member first done id its (word_of it)) (λ types. member_grows first done id its (word_of it) types)
        (λ types. member_rights first done id its (word_of it) types))
        (λ next. members_as_notes first id next rest))

    -- constants
    pub constants_of_notes : (done : List Enumerator) (next : Option ℕ) (its : Constants)
        → Notes Q final IsConstant (λ it. Unit {0}) (constants_of done next its)
    constants_of_notes done next syntax.no_constants = gives_notes done
    constants_of_notes done next (syntax.constant word rest) =
        after_notes (enumerator_notes Q final done word next) (λ its. constants_of_notes its (then_next next) rest)
    constants_of_notes done next (syntax.valued_constant word base rest) =
        after_notes (int_notes (typed_notes base))
        (λ bits. after_notes (enumerator_notes Q final done word (Some bits)) (λ its. constants_of_notes its (next_bits bits) rest))

    -- a declarator
    pub derivations_notes : (at : Place) (it : Declared) → Notes Q final IsConstant (λ it. Unit {0}) (derivations at it)
    derivations_notes at (syntax.pointing pointers direct) =
        after_notes (derivations_of_notes at direct) (λ its. gives_notes (its ++ pointers_of pointers))

    -- after the pointers
    pub derivations_of_notes : (at : Place) (it : Directly) → Notes Q final IsConstant (λ it. Unit {0}) (derivations_of at it)
    derivations_of_notes at syntax.nothing = gives_notes []
    derivations_of_notes at (syntax.identifier word) = gives_notes []
    derivations_of_notes at (syntax.parens_of it) = derivations_notes at it
    derivations_of_notes at (syntax.array base) =
        after_notes (derivations_of_notes at base) (λ its. gives_notes (its ++ derivation.OpenArray ∷ []))
    derivations_of_notes at (syntax.sized_array base size) =
        after_notes (derivations_of_notes at base)
        (λ its. after_notes (value_notes (typed_notes size))
        (λ e. after_notes (of_types_notes (λ types. length_of types e)) (λ number. gives_notes (its ++ derivation.Array number ∷ []))))
    derivations_of_notes at (syntax.function base parameters) =
        after_notes (derivations_of_notes at base)
        (λ its. after_notes (prototype_notes (parameter_types_notes at 0 [] parameters))
        (λ ids. after_notes (list_of_notes Q final ids) (λ list. gives_notes (its ++ derivation.Function list ∷ []))))
    derivations_of_notes at (syntax.function_of_void base place) =
        after_notes (derivations_of_notes at base)
        (λ its. after_notes (list_of_notes Q final []) (λ list. gives_notes (its ++ derivation.Function list ∷ [])))

    -- parameters, which are declared in the scope of their prototype
    pub parameter_types_notes : (at : Place) (place : ℕ) (done : List TypeId) (its : Parameters)
        → Notes Q final Anything (λ it. Unit {0}) (parameter_types at place done its)
    parameter_types_notes at place done syntax.no_parameters = gives_notes done
    parameter_types_notes at place done (syntax.more_parameters specification it rest) =
        after_notes
        (wider_notes (type_notes (first_place at specification)
        (specified_notes false (first_place at specification) no_specifiers specification)))
        (λ base. after_notes (wider_notes (derivations_notes (first_place at specification) it))
        (λ its. after_notes (parameter_notes Q final (first_place at specification) its base it place)
        (λ id. parameter_types_notes at (suc place) (done ++ id ∷ []) rest)))

  -- the value of an expression
  pub valued_notes : (e : Expression) → Notes Q final IsConstant (λ it. Unit {0}) (value_of (typed e))
  valued_notes e = value_notes (typed_notes e)

  -- what is noted after an expression
  pub typing_notes : (e : Expression) (s new : Typer) (it : TypedOperand) → NamesAllow Q s → typed e s ≡ Ok (it, new) → Grows new.types final
      → AreCallsOf Q s.table final s.calls → AreCallsOf Q s.table final new.calls
  typing_notes e s new it names given = (subst (Noting Q final (IsOperandOf Q) s) given ((typed_notes e).gives s names)).calls
