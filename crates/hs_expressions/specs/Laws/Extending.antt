-- What is known after an expression extends what was known before it: by induction on the syntax.
--     typed_always, typed_all_always, ..      a lemma for each step of typing
--     typing_extends                          the law
use Rattle.std.proofs.Common.{ℕ, suc, Bool, false, List, [], ◌∷◌, ◌++◌, Option, Some, subst}
use Rattle.hs_typer.specs.Declarators.{formed, length_of, pointers_of, word_of, place_of}
use Rattle.hs_expressions.specs.Expressions.{first_place, type_by, int_value_of, typed, typed_all, typed_lefts, type_named, specified, specifier, members_of, members_as, constants_of, derivations, derivations_of, parameter_types}
use Rattle.hs_expressions.specs.Laws.{IsConstant, Extends, TypingExtends}
use Rattle.hs_expressions.specs.Laws.Always.{Reaching, Always, Anything, gives_always, looks_always, of_types_always, on_types_always, then_always, and_always, either_always, value_always, unevaluated_always, prototype_always, wider_always}
use Rattle.hs_expressions.specs.Laws.Bodies.{body_always}
use Rattle.hs_expressions.specs.Laws.Grown.{formed_grows, member_grows}
use Rattle.hs_expressions.specs.Laws.Leaves.{string_always, prefix_object_always, call_operand_always, struct_type_always, enumeration_type_always, tagged_struct_always, begun_enumeration_always, completed_enumeration_always, list_of_always, enumerator_always, parameter_always}
use Rattle.hs_expressions.specs.Laws.Reached.{Reaches}
use Rattle.hs_expressions.specs.Operations.{as_value, as_object, binary_of, is_arrow, member_operand, takes_object, prefix_value, postfix_of, assignment_of}
use Rattle.hs_typer.specs.Primaries.{named, number_of, character_of}
use Rattle.hs_typer.specs.Specifiers.{no_specifiers, with_basic, with_type, with_storage, type_from, typedef_of, struct_type, tagged_enumeration, with_member, int_of, next_bits, then_next}
use Rattle.hs_typer.specs.Steps.{Step, ◌>>=◌, give, mapped}
use Rattle.hs_typer.specs.declared.declarators.Derivation.TheVariants as derivation
use Rattle.hs_typer.specs.declared.specifiers.Specifiers.{Specifiers}
use Rattle.hs_typer.specs.declared.typer.Typer.{Typer}
use Rattle.hs_names.specs.Scopes.{find}
use Rattle.hs_operands.specs.Assignments.{cast_of, conditional_of, comma_of}
use Rattle.hs_operands.specs.Objects.{element_of, arrow_of, size_number, size_of_operand}
use Rattle.hs_operand_types.specs.Operands as operand
use Rattle.hs_operand_types.specs.Operands.{TypedOperand}
use Rattle.hs_syntax.specs.Positions.{last_comma, position_of}
use Rattle.hs_syntax.specs.Trees as syntax
use Rattle.hs_syntax.specs.Trees.{Expression, Expressions, Lefts, NamedType, Specified, Specification, Members, Constants, Declared, Declarators, Directly, Parameters}
use Rattle.hs_tokens.specs.declared.place.Place.{Place}
use Rattle.hs_tree.specs.Trees.{RightValue}
use Rattle.hs_types.specs.declared.body.Enumerator.{Enumerator}
use Rattle.hs_types.specs.declared.body.Member.{Member}
use Rattle.hs_types.specs.declared.row.TypeId.{TypeId}

-- the type that specifiers name
pub type_always : {step : Step Specifiers} → (first : Place) → Always IsConstant step → Always IsConstant (type_by first step)
type_always first is = then_always is (λ its. looks_always (λ s. type_from first its))

-- the value of a constant
int_always : {step : Step TypedOperand} → Always IsConstant step → Always IsConstant (int_value_of step)
int_always is = then_always (value_always is) (λ e. of_types_always (λ types. int_of types e))

mutual
  -- an expression
  pub typed_always : (e : Expression) → Always IsConstant (typed e)
  typed_always (syntax.name word) = looks_always (λ s. named s.names word)
  typed_always (syntax.number word) = looks_always (λ s. number_of word)
  typed_always (syntax.character word) = looks_always (λ s. character_of word)
  typed_always (syntax.strings first others) = string_always first others
  typed_always (syntax.parens at inner) = typed_always inner
  typed_always (syntax.index base at offset) =
      then_always (value_always (typed_always base))
      (λ a. then_always (value_always (typed_always offset)) (λ b. of_types_always (λ types. as_object (element_of types at a b))))
  typed_always (syntax.call callee arguments) =
      then_always (typed_always callee) (λ it. then_always (typed_all_always [] arguments) (λ its. call_operand_always it its))
  typed_always (syntax.member base access at word) =
      either_always (is_arrow access)
      (then_always (value_always (typed_always base)) (λ e. of_types_always (λ types. as_object (arrow_of types at word.text e))))
      (then_always (typed_always base) (λ it. of_types_always (λ types. member_operand types at word.text it)))
  typed_always (syntax.postfix base operator at) =
      then_always (typed_always base) (λ it. of_types_always (λ types. postfix_of operator types at it))
  typed_always (syntax.prefix operator at base) =
      either_always (takes_object operator) (then_always (typed_always base) (λ it. prefix_object_always operator at it))
      (then_always (value_always (typed_always base)) (λ e. of_types_always (λ types. prefix_value operator types at e)))
  typed_always (syntax.sizeof_value at base) =
      then_always (unevaluated_always (typed_always base)) (λ it. of_types_always (λ types. as_value (size_of_operand types at it)))
  typed_always (syntax.sizeof_type at name) =
      then_always (unevaluated_always (type_named_always at name)) (λ id. of_types_always (λ types. as_value (size_number types at id)))
  typed_always (syntax.cast at name base) =
      then_always (type_named_always at name)
      (λ id. then_always (value_always (typed_always base)) (λ e. of_types_always (λ types. as_value (cast_of types at id e))))
  typed_always (syntax.binary first operator at second) =
      then_always (value_always (typed_always first))
      (λ a. then_always (value_always (typed_always second)) (λ b. of_types_always (λ types. as_value (binary_of operator types at a b))))
  typed_always (syntax.conditional test at taken otherwise) =
      then_always (value_always (typed_always test))
      (λ c. then_always (value_always (typed_always taken))
      (λ a. then_always (value_always (typed_always otherwise))
      (λ b. of_types_always (λ types. as_value (conditional_of types at c a b)))))
  typed_always (syntax.assign target operator at second) =
      then_always (typed_always target)
      (λ it. then_always (value_always (typed_always second)) (λ e. of_types_always (λ types. assignment_of operator types at it e)))
  typed_always (syntax.comma lefts last) =
      then_always (typed_lefts_always [] lefts)
      (λ its. then_always (value_always (typed_always last))
      (λ e. gives_always (operand.value (comma_of (last_comma (position_of last) lefts) its e))))

  -- expressions with commas between them
  pub typed_all_always : (done : List RightValue) (its : Expressions) → Always IsConstant (typed_all done its)
  typed_all_always done syntax.no_expressions = gives_always done
  typed_all_always done (syntax.more_expressions first rest) =
      then_always (value_always (typed_always first)) (λ e. typed_all_always (done ++ e ∷ []) rest)

  pub typed_lefts_always : (done : List RightValue) (its : Lefts) → Always IsConstant (typed_lefts done its)
  typed_lefts_always done syntax.no_lefts = gives_always done
  typed_lefts_always done (syntax.more_lefts first at rest) =
      then_always (value_always (typed_always first)) (λ e. typed_lefts_always (done ++ e ∷ []) rest)

  -- a type name
  pub type_named_always : (at : Place) (it : NamedType) → Always IsConstant (type_named at it)
  type_named_always at (syntax.typed_as specification it) =
      then_always (type_always (first_place at specification) (specified_always false (first_place at specification) no_specifiers specification))
      (λ id. then_always (derivations_always (first_place at specification) it)
      (λ its. on_types_always (formed (place_of (first_place at specification) it) its id)
      (λ types. formed_grows (place_of (first_place at specification) it) its id types)))

  -- specifiers
  pub specified_always : (stored : Bool) (first : Place) (done : Specifiers) (its : Specification) → Always IsConstant (specified stored first done its)
  specified_always stored first done syntax.no_specifiers = gives_always done
  specified_always stored first done (syntax.more_specifiers it rest) =
      then_always (specifier_always stored first done it) (λ next. specified_always stored first next rest)

  pub specifier_always : (stored : Bool) (first : Place) (done : Specifiers) (it : Specified) → Always IsConstant (specifier stored first done it)
  specifier_always stored first done (syntax.storage word at) = looks_always (λ s. with_storage stored word at done)
  specifier_always stored first done (syntax.dropped word at) = gives_always done
  specifier_always stored first done (syntax.basic word at) = gives_always (with_basic word done)
  specifier_always stored first done (syntax.named word) =
      looks_always (λ s. mapped (λ id. with_type id done) (typedef_of word (find word.text s.names)))
  specifier_always stored first done (syntax.struct_tag at word) =
      then_always (tagged_struct_always word) (λ number. then_always (struct_type_always number) (λ id. gives_always (with_type id done)))
  specifier_always stored first done (syntax.struct_body at word brace members) =
      body_always first word brace (members_of at [] members) (λ number. struct_type number >>= (λ id. give (with_type id done)))
      (members_of_always at [] members) (λ number. then_always (struct_type_always number) (λ id. gives_always (with_type id done)))
  specifier_always stored first done (syntax.enum_tag at word) =
      then_always (looks_always (λ s. tagged_enumeration word (find word.text s.tags)))
      (λ number. then_always (enumeration_type_always number) (λ id. gives_always (with_type id done)))
  specifier_always stored first done (syntax.enum_body at word brace constants comma) =
      then_always (begun_enumeration_always word)
      (λ number. then_always (constants_of_always [] (Some 0) constants)
      (λ its. and_always (completed_enumeration_always first word brace number its)
      (then_always (enumeration_type_always number) (λ id. gives_always (with_type id done)))))

  -- members
  pub members_of_always : (at : Place) (done : List Member) (its : Members) → Always IsConstant (members_of at done its)
  members_of_always at done syntax.no_members = gives_always done
  members_of_always at done (syntax.more_members specification its rest) =
      then_always (type_always (first_place at specification) (specified_always false (first_place at specification) no_specifiers specification))
      (λ id. then_always (members_as_always (first_place at specification) id done its) (λ next. members_of_always at next rest))

  members_as_always : (first : Place) (id : TypeId) (done : List Member) (its : Declarators) → Always IsConstant (members_as first id done its)
  members_as_always first id done syntax.no_declarators = gives_always done
  members_as_always first id done (syntax.more_declarators it rest) =
      then_always (derivations_always first it)
      (λ its. then_always (on_types_always (with_member first done id its (word_of it)) (λ types. member_grows first done id its (word_of it) types))
      (λ next. members_as_always first id next rest))

  -- constants
  constants_of_always : (done : List Enumerator) (next : Option ℕ) (its : Constants) → Always IsConstant (constants_of done next its)
  constants_of_always done next syntax.no_constants = gives_always done
  constants_of_always done next (syntax.constant word rest) =
      then_always (enumerator_always done word next) (λ its. constants_of_always its (then_next next) rest)
  constants_of_always done next (syntax.valued_constant word base rest) =
      then_always (int_always (typed_always base))
      (λ bits. then_always (enumerator_always done word (Some bits)) (λ its. constants_of_always its (next_bits bits) rest))

  -- a declarator
  pub derivations_always : (at : Place) (it : Declared) → Always IsConstant (derivations at it)
  derivations_always at (syntax.pointing pointers direct) =
      then_always (derivations_of_always at direct) (λ its. gives_always (its ++ pointers_of pointers))

  pub derivations_of_always : (at : Place) (it : Directly) → Always IsConstant (derivations_of at it)
  derivations_of_always at syntax.nothing = gives_always []
  derivations_of_always at (syntax.identifier word) = gives_always []
  derivations_of_always at (syntax.parens_of it) = derivations_always at it
  derivations_of_always at (syntax.array base) =
      then_always (derivations_of_always at base) (λ its. gives_always (its ++ derivation.OpenArray ∷ []))
  derivations_of_always at (syntax.sized_array base size) =
      then_always (derivations_of_always at base)
      (λ its. then_always (value_always (typed_always size))
      (λ e. then_always (of_types_always (λ types. length_of types e)) (λ number. gives_always (its ++ derivation.Array number ∷ []))))
  derivations_of_always at (syntax.function base parameters) =
      then_always (derivations_of_always at base)
      (λ its. then_always (prototype_always (parameter_types_always at 0 [] parameters))
      (λ ids. then_always (list_of_always ids) (λ list. gives_always (its ++ derivation.Function list ∷ []))))
  derivations_of_always at (syntax.function_of_void base place) =
      then_always (derivations_of_always at base)
      (λ its. then_always (list_of_always []) (λ list. gives_always (its ++ derivation.Function list ∷ [])))

  -- parameters, which are declared in the scope of their prototype
  pub parameter_types_always : (at : Place) (place : ℕ) (done : List TypeId) (its : Parameters) → Always Anything (parameter_types at place done its)
  parameter_types_always at place done syntax.no_parameters = gives_always done
  parameter_types_always at place done (syntax.more_parameters specification it rest) =
      then_always
      (wider_always (type_always (first_place at specification)
      (specified_always false (first_place at specification) no_specifiers specification)))
      (λ base. then_always (wider_always (derivations_always (first_place at specification) it))
      (λ its. then_always (parameter_always (first_place at specification) its base it place)
      (λ id. parameter_types_always at (suc place) (done ++ id ∷ []) rest)))

-- with constants alone
extends_of : (old new : Typer) → Reaches IsConstant old new → Extends old new
extends_of old new reached =
    record {
      types = reached.types;
      names = reached.names;
      tags = reached.tags;
      literals = reached.literals;
      taken = reached.taken;
      calls = reached.calls;
      table = reached.table;
      counts = reached.counts;
      keeps = reached.keeps;
    }

-- of the answer that is given
pub typing_extends : TypingExtends
typing_extends e s new it scoped given = extends_of s new (subst (Reaching IsConstant s) given ((typed_always e).from s scoped))
