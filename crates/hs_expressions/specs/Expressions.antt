-- What every expression is, as a typed tree, or the first refusal (X3.159-1989 3.3 and 3.5.2 to 3.5.5). The operands of an expression
-- come first, from the left, then what the expression itself asks for. Type names, struct bodies and array lengths hold expressions, so
-- they are one recursion with them.
--     typed e                       an expression; valued e, its value
--     typed_all done its            expressions with commas between them; `done` are those before
--     type_named at it              a type name
--     specified stored at its       a list of specifiers
--     derivations at it             what a declarator derives
--     parameter_types at place done its     the types of parameters
use Rattle.std.specs.Prelude.{ℕ, suc, Bool, false, List, [], ◌∷◌, ◌++◌, Option, Some, Result, Ok, Err, if◌then◌else◌}
use Rattle.hs_typer.specs.Declarators.{formed, length_of, pointers_of, word_of, place_of}
use Rattle.hs_typer.specs.Declaring.{list_of, parameter}
use Rattle.hs_expressions.specs.Operations.{as_value, as_object, value_of, binary_of, is_arrow, member_operand, takes_object, prefix_object, prefix_value, postfix_of, assignment_of, call_operand}
use Rattle.hs_typer.specs.Primaries.{named, number_of, character_of, string_of}
use Rattle.hs_typer.specs.Specifiers.{no_specifiers, with_basic, with_type, with_storage, type_from, typedef_of, struct_type, enumeration_type, tagged_struct, opened_struct, tagged_enumeration, begun_enumeration, with_member, completed_struct, completed_enumeration, int_of, next_bits, then_next, enumerator}
use Rattle.hs_typer.specs.declared.type_error.TypeError.{TypeError}
use Rattle.hs_typer.specs.Steps.{Step, ◌>>=◌, ◌>>◌, give, look, of_types, on_types, mapped, unevaluated}
use Rattle.hs_typer.specs.declared.declarators.Derivation.{Derivation}
use Rattle.hs_typer.specs.declared.declarators.Derivation.TheVariants as derivation
use Rattle.hs_typer.specs.declared.specifiers.Specifiers.{Specifiers}
use Rattle.hs_typer.specs.declared.typer.Typer.{Typer}
use Rattle.hs_names.specs.Scopes.{find, entered, left}
use Rattle.hs_operands.specs.Assignments.{cast_of, conditional_of, comma_of}
use Rattle.hs_operands.specs.Objects.{element_of, arrow_of, size_number, size_of_operand}
use Rattle.hs_operand_types.specs.Operands as operand
use Rattle.hs_operand_types.specs.Operands.{TypedOperand}
use Rattle.hs_syntax.specs.Positions.{last_comma, position_of, first_of_specifiers, place_or}
use Rattle.hs_syntax.specs.Trees as syntax
use Rattle.hs_syntax.specs.Trees.{Expression, Expressions, Lefts, NamedType, Specified, Specification, Members, Constants, Declared, Declarators, Directly, Parameters}
use Rattle.hs_tokens.specs.declared.place.Place.{Place}
use Rattle.hs_tree.specs.Trees.{RightValue}
use Rattle.hs_types.specs.declared.body.Enumerator.{Enumerator}
use Rattle.hs_types.specs.declared.body.Member.{Member}
use Rattle.hs_types.specs.declared.row.TypeId.{TypeId}

-- the place of the first specifier, or the other place if there are no specifiers
abbrev pub first_place : Place → Specification → Place
first_place at its = place_or at (first_of_specifiers its)

-- a prototype has a scope of its own (3.1.2.1)
abbrev pub enter : Typer → Typer
enter s = record s { names = entered s.names; tags = entered s.tags }

-- and without the innermost scope
abbrev pub leave : Typer → Typer
leave s = record s { names = left s.names; tags = left s.tags }

-- after a step that was not refused, unless the scope is kept
abbrev pub ending : {A : Type 0} → Bool → Result (A × Typer) TypeError → Result (A × Typer) TypeError
ending kept (Ok p) = Ok (p.0, if kept then p.1 else leave p.1)
ending kept (Err why) = Err why

-- The parameters are in a scope of their own, which ends with them. Those of a function that is defined go on in its body.
abbrev pub prototype : {A : Type 0} → Step A → Step A
prototype step s = ending s.keeps (step (enter (record s { keeps = false })))

-- the type that a list of specifiers names
abbrev pub type_by : Place → Step Specifiers → Step TypeId
type_by first step = step >>= (λ its. look (λ s. type_from first its))

-- the value of an enumeration constant
abbrev pub int_value_of : Step TypedOperand → Step ℕ
int_value_of step = value_of step >>= (λ e. of_types (λ types. int_of types e))

abbrev mutual
  -- 3.3: what an expression is
  pub typed : Expression → Step TypedOperand
  typed (syntax.name word) = look (λ s. named s.names word)
  typed (syntax.number word) = look (λ s. number_of word)
  typed (syntax.character word) = look (λ s. character_of word)
  typed (syntax.strings first others) = string_of first others
  typed (syntax.parens at inner) = typed inner
  typed (syntax.index base at offset) = do
    a ← value_of (typed base)
    b ← value_of (typed offset)
    of_types (λ types. as_object (element_of types at a b))
  typed (syntax.call callee arguments) = do
    it ← typed callee
    its ← typed_all [] arguments
    call_operand it its
  typed (syntax.member base access at word) =
      if is_arrow access
      then (do
        e ← value_of (typed base)
        of_types (λ types. as_object (arrow_of types at word.text e)))
      else (do
        it ← typed base
        of_types (λ types. member_operand types at word.text it))
  typed (syntax.postfix base operator at) = do
    it ← typed base
    of_types (λ types. postfix_of operator types at it)
  typed (syntax.prefix operator at base) =
      if takes_object operator
      then (do
        it ← typed base
        prefix_object operator at it)
      else (do
        e ← value_of (typed base)
        of_types (λ types. prefix_value operator types at e))
  typed (syntax.sizeof_value at base) = do
    it ← unevaluated (typed base)
    of_types (λ types. as_value (size_of_operand types at it))
  typed (syntax.sizeof_type at name) = do
    id ← unevaluated (type_named at name)
    of_types (λ types. as_value (size_number types at id))
  typed (syntax.cast at name base) = do
    id ← type_named at name
    e ← value_of (typed base)
    of_types (λ types. as_value (cast_of types at id e))
  typed (syntax.binary first operator at second) = do
    a ← value_of (typed first)
    b ← value_of (typed second)
    of_types (λ types. as_value (binary_of operator types at a b))
  typed (syntax.conditional test at taken otherwise) = do
    c ← value_of (typed test)
    a ← value_of (typed taken)
    b ← value_of (typed otherwise)
    of_types (λ types. as_value (conditional_of types at c a b))
  typed (syntax.assign target operator at second) = do
    it ← typed target
    e ← value_of (typed second)
    of_types (λ types. assignment_of operator types at it e)
  typed (syntax.comma lefts last) = do
    its ← typed_lefts [] lefts
    e ← value_of (typed last)
    give (operand.value (comma_of (last_comma (position_of last) lefts) its e))

  -- 3.3.2.2: arguments
  pub typed_all : List RightValue → Expressions → Step (List RightValue)
  typed_all done syntax.no_expressions = give done
  typed_all done (syntax.more_expressions first rest) = do
    e ← value_of (typed first)
    typed_all (done ++ e ∷ []) rest

  -- 3.3.17: left operands
  pub typed_lefts : List RightValue → Lefts → Step (List RightValue)
  typed_lefts done syntax.no_lefts = give done
  typed_lefts done (syntax.more_lefts first at rest) = do
    e ← value_of (typed first)
    typed_lefts (done ++ e ∷ []) rest

  -- 3.5.5
  pub type_named : Place → NamedType → Step TypeId
  type_named at (syntax.typed_as specification it) = do
    id ← type_by (first_place at specification) (specified false (first_place at specification) no_specifiers specification)
    its ← derivations (first_place at specification) it
    on_types (formed (place_of (first_place at specification) it) its id)

  -- 3.5.1 to 3.5.3; `stored`: a storage word may be among them
  pub specified : Bool → Place → Specifiers → Specification → Step Specifiers
  specified stored first done syntax.no_specifiers = give done
  specified stored first done (syntax.more_specifiers it rest) = do
    next ← specifier stored first done it
    specified stored first next rest

  -- one specifier more
  pub specifier : Bool → Place → Specifiers → Specified → Step Specifiers
  specifier stored first done (syntax.storage word at) = look (λ s. with_storage stored word at done)
  specifier stored first done (syntax.dropped word at) = give done
  specifier stored first done (syntax.basic word at) = give (with_basic word done)
  specifier stored first done (syntax.named word) = look (λ s. mapped (λ id. with_type id done) (typedef_of word (find word.text s.names)))
  specifier stored first done (syntax.struct_tag at word) = do
    number ← tagged_struct word
    id ← struct_type number
    give (with_type id done)
  specifier stored first done (syntax.struct_body at word brace members) = do
    number ← opened_struct word
    its ← members_of at [] members
    completed_struct first word brace number its
    id ← struct_type number
    give (with_type id done)
  specifier stored first done (syntax.enum_tag at word) = do
    number ← look (λ s. tagged_enumeration word (find word.text s.tags))
    id ← enumeration_type number
    give (with_type id done)
  specifier stored first done (syntax.enum_body at word brace constants comma) = do
    number ← begun_enumeration word
    its ← constants_of [] (Some 0) constants
    completed_enumeration first word brace number its
    id ← enumeration_type number
    give (with_type id done)

  -- 3.5.2.1
  pub members_of : Place → List Member → Members → Step (List Member)
  members_of at done syntax.no_members = give done
  members_of at done (syntax.more_members specification its rest) = do
    id ← type_by (first_place at specification) (specified false (first_place at specification) no_specifiers specification)
    next ← members_as (first_place at specification) id done its
    members_of at next rest

  -- those that are declared together
  pub members_as : Place → TypeId → List Member → Declarators → Step (List Member)
  members_as first id done syntax.no_declarators = give done
  members_as first id done (syntax.more_declarators it rest) = do
    its ← derivations first it
    next ← on_types (with_member first done id its (word_of it))
    members_as first id next rest

  -- 3.5.2.2
  pub constants_of : List Enumerator → Option ℕ → Constants → Step (List Enumerator)
  constants_of done next syntax.no_constants = give done
  constants_of done next (syntax.constant word rest) = do
    its ← enumerator done word next
    constants_of its (then_next next) rest
  constants_of done next (syntax.valued_constant word base rest) = do
    bits ← int_value_of (typed base)
    its ← enumerator done word (Some bits)
    constants_of its (next_bits bits) rest

  -- 3.5.4
  pub derivations : Place → Declared → Step (List Derivation)
  derivations at (syntax.pointing pointers direct) = do
    its ← derivations_of at direct
    give (its ++ pointers_of pointers)

  -- the derivations of what follows the pointers
  pub derivations_of : Place → Directly → Step (List Derivation)
  derivations_of at syntax.nothing = give []
  derivations_of at (syntax.identifier word) = give []
  derivations_of at (syntax.parens_of it) = derivations at it
  derivations_of at (syntax.array base) = do
    its ← derivations_of at base
    give (its ++ derivation.OpenArray ∷ [])
  derivations_of at (syntax.sized_array base length) = do
    its ← derivations_of at base
    e ← value_of (typed length)
    number ← of_types (λ types. length_of types e)
    give (its ++ derivation.Array number ∷ [])
  derivations_of at (syntax.function base parameters) = do
    its ← derivations_of at base
    ids ← prototype (parameter_types at 0 [] parameters)
    list ← list_of ids
    give (its ++ derivation.Function list ∷ [])
  derivations_of at (syntax.function_of_void base place) = do
    its ← derivations_of at base
    list ← list_of []
    give (its ++ derivation.Function list ∷ [])

  -- 3.5.4.3
  pub parameter_types : Place → ℕ → List TypeId → Parameters → Step (List TypeId)
  parameter_types at place done syntax.no_parameters = give done
  parameter_types at place done (syntax.more_parameters specification it rest) = do
    base ← type_by (first_place at specification) (specified false (first_place at specification) no_specifiers specification)
    its ← derivations (first_place at specification) it
    id ← parameter (first_place at specification) its base it place
    parameter_types at (suc place) (done ++ id ∷ []) rest
