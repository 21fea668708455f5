-- Each phrase of the grammar is read wherever its tokens stand in front. The lemmas of each form, tied together: `Expected.antt` has
-- the statements.
--     all_expression, all_arguments, all_lefts        expressions
--     all_type, all_specifier, .., all_parameters     the phrases of declarations in them
use Rattle.hs_syntax.specs.Trees as tree
use Rattle.hs_syntax.specs.Trees.{Expression, Expressions, Lefts, NamedType, Specified, Specification, Members, Constants, Declared, Declarators, Directly, Parameters}
use Rattle.hs_expr_parser.specs.Reading.{Known, Shorter}
use Rattle.hs_expr_parser.specs.Laws.Along.{Whole}
use Rattle.hs_expr_parser.specs.Laws.Calls.{ReadsArguments, no_arguments_all, more_arguments_all, call_all}
use Rattle.hs_expr_parser.specs.Laws.DeclaratorsRead.{nothing_all, identifier_all, parens_of_all, array_all, sized_array_all, function_all, function_of_void_all, pointing_all, no_declarators_all, more_declarators_all}
use Rattle.hs_expr_parser.specs.Expected.{ReadsType, ReadsSpecifier, ReadsSpecification, ReadsMembers, ReadsConstants, ReadsDeclarator, ReadsDirect, ReadsDeclarators, ReadsParameters}
use Rattle.hs_expr_parser.specs.Laws.MembersRead.{no_members_all, more_members_all, no_constants_all, constant_all, valued_constant_all}
use Rattle.hs_expr_parser.specs.Laws.Operations.{ReadsLefts, binary_form_all, conditional_form_all, assign_all, no_lefts_all, more_lefts_all, comma_all}
use Rattle.hs_expr_parser.specs.Laws.Primaries.{ReadsAll, name_all, number_all, character_all, strings_all, parens_all, index_all, member_all, postfix_form_all}
use Rattle.hs_expr_parser.specs.Laws.SpecifiersRead.{storage_all, dropped_all, basic_all, named_all, struct_tag_all, struct_body_all, enum_tag_all, enum_body_all, no_specifiers_all, more_specifiers_all}
use Rattle.hs_expr_parser.specs.Laws.TypesRead.{typed_all, no_parameters_all, more_parameters_all}
use Rattle.hs_expr_parser.specs.Laws.UnariesRead.{prefix_all, sizeof_value_all, sizeof_type_all, cast_all}

mutual
  -- an expression
  pub all_expression : {known : Known} {table : Shorter} → Whole known table → (e : Expression) → ReadsAll known table e
  all_expression whole (tree.name it) = name_all whole it
  all_expression whole (tree.number it) = number_all whole it
  all_expression whole (tree.character it) = character_all whole it
  all_expression whole (tree.strings first others) = strings_all whole first others
  all_expression whole (tree.parens at inner) = parens_all whole at inner (all_expression whole inner)
  all_expression whole (tree.index base at offset) = index_all whole base at offset (all_expression whole base) (all_expression whole offset)
  all_expression whole (tree.call callee its) = call_all whole callee its (all_expression whole callee) (all_arguments whole its)
  all_expression whole (tree.member base access at it) = member_all whole base access at it (all_expression whole base)
  all_expression whole (tree.postfix operand operator at) = postfix_form_all whole operand operator at (all_expression whole operand)
  all_expression whole (tree.prefix operator at operand) = prefix_all whole operator at operand (all_expression whole operand)
  all_expression whole (tree.sizeof_value at operand) = sizeof_value_all whole at operand (all_expression whole operand)
  all_expression whole (tree.sizeof_type at type) = sizeof_type_all whole at type (all_type whole type)
  all_expression whole (tree.cast at type operand) = cast_all whole at type operand (all_type whole type) (all_expression whole operand)
  all_expression whole (tree.binary left operator at right) =
      binary_form_all whole left operator at right (all_expression whole left) (all_expression whole right)
  all_expression whole (tree.conditional test at taken otherwise) =
      conditional_form_all whole test at taken otherwise (all_expression whole test) (all_expression whole taken) (all_expression whole otherwise)
  all_expression whole (tree.assign target operator at e) = assign_all whole target operator at e (all_expression whole target) (all_expression whole e)
  all_expression whole (tree.comma lefts right) = comma_all whole lefts right (all_lefts whole lefts) (all_expression whole right)

  -- arguments
  pub all_arguments : {known : Known} {table : Shorter} → Whole known table → (its : Expressions) → ReadsArguments known table its
  all_arguments {known = known} {table = table} whole tree.no_expressions = no_arguments_all known table
  all_arguments whole (tree.more_expressions e rest) = more_arguments_all whole e rest (all_expression whole e) (all_arguments whole rest)

  -- left operands of commas
  pub all_lefts : {known : Known} {table : Shorter} → Whole known table → (its : Lefts) → ReadsLefts known table its
  all_lefts {known = known} {table = table} whole tree.no_lefts = no_lefts_all known table
  all_lefts whole (tree.more_lefts e at rest) = more_lefts_all whole e at rest (all_expression whole e) (all_lefts whole rest)

  -- a type name
  pub all_type : {known : Known} {table : Shorter} → Whole known table → (it : NamedType) → ReadsType known table it
  all_type whole (tree.typed_as its declared) = typed_all whole its declared (all_specification whole its) (all_declarator whole declared)

  -- a specifier
  pub all_specifier : {known : Known} {table : Shorter} → Whole known table → (it : Specified) → ReadsSpecifier known table it
  all_specifier whole (tree.storage it at) = storage_all whole it at
  all_specifier whole (tree.dropped it at) = dropped_all whole it at
  all_specifier whole (tree.basic it at) = basic_all whole it at
  all_specifier whole (tree.named it) = named_all whole it
  all_specifier whole (tree.struct_tag at tag) = struct_tag_all whole at tag
  all_specifier whole (tree.struct_body at tag brace its) = struct_body_all whole at tag brace its (all_members whole its)
  all_specifier whole (tree.enum_tag at tag) = enum_tag_all whole at tag
  all_specifier whole (tree.enum_body at tag brace its comma) = enum_body_all whole at tag brace its comma (all_constants whole its)

  -- specifiers
  pub all_specification : {known : Known} {table : Shorter} → Whole known table → (its : Specification) → ReadsSpecification known table its
  all_specification whole tree.no_specifiers = no_specifiers_all whole
  all_specification whole (tree.more_specifiers it rest) = more_specifiers_all whole it rest (all_specifier whole it) (all_specification whole rest)

  -- members
  pub all_members : {known : Known} {table : Shorter} → Whole known table → (its : Members) → ReadsMembers known table its
  all_members whole tree.no_members = no_members_all whole
  all_members whole (tree.more_members its declared rest) =
      more_members_all whole its declared rest (all_specification whole its) (all_declarators whole declared) (all_members whole rest)

  -- enumeration constants
  pub all_constants : {known : Known} {table : Shorter} → Whole known table → (its : Constants) → ReadsConstants known table its
  all_constants whole tree.no_constants = no_constants_all whole
  all_constants whole (tree.constant it rest) = constant_all whole it rest (all_constants whole rest)
  all_constants whole (tree.valued_constant it e rest) = valued_constant_all whole it e rest (all_expression whole e) (all_constants whole rest)

  -- a declarator
  pub all_declarator : {known : Known} {table : Shorter} → Whole known table → (it : Declared) → ReadsDeclarator known table it
  all_declarator whole (tree.pointing pointers direct) = pointing_all whole pointers direct (all_direct whole direct)

  -- declarators
  pub all_declarators : {known : Known} {table : Shorter} → Whole known table → (its : Declarators) → ReadsDeclarators known table its
  all_declarators whole tree.no_declarators = no_declarators_all whole
  all_declarators whole (tree.more_declarators it rest) = more_declarators_all whole it rest (all_declarator whole it) (all_declarators whole rest)

  -- what follows the pointers of a declarator
  pub all_direct : {known : Known} {table : Shorter} → Whole known table → (it : Directly) → ReadsDirect known table it
  all_direct whole tree.nothing = nothing_all whole
  all_direct whole (tree.identifier it) = identifier_all whole it
  all_direct whole (tree.parens_of it) = parens_of_all whole it (all_declarator whole it)
  all_direct whole (tree.array base) = array_all whole base (all_direct whole base)
  all_direct whole (tree.sized_array base e) = sized_array_all whole base e (all_direct whole base) (all_expression whole e)
  all_direct whole (tree.function base its) = function_all whole base its (all_direct whole base) (all_parameters whole its)
  all_direct whole (tree.function_of_void base at) = function_of_void_all whole base at (all_direct whole base)

  -- parameters
  pub all_parameters : {known : Known} {table : Shorter} → Whole known table → (its : Parameters) → ReadsParameters known table its
  all_parameters whole tree.no_parameters = no_parameters_all whole
  all_parameters whole (tree.more_parameters its declared rest) =
      more_parameters_all whole its declared rest (all_specification whole its) (all_declarator whole declared) (all_parameters whole rest)
