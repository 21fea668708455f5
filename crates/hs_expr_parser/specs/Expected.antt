-- What is shown of each phrase that stands at the front of tokens: it is read, if what follows ends it.
--     ended rest                      a punctuator follows that ends a declarator
--     specifiers_in, members_in, ..   the entries of a list
--     ReadsType, ReadsSpecifier, ..   the phrases
use Rattle.std.proofs.Common.{◌≡◌, ℕ, Bool, true, false, List, [], ◌∷◌, ◌++◌, Some}
use Rattle.std.specs.Prelude.{◌&&◌, ◌||◌, codes}
use Rattle.hs_base.specs.Options.{◌>>=◌}
use Rattle.hs_tokens.specs.Marks.{is_same_kind}
use Rattle.hs_tokens.specs.declared.token.SourceToken.{SourceToken}
use Rattle.hs_tokens.specs.declared.token.TokenKind.TheVariants.{Punctuator}
use Rattle.hs_syntax.specs.Forms.{◌⨾◌, IsOf}
use Rattle.hs_syntax.specs.Grammar.{type_form, specification_form, specifier_form, members_form, constants_form, declarator_form, declarators_form, direct_form, parameters_form}
use Rattle.hs_syntax.specs.Names.{is_among}
use Rattle.hs_syntax.specs.Parts.{comma_form}
use Rattle.hs_syntax.specs.Phrases.{is_typed, is_named_type, is_named, names, has_specifiers, has_members, has_constants, has_declarators, has_parameters}
use Rattle.hs_syntax.specs.RowViews.{OneMember, one_member, OneConstant, plain_one, valued_one, OneParameter, one_parameter}
use Rattle.hs_syntax.specs.Trees as tree
use Rattle.hs_syntax.specs.Trees.{NamedType, Specified, Specification, Members, Constants, Declared, Declarators, Directly, Parameters}
use Rattle.hs_expr_parser.specs.Ahead.{is_ahead, is_mark_ahead, begins_specifier}
use Rattle.hs_expr_parser.specs.Recursion.{Read}
use Rattle.hs_expr_parser.specs.Reading.{Known, Shorter, type_rule, specifier_rule, specifiers_rule, members_rule, constants_rule, base_rule, directs_rule, declarator_rule, declarators_rule, parameters_rule}

-- what may follow a declarator
abbrev pub enders : List (List ℕ)
enders = codes ")" ∷ codes "," ∷ codes ";" ∷ codes "=" ∷ codes "{" ∷ codes "}" ∷ codes "]" ∷ codes ":" ∷ []

abbrev pub is_ender : SourceToken → Bool
is_ender source = is_same_kind source.token.kind Punctuator && is_among enders source.token.text

abbrev pub ended : List SourceToken → Bool
ended [] = true
ended (source ∷ rest) = is_ender source

-- ---- the entries of lists

abbrev pub specifiers_in : Specification → List Specified
specifiers_in tree.no_specifiers = []
specifiers_in (tree.more_specifiers it rest) = it ∷ specifiers_in rest

abbrev pub members_in : Members → List OneMember
members_in tree.no_members = []
members_in (tree.more_members specification its rest) = one_member specification its ∷ members_in rest

abbrev pub constants_in : Constants → List OneConstant
constants_in tree.no_constants = []
constants_in (tree.constant it rest) = plain_one it ∷ constants_in rest
constants_in (tree.valued_constant it e rest) = valued_one it e ∷ constants_in rest

abbrev pub declarators_in : Declarators → List Declared
declarators_in tree.no_declarators = []
declarators_in (tree.more_declarators it rest) = it ∷ declarators_in rest

abbrev pub parameters_in : Parameters → List OneParameter
parameters_in tree.no_parameters = []
parameters_in (tree.more_parameters specification it rest) = one_parameter specification it ∷ parameters_in rest

-- ---- the phrases

-- a type name, up to a `)`; it begins with a specifier
abbrev pub ReadsType : Known → Shorter → NamedType → Type 0
ReadsType known table type =
    (front rest : List SourceToken) → IsOf (type_form known type) front → is_mark_ahead (codes ")") rest ≡ true
    → (type_rule known table (front ++ rest) ≡ Some (type, rest)) × (is_ahead (begins_specifier known false) (front ++ rest) ≡ true)

-- a specifier, but for a tag in front of a `{`; where it may stand, its first token begins a specifier
abbrev pub ReadsSpecifier : Known → Shorter → Specified → Type 0
ReadsSpecifier known table it =
    (front rest : List SourceToken) → IsOf (specifier_form known it) front → is_mark_ahead (codes "{") rest ≡ false
    → (source : SourceToken) × (others : List SourceToken) × (front ++ rest ≡ source ∷ others)
    × (specifier_rule known table source others ≡ Some (it, rest))
    × ((typed : Bool) → (typed && is_named_type it) ≡ false → begins_specifier known typed source ≡ true)

-- specifiers after earlier ones, up to a token that begins none
abbrev pub ReadsSpecification : Known → Shorter → Specification → Type 0
ReadsSpecification known table its =
    (typed : Bool) (earlier : List Specified) (front rest : List SourceToken) → IsOf (specification_form known typed its) front
    → is_ahead (begins_specifier known (typed || is_typed its)) rest ≡ false → is_mark_ahead (codes "{") rest ≡ false
    → (specifiers_rule known table typed earlier (front ++ rest) ≡ Some (earlier ++ specifiers_in its, rest))
    × (has_specifiers its ≡ true → is_ahead (begins_specifier known typed) (front ++ rest) ≡ true)

-- members, up to a `}`
abbrev pub ReadsMembers : Known → Shorter → Members → Type 0
ReadsMembers known table its =
    (earlier : List OneMember) (front rest : List SourceToken) → has_members its ≡ true → IsOf (members_form known its) front
    → is_mark_ahead (codes "}") rest ≡ true → members_rule known table earlier (front ++ rest) ≡ Some (earlier ++ members_in its, rest)

-- enumeration constants, and a comma or none, up to a `}`
abbrev pub ReadsConstants : Known → Shorter → Constants → Type 0
ReadsConstants known table its =
    (earlier : List OneConstant) (comma : Bool) (front rest : List SourceToken) → has_constants its ≡ true
    → IsOf (constants_form known its ⨾ comma_form comma) front → is_mark_ahead (codes "}") rest ≡ true
    → constants_rule table earlier (front ++ rest) ≡ Some ((earlier ++ constants_in its, comma), rest)

-- a declarator; outside of parameters and type names it has a name
abbrev pub ReadsDeclarator : Known → Shorter → Declared → Type 0
ReadsDeclarator known table it =
    (inner : Bool) (front rest : List SourceToken) → IsOf (declarator_form known inner it) front → (inner || is_named it) ≡ true → ended rest ≡ true
    → declarator_rule known table inner (front ++ rest) ≡ Some (it, rest)

-- what a declarator has after its pointers: after it more of the same is read
abbrev pub directly : Known → Shorter → Bool → List SourceToken → Read Directly
directly known table inner tokens = do
  base ← base_rule known table inner tokens
  directs_rule table base.0 base.1

abbrev pub ReadsDirect : Known → Shorter → Directly → Type 0
ReadsDirect known table direct =
    (inner : Bool) (source : SourceToken) (front rest : List SourceToken) → IsOf (direct_form known inner direct) (source ∷ front)
    → (inner || names direct) ≡ true → directly known table inner (source ∷ (front ++ rest)) ≡ directs_rule table direct rest

-- declarators, up to a `;`
abbrev pub ReadsDeclarators : Known → Shorter → Declarators → Type 0
ReadsDeclarators known table its =
    (earlier : List Declared) (front rest : List SourceToken) → has_declarators its ≡ true → IsOf (declarators_form known its) front
    → is_mark_ahead (codes ";") rest ≡ true → declarators_rule known table earlier (front ++ rest) ≡ Some (earlier ++ declarators_in its, rest)

-- parameters, up to a `)`; they begin with a specifier
abbrev pub ReadsParameters : Known → Shorter → Parameters → Type 0
ReadsParameters known table its =
    (earlier : List OneParameter) (front rest : List SourceToken) → has_parameters its ≡ true → IsOf (parameters_form known its) front
    → is_mark_ahead (codes ")") rest ≡ true
    → (parameters_rule known table earlier (front ++ rest) ≡ Some (earlier ++ parameters_in its, rest))
    × (is_ahead (begins_specifier known false) (front ++ rest) ≡ true)
