-- How the grammar's phrases are read from left to right (X3.159-1989 3.3 and 3.5): a rule for each, over a table of readings for
-- shorter lists. `Grammar.antt` of hs_syntax says what is right; the clauses of `expr` have that the reading agrees with it.
--     rule known goal         the rule of a goal, if these typedef names are known
--     reading known goal      what is read, and the tokens after it
use Rattle.std.specs.Prelude.{ℕ, suc, nat_le, Bool, true, false, not, ◌&&◌, ◌||◌, List, [], ◌∷◌, ◌++◌, codes, Option, Some, None, is_some, if◌then◌else◌}
use Rattle.hs_base.specs.Options.{◌>>=◌}
use Rattle.hs_constants.specs.Characters.{character_value}
use Rattle.hs_constants.specs.Numbers.{number_value}
use Rattle.hs_constants.specs.Strings.{string_value}
use Rattle.hs_tokens.specs.declared.token.SourceToken.{SourceToken}
use Rattle.hs_tokens.specs.declared.token.TokenKind.{TokenKind}
use Rattle.hs_tokens.specs.declared.token.TokenKind.TheVariants.{Identifier, Number, Character, Literal, Punctuator}
use Rattle.hs_syntax.specs.Names.{is_among, is_name, is_type_name}
use Rattle.hs_syntax.specs.Operators.{precedence_of}
use Rattle.hs_syntax.specs.Phrases.{rank, is_type, is_named, is_empty}
use Rattle.hs_syntax.specs.RowViews.{OneLeft, one_left, OneMember, one_member, OneConstant, plain_one, valued_one, OneParameter, one_parameter, expressions_from, lefts_from, specification_from, members_from, constants_from, declarators_from, parameters_from}
use Rattle.hs_syntax.specs.Trees as tree
use Rattle.hs_syntax.specs.Trees.{Expression, NamedType, Specified, Declared, Directly}
use Rattle.hs_syntax.specs.declared.operators.Access.{Access}
use Rattle.hs_syntax.specs.declared.operators.AssignOperator.{AssignOperator}
use Rattle.hs_syntax.specs.declared.operators.Basic.{Basic}
use Rattle.hs_syntax.specs.declared.operators.BinaryOperator.{BinaryOperator}
use Rattle.hs_syntax.specs.declared.operators.Dropped.{Dropped}
use Rattle.hs_syntax.specs.declared.operators.Pointer.{Pointer}
use Rattle.hs_syntax.specs.declared.operators.Pointer.TheVariants as pointer
use Rattle.hs_syntax.specs.declared.operators.PostfixOperator.{PostfixOperator}
use Rattle.hs_syntax.specs.declared.operators.PrefixOperator.{PrefixOperator}
use Rattle.hs_syntax.specs.declared.operators.PrefixOperator.TheVariants.{Increment, Decrement}
use Rattle.hs_syntax.specs.declared.operators.Storage.{Storage}
use Rattle.hs_tokens.specs.declared.place.Place.{Place}
use Rattle.hs_syntax.specs.declared.word.Word.{Word}
use Rattle.hs_expr_parser.specs.Ahead.{place_of, word_of, is_punctuator, is_keyword, binary_of, assign_of, prefix_of, postfix_of, access_of, storage_of, dropped_of, basic_of, is_ahead, is_mark_ahead, mark_at, place_if, name_of, name_at, literals_at, begins_specifier, begins_type}
use Rattle.hs_expr_parser.specs.Goals as goal
use Rattle.hs_expr_parser.specs.Goals.{Goal, Tree}
use Rattle.hs_expr_parser.specs.Recursion.{Read, Table, fixed}

-- the names of types that are known
abbrev pub Known : Type 0
Known = List (List ℕ)

-- readings of shorter lists
abbrev pub Shorter : Type 0
Shorter = Table Goal Tree

-- more, if something was read; else it stops
abbrev pub going_on : {A B : Type 0} → Read A → (A → List SourceToken → B) → B → B
going_on None more stop = stop
going_on (Some it) more stop = more it.0 it.1

-- ---- expressions, from the tightest (3.3.1)

-- an expression in parentheses
abbrev pub parens_rule : Shorter → Place → List SourceToken → Read Expression
parens_rule table at rest = do
  inner ← table goal.expression rest
  close ← mark_at (codes ")") inner.1
  Some (tree.parens at inner.0, close.1)

abbrev pub primary_by : Known → Shorter → TokenKind → SourceToken → List SourceToken → Read Expression
primary_by known table Identifier source rest =
    if is_name source.token.text && not (is_among known source.token.text) then Some (tree.name (word_of source), rest) else None
primary_by known table Number source rest = if is_some (number_value source.token.text) then Some (tree.number (word_of source), rest) else None
primary_by known table Character source rest =
    if is_some (character_value source.token.text) then Some (tree.character (word_of source), rest) else None
primary_by known table Literal source rest =
    if is_some (string_value source.token.text) then Some (tree.strings (word_of source) (literals_at rest).0, (literals_at rest).1) else None
primary_by known table Punctuator source rest = if is_punctuator (codes "(") source then parens_rule table (place_of source) rest else None

abbrev pub primary_rule : Known → Shorter → List SourceToken → Read Expression
primary_rule known table [] = None
primary_rule known table (source ∷ rest) = primary_by known table source.token.kind source rest

-- ---- postfix expressions (3.3.2)

abbrev pub index_rule : Shorter → Expression → Place → List SourceToken → Read Expression
index_rule table base at rest = do
  offset ← table goal.expression rest
  close ← mark_at (codes "]") offset.1
  Some (tree.index base at offset.0, close.1)

abbrev pub call_rule : Shorter → Expression → List SourceToken → Read Expression
call_rule table base rest = do
  its ← (if is_mark_ahead (codes ")") rest then Some ([], rest) else table (goal.arguments []) rest)
  close ← mark_at (codes ")") its.1
  Some (tree.call base (expressions_from its.0), close.1)

abbrev pub member_rule : Expression → Option Access → Option PostfixOperator → Place → List SourceToken → Read Expression
member_rule base (Some access) operator at rest = do
  name ← name_at rest
  Some (tree.member base access at name.0, name.1)
member_rule base None (Some operator) at rest = Some (tree.postfix base operator at, rest)
member_rule base None None at rest = None

-- what is read after a postfix expression, and it
abbrev pub suffix_rule : Shorter → Expression → List SourceToken → Read Expression
suffix_rule table base [] = None
suffix_rule table base (source ∷ rest) =
    if is_punctuator (codes "[") source then index_rule table base (place_of source) rest
    else if is_punctuator (codes "(") source then call_rule table base rest
    else member_rule base (access_of source) (postfix_of source) (place_of source) rest

abbrev pub suffixes_rule : Shorter → Expression → List SourceToken → Read Expression
suffixes_rule table base tokens = going_on (suffix_rule table base tokens) (λ e rest. table (goal.suffixes e) rest) (Some (base, tokens))

abbrev pub postfix_rule : Known → Shorter → List SourceToken → Read Expression
postfix_rule known table tokens = do
  e ← primary_rule known table tokens
  suffixes_rule table e.0 e.1

-- ---- unary expressions and casts (3.3.3, 3.3.4)

-- the operand of an operator: `++` and `--` are put before a unary expression, the others before a cast
abbrev pub operand_at : Shorter → PrefixOperator → List SourceToken → Read Expression
operand_at table Increment rest = table goal.unary rest
operand_at table Decrement rest = table goal.unary rest
operand_at table _ rest = table goal.cast rest

-- a type name in parentheses, and the place of the first
abbrev pub type_in_parens : Shorter → List SourceToken → Read (Place × NamedType)
type_in_parens table tokens = do
  opening ← mark_at (codes "(") tokens
  type ← table goal.type_name opening.1
  close ← mark_at (codes ")") type.1
  Some ((opening.0, type.0), close.1)

abbrev pub sizeof_rule : Known → Shorter → Place → List SourceToken → Read Expression
sizeof_rule known table at rest =
    if begins_type known rest then (do
      type ← type_in_parens table rest
      Some (tree.sizeof_type at type.0.1, type.1))
    else (do
      e ← table goal.unary rest
      Some (tree.sizeof_value at e.0, e.1))

abbrev pub unary_by : Known → Shorter → Option PrefixOperator → Bool → SourceToken → List SourceToken → Read Expression
unary_by known table (Some operator) is_sizeof source rest = do
  e ← operand_at table operator rest
  Some (tree.prefix operator (place_of source) e.0, e.1)
unary_by known table None true source rest = sizeof_rule known table (place_of source) rest
unary_by known table None false source rest = postfix_rule known table (source ∷ rest)

abbrev pub unary_rule : Known → Shorter → List SourceToken → Read Expression
unary_rule known table [] = None
unary_rule known table (source ∷ rest) = unary_by known table (prefix_of source) (is_keyword (codes "sizeof") source) source rest

abbrev pub cast_rule : Known → Shorter → List SourceToken → Read Expression
cast_rule known table tokens =
    if begins_type known tokens then (do
      type ← type_in_parens table tokens
      e ← table goal.cast type.1
      Some (tree.cast type.0.0 type.0.1 e.0, e.1))
    else unary_rule known table tokens

-- ---- binary operators (3.3.5 to 3.3.14)

-- an operator with its right operand
pub record Operand : Type 0 where
  pub operator : BinaryOperator
  pub at : Place
  pub right : Expression

abbrev pub operand_by : Shorter → ℕ → ℕ → Option BinaryOperator → Place → List SourceToken → Read Operand
operand_by table least most None at rest = None
operand_by table least most (Some operator) at rest =
    if nat_le least (precedence_of operator) && nat_le (precedence_of operator) most then (do
      e ← table (goal.binary (suc (precedence_of operator))) rest
      Some (record { operator = operator; at = at; right = e.0 }, e.1))
    else None

-- an operator of at least that precedence and at most the other, with its right operand
abbrev pub operand_rule : Shorter → ℕ → ℕ → List SourceToken → Read Operand
operand_rule table least most [] = None
operand_rule table least most (source ∷ rest) = operand_by table least most (binary_of source) (place_of source) rest

-- After an operator of some precedence no tighter one follows: its right operand would have taken it.
abbrev pub climb_rule : Shorter → ℕ → ℕ → Expression → List SourceToken → Read Expression
climb_rule table least most left tokens =
    going_on (operand_rule table least most tokens)
    (λ it rest. table (goal.climb least (precedence_of it.operator) (tree.binary left it.operator it.at it.right)) rest) (Some (left, tokens))

abbrev pub binary_rule : Known → Shorter → ℕ → List SourceToken → Read Expression
binary_rule known table least tokens = do
  e ← cast_rule known table tokens
  climb_rule table least 10 e.0 e.1

-- ---- conditionals, assignments and commas (3.3.15 to 3.3.17)

-- what follows a test
pub record Branches : Type 0 where
  pub at : Place
  pub taken : Expression
  pub otherwise : Expression

abbrev pub branches_rule : Shorter → List SourceToken → Read Branches
branches_rule table tokens = do
  query ← mark_at (codes "?") tokens
  taken ← table goal.expression query.1
  colon ← mark_at (codes ":") taken.1
  otherwise ← table goal.conditional colon.1
  Some (record { at = query.0; taken = taken.0; otherwise = otherwise.0 }, otherwise.1)

abbrev pub conditional_rule : Known → Shorter → List SourceToken → Read Expression
conditional_rule known table tokens = do
  test ← binary_rule known table 1 tokens
  going_on (branches_rule table test.1) (λ it rest. Some (tree.conditional test.0 it.at it.taken it.otherwise, rest)) (Some (test.0, test.1))

-- what is assigned
pub record Assigned : Type 0 where
  pub operator : AssignOperator
  pub at : Place
  pub value : Expression

abbrev pub value_by : Shorter → Option AssignOperator → Place → List SourceToken → Read Assigned
value_by table None at rest = None
value_by table (Some operator) at rest = do
  e ← table goal.assignment rest
  Some (record { operator = operator; at = at; value = e.0 }, e.1)

abbrev pub value_rule : Shorter → List SourceToken → Read Assigned
value_rule table [] = None
value_rule table (source ∷ rest) = value_by table (assign_of source) (place_of source) rest

abbrev pub assignment_rule : Known → Shorter → List SourceToken → Read Expression
assignment_rule known table tokens = do
  target ← conditional_rule known table tokens
  going_on (if nat_le 14 (rank target.0) then value_rule table target.1 else None)
      (λ it rest. Some (tree.assign target.0 it.operator it.at it.value, rest)) (Some (target.0, target.1))

-- a comma and its right operand
abbrev pub another_rule : Shorter → List SourceToken → Read (Place × Expression)
another_rule table tokens = do
  comma ← mark_at (codes ",") tokens
  e ← table goal.assignment comma.1
  Some ((comma.0, e.0), e.1)

-- the expression of left operands and the last right one
abbrev pub joined : List OneLeft → Expression → Expression
joined [] right = right
joined (left ∷ lefts) right = tree.comma (lefts_from (left ∷ lefts)) right

abbrev pub commas_rule : Shorter → List OneLeft → Expression → List SourceToken → Read Expression
commas_rule table lefts right tokens =
    going_on (another_rule table tokens) (λ it rest. table (goal.commas (lefts ++ one_left right it.0 ∷ []) it.1) rest)
    (Some (joined lefts right, tokens))

abbrev pub expression_rule : Known → Shorter → List SourceToken → Read Expression
expression_rule known table tokens = do
  e ← assignment_rule known table tokens
  commas_rule table [] e.0 e.1

abbrev pub arguments_rule : Known → Shorter → List Expression → List SourceToken → Read (List Expression)
arguments_rule known table earlier tokens = do
  e ← assignment_rule known table tokens
  going_on (mark_at (codes ",") e.1) (λ comma rest. table (goal.arguments (earlier ++ e.0 ∷ [])) rest) (Some (earlier ++ e.0 ∷ [], e.1))

-- ---- specifiers (3.5.1 to 3.5.3)

-- a tag, if one stands there
abbrev pub tag_at : List SourceToken → Option Word × List SourceToken
tag_at tokens = going_on (name_at tokens) (λ name rest. (Some name, rest)) (None, tokens)

-- a tag alone
abbrev pub tagged : (Word → Specified) → Option Word → List SourceToken → Read Specified
tagged of None rest = None
tagged of (Some tag) rest = Some (of tag, rest)

abbrev pub struct_by : Shorter → Place → Option Word → List SourceToken → Read Specified
struct_by table at tag rest =
    if is_mark_ahead (codes "{") rest then (do
      brace ← mark_at (codes "{") rest
      its ← table (goal.members []) brace.1
      close ← mark_at (codes "}") its.1
      Some (tree.struct_body at tag brace.0 (members_from its.0), close.1))
    else tagged (tree.struct_tag at) tag rest

abbrev pub enum_by : Shorter → Place → Option Word → List SourceToken → Read Specified
enum_by table at tag rest =
    if is_mark_ahead (codes "{") rest then (do
      brace ← mark_at (codes "{") rest
      its ← table (goal.constants []) brace.1
      close ← mark_at (codes "}") its.1
      Some (tree.enum_body at tag brace.0 (constants_from its.0.0) its.0.1, close.1))
    else tagged (tree.enum_tag at) tag rest

abbrev pub specifier_by : Known → Shorter → Option Storage → Option Dropped → Option Basic → SourceToken → List SourceToken → Read Specified
specifier_by known table (Some it) dropped basic source rest = Some (tree.storage it (place_of source), rest)
specifier_by known table None (Some it) basic source rest = Some (tree.dropped it (place_of source), rest)
specifier_by known table None None (Some it) source rest = Some (tree.basic it (place_of source), rest)
specifier_by known table None None None source rest =
    if is_keyword (codes "struct") source then struct_by table (place_of source) (tag_at rest).0 (tag_at rest).1
    else if is_keyword (codes "enum") source then enum_by table (place_of source) (tag_at rest).0 (tag_at rest).1
    else if is_type_name known source.token.text then Some (tree.named (word_of source), rest)
    else None

abbrev pub specifier_rule : Known → Shorter → SourceToken → List SourceToken → Read Specified
specifier_rule known table source rest = specifier_by known table (storage_of source) (dropped_of source) (basic_of source) source rest

abbrev pub specifiers_rule : Known → Shorter → Bool → List Specified → List SourceToken → Read (List Specified)
specifiers_rule known table typed earlier [] = Some (earlier, [])
specifiers_rule known table typed earlier (source ∷ rest) =
    if begins_specifier known typed source then (do
      it ← specifier_rule known table source rest
      table (goal.specifiers (typed || is_type it.0) (earlier ++ it.0 ∷ [])) it.1)
    else Some (earlier, source ∷ rest)

-- at least one specifier
abbrev pub some_specifiers_rule : Known → Shorter → List SourceToken → Read (List Specified)
some_specifiers_rule known table tokens =
    if is_ahead (begins_specifier known false) tokens then specifiers_rule known table false [] tokens else None

-- ---- declarators (3.5.4, 3.5.5)

-- `*`, or a word that means nothing
abbrev pub pointer_by : Bool → Option Dropped → Place → Option Pointer
pointer_by true dropped at = Some (pointer.Star at)
pointer_by false (Some it) at = Some (pointer.Dropped it at)
pointer_by false None at = None

abbrev pub pointer_of : SourceToken → Option Pointer
pointer_of source = pointer_by (is_punctuator (codes "*") source) (dropped_of source) (place_of source)

-- one more in front, if there is one
abbrev pub with_pointer : Option Pointer → SourceToken → List SourceToken → List Pointer × List SourceToken → List Pointer × List SourceToken
with_pointer None source rest others = ([], source ∷ rest)
with_pointer (Some it) source rest others = (it ∷ others.0, others.1)

-- the pointers in front
abbrev pub pointers_at : List SourceToken → List Pointer × List SourceToken
pointers_at [] = ([], [])
pointers_at (source ∷ rest) = with_pointer (pointer_of source) source rest (pointers_at rest)

-- a list of parameters follows a `(`
abbrev pub begins_list : Known → List SourceToken → Bool
begins_list known rest = is_mark_ahead (codes ")") rest || is_ahead (begins_specifier known false) rest

-- a declarator that is not empty, and is named or not
abbrev pub filled : Declared → List SourceToken → Read Directly
filled it rest = if is_empty it then None else Some (tree.parens_of it, rest)

-- a declarator in parentheses
abbrev pub inside_rule : Shorter → Bool → List SourceToken → Read Directly
inside_rule table inner rest = do
  it ← table (goal.declarator inner) rest
  close ← mark_at (codes ")") it.1
  filled it.0 close.1

-- nothing, if a name may be missing
abbrev pub nothing_there : Bool → List SourceToken → Read Directly
nothing_there true tokens = Some (tree.nothing, tokens)
nothing_there false tokens = None

abbrev pub base_by : Known → Shorter → Bool → Option Word → SourceToken → List SourceToken → Read Directly
base_by known table inner (Some name) source rest = Some (tree.identifier name, rest)
base_by known table inner None source rest =
    if is_punctuator (codes "(") source && not (inner && begins_list known rest) then inside_rule table inner rest
    else nothing_there inner (source ∷ rest)

-- what the rest of a declarator follows: a name, a declarator in parentheses, or nothing
abbrev pub base_rule : Known → Shorter → Bool → List SourceToken → Read Directly
base_rule known table inner [] = nothing_there inner []
base_rule known table inner (source ∷ rest) = base_by known table inner (name_of source) source rest

-- after a `[`
abbrev pub length_rule : Shorter → Directly → List SourceToken → Read Directly
length_rule table base rest =
    going_on (mark_at (codes "]") rest) (λ close others. Some (tree.array base, others)) (do
      e ← table goal.conditional rest
      close ← mark_at (codes "]") e.1
      Some (tree.sized_array base e.0, close.1))

-- `void` and a `)`
abbrev pub void_alone : List SourceToken → Read Place
void_alone [] = None
void_alone (source ∷ rest) = do
  void ← place_if (is_keyword (codes "void") source) source
  close ← mark_at (codes ")") rest
  Some (void, close.1)

-- after a `(`
abbrev pub list_rule : Shorter → Directly → List SourceToken → Read Directly
list_rule table base rest =
    going_on (mark_at (codes ")") rest) (λ close others. Some (tree.function base tree.no_parameters, others))
    (going_on (void_alone rest) (λ void others. Some (tree.function_of_void base void, others)) (do
      its ← table (goal.parameters []) rest
      close ← mark_at (codes ")") its.1
      Some (tree.function base (parameters_from its.0), close.1)))

abbrev pub directs_rule : Shorter → Directly → List SourceToken → Read Directly
directs_rule table base [] = Some (base, [])
directs_rule table base (source ∷ rest) =
    if is_punctuator (codes "[") source then (do
      it ← length_rule table base rest
      table (goal.directs it.0) it.1)
    else if is_punctuator (codes "(") source then (do
      it ← list_rule table base rest
      table (goal.directs it.0) it.1)
    else Some (base, source ∷ rest)

abbrev pub declarator_rule : Known → Shorter → Bool → List SourceToken → Read Declared
declarator_rule known table inner tokens = do
  base ← base_rule known table inner (pointers_at tokens).1
  direct ← directs_rule table base.0 base.1
  Some (tree.pointing (pointers_at tokens).0 direct.0, direct.1)

abbrev pub declarators_rule : Known → Shorter → List Declared → List SourceToken → Read (List Declared)
declarators_rule known table earlier tokens = do
  it ← declarator_rule known table false tokens
  going_on (mark_at (codes ",") it.1) (λ comma rest. table (goal.declarators (earlier ++ it.0 ∷ [])) rest) (Some (earlier ++ it.0 ∷ [], it.1))

abbrev pub parameter_rule : Known → Shorter → List SourceToken → Read OneParameter
parameter_rule known table tokens = do
  its ← some_specifiers_rule known table tokens
  declared ← declarator_rule known table true its.1
  Some (one_parameter (specification_from its.0) declared.0, declared.1)

abbrev pub parameters_rule : Known → Shorter → List OneParameter → List SourceToken → Read (List OneParameter)
parameters_rule known table earlier tokens = do
  it ← parameter_rule known table tokens
  going_on (mark_at (codes ",") it.1) (λ comma rest. table (goal.parameters (earlier ++ it.0 ∷ [])) rest) (Some (earlier ++ it.0 ∷ [], it.1))

abbrev pub type_rule : Known → Shorter → List SourceToken → Read NamedType
type_rule known table tokens = do
  its ← some_specifiers_rule known table tokens
  declared ← declarator_rule known table true its.1
  if is_named declared.0 then None else Some (tree.typed_as (specification_from its.0) declared.0, declared.1)

-- ---- members and enumeration constants (3.5.2.1, 3.5.2.2)

abbrev pub member_rule_of : Known → Shorter → List SourceToken → Read OneMember
member_rule_of known table tokens = do
  its ← some_specifiers_rule known table tokens
  declared ← table (goal.declarators []) its.1
  end ← mark_at (codes ";") declared.1
  Some (one_member (specification_from its.0) (declarators_from declared.0), end.1)

abbrev pub members_rule : Known → Shorter → List OneMember → List SourceToken → Read (List OneMember)
members_rule known table earlier tokens = do
  it ← member_rule_of known table tokens
  if is_mark_ahead (codes "}") it.1 then Some (earlier ++ it.0 ∷ [], it.1) else table (goal.members (earlier ++ it.0 ∷ [])) it.1

abbrev pub constant_rule : Shorter → List SourceToken → Read OneConstant
constant_rule table tokens = do
  name ← name_at tokens
  going_on (mark_at (codes "=") name.1) (λ equals rest. (do
    e ← table goal.conditional rest
    Some (valued_one name.0 e.0, e.1)))
      (Some (plain_one name.0, name.1))

abbrev pub constants_rule : Shorter → List OneConstant → List SourceToken → Read (List OneConstant × Bool)
constants_rule table earlier tokens = do
  it ← constant_rule table tokens
  going_on (mark_at (codes ",") it.1) (λ comma rest. if is_mark_ahead (codes "}") rest then Some ((earlier ++ it.0 ∷ [], true), rest)
      else table (goal.constants (earlier ++ it.0 ∷ [])) rest)
      (Some ((earlier ++ it.0 ∷ [], false), it.1))

-- ---- all of them

abbrev pub rule : Known → Shorter → Shorter
rule known table goal.expression tokens = expression_rule known table tokens
rule known table goal.assignment tokens = assignment_rule known table tokens
rule known table goal.conditional tokens = conditional_rule known table tokens
rule known table (goal.binary least) tokens = binary_rule known table least tokens
rule known table goal.cast tokens = cast_rule known table tokens
rule known table goal.unary tokens = unary_rule known table tokens
rule known table (goal.commas lefts right) tokens = commas_rule table lefts right tokens
rule known table (goal.climb least most left) tokens = climb_rule table least most left tokens
rule known table (goal.suffixes base) tokens = suffixes_rule table base tokens
rule known table (goal.arguments earlier) tokens = arguments_rule known table earlier tokens
rule known table goal.type_name tokens = type_rule known table tokens
rule known table (goal.specifiers typed earlier) tokens = specifiers_rule known table typed earlier tokens
rule known table (goal.members earlier) tokens = members_rule known table earlier tokens
rule known table (goal.constants earlier) tokens = constants_rule table earlier tokens
rule known table (goal.declarator inner) tokens = declarator_rule known table inner tokens
rule known table (goal.declarators earlier) tokens = declarators_rule known table earlier tokens
rule known table (goal.directs base) tokens = directs_rule table base tokens
rule known table (goal.parameters earlier) tokens = parameters_rule known table earlier tokens

-- what is read, and the tokens after it
unfoldable pub reading : Known → Shorter
reading known = fixed (rule known)
