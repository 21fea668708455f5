-- How each function of the parser reads, by what the others read.
use Rattle.std.proofs.Common.{◌≡◌, ℕ, suc, Bool, true, false, List, [], ◌∷◌, ◌++◌, Option, Some, None, refl, ap, sym, ◌∙◌, inl, inr}
use Rattle.std.specs.Prelude.{nat_le, ◌&&◌, ◌||◌, not, codes, if◌then◌else◌}
use Rattle.std.proofs.lemmas.Bool.{cases_Bool}
use Rattle.hs_base.specs.Options.{◌>>=◌}
use Rattle.hs_tokens.specs.Marks.{is_same_kind}
use Rattle.hs_tokens.specs.declared.token.SourceToken.{SourceToken}
use Rattle.hs_tokens.specs.declared.token.TokenKind.TheVariants.{Identifier, Punctuator}
use Rattle.hs_syntax.specs.Names.{is_name, is_type_name}
use Rattle.hs_syntax.specs.Operators.{precedence_of}
use Rattle.hs_syntax.specs.Phrases.{rank, is_type, is_named}
use Rattle.hs_syntax.specs.RowViews.{OneLeft, one_left, OneMember, one_member, OneConstant, plain_one, valued_one, OneParameter, one_parameter, expressions_from, specification_from, members_from, constants_from, declarators_from, parameters_from}
use Rattle.hs_syntax.specs.Trees as tree
use Rattle.hs_syntax.specs.Trees.{Expression, NamedType, Specified, Declared, Directly}
use Rattle.hs_syntax.specs.declared.operators.AssignOperator.{AssignOperator}
use Rattle.hs_syntax.specs.declared.operators.Basic.{Basic}
use Rattle.hs_syntax.specs.declared.operators.BinaryOperator.{BinaryOperator}
use Rattle.hs_syntax.specs.declared.operators.Dropped.{Dropped}
use Rattle.hs_syntax.specs.declared.operators.PrefixOperator.{PrefixOperator}
use Rattle.hs_syntax.specs.declared.operators.PrefixOperator.TheVariants.{Increment, Decrement, Address, Dereference, Plus, Minus, Complement, Not}
use Rattle.hs_syntax.specs.declared.operators.Storage.{Storage}
use Rattle.hs_tokens.specs.declared.place.Place.{Place}
use Rattle.hs_syntax.specs.declared.word.Word.{Word}
use Rattle.hs_expr_parser.specs.Ahead.{place_of, word_of, is_punctuator, is_keyword, binary_of, assign_of, prefix_of, postfix_of, access_of, storage_of, dropped_of, basic_of, is_ahead, is_mark_ahead, mark_at, name_at, begins_specifier, begins_type}
use Rattle.hs_expr_parser.specs.Goals as goal
use Rattle.hs_expr_parser.specs.Recursion.{Read}
use Rattle.hs_expr_parser.specs.Reading.{Known, Shorter, going_on, Operand, Assigned, joined, member_rule, reading, rule, suffix_rule, operand_by, operand_rule, another_rule, branches_rule, value_by, primary_by, unary_by, tag_at, tagged, specifier_by, specifier_rule, pointers_at, begins_list, filled, nothing_there, inside_rule, length_rule, list_rule, void_alone, declarator_rule, parameter_rule, assignment_rule, member_rule_of, constant_rule}
use Rattle.hs_expr_parser.specs.Steps.{expression_at, assignment_at, conditional_at, binary_at, cast_at, unary_at, postfix_at, primary_at, parens_at, suffix_at, suffixes_at, operand_of, type_in_parens_at, sizeof_at, infix_at, climb_at, branches_at, value_at, another_at, commas_at, arguments_at, some_arguments_at, type_at, specifiers_at, some_specifiers_at, specifier_at, struct_at, enum_at, members_at, member_at, constants_at, constant_at, declarator_at, base_at, inside_at, directs_at, length_at, list_at, declarators_at, parameters_at, parameter_at}
use Rattle.hs_expr_parser.specs.Laws.Wholly.{round}

-- ---- expressions

pub expression_step : (known : Known) (tokens : List SourceToken)
    → expression_at known tokens ≡ (assignment_at known tokens >>= (λ e. commas_at known [] e.0 e.1))
unfolding expression_at assignment_at commas_at
expression_step known tokens = refl

pub another_step : (known : Known) (tokens : List SourceToken)
    → another_at known tokens ≡ (mark_at (codes ",") tokens >>= (λ comma. assignment_at known comma.1 >>= (λ e. Some ((comma.0, e.0), e.1))))
unfolding another_at assignment_at
another_step known tokens =
    let more : Shorter → Place × List SourceToken → Read (Place × Expression) =
    λ table comma. table goal.assignment comma.1 >>= (λ e. Some ((comma.0, e.0), e.1)) in
    λ i. mark_at (codes ",") tokens >>= more (round known i)

commas_step : (known : Known) (lefts : List OneLeft) (right : Expression) (tokens : List SourceToken)
    → commas_at known lefts right tokens
    ≡ going_on (another_at known tokens) (λ it rest. commas_at known (lefts ++ one_left right it.0 ∷ []) it.1 rest) (Some (joined lefts right, tokens))
unfolding commas_at another_at
commas_step known lefts right tokens =
    λ i. going_on (another_rule (reading known) tokens) (λ it rest. round known i (goal.commas (lefts ++ one_left right it.0 ∷ []) it.1) rest)
    (Some (joined lefts right, tokens))

-- one more comma, or none
pub commas_more : (known : Known) (lefts : List OneLeft) (right : Expression) (tokens : List SourceToken) (at : Place) (next : Expression)
    (rest : List SourceToken)
    → another_at known tokens ≡ Some ((at, next), rest) → commas_at known lefts right tokens ≡ commas_at known (lefts ++ one_left right at ∷ []) next rest
commas_more known lefts right tokens at next rest is =
    commas_step known lefts right tokens
    ∙ ap (λ found. going_on found (λ it rest. commas_at known (lefts ++ one_left right it.0 ∷ []) it.1 rest) (Some (joined lefts right, tokens))) is

pub commas_end : (known : Known) (lefts : List OneLeft) (right : Expression) (tokens : List SourceToken)
    → another_at known tokens ≡ None → commas_at known lefts right tokens ≡ Some (joined lefts right, tokens)
commas_end known lefts right tokens is =
    commas_step known lefts right tokens
    ∙ ap (λ found. going_on found (λ it rest. commas_at known (lefts ++ one_left right it.0 ∷ []) it.1 rest) (Some (joined lefts right, tokens))) is

pub assignment_step : (known : Known) (tokens : List SourceToken)
    → assignment_at known tokens
    ≡ (conditional_at known tokens >>= (λ target. going_on (if nat_le 14 (rank target.0) then value_at known target.1 else None)
    (λ it rest. Some (tree.assign target.0 it.operator it.at it.value, rest)) (Some (target.0, target.1))))
unfolding assignment_at conditional_at value_at
assignment_step known tokens = refl

pub value_nothing : (known : Known) → value_at known [] ≡ None
unfolding value_at
value_nothing known = refl

value_found : (known : Known) (found : Option AssignOperator) (source : SourceToken) (rest : List SourceToken)
    → value_by (reading known) found (place_of source) rest
    ≡ (found >>= (λ operator. assignment_at known rest >>= (λ e. Some (record { operator = operator; at = place_of source; value = e.0 }, e.1))))
unfolding assignment_at
value_found known None source rest = refl
value_found known (Some operator) source rest =
    let more : Expression × List SourceToken → Read Assigned = λ e. Some (record { operator = operator; at = place_of source; value = e.0 }, e.1) in
    λ i. round known i goal.assignment rest >>= more

pub value_step : (known : Known) (source : SourceToken) (rest : List SourceToken)
    → value_at known (source ∷ rest)
    ≡ (assign_of source >>= (λ operator. assignment_at known rest >>= (λ e. Some (record { operator = operator; at = place_of source; value = e.0 }, e.1))))
unfolding value_at
value_step known source rest = value_found known (assign_of source) source rest

pub conditional_step : (known : Known) (tokens : List SourceToken)
    → conditional_at known tokens
    ≡ (binary_at known 1 tokens >>= (λ test. going_on (branches_at known test.1)
    (λ it rest. Some (tree.conditional test.0 it.at it.taken it.otherwise, rest)) (Some (test.0, test.1))))
unfolding conditional_at binary_at branches_at
conditional_step known tokens = refl

pub branches_step : (known : Known) (tokens : List SourceToken)
    → branches_at known tokens
    ≡ (mark_at (codes "?") tokens >>= (λ query. expression_at known query.1 >>= (λ taken. mark_at (codes ":") taken.1 >>= (λ colon.
    conditional_at known colon.1 >>= (λ otherwise. Some (record { at = query.0; taken = taken.0; otherwise = otherwise.0 }, otherwise.1))))))
unfolding branches_at expression_at conditional_at
branches_step known tokens = λ i. branches_rule (round known i) tokens

pub binary_step : (known : Known) (least : ℕ) (tokens : List SourceToken)
    → binary_at known least tokens ≡ (cast_at known tokens >>= (λ e. climb_at known least 10 e.0 e.1))
unfolding binary_at cast_at climb_at
binary_step known least tokens = refl

climb_step : (known : Known) (least most : ℕ) (left : Expression) (tokens : List SourceToken)
    → climb_at known least most left tokens
    ≡ going_on (infix_at known least most tokens)
    (λ it rest. climb_at known least (precedence_of it.operator) (tree.binary left it.operator it.at it.right) rest) (Some (left, tokens))
unfolding climb_at infix_at
climb_step known least most left tokens =
    λ i. going_on (operand_rule (reading known) least most tokens)
    (λ it rest. round known i (goal.climb least (precedence_of it.operator) (tree.binary left it.operator it.at it.right)) rest) (Some (left, tokens))

-- one more operator, or none
pub climb_more : (known : Known) (least most : ℕ) (left : Expression) (tokens : List SourceToken) (it : Operand) (rest : List SourceToken)
    → infix_at known least most tokens ≡ Some (it, rest)
    → climb_at known least most left tokens ≡ climb_at known least (precedence_of it.operator) (tree.binary left it.operator it.at it.right) rest
climb_more known least most left tokens it rest is =
    climb_step known least most left tokens
    ∙ ap (λ found. going_on found (λ it rest. climb_at known least (precedence_of it.operator) (tree.binary left it.operator it.at it.right) rest)
    (Some (left, tokens))) is

pub climb_end : (known : Known) (least most : ℕ) (left : Expression) (tokens : List SourceToken)
    → infix_at known least most tokens ≡ None → climb_at known least most left tokens ≡ Some (left, tokens)
climb_end known least most left tokens is =
    climb_step known least most left tokens
    ∙ ap (λ found. going_on found (λ it rest. climb_at known least (precedence_of it.operator) (tree.binary left it.operator it.at it.right) rest)
    (Some (left, tokens))) is

pub infix_nothing : (known : Known) (least most : ℕ) → infix_at known least most [] ≡ None
unfolding infix_at
infix_nothing known least most = refl

infix_found : (known : Known) (least most : ℕ) (found : Option BinaryOperator) (source : SourceToken) (rest : List SourceToken)
    → operand_by (reading known) least most found (place_of source) rest
    ≡ (found >>= (λ operator. if nat_le least (precedence_of operator) && nat_le (precedence_of operator) most
    then (binary_at known (suc (precedence_of operator)) rest >>= (λ e. Some (record { operator = operator; at = place_of source; right = e.0 }, e.1)))
    else None))
unfolding binary_at
infix_found known least most None source rest = refl
infix_found known least most (Some operator) source rest =
    let more : Expression × List SourceToken → Read Operand = λ e. Some (record { operator = operator; at = place_of source; right = e.0 }, e.1) in
    λ i. if nat_le least (precedence_of operator) && nat_le (precedence_of operator) most
    then (round known i (goal.binary (suc (precedence_of operator))) rest >>= more) else None

pub infix_step : (known : Known) (least most : ℕ) (source : SourceToken) (rest : List SourceToken)
    → infix_at known least most (source ∷ rest)
    ≡ (binary_of source >>= (λ operator. if nat_le least (precedence_of operator) && nat_le (precedence_of operator) most
    then (binary_at known (suc (precedence_of operator)) rest >>= (λ e. Some (record { operator = operator; at = place_of source; right = e.0 }, e.1)))
    else None))
unfolding infix_at
infix_step known least most source rest = infix_found known least most (binary_of source) source rest

-- ---- unary expressions

pub cast_step : (known : Known) (tokens : List SourceToken)
    → cast_at known tokens
    ≡ (if begins_type known tokens
    then (type_in_parens_at known tokens >>= (λ type. cast_at known type.1 >>= (λ e. Some (tree.cast type.0.0 type.0.1 e.0, e.1))))
    else unary_at known tokens)
unfolding cast_at type_in_parens_at unary_at
cast_step known tokens =
    let more : Shorter → (Place × NamedType) × List SourceToken → Read Expression =
    λ table type. table goal.cast type.1 >>= (λ e. Some (tree.cast type.0.0 type.0.1 e.0, e.1)) in
    λ i. if begins_type known tokens then (type_in_parens_at known tokens >>= more (round known i)) else unary_at known tokens

pub type_in_parens_step : (known : Known) (tokens : List SourceToken)
    → type_in_parens_at known tokens
    ≡ (mark_at (codes "(") tokens >>= (λ opening. type_at known opening.1 >>= (λ type. mark_at (codes ")") type.1 >>= (λ close.
    Some ((opening.0, type.0), close.1)))))
unfolding type_in_parens_at type_at
type_in_parens_step known tokens =
    let more : Shorter → Place × List SourceToken → Read (Place × NamedType) =
    λ table opening. table goal.type_name opening.1 >>= (λ type. mark_at (codes ")") type.1 >>= (λ close. Some ((opening.0, type.0), close.1))) in
    λ i. mark_at (codes "(") tokens >>= more (round known i)

pub unary_nothing : (known : Known) → unary_at known [] ≡ None
unfolding unary_at
unary_nothing known = refl

unary_found : (known : Known) (found : Option PrefixOperator) (is_sizeof : Bool) (source : SourceToken) (rest : List SourceToken) (operator : PrefixOperator)
    → found ≡ Some operator → unary_by known (reading known) found is_sizeof source rest
    ≡ (operand_of known operator rest >>= (λ e. Some (tree.prefix operator (place_of source) e.0, e.1)))
unfolding operand_of
unary_found known found is_sizeof source rest operator is = ap (λ it. unary_by known (reading known) it is_sizeof source rest) is

pub unary_prefix : (known : Known) (source : SourceToken) (rest : List SourceToken) (operator : PrefixOperator) → prefix_of source ≡ Some operator
    → unary_at known (source ∷ rest) ≡ (operand_of known operator rest >>= (λ e. Some (tree.prefix operator (place_of source) e.0, e.1)))
unfolding unary_at
unary_prefix known source rest operator is = unary_found known (prefix_of source) (is_keyword (codes "sizeof") source) source rest operator is

pub unary_sizeof : (known : Known) (source : SourceToken) (rest : List SourceToken) → prefix_of source ≡ None → is_keyword (codes "sizeof") source ≡ true
    → unary_at known (source ∷ rest) ≡ sizeof_at known (place_of source) rest
unfolding unary_at sizeof_at
unary_sizeof known source rest none is = λ i. unary_by known (reading known) (none i) (is i) source rest

pub unary_postfix : (known : Known) (source : SourceToken) (rest : List SourceToken) → prefix_of source ≡ None → is_keyword (codes "sizeof") source ≡ false
    → unary_at known (source ∷ rest) ≡ postfix_at known (source ∷ rest)
unfolding unary_at postfix_at
unary_postfix known source rest none is = λ i. unary_by known (reading known) (none i) (is i) source rest

pub operand_increment : (known : Known) (tokens : List SourceToken) → operand_of known Increment tokens ≡ unary_at known tokens
unfolding operand_of unary_at
operand_increment known tokens = λ i. round known i goal.unary tokens

pub operand_decrement : (known : Known) (tokens : List SourceToken) → operand_of known Decrement tokens ≡ unary_at known tokens
unfolding operand_of unary_at
operand_decrement known tokens = λ i. round known i goal.unary tokens

pub operand_address : (known : Known) (tokens : List SourceToken) → operand_of known Address tokens ≡ cast_at known tokens
unfolding operand_of cast_at
operand_address known tokens = λ i. round known i goal.cast tokens

pub operand_dereference : (known : Known) (tokens : List SourceToken) → operand_of known Dereference tokens ≡ cast_at known tokens
unfolding operand_of cast_at
operand_dereference known tokens = λ i. round known i goal.cast tokens

pub operand_plus : (known : Known) (tokens : List SourceToken) → operand_of known Plus tokens ≡ cast_at known tokens
unfolding operand_of cast_at
operand_plus known tokens = λ i. round known i goal.cast tokens

pub operand_minus : (known : Known) (tokens : List SourceToken) → operand_of known Minus tokens ≡ cast_at known tokens
unfolding operand_of cast_at
operand_minus known tokens = λ i. round known i goal.cast tokens

pub operand_complement : (known : Known) (tokens : List SourceToken) → operand_of known Complement tokens ≡ cast_at known tokens
unfolding operand_of cast_at
operand_complement known tokens = λ i. round known i goal.cast tokens

pub operand_not : (known : Known) (tokens : List SourceToken) → operand_of known Not tokens ≡ cast_at known tokens
unfolding operand_of cast_at
operand_not known tokens = λ i. round known i goal.cast tokens

pub sizeof_step : (known : Known) (at : Place) (rest : List SourceToken)
    → sizeof_at known at rest
    ≡ (if begins_type known rest then (type_in_parens_at known rest >>= (λ type. Some (tree.sizeof_type at type.0.1, type.1)))
    else (unary_at known rest >>= (λ e. Some (tree.sizeof_value at e.0, e.1))))
unfolding sizeof_at type_in_parens_at unary_at
sizeof_step known at rest =
    let more : Expression × List SourceToken → Read Expression = λ e. Some (tree.sizeof_value at e.0, e.1) in
    let typed : (Place × NamedType) × List SourceToken → Read Expression = λ type. Some (tree.sizeof_type at type.0.1, type.1) in
    λ i. if begins_type known rest then (type_in_parens_at known rest >>= typed) else (round known i goal.unary rest >>= more)

-- ---- postfix expressions

pub postfix_step : (known : Known) (tokens : List SourceToken) → postfix_at known tokens ≡ (primary_at known tokens >>= (λ e. suffixes_at known e.0 e.1))
unfolding postfix_at primary_at suffixes_at
postfix_step known tokens = refl

suffixes_step : (known : Known) (base : Expression) (tokens : List SourceToken)
    → suffixes_at known base tokens ≡ going_on (suffix_at known base tokens) (λ e rest. suffixes_at known e rest) (Some (base, tokens))
unfolding suffixes_at suffix_at
suffixes_step known base tokens = λ i. going_on (suffix_rule (reading known) base tokens) (λ e rest. round known i (goal.suffixes e) rest) (Some (base, tokens))

-- one more suffix, or none
pub suffixes_more : (known : Known) (base : Expression) (tokens : List SourceToken) (it : Expression) (rest : List SourceToken)
    → suffix_at known base tokens ≡ Some (it, rest) → suffixes_at known base tokens ≡ suffixes_at known it rest
suffixes_more known base tokens it rest is =
    suffixes_step known base tokens ∙ ap (λ found. going_on found (λ e rest. suffixes_at known e rest) (Some (base, tokens))) is

pub suffixes_end : (known : Known) (base : Expression) (tokens : List SourceToken)
    → suffix_at known base tokens ≡ None → suffixes_at known base tokens ≡ Some (base, tokens)
suffixes_end known base tokens is =
    suffixes_step known base tokens ∙ ap (λ found. going_on found (λ e rest. suffixes_at known e rest) (Some (base, tokens))) is

pub suffix_nothing : (known : Known) (base : Expression) → suffix_at known base [] ≡ None
unfolding suffix_at
suffix_nothing known base = refl

pub suffix_index : (known : Known) (base : Expression) (source : SourceToken) (rest : List SourceToken) → is_punctuator (codes "[") source ≡ true
    → suffix_at known base (source ∷ rest)
    ≡ (expression_at known rest >>= (λ offset. mark_at (codes "]") offset.1 >>= (λ close. Some (tree.index base (place_of source) offset.0, close.1))))
unfolding suffix_at expression_at
suffix_index known base source rest is =
    let more : Expression × List SourceToken → Read Expression =
    λ offset. mark_at (codes "]") offset.1 >>= (λ close. Some (tree.index base (place_of source) offset.0, close.1)) in
    rw is (λ i. round known i goal.expression rest >>= more)

pub suffix_call : (known : Known) (base : Expression) (source : SourceToken) (rest : List SourceToken) → is_punctuator (codes "[") source ≡ false
    → is_punctuator (codes "(") source ≡ true
    → suffix_at known base (source ∷ rest)
    ≡ (some_arguments_at known rest >>= (λ its. mark_at (codes ")") its.1 >>= (λ close. Some (tree.call base (expressions_from its.0), close.1))))
unfolding suffix_at some_arguments_at arguments_at
suffix_call known base source rest other is =
    let more : List Expression × List SourceToken → Read Expression =
    λ its. mark_at (codes ")") its.1 >>= (λ close. Some (tree.call base (expressions_from its.0), close.1)) in
    rw other (rw is (λ i. (if is_mark_ahead (codes ")") rest then Some ([], rest) else round known i (goal.arguments []) rest) >>= more))

pub suffix_other : (known : Known) (base : Expression) (source : SourceToken) (rest : List SourceToken) → is_punctuator (codes "[") source ≡ false
    → is_punctuator (codes "(") source ≡ false
    → suffix_at known base (source ∷ rest) ≡ member_rule base (access_of source) (postfix_of source) (place_of source) rest
unfolding suffix_at
suffix_other known base source rest other is = rw other (rw is refl)

pub primary_nothing : (known : Known) → primary_at known [] ≡ None
unfolding primary_at
primary_nothing known = refl

pub primary_step : (known : Known) (source : SourceToken) (rest : List SourceToken)
    → primary_at known (source ∷ rest) ≡ primary_by known (reading known) source.token.kind source rest
unfolding primary_at
primary_step known source rest = refl

pub parens_step : (known : Known) (at : Place) (rest : List SourceToken)
    → parens_at known at rest ≡ (expression_at known rest >>= (λ inner. mark_at (codes ")") inner.1 >>= (λ close. Some (tree.parens at inner.0, close.1))))
unfolding parens_at expression_at
parens_step known at rest =
    let more : Expression × List SourceToken → Read Expression = λ inner. mark_at (codes ")") inner.1 >>= (λ close. Some (tree.parens at inner.0, close.1)) in
    λ i. round known i goal.expression rest >>= more

-- ---- arguments

-- what follows arguments so far
abbrev pub arguments_on : Known → List Expression → List SourceToken → Read (List Expression)
arguments_on known its tokens = going_on (mark_at (codes ",") tokens) (λ comma rest. arguments_at known its rest) (Some (its, tokens))

pub arguments_step : (known : Known) (earlier : List Expression) (tokens : List SourceToken)
    → arguments_at known earlier tokens ≡ (assignment_at known tokens >>= (λ e. arguments_on known (earlier ++ e.0 ∷ []) e.1))
unfolding arguments_at assignment_at
arguments_step known earlier tokens =
    let more : Shorter → Expression × List SourceToken → Read (List Expression) =
    λ table e. going_on (mark_at (codes ",") e.1) (λ comma rest. table (goal.arguments (earlier ++ e.0 ∷ [])) rest) (Some (earlier ++ e.0 ∷ [], e.1)) in
    λ i. assignment_rule known (reading known) tokens >>= more (round known i)

-- ---- specifiers

pub type_step : (known : Known) (tokens : List SourceToken)
    → type_at known tokens
    ≡ (some_specifiers_at known tokens >>= (λ its. declarator_at known true its.1 >>= (λ declared.
    if is_named declared.0 then None else Some (tree.typed_as (specification_from its.0) declared.0, declared.1))))
unfolding type_at some_specifiers_at declarator_at
type_step known tokens = refl

pub specifiers_nothing : (known : Known) (typed : Bool) (earlier : List Specified) → specifiers_at known typed earlier [] ≡ Some (earlier, [])
unfolding specifiers_at
specifiers_nothing known typed earlier = refl

-- what follows specifiers so far, if one more begins
specifiers_step : (known : Known) (typed : Bool) (earlier : List Specified) (source : SourceToken) (rest : List SourceToken)
    → begins_specifier known typed source ≡ true
    → specifiers_at known typed earlier (source ∷ rest)
    ≡ (specifier_at known source rest >>= (λ it. specifiers_at known (typed || is_type it.0) (earlier ++ it.0 ∷ []) it.1))
unfolding specifiers_at specifier_at
specifiers_step known typed earlier source rest is =
    let more : Shorter → Specified × List SourceToken → Read (List Specified) =
    λ table it. table (goal.specifiers (typed || is_type it.0) (earlier ++ it.0 ∷ [])) it.1 in
    rw is (λ i. specifier_rule known (reading known) source rest >>= more (round known i))

pub specifiers_more : (known : Known) (typed : Bool) (earlier : List Specified) (source : SourceToken) (rest : List SourceToken) (it : Specified)
    (left : List SourceToken)
    → begins_specifier known typed source ≡ true → specifier_at known source rest ≡ Some (it, left)
    → specifiers_at known typed earlier (source ∷ rest) ≡ specifiers_at known (typed || is_type it) (earlier ++ it ∷ []) left
specifiers_more known typed earlier source rest it left begins is =
    let more : Specified × List SourceToken → Read (List Specified) = λ it. specifiers_at known (typed || is_type it.0) (earlier ++ it.0 ∷ []) it.1 in
    specifiers_step known typed earlier source rest begins ∙ ap (λ found. found >>= more) is

pub specifiers_none : (known : Known) (typed : Bool) (earlier : List Specified) (source : SourceToken) (rest : List SourceToken)
    → begins_specifier known typed source ≡ true → specifier_at known source rest ≡ None → specifiers_at known typed earlier (source ∷ rest) ≡ None
specifiers_none known typed earlier source rest begins is =
    let more : Specified × List SourceToken → Read (List Specified) = λ it. specifiers_at known (typed || is_type it.0) (earlier ++ it.0 ∷ []) it.1 in
    specifiers_step known typed earlier source rest begins ∙ ap (λ found. found >>= more) is

pub specifiers_end : (known : Known) (typed : Bool) (earlier : List Specified) (source : SourceToken) (rest : List SourceToken)
    → begins_specifier known typed source ≡ false → specifiers_at known typed earlier (source ∷ rest) ≡ Some (earlier, source ∷ rest)
unfolding specifiers_at
specifiers_end known typed earlier source rest is = rw is refl

pub some_specifiers_step : (known : Known) (tokens : List SourceToken)
    → some_specifiers_at known tokens ≡ (if is_ahead (begins_specifier known false) tokens then specifiers_at known false [] tokens else None)
unfolding some_specifiers_at specifiers_at
some_specifiers_step known tokens = refl

pub specifier_storage : (known : Known) (source : SourceToken) (rest : List SourceToken) (it : Storage) → storage_of source ≡ Some it
    → specifier_at known source rest ≡ Some (tree.storage it (place_of source), rest)
unfolding specifier_at
specifier_storage known source rest it is = λ i. specifier_by known (reading known) (is i) (dropped_of source) (basic_of source) source rest

pub specifier_dropped : (known : Known) (source : SourceToken) (rest : List SourceToken) (it : Dropped) → storage_of source ≡ None → dropped_of source ≡ Some it
    → specifier_at known source rest ≡ Some (tree.dropped it (place_of source), rest)
unfolding specifier_at
specifier_dropped known source rest it one is = λ i. specifier_by known (reading known) (one i) (is i) (basic_of source) source rest

pub specifier_basic : (known : Known) (source : SourceToken) (rest : List SourceToken) (it : Basic) → storage_of source ≡ None → dropped_of source ≡ None
    → basic_of source ≡ Some it → specifier_at known source rest ≡ Some (tree.basic it (place_of source), rest)
unfolding specifier_at
specifier_basic known source rest it one two is = λ i. specifier_by known (reading known) (one i) (two i) (is i) source rest

pub specifier_struct : (known : Known) (source : SourceToken) (rest : List SourceToken) → storage_of source ≡ None → dropped_of source ≡ None
    → basic_of source ≡ None
    → is_keyword (codes "struct") source ≡ true
    → specifier_at known source rest ≡ struct_at known (place_of source) (tag_at rest).0 (tag_at rest).1
unfolding specifier_at struct_at
specifier_struct known source rest one two three is =
    (λ i. specifier_by known (reading known) (one i) (two i) (three i) source rest) ∙ rw is refl

pub specifier_enum : (known : Known) (source : SourceToken) (rest : List SourceToken) → storage_of source ≡ None → dropped_of source ≡ None
    → basic_of source ≡ None
    → is_keyword (codes "struct") source ≡ false → is_keyword (codes "enum") source ≡ true
    → specifier_at known source rest ≡ enum_at known (place_of source) (tag_at rest).0 (tag_at rest).1
unfolding specifier_at enum_at
specifier_enum known source rest one two three other is =
    (λ i. specifier_by known (reading known) (one i) (two i) (three i) source rest) ∙ rw other (rw is refl)

pub specifier_named : (known : Known) (source : SourceToken) (rest : List SourceToken) → storage_of source ≡ None → dropped_of source ≡ None
    → basic_of source ≡ None
    → is_keyword (codes "struct") source ≡ false → is_keyword (codes "enum") source ≡ false
    → specifier_at known source rest ≡ (if is_type_name known source.token.text then Some (tree.named (word_of source), rest) else None)
unfolding specifier_at
specifier_named known source rest one two three other another =
    (λ i. specifier_by known (reading known) (one i) (two i) (three i) source rest) ∙ rw other (rw another refl)

-- the first token is the mark, or is not
ahead_some : (text : List ℕ) (tokens : List SourceToken) (at : Place) (rest : List SourceToken) → mark_at text tokens ≡ Some (at, rest)
    → is_mark_ahead text tokens ≡ true
ahead_some text [] at rest is = absurd cc
ahead_some text (source ∷ others) at rest is =
    elim (cases_Bool (is_punctuator text source)) [
      | inl there ↦ there
      | inr none ↦
          let nothing : Read Place = None in
          let wrong : nothing ≡ Some (at, rest) = sym (rw none refl) ∙ is in
          absurd cc
    ]

ahead_none : (text : List ℕ) (tokens : List SourceToken) → mark_at text tokens ≡ None → is_mark_ahead text tokens ≡ false
ahead_none text [] is = refl
ahead_none text (source ∷ others) is =
    elim (cases_Bool (is_punctuator text source)) [
      | inl there ↦
          let found : Read Place = Some (place_of source, others) in
          let wrong : found ≡ None = sym (rw there refl) ∙ is in
          absurd cc
      | inr none ↦ none
    ]

pub struct_body : (known : Known) (at : Place) (tag : Option Word) (rest : List SourceToken) (brace : Place) (behind : List SourceToken)
    → mark_at (codes "{") rest ≡ Some (brace, behind)
    → struct_at known at tag rest
    ≡ (members_at known [] behind >>= (λ its. mark_at (codes "}") its.1 >>= (λ close. Some (tree.struct_body at tag brace (members_from its.0), close.1))))
unfolding struct_at members_at
struct_body known at tag rest brace behind is =
    let more : Shorter → Place × List SourceToken → Read Specified =
    λ table mark. table (goal.members []) mark.1 >>=
    (λ its. mark_at (codes "}") its.1 >>= (λ close. Some (tree.struct_body at tag mark.0 (members_from its.0), close.1))) in
    rw (ahead_some (codes "{") rest brace behind is)
    ((λ i. mark_at (codes "{") rest >>= more (round known i)) ∙ ap (λ found. found >>= more (rule known (reading known))) is)

pub struct_tag : (known : Known) (at : Place) (tag : Option Word) (rest : List SourceToken) → mark_at (codes "{") rest ≡ None
    → struct_at known at tag rest ≡ tagged (tree.struct_tag at) tag rest
unfolding struct_at
struct_tag known at tag rest is = rw (ahead_none (codes "{") rest is) refl

pub enum_body : (known : Known) (at : Place) (tag : Option Word) (rest : List SourceToken) (brace : Place) (behind : List SourceToken)
    → mark_at (codes "{") rest ≡ Some (brace, behind)
    → enum_at known at tag rest
    ≡ (constants_at known [] behind >>= (λ its.
    mark_at (codes "}") its.1 >>= (λ close. Some (tree.enum_body at tag brace (constants_from its.0.0) its.0.1, close.1))))
unfolding enum_at constants_at
enum_body known at tag rest brace behind is =
    let more : Shorter → Place × List SourceToken → Read Specified =
    λ table mark. table (goal.constants []) mark.1
    >>= (λ its. mark_at (codes "}") its.1 >>= (λ close. Some (tree.enum_body at tag mark.0 (constants_from its.0.0) its.0.1, close.1))) in
    rw (ahead_some (codes "{") rest brace behind is)
    ((λ i. mark_at (codes "{") rest >>= more (round known i)) ∙ ap (λ found. found >>= more (rule known (reading known))) is)

pub enum_tag : (known : Known) (at : Place) (tag : Option Word) (rest : List SourceToken) → mark_at (codes "{") rest ≡ None
    → enum_at known at tag rest ≡ tagged (tree.enum_tag at) tag rest
unfolding enum_at
enum_tag known at tag rest is = rw (ahead_none (codes "{") rest is) refl

-- what follows members so far
abbrev pub members_on : Known → List OneMember → List SourceToken → Read (List OneMember)
members_on known its tokens = if is_mark_ahead (codes "}") tokens then Some (its, tokens) else members_at known its tokens

pub members_step : (known : Known) (earlier : List OneMember) (tokens : List SourceToken)
    → members_at known earlier tokens ≡ (member_at known tokens >>= (λ it. members_on known (earlier ++ it.0 ∷ []) it.1))
unfolding members_at member_at
members_step known earlier tokens =
    let more : Shorter → OneMember × List SourceToken → Read (List OneMember) =
    λ table it. if is_mark_ahead (codes "}") it.1 then Some (earlier ++ it.0 ∷ [], it.1) else table (goal.members (earlier ++ it.0 ∷ [])) it.1 in
    λ i. member_rule_of known (reading known) tokens >>= more (round known i)

pub member_step : (known : Known) (tokens : List SourceToken)
    → member_at known tokens
    ≡ (some_specifiers_at known tokens >>= (λ its. declarators_at known [] its.1 >>= (λ declared. mark_at (codes ";") declared.1 >>= (λ end'.
    Some (one_member (specification_from its.0) (declarators_from declared.0), end'.1)))))
unfolding member_at some_specifiers_at declarators_at
member_step known tokens =
    let more : Shorter → List Specified × List SourceToken → Read OneMember =
    λ table its. table (goal.declarators []) its.1 >>= (λ declared. mark_at (codes ";") declared.1 >>= (λ end'.
    Some (one_member (specification_from its.0) (declarators_from declared.0), end'.1))) in
    λ i. some_specifiers_at known tokens >>= more (round known i)

-- what follows enumeration constants so far
abbrev pub constants_on : Known → List OneConstant → List SourceToken → Read (List OneConstant × Bool)
constants_on known its tokens =
    going_on (mark_at (codes ",") tokens) (λ comma rest. if is_mark_ahead (codes "}") rest then Some ((its, true), rest) else constants_at known its rest)
    (Some ((its, false), tokens))

pub constants_step : (known : Known) (earlier : List OneConstant) (tokens : List SourceToken)
    → constants_at known earlier tokens ≡ (constant_at known tokens >>= (λ it. constants_on known (earlier ++ it.0 ∷ []) it.1))
unfolding constants_at constant_at
constants_step known earlier tokens =
    let more : Shorter → OneConstant × List SourceToken → Read (List OneConstant × Bool) =
    λ table it. going_on (mark_at (codes ",") it.1)
    (λ comma rest. if is_mark_ahead (codes "}") rest then Some ((earlier ++ it.0 ∷ [], true), rest) else table (goal.constants (earlier ++ it.0 ∷ [])) rest)
    (Some ((earlier ++ it.0 ∷ [], false), it.1)) in
    λ i. constant_rule (reading known) tokens >>= more (round known i)

pub constant_step : (known : Known) (tokens : List SourceToken)
    → constant_at known tokens
    ≡ (name_at tokens >>= (λ name. going_on (mark_at (codes "=") name.1) (λ equals rest. conditional_at known rest >>= (λ e. Some (valued_one name.0 e.0, e.1)))
    (Some (plain_one name.0, name.1))))
unfolding constant_at conditional_at
constant_step known tokens = λ i. constant_rule (round known i) tokens

-- ---- declarators

pub declarator_step : (known : Known) (inner : Bool) (tokens : List SourceToken)
    → declarator_at known inner tokens
    ≡ (base_at known inner (pointers_at tokens).1 >>= (λ base. directs_at known base.0 base.1 >>= (λ direct.
    Some (tree.pointing (pointers_at tokens).0 direct.0, direct.1))))
unfolding declarator_at base_at directs_at
declarator_step known inner tokens = refl

pub base_nothing : (known : Known) (inner : Bool) → base_at known inner [] ≡ nothing_there inner []
unfolding base_at
base_nothing known inner = refl

pub base_step : (known : Known) (inner : Bool) (source : SourceToken) (rest : List SourceToken)
    → base_at known inner (source ∷ rest)
    ≡ (if is_same_kind source.token.kind Identifier && is_name source.token.text then Some (tree.identifier (word_of source), rest)
    else if is_punctuator (codes "(") source && not (inner && begins_list known rest) then inside_at known inner rest
    else nothing_there inner (source ∷ rest))
unfolding base_at inside_at
base_step known inner source rest =
    elim (cases_Bool (is_same_kind source.token.kind Identifier && is_name source.token.text)) [
      | inl is ↦ rw is refl
      | inr is ↦ rw is refl
    ]

pub inside_step : (known : Known) (inner : Bool) (rest : List SourceToken)
    → inside_at known inner rest ≡ (declarator_at known inner rest >>= (λ it. mark_at (codes ")") it.1 >>= (λ close. filled it.0 close.1)))
unfolding inside_at declarator_at
inside_step known inner rest = λ i. inside_rule (round known i) inner rest

pub directs_nothing : (known : Known) (base : Directly) → directs_at known base [] ≡ Some (base, [])
unfolding directs_at
directs_nothing known base = refl

pub directs_length : (known : Known) (base : Directly) (source : SourceToken) (rest : List SourceToken) → is_punctuator (codes "[") source ≡ true
    → directs_at known base (source ∷ rest) ≡ (length_at known base rest >>= (λ it. directs_at known it.0 it.1))
unfolding directs_at length_at
directs_length known base source rest is =
    let more : Shorter → Directly × List SourceToken → Read Directly = λ table it. table (goal.directs it.0) it.1 in
    rw is (λ i. length_rule (reading known) base rest >>= more (round known i))

pub directs_list : (known : Known) (base : Directly) (source : SourceToken) (rest : List SourceToken) → is_punctuator (codes "[") source ≡ false
    → is_punctuator (codes "(") source ≡ true
    → directs_at known base (source ∷ rest) ≡ (list_at known base rest >>= (λ it. directs_at known it.0 it.1))
unfolding directs_at list_at
directs_list known base source rest other is =
    let more : Shorter → Directly × List SourceToken → Read Directly = λ table it. table (goal.directs it.0) it.1 in
    rw other (rw is (λ i. list_rule (reading known) base rest >>= more (round known i)))

pub directs_end : (known : Known) (base : Directly) (source : SourceToken) (rest : List SourceToken) → is_punctuator (codes "[") source ≡ false
    → is_punctuator (codes "(") source ≡ false → directs_at known base (source ∷ rest) ≡ Some (base, source ∷ rest)
unfolding directs_at
directs_end known base source rest other is = rw other (rw is refl)

pub length_step : (known : Known) (base : Directly) (rest : List SourceToken)
    → length_at known base rest
    ≡ going_on (mark_at (codes "]") rest) (λ close others. Some (tree.array base, others))
    (conditional_at known rest >>= (λ e. mark_at (codes "]") e.1 >>= (λ close. Some (tree.sized_array base e.0, close.1))))
unfolding length_at conditional_at
length_step known base rest = λ i. length_rule (round known i) base rest

pub list_step : (known : Known) (base : Directly) (rest : List SourceToken)
    → list_at known base rest
    ≡ going_on (mark_at (codes ")") rest) (λ close others. Some (tree.function base tree.no_parameters, others))
    (going_on (void_alone rest) (λ void others. Some (tree.function_of_void base void, others))
    (parameters_at known [] rest >>= (λ its. mark_at (codes ")") its.1 >>= (λ close. Some (tree.function base (parameters_from its.0), close.1)))))
unfolding list_at parameters_at
list_step known base rest = λ i. list_rule (round known i) base rest

-- what follows declarators so far
abbrev pub declarators_on : Known → List Declared → List SourceToken → Read (List Declared)
declarators_on known its tokens = going_on (mark_at (codes ",") tokens) (λ comma rest. declarators_at known its rest) (Some (its, tokens))

pub declarators_step : (known : Known) (earlier : List Declared) (tokens : List SourceToken)
    → declarators_at known earlier tokens ≡ (declarator_at known false tokens >>= (λ it. declarators_on known (earlier ++ it.0 ∷ []) it.1))
unfolding declarators_at declarator_at
declarators_step known earlier tokens =
    let more : Shorter → Declared × List SourceToken → Read (List Declared) =
    λ table it. going_on (mark_at (codes ",") it.1) (λ comma rest. table (goal.declarators (earlier ++ it.0 ∷ [])) rest) (Some (earlier ++ it.0 ∷ [], it.1)) in
    λ i. declarator_rule known (reading known) false tokens >>= more (round known i)

-- what follows parameters so far
abbrev pub parameters_on : Known → List OneParameter → List SourceToken → Read (List OneParameter)
parameters_on known its tokens = going_on (mark_at (codes ",") tokens) (λ comma rest. parameters_at known its rest) (Some (its, tokens))

pub parameters_step : (known : Known) (earlier : List OneParameter) (tokens : List SourceToken)
    → parameters_at known earlier tokens ≡ (parameter_at known tokens >>= (λ it. parameters_on known (earlier ++ it.0 ∷ []) it.1))
unfolding parameters_at parameter_at
parameters_step known earlier tokens =
    let more : Shorter → OneParameter × List SourceToken → Read (List OneParameter) =
    λ table it. going_on (mark_at (codes ",") it.1) (λ comma rest. table (goal.parameters (earlier ++ it.0 ∷ [])) rest) (Some (earlier ++ it.0 ∷ [], it.1)) in
    λ i. parameter_rule known (reading known) tokens >>= more (round known i)

pub parameter_step : (known : Known) (tokens : List SourceToken)
    → parameter_at known tokens
    ≡ (some_specifiers_at known tokens >>= (λ its. declarator_at known true its.1 >>= (λ declared.
    Some (one_parameter (specification_from its.0) declared.0, declared.1))))
unfolding parameter_at some_specifiers_at declarator_at
parameter_step known tokens = refl

-- ---- lists: one more entry, one that fails, and none

pub arguments_goes : (known : Known) (its : List Expression) (rest : List SourceToken) (comma : Place) (next : List SourceToken) (e : Expression)
    (left : List SourceToken)
    → mark_at (codes ",") rest ≡ Some (comma, next) → assignment_at known next ≡ Some (e, left)
    → arguments_on known its rest ≡ arguments_on known (its ++ e ∷ []) left
arguments_goes known its rest comma next e left is read =
    let more : Expression × List SourceToken → Read (List Expression) = λ it. arguments_on known (its ++ it.0 ∷ []) it.1 in
    ap (λ found. going_on found (λ comma others. arguments_at known its others) (Some (its, rest))) is ∙ arguments_step known its next
    ∙ ap (λ found. found >>= more) read

pub arguments_fails : (known : Known) (its : List Expression) (rest : List SourceToken) (comma : Place) (next : List SourceToken)
    → mark_at (codes ",") rest ≡ Some (comma, next) → assignment_at known next ≡ None → arguments_on known its rest ≡ None
arguments_fails known its rest comma next is read =
    let more : Expression × List SourceToken → Read (List Expression) = λ it. arguments_on known (its ++ it.0 ∷ []) it.1 in
    ap (λ found. going_on found (λ comma others. arguments_at known its others) (Some (its, rest))) is ∙ arguments_step known its next
    ∙ ap (λ found. found >>= more) read

pub declarators_goes : (known : Known) (its : List Declared) (rest : List SourceToken) (comma : Place) (next : List SourceToken) (it : Declared)
    (left : List SourceToken)
    → mark_at (codes ",") rest ≡ Some (comma, next) → declarator_at known false next ≡ Some (it, left)
    → declarators_on known its rest ≡ declarators_on known (its ++ it ∷ []) left
declarators_goes known its rest comma next it left is read =
    let more : Declared × List SourceToken → Read (List Declared) = λ it. declarators_on known (its ++ it.0 ∷ []) it.1 in
    ap (λ found. going_on found (λ comma others. declarators_at known its others) (Some (its, rest))) is ∙ declarators_step known its next
    ∙ ap (λ found. found >>= more) read

pub declarators_fails : (known : Known) (its : List Declared) (rest : List SourceToken) (comma : Place) (next : List SourceToken)
    → mark_at (codes ",") rest ≡ Some (comma, next) → declarator_at known false next ≡ None → declarators_on known its rest ≡ None
declarators_fails known its rest comma next is read =
    let more : Declared × List SourceToken → Read (List Declared) = λ it. declarators_on known (its ++ it.0 ∷ []) it.1 in
    ap (λ found. going_on found (λ comma others. declarators_at known its others) (Some (its, rest))) is ∙ declarators_step known its next
    ∙ ap (λ found. found >>= more) read

pub parameters_goes : (known : Known) (its : List OneParameter) (rest : List SourceToken) (comma : Place) (next : List SourceToken)
    (it : OneParameter) (left : List SourceToken)
    → mark_at (codes ",") rest ≡ Some (comma, next) → parameter_at known next ≡ Some (it, left)
    → parameters_on known its rest ≡ parameters_on known (its ++ it ∷ []) left
parameters_goes known its rest comma next it left is read =
    let more : OneParameter × List SourceToken → Read (List OneParameter) = λ it. parameters_on known (its ++ it.0 ∷ []) it.1 in
    ap (λ found. going_on found (λ comma others. parameters_at known its others) (Some (its, rest))) is ∙ parameters_step known its next
    ∙ ap (λ found. found >>= more) read

pub parameters_fails : (known : Known) (its : List OneParameter) (rest : List SourceToken) (comma : Place) (next : List SourceToken)
    → mark_at (codes ",") rest ≡ Some (comma, next) → parameter_at known next ≡ None → parameters_on known its rest ≡ None
parameters_fails known its rest comma next is read =
    let more : OneParameter × List SourceToken → Read (List OneParameter) = λ it. parameters_on known (its ++ it.0 ∷ []) it.1 in
    ap (λ found. going_on found (λ comma others. parameters_at known its others) (Some (its, rest))) is ∙ parameters_step known its next
    ∙ ap (λ found. found >>= more) read

pub members_goes : (known : Known) (its : List OneMember) (rest : List SourceToken) (it : OneMember) (left : List SourceToken)
    → is_mark_ahead (codes "}") rest ≡ false → member_at known rest ≡ Some (it, left) → members_on known its rest ≡ members_on known (its ++ it ∷ []) left
members_goes known its rest it left is read =
    let more : OneMember × List SourceToken → Read (List OneMember) = λ it. members_on known (its ++ it.0 ∷ []) it.1 in
    ap (λ test. if test then Some (its, rest) else members_at known its rest) is ∙ members_step known its rest ∙ ap (λ found. found >>= more) read

pub members_fails : (known : Known) (its : List OneMember) (rest : List SourceToken)
    → is_mark_ahead (codes "}") rest ≡ false → member_at known rest ≡ None → members_on known its rest ≡ None
members_fails known its rest is read =
    let more : OneMember × List SourceToken → Read (List OneMember) = λ it. members_on known (its ++ it.0 ∷ []) it.1 in
    ap (λ test. if test then Some (its, rest) else members_at known its rest) is ∙ members_step known its rest ∙ ap (λ found. found >>= more) read

-- after a comma stands no `}`
constants_behind : (known : Known) (its : List OneConstant) (rest : List SourceToken) (comma : Place) (next : List SourceToken)
    → mark_at (codes ",") rest ≡ Some (comma, next) → is_mark_ahead (codes "}") next ≡ false → constants_on known its rest ≡ constants_at known its next
constants_behind known its rest comma next is other =
    ap (λ found. going_on found (λ comma others.
    if is_mark_ahead (codes "}") others then Some ((its, true), others) else constants_at known its others) (Some ((its, false), rest))) is
    ∙ ap (λ test. if test then Some ((its, true), next) else constants_at known its next) other

pub constants_goes : (known : Known) (its : List OneConstant) (rest : List SourceToken) (comma : Place) (next : List SourceToken) (it : OneConstant)
    (left : List SourceToken)
    → mark_at (codes ",") rest ≡ Some (comma, next) → is_mark_ahead (codes "}") next ≡ false → constant_at known next ≡ Some (it, left)
    → constants_on known its rest ≡ constants_on known (its ++ it ∷ []) left
constants_goes known its rest comma next it left is other read =
    let more : OneConstant × List SourceToken → Read (List OneConstant × Bool) = λ it. constants_on known (its ++ it.0 ∷ []) it.1 in
    constants_behind known its rest comma next is other ∙ constants_step known its next ∙ ap (λ found. found >>= more) read

pub some_arguments_none : (known : Known) (tokens : List SourceToken) → is_mark_ahead (codes ")") tokens ≡ true
    → some_arguments_at known tokens ≡ Some ([], tokens)
unfolding some_arguments_at
some_arguments_none known tokens is = rw is refl

pub some_arguments_some : (known : Known) (tokens : List SourceToken) → is_mark_ahead (codes ")") tokens ≡ false
    → some_arguments_at known tokens ≡ (assignment_at known tokens >>= (λ e. arguments_on known (e.0 ∷ []) e.1))
unfolding some_arguments_at
some_arguments_some known tokens is = rw is (arguments_step known [] tokens)

pub some_specifiers_some : (known : Known) (source : SourceToken) (rest : List SourceToken) → begins_specifier known false source ≡ true
    → some_specifiers_at known (source ∷ rest) ≡ (specifier_at known source rest >>= (λ it. specifiers_at known (is_type it.0) (it.0 ∷ []) it.1))
some_specifiers_some known source rest is =
    some_specifiers_step known (source ∷ rest) ∙ rw is (specifiers_step known false [] source rest is)

pub some_specifiers_none : (known : Known) (source : SourceToken) (rest : List SourceToken) → begins_specifier known false source ≡ false
    → some_specifiers_at known (source ∷ rest) ≡ None
some_specifiers_none known source rest is = some_specifiers_step known (source ∷ rest) ∙ rw is refl

pub some_specifiers_nothing : (known : Known) → some_specifiers_at known [] ≡ None
some_specifiers_nothing known = some_specifiers_step known []

pub primary_parens : (known : Known) (source : SourceToken) (rest : List SourceToken) → source.token.kind ≡ Punctuator → is_punctuator (codes "(") source ≡ true
    → primary_at known (source ∷ rest) ≡ parens_at known (place_of source) rest
unfolding parens_at
primary_parens known source rest kind is =
    primary_step known source rest ∙ ap (λ it. primary_by known (reading known) it source rest) kind ∙ rw is refl

-- ---- structs, enumerations and prefix operators, by what was read of them

abbrev struct_closed : Place → Option Word → Place → (List OneMember) × List SourceToken → Read Specified
struct_closed at tag brace its = mark_at (codes "}") its.1 >>= (λ close. Some (tree.struct_body at tag brace (members_from its.0), close.1))

pub struct_list_none : (known : Known) (at : Place) (tag : Option Word) (rest : List SourceToken) (brace : Place) (behind : List SourceToken)
    → mark_at (codes "{") rest ≡ Some (brace, behind) → members_at known [] behind ≡ None → struct_at known at tag rest ≡ None
struct_list_none known at tag rest brace behind is none = struct_body known at tag rest brace behind is
    ∙ ap (λ found. found >>= struct_closed at tag brace) none

pub struct_close_none : (known : Known) (at : Place) (tag : Option Word) (rest : List SourceToken) (brace : Place) (behind : List SourceToken)
    (its : List OneMember) (close : List SourceToken)
    → mark_at (codes "{") rest ≡ Some (brace, behind) → members_at known [] behind ≡ Some (its, close) → mark_at (codes "}") close ≡ None
    → struct_at known at tag rest ≡ None
struct_close_none known at tag rest brace behind its close is read none =
    let made : Place × List SourceToken → Read Specified = λ mark. Some (tree.struct_body at tag brace (members_from its), mark.1) in
    struct_body known at tag rest brace behind is ∙ ap (λ found. found >>= struct_closed at tag brace) read ∙ ap (λ found. found >>= made) none

pub struct_whole : (known : Known) (at : Place) (tag : Option Word) (rest : List SourceToken) (brace : Place) (behind : List SourceToken)
    (its : List OneMember) (close : List SourceToken)
    (there : Place) (left : List SourceToken) → mark_at (codes "{") rest ≡ Some (brace, behind) → members_at known [] behind ≡ Some (its, close)
    → mark_at (codes "}") close ≡ Some (there, left) → struct_at known at tag rest ≡ Some (tree.struct_body at tag brace (members_from its), left)
struct_whole known at tag rest brace behind its close there left is read closed =
    let made : Place × List SourceToken → Read Specified = λ mark. Some (tree.struct_body at tag brace (members_from its), mark.1) in
    struct_body known at tag rest brace behind is ∙ ap (λ found. found >>= struct_closed at tag brace) read ∙ ap (λ found. found >>= made) closed

abbrev enum_closed : Place → Option Word → Place → (List OneConstant × Bool) × List SourceToken → Read Specified
enum_closed at tag brace its = mark_at (codes "}") its.1 >>= (λ close. Some (tree.enum_body at tag brace (constants_from its.0.0) its.0.1, close.1))

pub enum_list_none : (known : Known) (at : Place) (tag : Option Word) (rest : List SourceToken) (brace : Place) (behind : List SourceToken)
    → mark_at (codes "{") rest ≡ Some (brace, behind) → constants_at known [] behind ≡ None → enum_at known at tag rest ≡ None
enum_list_none known at tag rest brace behind is none = enum_body known at tag rest brace behind is ∙ ap (λ found. found >>= enum_closed at tag brace) none

pub enum_close_none : (known : Known) (at : Place) (tag : Option Word) (rest : List SourceToken) (brace : Place) (behind : List SourceToken)
    (its : List OneConstant × Bool) (close : List SourceToken)
    → mark_at (codes "{") rest ≡ Some (brace, behind) → constants_at known [] behind ≡ Some (its, close) → mark_at (codes "}") close ≡ None
    → enum_at known at tag rest ≡ None
enum_close_none known at tag rest brace behind its close is read none =
    let made : Place × List SourceToken → Read Specified = λ mark. Some (tree.enum_body at tag brace (constants_from its.0) its.1, mark.1) in
    enum_body known at tag rest brace behind is ∙ ap (λ found. found >>= enum_closed at tag brace) read ∙ ap (λ found. found >>= made) none

pub enum_whole : (known : Known) (at : Place) (tag : Option Word) (rest : List SourceToken) (brace : Place) (behind : List SourceToken)
    (its : List OneConstant × Bool) (close : List SourceToken)
    (there : Place) (left : List SourceToken) → mark_at (codes "{") rest ≡ Some (brace, behind) → constants_at known [] behind ≡ Some (its, close)
    → mark_at (codes "}") close ≡ Some (there, left) → enum_at known at tag rest ≡ Some (tree.enum_body at tag brace (constants_from its.0) its.1, left)
enum_whole known at tag rest brace behind its close there left is read closed =
    let made : Place × List SourceToken → Read Specified = λ mark. Some (tree.enum_body at tag brace (constants_from its.0) its.1, mark.1) in
    enum_body known at tag rest brace behind is ∙ ap (λ found. found >>= enum_closed at tag brace) read ∙ ap (λ found. found >>= made) closed

abbrev prefixed : PrefixOperator → Place → Expression × List SourceToken → Read Expression
prefixed operator at e = Some (tree.prefix operator at e.0, e.1)

pub unary_prefix_none : (known : Known) (source : SourceToken) (rest : List SourceToken) (operator : PrefixOperator) → prefix_of source ≡ Some operator
    → operand_of known operator rest ≡ None → unary_at known (source ∷ rest) ≡ None
unary_prefix_none known source rest operator is none = unary_prefix known source rest operator is
    ∙ ap (λ found. found >>= prefixed operator (place_of source)) none

pub unary_prefix_some : (known : Known) (source : SourceToken) (rest : List SourceToken) (operator : PrefixOperator) (e : Expression) (left : List SourceToken)
    → prefix_of source ≡ Some operator → operand_of known operator rest ≡ Some (e, left)
    → unary_at known (source ∷ rest) ≡ Some (tree.prefix operator (place_of source) e, left)
unary_prefix_some known source rest operator e left is read =
    unary_prefix known source rest operator is ∙ ap (λ found. found >>= prefixed operator (place_of source)) read
