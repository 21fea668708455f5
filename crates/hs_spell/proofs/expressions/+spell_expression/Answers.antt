use Rattle.std.proofs.Common.{◌≡◌, ◌∙◌, ◌+◌, List, true, false, ◌++◌, drop, map, ap, arith}
use Rattle.std.specs.Prelude.{codes}
use Rattle.hs_syntax.specs.Forms.{mark, mark_at, keyword_at}
use Rattle.hs_syntax.specs.Grammar.{expression_form, lefts_form, arguments_form, type_form, members_form, direct_form, specification_form, specifier_form, constants_form, declarator_form, declarators_form, parameters_form}
use Rattle.hs_syntax.specs.RowViews.{view_left, view_member, view_constant, view_parameter, expressions_from, lefts_from, members_from, constants_from, declarators_from, parameters_from}
use Rattle.hs_syntax.specs.Parts.{tag_form, comma_form}
use Rattle.hs_spell.specs.Spelling.{token_of}
use Rattle.hs_syntax.specs.Views.{view, view_type, view_direct, view_specifier, view_declarator, specification_of}
use Rattle.hs_syntax.specs.declared.expr.Constant.{Constant}
use Rattle.hs_syntax.specs.declared.expr.Declarator.{Declarator}
use Rattle.hs_syntax.specs.declared.expr.Expr.{Expr}
use Rattle.hs_syntax.specs.declared.expr.Left.{Left}
use Rattle.hs_syntax.specs.declared.expr.Member.{Member, out-Member}
use Rattle.hs_syntax.specs.declared.expr.Parameter.{Parameter}
use Rattle.hs_syntax.specs.declared.expr.Specifier.{Specifier}
use Rattle.hs_syntax.specs.RowLaws.{expressions_seen, lefts_seen, specifiers_seen, members_seen, constants_seen, parameters_seen}
use Rattle.hs_spell.proofs.Written.{behind, after, untyped, one_on, comma_on, arguments_on, lefts_on, members_on, constants_on, declarators_on, parameters_on}
use Rattle.hs_spell.proofs.expressions.+spell_expression.Goals as goal

-- an argument and its comma are written
pub expressions-loop-it-preserved : goal.expressions-loop-it-preserved
expressions-loop-it-preserved t c = (
  omega arith,
  λ known.
      comma_on (λ (its : List Expr). (arguments_form known (expressions_from (map view its))).pieces)
      c.args.its.now c.loop-it.it-index c.it-item.result _ (omega arith) c.it-item.is
      c.loop-it.left c.loop-it.tokens.items c.expression.new.tokens.items c.comma.new.tokens.items _ c.loop-it.invariant.0 (c.loop-it.invariant.1 known)
      (arguments_on known c.it-item.result _) (c.in_ok-expression.ensures known) c.in_ok-comma.ensures,
)

-- a constant and its comma
pub constants-loop-it-preserved : goal.constants-loop-it-preserved
constants-loop-it-preserved t c = (
  omega arith,
  λ known.
      comma_on (λ (its : List Constant). (constants_form known (constants_from (map view_constant its))).pieces)
      c.args.its.now c.loop-it.it-index c.it-item.result _ (omega arith) c.it-item.is
      c.loop-it.left c.loop-it.tokens.items c.constant.new.tokens.items c.comma.new.tokens.items _ c.loop-it.invariant.0 (c.loop-it.invariant.1 known)
      (constants_on known c.it-item.result _) (c.in_ok-constant.ensures known) c.in_ok-comma.ensures,
)

-- a declarator and its comma
pub declarators-loop-it-preserved : goal.declarators-loop-it-preserved
declarators-loop-it-preserved t c = (
  omega arith,
  λ known.
      comma_on (λ (its : List Declarator). (declarators_form known (declarators_from (map view_declarator its))).pieces)
      c.args.its.now c.loop-it.it-index c.it-item.result _ (omega arith) c.it-item.is
      c.loop-it.left c.loop-it.tokens.items c.declarator.new.tokens.items c.comma.new.tokens.items _ c.loop-it.invariant.0 (c.loop-it.invariant.1 known)
      (declarators_on known c.it-item.result _) (c.in_ok-declarator.ensures known false) c.in_ok-comma.ensures,
)

-- a member
pub members-loop-it-preserved : goal.members-loop-it-preserved
members-loop-it-preserved t c known =
    let it = out-Member c.it-item.result in
    let declared = (declarators_form known (declarators_from (map view_declarator it.declarators.items))).pieces in
    let specified : c.specifiers.new.tokens.items
    ≡ c.loop-it.tokens.items ++ map token_of (specification_form known false (specification_of it.specifiers.items)).pieces =
    c.in_ok-specifiers.ensures known false
    ∙ ap (λ its. c.loop-it.tokens.items ++ map token_of (specification_form known false (specification_of its)).pieces) c.deref.ensures.value in
    let named : c.declarators.new.tokens.items ≡ c.specifiers.new.tokens.items ++ map token_of declared =
    c.in_ok-declarators.ensures known
    ∙ ap (λ its. c.specifiers.new.tokens.items ++ map token_of (declarators_form known (declarators_from (map view_declarator its))).pieces)
    c.deref-in-loop-it.ensures.value in
    one_on (λ (its : List Member). (members_form known (members_from (map view_member its))).pieces)
    c.args.its.now c.loop-it.it-index c.it-item.result _ (omega arith) c.it-item.is
    c.loop-it.tokens.items c.mark.new.tokens.items _ (c.loop-it.invariant known)
    (members_on known c.it-item.result (drop (c.loop-it.it-index + 1) c.args.its.now))
    (behind c.loop-it.tokens.items c.specifiers.new.tokens.items c.mark.new.tokens.items
    (specification_form known false (specification_of it.specifiers.items)).pieces (declared ++ (mark (codes ";")).pieces) specified
    (behind c.specifiers.new.tokens.items c.declarators.new.tokens.items c.mark.new.tokens.items declared (mark (codes ";")).pieces named
    c.in_ok-mark.ensures))

-- a parameter and its comma
pub parameters-loop-it-preserved : goal.parameters-loop-it-preserved
parameters-loop-it-preserved t c = (
  omega arith,
  λ known.
      let its = c.it-item.result in
      let specified : c.specifiers.new.tokens.items
      ≡ c.loop-it.tokens.items ++ map token_of (specification_form known false (specification_of its.specifiers.items)).pieces =
      c.in_ok-specifiers.ensures known false
      ∙ ap (λ its. c.loop-it.tokens.items ++ map token_of (specification_form known false (specification_of its)).pieces) c.deref.ensures.value in
      comma_on (λ (its : List Parameter). (parameters_form known (parameters_from (map view_parameter its))).pieces)
      c.args.its.now c.loop-it.it-index c.it-item.result _ (omega arith) c.it-item.is
      c.loop-it.left c.loop-it.tokens.items c.declarator.new.tokens.items c.comma.new.tokens.items _ c.loop-it.invariant.0 (c.loop-it.invariant.1 known)
      (parameters_on known c.it-item.result _)
      (behind c.loop-it.tokens.items c.specifiers.new.tokens.items c.declarator.new.tokens.items
      (specification_form known false (specification_of its.specifiers.items)).pieces
      (declarator_form known true (view_declarator its.declarator)).pieces specified (c.in_ok-declarator.ensures known true)) c.in_ok-comma.ensures,
)

-- a specifier: what stands before changes no pieces
pub specifiers-loop-it-preserved : goal.specifiers-loop-it-preserved
specifiers-loop-it-preserved t c known typed =
    one_on (λ (its : List Specifier). (specification_form known typed (specification_of its)).pieces)
    c.args.its.now c.loop-it.it-index c.it-item.result _ (omega arith) c.it-item.is
    c.loop-it.tokens.items c.specifier.new.tokens.items _ (c.loop-it.invariant known typed)
    (ap (λ pieces. (specifier_form known (view_specifier c.it-item.result)).pieces ++ pieces) (untyped known _ typed _)) (c.in_ok-specifier.ensures known)

-- a left operand of a comma is written, and the comma
pub lefts-loop-it-preserved : goal.lefts-loop-it-preserved
lefts-loop-it-preserved t c known =
    let operand = c.it-item.result.operand in
    one_on (λ (its : List Left). (lefts_form known (lefts_from (map view_left its))).pieces)
    c.args.its.now c.loop-it.it-index c.it-item.result _ (omega arith) c.it-item.is
    c.loop-it.tokens.items c.mark_at.new.tokens.items _ (c.loop-it.invariant known)
    (lefts_on known c.it-item.result (drop (c.loop-it.it-index + 1) c.args.its.now))
    (behind c.loop-it.tokens.items c.expression.new.tokens.items c.mark_at.new.tokens.items
    (expression_form known (view operand)).pieces (mark_at c.it-item.result.at (codes ",")).pieces
    (c.in_ok-expression.ensures known) c.in_ok-mark_at.ensures)

-- the left operands of a comma are the list
pub expression-returns-in_ok-expression-in-Comma : goal.expression-returns-in_ok-expression-in-Comma
expression-returns-in_ok-expression-in-Comma t c known =
    rw (c.in-Comma.is, lefts_seen c.in-Comma.its, ← c.deref-in-Comma.ensures.value, ← c.deref-in-Comma-2.ensures)
    (behind _ c.lefts.new.tokens.items _ (lefts_form known (lefts_from (map view_left c.deref-in-Comma.result.now))).pieces
    (expression_form known (view c.deref-in-Comma-2.result.now)).pieces
    (c.in_ok-lefts-in-Comma.ensures known) (c.in_ok-expression-in-Comma.ensures known))

-- the arguments of a call are the list
pub expression-returns-in_ok-expressions-in-Call : goal.expression-returns-in_ok-expressions-in-Call
expression-returns-in_ok-expressions-in-Call t c known =
    rw (c.in-Call.is, expressions_seen c.in-Call.arguments, ← c.deref-in-Call-2.ensures.value, ← c.deref-in-Call.ensures)
    (after _ _ c.expression-in-Call.new.tokens.items _ (expression_form known (view c.deref-in-Call.result.now)).pieces _
    (c.in_ok-expression-in-Call.ensures known)
    (after _ _ c.mark-in-Call.new.tokens.items _ (mark (codes "(")).pieces _ c.in_ok-mark-in-Call.ensures
    (after _ _ c.expressions.new.tokens.items _ (arguments_form known (expressions_from (map view c.deref-in-Call-2.result.now))).pieces
    (mark (codes ")")).pieces
    (c.in_ok-expressions-in-Call.ensures known) c.mark-in-Call-2.ensures)))

-- the specifiers of a type's name are the list
pub expression-returns-in_ok-named_type-in-SizeofType : goal.expression-returns-in_ok-named_type-in-SizeofType
expression-returns-in_ok-named_type-in-SizeofType t c known =
    rw (c.in-SizeofType.is, specifiers_seen c.in-SizeofType.type_name.value.specifiers, ← c.deref-in-SizeofType.ensures)
    (after _ _ c.keyword_at-in-SizeofType.new.tokens.items _ (keyword_at c.in-SizeofType.at (codes "sizeof")).pieces
    ((mark (codes "(")).pieces ++ ((type_form known (view_type c.deref-in-SizeofType.result.now)).pieces ++ (mark (codes ")")).pieces))
    c.in_ok-keyword_at-in-SizeofType.ensures
    (after _ _ c.mark-in-SizeofType.new.tokens.items _ (mark (codes "(")).pieces _ c.in_ok-mark-in-SizeofType.ensures
    (after _ _ c.named_type.new.tokens.items _ (type_form known (view_type c.deref-in-SizeofType.result.now)).pieces (mark (codes ")")).pieces
    (c.in_ok-named_type-in-SizeofType.ensures known) c.mark-in-SizeofType-2.ensures)))

pub expression-returns-in_ok-expression-in-Cast : goal.expression-returns-in_ok-expression-in-Cast
expression-returns-in_ok-expression-in-Cast t c known =
    rw (c.in-Cast.is, specifiers_seen c.in-Cast.type_name.value.specifiers, ← c.deref-in-Cast.ensures, ← c.deref-in-Cast-2.ensures)
    (behind _ c.mark_at-in-Cast.new.tokens.items _ (mark_at c.in-Cast.at (codes "(")).pieces _ c.in_ok-mark_at-in-Cast.ensures
    (behind _ c.named_type-in-Cast.new.tokens.items _ (type_form known (view_type c.deref-in-Cast.result.now)).pieces _
    (c.in_ok-named_type-in-Cast.ensures known)
    (behind _ c.mark-in-Cast.new.tokens.items _ (mark (codes ")")).pieces (expression_form known (view c.deref-in-Cast-2.result.now)).pieces
    c.in_ok-mark-in-Cast.ensures (c.in_ok-expression-in-Cast.ensures known))))

-- the members of a struct are the list
pub specifier-returns-in_ok-members-in-Struct : goal.specifier-returns-in_ok-members-in-Struct
specifier-returns-in_ok-members-in-Struct t c known =
    rw (c.in-Struct.is, members_seen c.in-Struct.its, ← c.deref.ensures.value)
    (after _ _ c.keyword_at-in-Struct.new.tokens.items _ (keyword_at c.in-Struct.at (codes "struct")).pieces _ c.in_ok-keyword_at-in-Struct.ensures
    (after _ _ c.tag.new.tokens.items _ (tag_form c.in-Struct.name).pieces _ c.in_ok-tag-in-Struct.ensures
    (after _ _ c.mark_at.new.tokens.items _ (mark_at c.in-Struct.brace (codes "{")).pieces _ c.in_ok-mark_at-in-Struct.ensures
    (after _ _ c.members.new.tokens.items _ (members_form known (members_from (map view_member c.deref.result.now))).pieces (mark (codes "}")).pieces
    (c.in_ok-members-in-Struct.ensures known) c.mark.ensures))))

-- the constants of an enumeration are the list
pub specifier-returns-in_ok-comma-in-Enum : goal.specifier-returns-in_ok-comma-in-Enum
specifier-returns-in_ok-comma-in-Enum t c known =
    rw (c.in-Enum.is, constants_seen c.in-Enum.its, ← c.deref-in-Enum.ensures.value)
    (after _ _ c.keyword_at-in-Enum.new.tokens.items _ (keyword_at c.in-Enum.at (codes "enum")).pieces _ c.in_ok-keyword_at-in-Enum.ensures
    (after _ _ c.tag-in-Enum.new.tokens.items _ (tag_form c.in-Enum.name).pieces _ c.in_ok-tag-in-Enum.ensures
    (after _ _ c.mark_at-in-Enum.new.tokens.items _ (mark_at c.in-Enum.brace (codes "{")).pieces _ c.in_ok-mark_at-in-Enum.ensures
    (after _ _ c.constants.new.tokens.items _ (constants_form known (constants_from (map view_constant c.deref-in-Enum.result.now))).pieces _
    (c.in_ok-constants-in-Enum.ensures known)
    (after _ _ c.comma.new.tokens.items _ (comma_form c.in-Enum.stands).pieces (mark (codes "}")).pieces
    c.in_ok-comma-in-Enum.ensures c.mark-in-Enum.ensures)))))

-- the parameters of a function are the list
pub direct-returns-in_ok-parameters-in-Function : goal.direct-returns-in_ok-parameters-in-Function
direct-returns-in_ok-parameters-in-Function t c known inner =
    rw (c.in-Function.is, parameters_seen c.in-Function.its, ← c.deref-in-Function-2.ensures.value, ← c.deref-in-Function.ensures)
    (after _ _ c.direct-in-Function.new.tokens.items _ (direct_form known inner (view_direct c.deref-in-Function.result.now)).pieces _
    (c.in_ok-direct-in-Function.ensures known inner)
    (after _ _ c.mark-in-Function.new.tokens.items _ (mark (codes "(")).pieces _ c.in_ok-mark-in-Function.ensures
    (after _ _ c.parameters.new.tokens.items _ (parameters_form known (parameters_from (map view_parameter c.deref-in-Function-2.result.now))).pieces
    (mark (codes ")")).pieces
    (c.in_ok-parameters-in-Function.ensures known) c.mark-in-Function-2.ensures)))
