-- The laws follow from the tests that the grammar's forms have.
use Rattle.std.proofs.Common.{◌≡◌, ◌<◌, ◌≤◌, ℕ, suc, ◌+◌, Bool, true, false, List, leb, refl, sym, ◌∙◌, arith}
use Rattle.std.specs.Prelude.{nat_le, not, ◌&&◌, codes}
use Rattle.std.proofs.lemmas.Bool.{and_parts, leb-true}
use Rattle.hs_syntax.specs.Forms.{Form, ◌⨾◌, mark, mark_at}
use Rattle.hs_syntax.specs.Grammar.{expression_form, direct_form, declarator_form, declaration_form, items_form, statement_form, test_form, specification_form}
use Rattle.hs_syntax.specs.Laws.{GroupsLeft, ElseIsNearest, TypesBeginParameters, SpecifiersGoOn}
use Rattle.hs_syntax.specs.Operators.{precedence_of}
use Rattle.hs_syntax.specs.Parts.{in_parens}
use Rattle.hs_syntax.specs.Phrases.{begins_none, begins_parameters, has_specifiers, is_empty, is_typed, rank}
use Rattle.hs_syntax.specs.Trees as tree

pub groups_left : GroupsLeft
groups_left known a b c first second at place = (
  λ fits.
      let low : nat_le (2 + precedence_of second) (2 + precedence_of first) ≡ true = (and_parts _ _ (and_parts _ _ fits).0).0 in
      omega (arith, leb-true (2 + precedence_of second) (2 + precedence_of first) low),
  λ fits.
      let high : nat_le (2 + suc (precedence_of first)) (2 + precedence_of second) ≡ true = (and_parts _ _ (and_parts _ _ fits).1).0 in
      omega (arith, leb-true (2 + suc (precedence_of first)) (2 + precedence_of second) high),
)

-- a test that fails, after another
none_behind : (one : Bool) → (one && false) ≡ false
none_behind true = refl
none_behind false = refl

pub else_is_nearest : ElseIsNearest
else_is_nearest known outer inner body otherwise at place = none_behind (test_form known outer).fits

-- what is not so is false
not_true : (one : Bool) → not one ≡ true → one ≡ false
not_true true is = absurd cc
not_true false is = refl

pub types_begin_parameters : TypesBeginParameters
types_begin_parameters known it fits =
    let begins = begins_parameters known (declarator_form known true it).pieces in
    let inside = not begins && (declarator_form known true it).fits in
    let both : (not (is_empty it) && inside) ≡ true = (and_parts (not (is_empty it) && inside) true fits).0 in
    not_true begins (and_parts (not begins) (declarator_form known true it).fits (and_parts (not (is_empty it)) inside both).1).0

pub specifiers_go_on : SpecifiersGoOn
specifiers_go_on known it fits = (and_parts _ _ (and_parts _ _ (and_parts _ _ fits).1).1).0
