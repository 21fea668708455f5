-- The first token of a phrase is at the place that the definition says.
use Rattle.std.proofs.Common.{◌≡◌, ℕ, Bool, true, List, [], ◌∷◌, ◌++◌, Option, Some, IfSome, refl, subst}
use Rattle.std.specs.Prelude.{◌&&◌, nat_le}
use Rattle.std.proofs.lemmas.Bool.{and_parts}
use Rattle.hs_tokens.specs.declared.token.SourceToken.{SourceToken}
use Rattle.hs_syntax.specs.Forms.{Piece, IsAt, Spells}
use Rattle.hs_syntax.specs.Grammar.{expression_form, lefts_form, specification_form, specifier_form, statement_form, block_form}
use Rattle.hs_syntax.specs.Laws.{FirstTokensAreFirst}
use Rattle.hs_syntax.specs.Phrases.{rank, has_lefts}
use Rattle.hs_syntax.specs.Positions.{first_of, first_of_lefts, first_of_specifier, first_of_specifiers, first_of_block, first_of_statement, BeginsAt, BeginsIfAny}
use Rattle.hs_syntax.specs.Trees as tree
use Rattle.hs_syntax.specs.Trees.{Expression, Lefts, Specified, Specification, Statement, Compound}
use Rattle.hs_tokens.specs.declared.place.Place.{Place}

-- the pieces begin with one of that place
abbrev Starts : Place → List Piece → Type 0
Starts place [] = ⊥
Starts place (piece ∷ pieces) = piece.place ≡ Some place

-- others follow
goes_on : (place : Place) (first others : List Piece) → Starts place first → Starts place (first ++ others)
goes_on place [] others starts = absurd starts
goes_on place (piece ∷ first) others starts = starts

-- a phrase under a condition is one of the grammar without it, and so is a phrase with others after it
inside : (condition fits others : Bool) → ((condition && fits) && others) ≡ true → fits ≡ true
inside condition fits others all = (and_parts condition fits (and_parts (condition && fits) others all).0).1

mutual
  expression_starts : (known : List (List ℕ)) (e : Expression) → (expression_form known e).fits ≡ true → Starts (first_of e) (expression_form known e).pieces
  expression_starts known (tree.name it) fits = refl
  expression_starts known (tree.number it) fits = refl
  expression_starts known (tree.character it) fits = refl
  expression_starts known (tree.strings first others) fits = refl
  expression_starts known (tree.parens at inner) fits = refl
  expression_starts known (tree.index base at offset) fits =
      goes_on (first_of base) (expression_form known base).pieces _
      (expression_starts known base (inside (nat_le 15 (rank base)) (expression_form known base).fits _ fits))
  expression_starts known (tree.call callee arguments) fits =
      goes_on (first_of callee) (expression_form known callee).pieces _
      (expression_starts known callee (inside (nat_le 15 (rank callee)) (expression_form known callee).fits _ fits))
  expression_starts known (tree.member base access at it) fits =
      goes_on (first_of base) (expression_form known base).pieces _
      (expression_starts known base (inside (nat_le 15 (rank base)) (expression_form known base).fits _ fits))
  expression_starts known (tree.postfix operand operator at) fits =
      goes_on (first_of operand) (expression_form known operand).pieces _
      (expression_starts known operand (inside (nat_le 15 (rank operand)) (expression_form known operand).fits _ fits))
  expression_starts known (tree.prefix operator at operand) fits = refl
  expression_starts known (tree.sizeof_value at operand) fits = refl
  expression_starts known (tree.sizeof_type at type) fits = refl
  expression_starts known (tree.cast at type operand) fits = refl
  expression_starts known (tree.binary left operator at right) fits =
      goes_on (first_of left) (expression_form known left).pieces _ (expression_starts known left (inside _ (expression_form known left).fits _ fits))
  expression_starts known (tree.conditional test at taken otherwise) fits =
      goes_on (first_of test) (expression_form known test).pieces _ (expression_starts known test (inside _ (expression_form known test).fits _ fits))
  expression_starts known (tree.assign target operator at e) fits =
      goes_on (first_of target) (expression_form known target).pieces _ (expression_starts known target (inside _ (expression_form known target).fits _ fits))
  expression_starts known (tree.comma lefts right) fits =
      let first = and_parts (has_lefts lefts && (lefts_form known lefts).fits) _ fits in
      let both = and_parts (has_lefts lefts) (lefts_form known lefts).fits first.0 in
      goes_on (first_of_lefts (first_of right) lefts) (lefts_form known lefts).pieces _ (lefts_start known (first_of right) lefts both.0 both.1)

  lefts_start : (known : List (List ℕ)) (other : Place) (lefts : Lefts) → has_lefts lefts ≡ true → (lefts_form known lefts).fits ≡ true
      → Starts (first_of_lefts other lefts) (lefts_form known lefts).pieces
  lefts_start known other tree.no_lefts some fits = absurd cc
  lefts_start known other (tree.more_lefts e at rest) some fits =
      goes_on (first_of e) (expression_form known e).pieces _ (expression_starts known e (inside (nat_le 1 (rank e)) (expression_form known e).fits _ fits))

block_starts : (known : List (List ℕ)) (it : Compound) → Starts (first_of_block it) (block_form known it).pieces
block_starts known (tree.compound opening declarations its closing) = refl

statement_starts : (known : List (List ℕ)) (it : Statement) → (statement_form known it).fits ≡ true
    → Starts (first_of_statement it) (statement_form known it).pieces
statement_starts known (tree.block it) fits = block_starts known it
statement_starts known (tree.expression e) fits =
    goes_on (first_of e) (expression_form known e).pieces _ (expression_starts known e (and_parts (expression_form known e).fits true fits).0)
statement_starts known (tree.empty at) fits = refl
statement_starts known (tree.if_ at test body) fits = refl
statement_starts known (tree.if_else at test taken otherwise) fits = refl
statement_starts known (tree.while_ at test body) fits = refl
statement_starts known (tree.do_ at body test) fits = refl
statement_starts known (tree.for_ at first test step body) fits = refl
statement_starts known (tree.switch_ at e it) fits = refl
statement_starts known (tree.break_ at) fits = refl
statement_starts known (tree.continue_ at) fits = refl
statement_starts known (tree.return_ at e) fits = refl

specifier_starts : (known : List (List ℕ)) (it : Specified) → Starts (first_of_specifier it) (specifier_form known it).pieces
specifier_starts known (tree.storage it at) = refl
specifier_starts known (tree.dropped it at) = refl
specifier_starts known (tree.basic it at) = refl
specifier_starts known (tree.named it) = refl
specifier_starts known (tree.struct_tag at tag) = refl
specifier_starts known (tree.struct_body at tag brace its) = refl
specifier_starts known (tree.enum_tag at tag) = refl
specifier_starts known (tree.enum_body at tag brace its comma) = refl

-- the first piece is the first token's
begins : (place : Place) (pieces : List Piece) (sources : List SourceToken) → Starts place pieces → Spells pieces sources → BeginsAt place sources
begins place [] sources starts spells = absurd starts
begins place (piece ∷ pieces) [] starts spells = absurd spells
begins place (piece ∷ pieces) (source ∷ sources) starts spells =
    let P : Option Place → Type 0 = λ at. IfSome at (IsAt source) in subst P starts spells.2

specifiers_begin : (known : List (List ℕ)) (typed : Bool) (its : Specification) (sources : List SourceToken)
    → Spells (specification_form known typed its).pieces sources → BeginsIfAny (first_of_specifiers its) sources
specifiers_begin known typed tree.no_specifiers [] spells = tt
specifiers_begin known typed tree.no_specifiers (source ∷ sources) spells = absurd spells
specifiers_begin known typed (tree.more_specifiers it rest) sources spells =
    begins (first_of_specifier it) (specification_form known typed (tree.more_specifiers it rest)).pieces sources
    (goes_on (first_of_specifier it) (specifier_form known it).pieces _ (specifier_starts known it)) spells

pub first_tokens : FirstTokensAreFirst
first_tokens known sources = (
  λ e is. begins (first_of e) (expression_form known e).pieces sources (expression_starts known e is.0) is.1,
  λ it is. begins (first_of_statement it) (statement_form known it).pieces sources (statement_starts known it is.0) is.1,
  λ typed its is. specifiers_begin known typed its sources is.1,
)
