-- What parsers of declarations and statements need of the phrases that these hold: each leaves fewer tokens, what is read is a phrase
-- of the grammar, and a phrase of the grammar is read if what follows ends it.
--     expression_short, ..      fewer tokens are left
--     expression_begins, ..     the tokens in front are of the grammar's form
--     expression_reads, ..      what stands in front is read
use Rattle.std.proofs.Common.{◌≡◌, suc, Bool, true, false, List, length, Some, ◌∙◌, arith}
use Rattle.std.specs.Prelude.{◌++◌, codes}
use Rattle.hs_tokens.specs.declared.token.SourceToken.{SourceToken}
use Rattle.hs_syntax.specs.Forms.{IsOf}
use Rattle.hs_syntax.specs.Grammar.{expression_form, specification_form, declarator_form}
use Rattle.hs_syntax.specs.Phrases.{as_assignment, as_conditional, is_typed, is_named, has_specifiers}
use Rattle.hs_syntax.specs.Trees.{Expression, Specification, Specified, Declared}
use Rattle.hs_expr_parser.specs.Ahead.{is_ahead, is_mark_ahead, begins_specifier, stops}
use Rattle.hs_expr_parser.specs.Expected.{ended, specifiers_in}
use Rattle.hs_expr_parser.specs.Goals as goal
use Rattle.hs_expr_parser.specs.Reading.{Known, reading}
use Rattle.hs_expr_parser.specs.Steps.{expression_at, assignment_at, conditional_at, some_specifiers_at, declarator_at}
use Rattle.hs_expr_parser.specs.Laws.Bound.{Alike, alike_self}
use Rattle.hs_expr_parser.specs.Laws.Complete.{all_expression, all_specification, all_declarator}
use Rattle.hs_expr_parser.specs.Laws.Yields.{Yields}
use Rattle.hs_expr_parser.specs.Laws.Plain as plain
use Rattle.hs_expr_parser.specs.Laws.Wholly.{whole}
use Rattle.hs_expr_parser.specs.Laws.Primaries.{ranked}
use Rattle.hs_expr_parser.specs.Laws.Sound.{reading_found}
use Rattle.hs_expr_parser.specs.Laws.SpecifiersFound.{SomeSpecified, some_found}
use Rattle.hs_expr_parser.specs.Laws.Spelled.{Begins}
use Rattle.hs_expr_parser.specs.Laws.Tables.{Declares}
use Rattle.hs_expr_parser.specs.Laws.TypesRead.{some_read}

-- ---- fewer tokens are left

pub expression_short : (known : Known) (tokens : List SourceToken) → Alike (length tokens) (expression_at known tokens) (expression_at known tokens)
unfolding expression_at
expression_short known tokens = alike_self (plain.expression known (length tokens) (reading known) (whole known).short tokens (omega arith)).short

pub assignment_short : (known : Known) (tokens : List SourceToken) → Alike (length tokens) (assignment_at known tokens) (assignment_at known tokens)
unfolding assignment_at
assignment_short known tokens = alike_self (plain.assignment known (length tokens) (reading known) (whole known).short tokens (omega arith)).short

pub conditional_short : (known : Known) (tokens : List SourceToken) → Alike (length tokens) (conditional_at known tokens) (conditional_at known tokens)
unfolding conditional_at
conditional_short known tokens = alike_self (plain.conditional known (length tokens) (reading known) (whole known).short tokens (omega arith)).short

pub specifiers_short : (known : Known) (tokens : List SourceToken)
    → Alike (length tokens) (some_specifiers_at known tokens) (some_specifiers_at known tokens)
unfolding some_specifiers_at
specifiers_short known tokens = alike_self (plain.some_specifiers known (length tokens) (reading known) (whole known).short tokens (omega arith)).short

pub declarator_short : (known : Known) (inner : Bool) (tokens : List SourceToken)
    → Alike (suc (length tokens)) (declarator_at known inner tokens) (declarator_at known inner tokens)
unfolding declarator_at
declarator_short known inner tokens =
    alike_self (plain.declarator known (length tokens) (reading known) (whole known).short inner tokens (omega arith)).short

-- ---- what is read

pub expression_begins : (known : Known) (tokens : List SourceToken)
    → Yields (λ (e : Expression) rest. Begins (expression_form known e) tokens rest) (expression_at known tokens)
unfolding expression_at
expression_begins known tokens = record {
  holds = λ e rest is.
      let found = reading_found known goal.expression tokens e rest ((whole known).plain goal.expression tokens ∙ is) in
      record { front = found.0; whole = found.1; is = found.2 };
}

pub assignment_begins : (known : Known) (tokens : List SourceToken)
    → Yields (λ (e : Expression) rest. Begins (as_assignment e (expression_form known e)) tokens rest) (assignment_at known tokens)
unfolding assignment_at
assignment_begins known tokens = record {
  holds = λ e rest is.
      let found = reading_found known goal.assignment tokens e rest ((whole known).plain goal.assignment tokens ∙ is) in
      record { front = found.0; whole = found.1; is = found.2 };
}

pub conditional_begins : (known : Known) (tokens : List SourceToken)
    → Yields (λ (e : Expression) rest. Begins (as_conditional e (expression_form known e)) tokens rest) (conditional_at known tokens)
unfolding conditional_at
conditional_begins known tokens = record {
  holds = λ e rest is.
      let found = reading_found known goal.conditional tokens e rest ((whole known).plain goal.conditional tokens ∙ is) in
      record { front = found.0; whole = found.1; is = found.2 };
}

pub specifiers_begin : (known : Known) (tokens : List SourceToken)
    → Yields (λ (its : List Specified) rest. SomeSpecified known its tokens rest) (some_specifiers_at known tokens)
unfolding some_specifiers_at
specifiers_begin known tokens = some_found known (reading known) (reading_found known) tokens

pub declarator_begins : (known : Known) (inner : Bool) (tokens : List SourceToken)
    → Yields (λ (it : Declared) rest. Declares known inner it tokens rest) (declarator_at known inner tokens)
unfolding declarator_at
declarator_begins known inner tokens = record {
  holds = λ it rest is.
      let found = reading_found known (goal.declarator inner) tokens it rest ((whole known).plain (goal.declarator inner) tokens ∙ is) in
      record { begins = record { front = found.0; whole = found.1; is = found.2.0 }; named = found.2.1 };
}

-- ---- what stands in front

pub expression_reads : (known : Known) (e : Expression) (front rest : List SourceToken) → IsOf (expression_form known e) front → stops 0 rest ≡ true
    → expression_at known (front ++ rest) ≡ Some (e, rest)
unfolding expression_at
expression_reads known e front rest fits ends = (all_expression (whole known) e front rest fits).expression.exact ends

pub assignment_reads : (known : Known) (e : Expression) (front rest : List SourceToken) → IsOf (as_assignment e (expression_form known e)) front
    → stops 1 rest ≡ true → assignment_at known (front ++ rest) ≡ Some (e, rest)
unfolding assignment_at
assignment_reads known e front rest fits ends =
    let parts = ranked 1 e (expression_form known e) front fits in
    ((all_expression (whole known) e front rest parts.1).assignment parts.0).exact ends

pub conditional_reads : (known : Known) (e : Expression) (front rest : List SourceToken) → IsOf (as_conditional e (expression_form known e)) front
    → stops 2 rest ≡ true → conditional_at known (front ++ rest) ≡ Some (e, rest)
unfolding conditional_at
conditional_reads known e front rest fits ends =
    let parts = ranked 2 e (expression_form known e) front fits in
    ((all_expression (whole known) e front rest parts.1).conditional parts.0).exact ends

-- an expression begins with no specifier
pub expression_starts : (known : Known) (e : Expression) (front rest : List SourceToken) → IsOf (expression_form known e) front
    → is_ahead (begins_specifier known false) (front ++ rest) ≡ false
expression_starts known e front rest fits = (all_expression (whole known) e front rest fits).begins

-- specifiers, at least one, up to a token that begins none
pub specifiers_read : (known : Known) (its : Specification) (front rest : List SourceToken) → has_specifiers its ≡ true
    → IsOf (specification_form known false its) front → is_ahead (begins_specifier known (is_typed its)) rest ≡ false → is_mark_ahead (codes "{") rest ≡ false
    → (some_specifiers_at known (front ++ rest) ≡ Some (specifiers_in its, rest)) × (is_ahead (begins_specifier known false) (front ++ rest) ≡ true)
unfolding some_specifiers_at
specifiers_read known its front rest has fits none apart =
    some_read known (reading known) its front rest (all_specification (whole known) its) has fits none apart

-- a declarator with a name, up to what may follow one
pub declarator_reads : (known : Known) (it : Declared) (front rest : List SourceToken) → IsOf (declarator_form known false it) front
    → is_named it ≡ true → ended rest ≡ true → declarator_at known false (front ++ rest) ≡ Some (it, rest)
unfolding declarator_at
declarator_reads known it front rest fits named ends = all_declarator (whole known) it false front rest fits named ends
