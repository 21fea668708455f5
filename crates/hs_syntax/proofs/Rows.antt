-- Rows on which the definitions compute.
use Rattle.std.proofs.Common.{◌≡◌, ℕ, Bool, true, false, List, [], ◌∷◌, length, map, Option, Some, None, refl}
use Rattle.std.specs.Prelude.{codes}
use Rattle.hs_syntax.specs.Forms.{Form, nowhere}
use Rattle.hs_syntax.specs.Grammar.{declarator_form, expression_form, statement_form, unit_form}
use Rattle.hs_syntax.specs.Names.{keywords}
use Rattle.hs_syntax.specs.Trees as tree
use Rattle.hs_syntax.specs.Phrases.{specifier_words}
use Rattle.hs_syntax.specs.Trees.{Expression, Lefts, Specification, Declared, Statement, Compound, ExternalDeclaration, TranslationUnit}
use Rattle.hs_syntax.specs.declared.operators.Basic.{Basic}
use Rattle.hs_syntax.specs.declared.operators.Basic.TheVariants.{Int, Void}
use Rattle.hs_syntax.specs.declared.operators.Storage.TheVariants.{Typedef}
use Rattle.hs_syntax.specs.declared.operators.BinaryOperator.TheVariants.{Subtract}
use Rattle.hs_syntax.specs.declared.operators.PrefixOperator.TheVariants.{Minus}
use Rattle.hs_syntax.specs.declared.word.Word.{Word}

-- the texts of a phrase
abbrev texts : Form → List (List ℕ)
texts form = map (λ piece. piece.text) form.pieces

abbrev word : List ℕ → Word
word text = record { text = text; place = nowhere }

abbrev variable : List ℕ → Expression
variable text = tree.name (word text)

abbrev minus : Expression → Expression → Expression
minus left right = tree.binary left Subtract nowhere right

-- `a - b - c` groups to the left, and not to the right
abbrev left_grouped : Expression
left_grouped = minus (minus (variable (codes "a")) (variable (codes "b"))) (variable (codes "c"))

abbrev right_grouped : Expression
right_grouped = minus (variable (codes "a")) (minus (variable (codes "b")) (variable (codes "c")))

groups_left : (expression_form [] left_grouped).fits ≡ true
unfolding keywords
groups_left = refl

groups_not_right : (expression_form [] right_grouped).fits ≡ false
unfolding keywords
groups_not_right = refl

-- no pointers, and nothing after them
abbrev nothing_declared : Declared
nothing_declared = tree.pointing [] tree.nothing

abbrev named_type : Specification
named_type = tree.more_specifiers (tree.named (word (codes "T"))) tree.no_specifiers

abbrev one : Expression
one = tree.number (word (codes "1"))

-- `(T)-1` is a cast of a unary minus if T is a typedef name, and a subtraction if it is not
abbrev cast_of_minus : Expression
cast_of_minus = tree.cast nowhere (tree.typed_as named_type nothing_declared) (tree.prefix Minus nowhere one)

abbrev subtraction : Expression
subtraction = minus (tree.parens nowhere (variable (codes "T"))) one

same_tokens : texts (expression_form [] cast_of_minus) ≡ texts (expression_form [] subtraction)
same_tokens = refl

is_cast : ((expression_form (codes "T" ∷ []) cast_of_minus).fits ≡ true) × ((expression_form (codes "T" ∷ []) subtraction).fits ≡ false)
unfolding keywords specifier_words
is_cast = (refl, refl)

is_subtraction : ((expression_form [] cast_of_minus).fits ≡ false) × ((expression_form [] subtraction).fits ≡ true)
unfolding keywords specifier_words
is_subtraction = (refl, refl)

-- `if (a) if (b) c; else d;` has the `else` at `b`
abbrev stand_alone : List ℕ → Statement
stand_alone text = tree.expression (variable text)

abbrev inner_else : Statement
inner_else = tree.if_ nowhere (variable (codes "a")) (tree.if_else nowhere (variable (codes "b")) (stand_alone (codes "c")) (stand_alone (codes "d")))

abbrev outer_else : Statement
outer_else = tree.if_else nowhere (variable (codes "a")) (tree.if_ nowhere (variable (codes "b")) (stand_alone (codes "c"))) (stand_alone (codes "d"))

nearest : (texts (statement_form [] inner_else) ≡ texts (statement_form [] outer_else)) × ((statement_form [] inner_else).fits ≡ true)
    × ((statement_form [] outer_else).fits ≡ false)
unfolding keywords
nearest = (refl, refl, refl)

-- `a, b, c`: a comma is no left operand of another, and there is a left operand
abbrev before_comma : Expression → Lefts → Lefts
before_comma e rest = tree.more_lefts e nowhere rest

abbrev commas : Expression
commas = tree.comma (before_comma (variable (codes "a")) (before_comma (variable (codes "b")) tree.no_lefts)) (variable (codes "c"))

flat : ((expression_form [] commas).fits ≡ true)
    × (texts (expression_form [] commas) ≡ codes "a" ∷ codes "," ∷ codes "b" ∷ codes "," ∷ codes "c" ∷ [])
    × ((expression_form [] (tree.comma (before_comma commas tree.no_lefts) (variable (codes "d")))).fits ≡ false)
    × ((expression_form [] (tree.comma tree.no_lefts (variable (codes "a")))).fits ≡ false)
unfolding keywords
flat = (refl, refl, refl, refl)

-- `void Foo(void); int main(void) { Foo(); return 0; }`
abbrev basic_type : Basic → Specification
basic_type it = tree.more_specifiers (tree.basic it nowhere) tree.no_specifiers

abbrev function_of_void : List ℕ → Declared
function_of_void text = tree.pointing [] (tree.function_of_void (tree.identifier (word text)) nowhere)

abbrev foo : ExternalDeclaration
foo = tree.declaration (record { specifiers = basic_type Void; items = record { declarator = function_of_void (codes "Foo"); initialiser = None } ∷ [] })

abbrev main_body : Compound
main_body = tree.compound nowhere []
    (tree.more_statements [] (tree.expression (tree.call (variable (codes "Foo")) tree.no_expressions))
    (tree.more_statements [] (tree.return_ nowhere (Some (tree.number (word (codes "0"))))) tree.no_statements)) nowhere

abbrev program : TranslationUnit
program = foo ∷ tree.function_definition (basic_type Int) (function_of_void (codes "main")) main_body ∷ []

twenty : (length (unit_form [] program).pieces ≡ 20) × ((unit_form [] program).fits ≡ true)
unfolding keywords specifier_words
twenty = (refl, refl)

-- `typedef int T; T x;`, and not `T x; typedef int T;`
abbrev declared_as : Specification → List ℕ → ExternalDeclaration
declared_as specification text =
    tree.declaration (record {
      specifiers = specification;
      items =
          record { declarator = tree.pointing [] (tree.identifier (word text)); initialiser = None } ∷ [];
    })

abbrev makes_type : ExternalDeclaration
makes_type = declared_as (tree.more_specifiers (tree.storage Typedef nowhere) (basic_type Int)) (codes "T")

abbrev uses_type : ExternalDeclaration
uses_type = declared_as named_type (codes "x")

known_behind : ((unit_form [] (makes_type ∷ uses_type ∷ [])).fits ≡ true) × ((unit_form [] (uses_type ∷ makes_type ∷ [])).fits ≡ false)
unfolding keywords specifier_words
known_behind = (refl, refl)

-- the parameter of `f(int (T))` is a function of a T if T is a typedef name, and a T is what it names if it is not
abbrev in_parentheses : Declared
in_parentheses = tree.pointing [] (tree.parens_of (tree.pointing [] (tree.identifier (word (codes "T")))))

abbrev function_of_T : Declared
function_of_T = tree.pointing [] (tree.function tree.nothing (tree.more_parameters named_type nothing_declared tree.no_parameters))

begins_list : ((declarator_form (codes "T" ∷ []) true function_of_T).fits ≡ true) × ((declarator_form (codes "T" ∷ []) true in_parentheses).fits ≡ false)
    × ((declarator_form [] true function_of_T).fits ≡ false) × ((declarator_form [] true in_parentheses).fits ≡ true)
unfolding keywords specifier_words
begins_list = (refl, refl, refl, refl)
