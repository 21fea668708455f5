-- What it means that something was found at a place: the tokens in front are a phrase of the grammar.
--     Found known goal it front rest      `it` is what the tokens of front are, with rest after them
--     IsFound table                       so it is wherever the table reads something
use Rattle.std.specs.Prelude.{◌≡◌, ◌≤◌, Bool, true, false, ◌||◌, List, ◌∷◌, ◌++◌, Some}
use Rattle.hs_tokens.specs.declared.token.SourceToken.{SourceToken}
use Rattle.hs_syntax.specs.Forms.{◌⨾◌, IsOf}
use Rattle.hs_syntax.specs.Grammar.{expression_form, lefts_form, arguments_form, type_form, specification_form, members_form, constants_form, declarator_form, declarators_form, direct_form, parameters_form}
use Rattle.hs_syntax.specs.Parts.{comma_form}
use Rattle.hs_syntax.specs.Phrases.{as_assignment, as_conditional, as_operand, as_cast, as_unary, as_postfix, is_typed, is_named, names}
use Rattle.hs_syntax.specs.RowViews.{expressions_from, lefts_from, specification_from, members_from, constants_from, declarators_from, parameters_from}
use Rattle.hs_syntax.specs.Trees.{Specified}
use Rattle.hs_expr_parser.specs.Ahead.{is_ahead, begins_specifier}
use Rattle.hs_expr_parser.specs.Goals as goal
use Rattle.hs_expr_parser.specs.Goals.{Goal, Tree}
use Rattle.hs_expr_parser.specs.Reading.{Known, Shorter}

-- more entries after the earlier ones, at least one
abbrev pub Grown : {A : Type 0} → List A → List A → (List A → Type 0) → Type 0
Grown {A = A} earlier all Holds = (first : A) × (others : List A) × (all ≡ earlier ++ first ∷ others) × Holds (first ∷ others)

abbrev pub Found : (known : Known) (it : Goal) → Tree it → List SourceToken → List SourceToken → Type 0
Found known goal.expression e front rest = IsOf (expression_form known e) front
Found known goal.assignment e front rest = IsOf (as_assignment e (expression_form known e)) front
Found known goal.conditional e front rest = IsOf (as_conditional e (expression_form known e)) front
Found known (goal.binary least) e front rest = least ≤ 11 → IsOf (as_operand least e (expression_form known e)) front
Found known goal.cast e front rest = IsOf (as_cast e (expression_form known e)) front
Found known goal.unary e front rest = IsOf (as_unary e (expression_form known e)) front
-- after what was read before
Found known (goal.commas lefts right) e front rest =
    (before : List SourceToken) → IsOf (lefts_form known (lefts_from lefts) ⨾ as_assignment right (expression_form known right)) before
    → IsOf (expression_form known e) (before ++ front)
Found known (goal.climb least most left) e front rest =
    (before : List SourceToken) → least ≤ 11 → IsOf (as_operand most left (as_operand least left (expression_form known left))) before
    → IsOf (as_operand least e (expression_form known e)) (before ++ front)
Found known (goal.suffixes base) e front rest =
    (before : List SourceToken) → IsOf (as_postfix base (expression_form known base)) before → IsOf (as_postfix e (expression_form known e)) (before ++ front)
Found known (goal.arguments earlier) all front rest = Grown earlier all (λ its. IsOf (arguments_form known (expressions_from its)) front)
Found known goal.type_name type front rest = IsOf (type_form known type) front
-- the tokens after specifiers begin none
Found known (goal.specifiers typed earlier) all front rest =
    (its : List Specified) × (all ≡ earlier ++ its) × IsOf (specification_form known typed (specification_from its)) front
    × (is_ahead (begins_specifier known (typed || is_typed (specification_from its))) rest ≡ false)
Found known (goal.members earlier) all front rest = Grown earlier all (λ its. IsOf (members_form known (members_from its)) front)
Found known (goal.constants earlier) all front rest =
    Grown earlier all.0 (λ its. IsOf (constants_form known (constants_from its) ⨾ comma_form all.1) front)
Found known (goal.declarator inner) it front rest = IsOf (declarator_form known inner it) front × (inner ≡ false → is_named it ≡ true)
Found known (goal.declarators earlier) all front rest = Grown earlier all (λ its. IsOf (declarators_form known (declarators_from its)) front)
Found known (goal.directs base) direct front rest =
    (names direct ≡ names base)
    × ((inner : Bool) (before : List SourceToken) → IsOf (direct_form known inner base) before → IsOf (direct_form known inner direct) (before ++ front))
Found known (goal.parameters earlier) all front rest = Grown earlier all (λ its. IsOf (parameters_form known (parameters_from its)) front)

-- the tokens have a front that is this, and the others are the rest
abbrev pub Takes : (known : Known) (it : Goal) → Tree it → List SourceToken → List SourceToken → Type 0
Takes known it tree tokens rest = (front : List SourceToken) × (tokens ≡ front ++ rest) × Found known it tree front rest

-- what the table reads is found
abbrev pub IsFound : Known → Shorter → Type 0
IsFound known table =
    (it : Goal) (tokens : List SourceToken) (tree : Tree it) (rest : List SourceToken) → table it tokens ≡ Some (tree, rest) → Takes known it tree tokens rest
