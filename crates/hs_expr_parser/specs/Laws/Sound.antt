-- What the reading gives is in the grammar.
--     rule_found       the rules give what is found, over a table that does
--     reading_found    so does the reading
use Rattle.hs_expr_parser.specs.Goals as goal
use Rattle.hs_expr_parser.specs.Reading.{Known, Shorter, rule, reading}
use Rattle.hs_expr_parser.specs.Found.{Takes, IsFound}
use Rattle.hs_expr_parser.specs.Laws.ExpressionsFound.{expression_found, assignment_found, conditional_found, binary_within, cast_found, unary_found, commas_found, climb_within, suffixes_found, arguments_found}
use Rattle.hs_expr_parser.specs.Laws.Recursions.{fixed_always}
use Rattle.hs_expr_parser.specs.Laws.SpecifiersFound.{specifiers_found}
use Rattle.hs_expr_parser.specs.Laws.DeclaratorsFound.{declarator_found, declarators_found, directs_found, parameters_found, type_name_found, members_found, constants_found}

-- the rules give what is found, over a table that does
pub rule_found : (known : Known) (table : Shorter) → IsFound known table → IsFound known (rule known table)
rule_found known table found goal.expression tokens e rest is =
    let it = (expression_found known table found tokens).holds e rest is in
    (it.front, it.whole, it.is)
rule_found known table found goal.assignment tokens e rest is =
    let it = (assignment_found known table found tokens).holds e rest is in
    (it.front, it.whole, it.is)
rule_found known table found goal.conditional tokens e rest is =
    let it = (conditional_found known table found tokens).holds e rest is in
    (it.front, it.whole, it.is)
rule_found known table found (goal.binary least) tokens e rest is =
    let it = (binary_within known table found least tokens).holds e rest is in
    (it.front, it.whole, it.is)
rule_found known table found goal.cast tokens e rest is =
    let it = (cast_found known table found tokens).holds e rest is in
    (it.front, it.whole, it.is)
rule_found known table found goal.unary tokens e rest is =
    let it = (unary_found known table found tokens).holds e rest is in
    (it.front, it.whole, it.is)
rule_found known table found (goal.commas lefts right) tokens e rest is =
    let it = (commas_found known table found lefts right tokens).holds e rest is in
    (it.front, it.whole, it.is)
rule_found known table found (goal.climb least most left) tokens e rest is =
    let it = (climb_within known table found least most left tokens).holds e rest is in
    (it.front, it.whole, it.is)
rule_found known table found (goal.suffixes base) tokens e rest is =
    let it = (suffixes_found known table found base tokens).holds e rest is in
    (it.front, it.whole, it.is)
rule_found known table found (goal.arguments earlier) tokens all rest is =
    let it = (arguments_found known table found earlier tokens).holds all rest is in
    (it.begins.front, it.begins.whole, (it.first, it.others, it.whole, it.begins.is))
rule_found known table found goal.type_name tokens type rest is =
    let it = (type_name_found known table found tokens).holds type rest is in
    (it.front, it.whole, it.is)
rule_found known table found (goal.specifiers typed earlier) tokens all rest is =
    let it = (specifiers_found known table found typed earlier tokens).holds all rest is in
    (it.begins.front, it.begins.whole, (it.its, it.whole, it.begins.is, it.ends))
rule_found known table found (goal.members earlier) tokens all rest is =
    let it = (members_found known table found earlier tokens).holds all rest is in
    (it.begins.front, it.begins.whole, (it.first, it.others, it.whole, it.begins.is))
rule_found known table found (goal.constants earlier) tokens all rest is =
    let it = (constants_found known table found earlier tokens).holds all rest is in
    (it.begins.front, it.begins.whole, (it.first, it.others, it.whole, it.begins.is))
rule_found known table found (goal.declarator inner) tokens declared rest is =
    let it = (declarator_found known table found inner tokens).holds declared rest is in
    (it.begins.front, it.begins.whole, (it.begins.is, it.named))
rule_found known table found (goal.declarators earlier) tokens all rest is =
    let it = (declarators_found known table found earlier tokens).holds all rest is in
    (it.begins.front, it.begins.whole, (it.first, it.others, it.whole, it.begins.is))
rule_found known table found (goal.directs base) tokens direct rest is =
    let it = (directs_found known table found base tokens).holds direct rest is in
    (it.front, it.whole, (it.same, it.is))
rule_found known table found (goal.parameters earlier) tokens all rest is =
    let it = (parameters_found known table found earlier tokens).holds all rest is in
    (it.begins.front, it.begins.whole, (it.first, it.others, it.whole, it.begins.is))

-- what the reading gives is in the grammar
pub reading_found : (known : Known) → IsFound known (reading known)
unfolding reading
reading_found known = fixed_always (Takes known) (rule known) (rule_found known)
