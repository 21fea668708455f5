-- A list is what its entries make.
--     specification_again, members_again, constants_again, declarators_again, parameters_again
use Rattle.std.proofs.Common.{◌≡◌, refl, ap}
use Rattle.hs_syntax.specs.RowViews.{specification_from, members_from, constants_from, declarators_from, parameters_from}
use Rattle.hs_syntax.specs.Trees as tree
use Rattle.hs_syntax.specs.Trees.{Specification, Members, Constants, Declarators, Parameters}
use Rattle.hs_expr_parser.specs.Expected.{specifiers_in, members_in, constants_in, declarators_in, parameters_in}

-- specifiers
pub specification_again : (its : Specification) → specification_from (specifiers_in its) ≡ its
specification_again tree.no_specifiers = refl
specification_again (tree.more_specifiers it rest) = ap (tree.more_specifiers it) (specification_again rest)

-- members
pub members_again : (its : Members) → members_from (members_in its) ≡ its
members_again tree.no_members = refl
members_again (tree.more_members specification declared rest) = ap (tree.more_members specification declared) (members_again rest)

-- enumeration constants
pub constants_again : (its : Constants) → constants_from (constants_in its) ≡ its
constants_again tree.no_constants = refl
constants_again (tree.constant it rest) = ap (tree.constant it) (constants_again rest)
constants_again (tree.valued_constant it e rest) = ap (tree.valued_constant it e) (constants_again rest)

-- declarators
pub declarators_again : (its : Declarators) → declarators_from (declarators_in its) ≡ its
declarators_again tree.no_declarators = refl
declarators_again (tree.more_declarators it rest) = ap (tree.more_declarators it) (declarators_again rest)

-- parameters
pub parameters_again : (its : Parameters) → parameters_from (parameters_in its) ≡ its
parameters_again tree.no_parameters = refl
parameters_again (tree.more_parameters specification it rest) = ap (tree.more_parameters specification it) (parameters_again rest)
