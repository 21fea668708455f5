-- The first declaration of a name says its linkage.
use Rattle.std.proofs.Common.{◌≡◌, ◌==◌, ◌||◌, not, ℕ, Bool, true, false, List, [], ◌∷◌, length, Option, None, Some, refl, if◌then◌else◌}
use Rattle.hs_linkage.specs.Definitions.{says_typedef, storage_of, declares_with, declares, is_static, is_internal}
use Rattle.hs_linkage.specs.Indexes.{linkage_number, or_first, number_if, linkage_of, is_static_number}
use Rattle.hs_syntax.specs.Trees.{ExternalDeclaration}
use Rattle.hs_syntax.specs.Views.{specification_of}
use Rattle.hs_syntax.specs.declared.expr.Specifier.{Specifier}

-- there is no later one
pub or_first-none : (found : Option ℕ) → or_first found None ≡ found
or_first-none None = refl
or_first-none (Some number) = refl

-- three of them
pub or_first-assoc : (a b c : Option ℕ) → or_first (or_first a b) c ≡ or_first a (or_first b c)
or_first-assoc None b c = refl
or_first-assoc (Some number) b c = refl

-- one of two tests
pub number_if-either : (a b : Bool) (number : ℕ) → or_first (number_if a number) (number_if b number) ≡ number_if (a || b) number
number_if-either true b number = refl
number_if-either false b number = refl

-- the number says the linkage
number_static : (b : Bool) → is_static_number (Some (linkage_number b)) ≡ b
number_static true = refl
number_static false = refl

-- The first declaration of a name says whether its linkage is internal.
pub linkage_internal : (name : List ℕ) (its : List ExternalDeclaration) → is_static_number (linkage_of name its) ≡ is_internal its name
linkage_internal name [] = refl
linkage_internal name (it ∷ rest) = by_test (declares name it) (linkage_internal name rest)
  where
    by_test : (b : Bool) → is_static_number (linkage_of name rest) ≡ is_internal rest name
        → is_static_number (or_first (number_if b (linkage_number (is_static it))) (linkage_of name rest))
        ≡ (if b then is_static it else is_internal rest name)
    by_test true later = number_static (is_static it)
    by_test false later = later

-- If there is a specifier, a declaration without `typedef` declares objects and functions.
pub declares_there : (its : List Specifier) → (length its == 0) ≡ false
    → declares_with (specification_of its) ≡ not (says_typedef (storage_of (specification_of its)))
declares_there [] there = absurd cc
declares_there (it ∷ rest) there = refl
