-- The function `main` is one of the functions of its program.
use Rattle.std.proofs.Common.{◌≡◌, ℕ, zero, suc, List, [], ◌∷◌, map, Some, None}
use Rattle.std.specs.Prelude.{slice_get}
use Rattle.hs_tree.specs.Fitting.{IsMain, IsMainOf}
use Rattle.hs_tree.specs.Views.{view_function}
use Rattle.hs_tree.specs.declared.function.Function.{Function}
use Rattle.hs_types.specs.TypeTables.{TypeTable}

-- a number without a function is not that of `main`
pub main-some : (types : TypeTable) (functions : List Function) (place : ℕ) → IsMainOf types (slice_get (map view_function functions) place)
    → slice_get functions place ≡ None → ⊥
main-some types [] place is none = is
main-some types (function ∷ functions) zero is none = cc
main-some types (function ∷ functions) (suc place) is none = main-some types functions place is none

-- and the one that is found is `main`
pub main-is : (types : TypeTable) (functions : List Function) (place : ℕ) (function : Function)
    → IsMainOf types (slice_get (map view_function functions) place) → slice_get functions place ≡ Some function
    → IsMain types (view_function function)
main-is types [] place function is at = absurd is
main-is types (it ∷ functions) zero function is at = let same : it ≡ function = cc in rw (← same) is
main-is types (it ∷ functions) (suc place) function is at = main-is types functions place function is at
