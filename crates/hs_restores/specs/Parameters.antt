-- How many parameters a function has.
use Rattle.std.proofs.Common.{◌≡◌, ℕ, zero, suc, List, [], ◌∷◌, length, take, map, min, Option, Some, None, slice_get, sym, ◌∙◌, refl}
use Rattle.std.proofs.lemmas.List.{length-take}
use Rattle.hs_code.specs.Codes.{signature_of}
use Rattle.hs_facts.specs.Names.{parameter_count}
use Rattle.hs_tree.specs.Fitting.{count_types}
use Rattle.hs_tree.specs.Views.{view_function}
use Rattle.hs_tree.specs.declared.function.Function.{Function}

-- those of a function that is there
abbrev pub count_in : Option Function → ℕ
count_in None = 0
count_in (Some it) = min it.parameters (length it.variables)

pub counted : (functions : List Function) (place : ℕ)
    → count_in (slice_get functions place) ≡ parameter_count (slice_get (map signature_of (map view_function functions)) place)
counted [] place = refl
counted (it ∷ rest) zero = sym (count_types (take it.parameters it.variables) ∙ length-take it.parameters it.variables)
counted (it ∷ rest) (suc place) = counted rest place
