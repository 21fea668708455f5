use Rattle.std.proofs.Common.{rules, ◌≡◌, Bool, true, false, Option, Some, map, refl, sym, ap, ◌∙◌, if◌then◌else◌}
use Rattle.hs_functions.specs.Functions.{is_name, parameters_of_direct}
use Rattle.hs_functions.proofs.declarators.parameters_of.Goals as goal
use Rattle.hs_syntax.specs.RowLaws.{parameters_seen}
use Rattle.hs_syntax.specs.RowViews.{view_parameter, parameters_from}
use Rattle.hs_syntax.specs.Trees.{Parameters}
use Rattle.hs_syntax.specs.Views.{view_direct}

listed-if : (b : Bool) (its : Parameters) (other : Option Parameters) → b ≡ true → (if b then Some its else other) ≡ Some its
listed-if true its other here = refl
listed-if false its other here = absurd cc

-- the parameters are those of the name
pub returns-then-is_name : goal.returns-then-is_name
returns-then-is_name c =
    let its : Parameters = parameters_from (map view_parameter c.in-Function.parameters.items) in
    let seen : parameters_of_direct (view_direct c.direct.direct.now)
    ≡ (if is_name (view_direct c.in-Function.base.value) then Some its else parameters_of_direct (view_direct c.in-Function.base.value)) =
    rw (c.in-Function.is, parameters_seen c.in-Function.parameters) refl in
    let here : is_name (view_direct c.in-Function.base.value) ≡ true = search rules in
    ap (λ items. Some (parameters_from (map view_parameter items))) c.as_slice.ensures.value
    ∙ sym (listed-if (is_name (view_direct c.in-Function.base.value)) its (parameters_of_direct (view_direct c.in-Function.base.value)) here)
    ∙ sym seen ∙ c.direct.invariant
