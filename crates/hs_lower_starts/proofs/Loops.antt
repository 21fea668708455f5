-- The scalars of a variable, one on.
--     scalars_on, scalars_next     the first one, and then the others
--     scalars_end                  none is left
use Rattle.std.proofs.Common.{◌≡◌, ◌≤◌, List, [], ◌∷◌, length, Option, Some, sym, ◌∙◌, ap}
use Rattle.hs_code.specs.declared.function_code.Placed.{Placed}
use Rattle.hs_lower_expressions.specs.Emits.{most_ops}
use Rattle.hs_lower_expressions.specs.Emitting.{◌>>=◌}
use Rattle.hs_lower_expressions.specs.EmittingLaws.{fits_limited}
use Rattle.hs_meaning.specs.Scalars.{Scalar}
use Rattle.hs_meaning.specs.Settings.{Setting}
use Rattle.hs_meaning.specs.Statements.{part_for}
use Rattle.hs_tree.specs.declared.constant.Part.{Part}
use Rattle.hs_lower_starts.specs.Steps.{scalar_steps, scalars_by, scalars_steps}
use Rattle.hs_lower_starts.specs.declared.puts.Target.{Target}

module _ (setting : Setting) (to : Target) (parts : List Part) (its : List Scalar) where
  module _ (it : Scalar) (rest : List Scalar) (is : its ≡ it ∷ rest) (part : Option Part) (that : part ≡ part_for it parts) where
    -- all are the first one and the others
    pub scalars_on : (ops : List Placed)
        → scalars_steps setting to parts its ops
        ≡ (scalar_steps setting to it part ops >>= (λ mid. scalars_steps setting to parts rest mid))
    unfolding scalars_steps
    scalars_on ops =
        ap (λ list. scalars_by setting to parts list ops) is
        ∙ ap (λ found. scalar_steps setting to it found ops >>= (λ mid. scalars_by setting to parts rest mid)) (sym that)

    -- after the first one, the others come to what all come to
    pub scalars_next : (ops mid : List Placed) → scalar_steps setting to it part ops ≡ Some mid
        → scalars_steps setting to parts rest mid ≡ scalars_steps setting to parts its ops
    scalars_next ops mid emitted = sym (scalars_on ops ∙ ap (λ x. x >>= (λ mid. scalars_steps setting to parts rest mid)) emitted)

  -- nothing is put any more
  pub scalars_end : its ≡ [] → (ops : List Placed) → length ops ≤ most_ops → scalars_steps setting to parts its ops ≡ Some ops
  unfolding scalars_steps
  scalars_end none ops few = ap (λ list. scalars_by setting to parts list ops) none ∙ fits_limited ops few
