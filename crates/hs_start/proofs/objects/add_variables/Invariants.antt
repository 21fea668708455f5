use Rattle.std.proofs.Common.{◌≡◌, ◌++◌, drop}
use Rattle.hs_meaning.specs.Objects.{starting_objects}
use Rattle.hs_state.specs.Settings.{setting_here}
use Rattle.hs_start.proofs.objects.add_variables.Given as goal

-- Those that are done, and those of the variables that are left, are all.
abbrev pub invariant-variables : goal.invariant-variables
invariant-variables l =
    l.objects ++ starting_objects (setting_here l.bases.setting) (drop l.it-index l.its)
    ≡ l.fn.objects ++ starting_objects (setting_here l.bases.setting) l.its
