use Rattle.std.proofs.Common.{◌≡◌, ◌++◌, drop}
use Rattle.hs_meaning.specs.Objects.{starting_bindings}
use Rattle.hs_state.specs.Settings.{setting_here}
use Rattle.hs_start.proofs.variables.first_bindings.Given as goal

-- Those that are done, and those of the variables that are left, are all.
abbrev pub invariant-variables : goal.invariant-variables
invariant-variables l =
    l.made.items ++ starting_bindings (setting_here l.bases.setting) l.next (drop l.it-index l.its)
    ≡ starting_bindings (setting_here l.bases.setting) 0 l.its
