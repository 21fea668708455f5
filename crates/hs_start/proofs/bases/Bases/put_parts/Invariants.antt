use Rattle.std.proofs.Common.{◌≡◌, drop}
use Rattle.hs_meaning.specs.Objects.{with_parts}
use Rattle.hs_state.specs.Settings.{setting_here}
use Rattle.hs_start.proofs.bases.Bases.put_parts.Given as goal

-- What is left, put over what is done, is all.
abbrev pub invariant-parts : goal.invariant-parts
invariant-parts l =
    with_parts (setting_here l.self.setting) (drop l.part-index l.parts) l.made.items
    ≡ with_parts (setting_here l.self.setting) l.parts l.fn.cells.items
