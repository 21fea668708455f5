-- The movers that are handed in, as a call sees them. Own to this project.
--     Telling                 what is known of a mover
--     first_of wanted movers  the first one of that number
--     told_with script mover  what it tells, once that script is loaded, if there is one
use Rattle.std.specs.Prelude.{◌==◌, ℕ, List, [], ◌∷◌, Option, Some, None, if◌then◌else◌}
use Rattle.hs_heap.specs.declared.decision.Decision.{Decision}
use Rattle.hs_movers.specs.declared.script.Script.{Script}

-- What is known of a mover: its number; the decisions that it tells, if it tells them; and what it would tell if a script were loaded.
pub record Telling : Type 0 where
  pub number : ℕ
  pub told : Option (List Decision)
  pub after : Script → Option (List Decision)

-- the first one of that number
abbrev pub first_of : ℕ → List Telling → Option Telling
first_of wanted [] = None
first_of wanted (mover ∷ movers) = if mover.number == wanted then Some mover else first_of wanted movers

-- what it tells, once that script is loaded, if there is one
abbrev pub told_with : Option Script → Telling → Option (List Decision)
told_with None mover = mover.told
told_with (Some script) mover = mover.after script
