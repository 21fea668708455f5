use Rattle.std.proofs.Common.{◌≡◌, drop}
use Rattle.hs_meaning.specs.Frames.{given_all}
use Rattle.hs_state.specs.Machines.{Keeps, machine_of}
use Rattle.hs_state.specs.Settings.{setting_here}
use Rattle.hs_frames.proofs.parameters.give_all.Given as goal

-- What is left, after the values so far, comes to what all come to.
abbrev pub invariant-parameters : goal.invariant-parameters
invariant-parameters l =
    record {
      same :
          given_all (setting_here l.setting) l.place (drop l.parameter-index l.parameters) l.left (machine_of l.machine)
          ≡ given_all (setting_here l.setting) 0 l.parameters l.fn.values (machine_of l.fn.machine);
      placed : l.place ≡ l.parameter-index;
      keeps : Keeps l.fn.machine l.machine;
    }
