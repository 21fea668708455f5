use Rattle.std.proofs.Common.{◌≡◌, ◌++◌, drop, length}
use Rattle.hs_meaning.specs.Objects.{bindings, objects_for}
use Rattle.hs_frames.proofs.variables.declare.Given as goal

-- What was made, and what is made of the variables that are left, is all.
abbrev pub invariant-variables : goal.invariant-variables
invariant-variables l =
    record {
      objects :
          l.objects ++ objects_for l.setting.types.now (drop l.variable-index l.variables)
          ≡ l.fn.objects ++ objects_for l.setting.types.now l.variables;
      locals :
          l.locals.top ++ bindings l.setting.types.now (length l.objects) (drop l.variable-index l.variables)
          ≡ l.fn.locals.top ++ bindings l.setting.types.now (length l.fn.objects) l.variables;
      below : l.locals.below ≡ l.fn.locals.below;
    }
