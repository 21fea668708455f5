use Rattle.std.proofs.Common.{◌∙◌, ap, sym}
use Rattle.hs_chains.specs.Hazards.{Moved, is_used}
use Rattle.hs_effects.specs.Calling.{whole_of}
use Rattle.hs_flow.specs.Programs.{scope_at}
use Rattle.hs_taint.proofs.uses.is_moved_used.Goals as goal

-- a routine
pub returns-in-Routine : goal.returns-in-Routine
returns-in-Routine c f =
    c.is_argument.ensures f ∙ ap (λ its. is_used (scope_at (whole_of c.args.code.now) f) its c.args.depth Moved c.args.place) (sym c.in-Routine.is)
