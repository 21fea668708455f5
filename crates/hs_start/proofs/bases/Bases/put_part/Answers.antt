use Rattle.std.proofs.Common.{ap, ◌∙◌}
use Rattle.hs_code_run.specs.Steps.{access_of}
use Rattle.hs_meaning.specs.Settings.{access_of_type}
use Rattle.hs_state.specs.Settings.{setting_here}
use Rattle.hs_start.proofs.Refusing.{refused, unchanged}
use Rattle.hs_start.proofs.bases.Bases.put_part.Goals as goal

-- a constant that is refused has no cells
pub returns : goal.returns
returns c =
    unchanged c.args.part.now.offset _ c.args.cells.items
    (refused (setting_here c.args.self.now.setting) c.args.part.now.value (access_of c.access_of_type-access.result) _ c.in_ok-value.value
    c.in-Err.field-0
    (c.access_of_type-access.ensures
    ∙ ap (access_of_type (setting_here c.args.self.now.setting) c.args.part.now.type_id) c.class_of_part.ensures)
    c.in_ok-value.ensures c.in-Err.ensures)
