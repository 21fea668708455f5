use Rattle.std.proofs.Common.{option_map, ap, ◌∙◌}
use Rattle.toml.specs.View.{view}
use Rattle.toml.proofs.Views.{view_of_ref, view-lookup}
use Rattle.hs_table_text.proofs.entry.member.Goals as goal

-- what the map finds is the member
pub returns : goal.returns
returns c = view_of_ref c.get.result ∙ ap (option_map view) c.get.ensures.value ∙ view-lookup c.args.key.now c.args.table.now.entries
