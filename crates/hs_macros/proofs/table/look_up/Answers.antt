use Rattle.std.proofs.Common.{Some, sym, ap, ◌∙◌}
use Rattle.hs_macros.proofs.Entries.{get-as_map, number_in-entries}
use Rattle.hs_macros.proofs.table.look_up.Goals as goal

-- the table has no such name
pub returns-in_default-clause-found : goal.returns-in_default-clause-found
returns-in_default-clause-found c = get-as_map c.args.name.now c.args.table.now.entries ∙ sym c.in_default.ensures.value

-- the definition of the name, at the index of the name
pub returns-clause-found : goal.returns-clause-found
returns-clause-found c = (
  get-as_map c.args.name.now c.args.table.now.entries ∙ sym c.in-Some.ensures.value,
  number_in-entries c.args.name.now c.args.table.now.entries ∙ sym c.in-Some.ensures.index ∙ ap Some (sym c.in-Ok.ensures.1),
)
