use Rattle.hs_table_text.proofs.Names.{must_be_ok, right_name}
use Rattle.hs_table_text.proofs.printer.name_of.Goals as goal

-- an identifier is a text
pub unwrap-requires : goal.unwrap-requires
unwrap-requires c =
    must_be_ok c.from_utf8.result _ _ c.from_utf8.ensures.cases
    (λ e fails. fails.0 (rw c.items.ensures (right_name c.args.routine.now c.requires)))
