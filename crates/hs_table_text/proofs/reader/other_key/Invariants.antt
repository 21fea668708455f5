use Rattle.std.proofs.Common.{◌≡◌}
use Rattle.toml.specs.View.{members_view, table_view}
use Rattle.hs_table_text.specs.Texts.{other_in}
use Rattle.hs_table_text.proofs.reader.other_key.Given as goal

-- the first other key is among those that are left
abbrev pub invariant-keys : goal.invariant-keys
invariant-keys l = other_in (members_view l.key-iterator) ≡ other_in (table_view l.root)
