use Rattle.std.proofs.Common.{◌≡◌}
use Rattle.toml.specs.View.{members_view, table_view}
use Rattle.hs_table_text.specs.Entries.{are_known_keys}
use Rattle.hs_table_text.proofs.entry.are_known_keys.Given as goal

-- the keys that are left decide
abbrev pub invariant-keys : goal.invariant-keys
invariant-keys l = are_known_keys l.role (members_view l.key-iterator) ≡ are_known_keys l.role (table_view l.keys)
