use Rattle.std.proofs.Common.{rules}
use Rattle.std.proofs.lemmas.Str.{is_utf8-from_IsUtf8}
use Rattle.hs_table_text.proofs.Documents.{no_document}
use Rattle.hs_table_text.proofs.reader.document.Goals as goal

-- what TOML reads is UTF-8
pub returns-in-Ok : goal.returns-in-Ok
returns-in-Ok c = rw (is_utf8-from_IsUtf8 c.args.bytes.now c.in-Ok.ensures.ok.0) c.in-Ok.ensures.ok.1

-- if memory did not run out, TOML reads nothing
pub returns-else-is_memory : goal.returns-else-is_memory
returns-else-is_memory c = no_document c.args.bytes.now (c.in-Err.ensures.refused (search (rules, c.is_memory.ensures, c.if-is_memory.false)))
