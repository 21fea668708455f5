-- What the functions of this crate return, beside the definitions: by cases on the result, with nothing said when memory runs out.
--     Answers view wanted result       the table, or the error, that is wanted
--     IsEntry name entry result        the routine, or the error that has its name
--     IsDocument bytes result          the document that the bytes are
--     written_at value                 what is written at a key
--     routine_of name keys             the routine of that name with these keys
use Rattle.std.specs.Prelude.{◌≡◌, ℕ, List, Option, Some, None, option_map, Result, Ok, Err, String}
use Rattle.std.specs.BTreeMap.{BTreeMap}
use Rattle.std.specs.declared.alloc.Global.{Global}
use denote.Ref.{Bor}
use Rattle.toml.specs.Data.{Data}
use Rattle.toml.specs.View.{view, table_view}
use Rattle.toml.specs.declared.value.Value.{Value}
use Rattle.hs_table.specs.declared.routine.Routine.{Routine}
use Rattle.hs_table_text.specs.Entries.{routine_with}
use Rattle.hs_table_text.specs.Texts.{document_in}
use Rattle.hs_table_text.specs.declared.entry.EntryKeys.{EntryKeys}
use Rattle.hs_table_text.specs.declared.error.TableError.{TableError}
use Rattle.hs_table_text.specs.declared.error.TableError.TheVariants.{NotToml, BadVersion, BadEntry, NoMemory}

-- the result, seen by view, is what is wanted, unless memory ran out
abbrev pub Answers : {X Y : Type 0} → (X → Y) → Result Y TableError → Result X TableError → Type 0
Answers view wanted (Ok x) = wanted ≡ Ok (view x)
Answers view wanted (Err NotToml) = wanted ≡ Err NotToml
Answers view wanted (Err BadVersion) = wanted ≡ Err BadVersion
Answers view wanted (Err (BadEntry name)) = wanted ≡ Err (BadEntry name)
Answers view wanted (Err NoMemory) = Unit {0}

-- the result is the routine, or the error that has its name if it is not right, unless memory ran out
abbrev pub IsEntry : List ℕ → Option Routine → Result Routine TableError → Type 0
IsEntry name entry (Ok routine) = entry ≡ Some routine
IsEntry name entry (Err NotToml) = ⊥
IsEntry name entry (Err BadVersion) = ⊥
IsEntry name entry (Err (BadEntry bad)) = (entry ≡ None) × (bad ≡ name)
IsEntry name entry (Err NoMemory) = Unit {0}

-- the result is the document that the bytes are, or says that they are not one, unless memory ran out
abbrev pub IsDocument : List ℕ → Result (BTreeMap (String Global) Value) TableError → Type 0
IsDocument bytes (Ok root) = document_in bytes ≡ Some (table_view root)
IsDocument bytes (Err NotToml) = document_in bytes ≡ None
IsDocument bytes (Err BadVersion) = ⊥
IsDocument bytes (Err (BadEntry name)) = ⊥
IsDocument bytes (Err NoMemory) = Unit {0}

-- what is written at a key, if the key is there
abbrev pub written_at : Option (Bor Value) → Option Data
written_at value = option_map (λ written. view written.now) value

-- the routine of that name with these keys
abbrev pub routine_of : List ℕ → EntryKeys → Routine
routine_of name keys = routine_with name keys.role keys.moves keys.purges keys.fills keys.size
