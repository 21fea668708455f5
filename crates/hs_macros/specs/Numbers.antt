-- The numbers of macros. The code keeps a hide set as a set of numbers: the number of a macro is its index in the table of
-- definitions, which stays the same during one expansion.
--     Entries                        the entries of a table, in its order
--     names_in entries               their names
--     definitions_in entries         the definitions by name
--     Numbers                        a finite set of numbers
--     number_in names name           the index of the name, if the list has it
--     named names numbers            the names whose indices are in the set
--     IsNumbered entries name found  what was found is the definition of the name, with its number
use Rattle.std.specs.Prelude.{◌≡◌, ℕ, Bool, false, List, map, Option, Some, None, position, Vec}
use Rattle.std.specs.Ordering.{nat_cmp}
use Rattle.std.specs.Str.{bytes_eq}
use Rattle.std.specs.FinSet as set
use Rattle.std.specs.FinMap as finite
use Rattle.std.specs.declared.alloc.Global.{Global}
use Rattle.hs_macros.specs.HideSets.{HideSet}
use Rattle.hs_macros.specs.Definitions.{Definitions}
use Rattle.hs_macros.specs.declared.definition.Definition.{Definition}
use Rattle.hs_macros.specs.declared.table.Numbered.{Numbered}

-- the entries of a table of definitions: each has a name and what it stands for
abbrev pub Entries : Type 0
Entries = List (Vec ℕ Global × Definition)

-- their names, in the table's order
abbrev pub names_in : Entries → List (List ℕ)
names_in entries = map (λ entry. entry.0.items) entries

-- the definitions by name
abbrev pub definitions_in : Entries → Definitions
definitions_in entries = finite.from_entries (map (λ entry. (entry.0.items, entry.1)) entries)

-- a set of numbers
abbrev pub Numbers : Type 0
Numbers = set.FinSet nat_cmp

-- the number of a name is its index in the list, if the list has it
abbrev pub number_in : List (List ℕ) → List ℕ → Option ℕ
number_in names name = position (bytes_eq name) names

-- this is the number of the name
abbrev pub IsNumber : List (List ℕ) → List ℕ → ℕ → Type 0
IsNumber names name number = number_in names name ≡ Some number

-- whether the set has the number. A name without a number is in no set.
abbrev pub has_number : Numbers → Option ℕ → Bool
has_number numbers None = false
has_number numbers (Some number) = set.contains numbers number

-- the names of the list whose numbers are in the set
unfoldable pub named : List (List ℕ) → Numbers → HideSet
named names numbers = set.retain (set.from_list names) (λ name. has_number numbers (number_in names name))

-- What is said of what a look-up of the name found: the definition that the table has, with its number, or nothing.
abbrev pub IsNumbered : Entries → List ℕ → Option Numbered → Type 0
IsNumbered entries name None = finite.get (definitions_in entries) name ≡ None
IsNumbered entries name (Some found) =
    (finite.get (definitions_in entries) name ≡ Some found.definition.now) × IsNumber (names_in entries) name found.number
