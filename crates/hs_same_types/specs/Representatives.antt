-- Which types of several units are one (X3.159-1989 3.1.2.6, and own), by the first of them.
--     structs_of o done its               what stands for each struct, by where it comes from; `done` are those before
--     one_row same row                    a row with what stands for the types inside it
--     types_of structs done known rows    of all types; `done` are those before, and `known` has the first type for each such row
--     representatives types o             of all structs and all types
use Rattle.std.specs.Prelude.{ℕ, Bool, List, [], ◌∷◌, ◌++◌, length, Option, Some, None, if◌then◌else◌}
use Rattle.indexmap.specs.IndexMap.{insert_entry}
use Rattle.hs_tree.specs.Representatives.{or_itself, struct_for, type_for}
use Rattle.hs_tree.specs.declared.representatives.Representatives.{Representatives}
use Rattle.hs_typer.specs.Origins.{stands_for}
use Rattle.hs_typer.specs.declared.origins.Origin.{Origin}
use Rattle.hs_typer.specs.declared.origins.Origins.{Origins}
use Rattle.hs_types.specs.TypeTables.{TypeTable}
use Rattle.hs_types.specs.contracts.row.RowPartialEq.TheImpl as row_eq
use Rattle.hs_types.specs.declared.integer.Integer.TheVariants as kind
use Rattle.hs_types.specs.declared.row.Row.{Row}
use Rattle.hs_types.specs.declared.row.Row.TheVariants.{Void, Integer, Pointer, Enumeration, Struct, Array, OpenArray, Function}
use Rattle.hs_types.specs.declared.row.TypeId.{TypeId}

-- of all structs; `done` are those before
abbrev pub structs_of : Origins → List ℕ → List Origin → List ℕ
structs_of o done [] = done
structs_of o done (it ∷ rest) = structs_of o (done ++ stands_for o (length done) ∷ []) rest

-- A row with what stands for the types inside. An enumeration counts as int, with which it is compatible (3.5.2.2). No pointer points to a
-- function.
abbrev pub one_row : Representatives → Row → Row
one_row same Void = Void
one_row same (Integer its) = Integer its
one_row same (Pointer of) = Pointer (type_for same of)
one_row same (Enumeration number) = Integer kind.Int
one_row same (Struct number) = Struct (struct_for same number)
one_row same (Array of length layout) = Array (type_for same of) length layout
one_row same (OpenArray of) = OpenArray (type_for same of)
one_row same (Function result parameters) = Function result parameters

abbrev pub same_row : Row → Row → Bool
same_row = (row_eq.ghosts).eq

-- the first type for that row
abbrev pub found : Row → List (Row × TypeId) → Option TypeId
found row [] = None
found row (it ∷ rest) = if same_row row it.0 then Some it.1 else found row rest

-- the type that stands for the one of that number, if that is its row
abbrev pub type_of : List (Row × TypeId) → ℕ → Row → TypeId
type_of known number row = or_itself (record { number = number }) (found row known)

-- the row of the next type, with those before
abbrev pub next_row : List ℕ → List TypeId → Row → Row
next_row structs done row = one_row (record { structs = structs; types = done }) row

-- A type is made of older types, so this goes along the table. `done` are those before, and `known` has the first type for each row.
abbrev pub types_of : List ℕ → List TypeId → List (Row × TypeId) → List Row → List TypeId
types_of structs done known [] = done
types_of structs done known (row ∷ rest) =
    let its : Row = next_row structs done row in
    let first : TypeId = type_of known (length done) its in
    types_of structs (done ++ first ∷ []) (insert_entry same_row known its first) rest

-- those of a table whose structs come from there
abbrev pub representatives : TypeTable → Origins → Representatives
representatives types o =
    let structs : List ℕ = structs_of o [] o.structs in
    record { structs = structs; types = types_of structs [] [] types.rows }
