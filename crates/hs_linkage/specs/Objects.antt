-- Objects of static storage duration, and automatic variables, as lists (X3.159-1989 3.1.2.4 and 3.7.2).
--     object_as types id it its place      a declaration gives the object of that place this type
--     object_with id parts it its place    its definition gives it this type and these parts
--     local_as id it its place             the automatic variable of that place is of this type
--     marked taken place its               automatic variables from that place on, each marked if its address is taken
use Rattle.std.specs.List.{list_any}
use Rattle.std.specs.Prelude.{ℕ, suc, ◌==◌, Bool, true, false, ◌||◌, List, [], ◌∷◌, slice_set, Option, Some, None, if◌then◌else◌}
use Rattle.hs_linkage.specs.declared.translator.StaticObject.{StaticObject}
use Rattle.hs_tree.specs.declared.constant.Part.{Part}
use Rattle.hs_tree.specs.declared.head.VariableDecl.{VariableDecl}
use Rattle.hs_tree.specs.declared.head.Variable.TheVariants as variable
use Rattle.hs_typer.specs.declared.typer.Taken.{Taken}
use Rattle.hs_typer.specs.declared.typer.Taken.TheVariants as taken
use Rattle.hs_types.specs.TypeTables.{TypeTable, is_complete}
use Rattle.hs_types.specs.declared.row.TypeId.{TypeId}

-- it has an initialiser already
abbrev pub is_defined : Option StaticObject → Bool
is_defined None = false
is_defined (Some it) = it.defined

-- it has an initialiser, or its type is complete
abbrev pub is_settled : TypeTable → Option StaticObject → Bool
is_settled types None = false
is_settled types (Some it) = it.defined || is_complete types it.variable.type_id

-- 3.7.2: an object has the type of its definition with an initialiser, or else the first complete type that a declaration gives it; as
-- long as it has no complete type, it has the latest type
abbrev pub object_as : TypeTable → TypeId → Option StaticObject → List StaticObject → ℕ → List StaticObject
object_as types id None its place = its
object_as types id (Some it) its place =
    if it.defined || is_complete types it.variable.type_id
    then its
    else slice_set its place (record it { variable = record it.variable { type_id = id } })

-- the definition with an initialiser
abbrev pub object_with : TypeId → List Part → Option StaticObject → List StaticObject → ℕ → List StaticObject
object_with id parts None its place = its
object_with id parts (Some it) its place =
    slice_set its place (record { variable = record it.variable { type_id = id }; parts = parts; defined = true })

-- an automatic variable has the type that its initialiser gives it
abbrev pub local_as : TypeId → Option VariableDecl → List VariableDecl → ℕ → List VariableDecl
local_as id None its place = its
local_as id (Some it) its place = slice_set its place (record it { type_id = id })

-- the address is that of the automatic variable of that place
abbrev pub is_of_local : ℕ → Taken → Bool
is_of_local place (taken.Variable (variable.Local number)) = number == place
is_of_local place (taken.Variable (variable.Global number)) = false
is_of_local place (taken.Field field) = false

abbrev pub marked : List Taken → ℕ → List VariableDecl → List VariableDecl
marked its place [] = []
marked its place (it ∷ rest) = record it { taken = it.taken || list_any (is_of_local place) its } ∷ marked its (suc place) rest

-- the variable of that place, marked
abbrev pub marked_at : Option VariableDecl → List VariableDecl → ℕ → List VariableDecl
marked_at None its place = its
marked_at (Some it) its place = slice_set its place (record it { taken = true })
