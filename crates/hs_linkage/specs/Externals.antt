-- Declarations with linkage, by their names, the newest first.
--     all_agree types o name id its      each declaration of the name is of a type that is compatible with this one
--     newest_external name its           the newest declaration of the name
--     with_external word unit mark it its      with one more
--     unfit types o all its              the oldest one of this unit that does not fit all of them
use Rattle.std.specs.Prelude.{ℕ, ◌==◌, Bool, false, not, ◌||◌, ◌&&◌, List, [], ◌∷◌, Option, Some, None, if◌then◌else◌}
use Rattle.std.specs.List.{list_all}
use Rattle.hs_linkage.specs.Definitions.{same_name}
use Rattle.hs_linkage.specs.declared.externals.External.{External}
use Rattle.hs_syntax.specs.declared.word.Word.{Word}
use Rattle.hs_typer.specs.Origins.{agree}
use Rattle.hs_typer.specs.contracts.typer.EntityPartialEq.TheImpl as entity_eq
use Rattle.hs_typer.specs.declared.marks.Mark.{Mark}
use Rattle.hs_typer.specs.declared.origins.Origins.{Origins}
use Rattle.hs_typer.specs.declared.typer.Entity.{Entity}
use Rattle.hs_typer.specs.declared.typer.Entity.TheVariants as entity
use Rattle.hs_types.specs.TypeTables.{TypeTable}
use Rattle.hs_types.specs.declared.row.TypeId.{TypeId}

-- the type of an object or a function
abbrev pub type_of_entity : Entity → Option TypeId
type_of_entity (entity.Constant bits) = None
type_of_entity (entity.Variable its id) = Some id
type_of_entity (entity.Function id its) = Some id
type_of_entity (entity.Typedef id) = None

-- compatible with a type that is there
abbrev pub agrees_in : TypeTable → Origins → TypeId → Option TypeId → Bool
agrees_in types o id None = false
agrees_in types o id (Some old) = agree types o old id

-- compatible with each of the declarations of that name
abbrev pub all_agree : TypeTable → Origins → List ℕ → TypeId → List External → Bool
all_agree types o name id its = list_all (λ it. not (same_name it.name name) || agrees_in types o id (type_of_entity it.entity)) its

-- the newest declaration of the name
abbrev pub newest_external : List ℕ → List External → Option Entity
newest_external name [] = None
newest_external name (it ∷ older) = if same_name it.name name then Some it.entity else newest_external name older

-- one more declaration of the name, in that unit, at that place of it
abbrev pub external_of : Word → ℕ → Mark → Entity → External
external_of word unit mark it = record { name = word.text; at = word.place; unit = unit; mark = mark; entity = it }

-- the newest declaration says the same
abbrev pub says_same : Option Entity → Entity → Bool
says_same None it = false
says_same (Some old) it = (entity_eq.ghosts).eq old it

-- with one more, unless the newest one says the same
abbrev pub with_external : Word → ℕ → Mark → Entity → List External → List External
with_external word unit mark it its = if says_same (newest_external word.text its) it then its else external_of word unit mark it ∷ its

-- compatible with each of the declarations of that name, if there is a type
abbrev pub agree_if : TypeTable → Origins → List ℕ → Option TypeId → List External → Bool
agree_if types o name None its = false
agree_if types o name (Some id) its = all_agree types o name id its

-- a declaration of this unit that does not fit one of the others
abbrev pub is_unfit : TypeTable → Origins → List External → External → Bool
is_unfit types o all it = it.unit == o.unit && not (agree_if types o it.name (type_of_entity it.entity) all)

-- the first one, or else the second one
abbrev pub or_later : Option External → Option External → Option External
or_later None later = later
or_later (Some it) later = Some it

-- of these, if it does not fit
abbrev pub if_unfit : TypeTable → Origins → List External → External → Option External
if_unfit types o all it = if is_unfit types o all it then Some it else None

-- Tags may have got their bodies after a declaration was made.
abbrev pub unfit : TypeTable → Origins → List External → List External → Option External
unfit types o all [] = None
unfit types o all (it ∷ older) = or_later (unfit types o all older) (if_unfit types o all it)
