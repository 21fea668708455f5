-- What names refer to, as a program is typed: from its first declaration on, each object, function and routine has one shape, in all units,
-- and the types of a function or a routine come from declarations that agree (X3.159-1989 3.1.2.6).
--     Claims                          the first types that were declared for functions and routines, and all of them
--     RefersTo types its objects it   a name with that meaning refers to what was claimed
--     IsAccounted types its m it      a type of a function comes from a declaration
--     AreClosedAt types base m        the declarations of one name in earlier units agree
--     Endures program its m           what was noted and claimed until then is the program's
--     Stands program here its variables m      all names refer to what was claimed, in this unit and in those before it
--     Proceeds its m its' m'          from one place of the text to a later one: claims stay, and none is made twice
use Rattle.std.proofs.Common.{◌≡◌, ◌<◌, ◌⊎◌, ℕ, Bool, true, false, List, [], length, slice_get, Option, Some, None, IsTrue, is_some}
use Rattle.std.specs.Prelude.{◌==◌}
use Rattle.std.specs.List.{AllByRecursion}
use Rattle.hs_expressions.specs.Binding.{IsDefined, IsList, IsNotedCall}
use Rattle.hs_expressions.specs.Laws.{IsPrefix}
use Rattle.hs_expressions.specs.Roles.{fits_role}
use Rattle.hs_expressions.specs.Laws.Traced.{IsTracedAt}
use Rattle.hs_fitting.specs.Entities.{IsAmong}
use Rattle.hs_fitting.specs.Owned.{IsOwn}
use Rattle.hs_fitting.specs.Owning.{IsOwnName}
use Rattle.hs_fitting.specs.Rightness.{AreRight}
use Rattle.hs_fitting.specs.Shapes.{SameShape}
use Rattle.hs_fitting.specs.Strict.{SameBy, AreStrict, AreClosed}
use Rattle.hs_linkage.specs.Definitions.{same_name, first_place}
use Rattle.hs_linkage.specs.Externals.{newest_external, type_of_entity}
use Rattle.hs_linkage.specs.Linkage.{bound_to}
use Rattle.hs_linkage.specs.declared.definitions.Definition.{Definition}
use Rattle.hs_linkage.specs.declared.externals.External.{External}
use Rattle.hs_linkage.specs.declared.translator.Linked.{Linked}
use Rattle.hs_linkage.specs.declared.translator.StaticObject.{StaticObject}
use Rattle.hs_linkage.specs.declared.translator.Translator.{Translator}
use Rattle.hs_names.specs.Scopes.{Declared, find}
use Rattle.hs_operand_types.specs.declared.operand.Bound.{Bound}
use Rattle.hs_operand_types.specs.declared.operand.Bound.TheVariants as bound
use Rattle.hs_table.specs.declared.routine.Routine.{Routine}
use Rattle.hs_tree.specs.Fitting.{types_of, is_taken_variable, variable_of_global, IsFieldTaken}
use Rattle.hs_tree.specs.Kinds.{AreAlike, Category, of_function, category_of}
use Rattle.hs_tree.specs.Objects.{FitsParts}
use Rattle.hs_tree.specs.Trees.{TypedProgram}
use Rattle.hs_tree.specs.declared.head.Variable.TheVariants as variable
use Rattle.hs_tree.specs.declared.head.VariableDecl.{VariableDecl}
use Rattle.hs_typer.specs.declared.origins.Origins.{Origins}
use Rattle.hs_typer.specs.declared.typer.Typer.{Typer}
use Rattle.hs_typer.specs.declared.typer.Entity.{Entity}
use Rattle.hs_typer.specs.declared.typer.RoutineCall.{RoutineCall}
use Rattle.hs_typer.specs.declared.typer.Taken.{Taken}
use Rattle.hs_typer.specs.declared.typer.Taken.TheVariants as taken
use Rattle.hs_typer.specs.declared.typer.Entity.TheVariants as entity
use Rattle.hs_types.specs.TypeTables.{TypeTable, Grows, row_of, is_complete}
use Rattle.hs_types.specs.declared.row.ListId.{ListId}
use Rattle.hs_types.specs.declared.row.Row.TheVariants as row
use Rattle.hs_types.specs.declared.row.TypeId.{TypeId}

-- The first type that a declaration gave a function of the program, and a routine of the table, by their numbers; these functions and routines
-- with each type that a declaration gave them; and how many structs there were before the unit.
pub record Claims : Type 0 where
  pub functions : ℕ → Option TypeId
  pub routines : ℕ → Option TypeId
  pub entities : List Entity
  pub base : ℕ

-- nothing is declared
abbrev pub no_claims : Claims
no_claims = record { functions = λ number. None; routines = λ number. None; entities = []; base = 0 }

-- the category of an object; `types` are those of the whole program
abbrev pub category_at : TypeTable → Option StaticObject → Option (Option Category)
category_at types None = None
category_at types (Some it) = Some (category_of types it.variable.type_id)

-- objects stay, and keep their category
abbrev pub ObjectsStay : TypeTable → List StaticObject → List StaticObject → Type 0
ObjectsStay types old new =
    (place : ℕ) (its : Option Category) → category_at types (slice_get old place) ≡ Some its → category_at types (slice_get new place) ≡ Some its

-- a type of the shape that was claimed
abbrev pub IsClaimed : TypeTable → Option TypeId → TypeId → Type 0
IsClaimed types None id = ⊥
IsClaimed types (Some first) id = SameShape types first id

-- what the calls of a function of that shape are bound to
abbrev pub IsShapedAs : TypeTable → Claims → TypeId → Bound → Type 0
IsShapedAs types its id (bound.Function number) = IsClaimed types (its.functions number) id
IsShapedAs types its id (bound.Routine number) = IsClaimed types (its.routines number) id
IsShapedAs types its id bound.Nothing = Unit {0}

-- and of that type
abbrev pub IsClaimedAs : TypeTable → Claims → TypeId → Bound → Type 0
IsClaimedAs types its id (bound.Function number) =
    IsClaimed types (its.functions number) id × IsAmong (entity.Function id (bound.Function number)) its.entities
IsClaimedAs types its id (bound.Routine number) =
    IsClaimed types (its.routines number) id × IsAmong (entity.Function id (bound.Routine number)) its.entities
IsClaimedAs types its id bound.Nothing = Unit {0}

-- a name refers to what was claimed, by its shape
abbrev pub RefersAs : TypeTable → Claims → List StaticObject → Entity → Type 0
RefersAs types its objects (entity.Constant bits) = Unit {0}
RefersAs types its objects (entity.Variable (variable.Global place) id) = category_at types (slice_get objects place) ≡ Some (category_of types id)
RefersAs types its objects (entity.Variable (variable.Local place) id) = Unit {0}
RefersAs types its objects (entity.Function id to) = IsShapedAs types its id to
RefersAs types its objects (entity.Typedef id) = Unit {0}

-- a name with that meaning refers to what was claimed, also by its type; of automatic variables see `IsVariableIn`
abbrev pub RefersTo : TypeTable → Claims → List StaticObject → Entity → Type 0
RefersTo types its objects (entity.Constant bits) = Unit {0}
RefersTo types its objects (entity.Variable (variable.Global place) id) = category_at types (slice_get objects place) ≡ Some (category_of types id)
RefersTo types its objects (entity.Variable (variable.Local place) id) = Unit {0}
RefersTo types its objects (entity.Function id to) = IsClaimedAs types its id to
RefersTo types its objects (entity.Typedef id) = Unit {0}

-- An automatic variable of that type. In its own initialiser an array may still be of unknown length (3.5.7).
abbrev pub IsVariableAt : TypeTable → Option TypeId → TypeId → Type 0
IsVariableAt types None id = ⊥
IsVariableAt types (Some its) id = AreAlike types its id × (is_complete types id ≡ true → its ≡ id)

-- the name of an automatic variable means one of these
abbrev pub IsVariableIn : TypeTable → List VariableDecl → Entity → Type 0
IsVariableIn types locals (entity.Constant bits) = Unit {0}
IsVariableIn types locals (entity.Variable (variable.Global place) id) = Unit {0}
IsVariableIn types locals (entity.Variable (variable.Local place) id) = IsVariableAt types (slice_get (types_of locals) place) id
IsVariableIn types locals (entity.Function id to) = Unit {0}
IsVariableIn types locals (entity.Typedef id) = Unit {0}

-- the type of a function is one of functions
abbrev pub IsTypedIn : TypeTable → Entity → Type 0
IsTypedIn types (entity.Constant bits) = Unit {0}
IsTypedIn types (entity.Variable its id) = Unit {0}
IsTypedIn types (entity.Function id to) = category_of types id ≡ Some of_function
IsTypedIn types (entity.Typedef id) = Unit {0}

-- its calls are bound as those of that name are
abbrev pub IsBoundAs : Bool → ℕ → List Definition → List Routine → List ℕ → Entity → Type 0
IsBoundAs internal unit definitions table name (entity.Constant bits) = Unit {0}
IsBoundAs internal unit definitions table name (entity.Variable its id) = Unit {0}
IsBoundAs internal unit definitions table name (entity.Function id to) = to ≡ bound_to internal unit name definitions table
IsBoundAs internal unit definitions table name (entity.Typedef id) = ⊥

-- of that name in this unit
abbrev pub IsBoundIn : Translator → Bool → List ℕ → Entity → Type 0
IsBoundIn m internal name it = IsBoundAs internal m.typer.origins.unit m.definitions m.typer.table name it

-- what the unit links a name to; `here` says which names have internal linkage in it
pub record IsLink (types : TypeTable) (here : List ℕ → Bool) (its : Claims) (m : Translator) (it : Declared Linked) : Type 0 where
  pub refers : RefersTo types its m.objects it.entity.entity
  pub bound : IsBoundIn m it.entity.internal it.name it.entity.entity
  pub internal : it.entity.internal ≡ true → here it.name ≡ true
  pub global : IsVariableIn types [] it.entity.entity
  pub typed : IsTypedIn m.typer.types it.entity.entity
  pub own : (id : TypeId) → type_of_entity it.entity.entity ≡ Some id → IsOwn its.base m.typer.types id

-- a declaration with external linkage
pub record IsExternal (types : TypeTable) (its : Claims) (m : Translator) (it : External) : Type 0 where
  pub refers : RefersTo types its m.objects it.entity
  pub bound : IsBoundIn m false it.name it.entity
  pub global : IsVariableIn types [] it.entity
  pub typed : IsTypedIn m.typer.types it.entity

-- the routine of that name
abbrev pub IsRoutineOf : List Routine → List ℕ → Entity → Type 0
IsRoutineOf table name (entity.Constant bits) = ⊥
IsRoutineOf table name (entity.Variable its id) = ⊥
IsRoutineOf table name (entity.Function id (bound.Function number)) = ⊥
IsRoutineOf table name (entity.Function id (bound.Routine number)) = first_place (λ it. same_name it.name name) table ≡ Some number
IsRoutineOf table name (entity.Function id bound.Nothing) = ⊥
IsRoutineOf table name (entity.Typedef id) = ⊥

-- the list of its parameters ends, and is shorter than the table
abbrev pub IsSigned : TypeTable → External → Type 0
IsSigned types it =
    (id : TypeId) → type_of_entity it.entity ≡ Some id → (result : TypeId) (list : ListId) → row_of types id ≡ Some (row.Function result list)
    → (parameters : List TypeId) × IsList types list parameters × (length parameters < length types.lists)

-- A declaration of a function that is bound to a routine. At the end of its unit it is looked at once more, and its type is then known whole.
pub record IsRoutineDeclared (types : TypeTable) (its : Claims) (m : Translator) (it : External) : Type 0 where
  pub refers : RefersTo types its m.objects it.entity
  pub routine : IsRoutineOf m.typer.table it.name it.entity
  pub typed : IsTypedIn m.typer.types it.entity
  pub signed : ((it.unit == m.typer.origins.unit) ≡ true) ⊎ IsSigned types it

-- a link with internal linkage
abbrev pub IsInternalLink : Option Linked → Type 0
IsInternalLink None = ⊥
IsInternalLink (Some it) = it.internal ≡ true

-- A function that is claimed was declared: in its unit if it has internal linkage, or else in some unit.
abbrev pub IsRegisteredAs : Bool → Translator → Definition → Type 0
IsRegisteredAs true m it = (it.unit == m.typer.origins.unit) ≡ true → IsInternalLink (find it.name m.links)
IsRegisteredAs false m it = IsTrue (is_some (newest_external it.name m.externals))

-- by its linkage
abbrev pub IsRegistered : Translator → Definition → Type 0
IsRegistered m it = IsRegisteredAs it.internal m it

-- The name of the function was declared, so that no claim for it is new.
abbrev pub IsMetAs : Bool → Translator → Definition → Type 0
IsMetAs true m it = (it.unit == m.typer.origins.unit) ≡ true → IsTrue (is_some (find it.name m.links))
IsMetAs false m it = IsTrue (is_some (newest_external it.name m.externals))

-- by its linkage
abbrev pub IsMet : Translator → Definition → Type 0
IsMet m it = IsMetAs it.internal m it

-- ---- types of one function

-- a declaration among these gives the function a type of the same structs
abbrev pub IsNotedIn : TypeTable → Origins → List External → TypeId → Bound → Type 0
IsNotedIn types o all id to =
    (it : External) × IsAmong it all × (noted : TypeId) × (it.entity ≡ entity.Function noted to) × SameBy (AreStrict o types) types id noted

-- a function with internal linkage has one type in its unit, and one with external linkage those of its declarations
abbrev pub IsAccountedAs : Bool → TypeTable → Claims → Translator → TypeId → ℕ → Type 0
IsAccountedAs true types its m id number =
    (first : TypeId) × (its.functions number ≡ Some first) × SameBy (AreStrict m.typer.origins types) types id first
IsAccountedAs false types its m id number = IsNotedIn types m.typer.origins m.externals id (bound.Function number)

-- the type comes from such a declaration
abbrev pub IsAccounted : TypeTable → Claims → Translator → Entity → Type 0
IsAccounted types its m (entity.Function id (bound.Function number)) =
    (one : Definition) × (slice_get m.definitions number ≡ Some one) × IsAccountedAs one.internal types its m id number
IsAccounted types its m (entity.Function id (bound.Routine number)) = IsNotedIn types m.typer.origins m.routines id (bound.Routine number)
IsAccounted types its m (entity.Function id bound.Nothing) = Unit {0}
IsAccounted types its m (entity.Constant bits) = Unit {0}
IsAccounted types its m (entity.Variable variable id) = Unit {0}
IsAccounted types its m (entity.Typedef id) = Unit {0}

-- two declarations of one name of earlier units have one type, but for structs that are not both complete
abbrev pub AreClosedPairs : TypeTable → ℕ → Typer → List External → Type 0
AreClosedPairs types base s all =
    (x y : External) → IsAmong x all → IsAmong y all → (x.unit == s.origins.unit) ≡ false → (y.unit == s.origins.unit) ≡ false
    → same_name x.name y.name ≡ true → (a b : TypeId) → type_of_entity x.entity ≡ Some a → type_of_entity y.entity ≡ Some b
    → SameBy (AreClosed base s.types.structs s.origins types) types a b

-- with external linkage, and of routines
abbrev pub AreClosedAt : TypeTable → ℕ → Translator → Type 0
AreClosedAt types base m = AreClosedPairs types base m.typer m.externals × AreClosedPairs types base m.typer m.routines

-- ---- the program that a place of the text goes on to

-- a function is the program's, of one type
abbrev pub IsFulfilled : TypedProgram → Entity → Type 0
IsFulfilled program (entity.Function id (bound.Function number)) = IsDefined program program.types id (slice_get program.functions number)
IsFulfilled program (entity.Function id (bound.Routine number)) = Unit {0}
IsFulfilled program (entity.Function id bound.Nothing) = Unit {0}
IsFulfilled program (entity.Constant bits) = Unit {0}
IsFulfilled program (entity.Variable variable id) = Unit {0}
IsFulfilled program (entity.Typedef id) = Unit {0}

-- The functions and routines that are claimed are the program's, and of these types.
pub record AreFulfilled (program : TypedProgram) (its : Claims) : Type 0 where
  pub entities : AllByRecursion (IsFulfilled program) its.entities
  pub routines : (number : ℕ) (id : TypeId) → its.routines number ≡ Some id → number < length program.routines

-- the category of a variable
abbrev pub category_in : TypeTable → Option VariableDecl → Option (Option Category)
category_in types None = None
category_in types (Some it) = Some (category_of types it.type_id)

-- the objects are the program's, and of that category
abbrev pub AreObjects : TypedProgram → List StaticObject → Type 0
AreObjects program objects =
    (place : ℕ) (its : Option Category) → category_at program.types (slice_get objects place) ≡ Some its
    → category_in program.types (variable_of_global (slice_get program.globals place)) ≡ Some its

-- an object or a field whose address is taken is marked in the program, if it is there
abbrev pub IsMarkedIn : TypedProgram → Taken → Type 0
IsMarkedIn program (taken.Variable (variable.Global place)) =
    IsTrue (is_some (variable_of_global (slice_get program.globals place)))
    → IsTrue (is_taken_variable (variable_of_global (slice_get program.globals place)))
IsMarkedIn program (taken.Variable (variable.Local place)) = Unit {0}
IsMarkedIn program (taken.Field field) = IsFieldTaken program field

-- What was noted until then is the program's, whatever function it is of.
pub record Endures (program : TypedProgram) (its : Claims) (m : Translator) : Type 0 where
  pub types : Grows m.typer.types program.types
  pub literals : IsPrefix m.typer.literals program.literals
  pub calls : AllByRecursion (IsNotedCall program program.types) m.typer.calls
  pub taken : AllByRecursion (IsMarkedIn program) m.typer.taken
  pub claims : AreFulfilled program its
  pub objects : AreObjects program m.objects

-- ---- what is so at each place of the text

-- a routine that was claimed, also with that type
abbrev pub IsOfClaim : TypeTable → Claims → ℕ → TypeId → Type 0
IsOfClaim types its number id = IsClaimed types (its.routines number) id × IsAmong (entity.Function id (bound.Routine number)) its.entities

-- A call that is noted is of such a routine, and fits its role.
abbrev pub IsCallClaimed : TypeTable → Claims → List Routine → RoutineCall → Type 0
IsCallClaimed types its table call =
    IsOfClaim types its call.routine call.type_id × (fits_role types table call.routine call.type_id ≡ true)

-- An object is no function. Without an initialiser it starts as zero bytes, and otherwise with constants for its scalars.
pub record IsObjectRight (program : TypedProgram) (its : Claims) (m : Translator) (it : StaticObject) : Type 0 where
  pub category : category_of program.types it.variable.type_id ≡ Some of_function → ⊥
  pub undefined : it.defined ≡ false → it.parts ≡ []
  pub filled : Endures program its m → FitsParts program it.variable.type_id it.parts

-- the first routine of its name in the table
abbrev pub IsFirstRoutine : List Routine → ℕ → Type 0
IsFirstRoutine table number =
    (it : Routine) × (slice_get table number ≡ Some it) × (first_place (λ other. same_name other.name it.name) table ≡ Some number)

-- All names refer to what was claimed, or mean one of these automatic variables.
pub record Stands (program : TypedProgram) (here : List ℕ → Bool) (its : Claims) (variables : List VariableDecl) (m : Translator) : Type 0 where
  pub names : AllByRecursion (λ it. RefersTo program.types its m.objects it.entity) m.typer.names.declarations
  pub locals : AllByRecursion (λ it. IsVariableIn program.types variables it.entity) m.typer.names.declarations
  pub links : AllByRecursion (IsLink program.types here its m) m.links.declarations
  pub externals : AllByRecursion (IsExternal program.types its m) m.externals
  pub routines : AllByRecursion (IsRoutineDeclared program.types its m) m.routines
  pub calls : AllByRecursion (IsCallClaimed program.types its m.typer.table) m.typer.calls
  pub right : AreRight m.typer.types
  pub objects : AllByRecursion (IsObjectRight program its m) m.objects
  pub functions_met : (number : ℕ) (id : TypeId) (it : Definition) → its.functions number ≡ Some id → slice_get m.definitions number ≡ Some it
      → IsRegistered m it
  pub routines_met : (number : ℕ) (id : TypeId) (it : Routine) → its.routines number ≡ Some id → slice_get m.typer.table number ≡ Some it
      → IsTrue (is_some (newest_external it.name m.routines))
  pub functions_there : (number : ℕ) (id : TypeId) → its.functions number ≡ Some id → IsTrue (is_some (slice_get m.definitions number))
  pub routines_there : (number : ℕ) (id : TypeId) → its.routines number ≡ Some id → IsFirstRoutine m.typer.table number
  pub internal : (number : ℕ) (it : Definition) → slice_get m.definitions number ≡ Some it → (it.unit == m.typer.origins.unit) ≡ true
      → it.internal ≡ here it.name
  pub traced : IsTracedAt its.base m.typer
  pub typedefs : AllByRecursion (λ it. IsOwnName its.base m.typer.types it.entity) m.typer.names.declarations
  pub accounted : AllByRecursion (IsAccounted program.types its m) its.entities
  pub closed : AreClosedAt program.types its.base m

-- From one place of the text to a later one.
pub record Proceeds (types : TypeTable) (its : Claims) (m : Translator) (its' : Claims) (m' : Translator) : Type 0 where
  pub functions : (number : ℕ) (id : TypeId) → its.functions number ≡ Some id → its'.functions number ≡ Some id
  pub routines : (number : ℕ) (id : TypeId) → its.routines number ≡ Some id → its'.routines number ≡ Some id
  pub entities : (it : Entity) → IsAmong it its.entities → IsAmong it its'.entities
  pub base : its'.base ≡ its.base
  pub objects : ObjectsStay types m.objects m'.objects
  pub met : (it : Definition) → IsMet m it → IsMet m' it
  pub fresh : (number : ℕ) (id : TypeId) (it : Definition) → its'.functions number ≡ Some id → its.functions number ≡ None
      → slice_get m.definitions number ≡ Some it → IsMet m it → ⊥
