-- Names with linkage and claims, as more is declared (X3.159-1989 3.1.2.2 and 3.1.2.6).
--     ClaimsStay its later, refers_later, call_later      what was claimed stays claimed, and names and calls still refer to it
--     refers_typed, declared_again            with a type of the same shape
--     claim_at place id all                   one claim more; claim_here, claim_stays, claim_back
use Rattle.std.proofs.Common.{◌≡◌, ◌⊎◌, inl, inr, ℕ, Bool, true, false, List, [], Option, Some, None, refl, sym, ap, subst, ◌∙◌, if◌then◌else◌}
use Rattle.std.specs.Prelude.{◌==◌}
use Rattle.hs_base.specs.Options.{some_none}
use Rattle.hs_base.specs.Tests.{same_number}
use Rattle.hs_expressions.specs.Laws.Reached.{is_same}
use Rattle.hs_fitting.specs.Claims.{Claims, ObjectsStay, IsClaimed, IsShapedAs, IsClaimedAs, RefersAs, RefersTo, IsVariableIn, IsBoundAs, IsCallClaimed}
use Rattle.hs_fitting.specs.Entities.{IsAmong}
use Rattle.hs_fitting.specs.Shapes.{SameShape, shape_then}
use Rattle.hs_linkage.specs.Externals.{type_of_entity}
use Rattle.hs_linkage.specs.Linkage.{with_type_id}
use Rattle.hs_linkage.specs.declared.definitions.Definition.{Definition}
use Rattle.hs_linkage.specs.declared.translator.StaticObject.{StaticObject}
use Rattle.hs_operand_types.specs.declared.operand.Bound.{Bound}
use Rattle.hs_operand_types.specs.declared.operand.Bound.TheVariants as bound
use Rattle.hs_table.specs.declared.routine.Routine.{Routine}
use Rattle.hs_tree.specs.Kinds.{category_of}
use Rattle.hs_tree.specs.declared.head.Variable.TheVariants as variable
use Rattle.hs_tree.specs.declared.head.VariableDecl.{VariableDecl}
use Rattle.hs_typer.specs.declared.typer.Entity.{Entity}
use Rattle.hs_typer.specs.declared.typer.Entity.TheVariants as entity
use Rattle.hs_typer.specs.declared.typer.RoutineCall.{RoutineCall}
use Rattle.hs_types.specs.TypeTables.{TypeTable}
use Rattle.hs_types.specs.declared.row.TypeId.{TypeId}

-- ---- what names refer to

-- What was claimed stays claimed.
pub record ClaimsStay (its later : Claims) : Type 0 where
  pub functions : (number : ℕ) (id : TypeId) → its.functions number ≡ Some id → later.functions number ≡ Some id
  pub routines : (number : ℕ) (id : TypeId) → its.routines number ≡ Some id → later.routines number ≡ Some id
  pub entities : (it : Entity) → IsAmong it its.entities → IsAmong it later.entities

-- the types of that name, if it has one, have the shape of this one
abbrev pub HasShape : TypeTable → Entity → TypeId → Type 0
HasShape types it id = (other : TypeId) → type_of_entity it ≡ Some other → SameShape types other id

module _ (types : TypeTable) where
  -- objects stay
  pub objects_self : (its : List StaticObject) → ObjectsStay types its its
  objects_self its = λ place its is. is

  -- a claim stays
  claimed_later : (old new : Option TypeId) (id : TypeId) → ((first : TypeId) → old ≡ Some first → new ≡ Some first) → IsClaimed types old id
      → IsClaimed types new id
  claimed_later None new id stays is = absurd is
  claimed_later (Some first) new id stays is = subst (λ its. IsClaimed types its id) (sym (stays first refl)) is

  -- of a function and of a routine
  claimed_as_later : (its more : Claims) → ClaimsStay its more → (id : TypeId) (to : Bound) → IsClaimedAs types its id to
      → IsClaimedAs types more id to
  claimed_as_later its more stay id (bound.Function number) is = (
    claimed_later (its.functions number) (more.functions number) id (stay.functions number) is.0,
    stay.entities (entity.Function id (bound.Function number)) is.1,
  )
  claimed_as_later its more stay id (bound.Routine number) is = (
    claimed_later (its.routines number) (more.routines number) id (stay.routines number) is.0,
    stay.entities (entity.Function id (bound.Routine number)) is.1,
  )
  claimed_as_later its more stay id bound.Nothing is = tt

  -- A name still refers to what was claimed.
  pub refers_later : (its more : Claims) (old new : List StaticObject) → ClaimsStay its more → ObjectsStay types old new → (it : Entity)
      → RefersTo types its old it → RefersTo types more new it
  refers_later its more old new stay objects (entity.Constant bits) is = tt
  refers_later its more old new stay objects (entity.Variable (variable.Global place) id) is = objects place (category_of types id) is
  refers_later its more old new stay objects (entity.Variable (variable.Local place) id) is = tt
  refers_later its more old new stay objects (entity.Function id to) is = claimed_as_later its more stay id to is
  refers_later its more old new stay objects (entity.Typedef id) is = tt

  -- Calls that are noted are still of routines that were claimed.
  pub call_later : (its more : Claims) → ClaimsStay its more → (table : List Routine) (call : RoutineCall) → IsCallClaimed types its table call
      → IsCallClaimed types more table call
  call_later its more stay table call is = (
    (
      claimed_later (its.routines call.routine) (more.routines call.routine) call.type_id (stay.routines call.routine) is.0.0,
      stay.entities (entity.Function call.type_id (bound.Routine call.routine)) is.0.1,
    ),
    is.1,
  )

  -- a type of the same shape
  pub claimed_typed : (first : Option TypeId) (old id : TypeId) → IsClaimed types first old → SameShape types old id → IsClaimed types first id
  claimed_typed None old id is shape = absurd is
  claimed_typed (Some first) old id is shape = shape_then types first old id is shape

  -- of a function and of a routine
  claimed_as_typed : (its : Claims) (old id : TypeId) (to : Bound) → IsShapedAs types its old to → SameShape types old id
      → IsShapedAs types its id to
  claimed_as_typed its old id (bound.Function number) is shape = claimed_typed (its.functions number) old id is shape
  claimed_as_typed its old id (bound.Routine number) is shape = claimed_typed (its.routines number) old id is shape
  claimed_as_typed its old id bound.Nothing is shape = tt

  -- what refers to a claim does so by its shape
  pub refers_as : (its : Claims) (objects : List StaticObject) (it : Entity) → RefersTo types its objects it → RefersAs types its objects it
  refers_as its objects (entity.Constant bits) is = tt
  refers_as its objects (entity.Variable (variable.Global place) id) is = is
  refers_as its objects (entity.Variable (variable.Local place) id) is = tt
  refers_as its objects (entity.Function id (bound.Function number)) is = is.0
  refers_as its objects (entity.Function id (bound.Routine number)) is = is.0
  refers_as its objects (entity.Function id bound.Nothing) is = tt
  refers_as its objects (entity.Typedef id) is = tt

  -- and the other way around, if its type is among those that were declared
  pub refers_full : (its : Claims) (objects : List StaticObject) (it : Entity) → RefersAs types its objects it → IsAmong it its.entities
      → RefersTo types its objects it
  refers_full its objects (entity.Constant bits) is among = tt
  refers_full its objects (entity.Variable (variable.Global place) id) is among = is
  refers_full its objects (entity.Variable (variable.Local place) id) is among = tt
  refers_full its objects (entity.Function id (bound.Function number)) is among = (is, among)
  refers_full its objects (entity.Function id (bound.Routine number)) is among = (is, among)
  refers_full its objects (entity.Function id bound.Nothing) is among = tt
  refers_full its objects (entity.Typedef id) is among = tt

  -- So may a name with a type of the same shape.
  pub refers_typed : (its : Claims) (objects : List StaticObject) (id : TypeId) (it : Entity) → RefersAs types its objects it → HasShape types it id
      → RefersAs types its objects (with_type_id id it)
  refers_typed its objects id (entity.Constant bits) is shape = tt
  refers_typed its objects id (entity.Variable (variable.Global place) old) is shape = is ∙ ap Some (shape old refl).category
  refers_typed its objects id (entity.Variable (variable.Local place) old) is shape = tt
  refers_typed its objects id (entity.Function old to) is shape = claimed_as_typed its old id to is (shape old refl)
  refers_typed its objects id (entity.Typedef old) is shape = tt

  -- no automatic variable, with another type
  pub global_typed : (id : TypeId) (it : Entity) → IsVariableIn types [] it → IsVariableIn types [] (with_type_id id it)
  global_typed id (entity.Constant bits) is = tt
  global_typed id (entity.Variable (variable.Global place) old) is = tt
  global_typed id (entity.Variable (variable.Local place) old) is = absurd is
  global_typed id (entity.Function old to) is = tt
  global_typed id (entity.Typedef old) is = tt

  -- among any variables
  pub global_in : (locals : List VariableDecl) (it : Entity) → IsVariableIn types [] it → IsVariableIn types locals it
  global_in locals (entity.Constant bits) is = tt
  global_in locals (entity.Variable (variable.Global place) id) is = tt
  global_in locals (entity.Variable (variable.Local place) id) is = absurd is
  global_in locals (entity.Function id to) is = tt
  global_in locals (entity.Typedef id) is = tt

-- the calls are bound as before
pub bound_typed : (internal : Bool) (unit : ℕ) (definitions : List Definition) (table : List Routine) (name : List ℕ) (id : TypeId) (it : Entity)
    → IsBoundAs internal unit definitions table name it → IsBoundAs internal unit definitions table name (with_type_id id it)
bound_typed internal unit definitions table name id (entity.Constant bits) is = tt
bound_typed internal unit definitions table name id (entity.Variable its old) is = tt
bound_typed internal unit definitions table name id (entity.Function old to) is = is
bound_typed internal unit definitions table name id (entity.Typedef old) is = is

-- of two types the second one counts
pub declared_again : (id other : TypeId) (it : Entity) → with_type_id id (with_type_id other it) ≡ with_type_id id it
declared_again id other (entity.Constant bits) = refl
declared_again id other (entity.Variable its old) = refl
declared_again id other (entity.Function old to) = refl
declared_again id other (entity.Typedef old) = refl

-- ---- one claim more

-- the claims of functions, or of routines, with one more
abbrev pub claim_at : ℕ → TypeId → (ℕ → Option TypeId) → ℕ → Option TypeId
claim_at place id all number = if number == place then Some id else all number

-- the new one
claim_if : (b : Bool) (id : TypeId) (o : Option TypeId) → b ≡ true → (if b then Some id else o) ≡ Some id
claim_if true id o is = refl
claim_if false id o is = absurd cc

-- it is claimed
pub claim_here : (place : ℕ) (id : TypeId) (all : ℕ → Option TypeId) → claim_at place id all place ≡ Some id
claim_here place id all = claim_if (place == place) id (all place) (is_same place place (place == place) refl refl)

-- older ones stay, if the number was not claimed
pub claim_stays : (place : ℕ) (id : TypeId) (all : ℕ → Option TypeId) → all place ≡ None → (number : ℕ) (its : TypeId) → all number ≡ Some its
    → claim_at place id all number ≡ Some its
claim_stays place id all free number its is = by_number (number == place) refl
  where
    by_number : (b : Bool) → (number == place) ≡ b → (if b then Some id else all number) ≡ Some its
    by_number true same = absurd (some_none (all place) its (sym (ap all (same_number number place same)) ∙ is) free)
    by_number false same = is

-- and there are no others
pub claim_back : (place : ℕ) (id : TypeId) (all : ℕ → Option TypeId) (number : ℕ) (its : TypeId) → claim_at place id all number ≡ Some its
    → (all number ≡ Some its) ⊎ (number ≡ place)
claim_back place id all number its is = by_number (number == place) refl is
  where
    by_number : (b : Bool) → (number == place) ≡ b → (if b then Some id else all number) ≡ Some its → (all number ≡ Some its) ⊎ (number ≡ place)
    by_number true same is = inr (same_number number place same)
    by_number false same is = inl is
