-- Expressions of a program meet the facts of a typed program: the names of a place of its text mean what the program has.
--     knows_names                     the names of objects mean variables of the program, and those of functions what it has of that type
--     stands_typer, proceeds_typer    what is claimed stays as typing knows more
--     typing_walks, types_walks       a step of typing, and one that goes by the types alone
--     IsValue program function e      well typed, and bound
--     valued_walks                    the value of an expression
--     typing_stays, types_stays, valued_stays      the same, where a fact of claims and objects was known before it
use Rattle.std.proofs.Common.{◌≡◌, ◌<◌, ◌⊎◌, ℕ, zero, suc, Bool, true, false, List, [], ◌∷◌, ◌++◌, length, slice_get, Option, Some, None, IsTrue, is_some, Result, Ok, Err, refl, sym, ap, subst, ◌∙◌}
use Rattle.std.specs.Prelude.{◌==◌}
use Rattle.std.specs.List.{AllByRecursion}
use Rattle.hs_base.specs.Options.{some_none}
use Rattle.hs_base.specs.Entries.{all_appended, all_so, all_by_both}
use Rattle.hs_expressions.specs.Binding.{BindsAs, BindsName}
use Rattle.hs_expressions.specs.Binding.Keeping.{IsNoted, KnowsBound, IsBound}
use Rattle.hs_expressions.specs.Binding.Keeping as bound_step
use Rattle.hs_expressions.specs.Binding.Typing as bound_law
use Rattle.hs_expressions.specs.Expressions.{typed}
use Rattle.hs_expressions.specs.Laws.{IsConstant, IsPrefix, IsScoped, IsKnown, Knows}
use Rattle.hs_expressions.specs.Laws.Always.{Reaching, Always}
use Rattle.hs_expressions.specs.Laws.Keeping as typed_step
use Rattle.hs_expressions.specs.Laws.Reached.{IsAllowedAt, Reaches}
use Rattle.hs_expressions.specs.Laws.Typing as typed_law
use Rattle.hs_expressions.specs.Operations.{value_of}
use Rattle.hs_expressions.specs.Laws.Traced.{TracedTo}
use Rattle.hs_fitting.specs.Claims.{Claims, IsOfClaim, IsAccounted, IsFulfilled, IsClaimed, IsClaimedAs, RefersTo, IsVariableAt, IsVariableIn, IsTypedIn, IsBoundAs, IsBoundIn, IsLink, IsExternal, IsRoutineOf, IsSigned, IsFirstRoutine, IsRoutineDeclared, IsRegisteredAs, IsMetAs, AreFulfilled, AreObjects, category_in, Endures, IsCallClaimed, IsObjectRight, Stands, Proceeds}
use Rattle.hs_fitting.specs.Lasting.{endures_typer}
use Rattle.hs_fitting.specs.Moving.{Moving, typing_moved}
use Rattle.hs_fitting.specs.Noting.{AllowsBound, AllowsName, NamesAllow, Noting, Notes}
use Rattle.hs_fitting.specs.NotingSteps.{of_types_notes}
use Rattle.hs_fitting.specs.NotingTyping.{valued_notes}
use Rattle.hs_fitting.specs.Accounts.{accounted_traced}
use Rattle.hs_fitting.specs.Closing.{closed_typer}
use Rattle.hs_fitting.specs.Entities.{among_has}
use Rattle.hs_fitting.specs.Owned.{own_later}
use Rattle.hs_fitting.specs.Owning.{IsOwnName, OwnAt, own_after}
use Rattle.hs_fitting.specs.Rightness.{AreRight}
use Rattle.hs_fitting.specs.Sameness.{one_whole}
use Rattle.hs_fitting.specs.Walk.{Continues, continues_first, Nothing, Walking, Walks}
use Rattle.hs_linkage.specs.Works.{typing, with_typer}
use Rattle.hs_linkage.specs.declared.definitions.Definition.{Definition}
use Rattle.hs_linkage.specs.declared.externals.External.{External}
use Rattle.hs_linkage.specs.declared.translator.Linked.{Linked}
use Rattle.hs_linkage.specs.declared.translator.StaticObject.{StaticObject}
use Rattle.hs_linkage.specs.declared.translator.Translator.{Translator}
use Rattle.hs_names.specs.Scopes.{Declared}
use Rattle.hs_operands.specs.Laws.{IsTyped}
use Rattle.hs_operand_types.specs.declared.operand.Bound.{Bound}
use Rattle.hs_operand_types.specs.declared.operand.Bound.TheVariants as bound
use Rattle.hs_branches.specs.Branches.{valued}
use Rattle.hs_syntax.specs.Trees.{Expression}
use Rattle.hs_tree.specs.Fitting.{types_of, variable_of_global, IsObjectOf, IsVariableOf}
use Rattle.hs_tree.specs.Kinds.{Category, of_function, category_of_row, category_of}
use Rattle.hs_tree.specs.Trees.{RightValue, TypedFunction, TypedProgram}
use Rattle.hs_tree.specs.declared.globals.Global.{Global}
use Rattle.hs_tree.specs.declared.head.Variable.TheVariants as variable
use Rattle.hs_tree.specs.declared.head.VariableDecl.{VariableDecl}
use Rattle.hs_tree.specs.declared.representatives.Representatives.{Representatives}
use Rattle.hs_typer.specs.Steps.{Step, kept, of_types}
use Rattle.hs_typer.specs.declared.type_error.TypeError.{TypeError}
use Rattle.hs_typer.specs.declared.typer.Entity.{Entity}
use Rattle.hs_typer.specs.declared.typer.Entity.TheVariants as entity
use Rattle.hs_typer.specs.declared.typer.Typer.{Typer}
use Rattle.hs_types.specs.TypeTables.{TypeTable, IsRight, Grows, row_of}
use Rattle.hs_types.specs.declared.row.Row.{Row}
use Rattle.hs_types.specs.declared.row.TypeId.{TypeId}

-- ---- the names of a place mean what the program has

-- an object of that category
object_is : (types : TypeTable) (given : Option Global) (id : TypeId) → category_in types (variable_of_global given) ≡ Some (category_of types id)
    → IsObjectOf types given id
object_is types None id is = absurd cc
object_is types (Some it) id is = cc

-- so it is there
object_there : (types : TypeTable) (given : Option Global) (id : TypeId) → category_in types (variable_of_global given) ≡ Some (category_of types id)
    → IsTrue (is_some (variable_of_global given))
object_there types None id is = absurd cc
object_there types (Some it) id is = refl

-- a variable of that type, among its types and among all variables
variable_is : (same : Representatives) (types : TypeTable) (variables : List VariableDecl) (place : ℕ) (id : TypeId)
    → IsVariableAt types (slice_get (types_of variables) place) id → IsVariableOf same types (slice_get variables place) id
variable_is same types [] place id is = absurd is
variable_is same types (it ∷ rest) zero id is = (one_whole same types it.type_id id is.0 is.1, is.1)
variable_is same types (it ∷ rest) (suc place) id is = variable_is same types rest place id is

-- so it is there
variable_there : (same : Representatives) (types : TypeTable) (given : Option VariableDecl) (id : TypeId) → IsVariableOf same types given id
    → IsTrue (is_some given)
variable_there same types None id is = absurd is
variable_there same types (Some it) id is = refl

-- with more variables after it
variable_later : (types : TypeTable) (old more : List TypeId) (place : ℕ) (id : TypeId) → IsVariableAt types (slice_get old place) id
    → IsVariableAt types (slice_get (old ++ more) place) id
variable_later types [] more place id is = absurd is
variable_later types (it ∷ rest) more zero id is = is
variable_later types (it ∷ rest) more (suc place) id is = variable_later types rest more place id is

-- of the later ones
pub variable_among : (types : TypeTable) (old new : List TypeId) (place : ℕ) (id : TypeId) → IsPrefix old new
    → IsVariableAt types (slice_get old place) id → IsVariableAt types (slice_get new place) id
variable_among types old new place id before is =
    subst (λ all. IsVariableAt types (slice_get all place) id) (sym before.1) (variable_later types old before.0 place id is)

module _ (program : TypedProgram) (function : TypedFunction) (its : Claims) (m : Translator) (fulfilled : AreFulfilled program its)
    (objects : AreObjects program m.objects) (locals : IsPrefix (types_of m.locals) (types_of function.variables)) where
  -- and a routine is one of the program's
  routine_claimed : (number : ℕ) (id : TypeId) (first : Option TypeId) → its.routines number ≡ first → IsClaimed program.types first id
      → number < length program.routines
  routine_claimed number id None known is = absurd is
  routine_claimed number id (Some first) known is = fulfilled.routines number first known

  -- so calls are bound to what the program has
  claimed_bound : (id : TypeId) (to : Bound) → IsClaimedAs program.types its id to → BindsAs program program.types id to
  claimed_bound id (bound.Function number) is =
      among_has (IsFulfilled program) (entity.Function id (bound.Function number)) its.entities fulfilled.entities is.1
  claimed_bound id (bound.Routine number) is = routine_claimed number id (its.routines number) refl is.0
  claimed_bound id bound.Nothing is = tt

  -- an automatic variable of the function
  local_is : (place : ℕ) (id : TypeId) → IsVariableAt program.types (slice_get (types_of m.locals) place) id
      → IsVariableOf program.same program.types (slice_get function.variables place) id
  local_is place id is =
      variable_is program.same program.types function.variables place id
      (variable_among program.types (types_of m.locals) (types_of function.variables) place id locals is)

  -- the name of an object means a variable of the program
  name_known : (it : Entity) → RefersTo program.types its m.objects it → IsVariableIn program.types m.locals it → IsKnown program function it
  name_known (entity.Constant bits) refers is = tt
  name_known (entity.Variable (variable.Global place) id) refers is =
      object_is program.types (slice_get program.globals place) id (objects place (category_of program.types id) refers)
  name_known (entity.Variable (variable.Local place) id) refers is = local_is place id is
  name_known (entity.Function id to) refers is = tt
  name_known (entity.Typedef id) refers is = tt

  -- and each name something that the program has
  name_bound : (it : Entity) → RefersTo program.types its m.objects it → IsVariableIn program.types m.locals it
      → BindsName program function program.types it
  name_bound (entity.Constant bits) refers is = tt
  name_bound (entity.Variable (variable.Global place) id) refers is =
      object_there program.types (slice_get program.globals place) id (objects place (category_of program.types id) refers)
  name_bound (entity.Variable (variable.Local place) id) refers is =
      variable_there program.same program.types (slice_get function.variables place) id (local_is place id is)
  name_bound (entity.Function id to) refers is = claimed_bound id to refers
  name_bound (entity.Typedef id) refers is = tt

-- The names of a place of the text mean variables, functions and routines of the program that it goes on to.
pub knows_names : (here : List ℕ → Bool) (program : TypedProgram) (function : TypedFunction) (its : Claims) (m : Translator)
    → Stands program here its m.locals m → Continues program function its m m
    → Knows program function m.typer × KnowsBound program function program.types m.typer
knows_names here program function its m stands continues = (
  all_by_both (λ it. RefersTo program.types its m.objects it.entity) (λ it. IsVariableIn program.types m.locals it.entity)
      (λ it. IsKnown program function it.entity)
      (λ it refers is. name_known program function its m continues.claims continues.objects continues.locals it.entity refers is)
      m.typer.names.declarations stands.names stands.locals,
  all_by_both (λ it. RefersTo program.types its m.objects it.entity) (λ it. IsVariableIn program.types m.locals it.entity)
      (λ it. BindsName program function program.types it.entity)
      (λ it refers is. name_bound program function its m continues.claims continues.objects continues.locals it.entity refers is)
      m.typer.names.declarations stands.names stands.locals,
)

-- ---- typing knows more

-- a category stays
some_row : (o : Option Row) (its : Category) → category_of_row o ≡ Some its → (found : Row) × (o ≡ Some found)
some_row None its is = absurd cc
some_row (Some found) its is = (found, refl)

pub category_stays : (old new : TypeTable) (id : TypeId) (its : Category) → Grows old new → category_of old id ≡ Some its → category_of new id ≡ Some its
category_stays old new id its grows is =
    let one = some_row (row_of old id) its is in ap category_of_row (grows.rows id.number one.0 one.1) ∙ ap category_of_row (sym one.1) ∙ is

-- in the same unit, with the same table of routines
module _ (program : TypedProgram) (here : List ℕ → Bool) (its : Claims) (m : Translator) (new : Typer) (unit : new.origins.unit ≡ m.typer.origins.unit)
    (table : new.table ≡ m.typer.table) where
  -- of this unit
  abbrev IsHere : Definition → ℕ → Type 0
  IsHere it number = (it.unit == number) ≡ true

  -- a name is bound as it was
  bound_still : (internal : Bool) (name : List ℕ) (it : Entity) → IsBoundIn m internal name it → IsBoundIn (record m { typer = new }) internal name it
  bound_still internal name it is =
      subst (λ number. IsBoundAs internal number m.definitions new.table name it) (sym unit)
      (subst (λ all. IsBoundAs internal m.typer.origins.unit m.definitions all name it) (sym table) is)

  -- the type of a function is one of functions
  typed_still : Grows m.typer.types new.types → (it : Entity) → IsTypedIn m.typer.types it → IsTypedIn new.types it
  typed_still grows (entity.Constant bits) is = tt
  typed_still grows (entity.Variable variable id) is = tt
  typed_still grows (entity.Function id to) is = category_stays m.typer.types new.types id of_function grows is
  typed_still grows (entity.Typedef id) is = tt

  -- so links, external declarations and declarations of routines are what they were
  link_still : Grows m.typer.types new.types → (it : Declared Linked) → IsLink program.types here its m it → IsLink program.types here its
      (record m { typer = new }) it
  link_still grows it is =
      record {
        refers = is.refers;
        bound = bound_still it.entity.internal it.name it.entity.entity is.bound;
        internal = is.internal;
        global = is.global;
        typed = typed_still grows it.entity.entity is.typed;
        own = λ id same. own_later its.base m.typer.types new.types grows id (is.own id same);
      }

  external_still : Grows m.typer.types new.types → (it : External) → IsExternal program.types its m it → IsExternal program.types its
      (record m { typer = new }) it
  external_still grows it is = record {
    refers = is.refers;
    bound = bound_still false it.name it.entity is.bound;
    global = is.global;
    typed = typed_still grows it.entity is.typed;
  }

  routine_still : Grows m.typer.types new.types → (it : External) → IsRoutineDeclared program.types its m it → IsRoutineDeclared program.types its
      (record m { typer = new }) it
  routine_still grows it is =
      record {
        refers = is.refers;
        routine = subst (λ all. IsRoutineOf all it.name it.entity) (sym table) is.routine;
        typed = typed_still grows it.entity is.typed;
        signed = subst (λ number. ((it.unit == number) ≡ true) ⊎ IsSigned program.types it) (sym unit) is.signed;
      }

  -- a function that was declared is still declared
  registered_still : (internal : Bool) (it : Definition) → IsRegisteredAs internal m it → IsRegisteredAs internal (record m { typer = new }) it
  registered_still true it is = λ same. is (subst (IsHere it) unit same)
  registered_still false it is = is

  met_still : (internal : Bool) (it : Definition) → IsMetAs internal m it → IsMetAs internal (record m { typer = new }) it
  met_still true it is = λ same. is (subst (IsHere it) unit same)
  met_still false it is = is

  -- an object is what it was
  object_still : (Endures program its (record m { typer = new }) → Endures program its m) → (it : StaticObject) → IsObjectRight program its m it
      → IsObjectRight program its (record m { typer = new }) it
  object_still before it is =
      record { category = is.category; undefined = is.undefined; filled = λ endures. is.filled (before endures) }

  -- What is claimed stays, if the names that are known then refer to it.
  pub stands_typer : (variables later : List VariableDecl) → Grows m.typer.types new.types → TracedTo m.typer new
      → AllByRecursion (λ it. IsOwnName its.base new.types it.entity) new.names.declarations → AllByRecursion
      (λ it. RefersTo program.types its m.objects it.entity) new.names.declarations
      → AllByRecursion (λ it. IsVariableIn program.types later it.entity) new.names.declarations
      → AllByRecursion (IsCallClaimed program.types its new.table) new.calls → AreRight new.types
      → (Endures program its (record m { typer = new }) → Endures program its m) → Stands program here its variables m
      → Stands program here its later (record m { typer = new })
  stands_typer variables later grows traced typedefs names locals calls right before stands =
      record {
        names = names;
        locals = locals;
        links = all_so (IsLink program.types here its m) (IsLink program.types here its (record m { typer = new }))
            (link_still grows) m.links.declarations stands.links;
        externals = all_so (IsExternal program.types its m) (IsExternal program.types its (record m { typer = new }))
            (external_still grows) m.externals stands.externals;
        routines = all_so (IsRoutineDeclared program.types its m) (IsRoutineDeclared program.types its (record m { typer = new }))
            (routine_still grows) m.routines
            stands.routines;
        calls = calls;
        right = right;
        objects = all_so (IsObjectRight program its m) (IsObjectRight program its (record m { typer = new })) (object_still before) m.objects
            stands.objects;
        functions_met = λ number id it claimed at. registered_still it.internal it (stands.functions_met number id it claimed at);
        routines_met = λ number id it claimed at. stands.routines_met number id it claimed (subst (λ all. slice_get all number ≡ Some it) table at);
        functions_there = stands.functions_there;
        routines_there = λ number id claimed. subst (λ all. IsFirstRoutine all number) (sym table) (stands.routines_there number id claimed);
        internal = λ number it at same. stands.internal number it at (subst (IsHere it) unit same);
        traced = (traced its.base stands.traced).0;
        typedefs = typedefs;
        accounted = all_so (IsAccounted program.types its m) (IsAccounted program.types its (record m { typer = new }))
            (accounted_traced program.types its m new (traced its.base stands.traced).1) its.entities stands.accounted;
        closed = closed_typer program.types its.base m new unit (traced its.base stands.traced).1 stands.closed;
      }

  -- nothing is claimed anew
  pub proceeds_typer : Proceeds program.types its m its (record m { typer = new })
  proceeds_typer =
      record {
        functions = λ number id is. is;
        routines = λ number id is. is;
        entities = λ it is. is;
        base = refl;
        objects = λ place is same. same;
        met = λ it is. met_still it.internal it is;
        fresh = λ number id it claimed none at met. some_none (its.functions number) id claimed none;
      }

module _ (types : TypeTable) where
  -- constants refer to nothing
  pub constant_refers : (its : Claims) (m : Translator) (it : Entity) → IsConstant it → RefersTo types its m.objects it
  constant_refers its m (entity.Constant bits) is = tt
  constant_refers its m (entity.Variable variable id) is = absurd is
  constant_refers its m (entity.Function id to) is = absurd is
  constant_refers its m (entity.Typedef id) is = tt

  -- and are no variables
  pub constant_local : (m : Translator) (it : Entity) → IsConstant it → IsVariableIn types m.locals it
  constant_local m (entity.Constant bits) is = tt
  constant_local m (entity.Variable variable id) is = absurd is
  constant_local m (entity.Function id to) is = absurd is
  constant_local m (entity.Typedef id) is = tt

  -- what is so of constants and of all names is so of all names later
  pub names_after : (holds : Entity → Type 0) → ((it : Entity) → IsConstant it → holds it) → (old new : Typer) → Reaches IsConstant old new
      → AllByRecursion (λ it. holds it.entity) old.names.declarations → AllByRecursion (λ it. holds it.entity) new.names.declarations
  names_after holds so old new reached are =
      subst (λ scopes. AllByRecursion (λ it. holds it.entity) scopes.declarations) (sym reached.names.2)
      (all_appended (λ it. holds it.entity) reached.names.0 old.names.declarations
      (all_so (IsAllowedAt IsConstant old.names.level) (λ it. holds it.entity) (λ it is. so it.entity is.1) reached.names.0 reached.names.1) are)

-- a name of a routine that is claimed allows its calls
refers_bound : (types : TypeTable) (its : Claims) (id : TypeId) (to : Bound) → IsClaimedAs types its id to → AllowsBound (IsOfClaim types its) id to
refers_bound types its id (bound.Function number) is = tt
refers_bound types its id (bound.Routine number) is = is
refers_bound types its id bound.Nothing is = tt

refers_allows : (types : TypeTable) (its : Claims) (objects : List StaticObject) (it : Entity) → RefersTo types its objects it
    → AllowsName (IsOfClaim types its) it
refers_allows types its objects (entity.Constant bits) is = tt
refers_allows types its objects (entity.Variable variable id) is = tt
refers_allows types its objects (entity.Function id to) is = refers_bound types its id to is
refers_allows types its objects (entity.Typedef id) is = tt

pub names_allow : (program : TypedProgram) (here : List ℕ → Bool) (its : Claims) (variables : List VariableDecl) (m : Translator)
    → Stands program here its variables m → NamesAllow (IsOfClaim program.types its) m.typer
names_allow program here its variables m stands =
    all_so (λ it. RefersTo program.types its m.objects it.entity) (λ it. AllowsName (IsOfClaim program.types its) it.entity)
    (λ it is. refers_allows program.types its m.objects it.entity is) m.typer.names.declarations stands.names

-- tags and typedef names are of this unit
pub own_here : (program : TypedProgram) (here : List ℕ → Bool) (its : Claims) (variables : List VariableDecl) (m : Translator)
    → Stands program here its variables m → OwnAt its.base m.typer
own_here program here its variables m stands =
    record { traced = stands.traced; names = stands.typedefs; fixed = stands.right.right.basic }

module _ (program : TypedProgram) where
  -- a step of typing in an expression
  pub stands_reached : (here : List ℕ → Bool) (its : Claims) (m : Translator) (new : Typer) → Reaches IsConstant m.typer new
      → AllByRecursion (IsCallClaimed program.types its m.typer.table) new.calls → AreRight new.types → Stands program here its m.locals m
      → Stands program here its m.locals (record m { typer = new })
  stands_reached here its m new reached calls right stands =
      stands_typer program here its m new reached.unit reached.table m.locals m.locals reached.types reached.traced
      (own_after its.base m.typer new reached (own_here program here its m.locals m stands)).names
      (names_after program.types (RefersTo program.types its m.objects) (constant_refers program.types its m) m.typer new reached stands.names)
      (names_after program.types (IsVariableIn program.types m.locals) (constant_local program.types m) m.typer new reached stands.locals)
      (subst (λ table. AllByRecursion (IsCallClaimed program.types its table) new.calls) (sym reached.table) calls) right
      (endures_typer program its m new IsConstant reached) stands

-- ---- steps of typing

module _ (here : List ℕ → Bool) (program : TypedProgram) (function : TypedFunction) where
  -- from one place of the text
  typing_walked : {A : Type 0} → (after : Claims → Translator → A → Type 0) (holds : A → Type 0) (its : Claims) (m : Translator)
      (given : Result (A × Typer) TypeError) → Stands program here its m.locals m
      → Noting (IsOfClaim program.types its) program.types (λ it. Unit {0}) m.typer given → Moving m (with_typer m given) → Reaching IsConstant m.typer given
      → ((p : A × Typer) → given ≡ Ok p → Grows p.1.types program.types → after its (record m { typer = p.1 }) p.0)
      → (Knows program function m.typer → KnowsBound program function program.types m.typer → (p : A × Typer) → given ≡ Ok p
      → IsNoted program function program.types m.typer p.1 → holds p.0) → Walking here program function its m after holds (with_typer m given)
  typing_walked after holds its m (Ok p) stands notes moves reached known gives = λ grows.
      let proceeds : Proceeds program.types its m its (record m { typer = p.1 })
      = proceeds_typer program here its m p.1 reached.unit reached.table in
      record {
        claims = its;
        proceeds = proceeds;
        stands = stands_reached program here its m p.1 reached (notes.calls grows stands.calls) (notes.right stands.right) stands;
        known = known p refl grows;
        gives = λ continues.
            let knows : Knows program function m.typer × KnowsBound program function program.types m.typer
            = knows_names here program function its m stands
            (continues_first program function its its m m (record m { typer = p.1 }) moves proceeds continues) in
            gives knows.0 knows.1 p refl continues.noted;
      }
  typing_walked after holds its m (Err why) stands notes moves reached known gives = tt

-- an answer that changes nothing
kept_given : {A : Type 0} → (s : Typer) (given : Result A TypeError) (p : A × Typer) → kept s given ≡ Ok p → (given ≡ Ok p.0) × (p.1 ≡ s)
kept_given {A} s (Ok it) p is =
    let pair : A × Typer = (it, s) in let same : pair ≡ p = cc in
    (ap (λ q. Ok q.0) same, sym (ap (λ q. q.1) same))
kept_given s (Err why) p is = absurd cc

module _ (program : TypedProgram) (function : TypedFunction) where
  -- what a step gives that goes by the types alone
  types_given : {A : Type 0} → (holds : A → Type 0) (f : TypeTable → Result A TypeError)
      → ((types : TypeTable) → Grows types program.types → (it : A) → f types ≡ Ok it → holds it) → (s : Typer) (p : A × Typer)
      → kept s (f s.types) ≡ Ok p → IsNoted program function program.types s p.1 → holds p.0
  types_given holds f gives s p given noted =
      let parts : (f s.types ≡ Ok p.0) × (p.1 ≡ s) = kept_given s (f s.types) p given in
      gives s.types (subst (λ known. Grows known.types program.types) parts.1 noted.types) p.0 parts.0

module _ {here : List ℕ → Bool} {program : TypedProgram} {function : TypedFunction} where
  -- A step of typing, by all that is known before it.
  pub typing_fully : {A : Type 0} → {pre : Claims → Translator → Type 0} → {after : Claims → Translator → A → Type 0} → {holds : A → Type 0}
      → (step : Step A) → ((Q : ℕ → TypeId → Type 0) → Notes Q program.types IsConstant (λ it. Unit {0}) step)
      → ((its : Claims) (m : Translator) → IsScoped m.typer → m.typer.counts ≡ true → Stands program here its m.locals m → pre its m
      → (p : A × Typer) → step m.typer ≡ Ok p → Reaches IsConstant m.typer p.1 → Grows p.1.types program.types
      → after its (record m { typer = p.1 }) p.0)
      → ((its : Claims) (m : Translator) → IsScoped m.typer → m.typer.counts ≡ true → Stands program here its m.locals m → pre its m
      → Knows program function m.typer → KnowsBound program function program.types m.typer → (p : A × Typer)
      → step m.typer ≡ Ok p → IsNoted program function program.types m.typer p.1 → holds p.0)
      → Walks here program function pre (typing step) after holds
  typing_fully {A = A} {pre = pre} {after = after} {holds = holds} step notes known gives =
      let is : Always IsConstant step = (notes (λ number id. Unit {0})).always in
      record {
        moved = typing_moved IsConstant step is;
        from = λ its m scoped counts stands met. typing_walked here program function after holds its m (step m.typer) stands
            ((notes (IsOfClaim program.types its)).gives m.typer (names_allow program here its m.locals m stands))
            ((typing_moved IsConstant step is).from m scoped) (is.from m.typer scoped)
            (λ p given grows. known its m scoped counts stands met p given (reached_of (step m.typer) (is.from m.typer scoped) p given) grows)
            (gives its m scoped counts stands met);
      }
    where
      reached_of : {s : Typer} (given : Result (A × Typer) TypeError) → Reaching IsConstant s given → (p : A × Typer) → given ≡ Ok p
          → Reaches IsConstant s p.1
      reached_of {s = s} given reached p is = subst (Reaching IsConstant s) is reached

  -- A step of typing: what it gives meets a fact, and what is known after it follows from what was known before.
  pub typing_known : {A : Type 0} → {pre : Claims → Translator → Type 0} → {after : Claims → Translator → A → Type 0} → {holds : A → Type 0}
      → (step : Step A) → ((Q : ℕ → TypeId → Type 0) → Notes Q program.types IsConstant (λ it. Unit {0}) step)
      → ((its : Claims) (m : Translator) → pre its m → (p : A × Typer) → step m.typer ≡ Ok p → Grows p.1.types program.types
      → after its (record m { typer = p.1 }) p.0)
      → ((s : Typer) → IsScoped s → s.counts ≡ true → Knows program function s → KnowsBound program function program.types s → (p : A × Typer)
      → step s ≡ Ok p → IsNoted program function program.types s p.1 → holds p.0) → Walks here program function pre (typing step) after holds
  typing_known {after = after} {holds = holds} step notes known gives =
      let is : Always IsConstant step = (notes (λ number id. Unit {0})).always in
      record {
        moved = typing_moved IsConstant step is;
        from = λ its m scoped counts stands met. typing_walked here program function after holds its m (step m.typer) stands
            ((notes (IsOfClaim program.types its)).gives m.typer (names_allow program here its m.locals m stands))
            ((typing_moved IsConstant step is).from m scoped) (is.from m.typer scoped) (known its m met) (gives m.typer scoped counts);
      }

  -- only what it gives matters
  pub typing_walks : {A : Type 0} → {pre : Claims → Translator → Type 0} → {holds : A → Type 0} → (step : Step A) →
      ((Q : ℕ → TypeId → Type 0) → Notes Q program.types IsConstant (λ it. Unit {0}) step)
      → ((s : Typer) → IsScoped s → s.counts ≡ true → Knows program function s → KnowsBound program function program.types s → (p : A × Typer)
      → step s ≡ Ok p → IsNoted program function program.types s p.1 → holds p.0) → Walks here program function pre (typing step) Nothing holds
  typing_walks step notes gives = typing_known step notes (λ its m met p given grows. tt) gives

  -- what is known of claims and objects is known after it
  pub typing_stays : {A : Type 0} → {holds : A → Type 0} → (fact : Claims → List StaticObject → Type 0) (step : Step A) →
      ((Q : ℕ → TypeId → Type 0) → Notes Q program.types IsConstant (λ it. Unit {0}) step)
      → ((s : Typer) → IsScoped s → s.counts ≡ true → Knows program function s → KnowsBound program function program.types s → (p : A × Typer)
      → step s ≡ Ok p → IsNoted program function program.types s p.1 → holds p.0)
      → Walks here program function (λ its m. fact its m.objects) (typing step) (λ its m it. fact its m.objects) holds
  typing_stays fact step notes gives = typing_known step notes (λ its m met p given grows. met) gives

  -- a step that goes by the types alone
  pub types_walks : {A : Type 0} → {pre : Claims → Translator → Type 0} → {holds : A → Type 0} → (f : TypeTable → Result A TypeError)
      → ((types : TypeTable) → Grows types program.types → (it : A) → f types ≡ Ok it → holds it)
      → Walks here program function pre (typing (of_types f)) Nothing holds
  types_walks {holds = holds} f gives =
      typing_walks (of_types f) (λ Q. of_types_notes f)
      (λ s scoped counts knows binds p given noted. types_given program function holds f gives s p given noted)

  pub types_stays : {A : Type 0} → {holds : A → Type 0} → (fact : Claims → List StaticObject → Type 0) (f : TypeTable → Result A TypeError)
      → ((types : TypeTable) → Grows types program.types → (it : A) → f types ≡ Ok it → holds it)
      → Walks here program function (λ its m. fact its m.objects) (typing (of_types f)) (λ its m it. fact its m.objects) holds
  types_stays {holds = holds} fact f gives =
      typing_stays fact (of_types f) (λ Q. of_types_notes f)
      (λ s scoped counts knows binds p given noted. types_given program function holds f gives s p given noted)

-- ---- values

-- well typed, and bound to what the program has
abbrev pub IsValue : TypedProgram → TypedFunction → RightValue → Type 0
IsValue program function e = IsTyped program function e × IsBound program function e

module _ (program : TypedProgram) (function : TypedFunction) (sound : IsRight program.types) where
  -- of an expression
  value_given : (e : Expression) (s : Typer) → IsScoped s → s.counts ≡ true → Knows program function s → KnowsBound program function program.types s
      → (p : RightValue × Typer) → value_of (typed e) s ≡ Ok p → IsNoted program function program.types s p.1 → IsValue program function p.0
  value_given e s scoped counts knows binds p given noted = (
    subst (typed_step.Giving program (IsTyped program function)) given
        ((typed_step.value_keeps sound (typed_law.typed_keeps program function sound e)).gives s scoped counts knows) noted.types noted.literals,
    subst (bound_step.Giving program function program.types s (IsBound program function)) given
        ((bound_step.value_keeps (bound_law.typed_keeps program function program.types e)).gives s scoped counts binds) noted,
  )

module _ {here : List ℕ → Bool} {program : TypedProgram} {function : TypedFunction} (sound : IsRight program.types) where
  -- The value of an expression is well typed and bound.
  pub valued_walks : {pre : Claims → Translator → Type 0} → (e : Expression)
      → Walks here program function pre (valued e) Nothing (IsValue program function)
  valued_walks e = typing_walks (value_of (typed e)) (λ Q. valued_notes Q program.types e) (value_given program function sound e)

  -- what is known of claims and objects is known after it
  pub valued_stays : (fact : Claims → List StaticObject → Type 0) (e : Expression)
      → Walks here program function (λ its m. fact its m.objects) (valued e) (λ its m it. fact its m.objects) (IsValue program function)
  valued_stays fact e = typing_stays fact (value_of (typed e)) (λ Q. valued_notes Q program.types e) (value_given program function sound e)
