-- More names and other objects of the same categories: all names still refer to what was claimed (X3.159-1989 3.1.2.6 and 3.7.2).
--     stands_changed, proceeds_changed    with other names and objects
--     objects_walked, name_walked, declare_walked, typed_walked      steps that change no more
--     kept_walked                         a fact that stays
use Rattle.std.proofs.Common.{ℕ, Bool, true, false, List, slice_get, Result, Ok, Err, refl, if◌then◌else◌}
use Rattle.std.specs.List.{AllByRecursion}
use Rattle.hs_base.specs.Options.{some_none}
use Rattle.hs_base.specs.Entries.{all_so}
use Rattle.hs_fitting.specs.Accounts.{all_accounted}
use Rattle.hs_fitting.specs.Claims.{Claims, ObjectsStay, RefersTo, IsVariableIn, IsLink, IsExternal, IsRoutineDeclared, IsRegisteredAs, IsMetAs, Endures, IsObjectRight, Stands, Proceeds}
use Rattle.hs_fitting.specs.Owning.{IsOwnName}
use Rattle.hs_fitting.specs.Links.{objects_self, refers_later}
use Rattle.hs_fitting.specs.Moves.{Moves}
use Rattle.hs_fitting.specs.Moving.{Moving}
use Rattle.hs_fitting.specs.Setting.{typed_stay, typed_right}
use Rattle.hs_fitting.specs.Walk.{Nothing, Walked, Walking}
use Rattle.hs_linkage.specs.Linkage.{object_typed}
use Rattle.hs_linkage.specs.Objects.{object_as}
use Rattle.hs_linkage.specs.Works.{with_typer}
use Rattle.hs_linkage.specs.declared.definitions.Definition.{Definition}
use Rattle.hs_linkage.specs.declared.translator.StaticObject.{StaticObject}
use Rattle.hs_linkage.specs.declared.translator.Translator.{Translator}
use Rattle.hs_names.specs.Scopes.{Scoped, declared}
use Rattle.hs_syntax.specs.declared.word.Word.{Word}
use Rattle.hs_tree.specs.Kinds.{category_of}
use Rattle.hs_tree.specs.Trees.{TypedFunction, TypedProgram}
use Rattle.hs_tree.specs.declared.head.Variable.TheVariants as variable
use Rattle.hs_tree.specs.declared.head.VariableDecl.{VariableDecl}
use Rattle.hs_typer.specs.declared.type_error.TypeError.{TypeError}
use Rattle.hs_typer.specs.declared.type_error.TypeError.TheVariants.{Untyped}
use Rattle.hs_typer.specs.declared.typer.Entity.{Entity}
use Rattle.hs_typer.specs.declared.typer.Entity.TheVariants as entity

-- ---- other names and objects

-- what is known with them
abbrev changed : Translator → Scoped Entity → List StaticObject → Translator
changed m names objects = record m { typer = record m.typer { names = names }; objects = objects }

-- functions that were met
met_as : (b : Bool) (m : Translator) (names : Scoped Entity) (objects : List StaticObject) (one : Definition) → IsMetAs b m one
    → IsMetAs b (changed m names objects) one
met_as true m names objects one is = is
met_as false m names objects one is = is

-- functions that are claimed
registered_as : (b : Bool) (m : Translator) (names : Scoped Entity) (objects : List StaticObject) (one : Definition) → IsRegisteredAs b m one
    → IsRegisteredAs b (changed m names objects) one
registered_as true m names objects one is = is
registered_as false m names objects one is = is

module _ (program : TypedProgram) (here : List ℕ → Bool) (its : Claims) (m : Translator) (names : Scoped Entity) (objects : List StaticObject)
    (stay : ObjectsStay program.types m.objects objects) where
  -- names refer to what they did
  refers_still : (it : Entity) → RefersTo program.types its m.objects it → RefersTo program.types its objects it
  refers_still =
      refers_later program.types its its m.objects objects
      (record { functions = λ number id is. is; routines = λ number id is. is; entities = λ it is. is }) stay

  -- a program of these objects was one of those before
  endures_changed : Endures program its (changed m names objects) → Endures program its m
  endures_changed endures =
      record {
        types = endures.types;
        literals = endures.literals;
        calls = endures.calls;
        taken = endures.taken;
        claims = endures.claims;
        objects = λ place category is. endures.objects place category (stay place category is);
      }

  -- an object that was right
  right_still : (it : StaticObject) → IsObjectRight program its m it → IsObjectRight program its (changed m names objects) it
  right_still it is =
      record { category = is.category; undefined = is.undefined; filled = λ endures. is.filled (endures_changed endures) }

  -- if the names that there are then do, and the objects are right
  pub stands_changed : (variables : List VariableDecl) → Stands program here its variables m
      → AllByRecursion (λ it. IsOwnName its.base m.typer.types it.entity) names.declarations
      → AllByRecursion (λ it. RefersTo program.types its m.objects it.entity) names.declarations
      → AllByRecursion (λ it. IsVariableIn program.types variables it.entity) names.declarations
      → AllByRecursion (IsObjectRight program its m) objects → Stands program here its variables (changed m names objects)
  stands_changed variables stands own refer are right =
      record {
        names = all_so (λ it. RefersTo program.types its m.objects it.entity) (λ it. RefersTo program.types its objects it.entity)
            (λ it is. refers_still it.entity is) names.declarations refer;
        locals = are;
        links = all_so (IsLink program.types here its m) (IsLink program.types here its (changed m names objects))
            (λ it is. record {
              refers = refers_still it.entity.entity is.refers;
              bound = is.bound;
              internal = is.internal;
              global = is.global;
              typed = is.typed;
              own = is.own;
            }) m.links.declarations stands.links;
        externals = all_so (IsExternal program.types its m) (IsExternal program.types its (changed m names objects))
            (λ it is. record {
              refers = refers_still it.entity is.refers;
              bound = is.bound;
              global = is.global;
              typed = is.typed;
            }) m.externals stands.externals;
        routines = all_so (IsRoutineDeclared program.types its m) (IsRoutineDeclared program.types its (changed m names objects))
            (λ it is. record {
              refers = refers_still it.entity is.refers;
              routine = is.routine;
              typed = is.typed;
              signed = is.signed;
            }) m.routines stands.routines;
        functions_met = λ number id it is at. registered_as it.internal m names objects it (stands.functions_met number id it is at);
        routines_met = stands.routines_met;
        right = stands.right;
        calls = stands.calls;
        objects = all_so (IsObjectRight program its m) (IsObjectRight program its (changed m names objects)) right_still objects right;
        functions_there = stands.functions_there;
        routines_there = stands.routines_there;
        internal = stands.internal;
        traced = stands.traced;
        typedefs = own;
        accounted = all_accounted program.types its m (changed m names objects) refl refl refl refl its.entities stands.accounted;
        closed = stands.closed;
      }

  -- claims are the same
  pub proceeds_changed : Proceeds program.types its m its (changed m names objects)
  proceeds_changed =
      record {
        functions = λ number id is. is;
        routines = λ number id is. is;
        entities = λ it is. is;
        base = refl;
        objects = stay;
        met = λ it is. met_as it.internal m names objects it is;
        fresh = λ number id it is free at met. some_none (its.functions number) id is free;
      }

module _ (here : List ℕ → Bool) (program : TypedProgram) (function : TypedFunction) where
  -- a step after which only they are others
  changed_walked : {A : Type 0} → (after : Claims → Translator → A → Type 0) (its : Claims) (m : Translator) (names : Scoped Entity)
      (objects : List StaticObject) (it : A) → ObjectsStay program.types m.objects objects → Stands program here its m.locals m
      → AllByRecursion (λ it. IsOwnName its.base m.typer.types it.entity) names.declarations
      → AllByRecursion (λ it. RefersTo program.types its m.objects it.entity) names.declarations
      → AllByRecursion (λ it. IsVariableIn program.types m.locals it.entity) names.declarations → AllByRecursion (IsObjectRight program its m) objects
      → after its (changed m names objects) it → Walking here program function its m after (λ it. Unit {0}) (Ok (it, changed m names objects))
  changed_walked after its m names objects it stay stands own refer are right known = λ grows.
      record {
        claims = its;
        proceeds = proceeds_changed program here its m names objects stay;
        stands = stands_changed program here its m names objects stay m.locals stands own refer are right;
        known = known;
        gives = λ continues. tt;
      }

  -- only the objects
  pub objects_walked : {A : Type 0} → (after : Claims → Translator → A → Type 0) (its : Claims) (m : Translator) (objects : List StaticObject) (it : A)
      → ObjectsStay program.types m.objects objects → AllByRecursion (IsObjectRight program its m) objects → Stands program here its m.locals m
      → after its (record m { objects = objects }) it → Walking here program function its m after (λ it. Unit {0}) (Ok (it, record m { objects = objects }))
  objects_walked after its m objects it stay right stands known =
      changed_walked after its m m.typer.names objects it stay stands stands.typedefs stands.names stands.locals right known

  -- one name more
  pub name_walked : (its : Claims) (m : Translator) (word : Word) (it : Entity) → Stands program here its m.locals m → RefersTo program.types its m.objects it
      → IsVariableIn program.types m.locals it → IsOwnName its.base m.typer.types it
      → Walking {A = Unit {0}} here program function its m Nothing (λ it. Unit {0})
      (Ok (tt, record m { typer = record m.typer { names = declared word.text it m.typer.names } }))
  name_walked its m word it stands refers is own =
      changed_walked Nothing its m (declared word.text it m.typer.names) m.objects tt (objects_self program.types m.objects) stands
      (own, stands.typedefs) (refers, stands.names)
      (is, stands.locals) stands.objects tt

  -- if nothing else has the name in its scope
  pub declare_walked : (its : Claims) (m : Translator) (word : Word) (it : Entity) (b : Bool) → Stands program here its m.locals m
      → RefersTo program.types its m.objects it → IsVariableIn program.types m.locals it → IsOwnName its.base m.typer.types it
      → Walking {A = Unit {0}} here program function its m Nothing (λ it. Unit {0})
      (with_typer m (if b then Err (Untyped word.place) else Ok (tt, record m.typer { names = declared word.text it m.typer.names })))
  declare_walked its m word it true stands refers is own = tt
  declare_walked its m word it false stands refers is own = name_walked its m word it stands refers is own

  -- the type of an object
  pub typed_walked : (its : Claims) (m : Translator) (it : Entity) → Stands program here its m.locals m → RefersTo program.types its m.objects it
      → Walking here program function its m (λ its m done. RefersTo program.types its m.objects it) (λ it. Unit {0}) (object_typed it m)
  typed_walked its m (entity.Constant bits) stands refers =
      objects_walked (λ its m done. Unit {0}) its m m.objects tt (objects_self program.types m.objects) stands.objects stands tt
  typed_walked its m (entity.Variable (variable.Global place) id) stands refers =
      let stay : ObjectsStay program.types m.objects (object_as m.typer.types id (slice_get m.objects place) m.objects place)
      = typed_stay program.types m.typer.types id m.objects place (slice_get m.objects place) refl refers in
      objects_walked (λ its m done. RefersTo program.types its m.objects (entity.Variable (variable.Global place) id)) its m
      (object_as m.typer.types id (slice_get m.objects place) m.objects place) tt stay
      (typed_right program its m m.typer.types id m.objects place (slice_get m.objects place) refl refers stands.objects) stands
      (stay place (category_of program.types id) refers)
  typed_walked its m (entity.Variable (variable.Local place) id) stands refers =
      objects_walked (λ its m done. Unit {0}) its m m.objects tt (objects_self program.types m.objects) stands.objects stands tt
  typed_walked its m (entity.Function id to) stands refers =
      objects_walked (λ its m done. RefersTo program.types its m.objects (entity.Function id to)) its m m.objects tt
      (objects_self program.types m.objects) stands.objects stands refers
  typed_walked its m (entity.Typedef id) stands refers =
      objects_walked (λ its m done. Unit {0}) its m m.objects tt (objects_self program.types m.objects) stands.objects stands tt

  -- a fact that stays
  pub kept_walked : {A : Type 0} → (after : Claims → Translator → A → Type 0) (holds : A → Type 0) (keeps : Claims → Translator → Type 0)
      (its : Claims) (m : Translator)
      → ((its more : Claims) (m n : Translator) → Proceeds program.types its m more n → Moves m n → keeps its m → keeps more n)
      → keeps its m → (given : Result (A × Translator) TypeError) → Moving m given → Walking here program function its m after holds given
      → Walking here program function its m (λ its m it. after its m it × keeps its m) holds given
  kept_walked after holds keeps its m stays is (Ok p) moves walking = λ grows.
      let walked : Walked here program function its m after holds p = walking grows in
      record {
        claims = walked.claims;
        proceeds = walked.proceeds;
        stands = walked.stands;
        known = (walked.known, stays its walked.claims m p.1 walked.proceeds moves is);
        gives = walked.gives;
      }
  kept_walked after holds keeps its m stays is (Err why) moves walking = tt
