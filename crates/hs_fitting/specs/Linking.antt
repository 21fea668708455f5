-- A declaration with linkage refers to what was claimed, and so do all names after it (X3.159-1989 3.1.2.2 and 3.1.2.6).
--     MayMake program m id            the declaration makes no object of a type of functions
--     Linking program here its variables m word id p      of what `link` gives, and what is known then
--     link_gives, link_stands         so it is, where it may make an object
--     linking_global                  it is no automatic variable
use Rattle.std.proofs.Common.{◌≡◌, ◌⊎◌, inl, inr, ℕ, Bool, true, false, not, ◌&&◌, List, [], slice_get, Some, None, Ok, IsTrue, is_some, refl, sym, subst, if◌then◌else◌}
use Rattle.std.specs.List.{AllByRecursion}
use Rattle.hs_base.specs.Options.{some_none}
use Rattle.hs_base.specs.Entries.{all_so}
use Rattle.hs_fitting.specs.Outcomes.{Gives, gives_then, gives_unless}
use Rattle.hs_fitting.specs.Chosen.{IsChosen, Choosing, chosen_made, link_as_chosen}
use Rattle.hs_fitting.specs.Claiming.{IsFirst, IsClaiming, chosen_claims}
use Rattle.hs_expressions.specs.Laws.Traced.{IsTracedAt}
use Rattle.hs_fitting.specs.Closing.{closed_linked}
use Rattle.hs_fitting.specs.Accounting.{accounted_linked, linked_accounted, linked_accounted_typed}
use Rattle.hs_fitting.specs.Claims.{Claims, IsBoundAs, IsFulfilled, IsAccounted, RefersTo, IsVariableIn, IsBoundIn, IsLink, IsExternal, IsRoutineDeclared, IsRegistered, IsMet, Endures, IsCallClaimed, IsObjectRight, Stands, Proceeds}
use Rattle.hs_fitting.specs.Entities.{IsAmong, all_by_among}
use Rattle.hs_fitting.specs.Found.{link_found, link_here, IsThere, external_all}
use Rattle.hs_fitting.specs.HasLinks.{MayBeStatic}
use Rattle.hs_fitting.specs.Lasting.{is_place}
use Rattle.hs_fitting.specs.Links.{refers_full, refers_later, call_later, bound_typed, global_typed}
use Rattle.hs_fitting.specs.Making.{zero_right, IsFunction}
use Rattle.hs_fitting.specs.Owned.{IsOwn}
use Rattle.hs_fitting.specs.Owning.{IsOwnName}
use Rattle.hs_fitting.specs.Registering.{linked_in, externals_there, routines_stay, routines_there, routines_all, met_by, registered_by, registered_first, routine_is}
use Rattle.hs_linkage.specs.Externals.{newest_external, type_of_entity}
use Rattle.hs_linkage.specs.Linkage.{mark_of, with_type_id, declared_as, agrees_with_all, clash_of, compatible_routines, is_routine_entity, link_as, link, noted, is_function}
use Rattle.hs_linkage.specs.Works.{◌>>◌}
use Rattle.hs_linkage.specs.declared.definitions.Definition.{Definition}
use Rattle.hs_linkage.specs.declared.externals.External.{External}
use Rattle.hs_linkage.specs.declared.translator.Linked.{Linked}
use Rattle.hs_linkage.specs.declared.translator.StaticObject.{StaticObject}
use Rattle.hs_linkage.specs.declared.translator.Translator.{Translator}
use Rattle.hs_names.specs.Scopes.{Declared, find}
use Rattle.hs_syntax.specs.declared.word.Word.{Word}
use Rattle.hs_table.specs.declared.routine.Routine.{Routine}
use Rattle.hs_tree.specs.Kinds.{of_function, category_of}
use Rattle.hs_tree.specs.Trees.{TypedProgram}
use Rattle.hs_tree.specs.declared.head.Variable.TheVariants as variable
use Rattle.hs_tree.specs.declared.head.VariableDecl.{VariableDecl}
use Rattle.hs_typer.specs.declared.typer.Entity.{Entity}
use Rattle.hs_typer.specs.declared.typer.Entity.TheVariants as entity
use Rattle.hs_types.specs.TypeTables.{TypeTable, Grows}
use Rattle.hs_types.specs.declared.row.TypeId.{TypeId}

-- if the type is not a function type here, it is not one in the program: an object may be made of it
abbrev pub MayMake : TypedProgram → Translator → TypeId → Type 0
MayMake program m id = is_function m.typer.types id ≡ false → category_of program.types id ≡ Some of_function → ⊥

-- Of what `link` gives, and what is known then: all names refer to what is claimed, also with the type of this declaration.
pub record Linking (program : TypedProgram) (here : List ℕ → Bool) (its : Claims) (variables : List VariableDecl) (m : Translator) (word : Word)
    (id : TypeId) (p : Entity × Translator) : Type 0 where
  pub claims : Claims
  pub proceeds : Proceeds program.types its m claims p.1
  pub stands : Stands program here claims variables p.1
  pub refers : RefersTo program.types claims p.1.objects p.0
  pub declared : RefersTo program.types claims p.1.objects (with_type_id id p.0)
  pub linked : Linked
  pub found : find word.text p.1.links ≡ Some linked
  pub entity : linked.entity ≡ p.0
  pub bound : IsBoundIn p.1 linked.internal word.text p.0
  pub internal : linked.internal ≡ true → here word.text ≡ true
  pub external : linked.internal ≡ false → IsTrue (is_some (newest_external word.text p.1.externals))
  pub kind : is_function m.typer.types id ≡ true → IsFunction p.0
  pub typer : p.1.typer ≡ m.typer
  pub locals : p.1.locals ≡ m.locals
  pub definitions : p.1.definitions ≡ m.definitions
  pub plain : IsOwnName claims.base m.typer.types p.0

-- a name that is bound, and whose type is of this unit
bound_plain : (base : ℕ) (types : TypeTable) (internal : Bool) (unit : ℕ) (definitions : List Definition) (table : List Routine) (name : List ℕ)
    (it : Entity) → IsBoundAs internal unit definitions table name it → ((made : TypeId) → type_of_entity it ≡ Some made → IsOwn base types made)
    → IsOwnName base types it
bound_plain base types internal unit definitions table name (entity.Constant bits) is own = tt
bound_plain base types internal unit definitions table name (entity.Variable (variable.Global place) id) is own = own id refl
bound_plain base types internal unit definitions table name (entity.Variable (variable.Local place) id) is own = tt
bound_plain base types internal unit definitions table name (entity.Function id to) is own = own id refl
bound_plain base types internal unit definitions table name (entity.Typedef id) is own = absurd is

module _ (program : TypedProgram) (here : List ℕ → Bool) (its : Claims) (variables : List VariableDecl) (m : Translator) (word : Word) (id : TypeId)
    (it : Linked) (objects : List StaticObject) (stands : Stands program here its variables m) (chosen : IsChosen program.types here its m word id it objects)
    (claiming : IsClaiming program.types its m word id it objects) (may : MayMake program m id) where
  -- ---- all names refer to what is claimed

  -- names of before
  refers_then : (its' : Entity) → RefersTo program.types its m.objects its' → RefersTo program.types claiming.claims objects its'
  refers_then = refers_later program.types its claiming.claims m.objects objects claiming.stay chosen.stay

  -- what the unit links
  link_then : (one : Declared Linked) → IsLink program.types here its m one → IsLink program.types here claiming.claims (linked_in m word id it objects) one
  link_then one is =
      record {
        refers = refers_then one.entity.entity is.refers;
        bound = is.bound;
        internal = is.internal;
        global = is.global;
        typed = is.typed;
        own = λ made same. subst (λ base. IsOwn base m.typer.types made) (sym claiming.base) (is.own made same);
      }

  -- what has external linkage
  external_then : (one : External) → IsExternal program.types its m one → IsExternal program.types claiming.claims (linked_in m word id it objects) one
  external_then one is = record { refers = refers_then one.entity is.refers; bound = is.bound; global = is.global; typed = is.typed }

  -- what is bound to a routine
  routine_then : (one : External) → IsRoutineDeclared program.types its m one
      → IsRoutineDeclared program.types claiming.claims (linked_in m word id it objects) one
  routine_then one is = record { refers = refers_then one.entity is.refers; routine = is.routine; typed = is.typed; signed = is.signed }

  -- functions that are claimed
  function_met : (number : ℕ) (first : TypeId) (one : Definition) → slice_get m.definitions number ≡ Some one
      → (its.functions number ≡ Some first) ⊎ IsFirst m word it one → IsRegistered (linked_in m word id it objects) one
  function_met number first one at (inl is) =
      registered_by m word id it objects one.internal one chosen.kept (stands.functions_met number first one is at)
  function_met number first one at (inr is) = registered_first m word id it objects one is

  -- routines that are claimed
  routine_met : (number : ℕ) (first : TypeId) (one : Routine) → slice_get m.typer.table number ≡ Some one
      → (its.routines number ≡ Some first) ⊎ ((one.name ≡ word.text) × (is_routine_entity it.entity ≡ true))
      → IsThere one.name (linked_in m word id it objects).routines
  routine_met number first one at (inl is) =
      routines_stay m word id it objects one.name (is_routine_entity it.entity) (stands.routines_met number first one is at)
  routine_met number first one at (inr is) =
      subst (λ name. IsThere name (linked_in m word id it objects).routines) (sym is.0)
      (routines_there m word id it objects (is_routine_entity it.entity) is.1)

  -- a program of the later claims and objects was one of those before
  endures_then : Endures program claiming.claims (linked_in m word id it objects) → Endures program its m
  endures_then endures =
      record {
        types = endures.types;
        literals = endures.literals;
        calls = endures.calls;
        taken = endures.taken;
        claims = record {
          entities = all_by_among (IsFulfilled program) its.entities claiming.claims.entities claiming.stay.entities endures.claims.entities;
          routines = λ number first is. endures.claims.routines number first (claiming.stay.routines number first is);
        };
        objects = λ place category is. endures.objects place category (chosen.stay place category is);
      }

  -- objects
  object_then : (one : StaticObject) → IsObjectRight program its m one → IsObjectRight program claiming.claims (linked_in m word id it objects) one
  object_then one is =
      record { category = is.category; undefined = is.undefined; filled = λ endures. is.filled (endures_then endures) }

  -- the name and its type are among those that were declared
  own_refers : RefersTo program.types claiming.claims objects it.entity
  own_refers =
      refers_full program.types claiming.claims objects it.entity claiming.refers.own (subst (IsAmong it.entity) (sym claiming.entities) (inl refl))

  typed_refers : RefersTo program.types claiming.claims objects (with_type_id id it.entity)
  typed_refers =
      refers_full program.types claiming.claims objects (with_type_id id it.entity) claiming.refers.typed
      (subst (IsAmong (with_type_id id it.entity)) (sym claiming.entities) (inr (inl refl)))

  -- declarations with external linkage, and this one
  externals_then : AllByRecursion (IsExternal program.types claiming.claims (linked_in m word id it objects)) (linked_in m word id it objects).externals
  externals_then = by_linkage it.internal refl
    where
      older : AllByRecursion (IsExternal program.types claiming.claims (linked_in m word id it objects)) m.externals
      older = all_so (IsExternal program.types its m) (IsExternal program.types claiming.claims (linked_in m word id it objects)) external_then m.externals
          stands.externals

      by_linkage : (b : Bool) → it.internal ≡ b
          → AllByRecursion (IsExternal program.types claiming.claims (linked_in m word id it objects))
          (if b then m.externals else declared_as word id it.entity m m.externals)
      by_linkage true is = older
      by_linkage false is =
          external_all word m.typer.origins.unit (mark_of m) (with_type_id id it.entity) (IsExternal program.types claiming.claims (linked_in m word id it objects))
          m.externals
          (record {
            refers = typed_refers;
            bound = bound_typed false m.typer.origins.unit m.definitions m.typer.table word.text id it.entity
                (subst (λ b. IsBoundIn m b word.text it.entity) is chosen.bound);
            global = global_typed program.types id it.entity chosen.global;
            typed = chosen.declared;
          }) older

  -- with the type of this declaration it is one of a routine
  routine_typed : (one : Entity) → is_routine_entity one ≡ true → is_routine_entity (with_type_id id one) ≡ true
  routine_typed (entity.Constant bits) is = absurd cc
  routine_typed (entity.Variable its made) is = absurd cc
  routine_typed (entity.Function made to) is = is
  routine_typed (entity.Typedef made) is = absurd cc

  -- each of them is accounted for
  accounted_then : AllByRecursion (IsAccounted program.types claiming.claims (linked_in m word id it objects)) claiming.claims.entities
  accounted_then =
      subst (AllByRecursion (IsAccounted program.types claiming.claims (linked_in m word id it objects))) (sym claiming.entities) (
        linked_accounted program here its variables m word id it objects stands chosen claiming it.entity refl,
        (
          linked_accounted_typed program here its variables m word id it objects stands chosen claiming it.entity refl,
          all_so (IsAccounted program.types its m) (IsAccounted program.types claiming.claims (linked_in m word id it objects))
              (accounted_linked program here its variables m word id it objects stands chosen claiming) its.entities stands.accounted,
        ),
      )

  -- and so all do
  stands_then : Stands program here claiming.claims variables (linked_in m word id it objects)
  stands_then =
      record {
        names = all_so (λ one. RefersTo program.types its m.objects one.entity) (λ one. RefersTo program.types claiming.claims objects one.entity)
            (λ one is. refers_then one.entity is) m.typer.names.declarations stands.names;
        locals = stands.locals;
        links = (
          record {
            refers = own_refers;
            bound = chosen.bound;
            internal = chosen.internal;
            global = chosen.global;
            typed = chosen.typed;
            own = λ made same. subst (λ base. IsOwn base m.typer.types made) (sym claiming.base) (chosen.own made same);
          },
          all_so (IsLink program.types here its m) (IsLink program.types here claiming.claims (linked_in m word id it objects)) link_then
              m.links.declarations stands.links,
        );
        externals = externals_then;
        routines = routines_all m word id it objects (IsRoutineDeclared program.types claiming.claims (linked_in m word id it objects))
            (is_routine_entity it.entity)
            (λ is. record {
              refers = typed_refers;
              routine = routine_is m it.internal word.text (with_type_id id it.entity) (routine_typed it.entity is)
                  (bound_typed it.internal m.typer.origins.unit m.definitions m.typer.table word.text id it.entity chosen.bound);
              typed = chosen.declared;
              signed = inl (is_place m.typer.origins.unit);
            })
            (all_so (IsRoutineDeclared program.types its m) (IsRoutineDeclared program.types claiming.claims (linked_in m word id it objects)) routine_then
            m.routines stands.routines);
        right = stands.right;
        calls = all_so (IsCallClaimed program.types its m.typer.table) (IsCallClaimed program.types claiming.claims m.typer.table)
            (call_later program.types its claiming.claims claiming.stay m.typer.table) m.typer.calls stands.calls;
        objects = chosen_made program.types here its m word id it objects chosen
            (IsObjectRight program claiming.claims (linked_in m word id it objects))
            (all_so (IsObjectRight program its m) (IsObjectRight program claiming.claims (linked_in m word id it objects)) object_then m.objects
            stands.objects)
            (λ is. zero_right program claiming.claims (linked_in m word id it objects) word id (may is));
        functions_met = λ number first one is at. function_met number first one at (claiming.functions number first one is at);
        routines_met = λ number first one is at. routine_met number first one at (claiming.routines number first one is at);
        functions_there = claiming.functions_there;
        routines_there = claiming.routines_there;
        internal = stands.internal;
        traced = subst (λ base. IsTracedAt base m.typer) (sym claiming.base) stands.traced;
        typedefs = subst (λ base. AllByRecursion (λ one. IsOwnName base m.typer.types one.entity) m.typer.names.declarations) (sym claiming.base)
            stands.typedefs;
        accounted = accounted_then;
        closed = closed_linked m word id it objects claiming.claims.base its.base claiming.base program.types stands.closed;
      }

  -- claims stay, and none is made twice
  proceeds_then : Proceeds program.types its m claiming.claims (linked_in m word id it objects)
  proceeds_then =
      record {
        functions = claiming.stay.functions;
        routines = claiming.stay.routines;
        entities = claiming.stay.entities;
        base = claiming.base;
        objects = chosen.stay;
        met = λ one is. met_by m word id it objects one.internal one is;
        fresh = λ number first one is free at met. by_first number first one free met (claiming.functions number first one is at);
      }
    where
      by_first : (number : ℕ) (first : TypeId) (one : Definition) → its.functions number ≡ None → IsMet m one
          → (its.functions number ≡ Some first) ⊎ IsFirst m word it one → ⊥
      by_first number first one free met (inl is) = some_none (its.functions number) first is free
      by_first number first one free met (inr is) = is.2 met

  -- what is given
  linking : Linking program here its variables m word id (it.entity, linked_in m word id it objects)
  linking =
      record {
        claims = claiming.claims;
        proceeds = proceeds_then;
        stands = stands_then;
        refers = own_refers;
        declared = typed_refers;
        linked = it;
        found = link_here word.text it m.links;
        entity = refl;
        bound = chosen.bound;
        internal = chosen.internal;
        external = λ is. externals_there m word id it objects it.internal is;
        kind = chosen.kind;
        typer = refl;
        locals = refl;
        definitions = refl;
        plain = subst (λ base. IsOwnName base m.typer.types it.entity) (sym claiming.base)
            (bound_plain its.base m.typer.types it.internal m.typer.origins.unit m.definitions m.typer.table word.text it.entity chosen.bound chosen.own);
      }

-- ---- the theorem

module _ (program : TypedProgram) (here : List ℕ → Bool) (its : Claims) (variables : List VariableDecl) (m : Translator) (word : Word) (id : TypeId)
    (grows : Grows m.typer.types program.types) (stands : Stands program here its variables m) (may : MayMake program m id)
    (own : IsOwn its.base m.typer.types id) where
  -- what is given
  abbrev IsLinking : Entity × Translator → Type 0
  IsLinking p = Linking program here its variables m word id p

  -- after the tests
  noted_gives : (it : Linked) (objects : List StaticObject) → IsChosen program.types here its m word id it objects
      → Gives IsLinking ((compatible_routines word id it >> noted word id it) (record m { objects = objects }))
  noted_gives it objects chosen =
      gives_unless IsLinking (λ fits. noted word id it) (clash_of word) (record m { objects = objects })
      (is_routine_entity it.entity && not (agrees_with_all m word.text id m.routines))
      (λ fits. linking program here its variables m word id it objects stands chosen
      (chosen_claims program here its variables m word id stands grows own it objects chosen fits) may)

  -- of what was chosen
  chosen_gives : (p : Linked × Translator) → Choosing program.types here its m word id p
      → Gives IsLinking ((compatible_routines word id p.0 >> noted word id p.0) p.1)
  chosen_gives p is =
      subst (λ new. Gives IsLinking ((compatible_routines word id p.0 >> noted word id p.0) new)) (sym is.1) (noted_gives p.0 p.1.objects is.0)

  -- of an answer of `link`
  pub link_gives : (static : Bool) → MayBeStatic here static word m
      → Gives (λ p. Linking program here its variables m word id p) (link static word id m)
  link_gives static inside =
      gives_then (Choosing program.types here its m word id) IsLinking (λ it. compatible_routines word id it >> noted word id it)
      (link_as static word id (find word.text m.links) m)
      (link_as_chosen program here its variables m word id grows stands own static inside (find word.text m.links) refl) chosen_gives

-- What `link` gives refers to what was claimed.
pub link_stands : (program : TypedProgram) (here : List ℕ → Bool) (static : Bool) (word : Word) (id : TypeId) (its : Claims)
    (variables : List VariableDecl) (m : Translator) → Grows m.typer.types program.types → MayBeStatic here static word m
    → MayMake program m id → IsOwn its.base m.typer.types id → Stands program here its variables m → (p : Entity × Translator)
    → link static word id m ≡ Ok p
    → Linking program here its variables m word id p
link_stands program here static word id its variables m grows inside may own stands p is =
    subst (Gives (λ p. Linking program here its variables m word id p)) is
    (link_gives program here its variables m word id grows stands may own static inside)

-- it is no automatic variable
pub linking_global : (program : TypedProgram) (here : List ℕ → Bool) (its : Claims) (variables : List VariableDecl) (m : Translator) (word : Word)
    (id : TypeId) (p : Entity × Translator) → Linking program here its variables m word id p → IsVariableIn program.types [] p.0
linking_global program here its variables m word id p linking =
    let one = link_found (IsLink program.types here linking.claims p.1) word.text p.1.links.declarations linking.linked linking.stands.links
    linking.found in
    subst (IsVariableIn program.types []) linking.entity (subst (λ it. IsVariableIn program.types [] it.entity) one.3 one.1.global)
