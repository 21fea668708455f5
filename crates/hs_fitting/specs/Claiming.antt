-- What is claimed by a declaration with linkage (X3.159-1989 3.1.2.6).
--     IsClaiming its m word id it objects         the claims with it, and where new ones come from
--     chosen_claims                               there are such claims, where it fits all declarations that are bound to a routine
use Rattle.std.proofs.Common.{◌≡◌, ◌⊎◌, inl, inr, ℕ, Bool, true, false, not, ◌&&◌, List, ◌∷◌, slice_get, Option, Some, None, IsTrue, is_some, refl, sym, ap, subst, ◌∙◌, if◌then◌else◌}
use Rattle.std.specs.Prelude.{◌==◌}
use Rattle.hs_base.specs.Tests.{both_tests, not_both}
use Rattle.hs_base.specs.Options.{one_there, some_there, is_there}
use Rattle.hs_fitting.specs.Chosen.{AreReferring, IsNew, IsChosen, newest_shape}
use Rattle.hs_fitting.specs.Claims.{Claims, IsClaimed, RefersAs, RefersTo, IsRoutineOf, IsRoutineDeclared, IsInternalLink, IsRegistered, IsRegisteredAs, IsMet, IsMetAs, IsFirstRoutine, Stands}
use Rattle.hs_fitting.specs.Entities.{newest_has}
use Rattle.hs_fitting.specs.Found.{same_texts, place_found, place_there, IsThere}
use Rattle.hs_fitting.specs.Links.{ClaimsStay, HasShape, claimed_typed, claim_at, claim_here, claim_stays, claim_back}
use Rattle.hs_fitting.specs.Owned.{IsOwn}
use Rattle.hs_fitting.specs.Shapes.{shape_self}
use Rattle.hs_linkage.specs.Definitions.{same_name, first_place, is_definition_of}
use Rattle.hs_linkage.specs.Externals.{newest_external}
use Rattle.hs_linkage.specs.Linkage.{bound_as, bound_to, with_type_id, agrees_with_all, is_routine_entity}
use Rattle.hs_linkage.specs.declared.definitions.Definition.{Definition}
use Rattle.hs_linkage.specs.declared.translator.Linked.{Linked}
use Rattle.hs_linkage.specs.declared.translator.StaticObject.{StaticObject}
use Rattle.hs_linkage.specs.declared.translator.Translator.{Translator}
use Rattle.hs_names.specs.Scopes.{find}
use Rattle.hs_operand_types.specs.declared.operand.Bound.{Bound}
use Rattle.hs_operand_types.specs.declared.operand.Bound.TheVariants as bound
use Rattle.hs_syntax.specs.declared.word.Word.{Word}
use Rattle.hs_table.specs.declared.routine.Routine.{Routine}
use Rattle.hs_tree.specs.Trees.{TypedProgram}
use Rattle.hs_tree.specs.declared.head.Variable.TheVariants as variable
use Rattle.hs_tree.specs.declared.head.VariableDecl.{VariableDecl}
use Rattle.hs_typer.specs.declared.typer.Entity.{Entity}
use Rattle.hs_typer.specs.declared.typer.Entity.TheVariants as entity
use Rattle.hs_types.specs.TypeTables.{TypeTable, Grows}
use Rattle.hs_types.specs.declared.row.TypeId.{TypeId}

-- ---- claims

-- a function of that name, which was not met before
abbrev pub IsFirst : Translator → Word → Linked → Definition → Type 0
IsFirst m word it one = (one.name ≡ word.text) × (one.internal ≡ it.internal) × (IsMet m one → ⊥)

-- the routine of that name
abbrev pub IsRoutineFor : Word → Linked → Routine → Type 0
IsRoutineFor word it one = (one.name ≡ word.text) × (is_routine_entity it.entity ≡ true)

-- the claims with what is chosen: what is new is of that name, and is there
pub record IsClaiming (types : TypeTable) (its : Claims) (m : Translator) (word : Word) (id : TypeId) (it : Linked) (objects : List StaticObject) : Type 0 where
  pub claims : Claims
  pub stay : ClaimsStay its claims
  pub entities : claims.entities ≡ it.entity ∷ with_type_id id it.entity ∷ its.entities
  pub base : claims.base ≡ its.base
  pub first : IsNew m word id it → (number : ℕ) → it.entity ≡ entity.Function id (bound.Function number) → claims.functions number ≡ Some id
  pub refers : AreReferring types claims objects id it.entity
  pub functions : (number : ℕ) (first : TypeId) (one : Definition) → claims.functions number ≡ Some first → slice_get m.definitions number ≡ Some one
      → (its.functions number ≡ Some first) ⊎ IsFirst m word it one
  pub routines : (number : ℕ) (first : TypeId) (one : Routine) → claims.routines number ≡ Some first → slice_get m.typer.table number ≡ Some one
      → (its.routines number ≡ Some first) ⊎ IsRoutineFor word it one
  pub functions_there : (number : ℕ) (first : TypeId) → claims.functions number ≡ Some first → IsTrue (is_some (slice_get m.definitions number))
  pub routines_there : (number : ℕ) (first : TypeId) → claims.routines number ≡ Some first → IsFirstRoutine m.typer.table number

-- what a name is bound to
pub bound_function : (a b : Option ℕ) (number : ℕ) → bound_as a b ≡ bound.Function number → a ≡ Some number
bound_function (Some other) b number is = cc
bound_function None (Some other) number is = absurd cc
bound_function None None number is = absurd cc

-- or the place of the routine
pub bound_routine : (a b : Option ℕ) (number : ℕ) → bound_as a b ≡ bound.Routine number → b ≡ Some number
bound_routine (Some other) b number is = absurd cc
bound_routine None (Some other) number is = cc
bound_routine None None number is = absurd cc

-- the claims with other types
abbrev with_entities : Claims → List Entity → Claims
with_entities its all = record { functions = its.functions; routines = its.routines; entities = all; base = its.base }

-- the shapes are the same
shaped_as : (types : TypeTable) (its : Claims) (all : List Entity) (objects : List StaticObject) (one : Entity) → RefersAs types its objects one
    → RefersAs types (with_entities its all) objects one
shaped_as types its all objects (entity.Constant bits) is = tt
shaped_as types its all objects (entity.Variable (variable.Global place) other) is = is
shaped_as types its all objects (entity.Variable (variable.Local place) other) is = tt
shaped_as types its all objects (entity.Function other (bound.Function place)) is = is
shaped_as types its all objects (entity.Function other (bound.Routine place)) is = is
shaped_as types its all objects (entity.Function other bound.Nothing) is = tt
shaped_as types its all objects (entity.Typedef other) is = tt

-- two functions of one type
same_places : {id : TypeId} (number place : ℕ) → entity.Function id (bound.Function number) ≡ entity.Function id (bound.Function place) → number ≡ place
same_places number place same = cc

-- no routine and no function
no_routine : {id : TypeId} (number place : ℕ) → entity.Function id (bound.Routine number) ≡ entity.Function id (bound.Function place) → ⊥
no_routine number place same = cc

no_binding : {id : TypeId} (place : ℕ) → entity.Function id bound.Nothing ≡ entity.Function id (bound.Function place) → ⊥
no_binding place same = cc

-- nothing is there
none_there : {A : Type 0} → (o : Option A) → o ≡ None → IsTrue (is_some o) → ⊥
none_there None same is = absurd cc
none_there (Some it) same is = absurd cc

-- a test of an external function
not_true : (b : Bool) → not b ≡ true → b ≡ false
not_true true is = absurd cc
not_true false is = refl

-- what is registered was met
internal_there : (o : Option Linked) → IsInternalLink o → IsTrue (is_some o)
internal_there None is = absurd is
internal_there (Some it) is = refl

-- by the linkage
registered_by : (b : Bool) (m : Translator) (one : Definition) → IsRegisteredAs b m one → IsMetAs b m one
registered_by true m one is = λ here. internal_there (find one.name m.links) (is here)
registered_by false m one is = is

-- so a function that is claimed was met
pub registered_met : (m : Translator) (one : Definition) → IsRegistered m one → IsMet m one
registered_met m one is = registered_by one.internal m one is

module _ (program : TypedProgram) (here : List ℕ → Bool) (its : Claims) (variables : List VariableDecl) (m : Translator) (word : Word) (id : TypeId)
    (stands : Stands program here its variables m) where
  -- ---- functions

  -- the definition that a name without a declaration is bound to was not met
  first_by : (internal : Bool) (number : ℕ) (one : Definition) → slice_get m.definitions number ≡ Some one → one.name ≡ word.text
      → (if internal then one.unit == m.typer.origins.unit else not one.internal) ≡ true → (internal ≡ true → here word.text ≡ true)
      → find word.text m.links ≡ None → (internal ≡ false → newest_external word.text m.externals ≡ None)
      → (one.internal ≡ internal) × (IsMet m one → ⊥)
  first_by true number one at named unit inside unlinked undeclared =
      let same : one.internal ≡ true = stands.internal number one at unit ∙ ap here named ∙ inside refl in (
        same,
        λ met. none_there (find one.name m.links) (ap (λ name. find name m.links) named ∙ unlinked) (subst (λ b. IsMetAs b m one) same met unit),
      )
  first_by false number one at named unit inside unlinked undeclared =
      let same : one.internal ≡ false = not_true one.internal unit in (
        same,
        λ met. none_there (newest_external one.name m.externals) (ap (λ name. newest_external name m.externals) named ∙ undeclared refl)
            (subst (λ b. IsMetAs b m one) same met),
      )

  -- of the number that the name is bound to
  first_at : (it : Linked) → (it.internal ≡ true → here word.text ≡ true) → IsNew m word id it → (number : ℕ)
      → first_place (is_definition_of it.internal m.typer.origins.unit word.text) m.definitions ≡ Some number → (one : Definition)
      → slice_get m.definitions number ≡ Some one → IsFirst m word it one
  first_at it inside new number found one at =
      let tests = both_tests (same_name one.name word.text) (if it.internal then one.unit == m.typer.origins.unit else not one.internal)
      (place_found (is_definition_of it.internal m.typer.origins.unit word.text) m.definitions number one found at) in
      let named : one.name ≡ word.text = same_texts one.name word.text tests.0 in
      let first = first_by it.internal number one at named tests.1 inside new.unlinked new.undeclared in
      (named, first.0, first.1)

  -- with a claim for it
  function_claims : (it : Linked) (objects : List StaticObject) (number : ℕ) → it.entity ≡ entity.Function id (bound.Function number)
      → its.functions number ≡ None → IsTrue (is_some (slice_get m.definitions number))
      → ((one : Definition) → slice_get m.definitions number ≡ Some one → IsFirst m word it one)
      → IsClaiming program.types its m word id it objects
  function_claims it objects number same free there first =
      let more : Claims =
      record {
        functions = claim_at number id its.functions;
        routines = its.routines;
        entities = it.entity ∷ with_type_id id it.entity ∷ its.entities;
        base = its.base;
      } in
      let claimed : IsClaimed program.types (more.functions number) id
      = subst (λ its. IsClaimed program.types its id) (sym (claim_here number id its.functions)) (shape_self program.types id) in
      record {
        claims = more;
        stay = record { functions = claim_stays number id its.functions free; routines = λ place other is. is; entities = λ one is. inr (inr is) };
        entities = refl;
        base = refl;
        first = λ new place is. first_here place (same_places number place (sym same ∙ is));
        refers = subst (AreReferring program.types more objects id) (sym same) (record { own = claimed; typed = claimed });
        functions = λ place other one is at. by_place place other one at (claim_back number id its.functions place other is);
        routines = λ place other one is at. inl is;
        functions_there = λ place other is. claimed_there place other (claim_back number id its.functions place other is);
        routines_there = stands.routines_there;
      }
    where
      first_here : (place : ℕ) → number ≡ place → claim_at number id its.functions place ≡ Some id
      first_here place is = subst (λ place. claim_at number id its.functions place ≡ Some id) is (claim_here number id its.functions)

      claimed_there : (place : ℕ) (other : TypeId) → (its.functions place ≡ Some other) ⊎ (place ≡ number)
          → IsTrue (is_some (slice_get m.definitions place))
      claimed_there place other (inl is) = stands.functions_there place other is
      claimed_there place other (inr is) = subst (λ place. IsTrue (is_some (slice_get m.definitions place))) (sym is) there

      by_place : (place : ℕ) (other : TypeId) (one : Definition) → slice_get m.definitions place ≡ Some one
          → (its.functions place ≡ Some other) ⊎ (place ≡ number) → (its.functions place ≡ Some other) ⊎ IsFirst m word it one
      by_place place other one at (inl is) = inl is
      by_place place other one at (inr is) = inr (first one (subst (λ place. slice_get m.definitions place ≡ Some one) is at))

  -- it was not claimed, as it was not declared
  function_by : (it : Linked) (objects : List StaticObject) → (it.internal ≡ true → here word.text ≡ true) → IsNew m word id it → (number : ℕ)
      → first_place (is_definition_of it.internal m.typer.origins.unit word.text) m.definitions ≡ Some number
      → it.entity ≡ entity.Function id (bound.Function number) → (o : Option TypeId) → its.functions number ≡ o
      → IsClaiming program.types its m word id it objects
  function_by it objects inside new number found same None free =
      let one = place_there (is_definition_of it.internal m.typer.origins.unit word.text) m.definitions number found in
      function_claims it objects number same free (is_there (slice_get m.definitions number) one.0 one.1) (first_at it inside new number found)
  function_by it objects inside new number found same (Some other) claimed =
      let one = place_there (is_definition_of it.internal m.typer.origins.unit word.text) m.definitions number found in
      absurd ((first_at it inside new number found one.0 one.1).2
      (registered_met m one.0 (stands.functions_met number other one.0 claimed one.1)))

  -- ---- routines

  -- with a claim for it
  routine_claims : (it : Linked) (objects : List StaticObject) (number : ℕ) → it.entity ≡ entity.Function id (bound.Routine number)
      → its.routines number ≡ None → IsFirstRoutine m.typer.table number
      → ((one : Routine) → slice_get m.typer.table number ≡ Some one → one.name ≡ word.text) → IsClaiming program.types its m word id it objects
  routine_claims it objects number same free there named =
      let more : Claims =
      record {
        functions = its.functions;
        routines = claim_at number id its.routines;
        entities = it.entity ∷ with_type_id id it.entity ∷ its.entities;
        base = its.base;
      } in
      let claimed : IsClaimed program.types (more.routines number) id
      = subst (λ its. IsClaimed program.types its id) (sym (claim_here number id its.routines)) (shape_self program.types id) in
      record {
        claims = more;
        stay = record { functions = λ place other is. is; routines = claim_stays number id its.routines free; entities = λ one is. inr (inr is) };
        entities = refl;
        base = refl;
        first = λ new place is. absurd (no_routine number place (sym same ∙ is));
        refers = subst (AreReferring program.types more objects id) (sym same) (record { own = claimed; typed = claimed });
        functions = λ place other one is at. inl is;
        routines = λ place other one is at. by_place place other one at (claim_back number id its.routines place other is);
        functions_there = stands.functions_there;
        routines_there = λ place other is. claimed_there place other (claim_back number id its.routines place other is);
      }
    where
      claimed_there : (place : ℕ) (other : TypeId) → (its.routines place ≡ Some other) ⊎ (place ≡ number)
          → IsFirstRoutine m.typer.table place
      claimed_there place other (inl is) = stands.routines_there place other is
      claimed_there place other (inr is) = subst (IsFirstRoutine m.typer.table) (sym is) there

      by_place : (place : ℕ) (other : TypeId) (one : Routine) → slice_get m.typer.table place ≡ Some one
          → (its.routines place ≡ Some other) ⊎ (place ≡ number) → (its.routines place ≡ Some other) ⊎ IsRoutineFor word it one
      by_place place other one at (inl is) = inl is
      by_place place other one at (inr is) =
          inr (named one (subst (λ place. slice_get m.typer.table place ≡ Some one) is at), ap is_routine_entity same)

  -- no new claim
  same_claims : (it : Linked) (objects : List StaticObject) → AreReferring program.types its objects id it.entity
      → (IsNew m word id it → (number : ℕ) → it.entity ≡ entity.Function id (bound.Function number) → ⊥)
      → IsClaiming program.types its m word id it objects
  same_claims it objects refers none =
      record {
        claims = with_entities its (it.entity ∷ with_type_id id it.entity ∷ its.entities);
        stay = record { functions = λ place other is. is; routines = λ place other is. is; entities = λ one is. inr (inr is) };
        entities = refl;
        base = refl;
        first = λ new number same. absurd (none new number same);
        refers = shaped_more refers;
        functions = λ place other one is at. inl is;
        routines = λ place other one is at. inl is;
        functions_there = stands.functions_there;
        routines_there = stands.routines_there;
      }
    where
      shaped_more : AreReferring program.types its objects id it.entity
          → AreReferring program.types (with_entities its (it.entity ∷ with_type_id id it.entity ∷ its.entities)) objects id it.entity
      shaped_more is =
          record {
            own = shaped_as program.types its (it.entity ∷ with_type_id id it.entity ∷ its.entities) objects it.entity is.own;
            typed = shaped_as program.types its (it.entity ∷ with_type_id id it.entity ∷ its.entities) objects (with_type_id id it.entity) is.typed;
          }

  -- what an older declaration of the routine claimed
  routine_shape : (number : ℕ) (other : Entity) → first_place (λ it. same_name it.name word.text) m.typer.table ≡ Some number
      → IsRoutineOf m.typer.table word.text other → RefersTo program.types its m.objects other → HasShape program.types other id
      → IsClaimed program.types (its.routines number) id
  routine_shape number (entity.Constant bits) found is refers shape = absurd is
  routine_shape number (entity.Variable one old) found is refers shape = absurd is
  routine_shape number (entity.Function old (bound.Function place)) found is refers shape = absurd is
  routine_shape number (entity.Function old (bound.Routine place)) found is refers shape =
      subst (λ place. IsClaimed program.types (its.routines place) id)
      (one_there (first_place (λ it. same_name it.name word.text) m.typer.table) place number is found)
      (claimed_typed program.types (its.routines place) old id refers.0 (shape old refl))
  routine_shape number (entity.Function old bound.Nothing) found is refers shape = absurd is
  routine_shape number (entity.Typedef old) found is refers shape = absurd is

  -- the newest one of them
  routine_newest : Grows m.typer.types program.types → IsOwn its.base m.typer.types id → (number : ℕ) → first_place
      (λ it. same_name it.name word.text) m.typer.table ≡ Some number
      → agrees_with_all m word.text id m.routines ≡ true → (other : Entity) → newest_external word.text m.routines ≡ Some other
      → IsClaimed program.types (its.routines number) id
  routine_newest grows own_id number found agree other newest =
      let one = newest_has (IsRoutineDeclared program.types its m) word.text m.routines other stands.routines newest in
      routine_shape number other found
      (subst (λ name. IsRoutineOf m.typer.table name other) (same_texts one.0.name word.text one.2)
      (subst (IsRoutineOf m.typer.table one.0.name) one.3 one.1.routine))
      (subst (RefersTo program.types its m.objects) one.3 one.1.refers)
      (newest_shape program here its variables m word id grows stands own_id m.routines other agree newest)

  -- of the name
  routine_named : (number : ℕ) → first_place (λ it. same_name it.name word.text) m.typer.table ≡ Some number → (one : Routine)
      → slice_get m.typer.table number ≡ Some one → one.name ≡ word.text
  routine_named number found one at =
      same_texts one.name word.text (place_found (λ it. same_name it.name word.text) m.typer.table number one found at)

  -- by what is claimed for it
  routine_by : Grows m.typer.types program.types → IsOwn its.base m.typer.types id → (it : Linked) (objects : List StaticObject) (number : ℕ)
      → first_place (λ it. same_name it.name word.text) m.typer.table ≡ Some number → it.entity ≡ entity.Function id (bound.Routine number)
      → agrees_with_all m word.text id m.routines ≡ true → (o : Option TypeId) → its.routines number ≡ o
      → IsClaiming program.types its m word id it objects
  routine_by grows own_id it objects number found same agree None free =
      let one = place_there (λ it. same_name it.name word.text) m.typer.table number found in
      routine_claims it objects number same free (
        one.0,
        one.1,
        subst (λ name. first_place (λ it. same_name it.name name) m.typer.table ≡ Some number)
            (sym (routine_named number found one.0 one.1)) found,
      )
      (routine_named number found)
  routine_by grows own_id it objects number found same agree (Some other) claimed =
      let one = place_there (λ it. same_name it.name word.text) m.typer.table number found in
      let older = some_there (newest_external word.text m.routines)
      (subst (λ name. IsThere name m.routines) (routine_named number found one.0 one.1) (stands.routines_met number other one.0 claimed one.1)) in
      let is : IsClaimed program.types (its.routines number) id = routine_newest grows own_id number found agree older.0 older.1 in
      same_claims it objects (subst (AreReferring program.types its objects id) (sym same) (record { own = is; typed = is }))
      (λ new place is. no_routine number place (sym same ∙ is))

  -- ---- what is chosen

  -- what is new was not claimed
  new_unclaimed : (it : Linked) (objects : List StaticObject) → (it.internal ≡ true → here word.text ≡ true)
      → AreReferring program.types its objects id it.entity → IsNew m word id it → (number : ℕ)
      → it.entity ≡ entity.Function id (bound.Function number) → ⊥
  new_unclaimed it objects inside refers new number same =
      by_claim (its.functions number) refl (subst (RefersAs program.types its objects) same refers.own)
    where
      found : first_place (is_definition_of it.internal m.typer.origins.unit word.text) m.definitions ≡ Some number
      found =
          bound_function (first_place (is_definition_of it.internal m.typer.origins.unit word.text) m.definitions)
          (first_place (λ it. same_name it.name word.text) m.typer.table) number (bound_is (sym new.function ∙ same))
        where
          bound_is : {a b : Bound} → entity.Function id a ≡ entity.Function id b → a ≡ b
          bound_is is = cc

      by_claim : (o : Option TypeId) → its.functions number ≡ o → IsClaimed program.types o id → ⊥
      by_claim None free is = is
      by_claim (Some other) claimed is =
          let one = place_there (is_definition_of it.internal m.typer.origins.unit word.text) m.definitions number found in
          (first_at it inside new number found one.0 one.1).2 (registered_met m one.0 (stands.functions_met number other one.0 claimed one.1))

  -- by what the name is bound to
  new_claims : Grows m.typer.types program.types → IsOwn its.base m.typer.types id → (it : Linked) (objects : List StaticObject)
      → IsChosen program.types here its m word id it objects
      → (is_routine_entity it.entity ≡ true → agrees_with_all m word.text id m.routines ≡ true) → IsNew m word id it → (to : Bound)
      → bound_to it.internal m.typer.origins.unit word.text m.definitions m.typer.table ≡ to → it.entity ≡ entity.Function id to
      → IsClaiming program.types its m word id it objects
  new_claims grows own_id it objects chosen agree new (bound.Function number) is same =
      function_by it objects chosen.internal new number
      (bound_function (first_place (is_definition_of it.internal m.typer.origins.unit word.text) m.definitions)
      (first_place (λ it. same_name it.name word.text) m.typer.table) number is) same (its.functions number) refl
  new_claims grows own_id it objects chosen agree new (bound.Routine number) is same =
      routine_by grows own_id it objects number
      (bound_routine (first_place (is_definition_of it.internal m.typer.origins.unit word.text) m.definitions)
      (first_place (λ it. same_name it.name word.text) m.typer.table) number is) same (agree (ap is_routine_entity same)) (its.routines number) refl
  new_claims grows own_id it objects chosen agree new bound.Nothing is same =
      same_claims it objects (subst (AreReferring program.types its objects id) (sym same) (record { own = tt; typed = tt }))
      (λ new place is. no_binding place (sym same ∙ is))

  -- the claims with it
  pub chosen_claims : Grows m.typer.types program.types → IsOwn its.base m.typer.types id → (it : Linked) (objects : List StaticObject)
      → IsChosen program.types here its m word id it objects
      → (is_routine_entity it.entity && not (agrees_with_all m word.text id m.routines)) ≡ false → IsClaiming program.types its m word id it objects
  chosen_claims grows own_id it objects chosen fits = by_either chosen.refers
    where
      by_either : IsNew m word id it ⊎ AreReferring program.types its objects id it.entity → IsClaiming program.types its m word id it objects
      by_either (inl new) =
          new_claims grows own_id it objects chosen (not_both (is_routine_entity it.entity) (agrees_with_all m word.text id m.routines) fits) new
          (bound_to it.internal m.typer.origins.unit word.text m.definitions m.typer.table) refl new.function
      by_either (inr refers) =
          same_claims it objects refers (λ new number same. new_unclaimed it objects chosen.internal refers new number same)
