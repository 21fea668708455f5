-- What is known once a declaration with linkage was noted: what was declared before is still there, and so is this one (X3.159-1989 3.1.2.2).
--     linked_in m word id it objects          what is known then, where the objects are these
--     externals_there, routines_stay, routines_there, routines_all      declarations with external linkage, and of routines
--     met_by, registered_by, registered_first      functions that were met, that were claimed, and the one of this name
--     routine_is                              what is bound to a routine is bound to that of its name
use Rattle.std.proofs.Common.{◌≡◌, ℕ, Bool, true, false, List, IsTrue, is_some, refl, sym, subst, if◌then◌else◌}
use Rattle.std.specs.List.{AllByRecursion}
use Rattle.hs_fitting.specs.Claiming.{IsFirst, bound_routine}
use Rattle.hs_fitting.specs.Claims.{IsBoundIn, IsRoutineOf, IsInternalLink, IsRegistered, IsRegisteredAs, IsMetAs}
use Rattle.hs_fitting.specs.Found.{link_here, link_either, IsThere, external_there, external_stays, external_all}
use Rattle.hs_linkage.specs.Definitions.{same_name, first_place, is_definition_of}
use Rattle.hs_linkage.specs.Externals.{external_of}
use Rattle.hs_linkage.specs.Linkage.{with_type_id, mark_of, declared_as, is_routine_entity}
use Rattle.hs_linkage.specs.declared.definitions.Definition.{Definition}
use Rattle.hs_linkage.specs.declared.externals.External.{External}
use Rattle.hs_linkage.specs.declared.translator.Linked.{Linked}
use Rattle.hs_linkage.specs.declared.translator.StaticObject.{StaticObject}
use Rattle.hs_linkage.specs.declared.translator.Translator.{Translator}
use Rattle.hs_names.specs.Scopes.{find, declared}
use Rattle.hs_operand_types.specs.declared.operand.Bound.TheVariants as bound
use Rattle.hs_syntax.specs.declared.word.Word.{Word}
use Rattle.hs_typer.specs.declared.typer.Entity.{Entity}
use Rattle.hs_typer.specs.declared.typer.Entity.TheVariants as entity
use Rattle.hs_types.specs.declared.row.TypeId.{TypeId}

-- what is known after a declaration was noted, where the objects are these
abbrev pub linked_in : Translator → Word → TypeId → Linked → List StaticObject → Translator
linked_in m word id it objects =
    record m {
      objects = objects;
      links = declared word.text it m.links;
      internals = if it.internal then declared_as word id it.entity m m.internals else m.internals;
      externals = if it.internal then m.externals else declared_as word id it.entity m m.externals;
      routines = if is_routine_entity it.entity then declared_as word id it.entity m m.routines else m.routines;
    }

-- what is bound to a routine is bound to that of its name
pub routine_is : (m : Translator) (internal : Bool) (name : List ℕ) (it : Entity) → is_routine_entity it ≡ true → IsBoundIn m internal name it
    → IsRoutineOf m.typer.table name it
routine_is m internal name (entity.Constant bits) is named = absurd cc
routine_is m internal name (entity.Variable its id) is named = absurd cc
routine_is m internal name (entity.Function id (bound.Function number)) is named = absurd cc
routine_is m internal name (entity.Function id (bound.Routine number)) is named =
    bound_routine (first_place (is_definition_of internal m.typer.origins.unit name) m.definitions)
    (first_place (λ it. same_name it.name name) m.typer.table) number (sym named)
routine_is m internal name (entity.Function id bound.Nothing) is named = absurd cc
routine_is m internal name (entity.Typedef id) is named = absurd cc

module _ (m : Translator) (word : Word) (id : TypeId) (it : Linked) (objects : List StaticObject) where
  -- ---- declarations that there are

  -- with external linkage
  externals_stay : (name : List ℕ) (b : Bool) → IsThere name m.externals
      → IsThere name (if b then m.externals else declared_as word id it.entity m m.externals)
  externals_stay name true is = is
  externals_stay name false is = external_stays word m.typer.origins.unit (mark_of m) (with_type_id id it.entity) name m.externals is

  -- the new one
  pub externals_there : (b : Bool) → b ≡ false
      → IsThere word.text (if b then m.externals else declared_as word id it.entity m m.externals)
  externals_there true is = absurd cc
  externals_there false is = external_there word m.typer.origins.unit (mark_of m) (with_type_id id it.entity) m.externals

  -- bound to a routine
  pub routines_stay : (name : List ℕ) (b : Bool) → IsThere name m.routines
      → IsThere name (if b then declared_as word id it.entity m m.routines else m.routines)
  routines_stay name true is = external_stays word m.typer.origins.unit (mark_of m) (with_type_id id it.entity) name m.routines is
  routines_stay name false is = is

  -- the new one
  pub routines_there : (b : Bool) → b ≡ true
      → IsThere word.text (if b then declared_as word id it.entity m m.routines else m.routines)
  routines_there true is = external_there word m.typer.origins.unit (mark_of m) (with_type_id id it.entity) m.routines
  routines_there false is = absurd cc

  -- what is so of all
  pub routines_all : (holds : External → Type 0) (b : Bool) → (b ≡ true → holds (external_of word m.typer.origins.unit (mark_of m) (with_type_id id it.entity)))
      → AllByRecursion holds m.routines
      → AllByRecursion holds (if b then declared_as word id it.entity m m.routines else m.routines)
  routines_all holds true is are = external_all word m.typer.origins.unit (mark_of m) (with_type_id id it.entity) holds m.routines (is refl) are
  routines_all holds false is are = are

  -- ---- functions that were met

  -- by the linkage
  pub met_by : (b : Bool) (one : Definition) → IsMetAs b m one → IsMetAs b (linked_in m word id it objects) one
  met_by true one is = λ unit. link_either (λ o. IsTrue (is_some o)) word.text one.name it m.links (λ same. refl) (is unit)
  met_by false one is = externals_stay one.name it.internal is

  -- and those that were registered
  pub registered_by : (b : Bool) (one : Definition) → (IsInternalLink (find word.text m.links) → it.internal ≡ true) → IsRegisteredAs b m one
      → IsRegisteredAs b (linked_in m word id it objects) one
  registered_by true one kept is =
      λ unit. link_either IsInternalLink word.text one.name it m.links
      (λ same. kept (subst (λ name. IsInternalLink (find name m.links)) (sym same) (is unit))) (is unit)
  registered_by false one kept is = externals_stay one.name it.internal is

  -- one of this name
  first_registered : (b : Bool) (one : Definition) → it.internal ≡ b → one.name ≡ word.text → IsRegisteredAs b (linked_in m word id it objects) one
  first_registered true one is named =
      λ unit. subst (λ name. IsInternalLink (find name (declared word.text it m.links))) (sym named)
      (subst IsInternalLink (sym (link_here word.text it m.links)) is)
  first_registered false one is named =
      subst (λ name. IsThere name (linked_in m word id it objects).externals) (sym named) (externals_there it.internal is)

  -- so it is registered
  pub registered_first : (one : Definition) → IsFirst m word it one → IsRegistered (linked_in m word id it objects) one
  registered_first one is =
      subst (λ b. IsRegisteredAs b (linked_in m word id it objects) one) (sym is.1) (first_registered it.internal one refl is.0)
