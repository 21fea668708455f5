-- What a declaration with linkage gives a function is accounted for: by what was claimed in its unit, or by what was noted.
--     accounted_linked              what was accounted for before it
--     linked_accounted, linked_accounted_typed      the type that its name is given, and its own
use Rattle.std.proofs.Common.{◌≡◌, ◌⊎◌, inl, inr, ℕ, Bool, true, false, not, List, slice_get, Some, refl, sym, ap, subst, ◌∙◌, if◌then◌else◌}
use Rattle.std.specs.Prelude.{◌==◌}
use Rattle.hs_base.specs.Tests.{both_tests}
use Rattle.hs_base.specs.Options.{one_there}
use Rattle.hs_fitting.specs.Accounts.{accounted_noted, entities_stay, entity_noted}
use Rattle.hs_fitting.specs.Chosen.{IsNew, IsOlder, IsChosen}
use Rattle.hs_fitting.specs.Claiming.{IsClaiming, bound_function}
use Rattle.hs_fitting.specs.Claims.{Claims, IsBoundIn, IsAccountedAs, IsAccounted, Stands}
use Rattle.hs_fitting.specs.Entities.{IsAmong, among_has}
use Rattle.hs_fitting.specs.Found.{same_texts, place_found, place_there}
use Rattle.hs_fitting.specs.Registering.{linked_in}
use Rattle.hs_fitting.specs.Strict.{SameBy, AreStrict, same_self, same_turned, same_then, strict_self, strict_then}
use Rattle.hs_linkage.specs.Definitions.{same_name, first_place, is_definition_of}
use Rattle.hs_linkage.specs.Externals.{type_of_entity}
use Rattle.hs_linkage.specs.Linkage.{mark_of, with_type_id, declared_as, is_routine_entity}
use Rattle.hs_linkage.specs.declared.definitions.Definition.{Definition}
use Rattle.hs_linkage.specs.declared.externals.External.{External}
use Rattle.hs_linkage.specs.declared.translator.Linked.{Linked}
use Rattle.hs_linkage.specs.declared.translator.StaticObject.{StaticObject}
use Rattle.hs_linkage.specs.declared.translator.Translator.{Translator}
use Rattle.hs_operand_types.specs.declared.operand.Bound.{Bound}
use Rattle.hs_operand_types.specs.declared.operand.Bound.TheVariants as bound
use Rattle.hs_syntax.specs.declared.word.Word.{Word}
use Rattle.hs_tree.specs.Trees.{TypedProgram}
use Rattle.hs_tree.specs.declared.head.VariableDecl.{VariableDecl}
use Rattle.hs_typer.specs.declared.typer.Entity.{Entity}
use Rattle.hs_typer.specs.declared.typer.Entity.TheVariants as entity
use Rattle.hs_types.specs.declared.row.TypeId.{TypeId}

-- a test that is not met
fails : (b : Bool) → not b ≡ true → b ≡ false
fails true is = absurd cc
fails false is = refl

module _ (program : TypedProgram) (here : List ℕ → Bool) (its : Claims) (variables : List VariableDecl) (m : Translator) (word : Word) (id : TypeId)
    (it : Linked) (objects : List StaticObject) (stands : Stands program here its variables m) (chosen : IsChosen program.types here its m word id it objects)
    (claiming : IsClaiming program.types its m word id it objects) where
  -- what is known then
  abbrev after : Translator
  after = linked_in m word id it objects

  -- two types of the same structs
  abbrev Same : TypeId → TypeId → Type 0
  Same a b = SameBy (AreStrict m.typer.origins program.types) program.types a b

  -- one after another
  across : (a b c : TypeId) → Same a b → Same b c → Same a c
  across =
      same_then (AreStrict m.typer.origins program.types) program.types (strict_then m.typer.origins program.types)

  -- a type and itself
  own_same : (a : TypeId) → Same a a
  own_same = same_self (AreStrict m.typer.origins program.types) program.types (strict_self m.typer.origins program.types)

  -- the other way round
  turned : (a b : TypeId) → Same a b → Same b a
  turned a b is = same_turned (AreStrict m.typer.origins program.types) program.types a b is

  -- ---- what was noted before

  -- declarations with external linkage stay
  externals_stay : (other : External) → IsAmong other m.externals → IsAmong other after.externals
  externals_stay other is = by_linkage it.internal
    where
      by_linkage : (b : Bool) → IsAmong other (if b then m.externals else declared_as word id it.entity m m.externals)
      by_linkage true = is
      by_linkage false = entities_stay word m.typer.origins.unit (mark_of m) (with_type_id id it.entity) m.externals other is

  -- and those of routines
  routines_stay : (other : External) → IsAmong other m.routines → IsAmong other after.routines
  routines_stay other is = by_routine (is_routine_entity it.entity)
    where
      by_routine : (b : Bool) → IsAmong other (if b then declared_as word id it.entity m m.routines else m.routines)
      by_routine true = entities_stay word m.typer.origins.unit (mark_of m) (with_type_id id it.entity) m.routines other is
      by_routine false = is

  -- What was accounted for still is.
  pub accounted_linked : (one : Entity) → IsAccounted program.types its m one → IsAccounted program.types claiming.claims after one
  accounted_linked =
      accounted_noted program.types its claiming.claims m after refl refl claiming.stay.functions externals_stay routines_stay

  -- ---- the new one

  -- its number is that of a definition
  number_found : (made : TypeId) (number : ℕ) → it.entity ≡ entity.Function made (bound.Function number)
      → first_place (is_definition_of it.internal m.typer.origins.unit word.text) m.definitions ≡ Some number
  number_found made number same =
      bound_function (first_place (is_definition_of it.internal m.typer.origins.unit word.text) m.definitions)
      (first_place (λ it. same_name it.name word.text) m.typer.table) number (sym (subst (IsBoundIn m it.internal word.text) same chosen.bound))

  -- it has the linkage of its definition
  linkage_same : (made : TypeId) (number : ℕ) → it.entity ≡ entity.Function made (bound.Function number) → (one : Definition)
      → slice_get m.definitions number ≡ Some one → it.internal ≡ one.internal
  linkage_same made number same one at = by_linkage it.internal refl
    where
      tests : (same_name one.name word.text ≡ true)
          × ((if it.internal then one.unit == m.typer.origins.unit else not one.internal) ≡ true)
      tests =
          both_tests (same_name one.name word.text) (if it.internal then one.unit == m.typer.origins.unit else not one.internal)
          (place_found (is_definition_of it.internal m.typer.origins.unit word.text) m.definitions number one (number_found made number same) at)

      by_linkage : (b : Bool) → it.internal ≡ b → it.internal ≡ one.internal
      by_linkage true is =
          is
          ∙ sym (stands.internal number one at
          (subst (λ b. (if b then one.unit == m.typer.origins.unit else not one.internal) ≡ true) is tests.1)
          ∙ ap here (same_texts one.name word.text tests.0) ∙ chosen.internal is)
      by_linkage false is =
          is ∙ sym (fails one.internal (subst (λ b. (if b then one.unit == m.typer.origins.unit else not one.internal) ≡ true) is tests.1))

  module _ (made : TypeId) (number : ℕ) (same : it.entity ≡ entity.Function made (bound.Function number)) (other : TypeId)
      (strict : Same other made) where
    -- with internal linkage, by the first type
    by_first : it.internal ≡ true → (one : Definition) → slice_get m.definitions number ≡ Some one → one.internal ≡ true
        → IsAccountedAs true program.types claiming.claims after other number
    by_first is one at inside = by_older (chosen.older is made number same)
      where
        type_same : {to : Bound} → entity.Function id to ≡ entity.Function made (bound.Function number) → id ≡ made
        type_same is = cc

        by_older : IsNew m word id it ⊎ IsOlder program.types its m made number → IsAccountedAs true program.types claiming.claims after other number
        by_older (inl new) =
            let types_same : id ≡ made = type_same (sym new.function ∙ same) in (
              id,
              claiming.first new number (subst (λ t. it.entity ≡ entity.Function t (bound.Function number)) (sym types_same) same),
              subst (Same other) (sym types_same) strict,
            )
        by_older (inr older) =
            let before = among_has (IsAccounted program.types its m) (entity.Function older.0 (bound.Function number)) its.entities stands.accounted
            older.1 in
            let one_here : before.0 ≡ one = one_there (slice_get m.definitions number) before.0 one before.1 at in
            let as_first : IsAccountedAs true program.types its m older.0 number
            = subst (λ b. IsAccountedAs b program.types its m older.0 number) (ap (λ one. one.internal) one_here ∙ inside) before.2 in (
              as_first.0,
              claiming.stay.functions number as_first.0 as_first.1,
              across other made as_first.0 strict (across made older.0 as_first.0 older.2 as_first.2),
            )

    -- with external linkage, by this declaration
    by_noted : it.internal ≡ false → IsAccountedAs false program.types claiming.claims after other number
    by_noted is =
        let noted = entity_noted word m.typer.origins.unit (mark_of m) (with_type_id id it.entity) m.externals in (
          noted.0,
          subst (λ b. IsAmong noted.0 (if b then m.externals else declared_as word id it.entity m m.externals)) (sym is) noted.1,
          id,
          noted.2 ∙ ap (with_type_id id) same,
          across other made id strict (turned id made (chosen.strict made (ap type_of_entity same))),
        )

    function_accounted : IsAccounted program.types claiming.claims after (entity.Function other (bound.Function number))
    function_accounted =
        let one = place_there (is_definition_of it.internal m.typer.origins.unit word.text) m.definitions number (number_found made number same) in
        (one.0, one.1, by_linkage it.internal refl one.0 one.1)
      where
        by_linkage : (b : Bool) → it.internal ≡ b → (one : Definition) → slice_get m.definitions number ≡ Some one
            → IsAccountedAs one.internal program.types claiming.claims after other number
        by_linkage true is one at =
            let inside : one.internal ≡ true = sym (linkage_same made number same one at) ∙ is in
            subst (λ b. IsAccountedAs b program.types claiming.claims after other number) (sym inside) (by_first is one at inside)
        by_linkage false is one at =
            subst (λ b. IsAccountedAs b program.types claiming.claims after other number)
            (sym (sym (linkage_same made number same one at) ∙ is)) (by_noted is)

  -- of a routine
  routine_accounted : (made : TypeId) (number : ℕ) → it.entity ≡ entity.Function made (bound.Routine number) → (other : TypeId) → Same other made
      → IsAccounted program.types claiming.claims after (entity.Function other (bound.Routine number))
  routine_accounted made number same other strict =
      let noted = entity_noted word m.typer.origins.unit (mark_of m) (with_type_id id it.entity) m.routines in (
        noted.0,
        subst (λ b. IsAmong noted.0 (if b then declared_as word id it.entity m m.routines else m.routines))
            (sym (ap is_routine_entity same)) noted.1,
        id,
        noted.2 ∙ ap (with_type_id id) same,
        across other made id strict (turned id made (chosen.strict made (ap type_of_entity same))),
      )

  -- with the type of its name
  pub linked_accounted : (one : Entity) → it.entity ≡ one → IsAccounted program.types claiming.claims after one
  linked_accounted (entity.Function made (bound.Function number)) same = function_accounted made number same made (own_same made)
  linked_accounted (entity.Function made (bound.Routine number)) same = routine_accounted made number same made (own_same made)
  linked_accounted (entity.Function made bound.Nothing) same = tt
  linked_accounted (entity.Constant bits) same = tt
  linked_accounted (entity.Variable variable made) same = tt
  linked_accounted (entity.Typedef made) same = tt

  -- and with its own
  pub linked_accounted_typed : (one : Entity) → it.entity ≡ one → IsAccounted program.types claiming.claims after (with_type_id id one)
  linked_accounted_typed (entity.Function made (bound.Function number)) same =
      function_accounted made number same id (chosen.strict made (ap type_of_entity same))
  linked_accounted_typed (entity.Function made (bound.Routine number)) same =
      routine_accounted made number same id (chosen.strict made (ap type_of_entity same))
  linked_accounted_typed (entity.Function made bound.Nothing) same = tt
  linked_accounted_typed (entity.Constant bits) same = tt
  linked_accounted_typed (entity.Variable variable made) same = tt
  linked_accounted_typed (entity.Typedef made) same = tt
