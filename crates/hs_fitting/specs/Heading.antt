-- The name and the parameters of a function that is being defined: the name refers to what was claimed, and the parameters are its first
-- variables (X3.159-1989 3.7.1).
--     named_among, named_met      the name is bound to this definition, if that is claimed
--     typed_variables             variables of some types
use Rattle.std.proofs.Common.{◌≡◌, ℕ, zero, suc, Bool, true, false, not, List, [], ◌∷◌, slice_get, Option, Some, None, IsTrue, is_some, refl, sym, ap, subst, ◌∙◌, if◌then◌else◌, arith}
use Rattle.std.specs.Prelude.{◌==◌}
use Rattle.std.proofs.lemmas.Bool.Decides.{nat_tests}
use Rattle.hs_base.specs.Tests.{true_false, both_true}
use Rattle.hs_base.specs.Options.{some_same, is_there}
use Rattle.hs_fitting.specs.Blocks.{local_of}
use Rattle.hs_fitting.specs.Claims.{Claims, IsClaimedAs, RefersTo, IsBoundIn, IsInternalLink, IsRegisteredAs, IsMet, IsMetAs}
use Rattle.hs_fitting.specs.Entities.{IsAmong}
use Rattle.hs_fitting.specs.Linking.{Linking}
use Rattle.hs_fitting.specs.Found.{same_self}
use Rattle.hs_functions.specs.Functions.{is_of_other}
use Rattle.hs_linkage.specs.Definitions.{same_name, first_place, later, is_definition_of}
use Rattle.hs_linkage.specs.Externals.{newest_external}
use Rattle.hs_linkage.specs.Linkage.{bound_as, bound_to, with_type_id, is_function}
use Rattle.hs_linkage.specs.declared.definitions.Definition.{Definition}
use Rattle.hs_linkage.specs.declared.translator.Linked.{Linked}
use Rattle.hs_linkage.specs.declared.translator.Translator.{Translator}
use Rattle.hs_names.specs.Scopes.{find}
use Rattle.hs_operand_types.specs.declared.operand.Bound.{Bound}
use Rattle.hs_operand_types.specs.declared.operand.Bound.TheVariants as bound
use Rattle.hs_syntax.specs.declared.word.Word.{Word}
use Rattle.hs_tree.specs.Fitting.{types_of}
use Rattle.hs_tree.specs.Trees.{TypedProgram}
use Rattle.hs_tree.specs.declared.head.VariableDecl.{VariableDecl}
use Rattle.hs_typer.specs.declared.typer.Entity.{Entity}
use Rattle.hs_typer.specs.declared.typer.Entity.TheVariants as entity
use Rattle.hs_types.specs.declared.row.TypeId.{TypeId}

-- ---- variables of some types

pub typed_variables : Word → List TypeId → List VariableDecl
typed_variables word [] = []
typed_variables word (id ∷ ids) = local_of word id ∷ typed_variables word ids

pub typed_types : (word : Word) (ids : List TypeId) → types_of (typed_variables word ids) ≡ ids
unfolding typed_variables
typed_types word [] = refl
typed_types word (id ∷ ids) = ap (λ rest. id ∷ rest) (typed_types word ids)

-- ---- the definition of a name

-- one that meets the test is there
later_some : (o : Option ℕ) → IsTrue (is_some o) → IsTrue (is_some (later o))
later_some None is = absurd cc
later_some (Some place) is = refl

place_either : {A : Type 0} → (test : A → Bool) (its : List A) (b : Bool) → (b ≡ false → IsTrue (is_some (first_place test its)))
    → IsTrue (is_some (if b then Some 0 else later (first_place test its)))
place_either test its true is = refl
place_either test its false is = later_some (first_place test its) (is refl)

place_some : {A : Type 0} → (test : A → Bool) (its : List A) (number : ℕ) (it : A) → slice_get its number ≡ Some it → test it ≡ true
    → IsTrue (is_some (first_place test its))
place_some test [] number it at is = absurd cc
place_some test (other ∷ its) zero it at is =
    place_either test its (test other) (λ fails. absurd (true_false (test it) is (sym (ap test (some_same other it at)) ∙ fails)))
place_some test (other ∷ its) (suc number) it at is = place_either test its (test other) (λ fails. place_some test its number it at is)

-- a name of a definition is bound to no routine
bound_there : (a b : Option ℕ) → IsTrue (is_some a) → (number : ℕ) × (bound_as a b ≡ bound.Function number)
bound_there None b is = absurd cc
bound_there (Some number) b is = (number, refl)

-- a number that is not another one
same_number : (a b : ℕ) → not (a == b) ≡ false → a ≡ b
same_number a b is = by_test (a == b) refl is
  where
    by_test : (t : Bool) → (a == b) ≡ t → not t ≡ false → a ≡ b
    by_test true same is = grind (arith, nat_tests, same)
    by_test false same is = absurd cc

-- no link is of two linkages
internal_one : (o : Option Linked) (it : Linked) → o ≡ Some it → IsInternalLink o → it.internal ≡ true
internal_one None it is linked = absurd cc
internal_one (Some other) it is linked = subst (λ its. its.internal ≡ true) (some_same other it is) linked

module _ (program : TypedProgram) (here : List ℕ → Bool) (its : Claims) (variables : List VariableDecl) (m : Translator) (word : Word) (id : TypeId)
    (p : Entity × Translator) (linking : Linking program here its variables m word id p) (number : ℕ) (one : Definition)
    (at : slice_get p.1.definitions number ≡ Some one) (named : one.name ≡ word.text) (unit : (one.unit == p.1.typer.origins.unit) ≡ true) where
  -- a definition of that linkage is this one, or one before it
  defined_by : (internal : Bool) → (if internal then one.unit == p.1.typer.origins.unit else not one.internal) ≡ true
      → IsTrue (is_some (first_place (is_definition_of internal p.1.typer.origins.unit word.text) p.1.definitions))
  defined_by internal is =
      place_some (is_definition_of internal p.1.typer.origins.unit word.text) p.1.definitions number one at
      (both_true (same_name one.name word.text) (if internal then one.unit == p.1.typer.origins.unit else not one.internal)
      (subst (λ name. same_name one.name name ≡ true) named (same_self one.name)) is)

  -- if it is claimed
  bound_by : (first : TypeId) → linking.claims.functions number ≡ Some first → (internal : Bool) → linking.linked.internal ≡ internal
      → (inside : Bool) → one.internal ≡ inside
      → (if internal then one.unit == p.1.typer.origins.unit else not one.internal) ≡ true
  bound_by first claimed true linked inside same = unit
  bound_by first claimed false linked true same =
      let registered : IsRegisteredAs true p.1 one = subst (λ b. IsRegisteredAs b p.1 one) same (linking.stands.functions_met number first one claimed at) in
      absurd (true_false linking.linked.internal
      (internal_one (find word.text p.1.links) linking.linked linking.found
      (subst (λ name. IsInternalLink (find name p.1.links)) named (registered unit))) linked)
  bound_by first claimed false linked false same = rw same refl

  -- so it is bound to a definition
  claimed_bound : (first : TypeId) → linking.claims.functions number ≡ Some first → (to : Bound)
      → to ≡ bound_to linking.linked.internal p.1.typer.origins.unit word.text p.1.definitions p.1.typer.table
      → (place : ℕ) × (to ≡ bound.Function place)
  claimed_bound first claimed to is =
      let there = bound_there (first_place (is_definition_of linking.linked.internal p.1.typer.origins.unit word.text) p.1.definitions)
      (first_place (λ it. same_name it.name word.text) p.1.typer.table)
      (defined_by linking.linked.internal (bound_by first claimed linking.linked.internal refl one.internal refl)) in
      (there.0, is ∙ there.1)

  -- its type is among those that were declared for it
  function_among : (its' : TypeId) (to : Bound) → p.0 ≡ entity.Function its' to → is_of_other number p.0 ≡ false → (first : TypeId)
      → linking.claims.functions number ≡ Some first → IsAmong (entity.Function id (bound.Function number)) linking.claims.entities
  function_among its' to same only first claimed =
      let bound_so = claimed_bound first claimed to (subst (IsBoundIn p.1 linking.linked.internal word.text) same linking.bound) in
      let whole : p.0 ≡ entity.Function its' (bound.Function bound_so.0) = same ∙ ap (entity.Function its') bound_so.1 in
      let here_so : bound_so.0 ≡ number = same_number bound_so.0 number (subst (λ it. is_of_other number it ≡ false) whole only) in
      let is : IsClaimedAs program.types linking.claims id (bound.Function bound_so.0)
      = subst (λ it. RefersTo program.types linking.claims p.1.objects (with_type_id id it)) whole linking.declared in
      subst (λ n. IsAmong (entity.Function id (bound.Function n)) linking.claims.entities) here_so is.1

  -- of a name of a function
  pub named_among : is_function m.typer.types id ≡ true → is_of_other number p.0 ≡ false → (first : TypeId)
      → linking.claims.functions number ≡ Some first → IsAmong (entity.Function id (bound.Function number)) linking.claims.entities
  named_among is only first claimed =
      let kind = linking.kind is in function_among kind.0 kind.1.0 kind.1.1 only first claimed

  -- and it is met
  external_met : one.internal ≡ false → (b : Bool) → linking.linked.internal ≡ b → IsTrue (is_some (newest_external one.name p.1.externals))
  external_met external true linked =
      absurd (true_false (here word.text) (linking.internal linked)
      (sym (ap here named) ∙ sym (linking.stands.internal number one at unit) ∙ external))
  external_met external false linked = subst (λ name. IsTrue (is_some (newest_external name p.1.externals))) (sym named) (linking.external linked)

  met_by : (b : Bool) → one.internal ≡ b → IsMetAs b p.1 one
  met_by true is = λ same. subst (λ name. IsTrue (is_some (find name p.1.links))) (sym named) (is_there (find word.text p.1.links) linking.linked linking.found)
  met_by false is = external_met is linking.linked.internal refl

  pub named_met : IsMet p.1 one
  named_met = met_by one.internal refl
