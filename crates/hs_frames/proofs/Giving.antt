-- The values of parameters, one after the other.
use Rattle.std.proofs.Common.{◌≡◌, ℕ, suc, pos, ◌+◌, ◌<◌, List, ◌∷◌, length, drop, get_or, slice_get, slice_set, Option, Some, None, Result, Ok, Err, refl, sym, ap, subst, ◌∙◌, add-one}
use Rattle.std.proofs.lemmas.List.{drop_more}
use Rattle.std.proofs.lemmas.Option.{slice_get_read}
use Rattle.hs_heap.specs.declared.cell.Pointer.TheVariants.{Fixed}
use Rattle.hs_meaning.specs.Accesses.{stored}
use Rattle.hs_meaning.specs.Classes.{class_of_type}
use Rattle.hs_meaning.specs.Frames.{given_all, given_to}
use Rattle.hs_meaning.specs.Machine.{Machine, Binding, slot, object_at, done, and_then}
use Rattle.hs_meaning.specs.Settings.{Setting, access_of_type}
use Rattle.hs_meaning.specs.Values.{Value, Access}
use Rattle.hs_state.specs.Bindings.{place_of}
use Rattle.hs_state.specs.Machines.{Does}
use Rattle.hs_tree.specs.declared.head.VariableDecl.{VariableDecl}
use Rattle.hs_types.specs.declared.row.TypeId.{TypeId}
use Rattle.hs_values.specs.declared.halt.Halt.{Halt}
use Rattle.hs_frames.proofs.Doing.{goes_on, ends}

-- the variable of that place
pub found : (items locals : List Binding) (place : ℕ) (binding : Binding) → items ≡ locals → place < length items
    → binding ≡ get_or items place binding → slice_get locals place ≡ Some binding
found items locals place binding same there here =
    subst (λ its. slice_get its place ≡ Some binding) same (slice_get_read items (length items) place binding refl there here)

-- an object is given its value by a store of which the result is not asked for
pub given_object : (setting : Setting) (place : ℕ) (id : TypeId) (value : Value) (found : Option Binding) (binding : Binding) (object : ℕ)
    (access : Access) (machine now : Machine) (result : Result Unit Halt) → found ≡ Some binding → place_of binding ≡ Some object
    → access ≡ access_of_type setting id (class_of_type setting.same id)
    → Does (and_then (stored access (Fixed object (pos 0)) value machine) (λ it after. done (tt {0}) after)) now result
    → Does (given_to setting place id value found machine) now result
given_object setting place id value found (slot before) object access machine now result is here same gives = absurd cc
given_object setting place id value found (object_at number) object access machine now result is here same gives =
    let one : object ≡ number = cc
    in let of_type = subst (λ it. Does (and_then (stored it (Fixed object (pos 0)) value machine) (λ it after. done (tt {0}) after)) now result) same gives
    in let there = subst (λ it. Does (given_to setting place id value (Some (object_at it)) machine) now result) one of_type
    in subst (λ it. Does (given_to setting place id value it machine) now result) (sym is) there

-- a slot is given it at once
pub given_slot : (setting : Setting) (place : ℕ) (id : TypeId) (value : Value) (found : Option Binding) (binding : Binding)
    (machine : Machine) → found ≡ Some binding → place_of binding ≡ None
    → given_to setting place id value found machine ≡ done tt (record machine { locals = slice_set machine.locals place (slot (Some value)) })
given_slot setting place id value found (slot before) machine is here = rw is refl
given_slot setting place id value found (object_at number) machine is here = absurd cc

module _ (setting : Setting) (place index : ℕ) (parameters : List VariableDecl) (variable : VariableDecl) (left values : List Value) (value : Value)
    (machine after : Machine) where
  -- the next parameter, and those after it
  unfolded : index < length parameters → variable ≡ get_or parameters index variable → left ≡ value ∷ values
      → given_all setting place (drop index parameters) left machine
      ≡ and_then (given_to setting place variable.type_id value (slice_get machine.locals place) machine)
      (λ it after. given_all setting (suc place) (drop (index + 1) parameters) values after)
  unfolded there is first =
      ap (λ its. given_all setting place its left machine) (drop_more parameters index variable there)
      ∙ ap (λ it. given_all setting place (it ∷ drop (index + 1) parameters) left machine) (sym is)
      ∙ ap (λ its. given_all setting place (variable ∷ drop (index + 1) parameters) its machine) first

  -- it was given its value
  pub given_next : index < length parameters → variable ≡ get_or parameters index variable → left ≡ value ∷ values
      → Does (given_to setting place variable.type_id value (slice_get machine.locals place) machine) after (Ok tt)
      → given_all setting (place + 1) (drop (index + 1) parameters) values after ≡ given_all setting place (drop index parameters) left machine
  given_next there is first gives =
      ap (λ it. given_all setting it (drop (index + 1) parameters) values after) (add-one place)
      ∙ sym (unfolded there is first
      ∙ goes_on _ (λ it after. given_all setting (suc place) (drop (index + 1) parameters) values after) after tt gives)

  -- it was not
  pub given_none : (why : Halt) → index < length parameters → variable ≡ get_or parameters index variable → left ≡ value ∷ values
      → Does (given_to setting place variable.type_id value (slice_get machine.locals place) machine) after (Err why)
      → Does (given_all setting place (drop index parameters) left machine) after (Err why)
  given_none why there is first stops =
      subst (λ wanted. Does wanted after (Err why)) (sym (unfolded there is first))
      (ends _ (λ it after. given_all setting (suc place) (drop (index + 1) parameters) values after) after why stops)
