-- The types that declarations gave functions, at later places of the text.
--     accounted_traced              as typing knows more
--     accounted_noted               with one declaration more
--     same_entities, entity_noted   a declaration is noted, unless the newest one says the same
use Rattle.std.proofs.Common.{◌≡◌, inl, inr, ℕ, Bool, true, false, List, ◌∷◌, slice_get, Option, Some, None, refl, sym, ap, subst, ◌∙◌, if◌then◌else◌, arith}
use Rattle.std.proofs.lemmas.Bool.Decides.{nat_tests}
use Rattle.std.specs.List.{AllByRecursion}
use Rattle.hs_base.specs.Entries.{all_so}
use Rattle.hs_expressions.specs.Laws.Traced.{TracesTo}
use Rattle.hs_fitting.specs.Claims.{Claims, IsNotedIn, IsAccountedAs, IsAccounted}
use Rattle.hs_fitting.specs.Entities.{IsAmong, all_among, newest_has}
use Rattle.hs_fitting.specs.Strict.{SameBy, AreStrict, strict_later, same_so}
use Rattle.hs_linkage.specs.Externals.{newest_external, external_of, says_same, with_external}
use Rattle.hs_linkage.specs.declared.externals.External.{External}
use Rattle.hs_linkage.specs.declared.translator.Translator.{Translator}
use Rattle.hs_operand_types.specs.declared.operand.Bound.{Bound}
use Rattle.hs_operand_types.specs.declared.operand.Bound.TheVariants as bound
use Rattle.hs_syntax.specs.declared.word.Word.{Word}
use Rattle.hs_tree.specs.declared.head.Variable.TheVariants as variable
use Rattle.hs_typer.specs.contracts.typer.EntityPartialEq.TheImpl as entity_eq
use Rattle.hs_typer.specs.declared.marks.Mark.{Mark}
use Rattle.hs_typer.specs.declared.typer.Entity.{Entity}
use Rattle.hs_typer.specs.declared.typer.Entity.TheVariants as entity
use Rattle.hs_typer.specs.declared.typer.Typer.{Typer}
use Rattle.hs_types.specs.TypeTables.{TypeTable}
use Rattle.hs_types.specs.declared.row.TypeId.{TypeId}

-- ---- as typing knows more

module _ (types : TypeTable) (its : Claims) (m : Translator) (new : Typer) (traces : TracesTo its.base m.typer new) where
  -- two types
  same_traced : (a b : TypeId) → SameBy (AreStrict m.typer.origins types) types a b → SameBy (AreStrict new.origins types) types a b
  same_traced =
      same_so (AreStrict m.typer.origins types) (AreStrict new.origins types) types
      (strict_later its.base m.typer.types.structs new.types.structs m.typer.origins new.origins traces types)

  -- by a declaration
  noted_traced : (all : List External) (id : TypeId) (to : Bound) → IsNotedIn types m.typer.origins all id to → IsNotedIn types new.origins all id to
  noted_traced all id to is = (is.0, is.1, is.2, is.3, same_traced id is.2 is.4)

  -- by its linkage
  as_traced : (b : Bool) (id : TypeId) (number : ℕ) → IsAccountedAs b types its m id number → IsAccountedAs b types its (record m { typer = new }) id number
  as_traced true id number is = (is.0, is.1, same_traced id is.0 is.2)
  as_traced false id number is = noted_traced m.externals id (bound.Function number) is

  -- of a function
  pub accounted_traced : (it : Entity) → IsAccounted types its m it → IsAccounted types its (record m { typer = new }) it
  accounted_traced (entity.Function id (bound.Function number)) is = (is.0, is.1, as_traced is.0.internal id number is.2)
  accounted_traced (entity.Function id (bound.Routine number)) is = noted_traced m.routines id (bound.Routine number) is
  accounted_traced (entity.Function id bound.Nothing) is = tt
  accounted_traced (entity.Constant bits) is = tt
  accounted_traced (entity.Variable its id) is = tt
  accounted_traced (entity.Typedef id) is = tt

-- ---- one declaration more

-- with more declarations, and more claims
module _ (types : TypeTable) (its later : Claims) (m n : Translator) (origins : n.typer.origins ≡ m.typer.origins) (same : n.definitions ≡ m.definitions)
    (functions : (number : ℕ) (id : TypeId) → its.functions number ≡ Some id → later.functions number ≡ Some id)
    (externals : (it : External) → IsAmong it m.externals → IsAmong it n.externals)
    (routines : (it : External) → IsAmong it m.routines → IsAmong it n.routines) where
  noted_more : (all more : List External) → ((it : External) → IsAmong it all → IsAmong it more) → (id : TypeId) (to : Bound)
      → IsNotedIn types m.typer.origins all id to → IsNotedIn types n.typer.origins more id to
  noted_more all more stay id to is =
      subst (λ o. IsNotedIn types o more id to) (sym origins) (is.0, stay is.0 is.1, is.2, is.3, is.4)

  -- by its linkage
  as_noted : (b : Bool) (id : TypeId) (number : ℕ) → IsAccountedAs b types its m id number → IsAccountedAs b types later n id number
  as_noted true id number is =
      (is.0, functions number is.0 is.1, subst (λ o. SameBy (AreStrict o types) types id is.0) (sym origins) is.2)
  as_noted false id number is = noted_more m.externals n.externals externals id (bound.Function number) is

  -- of a function
  pub accounted_noted : (it : Entity) → IsAccounted types its m it → IsAccounted types later n it
  accounted_noted (entity.Function id (bound.Function number)) is =
      (is.0, subst (λ all. slice_get all number ≡ Some is.0) (sym same) is.1, as_noted is.0.internal id number is.2)
  accounted_noted (entity.Function id (bound.Routine number)) is = noted_more m.routines n.routines routines id (bound.Routine number) is
  accounted_noted (entity.Function id bound.Nothing) is = tt
  accounted_noted (entity.Constant bits) is = tt
  accounted_noted (entity.Variable its id) is = tt
  accounted_noted (entity.Typedef id) is = tt

-- of all of them
pub all_accounted : (types : TypeTable) (its : Claims) (m n : Translator) → n.typer.origins ≡ m.typer.origins → n.definitions ≡ m.definitions
    → n.externals ≡ m.externals → n.routines ≡ m.routines → (all : List Entity) → AllByRecursion (IsAccounted types its m) all
    → AllByRecursion (IsAccounted types its n) all
all_accounted types its m n origins same externals routines all are =
    all_so (IsAccounted types its m) (IsAccounted types its n)
    (accounted_noted types its its m n origins same (λ number id is. is) (λ it is. subst (IsAmong it) (sym externals) is)
    (λ it is. subst (IsAmong it) (sym routines) is)) all are

-- ---- what is noted

-- two that compare as equal are one
pub same_entities : (a b : Entity) → (entity_eq.ghosts).eq a b ≡ true → a ≡ b
same_entities (entity.Constant a) (entity.Constant b) same =
    let bits : a ≡ b = grind (arith, nat_tests, same) in
    ap entity.Constant bits
same_entities (entity.Variable (variable.Global a) x) (entity.Variable (variable.Global b) y) same =
    let places : a ≡ b = grind (arith, nat_tests, same) in
    let numbers : x.number ≡ y.number = grind (arith, nat_tests, same) in
    λ i.
    let id : TypeId = record { number = numbers i } in entity.Variable (variable.Global (places i)) id
same_entities (entity.Variable (variable.Local a) x) (entity.Variable (variable.Local b) y) same =
    let places : a ≡ b = grind (arith, nat_tests, same) in
    let numbers : x.number ≡ y.number = grind (arith, nat_tests, same) in
    λ i.
    let id : TypeId = record { number = numbers i } in entity.Variable (variable.Local (places i)) id
same_entities (entity.Function x (bound.Function a)) (entity.Function y (bound.Function b)) same =
    let places : a ≡ b = grind (arith, nat_tests, same) in
    let numbers : x.number ≡ y.number = grind (arith, nat_tests, same) in
    λ i.
    let id : TypeId = record { number = numbers i } in entity.Function id (bound.Function (places i))
same_entities (entity.Function x (bound.Routine a)) (entity.Function y (bound.Routine b)) same =
    let places : a ≡ b = grind (arith, nat_tests, same) in
    let numbers : x.number ≡ y.number = grind (arith, nat_tests, same) in
    λ i.
    let id : TypeId = record { number = numbers i } in entity.Function id (bound.Routine (places i))
same_entities (entity.Function x bound.Nothing) (entity.Function y bound.Nothing) same =
    let numbers : x.number ≡ y.number = grind (arith, nat_tests, same) in
    λ i.
    let id : TypeId = record { number = numbers i } in entity.Function id bound.Nothing
same_entities (entity.Typedef x) (entity.Typedef y) same =
    let numbers : x.number ≡ y.number = grind (arith, nat_tests, same) in
    λ i.
    let id : TypeId = record { number = numbers i } in entity.Typedef id
same_entities (entity.Variable (variable.Global a) x) (entity.Variable (variable.Local b) y) same = absurd (grind (arith, same))
same_entities (entity.Variable (variable.Local a) x) (entity.Variable (variable.Global b) y) same = absurd (grind (arith, same))
same_entities (entity.Function x (bound.Function a)) (entity.Function y (bound.Routine b)) same = absurd (grind (arith, same))
same_entities (entity.Function x (bound.Function a)) (entity.Function y bound.Nothing) same = absurd (grind (arith, same))
same_entities (entity.Function x (bound.Routine a)) (entity.Function y (bound.Function b)) same = absurd (grind (arith, same))
same_entities (entity.Function x (bound.Routine a)) (entity.Function y bound.Nothing) same = absurd (grind (arith, same))
same_entities (entity.Function x bound.Nothing) (entity.Function y (bound.Function b)) same = absurd (grind (arith, same))
same_entities (entity.Function x bound.Nothing) (entity.Function y (bound.Routine b)) same = absurd (grind (arith, same))
same_entities (entity.Constant a) (entity.Variable other y) same = absurd cc
same_entities (entity.Constant a) (entity.Function y other) same = absurd cc
same_entities (entity.Constant a) (entity.Typedef y) same = absurd cc
same_entities (entity.Variable its x) (entity.Constant b) same = absurd cc
same_entities (entity.Variable its x) (entity.Function y other) same = absurd cc
same_entities (entity.Variable its x) (entity.Typedef y) same = absurd cc
same_entities (entity.Function x its) (entity.Constant b) same = absurd cc
same_entities (entity.Function x its) (entity.Variable other y) same = absurd cc
same_entities (entity.Function x its) (entity.Typedef y) same = absurd cc
same_entities (entity.Typedef x) (entity.Constant b) same = absurd cc
same_entities (entity.Typedef x) (entity.Variable other y) same = absurd cc
same_entities (entity.Typedef x) (entity.Function y other) same = absurd cc

module _ (word : Word) (unit : ℕ) (mark : Mark) (it : Entity) (its : List External) where
  -- those that were noted
  pub entities_stay : (other : External) → IsAmong other its → IsAmong other (with_external word unit mark it its)
  entities_stay other is = by_test (says_same (newest_external word.text its) it)
    where
      by_test : (b : Bool) → IsAmong other (if b then its else external_of word unit mark it ∷ its)
      by_test true = is
      by_test false = inr is

  -- and this one
  pub entity_noted : (other : External) × IsAmong other (with_external word unit mark it its) × (other.entity ≡ it)
  entity_noted = by_test (says_same (newest_external word.text its) it) refl
    where
      newest : (o : Option Entity) → newest_external word.text its ≡ o → says_same o it ≡ true → (other : External) × IsAmong other its × (other.entity ≡ it)
      newest None found is = absurd cc
      newest (Some old) found is =
          let one = newest_has (λ other. IsAmong other its) word.text its old (all_among its) found in
          (one.0, one.1, one.3 ∙ same_entities old it is)

      by_test : (b : Bool) → says_same (newest_external word.text its) it ≡ b
          → (other : External) × IsAmong other (if b then its else external_of word unit mark it ∷ its) × (other.entity ≡ it)
      by_test true same = newest (newest_external word.text its) refl same
      by_test false same = (external_of word unit mark it, inl refl, refl)
