-- Declarations of one name with linkage have types of one shape (X3.159-1989 3.1.2.6 and 3.5).
--     all_agree_each, all_agree_shapes   each declaration of the name agrees with the type, and has its shape
--     newest_has                         the newest declaration of a name is one of those of the name
--     unfit_fits                         at the end of a unit each of its declarations agrees with all of its name
--     unfit_among, unfit_self            and its type agrees with itself
--     IsAmong it its, among_has, all_among   an entry of a list, and what is so of all of them
use Rattle.std.proofs.Common.{◌≡◌, ◌⊎◌, inl, inr, ℕ, Bool, true, false, not, List, [], ◌∷◌, Option, Some, None, refl, subst, if◌then◌else◌}
use Rattle.std.specs.Prelude.{◌==◌, ◌||◌}
use Rattle.std.specs.Cmp.Lexicographic.{nat_list_eq_equiv}
use Rattle.std.specs.List.{AllByRecursion}
use Rattle.hs_base.specs.Tests.{both_tests, not_both}
use Rattle.hs_base.specs.Entries.{all_so}
use Rattle.hs_fitting.specs.Shapes.{SameShape, agree_shape}
use Rattle.hs_linkage.specs.Definitions.{same_name}
use Rattle.hs_linkage.specs.Externals.{type_of_entity, agrees_in, all_agree, newest_external, agree_if, is_unfit, or_later, if_unfit, unfit}
use Rattle.hs_linkage.specs.declared.externals.External.{External}
use Rattle.hs_typer.specs.Origins.{agree}
use Rattle.hs_typer.specs.declared.origins.Origins.{Origins}
use Rattle.hs_typer.specs.declared.typer.Entity.{Entity}
use Rattle.hs_types.specs.TypeTables.{TypeTable, Grows}
use Rattle.hs_types.specs.declared.row.TypeId.{TypeId}

-- ---- entries of a list

module _ {A : Type 0} where
  -- an entry of the list
  abbrev pub IsAmong : A → List A → Type 0
  IsAmong it [] = ⊥
  IsAmong it (first ∷ rest) = (first ≡ it) ⊎ IsAmong it rest

  -- what is so of all of them
  pub among_has : (holds : A → Type 0) (it : A) (its : List A) → AllByRecursion holds its → IsAmong it its → holds it
  among_has holds it [] are is = absurd is
  among_has holds it (first ∷ rest) are (inl same) = subst holds same are.0
  among_has holds it (first ∷ rest) are (inr behind) = among_has holds it rest are.1 behind

  -- what is so of all of a list is so of those that are among it
  pub all_by_among : (holds : A → Type 0) (its more : List A) → ((it : A) → IsAmong it its → IsAmong it more) → AllByRecursion holds more
      → AllByRecursion holds its
  all_by_among holds [] more among are = tt
  all_by_among holds (first ∷ rest) more among are =
      (among_has holds first more are (among first (inl refl)), all_by_among holds rest more (λ it is. among it (inr is)) are)

  -- each entry is one
  pub all_among : (its : List A) → AllByRecursion (λ it. IsAmong it its) its
  all_among [] = tt
  all_among (first ∷ rest) =
      (inl refl, all_so (λ it. IsAmong it rest) (λ it. IsAmong it (first ∷ rest)) (λ it is. inr is) rest (all_among rest))

  -- two facts of all
  all_both : (holds holds' : A → Type 0) (its : List A) → AllByRecursion holds its → AllByRecursion holds' its
      → AllByRecursion (λ it. holds it × holds' it) its
  all_both holds holds' [] are are' = tt
  all_both holds holds' (first ∷ rest) are are' = ((are.0, are'.0), all_both holds holds' rest are.1 are'.1)

-- ---- declarations that agree

-- a test that is met where another one is not
met_where : (a b : Bool) → (not a || b) ≡ true → a ≡ true → b ≡ true
met_where true b is met = is
met_where false b is met = absurd cc

-- Each declaration of the name agrees with the type.
pub all_agree_each : (types : TypeTable) (o : Origins) (name : List ℕ) (id : TypeId) (its : List External) → all_agree types o name id its ≡ true
    → AllByRecursion (λ it. same_name it.name name ≡ true → agrees_in types o id (type_of_entity it.entity) ≡ true) its
all_agree_each types o name id [] is = tt
all_agree_each types o name id (it ∷ rest) is =
    let tests : ((not (same_name it.name name) || agrees_in types o id (type_of_entity it.entity)) ≡ true) × (all_agree types o name id rest ≡ true)
    = both_tests (not (same_name it.name name) || agrees_in types o id (type_of_entity it.entity)) (all_agree types o name id rest) is in (
      met_where (same_name it.name name) (agrees_in types o id (type_of_entity it.entity)) tests.0,
      all_agree_each types o name id rest tests.1,
    )

-- with the type of a declaration
agrees_at : (types : TypeTable) (o : Origins) (id other : TypeId) (given : Option TypeId) → given ≡ Some other → agrees_in types o id given ≡ true
    → agree types o other id ≡ true
agrees_at types o id other given known is = subst (λ its. agrees_in types o id its ≡ true) known is

-- So it has a type of the same shape.
pub all_agree_shapes : (old types : TypeTable) (o : Origins) (name : List ℕ) (id : TypeId) (its : List External) → Grows old types
    → all_agree old o name id its ≡ true
    → AllByRecursion
    (λ it. same_name it.name name ≡ true → (other : TypeId) → type_of_entity it.entity ≡ Some other → SameShape types other id) its
all_agree_shapes old types o name id its grows is =
    all_so (λ it. same_name it.name name ≡ true → agrees_in old o id (type_of_entity it.entity) ≡ true)
    (λ it. same_name it.name name ≡ true → (other : TypeId) → type_of_entity it.entity ≡ Some other → SameShape types other id)
    (λ it agrees named other known.
    agree_shape old types o other id grows (agrees_at old o id other (type_of_entity it.entity) known (agrees named))) its
    (all_agree_each old o name id its is)

-- ---- the newest declaration of a name

-- an entry of the name, with that entity
abbrev pub IsOneOf : (External → Type 0) → List ℕ → Entity → Type 0
IsOneOf holds name entity = (it : External) × holds it × (same_name it.name name ≡ true) × (it.entity ≡ entity)

-- by the first one, or by those before it
newest_if : (holds : External → Type 0) (name : List ℕ) (it : External) (entity : Entity) (given : Option Entity) (test : Bool)
    → same_name it.name name ≡ test → holds it → (given ≡ Some entity → IsOneOf holds name entity)
    → (if test then Some it.entity else given) ≡ Some entity → IsOneOf holds name entity
newest_if holds name it entity given true named is behind found = (it, is, named, cc)
newest_if holds name it entity given false named is behind found = behind found

-- What is so of all entries is so of it.
pub newest_has : (holds : External → Type 0) (name : List ℕ) (its : List External) (entity : Entity) → AllByRecursion holds its
    → newest_external name its ≡ Some entity → (it : External) × holds it × (same_name it.name name ≡ true) × (it.entity ≡ entity)
newest_has holds name [] entity are found = absurd cc
newest_has holds name (it ∷ older) entity are found =
    newest_if holds name it entity (newest_external name older) (same_name it.name name) refl are.0
    (newest_has holds name older entity are.1) found

-- ---- the end of a unit

-- neither of two
neither : (a b : Option External) → or_later a b ≡ None → (a ≡ None) × (b ≡ None)
neither None b is = (refl, is)
neither (Some it) b is = absurd cc

-- a test that is not met
not_met : (test : Bool) (it : External) → (if test then Some it else None) ≡ None → test ≡ false
not_met true it is = absurd cc
not_met false it is = refl

-- it agrees, with its type
agrees_if : (types : TypeTable) (o : Origins) (name : List ℕ) (id : TypeId) (all : List External) (given : Option TypeId) → given ≡ Some id
    → agree_if types o name given all ≡ true → all_agree types o name id all ≡ true
agrees_if types o name id all given known is = subst (λ its. agree_if types o name its all ≡ true) known is

-- a declaration of this unit agrees with all declarations of its name
abbrev pub AgreesWithAll : TypeTable → Origins → List External → External → Type 0
AgreesWithAll types o all it =
    (it.unit == o.unit) ≡ true → (id : TypeId) → type_of_entity it.entity ≡ Some id → all_agree types o it.name id all ≡ true

-- if it is not unfit
one_fits : (types : TypeTable) (o : Origins) (all : List External) (it : External) → if_unfit types o all it ≡ None → AgreesWithAll types o all it
one_fits types o all it is here id known =
    agrees_if types o it.name id all (type_of_entity it.entity) known
    (not_both (it.unit == o.unit) (agree_if types o it.name (type_of_entity it.entity) all) (not_met (is_unfit types o all it) it is) here)

-- If none is unfit, each does.
pub unfit_fits : (types : TypeTable) (o : Origins) (all its : List External) → unfit types o all its ≡ None
    → AllByRecursion
    (λ it. (it.unit == o.unit) ≡ true → (id : TypeId) → type_of_entity it.entity ≡ Some id → all_agree types o it.name id all ≡ true) its
unfit_fits types o all [] is = tt
unfit_fits types o all (it ∷ older) is =
    let each : (unfit types o all older ≡ None) × (if_unfit types o all it ≡ None)
    = neither (unfit types o all older) (if_unfit types o all it) is in
    (one_fits types o all it each.1, unfit_fits types o all older each.0)

-- its type agrees with itself
abbrev pub AgreesWithItself : TypeTable → Origins → External → Type 0
AgreesWithItself types o it =
    (it.unit == o.unit) ≡ true → (id : TypeId) → type_of_entity it.entity ≡ Some id → agree types o id id ≡ true

-- as it is one of its name
among_agrees : (types : TypeTable) (o : Origins) (all : List External) (it : External) → IsAmong it all → AgreesWithAll types o all it
    → AgreesWithItself types o it
among_agrees types o all it is agrees here id known =
    agrees_at types o id id (type_of_entity it.entity) known
    (among_has (λ its. same_name its.name it.name ≡ true → agrees_in types o id (type_of_entity its.entity) ≡ true) it all
    (all_agree_each types o it.name id all (agrees here id known)) is (nat_list_eq_equiv.refl it.name))

-- If none is unfit, the type of each that is among all agrees with itself.
pub unfit_among : (types : TypeTable) (o : Origins) (all its : List External) → unfit types o all its ≡ None
    → AllByRecursion
    (λ it.
    IsAmong it all → (it.unit == o.unit) ≡ true → (id : TypeId) → type_of_entity it.entity ≡ Some id → agree types o id id ≡ true) its
unfit_among types o all its is =
    all_so (AgreesWithAll types o all) (λ it. IsAmong it all → AgreesWithItself types o it)
    (λ it agrees among. among_agrees types o all it among agrees) its (unfit_fits types o all its is)

-- If none of all is unfit, the type of each does.
pub unfit_self : (types : TypeTable) (o : Origins) (all : List External) → unfit types o all all ≡ None
    → AllByRecursion
    (λ it. (it.unit == o.unit) ≡ true → (id : TypeId) → type_of_entity it.entity ≡ Some id → agree types o id id ≡ true) all
unfit_self types o all is =
    all_so (λ it. IsAmong it all × (IsAmong it all → AgreesWithItself types o it)) (AgreesWithItself types o) (λ it both. both.1 both.0) all
    (all_both (λ it. IsAmong it all) (λ it. IsAmong it all → AgreesWithItself types o it) all (all_among all) (unfit_among types o all all is))
