-- Declarations of one name in units that have ended have one type, but for structs that are not both complete (X3.159-1989 3.1.2.6, and own).
--     closed_typer, closed_linked      so it stays as typing knows more, and with one declaration more
--     pairs_ended                      at the end of a unit it is so of all declarations
use Rattle.std.proofs.Common.{◌≡◌, ◌≤◌, ◌<◌, ◌⊎◌, inl, inr, ℕ, Bool, true, false, List, ◌∷◌, length, Some, None, refl, sym, ap, subst, if◌then◌else◌, arith}
use Rattle.std.specs.Prelude.{◌==◌, slice_get}
use Rattle.std.proofs.lemmas.Bool.Decides.{nat_tests}
use Rattle.hs_expressions.specs.Laws.Traced.{IsTracedAt, TracesTo}
use Rattle.hs_fitting.specs.Agreeing.{agree_closed}
use Rattle.hs_fitting.specs.Claims.{AreClosedPairs, AreClosedAt}
use Rattle.hs_fitting.specs.Entities.{IsAmong, among_has, all_agree_each, unfit_fits}
use Rattle.hs_fitting.specs.Found.{same_texts, same_self}
use Rattle.hs_fitting.specs.Registering.{linked_in}
use Rattle.hs_fitting.specs.Strict.{SameBy, AreOneIn, AreApart, AreClosed, closed_later, same_so, same_turned}
use Rattle.hs_linkage.specs.Definitions.{same_name}
use Rattle.hs_linkage.specs.Externals.{type_of_entity, agrees_in, all_agree, newest_external, external_of, says_same, with_external, unfit}
use Rattle.hs_linkage.specs.Linkage.{with_type_id, mark_of, declared_as, is_routine_entity}
use Rattle.hs_linkage.specs.declared.externals.External.{External}
use Rattle.hs_linkage.specs.declared.translator.Linked.{Linked}
use Rattle.hs_linkage.specs.declared.translator.StaticObject.{StaticObject}
use Rattle.hs_linkage.specs.declared.translator.Translator.{Translator}
use Rattle.hs_syntax.specs.declared.word.Word.{Word}
use Rattle.hs_typer.specs.Origins.{agree}
use Rattle.hs_typer.specs.declared.marks.Mark.{Mark}
use Rattle.hs_typer.specs.declared.typer.Entity.{Entity}
use Rattle.hs_typer.specs.declared.typer.Typer.{Typer}
use Rattle.hs_types.specs.TypeTables.{TypeTable, Grows}
use Rattle.hs_types.specs.declared.row.TypeId.{TypeId}

-- ---- as typing knows more

module _ (types : TypeTable) (base : ℕ) (s new : Typer) (unit : new.origins.unit ≡ s.origins.unit) (traces : TracesTo base s new) where
  pairs_typer : (all : List External) → AreClosedPairs types base s all → AreClosedPairs types base new all
  pairs_typer all are x y among among' older older' named a b has has' =
      same_so (AreClosed base s.types.structs s.origins types) (AreClosed base new.types.structs new.origins types) types
      (closed_later base s.types.structs new.types.structs s.origins new.origins traces types) a b
      (are x y among among' (subst (λ n. (x.unit == n) ≡ false) unit older) (subst (λ n. (y.unit == n) ≡ false) unit older') named a b has has')

-- of all declarations
pub closed_typer : (types : TypeTable) (base : ℕ) (m : Translator) (new : Typer) → new.origins.unit ≡ m.typer.origins.unit
    → TracesTo base m.typer new → AreClosedAt types base m → AreClosedAt types base (record m { typer = new })
closed_typer types base m new unit traces are =
    (pairs_typer types base m.typer new unit traces m.externals are.0, pairs_typer types base m.typer new unit traces m.routines are.1)

-- ---- with one declaration more

-- a unit is itself
unit_self : (n : ℕ) (b : Bool) → (n == n) ≡ b → b ≡ false → ⊥
unit_self n true is fails = cc
unit_self n false is fails = absurd (grind (arith, nat_tests, is))

-- what is noted in this unit is not of an earlier one
older_among : (word : Word) (unit : ℕ) (mark : Mark) (it : Entity) (its : List External) (x : External) → (x.unit == unit) ≡ false
    → IsAmong x (with_external word unit mark it its) → IsAmong x its
older_among word unit mark it its x older is = by_test (says_same (newest_external word.text its) it) is
  where
    by_test : (b : Bool) → IsAmong x (if b then its else external_of word unit mark it ∷ its) → IsAmong x its
    by_test true among = among
    by_test false (inl same) = absurd (unit_self unit (unit == unit) refl (subst (λ n. (n == unit) ≡ false) (sym (ap (λ x. x.unit) same)) older))
    by_test false (inr among) = among

-- With it, those of earlier units agree as before.
pub closed_linked : (m : Translator) (word : Word) (id : TypeId) (it : Linked) (objects : List StaticObject) (later base : ℕ) → later ≡ base → (types : TypeTable)
    → AreClosedAt types base m → AreClosedAt types later (linked_in m word id it objects)
closed_linked m word id it objects later base same types are =
    subst (λ n. AreClosedAt types n (linked_in m word id it objects)) (sym same) (
      λ x y among among' older older'. are.0 x y (external_before x older among) (external_before y older' among') older older',
      λ x y among among' older older'. are.1 x y (routine_before x older among) (routine_before y older' among') older older',
    )
  where
    external_before : (x : External) → (x.unit == m.typer.origins.unit) ≡ false → IsAmong x (linked_in m word id it objects).externals
        → IsAmong x m.externals
    external_before x older among = by_linkage it.internal among
      where
        by_linkage : (b : Bool) → IsAmong x (if b then m.externals else declared_as word id it.entity m m.externals)
            → IsAmong x m.externals
        by_linkage true is = is
        by_linkage false is = older_among word m.typer.origins.unit (mark_of m) (with_type_id id it.entity) m.externals x older is

    routine_before : (x : External) → (x.unit == m.typer.origins.unit) ≡ false → IsAmong x (linked_in m word id it objects).routines
        → IsAmong x m.routines
    routine_before x older among = by_routine (is_routine_entity it.entity) among
      where
        by_routine : (b : Bool) → IsAmong x (if b then declared_as word id it.entity m m.routines else m.routines)
            → IsAmong x m.routines
        by_routine true is = older_among word m.typer.origins.unit (mark_of m) (with_type_id id it.entity) m.routines x older is
        by_routine false is = is

-- ---- at the end of a unit

-- two declarations of one name, of whatever units
abbrev pub AreAllClosed : TypeTable → ℕ → Typer → List External → Type 0
AreAllClosed types base s all =
    (x y : External) → IsAmong x all → IsAmong y all → same_name x.name y.name ≡ true → (a b : TypeId) → type_of_entity x.entity ≡ Some a
    → type_of_entity y.entity ≡ Some b → SameBy (AreClosed base s.types.structs s.origins types) types a b

-- what is below the first is below the second
further : (k a b : ℕ) → k < a → a ≤ b → k < b
further k a b is is' = omega (arith, is, is')

module _ (types : TypeTable) (base : ℕ) (s new : Typer) (grows : Grows s.types types) (traced : IsTracedAt base s)
    (structs : new.types.structs ≡ s.types.structs) (origins : new.origins.structs ≡ s.origins.structs) where
  -- what is so of structs before the unit is so of those at its end
  abbrev Ended : TypeId → TypeId → Type 0
  Ended = AreClosed (length new.types.structs) new.types.structs new.origins types

  -- what is one stays so
  in_ended : (m n : ℕ) → AreOneIn s.origins m n → AreOneIn new.origins m n
  in_ended m n (inl same) = inl same
  in_ended m n (inr has) =
      inr (
        has.0,
        (has.1.0, subst (λ its. slice_get its m ≡ Some has.1.0) (sym origins) has.1.1, has.1.2),
        (has.2.0, subst (λ its. slice_get its n ≡ Some has.2.0) (sym origins) has.2.1, has.2.2),
      )

  -- what is apart stays so
  apart_ended : (low : ℕ) → low ≤ length s.types.structs → (m n : ℕ) → AreApart low s.types.structs m n
      → AreApart (length new.types.structs) new.types.structs m n
  apart_ended low most m n apart =
      subst (λ its. AreApart (length its) its m n) (sym structs)
      (further m low (length s.types.structs) apart.0 most, further n low (length s.types.structs) apart.1 most, apart.2)

  -- so two types do
  closed_ended : (low : ℕ) → low ≤ length s.types.structs → (a b : TypeId) → AreClosed low s.types.structs s.origins types a b → Ended a b
  closed_ended low most a b is = record { alike = is.alike; apart = λ m n at at'. either m n (is.apart m n at at') }
    where
      either : (m n : ℕ) → AreOneIn s.origins m n ⊎ AreApart low s.types.structs m n
          → AreOneIn new.origins m n ⊎ AreApart (length new.types.structs) new.types.structs m n
      either m n (inl one) = inl (in_ended m n one)
      either m n (inr apart) = inr (apart_ended low most m n apart)

  -- a number is not more than itself
  not_more : (n : ℕ) → n ≤ n
  not_more n = omega arith

  -- a declaration of this unit and another one
  here_ended : (all : List External) → unfit s.types s.origins all all ≡ None → (x y : External) → IsAmong x all → IsAmong y all
      → (x.unit == s.origins.unit) ≡ true → same_name x.name y.name ≡ true → (a b : TypeId) → type_of_entity x.entity ≡ Some a
      → type_of_entity y.entity ≡ Some b → SameBy Ended types b a
  here_ended all fits x y among among' unit named a b has has' =
      same_so (AreClosed (length s.types.structs) s.types.structs s.origins types) Ended types
      (closed_ended (length s.types.structs) (not_more (length s.types.structs))) b a
      (agree_closed base s types grows traced b a agrees)
    where
      names : same_name y.name x.name ≡ true
      names = subst (λ name. same_name y.name name ≡ true) (sym (same_texts x.name y.name named)) (same_self y.name)

      agrees : agree s.types s.origins b a ≡ true
      agrees =
          subst (λ o. agrees_in s.types s.origins a o ≡ true) has'
          (among_has (λ other. same_name other.name x.name ≡ true → agrees_in s.types s.origins a (type_of_entity other.entity) ≡ true) y all
          (all_agree_each s.types s.origins x.name a all
          (among_has (λ it. (it.unit == s.origins.unit) ≡ true → (id : TypeId) → type_of_entity it.entity ≡ Some id
          → all_agree s.types s.origins it.name id all ≡ true) x all (unfit_fits s.types s.origins all all fits) among unit a has)) among' names)

  -- At the end of a unit it is so of all declarations.
  pub pairs_ended : (all : List External) → unfit s.types s.origins all all ≡ None → AreClosedPairs types base s all
      → AreAllClosed types (length new.types.structs) new all
  pairs_ended all fits are x y among among' named a b has has' = by_units (x.unit == s.origins.unit) refl (y.unit == s.origins.unit) refl
    where
      turned : SameBy Ended types b a → SameBy Ended types a b
      turned is = same_turned Ended types b a is

      by_units : (p : Bool) → (x.unit == s.origins.unit) ≡ p → (q : Bool) → (y.unit == s.origins.unit) ≡ q → SameBy Ended types a b
      by_units true is q is' = turned (here_ended all fits x y among among' is named a b has has')
      by_units false is true is' =
          here_ended all fits y x among' among is' (subst (λ name. same_name y.name name ≡ true) (sym (same_texts x.name y.name named)) (same_self y.name))
          b a has' has
      by_units false is false is' =
          same_so (AreClosed base s.types.structs s.origins types) Ended types (closed_ended base traced.there) a b
          (are x y among among' is is' named a b has has')
