-- What types that agree have in common, by where their structs come from (X3.159-1989 3.1.2.6, and own).
--     agree_strict                  types of this unit that agree are of one struct, or of two with one brace
--     agree_closed                  at the end of a unit: or of two structs that do not both have bodies
use Rattle.std.proofs.Common.{◌≡◌, ◌<◌, ◌⊎◌, inl, inr, ℕ, Bool, true, false, ◌&&◌, List, [], ◌∷◌, length, slice_get, Some, subst}
use Rattle.std.specs.List.{AllByRecursion}
use Rattle.std.proofs.lemmas.Option.{slice_get_within}
use Rattle.hs_base.specs.Tests.{true_false}
use Rattle.hs_expressions.specs.Laws.Traced.{IsTracedAt}
use Rattle.hs_fitting.specs.Owned.{OwnTop, IsOwn}
use Rattle.hs_fitting.specs.Shapes.{agree_same_category, same_list}
use Rattle.hs_fitting.specs.Strict.{SameBy, AreOneIn, AreStrict, AreApart, AreClosed, strict_self, strict_turned, closed_self, closed_turned}
use Rattle.hs_typer.specs.Origins.{has_body, structs_agree, objects_agree, agree}
use Rattle.hs_typer.specs.declared.origins.Origin.{Origin}
use Rattle.hs_typer.specs.declared.typer.Typer.{Typer}
use Rattle.hs_types.specs.TypeTables.{TypeTable, row_of, Grows}
use Rattle.hs_types.specs.declared.row.Row.TheVariants as row
use Rattle.hs_types.specs.declared.row.TypeId.{TypeId}
use Rattle.hs_fitting.specs.AgreedStructs.{OriginsAre, structs_are, struct_pair, one_struct_row, one_unit}
use Rattle.hs_fitting.specs.AgreedTypes.{HasSigned, agree_signatures}

module _ (base : ℕ) (s : Typer) (types : TypeTable) (grows : Grows s.types types) (traced : IsTracedAt base s) where
  -- of this unit
  pub strict_objects : (a b : TypeId) → OwnTop base types a → OwnTop base types b → objects_agree s.types s.origins a b ≡ true
      → AreStrict s.origins types a b
  strict_objects a b own own' is =
      record {
        alike = agree_same_category s.types types s.origins a b grows is;
        structs = λ m n at at'. by_pair m n at at' (struct_pair s.types types s.origins grows a b m n at at' is);
      }
    where
      by_origins : (m n : ℕ) → row_of types a ≡ Some (row.Struct m) → row_of types b ≡ Some (row.Struct n) → (x y : Origin)
          → slice_get s.origins.structs m ≡ Some x → slice_get s.origins.structs n ≡ Some y
          → OriginsAre s.origins (has_body s.types m && has_body s.types n) m n x y → AreOneIn s.origins m n
      by_origins m n at at' x y there there' (inl one) = one
      by_origins m n at at' x y there there' (inr others) =
          absurd (one_unit x.unit y.unit s.origins.unit others.0
          (traced.units m x there (one_struct_row base m (row_of types a) own.0 own.1 at own.2))
          (traced.units n y there' (one_struct_row base n (row_of types b) own'.0 own'.1 at' own'.2)))

      by_agreed : (m n : ℕ) → row_of types a ≡ Some (row.Struct m) → row_of types b ≡ Some (row.Struct n)
          → AreOneIn s.origins m n ⊎ ((x : Origin) × (y : Origin) × (slice_get s.origins.structs m ≡ Some x) × (slice_get s.origins.structs n ≡ Some y)
          × OriginsAre s.origins (has_body s.types m && has_body s.types n) m n x y) → AreOneIn s.origins m n
      by_agreed m n at at' (inl one) = one
      by_agreed m n at at' (inr two) = by_origins m n at at' two.0 two.1 two.2 two.3 two.4

      by_pair : (m n : ℕ) → row_of types a ≡ Some (row.Struct m) → row_of types b ≡ Some (row.Struct n)
          → (m ≡ n) ⊎ (structs_agree s.types s.origins m n ≡ true) → AreOneIn s.origins m n
      by_pair m n at at' (inl same) = inl same
      by_pair m n at at' (inr agreed) = by_agreed m n at at' (structs_are s.types s.origins m n agreed)

  -- Function types of this unit that agree.
  pub agree_strict : (a b : TypeId) → IsOwn base types a → IsOwn base types b → agree s.types s.origins a b ≡ true
      → SameBy (AreStrict s.origins types) types a b
  agree_strict a b own own' is =
      agree_signatures (OwnTop base types) (AreStrict s.origins types) (strict_self s.origins types) (strict_turned s.origins types) s.types types
      s.origins grows strict_objects a b (signed a own) (signed b own') is
    where
      signed : (id : TypeId) → IsOwn base types id → HasSigned (OwnTop base types) types id
      signed id own its gives has =
          let parts = own.signature gives has.0 has.1 in
          (subst (AllByRecursion (OwnTop base types)) (same_list types has.0 parts.1.0 its parts.1.1 has.2) parts.1.2, parts.0)

  -- at the end of the unit
  closed_objects : (a b : TypeId) → objects_agree s.types s.origins a b ≡ true
      → AreClosed (length s.types.structs) s.types.structs s.origins types a b
  closed_objects a b is =
      record {
        alike = agree_same_category s.types types s.origins a b grows is;
        apart = λ m n at at'. by_pair m n (struct_pair s.types types s.origins grows a b m n at at' is);
      }
    where
      within : (k : ℕ) (x : Origin) → slice_get s.origins.structs k ≡ Some x → k < length s.types.structs
      within k x there = subst (λ count. k < count) traced.counted (slice_get_within s.origins.structs k x there)

      not_both : (a b : Bool) → (a && b) ≡ false → a ≡ true → b ≡ true → ⊥
      not_both true b fails is is' = true_false b is' fails
      not_both false b fails is is' = absurd cc

      by_agreed : (m n : ℕ)
          → AreOneIn s.origins m n ⊎ ((x : Origin) × (y : Origin) × (slice_get s.origins.structs m ≡ Some x) × (slice_get s.origins.structs n ≡ Some y)
          × OriginsAre s.origins (has_body s.types m && has_body s.types n) m n x y)
          → AreOneIn s.origins m n ⊎ AreApart (length s.types.structs) s.types.structs m n
      by_agreed m n (inl one) = inl one
      by_agreed m n (inr (x, y, there, there', inl one)) = inl one
      by_agreed m n (inr (x, y, there, there', inr others)) =
          inr (within m x there, within n y there', not_both (has_body s.types m) (has_body s.types n) others.1)

      by_pair : (m n : ℕ) → (m ≡ n) ⊎ (structs_agree s.types s.origins m n ≡ true)
          → AreOneIn s.origins m n ⊎ AreApart (length s.types.structs) s.types.structs m n
      by_pair m n (inl same) = inl (inl same)
      by_pair m n (inr agreed) = by_agreed m n (structs_are s.types s.origins m n agreed)

  -- Function types that agree at the end of the unit.
  pub agree_closed : (a b : TypeId) → agree s.types s.origins a b ≡ true
      → SameBy (AreClosed (length s.types.structs) s.types.structs s.origins types) types a b
  agree_closed a b is =
      agree_signatures (λ id. Unit {0}) (AreClosed (length s.types.structs) s.types.structs s.origins types)
      (closed_self s.origins types (length s.types.structs) s.types.structs) (closed_turned s.origins types (length s.types.structs) s.types.structs)
      s.types types s.origins grows (λ a b any any' is. closed_objects a b is) a b (λ its gives has. (all_any its, tt))
      (λ its gives has. (all_any its, tt)) is
    where
      all_any : (ids : List TypeId) → AllByRecursion (λ id. Unit {0}) ids
      all_any [] = tt
      all_any (id ∷ ids) = (tt, all_any ids)
