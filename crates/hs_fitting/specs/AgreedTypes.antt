-- Function types that agree: their results and their parameters do (X3.159-1989 3.1.2.6).
--     HasSigned P types id          the results and the parameters of a type meet a fact
--     agree_signatures              function types that agree have results and parameters that are `alike`
use Rattle.std.proofs.Common.{◌≡◌, ◌⊎◌, inl, inr, ℕ, zero, suc, Bool, true, ◌&&◌, List, [], ◌∷◌, slice_get, Option, Some, None, refl, subst}
use Rattle.std.specs.List.{AllByRecursion}
use Rattle.hs_base.specs.Tests.{both_tests}
use Rattle.hs_expressions.specs.Binding.{IsList, IsSignature, AllBy, IsLikeBy}
use Rattle.hs_fitting.specs.Listed.{list_stays}
use Rattle.hs_fitting.specs.Shapes.{AreOneOrObjects, within_objects, no_signature, same_signature}
use Rattle.hs_fitting.specs.Strict.{SameBy, all_turned, same_self}
use Rattle.hs_typer.specs.Origins.{objects_agree, lists_agree_by, lists_agree_within, lists_agree, agree_by, agree}
use Rattle.hs_typer.specs.declared.origins.Origins.{Origins}
use Rattle.hs_types.specs.TypeTables.{TypeTable, row_of, Grows}
use Rattle.hs_types.specs.declared.row.ListId.{ListId}
use Rattle.hs_types.specs.declared.row.Parameters.{Parameters}
use Rattle.hs_types.specs.declared.row.Parameters.TheVariants.{Empty, More}
use Rattle.hs_types.specs.declared.row.Row.{Row}
use Rattle.hs_types.specs.declared.row.Row.TheVariants as row
use Rattle.hs_types.specs.declared.row.TypeId.{TypeId}

module _ (old : TypeTable) (o : Origins) where
  -- two types of objects agree
  abbrev pub Agreed : TypeId → TypeId → Type 0
  Agreed a b = objects_agree old o a b ≡ true

  -- the parameters of both lists
  abbrev AgreedLists : ListId → ListId → Type 0
  AgreedLists list other = (its : List TypeId) × (others : List TypeId) × IsList old list its × IsList old other others × AllBy Agreed its others

  -- by the first entries of both
  lists_by : (rest : ListId → ListId → Bool) (list other : ListId) (x y : Option Parameters) → slice_get old.lists list.number ≡ x
      → slice_get old.lists other.number ≡ y → ((a b : ListId) → rest a b ≡ true → AgreedLists a b)
      → lists_agree_by rest old o x y ≡ true → AgreedLists list other
  lists_by rest list other None y known known' after is = absurd cc
  lists_by rest list other (Some Empty) None known known' after is = absurd cc
  lists_by rest list other (Some Empty) (Some Empty) known known' after is = ([], [], known, known', tt)
  lists_by rest list other (Some Empty) (Some (More b others)) known known' after is = absurd cc
  lists_by rest list other (Some (More a more)) None known known' after is = absurd cc
  lists_by rest list other (Some (More a more)) (Some Empty) known known' after is = absurd cc
  lists_by rest list other (Some (More a more)) (Some (More b others)) known known' after is =
      let tests : (objects_agree old o a b ≡ true) × (rest more others ≡ true) = both_tests (objects_agree old o a b) (rest more others) is in
      let behind : AgreedLists more others = after more others tests.1 in
      (a ∷ behind.0, b ∷ behind.1, (more, known, behind.2), (others, known', behind.3), (tests.0, behind.4))

  -- with so many turns
  lists_within : (count : ℕ) (list other : ListId) → lists_agree_within count old o list other ≡ true → AgreedLists list other
  lists_within zero list other is = absurd cc
  lists_within (suc count) list other is =
      lists_by (lists_agree_within count old o) list other (slice_get old.lists list.number) (slice_get old.lists other.number) refl refl
      (lists_within count) is

-- each pair, by what is known of each
pairs_so : (P : TypeId → Type 0) (alike other : TypeId → TypeId → Type 0) → ((a b : TypeId) → P a → P b → alike a b → other a b)
    → (ids others : List TypeId) → AllByRecursion P ids → AllByRecursion P others → AllBy alike ids others → AllBy other ids others
pairs_so P alike other so [] [] are are' pairs = tt
pairs_so P alike other so [] (b ∷ others) are are' pairs = absurd pairs
pairs_so P alike other so (a ∷ ids) [] are are' pairs = absurd pairs
pairs_so P alike other so (a ∷ ids) (b ∷ others) are are' pairs =
    (so a b are.0 are'.0 pairs.0, pairs_so P alike other so ids others are.1 are'.1 pairs.1)

-- the results and the parameters of a type meet a fact
abbrev pub HasSigned : (TypeId → Type 0) → TypeTable → TypeId → Type 0
HasSigned P types id = (its : List TypeId) (gives : TypeId) → IsSignature types id its gives → AllByRecursion P its × P gives

-- of two rows, both of functions, or not
BothFunctions : TypeTable → Origins → Option Row → Option Row → Type 0
BothFunctions old o x y =
    (result : TypeId) × (list : ListId) × (result' : TypeId) × (list' : ListId) × (x ≡ Some (row.Function result list))
    × (y ≡ Some (row.Function result' list')) × ((objects_agree old o result result' && lists_agree old o list list') ≡ true)

-- one of the two
functions_or : (old : TypeTable) (o : Origins) (objects : Bool) (x y : Option Row) → agree_by old o objects x y ≡ true
    → BothFunctions old o x y ⊎ (objects ≡ true)
unfolding BothFunctions
functions_or old o objects None y is = inr is
functions_or old o objects (Some row.Void) y is = inr is
functions_or old o objects (Some (row.Integer kind)) y is = inr is
functions_or old o objects (Some (row.Pointer of)) y is = inr is
functions_or old o objects (Some (row.Enumeration number)) y is = inr is
functions_or old o objects (Some (row.Struct number)) y is = inr is
functions_or old o objects (Some (row.Array of size layout)) y is = inr is
functions_or old o objects (Some (row.OpenArray of)) y is = inr is
functions_or old o objects (Some (row.Function result list)) None is = inr is
functions_or old o objects (Some (row.Function result list)) (Some row.Void) is = inr is
functions_or old o objects (Some (row.Function result list)) (Some (row.Integer kind)) is = inr is
functions_or old o objects (Some (row.Function result list)) (Some (row.Pointer of)) is = inr is
functions_or old o objects (Some (row.Function result list)) (Some (row.Enumeration number)) is = inr is
functions_or old o objects (Some (row.Function result list)) (Some (row.Struct number)) is = inr is
functions_or old o objects (Some (row.Function result list)) (Some (row.Array of size layout)) is = inr is
functions_or old o objects (Some (row.Function result list)) (Some (row.OpenArray of)) is = inr is
functions_or old o objects (Some (row.Function result list)) (Some (row.Function result' list')) is =
    inl (result, list, result', list', refl, refl, is)

module _ (P : TypeId → Type 0) (alike : TypeId → TypeId → Type 0) (self : (id : TypeId) → alike id id)
    (turned : (a b : TypeId) → alike a b → alike b a) (old types : TypeTable) (o : Origins) (grows : Grows old types)
    (so : (a b : TypeId) → P a → P b → objects_agree old o a b ≡ true → alike a b) where
  -- two function types
  both_signed : (a b : TypeId) → HasSigned P types a → HasSigned P types b → BothFunctions old o (row_of old a) (row_of old b) → SameBy alike types a b
  unfolding BothFunctions
  both_signed a b has has' (result, list, result', list', known, known', is) =
      let tests : (objects_agree old o result result' ≡ true) × (lists_agree old o list list' ≡ true)
      = both_tests (objects_agree old o result result') (lists_agree old o list list') is in
      let agreed = lists_within old o (suc list.number) list list' tests.1 in
      let one : IsSignature types a agreed.0 result
      = (list, grows.rows a.number (row.Function result list) known, list_stays old types grows list agreed.0 agreed.2) in
      let other : IsSignature types b agreed.1 result'
      = (list', grows.rows b.number (row.Function result' list') known', list_stays old types grows list' agreed.1 agreed.3) in
      let are = has agreed.0 result one in
      let are' = has' agreed.1 result' other in
      let pairs : AllBy alike agreed.0 agreed.1 = pairs_so P (Agreed old o) alike so agreed.0 agreed.1 are.0 are'.0 agreed.4 in
      let results : alike result result' = so result result' are.1 are'.1 tests.0 in
      record {
        there = λ its gives signed.
            let same = same_signature types a agreed.0 its result gives one signed in
            subst (λ gives. IsLikeBy alike types b its gives) same.1
            (subst (λ its. IsLikeBy alike types b its result) same.0
            (agreed.1, (result', other, all_turned alike turned agreed.0 agreed.1 pairs, turned result result' results)));
        back = λ its gives signed.
            let same = same_signature types b agreed.1 its result' gives other signed in
            subst (λ gives. IsLikeBy alike types a its gives) same.1
            (subst (λ its. IsLikeBy alike types a its result') same.0 (agreed.0, (result, one, pairs, results)));
      }

  -- two types of which one is no function
  objects_signed : (a b : TypeId) → objects_agree old o a b ≡ true → SameBy alike types a b
  objects_signed a b is = by_rows (within_objects old o a.number a b is)
    where
      by_rows : AreOneOrObjects old a b → SameBy alike types a b
      by_rows (inl same) = subst (SameBy alike types a) same (same_self alike types self a)
      by_rows (inr (its, is, is', no_function)) =
          record {
            there = λ parameters result signed.
                absurd (no_signature old types grows a its parameters result is no_function signed);
            back = λ parameters result signed.
                absurd (no_signature old types grows b its parameters result is' no_function signed);
          }

  -- Function types that agree have results and parameters that are alike.
  pub agree_signatures : (a b : TypeId) → HasSigned P types a → HasSigned P types b → agree old o a b ≡ true → SameBy alike types a b
  agree_signatures a b has has' is = by_rows (functions_or old o (objects_agree old o a b) (row_of old a) (row_of old b) is)
    where
      by_rows : BothFunctions old o (row_of old a) (row_of old b) ⊎ (objects_agree old o a b ≡ true) → SameBy alike types a b
      by_rows (inl both) = both_signed a b has has' both
      by_rows (inr objects) = objects_signed a b objects
