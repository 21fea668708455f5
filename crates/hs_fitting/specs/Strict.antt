-- Types of one object or function, by where their structs come from (X3.159-1989 3.1.2.6, and own).
--     SameBy alike types a b       two function types have results and parameters that are `alike`
--     AreStrict o types a b        types of one category, and of one struct or of two with one brace
--     AreClosed base structs o types a b     or two structs of earlier units that do not both have bodies
--     strict_later, closed_later   so it is at a later place of the text
use Rattle.std.proofs.Common.{◌≡◌, ◌<◌, ◌⊎◌, inl, inr, ℕ, List, [], ◌∷◌, Option, Some, None, refl, sym, ap, subst, ◌∙◌}
use Rattle.std.specs.Prelude.{slice_get, is_some, IsTrue}
use Rattle.hs_expressions.specs.Binding.{AllBy, IsLikeBy, IsSignature}
use Rattle.hs_expressions.specs.Laws.Traced.{HasBodyIn, HasBrace, Traces}
use Rattle.hs_fitting.specs.Sameness.{one_number}
use Rattle.hs_tree.specs.Kinds.{AreAlike, of_struct, category_of_row}
use Rattle.hs_typer.specs.declared.origins.Brace.{Brace}
use Rattle.hs_typer.specs.declared.origins.Origin.{Origin}
use Rattle.hs_typer.specs.declared.origins.Origins.{Origins}
use Rattle.hs_types.specs.TypeTables.{TypeTable, row_of, body_in}
use Rattle.hs_types.specs.declared.body.Body.{Body}
use Rattle.hs_types.specs.declared.row.Row.{Row}
use Rattle.hs_types.specs.declared.row.Row.TheVariants as row
use Rattle.hs_types.specs.declared.row.TypeId.{TypeId}

-- ---- two function types

-- Whatever is a signature of one is `alike` to one of the other.
pub record SameBy (alike : TypeId → TypeId → Type 0) (types : TypeTable) (a b : TypeId) : Type 0 where
  pub there : (its : List TypeId) (gives : TypeId) → IsSignature types a its gives → IsLikeBy alike types b its gives
  pub back : (its : List TypeId) (gives : TypeId) → IsSignature types b its gives → IsLikeBy alike types a its gives

module _ (alike : TypeId → TypeId → Type 0) where
  pub all_self : ((id : TypeId) → alike id id) → (ids : List TypeId) → AllBy alike ids ids
  all_self self [] = tt
  all_self self (id ∷ ids) = (self id, all_self self ids)

  -- the other way round
  pub all_turned : ((a b : TypeId) → alike a b → alike b a) → (ids others : List TypeId) → AllBy alike ids others → AllBy alike others ids
  all_turned turned [] [] are = tt
  all_turned turned [] (other ∷ others) are = absurd are
  all_turned turned (id ∷ ids) [] are = absurd are
  all_turned turned (id ∷ ids) (other ∷ others) are = (turned id other are.0, all_turned turned ids others are.1)

  -- one after another
  pub all_then : ((a b c : TypeId) → alike a b → alike b c → alike a c) → (ids others thirds : List TypeId) → AllBy alike ids others
      → AllBy alike others thirds → AllBy alike ids thirds
  all_then onward [] [] thirds are are' = are'
  all_then onward [] (other ∷ others) thirds are are' = absurd are
  all_then onward (id ∷ ids) [] thirds are are' = absurd are
  all_then onward (id ∷ ids) (other ∷ others) [] are are' = absurd are'
  all_then onward (id ∷ ids) (other ∷ others) (third ∷ thirds) are are' =
      (onward id other third are.0 are'.0, all_then onward ids others thirds are.1 are'.1)

-- what follows for each pair
pub all_alike_so : (alike other : TypeId → TypeId → Type 0) → ((a b : TypeId) → alike a b → other a b) → (ids others : List TypeId)
    → AllBy alike ids others → AllBy other ids others
all_alike_so alike other so [] [] are = tt
all_alike_so alike other so [] (b ∷ others) are = absurd are
all_alike_so alike other so (a ∷ ids) [] are = absurd are
all_alike_so alike other so (a ∷ ids) (b ∷ others) are = (so a b are.0, all_alike_so alike other so ids others are.1)

module _ (alike : TypeId → TypeId → Type 0) (types : TypeTable) where
  pub same_self : ((id : TypeId) → alike id id) → (a : TypeId) → SameBy alike types a a
  same_self self a =
      record {
        there = λ its gives is. (its, (gives, is, all_self alike self its, self gives));
        back = λ its gives is. (its, (gives, is, all_self alike self its, self gives));
      }

  -- the other way round
  pub same_turned : (a b : TypeId) → SameBy alike types a b → SameBy alike types b a
  same_turned a b is = record { there = is.back; back = is.there }

  -- one way
  likes_then : ((a b c : TypeId) → alike a b → alike b c → alike a c) → (b c : TypeId)
      → ((its : List TypeId) (gives : TypeId) → IsSignature types b its gives → IsLikeBy alike types c its gives) → (its : List TypeId) (gives : TypeId)
      → IsLikeBy alike types b its gives → IsLikeBy alike types c its gives
  likes_then onward b c next its gives like =
      let further : IsLikeBy alike types c like.0 like.1.0 = next like.0 like.1.0 like.1.1 in (
        further.0,
        (
          further.1.0,
          further.1.1,
          all_then alike onward further.0 like.0 its further.1.2 like.1.2,
          onward further.1.0 like.1.0 gives further.1.3 like.1.3,
        ),
      )

  -- one after another
  pub same_then : ((a b c : TypeId) → alike a b → alike b c → alike a c) → (a b c : TypeId) → SameBy alike types a b → SameBy alike types b c
      → SameBy alike types a c
  same_then onward a b c first second =
      record {
        there = λ its gives is. likes_then onward b c second.there its gives (first.there its gives is);
        back = λ its gives is. likes_then onward b a first.back its gives (second.back its gives is);
      }

-- what follows
pub same_so : (alike other : TypeId → TypeId → Type 0) (types : TypeTable) → ((a b : TypeId) → alike a b → other a b) → (a b : TypeId)
    → SameBy alike types a b → SameBy other types a b
same_so alike other types so a b is =
    record {
      there = λ its gives has. like_so b its gives (is.there its gives has);
      back = λ its gives has. like_so a its gives (is.back its gives has);
    }
  where
    like_so : (id : TypeId) (its : List TypeId) (gives : TypeId) → IsLikeBy alike types id its gives → IsLikeBy other types id its gives
    like_so id its gives like =
        (like.0, (like.1.0, like.1.1, all_alike_so alike other so like.0 its like.1.2, so like.1.0 gives like.1.3))

-- ---- two types of objects

-- one struct, or two with one brace
abbrev pub AreOneIn : Origins → ℕ → ℕ → Type 0
AreOneIn o m n = (m ≡ n) ⊎ ((brace : Brace) × HasBrace o m brace × HasBrace o n brace)

-- types of one category, and of such structs
pub record AreStrict (o : Origins) (types : TypeTable) (a b : TypeId) : Type 0 where
  pub alike : AreAlike types a b
  pub structs : (m n : ℕ) → row_of types a ≡ Some (row.Struct m) → row_of types b ≡ Some (row.Struct n) → AreOneIn o m n

-- two structs of earlier units that do not both have bodies
abbrev pub AreApart : ℕ → List (Option Body) → ℕ → ℕ → Type 0
AreApart base structs m n = (m < base) × (n < base) × (HasBodyIn structs m → HasBodyIn structs n → ⊥)

-- types of one category, and of structs that are one, or are not both complete
pub record AreClosed (base : ℕ) (structs : List (Option Body)) (o : Origins) (types : TypeTable) (a b : TypeId) : Type 0 where
  pub alike : AreAlike types a b
  pub apart : (m n : ℕ) → row_of types a ≡ Some (row.Struct m) → row_of types b ≡ Some (row.Struct n)
      → AreOneIn o m n ⊎ AreApart base structs m n

-- one struct has one brace
one_brace : (o : Option Origin) (x y : Origin) (a b : Brace) → o ≡ Some x → o ≡ Some y → x.brace ≡ Some a → y.brace ≡ Some b → a ≡ b
one_brace o x y a b is is' has has' =
    let same : x ≡ y = cc in
    let braces : Some a ≡ Some b = sym has ∙ ap (λ it. it.brace) same ∙ has' in cc

-- a type of the category of structs
struct_row : (o : Option Row) → category_of_row o ≡ Some of_struct → (n : ℕ) × (o ≡ Some (row.Struct n))
struct_row None is = absurd cc
struct_row (Some row.Void) is = absurd cc
struct_row (Some (row.Integer kind)) is = absurd cc
struct_row (Some (row.Pointer of)) is = absurd cc
struct_row (Some (row.Enumeration number)) is = absurd cc
struct_row (Some (row.Struct number)) is = (number, refl)
struct_row (Some (row.Array of size layout)) is = absurd cc
struct_row (Some (row.OpenArray of)) is = absurd cc
struct_row (Some (row.Function result list)) is = absurd cc

-- of one category with a struct
pub struct_alike : (types : TypeTable) (a b : TypeId) (m : ℕ) → AreAlike types a b → row_of types a ≡ Some (row.Struct m)
    → (n : ℕ) × (row_of types b ≡ Some (row.Struct n))
struct_alike types a b m alike at = struct_row (row_of types b) (sym alike ∙ ap category_of_row at)

module _ (o : Origins) where
  pub in_turned : (m n : ℕ) → AreOneIn o m n → AreOneIn o n m
  in_turned m n (inl same) = inl (sym same)
  in_turned m n (inr has) = inr (has.0, has.2, has.1)

  -- one after another
  pub in_then : (m n k : ℕ) → AreOneIn o m n → AreOneIn o n k → AreOneIn o m k
  in_then m n k (inl same) second = subst (λ n. AreOneIn o n k) (sym same) second
  in_then m n k (inr has) (inl same) = inr (has.0, has.1, subst (λ n. HasBrace o n has.0) same has.2)
  in_then m n k (inr has) (inr has') =
      let same : has.0 ≡ has'.0
      = one_brace (slice_get o.structs n) has.2.0 has'.1.0 has.0 has'.0 has.2.1 has'.1.1 has.2.2 has'.1.2 in
      inr (has'.0, subst (HasBrace o m) same has.1, has'.2)

  module _ (types : TypeTable) where
    pub strict_self : (id : TypeId) → AreStrict o types id id
    strict_self id = record { alike = refl; structs = λ m n at at'. inl (one_number (row_of types id) m n at at') }

    pub strict_turned : (a b : TypeId) → AreStrict o types a b → AreStrict o types b a
    strict_turned a b is = record { alike = sym is.alike; structs = λ m n at at'. in_turned n m (is.structs n m at' at) }

    pub strict_then : (a b c : TypeId) → AreStrict o types a b → AreStrict o types b c → AreStrict o types a c
    strict_then a b c first second =
        record {
          alike = first.alike ∙ second.alike;
          structs = λ m n at at'.
              let mid = struct_alike types a b m first.alike at in
              in_then m mid.0 n (first.structs m mid.0 at mid.1) (second.structs mid.0 n mid.1 at');
        }

    pub closed_self : (base : ℕ) (structs : List (Option Body)) (id : TypeId) → AreClosed base structs o types id id
    closed_self base structs id = record { alike = refl; apart = λ m n at at'. inl (inl (one_number (row_of types id) m n at at')) }

    pub closed_turned : (base : ℕ) (structs : List (Option Body)) (a b : TypeId) → AreClosed base structs o types a b
        → AreClosed base structs o types b a
    closed_turned base structs a b is =
        record { alike = sym is.alike; apart = λ m n at at'. turned m n (is.apart n m at' at) }
      where
        turned : (m n : ℕ) → AreOneIn o n m ⊎ AreApart base structs n m → AreOneIn o m n ⊎ AreApart base structs m n
        turned m n (inl one) = inl (in_turned n m one)
        turned m n (inr apart) = inr (apart.1, apart.0, λ has has'. apart.2 has' has)

-- ---- at a later place of the text

module _ (base : ℕ) (structs later : List (Option Body)) (o o' : Origins) (traces : Traces base structs o later o') where
  in_later : (m n : ℕ) → AreOneIn o m n → AreOneIn o' m n
  in_later m n (inl same) = inl same
  in_later m n (inr has) = inr (has.0, traces.braces m has.0 has.1, traces.braces n has.0 has.2)

  -- So two types stay.
  pub strict_later : (types : TypeTable) (a b : TypeId) → AreStrict o types a b → AreStrict o' types a b
  strict_later types a b is = record { alike = is.alike; structs = λ m n at at'. in_later m n (is.structs m n at at') }

  -- And so do these.
  pub closed_later : (types : TypeTable) (a b : TypeId) → AreClosed base structs o types a b → AreClosed base later o' types a b
  closed_later types a b is = record { alike = is.alike; apart = λ m n at at'. either m n (is.apart m n at at') }
    where
      still : (k : ℕ) → k < base → HasBodyIn later k → HasBodyIn structs k
      still k less has = subst (λ its. IsTrue (is_some (body_in its))) (traces.closed k less) has

      either : (m n : ℕ) → AreOneIn o m n ⊎ AreApart base structs m n → AreOneIn o' m n ⊎ AreApart base later m n
      either m n (inl one) = inl (in_later m n one)
      either m n (inr apart) =
          inr (apart.0, apart.1, λ has has'. apart.2 (still m apart.0 has) (still n apart.1 has'))
