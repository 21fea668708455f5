-- What is found in the lists that names are looked up in, as more is declared (X3.159-1989 3.1.2.2).
--     place_found, place_there                what is at the first place that meets a test
--     link_found, link_here, link_either      what a name is linked to
--     IsThere name its, external_there, external_stays, external_all      declarations with external linkage
use Rattle.std.proofs.Common.{◌≡◌, ℕ, zero, suc, Bool, true, false, List, [], ◌∷◌, slice_get, Option, Some, None, IsTrue, is_some, refl, sym, subst, if◌then◌else◌}
use Rattle.std.specs.Cmp.Lexicographic.{nat_list_eq_equiv, same_text}
use Rattle.std.specs.List.{AllByRecursion}
use Rattle.hs_base.specs.Options.{some_same}
use Rattle.hs_linkage.specs.Definitions.{same_name, first_place, later}
use Rattle.hs_linkage.specs.Externals.{newest_external, external_of, says_same, with_external}
use Rattle.hs_linkage.specs.declared.externals.External.{External}
use Rattle.hs_names.specs.Scopes.{Scoped, Declared, newest, entity_of, find, declared}
use Rattle.hs_syntax.specs.declared.word.Word.{Word}
use Rattle.hs_typer.specs.declared.marks.Mark.{Mark}
use Rattle.hs_typer.specs.declared.typer.Entity.{Entity}

-- ---- names

-- one text
pub same_texts : (a b : List ℕ) → same_name a b ≡ true → a ≡ b
same_texts a b is = same_text a b (sym is)

-- a text is itself
pub same_self : (name : List ℕ) → same_name name name ≡ true
same_self name = nat_list_eq_equiv.refl name

-- ---- what is found in a list

module _ {A : Type 0} (test : A → Bool) where
  -- by the first one
  found_if : (first : A) (rest : List A) (n : ℕ) (it : A) (b : Bool) (o : Option ℕ) → test first ≡ b
      → ((k : ℕ) → o ≡ Some k → slice_get rest k ≡ Some it → test it ≡ true) → (if b then Some 0 else later o) ≡ Some n
      → slice_get (first ∷ rest) n ≡ Some it → test it ≡ true
  found_if first rest zero it true o is behind found at = subst (λ its. test its ≡ true) (some_same first it at) is
  found_if first rest (suc n) it true o is behind found at = absurd cc
  found_if first rest n it false None is behind found at = absurd cc
  found_if first rest zero it false (Some k) is behind found at = absurd cc
  found_if first rest (suc n) it false (Some k) is behind found at =
      behind k refl (subst (λ its. slice_get rest its ≡ Some it) (same_place n k found) at)
    where
      same_place : (n k : ℕ) → Some (suc k) ≡ Some (suc n) → n ≡ k
      same_place n k same = cc

  -- what is at the place of the first one that meets a test
  pub place_found : (its : List A) (n : ℕ) (it : A) → first_place test its ≡ Some n → slice_get its n ≡ Some it → test it ≡ true
  place_found [] n it found at = absurd cc
  place_found (first ∷ rest) n it found at =
      found_if first rest n it (test first) (first_place test rest) refl (λ k found at. place_found rest k it found at) found at

  -- it is there
  place_if : (first : A) (rest : List A) (n : ℕ) (b : Bool) (o : Option ℕ)
      → ((k : ℕ) → o ≡ Some k → (it : A) × (slice_get rest k ≡ Some it)) → (if b then Some 0 else later o) ≡ Some n
      → (it : A) × (slice_get (first ∷ rest) n ≡ Some it)
  place_if first rest zero true o behind found = (first, refl)
  place_if first rest (suc n) true o behind found = absurd cc
  place_if first rest n false None behind found = absurd cc
  place_if first rest zero false (Some k) behind found = absurd cc
  place_if first rest (suc n) false (Some k) behind found = behind n (same_place k n found)
    where
      same_place : (k n : ℕ) → Some (suc k) ≡ Some (suc n) → Some k ≡ Some n
      same_place k n same = cc

  -- there is something at the place
  pub place_there : (its : List A) (n : ℕ) → first_place test its ≡ Some n → (it : A) × (slice_get its n ≡ Some it)
  place_there [] n found = absurd cc
  place_there (first ∷ rest) n found =
      place_if first rest n (test first) (first_place test rest) (λ k found. place_there rest k found) found

module _ {E : Type 0} where
  -- what a name means is declared
  link_if : (holds : Declared E → Type 0) (name : List ℕ) (it : Declared E) (made : E) (b : Bool) (o : Option (Declared E))
      → same_name it.name name ≡ b → holds it → (entity_of o ≡ Some made → (found : Declared E) × holds found × (found.name ≡ name) × (found.entity ≡ made))
      → entity_of (if b then Some it else o) ≡ Some made → (found : Declared E) × holds found × (found.name ≡ name) × (found.entity ≡ made)
  link_if holds name it made true o same is behind found = (it, is, same_texts it.name name same, some_same it.entity made found)
  link_if holds name it made false o same is behind found = behind found

  -- among all that are declared
  pub link_found : (holds : Declared E → Type 0) (name : List ℕ) (its : List (Declared E)) (made : E) → AllByRecursion holds its
      → entity_of (newest name its) ≡ Some made → (it : Declared E) × holds it × (it.name ≡ name) × (it.entity ≡ made)
  link_found holds name [] made are found = absurd cc
  link_found holds name (it ∷ rest) made are found =
      link_if holds name it made (same_name it.name name) (newest name rest) refl are.0 (link_found holds name rest made are.1) found

  -- the new one
  here_if : (b : Bool) (it : Declared E) (o : Option (Declared E)) → b ≡ true → entity_of (if b then Some it else o) ≡ Some it.entity
  here_if true it o is = refl
  here_if false it o is = absurd cc

  -- what is declared is found
  pub link_here : (name : List ℕ) (it : E) (scopes : Scoped E) → find name (declared name it scopes) ≡ Some it
  link_here name it scopes =
      here_if (same_name name name) (record { name = name; entity = it; level = scopes.level }) (newest name scopes.declarations) (same_self name)

  -- either it or an older one
  either_if : (P : Option E → Type 0) (b : Bool) (it : Declared E) (o : Option (Declared E)) → (b ≡ true → P (Some it.entity)) → P (entity_of o)
      → P (entity_of (if b then Some it else o))
  either_if P true it o is old = is refl
  either_if P false it o is old = old

  -- a fact of what is found
  pub link_either : (P : Option E → Type 0) (name other : List ℕ) (it : E) (scopes : Scoped E) → (name ≡ other → P (Some it))
      → P (find other scopes) → P (find other (declared name it scopes))
  link_either P name other it scopes is old =
      either_if P (same_name name other) (record { name = name; entity = it; level = scopes.level }) (newest other scopes.declarations)
      (λ same. is (same_texts name other same)) old

-- ---- declarations with external linkage

-- A declaration was made.
abbrev pub IsThere : List ℕ → List External → Type 0
IsThere name its = IsTrue (is_some (newest_external name its))

module _ (word : Word) (unit : ℕ) (mark : Mark) (it : Entity) where
  -- it is the newest one, or it is as the newest one
  newest_if : (its : List External) (b : Bool) → says_same (newest_external word.text its) it ≡ b
      → IsThere word.text (if b then its else external_of word unit mark it ∷ its)
  newest_if its true is = old (newest_external word.text its) is
    where
      old : (o : Option Entity) → says_same o it ≡ true → IsTrue (is_some o)
      old None is = absurd cc
      old (Some other) is = refl
  newest_if its false is = first (same_name word.text word.text) (newest_external word.text its) (same_self word.text)
    where
      first : (b : Bool) (o : Option Entity) → b ≡ true → IsTrue (is_some (if b then Some it else o))
      first true o is = refl
      first false o is = absurd cc

  -- so it is there
  pub external_there : (its : List External) → IsThere word.text (with_external word unit mark it its)
  external_there its = newest_if its (says_same (newest_external word.text its) it) refl

  -- others are still there
  stays_if : (name : List ℕ) (its : List External) (b : Bool) → IsThere name its → IsThere name (if b then its else external_of word unit mark it ∷ its)
  stays_if name its true is = is
  stays_if name its false is = behind (same_name word.text name) (newest_external name its) is
    where
      behind : (b : Bool) (o : Option Entity) → IsTrue (is_some o) → IsTrue (is_some (if b then Some it else o))
      behind true o is = refl
      behind false o is = is

  -- other names
  pub external_stays : (name : List ℕ) (its : List External) → IsThere name its → IsThere name (with_external word unit mark it its)
  external_stays name its is = stays_if name its (says_same (newest_external word.text its) it) is

  -- what is so of all, and of it
  all_if : (holds : External → Type 0) (its : List External) (b : Bool) → holds (external_of word unit mark it) → AllByRecursion holds its
      → AllByRecursion holds (if b then its else external_of word unit mark it ∷ its)
  all_if holds its true is are = are
  all_if holds its false is are = (is, are)

  -- where it is new
  pub external_all : (holds : External → Type 0) (its : List External) → holds (external_of word unit mark it) → AllByRecursion holds its
      → AllByRecursion holds (with_external word unit mark it its)
  external_all holds its is are = all_if holds its (says_same (newest_external word.text its) it) is are
