-- The first struct of each tag, with one struct more, and with a body more.
--     added_first, added_whole      with a struct that has no body yet
--     whole_first, whole_least      with a body more
use Rattle.std.proofs.Common.{◌≡◌, ◌≤◌, ℕ, zero, suc, ◌+◌, Bool, true, false, not, ◌&&◌, ◌||◌, List, [], ◌∷◌, ◌++◌, length, Option, Some, None, refl, sym, ap, subst, ◌∙◌, if◌then◌else◌, arith}
use Rattle.std.proofs.lemmas.Bool.Decides.{nat_tests}
use Rattle.std.specs.Cmp.Lexicographic.{pointwise}
use Rattle.std.specs.Prelude.{nat_eq, nat_le, slice_get, slice_set}
use Rattle.hs_base.specs.Options.{or_else}
use Rattle.hs_index.specs.Index.{at}
use Rattle.hs_typer.specs.Tags.{are_one_tag, new_origin, whole_at, is_tagged, tagged, Places, IsByTag, outer_name, name_in, least, PutsFirst, PutsLeast}
use Rattle.hs_typer.specs.declared.origins.Brace.{Brace}
use Rattle.hs_typer.specs.declared.origins.Origin.{Origin}

-- numbers
one_on : (a b : ℕ) → a + suc b ≡ suc a + b
one_on a b = omega arith

none_on : (a : ℕ) → a + 0 ≡ a
none_on a = omega arith

none_before : (a : ℕ) → 0 + a ≡ a
none_before a = omega arith

-- ---- one struct more

-- the first one of two lists
tagged_append : (whole : Bool) (name : List ℕ) (k : ℕ) (its : List Origin) (it : Origin)
    → tagged whole name k (its ++ it ∷ []) ≡ or_else (tagged whole name k its) (if is_tagged whole name it then Some (k + length its) else None)
tagged_append whole name k [] it = ap (λ n. if is_tagged whole name it then Some n else None) (sym (none_on k))
tagged_append whole name k (x ∷ its) it =
    by_first (is_tagged whole name x)
    (tagged_append whole name (suc k) its it
    ∙ ap (λ n. or_else (tagged whole name (suc k) its) (if is_tagged whole name it then Some n else None)) (sym (one_on k (length its))))
  where
    by_first : (b : Bool) → tagged whole name (suc k) (its ++ it ∷ [])
        ≡ or_else (tagged whole name (suc k) its) (if is_tagged whole name it then Some (k + suc (length its)) else None)
        → (if b then Some k else tagged whole name (suc k) (its ++ it ∷ []))
        ≡ or_else (if b then Some k else tagged whole name (suc k) its) (if is_tagged whole name it then Some (k + suc (length its)) else None)
    by_first true behind = refl
    by_first false behind = behind

-- nothing more
or_none : (o : Option ℕ) → or_else o None ≡ o
or_none None = refl
or_none (Some it) = refl

-- a struct without its body is no first one that has it
not_whole : (a b : Bool) → (a && b && (not true || false)) ≡ false
not_whole true true = refl
not_whole true false = refl
not_whole false b = refl

-- the index of those that have their bodies
pub added_whole : (its : List Origin) (outer : Bool) (tag : Option (List ℕ)) (unit : ℕ) (places : Places) → IsByTag true its places
    → IsByTag true (its ++ new_origin outer tag unit ∷ []) places
added_whole its outer tag unit places is name =
    is name
    ∙ sym (tagged_append true name 0 its (new_origin outer tag unit)
    ∙ ap (λ b. or_else (tagged true name 0 its) (if b then Some (0 + length its) else None)) (not_whole outer (are_one_tag tag (Some name)))
    ∙ or_none (tagged true name 0 its))

-- a tag that is asked for
either_tag : (outer : Bool) (tag : Option (List ℕ)) (name : List ℕ) (count : ℕ) (places more : Places) → PutsFirst (outer_name outer tag) count places more
    → at name more ≡ or_else (at name places) (if outer && are_one_tag tag (Some name) && (not false || false) then Some count else None)
either_tag false tag name count places more puts = ap (at name) puts ∙ sym (or_none (at name places))
either_tag true None name count places more puts = ap (at name) puts ∙ sym (or_none (at name places))
either_tag true (Some it) name count places more puts =
    puts name ∙ by_test (pointwise nat_eq it name)
  where
    by_test : (b : Bool) → or_else (at name places) (if b then Some count else None)
        ≡ or_else (at name places) (if true && b && (not false || false) then Some count else None)
    by_test true = refl
    by_test false = refl

-- the index of all of them
pub added_first : (its : List Origin) (outer : Bool) (tag : Option (List ℕ)) (unit count : ℕ) (places more : Places) → count ≡ length its
    → IsByTag false its places → PutsFirst (outer_name outer tag) count places more → IsByTag false (its ++ new_origin outer tag unit ∷ []) more
added_first its outer tag unit count places more counted is puts name =
    either_tag outer tag name count places more puts
    ∙ ap (λ o. or_else o (if is_tagged false name (new_origin outer tag unit) then Some count else None)) (is name)
    ∙ ap (λ n. or_else (tagged false name 0 its) (if is_tagged false name (new_origin outer tag unit) then Some n else None))
    (counted ∙ sym (none_before (length its)))
    ∙ sym (tagged_append false name 0 its (new_origin outer tag unit))

-- ---- a body more

-- it has the tag at file scope
has_tag : List ℕ → Origin → Bool
has_tag name it = it.outer && are_one_tag it.tag (Some name)

-- the lesser of two places, if the second one counts
abbrev lesser : Bool → Option ℕ → ℕ → Option ℕ
lesser b o number = if b then Some (least o number) else o

-- found from some number on
tagged_from : (whole : Bool) (name : List ℕ) (k : ℕ) (its : List Origin) (m : ℕ) → tagged whole name k its ≡ Some m → k ≤ m
tagged_from whole name k [] m is = absurd cc
tagged_from whole name k (x ∷ its) m is = by_first (is_tagged whole name x) (λ is. tagged_from whole name (suc k) its m is) is
  where
    same : (a b : ℕ) → Some a ≡ Some b → a ≤ b
    same a b is = let one : a ≡ b = cc in omega (arith, one)

    less : (a b : ℕ) → suc a ≤ b → a ≤ b
    less a b is = omega (arith, is)

    by_first : (b : Bool) → (tagged whole name (suc k) its ≡ Some m → suc k ≤ m) → (if b then Some k else tagged whole name (suc k) its) ≡ Some m
        → k ≤ m
    by_first true behind is = same k m is
    by_first false behind is = less k m (behind is)

-- the first number is the least
least_first : (k : ℕ) (o : Option ℕ) → ((m : ℕ) → o ≡ Some m → suc k ≤ m) → least o k ≡ k
least_first k None from = refl
least_first k (Some m) from = by_test (nat_le m k) refl
  where
    by_test : (b : Bool) → nat_le m k ≡ b → (if b then m else k) ≡ k
    by_test true is = absurd (grind (arith, nat_tests, is, from m refl))
    by_test false is = refl

least_self : (k n : ℕ) → least (Some k) (k + n) ≡ k
least_self k n = by_test (nat_le k (k + n)) refl
  where
    by_test : (b : Bool) → nat_le k (k + n) ≡ b → (if b then k else k + n) ≡ k
    by_test true is = refl
    by_test false is = absurd (grind (arith, nat_tests, is))

-- at the place of the body
set_here : (a b w : Bool) (k : ℕ) (rest : Option ℕ) → ((m : ℕ) → rest ≡ Some m → suc k ≤ m)
    → (if a && b && (not true || true) then Some k else rest) ≡ lesser (a && b) (if a && b && (not true || w) then Some k else rest) (k + 0)
set_here true true true k rest from = ap Some (sym (least_self k 0))
set_here true true false k rest from = ap Some (sym (ap (least rest) (none_on k) ∙ least_first k rest from))
set_here true false w k rest from = refl
set_here false b w k rest from = refl

-- in front of it
set_behind : (b t : Bool) (k n : ℕ) (set rest : Option ℕ) → set ≡ lesser t rest (k + suc n)
    → (if b then Some k else set) ≡ lesser t (if b then Some k else rest) (k + suc n)
set_behind true true k n set rest is = ap Some (sym (least_self k (suc n)))
set_behind true false k n set rest is = refl
set_behind false t k n set rest is = is

-- the first one that has its body
set_whole : (name : List ℕ) (brace : Option Brace) (k : ℕ) (its : List Origin) (n : ℕ) (it : Origin) → slice_get its n ≡ Some it
    → tagged true name k (slice_set its n (record it { whole = true; brace = brace }))
    ≡ lesser (it.outer && are_one_tag it.tag (Some name)) (tagged true name k its) (k + n)
set_whole name brace k [] n it is = absurd cc
set_whole name brace k (x ∷ its) zero it is =
    let same : x ≡ it = cc in
    subst (λ x. tagged true name k (record it { whole = true; brace = brace } ∷ its)
    ≡ lesser (it.outer && are_one_tag it.tag (Some name)) (tagged true name k (x ∷ its)) (k + 0)) (sym same)
    (set_here it.outer (are_one_tag it.tag (Some name)) it.whole k (tagged true name (suc k) its) (tagged_from true name (suc k) its))
set_whole name brace k (x ∷ its) (suc n) it is =
    set_behind (is_tagged true name x) (it.outer && are_one_tag it.tag (Some name)) k n
    (tagged true name (suc k) (slice_set its n (record it { whole = true; brace = brace }))) (tagged true name (suc k) its)
    (set_whole name brace (suc k) its n it is
    ∙ ap (lesser (it.outer && are_one_tag it.tag (Some name)) (tagged true name (suc k) its)) (sym (one_on k n)))

-- the first one of a tag stays
set_first : (name : List ℕ) (brace : Option Brace) (k : ℕ) (its : List Origin) (n : ℕ) (it : Origin) → slice_get its n ≡ Some it
    → tagged false name k (slice_set its n (record it { whole = true; brace = brace })) ≡ tagged false name k its
set_first name brace k [] n it is = absurd cc
set_first name brace k (x ∷ its) zero it is =
    let same : x ≡ it = cc in
    subst (λ x. tagged false name k (record it { whole = true; brace = brace } ∷ its) ≡ tagged false name k (x ∷ its)) (sym same) refl
set_first name brace k (x ∷ its) (suc n) it is =
    ap (λ o. if is_tagged false name x then Some k else o) (set_first name brace (suc k) its n it is)

-- by the name of the struct
puts_least : (outer : Bool) (tag : Option (List ℕ)) (name : List ℕ) (n : ℕ) (places more : Places) → PutsLeast (outer_name outer tag) n places more
    → at name more ≡ lesser (outer && are_one_tag tag (Some name)) (at name places) n
puts_least false tag name n places more puts = ap (at name) puts
puts_least true None name n places more puts = ap (at name) puts
puts_least true (Some it) name n places more puts = puts name

-- the index of those that have their bodies
pub whole_least : (its : List Origin) (n : ℕ) (it : Origin) (brace : Option Brace) (places more : Places) → slice_get its n ≡ Some it
    → IsByTag true its places → PutsLeast (name_in (slice_get its n)) n places more
    → IsByTag true (slice_set its n (record it { whole = true; brace = brace })) more
whole_least its n it brace places more there is puts name =
    puts_least it.outer it.tag name n places more (subst (λ o. PutsLeast (name_in o) n places more) there puts)
    ∙ ap (λ o. lesser (it.outer && are_one_tag it.tag (Some name)) o n) (is name)
    ∙ ap (lesser (it.outer && are_one_tag it.tag (Some name)) (tagged true name 0 its)) (sym (none_before n))
    ∙ sym (set_whole name brace 0 its n it there)

-- the index of all of them
pub whole_first : (its : List Origin) (n : ℕ) (it : Origin) (brace : Option Brace) (places : Places) → slice_get its n ≡ Some it
    → IsByTag false its places → IsByTag false (slice_set its n (record it { whole = true; brace = brace })) places
whole_first its n it brace places there is name = is name ∙ sym (set_first name brace 0 its n it there)

-- both, by the struct of that number
pub whole_kept : (its : List Origin) (n : ℕ) (brace : Option Brace) (any places more : Places) → IsByTag false its any → IsByTag true its places
    → PutsLeast (name_in (slice_get its n)) n places more
    → IsByTag false (whole_at brace (slice_get its n) its n) any × IsByTag true (whole_at brace (slice_get its n) its n) more
whole_kept its n brace any places more firsts wholes puts = by_struct (slice_get its n) refl puts
  where
    by_struct : (o : Option Origin) → slice_get its n ≡ o → PutsLeast (name_in o) n places more
        → IsByTag false (whole_at brace o its n) any × IsByTag true (whole_at brace o its n) more
    by_struct None there puts = (firsts, subst (IsByTag true its) (sym puts) wholes)
    by_struct (Some it) there puts = (
      whole_first its n it brace any there firsts,
      whole_least its n it brace places more there wholes (subst (λ o. PutsLeast (name_in o) n places more) (sym there) puts),
    )
