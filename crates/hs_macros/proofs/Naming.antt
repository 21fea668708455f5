-- What the names of a set of numbers are, if the set changes.
--     contains-named                                    what the names hold
--     named-empty, named-insert                         of no numbers, and of one more
--     named-intersection, named-union                   of what two sets share, and of both
use Rattle.std.proofs.Common.{◌≡◌, ℕ, Bool, true, false, ◌&&◌, ◌||◌, List, [], get_or, Option, Some, None, refl, sym, ap, ◌∙◌}
use Rattle.std.specs.Str.{bytes_eq}
use Rattle.std.specs.Ordering.{nat_cmp, is_eq, eq_by_cmp}
use Rattle.std.specs.Cmp.{Equal-is, tied_itself, nat_cmp_total}
use Rattle.std.specs.Cmp.Lexicographic.{slice_cmp, nat_list_cmp_total, bytes_decides, texts_ties}
use Rattle.std.specs.FinSet as set
use Rattle.std.proofs.lemmas.Bool.{both_ways, or_left}
use Rattle.std.proofs.lemmas.List.Folds.{list_any_at}
use Rattle.std.proofs.lemmas.List.Quantifiers.{position-Some}
use Rattle.hs_macros.specs.HideSets.{HideSet}
use Rattle.hs_macros.specs.Numbers.{Numbers, number_in, has_number, named}

-- names that tie are equal
alike : set.IsAntisymmetric (slice_cmp nat_cmp)
alike = set.slice_cmp-IsAntisymmetric set.nat_cmp-IsAntisymmetric

-- two sets of names that hold the same are equal
same_names : (s t : HideSet) → ((q : List ℕ) → set.contains s q ≡ set.contains t q) → s ≡ t
same_names s t = set.same_set nat_list_cmp_total alike s t

-- names that tie in the order are equal
name_of_tie : (q name : List ℕ) → eq_by_cmp (slice_cmp nat_cmp) q name ≡ true → q ≡ name
name_of_tie q name tied = alike q name ((Equal-is (slice_cmp nat_cmp q name)).0 tied)

-- the name at the number is the name
name_at : (names : List (List ℕ)) (name : List ℕ) (number : ℕ) → number_in names name ≡ Some number → name ≡ get_or names number []
name_at names name number is = (bytes_decides name (get_or names number [])).0 (position-Some (bytes_eq name) names number [] is).1

-- a name that has a number is in the list
listed : (names : List (List ℕ)) (name : List ℕ) (number : ℕ) → number_in names name ≡ Some number
    → set.contains (set.from_list {R = slice_cmp nat_cmp} names) name ≡ true
listed names name number is =
    let there = position-Some (bytes_eq name) names number [] is in
    set.contains-from_list nat_list_cmp_total names name
    ∙ list_any_at (eq_by_cmp (slice_cmp nat_cmp) name) names number [] there.0 (sym (texts_ties name (get_or names number [])) ∙ there.1)

-- so the list adds nothing to what the numbers say
listed_already : (names : List (List ℕ)) (numbers : Numbers) (name : List ℕ) (number : Option ℕ) → number_in names name ≡ number
    → (set.contains (set.from_list {R = slice_cmp nat_cmp} names) name && has_number numbers number) ≡ has_number numbers number
listed_already names numbers name None is = and_false _
  where
    and_false : (a : Bool) → (a && false) ≡ false
    and_false true = refl
    and_false false = refl
listed_already names numbers name (Some number) is = ap (λ held. held && set.contains numbers number) (listed names name number is)

-- the names hold a name if the set has its number
pub contains-named : (names : List (List ℕ)) (numbers : Numbers) (name : List ℕ)
    → set.contains (named names numbers) name ≡ has_number numbers (number_in names name)
unfolding named
contains-named names numbers name =
    set.contains-retain (set.from_list names) (λ name'. has_number numbers (number_in names name')) name
    (λ other tied. ap (λ name'. has_number numbers (number_in names name')) (sym (alike name other tied)))
    ∙ listed_already names numbers name (number_in names name) refl

-- the same of a name whose number is known
pub contains-named_at : (names : List (List ℕ)) (numbers : Numbers) (name : List ℕ) (number : ℕ) → number_in names name ≡ Some number
    → set.contains (named names numbers) name ≡ set.contains numbers number
contains-named_at names numbers name number is = contains-named names numbers name ∙ ap (has_number numbers) is

-- no numbers name nothing
pub named-empty : (names : List (List ℕ)) → named names set.empty ≡ set.empty
named-empty names = same_names _ _ (λ q.
    contains-named names set.empty q ∙ has_none (number_in names q) ∙ sym (set.contains-empty (slice_cmp nat_cmp) q))
  where
    has_none : (number : Option ℕ) → has_number set.empty number ≡ false
    has_none None = refl
    has_none (Some number) = set.contains-empty nat_cmp number

-- what two sets share names what their names share
pub named-intersection : (names : List (List ℕ)) (s t : Numbers) → named names (set.intersection s t) ≡ set.intersection (named names s) (named names t)
named-intersection names s t = same_names _ _ (λ q.
    contains-named names (set.intersection s t) q
    ∙ has_both (number_in names q)
    ∙ (λ i. sym (contains-named names s q) i && sym (contains-named names t q) i)
    ∙ sym (set.contains-intersection nat_list_cmp_total (named names s) (named names t) q))
  where
    has_both : (number : Option ℕ) → has_number (set.intersection s t) number ≡ (has_number s number && has_number t number)
    has_both None = refl
    has_both (Some number) = set.contains-intersection nat_cmp_total s t number

-- two sets together name what one of them names
pub named-union : (names : List (List ℕ)) (s t : Numbers) → named names (set.union s t) ≡ set.union (named names s) (named names t)
named-union names s t = same_names _ _ (λ q.
    contains-named names (set.union s t) q
    ∙ has_either (number_in names q)
    ∙ (λ i. sym (contains-named names s q) i || sym (contains-named names t q) i)
    ∙ sym (set.contains-union nat_list_cmp_total (named names s) (named names t) q))
  where
    has_either : (number : Option ℕ) → has_number (set.union s t) number ≡ (has_number s number || has_number t number)
    has_either None = refl
    has_either (Some number) = set.contains-union nat_cmp_total s t number

-- two names with one number are one name
one_name : (names : List (List ℕ)) (q name : List ℕ) (number other : ℕ) → number_in names q ≡ Some number → number_in names name ≡ Some other
    → eq_by_cmp nat_cmp number other ≡ true → eq_by_cmp (slice_cmp nat_cmp) q name ≡ true
one_name names q name number other is other_is tied =
    let numbers : number ≡ other = set.nat_cmp-IsAntisymmetric number other ((Equal-is (nat_cmp number other)).0 tied) in
    let same : q ≡ name = name_at names q number is ∙ ap (λ n. get_or names n []) numbers ∙ sym (name_at names name other other_is) in
    ap (λ name'. eq_by_cmp (slice_cmp nat_cmp) q name') (sym same) ∙ ap is_eq (tied_itself nat_list_cmp_total q)

-- what a set with one more number has
has_more : (names : List (List ℕ)) (s : Numbers) (name q : List ℕ) (number : ℕ) (here : Option ℕ) (tied : Bool) → number_in names name ≡ Some number
    → number_in names q ≡ here → eq_by_cmp (slice_cmp nat_cmp) q name ≡ tied
    → has_number (set.insert s number) here ≡ (tied || has_number s here)
has_more names s name q number here true is here_is tie =
    let same : here ≡ Some number = sym here_is ∙ ap (number_in names) (name_of_tie q name tie) ∙ is in
    ap (has_number (set.insert s number)) same
    ∙ set.contains-insert nat_cmp_total s number number
    ∙ or_left _ _ (ap is_eq (tied_itself nat_cmp_total number))
has_more names s name q number None false is here_is tie = refl
has_more names s name q number (Some here) false is here_is tie =
    set.contains-insert nat_cmp_total s number here ∙ differ (eq_by_cmp nat_cmp here number) refl
  where
    -- another name has another number
    differ : (answer : Bool) → eq_by_cmp nat_cmp here number ≡ answer → (answer || set.contains s here) ≡ set.contains s here
    differ false even = refl
    differ true even = absurd (both_ways _ tie (one_name names q name here number here_is is even))

-- one more number names one name more
pub named-insert : (names : List (List ℕ)) (s : Numbers) (name : List ℕ) (number : ℕ) → number_in names name ≡ Some number
    → named names (set.insert s number) ≡ set.insert (named names s) name
named-insert names s name number is = same_names _ _ (λ q.
    contains-named names (set.insert s number) q
    ∙ has_more names s name q number (number_in names q) (eq_by_cmp (slice_cmp nat_cmp) q name) is refl refl
    ∙ ap (λ held. eq_by_cmp (slice_cmp nat_cmp) q name || held) (sym (contains-named names s q))
    ∙ sym (set.contains-insert nat_list_cmp_total (named names s) name q))
