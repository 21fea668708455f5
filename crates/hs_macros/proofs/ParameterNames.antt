-- The names of parameters, read one by one.
use Rattle.std.proofs.Common.{◌≡◌, ℕ, Bool, true, false, cond, not, ◌&&◌, ◌||◌, List, [], ◌∷◌, ◌++◌, Option, None, Some, Bor, ◌+◌, ◌<◌, suc, length, drop, get_or, nat_eq, drop-cons, add-one, refl, sym}
use Rattle.std.proofs.Math.Bool.{and_assoc}
use Rattle.std.specs.List.{list_any, list_all}
use Rattle.std.specs.Cmp.Lexicographic.{pointwise}
use Rattle.hs_macros.specs.Definitions.{Parameters, is_distinct}
use Rattle.hs_macros.specs.Lines.{names_of}

-- these names in front
abbrev pub with_names : List (List ℕ) → Option Parameters → Option Parameters
with_names front None = None
with_names front (Some parameters) = Some (record { names = front ++ parameters.names; behind = parameters.behind })

-- a name that is lent
abbrev pub Lent : Type 0
Lent = Bor (List ℕ)

-- the two names have the same bytes
abbrev pub are_alike : Lent → Lent → Bool
are_alike first second = pointwise nat_eq first.now second.now

-- no name was seen, and none stands twice
abbrev pub are_new : (Lent → Bool) → List Lent → Bool
are_new was_seen names = list_all (λ name. not (was_seen name)) names && is_distinct (names_of names)

-- each name passes the test that all pass
passes : (names : List Lent) → list_all (λ _. true) names ≡ true
passes [] = refl
passes (name ∷ names) = passes names

-- if none was seen, the names are new if they are distinct
pub are_new-none : (names : List Lent) → are_new (λ _. false) names ≡ is_distinct (names_of names)
are_new-none names = rw (passes names) refl

-- a name that is neither this one nor one that was seen
apart : (same seen all any : Bool) → (not (cond same true seen) && (all && not any)) ≡ ((not seen && all) && not (same || any))
apart true true all any = refl
apart true false true any = refl
apart true false false any = refl
apart false seen all any = sym (and_assoc (not seen) all (not any))

-- with one name more that was seen: the others are new, and none of them is that name
list_all-more : (was_seen is_seen : Lent → Bool) (name : Lent) → ((other : Lent) → is_seen other ≡ cond (are_alike name other) true (was_seen other))
    → (names : List Lent) → list_all (λ other. not (is_seen other)) names
    ≡ (list_all (λ other. not (was_seen other)) names && not (list_any (pointwise nat_eq name.now) (names_of names)))
list_all-more was_seen is_seen name more [] = refl
list_all-more was_seen is_seen name more (other ∷ names) =
    rw (more other, list_all-more was_seen is_seen name more names)
    (apart (are_alike name other) (was_seen other) (list_all (λ other. not (was_seen other)) names) (list_any (pointwise nat_eq name.now) (names_of names)))

-- a name that is new, and the names after it
pub are_new-more : (was_seen is_seen : Lent → Bool) (name : Lent) (names : List Lent) → was_seen name ≡ false
    → ((other : Lent) → is_seen other ≡ cond (are_alike name other) true (was_seen other)) → are_new is_seen names ≡ are_new was_seen (name ∷ names)
are_new-more was_seen is_seen name names here more =
    rw (list_all-more was_seen is_seen name more names, here)
    (and_assoc (list_all (λ other. not (was_seen other)) names) (not (list_any (pointwise nat_eq name.now) (names_of names))) _)

-- the same at a place in a list
pub are_new-at : (was_seen is_seen : Lent → Bool) (names : List Lent) (place : ℕ) (other : Lent) → place < length names
    → was_seen (get_or names place other) ≡ false
    → ((name : Lent) → is_seen name ≡ cond (are_alike (get_or names place other) name) true (was_seen name))
    → are_new is_seen (drop (place + 1) names) ≡ are_new was_seen (drop place names)
are_new-at was_seen is_seen names place other within here more =
    rw (add-one, drop-cons names place other) (are_new-more was_seen is_seen (get_or names place other) (drop (suc place) names) here more)

-- a set that takes a name did not have it
pub not_seen : (takes seen : Bool) → takes ≡ not seen → takes ≡ true → seen ≡ false
not_seen takes true told is_taken = cc
not_seen takes false told is_taken = refl
