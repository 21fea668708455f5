-- The least of some vertices and one more.
use Rattle.std.proofs.Common.{◌≡◌, ℕ, ◌≤◌, List, [], ◌∷◌, ◌++◌, Option, None, Some, true, false, ◌||◌, refl, ap, sym, ◌∙◌, inl, inr, ◌⊎◌, arith, min, Bool}
use Rattle.std.proofs.Math.Bool.{or-true}
use Rattle.std.proofs.lemmas.Bool.{or_cases, eqb-true, eq-eqb}
use Rattle.std.proofs.lemmas.List.Folds.{list_any-append}
use Rattle.std.proofs.Common.{◌+◌, ◌<◌, length, take, get_or, nat_eq, append-nil}
use Rattle.std.proofs.lemmas.List.{take_more}
use Rattle.std.specs.Option.{option_eq}
use Rattle.hs_cut.specs.Descents.{IsAt, IsLeastAt, IsLeastDistance, LeadsTo, lesser}
use Rattle.hs_cut.specs.Distances.{is_open, distance_at, targets}
use Rattle.hs_cut.specs.declared.graph.Arc.{Arc}
use Rattle.hs_cut.specs.declared.distances.Gate.{Gate}
use Rattle.hs_cut.proofs.Reached.{targets-append, targets-open, targets-shut}
use Rattle.hs_cut.specs.Networks.{among}

-- one vertex more
pub IsAt-push : (distances : List (Option ℕ)) (distance : ℕ) (vertices : List ℕ) (new vertex : ℕ) → IsAt distances distance (vertices ++ new ∷ []) vertex
    → IsAt distances distance vertices vertex ⊎ ((vertex ≡ new) × (distance_at distances new ≡ Some distance))
IsAt-push distances distance vertices new vertex is =
    elim (or_cases (among vertices vertex) (among (new ∷ []) vertex) (sym (list_any-append _ vertices (new ∷ [])) ∙ is.0)) [
      | inl old ↦ inl (old, is.1)
      | inr last ↦
          let same : vertex ≡ new = eqb-true vertex new (elim (or_cases _ false last) [ inl it ↦ it | inr it ↦ absurd cc ]) in
          inr (same, ap (distance_at distances) (sym same) ∙ is.1)
    ]

-- those before it are there
pub IsAt-old : (distances : List (Option ℕ)) (distance : ℕ) (vertices : List ℕ) (new vertex : ℕ) → IsAt distances distance vertices vertex
    → IsAt distances distance (vertices ++ new ∷ []) vertex
IsAt-old distances distance vertices new vertex is =
    (list_any-append _ vertices (new ∷ []) ∙ ap (λ b. b || among (new ∷ []) vertex) is.0, is.1)

-- and itself
pub IsAt-new : (distances : List (Option ℕ)) (distance : ℕ) (vertices : List ℕ) (new : ℕ) → distance_at distances new ≡ Some distance
    → IsAt distances distance (vertices ++ new ∷ []) new
IsAt-new distances distance vertices new is =
    (list_any-append _ vertices (new ∷ []) ∙ ap (λ b. among vertices new || (b || false)) (eq-eqb new new refl) ∙ or-true (among vertices new), is)

-- a vertex of another distance changes nothing
pub IsLeastAt-miss : (distances : List (Option ℕ)) (distance : ℕ) (vertices : List ℕ) (new : ℕ) (least : Option ℕ) → IsLeastAt distances distance vertices least
    → (distance_at distances new ≡ Some distance → ⊥) → IsLeastAt distances distance (vertices ++ new ∷ []) least
IsLeastAt-miss distances distance vertices new None old miss = λ vertex is.
    elim (IsAt-push distances distance vertices new vertex is) [ inl was ↦ old vertex was | inr it ↦ miss it.1 ]
IsLeastAt-miss distances distance vertices new (Some least) old miss = (
  IsAt-old distances distance vertices new least old.0,
  λ vertex is. elim (IsAt-push distances distance vertices new vertex is) [ inl was ↦ old.1 vertex was | inr it ↦ absurd (miss it.1) ],
)

-- a vertex of the distance may be the least
pub IsLeastAt-hit : (distances : List (Option ℕ)) (distance : ℕ) (vertices : List ℕ) (new : ℕ) (least : Option ℕ) → IsLeastAt distances distance vertices least
    → distance_at distances new ≡ Some distance → IsLeastAt distances distance (vertices ++ new ∷ []) (Some (lesser least new))
IsLeastAt-hit distances distance vertices new None old hit = (
  IsAt-new distances distance vertices new hit,
  λ vertex is. elim (IsAt-push distances distance vertices new vertex is) [
    | inl was ↦ absurd (old vertex was)
    | inr it ↦ let same : vertex ≡ new = it.0 in omega arith
  ],
)
IsLeastAt-hit distances distance vertices new (Some least) old hit = (
  first,
  λ vertex is. elim (IsAt-push distances distance vertices new vertex is) [
    | inl was ↦ let below : least ≤ vertex = old.1 vertex was in omega arith
    | inr it ↦ let same : vertex ≡ new = it.0 in omega arith
  ],
)
  where
    either : (a b : ℕ) → (min a b ≡ a) ⊎ (min a b ≡ b)
    either a b = grind arith

    first : IsAt distances distance (vertices ++ new ∷ []) (min least new)
    first = elim (either least new) [
      | inl is ↦ rw is (IsAt-old distances distance vertices new least old.0)
      | inr is ↦ rw is (IsAt-new distances distance vertices new hit)
    ]

-- a vertex without a distance
pub IsLeastDistance-miss : (distances : List (Option ℕ)) (vertices : List ℕ) (new : ℕ) (least : Option ℕ) → IsLeastDistance distances vertices least
    → distance_at distances new ≡ None → IsLeastDistance distances (vertices ++ new ∷ []) least
IsLeastDistance-miss distances vertices new None old miss = λ vertex distance is.
    elim (IsAt-push distances distance vertices new vertex is) [ inl was ↦ old vertex distance was | inr it ↦ absurd (let some = it.1 in cc) ]
IsLeastDistance-miss distances vertices new (Some least) old miss = (
  (old.0.0, IsAt-old distances least vertices new old.0.0 old.0.1),
  λ vertex distance is. elim (IsAt-push distances distance vertices new vertex is) [
    | inl was ↦ old.1 vertex distance was
    | inr it ↦ absurd (let some = it.1 in cc)
  ],
)

-- a vertex with a distance may have the least
pub IsLeastDistance-hit : (distances : List (Option ℕ)) (vertices : List ℕ) (new own : ℕ) (least : Option ℕ) → IsLeastDistance distances vertices least
    → distance_at distances new ≡ Some own → IsLeastDistance distances (vertices ++ new ∷ []) (Some (lesser least own))
IsLeastDistance-hit distances vertices new own None old hit = (
  (new, IsAt-new distances own vertices new hit),
  λ vertex distance is. elim (IsAt-push distances distance vertices new vertex is) [
    | inl was ↦ absurd (old vertex distance was)
    | inr it ↦ let same : own ≡ distance = (let some : distance_at distances new ≡ Some distance = it.1 in cc) in omega arith
  ],
)
IsLeastDistance-hit distances vertices new own (Some least) old hit = (
  first,
  λ vertex distance is. elim (IsAt-push distances distance vertices new vertex is) [
    | inl was ↦ let below : least ≤ distance = old.1 vertex distance was in omega arith
    | inr it ↦ let same : own ≡ distance = (let some : distance_at distances new ≡ Some distance = it.1 in cc) in omega arith
  ],
)
  where
    either : (a b : ℕ) → (min a b ≡ a) ⊎ (min a b ≡ b)
    either a b = grind arith

    first : (vertex : ℕ) × IsAt distances (min least own) (vertices ++ new ∷ []) vertex
    first = elim (either least own) [
      | inl is ↦ rw is (old.0.0, IsAt-old distances least vertices new old.0.0 old.0.1)
      | inr is ↦ rw is (new, IsAt-new distances own vertices new hit)
    ]

-- what the test of two distances says
pub option_eq-true : (own : Option ℕ) (distance : ℕ) → option_eq nat_eq own (Some distance) ≡ true → own ≡ Some distance
option_eq-true None distance is = absurd cc
option_eq-true (Some own) distance is = ap (λ n. Some n) (eqb-true own distance is)

-- the same if it fails
pub option_eq-false : (own : Option ℕ) (distance : ℕ) → option_eq nat_eq own (Some distance) ≡ false → own ≡ Some distance → ⊥
option_eq-false None distance is same = cc
option_eq-false (Some own) distance is same =
    let equal : own ≡ distance = cc in let yes_ = eq-eqb own distance equal in cc

-- one vertex more, of the distance
pub IsLeastAt-then : (distances : List (Option ℕ)) (distance : ℕ) (vertices : List ℕ) (index : ℕ) (least after : Option ℕ) → index < length vertices
    → IsLeastAt distances distance (take index vertices) least → distance_at distances (get_or vertices index 0) ≡ Some distance
    → after ≡ Some (lesser least (get_or vertices index 0))
    → IsLeastAt distances distance (take (index + 1) vertices) after
IsLeastAt-then distances distance vertices index least after below old hit is =
    rw (take_more vertices index 0 below, is) (IsLeastAt-hit distances distance (take index vertices) (get_or vertices index 0) least old hit)

-- and of another
pub IsLeastAt-else : (distances : List (Option ℕ)) (distance : ℕ) (vertices : List ℕ) (index : ℕ) (least after : Option ℕ) → index < length vertices
    → IsLeastAt distances distance (take index vertices) least → (distance_at distances (get_or vertices index 0) ≡ Some distance → ⊥) → after ≡ least
    → IsLeastAt distances distance (take (index + 1) vertices) after
IsLeastAt-else distances distance vertices index least after below old miss is =
    rw (take_more vertices index 0 below, is) (IsLeastAt-miss distances distance (take index vertices) (get_or vertices index 0) least old miss)

-- one vertex more with a distance
pub IsLeastDistance-then : (distances : List (Option ℕ)) (vertices : List ℕ) (index own : ℕ) (least after : Option ℕ) → index < length vertices
    → IsLeastDistance distances (take index vertices) least → distance_at distances (get_or vertices index 0) ≡ Some own → after ≡ Some (lesser least own)
    → IsLeastDistance distances (take (index + 1) vertices) after
IsLeastDistance-then distances vertices index own least after below old hit is =
    rw (take_more vertices index 0 below, is) (IsLeastDistance-hit distances (take index vertices) (get_or vertices index 0) own least old hit)

-- and without
pub IsLeastDistance-else : (distances : List (Option ℕ)) (vertices : List ℕ) (index : ℕ) (least after : Option ℕ) → index < length vertices
    → IsLeastDistance distances (take index vertices) least → distance_at distances (get_or vertices index 0) ≡ None → after ≡ least
    → IsLeastDistance distances (take (index + 1) vertices) after
IsLeastDistance-else distances vertices index least after below old miss is =
    rw (take_more vertices index 0 below, is) (IsLeastDistance-miss distances (take index vertices) (get_or vertices index 0) least old miss)

-- where the arcs so far and one more lead
targets-more : (gates : List Gate) (row : List Arc) (index : ℕ) (none : Arc) → index < length row
    → targets gates (take (index + 1) row) ≡ targets gates (take index row) ++ targets gates (get_or row index none ∷ [])
targets-more gates row index none below =
    ap (targets gates) (take_more row index none below) ∙ targets-append gates (take index row) (get_or row index none ∷ [])

-- one arc more, which leads there
pub IsLeastAt-arc : (distances : List (Option ℕ)) (distance : ℕ) (gates : List Gate) (row : List Arc) (index : ℕ) (none : Arc)
    (least after : Option ℕ) → index < length row
    → IsLeastAt distances distance (targets gates (take index row)) least → LeadsTo gates distances distance (get_or row index none)
    → after ≡ Some (lesser least (get_or row index none).to)
    → IsLeastAt distances distance (targets gates (take (index + 1) row)) after
IsLeastAt-arc distances distance gates row index none least after below old leads is =
    rw (
      targets-more gates row index none below
          ∙ ap (λ (found : List ℕ). targets gates (take index row) ++ found) (targets-open gates (get_or row index none) leads.1),
      is,
    ) (IsLeastAt-hit distances distance (targets gates (take index row)) (get_or row index none).to least old leads.0)

-- and one that does not
pub IsLeastAt-no_arc : (distances : List (Option ℕ)) (distance : ℕ) (gates : List Gate) (row : List Arc) (index : ℕ) (none : Arc)
    (least after : Option ℕ) → index < length row
    → IsLeastAt distances distance (targets gates (take index row)) least → (LeadsTo gates distances distance (get_or row index none) → ⊥) → after ≡ least
    → IsLeastAt distances distance (targets gates (take (index + 1) row)) after
IsLeastAt-no_arc distances distance gates row index none least after below old misses is =
    rw (targets-more gates row index none below, is) (split (is_open gates (get_or row index none)) refl)
  where
    split : (b : Bool) → is_open gates (get_or row index none) ≡ b
        → IsLeastAt distances distance (targets gates (take index row) ++ targets gates (get_or row index none ∷ [])) least
    split true opened =
        rw (targets-open gates (get_or row index none) opened)
        (IsLeastAt-miss distances distance (targets gates (take index row)) (get_or row index none).to least old (λ at. misses (at, opened)))
    split false closed = rw (targets-shut gates (get_or row index none) closed, append-nil) old
