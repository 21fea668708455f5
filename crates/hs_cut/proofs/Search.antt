-- The rounds of a search by breadth.
use Rattle.std.proofs.Common.{◌≡◌, ℕ, zero, suc, ◌+◌, ◌<◌, ◌≤◌, List, [], ◌∷◌, length, ap, sym, ◌∙◌, refl, Bool, true, false, cond, ◌||◌, ◌&&◌, Option, None, Some, is_none, count_by, flat_map, arith, inl, inr, ◌⊎◌}
use Rattle.std.specs.Bool.{IsTrue}
use Rattle.std.specs.declared.vec.Vec.{Vec}
use Rattle.std.specs.declared.alloc.Global.{Global}
use Rattle.hs_cut.specs.Distances.{IsReached, AreDistances, IsWithinDistance, distance_at, distance_after, next_to}
use Rattle.hs_cut.specs.Networks.{among}
use Rattle.hs_cut.specs.declared.graph.Arc.{Arc}
use Rattle.hs_cut.specs.declared.distances.Gate.{Gate}
use Rattle.std.proofs.lemmas.Bool.{cases_order}
use Rattle.std.proofs.lemmas.List.Sums.{count_by-le-length}
use Rattle.std.proofs.Common.{All, replicate, take, drop, ◌++◌}
use Rattle.std.proofs.Math.Seq.{take-append_seam}
use Rattle.std.proofs.Math.ListN.{get_or-eq_default}
use Rattle.hs_cut.proofs.Among.{All-among, among-flat_map, flat_map-among}

-- All distances up to this one are right, and the frontier has the vertices of this one.
pub record IsFrontier (gates : List Gate) (rows : List (Vec Arc Global)) (starts : List ℕ) (distances : List (Option ℕ)) (frontier : List ℕ)
    (distance : ℕ) : Type 0 where
  pub long : length distances ≡ length rows
  pub first : (vertex : ℕ) → IsTrue (among starts vertex) → distance_at distances vertex ≡ Some 0
  pub origin : (vertex : ℕ) → distance_at distances vertex ≡ Some 0 → IsTrue (among starts vertex)
  pub below : (vertex own : ℕ) → distance_at distances vertex ≡ Some (suc own)
      → (from : ℕ) × (distance_at distances from ≡ Some own) × IsTrue (among (next_to gates rows from) vertex)
  pub above : (from vertex own : ℕ) → own < distance → distance_at distances from ≡ Some own → IsTrue (among (next_to gates rows from) vertex)
      → IsWithinDistance (suc own) (distance_at distances vertex)
  pub most : (vertex own : ℕ) → distance_at distances vertex ≡ Some own → own ≤ distance
  pub has : (vertex : ℕ) → distance_at distances vertex ≡ Some distance → IsTrue (among frontier vertex)
  pub only : (vertex : ℕ) → IsTrue (among frontier vertex) → distance_at distances vertex ≡ Some distance
  pub budget : distance + (count_by is_none distances + length frontier) ≤ length rows

-- what has a distance keeps it
kept : (distance own : ℕ) (is_one : Bool) (before after : Option ℕ) → after ≡ distance_after distance is_one before → before ≡ Some own → after ≡ Some own
kept distance own is_one None after is was = absurd cc
kept distance own is_one (Some old) after is was = is ∙ was

-- a distance is old, or it is the new one
came : (distance own : ℕ) (is_one : Bool) (before after : Option ℕ) → after ≡ distance_after distance is_one before → after ≡ Some own
    → (before ≡ Some own) ⊎ ((before ≡ None) × (is_one ≡ true) × (own ≡ distance))
came distance own is_one (Some old) after is now = inl (sym is ∙ now)
came distance own true None after is now = inr (refl, refl, cc)
came distance own false None after is now = absurd cc

-- what is reached has a distance that is no higher
within : (distance : ℕ) (before after : Option ℕ) → after ≡ distance_after distance true before → ((own : ℕ) → before ≡ Some own → own ≤ distance)
    → IsWithinDistance distance after
within distance None after is most = rw is (omega arith)
within distance (Some old) after is most = rw is (most old refl)

-- what had a distance within has it still
still : (distance bound : ℕ) (is_one : Bool) (before after : Option ℕ) → after ≡ distance_after distance is_one before
    → IsWithinDistance bound before → IsWithinDistance bound after
still distance bound is_one None after is old = absurd old
still distance bound is_one (Some own) after is old = rw is old

-- what is put had no distance
put_new : (before : Option ℕ) (is_one put : Bool) → put ≡ (false || (is_none before && is_one)) → put ≡ true → (before ≡ None) × (is_one ≡ true)
put_new (Some own) is_one put is now = absurd cc
put_new None is_one put is now = (refl, sym is ∙ now)

-- what had no distance and is reached is put
put_is : (before : Option ℕ) (is_one put : Bool) → put ≡ (false || (is_none before && is_one)) → before ≡ None → is_one ≡ true → put ≡ true
put_is (Some own) is_one put is none one = absurd cc
put_is None is_one put is none one = is ∙ one

-- and gets the distance
new_distance : (distance : ℕ) (is_one : Bool) (before after : Option ℕ) → after ≡ distance_after distance is_one before → before ≡ None → is_one ≡ true
    → after ≡ Some distance
new_distance distance is_one (Some own) after is none one = absurd cc
new_distance distance is_one None after is none one = is ∙ ap (λ b. cond b (Some distance) None) one

-- the starts are the first frontier
pub IsFrontier-starts : (gates : List Gate) (rows : List (Vec Arc Global)) (starts : List ℕ) (blank distances : List (Option ℕ)) (frontier : List ℕ)
    → length blank ≡ length rows → ((vertex : ℕ) → distance_at blank vertex ≡ None) → IsReached 0 starts blank [] distances frontier
    → IsFrontier gates rows starts distances frontier 0
IsFrontier-starts gates rows starts blank distances frontier long none reached = record {
  long = reached.long ∙ long;
  first = λ vertex is. new_distance 0 (among starts vertex) (distance_at blank vertex) (distance_at distances vertex) (reached.each vertex) (none vertex) is;
  origin = λ vertex is. (fresh vertex 0 is).1;
  below = λ vertex own is. absurd (let zero_is : suc own ≡ 0 = (fresh vertex (suc own) is).2 in omega arith);
  above = λ from vertex own below is step. absurd (omega arith);
  most = λ vertex own is. let zero_is : own ≡ 0 = (fresh vertex own is).2 in omega arith;
  has = λ vertex is. put_is (distance_at blank vertex) (among starts vertex) (among frontier vertex) (reached.put vertex) (none vertex) (fresh vertex 0 is).1;
  only = λ vertex is.
      let was = put_new (distance_at blank vertex) (among starts vertex) (among frontier vertex) (reached.put vertex) is in
      new_distance 0 (among starts vertex) (distance_at blank vertex) (distance_at distances vertex) (reached.each vertex) was.0 was.1;
  budget = let most : count_by is_none blank ≤ length blank = count_by-le-length is_none blank in let balance = reached.balance in omega arith;
}
  where
    fresh : (vertex own : ℕ) → distance_at distances vertex ≡ Some own → (distance_at blank vertex ≡ None) × (among starts vertex ≡ true) × (own ≡ 0)
    fresh vertex own is = elim (came 0 own (among starts vertex) (distance_at blank vertex) (distance_at distances vertex) (reached.each vertex) is) [
      | inl was ↦ absurd (let blank_is = none vertex in cc)
      | inr reaches ↦ reaches
    ]

-- what is a step from a frontier is the next one
pub IsFrontier-next : (gates : List Gate) (rows : List (Vec Arc Global)) (starts : List ℕ) (distances : List (Option ℕ))
    (frontier : List ℕ) (distance : ℕ) (distances' : List (Option ℕ)) (next : List ℕ)
    → IsFrontier gates rows starts distances frontier distance → 0 < length frontier
    → IsReached (suc distance) (flat_map (next_to gates rows) frontier) distances [] distances' next
    → IsFrontier gates rows starts distances' next (suc distance)
IsFrontier-next gates rows starts distances frontier distance distances' next old some reached = record {
  long = reached.long ∙ old.long;
  first = λ vertex is. keeps vertex 0 (old.first vertex is);
  origin = λ vertex is. elim (comes vertex 0 is) [
    | inl was ↦ old.origin vertex was
    | inr new ↦ absurd (let same : 0 ≡ suc distance = new.2 in omega arith)
  ];
  below = λ vertex own is. elim (comes vertex (suc own) is) [
    | inl was ↦ let before = old.below vertex own was in (before.0, keeps before.0 own before.1, before.2)
    | inr new ↦
        let same : distance ≡ own = (let both : suc own ≡ suc distance = new.2 in omega arith) in
        let from = among-flat_map (next_to gates rows) frontier vertex new.1 in
        (from.0, keeps from.0 own (old.only from.0 from.1 ∙ ap (λ n. Some n) same), from.2)
  ];
  above = λ from vertex own below is step. elim (comes from own is) [
    | inl was ↦ elim (cases_order own distance) [
      | inl same ↦ rw same (
          let reaches : among (flat_map (next_to gates rows) frontier) vertex ≡ true =
          flat_map-among (next_to gates rows) frontier from vertex (old.has from (was ∙ ap (λ n. Some n) same)) step in
          within (suc distance) (distance_at distances vertex) (distance_at distances' vertex)
          (reached.each vertex ∙ ap (λ b. distance_after (suc distance) b (distance_at distances vertex)) reaches)
          (λ other other_is. let most = old.most vertex other other_is in omega arith))
      | inr apart ↦ elim apart [
        | inl less ↦
            still (suc distance) (suc own) (among (flat_map (next_to gates rows) frontier) vertex) (distance_at distances vertex)
            (distance_at distances' vertex) (reached.each vertex) (old.above from vertex own less was step)
        | inr greater ↦ absurd (let most = old.most from own was in omega arith)
      ]
    ]
    | inr new ↦ absurd (let same : own ≡ suc distance = new.2 in omega arith)
  ];
  most = λ vertex own is. elim (comes vertex own is) [
    | inl was ↦ let most = old.most vertex own was in omega arith
    | inr new ↦ let same : own ≡ suc distance = new.2 in omega arith
  ];
  has = λ vertex is. elim (comes vertex (suc distance) is) [
    | inl was ↦ absurd (let most = old.most vertex (suc distance) was in omega arith)
    | inr new ↦ put_is (distance_at distances vertex) (among (flat_map (next_to gates rows) frontier) vertex) (among next vertex)
        (reached.put vertex) new.0 new.1
  ];
  only = λ vertex is.
      let was = put_new (distance_at distances vertex) (among (flat_map (next_to gates rows) frontier) vertex) (among next vertex) (reached.put vertex) is in
      new_distance (suc distance) (among (flat_map (next_to gates rows) frontier) vertex) (distance_at distances vertex) (distance_at distances' vertex)
      (reached.each vertex) was.0 was.1;
  budget = let balance = reached.balance in let budget = old.budget in omega arith;
}
  where
    keeps : (vertex own : ℕ) → distance_at distances vertex ≡ Some own → distance_at distances' vertex ≡ Some own
    keeps vertex own is =
        kept (suc distance) own (among (flat_map (next_to gates rows) frontier) vertex) (distance_at distances vertex) (distance_at distances' vertex)
        (reached.each vertex) is

    comes : (vertex own : ℕ) → distance_at distances' vertex ≡ Some own
        → (distance_at distances vertex ≡ Some own)
        ⊎ ((distance_at distances vertex ≡ None) × (among (flat_map (next_to gates rows) frontier) vertex ≡ true) × (own ≡ suc distance))
    comes vertex own is =
        came (suc distance) own (among (flat_map (next_to gates rows) frontier) vertex) (distance_at distances vertex) (distance_at distances' vertex)
        (reached.each vertex) is

-- if the frontier has no vertex, all distances are there
pub AreDistances-done : (gates : List Gate) (rows : List (Vec Arc Global)) (starts : List ℕ) (distances : List (Option ℕ)) (distance : ℕ)
    → IsFrontier gates rows starts distances [] distance → AreDistances gates rows starts distances
AreDistances-done gates rows starts distances distance all = record {
  long = all.long;
  first = all.first;
  origin = all.origin;
  below = all.below;
  above = λ from vertex own is step. elim (cases_order own distance) [
    | inl same ↦ absurd (let none : false ≡ true = all.has from (is ∙ ap (λ n. Some n) same) in cc)
    | inr apart ↦ elim apart [
      | inl less ↦ all.above from vertex own less is step
      | inr greater ↦ absurd (let most = all.most from own is in omega arith)
    ]
  ];
}

-- what has a distance is a vertex
pub distance-within : (distances : List (Option ℕ)) (vertex own : ℕ) → distance_at distances vertex ≡ Some own → vertex < length distances
distance-within distances vertex own is = elim (cases_order vertex (length distances)) [
  | inl same ↦ absurd (past (omega arith))
  | inr apart ↦ elim apart [ inl less ↦ less | inr greater ↦ absurd (past (omega arith)) ]
]
  where
    past : length distances ≤ vertex → ⊥
    past beyond = let none : distance_at distances vertex ≡ None = get_or-eq_default distances None beyond in cc

-- the frontier has vertices alone
pub IsFrontier-within : (gates : List Gate) (rows : List (Vec Arc Global)) (starts : List ℕ) (distances : List (Option ℕ)) (frontier : List ℕ) (distance : ℕ)
    → IsFrontier gates rows starts distances frontier distance → All (λ vertex. vertex < length rows) frontier
IsFrontier-within gates rows starts distances frontier distance all =
    All-among (λ vertex. vertex < length rows) frontier
    (λ vertex is. let inside = distance-within distances vertex distance (all.only vertex is) in let long = all.long in omega arith)

-- a list without a vertex
pub no_vertex : (vertices : List ℕ) → length vertices ≡ 0 → vertices ≡ []
no_vertex [] none = refl
no_vertex (vertex ∷ vertices) none = absurd (omega arith)

-- if no vertex has a distance
pub distance-blank : (count vertex : ℕ) → distance_at (replicate count None) vertex ≡ None
distance-blank zero vertex = refl
distance-blank (suc count) zero = refl
distance-blank (suc count) (suc vertex) = distance-blank count vertex

-- what is written over a whole list
pub written : {X : Type 0} (before after : List X) (long : ℕ) → long ≡ length after → take long (after ++ drop (length after) before) ≡ after
written before after long is = rw is (take-append_seam after (drop (length after) before))
