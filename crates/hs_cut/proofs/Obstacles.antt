-- The way down from the least vertex of the least distance is the least obstacle.
use Rattle.std.proofs.Common.{◌≡◌, ℕ, zero, suc, ◌+◌, ◌≤◌, Bool, true, false, not, ◌&&◌, ◌||◌, List, [], ◌∷◌, Option, None, Some, length, map, get_or, refl, ap, sym, ◌∙◌, subst, inl, inr, Any, arith, IsFalse, nat_eq, is_none}
use Rattle.std.specs.Bool.{IsTrue}
use Rattle.std.specs.List.{slice_get, slice_index_or}
use Rattle.std.specs.Ordering.{nat_cmp, is_le, ordering_then}
use Rattle.std.specs.declared.cmp.Ordering.TheVariants.{Less, Equal}
use Rattle.std.specs.Cmp.{nat_cmp_is}
use Rattle.std.specs.Cmp.Lexicographic.{slice_cmp}
use mathlib.Core.Bool.{xor}
use Rattle.std.proofs.Math.Bool.{or-true}
use Rattle.std.proofs.lemmas.Bool.{and_parts, cases_order, eq-eqb, eqb-true, or_cases}
use Rattle.std.proofs.lemmas.List.Folds.{Any-from_list_any, list_any_at}
use Rattle.std.proofs.lemmas.Option.{get_or_from_slice_get, slice_get-get_or, slice_get_within}
use Rattle.std.specs.declared.vec.Vec.{Vec}
use Rattle.std.specs.declared.alloc.Global.{Global}
use Rattle.hs_cut.specs.Arcs.{IsGraph, goal, start}
use Rattle.hs_cut.specs.Descents.{Descends, IsAt, IsLeastAt, IsLeastDistance, uncut_gate}
use Rattle.hs_cut.specs.DistanceLaws.{further}
use Rattle.hs_cut.specs.Distances.{AreDistances, IsWithinDistance, distance_at, next_to, opens, shut}
use Rattle.hs_cut.specs.Networks.{IsCut}
use Rattle.hs_cut.specs.Walks.{IsLeastObstacle, IsObstacle, IsWayOut, is_joined, joins}
use Rattle.hs_cut.specs.declared.graph.Arc.{Arc}
use Rattle.hs_cut.specs.declared.distances.Gate.{Gate}
use Rattle.hs_cut.specs.declared.network.CutEdge.{CutEdge}
use Rattle.hs_cut.specs.declared.network.Network.{Network}
use Rattle.hs_cut.proofs.Among.{All-among}
use Rattle.hs_cut.proofs.Steps.{IsStep, goal-back, start-back, step-complete, step-sound}

-- the gate of an edge
uncut_at : (edges : List CutEdge) (index : ℕ) (edge : CutEdge) → slice_get edges index ≡ Some edge
    → slice_index_or (map uncut_gate edges) index shut ≡ uncut_gate edge
uncut_at [] index edge found = absurd cc
uncut_at (first ∷ edges) zero edge found = let same : first ≡ edge = cc in ap uncut_gate same
uncut_at (first ∷ edges) (suc index) edge found = uncut_at edges index edge found

-- it is open, either way, if the edge is no slot
uncut_opens : (edge : CutEdge) (along : Bool) → opens (uncut_gate edge) along ≡ not edge.slot
uncut_opens edge true = refl
uncut_opens edge false = refl

-- there is one for each edge
pub uncut-length : (edges : List CutEdge) → length (map uncut_gate edges) ≡ length edges
uncut-length [] = refl
uncut-length (edge ∷ edges) = ap (λ n. suc n) (uncut-length edges)

-- what an edge joins
both_eq : (a b c d : ℕ) → a ≡ c → b ≡ d → (nat_eq a c && nat_eq b d) ≡ true
both_eq a b c d one other = ap (λ x. x && nat_eq b d) (eq-eqb a c one) ∙ eq-eqb b d other

joins-along : (edge : CutEdge) (along : Bool) (from to : ℕ) → start edge along ≡ from → goal edge along ≡ to → joins edge from to ≡ true
joins-along edge true from to begins ends = ap (λ b. b || (nat_eq edge.from to && nat_eq edge.to from)) (both_eq edge.from edge.to from to begins ends)
joins-along edge false from to begins ends =
    ap (λ b. (nat_eq edge.from from && nat_eq edge.to to) || b) (both_eq edge.from edge.to to from ends begins)
    ∙ or-true (nat_eq edge.from from && nat_eq edge.to to)

-- a step joins
step-joined : (edges : List CutEdge) (from to : ℕ) → IsStep edges (map uncut_gate edges) from to → is_joined edges from to ≡ true
step-joined edges from to step =
    let opened : not step.edge.slot ≡ true =
    sym (uncut_opens step.edge step.along)
    ∙ ap (λ (gate : Gate). opens gate step.along) (sym (uncut_at edges step.index step.edge step.found))
    ∙ step.opened in
    let joined : joins step.edge from to ≡ true = joins-along step.edge step.along from to step.begins step.ends in
    let test : (not step.edge.slot && joins step.edge from to) ≡ true = ap (λ b. b && joins step.edge from to) opened ∙ joined in
    let here : get_or edges step.index step.edge ≡ step.edge = get_or_from_slice_get edges step.index step.edge step.edge step.found in
    list_any_at (λ (edge : CutEdge). not edge.slot && joins edge from to) edges step.index step.edge (slice_get_within edges step.index step.edge step.found)
    (ap (λ (edge : CutEdge). not edge.slot && joins edge from to) here ∙ test)

-- and what is joined is a step
joined-step : (edges : List CutEdge) (from to : ℕ) → is_joined edges from to ≡ true → IsStep edges (map uncut_gate edges) from to
joined-step edges from to is =
    let found : Any (λ (edge : CutEdge). (not edge.slot && joins edge from to) ≡ true) edges =
    Any-from_list_any (λ (edge : CutEdge). not edge.slot && joins edge from to) edges is in
    let both = and_parts (not found.1.slot) (joins found.1 from to) found.4 in
    let at : slice_get edges found.0 ≡ Some found.1 = slice_get-get_or edges found.0 found.1 found.2 ∙ ap (λ edge. Some edge) found.3 in
    elim (or_cases (nat_eq found.1.from from && nat_eq found.1.to to) (nat_eq found.1.from to && nat_eq found.1.to from) both.1) [
      | inl along ↦ let ends = and_parts (nat_eq found.1.from from) (nat_eq found.1.to to) along in
          record {
            index = found.0;
            edge = found.1;
            along = true;
            found = at;
            begins = eqb-true found.1.from from ends.0;
            ends = eqb-true found.1.to to ends.1;
            opened = ap (λ (gate : Gate). opens gate true) (uncut_at edges found.0 found.1 at) ∙ both.0;
          }
      | inr against ↦ let ends = and_parts (nat_eq found.1.from to) (nat_eq found.1.to from) against in
          record {
            index = found.0;
            edge = found.1;
            along = false;
            found = at;
            begins = eqb-true found.1.to from ends.1;
            ends = eqb-true found.1.from to ends.0;
            opened = ap (λ (gate : Gate). opens gate false) (uncut_at edges found.0 found.1 at) ∙ both.0;
          }
    ]

-- each step can be traversed back
step-back : (edges : List CutEdge) (from to : ℕ) → IsStep edges (map uncut_gate edges) from to → IsStep edges (map uncut_gate edges) to from
step-back edges from to step =
    let gate = uncut_at edges step.index step.edge step.found in
    record {
      index = step.index;
      edge = step.edge;
      along = not step.along;
      found = step.found;
      begins = start-back step.edge step.along ∙ step.ends;
      ends = goal-back step.edge step.along ∙ step.begins;
      opened =
          ap (λ (gate : Gate). opens gate (not step.along)) gate
          ∙ uncut_opens step.edge (not step.along)
          ∙ sym (uncut_opens step.edge step.along)
          ∙ ap (λ (gate : Gate). opens gate step.along) (sym gate)
          ∙ step.opened;
    }

-- an edge that is no slot is a step
edge-step : (edges : List CutEdge) (index : ℕ) (edge : CutEdge) → slice_get edges index ≡ Some edge → edge.slot ≡ false
    → IsStep edges (map uncut_gate edges) edge.from edge.to
edge-step edges index edge found slotless =
    record {
      index = index;
      edge = edge;
      along = true;
      found = found;
      begins = refl;
      ends = refl;
      opened = ap (λ (gate : Gate). opens gate true) (uncut_at edges index edge found) ∙ ap not slotless;
    }

-- two ends that both have a distance, or neither
alike : (one other : Option ℕ) → ((distance : ℕ) → one ≡ Some distance → IsWithinDistance (suc distance) other)
    → ((distance : ℕ) → other ≡ Some distance → IsWithinDistance (suc distance) one)
    → xor (is_none one) (is_none other) ≡ false
unfolding xor
alike None None there back = refl
alike None (Some distance) there back = absurd (back distance refl)
alike (Some distance) None there back = absurd (there distance refl)
alike (Some distance) (Some own) there back = refl

-- if nothing that must be inside has a distance, the vertices without one are a cut
pub IsCut-unreached : (network : Network) (rows : List (Vec Arc Global)) (distances : List (Option ℕ)) → IsGraph network.edges rows
    → AreDistances (map uncut_gate network.edges) rows network.outside distances
    → IsLeastDistance distances network.inside None → IsCut network (λ vertex. is_none (distance_at distances vertex))
IsCut-unreached network rows distances graph all none = record {
  inside =
      All-among (λ vertex. IsTrue (is_none (distance_at distances vertex))) network.inside
      (λ vertex is. blank (distance_at distances vertex) (λ distance at. none vertex distance (is, at)));
  outside = All-among (λ vertex. IsFalse (is_none (distance_at distances vertex))) network.outside (λ vertex is. ap is_none (all.first vertex is));
  slotless = λ index default below slotless.
      let edge = get_or network.edges index default in
      let step = edge-step network.edges index edge (slice_get-get_or network.edges index default below) slotless in
      alike (distance_at distances edge.from) (distance_at distances edge.to)
      (λ distance at. all.above edge.from edge.to distance at (step-complete network.edges (map uncut_gate network.edges) rows edge.from edge.to graph step))
      (λ distance at. all.above edge.to edge.from distance at
      (step-complete network.edges (map uncut_gate network.edges) rows edge.to edge.from graph
      (step-back network.edges edge.from edge.to step)));
}
  where
    blank : (own : Option ℕ) → ((distance : ℕ) → own ≡ Some distance → ⊥) → is_none own ≡ true
    blank None no_distance = refl
    blank (Some distance) no_distance = absurd (no_distance distance refl)

-- a step leads down from each vertex above distance 0
pub below-distance : (edges : List CutEdge) (rows : List (Vec Arc Global)) (starts : List ℕ) (distances : List (Option ℕ))
    → IsGraph edges rows → AreDistances (map uncut_gate edges) rows starts distances
    → (vertex distance : ℕ) → distance_at distances vertex ≡ Some (distance + 1)
    → (next : ℕ) × IsAt distances distance (next_to (map uncut_gate edges) rows vertex) next
below-distance edges rows starts distances graph all vertex distance is =
    let same : distance + 1 ≡ suc distance = omega arith in
    let below = all.below vertex distance (is ∙ ap (λ n. Some n) same) in
    let step = step-sound edges (map uncut_gate edges) rows below.0 vertex graph below.2 in
    (below.0, (step-complete edges (map uncut_gate edges) rows vertex below.0 graph (step-back edges below.0 vertex step), below.1))

-- the way down leads out
descends-way : (network : Network) (rows : List (Vec Arc Global)) (distances : List (Option ℕ)) (distance : ℕ) (path : List ℕ)
    → IsGraph network.edges rows → AreDistances (map uncut_gate network.edges) rows network.outside distances
    → Descends (map uncut_gate network.edges) rows distances distance path → IsWayOut network path
descends-way network rows distances distance [] graph all down = down
descends-way network rows distances distance (last ∷ []) graph all down = all.origin last down.1
descends-way network rows distances distance (vertex ∷ next ∷ path) graph all down = (
  step-joined network.edges vertex next (step-sound network.edges (map uncut_gate network.edges) rows vertex next graph down.2.0.0),
  descends-way network rows distances down.0 (next ∷ path) graph all down.3,
)

-- it has a vertex for each distance
descends-length : (gates : List Gate) (rows : List (Vec Arc Global)) (distances : List (Option ℕ)) (distance : ℕ) (path : List ℕ)
    → Descends gates rows distances distance path → length path ≡ suc distance
descends-length gates rows distances distance [] down = absurd down
descends-length gates rows distances distance (last ∷ []) down = let zero_is : distance ≡ 0 = down.0 in omega arith
descends-length gates rows distances distance (vertex ∷ next ∷ path) down =
    let rest : length (next ∷ path) ≡ suc down.0 = descends-length gates rows distances down.0 (next ∷ path) down.3 in
    let same : distance ≡ suc down.0 = down.1 in
    omega arith

-- a distance that is within
more-within : (own : Option ℕ) (distance it : ℕ) → own ≡ Some it → it ≤ distance → IsWithinDistance distance own
more-within own distance it is below = rw is below

-- a way out is no shorter than the distance
way-within : (network : Network) (rows : List (Vec Arc Global)) (distances : List (Option ℕ)) (vertex : ℕ) (rest : List ℕ)
    → IsGraph network.edges rows → AreDistances (map uncut_gate network.edges) rows network.outside distances
    → IsWayOut network (vertex ∷ rest) → IsWithinDistance (length rest) (distance_at distances vertex)
way-within network rows distances vertex [] graph all way = more-within (distance_at distances vertex) 0 0 (all.first vertex way) (omega arith)
way-within network rows distances vertex (next ∷ rest) graph all way =
    let later = further (distance_at distances next) (length rest) (way-within network rows distances next rest graph all way.1) in
    let step = step-back network.edges vertex next (joined-step network.edges vertex next way.0) in
    let up =
    further (distance_at distances vertex) (suc later.0)
    (all.above next vertex later.0 later.1 (step-complete network.edges (map uncut_gate network.edges) rows next vertex graph step)) in
    let low : later.0 ≤ length rest = later.2 in
    let high : up.0 ≤ suc later.0 = up.2 in
    more-within (distance_at distances vertex) (suc (length rest)) up.0 up.1 (omega arith)

-- the first of two words that differ is less
is_le-cons : (one other : ℕ) (path rest : List ℕ) → one ≤ other → (one ≡ other → is_le (slice_cmp nat_cmp path rest) ≡ true)
    → is_le (slice_cmp nat_cmp (one ∷ path) (other ∷ rest)) ≡ true
is_le-cons one other path rest below same = elim (cases_order one other) [
  | inl is ↦ ap (λ o. is_le (ordering_then o (slice_cmp nat_cmp path rest))) (sym (nat_cmp_is one other Equal is)) ∙ same is
  | inr apart ↦ elim apart [
    | inl less ↦ ap (λ o. is_le (ordering_then o (slice_cmp nat_cmp path rest))) (sym (nat_cmp_is one other Less less))
    | inr greater ↦ absurd (omega arith)
  ]
]

-- the way down is the least
descends-least : (network : Network) (rows : List (Vec Arc Global)) (distances : List (Option ℕ)) (distance vertex : ℕ) (path other : List ℕ)
    → IsGraph network.edges rows → AreDistances (map uncut_gate network.edges) rows network.outside distances
    → distance_at distances vertex ≡ Some distance → Descends (map uncut_gate network.edges) rows distances distance (vertex ∷ path)
    → IsWayOut network (vertex ∷ other) → length other ≡ distance
    → is_le (slice_cmp nat_cmp path other) ≡ true
descends-least network rows distances distance vertex [] [] graph all at down way long = refl
descends-least network rows distances distance vertex [] (next ∷ other) graph all at down way long = absurd (let zero_is : distance ≡ 0 = down.0 in omega arith)
descends-least network rows distances distance vertex (next ∷ path) [] graph all at down way long =
    absurd (let same : distance ≡ suc down.0 = down.1 in omega arith)
descends-least network rows distances distance vertex (next ∷ path) (found ∷ other) graph all at down way long =
    let same : distance ≡ suc down.0 = down.1 in
    let later = further (distance_at distances found) (length other) (way-within network rows distances found other graph all way.1) in
    let step = joined-step network.edges vertex found way.0 in
    let up =
    all.above found vertex later.0 later.1
    (step-complete network.edges (map uncut_gate network.edges) rows found vertex graph (step-back network.edges vertex found step)) in
    let high : distance ≤ suc later.0 = rw at at up in
    let low : later.0 ≤ length other = later.2 in
    let equal : later.0 ≡ down.0 = omega arith in
    let found_at : distance_at distances found ≡ Some down.0 = later.1 ∙ ap (λ n. Some n) equal in
    let least = down.2.1 found (step-complete network.edges (map uncut_gate network.edges) rows vertex found graph step, found_at) in
    is_le-cons next found path other least (λ is.
    let way_ = subst (λ n. IsWayOut network (n ∷ other)) (sym is) way.1 in
    descends-least network rows distances down.0 next path other graph all down.2.0.1 down.3 way_ (omega arith))

-- from the least vertex of the least distance it is the least obstacle
pub IsLeastObstacle-descent : (network : Network) (rows : List (Vec Arc Global)) (distances : List (Option ℕ)) (distance first : ℕ)
    (rest : List ℕ) → IsGraph network.edges rows → AreDistances (map uncut_gate network.edges) rows network.outside distances
    → IsLeastDistance distances network.inside (Some distance) → IsLeastAt distances distance network.inside (Some first)
    → Descends (map uncut_gate network.edges) rows distances distance (first ∷ rest)
    → IsLeastObstacle network (first ∷ rest)
IsLeastObstacle-descent network rows distances distance first rest graph all low least down = record {
  obstacle = record { begins = least.0.0; way = descends-way network rows distances distance (first ∷ rest) graph all down };
  shortest = λ other obstacle. shortest other obstacle;
  least = λ other obstacle long. smallest other obstacle long;
}
  where
    long : length (first ∷ rest) ≡ suc distance
    long = descends-length (map uncut_gate network.edges) rows distances distance (first ∷ rest) down

    shortest : (other : List ℕ) → IsObstacle network other → length (first ∷ rest) ≤ length other
    shortest [] obstacle = absurd obstacle.way
    shortest (vertex ∷ other) obstacle =
        let own = further (distance_at distances vertex) (length other) (way-within network rows distances vertex other graph all obstacle.way) in
        let lower = low.1 vertex own.0 (obstacle.begins, own.1) in
        let high : own.0 ≤ length other = own.2 in
        let longer = long in
        omega arith

    smallest : (other : List ℕ) → IsObstacle network other → length other ≡ length (first ∷ rest) → is_le (slice_cmp nat_cmp (first ∷ rest) other) ≡ true
    smallest [] obstacle same = absurd obstacle.way
    smallest (vertex ∷ other) obstacle same =
        let own = further (distance_at distances vertex) (length other) (way-within network rows distances vertex other graph all obstacle.way) in
        let lower = low.1 vertex own.0 (obstacle.begins, own.1) in
        let high : own.0 ≤ length other = own.2 in
        let longer = long in
        let equal : own.0 ≡ distance = omega arith in
        let at : distance_at distances vertex ≡ Some distance = own.1 ∙ ap (λ n. Some n) equal in
        is_le-cons first vertex rest other (least.1 vertex (obstacle.begins, at)) (λ is.
        let way = subst (λ n. IsWayOut network (n ∷ other)) (sym is) obstacle.way in
        descends-least network rows distances distance first rest other graph all least.0.1 down way (omega arith))
