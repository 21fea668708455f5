-- Reaching one list of vertices and then another is reaching both.
use Rattle.std.proofs.Common.{◌≡◌, ℕ, ◌+◌, ◌<◌, List, [], ◌∷◌, ◌++◌, length, take, get_or, refl, ap, sym, ◌∙◌, map, Option, None, Some, Bool, true, false, ◌||◌, ◌&&◌, is_none, filter, flat_map, cond}
use Rattle.std.proofs.lemmas.List.Folds.{list_any-append}
use Rattle.std.proofs.Common.{append-nil}
use Rattle.std.proofs.lemmas.List.Concat.{flat_map-cons}
use Rattle.std.proofs.lemmas.List.{take_more}
use Rattle.std.proofs.lemmas.Grind.{flat_map-append}
use Rattle.hs_cut.specs.Distances.{IsReached, distance_at, distance_after, targets, is_open}
use Rattle.hs_cut.specs.Networks.{among}
use Rattle.hs_cut.specs.declared.graph.Arc.{Arc}
use Rattle.hs_cut.specs.declared.distances.Gate.{Gate}

-- a distance that is given twice is the first one
distance_twice : (distance : ℕ) (one other : Bool) (before : Option ℕ)
    → distance_after distance other (distance_after distance one before) ≡ distance_after distance (one || other) before
distance_twice distance one other (Some own) = refl
distance_twice distance true other None = refl
distance_twice distance false other None = refl

-- what is put is put once
put_twice : (distance : ℕ) (next one other : Bool) (before : Option ℕ)
    → ((next || (is_none before && one)) || (is_none (distance_after distance one before) && other)) ≡ (next || (is_none before && (one || other)))
put_twice distance true one other before = refl
put_twice distance false one other (Some own) = refl
put_twice distance false true other None = refl
put_twice distance false false other None = refl

-- reaching some and then others is reaching all of them
IsReached-append : (distance : ℕ) (some others : List ℕ) (first : List (Option ℕ)) (next : List ℕ) (mid : List (Option ℕ)) (next' : List ℕ)
    (last : List (Option ℕ)) (next'' : List ℕ)
    → IsReached distance some first next mid next' → IsReached distance others mid next' last next''
    → IsReached distance (some ++ others) first next last next''
IsReached-append distance some others first next mid next' last next'' one other = record {
  long = other.long ∙ one.long;
  each = λ vertex.
      other.each vertex
      ∙ ap (distance_after distance (among others vertex)) (one.each vertex)
      ∙ distance_twice distance (among some vertex) (among others vertex) (distance_at first vertex)
      ∙ ap (λ b. distance_after distance b (distance_at first vertex)) (sym (list_any-append _ some others));
  put = λ vertex.
      other.put vertex
      ∙ ap (λ b. b || (is_none (distance_at mid vertex) && among others vertex)) (one.put vertex)
      ∙ ap (λ own. (among next vertex || (is_none (distance_at first vertex) && among some vertex)) || (is_none own && among others vertex)) (one.each vertex)
      ∙ put_twice distance (among next vertex) (among some vertex) (among others vertex) (distance_at first vertex)
      ∙ ap (λ b. among next vertex || (is_none (distance_at first vertex) && b)) (sym (list_any-append _ some others));
  balance = other.balance ∙ one.balance;
}

-- where the arcs of two rows lead
pub targets-append : (gates : List Gate) (some others : List Arc) → targets gates (some ++ others) ≡ targets gates some ++ targets gates others
targets-append gates [] others = refl
targets-append gates (arc ∷ some) others = cases (is_open gates arc) arc.to (targets-append gates some others)
  where
    cases : (b : Bool) (to : ℕ) → targets gates (some ++ others) ≡ targets gates some ++ targets gates others
        → map (λ arc. arc.to) (cond b (arc ∷ filter (is_open gates) (some ++ others)) (filter (is_open gates) (some ++ others)))
        ≡ map (λ arc. arc.to) (cond b (arc ∷ filter (is_open gates) some) (filter (is_open gates) some)) ++ targets gates others
    cases true to same = ap (λ (rest : List ℕ). arc.to ∷ rest) same
    cases false to same = same

-- where an open arc leads
pub targets-open : (gates : List Gate) (arc : Arc) → is_open gates arc ≡ true → targets gates (arc ∷ []) ≡ arc.to ∷ []
targets-open gates arc is = ap (λ b. map (λ arc. arc.to) (cond b (arc ∷ []) [])) is

-- a shut one leads nowhere
pub targets-shut : (gates : List Gate) (arc : Arc) → is_open gates arc ≡ false → targets gates (arc ∷ []) ≡ []
targets-shut gates arc is = ap (λ b. map (λ arc. arc.to) (cond b (arc ∷ []) [])) is

-- what one vertex more leads to is reached too
pub IsReached-next : (f : ℕ → List ℕ) (distance : ℕ) (vertices : List ℕ) (index : ℕ) (found : List ℕ) (first : List (Option ℕ))
    (next : List ℕ) (mid : List (Option ℕ)) (next' : List ℕ) (last : List (Option ℕ)) (next'' : List ℕ)
    → index < length vertices → f (get_or vertices index 0) ≡ found
    → IsReached distance (flat_map f (take index vertices)) first next mid next' → IsReached distance found mid next' last next''
    → IsReached distance (flat_map f (take (index + 1) vertices)) first next last next''
IsReached-next f distance vertices index found first next mid next' last next'' below is one other =
    let grown : flat_map f (take (index + 1) vertices) ≡ flat_map f (take index vertices) ++ found =
    ap (flat_map f) (take_more vertices index 0 below)
    ∙ flat_map-append f (take index vertices) (get_or vertices index 0 ∷ [])
    ∙ ap (λ (found : List ℕ). flat_map f (take index vertices) ++ found)
    (flat_map-cons f (get_or vertices index 0) [] ∙ append-nil (f (get_or vertices index 0)) ∙ is) in
    rw grown (IsReached-append distance (flat_map f (take index vertices)) found first next mid next' last next'' one other)
