-- What the places say once the vertices with a demand are cleared.
use Rattle.std.proofs.Common.{◌≡◌, ◌≢◌, ℕ, ◌<◌, ℤ, pos, nat_eq, not, Bool, true, false, ◌||◌, cond, List, length, get_or, Option, Some, None, refl, sym, ◌∙◌, arith}
use Rattle.std.specs.Prelude.{IfSome, IfNone}
use Rattle.std.specs.List.{position}
use Rattle.std.specs.Ordering.{int_eq}
use Rattle.std.proofs.lemmas.Bool.Decides.{Decides-int_eq}
use Rattle.std.proofs.lemmas.List.Quantifiers.{position-Some}
use Rattle.hs_cut.specs.declared.network.Network.{Network}
use Rattle.hs_cut.specs.Networks.{among}
use Rattle.hs_cut.specs.Flows.{has_demand, net_out, IsConserved}
use Rattle.hs_cert.specs.Certificates.{IsFirstUnequal}
use Rattle.hs_cert.proofs.Agreeing.{all_fail}

-- 0 at the demands, what flows out less what flows in elsewhere
abbrev pub IsBalance : Network → List ℤ → List ℤ → Type 0
IsBalance network flow sums = (vertex : ℕ) → get_or sums vertex (pos 0) ≡ cond (has_demand network vertex) (pos 0) (net_out (nat_eq vertex) network.edges flow)

-- a test of all places
abbrev pub is_unequal : ℤ → Bool
is_unequal sum = not (int_eq sum (pos 0))

-- what the test says of a place
zero : (sum : ℤ) → is_unequal sum ≡ false → sum ≡ pos 0
zero sum is = (Decides-int_eq sum (pos 0)).0 (of_not (int_eq sum (pos 0)) is)
  where
    of_not : (test : Bool) → not test ≡ false → test ≡ true
    of_not test is = grind arith

not_zero : (sum : ℤ) → is_unequal sum ≡ true → sum ≢ pos 0
not_zero sum is same = let yes = (Decides-int_eq sum (pos 0)).1 same in of_not (int_eq sum (pos 0)) is yes
  where
    of_not : (test : Bool) → not test ≡ true → test ≢ true
    of_not test is same = grind arith

-- a place without a demand is the balance of its vertex
kept : (demand : Bool) (sum out : ℤ) → sum ≡ cond demand (pos 0) out → demand ≡ false → sum ≡ out
kept demand sum out is free = rw free at is

-- a place that is not 0 has no demand
free_of : (demand : Bool) (sum out : ℤ) → sum ≡ cond demand (pos 0) out → sum ≢ pos 0 → demand ≡ false
free_of true sum out is unequal = absurd (unequal is)
free_of false sum out is unequal = refl

-- the first place that is not 0 is the first vertex that is unequal
pub first_unequal : (network : Network) (flow sums : List ℤ) → length sums ≡ network.vertices → IsBalance network flow sums
    → (vertex : ℕ) → position is_unequal sums ≡ Some vertex → IsFirstUnequal network flow vertex
first_unequal network flow sums long balance vertex is =
    let found = position-Some is_unequal sums vertex (pos 0) is in
    let unequal : get_or sums vertex (pos 0) ≢ pos 0 = not_zero (get_or sums vertex (pos 0)) found.1 in
    let within : vertex < length sums = found.0 in
    let free : has_demand network vertex ≡ false = free_of (has_demand network vertex) _ _ (balance vertex) unequal in
    record {
      below = omega arith;
      free = free;
      unequal = λ none. unequal (kept (has_demand network vertex) _ _ (balance vertex) free ∙ none);
      first = λ other below free. rw (← kept (has_demand network other) _ _ (balance other) free) (zero (get_or sums other (pos 0)) (found.2 other below));
    }

-- if each place is 0, the flow is conserved
pub conserved : (network : Network) (flow sums : List ℤ) → length sums ≡ network.vertices → IsBalance network flow sums
    → position is_unequal sums ≡ None → IsConserved network flow
conserved network flow sums long balance is vertex below free =
    let within : vertex < length sums = omega arith in
    rw (← kept (has_demand network vertex) _ _ (balance vertex) free) (zero (get_or sums vertex (pos 0)) (all_fail is_unequal sums is vertex (pos 0) within))

-- both lists of demands cleared, one after the other
pub both_cleared : (inside outside : Bool) (sum : ℤ) → cond outside (pos 0) (cond inside (pos 0) sum) ≡ cond (inside || outside) (pos 0) sum
both_cleared true true sum = refl
both_cleared true false sum = refl
both_cleared false true sum = refl
both_cleared false false sum = refl

-- what is found is right
pub first_of : (network : Network) (flow sums : List ℤ) → length sums ≡ network.vertices → IsBalance network flow sums
    → (found : Option ℕ) → found ≡ position is_unequal sums → IfSome found (IsFirstUnequal network flow)
first_of network flow sums long balance (Some vertex) is = first_unequal network flow sums long balance vertex (sym is)
first_of network flow sums long balance None is = tt

-- if none is found, the flow is conserved
pub none_of : (network : Network) (flow sums : List ℤ) → length sums ≡ network.vertices → IsBalance network flow sums
    → (found : Option ℕ) → found ≡ position is_unequal sums → IfNone found (IsConserved network flow)
none_of network flow sums long balance (Some vertex) is = tt
none_of network flow sums long balance None is = conserved network flow sums long balance (sym is)

-- the balance of each vertex, then 0 at what must be inside, then 0 at what must be outside
pub balance_of : (network : Network) (flow sums inner outer : List ℤ)
    → ((vertex : ℕ) → get_or sums vertex (pos 0) ≡ net_out (nat_eq vertex) network.edges flow)
    → ((vertex : ℕ) → get_or inner vertex (pos 0) ≡ cond (among network.inside vertex) (pos 0) (get_or sums vertex (pos 0)))
    → ((vertex : ℕ) → get_or outer vertex (pos 0) ≡ cond (among network.outside vertex) (pos 0) (get_or inner vertex (pos 0)))
    → IsBalance network flow outer
balance_of network flow sums inner outer is_sum is_inner is_outer vertex =
    rw (is_outer vertex, is_inner vertex, is_sum vertex)
    (both_cleared (among network.inside vertex) (among network.outside vertex) (net_out (nat_eq vertex) network.edges flow))
