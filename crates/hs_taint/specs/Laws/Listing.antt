-- The list of hazards, one operation after another.
--     hazards_none, hazards_more    of no operation, and of one more
--     hazards_next, hazards_all     at the end of a function, and at the end of the program
--     short_none, short_more, ..    the same of chains that are not too long
use Rattle.hs_chains.specs.Hazards.{Kind, Moved, Purged}
use Rattle.hs_chains.specs.Hazards as chains
use Rattle.hs_code.specs.declared.function_code.FunctionCode.{FunctionCode}
use Rattle.hs_code.specs.declared.function_code.Placed.{Placed}
use Rattle.hs_facts.specs.Effects.{WholeCode, ops_in, placed_in}
use Rattle.hs_flow.specs.Among.{Among, among_left, among_right}
use Rattle.hs_taint.specs.Hazarding.{AreHazards, HasShort, IsAscending, IsBefore, IsHazard, IsListed, IsShort}
use Rattle.hs_taint.specs.Listing.{AreHazardsTo, AreShortTo, IsEarlier, listed_if}
use Rattle.hs_taint.specs.Using.{kind_of}
use Rattle.hs_taint.specs.declared.hazard.Hazard.{Hazard}
use Rattle.hs_taint.specs.declared.hazard.HazardKind.TheVariants as of
use Rattle.std.proofs.Common.{◌≡◌, ◌<◌, ◌≤◌, ◌⊎◌, ◌∙◌, inl, inr, ℕ, suc, nat_lt, Bool, true, false, List, [], ◌∷◌, ◌++◌, length, slice_get, Option, Some, None, ap, sym, subst, refl, arith}
use Rattle.std.proofs.lemmas.Bool.Decides.{nat_tests}
use Rattle.std.proofs.lemmas.Option.{slice_get_within}
use Rattle.std.specs.Bool.{Decides}

-- ---- operations in order

-- an operation before the next one is that one, or is before it
last_or_earlier : (g bt f at : ℕ) → IsEarlier g bt f (suc at) → IsEarlier g bt f at ⊎ ((g ≡ f) × (bt ≡ at))
last_or_earlier g bt f at (inl less) = inl (inl less)
last_or_earlier g bt f at (inr (same, less)) = by (nat_lt bt at) refl
  where
    by : (b : Bool) → nat_lt bt at ≡ b → IsEarlier g bt f at ⊎ ((g ≡ f) × (bt ≡ at))
    by true is = let earlier : bt < at = grind (arith, nat_tests) in inl (inr (same, earlier))
    by false is = let not_earlier : at ≤ bt = grind (arith, nat_tests) in inr (same, omega (arith))

later : (g bt f at : ℕ) → IsEarlier g bt f at → IsEarlier g bt f (suc at)
later g bt f at (inl less) = inl less
later g bt f at (inr (same, less)) = inr (same, omega (arith))

-- before the next function: in this one, or before it
own_or_earlier : (g bt f : ℕ) → IsEarlier g bt (suc f) 0 → (g ≡ f) ⊎ (g < f)
own_or_earlier g bt f (inl less) = by (nat_lt g f) refl
  where
    by : (b : Bool) → nat_lt g f ≡ b → (g ≡ f) ⊎ (g < f)
    by true is = let earlier : g < f = grind (arith, nat_tests) in inr earlier
    by false is = let not_earlier : f ≤ g = grind (arith, nat_tests) in inl (omega (arith))
own_or_earlier g bt f (inr (same, less)) = absurd (omega (arith))

next_function : (g bt f at : ℕ) → IsEarlier g bt f at → IsEarlier g bt (suc f) 0
next_function g bt f at (inl less) = inl (omega (arith))
next_function g bt f at (inr (same, less)) = inl (omega (arith))

-- the operation of a hazard is there
op_below : (whole : WholeCode) (g bt : ℕ) (kind : Kind) → chains.Hazard whole g bt kind → bt < length (ops_in (slice_get whole.functions g))
op_below whole g bt kind hazard = slice_get_within (ops_in (slice_get whole.functions g)) bt hazard.reaches.its hazard.reaches.there

no_ops : (at : ℕ) → at < length (ops_in None) → ⊥
no_ops at is = omega (arith)

function_below : (whole : WholeCode) (g bt : ℕ) (kind : Kind) → chains.Hazard whole g bt kind → g < length whole.functions
function_below whole g bt kind hazard = by (slice_get whole.functions g) refl (op_below whole g bt kind hazard)
  where
    by : (o : Option FunctionCode) → slice_get whole.functions g ≡ o → bt < length (ops_in o) → g < length whole.functions
    by None is below = absurd (no_ops bt below)
    by (Some code) is below = slice_get_within whole.functions g code is

-- an operation up to the end of its function is before that end
within_own : (whole : WholeCode) (g bt f at : ℕ) (kind : Kind) → length (ops_in (slice_get whole.functions f)) ≤ at → IsEarlier g bt (suc f) 0
    → chains.Hazard whole g bt kind → IsEarlier g bt f at
within_own whole g bt f at kind end earlier hazard = by (own_or_earlier g bt f earlier)
  where
    by : (g ≡ f) ⊎ (g < f) → IsEarlier g bt f at
    by (inr less) = inl less
    by (inl same) =
        let below : bt < length (ops_in (slice_get whole.functions f)) =
        subst (λ g. bt < length (ops_in (slice_get whole.functions g))) same (op_below whole g bt kind hazard) in
        inr (same, omega (arith))

-- ---- lists

among_either : (xs ys : List Hazard) (one : Hazard) → Among (xs ++ ys) one → Among xs one ⊎ Among ys one
among_either [] ys one among = inr among
among_either (x ∷ xs) ys one (inl is) = inl (inl is)
among_either (x ∷ xs) ys one (inr among) = by (among_either xs ys one among)
  where
    by : Among xs one ⊎ Among ys one → Among (x ∷ xs) one ⊎ Among ys one
    by (inl among) = inl (inr among)
    by (inr among) = inr among

ascending_more : (its : List Hazard) (it : Hazard) → IsAscending its → ((a : Hazard) → Among its a → IsBefore a it) → IsAscending (its ++ it ∷ [])
ascending_more [] it order before = ((λ b among. absurd among), tt)
ascending_more (a ∷ rest) it order before =
    ((λ b among. by b (among_either rest (it ∷ []) b among)), ascending_more rest it order.1 (λ b among. before b (inr among)))
  where
    by : (b : Hazard) → Among rest b ⊎ Among (it ∷ []) b → IsBefore a b
    by b (inl among) = order.0 b among
    by b (inr (inl is)) = subst (IsBefore a) (sym is) (before a (inl refl))
    by b (inr (inr none)) = absurd none

is_before : (a it : Hazard) → IsEarlier a.function a.at it.function it.at → IsBefore a it
is_before a it (inl less) = inl less
is_before a it (inr (same, less)) = inr (same, inl less)

-- a list with a hazard at its end, if it is one
module _ (whole : WholeCode) (its : List Hazard) (it : Hazard) (is : Bool) (decides : Decides is (chains.Hazard whole it.function it.at (kind_of it.kind)))
    (position : (p : Placed) → placed_in whole it.function it.at ≡ Some p → it.pos ≡ p.at)
  where
    each_with : ((a : Hazard) → Among its a → IsHazard whole a) → (a : Hazard) → Among (its ++ listed_if is it) a → IsHazard whole a
    each_with each a among = by (among_either its (listed_if is it) a among)
      where
        own : (b : Bool) → is ≡ b → Among (listed_if b it) a → IsHazard whole a
        own true listed (inl same) = subst (IsHazard whole) (sym same) (record { is = decides.0 listed; position = position })
        own true listed (inr none) = absurd none
        own false listed among = absurd among

        by : Among its a ⊎ Among (listed_if is it) a → IsHazard whole a
        by (inl among) = each a among
        by (inr among) = own is refl among

    order_with : IsAscending its → ((a : Hazard) → Among its a → IsBefore a it) → IsAscending (its ++ listed_if is it)
    order_with order before = by is
      where
        append_none : (xs : List Hazard) → IsAscending xs → IsAscending (xs ++ [])
        append_none [] order = tt
        append_none (x ∷ xs) order = ((λ b among. order.0 b (back xs b among)), append_none xs order.1)
          where
            back : (xs : List Hazard) (b : Hazard) → Among (xs ++ []) b → Among xs b
            back [] b among = among
            back (x ∷ xs) b (inl is) = inl is
            back (x ∷ xs) b (inr among) = inr (back xs b among)

        by : (b : Bool) → IsAscending (its ++ listed_if b it)
        by true = ascending_more its it order before
        by false = append_none its order

    listed_with : (g bt : ℕ) (kind : Kind) → IsListed its g bt kind → IsListed (its ++ listed_if is it) g bt kind
    listed_with g bt kind listed = record {
      hazard = listed.hazard;
      among = among_left its (listed_if is it) listed.hazard listed.among;
      function = listed.function;
      at_is = listed.at_is;
      kind_is = listed.kind_is;
    }

    own_listed : chains.Hazard whole it.function it.at (kind_of it.kind) → IsListed (its ++ listed_if is it) it.function it.at (kind_of it.kind)
    own_listed hazard = record {
      hazard = it;
      among = among_right its (listed_if is it) it (by is (decides.1 hazard));
      function = refl;
      at_is = refl;
      kind_is = refl;
    }
      where
        by : (b : Bool) → b ≡ true → Among (listed_if b it) it
        by true listed = inl refl
        by false listed = absurd cc

    before_with : (P : Hazard → Type 0) → ((a : Hazard) → Among its a → P a) → P it → (a : Hazard) → Among (its ++ listed_if is it) a → P a
    before_with P its_are own a among = by (among_either its (listed_if is it) a among)
      where
        only : (b : Bool) → Among (listed_if b it) a → P a
        only true (inl same) = subst P (sym same) own
        only true (inr none) = absurd none
        only false among = absurd among

        by : Among its a ⊎ Among (listed_if is it) a → P a
        by (inl among) = its_are a among
        by (inr among) = only is among

-- ---- the hazards of operations

-- of no operation
pub hazards_none : (whole : WholeCode) → AreHazardsTo whole 0 0 []
hazards_none whole = record {
  each = λ it among. absurd among;
  before = λ it among. absurd among;
  all = λ g bt kind earlier hazard. absurd (none g bt earlier);
  order = tt;
}
  where
    none : (g bt : ℕ) → IsEarlier g bt 0 0 → ⊥
    none g bt (inl less) = omega (arith)
    none g bt (inr (same, less)) = omega (arith)

-- of one operation more, which has its place
pub hazards_more : (whole : WholeCode) (f at : ℕ) (p : Placed) (its : List Hazard) (moved purged : Bool) → placed_in whole f at ≡ Some p
    → AreHazardsTo whole f at its → Decides moved (chains.Hazard whole f at Moved) → Decides purged (chains.Hazard whole f at Purged)
    → AreHazardsTo whole f (suc at) ((its ++ listed_if moved (record { function = f; at = at; kind = of.Moved; pos = p.at }))
    ++ listed_if purged (record { function = f; at = at; kind = of.Purged; pos = p.at }))
hazards_more whole f at p its moved purged placed so_far by_moved by_purged = record {
  each = each_with whole with_first second purged by_purged position (each_with whole its first moved by_moved position so_far.each);
  before =
      before_with whole with_first second purged by_purged position (λ a. IsEarlier a.function a.at f (suc at))
      (before_with whole its first moved by_moved position (λ a. IsEarlier a.function a.at f (suc at))
      (λ a among. later a.function a.at f at (so_far.before a among)) here) here;
  all = all;
  order =
      order_with whole with_first second purged by_purged position
      (order_with whole its first moved by_moved position so_far.order (λ a among. is_before a first (so_far.before a among)))
      (before_with whole its first moved by_moved position (λ a. IsBefore a second) (λ a among. is_before a second (so_far.before a among))
      (inr (refl, inr (refl, refl, refl))));
}
  where
    first : Hazard
    first = record { function = f; at = at; kind = of.Moved; pos = p.at }

    second : Hazard
    second = record { function = f; at = at; kind = of.Purged; pos = p.at }

    with_first : List Hazard
    with_first = its ++ listed_if moved first

    position : (q : Placed) → placed_in whole f at ≡ Some q → p.at ≡ q.at
    position q there = ap (λ (q : Placed). q.at) (some_placed (sym placed ∙ there))
      where
        some_placed : {a b : Placed} → Some a ≡ Some b → a ≡ b
        some_placed same = cc

    here : IsEarlier f at f (suc at)
    here = inr (refl, omega (arith))

    own : (kind : Kind) → chains.Hazard whole f at kind → IsListed (with_first ++ listed_if purged second) f at kind
    own Moved hazard =
        listed_with whole with_first second purged by_purged position f at Moved (own_listed whole its first moved by_moved position hazard)
    own Purged hazard = own_listed whole with_first second purged by_purged position hazard

    all : (g bt : ℕ) (kind : Kind) → IsEarlier g bt f (suc at) → chains.Hazard whole g bt kind → IsListed (with_first ++ listed_if purged second) g bt kind
    all g bt kind earlier hazard = by (last_or_earlier g bt f at earlier)
      where
        by : IsEarlier g bt f at ⊎ ((g ≡ f) × (bt ≡ at)) → IsListed (with_first ++ listed_if purged second) g bt kind
        by (inl earlier) =
            listed_with whole with_first second purged by_purged position g bt kind
            (listed_with whole its first moved by_moved position g bt kind (so_far.all g bt kind earlier hazard))
        by (inr (same_f, same_at)) =
            subst (λ g. IsListed (with_first ++ listed_if purged second) g bt kind) (sym same_f)
            (subst (λ bt. IsListed (with_first ++ listed_if purged second) f bt kind) (sym same_at)
            (own kind (subst (λ g. chains.Hazard whole g at kind) same_f (subst (λ bt. chains.Hazard whole g bt kind) same_at hazard))))

-- at the end of a function
pub hazards_next : (whole : WholeCode) (f at : ℕ) (its : List Hazard) → length (ops_in (slice_get whole.functions f)) ≤ at → AreHazardsTo whole f at its
    → AreHazardsTo whole (suc f) 0 its
hazards_next whole f at its end so_far = record {
  each = so_far.each;
  before = λ it among. next_function it.function it.at f at (so_far.before it among);
  all = λ g bt kind earlier hazard. so_far.all g bt kind (within_own whole g bt f at kind end earlier hazard) hazard;
  order = so_far.order;
}

-- at the end of the program
pub hazards_all : (whole : WholeCode) (f : ℕ) (its : List Hazard) → length whole.functions ≤ f → AreHazardsTo whole f 0 its → AreHazards whole its
hazards_all whole f its end so_far = record {
  each = so_far.each;
  all = λ g bt kind hazard. let below = function_below whole g bt kind hazard in so_far.all g bt kind (inl (omega (arith))) hazard;
  order = so_far.order;
}

-- ---- chains that are not too long

-- of no operation
pub short_none : (whole : WholeCode) → AreShortTo whole 0 0
short_none whole = record { each = λ g bt kind earlier hazard. absurd (none g bt earlier) }
  where
    none : (g bt : ℕ) → IsEarlier g bt 0 0 → ⊥
    none g bt (inl less) = omega (arith)
    none g bt (inr (same, less)) = omega (arith)

-- of one operation more
pub short_more : (whole : WholeCode) (f at : ℕ) → AreShortTo whole f at → (chains.Hazard whole f at Moved → IsShort whole f at Moved)
    → (chains.Hazard whole f at Purged → IsShort whole f at Purged) → AreShortTo whole f (suc at)
short_more whole f at so_far moved purged =
    record { each = λ g bt kind earlier hazard. by g bt kind hazard (last_or_earlier g bt f at earlier) }
  where
    own : (kind : Kind) → chains.Hazard whole f at kind → IsShort whole f at kind
    own Moved hazard = moved hazard
    own Purged hazard = purged hazard

    by : (g bt : ℕ) (kind : Kind) → chains.Hazard whole g bt kind → IsEarlier g bt f at ⊎ ((g ≡ f) × (bt ≡ at)) → IsShort whole g bt kind
    by g bt kind hazard (inl earlier) = so_far.each g bt kind earlier hazard
    by g bt kind hazard (inr (same_f, same_at)) =
        subst (λ g. IsShort whole g bt kind) (sym same_f) (subst (λ bt. IsShort whole f bt kind) (sym same_at)
        (own kind (subst (λ g. chains.Hazard whole g at kind) same_f (subst (λ bt. chains.Hazard whole g bt kind) same_at hazard))))

-- at the end of a function
pub short_next : (whole : WholeCode) (f at : ℕ) → length (ops_in (slice_get whole.functions f)) ≤ at → AreShortTo whole f at → AreShortTo whole (suc f) 0
short_next whole f at end so_far =
    record { each = λ g bt kind earlier hazard. so_far.each g bt kind (within_own whole g bt f at kind end earlier hazard) hazard }

-- at the end of the program
pub short_all : (whole : WholeCode) (f : ℕ) → length whole.functions ≤ f → AreShortTo whole f 0 → HasShort whole
short_all whole f end so_far g bt kind hazard =
    let below = function_below whole g bt kind hazard in so_far.each g bt kind (inl (omega (arith))) hazard
