-- Pairs that make an operation a hazard, and its hazards.
--     reaches_bad                   a chain to the use, from a bad pair
--     bad_of                        a bad pair, from a chain to the use
--     range_there                   an operation has its pairs
--     hazard_decides                there is a least length exactly if the operation is a hazard
--     long_if_past, short_if_not    by whether the least length is too long
use Rattle.hs_chains.specs.Chains.{Chain, EndsIn}
use Rattle.hs_chains.specs.Hazards.{Kind, Moved, Purged, ReachesBad, bad, is_used}
use Rattle.hs_chains.specs.Hazards as chains
use Rattle.hs_chains.specs.Knowledge.{IsKnowledge, Knowledge}
use Rattle.hs_chains.specs.Laws.Knowing.{hazard_known}
use Rattle.hs_code.specs.Stacks.{Scope}
use Rattle.hs_code.specs.declared.function_code.Placed.{Placed}
use Rattle.hs_facts.specs.Effects.{WholeCode, placed_in}
use Rattle.hs_flow.specs.Among.{Among}
use Rattle.hs_flow.specs.Programs.{scope_at}
use Rattle.hs_flow.specs.declared.fact.Fact.{Fact}
use Rattle.hs_flow.specs.declared.fact.FactStatus.{FactStatus}
use Rattle.hs_flow.specs.declared.fact.FactStatus.TheVariants as status
use Rattle.hs_flow.specs.declared.fact.Slot.{Slot}
use Rattle.hs_flow.specs.declared.fact.Slot.TheVariants as slot
use Rattle.hs_taint.specs.Hazarding.{IsLeastBad, IsLong, IsShort, is_bad, is_bad_status, is_used_slot}
use Rattle.hs_taint.specs.Laws.Entries.{entry_there}
use Rattle.hs_taint.specs.Laws.Nodes.{there_placed}
use Rattle.hs_taint.specs.Listing.{is_past}
use Rattle.hs_taint.specs.Points.{is_there}
use Rattle.hs_taint.specs.Reaching.{AreExact, IsInRange, IsLength, IsSolved, most_steps, pairs_in}
use Rattle.hs_taint.specs.declared.reached.Pair.{Pair}
use Rattle.hs_taint.specs.declared.reached.Reached.{Reached}
use Rattle.std.proofs.Common.{◌≡◌, ◌<◌, ◌≤◌, ◌∙◌, inl, inr, ℕ, Bool, true, false, ◌&&◌, Option, Some, None, ap, sym, subst, refl, arith, is_some}
use Rattle.std.proofs.lemmas.Bool.Decides.{nat_tests}
use Rattle.std.specs.Bool.{Decides}

-- both hold
both : (a b : Bool) → a && b ≡ true → (a ≡ true) × (b ≡ true)
both true true is = (refl, refl)
both true false is = absurd cc
both false b is = absurd cc

-- the status is the bad one of the kind
bad_is : (its : FactStatus) (kind : Kind) → is_bad_status its kind ≡ true → its ≡ bad kind
bad_is status.Stale Moved is = refl
bad_is status.Hollow Purged is = refl
bad_is status.Stale Purged is = absurd cc
bad_is status.Hollow Moved is = absurd cc
bad_is status.Loose kind is = absurd cc
bad_is status.Outer kind is = absurd cc
bad_is status.Held kind is = absurd cc
bad_is (status.Fresh h) kind is = absurd cc
bad_is status.SavedPurgeable kind is = absurd cc
bad_is status.Purgeable kind is = absurd cc
bad_is status.IsHandle kind is = absurd cc
bad_is status.Reached kind is = absurd cc

-- and the bad one is
is_bad_one : (kind : Kind) → is_bad_status (bad kind) kind ≡ true
is_bad_one Moved = refl
is_bad_one Purged = refl

module _ (scope : Scope) (its : Placed) (kind : Kind) where
  -- what makes the operation a hazard
  record IsBadUse (fact : Fact) : Type 0 where
    place : ℕ
    is : fact ≡ record { slot = slot.Place place; status = bad kind }
    used : is_used scope its.op its.places kind place ≡ true

  use_at : (of : Slot) → is_used_slot scope its kind of ≡ true → (place : ℕ) × (of ≡ slot.Place place) × (is_used scope its.op its.places kind place ≡ true)
  use_at slot.Nothing used = absurd cc
  use_at slot.Answer used = absurd cc
  use_at (slot.Variable v) used = absurd cc
  use_at (slot.Place place) used = (place, refl, used)
  use_at (slot.Class class) used = absurd cc

  bad_use : (fact : Fact) → is_bad scope its kind fact ≡ true → IsBadUse fact
  bad_use fact is =
      let parts = both (is_bad_status fact.status kind) (is_used_slot scope its kind fact.slot) is in
      let at = use_at fact.slot parts.1 in
      let status = bad_is fact.status kind parts.0 in
      record { place = at.0; is = λ i. record { slot = at.1 i; status = status i }; used = at.2 }

  bad_fact : (place : ℕ) → is_used scope its.op its.places kind place ≡ true
      → is_bad scope its kind (record { slot = slot.Place place; status = bad kind }) ≡ true
  bad_fact place used =
      ap (λ b. b && is_used scope its.op its.places kind place) (is_bad_one kind) ∙ used

module _ (whole : WholeCode) (known : Knowledge) (reached : Reached) (is_known : IsKnowledge whole known) (exact : AreExact whole known reached)
    (f at : ℕ) (its : Placed) (placed : placed_in whole f at ≡ Some its) (kind : Kind)
  where
    there : is_there whole.functions f at ≡ true
    there = there_placed whole f at its placed

    -- a chain to the use, from one that ends in a bad pair
    reaches_by : (n : ℕ) (p : Pair) → EndsIn whole known n f at p.entry p.fact → is_bad (scope_at whole f) its kind p.fact ≡ true
        → (r : ReachesBad whole known f at kind) × (r.length ≡ n)
    reaches_by n p ends is =
        let it = bad_use (scope_at whole f) its kind p.fact is in (
          record {
            its = its;
            there = placed;
            place = it.place;
            used = it.used;
            length = n;
            stack = ends.stack;
            chain = subst (λ fact. Chain whole known n (record { function = f; at = at; fact = fact }) ends.stack) it.is ends.chain;
          },
          refl,
        )

    -- a bad pair in which a chain to the use ends
    record IsFoundFor (n : ℕ) : Type 0 where
      pair : Pair
      among : Among (pairs_in reached f at) pair
      bad : is_bad (scope_at whole f) its kind pair.fact ≡ true
      ends : EndsIn whole known n f at pair.entry pair.fact

    found_for : (r : ReachesBad whole known f at kind) → IsFoundFor r.length
    found_for r =
        let fact : Fact = record { slot = slot.Place r.place; status = bad kind } in
        let entry = entry_there whole known r.length f at fact r.stack r.chain in
        let it = exact.all r.length f at entry.0 fact there entry.1 in
        let same : r.its ≡ its = some_placed (sym r.there ∙ placed) in
        let used : is_used (scope_at whole f) its.op its.places kind r.place ≡ true =
        subst (λ its. is_used (scope_at whole f) its.op its.places kind r.place ≡ true) same r.used in
        record {
          pair = it.pair;
          among = it.among;
          bad = ap (is_bad (scope_at whole f) its kind) it.fact_is ∙ bad_fact (scope_at whole f) its kind r.place used;
          ends =
              subst (λ e. EndsIn whole known r.length f at e it.pair.fact) (sym it.entry_is)
              (subst (EndsIn whole known r.length f at entry.0) (sym it.fact_is) entry.1);
        }
      where
        some_placed : {a b : Placed} → Some a ≡ Some b → a ≡ b
        some_placed same = cc

    hazard_of : ReachesBad whole known f at kind → chains.Hazard whole f at kind
    hazard_of reaches = record { known = known; is_known = is_known; reaches = reaches }

    -- a bad pair makes the operation a hazard
    by_pair : (p : Pair) → Among (pairs_in reached f at) p → is_bad (scope_at whole f) its kind p.fact ≡ true → ReachesBad whole known f at kind
    by_pair p among is = let ends = exact.ends f at p there among in (reaches_by ends.0 p ends.1 is).0

    -- there is a least length exactly if the operation is a hazard
    pub hazard_decides : (least : Option ℕ) → IsLeastBad (scope_at whole f) its kind (pairs_in reached f at) least
        → Decides (is_some least) (chains.Hazard whole f at kind)
    hazard_decides None none = ((λ is. absurd cc), λ hazard. absurd (no hazard))
      where
        no : chains.Hazard whole f at kind → ⊥
        no hazard =
            let it = found_for (hazard_known whole known is_known f at kind hazard) in
            let bad = it.bad in
            let not_bad = none it.pair it.among in
            cc
    hazard_decides (Some least) some = ((λ is. hazard_of (by_pair some.0.pair some.0.among some.0.bad)), λ hazard. refl)

    -- too long: so is each chain
    pub long_if_past : (least : Option ℕ) → IsLeastBad (scope_at whole f) its kind (pairs_in reached f at) least → is_past least ≡ true
        → IsLong whole f at kind
    long_if_past None none past = absurd cc
    long_if_past (Some least) some past = record {
      known = known;
      is_known = is_known;
      reaches = by_pair some.0.pair some.0.among some.0.bad;
      long = long;
    }
      where
        past_is : most_steps < least
        past_is = grind (arith, nat_tests)

        long : (r : ReachesBad whole known f at kind) → most_steps < r.length
        long r =
            let it = found_for r in
            by it (exact.lengths f at it.pair there it.among) (some.1 it.pair it.among it.bad)
          where
            by : (it : IsFoundFor r.length) → IsLength whole known f at it.pair → least ≤ it.pair.length → most_steps < r.length
            by it (inl short) less = let most = short.0 in let past = past_is in absurd (omega (arith))
            by it (inr far) less = far.1 r.length it.ends

    -- not too long: a chain of that length
    pub short_if_not : (least : Option ℕ) → IsLeastBad (scope_at whole f) its kind (pairs_in reached f at) least → is_past least ≡ false
        → chains.Hazard whole f at kind → IsShort whole f at kind
    short_if_not None none past hazard = absurd (no (hazard_decides None none) hazard)
      where
        no : Decides false (chains.Hazard whole f at kind) → chains.Hazard whole f at kind → ⊥
        no decides hazard = let is = decides.1 hazard in cc
    short_if_not (Some least) some past hazard = by (exact.lengths f at some.0.pair there some.0.among)
      where
        not_past : least ≤ most_steps
        not_past = grind (arith, nat_tests)

        by : IsLength whole known f at some.0.pair → IsShort whole f at kind
        by (inl short) =
            let it = reaches_by some.0.pair.length some.0.pair short.1.ends some.0.bad in
            let most = short.0 in
            let long = it.1 in
            record { known = known; is_known = is_known; reaches = it.0; short = omega (arith) }
        by (inr far) = let long = far.0 in let own = some.0.long in let less = not_past in absurd (omega (arith))

-- an operation has its pairs
pub range_there : (whole : WholeCode) (reached : Reached) (f at : ℕ) (its : Placed) → IsSolved whole reached → placed_in whole f at ≡ Some its
    → IsInRange reached f at
range_there whole reached f at its solved placed = solved.exact.range f at (there_placed whole f at its placed)
