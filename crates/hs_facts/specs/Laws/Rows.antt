-- Rows of facts, one for each operation, that come down to the facts that hold.
--     HoldsIn-back               what holds in a round holds in the one before
--     Bounds                     some round lies below the rows
--     Bounds-all, Bounds-cut     the rows of all facts are so, and stay so if only facts are taken out that no operation gives
--     Agrees                     what a row has, each operation before it gives
--     Holds-rows, rows-Holds     rows that are bounded and agree are the facts that hold
use Rattle.std.specs.Prelude.{◌≡◌, ◌≢◌, ℕ, zero, suc, slice_get, Some}
use Rattle.hs_code.specs.Following.{IsNext}
use Rattle.hs_code.specs.Stacks.{Scope}
use Rattle.hs_code.specs.declared.function_code.FunctionCode.{FunctionCode}
use Rattle.hs_code.specs.declared.function_code.Placed.{Placed}
use Rattle.hs_facts.specs.Changes.{Impact, Gives}
use Rattle.hs_facts.specs.Laws.More.{Gives-more}
use Rattle.hs_facts.specs.MustFacts.{MustFact}
use Rattle.hs_facts.specs.Rounds.{ExistsAt, HoldsIn, Holds}

module _ (scope : Scope) (code : FunctionCode) (impact : Impact) where
  -- ---- rounds

  -- by induction on the round, as an operation gives no less where more holds
  pub HoldsIn-back : (round at : ℕ) (fact : MustFact) → HoldsIn scope code impact (suc round) at fact → HoldsIn scope code impact round at fact
  HoldsIn-back zero at fact h = (h.0, h.1)
  HoldsIn-back (suc round) at fact h = (
    h.0,
    h.1,
    λ from its there next.
        Gives-more (HoldsIn scope code impact (suc round) from) (HoldsIn scope code impact round from) (λ it. HoldsIn-back round from it) scope code impact
        its.op its.places fact (h.2 from its there next),
  )

  -- ---- rows

  -- a fact of an operation other than the first
  abbrev pub MayHold : ℕ → MustFact → Type 0
  MayHold at fact = ExistsAt scope code at fact × (at ≢ 0)

  -- what holds in some round is in the rows, and what is in the rows may hold
  pub record Bounds (rows : ℕ → MustFact → Type 0) : Type 0 where
    pub round : ℕ
    pub above : (at : ℕ) (fact : MustFact) → HoldsIn scope code impact round at fact → rows at fact
    pub exist : (at : ℕ) (fact : MustFact) → rows at fact → MayHold at fact

  -- each operation gives what the rows after it have
  abbrev pub Agrees : (ℕ → MustFact → Type 0) → Type 0
  Agrees rows = (from at : ℕ) (its : Placed) (fact : MustFact) → slice_get code.ops from ≡ Some its → IsNext its.op code.cases from at
      → rows at fact → Gives scope code impact (rows from) its.op its.places fact

  -- facts were taken out of the rows, but none that each operation before it gives
  pub record IsCut (old new : ℕ → MustFact → Type 0) : Type 0 where
    pub back : (at : ℕ) (fact : MustFact) → new at fact → old at fact
    pub kept : (at : ℕ) (fact : MustFact) → old at fact
        → ((from : ℕ) (its : Placed) → slice_get code.ops from ≡ Some its → IsNext its.op code.cases from at
        → Gives scope code impact (old from) its.op its.places fact)
        → new at fact

  -- round 0
  pub Bounds-all : Bounds MayHold
  Bounds-all = record { round = 0; above = λ at fact h. h; exist = λ at fact h. h }

  -- one cut takes the next round
  pub Bounds-cut : (old new : ℕ → MustFact → Type 0) → Bounds old → IsCut old new → Bounds new
  Bounds-cut old new bounds cut = record {
    round = suc bounds.round;
    above = λ at fact h. cut.kept at fact (bounds.above at fact (HoldsIn-back bounds.round at fact h)) (λ from its there next.
        Gives-more (HoldsIn scope code impact bounds.round from) (old from) (λ it. bounds.above from it) scope code impact its.op its.places fact
        (h.2 from its there next));
    exist = λ at fact h. bounds.exist at fact (cut.back at fact h);
  }

  -- ---- what holds

  -- rows that agree are in every round, by induction on it
  in_round : (rows : ℕ → MustFact → Type 0) → ((at : ℕ) (fact : MustFact) → rows at fact → MayHold at fact) → Agrees rows
      → (round at : ℕ) (fact : MustFact) → rows at fact → HoldsIn scope code impact round at fact
  in_round rows exist agrees zero at fact h = exist at fact h
  in_round rows exist agrees (suc round) at fact h = (
    (exist at fact h).0,
    (exist at fact h).1,
    λ from its there next.
        Gives-more (rows from) (HoldsIn scope code impact round from) (λ it. in_round rows exist agrees round from it) scope code impact
        its.op its.places fact (agrees from at its fact there next h),
  )

  -- rows may have facts of some forms alone
  pub rows-Holds : (rows : ℕ → MustFact → Type 0) → ((at : ℕ) (fact : MustFact) → rows at fact → MayHold at fact) → Agrees rows
      → (at : ℕ) (fact : MustFact) → rows at fact → Holds scope code impact at fact
  rows-Holds rows exist agrees at fact h = λ round. in_round rows exist agrees round at fact h

  pub Holds-rows : (rows : ℕ → MustFact → Type 0) → Bounds rows → (at : ℕ) (fact : MustFact) → Holds scope code impact at fact → rows at fact
  Holds-rows rows bounds at fact h = bounds.above at fact (h bounds.round)
