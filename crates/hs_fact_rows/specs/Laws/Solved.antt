-- Rows that are solved have exactly the facts With and Saved that hold.
--     IsOf scope task            the task is that of the code in its scope
--     Holds-solved               such a fact holds if its row has it
--     solved-Holds               and it has it, if it holds
--     Round-solved, agrees       it has what holds in some round, and each operation gives it
--     shared_Holds, Holds-shared     what `shares` tests is that of a restore
use Rattle.std.proofs.Common.{◌≡◌, ◌≢◌, ◌<◌, ◌≤◌, ℕ, nat_lt, true, sym, subst, ◌∙◌, refl, arith, length, slice_get, Option, Some, None, get_or}
use Rattle.std.proofs.lemmas.Option.{slice_get_within, slice_get-get_or}
use Rattle.hs_code.specs.Following.{Follows, IsNext, IsNextOf}
use Rattle.hs_code.specs.Stacks.{Scope}
use Rattle.hs_code.specs.declared.function_code.Placed.{Placed}
use Rattle.hs_fact_rows.specs.Cells.{IsIn, cell_of, index_of, with_at, saved_at}
use Rattle.hs_fact_rows.specs.Cuts as numeric
use Rattle.hs_fact_rows.specs.Cuts.{Task, Cuts, uncut, cut, IsFull, IsSolved, IsTask, AgreesFrom, GivesFrom, facts_at, ops}
use Rattle.hs_fact_rows.specs.Given.{with_of, saved_of}
use Rattle.hs_fact_rows.specs.Laws.Exact.{IsTracked, gives_after, after_gives, impact_by}
use Rattle.hs_fact_rows.specs.Laws.Numbers.{less_numbers, some_one, true_not_false, index_least, both, both_true, less_number}
use Rattle.hs_fact_rows.specs.Steps.{OpFits, step_of}
use Rattle.hs_fact_rows.specs.declared.step.Step.{Step}
use Rattle.hs_facts.specs.Changes.{Gives}
use Rattle.hs_facts.specs.Laws.Rows.{Bounds, IsCut, Agrees, Bounds-cut, rows-Holds, Holds-rows}
use Rattle.hs_facts.specs.MustFacts.{MustFact, on_stack, in_slot, With, Saved, Kept, Locked, Live, Distinct, New, Exists}
use Rattle.hs_facts.specs.Names.{is_name}
use Rattle.hs_facts.specs.Rounds.{ExistsAt, Holds, HoldsIn}
use Rattle.hs_rows.specs.Sets.{Sets}
use Rattle.hs_tree.specs.declared.head.Variable.{Variable}
use Rattle.hs_tree.specs.declared.head.Variable.TheVariants as name

-- the task is that of the code in its scope: its names are handle names, its steps those of the operations, and its plan has all places
pub record IsOf (scope : Scope) (task : Task) : Type 0 where
  pub whole : IsTask task
  pub distinct : (i : ℕ) (x : Variable) → slice_get task.names i ≡ Some x → index_of task.names x ≡ i
  pub are_names : (v : Variable) → index_of task.names v < length task.names → is_name scope task.code v ≡ true
  pub steps : (at : ℕ) (its : Placed) → slice_get task.code.ops at ≡ Some its
      → slice_get task.steps at ≡ Some (step_of scope task.code task.names task.slots its.op its.places)
  pub places : (at : ℕ) (its : Placed) → slice_get task.code.ops at ≡ Some its → its.places ≤ task.plan.places
  pub op_fits : (at : ℕ) (its : Placed) → slice_get task.code.ops at ≡ Some its → OpFits scope task.slots task.assigned its.op

module _ (scope : Scope) (task : Task) (of : IsOf scope task) where
  -- a fact of the code is one of the plan
  cell_in : (places : ℕ) (fact : MustFact) → places ≤ task.plan.places → IsTracked task.names fact → Exists scope task.code places fact
      → IsIn task.plan (cell_of task.names task.slots fact)
  cell_in places (With p x) low is e =
      let under = e.under in (
        omega (arith, low, under),
        subst (λ n. index_of task.names x < n) of.whole.names is,
      )
  cell_in places (Saved (on_stack p) x) low is e =
      let under = e.under in (
        omega (arith, low, under),
        subst (λ n. index_of task.names x < n) of.whole.names is,
      )
  cell_in places (Saved (in_slot b) x) low is e = (
    subst (λ n. index_of task.slots b ≤ n) of.whole.slots (index_least task.slots b),
    subst (λ n. index_of task.names x < n) of.whole.names is,
  )
  cell_in places (Kept b x) low is e = absurd is
  cell_in places (Locked x) low is e = absurd is
  cell_in places (Live x) low is e = absurd is
  cell_in places (Distinct x y) low is e = absurd is
  cell_in places (New p) low is e = absurd is

  in_at : (at : ℕ) (fact : MustFact) → IsTracked task.names fact → ExistsAt scope task.code at fact → IsIn task.plan (cell_of task.names task.slots fact)
  in_at at fact is e = cell_in e.0.places fact (of.places at e.0 e.1) is e.2

  within : (at : ℕ) (fact : MustFact) → ExistsAt scope task.code at fact → at < ops task
  within at fact e = slice_get_within task.code.ops at e.0 e.1

  -- ---- rows as facts

  -- what may hold, and is in the row if it is With or Saved
  abbrev pub Rows : Sets → ℕ → MustFact → Type 0
  Rows sets at fact = ExistsAt scope task.code at fact × (at ≢ 0) × (IsTracked task.names fact → facts_at task sets at (cell_of task.names task.slots fact) ≡ true)

  -- none before the first operation
  abbrev NoneFirst : Sets → Type 0
  NoneFirst sets = (fact : MustFact) → IsTracked task.names fact → ExistsAt scope task.code 0 fact → facts_at task sets 0 (cell_of task.names task.slots fact) ≡ true → ⊥

  into : (sets : Sets) → NoneFirst sets → (from : ℕ) (its : Placed) → slice_get task.code.ops from ≡ Some its → (fact : MustFact) → IsTracked task.names fact
      → Exists scope task.code its.places fact → facts_at task sets from (cell_of task.names task.slots fact) ≡ true → Rows sets from fact
  into sets none from its there fact is e h = ((its, there, e), not_first, λ _. h)
    where
      not_first : from ≢ 0
      not_first k = none fact is (its, subst (λ n. slice_get task.code.ops n ≡ Some its) k there, e)
          (subst (λ n. facts_at task sets n (cell_of task.names task.slots fact) ≡ true) k h)

  out : (sets : Sets) (from : ℕ) (its : Placed) → slice_get task.code.ops from ≡ Some its → (fact : MustFact) → IsTracked task.names fact → Rows sets from fact
      → Exists scope task.code its.places fact × (facts_at task sets from (cell_of task.names task.slots fact) ≡ true)
  out sets from its there fact is r =
      (subst (λ (p : Placed). Exists scope task.code p.places fact) (some_one r.0.0 its (sym r.0.1 ∙ there)) r.0.2, r.2 is)

  -- ---- cuts

  follows_next : (from at : ℕ) → Follows task.code from at → (its : Placed) × (slice_get task.code.ops from ≡ Some its) × IsNext its.op task.code.cases from at
  follows_next from at f = by_case (slice_get task.code.ops from) refl f
    where
      by_case : (it : Option Placed) → slice_get task.code.ops from ≡ it → IsNextOf it task.code.cases from at
          → (its : Placed) × (slice_get task.code.ops from ≡ Some its) × IsNext its.op task.code.cases from at
      by_case None e f = absurd f
      by_case (Some its) e f = (its, e, f)

  next_follows : (from at : ℕ) (its : Placed) → slice_get task.code.ops from ≡ Some its → IsNext its.op task.code.cases from at → Follows task.code from at
  next_follows from at its there f = subst (λ (it : Option Placed). IsNextOf it task.code.cases from at) (sym there) f

  cut_rows : (old new : Sets) → NoneFirst old → numeric.IsCut task old new → IsCut scope task.code (impact_by task.assigned) (Rows old) (Rows new)
  cut_rows old new none c = record {
    back = λ at fact h. (h.0, h.1, λ is. c.back at (cell_of task.names task.slots fact) (within at fact h.0) (in_at at fact is h.0) (h.2 is));
    kept = λ at fact h gives. (
      h.0,
      h.1,
      λ is. c.kept at (cell_of task.names task.slots fact) (within at fact h.0) (in_at at fact is h.0) (h.2 is)
          (λ from f stp there. given_from at fact gives is from (follows_next from at f) stp there),
    );
  }
    where
      given_from : (at : ℕ) (fact : MustFact) → ((from : ℕ) (its : Placed) → slice_get task.code.ops from ≡ Some its → IsNext its.op task.code.cases from at
          → Gives scope task.code (impact_by task.assigned) (Rows old from) its.op its.places fact) → IsTracked task.names fact → (from : ℕ)
          → ((its : Placed) × (slice_get task.code.ops from ≡ Some its) × IsNext its.op task.code.cases from at) → (stp : Step)
          → slice_get task.steps from ≡ Some stp
          → numeric.after task stp (facts_at task old from) (cell_of task.names task.slots fact) ≡ true
      given_from at fact gives is from f stp there =
          subst (λ (s : Step). numeric.after task s (facts_at task old from) (cell_of task.names task.slots fact) ≡ true)
          (some_one (step_of scope task.code task.names task.slots f.0.op f.0.places) stp (sym (of.steps from f.0 f.1) ∙ there))
          (after_gives scope task.code task.names task.slots task.assigned (Rows old from) (facts_at task old from) f.0.places
          (into old none from f.0 f.1) (out old from f.0 f.1) f.0.op fact (of.op_fits from f.0 f.1) is (gives from f.0 f.1 f.2))

  none_back : (old new : Sets) → NoneFirst old → numeric.IsCut task old new → NoneFirst new
  none_back old new none c fact is e h =
      none fact is e (c.back 0 (cell_of task.names task.slots fact) (within 0 fact e) (in_at 0 fact is e) h)

  full_none : (sets : Sets) → IsFull task sets → NoneFirst sets
  full_none sets full fact is e h =
      true_not_false (sym h ∙ full.none (cell_of task.names task.slots fact) (within 0 fact e) (in_at 0 fact is e))

  record Stand (sets : Sets) : Type 0 where
    bounds : Bounds scope task.code (impact_by task.assigned) (Rows sets)
    none : NoneFirst sets

  stand_full : (sets : Sets) → IsFull task sets → Stand sets
  stand_full sets full = record {
    bounds = record {
      round = 0;
      above = λ at fact h. (h.0, h.1, λ is. full.all at (cell_of task.names task.slots fact) (within at fact h.0) h.1 (in_at at fact is h.0));
      exist = λ at fact h. (h.0, h.1);
    };
    none = full_none sets full;
  }

  stand_cuts : (full sets : Sets) → IsFull task full → Cuts task full sets → Stand sets
  stand_cuts full sets is_full (uncut it) = stand_full it is_full
  stand_cuts full sets is_full (cut first mid last c d) =
      let before = stand_cuts first mid is_full c in
      record {
        bounds = Bounds-cut scope task.code (impact_by task.assigned) (Rows mid) (Rows last) before.bounds (cut_rows mid last before.none d);
        none = none_back mid last before.none d;
      }

  -- ---- what holds

  module _ (sets : Sets) (solved : IsSolved task sets) where
    stand : Stand sets
    stand = stand_cuts solved.full sets solved.is_full solved.cuts

    pub Holds-solved : (at : ℕ) (fact : MustFact) → IsTracked task.names fact → Holds scope task.code (impact_by task.assigned) at fact
        → facts_at task sets at (cell_of task.names task.slots fact) ≡ true
    Holds-solved at fact is h = (Holds-rows scope task.code (impact_by task.assigned) (Rows sets) stand.bounds at fact h).2 is

    -- what holds in some round is in the row
    pub Round-solved : (round : ℕ) × ((at : ℕ) (fact : MustFact) → IsTracked task.names fact
        → HoldsIn scope task.code (impact_by task.assigned) round at fact → facts_at task sets at (cell_of task.names task.slots fact) ≡ true)
    Round-solved = (stand.bounds.round, λ at fact is h. (stand.bounds.above at fact h).2 is)

    -- the rows of With and Saved alone
    abbrev pub ByteRows : ℕ → MustFact → Type 0
    ByteRows at fact = IsTracked task.names fact × Rows sets at fact

    pub agrees : Agrees scope task.code (impact_by task.assigned) ByteRows
    agrees from at its fact there next r =
        let is = r.0 in
        let e = r.1.0 in
        gives_after scope task.code task.names task.slots task.assigned (ByteRows from) (facts_at task sets from) its.places
        (λ it of_byte exists h. (of_byte, into sets stand.none from its there it of_byte exists h)) (λ it of_byte k. out sets from its there it
        of_byte k.1)
        its.op fact (of.op_fits from its there) is e.2.named
        (solved.agrees from (slice_get_within task.code.ops from its there) at (cell_of task.names task.slots fact) (within at fact e) (in_at at fact is e)
        (next_follows from at its there next) (r.1.2 is) (step_of scope task.code task.names task.slots its.op its.places) (of.steps from its there))

    pub solved-Holds : (at : ℕ) (fact : MustFact) → IsTracked task.names fact → ExistsAt scope task.code at fact
        → facts_at task sets at (cell_of task.names task.slots fact) ≡ true
        → Holds scope task.code (impact_by task.assigned) at fact
    solved-Holds at fact is e h =
        rows-Holds scope task.code (impact_by task.assigned) ByteRows (λ it f r. (r.1.0, r.1.1)) agrees at fact (is, (e, not_first, λ _. h))
      where
        not_first : at ≢ 0
        not_first k = stand.none fact is (subst (λ n. ExistsAt scope task.code n fact) k e) (subst (λ n. facts_at task sets n (cell_of task.names
            task.slots fact) ≡ true) k h)

    -- ---- restores

    -- one name has With of the one place and Saved of the other
    abbrev pub IsShared : ℕ → ℕ → ℕ → Type 0
    IsShared at place byte =
        (x : Variable) × Holds scope task.code (impact_by task.assigned) at (With place x) × Holds scope task.code (impact_by task.assigned) at
        (Saved (on_stack byte) x)

    pub shared_Holds : (at place byte i : ℕ) (its : Placed) → slice_get task.code.ops at ≡ Some its → i < task.plan.names
        → with_of (facts_at task sets at) its.places place i ≡ true → saved_of (facts_at task sets at) its.places byte i ≡ true → IsShared at place byte
    shared_Holds at place byte i its there within_names h k =
        let x = get_or task.names i (name.Global 0) in
        let below : i < length task.names = subst (λ n. i < n) (sym of.whole.names) within_names in
        let named = slice_get-get_or task.names i (name.Global 0) below in
        let number = of.distinct i x named in
        let listed : index_of task.names x < length task.names = subst (λ n. n < length task.names) (sym number) below in
        let is_name_x : is_name scope task.code x ≡ true = of.are_names x listed in
        let w = both (nat_lt place its.places) (facts_at task sets at (with_at place i)) h in
        let s = both (nat_lt byte its.places) (facts_at task sets at (saved_at byte i)) k in (
          x,
          solved-Holds at (With place x) listed (its, there, record { under = less_numbers place its.places w.0; named = is_name_x })
              (subst (λ n. facts_at task sets at (with_at place n) ≡ true) (sym number) w.1),
          solved-Holds at (Saved (on_stack byte) x) listed (its, there, record { under = less_numbers byte its.places s.0; named = (tt, is_name_x) })
              (subst (λ n. facts_at task sets at (saved_at byte n) ≡ true) (sym number) s.1),
        )

    -- if the name is listed
    pub Holds-shared : (at place byte : ℕ) (its : Placed) → slice_get task.code.ops at ≡ Some its → (h : IsShared at place byte)
        → index_of task.names h.0 < length task.names
        → (i : ℕ) × (i < task.plan.names) × (with_of (facts_at task sets at) its.places place i ≡ true) × (saved_of (facts_at task sets at)
        its.places byte i ≡ true)
    Holds-shared at place byte its there h listed =
        let x = h.0 in
        let e = (h.1 0).0 in
        let f = (h.2 0).0 in
        let exists_with = subst (λ (p : Placed). Exists scope task.code p.places (With place x)) (some_one e.0 its (sym e.1 ∙ there)) e.2 in
        let exists_saved = subst (λ (p : Placed). Exists scope task.code p.places (Saved (on_stack byte) x)) (some_one f.0 its (sym f.1 ∙ there)) f.2 in (
          index_of task.names x,
          subst (λ n. index_of task.names x < n) of.whole.names listed,
          both_true (nat_lt place its.places) (facts_at task sets at (with_at place (index_of task.names x))) (less_number place its.places exists_with.under)
              (Holds-solved at (With place x) listed h.1),
          both_true (nat_lt byte its.places) (facts_at task sets at (saved_at byte (index_of task.names x))) (less_number byte its.places exists_saved.under)
              (Holds-solved at (Saved (on_stack byte) x) listed h.2),
        )
