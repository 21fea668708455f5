-- Rows that are solved have exactly the facts Kept, Locked, Live, Distinct and New that hold.
--     IsOf ..                      the changes are those of the code, and all its names are listed
--     number_in                    a fact of the plan has a number below the total
--     Holds-locks, locks-Holds     such a fact holds exactly if its row has it
--     Holds-low, low-Holds         so do With and Saved, by the rows that were found before
use Rattle.std.proofs.Common.{◌≡◌, ◌≢◌, ◌<◌, ◌≤◌, ◌⊎◌, ℕ, zero, suc, ◌+◌, ◌*◌, Bool, true, sym, subst, ◌∙◌, refl, inl, inr, arith, List, length, slice_get, Option, Some, None}
use Rattle.std.proofs.lemmas.Nat.{row_fits}
use Rattle.std.proofs.lemmas.Option.{slice_get_within}
use Rattle.std.specs.Bool.{Decides}
use Rattle.hs_code.specs.Following.{Follows, IsNext, IsNextOf}
use Rattle.hs_code.specs.Stacks.{Scope}
use Rattle.hs_code.specs.declared.function_code.Placed.{Placed}
use Rattle.hs_cuts.specs.Cuts as numeric
use Rattle.hs_fact_rows.specs.Cells.{cell_of, index_of}
use Rattle.hs_fact_rows.specs.Cuts as low_rows
use Rattle.hs_fact_rows.specs.Laws.Exact.{IsTracked, impact_by}
use Rattle.hs_fact_rows.specs.Laws.Numbers.{index_least, some_one, true_not_false}
use Rattle.hs_fact_rows.specs.Laws.Solved as low_laws
use Rattle.hs_fact_rows.specs.declared.plan.Plan.{Plan}
use Rattle.hs_facts.specs.Changes.{Gives}
use Rattle.hs_facts.specs.Laws.Bytes.{IsOfByte, Gives-byte, Holds-bytes}
use Rattle.hs_facts.specs.Laws.Rows.{Bounds, IsCut, Agrees, Bounds-cut, rows-Holds, Holds-rows}
use Rattle.hs_facts.specs.MustFacts.{AreNames, MustFact, on_stack, in_slot, With, Saved, Kept, Locked, Live, Distinct, New, Exists}
use Rattle.hs_facts.specs.Names.{is_name}
use Rattle.hs_facts.specs.Rounds.{ExistsAt, Holds, HoldsIn}
use Rattle.hs_lock_rows.specs.Changing.{change_of}
use Rattle.hs_lock_rows.specs.Laws.Exact.{gives_test, impact_with}
use Rattle.hs_lock_rows.specs.Layout.{IsField, IsOfLocks, bit_of, field_number, field_of, fields, number, total}
use Rattle.hs_lock_rows.specs.Given.{given}
use Rattle.hs_lock_rows.specs.Making.{gone_by, locks_in, makes}
use Rattle.hs_lock_rows.specs.declared.change.Change.{Change}
use Rattle.hs_lock_rows.specs.declared.field.Field.{Field}
use Rattle.hs_lock_rows.specs.declared.field.Field.TheVariants as field
use Rattle.hs_rows.specs.Sets.{Sets, has}
use Rattle.hs_tree.specs.declared.head.Variable.{Variable}

-- ---- numbers

module _ (plan : Plan) where
  pub field_under : (its : Field) → IsField plan its → field_number plan its < fields plan
  field_under (field.KeptIn slot) h = omega arith
  field_under field.Locked h = omega arith
  field_under field.Live h = omega arith
  field_under (field.Apart x) h = omega arith
  field_under (field.KeptAt place) h = omega arith
  field_under (field.NewAt place) h = omega arith

  pub number_in : (its : Field) (i : ℕ) → IsField plan its → i < plan.names → number plan its i < total plan
  number_in its i h within =
      let fits : field_number plan its * plan.names + plan.names ≤ fields plan * plan.names =
      row_fits (field_number plan its) plan.names (fields plan) plan.names (field_under its h) (omega arith) in
      omega (arith, fits, within)

-- ---- facts of two kinds

-- With and Saved, or one of the others
kind_of : (fact : MustFact) → IsOfByte fact ⊎ IsOfLocks fact
kind_of (With p x) = inl tt
kind_of (Saved b x) = inl tt
kind_of (Kept b x) = inr tt
kind_of (Locked x) = inr tt
kind_of (Live x) = inr tt
kind_of (Distinct x y) = inr tt
kind_of (New p) = inr tt

not_both : (fact : MustFact) → IsOfByte fact → IsOfLocks fact → ⊥
not_both (With p x) is also = also
not_both (Saved b x) is also = also
not_both (Kept b x) is also = is
not_both (Locked x) is also = is
not_both (Live x) is also = is
not_both (Distinct x y) is also = is
not_both (New p) is also = is

-- ---- the task

-- the changes are those of the code, and all its names are listed
pub record IsOf (scope : Scope) (task : low_rows.Task) (unlocks disposes : ℕ → Bool) (changes : List Change) : Type 0 where
  pub of : low_laws.IsOf scope task
  pub some : 0 < task.plan.names
  pub listed : (x : Variable) → is_name scope task.code x ≡ true → index_of task.names x < length task.names
  pub changes_are : (at : ℕ) (its : Placed) → slice_get task.code.ops at ≡ Some its
      → slice_get changes at ≡ Some (change_of scope task.code task.names task.slots unlocks disposes its.op its.places)

module _ (scope : Scope) (task : low_rows.Task) (unlocks disposes : ℕ → Bool) (changes : List Change) (its_is : IsOf scope task unlocks disposes changes)
    (low : Sets) (low_solved : low_rows.IsSolved task low) where
  -- ---- the rows that were found before

  -- With and Saved of a name are tracked, as all names are listed
  tracked : (fact : MustFact) (depth : ℕ) → IsOfByte fact → Exists scope task.code depth fact → IsTracked task.names fact
  tracked (With p x) depth is e = its_is.listed x e.named
  tracked (Saved b x) depth is e = its_is.listed x e.named.1
  tracked (Kept b x) depth is e = absurd is
  tracked (Locked x) depth is e = absurd is
  tracked (Live x) depth is e = absurd is
  tracked (Distinct x y) depth is e = absurd is
  tracked (New p) depth is e = absurd is

  abbrev low_bit : ℕ → MustFact → Bool
  low_bit at fact = low_rows.facts_at task low at (cell_of task.names task.slots fact)

  pub Holds-low : (at : ℕ) (fact : MustFact) → IsOfByte fact → Holds scope task.code (impact_with task.assigned unlocks disposes) at fact
      → low_bit at fact ≡ true
  Holds-low at fact is h =
      low_laws.Holds-solved scope task its_is.of low low_solved at fact (tracked fact (h 0).0.0.places is (h 0).0.2)
      (Holds-bytes scope task.code (impact_with task.assigned unlocks disposes) (impact_by task.assigned) (λ f g a. a) at fact is h)

  pub low-Holds : (at : ℕ) (fact : MustFact) → IsOfByte fact → ExistsAt scope task.code at fact → low_bit at fact ≡ true
      → Holds scope task.code (impact_with task.assigned unlocks disposes) at fact
  low-Holds at fact is e h =
      Holds-bytes scope task.code (impact_by task.assigned) (impact_with task.assigned unlocks disposes) (λ f g a. a) at fact is
      (low_laws.solved-Holds scope task its_is.of low low_solved at fact (tracked fact e.0.places is e.2) e h)

  -- ---- numbers of facts

  field_in : (depth : ℕ) (fact : MustFact) → depth ≤ task.plan.places → IsOfLocks fact → Exists scope task.code depth fact
      → IsField task.plan (field_of task.names task.slots fact)
  field_in depth (With p x) deep is e = absurd is
  field_in depth (Saved b x) deep is e = absurd is
  field_in depth (Kept (on_stack p) x) deep is e = let under = e.under in omega (arith, deep, under)
  field_in depth (Kept (in_slot b) x) deep is e =
      subst (λ n. index_of task.slots b ≤ n) its_is.of.whole.slots (index_least task.slots b)
  field_in depth (Locked x) deep is e = tt
  field_in depth (Live x) deep is e = tt
  field_in depth (Distinct x y) deep is e = subst (λ n. index_of task.names x < n) its_is.of.whole.names (its_is.listed x e.named.0)
  field_in depth (New p) deep is e = let under = e.under in omega (arith, deep, under)

  bit_in : (depth : ℕ) (fact : MustFact) → IsOfLocks fact → Exists scope task.code depth fact → bit_of task.names task.slots fact < task.plan.names
  bit_in depth (With p x) is e = absurd is
  bit_in depth (Saved b x) is e = absurd is
  bit_in depth (Kept b x) is e = subst (λ n. index_of task.names x < n) its_is.of.whole.names (its_is.listed x e.named.1)
  bit_in depth (Locked x) is e = subst (λ n. index_of task.names x < n) its_is.of.whole.names (its_is.listed x e.named)
  bit_in depth (Live x) is e = subst (λ n. index_of task.names x < n) its_is.of.whole.names (its_is.listed x e.named)
  bit_in depth (Distinct x y) is e = subst (λ n. index_of task.names y < n) its_is.of.whole.names (its_is.listed y e.named.1)
  bit_in depth (New p) is e = its_is.some

  abbrev number_of : MustFact → ℕ
  number_of fact = number task.plan (field_of task.names task.slots fact) (bit_of task.names task.slots fact)

  in_field : (at : ℕ) (fact : MustFact) → IsOfLocks fact → ExistsAt scope task.code at fact → IsField task.plan (field_of task.names task.slots fact)
  in_field at fact is e = field_in e.0.places fact (its_is.of.places at e.0 e.1) is e.2

  in_total : (at : ℕ) (fact : MustFact) → IsOfLocks fact → ExistsAt scope task.code at fact → number_of fact < total task.plan
  in_total at fact is e =
      number_in task.plan (field_of task.names task.slots fact) (bit_of task.names task.slots fact) (in_field at fact is e) (bit_in e.0.places fact is e.2)

  within : (at : ℕ) (fact : MustFact) → ExistsAt scope task.code at fact → at < length task.code.ops
  within at fact e = slice_get_within task.code.ops at e.0 e.1

  -- ---- rows as facts

  abbrev pub the_task : numeric.Task
  the_task = numeric.the_task (total task.plan) task.code (makes task.plan task.names task.slots task.assigned low changes)

  -- what may hold, and is in the rows of its kind
  abbrev Rows : Sets → ℕ → MustFact → Type 0
  Rows sets at fact =
      ExistsAt scope task.code at fact × (at ≢ 0) × (IsOfByte fact → low_bit at fact ≡ true) × (IsOfLocks fact → has sets at (number_of fact) ≡ true)

  -- none before the first operation
  abbrev NoneFirst : Sets → Type 0
  NoneFirst sets = (fact : MustFact) → IsOfLocks fact → ExistsAt scope task.code 0 fact → has sets 0 (number_of fact) ≡ true → ⊥

  abbrev exists_at : (from : ℕ) (its : Placed) → slice_get task.code.ops from ≡ Some its → (fact : MustFact) → Exists scope task.code its.places fact
      → ExistsAt scope task.code from fact
  exists_at from its there fact e = (its, there, e)

  low_into : (sets : Sets) (from : ℕ) (its : Placed) → slice_get task.code.ops from ≡ Some its → (fact : MustFact) → IsOfByte fact
      → Exists scope task.code its.places fact → low_bit from fact ≡ true → Rows sets from fact
  low_into sets from its there fact is e h =
      let holds = low-Holds from fact is (exists_at from its there fact e) h in
      ((its, there, e), (holds 0).1, λ _. h, λ also. absurd (not_both fact is also))

  exists_out : (sets : Sets) (from : ℕ) (its : Placed) → slice_get task.code.ops from ≡ Some its → (fact : MustFact) → Rows sets from fact
      → Exists scope task.code its.places fact
  exists_out sets from its there fact r =
      subst (λ (p : Placed). Exists scope task.code p.places fact) (some_one r.0.0 its (sym r.0.1 ∙ there)) r.0.2

  into : (sets : Sets) → NoneFirst sets → (from : ℕ) (its : Placed) → slice_get task.code.ops from ≡ Some its → (fact : MustFact) → IsOfLocks fact
      → Exists scope task.code its.places fact → has sets from (number_of fact) ≡ true → Rows sets from fact
  into sets none from its there fact is e h = ((its, there, e), not_first, λ also. absurd (not_both fact also is), λ _. h)
    where
      not_first : from ≢ 0
      not_first k = none fact is (its, subst (λ n. slice_get task.code.ops n ≡ Some its) k there, e)
          (subst (λ n. has sets n (number_of fact) ≡ true) k h)

  -- what an operation gives of a row is what it gives of its facts
  row_test : (sets : Sets) → NoneFirst sets → (from : ℕ) (its : Placed) → slice_get task.code.ops from ≡ Some its → (fact : MustFact) → IsOfLocks fact
      → AreNames scope task.code fact
      → Decides (given task.plan.names (gone_by task.assigned task.names) (gone_by task.assigned task.slots) (low_rows.facts_at task low from)
      (locks_in task.plan (has sets from))
      (change_of scope task.code task.names task.slots unlocks disposes its.op its.places) (field_of task.names task.slots fact)
      (bit_of task.names task.slots fact))
      (Gives scope task.code (impact_with task.assigned unlocks disposes) (Rows sets from) its.op its.places fact)
  row_test sets none from its there fact is named =
      subst (λ n. Decides (given n (gone_by task.assigned task.names) (gone_by task.assigned task.slots) (low_rows.facts_at task low from)
      (locks_in task.plan (has sets from))
      (change_of scope task.code task.names task.slots unlocks disposes its.op its.places) (field_of task.names task.slots fact)
      (bit_of task.names task.slots fact))
      (Gives scope task.code (impact_with task.assigned unlocks disposes) (Rows sets from) its.op its.places fact)) its_is.of.whole.names
      (gives_test scope task.code task.names task.slots task.assigned unlocks disposes its_is.listed its_is.of.distinct its_is.of.are_names
      (Rows sets from) (low_rows.facts_at task low from) (locks_in task.plan (has sets from)) its.places
      (λ it of e h. low_into sets from its there it of e h) (λ it of r. (exists_out sets from its there it r, r.2 of))
      (λ it of e h. into sets none from its there it of e h) (λ it of r. (exists_out sets from its there it r, r.3 of))
      its.op fact (its_is.of.op_fits from its there) is named)

  -- ---- cuts

  follows_next : (from at : ℕ) → Follows task.code from at → (its : Placed) × (slice_get task.code.ops from ≡ Some its) × IsNext its.op task.code.cases from at
  follows_next from at f = by_case (slice_get task.code.ops from) refl f
    where
      by_case : (it : Option Placed) → slice_get task.code.ops from ≡ it → IsNextOf it task.code.cases from at
          → (its : Placed) × (slice_get task.code.ops from ≡ Some its) × IsNext its.op task.code.cases from at
      by_case None e f = absurd f
      by_case (Some its) e f = (its, e, f)

  next_follows : (from at : ℕ) (its : Placed) → slice_get task.code.ops from ≡ Some its → IsNext its.op task.code.cases from at → Follows task.code from at
  next_follows from at its there f = subst (λ (it : Option Placed). IsNextOf it task.code.cases from at) (sym there) f

  cut_rows : (old new : Sets) → NoneFirst old → numeric.IsCut the_task old new
      → IsCut scope task.code (impact_with task.assigned unlocks disposes) (Rows old) (Rows new)
  cut_rows old new none c = record {
    back = λ at fact h. (h.0, h.1, h.2, λ is. c.back at (number_of fact) (within at fact h.0) (in_total at fact is h.0) (h.3 is));
    kept = λ at fact h gives. (
      h.0,
      h.1,
      h.2,
      λ is. c.kept at (number_of fact) (within at fact h.0) (in_total at fact is h.0) (h.3 is)
          (λ from f made m. made_bit at fact h.0 gives is from (follows_next from at f) made m),
    );
  }
    where
      made_bit : (at : ℕ) (fact : MustFact) → ExistsAt scope task.code at fact
          → ((from : ℕ) (its : Placed) → slice_get task.code.ops from ≡ Some its → IsNext its.op task.code.cases from at
          → Gives scope task.code (impact_with task.assigned unlocks disposes) (Rows old from) its.op its.places fact) → IsOfLocks fact → (from : ℕ)
          → ((its : Placed) × (slice_get task.code.ops from ≡ Some its) × IsNext its.op task.code.cases from at) → (made : ℕ → Bool)
          → numeric.Made the_task from (has old from) made → made (number_of fact) ≡ true
      made_bit at fact e gives is from f made m =
          m (has old from) (λ b l. refl) (change_of scope task.code task.names task.slots unlocks disposes f.0.op f.0.places)
          (its_is.changes_are from f.0 f.1) (field_of task.names task.slots fact) (bit_of task.names task.slots fact) (in_field at fact is e)
          (bit_in e.0.places fact is e.2)
          ∙ (row_test old none from f.0 f.1 fact is e.2.named).1 (gives from f.0 f.1 f.2)

  none_back : (old new : Sets) → NoneFirst old → numeric.IsCut the_task old new → NoneFirst new
  none_back old new none c fact is e h = none fact is e (c.back 0 (number_of fact) (within 0 fact e) (in_total 0 fact is e) h)

  full_none : (sets : Sets) → numeric.IsFull the_task sets → NoneFirst sets
  full_none sets full fact is e h = true_not_false (sym h ∙ full.none (number_of fact) (within 0 fact e) (in_total 0 fact is e))

  -- what holds in a round may hold
  may_hold : (round at : ℕ) (fact : MustFact) → HoldsIn scope task.code (impact_with task.assigned unlocks disposes) round at fact
      → ExistsAt scope task.code at fact × (at ≢ 0)
  may_hold zero at fact h = h
  may_hold (suc round) at fact h = (h.0, h.1)

  -- With and Saved hold in a round whatever else calls do
  bytes_in : (round at : ℕ) (fact : MustFact) → IsOfByte fact → HoldsIn scope task.code (impact_with task.assigned unlocks disposes) round at fact
      → HoldsIn scope task.code (impact_by task.assigned) round at fact
  bytes_in zero at fact is h = h
  bytes_in (suc round) at fact is h = (
    h.0,
    h.1,
    λ from its there next.
        Gives-byte (HoldsIn scope task.code (impact_with task.assigned unlocks disposes) round from)
        (HoldsIn scope task.code (impact_by task.assigned) round from) (λ it of. bytes_in round from it of) scope task.code
        (impact_with task.assigned unlocks disposes) (impact_by task.assigned) (λ f g a. a) its.op its.places fact is (h.2 from its there next),
  )

  record Stand (sets : Sets) : Type 0 where
    bounds : Bounds scope task.code (impact_with task.assigned unlocks disposes) (Rows sets)
    none : NoneFirst sets

  stand_full : (sets : Sets) → numeric.IsFull the_task sets → Stand sets
  stand_full sets full = record {
    bounds = record {
      round = found.0;
      above = λ at fact h.
          let may = may_hold found.0 at fact h in (
            may.0,
            may.1,
            λ is. found.1 at fact (tracked fact may.0.0.places is may.0.2) (bytes_in found.0 at fact is h),
            λ is. full.all at (number_of fact) (within at fact may.0) may.1 (in_total at fact is may.0),
          );
      exist = λ at fact h. (h.0, h.1);
    };
    none = full_none sets full;
  }
    where
      found : (round : ℕ) × ((at : ℕ) (fact : MustFact) → IsTracked task.names fact
          → HoldsIn scope task.code (impact_by task.assigned) round at fact → low_bit at fact ≡ true)
      found = low_laws.Round-solved scope task its_is.of low low_solved

  stand_cuts : (full sets : Sets) → numeric.IsFull the_task full → numeric.Cuts the_task full sets → Stand sets
  stand_cuts full sets is_full (numeric.uncut it) = stand_full it is_full
  stand_cuts full sets is_full (numeric.cut first mid last c d) =
      let before = stand_cuts first mid is_full c in
      record {
        bounds = Bounds-cut scope task.code (impact_with task.assigned unlocks disposes) (Rows mid) (Rows last) before.bounds
            (cut_rows mid last before.none d);
        none = none_back mid last before.none d;
      }

  -- ---- what holds

  module _ (sets : Sets) (solved : numeric.IsSolved the_task sets) where
    stand : Stand sets
    stand = stand_cuts solved.full sets solved.is_full solved.cuts

    pub Holds-locks : (at : ℕ) (fact : MustFact) → IsOfLocks fact → Holds scope task.code (impact_with task.assigned unlocks disposes) at fact
        → has sets at (number_of fact) ≡ true
    Holds-locks at fact is h =
        (Holds-rows scope task.code (impact_with task.assigned unlocks disposes) (Rows sets) stand.bounds at fact h).3 is

    agrees : Agrees scope task.code (impact_with task.assigned unlocks disposes) (Rows sets)
    agrees from at its fact there next r = by_kind (kind_of fact)
      where
        of_byte : (it : MustFact) → IsOfByte it → low_laws.ByteRows scope task its_is.of low low_solved from it → Rows sets from it
        of_byte it is k = (k.1.0, k.1.1, λ also. k.1.2 k.0, λ also. absurd (not_both it is also))

        by_kind : IsOfByte fact ⊎ IsOfLocks fact
            → Gives scope task.code (impact_with task.assigned unlocks disposes) (Rows sets from) its.op its.places fact
        by_kind (inl is) =
            Gives-byte (low_laws.ByteRows scope task its_is.of low low_solved from) (Rows sets from) of_byte scope task.code (impact_by task.assigned)
            (impact_with task.assigned unlocks disposes) (λ f g a. a) its.op its.places fact is
            (low_laws.agrees scope task its_is.of low low_solved from at its fact there next
            (tracked fact r.0.0.places is r.0.2, (r.0, r.1, λ _. r.2 is)))
        by_kind (inr is) =
            let made = solved.agrees from (slice_get_within task.code.ops from its there) at (number_of fact) (within at fact r.0)
            (in_total at fact is r.0) (next_follows from at its there next) (r.3 is) in
            (row_test sets stand.none from its there fact is r.0.2.named).0
            (sym (made.1 (has sets from) (λ b l. refl) (change_of scope task.code task.names task.slots unlocks disposes its.op its.places)
            (its_is.changes_are from its there) (field_of task.names task.slots fact) (bit_of task.names task.slots fact) (in_field at fact is r.0)
            (bit_in r.0.0.places fact is r.0.2)) ∙ made.2)

    pub locks-Holds : (at : ℕ) (fact : MustFact) → IsOfLocks fact → ExistsAt scope task.code at fact → has sets at (number_of fact) ≡ true
        → Holds scope task.code (impact_with task.assigned unlocks disposes) at fact
    locks-Holds at fact is e h =
        rows-Holds scope task.code (impact_with task.assigned unlocks disposes) (Rows sets) (λ it f r. (r.0, r.1)) agrees at fact
        (into sets stand.none at e.0 e.1 fact is e.2 h)
