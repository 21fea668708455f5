-- Rows that are met one after the other, and what a visit of an operation does.
use Rattle.std.proofs.Common.{◌↔◌, ◌≡◌, ◌≢◌, ◌<◌, ◌≤◌, ◌⊎◌, ℕ, suc, ◌*◌, Bool, true, false, ◌&&◌, ◌||◌, ap, sym, subst, ◌∙◌, refl, inl, inr, arith, List, length, take, drop, ◌++◌, replicate, get_or, set, slice_get, Option, Some, None}
use Rattle.std.proofs.lemmas.Bool.{cases_eq}
use Rattle.std.proofs.lemmas.List.{get_or-set_same, get_or-set_other, get_or-replicate, length-set}
use Rattle.std.proofs.Math.Seq.{take-append_seam}
use Rattle.hs_fact_rows.specs.Laws.Numbers.{both, both_true, true_not_false, some_one}
use Rattle.hs_fact_rows.proofs.Turning.{number_in}
use Rattle.hs_fact_rows.specs.Cells.{Cell, IsIn, number, total}
use Rattle.hs_code.specs.Following.{Follows, IsCase, IsAmong}
use Rattle.hs_code.specs.declared.function_code.Case.{Case}
use Rattle.hs_code.specs.declared.successors.Successors.{Successors}
use Rattle.hs_fact_rows.proofs.Making.{given_same}
use Rattle.hs_fact_rows.specs.Cuts.{Task, IsTask, IsCut, Cuts, uncut, cut, AgreesFrom, IsStanding, IsFull, IsSolved, Visit, Visited, Passed, after, facts_at, ops}
use Rattle.hs_fact_rows.specs.Given.{Facts, gone, IsFit, Makes}
use Rattle.hs_fact_rows.specs.Meeting.{Met, Flagged, SameRow, SeenCases, SeenBefore, Quiet, row_facts, flag, target_in}
use Rattle.hs_fact_rows.specs.declared.step.Step.{Step}
use Rattle.hs_fact_rows.specs.declared.plan.Plan.{Plan}
use Rattle.hs_rows.specs.Sets.{Sets, has, width, SameSize, KeepsRows}

module _ (plan : Plan) (ops : ℕ) where
  in_width : (sets : Sets) → total plan ≤ width sets → (cell : Cell) → IsIn plan cell → number plan cell < width sets
  in_width sets room cell is_in = let bound = number_in plan cell is_in in omega arith

  -- ---- none, and one row

  pub Met-none : (mask : Facts) (sets : Sets) (Seen : ℕ → Type 0) → ((r : ℕ) → r < ops → Seen r → ⊥) → Met plan ops mask Seen sets sets
  Met-none mask sets Seen none = record {
    back = λ r cell l h k. k;
    kept = λ r cell l h k s. k;
    met = λ r cell l h s k. absurd (none r l s);
    size = record { count = refl; per = refl };
    scratch = λ cell h. refl;
  }

  pub Flagged-none : (sets : Sets) (flags : List Bool) → Flagged plan ops sets sets flags flags false
  Flagged-none sets flags = record { told = λ r l. inr (refl, λ cell h. refl); still = λ _. (refl, λ r l cell h. refl); len = refl }

  pub Met-one :
      (old new : Sets) (next : ℕ) → next < ops → old.count ≡ suc ops → total plan ≤ width old
      → ((bit : ℕ) → bit < width old → has new next bit ≡ (has old next bit && has old ops bit)) → KeepsRows next old new → SameSize old new
      → Met plan ops (row_facts plan ops old ops) (λ r. r ≡ next) old new
  Met-one old new next within count room both_rows others size = record {
    back = λ r cell l h k. back_at r cell l h k (cases_eq r next);
    kept = λ r cell l h k s. kept_at r cell l h k s (cases_eq r next);
    met = λ r cell l h s k. (both (has old next (number plan cell)) (has old ops (number plan cell)) (sym (here cell h) ∙ subst (λ m. has new m
        (number plan cell) ≡ true) s k)).1;
    size = size;
    scratch = λ cell h. others ops (number plan cell) (omega arith) (in_width old room cell h) (omega arith);
  }
    where
      here : (cell : Cell) → IsIn plan cell → has new next (number plan cell) ≡ (has old next (number plan cell) && has old ops (number plan cell))
      here cell h = both_rows (number plan cell) (in_width old room cell h)

      back_at : (r : ℕ) (cell : Cell) → r < ops → IsIn plan cell → has new r (number plan cell) ≡ true → (r ≡ next) ⊎ (r ≡ next → ⊥)
          → has old r (number plan cell) ≡ true
      back_at r cell l h k (inl e) =
          subst (λ m. has old m (number plan cell) ≡ true) (sym e)
          (both (has old next (number plan cell)) (has old ops (number plan cell)) (sym (here cell h) ∙ subst (λ m. has new m (number plan cell) ≡ true) e k)).0
      back_at r cell l h k (inr ne) = sym (others r (number plan cell) (omega arith) (in_width old room cell h) ne) ∙ k

      kept_at : (r : ℕ) (cell : Cell) → r < ops → IsIn plan cell → has old r (number plan cell) ≡ true
          → (r ≡ next → has old ops (number plan cell) ≡ true) → (r ≡ next) ⊎ (r ≡ next → ⊥) → has new r (number plan cell) ≡ true
      kept_at r cell l h k s (inl e) =
          subst (λ m. has new m (number plan cell) ≡ true) (sym e)
          (here cell h ∙ both_true (has old next (number plan cell)) (has old ops (number plan cell)) (subst (λ m. has old m (number plan cell) ≡
          true) e k) (s e))
      kept_at r cell l h k s (inr ne) = others r (number plan cell) (omega arith) (in_width old room cell h) ne ∙ k

  pub Flagged-one :
      (old new : Sets) (next : ℕ) (flags : List Bool) → next < length flags → old.count ≡ suc ops → total plan ≤ width old → KeepsRows next old new
      → Flagged plan ops old new flags (set flags next true) true
  Flagged-one old new next flags within count room others = record {
    told = λ r l. by_row r l (cases_eq r next);
    still = λ h. true_not_false h;
    len = length-set flags next true;
  }
    where
      by_row : (r : ℕ) → r < ops → (r ≡ next) ⊎ (r ≡ next → ⊥)
          → (get_or (set flags next true) r false ≡ true) ⊎ ((get_or (set flags next true) r false ≡ get_or flags r false) × SameRow plan ops old new r)
      by_row r l (inl e) = inl (ap (λ m. get_or (set flags next true) m false) e ∙ get_or-set_same flags next true false within)
      by_row r l (inr ne) =
          inr (get_or-set_other flags next r true false ne, λ cell h. others r (number plan cell) (omega arith) (in_width old room cell h) ne)

  pub Flagged-same :
      (old new : Sets) (next : ℕ) (flags : List Bool) → old.count ≡ suc ops → total plan ≤ width old → KeepsRows next old new
      → ((bit : ℕ) → bit < width old → has new next bit ≡ has old next bit) → Flagged plan ops old new flags flags false
  Flagged-same old new next flags count room others same = record {
    told = λ r l. inr (refl, by_row r l (cases_eq r next));
    still = λ h. (refl, λ r l. by_row r l (cases_eq r next));
    len = refl;
  }
    where
      by_row : (r : ℕ) → r < ops → (r ≡ next) ⊎ (r ≡ next → ⊥) → SameRow plan ops old new r
      by_row r l (inl e) cell h =
          ap (λ m. has new m (number plan cell)) e ∙ same (number plan cell) (in_width old room cell h) ∙ ap (λ m. has old m (number plan cell)) (sym e)
      by_row r l (inr ne) cell h = others r (number plan cell) (omega arith) (in_width old room cell h) ne

  -- ---- one after the other

  pub Met-then :
      (mask mask' : Facts) (Seen Also : ℕ → Type 0) (old mid new : Sets) → ((cell : Cell) → IsIn plan cell → mask' cell ≡ mask cell)
      → Met plan ops mask Seen old mid → Met plan ops mask' Also mid new → Met plan ops mask (λ r. Seen r ⊎ Also r) old new
  Met-then mask mask' Seen Also old mid new same m n = record {
    back = λ r cell l h k. m.back r cell l h (n.back r cell l h k);
    kept = λ r cell l h k s. n.kept r cell l h (m.kept r cell l h k (λ seen. s (inl seen))) (λ also. same cell h ∙ s (inr also));
    met = λ r cell l h s k. by_seen r cell l h k s;
    size = record { count = n.size.count ∙ m.size.count; per = n.size.per ∙ m.size.per };
    scratch = λ cell h. n.scratch cell h ∙ m.scratch cell h;
  }
    where
      by_seen : (r : ℕ) (cell : Cell) → r < ops → IsIn plan cell → row_facts plan ops new r cell ≡ true → Seen r ⊎ Also r → mask cell ≡ true
      by_seen r cell l h k (inl s) = m.met r cell l h s (n.back r cell l h k)
      by_seen r cell l h k (inr s) = sym (same cell h) ∙ n.met r cell l h s k

  pub Met-seen :
      (mask : Facts) (Seen Also : ℕ → Type 0) (old new : Sets) → ((r : ℕ) → r < ops → Seen r → Also r) → ((r : ℕ) → r < ops → Also r → Seen r)
      → Met plan ops mask Seen old new → Met plan ops mask Also old new
  Met-seen mask Seen Also old new to from m = record {
    back = m.back;
    kept = λ r cell l h k s. m.kept r cell l h k (λ seen. s (to r l seen));
    met = λ r cell l h s k. m.met r cell l h (from r l s) k;
    size = m.size;
    scratch = m.scratch;
  }

  pub Flagged-then :
      (old mid new : Sets) (flags flags' flags'' : List Bool) (one two : Bool) → Flagged plan ops old mid flags flags' one
      → Flagged plan ops mid new flags' flags'' two → Flagged plan ops old new flags flags'' (one || two)
  Flagged-then old mid new flags flags' flags'' one two f g = record {
    told = λ r l. by_first r l (g.told r l) (f.told r l);
    still = λ h. by_tests (neither one two h);
    len = g.len ∙ f.len;
  }
    where
      neither : (a b : Bool) → (a || b) ≡ false → (a ≡ false) × (b ≡ false)
      neither true b h = true_not_false h
      neither false b h = (refl, h)

      by_tests : (one ≡ false) × (two ≡ false) → (flags'' ≡ flags) × ((r : ℕ) → r < ops → SameRow plan ops old new r)
      by_tests h =
          let first = f.still h.0 in
          let second = g.still h.1 in
          (second.0 ∙ first.0, λ r l cell k. second.1 r l cell k ∙ first.1 r l cell k)

      by_first : (r : ℕ) → r < ops → (flag plan ops flags'' r ≡ true) ⊎ ((flag plan ops flags'' r ≡ flag plan ops flags' r) × SameRow plan ops mid new r)
          → (flag plan ops flags' r ≡ true) ⊎ ((flag plan ops flags' r ≡ flag plan ops flags r) × SameRow plan ops old mid r)
          → (flag plan ops flags'' r ≡ true) ⊎ ((flag plan ops flags'' r ≡ flag plan ops flags r) × SameRow plan ops old new r)
      by_first r l (inl h) k = inl h
      by_first r l (inr h) (inl k) = inl (h.0 ∙ k)
      by_first r l (inr h) (inr k) = inr (h.0 ∙ k.0, λ cell is_in. h.1 cell is_in ∙ k.1 cell is_in)

  pub Flagged-from :
      (old mid new : Sets) (flags flags' : List Bool) (changed : Bool) → ((r : ℕ) → r < ops → SameRow plan ops old mid r)
      → Flagged plan ops mid new flags flags' changed → Flagged plan ops old new flags flags' changed
  Flagged-from old mid new flags flags' changed same f = record {
    told = λ r l. by_told r l (f.told r l);
    still = λ h. ((f.still h).0, λ r l cell is_in. (f.still h).1 r l cell is_in ∙ same r l cell is_in);
    len = f.len;
  }
    where
      by_told : (r : ℕ) → r < ops → (flag plan ops flags' r ≡ true) ⊎ ((flag plan ops flags' r ≡ flag plan ops flags r) × SameRow plan ops mid new r)
          → (flag plan ops flags' r ≡ true) ⊎ ((flag plan ops flags' r ≡ flag plan ops flags r) × SameRow plan ops old new r)
      by_told r l (inl h) = inl h
      by_told r l (inr h) = inr (h.0, λ cell is_in. h.1 cell is_in ∙ same r l cell is_in)

-- ---- cases

module _ (cases : List Case) (first end : ℕ) where
  pub seen_none : (r : ℕ) → SeenBefore cases first end first r → ⊥
  seen_none r h = let low = h.1 in let high = h.2 in absurd (omega arith)

  pub seen_next : (place r : ℕ) (it : Option ℕ) → it ≡ target_in (slice_get cases place) → first ≤ place → place < end
      → SeenBefore cases first end place r ⊎ it ≡ Some r → SeenBefore cases first end (suc place) r
  seen_next place r it is low high (inl h) = (h.0, h.1, omega (arith, h.2), h.3, h.4)
  seen_next place r it is low high (inr h) = (place, low, omega arith, high, sym is ∙ h)

  pub seen_back : (place r : ℕ) (it : Option ℕ) → it ≡ target_in (slice_get cases place) → SeenBefore cases first end (suc place) r
      → SeenBefore cases first end place r ⊎ it ≡ Some r
  seen_back place r it is h = by_place (cases_eq h.0 place)
    where
      by_place : (h.0 ≡ place) ⊎ (h.0 ≡ place → ⊥) → SeenBefore cases first end place r ⊎ it ≡ Some r
      by_place (inl e) = inr (is ∙ ap (λ n. target_in (slice_get cases n)) (sym e) ∙ h.4)
      by_place (inr ne) = inl (h.0, h.1, omega (arith, ne, h.2), h.3, h.4)

  pub seen_all : (place r : ℕ) → SeenBefore cases first end place r → SeenCases cases first end r
  seen_all place r h = (h.0, h.1, h.3, h.4)

  pub all_seen : (place r : ℕ) → end ≤ place → SeenCases cases first end r → SeenBefore cases first end place r
  all_seen place r far h = (h.0, h.1, omega (arith, h.2, far), h.2, h.3)

-- rows of the same size have the same room
pub fit_kept : (plan : Plan) (row : ℕ) (old new : Sets) → IsFit plan old row → SameSize old new → IsFit plan new row
fit_kept plan row old new fit size = record {
  names = fit.names;
  fields = fit.fields;
  numbers = fit.numbers;
  room = subst (λ m. total plan ≤ 64 * m) (sym size.per) fit.room;
  there = subst (λ m. row < m) (sym size.count) fit.there;
}

-- ---- a visit

module _ (task : Task) (task_is : IsTask task) where
  pub made_kept :
      (value : Facts → Facts) (from : ℕ) (old mid : Sets) → Makes task.plan (ops task) from value old mid → old.count ≡ suc (ops task)
      → total task.plan ≤ width old → (r : ℕ) → r < ops task → SameRow task.plan (ops task) old mid r
  made_kept value from old mid m count room r l cell h =
      m.others r (number task.plan cell) (omega arith) (in_width task.plan (ops task) old room cell h) (omega arith)

  pub visit_cut :
      (at : ℕ) (its : Step) (Seen : ℕ → Type 0) (old mid new : Sets) → slice_get task.steps at ≡ Some its
      → Makes task.plan (ops task) at (after task its) old mid → old.count ≡ suc (ops task) → total task.plan ≤ width old
      → Met task.plan (ops task) (facts_at task mid (ops task)) Seen mid new → ((r : ℕ) → Seen r → Follows task.code at r) → IsCut task old new
  visit_cut at its Seen old mid new there made count room m follows = record {
    back = λ r cell l h k. sym (made_kept (after task its) at old mid made count room r l cell h) ∙ m.back r cell l h k;
    kept = λ r cell l h k gives. m.kept r cell l h (made_kept (after task its) at old mid made count room r l cell h ∙ k)
        (λ s. made.facts cell h ∙ gives at (follows r s) its there);
  }

  pub visit_agrees :
      (at : ℕ) (its : Step) (Seen : ℕ → Type 0) (old mid new : Sets) → Makes task.plan (ops task) at (after task its) old mid
      → Met task.plan (ops task) (facts_at task mid (ops task)) Seen mid new → ((r : ℕ) → Follows task.code at r → Seen r)
      → (r : ℕ) (cell : Cell) → r < ops task → IsIn task.plan cell → Follows task.code at r → facts_at task new r cell ≡ true
      → after task its (facts_at task old at) cell ≡ true
  visit_agrees at its Seen old mid new made m seen r cell l h f k = sym (made.facts cell h) ∙ m.met r cell l h (seen r f) k

  -- an operation gives the same from rows that are the same
  after_same :
      (from : ℕ) (its : Step) (old new : Sets) → slice_get task.steps from ≡ Some its → SameRow task.plan (ops task) old new from → (cell : Cell)
      → IsIn task.plan cell → after task its (facts_at task new from) cell ≡ after task its (facts_at task old from) cell
  after_same from its old new there same cell h =
      given_same task.plan (facts_at task new from) (facts_at task old from) same (λ f. gone (task.assigned f) task.names)
      (λ f. gone (task.assigned f) task.slots) its (task_is.fit from its there) cell h

  -- what stood still stands, and so does the operation that was visited
  pub stand_visit :
      (at : ℕ) (its : Step) (old new : Sets) (flags flags' : List Bool) (changed : Bool) → slice_get task.steps at ≡ Some its → IsStanding task flags old
      → IsCut task old new
      → ((r : ℕ) (cell : Cell) → r < ops task → IsIn task.plan cell → Follows task.code at r → facts_at task new r cell ≡ true
      → after task its (facts_at task old at) cell ≡ true)
      → Flagged task.plan (ops task) old new (set flags at false) flags' changed → IsStanding task flags' new
  stand_visit at its old new flags flags' changed there standing trimmed agrees f from l = by_told (f.told from l)
    where
      by_told : (get_or flags' from false ≡ true) ⊎ ((get_or flags' from false ≡ get_or (set flags at false) from false) × SameRow task.plan (ops
          task) old new from)
          → (get_or flags' from false ≡ true) ⊎ AgreesFrom task new from
      by_told (inl h) = inl h
      by_told (inr h) = by_place (cases_eq from at)
        where
          still : AgreesFrom task old from → AgreesFrom task new from
          still all r cell k is_in follows now other there' =
              after_same from other old new there' h.1 cell is_in ∙ all r cell k is_in follows (trimmed.back r cell k is_in now) other there'

          by_old : from ≢ at → (get_or flags from false ≡ true) ⊎ AgreesFrom task old from → (get_or flags' from false ≡ true) ⊎ AgreesFrom task new from
          by_old ne (inl k) = inl (h.0 ∙ get_or-set_other flags at from false false ne ∙ k)
          by_old ne (inr k) = inr (still k)

          here : from ≡ at → AgreesFrom task new from
          here e r cell k is_in follows now other there' =
              after_same from other old new there' h.1 cell is_in
              ∙ subst (λ n. after task other (facts_at task old n) cell ≡ true) (sym e)
              (subst (λ (s : Step). after task s (facts_at task old at) cell ≡ true)
              (some_one its other (sym there ∙ ap (slice_get task.steps) (sym e) ∙ there'))
              (agrees r cell k is_in (subst (λ n. Follows task.code n r) e follows) now))

          by_place : (from ≡ at) ⊎ (from ≡ at → ⊥) → (get_or flags' from false ≡ true) ⊎ AgreesFrom task new from
          by_place (inl e) = inr (here e)
          by_place (inr ne) = by_old ne (standing from l)

  pub cut_none : (sets : Sets) → IsCut task sets sets
  cut_none sets = record { back = λ at cell l h k. k; kept = λ at cell l h k gives. k }

  -- ---- a pass

  pub quiet_next :
      (at : ℕ) (flags flags' : List Bool) (before now : Bool) → Quiet at flags before
      → (now ≡ false → (get_or flags' at false ≡ false) × ((r : ℕ) → r ≢ at → get_or flags' r false ≡ get_or flags r false))
      → Quiet (suc at) flags' (before || now)
  quiet_next at flags flags' true now q v h r l = true_not_false h
  quiet_next at flags flags' false now q v h r l = by_place (cases_eq r at)
    where
      by_place : (r ≡ at) ⊎ (r ≡ at → ⊥) → get_or flags' r false ≡ false
      by_place (inl e) = ap (λ n. get_or flags' n false) e ∙ (v h).0
      by_place (inr ne) = (v h).1 r ne ∙ q refl r (omega (arith, l, ne))

  -- ---- the operations that follow

  case_seen : (cases : List Case) (first end r : ℕ) → IsCase cases first end r → SeenCases cases first end r
  case_seen cases first end r h = (h.place, h.from, h.before, ap target_in h.there ∙ ap Some h.goes)

  seen_case : (cases : List Case) (first end r : ℕ) → SeenCases cases first end r → IsCase cases first end r
  seen_case cases first end r h = by_case (slice_get cases h.0) refl h.3
    where
      by_case : (it : Option Case) → slice_get cases h.0 ≡ it → target_in it ≡ Some r → IsCase cases first end r
      by_case None e k = absurd (none_some k)
        where
          none_some : {A : Type 0} {a : A} → None ≡ Some a → ⊥
          none_some k = grind arith
      by_case (Some its) e k = record { place = h.0; its = its; from = h.1; before = h.2; there = e; goes = some_one its.target r k }

  pub visit_done :
      (at : ℕ) (its : Step) (next : Successors) (old mid one two new : Sets) (flags f g h : List Bool) (a b c : Bool)
      → slice_get task.steps at ≡ Some its → Makes task.plan (ops task) at (after task its) old mid → old.count ≡ suc (ops task)
      → total task.plan ≤ width old
      → Met task.plan (ops task) (facts_at task mid (ops task)) (λ r. next.next ≡ Some r) mid one
      → Flagged task.plan (ops task) mid one flags f a
      → Met task.plan (ops task) (facts_at task one (ops task)) (λ r. next.jump ≡ Some r) one two
      → Flagged task.plan (ops task) one two f g b
      → Met task.plan (ops task) (facts_at task two (ops task)) (SeenCases task.code.cases next.cases.0 next.cases.1) two new
      → Flagged task.plan (ops task) two new g h c
      → ((r : ℕ) → Follows task.code at r ↔ IsAmong next task.code.cases r) → Visit task at its old new flags h ((a || b) || c)
  visit_done at its next old mid one two new flags f g h a b c there made count room m f1 n f2 o f3 exact =
      let seen = λ (r : ℕ). (next.next ≡ Some r ⊎ next.jump ≡ Some r) ⊎ SeenCases task.code.cases next.cases.0 next.cases.1 r in
      let mask = facts_at task mid (ops task) in
      let both_met = Met-then task.plan (ops task) mask (facts_at task one (ops task)) (λ r. next.next ≡ Some r) (λ r. next.jump ≡ Some r) mid one
      two m.scratch m n in
      let all_met = Met-then task.plan (ops task) mask (facts_at task two (ops task)) (λ r. next.next ≡ Some r ⊎ next.jump ≡ Some r)
      (SeenCases task.code.cases next.cases.0 next.cases.1) mid two new (λ cell is_in. n.scratch cell is_in ∙ m.scratch cell is_in) both_met o in
      let flagged = Flagged-then task.plan (ops task) mid two new flags g h (a || b) c
      (Flagged-then task.plan (ops task) mid one two flags f g a b f1 f2) f3 in
      record {
        cut = visit_cut at its (λ r. (next.next ≡ Some r ⊎ next.jump ≡ Some r)
            ⊎ SeenCases task.code.cases next.cases.0 next.cases.1 r) old mid new there made count room all_met
            (λ r s. (exact r).1 (among r s));
        agrees = visit_agrees at its (λ r. (next.next ≡ Some r ⊎ next.jump ≡ Some r)
            ⊎ SeenCases task.code.cases next.cases.0 next.cases.1 r) old mid new made all_met
            (λ r k. seen_of r ((exact r).0 k));
        flagged = Flagged-from task.plan (ops task) old mid new flags h ((a || b) || c) (made_kept (after task its) at old mid made count room) flagged;
        size = record { count = all_met.size.count ∙ made.size.count; per = all_met.size.per ∙ made.size.per };
      }
    where
      among : (r : ℕ) → (next.next ≡ Some r ⊎ next.jump ≡ Some r) ⊎ SeenCases task.code.cases next.cases.0 next.cases.1 r → IsAmong next task.code.cases r
      among r (inl (inl s)) = inl s
      among r (inl (inr s)) = inr (inl s)
      among r (inr s) = inr (inr (seen_case task.code.cases next.cases.0 next.cases.1 r s))

      seen_of : (r : ℕ) → IsAmong next task.code.cases r → (next.next ≡ Some r ⊎ next.jump ≡ Some r) ⊎ SeenCases task.code.cases next.cases.0 next.cases.1 r
      seen_of r (inl s) = inl (inl s)
      seen_of r (inr (inl s)) = inl (inr s)
      seen_of r (inr (inr s)) = inr (case_seen task.code.cases next.cases.0 next.cases.1 r s)

  pub visited_none :
      (at : ℕ) (sets : Sets) (flags : List Bool) → IsStanding task flags sets → get_or flags at false ≡ false → Visited task at sets sets flags flags false
  visited_none at sets flags standing off = record {
    cut = cut_none sets;
    standing = standing;
    quiet = λ _. (off, λ r ne. refl);
    size = record { count = refl; per = refl };
    len = refl;
  }

  pub visited_one :
      (at : ℕ) (its : Step) (old new : Sets) (flags flags' : List Bool) (changed : Bool) → slice_get task.steps at ≡ Some its → at < length flags
      → IsStanding task flags old → Visit task at its old new (set flags at false) flags' changed → Visited task at old new flags flags' changed
  visited_one at its old new flags flags' changed there within standing v = record {
    cut = v.cut;
    standing = stand_visit at its old new flags flags' changed there standing v.cut v.agrees v.flagged;
    quiet = λ h. let still = (v.flagged.still h).0 in (
      ap (λ (l : List Bool). get_or l at false) still ∙ get_or-set_same flags at false false within,
      λ r ne. ap (λ (l : List Bool). get_or l r false) still ∙ get_or-set_other flags at r false false ne,
    );
    size = v.size;
    len = v.flagged.len ∙ length-set flags at false;
  }

  pub passed_none : (sets : Sets) (flags : List Bool) → IsStanding task flags sets → Passed task 0 sets sets flags flags false
  passed_none sets flags standing = record {
    cuts = uncut sets;
    standing = standing;
    quiet = λ h r l. absurd (omega arith);
    size = record { count = refl; per = refl };
    len = refl;
  }

  pub passed_next :
      (count : ℕ) (old mid new : Sets) (flags f g : List Bool) (before now : Bool) → Passed task count old mid flags f before
      → Visited task count mid new f g now → Passed task (suc count) old new flags g (before || now)
  passed_next count old mid new flags f g before now p v = record {
    cuts = cut old mid new p.cuts v.cut;
    standing = v.standing;
    quiet = quiet_next count f g before now p.quiet v.quiet;
    size = record { count = v.size.count ∙ p.size.count; per = v.size.per ∙ p.size.per };
    len = v.len ∙ p.len;
  }

  pub cuts_then : (old mid new : Sets) → Cuts task old mid → Cuts task mid new → Cuts task old new
  cuts_then old mid new c (uncut sets) = c
  cuts_then old mid new c (cut first between last d e) = cut old between last (cuts_then old first between c d) e

  pub solved :
      (full mid sets : Sets) (flags f : List Bool) → IsFull task full → Cuts task full mid → Passed task (ops task) mid sets flags f false → IsSolved task sets
  solved full mid sets flags f is_full cuts p = record {
    full = full;
    is_full = is_full;
    cuts = cuts_then full mid sets cuts p.cuts;
    agrees = λ from l. by_flag from l (p.standing from l) (p.quiet refl from l);
  }
    where
      by_flag : (from : ℕ) → from < ops task → (get_or f from false ≡ true) ⊎ AgreesFrom task sets from → get_or f from false ≡ false
          → AgreesFrom task sets from
      by_flag from l (inl h) off = true_not_false (sym h ∙ off)
      by_flag from l (inr h) off = h

  pub full_of :
      (sets : Sets) → ((r b : ℕ) → 0 < r → r < ops task → b < total task.plan → has sets r b ≡ true) → ((b : ℕ) → 0 < ops task
      → b < total task.plan → has sets 0 b ≡ false)
      → IsFull task sets
  full_of sets all none = record {
    all = λ at cell l ne h. all at (number task.plan cell) (omega arith) l (number_in task.plan cell h);
    none = λ cell some h. none (number task.plan cell) some (number_in task.plan cell h);
  }

-- what is written over a whole list
pub written : {X : Type 0} (before after : List X) (long : ℕ) → long ≡ length after → take long (after ++ drop (length after) before) ≡ after
written before after long is = rw is (take-append_seam after (drop (length after) before))

pub all_flags : (count n from : ℕ) → count ≡ n → from < n → get_or (replicate count true) from false ≡ true
all_flags count n from is within = get_or-replicate count from true false (omega (arith, is, within))
