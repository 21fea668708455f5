-- A row that is made from another one and then changed.
use Rattle.std.proofs.Common.{◌≡◌, ◌≢◌, ◌<◌, ◌≤◌, ◌⊎◌, ℕ, suc, ◌-◌, ◌*◌, ◌==◌, nat_lt, Bool, true, false, not, ◌&&◌, ap, sym, subst, ◌∙◌, refl, inl, inr, arith, if◌then◌else◌}
use Rattle.std.proofs.lemmas.Bool.{cases_eq, cases_lt}
use Rattle.hs_fact_rows.proofs.Turning.{same_is, other_is, less_is, least_is, Turns-as, Turns-none, number_in}
use Rattle.hs_fact_rows.proofs.Writing.{none_read}
use Rattle.hs_fact_rows.specs.Cells.{Cell, with_at, saved_at, saved_in, IsIn, number, total}
use Rattle.hs_fact_rows.specs.Given.{Facts, Names, facts_in, popped, placed, named, slotted, without, one_name, no_name, name_of, with_of, saved_of, brought, given, FitsStep, Turns, Makes}
use Rattle.hs_fact_rows.specs.declared.plan.Plan.{Plan}
use Rattle.hs_fact_rows.specs.declared.step.Step.{Step}
use Rattle.hs_fact_rows.specs.declared.step.Step.TheVariants as step
use Rattle.hs_rows.specs.Sets.{Sets, width, bit_in}

-- the names are the same, as far as the plan has them
abbrev pub AreSame : Plan → Names → Names → Type 0
AreSame plan these those = (i : ℕ) → i < plan.names → these i ≡ those i

module _ (plan : Plan) where
  pub Makes-turn :
      (row from : ℕ) (value : Facts → Facts) (turn : Cell → Bool → Bool) (old mid new : Sets) → Makes plan row from value old mid → Turns plan row turn mid new
      → Makes plan row from (λ facts cell. turn cell (value facts cell)) old new
  Makes-turn row from value turn old mid new m t = record {
    facts = λ cell is_in. t.facts cell is_in ∙ ap (turn cell) (m.facts cell is_in);
    others = λ r b in_rows in_width other.
        t.others r b (subst (λ n. r < n) (sym m.size.count) in_rows) (subst (λ n. b < 64 * n) (sym m.size.per) in_width) other ∙ m.others r b in_rows
        in_width other;
    size = record { count = t.size.count ∙ m.size.count; per = t.size.per ∙ m.size.per };
  }

  pub Makes-as :
      (row from : ℕ) (value other : Facts → Facts) (old new : Sets) → Makes plan row from value old new
      → ((cell : Cell) → IsIn plan cell → value (facts_in plan old from) cell ≡ other (facts_in plan old from) cell) → Makes plan row from other old new
  Makes-as row from value other old new m same = record {
    facts = λ cell is_in. m.facts cell is_in ∙ same cell is_in;
    others = m.others;
    size = m.size;
  }

  pub placed_same : (place : ℕ) (w w' s s' : Names) → AreSame plan w w' → AreSame plan s s' → (cell : Cell) (before : Bool) → IsIn plan cell
      → placed place w s cell before ≡ placed place w' s' cell before
  placed_same place w w' s s' same same' (with_at at i) before h = ap (λ b. if at == place then b else before) (same i h.1)
  placed_same place w w' s s' same same' (saved_at at i) before h = ap (λ b. if at == place then b else before) (same' i h.1)
  placed_same place w w' s s' same same' (saved_in slot i) before h = refl

  pub slotted_same : (slots s s' : Names) → AreSame plan s s' → (cell : Cell) (before : Bool) → IsIn plan cell
      → slotted slots s cell before ≡ slotted slots s' cell before
  slotted_same slots s s' same (with_at at i) before h = refl
  slotted_same slots s s' same (saved_at at i) before h = refl
  slotted_same slots s s' same (saved_in slot i) before h = ap (λ b. if slots slot then b else before) (same i h.1)

  pub then_placed :
      (row from place : ℕ) (value : Facts → Facts) (with_names saved_names : Facts → Names) (w s : Names) (old mid new : Sets)
      → Makes plan row from value old mid → Turns plan row (placed place w s) mid new → AreSame plan w (with_names (facts_in plan old from))
      → AreSame plan s (saved_names (facts_in plan old from))
      → Makes plan row from (λ facts cell. placed place (with_names facts) (saved_names facts) cell (value facts cell)) old new
  then_placed row from place value with_names saved_names w s old mid new m t same same' =
      Makes-as row from (λ facts cell. placed place w s cell (value facts cell))
      (λ facts cell. placed place (with_names facts) (saved_names facts) cell (value facts cell)) old new
      (Makes-turn row from value (placed place w s) old mid new m t)
      (λ cell is_in. placed_same place w (with_names (facts_in plan old from)) s (saved_names (facts_in plan old from)) same same' cell
      (value (facts_in plan old from) cell) is_in)

  pub then_slotted :
      (row from : ℕ) (slots : Names) (value : Facts → Facts) (saved_names : Facts → Names) (s : Names) (old mid new : Sets)
      → Makes plan row from value old mid → Turns plan row (slotted slots s) mid new → AreSame plan s (saved_names (facts_in plan old from))
      → Makes plan row from (λ facts cell. slotted slots (saved_names facts) cell (value facts cell)) old new
  then_slotted row from slots value saved_names s old mid new m t same =
      Makes-as row from (λ facts cell. slotted slots s cell (value facts cell))
      (λ facts cell. slotted slots (saved_names facts) cell (value facts cell)) old new
      (Makes-turn row from value (slotted slots s) old mid new m t)
      (λ cell is_in. slotted_same slots s (saved_names (facts_in plan old from)) same cell (value (facts_in plan old from) cell) is_in)

  pub no_names : AreSame plan (bit_in 0) no_name
  no_names i h = none_read i

  -- ---- if it is so

  without_none : (name : ℕ) (cell : Cell) (before : Bool) → before ≡ without (λ j. false && (j == name)) cell before
  without_none name cell before = refl

  pub end_none : (row name : ℕ) (sets : Sets) → Turns plan row (without (λ j. false && (j == name))) sets sets
  end_none row name sets = Turns-as plan row (λ cell b. b) (without (λ j. false && (j == name))) sets sets (Turns-none plan row sets) (λ cell b h.
      without_none name cell b)

  slotted_none : (slot : ℕ) (cell : Cell) (before : Bool) → before ≡ slotted (λ j. false && (j == slot)) no_name cell before
  slotted_none slot (with_at at i) before = refl
  slotted_none slot (saved_at at i) before = refl
  slotted_none slot (saved_in at i) before = refl

  pub clear_none : (row slot : ℕ) (sets : Sets) → Turns plan row (slotted (λ j. false && (j == slot)) no_name) sets sets
  clear_none row slot sets =
      Turns-as plan row (λ cell b. b) (slotted (λ j. false && (j == slot)) no_name) sets sets (Turns-none plan row sets) (λ cell b h. slotted_none slot cell b)

  pub clear_one : (row slot : ℕ) (old new : Sets) → Turns plan row (slotted (one_name slot) (bit_in 0)) old new
      → Turns plan row (slotted (λ j. true && (j == slot)) no_name) old new
  clear_one row slot old new t =
      Turns-as plan row (slotted (one_name slot) (bit_in 0)) (slotted (λ j. true && (j == slot)) no_name) old new t
      (λ cell b h. slotted_same (one_name slot) (bit_in 0) no_name no_names cell b h)

  -- ---- some names and slots, one after the other

  without_next : (value : Names) (i : ℕ) (is : Bool) → is ≡ value i → (cell : Cell) (before : Bool)
      → without (λ j. is && (j == i)) cell (without (λ j. nat_lt j i && value j) cell before) ≡ without (λ j. nat_lt j (suc i) && value j) cell before
  without_next value i is e cell before = by_name (cases_eq (name_of cell) i) (cases_lt (name_of cell) i)
    where
      one_end : (a b : Bool) → (not (a && true) && (not (false && b) && before)) ≡ (not (true && a) && before)
      one_end true b = refl
      one_end false b = refl

      none_end : (a b : Bool) → (not (a && false) && (not b && before)) ≡ (not b && before)
      none_end true b = refl
      none_end false b = refl

      by_name : (name_of cell ≡ i) ⊎ (name_of cell ≡ i → ⊥) → (name_of cell < i) ⊎ (i ≤ name_of cell)
          → without (λ j. is && (j == i)) cell (without (λ j. nat_lt j i && value j) cell before) ≡ without (λ j. nat_lt j (suc i) && value j) cell before
      by_name (inl here) order =
          rw (here, same_is i, least_is i i (omega arith), less_is i (suc i) (omega arith), sym e) (one_end is is)
      by_name (inr ne) (inl l) =
          rw (other_is (name_of cell) i ne, less_is (name_of cell) i l, less_is (name_of cell) (suc i) (omega (arith, l))) (none_end is (value (name_of cell)))
      by_name (inr ne) (inr l) =
          rw (other_is (name_of cell) i ne, least_is (name_of cell) i l, least_is (name_of cell) (suc i) (omega (arith, ne, l))) (none_end is false)

  pub without_one_more :
      (row from i : ℕ) (value : Names) (is : Bool) (made : Facts → Facts) (old mid new : Sets) → is ≡ value i
      → Makes plan row from (λ facts cell. without (λ j. nat_lt j i && value j) cell (made facts cell)) old mid
      → Turns plan row (without (λ j. is && (j == i))) mid new
      → Makes plan row from (λ facts cell. without (λ j. nat_lt j (suc i) && value j) cell (made facts cell)) old new
  without_one_more row from i value is made old mid new e m t =
      Makes-as row from (λ facts cell. without (λ j. is && (j == i)) cell (without (λ j. nat_lt j i && value j) cell (made facts cell)))
      (λ facts cell. without (λ j. nat_lt j (suc i) && value j) cell (made facts cell)) old new
      (Makes-turn row from (λ facts cell. without (λ j. nat_lt j i && value j) cell (made facts cell)) (without (λ j. is && (j == i))) old mid new m t)
      (λ cell is_in. without_next value i is e cell (made (facts_in plan old from) cell))

  pub without_none_yet :
      (row from : ℕ) (value : Names) (made : Facts → Facts) (old new : Sets) → Makes plan row from made old new
      → Makes plan row from (λ facts cell. without (λ j. nat_lt j 0 && value j) cell (made facts cell)) old new
  without_none_yet row from value made old new m =
      Makes-as row from made (λ facts cell. without (λ j. nat_lt j 0 && value j) cell (made facts cell)) old new m
      (λ cell is_in. rw (least_is (name_of cell) 0 (omega arith)) refl)

  name_is_in : (cell : Cell) → IsIn plan cell → name_of cell < plan.names
  name_is_in (with_at at i) h = h.1
  name_is_in (saved_at at i) h = h.1
  name_is_in (saved_in at i) h = h.1

  pub without_all :
      (row from count : ℕ) (value : Names) (made : Facts → Facts) (old new : Sets) → count ≡ plan.names
      → Makes plan row from (λ facts cell. without (λ j. nat_lt j count && value j) cell (made facts cell)) old new
      → Makes plan row from (λ facts cell. without value cell (made facts cell)) old new
  without_all row from count value made old new all m =
      Makes-as row from (λ facts cell. without (λ j. nat_lt j count && value j) cell (made facts cell)) (λ facts cell. without value cell (made facts cell))
      old new m (λ cell is_in. rw (all, less_is (name_of cell) plan.names (name_is_in cell is_in)) refl)

  slotted_next : (value : Names) (i : ℕ) (is : Bool) → is ≡ value i → (cell : Cell) (before : Bool)
      → slotted (λ j. is && (j == i)) no_name cell (slotted (λ j. nat_lt j i && value j) no_name cell before)
      ≡ slotted (λ j. nat_lt j (suc i) && value j) no_name cell before
  slotted_next value i is e (with_at at k) before = refl
  slotted_next value i is e (saved_at at k) before = refl
  slotted_next value i is e (saved_in at k) before = by_slot (cases_eq at i) (cases_lt at i)
    where
      one_end : (a b : Bool) → (if a && true then false else (if false && b then false else before)) ≡ (if true && a then false else before)
      one_end true b = refl
      one_end false b = refl

      none_end : (a b : Bool) → (if a && false then false else (if b then false else before)) ≡ (if b then false else before)
      none_end true b = refl
      none_end false b = refl

      by_slot : (at ≡ i) ⊎ (at ≡ i → ⊥) → (at < i) ⊎ (i ≤ at)
          → (if is && (at == i) then false else (if nat_lt at i && value at then false else before)) ≡ (if nat_lt at (suc i) && value at then false else before)
      by_slot (inl here) order =
          rw (here, same_is i, least_is i i (omega arith), less_is i (suc i) (omega arith), sym e) (one_end is is)
      by_slot (inr ne) (inl l) =
          rw (other_is at i ne, less_is at i l, less_is at (suc i) (omega (arith, l))) (none_end is (value at))
      by_slot (inr ne) (inr l) =
          rw (other_is at i ne, least_is at i l, least_is at (suc i) (omega (arith, ne, l))) (none_end is false)

  pub slotted_one_more :
      (row from i : ℕ) (value : Names) (is : Bool) (made : Facts → Facts) (old mid new : Sets) → is ≡ value i
      → Makes plan row from (λ facts cell. slotted (λ j. nat_lt j i && value j) no_name cell (made facts cell)) old mid
      → Turns plan row (slotted (λ j. is && (j == i)) no_name) mid new
      → Makes plan row from (λ facts cell. slotted (λ j. nat_lt j (suc i) && value j) no_name cell (made facts cell)) old new
  slotted_one_more row from i value is made old mid new e m t =
      Makes-as row from (λ facts cell. slotted (λ j. is && (j == i)) no_name cell (slotted (λ j. nat_lt j i && value j) no_name cell (made facts cell)))
      (λ facts cell. slotted (λ j. nat_lt j (suc i) && value j) no_name cell (made facts cell)) old new
      (Makes-turn row from (λ facts cell. slotted (λ j. nat_lt j i && value j) no_name cell (made facts cell)) (slotted (λ j. is && (j == i)) no_name)
      old mid new m t)
      (λ cell is_in. slotted_next value i is e cell (made (facts_in plan old from) cell))

  slotted_zero : (value : Names) (cell : Cell) (before : Bool) → before ≡ slotted (λ j. nat_lt j 0 && value j) no_name cell before
  slotted_zero value (with_at at i) before = refl
  slotted_zero value (saved_at at i) before = refl
  slotted_zero value (saved_in at i) before = rw (least_is at 0 (omega arith)) refl

  pub slotted_none_yet :
      (row from : ℕ) (value : Names) (made : Facts → Facts) (old new : Sets) → Makes plan row from made old new
      → Makes plan row from (λ facts cell. slotted (λ j. nat_lt j 0 && value j) no_name cell (made facts cell)) old new
  slotted_none_yet row from value made old new m =
      Makes-as row from made (λ facts cell. slotted (λ j. nat_lt j 0 && value j) no_name cell (made facts cell)) old new m
      (λ cell is_in. slotted_zero value cell (made (facts_in plan old from) cell))

  slotted_every : (value : Names) → value plan.slots ≡ false → (cell : Cell) (before : Bool) → IsIn plan cell
      → slotted (λ j. nat_lt j plan.slots && value j) no_name cell before ≡ slotted value no_name cell before
  slotted_every value last (with_at at i) before h = refl
  slotted_every value last (saved_at at i) before h = refl
  slotted_every value last (saved_in at i) before h = by_slot (cases_lt at plan.slots)
    where
      by_slot : (at < plan.slots) ⊎ (plan.slots ≤ at)
          → (if nat_lt at plan.slots && value at then false else before) ≡ (if value at then false else before)
      by_slot (inl l) = rw (less_is at plan.slots l) refl
      by_slot (inr l) =
          let bound = h.0 in
          let e : at ≡ plan.slots = omega (arith, bound, l) in
          rw (e, least_is plan.slots plan.slots (omega arith), last) refl

  pub slotted_all :
      (row from count : ℕ) (value : Names) (made : Facts → Facts) (old new : Sets) → count ≡ plan.slots → value plan.slots ≡ false
      → Makes plan row from (λ facts cell. slotted (λ j. nat_lt j count && value j) no_name cell (made facts cell)) old new
      → Makes plan row from (λ facts cell. slotted value no_name cell (made facts cell)) old new
  slotted_all row from count value made old new all last m =
      Makes-as row from (λ facts cell. slotted (λ j. nat_lt j count && value j) no_name cell (made facts cell))
      (λ facts cell. slotted value no_name cell (made facts cell)) old new m
      (λ cell is_in. rw all (slotted_every value last cell (made (facts_in plan old from) cell) is_in))

-- ---- values that move down

abbrev pub shifted : ℕ → ℕ → ℕ → Facts → Cell → Bool → Bool
shifted depth base count facts (with_at at i) before =
    if nat_lt at base then before else (if nat_lt at count then with_of facts depth (suc at) i else before)
shifted depth base count facts (saved_at at i) before =
    if nat_lt at base then before else (if nat_lt at count then saved_of facts depth (suc at) i else before)
shifted depth base count facts (saved_in slot i) before = before

module _ (plan : Plan) (depth : ℕ) (depth_in : depth ≤ plan.places) where
  -- the names of a place are read alike from rows that have the same facts
  with_same : (one two : Facts) → ((cell : Cell) → IsIn plan cell → one cell ≡ two cell) → (place i : ℕ) → i < plan.names
      → with_of one depth place i ≡ with_of two depth place i
  with_same one two same place i h = by_place (cases_lt place depth)
    where
      by_place : (place < depth) ⊎ (depth ≤ place) → (nat_lt place depth && one (with_at place i)) ≡ (nat_lt place depth && two (with_at place i))
      by_place (inl l) = ap (λ b. nat_lt place depth && b) (same (with_at place i) (omega (arith, depth_in, l), h))
      by_place (inr l) = rw (least_is place depth l) refl

  saved_same : (one two : Facts) → ((cell : Cell) → IsIn plan cell → one cell ≡ two cell) → (place i : ℕ) → i < plan.names
      → saved_of one depth place i ≡ saved_of two depth place i
  saved_same one two same place i h = by_place (cases_lt place depth)
    where
      by_place : (place < depth) ⊎ (depth ≤ place) → (nat_lt place depth && one (saved_at place i)) ≡ (nat_lt place depth && two (saved_at place i))
      by_place (inl l) = ap (λ b. nat_lt place depth && b) (same (saved_at place i) (omega (arith, depth_in, l), h))
      by_place (inr l) = rw (least_is place depth l) refl

  pub from_same :
      (row from : ℕ) (value : Facts → Facts) (old mid : Sets) → Makes plan row from value old mid → from ≢ row → from < old.count → total plan ≤ width old
      → (cell : Cell) → IsIn plan cell → facts_in plan mid from cell ≡ facts_in plan old from cell
  from_same row from value old mid m ne inside room cell is_in =
      let bound = number_in plan cell is_in in m.others from (number plan cell) inside (omega arith) ne

  -- ---- values that move down

  step_down : (base at : ℕ) → base ≤ at → (facts : Facts) (cell : Cell) (before : Bool)
      → placed at (with_of facts depth (suc at)) (saved_of facts depth (suc at)) cell (shifted depth base at facts cell before)
      ≡ shifted depth base (suc at) facts cell before
  step_down base at h facts (with_at k i) before = by_place (cases_eq k at) (cases_lt k at)
    where
      by_place : (k ≡ at) ⊎ (k ≡ at → ⊥) → (k < at) ⊎ (at ≤ k)
          → (if k == at then with_of facts depth (suc at) i else (if nat_lt k base then before else (if nat_lt k at then with_of facts depth (suc k)
          i else before)))
          ≡ (if nat_lt k base then before else (if nat_lt k (suc at) then with_of facts depth (suc k) i else before))
      by_place (inl e) order = rw (e, same_is at, least_is at base h, less_is at (suc at) (omega arith)) refl
      by_place (inr ne) (inl l) = rw (other_is k at ne, less_is k at l, less_is k (suc at) (omega (arith, l))) refl
      by_place (inr ne) (inr l) = rw (other_is k at ne, least_is k at l, least_is k (suc at) (omega (arith, ne, l))) refl
  step_down base at h facts (saved_at k i) before = by_place (cases_eq k at) (cases_lt k at)
    where
      by_place : (k ≡ at) ⊎ (k ≡ at → ⊥) → (k < at) ⊎ (at ≤ k)
          → (if k == at then saved_of facts depth (suc at) i else (if nat_lt k base then before else (if nat_lt k at then saved_of facts depth (suc
          k) i else before)))
          ≡ (if nat_lt k base then before else (if nat_lt k (suc at) then saved_of facts depth (suc k) i else before))
      by_place (inl e) order = rw (e, same_is at, least_is at base h, less_is at (suc at) (omega arith)) refl
      by_place (inr ne) (inl l) = rw (other_is k at ne, less_is k at l, less_is k (suc at) (omega (arith, l))) refl
      by_place (inr ne) (inr l) = rw (other_is k at ne, least_is k at l, least_is k (suc at) (omega (arith, ne, l))) refl
  step_down base at h facts (saved_in slot i) before = refl

  pub bring_none :
      (row from base : ℕ) (old new : Sets) → Makes plan row from (λ facts cell. popped base cell (facts cell)) old new
      → Makes plan row from (λ facts cell. shifted depth base base facts cell (popped base cell (facts cell))) old new
  bring_none row from base old new m =
      Makes-as plan row from (λ facts cell. popped base cell (facts cell)) (λ facts cell. shifted depth base base facts cell (popped base cell (facts cell)))
      old new m (λ cell is_in. by_cell cell (popped base cell (facts_in plan old from cell)))
    where
      by_test : (b x y : Bool) → x ≡ (if b then x else (if b then y else x))
      by_test true x y = refl
      by_test false x y = refl

      by_cell : (cell : Cell) (before : Bool) → before ≡ shifted depth base base (facts_in plan old from) cell before
      by_cell (with_at k i) before = by_test (nat_lt k base) before (with_of (facts_in plan old from) depth (suc k) i)
      by_cell (saved_at k i) before = by_test (nat_lt k base) before (saved_of (facts_in plan old from) depth (suc k) i)
      by_cell (saved_in slot i) before = refl

  pub bring_next :
      (row from base at : ℕ) (w s : Names) (old mid new : Sets) → base ≤ at → from ≢ row → from < old.count → total plan ≤ width old
      → Makes plan row from (λ facts cell. shifted depth base at facts cell (popped base cell (facts cell))) old mid
      → Turns plan row (placed at w s) mid new → AreSame plan w (with_of (facts_in plan mid from) depth (suc at))
      → AreSame plan s (saved_of (facts_in plan mid from) depth (suc at))
      → Makes plan row from (λ facts cell. shifted depth base (suc at) facts cell (popped base cell (facts cell))) old new
  bring_next row from base at w s old mid new h ne inside room m t same same' =
      let kept = from_same row from (λ facts cell. shifted depth base at facts cell (popped base cell (facts cell))) old mid m ne inside room in
      Makes-as plan row from
      (λ facts cell. placed at (with_of facts depth (suc at)) (saved_of facts depth (suc at)) cell (shifted depth base at facts cell (popped base
      cell (facts cell))))
      (λ facts cell. shifted depth base (suc at) facts cell (popped base cell (facts cell))) old new
      (then_placed plan row from at (λ facts cell. shifted depth base at facts cell (popped base cell (facts cell))) (λ facts. with_of facts depth (suc at))
      (λ facts. saved_of facts depth (suc at)) w s old mid new m t
      (λ i l. same i l ∙ with_same (facts_in plan mid from) (facts_in plan old from) kept (suc at) i l)
      (λ i l. same' i l ∙ saved_same (facts_in plan mid from) (facts_in plan old from) kept (suc at) i l))
      (λ cell is_in. step_down base at h (facts_in plan old from) cell (popped base cell (facts_in plan old from cell)))

  last_down : (base count : ℕ) → depth - 1 ≤ count → (facts : Facts) (cell : Cell)
      → placed (depth - 1) (with_of facts depth base) (saved_of facts depth base) cell (shifted depth base count facts cell (popped base cell (facts cell)))
      ≡ brought depth base facts cell (popped base cell (facts cell))
  last_down base count h facts (with_at k i) = by_place (cases_eq k (depth - 1)) (cases_lt k base) (cases_lt k count)
    where
      by_place : (k ≡ depth - 1) ⊎ (k ≡ depth - 1 → ⊥) → (k < base) ⊎ (base ≤ k) → (k < count) ⊎ (count ≤ k)
          → (if k == depth - 1 then with_of facts depth base i else (if nat_lt k base then nat_lt k base && facts (with_at k i) else
          (if nat_lt k count then with_of facts depth (suc k) i else nat_lt k base && facts (with_at k i))))
          ≡ (if k == depth - 1 then with_of facts depth base i else (if nat_lt k base then nat_lt k base && facts (with_at k i) else with_of facts
          depth (suc k) i))
      by_place (inl e) order order' = rw (e, same_is (depth - 1)) refl
      by_place (inr ne) (inl l) order' = rw (other_is k (depth - 1) ne, less_is k base l) refl
      by_place (inr ne) (inr l) (inl l') = rw (other_is k (depth - 1) ne, least_is k base l, less_is k count l') refl
      by_place (inr ne) (inr l) (inr l') =
          rw (other_is k (depth - 1) ne, least_is k base l, least_is k count l', least_is (suc k) depth (omega (arith, ne, l', h))) refl
  last_down base count h facts (saved_at k i) = by_place (cases_eq k (depth - 1)) (cases_lt k base) (cases_lt k count)
    where
      by_place : (k ≡ depth - 1) ⊎ (k ≡ depth - 1 → ⊥) → (k < base) ⊎ (base ≤ k) → (k < count) ⊎ (count ≤ k)
          → (if k == depth - 1 then saved_of facts depth base i else (if nat_lt k base then nat_lt k base && facts (saved_at k i) else
          (if nat_lt k count then saved_of facts depth (suc k) i else nat_lt k base && facts (saved_at k i))))
          ≡ (if k == depth - 1 then saved_of facts depth base i else (if nat_lt k base then nat_lt k base && facts (saved_at k i) else saved_of facts
          depth (suc k) i))
      by_place (inl e) order order' = rw (e, same_is (depth - 1)) refl
      by_place (inr ne) (inl l) order' = rw (other_is k (depth - 1) ne, less_is k base l) refl
      by_place (inr ne) (inr l) (inl l') = rw (other_is k (depth - 1) ne, least_is k base l, less_is k count l') refl
      by_place (inr ne) (inr l) (inr l') =
          rw (other_is k (depth - 1) ne, least_is k base l, least_is k count l', least_is (suc k) depth (omega (arith, ne, l', h))) refl
  last_down base count h facts (saved_in slot i) = refl

  pub bring_done :
      (row from base count : ℕ) (w s : Names) (old mid new : Sets) → depth - 1 ≤ count → from ≢ row → from < old.count → total plan ≤ width old
      → Makes plan row from (λ facts cell. shifted depth base count facts cell (popped base cell (facts cell))) old mid
      → Turns plan row (placed (depth - 1) w s) mid new → AreSame plan w (with_of (facts_in plan mid from) depth base)
      → AreSame plan s (saved_of (facts_in plan mid from) depth base)
      → Makes plan row from (λ facts cell. brought depth base facts cell (popped base cell (facts cell))) old new
  bring_done row from base count w s old mid new h ne inside room m t same same' =
      let kept = from_same row from (λ facts cell. shifted depth base count facts cell (popped base cell (facts cell))) old mid m ne inside room in
      Makes-as plan row from
      (λ facts cell. placed (depth - 1) (with_of facts depth base) (saved_of facts depth base) cell (shifted depth base count facts cell (popped base
      cell (facts cell))))
      (λ facts cell. brought depth base facts cell (popped base cell (facts cell))) old new
      (then_placed plan row from (depth - 1) (λ facts cell. shifted depth base count facts cell (popped base cell (facts cell))) (λ facts. with_of
      facts depth base)
      (λ facts. saved_of facts depth base) w s old mid new m t
      (λ i l. same i l ∙ with_same (facts_in plan mid from) (facts_in plan old from) kept base i l)
      (λ i l. same' i l ∙ saved_same (facts_in plan mid from) (facts_in plan old from) kept base i l))
      (λ cell is_in. last_down base count h (facts_in plan old from) cell)

-- ---- a step reads facts of the plan alone

module _ (plan : Plan) (one two : Facts) (same : (cell : Cell) → IsIn plan cell → one cell ≡ two cell) where
  popped_cong : (base : ℕ) (cell : Cell) → IsIn plan cell → popped base cell (one cell) ≡ popped base cell (two cell)
  popped_cong base cell h = ap (popped base cell) (same cell h)

  placed_cong : (place : ℕ) (w w' s s' : Names) (cell : Cell) (b b' : Bool) → AreSame plan w w' → AreSame plan s s' → b ≡ b' → IsIn plan cell
      → placed place w s cell b ≡ placed place w' s' cell b'
  placed_cong place w w' s s' cell b b' e e' same_before h = placed_same plan place w w' s s' e e' cell b h ∙ ap (placed place w' s' cell) same_before

  brought_cong : (depth base : ℕ) → depth ≤ plan.places → (cell : Cell) (b b' : Bool) → b ≡ b' → IsIn plan cell
      → brought depth base one cell b ≡ brought depth base two cell b'
  brought_cong depth base d (with_at k i) b b' e h =
      ap (λ x. if k == depth - 1 then x else (if nat_lt k base then b else with_of one depth (suc k) i)) (with_same plan depth d one two same base i h.1)
      ∙ ap (λ x. if k == depth - 1 then with_of two depth base i else (if nat_lt k base then b else x)) (with_same plan depth d one two same (suc k) i h.1)
      ∙ ap (λ x. if k == depth - 1 then with_of two depth base i else (if nat_lt k base then x else with_of two depth (suc k) i)) e
  brought_cong depth base d (saved_at k i) b b' e h =
      ap (λ x. if k == depth - 1 then x else (if nat_lt k base then b else saved_of one depth (suc k) i)) (saved_same plan depth d one two same base i h.1)
      ∙ ap (λ x. if k == depth - 1 then saved_of two depth base i else (if nat_lt k base then b else x)) (saved_same plan depth d one two same (suc k) i h.1)
      ∙ ap (λ x. if k == depth - 1 then saved_of two depth base i else (if nat_lt k base then x else saved_of two depth (suc k) i)) e
  brought_cong depth base d (saved_in slot i) b b' e h = e

  pub given_same : (names slots : ℕ → Names) (its : Step) → FitsStep plan its → (cell : Cell) → IsIn plan cell
      → given names slots its one cell ≡ given names slots its two cell
  given_same names slots (step.Pop base) fits cell h = popped_cong base cell h
  given_same names slots (step.Get to slot name) fits cell h =
      placed_cong to (one_name name) (one_name name) (λ i. one (saved_in slot i)) (λ i. two (saved_in slot i)) cell (popped to cell (one cell))
      (popped to cell (two cell)) (λ i l. refl) (λ i l. same (saved_in slot i) (fits, l)) (popped_cong to cell h) h
  given_same names slots (step.SetName depth name slot) fits cell h =
      ap (λ b. named (depth - 1) name cell (slotted (one_name slot) no_name cell (without (one_name name) cell b))) (popped_cong depth cell h)
  given_same names slots (step.SetSlot depth slot) fits cell h =
      slotted_same plan (one_name slot) (saved_of one depth (depth - 1)) (saved_of two depth (depth - 1))
      (saved_same plan depth fits.0 one two same (depth - 1)) cell (popped depth cell (one cell)) h
      ∙ ap (slotted (one_name slot) (saved_of two depth (depth - 1)) cell) (popped_cong depth cell h)
  given_same names slots (step.Dup depth) fits cell h =
      placed_cong depth (with_of one depth (depth - 1)) (with_of two depth (depth - 1)) (saved_of one depth (depth - 1)) (saved_of two depth (depth - 1)) cell
      (popped depth cell (one cell)) (popped depth cell (two cell)) (with_same plan depth fits one two same (depth - 1))
      (saved_same plan depth fits one two same (depth - 1)) (popped_cong depth cell h) h
  given_same names slots (step.Tuck depth) fits cell h =
      let first = placed_cong (depth - 2) (with_of one depth (depth - 1)) (with_of two depth (depth - 1)) (saved_of one depth (depth - 1))
      (saved_of two depth (depth - 1)) cell (popped (depth - 2) cell (one cell)) (popped (depth - 2) cell (two cell))
      (with_same plan depth fits one two same (depth - 1)) (saved_same plan depth fits one two same (depth - 1)) (popped_cong (depth - 2) cell h) h in
      let second = placed_cong (depth - 1) (with_of one depth (depth - 2)) (with_of two depth (depth - 2)) (saved_of one depth (depth - 2))
      (saved_of two depth (depth - 2)) cell
      (placed (depth - 2) (with_of one depth (depth - 1)) (saved_of one depth (depth - 1)) cell (popped (depth - 2) cell (one cell)))
      (placed (depth - 2) (with_of two depth (depth - 1)) (saved_of two depth (depth - 1)) cell (popped (depth - 2) cell (two cell)))
      (with_same plan depth fits one two same (depth - 2)) (saved_same plan depth fits one two same (depth - 2)) first h in
      placed_cong depth (with_of one depth (depth - 1)) (with_of two depth (depth - 1)) (saved_of one depth (depth - 1)) (saved_of two depth (depth - 1)) cell
      (placed (depth - 1) (with_of one depth (depth - 2)) (saved_of one depth (depth - 2)) cell
      (placed (depth - 2) (with_of one depth (depth - 1)) (saved_of one depth (depth - 1)) cell (popped (depth - 2) cell (one cell))))
      (placed (depth - 1) (with_of two depth (depth - 2)) (saved_of two depth (depth - 2)) cell
      (placed (depth - 2) (with_of two depth (depth - 1)) (saved_of two depth (depth - 1)) cell (popped (depth - 2) cell (two cell))))
      (with_same plan depth fits one two same (depth - 1)) (saved_same plan depth fits one two same (depth - 1)) second h
  given_same names slots (step.Conv depth) fits cell h =
      placed_cong (depth - 1) no_name no_name (saved_of one depth (depth - 1)) (saved_of two depth (depth - 1)) cell (popped (depth - 1) cell (one cell))
      (popped (depth - 1) cell (two cell)) (λ i l. refl) (saved_same plan depth fits one two same (depth - 1)) (popped_cong (depth - 1) cell h) h
  given_same names slots (step.Bring depth base) fits cell h =
      brought_cong depth base fits cell (popped base cell (one cell)) (popped base cell (two cell)) (popped_cong base cell h) h
  given_same names slots (step.ReadState depth base) fits cell h =
      placed_cong base no_name no_name (with_of one depth base) (with_of two depth base) cell (popped base cell (one cell)) (popped base cell (two cell))
      (λ i l. refl) (with_same plan depth fits one two same base) (popped_cong base cell h) h
  given_same names slots (step.Call base f) fits cell h =
      ap (λ b. slotted (slots f) no_name cell (without (names f) cell b)) (popped_cong base cell h)
