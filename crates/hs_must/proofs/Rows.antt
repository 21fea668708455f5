-- The rows of a function, after the bits that say nothing were taken out.
--     facts_after      its facts are answered as before
--     rows_after       the rows have what is answered
--     room_stays       the rows keep their room
--     none_found       what is kept of a function without names is right
use Rattle.std.proofs.Common.{◌≡◌, ◌≢◌, ◌<◌, ◌≤◌, ◌⊎◌, ℕ, zero, suc, ◌+◌, ◌*◌, ◌==◌, nat_lt, Bool, true, false, not, ◌&&◌, ap, sym, subst, ◌∙◌, refl, inl, inr, arith, List, [], length, slice_get, Option, Some, None}
use Rattle.std.proofs.lemmas.Bool.{cases_eq, cases_lt}
use Rattle.std.proofs.lemmas.Bool.Decides.{nat_tests}
use Rattle.std.proofs.lemmas.Nat.{row_fits}
use Rattle.std.proofs.lemmas.Option.{slice_get_within}
use Rattle.std.specs.Bool.{Decides}
use Rattle.hs_code.specs.declared.function_code.FunctionCode.{FunctionCode}
use Rattle.hs_code.specs.declared.function_code.Placed.{Placed}
use Rattle.hs_fact_rows.specs.Laws.Numbers.{less_number, less_numbers}
use Rattle.hs_fact_rows.specs.declared.plan.Plan.{Plan}
use Rattle.hs_facts.specs.Effects.{HoldsAt, WholeCode, ops_in, placed_in}
use Rattle.hs_facts.specs.MustFacts.{Distinct, Live, Locked}
use Rattle.hs_lock_rows.specs.Knowing.{HasRoom}
use Rattle.hs_lock_rows.specs.Laws.Numbering.{one_number}
use Rattle.hs_lock_rows.specs.Laws.Solved.{number_in}
use Rattle.hs_lock_rows.specs.Layout.{IsField, number, total}
use Rattle.hs_lock_rows.specs.Own.{Cleared, own}
use Rattle.hs_lock_rows.specs.declared.field.Field.{Field}
use Rattle.hs_lock_rows.specs.declared.field.Field.TheVariants as field
use Rattle.hs_must.specs.Answers.{AreRows, IsFacts, distinct_by, has_in, is_there, live_by, locked_by, names_in}
use Rattle.hs_must.specs.Ends.{AreKept, HasNone, IsFound}
use Rattle.hs_must.specs.Functions.{FunctionAnswers}
use Rattle.hs_must.specs.declared.kept.Kept.{Kept}
use Rattle.hs_must.specs.declared.kept.Kept.TheVariants as kept
use Rattle.hs_rows.specs.Sets.{SameSize, Sets, has, width}
use Rattle.hs_tree.specs.declared.head.Variable.{Variable}

-- ---- tests

not_less : (a b : ℕ) → b ≤ a → nat_lt a b ≡ false
not_less a b most = grind (arith, nat_tests, most)

itself : (a : ℕ) → (a == a) ≡ true
itself a = grind (arith, nat_tests)

differ : (a b : ℕ) → (a ≡ b → ⊥) → (a == b) ≡ false
differ a b ne = by_test (a == b) refl
  where
    by_test : (t : Bool) → (a == b) ≡ t → (a == b) ≡ false
    by_test false is = is
    by_test true is = let same : a ≡ b = grind (arith, nat_tests, is) in absurd (ne same)

-- tests of an operation and a name that are there, or not
if_there : (a b x y : Bool) → (a ≡ true → b ≡ true → x ≡ y) → ((a && b) && x) ≡ ((a && b) && y)
if_there true true x y same = same refl refl
if_there true false x y same = refl
if_there false b x y same = refl

-- rows keep their room when bits are taken out
pub room_stays : (plan : Plan) (old new : Sets) (row : ℕ) → SameSize old new → HasRoom plan old row → HasRoom plan new row
room_stays plan old new row size room = record {
  names = room.names;
  fields_fit = room.fields_fit;
  numbers = room.numbers;
  room = subst (λ n. total plan ≤ 64 * n) (sym size.per) room.room;
  there = subst (λ n. row < n) (sym size.count) room.there;
  some = room.some;
}

-- ---- a function with names

module _ (whole : WholeCode) (f : ℕ) (plan : Plan) (ops : ℕ) (low old new : Sets) (slots : List Variable)
    (fits : (row : ℕ) → row < ops → HasRoom plan old row) (cleared : Cleared plan ops old new) where
  abbrev before : FunctionAnswers
  before = record { plan = plan; ops = ops; low = low; locks = old; slots = slots }

  abbrev after : FunctionAnswers
  after = record { plan = plan; ops = ops; low = low; locks = new; slots = slots }

  -- a bit that says something
  same_bit : (its : Field) (row i : ℕ) → IsField plan its → row < ops → i < plan.names → its ≢ field.Apart i
      → has new row (number plan its i) ≡ has old row (number plan its i)
  same_bit its row i is inside within other =
      let room = fits row inside in
      let there = room.there in
      let most = room.room in
      let bound = number_in plan its i is within in
      cleared.others row (number plan its i) there (omega (arith, bound, most)) none
    where
      none : (name : ℕ) → name < plan.names → number plan its i ≢ own plan name
      none name below same =
          let one = one_number plan its (field.Apart name) i name is below within below same in
          other (one.0 ∙ ap field.Apart (sym one.1))

  same_in : (its : Field) (at h : ℕ) → IsField plan its → its ≢ field.Apart h → has_in after its at h ≡ has_in before its at h
  same_in its at h is other =
      if_there (nat_lt at ops) (nat_lt h plan.names) (has new at (number plan its h)) (has old at (number plan its h))
      (λ inside below. same_bit its at h is (less_numbers at ops inside) (less_numbers h plan.names below) other)

  same_distinct : (at a b : ℕ) → distinct_by after at a b ≡ distinct_by before at a b
  same_distinct at a b = by_name (cases_eq a b)
    where
      by_name : (a ≡ b) ⊎ (a ≡ b → ⊥) → distinct_by after at a b ≡ distinct_by before at a b
      by_name (inl same) =
          ap (λ t. nat_lt a plan.names && (not t && has_in after (field.Apart a) at b)) is
          ∙ sym (ap (λ t. nat_lt a plan.names && (not t && has_in before (field.Apart a) at b)) is)
        where
          is : (a == b) ≡ true
          is = subst (λ n. (a == n) ≡ true) same (itself a)
      by_name (inr other) = by_order (cases_lt a plan.names)
        where
          by_order : (a < plan.names) ⊎ (plan.names ≤ a) → distinct_by after at a b ≡ distinct_by before at a b
          by_order (inl below) = ap (λ t. nat_lt a plan.names && (not (a == b) && t)) (same_in (field.Apart a) at b below (λ e. other (name_of a b e)))
            where
              name_of : (a b : ℕ) → field.Apart a ≡ field.Apart b → a ≡ b
              name_of a b e = cc
          by_order (inr past) =
              ap (λ t. t && (not (a == b) && has_in after (field.Apart a) at b)) (not_less a plan.names past)
              ∙ sym (ap (λ t. t && (not (a == b) && has_in before (field.Apart a) at b)) (not_less a plan.names past))

  pub facts_after : IsFacts whole f before → IsFacts whole f after
  facts_after are = record {
    locked = λ at h x is. subst (λ t. Decides t (HoldsAt whole f at (Locked x))) (sym (same_in field.Locked at h tt not_apart)) (are.locked at h x is);
    live = λ at h x is. subst (λ t. Decides t (HoldsAt whole f at (Live x))) (sym (same_in field.Live at h tt not_live)) (are.live at h x is);
    distinct = λ at a b x y is also. subst (λ t. Decides t (HoldsAt whole f at (Distinct x y))) (sym (same_distinct at a b)) (are.distinct at a b x y is also);
    with = are.with;
    saved = are.saved;
  }
    where
      not_apart : {n : ℕ} → field.Locked ≢ field.Apart n
      not_apart e = absurd cc

      not_live : {n : ℕ} → field.Live ≢ field.Apart n
      not_live e = absurd cc

  module _ (names : plan.names ≡ length (names_in whole f)) (count : (at : ℕ) (it : Placed) → placed_in whole f at ≡ Some it → at < ops) where
    -- what is there is answered by its bit
    answered : (its : Field) (at h : ℕ) → at < ops → h < plan.names → has new at (number plan its h) ≡ has_in after its at h
    answered its at h inside below =
        sym (ap (λ t. (t && nat_lt h plan.names) && has new at (number plan its h)) (less_number at ops inside)
        ∙ ap (λ t. t && has new at (number plan its h)) (less_number h plan.names below))

    numbered : (its : Field) (at h k : ℕ) → number plan its h ≡ k → at < ops → h < plan.names → has new at k ≡ has_in after its at h
    numbered its at h k is inside below = subst (λ n. has new at n ≡ has_in after its at h) is (answered its at h inside below)

    named : (a : ℕ) → a < length (names_in whole f) → a < plan.names
    named a low = subst (λ n. a < n) (sym names) low

    distinct_row : (at a b : ℕ) → at < ops → a < plan.names → b < plan.names
        → has new at (number plan (field.Apart a) b) ≡ (not (a == b) && distinct_by after at a b)
    distinct_row at a b inside below also = by_name (cases_eq a b)
      where
        by_name : (a ≡ b) ⊎ (a ≡ b → ⊥) → has new at (number plan (field.Apart a) b) ≡ (not (a == b) && distinct_by after at a b)
        by_name (inl same) =
            subst (λ n. has new at (number plan (field.Apart a) n) ≡ false) same (cleared.out at a inside below)
            ∙ sym (ap (λ t. not t && distinct_by after at a b) (subst (λ n. (a == n) ≡ true) same (itself a)))
        by_name (inr other) =
            answered (field.Apart a) at b inside also
            ∙ sym (ap (λ t. not t && (nat_lt a plan.names && (not t && has_in after (field.Apart a) at b))) (differ a b other)
            ∙ ap (λ t. t && has_in after (field.Apart a) at b) (less_number a plan.names below))

    wide : total plan ≤ width new → 2 * plan.names + plan.names * plan.names ≤ width new
    wide room =
        let fits : (plan.names + 2) * plan.names + plan.names ≤ total plan = row_fits (plan.names + 2) plan.names _ plan.names (omega arith) (omega arith) in
        omega (arith, fits, room)

    pub rows_after : total plan ≤ width new → ((at : ℕ) → at < ops → at < new.count) → AreRows whole f (kept.Named after)
    rows_after room there = record {
      there = λ at it is. there at (count at it is);
      wide = subst (λ n. 2 * n + n * n ≤ width new) names (wide room);
      locked = λ at a it is low. numbered field.Locked at a a (omega arith) (count at it is) (named a low);
      live = λ at a it is low.
          subst (λ n. has new at (n + a) ≡ live_by after at a) names
          (numbered field.Live at a (plan.names + a) (omega arith) (count at it is) (named a low));
      distinct = λ at a b it is low also.
          subst (λ n. has new at (2 * n + a * n + b) ≡ (not (a == b) && distinct_by after at a b)) names
          (subst (λ k. has new at k ≡ (not (a == b) && distinct_by after at a b)) (apart_number a b)
          (distinct_row at a b (count at it is) (named a low) (named b also)));
    }
      where
        apart_number : (a b : ℕ) → number plan (field.Apart a) b ≡ 2 * plan.names + a * plan.names + b
        apart_number a b = omega arith

-- ---- a function without names

rows_none : (whole : WholeCode) (f : ℕ) (code : FunctionCode) (its : Kept) → slice_get whole.functions f ≡ Some code → names_in whole f ≡ []
    → HasNone code its → AreRows whole f its
rows_none whole f code (kept.Named its) of_code none count = absurd count
rows_none whole f code (kept.Nameless rows) of_code none count = record {
  there = λ at it is.
      let inside = slice_get_within code.ops at it (subst (λ (c : Option FunctionCode). slice_get (ops_in c) at ≡ Some it) of_code is) in
      subst (λ n. at < n) (sym count) inside;
  wide = subst (λ (list : List Variable). 2 * length list + length list * length list ≤ width rows) (sym none) (omega arith);
  locked = λ at a it is low. absurd (no_name a low);
  live = λ at a it is low. absurd (no_name a low);
  distinct = λ at a b it is low also. absurd (no_name a low);
}
  where
    no_name : (a : ℕ) → a < length (names_in whole f) → ⊥
    no_name a low = absurd (omega (arith, subst (λ (list : List Variable). a < length list) none low))

none_kept : (whole : WholeCode) (f : ℕ) (code : FunctionCode) (its : Kept) → names_in whole f ≡ [] → HasNone code its → AreKept whole f its
none_kept whole f code (kept.Named its) none count = absurd count
none_kept whole f code (kept.Nameless rows) none count = none

pub none_found : (whole : WholeCode) (f : ℕ) (code : FunctionCode) (its : Kept) → slice_get whole.functions f ≡ Some code → names_in whole f ≡ []
    → HasNone code its → IsFound whole f its
none_found whole f code its of_code none count = record {
  facts = none_kept whole f code its none count;
  few = subst (λ (list : List Variable). length list ≤ 64) (sym none) (omega arith);
  rows = rows_none whole f code its of_code none count;
}
