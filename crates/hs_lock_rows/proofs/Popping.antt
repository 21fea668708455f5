-- A row that is made of what another one has below a place.
--     popped_some, popped_none     the places from the base on are cleared, or there are none
--     used_made                    and the handle that was taken is live
use Rattle.std.proofs.Common.{◌≡◌, ◌≢◌, ◌<◌, ◌≤◌, ◌⊎◌, ℕ, ◌+◌, ◌-◌, ◌*◌, nat_lt, Bool, true, false, ◌&&◌, ◌||◌, List, ap, sym, subst, ◌∙◌, refl, inl, inr, arith}
use Rattle.std.proofs.lemmas.Bool.{cases_eq, cases_lt}
use Rattle.std.proofs.lemmas.Nat.{row_fits}
use Rattle.hs_fact_rows.specs.Fields.{Writes}
use Rattle.hs_fact_rows.specs.Given.{Facts, Names, facts_in, with_of}
use Rattle.hs_fact_rows.specs.Laws.Numbers.{least_number, less_number}
use Rattle.hs_fact_rows.specs.declared.plan.Plan.{Plan}
use Rattle.hs_lock_rows.specs.Given.{Locks, comes, plain, stay_by}
use Rattle.hs_lock_rows.specs.Laws.Solved.{number_in}
use Rattle.hs_lock_rows.specs.Layout.{IsField, field_number, number, total}
use Rattle.hs_lock_rows.specs.Making.{Popped, Shows, given_at}
use Rattle.hs_lock_rows.specs.declared.change.Change.TheVariants as change
use Rattle.hs_lock_rows.specs.declared.field.Field.{Field}
use Rattle.hs_lock_rows.specs.declared.field.Field.TheVariants as field
use Rattle.hs_rows.specs.Sets.{Sets, SameSize, bit_in, has, width}
use Rattle.hs_tree.specs.declared.head.Variable.{Variable}

-- nothing comes when values are taken
pub none_comes : (names : ℕ) (ends loses : ℕ → Names) (low : Facts) (facts : Locks) (base : ℕ) (its : Field) (i : ℕ)
    → comes names ends loses low facts (change.Pop base) its i ≡ false
none_comes names ends loses low facts base (field.KeptIn s) i = refl
none_comes names ends loses low facts base field.Locked i = refl
none_comes names ends loses low facts base field.Live i = refl
none_comes names ends loses low facts base (field.Apart x) i = refl
none_comes names ends loses low facts base (field.KeptAt p) i = refl
none_comes names ends loses low facts base (field.NewAt p) i = refl

pub or_false : (a : Bool) → a ≡ (a || false)
or_false true = refl
or_false false = refl

module _ (plan : Plan) (to at base : ℕ) (old : Sets) (inside : to < old.count) (room : total plan ≤ width old) where
  -- a place that is below the base, or not
  low_place : (p : ℕ) (b : Bool) → p < base → b ≡ ((nat_lt p base && (true && true)) && b)
  low_place p b low = rw (less_number p base low) refl

  high_place : (p : ℕ) (b : Bool) → base ≤ p → false ≡ ((nat_lt p base && (true && true)) && b)
  high_place p b high = rw (least_number p base high) refl

  low_new : (p : ℕ) (b : Bool) → p < base → b ≡ ((nat_lt p base && true) && b)
  low_new p b low = rw (less_number p base low) refl

  high_new : (p : ℕ) (b : Bool) → base ≤ p → false ≡ ((nat_lt p base && true) && b)
  high_new p b high = rw (least_number p base high) refl

  module _ (mid : Sets) (copied : (bit : ℕ) → bit < width old → has mid to bit ≡ has old at bit) (size : SameSize old mid) where
    here : (its : Field) (i : ℕ) → IsField plan its → i < plan.names → has mid to (number plan its i) ≡ has old at (number plan its i)
    here its i is l = let bound = number_in plan its i is l in copied (number plan its i) (omega (arith, bound, room))

    -- all places are below the base
    pub popped_none : plan.places ≤ base → Popped plan to at base old mid
    popped_none far (field.KeptIn s) i is l = here (field.KeptIn s) i is l
    popped_none far field.Locked i is l = here field.Locked i is l
    popped_none far field.Live i is l = here field.Live i is l
    popped_none far (field.Apart x) i is l = here (field.Apart x) i is l
    popped_none far (field.KeptAt p) i is l =
        here (field.KeptAt p) i is l ∙ low_place p (has old at (number plan (field.KeptAt p) i)) (omega (arith, far, is))
    popped_none far (field.NewAt p) i is l =
        here (field.NewAt p) i is l ∙ low_new p (has old at (number plan (field.NewAt p) i)) (omega (arith, far, is))

    module _ (new : Sets) (first count : ℕ) (there : base < plan.places) (begins : first ≡ field_number plan (field.KeptAt base) * plan.names)
        (all : count ≡ total plan - first) (w : Writes to first count (λ i. false) mid new) where
      before : (its : Field) (i : ℕ) → IsField plan its → i < plan.names → field_number plan its < field_number plan (field.KeptAt base)
          → has new to (number plan its i) ≡ has old at (number plan its i)
      before its i is l low =
          let fits : field_number plan its * plan.names + plan.names ≤ field_number plan (field.KeptAt base) * plan.names =
          row_fits (field_number plan its) plan.names (field_number plan (field.KeptAt base)) plan.names low (omega arith) in
          let bound = number_in plan its i is l in
          let front : number plan its i < first = omega (arith, fits, l, begins) in
          w.outside to (number plan its i) (subst (λ n. to < n) (sym size.count) inside)
          (subst (λ n. number plan its i < 64 * n) (sym size.per) (omega (arith, bound, room))) (inr (inl front))
          ∙ here its i is l

      after : (its : Field) (i : ℕ) → IsField plan its → i < plan.names → field_number plan (field.KeptAt base) ≤ field_number plan its
          → has new to (number plan its i) ≡ false
      after its i is l high =
          let bound = number_in plan its i is l in
          let from : first ≤ number plan its i = by_place (cases_eq (field_number plan (field.KeptAt base)) (field_number plan its)) in
          let back : number plan its i ≡ first + (number plan its i - first) = omega (arith, from) in
          ap (has new to) back ∙ w.inside (number plan its i - first) (omega (arith, bound, from, all))
        where
          by_place : (field_number plan (field.KeptAt base) ≡ field_number plan its)
              ⊎ (field_number plan (field.KeptAt base) ≡ field_number plan its → ⊥) → first ≤ number plan its i
          by_place (inl e) = let same = begins ∙ ap (λ n. n * plan.names) e in omega (arith, same)
          by_place (inr ne) =
              let less : field_number plan (field.KeptAt base) < field_number plan its = omega (arith, high, ne) in
              let fits : field_number plan (field.KeptAt base) * plan.names + plan.names ≤ field_number plan its * plan.names =
              row_fits (field_number plan (field.KeptAt base)) plan.names (field_number plan its) plan.names less (omega arith) in
              omega (arith, fits, begins)

      pub popped_some : Popped plan to at base old new
      popped_some (field.KeptIn s) i is l = before (field.KeptIn s) i is l (omega (arith, is))
      popped_some field.Locked i is l = before field.Locked i is l (omega arith)
      popped_some field.Live i is l = before field.Live i is l (omega arith)
      popped_some (field.Apart x) i is l = before (field.Apart x) i is l (omega (arith, is))
      popped_some (field.KeptAt p) i is l = by_place (cases_lt p base)
        where
          by_place : (p < base) ⊎ (base ≤ p) → has new to (number plan (field.KeptAt p) i)
              ≡ (stay_by (plain base) (field.KeptAt p) i && has old at (number plan (field.KeptAt p) i))
          by_place (inl low) =
              before (field.KeptAt p) i is l (omega (arith, low)) ∙ low_place p (has old at (number plan (field.KeptAt p) i)) low
          by_place (inr high) =
              after (field.KeptAt p) i is l (omega (arith, high)) ∙ high_place p (has old at (number plan (field.KeptAt p) i)) high
      popped_some (field.NewAt p) i is l = by_place (cases_lt p base)
        where
          by_place : (p < base) ⊎ (base ≤ p) → has new to (number plan (field.NewAt p) i)
              ≡ (stay_by (plain base) (field.NewAt p) i && has old at (number plan (field.NewAt p) i))
          by_place (inl low) =
              before (field.NewAt p) i is l (omega (arith, low)) ∙ low_new p (has old at (number plan (field.NewAt p) i)) low
          by_place (inr high) =
              after (field.NewAt p) i is l (omega (arith, high)) ∙ high_new p (has old at (number plan (field.NewAt p) i)) high

-- ---- one field more is written

module _ (plan : Plan) (to first : ℕ) (here : Field) (word : ℕ → Bool) (mid new : Sets) (there : IsField plan here)
    (begins : first ≡ field_number plan here * plan.names) (inside : to < mid.count) (room : total plan ≤ width mid)
    (w : Writes to first plan.names word mid new) where
  pub written_here : (i : ℕ) → i < plan.names → has new to (number plan here i) ≡ word i
  written_here i l = ap (λ n. has new to (n + i)) (sym begins) ∙ w.inside i l

  pub written_other : (its : Field) (i : ℕ) → IsField plan its → i < plan.names → field_number plan its ≢ field_number plan here
      → has new to (number plan its i) ≡ has mid to (number plan its i)
  written_other its i is l ne =
      let bound = number_in plan its i is l in
      w.outside to (number plan its i) inside (omega (arith, bound, room)) (inr (by_order (cases_lt (field_number plan its) (field_number plan here))))
    where
      by_order : (field_number plan its < field_number plan here) ⊎ (field_number plan here ≤ field_number plan its)
          → (number plan its i < first) ⊎ (first + plan.names ≤ number plan its i)
      by_order (inl low) =
          let fits : field_number plan its * plan.names + plan.names ≤ field_number plan here * plan.names =
          row_fits (field_number plan its) plan.names (field_number plan here) plan.names low (omega arith) in
          inl (omega (arith, fits, l, begins))
      by_order (inr high) =
          let above : field_number plan here < field_number plan its = omega (arith, ne, high) in
          let fits : field_number plan here * plan.names + plan.names ≤ field_number plan its * plan.names =
          row_fits (field_number plan here) plan.names (field_number plan its) plan.names above (omega arith) in
          inr (omega (arith, fits, begins))

-- ---- a handle is used

module _ (plan : Plan) (names slots : List Variable) (assigned : ℕ → ℕ → Bool) (low : Sets) (at to depth base first : ℕ) (old mid new : Sets)
    (facts : Locks) (shows : Shows plan (has old at) facts) (inside : to < old.count) (room : total plan ≤ width old) (size : SameSize old mid)
    (popped : Popped plan to at base old mid) (live with : ℕ → Bool) (word : ℕ)
    (is_live : (i : ℕ) → i < plan.names → live i ≡ facts field.Live i)
    (is_with : (i : ℕ) → i < plan.names → with i ≡ with_of (facts_in plan low at) depth base i)
    (either : (i : ℕ) → bit_in word i ≡ (live i || with i)) (begins : first ≡ field_number plan field.Live * plan.names)
    (w : Writes to first plan.names (bit_in word) mid new) where
  inside_mid : to < mid.count
  inside_mid = subst (λ n. to < n) (sym size.count) inside

  room_mid : total plan ≤ width mid
  room_mid = subst (λ n. total plan ≤ 64 * n) (sym size.per) room

  other_field : (its : Field) (i : ℕ) → IsField plan its → i < plan.names → field_number plan its ≢ field_number plan field.Live
      → has new to (number plan its i) ≡ ((stay_by (plain base) its i && facts its i) || false)
  other_field its i is l ne =
      written_other plan to first field.Live (bit_in word) mid new tt begins inside_mid room_mid w its i is l ne
      ∙ popped its i is l
      ∙ ap (λ t. stay_by (plain base) its i && t) (sym (shows its i is l))
      ∙ or_false (stay_by (plain base) its i && facts its i)

  pub used_made : (its : Field) (i : ℕ) → IsField plan its → i < plan.names
      → has new to (number plan its i) ≡ given_at plan names slots assigned low at (change.Use depth base) facts its i
  used_made (field.KeptIn s) i is l = other_field (field.KeptIn s) i is l (λ e. absurd (omega (arith, is, e)))
  used_made field.Locked i is l = other_field field.Locked i is l (λ e. absurd (omega (arith, e)))
  used_made field.Live i is l =
      written_here plan to first field.Live (bit_in word) mid new tt begins inside_mid room_mid w i l
      ∙ either i ∙ ap (λ t. t || with i) (is_live i l) ∙ ap (λ t. facts field.Live i || t) (is_with i l)
  used_made (field.Apart x) i is l = other_field (field.Apart x) i is l (λ e. absurd (omega (arith, is, e)))
  used_made (field.KeptAt p) i is l = other_field (field.KeptAt p) i is l (λ e. absurd (omega (arith, is, e)))
  used_made (field.NewAt p) i is l = other_field (field.NewAt p) i is l (λ e. absurd (omega (arith, is, e)))
