-- Fields of a row that are written one after the other.
--     shows_kept      another row still has its facts
--     made_next       one field more is written
use Rattle.std.proofs.Common.{◌≡◌, ◌≢◌, ◌<◌, ◌≤◌, ◌⊎◌, ℕ, suc, ◌+◌, ◌*◌, ◌&&◌, ◌||◌, Bool, ap, sym, subst, ◌∙◌, inl, inr, arith}
use Rattle.std.proofs.lemmas.Bool.{cases_eq}
use Rattle.std.proofs.lemmas.Nat.{row_fits}
use Rattle.hs_fact_rows.specs.Fields.{Writes}
use Rattle.hs_fact_rows.specs.declared.plan.Plan.{Plan}
use Rattle.hs_lock_rows.specs.Laws.Numbering.{one_field}
use Rattle.hs_lock_rows.specs.Given.{Locks}
use Rattle.hs_lock_rows.specs.Laws.Solved.{number_in}
use Rattle.hs_lock_rows.specs.Layout.{IsField, field_number, number, total}
use Rattle.hs_lock_rows.specs.Making.{Shows}
use Rattle.hs_lock_rows.specs.declared.field.Field.{Field}
use Rattle.hs_rows.specs.Sets.{Sets, has, width, KeepsRows, SameSize}

module _ (plan : Plan) (to : ℕ) where
  pub shows_kept : (at : ℕ) (facts : Locks) (old mid : Sets) → at ≢ to → at < old.count → total plan ≤ width old → KeepsRows to old mid
      → Shows plan (has old at) facts → Shows plan (has mid at) facts
  shows_kept at facts old mid apart inside room others shows field i is l =
      let bound = number_in plan field i is l in
      shows field i is l ∙ sym (others at (number plan field i) inside (omega (arith, bound, room)) apart)

  pub made_next : (its : Field → ℕ → Bool) (k first : ℕ) (here : Field) (word : ℕ → Bool) (old mid new : Sets) → IsField plan here
      → field_number plan here ≡ k → first ≡ field_number plan here * plan.names → to < old.count → total plan ≤ width old → SameSize old mid
      → Writes to first plan.names word mid new → ((i : ℕ) → i < plan.names → word i ≡ its here i)
      → ((field : Field) (i : ℕ) → IsField plan field → i < plan.names → field_number plan field < k → has mid to (number plan field i) ≡ its field i)
      → (field : Field) (i : ℕ) → IsField plan field → i < plan.names → field_number plan field < suc k → has new to (number plan field i) ≡ its field i
  made_next its k first here word old mid new there is begins inside room size w right done field i its_field l low =
      by_place (cases_eq (field_number plan field) k)
    where
      by_place : (field_number plan field ≡ k) ⊎ (field_number plan field ≡ k → ⊥) → has new to (number plan field i) ≡ its field i
      by_place (inl e) =
          subst (λ (f : Field). has new to (number plan f i) ≡ its f i) (one_field plan here field there its_field (is ∙ sym e))
          (ap (λ n. has new to (n + i)) (sym begins) ∙ w.inside i l ∙ right i l)
      by_place (inr ne) =
          let below : field_number plan field < field_number plan here = omega (arith, low, ne, is) in
          let fits : field_number plan field * plan.names + plan.names ≤ field_number plan here * plan.names =
          row_fits (field_number plan field) plan.names (field_number plan here) plan.names below (omega arith) in
          let bound = number_in plan field i its_field l in
          let before : number plan field i < first = omega (arith, fits, l, begins) in
          w.outside to (number plan field i) (subst (λ n. to < n) (sym size.count) inside)
          (subst (λ n. number plan field i < 64 * n) (sym size.per) (omega (arith, bound, room))) (inr (inl before))
          ∙ done field i its_field l (omega (arith, low, ne))

  pub others_next : (first : ℕ) (word : ℕ → Bool) (old mid new : Sets) → SameSize old mid → KeepsRows to old mid → Writes to first plan.names word mid new
      → KeepsRows to old new
  others_next first word old mid new size others w r b inside within apart =
      w.outside r b (subst (λ n. r < n) (sym size.count) inside) (subst (λ n. b < 64 * n) (sym size.per) within) (inl apart) ∙ others r b inside within apart

-- what stays of what was there, and what comes
pub stayed_or_came : (word both stays before new s b n : Bool) → word ≡ (both || new) → both ≡ (stays && before) → stays ≡ s → before ≡ b → new ≡ n
    → word ≡ ((s && b) || n)
stayed_or_came word both stays before new s b n whole parts stay was come =
    whole ∙ ap (λ t. t || new) (parts ∙ ap (λ t. t && before) stay ∙ ap (λ t. s && t) was) ∙ ap (λ t. (s && b) || t) come
