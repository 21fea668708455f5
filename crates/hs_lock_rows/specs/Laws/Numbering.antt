-- Where fields begin, and that two fields with one number are one.
--     first_in        a field has its numbers below the total
--     one_field       fields with one number are one
--     one_number      facts with one number are one
use Rattle.std.proofs.Common.{◌≡◌, ◌<◌, ◌≤◌, ◌⊎◌, ℕ, ◌+◌, ◌*◌, ap, subst, sym, inl, inr, arith, refl}
use Rattle.std.proofs.lemmas.Bool.{cases_eq, cases_lt}
use Rattle.std.proofs.lemmas.Nat.{row_fits}
use Rattle.hs_fact_rows.specs.declared.plan.Plan.{Plan}
use Rattle.hs_lock_rows.specs.Laws.Solved.{field_under}
use Rattle.hs_lock_rows.specs.Layout.{IsField, field_number, fields, number, total}
use Rattle.hs_lock_rows.specs.declared.field.Field.{Field}
use Rattle.hs_lock_rows.specs.declared.field.Field.TheVariants as field

pub first_in : (plan : Plan) (its : Field) → IsField plan its → field_number plan its * plan.names + plan.names ≤ total plan
first_in plan its h = row_fits (field_number plan its) plan.names (fields plan) plan.names (field_under plan its h) (omega arith)

module _ (plan : Plan) where
  pub one_field : (a b : Field) → IsField plan a → IsField plan b → field_number plan a ≡ field_number plan b → a ≡ b
  one_field (field.KeptIn s) (field.KeptIn t) h k e = ap field.KeptIn (let same : s ≡ t = omega arith in same)
  one_field (field.KeptIn s) field.Locked h k e = absurd (omega arith)
  one_field (field.KeptIn s) field.Live h k e = absurd (omega arith)
  one_field (field.KeptIn s) (field.Apart x) h k e = absurd (omega arith)
  one_field (field.KeptIn s) (field.KeptAt p) h k e = absurd (omega arith)
  one_field (field.KeptIn s) (field.NewAt p) h k e = absurd (omega arith)
  one_field field.Locked (field.KeptIn t) h k e = absurd (omega arith)
  one_field field.Locked field.Locked h k e = refl
  one_field field.Locked field.Live h k e = absurd (omega arith)
  one_field field.Locked (field.Apart x) h k e = absurd (omega arith)
  one_field field.Locked (field.KeptAt p) h k e = absurd (omega arith)
  one_field field.Locked (field.NewAt p) h k e = absurd (omega arith)
  one_field field.Live (field.KeptIn t) h k e = absurd (omega arith)
  one_field field.Live field.Locked h k e = absurd (omega arith)
  one_field field.Live field.Live h k e = refl
  one_field field.Live (field.Apart x) h k e = absurd (omega arith)
  one_field field.Live (field.KeptAt p) h k e = absurd (omega arith)
  one_field field.Live (field.NewAt p) h k e = absurd (omega arith)
  one_field (field.Apart x) (field.KeptIn t) h k e = absurd (omega arith)
  one_field (field.Apart x) field.Locked h k e = absurd (omega arith)
  one_field (field.Apart x) field.Live h k e = absurd (omega arith)
  one_field (field.Apart x) (field.Apart y) h k e = ap field.Apart (let same : x ≡ y = omega arith in same)
  one_field (field.Apart x) (field.KeptAt p) h k e = absurd (omega arith)
  one_field (field.Apart x) (field.NewAt p) h k e = absurd (omega arith)
  one_field (field.KeptAt p) (field.KeptIn t) h k e = absurd (omega arith)
  one_field (field.KeptAt p) field.Locked h k e = absurd (omega arith)
  one_field (field.KeptAt p) field.Live h k e = absurd (omega arith)
  one_field (field.KeptAt p) (field.Apart x) h k e = absurd (omega arith)
  one_field (field.KeptAt p) (field.KeptAt q) h k e = ap field.KeptAt (let same : p ≡ q = omega arith in same)
  one_field (field.KeptAt p) (field.NewAt q) h k e = absurd (omega arith)
  one_field (field.NewAt p) (field.KeptIn t) h k e = absurd (omega arith)
  one_field (field.NewAt p) field.Locked h k e = absurd (omega arith)
  one_field (field.NewAt p) field.Live h k e = absurd (omega arith)
  one_field (field.NewAt p) (field.Apart x) h k e = absurd (omega arith)
  one_field (field.NewAt p) (field.KeptAt q) h k e = absurd (omega arith)
  one_field (field.NewAt p) (field.NewAt q) h k e = ap field.NewAt (let same : p ≡ q = omega arith in same)

  -- a number of one field is no number of another one
  lower : (a b i j n : ℕ) → a < b → i < n → a * n + i ≡ b * n + j → ⊥
  lower a b i j n less within e = let fits : a * n + n ≤ b * n = row_fits a n b n less (omega arith) in absurd (omega (arith, fits, within, e))

  pub one_number : (a b : Field) (i j : ℕ) → IsField plan a → IsField plan b → i < plan.names → j < plan.names → number plan a i ≡ number plan b j
      → (a ≡ b) × (i ≡ j)
  one_number a b i j h k within also e = by_order (cases_eq (field_number plan a) (field_number plan b))
    where
      by_order : (field_number plan a ≡ field_number plan b) ⊎ (field_number plan a ≡ field_number plan b → ⊥) → (a ≡ b) × (i ≡ j)
      by_order (inl same) = (
        one_field a b h k same,
        (let there : field_number plan b * plan.names + i ≡ field_number plan b * plan.names + j =
            subst (λ n. n * plan.names + i ≡ number plan b j) same e in
            omega (arith, there)),
      )
      by_order (inr ne) = by_less (cases_lt (field_number plan a) (field_number plan b))
        where
          by_less : (field_number plan a < field_number plan b) ⊎ (field_number plan b ≤ field_number plan a) → (a ≡ b) × (i ≡ j)
          by_less (inl less) = absurd (lower (field_number plan a) (field_number plan b) i j plan.names less within e)
          by_less (inr more) =
              absurd (lower (field_number plan b) (field_number plan a) j i plan.names (omega (arith, ne, more)) also (sym e))
