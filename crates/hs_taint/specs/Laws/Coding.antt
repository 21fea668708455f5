-- A fact that fits is the fact of its number.
use Rattle.std.proofs.Common.{◌≡◌, ◌<◌, ◌∙◌, ℕ, ◌+◌, ◌-◌, ◌*◌, ◌/◌, ◌%◌, ◌==◌, nat_lt, true, false, ap, sym, refl, arith}
use Rattle.std.proofs.lemmas.Bool.Decides.{nat_tests}
use Rattle.hs_flow.specs.declared.fact.Fact.{Fact}
use Rattle.hs_flow.specs.declared.fact.FactStatus.{FactStatus}
use Rattle.hs_flow.specs.declared.fact.FactStatus.TheVariants as status
use Rattle.hs_flow.specs.declared.fact.Slot.{Slot}
use Rattle.hs_flow.specs.declared.fact.Slot.TheVariants as slot
use Rattle.hs_taint.specs.Coding.{IsSmall, IsSmallStatus, code_of, fact_of, number_of, number_of_status, numbers, rank_of, slot_of, status_of, statuses}
use Rattle.hs_tree.specs.declared.head.Variable.TheVariants as name

-- the digits of a number
low_digit : (k n s : ℕ) → s < 536870912 → ((k * 4294967296 + n) * 536870912 + s) % 536870912 ≡ s
low_digit k n s is = omega (arith)

above_low : (k n s : ℕ) → s < 536870912 → ((k * 4294967296 + n) * 536870912 + s) / 536870912 ≡ k * 4294967296 + n
above_low k n s is = omega (arith)

middle_digit : (k n : ℕ) → n < 4294967296 → (k * 4294967296 + n) % 4294967296 ≡ n
middle_digit k n is = omega (arith)

high_digit : (k n : ℕ) → n < 4294967296 → (k * 4294967296 + n) / 4294967296 ≡ k
high_digit k n is = omega (arith)

slot_back : (of : Slot) → slot_of (rank_of of) (number_of of) ≡ of
slot_back slot.Nothing = refl
slot_back slot.Answer = refl
slot_back (slot.Variable (name.Global place)) = refl
slot_back (slot.Variable (name.Local place)) = refl
slot_back (slot.Place place) = refl
slot_back (slot.Class class) = refl

status_fits : (its : FactStatus) → IsSmallStatus its → number_of_status its < 536870912
status_fits status.Stale small = omega (arith)
status_fits status.Hollow small = omega (arith)
status_fits status.Loose small = omega (arith)
status_fits status.Outer small = omega (arith)
status_fits status.Held small = omega (arith)
status_fits (status.Fresh h) small = omega (arith)
status_fits status.SavedPurgeable small = omega (arith)
status_fits status.Purgeable small = omega (arith)
status_fits status.IsHandle small = omega (arith)
status_fits status.Reached small = omega (arith)

fresh_back : (h : ℕ) → h < 536870903 → status_of (h + 5) ≡ status.Fresh h
fresh_back h small =
    let no_0 : (h + 5 == 0) ≡ false = grind (arith, nat_tests) in
    let no_1 : (h + 5 == 1) ≡ false = grind (arith, nat_tests) in
    let no_2 : (h + 5 == 2) ≡ false = grind (arith, nat_tests) in
    let no_3 : (h + 5 == 3) ≡ false = grind (arith, nat_tests) in
    let no_4 : (h + 5 == 4) ≡ false = grind (arith, nat_tests) in
    let yes : nat_lt (h + 5) 536870908 ≡ true = grind (arith, nat_tests) in
    let name : (h + 5) - 5 ≡ h = omega (arith) in
    rw (no_0, no_1, no_2, no_3, no_4, yes) (ap status.Fresh name)

status_back : (its : FactStatus) → IsSmallStatus its → status_of (number_of_status its) ≡ its
status_back status.Stale small = refl
status_back status.Hollow small = refl
status_back status.Loose small = refl
status_back status.Outer small = refl
status_back status.Held small = refl
status_back (status.Fresh h) small = fresh_back h small
status_back status.SavedPurgeable small = refl
status_back status.Purgeable small = refl
status_back status.IsHandle small = refl
status_back status.Reached small = refl

module _ (fact : Fact) (small : IsSmall fact) where
  middle : code_of fact / statuses ≡ rank_of fact.slot * numbers + number_of fact.slot
  middle = above_low (rank_of fact.slot) (number_of fact.slot) (number_of_status fact.status) (status_fits fact.status small.status)

  rank_back : code_of fact / statuses / numbers ≡ rank_of fact.slot
  rank_back = ap (λ n. n / numbers) middle ∙ high_digit (rank_of fact.slot) (number_of fact.slot) small.number

  number_back : code_of fact / statuses % numbers ≡ number_of fact.slot
  number_back = ap (λ n. n % numbers) middle ∙ middle_digit (rank_of fact.slot) (number_of fact.slot) small.number

  slot_of_code : slot_of (code_of fact / statuses / numbers) (code_of fact / statuses % numbers) ≡ fact.slot
  slot_of_code =
      ap (λ n. slot_of n (code_of fact / statuses % numbers)) rank_back ∙ (ap (slot_of (rank_of fact.slot)) number_back ∙ slot_back fact.slot)

  status_of_code : status_of (code_of fact % statuses) ≡ fact.status
  status_of_code =
      ap status_of (low_digit (rank_of fact.slot) (number_of fact.slot) (number_of_status fact.status) (status_fits fact.status small.status))
      ∙ status_back fact.status small.status

  pub fact_of_code : fact_of (code_of fact) ≡ fact
  fact_of_code = λ i. record { slot = slot_of_code i; status = status_of_code i }

-- so facts of one number are one
pub same_code : (a b : Fact) → IsSmall a → IsSmall b → code_of a ≡ code_of b → a ≡ b
same_code a b small_a small_b same = sym (fact_of_code a small_a) ∙ (ap fact_of same ∙ fact_of_code b small_b)
