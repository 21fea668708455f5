-- Tests that are true exactly if something is so (`Decides`).
--     and_test, or_test, any_test, ..     of tests that are put together
use Rattle.std.proofs.Common.{◌≡◌, ◌<◌, ◌≤◌, ◌⊎◌, ℕ, zero, suc, ◌==◌, nat_lt, nat_le, Bool, true, false, not, ◌&&◌, ◌||◌, sym, subst, ◌∙◌, refl, inl, inr, arith}
use Rattle.std.proofs.lemmas.Bool.{cases_eq}
use Rattle.std.proofs.lemmas.Bool.Decides.{nat_tests}
use Rattle.std.specs.Bool.{Decides}
use Rattle.hs_lock_rows.specs.Given.{any}

true_false : {P : Type 0} → true ≡ false → P
true_false h = grind arith

pub false_true : {P : Type 0} → false ≡ true → P
false_true h = grind arith

pub always : (P : Type 0) → P → Decides true P
always P p = (λ h. p, λ q. refl)

pub never : (P : Type 0) → (P → ⊥) → Decides false P
never P none = (λ h. false_true h, λ q. absurd (none q))

-- the same thing in other words
pub as_test : (test : Bool) (P Q : Type 0) → (P → Q) → (Q → P) → Decides test P → Decides test Q
as_test test P Q there back t = (λ h. there (t.0 h), λ q. t.1 (back q))

-- the test itself
pub self_test : (test : Bool) → Decides test (test ≡ true)
self_test test = (λ h. h, λ h. h)

pub same_test : (a b : Bool) → a ≡ b → Decides a (b ≡ true)
same_test a b e = (λ h. sym e ∙ h, λ h. e ∙ h)

pub and_test : (a b : Bool) (P Q : Type 0) → Decides a P → Decides b Q → Decides (a && b) (P × Q)
and_test true b P Q s t = (λ h. (s.0 refl, t.0 h), λ q. t.1 q.1)
and_test false b P Q s t = (λ h. false_true h, λ q. s.1 q.0)

-- the second test counts only if the first thing is so
pub and_then : (a b : Bool) (P Q : Type 0) → Decides a P → (P → Decides b Q) → Decides (a && b) (P × Q)
and_then true b P Q s t = (λ h. let p = s.0 refl in (p, (t p).0 h), λ q. (t q.0).1 q.1)
and_then false b P Q s t = (λ h. false_true h, λ q. s.1 q.0)

-- a second test that is always true
pub and_true : (a : Bool) (P : Type 0) → Decides a P → Decides (a && true) P
and_true true P s = s
and_true false P s = s

pub and_three : (a b c : Bool) (P Q S : Type 0) → Decides a P → Decides b Q → Decides c S → Decides (a && (b && c)) (P × Q × S)
and_three a b c P Q S s t u =
    as_test (a && (b && c)) (P × (Q × S)) (P × Q × S) (λ h. (h.0, h.1.0, h.1.1)) (λ h. (h.0, (h.1, h.2)))
    (and_test a (b && c) P (Q × S) s (and_test b c Q S t u))

pub or_test : (a b : Bool) (P Q : Type 0) → Decides a P → Decides b Q → Decides (a || b) (P ⊎ Q)
or_test true b P Q s t = (λ h. inl (s.0 refl), λ q. refl)
or_test false b P Q s t = (λ h. inr (t.0 h), right)
  where
    right : P ⊎ Q → b ≡ true
    right (inl p) = false_true (s.1 p)
    right (inr q) = t.1 q

pub not_test : (a : Bool) (P : Type 0) → Decides a P → Decides (not a) (P → ⊥)
not_test true P s = (λ h. false_true h, λ none. absurd (none (s.0 refl)))
not_test false P s = (λ h p. false_true (s.1 p), λ none. refl)

pub eq_test : (a b : ℕ) → Decides (a == b) (a ≡ b)
eq_test a b = (λ h. grind (arith, nat_tests), λ h. grind (arith, nat_tests))

pub lt_test : (a b : ℕ) → Decides (nat_lt a b) (a < b)
lt_test a b = (λ h. grind (arith, nat_tests), λ h. grind (arith, nat_tests))

pub le_test : (a b : ℕ) → Decides (nat_le a b) (a ≤ b)
le_test a b = (λ h. grind (arith, nat_tests), λ h. grind (arith, nat_tests))

-- ---- one number of many

pub any_some : (n : ℕ) (its : ℕ → Bool) → any n its ≡ true → (i : ℕ) × (i < n) × (its i ≡ true)
any_some zero its h = false_true h
any_some (suc n) its h =
    by_side (λ k. any_some n its k) ((or_test (any n its) (its n) (any n its ≡ true) (its n ≡ true) (self_test (any n its)) (self_test (its n))).0 h)
  where
    by_side : (any n its ≡ true → (i : ℕ) × (i < n) × (its i ≡ true)) → (any n its ≡ true) ⊎ (its n ≡ true) → (i : ℕ) × (i < suc n) × (its i ≡ true)
    by_side below (inl k) = let one = below k in let low = one.1 in (one.0, omega (arith, low), one.2)
    by_side below (inr k) = (n, omega arith, k)

pub some_any : (n : ℕ) (its : ℕ → Bool) (i : ℕ) → i < n → its i ≡ true → any n its ≡ true
some_any zero its i l h = absurd (omega arith)
some_any (suc n) its i l h = by_place (λ k. some_any n its i k h) (cases_eq i n)
  where
    left : any n its ≡ true → (any n its || its n) ≡ true
    left k = (or_test (any n its) (its n) (any n its ≡ true) (its n ≡ true) (self_test (any n its)) (self_test (its n))).1 (inl k)

    right : its n ≡ true → (any n its || its n) ≡ true
    right k = (or_test (any n its) (its n) (any n its ≡ true) (its n ≡ true) (self_test (any n its)) (self_test (its n))).1 (inr k)

    by_place : (i < n → any n its ≡ true) → (i ≡ n) ⊎ (i ≡ n → ⊥) → (any n its || its n) ≡ true
    by_place below (inl e) = right (subst (λ m. its m ≡ true) e h)
    by_place below (inr ne) = left (below (omega (arith, l, ne)))
