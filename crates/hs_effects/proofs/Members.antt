-- Members of lists, and members by their place.
use Rattle.std.proofs.Common.{◌≡◌, ◌≢◌, ℕ, zero, suc, ◌<◌, ◌⊎◌, inl, inr, List, [], ◌∷◌, ◌++◌, length, Contains, take, arith, ap, refl, ◌≤◌, true, false, sym, subst}
use Rattle.std.proofs.Math.Dec.{eqb}
use Rattle.std.proofs.lemmas.Bool.Decides.{eqb_tells}
use Rattle.std.proofs.lemmas.List.Elements.{Contains-append_cases, Contains-append_left, Contains-push}

-- the only one of a list
pub only_member : {X : Type 0} (one it : X) → Contains (one ∷ []) it → it ≡ one
only_member one it (zero, below, is) = sym is
only_member one it (suc index, below, is) = absurd (let none : suc index < 1 = below in omega arith)

pub no_member : {X : Type 0} (it : X) → Contains [] it → ⊥
no_member it has = let none : has.0 < 0 = has.1 in omega arith

-- a list up to its end
pub take_all : {X : Type 0} (xs : List X) (n : ℕ) → length xs ≤ n → take n xs ≡ xs
take_all [] zero past = refl
take_all [] (suc n) past = refl
take_all (x ∷ xs) zero past = absurd (let none : suc (length xs) ≤ 0 = past in omega arith)
take_all (x ∷ xs) (suc n) past = ap (λ rest. x ∷ rest) (take_all xs n (omega arith))

-- a member stays, and one more comes
module _ {X : Type 0} (xs ys : List X) (one : X) (pushed : ys ≡ xs ++ one ∷ []) where
  pub member_stays : (it : X) → Contains xs it → Contains ys it
  member_stays it has = subst (λ zs. Contains zs it) (sym pushed) (Contains-append_left xs (one ∷ []) it has)

  pub member_comes : Contains ys one
  member_comes = subst (λ zs. Contains zs one) (sym pushed) (Contains-push xs one)

  pub member_back : (it : X) → Contains ys it → Contains xs it ⊎ (it ≡ one)
  member_back it has = by_case (Contains-append_cases xs (one ∷ []) it (subst (λ zs. Contains zs it) pushed has))
    where
      by_case : Contains xs it ⊎ Contains (one ∷ []) it → Contains xs it ⊎ (it ≡ one)
      by_case (inl old) = inl old
      by_case (inr new) = inr (only_member one it new)

-- two numbers are one, or not
pub same_or : (a b : ℕ) → (a ≡ b) ⊎ (a ≢ b)
same_or a b = by_case (eqb_tells a b)
  where
    by_case : ((eqb a b ≡ true) × (a ≡ b)) ⊎ ((eqb a b ≡ false) × (a ≢ b)) → (a ≡ b) ⊎ (a ≢ b)
    by_case (inl same) = inl same.1
    by_case (inr apart) = inr apart.1

-- two pairs are one, or not
pub same_pair : (a b c d : ℕ) → ((a ≡ b) × (c ≡ d)) ⊎ ((a ≢ b) ⊎ (c ≢ d))
same_pair a b c d = first (same_or a b) (same_or c d)
  where
    first : (a ≡ b) ⊎ (a ≢ b) → (c ≡ d) ⊎ (c ≢ d) → ((a ≡ b) × (c ≡ d)) ⊎ ((a ≢ b) ⊎ (c ≢ d))
    first (inl same) (inl equal) = inl (same, equal)
    first (inl same) (inr apart) = inr (inr apart)
    first (inr apart) other = inr (inl apart)
