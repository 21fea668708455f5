-- A walk over two rows of numbers that rise finds the numbers of both, or of either.
--     FindsBoth found own others s t      the numbers found, and what is left of the rows, come to what both s and t hold
--     FindsEither found own others s t    the same of what one of them holds
use Rattle.std.proofs.Common.{◌≡◌, ℕ, ◌<◌, Bool, true, false, ◌&&◌, ◌||◌, List, [], ◌∷◌, ◌++◌, length, refl, sym, ap, subst, ◌∙◌, inl, inr, ◌⊎◌, arith}
use Rattle.std.specs.Ordering.{nat_cmp, eq_by_cmp}
use Rattle.std.specs.declared.cmp.Ordering.TheVariants.{Less, Equal, Greater}
use Rattle.std.specs.Cmp.{nat_cmp_total}
use Rattle.std.specs.FinSet as set
use Rattle.std.proofs.Math.Bool.{or_assoc}
use Rattle.std.proofs.lemmas.List.{append-nil}
use Rattle.hs_macros.specs.Numbers.{Numbers}
use Rattle.hs_macros.proofs.Rising.{set_of, IsRising, alike, same_set, contains_tied, turned}
use Rattle.hs_macros.proofs.Rows.{first, rest, Compares, holds, rest-cons, contains_before, contains-cons, contains-cons_even, contains-append, contains-push, IsRising-skip, IsRising-between, IsRising-back, IsRising-push, IsRising-push_even}

-- ---- what both hold

-- the numbers found rise with what is left of either row, and with what both rows still have they are what both sets hold
pub record FindsBoth (found own others : List ℕ) (s t : Numbers) : Type 0 where
  pub own_rises : IsRising (found ++ own)
  pub others_rise : IsRising (found ++ others)
  pub same : (q : ℕ) → (holds found q || (holds own q && holds others q)) ≡ (set.contains s q && set.contains t q)

-- at first both rows are whole
pub FindsBoth-start : (found own others : List ℕ) (s t : Numbers) → found ≡ [] → set_of own ≡ s → set_of others ≡ t
    → IsRising own → IsRising others → FindsBoth found own others s t
FindsBoth-start found own others s t none own_is others_is own_rises' others_rise' = rw none (record {
  own_rises = own_rises';
  others_rise = others_rise';
  same = λ q.
      ap (λ held. held || (holds own q && holds others q)) (set.contains-empty nat_cmp q)
      ∙ (λ i. set.contains (own_is i) q && set.contains (others_is i) q);
})

-- a number that only the first has is passed
pub FindsBoth-Less : (found own others : List ℕ) (s t : Numbers) → Compares own others Less
    → FindsBoth found own others s t → FindsBoth found (rest own) others s t
FindsBoth-Less found [] others s t less left = absurd (omega arith)
FindsBoth-Less found (number ∷ own) [] s t less left = absurd (omega arith)
FindsBoth-Less found (number ∷ own) (other ∷ others) s t less left =
    let rising = IsRising-back found (other ∷ others) left.others_rise in
    let missing = contains_before number other others less.2 rising in
    rw (rest-cons number own) (record {
      own_rises = IsRising-skip found number own left.own_rises;
      others_rise = left.others_rise;
      same = λ q.
          lacks_right (holds found q) (eq_by_cmp nat_cmp q number) (holds own q) (holds (other ∷ others) q)
          (λ tied. contains_tied (set_of (other ∷ others)) q number tied ∙ missing)
          ∙ ap (λ held. holds found q || (held && holds (other ∷ others) q)) (sym (contains-cons number own q))
          ∙ left.same q;
    })
  where
    -- what the other lacks adds nothing to both
    lacks_right : (f e o p : Bool) → (e ≡ true → p ≡ false) → (f || (o && p)) ≡ (f || ((e || o) && p))
    lacks_right true e o p implied = refl
    lacks_right false false o p implied = refl
    lacks_right false true true p implied = refl
    lacks_right false true false true implied = sym (implied refl)
    lacks_right false true false false implied = refl

-- a number that only the second has is passed
pub FindsBoth-Greater : (found own others : List ℕ) (s t : Numbers) → Compares own others Greater
    → FindsBoth found own others s t → FindsBoth found own (rest others) s t
FindsBoth-Greater found [] others s t greater left = absurd (omega arith)
FindsBoth-Greater found (number ∷ own) [] s t greater left = absurd (omega arith)
FindsBoth-Greater found (number ∷ own) (other ∷ others) s t greater left =
    let rising = IsRising-back found (number ∷ own) left.own_rises in
    let missing = contains_before other number own (turned number other Greater greater.2) rising in
    rw (rest-cons other others) (record {
      own_rises = left.own_rises;
      others_rise = IsRising-skip found other others left.others_rise;
      same = λ q.
          lacks_left (holds found q) (eq_by_cmp nat_cmp q other) (holds (number ∷ own) q) (holds others q)
          (λ tied. contains_tied (set_of (number ∷ own)) q other tied ∙ missing)
          ∙ ap (λ held. holds found q || (holds (number ∷ own) q && held)) (sym (contains-cons other others q))
          ∙ left.same q;
    })
  where
    -- what the first lacks adds nothing to both
    lacks_left : (f e o p : Bool) → (e ≡ true → o ≡ false) → (f || (o && p)) ≡ (f || (o && (e || p)))
    lacks_left true e o p implied = refl
    lacks_left false e false p implied = refl
    lacks_left false false true p implied = refl
    lacks_left false true true true implied = refl
    lacks_left false true true false implied = sym (implied refl)

-- a number that both have is found
pub FindsBoth-Equal : (found more own others : List ℕ) (s t : Numbers) → Compares own others Equal
    → more ≡ found ++ first own ∷ [] → FindsBoth found own others s t → FindsBoth more (rest own) (rest others) s t
FindsBoth-Equal found more [] others s t equal pushed left = absurd (omega arith)
FindsBoth-Equal found more (number ∷ own) [] s t equal pushed left = absurd (omega arith)
FindsBoth-Equal found more (number ∷ own) (other ∷ others) s t equal pushed left =
    let even : other ≡ number = sym (alike number other equal.2) in
    rw (pushed, rest-cons number own, rest-cons other others) (record {
      own_rises = IsRising-push found number own left.own_rises;
      others_rise = IsRising-push_even found number other others even left.others_rise;
      same = λ q.
          ap (λ held. held || (holds own q && holds others q)) (contains-push found number q)
          ∙ shared (holds found q) (eq_by_cmp nat_cmp q number) (holds own q) (holds others q)
          ∙ ap (λ held. holds found q || (held && (eq_by_cmp nat_cmp q number || holds others q))) (sym (contains-cons number own q))
          ∙ ap (λ held. holds found q || (holds (number ∷ own) q && held)) (sym (contains-cons_even number other others q even))
          ∙ left.same q;
    })
  where
    -- what both have may be found now
    shared : (f e o p : Bool) → ((e || f) || (o && p)) ≡ (f || ((e || o) && (e || p)))
    shared true true o p = refl
    shared false true o p = refl
    shared f false o p = refl

-- if a row has no more numbers, all are found
pub FindsBoth-end : (found own others : List ℕ) (s t : Numbers) → (length own < 1) ⊎ (length others < 1) → FindsBoth found own others s t
    → set_of found ≡ set.intersection s t
FindsBoth-end found own others s t ended left = same_set _ _ (λ q.
    and_nothing (holds found q) (holds own q) (holds others q) (one_empty own others q ended)
    ∙ left.same q
    ∙ sym (set.contains-intersection nat_cmp_total s t q))
  where
    -- one of the rows has nothing
    one_empty : (own' others' : List ℕ) (q : ℕ) → (length own' < 1) ⊎ (length others' < 1)
        → (set.contains (set_of own') q ≡ false) ⊎ (set.contains (set_of others') q ≡ false)
    one_empty [] others' q ended' = inl (set.contains-empty nat_cmp q)
    one_empty (number ∷ own') [] q ended' = inr (set.contains-empty nat_cmp q)
    one_empty (number ∷ own') (other ∷ others') q (inl none) = absurd (omega arith)
    one_empty (number ∷ own') (other ∷ others') q (inr none) = absurd (omega arith)

    -- so both have nothing
    and_nothing : (f o p : Bool) → (o ≡ false) ⊎ (p ≡ false) → f ≡ (f || (o && p))
    and_nothing true o p none = refl
    and_nothing false false p none = refl
    and_nothing false true false none = refl
    and_nothing false true true (inl none) = sym none
    and_nothing false true true (inr none) = sym none

-- ---- what one of them holds

-- the numbers found rise with what is left of either row, and with what the rows still have they are what one of the sets holds
pub record FindsEither (found own others : List ℕ) (s t : Numbers) : Type 0 where
  pub own_rises : IsRising (found ++ own)
  pub others_rise : IsRising (found ++ others)
  pub same : (q : ℕ) → (holds found q || (holds own q || holds others q)) ≡ (set.contains s q || set.contains t q)

-- at first both rows are whole
pub FindsEither-start : (found own others : List ℕ) (s t : Numbers) → found ≡ [] → set_of own ≡ s → set_of others ≡ t
    → IsRising own → IsRising others → FindsEither found own others s t
FindsEither-start found own others s t none own_is others_is own_rises' others_rise' = rw none (record {
  own_rises = own_rises';
  others_rise = others_rise';
  same = λ q.
      ap (λ held. held || (holds own q || holds others q)) (set.contains-empty nat_cmp q)
      ∙ (λ i. set.contains (own_is i) q || set.contains (others_is i) q);
})

-- a number that only the first has is found
pub FindsEither-Less : (found more own others : List ℕ) (s t : Numbers) → Compares own others Less
    → more ≡ found ++ first own ∷ [] → FindsEither found own others s t → FindsEither more (rest own) others s t
FindsEither-Less found more [] others s t less pushed left = absurd (omega arith)
FindsEither-Less found more (number ∷ own) [] s t less pushed left = absurd (omega arith)
FindsEither-Less found more (number ∷ own) (other ∷ others) s t less pushed left =
    rw (pushed, rest-cons number own) (record {
      own_rises = IsRising-push found number own left.own_rises;
      others_rise = IsRising-push found number (other ∷ others)
          (IsRising-between found number own other others less.2 left.own_rises left.others_rise);
      same = λ q.
          ap (λ held. held || (holds own q || holds (other ∷ others) q)) (contains-push found number q)
          ∙ of_first (holds found q) (eq_by_cmp nat_cmp q number) (holds own q) (holds (other ∷ others) q)
          ∙ ap (λ held. holds found q || (held || holds (other ∷ others) q)) (sym (contains-cons number own q))
          ∙ left.same q;
    })
  where
    -- what the first has may be found now
    of_first : (f e o p : Bool) → ((e || f) || (o || p)) ≡ (f || ((e || o) || p))
    of_first true true o p = refl
    of_first false true o p = refl
    of_first f false o p = refl

-- a number that only the second has is found
pub FindsEither-Greater : (found more own others : List ℕ) (s t : Numbers) → Compares own others Greater
    → more ≡ found ++ first others ∷ [] → FindsEither found own others s t → FindsEither more own (rest others) s t
FindsEither-Greater found more [] others s t greater pushed left = absurd (omega arith)
FindsEither-Greater found more (number ∷ own) [] s t greater pushed left = absurd (omega arith)
FindsEither-Greater found more (number ∷ own) (other ∷ others) s t greater pushed left =
    rw (pushed, rest-cons other others) (record {
      own_rises = IsRising-push found other (number ∷ own)
          (IsRising-between found other others number own (turned number other Greater greater.2)
          left.others_rise left.own_rises);
      others_rise = IsRising-push found other others left.others_rise;
      same = λ q.
          ap (λ held. held || (holds (number ∷ own) q || holds others q)) (contains-push found other q)
          ∙ of_second (holds found q) (eq_by_cmp nat_cmp q other) (holds (number ∷ own) q) (holds others q)
          ∙ ap (λ held. holds found q || (holds (number ∷ own) q || held)) (sym (contains-cons other others q))
          ∙ left.same q;
    })
  where
    -- what the second has may be found now
    of_second : (f e o p : Bool) → ((e || f) || (o || p)) ≡ (f || (o || (e || p)))
    of_second true true o p = refl
    of_second false true true p = refl
    of_second false true false p = refl
    of_second f false o p = refl

-- a number that both have is found
pub FindsEither-Equal : (found more own others : List ℕ) (s t : Numbers) → Compares own others Equal
    → more ≡ found ++ first own ∷ [] → FindsEither found own others s t → FindsEither more (rest own) (rest others) s t
FindsEither-Equal found more [] others s t equal pushed left = absurd (omega arith)
FindsEither-Equal found more (number ∷ own) [] s t equal pushed left = absurd (omega arith)
FindsEither-Equal found more (number ∷ own) (other ∷ others) s t equal pushed left =
    let even : other ≡ number = sym (alike number other equal.2) in
    rw (pushed, rest-cons number own, rest-cons other others) (record {
      own_rises = IsRising-push found number own left.own_rises;
      others_rise = IsRising-push_even found number other others even left.others_rise;
      same = λ q.
          ap (λ held. held || (holds own q || holds others q)) (contains-push found number q)
          ∙ of_both (holds found q) (eq_by_cmp nat_cmp q number) (holds own q) (holds others q)
          ∙ ap (λ held. holds found q || (held || (eq_by_cmp nat_cmp q number || holds others q))) (sym (contains-cons number own q))
          ∙ ap (λ held. holds found q || (holds (number ∷ own) q || held)) (sym (contains-cons_even number other others q even))
          ∙ left.same q;
    })
  where
    -- what both have may be found now
    of_both : (f e o p : Bool) → ((e || f) || (o || p)) ≡ (f || ((e || o) || (e || p)))
    of_both true true o p = refl
    of_both false true o p = refl
    of_both f false o p = refl

-- with what is left of both rows, all are found
pub FindsEither-end : (found own others : List ℕ) (s t : Numbers) → FindsEither found own others s t → set_of ((found ++ own) ++ others) ≡ set.union s t
FindsEither-end found own others s t left = same_set _ _ (λ q.
    contains-append (found ++ own) others q
    ∙ ap (λ held. held || holds others q) (contains-append found own q)
    ∙ or_assoc (holds found q) (holds own q) (holds others q)
    ∙ left.same q
    ∙ sym (set.contains-union nat_cmp_total s t q))

-- and they rise if a row has no more numbers
pub FindsEither-rises : (found own others : List ℕ) (s t : Numbers) → (length own < 1) ⊎ (length others < 1) → FindsEither found own others s t
    → IsRising ((found ++ own) ++ others)
FindsEither-rises found [] others s t ended left =
    subst IsRising (sym (ap (λ numbers. numbers ++ others) (append-nil found))) left.others_rise
FindsEither-rises found (number ∷ own) [] s t ended left =
    subst IsRising (sym (append-nil (found ++ number ∷ own))) left.own_rises
FindsEither-rises found (number ∷ own) (other ∷ others) s t (inl none) left = absurd (omega arith)
FindsEither-rises found (number ∷ own) (other ∷ others) s t (inr none) left = absurd (omega arith)
