-- Numbers are handed on to callers, one that waits at a time.
use Rattle.std.proofs.Common.{◌≡◌, ℕ, ◌<◌, ◌+◌, ◌⊎◌, ◌↔◌, inl, inr, List, [], ◌∷◌, ◌++◌, length, take, Contains, arith, ◌-◌, ap, sym, ◌∙◌, refl, subst}
use Rattle.std.proofs.lemmas.List.{length-append}
use Rattle.std.specs.declared.alloc.Global.{Global}
use Rattle.std.specs.declared.vec.Vec.{Vec}
use Rattle.hs_effects.proofs.Members.{member_stays, member_comes, member_back, no_member}
use Rattle.hs_effects.specs.Calling.{Gets, itself, called, callers_from}
use Rattle.hs_effects.specs.Working.{AllWait, IsIn, Waits, Grows, left, absent_in}
use Rattle.hs_effects.specs.declared.work.Pair.{Pair}
use Rattle.hs_effects.specs.declared.work.Work.{Work}
use Rattle.hs_rows.specs.Sets.{SameSize}

-- What a function has it gets. What it has waits, or its callers have it too.
pub record Closing (callers : List (Vec ℕ Global)) (old now : Work) : Type 0 where
  pub size : SameSize old.rows now.rows
  pub own : (f b : ℕ) → IsIn old.rows f b → IsIn now.rows f b
  pub sound : (f b : ℕ) → IsIn now.rows f b → Gets callers (IsIn old.rows) f b
  pub handed : (f b : ℕ) → IsIn now.rows f b → Waits now f b ⊎ ((c : ℕ) → Contains (callers_from callers f) c → IsIn now.rows c b)
  pub there : (f b : ℕ) → Waits now f b → IsIn now.rows f b

pub closing_begins : (callers : List (Vec ℕ Global)) (work : Work) → AllWait work → Closing callers work work
closing_begins callers work all = record {
  size = record { count = refl; per = refl };
  own = λ f b is. is;
  sound = λ f b is. itself f b is;
  handed = λ f b is. inl (all.waits f b is);
  there = all.there;
}

-- a pair that is taken waited
pub waited : (callers : List (Vec ℕ Global)) (old now : Work) (popped : Vec Pair Global) (pair : Pair)
    → now.waiting.items ≡ popped.items ++ pair ∷ [] → Closing callers old now → IsIn now.rows pair.function pair.number
waited callers old now popped pair taken closing = closing.there pair.function pair.number (member_comes popped.items now.waiting.items pair taken)

module _ (callers : List (Vec ℕ Global)) (old now new : Work) (popped : Vec Pair Global) (pair : Pair)
    (taken : now.waiting.items ≡ popped.items ++ pair ∷ []) (closing : Closing callers old now)
    (grows : Grows (λ f b. Contains (callers_from callers pair.function) f × (b ≡ pair.number)) (record { rows = now.rows; waiting = popped }) new) where
  got : (f b : ℕ) → IsIn now.rows f b ⊎ (Contains (callers_from callers pair.function) f × (b ≡ pair.number)) → Gets callers (IsIn old.rows) f b
  got f b (inl is) = closing.sound f b is
  got f b (inr is) =
      subst (Gets callers (IsIn old.rows) f) (sym is.1)
      (called f pair.function pair.number is.0 (closing.sound pair.function pair.number (waited callers old now popped pair taken closing)))

  abbrev Handed : ℕ → ℕ → Type 0
  Handed f b = Waits new f b ⊎ ((c : ℕ) → Contains (callers_from callers f) c → IsIn new.rows c b)

  by_member : (f b : ℕ) → Contains popped.items (record { function = f; number = b }) ⊎ (record { function = f; number = b } ≡ pair) → Handed f b
  by_member f b (inl wait) = inl (grows.still f b wait)
  by_member f b (inr same) =
      inr (λ c calls. grows.adds c b
      (subst (λ g. Contains (callers_from callers g) c) (ap (λ (it : Pair). it.function) same) calls, ap (λ (it : Pair). it.number) same))

  by_old : (f b : ℕ) → Waits now f b ⊎ ((c : ℕ) → Contains (callers_from callers f) c → IsIn now.rows c b) → Handed f b
  by_old f b (inl wait) = by_member f b (member_back popped.items now.waiting.items pair taken (record { function = f; number = b }) wait)
  by_old f b (inr all) = inr (λ c calls. grows.kept c b (all c calls))

  by_new : (f b : ℕ) → IsIn now.rows f b ⊎ Waits new f b → Handed f b
  by_new f b (inl was) = by_old f b (closing.handed f b was)
  by_new f b (inr wait) = inl wait

  still_there : (f b : ℕ) → Waits (record { rows = now.rows; waiting = popped }) f b ⊎ IsIn new.rows f b → IsIn new.rows f b
  still_there f b (inl wait) =
      grows.kept f b (closing.there f b (member_stays popped.items now.waiting.items pair taken (record { function = f; number = b }) wait))
  still_there f b (inr is) = is

  pub closing_goes_on : Closing callers old new
  closing_goes_on = record {
    size = record { count = grows.size.count ∙ closing.size.count; per = grows.size.per ∙ closing.size.per };
    own = λ f b is. grows.kept f b (closing.own f b is);
    sound = λ f b is. got f b (grows.back f b is);
    handed = λ f b is. by_new f b (grows.waits f b is);
    there = λ f b wait. still_there f b (grows.fresh f b wait);
  }

  -- less is left
  pub closing_falls : left new < left now
  closing_falls =
      let shorter : length now.waiting.items ≡ length popped.items + 1 =
      ap (λ (pairs : List Pair). length pairs) taken ∙ length-append popped.items (pair ∷ []) in
      let same : left new ≡ absent_in now.rows now.rows.count + length popped.items = grows.less in
      omega (arith, shorter, same)

-- a list from which nothing can be taken
pub nothing_left : {X : Type 0} (old new : List X) (size : ℕ) → old ≡ new ++ [] → size ≡ 0 → new ≡ take (size - 1) old → old ≡ []
nothing_left old new size is none rest =
    is ∙ ap (λ xs. xs ++ []) (rest ∙ ap (λ n. take (n - 1) old) none)

-- nothing waits, so all is handed on
module _ (callers : List (Vec ℕ Global)) (old now : Work) (closing : Closing callers old now) (none : now.waiting.items ≡ []) where
  handed_on : (f b c : ℕ) → Waits now f b ⊎ ((c : ℕ) → Contains (callers_from callers f) c → IsIn now.rows c b)
      → Contains (callers_from callers f) c → IsIn now.rows c b
  handed_on f b c (inl wait) calls =
      absurd (no_member (record { function = f; number = b }) (subst (λ (pairs : List Pair). Contains pairs (record { function = f; number = b })) none wait))
  handed_on f b c (inr all) calls = all c calls

  gets_in : (f b : ℕ) → Gets callers (IsIn old.rows) f b → IsIn now.rows f b
  gets_in f b (itself g d is) = closing.own f b is
  gets_in f b (called c g d calls gets) = handed_on g b f (closing.handed g b (gets_in g b gets)) calls

  pub closing_ends : (f b : ℕ) → IsIn now.rows f b ↔ Gets callers (IsIn old.rows) f b
  closing_ends f b = (closing.sound f b, gets_in f b)
