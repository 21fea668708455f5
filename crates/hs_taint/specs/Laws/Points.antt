-- Numbers of operations, back and forth.
--     point_number                  the operation of the number of an operation
--     number_point                  the number of the operation of a number
--     number_below                  numbers are below the count
--     start_at, owner_at            the lists of starts and of owners have what they say
use Rattle.std.proofs.Common.{◌≡◌, ◌<◌, ◌≤◌, ◌∙◌, ℕ, zero, suc, ◌+◌, ◌-◌, nat_lt, Bool, true, false, if◌then◌else◌, List, [], ◌∷◌, ◌++◌, length, map, slice_get, Option, Some, None, ap, sym, subst, refl, arith}
use Rattle.std.proofs.lemmas.Bool.Decides.{nat_tests}
use Rattle.hs_code.specs.declared.function_code.FunctionCode.{FunctionCode}
use Rattle.std.proofs.lemmas.List.{length-append, length-map}
use Rattle.hs_code.specs.declared.function_code.Placed.{Placed}
use Rattle.hs_taint.specs.Points.{Point, count_of, later, owned_by, owners_from, point_of, start_of, starts_from}

-- in the first function
point_first : (code : FunctionCode) (rest : List FunctionCode) (n : ℕ) → n < length code.ops → point_of (code ∷ rest) n ≡ Some
    (record { function = 0; at = n })
point_first code rest n is =
    let inside : nat_lt n (length code.ops) ≡ true = grind (arith, nat_tests) in
    ap (λ b. if b then Some (record { function = 0; at = n }) else later (point_of rest (n - length code.ops))) inside

-- in one after it
point_later : (code : FunctionCode) (rest : List FunctionCode) (n : ℕ) → length code.ops ≤ n → point_of (code ∷ rest) n ≡ later
    (point_of rest (n - length code.ops))
point_later code rest n is =
    let outside : nat_lt n (length code.ops) ≡ false = grind (arith, nat_tests) in
    ap (λ b. if b then Some (record { function = 0; at = n }) else later (point_of rest (n - length code.ops))) outside

pub point_number : (functions : List FunctionCode) (f at : ℕ) (code : FunctionCode) → slice_get functions f ≡ Some code → at < length code.ops
    → point_of functions (start_of functions f + at) ≡ Some (record { function = f; at = at })
point_number [] f at code there is = absurd (cc)
point_number (first ∷ rest) zero at code there is =
    let here : first ≡ code = cc in
    let inside : at < length first.ops = subst (λ c. at < length c.ops) (sym here) is in
    let number : 0 + at ≡ at = omega (arith) in
    subst (λ n. point_of (first ∷ rest) n ≡ Some (record { function = 0; at = at })) (sym number) (point_first first rest at inside)
point_number (first ∷ rest) (suc f) at code there is =
    let outside : length first.ops ≤ length first.ops + start_of rest f + at = omega (arith) in
    let left : length first.ops + start_of rest f + at - length first.ops ≡ start_of rest f + at = omega (arith) in
    point_later first rest (length first.ops + start_of rest f + at) outside
    ∙ (ap (λ n. later (point_of rest n)) left ∙ ap later (point_number rest f at code there is))

-- what is said of the operation of a number
pub record IsPoint (functions : List FunctionCode) (n : ℕ) (p : Point) : Type 0 where
  pub code : FunctionCode
  pub there : slice_get functions p.function ≡ Some code
  pub within : p.at < length code.ops
  pub number : start_of functions p.function + p.at ≡ n

some_point : {a b : Point} → Some a ≡ Some b → a ≡ b
some_point same = cc

module _ (first : FunctionCode) (rest : List FunctionCode) (n : ℕ) (p : Point) where
  point_inside : n < length first.ops → point_of (first ∷ rest) n ≡ Some p → IsPoint (first ∷ rest) n p
  point_inside lt is =
      let same : record { function = 0; at = n } ≡ p = some_point (sym (point_first first rest n lt) ∙ is) in
      subst (IsPoint (first ∷ rest) n) same (record { code = first; there = refl; within = lt; number = omega (arith) })

  point_after : (o : Option Point) → ((q : Point) → o ≡ Some q → IsPoint rest (n - length first.ops) q) → length first.ops ≤ n → later o ≡ Some p
      → IsPoint (first ∷ rest) n p
  point_after None each ge same = absurd (cc)
  point_after (Some q) each ge same =
      let it = each q refl in
      let number : start_of rest q.function + q.at ≡ n - length first.ops = it.number in
      subst (IsPoint (first ∷ rest) n) (some_point same)
      (record { code = it.code; there = it.there; within = it.within; number = omega (arith) })

  point_either : (b : Bool) → nat_lt n (length first.ops) ≡ b
      → ((q : Point) → point_of rest (n - length first.ops) ≡ Some q → IsPoint rest (n - length first.ops) q)
      → point_of (first ∷ rest) n ≡ Some p → IsPoint (first ∷ rest) n p
  point_either true e each is = point_inside (grind (arith, nat_tests)) is
  point_either false e each is =
      let ge : length first.ops ≤ n = grind (arith, nat_tests) in
      point_after (point_of rest (n - length first.ops)) each ge (sym (point_later first rest n ge) ∙ is)

pub number_point : (functions : List FunctionCode) (n : ℕ) (p : Point) → point_of functions n ≡ Some p → IsPoint functions n p
number_point [] n p is = absurd (cc)
number_point (first ∷ rest) n p is =
    point_either first rest n p (nat_lt n (length first.ops)) refl (λ q its. number_point rest (n - length first.ops) q its) is

pub number_below : (functions : List FunctionCode) (f at : ℕ) (code : FunctionCode) → slice_get functions f ≡ Some code → at < length code.ops
    → start_of functions f + at < count_of functions
number_below [] f at code there is = absurd (cc)
number_below (first ∷ rest) zero at code there is =
    let here : first ≡ code = cc in
    let inside : at < length first.ops = subst (λ c. at < length c.ops) (sym here) is in
    omega (arith)
number_below (first ∷ rest) (suc f) at code there is =
    let below : start_of rest f + at < count_of rest = number_below rest f at code there is in
    omega (arith)

-- ---- as lists

starts_at : (before : ℕ) (functions : List FunctionCode) (f : ℕ) → f < length functions → slice_get (starts_from before functions) f ≡ Some
    (before + start_of functions f)
starts_at before [] f is = absurd (omega (arith))
starts_at before (code ∷ rest) zero is = ap Some (number before)
  where
    number : (before : ℕ) → before ≡ before + 0
    number before = omega (arith)
starts_at before (code ∷ rest) (suc f) is =
    let number : before + length code.ops + start_of rest f ≡ before + (length code.ops + start_of rest f) = omega (arith) in
    starts_at (before + length code.ops) rest f (omega (arith)) ∙ ap Some number

pub start_at : (functions : List FunctionCode) (f : ℕ) → f < length functions → slice_get (starts_from 0 functions) f ≡ Some (start_of functions f)
start_at functions f is =
    let number : 0 + start_of functions f ≡ start_of functions f = omega (arith) in
    starts_at 0 functions f is ∙ ap Some number

pub starts_length : (before : ℕ) (functions : List FunctionCode) → length (starts_from before functions) ≡ length functions
starts_length before [] = refl
starts_length before (code ∷ rest) = ap suc (starts_length (before + length code.ops) rest)

pub owners_length : (f : ℕ) (functions : List FunctionCode) → length (owners_from f functions) ≡ count_of functions
owners_length f [] = refl
owners_length f (code ∷ rest) =
    length-append (map (owned_by f) code.ops) (owners_from (suc f) rest)
    ∙ (ap (λ n. n + length (owners_from (suc f) rest)) (length-map code.ops (owned_by f)) ∙ ap (λ n. length code.ops + n) (owners_length (suc f) rest))

owned_at : (f : ℕ) (ops : List Placed) (n : ℕ) (rest : List ℕ) → n < length ops → slice_get (map (owned_by f) ops ++ rest) n ≡ Some f
owned_at f [] n rest is = absurd (omega (arith))
owned_at f (its ∷ ops) zero rest is = refl
owned_at f (its ∷ ops) (suc n) rest is = owned_at f ops n rest (omega (arith))

owned_after : (f : ℕ) (ops : List Placed) (n : ℕ) (rest : List ℕ) → slice_get (map (owned_by f) ops ++ rest) (length ops + n) ≡ slice_get rest n
owned_after f [] n rest = ap (slice_get rest) (number n)
  where
    number : (n : ℕ) → 0 + n ≡ n
    number n = omega (arith)
owned_after f (its ∷ ops) n rest =
    let number : suc (length ops) + n ≡ suc (length ops + n) = omega (arith) in
    ap (slice_get (f ∷ (map (owned_by f) ops ++ rest))) number ∙ owned_after f ops n rest

-- the function of an operation
pub owner_at : (base : ℕ) (functions : List FunctionCode) (f at : ℕ) (code : FunctionCode) → slice_get functions f ≡ Some code → at < length code.ops
    → slice_get (owners_from base functions) (start_of functions f + at) ≡ Some (base + f)
owner_at base [] f at code there is = absurd (cc)
owner_at base (first ∷ rest) zero at code there is =
    let here : first ≡ code = cc in
    let inside : at < length first.ops = subst (λ c. at < length c.ops) (sym here) is in
    let number : 0 + at ≡ at = omega (arith) in
    let same : base ≡ base + 0 = omega (arith) in
    ap (slice_get (owners_from base (first ∷ rest))) number ∙ (owned_at base first.ops at (owners_from (suc base) rest) inside ∙ ap Some same)
owner_at base (first ∷ rest) (suc f) at code there is =
    let number : length first.ops + start_of rest f + at ≡ length first.ops + (start_of rest f + at) = omega (arith) in
    let same : suc base + f ≡ base + suc f = omega (arith) in
    ap (slice_get (owners_from base (first ∷ rest))) number
    ∙ (owned_after base first.ops (start_of rest f + at) (owners_from (suc base) rest) ∙ (owner_at (suc base) rest f at code there is ∙ ap Some same))

-- each number below the count is that of an operation
pub point_below : (functions : List FunctionCode) (n : ℕ) → n < count_of functions → (p : Point) × (point_of functions n ≡ Some p)
point_below [] n is = absurd (omega (arith))
point_below (first ∷ rest) n is = by (nat_lt n (length first.ops)) refl (point_below rest (n - length first.ops))
  where
    by : (b : Bool) → nat_lt n (length first.ops) ≡ b
        → (n - length first.ops < count_of rest → (p : Point) × (point_of rest (n - length first.ops) ≡ Some p))
        → (p : Point) × (point_of (first ∷ rest) n ≡ Some p)
    by true e each = (record { function = 0; at = n }, point_first first rest n (grind (arith, nat_tests)))
    by false e each =
        let ge : length first.ops ≤ n = grind (arith, nat_tests) in
        let it = each (omega (arith)) in
        (record { function = suc it.0.function; at = it.0.at }, point_later first rest n ge ∙ ap later it.1)
