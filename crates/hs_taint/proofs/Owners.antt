-- Lists of starts and of owners, while they are made.
--     owner_put                     one operation is done
--     located                       the function of a number, and the number of its first operation
use Rattle.std.proofs.Common.{◌≡◌, ◌<◌, ◌∙◌, ℕ, zero, suc, ◌+◌, ◌++◌, List, [], ◌∷◌, length, map, ap, sym, refl, arith, drop}
use Rattle.std.proofs.lemmas.List.{append_assoc}
use Rattle.hs_code.specs.declared.function_code.FunctionCode.{FunctionCode}
use Rattle.hs_code.specs.declared.function_code.Placed.{Placed}
use Rattle.std.proofs.Common.{◌-◌, ◌≤◌, Some, get_or, slice_get, subst}
use Rattle.std.proofs.lemmas.Option.{get_or_from_slice_get, slice_get_within}
use Rattle.hs_taint.specs.Laws.Points.{IsPoint, number_point, owner_at, owners_length, point_below, start_at, starts_length}
use Rattle.hs_taint.specs.Points.{Point, count_of, owned_by, owners_from, point_of, start_of, starts_from}

-- the next owner
owner_next : (f : ℕ) (ops : List Placed) (i : ℕ) → i < length ops → map (owned_by f) (drop i ops) ≡ f ∷ map (owned_by f) (drop (suc i) ops)
owner_next f [] i is = absurd (omega (arith))
owner_next f (its ∷ rest) zero is = refl
owner_next f (its ∷ rest) (suc i) is = owner_next f rest i (omega (arith))

-- one operation is done
pub owner_put : (owners : List ℕ) (f : ℕ) (ops : List Placed) (i : ℕ) → i < length ops
    → (owners ++ f ∷ []) ++ map (owned_by f) (drop (i + 1) ops) ≡ owners ++ map (owned_by f) (drop i ops)
owner_put owners f ops i is =
    let number : i + 1 ≡ suc i = omega (arith) in
    append_assoc owners (f ∷ []) (map (owned_by f) (drop (i + 1) ops))
    ∙ (ap (λ n. owners ++ (f ∷ map (owned_by f) (drop n ops))) number ∙ ap (λ rest. owners ++ rest) (sym (owner_next f ops i is)))

-- where the operation of a number is
pub record IsLocated (functions : List FunctionCode) (n : ℕ) : Type 0 where
  pub p : Point
  pub point : point_of functions n ≡ Some p
  pub there : IsPoint functions n p
  pub owner : slice_get (owners_from 0 functions) n ≡ Some p.function
  pub start : slice_get (starts_from 0 functions) p.function ≡ Some (start_of functions p.function)
  pub below : p.function < length (starts_from 0 functions)

-- each number below the count has one
pub located : (functions : List FunctionCode) (n : ℕ) → n < count_of functions → IsLocated functions n
located functions n is =
    let it = point_below functions n is in
    let there = number_point functions n it.0 it.1 in
    let below : it.0.function < length functions = slice_get_within functions it.0.function there.code there.there in
    let same : 0 + it.0.function ≡ it.0.function = omega (arith) in
    record {
      p = it.0;
      point = it.1;
      there = there;
      owner =
          subst (λ n. slice_get (owners_from 0 functions) n ≡ Some it.0.function) there.number
          (owner_at 0 functions it.0.function it.0.at there.code there.there there.within ∙ ap Some same);
      start = start_at functions it.0.function below;
      below = let long = starts_length 0 functions in omega (arith, long);
    }

-- what the code finds
module _ (functions : List FunctionCode) (starts owners : List ℕ) (n : ℕ)
    (starts_are : starts ≡ starts_from 0 functions) (owners_are : owners ≡ owners_from 0 functions) (within : n < count_of functions)
  where
    pub owner_below : n < length owners
    owner_below = let long = ap length owners_are ∙ owners_length 0 functions in omega (arith, long)

    pub owner_is : (d : ℕ) → get_or owners n d ≡ (located functions n within).p.function
    owner_is d =
        get_or_from_slice_get owners n (located functions n within).p.function d
        (ap (λ list. slice_get list n) owners_are ∙ (located functions n within).owner)

    pub start_below : (located functions n within).p.function < length starts
    start_below = let long = ap length starts_are in let below = (located functions n within).below in omega (arith, long)

    pub start_is : (d : ℕ) → get_or starts (located functions n within).p.function d ≡ start_of functions (located functions n within).p.function
    start_is d =
        get_or_from_slice_get starts (located functions n within).p.function (start_of functions (located functions n within).p.function) d
        (ap (λ list. slice_get list (located functions n within).p.function) starts_are ∙ (located functions n within).start)

    pub start_at_most : (owner start : ℕ) (d e : ℕ) → owner ≡ get_or owners n d → start ≡ get_or starts owner e → start ≤ n
    start_at_most owner start d e owner_at start_at =
        let same : start ≡ start_of functions (located functions n within).p.function =
        start_at ∙ (ap (λ f. get_or starts f e) (owner_at ∙ owner_is d) ∙ start_is e) in
        let number = (located functions n within).there.number in
        omega (arith, same, number)

    pub found_point : (owner start : ℕ) (d e : ℕ) → owner ≡ get_or owners n d → start ≡ get_or starts owner e
        → (located functions n within).p ≡ record { function = owner; at = n - start }
    found_point owner start d e owner_at start_at =
        let function : (located functions n within).p.function ≡ owner = sym (owner_at ∙ owner_is d) in
        let same : start ≡ start_of functions (located functions n within).p.function =
        start_at ∙ (ap (λ f. get_or starts f e) (owner_at ∙ owner_is d) ∙ start_is e) in
        let number = (located functions n within).there.number in
        let place : (located functions n within).p.at ≡ n - start = omega (arith, same, number) in
        λ i. record { function = function i; at = place i }

-- the start of a function
pub start_found : (functions : List FunctionCode) (starts : List ℕ) (f d : ℕ) → starts ≡ starts_from 0 functions → f < length functions
    → (f < length starts) × (get_or starts f d ≡ start_of functions f)
start_found functions starts f d are below =
    let long = ap length are ∙ starts_length 0 functions in
    (omega (arith, long), get_or_from_slice_get starts f (start_of functions f) d (ap (λ list. slice_get list f) are ∙ start_at functions f below))
