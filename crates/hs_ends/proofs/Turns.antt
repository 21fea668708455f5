-- The turns of the loop over a list of parameters: one for each list of the table.
--     left_there                      while an entry is there, a turn is left
--     no_turn, turn_goes_on, turn_ends      what the definition gives after the last turn, and after one turn
use Rattle.std.proofs.Common.{◌≡◌, ◌<◌, ◌≤◌, ◌-◌, ℕ, zero, suc, true, false, List, [], ◌∷◌, ◌++◌, length, slice_get, Option, Some, None, refl, ap, ◌∙◌, is_some, arith}
use Rattle.std.proofs.lemmas.Option.{slice_get_within}
use Rattle.hs_types.specs.TypeTables.{TypeTable}
use Rattle.hs_types.specs.declared.row.ListId.{ListId}
use Rattle.hs_types.specs.declared.row.Parameters.{Parameters}
use Rattle.hs_types.specs.declared.row.Parameters.TheVariants.{Empty, More}
use Rattle.hs_types.specs.declared.row.TypeId.{TypeId}
use Rattle.hs_ends.specs.Ends.{listed_next, listed_in}

-- an entry is there
within_some : {A : Type 0} → (xs : List A) (n : ℕ) (its : Option A) → slice_get xs n ≡ its → is_some its ≡ true → n < length xs
within_some xs n None found is = absurd cc
within_some xs n (Some it) found is = slice_get_within xs n it found

-- or none is
past_none : {A : Type 0} → (xs : List A) (n : ℕ) → is_some (slice_get xs n) ≡ false → length xs ≤ n
past_none [] n is = omega arith
past_none (x ∷ xs) zero is = absurd cc
past_none (x ∷ xs) (suc n) is = let rest : length xs ≤ n = past_none xs n is in omega (arith, rest)

-- while an entry is there, a turn is left
pub left_there : {A : Type 0} → (xs : List A) (n : ℕ) → is_some (slice_get xs n) ≡ true → length xs - n ≡ suc (length xs - suc n)
left_there xs n is =
    let within : n < length xs = within_some xs n (slice_get xs n) refl is in omega (arith, within)

-- and none is left after the last entry
left_none : {A : Type 0} → (xs : List A) (n : ℕ) → is_some (slice_get xs n) ≡ false → length xs - n ≡ 0
left_none xs n is = let past : length xs ≤ n = past_none xs n is in omega (arith, past)

-- no turn is left
pub no_turn : (types : TypeTable) (turn : ℕ) (done : List TypeId) (left : ListId) → is_some (slice_get types.lists turn) ≡ false
    → listed_in (length types.lists - turn) types done left ≡ done
no_turn types turn done left over = ap (λ turns. listed_in turns types done left) (left_none types.lists turn over)

-- one turn
one_turn : (types : TypeTable) (turn : ℕ) (done : List TypeId) (left : ListId) → is_some (slice_get types.lists turn) ≡ true
    → listed_in (length types.lists - turn) types done left
    ≡ listed_next (λ next others. listed_in (length types.lists - suc turn) types next others) done (slice_get types.lists left.number)
one_turn types turn done left there = ap (λ turns. listed_in turns types done left) (left_there types.lists turn there)

-- the list goes on
pub turn_goes_on : (types : TypeTable) (turn : ℕ) (done : List TypeId) (left : ListId) (id : TypeId) (others : ListId)
    → is_some (slice_get types.lists turn) ≡ true → slice_get types.lists left.number ≡ Some (More id others)
    → listed_in (length types.lists - turn) types done left ≡ listed_in (length types.lists - suc turn) types (done ++ id ∷ []) others
turn_goes_on types turn done left id others there is =
    one_turn types turn done left there
    ∙ ap (listed_next (λ next others. listed_in (length types.lists - suc turn) types next others) done) is

-- or does not
pub turn_ends : (types : TypeTable) (turn : ℕ) (done : List TypeId) (left : ListId) → is_some (slice_get types.lists turn) ≡ true
    → ((id : TypeId) (others : ListId) → slice_get types.lists left.number ≡ Some (More id others) → ⊥)
    → listed_in (length types.lists - turn) types done left ≡ done
turn_ends types turn done left there over =
    one_turn types turn done left there ∙ ended (slice_get types.lists left.number) over
  where
    -- by what the list is
    ended : (its : Option Parameters) → ((id : TypeId) (others : ListId) → its ≡ Some (More id others) → ⊥)
        → listed_next (λ next others. listed_in (length types.lists - suc turn) types next others) done its ≡ done
    ended None over = refl
    ended (Some Empty) over = refl
    ended (Some (More id others)) over = absurd (over id others refl)
