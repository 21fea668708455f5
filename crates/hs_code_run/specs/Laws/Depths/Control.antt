-- Where a switch goes is its default, or the target of one of its cases.
use Rattle.std.proofs.Common.{◌≡◌, ◌<◌, ◌⊎◌, inl, inr, ◌+◌, ◌-◌, ◌==◌, ℕ, zero, suc, Bool, true, false, List, [], ◌∷◌, take, drop, slice_get, Option, Some, None, refl, sym, subst, arith}
use Rattle.hs_code.specs.Following.{IsCase}
use Rattle.hs_code.specs.declared.function_code.Case.{Case}
use Rattle.hs_code.specs.declared.op.Goal.{Goal}
use Rattle.hs_code_run.specs.Steps.{found, or_later, or_default, case_for}

-- one of those cases goes there
record Has (cases : List Case) (target : ℕ) : Type 0 where
  place : ℕ
  its : Case
  there : slice_get cases place ≡ Some its
  goes : its.target ≡ target

-- what was found is the target of one of them
abbrev FoundIn : List Case → Option ℕ → Type 0
FoundIn cases None = Unit {0}
FoundIn cases (Some target) = Has cases target

later_in : (its : Case) (rest : List Case) (later : Option ℕ) → FoundIn rest later → FoundIn (its ∷ rest) later
later_in its rest None has = tt
later_in its rest (Some target) has = record { place = suc has.place; its = has.its; there = has.there; goes = has.goes }

or_later_in : (b : Bool) (its : Case) (rest : List Case) (later : Option ℕ) → FoundIn rest later
    → FoundIn (its ∷ rest) (or_later b its.target later)
or_later_in true its rest later has = record { place = 0; its = its; there = refl; goes = refl }
or_later_in false its rest later has = later_in its rest later has

found_in : (bits : ℕ) (cases : List Case) → FoundIn cases (found bits cases)
found_in bits [] = tt
found_in bits (its ∷ rest) = or_later_in (its.bits == bits) its rest (found bits rest) (found_in bits rest)

-- ---- a part of a list

-- an entry of the first ones
taken_there : (count place : ℕ) (cases : List Case) (its : Case) → slice_get (take count cases) place ≡ Some its
    → (place < count) × (slice_get cases place ≡ Some its)
taken_there zero place cases its is = absurd cc
taken_there (suc count) place [] its is = absurd cc
taken_there (suc count) zero (one ∷ cases) its is = (omega arith, is)
taken_there (suc count) (suc place) (one ∷ cases) its is =
    (let rest = taken_there count place cases its is in (omega (arith, rest.0), rest.1))

plus_zero : (place : ℕ) → 0 + place ≡ place
plus_zero place = omega arith

plus_suc : (count place : ℕ) → suc count + place ≡ suc (count + place)
plus_suc count place = omega arith

-- an entry after the first ones
dropped_there : (count place : ℕ) (cases : List Case) (its : Case) → slice_get (drop count cases) place ≡ Some its
    → slice_get cases (count + place) ≡ Some its
dropped_there zero place cases its is = subst (λ n. slice_get cases n ≡ Some its) (sym (plus_zero place)) is
dropped_there (suc count) place [] its is = absurd cc
dropped_there (suc count) place (one ∷ cases) its is =
    subst (λ n. slice_get (one ∷ cases) n ≡ Some its) (sym (plus_suc count place)) (dropped_there count place cases its is)

-- ---- a switch

-- where it can go
abbrev pub GoesTo : Goal → List Case → ℕ → Type 0
GoesTo goal cases next = (next ≡ goal.default) ⊎ IsCase cases goal.first goal.end next

of_part : (goal : Goal) (cases : List Case) (target : ℕ) → Has (take (goal.end - goal.first) (drop goal.first cases)) target
    → IsCase cases goal.first goal.end target
of_part goal cases target has =
    (let taken = taken_there (goal.end - goal.first) has.place (drop goal.first cases) has.its has.there in
    record {
      place = goal.first + has.place;
      its = has.its;
      from = omega arith;
      before = omega (arith, taken.0);
      there = dropped_there goal.first has.place cases has.its taken.1;
      goes = has.goes;
    })

by_found : (goal : Goal) (cases : List Case) (its : Option ℕ) → FoundIn (take (goal.end - goal.first) (drop goal.first cases)) its
    → GoesTo goal cases (or_default its goal.default)
by_found goal cases None has = inl refl
by_found goal cases (Some target) has = inr (of_part goal cases target has)

pub case_follows : (bits : ℕ) (goal : Goal) (cases : List Case) → GoesTo goal cases (case_for bits goal cases)
case_follows bits goal cases =
    by_found goal cases (found bits (take (goal.end - goal.first) (drop goal.first cases)))
    (found_in bits (take (goal.end - goal.first) (drop goal.first cases)))
