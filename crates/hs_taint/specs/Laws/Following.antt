-- Where control goes, as a list.
--     next_among, among_next         the targets of an operation are those that can follow it
--     is_call, return_is             calls and returns by their tests
use Rattle.hs_code.specs.Following.{IsCase, IsNext, successors_of}
use Rattle.hs_code.specs.declared.function_code.Case.{Case}
use Rattle.hs_code.specs.declared.op.Op.TheVariants as op
use Rattle.hs_code.specs.declared.op.Op.{Op}
use Rattle.hs_effects.specs.Calling.{callee_of}
use Rattle.hs_flow.specs.Among.{Among}
use Rattle.hs_taint.specs.Routes.{cases_in, is_return, target_of, targets_of}
use Rattle.std.proofs.Common.{◌≡◌, ◌<◌, ◌≤◌, inl, inr, ◌∙◌, ℕ, zero, suc, ◌+◌, ◌-◌, true, List, [], ◌∷◌, map, slice_get, take, Some, ap, sym, subst, refl, arith}
use Rattle.std.specs.Prelude.{drop}

-- ---- cases

some_case : {a b : Case} → Some a ≡ Some b → a ≡ b
some_case same = cc

same_call : (a b : ℕ) → Some a ≡ Some b → op.Call a ≡ op.Call b
same_call a b same = cc

among_taken : (cases : List Case) (count place : ℕ) (its : Case) → place < count → slice_get cases place ≡ Some its
    → Among (map target_of (take count cases)) its.target
among_taken [] count place its lt there = absurd (cc)
among_taken (it ∷ rest) zero place its lt there = absurd (omega (arith))
among_taken (it ∷ rest) (suc count) zero its lt there = inl (ap target_of (some_case (sym there)))
among_taken (it ∷ rest) (suc count) (suc place) its lt there = inr (among_taken rest count place its (omega (arith)) there)

-- a case that is among the first ones
pub record IsTaken (cases : List Case) (count target : ℕ) : Type 0 where
  pub place : ℕ
  pub its : Case
  pub before : place < count
  pub there : slice_get cases place ≡ Some its
  pub goes : its.target ≡ target

taken_among : (cases : List Case) (count target : ℕ) → Among (map target_of (take count cases)) target → IsTaken cases count target
taken_among cases zero target is = absurd is
taken_among [] (suc count) target is = absurd is
taken_among (it ∷ rest) (suc count) target (inl is) = record { place = 0; its = it; before = omega (arith); there = refl; goes = sym is }
taken_among (it ∷ rest) (suc count) target (inr is) =
    let more = taken_among rest count target is in
    let below : more.place < count = more.before in
    record { place = suc more.place; its = more.its; before = omega (arith); there = more.there; goes = more.goes }

dropped_at : (cases : List Case) (first k : ℕ) → slice_get (drop first cases) k ≡ slice_get cases (first + k)
dropped_at cases zero k = ap (slice_get cases) (number k)
  where
    number : (k : ℕ) → k ≡ 0 + k
    number k = omega (arith)
dropped_at [] (suc first) k = refl
dropped_at (it ∷ rest) (suc first) k =
    let number : suc (first + k) ≡ suc first + k = omega (arith) in
    dropped_at rest first k ∙ ap (slice_get (it ∷ rest)) number

case_among : (cases : List Case) (first end target : ℕ) → IsCase cases first end target → Among (map target_of (cases_in cases first end)) target
case_among cases first end target is =
    let from : first ≤ is.place = is.from in
    let before : is.place < end = is.before in
    let number : first + (is.place - first) ≡ is.place = omega (arith) in
    subst (Among (map target_of (cases_in cases first end))) is.goes
    (among_taken (drop first cases) (end - first) (is.place - first) is.its (omega (arith))
    (dropped_at cases first (is.place - first) ∙ (ap (slice_get cases) number ∙ is.there)))

among_case : (cases : List Case) (first end target : ℕ) → Among (map target_of (cases_in cases first end)) target → IsCase cases first end target
among_case cases first end target is =
    let it = taken_among (drop first cases) (end - first) target is in
    let below : it.place < end - first = it.before in
    record {
      place = first + it.place;
      its = it.its;
      from = omega (arith);
      before = omega (arith);
      there = sym (dropped_at cases first it.place) ∙ it.there;
      goes = it.goes;
    }

-- ---- control

-- what can follow is among the targets
pub next_among : (its : Op) (cases : List Case) (at next : ℕ) → IsNext its cases at next → Among (targets_of (successors_of its at) cases) next
next_among (op.Num bits) cases at next is = inl is
next_among op.Nil cases at next is = inl is
next_among (op.Address its) cases at next is = inl is
next_among (op.Get v) cases at next is = inl is
next_among (op.Set v) cases at next is = inl is
next_among (op.Load its) cases at next is = inl is
next_among (op.Store its) cases at next is = inl is
next_among op.Drop cases at next is = inl is
next_among op.Dup cases at next is = inl is
next_among op.Tuck cases at next is = inl is
next_among (op.Conv kind) cases at next is = inl is
next_among (op.Unary its) cases at next is = inl is
next_among (op.Binary its kind) cases at next is = inl is
next_among op.IsNil cases at next is = inl is
next_among (op.Compare its) cases at next is = inl is
next_among (op.Difference size) cases at next is = inl is
next_among (op.Offset bytes) cases at next is = inl is
next_among (op.Step stride first) cases at next is = inl is
next_among (op.Jump target) cases at next is = inl is
next_among (op.Zero target) cases at next (inl is) = inl is
next_among (op.Zero target) cases at next (inr is) = inr (inl is)
next_among (op.Choose goal) cases at next (inl is) = inl is
next_among (op.Choose goal) cases at next (inr is) = inr (case_among cases goal.first goal.end next is)
next_among (op.Shift place) cases at next is = inl is
next_among (op.Routine place) cases at next is = inl is
next_among (op.Call f) cases at next is = inl is
next_among op.Return cases at next is = absurd is
next_among op.Turn cases at next is = inl is
next_among op.Mark cases at next is = inl is
next_among (op.Pick target) cases at next (inl is) = inl is
next_among (op.Pick target) cases at next (inr is) = inr (inl is)
next_among (op.Bring place) cases at next is = inl is

-- and nothing else is
pub among_next : (its : Op) (cases : List Case) (at next : ℕ) → Among (targets_of (successors_of its at) cases) next → IsNext its cases at next
among_next (op.Num bits) cases at next (inl is) = is
among_next (op.Num bits) cases at next (inr is) = absurd is
among_next op.Nil cases at next (inl is) = is
among_next op.Nil cases at next (inr is) = absurd is
among_next (op.Address its) cases at next (inl is) = is
among_next (op.Address its) cases at next (inr is) = absurd is
among_next (op.Get v) cases at next (inl is) = is
among_next (op.Get v) cases at next (inr is) = absurd is
among_next (op.Set v) cases at next (inl is) = is
among_next (op.Set v) cases at next (inr is) = absurd is
among_next (op.Load its) cases at next (inl is) = is
among_next (op.Load its) cases at next (inr is) = absurd is
among_next (op.Store its) cases at next (inl is) = is
among_next (op.Store its) cases at next (inr is) = absurd is
among_next op.Drop cases at next (inl is) = is
among_next op.Drop cases at next (inr is) = absurd is
among_next op.Dup cases at next (inl is) = is
among_next op.Dup cases at next (inr is) = absurd is
among_next op.Tuck cases at next (inl is) = is
among_next op.Tuck cases at next (inr is) = absurd is
among_next (op.Conv kind) cases at next (inl is) = is
among_next (op.Conv kind) cases at next (inr is) = absurd is
among_next (op.Unary its) cases at next (inl is) = is
among_next (op.Unary its) cases at next (inr is) = absurd is
among_next (op.Binary its kind) cases at next (inl is) = is
among_next (op.Binary its kind) cases at next (inr is) = absurd is
among_next op.IsNil cases at next (inl is) = is
among_next op.IsNil cases at next (inr is) = absurd is
among_next (op.Compare its) cases at next (inl is) = is
among_next (op.Compare its) cases at next (inr is) = absurd is
among_next (op.Difference size) cases at next (inl is) = is
among_next (op.Difference size) cases at next (inr is) = absurd is
among_next (op.Offset bytes) cases at next (inl is) = is
among_next (op.Offset bytes) cases at next (inr is) = absurd is
among_next (op.Step stride first) cases at next (inl is) = is
among_next (op.Step stride first) cases at next (inr is) = absurd is
among_next (op.Jump target) cases at next (inl is) = is
among_next (op.Jump target) cases at next (inr is) = absurd is
among_next (op.Zero target) cases at next (inl is) = inl is
among_next (op.Zero target) cases at next (inr (inl is)) = inr is
among_next (op.Zero target) cases at next (inr (inr is)) = absurd is
among_next (op.Choose goal) cases at next (inl is) = inl is
among_next (op.Choose goal) cases at next (inr is) = inr (among_case cases goal.first goal.end next is)
among_next (op.Shift place) cases at next (inl is) = is
among_next (op.Shift place) cases at next (inr is) = absurd is
among_next (op.Routine place) cases at next (inl is) = is
among_next (op.Routine place) cases at next (inr is) = absurd is
among_next (op.Call f) cases at next (inl is) = is
among_next (op.Call f) cases at next (inr is) = absurd is
among_next op.Return cases at next is = absurd is
among_next op.Turn cases at next (inl is) = is
among_next op.Turn cases at next (inr is) = absurd is
among_next op.Mark cases at next (inl is) = is
among_next op.Mark cases at next (inr is) = absurd is
among_next (op.Pick target) cases at next (inl is) = inl is
among_next (op.Pick target) cases at next (inr (inl is)) = inr is
among_next (op.Pick target) cases at next (inr (inr is)) = absurd is
among_next (op.Bring place) cases at next (inl is) = is
among_next (op.Bring place) cases at next (inr is) = absurd is

-- ---- calls and returns

pub is_call : (its : Op) (g : ℕ) → callee_of its ≡ Some g → its ≡ op.Call g
is_call (op.Num bits) g is = absurd (cc)
is_call op.Nil g is = absurd (cc)
is_call (op.Address its) g is = absurd (cc)
is_call (op.Get v) g is = absurd (cc)
is_call (op.Set v) g is = absurd (cc)
is_call (op.Load its) g is = absurd (cc)
is_call (op.Store its) g is = absurd (cc)
is_call op.Drop g is = absurd (cc)
is_call op.Dup g is = absurd (cc)
is_call op.Tuck g is = absurd (cc)
is_call (op.Conv kind) g is = absurd (cc)
is_call (op.Unary its) g is = absurd (cc)
is_call (op.Binary its kind) g is = absurd (cc)
is_call op.IsNil g is = absurd (cc)
is_call (op.Compare its) g is = absurd (cc)
is_call (op.Difference size) g is = absurd (cc)
is_call (op.Offset bytes) g is = absurd (cc)
is_call (op.Step stride first) g is = absurd (cc)
is_call (op.Jump target) g is = absurd (cc)
is_call (op.Zero target) g is = absurd (cc)
is_call (op.Choose goal) g is = absurd (cc)
is_call (op.Shift place) g is = absurd (cc)
is_call (op.Routine place) g is = absurd (cc)
is_call (op.Call f) g is = same_call f g is
is_call op.Return g is = absurd (cc)
is_call op.Turn g is = absurd (cc)
is_call op.Mark g is = absurd (cc)
is_call (op.Pick target) g is = absurd (cc)
is_call (op.Bring place) g is = absurd (cc)

pub return_is : (its : Op) → is_return its ≡ true → its ≡ op.Return
return_is (op.Num bits) is = absurd (cc)
return_is op.Nil is = absurd (cc)
return_is (op.Address its) is = absurd (cc)
return_is (op.Get v) is = absurd (cc)
return_is (op.Set v) is = absurd (cc)
return_is (op.Load its) is = absurd (cc)
return_is (op.Store its) is = absurd (cc)
return_is op.Drop is = absurd (cc)
return_is op.Dup is = absurd (cc)
return_is op.Tuck is = absurd (cc)
return_is (op.Conv kind) is = absurd (cc)
return_is (op.Unary its) is = absurd (cc)
return_is (op.Binary its kind) is = absurd (cc)
return_is op.IsNil is = absurd (cc)
return_is (op.Compare its) is = absurd (cc)
return_is (op.Difference size) is = absurd (cc)
return_is (op.Offset bytes) is = absurd (cc)
return_is (op.Step stride first) is = absurd (cc)
return_is (op.Jump target) is = absurd (cc)
return_is (op.Zero target) is = absurd (cc)
return_is (op.Choose goal) is = absurd (cc)
return_is (op.Shift place) is = absurd (cc)
return_is (op.Routine place) is = absurd (cc)
return_is (op.Call f) is = absurd (cc)
return_is op.Return is = refl
return_is op.Turn is = absurd (cc)
return_is op.Mark is = absurd (cc)
return_is (op.Pick target) is = absurd (cc)
return_is (op.Bring place) is = absurd (cc)
