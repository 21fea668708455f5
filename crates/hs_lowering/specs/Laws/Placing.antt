-- Where parts of code stand (own).
--     HoldsCases code base cases          the function has these cases from that one on
--     Held code its base start            it has the operations and the cases of a part
--     held_next, length_next              of the part after another one
--     sliced                              the cases of one switch, of which it names the first and the one after the last
use Rattle.std.proofs.Common.{◌≡◌, ℕ, zero, suc, ◌+◌, ◌-◌, List, [], ◌∷◌, ◌++◌, length, take, drop, slice_get, Some, None, refl, sym, ap, ◌∙◌, subst, arith}
use Rattle.hs_base.specs.declared.pos.Pos.{Pos}
use Rattle.hs_code.specs.declared.function_code.Case.{Case}
use Rattle.hs_code.specs.declared.function_code.FunctionCode.{FunctionCode}
use Rattle.hs_code.specs.declared.op.Op.{Op}
use Rattle.hs_lowering.specs.Laws.Lengths.{past, past_none, past_more}
use Rattle.hs_lowering.specs.Lowering.{Lowered, after}
use Rattle.hs_lowering.specs.Performing.{Holds, holds_front, holds_back, after_append}
use Rattle.hs_lowering.specs.Statements.{Written, Part, ◌then◌, placed_at, given}

-- from that case on
abbrev pub CasesFrom : List Case → ℕ → List Case → Type 0
CasesFrom all base [] = Unit {0}
CasesFrom all base (its ∷ rest) = (slice_get all base ≡ Some its) × CasesFrom all (suc base) rest

-- the cases of the code
abbrev pub HoldsCases : FunctionCode → ℕ → List Case → Type 0
HoldsCases code base its = CasesFrom code.cases base its

pub cases_front : (all : List Case) (base : ℕ) (first second : List Case) → CasesFrom all base (first ++ second) → CasesFrom all base first
cases_front all base [] second holds = tt
cases_front all base (its ∷ first) second holds = (holds.0, cases_front all (suc base) first second holds.1)

pub cases_back : (all : List Case) (base : ℕ) (first second : List Case) → CasesFrom all base (first ++ second) → CasesFrom all (past base first) second
cases_back all base [] second holds = subst (λ n. CasesFrom all n second) (sym (past_none base)) holds
cases_back all base (its ∷ first) second holds =
    subst (λ n. CasesFrom all n second) (sym (past_more base its first)) (cases_back all (suc base) first second holds.1)

-- ---- parts

-- the code has the part there, with its cases
pub record Held (code : FunctionCode) (its : Written) (base start : ℕ) : Type 0 where
  pub ops : Holds code start its.ops
  pub cases : HoldsCases code base its.cases

module _ (code : FunctionCode) where
  pub held_front : (f g : Part) (base start : ℕ) → Held code ((f then g) start) base start → Held code (f start) base start
  held_front f g base start held =
      record {
        ops = holds_front code start (f start).ops (g (after start (f start).ops)).ops held.ops;
        cases = cases_front code.cases base (f start).cases (g (after start (f start).ops)).cases held.cases;
      }

  -- the second part, from where the first one ends
  pub held_back : (f g : Part) (base start next mid : ℕ) → past base (f start).cases ≡ next → after start (f start).ops ≡ mid
      → Held code ((f then g) start) base start → Held code (g mid) next mid
  held_back f g base start next mid counted ends held =
      subst (λ m. Held code (g m) next m) ends
      (subst (λ n. Held code (g (after start (f start).ops)) n (after start (f start).ops)) counted
      (record {
        ops = holds_back code start (f start).ops (g (after start (f start).ops)).ops held.ops;
        cases = cases_back code.cases base (f start).cases (g (after start (f start).ops)).cases held.cases;
      }))

  -- after a part without cases
  pub held_next : (f g : Part) (base start mid : ℕ) → (f start).cases ≡ [] → after start (f start).ops ≡ mid
      → Held code ((f then g) start) base start → Held code (g mid) base mid
  held_next f g base start mid none ends held = held_back f g base start base mid (counted (f start).cases none) ends held
    where
      counted : (its : List Case) → its ≡ [] → past base its ≡ base
      counted its is = ap (past base) is ∙ past_none base

-- where both end
pub length_next : (f g : Part) (start mid : ℕ) → after start (f start).ops ≡ mid → after start ((f then g) start).ops ≡ after mid (g mid).ops
length_next f g start mid ends = after_append start (f start).ops (g (after start (f start).ops)).ops ∙ ap (λ m. after m (g m).ops) ends

-- an operation after a value
pub length_given : (piece : ℕ) (at : Pos) (value : Lowered) (its : Op) (start : ℕ)
    → after start (given piece at value its start).ops ≡ suc (after start (value start 0))
length_given piece at value its start = after_append start (value start 0) (placed_at piece at its 1 ∷ [])

-- ---- the cases of one switch

shifted : (its : Case) (all : List Case) (base : ℕ) (own : List Case) → CasesFrom (its ∷ all) (suc base) own → CasesFrom all base own
shifted its all base [] holds = tt
shifted its all base (first ∷ rest) holds = (holds.0, shifted its all (suc base) rest holds.1)

taken_here : (all own : List Case) → CasesFrom all 0 own → take (length own) all ≡ own
taken_here all [] holds = refl
taken_here [] (first ∷ rest) holds = absurd (never holds.0)
  where
    never : None ≡ Some first → ⊥
    never is = cc
taken_here (its ∷ all) (first ∷ rest) holds =
    ap (λ x. x ∷ take (length rest) all) (same its first holds.0) ∙ ap (λ xs. first ∷ xs) (taken_here all rest (shifted its all 0 rest holds.1))
  where
    same : (a b : Case) → Some a ≡ Some b → a ≡ b
    same a b is = cc

taken_there : (all : List Case) (base : ℕ) (own : List Case) → CasesFrom all base own → take (length own) (drop base all) ≡ own
taken_there all zero own holds = taken_here all own holds
taken_there [] (suc base) [] holds = refl
taken_there [] (suc base) (first ∷ rest) holds = absurd (never holds.0)
  where
    never : None ≡ Some first → ⊥
    never is = cc
taken_there (its ∷ all) (suc base) own holds = taken_there all base own (shifted its all base own holds)

pub past_length : (base : ℕ) (own : List Case) → past base own ≡ base + length own
past_length base [] = past_none base ∙ omega arith
past_length base (its ∷ rest) = past_more base its rest ∙ past_length (suc base) rest ∙ omega arith

-- from the first to the one after the last
pub sliced : (all : List Case) (base last : ℕ) (own : List Case) → past base own ≡ last → CasesFrom all base own
    → take (last - base) (drop base all) ≡ own
sliced all base last own ends holds = ap (λ n. take n (drop base all)) counted ∙ taken_there all base own holds
  where
    counted : last - base ≡ length own
    counted = ap (λ n. n - base) (sym ends ∙ past_length base own) ∙ omega arith
