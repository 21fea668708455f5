-- Chains: lists of steps of a fact, from the start of the program (after the tabulation of Reps, Horwitz and Sagiv, 1995).
--     Spot                           a function, one of its operations, and a fact before it
--     Goes, Over, Enters, Leaves     the steps: inside a call, over a call, into one, and back to the caller
--     Chain whole known n x stack    a chain of n spots that ends in x, inside the calls of the stack, the innermost first
--     IsEntry whole known stack e    the call, which is the innermost one of the stack, was entered with the fact e
--     EndsIn whole known n f at p    a chain of n spots ends before that operation in the pair p
--     IsShortest ..                  and no chain that does so is shorter
-- A call that returns goes back to the call on top of the stack, and to no other.
use Rattle.hs_flow.specs.Among.{Among}
use Rattle.std.specs.Prelude.{◌≡◌, ◌≤◌, ◌<◌, ℕ, suc, List, [], ◌∷◌, length, slice_get, Option, Some, None}
use Rattle.hs_code.specs.Following.{Follows}
use Rattle.hs_code.specs.declared.function_code.FunctionCode.{FunctionCode}
use Rattle.hs_code.specs.declared.function_code.Placed.{Placed}
use Rattle.hs_code.specs.declared.op.Op.TheVariants as op
use Rattle.hs_chains.specs.Knowledge.{Knowledge}
use Rattle.hs_facts.specs.Effects.{WholeCode, placed_in}
use Rattle.hs_flow.specs.Calls.{over_of, enter_of, leave_of}
use Rattle.hs_flow.specs.Programs.{next_in, parameters_of}
use Rattle.hs_flow.specs.declared.fact.Fact.{Fact}
use Rattle.hs_flow.specs.declared.fact.FactStatus.TheVariants as status
use Rattle.hs_flow.specs.declared.fact.Slot.TheVariants as slot

-- one operation of a function, with a fact before it
pub record Spot : Type 0 where
  pub function : ℕ
  pub at : ℕ
  pub fact : Fact

-- ---- control

-- a step of control in a function that is there
abbrev pub FollowsOf : Option FunctionCode → ℕ → ℕ → Type 0
FollowsOf None at next = ⊥
FollowsOf (Some code) at next = Follows code at next

-- in the function of that number
abbrev pub FollowsIn : WholeCode → ℕ → ℕ → ℕ → Type 0
FollowsIn whole f at next = FollowsOf (slice_get whole.functions f) at next

-- the operation of the spot is a call of the function `callee`, which is there
pub record IsCall (whole : WholeCode) (x : Spot) (callee : ℕ) : Type 0 where
  pub its : Placed
  pub there : placed_in whole x.function x.at ≡ Some its
  pub calls : its.op ≡ op.Call callee
  pub of_function : callee < length whole.functions

-- ---- steps

-- control is at the start of the program
abbrev pub first_fact : Fact
first_fact = record { slot = slot.Nothing; status = status.Reached }

module _ (whole : WholeCode) (known : Knowledge) where
  -- a chain begins at operation 0 of main
  abbrev pub first_spot : Spot
  first_spot = record { function = whole.program.main; at = 0; fact = first_fact }

  -- to an operation to which control goes, in the same call. A call has no such step.
  pub record Goes (x y : Spot) : Type 0 where
    pub its : Placed
    pub there : placed_in whole x.function x.at ≡ Some its
    pub follows : FollowsIn whole x.function x.at y.at
    pub same : y.function ≡ x.function
    pub has : Among (next_in whole x.function (known.at x.function x.at) its.op x.fact) y.fact

  -- over a call, to the operation after it
  pub record Over (x y : Spot) : Type 0 where
    pub callee : ℕ
    pub call : IsCall whole x callee
    pub next : y.at ≡ suc x.at
    pub same : y.function ≡ x.function
    pub has : Among (over_of (known.of callee) (known.at x.function x.at) x.fact) y.fact

  -- into the function that is called, to its operation 0
  pub record Enters (x y : Spot) : Type 0 where
    pub call : IsCall whole x y.function
    pub first : y.at ≡ 0
    pub has : enter_of (parameters_of whole y.function) (known.at x.function x.at) x.fact ≡ Some y.fact

  -- from x, which is a return of the function that c calls, to the operation after c. First the return has its step, to the fact `exit`.
  pub record Leaves (c x y : Spot) : Type 0 where
    pub call : IsCall whole c x.function
    pub its : Placed
    pub there : placed_in whole x.function x.at ≡ Some its
    pub returns : its.op ≡ op.Return
    pub exit : Fact
    pub exits : Among (next_in whole x.function (known.at x.function x.at) op.Return x.fact) exit
    pub next : y.at ≡ suc c.at
    pub same : y.function ≡ c.function
    pub has : leave_of (known.of x.function) (known.at c.function c.at) c.fact exit ≡ Some y.fact

  -- ---- chains

  -- by the number of its spots, the last spot, and the calls inside which it is
  pub data Chain : ℕ → Spot → List Spot → Type 0 where
    begins : Chain 1 first_spot []
    goes : (n : ℕ) (x y : Spot) (stack : List Spot) → Chain n x stack → Goes x y → Chain (suc n) y stack
    goes_over : (n : ℕ) (x y : Spot) (stack : List Spot) → Chain n x stack → Over x y → Chain (suc n) y stack
    enters : (n : ℕ) (x y : Spot) (stack : List Spot) → Chain n x stack → Enters x y → Chain (suc n) y (x ∷ stack)
    leaves : (n : ℕ) (c x y : Spot) (stack : List Spot) → Chain n x (c ∷ stack) → Leaves c x y → Chain (suc n) y stack

  -- ---- pairs

  -- the fact with which the innermost call was entered, if it is one of the function f; main has the fact with which a chain begins
  abbrev pub IsEntry : List Spot → ℕ → Fact → Type 0
  IsEntry [] f entry = entry ≡ first_fact
  IsEntry (c ∷ stack) f entry = enter_of (parameters_of whole f) (known.at c.function c.at) c.fact ≡ Some entry

  -- a chain of n spots ends before the operation `at` of f with that fact, in a call that was entered with the fact `entry`
  pub record EndsIn (n f at : ℕ) (entry fact : Fact) : Type 0 where
    pub stack : List Spot
    pub chain : Chain n (record { function = f; at = at; fact = fact }) stack
    pub entered : IsEntry stack f entry

  -- and none is shorter
  pub record IsShortest (n f at : ℕ) (entry fact : Fact) : Type 0 where
    pub ends : EndsIn n f at entry fact
    pub least : (m : ℕ) → EndsIn m f at entry fact → n ≤ m
