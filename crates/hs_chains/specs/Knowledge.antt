-- What is known in a program: the must facts before each operation, and what each function may do (own).
--     HoldsOf, HoldOfBoth            a must fact of the name of a number, and of the names of two
--     IsGiven whole f at given       the answers at an operation are its must facts, by the numbers of names
--     IsCallee whole f callee        what is known of a function is what it may do
--     Knowledge                      the answers at each operation, and what is known of each function
--     IsKnowledge whole known        all of it is so
-- A number that is of no name, and an operation that is not there, have no must facts. So there is one knowledge of a program.
use Rattle.std.specs.Bool.{Decides}
use Rattle.std.specs.Prelude.{◌≡◌, ◌<◌, ℕ, length, Option, Some, None}
use Rattle.hs_code.specs.declared.function_code.Placed.{Placed}
use Rattle.hs_facts.specs.Effects.{WholeCode, Assigns, HasEffect, HoldsAt, IsRestoreAt, placed_in, moves, purges, unlocks, marks}
use Rattle.hs_facts.specs.MustFacts.{MustFact, in_slot, With, Saved, Locked, Live, Distinct}
use Rattle.hs_flow.specs.Calls.{Callee}
use Rattle.hs_flow.specs.Given.{Given}
use Rattle.hs_flow.specs.Programs.{parameters_of}
use Rattle.hs_must.specs.Answers.{IsName, names_in}
use Rattle.hs_tree.specs.declared.head.Variable.{Variable}

-- ---- must facts of names by their numbers

-- the number is that of a name, and the must fact of the name holds before the operation
abbrev pub HoldsOf : WholeCode → ℕ → ℕ → ℕ → (Variable → MustFact) → Type 0
HoldsOf whole f at h of = (x : Variable) × IsName whole f h x × HoldsAt whole f at (of x)

-- the same of two numbers
abbrev pub HoldsOfBoth : WholeCode → ℕ → ℕ → ℕ → ℕ → (Variable → Variable → MustFact) → Type 0
HoldsOfBoth whole f at a b of = (x : Variable) × IsName whole f a x × HoldsOf whole f at b (of x)

-- ---- an operation

-- how many values are on the stack before an operation that is there
abbrev pub places_of : Option Placed → ℕ
places_of None = 0
places_of (Some its) = its.places

-- each answer is whether the must fact holds before the operation `at` of the function `f`
pub record IsGiven (whole : WholeCode) (f at : ℕ) (given : Given) : Type 0 where
  pub function : given.function ≡ f
  pub places : given.places ≡ places_of (placed_in whole f at)
  pub names : given.names ≡ names_in whole f
  pub distinct : (a b : ℕ) → Decides (given.distinct a b) (HoldsOfBoth whole f at a b Distinct)
  pub locked : (h : ℕ) → Decides (given.locked h) (HoldsOf whole f at h Locked)
  pub live : (h : ℕ) → Decides (given.live h) (HoldsOf whole f at h Live)
  pub saved : (b : Variable) (h : ℕ) → Decides (given.saved b h) (HoldsOf whole f at h (Saved (in_slot b)))
  pub with : (place h : ℕ) → Decides (given.with place h) (HoldsOf whole f at h (With place))
  pub restores : Decides given.restores (IsRestoreAt whole f at)

-- ---- a function

-- a global that is there, and that the function may assign
abbrev pub AssignsThere : WholeCode → ℕ → ℕ → Type 0
AssignsThere whole f g = (g < length whole.program.globals) × Assigns whole f g

-- what is known of a function is what it may do, and where its arguments go
pub record IsCallee (whole : WholeCode) (f : ℕ) (callee : Callee) : Type 0 where
  pub moves : Decides callee.moves (HasEffect whole f moves)
  pub purges : Decides callee.purges (HasEffect whole f purges)
  pub unlocks : Decides callee.unlocks (HasEffect whole f unlocks)
  pub marks : Decides callee.marks (HasEffect whole f marks)
  pub assigns : (g : ℕ) → Decides (callee.assigns g) (AssignsThere whole f g)
  pub parameters : callee.parameters ≡ parameters_of whole f

-- ---- a program

-- the answers at each operation of each function, and what is known of each function
pub record Knowledge : Type 0 where
  pub at : ℕ → ℕ → Given
  pub of : ℕ → Callee

-- what is known is so, at each operation and of each function that is there
pub record IsKnowledge (whole : WholeCode) (known : Knowledge) : Type 0 where
  pub operations : (f at : ℕ) → IsGiven whole f at (known.at f at)
  pub functions : (f : ℕ) → f < length whole.functions → IsCallee whole f (known.of f)
