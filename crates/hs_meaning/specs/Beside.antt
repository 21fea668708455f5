-- Two runs side by side: what holds of each operation holds of what is made of them. One relation says which states and values correspond, and
-- what a run that has ended says of the other one. The laws of runs are such relations.
--     Relation                          how two runs correspond
--     Alike R same first second         what two steps come to corresponds
--     Follows R same first second       so it does from all states that correspond
--     gives, thens, eithers             a step that does nothing, one after the other, and one of two
--     Lists, Locations, Flows           lists of values, locations, and ways to go on that correspond
--     Leaves R setting                  what a relation says of each operation
--     Agains R again other              and of each job
pub mod Calls
pub mod Expressions
pub mod Statements
use Rattle.std.specs.Prelude.{◌≡◌, ℤ, ℕ, Bool, true, false, List, [], ◌∷◌, slice_get}
use Rattle.hs_base.specs.declared.pos.Pos.{Pos}
use Rattle.hs_meaning.specs.Evaluation.{Flow, onward, breaks, continues, returned, Job, turn_of, call_of, Location, in_slot, at_address, variable_at, address_of, decided_by, returned_value}
use Rattle.hs_meaning.specs.Frames.{missing_value, opened}
use Rattle.hs_meaning.specs.Machine.{Binding}
use Rattle.hs_meaning.specs.Objects.{constant_value}
use Rattle.hs_meaning.specs.Operations.{Operation}
use Rattle.hs_meaning.specs.Runs.{own_locals, closes}
use Rattle.hs_meaning.specs.Steps.{State, Ran, went, over, Step, ◌>>=◌, then_with, give, ends, either, acts, perform, used}
use Rattle.hs_meaning.specs.Values.{Value}
use Rattle.hs_meaning.specs.declared.outcome.Outcome.{Outcome}
use Rattle.hs_meaning.specs.declared.outcome.Outcome.TheVariants.{Finished, Stopped}
use Rattle.hs_meaning.specs.declared.outcome.Stop.TheVariants as stop
use Rattle.hs_meaning.specs.Settings.{Setting}
use Rattle.hs_tree.specs.Trees.{TypedStatement, TypedFunction}
use Rattle.hs_tree.specs.declared.constant.Constant.{Constant}
use Rattle.hs_tree.specs.declared.head.Variable.{Variable}
use Rattle.hs_tree.specs.declared.head.VariableDecl.{VariableDecl}
use Rattle.hs_types.specs.declared.row.TypeId.{TypeId}

-- which values, variables and states correspond, and what a run that has ended says of the other one
pub record Relation : Type 1 where
  pub values : Value → Value → Type 0
  pub bindings : List Binding → List Binding → Type 0
  pub states : State → State → Type 0
  -- a run has ended so, and the other one comes to that
  pub ended : {A : Type 0} → Outcome → State → Ran A → Type 0
  pub ended_then : {A B : Type 0} → (outcome : Outcome) (s : State) (r : Ran A) (next : A → Step B) → ended outcome s r
      → ended outcome s (then_with next r)

-- both go on with things that correspond, or the first has ended
abbrev pub Alike : (R : Relation) → {A : Type 0} → (A → A → Type 0) → Ran A → Ran A → Type 0
Alike R same (went a s) (went b t) = same a b × R.states s t
Alike R same (went a s) (over outcome t) = ⊥
Alike R same (over outcome s) r = R.ended outcome s r

-- from all states that correspond
pub record Follows (R : Relation) {A : Type 0} (same : A → A → Type 0) (first second : Step A) : Type 0 where
  pub go : (s t : State) → R.states s t → Alike R same (first s) (second t)

-- ---- steps

-- a step that does nothing
pub gives : {R : Relation} → {A : Type 0} → {same : A → A → Type 0} → {a b : A} → same a b → Follows R same (give a) (give b)
gives is = record { go = λ s t corresponds. (is, corresponds) }

alike_then : (R : Relation) → {A B : Type 0} → (same : A → A → Type 0) (same' : B → B → Type 0) (f g : A → Step B) (r r' : Ran A)
    → Alike R same r r' → ((a b : A) → same a b → Follows R same' (f a) (g b)) → Alike R same' (then_with f r) (then_with g r')
alike_then R same same' f g (went a s) (went b t) is next = (next a b is.0).go s t is.1
alike_then R same same' f g (went a s) (over outcome t) is next = absurd is
alike_then R same same' f g (over outcome s) r is next = R.ended_then outcome s r g is

-- one after the other
pub thens : {R : Relation} → {A B : Type 0} → {same : A → A → Type 0} → {same' : B → B → Type 0} → {first second : Step A}
    → {f g : A → Step B} → Follows R same first second → ((a b : A) → same a b → Follows R same' (f a) (g b))
    → Follows R same' (first >>= f) (second >>= g)
thens {R = R} {same = same} {same' = same'} {first = first} {second = second} {f = f} {g = g} before next =
    record { go = λ s t corresponds. alike_then R same same' f g (first s) (second t) (before.go s t corresponds) next }

-- one of two steps, by one test
pub eithers : {R : Relation} → {A : Type 0} → {same : A → A → Type 0} → {f f' g g' : Step A} → (b : Bool) → Follows R same f f'
    → Follows R same g g' → Follows R same (either b f g) (either b f' g')
eithers true first second = first
eithers false first second = second

-- ---- what corresponds

-- nothing is said
abbrev pub Units : Unit {0} → Unit {0} → Type 0
Units a b = Unit {0}

-- equal
abbrev pub Same : {A : Type 0} → A → A → Type 0
Same a b = a ≡ b

module _ (R : Relation) where
  -- value by value
  abbrev pub Lists : List Value → List Value → Type 0
  Lists [] [] = Unit {0}
  Lists [] (b ∷ others) = ⊥
  Lists (a ∷ rest) [] = ⊥
  Lists (a ∷ rest) (b ∷ others) = R.values a b × Lists rest others

  -- one slot, or addresses that correspond
  abbrev pub Locations : Location → Location → Type 0
  Locations (in_slot a) (in_slot b) = a ≡ b
  Locations (in_slot a) (at_address b) = ⊥
  Locations (at_address a) (in_slot b) = ⊥
  Locations (at_address a) (at_address b) = R.values a b

  -- in one way, with values that correspond
  abbrev pub Flows : Flow → Flow → Type 0
  Flows onward onward = Unit {0}
  Flows breaks breaks = Unit {0}
  Flows continues continues = Unit {0}
  Flows (returned a at) (returned b at') = R.values a b × (at ≡ at')
  Flows _ _ = ⊥

  -- two of one sort each
  abbrev pub Pairs : {A B : Type 0} → (A → A → Type 0) → (B → B → Type 0) → A × B → A × B → Type 0
  Pairs first second a b = first a.0 b.0 × second a.1 b.1

-- ---- operations and jobs

-- what a relation says of each operation
pub record Leaves (R : Relation) (setting : Setting) : Type 1 where
  -- constants correspond to themselves
  pub constant : (its : Constant) → R.values (constant_value setting its) (constant_value setting its)
  pub performed : (at : Pos) (its : Operation) (a b : List Value) → Lists R a b → Follows R R.values (perform setting at its a) (perform setting at its b)
  pub used_as : (at : Pos) (a b : Value) → R.values a b → Follows R Same (used at a) (used at b)
  pub variable : (at : Pos) (name : Variable) → Follows R (Locations R) (acts at (variable_at name)) (acts at (variable_at name))
  pub address : (at : Pos) (a b : Location) → Locations R a b → Follows R R.values (acts at (address_of a)) (acts at (address_of b))
  pub result : (at : Pos) (a b : Flow) → Flows R a b → Follows R R.values (acts at (returned_value a)) (acts at (returned_value b))
  pub missing : (at : Pos) (id : TypeId) → Follows R R.values (acts at (missing_value setting id)) (acts at (missing_value setting id))
  pub decided : (place : ℕ) → Follows R Units (decided_by (slice_get setting.routines place)) (decided_by (slice_get setting.routines place))
  -- calls
  pub no_bindings : R.bindings [] []
  pub owned : (at : Pos) → Follows R R.bindings (acts at own_locals) (acts at own_locals)
  pub opens : (at : Pos) (parameters : ℕ) (variables : List VariableDecl) (a b : List Value) → Lists R a b
      → Follows R Units (acts at (opened setting parameters variables a)) (acts at (opened setting parameters variables b))
  pub closes_to : (at : Pos) (a b : List Binding) → R.bindings a b → Follows R Units (acts at (closes a)) (acts at (closes b))
  -- ends of a run
  pub fails : {A : Type 0} → (at : Pos) (s t : State) → R.states s t
      → R.ended {A = A} (Stopped stop.BadPointer at) s (over (Stopped stop.BadPointer at) t)
  pub finishes : {A : Type 0} → (value : ℤ) (s t : State) → R.states s t → R.ended {A = A} (Finished value) s (over (Finished value) t)

-- and of each job
pub record Agains (R : Relation) (again other : Job → Step Flow) : Type 0 where
  pub turns : (function : TypedFunction) (it : TypedStatement) → Follows R (Flows R) (again (turn_of function it)) (other (turn_of function it))
  pub calls : (place : ℕ) (at : Pos) (a b : List Value) → Lists R a b → Follows R (Flows R) (again (call_of place a at)) (other (call_of place b at))
