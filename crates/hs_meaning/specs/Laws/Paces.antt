-- Runs that go through the same machines, and differ in their schedules and turns alone.
--     Pace                       which states go through one machine, and how they end
--     at_pace pace               the relation: values and variables are equal
--     PaceLeaves pace setting    what is asked of what the machine does, and of decisions
--     leaves_at pace setting its     that is all that is asked
use Rattle.std.proofs.Common.{◌≡◌, ℤ, ℕ, ◌||◌, List, [], ◌∷◌, slice_get, Option, Some, None, refl, ap, ◌∙◌, subst}
use Rattle.hs_base.specs.declared.pos.Pos.{Pos}
use Rattle.hs_meaning.specs.Beside.{Relation, Follows, gives, eithers, Units, Same, Lists, Locations, Flows, Leaves}
use Rattle.hs_meaning.specs.Evaluation.{Flow, onward, breaks, continues, returned, Location, in_slot, at_address, variable_at, address_of, decided_by, powers_of, returned_value}
use Rattle.hs_meaning.specs.Frames.{missing_value, opened}
use Rattle.hs_heap.specs.Shift.{Powers}
use Rattle.hs_tree.specs.declared.function.BoundRoutine.{BoundRoutine}
use Rattle.hs_meaning.specs.Machine.{Machine, Done, stopped}
use Rattle.hs_meaning.specs.Operations.{operate}
use Rattle.hs_meaning.specs.Runs.{own_locals, closes}
use Rattle.hs_meaning.specs.Steps.{State, Ran, went, over, Step, then_with, acts, decided, perform, used, number_used}
use Rattle.hs_meaning.specs.Values.{Value}
use Rattle.hs_meaning.specs.declared.outcome.Outcome.{Outcome}
use Rattle.hs_meaning.specs.declared.outcome.Outcome.TheVariants.{Finished}
use Rattle.hs_meaning.specs.declared.outcome.Stop.TheVariants as stop
use Rattle.hs_meaning.specs.Settings.{Setting}

-- which states go through one machine, and what a run that has ended says of the other one
pub record Pace : Type 1 where
  pub states : State → State → Type 0
  pub ended : {A : Type 0} → Outcome → State → Ran A → Type 0
  pub ended_then : {A B : Type 0} → (outcome : Outcome) (s : State) (r : Ran A) (next : A → Step B) → ended outcome s r
      → ended outcome s (then_with next r)

-- with equal values and variables
abbrev pub at_pace : Pace → Relation
at_pace pace =
    record {
      values = λ a b. a ≡ b;
      bindings = λ a b. a ≡ b;
      states = pace.states;
      ended = λ outcome s r. pace.ended outcome s r;
      ended_then = λ outcome s r next is. pace.ended_then outcome s r next is;
    }

-- what is asked of what the machine does, of ends, and of decisions
pub record PaceLeaves (pace : Pace) (setting : Setting) : Type 1 where
  pub acts_alike : {A : Type 0} → (at : Pos) (act : Machine → Done A) → Follows (at_pace pace) Same (acts at act) (acts at act)
  pub finishes : {A : Type 0} → (value : ℤ) (s t : State) → pace.states s t → pace.ended {A = A} (Finished value) s (over (Finished value) t)
  pub decides : (place : ℕ)
      → Follows (at_pace pace) Units (decided_by (slice_get setting.routines place)) (decided_by (slice_get setting.routines place))

module _ (pace : Pace) where
  abbrev pub relation : Relation
  relation = at_pace pace

  pub lists_same : (a b : List Value) → Lists relation a b → a ≡ b
  lists_same [] [] is = refl
  lists_same [] (b ∷ others) is = absurd is
  lists_same (a ∷ rest) [] is = absurd is
  lists_same (a ∷ rest) (b ∷ others) is = ap (λ v. v ∷ rest) is.0 ∙ ap (λ vs. b ∷ vs) (lists_same rest others is.1)

  locations_same : (a b : Location) → Locations relation a b → a ≡ b
  locations_same (in_slot a) (in_slot b) is = ap in_slot is
  locations_same (in_slot a) (at_address b) is = absurd is
  locations_same (at_address a) (in_slot b) is = absurd is
  locations_same (at_address a) (at_address b) is = ap at_address is

  flows_same : (a b : Flow) → Flows relation a b → a ≡ b
  flows_same onward onward is = refl
  flows_same onward breaks is = absurd is
  flows_same onward continues is = absurd is
  flows_same onward (returned w at') is = absurd is
  flows_same breaks onward is = absurd is
  flows_same breaks breaks is = refl
  flows_same breaks continues is = absurd is
  flows_same breaks (returned w at') is = absurd is
  flows_same continues onward is = absurd is
  flows_same continues breaks is = absurd is
  flows_same continues continues is = refl
  flows_same continues (returned w at') is = absurd is
  flows_same (returned v at) onward is = absurd is
  flows_same (returned v at) breaks is = absurd is
  flows_same (returned v at) continues is = absurd is
  flows_same (returned v at) (returned w at') is = ap (λ v. returned v at) is.0 ∙ ap (λ p. returned w p) is.1

  locations_of : (a b : Location) → a ≡ b → Locations relation a b
  locations_of a b same = subst (λ b. Locations relation a b) same (itself a)
    where
      itself : (a : Location) → Locations relation a a
      itself (in_slot a) = refl
      itself (at_address a) = refl

  module _ {A : Type 0} {same : A → A → Type 0} (widened : (a b : A) → a ≡ b → same a b) where
    wider : (r r' : Ran A) → Rattle.hs_meaning.specs.Beside.Alike relation Same r r' → Rattle.hs_meaning.specs.Beside.Alike relation same r r'
    wider (went a s) (went b t) is = (widened a b is.0, is.1)
    wider (went a s) (over outcome t) is = absurd is
    wider (over outcome s) r is = is

    -- equal results correspond
    pub follows_wider : {f g : Step A} → Follows relation Same f g → Follows relation same f g
    follows_wider {f = f} {g = g} is = record { go = λ s t corresponds. wider (f s) (g t) (is.go s t corresponds) }

  -- a routine that may be there takes its decision, if decisions correspond
  pub decides_by : ((powers : Powers) → Follows relation Units (decided powers) (decided powers)) → (it : Option BoundRoutine)
      → Follows relation Units (decided_by it) (decided_by it)
  decides_by each None = gives tt
  decides_by each (Some it) = eithers ((powers_of it).moves || (powers_of it).purges) (each (powers_of it)) (gives tt)

  -- what the machine does is equal for equal values
  by_equal : {A B : Type 0} → {same : B → B → Type 0} → (step : A → Step B) (a b : A) → a ≡ b → Follows relation same (step a) (step a)
      → Follows relation same (step a) (step b)
  by_equal {same = same} step a b is follows = subst (λ x. Follows relation same (step a) (step x)) is follows

  pub leaves_at : (setting : Setting) → PaceLeaves pace setting → Leaves relation setting
  leaves_at setting its =
      record {
        constant = λ c. refl;
        performed = λ at op a b is. by_equal (λ vs. perform setting at op vs) a b (lists_same a b is) (its.acts_alike at (operate setting op a));
        used_as = λ at a b is. by_equal (λ v. used at v) a b is (its.acts_alike at (number_used a));
        variable = λ at name. follows_wider locations_of (its.acts_alike at (variable_at name));
        address = λ at a b is. by_equal (λ l. acts at (address_of l)) a b (locations_same a b is) (its.acts_alike at (address_of a));
        result = λ at a b is. by_equal (λ f. acts at (returned_value f)) a b (flows_same a b is) (its.acts_alike at (returned_value a));
        missing = λ at id. its.acts_alike at (missing_value setting id);
        decided = its.decides;
        no_bindings = refl;
        owned = λ at. its.acts_alike at own_locals;
        opens = λ at parameters variables a b is.
            by_equal (λ vs. acts at (opened setting parameters variables vs)) a b (lists_same a b is)
            (follows_wider (λ m n same. tt) (its.acts_alike at (opened setting parameters variables a)));
        closes_to = λ at a b is. by_equal (λ c. acts at (closes c)) a b is (follows_wider (λ m n same. tt) (its.acts_alike at (closes a)));
        fails = λ {A = A} at s t corresponds. (its.acts_alike {A = A} at (λ machine. stopped stop.BadPointer machine)).go s t corresponds;
        finishes = λ {A = A} value s t corresponds. its.finishes {A = A} value s t corresponds;
      }
