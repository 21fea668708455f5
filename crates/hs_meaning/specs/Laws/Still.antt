-- The heap that never moves: a run on it is never a misuse.
--     Still                          the relation of such a run to itself
--     still_runs_are_no_misuse       the law
--     safe_without_movers            a program without a routine that moves or purges is safe
use Rattle.std.proofs.Common.{◌≡◌, ℤ, ℕ, zero, suc, Bool, true, false, List, [], ◌∷◌, slice_get, Option, Some, None, refl, sym, ap, ◌∙◌, subst}
use Rattle.std.specs.List.{AllByRecursion}
use Rattle.hs_base.specs.declared.pos.Pos.{Pos}
use Rattle.hs_heap.specs.Shift.{Powers}
use Rattle.hs_meaning.specs.Beside.{Relation, Alike, Follows, gives, thens, Units, Same, Lists, Locations, Flows, Leaves, Agains}
use Rattle.hs_meaning.specs.Beside.Calls as calls
use Rattle.hs_meaning.specs.Beside.Statements as statements
use Rattle.hs_meaning.specs.Evaluation.{Flow, onward, breaks, continues, returned, Location, in_slot, at_address, variable_at, address_of, decided_by, powers_of, returned_value}
use Rattle.hs_meaning.specs.Frames.{missing_value, opened}
use Rattle.hs_meaning.specs.Laws.Schedules.{AreStill, decision_stays, HasNoMovers, movers_alone_see_schedules}
use Rattle.hs_meaning.specs.Laws.Unmoved.{IsUnmoved, IsStillMachine, IsStillDone, IsUnmovedLocation, IsUnmovedFlow}
use Rattle.hs_meaning.specs.Laws.Unmoved.Evaluation.{used_still, variable_still, address_still, returned_still}
use Rattle.hs_meaning.specs.Laws.Unmoved.Fine.{Anything}
use Rattle.hs_meaning.specs.Laws.Unmoved.Frames.{AreUnmovedBindings, opened_still, closed_still, owned_still, missing_still}
use Rattle.hs_meaning.specs.Laws.Unmoved.Operations.{operated}
use Rattle.hs_meaning.specs.Laws.Unmoved.Starts.{constant_unmoved, starting_is_still}
use Rattle.hs_meaning.specs.Machine.{Machine, Done, done, stopped}
use Rattle.hs_meaning.specs.Operations.{Operation, operate}
use Rattle.hs_meaning.specs.Runs.{own_locals, closes, again_within, starting, ran_in, ran_within, still_run, ending_of, IsMisuse, IsSafe}
use Rattle.hs_meaning.specs.Settings.{Setting, setting_of}
use Rattle.hs_meaning.specs.Steps.{State, Ran, went, over, Step, either, decided, after_decision, later_decisions, acts, ran_at, perform, used, number_used, turn, turn_from}
use Rattle.hs_meaning.specs.Values.{Value}
use Rattle.hs_meaning.specs.declared.input.Input.{Input}
use Rattle.hs_tree.specs.Trees.{TypedFunction, TypedProgram}
use Rattle.hs_tree.specs.declared.function.BoundRoutine.{BoundRoutine}
use Rattle.hs_tree.specs.declared.head.VariableDecl.{VariableDecl}

-- a run beside itself: values and variables are unmoved, and it does not end in a misuse
abbrev pub Still : Relation
Still =
    record {
      values = λ a b. (a ≡ b) × IsUnmoved a;
      bindings = λ a b. (a ≡ b) × AreUnmovedBindings a;
      states = λ s t. (s ≡ t) × IsStillMachine s.machine × (s.schedule ≡ []);
      ended = λ outcome s r. ¬ (IsMisuse outcome);
      ended_then = λ outcome s r next is. is;
    }

-- ---- what corresponds

-- equal lists of unmoved values
lists_unmoved : (a b : List Value) → Lists Still a b → (a ≡ b) × AllByRecursion IsUnmoved a
lists_unmoved [] [] is = (refl, tt)
lists_unmoved [] (b ∷ others) is = absurd is
lists_unmoved (a ∷ rest) [] is = absurd is
lists_unmoved (a ∷ rest) (b ∷ others) is = both (lists_unmoved rest others is.1)
  where
    both : (rest ≡ others) × AllByRecursion IsUnmoved rest → (a ∷ rest ≡ b ∷ others) × AllByRecursion IsUnmoved (a ∷ rest)
    both so = (ap (λ v. v ∷ rest) is.0.0 ∙ ap (λ vs. b ∷ vs) so.0, (is.0.1, so.1))

locations_unmoved : (a b : Location) → Locations Still a b → (a ≡ b) × IsUnmovedLocation a
locations_unmoved (in_slot a) (in_slot b) is = (ap in_slot is, tt)
locations_unmoved (in_slot a) (at_address b) is = absurd is
locations_unmoved (at_address a) (in_slot b) is = absurd is
locations_unmoved (at_address a) (at_address b) is = (ap at_address is.0, is.1)

flows_unmoved : (a b : Flow) → Flows Still a b → (a ≡ b) × IsUnmovedFlow a
flows_unmoved onward onward is = (refl, tt)
flows_unmoved onward breaks is = absurd is
flows_unmoved onward continues is = absurd is
flows_unmoved onward (returned w at') is = absurd is
flows_unmoved breaks onward is = absurd is
flows_unmoved breaks breaks is = (refl, tt)
flows_unmoved breaks continues is = absurd is
flows_unmoved breaks (returned w at') is = absurd is
flows_unmoved continues onward is = absurd is
flows_unmoved continues breaks is = absurd is
flows_unmoved continues continues is = (refl, tt)
flows_unmoved continues (returned w at') is = absurd is
flows_unmoved (returned v at) onward is = absurd is
flows_unmoved (returned v at) breaks is = absurd is
flows_unmoved (returned v at) continues is = absurd is
flows_unmoved (returned v at) (returned w at') is = (ap (λ v. returned v at) is.0.0 ∙ ap (λ p. returned w p) is.1, is.0.1)

locations_of : (a : Location) → IsUnmovedLocation a → Locations Still a a
locations_of (in_slot a) is = refl
locations_of (at_address a) is = (refl, is)

-- ---- what the machine does

module _ {A : Type 0} (fact : A → Type 0) (same : A → A → Type 0) (itself : (a : A) → fact a → same a a) where
  ran_still : (at : Pos) (s : State) (its : Done A) → IsStillDone fact its → s.schedule ≡ [] → Alike Still same (ran_at at s its) (ran_at at s its)
  ran_still at s (done it machine) is planned = (itself it is.0, (refl, is.1, planned))
  ran_still at s (stopped why machine) is planned = is

  -- an act that keeps the machine still, of one state
  acts_still : (at : Pos) (act : Machine → Done A) → ((machine : Machine) → IsStillMachine machine → IsStillDone fact (act machine))
      → Follows Still same (acts at act) (acts at act)
  acts_still at act each =
      record {
        go = λ s t is. subst (λ x. Alike Still same (acts at act s) (acts at act x)) is.0 (ran_still at s (act s.machine) (each s.machine is.1) is.2);
      }

-- what is done with equal things is equal
of_equal : {A B : Type 0} → (same : B → B → Type 0) (step : A → Step B) (a b : A) → a ≡ b → Follows Still same (step a) (step a)
    → Follows Still same (step a) (step b)
of_equal same step a b is follows = subst (λ x. Follows Still same (step a) (step x)) is follows

unmoved_itself : (value : Value) → IsUnmoved value → (value ≡ value) × IsUnmoved value
unmoved_itself value is = (refl, is)

performed_still : (setting : Setting) (at : Pos) (its : Operation) (a b : List Value) → (a ≡ b) × AllByRecursion IsUnmoved a
    → Follows Still Still.values (perform setting at its a) (perform setting at its b)
performed_still setting at its a b is =
    of_equal Still.values (λ vs. perform setting at its vs) a b is.0
    (acts_still IsUnmoved Still.values unmoved_itself at (operate setting its a) (λ machine still. operated setting its a machine is.1 still))

address_follows : (at : Pos) (a b : Location) → (a ≡ b) × IsUnmovedLocation a
    → Follows Still Still.values (acts at (address_of a)) (acts at (address_of b))
address_follows at a b is =
    of_equal Still.values (λ l. acts at (address_of l)) a b is.0
    (acts_still IsUnmoved Still.values unmoved_itself at (address_of a) (λ machine still. address_still a machine is.1 still))

result_follows : (at : Pos) (a b : Flow) → (a ≡ b) × IsUnmovedFlow a
    → Follows Still Still.values (acts at (returned_value a)) (acts at (returned_value b))
result_follows at a b is =
    of_equal Still.values (λ f. acts at (returned_value f)) a b is.0
    (acts_still IsUnmoved Still.values unmoved_itself at (returned_value a) (λ machine still. returned_still a machine is.1 still))

opened_follows : (setting : Setting) (at : Pos) (parameters : ℕ) (variables : List VariableDecl) (a b : List Value)
    → (a ≡ b) × AllByRecursion IsUnmoved a
    → Follows Still Units (acts at (opened setting parameters variables a)) (acts at (opened setting parameters variables b))
opened_follows setting at parameters variables a b is =
    of_equal Units (λ vs. acts at (opened setting parameters variables vs)) a b is.0
    (acts_still Anything Units (λ it so. tt) at (opened setting parameters variables a)
    (λ machine still. opened_still setting parameters variables a machine is.1 still))

-- ---- decisions

-- past the end of the schedule nothing moves
stays_still : (powers : Powers) (s : State) → IsStillMachine s.machine → s.schedule ≡ []
    → IsStillMachine (after_decision powers s).machine × ((after_decision powers s).schedule ≡ [])
stays_still powers s still planned = (
  subst IsStillMachine (sym (decision_stays powers s (subst AreStill (sym planned) tt))) still,
  ap later_decisions planned,
)

decided_still : (it : Option BoundRoutine) → Follows Still Units (decided_by it) (decided_by it)
decided_still None = gives tt
decided_still (Some it) = chosen _
  where
    after : (powers : Powers) (s t : State) → s ≡ t
        → IsStillMachine (after_decision powers s).machine × ((after_decision powers s).schedule ≡ [])
        → Still.states (after_decision powers s) (after_decision powers t)
    after powers s t same still = (ap (after_decision powers) same, still.0, still.1)

    chosen : (b : Bool) → Follows Still Units (either b (decided (powers_of it)) (λ s. went tt s)) (either b (decided (powers_of it)) (λ s. went tt s))
    chosen true =
        record {
          go = λ s t is. (tt, after (powers_of it) s t is.0 (stays_still (powers_of it) s is.1 is.2));
        }
    chosen false = gives tt

-- ---- the run

leaves : (setting : Setting) → Leaves Still setting
leaves setting =
    record {
      constant = λ its. (refl, constant_unmoved setting its);
      performed = λ at its a b is. performed_still setting at its a b (lists_unmoved a b is);
      used_as = λ at a b is.
          of_equal Same (λ v. used at v) a b is.0
          (acts_still Anything Same (λ bits so. refl) at (number_used a) (λ machine still. used_still a machine still));
      variable = λ at name.
          acts_still IsUnmovedLocation (Locations Still) locations_of at (variable_at name) (λ machine still. variable_still name machine still);
      address = λ at a b is. address_follows at a b (locations_unmoved a b is);
      result = λ at a b is. result_follows at a b (flows_unmoved a b is);
      missing = λ at id.
          acts_still IsUnmoved Still.values unmoved_itself at (missing_value setting id)
          (λ machine still. missing_still setting id machine still);
      decided = λ place. decided_still (slice_get setting.routines place);
      no_bindings = (refl, tt);
      owned = λ at. acts_still AreUnmovedBindings Still.bindings (λ all are. (refl, are)) at own_locals (λ machine still. owned_still machine still);
      opens = λ at parameters variables a b is. opened_follows setting at parameters variables a b (lists_unmoved a b is);
      closes_to = λ at a b is.
          of_equal Units (λ caller. acts at (closes caller)) a b is.0
          (acts_still Anything Units (λ it so. tt) at (closes a) (λ machine still. closed_still a machine is.1 still));
      fails = λ {A = A} at s t is. λ misuse. misuse;
      finishes = λ {A = A} value s t is. λ misuse. misuse;
    }

turns_still : (s : State) (n : ℕ) → IsStillMachine s.machine → s.schedule ≡ [] → Alike Still Units (turn_from n s) (turn_from n s)
turns_still s zero still planned = λ misuse. misuse
turns_still s (suc left) still planned = (tt, (refl, still, planned))

turn_still : Follows Still Units turn turn
turn_still = record { go = λ s t is. subst (λ x. Alike Still Units (turn s) (turn x)) is.0 (turns_still s s.turns is.1 is.2) }

module _ (setting : Setting) (functions : List TypedFunction) where
  again_still : (fuel : ℕ) → Agains Still (again_within setting functions fuel) (again_within setting functions fuel)
  again_still zero =
      record {
        turns = λ function it. record { go = λ s t is. λ misuse. misuse };
        calls = λ place at a b is. record { go = λ s t is. λ misuse. misuse };
      }
  again_still (suc fuel) =
      record {
        turns = λ function it. thens turn_still (λ m n so.
            statements.next_turn_follows Still setting (leaves setting) (again_within setting functions fuel)
            (again_within setting functions fuel) (again_still fuel) function it);
        calls = λ place at a b is. thens turn_still (λ m n so.
            calls.called_follows Still setting (leaves setting) (again_within setting functions fuel)
            (again_within setting functions fuel) (again_still fuel) at a b (slice_get functions place) is);
      }

  -- the run of functions in a setting, beside itself
  pub ran_still_in : (main fuel : ℕ) (input : Input) (turns : ℕ)
      → Alike Still Same (ran_in setting functions main fuel input [] turns) (ran_in setting functions main fuel input [] turns)
  ran_still_in main fuel input turns =
      (calls.main_follows Still setting (leaves setting) (again_within setting functions fuel) (again_within setting functions fuel)
      (again_still fuel) (slice_get functions main)).go (starting setting input [] turns) (starting setting input [] turns)
      (refl, starting_is_still setting input, refl)

no_misuse_in : (r r' : Ran ℤ) → Alike Still Same r r' → ¬ (IsMisuse (ending_of r).outcome)
no_misuse_in (went a s) (went b t) is = λ misuse. misuse
no_misuse_in (went a s) (over outcome t) is = absurd is
no_misuse_in (over outcome s) r is = is

-- ---- the laws

-- a run on the heap that never moves is never a misuse
pub still_runs_are_no_misuse : (program : TypedProgram) (input : Input) (turns : ℕ) → ¬ (IsMisuse (still_run program input turns).outcome)
still_runs_are_no_misuse program input turns =
    no_misuse_in (ran_within (suc turns) program input [] turns) (ran_within (suc turns) program input [] turns)
    (ran_still_in (setting_of program) program.functions program.main (suc turns) input turns)

-- a program without a routine that moves or purges is safe
pub safe_without_movers : (program : TypedProgram) → HasNoMovers program → IsSafe program
safe_without_movers program none input schedule turns = (
  movers_alone_see_schedules program input schedule turns none,
  subst (λ ending. ¬ (IsMisuse ending.outcome)) (sym (movers_alone_see_schedules program input schedule turns none))
      (still_runs_are_no_misuse program input turns),
)
