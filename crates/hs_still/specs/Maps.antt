-- Steps of a run, from a state and from the still state.
--     MapsAt f step still s       from the still state the one comes to the still image of what the other comes to
--     thens, gives, over_maps     one after the other; a step that does nothing; the end of the run
--     act_maps, turn_maps, decides, used_maps, variable_maps, address_maps
use Rattle.std.proofs.Common.{◌≡◌, ℕ, zero, suc, Bool, true, false, ◌||◌, Option, Some, None, option_map, refl, sym, ap, ◌∙◌}
use Rattle.hs_base.specs.declared.pos.Pos.{Pos}
use Rattle.hs_heap.specs.Shift.{Powers}
use Rattle.hs_meaning.specs.Accesses.{by_stop}
use Rattle.hs_meaning.specs.Evaluation.{Location, in_slot, at_address, located, variable_at, address_of, decided_by, powers_of}
use Rattle.hs_meaning.specs.Laws.Schedules.{decision_stays}
use Rattle.hs_meaning.specs.Machine.{Machine, Binding, slot, object_at, Done, done, stopped, binding_of}
use Rattle.hs_meaning.specs.Steps.{State as RunState, Ran, went, over, Step, ◌>>=◌, then_with, give, ends, acts, ran_at, either, decided, after_decision, number_used, used, turn, turn_from}
use Rattle.hs_meaning.specs.Values.{Value, bits_in, number_stop}
use Rattle.hs_meaning.specs.declared.outcome.Outcome.{Outcome}
use Rattle.hs_meaning.specs.declared.outcome.Stop.{Stop}
use Rattle.hs_still.specs.Cells.{bits_still, number_stop_still}
use Rattle.hs_still.specs.Frames.{same_unit}
use Rattle.hs_still.specs.Machines.{still_value, still_binding, still_machine, still_state, still_location, still_done, still_ran}
use Rattle.hs_still.specs.Operations.{binding_still}
use Rattle.hs_still.specs.Shifts.{decided_still}
use Rattle.hs_tree.specs.declared.function.BoundRoutine.{BoundRoutine}
use Rattle.hs_tree.specs.declared.head.Variable.{Variable}

-- from the still state the one step comes to the still image of what the other comes to
pub record MapsAt {A : Type 0} (f : A → A) (step still : Step A) (s : RunState) : Type 0 where
  pub is : still (still_state s) ≡ still_ran f (step s)

then_still : {A B : Type 0} → (f : A → A) (g : B → B) (ran : Ran A) (next still : A → Step B)
    → ((it : A) (t : RunState) → MapsAt g (next it) (still (f it)) t) → then_with still (still_ran f ran) ≡ still_ran g (then_with next ran)
then_still f g (went it s) next still each = (each it s).is
then_still f g (over outcome s) next still each = refl

-- one after the other
pub thens : {A B : Type 0} → (f : A → A) (g : B → B) (s : RunState) → {first other : Step A} → {next : A → Step B}
    → (still : A → Step B) → MapsAt f first other s
    → ((it : A) (t : RunState) → MapsAt g (next it) (still (f it)) t) → MapsAt g (first >>= next) (other >>= still) s
thens f g s {first = first} {next = next} still maps each =
    record { is = ap (then_with still) maps.is ∙ then_still f g (first s) next still each }

-- a step that does nothing
pub gives : {A : Type 0} → (f : A → A) (it its : A) (s : RunState) → its ≡ f it → MapsAt f (give it) (give its) s
gives f it its s same = record { is = ap (λ x. went x (still_state s)) same }

-- the end of the run
pub over_maps : {A : Type 0} → (f : A → A) (s : RunState) → {outcome : Outcome} → MapsAt f (ends outcome) (ends outcome) s
over_maps f s = record { is = refl }

ran_still : {A : Type 0} → (f : A → A) (at : Pos) (s : RunState) (its : Done A)
    → ran_at at (still_state s) (still_done f its) ≡ still_ran f (ran_at at s its)
ran_still f at s (done it machine) = refl
ran_still f at s (stopped why machine) = refl

-- what the machine does
pub act_maps : {A : Type 0} → (f : A → A) (at : Pos) (act still : Machine → Done A) (s : RunState)
    → still (still_machine s.machine) ≡ still_done f (act s.machine) → MapsAt f (acts at act) (acts at still) s
act_maps f at act still s same = record { is = ap (ran_at at (still_state s)) same ∙ ran_still f at s (act s.machine) }

-- one turn
pub turn_maps : (s : RunState) → MapsAt same_unit turn turn s
turn_maps s = record { is = by_turns s.turns }
  where
    by_turns : (left : ℕ) → turn_from left (still_state s) ≡ still_ran same_unit (turn_from left s)
    by_turns zero = refl
    by_turns (suc left) = refl

-- past the end of the schedule nothing moves
stays : (powers : Powers) (s : RunState) → after_decision powers (still_state s) ≡ still_state s
stays powers s = ap (λ machine. record (still_state s) { machine = machine }) (decision_stays powers (still_state s) tt)

decided_maps : (powers : Powers) (b : Bool) (s : RunState) → MapsAt same_unit (either b (decided powers) (give tt)) (either b (decided powers) (give tt)) s
decided_maps powers true s = record { is = ap (went tt) (stays powers s ∙ sym (decided_still powers s)) }
decided_maps powers false s = record { is = refl }

-- a decision of the schedule
pub decides : (it : Option BoundRoutine) (s : RunState) → MapsAt same_unit (decided_by it) (decided_by it) s
decides None s = record { is = refl }
decides (Some it) s = decided_maps (powers_of it) (it.routine.moves || it.routine.purges) s

-- a value that is used as a number
pub used_maps : (at : Pos) (value : Value) (s : RunState) → MapsAt (λ bits. bits) (used at value) (used at (still_value value)) s
used_maps at value s = act_maps (λ bits. bits) at (number_used value) (number_used (still_value value)) s same
  where
    by_number : (why : Option Stop) (bits : ℕ)
        → by_stop why bits (still_machine s.machine) (still_machine s.machine) ≡ still_done (λ n. n) (by_stop why bits s.machine s.machine)
    by_number None bits = refl
    by_number (Some why) bits = refl

    same : number_used (still_value value) (still_machine s.machine) ≡ still_done (λ n. n) (number_used value s.machine)
    same =
        ap (λ why. by_stop why (bits_in (still_value value)) (still_machine s.machine) (still_machine s.machine)) (number_stop_still value)
        ∙ ap (λ bits. by_stop (number_stop value) bits (still_machine s.machine) (still_machine s.machine)) (bits_still value)
        ∙ by_number (number_stop value) (bits_in value)

located_still : (name : Variable) (b : Option Binding) (machine : Machine)
    → located name (option_map still_binding b) (still_machine machine) ≡ still_done still_location (located name b machine)
located_still name None machine = refl
located_still name (Some (slot value)) machine = refl
located_still name (Some (object_at place)) machine = refl

-- where a variable is
pub variable_maps : (at : Pos) (name : Variable) (s : RunState) → MapsAt still_location (acts at (variable_at name)) (acts at (variable_at name)) s
variable_maps at name s =
    act_maps still_location at (variable_at name) (variable_at name) s
    (ap (λ b. located name b (still_machine s.machine)) (binding_still name s.machine) ∙ located_still name (binding_of name s.machine) s.machine)

address_of_still : (place : Location) (machine : Machine)
    → address_of (still_location place) (still_machine machine) ≡ still_done still_value (address_of place machine)
address_of_still (in_slot name) machine = refl
address_of_still (at_address its) machine = refl

-- its address
pub address_maps : (at : Pos) (place : Location) (s : RunState)
    → MapsAt still_value (acts at (address_of place)) (acts at (address_of (still_location place))) s
address_maps at place s = act_maps still_value at (address_of place) (address_of (still_location place)) s (address_of_still place s.machine)
