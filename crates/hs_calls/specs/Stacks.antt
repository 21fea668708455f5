-- What holds of each call of a run, and the rule by which a step keeps it (own).
--     RanTo E Q ran                 Q of what a step gives and of the state then, or E of how it ends the run
--     Stack here machine ws         P of the call that goes on, and of each one that waits, as of its call
--     Rules                         what P owes: an operation of the function, the begin of a call, a return
--     steps                         the rule: a step leads from calls of which P holds to calls of which it holds
-- `P here machine ws` speaks of one call: of its point, of the machine, and of the calls that wait below it. No step touches a call that waits, but for
-- a return; so what held of it when it called is all that the rule carries.
use Rattle.std.proofs.Common.{◌≡◌, ◌⊎◌, inl, inr, ℕ, zero, suc, Bool, true, false, List, [], ◌∷◌, slice_get, Option, Some, None, refl, sym, subst}
use Rattle.hs_calls.specs.Calls.{Here, Wait, IsWait, point_of, moved, lasts_to, beginning, resumed}
use Rattle.hs_code.specs.declared.function_code.Placed.{Placed}
use Rattle.hs_code.specs.declared.op.Op.{Op}
use Rattle.hs_code.specs.declared.op.Op.TheVariants as op
use Rattle.hs_code_run.specs.Codes.{CodeFunction, CodeProgram, Point}
use Rattle.hs_code_run.specs.Steps.{stepped, stepped_at, by_stack, function_called, taken}
use Rattle.hs_meaning.specs.Frames.{opened, closed}
use Rattle.hs_meaning.specs.Machine.{Machine}
use Rattle.hs_meaning.specs.Numbers.{signed}
use Rattle.hs_meaning.specs.Steps.{State, Ran, went, over, Step, then_with, acts, used, ends}
use Rattle.hs_meaning.specs.Values.{Value}
use Rattle.hs_meaning.specs.declared.outcome.Outcome.{Outcome}
use Rattle.hs_meaning.specs.declared.outcome.Outcome.TheVariants.{Finished}

-- ---- where a step has come to

abbrev pub RanTo : {A : Type 0} → (Outcome → State → Type 0) → (A → State → Type 0) → Ran A → Type 0
RanTo E Q (went it s) = Q it s
RanTo E Q (over outcome s) = E outcome s

-- one step after another
pub then_to : {A B : Type 0} → (E : Outcome → State → Type 0) (Q : A → State → Type 0) (Q' : B → State → Type 0) (next : A → Step B) (r : Ran A)
    → RanTo E Q r → ((it : A) (t : State) → Q it t → RanTo E Q' (next it t)) → RanTo E Q' (then_with next r)
then_to E Q Q' next (went it s) is each = each it s is
then_to E Q Q' next (over outcome s) is each = is

-- ---- the rule

-- neither a call nor a return
abbrev pub is_inside : Op → Bool
is_inside (op.Call fn) = false
is_inside op.Return = false
is_inside its = true

module _ (program : CodeProgram) (P : Here → Machine → List Wait → Type 0) (E : Outcome → State → Type 0) where
  -- P of the call that goes on, and of each one that waits, as of its call
  abbrev pub Stack : Here → Machine → List Wait → Type 0
  Stack here machine [] = P here machine []
  Stack here machine (w ∷ ws) = P here machine (w ∷ ws) × IsWait program w × Stack w.here w.machine ws

  -- the call goes on from that machine
  abbrev pub Stays : Here → Machine → List Wait → Point → State → Type 0
  Stays here before ws next t =
      (at : ℕ) × (stack : List Value) × (choices : List Bool) × (next ≡ point_of (moved here at stack (lasts_to here before t.machine)) ws choices)
      × P (moved here at stack (lasts_to here before t.machine)) t.machine ws

  -- what P owes
  pub record Rules : Type 0 where
    -- an operation of the function
    pub within : (here : Here) (ws : List Wait) (choices : List Bool) (its : Placed) (s : State) → slice_get here.function.code.ops here.at ≡ Some its
        → is_inside its.op ≡ true → Stack here s.machine ws
        → RanTo E (Stays here s.machine ws) (by_stack program its.at (point_of here ws choices) its.op here.stack s)
    -- the begin of a call
    pub entered : (here : Here) (ws : List Wait) (its : Placed) (fn : ℕ) (function : CodeFunction) (s : State)
        → IsWait program (record { here = here; machine = s.machine; called = fn; callee = function }) → Stack here s.machine ws
        → RanTo E (λ it t. P (beginning fn function s.machine) t.machine (record { here = here; machine = s.machine; called = fn; callee = function } ∷ ws))
        (acts its.at (opened program.setting function.parameters function.variables (taken function.parameters here.stack)) s)
    -- a return to a call that waits
    pub returned : (here : Here) (w : Wait) (ws : List Wait) (its : Placed) (value : Value) (rest : List Value) (machine : Machine)
        → slice_get here.function.code.ops here.at ≡ Some its → its.op ≡ op.Return → here.stack ≡ value ∷ rest
        → Stack here machine (w ∷ ws) → P (resumed w value here.lasting) (closed w.machine.locals machine) ws
    -- the run may end anywhere
    pub ends : (outcome : Outcome) (s : State) → E outcome s

  -- a point whose calls are so
  abbrev pub Goes : Point → State → Type 0
  Goes next t = (here : Here) × (ws : List Wait) × (choices : List Bool) × (next ≡ point_of here ws choices) × Stack here t.machine ws

  -- ---- its parts

  -- only the call that goes on is another
  restack : (here new : Here) (machine after : Machine) (ws : List Wait) → Stack here machine ws → P new after ws → Stack new after ws
  restack here new machine after [] stack is = is
  restack here new machine after (w ∷ ws) stack is = (is, stack.1, stack.2)

  stays_goes : (here : Here) (ws : List Wait) (machine : Machine) (r : Ran Point) → Stack here machine ws → RanTo E (Stays here machine ws) r
      → RanTo E Goes r
  stays_goes here ws machine (went next t) stack is = (
    moved here is.0 is.1 (lasts_to here machine t.machine),
    ws,
    is.2,
    is.3,
    restack here (moved here is.0 is.1 (lasts_to here machine t.machine)) machine t.machine ws stack is.4,
  )
  stays_goes here ws machine (over outcome t) stack is = is

  outside : (its : Op) → is_inside its ≡ false → ((fn : ℕ) × (its ≡ op.Call fn)) ⊎ (its ≡ op.Return)
  outside (op.Call fn) is = inl (fn, refl)
  outside op.Return is = inr refl
  outside its is = absurd cc

  module _ (rules : Rules) where
    -- the begin of a call, which takes a turn
    call_goes : (here : Here) (ws : List Wait) (choices : List Bool) (its : Placed) (fn : ℕ) (function : Option CodeFunction) (s : State) (turns : ℕ)
        → slice_get here.function.code.ops here.at ≡ Some its → its.op ≡ op.Call fn → slice_get program.functions fn ≡ function
        → Stack here s.machine ws
        → RanTo E Goes (function_called program its.at (point_of here ws choices) function (record s { turns = turns }))
    call_goes here ws choices its fn None s turns there is found stack = rules.ends _ _
    call_goes here ws choices its fn (Some function) s zero there is found stack = rules.ends _ _
    call_goes here ws choices its fn (Some function) s (suc left) there is found stack =
        then_to E (λ it t. P (beginning fn function s.machine) t.machine (w ∷ ws)) Goes
        (λ it t. went (point_of (beginning fn function s.machine) (w ∷ ws) choices) t)
        (acts its.at (opened program.setting function.parameters function.variables (taken function.parameters here.stack)) (record s { turns = left }))
        (rules.entered here ws its fn function (record s { turns = left }) waits stack)
        (λ it t is. (beginning fn function s.machine, w ∷ ws, choices, refl, (is, waits, stack)))
      where
        w : Wait
        w = record { here = here; machine = s.machine; called = fn; callee = function }

        waits : IsWait program w
        waits = record { its = its; there = there; calls = is; callee = found }

    -- a return: to a call that waits, or from `main`
    return_goes : (here : Here) (ws : List Wait) (choices : List Bool) (its : Placed) (values : List Value) (s : State)
        → slice_get here.function.code.ops here.at ≡ Some its → its.op ≡ op.Return → here.stack ≡ values → Stack here s.machine ws
        → RanTo E Goes (by_stack program its.at (point_of here ws choices) op.Return values s)
    return_goes here ws choices its [] s there is so stack = rules.ends _ _
    return_goes here [] choices its (value ∷ rest) s there is so stack =
        then_to E (λ it t. Unit {0}) Goes (λ bits. ends (Finished (signed bits)))
        (used its.at value (record s { machine = closed [] s.machine })) (any (used its.at value (record s { machine = closed [] s.machine })))
        (λ bits t is. rules.ends _ _)
      where
        any : {A : Type 0} → (r : Ran A) → RanTo E (λ it t. Unit {0}) r
        any (went it t) = tt
        any (over outcome t) = rules.ends outcome t
    return_goes here (w ∷ ws) choices its (value ∷ rest) s there is so stack = (
      resumed w value here.lasting,
      ws,
      choices,
      refl,
      restack w.here (resumed w value here.lasting) w.machine (closed w.machine.locals s.machine) ws stack.2
          (rules.returned here w ws its value rest s.machine there is so stack),
    )

    placed_goes : (here : Here) (ws : List Wait) (choices : List Bool) (its : Placed) (s : State) (z : Bool)
        → slice_get here.function.code.ops here.at ≡ Some its → is_inside its.op ≡ z → Stack here s.machine ws
        → RanTo E Goes (by_stack program its.at (point_of here ws choices) its.op here.stack s)
    placed_goes here ws choices its s true there is stack =
        stays_goes here ws s.machine (by_stack program its.at (point_of here ws choices) its.op here.stack s) stack
        (rules.within here ws choices its s there is stack)
    placed_goes here ws choices its s false there is stack = by_form (outside its.op is)
      where
        by_form : ((fn : ℕ) × (its.op ≡ op.Call fn)) ⊎ (its.op ≡ op.Return)
            → RanTo E Goes (by_stack program its.at (point_of here ws choices) its.op here.stack s)
        by_form (inl call) =
            subst (λ o. RanTo E Goes (by_stack program its.at (point_of here ws choices) o here.stack s)) (sym call.1)
            (call_goes here ws choices its call.0 (slice_get program.functions call.0) s s.turns there call.1 refl stack)
        by_form (inr so) =
            subst (λ o. RanTo E Goes (by_stack program its.at (point_of here ws choices) o here.stack s)) (sym so)
            (return_goes here ws choices its here.stack s there so refl stack)

    -- A step leads from calls of which P holds to calls of which it holds.
    pub steps : (here : Here) (ws : List Wait) (choices : List Bool) (s : State) → Stack here s.machine ws
        → RanTo E Goes (stepped program (point_of here ws choices) s)
    steps here ws choices s stack = by_place (slice_get here.function.code.ops here.at) refl
      where
        by_place : (its : Option Placed) → slice_get here.function.code.ops here.at ≡ its
            → RanTo E Goes (stepped_at program (point_of here ws choices) its s)
        by_place None there = rules.ends _ _
        by_place (Some its) there = placed_goes here ws choices its s (is_inside its.op) there refl stack
