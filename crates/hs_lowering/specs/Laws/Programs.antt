-- The code of a program runs as the program does (own).
--     starts_as_declared         the variables of the program, before the first step
--     runs_the_same              for every input, schedule and number of turns, the code run without choices is the run
--     fits_all                   a typed program meets what is asked: its calls have as many arguments as there are parameters
use Rattle.std.proofs.Common.{◌≡◌, ◌≤◌, ℤ, ℕ, zero, suc, Bool, true, false, List, [], ◌∷◌, length, slice_get, Some, None, refl, sym, ap, ◌∙◌, subst, arith, if◌then◌else◌}
use Rattle.hs_code_run.specs.Codes.{Point, function_with, functions_with}
use Rattle.hs_code_run.specs.Runs.{ComesFrom, ComesWith, CodeRun, begun}
use Rattle.hs_heap.specs.declared.decision.Decision.{Decision}
use Rattle.hs_lowering.specs.Laws.Flows.{goes_by, LeadsTo}
use Rattle.hs_lowering.specs.Laws.Frames.{bindings_as_declared, Opens, opened_keeps}
use Rattle.hs_lowering.specs.Laws.Jobs.{program_code, code_of, jobs_within, FitsAll, IsReturned, is_returned, body_performs, all_jobs}
use Rattle.hs_lowering.specs.Laws.Statements.{bare}
use Rattle.hs_lowering.specs.Laws.Variables.{is_slot_at, is_slot_binding, bare_slot}
use Rattle.hs_lowering.specs.Performing.{IsAt}
use Rattle.hs_lowering.specs.Statements.{nowhere, function_code, as_code, functions_code}
use Rattle.hs_meaning.specs.Classes.{is_slot_declared}
use Rattle.hs_meaning.specs.Evaluation.{Flow, onward, breaks, continues, returned}
use Rattle.hs_meaning.specs.Frames.{opened, closed}
use Rattle.hs_meaning.specs.Machine.{Machine, slot, object_at, Done, done, stopped, binding_of}
use Rattle.hs_meaning.specs.Numbers.{signed}
use Rattle.hs_meaning.specs.Objects.{bindings, starting_bindings}
use Rattle.hs_meaning.specs.Runs.{closes, called, finished, starting, ran, Ending, ending_of, run}
use Rattle.hs_meaning.specs.Settings.{Setting, setting_of}
use Rattle.hs_meaning.specs.Statements.{body_of, opening_of}
use Rattle.hs_meaning.specs.Steps.{State, Ran, went, over, Step, ◌>>=◌, ◌>>◌, then_with, give, ends, ran_at, acts, used}
use Rattle.hs_meaning.specs.declared.input.Input.{Input}
use Rattle.hs_meaning.specs.declared.outcome.Outcome.TheVariants.{Finished}
use Rattle.hs_tree.specs.Classes.{is_slot}
use Rattle.hs_tree.specs.Fitting.{variable_of_global}
use Rattle.hs_tree.specs.Trees.{TypedFunction, TypedProgram}
use Rattle.hs_tree.specs.declared.globals.Global.{Global}
use Rattle.hs_tree.specs.declared.head.Variable.{Variable}
use Rattle.hs_tree.specs.declared.head.Variable.TheVariants as name

-- ---- before the first step

-- a variable of the program is a slot if it is declared so
pub starts_as_declared : (setting : Setting) (next : ℕ) (globals : List Global) (place : ℕ)
    → is_slot_binding (slice_get (starting_bindings setting next globals) place)
    ≡ is_slot_declared setting.types (variable_of_global (slice_get globals place))
starts_as_declared setting next [] place = refl
starts_as_declared setting next (it ∷ rest) place =
    by (is_slot setting.types it.variable) refl place (λ n at. starts_as_declared setting n rest at)
  where
    by : (b : Bool) → is_slot setting.types it.variable ≡ b → (place : ℕ)
        → ((n at : ℕ) → is_slot_binding (slice_get (starting_bindings setting n rest) at)
        ≡ is_slot_declared setting.types (variable_of_global (slice_get rest at)))
        → is_slot_binding (slice_get (if b
        then slot (Some (Rattle.hs_meaning.specs.Objects.starting_value setting it.variable.type_id it.parts)) ∷ starting_bindings setting next rest
        else object_at next ∷ starting_bindings setting (suc next) rest) place)
        ≡ is_slot_declared setting.types (variable_of_global (slice_get (it ∷ rest) place))
    by true is zero others = sym is
    by true is (suc at) others = others next at
    by false is zero others = sym is
    by false is (suc at) others = others (suc next) at

-- by its place, a function and its code
pub coded : (setting : Setting) (functions : List TypedFunction) (place : ℕ) (function : TypedFunction) → slice_get functions place ≡ Some function
    → slice_get (functions_with functions (functions_code setting functions)) place ≡ Some (function_with function (as_code (function_code setting function)))
coded setting [] place function is = absurd (never is)
  where
    never : None ≡ Some function → ⊥
    never so = cc
coded setting (first ∷ rest) zero function is = ap (λ f. Some (function_with f (as_code (function_code setting f)))) (same first function is)
  where
    same : (a b : TypedFunction) → Some a ≡ Some b → a ≡ b
    same a b so = cc
coded setting (first ∷ rest) (suc place) function is = coded setting rest place function is

module _ (typed : TypedProgram) (fits : FitsAll typed) (function : TypedFunction) (there : slice_get typed.functions typed.main ≡ Some function)
    (input : Input) (schedule : List Decision) (turns : ℕ) where
  begins : State
  begins = starting (setting_of typed) input schedule turns

  after_open : Machine → State
  unfolding begins
  after_open machine = record begins { machine = machine }

  main_at : Point
  main_at = bare function (program_code typed) turns (code_of typed function) [] [] 0

  -- what the code run comes to from the start of `main`
  RunsTo : Ran Point → Ran ℤ → Type 0
  RunsTo from r =
      (after : State) × ComesFrom (program_code typed) from (ending_of r).outcome after × (after.machine.output ≡ (ending_of r).output)

  -- ---- the variables of `main`

  few_turns : turns ≤ turns
  few_turns = omega arith

  main_is : (machine : Machine) → Opens (setting_of typed) function.variables begins.machine (done tt machine)
      → IsAt (program_code typed) function.variables turns (after_open machine)
  unfolding begins after_open
  main_is machine opens = record { slots = by; few = few_turns }
    where
      by : (variable : Variable) → is_slot_at variable machine
          ≡ is_slot_declared (setting_of typed).types
          (Rattle.hs_lowering.specs.Lowering.declared_in (setting_of typed) function.variables variable)
      by (name.Global n) =
          sym (bare_slot (binding_of (name.Global n) machine)) ∙ ap is_slot_binding (opens.0 n)
          ∙ bare_slot (slice_get (starting_bindings (setting_of typed) 0 (setting_of typed).globals) n)
          ∙ starts_as_declared (setting_of typed) 0 (setting_of typed).globals n
      by (name.Local n) =
          sym (bare_slot (binding_of (name.Local n) machine)) ∙ ap is_slot_binding (opens.1 n)
          ∙ bare_slot (slice_get (bindings (setting_of typed).types (length (starting (setting_of typed) input schedule turns).machine.objects)
          function.variables) n)
          ∙ bindings_as_declared (setting_of typed).types (length (starting (setting_of typed) input schedule turns).machine.objects) function.variables n

  -- ---- the end of `main`

  closing_step : Flow → Step Flow
  closing_step flow = acts (opening_of function.body) (closes []) >> give flow

  -- what is returned to no caller is the result of the run
  from_value : (r : Ran ℕ) → RunsTo (then_with (λ bits. ends (Finished (signed bits))) r) (then_with (λ bits. give (signed bits)) r)
  unfolding RunsTo
  from_value (went bits t) = (t, (refl, refl), refl)
  from_value (over outcome t) = (t, (refl, refl), refl)

  from_body : (machine : Machine) (r : Ran Flow) → IsReturned typed r
      → LeadsTo (program_code typed) function.variables turns (code_of typed function) [] []
      (goes_by (program_code typed) function.variables turns (code_of typed function) [] [] nowhere 0) main_at (after_open machine) r
      → RunsTo (went main_at (after_open machine)) (then_with finished (then_with closing_step r))
  unfolding RunsTo closing_step main_at
  from_body machine (went onward t) returns is = absurd returns
  from_body machine (went breaks t) returns is = absurd returns
  from_body machine (went continues t) returns is = absurd returns
  from_body machine (went (returned value pos_) t) returns is = with_value (from_value (used pos_ value (record t { machine = closed [] t.machine })))
    where
      with_value : RunsTo (then_with (λ bits. ends (Finished (signed bits))) (used pos_ value (record t { machine = closed [] t.machine })))
          (then_with (λ bits. give (signed bits)) (used pos_ value (record t { machine = closed [] t.machine })))
          → RunsTo (went main_at (after_open machine))
          (then_with (λ bits. give (signed bits)) (used pos_ value (record t { machine = closed [] t.machine })))
      with_value so = (so.0, is.1 _ so.0 so.1, so.2)
  from_body machine (over outcome end_) returns is = (end_, is, refl)

  from_open : (its : Done (Unit {0})) → Opens (setting_of typed) function.variables begins.machine its
      → RunsTo (then_with (λ it. give main_at) (ran_at (opening_of function.body) begins its))
      (then_with finished (then_with (λ it. body_of (setting_of typed) (jobs_within typed (suc turns)) function >>= closing_step)
      (ran_at (opening_of function.body) begins its)))
  unfolding RunsTo begins after_open main_at
  from_open (done it machine) opens =
      from_body machine (body_of (setting_of typed) (jobs_within typed (suc turns)) function (after_open machine))
      (is_returned typed function (jobs_within typed (suc turns)) (after_open machine))
      ((body_performs typed function turns [] [] (jobs_within typed (suc turns))
      ((all_jobs typed fits turns).calls function.variables (code_of typed function) [] []) ((all_jobs typed fits turns).loops function
      (code_of typed function) [] []) (fits typed.main function there)).go (after_open machine) (main_is machine opens))
  from_open (stopped why machine) opens = (after_open machine, (refl, refl), refl)

  -- ---- the run

  whole : RunsTo (begun (program_code typed) [] (function_with function (code_of typed function)) begins) (ran typed input schedule turns)
  unfolding RunsTo begins closing_step main_at
  whole =
      subst (λ one. RunsTo (begun (program_code typed) [] (function_with function (code_of typed function)) begins)
      (Rattle.hs_meaning.specs.Runs.main_called (setting_of typed) (jobs_within typed (suc turns)) one begins)) (sym there)
      (from_open (opened (setting_of typed) function.parameters function.variables [] begins.machine)
      (opened_keeps (setting_of typed) function.parameters function.variables [] begins.machine))

  -- the code run without choices ends as the run does
  pub runs_the_same : CodeRun (program_code typed) input schedule [] turns (run typed input schedule turns)
  unfolding RunsTo begins
  runs_the_same =
      record {
        after = whole.0;
        comes =
            subst (λ one. ComesWith (program_code typed) input schedule [] turns one (run typed input schedule turns).outcome whole.0)
            (sym (coded (setting_of typed) typed.functions typed.main function there)) whole.1;
        output = whole.2;
      }
