-- Jobs: turns of loops and calls of functions, each with one turn less inside it (own).
--     Jobs typed bound          the code of a program performs all jobs, if no more turns are left than that
--     all_jobs                  it does, for every number of turns
--     body_performs             so it does what the body of each function means
use Rattle.std.proofs.Common.{◌≡◌, ◌≤◌, ℕ, zero, suc, Bool, List, [], ◌∷◌, slice_get, Some, None, refl, sym, ap, ◌∙◌, subst, arith}
use Rattle.hs_code.specs.declared.function_code.Case.{Case}
use Rattle.hs_code.specs.declared.function_code.FunctionCode.{FunctionCode}
use Rattle.hs_code.specs.declared.function_code.Placed.{Placed}
use Rattle.hs_code.specs.declared.op.Op.TheVariants as op
use Rattle.hs_code_run.specs.Codes.{CodeFunction, CodeProgram, Waiting, Point, function_with, functions_with}
use Rattle.hs_code_run.specs.Runs.{Comes, halted, onward as goes_onward}
use Rattle.hs_code_run.specs.Steps.{stepped, stepped_at, function_called, taken, below, entered, returned_to}
use Rattle.hs_lowering.specs.Exact.{program_code as of_program}
use Rattle.hs_lowering.specs.Laws.Calls.{onto, AreAsMany, Calls, as_many_below, as_many_taken}
use Rattle.hs_lowering.specs.Laws.Flows.{goes_by, LeadsTo, PerformsTo, follows_to, silent, same_to, jump_steps, thens_to}
use Rattle.hs_lowering.specs.Laws.Frames.{bindings_as_declared, Opens, opened_keeps, closed_globals}
use Rattle.hs_lowering.specs.Laws.Lengths.{past, same_statement, same_block, piece_same}
use Rattle.hs_lowering.specs.Laws.Loops.{while_turn, while_back, while_targets, WhileStands, while_stands, do_test, do_back, do_targets, DoStands, do_stands, for_turn, for_step, for_back, for_targets, ForStands, for_stands}
use Rattle.hs_lowering.specs.Laws.Placing.{CasesFrom, Held, held_front, held_back}
use Rattle.hs_lowering.specs.Laws.Statements.{FitsStatement, FitsBlock, IsLoop, bare, Doing, code_for, turn_at, Loops, ends_at, by_mark, statement_does, block_does, while_does, do_does, for_does, at_picked, turns_does, guard_performs, part_turns, return_does}
use Rattle.hs_lowering.specs.Laws.Variables.{is_slot_at, is_slot_binding, bare_slot}
use Rattle.hs_lowering.specs.Lowering.{after}
use Rattle.hs_lowering.specs.Performing.{Any, IsAt, Leads, Performs, Holds, at_point}
use Rattle.hs_lowering.specs.Statements.{Written, Part, ◌then◌, Counts, Targets, nowhere, one_piece, piece_for, after_statement, return_code, statement_code, block_code, body_counts, end_at, function_code, as_code, functions_code, ForPieces}
use Rattle.hs_meaning.specs.Classes.{is_slot_declared}
use Rattle.hs_meaning.specs.Evaluation.{Flow, onward, breaks, continues, returned, Job, turn_of, call_of, returned_value, value_of}
use Rattle.hs_meaning.specs.Frames.{opened, closed}
use Rattle.hs_meaning.specs.Machine.{Machine, Binding, Done, done, stopped, binding_of}
use Rattle.hs_meaning.specs.Objects.{bindings}
use Rattle.hs_meaning.specs.Runs.{own_locals, closes, called, again_within}
use Rattle.hs_meaning.specs.Settings.{Setting, setting_of}
use Rattle.hs_meaning.specs.Statements as meaning
use Rattle.hs_meaning.specs.Statements.{after_turn, executed, executed_block, evaluated, tested, turns_if, next_turn, ended_at, body_of, closing_of}
use Rattle.hs_meaning.specs.Steps.{State, Ran, went, over, Step, ◌>>=◌, ◌>>◌, then_with, give, ran_at, acts, condition, turn, turn_from}
use Rattle.hs_meaning.specs.Values.{Value}
use Rattle.hs_meaning.specs.declared.outcome.Outcome.{Outcome}
use Rattle.hs_meaning.specs.declared.outcome.Outcome.TheVariants.{Stopped, TurnsSpent}
use Rattle.hs_tokens.specs.declared.token.Origin.TheVariants as origin
use Rattle.hs_tree.specs.Trees as tree
use Rattle.hs_tree.specs.Trees.{RightValue, TypedStatement, TypedFunction, TypedProgram}
use Rattle.hs_tree.specs.declared.head.Variable.{Variable}
use Rattle.hs_tree.specs.declared.head.Variable.TheVariants as name
use Rattle.hs_tree.specs.declared.head.VariableDecl.{VariableDecl}

-- ---- a turn

module _ (program : CodeProgram) (variables : List VariableDecl) (code : FunctionCode) (waiting : List Waiting) (choices : List Bool) where
  -- the operation takes a turn, and goes on there
  abbrev TakesTurn : Point → Point → Type 0
  TakesTurn point next = (s : State) → stepped program point s ≡ then_with (λ it. give next) (turn_from s.turns s)

  spent : (goes : Flow → State → Outcome → State → Type 0) (bound : ℕ) (step : Step Flow) (point next : Point) → TakesTurn point next → (s : State)
      → s.turns ≡ 0 → LeadsTo program variables bound code waiting choices goes point s ((turn >> step) s)
  spent goes bound step point next takes s is =
      subst (λ n. LeadsTo program variables bound code waiting choices goes point s (then_with (λ it. step) (turn_from n s))) (sym is)
      (halted point s s TurnsSpent (takes s ∙ ap (λ n. then_with (λ it. give next) (turn_from n s)) is))

  -- no turn is left
  turned_none : {goes : Flow → State → Outcome → State → Type 0} → (step : Step Flow) (point next : Point) → TakesTurn point next
      → PerformsTo program variables 0 code waiting choices (turn >> step) point goes
  turned_none {goes = goes} step point next takes = record { go = λ s at. by s at s.turns refl }
    where
      by : (s : State) → IsAt program variables 0 s → (n : ℕ) → s.turns ≡ n
          → LeadsTo program variables 0 code waiting choices goes point s ((turn >> step) s)
      by s at zero is = spent goes 0 step point next takes s is
      by s at (suc left) is = absurd (never at.few is)
        where
          never : s.turns ≤ 0 → s.turns ≡ suc left → ⊥
          never few so = omega (arith, few, so)

  -- one is taken, and the rest is done with one less
  turned_more : {goes : Flow → State → Outcome → State → Type 0} → (bound : ℕ) (step : Step Flow) (point next : Point) → TakesTurn point next
      → PerformsTo program variables bound code waiting choices step next goes
      → PerformsTo program variables (suc bound) code waiting choices (turn >> step) point goes
  turned_more {goes = goes} bound step point next takes inner = record { go = λ s at. by s at s.turns refl }
    where
      few_left : (s : State) (left : ℕ) → s.turns ≤ suc bound → s.turns ≡ suc left → left ≤ bound
      few_left s left few so = omega (arith, few, so)

      more_is : (u : State) → u.turns ≤ bound → u.turns ≤ suc bound
      more_is u few = omega (arith, few)

      lift : (s t : State) → stepped program point s ≡ went next t → (r : Ran Flow) → LeadsTo program variables bound code waiting choices goes next t r
          → LeadsTo program variables (suc bound) code waiting choices goes point s r
      lift s t is (went flow u) so = (
        record { slots = so.0.slots; few = more_is u so.0.few },
        λ outcome end_ comes. goes_onward point next s t end_ outcome is (so.1 outcome end_ comes),
      )
      lift s t is (over outcome end_) so = goes_onward point next s t end_ outcome is so

      by : (s : State) → IsAt program variables (suc bound) s → (n : ℕ) → s.turns ≡ n
          → LeadsTo program variables (suc bound) code waiting choices goes point s ((turn >> step) s)
      by s at zero is = spent goes (suc bound) step point next takes s is
      by s at (suc left) is =
          subst (λ n. LeadsTo program variables (suc bound) code waiting choices goes point s (then_with (λ it. step) (turn_from n s))) (sym is)
          (lift s (record s { turns = left }) (takes s ∙ ap (λ n. then_with (λ it. give next) (turn_from n s)) is)
          (step (record s { turns = left }))
          (inner.go (record s { turns = left }) (record { slots = at.slots; few = few_left s left at.few is })))

-- ---- what follows a turn

module _ (function : TypedFunction) (program : CodeProgram) (bound : ℕ) (code : FunctionCode) (waiting : List Waiting) (choices : List Bool) where
  -- `continue` and the end of the body go on with the loop, and `break` leaves it
  behind_turn : {step : Step Flow} → {at : ℕ} → (next : Step Flow) (others targets : Targets) (mid end_ : ℕ)
      → Doing function program bound code waiting choices step at others mid
      → Doing function program bound code waiting choices next mid targets end_
      → Doing function program bound code waiting choices next others.continues targets end_
      → ((s after : State) (outcome : Outcome) → Comes program (bare function program bound code waiting choices end_) s outcome after
      → Comes program (bare function program bound code waiting choices others.breaks) s outcome after)
      → Doing function program bound code waiting choices (step >>= after_turn next) at targets end_
  behind_turn {at = at} next others targets mid end_ before onward_ continued leaves =
      follows_to program function.variables bound code waiting choices (after_turn next) before by
    where
      here : Point
      here = bare function program bound code waiting choices at

      carried : (from : ℕ) (s t : State)
          → ((outcome : Outcome) (last : State) → Comes program (bare function program bound code waiting choices from) t outcome last
          → Comes program here s outcome last) → (r : Ran Flow)
          → LeadsTo program function.variables bound code waiting choices
          (goes_by program function.variables bound code waiting choices targets end_) (bare function program bound code waiting choices from) t r
          → LeadsTo program function.variables bound code waiting choices
          (goes_by program function.variables bound code waiting choices targets end_) here s r
      carried from s t leads (went flow u) is = (is.0, λ outcome last comes. leads outcome last (is.1 outcome last comes))
      carried from s t leads (over outcome last) is = leads outcome last is

      by : (flow : Flow) (s t : State) → IsAt program function.variables bound t
          → ((outcome : Outcome) (last : State) → goes_by program function.variables bound code waiting choices others mid flow t outcome last
          → Comes program here s outcome last)
          → LeadsTo program function.variables bound code waiting choices
          (goes_by program function.variables bound code waiting choices targets end_) here s (after_turn next flow t)
      by onward s t is leads = carried mid s t leads (next t) (onward_.go t is)
      by breaks s t is leads = (is, λ outcome last comes. leads outcome last (leaves t last outcome comes))
      by continues s t is leads = carried others.continues s t leads (next t) (continued.go t is)
      by (returned value pos_) s t is leads = (is, leads)

  -- Turn stands in front of it
  turn_stands : (it : TypedStatement) (counts : Counts) (targets : Targets) (start : ℕ) → IsLoop it
      → Held code (code_for function program bound code waiting choices it counts targets start) counts.cases start → (s : State)
      → stepped program (bare function program bound code waiting choices (turn_at function program bound code waiting choices it counts start)) s
      ≡ then_with (λ u. give (bare function program bound code waiting choices
      (suc (turn_at function program bound code waiting choices it counts start)))) (turn_from s.turns s)
  turn_stands (tree.while_ at test body) counts targets start is held s =
      ap (λ found. stepped_at program (bare function program bound code waiting choices
      (turn_at function program bound code waiting choices (tree.while_ at test body) counts start)) found s)
      (while_stands program.setting function code counts.pieces (suc counts.pieces) (after_statement body (one_piece (one_piece counts))).pieces at.pos test
      (statement_code program.setting function body (one_piece (one_piece counts))) start counts.cases
      (λ a b. same_statement program.setting function body (one_piece (one_piece counts)) a b) held).turn
  turn_stands (tree.do_ at body test) counts targets start is held s =
      ap (λ found. stepped_at program (bare function program bound code waiting choices (suc start)) found s) held.ops.1.0
  turn_stands (tree.for_ at None test step body) counts targets start is held s =
      ap (λ found. stepped_at program (bare function program bound code waiting choices
      (turn_at function program bound code waiting choices (tree.for_ at None test step body) counts start)) found s)
      (for_stands program.setting function code
      (record {
        join = counts.pieces;
        test = suc counts.pieces;
        step = (piece_for test (one_piece counts)).pieces;
        end_ = (after_statement body (piece_for step (piece_for test (one_piece counts)))).pieces;
      })
      at.pos test step (statement_code program.setting function body (piece_for step (piece_for test (one_piece counts)))) start counts.cases
      (λ a b. same_statement program.setting function body (piece_for step (piece_for test (one_piece counts))) a b) held).turn
  turn_stands (tree.for_ at (Some e) test step body) counts targets start is held s = absurd is
  turn_stands (tree.block it) counts targets start is held s = absurd is
  turn_stands (tree.expression at e) counts targets start is held s = absurd is
  turn_stands (tree.empty at) counts targets start is held s = absurd is
  turn_stands (tree.if_ at test first) counts targets start is held s = absurd is
  turn_stands (tree.if_else at test first second) counts targets start is held s = absurd is
  turn_stands (tree.switch_ at e it) counts targets start is held s = absurd is
  turn_stands (tree.break_ at) counts targets start is held s = absurd is
  turn_stands (tree.continue_ at) counts targets start is held s = absurd is
  turn_stands (tree.return_ at e) counts targets start is held s = absurd is

  module _ (again : Job → Step Flow) (calls : Calls program function.variables bound code waiting choices again)
      (loops : Loops function program bound code waiting choices again) where
    -- the turn of a loop, and what follows it
    loop_does : (it : TypedStatement) (counts : Counts) (targets : Targets) (start : ℕ) → IsLoop it → FitsStatement program it
        → Held code (code_for function program bound code waiting choices it counts targets start) counts.cases start
        → Doing function program bound code waiting choices (next_turn program.setting again function it)
        (suc (turn_at function program bound code waiting choices it counts start)) targets
        (after start (code_for function program bound code waiting choices it counts targets start).ops)
    loop_does (tree.while_ at test body) counts targets start is fits held =
        behind_turn (executed program.setting again function (tree.while_ at test body)) others targets back _
        (ends_at function program bound code waiting choices others _ back stands.body_ends
        (statement_does function program bound code waiting choices again calls loops body within others (suc turn_) fits.1 stands.body_held))
        (silent program function.variables bound code waiting choices (bare function program bound code waiting choices back)
        (bare function program bound code waiting choices start)
        (jump_steps program function.variables bound code waiting choices back counts.pieces start at.pos stands.back) again_) again_
        (λ s last outcome comes. by_mark function program bound code waiting choices (suc back) _ at.pos stands.end_stands s last outcome
        (subst (λ n. Comes program (bare function program bound code waiting choices n) s outcome last) stands.ends comes))
      where
        within : Counts
        within = one_piece (one_piece counts)

        inner : Targets → Part
        inner = statement_code program.setting function body within

        turn_ : ℕ
        turn_ = while_turn program.setting function code counts.pieces (suc counts.pieces) (after_statement body within).pieces at.pos test inner start

        back : ℕ
        back = while_back program.setting function code counts.pieces (suc counts.pieces) (after_statement body within).pieces at.pos test inner start

        others : Targets
        others = while_targets program.setting function code counts.pieces (suc counts.pieces) (after_statement body within).pieces at.pos test inner start

        stands : WhileStands program.setting function code counts.pieces (suc counts.pieces) (after_statement body within).pieces at.pos test inner start
            counts.cases
        stands =
            while_stands program.setting function code counts.pieces (suc counts.pieces) (after_statement body within).pieces at.pos test inner start
            counts.cases (λ a b. same_statement program.setting function body within a b) held

        again_ : Doing function program bound code waiting choices (executed program.setting again function (tree.while_ at test body)) start targets
            (after start (code_for function program bound code waiting choices (tree.while_ at test body) counts targets start).ops)
        again_ = while_does function program bound code waiting choices again calls loops at test body counts targets start fits held
    loop_does (tree.do_ at body test) counts targets start is fits held =
        behind_turn
        (value_of program.setting again test >>= condition at.pos >>= turns_if program.setting again function (tree.do_ at body test)) others targets test_at
        _
        (ends_at function program bound code waiting choices others _ test_at stands.body_ends
        (statement_does function program bound code waiting choices again calls loops body within others (suc (suc start)) fits.1 stands.body_held))
        next next
        (λ s last outcome comes. by_mark function program bound code waiting choices (suc back) _ at.pos stands.end_stands s last outcome
        (subst (λ n. Comes program (bare function program bound code waiting choices n) s outcome last) stands.ends comes))
      where
        within : Counts
        within = one_piece counts

        inner : Targets → Part
        inner = statement_code program.setting function body within

        test_piece : ℕ
        test_piece = (after_statement body within).pieces

        test_at : ℕ
        test_at = do_test program.setting function code counts.pieces test_piece (suc test_piece) at.pos test inner start

        back : ℕ
        back = do_back program.setting function code counts.pieces test_piece (suc test_piece) at.pos test inner start

        others : Targets
        others = do_targets program.setting function code counts.pieces test_piece (suc test_piece) at.pos test inner start

        stands : DoStands program.setting function code counts.pieces test_piece (suc test_piece) at.pos test inner start counts.cases
        stands =
            do_stands program.setting function code counts.pieces test_piece (suc test_piece) at.pos test inner start counts.cases
            (λ a b. same_statement program.setting function body within a b) held

        end_ : ℕ
        end_ = after start (code_for function program bound code waiting choices (tree.do_ at body test) counts targets start).ops

        turns : Doing function program bound code waiting choices (again (turn_of function (tree.do_ at body test))) back targets end_
        turns =
            silent program function.variables bound code waiting choices (bare function program bound code waiting choices back)
            (bare function program bound code waiting choices start)
            (jump_steps program function.variables bound code waiting choices back counts.pieces start at.pos stands.back)
            (do_does function program bound code waiting choices again calls loops at body test counts targets start fits held)

        next : Doing function program bound code waiting choices
            (value_of program.setting again test >>= condition at.pos >>= turns_if program.setting again function (tree.do_ at body test)) test_at targets
            end_
        next =
            ends_at function program bound code waiting choices targets (suc (suc back)) end_ (sym stands.ends)
            (thens_to program function.variables bound code waiting choices
            (guard_performs function program bound code waiting choices again calls test_piece at test (suc back) test_at fits.0 stands.guard)
            (λ b so. at_picked function program bound code waiting choices again calls loops b _ (suc back) targets (suc (suc back))
            (turns_does function program bound code waiting choices again calls loops (tree.do_ at body test) b targets back (suc back) _ at.pos
            (ends_at function program bound code waiting choices targets end_ (suc (suc back)) stands.ends turns) stands.end_stands)))
    loop_does (tree.for_ at None test step body) counts targets start is fits held =
        behind_turn (evaluated program.setting again function step >> executed program.setting again function (tree.for_ at None test step body)) others
        targets step_at _
        (ends_at function program bound code waiting choices others _ step_at stands.body_ends
        (statement_does function program bound code waiting choices again calls loops body within others (suc turn_) fits.1 body_held))
        next next
        (λ s last outcome comes. by_mark function program bound code waiting choices (suc back) _ at.pos stands.end_stands s last outcome
        (subst (λ n. Comes program (bare function program bound code waiting choices n) s outcome last) stands.ends comes))
      where
        within : Counts
        within = piece_for step (piece_for test (one_piece counts))

        inner : Targets → Part
        inner = statement_code program.setting function body within

        pieces : ForPieces program.setting function
        pieces =
            record {
              join = counts.pieces;
              test = suc counts.pieces;
              step = (piece_for test (one_piece counts)).pieces;
              end_ = (after_statement body within).pieces;
            }

        turn_ : ℕ
        turn_ = for_turn program.setting function code pieces at.pos test step inner start

        step_at : ℕ
        step_at = for_step program.setting function code pieces at.pos test step inner start

        back : ℕ
        back = for_back program.setting function code pieces at.pos test step inner start

        others : Targets
        others = for_targets program.setting function code pieces at.pos test step inner start

        stands : ForStands program.setting function code pieces at.pos test step inner start counts.cases
        stands =
            for_stands program.setting function code pieces at.pos test step inner start counts.cases
            (λ a b. same_statement program.setting function body within a b) held

        body_held : Held code (inner others (suc turn_)) within.cases (suc turn_)
        body_held =
            subst (λ n. Held code (inner others (suc turn_)) n (suc turn_))
            (sym (piece_same step (piece_for test (one_piece counts)) ∙ piece_same test (one_piece counts))) stands.body_held

        end_ : ℕ
        end_ = after start (code_for function program bound code waiting choices (tree.for_ at None test step body) counts targets start).ops

        loop_again : Doing function program bound code waiting choices
            (executed program.setting again function (tree.for_ at None test step body)) back targets end_
        loop_again =
            silent program function.variables bound code waiting choices (bare function program bound code waiting choices back)
            (bare function program bound code waiting choices start)
            (jump_steps program function.variables bound code waiting choices back counts.pieces start at.pos stands.back)
            (same_to program function.variables bound code waiting choices (λ s at_. refl)
            (for_does function program bound code waiting choices again calls loops at test step body counts targets start fits held))

        next : Doing function program bound code waiting choices
            (evaluated program.setting again function step >> executed program.setting again function (tree.for_ at None test step body)) step_at targets end_
        next =
            thens_to program function.variables bound code waiting choices
            ((part_turns function program bound code waiting choices again calls pieces.step at step fits.0.2).go step_at stands.step_held)
            (λ it so. loop_again)
    loop_does (tree.for_ at (Some e) test step body) counts targets start is fits held = absurd is
    loop_does (tree.block it) counts targets start is fits held = absurd is
    loop_does (tree.expression at e) counts targets start is fits held = absurd is
    loop_does (tree.empty at) counts targets start is fits held = absurd is
    loop_does (tree.if_ at test first) counts targets start is fits held = absurd is
    loop_does (tree.if_else at test first second) counts targets start is fits held = absurd is
    loop_does (tree.switch_ at e it) counts targets start is fits held = absurd is
    loop_does (tree.break_ at) counts targets start is fits held = absurd is
    loop_does (tree.continue_ at) counts targets start is fits held = absurd is
    loop_does (tree.return_ at e) counts targets start is fits held = absurd is

-- ---- the code of a function

shifted_ops : (its : Placed) (all : List Placed) (cases : List Case) (start : ℕ) (rest : List Placed)
    → Holds (record { ops = all; cases = cases }) start rest → Holds (record { ops = its ∷ all; cases = cases }) (suc start) rest
shifted_ops its all cases start [] holds = tt
shifted_ops its all cases start (first ∷ rest) holds = (holds.0, shifted_ops its all cases (suc start) rest holds.1)

all_ops : (all : List Placed) (cases : List Case) → Holds (record { ops = all; cases = cases }) 0 all
all_ops [] cases = tt
all_ops (its ∷ rest) cases = (refl, shifted_ops its rest cases 0 rest (all_ops rest cases))

shifted_cases : (its : Case) (all : List Case) (base : ℕ) (rest : List Case) → CasesFrom all base rest → CasesFrom (its ∷ all) (suc base) rest
shifted_cases its all base [] holds = tt
shifted_cases its all base (first ∷ rest) holds = (holds.0, shifted_cases its all (suc base) rest holds.1)

all_cases : (all : List Case) → CasesFrom all 0 all
all_cases [] = tt
all_cases (its ∷ rest) = (refl, shifted_cases its rest 0 rest (all_cases rest))

-- the code of a function holds all of it
pub itself_held : (its : Written) → Held (as_code its) its 0 0
itself_held its = record { ops = all_ops its.ops its.cases; cases = all_cases its.cases }

-- a function of the code is one of the program
pub record Found (setting : Setting) (functions : List TypedFunction) (place : ℕ) (function : CodeFunction) : Type 0 where
  pub its : TypedFunction
  pub there : slice_get functions place ≡ Some its
  pub is : function ≡ function_with its (as_code (function_code setting its))

later_found : (setting : Setting) (first : TypedFunction) (rest : List TypedFunction) (place : ℕ) (function : CodeFunction)
    → Found setting rest place function → Found setting (first ∷ rest) (suc place) function
later_found setting first rest place function found = record { its = found.its; there = found.there; is = found.is }

pub found_function : (setting : Setting) (functions : List TypedFunction) (place : ℕ) (function : CodeFunction)
    → slice_get (functions_with functions (functions_code setting functions)) place ≡ Some function → Found setting functions place function
found_function setting [] place function is = absurd (never is)
  where
    never : None ≡ Some function → ⊥
    never so = cc
found_function setting (first ∷ rest) zero function is = record { its = first; there = refl; is = sym (same _ function is) }
  where
    same : (a b : CodeFunction) → Some a ≡ Some b → a ≡ b
    same a b so = cc
found_function setting (first ∷ rest) (suc place) function is = later_found setting first rest place function (found_function setting rest place function is)

-- ---- programs

module _ (typed : TypedProgram) where
  -- the program as a code run sees it
  abbrev pub program_code : CodeProgram
  program_code = of_program typed

  -- the code of a function of it
  abbrev pub code_of : TypedFunction → FunctionCode
  code_of function = as_code (function_code (setting_of typed) function)

  -- its jobs, with so much fuel
  abbrev pub jobs_within : ℕ → Job → Step Flow
  jobs_within fuel = again_within (setting_of typed) typed.functions fuel

  -- each call of the program has as many arguments as there are parameters
  abbrev pub FitsAll : Type 0
  FitsAll = (place : ℕ) (its : TypedFunction) → slice_get typed.functions place ≡ Some its → FitsBlock program_code its.body

  -- ---- the body of a function

  -- what a body gives is returned
  abbrev pub IsReturned : Ran Flow → Type 0
  IsReturned (went onward t) = ⊥
  IsReturned (went breaks t) = ⊥
  IsReturned (went continues t) = ⊥
  IsReturned (went (returned value at) t) = Unit {0}
  IsReturned (over outcome t) = Unit {0}

  pub is_returned : (function : TypedFunction) (again : Job → Step Flow) (s : State) → IsReturned (body_of (setting_of typed) again function s)
  is_returned function again s = by (executed_block (setting_of typed) again function function.body s)
    where
      of_missing : (r : Ran Value) → IsReturned (then_with (λ value. give (returned value (closing_of function.body))) r)
      of_missing (went value t) = tt
      of_missing (over outcome t) = tt

      by : (r : Ran Flow) → IsReturned (then_with (ended_at (setting_of typed) again function (closing_of function.body)) r)
      by (went onward t) = of_missing (acts (closing_of function.body) (Rattle.hs_meaning.specs.Frames.missing_value (setting_of typed) function.result) t)
      by (went breaks t) = of_missing (acts (closing_of function.body) (Rattle.hs_meaning.specs.Frames.missing_value (setting_of typed) function.result) t)
      by (went continues t) =
          of_missing (acts (closing_of function.body) (Rattle.hs_meaning.specs.Frames.missing_value (setting_of typed) function.result) t)
      by (went (returned value at) t) = tt
      by (over outcome t) = tt

  module _ (function : TypedFunction) (bound : ℕ) (waiting : List Waiting) (choices : List Bool) (again : Job → Step Flow)
      (calls : Calls program_code function.variables bound (code_of function) waiting choices again)
      (loops : Loops function program_code bound (code_of function) waiting choices again) (fits : FitsBlock program_code function.body) where
    end_of : ℕ
    end_of = after 0 (block_code (setting_of typed) function function.body body_counts nowhere 0).ops

    body_part : Part
    body_part = block_code (setting_of typed) function function.body body_counts (end_at end_of)

    end_part : Part
    end_part = return_code (setting_of typed) function 1 (closing_of function.body)

    whole_held : Held (code_of function) ((body_part then end_part) 0) 0 0
    unfolding end_of body_part end_part
    whole_held = itself_held (function_code (setting_of typed) function)

    body_ends : after 0 (body_part 0).ops ≡ end_of
    unfolding end_of body_part
    body_ends = ((same_block (setting_of typed) function function.body body_counts (end_at end_of) nowhere).at 0).0

    body_done : Doing function program_code bound (code_of function) waiting choices (executed_block (setting_of typed) again function function.body) 0
        (end_at end_of) end_of
    unfolding body_part
    body_done =
        ends_at function program_code bound (code_of function) waiting choices (end_at end_of) _ end_of body_ends
        (block_does function program_code bound (code_of function) waiting choices again calls loops function.body body_counts
        (end_at end_of) 0 fits (held_front (code_of function) body_part end_part 0 0 whole_held))

    end_done : Doing function program_code bound (code_of function) waiting choices
        (meaning.returns (setting_of typed) again function (closing_of function.body) None) end_of nowhere 0
    unfolding end_part
    end_done =
        return_does function program_code bound (code_of function) waiting choices again calls 1
        (record { pos = closing_of function.body; origin = origin.Plain }) None nowhere end_of 0 tt
        (held_back (code_of function) body_part end_part 0 0 (past 0 (body_part 0).cases) end_of refl body_ends whole_held).ops

    pub body_performs : Doing function program_code bound (code_of function) waiting choices (body_of (setting_of typed) again function) 0 nowhere 0
    body_performs =
        follows_to program_code function.variables bound (code_of function) waiting choices
        (ended_at (setting_of typed) again function (closing_of function.body)) body_done by
      where
        here : Point
        here = bare function program_code bound (code_of function) waiting choices 0

        carried : (s t : State)
            → ((outcome : Outcome) (last : State) → Comes program_code (bare function program_code bound (code_of function) waiting choices end_of) t outcome
            last → Comes program_code here s outcome last) → (r : Ran Flow)
            → LeadsTo program_code function.variables bound (code_of function) waiting choices
            (goes_by program_code function.variables bound (code_of function) waiting choices nowhere 0)
            (bare function program_code bound (code_of function) waiting choices end_of) t r
            → LeadsTo program_code function.variables bound (code_of function) waiting choices
            (goes_by program_code function.variables bound (code_of function) waiting choices nowhere 0) here s r
        carried s t leads (went flow u) is = (is.0, λ outcome last comes. leads outcome last (is.1 outcome last comes))
        carried s t leads (over outcome last) is = leads outcome last is

        by : (flow : Flow) (s t : State) → IsAt program_code function.variables bound t
            → ((outcome : Outcome) (last : State)
            → goes_by program_code function.variables bound (code_of function) waiting choices (end_at end_of) end_of flow t outcome
            last → Comes program_code here s outcome last)
            → LeadsTo program_code function.variables bound (code_of function) waiting choices
            (goes_by program_code function.variables bound (code_of function) waiting choices nowhere 0) here s
            (ended_at (setting_of typed) again function (closing_of function.body) flow t)
        by onward s t is leads =
            carried s t leads (meaning.returns (setting_of typed) again function (closing_of function.body) None t) (end_done.go t is)
        by breaks s t is leads =
            carried s t leads (meaning.returns (setting_of typed) again function (closing_of function.body) None t) (end_done.go t is)
        by continues s t is leads =
            carried s t leads (meaning.returns (setting_of typed) again function (closing_of function.body) None t) (end_done.go t is)
        by (returned value at) s t is leads = (is, leads)

  -- ---- calls

  -- all jobs, if no more turns are left than that
  pub record Jobs (bound : ℕ) : Type 0 where
    pub calls : (variables : List VariableDecl) (code : FunctionCode) (waiting : List Waiting) (choices : List Bool)
        → Calls program_code variables bound code waiting choices (jobs_within (suc bound))
    pub loops : (function : TypedFunction) (code : FunctionCode) (waiting : List Waiting) (choices : List Bool)
        → Loops function program_code bound code waiting choices (jobs_within (suc bound))

  module _ (fits : FitsAll) (variables : List VariableDecl) (code : FunctionCode) (waiting : List Waiting) (choices : List Bool) (at place : ℕ)
      (its : Placed) (function : TypedFunction) (values stack : List Value) (there : slice_get code.ops at ≡ Some its)
      (is_call : its.op ≡ op.Call place) (found : slice_get typed.functions place ≡ Some function)
      (coded : slice_get program_code.functions place ≡ Some (function_with function (code_of function)))
      (are : AreAsMany function.parameters values) where
    -- before the call, and after it
    caller_at : Point
    caller_at = at_point program_code variables 0 code waiting choices at (onto values stack)

    caller_behind : Value → Point
    caller_behind value = at_point program_code variables 0 code waiting choices (suc at) (value ∷ stack)

    -- the call that waits, with these variables
    waits : List Binding → Waiting
    waits locals = record { frame = record { code = code; at = suc at; stack = stack }; locals = locals; arguments = values }

    callee_at : List Binding → Point
    callee_at locals = bare function program_code 0 (code_of function) (waits locals ∷ waiting) choices 0

    -- the call of the meaning, and that of the code
    called_step : (Job → Step Flow) → Step Flow
    called_step again = called (setting_of typed) again its.at values (Some function)

    entered_step : Step Point
    entered_step =
        acts its.at own_locals >>= (λ locals.
        acts its.at (opened (setting_of typed) function.parameters function.variables values) >> give (callee_at locals))

    call_steps : (s : State) → stepped program_code caller_at s ≡ (turn >> entered_step) s
    unfolding caller_at entered_step callee_at waits
    call_steps s =
        ap (λ one. stepped_at program_code caller_at one s) there
        ∙ ap (λ operation_. Rattle.hs_code_run.specs.Steps.by_stack program_code its.at caller_at operation_ (onto values stack) s) is_call
        ∙ ap (λ one. function_called program_code its.at caller_at one s) coded
        ∙ ap (λ arguments. (turn >> (acts its.at own_locals >>= (λ locals.
        acts its.at (opened (setting_of typed) function.parameters function.variables arguments)
        >> give (bare function program_code 0 (code_of function)
        (record { frame = record { code = code; at = suc at; stack = below function.parameters (onto values stack) }; locals = locals; arguments = arguments }
        ∷ waiting) choices 0)))) s) (as_many_taken function.parameters values stack are)
        ∙ ap (λ rest. (turn >> (acts its.at own_locals >>= (λ locals.
        acts its.at (opened (setting_of typed) function.parameters function.variables values)
        >> give (bare function program_code 0 (code_of function)
        (record { frame = record { code = code; at = suc at; stack = rest }; locals = locals; arguments = values } ∷ waiting) choices 0)))) s)
        (as_many_below function.parameters values stack are)

    -- what the caller does with what the function returned
    behind_call : Flow → Step Value
    behind_call flow = acts its.at (returned_value flow)

    leads_to : ℕ → State → Ran Value → Type 0
    leads_to bound s r = Leads program_code variables bound code waiting choices Any caller_behind caller_at s r

    -- no turn is left
    call_spent : (bound : ℕ) (again : Job → Step Flow) (s : State) → s.turns ≡ 0 → leads_to bound s (((turn >> called_step again) >>= behind_call) s)
    unfolding leads_to
    call_spent bound again s is =
        subst (λ n. Leads program_code variables bound code waiting choices Any caller_behind caller_at s
        (then_with behind_call (then_with (λ it. called_step again) (turn_from n s)))) (sym is)
        (halted caller_at s s TurnsSpent (call_steps s ∙ ap (λ n. then_with (λ it. entered_step) (turn_from n s)) is))

    -- ---- with a turn

    module _ (bound : ℕ) (jobs : Jobs bound) (s : State) (is_at : IsAt program_code variables (suc bound) s) (left : ℕ) (has : s.turns ≡ suc left) where
      turned : State
      turned = record s { turns = left }

      after_open : Machine → State
      after_open machine = record turned { machine = machine }

      code_opens : (its_ : Done (Unit {0}))
          → opened (setting_of typed) function.parameters function.variables values s.machine ≡ its_
          → stepped program_code caller_at s ≡ then_with (λ it. give (callee_at s.machine.locals)) (ran_at its.at turned its_)
      unfolding turned entered_step
      code_opens its_ is =
          call_steps s ∙ ap (λ n. then_with (λ it. entered_step) (turn_from n s)) has
          ∙ ap (λ d. then_with (λ it. give (callee_at s.machine.locals)) (ran_at its.at (record s { turns = left }) d)) is

      -- the body, and the end of the call
      body_step : Step Flow
      body_step = body_of (setting_of typed) (jobs_within (suc bound)) function

      closing_step : Flow → Step Flow
      closing_step flow = acts its.at (closes s.machine.locals) >> give flow

      meaning_opens : (its_ : Done (Unit {0}))
          → opened (setting_of typed) function.parameters function.variables values s.machine ≡ its_
          → ((turn >> called_step (jobs_within (suc bound))) >>= behind_call) s
          ≡ then_with behind_call (then_with (λ it. body_step >>= closing_step) (ran_at its.at turned its_))
      unfolding turned called_step body_step closing_step
      meaning_opens its_ is =
          ap (λ n. then_with behind_call (then_with (λ it. called (setting_of typed) (jobs_within (suc bound)) its.at values (Some function)) (turn_from n s)))
          has
          ∙ ap (λ d. then_with behind_call (then_with (λ it. body_of (setting_of typed) (jobs_within (suc bound)) function
          >>= (λ flow. acts its.at (closes s.machine.locals) >> give flow)) (ran_at its.at (record s { turns = left }) d))) is

      -- the variables at the start of the call
      callee_is : (machine : Machine) → Opens (setting_of typed) function.variables s.machine (done tt machine)
          → IsAt program_code function.variables bound (after_open machine)
      unfolding after_open turned
      callee_is machine opens =
          record {
            slots = by;
            few = few_left is_at.few has;
          }
        where
          few_left : s.turns ≤ suc bound → s.turns ≡ suc left → left ≤ bound
          few_left few so = omega (arith, few, so)

          by : (variable : Variable) → is_slot_at variable machine
              ≡ is_slot_declared program_code.setting.types
              (Rattle.hs_lowering.specs.Lowering.declared_in program_code.setting function.variables variable)
          by (name.Global n) =
              sym (bare_slot (binding_of (name.Global n) machine)) ∙ ap is_slot_binding (opens.0 n)
              ∙ bare_slot (binding_of (name.Global n) s.machine) ∙ is_at.slots (name.Global n)
          by (name.Local n) =
              sym (bare_slot (binding_of (name.Local n) machine)) ∙ ap is_slot_binding (opens.1 n)
              ∙ bare_slot (slice_get (bindings (setting_of typed).types (Rattle.std.specs.Prelude.length s.machine.objects) function.variables) n)
              ∙ bindings_as_declared (setting_of typed).types (Rattle.std.specs.Prelude.length s.machine.objects) function.variables n

      -- and at its end
      after_close : State → State
      after_close t = record t { machine = closed s.machine.locals t.machine }

      caller_is : (t : State) → IsAt program_code function.variables bound t → IsAt program_code variables (suc bound) (after_close t)
      unfolding after_close
      caller_is t is = record { slots = by; few = more_is is.few }
        where
          more_is : t.turns ≤ bound → t.turns ≤ suc bound
          more_is few = omega (arith, few)

          by : (variable : Variable) → is_slot_at variable (closed s.machine.locals t.machine)
              ≡ is_slot_declared program_code.setting.types (Rattle.hs_lowering.specs.Lowering.declared_in program_code.setting variables variable)
          by (name.Global n) =
              ap (λ all. is_slot_binding (slice_get all n)) (closed_globals s.machine.locals t.machine) ∙ is.slots (name.Global n)
          by (name.Local n) = is_at.slots (name.Local n)

      -- from what the body has come to
      from_body : (machine : Machine) → stepped program_code caller_at s ≡ went (callee_at s.machine.locals) (after_open machine) → (r : Ran Flow)
          → IsReturned r
          → LeadsTo program_code function.variables bound (code_of function) (waits s.machine.locals ∷ waiting) choices
          (goes_by program_code function.variables bound (code_of function) (waits s.machine.locals ∷ waiting) choices nowhere 0)
          (callee_at s.machine.locals) (after_open machine) r
          → leads_to (suc bound) s (then_with behind_call (then_with closing_step r))
      unfolding leads_to closing_step after_close caller_behind waits behind_call
      from_body machine steps (went onward t) returns is = absurd returns
      from_body machine steps (went breaks t) returns is = absurd returns
      from_body machine steps (went continues t) returns is = absurd returns
      from_body machine steps (went (returned value pos_) t) returns is = (
        tt,
        caller_is t is.0,
        λ outcome end_ comes. goes_onward caller_at (callee_at s.machine.locals) s (after_open machine) end_ outcome steps (is.1 outcome end_ comes),
      )
      from_body machine steps (over outcome end_) returns is =
          goes_onward caller_at (callee_at s.machine.locals) s (after_open machine) end_ outcome steps is

      -- from what the start of the call has come to
      from_open : (its_ : Done (Unit {0})) → Opens (setting_of typed) function.variables s.machine its_
          → stepped program_code caller_at s ≡ then_with (λ it. give (callee_at s.machine.locals)) (ran_at its.at turned its_)
          → leads_to (suc bound) s (then_with behind_call (then_with (λ it. body_step >>= closing_step) (ran_at its.at turned its_)))
      unfolding after_open turned callee_at body_step leads_to
      from_open (done it machine) opens steps =
          from_body machine steps (body_of (setting_of typed) (jobs_within (suc bound)) function (after_open machine))
          (is_returned function (jobs_within (suc bound)) (after_open machine))
          ((body_performs function bound (waits s.machine.locals ∷ waiting) choices (jobs_within (suc bound))
          (jobs.calls function.variables (code_of function) (waits s.machine.locals ∷ waiting) choices)
          (jobs.loops function (code_of function) (waits s.machine.locals ∷ waiting) choices) (fits place function found)).go (after_open machine)
          (callee_is machine opens))
      from_open (stopped why machine) opens steps = halted caller_at s (after_open machine) (Stopped why its.at) steps

      call_taken : leads_to (suc bound) s (((turn >> called_step (jobs_within (suc bound))) >>= behind_call) s)
      call_taken =
          subst (leads_to (suc bound) s)
          (sym (meaning_opens (opened (setting_of typed) function.parameters function.variables values s.machine) refl))
          (from_open (opened (setting_of typed) function.parameters function.variables values s.machine)
          (opened_keeps (setting_of typed) function.parameters function.variables values s.machine)
          (code_opens (opened (setting_of typed) function.parameters function.variables values s.machine) refl))

  -- ---- all jobs

  module _ (fits : FitsAll) where
    same_called : (bound place : ℕ) (its : Placed) (function : TypedFunction) (values : List Value) → slice_get typed.functions place ≡ Some function
        → (s : State) → (jobs_within (suc bound) (call_of place values its.at) >>= (λ flow. acts its.at (returned_value flow))) s
        ≡ ((turn >> called (setting_of typed) (jobs_within bound) its.at values (Some function)) >>= (λ flow. acts its.at (returned_value flow))) s
    same_called bound place its function values there s =
        ap (λ one. ((turn >> called (setting_of typed) (jobs_within bound) its.at values one) >>= (λ flow. acts its.at (returned_value flow))) s) there

    no_more : (n left : ℕ) → n ≤ 0 → n ≡ suc left → ⊥
    no_more n left few is = omega (arith, few, is)

    no_calls : (variables : List VariableDecl) (code : FunctionCode) (waiting : List Waiting) (choices : List Bool)
        → Calls program_code variables 0 code waiting choices (jobs_within 1)
    unfolding caller_at caller_behind behind_call called_step leads_to
    no_calls variables code waiting choices =
        record {
          go = λ at place its function values stack there is_call coded are.
              go at place its function values stack there is_call coded are (found_function (setting_of typed) typed.functions place function coded);
        }
      where
        go : (at place : ℕ) (its : Placed) (function : CodeFunction) (values stack : List Value) → slice_get code.ops at ≡ Some its
            → its.op ≡ op.Call place → slice_get program_code.functions place ≡ Some function → AreAsMany function.parameters values
            → Found (setting_of typed) typed.functions place function
            → Performs program_code variables 0 code waiting choices Any
            (jobs_within 1 (call_of place values its.at) >>= (λ flow. acts its.at (returned_value flow)))
            (at_point program_code variables 0 code waiting choices at (onto values stack))
            (λ v. at_point program_code variables 0 code waiting choices (suc at) (v ∷ stack))
        go at place its function values stack there is_call coded are found =
            Rattle.hs_lowering.specs.Performing.same_step program_code variables 0 code waiting choices Any
            (λ s is. same_called 0 place its found.its values found.there s)
            (record { go = λ s is. by s is s.turns refl })
          where
            arguments_are : AreAsMany found.its.parameters values
            arguments_are = subst (λ f. AreAsMany f.parameters values) found.is are

            by : (s : State) → IsAt program_code variables 0 s → (n : ℕ) → s.turns ≡ n
                → Leads program_code variables 0 code waiting choices Any (λ v. at_point program_code variables 0 code waiting choices (suc at) (v ∷ stack))
                (at_point program_code variables 0 code waiting choices at (onto values stack)) s
                (((turn >> called (setting_of typed) (jobs_within 0) its.at values (Some found.its)) >>= (λ flow. acts its.at (returned_value flow))) s)
            by s is zero so =
                call_spent fits variables code waiting choices at place its found.its values stack there is_call found.there
                (coded ∙ ap Some found.is) arguments_are 0 (jobs_within 0) s so
            by s is (suc left) so = absurd (no_more s.turns left is.few so)

    more_calls : (bound : ℕ) → Jobs bound → (variables : List VariableDecl) (code : FunctionCode) (waiting : List Waiting) (choices : List Bool)
        → Calls program_code variables (suc bound) code waiting choices (jobs_within (suc (suc bound)))
    unfolding caller_at caller_behind behind_call called_step leads_to
    more_calls bound jobs variables code waiting choices =
        record {
          go = λ at place its function values stack there is_call coded are.
              go at place its function values stack there is_call coded are (found_function (setting_of typed) typed.functions place function coded);
        }
      where
        go : (at place : ℕ) (its : Placed) (function : CodeFunction) (values stack : List Value) → slice_get code.ops at ≡ Some its
            → its.op ≡ op.Call place → slice_get program_code.functions place ≡ Some function → AreAsMany function.parameters values
            → Found (setting_of typed) typed.functions place function
            → Performs program_code variables (suc bound) code waiting choices Any
            (jobs_within (suc (suc bound)) (call_of place values its.at) >>= (λ flow. acts its.at (returned_value flow)))
            (at_point program_code variables (suc bound) code waiting choices at (onto values stack))
            (λ v. at_point program_code variables (suc bound) code waiting choices (suc at) (v ∷ stack))
        go at place its function values stack there is_call coded are found =
            Rattle.hs_lowering.specs.Performing.same_step program_code variables (suc bound) code waiting choices Any
            (λ s is. same_called (suc bound) place its found.its values found.there s)
            (record { go = λ s is. by s is s.turns refl })
          where
            arguments_are : AreAsMany found.its.parameters values
            arguments_are = subst (λ f. AreAsMany f.parameters values) found.is are

            by : (s : State) → IsAt program_code variables (suc bound) s → (n : ℕ) → s.turns ≡ n
                → Leads program_code variables (suc bound) code waiting choices Any
                (λ v. at_point program_code variables (suc bound) code waiting choices (suc at) (v ∷ stack))
                (at_point program_code variables (suc bound) code waiting choices at (onto values stack)) s
                (((turn >> called (setting_of typed) (jobs_within (suc bound)) its.at values (Some found.its))
                >>= (λ flow. acts its.at (returned_value flow))) s)
            by s is zero so =
                call_spent fits variables code waiting choices at place its found.its values stack there is_call found.there
                (coded ∙ ap Some found.is) arguments_are (suc bound) (jobs_within (suc bound)) s so
            by s is (suc left) so =
                call_taken fits variables code waiting choices at place its found.its values stack there is_call found.there
                (coded ∙ ap Some found.is) arguments_are bound jobs s is left so

    -- for every number of turns
    pub all_jobs : (bound : ℕ) → Jobs bound
    all_jobs zero =
        record {
          calls = no_calls;
          loops = λ function code waiting choices.
              record {
                go = λ it counts targets start is fit held.
                    turned_none program_code function.variables code waiting choices (next_turn (setting_of typed) (jobs_within 0) function it)
                    (bare function program_code 0 code waiting choices (turn_at function program_code 0 code waiting choices it counts start))
                    (bare function program_code 0 code waiting choices (suc (turn_at function program_code 0 code waiting choices it counts start)))
                    (turn_stands function program_code 0 code waiting choices it counts targets start is held);
              };
        }
    all_jobs (suc bound) =
        record {
          calls = more_calls bound (all_jobs bound);
          loops = λ function code waiting choices.
              record {
                go = λ it counts targets start is fit held.
                    turned_more program_code function.variables code waiting choices bound
                    (next_turn (setting_of typed) (jobs_within (suc bound)) function it)
                    (bare function program_code bound code waiting choices (turn_at function program_code bound code waiting choices it counts start))
                    (bare function program_code bound code waiting choices (suc (turn_at function program_code bound code waiting choices it counts start)))
                    (turn_stands function program_code bound code waiting choices it counts targets start is held)
                    (loop_does function program_code bound code waiting choices (jobs_within (suc bound))
                    ((all_jobs bound).calls function.variables code waiting choices) ((all_jobs bound).loops function code waiting choices) it counts targets
                    start is fit held);
              };
        }
