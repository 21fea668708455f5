-- The code of a statement does what the statement means (own).
--     FitsStatement program it       each call inside it has as many arguments as there are parameters
--     Loops again                    what is asked of turns of loops: the code from Turn on performs the job
--     statement_does, block_does     the law
use Rattle.std.proofs.Common.{◌≡◌, ℕ, suc, Bool, true, false, ◌||◌, List, [], ◌∷◌, ◌++◌, slice_get, Option, Some, None, refl, sym, ap, ◌∙◌, subst}
use Rattle.std.specs.List.{list_any}
use Rattle.hs_base.specs.declared.pos.Pos.{Pos}
use Rattle.hs_code.specs.declared.function_code.FunctionCode.{FunctionCode}
use Rattle.hs_code.specs.declared.op.Op.TheVariants as op
use Rattle.hs_code_run.specs.Codes.{CodeProgram, Waiting, Point}
use Rattle.hs_code_run.specs.Runs.{Comes}
use Rattle.hs_code_run.specs.Steps.{stepped_at, found, or_default, case_for}
use Rattle.hs_heap.specs.declared.cell.Pointer.TheVariants.{Nil}
use Rattle.hs_lowering.specs.Laws.Branches.{place_if, zero_performs}
use Rattle.hs_lowering.specs.Laws.Calls.{Calls}
use Rattle.hs_lowering.specs.Laws.Expressions.{FitsCall, value_turns}
use Rattle.hs_lowering.specs.Laws.Flows.{bare_point, goes_by, PerformsTo, thens_to, follows_to, silent, same_to, weakened, gives_to, mark_steps, jump_steps, comes_by, returns_to, next_statement}
use Rattle.hs_lowering.specs.Laws.Lengths.{SameParts, past, same_statement, same_block, cases_of_statement, cases_of_a_block, block_labels, list_labels_counted, plain_declarations, plain_dropped, piece_same, pieces_same}
use Rattle.hs_lowering.specs.Laws.Loops.{while_back, WhileStands, while_stands, for_back, ForStands, for_stands}
use Rattle.hs_lowering.specs.Laws.Operations.{op_gives, used_stays}
use Rattle.hs_lowering.specs.Laws.Placing.{CasesFrom, Held, held_front, held_back, held_next, length_next, length_given, sliced, cases_back}
use Rattle.hs_lowering.specs.Laws.Starts.{as_head, PlainTurns, dropped_turns, declarations_turn}
use Rattle.hs_lowering.specs.Laws.Switches.{place_of, any_in, place_append, place_of_none, place_of_some, any_at, case_is, default_is, any_of_list}
use Rattle.hs_lowering.specs.Lowering.{after, only}
use Rattle.hs_lowering.specs.Performing.{Any, IsAt, Performs, Holds, holds_front, holds_back, after_append, at_point, one_step, gives, thens, same_step, thens_same}
use Rattle.hs_lowering.specs.Statements.{Written, Part, ◌then◌, closed, Counts, Targets, nowhere, one_piece, piece_for, pieces_for, after_statement, after_block, after_list, cases_of_block, alone, placed_at, labels_code, labels_at, cases_in, default_in, value_code, behind, behind_if, guarded, dropped_if, missing_code, return_code, returned_code, goal_of, statement_code, block_code, list_code, declarations_code, ForPieces, for_code}
use Rattle.hs_meaning.specs.Evaluation.{Flow, onward, breaks, continues, returned, Job, turn_of, value_of}
use Rattle.hs_meaning.specs.Frames.{missing_by}
use Rattle.hs_meaning.specs.Operations as operation
use Rattle.hs_meaning.specs.Statements as meaning
use Rattle.hs_meaning.specs.Statements.{from_start, from_label, entry_for, entry_if, is_case, is_default, has_label, executed, executed_block, executed_switch, executed_all, evaluated, tested, turns_if, after_switch}
use Rattle.hs_meaning.specs.Steps.{State, Ran, went, over, Step, ◌>>=◌, ◌>>◌, then_with, give, either, acts, used, condition}
use Rattle.hs_meaning.specs.Values.{Value, pointer, number}
use Rattle.hs_meaning.specs.declared.outcome.Outcome.{Outcome}
use Rattle.hs_tokens.specs.declared.place.Place.{Place}
use Rattle.hs_tree.specs.Inside.{EachRight, EachExpression, EachStatement, EachBlock, EachOfStatements, IfAny}
use Rattle.hs_tree.specs.Kinds.{is_pointer, is_struct_row}
use Rattle.hs_tree.specs.Trees as tree
use Rattle.hs_tree.specs.Trees.{RightValue, TypedStatement, TypedBlock, TypedStatements, TypedFunction}
use Rattle.hs_tree.specs.declared.statement.Label.{Label}
use Rattle.hs_tree.specs.declared.statement.Label.TheVariants as label
use Rattle.hs_types.specs.TypeTables.{row_of}

-- ---- what is asked

-- each call has as many arguments as there are parameters
abbrev pub FitsStatement : CodeProgram → TypedStatement → Type 0
FitsStatement program it = EachStatement (EachExpression (EachRight (FitsCall program))) it

-- of a block
abbrev pub FitsBlock : CodeProgram → TypedBlock → Type 0
FitsBlock program it = EachBlock (EachExpression (EachRight (FitsCall program))) it

-- of a list
abbrev pub FitsList : CodeProgram → TypedStatements → Type 0
FitsList program it = EachOfStatements (EachExpression (EachRight (FitsCall program))) it

-- a statement whose turns are jobs: the job of a `for` has no first part
abbrev pub IsLoop : TypedStatement → Type 0
IsLoop (tree.while_ at test body) = Unit {0}
IsLoop (tree.do_ at body test) = Unit {0}
IsLoop (tree.for_ at None test step body) = Unit {0}
IsLoop _ = ⊥

module _ (function : TypedFunction) (program : CodeProgram) (bound : ℕ) (code : FunctionCode) (waiting : List Waiting) (choices : List Bool) where
  -- before an operation, with nothing on the stack
  abbrev pub bare : ℕ → Point
  bare at = bare_point program function.variables bound code waiting choices at

  -- from one operation on; `end_` is the operation after the code
  abbrev pub Doing : Step Flow → ℕ → Targets → ℕ → Type 0
  Doing step at targets end_ =
      PerformsTo program function.variables bound code waiting choices step (bare at)
      (goes_by program function.variables bound code waiting choices targets end_)

  -- the code of a statement, from an operation on
  abbrev pub code_for : TypedStatement → Counts → Targets → ℕ → Written
  code_for it counts targets start = statement_code program.setting function it counts targets start

  -- where Turn stands
  abbrev pub turn_at : TypedStatement → Counts → ℕ → ℕ
  turn_at (tree.while_ at test body) counts start = behind program.setting function (suc counts.pieces) test (suc start)
  turn_at (tree.do_ at body test) counts start = suc start
  turn_at (tree.for_ at first test step body) counts start = behind_if program.setting function (suc counts.pieces) test (suc start)
  turn_at _ counts start = start

  -- the code from Turn on performs the turn of a loop and what follows it
  pub record Loops (again : Job → Step Flow) : Type 0 where
    pub go : (it : TypedStatement) (counts : Counts) (targets : Targets) (start : ℕ) → IsLoop it → FitsStatement program it
        → Held code (code_for it counts targets start) counts.cases start
        → Doing (again (turn_of function it)) (turn_at it counts start) targets (after start (code_for it counts targets start).ops)

  -- ---- how it ends

  pub ends_at : {step : Step Flow} → {at : ℕ} → (targets : Targets) (a b : ℕ) → a ≡ b → Doing step at targets a → Doing step at targets b
  ends_at {step = step} {at = at} targets a b is doing = subst (λ n. Doing step at targets n) is doing

  -- Mark stands there, or a jump
  pub passed : {step : Step Flow} → {at : ℕ} → (targets : Targets) (a b : ℕ)
      → ((s after : State) (outcome : Outcome) → Comes program (bare b) s outcome after → Comes program (bare a) s outcome after)
      → Doing step at targets a → Doing step at targets b
  passed targets a b leads doing = weakened program function.variables bound code waiting choices by doing
    where
      by : (flow : Flow) (t : State) (outcome : Outcome) (after : State)
          → goes_by program function.variables bound code waiting choices targets b flow t outcome after
          → goes_by program function.variables bound code waiting choices targets a flow t outcome after
      by onward t outcome after comes = leads t after outcome comes
      by breaks t outcome after comes = comes
      by continues t outcome after comes = comes
      by (returned value at) t outcome after comes = comes

  pub by_mark : (at piece : ℕ) (pos_ : Pos) → slice_get code.ops at ≡ Some (placed_at piece pos_ op.Mark 0) → (s after : State) (outcome : Outcome)
      → Comes program (bare (suc at)) s outcome after → Comes program (bare at) s outcome after
  by_mark at piece pos_ there s after outcome comes =
      comes_by program function.variables bound code waiting choices (bare at) (bare (suc at))
      (mark_steps program function.variables bound code waiting choices at piece pos_ there) s after outcome comes

  pub by_jump : (at piece target : ℕ) (pos_ : Pos) → slice_get code.ops at ≡ Some (placed_at piece pos_ (op.Jump target) 0) → (s after : State)
      → (outcome : Outcome) → Comes program (bare target) s outcome after → Comes program (bare at) s outcome after
  by_jump at piece target pos_ there s after outcome comes =
      comes_by program function.variables bound code waiting choices (bare at) (bare target)
      (jump_steps program function.variables bound code waiting choices at piece target pos_ there) s after outcome comes

  -- Mark in front
  pub marked_first : {step : Step Flow} → (targets : Targets) (at end_ piece : ℕ) (pos_ : Pos)
      → slice_get code.ops at ≡ Some (placed_at piece pos_ op.Mark 0) → Doing step (suc at) targets end_ → Doing step at targets end_
  marked_first targets at end_ piece pos_ there doing =
      silent program function.variables bound code waiting choices (bare at) (bare (suc at))
      (mark_steps program function.variables bound code waiting choices at piece pos_ there) doing

  -- nothing is done, where the code has ended
  pub stays_there : (targets : Targets) (at : ℕ) → Doing (give onward) at targets at
  stays_there targets at =
      gives_to program function.variables bound code waiting choices onward (bare at) (λ s outcome after comes. comes)

  -- labels in front
  marks_first : {step : Step Flow} → (targets : Targets) (labels : List Label) (at end_ piece : ℕ) → Holds code at (labels_code piece labels)
      → Doing step (after at (labels_code piece labels)) targets end_ → Doing step at targets end_
  marks_first targets [] at end_ piece holds doing = doing
  marks_first targets (label.Case place bits ∷ rest) at end_ piece holds doing =
      marked_first targets at end_ piece place.pos holds.0 (marks_first targets rest (suc at) end_ (suc piece) holds.1 doing)
  marks_first targets (label.Default place ∷ rest) at end_ piece holds doing =
      marked_first targets at end_ piece place.pos holds.0 (marks_first targets rest (suc at) end_ (suc piece) holds.1 doing)

  -- from a label that is so
  label_first : {step : Step Flow} → (is : Label → Bool) (targets : Targets) (labels : List Label) (at end_ piece otherwise : ℕ)
      → list_any is labels ≡ true → Holds code at (labels_code piece labels) → Doing step (after at (labels_code piece labels)) targets end_
      → Doing step (place_of is (labels_at labels at) otherwise) targets end_
  label_first is targets [] at end_ piece otherwise any_ holds doing = absurd cc
  label_first {step = step} is targets (label.Case place bits ∷ rest) at end_ piece otherwise any_ holds doing =
      by (is (label.Case place bits)) any_ (λ so. label_first is targets rest (suc at) end_ (suc piece) otherwise so holds.1 doing)
    where
      by : (b : Bool) → (b || list_any is rest) ≡ true
          → (list_any is rest ≡ true → Doing step (place_of is (labels_at rest (suc at)) otherwise) targets end_)
          → Doing step (Rattle.hs_lowering.specs.Laws.Switches.pick b at (place_of is (labels_at rest (suc at)) otherwise)) targets end_
      by true so others = marks_first targets (label.Case place bits ∷ rest) at end_ piece holds doing
      by false so others = others so
  label_first {step = step} is targets (label.Default place ∷ rest) at end_ piece otherwise any_ holds doing =
      by (is (label.Default place)) any_ (λ so. label_first is targets rest (suc at) end_ (suc piece) otherwise so holds.1 doing)
    where
      by : (b : Bool) → (b || list_any is rest) ≡ true
          → (list_any is rest ≡ true → Doing step (place_of is (labels_at rest (suc at)) otherwise) targets end_)
          → Doing step (Rattle.hs_lowering.specs.Laws.Switches.pick b at (place_of is (labels_at rest (suc at)) otherwise)) targets end_
      by true so others = marks_first targets (label.Default place ∷ rest) at end_ piece holds doing
      by false so others = others so

  module _ (again : Job → Step Flow) (calls : Calls program function.variables bound code waiting choices again) where
    -- ---- expressions

    -- a condition, and Zero
    pub guard_performs : (piece : ℕ) (at : Place) (e : RightValue) (target start : ℕ) → EachRight (FitsCall program) e
        → Holds code start (guarded program.setting function piece at.pos e target start).ops
        → Performs program function.variables bound code waiting choices Any (value_of program.setting again e >>= condition at.pos) (bare start)
        (λ is. bare (place_if is (after start (value_code program.setting function piece e start 0)) target))
    guard_performs piece at e target start fits holds =
        thens program function.variables bound code waiting choices
        ((value_turns program function.variables bound code waiting choices piece again calls e fits []).go start 0
        (holds_front code start (value_code program.setting function piece e start 0) (placed_at piece at.pos (op.Zero target) 1 ∷ []) holds))
        (λ v so. zero_performs program function.variables bound code waiting choices piece (as_head at)
        (after start (value_code program.setting function piece e start 0)) target 1 v []
        (holds_back code start (value_code program.setting function piece e start 0) (placed_at piece at.pos (op.Zero target) 1 ∷ []) holds).0)

    -- a step that leaves nothing
    plain_does : (its : Part) (step : Step (Unit {0})) (targets : Targets) (start : ℕ)
        → PlainTurns function program bound code waiting choices again calls its step → Holds code start (its start).ops
        → Doing (step >> give onward) start targets (after start (its start).ops)
    plain_does its step targets start turns holds =
        thens_to program function.variables bound code waiting choices (turns.go start holds)
        (λ it so. stays_there targets (after start (its start).ops))

    -- a part of a `for` that may be absent
    pub part_turns : (piece : ℕ) (at : Place) (e : Option RightValue) → IfAny (EachRight (FitsCall program)) e
        → PlainTurns function program bound code waiting choices again calls (dropped_if program.setting function piece at.pos e)
        (evaluated program.setting again function e)
    part_turns piece at None fits =
        record {
          go = λ start holds.
              gives program function.variables bound code waiting choices Any tt (λ (it : Unit {0}). bare start) tt;
        }
    part_turns piece at (Some e) fits =
        dropped_turns function program bound code waiting choices again calls piece at (value_code program.setting function piece e)
        (value_of program.setting again e) (value_turns program function.variables bound code waiting choices piece again calls e fits [])

    -- ---- returns

    missing_performs : (piece : ℕ) (at : Place) (is_pointer_ is_struct : Bool) (start : ℕ)
        → Holds code start (missing_code program.setting function piece at.pos is_pointer_ is_struct start 0)
        → Performs program function.variables bound code waiting choices Any (acts at.pos (missing_by is_pointer_ is_struct)) (bare start)
        (λ v. at_point program function.variables bound code waiting choices
        (after start (missing_code program.setting function piece at.pos is_pointer_ is_struct start 0)) (v ∷ []))
    missing_performs piece at true is_struct start holds =
        same_step program function.variables bound code waiting choices Any (λ s is. refl)
        ((op_gives program function.variables bound code waiting choices piece (as_head at) op.Nil (pointer Nil) [] (λ v. v ∷ []) (λ n s. refl)).go
        start 0 holds)
    missing_performs piece at false true start holds =
        same_step program function.variables bound code waiting choices Any (λ s is. refl)
        ((Rattle.hs_lowering.specs.Laws.Expressions.on_one_turns program function.variables bound code waiting choices piece again (as_head at)
        _ (operation.load (Rattle.hs_meaning.specs.Values.of_struct (Rattle.hs_types.specs.TypeTables.size_of program.setting.types function.result))) refl
        (λ n a below s. refl) (only piece (as_head at) op.Nil) (give (pointer Nil)) [] []
        (op_gives program function.variables bound code waiting choices piece (as_head at) op.Nil (pointer Nil) [] (λ v. v ∷ []) (λ n s. refl))).go
        start 0 holds)
    missing_performs piece at false false start holds =
        same_step program function.variables bound code waiting choices Any (λ s is. refl)
        ((op_gives program function.variables bound code waiting choices piece (as_head at) (op.Num 0) (number 0) [] (λ v. v ∷ []) (λ n s. refl)).go
        start 0 holds)

    -- `return`, and the end of a function
    pub return_does : (piece : ℕ) (at : Place) (e : Option RightValue) (targets : Targets) (start end_ : ℕ) → IfAny (EachRight (FitsCall program)) e
        → Holds code start (returned_code program.setting function piece at.pos e start).ops
        → Doing (meaning.returns program.setting again function at.pos e) start targets end_
    return_does piece at None targets start end_ fits holds =
        thens_to program function.variables bound code waiting choices
        (missing_performs piece at (is_pointer program.setting.types function.result) (is_struct_row (row_of program.setting.types function.result)) start
        (holds_front code start _ (placed_at piece at.pos op.Return 1 ∷ []) holds))
        (λ v so. returns_to program function.variables bound code waiting choices targets
        (after start (missing_code program.setting function piece at.pos (is_pointer program.setting.types function.result)
        (is_struct_row (row_of program.setting.types function.result)) start 0)) end_ piece 1 at.pos v
        (holds_back code start _ (placed_at piece at.pos op.Return 1 ∷ []) holds).0)
    return_does piece at (Some e) targets start end_ fits holds =
        thens_to program function.variables bound code waiting choices
        ((value_turns program function.variables bound code waiting choices piece again calls e fits []).go start 0
        (holds_front code start (value_code program.setting function piece e start 0) (placed_at piece at.pos op.Return 1 ∷ []) holds))
        (λ v so. returns_to program function.variables bound code waiting choices targets
        (after start (value_code program.setting function piece e start 0)) end_ piece 1 at.pos v
        (holds_back code start (value_code program.setting function piece e start 0) (placed_at piece at.pos op.Return 1 ∷ []) holds).0)

    -- ---- switches

    -- Choose
    choose_performs : (piece : ℕ) (at : Place) (e : RightValue) (first last : ℕ) (labels : List (Label × ℕ)) (otherwise start : ℕ)
        → EachRight (FitsCall program) e → past first (cases_in labels) ≡ last → CasesFrom code.cases first (cases_in labels)
        → Holds code start (Rattle.hs_lowering.specs.Statements.given piece at.pos (value_code program.setting function piece e)
        (op.Choose (goal_of program.setting function first last labels otherwise)) start).ops
        → Performs program function.variables bound code waiting choices Any (value_of program.setting again e >>= used at.pos) (bare start)
        (λ bits. bare (or_default (found bits (cases_in labels)) (default_in labels otherwise)))
    choose_performs piece at e first last labels otherwise start fits counted cases holds =
        thens program function.variables bound code waiting choices
        ((value_turns program function.variables bound code waiting choices piece again calls e fits []).go start 0
        (holds_front code start (value_code program.setting function piece e start 0) _ holds))
        (λ v so. one_step program function.variables bound code waiting choices Any (used at.pos v)
        (at_point program function.variables bound code waiting choices (after start (value_code program.setting function piece e start 0)) (v ∷ []))
        (λ bits. bare (or_default (found bits (cases_in labels)) (default_in labels otherwise)))
        (λ s. ap (λ its. stepped_at program (at_point program function.variables bound code waiting choices
        (after start (value_code program.setting function piece e start 0)) (v ∷ [])) its s)
        (holds_back code start (value_code program.setting function piece e start 0) _ holds).0 ∙ by (used at.pos v s))
        (λ s is. used_stays program function.variables bound code waiting choices piece at.pos v s is))
      where
        by : (r : Ran ℕ) → then_with (λ bits. give (bare (case_for bits (goal_of program.setting function first last labels otherwise) code.cases))) r
            ≡ then_with (λ bits. give (bare (or_default (found bits (cases_in labels)) (default_in labels otherwise)))) r
        by (went bits t) =
            ap (λ own. went (bare (or_default (found bits own) (default_in labels otherwise))) t)
            (sliced code.cases first last (cases_in labels) counted cases)
        by (over outcome t) = refl

    -- nothing follows, if no label is so
    no_label : (is : Label → Bool) (list : TypedStatements) (s : State) → has_label is list ≡ false
        → executed_all program.setting again function (from_label is) list s ≡ give onward s
    no_label is tree.no_statements s none = refl
    no_label is (tree.more_statements labels it rest) s none = by (list_any is labels) none (no_label is rest s)
      where
        by : (b : Bool) → (b || has_label is rest) ≡ false
            → (has_label is rest ≡ false → executed_all program.setting again function (from_label is) rest s ≡ give onward s)
            → either b (executed program.setting again function it
            >>= meaning.after (executed_all program.setting again function from_start rest))
            (executed_all program.setting again function (from_label is) rest) s
            ≡ give onward s
        by true so others = absurd cc
        by false so others = others so

    module _ (loops : Loops again) where
      -- the join after a branch, or after a loop
      pub behind_mark : {step : Step Flow} → {at : ℕ} → (targets : Targets) (end_ piece : ℕ) (pos_ : Pos)
          → slice_get code.ops end_ ≡ Some (placed_at piece pos_ op.Mark 0) → Doing step at targets end_ → Doing step at targets (suc end_)
      behind_mark targets end_ piece pos_ there doing = passed targets end_ (suc end_) (by_mark end_ piece pos_ there) doing

      -- nothing is done, and Mark follows
      pub only_mark : (targets : Targets) (at piece : ℕ) (pos_ : Pos) → slice_get code.ops at ≡ Some (placed_at piece pos_ op.Mark 0)
          → Doing (give onward) at targets (suc at)
      only_mark targets at piece pos_ there = behind_mark targets at piece pos_ there (stays_there targets at)

      -- ---- if

      if_does : (at : Place) (test : RightValue) (counts : Counts) (join : ℕ) (first : Part) (step : Step Flow) (targets : Targets) (start : ℕ)
          → EachRight (FitsCall program) test
          → ((m : ℕ) → Held code (first m) counts.cases m → Doing step m targets (after m (first m).ops))
          → Held code (Rattle.hs_lowering.specs.Statements.if_code program.setting function counts at.pos test join first start) counts.cases start
          → Doing (value_of program.setting again test >>= condition at.pos >>= (λ is. either is step (give onward))) start targets
          (after start (Rattle.hs_lowering.specs.Statements.if_code program.setting function counts at.pos test join first start).ops)
      if_does at test counts join first step targets start fits does held =
          ends_at targets (suc end_) _ (sym (length_next guard rest start mid ends_guard ∙ after_append mid (first mid).ops _))
          (thens_to program function.variables bound code waiting choices
          (guard_performs counts.pieces at test end_ start fits (held_front code guard rest counts.cases start held).ops) (λ is so. branch is))
        where
          mid : ℕ
          mid = behind program.setting function counts.pieces test start

          end_ : ℕ
          end_ = after mid (first mid).ops

          guard : Part
          guard = guarded program.setting function counts.pieces at.pos test end_

          rest : Part
          rest = first then alone join at.pos op.Mark

          ends_guard : after start (guard start).ops ≡ mid
          ends_guard = length_given counts.pieces at.pos (value_code program.setting function counts.pieces test) (op.Zero end_) start

          from_rest : Held code (rest mid) counts.cases mid
          from_rest = held_next code guard rest counts.cases start mid refl ends_guard held

          mark : slice_get code.ops end_ ≡ Some (placed_at join at.pos op.Mark 0)
          mark =
              (held_back code first (alone join at.pos op.Mark) counts.cases mid (past counts.cases (first mid).cases) end_ refl refl from_rest).ops.0

          branch : (is : Bool)
              → Doing (either is step (give onward)) (place_if is (after start (value_code program.setting function counts.pieces test start 0)) end_) targets
              (suc end_)
          branch true =
              behind_mark targets end_ join at.pos mark (does mid (held_front code first (alone join at.pos op.Mark) counts.cases mid from_rest))
          branch false = only_mark targets end_ join at.pos mark

      if_else_does : (at : Place) (test : RightValue) (counts : Counts) (join between : ℕ) (first second : Part) (step other : Step Flow)
          → (targets : Targets) (start : ℕ) → EachRight (FitsCall program) test
          → ((m : ℕ) → past counts.cases (first m).cases ≡ between)
          → ((m : ℕ) → Held code (first m) counts.cases m → Doing step m targets (after m (first m).ops))
          → ((m : ℕ) → Held code (second m) between m → Doing other m targets (after m (second m).ops))
          → Held code (Rattle.hs_lowering.specs.Statements.if_else_code program.setting function counts at.pos test join first second start) counts.cases start
          → Doing (value_of program.setting again test >>= condition at.pos >>= (λ is. either is step other)) start targets
          (after start (Rattle.hs_lowering.specs.Statements.if_else_code program.setting function counts at.pos test join first second start).ops)
      if_else_does at test counts join between first second step other targets start fits counted does otherwise held =
          ends_at targets (suc end_) _
          (sym (length_next guard (first then jump then second then mark) start mid ends_guard
          ∙ length_next first (jump then second then mark) mid jump_at refl ∙ after_append (suc jump_at) (second (suc jump_at)).ops _))
          (thens_to program function.variables bound code waiting choices
          (guard_performs counts.pieces at test (suc jump_at) start fits
          (held_front code guard (first then jump then second then mark) counts.cases start held).ops) (λ is so. branch is))
        where
          mid : ℕ
          mid = behind program.setting function counts.pieces test start

          jump_at : ℕ
          jump_at = after mid (first mid).ops

          end_ : ℕ
          end_ = after (suc jump_at) (second (suc jump_at)).ops

          guard : Part
          guard = guarded program.setting function counts.pieces at.pos test (suc jump_at)

          jump : Part
          jump = alone join at.pos (op.Jump end_)

          mark : Part
          mark = alone join at.pos op.Mark

          ends_guard : after start (guard start).ops ≡ mid
          ends_guard = length_given counts.pieces at.pos (value_code program.setting function counts.pieces test) (op.Zero (suc jump_at)) start

          from_first : Held code ((first then jump then second then mark) mid) counts.cases mid
          from_first = held_next code guard (first then jump then second then mark) counts.cases start mid refl ends_guard held

          from_jump : Held code ((jump then second then mark) jump_at) between jump_at
          from_jump = held_back code first (jump then second then mark) counts.cases mid between jump_at (counted mid) refl from_first

          from_second : Held code ((second then mark) (suc jump_at)) between (suc jump_at)
          from_second = held_next code jump (second then mark) between jump_at (suc jump_at) refl refl from_jump

          there : slice_get code.ops end_ ≡ Some (placed_at join at.pos op.Mark 0)
          there = (held_back code second mark between (suc jump_at) (past between (second (suc jump_at)).cases) end_ refl refl from_second).ops.0

          branch : (is : Bool)
              → Doing (either is step other) (place_if is (after start (value_code program.setting function counts.pieces test start 0)) (suc jump_at)) targets
              (suc end_)
          branch true =
              behind_mark targets end_ join at.pos there
              (passed targets jump_at end_ (by_jump jump_at join end_ at.pos from_jump.ops.0)
              (does mid (held_front code first (jump then second then mark) counts.cases mid from_first)))
          branch false = behind_mark targets end_ join at.pos there (otherwise (suc jump_at) (held_front code second mark between (suc jump_at) from_second))

      -- ---- loops

      -- one more turn, or the end of the loop
      pub turns_does : (it : TypedStatement) (is : Bool) (targets : Targets) (turn_ end_ piece : ℕ) (pos_ : Pos)
          → Doing (again (turn_of function it)) turn_ targets (suc end_) → slice_get code.ops end_ ≡ Some (placed_at piece pos_ op.Mark 0)
          → Doing (turns_if program.setting again function it is)
          (Rattle.hs_lowering.specs.Laws.Switches.pick is turn_ end_) targets (suc end_)
      turns_does it true targets turn_ end_ piece pos_ job there = job
      turns_does it false targets turn_ end_ piece pos_ job there = only_mark targets end_ piece pos_ there

      picked_if : (is : Bool) (at target : ℕ) → place_if is at target ≡ Rattle.hs_lowering.specs.Laws.Switches.pick is (suc at) target
      picked_if true at target = refl
      picked_if false at target = refl

      pub at_picked : {step : Step Flow} → (is : Bool) (at target : ℕ) (targets : Targets) (end_ : ℕ)
          → Doing step (Rattle.hs_lowering.specs.Laws.Switches.pick is (suc at) target) targets end_ → Doing step (place_if is at target) targets end_
      at_picked {step = step} is at target targets end_ doing = subst (λ n. Doing step n targets end_) (sym (picked_if is at target)) doing

      pub while_does : (at : Place) (test : RightValue) (body : TypedStatement) (counts : Counts) (targets : Targets) (start : ℕ)
          → FitsStatement program (tree.while_ at test body)
          → Held code (code_for (tree.while_ at test body) counts targets start) counts.cases start
          → Doing (executed program.setting again function (tree.while_ at test body)) start targets
          (after start (code_for (tree.while_ at test body) counts targets start).ops)
      while_does at test body counts targets start fits held =
          ends_at targets (suc (suc back)) _ (sym stands.ends)
          (marked_first targets start (suc (suc back)) counts.pieces at.pos stands.head
          (thens_to program function.variables bound code waiting choices
          (guard_performs (suc counts.pieces) at test (suc back) (suc start) fits.0 stands.guard)
          (λ is so. at_picked is _ (suc back) targets (suc (suc back))
          (turns_does (tree.while_ at test body) is targets _ (suc back) _ at.pos
          (ends_at targets _ (suc (suc back)) stands.ends (loops.go (tree.while_ at test body) counts targets start tt fits held)) stands.end_stands))))
        where
          inner : Targets → Part
          inner = statement_code program.setting function body (one_piece (one_piece counts))

          back : ℕ
          back = while_back program.setting function code counts.pieces (suc counts.pieces)
              (after_statement body (one_piece (one_piece counts))).pieces at.pos test inner start

          stands : WhileStands program.setting function code counts.pieces (suc counts.pieces)
              (after_statement body (one_piece (one_piece counts))).pieces at.pos test inner start counts.cases
          stands =
              while_stands program.setting function code counts.pieces (suc counts.pieces) (after_statement body (one_piece (one_piece counts))).pieces at.pos
              test inner start counts.cases (λ a b. same_statement program.setting function body (one_piece (one_piece counts)) a b) held

      pub do_does : (at : Place) (body : TypedStatement) (test : RightValue) (counts : Counts) (targets : Targets) (start : ℕ)
          → FitsStatement program (tree.do_ at body test) → Held code (code_for (tree.do_ at body test) counts targets start) counts.cases start
          → Doing (executed program.setting again function (tree.do_ at body test)) start targets
          (after start (code_for (tree.do_ at body test) counts targets start).ops)
      do_does at body test counts targets start fits held =
          marked_first targets start _ counts.pieces at.pos held.ops.0 (loops.go (tree.do_ at body test) counts targets start tt fits held)

      -- a condition that may be absent
      pub tested_does : (piece : ℕ) (at : Place) (e : Option RightValue) (it : TypedStatement) (target start : ℕ) (targets : Targets) (join : ℕ) (pos_ : Pos)
          → IfAny (EachRight (FitsCall program)) e
          → Holds code start (Rattle.hs_lowering.specs.Statements.guarded_if program.setting function piece at.pos e target start).ops
          → Doing (again (turn_of function it)) (behind_if program.setting function piece e start) targets (suc target)
          → slice_get code.ops target ≡ Some (placed_at join pos_ op.Mark 0)
          → Doing (tested program.setting again function at.pos e >>= turns_if program.setting again function it) start targets (suc target)
      tested_does piece at None it target start targets join pos_ fits holds job there =
          same_to program function.variables bound code waiting choices (λ s is. refl) job
      tested_does piece at (Some e) it target start targets join pos_ fits holds job there =
          thens_to program function.variables bound code waiting choices (guard_performs piece at e target start fits holds)
          (λ is so. at_picked is _ target targets (suc target) (turns_does it is targets _ target join pos_ job there))

      -- without its first part
      pub for_does : (at : Place) (test step : Option RightValue) (body : TypedStatement) (counts : Counts) (targets : Targets) (start : ℕ)
          → FitsStatement program (tree.for_ at None test step body)
          → Held code (code_for (tree.for_ at None test step body) counts targets start) counts.cases start
          → Doing (tested program.setting again function at.pos test >>= turns_if program.setting again function (tree.for_ at None test step body))
          start targets (after start (code_for (tree.for_ at None test step body) counts targets start).ops)
      for_does at test step body counts targets start fits held =
          ends_at targets (suc (suc back)) _ (sym stands.ends)
          (marked_first targets start (suc (suc back)) counts.pieces at.pos stands.head
          (tested_does (suc counts.pieces) at test (tree.for_ at None test step body) (suc back) (suc start) targets _ at.pos fits.0.1 stands.guard job
          stands.end_stands))
        where
          within : Counts
          within = piece_for step (piece_for test (one_piece counts))

          inner : Targets → Part
          inner = statement_code program.setting function body within

          pieces : ForPieces program.setting function
          pieces =
              record {
                join = counts.pieces;
                test = suc counts.pieces;
                step = (piece_for test (one_piece counts)).pieces;
                end_ = (after_statement body within).pieces;
              }

          back : ℕ
          back = for_back program.setting function code pieces at.pos test step inner start

          counted : within.cases ≡ counts.cases
          counted = piece_same step (piece_for test (one_piece counts)) ∙ piece_same test (one_piece counts)

          stands : ForStands program.setting function code pieces at.pos test step inner start counts.cases
          stands =
              for_stands program.setting function code pieces at.pos test step inner start counts.cases
              (λ a b. same_statement program.setting function body within a b) held

          job : Doing (again (turn_of function (tree.for_ at None test step body)))
              (behind_if program.setting function (suc counts.pieces) test (suc start)) targets (suc (suc back))
          job =
              ends_at targets _ (suc (suc back)) stands.ends (loops.go (tree.for_ at None test step body) counts targets start tt fits held)

      -- ---- switch

      -- `break` leaves it, and the join follows
      switched : {step : Step Flow} → {at : ℕ} → (targets : Targets) (end_ piece : ℕ) (pos_ : Pos)
          → slice_get code.ops end_ ≡ Some (placed_at piece pos_ op.Mark 0)
          → Doing step at (record { breaks = end_; continues = targets.continues }) end_ → Doing (step >>= after_switch) at targets (suc end_)
      switched {at = at} targets end_ piece pos_ there doing = follows_to program function.variables bound code waiting choices after_switch doing by
        where
          by : (flow : Flow) (s t : State) → IsAt program function.variables bound t
              → ((outcome : Outcome) (last : State)
              → goes_by program function.variables bound code waiting choices (record { breaks = end_; continues = targets.continues }) end_ flow t outcome
              last → Comes program (bare at) s outcome last)
              → Rattle.hs_lowering.specs.Laws.Flows.LeadsTo program function.variables bound code waiting choices
              (goes_by program function.variables bound code waiting choices targets (suc end_)) (bare at) s (after_switch flow t)
          by onward s t is leads = (is, λ outcome last comes. leads outcome last (by_mark end_ piece pos_ there t last outcome comes))
          by breaks s t is leads = (is, λ outcome last comes. leads outcome last (by_mark end_ piece pos_ there t last outcome comes))
          by continues s t is leads = (is, leads)
          by (returned value at) s t is leads = (is, leads)

      module _ (at : Place) (e : RightValue) (opening : Place) (declarations : List tree.TypedDeclaration) (list : TypedStatements) (closing : Place)
          (counts : Counts) (targets : Targets) (start : ℕ) where
        block_part : Targets → Part
        block_part = block_code program.setting function (tree.compound opening declarations list closing) (one_piece counts)

        block_at : ℕ
        block_at = behind program.setting function counts.pieces e start

        -- the join, to which `break` goes
        join_at : ℕ
        join_at = after block_at (block_part nowhere block_at).ops

        within_switch : Targets
        within_switch = record { breaks = join_at; continues = targets.continues }

        own_labels : List (Label × ℕ)
        own_labels = (block_part nowhere block_at).labels

        inner_counts : Counts
        inner_counts = pieces_for declarations (one_piece (one_piece counts))

        started_part : Part
        started_part = declarations_code program.setting function (one_piece (one_piece counts)) declarations

        list_part : Part
        list_part = list_code program.setting function list inner_counts within_switch

        close_part : Part
        close_part = alone (after_list list inner_counts).pieces closing.pos op.Mark

        list_at : ℕ
        list_at = after (suc block_at) (started_part (suc block_at)).ops

        close_at : ℕ
        close_at = after list_at (list_part list_at).ops

        first_case : ℕ
        first_case = (after_list list inner_counts).cases

        last_case : ℕ
        last_case = Rattle.hs_lowering.specs.Statements.cases_of_list list first_case

        choose_part : Part
        choose_part =
            Rattle.hs_lowering.specs.Statements.given counts.pieces at.pos (value_code program.setting function counts.pieces e)
            (op.Choose (goal_of program.setting function first_case last_case own_labels join_at))

        join_part : Part
        join_part = alone (suc (after_list list inner_counts).pieces) at.pos op.Mark

        -- ---- where its parts stand

        module _ (held : Held code (code_for (tree.switch_ at e (tree.compound opening declarations list closing)) counts targets start) counts.cases start)
          where
            inner_held : Held code ((choose_part then block_part within_switch then join_part) start) counts.cases start
            unfolding choose_part block_part within_switch join_part join_at own_labels block_at first_case last_case inner_counts
            inner_held =
                record {
                  ops = held.ops;
                  cases =
                      Rattle.hs_lowering.specs.Laws.Placing.cases_front code.cases counts.cases _ (cases_in own_labels) held.cases;
                }

            ends_choose : after start (choose_part start).ops ≡ block_at
            unfolding choose_part block_at
            ends_choose = length_given counts.pieces at.pos (value_code program.setting function counts.pieces e) _ start

            from_block : Held code ((block_part within_switch then join_part) block_at) counts.cases block_at
            unfolding choose_part
            from_block =
                held_next code choose_part (block_part within_switch then join_part) counts.cases start block_at refl ends_choose inner_held

            from_body : Held code (block_part within_switch block_at) counts.cases block_at
            from_body = held_front code (block_part within_switch) join_part counts.cases block_at from_block

            same_end : after block_at (block_part within_switch block_at).ops ≡ join_at
            unfolding join_at block_part
            same_end =
                ((same_block program.setting function (tree.compound opening declarations list closing) (one_piece counts) within_switch nowhere).at block_at).0

            join_there : slice_get code.ops join_at ≡ Some (placed_at (suc (after_list list inner_counts).pieces) at.pos op.Mark 0)
            unfolding join_part
            join_there =
                (held_back code (block_part within_switch) join_part counts.cases block_at (past counts.cases (block_part within_switch block_at).cases)
                join_at refl same_end from_block).ops.0

            from_started : Held code ((started_part then list_part then close_part) (suc block_at)) counts.cases (suc block_at)
            unfolding block_part started_part list_part close_part inner_counts
            from_started =
                held_next code (alone (suc counts.pieces) opening.pos op.Mark) (started_part then list_part then close_part) counts.cases block_at
                (suc block_at) refl refl from_body

            from_list : Held code ((list_part then close_part) list_at) counts.cases list_at
            unfolding list_at started_part
            from_list =
                held_next code started_part (list_part then close_part) counts.cases (suc block_at) list_at
                ((plain_declarations program.setting function (one_piece (one_piece counts)) declarations).cases (suc block_at)) refl from_started

            list_held : Held code (list_part list_at) inner_counts.cases list_at
            unfolding inner_counts
            list_held =
                subst (λ n. Held code (list_part list_at) n list_at) (sym (pieces_same declarations (one_piece (one_piece counts))))
                (held_front code list_part close_part counts.cases list_at from_list)

            close_there : slice_get code.ops close_at ≡ Some (placed_at (after_list list inner_counts).pieces closing.pos op.Mark 0)
            unfolding close_part close_at
            close_there =
                (held_back code list_part close_part counts.cases list_at (past counts.cases (list_part list_at).cases) close_at refl refl from_list).ops.0

            close_is_end : suc close_at ≡ join_at
            unfolding close_at list_at block_part started_part list_part close_part inner_counts
            close_is_end =
                sym (length_next started_part (list_part then close_part) (suc block_at) list_at refl ∙ after_append list_at (list_part list_at).ops _)
                ∙ same_end

            -- ---- its labels

            labels_same : own_labels ≡ (list_part list_at).labels
            unfolding own_labels block_part list_part list_at started_part inner_counts
            labels_same =
                sym ((same_block program.setting function (tree.compound opening declarations list closing) (one_piece counts) within_switch nowhere).at
                block_at).1
                ∙ block_labels program.setting function opening closing declarations list (one_piece counts) within_switch block_at

            any_same : (is : Label → Bool) → any_in is own_labels ≡ has_label is list
            unfolding list_part
            any_same is = ap (any_in is) labels_same ∙ any_of_list program.setting function is list inner_counts within_switch list_at

            own_counted : past first_case (cases_in own_labels) ≡ last_case
            unfolding last_case first_case list_part
            own_counted =
                ap (λ its. past first_case (cases_in its)) labels_same
                ∙ list_labels_counted program.setting function list inner_counts within_switch list_at first_case

            own_cases : CasesFrom code.cases first_case (cases_in own_labels)
            unfolding own_labels first_case last_case choose_part block_part within_switch join_at block_at inner_counts
            own_cases =
                subst (λ n. CasesFrom code.cases n (cases_in own_labels))
                (Rattle.hs_lowering.specs.Laws.Lengths.one_counted counts.cases first_case _
                (cases_of_a_block program.setting function (tree.compound opening declarations list closing) (one_piece counts) within_switch
                (after start (choose_part start).ops)))
                (cases_back code.cases counts.cases _ (cases_in own_labels) held.cases)

            -- ---- what it does

            module _ (fits : EachRight (FitsCall program) e)
                (labelled : (is : Label → Bool) (others : Targets) (from : ℕ)
                → Held code (list_code program.setting function list (pieces_for declarations (one_piece (one_piece counts))) others from)
                (pieces_for declarations (one_piece (one_piece counts))).cases from
                → Doing (executed_all program.setting again function (from_label is) list)
                (place_of is (list_code program.setting function list (pieces_for declarations (one_piece (one_piece counts))) others from).labels
                (after from (list_code program.setting function list (pieces_for declarations (one_piece (one_piece counts))) others from).ops)) others
                (after from (list_code program.setting function list (pieces_for declarations (one_piece (one_piece counts))) others from).ops)) where
              labelled_here : (is : Label → Bool) → Doing (executed_all program.setting again function (from_label is) list)
                  (place_of is (list_part list_at).labels close_at) within_switch close_at
              unfolding list_part inner_counts close_at
              labelled_here is = labelled is within_switch list_at list_held

              -- from the first label that is so, or at the join
              from_labelled : (is : Label → Bool)
                  → Doing (executed_all program.setting again function (from_label is) list) (place_of is own_labels join_at) within_switch join_at
              from_labelled is = by (has_label is list) refl
                where
                  at_place : (a b : ℕ) → a ≡ b → Doing (executed_all program.setting again function (from_label is) list) a within_switch join_at
                      → Doing (executed_all program.setting again function (from_label is) list) b within_switch join_at
                  at_place a b same doing =
                      subst (λ n. Doing (executed_all program.setting again function (from_label is) list) n within_switch join_at) same doing

                  by : (b : Bool) → has_label is list ≡ b
                      → Doing (executed_all program.setting again function (from_label is) list) (place_of is own_labels join_at) within_switch join_at
                  by true so =
                      at_place _ _
                      (ap (λ its. place_of is its close_at) (sym labels_same)
                      ∙ place_of_some is own_labels close_at join_at (any_same is ∙ so))
                      (ends_at within_switch (suc close_at) join_at close_is_end
                      (behind_mark within_switch close_at _ closing.pos close_there (labelled_here is)))
                  by false so =
                      at_place join_at _ (sym (place_of_none is own_labels join_at (any_same is ∙ so)))
                      (same_to program function.variables bound code waiting choices (λ s at_. no_label is list s so) (stays_there within_switch join_at))

              -- for that number
              from_entry : (bits : ℕ) → Doing (executed_all program.setting again function (entry_for bits list) list)
                  (or_default (found bits (cases_in own_labels)) (default_in own_labels join_at)) within_switch join_at
              from_entry bits = by (has_label (is_case bits) list) refl
                where
                  at_place : (entry : meaning.Entry) (a b : ℕ) → a ≡ b → Doing (executed_all program.setting again function entry list) a within_switch join_at
                      → Doing (executed_all program.setting again function entry list) b within_switch join_at
                  at_place entry a b same doing =
                      subst (λ n. Doing (executed_all program.setting again function entry list) n within_switch join_at) same doing

                  by : (b : Bool) → has_label (is_case bits) list ≡ b → Doing (executed_all program.setting again function (entry_if b bits) list)
                      (or_default (found bits (cases_in own_labels)) (default_in own_labels join_at)) within_switch join_at
                  by true so =
                      at_place (from_label (is_case bits)) _ _ (sym (case_is bits own_labels join_at (any_same (is_case bits) ∙ so)))
                      (from_labelled (is_case bits))
                  by false so =
                      at_place (from_label is_default) _ _ (sym (default_is bits own_labels join_at (any_same (is_case bits) ∙ so)))
                      (from_labelled is_default)

              whole_ends : after start (code_for (tree.switch_ at e (tree.compound opening declarations list closing)) counts targets start).ops ≡ suc join_at
              unfolding choose_part block_part within_switch join_part join_at own_labels block_at first_case last_case inner_counts
              whole_ends =
                  length_next choose_part (block_part within_switch then join_part) start block_at ends_choose
                  ∙ length_next (block_part within_switch) join_part block_at join_at same_end

              choose_held : Holds code start (choose_part start).ops
              choose_held = (held_front code choose_part (block_part within_switch then join_part) counts.cases start inner_held).ops

              switch_does : Doing (executed program.setting again function (tree.switch_ at e (tree.compound opening declarations list closing))) start targets
                  (after start (code_for (tree.switch_ at e (tree.compound opening declarations list closing)) counts targets start).ops)
              unfolding choose_part within_switch
              switch_does =
                  ends_at targets (suc join_at) _ (sym whole_ends)
                  (switched targets join_at _ at.pos join_there
                  (thens_to program function.variables bound code waiting choices
                  (choose_performs counts.pieces at e first_case last_case own_labels join_at start fits own_counted own_cases choose_held)
                  (λ bits so. from_entry bits)))

      -- ---- all statements

      mutual
        -- a statement
        pub statement_does : (it : TypedStatement) (counts : Counts) (targets : Targets) (start : ℕ) → FitsStatement program it
            → Held code (code_for it counts targets start) counts.cases start
            → Doing (executed program.setting again function it) start targets (after start (code_for it counts targets start).ops)
        statement_does (tree.block it) counts targets start fits held = block_does it counts targets start fits held
        statement_does (tree.expression at e) counts targets start fits held =
            same_to program function.variables bound code waiting choices
            (λ s is. sym (thens_same (value_of program.setting again e) (λ v. give tt) (λ (it : Unit {0}). give onward) s))
            (plain_does (Rattle.hs_lowering.specs.Statements.given_dropped counts.pieces at.pos (value_code program.setting function counts.pieces e))
            (value_of program.setting again e >> give tt) targets start
            (dropped_turns function program bound code waiting choices again calls counts.pieces at (value_code program.setting function counts.pieces e)
            (value_of program.setting again e)
            (value_turns program function.variables bound code waiting choices counts.pieces again calls e fits [])) held.ops)
        statement_does (tree.empty at) counts targets start fits held = only_mark targets start counts.pieces at.pos held.ops.0
        statement_does (tree.if_ at test first) counts targets start fits held =
            if_does at test counts (after_statement first (one_piece counts)).pieces (statement_code program.setting function first (one_piece counts) targets)
            (executed program.setting again function first) targets start fits.0
            (λ m there. statement_does first (one_piece counts) targets m fits.1 there) held
        statement_does (tree.if_else at test first second) counts targets start fits held =
            if_else_does at test counts (after_statement second (after_statement first (one_piece counts))).pieces
            (after_statement first (one_piece counts)).cases (statement_code program.setting function first (one_piece counts) targets)
            (statement_code program.setting function second (after_statement first (one_piece counts)) targets)
            (executed program.setting again function first) (executed program.setting again function second) targets start fits.0
            (λ m. cases_of_statement program.setting function first (one_piece counts) targets m)
            (λ m there. statement_does first (one_piece counts) targets m fits.1 there)
            (λ m there. statement_does second (after_statement first (one_piece counts)) targets m fits.2 there) held
        statement_does (tree.while_ at test body) counts targets start fits held = while_does at test body counts targets start fits held
        statement_does (tree.do_ at body test) counts targets start fits held = do_does at body test counts targets start fits held
        statement_does (tree.for_ at first test step body) counts targets start fits held =
            ends_at targets _ _ (sym (length_next first_part loop_part start loop_at refl))
            (thens_to program function.variables bound code waiting choices
            ((part_turns counts.pieces at first fits.0.0).go start (held_front code first_part loop_part counts.cases start held).ops)
            (λ it so. for_does at test step body (piece_for first counts) targets loop_at ((tt, fits.0.1, fits.0.2), fits.1) from_loop))
          where
            within : Counts
            within = piece_for step (piece_for test (one_piece (piece_for first counts)))

            first_part : Part
            first_part = dropped_if program.setting function counts.pieces at.pos first

            loop_part : Part
            loop_part =
                for_code program.setting function
                (record {
                  join = (piece_for first counts).pieces;
                  test = suc (piece_for first counts).pieces;
                  step = (piece_for test (one_piece (piece_for first counts))).pieces;
                  end_ = (after_statement body within).pieces;
                })
                at.pos test step (statement_code program.setting function body within)

            loop_at : ℕ
            loop_at = after start (first_part start).ops

            from_loop : Held code (code_for (tree.for_ at None test step body) (piece_for first counts) targets loop_at) (piece_for first counts).cases loop_at
            from_loop =
                subst (λ n. Held code (code_for (tree.for_ at None test step body) (piece_for first counts) targets loop_at) n loop_at)
                (sym (piece_same first counts))
                (held_next code first_part loop_part counts.cases start loop_at
                ((plain_dropped program.setting function counts.pieces at.pos first).cases start) refl held)
        statement_does (tree.switch_ at e (tree.compound opening declarations list closing)) counts targets start fits held =
            switch_does at e opening declarations list closing counts targets start held fits.0
            (λ is others from there. labelled_does is list (pieces_for declarations (one_piece (one_piece counts))) others from fits.1.1 there)
        statement_does (tree.break_ at) counts targets start fits held =
            gives_to program function.variables bound code waiting choices breaks (bare start)
            (λ s outcome last comes. by_jump start counts.pieces targets.breaks at.pos held.ops.0 s last outcome comes)
        statement_does (tree.continue_ at) counts targets start fits held =
            gives_to program function.variables bound code waiting choices continues (bare start)
            (λ s outcome last comes. by_jump start counts.pieces targets.continues at.pos held.ops.0 s last outcome comes)
        statement_does (tree.return_ at e) counts targets start fits held = return_does counts.pieces at e targets start _ fits held.ops

        -- a block
        pub block_does : (it : TypedBlock) (counts : Counts) (targets : Targets) (start : ℕ) → FitsBlock program it
            → Held code (block_code program.setting function it counts targets start) counts.cases start
            → Doing (executed_block program.setting again function it) start targets
            (after start (block_code program.setting function it counts targets start).ops)
        block_does (tree.compound opening declarations list closing) counts targets start fits held =
            ends_at targets (suc end_) _
            (sym (length_next started_part (list_part then close_part) (suc start) list_at refl
            ∙ after_append list_at (list_part list_at).ops _))
            (marked_first targets start (suc end_) counts.pieces opening.pos held.ops.0
            (thens_to program function.variables bound code waiting choices
            ((declarations_turn function program bound code waiting choices again calls (one_piece counts) declarations fits.0).go (suc start)
            (held_front code started_part (list_part then close_part) counts.cases (suc start) from_start_part).ops)
            (λ it so. behind_mark targets end_ closing_piece closing.pos
            (held_back code list_part close_part counts.cases list_at (past counts.cases (list_part list_at).cases) end_ refl refl from_list).ops.0
            (list_does list within targets list_at fits.1
            (subst (λ n. Held code (list_part list_at) n list_at) (sym (pieces_same declarations (one_piece counts)))
            (held_front code list_part close_part counts.cases list_at from_list))))))
          where
            within : Counts
            within = pieces_for declarations (one_piece counts)

            closing_piece : ℕ
            closing_piece = (after_list list within).pieces

            started_part : Part
            started_part = declarations_code program.setting function (one_piece counts) declarations

            list_part : Part
            list_part = list_code program.setting function list within targets

            close_part : Part
            close_part = alone closing_piece closing.pos op.Mark

            list_at : ℕ
            list_at = after (suc start) (started_part (suc start)).ops

            end_ : ℕ
            end_ = after list_at (list_part list_at).ops

            from_start_part : Held code ((started_part then list_part then close_part) (suc start)) counts.cases (suc start)
            from_start_part =
                held_next code (alone counts.pieces opening.pos op.Mark) (started_part then list_part then close_part) counts.cases start (suc start) refl
                refl held

            from_list : Held code ((list_part then close_part) list_at) counts.cases list_at
            from_list =
                held_next code started_part (list_part then close_part) counts.cases (suc start) list_at
                ((plain_declarations program.setting function (one_piece counts) declarations).cases (suc start)) refl from_start_part

        -- a list of statements
        pub list_does : (list : TypedStatements) (counts : Counts) (targets : Targets) (start : ℕ) → FitsList program list
            → Held code (list_code program.setting function list counts targets start) counts.cases start
            → Doing (executed_all program.setting again function from_start list) start targets
            (after start (list_code program.setting function list counts targets start).ops)
        list_does tree.no_statements counts targets start fits held = stays_there targets start
        list_does (tree.more_statements labels it rest) counts targets start fits held =
            ends_at targets _ _
            (sym (length_next marks (statement then others) start first_at refl ∙ length_next statement others first_at rest_at refl))
            (marks_first targets labels start _ counts.pieces (held_front code marks (statement then others) counts.cases start held).ops
            (next_statement program function.variables bound code waiting choices targets rest_at _
            (statement_does it within targets first_at fits.0 from_statement)
            (list_does rest (after_statement it within) targets rest_at fits.1 from_rest)))
          where
            within : Counts
            within = pieces_for labels counts

            marks : Part
            marks at = record { ops = labels_code counts.pieces labels; cases = []; labels = labels_at labels at }

            statement : Part
            statement at = closed (code_for it within targets at)

            others : Part
            others = list_code program.setting function rest (after_statement it within) targets

            first_at : ℕ
            first_at = after start (labels_code counts.pieces labels)

            rest_at : ℕ
            rest_at = after first_at (code_for it within targets first_at).ops

            from_first : Held code ((statement then others) first_at) within.cases first_at
            from_first =
                subst (λ n. Held code ((statement then others) first_at) n first_at) (sym (pieces_same labels counts))
                (held_next code marks (statement then others) counts.cases start first_at refl refl held)

            from_statement : Held code (code_for it within targets first_at) within.cases first_at
            from_statement =
                record {
                  ops = (held_front code statement others within.cases first_at from_first).ops;
                  cases = (held_front code statement others within.cases first_at from_first).cases;
                }

            from_rest : Held code (others rest_at) (after_statement it within).cases rest_at
            from_rest =
                held_back code statement others within.cases first_at (after_statement it within).cases rest_at
                (cases_of_statement program.setting function it within targets first_at) refl from_first

        -- from the first label of the list that is so, or after the list
        pub labelled_does : (is : Label → Bool) (list : TypedStatements) (counts : Counts) (targets : Targets) (start : ℕ) → FitsList program list
            → Held code (list_code program.setting function list counts targets start) counts.cases start
            → Doing (executed_all program.setting again function (from_label is) list)
            (place_of is (list_code program.setting function list counts targets start).labels
            (after start (list_code program.setting function list counts targets start).ops)) targets
            (after start (list_code program.setting function list counts targets start).ops)
        labelled_does is tree.no_statements counts targets start fits held = stays_there targets start
        labelled_does is (tree.more_statements labels it rest) counts targets start fits held = by (list_any is labels) refl
            (statement_does it within targets first_at fits.0 from_statement) (list_does rest (after_statement it within) targets rest_at fits.1 from_rest)
            (labelled_does is rest (after_statement it within) targets rest_at fits.1 from_rest)
          where
            within : Counts
            within = pieces_for labels counts

            marks : Part
            marks at = record { ops = labels_code counts.pieces labels; cases = []; labels = labels_at labels at }

            statement : Part
            statement at = closed (code_for it within targets at)

            others : Part
            others = list_code program.setting function rest (after_statement it within) targets

            first_at : ℕ
            first_at = after start (labels_code counts.pieces labels)

            rest_at : ℕ
            rest_at = after first_at (code_for it within targets first_at).ops

            end_ : ℕ
            end_ = after start (list_code program.setting function (tree.more_statements labels it rest) counts targets start).ops

            from_first : Held code ((statement then others) first_at) within.cases first_at
            from_first =
                subst (λ n. Held code ((statement then others) first_at) n first_at) (sym (pieces_same labels counts))
                (held_next code marks (statement then others) counts.cases start first_at refl refl held)

            from_statement : Held code (code_for it within targets first_at) within.cases first_at
            from_statement =
                record {
                  ops = (held_front code statement others within.cases first_at from_first).ops;
                  cases = (held_front code statement others within.cases first_at from_first).cases;
                }

            from_rest : Held code (others rest_at) (after_statement it within).cases rest_at
            from_rest =
                held_back code statement others within.cases first_at (after_statement it within).cases rest_at
                (cases_of_statement program.setting function it within targets first_at) refl from_first

            ends : end_ ≡ after rest_at (others rest_at).ops
            ends = length_next marks (statement then others) start first_at refl ∙ length_next statement others first_at rest_at refl

            at_place : (step : Step Flow) (a b : ℕ) → a ≡ b → Doing step a targets end_ → Doing step b targets end_
            at_place step a b same doing = subst (λ n. Doing step n targets end_) same doing

            by : (b : Bool) → list_any is labels ≡ b
                → Doing (executed program.setting again function it) first_at targets rest_at
                → Doing (executed_all program.setting again function from_start rest) rest_at targets (after rest_at (others rest_at).ops)
                → Doing (executed_all program.setting again function (from_label is) rest) (place_of is (others rest_at).labels
                (after rest_at (others rest_at).ops)) targets (after rest_at (others rest_at).ops)
                → Doing (either b (executed program.setting again function it
                >>= meaning.after (executed_all program.setting again function from_start rest))
                (executed_all program.setting again function (from_label is) rest))
                (place_of is (labels_at labels start ++ (others rest_at).labels) end_) targets end_
            by true so first next later =
                at_place _ _ _ (sym (place_append is (labels_at labels start) (others rest_at).labels end_))
                (label_first is targets labels start end_ counts.pieces _ so
                (held_front code marks (statement then others) counts.cases start held).ops
                (next_statement program function.variables bound code waiting choices targets rest_at end_ first
                (ends_at targets _ end_ (sym ends) next)))
            by false so first next later =
                at_place _ _ _
                (ap (place_of is (others rest_at).labels) (sym ends)
                ∙ sym (place_of_none is (labels_at labels start) (place_of is (others rest_at).labels end_) (any_at is labels start ∙ so))
                ∙ sym (place_append is (labels_at labels start) (others rest_at).labels end_)) (ends_at targets _ end_ (sym ends) later)
