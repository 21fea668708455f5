-- Where the operations of a loop stand (own).
--     WhileStands, DoStands, ForStands     each operation of the loop is there, and where the loop ends
--     while_stands, do_stands, for_stands  they do, where the code of the loop is
--     while_turn, while_back, while_targets, do_test, ..   where its Turn, its condition, its step and its jump back stand, and where `break` and
--     `continue` in it go
use Rattle.std.proofs.Common.{◌≡◌, ℕ, suc, slice_get, Option, Some, None, refl, ◌∙◌}
use Rattle.hs_base.specs.declared.pos.Pos.{Pos}
use Rattle.hs_code.specs.declared.function_code.FunctionCode.{FunctionCode}
use Rattle.hs_code.specs.declared.op.Op.{Op}
use Rattle.hs_code.specs.declared.op.Op.TheVariants as op
use Rattle.hs_lowering.specs.Laws.Lengths.{past, SameParts, plain_dropped, plain_guarded}
use Rattle.hs_lowering.specs.Laws.Placing.{Held, held_front, held_back, held_next, length_next, length_given}
use Rattle.hs_lowering.specs.Lowering.{after}
use Rattle.hs_lowering.specs.Performing.{Holds}
use Rattle.hs_lowering.specs.Statements.{Part, ◌then◌, Targets, nowhere, placed_at, alone, guarded, guarded_if, behind, behind_if, dropped_if, value_code, while_code, do_code, ForPieces, turn_piece, for_code}
use Rattle.hs_meaning.specs.Settings.{Setting}
use Rattle.hs_tree.specs.Trees.{RightValue, TypedFunction}

-- the operation is there, with nothing on the stack
abbrev pub Stands : FunctionCode → ℕ → Pos → Op → ℕ → Type 0
Stands code piece at its number = slice_get code.ops number ≡ Some (placed_at piece at its 0)

module _ (setting : Setting) (function : TypedFunction) (code : FunctionCode) where
  -- ---- while

  module _ (join test end_ : ℕ) (at : Pos) (e : RightValue) (body : Targets → Part) (start : ℕ) where
    -- Turn
    abbrev pub while_turn : ℕ
    while_turn = behind setting function test e (suc start)

    -- the jump back
    abbrev pub while_back : ℕ
    while_back = after (suc while_turn) (body nowhere (suc while_turn)).ops

    -- of the body
    abbrev pub while_targets : Targets
    while_targets = record { breaks = suc while_back; continues = start }

    -- each operation of a `while` is there
    pub record WhileStands (base : ℕ) : Type 0 where
      pub head : Stands code join at op.Mark start
      pub guard : Holds code (suc start) (guarded setting function test at e (suc while_back) (suc start)).ops
      pub turn : Stands code test at op.Turn while_turn
      pub body_held : Held code (body while_targets (suc while_turn)) base (suc while_turn)
      pub body_ends : after (suc while_turn) (body while_targets (suc while_turn)).ops ≡ while_back
      pub back : Stands code join at (op.Jump start) while_back
      pub end_stands : Stands code end_ at op.Mark (suc while_back)
      pub ends : after start (while_code setting function join test end_ at e body start).ops ≡ suc (suc while_back)

    pub while_stands : (base : ℕ) → ((a b : Targets) → SameParts (body a) (body b))
        → Held code (while_code setting function join test end_ at e body start) base start → WhileStands base
    while_stands base same held =
        record {
          head = held.ops.0;
          guard = (held_front code guard_part (turn_part then loop_part) base (suc start) from_guard).ops;
          turn = from_turn.ops.0;
          body_held = held_front code (body while_targets) back_part base (suc while_turn) from_body;
          body_ends = ends_body;
          back = from_back.ops.0;
          end_stands = from_back.ops.1.0;
          ends =
              length_next guard_part (turn_part then loop_part) (suc start) while_turn ends_guard
              ∙ length_next (body while_targets) back_part (suc while_turn) while_back ends_body;
        }
      where
        guard_part : Part
        guard_part = guarded setting function test at e (suc while_back)

        turn_part : Part
        turn_part = alone test at op.Turn

        back_part : Part
        back_part = alone join at (op.Jump start) then alone end_ at op.Mark

        loop_part : Part
        loop_part = body while_targets then back_part

        ends_guard : after (suc start) (guard_part (suc start)).ops ≡ while_turn
        ends_guard = length_given test at (value_code setting function test e) (op.Zero (suc while_back)) (suc start)

        ends_body : after (suc while_turn) (body while_targets (suc while_turn)).ops ≡ while_back
        ends_body = ((same while_targets nowhere).at (suc while_turn)).0

        from_guard : Held code ((guard_part then turn_part then loop_part) (suc start)) base (suc start)
        from_guard = held_next code (alone join at op.Mark) (guard_part then turn_part then loop_part) base start (suc start) refl refl held

        from_turn : Held code ((turn_part then loop_part) while_turn) base while_turn
        from_turn = held_next code guard_part (turn_part then loop_part) base (suc start) while_turn refl ends_guard from_guard

        from_body : Held code (loop_part (suc while_turn)) base (suc while_turn)
        from_body = held_next code turn_part loop_part base while_turn (suc while_turn) refl refl from_turn

        from_back : Held code (back_part while_back) (past base (body while_targets (suc while_turn)).cases) while_back
        from_back =
            held_back code (body while_targets) back_part base (suc while_turn) (past base (body while_targets (suc while_turn)).cases) while_back refl
            ends_body from_body

  -- ---- do

  module _ (join test end_ : ℕ) (at : Pos) (e : RightValue) (body : Targets → Part) (start : ℕ) where
    -- the condition
    abbrev pub do_test : ℕ
    do_test = after (suc (suc start)) (body nowhere (suc (suc start))).ops

    -- the jump back
    abbrev pub do_back : ℕ
    do_back = behind setting function test e do_test

    -- of the body
    abbrev pub do_targets : Targets
    do_targets = record { breaks = suc do_back; continues = do_test }

    -- each operation of a `do` is there
    pub record DoStands (base : ℕ) : Type 0 where
      pub head : Stands code join at op.Mark start
      pub turn : Stands code join at op.Turn (suc start)
      pub body_held : Held code (body do_targets (suc (suc start))) base (suc (suc start))
      pub body_ends : after (suc (suc start)) (body do_targets (suc (suc start))).ops ≡ do_test
      pub guard : Holds code do_test (guarded setting function test at e (suc do_back) do_test).ops
      pub back : Stands code join at (op.Jump start) do_back
      pub end_stands : Stands code end_ at op.Mark (suc do_back)
      pub ends : after start (do_code setting function join test end_ at e body start).ops ≡ suc (suc do_back)

    pub do_stands : (base : ℕ) → ((a b : Targets) → SameParts (body a) (body b))
        → Held code (do_code setting function join test end_ at e body start) base start → DoStands base
    do_stands base same held =
        record {
          head = held.ops.0;
          turn = held.ops.1.0;
          body_held = held_front code (body do_targets) rest_part base (suc (suc start)) from_body;
          body_ends = ends_body;
          guard = (held_front code guard_part back_part (past base (body do_targets (suc (suc start))).cases) do_test from_guard).ops;
          back = from_back.ops.0;
          end_stands = from_back.ops.1.0;
          ends =
              length_next (body do_targets) rest_part (suc (suc start)) do_test ends_body
              ∙ length_next guard_part back_part do_test do_back ends_guard;
        }
      where
        guard_part : Part
        guard_part = guarded setting function test at e (suc do_back)

        back_part : Part
        back_part = alone join at (op.Jump start) then alone end_ at op.Mark

        rest_part : Part
        rest_part = guard_part then back_part

        turn_part : Part
        turn_part = alone join at op.Turn

        ends_body : after (suc (suc start)) (body do_targets (suc (suc start))).ops ≡ do_test
        ends_body = ((same do_targets nowhere).at (suc (suc start))).0

        ends_guard : after do_test (guard_part do_test).ops ≡ do_back
        ends_guard = length_given test at (value_code setting function test e) (op.Zero (suc do_back)) do_test

        from_turn : Held code ((turn_part then body do_targets then rest_part) (suc start)) base (suc start)
        from_turn = held_next code (alone join at op.Mark) (turn_part then body do_targets then rest_part) base start (suc start) refl refl held

        from_body : Held code ((body do_targets then rest_part) (suc (suc start))) base (suc (suc start))
        from_body = held_next code turn_part (body do_targets then rest_part) base (suc start) (suc (suc start)) refl refl from_turn

        from_guard : Held code (rest_part do_test) (past base (body do_targets (suc (suc start))).cases) do_test
        from_guard =
            held_back code (body do_targets) rest_part base (suc (suc start)) (past base (body do_targets (suc (suc start))).cases) do_test refl ends_body
            from_body

        from_back : Held code (back_part do_back) (past base (body do_targets (suc (suc start))).cases) do_back
        from_back =
            held_next code guard_part back_part (past base (body do_targets (suc (suc start))).cases) do_test do_back refl ends_guard from_guard

  -- ---- for, without its first part

  length_guard : (piece : ℕ) (at : Pos) (e : Option RightValue) (target start : ℕ)
      → after start (guarded_if setting function piece at e target start).ops ≡ behind_if setting function piece e start
  length_guard piece at None target start = refl
  length_guard piece at (Some e) target start = length_given piece at (value_code setting function piece e) (op.Zero target) start

  module _ (pieces : ForPieces setting function) (at : Pos) (test step : Option RightValue) (body : Targets → Part) (start : ℕ) where
    -- Turn
    abbrev pub for_turn : ℕ
    for_turn = behind_if setting function pieces.test test (suc start)

    -- the step
    abbrev pub for_step : ℕ
    for_step = after (suc for_turn) (body nowhere (suc for_turn)).ops

    -- the jump back
    abbrev pub for_back : ℕ
    for_back = after for_step (dropped_if setting function pieces.step at step for_step).ops

    -- of the body
    abbrev pub for_targets : Targets
    for_targets = record { breaks = suc for_back; continues = for_step }

    -- each operation of a `for` is there
    pub record ForStands (base : ℕ) : Type 0 where
      pub head : Stands code pieces.join at op.Mark start
      pub guard : Holds code (suc start) (guarded_if setting function pieces.test at test (suc for_back) (suc start)).ops
      pub turn : Stands code (turn_piece setting function pieces test) at op.Turn for_turn
      pub body_held : Held code (body for_targets (suc for_turn)) base (suc for_turn)
      pub body_ends : after (suc for_turn) (body for_targets (suc for_turn)).ops ≡ for_step
      pub step_held : Holds code for_step (dropped_if setting function pieces.step at step for_step).ops
      pub back : Stands code pieces.join at (op.Jump start) for_back
      pub end_stands : Stands code pieces.end_ at op.Mark (suc for_back)
      pub ends : after start (for_code setting function pieces at test step body start).ops ≡ suc (suc for_back)

    pub for_stands : (base : ℕ) → ((a b : Targets) → SameParts (body a) (body b))
        → Held code (for_code setting function pieces at test step body start) base start → ForStands base
    for_stands base same held =
        record {
          head = held.ops.0;
          guard = (held_front code guard_part (turn_part then body for_targets then rest_part) base (suc start) from_guard).ops;
          turn = from_turn.ops.0;
          body_held = held_front code (body for_targets) rest_part base (suc for_turn) from_body;
          body_ends = ends_body;
          step_held = (held_front code step_part back_part later for_step from_step).ops;
          back = from_back.ops.0;
          end_stands = from_back.ops.1.0;
          ends =
              length_next guard_part (turn_part then body for_targets then rest_part) (suc start) for_turn ends_guard
              ∙ length_next (body for_targets) rest_part (suc for_turn) for_step ends_body
              ∙ length_next step_part back_part for_step for_back refl;
        }
      where
        guard_part : Part
        guard_part = guarded_if setting function pieces.test at test (suc for_back)

        turn_part : Part
        turn_part = alone (turn_piece setting function pieces test) at op.Turn

        step_part : Part
        step_part = dropped_if setting function pieces.step at step

        back_part : Part
        back_part = alone pieces.join at (op.Jump start) then alone pieces.end_ at op.Mark

        rest_part : Part
        rest_part = step_part then back_part

        later : ℕ
        later = past base (body for_targets (suc for_turn)).cases

        ends_guard : after (suc start) (guard_part (suc start)).ops ≡ for_turn
        ends_guard = length_guard pieces.test at test (suc for_back) (suc start)

        ends_body : after (suc for_turn) (body for_targets (suc for_turn)).ops ≡ for_step
        ends_body = ((same for_targets nowhere).at (suc for_turn)).0

        from_guard : Held code ((guard_part then turn_part then body for_targets then rest_part) (suc start)) base (suc start)
        from_guard =
            held_next code (alone pieces.join at op.Mark) (guard_part then turn_part then body for_targets then rest_part) base start (suc start) refl refl
            held

        from_turn : Held code ((turn_part then body for_targets then rest_part) for_turn) base for_turn
        from_turn =
            held_next code guard_part (turn_part then body for_targets then rest_part) base (suc start) for_turn
            ((plain_guarded setting function pieces.test at test (suc for_back)).cases (suc start)) ends_guard from_guard

        from_body : Held code ((body for_targets then rest_part) (suc for_turn)) base (suc for_turn)
        from_body = held_next code turn_part (body for_targets then rest_part) base for_turn (suc for_turn) refl refl from_turn

        from_step : Held code (rest_part for_step) later for_step
        from_step = held_back code (body for_targets) rest_part base (suc for_turn) later for_step refl ends_body from_body

        from_back : Held code (back_part for_back) later for_back
        from_back =
            held_next code step_part back_part later for_step for_back ((plain_dropped setting function pieces.step at step).cases for_step) refl from_step
