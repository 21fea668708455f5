-- The code of `for` in the steps that the code takes.
use Rattle.std.proofs.Common.{◌≡◌, ◌≤◌, ℕ, suc, List, [], ◌∷◌, ◌++◌, length, Option, Some, None, refl, arith, sym, ◌∙◌, ap, subst, append-nil}
use Rattle.std.proofs.lemmas.List.{append_assoc}
use Rattle.hs_base.specs.declared.pos.Pos.{Pos}
use Rattle.hs_code.specs.declared.function_code.Case.{Case}
use Rattle.hs_code.specs.declared.function_code.Placed.{Placed}
use Rattle.hs_code.specs.declared.op.Op.TheVariants as op
use Rattle.hs_lower_expressions.specs.Aims.{to_break}
use Rattle.hs_lower_expressions.specs.Emits.{most_ops}
use Rattle.hs_lower_expressions.specs.EmittingLaws.{after_ops}
use Rattle.hs_lowering.specs.Laws.Jumps.{right_within}
use Rattle.hs_lowering.specs.Laws.Lengths.{same_statement, piece_same}
use Rattle.hs_lowering.specs.Laws.Placing.{length_given}
use Rattle.hs_lowering.specs.Lowering.{after}
use Rattle.hs_lowering.specs.Performing.{after_append}
use Rattle.hs_lowering.specs.Statements.{Part, ◌then◌, Counts, Targets, ForPieces, nowhere, one_piece, piece_for, after_statement, placed_at, alone, value_code, behind_if, guarded_if, dropped_if, turn_piece, for_code, statement_code}
use Rattle.hs_meaning.specs.Settings.{Setting}
use Rattle.hs_tokens.specs.declared.place.Place.{Place}
use Rattle.hs_tree.specs.Trees as tree
use Rattle.hs_tree.specs.Trees.{RightValue, TypedStatement, TypedFunction}
use Rattle.hs_lower.specs.Aiming.{AimsAt, then_aims, nothing_aims, alone_aims, given_aims, target_fixed, statement_aims}
use Rattle.hs_lower.specs.Writing.{fitting, ◌>>=◌, with_ops, with_part, with_pieces, counts_of, unknown, turn_at, first_part, aimed_text, put_steps, given_steps, dropped_steps, guarded_steps, statement_steps, for_begun, for_ended}
use Rattle.hs_lower.specs.declared.text.Text.{Text}
use Rattle.hs_lower.proofs.Chains.{bind_same, longer, longer_part, repieced, known, then_ops, ops_then, two_ends, three_ends, part_behind, in_three, begins_at, ends_at, part_ends, loop_long, loop_whole, already}

module _ (setting : Setting) (function : TypedFunction) where
  -- ---- parts that may be absent

  module _ (piece : ℕ) (at : Pos) where
    -- the condition, and the step
    abbrev guard_ops : Option RightValue → ℕ → List Placed
    guard_ops test n = (guarded_if setting function piece at test to_break n).ops

    abbrev drop_ops : Option RightValue → ℕ → List Placed
    drop_ops step n = (dropped_if setting function piece at step n).ops

    guard_long : (test : Option RightValue) (n : ℕ) → after n (guard_ops test n) ≡ behind_if setting function piece test n
    guard_long None n = refl
    guard_long (Some e) n = length_given piece at (value_code setting function piece e) (op.Zero to_break) n

    guard_aims : (targets : Targets) (test : Option RightValue) (n : ℕ)
        → AimsAt targets (guarded_if setting function piece at test to_break) (guarded_if setting function piece at test targets.breaks) n
    guard_aims targets None n = nothing_aims targets n
    guard_aims targets (Some e) n =
        given_aims targets piece at (value_code setting function piece e) (op.Zero to_break) (op.Zero targets.breaks) n
        (right_within setting function.variables piece e) refl

    drop_aims : (targets : Targets) (step : Option RightValue) (n : ℕ)
        → AimsAt targets (dropped_if setting function piece at step) (dropped_if setting function piece at step) n
    drop_aims targets None n = nothing_aims targets n
    drop_aims targets (Some e) n =
        given_aims targets piece at (value_code setting function piece e) op.Drop op.Drop n (right_within setting function.variables piece e) refl

    guard_cases : (test : Option RightValue) (target n : ℕ) → (guarded_if setting function piece at test target n).cases ≡ []
    guard_cases None target n = refl
    guard_cases (Some e) target n = refl

    drop_cases : (step : Option RightValue) (n : ℕ) → (dropped_if setting function piece at step n).cases ≡ []
    drop_cases None n = refl
    drop_cases (Some e) n = refl

    guard_then : (test : Option RightValue) (back : ℕ → List Placed) (text : Text)
        → (guarded_steps setting function piece at test text >>= (λ tested. fitting (with_ops back tested)))
        ≡ fitting (with_ops (then_ops (guard_ops test) back) text)
    unfolding given_steps
    guard_then None back text = refl
    guard_then (Some e) back text = ops_then (guard_ops (Some e)) back text

    drop_then : (step : Option RightValue) (x y : Placed) (text : Text) (final : ℕ → Text → Text)
        → (dropped_steps setting function piece at step text
        >>= (λ stepped. fitting (with_ops (λ start. x ∷ []) stepped)
        >>= (λ turned. fitting (with_ops (λ start. y ∷ []) turned) >>= (λ last. Some (final (length turned.ops) last)))))
        ≡ (fitting (with_ops (then_ops (drop_ops step) (λ start. x ∷ y ∷ [])) text)
        >>= (λ last. Some (final (suc (length (text.ops ++ drop_ops step (length text.ops)))) last)))
    unfolding given_steps
    drop_then None x y text final =
        two_ends x y text final
        ∙ ap (λ n. fitting (with_ops (λ start. x ∷ y ∷ []) text) >>= (λ last. Some (final (suc n) last))) (ap length (sym (append-nil text.ops)))
    drop_then (Some e) x y text final = three_ends (drop_ops (Some e)) x y text final

  turn_same : (join step end_ : ℕ) (test : Option RightValue)
      → turn_piece setting function (record { join = join; test = suc join; step = step; end_ = end_ }) test ≡ turn_at join test
  turn_same join step end_ None = refl
  turn_same join step end_ (Some e) = refl

  -- ---- the loop, after its first part

  module _ (text : Text) (at : Pos) (test step : Option RightValue) (body : TypedStatement) where
    -- the pieces before the body and after it, and that of the step
    abbrev inside : Counts
    inside = piece_for step (piece_for test (one_piece (counts_of text)))

    abbrev later : ℕ
    later = (after_statement body inside).pieces

    abbrev step_piece : ℕ
    step_piece = (piece_for test (one_piece (counts_of text))).pieces

    abbrev pieces : ForPieces setting function
    pieces = record { join = text.pieces; test = suc text.pieces; step = step_piece; end_ = later }

    abbrev part : Part
    part = statement_code setting function body inside unknown

    -- `Mark, test, Zero, Turn`
    abbrev front_ops : ℕ → List Placed
    front_ops =
        then_ops (λ n. placed_at text.pieces at op.Mark 0 ∷ [])
        (then_ops (guard_ops (suc text.pieces) at test) (λ n. placed_at (turn_at text.pieces test) at op.Turn 0 ∷ []))

    -- `step, Drop, Jump, Mark`
    abbrev back_ops : ℕ → List Placed
    back_ops =
        then_ops (drop_ops step_piece at step) (λ n. placed_at text.pieces at (op.Jump (length text.ops)) 0 ∷ placed_at later at op.Mark 0 ∷ [])

    abbrev front : Text
    front = with_ops front_ops (with_pieces inside.pieces text)

    begun : for_begun setting function at test step text ≡ fitting front
    unfolding for_begun put_steps
    begun =
        bind_same (fitting (with_ops (λ n. placed_at text.pieces at op.Mark 0 ∷ []) (with_pieces inside.pieces text))) _ _
        (λ marked. guard_then (suc text.pieces) at test (λ n. placed_at (turn_at text.pieces test) at op.Turn 0 ∷ []) marked)
        ∙ ops_then (λ n. placed_at text.pieces at op.Mark 0 ∷ [])
        (then_ops (guard_ops (suc text.pieces) at test) (λ n. placed_at (turn_at text.pieces test) at op.Turn 0 ∷ [])) (with_pieces inside.pieces text)

    abbrev middle : Text
    middle = with_part part (with_pieces later front)

    goes : inside.cases ≡ length text.cases → statement_steps setting function body front ≡ fitting middle
    unfolding statement_steps
    goes same = ap (λ n. fitting (with_part (statement_code setting function body (record { pieces = inside.pieces; cases = n }) unknown)
        (with_pieces (after_statement body (record { pieces = inside.pieces; cases = n })).pieces front))) (sym same)

    abbrev last : Text
    last = with_ops back_ops (with_pieces (suc later) middle)

    -- the operation after the loop
    abbrev end_at : ℕ
    end_at = suc (length (middle.ops ++ drop_ops step_piece at step (length middle.ops)))

    ended : for_ended setting function at step step_piece text.pieces (length text.ops) middle
        ≡ (fitting last >>= (λ text'. Some (aimed_text end_at (length middle.ops) (length text.ops) text')))
    unfolding for_ended put_steps
    ended =
        drop_then step_piece at step (placed_at text.pieces at (op.Jump (length text.ops)) 0) (placed_at later at op.Mark 0) (with_pieces (suc later) middle)
        (λ breaks text'. aimed_text breaks (length middle.ops) (length text.ops) text')

    abbrev unaimed : Part
    unaimed =
        alone text.pieces at op.Mark then guarded_if setting function (suc text.pieces) at test to_break
        then alone (turn_at text.pieces test) at op.Turn then part then dropped_if setting function step_piece at step
        then alone text.pieces at (op.Jump (length text.ops)) then alone later at op.Mark

    abbrev its : Part
    its = for_code setting function pieces at test step (statement_code setting function body inside)

    -- where the body ends, and the step
    abbrev step_at : ℕ
    step_at =
        after (suc (behind_if setting function (suc text.pieces) test (suc (length text.ops))))
        (statement_code setting function body inside nowhere (suc (behind_if setting function (suc text.pieces) test (suc (length text.ops))))).ops

    abbrev jump_at : ℕ
    jump_at = after step_at (drop_ops step_piece at step step_at)

    abbrev targets : Targets
    targets = record { breaks = suc jump_at; continues = step_at }

    aimed : length text.ops ≤ most_ops → AimsAt targets unaimed its (length text.ops)
    aimed few = record { long = all.long; aims = all.aims }
      where
        all : AimsAt targets unaimed (alone text.pieces at op.Mark then guarded_if setting function (suc text.pieces) at test (suc jump_at)
            then alone (turn_piece setting function pieces test) at op.Turn then statement_code setting function body inside targets
            then dropped_if setting function step_piece at step then alone text.pieces at (op.Jump (length text.ops)) then alone later at op.Mark)
            (length text.ops)
        all =
            then_aims targets (alone_aims targets text.pieces at op.Mark op.Mark _ refl)
            (then_aims targets (guard_aims (suc text.pieces) at targets test _)
            (then_aims targets (turn_aims _)
            (then_aims targets (statement_aims targets setting function body inside unknown _)
            (then_aims targets (drop_aims step_piece at targets step _)
            (then_aims targets (alone_aims targets text.pieces at (op.Jump (length text.ops)) (op.Jump (length text.ops)) _
            (ap op.Jump (sym (target_fixed targets (length text.ops) (omega (arith, few)))))) (alone_aims targets later at op.Mark op.Mark _ refl))))))
          where
            turn_aims : (n : ℕ) → AimsAt targets (alone (turn_at text.pieces test) at op.Turn) (alone (turn_piece setting function pieces test) at op.Turn) n
            turn_aims n =
                subst (λ piece. AimsAt targets (alone (turn_at text.pieces test) at op.Turn) (alone piece at op.Turn) n)
                (sym (turn_same text.pieces step_piece later test)) (alone_aims targets (turn_at text.pieces test) at op.Turn op.Turn n refl)

    -- where the body begins
    body_at : begins_at text front_ops back_ops part ≡ suc (after (suc (length text.ops)) (guard_ops (suc text.pieces) at test (suc (length text.ops))))
    body_at =
        after_append (suc (length text.ops)) (guard_ops (suc text.pieces) at test (suc (length text.ops)))
        (placed_at (turn_at text.pieces test) at op.Turn 0 ∷ [])

    begins_there : suc (behind_if setting function (suc text.pieces) test (suc (length text.ops))) ≡ begins_at text front_ops back_ops part
    begins_there = ap suc (sym (guard_long (suc text.pieces) at test (suc (length text.ops)))) ∙ sym body_at

    step_there : step_at ≡ length middle.ops
    step_there =
        sym ((same_statement setting function body inside unknown nowhere).at
        (suc (behind_if setting function (suc text.pieces) test (suc (length text.ops))))).0
        ∙ ap (λ n. after n (part n).ops) begins_there ∙ sym (part_ends text front_ops back_ops part)

    end_there : suc jump_at ≡ end_at
    end_there =
        ap (λ n. suc (after n (drop_ops step_piece at step n))) step_there
        ∙ ap suc (after_ops middle.ops (drop_ops step_piece at step (length middle.ops)))

    shape : (unaimed (length text.ops)).ops
        ≡ front_ops (length text.ops)
        ++ ((part (begins_at text front_ops back_ops part)).ops ++ back_ops (ends_at text front_ops back_ops part))
    shape =
        ap (λ n. placed_at text.pieces at op.Mark 0 ∷ (guard_ops (suc text.pieces) at test (suc (length text.ops))
        ++ (placed_at (turn_at text.pieces test) at op.Turn 0 ∷ ((part n).ops ++ back_ops (after n (part n).ops))))) (sym body_at)
        ∙ ap (λ list. placed_at text.pieces at op.Mark 0 ∷ list)
        (sym (append_assoc (guard_ops (suc text.pieces) at test (suc (length text.ops))) (placed_at (turn_at text.pieces test) at op.Turn 0 ∷ [])
        ((part (begins_at text front_ops back_ops part)).ops ++ back_ops (ends_at text front_ops back_ops part))))

    shape_cases : (unaimed (length text.ops)).cases ≡ (part (begins_at text front_ops back_ops part)).cases
    shape_cases =
        between (guarded_if setting function (suc text.pieces) at test to_break (suc (length text.ops))).cases _
        (dropped_if setting function step_piece at step _).cases (guard_cases (suc text.pieces) at test to_break (suc (length text.ops)))
        (drop_cases step_piece at step _)
        ∙ ap (λ n. (part n).cases) (sym body_at)
      where
        between : (a b c : List Case) → a ≡ [] → c ≡ [] → a ++ (b ++ (c ++ [])) ≡ b
        between a b c none none' = ap (λ list. list ++ (b ++ (c ++ []))) none ∙ ap (λ list. b ++ (list ++ [])) none' ∙ append-nil b

    cases_same : inside.cases ≡ length text.cases
    cases_same = piece_same step (piece_for test (one_piece (counts_of text))) ∙ piece_same test (one_piece (counts_of text))

    -- the loop
    loop_steps : fitting (with_part its (with_pieces (suc later) text))
        ≡ (for_begun setting function at test step text
        >>= (λ begun. statement_steps setting function body begun
        >>= (λ inner. for_ended setting function at step step_piece text.pieces (length text.ops) inner)))
    loop_steps =
        sym (ap (λ x. x >>= (λ begun. statement_steps setting function body begun
        >>= (λ inner. for_ended setting function at step step_piece text.pieces (length text.ops) inner))) begun
        ∙ already text front whole _ (longer front_ops (with_pieces inside.pieces text)) (longer_part its text)
        (λ few. in_three front middle last (statement_steps setting function body)
        (for_ended setting function at step step_piece text.pieces (length text.ops)) (aimed_text end_at (length middle.ops) (length text.ops)) whole
        (goes cases_same) ended (same few) (loop_long text front_ops back_ops part unaimed its targets shape shape_cases (aimed few))
        (longer_part part (with_pieces later front)) (longer back_ops (with_pieces (suc later) middle))))
      where
        whole : Text
        whole = with_part its (with_pieces (suc later) text)

        same : length text.ops ≤ most_ops → length last.ops ≤ most_ops → aimed_text end_at (length middle.ops) (length text.ops) last ≡ whole
        same few fewer =
            ap (λ n. aimed_text n (length middle.ops) (length text.ops) last) (sym end_there)
            ∙ ap (λ n. aimed_text (suc jump_at) n (length text.ops) last) (sym step_there)
            ∙ loop_whole text front_ops back_ops part unaimed its targets shape shape_cases (aimed few) (suc later) fewer

  -- the whole statement
  module _ (place : Place) (test step : Option RightValue) (body : TypedStatement) where
    abbrev pub after_first : Text → Option Text
    after_first text =
        for_begun setting function place.pos test step text
        >>= (λ begun. statement_steps setting function body begun
        >>= (λ inner. for_ended setting function place.pos step (piece_for test (one_piece (counts_of text))).pieces text.pieces (length text.ops) inner))

    for_steps : (text : Text)
        → statement_steps setting function (tree.for_ place None test step body) text ≡ after_first text
    unfolding statement_steps
    for_steps text = loop_steps text place.pos test step body

    for_first_steps : (e : RightValue) (text : Text)
        → statement_steps setting function (tree.for_ place (Some e) test step body) text
        ≡ (given_steps setting function text.pieces place.pos e op.Drop (with_pieces (suc text.pieces) text) >>= after_first)
    unfolding statement_steps given_steps
    for_first_steps e text =
        sym (part_behind first_ops (its mid place.pos test step body) (with_pieces ends_with text))
        ∙ sym (repieced (with_ops first_ops text) (suc text.pieces) ends_with (λ mid'. fitting (with_part (its mid place.pos test step body) mid')))
        ∙ known mid (λ mid'. fitting (with_part (its mid place.pos test step body) (with_pieces ends_with mid'))) after_first
        (loop_steps mid place.pos test step body)
      where
        first_ops : ℕ → List Placed
        first_ops n = (dropped_if setting function text.pieces place.pos (Some e) n).ops

        mid : Text
        mid = with_ops first_ops (with_pieces (suc text.pieces) text)

        ends_with : ℕ
        ends_with = suc (later mid place.pos test step body)

    pub for_whole : (first : Option RightValue) (text : Text)
        → statement_steps setting function (tree.for_ place first test step body) text
        ≡ (first_part setting function place.pos first text >>= after_first)
    unfolding first_part
    for_whole None text = for_steps text
    for_whole (Some e) text = for_first_steps e text
