-- The code of loops in the steps that the code takes.
use Rattle.std.proofs.Common.{◌≡◌, ◌≤◌, ℕ, suc, List, [], ◌∷◌, ◌++◌, length, Some, refl, arith, sym, ◌∙◌, ap, append-nil}
use Rattle.std.proofs.lemmas.List.{append_assoc}
use Rattle.hs_base.specs.declared.pos.Pos.{Pos}
use Rattle.hs_code.specs.declared.function_code.Placed.{Placed}
use Rattle.hs_code.specs.declared.op.Op.TheVariants as op
use Rattle.hs_lower_expressions.specs.Aims.{to_break}
use Rattle.hs_lower_expressions.specs.Emits.{most_ops}
use Rattle.hs_lower_expressions.specs.EmittingLaws.{after_ops}
use Rattle.hs_lowering.specs.Laws.Jumps.{value_within}
use Rattle.hs_lowering.specs.Laws.Lengths.{same_statement}
use Rattle.hs_lowering.specs.Laws.Placing.{length_given}
use Rattle.hs_lowering.specs.Lowering.{after, operand}
use Rattle.hs_lowering.specs.Performing.{after_append}
use Rattle.hs_lowering.specs.Statements.{Part, ◌then◌, Counts, Targets, nowhere, one_piece, after_statement, placed_at, only_at, alone, given, value_code, behind, while_code, do_code, statement_code}
use Rattle.hs_meaning.specs.Settings.{Setting}
use Rattle.hs_tokens.specs.declared.place.Place.{Place}
use Rattle.hs_tree.specs.Trees as tree
use Rattle.hs_tree.specs.Trees.{RightValue, TypedStatement, TypedFunction}
use Rattle.hs_lower.specs.Aiming.{AimsAt, then_aims, alone_aims, given_aims, target_fixed, statement_aims}
use Rattle.hs_lower.specs.Writing.{fitting, ◌>>=◌, with_ops, with_part, with_pieces, counts_of, unknown, aimed_text, put_steps, given_steps, statement_steps, while_begun, while_ended, do_begun, do_ended}
use Rattle.hs_lower.specs.declared.text.Text.{Text}
use Rattle.hs_lower.proofs.Chains.{bind_same, longer, longer_part, then_ops, ops_then, two_ends, three_ends, in_three, begins_at, ends_at, part_ends, loop_long, loop_whole, already}

module _ (setting : Setting) (function : TypedFunction) (text : Text) where
  -- a condition that leaves the loop
  abbrev test_ops : ℕ → Pos → RightValue → ℕ → List Placed
  test_ops piece at e start = operand (value_code setting function piece e) (only_at piece at (op.Zero to_break)) start 0

  -- ---- while

  module _ (place : Place) (e : RightValue) (body : TypedStatement) where
    abbrev at : Pos
    at = place.pos

    -- the pieces before and after the body
    abbrev inside : Counts
    inside = one_piece (one_piece (counts_of text))

    abbrev later : ℕ
    later = (after_statement body inside).pieces

    -- the body, with unknown targets
    abbrev part : Part
    part = statement_code setting function body inside unknown

    -- `Mark, test, Zero, Turn`
    abbrev front_ops : ℕ → List Placed
    front_ops =
        then_ops (λ start. placed_at text.pieces at op.Mark 0 ∷ [])
        (then_ops (test_ops (suc text.pieces) at e) (λ start. placed_at (suc text.pieces) at op.Turn 0 ∷ []))

    abbrev front : Text
    front = with_ops front_ops (with_pieces (suc (suc text.pieces)) text)

    begun : while_begun setting function at e text ≡ fitting front
    unfolding while_begun put_steps given_steps
    begun =
        bind_same (fitting (with_ops (λ start. placed_at text.pieces at op.Mark 0 ∷ []) (with_pieces (suc (suc text.pieces)) text))) _ _
        (λ marked. ops_then (test_ops (suc text.pieces) at e) (λ start. placed_at (suc text.pieces) at op.Turn 0 ∷ []) marked)
        ∙ ops_then (λ start. placed_at text.pieces at op.Mark 0 ∷ [])
        (then_ops (test_ops (suc text.pieces) at e) (λ start. placed_at (suc text.pieces) at op.Turn 0 ∷ [])) (with_pieces (suc (suc text.pieces)) text)

    abbrev middle : Text
    middle = with_part part (with_pieces later front)

    goes : statement_steps setting function body front ≡ fitting middle
    unfolding statement_steps
    goes = refl

    abbrev last : Text
    last =
        with_ops (λ n. placed_at text.pieces at (op.Jump (length text.ops)) 0 ∷ placed_at later at op.Mark 0 ∷ []) (with_pieces (suc later) middle)

    ended : while_ended at text.pieces (length text.ops) middle
        ≡ (fitting last >>= (λ text'. Some (aimed_text (suc (length middle.ops)) (length text.ops) (length text.ops) text')))
    unfolding while_ended put_steps
    ended =
        two_ends (placed_at text.pieces at (op.Jump (length text.ops)) 0) (placed_at later at op.Mark 0) (with_pieces (suc later) middle)
        (λ breaks text'. aimed_text breaks (length text.ops) (length text.ops) text')

    -- all of it with unknown targets
    abbrev unaimed : Part
    unaimed =
        alone text.pieces at op.Mark then given (suc text.pieces) at (value_code setting function (suc text.pieces) e) (op.Zero to_break)
        then alone (suc text.pieces) at op.Turn then part
        then alone text.pieces at (op.Jump (length text.ops)) then alone later at op.Mark

    -- and the code
    abbrev its : Part
    its = while_code setting function text.pieces (suc text.pieces) later at e (statement_code setting function body inside)

    -- where the body ends
    abbrev jump_at : ℕ
    jump_at =
        after (suc (behind setting function (suc text.pieces) e (suc (length text.ops))))
        (statement_code setting function body inside nowhere (suc (behind setting function (suc text.pieces) e (suc (length text.ops))))).ops

    abbrev targets : Targets
    targets = record { breaks = suc jump_at; continues = length text.ops }

    aimed : length text.ops ≤ most_ops → AimsAt targets unaimed its (length text.ops)
    aimed few = record { long = all.long; aims = all.aims }
      where
        all : AimsAt targets unaimed (alone text.pieces at op.Mark
            then given (suc text.pieces) at (value_code setting function (suc text.pieces) e) (op.Zero (suc jump_at))
            then alone (suc text.pieces) at op.Turn then statement_code setting function body inside targets
            then alone text.pieces at (op.Jump (length text.ops)) then alone later at op.Mark) (length text.ops)
        all =
            then_aims targets (alone_aims targets text.pieces at op.Mark op.Mark _ refl)
            (then_aims targets (given_aims targets (suc text.pieces) at (value_code setting function (suc text.pieces) e) (op.Zero to_break)
            (op.Zero (suc jump_at)) _ (value_within setting function (suc text.pieces) e) refl)
            (then_aims targets (alone_aims targets (suc text.pieces) at op.Turn op.Turn _ refl)
            (then_aims targets (statement_aims targets setting function body inside unknown _)
            (then_aims targets (alone_aims targets text.pieces at (op.Jump (length text.ops)) (op.Jump (length text.ops)) _
            (ap op.Jump (sym (target_fixed targets (length text.ops) (omega (arith, few)))))) (alone_aims targets later at op.Mark op.Mark _ refl)))))

    abbrev back_ops : ℕ → List Placed
    back_ops n = placed_at text.pieces at (op.Jump (length text.ops)) 0 ∷ placed_at later at op.Mark 0 ∷ []

    abbrev test_list : List Placed
    test_list = test_ops (suc text.pieces) at e (suc (length text.ops))

    -- where the body begins
    body_at : begins_at text front_ops back_ops part ≡ suc (after (suc (length text.ops)) test_list)
    body_at = after_append (suc (length text.ops)) (test_ops (suc text.pieces) at e (suc (length text.ops))) (placed_at (suc text.pieces) at op.Turn 0 ∷ [])

    -- the first operation of the body, as the definition counts it
    begins_there : suc (behind setting function (suc text.pieces) e (suc (length text.ops))) ≡ begins_at text front_ops back_ops part
    begins_there =
        ap suc (sym (length_given (suc text.pieces) at (value_code setting function (suc text.pieces) e) (op.Zero to_break) (suc (length text.ops))))
        ∙ sym body_at

    -- and the operation after the body
    ends_there : jump_at ≡ length middle.ops
    ends_there =
        sym ((same_statement setting function body inside unknown nowhere).at (suc (behind setting function (suc text.pieces) e (suc (length text.ops))))).0
        ∙ ap (λ n. after n (part n).ops) begins_there
        ∙ sym (part_ends text front_ops back_ops part)

    shape : (unaimed (length text.ops)).ops
        ≡ front_ops (length text.ops)
        ++ ((part (begins_at text front_ops back_ops part)).ops
        ++ back_ops (ends_at text front_ops back_ops part))
    shape =
        ap (λ n. placed_at text.pieces at op.Mark 0 ∷ (test_ops (suc text.pieces) at e (suc (length text.ops))
        ++ (placed_at (suc text.pieces) at op.Turn 0 ∷ ((part n).ops ++ back_ops 0)))) (sym body_at)
        ∙ ap (λ list. placed_at text.pieces at op.Mark 0 ∷ list)
        (sym (append_assoc (test_ops (suc text.pieces) at e (suc (length text.ops))) (placed_at (suc text.pieces) at op.Turn 0 ∷ [])
        ((part (begins_at text front_ops back_ops part)).ops
        ++ back_ops 0)))

    shape_cases : (unaimed (length text.ops)).cases
        ≡ (part (begins_at text front_ops back_ops part)).cases
    shape_cases = ap (λ n. (part n).cases ++ []) (sym body_at) ∙ append-nil _

    pub while_steps : statement_steps setting function (tree.while_ place e body) text
        ≡ (while_begun setting function at e text
        >>= (λ begun. statement_steps setting function body begun >>= (λ inner. while_ended at text.pieces (length text.ops) inner)))
    unfolding statement_steps
    while_steps =
        sym (ap (λ x. x >>= (λ begun. statement_steps setting function body begun >>= (λ inner. while_ended at text.pieces (length text.ops) inner))) begun
        ∙ already text front whole _ (longer front_ops (with_pieces (suc (suc text.pieces)) text)) (longer_part its text)
        (λ few. in_three front middle last (statement_steps setting function body) (while_ended at text.pieces (length text.ops))
        (aimed_text (suc (length middle.ops)) (length text.ops) (length text.ops)) whole goes ended (same few)
        (loop_long text front_ops back_ops part unaimed its targets shape shape_cases (aimed few))
        (longer_part part (with_pieces later front)) (longer back_ops (with_pieces (suc later) middle))))
      where
        whole : Text
        whole = with_part its (with_pieces (suc later) text)

        same : length text.ops ≤ most_ops → length last.ops ≤ most_ops
            → aimed_text (suc (length middle.ops)) (length text.ops) (length text.ops) last ≡ whole
        same few fewer =
            ap (λ n. aimed_text n (length text.ops) (length text.ops) last) (ap suc (sym ends_there))
            ∙ loop_whole text front_ops back_ops part unaimed its targets shape shape_cases (aimed few) (suc later) fewer

  -- ---- do

  module _ (place : Place) (body : TypedStatement) (e : RightValue) where
    abbrev do_at : Pos
    do_at = place.pos

    -- the pieces before and after the body
    abbrev do_inside : Counts
    do_inside = one_piece (counts_of text)

    abbrev do_later : ℕ
    do_later = (after_statement body do_inside).pieces

    abbrev do_part : Part
    do_part = statement_code setting function body do_inside unknown

    -- `Mark, Turn`
    abbrev do_front : ℕ → List Placed
    do_front start = placed_at text.pieces do_at op.Mark 0 ∷ placed_at text.pieces do_at op.Turn 0 ∷ []

    -- `test, Zero, Jump, Mark`
    abbrev do_back : ℕ → List Placed
    do_back =
        then_ops (test_ops do_later do_at e)
        (λ n. placed_at text.pieces do_at (op.Jump (length text.ops)) 0 ∷ placed_at (suc do_later) do_at op.Mark 0 ∷ [])

    abbrev do_first : Text
    do_first = with_ops do_front (with_pieces (suc text.pieces) text)

    do_begins : do_begun do_at text ≡ fitting do_first
    unfolding do_begun put_steps
    do_begins =
        ops_then (λ start. placed_at text.pieces do_at op.Mark 0 ∷ []) (λ start. placed_at text.pieces do_at op.Turn 0 ∷ [])
        (with_pieces (suc text.pieces) text)

    abbrev do_middle : Text
    do_middle = with_part do_part (with_pieces do_later do_first)

    do_goes : statement_steps setting function body do_first ≡ fitting do_middle
    unfolding statement_steps
    do_goes = refl

    abbrev do_last : Text
    do_last = with_ops do_back (with_pieces (suc (suc do_later)) do_middle)

    -- the operation after the loop
    abbrev do_end : ℕ
    do_end = suc (length (do_middle.ops ++ test_ops do_later do_at e (length do_middle.ops)))

    do_ends : do_ended setting function do_at e text.pieces (length text.ops) do_middle
        ≡ (fitting do_last >>= (λ text'. Some (aimed_text do_end (length do_middle.ops) (length text.ops) text')))
    unfolding do_ended put_steps given_steps
    do_ends =
        three_ends (test_ops do_later do_at e) (placed_at text.pieces do_at (op.Jump (length text.ops)) 0) (placed_at (suc do_later) do_at op.Mark 0)
        (with_pieces (suc (suc do_later)) do_middle) (λ breaks text'. aimed_text breaks (length do_middle.ops) (length text.ops) text')

    abbrev do_unaimed : Part
    do_unaimed =
        alone text.pieces do_at op.Mark then alone text.pieces do_at op.Turn then do_part
        then given do_later do_at (value_code setting function do_later e) (op.Zero to_break)
        then alone text.pieces do_at (op.Jump (length text.ops)) then alone (suc do_later) do_at op.Mark

    abbrev do_its : Part
    do_its = do_code setting function text.pieces do_later (suc do_later) do_at e (statement_code setting function body do_inside)

    -- where the body ends
    abbrev test_at : ℕ
    test_at = after (suc (suc (length text.ops))) (statement_code setting function body do_inside nowhere (suc (suc (length text.ops)))).ops

    abbrev do_targets : Targets
    do_targets = record { breaks = suc (behind setting function do_later e test_at); continues = test_at }

    do_aimed : length text.ops ≤ most_ops → AimsAt do_targets do_unaimed do_its (length text.ops)
    do_aimed few = record { long = all.long; aims = all.aims }
      where
        all : AimsAt do_targets do_unaimed (alone text.pieces do_at op.Mark then alone text.pieces do_at op.Turn
            then statement_code setting function body do_inside do_targets
            then given do_later do_at (value_code setting function do_later e) (op.Zero (suc (behind setting function do_later e test_at)))
            then alone text.pieces do_at (op.Jump (length text.ops)) then alone (suc do_later) do_at op.Mark) (length text.ops)
        all =
            then_aims do_targets (alone_aims do_targets text.pieces do_at op.Mark op.Mark _ refl)
            (then_aims do_targets (alone_aims do_targets text.pieces do_at op.Turn op.Turn _ refl)
            (then_aims do_targets (statement_aims do_targets setting function body do_inside unknown _)
            (then_aims do_targets (given_aims do_targets do_later do_at (value_code setting function do_later e) (op.Zero to_break)
            (op.Zero (suc (behind setting function do_later e test_at))) _ (value_within setting function do_later e) refl)
            (then_aims do_targets (alone_aims do_targets text.pieces do_at (op.Jump (length text.ops)) (op.Jump (length text.ops)) _
            (ap op.Jump (sym (target_fixed do_targets (length text.ops) (omega (arith, few))))))
            (alone_aims do_targets (suc do_later) do_at op.Mark op.Mark _ refl)))))

    do_test_at : test_at ≡ length do_middle.ops
    do_test_at =
        sym ((same_statement setting function body do_inside unknown nowhere).at (suc (suc (length text.ops)))).0
        ∙ sym (part_ends text do_front do_back do_part)

    do_end_at : suc (behind setting function do_later e test_at) ≡ do_end
    do_end_at =
        ap (λ n. suc (behind setting function do_later e n)) do_test_at
        ∙ ap suc (sym (length_given do_later do_at (value_code setting function do_later e) (op.Zero to_break) (length do_middle.ops)))
        ∙ ap suc (after_ops do_middle.ops (test_ops do_later do_at e (length do_middle.ops)))

    pub do_steps : statement_steps setting function (tree.do_ place body e) text
        ≡ (do_begun do_at text
        >>= (λ begun. statement_steps setting function body begun >>= (λ inner. do_ended setting function do_at e text.pieces (length text.ops) inner)))
    unfolding statement_steps
    do_steps =
        sym (ap (λ x. x >>= (λ begun. statement_steps setting function body begun
        >>= (λ inner. do_ended setting function do_at e text.pieces (length text.ops) inner))) do_begins
        ∙ already text do_first whole _ (longer do_front (with_pieces (suc text.pieces) text)) (longer_part do_its text)
        (λ few. in_three do_first do_middle do_last (statement_steps setting function body) (do_ended setting function do_at e text.pieces (length text.ops))
        (aimed_text do_end (length do_middle.ops) (length text.ops)) whole do_goes do_ends (same few)
        (loop_long text do_front do_back do_part do_unaimed do_its do_targets refl (append-nil _) (do_aimed few))
        (longer_part do_part (with_pieces do_later do_first)) (longer do_back (with_pieces (suc (suc do_later)) do_middle))))
      where
        whole : Text
        whole = with_part do_its (with_pieces (suc (suc do_later)) text)

        same : length text.ops ≤ most_ops → length do_last.ops ≤ most_ops → aimed_text do_end (length do_middle.ops) (length text.ops) do_last ≡ whole
        same few fewer =
            ap (λ n. aimed_text n (length do_middle.ops) (length text.ops) do_last) (sym do_end_at)
            ∙ ap (λ n. aimed_text (suc (behind setting function do_later e test_at)) n (length text.ops) do_last) (sym do_test_at)
            ∙ loop_whole text do_front do_back do_part do_unaimed do_its do_targets refl (append-nil _) (do_aimed few) (suc (suc do_later)) fewer
