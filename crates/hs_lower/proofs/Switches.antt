-- The code of switches in the steps that the code takes.
use Rattle.std.proofs.Common.{◌≡◌, ◌≤◌, ◌-◌, ℕ, suc, List, [], ◌∷◌, ◌++◌, length, Some, refl, arith, sym, ◌∙◌, ap, append-nil}
use Rattle.std.specs.Prelude.{slice_set}
use Rattle.std.proofs.lemmas.List.{append_assoc, length-append, length-set}
use Rattle.hs_base.specs.declared.pos.Pos.{Pos}
use Rattle.hs_code.specs.declared.function_code.Placed.{Placed}
use Rattle.hs_code.specs.declared.op.Goal.{Goal}
use Rattle.hs_code.specs.declared.op.Op.TheVariants as op
use Rattle.hs_lower_expressions.specs.Aims.{to_continue, aimed_from}
use Rattle.hs_lower_expressions.specs.Emits.{most_ops}
use Rattle.hs_lower_expressions.specs.EmittingLaws.{after_ops}
use Rattle.hs_lowering.specs.Laws.Jumps.{right_within}
use Rattle.hs_lowering.specs.Laws.Lengths.{same_block, block_labels_counted}
use Rattle.hs_lowering.specs.Laws.Placing.{past_length, length_given}
use Rattle.hs_lowering.specs.Lowering.{after}
use Rattle.hs_lowering.specs.Statements.{Part, ◌then◌, Counts, Targets, nowhere, one_piece, after_block, cases_of_block, placed_at, alone, given, cases_in, default_in, value_code, behind, switch_code, block_code}
use Rattle.hs_meaning.specs.Settings.{Setting}
use Rattle.hs_tokens.specs.declared.place.Place.{Place}
use Rattle.hs_tree.specs.Trees as tree
use Rattle.hs_tree.specs.Trees.{RightValue, TypedBlock, TypedFunction}
use Rattle.hs_tree.specs.declared.statement.Label.{Label}
use Rattle.hs_lower.specs.Aiming.{AimsAt, then_aims, alone_aims, given_aims, block_aims}
use Rattle.hs_lower.specs.Writing.{fitting, ◌>>=◌, with_ops, with_part, with_pieces, counts_of, unknown, nowhere_yet, replaced, aimed_text, put_steps, given_steps, statement_steps, block_steps, switch_begun, switch_ended}
use Rattle.hs_lower.specs.declared.text.Text.{Text}
use Rattle.hs_lower.proofs.Ifs.{value_ops, patched, block_counts}
use Rattle.hs_lower.proofs.Chains.{known, longer, longer_part, in_three, already, same_ops, aimed_part, aimed_length}

module _ (setting : Setting) (function : TypedFunction) where
  module _ (text : Text) (place : Place) (e : RightValue) (it : TypedBlock) where
    abbrev at : Pos
    at = place.pos

    -- the counts before the block and after it
    abbrev inside : Counts
    inside = one_piece (counts_of text)

    abbrev later : Counts
    later = after_block it inside

    abbrev part : Part
    part = block_code setting function it inside unknown

    abbrev front : Text
    front = with_ops (value_ops setting function text.pieces at e (op.Choose nowhere_yet)) (with_pieces (suc text.pieces) text)

    abbrev middle : Text
    middle = with_part part (with_pieces later.pieces front)

    abbrev last : Text
    last = with_ops (λ n. placed_at later.pieces at op.Mark 0 ∷ []) (with_pieces (suc later.pieces) middle)

    goes : block_steps setting function it front ≡ fitting middle
    unfolding block_steps
    goes = refl

    abbrev labels : List (Label × ℕ)
    labels = (part (length front.ops)).labels

    abbrev goal : Goal
    goal = record { first = length middle.cases; end = length (middle.cases ++ cases_in labels); default = default_in labels (length middle.ops) }

    abbrev final : Text → Text
    final text' =
        aimed_text (length middle.ops) to_continue (length text.ops) (replaced (length front.ops - 1) (placed_at text.pieces at (op.Choose goal) 1)
        (record { ops = text'.ops; cases = text'.cases ++ cases_in labels; pieces = text'.pieces }))

    ended : switch_ended at text.pieces (length front.ops - 1) (length text.ops) labels middle ≡ (fitting last >>= (λ text'. Some (final text')))
    unfolding switch_ended put_steps
    ended = refl

    abbrev its : Part
    its = switch_code setting function text.pieces later.pieces at e later.cases (cases_of_block it later.cases) (block_code setting function it inside) unknown

    -- the block, and the operation after it, as the definition counts them
    abbrev block_at : ℕ
    block_at = behind setting function text.pieces e (length text.ops)

    abbrev break_at : ℕ
    break_at = after block_at (block_code setting function it inside nowhere block_at).ops

    abbrev labels_there : List (Label × ℕ)
    labels_there = (block_code setting function it inside nowhere block_at).labels

    abbrev goal_there : Goal
    goal_there = record { first = later.cases; end = cases_of_block it later.cases; default = default_in labels_there break_at }

    begins : length front.ops ≡ block_at
    begins =
        sym (after_ops text.ops (value_ops setting function text.pieces at e (op.Choose nowhere_yet) (length text.ops)))
        ∙ length_given text.pieces at (value_code setting function text.pieces e) (op.Choose nowhere_yet) (length text.ops)

    ends : length middle.ops ≡ break_at
    ends =
        sym (after_ops front.ops (part (length front.ops)).ops) ∙ ap (λ n. after n (part n).ops) begins
        ∙ ((same_block setting function it inside unknown nowhere).at block_at).0

    labels_same : labels ≡ labels_there
    labels_same = ap (λ n. (part n).labels) begins ∙ ((same_block setting function it inside unknown nowhere).at block_at).1

    first_same : length middle.cases ≡ later.cases
    first_same = ap (λ counts. counts.cases) (block_counts setting function it unknown front)

    end_same : length (middle.cases ++ cases_in labels) ≡ cases_of_block it later.cases
    end_same =
        length-append middle.cases (cases_in labels) ∙ sym (past_length (length middle.cases) (cases_in labels))
        ∙ block_labels_counted setting function it inside unknown (length front.ops) (length middle.cases) ∙ ap (cases_of_block it) first_same

    goal_same : goal ≡ goal_there
    goal_same =
        ap (λ n. record { first = n; end = length (middle.cases ++ cases_in labels); default = default_in labels (length middle.ops) }) first_same
        ∙ ap (λ n. record { first = later.cases; end = n; default = default_in labels (length middle.ops) }) end_same
        ∙ ap (λ list. record { first = later.cases; end = cases_of_block it later.cases; default = default_in list (length middle.ops) }) labels_same
        ∙ ap (λ n. record { first = later.cases; end = cases_of_block it later.cases; default = default_in labels_there n }) ends

    -- with the choice, before and after its jumps are aimed
    abbrev unaimed : Part
    unaimed = given text.pieces at (value_code setting function text.pieces e) (op.Choose goal_there) then part then alone later.pieces at op.Mark

    abbrev targets : Targets
    targets = record { breaks = break_at; continues = to_continue }

    abbrev aimed : Part
    aimed =
        given text.pieces at (value_code setting function text.pieces e) (op.Choose goal_there) then block_code setting function it inside targets
        then alone later.pieces at op.Mark

    aims : AimsAt targets unaimed aimed (length text.ops)
    aims =
        then_aims targets (given_aims targets text.pieces at (value_code setting function text.pieces e) (op.Choose goal_there) (op.Choose goal_there) _
        (right_within setting function.variables text.pieces e) refl)
        (then_aims targets (block_aims targets setting function it inside unknown _) (alone_aims targets later.pieces at op.Mark op.Mark _ refl))

    abbrev chosen : Goal → List Placed
    chosen goal' = slice_set last.ops (length front.ops - 1) (placed_at text.pieces at (op.Choose goal') 1)

    abbrev part_at : ℕ
    part_at = after (length text.ops) (value_ops setting function text.pieces at e (op.Choose goal_there) (length text.ops))

    begins_there : length front.ops ≡ part_at
    begins_there = begins ∙ sym (length_given text.pieces at (value_code setting function text.pieces e) (op.Choose goal_there) (length text.ops))

    written : chosen goal_there ≡ text.ops ++ (unaimed (length text.ops)).ops
    written =
        patched text.ops (value_code setting function text.pieces e (length text.ops) 0) (part (length front.ops)).ops
        (placed_at later.pieces at op.Mark 0 ∷ [])
        (placed_at text.pieces at (op.Choose nowhere_yet) 1) (placed_at text.pieces at (op.Choose goal_there) 1)
        ∙ ap (λ n. text.ops ++ ((value_code setting function text.pieces e (length text.ops) 0 ++ (placed_at text.pieces at (op.Choose goal_there) 1 ∷ []))
        ++ ((part n).ops ++ (placed_at later.pieces at op.Mark 0 ∷ [])))) begins_there

    long : length last.ops ≡ length (chosen goal_there)
    long = sym (length-set last.ops (length front.ops - 1) (placed_at text.pieces at (op.Choose goal_there) 1))

    ops_same : length last.ops ≤ most_ops → (final last).ops ≡ text.ops ++ (its (length text.ops)).ops
    ops_same few =
        ap (λ goal'. aimed_from (record { breaks = length middle.ops; continues = to_continue }) (length text.ops) (chosen goal')) goal_same
        ∙ ap (λ n. aimed_from (record { breaks = n; continues = to_continue }) (length text.ops) (chosen goal_there)) ends
        ∙ aimed_part targets unaimed aimed text.ops (chosen goal_there) aims written (omega (arith, long, few))

    cases_same : length last.ops ≤ most_ops → (final last).cases ≡ text.cases ++ (its (length text.ops)).cases
    cases_same few =
        append_assoc text.cases (part (length front.ops)).cases (cases_in labels)
        ∙ ap (λ list. text.cases ++ ((part (length front.ops)).cases ++ cases_in list)) labels_same
        ∙ ap (λ n. text.cases ++ ((part n).cases ++ cases_in labels_there)) begins_there
        ∙ ap (λ list. text.cases ++ (list ++ cases_in labels_there))
        (sym (append-nil (part part_at).cases)
        ∙ sym (aims.aims (omega (arith, few, long, ap length written, after_ops text.ops (unaimed (length text.ops)).ops))).1)

    same : length last.ops ≤ most_ops → final last ≡ with_part its (with_pieces (suc later.pieces) text)
    same few =
        same_ops _ _ (final last).cases (suc later.pieces) (ops_same few)
        ∙ ap (λ list. record { ops = text.ops ++ (its (length text.ops)).ops; cases = list; pieces = suc later.pieces }) (cases_same few)

    pub switch_steps : statement_steps setting function (tree.switch_ place e it) text
        ≡ (switch_begun setting function at e text
        >>= (λ begun. block_steps setting function it begun
        >>= (λ inner. switch_ended at text.pieces (length begun.ops - 1) (length text.ops)
        (block_code setting function it (counts_of begun) unknown (length begun.ops)).labels inner)))
    unfolding statement_steps switch_begun given_steps
    switch_steps =
        sym (already text front (with_part its (with_pieces (suc later.pieces) text)) _
        (longer (value_ops setting function text.pieces at e (op.Choose nowhere_yet)) (with_pieces (suc text.pieces) text)) (longer_part its text)
        (λ few. known front _
        (λ begun. block_steps setting function it begun >>= switch_ended at text.pieces (length front.ops - 1) (length text.ops) labels) refl
        ∙ in_three front middle last (block_steps setting function it) (switch_ended at text.pieces (length front.ops - 1) (length text.ops) labels) final
        (with_part its (with_pieces (suc later.pieces) text)) goes ended same
        (long ∙ aimed_length targets unaimed aimed text.ops (chosen goal_there) aims written)
        (longer_part part (with_pieces later.pieces front)) (longer (λ n. placed_at later.pieces at op.Mark 0 ∷ []) (with_pieces (suc later.pieces) middle))))
