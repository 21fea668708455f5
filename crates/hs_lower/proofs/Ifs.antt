-- The code of branches and of switches in the steps that the code takes.
use Rattle.std.proofs.Common.{◌≡◌, ◌≤◌, ◌-◌, ℕ, suc, List, [], ◌∷◌, ◌++◌, length, Option, Some, refl, arith, sym, ◌∙◌, ap, append-nil}
use Rattle.std.specs.Prelude.{slice_set}
use Rattle.std.proofs.Math.Seq.{set-append_seam}
use Rattle.std.proofs.lemmas.List.{append_assoc, length-append, length-set}
use Rattle.hs_base.specs.declared.pos.Pos.{Pos}
use Rattle.hs_code.specs.declared.function_code.Placed.{Placed}
use Rattle.hs_code.specs.declared.op.Op.{Op}
use Rattle.hs_code.specs.declared.op.Op.TheVariants as op
use Rattle.hs_lower_expressions.specs.EmittingLaws.{after_ops}
use Rattle.hs_lowering.specs.Laws.Lengths.{cases_of_statement, cases_of_a_block}
use Rattle.hs_lowering.specs.Laws.Placing.{past_length, length_given}
use Rattle.hs_lowering.specs.Lowering.{after, operand}
use Rattle.hs_lowering.specs.Statements.{Part, Counts, Targets, one_piece, after_statement, after_block, placed_at, only_at, value_code, behind, if_code, if_else_code, statement_code, block_code}
use Rattle.hs_meaning.specs.Settings.{Setting}
use Rattle.hs_tokens.specs.declared.place.Place.{Place}
use Rattle.hs_tree.specs.Trees as tree
use Rattle.hs_tree.specs.Trees.{RightValue, TypedStatement, TypedBlock, TypedFunction}
use Rattle.hs_lower.specs.Writing.{fitting, ◌>>=◌, with_ops, with_part, with_pieces, counts_of, unknown, replaced, put_steps, given_steps, statement_steps, if_begun, if_ended, if_else_ended}
use Rattle.hs_lower.specs.declared.text.Text.{Text}
use Rattle.hs_lower.proofs.Chains.{known, longer, longer_part, passes, ends_if, in_three, already, same_ops}

-- the last of the first operations is replaced
pub patched : (front value part back : List Placed) (it new : Placed)
    → slice_set (((front ++ (value ++ (it ∷ []))) ++ part) ++ back) (length (front ++ (value ++ (it ∷ []))) - 1) new
    ≡ front ++ ((value ++ (new ∷ [])) ++ (part ++ back))
patched front value part back it new =
    ap (λ list. slice_set ((list ++ part) ++ back) (length list - 1) new) (sym (append_assoc front value (it ∷ [])))
    ∙ ap (λ n. slice_set ((((front ++ value) ++ (it ∷ [])) ++ part) ++ back) n new) number
    ∙ ap (λ list. slice_set list (length (front ++ value)) new)
    (append_assoc ((front ++ value) ++ (it ∷ [])) part back ∙ append_assoc (front ++ value) (it ∷ []) (part ++ back))
    ∙ set-append_seam (front ++ value) it (part ++ back) new
    ∙ sym (append_assoc (front ++ value) (new ∷ []) (part ++ back))
    ∙ ap (λ list. list ++ (part ++ back)) (append_assoc front value (new ∷ []))
    ∙ append_assoc front (value ++ (new ∷ [])) (part ++ back)
  where
    number : length ((front ++ value) ++ (it ∷ [])) - 1 ≡ length (front ++ value)
    number = ap (λ n. n - 1) (length-append (front ++ value) (it ∷ [])) ∙ omega arith

-- so are two of them, the second one after a part
patched_twice : (front value part more back : List Placed) (it new jump now : Placed)
    → slice_set (slice_set (((((front ++ (value ++ (it ∷ []))) ++ part) ++ (jump ∷ [])) ++ more) ++ back) (length (front ++ (value ++ (it ∷ []))) - 1) new)
    (length ((front ++ (value ++ (it ∷ []))) ++ part)) now
    ≡ front ++ ((value ++ (new ∷ [])) ++ (part ++ (now ∷ (more ++ back))))
patched_twice front value part more back it new jump now =
    ap (λ list. slice_set (slice_set list (length (front ++ (value ++ (it ∷ []))) - 1) new) (length ((front ++ (value ++ (it ∷ []))) ++ part)) now)
    (ap (λ list. list ++ back) (append_assoc start (jump ∷ []) more) ∙ append_assoc start (jump ∷ more) back)
    ∙ ap (λ list. slice_set list (length start) now) (patched front value part (jump ∷ (more ++ back)) it new ∙ grouped (jump ∷ (more ++ back)))
    ∙ ap (λ n. slice_set ((front ++ ((value ++ (new ∷ [])) ++ part)) ++ (jump ∷ (more ++ back))) n now) same
    ∙ set-append_seam (front ++ ((value ++ (new ∷ [])) ++ part)) jump (more ++ back) now
    ∙ sym (grouped (now ∷ (more ++ back)))
  where
    start : List Placed
    start = (front ++ (value ++ (it ∷ []))) ++ part

    grouped : (rest : List Placed) → front ++ ((value ++ (new ∷ [])) ++ (part ++ rest)) ≡ (front ++ ((value ++ (new ∷ [])) ++ part)) ++ rest
    grouped rest =
        ap (λ list. front ++ list) (sym (append_assoc (value ++ (new ∷ [])) part rest)) ∙ sym (append_assoc front ((value ++ (new ∷ [])) ++ part) rest)

    same : length start ≡ length (front ++ ((value ++ (new ∷ [])) ++ part))
    same = omega (
      arith,
      length-append (front ++ (value ++ (it ∷ []))) part,
      length-append front (value ++ (it ∷ [])),
      length-append value (it ∷ []),
      length-append front ((value ++ (new ∷ [])) ++ part),
      length-append (value ++ (new ∷ [])) part,
      length-append value (new ∷ []),
    )

module _ (setting : Setting) (function : TypedFunction) where
  -- a value, and what is done with it
  abbrev pub value_ops : ℕ → Pos → RightValue → Op → ℕ → List Placed
  value_ops piece at e its n = operand (value_code setting function piece e) (only_at piece at its) n 0

  -- the counts after a statement, and after a block
  pub statement_counts : (it : TypedStatement) (targets : Targets) (text : Text)
      → counts_of (with_part (statement_code setting function it (counts_of text) targets) (with_pieces (after_statement it (counts_of text)).pieces text))
      ≡ after_statement it (counts_of text)
  statement_counts it targets text =
      ap (λ n. record { pieces = (after_statement it (counts_of text)).pieces; cases = n })
      (length-append text.cases (statement_code setting function it (counts_of text) targets (length text.ops)).cases
      ∙ sym (past_length (length text.cases) (statement_code setting function it (counts_of text) targets (length text.ops)).cases)
      ∙ cases_of_statement setting function it (counts_of text) targets (length text.ops))

  pub block_counts : (it : TypedBlock) (targets : Targets) (text : Text)
      → counts_of (with_part (block_code setting function it (counts_of text) targets) (with_pieces (after_block it (counts_of text)).pieces text))
      ≡ after_block it (counts_of text)
  block_counts it targets text =
      ap (λ n. record { pieces = (after_block it (counts_of text)).pieces; cases = n })
      (length-append text.cases (block_code setting function it (counts_of text) targets (length text.ops)).cases
      ∙ sym (past_length (length text.cases) (block_code setting function it (counts_of text) targets (length text.ops)).cases)
      ∙ cases_of_a_block setting function it (counts_of text) targets (length text.ops))

  -- ---- if

  module _ (text : Text) (place : Place) (e : RightValue) (first : TypedStatement) where
    abbrev at : Pos
    at = place.pos

    abbrev inside : Counts
    inside = one_piece (counts_of text)

    abbrev join : ℕ
    join = (after_statement first inside).pieces

    abbrev part : Part
    part = statement_code setting function first inside unknown

    abbrev front : Text
    front = with_ops (value_ops text.pieces at e (op.Zero 0)) (with_pieces (suc text.pieces) text)

    abbrev middle : Text
    middle = with_part part (with_pieces join front)

    goes : statement_steps setting function first front ≡ fitting middle
    unfolding statement_steps
    goes = refl

    abbrev last : Text
    last = with_ops (λ n. placed_at join at op.Mark 0 ∷ []) (with_pieces (suc join) middle)

    -- the test, with its target
    abbrev test : Placed
    test = placed_at text.pieces at (op.Zero (length middle.ops)) 1

    ended : if_ended at text.pieces (length front.ops - 1) middle ≡ (fitting last >>= (λ text'. Some (replaced (length front.ops - 1) test text')))
    unfolding if_ended put_steps
    ended = refl

    abbrev its : Part
    its = if_code setting function (counts_of text) at e join part

    -- where the branch begins and ends
    begins : length front.ops ≡ behind setting function text.pieces e (length text.ops)
    begins =
        sym (after_ops text.ops (value_ops text.pieces at e (op.Zero 0) (length text.ops)))
        ∙ length_given text.pieces at (value_code setting function text.pieces e) (op.Zero 0) (length text.ops)

    ends : length middle.ops
        ≡ after (behind setting function text.pieces e (length text.ops)) (part (behind setting function text.pieces e (length text.ops))).ops
    ends = sym (after_ops front.ops (part (length front.ops)).ops) ∙ ap (λ n. after n (part n).ops) begins

    -- the operation after the branch
    abbrev end_ : ℕ
    end_ = after (behind setting function text.pieces e (length text.ops)) (part (behind setting function text.pieces e (length text.ops))).ops

    -- as the definition counts it
    begins_there : behind setting function text.pieces e (length text.ops)
        ≡ after (length text.ops) (value_ops text.pieces at e (op.Zero end_) (length text.ops))
    begins_there = sym (length_given text.pieces at (value_code setting function text.pieces e) (op.Zero end_) (length text.ops))

    ops_same : slice_set last.ops (length front.ops - 1) test ≡ text.ops ++ (its (length text.ops)).ops
    ops_same =
        patched text.ops (value_code setting function text.pieces e (length text.ops) 0) (part (length front.ops)).ops (placed_at join at op.Mark 0 ∷ [])
        (placed_at text.pieces at (op.Zero 0) 1) test
        ∙ ap (λ n. text.ops ++ ((value_code setting function text.pieces e (length text.ops) 0 ++ (test ∷ []))
        ++ ((part n).ops ++ (placed_at join at op.Mark 0 ∷ [])))) (begins ∙ begins_there)
        ∙ ap (λ n. text.ops ++ ((value_code setting function text.pieces e (length text.ops) 0 ++ (placed_at text.pieces at (op.Zero n) 1 ∷ []))
        ++ ((part (after (length text.ops) (value_ops text.pieces at e (op.Zero end_) (length text.ops)))).ops ++ (placed_at join at op.Mark 0 ∷ [])))) ends

    same : replaced (length front.ops - 1) test last ≡ with_part its (with_pieces (suc join) text)
    same =
        same_ops _ _ last.cases (suc join) ops_same
        ∙ ap (λ list. record { ops = text.ops ++ (its (length text.ops)).ops; cases = text.cases ++ list; pieces = suc join })
        (ap (λ n. (part n).cases) (begins ∙ begins_there) ∙ sym (append-nil _))

    pub if_steps : statement_steps setting function (tree.if_ place e first) text
        ≡ (if_begun setting function at e text
        >>= (λ begun. statement_steps setting function first begun >>= (λ inner. if_ended at text.pieces (length begun.ops - 1) inner)))
    unfolding statement_steps if_begun given_steps
    if_steps =
        sym (already text front (with_part its (with_pieces (suc join) text)) _
        (longer (value_ops text.pieces at e (op.Zero 0)) (with_pieces (suc text.pieces) text)) (longer_part its text) (λ few. whole_steps))
      where
        whole_steps : (fitting front
            >>= (λ begun. statement_steps setting function first begun >>= (λ inner. if_ended at text.pieces (length begun.ops - 1) inner)))
            ≡ fitting (with_part its (with_pieces (suc join) text))
        whole_steps =
            known front (λ begun. statement_steps setting function first begun >>= (λ inner. if_ended at text.pieces (length begun.ops - 1) inner))
            (λ begun. statement_steps setting function first begun >>= if_ended at text.pieces (length front.ops - 1)) refl
            ∙ in_three front middle last (statement_steps setting function first) (if_ended at text.pieces (length front.ops - 1))
            (replaced (length front.ops - 1) test) (with_part its (with_pieces (suc join) text)) goes ended (λ few. same)
            (sym (length-set last.ops (length front.ops - 1) test) ∙ ap length ops_same)
            (longer_part part (with_pieces join front)) (longer (λ n. placed_at join at op.Mark 0 ∷ []) (with_pieces (suc join) middle))

  -- ---- if with else

  module _ (text : Text) (place : Place) (e : RightValue) (first second : TypedStatement) where
    abbrev else_at : Pos
    else_at = place.pos

    -- the counts before each statement, and the piece of the join
    abbrev first_counts : Counts
    first_counts = one_piece (counts_of text)

    abbrev second_counts : Counts
    second_counts = after_statement first first_counts

    abbrev else_join : ℕ
    else_join = (after_statement second second_counts).pieces

    abbrev one : Part
    one = statement_code setting function first first_counts unknown

    abbrev two : Part
    two = statement_code setting function second second_counts unknown

    -- the text after the test, the first statement, the jump, the second statement, and the end
    abbrev tested : Text
    tested = with_ops (value_ops text.pieces else_at e (op.Zero 0)) (with_pieces (suc text.pieces) text)

    abbrev done : Text
    done = with_part one (with_pieces second_counts.pieces tested)

    abbrev turned : Text
    turned = with_ops (λ n. placed_at 0 else_at (op.Jump 0) 0 ∷ []) done

    abbrev both : Text
    both = with_part two (with_pieces else_join turned)

    abbrev marked : Text
    marked = with_ops (λ n. placed_at else_join else_at op.Mark 0 ∷ []) (with_pieces (suc else_join) both)

    goes_first : statement_steps setting function first tested ≡ fitting done
    unfolding statement_steps
    goes_first = refl

    goes_on : put_steps 0 else_at (op.Jump 0) done ≡ fitting turned
    unfolding put_steps
    goes_on = refl

    goes_second : statement_steps setting function second turned ≡ fitting both
    unfolding statement_steps
    goes_second =
        ap (λ counts. fitting (with_part (statement_code setting function second counts unknown) (with_pieces (after_statement second counts).pieces turned)))
        (statement_counts first unknown tested)

    -- the test and the jump, with their targets
    abbrev else_test : Placed
    else_test = placed_at text.pieces else_at (op.Zero (suc (length done.ops))) 1

    abbrev else_jump : Placed
    else_jump = placed_at else_join else_at (op.Jump (length both.ops)) 0

    abbrev final : Text → Text
    final text' = replaced (length done.ops) else_jump (replaced (length tested.ops - 1) else_test text')

    else_ends : if_else_ended else_at text.pieces (length tested.ops - 1) (length done.ops) both ≡ (fitting marked >>= (λ text'. Some (final text')))
    unfolding if_else_ended put_steps
    else_ends = refl

    abbrev else_its : Part
    else_its = if_else_code setting function (counts_of text) else_at e else_join one two

    -- the operations as the definition counts them
    abbrev body_at : ℕ
    body_at = behind setting function text.pieces e (length text.ops)

    abbrev jump_at : ℕ
    jump_at = after body_at (one body_at).ops

    abbrev else_end : ℕ
    else_end = after (suc jump_at) (two (suc jump_at)).ops

    abbrev one_at : ℕ
    one_at = after (length text.ops) (value_ops text.pieces else_at e (op.Zero (suc jump_at)) (length text.ops))

    tested_there : length tested.ops ≡ body_at
    tested_there =
        sym (after_ops text.ops (value_ops text.pieces else_at e (op.Zero 0) (length text.ops)))
        ∙ length_given text.pieces else_at (value_code setting function text.pieces e) (op.Zero 0) (length text.ops)

    one_there : length tested.ops ≡ one_at
    one_there = tested_there ∙ sym (length_given text.pieces else_at (value_code setting function text.pieces e) (op.Zero (suc jump_at)) (length text.ops))

    done_after : length done.ops ≡ after (length tested.ops) (one (length tested.ops)).ops
    done_after = sym (after_ops tested.ops (one (length tested.ops)).ops)

    turned_next : length turned.ops ≡ suc (length done.ops)
    turned_next = length-append done.ops (placed_at 0 else_at (op.Jump 0) 0 ∷ []) ∙ omega arith

    done_there : length done.ops ≡ jump_at
    done_there = done_after ∙ ap (λ n. after n (one n).ops) tested_there

    two_there : length turned.ops ≡ suc (after one_at (one one_at).ops)
    two_there = turned_next ∙ ap suc (done_after ∙ ap (λ n. after n (one n).ops) one_there)

    both_there : length both.ops ≡ else_end
    both_there = sym (after_ops turned.ops (two (length turned.ops)).ops) ∙ ap (λ n. after n (two n).ops) (turned_next ∙ ap suc done_there)

    -- by where each part stands and where the jumps go
    abbrev value_list : List Placed
    value_list = value_code setting function text.pieces e (length text.ops) 0

    abbrev shaped : ℕ → ℕ → ℕ → ℕ → List Placed
    shaped n k z w =
        text.ops ++ ((value_list ++ (placed_at text.pieces else_at (op.Zero (suc z)) 1 ∷ []))
        ++ ((one n).ops ++ (placed_at else_join else_at (op.Jump w) 0 ∷ ((two k).ops ++ (placed_at else_join else_at op.Mark 0 ∷ [])))))

    else_ops : (final marked).ops ≡ text.ops ++ (else_its (length text.ops)).ops
    else_ops =
        patched_twice text.ops value_list (one (length tested.ops)).ops (two (length turned.ops)).ops (placed_at else_join else_at op.Mark 0 ∷ [])
        (placed_at text.pieces else_at (op.Zero 0) 1) else_test (placed_at 0 else_at (op.Jump 0) 0) else_jump
        ∙ ap (λ n. shaped n (length turned.ops) (length done.ops) (length both.ops)) one_there
        ∙ ap (λ n. shaped one_at n (length done.ops) (length both.ops)) two_there
        ∙ ap (λ n. shaped one_at (suc (after one_at (one one_at).ops)) n (length both.ops)) done_there
        ∙ ap (λ n. shaped one_at (suc (after one_at (one one_at).ops)) jump_at n) both_there

    else_same : final marked ≡ with_part else_its (with_pieces (suc else_join) text)
    else_same =
        same_ops _ _ marked.cases (suc else_join) else_ops
        ∙ ap (λ list. record { ops = text.ops ++ (else_its (length text.ops)).ops; cases = list; pieces = suc else_join })
        (append_assoc text.cases (one (length tested.ops)).cases (two (length turned.ops)).cases
        ∙ ap (λ n. text.cases ++ ((one n).cases ++ (two (length turned.ops)).cases)) one_there
        ∙ ap (λ n. text.cases ++ ((one one_at).cases ++ (two n).cases)) two_there
        ∙ ap (λ list. text.cases ++ ((one one_at).cases ++ list)) (sym (append-nil (two (suc (after one_at (one one_at).ops))).cases)))

    pub if_else_steps : statement_steps setting function (tree.if_else place e first second) text
        ≡ (if_begun setting function else_at e text
        >>= (λ begun. statement_steps setting function first begun
        >>= (λ done. put_steps 0 else_at (op.Jump 0) done
        >>= (λ turned. statement_steps setting function second turned
        >>= (λ both. if_else_ended else_at text.pieces (length begun.ops - 1) (length done.ops) both)))))
    unfolding statement_steps if_begun given_steps
    if_else_steps =
        sym (already text tested whole _ (longer (value_ops text.pieces else_at e (op.Zero 0)) (with_pieces (suc text.pieces) text))
        (longer_part else_its text) (λ few.
        passes tested _ whole (omega (arith, long, longest, longer_done, longer_turned, longer_both))
        (λ few. ap (λ x. x >>= from_done) goes_first
        ∙ passes done from_done whole (omega (arith, long, longest, longer_turned, longer_both))
        (λ few. ap (λ x. x >>= from_turned) goes_on
        ∙ passes turned from_turned whole (omega (arith, long, longest, longer_both))
        (λ few. ap (λ x. x >>= ending) goes_second
        ∙ passes both ending whole (omega (arith, long, longest)) (λ few. else_ends ∙ ends_if marked final whole (λ few. else_same) longest))))))
      where
        whole : Text
        whole = with_part else_its (with_pieces (suc else_join) text)

        ending : Text → Option Text
        ending last' = if_else_ended else_at text.pieces (length tested.ops - 1) (length done.ops) last'

        from_turned : Text → Option Text
        from_turned mid = statement_steps setting function second mid >>= ending

        from_done : Text → Option Text
        from_done done' =
            put_steps 0 else_at (op.Jump 0) done'
            >>= (λ mid. statement_steps setting function second mid
            >>= (λ last'. if_else_ended else_at text.pieces (length tested.ops - 1) (length done'.ops) last'))

        longest : length marked.ops ≡ length whole.ops
        longest =
            sym (length-set (slice_set marked.ops (length tested.ops - 1) else_test) (length done.ops) else_jump
            ∙ length-set marked.ops (length tested.ops - 1) else_test)
            ∙ ap length else_ops

        longer_done : length tested.ops ≤ length done.ops
        longer_done = longer_part one (with_pieces second_counts.pieces tested)

        longer_turned : length done.ops ≤ length turned.ops
        longer_turned = longer (λ n. placed_at 0 else_at (op.Jump 0) 0 ∷ []) done

        longer_both : length turned.ops ≤ length both.ops
        longer_both = longer_part two (with_pieces else_join turned)

        long : length both.ops ≤ length marked.ops
        long = longer (λ n. placed_at else_join else_at op.Mark 0 ∷ []) (with_pieces (suc else_join) both)
