-- Statements without parts, blocks, lists of statements and declarations in the steps that the code takes.
use Rattle.std.proofs.Common.{◌≡◌, ◌≤◌, ℕ, suc, List, [], ◌∷◌, ◌++◌, length, Option, Some, None, refl, sym, ◌∙◌, ap, append-nil}
use Rattle.hs_code.specs.declared.function_code.Placed.{Placed}
use Rattle.hs_code.specs.declared.op.Op.TheVariants as op
use Rattle.hs_lower_expressions.specs.Aims.{to_break, to_continue}
use Rattle.hs_lower_expressions.specs.Emits.{most_ops}
use Rattle.hs_lower_expressions.specs.EmittingLaws.{after_ops}
use Rattle.hs_lower_starts.specs.FirstValues.{item_code}
use Rattle.hs_lowering.specs.Laws.Lengths.{pieces_same, block_labels, plain_declarations}
use Rattle.hs_lowering.specs.Lowering.{after, operand}
use Rattle.hs_lowering.specs.Statements.{Part, ◌then◌, of_ops, Counts, one_piece, pieces_for, after_statement, after_list, placed_at, only_at, alone, value_code, labels_at, labels_code, items_code, declarations_code, return_code, statement_code, block_code, list_code}
use Rattle.hs_meaning.specs.Settings.{Setting}
use Rattle.hs_tokens.specs.declared.place.Place.{Place}
use Rattle.hs_tree.specs.Trees as tree
use Rattle.hs_tree.specs.Trees.{RightValue, TypedItem, TypedDeclaration, TypedStatement, TypedBlock, TypedStatements, TypedFunction}
use Rattle.hs_tree.specs.declared.statement.Label.{Label}
use Rattle.hs_tree.specs.declared.statement.Label.TheVariants as label
use Rattle.hs_lower.specs.Writing.{fitting, ◌>>=◌, with_ops, with_part, with_pieces, counts_of, unknown, label_pos, put_steps, given_steps, return_steps, first_steps, items_steps, labels_steps, declarations_steps, statement_steps, block_steps, list_steps}
use Rattle.hs_lower.specs.declared.text.Text.{Text}
use Rattle.hs_lower.proofs.Ifs.{statement_counts}
use Rattle.hs_lower.proofs.Chains.{known, fits, fit_is, repieced, ops_then, part_behind, plain_part, parts_then}

module _ (setting : Setting) (function : TypedFunction) where
  -- ---- statements without parts

  module _ (place : Place) (text : Text) where
    abbrev next : Text
    next = with_pieces (suc text.pieces) text

    pub expression_steps : (e : RightValue)
        → statement_steps setting function (tree.expression place e) text ≡ given_steps setting function text.pieces place.pos e op.Drop next
    unfolding statement_steps given_steps
    expression_steps e = plain_part (λ n. operand (value_code setting function text.pieces e) (only_at text.pieces place.pos op.Drop) n 0) next

    pub empty_steps : statement_steps setting function (tree.empty place) text ≡ put_steps text.pieces place.pos op.Mark next
    unfolding statement_steps put_steps
    empty_steps = plain_part (λ n. placed_at text.pieces place.pos op.Mark 0 ∷ []) next

    pub break_steps : statement_steps setting function (tree.break_ place) text ≡ put_steps text.pieces place.pos (op.Jump to_break) next
    unfolding statement_steps put_steps
    break_steps = plain_part (λ n. placed_at text.pieces place.pos (op.Jump to_break) 0 ∷ []) next

    pub continue_steps : statement_steps setting function (tree.continue_ place) text ≡ put_steps text.pieces place.pos (op.Jump to_continue) next
    unfolding statement_steps put_steps
    continue_steps = plain_part (λ n. placed_at text.pieces place.pos (op.Jump to_continue) 0 ∷ []) next

    pub return_value_steps : (e : RightValue)
        → statement_steps setting function (tree.return_ place (Some e)) text ≡ given_steps setting function text.pieces place.pos e op.Return next
    unfolding statement_steps given_steps
    return_value_steps e = plain_part (λ n. operand (value_code setting function text.pieces e) (only_at text.pieces place.pos op.Return) n 0) next

    pub return_alone_steps : statement_steps setting function (tree.return_ place None) text ≡ return_steps setting function text.pieces place.pos next
    unfolding statement_steps return_steps
    return_alone_steps = plain_part (λ n. (return_code setting function text.pieces place.pos n).ops) next

  pub block_of_steps : (it : TypedBlock) (text : Text) → statement_steps setting function (tree.block it) text ≡ block_steps setting function it text
  unfolding statement_steps block_steps
  block_of_steps it text = refl

  -- ---- first values

  pub items_done : (piece : ℕ) (text : Text) → length text.ops ≤ most_ops → items_steps setting function piece [] text ≡ Some text
  unfolding items_steps
  items_done piece text few =
      ap (λ ops. fitting (record { ops = ops; cases = text.cases; pieces = text.pieces })) (append-nil text.ops) ∙ fits text few

  pub items_more : (piece : ℕ) (item : TypedItem) (items : List TypedItem) (text : Text)
      → items_steps setting function piece (item ∷ items) text
      ≡ (first_steps setting function piece item text >>= (λ mid. items_steps setting function piece items mid))
  unfolding items_steps first_steps
  items_more piece item items text =
      sym (ops_then (item_code setting function piece item) (λ n. (items_code setting function piece items n).ops) text)

  pub declarations_done : (text : Text) → length text.ops ≤ most_ops → declarations_steps setting function [] text ≡ Some text
  unfolding declarations_steps
  declarations_done text few =
      ap (λ ops. fitting (record { ops = ops; cases = text.cases; pieces = text.pieces })) (append-nil text.ops) ∙ fits text few

  pub declarations_more : (it : TypedDeclaration) (rest : List TypedDeclaration) (text : Text)
      → declarations_steps setting function (it ∷ rest) text
      ≡ (items_steps setting function text.pieces it.items (with_pieces (suc text.pieces) text) >>= (λ mid. declarations_steps setting function rest mid))
  unfolding declarations_steps items_steps
  declarations_more it rest text =
      sym (ops_then first others (with_pieces last text))
      ∙ sym (repieced (with_ops first text) (suc text.pieces) last (λ mid. fitting (with_ops others mid)))
      ∙ known (with_ops first (with_pieces (suc text.pieces) text)) _ (λ mid. declarations_steps setting function rest mid) refl
    where
      first : ℕ → List Placed
      first n = (items_code setting function text.pieces it.items n).ops

      others : ℕ → List Placed
      others n = (declarations_code setting function (one_piece (counts_of text)) rest n).ops

      last : ℕ
      last = (pieces_for rest (one_piece (counts_of text))).pieces

  -- ---- lists

  pub list_done : (text : Text) → length text.ops ≤ most_ops → list_steps setting function tree.no_statements text ≡ Some text
  unfolding list_steps
  list_done text few =
      ap (λ ops. fitting (record { ops = ops; cases = text.cases ++ []; pieces = text.pieces })) (append-nil text.ops)
      ∙ ap (λ cases. fitting (record { ops = text.ops; cases = cases; pieces = text.pieces })) (append-nil text.cases) ∙ fits text few

  module _ (labels : List Label) (it : TypedStatement) (rest : TypedStatements) (text : Text) where
    -- the counts after the labels, and after the statement
    abbrev inside : Counts
    inside = pieces_for labels (counts_of text)

    abbrev behind : Counts
    behind = after_statement it inside

    abbrev marks : ℕ → List Placed
    marks n = labels_code text.pieces labels

    abbrev one : Part
    one = statement_code setting function it inside unknown

    abbrev others : Part
    others = list_code setting function rest behind unknown

    abbrev last : ℕ
    last = (after_list rest behind).pieces

    abbrev marked : Text
    marked = with_ops marks (with_pieces inside.pieces text)

    marked_counts : counts_of marked ≡ inside
    marked_counts = ap (λ n. record { pieces = inside.pieces; cases = n }) (sym (pieces_same labels (counts_of text)))

    abbrev done : Text
    done = with_part one (with_pieces behind.pieces marked)

    done_counts : counts_of done ≡ behind
    done_counts =
        ap (λ counts. counts_of (with_part (statement_code setting function it counts unknown) (with_pieces (after_statement it counts).pieces marked)))
        (sym marked_counts)
        ∙ statement_counts setting function it unknown marked ∙ ap (after_statement it) marked_counts

    one_goes : statement_steps setting function it marked ≡ fitting done
    unfolding statement_steps
    one_goes =
        ap (λ counts. fitting (with_part (statement_code setting function it counts unknown) (with_pieces (after_statement it counts).pieces marked)))
        marked_counts

    others_go : list_steps setting function rest done ≡ fitting (with_part others (with_pieces last done))
    unfolding list_steps
    others_go =
        ap (λ counts. fitting (with_part (list_code setting function rest counts unknown) (with_pieces (after_list rest counts).pieces done))) done_counts

    pub list_more : list_steps setting function (tree.more_statements labels it rest) text
        ≡ (labels_steps labels text >>= (λ mid. statement_steps setting function it mid >>= (λ end_. list_steps setting function rest end_)))
    unfolding list_steps labels_steps
    list_more =
        sym (part_behind marks (one then others) (with_pieces last text))
        ∙ sym (repieced (with_ops marks text) inside.pieces last (λ mid. fitting (with_part (one then others) mid)))
        ∙ known marked _ (λ mid. statement_steps setting function it mid >>= (λ end_. list_steps setting function rest end_))
        (sym (parts_then one others (with_pieces last marked))
        ∙ sym (repieced (with_part one marked) behind.pieces last (λ mid. fitting (with_part others mid)))
        ∙ known done (λ mid. fitting (with_part others (with_pieces last mid))) (λ end_. list_steps setting function rest end_) (sym others_go)
        ∙ sym (ap (λ x. x >>= (λ end_. list_steps setting function rest end_)) one_goes))

    -- its labels are those in front of the statement, and those of the others
    pub list_labels : (mid end_ : Text) → labels_steps labels text ≡ Some mid → statement_steps setting function it mid ≡ Some end_
        → (list_code setting function (tree.more_statements labels it rest) (counts_of text) unknown (length text.ops)).labels
        ≡ labels_at labels (length text.ops) ++ (list_code setting function rest (counts_of end_) unknown (length end_.ops)).labels
    unfolding labels_steps
    list_labels mid end_ is also =
        ap (λ n. labels_at labels (length text.ops) ++ (list_code setting function rest behind unknown n).labels) (sym ends)
        ∙ ap (λ its. labels_at labels (length text.ops) ++ (list_code setting function rest behind unknown (length its.ops)).labels) there
        ∙ ap (λ counts. labels_at labels (length text.ops) ++ (list_code setting function rest counts unknown (length end_.ops)).labels)
        (sym done_counts ∙ ap counts_of there)
      where
        -- the text that each step gives
        marked_there : marked ≡ mid
        marked_there = fit_is marked mid is

        there : done ≡ end_
        there = fit_is done end_ (sym one_goes ∙ ap (statement_steps setting function it) marked_there ∙ also)

        ends : length done.ops
            ≡ after (after (length text.ops) (labels_code text.pieces labels)) (one (after (length text.ops) (labels_code text.pieces labels))).ops
        ends =
            sym (after_ops marked.ops (one (length marked.ops)).ops)
            ∙ ap (λ n. after n (one n).ops) (sym (after_ops text.ops (labels_code text.pieces labels)))

  -- ---- blocks

  module _ (opening closing : Place) (declarations : List TypedDeclaration) (list : TypedStatements) (text : Text) where
    -- the counts before the statements, and after them
    abbrev list_counts : Counts
    list_counts = pieces_for declarations (one_piece (counts_of text))

    abbrev after_counts : Counts
    after_counts = after_list list list_counts

    abbrev first_ops : ℕ → List Placed
    first_ops = λ n. placed_at text.pieces opening.pos op.Mark 0 ∷ []

    abbrev declared_ops : ℕ → List Placed
    declared_ops n = (declarations_code setting function (one_piece (counts_of text)) declarations n).ops

    abbrev list_part : Part
    list_part = list_code setting function list list_counts unknown

    abbrev opened : Text
    opened = with_ops first_ops (with_pieces (suc text.pieces) text)

    abbrev declared : Text
    declared = with_ops declared_ops (with_pieces list_counts.pieces opened)

    declared_counts : counts_of declared ≡ list_counts
    declared_counts = ap (λ n. record { pieces = list_counts.pieces; cases = n }) (sym (pieces_same declarations (one_piece (counts_of text))))

    list_goes : list_steps setting function list declared ≡ fitting (with_part list_part (with_pieces after_counts.pieces declared))
    unfolding list_steps
    list_goes =
        ap (λ counts. fitting (with_part (list_code setting function list counts unknown) (with_pieces (after_list list counts).pieces declared)))
        declared_counts

    pub block_steps_are : block_steps setting function (tree.compound opening declarations list closing) text
        ≡ (put_steps text.pieces opening.pos op.Mark (with_pieces (suc text.pieces) text)
        >>= (λ opened. declarations_steps setting function declarations opened
        >>= (λ declared. list_steps setting function list declared
        >>= (λ inner. put_steps inner.pieces closing.pos op.Mark (with_pieces (suc inner.pieces) inner)))))
    unfolding block_steps put_steps declarations_steps
    block_steps_are =
        ap (λ cases. fitting
        (record { ops = text.ops ++ (block (length text.ops)).ops; cases = text.cases ++ (cases ++ ((list_part list_at).cases ++ [])); pieces = last }))
        ((plain_declarations setting function (one_piece (counts_of text)) declarations).cases (suc (length text.ops)))
        ∙ sym (part_behind first_ops (plain then list_part then end_part) (with_pieces last text))
        ∙ sym (repieced (with_ops first_ops text) (suc text.pieces) last (λ mid. fitting (with_part (plain then list_part then end_part) mid)))
        ∙ known opened _ (λ mid. declarations_steps setting function declarations mid >>= from_declared)
        (sym (part_behind declared_ops (list_part then end_part) (with_pieces last opened))
        ∙ sym (repieced (with_ops declared_ops opened) list_counts.pieces last (λ mid. fitting (with_part (list_part then end_part) mid)))
        ∙ known declared (λ mid. fitting (with_part (list_part then end_part) (with_pieces last mid))) from_declared
        (sym (parts_then list_part end_part (with_pieces last declared))
        ∙ sym (repieced (with_part list_part declared) after_counts.pieces last (λ mid. fitting (with_part end_part mid)))
        ∙ known (with_part list_part (with_pieces after_counts.pieces declared)) (λ mid. fitting (with_part end_part (with_pieces last mid))) ending
        (plain_part (λ n. placed_at after_counts.pieces closing.pos op.Mark 0 ∷ []) (with_pieces last (with_part list_part declared)))
        ∙ sym (ap (λ x. x >>= ending) list_goes)))
      where
        last : ℕ
        last = suc after_counts.pieces

        block : Part
        block = block_code setting function (tree.compound opening declarations list closing) (counts_of text) unknown

        plain : Part
        plain n = of_ops (declared_ops n)

        end_part : Part
        end_part = alone after_counts.pieces closing.pos op.Mark

        list_at : ℕ
        list_at = after (suc (length text.ops)) (declared_ops (suc (length text.ops)))

        ending : Text → Option Text
        ending inner = put_steps inner.pieces closing.pos op.Mark (with_pieces (suc inner.pieces) inner)

        from_declared : Text → Option Text
        from_declared mid = list_steps setting function list mid >>= ending

    -- its labels are those of its statements
    pub block_labels_are : (first second : Text) → put_steps text.pieces opening.pos op.Mark (with_pieces (suc text.pieces) text) ≡ Some first
        → declarations_steps setting function declarations first ≡ Some second
        → (block_code setting function (tree.compound opening declarations list closing) (counts_of text) unknown (length text.ops)).labels
        ≡ (list_code setting function list (counts_of second) unknown (length second.ops)).labels
    unfolding put_steps declarations_steps
    block_labels_are first second is also =
        block_labels setting function opening closing declarations list (counts_of text) unknown (length text.ops)
        ∙ ap (λ n. (list_part n).labels) (sym ends)
        ∙ ap (λ its. (list_part (length its.ops)).labels) there
        ∙ ap (λ counts. (list_code setting function list counts unknown (length second.ops)).labels) (sym declared_counts ∙ ap counts_of there)
      where
        there : declared ≡ second
        there = fit_is declared second (ap (declarations_steps setting function declarations) (fit_is opened first is) ∙ also)

        ends : length declared.ops ≡ after (suc (length text.ops)) (declared_ops (suc (length text.ops)))
        ends =
            sym (after_ops opened.ops (declared_ops (length opened.ops)))
            ∙ ap (λ n. after n (declared_ops n)) (sym (after_ops text.ops (first_ops (length text.ops))))

-- ---- labels

pub labels_done : (text : Text) → length text.ops ≤ most_ops → labels_steps [] text ≡ Some text
unfolding labels_steps
labels_done text few = ap (λ ops. fitting (record { ops = ops; cases = text.cases; pieces = text.pieces })) (append-nil text.ops) ∙ fits text few

pub labels_more : (its : Label) (rest : List Label) (text : Text)
    → labels_steps (its ∷ rest) text
    ≡ (put_steps text.pieces (label_pos its) op.Mark (with_pieces (suc text.pieces) text) >>= (λ mid. labels_steps rest mid))
unfolding labels_steps put_steps
labels_more its rest text =
    listed its
    ∙ sym (ops_then first (λ n. labels_code (suc text.pieces) rest) (with_pieces last text))
    ∙ sym (repieced (with_ops first text) (suc text.pieces) last (λ mid. fitting (with_ops (λ n. labels_code (suc text.pieces) rest) mid)))
    ∙ known (with_ops first (with_pieces (suc text.pieces) text)) _ (λ mid. labels_steps rest mid) refl
  where
    first : ℕ → List Placed
    first n = placed_at text.pieces (label_pos its) op.Mark 0 ∷ []

    last : ℕ
    last = (pieces_for rest (one_piece (counts_of text))).pieces

    listed : (its : Label) → fitting (with_ops (λ n. labels_code text.pieces (its ∷ rest)) (with_pieces last text))
        ≡ fitting (with_ops (λ n. placed_at text.pieces (label_pos its) op.Mark 0 ∷ labels_code (suc text.pieces) rest) (with_pieces last text))
    listed (label.Case at bits) = refl
    listed (label.Default at) = refl
