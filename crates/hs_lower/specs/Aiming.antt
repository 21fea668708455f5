-- Code that is written with numbers that stand for the targets of `break` and `continue`, and then aimed, is the code with these targets.
--     IsAimed targets first second           the second is the first with its jumps aimed
--     AimsAt targets first second start      so are two parts, from that operation on
--     then_aims, alone_aims, given_aims, fixed_aims      one after the other, single operations, and operations that do not go away
--     statement_aims, block_aims             the law
use Rattle.std.proofs.Common.{◌≡◌, ◌<◌, ◌==◌, ℕ, suc, false, List, [], ◌∷◌, ◌++◌, map, refl, sym, ap, ◌∙◌, subst, arith, if◌then◌else◌}
use Rattle.std.proofs.lemmas.Bool.{ne_eqb}
use Rattle.std.proofs.lemmas.List.{map-append}
use Rattle.hs_base.specs.declared.pos.Pos.{Pos}
use Rattle.hs_code.specs.declared.function_code.Placed.{Placed}
use Rattle.hs_code.specs.declared.op.Op.{Op}
use Rattle.hs_code.specs.declared.op.Op.TheVariants as op
use Rattle.hs_lower_expressions.specs.Aims.{to_break, to_continue, target_of, aimed_op, aimed}
use Rattle.hs_lowering.specs.Laws.Jumps.{Within, after_from, value_within}
use Rattle.hs_lowering.specs.Laws.Lengths.{SameParts, same_statement, same_block}
use Rattle.hs_lowering.specs.Laws.Placing.{length_next, length_given}
use Rattle.hs_lowering.specs.Laws.Targets.{GoesIn, AllIn, GoPart, all_within, statement_goes, block_goes}
use Rattle.hs_lowering.specs.Lowering.{Lowered, after}
use Rattle.hs_lowering.specs.Performing.{after_append}
use Rattle.hs_lowering.specs.Statements.{Written, Part, ◌then◌, nothing, closed, Counts, Targets, nowhere, one_piece, pieces_for, after_statement, after_block, after_list, placed_at, alone, given, labels_code, labels_at, value_code, behind, guarded, cases_in, goal_of, if_code, if_else_code, switch_code, declarations_code, statement_code, block_code, list_code}
use Rattle.hs_meaning.specs.Settings.{Setting}
use Rattle.hs_tokens.specs.declared.place.Place.{Place}
use Rattle.hs_tree.specs.Trees as tree
use Rattle.hs_tree.specs.Trees.{RightValue, TypedDeclaration, TypedStatement, TypedBlock, TypedStatements, TypedFunction}
use Rattle.hs_tree.specs.declared.statement.Label.{Label}
use Rattle.hs_tree.specs.declared.statement.Label.TheVariants as label

-- the operations of the code have smaller numbers, so none of them is one that stands for a target
abbrev pub room : ℕ
room = 4294967293

-- two numbers, of which one is less
less_differs : (n m : ℕ) → n < m → (n == m) ≡ false
less_differs n m less = ne_eqb n m (λ same. omega (arith, less, same))

module _ (targets : Targets) where
  -- an operation has its number
  pub target_fixed : (number : ℕ) → number < to_continue → target_of targets number ≡ number
  target_fixed number less =
      ap (λ b. if b then targets.breaks else (if number == to_continue then targets.continues else number)) (less_differs number to_break (omega (arith, less)))
      ∙ ap (λ b. if b then targets.continues else number) (less_differs number to_continue less)

  fixed_op : (cases : ℕ) (its : Op) → GoesIn to_continue cases its → aimed_op targets its ≡ its
  fixed_op cases (op.Jump number) is = ap op.Jump (target_fixed number is)
  fixed_op cases (op.Zero number) is = ap op.Zero (target_fixed number is)
  fixed_op cases its is = refl

  fixed_all : (cases : ℕ) (its : List Placed) → AllIn to_continue cases its → map (aimed targets) its ≡ its
  fixed_all cases [] is = refl
  fixed_all cases (one ∷ rest) is =
      ap (λ x. x ∷ map (aimed targets) rest) (ap (λ its. record one { op = its }) (fixed_op cases one.op is.0))
      ∙ ap (λ list. one ∷ list) (fixed_all cases rest is.1)

  -- ---- lists

  -- ---- parts

  -- the same cases and labels, and operations with their targets
  abbrev pub IsAimed : Written → Written → Type 0
  IsAimed first second = (second.ops ≡ map (aimed targets) first.ops) × (second.cases ≡ first.cases) × (second.labels ≡ first.labels)

  -- if no number of an operation stands for a target; both are equally long
  pub record AimsAt (first second : Part) (start : ℕ) : Type 0 where
    pub long : after start (second start).ops ≡ after start (first start).ops
    pub aims : after start (first start).ops < room → IsAimed (first start) (second start)

  front_less : (start : ℕ) (first second : List Placed) → after start (first ++ second) < room → after start first < room
  front_less start first second less = omega (arith, less, after_append start first second, after_from (after start first) second)

  back_less : (start : ℕ) (first second : List Placed) → after start (first ++ second) < room → after (after start first) second < room
  back_less start first second less = subst (λ n. n < room) (after_append start first second) less

  pub then_aims : {f f' g g' : Part} → {start : ℕ} → AimsAt f f' start → AimsAt g g' (after start (f start).ops) → AimsAt (f then g) (f' then g') start
  then_aims {f = f} {f' = f'} {g = g} {g' = g'} {start = start} is also =
      record {
        long =
            after_append start (f' start).ops (g' (after start (f' start).ops)).ops
            ∙ ap (λ m. after m (g' m).ops) is.long ∙ also.long ∙ sym (after_append start (f start).ops (g mid).ops);
        aims = λ less.
            both (is.aims (front_less start (f start).ops (g mid).ops less)) (also.aims (back_less start (f start).ops (g mid).ops less));
      }
    where
      mid : ℕ
      mid = after start (f start).ops

      both : IsAimed (f start) (f' start) → IsAimed (g mid) (g' mid) → IsAimed ((f then g) start) ((f' then g') start)
      both a b = (
        ap (λ m. (f' start).ops ++ (g' m).ops) is.long ∙ ap (λ list. list ++ (g' mid).ops) a.0 ∙ ap (λ list. map (aimed targets) (f start).ops ++ list) b.0
            ∙ sym (map-append (aimed targets) (f start).ops (g mid).ops),
        ap (λ m. (f' start).cases ++ (g' m).cases) is.long ∙ ap (λ list. list ++ (g' mid).cases) a.1 ∙ ap (λ list. (f start).cases ++ list) b.1,
        ap (λ m. (f' start).labels ++ (g' m).labels) is.long ∙ ap (λ list. list ++ (g' mid).labels) a.2 ∙ ap (λ list. (f start).labels ++ list) b.2,
      )

  pub nothing_aims : (start : ℕ) → AimsAt nothing nothing start
  nothing_aims start = record { long = refl; aims = λ less. (refl, refl, refl) }

  -- what does not go away stays as it is
  pub fixed_aims : (cases : ℕ) (its : Part) (start : ℕ) → GoPart to_continue cases its start → AimsAt its its start
  fixed_aims cases its start is = record { long = refl; aims = λ less. (sym (fixed_all cases (its start).ops (is.go (omega (arith, less))).ops), refl, refl) }

  module _ (piece : ℕ) (at : Pos) where
    pub alone_aims : (its other : Op) (start : ℕ) → other ≡ aimed_op targets its → AimsAt (alone piece at its) (alone piece at other) start
    alone_aims its other start same =
        record { long = refl; aims = λ less. (ap (λ its. record { op = its; at = at; piece = piece; places = 0 } ∷ []) same, refl, refl) }

    pub given_aims : (value : Lowered) (its other : Op) (start : ℕ) → Within value → other ≡ aimed_op targets its
        → AimsAt (given piece at value its) (given piece at value other) start
    given_aims value its other start within same =
        record {
          long =
              after_append start (value start 0) (record { op = other; at = at; piece = piece; places = 1 } ∷ [])
              ∙ sym (after_append start (value start 0) (record { op = its; at = at; piece = piece; places = 1 } ∷ []));
          aims = λ less. (
            ap (λ its. value start 0 ++ (record { op = its; at = at; piece = piece; places = 1 } ∷ [])) same
                ∙ ap (λ list. list ++ (record { op = aimed_op targets its; at = at; piece = piece; places = 1 } ∷ []))
                (sym (fixed_all 0 (value start 0)
                (all_within to_continue 0 start (after start (value start 0)) (value start 0) (within.at start 0)
                (omega (arith, front_less start (value start 0) _ less)))))
                ∙ sym (map-append (aimed targets) (value start 0) (record { op = its; at = at; piece = piece; places = 1 } ∷ [])),
            refl,
            refl,
          );
        }

  -- ---- labels

  labels_fixed : (piece : ℕ) (labels : List Label) → map (aimed targets) (labels_code piece labels) ≡ labels_code piece labels
  labels_fixed piece [] = refl
  labels_fixed piece (label.Case at bits ∷ rest) = ap (λ list. placed_at piece at.pos op.Mark 0 ∷ list) (labels_fixed (suc piece) rest)
  labels_fixed piece (label.Default at ∷ rest) = ap (λ list. placed_at piece at.pos op.Mark 0 ∷ list) (labels_fixed (suc piece) rest)

  labels_aim : (piece : ℕ) (labels : List Label) (start : ℕ)
      → AimsAt (λ start. record { ops = labels_code piece labels; cases = []; labels = labels_at labels start })
      (λ start. record { ops = labels_code piece labels; cases = []; labels = labels_at labels start }) start
  labels_aim piece labels start = record { long = refl; aims = λ less. (sym (labels_fixed piece labels), refl, refl) }

  closed_aims : {f g : Part} → {start : ℕ} → AimsAt f g start → AimsAt (λ start. closed (f start)) (λ start. closed (g start)) start
  closed_aims is = record { long = is.long; aims = λ less. ((is.aims less).0, (is.aims less).1, refl) }

  -- ---- statements

  -- the targets of an inner statement
  abbrev pub inner : Targets → Targets
  inner its = record { breaks = target_of targets its.breaks; continues = target_of targets its.continues }

  module _ (setting : Setting) (function : TypedFunction) where
    -- a statement that does not go away
    statement_fixed : (it : TypedStatement) (counts : Counts) (start : ℕ)
        → AimsAt (statement_code setting function it counts nowhere) (statement_code setting function it counts nowhere) start
    statement_fixed it counts start =
        fixed_aims (after_statement it counts).cases (statement_code setting function it counts nowhere) start
        (statement_goes to_continue (after_statement it counts).cases setting function it counts nowhere start (omega arith) (omega arith) (omega arith))

    -- declarations: those of a block without statements do not go away
    declarations_fixed : (declarations : List TypedDeclaration) (counts : Counts) (here : Place) (start : ℕ)
        → AimsAt (declarations_code setting function (one_piece counts) declarations) (declarations_code setting function (one_piece counts) declarations)
        (suc start)
    declarations_fixed declarations counts here start =
        record {
          long = refl;
          aims = λ less. (sym (fixed_all cases ops (front_in ops (mark ∷ []) (whole less).1)), refl, refl);
        }
      where
        block : TypedBlock
        block = tree.compound here declarations tree.no_statements here

        cases : ℕ
        cases = (after_block block counts).cases

        mark : Placed
        mark = placed_at (pieces_for declarations (one_piece counts)).pieces here.pos op.Mark 0

        ops : List Placed
        ops = (declarations_code setting function (one_piece counts) declarations (suc start)).ops

        ends : after start (block_code setting function block counts nowhere start).ops ≡ suc (after (suc start) ops)
        ends = after_append (suc start) ops (mark ∷ [])

        whole : after (suc start) ops < room → AllIn to_continue cases (block_code setting function block counts nowhere start).ops
        whole less =
            ((block_goes to_continue cases setting function block counts nowhere start (omega arith) (omega arith) (omega arith)).go
            (omega (arith, less, ends))).ops

        front_in : (first second : List Placed) → AllIn to_continue cases (first ++ second) → AllIn to_continue cases first
        front_in [] second is = tt
        front_in (one ∷ first) second is = (is.0, front_in first second is.1)

    -- by how the targets are aimed
    if_aims : (counts : Counts) (at : Pos) (e : RightValue) (join : ℕ) (first other : Part) (start : ℕ) → SameParts first other
        → ((start : ℕ) → AimsAt first other start)
        → AimsAt (if_code setting function counts at e join first) (if_code setting function counts at e join other) start
    if_aims counts at e join first other start same is =
        record {
          long = long other ∙ ap suc (sym ends) ∙ sym (long first);
          aims = λ less.
              (then_aims (given_aims counts.pieces at (value_code setting function counts.pieces e) (op.Zero end_) (op.Zero other_end) start
              (value_within setting function counts.pieces e) (ap op.Zero (sym ends ∙ sym (target_fixed end_ (omega (arith, less, long first))))))
              (then_aims (is _) (alone_aims join at op.Mark op.Mark _ refl))).aims less;
        }
      where
        mid : ℕ
        mid = behind setting function counts.pieces e start

        end_ : ℕ
        end_ = after mid (first mid).ops

        other_end : ℕ
        other_end = after mid (other mid).ops

        ends : end_ ≡ other_end
        ends = (same.at mid).0

        long : (its : Part) → after start (if_code setting function counts at e join its start).ops ≡ suc (after mid (its mid).ops)
        long its =
            length_next (guarded setting function counts.pieces at e (after mid (its mid).ops)) (its then alone join at op.Mark) start mid
            (length_given counts.pieces at (value_code setting function counts.pieces e) (op.Zero (after mid (its mid).ops)) start)
            ∙ length_next its (alone join at op.Mark) mid (after mid (its mid).ops) refl

    if_else_aims : (counts : Counts) (at : Pos) (e : RightValue) (join : ℕ) (first other second another : Part) (start : ℕ) → SameParts first other
        → SameParts second another → ((start : ℕ) → AimsAt first other start) → ((start : ℕ) → AimsAt second another start)
        → AimsAt (if_else_code setting function counts at e join first second) (if_else_code setting function counts at e join other another) start
    if_else_aims counts at e join first other second another start same same' is is' =
        record {
          long = long other another ∙ ap suc (sym ends) ∙ sym (long first second);
          aims = λ less.
              (then_aims (given_aims counts.pieces at (value_code setting function counts.pieces e) (op.Zero (suc jump_at)) (op.Zero (suc other_jump)) start
              (value_within setting function counts.pieces e)
              (ap op.Zero (ap suc (sym jumps)
              ∙ sym (target_fixed (suc jump_at) (omega (arith, less, long first second, after_from (suc jump_at) (second (suc jump_at)).ops))))))
              (then_aims (is _)
              (then_aims (alone_aims join at (op.Jump end_) (op.Jump other_end) _
              (ap op.Jump (sym ends ∙ sym (target_fixed end_ (omega (arith, less, long first second))))))
              (then_aims (is' _) (alone_aims join at op.Mark op.Mark _ refl))))).aims less;
        }
      where
        mid : ℕ
        mid = behind setting function counts.pieces e start

        jump_at : ℕ
        jump_at = after mid (first mid).ops

        other_jump : ℕ
        other_jump = after mid (other mid).ops

        jumps : jump_at ≡ other_jump
        jumps = (same.at mid).0

        end_ : ℕ
        end_ = after (suc jump_at) (second (suc jump_at)).ops

        other_end : ℕ
        other_end = after (suc other_jump) (another (suc other_jump)).ops

        ends : end_ ≡ other_end
        ends = (same'.at (suc jump_at)).0 ∙ ap (λ n. after (suc n) (another (suc n)).ops) jumps

        -- where the first one ends, and where the second one does
        between : Part → ℕ
        between its = after mid (its mid).ops

        behind_both : Part → Part → ℕ
        behind_both its also = after (suc (between its)) (also (suc (between its))).ops

        long : (its also : Part) → after start (if_else_code setting function counts at e join its also start).ops ≡ suc (behind_both its also)
        long its also =
            length_next (guarded setting function counts.pieces at e (suc (between its)))
            (its then alone join at (op.Jump (behind_both its also)) then also then alone join at op.Mark) start mid
            (length_given counts.pieces at (value_code setting function counts.pieces e) (op.Zero (suc (between its))) start)
            ∙ length_next its (alone join at (op.Jump (behind_both its also)) then also then alone join at op.Mark) mid (between its) refl
            ∙ length_next also (alone join at op.Mark) (suc (between its)) (behind_both its also) refl

    switch_aims : (test end_ : ℕ) (at : Pos) (e : RightValue) (first last : ℕ) (body : Targets → Part) (outer : Targets) (start : ℕ)
        → ((a b : Targets) → SameParts (body a) (body b)) → ((its : Targets) (start : ℕ) → AimsAt (body its) (body (inner its)) start)
        → AimsAt (switch_code setting function test end_ at e first last body outer) (switch_code setting function test end_ at e first last body (inner outer))
        start
    switch_aims test end_ at e first last body outer start same is =
        record {
          long = long (inner outer) ∙ sym (long outer);
          aims = λ less. counted (
              (then_aims (given_aims test at (value_code setting function test e) choose choose start (value_within setting function test e) refl)
              (then_aims (aimed_body (omega (arith, less, long outer))) (alone_aims end_ at op.Mark op.Mark _ refl))).aims less
              );
        }
      where
        mid : ℕ
        mid = behind setting function test e start

        break_at : ℕ
        break_at = after mid (body nowhere mid).ops

        labels : List (Label × ℕ)
        labels = (body nowhere mid).labels

        choose : Op
        choose = op.Choose (goal_of setting function first last labels break_at)

        ours : Targets
        ours = record { breaks = break_at; continues = outer.continues }

        theirs : Targets
        theirs = record { breaks = break_at; continues = (inner outer).continues }

        long : (outer : Targets) → after start (switch_code setting function test end_ at e first last body outer start).ops ≡ suc break_at
        long outer =
            length_next (given test at (value_code setting function test e) choose)
            (body (record { breaks = break_at; continues = outer.continues }) then alone end_ at op.Mark) start mid
            (length_given test at (value_code setting function test e) choose start)
            ∙ length_next (body (record { breaks = break_at; continues = outer.continues })) (alone end_ at op.Mark) mid break_at
            ((same (record { breaks = break_at; continues = outer.continues }) nowhere).at mid).0

        aimed_body : break_at < room → {next : ℕ} → AimsAt (body ours) (body theirs) next
        aimed_body less {next} =
            subst (λ n. AimsAt (body ours) (body (record { breaks = n; continues = (inner outer).continues })) next)
            (target_fixed break_at (omega (arith, less))) (is ours next)

        counted : IsAimed ((given test at (value_code setting function test e) choose then body ours then alone end_ at op.Mark) start)
            ((given test at (value_code setting function test e) choose then body theirs then alone end_ at op.Mark) start)
            → IsAimed (switch_code setting function test end_ at e first last body outer start)
            (switch_code setting function test end_ at e first last body (inner outer) start)
        counted all = (all.0, ap (λ list. list ++ cases_in labels) all.1, all.2)

    mutual
      -- with the targets of a statement aimed
      pub statement_aims : (it : TypedStatement) (counts : Counts) (its : Targets) (start : ℕ)
          → AimsAt (statement_code setting function it counts its) (statement_code setting function it counts (inner its)) start
      statement_aims (tree.block it) counts its start = block_aims it counts its start
      statement_aims (tree.expression at e) counts its start = statement_fixed (tree.expression at e) counts start
      statement_aims (tree.empty at) counts its start = statement_fixed (tree.empty at) counts start
      statement_aims (tree.if_ at test first) counts its start =
          if_aims counts at.pos test _ _ _ start (same_statement setting function first (one_piece counts) its (inner its))
          (λ next. statement_aims first (one_piece counts) its next)
      statement_aims (tree.if_else at test first second) counts its start =
          if_else_aims counts at.pos test _ _ _ _ _ start (same_statement setting function first (one_piece counts) its (inner its))
          (same_statement setting function second (after_statement first (one_piece counts)) its (inner its))
          (λ next. statement_aims first (one_piece counts) its next) (λ next. statement_aims second (after_statement first (one_piece counts)) its next)
      statement_aims (tree.while_ at test body) counts its start = statement_fixed (tree.while_ at test body) counts start
      statement_aims (tree.do_ at body test) counts its start = statement_fixed (tree.do_ at body test) counts start
      statement_aims (tree.for_ at first test step body) counts its start = statement_fixed (tree.for_ at first test step body) counts start
      statement_aims (tree.switch_ at e it) counts its start =
          switch_aims _ _ at.pos e _ _ (block_code setting function it (one_piece counts)) its start
          (λ a b. same_block setting function it (one_piece counts) a b) (λ its next. block_aims it (one_piece counts) its next)
      statement_aims (tree.break_ at) counts its start = alone_aims counts.pieces at.pos (op.Jump its.breaks) (op.Jump (inner its).breaks) start refl
      statement_aims (tree.continue_ at) counts its start =
          alone_aims counts.pieces at.pos (op.Jump its.continues) (op.Jump (inner its).continues) start refl
      statement_aims (tree.return_ at e) counts its start = statement_fixed (tree.return_ at e) counts start

      pub block_aims : (it : TypedBlock) (counts : Counts) (its : Targets) (start : ℕ)
          → AimsAt (block_code setting function it counts its) (block_code setting function it counts (inner its)) start
      block_aims (tree.compound opening declarations list closing) counts its start =
          then_aims (alone_aims counts.pieces opening.pos op.Mark op.Mark start refl)
          (then_aims (declarations_fixed declarations counts opening start)
          (then_aims (list_aims list (pieces_for declarations (one_piece counts)) its _)
          (alone_aims (after_list list (pieces_for declarations (one_piece counts))).pieces closing.pos op.Mark op.Mark _ refl)))

      list_aims : (list : TypedStatements) (counts : Counts) (its : Targets) (start : ℕ)
          → AimsAt (list_code setting function list counts its) (list_code setting function list counts (inner its)) start
      list_aims tree.no_statements counts its start = nothing_aims start
      list_aims (tree.more_statements labels it rest) counts its start =
          then_aims {f = λ start. record { ops = labels_code counts.pieces labels; cases = []; labels = labels_at labels start }}
          (labels_aim counts.pieces labels start)
          (then_aims {f = λ start. closed (statement_code setting function it (pieces_for labels counts) its start)}
          (closed_aims (statement_aims it (pieces_for labels counts) its _)) (list_aims rest (after_statement it (pieces_for labels counts)) its _))
