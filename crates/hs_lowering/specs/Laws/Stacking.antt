-- Each operation of a function has its operands (own).
--     Rests count at                 nothing is on the stack there, and the next operations, that many at most, have their operands
--     AllRest count labels           so have those from each of these labels on; RestsAll, from a place and from labels
--     statement_rest, block_rest     the law of a statement: if that holds after it, and where `break` and `continue` go, it holds from its start
--     function_stacked               each operation of a function that is reached has its operands
--     code_whole                     the code of a program is code: that, and what it names is in range
use Rattle.std.proofs.Common.{◌≡◌, ◌⊎◌, inl, inr, ◌≤◌, ◌<◌, ◌==◌, ℕ, zero, suc, Bool, true, false, List, [], ◌∷◌, ◌++◌, slice_get, Option, Some, None, IsTrue, is_some, refl, sym, ap, ◌∙◌, subst, arith}
use Rattle.std.proofs.lemmas.Bool.Decides.{nat_tests}
use Rattle.std.specs.List.{AllByRecursion}
use Rattle.hs_base.specs.declared.pos.Pos.{Pos}
use Rattle.hs_code.specs.Codes.{scope_of, AreCodesOf, IsCode}
use Rattle.hs_code.specs.Following.{IsCase, IsNext}
use Rattle.hs_code.specs.Stacks.{Scope, Kind, kind_of, kind_by, kinds_after, IsStacked}
use Rattle.hs_code.specs.Stacks as stacks
use Rattle.hs_code.specs.declared.function_code.Case.{Case}
use Rattle.hs_code.specs.declared.function_code.FunctionCode.{FunctionCode}
use Rattle.hs_code.specs.declared.op.Op.{Op}
use Rattle.hs_code.specs.declared.op.Op.TheVariants as op
use Rattle.hs_lowering.specs.Laws.Filling.{Rest, Passes, passes_nothing, dropped_passes, declarations_pass}
use Rattle.hs_lowering.specs.Laws.InRange.{IsRanged, code_ranged}
use Rattle.hs_lowering.specs.Laws.Jobs.{code_of, itself_held}
use Rattle.hs_lowering.specs.Laws.Kinds.{IsOf, number_kinds, read_value}
use Rattle.hs_lowering.specs.Laws.Leaving.{Is, IsPlain, Leaves, only_leaves, one_leaves}
use Rattle.hs_lowering.specs.Laws.Lengths.{SameParts, same_statement, same_block, past, past_none, past_more, one_counted, pieces_same, piece_same, plain_dropped, plain_declarations, block_labels, block_labels_counted, cases_of_statement, cases_of_a_block}
use Rattle.hs_lowering.specs.Laws.Loops.{while_back, while_targets, WhileStands, while_stands, do_test, do_back, do_targets, DoStands, do_stands, for_step, for_back, for_targets, ForStands, for_stands}
use Rattle.hs_lowering.specs.Laws.Named.{OfFunctions, nodes_both}
use Rattle.hs_lowering.specs.Laws.Placing.{CasesFrom, cases_front, cases_back, Held, held_front, held_back, held_next, length_next, length_given}
use Rattle.hs_lowering.specs.Laws.Stacks.{KindsFit, without_all, right_leaves}
use Rattle.hs_lowering.specs.Laws.Starts.{as_head}
use Rattle.hs_lowering.specs.Lowering.{after, only}
use Rattle.hs_lowering.specs.Performing.{Holds, holds_front, holds_back, after_append}
use Rattle.hs_lowering.specs.Stacked.{Stacked, fewer, step, step_down, stacked_throughout}
use Rattle.hs_lowering.specs.Statements.{Part, ◌then◌, closed, Counts, Targets, nowhere, one_piece, piece_for, pieces_for, cases_of_block, after_statement, after_block, after_list, body_counts, end_at, placed_at, alone, given, labels_code, labels_at, cases_in, default_in, declarations_code, value_code, behind, guarded, guarded_if, behind_if, dropped_if, missing_code, return_code, returned_code, if_code, if_else_code, while_code, do_code, ForPieces, for_code, goal_of, switch_code, statement_code, block_code, list_code, function_code, functions_code, codes_of}
use Rattle.hs_meaning.specs.Classes.{classes_of}
use Rattle.hs_meaning.specs.Laws.Unmoved.Lists.{all_append}
use Rattle.hs_meaning.specs.Settings.{Setting, setting_of}
use Rattle.hs_meaning.specs.Statements.{closing_of}
use Rattle.hs_tokens.specs.declared.place.Place.{Place}
use Rattle.hs_tokens.specs.declared.token.Origin.TheVariants as origin
use Rattle.hs_tree.specs.Fitting.{Fits, HasOperands, HasResult, FitsFunction, FitsRoutine, FitsPhrase, FitsReturn, IsPromoted, IsPromotedKind, EachNode}
use Rattle.hs_tree.specs.Inside.{EachRight, EachStatement, EachBlock, EachOfStatements, EachExpression, IfAny}
use Rattle.hs_tree.specs.Kinds.{number_kind, is_pointer, is_struct_row, is_void, IsAnyNumber}
use Rattle.hs_tree.specs.Trees as tree
use Rattle.hs_tree.specs.Trees.{RightValue, TypedStatement, TypedBlock, TypedStatements, TypedFunction, TypedProgram, type_of}
use Rattle.hs_tree.specs.declared.statement.Label.{Label}
use Rattle.hs_tree.specs.declared.statement.Label.TheVariants as label
use Rattle.hs_types.specs.TypeTables.{IsRight, row_of}
use Rattle.hs_types.specs.declared.integer.Integer.{Integer}

-- ---- cases

-- it is after the first one
past_first : (first place : ℕ) → first ≤ place → (first == place) ≡ false → suc first ≤ place
past_first first place from is = grind (arith, nat_tests, from, is)

-- it is the first one
same_place : (first place : ℕ) → (first == place) ≡ true → place ≡ first
same_place first place is = grind (arith, nat_tests, is)

-- one of a list of cases that is there
case_holds : (holds : Case → Type 0) (all : List Case) (first place : ℕ) (own : List Case) (its : Case) → CasesFrom all first own
    → AllByRecursion holds own → first ≤ place → place < past first own → slice_get all place ≡ Some its → holds its
case_holds holds all first place [] its there each from before found = absurd (never (past first []) (past_none first) before)
  where
    never : (end_ : ℕ) → end_ ≡ first → place < end_ → ⊥
    never end_ same less = omega (arith, same, less, from)
case_holds holds all first place (one ∷ rest) its there each from before found =
    by (first == place) refl
    (λ behind_. case_holds holds all (suc first) place rest its there.1 each.1 behind_ (subst (λ n. place < n) (past_more first one rest) before) found)
  where
    same : (a b : Case) → Some a ≡ Some b → a ≡ b
    same a b so = cc

    by : (b : Bool) → (first == place) ≡ b → (suc first ≤ place → holds its) → holds its
    by true so later = subst holds (same one its (sym there.0 ∙ ap (λ n. slice_get all n) (sym (same_place first place so)) ∙ found)) each.0
    by false so later = later (past_first first place from so)

-- ---- numbers

-- a promoted number is one
promoted_number : (its : Option Integer) → IsPromotedKind its → IsTrue (is_some its)
promoted_number None is = absurd is
promoted_number (Some its) is = refl

module _ (program : TypedProgram) (function : TypedFunction) (code : FunctionCode) (table : IsRight program.types) where
  -- what kinds depend on in the function
  abbrev scope : Scope
  scope = scope_of program function

  -- what a run needs of the program
  abbrev setting : Setting
  setting = setting_of program

  -- the facts of a value
  abbrev RightFits : RightValue → Type 0
  RightFits e = EachRight (KindsFit program function) e

  -- of the values in a statement
  abbrev pub StatementFits : TypedStatement → Type 0
  StatementFits it = EachStatement (EachExpression (EachRight (KindsFit program function))) it

  -- in a block
  abbrev pub BlockFits : TypedBlock → Type 0
  BlockFits it = EachBlock (EachExpression (EachRight (KindsFit program function))) it

  -- nothing is on the stack
  abbrev Rests : ℕ → ℕ → Type 0
  Rests count at = Rest program function code count at

  -- from each label on
  abbrev pub AllRest : ℕ → List (Label × ℕ) → Type 0
  AllRest count labels = AllByRecursion (λ (it : Label × ℕ). Rests count it.1) labels

  -- from there on, and from each label
  pub record RestsAll (count start : ℕ) (its : List (Label × ℕ)) : Type 0 where
    pub rest : Rests count start
    pub labels : AllRest count its

  -- of the same operation
  rests_at : (count one other : ℕ) → one ≡ other → Rests count one → Rests count other
  rests_at count one other same rests = subst (λ n. Rests count n) same rests

  -- ---- single operations

  -- one that takes nothing, and after which the next one follows
  plain_rest : (count at piece : ℕ) (pos_ : Pos) (its : Op) → IsPlain its → kinds_after scope its [] ≡ Some []
      → slice_get code.ops at ≡ Some (placed_at piece pos_ its 0) → Rests count (suc at) → Rests count at
  plain_rest count at piece pos_ its plain operands there rests =
      step scope code count at (placed_at piece pos_ its 0) [] [] there refl operands
      (λ next follows. rests_at count (suc at) next (sym (plain code.cases at next follows)) rests)

  -- the start or the end of a piece
  mark_rest : (count at piece : ℕ) (pos_ : Pos) → slice_get code.ops at ≡ Some (placed_at piece pos_ op.Mark 0) → Rests count (suc at) → Rests count at
  mark_rest count at piece pos_ there rests = plain_rest count at piece pos_ op.Mark (λ cases at next follows. follows) refl there rests

  -- a turn of a loop
  turn_rest : (count at piece : ℕ) (pos_ : Pos) → slice_get code.ops at ≡ Some (placed_at piece pos_ op.Turn 0) → Rests count (suc at) → Rests count at
  turn_rest count at piece pos_ there rests = plain_rest count at piece pos_ op.Turn (λ cases at next follows. follows) refl there rests

  -- a jump
  jump_rest : (count at piece target : ℕ) (pos_ : Pos) → slice_get code.ops at ≡ Some (placed_at piece pos_ (op.Jump target) 0) → Rests count target
      → Rests count at
  jump_rest count at piece target pos_ there rests =
      step scope code count at (placed_at piece pos_ (op.Jump target) 0) [] [] there refl refl
      (λ next follows. rests_at count target next (sym follows) rests)

  -- a mark before a loop: after it, one operation less is asked for
  head_rest : (count at piece : ℕ) (pos_ : Pos) → slice_get code.ops at ≡ Some (placed_at piece pos_ op.Mark 0) → Rests count (suc at)
      → Rests (suc count) at
  head_rest count at piece pos_ there rests =
      step_down scope code count at (placed_at piece pos_ op.Mark 0) [] [] there refl refl
      (λ next follows. rests_at count (suc at) next (sym follows) rests)

  -- ---- a value, and an operation that takes it

  -- of any kind that a value of its type has
  value_rest : (count start piece : ℕ) (pos_ : Pos) (e : RightValue) (its : Op) → RightFits e
      → Holds code start (given piece pos_ (value_code setting function piece e) its start).ops
      → ((kind : Kind) → IsOf program.types (type_of e) kind
      → slice_get code.ops (after start (value_code setting function piece e start 0)) ≡ Some (placed_at piece pos_ its 1)
      → Stacked scope code count (after start (value_code setting function piece e start 0)) (kind ∷ []))
      → Rests count start
  value_rest count start piece pos_ e its fits holds more =
      (right_leaves program function code piece table e fits []).go count start 0 refl
      (holds_front code start (value_code setting function piece e start 0) (placed_at piece pos_ its 1 ∷ []) holds)
      (λ kind is. more kind is (holds_back code start (value_code setting function piece e start 0) (placed_at piece pos_ its 1 ∷ []) holds).0)

  -- a number
  number_rest : (count start piece : ℕ) (pos_ : Pos) (e : RightValue) (its : Op) → RightFits e → IsAnyNumber program.types (type_of e)
      → Holds code start (given piece pos_ (value_code setting function piece e) its start).ops
      → kinds_after scope its (stacks.number ∷ []) ≡ Some []
      → ((next : ℕ) → IsNext its code.cases (after start (value_code setting function piece e start 0)) next → Rests count next)
      → Rests count start
  number_rest count start piece pos_ e its fits any holds operands more =
      value_rest count start piece pos_ e its fits holds
      (λ kind is there. subst (λ kind. Stacked scope code count (after start (value_code setting function piece e start 0)) (kind ∷ []))
      (sym (is (number_kinds program.types (type_of e) any).1 ∙ (number_kinds program.types (type_of e) any).0))
      (step scope code count (after start (value_code setting function piece e start 0)) (placed_at piece pos_ its 1) (stacks.number ∷ []) [] there refl
      operands more))

  -- a condition
  guard_rest : (count start piece : ℕ) (pos_ : Pos) (e : RightValue) (target : ℕ) → RightFits e → IsAnyNumber program.types (type_of e)
      → Holds code start (guarded setting function piece pos_ e target start).ops → Rests count (behind setting function piece e start)
      → Rests count target → Rests count start
  guard_rest count start piece pos_ e target fits any holds holding failing =
      number_rest count start piece pos_ e (op.Zero target) fits any holds refl by
    where
      by : (next : ℕ) → (next ≡ behind setting function piece e start) ⊎ (next ≡ target) → Rests count next
      by next (inl so) = rests_at count (behind setting function piece e start) next (sym so) holding
      by next (inr so) = rests_at count target next (sym so) failing

  -- of a `for`
  guard_if_rest : (count start piece : ℕ) (pos_ : Pos) (e : Option RightValue) (target : ℕ) → IfAny RightFits e
      → IfAny (λ e. IsAnyNumber program.types (type_of e)) e → Holds code start (guarded_if setting function piece pos_ e target start).ops
      → Rests count (behind_if setting function piece e start) → Rests count target → Rests count start
  guard_if_rest count start piece pos_ None target fits any holds holding failing = holding
  guard_if_rest count start piece pos_ (Some e) target fits any holds holding failing =
      guard_rest count start piece pos_ e target fits any holds holding failing

  -- a part that may be absent, whose value is dropped
  part_passes : (piece : ℕ) (at : Place) (e : Option RightValue) → IfAny RightFits e → Passes program function code (dropped_if setting function piece at.pos e)
  part_passes piece at None fits = passes_nothing program function code
  part_passes piece at (Some e) fits =
      dropped_passes program function code piece at (value_code setting function piece e) (IsOf program.types (type_of e))
      (right_leaves program function code piece table e fits [])

  -- ---- returns

  -- the value of a return without one is of the kind of the result
  missing_leaves : (piece : ℕ) (at : Place) (b is_struct : Bool)
      → Leaves scope code (missing_code setting function piece at.pos b is_struct) (Is (kind_by b is_struct)) []
  missing_leaves piece at true is_struct =
      only_leaves scope code piece (as_head at) op.Nil [] stacks.pointer (λ cases at next follows. follows) refl
  missing_leaves piece at false true =
      one_leaves scope code piece (as_head at) (op.Load _) (only piece (as_head at) op.Nil) [] stacks.pointer stacks.structure
      (λ cases at next follows. follows) refl
      (only_leaves scope code piece (as_head at) op.Nil [] stacks.pointer (λ cases at next follows. follows) refl)
  missing_leaves piece at false false =
      only_leaves scope code piece (as_head at) (op.Num 0) [] stacks.number (λ cases at next follows. follows) refl

  -- a value of the kind of the result is returned, and nothing follows
  ended_rest : (count at piece : ℕ) (pos_ : Pos) (kind : Kind) → kind ≡ kind_of program.types function.result
      → slice_get code.ops at ≡ Some (placed_at piece pos_ op.Return 1) → Stacked scope code count at (kind ∷ [])
  ended_rest count at piece pos_ kind is there =
      step scope code count at (placed_at piece pos_ op.Return 1) (kind ∷ []) [] there refl
      (subst (λ found. kinds_after scope op.Return (found ∷ []) ≡ Some []) (sym is) (without_all (kind_of program.types function.result ∷ []) []))
      (λ next follows. absurd follows)

  -- a return, with or without a value
  returned_rest : (count start piece : ℕ) (at : Place) (e : Option RightValue) → IfAny RightFits e → FitsReturn program function e
      → Holds code start (returned_code setting function piece at.pos e start).ops → Rests count start
  returned_rest count start piece at None fits is holds =
      (missing_leaves piece at (is_pointer program.types function.result) (is_struct_row (row_of program.types function.result))).go count start 0 refl
      (holds_front code start _ (placed_at piece at.pos op.Return 1 ∷ []) holds)
      (λ kind of. ended_rest count _ piece at.pos kind of (holds_back code start _ (placed_at piece at.pos op.Return 1 ∷ []) holds).0)
  returned_rest count start piece at (Some e) fits is holds =
      value_rest count start piece at.pos e op.Return fits holds
      (λ kind of there. ended_rest count _ piece at.pos kind
      (of (subst (λ id. is_void program.types id ≡ false) (sym is.1) (read_value setting function.result is.0)) ∙ ap (kind_of program.types) is.1) there)

  -- ---- labels

  -- a label in front of others is a mark
  label_rest : (count piece : ℕ) (its : Label) (labels : List Label) (start : ℕ) (pos_ : Pos)
      → slice_get code.ops start ≡ Some (placed_at piece pos_ op.Mark 0) → RestsAll count (suc start) (labels_at labels (suc start))
      → RestsAll count start (labels_at (its ∷ labels) start)
  label_rest count piece its labels start pos_ there rests =
      record { rest = mark_rest count start piece pos_ there rests.rest; labels = (mark_rest count start piece pos_ there rests.rest, rests.labels) }

  -- the labels of a statement
  labels_rest : (count piece : ℕ) (labels : List Label) (start : ℕ) → Holds code start (labels_code piece labels)
      → Rests count (after start (labels_code piece labels)) → RestsAll count start (labels_at labels start)
  labels_rest count piece [] start holds rests = record { rest = rests; labels = tt }
  labels_rest count piece (label.Case at bits ∷ rest) start holds rests =
      label_rest count piece (label.Case at bits) rest start at.pos holds.0 (labels_rest count (suc piece) rest (suc start) holds.1 rests)
  labels_rest count piece (label.Default at ∷ rest) start holds rests =
      label_rest count piece (label.Default at) rest start at.pos holds.0 (labels_rest count (suc piece) rest (suc start) holds.1 rests)

  -- the default of a switch, or the end of its block
  default_rest : (count : ℕ) (labels : List (Label × ℕ)) (otherwise : ℕ) → AllRest count labels → Rests count otherwise
      → Rests count (default_in labels otherwise)
  default_rest count [] otherwise are rests = rests
  default_rest count ((label.Case at bits, target) ∷ rest) otherwise are rests = default_rest count rest otherwise are.1 rests
  default_rest count ((label.Default at, target) ∷ rest) otherwise are rests = are.0

  -- the cases of a switch
  cases_rest : (count : ℕ) (labels : List (Label × ℕ)) → AllRest count labels → AllByRecursion (λ it. Rests count it.target) (cases_in labels)
  cases_rest count [] are = tt
  cases_rest count ((label.Case at bits, target) ∷ rest) are = (are.0, cases_rest count rest are.1)
  cases_rest count ((label.Default at, target) ∷ rest) are = cases_rest count rest are.1

  -- ---- branches

  -- a statement, if the condition holds
  if_rest : (count : ℕ) (at : Place) (e : RightValue) (counts : Counts) (join : ℕ) (first : Part) (start : ℕ) → RightFits e
      → IsAnyNumber program.types (type_of e)
      → ((m : ℕ) → Held code (first m) counts.cases m → Rests count (after m (first m).ops) → Rests count m)
      → Held code (if_code setting function counts at.pos e join first start) counts.cases start
      → Rests count (after start (if_code setting function counts at.pos e join first start).ops) → Rests count start
  if_rest count at e counts join first start fits any does held more =
      guard_rest count start counts.pieces at.pos e end_ fits any (held_front code guard rest_part counts.cases start held).ops
      (does mid (held_front code first (alone join at.pos op.Mark) counts.cases mid from_rest) ended) ended
    where
      mid : ℕ
      mid = behind setting function counts.pieces e start

      end_ : ℕ
      end_ = after mid (first mid).ops

      guard : Part
      guard = guarded setting function counts.pieces at.pos e end_

      rest_part : Part
      rest_part = first then alone join at.pos op.Mark

      ends_guard : after start (guard start).ops ≡ mid
      ends_guard = length_given counts.pieces at.pos (value_code setting function counts.pieces e) (op.Zero end_) start

      from_rest : Held code (rest_part mid) counts.cases mid
      from_rest = held_next code guard rest_part counts.cases start mid refl ends_guard held

      ended : Rests count end_
      ended =
          mark_rest count end_ join at.pos
          (held_back code first (alone join at.pos op.Mark) counts.cases mid (past counts.cases (first mid).cases) end_ refl refl from_rest).ops.0
          (rests_at count _ (suc end_) (length_next guard rest_part start mid ends_guard ∙ after_append mid (first mid).ops _) more)

  -- one statement or the other
  if_else_rest : (count : ℕ) (at : Place) (e : RightValue) (counts : Counts) (join between : ℕ) (first second : Part) (start : ℕ) → RightFits e
      → IsAnyNumber program.types (type_of e) → ((m : ℕ) → past counts.cases (first m).cases ≡ between)
      → ((m : ℕ) → Held code (first m) counts.cases m → Rests count (after m (first m).ops) → Rests count m)
      → ((m : ℕ) → Held code (second m) between m → Rests count (after m (second m).ops) → Rests count m)
      → Held code (if_else_code setting function counts at.pos e join first second start) counts.cases start
      → Rests count (after start (if_else_code setting function counts at.pos e join first second start).ops) → Rests count start
  if_else_rest count at e counts join between first second start fits any counted does otherwise held more =
      guard_rest count start counts.pieces at.pos e (suc jump_at) fits any
      (held_front code guard (first then jump then second then mark) counts.cases start held).ops
      (does mid (held_front code first (jump then second then mark) counts.cases mid from_first)
      (jump_rest count jump_at join end_ at.pos from_jump.ops.0 ended))
      (otherwise (suc jump_at) (held_front code second mark between (suc jump_at) from_second) ended)
    where
      mid : ℕ
      mid = behind setting function counts.pieces e start

      jump_at : ℕ
      jump_at = after mid (first mid).ops

      end_ : ℕ
      end_ = after (suc jump_at) (second (suc jump_at)).ops

      guard : Part
      guard = guarded setting function counts.pieces at.pos e (suc jump_at)

      jump : Part
      jump = alone join at.pos (op.Jump end_)

      mark : Part
      mark = alone join at.pos op.Mark

      ends_guard : after start (guard start).ops ≡ mid
      ends_guard = length_given counts.pieces at.pos (value_code setting function counts.pieces e) (op.Zero (suc jump_at)) start

      from_first : Held code ((first then jump then second then mark) mid) counts.cases mid
      from_first = held_next code guard (first then jump then second then mark) counts.cases start mid refl ends_guard held

      from_jump : Held code ((jump then second then mark) jump_at) between jump_at
      from_jump = held_back code first (jump then second then mark) counts.cases mid between jump_at (counted mid) refl from_first

      from_second : Held code ((second then mark) (suc jump_at)) between (suc jump_at)
      from_second = held_next code jump (second then mark) between jump_at (suc jump_at) refl refl from_jump

      ended : Rests count end_
      ended =
          mark_rest count end_ join at.pos
          (held_back code second mark between (suc jump_at) (past between (second (suc jump_at)).cases) end_ refl refl from_second).ops.0
          (rests_at count _ (suc end_)
          (length_next guard (first then jump then second then mark) start mid ends_guard
          ∙ length_next first (jump then second then mark) mid jump_at refl ∙ after_append (suc jump_at) (second (suc jump_at)).ops _) more)

  -- ---- loops

  -- a body, for any number of operations
  abbrev Does : ℕ → (Targets → Part) → Type 0
  Does base body =
      (count : ℕ) (targets : Targets) (m : ℕ) → Held code (body targets m) base m → Rests count targets.breaks → Rests count targets.continues
      → Rests count (after m (body targets m).ops) → Rests count m

  -- the condition first: by induction on the number of operations, as the mark in front of the loop is one
  while_rest : (at : Place) (e : RightValue) (join test end_ base : ℕ) (body : Targets → Part) (start : ℕ) → RightFits e
      → IsAnyNumber program.types (type_of e) → ((a b : Targets) → SameParts (body a) (body b)) → Does base body
      → Held code (while_code setting function join test end_ at.pos e body start) base start → (count : ℕ)
      → Rests count (after start (while_code setting function join test end_ at.pos e body start).ops) → Rests count start
  while_rest at e join test end_ base body start fits any same does held count more = loops count (rests_at count _ (suc (suc back)) stands.ends more)
    where
      back : ℕ
      back = while_back setting function code join test end_ at.pos e body start

      targets : Targets
      targets = while_targets setting function code join test end_ at.pos e body start

      stands : WhileStands setting function code join test end_ at.pos e body start base
      stands = while_stands setting function code join test end_ at.pos e body start base same held

      inside : (count : ℕ) → Rests count (suc (suc back)) → Rests count start → Rests count (suc start)
      inside count more again =
          guard_rest count (suc start) test at.pos e (suc back) fits any stands.guard
          (turn_rest count _ test at.pos stands.turn
          (does count targets _ stands.body_held broken again
          (rests_at count back _ (sym stands.body_ends) (jump_rest count back join start at.pos stands.back again))))
          broken
        where
          broken : Rests count (suc back)
          broken = mark_rest count (suc back) end_ at.pos stands.end_stands more

      loops : (count : ℕ) → Rests count (suc (suc back)) → Rests count start
      loops zero more = tt
      loops (suc count) more =
          head_rest count start join at.pos stands.head
          (inside count (fewer scope code count (suc (suc back)) [] more) (loops count (fewer scope code count (suc (suc back)) [] more)))

  -- the body first
  do_rest : (at : Place) (e : RightValue) (join test end_ base : ℕ) (body : Targets → Part) (start : ℕ) → RightFits e
      → IsAnyNumber program.types (type_of e) → ((a b : Targets) → SameParts (body a) (body b)) → Does base body
      → Held code (do_code setting function join test end_ at.pos e body start) base start → (count : ℕ)
      → Rests count (after start (do_code setting function join test end_ at.pos e body start).ops) → Rests count start
  do_rest at e join test end_ base body start fits any same does held count more = loops count (rests_at count _ (suc (suc back)) stands.ends more)
    where
      test_at : ℕ
      test_at = do_test setting function code join test end_ at.pos e body start

      back : ℕ
      back = do_back setting function code join test end_ at.pos e body start

      targets : Targets
      targets = do_targets setting function code join test end_ at.pos e body start

      stands : DoStands setting function code join test end_ at.pos e body start base
      stands = do_stands setting function code join test end_ at.pos e body start base same held

      inside : (count : ℕ) → Rests count (suc (suc back)) → Rests count start → Rests count (suc start)
      inside count more again =
          turn_rest count (suc start) join at.pos stands.turn
          (does count targets _ stands.body_held broken tested (rests_at count test_at _ (sym stands.body_ends) tested))
        where
          broken : Rests count (suc back)
          broken = mark_rest count (suc back) end_ at.pos stands.end_stands more

          tested : Rests count test_at
          tested =
              guard_rest count test_at test at.pos e (suc back) fits any stands.guard (jump_rest count back join start at.pos stands.back again) broken

      loops : (count : ℕ) → Rests count (suc (suc back)) → Rests count start
      loops zero more = tt
      loops (suc count) more =
          head_rest count start join at.pos stands.head
          (inside count (fewer scope code count (suc (suc back)) [] more) (loops count (fewer scope code count (suc (suc back)) [] more)))

  -- with a step after each turn
  for_rest : (at : Place) (test after_each : Option RightValue) (pieces : ForPieces setting function) (base : ℕ) (body : Targets → Part) (start : ℕ)
      → IfAny RightFits test → IfAny (λ e. IsAnyNumber program.types (type_of e)) test → IfAny RightFits after_each
      → ((a b : Targets) → SameParts (body a) (body b)) → Does base body
      → Held code (for_code setting function pieces at.pos test after_each body start) base start → (count : ℕ)
      → Rests count (after start (for_code setting function pieces at.pos test after_each body start).ops) → Rests count start
  for_rest at test after_each pieces base body start fits any also same does held count more =
      loops count (rests_at count _ (suc (suc back)) stands.ends more)
    where
      step_at : ℕ
      step_at = for_step setting function code pieces at.pos test after_each body start

      back : ℕ
      back = for_back setting function code pieces at.pos test after_each body start

      targets : Targets
      targets = for_targets setting function code pieces at.pos test after_each body start

      stands : ForStands setting function code pieces at.pos test after_each body start base
      stands = for_stands setting function code pieces at.pos test after_each body start base same held

      inside : (count : ℕ) → Rests count (suc (suc back)) → Rests count start → Rests count (suc start)
      inside count more again =
          guard_if_rest count (suc start) pieces.test at.pos test (suc back) fits any stands.guard
          (turn_rest count _ _ at.pos stands.turn
          (does count targets _ stands.body_held broken stepped (rests_at count step_at _ (sym stands.body_ends) stepped)))
          broken
        where
          broken : Rests count (suc back)
          broken = mark_rest count (suc back) pieces.end_ at.pos stands.end_stands more

          stepped : Rests count step_at
          stepped =
              (part_passes pieces.step at after_each also).go count step_at stands.step_held (jump_rest count back pieces.join start at.pos stands.back again)

      loops : (count : ℕ) → Rests count (suc (suc back)) → Rests count start
      loops zero more = tt
      loops (suc count) more =
          head_rest count start pieces.join at.pos stands.head
          (inside count (fewer scope code count (suc (suc back)) [] more) (loops count (fewer scope code count (suc (suc back)) [] more)))

  -- ---- switch

  -- where the number goes: to a label, or after the block
  choose_rest : (count start piece : ℕ) (pos_ : Pos) (e : RightValue) (first last : ℕ) (labels : List (Label × ℕ)) (otherwise : ℕ) → RightFits e
      → IsPromoted program.types (type_of e) → past first (cases_in labels) ≡ last → CasesFrom code.cases first (cases_in labels)
      → Holds code start (given piece pos_ (value_code setting function piece e) (op.Choose (goal_of setting function first last labels otherwise)) start).ops
      → AllRest count labels → Rests count otherwise → Rests count start
  choose_rest count start piece pos_ e first last labels otherwise fits is counted there holds are rests =
      number_rest count start piece pos_ e (op.Choose (goal_of setting function first last labels otherwise)) fits
      (promoted_number (number_kind program.types (type_of e)) is) holds refl by
    where
      by : (next : ℕ) → (next ≡ default_in labels otherwise) ⊎ IsCase code.cases first last next → Rests count next
      by next (inl so) = rests_at count (default_in labels otherwise) next (sym so) (default_rest count labels otherwise are rests)
      by next (inr so) =
          rests_at count so.its.target next so.goes
          (case_holds (λ it. Rests count it.target) code.cases first so.place (cases_in labels) so.its there (cases_rest count labels are) so.from
          (subst (λ n. so.place < n) (sym counted) so.before) so.there)

  -- the value, the block, and the join after it
  switch_rest : (count : ℕ) (at : Place) (e : RightValue) (test end_ base first last : ℕ) (body : Targets → Part) (outer : Targets) (start : ℕ)
      → RightFits e → IsPromoted program.types (type_of e) → ((a b : Targets) → SameParts (body a) (body b))
      → ((targets : Targets) (m : ℕ) → past base (body targets m).cases ≡ first)
      → ((m : ℕ) → past first (cases_in (body nowhere m).labels) ≡ last)
      → ((targets : Targets) (m : ℕ) → Held code (body targets m) base m → Rests count targets.breaks → Rests count targets.continues
      → Rests count (after m (body targets m).ops) → RestsAll count m (body targets m).labels)
      → Held code (switch_code setting function test end_ at.pos e first last body outer start) base start → Rests count outer.continues
      → Rests count (after start (switch_code setting function test end_ at.pos e first last body outer start).ops) → Rests count start
  switch_rest count at e test end_ base first last body outer start fits is same counted labelled does held continues more =
      choose_rest count start test at.pos e first last own_labels break_at fits is (labelled block_at) own_cases
      (held_front code choose_part (body targets then join_part) base start inner_held).ops
      (subst (λ its. AllRest count its) ((same targets nowhere).at block_at).1
      (does targets block_at (held_front code (body targets) join_part base block_at from_block) broken continues
      (rests_at count break_at _ (sym same_end) broken)).labels) broken
    where
      block_at : ℕ
      block_at = behind setting function test e start

      break_at : ℕ
      break_at = after block_at (body nowhere block_at).ops

      targets : Targets
      targets = record { breaks = break_at; continues = outer.continues }

      own_labels : List (Label × ℕ)
      own_labels = (body nowhere block_at).labels

      choose_part : Part
      choose_part = given test at.pos (value_code setting function test e) (op.Choose (goal_of setting function first last own_labels break_at))

      join_part : Part
      join_part = alone end_ at.pos op.Mark

      inner_held : Held code ((choose_part then body targets then join_part) start) base start
      inner_held = record { ops = held.ops; cases = cases_front code.cases base _ (cases_in own_labels) held.cases }

      ends_choose : after start (choose_part start).ops ≡ block_at
      ends_choose = length_given test at.pos (value_code setting function test e) _ start

      from_block : Held code ((body targets then join_part) block_at) base block_at
      from_block = held_next code choose_part (body targets then join_part) base start block_at refl ends_choose inner_held

      same_end : after block_at (body targets block_at).ops ≡ break_at
      same_end = ((same targets nowhere).at block_at).0

      own_cases : CasesFrom code.cases first (cases_in own_labels)
      own_cases =
          subst (λ n. CasesFrom code.cases n (cases_in own_labels))
          (one_counted base first _ (counted targets (after start (choose_part start).ops)))
          (cases_back code.cases base _ (cases_in own_labels) held.cases)

      broken : Rests count break_at
      broken =
          mark_rest count break_at end_ at.pos
          (held_back code (body targets) join_part base block_at (past base (body targets block_at).cases) break_at refl same_end from_block).ops.0
          (rests_at count _ (suc break_at)
          (length_next choose_part (body targets then join_part) start block_at ends_choose
          ∙ length_next (body targets) join_part block_at break_at same_end) more)

  -- ---- all statements

  mutual
    -- from a statement on
    pub statement_rest : (it : TypedStatement) (counts : Counts) (targets : Targets) (count start : ℕ) → StatementFits it
        → EachStatement (FitsPhrase program function) it → Held code (statement_code setting function it counts targets start) counts.cases start
        → Rests count targets.breaks → Rests count targets.continues
        → Rests count (after start (statement_code setting function it counts targets start).ops) → Rests count start
    statement_rest (tree.block it) counts targets count start fits typed held breaks continues more =
        (block_rest it counts targets count start fits typed held breaks continues more).rest
    statement_rest (tree.expression at e) counts targets count start fits typed held breaks continues more =
        (part_passes counts.pieces at (Some e) fits).go count start held.ops more
    statement_rest (tree.empty at) counts targets count start fits typed held breaks continues more =
        mark_rest count start counts.pieces at.pos held.ops.0 more
    statement_rest (tree.if_ at test first) counts targets count start fits typed held breaks continues more =
        if_rest count at test counts (after_statement first (one_piece counts)).pieces (statement_code setting function first (one_piece counts) targets)
        start fits.0 typed.0
        (λ m there ended. statement_rest first (one_piece counts) targets count m fits.1 typed.1 there breaks continues ended) held more
    statement_rest (tree.if_else at test first second) counts targets count start fits typed held breaks continues more =
        if_else_rest count at test counts (after_statement second (after_statement first (one_piece counts))).pieces
        (after_statement first (one_piece counts)).cases (statement_code setting function first (one_piece counts) targets)
        (statement_code setting function second (after_statement first (one_piece counts)) targets) start fits.0 typed.0
        (λ m. cases_of_statement setting function first (one_piece counts) targets m)
        (λ m there ended. statement_rest first (one_piece counts) targets count m fits.1 typed.1 there breaks continues ended)
        (λ m there ended. statement_rest second (after_statement first (one_piece counts)) targets count m fits.2 typed.2 there breaks continues ended)
        held more
    statement_rest (tree.while_ at test body) counts targets count start fits typed held breaks continues more =
        while_rest at test counts.pieces (suc counts.pieces) (after_statement body (one_piece (one_piece counts))).pieces counts.cases
        (statement_code setting function body (one_piece (one_piece counts))) start fits.0 typed.0
        (λ a b. same_statement setting function body (one_piece (one_piece counts)) a b)
        (λ fewer_ inner m there leaves on ended.
        statement_rest body (one_piece (one_piece counts)) inner fewer_ m fits.1 typed.1 there leaves on ended) held count more
    statement_rest (tree.do_ at body test) counts targets count start fits typed held breaks continues more =
        do_rest at test counts.pieces (after_statement body (one_piece counts)).pieces (suc (after_statement body (one_piece counts)).pieces) counts.cases
        (statement_code setting function body (one_piece counts)) start fits.0 typed.0
        (λ a b. same_statement setting function body (one_piece counts) a b)
        (λ fewer_ inner m there leaves on ended. statement_rest body (one_piece counts) inner fewer_ m fits.1 typed.1 there leaves on ended) held count more
    statement_rest (tree.for_ at first test after_each body) counts targets count start fits typed held breaks continues more =
        (part_passes counts.pieces at first fits.0.0).go count start (held_front code first_part loop_part counts.cases start held).ops
        (for_rest at test after_each pieces within.cases (statement_code setting function body within) loop_at fits.0.1 typed.0 fits.0.2
        (λ a b. same_statement setting function body within a b)
        (λ fewer_ inner m there leaves on ended. statement_rest body within inner fewer_ m fits.1 typed.1 there leaves on ended) from_loop count
        (rests_at count _ _ (length_next first_part loop_part start loop_at refl) more))
      where
        within : Counts
        within = piece_for after_each (piece_for test (one_piece (piece_for first counts)))

        pieces : ForPieces setting function
        pieces =
            record {
              join = (piece_for first counts).pieces;
              test = suc (piece_for first counts).pieces;
              step = (piece_for test (one_piece (piece_for first counts))).pieces;
              end_ = (after_statement body within).pieces;
            }

        first_part : Part
        first_part = dropped_if setting function counts.pieces at.pos first

        loop_part : Part
        loop_part = for_code setting function pieces at.pos test after_each (statement_code setting function body within)

        loop_at : ℕ
        loop_at = after start (first_part start).ops

        counted : within.cases ≡ counts.cases
        counted =
            piece_same after_each (piece_for test (one_piece (piece_for first counts))) ∙ piece_same test (one_piece (piece_for first counts))
            ∙ piece_same first counts

        from_loop : Held code (loop_part loop_at) within.cases loop_at
        from_loop =
            subst (λ n. Held code (loop_part loop_at) n loop_at) (sym counted)
            (held_next code first_part loop_part counts.cases start loop_at ((plain_dropped setting function counts.pieces at.pos first).cases start) refl held)
    statement_rest (tree.switch_ at e it) counts targets count start fits typed held breaks continues more =
        switch_rest count at e counts.pieces (after_block it (one_piece counts)).pieces counts.cases (after_block it (one_piece counts)).cases
        (cases_of_block it (after_block it (one_piece counts)).cases) (block_code setting function it (one_piece counts)) targets start fits.0 typed.0
        (λ a b. same_block setting function it (one_piece counts) a b) (λ inner m. cases_of_a_block setting function it (one_piece counts) inner m)
        (λ m. block_labels_counted setting function it (one_piece counts) nowhere m (after_block it (one_piece counts)).cases)
        (λ inner m there leaves on ended. block_rest it (one_piece counts) inner count m fits.1 typed.1 there leaves on ended) held continues more
    statement_rest (tree.break_ at) counts targets count start fits typed held breaks continues more =
        jump_rest count start counts.pieces targets.breaks at.pos held.ops.0 breaks
    statement_rest (tree.continue_ at) counts targets count start fits typed held breaks continues more =
        jump_rest count start counts.pieces targets.continues at.pos held.ops.0 continues
    statement_rest (tree.return_ at e) counts targets count start fits typed held breaks continues more =
        returned_rest count start counts.pieces at e fits typed held.ops

    -- from a block on, and from its labels
    pub block_rest : (it : TypedBlock) (counts : Counts) (targets : Targets) (count start : ℕ) → BlockFits it
        → EachBlock (FitsPhrase program function) it → Held code (block_code setting function it counts targets start) counts.cases start
        → Rests count targets.breaks → Rests count targets.continues
        → Rests count (after start (block_code setting function it counts targets start).ops)
        → RestsAll count start (block_code setting function it counts targets start).labels
    block_rest (tree.compound opening declarations list closing) counts targets count start fits typed held breaks continues more =
        by
        (list_rest list within targets count list_at fits.1 typed.1
        (subst (λ n. Held code (list_part list_at) n list_at) (sym (pieces_same declarations (one_piece counts)))
        (held_front code list_part close_part counts.cases list_at from_list)) breaks continues
        (mark_rest count end_ closing_piece closing.pos
        (held_back code list_part close_part counts.cases list_at (past counts.cases (list_part list_at).cases) end_ refl refl from_list).ops.0
        (rests_at count _ (suc end_)
        (length_next started_part (list_part then close_part) (suc start) list_at refl ∙ after_append list_at (list_part list_at).ops _) more)))
      where
        within : Counts
        within = pieces_for declarations (one_piece counts)

        closing_piece : ℕ
        closing_piece = (after_list list within).pieces

        started_part : Part
        started_part = declarations_code setting function (one_piece counts) declarations

        list_part : Part
        list_part = list_code setting function list within targets

        close_part : Part
        close_part = alone closing_piece closing.pos op.Mark

        list_at : ℕ
        list_at = after (suc start) (started_part (suc start)).ops

        end_ : ℕ
        end_ = after list_at (list_part list_at).ops

        from_start_part : Held code ((started_part then list_part then close_part) (suc start)) counts.cases (suc start)
        from_start_part =
            held_next code (alone counts.pieces opening.pos op.Mark) (started_part then list_part then close_part) counts.cases start (suc start) refl
            refl held

        from_list : Held code ((list_part then close_part) list_at) counts.cases list_at
        from_list =
            held_next code started_part (list_part then close_part) counts.cases (suc start) list_at
            ((plain_declarations setting function (one_piece counts) declarations).cases (suc start)) refl from_start_part

        by : RestsAll count list_at (list_part list_at).labels
            → RestsAll count start (block_code setting function (tree.compound opening declarations list closing) counts targets start).labels
        by rests =
            record {
              rest =
                  mark_rest count start counts.pieces opening.pos held.ops.0
                  ((declarations_pass program function code table (one_piece counts) declarations typed.0 fits.0).go count (suc start)
                  (held_front code started_part (list_part then close_part) counts.cases (suc start) from_start_part).ops rests.rest);
              labels =
                  subst (λ its. AllRest count its) (sym (block_labels setting function opening closing declarations list counts targets start)) rests.labels;
            }

    -- from a list of statements on, and from its labels
    pub list_rest : (its : TypedStatements) (counts : Counts) (targets : Targets) (count start : ℕ)
        → EachOfStatements (EachExpression (EachRight (KindsFit program function))) its → EachOfStatements (FitsPhrase program function) its
        → Held code (list_code setting function its counts targets start) counts.cases start → Rests count targets.breaks → Rests count targets.continues
        → Rests count (after start (list_code setting function its counts targets start).ops)
        → RestsAll count start (list_code setting function its counts targets start).labels
    list_rest tree.no_statements counts targets count start fits typed held breaks continues more = record { rest = more; labels = tt }
    list_rest (tree.more_statements labels it rest) counts targets count start fits typed held breaks continues more =
        by
        (list_rest rest (after_statement it within) targets count rest_at fits.1 typed.1
        (held_back code statement others within.cases first_at (after_statement it within).cases rest_at
        (cases_of_statement setting function it within targets first_at) refl from_first)
        breaks continues
        (rests_at count _ _ (length_next marks (statement then others) start first_at refl ∙ length_next statement others first_at rest_at refl) more))
        (λ ended. statement_rest it within targets count first_at fits.0 typed.0
        (record {
          ops = (held_front code statement others within.cases first_at from_first).ops;
          cases = (held_front code statement others within.cases first_at from_first).cases;
        })
        breaks continues ended)
      where
        within : Counts
        within = pieces_for labels counts

        marks : Part
        marks at = record { ops = labels_code counts.pieces labels; cases = []; labels = labels_at labels at }

        statement : Part
        statement at = closed (statement_code setting function it within targets at)

        others : Part
        others = list_code setting function rest (after_statement it within) targets

        first_at : ℕ
        first_at = after start (labels_code counts.pieces labels)

        rest_at : ℕ
        rest_at = after first_at (statement_code setting function it within targets first_at).ops

        from_first : Held code ((statement then others) first_at) within.cases first_at
        from_first =
            subst (λ n. Held code ((statement then others) first_at) n first_at) (sym (pieces_same labels counts))
            (held_next code marks (statement then others) counts.cases start first_at refl refl held)

        both : RestsAll count start (labels_at labels start) → RestsAll count rest_at (others rest_at).labels
            → RestsAll count start (labels_at labels start ++ (others rest_at).labels)
        both first later =
            record {
              rest = first.rest;
              labels =
                  all_append (λ (it : Label × ℕ). Rests count it.1) (labels_at labels start) (others rest_at).labels first.labels later.labels;
            }

        by : RestsAll count rest_at (others rest_at).labels → (Rests count rest_at → Rests count first_at)
            → RestsAll count start (labels_at labels start ++ (others rest_at).labels)
        by later before =
            both
            (labels_rest count counts.pieces labels start (held_front code marks (statement then others) counts.cases start held).ops (before later.rest))
            later

-- ---- functions

module _ (program : TypedProgram) (function : TypedFunction) (table : IsRight program.types)
    (fits : EachBlock (EachExpression (EachRight (KindsFit program function))) function.body)
    (typed : EachBlock (FitsPhrase program function) function.body) where
  -- where the body ends
  end_of : ℕ
  end_of = after 0 (block_code (setting_of program) function function.body body_counts nowhere 0).ops

  -- the body
  body_part : Part
  body_part = block_code (setting_of program) function function.body body_counts (end_at end_of)

  -- what is returned there
  end_part : Part
  end_part = return_code (setting_of program) function 1 (closing_of function.body)

  -- the code has both
  whole_held : Held (code_of program function) ((body_part then end_part) 0) 0 0
  unfolding end_of body_part end_part
  whole_held = itself_held (function_code (setting_of program) function)

  -- the end does not depend on where the body jumps
  body_ends : after 0 (body_part 0).ops ≡ end_of
  unfolding end_of body_part
  body_ends = ((same_block (setting_of program) function function.body body_counts (end_at end_of) nowhere).at 0).0

  -- a return after the body
  end_rests : (count : ℕ) → Rest program function (code_of program function) count end_of
  unfolding end_part
  end_rests count =
      returned_rest program function (code_of program function) table count end_of 1
      (record { pos = closing_of function.body; origin = origin.Plain }) None tt tt
      (held_back (code_of program function) body_part end_part 0 0 (past 0 (body_part 0).cases) end_of refl body_ends whole_held).ops

  -- and so from the start
  start_rests : (count : ℕ) → Rest program function (code_of program function) count 0
  unfolding body_part
  start_rests count =
      (block_rest program function (code_of program function) table function.body body_counts (end_at end_of) count 0 fits typed
      (held_front (code_of program function) body_part end_part 0 0 whole_held) (end_rests count) (end_rests count)
      (subst (λ n. Rest program function (code_of program function) count n) (sym body_ends) (end_rests count))).rest

  -- the operations of a function
  stacked_here : IsStacked (scope_of program function) (code_of program function)
  stacked_here = stacked_throughout (scope_of program function) (code_of program function) start_rests

-- each operation of a function has its operands, and notes how many values are on the stack
pub function_stacked : (program : TypedProgram) (function : TypedFunction) → IsRight program.types
    → EachBlock (EachExpression (EachRight (KindsFit program function))) function.body → EachBlock (FitsPhrase program function) function.body
    → IsStacked (scope_of program function) (code_of program function)
function_stacked program function table fits typed = stacked_here program function table fits typed

-- ---- programs

-- the facts of each expression
pub kinds_fit : (program : TypedProgram) → Fits program → EachNode program (KindsFit program)
kinds_fit program fits =
    nodes_both (λ function node. HasOperands program.types node × HasResult program function node)
    (λ function node. FitsFunction program node × FitsRoutine program node) (KindsFit program)
    (λ function node is also. record { operands = is.0; result = is.1; called = also.0; routine = also.1 }) program
    (nodes_both (λ function node. HasOperands program.types node) (HasResult program)
    (λ function node. HasOperands program.types node × HasResult program function node) (λ function node is also. (is, also)) program fits.operands
    fits.results)
    (nodes_both (λ function node. FitsFunction program node) (λ function node. FitsRoutine program node)
    (λ function node. FitsFunction program node × FitsRoutine program node) (λ function node is also. (is, also)) program fits.calls fits.routine_calls)

-- of some of its functions
codes_whole : (program : TypedProgram) → IsRight program.types → (its : List TypedFunction) → AllByRecursion (IsRanged program) its
    → OfFunctions (KindsFit program) its → AllByRecursion (λ function. EachBlock (FitsPhrase program function) function.body) its
    → AreCodesOf program (classes_of program) its (functions_code (setting_of program) its)
codes_whole program table [] ranged fits typed = tt
codes_whole program table (function ∷ rest) ranged fits typed = (
  record { ranges = ranged.0.ranges; cases = ranged.0.cases; stacked = function_stacked program function table fits.0 typed.0 },
  codes_whole program table rest ranged.1 fits.1 typed.1,
)

-- the code of a typed program is code: in range, and with the operands of each operation
pub code_whole : (program : TypedProgram) → IsRight program.types → Fits program
    → IsCode program (classes_of program) (codes_of program)
code_whole program table fits = codes_whole program table program.functions (code_ranged program fits) (kinds_fit program fits) fits.statements
