-- The operations of a function go to operations of it (own).
--     GoesIn its         an operation goes to one of so many operations, and chooses among so many cases
--     AllGo written      so do all that are written, and so do their cases and labels
--     GoPart part start  so does the part there, if an operation follows it
--     statement_goes, block_goes       the law
use Rattle.std.proofs.Common.{◌≡◌, ◌≤◌, ◌<◌, ℕ, suc, Bool, true, false, List, [], ◌∷◌, ◌++◌, slice_get, Option, Some, None, refl, sym, ◌∙◌, subst, arith}
use Rattle.std.specs.List.{AllByRecursion}
use Rattle.hs_base.specs.declared.pos.Pos.{Pos}
use Rattle.hs_base.specs.Entries.{all_appended}
use Rattle.hs_code.specs.declared.function_code.Placed.{Placed}
use Rattle.hs_code.specs.declared.op.Op.{Op}
use Rattle.hs_code.specs.declared.op.Op.TheVariants as op
use Rattle.hs_lowering.specs.Laws.Jumps.{JumpsWithin, AllWithin, Within, after_from, operand_within, value_within}
use Rattle.hs_lowering.specs.Laws.Lengths.{SameParts, same_statement, same_block, cases_of_statement, cases_of_a_block, cases_of_a_list}
use Rattle.hs_lowering.specs.Laws.Placing.{past_length, length_next, length_given}
use Rattle.hs_lowering.specs.Lowering.{Lowered, after, right_code}
use Rattle.hs_lowering.specs.Performing.{after_append}
use Rattle.hs_lowering.specs.Statements as code
use Rattle.hs_lowering.specs.Statements.{Written, Part, ◌then◌, nothing, Counts, Targets, nowhere, one_piece, piece_for, pieces_for, after_statement, after_block, after_list, cases_for, cases_of_list, cases_of_block, only_at, alone, given, labels_code, labels_at, cases_in, default_in, value_code, behind, guarded, guarded_if, dropped_if, ForPieces, statement_code, block_code, list_code}
use Rattle.hs_meaning.specs.Settings.{Setting}
use Rattle.hs_tree.specs.Trees as tree
use Rattle.hs_tree.specs.Trees.{RightValue, TypedItem, TypedDeclaration, TypedStatement, TypedBlock, TypedStatements, TypedFunction, Starting}
use Rattle.hs_types.specs.TypeTables.{row_of}
use Rattle.hs_types.specs.declared.row.TypeId.{TypeId}
use Rattle.hs_meaning.specs.Classes.{is_slot_declared}
use Rattle.hs_meaning.specs.Scalars.{Scalar, scalars_of}
use Rattle.hs_meaning.specs.Statements.{part_for, type_in}
use Rattle.hs_tree.specs.Kinds.{is_pointer, is_struct_row}
use Rattle.hs_tree.specs.declared.constant.Constant.{Constant}
use Rattle.hs_tree.specs.declared.constant.Constant.TheVariants as constant
use Rattle.hs_tree.specs.declared.constant.Part as constant_part
use Rattle.hs_tree.specs.declared.head.Variable.{Variable}
use Rattle.hs_tree.specs.declared.head.Variable.TheVariants as name
use Rattle.hs_tree.specs.declared.statement.Label.{Label}
use Rattle.hs_tree.specs.declared.statement.Label.TheVariants as label

-- of a function with so many operations and cases
module _ (last cases : ℕ) where
  -- to one of them
  abbrev pub GoesIn : Op → Type 0
  GoesIn (op.Jump target) = target < last
  GoesIn (op.Zero target) = target < last
  GoesIn (op.Pick target) = target < last
  GoesIn (op.Choose goal) = (goal.default < last) × (goal.first ≤ goal.end) × (goal.end ≤ cases)
  GoesIn _ = Unit {0}

  -- each of these
  abbrev pub AllIn : List Placed → Type 0
  AllIn its = AllByRecursion (λ one. GoesIn one.op) its

  -- cases and labels too
  pub record AllGo (its : Written) : Type 0 where
    pub ops : AllIn its.ops
    pub targets : AllByRecursion (λ it. it.target < last) its.cases
    pub labels : AllByRecursion (λ (it : Label × ℕ). it.1 < last) its.labels

  -- from that operation on
  pub record GoPart (its : Part) (start : ℕ) : Type 0 where
    pub go : after start (its start).ops < last → AllGo (its start)

  -- ---- lists

  front_less : (start : ℕ) (first second : List Placed) → after start (first ++ second) < last → after start first < last
  front_less start first second less = omega (arith, less, after_append start first second, after_from (after start first) second)

  back_less : (start : ℕ) (first second : List Placed) → after start (first ++ second) < last → after (after start first) second < last
  back_less start first second less = subst (λ n. n < last) (after_append start first second) less

  within_goes : (low high : ℕ) (its : Op) → JumpsWithin low high its → high < last → GoesIn its
  within_goes low high (op.Jump target) is less = omega (arith, is.1, less)
  within_goes low high (op.Zero target) is less = omega (arith, is.1, less)
  within_goes low high (op.Pick target) is less = omega (arith, is.1, less)
  within_goes low high (op.Choose goal) is less = absurd is
  within_goes low high its is less = tt

  pub all_within : (low high : ℕ) (its : List Placed) → AllWithin low high its → high < last → AllIn its
  all_within low high [] is less = tt
  all_within low high (one ∷ rest) is less = (within_goes low high one.op is.0 less, all_within low high rest is.1 less)

  -- ---- parts

  then_goes : {f g : Part} → {start : ℕ} → GoPart f start → GoPart g (after start (f start).ops) → GoPart (f then g) start
  then_goes {f = f} {g = g} {start = start} is also =
      record {
        go = λ less.
            joined_go (is.go (front_less start (f start).ops (g (after start (f start).ops)).ops less))
            (also.go (back_less start (f start).ops (g (after start (f start).ops)).ops less));
      }
    where
      joined_go : AllGo (f start) → AllGo (g (after start (f start).ops)) → AllGo ((f then g) start)
      joined_go a b =
          record {
            ops = all_appended (λ one. GoesIn one.op) (f start).ops (g (after start (f start).ops)).ops a.ops b.ops;
            targets = all_appended (λ it. it.target < last) (f start).cases (g (after start (f start).ops)).cases a.targets b.targets;
            labels = all_appended (λ (it : Label × ℕ). it.1 < last) (f start).labels (g (after start (f start).ops)).labels a.labels b.labels;
          }

  nothing_goes : (start : ℕ) → GoPart nothing start
  nothing_goes start = record { go = λ less. record { ops = tt; targets = tt; labels = tt } }

  -- operations that are no labels and no switch, where they do not go away
  listed : (its : Part) (start : ℕ) → (after start (its start).ops < last → AllIn (its start).ops) → (its start).cases ≡ [] → (its start).labels ≡ []
      → GoPart its start
  listed its start is no_cases no_labels =
      record {
        go = λ less.
            record {
              ops = is less;
              targets = subst (λ list. AllByRecursion (λ it. it.target < last) list) (sym no_cases) tt;
              labels = subst (λ list. AllByRecursion (λ (it : Label × ℕ). it.1 < last) list) (sym no_labels) tt;
            };
      }

  module _ (piece : ℕ) (at : Pos) where
    alone_goes : (its : Op) (start : ℕ) → GoesIn its → GoPart (alone piece at its) start
    alone_goes its start is = record { go = λ less. record { ops = (is, tt); targets = tt; labels = tt } }

    -- a value that jumps inside itself
    given_goes : (value : Lowered) (its : Op) (start : ℕ) → Within value → GoesIn its → GoPart (given piece at value its) start
    given_goes value its start within is =
        record {
          go = λ less.
              record {
                ops =
                    all_appended (λ one. GoesIn one.op) (value start 0) _
                    (all_within start (after start (value start 0)) (value start 0) (within.at start 0) (front_less start (value start 0) _ less)) (is, tt);
                targets = tt;
                labels = tt;
              };
        }

  -- ---- labels

  labels_in : (piece : ℕ) (labels : List Label) → AllIn (labels_code piece labels)
  labels_in piece [] = tt
  labels_in piece (label.Case at bits ∷ rest) = (tt, labels_in (suc piece) rest)
  labels_in piece (label.Default at ∷ rest) = (tt, labels_in (suc piece) rest)

  labels_less : (piece : ℕ) (labels : List Label) (start : ℕ) → after start (labels_code piece labels) < last
      → AllByRecursion (λ (it : Label × ℕ). it.1 < last) (labels_at labels start)
  labels_less piece [] start less = tt
  labels_less piece (label.Case at bits ∷ rest) start less =
      (omega (arith, less, after_from (suc start) (labels_code (suc piece) rest)), labels_less (suc piece) rest (suc start) less)
  labels_less piece (label.Default at ∷ rest) start less =
      (omega (arith, less, after_from (suc start) (labels_code (suc piece) rest)), labels_less (suc piece) rest (suc start) less)

  cases_less : (labels : List (Label × ℕ)) → AllByRecursion (λ (it : Label × ℕ). it.1 < last) labels → AllByRecursion (λ it. it.target < last) (cases_in labels)
  cases_less [] is = tt
  cases_less ((label.Case at bits, target) ∷ rest) is = (is.0, cases_less rest is.1)
  cases_less ((label.Default at, target) ∷ rest) is = cases_less rest is.1

  default_less : (labels : List (Label × ℕ)) (otherwise : ℕ) → AllByRecursion (λ (it : Label × ℕ). it.1 < last) labels → otherwise < last
      → default_in labels otherwise < last
  default_less [] otherwise is less = less
  default_less ((label.Case at bits, target) ∷ rest) otherwise is less = default_less rest otherwise is.1 less
  default_less ((label.Default at, target) ∷ rest) otherwise is less = is.0

-- ---- counts

cases_for_grows : (labels : List Label) (count : ℕ) → count ≤ cases_for labels count
cases_for_grows [] count = omega arith
cases_for_grows (label.Case at bits ∷ rest) count = omega (arith, cases_for_grows rest (suc count))
cases_for_grows (label.Default at ∷ rest) count = cases_for_grows rest count

list_grows : (its : TypedStatements) (count : ℕ) → count ≤ cases_of_list its count
list_grows tree.no_statements count = omega arith
list_grows (tree.more_statements labels it rest) count = omega (arith, cases_for_grows labels count, list_grows rest (cases_for labels count))

block_grows : (it : TypedBlock) (count : ℕ) → count ≤ cases_of_block it count
block_grows (tree.compound opening declarations list closing) count = list_grows list count

-- ---- statements

module _ (last cases : ℕ) (setting : Setting) (function : TypedFunction) where
  -- the part there goes to operations of the function
  abbrev Goes : Part → ℕ → Type 0
  Goes its start = GoPart last cases its start

  statement_more : (it : TypedStatement) (counts : Counts) → counts.cases ≤ (after_statement it counts).cases
  statement_more it counts =
      omega (
        arith,
        cases_of_statement setting function it counts nowhere 0,
        past_length counts.cases (statement_code setting function it counts nowhere 0).cases,
      )

  block_more : (it : TypedBlock) (counts : Counts) → counts.cases ≤ (after_block it counts).cases
  block_more it counts =
      omega (arith, cases_of_a_block setting function it counts nowhere 0, past_length counts.cases (block_code setting function it counts nowhere 0).cases)

  list_more : (its : TypedStatements) (counts : Counts) → counts.cases ≤ (after_list its counts).cases
  list_more its counts =
      omega (arith, cases_of_a_list setting function its counts nowhere 0, past_length counts.cases (list_code setting function its counts nowhere 0).cases)

  -- ---- first values

  module _ (piece : ℕ) (at : Pos) where
    plain_within : (its : Op) → ((low high : ℕ) → JumpsWithin low high its) → Within (only_at piece at its)
    plain_within its is = record { at = λ start depth. (is start (suc start), tt) }

    constant_within : (its : Constant) → Within (code.constant_code setting function piece at its)
    constant_within (constant.Number bits) = plain_within (op.Num bits) (λ low high. tt)
    constant_within constant.Nil = plain_within op.Nil (λ low high. tt)
    constant_within (constant.Address its offset) =
        operand_within (plain_within (op.Address (code.object_of setting function its)) (λ low high. tt))
        (operand_within (plain_within (op.Num _) (λ low high. tt)) (plain_within (op.Step _ true) (λ low high. tt)))

    zero_within : (b : Bool) → Within (code.zero_code setting function piece at b)
    zero_within true = plain_within op.Nil (λ low high. tt)
    zero_within false = plain_within (op.Num 0) (λ low high. tt)

    scalar_within : (id : TypeId) (part : Option constant_part.Part) → Within (code.scalar_code setting function piece at id part)
    scalar_within id None = zero_within (is_pointer setting.types id)
    scalar_within id (Some part) = constant_within part.value

    slot_within : (variable : Variable) (value : Lowered) → Within value → Within (code.slot_started setting function piece at variable value)
    slot_within variable value is = operand_within is (plain_within (op.Set variable) (λ low high. tt))

    object_within : (variable : Variable) (offset : ℕ) (access : _) (value : Lowered) → Within value
        → Within (code.object_started setting function piece at variable offset access value)
    object_within variable offset access value is =
        operand_within (operand_within (plain_within (op.Address _) (λ low high. tt)) (plain_within (op.Offset offset) (λ low high. tt)))
        (operand_within is (plain_within (op.Store access) (λ low high. tt)))

    started_within : (b is_struct : Bool) (variable : Variable) (id : TypeId) (value : Lowered) → Within value
        → Within (code.value_started setting function piece at b is_struct variable id value)
    started_within true is_struct variable id value is = slot_within variable value is
    started_within false true variable id value is =
        operand_within (plain_within (op.Address _) (λ low high. tt)) (operand_within is (plain_within (op.Store _) (λ low high. tt)))
    started_within false false variable id value is = object_within variable 0 _ value is

    scalar_started_within : (b : Bool) (variable : Variable) (parts : List constant_part.Part) (its : Scalar)
        → Within (code.scalar_started setting function piece at b variable parts its)
    scalar_started_within true variable parts its = slot_within variable _ (scalar_within its.type_id (part_for its parts))
    scalar_started_within false variable parts its = object_within variable its.offset _ _ (scalar_within its.type_id (part_for its parts))

    scalars_go : (b : Bool) (variable : Variable) (parts : List constant_part.Part) (its : List Scalar) (start : ℕ)
        → Goes (code.scalars_started setting function piece at b variable parts its) start
    scalars_go b variable parts [] start = nothing_goes last cases start
    scalars_go b variable parts (its ∷ rest) start =
        then_goes last cases
        (given_goes last cases piece at (code.scalar_started setting function piece at b variable parts its) op.Drop start
        (scalar_started_within b variable parts its) tt)
        (scalars_go b variable parts rest _)

    start_goes : (b : Bool) (variable : Variable) (id : TypeId) (its : Starting) (start : ℕ)
        → Goes (code.start_code setting function piece at b variable id its) start
    start_goes b variable id (tree.value e) start =
        given_goes last cases piece at
        (code.value_started setting function piece at b (is_struct_row (row_of setting.types id)) variable id (right_code setting function.variables piece e))
        op.Drop start (started_within b (is_struct_row (row_of setting.types id)) variable id (right_code setting function.variables piece e)
        (value_within setting function piece e)) tt
    start_goes b variable id (tree.parts its) start = scalars_go b variable its (scalars_of setting.types id) start

    pub missing_within : (is_pointer is_struct : Bool) → Within (code.missing_code setting function piece at is_pointer is_struct)
    missing_within true is_struct = plain_within op.Nil (λ low high. tt)
    missing_within false true = operand_within (plain_within op.Nil (λ low high. tt)) (plain_within (op.Load _) (λ low high. tt))
    missing_within false false = plain_within (op.Num 0) (λ low high. tt)

    return_goes : (start : ℕ) → Goes (code.return_code setting function piece at) start
    return_goes start =
        given_goes last cases piece at _ op.Return start
        (missing_within (is_pointer setting.types function.result) (is_struct_row (row_of setting.types function.result))) tt

    returned_goes : (e : Option RightValue) (start : ℕ) → Goes (code.returned_code setting function piece at e) start
    returned_goes None start = return_goes start
    returned_goes (Some e) start =
        given_goes last cases piece at (value_code setting function piece e) op.Return start (value_within setting function piece e) tt

    dropped_goes : (e : Option RightValue) (start : ℕ) → Goes (dropped_if setting function piece at e) start
    dropped_goes None start = nothing_goes last cases start
    dropped_goes (Some e) start = given_goes last cases piece at (value_code setting function piece e) op.Drop start (value_within setting function piece e) tt

    guarded_goes : (e : RightValue) (target start : ℕ) → target < last → Goes (guarded setting function piece at e target) start
    guarded_goes e target start less =
        given_goes last cases piece at (value_code setting function piece e) (op.Zero target) start (value_within setting function piece e) less

    guarded_if_goes : (e : Option RightValue) (target start : ℕ) → target < last → Goes (guarded_if setting function piece at e target) start
    guarded_if_goes None target start less = nothing_goes last cases start
    guarded_if_goes (Some e) target start less = guarded_goes e target start less

  items_go : (piece : ℕ) (its : List TypedItem) (start : ℕ) → Goes (code.items_code setting function piece its) start
  items_go piece [] start = nothing_goes last cases start
  items_go piece (item ∷ items) start =
      then_goes last cases
      (start_goes piece item.at.pos (is_slot_declared setting.types (slice_get function.variables item.variable)) (name.Local item.variable)
      (type_in (slice_get function.variables item.variable)) item.start start)
      (items_go piece items _)

  declarations_go : (counts : Counts) (its : List TypedDeclaration) (start : ℕ) → Goes (code.declarations_code setting function counts its) start
  declarations_go counts [] start = nothing_goes last cases start
  declarations_go counts (it ∷ rest) start = then_goes last cases (items_go counts.pieces it.items start) (declarations_go (one_piece counts) rest _)

  -- ---- branches and loops

  -- a body, whatever its targets are
  abbrev Does : (Targets → Part) → Type 0
  Does body = (targets : Targets) (start : ℕ) → targets.breaks < last → targets.continues < last → Goes (body targets) start

  if_goes : (counts : Counts) (at : Pos) (e : RightValue) (join : ℕ) (first : Part) (start : ℕ) → ((start : ℕ) → Goes first start)
      → Goes (code.if_code setting function counts at e join first) start
  if_goes counts at e join first start one =
      record {
        go = λ less.
            (then_goes last cases (guarded_goes counts.pieces at e end_ start (omega (arith, less, ends)))
            (then_goes last cases (one _) (alone_goes last cases join at op.Mark _ tt))).go less;
      }
    where
      after_test : ℕ
      after_test = behind setting function counts.pieces e start

      end_ : ℕ
      end_ = after after_test (first after_test).ops

      ends : after start (code.if_code setting function counts at e join first start).ops ≡ suc end_
      ends =
          length_next (guarded setting function counts.pieces at e end_) (first then alone join at op.Mark) start after_test
          (length_given counts.pieces at (value_code setting function counts.pieces e) (op.Zero end_) start)
          ∙ length_next first (alone join at op.Mark) after_test end_ refl

  if_else_goes : (counts : Counts) (at : Pos) (e : RightValue) (join : ℕ) (first second : Part) (start : ℕ) → ((start : ℕ) → Goes first start)
      → ((start : ℕ) → Goes second start) → Goes (code.if_else_code setting function counts at e join first second) start
  if_else_goes counts at e join first second start one other =
      record {
        go = λ less.
            (then_goes last cases
            (guarded_goes counts.pieces at e (suc jump_at) start (omega (arith, less, ends, after_from (suc jump_at) (second (suc jump_at)).ops)))
            (then_goes last cases (one _) (then_goes last cases (alone_goes last cases join at (op.Jump end_) _ (omega (arith, less, ends)))
            (then_goes last cases (other _) (alone_goes last cases join at op.Mark _ tt))))).go less;
      }
    where
      after_test : ℕ
      after_test = behind setting function counts.pieces e start

      jump_at : ℕ
      jump_at = after after_test (first after_test).ops

      end_ : ℕ
      end_ = after (suc jump_at) (second (suc jump_at)).ops

      ends : after start (code.if_else_code setting function counts at e join first second start).ops ≡ suc end_
      ends =
          length_next (guarded setting function counts.pieces at e (suc jump_at))
          (first then alone join at (op.Jump end_) then second then alone join at op.Mark) start after_test
          (length_given counts.pieces at (value_code setting function counts.pieces e) (op.Zero (suc jump_at)) start)
          ∙ length_next first (alone join at (op.Jump end_) then second then alone join at op.Mark) after_test jump_at refl
          ∙ length_next second (alone join at op.Mark) (suc jump_at) end_ refl

  while_goes : (join test end_ : ℕ) (at : Pos) (e : RightValue) (body : Targets → Part) (start : ℕ) → ((a b : Targets) → SameParts (body a) (body b))
      → Does body → Goes (code.while_code setting function join test end_ at e body) start
  while_goes join test end_ at e body start same does =
      record {
        go = λ less.
            (then_goes last cases (alone_goes last cases join at op.Mark start tt)
            (then_goes last cases (guarded_goes test at e (suc back) _ (omega (arith, less, ends)))
            (then_goes last cases (alone_goes last cases test at op.Turn _ tt)
            (then_goes last cases
            (does targets _ (omega (arith, less, ends))
            (omega (arith, less, after_from start (code.while_code setting function join test end_ at e body start).ops)))
            (then_goes last cases
            (alone_goes last cases join at (op.Jump start) _
            (omega (arith, less, after_from start (code.while_code setting function join test end_ at e body start).ops)))
            (alone_goes last cases end_ at op.Mark _ tt)))))).go less;
      }
    where
      turn : ℕ
      turn = behind setting function test e (suc start)

      back : ℕ
      back = after (suc turn) (body nowhere (suc turn)).ops

      targets : Targets
      targets = record { breaks = suc back; continues = start }

      back_part : Part
      back_part = alone join at (op.Jump start) then alone end_ at op.Mark

      ends : after start (code.while_code setting function join test end_ at e body start).ops ≡ suc (suc back)
      ends =
          length_next (guarded setting function test at e (suc back)) (alone test at op.Turn then body targets then back_part) (suc start) turn
          (length_given test at (value_code setting function test e) (op.Zero (suc back)) (suc start))
          ∙ length_next (body targets) back_part (suc turn) back ((same targets nowhere).at (suc turn)).0

  do_goes : (join test end_ : ℕ) (at : Pos) (e : RightValue) (body : Targets → Part) (start : ℕ) → ((a b : Targets) → SameParts (body a) (body b))
      → Does body → Goes (code.do_code setting function join test end_ at e body) start
  do_goes join test end_ at e body start same does =
      record {
        go = λ less.
            (then_goes last cases (alone_goes last cases join at op.Mark start tt)
            (then_goes last cases (alone_goes last cases join at op.Turn _ tt)
            (then_goes last cases (does targets _ (omega (arith, less, ends))
            (omega (arith, less, ends, after_from test_at (value_code setting function test e test_at 0))))
            (then_goes last cases (guarded_goes test at e (suc back) _ (omega (arith, less, ends)))
            (then_goes last cases
            (alone_goes last cases join at (op.Jump start) _
            (omega (arith, less, after_from start (code.do_code setting function join test end_ at e body start).ops)))
            (alone_goes last cases end_ at op.Mark _ tt)))))).go less;
      }
    where
      test_at : ℕ
      test_at = after (suc (suc start)) (body nowhere (suc (suc start))).ops

      back : ℕ
      back = behind setting function test e test_at

      targets : Targets
      targets = record { breaks = suc back; continues = test_at }

      back_part : Part
      back_part = alone join at (op.Jump start) then alone end_ at op.Mark

      ends : after start (code.do_code setting function join test end_ at e body start).ops ≡ suc (suc back)
      ends =
          length_next (body targets) (guarded setting function test at e (suc back) then back_part) (suc (suc start)) test_at
          ((same targets nowhere).at (suc (suc start))).0
          ∙ length_next (guarded setting function test at e (suc back)) back_part test_at back
          (length_given test at (value_code setting function test e) (op.Zero (suc back)) test_at)

  length_guard : (piece : ℕ) (at : Pos) (e : Option RightValue) (target start : ℕ)
      → after start (guarded_if setting function piece at e target start).ops ≡ code.behind_if setting function piece e start
  length_guard piece at None target start = refl
  length_guard piece at (Some e) target start = length_given piece at (value_code setting function piece e) (op.Zero target) start

  for_goes : (pieces : ForPieces setting function) (at : Pos) (test step : Option RightValue) (body : Targets → Part) (start : ℕ)
      → ((a b : Targets) → SameParts (body a) (body b)) → Does body → Goes (code.for_code setting function pieces at test step body) start
  for_goes pieces at test step body start same does =
      record {
        go = λ less.
            (then_goes last cases (alone_goes last cases pieces.join at op.Mark start tt)
            (then_goes last cases (guarded_if_goes pieces.test at test (suc back) _ (omega (arith, less, ends)))
            (then_goes last cases (alone_goes last cases (code.turn_piece setting function pieces test) at op.Turn _ tt)
            (then_goes last cases (does targets _ (omega (arith, less, ends))
            (omega (arith, less, ends, after_from step_at (dropped_if setting function pieces.step at step step_at).ops)))
            (then_goes last cases (dropped_goes pieces.step at step _)
            (then_goes last cases
            (alone_goes last cases pieces.join at (op.Jump start) _
            (omega (arith, less, after_from start (code.for_code setting function pieces at test step body start).ops)))
            (alone_goes last cases pieces.end_ at op.Mark _ tt))))))).go less;
      }
    where
      turn : ℕ
      turn = code.behind_if setting function pieces.test test (suc start)

      step_at : ℕ
      step_at = after (suc turn) (body nowhere (suc turn)).ops

      back : ℕ
      back = after step_at (dropped_if setting function pieces.step at step step_at).ops

      targets : Targets
      targets = record { breaks = suc back; continues = step_at }

      back_part : Part
      back_part = alone pieces.join at (op.Jump start) then alone pieces.end_ at op.Mark

      rest_part : Part
      rest_part = dropped_if setting function pieces.step at step then back_part

      ends : after start (code.for_code setting function pieces at test step body start).ops ≡ suc (suc back)
      ends =
          length_next (guarded_if setting function pieces.test at test (suc back))
          (alone (code.turn_piece setting function pieces test) at op.Turn then body targets then rest_part) (suc start) turn
          (length_guard pieces.test at test (suc back) (suc start))
          ∙ length_next (body targets) rest_part (suc turn) step_at ((same targets nowhere).at (suc turn)).0
          ∙ length_next (dropped_if setting function pieces.step at step) back_part step_at back refl

  switch_goes : (test end_ : ℕ) (at : Pos) (e : RightValue) (first end_case : ℕ) (body : Targets → Part) (outer : Targets) (start : ℕ) → first ≤ end_case
      → end_case ≤ cases → outer.continues < last → ((a b : Targets) → SameParts (body a) (body b)) → Does body
      → Goes (code.switch_code setting function test end_ at e first end_case body outer) start
  switch_goes test end_ at e first end_case body outer start fewer few continues same does =
      record {
        go = λ less.
            by (omega (arith, less, ends))
            (labels_go (omega (arith, less, ends))
            (omega (arith, less, after_from start (code.switch_code setting function test end_ at e first end_case body outer start).ops))) less;
      }
    where
      block_at : ℕ
      block_at = behind setting function test e start

      break_at : ℕ
      break_at = after block_at (body nowhere block_at).ops

      targets : Targets
      targets = record { breaks = break_at; continues = outer.continues }

      labels : List (Label × ℕ)
      labels = (body nowhere block_at).labels

      choose : Op
      choose = op.Choose (code.goal_of setting function first end_case labels break_at)

      ends : after start (code.switch_code setting function test end_ at e first end_case body outer start).ops ≡ suc break_at
      ends =
          length_next (given test at (value_code setting function test e) choose) (body targets then alone end_ at op.Mark) start block_at
          (length_given test at (value_code setting function test e) choose start)
          ∙ length_next (body targets) (alone end_ at op.Mark) block_at break_at ((same targets nowhere).at block_at).0

      labels_go : break_at < last → 0 < last → AllByRecursion (λ (it : Label × ℕ). it.1 < last) labels
      labels_go less some = ((does nowhere block_at some some).go less).labels

      by : break_at < last → AllByRecursion (λ (it : Label × ℕ). it.1 < last) labels
          → after start (code.switch_code setting function test end_ at e first end_case body outer start).ops < last
          → AllGo last cases (code.switch_code setting function test end_ at e first end_case body outer start)
      by broken inside less =
          record {
            ops = inner.ops;
            targets = all_appended (λ it. it.target < last) _ (cases_in labels) inner.targets (cases_less last cases labels inside);
            labels = inner.labels;
          }
        where
          inner : AllGo last cases ((given test at (value_code setting function test e) choose then body targets then alone end_ at op.Mark) start)
          inner =
              (then_goes last cases
              (given_goes last cases test at (value_code setting function test e) choose start (value_within setting function test e)
              (default_less last cases labels break_at inside broken, fewer, few))
              (then_goes last cases (does targets _ broken continues) (alone_goes last cases end_ at op.Mark _ tt))).go less

  -- labels inside a statement are not of the list around it
  closed_goes : (its : Part) (start : ℕ) → Goes its start → Goes (λ start. code.closed (its start)) start
  closed_goes its start is = record { go = λ less. record { ops = (is.go less).ops; targets = (is.go less).targets; labels = tt } }

  labels_go : (piece : ℕ) (labels : List Label) (start : ℕ)
      → Goes (λ start. record { ops = labels_code piece labels; cases = []; labels = labels_at labels start }) start
  labels_go piece labels start =
      record { go = λ less. record { ops = labels_in last cases piece labels; targets = tt; labels = labels_less last cases piece labels start less } }

  mutual
    pub statement_goes : (it : TypedStatement) (counts : Counts) (targets : Targets) (start : ℕ) → (after_statement it counts).cases ≤ cases
        → targets.breaks < last → targets.continues < last → Goes (statement_code setting function it counts targets) start
    statement_goes (tree.block it) counts targets start few breaks continues = block_goes it counts targets start few breaks continues
    statement_goes (tree.expression at e) counts targets start few breaks continues =
        given_goes last cases counts.pieces at.pos (value_code setting function counts.pieces e) op.Drop start
        (value_within setting function counts.pieces e) tt
    statement_goes (tree.empty at) counts targets start few breaks continues = alone_goes last cases counts.pieces at.pos op.Mark start tt
    statement_goes (tree.if_ at test first) counts targets start few breaks continues =
        if_goes counts at.pos test _ _ start (λ next. statement_goes first (one_piece counts) targets next few breaks continues)
    statement_goes (tree.if_else at test first second) counts targets start few breaks continues =
        if_else_goes counts at.pos test _ _ _ start
        (λ next. statement_goes first (one_piece counts) targets next (omega (arith, few, statement_more second (after_statement first (one_piece counts))))
        breaks continues)
        (λ next. statement_goes second (after_statement first (one_piece counts)) targets next few breaks continues)
    statement_goes (tree.while_ at test body) counts targets start few breaks continues =
        while_goes _ _ _ at.pos test _ start (λ a b. same_statement setting function body (one_piece (one_piece counts)) a b)
        (λ inner next broken on. statement_goes body (one_piece (one_piece counts)) inner next few broken on)
    statement_goes (tree.do_ at body test) counts targets start few breaks continues =
        do_goes _ _ _ at.pos test _ start (λ a b. same_statement setting function body (one_piece counts) a b)
        (λ inner next broken on. statement_goes body (one_piece counts) inner next few broken on)
    statement_goes (tree.for_ at first test step body) counts targets start few breaks continues =
        then_goes last cases (dropped_goes counts.pieces at.pos first start)
        (for_goes _ at.pos test step _ _
        (λ a b. same_statement setting function body (piece_for step (piece_for test (one_piece (piece_for first counts)))) a b)
        (λ inner next broken on. statement_goes body (piece_for step (piece_for test (one_piece (piece_for first counts)))) inner next few broken on))
    statement_goes (tree.switch_ at e it) counts targets start few breaks continues =
        switch_goes _ _ at.pos e _ _ _ targets start (block_grows it (after_block it (one_piece counts)).cases) few continues
        (λ a b. same_block setting function it (one_piece counts) a b)
        (λ inner next broken on. block_goes it (one_piece counts) inner next
        (omega (arith, few, block_grows it (after_block it (one_piece counts)).cases)) broken on)
    statement_goes (tree.break_ at) counts targets start few breaks continues =
        alone_goes last cases counts.pieces at.pos (op.Jump targets.breaks) start breaks
    statement_goes (tree.continue_ at) counts targets start few breaks continues =
        alone_goes last cases counts.pieces at.pos (op.Jump targets.continues) start continues
    statement_goes (tree.return_ at e) counts targets start few breaks continues = returned_goes counts.pieces at.pos e start

    pub block_goes : (it : TypedBlock) (counts : Counts) (targets : Targets) (start : ℕ) → (after_block it counts).cases ≤ cases
        → targets.breaks < last → targets.continues < last → Goes (block_code setting function it counts targets) start
    block_goes (tree.compound opening declarations list closing) counts targets start few breaks continues =
        then_goes last cases (alone_goes last cases counts.pieces opening.pos op.Mark start tt)
        (then_goes last cases (declarations_go (one_piece counts) declarations _)
        (then_goes last cases (list_goes list (pieces_for declarations (one_piece counts)) targets _ few breaks continues)
        (alone_goes last cases _ closing.pos op.Mark _ tt)))

    list_goes : (its : TypedStatements) (counts : Counts) (targets : Targets) (start : ℕ) → (after_list its counts).cases ≤ cases
        → targets.breaks < last → targets.continues < last → Goes (list_code setting function its counts targets) start
    list_goes tree.no_statements counts targets start few breaks continues = nothing_goes last cases start
    list_goes (tree.more_statements labels it rest) counts targets start few breaks continues =
        then_goes last cases {f = λ start. record { ops = labels_code counts.pieces labels; cases = []; labels = labels_at labels start }}
        (labels_go counts.pieces labels start)
        (then_goes last cases {f = λ start. code.closed (statement_code setting function it (pieces_for labels counts) targets start)}
        (closed_goes (statement_code setting function it (pieces_for labels counts) targets) _
        (statement_goes it (pieces_for labels counts) targets _ (omega (arith, few, list_more rest (after_statement it (pieces_for labels counts)))) breaks
        continues))
        (list_goes rest (after_statement it (pieces_for labels counts)) targets _ few breaks continues))
