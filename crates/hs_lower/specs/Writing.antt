-- The code of statements in steps. Each step puts operations at the end, or there are too many of them.
--     fitting text                      the text, if its operations are not too many
--     first >>= next                    one step after the other
--     Done whole text result            what an answer of the code says of such a step
--     put_steps, given_steps            with one operation, and with a value and an operation on it
--     statement_steps it, block_steps, list_steps, declarations_steps     with the code of a statement, of a block, ..
use Rattle.std.specs.Prelude.{◌≡◌, ℕ, suc, ◌+◌, nat_le, List, [], ◌∷◌, ◌++◌, length, slice_set, Option, Some, None, Result, Ok, Err, if◌then◌else◌}
use Rattle.hs_base.specs.declared.pos.Pos.{Pos}
use Rattle.hs_code.specs.declared.function_code.FunctionCode.{FunctionCode}
use Rattle.hs_code.specs.declared.function_code.Placed.{Placed}
use Rattle.hs_code.specs.declared.op.Goal.{Goal}
use Rattle.hs_code.specs.declared.op.Op.{Op}
use Rattle.hs_code.specs.declared.op.Op.TheVariants as op
use Rattle.hs_lower_expressions.specs.Aims as aims
use Rattle.hs_lower_expressions.specs.Aims.{to_break, to_continue, targets_of, aimed_from}
use Rattle.hs_lower_expressions.specs.Emits.{most_ops}
use Rattle.hs_lower_expressions.specs.declared.emit_end.EmitEnd.{EmitEnd}
use Rattle.hs_lower_expressions.specs.declared.emit_end.EmitEnd.TheVariants.{Limit, NoMemory}
use Rattle.hs_lower_starts.specs.FirstValues.{item_code}
use Rattle.hs_lowering.specs.Lowering.{operand}
use Rattle.hs_lowering.specs.Statements.{Part, Counts, Targets, one_piece, piece_for, pieces_for, placed_at, only_at, value_code, after_statement, after_block, after_list, cases_in, default_in, items_code, declarations_code, return_code, labels_code, statement_code, block_code, list_code}
use Rattle.hs_meaning.specs.Settings.{Setting}
use Rattle.hs_meaning.specs.Statements.{closing_of}
use Rattle.hs_tree.specs.Trees.{RightValue, TypedItem, TypedDeclaration, TypedStatement, TypedBlock, TypedStatements, TypedFunction}
use Rattle.hs_tree.specs.declared.statement.Label.{Label}
use Rattle.hs_tree.specs.declared.statement.Label.TheVariants as label
use Rattle.hs_lower.specs.declared.text.Text.{Text}

-- ---- steps

-- not more operations than there may be
abbrev pub fitting : Text → Option Text
fitting text = if nat_le (length text.ops) most_ops then Some text else None

infixl 10 ◌>>=◌
-- the next step, if there are not too many operations
abbrev pub ◌>>=◌ : Option Text → (Text → Option Text) → Option Text
None >>= next = None
Some text >>= next = next text

-- the answer is that of the step, unless memory ran out
abbrev pub Done : {A : Type 0} → Option Text → Text → Result A EmitEnd → Type 0
Done whole text (Ok it) = whole ≡ Some text
Done whole text (Err Limit) = whole ≡ None
Done whole text (Err NoMemory) = Unit {0}

-- ---- what is put at the end

-- operations alone
abbrev pub with_ops : (ℕ → List Placed) → Text → Text
with_ops its text = record { ops = text.ops ++ its (length text.ops); cases = text.cases; pieces = text.pieces }

-- operations and cases
abbrev pub with_part : Part → Text → Text
with_part its text =
    record {
      ops = text.ops ++ (its (length text.ops)).ops;
      cases = text.cases ++ (its (length text.ops)).cases;
      pieces = text.pieces;
    }

-- so many pieces
abbrev pub with_pieces : ℕ → Text → Text
with_pieces pieces text = record { ops = text.ops; cases = text.cases; pieces = pieces }

-- the pieces and the cases that there are
abbrev pub counts_of : Text → Counts
counts_of text = record { pieces = text.pieces; cases = length text.cases }

-- where `break` and `continue` go while their loop is written
abbrev pub unknown : Targets
unknown = targets_of aims.unknown

-- of a switch that is being written
abbrev pub nowhere_yet : Goal
nowhere_yet = record { first = 0; end = 0; default = 0 }

-- ---- labels

-- where a label stands
abbrev pub label_pos : Label → Pos
label_pos (label.Case at bits) = at.pos
label_pos (label.Default at) = at.pos

-- the places of labels
unfoldable pub labels_steps : List Label → Text → Option Text
labels_steps its text = fitting (with_ops (λ start. labels_code text.pieces its) (with_pieces (pieces_for its (counts_of text)).pieces text))

-- the next piece, for a part that is there
abbrev pub piece_or : Option RightValue → ℕ → ℕ → ℕ
piece_or None next otherwise = otherwise
piece_or (Some e) next otherwise = next

-- Turn belongs to the condition of a loop, if there is one, or to the join in front of it
abbrev pub turn_at : ℕ → Option RightValue → ℕ
turn_at join test = piece_or test (suc join) join

-- ---- single operations

-- with nothing on the stack
unfoldable pub put_steps : ℕ → Pos → Op → Text → Option Text
put_steps piece at its text = fitting (with_ops (λ start. placed_at piece at its 0 ∷ []) text)

module _ (setting : Setting) (function : TypedFunction) where
  -- a value, and what is done with it
  unfoldable pub given_steps : ℕ → Pos → RightValue → Op → Text → Option Text
  given_steps piece at e its text =
      fitting (with_ops (λ start. operand (value_code setting function piece e) (only_at piece at its) start 0) text)

  -- ---- declarations and statements

  unfoldable pub declarations_steps : List TypedDeclaration → Text → Option Text
  declarations_steps its text =
      fitting (with_ops (λ start. (declarations_code setting function (counts_of text) its start).ops)
      (with_pieces (pieces_for its (counts_of text)).pieces text))

  unfoldable pub statement_steps : TypedStatement → Text → Option Text
  statement_steps it text =
      fitting (with_part (statement_code setting function it (counts_of text) unknown)
      (with_pieces (after_statement it (counts_of text)).pieces text))

  unfoldable pub block_steps : TypedBlock → Text → Option Text
  block_steps it text =
      fitting (with_part (block_code setting function it (counts_of text) unknown) (with_pieces (after_block it (counts_of text)).pieces text))

  unfoldable pub list_steps : TypedStatements → Text → Option Text
  list_steps its text =
      fitting (with_part (list_code setting function its (counts_of text) unknown) (with_pieces (after_list its (counts_of text)).pieces text))

  -- a value that may be absent, and is dropped
  abbrev pub dropped_steps : ℕ → Pos → Option RightValue → Text → Option Text
  dropped_steps piece at None text = Some text
  dropped_steps piece at (Some e) text = given_steps piece at e op.Drop text

  -- the first part of a `for`
  unfoldable pub first_part : Pos → Option RightValue → Text → Option Text
  first_part at first text = dropped_steps text.pieces at first (with_pieces (piece_for first (counts_of text)).pieces text)

  -- a condition that may be absent; if it fails, control leaves the loop
  abbrev pub guarded_steps : ℕ → Pos → Option RightValue → Text → Option Text
  guarded_steps piece at None text = Some text
  guarded_steps piece at (Some e) text = given_steps piece at e (op.Zero to_break) text

  -- `return;`
  unfoldable pub return_steps : ℕ → Pos → Text → Option Text
  return_steps piece at text = fitting (with_ops (λ start. (return_code setting function piece at start).ops) text)

  -- ---- declarations

  -- the first value of a variable
  unfoldable pub first_steps : ℕ → TypedItem → Text → Option Text
  first_steps piece item text = fitting (with_ops (item_code setting function piece item) text)

  -- those of a declaration
  unfoldable pub items_steps : ℕ → List TypedItem → Text → Option Text
  items_steps piece its text = fitting (with_ops (λ start. (items_code setting function piece its start).ops) text)

  -- ---- branches

  -- the condition of `if`: its test is the last operation
  unfoldable pub if_begun : Pos → RightValue → Text → Option Text
  if_begun at e text = given_steps text.pieces at e (op.Zero 0) (with_pieces (suc text.pieces) text)

  -- a value by which a switch chooses
  unfoldable pub switch_begun : Pos → RightValue → Text → Option Text
  switch_begun at e text = given_steps text.pieces at e (op.Choose nowhere_yet) (with_pieces (suc text.pieces) text)

  -- ---- loops

  -- up to the body: `Mark, test, Zero, Turn`
  unfoldable pub while_begun : Pos → RightValue → Text → Option Text
  while_begun at e text =
      put_steps text.pieces at op.Mark (with_pieces (suc (suc text.pieces)) text)
      >>= (λ marked. given_steps (suc text.pieces) at e (op.Zero to_break) marked
      >>= (λ tested. put_steps (suc text.pieces) at op.Turn tested))

  -- `Mark, test, Zero, Turn`; the step takes its piece before the body
  unfoldable pub for_begun : Pos → Option RightValue → Option RightValue → Text → Option Text
  for_begun at test step text =
      put_steps text.pieces at op.Mark (with_pieces (piece_for step (piece_for test (one_piece (counts_of text)))).pieces text)
      >>= (λ marked. guarded_steps (suc text.pieces) at test marked
      >>= (λ tested. put_steps (turn_at text.pieces test) at op.Turn tested))

-- a loop with its condition at the end, up to its body: `Mark, Turn`
unfoldable pub do_begun : Pos → Text → Option Text
do_begun at text =
    put_steps text.pieces at op.Mark (with_pieces (suc text.pieces) text) >>= (λ marked. put_steps text.pieces at op.Turn marked)

-- ---- ends, which give jumps their targets

-- the operation of that number, replaced
abbrev pub replaced : ℕ → Placed → Text → Text
replaced number its text = record { ops = slice_set text.ops number its; cases = text.cases; pieces = text.pieces }

-- jumps from that number on go to these operations
abbrev pub aimed_text : ℕ → ℕ → ℕ → Text → Text
aimed_text breaks continues start text =
    record {
      ops = aimed_from (record { breaks = breaks; continues = continues }) start text.ops;
      cases = text.cases;
      pieces = text.pieces;
    }

-- `Mark` after a branch; the test jumps to it
unfoldable pub if_ended : Pos → ℕ → ℕ → Text → Option Text
if_ended at piece test text =
    put_steps text.pieces at op.Mark (with_pieces (suc text.pieces) text)
    >>= (λ last. Some (replaced test (placed_at piece at (op.Zero (length text.ops)) 1) last))

-- `Mark` after two branches
unfoldable pub if_else_ended : Pos → ℕ → ℕ → ℕ → Text → Option Text
if_else_ended at piece test jump text =
    put_steps text.pieces at op.Mark (with_pieces (suc text.pieces) text)
    >>= (λ last. Some (replaced jump (placed_at text.pieces at (op.Jump (length text.ops)) 0)
    (replaced test (placed_at piece at (op.Zero (suc jump)) 1) last)))

-- `Jump, Mark` after the body
unfoldable pub while_ended : Pos → ℕ → ℕ → Text → Option Text
while_ended at join start text =
    put_steps join at (op.Jump start) (with_pieces (suc text.pieces) text)
    >>= (λ turned. put_steps text.pieces at op.Mark turned
    >>= (λ last. Some (aimed_text (length turned.ops) start start last)))

module _ (setting : Setting) (function : TypedFunction) where
  -- `test, Zero, Jump, Mark`
  unfoldable pub do_ended : Pos → RightValue → ℕ → ℕ → Text → Option Text
  do_ended at e join start text =
      given_steps setting function text.pieces at e (op.Zero to_break) (with_pieces (suc (suc text.pieces)) text)
      >>= (λ tested. put_steps join at (op.Jump start) tested
      >>= (λ turned. put_steps (suc text.pieces) at op.Mark turned
      >>= (λ last. Some (aimed_text (length turned.ops) (length text.ops) start last))))

  -- `step, Drop, Jump, Mark`
  unfoldable pub for_ended : Pos → Option RightValue → ℕ → ℕ → ℕ → Text → Option Text
  for_ended at step piece join start text =
      dropped_steps setting function piece at step (with_pieces (suc text.pieces) text)
      >>= (λ stepped. put_steps join at (op.Jump start) stepped
      >>= (λ turned. put_steps text.pieces at op.Mark turned
      >>= (λ last. Some (aimed_text (length turned.ops) (length text.ops) start last))))

-- `Mark` after a switch with these labels: its cases come after those of the switches inside it
unfoldable pub switch_ended : Pos → ℕ → ℕ → ℕ → List (Label × ℕ) → Text → Option Text
switch_ended at piece choice start labels text =
    put_steps text.pieces at op.Mark (with_pieces (suc text.pieces) text)
    >>= (λ last. Some (aimed_text (length text.ops) to_continue start (replaced choice
    (placed_at piece at (op.Choose (record {
      first = length text.cases;
      end = length (text.cases ++ cases_in labels);
      default = default_in labels (length text.ops);
    })) 1)
    (record { ops = last.ops; cases = last.cases ++ cases_in labels; pieces = last.pieces }))))

-- ---- functions

-- what an answer with a text says of such a step
abbrev pub Written : Option Text → Result Text EmitEnd → Type 0
Written whole (Ok text) = whole ≡ Some text
Written whole (Err Limit) = whole ≡ None
Written whole (Err NoMemory) = Unit {0}

-- before the body: its entry and its exit are pieces
abbrev pub empty_text : Text
empty_text = record { ops = []; cases = []; pieces = 2 }

-- the body of a function and its end
unfoldable pub function_steps : Setting → TypedFunction → Option Text
function_steps setting function =
    block_steps setting function function.body empty_text
    >>= (λ body. return_steps setting function 1 (closing_of function.body) body
    >>= (λ last. Some (aimed_text (length body.ops) (length body.ops) 0 last)))

-- An answer meets the fact. It is refused with `Limit` only where there are too many operations, or with `NoMemory`.
abbrev pub Ends : {A : Type 0} → Result A EmitEnd → (A → Type 0) → Type 0 → Type 0
Ends (Ok it) fact past = fact it
Ends (Err Limit) fact past = past
Ends (Err NoMemory) fact past = Unit {0}

-- how many operations there are
abbrev pub count_ops : List FunctionCode → ℕ
count_ops [] = 0
count_ops (code ∷ rest) = length code.ops + count_ops rest
