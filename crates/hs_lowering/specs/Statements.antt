-- The code of statements and of functions (own): what each form becomes, as the table "Statements" of docs/CODE.md lists it.
--     Written                          operations, the cases of their switches, and the labels of a list of statements with their operations
--     Part                             what is written, by the number of its first operation; nothing is on the stack before it
--     Counts                           how many pieces of text and how many cases of switches there were before
--     Targets                          the operations to which `break` and `continue` go
--     statement_code targets counts it, block_code, list_code      and the counts after each: after_statement, after_block, after_list
--     function_code                    the body of a function, and its end
--     codes_of program                 the code of each function of a program
-- Pieces are numbered in the order of the text: 0 is the entry of the function, 1 its exit, and 2 the start of its body.
use Rattle.std.specs.Prelude.{ℕ, suc, Bool, true, false, List, [], ◌∷◌, ◌++◌, slice_get, Option, Some, None}
use Rattle.hs_base.specs.declared.pos.Pos.{Pos}
use Rattle.hs_code.specs.declared.function_code.Case.{Case}
use Rattle.hs_code.specs.declared.function_code.FunctionCode.{FunctionCode}
use Rattle.hs_code.specs.declared.function_code.Placed.{Placed}
use Rattle.hs_code.specs.declared.op.Access as code
use Rattle.hs_code.specs.declared.op.Access.TheVariants.{Struct}
use Rattle.hs_code.specs.declared.op.Goal.{Goal}
use Rattle.hs_code.specs.declared.op.Object.{Object}
use Rattle.hs_code.specs.declared.op.Object.TheVariants as object
use Rattle.hs_code.specs.declared.op.Op.{Op}
use Rattle.hs_code.specs.declared.op.Op.TheVariants as op
use Rattle.hs_lowering.specs.Lowering.{Lowered, after, access_in, operand, right_code}
use Rattle.hs_meaning.specs.Classes.{is_slot_declared, class_of_type, class_of_scalar}
use Rattle.hs_meaning.specs.Numbers.{bits_of}
use Rattle.hs_meaning.specs.Scalars.{Scalar, scalars_of}
use Rattle.hs_meaning.specs.Settings.{Setting, setting_of, access_of_type}
use Rattle.hs_meaning.specs.Statements.{part_for, type_in, closing_of}
use Rattle.hs_tree.specs.Kinds.{is_pointer, is_struct_row}
use Rattle.hs_tree.specs.Trees as tree
use Rattle.hs_tree.specs.Trees.{RightValue, Starting, TypedItem, TypedDeclaration, TypedStatement, TypedBlock, TypedStatements, TypedFunction, TypedProgram}
use Rattle.hs_tree.specs.declared.constant.Base.{Base}
use Rattle.hs_tree.specs.declared.constant.Base.TheVariants as base
use Rattle.hs_tree.specs.declared.constant.Constant.{Constant}
use Rattle.hs_tree.specs.declared.constant.Constant.TheVariants as constant
use Rattle.hs_tree.specs.declared.constant.Part as constant_part
use Rattle.hs_tree.specs.declared.head.Variable.{Variable}
use Rattle.hs_tree.specs.declared.head.Variable.TheVariants as name
use Rattle.hs_tree.specs.declared.statement.Label.{Label}
use Rattle.hs_tree.specs.declared.statement.Label.TheVariants as label
use Rattle.hs_types.specs.TypeTables.{row_of, size_of}
use Rattle.hs_types.specs.declared.row.TypeId.{TypeId}

-- ---- what is written

-- `labels` are those of a list of statements itself, each with its operation
pub record Written : Type 0 where
  pub ops : List Placed
  pub cases : List Case
  pub labels : List (Label × ℕ)

-- from that operation on
abbrev pub Part : Type 0
Part = ℕ → Written

-- operations alone
abbrev pub of_ops : List Placed → Written
of_ops its = record { ops = its; cases = []; labels = [] }

-- no operations
abbrev pub nothing : Part
nothing start = of_ops []

-- one after the other
abbrev pub joined : Written → Written → Written
joined first second = record { ops = first.ops ++ second.ops; cases = first.cases ++ second.cases; labels = first.labels ++ second.labels }

infixr 10 ◌then◌
-- the second one begins where the first one ends
abbrev pub ◌then◌ : Part → Part → Part
(first then second) start = joined (first start) (second (after start (first start).ops))

-- labels inside a statement are not of the list around it
abbrev pub closed : Written → Written
closed its = record its { labels = [] }

-- operations that find nothing on the stack, and leave nothing
abbrev pub plainly : Lowered → Part
plainly its start = of_ops (its start 0)

-- ---- counts and targets

-- how many there were before
pub record Counts : Type 0 where
  pub pieces : ℕ
  pub cases : ℕ

-- one piece more
abbrev pub one_piece : Counts → Counts
one_piece counts = record { pieces = suc counts.pieces; cases = counts.cases }

-- one more for a part that is there
abbrev pub piece_for : {A : Type 0} → Option A → Counts → Counts
piece_for None counts = counts
piece_for (Some it) counts = one_piece counts

-- one for each
abbrev pub pieces_for : {A : Type 0} → List A → Counts → Counts
pieces_for [] counts = counts
pieces_for (it ∷ rest) counts = pieces_for rest (one_piece counts)

-- so many cases more
abbrev pub case_for : Label → ℕ → ℕ
case_for (label.Case at bits) count = suc count
case_for (label.Default at) count = count

-- and those of all labels
abbrev pub cases_for : List Label → ℕ → ℕ
cases_for [] count = count
cases_for (its ∷ rest) count = cases_for rest (case_for its count)

-- the cases of a list of statements itself
abbrev pub cases_of_list : TypedStatements → ℕ → ℕ
cases_of_list tree.no_statements count = count
cases_of_list (tree.more_statements labels it rest) count = cases_of_list rest (cases_for labels count)

-- of a block
abbrev pub cases_of_block : TypedBlock → ℕ → ℕ
cases_of_block (tree.compound opening declarations list closing) count = cases_of_list list count

-- the cases of the switch itself come after those of the switches inside it
abbrev pub with_cases : TypedBlock → Counts → Counts
with_cases it counts = record { pieces = counts.pieces; cases = cases_of_block it counts.cases }

abbrev mutual
  pub after_statement : TypedStatement → Counts → Counts
  after_statement (tree.block it) counts = after_block it counts
  after_statement (tree.expression at e) counts = one_piece counts
  after_statement (tree.empty at) counts = one_piece counts
  -- the condition, the statement, and the join after it
  after_statement (tree.if_ at test first) counts = one_piece (after_statement first (one_piece counts))
  after_statement (tree.if_else at test first second) counts = one_piece (after_statement second (after_statement first (one_piece counts)))
  -- the join before the condition, the condition, the body, and the join after it
  after_statement (tree.while_ at test body) counts = one_piece (after_statement body (one_piece (one_piece counts)))
  after_statement (tree.do_ at body test) counts = one_piece (one_piece (after_statement body (one_piece counts)))
  -- the first part, the join, the condition and the step if they are there, the body, and the join after it
  after_statement (tree.for_ at first test step body) counts =
      one_piece (after_statement body (piece_for step (piece_for test (one_piece (piece_for first counts)))))
  after_statement (tree.switch_ at e it) counts = one_piece (with_cases it (after_block it (one_piece counts)))
  after_statement (tree.break_ at) counts = one_piece counts
  after_statement (tree.continue_ at) counts = one_piece counts
  after_statement (tree.return_ at e) counts = one_piece counts

  -- its start, its declarations and statements, and its end
  pub after_block : TypedBlock → Counts → Counts
  after_block (tree.compound opening declarations list closing) counts =
      one_piece (after_list list (pieces_for declarations (one_piece counts)))

  pub after_list : TypedStatements → Counts → Counts
  after_list tree.no_statements counts = counts
  after_list (tree.more_statements labels it rest) counts = after_list rest (after_statement it (pieces_for labels counts))

-- operations, by their numbers
pub record Targets : Type 0 where
  pub breaks : ℕ
  pub continues : ℕ

-- No operation. How long code is does not depend on where it jumps.
abbrev pub nowhere : Targets
nowhere = record { breaks = 0; continues = 0 }

-- before a body: its entry and its exit are pieces
abbrev pub body_counts : Counts
body_counts = record { pieces = 2; cases = 0 }

-- A `break` or `continue` in no loop, which no typed program has, would go to the end of its function.
abbrev pub end_at : ℕ → Targets
end_at at = record { breaks = at; continues = at }

-- ---- single operations

module _ (piece : ℕ) (at : Pos) where
  -- with so many values on the stack
  abbrev pub placed_at : Op → ℕ → Placed
  placed_at its places = record { op = its; at = at; piece = piece; places = places }

  -- one operation
  abbrev pub only_at : Op → Lowered
  only_at its start depth = placed_at its depth ∷ []

  -- with nothing on the stack
  abbrev pub alone : Op → Part
  alone its start = of_ops (placed_at its 0 ∷ [])

  -- a value of a stack that is empty otherwise, and what is done with it
  abbrev pub given : Lowered → Op → Part
  given value its = plainly (operand value (only_at its))

  -- it is dropped once more
  abbrev pub given_dropped : Lowered → Part
  given_dropped value = plainly (operand value (only_at op.Drop))

-- ---- labels

-- a place for each label: Mark
abbrev pub labels_code : ℕ → List Label → List Placed
labels_code piece [] = []
labels_code piece (label.Case at bits ∷ rest) = placed_at piece at.pos op.Mark 0 ∷ labels_code (suc piece) rest
labels_code piece (label.Default at ∷ rest) = placed_at piece at.pos op.Mark 0 ∷ labels_code (suc piece) rest

-- each with its operation
abbrev pub labels_at : List Label → ℕ → List (Label × ℕ)
labels_at [] start = []
labels_at (its ∷ rest) start = (its, start) ∷ labels_at rest (suc start)

-- the cases
abbrev pub cases_in : List (Label × ℕ) → List Case
cases_in [] = []
cases_in ((label.Case at bits, target) ∷ rest) = record { bits = bits; target = target } ∷ cases_in rest
cases_in ((label.Default at, target) ∷ rest) = cases_in rest

-- the default, or else that operation
abbrev pub default_in : List (Label × ℕ) → ℕ → ℕ
default_in [] otherwise = otherwise
default_in ((label.Case at bits, target) ∷ rest) otherwise = default_in rest otherwise
default_in ((label.Default at, target) ∷ rest) otherwise = target

-- the cases of a switch, after those of the switches inside it
abbrev pub with_cases_of : List (Label × ℕ) → Written → Written
with_cases_of labels its = record its { cases = its.cases ++ cases_in labels }

module _ (setting : Setting) (function : TypedFunction) where
  -- ---- first values

  -- the object of an address constant
  abbrev pub object_of : Base → Object
  object_of (base.Global place) = object.Variable (name.Global place)
  object_of (base.Literal place) = object.Literal place

  module _ (piece : ℕ) (at : Pos) where
    -- an address constant is the address of its object, and a step of so many bytes
    abbrev pub constant_code : Constant → Lowered
    constant_code (constant.Number bits) = only_at piece at (op.Num bits)
    constant_code constant.Nil = only_at piece at op.Nil
    constant_code (constant.Address its offset) =
        operand (only_at piece at (op.Address (object_of its)))
        (operand (only_at piece at (op.Num (bits_of offset))) (only_at piece at (op.Step (record { size = 1; backward = false }) true)))

    -- 0 or NIL
    abbrev pub zero_code : Bool → Lowered
    zero_code true = only_at piece at op.Nil
    zero_code false = only_at piece at (op.Num 0)

    -- the constant of a scalar, or 0 or NIL
    abbrev pub scalar_code : TypeId → Option constant_part.Part → Lowered
    scalar_code id None = zero_code (is_pointer setting.types id)
    scalar_code id (Some part) = constant_code part.value

    -- of a slot: the value, Set
    abbrev pub slot_started : Variable → Lowered → Lowered
    slot_started variable value = operand value (only_at piece at (op.Set variable))

    -- of a scalar inside an object: Address, Offset, the value, Store
    abbrev pub object_started : Variable → ℕ → code.Access → Lowered → Lowered
    object_started variable offset access value =
        operand (operand (only_at piece at (op.Address (object.Variable variable))) (only_at piece at (op.Offset offset)))
        (operand value (only_at piece at (op.Store access)))

    -- of a struct: Address, the value, Store
    abbrev pub struct_started : Variable → code.Access → Lowered → Lowered
    struct_started variable access value =
        operand (only_at piece at (op.Address (object.Variable variable))) (operand value (only_at piece at (op.Store access)))

    -- what a scalar inside an object reaches
    abbrev pub access_of_scalar : Scalar → code.Access
    access_of_scalar its =
        access_in (access_of_type setting its.type_id (class_of_scalar setting.same setting.taken its.type_id its.field))

    -- a scalar, in a slot or in an object
    abbrev pub scalar_started : Bool → Variable → List constant_part.Part → Scalar → Lowered
    scalar_started true variable parts its = slot_started variable (scalar_code its.type_id (part_for its parts))
    scalar_started false variable parts its =
        object_started variable its.offset (access_of_scalar its) (scalar_code its.type_id (part_for its parts))

    -- all of them, each dropped
    abbrev pub scalars_started : Bool → Variable → List constant_part.Part → List Scalar → Part
    scalars_started in_slot variable parts [] = nothing
    scalars_started in_slot variable parts (its ∷ rest) =
        given_dropped piece at (scalar_started in_slot variable parts its) then scalars_started in_slot variable parts rest

    -- one value: of a slot, of a struct in memory, or of another object
    abbrev pub value_started : Bool → Bool → Variable → TypeId → Lowered → Lowered
    value_started true is_struct variable id value = slot_started variable value
    value_started false true variable id value =
        struct_started variable (access_in (access_of_type setting id (class_of_type setting.same id))) value
    value_started false false variable id value =
        object_started variable 0 (access_in (access_of_type setting id (class_of_type setting.same id))) value

    -- a variable gets its first value
    abbrev pub start_code : Bool → Variable → TypeId → Starting → Part
    start_code in_slot variable id (tree.value e) =
        given_dropped piece at
        (value_started in_slot (is_struct_row (row_of setting.types id)) variable id (right_code setting function.variables piece e))
    start_code in_slot variable id (tree.parts its) = scalars_started in_slot variable its (scalars_of setting.types id)

  -- the variables of a declaration, each at its name
  abbrev pub items_code : ℕ → List TypedItem → Part
  items_code piece [] = nothing
  items_code piece (item ∷ items) =
      start_code piece item.at.pos (is_slot_declared setting.types (slice_get function.variables item.variable)) (name.Local item.variable)
      (type_in (slice_get function.variables item.variable)) item.start
      then items_code piece items

  -- each declaration is a piece
  abbrev pub declarations_code : Counts → List TypedDeclaration → Part
  declarations_code counts [] = nothing
  declarations_code counts (it ∷ rest) = items_code counts.pieces it.items then declarations_code (one_piece counts) rest

  -- ---- conditions and values

  -- the value of an expression that stands in that piece
  abbrev pub value_code : ℕ → RightValue → Lowered
  value_code piece e = right_code setting function.variables piece e

  -- the number of the operation that follows an expression and one more operation
  abbrev pub behind : ℕ → RightValue → ℕ → ℕ
  behind piece e start = suc (after start (value_code piece e start 0))

  -- a condition, and Zero to that operation
  abbrev pub guarded : ℕ → Pos → RightValue → ℕ → Part
  guarded piece at e target = given piece at (value_code piece e) (op.Zero target)

  -- of a part of `for` that may be absent
  abbrev pub guarded_if : ℕ → Pos → Option RightValue → ℕ → Part
  guarded_if piece at None target = nothing
  guarded_if piece at (Some e) target = guarded piece at e target

  -- and where it ends
  abbrev pub behind_if : ℕ → Option RightValue → ℕ → ℕ
  behind_if piece None start = start
  behind_if piece (Some e) start = behind piece e start

  -- a first part or a step, whose value is dropped
  abbrev pub dropped_if : ℕ → Pos → Option RightValue → Part
  dropped_if piece at None = nothing
  dropped_if piece at (Some e) = given_dropped piece at (value_code piece e)

  -- ---- returns

  -- Num 0; Nil of a pointer; of a struct Nil, Load, which stops
  abbrev pub missing_code : ℕ → Pos → Bool → Bool → Lowered
  missing_code piece at true is_struct = only_at piece at op.Nil
  missing_code piece at false true = operand (only_at piece at op.Nil) (only_at piece at (op.Load (Struct (size_of setting.types function.result))))
  missing_code piece at false false = only_at piece at (op.Num 0)

  -- `return;` and the end of a function
  abbrev pub return_code : ℕ → Pos → Part
  return_code piece at =
      given piece at (missing_code piece at (is_pointer setting.types function.result) (is_struct_row (row_of setting.types function.result))) op.Return

  -- a return, with or without a value
  abbrev pub returned_code : ℕ → Pos → Option RightValue → Part
  returned_code piece at None = return_code piece at
  returned_code piece at (Some e) = given piece at (value_code piece e) op.Return

  -- ---- statements

  -- `Zero(E), first, E: Mark`
  abbrev pub if_code : Counts → Pos → RightValue → ℕ → Part → Part
  if_code counts at e join first start =
      (guarded counts.pieces at e (after (behind counts.pieces e start) (first (behind counts.pieces e start)).ops)
      then first then alone join at op.Mark) start

  -- `Zero(L), first, Jump(E), L: second, E: Mark`, where the first one ends at that operation
  abbrev pub if_else_at : Counts → Pos → RightValue → ℕ → Part → Part → ℕ → Part
  if_else_at counts at e join first second jump_at =
      guarded counts.pieces at e (suc jump_at)
      then first then alone join at (op.Jump (after (suc jump_at) (second (suc jump_at)).ops)) then second then alone join at op.Mark

  -- and that operation is found from the first one
  abbrev pub if_else_code : Counts → Pos → RightValue → ℕ → Part → Part → Part
  if_else_code counts at e join first second start =
      if_else_at counts at e join first second (after (behind counts.pieces e start) (first (behind counts.pieces e start)).ops) start

  -- `H: Mark, test, Zero(E), Turn, body, Jump(H), E: Mark`, where the body ends at that operation; the pieces are those of the join, of the
  -- condition, and of the join after the loop
  abbrev pub while_at : ℕ → ℕ → ℕ → Pos → RightValue → (Targets → Part) → ℕ → Part
  while_at join test end_ at e body jump_at start =
      (alone join at op.Mark then guarded test at e (suc jump_at) then alone test at op.Turn
      then body (record { breaks = suc jump_at; continues = start }) then alone join at (op.Jump start) then alone end_ at op.Mark) start

  -- and that operation is found from the body with jumps to nowhere
  abbrev pub while_code : ℕ → ℕ → ℕ → Pos → RightValue → (Targets → Part) → Part
  while_code join test end_ at e body start =
      while_at join test end_ at e body
      (after (suc (behind test e (suc start))) (body nowhere (suc (behind test e (suc start)))).ops) start

  -- `H: Mark, Turn, body, C: test, Zero(E), Jump(H), E: Mark`, where the body ends at C
  abbrev pub do_at : ℕ → ℕ → ℕ → Pos → RightValue → (Targets → Part) → ℕ → Part
  do_at join test end_ at e body test_at start =
      (alone join at op.Mark then alone join at op.Turn
      then body (record { breaks = suc (behind test e test_at); continues = test_at })
      then guarded test at e (suc (behind test e test_at)) then alone join at (op.Jump start) then alone end_ at op.Mark) start

  -- and C is found from the body with jumps to nowhere
  abbrev pub do_code : ℕ → ℕ → ℕ → Pos → RightValue → (Targets → Part) → Part
  do_code join test end_ at e body start = do_at join test end_ at e body (after (suc (suc start)) (body nowhere (suc (suc start))).ops) start

  -- the pieces of a `for`: the join, the condition, the step, and the join after it
  pub record ForPieces : Type 0 where
    pub join : ℕ
    pub test : ℕ
    pub step : ℕ
    pub end_ : ℕ

  -- Turn belongs to the condition, if there is one
  abbrev pub turn_piece : ForPieces → Option RightValue → ℕ
  turn_piece pieces None = pieces.join
  turn_piece pieces (Some e) = pieces.test

  -- `H: Mark, test, Zero(E), Turn, body, C: step, Drop, Jump(H), E: Mark`, where the body ends at C and the step at that other operation
  abbrev pub for_at : ForPieces → Pos → Option RightValue → Option RightValue → (Targets → Part) → ℕ → ℕ → Part
  for_at pieces at test step body step_at jump_at start =
      (alone pieces.join at op.Mark then guarded_if pieces.test at test (suc jump_at) then alone (turn_piece pieces test) at op.Turn
      then body (record { breaks = suc jump_at; continues = step_at }) then dropped_if pieces.step at step
      then alone pieces.join at (op.Jump start) then alone pieces.end_ at op.Mark) start

  -- the end of the step
  abbrev pub for_from : ForPieces → Pos → Option RightValue → Option RightValue → (Targets → Part) → ℕ → Part
  for_from pieces at test step body step_at start =
      for_at pieces at test step body step_at (after step_at (dropped_if pieces.step at step step_at).ops) start

  -- and C is found from the body with jumps to nowhere
  abbrev pub for_code : ForPieces → Pos → Option RightValue → Option RightValue → (Targets → Part) → Part
  for_code pieces at test step body start =
      for_from pieces at test step body
      (after (suc (behind_if pieces.test test (suc start))) (body nowhere (suc (behind_if pieces.test test (suc start)))).ops) start

  -- the cases of a switch, of which so many came before, and its default
  abbrev pub goal_of : ℕ → ℕ → List (Label × ℕ) → ℕ → Goal
  goal_of first end_ labels otherwise = record { first = first; end = end_; default = default_in labels otherwise }

  -- `value, Choose, block, E: Mark`
  abbrev pub switch_at : ℕ → ℕ → Pos → RightValue → ℕ → ℕ → (Targets → Part) → Targets → ℕ → List (Label × ℕ) → Part
  switch_at test end_ at e first last body targets break_at labels start =
      with_cases_of labels
      ((given test at (value_code test e) (op.Choose (goal_of first last labels break_at))
      then body (record { breaks = break_at; continues = targets.continues }) then alone end_ at op.Mark) start)

  -- and E is found from the block with jumps to nowhere
  abbrev pub switch_code : ℕ → ℕ → Pos → RightValue → ℕ → ℕ → (Targets → Part) → Targets → Part
  switch_code test end_ at e first last body targets start =
      switch_at test end_ at e first last body targets (after (behind test e start) (body nowhere (behind test e start)).ops)
      (body nowhere (behind test e start)).labels start

  abbrev mutual
    pub statement_code : TypedStatement → Counts → Targets → Part
    statement_code (tree.block it) counts targets = block_code it counts targets
    statement_code (tree.expression at e) counts targets = given_dropped counts.pieces at.pos (value_code counts.pieces e)
    statement_code (tree.empty at) counts targets = alone counts.pieces at.pos op.Mark
    statement_code (tree.if_ at test first) counts targets =
        if_code counts at.pos test (after_statement first (one_piece counts)).pieces (statement_code first (one_piece counts) targets)
    statement_code (tree.if_else at test first second) counts targets =
        if_else_code counts at.pos test (after_statement second (after_statement first (one_piece counts))).pieces
        (statement_code first (one_piece counts) targets) (statement_code second (after_statement first (one_piece counts)) targets)
    statement_code (tree.while_ at test body) counts targets =
        while_code counts.pieces (suc counts.pieces) (after_statement body (one_piece (one_piece counts))).pieces at.pos test
        (statement_code body (one_piece (one_piece counts)))
    statement_code (tree.do_ at body test) counts targets =
        do_code counts.pieces (after_statement body (one_piece counts)).pieces (suc (after_statement body (one_piece counts)).pieces) at.pos test
        (statement_code body (one_piece counts))
    statement_code (tree.for_ at first test step body) counts targets =
        dropped_if counts.pieces at.pos first
        then for_code
        (record {
          join = (piece_for first counts).pieces;
          test = suc (piece_for first counts).pieces;
          step = (piece_for test (one_piece (piece_for first counts))).pieces;
          end_ = (after_statement body (piece_for step (piece_for test (one_piece (piece_for first counts))))).pieces;
        })
        at.pos test step (statement_code body (piece_for step (piece_for test (one_piece (piece_for first counts)))))
    statement_code (tree.switch_ at e it) counts targets =
        switch_code counts.pieces (after_block it (one_piece counts)).pieces at.pos e (after_block it (one_piece counts)).cases
        (cases_of_block it (after_block it (one_piece counts)).cases) (block_code it (one_piece counts)) targets
    statement_code (tree.break_ at) counts targets = alone counts.pieces at.pos (op.Jump targets.breaks)
    statement_code (tree.continue_ at) counts targets = alone counts.pieces at.pos (op.Jump targets.continues)
    statement_code (tree.return_ at e) counts targets = returned_code counts.pieces at.pos e

    -- `Mark`, the declarations, the statements, `Mark`
    pub block_code : TypedBlock → Counts → Targets → Part
    block_code (tree.compound opening declarations list closing) counts targets =
        alone counts.pieces opening.pos op.Mark
        then declarations_code (one_piece counts) declarations
        then list_code list (pieces_for declarations (one_piece counts)) targets
        then alone (after_list list (pieces_for declarations (one_piece counts))).pieces closing.pos op.Mark

    -- the labels of each statement, and the statement
    pub list_code : TypedStatements → Counts → Targets → Part
    list_code tree.no_statements counts targets = nothing
    list_code (tree.more_statements labels it rest) counts targets =
        (λ start. record { ops = labels_code counts.pieces labels; cases = []; labels = labels_at labels start })
        then (λ start. closed (statement_code it (pieces_for labels counts) targets start))
        then list_code rest (after_statement it (pieces_for labels counts)) targets

  -- ---- functions

  -- the end of a function returns as `return;` does, at its `}`; it belongs to the exit
  abbrev pub function_code : Written
  function_code =
      (block_code function.body body_counts (end_at (after 0 (block_code function.body body_counts nowhere 0).ops))
      then return_code 1 (closing_of function.body)) 0

-- ---- programs

-- as a function of code
abbrev pub as_code : Written → FunctionCode
as_code its = record { ops = its.ops; cases = its.cases }

-- one after the other
abbrev pub functions_code : Setting → List TypedFunction → List FunctionCode
functions_code setting [] = []
functions_code setting (function ∷ rest) = as_code (function_code setting function) ∷ functions_code setting rest

-- the functions of the program
abbrev pub codes_of : TypedProgram → List FunctionCode
codes_of program = functions_code (setting_of program) program.functions
