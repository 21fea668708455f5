-- What the operations of a function name is there (own).
--     StartThere program classes function variable start     the facts of a first value; PhraseNames of a statement or declaration
--     NamedPart part                                         what the operations of the part name is there, wherever they stand
--     statement_named, block_named                           the law; function_named of the code of a function
use Rattle.std.proofs.Common.{◌≡◌, ℕ, suc, Bool, true, false, List, [], ◌∷◌, slice_get, Option, Some, None, IsTrue, refl, sym, ap, ◌∙◌, subst}
use Rattle.std.specs.List.{AllByRecursion}
use Rattle.hs_base.specs.declared.pos.Pos.{Pos}
use Rattle.hs_code.specs.Codes.{is_object}
use Rattle.hs_code.specs.Stacks as stacks
use Rattle.hs_code.specs.declared.op.Access.{Access}
use Rattle.hs_code.specs.declared.op.Object.TheVariants as object
use Rattle.hs_code.specs.declared.op.Op.{Op}
use Rattle.hs_code.specs.declared.op.Op.TheVariants as op
use Rattle.hs_lowering.specs.Laws.Ranges.{ClassIn, IsThere, NamesFit, AllThere, Named, both_there, operand_named, right_named, slot_is, object_is}
use Rattle.hs_lowering.specs.Lowering.{Lowered, after, access_in}
use Rattle.hs_lowering.specs.Statements as code
use Rattle.hs_lowering.specs.Statements.{Part, ◌then◌, plainly, nothing, Counts, Targets, one_piece, piece_for, pieces_for, after_statement, only_at, alone, given, labels_code, value_code, guarded, guarded_if, dropped_if, ForPieces, statement_code, block_code, list_code, function_code}
use Rattle.hs_meaning.specs.Classes.{is_slot_declared, class_of_type, class_of_scalar}
use Rattle.hs_meaning.specs.Scalars.{Scalar, scalars_of}
use Rattle.hs_meaning.specs.Settings.{Setting, setting_of, access_of_type}
use Rattle.hs_meaning.specs.Statements.{is_for, part_for, or_later, type_in, closing_of}
use Rattle.hs_tree.specs.Inside.{Phrase, of_statement, of_declaration, EachRight, EachStatement, EachBlock, EachOfStatements, EachExpression, IfAny, InStart}
use Rattle.hs_tree.specs.Kinds.{is_pointer, is_struct_row}
use Rattle.hs_tree.specs.Objects.{IsBase}
use Rattle.hs_tree.specs.Objects as objects
use Rattle.hs_tree.specs.Trees as tree
use Rattle.hs_tree.specs.Trees.{RightValue, Starting, TypedItem, TypedDeclaration, TypedStatement, TypedBlock, TypedStatements, TypedFunction, TypedProgram}
use Rattle.hs_tree.specs.declared.class.Class.{Class}
use Rattle.hs_tree.specs.declared.constant.Base.{Base}
use Rattle.hs_tree.specs.declared.constant.Base.TheVariants as base
use Rattle.hs_tree.specs.declared.constant.Constant.{Constant}
use Rattle.hs_tree.specs.declared.constant.Constant.TheVariants as constant
use Rattle.hs_tree.specs.declared.constant.Part as constant_part
use Rattle.hs_tree.specs.declared.globals.Global.{Global}
use Rattle.hs_tree.specs.declared.head.Variable.TheVariants as name
use Rattle.hs_tree.specs.declared.head.VariableDecl.{VariableDecl}
use Rattle.hs_tree.specs.declared.statement.Label.{Label}
use Rattle.hs_tree.specs.declared.statement.Label.TheVariants as label
use Rattle.hs_types.specs.TypeTables.{TypeTable, row_of}
use Rattle.hs_types.specs.declared.row.TypeId.{TypeId}

-- ---- facts

module _ (program : TypedProgram) (classes : List Class) where
  -- the object of an address constant is there
  abbrev pub ConstantThere : Constant → Type 0
  ConstantThere (constant.Number bits) = Unit {0}
  ConstantThere constant.Nil = Unit {0}
  ConstantThere (constant.Address its offset) = IsBase program its

  -- the constant of a scalar
  abbrev pub PartThere : constant_part.Part → Type 0
  PartThere part = ConstantThere part.value

  -- the class of a scalar inside an object
  abbrev pub ScalarThere : Scalar → Type 0
  ScalarThere its =
      ClassIn classes (access_in (access_of_type (setting_of program) its.type_id (class_of_scalar program.same program.taken its.type_id its.field)))

  -- of a variable in memory: its class, or those of its scalars
  abbrev pub MemoryThere : VariableDecl → Starting → Type 0
  MemoryThere its (tree.value e) = ClassIn classes (access_in (access_of_type (setting_of program) its.type_id (class_of_type program.same its.type_id)))
  MemoryThere its (tree.parts parts) = AllByRecursion ScalarThere (scalars_of program.types its.type_id)

  -- what its constants name
  abbrev pub ConstantsThere : Starting → Type 0
  ConstantsThere (tree.value e) = Unit {0}
  ConstantsThere (tree.parts parts) = AllByRecursion PartThere parts

  -- a variable that is there gets its first value
  abbrev pub StartThere : Option VariableDecl → Starting → Type 0
  StartThere None start = ⊥
  StartThere (Some its) start = ConstantsThere start × (is_slot_declared program.types (Some its) ≡ false → MemoryThere its start)

module _ (program : TypedProgram) (classes : List Class) (function : TypedFunction) where
  -- the variables of a declaration
  abbrev pub StartsThere : Phrase → Type 0
  StartsThere (of_statement it) = Unit {0}
  StartsThere (of_declaration it) =
      AllByRecursion (λ (item : TypedItem). StartThere program classes (slice_get function.variables item.variable) item.start) it.items

  -- its expressions and its first values
  abbrev pub PhraseNames : Phrase → Type 0
  PhraseNames it = EachExpression (EachRight (NamesFit program classes function)) it × StartsThere it

-- ---- constants

global_object : (types : TypeTable) (its : Option Global) → IsTrue (objects.is_object types its) → is_object types (stacks.variable_of_global its) ≡ true
global_object types None is = absurd cc
global_object types (Some its) is = is

module _ (program : TypedProgram) (classes : List Class) (function : TypedFunction) where
  -- what a run needs of the program
  abbrev setting : Setting
  setting = setting_of program

  -- operations that name what is there, wherever they stand
  pub record NamedPart (its : Part) : Type 0 where
    pub at : (start : ℕ) → AllThere program classes function (its start).ops

  then_part : {f g : Part} → NamedPart f → NamedPart g → NamedPart (f then g)
  then_part {f = f} {g = g} is also =
      record {
        at = λ start.
            both_there program classes function (f start).ops (g (after start (f start).ops)).ops (is.at start) (also.at (after start (f start).ops));
      }

  nothing_part : NamedPart nothing
  nothing_part = record { at = λ start. tt }

  plain_part : {its : Lowered} → Named program classes function its → NamedPart (plainly its)
  plain_part is = record { at = λ start. is.at start 0 }

  module _ (piece : ℕ) (at : Pos) where
    only_there : (its : Op) → IsThere program classes function its → Named program classes function (only_at piece at its)
    only_there its is = record { at = λ start depth. (is, tt) }

    alone_part : (its : Op) → IsThere program classes function its → NamedPart (alone piece at its)
    alone_part its is = record { at = λ start. (is, tt) }

    given_part : {value : Lowered} → (its : Op) → IsThere program classes function its → Named program classes function value
        → NamedPart (given piece at value its)
    given_part its is named = plain_part (operand_named program classes function named (only_there its is))

    -- ---- first values

    base_there : (its : Base) → IsBase program its → IsThere program classes function (op.Address (code.object_of setting function its))
    base_there (base.Global place) is = global_object program.types (slice_get program.globals place) is
    base_there (base.Literal place) is = is

    constant_there : (its : Constant) → ConstantThere program classes its → Named program classes function (code.constant_code setting function piece at its)
    constant_there (constant.Number bits) is = only_there (op.Num bits) tt
    constant_there constant.Nil is = only_there op.Nil tt
    constant_there (constant.Address its offset) is =
        operand_named program classes function (only_there (op.Address (code.object_of setting function its)) (base_there its is))
        (operand_named program classes function (only_there _ tt) (only_there _ tt))

    zero_there : (b : Bool) → Named program classes function (code.zero_code setting function piece at b)
    zero_there true = only_there op.Nil tt
    zero_there false = only_there (op.Num 0) tt

    scalar_there : (its : Scalar) (parts : List constant_part.Part) → AllByRecursion (PartThere program classes) parts
        → Named program classes function (code.scalar_code setting function piece at its.type_id (part_for its parts))
    scalar_there its [] is = zero_there (is_pointer program.types its.type_id)
    scalar_there its (part ∷ parts) is = by (is_for its part) (scalar_there its parts is.1)
      where
        by : (b : Bool) → Named program classes function (code.scalar_code setting function piece at its.type_id (part_for its parts))
            → Named program classes function (code.scalar_code setting function piece at its.type_id (or_later b part (part_for its parts)))
        by true rest = constant_there part.value is.0
        by false rest = rest

    -- a slot or an object that is there
    module _ (place : ℕ) where
      -- the variable
      abbrev found : Option VariableDecl
      found = slice_get function.variables place

      slot_started : (value : Lowered) → is_slot_declared program.types found ≡ true → Named program classes function value
          → Named program classes function (code.slot_started setting function piece at (name.Local place) value)
      slot_started value is named = operand_named program classes function named (only_there (op.Set (name.Local place)) (slot_is program.types found is))

      object_there : is_slot_declared program.types found ≡ false → (its : VariableDecl) → found ≡ Some its
          → Named program classes function (only_at piece at (op.Address (object.Variable (name.Local place))))
      object_there is its so =
          only_there (op.Address (object.Variable (name.Local place)))
          (object_is program.types found (subst (λ o. IsTrue (Rattle.std.specs.Prelude.is_some o)) (sym so) refl) is)

      object_started : (offset : ℕ) (access : Access) (value : Lowered) → is_slot_declared program.types found ≡ false → (its : VariableDecl)
          → found ≡ Some its → ClassIn classes access → Named program classes function value
          → Named program classes function (code.object_started setting function piece at (name.Local place) offset access value)
      object_started offset access value is its so there named =
          operand_named program classes function
          (operand_named program classes function (object_there is its so) (only_there (op.Offset offset) tt))
          (operand_named program classes function named (only_there (op.Store access) there))

      value_started : (b is_struct : Bool) (id : TypeId) (value : Lowered) → is_slot_declared program.types found ≡ b → (its : VariableDecl) → found ≡ Some its
          → (b ≡ false → ClassIn classes (access_in (access_of_type setting id (class_of_type program.same id)))) → Named program classes function value
          → Named program classes function (code.value_started setting function piece at b is_struct (name.Local place) id value)
      value_started true is_struct id value is its so there named = slot_started value is named
      value_started false true id value is its so there named =
          operand_named program classes function (object_there is its so)
          (operand_named program classes function named
          (only_there (op.Store (access_in (access_of_type setting id (class_of_type program.same id)))) (there refl)))
      value_started false false id value is its so there named =
          object_started 0 (access_in (access_of_type setting id (class_of_type program.same id))) value is its so (there refl) named

      scalars_started : (b : Bool) (parts : List constant_part.Part) (scalars : List Scalar) → is_slot_declared program.types found ≡ b
          → (its : VariableDecl) → found ≡ Some its → AllByRecursion (PartThere program classes) parts
          → (b ≡ false → AllByRecursion (ScalarThere program classes) scalars)
          → NamedPart (code.scalars_started setting function piece at b (name.Local place) parts scalars)
      scalars_started b parts [] is its so constants there = nothing_part
      scalars_started true parts (scalar ∷ rest) is its so constants there =
          then_part
          (given_part op.Drop tt
          (slot_started (code.scalar_code setting function piece at scalar.type_id (part_for scalar parts)) is
          (scalar_there scalar parts constants)))
          (scalars_started true parts rest is its so constants (λ so'. (there so').1))
      scalars_started false parts (scalar ∷ rest) is its so constants there =
          then_part
          (given_part op.Drop tt
          (object_started scalar.offset (code.access_of_scalar setting function piece at scalar)
          (code.scalar_code setting function piece at scalar.type_id (part_for scalar parts)) is its so (there refl).0
          (scalar_there scalar parts constants)))
          (scalars_started false parts rest is its so constants (λ so'. (there so').1))

      start_part : (its : Option VariableDecl) → found ≡ its → (start : Starting) → InStart (EachRight (NamesFit program classes function)) start
          → StartThere program classes its start
          → NamedPart (code.start_code setting function piece at (is_slot_declared program.types found) (name.Local place) (type_in found) start)
      start_part None so start names there = absurd there
      start_part (Some its) so (tree.value e) names there =
          given_part op.Drop tt
          (value_started (is_slot_declared program.types found) (is_struct_row (row_of program.types (type_in found))) (type_in found)
          (value_code setting function piece e) refl its so
          (λ is. subst (λ id. ClassIn classes (access_in (access_of_type setting id (class_of_type program.same id)))) (sym (ap type_in so))
          (there.1 (sym (ap (is_slot_declared program.types) so) ∙ is))) (right_named program classes function piece e names))
      start_part (Some its) so (tree.parts parts) names there =
          scalars_started (is_slot_declared program.types found) parts (scalars_of program.types (type_in found)) refl its so there.0
          (λ is. subst (λ id. AllByRecursion (ScalarThere program classes) (scalars_of program.types id)) (sym (ap type_in so))
          (there.1 (sym (ap (is_slot_declared program.types) so) ∙ is)))

  -- ---- declarations

  items_part : (piece : ℕ) (its : List TypedItem)
      → AllByRecursion (λ (item : TypedItem). InStart (EachRight (NamesFit program classes function)) item.start) its
      → AllByRecursion (λ (item : TypedItem). StartThere program classes (slice_get function.variables item.variable) item.start) its
      → NamedPart (code.items_code setting function piece its)
  items_part piece [] names there = nothing_part
  items_part piece (item ∷ items) names there =
      then_part (start_part piece item.at.pos item.variable (slice_get function.variables item.variable) refl item.start names.0 there.0)
      (items_part piece items names.1 there.1)

  declarations_part : (counts : Counts) (its : List TypedDeclaration) → AllByRecursion (λ it. PhraseNames program classes function (of_declaration it)) its
      → NamedPart (code.declarations_code setting function counts its)
  declarations_part counts [] names = nothing_part
  declarations_part counts (it ∷ rest) names =
      then_part (items_part counts.pieces it.items names.0.0 names.0.1) (declarations_part (one_piece counts) rest names.1)

  -- ---- conditions and values

  -- the facts of an expression
  abbrev RightNames : RightValue → Type 0
  RightNames e = EachRight (NamesFit program classes function) e

  value_named : (piece : ℕ) (e : RightValue) → RightNames e → Named program classes function (value_code setting function piece e)
  value_named piece e names = right_named program classes function piece e names

  guarded_part : (piece : ℕ) (at : Pos) (e : RightValue) (target : ℕ) → RightNames e → NamedPart (guarded setting function piece at e target)
  guarded_part piece at e target names = given_part piece at (op.Zero target) tt (value_named piece e names)

  guarded_if_part : (piece : ℕ) (at : Pos) (e : Option RightValue) (target : ℕ) → IfAny RightNames e
      → NamedPart (guarded_if setting function piece at e target)
  guarded_if_part piece at None target names = nothing_part
  guarded_if_part piece at (Some e) target names = guarded_part piece at e target names

  dropped_if_part : (piece : ℕ) (at : Pos) (e : Option RightValue) → IfAny RightNames e → NamedPart (dropped_if setting function piece at e)
  dropped_if_part piece at None names = nothing_part
  dropped_if_part piece at (Some e) names = given_part piece at op.Drop tt (value_named piece e names)

  missing_named : (piece : ℕ) (at : Pos) (is_pointer is_struct : Bool)
      → Named program classes function (code.missing_code setting function piece at is_pointer is_struct)
  missing_named piece at true is_struct = only_there piece at op.Nil tt
  missing_named piece at false true = operand_named program classes function (only_there piece at op.Nil tt) (only_there piece at (op.Load _) tt)
  missing_named piece at false false = only_there piece at (op.Num 0) tt

  return_part : (piece : ℕ) (at : Pos) → NamedPart (code.return_code setting function piece at)
  return_part piece at =
      given_part piece at op.Return tt
      (missing_named piece at (is_pointer program.types function.result) (is_struct_row (row_of program.types function.result)))

  returned_part : (piece : ℕ) (at : Pos) (e : Option RightValue) → IfAny RightNames e → NamedPart (code.returned_code setting function piece at e)
  returned_part piece at None names = return_part piece at
  returned_part piece at (Some e) names = given_part piece at op.Return tt (value_named piece e names)

  -- ---- statements

  -- whatever its targets are
  abbrev Whatever : (Targets → Part) → Type 0
  Whatever body = (targets : Targets) → NamedPart (body targets)

  if_part : (counts : Counts) (at : Pos) (e : RightValue) (join : ℕ) (first : Part) → RightNames e → NamedPart first
      → NamedPart (code.if_code setting function counts at e join first)
  if_part counts at e join first names one =
      record { at = λ start. (then_part (guarded_part counts.pieces at e _ names) (then_part one (alone_part join at op.Mark tt))).at start }

  if_else_part : (counts : Counts) (at : Pos) (e : RightValue) (join : ℕ) (first second : Part) → RightNames e → NamedPart first → NamedPart second
      → NamedPart (code.if_else_code setting function counts at e join first second)
  if_else_part counts at e join first second names one other =
      record {
        at = λ start.
            (then_part (guarded_part counts.pieces at e _ names)
            (then_part one (then_part (alone_part join at (op.Jump _) tt) (then_part other (alone_part join at op.Mark tt))))).at start;
      }

  while_part : (join test end_ : ℕ) (at : Pos) (e : RightValue) (body : Targets → Part) → RightNames e → Whatever body
      → NamedPart (code.while_code setting function join test end_ at e body)
  while_part join test end_ at e body names does =
      record {
        at = λ start.
            (then_part (alone_part join at op.Mark tt) (then_part (guarded_part test at e _ names) (then_part (alone_part test at op.Turn tt)
            (then_part (does _) (then_part (alone_part join at (op.Jump start) tt) (alone_part end_ at op.Mark tt)))))).at start;
      }

  do_part : (join test end_ : ℕ) (at : Pos) (e : RightValue) (body : Targets → Part) → RightNames e → Whatever body
      → NamedPart (code.do_code setting function join test end_ at e body)
  do_part join test end_ at e body names does =
      record {
        at = λ start.
            (then_part (alone_part join at op.Mark tt) (then_part (alone_part join at op.Turn tt) (then_part (does _)
            (then_part (guarded_part test at e _ names) (then_part (alone_part join at (op.Jump start) tt) (alone_part end_ at op.Mark tt)))))).at start;
      }

  for_part : (pieces : ForPieces setting function) (at : Pos) (test step : Option RightValue) (body : Targets → Part) → IfAny RightNames test
      → IfAny RightNames step → Whatever body → NamedPart (code.for_code setting function pieces at test step body)
  for_part pieces at test step body names also does =
      record {
        at = λ start.
            (then_part (alone_part pieces.join at op.Mark tt) (then_part (guarded_if_part pieces.test at test _ names)
            (then_part (alone_part (code.turn_piece setting function pieces test) at op.Turn tt) (then_part (does _)
            (then_part (dropped_if_part pieces.step at step also)
            (then_part (alone_part pieces.join at (op.Jump start) tt) (alone_part pieces.end_ at op.Mark tt))))))).at start;
      }

  switch_part : (test end_ : ℕ) (at : Pos) (e : RightValue) (first last : ℕ) (body : Targets → Part) (targets : Targets) → RightNames e → Whatever body
      → NamedPart (code.switch_code setting function test end_ at e first last body targets)
  switch_part test end_ at e first last body targets names does =
      record {
        at = λ start.
            (then_part (given_part test at (op.Choose _) tt (value_named test e names)) (then_part (does _) (alone_part end_ at op.Mark tt))).at start;
      }

  labels_named : (piece : ℕ) (labels : List Label) → AllThere program classes function (labels_code piece labels)
  labels_named piece [] = tt
  labels_named piece (label.Case at bits ∷ rest) = (tt, labels_named (suc piece) rest)
  labels_named piece (label.Default at ∷ rest) = (tt, labels_named (suc piece) rest)

  mutual
    pub statement_named : (it : TypedStatement) → EachStatement (PhraseNames program classes function) it → (counts : Counts) (targets : Targets)
        → NamedPart (statement_code setting function it counts targets)
    statement_named (tree.block it) names counts targets = block_named it names counts targets
    statement_named (tree.expression at e) names counts targets = given_part counts.pieces at.pos op.Drop tt (value_named counts.pieces e names.0)
    statement_named (tree.empty at) names counts targets = alone_part counts.pieces at.pos op.Mark tt
    statement_named (tree.if_ at test first) names counts targets =
        if_part counts at.pos test _ _ names.0.0 (statement_named first names.1 (one_piece counts) targets)
    statement_named (tree.if_else at test first second) names counts targets =
        if_else_part counts at.pos test _ _ _ names.0.0 (statement_named first names.1 (one_piece counts) targets)
        (statement_named second names.2 (after_statement first (one_piece counts)) targets)
    statement_named (tree.while_ at test body) names counts targets =
        while_part _ _ _ at.pos test _ names.0.0 (λ inner. statement_named body names.1 (one_piece (one_piece counts)) inner)
    statement_named (tree.do_ at body test) names counts targets =
        do_part _ _ _ at.pos test _ names.0.0 (λ inner. statement_named body names.1 (one_piece counts) inner)
    statement_named (tree.for_ at first test step body) names counts targets =
        then_part (dropped_if_part counts.pieces at.pos first names.0.0.0)
        (for_part _ at.pos test step _ names.0.0.1 names.0.0.2
        (λ inner. statement_named body names.1 (piece_for step (piece_for test (one_piece (piece_for first counts)))) inner))
    statement_named (tree.switch_ at e it) names counts targets =
        switch_part _ _ at.pos e _ _ _ targets names.0.0 (λ inner. block_named it names.1 (one_piece counts) inner)
    statement_named (tree.break_ at) names counts targets = alone_part counts.pieces at.pos (op.Jump targets.breaks) tt
    statement_named (tree.continue_ at) names counts targets = alone_part counts.pieces at.pos (op.Jump targets.continues) tt
    statement_named (tree.return_ at e) names counts targets = returned_part counts.pieces at.pos e names.0

    pub block_named : (it : TypedBlock) → EachBlock (PhraseNames program classes function) it → (counts : Counts) (targets : Targets)
        → NamedPart (block_code setting function it counts targets)
    block_named (tree.compound opening declarations list closing) names counts targets =
        then_part (alone_part counts.pieces opening.pos op.Mark tt)
        (then_part (declarations_part (one_piece counts) declarations names.0)
        (then_part (list_named list names.1 (pieces_for declarations (one_piece counts)) targets) (alone_part _ closing.pos op.Mark tt)))

    list_named : (its : TypedStatements) → EachOfStatements (PhraseNames program classes function) its → (counts : Counts) (targets : Targets)
        → NamedPart (list_code setting function its counts targets)
    list_named tree.no_statements names counts targets = nothing_part
    list_named (tree.more_statements labels it rest) names counts targets =
        then_part {f = λ start. record { ops = labels_code counts.pieces labels; cases = []; labels = code.labels_at labels start }}
        (record { at = λ start. labels_named counts.pieces labels })
        (then_part {f = λ start. code.closed (statement_code setting function it (pieces_for labels counts) targets start)}
        (record { at = λ start. (statement_named it names.0 (pieces_for labels counts) targets).at start })
        (list_named rest names.1 (after_statement it (pieces_for labels counts)) targets))

  -- ---- functions

  pub function_named : EachBlock (PhraseNames program classes function) function.body → AllThere program classes function (function_code setting function).ops
  function_named names = (then_part (block_named function.body names _ _) (return_part 1 (closing_of function.body))).at 0
