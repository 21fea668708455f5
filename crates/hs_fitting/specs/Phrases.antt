-- Statements of a program meet the facts of a typed program.
--     IsRightPhrase, IsRightItem      the facts of a statement, of a declaration and of what it declares
--     condition_walks, switched_walks, returned_walks      the expressions of statements
--     stated_walks, block_walks       statements and blocks
--     body_walks                      the body of a function
use Rattle.std.proofs.Common.{◌≡◌, ℕ, Bool, true, not, List, [], ◌∷◌, ◌++◌, nat_eq, Option, Some, None, Result, Ok, Err, refl, sym, subst, ◌∙◌, if◌then◌else◌}
use Rattle.std.specs.List.{AllByRecursion, list_any}
use Rattle.indexmap.specs.IndexSet.{insert_key}
use Rattle.hs_base.specs.Entries.{all_so}
use Rattle.hs_declarations.specs.Declarations.{block_declared}
use Rattle.hs_expressions.specs.Binding.{IsBoundNode}
use Rattle.hs_expressions.specs.Binding.Keeping.{IsBound, plain_bound}
use Rattle.hs_expressions.specs.Expressions.{first_place}
use Rattle.hs_fitting.specs.Known.{IsValue, types_walks, valued_walks}
use Rattle.hs_fitting.specs.Leaving.{scoped_walks}
use Rattle.hs_fitting.specs.Walk.{Anywhere, Nothing, Walks, passes_walks, stops_walks, knowing_walks, unless_walks, then_walks, so_walks}
use Rattle.hs_linkage.specs.Works.{Work, ◌>>=◌, knowing, unless}
use Rattle.hs_linkage.specs.declared.translator.Translator.{Translator}
use Rattle.hs_operands.specs.Assignments.{assigned}
use Rattle.hs_operand_types.specs.Constants.{constant_value}
use Rattle.hs_operand_types.specs.Conversions.{is_not_nil, truth}
use Rattle.hs_operands.specs.Laws.{IsTyped}
use Rattle.hs_operands.specs.Laws.AssignedTyped.{assigned-typed}
use Rattle.hs_operands.specs.Laws.Conditions.{truth-typed}
use Rattle.hs_operands.specs.Laws.Kept.{assigned_kept}
use Rattle.hs_operands.specs.Laws.Made.{Makes, gives, refuses, either_way}
use Rattle.hs_operands.specs.Laws.Numbers.{integer_number}
use Rattle.hs_operands.specs.Laws.Readable.{assigned_readable}
use Rattle.hs_operands.specs.Laws.Stays.{is_readable-stays}
use Rattle.hs_operands.specs.Laws.Typed.{all_with_one}
use Rattle.hs_operand_types.specs.declared.operand_end.OperandEnd.{OperandEnd}
use Rattle.hs_operand_types.specs.declared.operand_end.OperandEnd.TheVariants as refused
use Rattle.hs_branches.specs.Branches.{valued, valued_if, condition, condition_if, switched_by, switched, case_bits, case_label, default_label, labelled, all_labelled, no_cases, cases_of, returned_as, returned}
use Rattle.hs_statements.specs.Statements.{with_declaration, declared_all, looping, switching, scoped, switch_cases, stated, block_inside, all_stated, in_function, body_of}
use Rattle.hs_syntax.specs.Positions.{first_of}
use Rattle.hs_syntax.specs.Trees as syntax
use Rattle.hs_syntax.specs.Trees.{Expression, Declaration, Labelling, Statement, Compound, Statements}
use Rattle.hs_tokens.specs.declared.place.Place.{Place}
use Rattle.hs_tree.specs.Fitting.{IsPromotedKind, IsPromoted, FitsReturn, FitsItem, FitsPhrase}
use Rattle.hs_tree.specs.Inside.{Phrase, of_declaration, EachStatement, EachBlock, EachOfStatements, IfAny, InStart, EachExpression}
use Rattle.hs_tree.specs.Kinds.{number_kind, is_number, is_pointer, IsAnyNumber, IsReadable}
use Rattle.hs_tree.specs.RowLaws.{OneStatement, one_statement, statements_from}
use Rattle.hs_tree.specs.Trees as tree
use Rattle.hs_tree.specs.Trees.{RightValue, TypedItem, TypedDeclaration, TypedStatement, TypedFunction, TypedProgram, type_of}
use Rattle.hs_tree.specs.declared.statement.Label.{Label}
use Rattle.hs_tree.specs.declared.statement.Label.TheVariants as label
use Rattle.hs_typer.specs.Steps.{lifted}
use Rattle.hs_typer.specs.declared.type_error.TypeError.{TypeError}
use Rattle.hs_typer.specs.declared.type_error.TypeError.TheVariants.{Untyped}
use Rattle.hs_types.specs.Integers.{promoted}
use Rattle.hs_types.specs.Rows.{integer_id}
use Rattle.hs_types.specs.TypeTables.{TypeTable, IsRight, Grows}
use Rattle.hs_types.specs.declared.integer.Integer.{Integer}
use Rattle.hs_types.specs.declared.integer.Integer.TheVariants as kind
use Rattle.hs_types.specs.declared.row.TypeId.{TypeId}

-- ---- the facts

-- of a statement, or of a declaration at the head of a block
abbrev pub IsRightPhrase : TypedProgram → TypedFunction → Phrase → Type 0
IsRightPhrase program function phrase =
    FitsPhrase program function phrase × EachExpression (IsTyped program function) phrase × EachExpression (IsBound program function) phrase

-- of a variable that is given a value
abbrev pub IsRightItem : TypedProgram → TypedFunction → TypedItem → Type 0
IsRightItem program function item =
    FitsItem program function item × InStart (IsTyped program function) item.start × InStart (IsBound program function) item.start

-- ---- what the operators give

-- the same answer
lifted_given : {A : Type 0} → (given : Result A OperandEnd) (it : A) → lifted given ≡ Ok it → given ≡ Ok it
lifted_given (Ok made) it is = cc
lifted_given (Err why) it is = absurd cc

-- what is promoted twice is promoted once
promoted_twice : (its : Integer) → promoted (promoted its) ≡ promoted its
promoted_twice kind.Char = refl
promoted_twice kind.SignedChar = refl
promoted_twice kind.UnsignedChar = refl
promoted_twice kind.Short = refl
promoted_twice kind.UnsignedShort = refl
promoted_twice kind.Int = refl
promoted_twice kind.UnsignedInt = refl
promoted_twice kind.Long = refl
promoted_twice kind.UnsignedLong = refl

module _ (program : TypedProgram) (function : TypedFunction) where
  -- a controlling expression: a number, and of a switch a promoted one
  abbrev pub IsTest : RightValue → Type 0
  IsTest e = IsAnyNumber program.types (type_of e) × IsTyped program function e × IsBound program function e

  abbrev pub IsSwitched : RightValue → Type 0
  IsSwitched e = IsPromoted program.types (type_of e) × IsTyped program function e × IsBound program function e

  -- what a function returns
  abbrev pub IsReturned : Option RightValue → Type 0
  IsReturned its = FitsReturn program function its × IfAny (IsTyped program function) its × IfAny (IsBound program function) its

  -- if there is an expression
  abbrev pub IsValueIf : Option RightValue → Type 0
  IsValueIf its = IfAny (IsTyped program function) its × IfAny (IsBound program function) its

  abbrev pub IsTestIf : Option RightValue → Type 0
  IsTestIf its =
      IfAny (λ e. IsAnyNumber program.types (type_of e)) its × IfAny (IsTyped program function) its × IfAny (IsBound program function) its

  -- the facts of all that a declaration declares
  items_right : (its : List TypedItem) → AllByRecursion (IsRightItem program function) its
      → AllByRecursion (FitsItem program function) its
      × AllByRecursion (λ item. InStart (IsTyped program function) item.start) its
      × AllByRecursion (λ item. InStart (IsBound program function) item.start) its
  items_right its are = (
    all_so (IsRightItem program function) (FitsItem program function) (λ item is. is.0) its are,
    all_so (IsRightItem program function) (λ item. InStart (IsTyped program function) item.start) (λ item is. is.1) its are,
    all_so (IsRightItem program function) (λ item. InStart (IsBound program function) item.start) (λ item is. is.2) its are,
  )

  -- the declarations of a block, with one more
  abbrev pub AreDeclared : List TypedDeclaration → Type 0
  AreDeclared its = AllByRecursion (λ it. IsRightPhrase program function (of_declaration it)) its

  declared_added : (done : List TypedDeclaration) (at : Place) (its : List TypedItem) → AllByRecursion (IsRightItem program function) its
      → AreDeclared done → AreDeclared (with_declaration done at its)
  declared_added done at [] are before = before
  declared_added done at (it ∷ rest) are before =
      all_with_one (λ its. IsRightPhrase program function (of_declaration its)) done (record { at = at; items = it ∷ rest }) before
      (items_right (it ∷ rest) are)

  -- the statements of a block, with one more
  abbrev pub AreStated : List OneStatement → Type 0
  AreStated its = EachOfStatements (IsRightPhrase program function) (statements_from its)

  stated_added : (done : List OneStatement) (labels : List Label) (it : TypedStatement) → AreStated done
      → EachStatement (IsRightPhrase program function) it → AreStated (done ++ one_statement labels it ∷ [])
  stated_added [] labels it before is = (is, tt)
  stated_added (one_statement others other ∷ rest) labels it before is = (before.0, stated_added rest labels it before.1 is)

-- by the types at a place of the text
module _ (program : TypedProgram) (function : TypedFunction) (sound : IsRight program.types) (types : TypeTable) (grows : Grows types program.types) where
  -- a condition is bound to what the program has
  truth_bound : (at : Place) (e : RightValue) → IsBound program function e → Makes (IsBound program function) (truth types at e)
  truth_bound at e is =
      either_way (Makes (IsBound program function)) (is_number types (type_of e)) (Ok e)
      (if is_pointer types (type_of e) then Ok (is_not_nil e) else Err (refused.Untyped at))
      (λ number. gives (IsBound program function) e is)
      (λ other. either_way (Makes (IsBound program function)) (is_pointer types (type_of e)) (Ok (is_not_nil e)) (Err (refused.Untyped at))
      (λ pointer. gives (IsBound program function) (is_not_nil e) ((tt, tt, tt, tt), is))
      (λ neither. refuses (IsBound program function) at))

  -- so a condition is a number that is a value
  truth_given : (at : Place) (e made : RightValue) → lifted (truth types at e) ≡ Ok made → IsValue program function e → IsTest program function made
  truth_given at e made given is =
      let was : truth types at e ≡ Ok made = lifted_given (truth types at e) made given in
      let test : IsTyped program function made × IsAnyNumber program.types (type_of made)
      = truth-typed program function types sound grows at e is.0 made was in
      (test.1, test.0, truth_bound at e is.1 made was)

  -- a value that is converted as by assignment is one of that type
  pub assigned_given : (at : Place) (id : TypeId) (e made : RightValue) → assigned types at id e ≡ Ok made → IsValue program function e
      → IsValue program function made × (type_of made ≡ id)
  assigned_given at id e made was is =
      let typed : IsTyped program function made × (type_of made ≡ id)
      = assigned-typed program function types sound grows at id e is.0 made was in
      ((typed.0, (assigned_kept (IsBoundNode program function) (plain_bound program function) types at id e is.1 made was).0), typed.1)

  -- the value of a switch is promoted
  switched_given : (at : Place) (e made : RightValue) (given : Option Integer) → switched_by types at e given ≡ Ok made
      → IsValue program function e → IsSwitched program function made
  switched_given at e made None was is = absurd cc
  switched_given at e made (Some its) was is =
      let value : IsValue program function made × (type_of made ≡ integer_id (promoted its))
      = assigned_given at (integer_id (promoted its)) e made (lifted_given (assigned types at (integer_id (promoted its)) e) made was) is in (
        subst (IsPromoted program.types) (sym value.1)
            (subst IsPromotedKind (sym (integer_number program.types (promoted its) sound)) (promoted_twice its)),
        value.0.0,
        value.0.1,
      )

  -- what is returned is of the type that the function gives
  returned_given : (at : Place) (id : TypeId) (e made : RightValue) → id ≡ function.result → lifted (assigned types at id e) ≡ Ok made
      → IsValue program function e → IsReturned program function (Some made)
  returned_given at id e made same given is =
      let was : assigned types at id e ≡ Ok made = lifted_given (assigned types at id e) made given in
      let value : IsValue program function made × (type_of made ≡ id) = assigned_given at id e made was is in (
        (
          subst (IsReadable program.types) same (is_readable-stays types program.types grows id (assigned_readable types at id e made was)),
          value.1 ∙ same,
        ),
        value.0.0,
        value.0.1,
      )

-- ---- steps of which no fact is wanted

module _ {here : List ℕ → Bool} {program : TypedProgram} {function : TypedFunction} where
  -- what is known, a test of it, and nothing
  any_knowing : {A : Type 0} → (f : Translator → Result A TypeError) → Walks here program function Anywhere (knowing f) Nothing (λ it. Unit {0})
  any_knowing f = knowing_walks f (λ its m met it given grows. (tt, tt))

  any_unless : (why : TypeError) (test : Translator → Bool) → Walks here program function Anywhere (unless why test) Nothing (λ it. Unit {0})
  any_unless why test = unless_walks why test (λ its m met failed. tt)

  any_passes : {A : Type 0} → (it : A) → Walks here program function Anywhere (λ m. Ok (it, m)) Nothing (λ it. Unit {0})
  any_passes it = passes_walks it (λ its m met. tt) tt

  -- one after another
  then_any : {A B : Type 0} → {holds : A → Type 0} → {next : A → Work B} → (first : Work A)
      → Walks here program function Anywhere first Nothing holds
      → ((it : A) → Walks here program function Anywhere (next it) Nothing (λ made. Unit {0}))
      → Walks here program function Anywhere (first >>= next) Nothing (λ made. Unit {0})
  then_any first is are = then_walks first is (λ it. so_walks (λ its m met. tt) (λ its m made met. tt) (λ made met before. tt) (are it))

-- ---- statements

module _ (here : List ℕ → Bool) (program : TypedProgram) (function : TypedFunction) (sound : IsRight program.types) where
  -- an expression, if there is one
  pub valued_if_walks : (e : Option Expression) → Walks here program function Anywhere (valued_if e) Nothing (IsValueIf program function)
  valued_if_walks None = passes_walks None (λ its m met. tt) (tt, tt)
  valued_if_walks (Some e) =
      then_walks (valued e) (valued_walks sound e) (λ its. passes_walks (Some its) (λ its m met. tt) (λ is. is))

  -- a controlling expression
  pub condition_walks : (at : Place) (e : Expression)
      → Walks here program function Anywhere (condition at e) Nothing (IsTest program function)
  condition_walks at e =
      then_walks (valued e) (valued_walks sound e)
      (λ its. types_walks (λ types. lifted (truth types at its))
      (λ types grows made given is. truth_given program function sound types grows at its made given is))

  pub condition_if_walks : (at : Place) (e : Option Expression)
      → Walks here program function Anywhere (condition_if at e) Nothing (IsTestIf program function)
  condition_if_walks at None = passes_walks None (λ its m met. tt) (tt, tt, tt)
  condition_if_walks at (Some e) =
      then_walks (condition at e) (condition_walks at e) (λ its. passes_walks (Some its) (λ its m met. tt) (λ is. is))

  -- of a switch
  pub switched_walks : (at : Place) (e : Expression)
      → Walks here program function Anywhere (switched at e) Nothing (IsSwitched program function)
  switched_walks at e =
      then_walks (valued e) (valued_walks sound e)
      (λ its. types_walks (λ types. switched_by types at its (number_kind types (type_of its)))
      (λ types grows made given is. switched_given program function sound types grows at its made (number_kind types (type_of its)) given is))

  -- a value that is returned
  pub returned_walks : (at : Place) (id : TypeId) (e : Option Expression) → id ≡ function.result
      → Walks here program function Anywhere (returned at id e) Nothing (IsReturned program function)
  returned_walks at id None same = passes_walks None (λ its m met. tt) (tt, tt, tt)
  returned_walks at id (Some e) same =
      then_walks (valued e) (valued_walks sound e)
      (λ its. then_walks {holds = λ made. IsValue program function its → IsReturned program function (Some made)} (returned_as at id its)
      (types_walks (λ types. lifted (assigned types at id its))
      (λ types grows made given is. returned_given program function sound types grows at id its made same given is))
      (λ value. passes_walks (Some value) (λ its m met. tt) (λ is. is)))

  -- a label
  case_walks : (cases : _) (at : Place) (e : Expression) (its : Option Integer)
      → Walks here program function Anywhere (case_label at e cases its) Nothing (λ made. Unit {0})
  case_walks cases at e None = stops_walks (Untyped at)
  case_walks cases at e (Some its) =
      then_any (valued e) (valued_walks sound e)
      (λ value. then_any (knowing (λ m. case_bits at its (constant_value m.typer.types value)))
      (any_knowing (λ m. case_bits at its (constant_value m.typer.types value)))
      (λ bits. then_any (unless (Untyped at) (λ m. list_any (nat_eq bits) cases.values))
      (any_unless (Untyped at) (λ m. list_any (nat_eq bits) cases.values))
      (λ done. any_passes (label.Case at bits, record cases { values = insert_key nat_eq cases.values bits }))))

  default_walks : (cases : _) (at : Place) (its : Option Integer)
      → Walks here program function Anywhere (default_label at cases its) Nothing (λ made. Unit {0})
  default_walks cases at None = stops_walks (Untyped at)
  default_walks cases at (Some its) =
      then_any (unless (Untyped at) (λ m. cases.default)) (any_unless (Untyped at) (λ m. cases.default))
      (λ done. any_passes (label.Default at, record cases { default = true }))

  label_walks : (cases : _) (it : Labelling) → Walks here program function Anywhere (labelled cases it) Nothing (λ made. Unit {0})
  label_walks cases (syntax.case_ at e) = case_walks cases at e cases.kind
  label_walks cases (syntax.default_ at) = default_walks cases at cases.kind

  -- those in front of one statement
  pub labels_walks : (done : List Label) (cases : _) (its : List Labelling)
      → Walks here program function Anywhere (all_labelled done cases its) Nothing (λ made. Unit {0})
  labels_walks done cases [] = any_passes (done, cases)
  labels_walks done cases (it ∷ rest) =
      then_any (labelled cases it) (label_walks cases it) (λ p. labels_walks (done ++ p.0 ∷ []) p.1 rest)

  module _ (declared
      : (other : Place) (it : Declaration) → Walks here program function Anywhere (block_declared other it) Nothing
      (λ its. AllByRecursion (IsRightItem program function) its)) where
    -- the declarations of a block
    pub declared_all_walks : (at : Place) (done : List TypedDeclaration) (its : List Declaration)
        → Walks here program function Anywhere (declared_all at done its) Nothing
        (λ made. AreDeclared program function done → AreDeclared program function made)
    declared_all_walks at done [] = passes_walks done (λ its m met. tt) (λ are. are)
    declared_all_walks at done (it ∷ rest) =
        then_walks (block_declared at it) (declared at it)
        (λ its. so_walks (λ its m met. tt) (λ its m made met. tt)
        (λ made so are before. so (declared_added program function done (first_place at it.specifiers) its are before))
        (declared_all_walks at (with_declaration done (first_place at it.specifiers) its) rest))

    -- The type of `at` has no name here: `looping at` has the result that `at` has.
    mutual
      -- a statement
      pub stated_walks : (at : _) (it : Statement) → (looping at).result ≡ function.result
          → Walks here program function Anywhere (stated at it) Nothing (EachStatement (IsRightPhrase program function))
      stated_walks at (syntax.block it) same =
          then_walks (scoped (block_inside at no_cases it)) (scoped_walks (block_inside at no_cases it) (block_walks at no_cases it same))
          (λ its. passes_walks (tree.block its) (λ its m met. tt) (λ is. is))
      stated_walks at (syntax.expression e) same =
          then_walks (valued e) (valued_walks sound e)
          (λ its. passes_walks (tree.expression (first_of e) its) (λ its m met. tt) (λ is. (tt, is.0, is.1)))
      stated_walks at (syntax.empty place) same = passes_walks (tree.empty place) (λ its m met. tt) tt
      stated_walks at (syntax.if_ place test taken) same =
          then_walks (condition place test) (condition_walks place test)
          (λ c. then_walks (stated at taken) (stated_walks at taken same)
          (λ a. passes_walks (tree.if_ place c a) (λ its m met. tt) (λ each is. (is, each))))
      stated_walks at (syntax.if_else place test taken otherwise) same =
          then_walks (condition place test) (condition_walks place test)
          (λ c. then_walks (stated at taken) (stated_walks at taken same)
          (λ a. then_walks (stated at otherwise) (stated_walks at otherwise same)
          (λ b. passes_walks (tree.if_else place c a b) (λ its m met. tt) (λ other each is. (is, each, other)))))
      stated_walks at (syntax.while_ place test body) same =
          then_walks (condition place test) (condition_walks place test)
          (λ c. then_walks (stated (looping at) body) (stated_walks (looping at) body same)
          (λ a. passes_walks (tree.while_ place c a) (λ its m met. tt) (λ each is. (is, each))))
      stated_walks at (syntax.do_ place body test) same =
          then_walks (stated (looping at) body) (stated_walks (looping at) body same)
          (λ a. then_walks (condition place test) (condition_walks place test)
          (λ c. passes_walks (tree.do_ place a c) (λ its m met. tt) (λ is each. (is, each))))
      stated_walks at (syntax.for_ place first test step body) same =
          then_walks (valued_if first) (valued_if_walks first)
          (λ i. then_walks (condition_if place test) (condition_if_walks place test)
          (λ c. then_walks (valued_if step) (valued_if_walks step)
          (λ n. then_walks (stated (looping at) body) (stated_walks (looping at) body same)
          (λ a. passes_walks (tree.for_ place i c n a) (λ its m met. tt)
          (λ each after is before. ((is.0, (before.0, is.1, after.0), (before.1, is.2, after.1)), each))))))
      stated_walks at (syntax.switch_ place e it) same =
          then_walks (switched place e) (switched_walks place e)
          (λ c. then_walks (switch_cases c) (any_knowing (λ m. Ok (cases_of m.typer.types (type_of c))))
          (λ cases. then_walks (scoped (block_inside (switching at) cases it))
          (scoped_walks (block_inside (switching at) cases it) (block_walks (switching at) cases it same))
          (λ its. passes_walks (tree.switch_ place c its) (λ its m met. tt) (λ each known is. (is, each)))))
      stated_walks at (syntax.break_ place) same =
          then_walks (unless (Untyped place) (λ m. not at.breaks)) (any_unless (Untyped place) (λ m. not at.breaks))
          (λ may. passes_walks (tree.break_ place) (λ its m met. tt) (λ known. tt))
      stated_walks at (syntax.continue_ place) same =
          then_walks (unless (Untyped place) (λ m. not at.loops)) (any_unless (Untyped place) (λ m. not at.loops))
          (λ may. passes_walks (tree.continue_ place) (λ its m met. tt) (λ known. tt))
      stated_walks at (syntax.return_ place e) same =
          then_walks (returned place at.result e) (returned_walks place at.result e same)
          (λ its. passes_walks (tree.return_ place its) (λ its m met. tt) (λ is. is))

      -- a block in the scope that is there
      pub block_walks : (at : _) (cases : _) (it : Compound) → (looping at).result ≡ function.result
          → Walks here program function Anywhere (block_inside at cases it) Nothing (EachBlock (IsRightPhrase program function))
      block_walks at cases (syntax.compound opening declarations its closing) same =
          then_walks (declared_all opening [] declarations) (declared_all_walks opening [] declarations)
          (λ before. then_walks (all_stated at cases [] its) (all_stated_walks at cases [] its same)
          (λ after. passes_walks (tree.compound opening before (statements_from after) closing) (λ its m met. tt)
          (λ are' are. (are tt, are' tt))))

      -- the statements of a block, after those that are done
      pub all_stated_walks : (at : _) (cases : _) (done : List OneStatement) (its : Statements) → (looping at).result ≡ function.result
          → Walks here program function Anywhere (all_stated at cases done its) Nothing
          (λ made. AreStated program function done → AreStated program function made)
      all_stated_walks at cases done syntax.no_statements same = passes_walks done (λ its m met. tt) (λ are. are)
      all_stated_walks at cases done (syntax.more_statements labels it rest) same =
          then_walks (all_labelled [] cases labels) (labels_walks [] cases labels)
          (λ p. then_walks (stated at it) (stated_walks at it same)
          (λ one. so_walks (λ its m met. tt) (λ its m made met. tt)
          (λ made so each known before. so (stated_added program function done p.0 one before each))
          (all_stated_walks at p.1 (done ++ one_statement p.0 one ∷ []) rest same)))

    -- The body of a function.
    pub body_walks : (id : TypeId) (it : Compound) → id ≡ function.result
        → Walks here program function Anywhere (body_of id it) Nothing (EachBlock (IsRightPhrase program function))
    body_walks id it same = block_walks (in_function id) no_cases it same
