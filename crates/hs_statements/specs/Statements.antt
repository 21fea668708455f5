-- Statements (X3.159-1989 3.6) as typed statements, or the first refusal, in the order of the text.
--     stated at it                 a statement
--     body_of at it                the body of a function, whose parameters are in its scope
use Rattle.std.specs.Prelude.{true, false, not, List, [], ◌∷◌, ◌++◌, Result, Ok, Err}
use Rattle.hs_branches.specs.Branches.{all_labelled, cases_of, condition, condition_if, no_cases, returned, switched, valued, valued_if}
use Rattle.hs_declarations.specs.Declarations.{block_declared}
use Rattle.hs_linkage.specs.Works.{Work, ◌>>=◌, ◌>>◌, pass, knowing, unless}
use Rattle.hs_linkage.specs.declared.translator.Translator.{Translator}
use Rattle.hs_expressions.specs.Expressions.{enter, leave, first_place}
use Rattle.hs_branches.specs.declared.labels.Cases.{Cases}
use Rattle.hs_statements.specs.declared.setting.Setting.{Setting}
use Rattle.hs_syntax.specs.Positions.{first_of}
use Rattle.hs_syntax.specs.Trees as syntax
use Rattle.hs_syntax.specs.Trees.{Declaration, Statement, Compound, Statements}
use Rattle.hs_tokens.specs.declared.place.Place.{Place}
use Rattle.hs_tree.specs.RowLaws.{OneStatement, one_statement, statements_from}
use Rattle.hs_tree.specs.Trees as tree
use Rattle.hs_tree.specs.Trees.{RightValue, TypedItem, TypedDeclaration, TypedStatement, TypedBlock, type_of}
use Rattle.hs_typer.specs.declared.type_error.TypeError.{TypeError}
use Rattle.hs_typer.specs.declared.type_error.TypeError.TheVariants.{Untyped}
use Rattle.hs_types.specs.declared.row.TypeId.{TypeId}

-- a declaration that gives no variable a value is left out
abbrev pub with_declaration : List TypedDeclaration → Place → List TypedItem → List TypedDeclaration
with_declaration done at [] = done
with_declaration done at (it ∷ rest) = done ++ record { at = at; items = it ∷ rest } ∷ []

-- the declarations of a block
abbrev pub declared_all : Place → List TypedDeclaration → List Declaration → Work (List TypedDeclaration)
declared_all at done [] = pass done
declared_all at done (it ∷ rest) =
    block_declared at it >>= (λ its. declared_all at (with_declaration done (first_place at it.specifiers) its) rest)

-- in a loop
abbrev pub looping : Setting → Setting
looping at = record at { breaks = true; loops = true }

-- in a switch
abbrev pub switching : Setting → Setting
switching at = record at { breaks = true }

-- a scope of its own (3.1.2.1)
abbrev pub entered : Translator → Translator
entered m = record m { typer = enter m.typer }

-- which ends
abbrev pub without_scope : Translator → Translator
without_scope m = record m { typer = leave m.typer }

-- after a step that was not refused
abbrev pub ended : {A : Type 0} → Result (A × Translator) TypeError → Result (A × Translator) TypeError
ended (Ok p) = Ok (p.0, without_scope p.1)
ended (Err why) = Err why

-- a step in a scope of its own
abbrev pub scoped : {A : Type 0} → Work A → Work A
scoped work m = ended (work (entered m))

-- the kinds of labels that a switch has
abbrev pub switch_cases : RightValue → Work Cases
switch_cases e = knowing (λ m. Ok (cases_of m.typer.types (type_of e)))

abbrev mutual
  -- 3.6: a statement
  pub stated : Setting → Statement → Work TypedStatement
  stated at (syntax.block it) = scoped (block_inside at no_cases it) >>= (λ its. pass (tree.block its))
  stated at (syntax.expression e) = valued e >>= (λ its. pass (tree.expression (first_of e) its))
  stated at (syntax.empty place) = pass (tree.empty place)
  stated at (syntax.if_ place test taken) = do
    c ← condition place test
    a ← stated at taken
    pass (tree.if_ place c a)
  stated at (syntax.if_else place test taken otherwise) = do
    c ← condition place test
    a ← stated at taken
    b ← stated at otherwise
    pass (tree.if_else place c a b)
  stated at (syntax.while_ place test body) = do
    c ← condition place test
    a ← stated (looping at) body
    pass (tree.while_ place c a)
  stated at (syntax.do_ place body test) = do
    a ← stated (looping at) body
    c ← condition place test
    pass (tree.do_ place a c)
  stated at (syntax.for_ place first test step body) = do
    i ← valued_if first
    c ← condition_if place test
    n ← valued_if step
    a ← stated (looping at) body
    pass (tree.for_ place i c n a)
  stated at (syntax.switch_ place e it) = do
    c ← switched place e
    cases ← switch_cases c
    its ← scoped (block_inside (switching at) cases it)
    pass (tree.switch_ place c its)
  stated at (syntax.break_ place) = unless (Untyped place) (λ m. not at.breaks) >> pass (tree.break_ place)
  stated at (syntax.continue_ place) = unless (Untyped place) (λ m. not at.loops) >> pass (tree.continue_ place)
  stated at (syntax.return_ place e) = returned place at.result e >>= (λ its. pass (tree.return_ place its))

  -- 3.6.2: a block in the scope that is there, with the labels that it may have
  pub block_inside : Setting → Cases → Compound → Work TypedBlock
  block_inside at cases (syntax.compound opening declarations its closing) = do
    before ← declared_all opening [] declarations
    after ← all_stated at cases [] its
    pass (tree.compound opening before (statements_from after) closing)

  -- the statements of a block; `done` are those before
  pub all_stated : Setting → Cases → List OneStatement → Statements → Work (List OneStatement)
  all_stated at cases done syntax.no_statements = pass done
  all_stated at cases done (syntax.more_statements labels it rest) = do
    p ← all_labelled [] cases labels
    one ← stated at it
    all_stated at p.1 (done ++ one_statement p.0 one ∷ []) rest

-- a block in a scope of its own
abbrev pub blocked : Setting → Cases → Compound → Work TypedBlock
blocked at cases it = scoped (block_inside at cases it)

-- no loop and no switch is around it
abbrev pub in_function : TypeId → Setting
in_function id = record { result = id; breaks = false; loops = false }

-- the body of a function that gives that type
abbrev pub body_of : TypeId → Compound → Work TypedBlock
body_of id it = block_inside (in_function id) no_cases it
