-- Two runs that correspond in each operation and job correspond in each statement.
use Rattle.std.proofs.Common.{◌≡◌, ℕ, pos, Bool, true, false, List, [], ◌∷◌, Option, Some, None, refl, subst}
use Rattle.hs_base.specs.declared.pos.Pos.{Pos}
use Rattle.hs_meaning.specs.Beside.{Relation, Follows, gives, thens, eithers, Units, Same, Locations, Flows, Leaves, Agains}
use Rattle.hs_meaning.specs.Beside.Expressions as expressions
use Rattle.hs_meaning.specs.Evaluation.{Flow, onward, breaks, continues, returned, Job, Location, in_slot, at_address, value_of}
use Rattle.hs_meaning.specs.Numbers.{bits_of}
use Rattle.hs_meaning.specs.Operations as operation
use Rattle.hs_meaning.specs.Scalars.{Scalar, scalars_of}
use Rattle.hs_meaning.specs.Statements.{Entry, from_start, entry_for, begins, after, after_turn, after_switch, part_for, type_in, closing_of, access_of_scalar, base_address, constant_made, scalar_made, scalar_started, scalars_started, value_started, started, items_started, declarations_started, evaluated, tested, turns_if, returns, executed, executed_block, executed_switch, executed_all, next_turn, ended_at, body_of}
use Rattle.hs_meaning.specs.Steps.{Step, ◌>>=◌, condition}
use Rattle.hs_tree.specs.Trees as tree
use Rattle.hs_meaning.specs.Settings.{Setting}
use Rattle.hs_tree.specs.Trees.{RightValue, Starting, TypedItem, TypedDeclaration, TypedStatement, TypedBlock, TypedStatements, TypedFunction}
use Rattle.hs_tree.specs.declared.constant.Base.{Base}
use Rattle.hs_tree.specs.declared.constant.Base.TheVariants as base
use Rattle.hs_tree.specs.declared.constant.Constant.{Constant}
use Rattle.hs_tree.specs.declared.constant.Constant.TheVariants as constant
use Rattle.hs_tree.specs.declared.constant.Part.{Part}
use Rattle.hs_tree.specs.declared.head.Variable.{Variable}
use Rattle.hs_tree.specs.declared.head.Variable.TheVariants as name
use Rattle.hs_tree.specs.Kinds.{is_pointer}
use Rattle.hs_types.specs.declared.row.TypeId.{TypeId}

module _ (R : Relation) (setting : Setting) (leaves : Leaves R setting) (again other : Job → Step Flow) (agains : Agains R again other)
    (function : TypedFunction) where
  -- ---- ways to go on

  value_of_follows : (e : RightValue) → Follows R R.values (value_of setting again e) (value_of setting other e)
  value_of_follows e = expressions.value_follows R setting leaves again other agains e

  condition_of : (at : Pos) (e : RightValue)
      → Follows R Same (value_of setting again e >>= condition at) (value_of setting other e >>= condition at)
  condition_of at e = thens (value_of_follows e) (λ a b is. expressions.condition_follows R setting leaves at a b is)

  after_follows : {f f' : Step Flow} → (a b : Flow) → Flows R a b → Follows R (Flows R) f f' → Follows R (Flows R) (after f a) (after f' b)
  after_follows onward onward is next = next
  after_follows onward breaks is next = absurd is
  after_follows onward continues is next = absurd is
  after_follows onward (returned w at') is next = absurd is
  after_follows breaks onward is next = absurd is
  after_follows breaks breaks is next = gives tt
  after_follows breaks continues is next = absurd is
  after_follows breaks (returned w at') is next = absurd is
  after_follows continues onward is next = absurd is
  after_follows continues breaks is next = absurd is
  after_follows continues continues is next = gives tt
  after_follows continues (returned w at') is next = absurd is
  after_follows (returned v at) onward is next = absurd is
  after_follows (returned v at) breaks is next = absurd is
  after_follows (returned v at) continues is next = absurd is
  after_follows (returned v at) (returned w at') is next = gives is

  after_turn_follows : {f f' : Step Flow} → (a b : Flow) → Flows R a b → Follows R (Flows R) f f'
      → Follows R (Flows R) (after_turn f a) (after_turn f' b)
  after_turn_follows onward onward is next = next
  after_turn_follows onward breaks is next = absurd is
  after_turn_follows onward continues is next = absurd is
  after_turn_follows onward (returned w at') is next = absurd is
  after_turn_follows breaks onward is next = absurd is
  after_turn_follows breaks breaks is next = gives tt
  after_turn_follows breaks continues is next = absurd is
  after_turn_follows breaks (returned w at') is next = absurd is
  after_turn_follows continues onward is next = absurd is
  after_turn_follows continues breaks is next = absurd is
  after_turn_follows continues continues is next = next
  after_turn_follows continues (returned w at') is next = absurd is
  after_turn_follows (returned v at) onward is next = absurd is
  after_turn_follows (returned v at) breaks is next = absurd is
  after_turn_follows (returned v at) continues is next = absurd is
  after_turn_follows (returned v at) (returned w at') is next = gives is

  after_switch_follows : (a b : Flow) → Flows R a b → Follows R (Flows R) (after_switch a) (after_switch b)
  after_switch_follows onward onward is = gives tt
  after_switch_follows onward breaks is = absurd is
  after_switch_follows onward continues is = absurd is
  after_switch_follows onward (returned w at') is = absurd is
  after_switch_follows breaks onward is = absurd is
  after_switch_follows breaks breaks is = gives tt
  after_switch_follows breaks continues is = absurd is
  after_switch_follows breaks (returned w at') is = absurd is
  after_switch_follows continues onward is = absurd is
  after_switch_follows continues breaks is = absurd is
  after_switch_follows continues continues is = gives tt
  after_switch_follows continues (returned w at') is = absurd is
  after_switch_follows (returned v at) onward is = absurd is
  after_switch_follows (returned v at) breaks is = absurd is
  after_switch_follows (returned v at) continues is = absurd is
  after_switch_follows (returned v at) (returned w at') is = gives is

  -- ---- first values

  zero_follows : (is : Bool) → R.values (Rattle.hs_meaning.specs.Statements.zero_of is) (Rattle.hs_meaning.specs.Statements.zero_of is)
  zero_follows true = leaves.constant constant.Nil
  zero_follows false = leaves.constant (constant.Number 0)

  base_follows : (at : Pos) (its : Base) → Follows R R.values (base_address setting again function at its) (base_address setting other function at its)
  base_follows at (base.Global place) = thens (leaves.variable at (name.Global place)) (λ a b is. leaves.address at a b is)
  base_follows at (base.Literal place) = gives (leaves.constant (constant.Address (base.Literal place) (pos 0)))

  constant_follows : (at : Pos) (its : Constant)
      → Follows R R.values (constant_made setting again function at its) (constant_made setting other function at its)
  constant_follows at (constant.Number bits) = gives (leaves.constant (constant.Number bits))
  constant_follows at constant.Nil = gives (leaves.constant constant.Nil)
  constant_follows at (constant.Address its offset) =
      thens (base_follows at its) (λ a b is. expressions.performed_two R setting leaves at (operation.step (record { size = 1; backward = false }) true)
      a b _ _ is (leaves.constant (constant.Number (bits_of offset))))

  scalar_made_follows : (at : Pos) (id : TypeId) (part : Option Part)
      → Follows R R.values (scalar_made setting again function at id part) (scalar_made setting other function at id part)
  scalar_made_follows at id None = gives (zero_follows (is_pointer setting.types id))
  scalar_made_follows at id (Some part) = constant_follows at part.value

  scalar_follows : (at : Pos) (parts : List Part) (its : Scalar) (a b : Location) → Locations R a b
      → Follows R R.values (scalar_started setting again function at parts its a) (scalar_started setting other function at parts its b)
  scalar_follows at parts its (in_slot a) (in_slot b) is =
      subst (λ n. Follows R R.values (scalar_started setting again function at parts its (in_slot a))
      (scalar_started setting other function at parts its (in_slot n))) is
      (thens (scalar_made_follows at its.type_id (part_for its parts))
      (λ v w so. expressions.performed_one R setting leaves at (operation.set a) v w so))
  scalar_follows at parts its (in_slot a) (at_address b) is = absurd is
  scalar_follows at parts its (at_address a) (in_slot b) is = absurd is
  scalar_follows at parts its (at_address a) (at_address b) is =
      thens (expressions.performed_one R setting leaves at (operation.offset its.offset) a b is)
      (λ m n so. thens (scalar_made_follows at its.type_id (part_for its parts))
      (λ v w too. expressions.performed_two R setting leaves at (operation.store (access_of_scalar setting again function its)) m n v w so too))

  scalars_follow : (at : Pos) (variable : Variable) (parts : List Part) (all : List Scalar)
      → Follows R Units (scalars_started setting again function at variable parts all) (scalars_started setting other function at variable parts all)
  scalars_follow at variable parts [] = gives tt
  scalars_follow at variable parts (its ∷ rest) =
      thens (thens (leaves.variable at variable) (λ a b is. scalar_follows at parts its a b is)) (λ v w so. scalars_follow at variable parts rest)

  value_started_follows : (at : Pos) (variable : Variable) (id : TypeId) (start : Starting)
      → Follows R Units (value_started setting again function at variable id start) (value_started setting other function at variable id start)
  value_started_follows at variable id (tree.value e) =
      thens (thens (leaves.variable at variable)
      (λ a b is. thens (value_of_follows e) (λ v w so. expressions.written_follows R setting leaves at _ a b v w is so))) (λ v w so. gives tt)
  value_started_follows at variable id (tree.parts its) = scalars_follow at variable its (scalars_of setting.types id)

  items_follow : (items : List TypedItem) → Follows R Units (items_started setting again function items) (items_started setting other function items)
  items_follow [] = gives tt
  items_follow (item ∷ items) =
      thens (value_started_follows item.at.pos (name.Local item.variable) _ item.start) (λ m n so. items_follow items)

  declarations_follow : (all : List TypedDeclaration)
      → Follows R Units (declarations_started setting again function all) (declarations_started setting other function all)
  declarations_follow [] = gives tt
  declarations_follow (it ∷ rest) = thens (items_follow it.items) (λ m n so. declarations_follow rest)

  -- ---- statements

  evaluated_follows : (e : Option RightValue) → Follows R Units (evaluated setting again function e) (evaluated setting other function e)
  evaluated_follows None = gives tt
  evaluated_follows (Some e) = thens (value_of_follows e) (λ a b is. gives tt)

  tested_follows : (at : Pos) (e : Option RightValue) → Follows R Same (tested setting again function at e) (tested setting other function at e)
  tested_follows at None = gives refl
  tested_follows at (Some e) = condition_of at e

  turns_follow : (it : TypedStatement) (a b : Bool) → a ≡ b
      → Follows R (Flows R) (turns_if setting again function it a) (turns_if setting other function it b)
  turns_follow it a b is = expressions.chosen R setting leaves a b is (agains.turns function it) (gives tt)

  returns_follow : (at : Pos) (e : Option RightValue)
      → Follows R (Flows R) (returns setting again function at e) (returns setting other function at e)
  returns_follow at None = thens (leaves.missing at function.result) (λ a b is. gives (is, refl))
  returns_follow at (Some e) = thens (value_of_follows e) (λ a b is. gives (is, refl))

  mutual
    -- a statement
    pub executed_follows : (it : TypedStatement) → Follows R (Flows R) (executed setting again function it) (executed setting other function it)
    executed_follows (tree.block it) = block_follows it
    executed_follows (tree.expression at e) = thens (value_of_follows e) (λ a b is. gives tt)
    executed_follows (tree.empty at) = gives tt
    executed_follows (tree.if_ at test first) =
        thens (condition_of at.pos test) (λ a b is. expressions.chosen R setting leaves a b is (executed_follows first) (gives tt))
    executed_follows (tree.if_else at test first second) =
        thens (condition_of at.pos test) (λ a b is. expressions.chosen R setting leaves a b is (executed_follows first) (executed_follows second))
    executed_follows (tree.while_ at test body) = thens (condition_of at.pos test) (λ a b is. turns_follow (tree.while_ at test body) a b is)
    executed_follows (tree.do_ at body test) = agains.turns function (tree.do_ at body test)
    executed_follows (tree.for_ at first test next body) =
        thens (evaluated_follows first) (λ m n so. thens (tested_follows at.pos test) (λ a b is. turns_follow (tree.for_ at None test next body) a b is))
    executed_follows (tree.switch_ at e it) =
        thens (thens (thens (value_of_follows e) (λ a b is. leaves.used_as at.pos a b is))
        (λ a b is. subst (λ n. Follows R (Flows R) (executed_switch setting again function a it) (executed_switch setting other function n it)) is
        (switch_follows a it))) (λ a b is. after_switch_follows a b is)
    executed_follows (tree.break_ at) = gives tt
    executed_follows (tree.continue_ at) = gives tt
    executed_follows (tree.return_ at e) = returns_follow at.pos e

    -- a block
    pub block_follows : (it : TypedBlock) → Follows R (Flows R) (executed_block setting again function it) (executed_block setting other function it)
    block_follows (tree.compound opening declarations list closing) =
        thens (declarations_follow declarations) (λ m n so. all_follow from_start list)

    switch_follows : (bits : ℕ) (it : TypedBlock)
        → Follows R (Flows R) (executed_switch setting again function bits it) (executed_switch setting other function bits it)
    switch_follows bits (tree.compound opening declarations list closing) = all_follow (entry_for bits list) list

    all_follow : (entry : Entry) (all : TypedStatements)
        → Follows R (Flows R) (executed_all setting again function entry all) (executed_all setting other function entry all)
    all_follow entry tree.no_statements = gives tt
    all_follow entry (tree.more_statements labels it rest) =
        eithers (begins entry labels) (thens (executed_follows it) (λ a b is. after_follows a b is (all_follow from_start rest))) (all_follow entry rest)

  -- ---- loops and functions

  pub next_turn_follows : (it : TypedStatement) → Follows R (Flows R) (next_turn setting again function it) (next_turn setting other function it)
  next_turn_follows (tree.while_ at test body) =
      thens (executed_follows body) (λ a b is. after_turn_follows a b is (executed_follows (tree.while_ at test body)))
  next_turn_follows (tree.do_ at body test) =
      thens (executed_follows body) (λ a b is. after_turn_follows a b is
      (thens (condition_of at.pos test) (λ a b is. turns_follow (tree.do_ at body test) a b is)))
  next_turn_follows (tree.for_ at first test next body) =
      thens (executed_follows body) (λ a b is. after_turn_follows a b is
      (thens (evaluated_follows next) (λ m n so. executed_follows (tree.for_ at None test next body))))
  next_turn_follows (tree.block it) = gives tt
  next_turn_follows (tree.expression at e) = gives tt
  next_turn_follows (tree.empty at) = gives tt
  next_turn_follows (tree.if_ at test first) = gives tt
  next_turn_follows (tree.if_else at test first second) = gives tt
  next_turn_follows (tree.switch_ at e it) = gives tt
  next_turn_follows (tree.break_ at) = gives tt
  next_turn_follows (tree.continue_ at) = gives tt
  next_turn_follows (tree.return_ at e) = gives tt

  ended_follows : (at : Pos) (a b : Flow) → Flows R a b → Follows R (Flows R) (ended_at setting again function at a) (ended_at setting other function at b)
  ended_follows at onward onward is = returns_follow at None
  ended_follows at onward breaks is = absurd is
  ended_follows at onward continues is = absurd is
  ended_follows at onward (returned w at') is = absurd is
  ended_follows at breaks onward is = absurd is
  ended_follows at breaks breaks is = returns_follow at None
  ended_follows at breaks continues is = absurd is
  ended_follows at breaks (returned w at') is = absurd is
  ended_follows at continues onward is = absurd is
  ended_follows at continues breaks is = absurd is
  ended_follows at continues continues is = returns_follow at None
  ended_follows at continues (returned w at') is = absurd is
  ended_follows at (returned v place) onward is = absurd is
  ended_follows at (returned v place) breaks is = absurd is
  ended_follows at (returned v place) continues is = absurd is
  ended_follows at (returned v place) (returned w place') is = gives is

  pub body_follows : Follows R (Flows R) (body_of setting again function) (body_of setting other function)
  body_follows = thens (block_follows function.body) (λ a b is. ended_follows (closing_of function.body) a b is)
