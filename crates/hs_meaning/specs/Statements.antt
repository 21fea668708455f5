-- What statements mean (X3.159-1989 3.6): the steps that say how each goes on.
--     started function item            a variable is given its first value (3.5.7)
--     executed statement               a statement
--     executed_block block             a block
--     executed_all entry statements    a list of statements, from its start or from a label on
--     next_turn statement              one turn of a loop, without the turn itself
--     body_of function                 the value that a function returns, and where
use Rattle.std.specs.Prelude.{ℕ, pos, ◌==◌, Bool, true, false, ◌&&◌, ◌||◌, List, [], ◌∷◌, slice_get, Option, Some, None}
use Rattle.std.specs.List.{list_any}
use Rattle.hs_base.specs.declared.pos.Pos.{Pos}
use Rattle.hs_heap.specs.declared.cell.Pointer.TheVariants.{Nil, Fixed}
use Rattle.hs_meaning.specs.Classes.{class_of_type, class_of_scalar}
use Rattle.hs_meaning.specs.Evaluation.{Flow, onward, breaks, continues, returned, Job, turn_of, Location, in_slot, at_address, value_of, variable_at, address_of, written}
use Rattle.hs_meaning.specs.Frames.{missing_value}
use Rattle.hs_meaning.specs.Numbers.{bits_of}
use Rattle.hs_meaning.specs.Objects.{object_of_base}
use Rattle.hs_meaning.specs.Operations as operation
use Rattle.hs_meaning.specs.Scalars.{Scalar, scalars_of}
use Rattle.hs_meaning.specs.Settings.{Setting, access_of_type}
use Rattle.hs_meaning.specs.Steps.{Step, ◌>>=◌, ◌>>◌, give, either, acts, perform, used, condition}
use Rattle.hs_meaning.specs.Values.{Value, number, pointer, Access}
use Rattle.hs_tree.specs.Kinds.{is_pointer}
use Rattle.hs_tree.specs.Trees as tree
use Rattle.hs_tree.specs.Trees.{RightValue, Starting, TypedItem, TypedDeclaration, TypedStatement, TypedBlock, TypedStatements, TypedFunction}
use Rattle.hs_tree.specs.declared.constant.Base.{Base}
use Rattle.hs_tree.specs.declared.constant.Base.TheVariants as base
use Rattle.hs_tree.specs.declared.constant.Constant.{Constant}
use Rattle.hs_tree.specs.declared.constant.Constant.TheVariants as constant
use Rattle.hs_tree.specs.declared.constant.Part.{Part}
use Rattle.hs_tree.specs.declared.head.Variable.{Variable}
use Rattle.hs_tree.specs.declared.head.Variable.TheVariants as name
use Rattle.hs_tree.specs.declared.head.VariableDecl.{VariableDecl}
use Rattle.hs_tree.specs.declared.statement.Label.{Label}
use Rattle.hs_tree.specs.declared.statement.Label.TheVariants as label
use Rattle.hs_types.specs.declared.row.TypeId.{TypeId}

-- ---- labels of a switch

-- A list of statements is executed from its start, or from the first label that is so.
pub data Entry : Type 0 where
  from_start : Entry
  from_label : (Label → Bool) → Entry

-- the case of that number
abbrev pub is_case : ℕ → Label → Bool
is_case bits (label.Case at its) = its == bits
is_case bits (label.Default at) = false

-- the default
abbrev pub is_default : Label → Bool
is_default (label.Case at its) = false
is_default (label.Default at) = true

-- a label in the list itself, and not in a statement inside
abbrev pub has_label : (Label → Bool) → TypedStatements → Bool
has_label is tree.no_statements = false
has_label is (tree.more_statements labels it rest) = list_any is labels || has_label is rest

-- 3.6.4.2: the case of that number, or else the default
abbrev pub entry_if : Bool → ℕ → Entry
entry_if true bits = from_label (is_case bits)
entry_if false bits = from_label is_default

-- of a list of statements
abbrev pub entry_for : ℕ → TypedStatements → Entry
entry_for bits list = entry_if (has_label (is_case bits) list) bits

-- the list begins at a statement with these labels
abbrev pub begins : Entry → List Label → Bool
begins from_start labels = true
begins (from_label is) labels = list_any is labels

-- ---- how statements go on

-- the next statement follows
abbrev pub after : Step Flow → Flow → Step Flow
after next onward = next
after next breaks = give breaks
after next continues = give continues
after next (returned value at) = give (returned value at)

-- a turn of a loop: `break` leaves the loop, and after `continue` it goes on
abbrev pub after_turn : Step Flow → Flow → Step Flow
after_turn next onward = next
after_turn next breaks = give onward
after_turn next continues = next
after_turn next (returned value at) = give (returned value at)

-- a switch: `break` leaves it
abbrev pub after_switch : Flow → Step Flow
after_switch onward = give onward
after_switch breaks = give onward
after_switch continues = give continues
after_switch (returned value at) = give (returned value at)

-- ---- first values

-- the first one, if it is the scalar's, or else what the others have
abbrev pub or_later : Bool → Part → Option Part → Option Part
or_later true part later = Some part
or_later false part later = later

-- a constant is for the scalar of its byte and its type
abbrev pub is_for : Scalar → Part → Bool
is_for its part = part.offset == its.offset && part.type_id.number == its.type_id.number

-- the constant of that scalar
abbrev pub part_for : Scalar → List Part → Option Part
part_for its [] = None
part_for its (part ∷ parts) = or_later (is_for its part) part (part_for its parts)

-- 0 or NIL, if it has none
abbrev pub zero_of : Bool → Value
zero_of true = pointer Nil
zero_of false = number 0

-- ---- steps

-- the place of the `{` of a block, and that of its `}`
abbrev pub opening_of : TypedBlock → Pos
opening_of (tree.compound opening declarations rest closing) = opening.pos

abbrev pub closing_of : TypedBlock → Pos
closing_of (tree.compound opening declarations rest closing) = closing.pos

-- the type of a variable that is there
abbrev pub type_in : Option VariableDecl → TypeId
type_in None = record { number = 0 }
type_in (Some variable) = variable.type_id

module _ (setting : Setting) (again : Job → Step Flow) (function : TypedFunction) where
  -- what a scalar inside an object reaches
  abbrev pub access_of_scalar : Scalar → Access
  access_of_scalar its = access_of_type setting its.type_id (class_of_scalar setting.same setting.taken its.type_id its.field)

  -- the address of the object that an address constant points into
  abbrev pub base_address : Pos → Base → Step Value
  base_address at (base.Global place) = acts at (variable_at (name.Global place)) >>= (λ its. acts at (address_of its))
  base_address at (base.Literal place) = give (pointer (Fixed (object_of_base setting (base.Literal place)) (pos 0)))

  -- the value of a constant: an address constant is so many bytes on from the front of its object
  abbrev pub constant_made : Pos → Constant → Step Value
  constant_made at (constant.Number bits) = give (number bits)
  constant_made at constant.Nil = give (pointer Nil)
  constant_made at (constant.Address its offset) =
      base_address at its >>= (λ front.
      perform setting at (operation.step (record { size = 1; backward = false }) true) (front ∷ number (bits_of offset) ∷ []))

  -- the constant of a scalar, or 0 or NIL
  abbrev pub scalar_made : Pos → TypeId → Option Part → Step Value
  scalar_made at id None = give (zero_of (is_pointer setting.types id))
  scalar_made at id (Some part) = constant_made at part.value

  -- a scalar gets its constant: it is a slot, or lies inside an object
  abbrev pub scalar_started : Pos → List Part → Scalar → Location → Step Value
  scalar_started at parts its (in_slot variable) =
      scalar_made at its.type_id (part_for its parts) >>= (λ value. perform setting at (operation.set variable) (value ∷ []))
  scalar_started at parts its (at_address front) =
      perform setting at (operation.offset its.offset) (front ∷ []) >>= (λ address.
      scalar_made at its.type_id (part_for its parts) >>= (λ value.
      perform setting at (operation.store (access_of_scalar its)) (address ∷ value ∷ [])))

  -- all of them, in order
  abbrev pub scalars_started : Pos → Variable → List Part → List Scalar → Step (Unit {0})
  scalars_started at variable parts [] = give tt
  scalars_started at variable parts (its ∷ rest) =
      acts at (variable_at variable) >>= scalar_started at parts its >> scalars_started at variable parts rest

  -- a value of its type, or constants for its scalars
  abbrev pub value_started : Pos → Variable → TypeId → Starting → Step (Unit {0})
  value_started at variable id (tree.value e) =
      acts at (variable_at variable)
      >>= (λ place. value_of setting again e >>= written setting at (access_of_type setting id (class_of_type setting.same id)) place) >> give tt
  value_started at variable id (tree.parts its) = scalars_started at variable its (scalars_of setting.types id)

  -- a variable of the function
  abbrev pub started : TypedItem → Step (Unit {0})
  started item =
      value_started item.at.pos (name.Local item.variable) (type_in (slice_get function.variables item.variable)) item.start

  -- the variables of a declaration
  abbrev pub items_started : List TypedItem → Step (Unit {0})
  items_started [] = give tt
  items_started (item ∷ items) = started item >> items_started items

  -- all declarations
  abbrev pub declarations_started : List TypedDeclaration → Step (Unit {0})
  declarations_started [] = give tt
  declarations_started (it ∷ rest) = items_started it.items >> declarations_started rest

  -- ---- statements

  -- an expression that is there, for what it does
  abbrev pub evaluated : Option RightValue → Step (Unit {0})
  evaluated None = give tt
  evaluated (Some e) = value_of setting again e >> give tt

  -- a controlling expression; one that is not there is true
  abbrev pub tested : Pos → Option RightValue → Step Bool
  tested at None = give true
  tested at (Some e) = value_of setting again e >>= condition at

  -- one more turn of the loop, if its condition is true
  abbrev pub turns_if : TypedStatement → Bool → Step Flow
  turns_if it is = either is (again (turn_of function it)) (give onward)

  -- 3.6.6.4: a value of the function's type, or none
  abbrev pub returns : Pos → Option RightValue → Step Flow
  returns at None = acts at (missing_value setting function.result) >>= (λ value. give (returned value at))
  returns at (Some e) = value_of setting again e >>= (λ value. give (returned value at))

  abbrev mutual
    -- a statement (3.6)
    pub executed : TypedStatement → Step Flow
    executed (tree.block it) = executed_block it
    executed (tree.expression at e) = value_of setting again e >> give onward
    executed (tree.empty at) = give onward
    executed (tree.if_ at test first) =
        value_of setting again test >>= condition at.pos >>= (λ is. either is (executed first) (give onward))
    executed (tree.if_else at test first second) =
        value_of setting again test >>= condition at.pos >>= (λ is. either is (executed first) (executed second))
    executed (tree.while_ at test body) = value_of setting again test >>= condition at.pos >>= turns_if (tree.while_ at test body)
    executed (tree.do_ at body test) = again (turn_of function (tree.do_ at body test))
    executed (tree.for_ at first test next body) =
        evaluated first >> (tested at.pos test >>= turns_if (tree.for_ at None test next body))
    executed (tree.switch_ at e it) =
        value_of setting again e >>= used at.pos >>= (λ bits. executed_switch bits it) >>= after_switch
    executed (tree.break_ at) = give breaks
    executed (tree.continue_ at) = give continues
    executed (tree.return_ at e) = returns at.pos e

    -- its declarations, and then its statements
    pub executed_block : TypedBlock → Step Flow
    executed_block (tree.compound opening declarations list closing) = declarations_started declarations >> executed_all from_start list

    -- a switch goes to a label after the declarations
    pub executed_switch : ℕ → TypedBlock → Step Flow
    executed_switch bits (tree.compound opening declarations list closing) = executed_all (entry_for bits list) list

    -- a list of statements
    pub executed_all : Entry → TypedStatements → Step Flow
    executed_all entry tree.no_statements = give onward
    executed_all entry (tree.more_statements labels it rest) =
        either (begins entry labels) (executed it >>= after (executed_all from_start rest)) (executed_all entry rest)

  -- ---- loops and functions

  -- a turn of a loop, and what follows it
  abbrev pub next_turn : TypedStatement → Step Flow
  next_turn (tree.while_ at test body) = executed body >>= after_turn (executed (tree.while_ at test body))
  next_turn (tree.do_ at body test) =
      executed body >>= after_turn (value_of setting again test >>= condition at.pos >>= turns_if (tree.do_ at body test))
  next_turn (tree.for_ at first test next body) =
      executed body >>= after_turn (evaluated next >> executed (tree.for_ at None test next body))
  next_turn (tree.block it) = give onward
  next_turn (tree.expression at e) = give onward
  next_turn (tree.empty at) = give onward
  next_turn (tree.if_ at test first) = give onward
  next_turn (tree.if_else at test first second) = give onward
  next_turn (tree.switch_ at e it) = give onward
  next_turn (tree.break_ at) = give onward
  next_turn (tree.continue_ at) = give onward
  next_turn (tree.return_ at e) = give onward

  -- The end of a function returns as `return;` does, at its `}`.
  abbrev pub ended_at : Pos → Flow → Step Flow
  ended_at at (returned value place) = give (returned value place)
  ended_at at onward = returns at None
  ended_at at breaks = returns at None
  ended_at at continues = returns at None

  -- the body of the function
  abbrev pub body_of : Step Flow
  body_of = executed_block function.body >>= ended_at (closing_of function.body)
