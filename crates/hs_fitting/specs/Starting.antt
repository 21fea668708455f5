-- What automatic objects start with (X3.159-1989 3.5.7): a value of their type, or constants for their scalars.
--     IsStart program function p      a type, and what an object of it starts with; a value meets all facts of expressions
--     starting_started                an initialiser, in the forms of `Readying.antt`
--     starting_fits                   from a place of the text
use Rattle.std.proofs.Common.{◌≡◌, true, ◌&&◌, is_some, Result, Ok, Err, refl, ap, subst}
use Rattle.hs_expressions.specs.Binding.{IsBoundNode}
use Rattle.hs_expressions.specs.Binding.Keeping.{KnowsBound, Giving, plain_bound}
use Rattle.hs_expressions.specs.Laws.{IsScoped, Knows}
use Rattle.hs_expressions.specs.Laws.Always.{gives_always, of_types_always, then_always, value_always}
use Rattle.hs_expressions.specs.Laws.Extending.{typed_always}
use Rattle.hs_fitting.specs.Answers.{accepted}
use Rattle.hs_fitting.specs.Initialising.{initialised_always}
use Rattle.hs_fitting.specs.Parts.{HasParts, initialised_started}
use Rattle.hs_fitting.specs.Readying.{Started, IsRightValue, gives_started, of_types_started, then_started, tested_started, value_started}
use Rattle.hs_fitting.specs.Scalars.{IsSolid}
use Rattle.hs_fitting.specs.Sizing.{MayHaveStart, may_start_solid}
use Rattle.hs_fitting.specs.Staying.{text_kind_stays}
use Rattle.hs_fitting.specs.WideOperators.{assigned_wide}
use Rattle.hs_aggregates.specs.Aggregates.{text_kind}
use Rattle.hs_initialisers.specs.Initialisers.{is_string, assigned_start, constant_start, starting, with_parts}
use Rattle.hs_operands.specs.Assignments.{assigned}
use Rattle.hs_operands.specs.Laws.AssignedTyped.{assigned-typed}
use Rattle.hs_operands.specs.Laws.Kept as keep
use Rattle.hs_operands.specs.Laws.Readable.{assigned_readable}
use Rattle.hs_operands.specs.Laws.Stays.{is_readable-stays}
use Rattle.hs_operand_types.specs.declared.operand_end.OperandEnd.{OperandEnd}
use Rattle.hs_syntax.specs.Positions.{position_of}
use Rattle.hs_syntax.specs.Trees as syntax
use Rattle.hs_syntax.specs.Trees.{Expression, Initialising}
use Rattle.hs_tokens.specs.declared.place.Place.{Place}
use Rattle.hs_tree.specs.Inside.{InStart}
use Rattle.hs_tree.specs.Kinds.{is_readable}
use Rattle.hs_tree.specs.Objects.{FitsStart}
use Rattle.hs_tree.specs.Trees as tree
use Rattle.hs_tree.specs.Trees.{RightValue, Starting, TypedFunction, TypedProgram}
use Rattle.hs_typer.specs.Steps.{lifted, lifted_end}
use Rattle.hs_typer.specs.declared.type_error.TypeError.{TypeError}
use Rattle.hs_typer.specs.declared.typer.Typer.{Typer}
use Rattle.hs_types.specs.Growing.{grows_self}
use Rattle.hs_types.specs.TypeTables.{TypeTable, IsRight, Grows}
use Rattle.hs_types.specs.declared.row.TypeId.{TypeId}

-- a type, and what an object of it starts with; a value is well typed, bound and computed in promoted kinds
abbrev pub IsStart : TypedProgram → TypedFunction → TypeId × Starting → Type 0
IsStart program function p = FitsStart program p.0 p.1 × InStart (IsRightValue program function) p.1

-- ---- steps

module _ (program : TypedProgram) (function : TypedFunction) (sound : IsRight program.types) (types : TypeTable) (right : IsRight types) where
  -- a value, converted as by assignment
  converted_start : (later : TypeTable) (at : Place) (id : TypeId) (e made : RightValue) (given : Result RightValue OperandEnd) → Grows later program.types
      → IsRightValue program function e → assigned later at id e ≡ given → lifted given ≡ Ok made → IsStart program function (id, tree.value made)
  converted_start later at id e made (Err why) after is same given = absurd (failed (lifted_end why) made given)
    where
      failed : (why : TypeError) (made : RightValue) → ◌≡◌ {A = Result RightValue TypeError} (Err why) (Ok made) → ⊥
      failed why made is' = cc
  converted_start later at id e made (Ok it) after is same given =
      let typed' = assigned-typed program function later sound after at id e is.0 it same in
      let bound = keep.assigned_kept (IsBoundNode program function) (plain_bound program function) later at id e is.1 it same in
      let wide = assigned_wide later at id e is.2 it same in
      let readable : is_readable program.types id ≡ true =
      is_readable-stays later program.types after id (assigned_readable later at id e it same) in
      let start : IsStart program function (id, tree.value it) = ((readable, typed'.1), (typed'.0, bound.0, wide)) in
      subst (λ it. IsStart program function (id, tree.value it)) (accepted it made given) start

  assigned_started : (id : TypeId) (e : Expression) → Started program function types (IsStart program function) (assigned_start id e)
  assigned_started id e =
      then_started (value_always (typed_always e)) (value_started sound e)
      (λ its. then_always (of_types_always (λ types. lifted (assigned types (position_of e) id its))) (λ made. gives_always (id, tree.value made)))
      (λ its is. then_started (of_types_always (λ types. lifted (assigned types (position_of e) id its)))
      (of_types_started {holds = λ made. IsStart program function (id, tree.value made)} (λ types. lifted (assigned types (position_of e) id its))
      (λ later grows after made given.
      converted_start later (position_of e) id its made (assigned later (position_of e) id its) after is refl given))
      (λ made. gives_always (id, tree.value made)) (λ made is'. gives_started (id, tree.value made) is'))

  -- constants
  constant_started : (at : Place) (id : TypeId) (it : Initialising) → IsSolid types id
      → Started program function types (IsStart program function) (constant_start at id it)
  constant_started at id it solid =
      then_started {holds = HasParts program} (initialised_always at id it) (initialised_started program function sound types right at id it solid)
      (λ p. gives_always (with_parts p)) (λ p are. gives_started (with_parts p) (are, tt))

  -- an automatic object
  pub starting_started : (at : Place) (id : TypeId) (it : Initialising) → IsSolid types id
      → Started program function types (IsStart program function) (starting at id it)
  starting_started at id (syntax.value e) solid =
      tested_started (λ s. is_string e && is_some (text_kind s.types id)) (is_string e && is_some (text_kind types id))
      (λ s grows. ap (λ o. is_string e && is_some o) (text_kind_stays types right s.types grows id solid))
      (λ text. constant_started at id (syntax.value e) solid) (λ other. assigned_started id e)
  starting_started at id (syntax.list brace its comma) solid = constant_started at id (syntax.list brace its comma) solid

-- What an automatic object starts with fits it, and if that is a value, each expression in it is well typed and bound.
pub starting_fits : (program : TypedProgram) (function : TypedFunction) (at : Place) (id : TypeId) (it : Initialising) (s : Typer)
    → IsRight program.types → IsRight s.types → MayHaveStart s.types id → IsScoped s → s.counts ≡ true → Knows program function s
    → KnowsBound program function program.types s → Giving program function program.types s (IsStart program function) (starting at id it s)
starting_fits program function at id it s sound right may scoped counts known bound =
    (starting_started program function sound s.types right at id it (may_start_solid s.types id may)).gives s
    (record { scoped = scoped; counts = counts; known = known; bound = bound; grows = grows_self s.types })
