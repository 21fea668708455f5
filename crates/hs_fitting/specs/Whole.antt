-- The type of an object that is given its first value is complete, if it was, or was an array of unknown length (X3.159-1989 3.5.7).
--     MayStart types id               it is one of both
--     starting_whole                  the type of an automatic object after its initialiser
use Rattle.std.proofs.Common.{◌≡◌, ℕ, Bool, true, false, ◌&&◌, ◌||◌, List, [], length, Option, Some, None, is_some, Result, Ok, Err, if◌then◌else◌, refl, sym, ◌∙◌}
use Rattle.hs_base.specs.Tests.{or_false}
use Rattle.hs_expressions.specs.Expressions.{typed}
use Rattle.hs_expressions.specs.Operations.{value_of}
use Rattle.hs_expressions.specs.Laws.{IsConstant, IsScoped}
use Rattle.hs_expressions.specs.Laws.Always.{Always, Reaching, value_always}
use Rattle.hs_expressions.specs.Laws.Extending.{typed_always}
use Rattle.hs_expressions.specs.Laws.Reached.{scoped_after}
use Rattle.hs_fitting.specs.Initialising.{alone_always, braced_always}
use Rattle.hs_fitting.specs.Moves.{IsWhole, whole_stays}
use Rattle.hs_aggregates.specs.Aggregates.{text_kind, count_begun}
use Rattle.hs_initialisers.specs.Initialisers.{is_string, braced, all_of, sized_by, sized, alone, initialised, assigned_start, constant_start, starting, with_parts}
use Rattle.hs_operands.specs.Assignments.{assigned, assigned_pointer, assigned_number}
use Rattle.hs_operand_types.specs.Conversions.{same_type}
use Rattle.hs_operands.specs.Laws.Added.{row_found}
use Rattle.hs_operand_types.specs.Types.{is_open, is_open_row}
use Rattle.hs_operand_types.specs.declared.operand_end.OperandEnd.{OperandEnd}
use Rattle.hs_operand_types.specs.declared.operand_end.OperandEnd.TheVariants as end
use Rattle.hs_syntax.specs.Positions.{position_of}
use Rattle.hs_syntax.specs.Trees as syntax
use Rattle.hs_syntax.specs.Trees.{Expression, Initialising}
use Rattle.hs_tokens.specs.declared.place.Place.{Place}
use Rattle.hs_tree.specs.Kinds.{number_kind, is_number, is_pointer, is_readable}
use Rattle.hs_tree.specs.Trees as tree
use Rattle.hs_tree.specs.Trees.{RightValue, type_of}
use Rattle.hs_tree.specs.declared.constant.Part.{Part}
use Rattle.hs_typer.specs.Declarators.{untyped_end}
use Rattle.hs_typer.specs.Steps.{Step, then_with, ◌>>=◌, give, kept, with_types, lifted, of_types, on_types}
use Rattle.hs_typer.specs.declared.type_error.TypeError.{TypeError}
use Rattle.hs_typer.specs.declared.typer.Typer.{Typer}
use Rattle.hs_types.specs.Layouts.{array_layout}
use Rattle.hs_types.specs.TypeTables.{TypeTable, Grows, row_of, layout_in, layout_of, is_complete, row_of_layout, row_of_element, with_result, arrayed, with_row, id_of}
use Rattle.hs_types.specs.declared.layout.Layout.{Layout}
use Rattle.hs_types.specs.declared.row.Row.{Row}
use Rattle.hs_types.specs.declared.row.Row.TheVariants as row
use Rattle.hs_types.specs.declared.row.TypeId.{TypeId}
use Rattle.hs_types.specs.declared.types.TypeEnd.{TypeEnd}

-- an object of the type may have an initialiser
abbrev pub MayStart : TypeTable → TypeId → Type 0
MayStart types id = (is_complete types id || is_open types id) ≡ true

-- an array of unknown length
pub open_row : (it : Option Row) → is_open_row it ≡ true → (of : TypeId) × (it ≡ Some (row.OpenArray of))
open_row None is = absurd cc
open_row (Some row.Void) is = absurd cc
open_row (Some (row.Integer kind)) is = absurd cc
open_row (Some (row.Pointer of)) is = absurd cc
open_row (Some (row.Enumeration number)) is = absurd cc
open_row (Some (row.Struct number)) is = absurd cc
open_row (Some (row.Array of size layout)) is = absurd cc
open_row (Some (row.OpenArray of)) is = (of, refl)
open_row (Some (row.Function result list)) is = absurd cc

-- one of both
either_of : (one other : Bool) → (one || other) ≡ true → (one ≡ false → other ≡ true)
either_of true other is fails = absurd cc
either_of false other is fails = is

-- which stays so
may_start_by : (old new : TypeTable) (id : TypeId) (b : Bool) → Grows old new → is_complete old id ≡ b → MayStart old id → MayStart new id
may_start_by old new id true grows whole is = rw (whole_stays old new id grows whole) refl
may_start_by old new id false grows whole is =
    let opened = open_row (row_of old id) (either_of (is_complete old id) (is_open old id) is whole) in
    let later : row_of new id ≡ Some (row.OpenArray opened.0) = grows.rows id.number (row.OpenArray opened.0) opened.1 in
    rw later refl

pub may_start_stays : (old new : TypeTable) (id : TypeId) → Grows old new → MayStart old id → MayStart new id
may_start_stays old new id grows is = may_start_by old new id (is_complete old id) grows refl is

-- ---- arrays whose length is known then

-- a new array is complete
array_whole : (of : TypeId) (count : ℕ) (types : TypeTable) (layout : Layout)
    → IsWhole (with_row (row.Array of count layout) types) (id_of (row.Array of count layout) types)
array_whole of count types layout = rw (row_found (row.Array of count layout) types) refl

WholeType : Result (TypeId × TypeTable) TypeEnd → Type 0
WholeType (Ok p) = IsWhole p.1 p.0
WholeType (Err why) = Unit {0}

laid_whole : (of : TypeId) (count : ℕ) (types : TypeTable) (layout : Option Layout) → WholeType (with_result types (row_of_layout of count layout))
unfolding WholeType
laid_whole of count types None = tt
laid_whole of count types (Some layout) = array_whole of count types layout

arrayed_whole : (of : TypeId) (count : ℕ) (types : TypeTable) (element : Option Layout) → WholeType (with_result types (row_of_element of count element))
unfolding WholeType
arrayed_whole of count types None = tt
arrayed_whole of count types (Some element) = laid_whole of count types (array_layout count element)

-- the type of an object after its initialiser
WholeSized : Result (TypeId × TypeTable) TypeError → Type 0
WholeSized (Ok p) = IsWhole p.1 p.0
WholeSized (Err why) = Unit {0}

ended_whole : (at : Place) (given : Result (TypeId × TypeTable) TypeEnd) → WholeType given → WholeSized (untyped_end at given)
unfolding WholeType WholeSized
ended_whole at (Ok p) is = is
ended_whole at (Err why) is = tt

sized_by_whole : (at : Place) (id : TypeId) (count : ℕ) (types : TypeTable) (it : Option Row) → row_of types id ≡ it
    → (is_some (layout_in types it) || is_open_row it) ≡ true → WholeSized (sized_by at id count it types)
unfolding WholeSized
sized_by_whole at id count types None same is = absurd cc
sized_by_whole at id count types (Some row.Void) same is = absurd cc
sized_by_whole at id count types (Some (row.Integer kind)) same is = rw same refl
sized_by_whole at id count types (Some (row.Pointer of)) same is = rw same refl
sized_by_whole at id count types (Some (row.Enumeration number)) same is = rw same (or_false _ is)
sized_by_whole at id count types (Some (row.Struct number)) same is = rw same (or_false _ is)
sized_by_whole at id count types (Some (row.Array of size layout)) same is = rw same refl
sized_by_whole at id count types (Some (row.OpenArray of)) same is =
    ended_whole at (arrayed of count types) (arrayed_whole of count types (layout_of types of))
sized_by_whole at id count types (Some (row.Function result list)) same is = absurd cc

sized_whole : (at : Place) (id : TypeId) (count : ℕ) (types : TypeTable) → MayStart types id → WholeSized (sized at id count types)
sized_whole at id count types is = sized_by_whole at id count types (row_of types id) refl is

-- ---- steps that give a type first

abbrev pub WholeGiven : {A : Type 0} → Result ((TypeId × A) × Typer) TypeError → Type 0
WholeGiven (Ok p) = IsWhole p.1.types p.0.0
WholeGiven (Err why) = Unit {0}

abbrev WholeStep : {A : Type 0} → TypeId → Step (TypeId × A) → Type 0
WholeStep id step = (s : Typer) → IsScoped s → MayStart s.types id → WholeGiven (step s)

-- after another step
given_whole : {A B : Type 0} → (id : TypeId) (next : A → Step (TypeId × B)) (s : Typer) (given : Result (A × Typer) TypeError) → IsScoped s
    → MayStart s.types id → Reaching IsConstant s given → ((it : A) → WholeStep id (next it)) → WholeGiven (then_with next given)
given_whole id next s (Ok p) scoped may reached after =
    after p.0 p.1 (scoped_after IsConstant s p.1 reached scoped) (may_start_stays s.types p.1.types id reached.types may)
given_whole id next s (Err why) scoped may reached after = tt

then_whole : {A B : Type 0} → (id : TypeId) (first : Step A) (next : A → Step (TypeId × B)) → Always IsConstant first → ((it : A) → WholeStep id (next it))
    → WholeStep id (first >>= next)
then_whole id first next before after = λ s scoped may. given_whole id next s (first s) scoped may (before.from s scoped) after

-- with the type that the initialiser gives
given_sized : {A : Type 0} → (more : A) (s : Typer) (given : Result (TypeId × TypeTable) TypeError) → WholeSized given
    → WholeGiven (then_with (λ made. give (made, more)) (with_types s given))
unfolding WholeSized
given_sized more s (Ok p) is = is
given_sized more s (Err why) is = tt

sized_then : {A : Type 0} → (at : Place) (id : TypeId) (count : ℕ) (more : A)
    → WholeStep id (on_types (sized at id count) >>= (λ made. give (made, more)))
sized_then at id count more = λ s scoped may. given_sized more s (sized at id count s.types) (sized_whole at id count s.types may)

initialised_whole : (at : Place) (id : TypeId) (it : Initialising) → WholeStep id (initialised at id it)
initialised_whole at id (syntax.value e) =
    then_whole id (alone id e) (λ its. on_types (sized at id (length its)) >>= (λ made. give (made, its))) (alone_always id e)
    (λ its. sized_then at id (length its) its)
initialised_whole at id (syntax.list brace its comma) =
    then_whole id (braced at (all_of id) [] its) (λ filled. on_types (sized at id (count_begun filled.1)) >>= (λ made. give (made, filled.0)))
    (braced_always at (all_of id) [] its) (λ filled. sized_then at id (count_begun filled.1) filled.0)

-- with constants
given_constant : (given : Result ((TypeId × List Part) × Typer) TypeError) → WholeGiven given → WholeGiven (then_with (λ p. give (with_parts p)) given)
given_constant (Ok p) is = is
given_constant (Err why) is = tt

constant_whole : (at : Place) (id : TypeId) (it : Initialising) → WholeStep id (constant_start at id it)
constant_whole at id it = λ s scoped may. given_constant (initialised at id it s) (initialised_whole at id it s scoped may)

-- nothing is assigned to an array of unknown length
not_same : (one : Bool) (types : TypeTable) (at : Place) (id of : TypeId) (e : RightValue) → row_of types id ≡ Some (row.OpenArray of)
    → (if one && is_readable types id then Ok e
    else if is_pointer types id then assigned_pointer types at id e
    else assigned_number at id (number_kind types id) (is_number types (type_of e)) e)
    ≡ Err (end.Untyped at)
not_same true types at id of e is = rw is refl
not_same false types at id of e is = rw is refl

not_assigned : (types : TypeTable) (at : Place) (id of : TypeId) (e : RightValue) → row_of types id ≡ Some (row.OpenArray of)
    → assigned types at id e ≡ Err (end.Untyped at)
not_assigned types at id of e is = not_same (same_type (type_of e) id) types at id of e is

-- of a value
given_assigned : (id : TypeId) (s : Typer) (at : Place) (e : RightValue) (b : Bool) → is_complete s.types id ≡ b → MayStart s.types id
    → (given : Result RightValue OperandEnd) → assigned s.types at id e ≡ given
    → WholeGiven (then_with (λ made. give (id, tree.value made)) (kept s (lifted given)))
given_assigned id s at e true whole may (Ok it) is = whole
given_assigned id s at e false fails may (Ok it) is =
    let opened = open_row (row_of s.types id) (either_of (is_complete s.types id) (is_open s.types id) may fails) in
    absurd (ok_err it (sym is ∙ not_assigned s.types at id opened.0 e opened.1))
  where
    ok_err : (it : RightValue) → ◌≡◌ {A = Result RightValue OperandEnd} (Ok it) (Err (end.Untyped at)) → ⊥
    ok_err it same = cc
given_assigned id s at e b is may (Err why) same = tt

assigned_whole : (id : TypeId) (e : Expression) → WholeStep id (assigned_start id e)
assigned_whole id e =
    then_whole id (value_of (typed e))
    (λ its. of_types (λ types. lifted (assigned types (position_of e) id its)) >>= (λ made. give (id, tree.value made)))
    (value_always (typed_always e))
    (λ its. λ s scoped may. given_assigned id s (position_of e) its (is_complete s.types id) refl may (assigned s.types (position_of e) id its) refl)

started_by : (at : Place) (id : TypeId) (e : Expression) (b : Bool) (s : Typer) → IsScoped s → MayStart s.types id
    → WholeGiven (if b then constant_start at id (syntax.value e) s else assigned_start id e s)
started_by at id e true s scoped may = constant_whole at id (syntax.value e) s scoped may
started_by at id e false s scoped may = assigned_whole id e s scoped may

-- the type of an automatic object after its initialiser
pub starting_whole : (at : Place) (id : TypeId) (it : Initialising) (s : Typer) → IsScoped s → MayStart s.types id → WholeGiven (starting at id it s)
starting_whole at id (syntax.value e) s scoped may = started_by at id e (is_string e && is_some (text_kind s.types id)) s scoped may
starting_whole at id (syntax.list brace its comma) s scoped may = constant_whole at id (syntax.list brace its comma) s scoped may
