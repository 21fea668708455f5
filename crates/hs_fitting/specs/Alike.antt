-- The type of an object after its initialiser is of the same category, and the same one if it was complete (X3.159-1989 3.5.7).
--     AlikeGiven start id given       the type that is given first
--     initialised_alike, starting_alike
use Rattle.std.proofs.Common.{◌≡◌, ℕ, Bool, true, false, ◌&&◌, List, [], length, Option, Some, None, is_some, Result, Ok, Err, refl, sym, ap, ◌∙◌, if◌then◌else◌}
use Rattle.hs_expressions.specs.Expressions.{typed}
use Rattle.hs_expressions.specs.Laws.{IsConstant, IsScoped}
use Rattle.hs_expressions.specs.Laws.Always.{Always, Reaching, value_always}
use Rattle.hs_expressions.specs.Laws.Extending.{typed_always}
use Rattle.hs_expressions.specs.Laws.Grown.{Growing, arrayed_grows}
use Rattle.hs_expressions.specs.Laws.Reached.{scoped_after}
use Rattle.hs_expressions.specs.Operations.{value_of}
use Rattle.hs_fitting.specs.Initialising.{alone_always, braced_always}
use Rattle.hs_fitting.specs.Moves.{IsWhole, whole_stays}
use Rattle.hs_fitting.specs.Scalars.{open_not_whole}
use Rattle.hs_aggregates.specs.Aggregates.{text_kind, count_begun}
use Rattle.hs_initialisers.specs.Initialisers.{is_string, braced, all_of, sized_by, sized, alone, initialised, assigned_start, constant_start, starting, with_parts}
use Rattle.hs_operands.specs.Assignments.{assigned}
use Rattle.hs_operands.specs.Laws.Added.{row_found}
use Rattle.hs_operand_types.specs.declared.operand_end.OperandEnd.{OperandEnd}
use Rattle.hs_syntax.specs.Positions.{position_of}
use Rattle.hs_syntax.specs.Trees as syntax
use Rattle.hs_syntax.specs.Trees.{Expression, Initialising}
use Rattle.hs_tokens.specs.declared.place.Place.{Place}
use Rattle.hs_tree.specs.Kinds.{category_of_row, category_of}
use Rattle.hs_tree.specs.Trees as tree
use Rattle.hs_tree.specs.Trees.{RightValue}
use Rattle.hs_tree.specs.declared.constant.Part.{Part}
use Rattle.hs_typer.specs.Declarators.{untyped_end}
use Rattle.hs_typer.specs.Steps.{Step, then_with, ◌>>=◌, give, kept, with_types, lifted, of_types, on_types}
use Rattle.hs_typer.specs.declared.type_error.TypeError.{TypeError}
use Rattle.hs_typer.specs.declared.typer.Typer.{Typer}
use Rattle.hs_types.specs.Growing.{grows_self, grows_then}
use Rattle.hs_types.specs.Layouts.{array_layout}
use Rattle.hs_types.specs.TypeTables.{TypeTable, Grows, row_of, layout_of, row_of_layout, row_of_element, with_result, arrayed, with_row, id_of}
use Rattle.hs_types.specs.declared.layout.Layout.{Layout}
use Rattle.hs_types.specs.declared.row.Row.{Row}
use Rattle.hs_types.specs.declared.row.Row.TheVariants as row
use Rattle.hs_types.specs.declared.row.TypeId.{TypeId}
use Rattle.hs_types.specs.declared.types.TypeEnd.{TypeEnd}

-- of the same category, and the same one if it was complete before
abbrev pub IsAlike : TypeTable → TypeId → TypeTable → TypeId → Type 0
IsAlike start id later made = (category_of later made ≡ category_of later id) × (IsWhole start id → made ≡ id)

-- the type that is given first
abbrev pub AlikeGiven : {A : Type 0} → TypeTable → TypeId → Result ((TypeId × A) × Typer) TypeError → Type 0
AlikeGiven start id (Ok p) = IsAlike start id p.1.types p.0.0
AlikeGiven start id (Err why) = Unit {0}

-- from where the table has grown from that one
abbrev AlikeStep : {A : Type 0} → TypeTable → TypeId → Step (TypeId × A) → Type 0
AlikeStep start id step = (s : Typer) → IsScoped s → Grows start s.types → AlikeGiven start id (step s)

-- ---- the type of the object

-- a new array, and one whose length was not known
AlikeSized : TypeTable → TypeId → Result (TypeId × TypeTable) TypeError → Type 0
AlikeSized start id (Ok p) = IsAlike start id p.1 p.0
AlikeSized start id (Err why) = Unit {0}

MadeAlike : TypeTable → TypeTable → TypeId → Result (TypeId × TypeTable) TypeEnd → Type 0
MadeAlike start types id (Ok p) = Grows types p.1 → IsAlike start id p.1 p.0
MadeAlike start types id (Err why) = Unit {0}

module _ (start : TypeTable) (id of : TypeId) (types : TypeTable) (grows : Grows start types) (same : row_of types id ≡ Some (row.OpenArray of)) where
  laid_alike : (count : ℕ) (layout : Option Layout) → MadeAlike start types id (with_result types (row_of_layout of count layout))
  unfolding MadeAlike
  laid_alike count None = tt
  laid_alike count (Some layout) =
      λ further.
      let new : category_of (with_row (row.Array of count layout) types) (id_of (row.Array of count layout) types) ≡ category_of_row (Some (row.OpenArray of)) =
      ap category_of_row (row_found (row.Array of count layout) types) in
      let old : category_of (with_row (row.Array of count layout) types) id ≡ category_of_row (Some (row.OpenArray of)) =
      ap category_of_row (further.rows id.number (row.OpenArray of) same) in
      (new ∙ sym old, λ whole. absurd (open_not_whole types id of (whole_stays start types id grows whole) same))

  arrayed_alike : (count : ℕ) (element : Option Layout) → MadeAlike start types id (with_result types (row_of_element of count element))
  unfolding MadeAlike
  arrayed_alike count None = tt
  arrayed_alike count (Some element) = laid_alike count (array_layout count element)

  ended_alike : (at : Place) (given : Result (TypeId × TypeTable) TypeEnd) → MadeAlike start types id given → Growing types given
      → AlikeSized start id (untyped_end at given)
  unfolding MadeAlike AlikeSized
  ended_alike at (Ok p) is further = is further.0
  ended_alike at (Err why) is further = tt

sized_by_alike : (start : TypeTable) (at : Place) (id : TypeId) (count : ℕ) (types : TypeTable) (it : Option Row) → Grows start types
    → row_of types id ≡ it → AlikeSized start id (sized_by at id count it types)
unfolding AlikeSized
sized_by_alike start at id count types None grows same = (refl, λ whole. refl)
sized_by_alike start at id count types (Some row.Void) grows same = (refl, λ whole. refl)
sized_by_alike start at id count types (Some (row.Integer kind)) grows same = (refl, λ whole. refl)
sized_by_alike start at id count types (Some (row.Pointer of)) grows same = (refl, λ whole. refl)
sized_by_alike start at id count types (Some (row.Enumeration number)) grows same = (refl, λ whole. refl)
sized_by_alike start at id count types (Some (row.Struct number)) grows same = (refl, λ whole. refl)
sized_by_alike start at id count types (Some (row.Array of size layout)) grows same = (refl, λ whole. refl)
sized_by_alike start at id count types (Some (row.OpenArray of)) grows same =
    ended_alike start id of types grows same at (arrayed of count types) (arrayed_alike start id of types grows same count (layout_of types of))
    (arrayed_grows of count types)
sized_by_alike start at id count types (Some (row.Function result list)) grows same = (refl, λ whole. refl)

sized_alike : (start : TypeTable) (at : Place) (id : TypeId) (count : ℕ) (types : TypeTable) → Grows start types
    → AlikeSized start id (sized at id count types)
sized_alike start at id count types grows = sized_by_alike start at id count types (row_of types id) grows refl

-- ---- steps

-- after another step
given_alike : {A B : Type 0} → (start : TypeTable) (id : TypeId) (next : A → Step (TypeId × B)) (s : Typer) (given : Result (A × Typer) TypeError)
    → IsScoped s → Grows start s.types → Reaching IsConstant s given → ((it : A) → AlikeStep start id (next it))
    → AlikeGiven start id (then_with next given)
given_alike start id next s (Ok p) scoped grows reached after =
    after p.0 p.1 (scoped_after IsConstant s p.1 reached scoped) (grows_then start s.types p.1.types grows reached.types)
given_alike start id next s (Err why) scoped grows reached after = tt

then_alike : {A B : Type 0} → (start : TypeTable) (id : TypeId) (first : Step A) (next : A → Step (TypeId × B)) → Always IsConstant first
    → ((it : A) → AlikeStep start id (next it)) → AlikeStep start id (first >>= next)
then_alike start id first next before after = λ s scoped grows. given_alike start id next s (first s) scoped grows (before.from s scoped) after

-- with the type that the initialiser gives
given_sized : {A : Type 0} → (start : TypeTable) (id : TypeId) (more : A) (s : Typer) (given : Result (TypeId × TypeTable) TypeError)
    → AlikeSized start id given → AlikeGiven start id (then_with (λ made. give (made, more)) (with_types s given))
unfolding AlikeSized
given_sized start id more s (Ok p) is = is
given_sized start id more s (Err why) is = tt

sized_then : {A : Type 0} → (start : TypeTable) (at : Place) (id : TypeId) (count : ℕ) (more : A)
    → AlikeStep start id (on_types (sized at id count) >>= (λ made. give (made, more)))
sized_then start at id count more =
    λ s scoped grows. given_sized start id more s (sized at id count s.types) (sized_alike start at id count s.types grows)

initialised_by : (start : TypeTable) (at : Place) (id : TypeId) (it : Initialising) → AlikeStep start id (initialised at id it)
initialised_by start at id (syntax.value e) =
    then_alike start id (alone id e) (λ its. on_types (sized at id (length its)) >>= (λ made. give (made, its))) (alone_always id e)
    (λ its. sized_then start at id (length its) its)
initialised_by start at id (syntax.list brace its comma) =
    then_alike start id (braced at (all_of id) [] its) (λ filled. on_types (sized at id (count_begun filled.1)) >>= (λ made. give (made, filled.0)))
    (braced_always at (all_of id) [] its) (λ filled. sized_then start at id (count_begun filled.1) filled.0)

-- with constants
given_constant : (start : TypeTable) (id : TypeId) (given : Result ((TypeId × List Part) × Typer) TypeError) → AlikeGiven start id given
    → AlikeGiven start id (then_with (λ p. give (with_parts p)) given)
given_constant start id (Ok p) is = is
given_constant start id (Err why) is = tt

constant_by : (start : TypeTable) (at : Place) (id : TypeId) (it : Initialising) → AlikeStep start id (constant_start at id it)
constant_by start at id it =
    λ s scoped grows. given_constant start id (initialised at id it s) (initialised_by start at id it s scoped grows)

-- of a value
given_assigned : (start : TypeTable) (id : TypeId) (s : Typer) (given : Result RightValue OperandEnd)
    → AlikeGiven start id (then_with (λ made. give (id, tree.value made)) (kept s (lifted given)))
given_assigned start id s (Ok it) = (refl, λ whole. refl)
given_assigned start id s (Err why) = tt

assigned_by : (start : TypeTable) (id : TypeId) (e : Expression) → AlikeStep start id (assigned_start id e)
assigned_by start id e =
    then_alike start id (value_of (typed e))
    (λ its. of_types (λ types. lifted (assigned types (position_of e) id its)) >>= (λ made. give (id, tree.value made)))
    (value_always (typed_always e)) (λ its. λ s scoped grows. given_assigned start id s (assigned s.types (position_of e) id its))

started_by : (start : TypeTable) (at : Place) (id : TypeId) (e : Expression) (b : Bool) (s : Typer) → IsScoped s → Grows start s.types
    → AlikeGiven start id (if b then constant_start at id (syntax.value e) s else assigned_start id e s)
started_by start at id e true s scoped grows = constant_by start at id (syntax.value e) s scoped grows
started_by start at id e false s scoped grows = assigned_by start id e s scoped grows

-- the type of an object after its initialiser
pub initialised_alike : (at : Place) (id : TypeId) (it : Initialising) (s : Typer) → IsScoped s → AlikeGiven s.types id (initialised at id it s)
initialised_alike at id it s scoped = initialised_by s.types at id it s scoped (grows_self s.types)

-- and of an automatic object
pub starting_alike : (at : Place) (id : TypeId) (it : Initialising) (s : Typer) → IsScoped s → AlikeGiven s.types id (starting at id it s)
starting_alike at id (syntax.value e) s scoped =
    started_by s.types at id e (is_string e && is_some (text_kind s.types id)) s scoped (grows_self s.types)
starting_alike at id (syntax.list brace its comma) s scoped =
    constant_by s.types at id (syntax.list brace its comma) s scoped (grows_self s.types)
