-- The end of a translation unit: what was claimed stays claimed, and the declarations of routines are looked at once more (X3.159-1989 3.7).
--     Onward its m later n          from one place of the text to a later one, in this unit or another
--     stands_ended                  at the beginning of the next unit
--     signed_ended                  the types of routines are known whole
--     unit_before                   functions of earlier units have their numbers
use Rattle.std.proofs.Common.{◌≡◌, ◌<◌, ◌≤◌, ◌⊎◌, inl, inr, ℕ, zero, suc, ◌+◌, true, List, [], ◌∷◌, ◌++◌, length, slice_get, Option, Some, None, refl, sym, ap, subst, ◌∙◌, arith}
use Rattle.std.specs.Prelude.{◌==◌}
use Rattle.std.specs.List.{AllByRecursion}
use Rattle.std.proofs.lemmas.Option.{slice_get_within}
use Rattle.hs_base.specs.Options.{some_same}
use Rattle.hs_base.specs.Entries.{all_appended, all_so, all_by_both, all_at}
use Rattle.hs_expressions.specs.Binding.{IsList}
use Rattle.hs_expressions.specs.Binding.Calls.{same_parameters}
use Rattle.hs_fitting.specs.Claims.{Claims, IsTypedIn, IsSigned, IsRoutineDeclared}
use Rattle.hs_fitting.specs.Entities.{unfit_self}
use Rattle.hs_fitting.specs.Listed.{list_stays}
use Rattle.hs_fitting.specs.Shapes.{agree_signed}
use Rattle.hs_linkage.specs.Definitions.{definitions_in, all_definitions}
use Rattle.hs_linkage.specs.Externals.{type_of_entity, unfit}
use Rattle.hs_linkage.specs.declared.definitions.Definition.{Definition}
use Rattle.hs_linkage.specs.declared.externals.External.{External}
use Rattle.hs_linkage.specs.declared.translator.Translator.{Translator}
use Rattle.hs_operand_types.specs.declared.operand.Bound.{Bound}
use Rattle.hs_syntax.specs.Trees as syntax
use Rattle.hs_syntax.specs.Trees.{ExternalDeclaration}
use Rattle.hs_table.specs.declared.routine.Routine.{Routine}
use Rattle.hs_tree.specs.Kinds.{of_function, category_of_row, category_of}
use Rattle.hs_tree.specs.Trees.{TypedProgram}
use Rattle.hs_typer.specs.Origins.{agree}
use Rattle.hs_typer.specs.declared.typer.Entity.{Entity}
use Rattle.hs_typer.specs.declared.typer.Entity.TheVariants as entity
use Rattle.hs_types.specs.TypeTables.{TypeTable, Grows, row_of}
use Rattle.hs_types.specs.declared.row.ListId.{ListId}
use Rattle.hs_types.specs.declared.row.Parameters.TheVariants.{Empty, More}
use Rattle.hs_types.specs.declared.row.Row.{Row}
use Rattle.hs_types.specs.declared.row.Row.TheVariants as row
use Rattle.hs_types.specs.declared.row.TypeId.{TypeId}

-- ---- routines

-- a type of functions
pub function_row : (o : Option Row) → category_of_row o ≡ Some of_function → (result : TypeId) × ((list : ListId) × (o ≡ Some (row.Function result list)))
function_row None is = absurd cc
function_row (Some row.Void) is = absurd cc
function_row (Some (row.Integer kind)) is = absurd cc
function_row (Some (row.Pointer of)) is = absurd cc
function_row (Some (row.Enumeration number)) is = absurd cc
function_row (Some (row.Struct number)) is = absurd cc
function_row (Some (row.Array of size layout)) is = absurd cc
function_row (Some (row.OpenArray of)) is = absurd cc
function_row (Some (row.Function result list)) is = (result, (list, refl))

-- the list is in the table
list_within : (types : TypeTable) (list : ListId) (its : List TypeId) → IsList types list its → list.number < length types.lists
list_within types list [] is = slice_get_within types.lists list.number Empty is
list_within types list (id ∷ ids) is = slice_get_within types.lists list.number (More id is.0) is.1

shorter : (a b c : ℕ) → a ≤ b → b < c → a < c
shorter a b c is is' = omega (arith, is, is')

-- a type that agrees with itself is known whole
signed_type : (old types : TypeTable) (o : _) (id : TypeId) → Grows old types → agree old o id id ≡ true → category_of old id ≡ Some of_function
    → (result : TypeId) (list : ListId) → row_of types id ≡ Some (row.Function result list)
    → (parameters : List TypeId) × IsList types list parameters × (length parameters < length types.lists)
signed_type old types o id grows agrees is result list same =
    let found = function_row (row_of old id) is in
    let one = agree_signed old o id agrees found.0 found.1.0 found.1.1 in
    let here : IsList types found.1.0 one.0 = list_stays old types grows found.1.0 one.0 one.1 in
    let one_list : found.1.0 ≡ list
    = same_parameters (row_of types id) found.0 result found.1.0 list (grows.rows id.number (row.Function found.0 found.1.0) found.1.1) same in (
      one.0,
      subst (λ list. IsList types list one.0) one_list here,
      shorter (length one.0) found.1.0.number (length types.lists) one.2 (list_within types found.1.0 one.0 here),
    )

-- a function's type
typed_function : (types : TypeTable) (it : Entity) → IsTypedIn types it → (id : TypeId) → type_of_entity it ≡ Some id
    → ((its : TypeId) (to : Bound) → it ≡ entity.Function its to → category_of types id ≡ Some of_function)
typed_function types (entity.Constant bits) typed id is its to same = absurd cc
typed_function types (entity.Variable variable other) typed id is its to same = absurd cc
typed_function types (entity.Function other to') typed id is its to same =
    subst (λ id. category_of types id ≡ Some of_function) (some_same other id is) typed
typed_function types (entity.Typedef other) typed id is its to same = absurd cc

-- so is that of a routine
routine_function : (table : List Routine) (name : List ℕ) (it : Entity) → Rattle.hs_fitting.specs.Claims.IsRoutineOf table name it
    → (its : TypeId) × ((to : Bound) × (it ≡ entity.Function its to))
routine_function table name (entity.Constant bits) is = absurd is
routine_function table name (entity.Variable variable id) is = absurd is
routine_function table name (entity.Function id to) is = (id, (to, refl))
routine_function table name (entity.Typedef id) is = absurd is

module _ (program : TypedProgram) (its : Claims) (m : Translator) (grows : Grows m.typer.types program.types) where
  -- all declarations of routines are known whole
  pub signed_ended : AllByRecursion (IsRoutineDeclared program.types its m) m.routines
      → unfit m.typer.types m.typer.origins m.routines m.routines ≡ None → AllByRecursion (IsSigned program.types) m.routines
  signed_ended are fits =
      all_by_both (IsRoutineDeclared program.types its m)
      (λ it. (it.unit == m.typer.origins.unit) ≡ true → (id : TypeId) → type_of_entity it.entity ≡ Some id
      → agree m.typer.types m.typer.origins id id ≡ true) (IsSigned program.types) (λ it is agrees. one it is is.signed agrees) m.routines are
      (unfit_self m.typer.types m.typer.origins m.routines fits)
    where
      one : (it : External) → IsRoutineDeclared program.types its m it → ((it.unit == m.typer.origins.unit) ≡ true) ⊎ IsSigned program.types it
          → ((it.unit == m.typer.origins.unit) ≡ true → (id : TypeId) → type_of_entity it.entity ≡ Some id
          → agree m.typer.types m.typer.origins id id ≡ true) → IsSigned program.types it
      one it is (inr signed) agrees = signed
      one it is (inl here) agrees = λ id same result list found.
          let kind = routine_function m.typer.table it.name it.entity is.routine in
          signed_type m.typer.types program.types m.typer.origins id grows (agrees here id same)
          (typed_function m.typer.types it.entity is.typed id same kind.0 kind.1.0 kind.1.1) result list found

-- ---- numbers of functions

-- one less
pub lower : (a b : ℕ) → suc a < suc b → a < b
lower a b is = omega (arith, is)

-- the first ones of a list
first_ones : {A : Type 0} → (xs ys : List A) (n : ℕ) (it : A) → n < length xs → slice_get (xs ++ ys) n ≡ Some it → slice_get xs n ≡ Some it
first_ones [] ys n it less at = absurd (grind (arith, less))
first_ones (x ∷ xs) ys zero it less at = at
first_ones (x ∷ xs) ys (suc n) it less at = first_ones xs ys n it (lower n (length xs) less) at

-- units before a number
all_below_in : (number : ℕ) (unit its : List ExternalDeclaration) → AllByRecursion (λ it. it.unit < suc number) (definitions_in number unit its)
all_below_in number unit [] = tt
all_below_in number unit (syntax.function_definition words it body ∷ rest) = (next number, all_below_in number unit rest)
  where
    next : (n : ℕ) → n < suc n
    next n = omega arith
all_below_in number unit (syntax.declaration it ∷ rest) = all_below_in number unit rest

all_below : (number : ℕ) (units : List (List ExternalDeclaration)) → AllByRecursion (λ it. it.unit < number + length units) (all_definitions number units)
all_below number [] = tt
all_below number (unit ∷ units) =
    all_appended (λ it. it.unit < number + suc (length units)) (definitions_in number unit unit) (all_definitions (suc number) units)
    (all_so (λ it. it.unit < suc number) (λ it. it.unit < number + suc (length units)) (λ it is. more it.unit number (length units) is)
    (definitions_in number unit unit) (all_below_in number unit unit))
    (all_so (λ it. it.unit < suc number + length units) (λ it. it.unit < number + suc (length units)) (λ it is. other it.unit number (length units) is)
    (all_definitions (suc number) units) (all_below (suc number) units))
  where
    more : (a b c : ℕ) → a < suc b → a < b + suc c
    more a b c is = omega (arith, is)

    other : (a b c : ℕ) → a < suc b + c → a < b + suc c
    other a b c is = omega (arith, is)

pub unit_before : (units before after : List (List ExternalDeclaration)) → units ≡ before ++ after → (number : ℕ) (it : Definition)
    → number < length (all_definitions 0 before) → slice_get (all_definitions 0 units) number ≡ Some it → it.unit < length before
unit_before units before after are number it less at =
    none_more it.unit (length before)
    (all_at (λ it. it.unit < 0 + length before) (all_definitions 0 before) number it (all_below 0 before)
    (first_ones (all_definitions 0 before) (all_definitions (0 + length before) after) number it less
    (subst (λ all. slice_get all number ≡ Some it) (ap (all_definitions 0) are ∙ all_appended_units before after) at)))
  where
    none_more : (a b : ℕ) → a < 0 + b → a < b
    none_more a b is = omega (arith, is)

    all_appended_units : (before after : List (List ExternalDeclaration))
        → all_definitions 0 (before ++ after) ≡ all_definitions 0 before ++ all_definitions (0 + length before) after
    all_appended_units before after = all_from 0 before
      where
        plus : (a b : ℕ) → suc a + b ≡ a + suc b
        plus a b = omega arith

        none : (a : ℕ) → a ≡ a + 0
        none a = omega arith

        all_from : (number : ℕ) (before : List (List ExternalDeclaration))
            → all_definitions number (before ++ after) ≡ all_definitions number before ++ all_definitions (number + length before) after
        all_from number [] = ap (λ n. all_definitions n after) (none number)
        all_from number (unit ∷ before) =
            ap (λ all. definitions_in number unit unit ++ all)
            (all_from (suc number) before ∙ ap (λ n. all_definitions (suc number) before ++ all_definitions n after) (plus number (length before)))
            ∙ sym (Rattle.std.proofs.lemmas.List.append_assoc (definitions_in number unit unit) (all_definitions (suc number) before)
            (all_definitions (number + suc (length before)) after))
