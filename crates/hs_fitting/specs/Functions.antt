-- What every function keeps that the units of a program define.
--     FunctionsStand                      `break`, `continue` and labels are where they may be
--     units_always                        what each body keeps, the functions of all units keep
use Rattle.std.proofs.Common.{List, [], ◌∷◌, ◌++◌, ℕ, false, length, Option, Some, None, IsTrue}
use Rattle.std.specs.List.{AllByRecursion}
use Rattle.hs_declarations.specs.declared.fronts.Front.{Front}
use Rattle.hs_declarations.specs.Fronts.{front, storage_place}
use Rattle.hs_expressions.specs.Expressions.{first_place}
use Rattle.hs_fitting.specs.Places.{body_stands}
use Rattle.hs_fitting.specs.Works.{Given, Always, passes_always, stops_always, then_always, next_always}
use Rattle.hs_functions.specs.Functions.{defined, defined_at, defined_said, defined_by, defined_of, defined_with, brace_of, parameters_of, may_store, may_give, is_only, parameters_in, counts, finished}
use Rattle.hs_functions.specs.Opening.{opened_type, named_outside}
use Rattle.hs_functions.specs.Units.{declared_if, place_of_declaration, external, with_function, externals, unit_ended, unit_of, units_of}
use Rattle.hs_linkage.specs.Definitions.{all_definitions}
use Rattle.hs_linkage.specs.Linkage.{link, may_name, rechecked}
use Rattle.hs_linkage.specs.Works.{before_units, typing}
use Rattle.hs_statements.specs.Statements.{body_of}
use Rattle.hs_syntax.specs.Trees as syntax
use Rattle.hs_syntax.specs.Trees.{Declared, ExternalDeclaration, Parameters, Specification, Compound}
use Rattle.hs_syntax.specs.declared.word.Word.{Word}
use Rattle.hs_table.specs.declared.routine.Routine.{Routine}
use Rattle.hs_tokens.specs.declared.place.Place.{Place}
use Rattle.hs_tree.specs.Fitting.{block_may_stand}
use Rattle.hs_tree.specs.Trees.{TypedBlock, TypedFunction}
use Rattle.hs_typer.specs.Declarators.{word_of}
use Rattle.hs_types.specs.declared.row.ListId.{ListId}
use Rattle.hs_types.specs.declared.row.Row.{Row}
use Rattle.hs_types.specs.declared.row.Row.TheVariants as row
use Rattle.hs_types.specs.declared.row.TypeId.{TypeId}

-- a fact of each of the functions, and of one more
all_and : (holds : TypedFunction → Type 0) (done : List TypedFunction) (it : TypedFunction) → AllByRecursion holds done → holds it
    → AllByRecursion holds (done ++ it ∷ [])
all_and holds [] it before is = (is, tt)
all_and holds (other ∷ done) it before is = (before.0, all_and holds done it before.1 is)

-- of one, if there is one
abbrev IfDefined : (TypedFunction → Type 0) → Option TypedFunction → Type 0
IfDefined holds None = Unit {0}
IfDefined holds (Some it) = holds it

with_one : (holds : TypedFunction → Type 0) (done : List TypedFunction) (it : Option TypedFunction) → AllByRecursion holds done → IfDefined holds it
    → AllByRecursion holds (with_function done it)
with_one holds done None before is = before
with_one holds done (Some it) before is = all_and holds done it before is

module _ (holds : TypedBlock → Type 0) (bodies : (id : TypeId) (it : Compound) → Always (body_of id it) holds) where
  -- of the body of a function
  abbrev HasBody : TypedFunction → Type 0
  HasBody it = holds it.body

  finished_always : (name : List ℕ) (at : Place) (id : TypeId) (count before : ℕ) (it : TypedBlock) → holds it
      → Always (finished name at id count before it) HasBody
  finished_always name at id count before it is = record { given = λ m. is }

  with_always : (number : ℕ) (static : _) (word : Word) (them : Parameters) (id : TypeId) (body : Compound) (its : TypeId) (list : ListId)
      → Always (defined_with number static word them id body its list) HasBody
  with_always number static word them id body its list =
      next_always (may_give word its)
      (λ may. next_always (link static word id)
      (λ entity. next_always (is_only number word entity)
      (λ only. next_always (typing (named_outside word entity))
      (λ named. next_always (parameters_in word.place them list)
      (λ declared. next_always counts (λ done. then_always (bodies its body) (λ made is. finished_always word.text word.place its done.0 done.1 made is)))))))

  of_always : (number : ℕ) (static : _) (word : Word) (them : Parameters) (id : TypeId) (body : Compound) (it : Option Row)
      → Always (defined_of number static word them id body it) HasBody
  of_always number static word them id body None = stops_always HasBody _
  of_always number static word them id body (Some row.Void) = stops_always HasBody _
  of_always number static word them id body (Some (row.Integer kind)) = stops_always HasBody _
  of_always number static word them id body (Some (row.Pointer of)) = stops_always HasBody _
  of_always number static word them id body (Some (row.Enumeration tag)) = stops_always HasBody _
  of_always number static word them id body (Some (row.Struct tag)) = stops_always HasBody _
  of_always number static word them id body (Some (row.Array of length layout)) = stops_always HasBody _
  of_always number static word them id body (Some (row.OpenArray of)) = stops_always HasBody _
  of_always number static word them id body (Some (row.Function its list)) = with_always number static word them id body its list

  by_always : (number : ℕ) (at : Place) (said : Front) (it : Declared) (body : Compound) (word : Option Word) (them : Option Parameters)
      → Always (defined_by number at said it body word them) HasBody
  by_always number at said it body None them = stops_always HasBody _
  by_always number at said it body (Some word) None = stops_always HasBody _
  by_always number at said it body (Some word) (Some them) =
      next_always (may_name word)
      (λ may. next_always (typing (opened_type at said.type_id it them)) (λ id. record { given = λ m. (of_always number _ word them id body _).given m }))

  said_always : (number : ℕ) (at stored : Place) (it : Declared) (body : Compound) (said : Front)
      → Always (defined_said number at stored it body said) HasBody
  said_always number at stored it body said =
      next_always (may_store stored said.storage) (λ may. by_always number at said it body (word_of it) (parameters_of it))

  at_always : (number : ℕ) (at : Place) (words : Specification) (it : Declared) (body : Compound)
      → Always (defined_at number at words it body) HasBody
  at_always number at words it body =
      next_always (typing (front at words)) (said_always number at (storage_place at words) it body)

  -- a function definition
  pub defined_always : (number : ℕ) (words : Specification) (it : Declared) (body : Compound)
      → Always (defined number words it body) HasBody
  defined_always number words it body = at_always number (first_place (brace_of body) words) words it body

  external_always : (number : ℕ) (it : ExternalDeclaration) → Always (external number it) (IfDefined HasBody)
  external_always number (syntax.function_definition words it body) =
      then_always (defined_always number words it body) (λ its is. passes_always (IfDefined HasBody) (Some its) is)
  external_always number (syntax.declaration it) = next_always (declared_if (place_of_declaration it) it) (λ done. passes_always (IfDefined HasBody) None tt)

  externals_always : (done : List TypedFunction) (its : List ExternalDeclaration) → AllByRecursion HasBody done
      → Always (externals done its) (AllByRecursion HasBody)
  externals_always done [] before = passes_always (AllByRecursion HasBody) done before
  externals_always done (it ∷ rest) before =
      then_always (external_always (length done) it)
      (λ next is. externals_always (with_function done next) rest (with_one HasBody done next before is))

  unit_always : (done : List TypedFunction) (its : List ExternalDeclaration) → AllByRecursion HasBody done
      → Always (unit_of done its) (AllByRecursion HasBody)
  unit_always done its before =
      then_always (externals_always done its before)
      (λ all is. next_always rechecked (λ again. next_always unit_ended (λ over. passes_always (AllByRecursion HasBody) all is)))

  -- all units
  pub units_always : (done : List TypedFunction) (its : List (List ExternalDeclaration)) → AllByRecursion HasBody done
      → Always (units_of done its) (AllByRecursion HasBody)
  units_always done [] before = passes_always (AllByRecursion HasBody) done before
  units_always done (it ∷ rest) before = then_always (unit_always done it before) (λ all is. units_always all rest is)

-- in the functions of all units, `break`, `continue` and labels are where they may be
abbrev pub FunctionsStand : Type 0
FunctionsStand = (table : List Routine) (units : List (List ExternalDeclaration))
    → Given (AllByRecursion (λ it. IsTrue (block_may_stand false false false it.body))) (units_of [] units (before_units table (all_definitions 0 units)))

pub functions_stand : FunctionsStand
functions_stand table units =
    (units_always (λ block. IsTrue (block_may_stand false false false block)) body_stands [] units tt).given
    (before_units table (all_definitions 0 units))
