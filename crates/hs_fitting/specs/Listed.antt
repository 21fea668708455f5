-- A list of parameter types that was put into a table is there under its number, and stays there.
--     listed_is                 the list of these types is that of the number that is given for it
--     list_stays                it stays so as the table grows
use Rattle.std.proofs.Common.{◌≡◌, true, false, true≢false, List, [], ◌∷◌, Some, refl, sym, arith}
use Rattle.std.proofs.lemmas.Bool.Decides.{nat_tests}
use Rattle.std.specs.Prelude.{slice_get}
use Rattle.std.specs.List.{list_any}
use Rattle.hs_expressions.specs.Binding.{IsList}
use Rattle.hs_operands.specs.Laws.Added.{found_if}
use Rattle.hs_typer.specs.Declarators.{listed, listed_onto}
use Rattle.hs_types.specs.TypeTables.{TypeTable, Grows, with_list, list_id_of}
use Rattle.hs_types.specs.contracts.row.ParametersPartialEq.TheImpl as parameters_eq
use Rattle.hs_types.specs.declared.row.ListId.{ListId}
use Rattle.hs_types.specs.declared.row.Parameters.{Parameters as Listed}
use Rattle.hs_types.specs.declared.row.Parameters.TheVariants.{Empty, More}
use Rattle.hs_types.specs.declared.row.TypeId.{TypeId}
use Rattle.hs_types.specs.TableLaws.{grows_list}

-- two lists that compare as equal are one
same_listed : (a b : Listed) → (parameters_eq.ghosts).eq a b ≡ true → b ≡ a
same_listed Empty Empty same = refl
same_listed (More a list) (More b list') same =
    let numbers : b.number ≡ a.number = grind (arith, nat_tests, same) in
    let lists : list'.number ≡ list.number = grind (arith, nat_tests, same) in
    λ i.
    let id : TypeId = record { number = numbers i } in
    let its : ListId = record { number = lists i } in
    More id its
same_listed _ _ same = absurd (true≢false (sym same))

-- one entry of the lists
list_found : (list : Listed) (types : TypeTable) → slice_get (with_list list types).lists (list_id_of list types).number ≡ Some list
list_found list types =
    found_if (list_any ((parameters_eq.ghosts).eq list) types.lists) ((parameters_eq.ghosts).eq list) types.lists list (same_listed list) refl

-- the list of a number stays as the table grows
pub list_stays : (old new : TypeTable) → Grows old new → (list : ListId) (ids : List TypeId) → IsList old list ids → IsList new list ids
list_stays old new grows list [] is = grows.lists list.number Empty is
list_stays old new grows list (id ∷ ids) is =
    (is.0, grows.lists list.number (More id is.0) is.1, list_stays old new grows is.0 ids is.2)

-- in front of the empty list
onto_is : (ids : List TypeId) (p : ListId × TypeTable) → IsList p.1 p.0 [] → IsList (listed_onto ids p).1 (listed_onto ids p).0 ids
onto_is [] p is = is
onto_is (id ∷ ids) p is =
    let rest : ListId × TypeTable = listed_onto ids p in (
      rest.0,
      list_found (More id rest.0) rest.1,
      list_stays rest.1 (with_list (More id rest.0) rest.1) (grows_list (More id rest.0) rest.1) rest.0 ids (onto_is ids p is),
    )

-- the list of these types
pub listed_is : (ids : List TypeId) (types : TypeTable) → IsList (listed ids types).1 (listed ids types).0 ids
listed_is ids types = onto_is ids (list_id_of Empty types, with_list Empty types) (list_found Empty types)
