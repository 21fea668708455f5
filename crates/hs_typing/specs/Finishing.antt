-- What objects are at the end of all units: an array of unknown length has one element (X3.159-1989 3.7.2), and nothing else changes.
--     Adds old new                    the new table has more types, and no more bodies
--     IsSameOrOne old id types its    the type of an object at the end: as it was, or an array of one element
--     IsEnded, AreEnded               an object at the end, and all of them
--     globals_add, globals_ended      what the definition of the objects of a program gives
--     finished_types                  the types that were known keep their numbers
--     finished_objects                the objects keep their category
--     program_at_end m functions main, objects_ended     the program that the units come to
use Rattle.std.proofs.Common.{◌≡◌, ◌⊎◌, inl, inr, ℕ, zero, suc, List, [], ◌∷◌, ◌++◌, slice_get, Option, Some, None, refl, sym, ap, subst, ◌∙◌}
use Rattle.std.proofs.lemmas.List.{append_assoc, append-nil}
use Rattle.std.specs.List.{list_any}
use Rattle.std.specs.Prelude.{nat_eq}
use Rattle.hs_fitting.specs.Claims.{AreObjects, category_at, category_in}
use Rattle.hs_linkage.specs.declared.translator.StaticObject.{StaticObject}
use Rattle.hs_linkage.specs.declared.translator.Translator.{Translator}
use Rattle.hs_operands.specs.Laws.Added.{row_found}
use Rattle.hs_tree.specs.Fitting.{variable_of_global}
use Rattle.hs_tree.specs.Kinds.{Category, category_of_row, category_of}
use Rattle.hs_tree.specs.Trees.{TypedFunction, TypedProgram}
use Rattle.hs_tree.specs.declared.globals.Global.{Global}
use Rattle.hs_types.specs.Growing.{grows_self, grows_then}
use Rattle.hs_types.specs.Layouts.{array_layout}
use Rattle.hs_types.specs.TypeTables.{TypeTable, row_of, layout_of, size_of, with_row, row_of_layout, row_of_element, with_result, Grows}
use Rattle.hs_types.specs.declared.layout.Layout.{Layout}
use Rattle.hs_types.specs.declared.row.Row.{Row}
use Rattle.hs_types.specs.declared.row.Row.TheVariants as row
use Rattle.hs_types.specs.declared.row.TypeId.{TypeId}
use Rattle.hs_types.specs.TableLaws.{grows_row}
use Rattle.hs_ends.specs.Ends.{or_same, finished_row, finished_object, global_of, globals_of, sized_global, sized_globals, taken_globals}
use Rattle.hs_typing.specs.Programs.{parts_of, assembled}

-- ---- tables to which types are added

-- More types, and no more bodies, so that what is incomplete stays so.
pub record Adds (old new : TypeTable) : Type 0 where
  pub grows : Grows old new
  pub structs : new.structs ≡ old.structs
  pub enumerations : new.enumerations ≡ old.enumerations

-- none is added
pub adds_self : (types : TypeTable) → Adds types types
adds_self types = record { grows = grows_self types; structs = refl; enumerations = refl }

-- some are, and then others
pub adds_then : (first second third : TypeTable) → Adds first second → Adds second third → Adds first third
adds_then first second third before after =
    record {
      grows = grows_then first second third before.grows after.grows;
      structs = after.structs ∙ before.structs;
      enumerations = after.enumerations ∙ before.enumerations;
    }

-- one type is added
pub adds_row : (its : Row) (types : TypeTable) → Adds types (with_row its types)
adds_row its types = record { grows = grows_row its types; structs = refl; enumerations = refl }

-- ---- the type of one object

-- an array of unknown length that becomes one of one element
abbrev pub BecomesOne : TypeTable → TypeId → TypeTable → TypeId → Type 0
BecomesOne old id types its =
    (of : TypeId) × (layout : Layout) × (row_of old id ≡ Some (row.OpenArray of)) × (row_of types its ≡ Some (row.Array of 1 layout))

-- the type stays as it is, or becomes that
abbrev pub IsSameOrOne : TypeTable → TypeId → TypeTable → TypeId → Type 0
IsSameOrOne old id types its = (its ≡ id) ⊎ BecomesOne old id types its

-- with the table in which it is
pub record IsFinished (id : TypeId) (types : TypeTable) (p : TypeId × TypeTable) : Type 0 where
  pub adds : Adds types p.1
  pub its : IsSameOrOne types id p.1 p.0

module _ (id : TypeId) (types : TypeTable) where
  -- as it was
  stays_finished : IsFinished id types (id, types)
  stays_finished = record { adds = adds_self types; its = inl refl }

  -- by what one element takes
  one_finished : (of : TypeId) (given : Option Layout) → row_of types id ≡ Some (row.OpenArray of)
      → IsFinished id types (or_same id types (with_result types (row_of_layout of 1 given)))
  one_finished of None known = stays_finished
  one_finished of (Some layout) known =
      let its : Row = row.Array of 1 layout in
      record { adds = adds_row its types; its = inr (of, layout, known, row_found its types) }

  -- if it is complete
  array_finished : (of : TypeId) (given : Option Layout) → row_of types id ≡ Some (row.OpenArray of)
      → IsFinished id types (or_same id types (with_result types (row_of_element of 1 given)))
  array_finished of None known = stays_finished
  array_finished of (Some element) known = one_finished of (array_layout 1 element) known

  -- by its row
  row_finished : (given : Option Row) → row_of types id ≡ given → IsFinished id types (finished_row id given types)
  row_finished None known = stays_finished
  row_finished (Some row.Void) known = stays_finished
  row_finished (Some (row.Integer kind)) known = stays_finished
  row_finished (Some (row.Pointer of)) known = stays_finished
  row_finished (Some (row.Enumeration number)) known = stays_finished
  row_finished (Some (row.Struct number)) known = stays_finished
  row_finished (Some (row.Array of length layout)) known = stays_finished
  row_finished (Some (row.OpenArray of)) known = array_finished of (layout_of types of) known
  row_finished (Some (row.Function its list)) known = stays_finished

  -- of any object
  pub object_finished : IsFinished id types (finished_object id types)
  object_finished = row_finished (row_of types id) refl

-- ---- all objects

-- An object at the end, by the final table: it has the size of its type.
pub record IsEnded (types : TypeTable) (marks : List ℕ) (place : ℕ) (it : StaticObject) (ended : Global) : Type 0 where
  pub mark : ended.variable.taken ≡ list_any (nat_eq place) marks
  pub parts : ended.parts ≡ it.parts
  pub size : ended.size ≡ size_of types ended.variable.type_id
  pub its : IsSameOrOne types it.variable.type_id types ended.variable.type_id

-- as many objects, from that place on
abbrev pub AreEnded : TypeTable → List ℕ → ℕ → List StaticObject → List Global → Type 0
AreEnded types marks place [] [] = Unit {0}
AreEnded types marks place [] (ended ∷ rest) = ⊥
AreEnded types marks place (it ∷ its) [] = ⊥
AreEnded types marks place (it ∷ its) (ended ∷ rest) = IsEnded types marks place it ended × AreEnded types marks (suc place) its rest

-- more types are there after all objects
pub globals_add : (marks : List ℕ) (place : ℕ) (done : List Global) (its : List StaticObject) (types : TypeTable)
    → Adds types (globals_of marks place done its types).1
globals_add marks place done [] types = adds_self types
globals_add marks place done (it ∷ rest) types =
    let p : TypeId × TypeTable = finished_object it.variable.type_id types in
    let all : List Global = done ++ global_of (list_any (nat_eq place) marks) it p.0 ∷ [] in
    adds_then types p.1 (globals_of marks (suc place) all rest p.1).1 (object_finished it.variable.type_id types).adds
    (globals_add marks (suc place) all rest p.1)

module _ (types final : TypeTable) where
  -- the type of an object, in the table of the end
  finished_later : (id : TypeId) (p : TypeId × TypeTable) → Grows types final → Grows p.1 final → IsSameOrOne types id p.1 p.0
      → IsSameOrOne final id final p.0
  finished_later id p first after (inl same) = inl same
  finished_later id p first after (inr one) =
      inr
      (one.0, one.1, first.rows id.number (row.OpenArray one.0) one.2, after.rows p.0.number (row.Array one.0 1 one.1) one.3)

  -- one object
  one_ended : (marks : List ℕ) (place : ℕ) (it : StaticObject) (p : TypeId × TypeTable) → IsFinished it.variable.type_id types p → Adds p.1 final
      → IsEnded final marks place it (sized_global final (global_of (list_any (nat_eq place) marks) it p.0))
  one_ended marks place it p is after =
      record {
        mark = refl;
        parts = refl;
        size = refl;
        its = finished_later it.variable.type_id p (grows_then types p.1 final is.adds.grows after.grows) after.grows is.its;
      }

-- after those that are done come these objects, which have their sizes at the end
abbrev pub Ended : List ℕ → ℕ → List Global → List StaticObject → List Global × TypeTable → Type 0
Ended marks place done its p = (rest : List Global) × (p.0 ≡ done ++ rest) × AreEnded p.1 marks place its (sized_globals p.1 rest)

-- from that place on
pub globals_ended : (marks : List ℕ) (place : ℕ) (done : List Global) (its : List StaticObject) (types : TypeTable)
    → Ended marks place done its (globals_of marks place done its types)
globals_ended marks place done [] types = ([], sym (append-nil done), tt)
globals_ended marks place done (it ∷ rest) types =
    let p : TypeId × TypeTable = finished_object it.variable.type_id types in
    let is : IsFinished it.variable.type_id types p = object_finished it.variable.type_id types in
    let one : Global = global_of (list_any (nat_eq place) marks) it p.0 in
    let all : List Global = done ++ one ∷ [] in
    let after : Ended marks (suc place) all rest (globals_of marks (suc place) all rest p.1) = globals_ended marks (suc place) all rest p.1 in (
      one ∷ after.0,
      after.1 ∙ append_assoc done (one ∷ []) after.0,
      (one_ended types (globals_of marks (suc place) all rest p.1).1 marks place it p is (globals_add marks (suc place) all rest p.1), after.2),
    )

-- ---- the program

-- the category of an object at the end
same_category : (types : TypeTable) (id its : TypeId) → IsSameOrOne types id types its → category_of types its ≡ category_of types id
same_category types id its (inl same) = ap (category_of types) same
same_category types id its (inr one) = ap category_of_row one.3 ∙ sym (ap category_of_row one.2)

-- of the one at a place
ended_category : (types : TypeTable) (marks : List ℕ) (from : ℕ) (its : List StaticObject) (ended : List Global) (place : ℕ)
    (category : Option Category) → AreEnded types marks from its ended → category_at types (slice_get its place) ≡ Some category
    → category_in types (variable_of_global (slice_get ended place)) ≡ Some category
ended_category types marks from [] [] place category are is = absurd cc
ended_category types marks from [] (one ∷ rest) place category are is = absurd are
ended_category types marks from (it ∷ its) [] place category are is = absurd are
ended_category types marks from (it ∷ its) (one ∷ rest) zero category are is =
    ap Some (same_category types it.variable.type_id one.variable.type_id are.0.its) ∙ is
ended_category types marks from (it ∷ its) (one ∷ rest) (suc place) category are is =
    ended_category types marks (suc from) its rest place category are.1 is

module _ (m : Translator) (functions : List TypedFunction) (main : ℕ) where
  -- the program that the units come to
  abbrev pub program_at_end : TypedProgram
  program_at_end = assembled (parts_of m) functions main

  -- its objects are those of the units
  pub objects_ended : AreEnded program_at_end.types (taken_globals [] m.typer.taken) 0 m.objects program_at_end.globals
  objects_ended =
      let ended : Ended (taken_globals [] m.typer.taken) 0 [] m.objects (globals_of (taken_globals [] m.typer.taken) 0 [] m.objects m.typer.types)
      = globals_ended (taken_globals [] m.typer.taken) 0 [] m.objects m.typer.types in
      subst (λ all. AreEnded program_at_end.types (taken_globals [] m.typer.taken) 0 m.objects (sized_globals program_at_end.types all))
      (sym ended.1) ended.2

  -- The types that were known keep their numbers.
  pub finished_types : Grows m.typer.types program_at_end.types
  finished_types = (globals_add (taken_globals [] m.typer.taken) 0 [] m.objects m.typer.types).grows

  -- The objects are those of the units, and keep their category.
  pub finished_objects : AreObjects program_at_end m.objects
  finished_objects place its is =
      ended_category program_at_end.types (taken_globals [] m.typer.taken) 0 m.objects program_at_end.globals place its objects_ended is
