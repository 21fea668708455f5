-- Initialisers extend what is known, as their expressions do.
--     excess_always, simple_always                                    one expression
--     placed_always, all_placed_always, braced_always, alone_always   those of an object
--     sized_by_grows, sized_always                                    the type of the object
--     initialised_always, starting_always, inline_words_always        objects, and the words of inline traps
use Rattle.std.proofs.Common.{ℕ, Bool, true, false, ◌&&◌, List, [], ◌∷◌, ◌++◌, length, Option, Some, None, Ok, is_some, if◌then◌else◌}
use Rattle.hs_expressions.specs.Laws.{IsConstant, IsScoped}
use Rattle.hs_expressions.specs.Laws.Always.{Always, Reaching, gives_always, refuses_always, looks_always, of_types_always, on_types_always, then_always, value_always}
use Rattle.hs_expressions.specs.Laws.Extending.{typed_always}
use Rattle.hs_expressions.specs.Laws.Grown.{Growing, plain_self, arrayed_grows, end_grows}
use Rattle.hs_aggregates.specs.Aggregates.{text_kind, fresh, reached, Reached, whole, count_begun, takes}
use Rattle.hs_initialisers.specs.Initialisers.{Filled, part_of, text_of, is_string, lone_string, scalar, excess, simple, place_beyond, placed_value, whole_at, text_filled, text_or, placed, all_placed, braced, all_of, sized_by, sized, alone, listed, initialised, assigned_start, constant_start, starting, with_parts}
use Rattle.hs_initialisers.specs.InlineWords.{inline_word, inline_in_list, inline_list, inline_words}
use Rattle.hs_operands.specs.Assignments.{assigned}
use Rattle.hs_syntax.specs.Positions.{position_of}
use Rattle.hs_syntax.specs.Trees as syntax
use Rattle.hs_syntax.specs.Trees.{Expression, Initialising, Initialisers}
use Rattle.hs_tokens.specs.declared.place.Place.{Place}
use Rattle.hs_tree.specs.declared.constant.Part.{Part}
use Rattle.hs_tree.specs.Trees as tree
use Rattle.hs_typer.specs.Declarators.{constant_of}
use Rattle.hs_typer.specs.Steps.{Step, ◌>>=◌, give, look, lifted, of_types, on_types}
use Rattle.hs_typer.specs.declared.type_error.TypeError.TheVariants.{Untyped}
use Rattle.hs_typer.specs.declared.typer.Typer.{Typer}
use Rattle.hs_types.specs.TypeTables.{TypeTable, row_of, arrayed}
use Rattle.hs_types.specs.declared.row.Row.{Row}
use Rattle.hs_types.specs.declared.row.Row.TheVariants as row
use Rattle.hs_types.specs.declared.row.TypeId.{TypeId}

-- both ways of a test on what is known
pub tested_always : {A : Type 0} → (test : Typer → Bool) (here there : Step A) → Always IsConstant here → Always IsConstant there
    → Always IsConstant (λ s. if test s then here s else there s)
tested_always test here there is is' = record { from = λ s scoped. both (test s) s scoped }
  where
    both : (b : Bool) (s : Typer) → IsScoped s → Reaching IsConstant s (if b then here s else there s)
    both true s scoped = is.from s scoped
    both false s scoped = is'.from s scoped

-- one scalar
scalar_always : (it : _) (e : Expression) → Always IsConstant (scalar it e)
scalar_always it e =
    then_always (value_always (typed_always e))
    (λ its. then_always (of_types_always (part_of it (position_of e) its)) (λ part. gives_always (part ∷ [])))

pub excess_always : (at : Place) (e : Expression) → Always IsConstant (excess at e)
excess_always at e = then_always (value_always (typed_always e)) (λ its. refuses_always (Untyped at))

pub simple_always : (it : _) (e : Expression) → Always IsConstant (simple it e)
simple_always it e =
    tested_always (λ s. is_string e && is_some (text_kind s.types it.type_id)) (of_types (text_of it e)) (scalar it e)
    (of_types_always (text_of it e)) (scalar_always it e)

pub placed_value_always : (at : Place) (done : List Part) (e : Expression) (to : Option Reached) → Always IsConstant (placed_value at done e to)
placed_value_always at done e None = then_always (excess_always at e) (λ its. gives_always (done ++ its, []))
placed_value_always at done e (Some to) = then_always (simple_always to.0 e) (λ its. gives_always (done ++ its, to.1))

pub text_or_always : (e : Option Expression) (it : _) (done : List Part) (others : Step Filled) → Always IsConstant others
    → Always IsConstant (text_or e it done others)
text_or_always None it done others is = is
text_or_always (Some e) it done others is =
    tested_always (λ s. is_some (text_kind s.types it.type_id)) (of_types (text_of it e) >>= (λ its. give (text_filled it.type_id done its))) others
    (then_always (of_types_always (text_of it e)) (λ its. gives_always (text_filled it.type_id done its))) is

-- for what it reaches
pub value_reached_always : (at : Place) (done : Filled) (e : Expression)
    → Always IsConstant (look (λ s. Ok (reached s.types (is_string e) done.1)) >>= placed_value at done.0 e)
value_reached_always at done e =
    then_always (looks_always (λ s. Ok (reached s.types (is_string e) done.1))) (λ to. placed_value_always at done.0 e to)

mutual
  -- one initialiser of a list
  pub placed_always : (name : Place) (done : Filled) (it : Initialising) → Always IsConstant (placed name done it)
  placed_always name done (syntax.value e) =
      then_always (looks_always (λ s. Ok (place_beyond s.types name done.1 (position_of e)))) (λ at. value_reached_always at done e)
  placed_always name done (syntax.list at its comma) =
      then_always (looks_always (λ s. whole_at (place_beyond s.types name done.1 at) (whole s.types done.1)))
      (λ to. then_always
      (text_or_always (lone_string its) to.0 done.0 (all_placed name (done.0, fresh to.0 ∷ []) its)
      (all_placed_always name (done.0, fresh to.0 ∷ []) its)) (λ inner. gives_always (inner.0, to.1)))

  -- those of a list
  pub all_placed_always : (name : Place) (done : Filled) (its : Initialisers) → Always IsConstant (all_placed name done its)
  all_placed_always name done syntax.no_initialisers = gives_always done
  all_placed_always name done (syntax.more_initialisers first rest) =
      then_always (placed_always name done first) (λ next. all_placed_always name next rest)

pub braced_always : (name : Place) (it : _) (done : List Part) (its : Initialisers) → Always IsConstant (braced name it done its)
braced_always name it done its =
    text_or_always (lone_string its) it done (all_placed name (done, fresh it ∷ []) its) (all_placed_always name (done, fresh it ∷ []) its)

-- the type of the object
pub sized_by_grows : (at : Place) (id : TypeId) (count : ℕ) (it : Option Row) (types : TypeTable) → Growing types (sized_by at id count it types)
sized_by_grows at id count None types = plain_self types
sized_by_grows at id count (Some row.Void) types = plain_self types
sized_by_grows at id count (Some (row.Integer kind)) types = plain_self types
sized_by_grows at id count (Some (row.Pointer of)) types = plain_self types
sized_by_grows at id count (Some (row.Enumeration number)) types = plain_self types
sized_by_grows at id count (Some (row.Struct number)) types = plain_self types
sized_by_grows at id count (Some (row.Array of size layout)) types = plain_self types
sized_by_grows at id count (Some (row.OpenArray of)) types = end_grows at types (arrayed of count types) (arrayed_grows of count types)
sized_by_grows at id count (Some (row.Function result list)) types = plain_self types

pub sized_always : (at : Place) (id : TypeId) (count : ℕ) → Always IsConstant (on_types (sized at id count))
sized_always at id count = on_types_always (sized at id count) (λ types. sized_by_grows at id count (row_of types id) types)

pub alone_always : (id : TypeId) (e : Expression) → Always IsConstant (alone id e)
alone_always id e =
    tested_always (λ s. takes s.types (is_string e) (all_of id)) (simple (all_of id) e) (excess (position_of e) e)
    (simple_always (all_of id) e) (excess_always (position_of e) e)

listed_always : (at : Place) (id : TypeId) (its : Initialisers) → Always IsConstant (listed at id its)
listed_always at id its =
    then_always (braced_always at (all_of id) [] its)
    (λ filled. then_always (sized_always at id (count_begun filled.1)) (λ made. gives_always (made, filled.0)))

-- an object of static storage duration
pub initialised_always : (at : Place) (id : TypeId) (it : Initialising) → Always IsConstant (initialised at id it)
initialised_always at id (syntax.value e) =
    then_always (alone_always id e) (λ its. then_always (sized_always at id (length its)) (λ made. gives_always (made, its)))
initialised_always at id (syntax.list brace its comma) = listed_always at id its

assigned_start_always : (id : TypeId) (e : Expression) → Always IsConstant (assigned_start id e)
assigned_start_always id e =
    then_always (value_always (typed_always e))
    (λ its. then_always (of_types_always (λ types. lifted (assigned types (position_of e) id its))) (λ made. gives_always (id, tree.value made)))

constant_start_always : (at : Place) (id : TypeId) (it : Initialising) → Always IsConstant (constant_start at id it)
constant_start_always at id it = then_always (initialised_always at id it) (λ p. gives_always (with_parts p))

-- an automatic object
pub starting_always : (at : Place) (id : TypeId) (it : Initialising) → Always IsConstant (starting at id it)
starting_always at id (syntax.value e) =
    tested_always (λ s. is_string e && is_some (text_kind s.types id)) (constant_start at id (syntax.value e)) (assigned_start id e)
    (constant_start_always at id (syntax.value e)) (assigned_start_always id e)
starting_always at id (syntax.list brace its comma) = constant_start_always at id (syntax.list brace its comma)

-- the words of an inline trap
inline_word_always : (e : Expression) → Always IsConstant (inline_word e)
inline_word_always e =
    then_always (value_always (typed_always e)) (λ its. then_always (of_types_always (λ types. constant_of types its)) (λ word. gives_always tt))

inline_in_list_always : (it : Initialising) → Always IsConstant (inline_in_list it)
inline_in_list_always (syntax.value e) = inline_word_always e
inline_in_list_always (syntax.list at its comma) = refuses_always (Untyped at)

inline_list_always : (its : Initialisers) → Always IsConstant (inline_list its)
inline_list_always syntax.no_initialisers = gives_always tt
inline_list_always (syntax.more_initialisers first rest) = then_always (inline_in_list_always first) (λ done. inline_list_always rest)

pub inline_words_always : (it : Initialising) → Always IsConstant (inline_words it)
inline_words_always (syntax.value e) = inline_word_always e
inline_words_always (syntax.list at its comma) = inline_list_always its
