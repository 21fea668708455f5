-- What typing notes of calls in initialisers.
--     initialised_notes, starting_notes, inline_words_notes
use Rattle.std.proofs.Common.{ℕ, Bool, true, false, ◌&&◌, List, [], ◌∷◌, ◌++◌, length, Option, Some, None, Ok, is_some, if◌then◌else◌}
use Rattle.hs_expressions.specs.Laws.{IsConstant}
use Rattle.hs_fitting.specs.Initialising.{sized_by_grows, tested_always}
use Rattle.hs_fitting.specs.Noting.{NamesAllow, Noting, Notes}
use Rattle.hs_fitting.specs.NotingSteps.{gives_notes, refuses_notes, looks_notes, of_types_notes, on_types_notes, after_notes}
use Rattle.hs_fitting.specs.NotingTyping.{valued_notes}
use Rattle.hs_fitting.specs.Rightness.{Righting, right_self, arrayed_rights, end_rights}
use Rattle.hs_aggregates.specs.Aggregates.{text_kind, fresh, reached, Reached, whole, count_begun, takes}
use Rattle.hs_initialisers.specs.Initialisers.{Filled, part_of, text_of, is_string, lone_string, scalar, excess, simple, place_beyond, placed_value, whole_at, text_filled, text_or, placed, all_placed, braced, all_of, sized_by, sized, alone, listed, initialised, assigned_start, constant_start, starting, with_parts}
use Rattle.hs_initialisers.specs.InlineWords.{inline_word, inline_in_list, inline_list, inline_words}
use Rattle.hs_operands.specs.Assignments.{assigned}
use Rattle.hs_syntax.specs.Positions.{position_of}
use Rattle.hs_syntax.specs.Trees as syntax
use Rattle.hs_syntax.specs.Trees.{Expression, Initialising, Initialisers}
use Rattle.hs_tokens.specs.declared.place.Place.{Place}
use Rattle.hs_tree.specs.declared.constant.Part.{Part}
use Rattle.hs_tree.specs.Trees as tree
use Rattle.hs_typer.specs.Declarators.{constant_of}
use Rattle.hs_typer.specs.Steps.{Step, ◌>>=◌, give, lifted, of_types, on_types}
use Rattle.hs_typer.specs.declared.type_error.TypeError.TheVariants.{Untyped}
use Rattle.hs_typer.specs.declared.typer.Typer.{Typer}
use Rattle.hs_types.specs.TypeTables.{TypeTable, row_of, arrayed}
use Rattle.hs_types.specs.declared.row.Row.{Row}
use Rattle.hs_types.specs.declared.row.Row.TheVariants as row
use Rattle.hs_types.specs.declared.row.TypeId.{TypeId}

-- with the type of the object the table stays right
sized_rights : (at : Place) (id : TypeId) (count : ℕ) (it : Option Row) (types : TypeTable) → Righting types (sized_by at id count it types)
sized_rights at id count None types = right_self types
sized_rights at id count (Some row.Void) types = right_self types
sized_rights at id count (Some (row.Integer kind)) types = right_self types
sized_rights at id count (Some (row.Pointer of)) types = right_self types
sized_rights at id count (Some (row.Enumeration number)) types = right_self types
sized_rights at id count (Some (row.Struct number)) types = right_self types
sized_rights at id count (Some (row.Array of size layout)) types = right_self types
sized_rights at id count (Some (row.OpenArray of)) types = end_rights at types (arrayed of count types) (arrayed_rights of count types)
sized_rights at id count (Some (row.Function result list)) types = right_self types

module _ (Q : ℕ → TypeId → Type 0) (final : TypeTable) where
  -- both ways of a test on what is known
  tested_notes : {A : Type 0} → (test : Typer → Bool) (here there : Step A) → Notes Q final IsConstant (λ it. Unit {0}) here
      → Notes Q final IsConstant (λ it. Unit {0}) there
      → Notes Q final IsConstant (λ it. Unit {0}) (λ s. if test s then here s else there s)
  tested_notes test here there is is' =
      record {
        always = tested_always test here there is.always is'.always;
        gives = λ s names. both_note (test s) s names;
      }
    where
      both_note : (b : Bool) (s : Typer) → NamesAllow Q s → Noting Q final (λ it. Unit {0}) s (if b then here s else there s)
      both_note true s names = is.gives s names
      both_note false s names = is'.gives s names

  -- one scalar
  scalar_notes : (it : _) (e : Expression) → Notes Q final IsConstant (λ it. Unit {0}) (scalar it e)
  scalar_notes it e =
      after_notes (valued_notes Q final e)
      (λ its. after_notes (of_types_notes (part_of it (position_of e) its)) (λ part. gives_notes (part ∷ [])))

  -- an expression with nothing left to initialise
  excess_notes : (at : Place) (e : Expression) → Notes Q final IsConstant (λ it. Unit {0}) (excess at e)
  excess_notes at e = after_notes (valued_notes Q final e) (λ its. refuses_notes (Untyped at))

  -- a scalar, or an array of characters
  simple_notes : (it : _) (e : Expression) → Notes Q final IsConstant (λ it. Unit {0}) (simple it e)
  simple_notes it e =
      tested_notes (λ s. is_string e && is_some (text_kind s.types it.type_id)) (of_types (text_of it e)) (scalar it e)
      (of_types_notes (text_of it e)) (scalar_notes it e)

  -- an expression in a list
  placed_value_notes : (at : Place) (done : List Part) (e : Expression) (to : Option Reached)
      → Notes Q final IsConstant (λ it. Unit {0}) (placed_value at done e to)
  placed_value_notes at done e None = after_notes (excess_notes at e) (λ its. gives_notes (done ++ its, []))
  placed_value_notes at done e (Some to) = after_notes (simple_notes to.0 e) (λ its. gives_notes (done ++ its, to.1))

  -- a string in braces, or what the others are
  text_or_notes : (e : Option Expression) (it : _) (done : List Part) (others : Step Filled) → Notes Q final IsConstant (λ it. Unit {0}) others
      → Notes Q final IsConstant (λ it. Unit {0}) (text_or e it done others)
  text_or_notes None it done others is = is
  text_or_notes (Some e) it done others is =
      tested_notes (λ s. is_some (text_kind s.types it.type_id)) (of_types (text_of it e) >>= (λ its. give (text_filled it.type_id done its)))
      others (after_notes (of_types_notes (text_of it e)) (λ its. gives_notes (text_filled it.type_id done its))) is

  mutual
    -- one initialiser of a list
    placed_notes : (name : Place) (done : Filled) (it : Initialising) → Notes Q final IsConstant (λ it. Unit {0}) (placed name done it)
    placed_notes name done (syntax.value e) =
        after_notes (looks_notes (λ s. Ok (place_beyond s.types name done.1 (position_of e))))
        (λ at. after_notes (looks_notes (λ s. Ok (reached s.types (is_string e) done.1))) (λ to. placed_value_notes at done.0 e to))
    placed_notes name done (syntax.list at its comma) =
        after_notes (looks_notes (λ s. whole_at (place_beyond s.types name done.1 at) (whole s.types done.1)))
        (λ to. after_notes
        (text_or_notes (lone_string its) to.0 done.0 (all_placed name (done.0, fresh to.0 ∷ []) its)
        (all_placed_notes name (done.0, fresh to.0 ∷ []) its)) (λ inner. gives_notes (inner.0, to.1)))

    -- those of a list
    all_placed_notes : (name : Place) (done : Filled) (its : Initialisers) → Notes Q final IsConstant (λ it. Unit {0}) (all_placed name done its)
    all_placed_notes name done syntax.no_initialisers = gives_notes done
    all_placed_notes name done (syntax.more_initialisers first rest) =
        after_notes (placed_notes name done first) (λ next. all_placed_notes name next rest)

  -- a list in braces
  pub braced_notes : (name : Place) (it : _) (done : List Part) (its : Initialisers)
      → Notes Q final IsConstant (λ it. Unit {0}) (braced name it done its)
  braced_notes name it done its =
      text_or_notes (lone_string its) it done (all_placed name (done, fresh it ∷ []) its) (all_placed_notes name (done, fresh it ∷ []) its)

  -- the type of the object
  sized_notes : (at : Place) (id : TypeId) (count : ℕ) → Notes Q final IsConstant (λ it. Unit {0}) (on_types (sized at id count))
  sized_notes at id count =
      on_types_notes (sized at id count) (λ types. sized_by_grows at id count (row_of types id) types)
      (λ types. sized_rights at id count (row_of types id) types)

  -- an expression alone, and a list
  pub alone_notes : (id : TypeId) (e : Expression) → Notes Q final IsConstant (λ it. Unit {0}) (alone id e)
  alone_notes id e =
      tested_notes (λ s. takes s.types (is_string e) (all_of id)) (simple (all_of id) e) (excess (position_of e) e)
      (simple_notes (all_of id) e) (excess_notes (position_of e) e)

  -- a list for the whole object
  listed_notes : (at : Place) (id : TypeId) (its : Initialisers) → Notes Q final IsConstant (λ it. Unit {0}) (listed at id its)
  listed_notes at id its =
      after_notes (braced_notes at (all_of id) [] its)
      (λ filled. after_notes (sized_notes at id (count_begun filled.1)) (λ made. gives_notes (made, filled.0)))

  -- an object of static storage duration
  pub initialised_notes : (at : Place) (id : TypeId) (it : Initialising) → Notes Q final IsConstant (λ it. Unit {0}) (initialised at id it)
  initialised_notes at id (syntax.value e) =
      after_notes (alone_notes id e) (λ its. after_notes (sized_notes at id (length its)) (λ made. gives_notes (made, its)))
  initialised_notes at id (syntax.list brace its comma) = listed_notes at id its

  -- an automatic object that an expression initialises
  assigned_start_notes : (id : TypeId) (e : Expression) → Notes Q final IsConstant (λ it. Unit {0}) (assigned_start id e)
  assigned_start_notes id e =
      after_notes (valued_notes Q final e)
      (λ its. after_notes (of_types_notes (λ types. lifted (assigned types (position_of e) id its))) (λ made. gives_notes (id, tree.value made)))

  -- and one that constants do
  constant_start_notes : (at : Place) (id : TypeId) (it : Initialising) → Notes Q final IsConstant (λ it. Unit {0}) (constant_start at id it)
  constant_start_notes at id it = after_notes (initialised_notes at id it) (λ p. gives_notes (with_parts p))

  -- an automatic object
  pub starting_notes : (at : Place) (id : TypeId) (it : Initialising) → Notes Q final IsConstant (λ it. Unit {0}) (starting at id it)
  starting_notes at id (syntax.value e) =
      tested_notes (λ s. is_string e && is_some (text_kind s.types id)) (constant_start at id (syntax.value e)) (assigned_start id e)
      (constant_start_notes at id (syntax.value e)) (assigned_start_notes id e)
  starting_notes at id (syntax.list brace its comma) = constant_start_notes at id (syntax.list brace its comma)

  -- the words of an inline trap
  inline_word_notes : (e : Expression) → Notes Q final IsConstant (λ it. Unit {0}) (inline_word e)
  inline_word_notes e =
      after_notes (valued_notes Q final e) (λ its. after_notes (of_types_notes (λ types. constant_of types its)) (λ word. gives_notes tt))

  -- one in a list
  inline_in_list_notes : (it : Initialising) → Notes Q final IsConstant (λ it. Unit {0}) (inline_in_list it)
  inline_in_list_notes (syntax.value e) = inline_word_notes e
  inline_in_list_notes (syntax.list at its comma) = refuses_notes (Untyped at)

  -- all of a list
  inline_list_notes : (its : Initialisers) → Notes Q final IsConstant (λ it. Unit {0}) (inline_list its)
  inline_list_notes syntax.no_initialisers = gives_notes tt
  inline_list_notes (syntax.more_initialisers first rest) = after_notes (inline_in_list_notes first) (λ done. inline_list_notes rest)

  -- the words after a prototype
  pub inline_words_notes : (it : Initialising) → Notes Q final IsConstant (λ it. Unit {0}) (inline_words it)
  inline_words_notes (syntax.value e) = inline_word_notes e
  inline_words_notes (syntax.list at its comma) = inline_list_notes its
