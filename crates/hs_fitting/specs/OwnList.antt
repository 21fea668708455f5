-- A declarator that names a function types the list of parameters of that function first, and derives it first; so that list is the one in
-- the type of the function (X3.159-1989 3.5.4.3, 3.7.1).
--     Held holds given                  what holds of an answer, if there is one
--     IsOwn holds its new, IsOfOwn holds id new      what is known after the derivations, and after the type that they make
--     item_type_owned                   the type of a declarator
use Rattle.std.proofs.Common.{◌≡◌, Bool, true, false, List, [], ◌∷◌, ◌++◌, Some, Result, Ok, Err, refl, sym, ap, subst, ◌∙◌, ◌||◌, if◌then◌else◌}
use Rattle.hs_base.specs.Options.{some_same}
use Rattle.hs_declarations.specs.Fronts.{item_type}
use Rattle.hs_expressions.specs.Binding.{IsList}
use Rattle.hs_expressions.specs.Expressions.{typed, prototype, derivations, derivations_of, parameter_types}
use Rattle.hs_expressions.specs.Laws.{IsConstant, IsScoped}
use Rattle.hs_expressions.specs.Laws.Always.{Always, Reaching, of_types_always, value_always, prototype_always}
use Rattle.hs_expressions.specs.Laws.Extending.{typed_always, parameter_types_always}
use Rattle.hs_expressions.specs.Laws.Grown.{Growing, formed_grows, listed_grows}
use Rattle.hs_expressions.specs.Laws.Leaves.{list_of_always}
use Rattle.hs_expressions.specs.Laws.Reached.{Reaches, reaches_self, reaches_then, reaches_types, scoped_after}
use Rattle.hs_expressions.specs.Operations.{value_of}
use Rattle.hs_fitting.specs.Listed.{list_stays, listed_is}
use Rattle.hs_functions.specs.Functions.{is_name, parameters_of, parameters_of_direct}
use Rattle.hs_operands.specs.Laws.Added.{row_found}
use Rattle.hs_syntax.specs.Trees as syntax
use Rattle.hs_syntax.specs.Trees.{Declared, Directly, Parameters}
use Rattle.hs_tokens.specs.declared.place.Place.{Place}
use Rattle.hs_typer.specs.Declarators.{formed, derived_from, added, is_function_row, is_array_row, length_of, listed, pointers_of, place_of}
use Rattle.hs_typer.specs.Declaring.{list_of}
use Rattle.hs_typer.specs.Steps.{Step, then_with, ◌>>=◌, give, with_types, of_types, on_types}
use Rattle.hs_typer.specs.declared.declarators.Derivation.{Derivation}
use Rattle.hs_typer.specs.declared.declarators.Derivation.TheVariants as derivation
use Rattle.hs_typer.specs.declared.type_error.TypeError.{TypeError}
use Rattle.hs_typer.specs.declared.type_error.TypeError.TheVariants.{Untyped}
use Rattle.hs_typer.specs.declared.typer.Typer.{Typer}
use Rattle.hs_types.specs.TypeTables.{TypeTable, row_of, with_row}
use Rattle.hs_types.specs.declared.row.ListId.{ListId}
use Rattle.hs_types.specs.declared.row.Row.TheVariants as row
use Rattle.hs_types.specs.declared.row.TypeId.{TypeId}

-- of an answer, if there is one
abbrev pub Held : {A : Type 0} → (A → Typer → Type 0) → Result (A × Typer) TypeError → Type 0
Held holds (Ok p) = holds p.0 p.1
Held holds (Err why) = Unit {0}

-- After the derivations of a declarator that names a function: the first is that function's, by a list of types of which something was known
-- when they were typed; after that, names are constants.
pub record IsOwn (holds : List TypeId → Typer → Type 0) (its : List Derivation) (new : Typer) : Type 0 where
  pub ids : List TypeId
  pub first : Typer
  pub held : holds ids first
  pub after : Reaches IsConstant first new
  pub list : ListId
  pub others : List Derivation
  pub are : its ≡ derivation.Function list ∷ others
  pub is : IsList new.types list ids

-- After the type that they make: if it is that of a function, it is by that list.
pub record IsOfOwn (holds : List TypeId → Typer → Type 0) (id : TypeId) (new : Typer) : Type 0 where
  pub ids : List TypeId
  pub first : Typer
  pub held : holds ids first
  pub after : Reaches IsConstant first new
  pub list : (result : TypeId) (its : ListId) → row_of new.types id ≡ Some (row.Function result its) → IsList new.types its ids

-- ---- a name types nothing

-- a declarator that is a name derives nothing
name_derives : (at : Place) (it : Directly) (s : Typer) → is_name it ≡ true → derivations_of at it s ≡ Ok ([], s)
name_derives at syntax.nothing s is = absurd cc
name_derives at (syntax.identifier word) s is = refl
name_derives at (syntax.parens_of (syntax.pointing [] direct)) s is = ap (then_with (λ its. give (its ++ []))) (name_derives at direct s is)
name_derives at (syntax.parens_of (syntax.pointing (pointer ∷ pointers) direct)) s is = absurd cc
name_derives at (syntax.array base) s is = absurd cc
name_derives at (syntax.sized_array base size) s is = absurd cc
name_derives at (syntax.function base its) s is = absurd cc
name_derives at (syntax.function_of_void base place) s is = absurd cc

-- ---- derivations after others

-- more of them, while names are constants
abbrev Adding : List Derivation → Typer → Result (List Derivation × Typer) TypeError → Type 0
Adding its s (Ok p) = Reaches IsConstant s p.1 × (rest : List Derivation) × (p.0 ≡ its ++ rest)
Adding its s (Err why) = Unit {0}

-- from every place of the text
record Adds (its : List Derivation) (step : Step (List Derivation)) : Type 0 where
  from : (s : Typer) → IsScoped s → Adding its s (step s)

-- one step after another
adding_behind : (its : List Derivation) (s mid : Typer) (given : Result (List Derivation × Typer) TypeError) → Reaches IsConstant s mid
    → Adding its mid given → Adding its s given
adding_behind its s mid (Ok p) before after = (reaches_then IsConstant s mid p.1 before after.0, after.1, after.2)
adding_behind its s mid (Err why) before after = tt

-- after a step that declares constants alone
adding_then : {A : Type 0} → (its : List Derivation) (next : A → Step (List Derivation)) (s : Typer) (given : Result (A × Typer) TypeError) → IsScoped s
    → Reaching IsConstant s given → ((it : A) → Adds its (next it)) → Adding its s (then_with next given)
adding_then its next s (Ok p) scoped before after =
    adding_behind its s p.1 (next p.0 p.1) before ((after p.0).from p.1 (scoped_after IsConstant s p.1 before scoped))
adding_then its next s (Err why) scoped before after = tt

-- the same from every place of the text
adds_then : {A : Type 0} → (its : List Derivation) (first : Step A) (next : A → Step (List Derivation)) → Always IsConstant first
    → ((it : A) → Adds its (next it)) → Adds its (first >>= next)
adds_then its first next before after = record { from = λ s scoped. adding_then its next s (first s) scoped (before.from s scoped) after }

-- and what they give
adds_given : (its rest : List Derivation) → Adds its (give (its ++ rest))
adds_given its rest = record { from = λ s scoped. (reaches_self IsConstant s, rest, refl) }

-- ---- the row of a function

-- it is by that list, if it is a function
abbrev IsOfList : List TypeId → Result (TypeId × TypeTable) TypeError → Type 0
IsOfList ids (Ok p) = (result : TypeId) (its : ListId) → row_of p.1 p.0 ≡ Some (row.Function result its) → IsList p.1 its ids
IsOfList ids (Err why) = Unit {0}

-- the list of a row
same_lists : (a b : TypeId) (list its : ListId) → Some (row.Function a list) ≡ Some (row.Function b its) → list ≡ its
same_lists a b list its same = cc

-- the row is put into the table
added_list : (of : TypeId) (list : ListId) (ids : List TypeId) (types : TypeTable) → IsList types list ids
    → IsOfList ids (added (row.Function of list) types)
added_list of list ids types is =
    λ result its found. subst (λ it. IsList (with_row (row.Function of list) types) it ids)
    (same_lists of result list its (sym (row_found (row.Function of list) types) ∙ found)) is

-- unless it is no type
derived_list : (at : Place) (of : TypeId) (list : ListId) (ids : List TypeId) (types : TypeTable) (b : Bool) → IsList types list ids
    → IsOfList ids (if b then Err (Untyped at) else added (row.Function of list) types)
derived_list at of list ids types true is = tt
derived_list at of list ids types false is = added_list of list ids types is

-- of what it gives
derived_from_list : (at : Place) (list : ListId) (ids : List TypeId) (types : TypeTable) (given : Result (TypeId × TypeTable) TypeError)
    → Growing types given → IsList types list ids → IsOfList ids (derived_from at (derivation.Function list) given)
derived_from_list at list ids types (Ok p) grows is =
    derived_list at p.0 list ids p.1 (is_function_row (row_of p.1 p.0) || is_array_row (row_of p.1 p.0)) (list_stays types p.1 grows.0 list ids is)
derived_from_list at list ids types (Err why) grows is = tt

-- the first derivation is applied last
formed_list : (at : Place) (list : ListId) (others its : List Derivation) (base : TypeId) (ids : List TypeId) (types : TypeTable)
    → its ≡ derivation.Function list ∷ others → IsList types list ids → IsOfList ids (formed at its base types)
formed_list at list others its base ids types are is =
    subst (λ all. IsOfList ids (formed at all base types)) (sym are)
    (derived_from_list at list ids types (formed at others base types) (formed_grows at others base types) is)

-- ---- derivations

-- before them: something holds of the types of the function's own parameters, after they are typed, and scopes are as they should be then
module _ (at : Place) (parameters : Parameters) (s : Typer) (holds : List TypeId → Typer → Type 0)
    (scoped : (ids : List TypeId) (n : Typer) → holds ids n → IsScoped n)
    (listed_here : Held holds (prototype (parameter_types at 0 [] parameters) s))
    (void_here : syntax.no_parameters ≡ parameters → holds [] s) where
  -- with other derivations
  own_adding : (its : List Derivation) (mid : Typer) (given : Result (List Derivation × Typer) TypeError) → IsOwn holds its mid
      → Adding its mid given → Held (IsOwn holds) given
  own_adding its mid (Ok p) own adds =
      record {
        ids = own.ids;
        first = own.first;
        held = own.held;
        after = reaches_then IsConstant own.first mid p.1 own.after adds.0;
        list = own.list;
        others = own.others ++ adds.1;
        are = adds.2 ∙ ap (λ all. all ++ adds.1) own.are;
        is = list_stays mid.types p.1.types adds.0.types own.list own.ids own.is;
      }
  own_adding its mid (Err why) own adds = tt

  -- with a step that gives others
  own_then : (next : List Derivation → Step (List Derivation)) (given : Result (List Derivation × Typer) TypeError) → Held (IsOwn holds) given
      → ((its : List Derivation) → Adds its (next its)) → Held (IsOwn holds) (then_with next given)
  own_then next (Ok p) own adds =
      own_adding p.0 p.1 (next p.0 p.1) own
      ((adds p.0).from p.1 (scoped_after IsConstant own.first p.1 own.after (scoped own.ids own.first own.held)))
  own_then next (Err why) own adds = tt

  -- the list of those types is put into the table
  own_listed : (ids : List TypeId) (n : Typer) → holds ids n
      → Held (IsOwn holds) ((list_of ids >>= (λ list. give ([] ++ derivation.Function list ∷ []))) n)
  own_listed ids n held =
      record {
        ids = ids;
        first = n;
        held = held;
        after = reaches_types IsConstant n (listed ids n.types).1 (listed_grows ids n.types);
        list = (listed ids n.types).0;
        others = [];
        are = refl;
        is = listed_is ids n.types;
      }

  -- after the types of the parameters
  own_typed : (given : Result (List TypeId × Typer) TypeError) → Held holds given
      → Held (IsOwn holds) (then_with (λ ids. list_of ids >>= (λ list. give ([] ++ derivation.Function list ∷ []))) given)
  own_typed (Ok p) held = own_listed p.0 p.1 held
  own_typed (Err why) held = tt

  -- what follows the base of a list of parameters
  function_next : Parameters → List Derivation → Step (List Derivation)
  function_next its before =
      prototype (parameter_types at 0 [] its) >>= (λ ids. list_of ids >>= (λ list. give (before ++ derivation.Function list ∷ [])))

  -- and of `(void)`
  void_next : List Derivation → Step (List Derivation)
  void_next before = list_of [] >>= (λ list. give (before ++ derivation.Function list ∷ []))

  -- another function's list
  list_adds : (before : List Derivation) (ids : List TypeId)
      → Adds before (list_of ids >>= (λ list. give (before ++ derivation.Function list ∷ [])))
  list_adds before ids =
      adds_then before (list_of ids) (λ list. give (before ++ derivation.Function list ∷ [])) (list_of_always ids)
      (λ list. adds_given before (derivation.Function list ∷ []))

  -- and its parameters
  function_adds : (its : Parameters) (before : List Derivation) → Adds before (function_next its before)
  unfolding function_next
  function_adds its before =
      adds_then before (prototype (parameter_types at 0 [] its)) (λ ids. list_of ids >>= (λ list. give (before ++ derivation.Function list ∷ [])))
      (prototype_always (parameter_types_always at 0 [] its)) (list_adds before)

  -- by what its base is: a name, or a declarator that has the list of the function
  function_own : (base : Directly) (its : Parameters) (b : Bool) → is_name base ≡ b
      → (parameters_of_direct base ≡ Some parameters → Held (IsOwn holds) (derivations_of at base s))
      → (if b then Some its else parameters_of_direct base) ≡ Some parameters → Held (IsOwn holds) (derivations_of at (syntax.function base its) s)
  unfolding function_next
  function_own base its true named inner is =
      subst (λ given. Held (IsOwn holds) (then_with (function_next its) given)) (sym (name_derives at base s named))
      (own_typed (prototype (parameter_types at 0 [] its) s)
      (subst (λ all. Held holds (prototype (parameter_types at 0 [] all) s)) (sym (some_same its parameters is)) listed_here))
  function_own base its false named inner is = own_then (function_next its) (derivations_of at base s) (inner is) (function_adds its)

  -- the same of `(void)`
  void_own : (base : Directly) (place : Place) (b : Bool) → is_name base ≡ b
      → (parameters_of_direct base ≡ Some parameters → Held (IsOwn holds) (derivations_of at base s))
      → (if b then Some syntax.no_parameters else parameters_of_direct base) ≡ Some parameters
      → Held (IsOwn holds) (derivations_of at (syntax.function_of_void base place) s)
  unfolding void_next
  void_own base place true named inner is =
      subst (λ given. Held (IsOwn holds) (then_with void_next given)) (sym (name_derives at base s named))
      (own_listed [] s (void_here (some_same syntax.no_parameters parameters is)))
  void_own base place false named inner is = own_then void_next (derivations_of at base s) (inner is) (λ before. list_adds before [])

  mutual
    -- a declarator that names a function
    derivations_own : (it : Declared) → parameters_of it ≡ Some parameters → Held (IsOwn holds) (derivations at it s)
    derivations_own (syntax.pointing pointers direct) is =
        own_then (λ its. give (its ++ pointers_of pointers)) (derivations_of at direct s) (direct_own direct is)
        (λ its. adds_given its (pointers_of pointers))

    -- after its pointers
    direct_own : (it : Directly) → parameters_of_direct it ≡ Some parameters → Held (IsOwn holds) (derivations_of at it s)
    direct_own syntax.nothing is = absurd cc
    direct_own (syntax.identifier word) is = absurd cc
    direct_own (syntax.parens_of it) is = derivations_own it is
    direct_own (syntax.array base) is =
        own_then (λ its. give (its ++ derivation.OpenArray ∷ [])) (derivations_of at base s) (direct_own base is)
        (λ its. adds_given its (derivation.OpenArray ∷ []))
    direct_own (syntax.sized_array base size) is =
        own_then
        (λ its. value_of (typed size) >>= (λ e. of_types (λ types. length_of types e) >>= (λ number. give (its ++ derivation.Array number ∷ []))))
        (derivations_of at base s) (direct_own base is)
        (λ its. adds_then its (value_of (typed size))
        (λ e. of_types (λ types. length_of types e) >>= (λ number. give (its ++ derivation.Array number ∷ []))) (value_always (typed_always size))
        (λ e. adds_then its (of_types (λ types. length_of types e)) (λ number. give (its ++ derivation.Array number ∷ []))
        (of_types_always (λ types. length_of types e)) (λ number. adds_given its (derivation.Array number ∷ []))))
    direct_own (syntax.function base its) is = function_own base its (is_name base) refl (direct_own base) is
    direct_own (syntax.function_of_void base place) is = void_own base place (is_name base) refl (direct_own base) is

  -- ---- the type

  -- that the derivations make
  formed_own : (its : List Derivation) (mid : Typer) (given : Result (TypeId × TypeTable) TypeError) → (own : IsOwn holds its mid)
      → Growing mid.types given → IsOfList own.ids given → Held (IsOfOwn holds) (with_types mid given)
  formed_own its mid (Ok p) own grows of =
      record {
        ids = own.ids;
        first = own.first;
        held = own.held;
        after = reaches_then IsConstant own.first mid (record mid { types = p.1 }) own.after (reaches_types IsConstant mid p.1 grows);
        list = of;
      }
  formed_own its mid (Err why) own grows of = tt

  -- after the derivations
  type_own : (word : Place) (base : TypeId) (given : Result (List Derivation × Typer) TypeError) → Held (IsOwn holds) given
      → Held (IsOfOwn holds) (then_with (λ its. on_types (formed word its base)) given)
  type_own word base (Ok p) own =
      formed_own p.0 p.1 (formed word p.0 base p.1.types) own (formed_grows word p.0 base p.1.types)
      (formed_list word own.list own.others p.0 base own.ids p.1.types own.are own.is)
  type_own word base (Err why) own = tt

  -- the type of a declarator that names a function with these parameters
  pub item_type_owned : (base : TypeId) (it : Declared) → parameters_of it ≡ Some parameters → Held (IsOfOwn holds) (item_type at base it s)
  item_type_owned base it is = type_own (place_of at it) base (derivations at it s) (derivations_own it is)
