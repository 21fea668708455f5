-- The scope of the parameters of a function that is being defined: around it nothing was declared but constants and tags, and its names are
-- those of the parameters, by their places, and constants (X3.159-1989 3.1.2.1, 3.7.1).
--     IsParameterName ids it          a constant, or a parameter, whose type is that of its place
--     OpenedAs s new id               from s, that scope was opened for a function of that type
--     opened_as                       by `opened_type`
--     OpenedFor s new id its, opened_for, opens_for       the same, with as many types as parameters; and of an answer
use Rattle.std.proofs.Common.{ℕ, ◌≡◌, suc, true, false, List, [], ◌∷◌, Some, Result, Ok, Err, refl, sym, subst, if◌then◌else◌}
use Rattle.std.specs.List.{AllByRecursion}
use Rattle.hs_base.specs.Entries.{all_so}
use Rattle.hs_fitting.specs.Owning.{OwnAt, Owning, OwnTypes, parameter_types_owns}
use Rattle.hs_fitting.specs.Owned.{OwnTop, top_later}
use Rattle.hs_declarations.specs.Fronts.{item_type}
use Rattle.hs_expressions.specs.Binding.{IsList}
use Rattle.hs_expressions.specs.Expressions.{enter, leave, ending, prototype, parameter_types}
use Rattle.hs_expressions.specs.Laws.{HasMore, IsConstant, IsScoped}
use Rattle.hs_expressions.specs.Laws.Always.{Always, Anything, gives_always, prototype_always}
use Rattle.hs_expressions.specs.Laws.Reached.{Reaches, more_self, reaches_self, reaches_then, reaches_wider, scoped_after}
use Rattle.hs_fitting.specs.Moves.{any_reaches}
use Rattle.hs_fitting.specs.OwnList.{Held, IsOfOwn, item_type_owned}
pub use Rattle.hs_fitting.specs.Prototypes.{IsParameterName, AreAsMany}
use Rattle.hs_fitting.specs.Prototypes.{Lists, constant_named, parameters_listed}
use Rattle.hs_fitting.specs.Stating.{entered_scoped}
use Rattle.hs_functions.specs.Functions.{parameters_of}
use Rattle.hs_functions.specs.Opening.{opened, opened_type}
use Rattle.hs_names.specs.Scopes.{entered}
use Rattle.hs_syntax.specs.Trees as syntax
use Rattle.hs_syntax.specs.Trees.{Declared, Parameters}
use Rattle.hs_tokens.specs.declared.place.Place.{Place}
use Rattle.hs_typer.specs.Steps.{then_with, ◌>>◌, give}
use Rattle.hs_typer.specs.declared.type_error.TypeError.{TypeError}
use Rattle.hs_typer.specs.declared.typer.Typer.{Typer}
use Rattle.hs_types.specs.TypeTables.{row_of}
use Rattle.hs_types.specs.declared.row.ListId.{ListId}
use Rattle.hs_types.specs.declared.row.Row.TheVariants as row
use Rattle.hs_types.specs.declared.row.TypeId.{TypeId}

-- From s, the scope of the parameters was opened at a place around it; what is known now is inside that scope, and the type, if it is that of
-- a function, has the types of the parameters.
pub record OpenedAs (s new : Typer) (id : TypeId) : Type 0 where
  pub mid : Typer
  pub around : Reaches IsConstant s mid
  pub outer : IsScoped mid
  pub inside : Reaches Anything (enter mid) new
  pub scoped : IsScoped new
  pub ids : List TypeId
  pub names : HasMore (λ it. (it.level ≡ suc mid.names.level) × IsParameterName ids it.entity) (entered mid.names) new.names
  pub list : (result : TypeId) (its : ListId) → row_of new.types id ≡ Some (row.Function result its) → IsList new.types its ids
  pub own : (base : ℕ) → OwnAt base s → AllByRecursion (OwnTop base new.types) ids

-- with as many types as parameters
pub record OpenedFor (s new : Typer) (id : TypeId) (its : Parameters) : Type 0 where
  pub opened_scope : OpenedAs s new id
  pub many : AreAsMany opened_scope.ids its

-- of an answer, if there is one
abbrev pub OpensFor : Typer → Parameters → Result (TypeId × Typer) TypeError → Type 0
OpensFor s its (Ok p) = OpenedFor s p.1 p.0 its
OpensFor s its (Err why) = Unit {0}

-- ---- without parameters, the scope begins after the type

-- what is known after the list of no types
abbrev IsPlain : Typer → List TypeId → Typer → Type 0
IsPlain s ids n = AreAsMany ids syntax.no_parameters × Reaches IsConstant s n × IsScoped n

-- the scopes are as they should be then
plain_scoped : (s : Typer) (ids : List TypeId) (n : Typer) → IsPlain s ids n → IsScoped n
plain_scoped s ids n is = is.2

-- the list of a prototype without parameters
plain_listed : (at : Place) (s : Typer) → IsScoped s → Held (IsPlain s) (prototype (parameter_types at 0 [] syntax.no_parameters) s)
plain_listed at s scoped =
    let gives : Always IsConstant (prototype (give {A = List TypeId} [])) = prototype_always (gives_always []) in
    let new : Typer = if s.keeps then enter (record s { keeps = false }) else leave (enter (record s { keeps = false })) in
    let reached : Reaches IsConstant s new = gives.from s scoped in
    (tt, reached, scoped_after IsConstant s new reached scoped)

-- the scope begins
plain_opened : (s : Typer) (id : TypeId) (n : Typer) → IsScoped s → IsOfOwn (IsPlain s) id n → OpenedFor s (enter n) id syntax.no_parameters
plain_opened s id n scoped own =
    let around : Reaches IsConstant s n = reaches_then IsConstant s own.first n own.held.1 own.after in
    let outer : IsScoped n = scoped_after IsConstant s n around scoped in
    let scope : OpenedAs s (enter n) id =
    record {
      mid = n;
      around = around;
      outer = outer;
      inside = reaches_self Anything (enter n);
      scoped = entered_scoped n outer;
      ids = own.ids;
      names = more_self (λ it. (it.level ≡ suc n.names.level) × IsParameterName own.ids it.entity) (entered n.names);
      list = own.list;
      own = λ base is. no_types base own.ids own.held.0;
    } in
    record { opened_scope = scope; many = own.held.0 }
  where
    no_types : (base : ℕ) (ids : List TypeId) → AreAsMany ids syntax.no_parameters → AllByRecursion (OwnTop base n.types) ids
    no_types base [] many = tt
    no_types base (it ∷ ids) many = absurd many

-- of the answer
plain_opens : (s : Typer) (given : Result (TypeId × Typer) TypeError) → IsScoped s → Held (IsOfOwn (IsPlain s)) given
    → OpensFor s syntax.no_parameters (then_with (λ id. opened >> give id) given)
plain_opens s (Ok p) scoped own = plain_opened s p.0 p.1 scoped own
plain_opens s (Err why) scoped own = tt

-- ---- with parameters, their scope goes on

-- where that scope begins
abbrev here : Typer → Typer
here s = record s { keeps = false }

-- nothing is declared inside it yet
here_scoped : (s : Typer) → IsScoped s → IsScoped (here s)
here_scoped s scoped = record { names = scoped.names; tags = scoped.tags; closed = refl }

-- nothing is new there
here_around : (s : Typer) → IsScoped s → Reaches IsConstant s (here s)
here_around s scoped =
    let still : Reaches IsConstant s s = reaches_self IsConstant s in
    record {
      types = still.types;
      names = still.names;
      tags = still.tags;
      literals = still.literals;
      taken = still.taken;
      calls = still.calls;
      table = refl;
      counts = refl;
      keeps = sym scoped.closed;
      unit = refl;
      traced = still.traced;
    }

-- what is known after the types of the parameters
abbrev IsInside : Typer → Parameters → List TypeId → Typer → Type 0
IsInside s its ids n =
    AreAsMany ids its × Reaches (IsParameterName ids) (enter (here s)) n × IsScoped n
    × ((base : ℕ) → OwnAt base s → AllByRecursion (OwnTop base n.types) ids)

-- the scopes are as they should be then
inside_scoped : (s : Typer) (its : Parameters) (ids : List TypeId) (n : Typer) → IsInside s its ids n → IsScoped n
inside_scoped s its ids n is = is.2

-- of the answer of a prototype whose scope is kept
inside_held : (s : Typer) (its : Parameters) (given : Result (List TypeId × Typer) TypeError) → IsScoped s
    → ((base : ℕ) → OwnAt base s → Owning base (OwnTypes base) given) → Lists (enter (here s)) [] its given
    → Held (IsInside s its) (ending true given)
inside_held s its (Ok p) scoped own lists = (
  subst (λ ids. AreAsMany ids its) (sym lists.2) lists.3,
  lists.0,
  scoped_after (IsParameterName p.0) (enter (here s)) p.1 lists.0 (entered_scoped (here s) (here_scoped s scoped)),
  own,
)
inside_held s its (Err why) scoped own lists = tt

-- the scope goes on
inside_opened : (s : Typer) (its : Parameters) (id : TypeId) (n : Typer) → IsScoped s → IsOfOwn (IsInside s its) id n → OpenedFor s n id its
inside_opened s its id n scoped own =
    let inside : Reaches (IsParameterName own.ids) (enter (here s)) n = reaches_then (IsParameterName own.ids) (enter (here s)) own.first n own.held.1
    (reaches_wider IsConstant (IsParameterName own.ids) (constant_named own.ids) own.first n own.after) in
    let scope : OpenedAs s n id =
    record {
      mid = here s;
      around = here_around s scoped;
      outer = here_scoped s scoped;
      inside = any_reaches (IsParameterName own.ids) (enter (here s)) n inside;
      scoped = scoped_after IsConstant own.first n own.after own.held.2;
      ids = own.ids;
      names = inside.names;
      list = own.list;
      own = λ base is. all_so (OwnTop base own.first.types) (OwnTop base n.types) (top_later base own.first.types n.types own.after.types) own.ids
          (own.held.3 base is);
    } in
    record { opened_scope = scope; many = own.held.0 }

-- of the answer
inside_opens : (s : Typer) (its : Parameters) (given : Result (TypeId × Typer) TypeError) → IsScoped s → Held (IsOfOwn (IsInside s its)) given
    → OpensFor s its given
inside_opens s its (Ok p) scoped own = inside_opened s its p.0 p.1 scoped own
inside_opens s its (Err why) scoped own = tt

-- ---- the type of a function that is being defined

-- of its answer
pub opens_for : (at : Place) (base : TypeId) (it : Declared) (parameters : Parameters) → parameters_of it ≡ Some parameters → (s : Typer) → IsScoped s
    → OpensFor s parameters (opened_type at base it parameters s)
opens_for at base it syntax.no_parameters is s scoped =
    plain_opens s (item_type at base it s) scoped
    (item_type_owned at syntax.no_parameters s (IsPlain s) (plain_scoped s) (plain_listed at s scoped)
    (λ same. (tt, reaches_self IsConstant s, scoped)) base it is)
opens_for at base it (syntax.more_parameters words first rest) is s scoped =
    let its : Parameters = syntax.more_parameters words first rest in
    inside_opens s its (item_type at base it (record s { keeps = true })) scoped
    (item_type_owned at its (record s { keeps = true }) (IsInside s its) (inside_scoped s its)
    (inside_held s its (parameter_types at 0 [] its (enter (here s))) scoped
    (λ base own. parameter_types_owns base at 0 [] its (enter (here s)) (entered_scoped (here s) (here_scoped s scoped))
    (record { traced = own.traced; names = own.names; fixed = own.fixed }) tt)
    (parameters_listed at [] its (enter (here s)) (entered_scoped (here s) (here_scoped s scoped))))
    (λ same. absurd cc) base it is)

-- after the type
pub opened_for : (at : Place) (base : TypeId) (it : Declared) (parameters : Parameters) → parameters_of it ≡ Some parameters → (s new : Typer)
    (id : TypeId) → IsScoped s → opened_type at base it parameters s ≡ Ok (id, new) → OpenedFor s new id parameters
opened_for at base it parameters is s new id scoped given = subst (OpensFor s parameters) given (opens_for at base it parameters is s scoped)

-- the scope that it opens
pub opened_as : (at : Place) (base : TypeId) (it : Declared) (parameters : Parameters) → parameters_of it ≡ Some parameters → (s new : Typer)
    (id : TypeId) → IsScoped s → opened_type at base it parameters s ≡ Ok (id, new) → OpenedAs s new id
opened_as at base it parameters is s new id scoped given = (opened_for at base it parameters is s new id scoped given).opened_scope
