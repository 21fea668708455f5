-- The functions of all units have their parameters among their variables, which are of complete types, and give nothing or a value that can
-- be read (X3.159-1989 3.7.1).
--     AllFit m given               the functions that are given, from m
--     FunctionsFit, functions_fit  those of all units
use Rattle.std.proofs.Common.{ℕ, suc, List, [], ◌∷◌, length, IsTrue, Option, Some, None, Result, Ok, Err, refl}
use Rattle.std.specs.List.{AllByRecursion}
use Rattle.hs_base.specs.Entries.{all_appended, all_so}
use Rattle.hs_expressions.specs.Laws.{IsScoped}
use Rattle.hs_fitting.specs.Declaring.{file_declared_moved}
use Rattle.hs_fitting.specs.Defining.{FitsGiven, defined_fits, gives_stays}
use Rattle.hs_fitting.specs.Moves.{whole_stays}
use Rattle.hs_fitting.specs.Moving.{Moving, Moved, passes_moved}
use Rattle.hs_fitting.specs.Passes.{AreWhole, Passes, passes_moves, passes_self, passes_then}
use Rattle.hs_functions.specs.Functions.{defined}
use Rattle.hs_functions.specs.Units.{declared_if, place_of_declaration, external, with_function, externals, unit_ended, unit_of, units_of}
use Rattle.hs_linkage.specs.Definitions.{all_definitions}
use Rattle.hs_linkage.specs.Linkage.{unless_late, first_late, rechecked}
use Rattle.hs_linkage.specs.Works.{work_with, ◌>>◌, pass, before_units}
use Rattle.hs_linkage.specs.declared.late.Late.{Late}
use Rattle.hs_linkage.specs.declared.translator.Translator.{Translator}
use Rattle.hs_syntax.specs.Trees as syntax
use Rattle.hs_syntax.specs.Trees.{Declaration, ExternalDeclaration}
use Rattle.hs_table.specs.declared.routine.Routine.{Routine}
use Rattle.hs_tokens.specs.declared.place.Place.{Place}
use Rattle.hs_tree.specs.Fitting.{FitsDefinition}
use Rattle.hs_tree.specs.Trees.{TypedFunction}
use Rattle.hs_typer.specs.declared.type_error.TypeError.{TypeError}
use Rattle.hs_typer.specs.declared.typer.Typer.{Typer}
use Rattle.hs_types.specs.TypeTables.{TypeTable, Grows, is_complete}

-- ---- units

-- what is known of functions stays so
fits_stays : (old new : TypeTable) (it : TypedFunction) → Grows old new → FitsDefinition old it → FitsDefinition new it
fits_stays old new it grows fits = (
  fits.0,
  all_so (λ its. IsTrue (is_complete old its.type_id)) (λ its. IsTrue (is_complete new its.type_id))
      (λ its is. whole_stays old new its.type_id grows is) it.variables fits.1,
  gives_stays old new it.result grows fits.2,
)

pub all_stay : (old new : TypeTable) (its : List TypedFunction) → Grows old new → AllByRecursion (FitsDefinition old) its
    → AllByRecursion (FitsDefinition new) its
all_stay old new its grows fit = all_so (FitsDefinition old) (FitsDefinition new) (λ it fits. fits_stays old new it grows fits) its fit

-- the functions so far
abbrev pub AllFit : Translator → Result (List TypedFunction × Translator) TypeError → Type 0
AllFit m (Ok p) = Passes m p.1 × AllByRecursion (FitsDefinition p.1.typer.types) p.0
AllFit m (Err why) = Unit {0}

-- one more, if there is one
abbrev pub IfFits : Translator → Result (Option TypedFunction × Translator) TypeError → Type 0
IfFits m (Ok p) = Passes m p.1 × AllByRecursion (FitsDefinition p.1.typer.types) (with_function [] p.0)
IfFits m (Err why) = Unit {0}

some_fits : (m : Translator) (given : Result (TypedFunction × Translator) TypeError) → FitsGiven m given
    → IfFits m (work_with (λ its. pass (Some its)) given)
some_fits m (Ok p) fits = (fits.0, (fits.1, tt))
some_fits m (Err why) fits = tt

none_fits : (m : Translator) (given : Result (Unit {0} × Translator) TypeError) → AreWhole m.typer.types m.locals → Moving m given
    → IfFits m (work_with {A = Unit {0}} {B = Option TypedFunction} (λ done. pass None) given)
none_fits m (Ok p) are moves = (passes_moves m p.1 are moves, tt)
none_fits m (Err why) are moves = tt

declared_if_moved : (at : Option Place) (it : Declaration) → Moved (declared_if at it)
declared_if_moved None it = passes_moved tt
declared_if_moved (Some at) it = file_declared_moved at it

pub external_fits : (number : ℕ) (it : ExternalDeclaration) (m : Translator) → IsScoped m.typer → AreWhole m.typer.types m.locals
    → IfFits m (external number it m)
external_fits number (syntax.function_definition words it body) m scoped are =
    some_fits m (defined number words it body m) (defined_fits number words it body m scoped are)
external_fits number (syntax.declaration it) m scoped are =
    none_fits m (declared_if (place_of_declaration it) it m) are ((declared_if_moved (place_of_declaration it) it).from m scoped)

pub with_fits_more : (types : TypeTable) (done : List TypedFunction) (it : Option TypedFunction) → AllByRecursion (FitsDefinition types) done
    → AllByRecursion (FitsDefinition types) (with_function [] it) → AllByRecursion (FitsDefinition types) (with_function done it)
with_fits_more types done None fit fits = fit
with_fits_more types done (Some it) fit fits = all_appended (FitsDefinition types) done (it ∷ []) fit fits

-- from a place before them
all_behind : (first second : Translator) (given : Result (List TypedFunction × Translator) TypeError) → Passes first second → AllFit second given
    → AllFit first given
all_behind first second (Ok p) before after = (passes_then first second p.1 before after.0, after.1)
all_behind first second (Err why) before after = tt

-- one external declaration, and the others
next_fits : (done : List TypedFunction) (rest : List ExternalDeclaration) (m : Translator) (given : Result (Option TypedFunction × Translator) TypeError)
    → AllByRecursion (FitsDefinition m.typer.types) done → IfFits m given
    → ((its : List TypedFunction) (n : Translator) → IsScoped n.typer → AreWhole n.typer.types n.locals
    → AllByRecursion (FitsDefinition n.typer.types) its → AllFit n (externals its rest n))
    → AllFit m (work_with (λ next. externals (with_function done next) rest) given)
next_fits done rest m (Ok p) fit fits others =
    all_behind m p.1 (externals (with_function done p.0) rest p.1) fits.0
    (others (with_function done p.0) p.1 fits.0.scoped fits.0.whole
    (with_fits_more p.1.typer.types done p.0 (all_stay m.typer.types p.1.typer.types done fits.0.types fit) fits.1))
next_fits done rest m (Err why) fit fits others = tt

pub externals_fit : (its : List ExternalDeclaration) (done : List TypedFunction) (m : Translator) → IsScoped m.typer → AreWhole m.typer.types m.locals
    → AllByRecursion (FitsDefinition m.typer.types) done → AllFit m (externals done its m)
externals_fit [] done m scoped are fit = (passes_self m scoped are, fit)
externals_fit (it ∷ rest) done m scoped are fit =
    next_fits done rest m (external (length done) it m) fit (external_fits (length done) it m scoped are)
    (λ its n scoped are fit. externals_fit rest its n scoped are fit)

-- what typing knows when a unit ends
abbrev ended_typer : Typer → Typer
ended_typer s =
    record s {
      names = record { declarations = []; level = 0 };
      tags = record { declarations = []; level = 0 };
      origins = record s.origins { unit = suc s.origins.unit; times = [] };
    }

-- a unit ends
ended_passes : (m new : Translator) → Passes m new → Passes m (record new {
  typer = record new.typer {
    names = record { declarations = []; level = 0 };
    tags = record { declarations = []; level = 0 };
    origins = record new.typer.origins { unit = suc new.typer.origins.unit; times = [] };
    begun = [];
    tentatives = [];
  };
  links = record { declarations = []; level = 0 };
  internals = [];
})
ended_passes m new passes =
    record {
      types = passes.types;
      literals = passes.literals;
      taken = passes.taken;
      calls = passes.calls;
      table = passes.table;
      counts = passes.counts;
      scoped = record { names = tt; tags = tt; closed = passes.scoped.closed };
      definitions = passes.definitions;
      whole = passes.whole;
    }

-- which is looked at once more
late_fits : (m n : Translator) (all : List TypedFunction) (it : Option Late) → Passes m n → AllByRecursion (FitsDefinition n.typer.types) all
    → AllFit m (work_with (λ again. unit_ended >> pass all) (unless_late it n))
late_fits m n all None passes fit = (ended_passes m n passes, fit)
late_fits m n all (Some it) passes fit = tt

checked_fits : (m : Translator) (given : Result (List TypedFunction × Translator) TypeError) → AllFit m given
    → AllFit m (work_with (λ all. rechecked >> (unit_ended >> pass all)) given)
checked_fits m (Ok p) fits = late_fits m p.1 p.0 (first_late p.1) fits.0 fits.1
checked_fits m (Err why) fits = tt

pub unit_fits : (done : List TypedFunction) (its : List ExternalDeclaration) (m : Translator) → IsScoped m.typer → AreWhole m.typer.types m.locals
    → AllByRecursion (FitsDefinition m.typer.types) done → AllFit m (unit_of done its m)
unit_fits done its m scoped are fit = checked_fits m (externals done its m) (externals_fit its done m scoped are fit)

-- ---- all units

units_after : (m : Translator) (rest : List (List ExternalDeclaration)) (given : Result (List TypedFunction × Translator) TypeError) → AllFit m given
    → ((all : List TypedFunction) (n : Translator) → IsScoped n.typer → AreWhole n.typer.types n.locals
    → AllByRecursion (FitsDefinition n.typer.types) all → AllFit n (units_of all rest n))
    → AllFit m (work_with (λ all. units_of all rest) given)
units_after m rest (Ok p) fits others =
    all_behind m p.1 (units_of p.0 rest p.1) fits.0 (others p.0 p.1 fits.0.scoped fits.0.whole fits.1)
units_after m rest (Err why) fits others = tt

pub units_fit : (its : List (List ExternalDeclaration)) (done : List TypedFunction) (m : Translator) → IsScoped m.typer
    → AreWhole m.typer.types m.locals → AllByRecursion (FitsDefinition m.typer.types) done → AllFit m (units_of done its m)
units_fit [] done m scoped are fit = (passes_self m scoped are, fit)
units_fit (it ∷ rest) done m scoped are fit =
    units_after m rest (unit_of done it m) (unit_fits done it m scoped are fit) (λ all n scoped are fit. units_fit rest all n scoped are fit)

-- Each function of all units has its parameters among its variables, which are of complete types, and gives nothing or a value that can be
-- read; and types keep their numbers, and what was noted stays, from the beginning to the end.
abbrev pub FunctionsFit : Type 0
FunctionsFit = (table : List Routine) (units : List (List ExternalDeclaration))
    → AllFit (before_units table (all_definitions 0 units)) (units_of [] units (before_units table (all_definitions 0 units)))

pub functions_fit : FunctionsFit
functions_fit table units =
    units_fit units [] (before_units table (all_definitions 0 units)) (record { names = tt; tags = tt; closed = refl }) tt tt
