-- The type of a function that is defined opens the scope of its parameters, and what is known then extends what was known before it.
--     Begun s given        at some place that scope was opened
--     opened_begins        by `opened_type`
use Rattle.std.proofs.Common.{◌≡◌, Some, Result, Ok, Err}
use Rattle.hs_expressions.specs.Expressions.{enter}
use Rattle.hs_expressions.specs.Laws.{IsConstant, IsScoped}
use Rattle.hs_expressions.specs.Laws.Always.{Anything}
use Rattle.hs_expressions.specs.Laws.Reached.{Reaches}
use Rattle.hs_fitting.specs.Moves.{any_reaches}
use Rattle.hs_fitting.specs.Parameters.{OpensFor, opens_for}
use Rattle.hs_functions.specs.Functions.{parameters_of}
use Rattle.hs_functions.specs.Opening.{opened_type}
use Rattle.hs_syntax.specs.Trees.{Declared, Parameters}
use Rattle.hs_tokens.specs.declared.place.Place.{Place}
use Rattle.hs_typer.specs.declared.type_error.TypeError.{TypeError}
use Rattle.hs_typer.specs.declared.typer.Typer.{Typer}
use Rattle.hs_types.specs.declared.row.TypeId.{TypeId}

-- What is known after the answer, if it is one: at some place a scope was opened, and what is new before is around it. No scope is kept there.
abbrev pub Begun : {A : Type 0} → Typer → Result (A × Typer) TypeError → Type 0
Begun s (Ok p) = (mid : Typer) × Reaches Anything s mid × Reaches Anything (enter mid) p.1 × IsScoped mid × IsScoped p.1
Begun s (Err why) = Unit {0}

-- of its answer
begun_of : (s : Typer) (its : Parameters) (given : Result (TypeId × Typer) TypeError) → OpensFor s its given → Begun s given
begun_of s its (Ok p) opens =
    let scope = opens.opened_scope in (scope.mid, any_reaches IsConstant s scope.mid scope.around, scope.inside, scope.outer, scope.scoped)
begun_of s its (Err why) opens = tt

-- with the scope of the parameters
pub opened_begins : (at : Place) (base : TypeId) (it : Declared) (parameters : Parameters) → parameters_of it ≡ Some parameters → (s : Typer)
    → IsScoped s → Begun s (opened_type at base it parameters s)
opened_begins at base it parameters is s scoped =
    begun_of s parameters (opened_type at base it parameters s) (opens_for at base it parameters is s scoped)
