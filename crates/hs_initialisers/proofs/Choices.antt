-- What an initialiser is taken for, by the tests of its type.
use Rattle.std.proofs.Common.{◌≡◌, Bool, true, false, List, [], ◌∷◌, Option, Some, Result, Ok, Err, if◌then◌else◌, subst, sym, ap}
use Rattle.std.specs.Prelude.{is_some}
use Rattle.hs_typer.specs.Steps.{Step, Refuses, Steps, ◌>>=◌, then_with, give, kept, of_types}
use Rattle.hs_typer.specs.declared.type_error.TypeError.{TypeError}
use Rattle.hs_typer.specs.declared.type_error.TypeError.TheVariants.{Untyped, Undeclared, UnknownRoutine, Clash, NoMemory}
use Rattle.hs_typer.specs.declared.typer.Typer.{Typer}
use Rattle.hs_aggregates.specs.Aggregates.{Reached, fresh, takes, reached, whole, text_kind}
use Rattle.hs_initialisers.specs.Initialisers.{Filled, all_of, alone, simple, excess, is_string, lone_string, text_or, text_of, text_filled, whole_at, place_beyond, placed, placed_value, all_placed, braced}
use Rattle.hs_aggregates.specs.declared.aggregates.Subobject.{Subobject}
use Rattle.hs_syntax.specs.Positions.{position_of}
use Rattle.hs_syntax.specs.Trees as syntax
use Rattle.hs_syntax.specs.Trees.{Expression, Initialisers}
use Rattle.hs_tokens.specs.declared.place.Place.{Place}
use Rattle.hs_tree.specs.declared.constant.Part.{Part}
use Rattle.hs_types.specs.declared.row.TypeId.{TypeId}

-- a refusal stays
refused_then : {A B : Type 0} (next : A → Step B) (given : Result (A × Typer) TypeError) (why : TypeError) → Refuses given why
    → Refuses (then_with next given) why
refused_then next given NoMemory refuses = tt
refused_then next given (Untyped at) refuses = ap (then_with next) refuses
refused_then next given (Undeclared at name) refuses = ap (then_with next) refuses
refused_then next given (UnknownRoutine at name) refuses = ap (then_with next) refuses
refused_then next given (Clash at name) refuses = ap (then_with next) refuses

-- an expression alone initialises the object
pub alone_taken : {B : Type 0} (view : B → List Part) (new s : Typer) (id : TypeId) (it : Subobject) (e : Expression) (result : Result B TypeError)
    → it ≡ all_of id → takes s.types (is_string e) (all_of id) ≡ true → Steps view new (simple it e s) result → Steps view new (alone id e s) result
alone_taken view new s id it e result whole is steps =
    subst (λ (test : Bool). Steps view new (if test then simple (all_of id) e s else excess (position_of e) e s) result) (sym is)
    (subst (λ (its : Subobject). Steps view new (simple its e s) result) whole steps)

-- or it cannot
pub alone_refused : (s : Typer) (id : TypeId) (e : Expression) (why : TypeError) → takes s.types (is_string e) (all_of id) ≡ false
    → Refuses (excess (position_of e) e s) why → Refuses (alone id e s) why
alone_refused s id e why is refuses =
    subst (λ (test : Bool). Refuses (if test then simple (all_of id) e s else excess (position_of e) e s) why) (sym is) refuses

-- a list of one string literal is a list if the object is no array of characters
pub braced_listed : {B : Type 0} (view : B → Filled) (new s : Typer) (name : Place) (it : Subobject) (done : List Part) (its : Initialisers) (e : Expression)
    (result : Result B TypeError) → lone_string its ≡ Some e → is_some (text_kind s.types it.type_id) ≡ false
    → Steps view new (all_placed name (done, fresh it ∷ []) its s) result → Steps view new (braced name it done its s) result
braced_listed view new s name it done its e result lone other steps =
    subst (λ (found : Option Expression). Steps view new (text_or found it done (all_placed name (done, fresh it ∷ []) its) s) result) (sym lone)
    (subst
    (λ (test : Bool). Steps view new
    (if test
    then (of_types (text_of it e) >>= (λ parts. give (text_filled it.type_id done parts))) s
    else all_placed name (done, fresh it ∷ []) its s) result)
    (sym other) steps)

-- an expression in a list is for what is reached
pub value_placed : {B : Type 0} (view : B → Filled) (new s : Typer) (name at : Place) (done : Filled) (e : Expression) (to : Option Reached)
    (result : Result B TypeError) → at ≡ place_beyond s.types name done.1 (position_of e) → to ≡ reached s.types (is_string e) done.1
    → Steps view new (placed_value at done.0 e to s) result → Steps view new (placed name done (syntax.value e) s) result
value_placed view new s name at done e to result place is steps =
    subst (λ (found : Option Reached). Steps view new (placed_value (place_beyond s.types name done.1 (position_of e)) done.0 e found s) result) is
    (subst (λ (place : Place). Steps view new (placed_value place done.0 e to s) result) place steps)

-- what is refused inside a list in a list is refused
pub list_refused : {B : Type 0} (view : B → Filled) (new s : Typer) (name at : Place) (its : Initialisers) (comma : Bool) (done : Filled) (to : Reached)
    (given result : Result B TypeError) (why : TypeError) → whole_at (place_beyond s.types name done.1 at) (whole s.types done.1) ≡ Ok to
    → given ≡ Err why → result ≡ Err why
    → Steps view new (braced name to.0 done.0 its s) given → Steps view new (placed name done (syntax.list at its comma) s) result
list_refused view new s name at its comma done to given result why is_at is same steps =
    let next : Filled → Step Filled = λ inner. give (inner.0, to.1) in
    subst (Steps view new (placed name done (syntax.list at its comma) s)) (sym same)
    (subst
    (λ (found : Result Reached TypeError).
    Refuses (then_with {B = Filled} (λ outer. braced name outer.0 done.0 its >>= (λ inner. give (inner.0, outer.1))) (kept s found)) why)
    (sym is_at) (refused_then next (braced name to.0 done.0 its s) why (subst (Steps view new (braced name to.0 done.0 its s)) is steps)))
