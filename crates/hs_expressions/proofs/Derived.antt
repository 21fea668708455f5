-- The derivation of a function, from its parts.
use Rattle.std.proofs.Common.{◌≡◌, false, List, [], ◌∷◌, ◌++◌, Result, Ok, ap, ◌∙◌, if◌then◌else◌}
use Rattle.hs_typer.specs.Declaring.{list_of}
use Rattle.hs_expressions.specs.Expressions.{enter, leave, ending, prototype}
use Rattle.hs_typer.specs.Steps.{Step, ◌>>=◌, then_with, give}
use Rattle.hs_typer.specs.declared.declarators.Derivation.{Derivation}
use Rattle.hs_typer.specs.declared.declarators.Derivation.TheVariants as derivation
use Rattle.hs_typer.specs.declared.type_error.TypeError.{TypeError}
use Rattle.hs_typer.specs.declared.typer.Typer.{Typer}
use Rattle.hs_types.specs.declared.row.ListId.{ListId}
use Rattle.hs_types.specs.declared.row.TypeId.{TypeId}

pub function_derived : (given : Result (List Derivation × Typer) TypeError) (parameters : Step (List TypeId)) (its : List Derivation)
    (ids : List TypeId) (list : ListId) (first second third : Typer) → given ≡ Ok (its, first)
    → parameters (enter (record first { keeps = false })) ≡ Ok (ids, second)
    → list_of ids (if first.keeps then second else leave second) ≡ Ok (list, third)
    → then_with (λ its. prototype parameters >>= (λ ids. list_of ids >>= (λ list. give (its ++ derivation.Function list ∷ [])))) given
    ≡ Ok (its ++ derivation.Function list ∷ [], third)
function_derived given parameters its ids list first second third is typed made =
    ap (then_with (λ its. prototype parameters >>= (λ ids. list_of ids >>= (λ list. give (its ++ derivation.Function list ∷ []))))) is
    ∙ ap (λ answer. then_with (λ ids. list_of ids >>= (λ list. give (its ++ derivation.Function list ∷ []))) (ending first.keeps answer)) typed
    ∙ ap (then_with (λ list. give (its ++ derivation.Function list ∷ []))) made
