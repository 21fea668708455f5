-- The statements of a block, one on.
use Rattle.std.proofs.Common.{◌≡◌, ℕ, ◌+◌, ◌<◌, length, drop, get_or, map, List, ◌∷◌, ap, sym, ◌∙◌}
use Rattle.std.proofs.lemmas.List.{drop_more}
use Rattle.hs_syntax.specs.StatementViews.{view_labelled, statements_from}
use Rattle.hs_syntax.specs.Trees as syntax
use Rattle.hs_syntax.specs.Views.{view_label, view_statement}
use Rattle.hs_syntax.specs.declared.stmt.Labelled.{Labelled}

-- the next one with its labels
pub statements_next : (its : List Labelled) (index : ℕ) (it : Labelled) → index < length its → it ≡ get_or its index it
    → statements_from (map view_labelled (drop index its))
    ≡ syntax.more_statements (map view_label it.labels.items) (view_statement it.statement) (statements_from (map view_labelled (drop (index + 1) its)))
statements_next its index it within is =
    ap (λ rest. statements_from (map view_labelled rest)) (drop_more its index it within ∙ ap (λ next. next ∷ drop (index + 1) its) (sym is))
